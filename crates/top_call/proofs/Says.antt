-- From pieces that are written one after another to the whole.
use Rattle.std.proofs.Common.{◌≡◌, ℕ, ◌+◌, ◌<◌, ◌≤◌, get_or, List, [], ◌++◌, drop, length, append-nil, append_assoc, Option, Some, None, option_map, refl, sym, ◌∙◌, ap, subst}
use Rattle.std.proofs.lemmas.List.{at_drop_more, at_drop_all}
use Rattle.std.specs.List.{flat_map}
use Rattle.std.specs.Prelude.{OnErr, Result, Ok, Err}
use Rattle.edge_core.specs.declared.world.EdgeError.{EdgeError}
use Rattle.edge_core.specs.World.{Gets, GetsPart}

-- a stream got the beginning of the whole, up to what is left
pub record GetsTo (whole left : List ℕ) (old new : Option (List ℕ)) : Type 0 where
  pub done : List ℕ
  pub split : whole ≡ done ++ left
  pub gets : Gets done old new

pub gets-none : (x : Option (List ℕ)) → Gets [] x x
gets-none None = refl
gets-none (Some s) = ap (λ t. Some t) (sym (append-nil s))

pub gets-more : (a b : List ℕ) (x y z : Option (List ℕ)) → Gets a x y → Gets b y z → Gets (a ++ b) x z
gets-more a b None y z g h = h ∙ ap (λ o. option_map (λ bytes. bytes ++ b) o) g
gets-more a b (Some s) y z g h = h ∙ ap (λ o. option_map (λ bytes. bytes ++ b) o) g ∙ ap (λ t. Some t) (append_assoc s a b)

pub goes-on : (whole p left : List ℕ) (x y z : Option (List ℕ)) → GetsTo whole (p ++ left) x y → Gets p y z → GetsTo whole left x z
goes-on whole p left x y z so h = record {
  done = so.done ++ p;
  split = so.split ∙ sym (append_assoc so.done p left);
  gets = gets-more so.done p x y z so.gets h;
}

pub breaks-off : (whole p left : List ℕ) (x y z : Option (List ℕ)) → GetsTo whole (p ++ left) x y → GetsPart p y z → GetsPart whole x z
breaks-off whole p left x y z so h = record {
  part = so.done ++ h.part;
  rest = h.rest ++ left;
  whole = so.split ∙ ap (λ q. so.done ++ (q ++ left)) h.whole ∙ ap (λ q. so.done ++ q) (append_assoc h.part h.rest left)
      ∙ sym (append_assoc so.done h.part (h.rest ++ left));
  gets = gets-more so.done h.part x y z so.gets h.gets;
}

-- a piece in front of those behind it
at-piece : {X : Type 0} (f : X → List ℕ) (xs : List X) (k : ℕ) (d : X) (tail : List ℕ) → k < length xs
    → flat_map f (drop k xs) ++ tail ≡ f (get_or xs k d) ++ (flat_map f (drop (k + 1) xs) ++ tail)
at-piece f xs k d tail h =
    ap (λ ys. ys ++ tail) (at_drop_more (flat_map f) xs k d h) ∙ append_assoc (f (get_or xs k d)) (flat_map f (drop (k + 1) xs)) tail

module _ {X : Type 0} (f : X → List ℕ) (xs : List X) (k : ℕ) (d : X) (tail : List ℕ) (h : k < length xs) (x y z : Option (List ℕ)) (piece : List ℕ)
    (is : piece ≡ f (get_or xs k d)) (so : GetsTo (flat_map f xs ++ tail) (flat_map f (drop k xs) ++ tail) x y) where
  there : GetsTo (flat_map f xs ++ tail) (f (get_or xs k d) ++ (flat_map f (drop (k + 1) xs) ++ tail)) x y
  there = subst (λ left. GetsTo (flat_map f xs ++ tail) left x y) (at-piece f xs k d tail h) so

  pub says-on : Gets piece y z → GetsTo (flat_map f xs ++ tail) (flat_map f (drop (k + 1) xs) ++ tail) x z
  says-on gets = goes-on (flat_map f xs ++ tail) (f (get_or xs k d)) (flat_map f (drop (k + 1) xs) ++ tail) x y z there (subst (λ p. Gets p y z) is gets)

  pub says-part : GetsPart piece y z → GetsPart (flat_map f xs ++ tail) x z
  says-part part =
      breaks-off (flat_map f xs ++ tail) (f (get_or xs k d)) (flat_map f (drop (k + 1) xs) ++ tail) x y z there (subst (λ p. GetsPart p y z) is part)

-- the end of the line, or a part of it
pub says-end_part : {X : Type 0} (f : X → List ℕ) (xs : List X) (k : ℕ) (tail : List ℕ) → length xs ≤ k → (x y z : Option (List ℕ)) (r : Result (Unit {0}) EdgeError)
    → GetsTo (flat_map f xs ++ tail) (flat_map f (drop k xs) ++ tail) x y → OnErr r (GetsPart tail y z)
    → OnErr r (GetsPart (flat_map f xs ++ tail) x z)
says-end_part f xs k tail h x y z (Ok u) so part = tt
says-end_part f xs k tail h x y z (Err e) so part =
    let whole = flat_map f xs ++ tail in
    let none : flat_map f (drop k xs) ++ tail ≡ tail ++ [] = ap (λ ys. ys ++ tail) (at_drop_all (flat_map f) xs k h) ∙ sym (append-nil tail) in
    breaks-off whole tail [] x y z (subst (λ left. GetsTo whole left x y) none so) part

-- a fact that holds, holds of an error
pub on_err : {T E : Type 0} (r : Result T E) (P : Type 0) → P → OnErr r P
on_err (Ok value) P fact = tt
on_err (Err e) P fact = fact

-- What writes of a link come to, one after another.
use Rattle.std.proofs.lemmas.List.{take-append-drop}
use Rattle.std.proofs.Math.Seq.{take-add}
use Rattle.std.proofs.Common.{◌+◌, ◌-◌, ◌<◌, ◌≤◌, take, drop, length-drop, arith, ◌≡◌, ℕ, List, [], ◌++◌, length, append_assoc, append-nil, true, Option, Some, None, Result, Ok, Err, refl, sym, ◌∙◌, ap, subst}
use Rattle.std.specs.Option.{is_some, IfSome}
use Rattle.std.specs.Result.{OnErr}
use Rattle.edge_core.specs.Door.{Link, Links, BothTold, Writes}
use Rattle.link_core.specs.Exchange.{TakesPart}
use Rattle.link_core.proofs.Told.{both-then}

-- where links are told, one of them is open
abbrev pub IsOpen : Option Links → Type 0
IsOpen told = IfSome told (λ links. true ≡ is_some links.current)

-- the open link
pub current_of : (links : Links) → true ≡ is_some links.current → (link : Link) × (links.current ≡ Some link)
current_of links e = elim links.current as (λ o. true ≡ is_some o → (link : Link) × (o ≡ Some link)) [ None ↦ λ d. cc | Some link ↦ λ d. (link, refl) ] e

-- an open link goes on as it is left
pub same_link : (old new : Links) (l m : Link) → new ≡ record old { current = Some l } → new.current ≡ Some m → l ≡ m
same_link old new l m after before =
    let e : Some l ≡ Some m = sym (ap (λ (links : Links). links.current) after) ∙ before in
    cc

pub takes-none : (a : Option Links) → IsOpen a → BothTold (Writes []) a a
takes-none None e = tt
takes-none (Some links) e =
    let open_link : (link : Link) × (links.current ≡ Some link) = current_of links e in
    record {
      left = open_link.0.left;
      written = open_link.0.written;
      before = open_link.1;
      after = ap (λ o. record links { current = o }) open_link.1
          ∙ ap (λ xs. record links { current = Some (record { left = open_link.0.left; written = xs }) }) (sym (append-nil open_link.0.written));
    }

takes_write : (old mid new : Links) (p q : List ℕ) → Writes p old mid → Writes q mid new → Writes (p ++ q) old new
takes_write old mid new p q x y =
    let same : record { left = x.left; written = x.written ++ p } ≡ record { left = y.left; written = y.written } = same_link old mid _ _ x.after y.before in
    let lefts : x.left ≡ y.left = ap (λ (l : Link). l.left) same in
    let texts : x.written ++ p ≡ y.written = ap (λ (l : Link). l.written) same in
    record {
      left = x.left;
      written = x.written;
      before = x.before;
      after = y.after ∙ ap (λ (links : Links). record links { current = Some (record { left = y.left; written = y.written ++ q }) }) x.after
          ∙ ap (λ (xs : List ℕ). record old { current = Some (record { left = xs; written = y.written ++ q }) }) (sym lefts)
          ∙ ap (λ (xs : List ℕ). record old { current = Some (record { left = x.left; written = xs ++ q }) }) (sym texts)
          ∙ ap (λ (xs : List ℕ). record old { current = Some (record { left = x.left; written = xs }) }) (append_assoc x.written p q);
    }

-- the first m are the first f, and then those up to m
front : (f m : ℕ) (xs : List ℕ) → f ≤ m → take f xs ++ take (m - f) (drop f xs) ≡ take m xs
front f m xs h =
    let e : f + (m - f) ≡ m = omega arith in
    sym (take-add f (m - f) xs) ∙ ap (λ n. take n xs) e

-- what is written after one more write
pub write_on : (a b c : Option Links) (f m : ℕ) (xs : List ℕ) → f ≤ m
    → BothTold (Writes (take f xs)) a b → BothTold (Writes (take (m - f) (drop f xs))) b c → BothTold (Writes (take m xs)) a c
write_on a b c f m xs h x y =
    let p = take f xs in
    let q = take (m - f) (drop f xs) in
    subst (λ zs. BothTold (Writes zs) a c) (front f m xs h)
    (both-then (Writes p) (Writes q) (Writes (p ++ q)) (λ r s t. takes_write r s t p q) a b c x y)

pub write_part : (a b c : Option Links) (f : ℕ) (xs : List ℕ) → f < length xs → c ≡ b → BothTold (Writes (take f xs)) a b
    → TakesPart xs (record { before = a; after = c })
write_part a b c f xs h same x = record {
  part = take f xs;
  rest = drop f xs;
  whole = sym (take-append-drop f xs);
  lacks = omega (arith, h, length-drop f xs);
  takes = subst (λ d. BothTold (Writes (take f xs)) a d) (sym same) x;
}

-- what holds anyway holds at an error
pub on_err : {T E : Type 0} (r : Result T E) (P : Type 0) → P → OnErr r P
on_err (Ok x) P p = tt
on_err (Err e) P p = p

-- What is told equal is equal.
use Rattle.std.proofs.Common.{◌≡◌, ℕ, Bool, true, false, ◌&&◌, refl, ap}
use Rattle.std.specs.Str.{bytes_eq}
use Rattle.std.proofs.lemmas.Bool.Decides.{Decides-int_eq, Decides-eqb}
use Rattle.std.proofs.lemmas.Slice.Eq.{bytes_eq-Decides}
use Rattle.snap_core.specs.Value.{Value, null, boolean, integer, text, list, dict, no_parts, part, no_members, member, Items, Fields}
use Rattle.edit_core.specs.declared.kind.Kind.{Kind}
use Rattle.edit_core.specs.declared.kind.Kind.TheVariants.{Model, Array, Map}
use Rattle.edit_core.specs.Labelled.{Label}
use Rattle.edit_core.specs.Comparing.{same_truth, is_equal, are_equal, have_equal, same_kind, same_label}

pub and-left : (a b : Bool) → (a && b) ≡ true → a ≡ true
and-left true b h = refl
and-left false b h = cc

pub and-right : (a b : Bool) → (a && b) ≡ true → b ≡ true
and-right true b h = h
and-right false b h = cc

truth-same : (a b : Bool) → same_truth a b ≡ true → a ≡ b
truth-same true true h = refl
truth-same true false h = cc
truth-same false true h = cc
truth-same false false h = refl

mutual
  pub equal-is : (v w : Value) → is_equal v w ≡ true → v ≡ w
  equal-is null null h = refl
  equal-is (boolean a) (boolean b) h = ap boolean (truth-same a b h)
  equal-is (integer y) (integer z) h = ap integer ((Decides-int_eq y z).0 h)
  equal-is (text s) (text u) h = ap text ((bytes_eq-Decides s u).0 h)
  equal-is (list a ps) (list b qs) h = ap (list tt) (equal-items ps qs h)
  equal-is (dict a ms) (dict b ns) h = ap (dict tt) (equal-fields ms ns h)
  equal-is _ _ h = cc

  pub equal-items : (ps qs : Items) → are_equal ps qs ≡ true → ps ≡ qs
  equal-items no_parts no_parts h = refl
  equal-items (part v ps) (part w qs) h =
      let e : v ≡ w = equal-is v w (and-left (is_equal v w) (are_equal ps qs) h) in
      let es : ps ≡ qs = equal-items ps qs (and-right (is_equal v w) (are_equal ps qs) h) in
      cc
  equal-items _ _ h = cc

  pub equal-fields : (ms ns : Fields) → have_equal ms ns ≡ true → ms ≡ ns
  equal-fields no_members no_members h = refl
  equal-fields (member k v ms) (member l w ns) h =
      let front : (bytes_eq k l && is_equal v w) ≡ true = and-left (bytes_eq k l && is_equal v w) (have_equal ms ns) h in
      let key : k ≡ l = (bytes_eq-Decides k l).0 (and-left (bytes_eq k l) (is_equal v w) front) in
      let e : v ≡ w = equal-is v w (and-right (bytes_eq k l) (is_equal v w) front) in
      let es : ms ≡ ns = equal-fields ms ns (and-right (bytes_eq k l && is_equal v w) (have_equal ms ns) h) in
      cc
  equal-fields _ _ h = cc

pub kind-is : (l k : Kind) → same_kind l k ≡ true → l ≡ k
kind-is (Model m) (Model n) h = let e : m.0 ≡ n.0 = (Decides-eqb m.0 n.0).0 h in let f : ℕ → Kind = λ x. Model (record { 0 = x }) in ap f e
kind-is (Array t) (Array u) h = let e : t.0 ≡ u.0 = (Decides-eqb t.0 u.0).0 h in let f : ℕ → Kind = λ x. Array (record { 0 = x }) in ap f e
kind-is (Map t) (Map u) h = let e : t.0 ≡ u.0 = (Decides-eqb t.0 u.0).0 h in let f : ℕ → Kind = λ x. Map (record { 0 = x }) in ap f e
kind-is _ _ h = cc

pub label-is : (l k : Label) → same_label l k ≡ true → l ≡ k
label-is l k h =
    let n : l.number ≡ k.number = (Decides-eqb l.number k.number).0 (and-left _ (same_kind l.kind k.kind) h) in
    let e : l.kind ≡ k.kind = kind-is l.kind k.kind (and-right _ (same_kind l.kind k.kind) h) in
    λ i. record { number = n i; kind = e i }

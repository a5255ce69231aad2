-- Members of a union, and models, that are told apart one after another, from the last to the first.
use Rattle.std.proofs.Common.{◌≡◌, List, [], ◌∷◌, ◌++◌, map, length, Bool, true, false, ◌&&◌, not, Option, Some, None, append-nil, append_assoc, refl, sym, ap, ◌∙◌, arith}
use Rattle.std.specs.List.{list_any}
use Rattle.snap_core.specs.Value.{Value}
use Rattle.snap_core.specs.declared.number.TypeNo.{TypeNo}
use Rattle.type_table.specs.declared.taken.Taken.{Taken}
use Rattle.type_table.specs.declared.scalar_set.ScalarSet.{ScalarSet}
use Rattle.type_table.specs.ScalarSets.{has}
use Rattle.type_table.specs.Unions.{Scalars, do_meet, none_meet, is_literal, all_differ}
use Rattle.type_table.specs.Taking.{AreTaken}
use Rattle.type_table.specs.Literals.{AreLiterals, AddsLiteral}

and-false : (b : Bool) → (b && false) ≡ false
and-false true = refl
and-false false = refl

-- where some of those after them meet, some of all do
none_meet-after : (front back : List Scalars) → none_meet back ≡ false → none_meet (front ++ back) ≡ false
none_meet-after [] back h = h
none_meet-after (s ∷ front) back h = rw (none_meet-after front back h) (and-false (not (list_any (do_meet s) (front ++ back))))

all_differ-after : (front back : List (Option Value)) → all_differ back ≡ false → all_differ (front ++ back) ≡ false
all_differ-after [] back h = h
all_differ-after (None ∷ front) back h = refl
all_differ-after (Some v ∷ front) back h = rw (all_differ-after front back h) (and-false (not (list_any (is_literal v) (front ++ back))))

map-append : {X Y : Type 0} (f : X → Y) (xs ys : List X) → map f (xs ++ ys) ≡ map f xs ++ map f ys
map-append f [] ys = refl
map-append f (x ∷ xs) ys = ap (λ zs. f x ∷ zs) (map-append f xs ys)

-- members passed by from the last on: none of their scalars is taken by two, and what they take is known
pub record ArePassed (scalars : TypeNo → Scalars) (members rest : List TypeNo) (taken : Taken) : Type 0 where
  pub passed : List TypeNo
  pub parts : members ≡ rest ++ passed
  pub known : AreTaken taken (map scalars passed)
  pub apart : none_meet (map scalars passed) ≡ true

module _ (scalars : TypeNo → Scalars) (members : List TypeNo) where
  pub ArePassed-none : (taken : Taken) → AreTaken taken [] → ArePassed scalars members members taken
  ArePassed-none taken h = record { passed = []; parts = sym (append-nil members); known = h; apart = refl }

  module _ (rest : List TypeNo) (t : TypeNo) (before : List TypeNo) (last : rest ≡ before ++ t ∷ []) where
    parts-more : (passed : List TypeNo) → members ≡ rest ++ passed → members ≡ before ++ t ∷ passed
    parts-more passed h = h ∙ ap (λ ts. ts ++ passed) last ∙ append_assoc before (t ∷ []) passed

    pub ArePassed-more : (taken new : Taken) → (p : ArePassed scalars members rest taken) → list_any (do_meet (scalars t)) (map scalars p.passed) ≡ false
        → AreTaken new (scalars t ∷ map scalars p.passed) → ArePassed scalars members before new
    ArePassed-more taken new p none h = record {
      passed = t ∷ p.passed;
      parts = parts-more p.passed p.parts;
      known = h;
      apart = rw (none, p.apart);
    }

    pub meets-passed : (taken : Taken) → (p : ArePassed scalars members rest taken) → list_any (do_meet (scalars t)) (map scalars p.passed) ≡ true
        → false ≡ none_meet (map scalars members)
    meets-passed taken p some =
        let back : none_meet (map scalars (t ∷ p.passed)) ≡ false = rw some in
        sym (ap (λ ts. none_meet (map scalars ts)) (parts-more p.passed p.parts) ∙ ap none_meet (map-append scalars before (t ∷ p.passed))
        ∙ none_meet-after (map scalars before) (map scalars (t ∷ p.passed)) back)

  pub ArePassed-all : (rest : List TypeNo) (taken : Taken) → ArePassed scalars members rest taken → length rest ≡ 0 → true ≡ none_meet (map scalars members)
  ArePassed-all [] taken p none = sym (ap (λ ts. none_meet (map scalars ts)) p.parts ∙ p.apart)
  ArePassed-all (t ∷ ts) taken p none = absurd (omega arith)

-- models passed by from the last on: their literals differ, and the set has them
pub record AreTold {M : Type 0} (literal : M → Option Value) (models rest : List M) (literals : ScalarSet) : Type 0 where
  pub passed : List M
  pub parts : models ≡ rest ++ passed
  pub known : AreLiterals literals (map literal passed)
  pub differ : all_differ (map literal passed) ≡ true

module _ {M : Type 0} (literal : M → Option Value) (models : List M) where
  pub AreTold-none : (literals : ScalarSet) → AreLiterals literals [] → AreTold literal models models literals
  AreTold-none literals h = record { passed = []; parts = sym (append-nil models); known = h; differ = refl }

  module _ (rest : List M) (m : M) (before : List M) (last : rest ≡ before ++ m ∷ []) where
    told-more : (passed : List M) → models ≡ rest ++ passed → models ≡ before ++ m ∷ passed
    told-more passed h = h ∙ ap (λ ts. ts ++ passed) last ∙ append_assoc before (m ∷ []) passed

    pub AreTold-more : (literals new : ScalarSet) → (p : AreTold literal models rest literals) → AddsLiteral true new (literal m) (map literal p.passed)
        → AreTold literal models before new
    AreTold-more literals new p h = record {
      passed = m ∷ p.passed;
      parts = told-more p.passed p.parts;
      known = h.set;
      differ = h.differ p.differ;
    }

    pub same-passed : (literals new : ScalarSet) → (p : AreTold literal models rest literals) → AddsLiteral false new (literal m) (map literal p.passed)
        → false ≡ all_differ (map literal models)
    same-passed literals new p h =
        sym (ap (λ ts. all_differ (map literal ts)) (told-more p.passed p.parts) ∙ ap all_differ (map-append literal before (m ∷ p.passed))
        ∙ all_differ-after (map literal before) (map literal (m ∷ p.passed)) (h.differ p.differ))

  pub AreTold-all : (rest : List M) (literals : ScalarSet) → AreTold literal models rest literals → length rest ≡ 0 → true ≡ all_differ (map literal models)
  AreTold-all [] literals p none = sym (ap (λ ts. all_differ (map literal ts)) p.parts ∙ p.differ)
  AreTold-all (m ∷ ms) literals p none = absurd (omega arith)

-- a literal that isn't there, and one that is
pub AddsLiteral-new : (old new : ScalarSet) (l : Value) (others : List (Option Value)) → AreLiterals old others → has old l ≡ false
    → AreLiterals new (Some l ∷ others) → AddsLiteral true new (Some l) others
AddsLiteral-new old new l others known none h = record { differ = λ e. rw (sym (known l) ∙ none, e); set = h }

pub AddsLiteral-old : (old new : ScalarSet) (l : Value) (others : List (Option Value)) → AreLiterals old others → has old l ≡ true
    → AddsLiteral false new (Some l) others
AddsLiteral-old old new l others known some = record { differ = λ e. rw (sym (known l) ∙ some); set = tt }

pub AddsLiteral-none : (new : ScalarSet) (others : List (Option Value)) → AddsLiteral false new None others
AddsLiteral-none new others = record { differ = λ e. refl; set = tt }

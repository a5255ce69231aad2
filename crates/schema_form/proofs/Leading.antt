-- Paths that lead further, and numbered expressions in two parts.
use Rattle.std.proofs.Common.{◌≡◌, ℕ, ◌+◌, List, [], ◌∷◌, ◌++◌, length, Bool, Some, None, codes, decimal, if◌then◌else◌, refl, ap, subst, arith}
use Rattle.std.proofs.lemmas.Fmt.{decimal-digits_value}
use Rattle.std.proofs.lemmas.Slice.Eq.{bytes_eq-Decides}
use Rattle.snap_core.specs.Value.{Value, list, dict, part, no_members, member, value_at, Items, Fields}
use Rattle.snap_core.specs.Level.{at_index, at_key, item_at}
use Rattle.pointer_core.specs.Path.{Path}
use Rattle.pointer_core.proofs.Indices.{digits}
use Rattle.schema_form.specs.declared.form.Expression.{Expression}
use Rattle.schema_form.specs.Reading.{keyed}
use Rattle.schema_form.specs.Laws.{PathLeads, ended, further}
use Rattle.schema_form.proofs.Whole.{AllFrom}

-- one path after another
pub PathLeads-append : (v w x : Value) (path rest : Path) → PathLeads v path w → PathLeads w rest x → PathLeads v (path ++ rest) x
PathLeads-append _ _ x _ rest (ended v) on = on
PathLeads-append _ _ x _ rest (further v w y step path at there) on = further v w x step (path ++ rest) at (PathLeads-append w y x path rest there on)

-- one token leads to a field, or to an item
pub PathLeads-field : (a : Unit {0}) (key : List ℕ) (fields : Fields) (v : Value) → value_at key fields ≡ Some v → PathLeads (dict a fields) (key ∷ []) v
PathLeads-field a key fields v there = further (dict a fields) v v (at_key key) [] there (ended v)

pub PathLeads-item : (a : Unit {0}) (i : ℕ) (items : Items) (v : Value) → item_at i items ≡ Some v → PathLeads (list a items) (decimal i ∷ []) v
PathLeads-item a i items v there = further (list a items) v v (at_index i) [] there (ended v)

-- the first index
decimal-zero : decimal 0 ≡ codes "0"
decimal-zero = decimal-digits_value digits (codes "0") refl (omega arith) (λ e. refl) (omega arith)

pub PathLeads-first : (a : Unit {0}) (v : Value) (items : Items) → PathLeads (list a (part v items)) (codes "0" ∷ []) v
PathLeads-first a v items =
    let P : List ℕ → Type 0 = λ token. PathLeads (list a (part v items)) (token ∷ []) v in
    subst P decimal-zero (PathLeads-item a 0 (part v items) v refl)

-- and the second
decimal-one : decimal 1 ≡ codes "1"
decimal-one = decimal-digits_value digits (codes "1") refl (omega arith) (λ e. refl) (omega arith)

pub PathLeads-second : (a : Unit {0}) (u v : Value) (items : Items) → PathLeads (list a (part u (part v items))) (codes "1" ∷ []) v
PathLeads-second a u v items =
    let P : List ℕ → Type 0 = λ token. PathLeads (list a (part u (part v items))) (token ∷ []) v in
    subst P decimal-one (PathLeads-item a 1 (part u (part v items)) v refl)

pub PathLeads-keyed : (key : List ℕ) (v : Value) → PathLeads (keyed key v) (key ∷ []) v
PathLeads-keyed key v =
    PathLeads-field tt key (member key v no_members) v (ap (λ (b : Bool). if b then Some v else None) ((bytes_eq-Decides key key).1 refl))

-- what holds of all expressions holds of those in front and of those behind
pub AllFrom-split : (P : ℕ → Expression → Type 0) (n : ℕ) (xs ys : List Expression) → AllFrom P n (xs ++ ys) → AllFrom P n xs × AllFrom P (n + length xs) ys
AllFrom-split P n [] ys all = let Q : ℕ → Type 0 = λ j. AllFrom P j ys in let same : n ≡ n + 0 = omega arith in (tt, subst Q same all)
AllFrom-split P n (x ∷ xs) ys all =
    let Q : ℕ → Type 0 = λ j. AllFrom P j ys in
    let rest = AllFrom-split P (n + 1) xs ys all.1 in
    let same : n + 1 + length xs ≡ n + length (x ∷ xs) = omega arith in
    ((all.0, rest.0), subst Q same rest.1)

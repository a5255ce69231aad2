-- Steps of a walk that lays type expressions: what is laid so far, and what is still to come behind it.
use Rattle.std.proofs.Common.{◌≡◌, ◌≤◌, ℕ, ◌+◌, ◌<◌, List, [], ◌∷◌, ◌++◌, length, get_or, drop, Some, Result, Ok, Err, option_map, refl, sym, ◌∙◌, ap, subst, arith, drop-cons, add-one, append_assoc, length-append}
use Rattle.std.specs.Prelude.{OnOk}
use Rattle.std.proofs.Math.ListN.{set}
use Rattle.std.proofs.lemmas.List.{append-nil, drop_all, set_at}
use Rattle.snap_core.specs.Value.{Value, list, dict, no_parts, part, member, Fields}
use Rattle.snap_core.specs.declared.snap.Snap.{Snap}
use Rattle.snap_core.specs.declared.snap.Field.{Field}
use Rattle.snap_core.specs.declared.number.TypeNo.{TypeNo}
use Rattle.snap_core.specs.declared.number.ModelNo.{ModelNo}
use Rattle.snap_core.specs.View.{view, items_view, fields_view}
use Rattle.snap_core.specs.Unview.{snap_of}
use Rattle.snap_core.proofs.Views.{entry-fields, snap_of-view}
use Rattle.type_table.specs.declared.shape.Condition.{Condition}
use Rattle.schema_form.specs.declared.form.Word.{Word}
use Rattle.schema_form.specs.declared.bases.Base.{Base}
use Rattle.schema_form.specs.Names.{word_in}
use Rattle.schema_form.specs.declared.form.Expression.{Expression}
use Rattle.schema_form.specs.declared.form.Place.{Place}
use Rattle.schema_form.specs.declared.form.Place.TheVariants as place
use Rattle.schema_form.specs.declared.form.Step.TheVariants as step
use Rattle.schema_form.specs.declared.form.Kind.TheVariants as kind
use Rattle.schema_form.specs.declared.words.Form.TheVariants as form
use Rattle.schema_form.specs.declared.words.Leaf.TheVariants as leaf
use Rattle.schema_form.specs.Layout.{Layout, type_no, type_laid, field_laid, inside_laid, members_laid, member_numbers, parts_laid_of, properties_laid, properties_of, base_laid, said, conditions_of}
use Rattle.schema_form.specs.Faults.{base_in}

-- what is laid next comes off the front of what is to come
pub laid-step : {E : Type 0} (old new a whole : List E) (rest : ℕ → List E) → whole ≡ old ++ (a ++ rest (length old + length a)) → new ≡ old ++ a
    → whole ≡ new ++ rest (length new)
laid-step old new a whole rest so_far added =
    let longer : length new ≡ length old + length a = ap length added ∙ length-append old a in
    so_far ∙ sym (append_assoc old a (rest (length old + length a))) ∙ ap (λ xs. xs ++ rest (length old + length a)) (sym added) ∙ ap (λ n. new ++ rest n) (sym longer)

-- and so does a number or a property
pub pushed-step : {E : Type 0} (old new whole : List E) (x : E) (rest : List E) → whole ≡ old ++ x ∷ rest → new ≡ old ++ x ∷ [] → whole ≡ new ++ rest
pushed-step old new whole x rest so_far added = so_far ∙ sym (append_assoc old (x ∷ []) rest) ∙ ap (λ xs. xs ++ rest) (sym added)

-- nothing is to come
pub laid-end : {E : Type 0} (old whole rest : List E) → whole ≡ old ++ rest → rest ≡ [] → old ≡ whole
laid-end old whole rest so_far none = sym (so_far ∙ ap (λ xs. old ++ xs) none ∙ append-nil old)

-- the expression itself, and then its parts
pub pushed_part : (old after new : List Expression) (e : Expression) (parts : ℕ → List Expression) → after ≡ old ++ e ∷ [] → new ≡ after ++ parts (length after)
    → new ≡ old ++ e ∷ parts (length old + 1)
pushed_part old after new e parts added is =
    let longer : length after ≡ length old + 1 = ap length added ∙ length-append old (e ∷ []) in
    is ∙ ap (λ n. after ++ parts n) longer ∙ ap (λ xs. xs ++ parts (length old + 1)) added ∙ append_assoc old (e ∷ []) (parts (length old + 1))

-- the members of a union from an index on
module _ (types : Fields) (u : ℕ) (vs : List Snap) (i : ℕ) (v : Snap) (within : i < length vs) (here : v ≡ get_or vs i v) where
  left : drop i vs ≡ v ∷ drop (i + 1) vs
  left = rw (add-one, drop-cons vs i v, ← here)

  pub members-laid : (n : ℕ) → let a = type_laid types (view v) n (place.Part (type_no u) (step.Member i)) in
      members_laid u i (parts_laid_of types (items_view (drop i vs))) n ≡ a ++ members_laid u (i + 1) (parts_laid_of types (items_view (drop (i + 1) vs))) (n + length a)
  members-laid n = ap (λ ws. members_laid u i (parts_laid_of types (items_view ws)) n) left

  pub members-numbered : (n : ℕ) → let a = type_laid types (view v) n (place.Part (type_no u) (step.Member i)) in
      member_numbers u i (parts_laid_of types (items_view (drop i vs))) n ≡ type_no n ∷ member_numbers u (i + 1) (parts_laid_of types (items_view (drop (i + 1) vs))) (n + length a)
  members-numbered n = ap (λ ws. member_numbers u i (parts_laid_of types (items_view ws)) n) left

pub members-none : (types : Fields) (u n : ℕ) (vs : List Snap) (i : ℕ) → length vs ≤ i → members_laid u i (parts_laid_of types (items_view (drop i vs))) n ≡ []
members-none types u n vs i past = ap (λ ws. members_laid u i (parts_laid_of types (items_view ws)) n) (drop_all i vs past)

pub numbers-none : (types : Fields) (u n : ℕ) (vs : List Snap) (i : ℕ) → length vs ≤ i → member_numbers u i (parts_laid_of types (items_view (drop i vs))) n ≡ []
numbers-none types u n vs i past = ap (λ ws. member_numbers u i (parts_laid_of types (items_view ws)) n) (drop_all i vs past)

-- the properties of a model from an index on
module _ (types : Fields) (m : ModelNo) (fs : List Field) (i : ℕ) (f : Field) (within : i < length fs) (here : f ≡ get_or fs i f) where
  ahead : drop i fs ≡ f ∷ drop (i + 1) fs
  ahead = rw (add-one, drop-cons fs i f, ← here)

  pub properties-laid : (n : ℕ) → let a = type_laid types (view f.value) n (place.Property m i) in
      properties_laid types m i (fields_view (drop i fs)) n ≡ a ++ properties_laid types m (i + 1) (fields_view (drop (i + 1) fs)) (n + length a)
  properties-laid n =
      let P : List ℕ × Value → Type 0 = λ e. properties_laid types m i (member e.0 e.1 (fields_view (drop (i + 1) fs))) n
      ≡ type_laid types (view f.value) n (place.Property m i) ++ properties_laid types m (i + 1) (fields_view (drop (i + 1) fs)) (n + length (type_laid types (view f.value) n (place.Property m i))) in
      ap (λ gs. properties_laid types m i (fields_view gs) n) ahead ∙ subst P (sym (entry-fields f)) refl

  pub properties-of : (n : ℕ) → let a = type_laid types (view f.value) n (place.Property m i) in
      properties_of types m i (fields_view (drop i fs)) n ≡ record { name = f.key; of = type_no n } ∷ properties_of types m (i + 1) (fields_view (drop (i + 1) fs)) (n + length a)
  properties-of n =
      let P : List ℕ × Value → Type 0 = λ e. properties_of types m i (member e.0 e.1 (fields_view (drop (i + 1) fs))) n
      ≡ record { name = f.key; of = type_no n } ∷ properties_of types m (i + 1) (fields_view (drop (i + 1) fs)) (n + length (type_laid types (view f.value) n (place.Property m i))) in
      ap (λ gs. properties_of types m i (fields_view gs) n) ahead ∙ subst P (sym (entry-fields f)) refl

pub properties_laid-none : (types : Fields) (m : ModelNo) (n : ℕ) (fs : List Field) (i : ℕ) → length fs ≤ i → properties_laid types m i (fields_view (drop i fs)) n ≡ []
properties_laid-none types m n fs i past = ap (λ gs. properties_laid types m i (fields_view gs) n) (drop_all i fs past)

pub properties_of-none : (types : Fields) (m : ModelNo) (n : ℕ) (fs : List Field) (i : ℕ) → length fs ≤ i → properties_of types m i (fields_view (drop i fs)) n ≡ []
properties_of-none types m n fs i past = ap (λ gs. properties_of types m i (fields_view gs) n) (drop_all i fs past)

-- an object with one field, and with another number of fields
pub object_laid : (types : Fields) (fs : List Field) (f : Field) (n : ℕ) (at : Place) → length fs ≡ 1 → f ≡ get_or fs 0 f
    → type_laid types (dict tt (fields_view fs)) n at ≡ field_laid types f.key (view f.value) n at
object_laid types [] f n at one here = absurd (omega (arith, one))
object_laid types (g ∷ []) f n at one here = rw (here) (rw (entry-fields g) refl)
object_laid types (g ∷ h ∷ fs) f n at one here = absurd (omega (arith, one))

-- a type and its default are two
pub defaulted_laid : (types : Fields) (vs : List Snap) (v d : Snap) (n : ℕ) (at : Place) → length vs ≡ 2 → v ≡ get_or vs 0 v → d ≡ get_or vs 1 d
    → inside_laid types form.Optional (list tt (items_view vs)) n at
    ≡ record { place = at; kind = kind.Optional (type_no (n + 1)) (snap_of (view d)) } ∷ type_laid types (view v) (n + 1) (place.Part (type_no n) step.Defaulted)
defaulted_laid types [] v d n at two first second = absurd (omega (arith, two))
defaulted_laid types (x ∷ []) v d n at two first second = absurd (omega (arith, two))
defaulted_laid types (x ∷ y ∷ []) v d n at two first second = rw (first, second) refl
defaulted_laid types (x ∷ y ∷ z ∷ vs) v d n at two first second = absurd (omega (arith, two))

-- and so are a base and its conditions
pub refined_laid : (types : Fields) (vs : List Snap) (t cs : Snap) (n : ℕ) (at : Place) → length vs ≡ 2 → t ≡ get_or vs 0 t → cs ≡ get_or vs 1 cs
    → inside_laid types (form.Leaf leaf.Refinement) (list tt (items_view vs)) n at
    ≡ record { place = at; kind = kind.Refinement (type_no (n + 1)) (conditions_of (base_in types (view t)) (view cs)) } ∷ base_laid types (list tt (part (view t) no_parts)) n
refined_laid types [] t cs n at two first second = absurd (omega (arith, two))
refined_laid types (x ∷ []) t cs n at two first second = absurd (omega (arith, two))
refined_laid types (x ∷ y ∷ []) t cs n at two first second = rw (first, second) refl
refined_laid types (x ∷ y ∷ z ∷ vs) t cs n at two first second = absurd (omega (arith, two))

-- the union's own expression, set where one without members stood for it, before those of its members
pub union_set : (old after new : List Expression) (e e' : Expression) (parts : ℕ → List Expression) (own : ℕ) → own ≡ length old → after ≡ old ++ e ∷ []
    → new ≡ after ++ parts (length after) → set new own e' ≡ old ++ e' ∷ parts (length old + 1)
union_set old after new e e' parts own first added is =
    ap (λ xs. set xs own e') (pushed_part old after new e parts added is) ∙ set_at old e (parts (length old + 1)) e' own (sym first)

type_no-is : (u : TypeNo) (n : ℕ) → u.0 ≡ n → u ≡ type_no n
type_no-is u n e = ap type_no e

-- a base and its conditions, and the base behind it
pub refined-all : (types : Fields) (vs : List Snap) (t cs : Snap) (at : Place) (old mid new : List Expression) (own : ℕ) (next : TypeNo) (w : Word) (b : Base) (conditions : List Condition)
    → length vs ≡ 2 → t ≡ get_or vs 0 t → cs ≡ get_or vs 1 cs → own ≡ length old → next.0 ≡ length old + 1
    → word_in types (view t) ≡ Some w → base_in types (view t) ≡ Some b → conditions ≡ conditions_of (Some b) (view cs)
    → mid ≡ old ++ record { place = at; kind = kind.Refinement next conditions } ∷ []
    → new ≡ mid ++ record { place = place.Part (type_no own) step.Refined; kind = kind.Word w } ∷ []
    → new ≡ old ++ inside_laid types (form.Leaf leaf.Refinement) (list tt (items_view vs)) (length old) at
refined-all types vs t cs at old mid new own next w b conditions two first second here after is_word is_base are added then =
    let n : ℕ = length old in
    let one : Expression = record { place = at; kind = kind.Refinement next conditions } in
    let other : Expression = record { place = place.Part (type_no own) step.Refined; kind = kind.Word w } in
    let with_number : TypeNo → Expression = λ u. record { place = at; kind = kind.Refinement u conditions } in
    let with_conditions : List Condition → Expression = λ cs. record { place = at; kind = kind.Refinement (type_no (n + 1)) cs } in
    let with_place : ℕ → List Expression = λ m. record { place = place.Part (type_no m) step.Refined; kind = kind.Word w } ∷ [] in
    let one_is : one ≡ with_conditions (conditions_of (base_in types (view t)) (view cs)) =
    ap with_number (type_no-is next (n + 1) after) ∙ ap with_conditions (are ∙ ap (λ o. conditions_of o (view cs)) (sym is_base)) in
    let other_is : other ∷ [] ≡ base_laid types (list tt (part (view t) no_parts)) n =
    ap with_place here ∙ ap (λ o. said (place.Part (type_no n) step.Refined) (option_map kind.Word o)) (sym is_word) in
    then ∙ ap (λ xs. xs ++ other ∷ []) added ∙ append_assoc old (one ∷ []) (other ∷ [])
    ∙ ap (λ e. old ++ e ∷ other ∷ []) one_is
    ∙ ap (λ xs. old ++ with_conditions (conditions_of (base_in types (view t)) (view cs)) ∷ xs) other_is
    ∙ ap (λ xs. old ++ xs) (sym (refined_laid types vs t cs n at two first second))

-- a type and its default
pub defaulted-all : (types : Fields) (vs : List Snap) (v d default : Snap) (at : Place) (old mid new : List Expression) (own : ℕ) (next : TypeNo)
    → length vs ≡ 2 → v ≡ get_or vs 0 v → d ≡ get_or vs 1 d → own ≡ length old → next.0 ≡ length old + 1 → default ≡ d
    → mid ≡ old ++ record { place = at; kind = kind.Optional next default } ∷ []
    → new ≡ mid ++ type_laid types (view v) (length mid) (place.Part (type_no own) step.Defaulted)
    → new ≡ old ++ inside_laid types form.Optional (list tt (items_view vs)) (length old) at
defaulted-all types vs v d default at old mid new own next two first second here after same added then =
    let n : ℕ = length old in
    let one : Expression = record { place = at; kind = kind.Optional next default } in
    let with_number : TypeNo → Expression = λ u. record { place = at; kind = kind.Optional u default } in
    let with_default : Snap → Expression = λ s. record { place = at; kind = kind.Optional (type_no (n + 1)) s } in
    let parts : ℕ → ℕ → List Expression = λ u m. type_laid types (view v) m (place.Part (type_no u) step.Defaulted) in
    let one_is : one ≡ with_default (snap_of (view d)) = ap with_number (type_no-is next (n + 1) after) ∙ ap with_default (same ∙ sym (snap_of-view d)) in
    pushed_part old mid new one (parts own) added then
    ∙ ap (λ e. old ++ e ∷ parts own (n + 1)) one_is
    ∙ ap (λ u. old ++ with_default (snap_of (view d)) ∷ parts u (n + 1)) here
    ∙ ap (λ xs. old ++ xs) (sym (defaulted_laid types vs v d n at two first second))

-- a union and its members
pub union-all : (types : Fields) (vs : List Snap) (at : Place) (old mid after new : List Expression) (own : ℕ) (members : List TypeNo)
    → own ≡ length old → mid ≡ old ++ record { place = at; kind = kind.Union [] } ∷ []
    → after ≡ mid ++ members_laid own 0 (parts_laid_of types (items_view vs)) (length mid)
    → members ≡ member_numbers own 0 (parts_laid_of types (items_view vs)) (length mid)
    → new ≡ set after own (record { place = at; kind = kind.Union members })
    → new ≡ old ++ inside_laid types form.Union (list tt (items_view vs)) (length old) at
union-all types vs at old mid after new own members here added then numbered put =
    let n : ℕ = length old in
    let ls : List Layout = parts_laid_of types (items_view vs) in
    let union : List TypeNo → Expression = λ us. record { place = at; kind = kind.Union us } in
    let longer : length mid ≡ n + 1 = ap length added ∙ length-append old (union [] ∷ []) in
    let members_is : members ≡ member_numbers n 0 ls (n + 1) = numbered ∙ ap (λ m. member_numbers own 0 ls m) longer ∙ ap (λ u. member_numbers u 0 ls (n + 1)) here in
    put ∙ union_set old mid after (union []) (union members) (λ m. members_laid own 0 ls m) own here added then
    ∙ ap (λ us. old ++ union us ∷ members_laid own 0 ls (n + 1)) members_is
    ∙ ap (λ u. old ++ union (member_numbers n 0 ls (n + 1)) ∷ members_laid u 0 ls (n + 1)) here

pub OnOk-of : {T E P : Type 0} (r : Result T E) → P → OnOk r P
OnOk-of (Ok v) p = p
OnOk-of (Err e) p = tt

pub OnOk-at : {T E P : Type 0} (r : Result T E) (x : T) → r ≡ Ok x → OnOk r P → P
OnOk-at {T} {E} {P} r x e h = let Q : Result T E → Type 0 = λ q. OnOk q P in subst Q e h

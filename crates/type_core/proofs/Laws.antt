-- Making and the table of what makes what say the same.
use Rattle.std.proofs.Common.{◌≡◌, ◌≢◌, ℕ, zero, suc, ◌+◌, List, [], ◌∷◌, length, Bool, true, false, Option, Some, None, Ok, decimal, if◌then◌else◌, refl, sym, ◌∙◌, ap, subst}
use Rattle.std.specs.List.{list_all}
use Rattle.std.specs.Str.{bytes_eq}
use Rattle.std.proofs.lemmas.Cmp.{nat_list_eq_equiv}
use Rattle.std.proofs.lemmas.Slice.Eq.{bytes_eq-Decides}
use Rattle.std.proofs.lemmas.Map.Views.{Contains-from_any, list_any-from_Contains}
use Rattle.std.proofs.lemmas.List.Sums.{AllPass-from_list_all, list_all-from_AllPass}
use Rattle.snap_core.specs.Value.{Value, null, boolean, integer, text, list, dict, no_parts, part, no_members, member, Items, Fields}
use Rattle.snap_core.specs.View.{view}
use Rattle.snap_core.specs.declared.snap.Snap.{Snap}
use Rattle.snap_core.specs.declared.number.TypeNo.{TypeNo}
use Rattle.pointer_core.specs.declared.refusal.Rule.TheVariants.{Mistyped, Refine}
use Rattle.type_table.specs.declared.shape.Shape.{Shape}
use Rattle.type_table.specs.declared.shape.Shape.TheVariants.{Str, Integer, Boolean, Null, Literal, Enumeration, Identifier, IdentifierNumber, Frozen, Optional, Maybe, MaybeNull, Union, Refinement, Array, Map, Model, Reference, Safe, Named}
use Rattle.type_table.specs.declared.shape.Property.{Property}
use Rattle.type_table.specs.Table.{Table, shape_at, properties_of, default_at}
use Rattle.type_table.specs.Names.{named_step, named_within, named_by, shape_by}
use Rattle.type_table.specs.Identifiers.{shape_of, identifier_in, is_of_kind, is_key, is_firm, ident_in}
use Rattle.snap_core.specs.declared.ident.Ident.{Ident}
use Rattle.type_table.specs.Unions.{is_scalar, is_same, is_based, takes, chosen}
use Rattle.snap_core.specs.Value.{value_at}
use Rattle.type_core.specs.Judging.{is_null, shape_for, judged_by_choice, judged_step, judged_within, judged_by}
use Rattle.type_core.specs.Making.{Outcome, admits, conditions_of, refused, scalar_made, default_made, absent_made, absent, items_made, keyed, entries_made, field_at, property_made, properties_made, list_of, record_of, list_made, dict_made, maker_of, makers_of, fields_of, made_by}
use Rattle.type_core.specs.Makes.{IsMaybe, maybe, maybe_null, Makes, string, whole, truth, nothing, literal, enumeration, identifier, identifier_number, reference, safe, safe_of_null, safe_absent, frozen, frozen_absent, optional, optional_absent, maybe_of_null, maybe_absent, maybe_other, union, refinement, array, array_absent, map, map_absent, model, name, MakesItems, no_items, one_item, MakesValues, no_values, one_value, MakesEach, no_more, one_more}
use Rattle.type_core.specs.Sound.{AreMade, AreAll}
use Rattle.type_core.proofs.Chains.{IsLoopless, shape_for-is, shape_for-property, shape_for-other, shape_for-null, property-not_firm, judged_by-at, judged_by-for, named_by-at}
use Rattle.type_core.proofs.Outcomes.{part_made-Ok, entry_made-Ok, keyed-Ok, list_of-Ok, record_of-Ok, property_made-made_by, default_made-Ok}

-- null and what isn't
pub is_null-null : (v : Value) → is_null v ≡ true → v ≡ null
is_null-null null h = refl
is_null-null v h = cc

pub is_null-other : (v : Value) → v ≢ null → is_null v ≡ false
is_null-other null h = absurd (h refl)
is_null-other v h = refl

pub other-is_null : (v : Value) → is_null v ≡ false → v ≢ null
other-is_null v h e = let P : Value → Type 0 = λ w. is_null w ≡ false in let no = subst P e h in cc

-- the shape that judges a value stands at a type; what that type makes of the value, this one makes too
abbrev pub Judges : Table → Value → ℕ → Shape → Type 0
Judges table v t shape = (k : ℕ) × (shape_for table v k ≡ Some shape) × ((s : Value) → Makes table k (Some v) s → Makes table t (Some v) s)

abbrev pub AllJudge : Table → Value → (ℕ → Option Shape) → Type 0
AllJudge table v further = (t : ℕ) (shape : Shape) → further t ≡ Some shape → Judges table v t shape

step-maybe : (table : Table) (v : Value) (further : ℕ → Option Shape) → AllJudge table v further → (t : ℕ) (over shape : Shape) (u : TypeNo)
    → shape_for table v t ≡ Some over → IsMaybe over u → (if is_null v then Some over else further u.0) ≡ Some shape → Judges table v t shape
step-maybe table v further judges t over shape u e is h = by_test (is_null v) refl h
  where
    by_test : (b : Bool) → is_null v ≡ b → (if b then Some over else further u.0) ≡ Some shape → Judges table v t shape
    by_test true n g = (t, e ∙ g, λ s m. m)
    by_test false n g = let at = judges u.0 shape g in (at.0, at.1, λ s m. maybe_other t over u v s (shape_for-is table v t over e) is (other-is_null v n) (at.2 s m))

pub judged_step-judges : (table : Table) (v : Value) (further : ℕ → Option Shape) → AllJudge table v further
    → (t : ℕ) (shape : Shape) (o : Option Shape) → shape_for table v t ≡ o → judged_step table v further o ≡ Some shape → Judges table v t shape
judged_step-judges table v further judges t shape (Some (Named u)) e h =
    let at = judges u.0 shape h in (at.0, at.1, λ s m. name t u (Some v) s (shape_for-is table v t (Named u) e) (at.2 s m))
judged_step-judges table v further judges t shape (Some (Optional u d)) e h =
    let at = judges u.0 shape h in (at.0, at.1, λ s m. optional t u d v s (shape_for-is table v t (Optional u d) e) (at.2 s m))
judged_step-judges table v further judges t shape (Some (Maybe u)) e h = step-maybe table v further judges t (Maybe u) shape u e (maybe u) h
judged_step-judges table v further judges t shape (Some (MaybeNull u)) e h = step-maybe table v further judges t (MaybeNull u) shape u e (maybe_null u) h
judged_step-judges table v further judges t shape (Some (Union ms)) e h = by_choice (chosen table ms v) refl h
  where
    by_choice : (o : Option TypeNo) → chosen table ms v ≡ o → judged_by_choice further o ≡ Some shape → Judges table v t shape
    by_choice None c g = cc
    by_choice (Some m) c g = let at = judges m.0 shape g in (at.0, at.1, λ s made. union t ms m v s (shape_for-is table v t (Union ms) e) c (at.2 s made))
judged_step-judges table v further judges t shape o e h = (t, e ∙ h, λ s m. m)

pub judged_within-judges : (table : Table) (v : Value) (n : ℕ) → AllJudge table v (judged_within table v n)
judged_within-judges table v zero = λ t shape h. cc
judged_within-judges table v (suc n) = λ t shape h.
    judged_step-judges table v (judged_within table v n) (judged_within-judges table v n) t shape (shape_for table v t) refl h

-- so it is enough to look at the types that judge it
pub judged-sound : (table : Table) (v : Value) (t : ℕ) (s : Value) (outcome : Option Shape → Outcome Value) → (outcome None ≡ Ok s → ⊥)
    → ((k : ℕ) (shape : Shape) → shape_for table v k ≡ Some shape → outcome (Some shape) ≡ Ok s → Makes table k (Some v) s)
    → outcome (judged_by table v t) ≡ Ok s → Makes table t (Some v) s
judged-sound table v t s outcome none some h = by_judged (judged_by table v t) refl h
  where
    by_judged : (o : Option Shape) → judged_by table v t ≡ o → outcome o ≡ Ok s → Makes table t (Some v) s
    by_judged None e g = absurd (none g)
    by_judged (Some shape) e g =
        let at = judged_within-judges table v (length table.shapes) t shape e in at.2 s (some at.0 shape at.1 g)

-- a scalar that is made is taken, is admitted, and is the same
pub scalar_made-Ok : (table : Table) (v s : Value) (o : Option Shape) → scalar_made table v o ≡ Ok s
    → (takes table o v ≡ true) × (list_all (admits v) (conditions_of o) ≡ true) × (v ≡ s)
scalar_made-Ok table v s o h = by_tests (takes table o v) (list_all (admits v) (conditions_of o)) h
  where
    by_tests : (a b : Bool) → (if a then (if b then Ok v else refused Refine) else refused Mistyped) ≡ Ok s → (a ≡ true) × (b ≡ true) × (v ≡ s)
    by_tests true true g = (refl, refl, cc)
    by_tests true false g = cc
    by_tests false b g = cc

pub takes-sound : (table : Table) (t : ℕ) (v : Value) (shape : Shape) → shape_for table v t ≡ Some shape → shape_at table t ≡ Some shape
    → takes table (Some shape) v ≡ true → list_all (admits v) (conditions_of (Some shape)) ≡ true → Makes table t (Some v) v
takes-sound table t (text s) Str there e h c = string t s e
takes-sound table t v Str there e h c = cc
takes-sound table t (integer z) Integer there e h c = whole t z e
takes-sound table t v Integer there e h c = cc
takes-sound table t (boolean b) Boolean there e h c = truth t b e
takes-sound table t v Boolean there e h c = cc
takes-sound table t null Null there e h c = nothing t e
takes-sound table t v Null there e h c = cc
takes-sound table t v (Literal l) there e h c = literal t l v e h
takes-sound table t (text s) (Enumeration ts) there e h c = enumeration t ts s e (Contains-from_any (λ x y. (bytes_eq-Decides x y).0) s ts h)
takes-sound table t v (Enumeration ts) there e h c = cc
takes-sound table t (text s) Identifier there e h c = identifier t s e
takes-sound table t v Identifier there e h c = cc
takes-sound table t (integer z) IdentifierNumber there e h c = identifier_number t z e
takes-sound table t v IdentifierNumber there e h c = cc
takes-sound table t v (Reference u) there e h c = reference t u v e h
takes-sound table t null (Safe u) there e h c = safe_of_null t u e (shape_for-null table t u there)
takes-sound table t v (Safe u) there e h c = safe t u v e h
takes-sound table t v Frozen there e h c = frozen t v e
takes-sound table t null (Maybe u) there e h c = maybe_of_null t (Maybe u) u e (maybe u)
takes-sound table t v (Maybe u) there e h c = cc
takes-sound table t null (MaybeNull u) there e h c = maybe_of_null t (MaybeNull u) u e (maybe_null u)
takes-sound table t v (MaybeNull u) there e h c = cc
takes-sound table t v (Refinement u cs) there e h c = refinement t u cs v e h (AllPass-from_list_all (admits v) cs c)
takes-sound table t v shape there e h c = cc

pub scalar-sound : (table : Table) (v s : Value) (t : ℕ) (shape : Shape) → shape_for table v t ≡ Some shape → scalar_made table v (Some shape) ≡ Ok s → Makes table t (Some v) s
scalar-sound table v s t shape e h =
    let parts = scalar_made-Ok table v s (Some shape) h in
    let P : Value → Type 0 = Makes table t (Some v) in
    subst P parts.2 (takes-sound table t v shape e (shape_for-is table v t shape e) parts.0 parts.1)

-- what is made of none is in the table
pub named-leads : (table : Table) (n : ℕ) (t : ℕ) (x : Option Value) (s : Value) → Makes table (named_within table n t) x s → Makes table t x s
named-leads table zero t x s m = m
named-leads table (suc n) t x s m = by_shape (shape_at table t) refl (named-leads table n) m
  where
    by_shape : (o : Option Shape) → shape_at table t ≡ o → ((u : ℕ) (x : Option Value) (s : Value) → Makes table (named_within table n u) x s → Makes table u x s)
        → Makes table (named_step (named_within table n) t o) x s → Makes table t x s
    by_shape (Some (Named u)) e further given = name t u x s e (further u.0 x s given)
    by_shape o e further given = given

made-as : (table : Table) (t : ℕ) (x : Option Value) (v s : Value) → ◌≡◌ {A = Outcome Value} (Ok v) (Ok s) → Makes table t x v → Makes table t x s
made-as table t x v s h m = let same : v ≡ s = cc in let P : Value → Type 0 = Makes table t x in subst P same m

pub absent_made-sound : (table : Table) (defaults : List (Option Snap)) → AreMade table defaults → (t : ℕ) (s : Value) (o : Option Shape)
    → shape_at table t ≡ o → absent_made table defaults t o ≡ Ok s → Makes table t None s
absent_made-sound table defaults made t s (Some (Optional u d)) e h = made t s (default_made-Ok (default_at defaults t) s h)
absent_made-sound table defaults made t s (Some (Maybe u)) e h = made-as table t None null s h (maybe_absent t (Maybe u) u e (maybe u))
absent_made-sound table defaults made t s (Some (MaybeNull u)) e h = made-as table t None null s h (maybe_absent t (MaybeNull u) u e (maybe_null u))
absent_made-sound table defaults made t s (Some Frozen) e h = made-as table t None null s h (frozen_absent t e)
absent_made-sound table defaults made t s (Some (Array u)) e h = made-as table t None (list tt no_parts) s h (array_absent t u e)
absent_made-sound table defaults made t s (Some (Map u)) e h = made-as table t None (dict tt no_members) s h (map_absent t u e)
absent_made-sound table defaults made t s (Some (Safe u)) e h = by_test (is_firm table t) refl h
  where
    by_test : (b : Bool) → is_firm table t ≡ b → (if b then refused Mistyped else Ok null) ≡ Ok s → Makes table t None s
    by_test true firm g = cc
    by_test false firm g = made-as table t None null s g (safe_absent t u e (property-not_firm table t u e firm))
absent_made-sound table defaults made t s o e h = cc

-- what is made of the value under each key is in the table
abbrev pub AreSound : Table → List (Option Snap) → Fields → Type 0
AreSound table defaults ms = (key : List ℕ) (v : Value) → value_at key ms ≡ Some v → (t : ℕ) (s : Value) → maker_of table defaults v t ≡ Ok s → Makes table t (Some v) s

-- what is made of each value is in the table, one after the other
abbrev pub ItemsSound : Table → List (Option Snap) → Items → Type 0
ItemsSound table defaults ps = (i t : ℕ) (made : Items) → items_made i t (makers_of table defaults ps) ≡ Ok made → MakesItems table t ps made

abbrev pub ValuesSound : Table → List (Option Snap) → Fields → Type 0
ValuesSound table defaults ms = (t : ℕ) (made : Fields) → entries_made t (fields_of table defaults ms) ≡ Ok made → MakesValues table t ms made

module _ (table : Table) (defaults : List (Option Snap)) (known : AreMade table defaults) where
  pub absent-sound : (t : ℕ) (s : Value) → absent table defaults t ≡ Ok s → Makes table t None s
  absent-sound t s h =
      named-leads table (length table.shapes) t None s (absent_made-sound table defaults known (named_by table t) s (shape_at table (named_by table t)) refl h)

  property-sound : (ms : Fields) → AreSound table defaults ms → (p : Property) (x : Option Value) (v : Value)
      → value_at p.name ms ≡ x → made_by table defaults p.of.0 x ≡ Ok v → Makes table p.of.0 x v
  property-sound ms sound p None v e h = absent-sound p.of.0 v h
  property-sound ms sound p (Some w) v e h = sound p.name w e p.of.0 v h

  each-sound : (ms : Fields) → AreSound table defaults ms → (ps : List Property) (made : Fields)
      → properties_made (absent table defaults) ps (fields_of table defaults ms) ≡ Ok made → MakesEach table ms ps made
  each-sound ms sound [] made h =
      let P : Fields → Type 0 = MakesEach table ms [] in
      let e : no_members ≡ made = cc in subst P e (no_more ms)
  each-sound ms sound (p ∷ ps) made h =
      let fields = fields_of table defaults ms in
      let parts = entry_made-Ok p.name (property_made (absent table defaults) p (field_at p.name fields)) (properties_made (absent table defaults) ps fields) made h in
      let one = property-sound ms sound p (value_at p.name ms) parts.0 refl (sym (property_made-made_by table defaults p ms) ∙ parts.2) in
      let P : Fields → Type 0 = MakesEach table ms (p ∷ ps) in
      subst P (sym parts.4) (one_more ms p ps parts.0 parts.1 one (each-sound ms sound ps parts.1 parts.3))

  list-sound : (ps : Items) → ItemsSound table defaults ps → (t : ℕ) (s : Value) (shape : Shape)
      → shape_for table (list tt ps) t ≡ Some shape → list_made (list tt ps) (makers_of table defaults ps) (Some shape) ≡ Ok s → Makes table t (Some (list tt ps)) s
  list-sound ps sound t s (Array u) e h =
      let parts = list_of-Ok (items_made 0 u.0 (makers_of table defaults ps)) s h in
      let P : Value → Type 0 = Makes table t (Some (list tt ps)) in
      subst P (sym parts.2) (array t u ps parts.0 (shape_for-is table (list tt ps) t (Array u) e) (sound 0 u.0 parts.0 parts.1))
  list-sound ps sound t s Frozen e h = made-as table t (Some (list tt ps)) (list tt ps) s h (frozen t (list tt ps) (shape_for-is table (list tt ps) t Frozen e))
  list-sound ps sound t s shape e h = cc

  dict-sound : (ms : Fields) → AreSound table defaults ms → ValuesSound table defaults ms → (t : ℕ) (s : Value) (shape : Shape)
      → shape_for table (dict tt ms) t ≡ Some shape → dict_made table (absent table defaults) (dict tt ms) (fields_of table defaults ms) (Some shape) ≡ Ok s
      → Makes table t (Some (dict tt ms)) s
  dict-sound ms sound values t s (Map u) e h =
      let parts = record_of-Ok (entries_made u.0 (fields_of table defaults ms)) s h in
      let P : Value → Type 0 = Makes table t (Some (dict tt ms)) in
      subst P (sym parts.2) (map t u ms parts.0 (shape_for-is table (dict tt ms) t (Map u) e) (values u.0 parts.0 parts.1))
  dict-sound ms sound values t s (Model m) e h =
      let parts = record_of-Ok (properties_made (absent table defaults) (properties_of table m.0) (fields_of table defaults ms)) s h in
      let P : Value → Type 0 = Makes table t (Some (dict tt ms)) in
      subst P (sym parts.2) (model t m ms parts.0 (shape_for-is table (dict tt ms) t (Model m) e) (each-sound ms sound (properties_of table m.0) parts.0 parts.1))
  dict-sound ms sound values t s Frozen e h = made-as table t (Some (dict tt ms)) (dict tt ms) s h (frozen t (dict tt ms) (shape_for-is table (dict tt ms) t Frozen e))
  dict-sound ms sound values t s shape e h = cc

  mutual
    -- what is made of a value is in the table
    pub maker_of-sound : (v : Value) (t : ℕ) (s : Value) → maker_of table defaults v t ≡ Ok s → Makes table t (Some v) s
    maker_of-sound null t s h = judged-sound table null t s (scalar_made table null) (λ e. cc) (λ k shape. scalar-sound table null s k shape) h
    maker_of-sound (boolean b) t s h = judged-sound table (boolean b) t s (scalar_made table (boolean b)) (λ e. cc) (λ k shape. scalar-sound table (boolean b) s k shape) h
    maker_of-sound (integer z) t s h = judged-sound table (integer z) t s (scalar_made table (integer z)) (λ e. cc) (λ k shape. scalar-sound table (integer z) s k shape) h
    maker_of-sound (text b) t s h = judged-sound table (text b) t s (scalar_made table (text b)) (λ e. cc) (λ k shape. scalar-sound table (text b) s k shape) h
    maker_of-sound (list a ps) t s h =
        judged-sound table (list a ps) t s (list_made (list a ps) (makers_of table defaults ps)) (λ e. cc) (λ k shape. list-sound ps (items-sound ps) k s shape) h
    maker_of-sound (dict a ms) t s h =
        judged-sound table (dict a ms) t s (dict_made table (absent table defaults) (dict a ms) (fields_of table defaults ms)) (λ e. cc)
        (λ k shape. dict-sound ms (fields-sound ms) (values-sound ms) k s shape) h

    pub items-sound : (ps : Items) → ItemsSound table defaults ps
    items-sound no_parts = λ i t made h.
        let P : Items → Type 0 = MakesItems table t no_parts in
        let e : no_parts ≡ made = cc in subst P e (no_items t)
    items-sound (part v ps) = λ i t made h.
        let parts = part_made-Ok (maker_of table defaults v t) (items_made (i + 1) t (makers_of table defaults ps)) (decimal i) made h in
        let P : Items → Type 0 = MakesItems table t (part v ps) in
        subst P (sym parts.4) (one_item t v parts.0 ps parts.1 (maker_of-sound v t parts.0 parts.2) (items-sound ps (i + 1) t parts.1 parts.3))

    pub values-sound : (ms : Fields) → ValuesSound table defaults ms
    values-sound no_members = λ t made h.
        let P : Fields → Type 0 = MakesValues table t no_members in
        let e : no_members ≡ made = cc in subst P e (no_values t)
    values-sound (member k v ms) = λ t made h.
        let own : Option Ident = ident_in table (judged_by table v t) v in
        let parts = entry_made-Ok k (keyed k own (maker_of table defaults v t)) (entries_made t (fields_of table defaults ms)) made h in
        let one = keyed-Ok k own (maker_of table defaults v t) parts.0 parts.2 in
        let P : Fields → Type 0 = MakesValues table t (member k v ms) in
        subst P (sym parts.4) (one_value t k v parts.0 ms parts.1 (maker_of-sound v t parts.0 one.0) one.1 (values-sound ms t parts.1 parts.3))

    pub fields-sound : (ms : Fields) → AreSound table defaults ms
    fields-sound no_members = λ key v e t s h. cc
    fields-sound (member k w ms) = λ key v e t s h.
        elim (bytes_eq key k) as (λ b. (if b then Some w else value_at key ms) ≡ Some v → Makes table t (Some v) s) [
          | true ↦ λ q. let same : w ≡ v = cc q in
              let P : Value → Type 0 = λ x. maker_of table defaults x t ≡ Ok s in
              let Q : Value → Type 0 = λ x. Makes table t (Some x) s in
              subst Q same (maker_of-sound w t s (subst P (sym same) h))
          | false ↦ λ q. fields-sound ms key v q t s h
        ] e

  -- and what is made of a value or of none
  pub made_by-sound : (t : ℕ) (x : Option Value) (s : Value) → made_by table defaults t x ≡ Ok s → Makes table t x s
  made_by-sound t None s h = absent-sound t s h
  made_by-sound t (Some v) s h = maker_of-sound v t s h

pub is_same-scalar : (l v : Value) → is_same l v ≡ true → is_scalar v ≡ true
is_same-scalar null (list a ps) h = cc
is_same-scalar (boolean true) (list a ps) h = cc
is_same-scalar l (list a ps) h = cc
is_same-scalar null (dict a ms) h = cc
is_same-scalar (boolean true) (dict a ms) h = cc
is_same-scalar l (dict a ms) h = cc
is_same-scalar l v h = refl

pub is_based-scalar : (o : Option Shape) (v : Value) → is_based o v ≡ true → is_scalar v ≡ true
is_based-scalar (Some Str) (list a ps) h = cc
is_based-scalar o (list a ps) h = cc
is_based-scalar (Some Str) (dict a ms) h = cc
is_based-scalar o (dict a ms) h = cc
is_based-scalar o v h = refl

-- a value of an identifier's kind is a scalar, and is taken by a reference of its model
is_of_kind-scalar : (o : Option Shape) (v : Value) → is_of_kind o v ≡ true → is_scalar v ≡ true
is_of_kind-scalar (Some Identifier) (list a ps) h = cc
is_of_kind-scalar (Some IdentifierNumber) (list a ps) h = cc
is_of_kind-scalar o (list a ps) h = cc
is_of_kind-scalar (Some Identifier) (dict a ms) h = cc
is_of_kind-scalar (Some IdentifierNumber) (dict a ms) h = cc
is_of_kind-scalar o (dict a ms) h = cc
is_of_kind-scalar o v h = refl

is_of_kind-null : (o : Option Shape) → is_of_kind o null ≡ false
is_of_kind-null (Some Identifier) = refl
is_of_kind-null (Some IdentifierNumber) = refl
is_of_kind-null o = refl

pub is_key-scalar : (table : Table) (u : TypeNo) (v : Value) → is_key table u v ≡ true → is_scalar v ≡ true
is_key-scalar table u v h = is_of_kind-scalar (shape_of table (identifier_in table (shape_at table u.0))) v h

pub is_key-other : (table : Table) (u : TypeNo) (v : Value) → is_key table u v ≡ true → is_null v ≡ false
is_key-other table u null h = let none = is_of_kind-null (shape_of table (identifier_in table (shape_at table u.0))) in cc
is_key-other table u v h = refl

safe-taken : (table : Table) (u : TypeNo) (v : Value) → is_key table u v ≡ true → takes table (Some (Safe u)) v ≡ true
safe-taken table u null h = refl
safe-taken table u v h = h

scalar_made-taken : (table : Table) (v : Value) (o : Option Shape) → takes table o v ≡ true → list_all (admits v) (conditions_of o) ≡ true → scalar_made table v o ≡ Ok v
scalar_made-taken table v o h c = rw (h, c)

-- types whose values are judged by one shape make the same of them
pub maker_of-same : (table : Table) (defaults : List (Option Snap)) (v : Value) (t u : ℕ) → judged_by table v t ≡ judged_by table v u
    → maker_of table defaults v t ≡ maker_of table defaults v u
maker_of-same table defaults null t u e = ap (scalar_made table null) e
maker_of-same table defaults (boolean b) t u e = ap (scalar_made table (boolean b)) e
maker_of-same table defaults (integer z) t u e = ap (scalar_made table (integer z)) e
maker_of-same table defaults (text s) t u e = ap (scalar_made table (text s)) e
maker_of-same table defaults (list a ps) t u e = ap (list_made (list a ps) (makers_of table defaults ps)) e
maker_of-same table defaults (dict a ms) t u e = ap (dict_made table (absent table defaults) (dict a ms) (fields_of table defaults ms)) e

module _ (table : Table) (defaults : List (Option Snap)) (loopless : IsLoopless table) where
  -- what a type makes of a scalar that its shape takes
  scalar-complete : (v : Value) → is_scalar v ≡ true → (t : ℕ) (shape : Shape) → judged_by table v t ≡ Some shape → takes table (Some shape) v ≡ true
      → list_all (admits v) (conditions_of (Some shape)) ≡ true → maker_of table defaults v t ≡ Ok v
  scalar-complete null is t shape e h c = ap (scalar_made table null) e ∙ scalar_made-taken table null (Some shape) h c
  scalar-complete (boolean b) is t shape e h c = ap (scalar_made table (boolean b)) e ∙ scalar_made-taken table (boolean b) (Some shape) h c
  scalar-complete (integer z) is t shape e h c = ap (scalar_made table (integer z)) e ∙ scalar_made-taken table (integer z) (Some shape) h c
  scalar-complete (text s) is t shape e h c = ap (scalar_made table (text s)) e ∙ scalar_made-taken table (text s) (Some shape) h c
  scalar-complete (list a ps) is t shape e h c = cc
  scalar-complete (dict a ms) is t shape e h c = cc

  -- a frozen type makes each value as it is
  frozen-complete : (v : Value) (t : ℕ) → judged_by table v t ≡ Some Frozen → maker_of table defaults v t ≡ Ok v
  frozen-complete null t e = scalar-complete null refl t Frozen e refl refl
  frozen-complete (boolean b) t e = scalar-complete (boolean b) refl t Frozen e refl refl
  frozen-complete (integer z) t e = scalar-complete (integer z) refl t Frozen e refl refl
  frozen-complete (text s) t e = scalar-complete (text s) refl t Frozen e refl refl
  frozen-complete (list a ps) t e = ap (list_made (list a ps) (makers_of table defaults ps)) e
  frozen-complete (dict a ms) t e = ap (dict_made table (absent table defaults) (dict a ms) (fields_of table defaults ms)) e

  -- a maybe makes null, and goes on to its type for what isn't null
  null-complete : (t : ℕ) (shape : Shape) (u : TypeNo) → shape_at table t ≡ Some shape → IsMaybe shape u → maker_of table defaults null t ≡ Ok null
  null-complete t _ _ e (maybe u) = scalar-complete null refl t (Maybe u) (judged_by-at table loopless null t (Maybe u) e refl) refl refl
  null-complete t _ _ e (maybe_null u) = scalar-complete null refl t (MaybeNull u) (judged_by-at table loopless null t (MaybeNull u) e refl) refl refl

  other-judged : (t : ℕ) (shape : Shape) (u : TypeNo) (v : Value) → shape_at table t ≡ Some shape → IsMaybe shape u → v ≢ null
      → judged_by table v t ≡ judged_by table v u.0
  other-judged t _ _ v e (maybe u) ne = judged_by-at table loopless v t (Maybe u) e refl ∙ rw (is_null-other v ne)
  other-judged t _ _ v e (maybe_null u) ne = judged_by-at table loopless v t (MaybeNull u) e refl ∙ rw (is_null-other v ne)

  -- what a type that is no name makes of none
  pub absent-at : (t : ℕ) (shape : Shape) → shape_at table t ≡ Some shape → named_step (named_by table) t (Some shape) ≡ t
      → absent table defaults t ≡ absent_made table defaults t (Some shape)
  absent-at t shape e same =
      ap (λ (k : ℕ). absent_made table defaults k (shape_at table k)) (named_by-at table loopless t shape e ∙ same) ∙ ap (absent_made table defaults t) e

  maybe-absent : (t : ℕ) (shape : Shape) (u : TypeNo) → shape_at table t ≡ Some shape → IsMaybe shape u → absent table defaults t ≡ Ok null
  maybe-absent t _ _ e (maybe u) = absent-at t (Maybe u) e refl
  maybe-absent t _ _ e (maybe_null u) = absent-at t (MaybeNull u) e refl

  -- a name makes what its type makes
  name-same : (t : ℕ) (u : TypeNo) (x : Option Value) → shape_at table t ≡ Some (Named u) → made_by table defaults t x ≡ made_by table defaults u.0 x
  name-same t u None e = ap (λ (k : ℕ). absent_made table defaults k (shape_at table k)) (named_by-at table loopless t (Named u) e)
  name-same t u (Some v) e = maker_of-same table defaults v t u.0 (judged_by-at table loopless v t (Named u) e refl)

  module _ (all : AreAll table defaults) where
    mutual
      -- what is in the table is made
      pub made_by-complete : (t : ℕ) (x : Option Value) (s : Value) → Makes table t x s → made_by table defaults t x ≡ Ok s
      made_by-complete _ _ _ (string t s e) = scalar-complete (text s) refl t Str (judged_by-at table loopless (text s) t Str e refl) refl refl
      made_by-complete _ _ _ (whole t z e) = scalar-complete (integer z) refl t Integer (judged_by-at table loopless (integer z) t Integer e refl) refl refl
      made_by-complete _ _ _ (truth t b e) = scalar-complete (boolean b) refl t Boolean (judged_by-at table loopless (boolean b) t Boolean e refl) refl refl
      made_by-complete _ _ _ (nothing t e) = scalar-complete null refl t Null (judged_by-at table loopless null t Null e refl) refl refl
      made_by-complete _ _ _ (literal t l v e same) =
          scalar-complete v (is_same-scalar (view l) v same) t (Literal l) (judged_by-at table loopless v t (Literal l) e refl) same refl
      made_by-complete _ _ _ (enumeration t ts s e has) =
          scalar-complete (text s) refl t (Enumeration ts) (judged_by-at table loopless (text s) t (Enumeration ts) e refl) (list_any-from_Contains nat_list_eq_equiv s ts has) refl
      made_by-complete _ _ _ (identifier t s e) =
          scalar-complete (text s) refl t Identifier (judged_by-at table loopless (text s) t Identifier e refl) refl refl
      made_by-complete _ _ _ (identifier_number t z e) =
          scalar-complete (integer z) refl t IdentifierNumber (judged_by-at table loopless (integer z) t IdentifierNumber e refl) refl refl
      made_by-complete _ _ _ (reference t u v e key) =
          scalar-complete v (is_key-scalar table u v key) t (Reference u) (judged_by-at table loopless v t (Reference u) e refl) key refl
      made_by-complete _ _ _ (safe t u v e key) =
          scalar-complete v (is_key-scalar table u v key) t (Safe u)
          (judged_by-for table loopless v t (Safe u) (shape_for-other table v t u e (is_key-other table u v key))) (safe-taken table u v key) refl
      made_by-complete _ _ _ (safe_of_null t u e own) =
          scalar-complete null refl t (Safe u) (judged_by-for table loopless null t (Safe u) (shape_for-property table null t u e own)) refl refl
      made_by-complete _ _ _ (safe_absent t u e own) = absent-at t (Safe u) e refl ∙ rw (e, own) refl
      made_by-complete _ _ _ (frozen t v e) = frozen-complete v t (judged_by-at table loopless v t Frozen e refl)
      made_by-complete _ _ _ (frozen_absent t e) = absent-at t Frozen e refl
      made_by-complete _ _ _ (optional t u d v s e made) =
          maker_of-same table defaults v t u.0 (judged_by-at table loopless v t (Optional u d) e refl) ∙ made_by-complete u.0 (Some v) s made
      made_by-complete _ _ _ (optional_absent t u d s e made light) =
          absent-at t (Optional u d) e refl ∙ ap default_made (all t u d s e (made_by-complete u.0 (Some (view d)) s made) light)
      made_by-complete _ _ _ (maybe_of_null t shape u e is) = null-complete t shape u e is
      made_by-complete _ _ _ (maybe_absent t shape u e is) = maybe-absent t shape u e is
      made_by-complete _ _ _ (maybe_other t shape u v s e is ne made) =
          maker_of-same table defaults v t u.0 (other-judged t shape u v e is ne) ∙ made_by-complete u.0 (Some v) s made
      made_by-complete _ _ _ (union t ms m v s e c made) =
          maker_of-same table defaults v t m.0 (judged_by-at table loopless v t (Union ms) e refl ∙ ap (judged_by_choice (judged_by table v)) c)
          ∙ made_by-complete m.0 (Some v) s made
      made_by-complete _ _ _ (refinement t u cs v e based admitted) =
          scalar-complete v (is_based-scalar (shape_by table u.0) v based) t (Refinement u cs) (judged_by-at table loopless v t (Refinement u cs) e refl) based
          (list_all-from_AllPass (admits v) cs admitted)
      made_by-complete _ _ _ (array t u given made e each) =
          ap (list_made (list tt given) (makers_of table defaults given)) (judged_by-at table loopless (list tt given) t (Array u) e refl)
          ∙ ap list_of (items-complete u.0 given made each 0)
      made_by-complete _ _ _ (array_absent t u e) = absent-at t (Array u) e refl
      made_by-complete _ _ _ (map t u given made e each) =
          ap (dict_made table (absent table defaults) (dict tt given) (fields_of table defaults given)) (judged_by-at table loopless (dict tt given) t (Map u) e refl)
          ∙ ap record_of (values-complete u.0 given made each)
      made_by-complete _ _ _ (map_absent t u e) = absent-at t (Map u) e refl
      made_by-complete _ _ _ (model t m given made e each) =
          ap (dict_made table (absent table defaults) (dict tt given) (fields_of table defaults given)) (judged_by-at table loopless (dict tt given) t (Model m) e refl)
          ∙ ap record_of (each-complete given (properties_of table m.0) made each)
      made_by-complete _ _ _ (name t u x s e made) = name-same t u x e ∙ made_by-complete u.0 x s made

      pub items-complete : (t : ℕ) (given made : Items) → MakesItems table t given made → (i : ℕ) → items_made i t (makers_of table defaults given) ≡ Ok made
      items-complete _ _ _ (no_items t) = λ i. refl
      items-complete _ _ _ (one_item t v s given made one rest) = λ i. rw (made_by-complete t (Some v) s one, items-complete t given made rest (i + 1))

      pub values-complete : (t : ℕ) (given made : Fields) → MakesValues table t given made → entries_made t (fields_of table defaults given) ≡ Ok made
      values-complete _ _ _ (no_values t) = refl
      values-complete _ _ _ (one_value t k v s given made one key rest) = rw (made_by-complete t (Some v) s one, key, values-complete t given made rest)

      pub each-complete : (given : Fields) (ps : List Property) (made : Fields)
          → MakesEach table given ps made → properties_made (absent table defaults) ps (fields_of table defaults given) ≡ Ok made
      each-complete _ _ _ (no_more given) = refl
      each-complete _ _ _ (one_more given p ps v made one rest) =
          rw (property_made-made_by table defaults p given ∙ made_by-complete p.of.0 (value_at p.name given) v one, each-complete given ps made rest)

module _ (table : Table) (old new : List (Option Snap)) (stays : (t : ℕ) (s : Value) → default_at old t ≡ Some s → default_at new t ≡ Some s) where
  absent_made-more : (t : ℕ) (o : Option Shape) (s : Value) → absent_made table old t o ≡ Ok s → absent_made table new t o ≡ Ok s
  absent_made-more t (Some (Optional u d)) s h = ap default_made (stays t s (default_made-Ok (default_at old t) s h))
  absent_made-more t (Some (Maybe u)) s h = h
  absent_made-more t (Some (MaybeNull u)) s h = h
  absent_made-more t (Some Frozen) s h = h
  absent_made-more t (Some (Safe u)) s h = h
  absent_made-more t (Some (Array u)) s h = h
  absent_made-more t (Some (Map u)) s h = h
  absent_made-more t o s h = cc

  -- growing defaults keep what is made of none
  pub absent-more : (t : ℕ) (s : Value) → absent table old t ≡ Ok s → absent table new t ≡ Ok s
  absent-more t s h = absent_made-more (named_by table t) (shape_at table (named_by table t)) s h

  -- the value under each key is made as before
  abbrev pub StayMade : Fields → Type 0
  StayMade ms = (key : List ℕ) (v : Value) → value_at key ms ≡ Some v → (t : ℕ) (s : Value) → maker_of table old v t ≡ Ok s → maker_of table new v t ≡ Ok s

  property-more : (ms : Fields) → StayMade ms → (p : Property) (x : Option Value) (v : Value)
      → value_at p.name ms ≡ x → made_by table old p.of.0 x ≡ Ok v → made_by table new p.of.0 x ≡ Ok v
  property-more ms stay p None v e h = absent-more p.of.0 v h
  property-more ms stay p (Some w) v e h = stay p.name w e p.of.0 v h

  each-more : (ms : Fields) → StayMade ms → (ps : List Property) (made : Fields)
      → properties_made (absent table old) ps (fields_of table old ms) ≡ Ok made → properties_made (absent table new) ps (fields_of table new ms) ≡ Ok made
  each-more ms stay [] made h = h
  each-more ms stay (p ∷ ps) made h =
      let fields = fields_of table old ms in
      let parts = entry_made-Ok p.name (property_made (absent table old) p (field_at p.name fields)) (properties_made (absent table old) ps fields) made h in
      let one = property-more ms stay p (value_at p.name ms) parts.0 refl (sym (property_made-made_by table old p ms) ∙ parts.2) in
      let rest = each-more ms stay ps parts.1 parts.3 in
      rw (property_made-made_by table new p ms ∙ one, rest) (ap Ok (sym parts.4))

  list-more : (a : Unit {0}) (ps : Items) → ((i t : ℕ) (made : Items) → items_made i t (makers_of table old ps) ≡ Ok made → items_made i t (makers_of table new ps) ≡ Ok made)
      → (o : Option Shape) (s : Value) → list_made (list a ps) (makers_of table old ps) o ≡ Ok s → list_made (list a ps) (makers_of table new ps) o ≡ Ok s
  list-more a ps stay (Some (Array u)) s h =
      let parts = list_of-Ok (items_made 0 u.0 (makers_of table old ps)) s h in rw (stay 0 u.0 parts.0 parts.1) (ap Ok (sym parts.2))
  list-more a ps stay (Some Frozen) s h = h
  list-more a ps stay o s h = cc

  dict-more : (a : Unit {0}) (ms : Fields) → StayMade ms
      → ((t : ℕ) (made : Fields) → entries_made t (fields_of table old ms) ≡ Ok made → entries_made t (fields_of table new ms) ≡ Ok made)
      → (o : Option Shape) (s : Value) → dict_made table (absent table old) (dict a ms) (fields_of table old ms) o ≡ Ok s
      → dict_made table (absent table new) (dict a ms) (fields_of table new ms) o ≡ Ok s
  dict-more a ms stay values (Some (Map u)) s h =
      let parts = record_of-Ok (entries_made u.0 (fields_of table old ms)) s h in rw (values u.0 parts.0 parts.1) (ap Ok (sym parts.2))
  dict-more a ms stay values (Some (Model m)) s h =
      let parts = record_of-Ok (properties_made (absent table old) (properties_of table m.0) (fields_of table old ms)) s h in
      rw (each-more ms stay (properties_of table m.0) parts.0 parts.1) (ap Ok (sym parts.2))
  dict-more a ms stay values (Some Frozen) s h = h
  dict-more a ms stay values o s h = cc

  mutual
    -- and what is made of a value
    pub maker_of-more : (v : Value) (t : ℕ) (s : Value) → maker_of table old v t ≡ Ok s → maker_of table new v t ≡ Ok s
    maker_of-more null t s h = h
    maker_of-more (boolean b) t s h = h
    maker_of-more (integer z) t s h = h
    maker_of-more (text b) t s h = h
    maker_of-more (list a ps) t s h = list-more a ps (items-more ps) (judged_by table (list a ps) t) s h
    maker_of-more (dict a ms) t s h = dict-more a ms (fields-more ms) (values-more ms) (judged_by table (dict a ms) t) s h

    pub items-more : (ps : Items) (i t : ℕ) (made : Items)
        → items_made i t (makers_of table old ps) ≡ Ok made → items_made i t (makers_of table new ps) ≡ Ok made
    items-more no_parts = λ i t made h. h
    items-more (part v ps) = λ i t made h.
        let parts = part_made-Ok (maker_of table old v t) (items_made (i + 1) t (makers_of table old ps)) (decimal i) made h in
        rw (maker_of-more v t parts.0 parts.2, items-more ps (i + 1) t parts.1 parts.3) (ap Ok (sym parts.4))

    pub values-more : (ms : Fields) (t : ℕ) (made : Fields)
        → entries_made t (fields_of table old ms) ≡ Ok made → entries_made t (fields_of table new ms) ≡ Ok made
    values-more no_members = λ t made h. h
    values-more (member k v ms) = λ t made h.
        let own : Option Ident = ident_in table (judged_by table v t) v in
        let parts = entry_made-Ok k (keyed k own (maker_of table old v t)) (entries_made t (fields_of table old ms)) made h in
        let one = keyed-Ok k own (maker_of table old v t) parts.0 parts.2 in
        rw (maker_of-more v t parts.0 one.0, one.1, values-more ms t parts.1 parts.3) (ap Ok (sym parts.4))

    pub fields-more : (ms : Fields) → StayMade ms
    fields-more no_members = λ key v e t s h. cc
    fields-more (member k w ms) = λ key v e t s h.
        elim (bytes_eq key k) as (λ b. (if b then Some w else value_at key ms) ≡ Some v → maker_of table new v t ≡ Ok s) [
          | true ↦ λ q. let same : w ≡ v = cc q in
              let P : Value → Type 0 = λ x. maker_of table old x t ≡ Ok s in
              let Q : Value → Type 0 = λ x. maker_of table new x t ≡ Ok s in
              subst Q same (maker_of-more w t s (subst P (sym same) h))
          | false ↦ λ q. fields-more ms key v q t s h
        ] e

  pub made_by-more : (t : ℕ) (x : Option Value) (s : Value) → made_by table old t x ≡ Ok s → made_by table new t x ≡ Ok s
  made_by-more t None s h = absent-more t s h
  made_by-more t (Some v) s h = maker_of-more v t s h

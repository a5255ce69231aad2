-- The member of a union that a value chose is chosen by what is made of it too.
use Rattle.std.proofs.Common.{◌≡◌, ℕ, zero, suc, length, List, [], ◌∷◌, Bool, true, false, Option, Some, None, IfSome, if◌then◌else◌, refl, sym, ap, ◌∙◌, subst}
use Rattle.std.specs.List.{find}
use Rattle.std.specs.Str.{bytes_eq}
use Rattle.std.proofs.lemmas.Slice.Eq.{bytes_eq-Decides}
use Rattle.snap_core.specs.Value.{Value, null, boolean, integer, text, list, dict, member, Items, Fields}
use Rattle.snap_core.specs.declared.number.TypeNo.{TypeNo}
use Rattle.snap_core.specs.declared.number.ModelNo.{ModelNo}
use Rattle.type_table.specs.declared.shape.Shape.{Shape}
use Rattle.type_table.specs.declared.shape.Shape.TheVariants.{Model, Named}
use Rattle.type_table.specs.declared.shape.Property.{Property}
use Rattle.type_table.specs.Table.{Table, AreNamed, shape_at, properties_of}
use Rattle.type_table.specs.Names.{named_step, named_within, named_by, shape_by}
use Rattle.type_table.specs.Unions.{is_same, is_literal, property_at, literal_by, literal_at, model_of_shape, model_before, models_of, tag_of, tagged, is_map, chosen_by_field, chosen_by_tag, chosen_for_record, chosen}
use Rattle.snap_core.specs.Value.{value_at}
use Rattle.type_core.specs.Makes.{Makes, IsMaybe, maybe, maybe_null, string, whole, truth, nothing, literal, enumeration, identifier, identifier_number, reference, safe, safe_of_null, safe_absent, frozen, frozen_absent, optional, optional_absent, maybe_of_null, maybe_absent, maybe_other, union, refinement, array, array_absent, map, map_absent, model, name, MakesEach, no_more, one_more}

-- what is made of a scalar is that scalar, what is made of a list is a list, and of a record a record
abbrev pub IsLike : Value → Value → Type 0
IsLike (list a ps) s = (qs : Items) × (s ≡ list tt qs)
IsLike (dict a ms) s = (ns : Fields) × (s ≡ dict tt ns)
IsLike v s = s ≡ v

like-itself : (v : Value) → IsLike v v
like-itself (list a ps) = (ps, refl)
like-itself (dict a ms) = (ms, refl)
like-itself _ = refl

pub like-made : (table : Table) (t : ℕ) (x : Option Value) (s : Value) → Makes table t x s → IfSome x (λ v. IsLike v s)
like-made table _ _ _ (string t s e) = refl
like-made table _ _ _ (whole t z e) = refl
like-made table _ _ _ (truth t b e) = refl
like-made table _ _ _ (nothing t e) = refl
like-made table _ _ _ (literal t l v e same) = like-itself v
like-made table _ _ _ (enumeration t ts s e among) = refl
like-made table _ _ _ (identifier t s e) = refl
like-made table _ _ _ (identifier_number t z e) = refl
like-made table _ _ _ (reference t u v e key) = like-itself v
like-made table _ _ _ (safe t u v e key) = like-itself v
like-made table _ _ _ (safe_of_null t u e own) = refl
like-made table _ _ _ (safe_absent t u e own) = tt
like-made table _ _ _ (frozen t v e) = like-itself v
like-made table _ _ _ (frozen_absent t e) = tt
like-made table _ _ _ (optional t u d v s e made) = like-made table u.0 (Some v) s made
like-made table _ _ _ (optional_absent t u d s e made light) = tt
like-made table _ _ _ (maybe_of_null t shape u e is) = refl
like-made table _ _ _ (maybe_absent t shape u e is) = tt
like-made table _ _ _ (maybe_other t shape u v s e is other made) = like-made table u.0 (Some v) s made
like-made table _ _ _ (union t ms m v s e chose made) = like-made table m.0 (Some v) s made
like-made table _ _ _ (refinement t u cs v e based admitted) = like-itself v
like-made table _ _ _ (array t u given made e items) = (made, refl)
like-made table _ _ _ (array_absent t u e) = tt
like-made table _ _ _ (map t u given made e values) = (made, refl)
like-made table _ _ _ (map_absent t u e) = tt
like-made table _ _ _ (model t m given made e each) = (made, refl)
like-made table _ _ _ (name t u x s e made) = like-made table u.0 x s made

-- a maybe is no name and no model
maybe-named : (shape : Shape) (u w : TypeNo) → IsMaybe shape u → ¬ (shape ≡ Named w)
maybe-named _ _ w (maybe u) = λ h. cc
maybe-named _ _ w (maybe_null u) = λ h. cc

maybe-model : (shape : Shape) (u : TypeNo) (m : ModelNo) → IsMaybe shape u → ¬ (shape ≡ Model m)
maybe-model _ _ m (maybe u) = λ h. cc
maybe-model _ _ m (maybe_null u) = λ h. cc

some-same : {A : Type 0} (o : Option A) (x y : A) → o ≡ Some x → o ≡ Some y → x ≡ y
some-same o x y e f = cc

-- a name makes what the type makes that it stands for
name-made : (table : Table) (w : TypeNo) (t : ℕ) (x : Option Value) (s : Value) → Makes table t x s → shape_at table t ≡ Some (Named w) → Makes table w.0 x s
name-made table w _ _ _ (string t s e) h = cc
name-made table w _ _ _ (whole t z e) h = cc
name-made table w _ _ _ (truth t b e) h = cc
name-made table w _ _ _ (nothing t e) h = cc
name-made table w _ _ _ (literal t l v e same) h = cc
name-made table w _ _ _ (enumeration t ts s e among) h = cc
name-made table w _ _ _ (identifier t s e) h = cc
name-made table w _ _ _ (identifier_number t z e) h = cc
name-made table w _ _ _ (reference t u v e key) h = cc
name-made table w _ _ _ (safe t u v e key) h = cc
name-made table w _ _ _ (safe_of_null t u e own) h = cc
name-made table w _ _ _ (safe_absent t u e own) h = cc
name-made table w _ _ _ (frozen t v e) h = cc
name-made table w _ _ _ (frozen_absent t e) h = cc
name-made table w _ _ _ (optional t u d v s e made) h = cc
name-made table w _ _ _ (optional_absent t u d s e made light) h = cc
name-made table w _ _ _ (maybe_of_null t shape u e is) h = absurd (maybe-named shape u w is (some-same (shape_at table t) shape (Named w) e h))
name-made table w _ _ _ (maybe_absent t shape u e is) h = absurd (maybe-named shape u w is (some-same (shape_at table t) shape (Named w) e h))
name-made table w _ _ _ (maybe_other t shape u v s e is other made) h = absurd (maybe-named shape u w is (some-same (shape_at table t) shape (Named w) e h))
name-made table w _ _ _ (union t ms m v s e chose made) h = cc
name-made table w _ _ _ (refinement t u cs v e based admitted) h = cc
name-made table w _ _ _ (array t u given made e items) h = cc
name-made table w _ _ _ (array_absent t u e) h = cc
name-made table w _ _ _ (map t u given made e values) h = cc
name-made table w _ _ _ (map_absent t u e) h = cc
name-made table w _ _ _ (model t m given made e each) h = cc
name-made table w _ _ _ (name t u x s e made) h =
    let same : u ≡ w = cc in
    let P : TypeNo → Type 0 = λ r. Makes table r.0 x s in
    subst P same made

named_step-made : (table : Table) (further : ℕ → ℕ) (t : ℕ) (x : Option Value) (s : Value)
    → ((u : ℕ) → Makes table u x s → Makes table (further u) x s)
    → (shape : Option Shape) → shape_at table t ≡ shape → Makes table t x s → Makes table (named_step further t shape) x s
named_step-made table further t x s rest (Some (Named u)) e made = rest u.0 (name-made table u t x s made e)
named_step-made table further t x s rest _ e made = made

-- the type that a type is, names followed, makes the same
pub named_within-made : (table : Table) (n t : ℕ) (x : Option Value) (s : Value) → Makes table t x s → Makes table (named_within table n t) x s
named_within-made table zero t x s made = made
named_within-made table (suc n) t x s made =
    named_step-made table (named_within table n) t x s (λ u h. named_within-made table n u x s h) (shape_at table t) refl made

-- what a model makes of a record
abbrev IsOf : Table → ModelNo → Value → Value → Type 0
IsOf table m (dict a given) s = (made : Fields) × (s ≡ dict tt made) × MakesEach table given (properties_of table m.0) made
IsOf table m _ s = Unit {0}

model-made : (table : Table) (k : ModelNo) (t : ℕ) (x : Option Value) (s : Value) → Makes table t x s → shape_at table t ≡ Some (Model k) → IfSome x (λ v. IsOf table k v s)
model-made table k _ _ _ (string t s e) h = tt
model-made table k _ _ _ (whole t z e) h = tt
model-made table k _ _ _ (truth t b e) h = tt
model-made table k _ _ _ (nothing t e) h = tt
model-made table k _ _ _ (literal t l v e same) h = cc
model-made table k _ _ _ (enumeration t ts s e among) h = tt
model-made table k _ _ _ (identifier t s e) h = tt
model-made table k _ _ _ (identifier_number t z e) h = tt
model-made table k _ _ _ (reference t u v e key) h = cc
model-made table k _ _ _ (safe t u v e key) h = cc
model-made table k _ _ _ (safe_of_null t u e own) h = tt
model-made table k _ _ _ (safe_absent t u e own) h = tt
model-made table k _ _ _ (frozen t v e) h = cc
model-made table k _ _ _ (frozen_absent t e) h = tt
model-made table k _ _ _ (optional t u d v s e made) h = cc
model-made table k _ _ _ (optional_absent t u d s e made light) h = tt
model-made table k _ _ _ (maybe_of_null t shape u e is) h = tt
model-made table k _ _ _ (maybe_absent t shape u e is) h = tt
model-made table k _ _ _ (maybe_other t shape u v s e is other made) h = absurd (maybe-model shape u k is (some-same (shape_at table t) shape (Model k) e h))
model-made table k _ _ _ (union t ms m v s e chose made) h = cc
model-made table k _ _ _ (refinement t u cs v e based admitted) h = cc
model-made table k _ _ _ (array t u given made e items) h = tt
model-made table k _ _ _ (array_absent t u e) h = tt
model-made table k _ _ _ (map t u given made e values) h = cc
model-made table k _ _ _ (map_absent t u e) h = tt
model-made table k _ _ _ (model t m given made e each) h =
    let same : m ≡ k = cc in
    let P : ModelNo → Type 0 = λ n. MakesEach table given (properties_of table n.0) made in
    (made, refl, subst P same each)
model-made table k _ _ _ (name t u x s e made) h = cc

-- what a property is made of stands under its name
abbrev IsUnder : Table → List ℕ → Fields → Fields → Property → Type 0
IsUnder table tag given made p = (v : Value) × (value_at tag made ≡ Some v) × Makes table p.of.0 (value_at tag given) v

each-next : (table : Table) (tag : List ℕ) (given : Fields) (p : Property) (ps : List Property) (v : Value) (made : Fields)
    → Makes table p.of.0 (value_at p.name given) v → (q : Property) → (property_at tag ps ≡ Some q → IsUnder table tag given made q)
    → (b : Bool) → bytes_eq tag p.name ≡ b → (if b then Some p else property_at tag ps) ≡ Some q → IsUnder table tag given (member p.name v made) q
each-next table tag given p ps v made one q later true e h =
    let same : p ≡ q = cc h in
    let P : List ℕ → Type 0 = λ n. Makes table p.of.0 (value_at n given) v in
    let Q : Property → Type 0 = λ r. Makes table r.of.0 (value_at tag given) v in
    (v, rw e, subst Q same (subst P (sym ((bytes_eq-Decides tag p.name).0 e)) one))
each-next table tag given p ps v made one q later false e h = let under = later h in (under.0, rw e under.1, under.2)

each-made : (table : Table) (tag : List ℕ) (given : Fields) (ps : List Property) (made : Fields)
    → MakesEach table given ps made → (q : Property) → property_at tag ps ≡ Some q → IsUnder table tag given made q
each-made table tag _ _ _ (no_more given) q found = cc
each-made table tag _ _ _ (one_more given p ps v made one rest) q found =
    each-next table tag given p ps v made one q (each-made table tag given ps made rest q) (bytes_eq tag p.name) refl found

-- what is made of a scalar is that scalar
scalar-same : (w l s : Value) → is_same w l ≡ true → IsLike w s → s ≡ w
scalar-same (list a ps) l s h like = cc
scalar-same (dict a ms) l s h like = cc
scalar-same null l s h like = like
scalar-same (boolean b) l s h like = like
scalar-same (integer z) l s h like = like
scalar-same (text t) l s h like = like

literal-found : (w : Value) (o : Option Value) → is_literal w o ≡ true → (l : Value) × (o ≡ Some l) × (is_same w l ≡ true)
literal-found w None h = cc
literal-found w (Some l) h = (l, refl, h)

property-found : (table : Table) (o : Option Property) (l : Value) → literal_by table o ≡ Some l → (p : Property) × (o ≡ Some p)
property-found table None l h = cc
property-found table (Some p) l h = (p, refl)

model-found : (shape : Option Shape) (k : ModelNo) → model_of_shape shape ≡ Some k → shape ≡ Some (Model k)
model-found (Some (Model m)) k h = let same : m ≡ k = cc h in ap (λ n. Some (Model n)) same
model-found _ k h = cc

-- the model that a tag tells is a model among the members
abbrev IsTagged : Table → List ℕ → Value → TypeNo → Type 0
IsTagged table tag w m = (k : ModelNo) × (shape_by table m.0 ≡ Some (Model k)) × (is_literal w (literal_at table tag k) ≡ true)

tagged-next : (table : Table) (t : TypeNo) (ts : List TypeNo) (tag : List ℕ) (w : Value) (m : TypeNo)
    → (tagged table (models_of table ts) tag w ≡ Some m → IsTagged table tag w m)
    → (found : Option ModelNo) → model_of_shape (shape_by table t.0) ≡ found → tagged table (model_before t found (models_of table ts)) tag w ≡ Some m → IsTagged table tag w m
tagged-next table t ts tag w m rest None e h = rest h
tagged-next table t ts tag w m rest (Some k) e h = by_test (is_literal w (literal_at table tag k)) refl h
  where
    by_test : (b : Bool) → is_literal w (literal_at table tag k) ≡ b → (if b then Some t else tagged table (models_of table ts) tag w) ≡ Some m → IsTagged table tag w m
    by_test true f h =
        let same : t ≡ m = cc h in
        let P : TypeNo → Type 0 = λ r. shape_by table r.0 ≡ Some (Model k) in
        (k, subst P same (model-found (shape_by table t.0) k e), f)
    by_test false f h = rest h

tagged-found : (table : Table) (ts : List TypeNo) (tag : List ℕ) (w : Value) (m : TypeNo) → tagged table (models_of table ts) tag w ≡ Some m → IsTagged table tag w m
tagged-found table [] tag w m h = cc
tagged-found table (t ∷ ts) tag w m h = tagged-next table t ts tag w m (tagged-found table ts tag w m) (model_of_shape (shape_by table t.0)) refl h

-- what the model makes that a tag tells has the same value under the tag
kept-under : (table : Table) (ts : List TypeNo) (tag : List ℕ) (given : Fields) (w : Value) (m : TypeNo) (s : Value)
    → value_at tag given ≡ Some w → tagged table (models_of table ts) tag w ≡ Some m → Makes table m.0 (Some (dict tt given)) s
    → (made : Fields) × (s ≡ dict tt made) × (value_at tag made ≡ Some w)
kept-under table ts tag given w m s h e made =
    let is = tagged-found table ts tag w m e in
    let k = is.0 in
    let l = literal-found w (literal_at table tag k) is.2 in
    let p = property-found table (property_at tag (properties_of table k.0)) l.0 l.1 in
    let inside = model-made table k (named_by table m.0) (Some (dict tt given)) s (named_within-made table (length table.shapes) m.0 (Some (dict tt given)) s made) is.1 in
    let under = each-made table tag given (properties_of table k.0) inside.0 inside.2 p.0 p.1 in
    let P : Option Value → Type 0 = λ x. Makes table p.0.of.0 x under.0 in
    let same : under.0 ≡ w = scalar-same w l.0 under.0 l.2 (like-made table p.0.of.0 (Some w) under.0 (subst P h under.2)) in
    (inside.0, inside.1, under.1 ∙ ap Some same)

module _ (table : Table) (ms : List TypeNo) (m : TypeNo) (given : Fields) (s : Value) (made : Makes table m.0 (Some (dict tt given)) s)
    (no_map : find (λ t. is_map (shape_by table t.0)) ms ≡ None) where
  by_field : (tag : List ℕ) → tag_of table (models_of table ms) ≡ Some tag → (x : Option Value) → value_at tag given ≡ x
      → chosen_by_field table (models_of table ms) tag x ≡ Some m → chosen table ms s ≡ Some m
  by_field tag g None h e = cc
  by_field tag g (Some w) h e =
      let kept = kept-under table ms tag given w m s h e made in
      let P : Value → Type 0 = λ r. chosen table ms r ≡ Some m in
      subst P (sym kept.1) (rw (no_map, g, kept.2) e)

  by_tag : (o : Option (List ℕ)) → tag_of table (models_of table ms) ≡ o → chosen_by_tag table (models_of table ms) o given ≡ Some m → chosen table ms s ≡ Some m
  by_tag None g e =
      let like = like-made table m.0 (Some (dict tt given)) s made in
      let P : Value → Type 0 = λ r. chosen table ms r ≡ Some m in
      subst P (sym like.1) (rw (no_map, g) e)
  by_tag (Some tag) g e = by_field tag g (value_at tag given) refl e

record-again : (table : Table) (ms : List TypeNo) (m : TypeNo) (given : Fields) (s : Value) → Makes table m.0 (Some (dict tt given)) s
    → (found : Option TypeNo) → find (λ t. is_map (shape_by table t.0)) ms ≡ found → chosen_for_record table ms found given ≡ Some m → chosen table ms s ≡ Some m
record-again table ms m given s made None f e = by_tag table ms m given s made f (tag_of table (models_of table ms)) refl e
record-again table ms m given s made (Some t) f e =
    let like = like-made table m.0 (Some (dict tt given)) s made in
    let P : Value → Type 0 = λ r. chosen table ms r ≡ Some m in
    subst P (sym like.1) (rw f e)

-- the same member is chosen
pub chosen-made : (table : Table) (ms : List TypeNo) (m : TypeNo) (v s : Value) → chosen table ms v ≡ Some m → Makes table m.0 (Some v) s → chosen table ms s ≡ Some m
chosen-made table ms m (list a ps) s e made =
    let P : Value → Type 0 = λ r. chosen table ms r ≡ Some m in subst P (sym (like-made table m.0 (Some (list a ps)) s made).1) e
chosen-made table ms m (dict a given) s e made = record-again table ms m given s made (find (λ t. is_map (shape_by table t.0)) ms) refl e
chosen-made table ms m null s e made = let P : Value → Type 0 = λ r. chosen table ms r ≡ Some m in subst P (sym (like-made table m.0 (Some null) s made)) e
chosen-made table ms m (boolean b) s e made = let P : Value → Type 0 = λ r. chosen table ms r ≡ Some m in subst P (sym (like-made table m.0 (Some (boolean b)) s made)) e
chosen-made table ms m (integer z) s e made = let P : Value → Type 0 = λ r. chosen table ms r ≡ Some m in subst P (sym (like-made table m.0 (Some (integer z)) s made)) e
chosen-made table ms m (text t) s e made = let P : Value → Type 0 = λ r. chosen table ms r ≡ Some m in subst P (sym (like-made table m.0 (Some (text t)) s made)) e

pub chosen-again : (table : Table) (ms : List TypeNo) (m : TypeNo) (v s : Value) → ((k : ℕ) → AreNamed (properties_of table k))
    → chosen table ms v ≡ Some m → Makes table m.0 (Some v) s → chosen table ms s ≡ Some m
chosen-again table ms m v s named e made = chosen-made table ms m v s e made

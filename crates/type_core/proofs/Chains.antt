-- Walks through names, optional types, maybes and unions end, where no type leads back to itself.
use Rattle.std.proofs.Common.{◌≡◌, ℕ, zero, suc, ◌+◌, ◌<◌, ◌≤◌, ◌||◌, List, [], ◌∷◌, length, find, cond, Bool, true, false, Contains, Option, Some, None, if◌then◌else◌, eqb, eqb-true, arith, refl, sym, ◌∙◌, ap, subst, ◌&&◌}
use Rattle.std.specs.List.{list_any, AllByRecursion, IsDistinct}
use Rattle.std.proofs.lemmas.Option.{slice_get_within}
use Rattle.std.proofs.lemmas.Map.Steps.{length-le_from_distinct_below}
use Rattle.snap_core.specs.Value.{Value, null, boolean, integer, text, list, dict, Fields}
use Rattle.snap_core.specs.declared.number.TypeNo.{TypeNo}
use Rattle.snap_core.specs.declared.number.ModelNo.{ModelNo}
use Rattle.type_table.specs.declared.shape.Shape.{Shape}
use Rattle.type_table.specs.declared.shape.Shape.TheVariants.{Optional, Maybe, MaybeNull, Union, Safe, Named}
use Rattle.type_table.specs.Table.{Table, shape_at, leads_of}
use Rattle.type_table.specs.Names.{LeadsTo, at_once, by_way, named_step, named_within, named_by, shape_by}
use Rattle.type_table.specs.Unions.{is_map, model_of_shape, model_before, models_of, literal_at, is_literal, tag_of, tagged, only_model, chosen_by_field, chosen_by_tag, chosen_for_record, chosen}
use Rattle.snap_core.specs.Value.{value_at}
use Rattle.type_table.specs.Identifiers.{is_safe, is_firm, of_property}
use Rattle.type_core.specs.Judging.{is_null, shape_for, judged_by_choice, judged_step, judged_within, judged_by}

-- the first of a list, and one of those after it
pub Contains-first : {X : Type 0} (x : X) (xs : List X) → Contains (x ∷ xs) x
Contains-first x xs = (0, omega arith, refl)

pub Contains-later : {X : Type 0} (x : X) (xs : List X) (y : X) → Contains xs y → Contains (x ∷ xs) y
Contains-later x xs y h = (suc h.0, omega (arith, h.1), h.2)

-- what is found stands in the list
pub find-member : {X : Type 0} (p : X → Bool) (xs : List X) (x : X) → find p xs ≡ Some x → Contains xs x
find-member p [] x h = cc
find-member {X} p (y ∷ ys) x h =
    elim (p y) as (λ b. cond b (Some y) (find p ys) ≡ Some x → Contains (y ∷ ys) x) [
      | true ↦ λ e. let same : y ≡ x = cc e in let P : X → Type 0 = Contains (y ∷ ys) in subst P same (Contains-first y ys)
      | false ↦ λ e. Contains-later y ys x (find-member p ys x e)
    ] h

-- a fact of the type of each of the models
abbrev pub Each : (TypeNo → Type 0) → List (TypeNo × ModelNo) → Type 0
Each P [] = Unit {0}
Each P (m ∷ ms) = P m.0 × Each P ms

pub Each-models_of : (table : Table) (P : TypeNo → Type 0) (ts : List TypeNo) → ((t : TypeNo) → Contains ts t → P t) → Each P (models_of table ts)
Each-models_of table P [] h = tt
Each-models_of table P (t ∷ ts) h =
    by_model (model_of_shape (shape_by table t.0)) (h t (Contains-first t ts)) (Each-models_of table P ts (λ u c. h u (Contains-later t ts u c)))
  where
    by_model : (m : Option ModelNo) → P t → Each P (models_of table ts) → Each P (model_before t m (models_of table ts))
    by_model None one rest = rest
    by_model (Some m) one rest = (one, rest)

pub Each-tagged : (table : Table) (P : TypeNo → Type 0) (ms : List (TypeNo × ModelNo)) (tag : List ℕ) (v : Value) (t : TypeNo)
    → Each P ms → tagged table ms tag v ≡ Some t → P t
Each-tagged table P [] tag v t each h = cc
Each-tagged table P (m ∷ ms) tag v t each h =
    elim (is_literal v (literal_at table tag m.1)) as (λ b. (if b then Some m.0 else tagged table ms tag v) ≡ Some t → P t) [
      | true ↦ λ e. let same : m.0 ≡ t = cc e in subst P same each.0
      | false ↦ λ e. Each-tagged table P ms tag v t each.1 e
    ] h

pub Each-only_model : (P : TypeNo → Type 0) (ms : List (TypeNo × ModelNo)) (t : TypeNo) → Each P ms → only_model ms ≡ Some t → P t
Each-only_model P [] t each h = cc
Each-only_model P (m ∷ []) t each h = let same : m.0 ≡ t = cc in subst P same each.0
Each-only_model P (m ∷ n ∷ ms) t each h = cc

pub Each-chosen_by_tag : (table : Table) (P : TypeNo → Type 0) (ms : List (TypeNo × ModelNo)) (tag : Option (List ℕ)) (given : Fields) (t : TypeNo)
    → Each P ms → chosen_by_tag table ms tag given ≡ Some t → P t
Each-chosen_by_tag table P ms None given t each h = Each-only_model P ms t each h
Each-chosen_by_tag table P ms (Some tag) given t each h = by_value (value_at tag given) h
  where
    by_value : (x : Option Value) → chosen_by_field table ms tag x ≡ Some t → P t
    by_value None e = cc
    by_value (Some v) e = Each-tagged table P ms tag v t each e

-- the member that a value chooses is one of the union's
pub chosen-member : (table : Table) (ms : List TypeNo) (v : Value) (t : TypeNo) → chosen table ms v ≡ Some t → Contains ms t
chosen-member table ms (dict a given) t h = by_map (find (λ t. is_map (shape_by table t.0)) ms) refl h
  where
    by_map : (o : Option TypeNo) → find (λ t. is_map (shape_by table t.0)) ms ≡ o → chosen_for_record table ms o given ≡ Some t → Contains ms t
    by_map None found e =
        Each-chosen_by_tag table (Contains ms) (models_of table ms) (tag_of table (models_of table ms)) given t (Each-models_of table (Contains ms) ms (λ u c. c)) e
    by_map (Some u) found e = find-member (λ t. is_map (shape_by table t.0)) ms t (found ∙ e)
chosen-member table ms null t h = find-member _ ms t h
chosen-member table ms (boolean b) t h = find-member _ ms t h
chosen-member table ms (integer z) t h = find-member _ ms t h
chosen-member table ms (text s) t h = find-member _ ms t h
chosen-member table ms (list a ps) t h = find-member _ ms t h

-- what leads to a type leads to those that it leads on to
pub LeadsTo-then : (table : Table) (t u : ℕ) → LeadsTo table t u
    → (shape : Shape) (w : TypeNo) → shape_at table u ≡ Some shape → Contains (leads_of shape) w → LeadsTo table t w.0
LeadsTo-then table _ _ (at_once t shape u e h) next w f g = by_way t shape u w.0 e h (at_once u.0 next w f g)
LeadsTo-then table _ _ (by_way t shape u v e h rest) next w f g = by_way t shape u w.0 e h (LeadsTo-then table u.0 v rest next w f g)

-- no type leads back to itself
abbrev pub IsLoopless : Table → Type 0
IsLoopless table = (t : ℕ) → ¬ (LeadsTo table t t)

-- different types of the table that each lead to this one
pub record IsTrail (table : Table) (seen : List ℕ) (t : ℕ) : Type 0 where
  pub distinct : IsDistinct eqb seen
  pub leads : (q : ℕ) → list_any (eqb q) seen ≡ true → LeadsTo table q t
  pub within : (q : ℕ) → list_any (eqb q) seen ≡ true → q < length table.shapes

pub IsTrail-none : (table : Table) (t : ℕ) → IsTrail table [] t
unfolding IsDistinct
IsTrail-none table t = record { distinct = tt; leads = λ q h. cc; within = λ q h. cc }

-- a number that isn't among others differs from each
differs : (t : ℕ) (seen : List ℕ) → list_any (eqb t) seen ≡ false → AllByRecursion (λ y. eqb t y ≡ false) seen
differs t [] h = tt
differs t (q ∷ seen) h = by_test (eqb t q) refl h (differs t seen)
  where
    by_test : (b : Bool) → eqb t q ≡ b → (b || list_any (eqb t) seen) ≡ false
        → (list_any (eqb t) seen ≡ false → AllByRecursion (λ y. eqb t y ≡ false) seen) → (eqb t q ≡ false) × AllByRecursion (λ y. eqb t y ≡ false) seen
    by_test true e g rest = cc
    by_test false e g rest = (e, rest g)

-- the type itself is none of those before it
pub IsDistinct-trail : (table : Table) → IsLoopless table → (seen : List ℕ) (t : ℕ) → IsTrail table seen t → IsDistinct eqb (t ∷ seen)
unfolding IsDistinct
IsDistinct-trail table loopless seen t trail = by_test (list_any (eqb t) seen) refl
  where
    by_test : (b : Bool) → list_any (eqb t) seen ≡ b → AllByRecursion (λ y. eqb t y ≡ false) seen × IsDistinct eqb seen
    by_test true e = absurd (loopless t (trail.leads t e))
    by_test false e = (differs t seen e, trail.distinct)

-- what is the first of a list or among the others
among : (P : ℕ → Type 0) (t : ℕ) (seen : List ℕ) → P t → ((q : ℕ) → list_any (eqb q) seen ≡ true → P q)
    → (q : ℕ) → list_any (eqb q) (t ∷ seen) ≡ true → P q
among P t seen one others q h = by_test (eqb q t) refl h
  where
    by_test : (b : Bool) → eqb q t ≡ b → (b || list_any (eqb q) seen) ≡ true → P q
    by_test true e g = subst P (sym (eqb-true q t e)) one
    by_test false e g = others q g

pub within-trail : (table : Table) (seen : List ℕ) (t : ℕ) (shape : Shape) → IsTrail table seen t → shape_at table t ≡ Some shape
    → (q : ℕ) → list_any (eqb q) (t ∷ seen) ≡ true → q < length table.shapes
within-trail table seen t shape trail here = among (λ q. q < length table.shapes) t seen (slice_get_within table.shapes t shape here) trail.within

-- one step further
pub IsTrail-more : (table : Table) → IsLoopless table → (seen : List ℕ) (t : ℕ) (shape : Shape) (u : TypeNo)
    → IsTrail table seen t → shape_at table t ≡ Some shape → Contains (leads_of shape) u → IsTrail table (t ∷ seen) u.0
IsTrail-more table loopless seen t shape u trail here leads = record {
  distinct = IsDistinct-trail table loopless seen t trail;
  leads = among (λ q. LeadsTo table q u.0) t seen (at_once t shape u here leads) (λ q h. LeadsTo-then table q t (trail.leads q h) shape u here leads);
  within = within-trail table seen t shape trail here;
}

-- before a type of the table there are fewer types than the table has
pub IsTrail-short : (table : Table) → IsLoopless table → (seen : List ℕ) (t : ℕ) (shape : Shape)
    → IsTrail table seen t → shape_at table t ≡ Some shape → length seen < length table.shapes
IsTrail-short table loopless seen t shape trail here =
    length-le_from_distinct_below (t ∷ seen) (length table.shapes) (IsDistinct-trail table loopless seen t trail) (within-trail table seen t shape trail here)

-- two walks that go on alike after a step go on alike before it
pub judged_step-same : (table : Table) (v : Value) (f g : ℕ → Option Shape) (shape : Shape)
    → ((u : TypeNo) → Contains (leads_of shape) u → f u.0 ≡ g u.0) → judged_step table v f (Some shape) ≡ judged_step table v g (Some shape)
judged_step-same table v f g (Named u) same = same u (Contains-first u [])
judged_step-same table v f g (Optional u d) same = same u (Contains-first u [])
judged_step-same table v f g (Maybe u) same = rw (same u (Contains-first u []))
judged_step-same table v f g (MaybeNull u) same = rw (same u (Contains-first u []))
judged_step-same table v f g (Union ms) same = by_choice (chosen table ms v) refl
  where
    by_choice : (o : Option TypeNo) → chosen table ms v ≡ o → judged_by_choice f o ≡ judged_by_choice g o
    by_choice None e = refl
    by_choice (Some t) e = same t (chosen-member table ms v t e)
judged_step-same table v f g shape same = refl

pub named_step-same : (f g : ℕ → ℕ) (t : ℕ) (shape : Shape) → ((u : TypeNo) → Contains (leads_of shape) u → f u.0 ≡ g u.0)
    → named_step f t (Some shape) ≡ named_step g t (Some shape)
named_step-same f g t (Named u) same = same u (Contains-first u [])
named_step-same f g t shape same = refl

-- the shape of a type for a value is the type's shape, where there is one
pub shape_for-is : (table : Table) (v : Value) (t : ℕ) (shape : Shape) → shape_for table v t ≡ Some shape → shape_at table t ≡ Some shape
shape_for-is table v t shape h = by_test (is_firm table t && is_null v) h
  where
    by_test : (b : Bool) → (if b then None else shape_at table t) ≡ Some shape → shape_at table t ≡ Some shape
    by_test true e = cc
    by_test false e = e

pub shape_for-at : (table : Table) (v : Value) (t : ℕ) (shape : Shape) → is_safe (Some shape) ≡ false → shape_at table t ≡ Some shape
    → shape_for table v t ≡ Some shape
shape_for-at table v t shape other e = rw (e, other) refl

-- null is there for a safe reference of a property
pub shape_for-property : (table : Table) (v : Value) (t : ℕ) (u : TypeNo) → shape_at table t ≡ Some (Safe u) → of_property table t ≡ true
    → shape_for table v t ≡ Some (Safe u)
shape_for-property table v t u e own = rw (e, own) refl

pub shape_for-other : (table : Table) (v : Value) (t : ℕ) (u : TypeNo) → shape_at table t ≡ Some (Safe u) → is_null v ≡ false
    → shape_for table v t ≡ Some (Safe u)
shape_for-other table v t u e other = by_test (is_firm table t)
  where
    by_test : (b : Bool) → (if b && is_null v then None else shape_at table t) ≡ Some (Safe u)
    by_test true = rw (other, e) refl
    by_test false = e

pub property-not_firm : (table : Table) (t : ℕ) (u : TypeNo) → shape_at table t ≡ Some (Safe u) → is_firm table t ≡ false → of_property table t ≡ true
property-not_firm table t u e h = by_test (of_property table t) refl
  where
    by_test : (b : Bool) → of_property table t ≡ b → of_property table t ≡ true
    by_test true own = own
    by_test false own = let firm : is_firm table t ≡ true = rw (e, own) refl in cc

pub shape_for-null : (table : Table) (t : ℕ) (u : TypeNo) → shape_for table null t ≡ Some (Safe u) → of_property table t ≡ true
shape_for-null table t u h = by_test (of_property table t) refl
  where
    by_test : (b : Bool) → of_property table t ≡ b → of_property table t ≡ true
    by_test true own = own
    by_test false own =
        let none : shape_for table null t ≡ None = rw (shape_for-is table null t (Safe u) h, own) refl in
        cc

-- after enough steps one more changes nothing
pub judged_within-stays : (table : Table) → IsLoopless table → (v : Value) (n : ℕ) (seen : List ℕ) (t : ℕ)
    → IsTrail table seen t → length table.shapes ≤ n + length seen → judged_within table v n t ≡ judged_within table v (suc n) t
judged_within-stays table loopless v zero seen t trail enough = by_shape (shape_for table v t) refl
  where
    by_shape : (o : Option Shape) → shape_for table v t ≡ o → None ≡ judged_step table v (judged_within table v zero) o
    by_shape None e = refl
    by_shape (Some shape) e = let short = IsTrail-short table loopless seen t shape trail (shape_for-is table v t shape e) in absurd (omega arith)
judged_within-stays table loopless v (suc n) seen t trail enough =
    by_shape (shape_for table v t) refl (λ shape u e h. judged_within-stays table loopless v n (t ∷ seen) u.0 (IsTrail-more table loopless seen t shape u trail e h) (omega arith))
  where
    by_shape : (o : Option Shape) → shape_for table v t ≡ o
        → ((shape : Shape) (u : TypeNo) → shape_at table t ≡ Some shape → Contains (leads_of shape) u → judged_within table v n u.0 ≡ judged_within table v (suc n) u.0)
        → judged_step table v (judged_within table v n) o ≡ judged_step table v (judged_within table v (suc n)) o
    by_shape None e further = refl
    by_shape (Some shape) e further = judged_step-same table v (judged_within table v n) (judged_within table v (suc n)) shape (λ u h. further shape u (shape_for-is table v t shape e) h)

pub named_within-stays : (table : Table) → IsLoopless table → (n : ℕ) (seen : List ℕ) (t : ℕ)
    → IsTrail table seen t → length table.shapes ≤ n + length seen → named_within table n t ≡ named_within table (suc n) t
named_within-stays table loopless zero seen t trail enough = by_shape (shape_at table t) refl
  where
    by_shape : (o : Option Shape) → shape_at table t ≡ o → t ≡ named_step (named_within table zero) t o
    by_shape None e = refl
    by_shape (Some shape) e = let short = IsTrail-short table loopless seen t shape trail e in absurd (omega arith)
named_within-stays table loopless (suc n) seen t trail enough =
    by_shape (shape_at table t) refl (λ shape u e h. named_within-stays table loopless n (t ∷ seen) u.0 (IsTrail-more table loopless seen t shape u trail e h) (omega arith))
  where
    by_shape : (o : Option Shape) → shape_at table t ≡ o
        → ((shape : Shape) (u : TypeNo) → shape_at table t ≡ Some shape → Contains (leads_of shape) u → named_within table n u.0 ≡ named_within table (suc n) u.0)
        → named_step (named_within table n) t o ≡ named_step (named_within table (suc n)) t o
    by_shape None e further = refl
    by_shape (Some shape) e further = named_step-same (named_within table n) (named_within table (suc n)) t shape (λ u h. further shape u e h)

-- so what judges a value at a type is one step, and then what judges it at the next
pub judged_by-step : (table : Table) → IsLoopless table → (v : Value) (t : ℕ) → judged_by table v t ≡ judged_step table v (judged_by table v) (shape_for table v t)
judged_by-step table loopless v t = judged_within-stays table loopless v (length table.shapes) [] t (IsTrail-none table t) (omega arith)

pub named_by-step : (table : Table) → IsLoopless table → (t : ℕ) → named_by table t ≡ named_step (named_by table) t (shape_at table t)
named_by-step table loopless t = named_within-stays table loopless (length table.shapes) [] t (IsTrail-none table t) (omega arith)

-- the same at each kind of shape
pub judged_by-for : (table : Table) → IsLoopless table → (v : Value) (t : ℕ) (shape : Shape) → shape_for table v t ≡ Some shape
    → judged_by table v t ≡ judged_step table v (judged_by table v) (Some shape)
judged_by-for table loopless v t shape e = judged_by-step table loopless v t ∙ ap (judged_step table v (judged_by table v)) e

pub judged_by-at : (table : Table) → IsLoopless table → (v : Value) (t : ℕ) (shape : Shape) → shape_at table t ≡ Some shape → is_safe (Some shape) ≡ false
    → judged_by table v t ≡ judged_step table v (judged_by table v) (Some shape)
judged_by-at table loopless v t shape e other = judged_by-for table loopless v t shape (shape_for-at table v t shape other e)

pub named_by-at : (table : Table) → IsLoopless table → (t : ℕ) (shape : Shape) → shape_at table t ≡ Some shape
    → named_by table t ≡ named_step (named_by table) t (Some shape)
named_by-at table loopless t shape e = named_by-step table loopless t ∙ ap (named_step (named_by table) t) e

-- Steps of a walk: what is behind has no fault, and what is ahead has all the faults of the whole.
use Rattle.std.proofs.Common.{◌≡◌, ℕ, ◌+◌, ◌<◌, ◌≤◌, List, [], ◌∷◌, ◌++◌, length, get_or, drop, Result, Ok, Err, decimal, sym, ◌∙◌, ap, subst, drop-cons, add-one}
use Rattle.std.specs.Prelude.{IsErrAnd}
use Rattle.std.proofs.lemmas.List.{drop_all}
use Rattle.snap_core.specs.Value.{Value, no_parts, part, no_members, member, Items, Fields}
use Rattle.snap_core.specs.declared.snap.Snap.{Snap}
use Rattle.snap_core.specs.declared.snap.Field.{Field}
use Rattle.snap_core.specs.View.{view, items_view, fields_view}
use Rattle.snap_core.proofs.Views.{entry-fields}
use Rattle.expr_form.specs.declared.fault.Fault.{Fault}
use Rattle.schema_form.specs.declared.fault.FormError.{FormError}
use Rattle.schema_form.specs.declared.fault.FormError.TheVariants.{Memory, Wrong}
use Rattle.pointer_core.specs.declared.schema_rule.SchemaRule.{SchemaRule}
use Rattle.schema_form.specs.Faults.{first, here, under}
use Rattle.schema_form.specs.Outcome.{Finds, Tells}

-- the first of some faults is the first also of those with more behind them
pub Tells-more : (e : FormError) (a b : List Fault) → Tells e a → Tells e (a ++ b)
Tells-more Memory a b h = tt
Tells-more (Wrong f) [] b h = absurd cc
Tells-more (Wrong f) (g ∷ a) b h = h

-- behind what has no fault
pub Tells-behind : (e : FormError) (a b : List Fault) → a ≡ [] → Tells e b → Tells e (a ++ b)
Tells-behind e a b none h = let P : List Fault → Type 0 = λ x. Tells e (x ++ b) in subst P (sym none) h

-- a rule that isn't met at the place itself
pub tells-here : (e : FormError) (rule : SchemaRule) (faults : List Fault) → e ≡ Wrong (record { path = []; rule = rule }) → faults ≡ here rule → Tells e faults
tells-here e rule faults is same = let P : FormError → Type 0 = λ x. Tells x faults in subst P (sym is) (ap first same)

pub tells-ahead : (e : FormError) (rule : SchemaRule) (rest faults : List Fault) → e ≡ Wrong (record { path = []; rule = rule }) → faults ≡ here rule ++ rest → Tells e faults
tells-ahead e rule rest faults is same = let P : FormError → Type 0 = λ x. Tells x faults in subst P (sym is) (ap first same)

-- an error is handed on as it is
pub handed-on : {T : Type 0} (e : FormError) (r : Result T FormError) (faults : List Fault) → IsErrAnd r (λ x. x ≡ e) → Tells e faults → Finds r faults
handed-on e (Ok v) faults is h = absurd is
handed-on e (Err x) faults is h = let P : FormError → Type 0 = λ y. Tells y faults in subst P (sym is) h

-- what is found first is found also with more behind it
pub Finds-ahead : {T : Type 0} (r : Result T FormError) (a b : List Fault) → (a ≡ [] → ⊥) → Finds r a → Finds r (a ++ b)
Finds-ahead (Ok v) a b some h = absurd (some h)
Finds-ahead (Err e) a b some h = Tells-more e a b h

pub Finds-behind : {T : Type 0} (r : Result T FormError) (a b : List Fault) → a ≡ [] → Finds r b → Finds r (a ++ b)
Finds-behind {T} r a b none h = let P : List Fault → Type 0 = λ x. Finds {T = T} r (x ++ b) in subst P (sym none) h

pub Finds-equal : {T : Type 0} (r : Result T FormError) (a b : List Fault) → b ≡ a → Finds r a → Finds r b
Finds-equal {T} r a b same h = let P : List Fault → Type 0 = Finds {T = T} r in subst P (sym same) h

-- where what stands first has none, the rest has all
pub rest_has_all : (a b whole : List Fault) → whole ≡ a ++ b → a ≡ [] → whole ≡ b
rest_has_all a b whole all none = all ∙ ap (λ x. x ++ b) none

module _ (F : Fields → List Fault) (G : List ℕ → Value → List Fault)
    (step : (k : List ℕ) (v : Value) (ms : Fields) → F (member k v ms) ≡ G k v ++ F ms) where
  pub fields-step : (fs : List Field) (i : ℕ) (f : Field) → i < length fs → f ≡ get_or fs i f
      → F (fields_view (drop i fs)) ≡ G f.key (view f.value) ++ F (fields_view (drop (i + 1) fs))
  fields-step fs i f within here =
      let P : List ℕ × Value → Type 0 = λ e. F (member e.0 e.1 (fields_view (drop (i + 1) fs))) ≡ G f.key (view f.value) ++ F (fields_view (drop (i + 1) fs)) in
      let Q : List Field → Type 0 = λ gs. F (fields_view gs) ≡ G f.key (view f.value) ++ F (fields_view (drop (i + 1) fs)) in
      let left : drop i fs ≡ f ∷ drop (i + 1) fs = rw (add-one, drop-cons fs i f, ← here) in
      subst Q (sym left) (subst P (sym (entry-fields f)) (step f.key (view f.value) (fields_view (drop (i + 1) fs))))

  -- a field without a fault is left behind
  pub fields-passed : (whole : List Fault) (fs : List Field) (i : ℕ) (f : Field) → i < length fs → f ≡ get_or fs i f
      → whole ≡ F (fields_view (drop i fs)) → G f.key (view f.value) ≡ [] → whole ≡ F (fields_view (drop (i + 1) fs))
  fields-passed whole fs i f within here so_far none =
      rest_has_all (G f.key (view f.value)) (F (fields_view (drop (i + 1) fs))) whole (so_far ∙ fields-step fs i f within here) none

  -- the first fault of a field is the first of all
  pub fields-found : (e : FormError) (whole : List Fault) (fs : List Field) (i : ℕ) (f : Field) → i < length fs → f ≡ get_or fs i f
      → whole ≡ F (fields_view (drop i fs)) → Tells e (G f.key (view f.value)) → Tells e whole
  fields-found e whole fs i f within here so_far h =
      let P : List Fault → Type 0 = Tells e in
      subst P (sym (so_far ∙ fields-step fs i f within here)) (Tells-more e (G f.key (view f.value)) (F (fields_view (drop (i + 1) fs))) h)

  pub fields-end : F no_members ≡ [] → (whole : List Fault) (fs : List Field) (i : ℕ) → length fs ≤ i → whole ≡ F (fields_view (drop i fs)) → whole ≡ []
  fields-end none whole fs i past so_far =
      let P : List Field → Type 0 = λ gs. whole ≡ F (fields_view gs) in
      subst P (drop_all i fs past) so_far ∙ none

module _ (F : ℕ → Items → List Fault) (G : Value → List Fault)
    (step : (i : ℕ) (v : Value) (ps : Items) → F i (part v ps) ≡ under (decimal i) (G v) ++ F (i + 1) ps) where
  pub items-step : (vs : List Snap) (i : ℕ) (v : Snap) → i < length vs → v ≡ get_or vs i v
      → F i (items_view (drop i vs)) ≡ under (decimal i) (G (view v)) ++ F (i + 1) (items_view (drop (i + 1) vs))
  items-step vs i v within here =
      let Q : List Snap → Type 0 = λ ws. F i (items_view ws) ≡ under (decimal i) (G (view v)) ++ F (i + 1) (items_view (drop (i + 1) vs)) in
      let left : drop i vs ≡ v ∷ drop (i + 1) vs = rw (add-one, drop-cons vs i v, ← here) in
      subst Q (sym left) (step i (view v) (items_view (drop (i + 1) vs)))

  pub items-passed : (whole : List Fault) (vs : List Snap) (i : ℕ) (v : Snap) → i < length vs → v ≡ get_or vs i v
      → whole ≡ F i (items_view (drop i vs)) → under (decimal i) (G (view v)) ≡ [] → whole ≡ F (i + 1) (items_view (drop (i + 1) vs))
  items-passed whole vs i v within here so_far none =
      rest_has_all (under (decimal i) (G (view v))) (F (i + 1) (items_view (drop (i + 1) vs))) whole (so_far ∙ items-step vs i v within here) none

  pub items-found : (e : FormError) (whole : List Fault) (vs : List Snap) (i : ℕ) (v : Snap) → i < length vs → v ≡ get_or vs i v
      → whole ≡ F i (items_view (drop i vs)) → Tells e (under (decimal i) (G (view v))) → Tells e whole
  items-found e whole vs i v within here so_far h =
      let P : List Fault → Type 0 = Tells e in
      subst P (sym (so_far ∙ items-step vs i v within here)) (Tells-more e (under (decimal i) (G (view v))) (F (i + 1) (items_view (drop (i + 1) vs))) h)

  pub items-end : ((i : ℕ) → F i no_parts ≡ []) → (whole : List Fault) (vs : List Snap) (i : ℕ) → length vs ≤ i → whole ≡ F i (items_view (drop i vs)) → whole ≡ []
  items-end none whole vs i past so_far =
      let P : List Snap → Type 0 = λ ws. whole ≡ F i (items_view ws) in
      subst P (drop_all i vs past) so_far ∙ none i

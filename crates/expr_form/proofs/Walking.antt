-- Steps of a loop over items or fields: what is read of those that are left.
use Rattle.std.proofs.Common.{◌≡◌, ℕ, ◌+◌, ◌<◌, ◌≤◌, List, [], ◌∷◌, length, get_or, drop, sym, ap, subst, drop-cons, add-one}
use Rattle.std.proofs.lemmas.List.{drop_all}
use Rattle.snap_core.specs.Value.{Value, no_parts, part, no_members, member, Items, Fields}
use Rattle.snap_core.specs.declared.snap.Snap.{Snap}
use Rattle.snap_core.specs.declared.snap.Field.{Field}
use Rattle.snap_core.specs.View.{view, items_view, fields_view}
use Rattle.snap_core.proofs.Views.{entry-fields}

module _ {X : Type 0} (F : ℕ → Items → X) (G : ℕ → Value → X → X) (step : (i : ℕ) (v : Value) (ps : Items) → F i (part v ps) ≡ G i v (F (i + 1) ps)) where
  pub items-step : (vs : List Snap) (i : ℕ) (v : Snap) → i < length vs → v ≡ get_or vs i v → F i (items_view (drop i vs)) ≡ G i (view v) (F (i + 1) (items_view (drop (i + 1) vs)))
  items-step vs i v within here =
      let Q : List Snap → Type 0 = λ ws. F i (items_view ws) ≡ G i (view v) (F (i + 1) (items_view (drop (i + 1) vs))) in
      let left : drop i vs ≡ v ∷ drop (i + 1) vs = rw (add-one, drop-cons vs i v, ← here) in
      subst Q (sym left) (step i (view v) (items_view (drop (i + 1) vs)))

  pub items-end : (vs : List Snap) (i : ℕ) → length vs ≤ i → F i (items_view (drop i vs)) ≡ F i no_parts
  items-end vs i past =
      let none : drop i vs ≡ [] = drop_all i vs past in
      ap (λ ws. F i (items_view ws)) none

module _ {X : Type 0} (F : Fields → X) (G : List ℕ → Value → X → X) (step : (k : List ℕ) (v : Value) (ms : Fields) → F (member k v ms) ≡ G k v (F ms)) where
  pub fields-step : (fs : List Field) (i : ℕ) (f : Field) → i < length fs → f ≡ get_or fs i f → F (fields_view (drop i fs)) ≡ G f.key (view f.value) (F (fields_view (drop (i + 1) fs)))
  fields-step fs i f within here =
      let P : List ℕ × Value → Type 0 = λ e. F (member e.0 e.1 (fields_view (drop (i + 1) fs))) ≡ G f.key (view f.value) (F (fields_view (drop (i + 1) fs))) in
      let Q : List Field → Type 0 = λ gs. F (fields_view gs) ≡ G f.key (view f.value) (F (fields_view (drop (i + 1) fs))) in
      let left : drop i fs ≡ f ∷ drop (i + 1) fs = rw (add-one, drop-cons fs i f, ← here) in
      subst Q (sym left) (subst P (sym (entry-fields f)) (step f.key (view f.value) (fields_view (drop (i + 1) fs))))

  pub fields-end : (fs : List Field) (i : ℕ) → length fs ≤ i → F (fields_view (drop i fs)) ≡ F no_members
  fields-end fs i past = ap (λ gs. F (fields_view gs)) (drop_all i fs past)

-- The types of a whole form can be put together, and its root is one of its models.
use Rattle.std.proofs.Common.{◌≡◌, ℕ, suc, ◌+◌, ◌<◌, ◌≤◌, List, [], ◌∷◌, ◌++◌, length, map, slice_get, get_or, Option, Some, None, All, refl, sym, ap, ◌∙◌, subst, arith, length-append}
use Rattle.std.specs.Option.{option_map}
use Rattle.std.proofs.lemmas.List.{length-map}
use Rattle.std.proofs.lemmas.Option.{slice_get-get_or, slice_get-map, same_Some}
use Rattle.std.proofs.lemmas.List.Elements.{All-nil, All-cons, All-head, All-tail, All-weaker, All-get_or}
use Rattle.snap_core.specs.declared.number.TypeNo.{TypeNo}
use Rattle.snap_core.specs.declared.number.ModelNo.{ModelNo}
use Rattle.type_table.specs.declared.shape.Shape.{Shape}
use Rattle.type_table.specs.declared.shape.Shape.TheVariants as shape
use Rattle.type_table.specs.Table.{Plan, NamesModel, HoldsPlain, IsShapeOf, AreTyped, plan_of, leads_of, types_below}
use Rattle.schema_form.specs.declared.form.SchemaForm.{SchemaForm}
use Rattle.schema_form.specs.declared.form.Entry.{Entry}
use Rattle.schema_form.specs.declared.form.EntryNo.{EntryNo}
use Rattle.schema_form.specs.declared.form.Expression.{Expression}
use Rattle.schema_form.specs.declared.form.ModelForm.{ModelForm}
use Rattle.schema_form.specs.declared.form.Word.TheVariants as word
use Rattle.schema_form.specs.declared.form.Plain.{Plain}
use Rattle.schema_form.specs.declared.form.Plain.TheVariants.{Text}
use Rattle.schema_form.specs.declared.form.Holder.{Holder}
use Rattle.schema_form.specs.declared.form.Holder.TheVariants.{Maybe, MaybeNull, Array, Map}
use Rattle.schema_form.specs.declared.form.Kind.{Kind}
use Rattle.schema_form.specs.declared.form.Kind.TheVariants as kind
use Rattle.schema_form.specs.Form.{IsWhole, IsKindIn}
use Rattle.schema_read.specs.Types.{type_of, plain_shape, holder_shape, kind_shape, models_from, own_shapes, kinds_of, table_of, as_model, root_of}
use Rattle.schema_read.specs.Assembly.{NamesEntry, IsKindOf, IsFit, AreWhole}

All-at : {X : Type 0} (P : X → Type 0) (xs : List X) → ((n : ℕ) (x : X) → slice_get xs n ≡ Some x → P x) → All P xs
All-at P xs h k d lt = h k (get_or xs k d) (slice_get-get_or xs k d lt)

All-map : {X Y : Type 0} (f : X → Y) (P : Y → Type 0) (xs : List X) → All (λ x. P (f x)) xs → All P (map f xs)
All-map f P [] h = All-nil P
All-map f P (x ∷ xs) h = All-cons P (f x) (map f xs) (All-head (λ x. P (f x)) x xs h) (All-map f P xs (All-tail (λ x. P (f x)) x xs h))

pub length-models_from : (own : ℕ) (models : List ModelForm) → length (models_from own models) ≡ length models
length-models_from own [] = refl
length-models_from own (m ∷ ms) = ap (λ n. suc n) (length-models_from (own + 1) ms)

abbrev Below : ℕ → List TypeNo → Type 0
Below count us = All (λ (u : TypeNo). u.0 < count) us

none_below : (count : ℕ) → Below count []
none_below count = All-nil (λ (u : TypeNo). u.0 < count)

one_below : (count : ℕ) (u : TypeNo) → u.0 < count → Below count (u ∷ [])
one_below count u h = All-cons (λ (u : TypeNo). u.0 < count) u [] h (none_below count)

-- shapes of a plan, by what they name
made_of : (p : Plan) (s : Shape) → NamesModel p.models s → Below (length p.shapes) (leads_of s) → Below (length p.shapes) (types_below s) → HoldsPlain s
    → IsShapeOf p s
made_of p s model leads parts plain = record { model = model; types = record { leads = leads; parts = parts }; plain = plain }

plain_known : (p : Plan) (plain : Plain) → IsShapeOf p (plain_shape plain)
plain_known p Text = made_of p shape.Str tt (none_below (length p.shapes)) (none_below (length p.shapes)) tt
plain_known p other = made_of p (plain_shape other) tt (none_below (length p.shapes)) (none_below (length p.shapes)) tt

holder_known : (p : Plan) (holder : Holder) (u : TypeNo) → u.0 < length p.shapes → IsShapeOf p (holder_shape holder u)
holder_known p Maybe u h = made_of p (shape.Maybe u) tt (one_below (length p.shapes) u h) (none_below (length p.shapes)) tt
holder_known p MaybeNull u h = made_of p (shape.MaybeNull u) tt (one_below (length p.shapes) u h) (none_below (length p.shapes)) tt
holder_known p Array u h = made_of p (shape.Array u) tt (none_below (length p.shapes)) (one_below (length p.shapes) u h) tt
holder_known p Map u h = made_of p (shape.Map u) tt (none_below (length p.shapes)) (one_below (length p.shapes) u h) tt

module _ (form : SchemaForm) (whole : IsWhole form) where
  long : length form.expressions ≤ length (plan_of (table_of form)).shapes
  long =
      let shapes : List Shape = map (kind_shape form.entries) (kinds_of form.expressions) in
      let own : List Shape = own_shapes 0 form.models in
      omega (
        arith,
        length-map (shapes ++ own) Some,
        length-append shapes own,
        length-map (kinds_of form.expressions) (kind_shape form.entries),
        length-map form.expressions (λ (e : Expression). e.kind),
      )

  -- an entry's type is that of an expression
  type_of-below : (e : EntryNo) → e.0 < length form.entries → (type_of form.entries e).0 < length (plan_of (table_of form)).shapes
  type_of-below e h =
      let numbers : List ℕ = map (λ (one : Entry). one.of.0) form.entries in
      let below : All (λ n. n < length form.expressions) numbers = All-map (λ (one : Entry). one.of.0) (λ n. n < length form.expressions) form.entries whole.typed in
      let known : get_or numbers e.0 0 < length form.expressions =
      All-get_or (λ n. n < length form.expressions) numbers e.0 0 (omega (arith, h, length-map form.entries (λ (one : Entry). one.of.0))) below in
      omega (arith, known, long)

  within : (u : TypeNo) → u.0 < length form.expressions → u.0 < length (plan_of (table_of form)).shapes
  within u h = omega (arith, h, long)

  shape_known : (k : Kind) → IsKindIn form k → IsShapeOf (plan_of (table_of form)) (kind_shape form.entries k)
  shape_known (kind.Word (word.Plain plain)) h = plain_known (plan_of (table_of form)) plain
  shape_known (kind.Word (word.Named e)) h =
      let p : Plan = plan_of (table_of form) in
      let u : TypeNo = type_of form.entries e in
      made_of p (shape.Named u) tt (one_below (length p.shapes) u (type_of-below e h)) (none_below (length p.shapes)) tt
  shape_known (kind.Literal l) h =
      let p : Plan = plan_of (table_of form) in
      made_of p (shape.Literal l) tt (none_below (length p.shapes)) (none_below (length p.shapes)) h
  shape_known (kind.Enumeration texts) h =
      let p : Plan = plan_of (table_of form) in
      made_of p (shape.Enumeration texts) tt (none_below (length p.shapes)) (none_below (length p.shapes)) tt
  shape_known (kind.Optional u d) h =
      let p : Plan = plan_of (table_of form) in
      made_of p (shape.Optional u d) tt (one_below (length p.shapes) u (within u h.0)) (none_below (length p.shapes)) h.1
  shape_known (kind.Holder holder u) h = holder_known (plan_of (table_of form)) holder u (within u h)
  shape_known (kind.Union us) h =
      let p : Plan = plan_of (table_of form) in
      made_of p (shape.Union us) tt
      (All-weaker (λ (u : TypeNo). u.0 < length form.expressions) (λ (u : TypeNo). u.0 < length p.shapes) within us h)
      (none_below (length p.shapes)) tt
  shape_known (kind.Refinement u cs) h =
      let p : Plan = plan_of (table_of form) in
      made_of p (shape.Refinement u cs) tt (one_below (length p.shapes) u (within u h)) (none_below (length p.shapes)) tt
  shape_known (kind.Reference e) h =
      let p : Plan = plan_of (table_of form) in
      let u : TypeNo = type_of form.entries e in
      made_of p (shape.Reference u) tt (none_below (length p.shapes)) (one_below (length p.shapes) u (type_of-below e h)) tt
  shape_known (kind.SafeReference e) h =
      let p : Plan = plan_of (table_of form) in
      let u : TypeNo = type_of form.entries e in
      made_of p (shape.Safe u) tt (none_below (length p.shapes)) (one_below (length p.shapes) u (type_of-below e h)) tt
  shape_known (kind.Model m) h =
      let p : Plan = plan_of (table_of form) in
      made_of p (shape.Model m) (omega (arith, h, length-models_from (length (kinds_of form.expressions)) form.models))
      (none_below (length p.shapes)) (none_below (length p.shapes)) tt

  entry_known : (k : Kind) → IsKindIn form k → NamesEntry (length form.entries) k
  entry_known (kind.Word (word.Named e)) h = h
  entry_known (kind.Reference e) h = h
  entry_known (kind.SafeReference e) h = h
  entry_known _ h = tt

  pub AreWhole-form : AreWhole form.entries (kinds_of form.expressions) form.models
  AreWhole-form = record {
    shapes = All-map (λ (e : Expression). e.kind) (IsKindOf form.entries (plan_of (table_of form))) form.expressions
        (All-at (λ (e : Expression). IsKindOf form.entries (plan_of (table_of form)) e.kind) form.expressions
        (λ n e at. record { entry = entry_known e.kind (whole.kinds n e at); shape = shape_known e.kind (whole.kinds n e at) }));
    known = All-at (IsFit (length (kinds_of form.expressions))) form.models
        (λ n m at. record {
          named = (whole.models n m at).named;
          typed = let P : ℕ → Type 0 = λ count. AreTyped count m.properties in
              subst P (sym (length-map form.expressions (λ (e : Expression). e.kind))) (whole.models n m at).typed;
        });
  }

  model_known : (o : Option Expression) (m : ModelNo) → as_model (option_map (λ (e : Expression). e.kind) o) ≡ Some m
      → (e : Expression) × (o ≡ Some e) × (e.kind ≡ kind.Model m)
  model_known None m h = cc
  model_known (Some e) m h = (e, refl, by_kind e.kind h) where
    by_kind : (k : Kind) → as_model (Some k) ≡ Some m → k ≡ kind.Model m
    by_kind (kind.Model l) h = ap kind.Model (same_Some l m h)
    by_kind _ h = cc

  -- the root is one of the models
  pub root-below : (m : ModelNo) → root_of form ≡ Some m → m.0 < length (table_of form).models
  root-below m h =
      let n : ℕ = (type_of form.entries form.root).0 in
      let at : as_model (option_map (λ (e : Expression). e.kind) (slice_get form.expressions n)) ≡ Some m =
      ap as_model (sym (slice_get-map (λ (e : Expression). e.kind) form.expressions n)) ∙ h in
      let found = model_known (slice_get form.expressions n) m at in
      let P : Kind → Type 0 = IsKindIn form in
      let below : m.0 < length form.models = subst P found.2 (whole.kinds n found.0 found.1) in
      omega (arith, below, length-models_from (length (kinds_of form.expressions)) form.models)

-- Another list or record is judged by the same shape: a list always, and a record of a model where the model makes it.
use Rattle.std.proofs.Common.{◌≡◌, ℕ, zero, suc, length, List, [], ◌∷◌, Bool, true, false, Option, Some, None, if◌then◌else◌, refl, sym, ap, subst, ◌∙◌}
use Rattle.std.specs.Prelude.{◌&&◌}
use Rattle.std.specs.List.{find}
use Rattle.snap_core.specs.declared.number.ModelNo.{ModelNo}
use Rattle.snap_core.specs.declared.number.TypeNo.{TypeNo}
use Rattle.snap_core.specs.declared.snap.Snap.{Snap}
use Rattle.snap_core.specs.Value.{Value, list, dict, value_at, Items, Fields}
use Rattle.snap_core.specs.View.{view}
use Rattle.type_table.specs.declared.shape.Property.{Property}
use Rattle.type_table.specs.declared.shape.Shape.{Shape}
use Rattle.type_table.specs.declared.shape.Shape.TheVariants.{Literal, Optional, Maybe, MaybeNull, Union, Model, Named}
use Rattle.type_table.specs.Table.{Table, Catalog, shape_at, properties_of}
use Rattle.type_table.specs.Identifiers.{is_firm}
use Rattle.type_table.specs.Names.{named_by, shape_by}
use Rattle.type_table.specs.Unions.{is_same, is_map, is_literal, property_at, literal_in, literal_by, literal_at, model_of_shape, model_before, models_of, tag_of, tagged, chosen_by_field, chosen_by_tag, chosen_for_record, chosen}
use Rattle.type_core.specs.Judging.{is_null, shape_for, judged_by_choice, judged_step, judged_within, judged_by}
use Rattle.type_core.specs.Sound.{IsSound}
use Rattle.type_core.proofs.Chains.{named_by-at}
use Rattle.tree_laws.proofs.Fields.{Fits, Found, fits-at}
use Rattle.tree_laws.proofs.Literals.{same-is, literal-made}

-- lists

step-list : (table : Table) (ps qs : Items) (f g : ℕ → Option Shape) → ((t : ℕ) → f t ≡ g t) → (o : Option Shape)
    → judged_step table (list tt ps) f o ≡ judged_step table (list tt qs) g o
step-list table ps qs f g same (Some (Named u)) = same u.0
step-list table ps qs f g same (Some (Optional u d)) = same u.0
step-list table ps qs f g same (Some (Maybe u)) = same u.0
step-list table ps qs f g same (Some (MaybeNull u)) = same u.0
step-list table ps qs f g same (Some (Union ms)) = choice (chosen table ms (list tt ps)) where
  choice : (o : Option TypeNo) → judged_by_choice f o ≡ judged_by_choice g o
  choice None = refl
  choice (Some m) = same m.0
step-list table ps qs f g same o = refl

list-within : (table : Table) (ps qs : Items) (n t : ℕ) → judged_within table (list tt ps) n t ≡ judged_within table (list tt qs) n t
list-within table ps qs zero t = refl
list-within table ps qs (suc n) t =
    step-list table ps qs (judged_within table (list tt ps) n) (judged_within table (list tt qs) n) (list-within table ps qs n) (shape_for table (list tt ps) t)

pub list-judged : (table : Table) (ps qs : Items) (t : ℕ) → judged_by table (list tt ps) t ≡ judged_by table (list tt qs) t
list-judged table ps qs t = list-within table ps qs (length table.shapes) t

-- records

-- a fact of the model that a shape is
abbrev pub IfModel : Shape → (ModelNo → Type 0) → Type 0
IfModel (Model m) P = P m
IfModel shape P = Unit {0}

model-found : (shape : Option Shape) (k : ModelNo) → model_of_shape shape ≡ Some k → shape ≡ Some (Model k)
model-found (Some (Model m)) k h = let same : m ≡ k = cc in ap (λ (n : ModelNo). Some (Model n)) same
model-found _ k h = absurd (cc)

-- the model that a tag tells
record Tagged (table : Table) (tag : List ℕ) (w : Value) (t : TypeNo) : Type 0 where
  model : ModelNo
  shape : shape_by table t.0 ≡ Some (Model model)
  literal : is_literal w (literal_at table tag model) ≡ true

tagged-before : (table : Table) (t : TypeNo) (ts : List TypeNo) (tag : List ℕ) (w : Value) (m : TypeNo)
    → (tagged table (models_of table ts) tag w ≡ Some m → Tagged table tag w m)
    → (found : Option ModelNo) → model_of_shape (shape_by table t.0) ≡ found → tagged table (model_before t found (models_of table ts)) tag w ≡ Some m → Tagged table tag w m
tagged-before table t ts tag w m rest None e h = rest h
tagged-before table t ts tag w m rest (Some k) e h = by (is_literal w (literal_at table tag k)) refl h where
  by : (b : Bool) → is_literal w (literal_at table tag k) ≡ b → (if b then Some t else tagged table (models_of table ts) tag w) ≡ Some m → Tagged table tag w m
  by true f g =
      let same : t ≡ m = cc in
      let P : TypeNo → Type 0 = λ r. shape_by table r.0 ≡ Some (Model k) in
      record { model = k; shape = subst P same (model-found (shape_by table t.0) k e); literal = f }
  by false f g = rest g

tagged-found : (table : Table) (ts : List TypeNo) (tag : List ℕ) (w : Value) (m : TypeNo) → tagged table (models_of table ts) tag w ≡ Some m → Tagged table tag w m
tagged-found table [] tag w m h = absurd (cc)
tagged-found table (t ∷ ts) tag w m h = tagged-before table t ts tag w m (tagged-found table ts tag w m) (model_of_shape (shape_by table t.0)) refl h

-- the literal that a property is
record Lettered (table : Table) (o : Option Property) (w : Value) : Type 0 where
  property : Property
  is : o ≡ Some property
  letter : Snap
  shape : shape_by table property.of.0 ≡ Some (Literal letter)
  same : is_same w (view letter) ≡ true

lettered : (table : Table) (o : Option Property) (w : Value) → is_literal w (literal_by table o) ≡ true → Lettered table o w
lettered table None w h = absurd (cc)
lettered table (Some p) w h = by (shape_by table p.of.0) refl h where
  by : (s : Option Shape) → shape_by table p.of.0 ≡ s → is_literal w (literal_in s) ≡ true → Lettered table (Some p) w
  by (Some (Literal l)) e g = record { property = p; is = refl; letter = l; shape = e; same = g }
  by _ e g = absurd (cc)

module _ (types : Catalog) (sound : IsSound types) where
  record-shape : (ms : Fields) (t : ℕ) → shape_for types.table (dict tt ms) t ≡ shape_at types.table t
  record-shape ms t = by (is_firm types.table t) where
    by : (b : Bool) → (if b && is_null (dict tt ms) then None else shape_at types.table t) ≡ shape_at types.table t
    by true = refl
    by false = refl

  -- a record is judged by the model that its type is, names followed
  named-judged : (ms : Fields) (n t : ℕ) (shape : Shape) (k : ModelNo) → shape_by types.table t ≡ Some (Model k)
      → judged_within types.table (dict tt ms) n t ≡ Some shape → shape ≡ Model k
  named-judged ms zero t shape k e h = absurd (cc)
  named-judged ms (suc n) t shape k e h =
      by (shape_at types.table t) refl (ap (judged_step types.table (dict tt ms) (judged_within types.table (dict tt ms) n)) (sym (record-shape ms t)) ∙ h)
      (λ u g. named-judged ms n u shape k g) where
        same : (j : ModelNo) → ◌≡◌ {A = Option Shape} (Some (Model j)) (Some (Model k)) → ◌≡◌ {A = Option Shape} (Some (Model j)) (Some shape) → shape ≡ Model k
        same j f g = cc

        by : (o : Option Shape) → shape_at types.table t ≡ o → judged_step types.table (dict tt ms) (judged_within types.table (dict tt ms) n) o ≡ Some shape
            → ((u : ℕ) → shape_by types.table u ≡ Some (Model k) → judged_within types.table (dict tt ms) n u ≡ Some shape → shape ≡ Model k) → shape ≡ Model k
        by None f g later = absurd (cc)
        by (Some (Named u)) f g later =
            let on : named_by types.table t ≡ named_by types.table u.0 = named_by-at types.table sound.loopless t (Named u) f in
            later u.0 (ap (shape_at types.table) (sym on) ∙ e) g
        by (Some (Model j)) f g later =
            let on : named_by types.table t ≡ t = named_by-at types.table sound.loopless t (Model j) f in
            same j (sym f ∙ ap (shape_at types.table) (sym on) ∙ e) g
        by (Some other) f g later =
            let on : named_by types.table t ≡ t = named_by-at types.table sound.loopless t other f in
            let no : ◌≡◌ {A = Option Shape} (Some other) (Some (Model k)) = sym f ∙ ap (shape_at types.table) (sym on) ∙ e in
            absurd (cc)

  -- the literals of a model's properties stay
  abbrev pub KeepsLetters : ModelNo → Fields → Fields → Type 0
  KeepsLetters k ms ns =
      (name : List ℕ) (p : Property) (l : Snap) (w : Value) → property_at name (properties_of types.table k.0) ≡ Some p → shape_by types.table p.of.0 ≡ Some (Literal l)
      → is_same w (view l) ≡ true → value_at name ms ≡ Some w → value_at name ns ≡ Some w

  -- so they do where the model makes the new record of itself
  pub fits-keep : (k : ModelNo) (ms ns : Fields) → Fits types.table types.defaults (properties_of types.table k.0) ns → KeepsLetters k ms ns
  fits-keep k ms ns fits name p l w there letter same held =
      let found : Found types.table types.defaults name p ns = fits-at types.table types.defaults name (properties_of types.table k.0) ns p fits there in
      let first : w ≡ view l = same-is w (view l) same in
      let second : view l ≡ found.value = same-is (view l) found.value (literal-made types sound found.value p.of.0 l letter found.made) in
      found.there ∙ ap Some (sym (first ∙ second))

  abbrev Keeps : Shape → Fields → Fields → Type 0
  Keeps shape ms ns = IfModel shape (λ k. KeepsLetters k ms ns)

  module _ (us : List TypeNo) (m : TypeNo) (ms ns : Fields) (n : ℕ) (shape : Shape)
      (judged : judged_within types.table (dict tt ms) n m.0 ≡ Some shape) (keeps : Keeps shape ms ns) where
    -- the tag's value is the literal of the model that is chosen
    same-tag : (tag : List ℕ) (w : Value) → value_at tag ms ≡ Some w → tagged types.table (models_of types.table us) tag w ≡ Some m → value_at tag ns ≡ Some w
    same-tag tag w held h =
        let is : Tagged types.table tag w m = tagged-found types.table us tag w m h in
        let kept : KeepsLetters is.model ms ns =
        (let P : Shape → Type 0 = λ s. Keeps s ms ns in subst P (named-judged ms n m.0 shape is.model is.shape judged) keeps) in
        let l : Lettered types.table (property_at tag (properties_of types.table is.model.0)) w =
        lettered types.table (property_at tag (properties_of types.table is.model.0)) w is.literal in
        kept tag l.property l.letter w l.is l.shape l.same held

    by_field : (tag : List ℕ) (o : Option Value) → value_at tag ms ≡ o → chosen_by_field types.table (models_of types.table us) tag o ≡ Some m
        → chosen_by_field types.table (models_of types.table us) tag (value_at tag ns) ≡ Some m
    by_field tag None held h = absurd (cc)
    by_field tag (Some w) held h = ap (chosen_by_field types.table (models_of types.table us) tag) (same-tag tag w held h) ∙ h

    by_tag : (o : Option (List ℕ)) → chosen_by_tag types.table (models_of types.table us) o ms ≡ Some m → chosen_by_tag types.table (models_of types.table us) o ns ≡ Some m
    by_tag None h = h
    by_tag (Some tag) h = by_field tag (value_at tag ms) refl h

    by_map : (o : Option TypeNo) → chosen_for_record types.table us o ms ≡ Some m → chosen_for_record types.table us o ns ≡ Some m
    by_map (Some t) h = h
    by_map None h = by_tag (tag_of types.table (models_of types.table us)) h

    same-chosen : chosen types.table us (dict tt ms) ≡ Some m → chosen types.table us (dict tt ns) ≡ Some m
    same-chosen h = by_map (find (λ t. is_map (shape_by types.table t.0)) us) h

  step-record : (ms ns : Fields) (n : ℕ) (shape : Shape) → Keeps shape ms ns
      → ((t : ℕ) → judged_within types.table (dict tt ms) n t ≡ Some shape → judged_within types.table (dict tt ns) n t ≡ Some shape) → (o : Option Shape)
      → judged_step types.table (dict tt ms) (judged_within types.table (dict tt ms) n) o ≡ Some shape
      → judged_step types.table (dict tt ns) (judged_within types.table (dict tt ns) n) o ≡ Some shape
  step-record ms ns n shape keeps rest (Some (Named u)) h = rest u.0 h
  step-record ms ns n shape keeps rest (Some (Optional u d)) h = rest u.0 h
  step-record ms ns n shape keeps rest (Some (Maybe u)) h = rest u.0 h
  step-record ms ns n shape keeps rest (Some (MaybeNull u)) h = rest u.0 h
  step-record ms ns n shape keeps rest (Some (Union us)) h = choice (chosen types.table us (dict tt ms)) refl h where
    choice : (o : Option TypeNo) → chosen types.table us (dict tt ms) ≡ o → judged_by_choice (judged_within types.table (dict tt ms) n) o ≡ Some shape
        → judged_by_choice (judged_within types.table (dict tt ns) n) (chosen types.table us (dict tt ns)) ≡ Some shape
    choice None c g = absurd (cc)
    choice (Some m) c g = ap (judged_by_choice (judged_within types.table (dict tt ns) n)) (same-chosen us m ms ns n shape g keeps c) ∙ rest m.0 g
  step-record ms ns n shape keeps rest o h = h

  record-within : (ms ns : Fields) (n : ℕ) (shape : Shape) → Keeps shape ms ns → (t : ℕ)
      → judged_within types.table (dict tt ms) n t ≡ Some shape → judged_within types.table (dict tt ns) n t ≡ Some shape
  record-within ms ns zero shape keeps t h = h
  record-within ms ns (suc n) shape keeps t h =
      step-record ms ns n shape keeps (λ u g. record-within ms ns n shape keeps u g) (shape_for types.table (dict tt ms) t) h

  -- another record with the literals of the model, or any other record of a map
  pub record-judged : (ms ns : Fields) (t : ℕ) (shape : Shape) → judged_by types.table (dict tt ms) t ≡ Some shape → Keeps shape ms ns
      → judged_by types.table (dict tt ns) t ≡ Some shape
  record-judged ms ns t shape h keeps = record-within ms ns (length types.table.shapes) shape keeps t h

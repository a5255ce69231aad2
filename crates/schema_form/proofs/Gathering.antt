-- What is gathered from entry to entry, without a fault, names what is there in the end.
use Rattle.std.proofs.Common.{◌≡◌, ◌≤◌, ℕ, ◌+◌, ◌<◌, List, [], ◌∷◌, ◌++◌, length, map, true, false, Option, Some, None, All, inl, inr, codes, slice_get, if◌then◌else◌, refl, sym, ◌∙◌, ap, subst, arith, length-append, append_assoc}
use Rattle.std.specs.Str.{bytes_eq}
use Rattle.std.proofs.lemmas.List.{append-nil}
use Rattle.std.proofs.lemmas.List.Elements.{All-nil, All-cons, All-append}
use Rattle.snap_core.specs.Value.{Value, no_members, member, IsOrdered, AreOrderedMembers, keys_of, Fields}
use Rattle.snap_core.specs.declared.number.ModelNo.{ModelNo}
use Rattle.model_syntax.specs.Shown.{ShownAction, ShownBehaviour, IsInOrder}
use Rattle.schema_form.specs.declared.form.SchemaForm.{SchemaForm}
use Rattle.schema_form.specs.declared.form.EntryNo.{EntryNo}
use Rattle.schema_form.specs.declared.form.Entry.{Entry}
use Rattle.schema_form.specs.declared.form.ModelForm.{ModelForm}
use Rattle.schema_form.specs.declared.form.Astray.{Astray}
use Rattle.schema_form.specs.declared.form.Expression.{Expression}
use Rattle.schema_form.specs.declared.form.Place.{Place}
use Rattle.schema_form.specs.declared.form.Place.TheVariants as place
use Rattle.schema_form.specs.declared.form.Kind.TheVariants as kind
use Rattle.schema_form.specs.Names.{entry_from, entry_of}
use Rattle.schema_form.specs.Faults.{under, member_faults, key_faults, is_expression, is_free, model_faults, formed_faults, entry_faults, type_faults}
use Rattle.schema_form.specs.Entries.{entries, model_in}
use Rattle.schema_form.specs.Layout.{type_no, type_laid}
use Rattle.schema_form.specs.Modelled.{Within, Modelled, with_parts, unsaid}
use Rattle.schema_form.specs.Gathering.{Gathering, form_shown, model_begun, with_model, with_type, with_formed, with_entry, with_entries, nothing, gathered}
use Rattle.schema_form.specs.Form.{IsModelIn}
use Rattle.schema_form.proofs.Orders.{model-ordered}
use Rattle.schema_form.proofs.NoFaults.{append_none, under_none}
use Rattle.schema_form.proofs.Whole.{AllFrom, AllFrom-append, IsGood, fine-type}
use Rattle.schema_form.proofs.Growing.{Longer, longer-none, longer-more, longer-length, grown-parts}
use Rattle.schema_form.proofs.ModelSound.{IsFit, model-sound, get-behind, earlier-either, ordered-entries}
use Rattle.schema_form.proofs.Ascending.{model-in_order}

-- there are no more entries than keys
pub entry-bound : (name : List ℕ) (n : ℕ) (ms : Fields) (e : EntryNo) → entry_from n ms name ≡ Some e → e.0 < n + length (keys_of ms)
entry-bound name n no_members e h = absurd cc
entry-bound name n (member k v ms) e h =
    elim (bytes_eq name k) as (λ b. (if b then Some (record { 0 = n }) else entry_from (n + 1) ms name) ≡ Some e → e.0 < n + length (k ∷ keys_of ms)) [
      | true ↦ λ is. let same : n ≡ e.0 = cc is in omega (arith, same)
      | false ↦ λ is. let further : e.0 < n + 1 + length (keys_of ms) = entry-bound name (n + 1) ms e is in omega (arith, further)
    ] h

-- more was gathered, behind what was there
pub record Grows (old new : Gathering) : Type 0 where
  pub entries : Longer old.entries new.entries
  pub expressions : Longer old.expressions new.expressions
  pub models : Longer old.models new.models

pub Grows-none : (g : Gathering) → Grows g g
Grows-none g = record { entries = longer-none g.entries; expressions = longer-none g.expressions; models = longer-none g.models }

Grows-more : (a b c : Gathering) → Grows a b → Grows b c → Grows a c
Grows-more a b c f g = record {
  entries = longer-more a.entries b.entries c.entries f.entries g.entries;
  expressions = longer-more a.expressions b.expressions c.expressions f.expressions g.expressions;
  models = longer-more a.models b.models c.models f.models g.models;
}

-- what a model says, behind its own type expression
abbrev pub within_model : Fields → Gathering → Fields → Within
within_model types g parts = record { types = types; parts = parts; model = record { 0 = length g.models } }

abbrev pub modelled_in : Fields → Gathering → Fields → Modelled
modelled_in types g parts = with_parts (within_model types g parts) (unsaid (model_begun g)) parts

Grows-formed : (types : Fields) (g : Gathering) (p : List ℕ × Value) (o : Option Value) → Grows g (with_formed types g p o)
Grows-formed types g p (Some model) =
    let parts : Fields = entries model in
    let s : Modelled = modelled_in types g parts in record {
      entries = (_, refl);
      expressions = longer-more g.expressions (model_begun g) s.expressions (_, refl) (grown-parts (within_model types g parts) (unsaid (model_begun g)) parts).expressions;
      models = (_, refl);
    }
Grows-formed types g p None = record { entries = (_, refl); expressions = (_, refl); models = longer-none g.models }

pub Grows-entries : (types : Fields) (g : Gathering) (ms : Fields) → Grows g (with_entries types g ms)
Grows-entries types g no_members = Grows-none g
Grows-entries types g (member k v ms) =
    Grows-more g (with_entry types g k v) (with_entries types (with_entry types g k v) ms) (Grows-formed types g (k, v) (model_in v)) (Grows-entries types (with_entry types g k v) ms)

-- the entries have the names of the types, in order
entries-formed : (types : Fields) (g : Gathering) (p : List ℕ × Value) (o : Option Value) → (with_formed types g p o).entries ≡ g.entries ++ record { name = p.0; of = type_no (length g.expressions) } ∷ []
entries-formed types g p (Some model) = refl
entries-formed types g p None = refl

abbrev entry_name : Entry → List ℕ
entry_name e = e.name

names-append : (es ds : List Entry) → map entry_name (es ++ ds) ≡ map entry_name es ++ map entry_name ds
names-append [] ds = refl
names-append (e ∷ es) ds = ap (λ ns. e.name ∷ ns) (names-append es ds)

pub names-gathered : (types : Fields) (g : Gathering) (ms : Fields) → map entry_name (with_entries types g ms).entries ≡ map entry_name g.entries ++ keys_of ms
names-gathered types g no_members = sym (append-nil (map entry_name g.entries))
names-gathered types g (member k v ms) =
    let next = with_entry types g k v in
    names-gathered types next ms
    ∙ ap (λ es. map entry_name es ++ keys_of ms) (entries-formed types g (k, v) (model_in v))
    ∙ ap (λ ns. ns ++ keys_of ms) (names-append g.entries (record { name = k; of = type_no (length g.expressions) } ∷ []))
    ∙ append_assoc (map entry_name g.entries) (k ∷ []) (keys_of ms)

module _ (f : SchemaForm) (types : Fields) (known : (s : List ℕ) (e : EntryNo) → entry_of types s ≡ Some e → e.0 < length f.entries) where
  abbrev final : Gathering
  final = form_shown f

  -- what is gathered so far names what is there in the end
  pub record IsSoFar (g : Gathering) : Type 0 where
    pub good : AllFrom (IsGood f types known) 0 g.expressions
    pub typed : All (λ (e : Entry). e.of.0 < length f.expressions) g.entries
    pub models : All (IsModelIn f) g.models
    pub paired : length g.behaviours ≡ length g.models
    pub ordered : All IsInOrder g.behaviours
    pub astray : (a : Astray) → g.astray ≡ Some a → a.model.0 < length f.models

  with-type : (g : Gathering) (k : List ℕ) (v : Value) → IsSoFar g → IsOrdered v → type_faults types v ≡ [] → Grows (with_type types g k v) final → IsSoFar (with_type types g k v)
  with-type g k v so_far ordered none grows =
      let n : ℕ = length g.expressions in
      let at : Place = place.Entry (record { 0 = length g.entries }) in
      let xs : List Expression = type_laid types v n at in
      let fine = fine-type f types known v ordered none in
      let more : 0 < length xs = fine.some n at in
      let long : length (g.expressions ++ xs) ≤ length f.expressions = longer-length (g.expressions ++ xs) f.expressions grows.expressions in
      let added : length (g.expressions ++ xs) ≡ n + length xs = length-append g.expressions xs in
      let entry : Entry = record { name = k; of = type_no n } in
      let many : length (g.entries ++ entry ∷ []) ≤ length f.entries = longer-length (g.entries ++ entry ∷ []) f.entries grows.entries in
      let one : length (g.entries ++ entry ∷ []) ≡ length g.entries + 1 = length-append g.entries (entry ∷ []) in record {
        good = AllFrom-append (IsGood f types known) 0 n g.expressions xs (omega arith) so_far.good (fine.good n at (omega (arith, many, one)) (omega (arith, long, added)));
        typed = All-append (λ (e : Entry). e.of.0 < length f.expressions) g.entries (entry ∷ []) so_far.typed
            (All-cons (λ (e : Entry). e.of.0 < length f.expressions) entry [] (omega (arith, long, added, more)) (All-nil (λ (e : Entry). e.of.0 < length f.expressions)));
        models = so_far.models;
        paired = so_far.paired;
        ordered = so_far.ordered;
        astray = so_far.astray;
      }

  with-model : (g : Gathering) (k : List ℕ) (model : Value) → IsSoFar g → model_faults types model ≡ [] → IsOrdered model
      → Grows (with_model types g k (entries model)) final → IsSoFar (with_model types g k (entries model))
  with-model g k model so_far none ordered grows =
      let n : ℕ = length g.expressions in
      let parts : Fields = entries model in
      let m : ModelNo = record { 0 = length g.models } in
      let own : Expression = record { place = place.Entry (record { 0 = length g.entries }); kind = kind.Model m } in
      let s : Modelled = modelled_in types g parts in
      let its : ModelForm = record { name = k; properties = s.properties; actions = map (λ (a : ShownAction). a.name) s.actions } in
      let behaviour : ShownBehaviour = record { views = s.views; actions = s.actions; middleware = s.middleware } in
      let entry : Entry = record { name = k; of = type_no n } in
      let long : length s.expressions ≤ length f.expressions = longer-length s.expressions f.expressions grows.expressions in
      let begun : length (model_begun g) ≤ length s.expressions = longer-length (model_begun g) s.expressions (grown-parts (within_model types g parts) (unsaid (model_begun g)) parts).expressions in
      let added : length (model_begun g) ≡ n + 1 = length-append g.expressions (own ∷ []) in
      let many : length (g.entries ++ entry ∷ []) ≤ length f.entries = longer-length (g.entries ++ entry ∷ []) f.entries grows.entries in
      let one : length (g.entries ++ entry ∷ []) ≡ length g.entries + 1 = length-append g.entries (entry ∷ []) in
      let kinds : length (g.models ++ its ∷ []) ≤ length f.models = longer-length (g.models ++ its ∷ []) f.models grows.models in
      let new : length (g.models ++ its ∷ []) ≡ length g.models + 1 = length-append g.models (its ∷ []) in
      let more : length (g.behaviours ++ behaviour ∷ []) ≡ length g.behaviours + 1 = length-append g.behaviours (behaviour ∷ []) in
      let there : slice_get f.models (length g.models) ≡ Some its = get-behind g.models grows.models.0 f.models its grows.models.1 in
      let start = AllFrom-append (IsGood f types known) 0 n g.expressions (own ∷ []) (omega arith) so_far.good ((omega (arith, kinds, new), omega (arith, many, one)), tt) in
      let fit : IsFit f types known m s = model-sound f types known m its there (model_begun g) model start none ordered refl refl grows.expressions in record {
        good = fit.good;
        typed = All-append (λ (e : Entry). e.of.0 < length f.expressions) g.entries (entry ∷ []) so_far.typed
            (All-cons (λ (e : Entry). e.of.0 < length f.expressions) entry [] (omega (arith, long, begun, added)) (All-nil (λ (e : Entry). e.of.0 < length f.expressions)));
        models = All-append (IsModelIn f) g.models (its ∷ []) so_far.models
            (All-cons (IsModelIn f) its [] (record { named = fit.named; typed = fit.typed }) (All-nil (IsModelIn f)));
        paired = omega (arith, so_far.paired, new, more);
        ordered = All-append IsInOrder g.behaviours (behaviour ∷ []) so_far.ordered
            (All-cons IsInOrder behaviour [] (model-in_order (within_model types g parts) (model_begun g) parts (ordered-entries model ordered)) (All-nil IsInOrder));
        astray = λ a is. elim (earlier-either g.astray s.astray a is) [
          | inl first ↦ so_far.astray a first
          | inr second ↦ let same : a.model ≡ m = fit.astray a second in let Q : ModelNo → Type 0 = λ x. x.0 < length f.models in
              let inside : m.0 < length f.models = omega (arith, kinds, new) in subst Q (sym same) inside
        ];
      }

  with-formed : (g : Gathering) (k : List ℕ) (v : Value) (o : Option Value) → model_in v ≡ o → IsSoFar g → IsOrdered v → formed_faults types k v o ≡ []
      → Grows (with_formed types g (k, v) o) final → IsSoFar (with_formed types g (k, v) o)
  with-formed g k v (Some model) is so_far ordered none grows =
      let inner = under_none (codes "model") (model_faults types model) (append_none (key_faults true (is_free k)) (under (codes "model") (model_faults types model)) none).1 in
      with-model g k model so_far inner (model-ordered v model is ordered) grows
  with-formed g k v None is so_far ordered none grows =
      with-type g k v so_far ordered (append_none (key_faults (is_expression v) (is_free k)) (type_faults types v) none).1 grows

  with-entries : (g : Gathering) (ms : Fields) → with_entries types g ms ≡ final → IsSoFar g → AreOrderedMembers ms → member_faults (entry_faults types) ms ≡ [] → IsSoFar (with_entries types g ms)
  with-entries g no_members is so_far ordered none = so_far
  with-entries g (member k v ms) is so_far ordered none =
      let next : Gathering = with_entry types g k v in
      let parts = append_none (under k (entry_faults types k v)) (member_faults (entry_faults types) ms) none in
      let P : Gathering → Type 0 = Grows next in
      with-entries next ms is (with-formed g k v (model_in v) refl so_far ordered.0 (under_none k (entry_faults types k v) parts.0) (subst P is (Grows-entries types next ms))) ordered.2 parts.1

  pub gathered-sound : gathered types ≡ final → AreOrderedMembers types → member_faults (entry_faults types) types ≡ [] → IsSoFar final
  gathered-sound is ordered none =
      let P : Gathering → Type 0 = IsSoFar in
      subst P is (with-entries nothing types is
      (record { good = tt; typed = All-nil (λ (e : Entry). e.of.0 < length f.expressions); models = All-nil (IsModelIn f); paired = refl; ordered = All-nil IsInOrder; astray = λ a none. absurd cc }) ordered none)

-- The entries of a form are read from the values under their names.
use Rattle.std.proofs.Common.{◌≡◌, ℕ, List, [], ◌∷◌, ◌++◌, length, map, true, false, Option, Some, None, All, codes, slice_get, if◌then◌else◌, refl, sym, ◌∙◌, ap, subst, arith, append_assoc}
use Rattle.std.specs.Str.{bytes_eq}
use Rattle.std.proofs.lemmas.List.Elements.{All-nil, All-cons, All-append}
use Rattle.std.proofs.lemmas.Option.{same_Some}
use Rattle.std.proofs.lemmas.Slice.Eq.{bytes_eq-Decides}
use Rattle.snap_core.specs.Value.{Value, null, boolean, integer, text, list, dict, no_members, member, value_at, AreKeyed, IsOrdered, AreOrderedMembers, Fields}
use Rattle.snap_core.specs.declared.number.ModelNo.{ModelNo}
use Rattle.snap_core.proofs.Keys.{AreKeyed-ordered}
use Rattle.pointer_core.specs.Path.{Path}
use Rattle.pointer_core.specs.declared.schema_rule.SchemaRule.TheVariants.{Shape}
use Rattle.model_syntax.specs.Shown.{ShownAction}
use Rattle.schema_form.specs.declared.form.SchemaForm.{SchemaForm}
use Rattle.schema_form.specs.declared.form.EntryNo.{EntryNo}
use Rattle.schema_form.specs.declared.form.Entry.{Entry}
use Rattle.schema_form.specs.declared.form.ModelForm.{ModelForm}
use Rattle.schema_form.specs.declared.form.Expression.{Expression}
use Rattle.schema_form.specs.declared.form.Place.TheVariants as place
use Rattle.schema_form.specs.declared.form.Kind.TheVariants as kind
use Rattle.schema_form.specs.Names.{has_key, entry_of}
use Rattle.schema_form.specs.Faults.{unless, under, member_faults, key_faults, is_expression, is_free, model_part_faults, model_faults, formed_faults, entry_faults, type_faults}
use Rattle.schema_form.specs.Entries.{entries, model_in}
use Rattle.schema_form.specs.Layout.{type_no, type_laid}
use Rattle.schema_form.specs.Modelled.{Modelled, unsaid}
use Rattle.schema_form.specs.Gathering.{Gathering, form_shown, model_begun, with_model, with_type, with_formed, with_entry, with_entries, nothing, gathered}
use Rattle.schema_form.specs.Pointers.{entry, property, param, part, entry_path, places_of}
use Rattle.schema_form.specs.Reading.{name_at, keyed, IsReadFrom}
use Rattle.schema_form.specs.Reading as read
use Rattle.schema_form.specs.Laws.{PathLeads, inner_properties, inner_of, IsInside, IsReadAt, IsReadUnderName}
use Rattle.schema_form.proofs.NoFaults.{append_none, under_none, unless_none}
use Rattle.schema_form.proofs.Orders.{model-ordered}
use Rattle.schema_form.proofs.FileParts.{some-of}
use Rattle.schema_form.proofs.Whole.{AllFrom-append}
use Rattle.schema_form.proofs.Leading.{PathLeads-append, PathLeads-keyed}
use Rattle.schema_form.proofs.ReadTypes.{IsPointerTo, AreReadAt, HasPlace, LeadsTo, placed, kind-is, read-at, read-type}
use Rattle.schema_form.proofs.Growing.{longer-more, longer-none, grown-parts}
use Rattle.schema_form.proofs.ModelSound.{get-behind, ordered-entries, model-none}
use Rattle.schema_form.proofs.ReadModels.{AreAmong, first-among, rest-among, stands, object-is, read-parts, find-properties, IsFound, Reaches}
use Rattle.schema_form.proofs.Gathering.{Grows, Grows-entries, within_model, modelled_in}

-- an entry that is a model
entry-is : (v model : Value) → model_in v ≡ Some model → v ≡ keyed (codes "model") model
entry-is (dict a (member key w no_members)) model is =
    elim (bytes_eq key (codes "model")) as (λ b. bytes_eq key (codes "model") ≡ b → (if b then Some w else None) ≡ Some model → keyed key w ≡ keyed (codes "model") model) [
      | true ↦ λ h there. ap (λ k. keyed k w) ((bytes_eq-Decides key (codes "model")).0 h) ∙ ap (keyed (codes "model")) (same_Some w model there)
      | false ↦ λ h there. absurd cc
    ] refl is
entry-is (dict a no_members) model is = absurd cc
entry-is (dict a (member key w (member l x ms))) model is = absurd cc
entry-is null model is = absurd cc
entry-is (boolean b) model is = absurd cc
entry-is (integer z) model is = absurd cc
entry-is (text s) model is = absurd cc
entry-is (list a ps) model is = absurd cc

-- the properties of a model without a fault are there
has-properties : (types : Fields) (v : Value) → model_faults types v ≡ [] → (w : Value) × (value_at (codes "properties") (entries v) ≡ Some w)
has-properties types (dict a ms) none =
    some-of (value_at (codes "properties") ms) (unless_none (has_key (codes "properties") ms) Shape (append_none (unless (has_key (codes "properties") ms) Shape) (member_faults (model_part_faults types ms) ms) none).0)
has-properties types null none = absurd cc
has-properties types (boolean b) none = absurd cc
has-properties types (integer z) none = absurd cc
has-properties types (text s) none = absurd cc
has-properties types (list a ps) none = absurd cc

module _ (f : SchemaForm) (file : Value) (types : Fields) (known : (s : List ℕ) (e : EntryNo) → entry_of types s ≡ Some e → name_at f e ≡ Some s)
    (start : (key : List ℕ) (v : Value) → value_at key types ≡ Some v → PathLeads file (entry_path key) v) where
  -- an entry leads to the value under its name
  entry-leads : (e : EntryNo) (one : Entry) (v : Value) → slice_get f.entries e.0 ≡ Some one → PathLeads file (entry_path one.name) v → LeadsTo f file types known (place.Entry e) v
  entry-leads e one v is on n at = record {
    pointer = entry_path one.name;
    is = entry n e one at is;
    only = λ path there. go n at path there;
    leads = on;
  } where
    go : (n : ℕ) → slice_get (places_of f.expressions) n ≡ Some (place.Entry e) → (path : Path) → IsPointerTo f file types known n path → path ≡ entry_path one.name
    go _ at _ (entry t d other there was) =
        let same : place.Entry d ≡ place.Entry e = same_Some _ _ (sym there ∙ at) in
        let numbers : d ≡ e = cc in
        ap (λ (x : Entry). entry_path x.name) (same_Some other one (sym was ∙ ap (λ (x : EntryNo). slice_get f.entries x.0) numbers ∙ is))
    go _ at _ (property t m i model p there was lies) = let same : place.Property m i ≡ place.Entry e = same_Some _ _ (sym there ∙ at) in cc
    go _ at _ (param t m i j model action there was lies) = let same : place.Param m i j ≡ place.Entry e = same_Some _ _ (sym there ∙ at) in cc
    go _ at _ (part t u step path there up) = let same : place.Part u step ≡ place.Entry e = same_Some _ _ (sym there ∙ at) in cc

  abbrev final : Gathering
  final = form_shown f

  -- what is gathered so far is read from the file
  pub record IsReadSoFar (g : Gathering) : Type 0 where
    pub expressions : AreReadAt f file types known 0 g.expressions
    pub entries : All (IsReadUnderName types f) g.entries

  add-entry : (g : Gathering) (k : List ℕ) (v : Value) → IsReadSoFar g → value_at k types ≡ Some v → IsPointerTo f file types known (length g.expressions) (entry_path k)
      → IsReadFrom f (length g.expressions) v → All (IsReadUnderName types f) (g.entries ++ record { name = k; of = type_no (length g.expressions) } ∷ [])
  add-entry g k v so_far there is reads =
      let one : Entry = record { name = k; of = type_no (length g.expressions) } in
      All-append (IsReadUnderName types f) g.entries (one ∷ []) so_far.entries
      (All-cons (IsReadUnderName types f) one [] (record { value = v; there = there; is = is; read = reads }) (All-nil (IsReadUnderName types f)))

  more-read : (xs ys : List Expression) → AreReadAt f file types known 0 xs → AreReadAt f file types known (length xs) ys → AreReadAt f file types known 0 (xs ++ ys)
  more-read xs ys read further = AllFrom-append (λ j e. IsReadAt file f j) 0 (length xs) xs ys (omega arith) read further

  read-with-type : (g : Gathering) (k : List ℕ) (v : Value) → IsReadSoFar g → value_at k types ≡ Some v → type_faults types v ≡ [] → Grows (with_type types g k v) final → IsReadSoFar (with_type types g k v)
  read-with-type g k v so_far there none grows =
      let n : ℕ = length g.expressions in
      let e : EntryNo = record { 0 = length g.entries } in
      let one : Entry = record { name = k; of = type_no n } in
      let xs : List Expression = type_laid types v n (place.Entry e) in
      let stand = stands f.expressions g.expressions xs grows.expressions.0 (grows.expressions.1 ∙ append_assoc g.expressions xs grows.expressions.0) in
      let is : slice_get f.entries (length g.entries) ≡ Some one = get-behind g.entries grows.entries.0 f.entries one grows.entries.1 in
      let laid = read-type f file types known v none n (place.Entry e) stand (entry-leads e one v is (start k v there)) in
      record { expressions = more-read g.expressions xs so_far.expressions laid.each; entries = add-entry g k v so_far there (entry n e one laid.place is) laid.first }

  read-with-model : (g : Gathering) (k : List ℕ) (model : Value) → IsReadSoFar g → value_at k types ≡ Some (keyed (codes "model") model) → model_faults types model ≡ [] → IsOrdered model
      → Grows (with_model types g k (entries model)) final → IsReadSoFar (with_model types g k (entries model))
  read-with-model g k model so_far there none ordered grows =
      let n : ℕ = length g.expressions in
      let parts : Fields = entries model in
      let e : EntryNo = record { 0 = length g.entries } in
      let m : ModelNo = record { 0 = length g.models } in
      let v : Value = keyed (codes "model") (dict tt parts) in
      let one : Entry = record { name = k; of = type_no n } in
      let own : Expression = record { place = place.Entry e; kind = kind.Model m } in
      let begun : List Expression = model_begun g in
      let s : Modelled = modelled_in types g parts in
      let its : ModelForm = record { name = k; properties = s.properties; actions = map (λ (a : ShownAction). a.name) s.actions } in
      let shape : model ≡ dict tt parts = object-is types model none in
      let at_name : value_at k types ≡ Some v = there ∙ ap (λ x. Some (keyed (codes "model") x)) shape in
      let grown = grown-parts (within_model types g parts) (unsaid begun) parts in
      let long = longer-more begun s.expressions f.expressions grown.expressions grows.expressions in
      let stand = stands f.expressions g.expressions (own ∷ []) long.0 (long.1 ∙ append_assoc g.expressions (own ∷ []) long.0) in
      let is : slice_get f.entries (length g.entries) ≡ Some one = get-behind g.entries grows.entries.0 f.entries one grows.entries.1 in
      let model_is : slice_get f.models m.0 ≡ Some its = get-behind g.models grows.models.0 f.models its grows.models.1 in
      let at : slice_get (places_of f.expressions) n ≡ Some (place.Entry e) = placed f file types known n own stand.0 in
      let has : HasPlace f file types known n v = entry-leads e one v is (start k v at_name) n at in
      let pointer : IsPointerTo f file types known n (entry_path k) = entry n e one at is in
      let on = PathLeads-append file v (dict tt parts) (entry_path k) (codes "model" ∷ []) (start k v at_name) (PathLeads-keyed (codes "model") (dict tt parts)) in
      let sorted : AreOrderedMembers parts = ordered-entries model ordered in
      let keyed_parts : AreKeyed parts = AreKeyed-ordered parts sorted in
      let reach : Reaches f file types known m its model_is parts on s = record { expressions = grows.expressions; actions = longer-none its.actions } in
      let its_parts = has-properties types model none in
      let found : IsFound f file types known m its model_is parts on =
      find-properties f file types known m its model_is parts on (unsaid begun) parts its_parts.0 sorted its_parts.1 refl keyed_parts (λ key x at. at) (model-none types model none) reach in
      let says = kind-is f file types known n own stand.0 in
      let reads : IsReadFrom f n v = read.model n m its parts found.fields says model_is found.there found.read in
      let P : Path → Type 0 = λ path. All (IsInside f path) (inner_properties (Some its)) in
      let Q : Option ModelForm → Type 0 = λ o. All (IsInside f has.pointer) (inner_properties o) in
      let inside : All (IsInside f has.pointer) (inner_of f (kind.Model m)) = subst Q (sym model_is) (subst P (has.only (entry_path k) pointer) found.inside) in
      let first = more-read g.expressions (own ∷ []) so_far.expressions (read-at f file types known n v (kind.Model m) has reads says inside, tt) in record {
        expressions = read-parts f file types known m its model_is parts on (unsaid begun) parts sorted refl keyed_parts (λ key x at. at) (model-none types model none) reach first;
        entries = add-entry g k v so_far at_name pointer reads;
      }

  read-with-formed : (g : Gathering) (k : List ℕ) (v : Value) (o : Option Value) → model_in v ≡ o → IsReadSoFar g → value_at k types ≡ Some v → IsOrdered v → formed_faults types k v o ≡ []
      → Grows (with_formed types g (k, v) o) final → IsReadSoFar (with_formed types g (k, v) o)
  read-with-formed g k v (Some model) is so_far there ordered none grows =
      let inner = under_none (codes "model") (model_faults types model) (append_none (key_faults true (is_free k)) (under (codes "model") (model_faults types model)) none).1 in
      read-with-model g k model so_far (there ∙ ap Some (entry-is v model is)) inner (model-ordered v model is ordered) grows
  read-with-formed g k v None is so_far there ordered none grows =
      read-with-type g k v so_far there (append_none (key_faults (is_expression v) (is_free k)) (type_faults types v) none).1 grows

  read-with-entries : (g : Gathering) (fields : Fields) → with_entries types g fields ≡ final → IsReadSoFar g → AreOrderedMembers fields → AreAmong fields types → member_faults (entry_faults types) fields ≡ []
      → IsReadSoFar (with_entries types g fields)
  read-with-entries g no_members is so_far ordered among none = so_far
  read-with-entries g (member k v fields) is so_far ordered among none =
      let next : Gathering = with_entry types g k v in
      let parts = append_none (under k (entry_faults types k v)) (member_faults (entry_faults types) fields) none in
      let P : Gathering → Type 0 = Grows next in
      read-with-entries next fields is
      (read-with-formed g k v (model_in v) refl so_far (first-among types k v fields among) ordered.0 (under_none k (entry_faults types k v) parts.0) (subst P is (Grows-entries types next fields)))
      ordered.2 (rest-among types k v fields (AreKeyed-ordered (member k v fields) ordered) among) parts.1

  pub gathered-read : gathered types ≡ final → AreOrderedMembers types → member_faults (entry_faults types) types ≡ [] → IsReadSoFar final
  gathered-read is ordered none =
      let P : Gathering → Type 0 = IsReadSoFar in
      subst P is (read-with-entries nothing types is (record { expressions = tt; entries = All-nil (IsReadUnderName types f) }) ordered (λ key v at. at) none)

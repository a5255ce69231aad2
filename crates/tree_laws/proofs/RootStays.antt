-- Where the root's model is given another snapshot as a whole, its node stays: the identifier is fixed.
use Rattle.std.proofs.Common.{◌≡◌, ℕ, ◌<◌, ◌≤◌, ⊎_elim, arith, length, List, Bool, true, false, not, Option, Some, None, Ok, option_map, if◌then◌else◌, refl, sym, ap, subst, ◌∙◌}
use Rattle.std.specs.Prelude.{◌==◌, slice_get, unwrap_or}
use Rattle.std.specs.Str.{bytes_eq}
use Rattle.std.proofs.lemmas.Option.{slice_get_cases}
use Rattle.snap_core.specs.Value.{Value, null, boolean, integer, text, list, dict, value_at, Fields}
use Rattle.snap_core.specs.declared.number.ModelNo.{ModelNo}
use Rattle.type_table.specs.declared.shape.ModelType.{ModelType}
use Rattle.type_table.specs.declared.shape.Property.{Property}
use Rattle.type_table.specs.declared.shape.Shape.{Shape}
use Rattle.type_table.specs.declared.shape.Shape.TheVariants as shape
use Rattle.type_table.specs.Table.{Catalog, shape_at, properties_of}
use Rattle.type_table.specs.Identifiers.{is_of_kind, identifies, identifier_of}
use Rattle.type_core.specs.Judging.{judged_by}
use Rattle.type_core.specs.Making.{maker_of, makers_of, fields_of, absent, scalar_made, list_made, dict_made, properties_made}
use Rattle.type_core.specs.Sound.{IsSound}
use Rattle.type_core.proofs.Again.{Makes-again}
use Rattle.type_core.proofs.Laws.{scalar_made-Ok, made_by-sound, made_by-complete}
use Rattle.type_core.proofs.Chains.{judged_by-at}
use Rattle.type_core.proofs.Outcomes.{record_of-Ok}
use Rattle.type_core.proofs.Sound.{shape_at-own, AreNamed-properties_of}
use Rattle.edit_core.specs.declared.kind.Kind.{Kind}
use Rattle.edit_core.specs.declared.kind.Kind.TheVariants as kind
use Rattle.edit_core.specs.Comparing.{is_equal, same_kind}
use Rattle.edit_core.specs.Labelled.{Label, Labelled, Entry, Entries, keyed, no_entries, entry, entries_in, bare, bare_fields}
use Rattle.edit_core.specs.Typing.{seen, both_equal, identity_kept, stays_as}
use Rattle.edit_core.specs.Between.{stays}
use Rattle.edit_core.specs.Labelling.{IsLabelledBy}
use Rattle.edit_core.specs.Matching.{by_first}
use Rattle.edit_core.specs.Template.{NewLabel, entry_at, template, numbered, record_template, field_templates}
use Rattle.edit_core.proofs.Equal.{equal-is}
use Rattle.edit_core.proofs.RuleLinks.{number-itself}
use Rattle.edit_core.proofs.Unchanged.{both-true, kind-itself, stays-itself, numbered-kept, template-equal}
use Rattle.reconcile_core.specs.RealTypes.{kind_by}
use Rattle.tree_core.specs.TypesTyping.{typing_of, root_type}
use Rattle.tree_core.specs.Writing.{are_others, others_held, other_under}
use Rattle.tree_laws.proofs.Fields.{Fits, Found, fits-at, made-fits, Under, made-under}
use Rattle.tree_laws.proofs.Literals.{identifier-made, identifier-given}
use Rattle.tree_laws.proofs.Named.{IsFound, is-found}

-- two values of an identifier's kind that aren't others are equal
not-false : (b : Bool) → not b ≡ false → b ≡ true
not-false true h = refl
not-false false h = absurd (cc)

same-kind : (s : Option Shape) (v w : Value) → is_of_kind s v ≡ true → is_of_kind s w ≡ true → are_others v w ≡ false → is_equal v w ≡ true
same-kind (Some shape.Identifier) (text s) (text u) p q h = not-false (is_equal (text s) (text u)) h
same-kind (Some shape.IdentifierNumber) (integer y) (integer z) p q h = not-false (is_equal (integer y) (integer z)) h
same-kind _ _ _ p q h = absurd (cc)

-- the entry under a key, bare
pub entry-value : (key : List ℕ) (es : Entries Label) → option_map bare (entry_at key (entries_in es)) ≡ value_at key (bare_fields es)
entry-value key no_entries = refl
entry-value key (entry k x es) = by (bytes_eq key k) (entry-value key es) where
  by : (b : Bool) → option_map bare (entry_at key (entries_in es)) ≡ value_at key (bare_fields es)
      → option_map bare (if b then Some x else entry_at key (entries_in es)) ≡ (if b then Some (bare x) else value_at key (bare_fields es))
  by true rest = refl
  by false rest = rest

-- what is held and what is set are no others
others : (o : Option Labelled) (v w : Value) (p : Option Value) → option_map bare o ≡ Some v → p ≡ Some w → others_held o p ≡ false → are_others v w ≡ false
others None v w p e f h = absurd (cc)
others (Some x) v w p e f h = by p f h where
  same : bare x ≡ v
  same = cc

  by : (p : Option Value) → p ≡ Some w → others_held (Some x) p ≡ false → are_others v w ≡ false
  by None f h = absurd (cc)
  by (Some u) f h = let is : u ≡ w = cc in ap (λ a. are_others a w) (sym same) ∙ ap (are_others (bare x)) (sym is) ∙ h

under-none : (b : Bool) (name : List ℕ) → (if b then Some name else None) ≡ None → b ≡ false
under-none true name h = absurd (cc)
under-none false name h = refl

module _ (types : Catalog) (sound : IsSound types) where
  -- the type of a model
  pub model-at : (m : ModelNo) (t : ℕ) → shape_at types.table t ≡ Some (shape.Model m) → (v : Value) → judged_by types.table v t ≡ Some (shape.Model m)
  model-at m t e v = judged_by-at types.table sound.loopless v t (shape.Model m) e refl

  -- what is made is made of itself
  pub maker-again : (t : ℕ) (v s : Value) → maker_of types.table types.defaults v t ≡ Ok s → maker_of types.table types.defaults s t ≡ Ok s
  maker-again t v s h =
      made_by-complete types.table types.defaults sound.loopless sound.all t (Some s) s
      (Makes-again types sound t (Some v) s (made_by-sound types.table types.defaults sound.defaults.made t (Some v) s h))

  -- a record that a model makes of itself
  pub model-fits : (m : ModelNo) (t : ℕ) (ms : Fields) → judged_by types.table (dict tt ms) t ≡ Some (shape.Model m) → maker_of types.table types.defaults (dict tt ms) t ≡ Ok (dict tt ms)
      → Fits types.table types.defaults (properties_of types.table m.0) ms
  model-fits m t ms e h =
      let parts = record_of-Ok (properties_made (absent types.table types.defaults) (properties_of types.table m.0) (fields_of types.table types.defaults ms)) (dict tt ms)
      (sym (ap (dict_made types.table (absent types.table types.defaults) (dict tt ms) (fields_of types.table types.defaults ms)) e) ∙ h) in
      made-fits types.table types.defaults (properties_of types.table m.0) ms ms (AreNamed-properties_of types m.0 sound) (λ key v g. g)
      (parts.1 ∙ ap Ok (one parts.0 parts.2)) where
        one : (ns : Fields) → dict tt ms ≡ dict tt ns → ns ≡ ms
        one ns f = cc

  -- the identifier that is held and the one that is set are equal
  pub identity : (m : ModelNo) (l : Label) (es : Entries Label) (given made : Fields)
      → Fits types.table types.defaults (properties_of types.table m.0) (bare_fields es) → Fits types.table types.defaults (properties_of types.table m.0) made
      → (p : Option Property) → identifier_of types.table m.0 ≡ p
      → ((q : Property) → p ≡ Some q → value_at q.name given ≡ value_at q.name made)
      → other_under (option_map (λ (q : Property). q.name) p) (keyed l es) (dict tt given) ≡ None
      → identity_kept (option_map (λ (q : Property). q.name) p) (dict tt (bare_fields es)) (dict tt made) ≡ true
  identity m l es given made old new None e same fixed = refl
  identity m l es given made old new (Some q) e same fixed =
      let is : IsFound (identifies types.table) (properties_of types.table m.0) q = is-found (identifies types.table) (properties_of types.table m.0) q (AreNamed-properties_of types m.0 sound) e in
      let a : Found types.table types.defaults q.name q (bare_fields es) = fits-at types.table types.defaults q.name (properties_of types.table m.0) (bare_fields es) q old is.named in
      let b : Found types.table types.defaults q.name q made = fits-at types.table types.defaults q.name (properties_of types.table m.0) made q new is.named in
      let no : are_others a.value b.value ≡ false =
      others (entry_at q.name (entries_in es)) a.value b.value (value_at q.name given) (entry-value q.name es ∙ a.there) (same q refl ∙ b.there)
      (under-none (others_held (entry_at q.name (entries_in es)) (value_at q.name given)) q.name fixed) in
      let equal : is_equal a.value b.value ≡ true =
      same-kind (shape_at types.table q.of.0) a.value b.value (identifier-made types sound a.value q.of.0 is.passes a.made) (identifier-made types sound b.value q.of.0 is.passes b.made) no in
      ap (λ o. both_equal o (value_at q.name made)) a.there ∙ ap (both_equal (Some a.value)) b.there ∙ equal

  -- an identifier is set as it is given
  pub same-given : (m : ModelNo) (given made : Fields) → properties_made (absent types.table types.defaults) (properties_of types.table m.0) (fields_of types.table types.defaults given) ≡ Ok made
      → (q : Property) → identifier_of types.table m.0 ≡ Some q → value_at q.name given ≡ value_at q.name made
  same-given m given made h q e =
      let is : IsFound (identifies types.table) (properties_of types.table m.0) q = is-found (identifies types.table) (properties_of types.table m.0) q (AreNamed-properties_of types m.0 sound) e in
      let u : Under types.table types.defaults q.name q given made = made-under types.table types.defaults q.name (properties_of types.table m.0) given made q h is.named in
      identifier-given types sound q.of.0 (value_at q.name given) u.value is.passes u.made ∙ sym u.there

  -- what a model makes of a value is a record, of a record
  pub record Of (m : ModelNo) (v s : Value) : Type 0 where
    pub given : Fields
    pub made : Fields
    pub from : v ≡ dict tt given
    pub to : s ≡ dict tt made
    pub each : properties_made (absent types.table types.defaults) (properties_of types.table m.0) (fields_of types.table types.defaults given) ≡ Ok made

  pub model-of : (m : ModelNo) (t : ℕ) (v s : Value) → judged_by types.table v t ≡ Some (shape.Model m) → maker_of types.table types.defaults v t ≡ Ok s → Of m v s
  model-of m t null s e h = let no = (scalar_made-Ok types.table null s (Some (shape.Model m)) (sym (ap (scalar_made types.table null) e) ∙ h)).0 in absurd (cc)
  model-of m t (boolean b) s e h = let no = (scalar_made-Ok types.table (boolean b) s (Some (shape.Model m)) (sym (ap (scalar_made types.table (boolean b)) e) ∙ h)).0 in absurd (cc)
  model-of m t (integer z) s e h = let no = (scalar_made-Ok types.table (integer z) s (Some (shape.Model m)) (sym (ap (scalar_made types.table (integer z)) e) ∙ h)).0 in absurd (cc)
  model-of m t (text b) s e h = let no = (scalar_made-Ok types.table (text b) s (Some (shape.Model m)) (sym (ap (scalar_made types.table (text b)) e) ∙ h)).0 in absurd (cc)
  model-of m t (list a ps) s e h = let none = sym (ap (list_made (list a ps) (makers_of types.table types.defaults ps)) e) ∙ h in absurd (cc)
  model-of m t (dict a ms) s e h =
      let parts = record_of-Ok (properties_made (absent types.table types.defaults) (properties_of types.table m.0) (fields_of types.table types.defaults ms)) s
      (sym (ap (dict_made types.table (absent types.table types.defaults) (dict tt ms) (fields_of types.table types.defaults ms)) e) ∙ h) in
      record { given = ms; made = parts.0; from = refl; to = parts.2; each = parts.1 }

  -- a record of a model with the same identifier stays
  model-stays : (next : ℕ) (l : Label) (es : Entries Label) (m : ModelNo) (ms : Fields) (making : Kind → List Entry → Entries NewLabel)
      → same_kind l.kind (kind.Model m) ≡ true → stays_as (typing_of types.table) (kind.Model m) (seen (keyed l es)) (dict tt ms) ≡ true
      → stays (keyed l es) (numbered next (record_template (by_first (typing_of types.table)) (Some (kind.Model m)) (Some (keyed l es)) ms making)) ≡ true
  model-stays next l es m ms making same h = rw h (both-true (l.number == l.number) (same_kind l.kind (kind.Model m)) (number-itself l.number) same)

  node-stays : (next t : ℕ) (l : Label) (es : Entries Label) (m : ModelNo) (ms : Fields) → (typing_of types.table).kind_of t (dict tt ms) ≡ Some (kind.Model m)
      → same_kind l.kind (kind.Model m) ≡ true → identity_kept ((typing_of types.table).identifier_of m) (dict tt (bare_fields es)) (dict tt ms) ≡ true
      → stays (keyed l es) (numbered next (template (by_first (typing_of types.table)) t (Some (keyed l es)) (dict tt ms))) ≡ true
  node-stays next t l es m ms of same kept = by (is_equal (bare (keyed l es)) (dict tt ms)) refl where
    by : (b : Bool) → is_equal (bare (keyed l es)) (dict tt ms) ≡ b → stays (keyed l es) (numbered next (template (by_first (typing_of types.table)) t (Some (keyed l es)) (dict tt ms))) ≡ true
    by true e =
        let is : bare (keyed l es) ≡ dict tt ms = equal-is (bare (keyed l es)) (dict tt ms) e in
        let P : Value → Type 0 = λ w. stays (keyed l es) (numbered next (template (by_first (typing_of types.table)) t (Some (keyed l es)) w)) ≡ true in
        let Q : Labelled → Type 0 = λ x. stays (keyed l es) x ≡ true in
        subst P is (subst Q (sym (ap (numbered next) (template-equal (by_first (typing_of types.table)) t (keyed l es)) ∙ numbered-kept next (keyed l es))) (stays-itself (keyed l es)))
    by false e =
        rw (e, of) (model-stays next l es m ms (field_templates (by_first (typing_of types.table)) ms) same
        (both-true (same_kind l.kind (kind.Model m)) (identity_kept ((typing_of types.table).identifier_of m) (dict tt (bare_fields es)) (dict tt ms)) same kept))

  -- the type of a document is the root's model
  pub root-shape : shape_at types.table (root_type types) ≡ Some (shape.Model types.root)
  root-shape = ⊎_elim (λ f. there f.0 f.2) (λ f. absurd (gone f.0 sound.root)) (slice_get_cases types.table.models types.root.0).1 where
    there : (model : ModelType) → slice_get types.table.models types.root.0 ≡ Some model → shape_at types.table (root_type types) ≡ Some (shape.Model types.root)
    there model e =
        ap (λ o. shape_at types.table (unwrap_or (option_map (λ (n : ModelType). n.own.0) o) 0)) e ∙ shape_at-own types types.root.0 model sound e

    gone : length types.table.models ≤ types.root.0 → types.root.0 < length types.table.models → ⊥
    gone a b = omega arith

  pub root-judged : (v : Value) → judged_by types.table v (root_type types) ≡ Some (shape.Model types.root)
  root-judged v = model-at types.root (root_type types) root-shape v

  pub root-kind : (es : Entries Label) (k : Kind) → (typing_of types.table).kind_of (root_type types) (dict tt (bare_fields es)) ≡ Some k → k ≡ kind.Model types.root
  root-kind es k h =
      let is : (typing_of types.table).kind_of (root_type types) (dict tt (bare_fields es)) ≡ Some (kind.Model types.root) = ap (λ s. kind_by s (dict tt (bare_fields es))) (root-judged (dict tt (bare_fields es))) in cc

  -- The root given another snapshot as a whole: it stays.
  pub root-stays : (next : ℕ) (l : Label) (es : Entries Label) (v made : Value)
      → IsLabelledBy (typing_of types.table) (root_type types) (keyed l es)
      → maker_of types.table types.defaults (bare (keyed l es)) (root_type types) ≡ Ok (bare (keyed l es))
      → maker_of types.table types.defaults v (root_type types) ≡ Ok made
      → other_under ((typing_of types.table).identifier_of types.root) (keyed l es) v ≡ None
      → stays (keyed l es) (numbered next (template (by_first (typing_of types.table)) (root_type types) (Some (keyed l es)) made)) ≡ true
  root-stays next l es v made labelled old new fixed =
      let m : ModelNo = types.root in
      let is : l.kind ≡ kind.Model types.root = root-kind es l.kind labelled.0 in
      let of : Of m v made = model-of m (root_type types) v made (root-judged v) new in
      let again : maker_of types.table types.defaults (dict tt of.made) (root_type types) ≡ Ok (dict tt of.made) =
      (let P : Value → Type 0 = λ w. maker_of types.table types.defaults w (root_type types) ≡ Ok w in subst P of.to (maker-again (root_type types) v made new)) in
      let P : Value → Type 0 = λ w. stays (keyed l es) (numbered next (template (by_first (typing_of types.table)) (root_type types) (Some (keyed l es)) w)) ≡ true in
      let F : Value → Type 0 = λ w. other_under ((typing_of types.table).identifier_of types.root) (keyed l es) w ≡ None in
      subst P (sym of.to)
      (node-stays next (root_type types) l es m of.made (ap (λ s. kind_by s (dict tt of.made)) (root-judged (dict tt of.made)))
      (ap (λ k. same_kind k (kind.Model m)) is ∙ kind-itself (kind.Model m))
      (identity m l es of.given of.made
      (model-fits m (root_type types) (bare_fields es) (root-judged (dict tt (bare_fields es))) old)
      (model-fits m (root_type types) of.made (root-judged (dict tt of.made)) again)
      (identifier_of types.table m.0) refl (λ q e. same-given m of.given of.made of.each q e) (subst F of.from fixed)))

-- Each type expression that is laid for a value without faults is read from the value that its pointer leads to.
use Rattle.std.proofs.Common.{◌≡◌, ℕ, suc, ◌+◌, List, [], ◌∷◌, ◌++◌, length, is_some, Option, Some, None, All, codes, decimal, slice_get, option_map, refl, sym, ◌∙◌, ap, subst, arith}
use Rattle.std.proofs.lemmas.Option.{slice_get-map, same_Some}
use Rattle.std.proofs.lemmas.List.{append-nil}
use Rattle.std.proofs.lemmas.List.Elements.{All-nil, All-cons}
use Rattle.snap_core.specs.Value.{Value, null, boolean, integer, text, list, dict, no_parts, part, no_members, member, Items, Fields}
use Rattle.snap_core.specs.Level.{item_at}
use Rattle.snap_core.specs.Unview.{snap_of}
use Rattle.snap_core.specs.declared.number.TypeNo.{TypeNo}
use Rattle.snap_core.proofs.Views.{view-snap_of}
use Rattle.pointer_core.specs.Path.{Path}
use Rattle.pointer_core.specs.declared.schema_rule.SchemaRule.TheVariants.{Shape}
use Rattle.schema_form.specs.declared.form.SchemaForm.{SchemaForm}
use Rattle.schema_form.specs.declared.form.EntryNo.{EntryNo}
use Rattle.schema_form.specs.declared.form.Expression.{Expression}
use Rattle.schema_form.specs.declared.form.Plain.{Plain}
use Rattle.schema_form.specs.declared.form.Place.{Place}
use Rattle.schema_form.specs.declared.form.Place.TheVariants as place
use Rattle.schema_form.specs.declared.form.Step.{Step}
use Rattle.schema_form.specs.declared.form.Step.TheVariants as step
use Rattle.schema_form.specs.declared.form.Kind.{Kind}
use Rattle.schema_form.specs.declared.form.Kind.TheVariants as kind
use Rattle.schema_form.specs.declared.form.Word.{Word}
use Rattle.schema_form.specs.declared.form.Word.TheVariants as word
use Rattle.schema_form.specs.declared.words.Form.{Form}
use Rattle.schema_form.specs.declared.words.Form.TheVariants as form
use Rattle.schema_form.specs.declared.words.Leaf.{Leaf}
use Rattle.schema_form.specs.declared.words.Leaf.TheVariants as leaf
use Rattle.schema_form.specs.Words.{plain_of, form_of}
use Rattle.schema_form.specs.Names.{entry_of, plain_or, word_of, base_of, refinable}
use Rattle.schema_form.specs.Faults.{unless, under, number_faults, word_faults, base_faults, base_in, conditions_faults, refinement_faults, name_faults, numbered, leaf_faults, form_faults, keyed_faults, type_faults, item_faults, parts_faults, enumeration_faults}
use Rattle.schema_form.specs.Layout.{Layout, type_no, said, entry_named, texts_in, conditions_in, members_laid, member_numbers, form_laid, keyed_laid, type_laid, items_laid, parts_laid_of}
use Rattle.schema_form.specs.Pointers.{IsPointer, entry, property, param, part, places_of, step_path}
use Rattle.schema_form.specs.Reading.{kind_at, name_at, IsWord, keyed, pair, text_items, condition_fields, IsReadFrom, AreReadFrom, no_more, one_more}
use Rattle.schema_form.specs.Reading as read
use Rattle.schema_form.specs.Laws.{PathLeads, Inner, inner_members, inner_of, IsInside, IsReadAt}
use Rattle.schema_form.proofs.NoFaults.{append_none, under_none, here_some}
use Rattle.schema_form.proofs.Whole.{AllFrom, AllFrom-append, word-known, entry-known}
use Rattle.schema_form.proofs.Leading.{PathLeads-append, PathLeads-item, PathLeads-first, PathLeads-keyed, AllFrom-split}
use Rattle.schema_form.proofs.Spelled.{form_key, key-of, text_items-in, condition_fields-in}

module _ (f : SchemaForm) (file : Value) (types : Fields) (known : (s : List ℕ) (e : EntryNo) → entry_of types s ≡ Some e → name_at f e ≡ Some s) where
  abbrev pub places : List Place
  places = places_of f.expressions

  abbrev pub IsPointerTo : ℕ → Path → Type 0
  IsPointerTo = IsPointer f.entries f.models places

  -- the expressions stand in the form, the first of them under this number
  abbrev pub Stand : ℕ → List Expression → Type 0
  Stand = AllFrom (λ n e. slice_get f.expressions n ≡ Some e)

  -- each of them is read from the value that its pointer leads to
  abbrev pub AreReadAt : ℕ → List Expression → Type 0
  AreReadAt = AllFrom (λ n e. IsReadAt file f n)

  -- an expression has one pointer, which leads to a value
  pub record HasPlace (n : ℕ) (v : Value) : Type 0 where
    pub pointer : Path
    pub is : IsPointerTo n pointer
    pub only : (path : Path) → IsPointerTo n path → path ≡ pointer
    pub leads : PathLeads file pointer v

  -- an expression that stands at a place has a pointer to a value
  abbrev pub LeadsTo : Place → Value → Type 0
  LeadsTo at v = (n : ℕ) → slice_get places n ≡ Some at → HasPlace n v

  pub placed : (n : ℕ) (e : Expression) → slice_get f.expressions n ≡ Some e → slice_get places n ≡ Some e.place
  placed n e is = slice_get-map (λ (x : Expression). x.place) f.expressions n ∙ ap (option_map (λ (x : Expression). x.place)) is

  pub kind-is : (n : ℕ) (e : Expression) → slice_get f.expressions n ≡ Some e → kind_at f n ≡ Some e.kind
  kind-is n e is = ap (option_map (λ (x : Expression). x.kind)) is

  pub read-at : (n : ℕ) (v : Value) (k : Kind) (has : HasPlace n v) → IsReadFrom f n v → kind_at f n ≡ Some k → All (IsInside f has.pointer) (inner_of f k) → IsReadAt file f n
  read-at n v k has reads is inner = record {
    value = v;
    read = reads;
    pointer = has.pointer;
    is = has.is;
    only = has.only;
    leads = has.leads;
    inner = λ other said. let P : Kind → Type 0 = λ x. All (IsInside f has.pointer) (inner_of f x) in let same : k ≡ other = same_Some k other (sym is ∙ said) in subst P same inner;
  }

  -- the pointer of a part goes on from that of the whole
  part-leads : (n : ℕ) (v w : Value) (s : Step) → HasPlace n v → PathLeads v (step_path s) w → LeadsTo (place.Part (type_no n) s) w
  part-leads n v w s has on m at = record {
    pointer = has.pointer ++ step_path s;
    is = part m (type_no n) s has.pointer at has.is;
    only = λ path is. go m at path is;
    leads = PathLeads-append file v w has.pointer (step_path s) has.leads on;
  } where
    go : (m : ℕ) → slice_get places m ≡ Some (place.Part (type_no n) s) → (path : Path) → IsPointerTo m path → path ≡ has.pointer ++ step_path s
    go _ at _ (entry t e one there named) = let same : place.Entry e ≡ place.Part (type_no n) s = same_Some _ _ (sym there ∙ at) in cc
    go _ at _ (property t m i model p there stands lies) = let same : place.Property m i ≡ place.Part (type_no n) s = same_Some _ _ (sym there ∙ at) in cc
    go _ at _ (param t m i j model action there stands lies) = let same : place.Param m i j ≡ place.Part (type_no n) s = same_Some _ _ (sym there ∙ at) in cc
    go _ at _ (part t u other path there up) =
        let same : place.Part u other ≡ place.Part (type_no n) s = same_Some _ _ (sym there ∙ at) in
        let whole : u ≡ type_no n = cc in
        let steps : other ≡ s = cc in
        let P : TypeNo → Type 0 = λ k. IsPointerTo k.0 path in
        ap (λ p. p ++ step_path other) (has.only path (subst P whole up)) ∙ ap (λ x. has.pointer ++ step_path x) steps

  -- what is laid at a place that leads to the value is read from it
  pub record IsLaid (n : ℕ) (at : Place) (v : Value) (xs : List Expression) : Type 0 where
    pub place : slice_get places n ≡ Some at
    pub first : IsReadFrom f n v
    pub each : AreReadAt n xs

  abbrev pub IsRead : Value → Layout → Type 0
  IsRead v l = (n : ℕ) (at : Place) → Stand n (l n at) → LeadsTo at v → IsLaid n at v (l n at)

  -- one expression alone, with none inside it
  alone : (v : Value) (n : ℕ) (at : Place) (o : Option Kind) (k : Kind) → inner_of f k ≡ [] → o ≡ Some k → (kind_at f n ≡ Some k → IsReadFrom f n v)
      → Stand n (said at o) → LeadsTo at v → IsLaid n at v (said at o)
  alone v n at None k bare is reads stand leads = absurd cc
  alone v n at (Some other) k bare is reads stand leads =
      let same : other ≡ k = same_Some other k is in
      let e : Expression = record { place = at; kind = other } in
      let says = kind-is n e stand.0 ∙ ap Some same in
      let has : HasPlace n v = leads n (placed n e stand.0) in
      let P : List Inner → Type 0 = All (IsInside f has.pointer) in
      record { place = placed n e stand.0; first = reads says; each = (read-at n v k has (reads says) says (subst P (sym bare) (All-nil (IsInside f has.pointer))), tt) }

  -- an expression, and then a part of it
  abbrev with_part : Kind → Step → Layout → Layout
  with_part k s inner n at = record { place = at; kind = k } ∷ inner (n + 1) (place.Part (type_no n) s)

  around : (v w : Value) (k : Kind) (s : Step) (inner : Layout) (n : ℕ) (at : Place) → PathLeads v (step_path s) w → inner_of f k ≡ (step_path s, type_no (n + 1)) ∷ []
      → (kind_at f n ≡ Some k → IsReadFrom f (n + 1) w → IsReadFrom f n v) → IsRead w inner
      → Stand n (with_part k s inner n at) → LeadsTo at v → IsLaid n at v (with_part k s inner n at)
  around v w k s inner n at on holds reads below stand leads =
      let e : Expression = record { place = at; kind = k } in
      let has : HasPlace n v = leads n (placed n e stand.0) in
      let rest = below (n + 1) (place.Part (type_no n) s) stand.1 (part-leads n v w s has on) in
      let says = kind-is n e stand.0 in
      let one = reads says rest.first in
      let P : List Inner → Type 0 = All (IsInside f has.pointer) in
      let inside : All (IsInside f has.pointer) ((step_path s, type_no (n + 1)) ∷ []) =
      All-cons (IsInside f has.pointer) (step_path s, type_no (n + 1)) [] (part (n + 1) (type_no n) s has.pointer rest.place has.is) (All-nil (IsInside f has.pointer)) in
      record { place = placed n e stand.0; first = one; each = (read-at n v k has one says (subst P (sym holds) inside), rest.each) }

  -- words
  is-word : (s : List ℕ) (plain : Option Plain) (e : Option EntryNo) (w : Word) → plain_of s ≡ plain → entry_of types s ≡ e → plain_or plain e ≡ Some w → IsWord f w s
  is-word s (Some p) e (word.Plain q) is at h = let same : p ≡ q = cc h in is ∙ ap Some same
  is-word s (Some p) e (word.Named d) is at h = absurd cc
  is-word s None (Some e) (word.Named d) is at h = let same : e ≡ d = cc h in (is, known s d (at ∙ ap Some same))
  is-word s None (Some e) (word.Plain q) is at h = absurd cc
  is-word s None None w is at h = absurd cc

  read-word : (s : List ℕ) → word_faults types s ≡ [] → IsRead (text s) (λ n at. said at (option_map kind.Word (word_of types s)))
  read-word s none n at stand leads =
      let w = word-known types s (plain_of s) (entry_of types s) refl refl none in
      alone (text s) n at (option_map kind.Word (word_of types s)) (kind.Word w.0) refl (ap (option_map kind.Word) w.1)
      (λ is. read.word n w.0 s is (is-word s (plain_of s) (entry_of types s) w.0 refl refl w.1)) stand leads

  -- forms that hold no other form
  read-literal : (v : Value) (inner : Layout) (items : List Layout) → IsRead (keyed (codes "literal") v) (form_laid types (form.Leaf leaf.Literal) v inner items)
  read-literal v inner items n at stand leads =
      let P : Value → Type 0 = λ w. IsReadFrom f n (keyed (codes "literal") w) in
      alone (keyed (codes "literal") v) n at (Some (kind.Literal (snap_of v))) (kind.Literal (snap_of v)) refl refl
      (λ is. subst P (view-snap_of v) (read.literal n (snap_of v) is)) stand leads

  read-enumeration : (v : Value) (inner : Layout) (items : List Layout) → enumeration_faults v ≡ []
      → IsRead (keyed (codes "enumeration") v) (form_laid types (form.Leaf leaf.Enumeration) v inner items)
  read-enumeration (list a (part t ps)) inner items none = λ n at stand leads.
      let P : Items → Type 0 = λ vs. IsReadFrom f n (keyed (codes "enumeration") (list tt vs)) in
      let texts : List (List ℕ) = texts_in (part t ps) in
      alone (keyed (codes "enumeration") (list a (part t ps))) n at (Some (kind.Enumeration texts)) (kind.Enumeration texts) refl refl
      (λ is. subst P (text_items-in [] 0 (part t ps) none) (read.enumeration n texts is)) stand leads
  read-enumeration (list a no_parts) inner items none = absurd (here_some Shape none)
  read-enumeration null inner items none = absurd (here_some Shape none)
  read-enumeration (boolean b) inner items none = absurd (here_some Shape none)
  read-enumeration (integer z) inner items none = absurd (here_some Shape none)
  read-enumeration (text s) inner items none = absurd (here_some Shape none)
  read-enumeration (dict a ms) inner items none = absurd (here_some Shape none)

  -- a text that names an entry
  named : (v : Value) (e : EntryNo) → entry_named types v ≡ Some e → (s : List ℕ) × (v ≡ text s) × (name_at f e ≡ Some s)
  named (text s) e is = (s, refl, known s e is)
  named null e is = absurd cc
  named (boolean b) e is = absurd cc
  named (integer z) e is = absurd cc
  named (list a ps) e is = absurd cc
  named (dict a ms) e is = absurd cc

  read-reference : (v : Value) → name_faults types v ≡ [] → IsRead (keyed (codes "reference") v) (λ n at. said at (option_map kind.Reference (entry_named types v)))
  read-reference v none n at stand leads =
      let e = entry-known types v none in
      let s = named v e.0 e.1 in
      let P : Value → Type 0 = λ w. IsReadFrom f n (keyed (codes "reference") w) in
      alone (keyed (codes "reference") v) n at (option_map kind.Reference (entry_named types v)) (kind.Reference e.0) refl (ap (option_map kind.Reference) e.1)
      (λ is. subst P (sym s.1) (read.reference n e.0 s.0 is s.2)) stand leads

  read-safe : (v : Value) → name_faults types v ≡ [] → IsRead (keyed (codes "safeReference") v) (λ n at. said at (option_map kind.SafeReference (entry_named types v)))
  read-safe v none n at stand leads =
      let e = entry-known types v none in
      let s = named v e.0 e.1 in
      let P : Value → Type 0 = λ w. IsReadFrom f n (keyed (codes "safeReference") w) in
      alone (keyed (codes "safeReference") v) n at (option_map kind.SafeReference (entry_named types v)) (kind.SafeReference e.0) refl (ap (option_map kind.SafeReference) e.1)
      (λ is. subst P (sym s.1) (read.safe_reference n e.0 s.0 is s.2)) stand leads

  -- the two items of a pair under a key
  first-of-pair : (key : List ℕ) (v w : Value) → PathLeads (keyed key (pair v w)) (key ∷ codes "0" ∷ []) v
  first-of-pair key v w =
      PathLeads-append (keyed key (pair v w)) (pair v w) v (key ∷ []) (codes "0" ∷ []) (PathLeads-keyed key (pair v w)) (PathLeads-first tt v (part w no_parts))

  no-conditions : (s : List ℕ) (cs : Value) → (conditions_faults (base_of types s) cs ≡ [] → ⊥) → refinement_faults types (pair (text s) cs) ≡ [] → ⊥
  no-conditions s cs not none =
      not (under_none (codes "1") (conditions_faults (base_of types s) cs)
      (append_none (under (codes "0") (base_faults types (text s))) (under (codes "1") (conditions_faults (base_of types s) cs)) none).1)

  read-conditions : (s : List ℕ) (cs : Value) (inner : Layout) (items : List Layout) → refinement_faults types (pair (text s) cs) ≡ []
      → IsRead (keyed (codes "refinement") (pair (text s) cs)) (form_laid types (form.Leaf leaf.Refinement) (pair (text s) cs) inner items)
  read-conditions s (dict a ms) inner items none = λ n at stand leads.
      let parts = append_none (under (codes "0") (base_faults types (text s))) (under (codes "1") (conditions_faults (base_of types s) (dict a ms))) none in
      let word = (append_none (word_faults types s) (unless (is_some (refinable (base_of types s))) Shape) (under_none (codes "0") (base_faults types (text s)) parts.0)).0 in
      let fields = condition_fields-in (base_of types s) ms (under_none (codes "1") (conditions_faults (base_of types s) (dict a ms)) parts.1) in
      let P : Fields → Type 0 = λ ys. IsReadFrom f n (keyed (codes "refinement") (pair (text s) (dict tt ys))) in
      around (keyed (codes "refinement") (pair (text s) (dict a ms))) (text s) (kind.Refinement (type_no (n + 1)) (conditions_in (base_of types s) ms)) step.Refined
      (λ m there. said there (option_map kind.Word (word_of types s))) n at (first-of-pair (codes "refinement") (text s) (dict a ms)) refl
      (λ is below. subst P fields (read.refinement n (type_no (n + 1)) (conditions_in (base_of types s) ms) (text s) is below))
      (read-word s word) stand leads
  read-conditions s null inner items none = absurd (no-conditions s null (λ h. here_some Shape h) none)
  read-conditions s (boolean b) inner items none = absurd (no-conditions s (boolean b) (λ h. here_some Shape h) none)
  read-conditions s (integer z) inner items none = absurd (no-conditions s (integer z) (λ h. here_some Shape h) none)
  read-conditions s (text r) inner items none = absurd (no-conditions s (text r) (λ h. here_some Shape h) none)
  read-conditions s (list a ps) inner items none = absurd (no-conditions s (list a ps) (λ h. here_some Shape h) none)

  no-base : (t cs : Value) → (base_faults types t ≡ [] → ⊥) → refinement_faults types (pair t cs) ≡ [] → ⊥
  no-base t cs not none =
      not (under_none (codes "0") (base_faults types t) (append_none (under (codes "0") (base_faults types t)) (under (codes "1") (conditions_faults (base_in types t) cs)) none).0)

  read-refinement : (v : Value) (inner : Layout) (items : List Layout) → refinement_faults types v ≡ []
      → IsRead (keyed (codes "refinement") v) (form_laid types (form.Leaf leaf.Refinement) v inner items)
  read-refinement (list a (part (text s) (part cs no_parts))) inner items none = read-conditions s cs inner items none
  read-refinement (list a (part null (part cs no_parts))) inner items none = absurd (no-base null cs (λ h. here_some Shape h) none)
  read-refinement (list a (part (boolean b) (part cs no_parts))) inner items none = absurd (no-base (boolean b) cs (λ h. here_some Shape h) none)
  read-refinement (list a (part (integer z) (part cs no_parts))) inner items none = absurd (no-base (integer z) cs (λ h. here_some Shape h) none)
  read-refinement (list a (part (list b ps) (part cs no_parts))) inner items none = absurd (no-base (list b ps) cs (λ h. here_some Shape h) none)
  read-refinement (list a (part (dict b ms) (part cs no_parts))) inner items none = absurd (no-base (dict b ms) cs (λ h. here_some Shape h) none)
  read-refinement (list a (part t (part cs (part x ps)))) inner items none = absurd (here_some Shape none)
  read-refinement (list a (part t no_parts)) inner items none = absurd (here_some Shape none)
  read-refinement (list a no_parts) inner items none = absurd (here_some Shape none)
  read-refinement null inner items none = absurd (here_some Shape none)
  read-refinement (boolean b) inner items none = absurd (here_some Shape none)
  read-refinement (integer z) inner items none = absurd (here_some Shape none)
  read-refinement (text s) inner items none = absurd (here_some Shape none)
  read-refinement (dict a ms) inner items none = absurd (here_some Shape none)

  -- what is laid for a reference has nothing behind it
  bare : (v : Value) (l m : Layout) → ((n : ℕ) (at : Place) → l n at ≡ m n at) → IsRead v m → IsRead v l
  bare v l m same reads n at stand leads =
      let P : List Expression → Type 0 = Stand n in
      let Q : List Expression → Type 0 = AreReadAt n in
      let laid = reads n at (subst P (same n at) stand) leads in
      record { place = laid.place; first = laid.first; each = subst Q (sym (same n at)) laid.each }

  read-leaf : (l : Leaf) (v : Value) (inner : Layout) (items : List Layout) → leaf_faults types l v ≡ [] → IsRead (keyed (form_key (form.Leaf l)) v) (form_laid types (form.Leaf l) v inner items)
  read-leaf leaf.Literal v inner items none = read-literal v inner items
  read-leaf leaf.Enumeration v inner items none = read-enumeration v inner items none
  read-leaf leaf.Refinement v inner items none = read-refinement v inner items none
  read-leaf leaf.Reference v inner items none =
      bare (keyed (codes "reference") v) (form_laid types (form.Leaf leaf.Reference) v inner items) (λ n at. said at (option_map kind.Reference (entry_named types v)))
      (λ n at. append-nil _) (read-reference v none)
  read-leaf leaf.SafeReference v inner items none =
      bare (keyed (codes "safeReference") v) (form_laid types (form.Leaf leaf.SafeReference) v inner items) (λ n at. said at (option_map kind.SafeReference (entry_named types v)))
      (λ n at. append-nil _) (read-safe v none)

  -- what is known of each item of a list
  abbrev Each : Items → Type 0
  Each no_parts = Unit {0}
  Each (part v ps) = (type_faults types v ≡ [] → IsRead v (type_laid types v)) × Each ps

  abbrev EachIn : Value → Type 0
  EachIn (list a ps) = Each ps
  EachIn _ = Unit {0}

  -- the members of a union
  member-path : (all : Items) (i : ℕ) (v : Value) → item_at i all ≡ Some v → PathLeads (keyed (codes "union") (list tt all)) (codes "union" ∷ decimal i ∷ []) v
  member-path all i v there =
      PathLeads-append (keyed (codes "union") (list tt all)) (list tt all) v (codes "union" ∷ []) (decimal i ∷ [])
      (PathLeads-keyed (codes "union") (list tt all)) (PathLeads-item tt i all v there)

  -- the members are read from their items, and their pointers go on from that of the union
  record AreMembers (u : ℕ) (pointer : Path) (i : ℕ) (ps : Items) (n : ℕ) : Type 0 where
    read : AreReadFrom f (member_numbers u i (parts_laid_of types ps) n) ps
    each : AreReadAt n (members_laid u i (parts_laid_of types ps) n)
    inside : All (IsInside f pointer) (inner_members i (member_numbers u i (parts_laid_of types ps) n))

  read-members : (all : Items) (u : ℕ) (has : HasPlace u (keyed (codes "union") (list tt all))) (i : ℕ) (ps : Items) (n : ℕ) → ((j : ℕ) (v : Value) → item_at j ps ≡ Some v → item_at (i + j) all ≡ Some v)
      → numbered i (parts_faults types ps) ≡ [] → Each ps → Stand n (members_laid u i (parts_laid_of types ps) n) → AreMembers u has.pointer i ps n
  read-members all u has i no_parts n among none each stand = record { read = no_more; each = tt; inside = All-nil (IsInside f has.pointer) }
  read-members all u has i (part v ps) n among none each stand =
      let s : Step = step.Member i in
      let at : Place = place.Part (type_no u) s in
      let first : List Expression = type_laid types v n at in
      let rest : List Expression = members_laid u (i + 1) (parts_laid_of types ps) (n + length first) in
      let numbers : List TypeNo = member_numbers u (i + 1) (parts_laid_of types ps) (n + length first) in
      let parts = append_none (under (decimal i) (type_faults types v)) (numbered (i + 1) (parts_faults types ps)) none in
      let stands = AllFrom-split (λ m e. slice_get f.expressions m ≡ Some e) n first rest stand in
      let here : item_at i all ≡ Some v = let P : ℕ → Type 0 = λ k. item_at k all ≡ Some v in let same : i + 0 ≡ i = omega arith in subst P same (among 0 v refl) in
      let one = each.0 (under_none (decimal i) (type_faults types v) parts.0) n at stands.0
      (part-leads u (keyed (codes "union") (list tt all)) v s has (member-path all i v here)) in
      let further = read-members all u has (i + 1) ps (n + length first)
      (λ j w there. let P : ℕ → Type 0 = λ k. item_at k all ≡ Some w in let same : i + suc j ≡ i + 1 + j = omega arith in subst P same (among (suc j) w there))
      parts.1 each.1 stands.1 in record {
        read = one_more (type_no n) numbers v ps one.first further.read;
        each = AllFrom-append (λ m e. IsReadAt file f m) n (n + length first) first rest refl one.each further.each;
        inside = All-cons (IsInside f has.pointer) (step_path s, type_no n) (inner_members (i + 1) numbers) (part n (type_no u) s has.pointer one.place has.is) further.inside;
      }

  read-union : (ps : Items) (inner : Layout) → numbered 0 (parts_faults types ps) ≡ [] → Each ps
      → IsRead (keyed (codes "union") (list tt ps)) (form_laid types form.Union (list tt ps) inner (parts_laid_of types ps))
  read-union ps inner none each n at stand leads =
      let whole : Value = keyed (codes "union") (list tt ps) in
      let numbers : List TypeNo = member_numbers n 0 (parts_laid_of types ps) (n + 1) in
      let e : Expression = record { place = at; kind = kind.Union numbers } in
      let has : HasPlace n whole = leads n (placed n e stand.0) in
      let members = read-members ps n has 0 ps (n + 1)
      (λ j v there. let P : ℕ → Type 0 = λ k. item_at k ps ≡ Some v in let same : j ≡ 0 + j = omega arith in subst P same there) none each stand.1 in
      let says = kind-is n e stand.0 in
      let one = read.union n numbers ps says members.read in
      record { place = placed n e stand.0; first = one; each = (read-at n whole (kind.Union numbers) has one says members.inside, members.each) }

  read-form : (o : Form) (v : Value) → form_faults types o v (type_faults types v) (item_faults types v) ≡ []
      → (type_faults types v ≡ [] → IsRead v (type_laid types v)) → EachIn v → IsRead (keyed (form_key o) v) (form_laid types o v (type_laid types v) (items_laid types v))
  read-form (form.Leaf l) v none inner each = read-leaf l v (type_laid types v) (items_laid types v) none
  read-form (form.Holder h) v none inner each = λ n at.
      around (keyed (form_key (form.Holder h)) v) v (kind.Holder h (type_no (n + 1))) (step.Held h) (type_laid types v) n at (PathLeads-keyed (form_key (form.Holder h)) v) refl
      (λ is below. read.holder n h (type_no (n + 1)) v is below) (inner none)
  read-form form.Optional (list a (part t (part d no_parts))) none inner each = λ n at.
      let parts = append_none (under (codes "0") (type_faults types t)) (under (codes "1") (number_faults d)) none in
      let P : Value → Type 0 = λ w. IsReadFrom f n (keyed (codes "optional") (pair t w)) in
      around (keyed (codes "optional") (pair t d)) t (kind.Optional (type_no (n + 1)) (snap_of d)) step.Defaulted (type_laid types t) n at (first-of-pair (codes "optional") t d) refl
      (λ is below. subst P (view-snap_of d) (read.optional n (type_no (n + 1)) (snap_of d) t is below))
      (each.0 (under_none (codes "0") (type_faults types t) parts.0))
  read-form form.Union (list a (part t (part u ps))) none inner each = read-union (part t (part u ps)) (type_laid types (list a (part t (part u ps)))) none each
  read-form form.Optional (list a (part t (part d (part x ps)))) none inner each = absurd (here_some Shape none)
  read-form form.Optional (list a (part t no_parts)) none inner each = absurd (here_some Shape none)
  read-form form.Optional (list a no_parts) none inner each = absurd (here_some Shape none)
  read-form form.Optional null none inner each = absurd (here_some Shape none)
  read-form form.Optional (boolean b) none inner each = absurd (here_some Shape none)
  read-form form.Optional (integer z) none inner each = absurd (here_some Shape none)
  read-form form.Optional (text s) none inner each = absurd (here_some Shape none)
  read-form form.Optional (dict a ms) none inner each = absurd (here_some Shape none)
  read-form form.Union (list a (part t no_parts)) none inner each = absurd (here_some Shape none)
  read-form form.Union (list a no_parts) none inner each = absurd (here_some Shape none)
  read-form form.Union null none inner each = absurd (here_some Shape none)
  read-form form.Union (boolean b) none inner each = absurd (here_some Shape none)
  read-form form.Union (integer z) none inner each = absurd (here_some Shape none)
  read-form form.Union (text s) none inner each = absurd (here_some Shape none)
  read-form form.Union (dict a ms) none inner each = absurd (here_some Shape none)

  read-keyed : (key : List ℕ) (o : Option Form) (v : Value) → form_of key ≡ o → keyed_faults types key o v (type_faults types v) (item_faults types v) ≡ []
      → (type_faults types v ≡ [] → IsRead v (type_laid types v)) → EachIn v → IsRead (keyed key v) (λ n at. keyed_laid types o v (type_laid types v) (items_laid types v) n at)
  read-keyed key None v is none inner each = absurd (here_some Shape none)
  read-keyed key (Some o) v is none inner each =
      let P : List ℕ → Type 0 = λ k. IsRead (keyed k v) (λ n at. form_laid types o v (type_laid types v) (items_laid types v) n at) in
      subst P (sym (key-of key o is)) (read-form o v (under_none key (form_faults types o v (type_faults types v) (item_faults types v)) none) inner each)

  mutual
    pub read-type : (v : Value) → type_faults types v ≡ [] → IsRead v (type_laid types v)
    read-type (text s) none = read-word s none
    read-type (dict a (member key v no_members)) none = read-keyed key (form_of key) v refl none (read-type v) (read-items v)
    read-type null none = absurd (here_some Shape none)
    read-type (boolean b) none = absurd (here_some Shape none)
    read-type (integer z) none = absurd (here_some Shape none)
    read-type (list a ps) none = absurd (here_some Shape none)
    read-type (dict a no_members) none = absurd (here_some Shape none)
    read-type (dict a (member key v (member l w ms))) none = absurd (here_some Shape none)

    read-items : (v : Value) → EachIn v
    read-items (list a ps) = read-parts ps
    read-items null = tt
    read-items (boolean b) = tt
    read-items (integer z) = tt
    read-items (text s) = tt
    read-items (dict a ms) = tt

    read-parts : (ps : Items) → Each ps
    read-parts no_parts = tt
    read-parts (part v ps) = (read-type v, read-parts ps)

-- Labels follow types after a part is changed.
use Rattle.std.proofs.Common.{◌≡◌, ℕ, zero, suc, List, [], ◌∷◌, Bool, true, false, Option, Some, Ok, if◌then◌else◌, refl, sym, ap, subst, ◌∙◌}
use Rattle.std.specs.Prelude.{slice_get, unwrap_or}
use Rattle.std.specs.Option.{option_map}
use Rattle.std.specs.Str.{bytes_eq}
use Rattle.std.proofs.lemmas.Slice.Eq.{bytes_eq-Decides}
use Rattle.snap_core.specs.Value.{Value, list, dict, value_at, Fields}
use Rattle.snap_core.specs.View.{view}
use Rattle.snap_core.specs.declared.number.ModelNo.{ModelNo}
use Rattle.snap_core.specs.declared.number.TypeNo.{TypeNo}
use Rattle.snap_core.specs.declared.snap.Snap.{Snap}
use Rattle.type_table.specs.declared.shape.Property.{Property}
use Rattle.type_table.specs.declared.shape.Shape.{Shape}
use Rattle.type_table.specs.declared.shape.Shape.TheVariants as shape
use Rattle.type_table.specs.Names.{shape_by}
use Rattle.type_table.specs.Table.{Table, Catalog, properties_of}
use Rattle.type_table.specs.Unions.{is_same, property_at}
use Rattle.type_core.specs.Judging.{judged_by}
use Rattle.type_core.specs.Making.{maker_of}
use Rattle.type_core.specs.Sound.{IsSound}
use Rattle.edit_core.specs.declared.kind.Kind.{Kind}
use Rattle.edit_core.specs.declared.kind.Kind.TheVariants as kind
use Rattle.edit_core.specs.Application.{item_changed, entry_changed}
use Rattle.edit_core.specs.Edit.{Turn, to_item, to_entry}
use Rattle.edit_core.specs.Labelled.{Label, Labelled, Entry, Branches, Entries, leaf, many, keyed, no_branches, branch, no_entries, entry, items_in, entries_in, bare, bare_items, bare_fields}
use Rattle.edit_core.specs.Labelling.{IfArray, IfRecord, IsLabelledBy, AreLabelledBy, HoldLabelledBy}
use Rattle.edit_core.specs.Ways.{with_part, part_at_turn}
use Rattle.reconcile_core.specs.RealTypes.{kind_by, type_or_none}
use Rattle.tree_core.specs.Nodes.{part_type, type_at, key_of}
use Rattle.tree_core.specs.TypesTyping.{typing_of, type_under}
use Rattle.tree_core.proofs.Moving.{Stands}
use Rattle.tree_laws.proofs.Judged.{KeepsLetters, list-judged, record-judged}
use Rattle.tree_laws.proofs.Literals.{same-is, literal-made}

-- which shape gives a kind

pub model-shape : (s : Option Shape) (ms : Fields) (m : ModelNo) → kind_by s (dict tt ms) ≡ Some (kind.Model m) → s ≡ Some (shape.Model m)
model-shape (Some (shape.Model n)) ms m h = let same : n ≡ m = cc in ap (λ (k : ModelNo). Some (shape.Model k)) same
model-shape _ ms m h = absurd (cc)

pub map-shape : (s : Option Shape) (ms : Fields) (u : TypeNo) → kind_by s (dict tt ms) ≡ Some (kind.Map u) → s ≡ Some (shape.Map u)
map-shape (Some (shape.Map w)) ms u h = let same : w ≡ u = cc in ap (λ (n : TypeNo). Some (shape.Map n)) same
map-shape _ ms u h = absurd (cc)

pub no-array : (s : Option Shape) (ms : Fields) (u : TypeNo) → kind_by s (dict tt ms) ≡ Some (kind.Array u) → ⊥
no-array (Some (shape.Model n)) ms u h = cc
no-array (Some (shape.Map w)) ms u h = cc
no-array _ ms u h = cc

-- a fact of the model that a kind is
abbrev pub IfModelKind : Kind → (ModelNo → Type 0) → Type 0
IfModelKind (kind.Model m) P = P m
IfModelKind k P = Unit {0}

-- where a type is a literal that a value is, another value is it too
abbrev pub KeepsLetter : Table → ℕ → Value → Value → Type 0
KeepsLetter table u v w = (l : Snap) → shape_by table u ≡ Some (shape.Literal l) → is_same v (view l) ≡ true → w ≡ v

module _ (types : Catalog) (sound : IsSound types) where
  abbrev Lab : ℕ → Labelled → Type 0
  Lab t x = IsLabelledBy (typing_of types.table) t x

  -- a made value keeps it
  pub made-letter : (u : ℕ) (v w : Value) → maker_of types.table types.defaults w u ≡ Ok w → KeepsLetter types.table u v w
  made-letter u v w made l letter same = sym (same-is (view l) w (literal-made types sound w u l letter made)) ∙ sym (same-is v (view l) same)

  -- other items, and other entries
  pub list-kind : (t : ℕ) (k : Kind) (bs cs : Branches Label) → (typing_of types.table).kind_of t (list tt (bare_items bs)) ≡ Some k → (typing_of types.table).kind_of t (list tt (bare_items cs)) ≡ Some k
  list-kind t k bs cs h = by (judged_by types.table (list tt (bare_items bs)) t) (list-judged types.table (bare_items cs) (bare_items bs) t) h where
    same : (s : Option Shape) → kind_by s (list tt (bare_items cs)) ≡ kind_by s (list tt (bare_items bs))
    same (Some (shape.Array u)) = refl
    same (Some (shape.Map u)) = refl
    same (Some (shape.Model u)) = refl
    same _ = refl

    by : (s : Option Shape) → judged_by types.table (list tt (bare_items cs)) t ≡ s → kind_by s (list tt (bare_items bs)) ≡ Some k → kind_by (judged_by types.table (list tt (bare_items cs)) t) (list tt (bare_items cs)) ≡ Some k
    by s e g = ap (λ o. kind_by o (list tt (bare_items cs))) e ∙ same s ∙ g

  pub record-kind : (t : ℕ) (k : Kind) (ms ns : Fields) → IfModelKind k (λ m. KeepsLetters types sound m ms ns) → (typing_of types.table).kind_of t (dict tt ms) ≡ Some k → (typing_of types.table).kind_of t (dict tt ns) ≡ Some k
  record-kind t (kind.Model m) ms ns keeps h = ap (λ s. kind_by s (dict tt ns)) (record-judged types sound ms ns t (shape.Model m) (model-shape _ ms m h) keeps)
  record-kind t (kind.Map u) ms ns keeps h = ap (λ s. kind_by s (dict tt ns)) (record-judged types sound ms ns t (shape.Map u) (map-shape _ ms u h) tt)
  record-kind t (kind.Array u) ms ns keeps h = absurd (no-array _ ms u h)

  -- an item changed

  item-changed : (u i : ℕ) (bs : Branches Label) (p : Labelled) (f : Labelled → Labelled) → slice_get (items_in bs) i ≡ Some p → AreLabelledBy (typing_of types.table) u bs → Lab u (f p)
      → AreLabelledBy (typing_of types.table) u (item_changed i f bs)
  item-changed u i no_branches p f h labelled new = tt
  item-changed u zero (branch x bs) p f h labelled new =
      let same : p ≡ x = cc in let P : Labelled → Type 0 = λ y. Lab u (f y) in (subst P same new, labelled.1)
  item-changed u (suc i) (branch x bs) p f h labelled new = (labelled.0, item-changed u i bs p f h labelled.1 new)

  pub item-part : (u i : ℕ) (bs : Branches Label) (p : Labelled) → slice_get (items_in bs) i ≡ Some p → AreLabelledBy (typing_of types.table) u bs → Lab u p
  item-part u i no_branches p h labelled = absurd (cc)
  item-part u zero (branch x bs) p h labelled = let same : x ≡ p = cc in subst (Lab u) same labelled.0
  item-part u (suc i) (branch x bs) p h labelled = item-part u i bs p h labelled.1

  array-changed : (k : Kind) (i : ℕ) (bs : Branches Label) (p : Labelled) (f : Labelled → Labelled) → slice_get (items_in bs) i ≡ Some p
      → IfArray k (λ u. AreLabelledBy (typing_of types.table) u bs) → Lab (type_under types.table k []) (f p) → IfArray k (λ u. AreLabelledBy (typing_of types.table) u (item_changed i f bs))
  array-changed (kind.Array u) i bs p f h labelled new = item-changed u.0 i bs p f h labelled new
  array-changed (kind.Model m) i bs p f h labelled new = labelled
  array-changed (kind.Map u) i bs p f h labelled new = labelled

  pub array-part : (k : Kind) (i : ℕ) (bs : Branches Label) (p : Labelled) → slice_get (items_in bs) i ≡ Some p
      → IfArray k (λ u. AreLabelledBy (typing_of types.table) u bs) → Lab (type_under types.table k []) p
  array-part (kind.Array u) i bs p h labelled = item-part u.0 i bs p h labelled
  array-part (kind.Model m) i bs p h labelled = absurd labelled
  array-part (kind.Map u) i bs p h labelled = absurd labelled

  -- an entry changed

  entry-changed : (k : Kind) (i : ℕ) (key : List ℕ) (es : Entries Label) (p : Labelled) (f : Labelled → Labelled) → slice_get (entries_in es) i ≡ Some (key, p)
      → HoldLabelledBy (typing_of types.table) k es → Lab (type_under types.table k key) (f p) → HoldLabelledBy (typing_of types.table) k (entry_changed i f es)
  entry-changed k i key no_entries p f h labelled new = tt
  entry-changed k zero key (entry j x es) p f h labelled new =
      let pair : ◌≡◌ {A = Entry} (key, p) (j, x) = cc in
      let P : Entry → Type 0 = λ e. Lab (type_under types.table k e.0) (f e.1) in (subst P pair new, labelled.1)
  entry-changed k (suc i) key (entry j x es) p f h labelled new = (labelled.0, entry-changed k i key es p f h labelled.1 new)

  pub entry-part : (k : Kind) (i : ℕ) (key : List ℕ) (es : Entries Label) (p : Labelled) → slice_get (entries_in es) i ≡ Some (key, p)
      → HoldLabelledBy (typing_of types.table) k es → Lab (type_under types.table k key) p
  entry-part k i key no_entries p h labelled = absurd (cc)
  entry-part k zero key (entry j x es) p h labelled =
      let pair : ◌≡◌ {A = Entry} (j, x) (key, p) = cc in
      let P : Entry → Type 0 = λ e. Lab (type_under types.table k e.0) e.1 in subst P pair labelled.0
  entry-part k (suc i) key (entry j x es) p h labelled = entry-part k i key es p h labelled.1

  pub if-record : (k : Kind) (es fs : Entries Label) → (HoldLabelledBy (typing_of types.table) k es → HoldLabelledBy (typing_of types.table) k fs)
      → IfRecord k (HoldLabelledBy (typing_of types.table) k es) → IfRecord k (HoldLabelledBy (typing_of types.table) k fs)
  if-record (kind.Array u) es fs more labelled = labelled
  if-record (kind.Model m) es fs more labelled = more labelled
  if-record (kind.Map u) es fs more labelled = more labelled

  pub of-record : (k : Kind) (es : Entries Label) → IfRecord k (HoldLabelledBy (typing_of types.table) k es) → HoldLabelledBy (typing_of types.table) k es
  of-record (kind.Array u) es labelled = absurd labelled
  of-record (kind.Model m) es labelled = labelled
  of-record (kind.Map u) es labelled = labelled

  -- the literals of a model stay, where that of the entry does
  letters-changed : (i : ℕ) (key : List ℕ) (es : Entries Label) (p : Labelled) (f : Labelled → Labelled) → slice_get (entries_in es) i ≡ Some (key, p)
      → (m : ModelNo) (name : List ℕ) (q : Property) (l : Snap) (w : Value) → property_at name (properties_of types.table m.0) ≡ Some q → shape_by types.table q.of.0 ≡ Some (shape.Literal l)
      → is_same w (view l) ≡ true → KeepsLetter types.table (type_under types.table (kind.Model m) key) (bare p) (bare (f p))
      → value_at name (bare_fields es) ≡ Some w → value_at name (bare_fields (entry_changed i f es)) ≡ Some w
  letters-changed i key no_entries p f h m name q l w there letter same keeps held = held
  letters-changed zero key (entry j x es) p f h m name q l w there letter same keeps held = by (bytes_eq name j) refl held where
    pair : ◌≡◌ {A = Entry} (key, p) (j, x)
    pair = cc

    by : (b : Bool) → bytes_eq name j ≡ b → (if b then Some (bare x) else value_at name (bare_fields es)) ≡ Some w
        → (if bytes_eq name j then Some (bare (f x)) else value_at name (bare_fields es)) ≡ Some w
    by false e g = ap (λ c. if c then Some (bare (f x)) else value_at name (bare_fields es)) e ∙ g
    by true e g =
        let is : bare x ≡ w = cc in
        let key_is : name ≡ j = (bytes_eq-Decides name j).0 e in
        let P : Entry → Type 0 = λ n. KeepsLetter types.table (type_under types.table (kind.Model m) n.0) (bare n.1) (bare (f n.1)) in
        let kept : KeepsLetter types.table (type_under types.table (kind.Model m) j) (bare x) (bare (f x)) = subst P pair keeps in
        let of : type_under types.table (kind.Model m) j ≡ q.of.0 = ap (type_under types.table (kind.Model m)) (sym key_is) ∙ ap (type_or_none types.table) there in
        let new : bare (f x) ≡ bare x = kept l (ap (shape_by types.table) of ∙ letter) (ap (λ v. is_same v (view l)) is ∙ same) in
        ap (λ c. if c then Some (bare (f x)) else value_at name (bare_fields es)) e ∙ ap Some (new ∙ is)
  letters-changed (suc i) key (entry j x es) p f h m name q l w there letter same keeps held =
      by (bytes_eq name j) held (λ g. letters-changed i key es p f h m name q l w there letter same keeps g) where
        by : (b : Bool) → (if b then Some (bare x) else value_at name (bare_fields es)) ≡ Some w
            → (value_at name (bare_fields es) ≡ Some w → value_at name (bare_fields (entry_changed i f es)) ≡ Some w)
            → (if b then Some (bare x) else value_at name (bare_fields (entry_changed i f es))) ≡ Some w
        by true g later = g
        by false g later = later g

  kind-letters : (k : Kind) (i : ℕ) (key : List ℕ) (es : Entries Label) (p : Labelled) (f : Labelled → Labelled) → slice_get (entries_in es) i ≡ Some (key, p)
      → KeepsLetter types.table (type_under types.table k key) (bare p) (bare (f p)) → IfModelKind k (λ m. KeepsLetters types sound m (bare_fields es) (bare_fields (entry_changed i f es)))
  kind-letters (kind.Model m) i key es p f h keeps = λ name q l w there letter same held. letters-changed i key es p f h m name q l w there letter same keeps held
  kind-letters (kind.Map u) i key es p f h keeps = tt
  kind-letters (kind.Array u) i key es p f h keeps = tt

  -- the type of a part
  pub turn-type : (t : ℕ) (turn : Turn) (way : List Turn) (x p : Labelled) → part_at_turn turn x ≡ Some p
      → type_at (typing_of types.table) t (turn ∷ way) x ≡ type_at (typing_of types.table) (part_type (typing_of types.table) x (key_of turn)) way p
  turn-type t turn way x p h =
      ap (λ o. unwrap_or (option_map (λ part. type_at (typing_of types.table) (part_type (typing_of types.table) x (key_of turn)) way part) o) t) h

  pub entry-turn : (i : ℕ) (key : List ℕ) (l : Label) (es : Entries Label) (p : Labelled) → slice_get (entries_in es) i ≡ Some (key, p) → part_at_turn (to_entry i key) (keyed l es) ≡ Some p
  entry-turn i key l es p h = ap (option_map (λ (e : Entry). e.1)) h

  pub typed-part : (t : ℕ) (way : List Turn) (x part : Labelled) → Stands way x part → Lab t x → Lab (type_at (typing_of types.table) t way x) part
  typed-part t [] x part h labelled = subst (Lab t) h labelled
  typed-part t (to_item i ∷ way) (many l bs) part (p, found, stands) labelled =
      let P : ℕ → Type 0 = λ u. Lab u part in
      subst P (sym (turn-type t (to_item i) way (many l bs) p found))
      (typed-part (type_under types.table l.kind []) way p part stands (array-part l.kind i bs p found labelled.1))
  typed-part t (to_entry i key ∷ way) (keyed l es) part (p, found, stands) labelled =
      let P : ℕ → Type 0 = λ u. Lab u part in
      subst P (sym (turn-type t (to_entry i key) way (keyed l es) p (entry-turn i key l es p found)))
      (typed-part (type_under types.table l.kind key) way p part stands (entry-part l.kind i key es p found (of-record l.kind es labelled.1)))
  typed-part t (to_item i ∷ way) (leaf v) part h labelled = absurd h
  typed-part t (to_item i ∷ way) (keyed l es) part h labelled = absurd h
  typed-part t (to_entry i key ∷ way) (leaf v) part h labelled = absurd h
  typed-part t (to_entry i key ∷ way) (many l bs) part h labelled = absurd h

  -- with another part, where a literal stays
  letter-with : (u : ℕ) (way : List Turn) (x part y : Labelled) → Stands way x part → KeepsLetter types.table (type_at (typing_of types.table) u way x) (bare part) (bare y)
      → KeepsLetter types.table u (bare x) (bare (with_part way y x))
  letter-with u [] x part y h keeps = λ l letter same. keeps l letter (ap (λ v. is_same v (view l)) (sym (ap bare h)) ∙ same) ∙ sym (ap bare h)
  letter-with u (to_item i ∷ way) (many l bs) part y h keeps = λ s letter same. absurd (cc)
  letter-with u (to_entry i key ∷ way) (keyed l es) part y h keeps = λ s letter same. absurd (cc)
  letter-with u (to_item i ∷ way) (leaf v) part y h keeps = absurd h
  letter-with u (to_item i ∷ way) (keyed l es) part y h keeps = absurd h
  letter-with u (to_entry i key ∷ way) (leaf v) part y h keeps = absurd h
  letter-with u (to_entry i key ∷ way) (many l bs) part y h keeps = absurd h

  pub typed-with : (t : ℕ) (way : List Turn) (x part y : Labelled) → Stands way x part → Lab t x → Lab (type_at (typing_of types.table) t way x) y
      → KeepsLetter types.table (type_at (typing_of types.table) t way x) (bare part) (bare y) → Lab t (with_part way y x)
  typed-with t [] x part y h labelled new keeps = new
  typed-with t (to_item i ∷ way) (many l bs) part y (p, found, stands) labelled new keeps =
      let u : ℕ = type_under types.table l.kind [] in
      let is : type_at (typing_of types.table) t (to_item i ∷ way) (many l bs) ≡ type_at (typing_of types.table) u way p = turn-type t (to_item i) way (many l bs) p found in
      let P : ℕ → Type 0 = λ v. Lab v y in
      let K : ℕ → Type 0 = λ v. KeepsLetter types.table v (bare part) (bare y) in
      let inner : Lab u (with_part way y p) = typed-with u way p part y stands (array-part l.kind i bs p found labelled.1) (subst P is new) (subst K is keeps) in
      (list-kind t l.kind bs (item_changed i (with_part way y) bs) labelled.0, array-changed l.kind i bs p (with_part way y) found labelled.1 inner)
  typed-with t (to_entry i key ∷ way) (keyed l es) part y (p, found, stands) labelled new keeps =
      let u : ℕ = type_under types.table l.kind key in
      let is : type_at (typing_of types.table) t (to_entry i key ∷ way) (keyed l es) ≡ type_at (typing_of types.table) u way p =
      turn-type t (to_entry i key) way (keyed l es) p (entry-turn i key l es p found) in
      let P : ℕ → Type 0 = λ v. Lab v y in
      let K : ℕ → Type 0 = λ v. KeepsLetter types.table v (bare part) (bare y) in
      let inner : Lab u (with_part way y p) =
      typed-with u way p part y stands (entry-part l.kind i key es p found (of-record l.kind es labelled.1)) (subst P is new) (subst K is keeps) in
      let letter : KeepsLetter types.table u (bare p) (bare (with_part way y p)) = letter-with u way p part y stands (subst K is keeps) in (
        record-kind t l.kind (bare_fields es) (bare_fields (entry_changed i (with_part way y) es)) (kind-letters l.kind i key es p (with_part way y) found letter) labelled.0,
        if-record l.kind es (entry_changed i (with_part way y) es) (λ g. entry-changed l.kind i key es p (with_part way y) found g inner) labelled.1,
      )
  typed-with t (to_item i ∷ way) (leaf v) part y h labelled new keeps = absurd h
  typed-with t (to_item i ∷ way) (keyed l es) part y h labelled new keeps = absurd h
  typed-with t (to_entry i key ∷ way) (leaf v) part y h labelled new keeps = absurd h
  typed-with t (to_entry i key ∷ way) (many l bs) part y h labelled new keeps = absurd h

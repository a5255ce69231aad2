-- A tree is as types say after settling.
use Rattle.std.proofs.Common.{◌≡◌, ℕ, List, [], ◌∷◌, ◌++◌, Bool, true, false, Option, Some, None, if◌then◌else◌, refl, sym, ap, subst, ◌∙◌}
use Rattle.std.specs.Str.{bytes_eq}
use Rattle.std.proofs.lemmas.Slice.Eq.{bytes_eq-Decides}
use Rattle.snap_core.specs.Value.{Value, null, value_at, IsPlain}
use Rattle.snap_core.specs.View.{view}
use Rattle.snap_core.specs.declared.number.ModelNo.{ModelNo}
use Rattle.snap_core.specs.declared.snap.Snap.{Snap}
use Rattle.type_table.specs.declared.shape.Property.{Property}
use Rattle.type_table.specs.declared.shape.Shape.{Shape}
use Rattle.type_table.specs.declared.shape.Shape.TheVariants as shape
use Rattle.type_table.specs.Identifiers.{is_safe}
use Rattle.type_table.specs.Names.{named_by, shape_by}
use Rattle.type_table.specs.Table.{Table, Catalog, shape_at, properties_of}
use Rattle.type_table.specs.Targets.{target_of}
use Rattle.type_table.specs.Unions.{is_same, property_at}
use Rattle.type_core.specs.Sound.{IsSound}
use Rattle.type_core.proofs.Chains.{named_by-at}
use Rattle.edit_core.specs.declared.kind.Kind.{Kind}
use Rattle.edit_core.specs.declared.kind.Kind.TheVariants as kind
use Rattle.edit_core.specs.Labelled.{Label, Labelled, Entry, Branches, Entries, leaf, many, keyed, no_branches, branch, no_entries, entry, branches, entries, bare, bare_fields}
use Rattle.edit_core.specs.Labelling.{IfArray, IsLabelledBy, AreLabelledBy, HoldLabelledBy}
use Rattle.edit_core.specs.Logged.{LoggedEdit}
use Rattle.edit_core.specs.Numbers.{AreNumbered}
use Rattle.reconcile_core.specs.RealTypes.{kind_by, type_or_none}
use Rattle.tree_core.specs.Recorded.{IsTreeOf, after_settling}
use Rattle.tree_core.specs.Settling.{Settling, safe_target, leads_nowhere, is_loose, item_type, settling_edits, settling_in}
use Rattle.tree_core.specs.State.{State, recorded}
use Rattle.tree_core.specs.TypesTyping.{typing_of, type_under, root_type}
use Rattle.tree_reading.specs.Settled.{SettlingLeads, left_of, settled_value, settled_items, settled_entries}
use Rattle.tree_reading.proofs.SettlingLaws.{settling-leads}
use Rattle.tree_laws.proofs.Judged.{KeepsLetters}
use Rattle.tree_laws.proofs.Loose.{settled-tree}
use Rattle.tree_laws.proofs.Typed.{IfModelKind, list-kind, record-kind, if-record}

pub null-kind : (s : Option Shape) → kind_by s null ≡ None
null-kind (Some (shape.Model m)) = refl
null-kind (Some (shape.Map u)) = refl
null-kind (Some (shape.Array u)) = refl
null-kind _ = refl

no-target : (b : Bool) (o : Option ModelNo) → b ≡ false → (if b then o else None) ≡ None
no-target true o h = absurd (cc)
no-target false o h = refl

nowhere : (s : Settling) (o : Option ModelNo) (v : Value) → o ≡ None → leads_nowhere s.keys o v ≡ false
nowhere s None v e = refl
nowhere s (Some m) v e = absurd (cc)

module _ (types : Catalog) (sound : IsSound types) (s : Settling) (of : s.table ≡ types.table) where
  abbrev Lab : ℕ → Labelled → Type 0
  Lab t x = IsLabelledBy (typing_of types.table) t x

  -- a literal is no safe reference
  letter-unsafe : (t : ℕ) (l : Snap) → shape_by types.table t ≡ Some (shape.Literal l) → is_safe (shape_at types.table t) ≡ false
  letter-unsafe t l h = by (shape_at types.table t) refl where
    by : (o : Option Shape) → shape_at types.table t ≡ o → is_safe o ≡ false
    by (Some (shape.Safe u)) e =
        let on : named_by types.table t ≡ t = named_by-at types.table sound.loopless t (shape.Safe u) e in
        let no : ◌≡◌ {A = Option Shape} (Some (shape.Safe u)) (Some (shape.Literal l)) = sym e ∙ ap (shape_at types.table) (sym on) ∙ h in
        absurd (cc)
    by _ e = refl

  letter-tied : (t : ℕ) (l : Snap) (x : Labelled) → shape_by types.table t ≡ Some (shape.Literal l) → is_loose s t x ≡ false
  letter-tied t l x h =
      let P : Table → Type 0 = λ table. safe_target table t ≡ None in
      nowhere s (safe_target s.table t) (bare x) (subst P (sym of) (no-target (is_safe (shape_at types.table t)) (target_of types.table (shape_at types.table t)) (letter-unsafe t l h)))

  -- a literal's value is settled already
  letter-value : (x : Labelled) (w l : Value) → bare x ≡ w → is_same w l ≡ true → bare (settled_value s x) ≡ w
  letter-value (leaf v) w l e h = e
  letter-value (many k bs) w l e h = let P : Value → Type 0 = λ v. is_same v l ≡ true in let no = subst P (sym e) h in absurd (cc)
  letter-value (keyed k es) w l e h = let P : Value → Type 0 = λ v. is_same v l ≡ true in let no = subst P (sym e) h in absurd (cc)

  module _ (m : ModelNo) (name : List ℕ) (p : Property) (l : Snap) (w : Value)
      (there : property_at name (properties_of types.table m.0) ≡ Some p) (letter : shape_by types.table p.of.0 ≡ Some (shape.Literal l)) (same : is_same w (view l) ≡ true) where
    letters-entry : (b c : Bool) (k : List ℕ) (x : Labelled) (kept : List Entry) (es : Entries Label) → bytes_eq name k ≡ b → is_loose s (type_under s.table (kind.Model m) k) x ≡ c
        → (value_at name (bare_fields es) ≡ Some w → value_at name (bare_fields (entries kept)) ≡ Some w)
        → (if b then Some (bare x) else value_at name (bare_fields es)) ≡ Some w
        → value_at name (bare_fields (entries (if c then (k, leaf null) ∷ kept else (k, settled_value s x) ∷ kept))) ≡ Some w
    letters-entry true true k x kept es e loose rest held =
        let is : name ≡ k = (bytes_eq-Decides name k).0 e in
        let type : type_under types.table (kind.Model m) k ≡ p.of.0 = ap (type_under types.table (kind.Model m)) (sym is) ∙ ap (type_or_none types.table) there in
        let P : Table → Type 0 = λ table. is_loose s (type_under table (kind.Model m) k) x ≡ false in
        let tied = subst P (sym of) (letter-tied (type_under types.table (kind.Model m) k) l x (ap (shape_by types.table) type ∙ letter)) in
        absurd (cc)
    letters-entry true false k x kept es e tied rest held =
        let is : bare x ≡ w = cc in
        ap (λ b. if b then Some (bare (settled_value s x)) else value_at name (bare_fields (entries kept))) e ∙ ap Some (letter-value x w (view l) is same)
    letters-entry false true k x kept es e loose rest held = ap (λ b. if b then Some null else value_at name (bare_fields (entries kept))) e ∙ rest held
    letters-entry false false k x kept es e tied rest held = ap (λ b. if b then Some (bare (settled_value s x)) else value_at name (bare_fields (entries kept))) e ∙ rest held

    letters-kept : (es : Entries Label) → value_at name (bare_fields es) ≡ Some w → value_at name (bare_fields (entries (settled_entries s (kind.Model m) es))) ≡ Some w
    letters-kept no_entries held = held
    letters-kept (entry k x es) held =
        letters-entry (bytes_eq name k) (is_loose s (type_under s.table (kind.Model m) k) x) k x (settled_entries s (kind.Model m) es) es refl refl (letters-kept es) held

  pub kind-letters : (k : Kind) (es : Entries Label) → IfModelKind k (λ m. KeepsLetters types sound m (bare_fields es) (bare_fields (entries (settled_entries s k es))))
  kind-letters (kind.Model m) es = λ name p l w there letter same held. letters-kept m name p l w there letter same es held
  kind-letters (kind.Map u) es = tt
  kind-letters (kind.Array u) es = tt

  array-typed : (k : Kind) (bs : Branches Label)
      → ((u : ℕ) → AreLabelledBy (typing_of types.table) u bs → AreLabelledBy (typing_of types.table) u (branches (settled_items s u bs)))
      → IfArray k (λ u. AreLabelledBy (typing_of types.table) u bs) → IfArray k (λ u. AreLabelledBy (typing_of types.table) u (branches (settled_items s (item_type k) bs)))
  array-typed (kind.Array u) bs inner labelled = inner u.0 labelled
  array-typed (kind.Model m) bs inner labelled = labelled
  array-typed (kind.Map u) bs inner labelled = labelled

  item-typed : (b : Bool) (u : ℕ) (y : Labelled) (kept : List Labelled) → Lab u y → AreLabelledBy (typing_of types.table) u (branches kept)
      → AreLabelledBy (typing_of types.table) u (branches (if b then kept else y ∷ kept))
  item-typed true u y kept one rest = rest
  item-typed false u y kept one rest = (one, rest)

  left-typed : (k : Kind) (key : List ℕ) (kept : List Entry) → HoldLabelledBy (typing_of types.table) k (entries kept) → HoldLabelledBy (typing_of types.table) k (entries (left_of k key ++ kept))
  left-typed (kind.Map u) key kept rest = rest
  left-typed (kind.Model m) key kept rest = (null-kind _, rest)
  left-typed (kind.Array u) key kept rest = (null-kind _, rest)

  entry-typed : (b : Bool) (k : Kind) (key : List ℕ) (y : Labelled) (kept : List Entry) → Lab (type_under types.table k key) y → HoldLabelledBy (typing_of types.table) k (entries kept)
      → HoldLabelledBy (typing_of types.table) k (entries (if b then left_of k key ++ kept else (key, y) ∷ kept))
  entry-typed true k key y kept one rest = left-typed k key kept rest
  entry-typed false k key y kept one rest = (one, rest)

  mutual
    pub settled-typed : (t : ℕ) (x : Labelled) → Lab t x → Lab t (settled_value s x)
    settled-typed t (leaf v) labelled = labelled
    settled-typed t (many l bs) labelled = (list-kind types sound t l.kind bs _ labelled.0, array-typed l.kind bs (λ u h. items-typed u bs h) labelled.1)
    settled-typed t (keyed l es) labelled =
        (record-kind types sound t l.kind (bare_fields es) _ (kind-letters l.kind es) labelled.0, if-record types sound l.kind es _ (λ h. entries-typed l.kind es h) labelled.1)

    items-typed : (u : ℕ) (bs : Branches Label) → AreLabelledBy (typing_of types.table) u bs → AreLabelledBy (typing_of types.table) u (branches (settled_items s u bs))
    items-typed u no_branches labelled = tt
    items-typed u (branch x bs) labelled = item-typed (is_loose s u x) u (settled_value s x) (settled_items s u bs) (settled-typed u x labelled.0) (items-typed u bs labelled.1)

    entries-typed : (k : Kind) (es : Entries Label) → HoldLabelledBy (typing_of types.table) k es → HoldLabelledBy (typing_of types.table) k (entries (settled_entries s k es))
    entries-typed k no_entries labelled = tt
    entries-typed k (entry key x es) labelled =
        entry-typed (is_loose s (type_under s.table k key) x) k key (settled_value s x) (settled_entries s k es)
        (settled-typed (type_under types.table k key) x labelled.0) (entries-typed k es labelled.1)

recorded-next : (x : Labelled) (es : List LoggedEdit) (s : State) → (recorded x es s.next s).next ≡ s.next
recorded-next x [] s = refl
recorded-next x (e ∷ es) s = refl

pub settling-typed : (types : Catalog) → IsSound types → (s : State) → IsTreeOf types s → IsTreeOf types (after_settling types s)
settling-typed types sound s tree =
    let by : Settling = settling_in types s.tree in
    let law : SettlingLeads by s.tree = settling-leads by s.tree in
    let is : (after_settling types s).tree ≡ settled_value by s.tree = settled-tree types s in
    let next : (after_settling types s).next ≡ s.next = recorded-next _ (settling_edits by s.tree) s in
    let Follows : Labelled → Type 0 = λ x. IsLabelledBy (typing_of types.table) (root_type types) x in
    let Numbered : Labelled → Type 0 = λ x. AreNumbered s.next x in
    let Below : ℕ → Type 0 = λ n. AreNumbered n (after_settling types s).tree in
    record {
      labelled = subst Follows (sym is) (settled-typed types sound by refl (root_type types) s.tree tree.labelled);
      numbered = subst Below (sym next) (subst Numbered (sym is) (law.numbered s.next tree.numbered));
    }

pub settling-plain : (types : Catalog) (s : State) → IsPlain (bare s.tree) → IsPlain (bare (after_settling types s).tree)
settling-plain types s plain =
    let by : Settling = settling_in types s.tree in
    let law : SettlingLeads by s.tree = settling-leads by s.tree in
    let P : Labelled → Type 0 = λ x. IsPlain (bare x) in
    subst P (sym (settled-tree types s)) (law.plain plain)

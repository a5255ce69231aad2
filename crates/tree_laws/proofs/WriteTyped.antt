-- Labels follow types after a write.
use Rattle.std.proofs.Common.{◌≡◌, ℕ, ◌<◌, ◌≤◌, ⊎_elim, arith, zero, suc, List, [], ◌∷◌, ◌++◌, length, take, drop, Bool, true, false, Option, Some, None, Ok, IfOk, refl, not, sym, ap, subst, ◌∙◌, if◌then◌else◌}
use Rattle.std.specs.Prelude.{nat_le, slice_get, unwrap_or}
use Rattle.snap_core.specs.Value.{Value, IsPlain, dict}
use Rattle.snap_core.specs.declared.number.ModelNo.{ModelNo}
use Rattle.snap_core.specs.Value.{Fields}
use Rattle.type_table.specs.declared.shape.ModelType.{ModelType}
use Rattle.type_table.specs.declared.shape.Shape.TheVariants as shape
use Rattle.type_table.specs.Table.{shape_at}
use Rattle.type_core.proofs.Chains.{shape_for-is}
use Rattle.type_core.proofs.Laws.{judged_within-judges}
use Rattle.type_core.proofs.Sound.{shape_at-own, IsShapeOf-at}
use Rattle.std.specs.Option.{option_map}
use Rattle.std.proofs.lemmas.Option.{slice_get_cases}
use Rattle.pointer_core.specs.declared.refusal.Rule.TheVariants.{Fixed}
use Rattle.type_table.specs.Table.{Catalog}
use Rattle.type_core.specs.Making.{making, made_by, maker_of, entry_making}
use Rattle.type_core.specs.Sound.{IsSound}
use Rattle.type_core.proofs.Again.{limited-Ok}
use Rattle.edit_core.specs.declared.kind.Kind.{Kind}
use Rattle.edit_core.specs.declared.kind.Kind.TheVariants as kind
use Rattle.edit_core.specs.Edit.{to_item, to_entry, add, remove as remove_part}
use Rattle.edit_core.specs.Labelled.{Label, Labelled, Entry as Part, Branches, Entries, leaf, many, keyed, no_branches, branch, no_entries, entry, branches, entries, items_in, entries_in, bare, bare_fields}
use Rattle.edit_core.specs.Labelling.{IfArray, IsSuited, IsLabelledBy, AreLabelledBy, HoldLabelledBy}
use Rattle.edit_core.specs.Logged.{after_logged}
use Rattle.edit_core.specs.Matching.{by_first, same_item}
use Rattle.edit_core.specs.Reconciling.{reconciled, written_as}
use Rattle.edit_core.specs.Template.{Template, template, numbered, entry_at}
use Rattle.edit_core.specs.Typing.{seen}
use Rattle.edit_core.proofs.Bare.{bare-numbered, bare-template}
use Rattle.edit_core.proofs.Labelling.{labelled-again, labelled-anew}
use Rattle.reconcile_core.specs.RealTypes.{kind_by}
use Rattle.reconcile_core.proofs.Suiting.{suits}
use Rattle.type_core.specs.Judging.{judged_by}
use Rattle.type_table.specs.Table.{Table}
use Rattle.tree_core.specs.declared.place.Place.{Place}
use Rattle.tree_core.specs.declared.place.Place.TheVariants as place
use Rattle.tree_core.specs.Changed.{Changed, placed, as_changed, value_set, one_item_set}
use Rattle.tree_core.specs.Nodes.{place_in, type_at}
use Rattle.tree_core.specs.Outcome.{◌>>=◌, or_refuse, seen_from}
use Rattle.tree_core.specs.TypesTyping.{typing_of, type_under, model_type}
use Rattle.tree_core.specs.Write.{Write, set, insert, remove}
use Rattle.tree_core.specs.Writing.{Writing, typing_in, setting, entry_type, entry_path, item_type, item_making, other_identifier, node_making, own_type, entry_set, key_set, is_renaming, property_set, property_in, property_written, key_put, key_written, item_written, whole_set, whole_made, whole_written, node_written, model_kind, map_kind, array_kind}
use Rattle.tree_core.proofs.Keys.{held}
use Rattle.tree_core.proofs.WriteKeeping.{bound, if-provided, there}
use Rattle.tree_laws.proofs.Inside.{if-unfixed}
use Rattle.tree_laws.proofs.Judged.{fits-keep}
use Rattle.tree_laws.proofs.RootStays.{Of, model-of, model-fits, maker-again, model-at}
use Rattle.tree_laws.proofs.Typed.{KeepsLetter, IfModelKind, made-letter, list-kind, record-kind, of-record, if-record, array-part, entry-part, turn-type, entry-turn, typed-with, model-shape}
use Rattle.tree_laws.proofs.WriteGoing.{seen-Ok, entry-making}

pub suited : (table : Table) → IsSuited (typing_of table)
suited table t v k h = suits (judged_by table v t) v k h

-- parts of lists of parts

module _ (types : Catalog) where
  abbrev Lab : ℕ → Labelled → Type 0
  Lab t x = IsLabelledBy (typing_of types.table) t x

  abbrev All : ℕ → List Labelled → Type 0
  All u xs = AreLabelledBy (typing_of types.table) u (branches xs)

  abbrev Each : Kind → List Part → Type 0
  Each k es = HoldLabelledBy (typing_of types.table) k (entries es)

  all-in : (u : ℕ) (bs : Branches Label) → AreLabelledBy (typing_of types.table) u bs → All u (items_in bs)
  all-in u no_branches h = tt
  all-in u (branch x bs) h = (h.0, all-in u bs h.1)

  all-take : (u n : ℕ) (xs : List Labelled) → All u xs → All u (take n xs)
  all-take u zero xs h = tt
  all-take u (suc n) [] h = tt
  all-take u (suc n) (x ∷ xs) h = (h.0, all-take u n xs h.1)

  all-drop : (u n : ℕ) (xs : List Labelled) → All u xs → All u (drop n xs)
  all-drop u zero xs h = h
  all-drop u (suc n) [] h = tt
  all-drop u (suc n) (x ∷ xs) h = all-drop u n xs h.1

  all-joined : (u : ℕ) (xs ys : List Labelled) → All u xs → All u ys → All u (xs ++ ys)
  all-joined u [] ys h g = g
  all-joined u (x ∷ xs) ys h g = (h.0, all-joined u xs ys h.1 g)

  each-in : (k : Kind) (es : Entries Label) → HoldLabelledBy (typing_of types.table) k es → Each k (entries_in es)
  each-in k no_entries h = tt
  each-in k (entry j x es) h = (h.0, each-in k es h.1)

  each-take : (k : Kind) (n : ℕ) (es : List Part) → Each k es → Each k (take n es)
  each-take k zero es h = tt
  each-take k (suc n) [] h = tt
  each-take k (suc n) (e ∷ es) h = (h.0, each-take k n es h.1)

  each-drop : (k : Kind) (n : ℕ) (es : List Part) → Each k es → Each k (drop n es)
  each-drop k zero es h = h
  each-drop k (suc n) [] h = tt
  each-drop k (suc n) (e ∷ es) h = each-drop k n es h.1

  each-joined : (k : Kind) (es fs : List Part) → Each k es → Each k fs → Each k (es ++ fs)
  each-joined k [] fs h g = g
  each-joined k (e ∷ es) fs h g = (h.0, each-joined k es fs h.1 g)

-- Each write of a node.

-- a map is no model
map-only : (k : Kind) → map_kind k ≡ true → (P : ModelNo → Type 0) → IfModelKind k P
map-only (kind.Map u) h P = tt
map-only (kind.Model m) h P = absurd (cc)
map-only (kind.Array u) h P = tt

-- the own type of a model that judges a value
module _ (types : Catalog) (sound : IsSound types) where
  known-model : (m : ModelNo) (t : ℕ) (v : Value) → judged_by types.table v t ≡ Some (shape.Model m) → m.0 < length types.table.models
  known-model m t v h =
      let at = judged_within-judges types.table v (length types.table.shapes) t (shape.Model m) h in
      (IsShapeOf-at types sound at.0 (shape.Model m) (shape_for-is types.table v at.0 (shape.Model m) at.1)).model

  pub own-shape : (m : ModelNo) (t : ℕ) (v : Value) → judged_by types.table v t ≡ Some (shape.Model m) → shape_at types.table (model_type types m) ≡ Some (shape.Model m)
  own-shape m t v h = ⊎_elim (λ f. there f.0 f.2) (λ f. absurd (gone f.0 (known-model m t v h))) (slice_get_cases types.table.models m.0).1 where
    there : (model : ModelType) → slice_get types.table.models m.0 ≡ Some model → shape_at types.table (model_type types m) ≡ Some (shape.Model m)
    there model e = ap (λ o. shape_at types.table (unwrap_or (option_map (λ (n : ModelType). n.own.0) o) 0)) e ∙ shape_at-own types m.0 model sound e

    gone : length types.table.models ≤ m.0 → m.0 < length types.table.models → ⊥
    gone a b = omega arith

  -- a node at its model's own type is one at another type that makes the model of its value
  own-to : (own t : ℕ) (y : Labelled) (ns : Fields) (k : Kind) → bare y ≡ dict tt ns → (typing_of types.table).kind_of own (dict tt ns) ≡ Some k → (typing_of types.table).kind_of t (dict tt ns) ≡ Some k
      → Lab types own y → Lab types t y
  own-to own t (leaf v) ns k is e f labelled =
      let P : Value → Type 0 = λ u. (typing_of types.table).kind_of own u ≡ None in
      let none : (typing_of types.table).kind_of own (dict tt ns) ≡ None = subst P is labelled in
      absurd (no none e) where
        no : (typing_of types.table).kind_of own (dict tt ns) ≡ None → (typing_of types.table).kind_of own (dict tt ns) ≡ Some k → ⊥
        no a b = cc
  own-to own t (many l bs) ns k is e f labelled = absurd (cc)
  own-to own t (keyed l fs) ns k is e f labelled =
      let same : dict tt ns ≡ dict tt (bare_fields fs) = sym is in
      let P : Value → Type 0 = λ v. (typing_of types.table).kind_of own v ≡ Some k in
      let Q : Value → Type 0 = λ v. (typing_of types.table).kind_of t v ≡ Some k in
      (subst Q same f ∙ one (sym (subst P same e) ∙ labelled.0), labelled.1) where
        one : ◌≡◌ {A = Option Kind} (Some k) (Some l.kind) → ◌≡◌ {A = Option Kind} (Some k) (Some l.kind)
        one h = h

module _ (w : Writing) (sound : IsSound w.types) where
  abbrev Typed : ℕ → Changed → Type 0
  Typed t c = IsLabelledBy (typing_of w.types.table) t c.value

  abbrev Made : ℕ → Value → Type 0
  Made t v = maker_of w.types.table w.types.defaults v t ≡ Ok v

  pub made-again : (t : ℕ) (v made : Value) → making w.types t (Some v) ≡ Ok made → Made t made
  made-again t v made h = maker-again w.types sound t v made (limited-Ok (made_by w.types.table w.types.defaults t (Some v)) made h).0

  bare-new : (next : ℕ) (new : Template) (v : Value) → bare new ≡ v → bare (numbered next new) ≡ v
  bare-new next new v h = bare-numbered next new ∙ h

  -- a value in the place of another
  pub set-typed : (t : ℕ) (old : Labelled) (made : Value) → Lab w.types t old → Typed t (value_set (typing_in w) (setting t old made w.next))
  set-typed t old made labelled = labelled-again (typing_in w) (suited w.types.table) (setting t old made w.next) labelled

  pub set-bare : (t : ℕ) (old : Labelled) (made : Value) → bare (value_set (typing_in w) (setting t old made w.next)).value ≡ made
  set-bare t old made = bare-new w.next (template (by_first (typing_in w)) t (Some old) made) made (bare-template (by_first (typing_in w)) t (Some old) made)

  pub item_set-typed : (t : ℕ) (old : Labelled) (made : Value) → Lab w.types t old → Typed t (one_item_set (typing_in w) (setting t old made w.next))
  item_set-typed t old made labelled = by (same_item (typing_in w) t (seen old) made) where
    by : (b : Bool) → Typed t (as_changed (if b then reconciled (by_first (typing_in w)) (setting t old made w.next) else written_as w.next old (template (by_first (typing_in w)) t None made)))
    by true = set-typed t old made labelled
    by false = labelled-anew (typing_in w) (suited w.types.table) w.next t made

  pub item_set-bare : (t : ℕ) (old : Labelled) (made : Value) → bare (one_item_set (typing_in w) (setting t old made w.next)).value ≡ made
  item_set-bare t old made = by (same_item (typing_in w) t (seen old) made) where
    by : (b : Bool) → bare (as_changed (if b then reconciled (by_first (typing_in w)) (setting t old made w.next) else written_as w.next old (template (by_first (typing_in w)) t None made))).value ≡ made
    by true = set-bare t old made
    by false = bare-new w.next (template (by_first (typing_in w)) t None made) made (bare-template (by_first (typing_in w)) t None made)

  letter : (u : ℕ) (old y : Labelled) (made : Value) → bare y ≡ made → Made u made → KeepsLetter w.types.table u (bare old) (bare y)
  letter u old y made is m = let P : Value → Type 0 = λ v. KeepsLetter w.types.table u (bare old) v in subst P (sym is) (made-letter w.types sound u (bare old) made m)

  -- an entry
  entry-typed : (t : ℕ) (l : Label) (es : Entries Label) (key : List ℕ) (old : Labelled) (made : Value) → Lab w.types t (keyed l es) → IsPlain (bare (keyed l es))
      → entry_at key (entries_in es) ≡ Some old → Made (type_under w.types.table l.kind key) made → Typed t (entry_set w (record { node = keyed l es; key = key }) old made)
  entry-typed t l es key old made labelled plain h is =
      let i : ℕ = place_in key (entries_in es) in
      let u : ℕ = type_under w.types.table l.kind key in
      let found = held key es old plain h in
      let at : type_at (typing_of w.types.table) t (to_entry i key ∷ []) (keyed l es) ≡ u = turn-type w.types sound t (to_entry i key) [] (keyed l es) old (entry-turn w.types sound i key l es old found) in
      let part : Lab w.types u old = entry-part w.types sound l.kind i key es old found (of-record w.types sound l.kind es labelled.1) in
      let y : Labelled = (value_set (typing_in w) (setting u old made w.next)).value in
      let P : ℕ → Type 0 = λ v. Lab w.types v y in
      let K : ℕ → Type 0 = λ v. KeepsLetter w.types.table v (bare old) (bare y) in
      typed-with w.types sound t (to_entry i key ∷ []) (keyed l es) old y (old, found, refl) labelled
      (subst P (sym at) (set-typed u old made part)) (subst K (sym at) (letter u old y made (set-bare u old made) is))

  property-typed : (t : ℕ) (l : Label) (es : Entries Label) (key : List ℕ) (write : Write) → Lab w.types t (keyed l es) → IsPlain (bare (keyed l es))
      → IfOk (property_written w (record { node = keyed l es; key = key }) write) (Typed t)
  property-typed t l es key write labelled plain =
      bound (or_refuse (entry_at key (entries_in es)) w.named _) _ (Typed t) (λ old h. by write old (there _ w.named _ old h)) where
        set_to : (v : Value) (old : Labelled) → entry_at key (entries_in es) ≡ Some old → IfOk (property_set w (record { node = keyed l es; key = key }) old v) (Typed t)
        set_to v old h =
            if-provided (not (is_renaming w (record { node = keyed l es; key = key }) (bare old) v)) (entry_path w (record { node = keyed l es; key = key })) Fixed _ (Typed t)
            (λ _. bound (seen_from (entry_path w (record { node = keyed l es; key = key })) (making w.types (entry_type w (record { node = keyed l es; key = key })) (Some v))) _ (Typed t)
            (λ made g. entry-typed t l es key old made labelled plain h (made-again (type_under w.types.table l.kind key) v made (seen-Ok _ _ made g))))

        by : (write : Write) (old : Labelled) → entry_at key (entries_in es) ≡ Some old
            → IfOk (property_in w.named write >>= (λ v. property_set w (record { node = keyed l es; key = key }) old v)) (Typed t)
        by (set v) old h = set_to v old h
        by (insert v) old h = set_to v old h
        by remove old h = tt

  -- a value of a map
  added-typed : (t i : ℕ) (key : List ℕ) (l : Label) (es : Entries Label) (y : Labelled) → map_kind l.kind ≡ true → Lab w.types t (keyed l es) → Lab w.types (type_under w.types.table l.kind key) y
      → Lab w.types t (after_logged (record { way = to_entry i key ∷ []; operation = add y }) (keyed l es))
  added-typed t i key l es y is labelled new = (
    record-kind w.types sound t l.kind (bare_fields es) _ (map-only l.kind is _) labelled.0,
    if-record w.types sound l.kind es _
        (λ h. each-joined w.types l.kind (take i (entries_in es)) _ (each-take w.types l.kind i (entries_in es) (each-in w.types l.kind es h))
        (new, each-drop w.types l.kind _ (entries_in es) (each-in w.types l.kind es h))) labelled.1,
  )

  removed-typed : (t i : ℕ) (key : List ℕ) (l : Label) (es : Entries Label) (old : Labelled) → map_kind l.kind ≡ true → Lab w.types t (keyed l es)
      → Lab w.types t (after_logged (record { way = to_entry i key ∷ []; operation = remove_part old }) (keyed l es))
  removed-typed t i key l es old is labelled = (
    record-kind w.types sound t l.kind (bare_fields es) _ (map-only l.kind is _) labelled.0,
    if-record w.types sound l.kind es _
        (λ h. each-joined w.types l.kind (take i (entries_in es)) _ (each-take w.types l.kind i (entries_in es) (each-in w.types l.kind es h))
        (each-drop w.types l.kind _ (entries_in es) (each-in w.types l.kind es h))) labelled.1,
  )

  key-put : (t : ℕ) (l : Label) (es : Entries Label) (key : List ℕ) (v : Value) → map_kind l.kind ≡ true → Lab w.types t (keyed l es) → IsPlain (bare (keyed l es))
      → IfOk (key_put w (record { node = keyed l es; key = key }) v) (Typed t)
  key-put t l es key v is labelled plain =
      bound (seen_from (entry_path w (record { node = keyed l es; key = key })) (entry_making w.types (entry_type w (record { node = keyed l es; key = key })) key v)) _ (Typed t)
      (λ made g. by made (made-again (type_under w.types.table l.kind key) v made (entry-making w.types (type_under w.types.table l.kind key) key v made (seen-Ok _ _ made g)))
      (entry_at key (entries_in es)) refl) where
        by : (made : Value) → Made (type_under w.types.table l.kind key) made → (o : Option Labelled) → entry_at key (entries_in es) ≡ o
            → Typed t (key_set w (record { node = keyed l es; key = key }) made o)
        by made m (Some old) h = entry-typed t l es key old made labelled plain h m
        by made m None h =
            added-typed t (place_in key (entries_in es)) key l es (numbered w.next (template (by_first (typing_in w)) (type_under w.types.table l.kind key) None made)) is labelled
            (labelled-anew (typing_in w) (suited w.types.table) w.next (type_under w.types.table l.kind key) made)

  key-typed : (t : ℕ) (l : Label) (es : Entries Label) (key : List ℕ) (write : Write) → map_kind l.kind ≡ true → Lab w.types t (keyed l es) → IsPlain (bare (keyed l es))
      → IfOk (key_written w (record { node = keyed l es; key = key }) write) (Typed t)
  key-typed t l es key (set v) is labelled plain = key-put t l es key v is labelled plain
  key-typed t l es key (insert v) is labelled plain = key-put t l es key v is labelled plain
  key-typed t l es key remove is labelled plain =
      bound (or_refuse (entry_at key (entries_in es)) w.named _) _ (Typed t) (λ old h. removed-typed t (place_in key (entries_in es)) key l es old is labelled)

  -- an item of an array
  array-joined : (k : Kind) (i j : ℕ) (bs : Branches Label) (ys : List Labelled) → IfArray k (λ u. AreLabelledBy (typing_of w.types.table) u bs) → All w.types (type_under w.types.table k []) ys
      → IfArray k (λ u. AreLabelledBy (typing_of w.types.table) u (branches (take i (items_in bs) ++ (ys ++ drop j (items_in bs)))))
  array-joined (kind.Array u) i j bs ys labelled new =
      let all = all-in w.types u.0 bs labelled in
      all-joined w.types u.0 (take i (items_in bs)) (ys ++ drop j (items_in bs)) (all-take w.types u.0 i (items_in bs) all) (all-joined w.types u.0 ys (drop j (items_in bs)) new (all-drop w.types u.0 j (items_in bs) all))
  array-joined (kind.Model m) i j bs ys labelled new = labelled
  array-joined (kind.Map u) i j bs ys labelled new = labelled

  item-typed : (t : ℕ) (l : Label) (bs : Branches Label) (i : ℕ) (write : Write) → Lab w.types t (many l bs) → IfOk (item_written w (record { node = many l bs; index = i }) write) (Typed t)
  item-typed t l bs i (set v) labelled =
      bound (or_refuse (slice_get (items_in bs) i) w.named _) _ (Typed t)
      (λ old h. bound (item_making w (record { node = many l bs; index = i }) v) _ (Typed t)
      (λ made g. by old made (there _ w.named _ old h) (made-again (type_under w.types.table l.kind []) v made (seen-Ok _ _ made g)))) where
        by : (old : Labelled) (made : Value) → slice_get (items_in bs) i ≡ Some old → Made (type_under w.types.table l.kind []) made
            → Typed t (placed (to_item i ∷ []) (many l bs) (one_item_set (typing_in w) (setting (item_type w (record { node = many l bs; index = i })) old made w.next)))
        by old made found m =
            let u : ℕ = type_under w.types.table l.kind [] in
            let at : type_at (typing_of w.types.table) t (to_item i ∷ []) (many l bs) ≡ u = turn-type w.types sound t (to_item i) [] (many l bs) old found in
            let y : Labelled = (one_item_set (typing_in w) (setting u old made w.next)).value in
            let P : ℕ → Type 0 = λ v. Lab w.types v y in
            let K : ℕ → Type 0 = λ v. KeepsLetter w.types.table v (bare old) (bare y) in
            typed-with w.types sound t (to_item i ∷ []) (many l bs) old y (old, found, refl) labelled
            (subst P (sym at) (item_set-typed u old made (array-part w.types sound l.kind i bs old found labelled.1))) (subst K (sym at) (letter u old y made (item_set-bare u old made) m))
  item-typed t l bs i (insert v) labelled =
      if-provided (nat_le i (length (items_in bs))) w.named _ _ (Typed t)
      (λ short. bound (item_making w (record { node = many l bs; index = i }) v) _ (Typed t)
      (λ made g. (
        list-kind w.types sound t l.kind bs _ labelled.0,
        array-joined l.kind i _ bs (numbered w.next (template (by_first (typing_in w)) (type_under w.types.table l.kind []) None made) ∷ []) labelled.1
            (labelled-anew (typing_in w) (suited w.types.table) w.next (type_under w.types.table l.kind []) made, tt),
      )))
  item-typed t l bs i remove labelled =
      bound (or_refuse (slice_get (items_in bs) i) w.named _) _ (Typed t)
      (λ old h. (list-kind w.types sound t l.kind bs _ labelled.0, array-joined l.kind i _ bs [] labelled.1 tt))

  -- the node as a whole: a model by its own type
  model-typed : (l : Label) (es : Entries Label) (m : ModelNo) (v : Value) → l.kind ≡ kind.Model m → Lab w.types w.type (keyed l es) → IfOk (whole_set w (kind.Model m) v (keyed l es)) (Typed w.type)
  model-typed l es m v is labelled =
      if-unfixed w.node (other_identifier (typing_in w) (kind.Model m) (keyed l es) v) _ (Typed w.type)
      (λ fixed. bound (seen_from w.node (making w.types (model_type w.types m) (Some v))) _ (Typed w.type)
      (λ made h. by made (limited-Ok (made_by w.types.table w.types.defaults (model_type w.types m) (Some v)) made (seen-Ok w.node (making w.types (model_type w.types m) (Some v)) made h)).0)) where
        old_kind : (typing_of w.types.table).kind_of w.type (dict tt (bare_fields es)) ≡ Some (kind.Model m)
        old_kind = labelled.0 ∙ ap Some is

        shape_own : shape_at w.types.table (model_type w.types m) ≡ Some (shape.Model m)
        shape_own = own-shape w.types sound m w.type (dict tt (bare_fields es)) (model-shape _ (bare_fields es) m old_kind)

        own_kind : (ms : Fields) → (typing_of w.types.table).kind_of (model_type w.types m) (dict tt ms) ≡ Some (kind.Model m)
        own_kind ms = ap (λ s. kind_by s (dict tt ms)) (model-at w.types sound m (model_type w.types m) shape_own (dict tt ms))

        by : (made : Value) → maker_of w.types.table w.types.defaults v (model_type w.types m) ≡ Ok made → Typed w.type (value_set (typing_in w) (setting (model_type w.types m) (keyed l es) made w.next))
        by made h =
            let of : Of w.types sound m v made = model-of w.types sound m (model_type w.types m) v made (model-at w.types sound m (model_type w.types m) shape_own v) h in
            let P : Value → Type 0 = λ u. maker_of w.types.table w.types.defaults u (model_type w.types m) ≡ Ok u in
            let again = subst P of.to (maker-again w.types sound (model_type w.types m) v made h) in
            let fits = model-fits w.types sound m (model_type w.types m) of.made (model-at w.types sound m (model_type w.types m) shape_own (dict tt of.made)) again in
            let y : Labelled = (value_set (typing_in w) (setting (model_type w.types m) (keyed l es) made w.next)).value in
            let at_own : Lab w.types (model_type w.types m) (keyed l es) = (own_kind (bare_fields es) ∙ ap Some (sym is), labelled.1) in
            own-to w.types sound (model_type w.types m) w.type y of.made (kind.Model m) (set-bare (model_type w.types m) (keyed l es) made ∙ of.to) (own_kind of.made)
            (record-kind w.types sound w.type (kind.Model m) (bare_fields es) of.made (fits-keep w.types sound m (bare_fields es) of.made fits) old_kind)
            (set-typed (model_type w.types m) (keyed l es) made at_own)

  parts-typed : (k : Kind) (v : Value) (node : Labelled) → own_type w.types k w.type ≡ w.type → Lab w.types w.type node
      → IfOk (whole_made w k v node) (Typed w.type)
  parts-typed k v node is labelled =
      let P : ℕ → Type 0 = λ t. (made : Value) → Typed w.type (value_set (typing_in w) (setting t node made w.next)) in
      bound (seen_from w.node (node_making w.types k w.type v)) _ (Typed w.type) (λ made h. (subst P (sym is) (λ made. set-typed w.type node made labelled)) made)

  kind-typed : (k : Kind) (v : Value) (l : Label) (es : Entries Label) → l.kind ≡ k → Lab w.types w.type (keyed l es) → IfOk (whole_set w k v (keyed l es)) (Typed w.type)
  kind-typed (kind.Model m) v l es is labelled = model-typed l es m v is labelled
  kind-typed (kind.Map u) v l es is labelled = parts-typed (kind.Map u) v (keyed l es) refl labelled
  kind-typed (kind.Array u) v l es is labelled = parts-typed (kind.Array u) v (keyed l es) refl labelled

  items-typed : (k : Kind) (v : Value) (l : Label) (bs : Branches Label) → l.kind ≡ k → Lab w.types w.type (many l bs) → IfOk (whole_set w k v (many l bs)) (Typed w.type)
  items-typed (kind.Model m) v l bs is labelled = let P : Kind → Type 0 = λ k. IfArray k (λ u. AreLabelledBy (typing_of w.types.table) u bs) in absurd (subst P is labelled.1)
  items-typed (kind.Map u) v l bs is labelled = parts-typed (kind.Map u) v (many l bs) refl labelled
  items-typed (kind.Array u) v l bs is labelled = parts-typed (kind.Array u) v (many l bs) refl labelled

  whole-typed : (write : Write) (node : Labelled) (k : Kind) → ((v : Value) → IfOk (whole_set w k v node) (Typed w.type)) → IfOk (whole_written w k write node) (Typed w.type)
  whole-typed (set v) node k h = h v
  whole-typed (insert v) node k h = tt
  whole-typed remove node k h = tt

  -- any place of a node
  pub node-typed : (at : Place) (write : Write) (node : Labelled) → Lab w.types w.type node → IsPlain (bare node) → IfOk (node_written w at write node) (Typed w.type)
  node-typed at write (leaf v) labelled plain = tt
  node-typed (place.Whole n) write (many l bs) labelled plain = whole-typed write (many l bs) l.kind (λ v. items-typed l.kind v l bs refl labelled)
  node-typed (place.Whole n) write (keyed l es) labelled plain = whole-typed write (keyed l es) l.kind (λ v. kind-typed l.kind v l es refl labelled)
  node-typed (place.Prop n name) write (keyed l es) labelled plain =
      if-provided (model_kind l.kind) [] _ _ (Typed w.type) (λ _. property-typed w.type l es name write labelled plain)
  node-typed (place.Prop n name) write (many l bs) labelled plain = tt
  node-typed (place.Item n i) write (many l bs) labelled plain =
      if-provided (array_kind l.kind) [] _ _ (Typed w.type) (λ _. item-typed w.type l bs i write labelled)
  node-typed (place.Item n i) write (keyed l es) labelled plain = tt
  node-typed (place.Key n key) write (keyed l es) labelled plain =
      if-provided (map_kind l.kind) [] _ _ (Typed w.type) (λ is. key-typed w.type l es key write is labelled plain)
  node-typed (place.Key n key) write (many l bs) labelled plain = tt

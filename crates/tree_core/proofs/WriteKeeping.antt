-- What a write makes of a tree keeps what changes keep.
use Rattle.std.proofs.Common.{◌≡◌, ℕ, List, [], ◌∷◌, length, Bool, true, false, Option, Some, None, Ok, Err, IfOk, refl, not, if◌then◌else◌}
use Rattle.std.specs.Prelude.{nat_le, slice_get}
use Rattle.std.proofs.lemmas.Bool.{leb-true}
use Rattle.snap_core.specs.Value.{Value, IsPlain}
use Rattle.snap_core.specs.declared.ident.Ident.{Ident}
use Rattle.pointer_core.specs.Path.{Path}
use Rattle.pointer_core.specs.declared.refusal.Rule.{Rule}
use Rattle.pointer_core.specs.declared.refusal.Rule.TheVariants.{Key, Fixed}
use Rattle.type_table.specs.Table.{Catalog}
use Rattle.type_table.specs.Identifiers.{ident_in, is_keyed}
use Rattle.type_core.specs.Judging.{judged_by}
use Rattle.type_core.specs.Making.{Outcome, making, maker_of, limited, keyed as under_key, refused, entry_making}
use Rattle.type_core.specs.Sound.{IsSound}
use Rattle.type_core.proofs.Again.{making-plain}
use Rattle.edit_core.specs.declared.kind.Kind.{Kind}
use Rattle.edit_core.specs.declared.kind.Kind.TheVariants as kind
use Rattle.edit_core.specs.Labelled.{Label, Labelled, Branches, Entries, leaf, many, keyed, items_in, entries_in, bare}
use Rattle.edit_core.specs.Edit.{to_item, to_entry}
use Rattle.edit_core.specs.Typing.{is_kind}
use Rattle.edit_core.specs.Template.{entry_at}
use Rattle.edit_core.specs.Numbers.{AreNumbered}
use Rattle.tree_core.specs.declared.place.Place.{Place}
use Rattle.tree_core.specs.declared.place.Place.TheVariants as place
use Rattle.tree_core.specs.Outcome.{◌>>=◌, provided, or_refuse, seen_from}
use Rattle.tree_core.specs.Write.{Write, set, insert, remove, WritesPlain}
use Rattle.tree_core.specs.Changed.{Changed, value_set}
use Rattle.tree_core.specs.Nodes.{place_in}
use Rattle.tree_core.specs.TypesTyping.{typing_of}
use Rattle.tree_core.specs.Writing.{Writing, Entry, Item, typing_in, setting, entry_type, entry_path, item_type, unless_fixed, node_making, entry_set, key_set, is_renaming, property_set, property_in, property_written, key_put, key_removed, key_written, item_making, item_written, whole_set, whole_written, kind_written, node_written, model_kind, map_kind, array_kind}
use Rattle.tree_core.proofs.Moving.{Stands}
use Rattle.tree_core.proofs.Keys.{held}
use Rattle.tree_core.proofs.Keeping.{Keeps, keeps-set, keeps-item_set, keeps-placed, part-numbered, fresh}
use Rattle.tree_core.proofs.NodeKeeping.{keeps-item_added, keeps-item_removed, keeps-entry_added, keeps-entry_removed}

-- outcomes

pub bound : {A B : Type 0} → (o : Outcome A) (f : A → Outcome B) (P : B → Type 0) → ((x : A) → o ≡ Ok x → IfOk (f x) P) → IfOk (o >>= f) P
bound (Ok x) f P h = h x refl
bound (Err e) f P h = tt

pub if-provided : {A : Type 0} → (b : Bool) (path : Path) (rule : Rule) (rest : Outcome A) (P : A → Type 0) → (b ≡ true → IfOk rest P) → IfOk (provided b path rule rest) P
if-provided true path rule rest P h = h refl
if-provided false path rule rest P h = tt

pub there : {A : Type 0} → (o : Option A) (path : Path) (rule : Rule) (x : A) → or_refuse o path rule ≡ Ok x → o ≡ Some x
there (Some y) path rule x h = cc
there None path rule x h = absurd (cc)

seen-Ok : {A : Type 0} → (path : Path) (o : Outcome A) (x : A) → seen_from path o ≡ Ok x → o ≡ Ok x
seen-Ok path (Ok y) x h = h
seen-Ok path (Err e) x h = absurd (cc)

pub provided-Ok : {A : Type 0} → (b : Bool) (path : Path) (rule : Rule) (rest : Outcome A) (x : A) → provided b path rule rest ≡ Ok x → rest ≡ Ok x
provided-Ok true path rule rest x h = h
provided-Ok false path rule rest x h = absurd (cc)

-- made values are plain

by_key : (stands : Bool) (v s : Value) → limited (if stands then Ok v else refused Key) ≡ Ok s → limited (Ok v) ≡ Ok s
by_key true v s h = h
by_key false v s h = absurd (cc)

unkeyed : (key : List ℕ) (identifier : Option Ident) (outcome : Outcome Value) (s : Value) → limited (under_key key identifier outcome) ≡ Ok s → limited outcome ≡ Ok s
unkeyed key identifier (Err e) s h = h
unkeyed key identifier (Ok v) s h = by_key (is_keyed key identifier) v s h

entry-plain : (types : Catalog) → IsSound types → (t : ℕ) (key : List ℕ) (v s : Value) → IsPlain v → entry_making types t key v ≡ Ok s → IsPlain s
entry-plain types sound t key v s plain h =
    making-plain types sound t (Some v) s
    (unkeyed key (ident_in types.table (judged_by types.table v t) v) (maker_of types.table types.defaults v t) s h) plain

node-plain : (types : Catalog) → IsSound types → (k : Kind) (t : ℕ) (v s : Value) → IsPlain v → node_making types k t v ≡ Ok s → IsPlain s
node-plain types sound (kind.Model m) t v s plain h = making-plain types sound _ (Some v) s h plain
node-plain types sound (kind.Array u) t v s plain h =
    making-plain types sound t (Some v) s (provided-Ok (is_kind ((typing_of types.table).kind_of t v) (kind.Array u)) [] _ (making types t (Some v)) s h) plain
node-plain types sound (kind.Map u) t v s plain h =
    making-plain types sound t (Some v) s (provided-Ok (is_kind ((typing_of types.table).kind_of t v) (kind.Map u)) [] _ (making types t (Some v)) s h) plain

-- Each write of a node.

module _ (w : Writing) (sound : IsSound w.types) where
  -- the node as a whole
  unfixed : (node : Path) (o : Option (List ℕ)) (rest : Outcome Changed) (P : Changed → Type 0) → IfOk rest P → IfOk (unless_fixed node o rest) P
  unfixed node (Some name) rest P h = tt
  unfixed node None rest P h = h

  whole-set : (k : Kind) (v : Value) (node : Labelled) → AreNumbered w.next node → IsPlain v → IfOk (whole_set w k v node) (Keeps w.next node)
  whole-set k v node numbered plain =
      unfixed w.node _ _ (Keeps w.next node)
      (bound (seen_from w.node (node_making w.types k w.type v)) _ (Keeps w.next node)
      (λ made h. keeps-set (typing_in w) (setting _ node made w.next) numbered (node-plain w.types sound k w.type v made plain (seen-Ok w.node _ made h))))

  -- an entry of a model or a map
  entry-stands : (l : Label) (es : Entries Label) (key : List ℕ) (old : Labelled) → IsPlain (bare (keyed l es)) → entry_at key (entries_in es) ≡ Some old
      → Stands (to_entry (place_in key (entries_in es)) key ∷ []) (keyed l es) old
  entry-stands l es key old plain h = (old, held key es old plain h, refl)

  entry-set : (l : Label) (es : Entries Label) (key : List ℕ) (old : Labelled) (made : Value) → AreNumbered w.next (keyed l es) → IsPlain (bare (keyed l es))
      → entry_at key (entries_in es) ≡ Some old → IsPlain made → Keeps w.next (keyed l es) (entry_set w (record { node = keyed l es; key = key }) old made)
  entry-set l es key old made numbered plain h plain-made =
      let stands = entry-stands l es key old plain h in
      let way = to_entry (place_in key (entries_in es)) key ∷ [] in
      keeps-placed way w.next (keyed l es) old (value_set (typing_in w) (setting (entry_type w (record { node = keyed l es; key = key })) old made w.next)) stands numbered plain
      (keeps-set (typing_in w) (setting (entry_type w (record { node = keyed l es; key = key })) old made w.next) (part-numbered way w.next (keyed l es) old stands numbered) plain-made)

  property-set : (l : Label) (es : Entries Label) (key : List ℕ) (old : Labelled) (v : Value) → AreNumbered w.next (keyed l es) → IsPlain (bare (keyed l es))
      → entry_at key (entries_in es) ≡ Some old → IsPlain v → IfOk (property_set w (record { node = keyed l es; key = key }) old v) (Keeps w.next (keyed l es))
  property-set l es key old v numbered plain h plain-v =
      let e : Entry = record { node = keyed l es; key = key } in
      if-provided (not (is_renaming w e (bare old) v)) (entry_path w e) Fixed
      (seen_from (entry_path w e) (making w.types (entry_type w e) (Some v)) >>= (λ made. Ok (entry_set w e old made))) (Keeps w.next (keyed l es))
      (λ _. bound (seen_from (entry_path w e) (making w.types (entry_type w e) (Some v))) (λ made. Ok (entry_set w e old made)) (Keeps w.next (keyed l es))
      (λ made g. entry-set l es key old made numbered plain h (making-plain w.types sound (entry_type w e) (Some v) made (seen-Ok (entry_path w e) _ made g) plain-v)))

  property-write : (l : Label) (es : Entries Label) (key : List ℕ) (write : Write) → AreNumbered w.next (keyed l es) → IsPlain (bare (keyed l es))
      → WritesPlain write → IfOk (property_written w (record { node = keyed l es; key = key }) write) (Keeps w.next (keyed l es))
  property-write l es key write numbered plain plain-write =
      bound (or_refuse (entry_at key (entries_in es)) w.named _) _ (Keeps w.next (keyed l es)) (λ old h. by write plain-write old (there _ w.named _ old h)) where
        by : (write : Write) → WritesPlain write → (old : Labelled) → entry_at key (entries_in es) ≡ Some old
            → IfOk (property_in w.named write >>= (λ v. property_set w (record { node = keyed l es; key = key }) old v)) (Keeps w.next (keyed l es))
        by (set v) p old h = property-set l es key old v numbered plain h p
        by (insert v) p old h = property-set l es key old v numbered plain h p
        by remove p old h = tt

  key-put : (l : Label) (es : Entries Label) (key : List ℕ) (v : Value) → AreNumbered w.next (keyed l es) → IsPlain (bare (keyed l es))
      → IsPlain v → IfOk (key_put w (record { node = keyed l es; key = key }) v) (Keeps w.next (keyed l es))
  key-put l es key v numbered plain plain-v =
      let e : Entry = record { node = keyed l es; key = key } in
      bound (seen_from (entry_path w e) (entry_making w.types (entry_type w e) key v)) _ (Keeps w.next (keyed l es))
      (λ made g. by made (entry-plain w.types sound (entry_type w e) key v made plain-v (seen-Ok (entry_path w e) _ made g)) (entry_at key (entries_in es)) refl) where
        by : (made : Value) → IsPlain made → (o : Option Labelled) → entry_at key (entries_in es) ≡ o
            → Keeps w.next (keyed l es) (key_set w (record { node = keyed l es; key = key }) made o)
        by made p (Some old) h = entry-set l es key old made numbered plain h p
        by made p None h =
            keeps-entry_added w.next key l es _ made h numbered plain p (fresh (typing_in w) w.next (entry_type w (record { node = keyed l es; key = key })) made p)

  key-removed : (l : Label) (es : Entries Label) (key : List ℕ) → AreNumbered w.next (keyed l es) → IsPlain (bare (keyed l es))
      → IfOk (key_removed w (record { node = keyed l es; key = key })) (Keeps w.next (keyed l es))
  key-removed l es key numbered plain =
      bound (or_refuse (entry_at key (entries_in es)) w.named _) _ (Keeps w.next (keyed l es))
      (λ old h. keeps-entry_removed w.next (place_in key (entries_in es)) key l es old (held key es old plain (there _ w.named _ old h)) numbered plain)

  key-write : (l : Label) (es : Entries Label) (key : List ℕ) (write : Write) → AreNumbered w.next (keyed l es) → IsPlain (bare (keyed l es))
      → WritesPlain write → IfOk (key_written w (record { node = keyed l es; key = key }) write) (Keeps w.next (keyed l es))
  key-write l es key (set v) numbered plain p = key-put l es key v numbered plain p
  key-write l es key (insert v) numbered plain p = key-put l es key v numbered plain p
  key-write l es key remove numbered plain p = key-removed l es key numbered plain

  -- an item of an array
  item-made : (a : Item) (v made : Value) → IsPlain v → item_making w a v ≡ Ok made → IsPlain made
  item-made a v made plain h = making-plain w.types sound (item_type w a) (Some v) made (seen-Ok _ _ made h) plain

  item-write : (l : Label) (bs : Branches Label) (i : ℕ) (write : Write) → AreNumbered w.next (many l bs) → IsPlain (bare (many l bs))
      → WritesPlain write → IfOk (item_written w (record { node = many l bs; index = i }) write) (Keeps w.next (many l bs))
  item-write l bs i (set v) numbered plain p =
      let a : Item = record { node = many l bs; index = i } in
      bound (or_refuse (slice_get (items_in bs) i) w.named _) _ (Keeps w.next (many l bs))
      (λ old h. bound (item_making w a v) _ (Keeps w.next (many l bs))
      (λ made g.
      let stands : Stands (to_item i ∷ []) (many l bs) old = (old, there _ w.named _ old h, refl) in
      keeps-placed (to_item i ∷ []) w.next (many l bs) old _ stands numbered plain
      (keeps-item_set (typing_in w) (setting (item_type w a) old made w.next) (part-numbered (to_item i ∷ []) w.next (many l bs) old stands numbered) (item-made a v made p g))))
  item-write l bs i (insert v) numbered plain p =
      let a : Item = record { node = many l bs; index = i } in
      if-provided (nat_le i (length (items_in bs))) w.named _ _ (Keeps w.next (many l bs))
      (λ room. bound (item_making w a v) _ (Keeps w.next (many l bs))
      (λ made g. keeps-item_added w.next i l bs _ made (leb-true i (length (items_in bs)) room) numbered plain (item-made a v made p g)
      (fresh (typing_in w) w.next (item_type w a) made (item-made a v made p g))))
  item-write l bs i remove numbered plain p =
      bound (or_refuse (slice_get (items_in bs) i) w.named _) _ (Keeps w.next (many l bs))
      (λ old h. keeps-item_removed w.next i l bs old (there _ w.named _ old h) numbered plain)

  -- any place of a node
  whole-write : (k : Kind) (write : Write) (node : Labelled) → AreNumbered w.next node → WritesPlain write → IfOk (whole_written w k write node) (Keeps w.next node)
  whole-write k (set v) node numbered p = whole-set k v node numbered p
  whole-write k (insert v) node numbered p = tt
  whole-write k remove node numbered p = tt

  kind-write : (at : Place) (write : Write) (node : Labelled) (k : Kind) → AreNumbered w.next node → IsPlain (bare node) → WritesPlain write
      → IfOk (kind_written w at write node k) (Keeps w.next node)
  kind-write (place.Whole n) write node k numbered plain p = whole-write k write node numbered p
  kind-write (place.Prop n name) write (keyed l es) k numbered plain p =
      if-provided (model_kind l.kind) [] _ _ (Keeps w.next (keyed l es)) (λ _. property-write l es name write numbered plain p)
  kind-write (place.Prop n name) write (leaf v) k numbered plain p = tt
  kind-write (place.Prop n name) write (many l bs) k numbered plain p = tt
  kind-write (place.Item n i) write (many l bs) k numbered plain p =
      if-provided (array_kind l.kind) [] _ _ (Keeps w.next (many l bs)) (λ _. item-write l bs i write numbered plain p)
  kind-write (place.Item n i) write (leaf v) k numbered plain p = tt
  kind-write (place.Item n i) write (keyed l es) k numbered plain p = tt
  kind-write (place.Key n key) write (keyed l es) k numbered plain p =
      if-provided (map_kind l.kind) [] _ _ (Keeps w.next (keyed l es)) (λ _. key-write l es key write numbered plain p)
  kind-write (place.Key n key) write (leaf v) k numbered plain p = tt
  kind-write (place.Key n key) write (many l bs) k numbered plain p = tt

  pub node-write : (at : Place) (write : Write) (node : Labelled) → AreNumbered w.next node → IsPlain (bare node) → WritesPlain write
      → IfOk (node_written w at write node) (Keeps w.next node)
  node-write at write (leaf v) numbered plain p = tt
  node-write at write (many l bs) numbered plain p = kind-write at write (many l bs) l.kind numbered plain p
  node-write at write (keyed l es) numbered plain p = kind-write at write (keyed l es) l.kind numbered plain p

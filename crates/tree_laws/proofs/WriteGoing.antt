-- What a write makes of a node goes.
use Rattle.std.proofs.Common.{◌≡◌, ℕ, List, [], ◌∷◌, length, Bool, true, false, Option, Some, None, Ok, Err, IfOk, refl, not, if◌then◌else◌}
use Rattle.std.specs.Prelude.{nat_le, slice_get, IsTrue}
use Rattle.std.proofs.lemmas.Bool.{leb-true}
use Rattle.snap_core.specs.Value.{Value, IsPlain}
use Rattle.snap_core.specs.declared.ident.Ident.{Ident}
use Rattle.pointer_core.specs.Path.{Path}
use Rattle.pointer_core.specs.declared.refusal.Rule.TheVariants.{Key, Fixed}
use Rattle.type_table.specs.Table.{Catalog}
use Rattle.type_table.specs.Identifiers.{ident_in, is_keyed}
use Rattle.type_core.specs.Judging.{judged_by}
use Rattle.type_core.specs.Making.{Outcome, making, made_by, maker_of, limited, keyed as under_key, refused, is_within, entry_making}
use Rattle.type_core.specs.Sound.{IsSound}
use Rattle.type_core.proofs.Again.{making-plain, limited-Ok}
use Rattle.edit_core.specs.declared.kind.Kind.{Kind}
use Rattle.edit_core.specs.declared.kind.Kind.TheVariants as kind
use Rattle.edit_core.specs.Labelled.{Label, Labelled, Branches, Entries, leaf, many, keyed, items_in, entries_in, bare}
use Rattle.edit_core.specs.Edit.{to_item, to_entry}
use Rattle.edit_core.specs.Typing.{is_kind}
use Rattle.edit_core.specs.Matching.{by_first}
use Rattle.edit_core.specs.Template.{template, entry_at}
use Rattle.edit_core.proofs.Bare.{bare-template}
use Rattle.tree_core.specs.declared.place.Place.{Place}
use Rattle.tree_core.specs.declared.place.Place.TheVariants as place
use Rattle.tree_core.specs.Outcome.{◌>>=◌, or_refuse, seen_from}
use Rattle.tree_core.specs.Write.{Write, set, insert, remove, WritesPlain}
use Rattle.tree_core.specs.Changed.{Changed, value_set}
use Rattle.tree_core.specs.Nodes.{place_in}
use Rattle.tree_core.specs.TypesTyping.{typing_of}
use Rattle.tree_core.specs.Writing.{Writing, Entry, Item, typing_in, setting, entry_type, entry_path, item_type, unless_fixed, node_making, entry_set, key_set, is_renaming, property_set, property_in, property_written, key_put, key_removed, key_written, item_making, item_written, whole_set, whole_written, kind_written, node_written, model_kind, map_kind, array_kind}
use Rattle.tree_core.proofs.Keys.{held}
use Rattle.tree_core.proofs.Moving.{Stands}
use Rattle.tree_core.proofs.WriteKeeping.{bound, if-provided, there, provided-Ok}
use Rattle.edit_core.proofs.Leading.{FineIn}
use Rattle.tree_laws.proofs.Bounds.{bounded}
use Rattle.tree_laws.proofs.PartFine.{fine-part}
use Rattle.tree_laws.proofs.NodeGoing.{Goes, IsBound, goes-set, goes-item_set, goes-placed, goes-item_added, goes-item_removed, goes-entry_added, goes-entry_removed}

-- what is made: plain, and within the limits
pub record IsMade (v : Value) : Type 0 where
  pub plain : IsPlain v
  pub within : IsTrue (is_within v)

pub seen-Ok : {A : Type 0} → (path : Path) (o : Outcome A) (x : A) → seen_from path o ≡ Ok x → o ≡ Ok x
seen-Ok path (Ok y) x h = h
seen-Ok path (Err e) x h = absurd (cc)

by_key : (stands : Bool) (v s : Value) → limited (if stands then Ok v else refused Key) ≡ Ok s → limited (Ok v) ≡ Ok s
by_key true v s h = h
by_key false v s h = absurd (cc)

unkeyed : (key : List ℕ) (identifier : Option Ident) (outcome : Outcome Value) (s : Value) → limited (under_key key identifier outcome) ≡ Ok s → limited outcome ≡ Ok s
unkeyed key identifier (Err e) s h = h
unkeyed key identifier (Ok v) s h = by_key (is_keyed key identifier) v s h

pub making-is : (types : Catalog) → IsSound types → (t : ℕ) (v s : Value) → IsPlain v → making types t (Some v) ≡ Ok s → IsMade s
making-is types sound t v s plain h =
    record { plain = making-plain types sound t (Some v) s h plain; within = (limited-Ok (made_by types.table types.defaults t (Some v)) s h).1 }

pub entry-making : (types : Catalog) (t : ℕ) (key : List ℕ) (v s : Value) → entry_making types t key v ≡ Ok s → making types t (Some v) ≡ Ok s
entry-making types t key v s h = unkeyed key (ident_in types.table (judged_by types.table v t) v) (maker_of types.table types.defaults v t) s h

pub node-made : (types : Catalog) → IsSound types → (k : Kind) (t : ℕ) (v s : Value) → IsPlain v → node_making types k t v ≡ Ok s → IsMade s
node-made types sound (kind.Model m) t v s plain h = making-is types sound _ v s plain h
node-made types sound (kind.Array u) t v s plain h =
    making-is types sound t v s plain (provided-Ok (is_kind ((typing_of types.table).kind_of t v) (kind.Array u)) [] _ (making types t (Some v)) s h)
node-made types sound (kind.Map u) t v s plain h =
    making-is types sound t v s plain (provided-Ok (is_kind ((typing_of types.table).kind_of t v) (kind.Map u)) [] _ (making types t (Some v)) s h)

-- Each write of a node.

module _ (n : ℕ) (room : IsBound n) (w : Writing) (sound : IsSound w.types) where
  -- the node as a whole
  unfixed : (node : Path) (o : Option (List ℕ)) (rest : Outcome Changed) (P : Changed → Type 0) → IfOk rest P → IfOk (unless_fixed node o rest) P
  unfixed node (Some name) rest P h = tt
  unfixed node None rest P h = h

  set-goes : (t : ℕ) (old : Labelled) (made : Value) → FineIn (bounded n) old → IsMade made → Goes n old (value_set (typing_in w) (setting t old made w.next))
  set-goes t old made fine is = goes-set n room (typing_in w) (setting t old made w.next) fine is.plain is.within

  whole-set : (k : Kind) (v : Value) (node : Labelled) → FineIn (bounded n) node → IsPlain v → IfOk (whole_set w k v node) (Goes n node)
  whole-set k v node fine plain =
      unfixed w.node _ _ (Goes n node)
      (bound (seen_from w.node (node_making w.types k w.type v)) _ (Goes n node)
      (λ made h. set-goes _ node made fine (node-made w.types sound k w.type v made plain (seen-Ok w.node _ made h))))

  -- an entry of a model or a map
  entry-set : (l : Label) (es : Entries Label) (key : List ℕ) (old : Labelled) (made : Value) → FineIn (bounded n) (keyed l es) → IsPlain (bare (keyed l es))
      → entry_at key (entries_in es) ≡ Some old → IsMade made → Goes n (keyed l es) (entry_set w (record { node = keyed l es; key = key }) old made)
  entry-set l es key old made fine plain h is =
      let stands : Stands (to_entry (place_in key (entries_in es)) key ∷ []) (keyed l es) old = (old, held key es old plain h, refl) in
      let way = to_entry (place_in key (entries_in es)) key ∷ [] in
      goes-placed n room way (keyed l es) old (value_set (typing_in w) (setting (entry_type w (record { node = keyed l es; key = key })) old made w.next)) stands fine
      (set-goes (entry_type w (record { node = keyed l es; key = key })) old made (fine-part (bounded n) way (keyed l es) old stands fine) is)

  property-set : (l : Label) (es : Entries Label) (key : List ℕ) (old : Labelled) (v : Value) → FineIn (bounded n) (keyed l es) → IsPlain (bare (keyed l es))
      → entry_at key (entries_in es) ≡ Some old → IsPlain v → IfOk (property_set w (record { node = keyed l es; key = key }) old v) (Goes n (keyed l es))
  property-set l es key old v fine plain h plain-v =
      let e : Entry = record { node = keyed l es; key = key } in
      if-provided (not (is_renaming w e (bare old) v)) (entry_path w e) Fixed
      (seen_from (entry_path w e) (making w.types (entry_type w e) (Some v)) >>= (λ made. Ok (entry_set w e old made))) (Goes n (keyed l es))
      (λ _. bound (seen_from (entry_path w e) (making w.types (entry_type w e) (Some v))) (λ made. Ok (entry_set w e old made)) (Goes n (keyed l es))
      (λ made g. entry-set l es key old made fine plain h (making-is w.types sound (entry_type w e) v made plain-v (seen-Ok (entry_path w e) _ made g))))

  property-write : (l : Label) (es : Entries Label) (key : List ℕ) (write : Write) → FineIn (bounded n) (keyed l es) → IsPlain (bare (keyed l es))
      → WritesPlain write → IfOk (property_written w (record { node = keyed l es; key = key }) write) (Goes n (keyed l es))
  property-write l es key write fine plain plain-write =
      bound (or_refuse (entry_at key (entries_in es)) w.named _) _ (Goes n (keyed l es)) (λ old h. by write plain-write old (there _ w.named _ old h)) where
        by : (write : Write) → WritesPlain write → (old : Labelled) → entry_at key (entries_in es) ≡ Some old
            → IfOk (property_in w.named write >>= (λ v. property_set w (record { node = keyed l es; key = key }) old v)) (Goes n (keyed l es))
        by (set v) p old h = property-set l es key old v fine plain h p
        by (insert v) p old h = property-set l es key old v fine plain h p
        by remove p old h = tt

  key-put : (l : Label) (es : Entries Label) (key : List ℕ) (v : Value) → FineIn (bounded n) (keyed l es) → IsPlain (bare (keyed l es))
      → IsPlain v → IfOk (key_put w (record { node = keyed l es; key = key }) v) (Goes n (keyed l es))
  key-put l es key v fine plain plain-v =
      let e : Entry = record { node = keyed l es; key = key } in
      bound (seen_from (entry_path w e) (entry_making w.types (entry_type w e) key v)) _ (Goes n (keyed l es))
      (λ made g. by made
      (making-is w.types sound (entry_type w e) v made plain-v (entry-making w.types (entry_type w e) key v made (seen-Ok (entry_path w e) _ made g)))
      (entry_at key (entries_in es)) refl) where
        by : (made : Value) → IsMade made → (o : Option Labelled) → entry_at key (entries_in es) ≡ o
            → Goes n (keyed l es) (key_set w (record { node = keyed l es; key = key }) made o)
        by made is (Some old) h = entry-set l es key old made fine plain h is
        by made is None h =
            let t : ℕ = entry_type w (record { node = keyed l es; key = key }) in
            goes-entry_added n room w.next key l es (template (by_first (typing_in w)) t None made) made h (bare-template (by_first (typing_in w)) t None made) plain fine is.plain is.within

  key-removed : (l : Label) (es : Entries Label) (key : List ℕ) → FineIn (bounded n) (keyed l es) → IsPlain (bare (keyed l es))
      → IfOk (key_removed w (record { node = keyed l es; key = key })) (Goes n (keyed l es))
  key-removed l es key fine plain =
      bound (or_refuse (entry_at key (entries_in es)) w.named _) _ (Goes n (keyed l es))
      (λ old h. goes-entry_removed n room w.next (place_in key (entries_in es)) key l es old (held key es old plain (there _ w.named _ old h)) fine)

  key-write : (l : Label) (es : Entries Label) (key : List ℕ) (write : Write) → FineIn (bounded n) (keyed l es) → IsPlain (bare (keyed l es))
      → WritesPlain write → IfOk (key_written w (record { node = keyed l es; key = key }) write) (Goes n (keyed l es))
  key-write l es key (set v) fine plain p = key-put l es key v fine plain p
  key-write l es key (insert v) fine plain p = key-put l es key v fine plain p
  key-write l es key remove fine plain p = key-removed l es key fine plain

  -- an item of an array
  item-made : (a : Item) (v made : Value) → IsPlain v → item_making w a v ≡ Ok made → IsMade made
  item-made a v made plain h = making-is w.types sound (item_type w a) v made plain (seen-Ok _ _ made h)

  item-write : (l : Label) (bs : Branches Label) (i : ℕ) (write : Write) → FineIn (bounded n) (many l bs)
      → WritesPlain write → IfOk (item_written w (record { node = many l bs; index = i }) write) (Goes n (many l bs))
  item-write l bs i (set v) fine p =
      let a : Item = record { node = many l bs; index = i } in
      bound (or_refuse (slice_get (items_in bs) i) w.named _) _ (Goes n (many l bs))
      (λ old h. bound (item_making w a v) _ (Goes n (many l bs))
      (λ made g.
      let stands : Stands (to_item i ∷ []) (many l bs) old = (old, there _ w.named _ old h, refl) in
      let is : IsMade made = item-made a v made p g in
      goes-placed n room (to_item i ∷ []) (many l bs) old _ stands fine
      (goes-item_set n room (typing_in w) (setting (item_type w a) old made w.next) (fine-part (bounded n) (to_item i ∷ []) (many l bs) old stands fine) is.plain is.within)))
  item-write l bs i (insert v) fine p =
      let a : Item = record { node = many l bs; index = i } in
      if-provided (nat_le i (length (items_in bs))) w.named _ _ (Goes n (many l bs))
      (λ short. bound (item_making w a v) _ (Goes n (many l bs))
      (λ made g.
      let is : IsMade made = item-made a v made p g in
      goes-item_added n room w.next i l bs (template (by_first (typing_in w)) (item_type w a) None made) made (leb-true i (length (items_in bs)) short)
      (bare-template (by_first (typing_in w)) (item_type w a) None made) fine is.plain is.within))
  item-write l bs i remove fine p =
      bound (or_refuse (slice_get (items_in bs) i) w.named _) _ (Goes n (many l bs))
      (λ old h. goes-item_removed n room w.next i l bs old (there _ w.named _ old h) fine)

  -- any place of a node
  whole-write : (k : Kind) (write : Write) (node : Labelled) → FineIn (bounded n) node → WritesPlain write → IfOk (whole_written w k write node) (Goes n node)
  whole-write k (set v) node fine p = whole-set k v node fine p
  whole-write k (insert v) node fine p = tt
  whole-write k remove node fine p = tt

  kind-write : (at : Place) (write : Write) (node : Labelled) (k : Kind) → FineIn (bounded n) node → IsPlain (bare node) → WritesPlain write
      → IfOk (kind_written w at write node k) (Goes n node)
  kind-write (place.Whole m) write node k fine plain p = whole-write k write node fine p
  kind-write (place.Prop m name) write (keyed l es) k fine plain p =
      if-provided (model_kind l.kind) [] _ _ (Goes n (keyed l es)) (λ _. property-write l es name write fine plain p)
  kind-write (place.Prop m name) write (leaf v) k fine plain p = tt
  kind-write (place.Prop m name) write (many l bs) k fine plain p = tt
  kind-write (place.Item m i) write (many l bs) k fine plain p =
      if-provided (array_kind l.kind) [] _ _ (Goes n (many l bs)) (λ _. item-write l bs i write fine p)
  kind-write (place.Item m i) write (leaf v) k fine plain p = tt
  kind-write (place.Item m i) write (keyed l es) k fine plain p = tt
  kind-write (place.Key m key) write (keyed l es) k fine plain p =
      if-provided (map_kind l.kind) [] _ _ (Goes n (keyed l es)) (λ _. key-write l es key write fine plain p)
  kind-write (place.Key m key) write (leaf v) k fine plain p = tt
  kind-write (place.Key m key) write (many l bs) k fine plain p = tt

  pub node-write : (at : Place) (write : Write) (node : Labelled) → FineIn (bounded n) node → IsPlain (bare node) → WritesPlain write
      → IfOk (node_written w at write node) (Goes n node)
  node-write at write (leaf v) fine plain p = tt
  node-write at write (many l bs) fine plain p = kind-write at write (many l bs) l.kind fine plain p
  node-write at write (keyed l es) fine plain p = kind-write at write (keyed l es) l.kind fine plain p

-- The patches of writes, of lists and of settling have plain values.
use Rattle.std.proofs.Common.{◌≡◌, ℕ, ◌+◌, List, [], ◌∷◌, ◌++◌, length, map, Bool, true, false, not, Option, Some, None, Ok, IfOk, if◌then◌else◌, refl, sym, subst, ◌∙◌}
use Rattle.std.specs.Prelude.{nat_le, slice_get, unwrap_or, All}
use Rattle.std.proofs.lemmas.List.{map-append}
use Rattle.std.proofs.lemmas.List.Elements.{All-head, All-tail, All-nil, All-cons, All-append}
use Rattle.snap_core.specs.Value.{Value, null, depth_of, IsPlain, ArePlain, ArePlainMembers}
use Rattle.snap_core.specs.View.{view}
use Rattle.snap_core.specs.declared.snap.Snap.{Snap}
use Rattle.std.specs.Option.{option_map}
use Rattle.snap_core.proofs.Views.{view-snap_of}
use Rattle.patch_core.specs.Application as patch
use Rattle.patch_core.specs.Printing.{IsPlainMaybe, HasPlainValues}
use Rattle.patch_core.specs.declared.patch.Patch.{Patch}
use Rattle.pointer_core.specs.Path.{Path}
use Rattle.pointer_core.specs.declared.refusal.Rule.TheVariants.{Fixed, Large}
use Rattle.type_table.specs.Table.{Catalog}
use Rattle.type_core.specs.Making.{Outcome, making, entry_making}
use Rattle.type_core.specs.Sound.{IsSound}
use Rattle.edit_core.specs.declared.kind.Kind.{Kind}
use Rattle.edit_core.specs.declared.kind.Kind.TheVariants as kind
use Rattle.edit_core.specs.Edit.{Turn, Operation, add, remove as remove_part, replace, to_item, to_entry}
use Rattle.edit_core.specs.Labelled.{Label, Labelled, Branches, Entries, leaf, many, keyed, no_branches, branch, no_entries, entry, items_in, entries_in, bare, bare_items, bare_fields}
use Rattle.edit_core.specs.Between.{edits_between}
use Rattle.edit_core.specs.Logged.{LoggedEdit, logged, behind, patch_of_logged}
use Rattle.edit_core.specs.Matching.{by_first, same_item}
use Rattle.edit_core.specs.Plain.{token_of, patch_at}
use Rattle.edit_core.specs.Reconciling.{reconciled, written_as}
use Rattle.edit_core.specs.Template.{Template, template, numbered, entry_at}
use Rattle.edit_core.specs.Typing.{seen, label_of}
use Rattle.edit_core.specs.Ways.{way_to, part_at}
use Rattle.edit_core.proofs.Bare.{bare-numbered, bare-template}
use Rattle.tree_core.specs.declared.place.Place.{Place}
use Rattle.tree_core.specs.declared.place.Place.TheVariants as place
use Rattle.tree_core.specs.Changed.{Changed, outward, placed, as_changed, value_set, one_item_set}
use Rattle.tree_core.specs.Listing.{write_in, acting, place_in, patch_written, patches_written, list_written}
use Rattle.tree_core.specs.Nodes.{may_write, to_key, place_in as place_of_key}
use Rattle.tree_core.specs.Outcome.{◌>>=◌, or_refuse, seen_from}
use Rattle.tree_core.specs.Recorded.{IsTreeOf, after_write, after_list, after_settling, tree_in, with_change}
use Rattle.tree_core.specs.Settling.{Settling, is_loose, item_type as type_of_items, item_removal, item_removals, cleared, behind_cleared, settling_edits, items_settling, entries_settling, settling_in}
use Rattle.tree_core.specs.State.{State, recorded, edits_of, patches_of}
use Rattle.tree_core.specs.TypesTyping.{type_under}
use Rattle.tree_core.specs.Write.{Write, set, insert, remove, WritesPlain}
use Rattle.tree_core.specs.Writing.{Tree, Target, Writing, typing_in, setting, entry_type, entry_path, item_type, item_making, other_identifier, node_making, own_type, entry_set, key_set, is_renaming, property_set, property_in, property_written, key_put, key_written, item_written, whole_set, kind_written, node_written, model_kind, map_kind, array_kind, node_no, name_for, writing_at, place_written, judged, written}
use Rattle.tree_core.proofs.Keys.{held}
use Rattle.tree_core.proofs.Moving.{Stands}
use Rattle.tree_core.proofs.PartFacts.{plain-part}
use Rattle.tree_core.proofs.PlaceKeeping.{way-stands}
use Rattle.tree_core.proofs.WriteKeeping.{bound, if-provided, there, provided-Ok}
use Rattle.tree_laws.proofs.Inside.{if-unfixed}
use Rattle.tree_laws.proofs.Lists.{by-plain}
use Rattle.tree_laws.proofs.PlaceGoing.{from-Ok}
use Rattle.tree_laws.proofs.PlainEdits.{PlainOp, PlainLog, log-plain, logs-joined, between-plain}
use Rattle.tree_laws.proofs.TreeTyped.{IsKept, place-kept}
use Rattle.tree_laws.proofs.WriteGoing.{making-is, entry-making, node-made, seen-Ok}
use Rattle.tree_laws.proofs.Writes.{comes, judged-is}

-- as patches

op-plain : (path : Path) (op : Operation) → PlainOp op → HasPlainValues (patch_at path op)
op-plain path (add new) h = (subst IsPlain (sym (view-snap_of (bare new))) h, tt)
op-plain path (remove_part old) h = (tt, subst IsPlain (sym (view-snap_of (bare old))) h)
op-plain path (replace old new) h = (subst IsPlain (sym (view-snap_of (bare new))) h.1, subst IsPlain (sym (view-snap_of (bare old))) h.0)

pub patches-plain : (es : List LoggedEdit) → PlainLog es → All HasPlainValues (map patch_of_logged es)
patches-plain [] h = All-nil HasPlainValues
patches-plain (e ∷ es) h = All-cons HasPlainValues (patch_of_logged e) (map patch_of_logged es) (op-plain (map token_of e.way) e.operation h.0) (patches-plain es h.1)

-- what a patch with plain values writes
pub value-written : (p : Patch) → HasPlainValues p → IsPlain (patch.written p)
value-written p h = by p.value h.0 where
  by : (o : Option Snap) → IsPlainMaybe o → IsPlain (unwrap_or (option_map view o) null)
  by None g = tt
  by (Some v) g = g

pub values-written : (ps : List Patch) → All HasPlainValues ps → All (λ p. IsPlain (patch.written p)) ps
values-written [] h = All-nil (λ p. IsPlain (patch.written p))
values-written (p ∷ ps) h =
    All-cons (λ q. IsPlain (patch.written q)) p ps (value-written p (All-head HasPlainValues p ps h)) (values-written ps (All-tail HasPlainValues p ps h))

outward-plain : (way : List Turn) (es : List LoggedEdit) → PlainLog es → PlainLog (map (outward way) es)
outward-plain way [] h = tt
outward-plain way (e ∷ es) h = (h.0, outward-plain way es h.1)

-- an entry, and an item, of a plain node

held-plain : (key : List ℕ) (es : Entries Label) (old : Labelled) → ArePlainMembers (bare_fields es) → entry_at key (entries_in es) ≡ Some old → IsPlain (bare old)
held-plain key es old plain h =
    plain-part (to_entry (place_of_key key (entries_in es)) key ∷ []) (keyed (record { number = 0; kind = kind.Map (record { 0 = 0 }) }) es) old (old, held key es old plain h, refl) plain

item-plain : (i : ℕ) (bs : Branches Label) (old : Labelled) → ArePlain (bare_items bs) → slice_get (items_in bs) i ≡ Some old → IsPlain (bare old)
item-plain i bs old plain h =
    plain-part (to_item i ∷ []) (many (record { number = 0; kind = kind.Array (record { 0 = 0 }) }) bs) old (old, h, refl) plain

-- Each write of a node.

abbrev pub Plainly : Changed → Type 0
Plainly c = PlainLog c.edits

placed-plainly : (way : List Turn) (x : Labelled) (c : Changed) → Plainly c → Plainly (placed way x c)
placed-plainly way x c h = outward-plain way c.edits h

module _ (w : Writing) (sound : IsSound w.types) where
  written-plainly : (next : ℕ) (old : Labelled) (new : Template) (v : Value) → bare new ≡ v → IsPlain (bare old) → IsPlain v → Plainly (as_changed (written_as next old new))
  written-plainly next old new v is plain plain-v =
      let y : Labelled = numbered next new in
      log-plain (edits_between old y) (between-plain old y plain (subst IsPlain (sym (bare-numbered next new ∙ is)) plain-v))

  set-plainly : (t : ℕ) (old : Labelled) (made : Value) → IsPlain (bare old) → IsPlain made → Plainly (value_set (typing_in w) (setting t old made w.next))
  set-plainly t old made plain is =
      written-plainly w.next old (template (by_first (typing_in w)) t (Some old) made) made (bare-template (by_first (typing_in w)) t (Some old) made) plain is

  item_set-plainly : (t : ℕ) (old : Labelled) (made : Value) → IsPlain (bare old) → IsPlain made → Plainly (one_item_set (typing_in w) (setting t old made w.next))
  item_set-plainly t old made plain is = by (same_item (typing_in w) t (seen old) made) where
    by : (b : Bool) → Plainly (as_changed (if b then reconciled (by_first (typing_in w)) (setting t old made w.next) else written_as w.next old (template (by_first (typing_in w)) t None made)))
    by true = set-plainly t old made plain is
    by false = written-plainly w.next old (template (by_first (typing_in w)) t None made) made (bare-template (by_first (typing_in w)) t None made) plain is

  entry_set-plainly : (l : Label) (es : Entries Label) (key : List ℕ) (old : Labelled) (made : Value) → IsPlain (bare (keyed l es)) → entry_at key (entries_in es) ≡ Some old → IsPlain made
      → Plainly (entry_set w (record { node = keyed l es; key = key }) old made)
  entry_set-plainly l es key old made plain h is =
      placed-plainly (to_key key (entries_in es) ∷ []) (keyed l es) (value_set (typing_in w) (setting (entry_type w (record { node = keyed l es; key = key })) old made w.next))
      (set-plainly (entry_type w (record { node = keyed l es; key = key })) old made (held-plain key es old plain h) is)

  new-plain : (t : ℕ) (made : Value) → IsPlain made → IsPlain (bare (numbered w.next (template (by_first (typing_in w)) t None made)))
  new-plain t made is = subst IsPlain (sym (bare-numbered w.next (template (by_first (typing_in w)) t None made) ∙ bare-template (by_first (typing_in w)) t None made)) is

  whole-plainly : (k : Kind) (v : Value) (node : Labelled) → IsPlain (bare node) → IsPlain v → IfOk (whole_set w k v node) Plainly
  whole-plainly k v node plain plain-v =
      if-unfixed w.node (other_identifier (typing_in w) k node v) _ Plainly
      (λ fixed. bound (seen_from w.node (node_making w.types k w.type v)) _ Plainly
      (λ made h. set-plainly (own_type w.types k w.type) node made plain (node-made w.types sound k w.type v made plain-v (seen-Ok w.node _ made h)).plain))

  property-plainly : (l : Label) (es : Entries Label) (key : List ℕ) (write : Write) → IsPlain (bare (keyed l es)) → WritesPlain write
      → IfOk (property_written w (record { node = keyed l es; key = key }) write) Plainly
  property-plainly l es key write plain writes =
      bound (or_refuse (entry_at key (entries_in es)) w.named _) _ Plainly (λ old h. by write writes old (there _ w.named _ old h)) where
        set_to : (v : Value) → IsPlain v → (old : Labelled) → entry_at key (entries_in es) ≡ Some old → IfOk (property_set w (record { node = keyed l es; key = key }) old v) Plainly
        set_to v p old h =
            if-provided (not (is_renaming w (record { node = keyed l es; key = key }) (bare old) v)) (entry_path w (record { node = keyed l es; key = key })) Fixed _ Plainly
            (λ _. bound (seen_from (entry_path w (record { node = keyed l es; key = key })) (making w.types (entry_type w (record { node = keyed l es; key = key })) (Some v))) _ Plainly
            (λ made g. entry_set-plainly l es key old made plain h (making-is w.types sound (entry_type w (record { node = keyed l es; key = key })) v made p (seen-Ok _ _ made g)).plain))

        by : (write : Write) → WritesPlain write → (old : Labelled) → entry_at key (entries_in es) ≡ Some old
            → IfOk (property_in w.named write >>= (λ v. property_set w (record { node = keyed l es; key = key }) old v)) Plainly
        by (set v) p old h = set_to v p old h
        by (insert v) p old h = set_to v p old h
        by remove p old h = tt

  put-plainly : (l : Label) (es : Entries Label) (key : List ℕ) (v : Value) → IsPlain (bare (keyed l es)) → IsPlain v
      → IfOk (key_put w (record { node = keyed l es; key = key }) v) Plainly
  put-plainly l es key v plain p =
      bound (seen_from (entry_path w (record { node = keyed l es; key = key })) (entry_making w.types (entry_type w (record { node = keyed l es; key = key })) key v)) _ Plainly
      (λ made g. by made
      (making-is w.types sound (entry_type w (record { node = keyed l es; key = key })) v made p (entry-making w.types (entry_type w (record { node = keyed l es; key = key })) key v made (seen-Ok _ _ made g))).plain
      (entry_at key (entries_in es)) refl) where
        by : (made : Value) → IsPlain made → (o : Option Labelled) → entry_at key (entries_in es) ≡ o → Plainly (key_set w (record { node = keyed l es; key = key }) made o)
        by made is (Some old) h = entry_set-plainly l es key old made plain h is
        by made is None h = (new-plain (entry_type w (record { node = keyed l es; key = key })) made is, tt)

  key-plainly : (l : Label) (es : Entries Label) (key : List ℕ) (write : Write) → IsPlain (bare (keyed l es)) → WritesPlain write
      → IfOk (key_written w (record { node = keyed l es; key = key }) write) Plainly
  key-plainly l es key (set v) plain p = put-plainly l es key v plain p
  key-plainly l es key (insert v) plain p = put-plainly l es key v plain p
  key-plainly l es key remove plain p =
      bound (or_refuse (entry_at key (entries_in es)) w.named _) _ Plainly (λ old h. (held-plain key es old plain (there _ w.named _ old h), tt))

  item-plainly : (l : Label) (bs : Branches Label) (i : ℕ) (write : Write) → IsPlain (bare (many l bs)) → WritesPlain write
      → IfOk (item_written w (record { node = many l bs; index = i }) write) Plainly
  item-plainly l bs i (set v) plain p =
      bound (or_refuse (slice_get (items_in bs) i) w.named _) _ Plainly
      (λ old h. bound (item_making w (record { node = many l bs; index = i }) v) _ Plainly
      (λ made g. placed-plainly (to_item i ∷ []) (many l bs) (one_item_set (typing_in w) (setting (item_type w (record { node = many l bs; index = i })) old made w.next))
      (item_set-plainly (item_type w (record { node = many l bs; index = i })) old made (item-plain i bs old plain (there _ w.named _ old h))
      (making-is w.types sound (item_type w (record { node = many l bs; index = i })) v made p (seen-Ok _ _ made g)).plain)))
  item-plainly l bs i (insert v) plain p =
      if-provided (nat_le i (length (items_in bs))) w.named _ _ Plainly
      (λ short. bound (item_making w (record { node = many l bs; index = i }) v) _ Plainly
      (λ made g. (
        new-plain (item_type w (record { node = many l bs; index = i })) made
            (making-is w.types sound (item_type w (record { node = many l bs; index = i })) v made p (seen-Ok _ _ made g)).plain,
        tt,
      )))
  item-plainly l bs i remove plain p =
      bound (or_refuse (slice_get (items_in bs) i) w.named _) _ Plainly (λ old h. (item-plain i bs old plain (there _ w.named _ old h), tt))

  any-plainly : (at : Place) (write : Write) (node : Labelled) (k : Kind) → IsPlain (bare node) → WritesPlain write → IfOk (kind_written w at write node k) Plainly
  any-plainly (place.Whole n) (set v) node k plain p = whole-plainly k v node plain p
  any-plainly (place.Whole n) (insert v) node k plain p = tt
  any-plainly (place.Whole n) remove node k plain p = tt
  any-plainly (place.Prop n name) write (keyed l es) k plain p = if-provided (model_kind l.kind) [] _ _ Plainly (λ _. property-plainly l es name write plain p)
  any-plainly (place.Prop n name) write (leaf v) k plain p = tt
  any-plainly (place.Prop n name) write (many l bs) k plain p = tt
  any-plainly (place.Item n i) write (many l bs) k plain p = if-provided (array_kind l.kind) [] _ _ Plainly (λ _. item-plainly l bs i write plain p)
  any-plainly (place.Item n i) write (leaf v) k plain p = tt
  any-plainly (place.Item n i) write (keyed l es) k plain p = tt
  any-plainly (place.Key n key) write (keyed l es) k plain p = if-provided (map_kind l.kind) [] _ _ Plainly (λ _. key-plainly l es key write plain p)
  any-plainly (place.Key n key) write (leaf v) k plain p = tt
  any-plainly (place.Key n key) write (many l bs) k plain p = tt

  node-plainly : (at : Place) (write : Write) (node : Labelled) → IsPlain (bare node) → WritesPlain write → IfOk (node_written w at write node) Plainly
  node-plainly at write (leaf v) plain p = tt
  node-plainly at write (many l bs) plain p = any-plainly at write (many l bs) l.kind plain p
  node-plainly at write (keyed l es) plain p = any-plainly at write (keyed l es) l.kind plain p

module _ (types : Catalog) (sound : IsSound types) where
  pub place-plainly : (target : Target) (write : Write) (tree : Tree) → IsPlain (bare tree.root) → WritesPlain write → IfOk (place_written types target write tree) Plainly
  place-plainly target write tree plain p =
      bound (or_refuse (way_to (node_no target.place) tree.root) [] _) _ Plainly
      (λ way e. if-provided (may_write target.running way tree.root) (name_for way target) _ _ Plainly
      (λ _. bound (or_refuse (part_at way tree.root) [] _) _ Plainly
      (λ node g.
      let stands : Stands way tree.root node = way-stands (node_no target.place) tree.root way node (there _ [] _ way e) (there _ [] _ node g) in
      let w : Writing = writing_at types target way tree in
      bound (node_written w target.place write node) _ Plainly
      (λ c k. outward-plain way c.edits (from-Ok (node_written w target.place write node) Plainly c (node-plainly w sound target.place write node (plain-part way tree.root node stands plain) p) k)))))

  list-plainly : (ps : List Patch) (tree : Tree) → IsTreeOf types (record { tree = tree.root; next = tree.next; calls = [] }) → IsPlain (bare tree.root) → All (λ p. IsPlain (patch.written p)) ps
      → (c : Changed) → patches_written types ps tree ≡ Ok c → Plainly c
  list-plainly [] tree typed plain writes c h =
      let same : record { value = tree.root; edits = []; next = tree.next } ≡ c = cc in subst Plainly same tt
  list-plainly (p ∷ ps) tree typed plain writes c h =
      let a = comes (patch_written types p tree) _ c h in
      let at = comes {A = Place} (place_in p tree.root) _ a.from a.first in
      let target : Target = record { running = acting (label_of tree.root); place = at.from; named = Some p.path } in
      let here : WritesPlain (write_in p) = by-plain p.op (patch.written p) (All-head (λ q. IsPlain (patch.written q)) p ps writes) in
      let first : IsKept types a.from = place-kept types sound target (write_in p) tree typed.labelled typed.numbered plain here a.from at.next in
      let rest = provided-Ok (nat_le (depth_of (bare a.from.value)) 64) [] Large (patches_written types ps (record { root = a.from.value; next = a.from.next })
      >>= (λ r. Ok (record { value = r.value; edits = a.from.edits ++ r.edits; next = r.next }))) c a.next in
      let b = comes (patches_written types ps (record { root = a.from.value; next = a.from.next })) _ c rest in
      let later : Plainly b.from =
      list-plainly ps (record { root = a.from.value; next = a.from.next }) (record { labelled = first.labelled; numbered = first.numbered }) first.plain (All-tail (λ q. IsPlain (patch.written q)) p ps writes) b.from b.first in
      let same : record { value = b.from.value; edits = a.from.edits ++ b.from.edits; next = b.from.next } ≡ c = (let e = b.next in cc) in
      subst Plainly same
      (logs-joined a.from.edits b.from.edits (from-Ok (place_written types target (write_in p) tree) Plainly a.from (place-plainly target (write_in p) tree plain here) at.next) later)

-- settling

behind-plain : (turn : Turn) (es : List LoggedEdit) → PlainLog es → PlainLog (map (behind turn) es)
behind-plain turn [] h = tt
behind-plain turn (e ∷ es) h = (h.0, behind-plain turn es h.1)

removal-plain : (b : Bool) (i : ℕ) (x : Labelled) → IsPlain (bare x) → PlainLog (item_removal b i x)
removal-plain true i x h = (h, tt)
removal-plain false i x h = tt

removals-plain : (s : Settling) (t i : ℕ) (bs : Branches Label) → ArePlain (bare_items bs) → PlainLog (item_removals s t i bs)
removals-plain s t i no_branches h = tt
removals-plain s t i (branch x bs) h =
    logs-joined (item_removals s t (i + 1) bs) (item_removal (is_loose s t x) i x) (removals-plain s t (i + 1) bs h.1) (removal-plain (is_loose s t x) i x h.0)

entry-plain : (b : Bool) (kind : Kind) (i : ℕ) (k : List ℕ) (x : Labelled) (es loose tied : List LoggedEdit) → IsPlain (bare x) → PlainLog es → PlainLog loose → PlainLog tied
    → PlainLog (if b then cleared kind i k x ∷ loose else map (behind (to_entry i k)) es ++ tied)
entry-plain true (kind.Map t) i k x es loose tied p q h g = (p, h)
entry-plain true (kind.Model m) i k x es loose tied p q h g = ((p, tt), h)
entry-plain true (kind.Array t) i k x es loose tied p q h g = ((p, tt), h)
entry-plain false kind i k x es loose tied p q h g = logs-joined (map (behind (to_entry i k)) es) tied (behind-plain (to_entry i k) es q) g

mutual
  settling-plainly : (s : Settling) (x : Labelled) → IsPlain (bare x) → PlainLog (settling_edits s x)
  settling-plainly s (leaf v) h = tt
  settling-plainly s (many l bs) h = logs-joined (items_settling s 0 bs) (item_removals s (type_of_items l.kind) 0 bs) (items-plainly s 0 bs h) (removals-plain s (type_of_items l.kind) 0 bs h)
  settling-plainly s (keyed l es) h = entries-plainly s l.kind 0 es h

  items-plainly : (s : Settling) (i : ℕ) (bs : Branches Label) → ArePlain (bare_items bs) → PlainLog (items_settling s i bs)
  items-plainly s i no_branches h = tt
  items-plainly s i (branch x bs) h =
      logs-joined (map (behind (to_item i)) (settling_edits s x)) (items_settling s (i + 1) bs) (behind-plain (to_item i) (settling_edits s x) (settling-plainly s x h.0)) (items-plainly s (i + 1) bs h.1)

  entries-plainly : (s : Settling) (kind : Kind) (i : ℕ) (es : Entries Label) → ArePlainMembers (bare_fields es) → PlainLog (entries_settling s kind i es)
  entries-plainly s kind i no_entries h = tt
  entries-plainly s kind i (entry k x es) h =
      entry-plain (is_loose s (type_under s.table kind k) x) kind i k x (settling_edits s x) (entries_settling s kind (behind_cleared kind i) es) (entries_settling s kind (i + 1) es)
      h.0 (settling-plainly s x h.0) (entries-plainly s kind (behind_cleared kind i) es h.2) (entries-plainly s kind (i + 1) es h.2)

-- recorded

pub recorded-patches : (s : State) (x : Labelled) (es : List LoggedEdit) (next : ℕ) → All HasPlainValues (patches_of s) → PlainLog es → All HasPlainValues (patches_of (recorded x es next s))
recorded-patches s x [] next before h = before
recorded-patches s x (e ∷ es) next before h =
    subst (All HasPlainValues) (sym (map-append patch_of_logged (edits_of s.calls) (e ∷ es)))
    (All-append HasPlainValues (patches_of s) (map patch_of_logged (e ∷ es)) before (patches-plain (e ∷ es) h))

module _ (types : Catalog) (sound : IsSound types) where
  pub write-patches : (target : Target) (write : Write) (before after : State) → IsPlain (bare before.tree) → WritesPlain write → All HasPlainValues (patches_of before)
      → after_write types target write before ≡ Ok after → All HasPlainValues (patches_of after)
  write-patches target write before after plain writes logged h =
      let c = comes (written types target write (tree_in before)) _ after h in
      let p = comes (place_written types target write (tree_in before)) (judged types) c.from c.first in
      let plainly : Plainly c.from = subst Plainly (judged-is types p.from c.from p.next).same
      (from-Ok (place_written types target write (tree_in before)) Plainly p.from (place-plainly types sound target write (tree_in before) plain writes) p.first) in
      let is : with_change c.from before ≡ after = (let e : ◌≡◌ {A = Outcome State} (Ok (with_change c.from before)) (Ok after) = c.next in cc) in
      let P : State → Type 0 = λ s. All HasPlainValues (patches_of s) in
      subst P is (recorded-patches before c.from.value c.from.edits c.from.next logged plainly)

  pub list-patches : (ps : List Patch) (before after : State) → IsTreeOf types before → IsPlain (bare before.tree) → All (λ p. IsPlain (patch.written p)) ps → All HasPlainValues (patches_of before)
      → after_list types ps before ≡ Ok after → All HasPlainValues (patches_of after)
  list-patches ps before after tree plain writes logged h =
      let c = comes (list_written types ps (tree_in before)) _ after h in
      let p = comes (patches_written types ps (tree_in before)) (judged types) c.from c.first in
      let plainly : Plainly c.from = subst Plainly (judged-is types p.from c.from p.next).same
      (list-plainly types sound ps (tree_in before) (record { labelled = tree.labelled; numbered = tree.numbered }) plain writes p.from p.first) in
      let is : with_change c.from before ≡ after = (let e : ◌≡◌ {A = Outcome State} (Ok (with_change c.from before)) (Ok after) = c.next in cc) in
      let P : State → Type 0 = λ s. All HasPlainValues (patches_of s) in
      subst P is (recorded-patches before c.from.value c.from.edits c.from.next logged plainly)

pub settling-patches : (types : Catalog) (s : State) → IsPlain (bare s.tree) → All HasPlainValues (patches_of s) → All HasPlainValues (patches_of (after_settling types s))
settling-patches types s plain logged = recorded-patches s _ (settling_edits (settling_in types s.tree) s.tree) s.next logged (settling-plainly (settling_in types s.tree) s.tree plain)

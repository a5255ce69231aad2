-- The place of an edit is in a node, also after it.
use Rattle.std.proofs.Common.{◌≡◌, ℕ, ◌<◌, ◌^◌, List, [], ◌∷◌, ◌++◌, length, false, Option, Some, None, decimal, length-append, refl, sym, ap, subst, ◌∙◌, arith}
use Rattle.std.specs.Prelude.{slice_get, option_and_then, if◌then◌else◌}
use Rattle.std.specs.Option.{option_map}
use Rattle.std.specs.Str.{bytes_eq}
use Rattle.std.proofs.lemmas.Slice.Eq.{bytes_eq-Decides}
use Rattle.snap_core.specs.Value.{IsPlain}
use Rattle.snap_core.proofs.Finding.{bytes_eq-Less}
use Rattle.pointer_core.specs.Path.{Path}
use Rattle.pointer_core.proofs.Indices.{index_of_decimal}
use Rattle.patch_core.specs.Place.{index_below}
use Rattle.edit_core.specs.Labelled.{Label, Labelled, Entry, many, keyed, branches, entries, items_in, entries_in, bare}
use Rattle.edit_core.specs.Edit.{Edit, Turn, Change, whole, within, to_item}
use Rattle.edit_core.specs.Plain.{token_of, place_token, path_to}
use Rattle.edit_core.specs.Template.{entry_at}
use Rattle.edit_core.specs.Ways.{part_at}
use Rattle.edit_core.proofs.Ascending.{Ascend, after-rest, spelled}
use Rattle.edit_core.proofs.Leading.{LeadsIn, replaced, one_item, one_entry, in_item, in_entry}
use Rattle.edit_core.proofs.Logged.{items-in, entries-in}
use Rattle.tree_core.specs.Nodes.{to_key, place_in}
use Rattle.tree_core.specs.Listing.{Named, named_below, named_by}
use Rattle.tree_core.specs.Reading.{way_along}
use Rattle.tree_core.proofs.Keys.{held}
use Rattle.tree_core.proofs.PartFacts.{plain-part}
use Rattle.restoring_laws.specs.Places.{holder_of, IsNode}
use Rattle.restoring_laws.proofs.Found.{There, below}

-- the part that holds a named place
abbrev holder_by : Named → Labelled → Option Labelled
holder_by named root = option_and_then (λ way. part_at way root) (way_along named.holder root)

-- one token further out, what holds the place is the same
abbrev Outer : List ℕ → Labelled → Labelled → Type 0
Outer token node part = (path : Path) → option_and_then (λ way. part_at way node) (way_along (token ∷ path) node) ≡ option_and_then (λ way. part_at way part) (way_along path part)

item-found : (before after : List Labelled) (x : Labelled) → slice_get (items_in (branches (before ++ x ∷ after))) (length before) ≡ Some x
item-found [] after x = refl
item-found (b ∷ before) after x = item-found before after x

outer-item : (l : Label) (before after : List Labelled) (x : Labelled) → length before < 2 ^ 32 → Outer (decimal (length before)) (many l (branches (before ++ x ∷ after))) x
outer-item l before after x short path =
    let node : Labelled = many l (branches (before ++ x ∷ after)) in
    let count : length (items_in (branches (before ++ x ∷ after))) ≡ length (before ++ x ∷ after) = ap length (items-in (before ++ x ∷ after)) in
    let index : index_below (length (items_in (branches (before ++ x ∷ after)))) (decimal (length before)) ≡ Some (length before) =
    below (length before) (length (items_in (branches (before ++ x ∷ after)))) (decimal (length before)) (index_of_decimal (length before) short)
    (omega (arith, count, length-append before (x ∷ after))) in
    let Next : ℕ → Labelled → Option (List Turn) = λ i part. option_map (λ way. to_item i ∷ way) (way_along path part) in
    let At : Option (List Turn) → Option Labelled = λ o. option_and_then (λ way. part_at way node) o in
    ap (λ o. At (option_and_then (λ i. option_and_then (Next i) (slice_get (items_in (branches (before ++ x ∷ after))) i)) o)) index
    ∙ ap (λ o. At (option_and_then (Next (length before)) o)) (item-found before after x) ∙ by (way_along path x) where
      by : (o : Option (List Turn)) → option_and_then (λ way. part_at way (many l (branches (before ++ x ∷ after)))) (option_map (λ way. to_item (length before) ∷ way) o)
          ≡ option_and_then (λ way. part_at way x) o
      by (Some way) = ap (option_and_then (part_at way)) (item-found before after x)
      by None = refl

entry-found : (before after : List Entry) (key : List ℕ) (x : Labelled) → Ascend (before ++ (key, x) ∷ after) → entry_at key (before ++ (key, x) ∷ after) ≡ Some x
entry-found [] after key x ascends = rw ((bytes_eq-Decides key key).1 refl) refl
entry-found (b ∷ before) after key x ascends =
    let other : bytes_eq key b.0 ≡ false = bytes_eq-Less key b.0 (after-rest b.0 before ((key, x) ∷ after) ascends.0).0 in
    ap (λ t. if t then Some b.1 else entry_at key (before ++ (key, x) ∷ after)) other ∙ entry-found before after key x ascends.1

outer-entry : (l : Label) (before after : List Entry) (key : List ℕ) (x : Labelled) → Ascend (before ++ (key, x) ∷ after)
    → IsPlain (bare (keyed l (entries (before ++ (key, x) ∷ after)))) → Outer key (keyed l (entries (before ++ (key, x) ∷ after))) x
outer-entry l before after key x ascends plain path =
    let turn : Turn = to_key key (entries_in (entries (before ++ (key, x) ∷ after))) in
    ap (λ o. option_and_then (λ way. part_at way (keyed l (entries (before ++ (key, x) ∷ after)))) (option_and_then (λ part. option_map (λ way. turn ∷ way) (way_along path part)) o)) found
    ∙ by (way_along path x) where
      found : entry_at key (entries_in (entries (before ++ (key, x) ∷ after))) ≡ Some x
      found = ap (entry_at key) (entries-in (before ++ (key, x) ∷ after)) ∙ entry-found before after key x ascends

      stands : slice_get (entries_in (entries (before ++ (key, x) ∷ after))) (place_in key (entries_in (entries (before ++ (key, x) ∷ after)))) ≡ Some (key, x)
      stands = held key (entries (before ++ (key, x) ∷ after)) x plain found

      by : (o : Option (List Turn)) → option_and_then (λ way. part_at way (keyed l (entries (before ++ (key, x) ∷ after))))
          (option_map (λ way. to_key key (entries_in (entries (before ++ (key, x) ∷ after))) ∷ way) o) ≡ option_and_then (λ way. part_at way x) o
      by (Some way) = ap (λ o. option_and_then (part_at way) (option_map (λ e. e.1) o)) stands
      by None = refl

-- the path of a change isn't empty
named-there : (path : Path) (token : List ℕ) → There (named_by (token ∷ path))
named-there path token = by (named_by path) where
  by : (o : Option Named) → There (named_below token o)
  by (Some n) = record { of = _; is = refl }
  by None = record { of = _; is = refl }

path-named : (way : List Turn) (change : Change) → There (named_by (path_to way change))
path-named [] change = named-there [] (place_token change)
path-named (turn ∷ way) change = named-there (path_to way change) (token_of turn)

-- so one token further out, its place is in a node too
further-out : (token : List ℕ) (node part : Labelled) (way : List Turn) (change : Change) → Outer token node part → IsNode (holder_of (path_to way change) part)
    → IsNode (holder_of (token ∷ path_to way change) node)
further-out token node part way change outer inner =
    let named = path-named way change in
    let there : holder_of (path_to way change) part ≡ holder_by named.of part = ap (option_and_then (λ (n : Named). holder_by n part)) named.is in
    let here : holder_of (token ∷ path_to way change) node ≡ holder_by (record { holder = token ∷ named.of.holder; token = named.of.token }) node =
    ap (λ o. option_and_then (λ (n : Named). holder_by n node) (named_below token o)) named.is in
    subst IsNode (sym (here ∙ outer named.of.holder ∙ sym there)) inner

-- the place of an edit is in a node
abbrev pub HasNode : Edit → Labelled → Type 0
HasNode (whole old new) y = Unit {0}
HasNode (within way change) y = IsNode (holder_of (path_to way change) y)

pub has-node : (x y : Labelled) (e : Edit) → LeadsIn spelled x e y → IsPlain (bare y) → HasNode e y
has-node x y e (replaced old new) plain = tt
has-node x y e (one_item l before after op i) plain = tt
has-node x y e (one_entry l before after key op p q) plain = tt
has-node x y e (in_item l before after v w way change i lead) plain =
    let node : Labelled = many l (branches (before ++ w ∷ after)) in
    let inner : IsPlain (bare w) = plain-part (to_item (length before) ∷ []) node w (w, item-found before after w, refl) plain in
    further-out (decimal (length before)) node w way change (outer-item l before after w i) (has-node v w (within way change) lead inner)
has-node x y e (in_entry l before after key v w way change p lead) plain =
    let node : Labelled = keyed l (entries (before ++ (key, w) ∷ after)) in
    let ascends : Ascend (before ++ (key, w) ∷ after) = spelled.other before after key v w p in
    let found : entry_at key (entries_in (entries (before ++ (key, w) ∷ after))) ≡ Some w = ap (entry_at key) (entries-in (before ++ (key, w) ∷ after)) ∙ entry-found before after key w ascends in
    let inner : IsPlain (bare w) = plain-part (to_key key (entries_in (entries (before ++ (key, w) ∷ after))) ∷ []) node w (w, held key (entries (before ++ (key, w) ∷ after)) w plain found, refl) plain in
    further-out key node w way change (outer-entry l before after key w ascends plain) (has-node v w (within way change) lead inner)

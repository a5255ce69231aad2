-- Patches that are put back keep what changes keep.
use Rattle.std.proofs.Common.{◌≡◌, ℕ, ◌≤◌, List, [], ◌∷◌, All, Option, Some, None, Ok, Err, Result, IfOk, refl, sym, ap, subst, ◌∙◌}
use Rattle.std.specs.Prelude.{unwrap_or}
use Rattle.std.specs.Option.{option_map, option_and_then}
use Rattle.snap_core.specs.Value.{IsPlain}
use Rattle.patch_core.specs.Application.{written}
use Rattle.patch_core.specs.Printing.{HasPlainValues}
use Rattle.patch_core.specs.declared.patch.Patch.{Patch}
use Rattle.type_table.specs.Table.{Catalog}
use Rattle.edit_core.specs.Labelled.{Labelled, bare}
use Rattle.edit_core.specs.Edit.{Turn}
use Rattle.edit_core.specs.Numbers.{AreNumbered}
use Rattle.edit_core.specs.Ways.{part_at}
use Rattle.tree_core.specs.Reading.{way_along}
use Rattle.tree_core.specs.Listing.{Named, named_by}
use Rattle.tree_core.specs.Changed.{Changed, placed}
use Rattle.tree_core.specs.Writing.{Tree}
use Rattle.tree_core.proofs.Moving.{Stands}
use Rattle.tree_core.proofs.PartFacts.{plain-part}
use Rattle.tree_core.proofs.Keeping.{Keeps, keeps-placed, part-numbered, numbered-again}
use Rattle.tree_lists.specs.Folding.{tree_after, and_then}
use Rattle.tree_lists.specs.Restoring.{Restoring, putting_at, node_restored, restored_along, restored_by, one_restored, unchanged, restored}
use Rattle.tree_lists.proofs.Keeping.{keeps-joined, keeps-none, plain-written, all-behind, all-first}
use Rattle.tree_lists.proofs.Spots.{came, came-map, some-one, at-node, along-stands}

module _ (r : Restoring) (values : HasPlainValues r.patch) (numbered : AreNumbered r.tree.next r.tree.root) (plain : IsPlain (bare r.tree.root)) where
  along-keeps : (token : List ℕ) (path : List (List ℕ)) (way : List Turn) → way_along path r.tree.root ≡ Some way
      → (c : Changed) → restored_along r token way ≡ Some c → Keeps r.tree.next r.tree.root c
  along-keeps token path way along c h =
      let node = came (part_at way r.tree.root) (λ node. option_map (placed way r.tree.root) (node_restored (putting_at r node) token r.patch)) c h in
      let inner = came-map (node_restored (putting_at r node.of) token r.patch) (placed way r.tree.root) c node.gives in
      let stands : Stands way r.tree.root node.of = along-stands path r.tree.root way node.of plain along node.is in
      subst (Keeps r.tree.next r.tree.root) (some-one _ c inner.gives)
      (keeps-placed way r.tree.next r.tree.root node.of inner.of stands numbered plain
      (at-node r.types r.tree.next (written r.patch) (plain-written r.patch values) r.patch.op token node.of
      (part-numbered way r.tree.next r.tree.root node.of stands numbered) (plain-part way r.tree.root node.of stands plain) inner.of inner.is))

  one-keeps : (c : Changed) → one_restored r ≡ Some c → Keeps r.tree.next r.tree.root c
  one-keeps c h =
      let named = came (named_by r.patch.path) (restored_by r) c h in
      let way = came (way_along named.of.holder r.tree.root) (restored_along r named.of.token) c named.gives in
      along-keeps named.of.token named.of.holder way.of way.is c way.gives

  pub first-keeps : Keeps r.tree.next r.tree.root (unwrap_or (one_restored r) (unchanged r.tree))
  first-keeps = by (one_restored r) (λ c e. one-keeps c e) where
    by : (o : Option Changed) → ((c : Changed) → o ≡ Some c → Keeps r.tree.next r.tree.root c) → Keeps r.tree.next r.tree.root (unwrap_or o (unchanged r.tree))
    by (Some c) h = h c refl
    by None h = keeps-none r.tree.next r.tree.root numbered plain

pub restored-keeps : (types : Catalog) (ps : List Patch) (tree : Tree) → All HasPlainValues ps → AreNumbered tree.next tree.root → IsPlain (bare tree.root)
    → Keeps tree.next tree.root (restored types ps tree)
restored-keeps types [] tree values numbered plain = keeps-none tree.next tree.root numbered plain
restored-keeps types (p ∷ ps) tree values numbered plain =
    let r : Restoring = record { types = types; tree = tree; patch = p } in
    let first : Changed = unwrap_or (one_restored r) (unchanged tree) in
    let kept : Keeps tree.next tree.root first = first-keeps r (all-first HasPlainValues p ps values) numbered plain in
    keeps-joined tree.next tree.root first (restored types ps (tree_after first)) kept
    (restored-keeps types ps (tree_after first) (all-behind HasPlainValues p ps values) (numbered-again tree.next tree.root first numbered kept) kept.plain)

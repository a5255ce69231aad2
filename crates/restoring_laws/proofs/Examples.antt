-- Places in a frozen value and beside it, computed on a map whose value under `f` is frozen.
use Rattle.std.proofs.Common.{◌≡◌, [], ◌∷◌, None, Some, pos, refl, sym, ap, arith}
use Rattle.std.specs.Prelude.{codes}
use Rattle.snap_core.specs.Value.{Value, integer, dict, no_members, member}
use Rattle.snap_core.proofs.Views.{view-snap_of}
use Rattle.patch_core.specs.Fits.{Fits}
use Rattle.patch_core.specs.declared.patch.Patch.{Patch}
use Rattle.type_table.specs.Table.{Catalog}
use Rattle.edit_core.specs.declared.kind.Kind.TheVariants.{Map}
use Rattle.edit_core.specs.Labelled.{Labelled, leaf, keyed, no_entries, entry, bare}
use Rattle.edit_core.specs.Rules.{removed}
use Rattle.tree_lists.specs.Restoring.{one_restored, after_restoring}
use Rattle.tree_core.specs.State.{State}
use Rattle.restoring_laws.specs.Laws.{IsCounted}
use Rattle.restoring_laws.specs.Places.{holder_of, IsNode}

abbrev frozen : Value
frozen = dict tt (member (codes "x") (integer (pos 1)) no_members)

abbrev root : Labelled
root = keyed (record { number = 0; kind = Map (record { 0 = 0 }) }) (entry (codes "f") (leaf frozen) no_entries)

abbrev into_frozen : Patch
into_frozen = removed (codes "f" ∷ codes "x" ∷ []) (integer (pos 1))

-- the patch fits the snapshot
it-fits : Fits into_frozen (bare root)
it-fits = (tt, (frozen, refl, ap Some (sym (view-snap_of (integer (pos 1))))))

-- but its place is in no node, and putting it back changes nothing
in-no-node : IsNode (holder_of into_frozen.path root) → ⊥
in-no-node h = h

changes-nothing : (types : Catalog) → one_restored (record { types = types; tree = record { root = root; next = 1 }; patch = into_frozen }) ≡ None
changes-nothing types = refl

-- the frozen value itself stands in a node
in-the-map : IsNode (holder_of (codes "f" ∷ []) root)
in-the-map = tt

-- taken out, it is gone, and the log grows by the one patch
abbrev taking_out : Patch
taking_out = removed (codes "f" ∷ []) frozen

abbrev before : State
before = record { tree = root; next = 1; calls = [] }

taken-out : (types : Catalog) → (after_restoring types (taking_out ∷ []) before).tree ≡ keyed (record { number = 0; kind = Map (record { 0 = 0 }) }) no_entries
taken-out types = refl

counted : (types : Catalog) → IsCounted types (taking_out ∷ []) before
counted types = refl

-- and not by the one that changes nothing
not-counted : (types : Catalog) → IsCounted types (into_frozen ∷ []) before → ⊥
not-counted types h = absurd (omega (arith, h))

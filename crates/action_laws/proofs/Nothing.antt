-- A failed atomic action leaves nothing, settling included.
use Rattle.std.proofs.Common.{◌≡◌, sym, ap, subst, ◌∙◌}
use Rattle.edit_core.specs.Labelled.{Labelled}
use Rattle.tree_core.specs.State.{State as Tree, Calls}
use Rattle.tree_laws.specs.Tied.{IsSettled}
use Rattle.live_tree.specs.Laws.{given_back}
use Rattle.action_core.specs.Calling.{called}
use Rattle.action_core.proofs.Failing.{failed-atomics}
use Rattle.action_laws.specs.Laws.{SettledTreesStay, FailedAtomicsAreNothing}
use Rattle.action_laws.proofs.Settled.{settled-stays}

pub settled-trees-stay : SettledTreesStay
settled-trees-stay = settled-stays

-- a tree with another's snapshot and kept edits
again : (before after : Tree) → after.tree ≡ before.tree → after.calls ≡ before.calls → after ≡ given_back before after
again before after e f =
    ap (λ (x : Labelled). record { tree = x; next = after.next; calls = after.calls }) e ∙ ap (λ (calls : Calls). record { tree = before.tree; next = after.next; calls = calls }) f

pub failed-nothing : FailedAtomicsAreNothing
failed-nothing behaving room running callee s settled has err =
    let after : Tree = (called behaving room running callee s).state.tree in
    let back = failed-atomics behaving room running callee s has err in
    settled-stays behaving.types after (subst (IsSettled behaving.types) (sym back.snapshot) settled) ∙ again s.tree after back.snapshot back.kept

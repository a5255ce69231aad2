use Rattle.std.proofs.Common.{◌≡◌, Bool, false, IsTrue, ◌↔◌, refl, sym, ◌∙◌}
use Rattle.type_draft.proofs.Drafts.{first_name, first_identifier, first_target, first_union, IsFaultless-type}
use Rattle.type_draft.proofs.faults.check_type.Goals as goal

-- what a test that is false tells
told : (test : Bool) (P : Type 0) → IsTrue test ↔ P → test ≡ false → ¬ P
told test P says failed p = let yes = says.1 p in cc

pub returns-then-branch-clause-wrong : goal.returns-then-branch-clause-wrong
returns-then-branch-clause-wrong c = (refl, first_name c.args.table.now c.args.t.0 (c.in_ok-leads_back.ensures.0 c.if-branch.true))

pub returns-then-is_misplaced-clause-wrong : goal.returns-then-is_misplaced-clause-wrong
returns-then-is_misplaced-clause-wrong c = (
  refl,
  first_identifier c.args.table.now c.args.t.0 (told _ _ c.in_ok-leads_back.ensures c.if-branch.false) (sym c.is_misplaced.ensures ∙ c.if-is_misplaced.true),
)

pub returns-then-misleads-clause-wrong : goal.returns-then-misleads-clause-wrong
returns-then-misleads-clause-wrong c = (
  refl,
  first_target c.args.table.now c.args.t.0 (told _ _ c.in_ok-leads_back.ensures c.if-branch.false) (sym c.is_misplaced.ensures ∙ c.if-is_misplaced.false)
      (sym c.misleads.ensures ∙ c.if-misleads.true),
)

pub returns-then-not-branch-clause-wrong : goal.returns-then-not-branch-clause-wrong
returns-then-not-branch-clause-wrong c = (
  refl,
  first_union c.args.table.now c.args.t.0 (told _ _ c.in_ok-leads_back.ensures c.if-branch.false) (sym c.is_misplaced.ensures ∙ c.if-is_misplaced.false)
      (sym c.misleads.ensures ∙ c.if-misleads.false) (rw c.if-not-branch.true at c.in_ok-is_apart.ensures),
)

pub returns-clause-ok : goal.returns-clause-ok
returns-clause-ok c =
    IsFaultless-type c.args.table.now c.args.t.0 (told _ _ c.in_ok-leads_back.ensures c.if-branch.false) (sym c.is_misplaced.ensures ∙ c.if-is_misplaced.false)
    (sym c.misleads.ensures ∙ c.if-misleads.false) (rw c.if-not-branch.false at c.in_ok-is_apart.ensures)

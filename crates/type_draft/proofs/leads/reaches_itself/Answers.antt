use Rattle.std.proofs.Common.{◌≡◌, true, false, arith, rules}
use Rattle.type_draft.proofs.Loops.{leads_within, IsReach-step, IsReach-back, IsReach-end}
use Rattle.type_draft.proofs.leads.reaches_itself.Goals as goal

pub returns-then-is_among : goal.returns-then-is_among
returns-then-is_among c = (
  λ e. IsReach-back c.args.table.now c.args.t.0 c.loop-at.at c.loop-at.marks.items c.loop-at.reached.items c.index.result.now c.loop-at.invariant
      (omega (arith, c.loop-at.reached.ok.0)) c.index.ensures ((rw c.leads_at-leads.ensures at c.if-is_among.ensures).0 e),
  λ _. search rules,
)

pub reach_each-requires-clause-known : goal.reach_each-requires-clause-known
reach_each-requires-clause-known c =
    rw c.leads_at-leads.ensures (λ k d h. omega (arith, leads_within c.args.table.now c.index.result.now.0 c.requires.known k d h, c.loop-at.invariant.count, c.loop-at.marks.ok.0))

pub loop-at-preserved : goal.loop-at-preserved
loop-at-preserved c =
    IsReach-step c.args.table.now c.args.t.0 c.loop-at.at c.loop-at.marks.items c.loop-at.reached.items _ _ c.index.result.now c.requires.known c.loop-at.invariant
    (omega (arith, c.loop-at.reached.ok.0)) c.index.ensures (λ back. let no : false ≡ true = (rw c.leads_at-leads.ensures at c.if-is_among.ensures).1 back in cc) (rw c.leads_at-leads.ensures at c.in_ok-reach_each.ensures)

pub returns : goal.returns
returns c = (
  λ e. let no : false ≡ true = e in cc,
  λ back. absurd (IsReach-end c.args.table.now c.args.t.0 c.loop-at.at c.loop-at.marks.items c.loop-at.reached.items c.loop-at.invariant
      (omega (arith, c.loop-at.reached.ok.0)) back),
)

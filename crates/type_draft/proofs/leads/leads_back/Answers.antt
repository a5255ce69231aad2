use Rattle.std.proofs.Common.{◌≡◌, true, false, rules}
use Rattle.type_draft.proofs.LevelLemmas.{not_back}
use Rattle.type_draft.proofs.leads.leads_back.Goals as goal

pub returns-then-is_above : goal.returns-then-is_above
returns-then-is_above c = (
  λ e. let no : false ≡ true = e in cc,
  λ back. absurd (not_back c.args.table.now c.args.levels.now c.args.t.0 c.requires.levels (c.if-is_above.ensures.0 (search rules)) back),
)

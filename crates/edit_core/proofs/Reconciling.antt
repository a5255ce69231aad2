-- Reconciling leads to the value that is set.
use Rattle.std.proofs.Common.{Some, ◌∙◌}
use Rattle.edit_core.specs.Typing.{Rules}
use Rattle.edit_core.specs.Template.{template, numbered}
use Rattle.edit_core.specs.Reconciling.{Setting, reconciled}
use Rattle.edit_core.specs.Laws.{LeadsToTheNew}
use Rattle.edit_core.proofs.Between.{between-runs}
use Rattle.edit_core.proofs.Bare.{bare-template, bare-numbered}

pub reconciled-leads : (r : Rules) (s : Setting) → LeadsToTheNew s (reconciled r s)
reconciled-leads r s = record {
  leads = between-runs s.old (numbered s.next (template r s.type (Some s.old) s.new));
  given = bare-numbered s.next (template r s.type (Some s.old) s.new) ∙ bare-template r s.type (Some s.old) s.new;
}

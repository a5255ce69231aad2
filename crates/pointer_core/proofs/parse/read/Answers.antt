-- A text without a fault that doesn't begin with a `/` is the root's.
use Rattle.std.proofs.Common.{sym, ap, ◌∙◌}
use Rattle.pointer_core.specs.Path.{printed}
use Rattle.pointer_core.proofs.Tildes.{empty_without_slash}
use Rattle.pointer_core.proofs.parse.read.Goals as goal

pub returns-in-None : goal.returns-in-None
returns-in-None c =
    ap printed c.new.ensures ∙ sym (empty_without_slash c.args.text.now c.requires c.in-None.ensures.cases)

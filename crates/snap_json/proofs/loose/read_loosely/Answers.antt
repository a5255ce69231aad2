use Rattle.std.proofs.Common.{Some, sym, ap, ◌∙◌}
use Rattle.serde_json.specs.Errors.{IsMemory}
use Rattle.serde_json.specs.View.{view as data_view}
use Rattle.snap_core.specs.View.{view}
use Rattle.snap_json.proofs.Loosenings.{loosely-utf8, loosely-refused, loosely-ordered}
use Rattle.snap_json.proofs.loose.read_loosely.Goals as goal

pub returns-in_ok-loosened-in-Ok-clause-value : goal.returns-in_ok-loosened-in-Ok-clause-value
returns-in_ok-loosened-in-Ok-clause-value c =
    let is = c.in-Ok.ensures.ok in
    ap Some c.in_ok-loosened-in-Ok.ensures ∙ sym (loosely-utf8 c.args.bytes.now (data_view c.in-Ok.value) is.0 is.1)

pub returns-in_ok-loosened-in-Ok-clause-ordered : goal.returns-in_ok-loosened-in-Ok-clause-ordered
returns-in_ok-loosened-in-Ok-clause-ordered c = loosely-ordered c.args.bytes.now (data_view c.in-Ok.value) (view c.in_ok-loosened-in-Ok.field-0) c.in-Ok.ensures.ok.1 c.in_ok-loosened-in-Ok.ensures

pub returns-in-Err-2-clause-value : goal.returns-in-Err-2-clause-value
returns-in-Err-2-clause-value c =
    let had_memory : ¬ IsMemory c.in-Err.error = λ ran_out. cc (c.is_memory.ensures.1 ran_out, c.if-is_memory.false) in
    sym (loosely-refused c.args.bytes.now (c.in-Err.ensures.err had_memory))

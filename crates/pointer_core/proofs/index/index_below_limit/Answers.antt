-- What `parse` makes of a numeral is its index.
use Rattle.std.proofs.Common.{sym, ap, ◌∙◌}
use Rattle.pointer_core.specs.Index.{is_numeral}
use Rattle.pointer_core.proofs.Indices.{parsed}
use Rattle.pointer_core.proofs.index.index_below_limit.Goals as goal

pub returns-then-is_numeral : goal.returns-then-is_numeral
returns-then-is_numeral c =
    c.ok.ensures.value ∙ parsed c.args.token.now c.parse.result c.parse.ensures.value.0 (ap is_numeral (sym c.as_bytes.ensures.value) ∙ sym c.is_numeral.ensures ∙ c.if-is_numeral.true)

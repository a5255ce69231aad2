use Rattle.std.proofs.Common.{◌||◌, ap, ◌∙◌, sym}
use Rattle.snap_core.specs.View.{view}
use Rattle.type_table.specs.Unions.{is_same}
use Rattle.type_table.proofs.ApartLemmas.{AddsLiteral-new, AddsLiteral-old}
use Rattle.type_table.proofs.tags.add_unless_there.Goals as goal

pub returns-then-has : goal.returns-then-has
returns-then-has c = λ others known.
    AddsLiteral-old c.args.literals.now _ (view c.args.literal.now) others known (sym c.has.ensures ∙ c.if-has.true)

pub returns : goal.returns
returns c = λ others known.
    AddsLiteral-new c.args.literals.now _ (view c.args.literal.now) others known (sym c.has.ensures ∙ c.if-has.false)
    (λ v. c.in_ok-insert.ensures v ∙ ap (λ b. is_same v (view c.args.literal.now) || b) (known v))

use Rattle.std.proofs.Common.{not, ◌∙◌, ap}
use Rattle.schema_form.proofs.Texts.{AreTexts-more}
use Rattle.schema_form.proofs.enumerations.is_new.Goals as goal

pub returns : goal.returns
returns c = λ seen are. (
  c.in_ok-insert.ensures.added ∙ ap not (are c.args.text),
  AreTexts-more c.args.earlier.now c.insert.new.self seen c.args.text are c.in_ok-insert.ensures.updates,
)

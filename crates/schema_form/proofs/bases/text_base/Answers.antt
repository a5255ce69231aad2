use Rattle.std.proofs.Common.{sym, ◌∙◌}
use Rattle.snap_core.specs.View.{fields_view}
use Rattle.schema_form.proofs.Linking.{known_base-word, base_of-unknown}
use Rattle.schema_form.proofs.bases.text_base.Goals as goal

pub returns-in-Some : goal.returns-in-Some
returns-in-Some c = c.base_of.ensures ∙ known_base-word c.args.types.now c.args.bases.now c.args.text.now c.in-Some.word c.requires.bases (sym c.in-Some.ensures)

pub returns-in-None : goal.returns-in-None
returns-in-None c = sym (base_of-unknown (fields_view c.args.types.now) c.args.text.now c.in-None.ensures)

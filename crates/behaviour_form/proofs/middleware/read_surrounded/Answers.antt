use Rattle.std.proofs.Common.{List, ℕ, sym, ◌∙◌, ap}
use Rattle.snap_core.specs.View.{view, items_view}
use Rattle.snap_core.proofs.Views.{view-List}
use Rattle.expr_form.specs.Outcome.{made}
use Rattle.expr_form.proofs.Telling.{tells-same, tells-made}
use Rattle.model_syntax.specs.declared.behaviour.Surrounded.{Surrounded}
use Rattle.model_syntax.specs.declared.behaviour.Surrounded.TheVariants.{Named}
use Rattle.behaviour_form.specs.Middleware.{names_read, surrounded_read}
use Rattle.behaviour_form.proofs.middleware.read_surrounded.Goals as goal

abbrev itself : Surrounded → Surrounded
itself around = around

pub returns-in-List : goal.returns-in-List
returns-in-List c =
    let items = c.as_slice.result.now in
    tells-same itself c.named_from.result (made Named (names_read 0 (items_view items))) (surrounded_read (view c.args.value.now))
    (ap surrounded_read (ap view c.in-List.is ∙ view-List c.in-List.items) ∙ ap (λ vs. made Named (names_read 0 (items_view vs))) (sym c.as_slice.ensures))
    (tells-made (λ (names : List (List ℕ)). names) itself Named c.read_names.result c.named_from.result (names_read 0 (items_view items)) c.named_from.ensures c.read_names.ensures)

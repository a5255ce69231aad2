use Rattle.std.proofs.Common.{length, sym, ◌∙◌, ap}
use Rattle.std.proofs.lemmas.List.{length-map}
use Rattle.snap_core.specs.View.{view}
use Rattle.model_syntax.specs.Shown.{action_shown}
use Rattle.schema_form.specs.Entries.{entries}
use Rattle.schema_form.specs.Layout.{type_no}
use Rattle.schema_form.specs.Modelled.{with_acting, with_action_parts, idle}
use Rattle.schema_form.specs.Setting.{within, action_of}
use Rattle.schema_form.specs.SoFar.{so_far}
use Rattle.schema_form.proofs.models.Modelling.read_action.Goals as goal

pub returns-clause-ok : goal.returns-clause-ok
returns-clause-ok c =
    let m = c.args.self.now in
    let by = c.args.by.now in
    let old = c.args.expressions.now in
    let es = c.read_acting.new.expressions in
    let parts = entries (view c.args.field.now.value) in
    let w = within by in
    let s = so_far old m in
    let number = c.len-index.ensures ∙ sym (length-map m.behaviour.actions action_shown) in
    let read = c.in_ok-read.ensures.ok ∙ ap (λ i. with_action_parts (action_of by parts i) (idle old) parts) number in
    c.in_ok-add_action.ensures es old (ap type_no c.len.ensures) ∙ ap (with_acting w s c.in_ok-name.name) read
    ∙ ap (λ k. with_acting w s k (with_action_parts (action_of by parts (length s.actions)) (idle old) parts)) (c.in_ok-name.ensures.ok ∙ c.text.ensures)

use Rattle.std.proofs.Common.{◌≡◌, ℕ, ◌+◌, List, [], drop, refl, sym, ◌∙◌, ap, subst}
use Rattle.snap_core.specs.View.{view, fields_view}
use Rattle.schema_form.specs.Faults.{under, member_faults, action_faults}
use Rattle.schema_form.specs.Modelled.{with_actions}
use Rattle.schema_form.specs.Setting.{within}
use Rattle.schema_form.specs.SoFar.{so_far}
use Rattle.schema_form.specs.Outcome.{Tells}
use Rattle.schema_form.proofs.Ahead.{fields-ahead, fields-end}
use Rattle.schema_form.proofs.Finding.{handed-on, fields-passed, fields-found}
use Rattle.schema_form.proofs.Laying.{OnOk-at}
use Rattle.schema_form.proofs.Orders.{ordered_value}
use Rattle.schema_form.proofs.models.Modelling.read_each_action.Goals as goal

pub read_action-action-requires-clause-ordered : goal.read_action-action-requires-clause-ordered
read_action-action-requires-clause-ordered c = ordered_value c.args.fields.now c.loop-field.field-index c.field-item.result c.requires.ordered c.loop-field-test.true c.field-item.is

pub returns-in_err-under-clause-finds : goal.returns-in_err-under-clause-finds
returns-in_err-under-clause-finds c =
    let e = c.in_err-under.field-0.0 in
    let types = fields_view c.args.by.now.types.now in
    let whole = member_faults (action_faults types) (fields_view c.args.fields.now) in
    let f = c.field-item.result in
    let P : List ℕ → Type 0 = λ k. Tells e (under k (action_faults types f.key (view f.value))) in
    handed-on e c.from_residual.result whole c.from_residual.ensures.1
    (fields-found (member_faults (action_faults types)) (λ k v. under k (action_faults types k v)) (λ k v ms. refl) e whole c.args.fields.now c.loop-field.field-index c.field-item.result
    c.loop-field-test.true c.field-item.is c.loop-field.invariant.faults (subst P c.text.ensures (c.in_err-under.ensures.finds _ c.read_action-action.ensures.finds)))

pub loop-field-preserved : goal.loop-field-preserved
loop-field-preserved c =
    let l = c.loop-field in
    let types = fields_view c.args.by.now.types.now in
    let fields = c.args.fields.now in
    let f = c.field-item.result in
    let w = within c.args.by.now in
    let rest = fields_view (drop (l.field-index + 1) fields) in
    let P : List ℕ → Type 0 = λ k. under k (action_faults types f.key (view f.value)) ≡ [] in
    record {
      faults = fields-passed (member_faults (action_faults types)) (λ k v. under k (action_faults types k v)) (λ k v ms. refl) (member_faults (action_faults types) (fields_view fields)) fields l.field-index f
          c.loop-field-test.true c.field-item.is l.invariant.faults (subst P c.text.ensures (c.in_ok-under.ensures.finds _ c.read_action-action.ensures.finds));
      said = l.invariant.said ∙ ap (with_actions w (so_far l.expressions l.self)) (fields-ahead fields l.field-index f c.loop-field-test.true c.field-item.is)
          ∙ ap (λ s. with_actions w s rest) (sym (OnOk-at c.read_action-action.result _ c.in_ok-under.ensures.ok c.read_action-action.ensures.ok));
    }

pub returns-clause-ok : goal.returns-clause-ok
returns-clause-ok c =
    let l = c.loop-field in
    sym (l.invariant.said ∙ ap (with_actions (within c.args.by.now) (so_far l.expressions l.self)) (fields-end c.args.fields.now l.field-index c.loop-field-test.false))

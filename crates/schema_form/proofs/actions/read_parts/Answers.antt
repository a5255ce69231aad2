use Rattle.std.proofs.Common.{◌≡◌, ℕ, ◌+◌, List, [], drop, refl, sym, ◌∙◌, ap, subst}
use Rattle.snap_core.specs.View.{view, fields_view}
use Rattle.pointer_core.specs.declared.schema_rule.SchemaRule.TheVariants.{Shape}
use Rattle.schema_form.specs.Faults.{under, member_faults, action_part_faults}
use Rattle.schema_form.specs.Modelled.{with_action_parts}
use Rattle.schema_form.specs.Setting.{action_of}
use Rattle.schema_form.specs.SoFar.{acting}
use Rattle.schema_form.specs.Outcome.{Tells}
use Rattle.schema_form.proofs.Ahead.{fields-ahead, fields-end}
use Rattle.schema_form.proofs.Finding.{tells-ahead, handed-on, fields-passed, fields-found}
use Rattle.schema_form.proofs.Laying.{OnOk-at}
use Rattle.schema_form.proofs.Modelling.{action-without, action-with}
use Rattle.schema_form.proofs.Orders.{keyed_by_order}
use Rattle.schema_form.proofs.actions.read_parts.Goals as goal

pub returns-then-not-has_body-clause-finds : goal.returns-then-not-has_body-clause-finds
returns-then-not-has_body-clause-finds c =
    let ms = fields_view c.args.parts.now in
    tells-ahead c.wrong.result Shape _ _ c.wrong.ensures (action-without (fields_view c.args.by.now.types.now) ms (sym c.has_body.ensures ∙ c.if-not-has_body.true))

pub read_part-read-requires-clause-keyed : goal.read_part-read-requires-clause-keyed
read_part-read-requires-clause-keyed c = keyed_by_order (fields_view c.args.parts.now) c.requires.ordered

pub returns-in_err-under-clause-finds : goal.returns-in_err-under-clause-finds
returns-in_err-under-clause-finds c =
    let e = c.in_err-under.field-0.0 in
    let types = fields_view c.args.by.now.types.now in
    let parts = fields_view c.args.parts.now in
    let whole = member_faults (action_part_faults types parts) parts in
    let f = c.part-item.result in
    let P : List ℕ → Type 0 = λ k. Tells e (under k (action_part_faults types parts f.key (view f.value))) in
    handed-on e c.from_residual.result _ c.from_residual.ensures.1
    (rw (action-with types parts (sym c.has_body.ensures ∙ c.if-not-has_body.false))
    (fields-found (member_faults (action_part_faults types parts)) (λ k v. under k (action_part_faults types parts k v)) (λ k v ms. refl) e whole c.args.parts.now c.loop-part.part-index c.part-item.result
    c.loop-part-test.true c.part-item.is c.loop-part.invariant.faults (subst P c.text.ensures (c.in_err-under.ensures.finds _ c.read_part-read.ensures.finds))))

pub loop-part-preserved : goal.loop-part-preserved
loop-part-preserved c =
    let l = c.loop-part in
    let types = fields_view c.args.by.now.types.now in
    let fields = c.args.parts.now in
    let parts = fields_view fields in
    let f = c.part-item.result in
    let w = action_of c.args.by.now parts c.args.index in
    let rest = fields_view (drop (l.part-index + 1) fields) in
    let P : List ℕ → Type 0 = λ k. under k (action_part_faults types parts f.key (view f.value)) ≡ [] in
    record {
      faults = fields-passed (member_faults (action_part_faults types parts)) (λ k v. under k (action_part_faults types parts k v)) (λ k v ms. refl) (member_faults (action_part_faults types parts) parts) fields l.part-index f
          c.loop-part-test.true c.part-item.is l.invariant.faults (subst P c.text.ensures (c.in_ok-under.ensures.finds _ c.read_part-read.ensures.finds));
      said = l.invariant.said ∙ ap (with_action_parts w (acting l.expressions l.acting)) (fields-ahead fields l.part-index f c.loop-part-test.true c.part-item.is)
          ∙ ap (λ s. with_action_parts w s rest) (sym (OnOk-at c.read_part-read.result _ c.in_ok-under.ensures.ok c.read_part-read.ensures.ok));
    }

pub returns-clause-finds : goal.returns-clause-finds
returns-clause-finds c =
    let l = c.loop-part in
    let types = fields_view c.args.by.now.types.now in
    let parts = fields_view c.args.parts.now in
    action-with types parts (sym c.has_body.ensures ∙ c.if-not-has_body.false) ∙ l.invariant.faults
    ∙ ap (member_faults (action_part_faults types parts)) (fields-end c.args.parts.now l.part-index c.loop-part-test.false)

pub returns-clause-ok : goal.returns-clause-ok
returns-clause-ok c =
    let l = c.loop-part in
    sym (l.invariant.said ∙ ap (with_action_parts (action_of c.args.by.now (fields_view c.args.parts.now) c.args.index) (acting l.expressions l.acting)) (fields-end c.args.parts.now l.part-index c.loop-part-test.false))

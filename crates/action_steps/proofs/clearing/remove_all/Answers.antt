use Rattle.std.proofs.Common.{◌+◌, List, drop, Ok, Err, ap, subst, drop_of_length-le, arith}
use Rattle.live_tree.specs.Contents.{state}
use Rattle.tree_core.specs.declared.place.Place.{Place}
use Rattle.tree_core.specs.Recorded.{tree_in}
use Rattle.tree_core.specs.Writing.{Target}
use Rattle.answer_writing.specs.Giving.{given, removes}
use Rattle.action_core.specs.Running.{removes_all}
use Rattle.action_core.specs.Statements.{place_removed}
use Rattle.view_engine.proofs.Lists.{element}
use Rattle.action_steps.specs.Acting.{acting_of}
use Rattle.action_steps.proofs.Doing.{acts-handed}
use Rattle.action_steps.proofs.Statements.{Removes, removes-next, removes-ended, removes-nothing}
use Rattle.action_steps.proofs.Written.{writes-as}
use Rattle.action_steps.proofs.clearing.remove_all.Goals as goal

pub returns-in_err-give : goal.returns-in_err-give
returns-in_err-give c = λ counted steps.
    let a = acting_of c.args.acting.now in
    let at = c.place-item.result in
    let places = c.args.places.now in
    let first = state c.args.tree.now in
    let before = state c.loop-place.tree in
    let after = state c.give.new.tree in
    let more = drop (c.loop-place.place-index + 1) places in
    let left = subst (λ (xs : List Place). Removes a xs places (first, before)) (element places c.loop-place.place-index at c.loop-place-test.true c.place-item.is) c.loop-place.invariant in
    acts-handed {T = Unit {0}} (λ x. x) c.in_err-give.field-0.0 c.from_residual.result (removes_all a places) _ _ c.from_residual.ensures.1
    (removes-ended a at more places c.in_err-give.field-0.0 first before after
    (writes-as (Err c.in_err-give.field-0.0) a.running.frame _ (place_removed a.behaving.types a.running.nodes at (tree_in before)) before after
    (ap (λ (t : Target). given a.behaving.types t removes (tree_in before)) c.target_at-to.ensures) c.in_err-give.ensures) left counted steps)

pub loop-place-preserved : goal.loop-place-preserved
loop-place-preserved c =
    let a = acting_of c.args.acting.now in
    let at = c.place-item.result in
    let places = c.args.places.now in
    let first = state c.args.tree.now in
    let before = state c.loop-place.tree in
    let after = state c.give.new.tree in
    let more = drop (c.loop-place.place-index + 1) places in
    let left = subst (λ (xs : List Place). Removes a xs places (first, before)) (element places c.loop-place.place-index at c.loop-place-test.true c.place-item.is) c.loop-place.invariant in
    removes-next a at more places c.in_ok-give.field-0 first before after
    (writes-as (Ok c.in_ok-give.field-0) a.running.frame _ (place_removed a.behaving.types a.running.nodes at (tree_in before)) before after
    (ap (λ (t : Target). given a.behaving.types t removes (tree_in before)) c.target_at-to.ensures) c.in_ok-give.ensures) left

pub returns : goal.returns
returns c =
    let places = c.args.places.now in
    removes-nothing (acting_of c.args.acting.now) (drop c.loop-place.place-index places) places (state c.args.tree.now) (state c.loop-place.tree)
    (drop_of_length-le places {i = c.loop-place.place-index} (omega arith)) c.loop-place.invariant

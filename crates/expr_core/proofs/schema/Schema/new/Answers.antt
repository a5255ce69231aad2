use Rattle.std.proofs.Common.{◌≡◌, ◌<◌, List, length, map, take, get_or, sym, ◌∙◌, ap}
use Rattle.std.proofs.lemmas.List.{length-map, take_all}
use Rattle.model_syntax.specs.declared.behaviour.Behaviour.{Behaviour}
use Rattle.model_syntax.specs.Shown.{ShownView, ShownAction, behaviour_shown, view_shown, action_shown}
use Rattle.expr_core.specs.Numbering.{numbering_of}
use Rattle.expr_core.proofs.Places.{numbering_of-more}
use Rattle.expr_core.proofs.schema.Schema.new.Goals as goal

abbrev views_in : Behaviour → List ShownView
views_in b = (behaviour_shown b).views

abbrev actions_in : Behaviour → List ShownAction
actions_in b = (behaviour_shown b).actions

pub loop-behaviour-init : goal.loop-behaviour-init
loop-behaviour-init c = record { views = c.new-views.ensures; actions = c.new-actions.ensures }

pub loop-behaviour-preserved : goal.loop-behaviour-preserved
loop-behaviour-preserved c =
    let bs = c.args.behaviours in
    let i = c.loop-behaviour.behaviour-index in
    let b = c.behaviour-item.result in
    let within : i < length bs = rw c.as_slice-behaviour-items.ensures at c.loop-behaviour-test.true in
    let here : b ≡ get_or bs i b = rw c.as_slice-behaviour-items.ensures at c.behaviour-item.is in
    record {
      views = c.in_ok-add.ensures ∙ numbering_of-more views_in bs i b c.loop-behaviour.views c.len.result within c.loop-behaviour.invariant.views
          (c.len.ensures ∙ sym (length-map b.views view_shown) ∙ ap (λ x. length (views_in x)) here);
      actions = c.in_ok-add-2.ensures ∙ numbering_of-more actions_in bs i b c.loop-behaviour.actions c.len-in-loop-behaviour.result within c.loop-behaviour.invariant.actions
          (c.len-in-loop-behaviour.ensures ∙ sym (length-map b.actions action_shown) ∙ ap (λ x. length (actions_in x)) here);
    }

pub invariant_of-result : goal.invariant_of-result
invariant_of-result c =
    let bs = c.args.behaviours in
    let i = c.loop-behaviour.behaviour-index in
    let all : take i bs ≡ bs = take_all i bs (rw c.as_slice-behaviour-items.ensures at c.loop-behaviour-test.false) in
    record {
      ordered = c.requires.ordered;
      plain = c.requires.plain;
      plain_actions = c.requires.plain_actions;
      plain_conditions = c.requires.plain_conditions;
      views = c.loop-behaviour.invariant.views ∙ ap (λ ds. numbering_of (map views_in ds)) all;
      actions = c.loop-behaviour.invariant.actions ∙ ap (λ ds. numbering_of (map actions_in ds)) all;
    }

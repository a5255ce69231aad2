use Rattle.std.proofs.Common.{◌≡◌, ℕ, List, map, Some, sym, ap, ◌∙◌}
use Rattle.std.specs.Option.{option_map}
use Rattle.expr_syntax.specs.declared.number.ActionNo.{ActionNo}
use Rattle.model_syntax.specs.declared.behaviour.Behaviour.{Behaviour}
use Rattle.model_syntax.specs.Shown.{ShownAction, behaviour_shown, action_shown}
use Rattle.expr_core.specs.Numbers.{parts_of}
use Rattle.expr_core.specs.Schema.{actions_of}
use Rattle.expr_core.proofs.Places.{IsNumbered-of}
use Rattle.expr_core.proofs.Standing.{unfound, found_model, found_within, found_below, found_number, found_named}
use Rattle.expr_core.proofs.schema.Schema.action.Goals as goal

abbrev parts : Behaviour → List ShownAction
parts b = (behaviour_shown b).actions

abbrev name_of : ShownAction → List ℕ
name_of x = x.name

abbrev numbered_by : ℕ → ActionNo
numbered_by k = record { 0 = k }

pub returns-in_err-at-clause-number : goal.returns-in_err-at-clause-number
returns-in_err-at-clause-number c =
    c.from_residual.ensures
    ∙ sym (ap (option_map numbered_by) (unfound name_of action_shown (actions_of c.args.self.now) c.own_actions.result.now c.args.m.0 c.args.name.now c.own_actions.ensures.actions
    (sym c.position.ensures ∙ c.in_err-at.was)))

pub number-requires-clause-known : goal.number-requires-clause-known
number-requires-clause-known c =
    let lists = map parts c.self.inside.behaviours in
    let own : map action_shown c.own_actions.result.now ≡ parts_of lists c.args.m.0 = rw (← c.self.view_is) at c.own_actions.ensures.actions in
    found_model name_of action_shown lists c.own_actions.result.now c.args.m.0 c.args.name.now own c.self.inside.actions (IsNumbered-of lists c.self.inside.actions c.self.invariant.actions)
    c.in_ok-at.at (sym c.position.ensures ∙ c.in_ok-at.was)

pub number-requires-clause-within : goal.number-requires-clause-within
number-requires-clause-within c =
    let lists = map parts c.self.inside.behaviours in
    let own : map action_shown c.own_actions.result.now ≡ parts_of lists c.args.m.0 = rw (← c.self.view_is) at c.own_actions.ensures.actions in
    found_within name_of action_shown lists c.own_actions.result.now c.args.m.0 c.args.name.now own c.self.inside.actions (IsNumbered-of lists c.self.inside.actions c.self.invariant.actions)
    c.in_ok-at.at (sym c.position.ensures ∙ c.in_ok-at.was)

pub returns-clause-number : goal.returns-clause-number
returns-clause-number c =
    let lists = map parts c.self.inside.behaviours in
    let own : map action_shown c.own_actions.result.now ≡ parts_of lists c.args.m.0 = rw (← c.self.view_is) at c.own_actions.ensures.actions in
    rw (← c.self.view_is) (ap (λ k. Some (numbered_by k)) c.number.ensures
    ∙ sym (ap (option_map numbered_by) (found_number name_of action_shown lists c.own_actions.result.now c.args.m.0 c.args.name.now own c.self.inside.actions
    (IsNumbered-of lists c.self.inside.actions c.self.invariant.actions) c.in_ok-at.at (sym c.position.ensures ∙ c.in_ok-at.was))))

pub returns-clause-known : goal.returns-clause-known
returns-clause-known c =
    let lists = map parts c.self.inside.behaviours in
    let own : map action_shown c.own_actions.result.now ≡ parts_of lists c.args.m.0 = rw (← c.self.view_is) at c.own_actions.ensures.actions in
    rw (← c.self.view_is, c.number.ensures) (found_below name_of action_shown lists c.own_actions.result.now c.args.m.0 c.args.name.now own c.self.inside.actions
    (IsNumbered-of lists c.self.inside.actions c.self.invariant.actions) c.in_ok-at.at (sym c.position.ensures ∙ c.in_ok-at.was))

pub returns-clause-named : goal.returns-clause-named
returns-clause-named c =
    let lists = map parts c.self.inside.behaviours in
    let own : map action_shown c.own_actions.result.now ≡ parts_of lists c.args.m.0 = rw (← c.self.view_is) at c.own_actions.ensures.actions in
    rw (← c.self.view_is, c.number.ensures) (found_named name_of action_shown lists c.own_actions.result.now c.args.m.0 c.args.name.now own c.self.inside.actions
    (IsNumbered-of lists c.self.inside.actions c.self.invariant.actions) c.in_ok-at.at (sym c.position.ensures ∙ c.in_ok-at.was))

pub returns-in_err-at-clause-plain : goal.returns-in_err-at-clause-plain
returns-in_err-at-clause-plain c = rw (← c.self.view_is) c.self.invariant.plain_actions

pub returns-clause-plain : goal.returns-clause-plain
returns-clause-plain c = rw (← c.self.view_is) c.self.invariant.plain_actions

use Rattle.std.proofs.Common.{◌≡◌, List, [], ◌∷◌, ◌++◌, length, codes, Some, sym, ◌∙◌, ap, subst}
use Rattle.std.proofs.lemmas.Result.{on_ok_weaker}
use Rattle.snap_core.specs.declared.number.TypeNo.{TypeNo}
use Rattle.pointer_core.specs.Path.{Path}
use Rattle.model_syntax.specs.declared.behaviour.Action.{Action}
use Rattle.schema_form.specs.declared.models.Modelling.{Modelling}
use Rattle.schema_form.specs.Layout.{type_no}
use Rattle.schema_form.specs.Modelled.{earlier, with_acting}
use Rattle.schema_form.specs.Setting.{within}
use Rattle.schema_form.specs.SoFar.{so_far, acting}
use Rattle.schema_form.proofs.Saying.{action-said, action-astray}
use Rattle.schema_form.proofs.models.Modelling.add_action.Goals as goal

pub returns-in-Ok : goal.returns-in-Ok
returns-in-Ok c =
    let m = c.args.self.now in
    let by = c.args.by.now in
    on_ok_weaker c.push.result
    (λ added es old before.
    let P : List Action → Type 0 = λ xs.
    so_far es (record { properties = m.properties; behaviour = record { views = m.behaviour.views; actions = xs; middleware = m.behaviour.middleware }; astray = m.astray })
    ≡ with_acting (within by) (so_far old m) c.args.name (acting es c.args.read) in
    subst P (sym added) (action-said by old m es c.args.name c.args.read c.in-Ok.body c.in-Ok.is))
    c.push.ensures.ok

pub returns-in_ok-path-in-Err : goal.returns-in_ok-path-in-Err
returns-in_ok-path-in-Err c =
    let m = c.args.self.now in
    let by = c.args.by.now in
    let body = c.nothing-body.result in
    let a : Action = record { name = c.args.name; params = c.args.read.params; body = body } in
    let path : c.in_ok-path-in-Err.path ≡ codes "actions" ∷ c.args.name ∷ codes "body" ∷ c.in-Err.path =
    c.in_ok-path-in-Err.ensures
    ∙ ap (λ p. codes "actions" ∷ p)
    (c.in_ok-under-in-Err-2.ensures ∙ ap (λ k. k ∷ c.in_ok-under-in-Err.field-0) c.text.ensures.text ∙ ap (λ p. c.args.name ∷ p) c.in_ok-under-in-Err.ensures) in
    let made : TypeNo → Path → Modelling = λ n p. record {
      properties = m.properties;
      behaviour = m.behaviour;
      astray = earlier m.astray (Some (record { before = n; model = by.model; path = p }));
    } in
    on_ok_weaker c.push-in-Err.result
    (λ added es old before.
    let is : c.stray.new.self ≡ made (type_no (length old)) (codes "actions" ∷ c.args.name ∷ codes "body" ∷ c.in-Err.path) =
    c.stray.ensures ∙ ap (made c.args.before) path ∙ ap (λ n. made n (codes "actions" ∷ c.args.name ∷ codes "body" ∷ c.in-Err.path)) before in
    let P : Modelling → Type 0 = λ s.
    so_far es (record { properties = s.properties; behaviour = record { views = s.behaviour.views; actions = s.behaviour.actions ++ a ∷ []; middleware = s.behaviour.middleware }; astray = s.astray })
    ≡ with_acting (within by) (so_far old m) c.args.name (acting es c.args.read) in
    let s = c.stray.new.self in
    let Q : List Action → Type 0 = λ xs.
    so_far es (record { properties = s.properties; behaviour = record { views = s.behaviour.views; actions = xs; middleware = s.behaviour.middleware }; astray = s.astray })
    ≡ with_acting (within by) (so_far old m) c.args.name (acting es c.args.read) in
    subst Q (sym added) (subst P (sym is) (action-astray by old m es c.args.name c.args.read body c.in-Err.path c.in-Err.is c.nothing-body.ensures)))
    c.push-in-Err.ensures.ok

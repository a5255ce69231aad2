use Rattle.std.proofs.Common.{◌≡◌, List, ℕ, [], ◌∷◌, ◌++◌, map, Option, ◌∙◌, ap}
use Rattle.model_syntax.specs.declared.behaviour.Action.{Action}
use Rattle.std.proofs.lemmas.Result.{on_ok_weaker}
use Rattle.model_syntax.specs.declared.behaviour.Behaviour.{Behaviour}
use Rattle.schema_form.specs.declared.form.Astray.{Astray}
use Rattle.schema_form.specs.declared.form.Entry.{Entry}
use Rattle.schema_form.specs.declared.form.ModelForm.{ModelForm}
use Rattle.schema_form.specs.declared.entries.Gathered.{Gathered}
use Rattle.schema_form.specs.Modelled.{earlier}
use Rattle.schema_form.proofs.Saying.{model-gathered}
use Rattle.schema_form.proofs.entries.Gathered.add_model.Goals as goal

pub returns : goal.returns
returns c =
    let old = c.args.self.now in
    let said = c.args.said in
    let name = c.args.name in
    let actions = c.in_ok-actions.actions in
    let made : List Entry → List ModelForm → List Behaviour → Option Astray → Gathered = λ es ms bs a. record { entries = es; expressions = old.expressions; models = ms; behaviours = bs; astray = a } in
    let model : ModelForm = record { name = name; properties = said.properties; actions = actions } in
    let entries : c.push.new.self ≡ old.entries ++ record { name = name; of = c.args.of } ∷ [] =
    c.in_ok-push.ensures.ok ∙ ap (λ (n : List ℕ). old.entries ++ record { name = n; of = c.args.of } ∷ []) c.in_ok-clone_in.ensures in
    let behaviours : c.push-2.new.self ≡ old.behaviours ++ said.behaviour ∷ [] = c.in_ok-push-2.ensures.ok in
    let astray : c.earlier.result ≡ earlier old.astray said.astray = c.earlier.ensures ∙ ap (λ x. earlier x said.astray) c.take.ensures.value in
    on_ok_weaker c.push-3.result
    (λ models g same number.
    model-gathered g old (made c.push.new.self c.push-3.new.self c.push-2.new.self c.earlier.result) name c.args.of said actions same number (c.in_ok-actions.ensures ∙ ap (map (λ (a : Action). a.name)) c.as_slice.ensures)
    (ap (λ es. made es c.push-3.new.self c.push-2.new.self c.earlier.result) entries
    ∙ ap (λ ms. made (old.entries ++ record { name = name; of = c.args.of } ∷ []) ms c.push-2.new.self c.earlier.result) models
    ∙ ap (λ bs. made (old.entries ++ record { name = name; of = c.args.of } ∷ []) (old.models ++ model ∷ []) bs c.earlier.result) behaviours
    ∙ ap (made (old.entries ++ record { name = name; of = c.args.of } ∷ []) (old.models ++ model ∷ []) (old.behaviours ++ said.behaviour ∷ [])) astray))
    c.push-3.ensures.ok

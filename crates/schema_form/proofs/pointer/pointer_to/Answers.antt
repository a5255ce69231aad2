use Rattle.std.proofs.Common.{◌≡◌, ◌++◌, ◌<◌, Option, sym, ◌∙◌, ap, subst, arith, append_assoc}
use Rattle.std.proofs.lemmas.Result.{IfOk-weaker}
use Rattle.pointer_core.specs.Path.{Path}
use Rattle.schema_form.specs.declared.form.ModelForm.{ModelForm}
use Rattle.schema_form.specs.Pointers.{IsPointer, entry, property, param, part, entry_path, property_path, param_path, step_path, HasProperty, HasAction}
use Rattle.schema_form.proofs.Pointing.{has-model, has-model-action, some-at}
use Rattle.schema_form.proofs.pointer.pointer_to.Goals as goal

pub entry_at-requires : goal.entry_at-requires
entry_at-requires c = c.requires.places c.loop-entry.at.0 _ c.in-Entry.ensures

pub model_at-requires : goal.model_at-requires
model_at-requires c = has-model c.args.models.now c.in-Property.model.0 c.in-Property.index (c.requires.places c.loop-entry.at.0 _ c.in-Property.ensures)

pub property_pointer-requires : goal.property_pointer-requires
property_pointer-requires c =
    let P : Option ModelForm → Type 0 = λ o. HasProperty o c.in-Property.index in
    subst P c.model_at.ensures (c.requires.places c.loop-entry.at.0 _ c.in-Property.ensures)

pub returns-in-Entry : goal.returns-in-Entry
returns-in-Entry c =
    let one = c.entry_at.result.now in
    let P : Path → Type 0 = IsPointer c.args.entries.now c.args.models.now c.args.places.now c.args.t.0 in
    IfOk-weaker c.entry_pointer.result (λ longer. longer ≡ entry_path one.name ++ c.loop-entry.path) P
    (λ longer is. subst P (sym is) (c.loop-entry.invariant.1 (entry_path one.name) (entry c.loop-entry.at.0 c.in-Entry.entry one c.in-Entry.ensures c.entry_at.ensures)))
    c.entry_pointer.ensures

pub returns-in-Property : goal.returns-in-Property
returns-in-Property c =
    let model = c.model_at.result.now in
    let i = c.in-Property.index in
    let P : Path → Type 0 = IsPointer c.args.entries.now c.args.models.now c.args.places.now c.args.t.0 in
    let H : Option ModelForm → Type 0 = λ o. HasProperty o i in
    let p = some-at model.properties i (subst H c.model_at.ensures (c.requires.places c.loop-entry.at.0 _ c.in-Property.ensures)) in
    let a = entry_path model.name in
    let b = property_path p.0.name in
    IfOk-weaker c.property_pointer.result _ P
    (λ longer is. subst P (append_assoc a b c.loop-entry.path ∙ sym (is p.0 p.1))
    (c.loop-entry.invariant.1 (a ++ b) (property c.loop-entry.at.0 c.in-Property.model i model p.0 c.in-Property.ensures c.model_at.ensures p.1)))
    c.property_pointer.ensures

pub loop-entry-smaller : goal.loop-entry-smaller
loop-entry-smaller c = c.requires.places c.loop-entry.at.0 _ c.in-Part.ensures

pub loop-entry-preserved : goal.loop-entry-preserved
loop-entry-preserved c =
    let i = c.loop-entry.at.0 in
    let P : Path → Type 0 = IsPointer c.args.entries.now c.args.models.now c.args.places.now c.args.t.0 in
    let earlier : c.in-Part.whole.0 < i = c.requires.places i _ c.in-Part.ensures in
    let b = step_path c.in-Part.step in (
      omega (arith, earlier, c.loop-entry.invariant.0),
      λ path h. subst P (append_assoc path b c.loop-entry.path ∙ ap (λ x. path ++ x) (sym c.in_ok-path-in-Part.ensures))
          (c.loop-entry.invariant.1 (path ++ b) (part i c.in-Part.whole c.in-Part.step path c.in-Part.ensures h)),
    )

pub model_at-requires-in-Param : goal.model_at-requires-in-Param
model_at-requires-in-Param c = has-model-action c.args.models.now c.in-Param.model.0 c.in-Param.action (c.requires.places c.loop-entry.at.0 _ c.in-Param.ensures)

pub param_pointer-requires : goal.param_pointer-requires
param_pointer-requires c =
    let P : Option ModelForm → Type 0 = λ o. HasAction o c.in-Param.action in
    subst P c.model_at-in-Param.ensures (c.requires.places c.loop-entry.at.0 _ c.in-Param.ensures)

pub returns-in-Param : goal.returns-in-Param
returns-in-Param c =
    let model = c.model_at-in-Param.result.now in
    let i = c.in-Param.action in
    let P : Path → Type 0 = IsPointer c.args.entries.now c.args.models.now c.args.places.now c.args.t.0 in
    let H : Option ModelForm → Type 0 = λ o. HasAction o i in
    let name = some-at model.actions i (subst H c.model_at-in-Param.ensures (c.requires.places c.loop-entry.at.0 _ c.in-Param.ensures)) in
    let a = entry_path model.name in
    let b = param_path name.0 c.in-Param.index in
    IfOk-weaker c.param_pointer.result _ P
    (λ longer is. subst P (append_assoc a b c.loop-entry.path ∙ sym (is name.0 name.1))
    (c.loop-entry.invariant.1 (a ++ b) (param c.loop-entry.at.0 c.in-Param.model i c.in-Param.index model name.0 c.in-Param.ensures c.model_at-in-Param.ensures name.1)))
    c.param_pointer.ensures

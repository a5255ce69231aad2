use Rattle.std.proofs.Common.{sym, ◌∙◌, subst}
use Rattle.std.proofs.lemmas.Result.{IfOk-weaker}
use Rattle.snap_core.specs.Value.{dict, Fields}
use Rattle.snap_core.specs.View.{fields_view}
use Rattle.schema_form.specs.Form.{IsForm, IsWhole}
use Rattle.schema_form.specs.Parts.{IsFound, IsMadeOf}
use Rattle.schema_form.proofs.FileParts.{made-form, made-finds, file_faults-parts}
use Rattle.schema_form.proofs.Wholeness.{whole}
use Rattle.schema_form.proofs.file.read_object.Goals as goal

pub returns-clause-finds : goal.returns-clause-finds
returns-clause-finds c =
    let ms = fields_view c.args.parts.now in
    let all = sym c.has_parts.ensures ∙ c.if-not-has_parts.false in
    let P : Fields → Type 0 = λ types. IsFound types ms c.in_ok-found.found in
    made-finds ms c.in_ok-found.found (subst P c.entries_under.ensures.entries c.in_ok-found.ensures.found) all c.form_of.result _
    (file_faults-parts ms (fields_view c.entries_under.result.now) all c.entries_under.ensures.entries ∙ c.in_ok-found.ensures.finds) c.form_of.ensures.err

pub returns-clause-form : goal.returns-clause-form
returns-clause-form c =
    let ms = fields_view c.args.parts.now in
    let all = sym c.has_parts.ensures ∙ c.if-not-has_parts.false in
    let P : Fields → Type 0 = λ types. IsFound types ms c.in_ok-found.found in
    IfOk-weaker c.form_of.result (IsMadeOf c.in_ok-found.found) (IsForm (dict tt ms))
    (λ form made. made-form ms c.in_ok-found.found (subst P c.entries_under.ensures.entries c.in_ok-found.ensures.found) all form made) c.form_of.ensures.ok

pub returns-clause-whole : goal.returns-clause-whole
returns-clause-whole c =
    let ms = fields_view c.args.parts.now in
    let all = sym c.has_parts.ensures ∙ c.if-not-has_parts.false in
    let P : Fields → Type 0 = λ types. IsFound types ms c.in_ok-found.found in
    let none = file_faults-parts ms (fields_view c.entries_under.result.now) all c.entries_under.ensures.entries ∙ c.in_ok-found.ensures.finds in
    IfOk-weaker c.form_of.result (IsMadeOf c.in_ok-found.found) IsWhole
    (λ form made. whole (dict tt ms) form c.requires none (made-form ms c.in_ok-found.found (subst P c.entries_under.ensures.entries c.in_ok-found.ensures.found) all form made)) c.form_of.ensures.ok

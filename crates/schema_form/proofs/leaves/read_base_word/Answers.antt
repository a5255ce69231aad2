use Rattle.std.proofs.Common.{◌≡◌, ◌++◌, is_some, Some, None, sym, ◌∙◌, ap}
use Rattle.snap_core.specs.View.{fields_view}
use Rattle.pointer_core.specs.declared.schema_rule.SchemaRule.TheVariants.{Shape}
use Rattle.schema_form.specs.Faults.{unless, word_faults}
use Rattle.schema_form.specs.Names.{base_of, refinable}
use Rattle.schema_form.proofs.Finding.{handed-on, tells-here, Tells-more}
use Rattle.schema_form.proofs.Linking.{known_base-word, refinable-is}
use Rattle.schema_form.proofs.leaves.read_base_word.Goals as goal

pub returns-in_err-word-clause-finds : goal.returns-in_err-word-clause-finds
returns-in_err-word-clause-finds c =
    let e = c.in_err-word.field-0.0 in
    let types = fields_view c.args.types.now in
    let word = c.args.word.now in
    handed-on e c.from_residual.result _ c.from_residual.ensures.1 (Tells-more e (word_faults types word) (unless (is_some (refinable (base_of types word))) Shape) c.in_err-word.ensures.finds)

pub returns-in-Some-clause-finds : goal.returns-in-Some-clause-finds
returns-in-Some-clause-finds c =
    let types = fields_view c.args.types.now in
    let word = c.args.word.now in
    let base : refinable (base_of types word) ≡ Some c.in-Some.base =
    ap refinable (sym (known_base-word c.args.types.now c.args.bases.now word c.in_ok-word.word c.requires.bases c.in_ok-word.ensures.ok) ∙ sym c.base_of.ensures) ∙ sym c.in-Some.ensures in
    ap (λ fs. fs ++ unless (is_some (refinable (base_of types word))) Shape) c.in_ok-word.ensures.finds ∙ ap (λ o. unless (is_some o) Shape) base

pub returns-in-Some-clause-base : goal.returns-in-Some-clause-base
returns-in-Some-clause-base c =
    let types = fields_view c.args.types.now in
    let word = c.args.word.now in
    let base : refinable (base_of types word) ≡ Some c.in-Some.base =
    ap refinable (sym (known_base-word c.args.types.now c.args.bases.now word c.in_ok-word.word c.requires.bases c.in_ok-word.ensures.ok) ∙ sym c.base_of.ensures) ∙ sym c.in-Some.ensures in
    refinable-is (base_of types word) c.in-Some.base base

pub returns-in-None-clause-finds : goal.returns-in-None-clause-finds
returns-in-None-clause-finds c =
    let types = fields_view c.args.types.now in
    let word = c.args.word.now in
    let base : refinable (base_of types word) ≡ None =
    ap refinable (sym (known_base-word c.args.types.now c.args.bases.now word c.in_ok-word.word c.requires.bases c.in_ok-word.ensures.ok) ∙ sym c.base_of.ensures) ∙ sym c.in-None.ensures in
    tells-here c.wrong.result Shape _ c.wrong.ensures
    (ap (λ fs. fs ++ unless (is_some (refinable (base_of types word))) Shape) c.in_ok-word.ensures.finds ∙ ap (λ o. unless (is_some o) Shape) base)

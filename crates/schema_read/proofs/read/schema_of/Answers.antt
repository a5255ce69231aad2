use Rattle.std.proofs.Common.{◌≡◌, ◌<◌, length, slice_get, Some, None, All, refl, sym, ap, subst, ◌∙◌}
use Rattle.std.specs.Prelude.{IsSome}
use Rattle.type_table.specs.Table.{Table, Plan, plan_of}
use Rattle.type_draft.specs.Faults.{HasFault}
use Rattle.expr_core.specs.Schema.{Schema}
use Rattle.type_draft.proofs.Plans.{same_table}
use Rattle.schema_read.specs.Types.{table_of, root_of}
use Rattle.schema_read.specs.Schema.{Means, at_root}
use Rattle.schema_read.proofs.Straying.{strays, judged, none-at-all}
use Rattle.schema_read.proofs.Faulty.{HasFault-expression}
use Rattle.schema_read.proofs.Filling.{All-IsSome}
use Rattle.schema_read.proofs.Whole.{AreWhole-form, root-below}
use Rattle.schema_read.proofs.read.schema_of.Goals as goal

pub returns-in_default-clause-refused : goal.returns-in_default-clause-refused
returns-in_default-clause-refused c =
    let form = c.args.form in
    let none : root_of form ≡ None = sym (rw (c.as_slice.ensures, c.as_slice-2.ensures, c.in_ok-places.ensures.kinds) at c.model_of.ensures) ∙ c.in_default.is in
    rw (c.in_ok-under.ensures, c.new.ensures) (at_root none)

pub draft_of-requires : goal.draft_of-requires
draft_of-requires c = rw (c.as_slice-3.ensures, c.as_slice-4.ensures, c.in_ok-places.ensures.kinds) (AreWhole-form c.args.form c.requires.whole)

pub finish-requires-clause-root : goal.finish-requires-clause-root
finish-requires-clause-root c =
    let form = c.args.form in
    let is : root_of form ≡ Some c.in-Some.root = sym (rw (c.as_slice.ensures, c.as_slice-2.ensures, c.in_ok-places.ensures.kinds) at c.model_of.ensures) ∙ c.in-Some.is in
    let plan : c.in_ok-draft.draft ≡ plan_of (table_of form) = rw (c.as_slice-3.ensures, c.as_slice-4.ensures, c.in_ok-places.ensures.kinds) at c.in_ok-draft.ensures in
    subst (λ (p : Plan). c.in-Some.root.0 < length p.models) (sym plan) (root-below form c.requires.whole c.in-Some.root is)

pub finish-requires-clause-defined : goal.finish-requires-clause-defined
finish-requires-clause-defined c =
    let form = c.args.form in
    let plan : c.in_ok-draft.draft ≡ plan_of (table_of form) = rw (c.as_slice-3.ensures, c.as_slice-4.ensures, c.in_ok-places.ensures.kinds) at c.in_ok-draft.ensures in
    subst (λ (p : Plan). All IsSome p.shapes) (sym plan) (All-IsSome (table_of form).shapes)

pub returns-in-None-clause-ok : goal.returns-in-None-clause-ok
returns-in-None-clause-ok c =
    let form = c.args.form in
    let is : root_of form ≡ Some c.in-Some.root = sym (rw (c.as_slice.ensures, c.as_slice-2.ensures, c.in_ok-places.ensures.kinds) at c.model_of.ensures) ∙ c.in-Some.is in
    let plan : c.in_ok-draft.draft ≡ plan_of (table_of form) = rw (c.as_slice-3.ensures, c.as_slice-4.ensures, c.in_ok-places.ensures.kinds) at c.in_ok-draft.ensures in
    let known = c.in-Ok.ensures in
    let P : Schema → Type 0 = Means form in
    subst P (sym c.in_ok-new-in-None.ensures) (record {
      root = is ∙ ap Some (sym known.root);
      types = same_table c.in-Ok.types.table (table_of form) (known.plan ∙ plan);
      faultless = known.faultless;
      sound = known.sound;
      history = refl;
      straight = c.in-None.is;
      behaviours = refl;
    })

pub returns-in-Ok-clause-refused : goal.returns-in-Ok-clause-refused
returns-in-Ok-clause-refused c =
    let form = c.args.form in
    let is : root_of form ≡ Some c.in-Some.root = sym (rw (c.as_slice.ensures, c.as_slice-2.ensures, c.in_ok-places.ensures.kinds) at c.model_of.ensures) ∙ c.in-Some.is in
    let plan : c.in_ok-draft.draft ≡ plan_of (table_of form) = rw (c.as_slice-3.ensures, c.as_slice-4.ensures, c.in_ok-places.ensures.kinds) at c.in_ok-draft.ensures in
    let known = c.in-Ok.ensures in
    let a = c.in-Some-astray.astray in
    let fault = c.in_ok-led_astray-in-Some-astray.field-0 in
    let tables : c.in-Ok.types.table ≡ table_of form = same_table c.in-Ok.types.table (table_of form) (known.plan ∙ plan) in
    rw c.refused.ensures
    (strays form c.in-Some.root a fault is c.in-Some-astray.is (c.requires.whole.astray a c.in-Some-astray.is)
    (none-at-all (table_of form) a (λ u other wrong. known.faultless u other (subst (λ (table : Table). HasFault table u other) (sym tables) wrong)))
    (λ model there. c.in_ok-led_astray-in-Some-astray.ensures model (ap (λ ms. slice_get ms a.model.0) c.as_slice-in-Some-astray.ensures ∙ there)))

pub first_of-requires-clause-places : goal.first_of-requires-clause-places
first_of-requires-clause-places c =
    let form = c.args.form in
    rw (c.as_slice-entries.ensures, c.as_slice-models.ensures, c.as_slice-places.ensures, c.in_ok-places.ensures.places) c.requires.whole.places

pub first_of-requires-clause-within : goal.first_of-requires-clause-within
first_of-requires-clause-within c =
    let form = c.args.form in
    let plan : c.in_ok-draft.draft ≡ plan_of (table_of form) = rw (c.as_slice-3.ensures, c.as_slice-4.ensures, c.in_ok-places.ensures.kinds) at c.in_ok-draft.ensures in
    let fault = c.in-Err-Wrong in
    let wrong = rw fault.field-0-is at fault.ensures.wrong in
    let first = wrong (table_of form) (sym plan) in
    rw (c.as_slice-places.ensures, c.in_ok-places.ensures.places) (HasFault-expression form fault.t.0 fault.rule first.fault)

pub returns-clause-refused : goal.returns-clause-refused
returns-clause-refused c =
    let form = c.args.form in
    let is : root_of form ≡ Some c.in-Some.root = sym (rw (c.as_slice.ensures, c.as_slice-2.ensures, c.in_ok-places.ensures.kinds) at c.model_of.ensures) ∙ c.in-Some.is in
    let plan : c.in_ok-draft.draft ≡ plan_of (table_of form) = rw (c.as_slice-3.ensures, c.as_slice-4.ensures, c.in_ok-places.ensures.kinds) at c.in_ok-draft.ensures in
    let wrong = rw c.in-Err-Wrong.field-0-is at c.in-Err-Wrong.ensures.wrong in
    let first = wrong (table_of form) (sym plan) in
    let fault = c.in_ok-fault-in-Err-Wrong.fault in
    let at = rw (c.as_slice-entries.ensures, c.as_slice-models.ensures, c.as_slice-places.ensures, c.in_ok-places.ensures.places) at c.in_ok-fault-in-Err-Wrong.ensures.fault in
    rw c.refused-in-Err-Wrong.ensures
    (judged form c.in-Some.root c.in-Err-Wrong.t.0 c.in-Err-Wrong.rule fault c.requires.whole.astray is first at
    (λ a model is_astray late there. c.in_ok-fault-in-Err-Wrong.ensures.astray a model is_astray late (ap (λ ms. slice_get ms a.model.0) c.as_slice-models.ensures ∙ there)))

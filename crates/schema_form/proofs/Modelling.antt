-- The parts of models and actions: those that must be there, and those that are read by themselves.
use Rattle.std.proofs.Common.{◌≡◌, ◌++◌, true, false, Result, Ok, Err, codes, refl, sym, ap, subst}
use Rattle.std.specs.Prelude.{IfOk}
use Rattle.snap_core.specs.Value.{dict, Fields}
use Rattle.pointer_core.specs.Path.{Path}
use Rattle.pointer_core.specs.declared.schema_rule.SchemaRule.TheVariants.{Shape}
use Rattle.expr_form.specs.declared.fault.Trouble.{Trouble}
use Rattle.expr_form.specs.declared.fault.Trouble.TheVariants.{Memory, Wrong, Astray}
use Rattle.expr_form.specs.Outcome.{Outcome, Tells}
use Rattle.schema_form.specs.declared.fault.FormError.{FormError}
use Rattle.schema_form.specs.Names.{has_key}
use Rattle.schema_form.specs.Faults.{here, unless, told, member_faults, model_part_faults, model_faults, action_part_faults, action_inside}
use Rattle.schema_form.specs.Outcome.{Finds}
use Rattle.schema_form.specs.Told.{IsTold, outcome_of}

-- a model without properties, and one with them
pub model-without : (types ms : Fields) → has_key (codes "properties") ms ≡ false → model_faults types (dict tt ms) ≡ here Shape ++ member_faults (model_part_faults types ms) ms
model-without types ms has = ap (λ b. unless b Shape ++ member_faults (model_part_faults types ms) ms) has

pub model-with : (types ms : Fields) → has_key (codes "properties") ms ≡ true → model_faults types (dict tt ms) ≡ member_faults (model_part_faults types ms) ms
model-with types ms has = ap (λ b. unless b Shape ++ member_faults (model_part_faults types ms) ms) has

-- an action without a body, and one with it
pub action-without : (types ms : Fields) → has_key (codes "body") ms ≡ false → action_inside types (dict tt ms) ≡ here Shape ++ member_faults (action_part_faults types ms) ms
action-without types ms has = ap (λ b. unless b Shape ++ member_faults (action_part_faults types ms) ms) has

pub action-with : (types ms : Fields) → has_key (codes "body") ms ≡ true → action_inside types (dict tt ms) ≡ member_faults (action_part_faults types ms) ms
action-with types ms has = ap (λ b. unless b Shape ++ member_faults (action_part_faults types ms) ms) has

-- what is told of a part has its fault, and is its outcome
module _ {A B : Type 0} (seen : A → B) (o : Outcome B) where
  pub told-finds : (read : Result A Trouble) (r : Result (Result A Path) FormError) → Tells seen read o → IsTold read r → Finds r (told o)
  told-finds (Ok a) r tells is =
      let P : Result (Result A Path) FormError → Type 0 = λ x. Finds x (told o) in subst P (sym is) (ap told tells)
  told-finds (Err (Astray path)) r tells is =
      let P : Result (Result A Path) FormError → Type 0 = λ x. Finds x (told o) in subst P (sym is) (ap told tells)
  told-finds (Err (Wrong f)) r tells is = rw (is, tells) refl
  told-finds (Err Memory) r tells is = rw is tt

  pub told-outcome : (read : Result A Trouble) (r : Result (Result A Path) FormError) → Tells seen read o → IsTold read r → IfOk r (λ x. outcome_of seen x ≡ o)
  told-outcome (Ok a) r tells is = rw is (sym tells)
  told-outcome (Err (Astray path)) r tells is = rw is (sym tells)
  told-outcome (Err (Wrong f)) r tells is = rw is tt
  told-outcome (Err Memory) r tells is = rw is tt

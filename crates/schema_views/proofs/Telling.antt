-- What an outcome of evaluating is told as.
use Rattle.std.proofs.Common.{◌≡◌, Result, Ok, Err, sym, ap, subst, ◌∙◌}
use Rattle.std.specs.Prelude.{IsErrAnd}
use Rattle.snap_core.specs.Value.{Value}
use Rattle.snap_core.specs.declared.snap.Snap.{Snap}
use Rattle.pointer_core.specs.declared.refusal.Refusal.{Refusal}
use Rattle.type_core.specs.Made.{refused_as}
use Rattle.edit_core.specs.Labelled.{Labelled}
use Rattle.eval_core.specs.Answer.{Answer}
use Rattle.eval_core.specs.Run.{Fault}
use Rattle.view_engine.specs.Told.{Telling, Tells}
use Rattle.view_engine.specs.declared.halt.RunError.{RunError}
use Rattle.view_engine.specs.declared.halt.RunError.TheVariants.{Memory, Refused}
use Rattle.schema_views.specs.Answering.{answer_value, path_in, told, Shows}

-- an answer is told
pub told-shown : (root : Labelled) (t : Telling) (outcome : Result Answer Fault) (x : Answer) (v : Value) → outcome ≡ Ok x → v ≡ answer_value (path_in root) x → told root t outcome ≡ Ok v
told-shown root t outcome x v given shown = ap (told root t) given ∙ ap Ok (sym shown)

-- a refusal is told
shows-refused : (root : Labelled) (t : Telling) (outcome : Result Answer Fault) (e : RunError) → Tells t (Err e) outcome → Shows (Err e) (told root t outcome)
shows-refused root t outcome (Refused r) h = ap (told root t) h.1 ∙ ap (λ (x : Refusal). Err (refused_as x)) (sym h.2)
shows-refused root t outcome Memory h = tt

-- an error is handed on
pub refusal-handed : (root : Labelled) (t : Telling) (outcome : Result Answer Fault) (e : RunError) (r : Result Snap RunError) → IsErrAnd r (λ x. x ≡ e)
    → Tells t (Err e) outcome → Shows r (told root t outcome)
refusal-handed root t outcome e (Ok x) is tells = absurd is
refusal-handed root t outcome e (Err other) is tells =
    let P : RunError → Type 0 = λ x. Shows (Err x) (told root t outcome) in subst P (sym is) (shows-refused root t outcome e tells)

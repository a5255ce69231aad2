-- An action is staged, step by step.
use Rattle.std.proofs.Common.{◌≡◌, ℕ, List, Some, Ok, Err, Result, OnOk, IfOk, sym, subst}
use Rattle.std.specs.Prelude.{All}
use Rattle.snap_core.specs.Value.{Items, IsPlain, ArePlain}
use Rattle.snap_core.specs.declared.number.NodeNo.{NodeNo}
use Rattle.pointer_core.specs.Path.{Path}
use Rattle.patch_core.specs.declared.patch.Patch.{Patch}
use Rattle.patch_core.specs.Printing.{HasPlainValues}
use Rattle.type_table.specs.Table.{Catalog}
use Rattle.type_core.specs.Making.{Outcome}
use Rattle.type_core.specs.Sound.{IsSound}
use Rattle.edit_core.specs.Labelled.{bare}
use Rattle.tree_core.specs.Asking.{place_at}
use Rattle.tree_core.specs.declared.place.Place.{Place}
use Rattle.tree_core.specs.State.{State}
use Rattle.tree_laws.specs.Trees.{IsTypedTree}
use Rattle.tree_laws.proofs.StayTyped.{settling-stays}
use Rattle.live_tree.specs.Laws.{CanBeTakenBack}
use Rattle.expr_core.specs.Plain.{HavePlainConstants, HavePlainActions}
use Rattle.expr_core.specs.Schema.{Schema, behaviours_shown, views_in, views_of}
use Rattle.expr_core.proofs.Lists.{map-map}
use Rattle.model_syntax.specs.Shown.{ShownView, ShownBehaviour, behaviour_shown}
use Rattle.eval_core.specs.Answer.{AnswerList}
use Rattle.plain_answers.specs.Plainness.{ArePlainAnswers}
use Rattle.action_core.specs.Act.{Ran}
use Rattle.action_core.specs.Behaving.{Callee}
use Rattle.action_laws.specs.Laws.{IsPlainBehaving}
use Rattle.action_laws.specs.Schemas.{behaving_by}
use Rattle.action_laws.proofs.Schemas.{schemas-plain}
use Rattle.action_steps.specs.Doing.{spent}
use Rattle.doc_core.specs.Acting.{Acted, acted_on, after_run, most_act_steps, node_there, plain_answers, run_of}
use Rattle.doc_core.specs.Documents.{IsDocument}
use Rattle.doc_core.specs.Staging.{StagesAct, IsStagedAfter, TakesSteps}
use Rattle.doc_core.specs.declared.document.Staged.{Staged}
use Rattle.doc_core.specs.declared.error.DocError.{DocError}
use Rattle.doc_core.proofs.ActionTyped.{action-typed}
use Rattle.doc_core.proofs.Acts.{acted-there, plain-given, run-left, steps-there}
use Rattle.doc_core.proofs.Typed.{nothing-logged}

-- what a document's schema and its tree are
pub record IsPlainly (schema : Schema) (s : State) : Type 0 where
  pub value : IsPlain (bare s.tree)
  pub views : HavePlainConstants (views_of schema)
  pub actions : HavePlainActions (behaviours_shown schema)

views-shown : (schema : Schema) → views_in (behaviours_shown schema) ≡ views_of schema
views-shown schema = map-map (λ (b : ShownBehaviour). b.views) behaviour_shown schema.behaviours

behaves : (schema : Schema) (s : State) → IsSound schema.types → IsPlainly schema s → IsPlainBehaving (behaving_by schema.types (behaviours_shown schema))
behaves schema s sound plainly =
    let P : List (List ShownView) → Type 0 = λ views. HavePlainConstants views in
    schemas-plain schema.types (behaviours_shown schema) sound (subst P (sym (views-shown schema)) plainly.views) plainly.actions

-- what the run of an action leaves of a document
pub run-typed : (schema : Schema) (s : State) (callee : Callee) → IsDocument schema.types s → IsPlainly schema s → ArePlainAnswers callee.given
    → IsTypedTree schema.types (run_of schema.types (behaviours_shown schema) callee s).state.tree
run-typed schema s callee document plainly given =
    action-typed (behaving_by schema.types (behaviours_shown schema)) (behaves schema s document.sound plainly) callee given s
    (record { plain = plainly.value; nodes = document.typed; logged = nothing-logged s document.at_rest })

-- what is staged of it
module _ (types : Catalog) (sound : IsSound types) (ran : Ran (Unit {0})) (typed : IsTypedTree types ran.state.tree) where
  left-typed : (acted : Acted) → after_run types ran ≡ Ok acted → IsTypedTree types acted.after
  left-typed acted is =
      let P : State → Type 0 = λ s. IsTypedTree types s in subst P (sym (run-left types ran acted is)) (settling-stays types sound ran.state.tree typed)

  pub run-staged : (before now : State) (result : Result Staged DocError) → StagesAct result (after_run types ran) now → OnOk result (CanBeTakenBack before now)
      → OnOk result (IsStagedAfter types before now)
  run-staged before now (Ok staged) stages back = record { back = back; typed = (left-typed _ stages.0).nodes }
  run-staged before now (Err e) stages back = tt

  pub run-plain : (now : State) (result : Result Staged DocError) → StagesAct result (after_run types ran) now → IfOk result (λ (staged : Staged). All HasPlainValues staged.patches)
  run-plain now (Ok staged) stages = let P : List Patch → Type 0 = λ ps. All HasPlainValues ps in subst P (sym stages.1) (left-typed _ stages.0).logged
  run-plain now (Err e) stages = tt

-- the action of the node at a place that a pointer names, with arguments that are these values
module _ (types : Catalog) (behaviours : List ShownBehaviour) (path : Path) (name : List ℕ) (args : Items) (s : State) (place : Place) (at : place_at path s.tree ≡ Ok place)
    (n : NodeNo) (there : Some n ≡ node_there types place s.tree) (xs : AnswerList) (same : xs ≡ plain_answers args) where
  pub act-stages : (now : State) (result : Result Staged DocError) → StagesAct result (after_run types (run_of types behaviours (record { node = n; name = name; given = xs }) s)) now
      → StagesAct result (acted_on types behaviours path name args s) now
  act-stages now result stages =
      let P : Outcome Acted → Type 0 = λ o. StagesAct result o now in
      let Q : AnswerList → Type 0 = λ ys. StagesAct result (after_run types (run_of types behaviours (record { node = n; name = name; given = ys }) s)) now in
      subst P (sym (acted-there types behaviours path name args s place at n there)) (subst Q same stages)

  pub act-takes : (before after : ℕ) (result : Result Staged DocError)
      → TakesSteps result (spent (run_of types behaviours (record { node = n; name = name; given = xs }) s).state.met) before after
      → TakesSteps result (most_act_steps types behaviours path name args s) before after
  act-takes before after result few =
      let P : ℕ → Type 0 = λ k. TakesSteps result k before after in
      let Q : AnswerList → Type 0 = λ ys. TakesSteps result (spent (run_of types behaviours (record { node = n; name = name; given = ys }) s).state.met) before after in
      subst P (sym (steps-there types behaviours path name args s place at n there)) (subst Q same few)

pub given-plain : (vs : Items) (xs : AnswerList) → xs ≡ plain_answers vs → ArePlain vs → ArePlainAnswers xs
given-plain vs xs same plain = let P : AnswerList → Type 0 = λ ys. ArePlainAnswers ys in subst P (sym same) (plain-given vs plain)

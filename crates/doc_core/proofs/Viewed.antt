-- What a view of the node at a pointer answers, step by step.
use Rattle.std.proofs.Common.{◌≡◌, ℕ, List, [], ◌∷◌, ◌++◌, Option, Some, None, Result, Ok, Err, sym, ap, subst, ◌∙◌}
use Rattle.std.specs.Prelude.{IsErrAnd, option_and_then, unwrap_or}
use Rattle.std.specs.Option.{option_map}
use Rattle.snap_core.specs.Value.{Value}
use Rattle.snap_core.specs.View.{view}
use Rattle.snap_core.specs.declared.snap.Snap.{Snap}
use Rattle.pointer_core.specs.Path.{Path}
use Rattle.pointer_core.specs.declared.refusal.Rule.TheVariants as rule
use Rattle.type_table.specs.Table.{Catalog}
use Rattle.type_core.specs.Making.{Outcome}
use Rattle.model_syntax.specs.Shown.{ShownView}
use Rattle.edit_core.specs.Labelled.{Labelled}
use Rattle.tree_core.specs.Asking.{place_along, place_at}
use Rattle.tree_core.specs.Outcome.{◌>>=◌, or_refuse}
use Rattle.tree_core.specs.declared.place.Place.{Place}
use Rattle.eval_core.specs.Asking.{Asked}
use Rattle.view_engine.specs.Did.{cost_of}
use Rattle.view_engine.specs.declared.halt.RunError.{RunError}
use Rattle.view_engine.specs.declared.halt.RunError.TheVariants as run
use Rattle.schema_views.specs.Answering.{Shows, answered, run_of}
use Rattle.schema_views.specs.Locating.{view_there}
use Rattle.doc_core.specs.Answers.{Answers}
use Rattle.doc_core.specs.Errors.{run_error}
use Rattle.doc_core.specs.Viewing.{viewed, view_asked, most_steps}
use Rattle.doc_core.specs.declared.error.DocError.{DocError}

-- there is no answer
unanswered : (e : RunError) (outcome : Outcome Value) → Shows (Err e) outcome → Answers {T = Snap} view (Err (run_error e)) outcome
unanswered (run.Refused r) outcome is = is
unanswered run.Memory outcome is = tt

-- an error is handed on
handed : (e : DocError) (r : Result Snap DocError) (outcome : Outcome Value) → IsErrAnd r (λ x. x ≡ e) → Answers {T = Snap} view (Err e) outcome → Answers view r outcome
handed e (Ok x) outcome is answers = absurd is
handed e (Err other) outcome is answers = let P : DocError → Type 0 = λ x. Answers {T = Snap} view (Err x) outcome in subst P (sym is) answers

along : (o : Option Place) (path : Path) (place : Place) → or_refuse o path rule.Path ≡ Ok place → o ≡ Some place
along (Some p) path place h = cc
along None path place h = cc

-- the view of a name at a place that a pointer names
module _ (types : Catalog) (views : List (List ShownView)) (path : Path) (name : List ℕ) (root : Labelled) (place : Place) (at : place_at path root ≡ Ok place)
    (q : Asked) (there : Some q ≡ view_there types views name place root) where
  viewed-there : viewed types views path name root ≡ answered types views q root
  viewed-there =
      let next : Option Asked → Outcome Value = λ o. or_refuse o (path ++ name ∷ []) rule.Unknown >>= (λ x. answered types views x root) in
      ap (λ (o : Outcome Place). o >>= (λ p. next (view_there types views name p root))) at ∙ ap next (sym there)

  pub viewed-shown : (x : Snap) → answered types views q root ≡ Ok (view x) → viewed types views path name root ≡ Ok (view x)
  viewed-shown x is = viewed-there ∙ is

  pub viewed-unanswered : (e : RunError) (r : Result Snap DocError) → IsErrAnd r (λ x. x ≡ run_error e) → Shows (Err e) (answered types views q root)
      → Answers view r (viewed types views path name root)
  viewed-unanswered e r is shows =
      let P : Outcome Value → Type 0 = λ o. Answers view r o in
      subst P (sym viewed-there) (handed (run_error e) r (answered types views q root) is (unanswered e (answered types views q root) shows))

  asked-there : view_asked types views path name root ≡ Some q
  asked-there = ap (option_and_then (λ p. view_there types views name p root)) (along (place_along path root) path place at) ∙ sym there

  pub steps-there : most_steps types views path name root ≡ cost_of (run_of types views q root)
  steps-there =
      let steps : Option Asked → ℕ = λ o. unwrap_or (option_map (λ x. cost_of (run_of types views x root)) o) 0 in
      ap steps asked-there

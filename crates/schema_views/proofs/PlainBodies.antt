-- The constants in the body of each view of a schema are plain, and so is what the views answer over a plain tree.
use Rattle.std.proofs.Common.{◌≡◌, ℕ, zero, suc, List, [], ◌∷◌, ◌++◌, Option, Some, None, slice_get, Result, Ok, subst}
use Rattle.std.specs.Prelude.{All, IfSome, IfOk, unwrap_or}
use Rattle.std.specs.Option.{option_map}
use Rattle.std.proofs.lemmas.List.Elements.{All-head, All-tail}
use Rattle.snap_core.specs.Value.{null, IsPlain}
use Rattle.expr_syntax.specs.Syntax.{constant}
use Rattle.model_syntax.specs.Shown.{ShownView}
use Rattle.type_table.specs.Table.{Catalog}
use Rattle.edit_core.specs.Labelled.{Labelled, bare}
use Rattle.eval_core.specs.Answer.{Answer}
use Rattle.eval_core.specs.Asking.{Asked}
use Rattle.eval_core.specs.Run.{Fault}
use Rattle.plain_answers.specs.Plainness.{HasPlainConstants, HasPlainBodies, IsPlainAnswer}
use Rattle.expr_core.specs.Numbers.{joined}
use Rattle.expr_core.specs.Plain.{HavePlainConstants}
use Rattle.plain_views.proofs.PlainTrees.{trees-plain}
use Rattle.schema_views.specs.Saying.{saying_by, numbered}
use Rattle.schema_views.specs.Answering.{run_of}

-- what holds of each part of a list, and of each part of those behind it
in-joined : {A : Type 0} (P : A → Type 0) (xs ys : List A) (i : ℕ) → All P xs → ((j : ℕ) → IfSome (slice_get ys j) P) → IfSome (slice_get (xs ++ ys) i) P
in-joined P [] ys i all rest = rest i
in-joined P (x ∷ xs) ys zero all rest = All-head P x xs all
in-joined P (x ∷ xs) ys (suc i) all rest = in-joined P xs ys i (All-tail P x xs all) rest

each-joined : {A : Type 0} (P : A → Type 0) (lists : List (List A)) (i : ℕ) → All (All P) lists → IfSome (slice_get (joined lists) i) P
each-joined P [] i all = tt
each-joined P (xs ∷ lists) i all =
    in-joined P xs (joined lists) i (All-head (All P) xs lists all) (λ j. each-joined P lists j (All-tail (All P) xs lists all))

abbrev HasPlainBody : ShownView → Type 0
HasPlainBody w = HasPlainConstants w.body

or_null-plain : (o : Option ShownView) → IfSome o HasPlainBody → HasPlainConstants (unwrap_or (option_map (λ w. w.body) o) (constant null))
or_null-plain (Some w) h = h
or_null-plain None h = tt

pub bodies-plain : (types : Catalog) (views : List (List ShownView)) → HavePlainConstants views → HasPlainBodies (saying_by types views).viewing
bodies-plain types views h = λ v. or_null-plain (numbered views v) (each-joined HasPlainBody views v.0 h)

-- a view that answers over a plain tree, answers plain values
pub answer-plain : (types : Catalog) (views : List (List ShownView)) (q : Asked) (root : Labelled) (x : Answer) → HavePlainConstants views → IsPlain (bare root)
    → (run_of types views q root).outcome ≡ Ok x → IsPlainAnswer x
answer-plain types views q root x constants plain is =
    let P : Result Answer Fault → Type 0 = λ o. IfOk o IsPlainAnswer in
    subst P is ((trees-plain (saying_by types views).viewing (record { table = types.table; tree = root }) (bodies-plain types views constants) plain).views 100 [] q.node q.view 0)

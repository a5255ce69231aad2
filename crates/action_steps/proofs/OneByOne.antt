-- Arguments, one by one.
use Rattle.std.proofs.Common.{◌≡◌, ℕ, zero, suc, ◌+◌, ◌<◌, List, [], ◌∷◌, ◌++◌, length, map, get_or, drop, Option, Some, None, refl, sym, ◌∙◌, ap, subst, append_assoc, arith}
use Rattle.std.specs.Option.{option_map, option_and_then}
use Rattle.std.proofs.lemmas.List.{map-append, drop_more, append-nil}
use Rattle.std.proofs.Math.ListN.{drop_of_length-le}
use Rattle.type_table.specs.Table.{Catalog}
use Rattle.model_syntax.specs.declared.behaviour.Param.{Param}
use Rattle.edit_core.specs.Labelled.{Labelled}
use Rattle.answer_ops.specs.View.{answer_of, answers_of}
use Rattle.answer_ops.specs.declared.value.Value.{Value}
use Rattle.plain_answers.specs.Plainness.{IsPlainAnswer, ArePlainAnswers}
use Rattle.action_core.specs.Beginning as begun
use Rattle.action_core.specs.Beginning.{Bound, bound_before, argument_of, arguments_of, parameter_target}
use Rattle.action_steps.specs.Beginning.{argument_as, bound_as}
use Rattle.action_steps.specs.declared.arguments.Given.{Given}

-- arguments before those that are left, if there are such
abbrev pub bound_behind : List Bound → Option (List Bound) → Option (List Bound)
bound_behind done left = option_map (λ bs. done ++ bs) left

behind-push : (done : List Bound) (b : Bound) (left : Option (List Bound)) → bound_behind (done ++ b ∷ []) left ≡ bound_behind done (option_map (λ bs. b ∷ bs) left)
behind-push done b None = refl
behind-push done b (Some bs) = ap Some (append_assoc done (b ∷ []) bs)

-- what a parameter makes of an argument
abbrev pub argument_by : Catalog → Labelled → Param → Value → Option begun.Argument
argument_by types root p x = argument_of types root p.of.0 (parameter_target types p.of.0) (answer_of x)

-- the arguments that are left, by the first of them
left-first : (types : Catalog) (root : Labelled) (ps : List Param) (xs : List Value) (i : ℕ) (p : Param) (x : Value) → i < length ps → i < length xs → p ≡ get_or ps i p → x ≡ get_or xs i x
    → arguments_of types root (drop i ps) (answers_of (drop i xs))
    ≡ option_and_then (bound_before p.name (arguments_of types root (drop (i + 1) ps) (answers_of (drop (i + 1) xs)))) (argument_by types root p x)
left-first types root ps xs i p x below within here there =
    let params : drop i ps ≡ p ∷ drop (i + 1) ps = drop_more ps i p below ∙ ap (λ q. q ∷ drop (i + 1) ps) (sym here) in
    let values : drop i xs ≡ x ∷ drop (i + 1) xs = drop_more xs i x within ∙ ap (λ y. y ∷ drop (i + 1) xs) (sym there) in
    ap (λ qs. arguments_of types root qs (answers_of (drop i xs))) params ∙ ap (λ ys. arguments_of types root (p ∷ drop (i + 1) ps) (answers_of ys)) values

-- one that is of its type
pub argument-next : (types : Catalog) (root : Labelled) (ps : List Param) (xs : List Value) (i : ℕ) (p : Param) (x : Value) → i < length ps → i < length xs → p ≡ get_or ps i p → x ≡ get_or xs i x
    → (done : List Given) (g : Given) → g.name ≡ p.name → Some (argument_as g.argument) ≡ argument_by types root p x
    → bound_behind (map bound_as (done ++ g ∷ [])) (arguments_of types root (drop (i + 1) ps) (answers_of (drop (i + 1) xs)))
    ≡ bound_behind (map bound_as done) (arguments_of types root (drop i ps) (answers_of (drop i xs)))
argument-next types root ps xs i p x below within here there done g named taken =
    let left = arguments_of types root (drop (i + 1) ps) (answers_of (drop (i + 1) xs)) in
    ap (λ bs. bound_behind bs left) (map-append bound_as done (g ∷ [])) ∙ behind-push (map bound_as done) (bound_as g) left
    ∙ ap (bound_behind (map bound_as done)) (ap (λ name. bound_before name left (argument_as g.argument)) named
    ∙ ap (option_and_then (bound_before p.name left)) taken ∙ sym (left-first types root ps xs i p x below within here there))

-- one that is not
pub argument-not : (types : Catalog) (root : Labelled) (ps : List Param) (xs : List Value) (i : ℕ) (p : Param) (x : Value) → i < length ps → i < length xs → p ≡ get_or ps i p → x ≡ get_or xs i x
    → (done : List Bound) → None ≡ argument_by types root p x → bound_behind done (arguments_of types root (drop i ps) (answers_of (drop i xs))) ≡ None
argument-not types root ps xs i p x below within here there done none =
    let left = arguments_of types root (drop (i + 1) ps) (answers_of (drop (i + 1) xs)) in
    ap (bound_behind done) (left-first types root ps xs i p x below within here there ∙ ap (option_and_then (bound_before p.name left)) (sym none))

-- all of them
pub arguments-all : (types : Catalog) (root : Labelled) (ps : List Param) (xs : List Value) (n : ℕ) → length ps ≡ n → length xs ≡ n → (done : List Bound)
    → bound_behind done (arguments_of types root (drop n ps) (answers_of (drop n xs))) ≡ Some done
arguments-all types root ps xs n ended same done =
    let params : drop n ps ≡ [] = drop_of_length-le ps (omega (arith, ended)) in
    let values : drop n xs ≡ [] = drop_of_length-le xs (omega (arith, same)) in
    ap (λ qs. bound_behind done (arguments_of types root qs (answers_of (drop n xs)))) params
    ∙ ap (λ ys. bound_behind done (arguments_of types root [] (answers_of ys))) values ∙ ap Some (append-nil done)

none-then : {A : Type 0} (f : A → Option (List Bound)) (o : Option A) → ((x : A) → f x ≡ None) → option_and_then f o ≡ None
none-then f None h = refl
none-then f (Some x) h = h x

-- more arguments than parameters, and fewer
pub arguments-uneven : (types : Catalog) (root : Labelled) (ps : List Param) (xs : List Value) → ¬ (length ps ≡ length xs) → arguments_of types root ps (answers_of xs) ≡ None
arguments-uneven types root [] [] uneven = absurd (uneven refl)
arguments-uneven types root [] (x ∷ xs) uneven = refl
arguments-uneven types root (p ∷ ps) [] uneven = refl
arguments-uneven types root (p ∷ ps) (x ∷ xs) uneven =
    let rest : arguments_of types root ps (answers_of xs) ≡ None = arguments-uneven types root ps xs (λ e. uneven (omega (arith, e))) in
    ap (λ o. option_and_then (bound_before p.name o) (argument_by types root p x)) rest ∙ none-then (bound_before p.name None) (argument_by types root p x) (λ a. refl)

-- each of plain answers is plain
pub plain-at : (xs : List Value) (i : ℕ) (x : Value) → i < length xs → x ≡ get_or xs i x → ArePlainAnswers (answers_of xs) → IsPlainAnswer (answer_of x)
plain-at [] i x below here fine = absurd (omega arith)
plain-at (y ∷ xs) zero x below here fine = subst (λ z. IsPlainAnswer (answer_of z)) (sym here) fine.0
plain-at (y ∷ xs) (suc i) x below here fine = plain-at xs i x (omega arith) here fine.1

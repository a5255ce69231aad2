-- The names that arguments are bound to, the last one first.
use Rattle.std.proofs.Common.{◌≡◌, ℕ, List, [], ◌∷◌, ◌++◌, map, reverse, Option, Some, None, refl, sym, ◌∙◌, ap}
use Rattle.std.proofs.lemmas.List.{map-append, reverse-append}
use Rattle.std.specs.Option.{option_map, option_and_then}
use Rattle.std.specs.Prelude.{codes}
use Rattle.snap_core.specs.declared.number.NodeNo.{NodeNo}
use Rattle.eval_core.specs.Answer.{Answer, node}
use Rattle.eval_core.specs.Scope.{Env}
use Rattle.eval_core.specs.Sight.{Sight}
use Rattle.answer_ops.specs.View.{answer_of}
use Rattle.action_core.specs.Beginning.{Bound, reached, all_reached}
use Rattle.action_steps.specs.Beginning.{argument_as, bound_as}
use Rattle.view_engine.specs.Names.{bindings_of, binding_of}
use Rattle.view_engine.specs.declared.names.Binding.{Binding}
use Rattle.action_steps.specs.declared.arguments.Given.{Given}

bindings-last : (bs : List Binding) (b : Binding) → bindings_of (bs ++ b ∷ []) ≡ binding_of b ∷ bindings_of bs
bindings-last bs b = ap reverse (map-append binding_of bs (b ∷ [])) ∙ reverse-append (map binding_of bs) (binding_of b ∷ [])

-- names that are bound before others, if they are
abbrev pub bound_with : Option Env → Env → Option Env
bound_with bound env = option_map (λ e. e ++ env) bound

-- a name before those that are bound
abbrev named_first : List ℕ → Option Env → Answer → Option Env
named_first name bound x = option_map (λ e. (name, x) ∷ e) bound

first-with : (name : List ℕ) (x : Answer) (bound : Option Env) (env : Env) → bound_with (named_first name bound x) env ≡ named_first name (bound_with bound env) x
first-with name x None env = refl
first-with name x (Some e) env = refl

-- what holds of those behind a name holds with it
first-same : (name : List ℕ) (o : Option Answer) (bound other : Option Env) (env more : Env) → bound_with bound more ≡ bound_with other env
    → bound_with (option_and_then (named_first name bound) o) more ≡ bound_with (option_and_then (named_first name other) o) env
first-same name None bound other env more same = refl
first-same name (Some x) bound other env more same =
    first-with name x bound more ∙ ap (λ b. named_first name b x) same ∙ sym (first-with name x other env)

-- one that leads to a node, or needs none
pub reached-next : (sight : Sight) (bs : List Bound) (b : Bound) (x : Answer) (env : Env) → Some x ≡ reached sight b.1
    → bound_with (all_reached sight bs) ((b.0, x) ∷ env) ≡ bound_with (all_reached sight (bs ++ b ∷ [])) env
reached-next sight [] b x env is = ap (λ o. bound_with (option_and_then (named_first b.0 (Some [])) o) env) is
reached-next sight (a ∷ bs) b x env is =
    first-same a.0 (reached sight a.1) (all_reached sight bs) (all_reached sight (bs ++ b ∷ [])) env ((b.0, x) ∷ env) (reached-next sight bs b x env is)

none-then : {A : Type 0} (f : A → Option Env) (o : Option A) → ((x : A) → f x ≡ None) → option_and_then f o ≡ None
none-then f None h = refl
none-then f (Some x) h = h x

-- one that leads to no node
pub reached-not : (sight : Sight) (bs : List Bound) (b : Bound) → None ≡ reached sight b.1 → all_reached sight (bs ++ b ∷ []) ≡ None
reached-not sight [] b is = ap (option_and_then (named_first b.0 (Some []))) (sym is)
reached-not sight (a ∷ bs) b is =
    ap (λ o. option_and_then (named_first a.0 o) (reached sight a.1)) (reached-not sight bs b is) ∙ none-then (named_first a.0 None) (reached sight a.1) (λ x. refl)

-- one argument of the list taken
pub taken-next : (sight : Sight) (given left : List Given) (g : Given) (x : Answer) (bindings : List Binding) (b : Binding) → given ≡ left ++ g ∷ [] → g.name ≡ b.name → x ≡ answer_of b.value
    → Some x ≡ reached sight (argument_as g.argument)
    → bound_with (all_reached sight (map bound_as left)) (bindings_of (bindings ++ b ∷ [])) ≡ bound_with (all_reached sight (map bound_as given)) (bindings_of bindings)
taken-next sight given left g x bindings b is named valued found =
    let bound : binding_of b ≡ (g.name, x) = ap (λ name. (name, answer_of b.value)) (sym named) ∙ ap (λ y. (g.name, y)) (sym valued) in
    ap (bound_with (all_reached sight (map bound_as left))) (bindings-last bindings b ∙ ap (λ p. p ∷ bindings_of bindings) bound)
    ∙ reached-next sight (map bound_as left) (bound_as g) x (bindings_of bindings) found
    ∙ ap (λ bs. bound_with (all_reached sight bs) (bindings_of bindings)) (sym (map-append bound_as left (g ∷ [])) ∙ ap (map bound_as) (sym is))

pub taken-not : (sight : Sight) (given left : List Given) (g : Given) (env : Env) → given ≡ left ++ g ∷ [] → None ≡ reached sight (argument_as g.argument)
    → bound_with (all_reached sight (map bound_as given)) env ≡ None
taken-not sight given left g env is none =
    ap (λ bs. bound_with (all_reached sight bs) env) (ap (map bound_as) is ∙ map-append bound_as left (g ∷ []))
    ∙ ap (λ o. bound_with o env) (reached-not sight (map bound_as left) (bound_as g) none)

-- what is bound on each node
pub own-bound : (root own : Binding) (r n : NodeNo) → binding_of root ≡ (codes "root", node r) → binding_of own ≡ (codes "self", node n)
    → bindings_of (root ∷ own ∷ []) ≡ (codes "self", node n) ∷ (codes "root", node r) ∷ []
own-bound root own r n first second = ap (λ p. p ∷ binding_of root ∷ []) second ∙ ap (λ p. (codes "self", node n) ∷ p ∷ []) first

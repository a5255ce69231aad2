-- What names in the body of a view, one name more, and a list of them, are seen as.
use Rattle.std.proofs.Common.{◌≡◌, ℕ, suc, ◌+◌, ◌<◌, List, [], ◌∷◌, ◌++◌, length, map, reverse, take, get_or, Some, if◌then◌else◌, add-one, sym, ◌∙◌, ap}
use Rattle.std.specs.Str.{bytes_eq}
use Rattle.std.proofs.Math.Seq.{take-suc}
use Rattle.std.proofs.lemmas.List.{map-append, reverse-append}
use Rattle.eval_core.specs.Scope.{bound_in}
use Rattle.view_engine.specs.declared.names.Binding.{Binding}
use Rattle.std.specs.Prelude.{codes}
use Rattle.std.specs.Borrow.{Bor}
use Rattle.answer_ops.specs.View.{answer_of}
use Rattle.answer_ops.specs.declared.value.Value.{Value}
use Rattle.eval_core.specs.Scope as scope
use Rattle.view_engine.specs.Names.{names_of, names_step, body_env, binding_of, bindings_of}
use Rattle.view_engine.specs.declared.names.Env.{Env}
use Rattle.view_engine.specs.declared.names.Names
use Rattle.view_engine.specs.declared.names.Names.TheFolds.{fold-roll-Names}
use Rattle.view_engine.specs.declared.names.Names.TheOpen.{Names-F}
use Rattle.view_engine.specs.declared.names.Names.TheVariants.{rolls-Listed, rolls-Body, rolls-Bound}

pub names-Bound : (name : Bor (List ℕ)) (value : Bor Value) (before : Bor Names.Names) → names_of (Names.Bound name value before) ≡ (name.now, answer_of value.now) ∷ names_of before.now
names-Bound name value before =
    ap names_of (sym (rolls-Bound name value before)) ∙ fold-roll-Names scope.Env names_step (Names-F.Bound name value before)

pub names-Body : (own root : Bor Value) → names_of (Names.Body own root) ≡ body_env (answer_of own.now) (answer_of root.now)
names-Body own root = ap names_of (sym (rolls-Body own root)) ∙ fold-roll-Names scope.Env names_step (Names-F.Body own root)

pub names-Listed : (env : Bor Env) → names_of (Names.Listed env) ≡ bindings_of env.now.bindings
names-Listed env = ap names_of (sym (rolls-Listed env)) ∙ fold-roll-Names scope.Env names_step (Names-F.Listed env)

bindings-last : (bs : List Binding) (b : Binding) → bindings_of (bs ++ b ∷ []) ≡ binding_of b ∷ bindings_of bs
bindings-last bs b = ap reverse (map-append binding_of bs (b ∷ [])) ∙ reverse-append (map binding_of bs) (binding_of b ∷ [])

-- the last one of a name counts
pub bound-step : (name : List ℕ) (bs : List Binding) (i : ℕ) (b : Binding) → i < length bs → b ≡ get_or bs i b
    → bound_in name (bindings_of (take (i + 1) bs)) ≡ (if bytes_eq name b.name then Some (answer_of b.value) else bound_in name (bindings_of (take i bs)))
bound-step name bs i b within is =
    let e : take (i + 1) bs ≡ take i bs ++ b ∷ [] = rw add-one (take-suc bs i b within ∙ ap (λ x. take i bs ++ x ∷ []) (sym is)) in
    ap (λ xs. bound_in name (bindings_of xs)) e ∙ ap (bound_in name) (bindings-last (take i bs) b)

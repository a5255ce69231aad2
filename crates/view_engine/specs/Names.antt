-- The names that are bound, as definitions see them.
use Rattle.std.specs.Prelude.{ℕ, List, [], ◌∷◌, ◌++◌, map, reverse, codes, Option}
use Rattle.answer_ops.specs.View.{answer_of}
use Rattle.eval_core.specs.Answer.{Answer}
use Rattle.eval_core.specs.Scope as scope
use Rattle.view_engine.specs.declared.names.Binding.{Binding}
use Rattle.view_engine.specs.declared.names.Names.{Names, fold-Names}
use Rattle.view_engine.specs.declared.names.Names.TheOpen.{Names-F}

abbrev pub binding_of : Binding → List ℕ × Answer
binding_of b = (b.name, answer_of b.value)

-- a list of names and values, of which the last one of a name counts
abbrev pub bindings_of : List Binding → scope.Env
bindings_of bs = reverse (map binding_of bs)

-- what is bound in the body of a view
abbrev pub body_env : Answer → Answer → scope.Env
body_env own root = (codes "self", own) ∷ (codes "root", root) ∷ []

-- one level, with the names before already seen
abbrev pub names_step : Names-F scope.Env → scope.Env
names_step (Names-F.Listed env) = bindings_of env.now.bindings
names_step (Names-F.Body own root) = body_env (answer_of own.now) (answer_of root.now)
names_step (Names-F.Bound name value before) = (name.now, answer_of value.now) ∷ before.now

abbrev pub names_of : Names → scope.Env
names_of = fold-Names scope.Env names_step

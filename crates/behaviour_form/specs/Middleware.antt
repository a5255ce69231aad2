-- What a value of a schema file says as the middleware of a model.
use Rattle.std.specs.Prelude.{ℕ, ◌+◌, List, [], ◌∷◌, codes, if◌then◌else◌}
use Rattle.std.specs.Str.{bytes_eq}
use Rattle.snap_core.specs.Value.{Value, text, list, dict, no_parts, part, no_members, member, Items}
use Rattle.pointer_core.specs.declared.schema_rule.SchemaRule.TheVariants.{Shape}
use Rattle.expr_form.specs.Outcome.{Outcome, reads, here, if_so, under, at, both, made, of_parts}
use Rattle.expr_form.specs.Texts.{pair_in, items_in}
use Rattle.expr_form.specs.Names.{name_read}
use Rattle.expr_form.specs.Scope.{always_bound}
use Rattle.expr_form.specs.Models.{Lookup}
use Rattle.expr_form.specs.Expressions.{Names, expression_read}
use Rattle.model_syntax.specs.declared.behaviour.Surrounded.{Surrounded}
use Rattle.model_syntax.specs.declared.behaviour.Surrounded.TheVariants.{All, Named}
use Rattle.model_syntax.specs.Shown.{ShownMiddleware, atomic, protect}

-- the names of a list
abbrev pub names_read : ℕ → Items → Outcome (List (List ℕ))
names_read i no_parts = reads []
names_read i (part v ps) = made (λ q. q.0 ∷ q.1) (both (at i (name_read v)) (names_read (i + 1) ps))

-- `"*"`, or a list of names
abbrev pub surrounded_read : Value → Outcome Surrounded
surrounded_read (text s) = if_so (bytes_eq s (codes "*")) Shape All
surrounded_read (list a ps) = made Named (names_read 0 ps)
surrounded_read _ = here Shape

-- `{"protect":[F,condition]}`
abbrev pub protect_read : Lookup → Names → Value → Outcome ShownMiddleware
protect_read lookup names v =
    of_parts (pair_in v) (λ p. made (λ q. protect q.0 q.1) (both (at 0 (surrounded_read p.0)) (at 1 (expression_read lookup names p.1))))

-- an object with this one key, which is `atomic` or `protect`
abbrev pub keyed_read : Lookup → Names → List ℕ → Value → Outcome ShownMiddleware
keyed_read lookup names k v =
    if bytes_eq k (codes "atomic") then under k (made atomic (surrounded_read v))
    else if bytes_eq k (codes "protect") then under k (protect_read lookup names v)
    else here Shape

abbrev pub one_read : Lookup → Names → Value → Outcome ShownMiddleware
one_read lookup names (dict a (member k v no_members)) = keyed_read lookup names k v
one_read lookup names _ = here Shape

abbrev pub all_read : Lookup → Names → ℕ → Items → Outcome (List ShownMiddleware)
all_read lookup names i no_parts = reads []
all_read lookup names i (part v ps) = made (λ q. q.0 ∷ q.1) (both (at i (one_read lookup names v)) (all_read lookup names (i + 1) ps))

-- what stands under `middleware`: a list of it
abbrev pub middleware_read : Lookup → Value → Outcome (List ShownMiddleware)
middleware_read lookup v = of_parts (items_in v) (all_read lookup always_bound 0)

-- What a value of a schema file says as a statement or as a block of them, one form a row.
use Rattle.std.specs.Prelude.{ℕ, zero, suc, ◌+◌, List, [], ◌∷◌, codes, Option, Some, None, if◌then◌else◌}
use Rattle.std.specs.Option.{option_map}
use Rattle.std.specs.Str.{bytes_eq}
use Rattle.snap_core.specs.Value.{Value, dict, no_parts, part, no_members, member, Items}
use Rattle.pointer_core.specs.declared.schema_rule.SchemaRule.TheVariants.{Shape, Depth}
use Rattle.expr_syntax.specs.Syntax.{Statement, Statements, set, put, push, insert, replace, drop, clear, apply, each, call, attempt, throw}
use Rattle.expr_syntax.specs.Syntax.{Expression, Expressions}
use Rattle.expr_syntax.specs.Shown.{expressions}
use Rattle.expr_syntax.specs.ShownStatements.{statements}
use Rattle.expr_form.specs.declared.stmt_keys.StmtKey.{StmtKey}
use Rattle.expr_form.specs.declared.stmt_keys.StmtKey.TheVariants as key
use Rattle.expr_form.specs.declared.stmt_keys.Single.{Single}
use Rattle.expr_form.specs.declared.stmt_keys.Single.TheVariants as single
use Rattle.expr_form.specs.declared.stmt_keys.Keyed.{Keyed}
use Rattle.expr_form.specs.declared.stmt_keys.Keyed.TheVariants as keyed
use Rattle.expr_form.specs.declared.stmt_keys.Given.{Given}
use Rattle.expr_form.specs.declared.stmt_keys.Given.TheVariants as given
use Rattle.expr_form.specs.Outcome.{Outcome, reads, here, under, at, both, made, and_then, of_parts}
use Rattle.expr_form.specs.StmtKeys.{stmt_key_of}
use Rattle.expr_form.specs.Texts.{pair_in, triple_in, items_in}
use Rattle.expr_form.specs.Names.{name_read, binder_read, bound}
use Rattle.expr_form.specs.Models.{Lookup}
use Rattle.expr_form.specs.Expressions.{Names, Reader, items_read, expression_read}

-- what a part says as a statement, and as a block
abbrev pub StmtReader : Type 0
StmtReader = Names → Value → Outcome Statement

abbrev pub BlockReader : Type 0
BlockReader = Names → Value → Outcome Statements

-- the writes under a key or an index, and those of a value alone
abbrev pub keyed_made : Keyed → Expression → Expression → Expression → Statement
keyed_made keyed.Put e k v = put e k v
keyed_made keyed.Insert e i v = insert e i v
keyed_made keyed.Replace e i v = replace e i v

abbrev pub given_made : Given → Expression → Expression → Statement
given_made given.Push e v = push e v
given_made given.Drop e k = drop e k
given_made given.Apply e v = apply e v

-- `{"set":[e,"p",v]}`
abbrev pub set_read : Reader → StmtReader
set_read read names v =
    of_parts (triple_in v) (λ p. made (λ q. set q.0 q.1.0 q.1.1)
    (both (at 0 (read names p.0)) (both (at 1 (name_read p.1)) (at 2 (read names p.2)))))

-- `{"put":[e,k,v]}` and its kind
abbrev pub keyed_read : Reader → Keyed → StmtReader
keyed_read read form names v =
    of_parts (triple_in v) (λ p. made (λ q. keyed_made form q.0 q.1.0 q.1.1)
    (both (at 0 (read names p.0)) (both (at 1 (read names p.1)) (at 2 (read names p.2)))))

-- `{"push":[e,v]}` and its kind
abbrev pub given_read : Reader → Given → StmtReader
given_read read form names v = of_parts (pair_in v) (λ p. made (λ q. given_made form q.0 q.1) (both (at 0 (read names p.0)) (at 1 (read names p.1))))

-- `{"let":["x",e]}`
abbrev pub binding_read : Reader → StmtReader
binding_read read names v = of_parts (pair_in v) (λ p. made (λ q. Statement.bind q.0 q.1) (both (at 0 (binder_read p.0)) (at 1 (read names p.1))))

-- `{"call":[e,"a",[args]]}`
abbrev pub arguments_read : Reader → Names → Value → Outcome Expressions
arguments_read read names v = of_parts (items_in v) (λ ps. made expressions (items_read read names 0 ps))

abbrev pub call_read : Reader → StmtReader
call_read read names v =
    of_parts (triple_in v) (λ p. made (λ q. call q.0 q.1.0 q.1.1)
    (both (at 0 (read names p.0)) (both (at 1 (name_read p.1)) (at 2 (arguments_read read names p.2)))))

-- what stands under the key of a statement without blocks
abbrev pub single_read : Reader → Single → StmtReader
single_read read single.Set names v = set_read read names v
single_read read (single.Keyed form) names v = keyed_read read form names v
single_read read (single.Given form) names v = given_read read form names v
single_read read single.Clear names v = made clear (read names v)
single_read read single.Binding names v = binding_read read names v
single_read read single.Call names v = call_read read names v
single_read read single.Throw names v = made throw (name_read v)

-- `{"if":[c,[block],[block]]}`
abbrev pub branches_read : Reader → BlockReader → StmtReader
branches_read read block names v =
    of_parts (triple_in v) (λ p. made (λ q. Statement.choice q.0 q.1.0 q.1.1)
    (both (at 0 (read names p.0)) (both (at 1 (block names p.1)) (at 2 (block names p.2)))))

-- `{"each":[e,"x",[block]]}`, with x bound in the block
abbrev pub each_read : Reader → BlockReader → StmtReader
each_read read block names v =
    of_parts (triple_in v) (λ p. made (λ q. each q.0 q.1.0 q.1.1)
    (both (at 0 (read names p.0)) (both (at 1 (binder_read p.1)) (at 2 (block (bound names p.1) p.2)))))

-- `{"try":[[block],[block]]}`
abbrev pub attempt_read : BlockReader → StmtReader
attempt_read block names v = of_parts (pair_in v) (λ p. made (λ q. attempt q.0 q.1) (both (at 0 (block names p.0)) (at 1 (block names p.1))))

-- what stands under the key of a statement
abbrev pub inside_read : Reader → BlockReader → StmtKey → StmtReader
inside_read read block (key.Single form) names v = single_read read form names v
inside_read read block key.Branches names v = branches_read read block names v
inside_read read block key.Each names v = each_read read block names v
inside_read read block key.Attempt names v = attempt_read block names v

-- what `{"let":["x",e]}` binds for the rest of its block
abbrev pub let_name : Value → Option Value
let_name (dict a (member k v no_members)) = if bytes_eq k (codes "let") then option_map (λ p. p.0) (pair_in v) else None
let_name _ = None

abbrev pub bound_if : Names → Option Value → Names
bound_if names (Some v) = bound names v
bound_if names None = names

abbrev pub bound_after : Names → Value → Names
bound_after names v = bound_if names (let_name v)

-- a block is a list of statements
abbrev pub stmts_read : StmtReader → Names → ℕ → Items → Outcome (List Statement)
stmts_read read names i no_parts = reads []
stmts_read read names i (part v ps) = made (λ q. q.0 ∷ q.1) (both (at i (read names v)) (stmts_read read (bound_after names v) (i + 1) ps))

abbrev pub block_read : StmtReader → BlockReader
block_read read names v = of_parts (items_in v) (λ ps. made statements (stmts_read read names 0 ps))

-- a statement's own form: an object with one key that stands for a form
abbrev pub StmtFormed : Type 0
StmtFormed = StmtKey × List ℕ × Value

abbrev pub stmt_known : List ℕ → Value → Option StmtKey → Outcome StmtFormed
stmt_known k v (Some form) = reads (form, k, v)
stmt_known k v None = here Shape

abbrev pub own_stmt : Value → Outcome StmtFormed
own_stmt (dict a (member k v no_members)) = stmt_known k v (stmt_key_of k)
own_stmt _ = here Shape

-- what stands under the key of a statement, at its place
abbrev pub formed_stmt : Reader → BlockReader → Names → StmtFormed → Outcome Statement
formed_stmt read block names formed = under formed.1 (inside_read read block formed.0 names formed.2)

-- A value as a statement, in which no more than so many statements are open. One that is open beyond them is at fault behind its own form.
unfoldable pub stmt_read : Lookup → ℕ → StmtReader
stmt_read lookup zero names v = and_then (own_stmt v) (λ formed. here Depth)
stmt_read lookup (suc room) names v =
    and_then (own_stmt v) (formed_stmt (expression_read lookup) (block_read (stmt_read lookup room)) names)

-- at most 8 are open
unfoldable pub most_statements : ℕ
most_statements = 8

-- the body of an action
abbrev pub body_read : Lookup → BlockReader
body_read lookup names v = block_read (stmt_read lookup most_statements) names v

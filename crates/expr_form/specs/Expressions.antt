-- What a value of a schema file says as an expression, one form a row.
use Rattle.std.specs.Prelude.{ℕ, zero, suc, ◌+◌, List, [], ◌∷◌, Option, Some, None, option_and_then}
use Rattle.snap_core.specs.Value.{Value, integer, list, dict, no_parts, part, no_members, member, is_whole, Items, Fields}
use Rattle.snap_core.specs.declared.number.ModelNo.{ModelNo}
use Rattle.pointer_core.specs.declared.schema_rule.SchemaRule.TheVariants.{Shape, Depth}
use Rattle.expr_syntax.specs.Syntax.{Expression, constant, variable, own, get, ref, one_sided, two_sided, telling, keys, items, snapshot, path, either, choice, bind, make, find, is}
use Rattle.expr_syntax.specs.Syntax as syntax
use Rattle.expr_syntax.specs.Shown.{expressions, members}
use Rattle.expr_syntax.specs.declared.op.Op.TheVariants as op
use Rattle.expr_form.specs.declared.keys.Key.{Key}
use Rattle.expr_form.specs.declared.keys.Key.TheVariants as key
use Rattle.expr_form.specs.declared.keys.Group.{Group}
use Rattle.expr_form.specs.declared.keys.Group.TheVariants as group
use Rattle.expr_form.specs.declared.keys.Aim.{Aim}
use Rattle.expr_form.specs.declared.keys.Aim.TheVariants as aim
use Rattle.expr_form.specs.declared.keys.Pair.{Pair}
use Rattle.expr_form.specs.declared.keys.Pair.TheVariants as pair
use Rattle.expr_form.specs.declared.keys.Triple.{Triple}
use Rattle.expr_form.specs.declared.keys.Triple.TheVariants as triple
use Rattle.expr_form.specs.declared.keys.Leaf.{Leaf}
use Rattle.expr_form.specs.declared.keys.Leaf.TheVariants as leaf
use Rattle.expr_form.specs.declared.keys.One.{One}
use Rattle.expr_form.specs.declared.keys.One.TheVariants as one
use Rattle.expr_form.specs.declared.keys.Two.{Two}
use Rattle.expr_form.specs.declared.keys.Two.TheVariants as two
use Rattle.expr_form.specs.declared.keys.Named.{Named}
use Rattle.expr_form.specs.declared.keys.Named.TheVariants as named
use Rattle.expr_form.specs.declared.keys.Walk.{Walk}
use Rattle.expr_form.specs.declared.keys.Walk.TheVariants as walk
use Rattle.expr_form.specs.Outcome.{Outcome, wrong, astray, reads, here, if_so, under, at, both, made, and_then, of_parts}
use Rattle.expr_form.specs.Keys.{key_of}
use Rattle.expr_form.specs.Texts.{pair_in, triple_in, items_in, fields_in}
use Rattle.expr_form.specs.Names.{name_read, variable_read, binder_read, bound}
use Rattle.expr_form.specs.Models.{Lookup, entry_read, named_by, identified, model}
use Rattle.expr_form.specs.Numbers.{numbers_read}

-- the names that are bound
abbrev pub Names : Type 0
Names = List (List ℕ)

-- what a part says as an expression, where these names are bound
abbrev pub Reader : Type 0
Reader = Names → Value → Outcome Expression

-- the expressions of the forms of one operand, of two, of an operand and a name, and of a walk
abbrev pub one_made : One → Expression → Expression
one_made one.Size e = one_sided op.Size e
one_made one.Keys e = telling keys e
one_made one.Items e = telling items e
one_made one.Text e = one_sided op.Text e
one_made one.Not e = one_sided op.Not e
one_made one.Snapshot e = telling snapshot e
one_made one.Path e = telling path e

abbrev pub two_made : Two → Expression → Expression → Expression
two_made two.Item a b = two_sided op.Item a b
two_made two.Has a b = two_sided op.Has a b
two_made two.Add a b = two_sided op.Add a b
two_made two.Sub a b = two_sided op.Sub a b
two_made two.Mul a b = two_sided op.Mul a b
two_made two.Div a b = two_sided op.Div a b
two_made two.Mod a b = two_sided op.Mod a b
two_made two.Concat a b = two_sided op.Concat a b
two_made two.Eq a b = two_sided op.Eq a b
two_made two.Lt a b = two_sided op.Lt a b
two_made two.And a b = syntax.both a b
two_made two.Or a b = either a b

abbrev pub named_made : Named → Expression → List ℕ → Expression
named_made named.Get e p = get e p
named_made named.Ref e p = ref e p

abbrev pub walk_kind : Walk → syntax.Walk
walk_kind walk.Filter = syntax.filter
walk_kind walk.Collect = syntax.collect
walk_kind walk.All = syntax.all
walk_kind walk.Any = syntax.any
walk_kind walk.Sum = syntax.sum

-- `{"const":v}`, `{"var":"x"}`, `{"own":"p"}`
abbrev pub leaf_read : Names → Leaf → Value → Outcome Expression
leaf_read names leaf.Const v = made (λ u. constant v) (numbers_read v)
leaf_read names leaf.Var v = made variable (variable_read names v)
leaf_read names leaf.Own v = made own (name_read v)

-- `{"add":[a,b]}` and its kind
abbrev pub two_parts : Reader → Two → Names → Value × Value → Outcome Expression
two_parts read form names p = made (λ q. two_made form q.0 q.1) (both (at 0 (read names p.0)) (at 1 (read names p.1)))

-- `{"get":[e,"p"]}` and its kind
abbrev pub named_parts : Reader → Named → Names → Value × Value → Outcome Expression
named_parts read form names p = made (λ q. named_made form q.0 q.1) (both (at 0 (read names p.0)) (at 1 (name_read p.1)))

abbrev pub pair_parts : Reader → Pair → Names → Value × Value → Outcome Expression
pair_parts read (pair.Two form) names p = two_parts read form names p
pair_parts read (pair.Named form) names p = named_parts read form names p

-- the forms of two parts
abbrev pub pair_read : Reader → Pair → Reader
pair_read read form names v = of_parts (pair_in v) (pair_parts read form names)

-- `{"filter":[e,"x",b]}` and its kind, with x bound in b
abbrev pub walk_parts : Reader → Walk → Names → Value × Value × Value → Outcome Expression
walk_parts read form names p =
    made (λ q. syntax.walk (walk_kind form) q.0 q.1.0 q.1.1)
    (both (at 0 (read names p.0)) (both (at 1 (binder_read p.1)) (at 2 (read (bound names p.1) p.2))))

-- `{"if":[c,a,b]}`
abbrev pub choice_parts : Reader → Names → Value × Value × Value → Outcome Expression
choice_parts read names p =
    made (λ q. choice q.0 q.1.0 q.1.1)
    (both (at 0 (read names p.0)) (both (at 1 (read names p.1)) (at 2 (read names p.2))))

-- `{"let":["x",e,b]}`, with x bound in b
abbrev pub binding_parts : Reader → Names → Value × Value × Value → Outcome Expression
binding_parts read names p =
    made (λ q. bind q.0 q.1.0 q.1.1)
    (both (at 0 (binder_read p.0)) (both (at 1 (read names p.1)) (at 2 (read (bound names p.0) p.2))))

abbrev pub triple_parts : Reader → Triple → Names → Value × Value × Value → Outcome Expression
triple_parts read (triple.Walk form) names p = walk_parts read form names p
triple_parts read triple.Choice names p = choice_parts read names p
triple_parts read triple.Binding names p = binding_parts read names p

-- the forms of three parts
abbrev pub triple_read : Reader → Triple → Reader
triple_read read form names v = of_parts (triple_in v) (triple_parts read form names)

-- `{"list":[e,e]}`
abbrev pub items_read : Reader → Names → ℕ → Items → Outcome (List Expression)
items_read read names i no_parts = reads []
items_read read names i (part v ps) = made (λ q. q.0 ∷ q.1) (both (at i (read names v)) (items_read read names (i + 1) ps))

abbrev pub list_read : Reader → Reader
list_read read names v = of_parts (items_in v) (λ ps. made (λ es. syntax.list (expressions es)) (items_read read names 0 ps))

-- `{"make":{"k":e}}`
abbrev pub member_read : Reader → Names → List ℕ → Value → Outcome (List ℕ × Expression)
member_read read names k v = made (λ e. (k, e)) (under k (read names v))

abbrev pub members_read : Reader → Names → Fields → Outcome (List (List ℕ × Expression))
members_read read names no_members = reads []
members_read read names (member k v ms) = made (λ q. q.0 ∷ q.1) (both (member_read read names k v) (members_read read names ms))

abbrev pub make_read : Reader → Reader
make_read read names v = of_parts (fields_in v) (λ ms. made (λ es. make (members es)) (members_read read names ms))

-- the expression of a form that speaks of a model: without a model it goes astray itself, before what stands in it
unfoldable pub aimed : (ModelNo → Expression → Expression) → Option ModelNo → Outcome Expression → Outcome Expression
aimed form target (wrong f) = wrong f
aimed form None (astray place) = astray []
aimed form None (reads e) = astray []
aimed form (Some m) (astray place) = astray place
aimed form (Some m) (reads e) = reads (form m e)

-- `{"find":["M",e]}`, where M has an identifier, and `{"is":[e,"M"]}`
abbrev pub aim_made : Aim → ModelNo → Expression → Expression
aim_made aim.Find m e = find m e
aim_made aim.Is m e = is e m

abbrev pub aim_target : Lookup → Aim → Value × Value → Option ModelNo
aim_target lookup aim.Find p = named_by identified lookup p.0
aim_target lookup aim.Is p = named_by model lookup p.1

abbrev pub aim_parts : Lookup → Reader → Aim → Names × Value × Value → Outcome Expression
aim_parts lookup read aim.Find p = made (λ q. q.1) (both (at 0 (entry_read lookup p.1)) (at 1 (read p.0 p.2)))
aim_parts lookup read aim.Is p = made (λ q. q.0) (both (at 0 (read p.0 p.1)) (at 1 (entry_read lookup p.2)))

abbrev pub aim_inside : Lookup → Reader → Aim → Names → List ℕ → Option (Value × Value) → Outcome Expression
aim_inside lookup read form names k parts =
    aimed (aim_made form) (option_and_then (aim_target lookup form) parts) (under k (of_parts parts (λ p. aim_parts lookup read form (names, p.0, p.1))))

abbrev pub aim_read : Lookup → Reader → Aim → Names → List ℕ → Value → Outcome Expression
aim_read lookup read form names k v = aim_inside lookup read form names k (pair_in v)

-- what stands under the key of a form that speaks of no model
abbrev pub group_read : Reader → Group → Reader
group_read read (group.Leaf form) names v = leaf_read names form v
group_read read (group.One form) names v = made (one_made form) (read names v)
group_read read (group.Pair form) names v = pair_read read form names v
group_read read (group.Triple form) names v = triple_read read form names v
group_read read group.List names v = list_read read names v
group_read read group.Make names v = make_read read names v

-- an object with this one key, which stands for a form
abbrev pub Formed : Type 0
Formed = Key × List ℕ × Value

abbrev pub keyed_read : Lookup → Reader → Names → Formed → Outcome Expression
keyed_read lookup read names (key.Aim form, k, v) = aim_read lookup read form names k v
keyed_read lookup read names (key.Group form, k, v) = under k (group_read read form names v)

-- a value's own form: an object with one key that stands for a form, or else a scalar
abbrev pub known : List ℕ → Value → Option Key → Outcome (Option Formed)
known k v (Some form) = reads (Some (form, k, v))
known k v None = here Shape

abbrev pub own_form : Value → Outcome (Option Formed)
own_form (dict a (member k v no_members)) = known k v (key_of k)
own_form (dict a ms) = here Shape
own_form (list a ps) = here Shape
own_form (integer z) = if_so (is_whole z) Shape None
own_form v = reads None

-- a scalar stands for itself
abbrev pub formed_read : Lookup → Reader → Names → Value → Option Formed → Outcome Expression
formed_read lookup read names v None = reads (constant v)
formed_read lookup read names v (Some formed) = keyed_read lookup read names formed

-- A value as an expression, in which no more than so many expressions are open. One that is open beyond them is at fault behind its own form.
unfoldable pub expr_read : Lookup → ℕ → Reader
expr_read lookup zero names v = and_then (own_form v) (λ formed. here Depth)
expr_read lookup (suc room) names v = and_then (own_form v) (formed_read lookup (expr_read lookup room) names v)

-- at most 24 are open
unfoldable pub most_open : ℕ
most_open = 24

abbrev pub expression_read : Lookup → Reader
expression_read lookup names v = expr_read lookup most_open names v

-- The keys of expressions: which form each stands for.
use Rattle.std.specs.Prelude.{ℕ, List, codes, Option, Some, None, if◌then◌else◌}
use Rattle.std.specs.Option.{option_map}
use Rattle.std.specs.Str.{bytes_eq}
use Rattle.expr_form.specs.declared.keys.Key.{Key}
use Rattle.expr_form.specs.declared.keys.Key.TheVariants as key
use Rattle.expr_form.specs.declared.keys.Group.{Group}
use Rattle.expr_form.specs.declared.keys.Group.TheVariants as group
use Rattle.expr_form.specs.declared.keys.Aim.TheVariants as aim
use Rattle.expr_form.specs.declared.keys.Pair.TheVariants as pair
use Rattle.expr_form.specs.declared.keys.Triple.TheVariants as triple
use Rattle.expr_form.specs.declared.keys.Leaf.{Leaf}
use Rattle.expr_form.specs.declared.keys.Leaf.TheVariants as leaf
use Rattle.expr_form.specs.declared.keys.One.{One}
use Rattle.expr_form.specs.declared.keys.One.TheVariants as one
use Rattle.expr_form.specs.declared.keys.Two.{Two}
use Rattle.expr_form.specs.declared.keys.Two.TheVariants as two
use Rattle.expr_form.specs.declared.keys.Named.TheVariants as named
use Rattle.expr_form.specs.declared.keys.Walk.{Walk}
use Rattle.expr_form.specs.declared.keys.Walk.TheVariants as walk

-- the forms that hold no expression
abbrev pub leaf_of : List ℕ → Option Leaf
leaf_of text =
    if bytes_eq text (codes "const") then Some leaf.Const
    else if bytes_eq text (codes "var") then Some leaf.Var
    else if bytes_eq text (codes "own") then Some leaf.Own
    else None

-- the forms of one expression
abbrev pub one_of : List ℕ → Option One
one_of text =
    if bytes_eq text (codes "size") then Some one.Size
    else if bytes_eq text (codes "keys") then Some one.Keys
    else if bytes_eq text (codes "items") then Some one.Items
    else if bytes_eq text (codes "text") then Some one.Text
    else if bytes_eq text (codes "not") then Some one.Not
    else if bytes_eq text (codes "snapshot") then Some one.Snapshot
    else if bytes_eq text (codes "path") then Some one.Path
    else None

-- the forms of two expressions
abbrev pub two_of : List ℕ → Option Two
two_of text =
    if bytes_eq text (codes "item") then Some two.Item
    else if bytes_eq text (codes "has") then Some two.Has
    else if bytes_eq text (codes "add") then Some two.Add
    else if bytes_eq text (codes "sub") then Some two.Sub
    else if bytes_eq text (codes "mul") then Some two.Mul
    else if bytes_eq text (codes "div") then Some two.Div
    else if bytes_eq text (codes "mod") then Some two.Mod
    else if bytes_eq text (codes "concat") then Some two.Concat
    else if bytes_eq text (codes "eq") then Some two.Eq
    else if bytes_eq text (codes "lt") then Some two.Lt
    else if bytes_eq text (codes "and") then Some two.And
    else if bytes_eq text (codes "or") then Some two.Or
    else None

-- the forms that bind a name to each walked value
abbrev pub walk_of : List ℕ → Option Walk
walk_of text =
    if bytes_eq text (codes "filter") then Some walk.Filter
    else if bytes_eq text (codes "collect") then Some walk.Collect
    else if bytes_eq text (codes "all") then Some walk.All
    else if bytes_eq text (codes "any") then Some walk.Any
    else if bytes_eq text (codes "sum") then Some walk.Sum
    else None

-- the forms of an expression and a name, and those that are the only ones of their kind
abbrev pub other_of : List ℕ → Option Group
other_of text =
    if bytes_eq text (codes "get") then Some (group.Pair (pair.Named named.Get))
    else if bytes_eq text (codes "ref") then Some (group.Pair (pair.Named named.Ref))
    else if bytes_eq text (codes "if") then Some (group.Triple triple.Choice)
    else if bytes_eq text (codes "let") then Some (group.Triple triple.Binding)
    else if bytes_eq text (codes "list") then Some group.List
    else if bytes_eq text (codes "make") then Some group.Make
    else None

abbrev pub or_else : {A : Type 0} → Option A → Option A → Option A
or_else (Some a) other = Some a
or_else None other = other

-- the group of a form that speaks of no model
abbrev pub group_of : List ℕ → Option Group
group_of text =
    or_else (option_map group.Leaf (leaf_of text))
    (or_else (option_map group.One (one_of text))
    (or_else (option_map (λ t. group.Pair (pair.Two t)) (two_of text))
    (or_else (option_map (λ w. group.Triple (triple.Walk w)) (walk_of text)) (other_of text))))

-- the form of an expression that is an object with one key
abbrev pub key_of : List ℕ → Option Key
key_of text =
    if bytes_eq text (codes "find") then Some (key.Aim aim.Find)
    else if bytes_eq text (codes "is") then Some (key.Aim aim.Is)
    else option_map key.Group (group_of text)

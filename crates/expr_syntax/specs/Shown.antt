-- The expression that an `Expr` or a `Form` shows.
use Rattle.std.specs.Prelude.{ℕ, List, [], ◌∷◌}
use Rattle.snap_core.specs.View.{view}
use Rattle.expr_syntax.specs.declared.expr.Expr.{Expr}
use Rattle.expr_syntax.specs.declared.expr.Form.{Form}
use Rattle.expr_syntax.specs.declared.expr.Form.TheFolds.{fold-Form, fold-Expr}
use Rattle.expr_syntax.specs.declared.expr.Form.TheOpen.{Form-F, Entry-F, Expr-F}
use Rattle.expr_syntax.specs.declared.op.Op.{Op}
use Rattle.expr_syntax.specs.Syntax.{Expression, Expressions, Members, filter, collect, all, any, sum, keys, items, snapshot, path, constant, variable, own, get, ref, one_sided, two_sided, telling, walk, both, either, choice, bind, list, make, find, is, no_more, more, no_members, member}

-- expressions in order
abbrev pub expressions : List Expression → Expressions
expressions [] = no_more
expressions (e ∷ es) = more e (expressions es)

-- the entries of a record that is made
abbrev pub members : List (List ℕ × Expression) → Members
members [] = no_members
members (m ∷ ms) = member m.0 m.1 (members ms)

-- an expression shows what its form shows
abbrev pub expr_step : Expr-F Expression (List ℕ × Expression) Expression → Expression
expr_step e = e.form

abbrev pub entry_step : Entry-F Expression (List ℕ × Expression) Expression → List ℕ × Expression
entry_step m = (m.key, m.value)

-- one form, with each part already seen as the expression that it shows
abbrev pub form_step : Form-F Expression (List ℕ × Expression) Expression → Expression
form_step (Form-F.Const v) = constant (view v)
form_step (Form-F.Var x) = variable x
form_step (Form-F.Own p) = own p
form_step (Form-F.Get e p) = get e.value p
form_step (Form-F.Ref e p) = ref e.value p
form_step (Form-F.Item e k) = two_sided Op.Item e.value k.value
form_step (Form-F.Has e k) = two_sided Op.Has e.value k.value
form_step (Form-F.Size e) = one_sided Op.Size e.value
form_step (Form-F.Keys e) = telling keys e.value
form_step (Form-F.Items e) = telling items e.value
form_step (Form-F.Filter e x b) = walk filter e.value x b.value
form_step (Form-F.Collect e x b) = walk collect e.value x b.value
form_step (Form-F.All e x b) = walk all e.value x b.value
form_step (Form-F.Any e x b) = walk any e.value x b.value
form_step (Form-F.Sum e x b) = walk sum e.value x b.value
form_step (Form-F.Add a b) = two_sided Op.Add a.value b.value
form_step (Form-F.Sub a b) = two_sided Op.Sub a.value b.value
form_step (Form-F.Mul a b) = two_sided Op.Mul a.value b.value
form_step (Form-F.Div a b) = two_sided Op.Div a.value b.value
form_step (Form-F.Mod a b) = two_sided Op.Mod a.value b.value
form_step (Form-F.Concat a b) = two_sided Op.Concat a.value b.value
form_step (Form-F.Text e) = one_sided Op.Text e.value
form_step (Form-F.Eq a b) = two_sided Op.Eq a.value b.value
form_step (Form-F.Lt a b) = two_sided Op.Lt a.value b.value
form_step (Form-F.Not e) = one_sided Op.Not e.value
form_step (Form-F.And a b) = both a.value b.value
form_step (Form-F.Or a b) = either a.value b.value
form_step (Form-F.If c a b) = choice c.value a.value b.value
form_step (Form-F.Let x e b) = bind x e.value b.value
form_step (Form-F.List es) = list (expressions es)
form_step (Form-F.Make ms) = make (members ms)
form_step (Form-F.Snapshot e) = telling snapshot e.value
form_step (Form-F.Path e) = telling path e.value
form_step (Form-F.Find m e) = find m e.value
form_step (Form-F.Is e m) = is e.value m

abbrev pub form_shown : Form → Expression
form_shown = fold-Form Expression (List ℕ × Expression) Expression form_step entry_step expr_step

abbrev pub shown : Expr → Expression
shown = fold-Expr Expression (List ℕ × Expression) Expression form_step entry_step expr_step

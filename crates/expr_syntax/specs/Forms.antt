-- What each form shows.
use Rattle.std.proofs.Common.{◌≡◌, ℕ, List, map, sym, ◌∙◌, ap}
use Rattle.std.specs.Prelude.{Box}
use Rattle.std.specs.declared.alloc.Global.{Global}
use Rattle.snap_core.specs.View.{view}
use Rattle.snap_core.specs.declared.snap.Snap.{Snap}
use Rattle.snap_core.specs.declared.number.ModelNo.{ModelNo}
use Rattle.expr_syntax.specs.declared.op.Op.{Op}
use Rattle.expr_syntax.specs.declared.expr.Expr.{Expr}
use Rattle.expr_syntax.specs.declared.expr.Entry.{Entry}
use Rattle.expr_syntax.specs.declared.expr.Form.{Form}
use Rattle.expr_syntax.specs.declared.expr.Form
use Rattle.expr_syntax.specs.declared.expr.Form.TheFolds.{fold-roll-Form, fold_out-Entry, fold-Entry}
use Rattle.expr_syntax.specs.declared.expr.Form.TheOpen.{Form-F}
use Rattle.expr_syntax.specs.declared.expr.Form.TheVariants.{rolls-Const, rolls-Var, rolls-Own, rolls-Get, rolls-Ref, rolls-Item, rolls-Has, rolls-Size, rolls-Keys, rolls-Items, rolls-Filter, rolls-Collect, rolls-All, rolls-Any, rolls-Sum, rolls-Add, rolls-Sub, rolls-Mul, rolls-Div, rolls-Mod, rolls-Concat, rolls-Text, rolls-Eq, rolls-Lt, rolls-Not, rolls-And, rolls-Or, rolls-If, rolls-Let, rolls-List, rolls-Make, rolls-Snapshot, rolls-Path, rolls-Find, rolls-Is}
use Rattle.expr_syntax.specs.Syntax.{Expression, filter, collect, all, any, sum, keys, items, snapshot, path, constant, variable, own, get, ref, one_sided, two_sided, telling, walk, both, either, choice, bind, list, make, find, is}
use Rattle.expr_syntax.specs.Shown.{shown, form_shown, form_step, entry_step, expr_step, expressions, members}

-- an expression that is a part of a form, and what it shows
abbrev pub Boxed : Type 0
Boxed = Box Expr Global

abbrev pub inside : Boxed → Expression
inside e = shown e.value

-- an entry of a record that is made: its key, and what its expression shows
abbrev pub entry_shown : Entry → List ℕ × Expression
entry_shown = fold-Entry Expression (List ℕ × Expression) Expression form_step entry_step expr_step

pub entry-parts : (m : Entry) → entry_shown m ≡ (m.key, shown m.value)
entry-parts m = fold_out-Entry Expression (List ℕ × Expression) Expression form_step entry_step expr_step m

pub form-Const : (v : Snap) → form_shown (Form.Const v) ≡ constant (view v)
form-Const v = ap form_shown (sym (rolls-Const v)) ∙ fold-roll-Form Expression (List ℕ × Expression) Expression form_step entry_step expr_step (Form-F.Const v)

pub form-Var : (x : List ℕ) → form_shown (Form.Var x) ≡ variable x
form-Var x = ap form_shown (sym (rolls-Var x)) ∙ fold-roll-Form Expression (List ℕ × Expression) Expression form_step entry_step expr_step (Form-F.Var x)

pub form-Own : (p : List ℕ) → form_shown (Form.Own p) ≡ own p
form-Own p = ap form_shown (sym (rolls-Own p)) ∙ fold-roll-Form Expression (List ℕ × Expression) Expression form_step entry_step expr_step (Form-F.Own p)

pub form-Get : (e : Boxed) (p : List ℕ) → form_shown (Form.Get e p) ≡ get (inside e) p
form-Get e p = ap form_shown (sym (rolls-Get e p)) ∙ fold-roll-Form Expression (List ℕ × Expression) Expression form_step entry_step expr_step (Form-F.Get e p)

pub form-Ref : (e : Boxed) (p : List ℕ) → form_shown (Form.Ref e p) ≡ ref (inside e) p
form-Ref e p = ap form_shown (sym (rolls-Ref e p)) ∙ fold-roll-Form Expression (List ℕ × Expression) Expression form_step entry_step expr_step (Form-F.Ref e p)

pub form-Item : (a b : Boxed) → form_shown (Form.Item a b) ≡ two_sided Op.Item (inside a) (inside b)
form-Item a b = ap form_shown (sym (rolls-Item a b)) ∙ fold-roll-Form Expression (List ℕ × Expression) Expression form_step entry_step expr_step (Form-F.Item a b)

pub form-Has : (a b : Boxed) → form_shown (Form.Has a b) ≡ two_sided Op.Has (inside a) (inside b)
form-Has a b = ap form_shown (sym (rolls-Has a b)) ∙ fold-roll-Form Expression (List ℕ × Expression) Expression form_step entry_step expr_step (Form-F.Has a b)

pub form-Size : (e : Boxed) → form_shown (Form.Size e) ≡ one_sided Op.Size (inside e)
form-Size e = ap form_shown (sym (rolls-Size e)) ∙ fold-roll-Form Expression (List ℕ × Expression) Expression form_step entry_step expr_step (Form-F.Size e)

pub form-Keys : (e : Boxed) → form_shown (Form.Keys e) ≡ telling keys (inside e)
form-Keys e = ap form_shown (sym (rolls-Keys e)) ∙ fold-roll-Form Expression (List ℕ × Expression) Expression form_step entry_step expr_step (Form-F.Keys e)

pub form-Items : (e : Boxed) → form_shown (Form.Items e) ≡ telling items (inside e)
form-Items e = ap form_shown (sym (rolls-Items e)) ∙ fold-roll-Form Expression (List ℕ × Expression) Expression form_step entry_step expr_step (Form-F.Items e)

pub form-Filter : (e : Boxed) (x : List ℕ) (b : Boxed) → form_shown (Form.Filter e x b) ≡ walk filter (inside e) x (inside b)
form-Filter e x b = ap form_shown (sym (rolls-Filter e x b)) ∙ fold-roll-Form Expression (List ℕ × Expression) Expression form_step entry_step expr_step (Form-F.Filter e x b)

pub form-Collect : (e : Boxed) (x : List ℕ) (b : Boxed) → form_shown (Form.Collect e x b) ≡ walk collect (inside e) x (inside b)
form-Collect e x b = ap form_shown (sym (rolls-Collect e x b)) ∙ fold-roll-Form Expression (List ℕ × Expression) Expression form_step entry_step expr_step (Form-F.Collect e x b)

pub form-All : (e : Boxed) (x : List ℕ) (b : Boxed) → form_shown (Form.All e x b) ≡ walk all (inside e) x (inside b)
form-All e x b = ap form_shown (sym (rolls-All e x b)) ∙ fold-roll-Form Expression (List ℕ × Expression) Expression form_step entry_step expr_step (Form-F.All e x b)

pub form-Any : (e : Boxed) (x : List ℕ) (b : Boxed) → form_shown (Form.Any e x b) ≡ walk any (inside e) x (inside b)
form-Any e x b = ap form_shown (sym (rolls-Any e x b)) ∙ fold-roll-Form Expression (List ℕ × Expression) Expression form_step entry_step expr_step (Form-F.Any e x b)

pub form-Sum : (e : Boxed) (x : List ℕ) (b : Boxed) → form_shown (Form.Sum e x b) ≡ walk sum (inside e) x (inside b)
form-Sum e x b = ap form_shown (sym (rolls-Sum e x b)) ∙ fold-roll-Form Expression (List ℕ × Expression) Expression form_step entry_step expr_step (Form-F.Sum e x b)

pub form-Add : (a b : Boxed) → form_shown (Form.Add a b) ≡ two_sided Op.Add (inside a) (inside b)
form-Add a b = ap form_shown (sym (rolls-Add a b)) ∙ fold-roll-Form Expression (List ℕ × Expression) Expression form_step entry_step expr_step (Form-F.Add a b)

pub form-Sub : (a b : Boxed) → form_shown (Form.Sub a b) ≡ two_sided Op.Sub (inside a) (inside b)
form-Sub a b = ap form_shown (sym (rolls-Sub a b)) ∙ fold-roll-Form Expression (List ℕ × Expression) Expression form_step entry_step expr_step (Form-F.Sub a b)

pub form-Mul : (a b : Boxed) → form_shown (Form.Mul a b) ≡ two_sided Op.Mul (inside a) (inside b)
form-Mul a b = ap form_shown (sym (rolls-Mul a b)) ∙ fold-roll-Form Expression (List ℕ × Expression) Expression form_step entry_step expr_step (Form-F.Mul a b)

pub form-Div : (a b : Boxed) → form_shown (Form.Div a b) ≡ two_sided Op.Div (inside a) (inside b)
form-Div a b = ap form_shown (sym (rolls-Div a b)) ∙ fold-roll-Form Expression (List ℕ × Expression) Expression form_step entry_step expr_step (Form-F.Div a b)

pub form-Mod : (a b : Boxed) → form_shown (Form.Mod a b) ≡ two_sided Op.Mod (inside a) (inside b)
form-Mod a b = ap form_shown (sym (rolls-Mod a b)) ∙ fold-roll-Form Expression (List ℕ × Expression) Expression form_step entry_step expr_step (Form-F.Mod a b)

pub form-Concat : (a b : Boxed) → form_shown (Form.Concat a b) ≡ two_sided Op.Concat (inside a) (inside b)
form-Concat a b = ap form_shown (sym (rolls-Concat a b)) ∙ fold-roll-Form Expression (List ℕ × Expression) Expression form_step entry_step expr_step (Form-F.Concat a b)

pub form-Text : (e : Boxed) → form_shown (Form.Text e) ≡ one_sided Op.Text (inside e)
form-Text e = ap form_shown (sym (rolls-Text e)) ∙ fold-roll-Form Expression (List ℕ × Expression) Expression form_step entry_step expr_step (Form-F.Text e)

pub form-Eq : (a b : Boxed) → form_shown (Form.Eq a b) ≡ two_sided Op.Eq (inside a) (inside b)
form-Eq a b = ap form_shown (sym (rolls-Eq a b)) ∙ fold-roll-Form Expression (List ℕ × Expression) Expression form_step entry_step expr_step (Form-F.Eq a b)

pub form-Lt : (a b : Boxed) → form_shown (Form.Lt a b) ≡ two_sided Op.Lt (inside a) (inside b)
form-Lt a b = ap form_shown (sym (rolls-Lt a b)) ∙ fold-roll-Form Expression (List ℕ × Expression) Expression form_step entry_step expr_step (Form-F.Lt a b)

pub form-Not : (e : Boxed) → form_shown (Form.Not e) ≡ one_sided Op.Not (inside e)
form-Not e = ap form_shown (sym (rolls-Not e)) ∙ fold-roll-Form Expression (List ℕ × Expression) Expression form_step entry_step expr_step (Form-F.Not e)

pub form-And : (a b : Boxed) → form_shown (Form.And a b) ≡ both (inside a) (inside b)
form-And a b = ap form_shown (sym (rolls-And a b)) ∙ fold-roll-Form Expression (List ℕ × Expression) Expression form_step entry_step expr_step (Form-F.And a b)

pub form-Or : (a b : Boxed) → form_shown (Form.Or a b) ≡ either (inside a) (inside b)
form-Or a b = ap form_shown (sym (rolls-Or a b)) ∙ fold-roll-Form Expression (List ℕ × Expression) Expression form_step entry_step expr_step (Form-F.Or a b)

pub form-If : (c a b : Boxed) → form_shown (Form.If c a b) ≡ choice (inside c) (inside a) (inside b)
form-If c a b = ap form_shown (sym (rolls-If c a b)) ∙ fold-roll-Form Expression (List ℕ × Expression) Expression form_step entry_step expr_step (Form-F.If c a b)

pub form-Let : (x : List ℕ) (e b : Boxed) → form_shown (Form.Let x e b) ≡ bind x (inside e) (inside b)
form-Let x e b = ap form_shown (sym (rolls-Let x e b)) ∙ fold-roll-Form Expression (List ℕ × Expression) Expression form_step entry_step expr_step (Form-F.Let x e b)

pub form-List : (es : List Expr) → form_shown (Form.List es) ≡ list (expressions (map shown es))
form-List es = ap form_shown (sym (rolls-List es)) ∙ fold-roll-Form Expression (List ℕ × Expression) Expression form_step entry_step expr_step (Form-F.List es)

pub form-Make : (ms : List Entry) → form_shown (Form.Make ms) ≡ make (members (map entry_shown ms))
form-Make ms = ap form_shown (sym (rolls-Make ms)) ∙ fold-roll-Form Expression (List ℕ × Expression) Expression form_step entry_step expr_step (Form-F.Make ms)

pub form-Snapshot : (e : Boxed) → form_shown (Form.Snapshot e) ≡ telling snapshot (inside e)
form-Snapshot e = ap form_shown (sym (rolls-Snapshot e)) ∙ fold-roll-Form Expression (List ℕ × Expression) Expression form_step entry_step expr_step (Form-F.Snapshot e)

pub form-Path : (e : Boxed) → form_shown (Form.Path e) ≡ telling path (inside e)
form-Path e = ap form_shown (sym (rolls-Path e)) ∙ fold-roll-Form Expression (List ℕ × Expression) Expression form_step entry_step expr_step (Form-F.Path e)

pub form-Find : (m : ModelNo) (e : Boxed) → form_shown (Form.Find m e) ≡ find m (inside e)
form-Find m e = ap form_shown (sym (rolls-Find m e)) ∙ fold-roll-Form Expression (List ℕ × Expression) Expression form_step entry_step expr_step (Form-F.Find m e)

pub form-Is : (e : Boxed) (m : ModelNo) → form_shown (Form.Is e m) ≡ is (inside e) m
form-Is e m = ap form_shown (sym (rolls-Is e m)) ∙ fold-roll-Form Expression (List ℕ × Expression) Expression form_step entry_step expr_step (Form-F.Is e m)

-- all of them
pub ruleset forms = (form-Const, form-Var, form-Own, form-Get, form-Ref, form-Item, form-Has, form-Size, form-Keys, form-Items, form-Filter, form-Collect, form-All, form-Any, form-Sum, form-Add, form-Sub, form-Mul, form-Div, form-Mod, form-Concat, form-Text, form-Eq, form-Lt, form-Not, form-And, form-Or, form-If, form-Let, form-List, form-Make, form-Snapshot, form-Path, form-Find, form-Is, entry-parts)

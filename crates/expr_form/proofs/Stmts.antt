-- Statements by their own form, what they bind, and one after the other.
use Rattle.std.proofs.Common.{◌≡◌, ℕ, zero, suc, ◌+◌, ◌-◌, ◌<◌, ◌≤◌, List, [], ◌∷◌, ◌++◌, length, get_or, take, drop, Result, Err, Option, Some, None, refl, ◌∙◌, ap, drop-cons, add-one, arith}
use Rattle.std.specs.Prelude.{IsErrAnd}
use Rattle.std.proofs.lemmas.List.{drop_all}
use Rattle.snap_core.specs.Value.{Value, null, boolean, integer, text, list, dict, no_members, member}
use Rattle.snap_core.specs.View.{view, items_view, fields_view}
use Rattle.snap_core.specs.declared.snap.Snap.{Snap}
use Rattle.snap_core.specs.declared.snap.Field.{Field}
use Rattle.snap_core.proofs.Views.{entry-fields}
use Rattle.pointer_core.specs.declared.schema_rule.SchemaRule.TheVariants.{Shape, Depth}
use Rattle.expr_syntax.specs.Syntax.{Statement}
use Rattle.expr_syntax.specs.ShownStatements.{stmt_shown}
use Rattle.expr_syntax.specs.declared.stmt.Stmt.{Stmt}
use Rattle.expr_form.specs.declared.fault.Trouble.{Trouble}
use Rattle.expr_form.specs.declared.fault.Trouble.TheVariants.{Wrong}
use Rattle.expr_form.specs.Names.{bound}
use Rattle.expr_form.specs.Models.{Lookup}
use Rattle.expr_form.specs.StmtKeys.{stmt_key_of}
use Rattle.expr_form.specs.Outcome.{reads, here, at, Tells, and_then}
use Rattle.expr_form.specs.Expressions.{Names, expression_read}
use Rattle.expr_form.specs.Statements.{StmtReader, StmtFormed, own_stmt, stmt_known, formed_stmt, block_read, stmt_read, stmts_read, let_name, bound_if, bound_after}
use Rattle.expr_form.proofs.Telling.{tells-here}
use Rattle.expr_form.proofs.Joining.{with_first}
use Rattle.expr_form.proofs.Rooms.{stopped}

module _ (look : Lookup) where
  pub stmt-stopped : {A : Type 0} (seen : A → StmtFormed) (room : ℕ) (names : Names) (v : Value) (e : Trouble) (r : Result Stmt Trouble)
      → IsErrAnd r (λ x. x ≡ e) → Tells {A = A} seen (Err e) (own_stmt v) → Tells stmt_shown r (stmt_read look room names v)
  unfolding stmt_read
  stmt-stopped seen zero names v e r is h = stopped seen stmt_shown e r (own_stmt v) (λ formed. here Depth) is h
  stmt-stopped seen (suc room) names v e r is h =
      stopped seen stmt_shown e r (own_stmt v) (formed_stmt (expression_read look) (block_read (stmt_read look room)) names) is h

  shut : (names : Names) (v : Value) (formed : StmtFormed) → own_stmt v ≡ reads formed → stmt_read look 0 names v ≡ here Depth
  unfolding stmt_read and_then
  shut names v formed own = ap (λ o. and_then o (λ (f : StmtFormed). here {A = Statement} Depth)) own

  pub stmt-closed : (room : ℕ) (names : Names) (v : Value) (formed : StmtFormed) (t : Trouble)
      → room ≡ 0 → own_stmt v ≡ reads formed → t ≡ Wrong (record { path = []; rule = Depth }) → Tells stmt_shown (Err t) (stmt_read look room names v)
  stmt-closed room names v formed t none own bad =
      tells-here stmt_shown t Depth (stmt_read look room names v) bad (ap (λ n. stmt_read look n names v) none ∙ shut names v formed own)

  pub stmt-open : (room : ℕ) (names : Names) (v : Value) (formed : StmtFormed) → 0 < room → own_stmt v ≡ reads formed
      → stmt_read look room names v ≡ formed_stmt (expression_read look) (block_read (stmt_read look (room - 1))) names formed
  unfolding stmt_read and_then
  stmt-open zero names v formed some own = absurd (omega arith)
  stmt-open (suc room) names v formed some own =
      let less : room ≡ suc room - 1 = omega arith in
      ap (λ o. and_then o (formed_stmt (expression_read look) (block_read (stmt_read look room)) names)) own
      ∙ ap (λ n. formed_stmt (expression_read look) (block_read (stmt_read look n)) names formed) less

-- objects with one key
pub stmt-other : (fs : List Field) → (length fs ≡ 1 → ⊥) → own_stmt (dict tt (fields_view fs)) ≡ here Shape
stmt-other [] other = refl
stmt-other (f ∷ []) other = absurd (other refl)
stmt-other (f ∷ g ∷ fs) other = refl

pub stmt-one : (fs : List Field) (f : Field) → length fs ≡ 1 → f ≡ get_or fs 0 f → own_stmt (dict tt (fields_view fs)) ≡ stmt_known f.key (view f.value) (stmt_key_of f.key)
stmt-one [] f one here = absurd (omega (arith, one))
stmt-one (g ∷ []) f one here = rw (here) (rw (entry-fields g) refl)
stmt-one (g ∷ h ∷ fs) f one here = absurd (omega (arith, one))

pub let-other : (fs : List Field) → (length fs ≡ 1 → ⊥) → let_name (dict tt (fields_view fs)) ≡ None
let-other [] other = refl
let-other (f ∷ []) other = absurd (other refl)
let-other (f ∷ g ∷ fs) other = refl

pub let-one : (fs : List Field) (f : Field) → length fs ≡ 1 → f ≡ get_or fs 0 f → let_name (dict tt (fields_view fs)) ≡ let_name (dict tt (member f.key (view f.value) no_members))
let-one [] f one here = absurd (omega (arith, one))
let-one (g ∷ []) f one here = rw (here) (rw (entry-fields g) refl)
let-one (g ∷ h ∷ fs) f one here = absurd (omega (arith, one))

-- the statements that are left
pub stmts-step : (read : StmtReader) (names : Names) (vs : List Snap) (i : ℕ) (v : Snap) → i < length vs → v ≡ get_or vs i v
    → stmts_read read names i (items_view (drop i vs)) ≡ with_first (at i (read names (view v))) (stmts_read read (bound_after names (view v)) (i + 1) (items_view (drop (i + 1) vs)))
stmts-step read names vs i v within here =
    let left : drop i vs ≡ v ∷ drop (i + 1) vs = rw (add-one, drop-cons vs i v, ← here) in
    ap (λ ws. stmts_read read names i (items_view ws)) left

pub stmts-end : (read : StmtReader) (names : Names) (vs : List Snap) (i : ℕ) → length vs ≤ i → stmts_read read names i (items_view (drop i vs)) ≡ reads []
stmts-end read names vs i past = ap (λ ws. stmts_read read names i (items_view ws)) (drop_all i vs past)

-- what was bound before stays bound
take-longer : (first names others : Names) → take (length first) names ≡ first → take (length first) (names ++ others) ≡ first
take-longer [] [] [] h = refl
take-longer [] [] (x ∷ others) h = refl
take-longer [] (n ∷ names) others h = refl
take-longer (f ∷ first) [] others h = absurd cc
take-longer (f ∷ first) (n ∷ names) others h =
    let heads : n ≡ f = cc in
    let tails : take (length first) names ≡ first = cc in
    ap (λ ns. n ∷ ns) (take-longer first names others tails) ∙ ap (λ x. x ∷ first) heads

kept-bound : (first names : Names) (v : Value) → take (length first) names ≡ first → take (length first) (bound names v) ≡ first
kept-bound first names (text s) h = take-longer first names (s ∷ []) h
kept-bound first names null h = h
kept-bound first names (boolean b) h = h
kept-bound first names (integer z) h = h
kept-bound first names (list a ps) h = h
kept-bound first names (dict a ms) h = h

kept-if : (first names : Names) (o : Option Value) → take (length first) names ≡ first → take (length first) (bound_if names o) ≡ first
kept-if first names (Some v) h = kept-bound first names v h
kept-if first names None h = h

pub kept-after : (first names : Names) (v : Value) → take (length first) names ≡ first → take (length first) (bound_after names v) ≡ first
kept-after first names v h = kept-if first names (let_name v) h

-- An expression by its own form, where more of them may be open and where none may.
use Rattle.std.proofs.Common.{◌≡◌, ℕ, zero, suc, ◌-◌, ◌<◌, List, [], ◌∷◌, ◌++◌, length, take, Result, Ok, Err, Option, Some, None, refl, sym, ◌∙◌, ap, subst, arith}
use Rattle.std.specs.Prelude.{IsErrAnd}
use Rattle.snap_core.specs.Value.{Value, null, boolean, integer, text, list, dict}
use Rattle.pointer_core.specs.declared.schema_rule.SchemaRule.TheVariants.{Shape, Depth}
use Rattle.expr_syntax.specs.Syntax.{Expression}
use Rattle.expr_syntax.specs.Shown.{shown}
use Rattle.expr_syntax.specs.declared.expr.Expr.{Expr}
use Rattle.expr_form.specs.declared.fault.Trouble.{Trouble}
use Rattle.expr_form.specs.declared.fault.Trouble.TheVariants.{Memory, Wrong, Astray}
use Rattle.expr_form.specs.declared.keys.Aim.{Aim}
use Rattle.expr_form.specs.Names.{bound}
use Rattle.expr_form.specs.Models.{Lookup}
use Rattle.expr_form.specs.Outcome.{Outcome, reads, here, under, Tells, and_then, of_parts}
use Rattle.expr_form.specs.Expressions.{Names, Reader, Formed, own_form, formed_read, expr_read, aimed, aim_made, aim_target, aim_parts, aim_inside}
use Rattle.expr_form.proofs.Telling.{tells-here}

-- what isn't told further on is told as it is
module _ {A B C D : Type 0} (seen : A → B) (given : C → D) where
  pub stopped : (e : Trouble) (r : Result C Trouble) (o : Outcome B) (next : B → Outcome D) → IsErrAnd r (λ x. x ≡ e) → Tells {A = A} seen (Err e) o → Tells given r (and_then o next)
  unfolding and_then
  stopped e (Ok c) o next is h = absurd is
  stopped Memory (Err x) o next is h = let P : Trouble → Type 0 = λ y. Tells {A = C} given (Err y) (and_then o next) in subst P (sym is) tt
  stopped (Wrong f) (Err x) o next is h = let P : Trouble → Type 0 = λ y. Tells {A = C} given (Err y) (and_then o next) in subst P (sym is) (ap (λ z. and_then z next) h)
  stopped (Astray p) (Err x) o next is h = let P : Trouble → Type 0 = λ y. Tells {A = C} given (Err y) (and_then o next) in subst P (sym is) (ap (λ z. and_then z next) h)

module _ (look : Lookup) where
  pub read-stopped : {A : Type 0} (seen : A → Option Formed) (room : ℕ) (names : Names) (v : Value) (e : Trouble) (r : Result Expr Trouble)
      → IsErrAnd r (λ x. x ≡ e) → Tells {A = A} seen (Err e) (own_form v) → Tells shown r (expr_read look room names v)
  unfolding expr_read
  read-stopped seen zero names v e r is h = stopped seen shown e r (own_form v) (λ formed. here Depth) is h
  read-stopped seen (suc room) names v e r is h = stopped seen shown e r (own_form v) (formed_read look (expr_read look room) names v) is h

  closed : (names : Names) (v : Value) (formed : Option Formed) → own_form v ≡ reads formed → expr_read look 0 names v ≡ here Depth
  unfolding expr_read and_then
  closed names v formed own = ap (λ o. and_then o (λ (f : Option Formed). here {A = Expression} Depth)) own

  pub read-closed : (room : ℕ) (names : Names) (v : Value) (formed : Option Formed) (t : Trouble)
      → room ≡ 0 → own_form v ≡ reads formed → t ≡ Wrong (record { path = []; rule = Depth }) → Tells shown (Err t) (expr_read look room names v)
  read-closed room names v formed t none own bad =
      tells-here shown t Depth (expr_read look room names v) bad (ap (λ n. expr_read look n names v) none ∙ closed names v formed own)

  pub read-open : (room : ℕ) (names : Names) (v : Value) (formed : Option Formed) → 0 < room → own_form v ≡ reads formed
      → expr_read look room names v ≡ formed_read look (expr_read look (room - 1)) names v formed
  unfolding expr_read and_then
  read-open zero names v formed some own = absurd (omega arith)
  read-open (suc room) names v formed some own =
      let less : room ≡ suc room - 1 = omega arith in
      ap (λ o. and_then o (formed_read look (expr_read look room) names v)) own ∙ ap (λ n. formed_read look (expr_read look n) names v formed) less

  -- without two parts a form that speaks of a model is at fault, whatever it speaks of
  aim-none : (read : Reader) (form : Aim) (names : Names) (k : List ℕ) → aim_inside look read form names k None ≡ under k (here Shape)
  unfolding aimed under of_parts
  aim-none read form names k = refl

  pub no_aim : (read : Reader) (form : Aim) (names : Names) (k : List ℕ) (parts : Option (Value × Value)) → parts ≡ None → aim_inside look read form names k parts ≡ under k (here Shape)
  no_aim read form names k parts none = ap (aim_inside look read form names k) none ∙ aim-none read form names k

  pub one_aim : (read : Reader) (form : Aim) (names : Names) (k : List ℕ) (parts : Option (Value × Value)) (p : Value × Value) → parts ≡ Some p
      → aim_inside look read form names k parts ≡ aimed (aim_made form) (aim_target look form p) (under k (aim_parts look read form (names, p.0, p.1)))
  unfolding of_parts
  one_aim read form names k parts p some = ap (aim_inside look read form names k) some

-- the scope that is left after a binding
take-front : (names others : Names) → take (length names) (names ++ others) ≡ names
take-front [] [] = refl
take-front [] (n ∷ others) = refl
take-front (n ∷ names) others = ap (λ ns. n ∷ ns) (take-front names others)

take-all : (names : Names) → take (length names) names ≡ names
take-all [] = refl
take-all (n ∷ names) = ap (λ ns. n ∷ ns) (take-all names)

pub left-bound : (names : Names) (v : Value) → take (length names) (bound names v) ≡ names
left-bound names (text s) = take-front names (s ∷ [])
left-bound names null = take-all names
left-bound names (boolean b) = take-all names
left-bound names (integer z) = take-all names
left-bound names (list a ps) = take-all names
left-bound names (dict a ms) = take-all names

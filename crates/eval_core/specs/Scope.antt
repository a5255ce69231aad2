-- What an expression is evaluated by.
use Rattle.std.specs.Prelude.{ℕ, List, [], ◌∷◌, Option, Some, None, Result, Ok, Err, if◌then◌else◌}
use Rattle.std.specs.Str.{bytes_eq}
use Rattle.snap_core.specs.declared.number.ModelNo.{ModelNo}
use Rattle.snap_core.specs.declared.number.NodeNo.{NodeNo}
use Rattle.pointer_core.specs.declared.refusal.Rule.{Rule}
use Rattle.expr_syntax.specs.declared.number.ViewNo.{ViewNo}
use Rattle.expr_syntax.specs.Syntax.{Expression}
use Rattle.eval_core.specs.declared.site.Site.{Site}
use Rattle.eval_core.specs.Answer.{Answer}
use Rattle.eval_core.specs.Sight.{Sight}
use Rattle.eval_core.specs.Run.{Fault, Eval, lift}

-- what a name is in a model
pub data Member : Type 0 where
  property : Member
  view : ViewNo → Member

-- what a schema says of views
pub record Viewing : Type 0 where
  pub member_of : ModelNo → List ℕ → Option Member
  pub body_of : ViewNo → Expression

-- what is seen, how a view is asked, and where a refusal of the body itself is told
pub record Scope : Type 0 where
  pub viewing : Viewing
  pub sight : Sight
  pub ask : NodeNo → ViewNo → Eval Answer
  pub here : Site

-- the names that are bound, the latest first
abbrev pub Env : Type 0
Env = List (List ℕ × Answer)

abbrev pub bound_in : List ℕ → Env → Option Answer
bound_in name [] = None
bound_in name (b ∷ bs) = if bytes_eq name b.0 then Some b.1 else bound_in name bs

abbrev pub refused_at : {A : Type 0} → Site → Rule → Eval A
refused_at site rule = lift (Err (record { rule = rule; site = site }))

-- an outcome that is judged by itself
abbrev pub at_site : {A : Type 0} → Site → Result A Rule → Result A Fault
at_site site (Ok x) = Ok x
at_site site (Err rule) = Err (record { rule = rule; site = site })

abbrev pub judged : {A : Type 0} → Scope → Result A Rule → Eval A
judged s outcome = lift (at_site s.here outcome)

abbrev pub refused : {A : Type 0} → Scope → Rule → Eval A
refused s rule = judged s (Err rule)

abbrev pub gives : {A : Type 0} → A → Eval A
gives x = lift (Ok x)

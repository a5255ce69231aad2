-- Asking views, of views that are in progress.
use Rattle.std.specs.Prelude.{ℕ, zero, suc, List, [], ◌∷◌, ◌++◌, Bool, ◌&&◌, nat_eq, codes, Option, Some, None, if◌then◌else◌}
use Rattle.std.specs.List.{list_any}
use Rattle.snap_core.specs.declared.number.NodeNo.{NodeNo}
use Rattle.pointer_core.specs.declared.refusal.Rule.{Rule}
use Rattle.expr_syntax.specs.declared.number.ViewNo.{ViewNo}
use Rattle.eval_core.specs.declared.site.Site.{Site}
use Rattle.eval_core.specs.Answer.{Answer, node}
use Rattle.eval_core.specs.Sight.{Sight, Being}
use Rattle.eval_core.specs.Run.{Eval, enters}
use Rattle.eval_core.specs.Scope.{Scope, Env, Viewing, refused_at}
use Rattle.eval_core.specs.Evaluating.{evaluated}

-- a view of a node
pub record Asked : Type 0 where
  pub node : NodeNo
  pub view : ViewNo

-- the views in progress, the first one first
abbrev pub Stack : Type 0
Stack = List Asked

abbrev pub same_asked : Asked → Asked → Bool
same_asked q r = nat_eq q.node.0 r.node.0 && nat_eq q.view.0 r.view.0

abbrev pub in_progress : Asked → Stack → Bool
in_progress q stack = list_any (same_asked q) stack

abbrev pub site_of : Asked → Site
site_of q = Site.View q.node q.view

-- the first view in progress, or this one where none is
abbrev pub first_asked : Stack → Asked → Asked
first_asked [] q = q
first_asked (r ∷ stack) q = r

-- how many views may be in progress
abbrev pub most_views : ℕ
most_views = 100

-- what is bound in the body of a view
abbrev pub bound_at : Sight → NodeNo → Env
bound_at sight n = (codes "self", node n) ∷ (codes "root", node sight.root) ∷ []

-- asking a live node, by whether the view is in progress there
abbrev pub unless_cycle : Asked → Bool → Eval Answer → Eval Answer
unless_cycle q going body = if going then refused_at (site_of q) Rule.Cycle else body

abbrev pub unless_dead : Option Being → Eval Answer → Eval Answer
unless_dead None body = refused_at Site.Frame Rule.Dead
unless_dead (Some being) body = body

-- how views are asked within a body: with one view more in progress, and room for one less
abbrev pub Asking : Type 0
Asking = Stack → NodeNo → ViewNo → Eval Answer

-- the body of a view, evaluated
abbrev pub body_run : Viewing → Sight → Asking → Stack → Asked → Eval Answer
body_run viewing sight asking stack q =
    enters q.node q.view
    (evaluated (record { viewing = viewing; sight = sight; ask = asking (stack ++ q ∷ []); here = site_of q }) (viewing.body_of q.view) (bound_at sight q.node))

-- A view of a node is asked, with room for so many views in progress. A dead node is told before a cycle, and a
-- cycle before too many views in progress, which is told of the first of them.
abbrev pub asked : Viewing → Sight → ℕ → Asking
asked viewing sight zero stack n v =
    let q : Asked = record { node = n; view = v } in
    unless_dead (sight.being n) (unless_cycle q (in_progress q stack) (refused_at (site_of (first_asked stack q)) Rule.Deep))
asked viewing sight (suc room) stack n v =
    let q : Asked = record { node = n; view = v } in
    unless_dead (sight.being n) (unless_cycle q (in_progress q stack) (body_run viewing sight (asked viewing sight room) stack q))

-- the answer of a view, from nothing
abbrev pub view_run : Viewing → Sight → NodeNo → ViewNo → Eval Answer
view_run viewing sight n v = asked viewing sight most_views [] n v

-- how the expressions of a statement or a condition are evaluated
abbrev pub frame_scope : Viewing → Sight → Scope
frame_scope viewing sight = record { viewing = viewing; sight = sight; ask = view_run viewing sight; here = Site.Frame }

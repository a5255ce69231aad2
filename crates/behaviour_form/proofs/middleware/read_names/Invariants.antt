use Rattle.std.proofs.Common.{List, ℕ, drop}
use Rattle.snap_core.specs.View.{items_view}
use Rattle.behaviour_form.specs.Middleware.{names_read}
use Rattle.behaviour_form.proofs.Listed.{Reads}
use Rattle.behaviour_form.proofs.middleware.read_names.Given as goal

abbrev pub invariant-loop-index : goal.invariant-loop-index
invariant-loop-index l = Reads (λ (name : List ℕ). name) l.names (names_read 0 (items_view l.items)) (names_read l.index (items_view (drop l.index l.items)))

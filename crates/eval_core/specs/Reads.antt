-- The cells that a view read.
use Rattle.std.specs.Prelude.{List, [], ◌∷◌, Bool, false, ◌&&◌, nat_eq, if◌then◌else◌}
use Rattle.std.specs.List.{list_any}
use Rattle.std.specs.Ordering.{int_eq}
use Rattle.std.specs.Str.{bytes_eq}
use Rattle.snap_core.specs.declared.number.NodeNo.{NodeNo}
use Rattle.snap_core.specs.declared.ident.Ident.{Ident}
use Rattle.expr_syntax.specs.declared.number.ViewNo.{ViewNo}
use Rattle.eval_core.specs.declared.cell.Cell.{Cell}
use Rattle.eval_core.specs.declared.cell.Cell.TheVariants.{Prop, Shape, Place, Whole, Known}
use Rattle.eval_core.specs.Sight.{Sight}
use Rattle.eval_core.specs.Scope.{Viewing}
use Rattle.eval_core.specs.Asking.{view_run}

abbrev pub equal_idents : Ident → Ident → Bool
equal_idents (Ident.Text t) (Ident.Text u) = bytes_eq t u
equal_idents (Ident.Number y) (Ident.Number z) = int_eq y z
equal_idents i j = false

abbrev pub same_cell : Cell → Cell → Bool
same_cell (Prop n p) (Prop m q) = nat_eq n.0 m.0 && bytes_eq p q
same_cell (Shape n) (Shape m) = nat_eq n.0 m.0
same_cell (Place n) (Place m) = nat_eq n.0 m.0
same_cell (Whole n) (Whole m) = nat_eq n.0 m.0
same_cell (Known m i) (Known k j) = nat_eq m.0 k.0 && equal_idents i j
same_cell c d = false

-- the cells that are not among those before, each where it stands first
abbrev pub first_reads : List Cell → List Cell → List Cell
first_reads before [] = []
first_reads before (c ∷ cs) = if list_any (same_cell c) before then first_reads before cs else c ∷ first_reads (c ∷ before) cs

-- the cells of a view, those of the views that it asked included, in order of first read
abbrev pub reads_of : Viewing → Sight → NodeNo → ViewNo → List Cell
reads_of viewing sight n v = first_reads [] (view_run viewing sight n v 0).reads

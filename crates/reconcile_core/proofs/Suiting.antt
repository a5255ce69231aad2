-- The kind that a shape gives a value suits it.
use Rattle.std.proofs.Common.{◌≡◌, Option, Some, None, subst}
use Rattle.snap_core.specs.Value.{Value, list, dict}
use Rattle.type_table.specs.declared.shape.Shape.{Shape}
use Rattle.type_table.specs.declared.shape.Shape.TheVariants as shape
use Rattle.edit_core.specs.declared.kind.Kind.{Kind}
use Rattle.edit_core.specs.declared.kind.Kind.TheVariants.{Model, Array, Map}
use Rattle.edit_core.specs.Labelling.{SuitsKind}
use Rattle.reconcile_core.specs.RealTypes.{kind_by}

pub suits : (s : Option Shape) (v : Value) (kind : Kind) → kind_by s v ≡ Some kind → SuitsKind v kind
suits (Some (shape.Model m)) (dict a ms) kind e = let same : Model m ≡ kind = cc in let P : Kind → Type 0 = SuitsKind (dict a ms) in subst P same tt
suits (Some (shape.Map u)) (dict a ms) kind e = let same : Map u ≡ kind = cc in let P : Kind → Type 0 = SuitsKind (dict a ms) in subst P same tt
suits (Some (shape.Array u)) (list a ps) kind e = let same : Array u ≡ kind = cc in let P : Kind → Type 0 = SuitsKind (list a ps) in subst P same tt
suits _ v kind e = let none : None ≡ Some kind = e in cc

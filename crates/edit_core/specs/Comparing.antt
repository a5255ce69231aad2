-- Whether values, and labels, are equal.
use Rattle.std.specs.Prelude.{Bool, true, false, ◌&&◌, nat_eq}
use Rattle.std.specs.Ordering.{int_eq}
use Rattle.std.specs.Str.{bytes_eq}
use Rattle.snap_core.specs.Value.{Value, null, boolean, integer, text, list, dict, no_parts, part, no_members, member, Items, Fields}
use Rattle.edit_core.specs.declared.kind.Kind.{Kind}
use Rattle.edit_core.specs.declared.kind.Kind.TheVariants.{Model, Array, Map}
use Rattle.edit_core.specs.Labelled.{Label}

abbrev pub same_truth : Bool → Bool → Bool
same_truth true true = true
same_truth false false = true
same_truth _ _ = false

abbrev mutual
  pub is_equal : Value → Value → Bool
  is_equal null null = true
  is_equal (boolean a) (boolean b) = same_truth a b
  is_equal (integer y) (integer z) = int_eq y z
  is_equal (text s) (text u) = bytes_eq s u
  is_equal (list a ps) (list b qs) = are_equal ps qs
  is_equal (dict a ms) (dict b ns) = have_equal ms ns
  is_equal _ _ = false

  pub are_equal : Items → Items → Bool
  are_equal no_parts no_parts = true
  are_equal (part v ps) (part w qs) = is_equal v w && are_equal ps qs
  are_equal _ _ = false

  pub have_equal : Fields → Fields → Bool
  have_equal no_members no_members = true
  have_equal (member k v ms) (member l w ns) = bytes_eq k l && is_equal v w && have_equal ms ns
  have_equal _ _ = false

abbrev pub same_kind : Kind → Kind → Bool
same_kind (Model m) (Model n) = nat_eq m.0 n.0
same_kind (Array t) (Array u) = nat_eq t.0 u.0
same_kind (Map t) (Map u) = nat_eq t.0 u.0
same_kind _ _ = false

abbrev pub same_label : Label → Label → Bool
same_label l k = nat_eq l.number k.number && same_kind l.kind k.kind

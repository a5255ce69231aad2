-- The texts and lists that forms are made of.
use Rattle.std.specs.Prelude.{ℕ, List, Option, Some, None}
use Rattle.snap_core.specs.Value.{Value, text, list, dict, no_parts, part, Items, Fields}

abbrev pub text_in : Value → Option (List ℕ)
text_in (text s) = Some s
text_in _ = None

-- the items of a list of two, and of one of three
abbrev pub pair_in : Value → Option (Value × Value)
pair_in (list a (part v (part w no_parts))) = Some (v, w)
pair_in _ = None

abbrev pub triple_in : Value → Option (Value × Value × Value)
triple_in (list a (part u (part v (part w no_parts)))) = Some (u, v, w)
triple_in _ = None

abbrev pub items_in : Value → Option Items
items_in (list a ps) = Some ps
items_in _ = None

abbrev pub fields_in : Value → Option Fields
fields_in (dict a ms) = Some ms
fields_in _ = None

-- The middleware that surrounds an action: from its node up to the root, on each node in the order of the schema.
use Rattle.std.specs.Prelude.{ℕ, List, [], ◌∷◌, ◌++◌, Bool, true, Option, Some, None, if◌then◌else◌}
use Rattle.std.specs.List.{list_any}
use Rattle.std.specs.Str.{bytes_eq}
use Rattle.snap_core.specs.declared.number.NodeNo.{NodeNo}
use Rattle.model_syntax.specs.declared.behaviour.Surrounded.{Surrounded}
use Rattle.model_syntax.specs.declared.behaviour.Surrounded.TheVariants.{All, Named}
use Rattle.model_syntax.specs.Shown.{ShownMiddleware, atomic, protect}
use Rattle.edit_core.specs.declared.kind.Kind.{Kind}
use Rattle.edit_core.specs.declared.kind.Kind.TheVariants.{Model}
use Rattle.edit_core.specs.Edit.{Turn}
use Rattle.edit_core.specs.Labelled.{Label, Labelled}
use Rattle.edit_core.specs.Typing.{label_of}
use Rattle.edit_core.specs.Ways.{way_to, part_at_turn}
use Rattle.action_core.specs.Behaving.{Behaving, Callee}

-- a middleware, and the node that it was declared for
pub record Layer : Type 0 where
  pub node : NodeNo
  pub middleware : ShownMiddleware

abbrev pub has_name : List ℕ → Surrounded → Bool
has_name name All = true
has_name name (Named names) = list_any (bytes_eq name) names

-- a middleware surrounds the actions of a name
abbrev pub surrounds : List ℕ → ShownMiddleware → Bool
surrounds name (atomic around) = has_name name around
surrounds name (protect around condition) = has_name name around

-- those of a node's middlewares that surround the actions of a name
abbrev pub named_layers : List ℕ → NodeNo → List ShownMiddleware → List Layer
named_layers name n [] = []
named_layers name n (m ∷ ms) =
    if surrounds name m then record { node = n; middleware = m } ∷ named_layers name n ms else named_layers name n ms

-- the middleware of one node, in the order of the schema
abbrev pub node_layers : Behaving → List ℕ → Label → Kind → List Layer
node_layers behaving name l (Model m) = named_layers name (record { 0 = l.number }) (behaving.middleware_of m)
node_layers behaving name l kind = []

abbrev pub own_layers : Behaving → List ℕ → Option Label → List Layer
own_layers behaving name (Some l) = node_layers behaving name l l.kind
own_layers behaving name None = []

abbrev pub part_layers : (Labelled → List Layer) → Option Labelled → List Layer
part_layers layers (Some part) = layers part
part_layers layers None = []

-- from the node at the end of a way up to the value where the way begins
abbrev pub layers_along : Behaving → List ℕ → List Turn → Labelled → List Layer
layers_along behaving name [] x = own_layers behaving name (label_of x)
layers_along behaving name (turn ∷ way) x =
    part_layers (layers_along behaving name way) (part_at_turn turn x) ++ own_layers behaving name (label_of x)

abbrev pub layers_to : Behaving → List ℕ → Labelled → Option (List Turn) → List Layer
layers_to behaving name root (Some way) = layers_along behaving name way root
layers_to behaving name root None = []

-- the middleware that surrounds an action of a node, the outermost first
abbrev pub layers_of : Behaving → Callee → Labelled → List Layer
layers_of behaving callee root = layers_to behaving callee.name root (way_to callee.node.0 root)

-- What can be seen of a document, by the numbers of its nodes.
use Rattle.std.specs.Prelude.{ℕ, List, Bool, Option}
use Rattle.snap_core.specs.Value.{Value}
use Rattle.snap_core.specs.declared.number.ModelNo.{ModelNo}
use Rattle.snap_core.specs.declared.number.NodeNo.{NodeNo}
use Rattle.snap_core.specs.declared.ident.Ident.{Ident}
use Rattle.pointer_core.specs.Path.{Path}
use Rattle.edit_core.specs.declared.kind.Kind.{Kind}

-- what a node is for as long as it lives
pub record Being : Type 0 where
  pub kind : Kind
  -- where it is a model with an identifier
  pub identifier : Option Ident

-- a reference: whether it is a safe one, the model that it refers to, and the identifier that it holds, none for null
pub record Link : Type 0 where
  pub safe : Bool
  pub model : ModelNo
  pub identifier : Option Ident

-- what a property, an item or an entry holds
pub data Held : Type 0 where
  -- a scalar or a frozen value
  holds : Value → Held
  -- a model, an array or a map
  stands : NodeNo → Held
  -- a reference
  refers : Link → Held

-- an item or an entry of a node: its token and what it holds
pub record Entry : Type 0 where
  pub token : List ℕ
  pub held : Held

pub record Sight : Type 0 where
  pub root : NodeNo
  -- what a node is, if it lives
  pub being : NodeNo → Option Being
  -- what a property of a model holds
  pub prop : NodeNo → List ℕ → Option Held
  -- the items of an array, or the entries of a map, in order
  pub level : NodeNo → List Entry
  -- the path of a node
  pub place : NodeNo → Path
  -- the snapshot of a node
  pub whole : NodeNo → Value
  -- the node of a model with an identifier
  pub known : ModelNo → Ident → Option NodeNo

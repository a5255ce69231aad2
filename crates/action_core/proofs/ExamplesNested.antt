-- Nodes in lists within written lists, computed on a board of rows of cards.
use Rattle.std.proofs.Common.{◌≡◌, List, [], ◌∷◌, None, Ok, Err, map, refl}
use Rattle.std.specs.Prelude.{codes}
use Rattle.snap_core.specs.Value.{text, list, dict, no_parts, part, no_members, member}
use Rattle.pointer_core.specs.declared.refusal.Rule.TheVariants as rule
use Rattle.patch_core.specs.declared.patch.Patch.{Patch}
use Rattle.type_table.specs.declared.shape.Shape.TheVariants as shape
use Rattle.type_table.specs.Table.{Catalog}
use Rattle.type_core.specs.Making.{Outcome}
use Rattle.edit_core.specs.Logged.{patch_of_logged}
use Rattle.tree_core.specs.declared.place.Place.{Place}
use Rattle.tree_core.specs.declared.place.Place.TheVariants.{Prop, Item}
use Rattle.tree_core.specs.Changed.{Changed}
use Rattle.tree_core.specs.Outcome.{refuse}
use Rattle.tree_core.specs.Recorded.{new_tree}
use Rattle.tree_core.specs.Writing.{Tree}
use Rattle.eval_core.specs.Answer.{Answer, node, several, no_answers, answer}
use Rattle.answer_writing.specs.Giving.{given, sets}
use Rattle.action_core.proofs.Office.{type, model_no, number}

-- 0 a text, 1 a card, 2 a board, 3 a row, 4 the rows
abbrev types : Catalog
types = record {
  table = record {
    shapes = shape.Str ∷ shape.Model (model_no 0) ∷ shape.Model (model_no 1) ∷ shape.Array (type 1) ∷ shape.Array (type 3) ∷ [];
    models = record { name = codes "Card"; properties = record { name = codes "name"; of = type 0 } ∷ []; own = type 1 }
        ∷ record { name = codes "Board"; properties = record { name = codes "rows"; of = type 4 } ∷ []; own = type 2 } ∷ [];
  };
  root = model_no 1;
  defaults = [];
}

-- a board of one row of one card: its nodes are 0 the board, 1 the rows, 2 the row and 3 the card
abbrev board : Tree
board = new_tree types (dict tt (member (codes "rows") (list tt (part (list tt (part (dict tt (member (codes "name") (text (codes "a")) no_members)) no_parts)) no_parts)) no_members))

abbrev only : Answer → Answer
only x = several (answer x no_answers)

abbrev patches : Outcome Changed → Outcome (List Patch)
patches (Ok c) = Ok (map patch_of_logged c.edits)
patches (Err e) = Err e

abbrev set_at : Place → Answer → Outcome (List Patch)
set_at place x = patches (given types (record { running = number 0 ∷ []; place = place; named = None }) (sets x) board)

-- the row stands at its index of the rows that are set
row : set_at (Prop (number 0) (codes "rows")) (only (node (number 2))) ≡ Ok []
row = refl

-- the card stands in a row, and not in the rows
card : set_at (Prop (number 0) (codes "rows")) (only (only (node (number 3)))) ≡ refuse (codes "rows" ∷ []) rule.Alive
card = refl

-- where the row is set, it stands at its index
card-in-row : set_at (Item (number 1) 0) (only (node (number 3))) ≡ Ok []
card-in-row = refl

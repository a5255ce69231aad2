-- What actions of a document do.
use Rattle.std.specs.Prelude.{ℕ, List, [], ◌∷◌, ◌++◌, Option, Some, None, Ok, Err, option_and_then, unwrap_or}
use Rattle.std.specs.Option.{option_map}
use Rattle.snap_core.specs.Value.{Items, no_parts, part}
use Rattle.snap_core.specs.declared.number.NodeNo.{NodeNo}
use Rattle.pointer_core.specs.Path.{Path}
use Rattle.pointer_core.specs.declared.refusal.Rule.TheVariants as rule
use Rattle.patch_core.specs.declared.patch.Patch.{Patch}
use Rattle.type_table.specs.Table.{Catalog}
use Rattle.type_core.specs.Making.{Refused, Outcome}
use Rattle.model_syntax.specs.Shown.{ShownBehaviour}
use Rattle.edit_core.specs.Labelled.{Labelled}
use Rattle.tree_core.specs.declared.place.Place.{Place}
use Rattle.tree_core.specs.Asking.{place_along, place_at}
use Rattle.tree_core.specs.Outcome.{◌>>=◌, or_refuse}
use Rattle.tree_core.specs.Recorded.{after_settling}
use Rattle.tree_core.specs.State.{State, patches_of}
use Rattle.tree_reading.specs.declared.held.Held.{Held}
use Rattle.tree_reading.specs.declared.held.Held.TheVariants.{Node}
use Rattle.tree_reading.specs.Held.{held_at}
use Rattle.eval_core.specs.Answer.{AnswerList, plain, no_answers, answer}
use Rattle.action_core.specs.Act.{Ran, state_of}
use Rattle.action_core.specs.Behaving.{Callee}
use Rattle.action_core.specs.Calling.{acted}
use Rattle.action_laws.specs.Schemas.{behaving_by}
use Rattle.action_steps.specs.Doing.{spent}

-- The node at a pointer.

-- of what a place holds: a reference isn't followed
abbrev pub node_held : Option Held → Option NodeNo
node_held (Some (Node n)) = Some n
node_held held = None

abbrev pub node_there : Catalog → Place → Labelled → Option NodeNo
node_there types place root = node_held (held_at types.table place root)

-- refused `path` where the pointer is no place, and `unknown`, at the place and the action's name, where no node is there
abbrev pub node_pointed : Catalog → Path → List ℕ → Labelled → Outcome NodeNo
node_pointed types path name root = do
  place ← place_at path root
  or_refuse (node_there types place root) (path ++ name ∷ []) rule.Unknown

-- The action, called with plain values.

abbrev pub plain_answers : Items → AnswerList
plain_answers no_parts = no_answers
plain_answers (part v vs) = answer (plain v) (plain_answers vs)

abbrev pub callee_given : NodeNo → List ℕ → Items → Callee
callee_given n name args = record { node = n; name = name; given = plain_answers args }

abbrev pub run_of : Catalog → List ShownBehaviour → Callee → State → Ran (Unit {0})
run_of types behaviours callee s = acted (behaving_by types behaviours) callee (state_of s)

-- What a request for an action comes to: the document after it, and the action's refusal, where it was refused and yet
-- left patches.
pub record Acted : Type 0 where
  pub after : State
  pub fault : Option Refused

-- a refusal that left no patch refuses the request
abbrev pub after_refusal : Refused → State → List Patch → Outcome Acted
after_refusal refusal after [] = Err refusal
after_refusal refusal after (p ∷ ps) = Ok (record { after = after; fault = Some refusal })

abbrev pub after_outcome : Outcome (Unit {0}) → State → Outcome Acted
after_outcome (Ok done) after = Ok (record { after = after; fault = None })
after_outcome (Err refusal) after = after_refusal refusal after (patches_of after)

-- what a run left, settled: the patches are those that it kept, and then those of settling
abbrev pub after_run : Catalog → Ran (Unit {0}) → Outcome Acted
after_run types ran = after_outcome ran.outcome (after_settling types ran.state.tree)

-- an action of the node at a pointer, by the types and by what each model has
abbrev pub acted_on : Catalog → List ShownBehaviour → Path → List ℕ → Items → State → Outcome Acted
acted_on types behaviours path name args s = do
  n ← node_pointed types path name s.tree
  after_run types (run_of types behaviours (callee_given n name args) s)

-- How many expressions running it counts: none, where nothing is run.

abbrev pub node_asked : Catalog → Path → Labelled → Option NodeNo
node_asked types path root = option_and_then (λ place. node_there types place root) (place_along path root)

abbrev pub most_act_steps : Catalog → List ShownBehaviour → Path → List ℕ → Items → State → ℕ
most_act_steps types behaviours path name args s =
    unwrap_or (option_map (λ n. spent (run_of types behaviours (callee_given n name args) s).state.met) (node_asked types path s.tree)) 0

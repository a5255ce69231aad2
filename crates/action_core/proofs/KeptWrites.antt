-- What is kept by the writes of statements.
use Rattle.std.proofs.Common.{◌≡◌, List, [], ◌∷◌, ◌++◌, Bool, true, false, Option, Some, None, Ok, subst}
use Rattle.std.specs.Prelude.{IfOk, unwrap_or}
use Rattle.snap_core.specs.declared.number.NodeNo.{NodeNo}
use Rattle.pointer_core.specs.Path.{Path}
use Rattle.pointer_core.specs.declared.refusal.Rule.TheVariants as rule
use Rattle.type_core.specs.Making.{Outcome}
use Rattle.edit_core.specs.Edit.{Turn}
use Rattle.edit_core.specs.Labelled.{Labelled}
use Rattle.edit_core.specs.Ways.{way_to}
use Rattle.tree_core.specs.declared.place.Place.{Place}
use Rattle.tree_core.specs.Changed.{Changed}
use Rattle.tree_core.specs.Nodes.{may_write}
use Rattle.tree_core.specs.Outcome.{◌>>=◌, refuse, provided, or_refuse}
use Rattle.tree_core.specs.Reading.{size_at}
use Rattle.tree_core.specs.Recorded.{tree_in}
use Rattle.eval_core.specs.Answer.{Answer}
use Rattle.eval_core.specs.Pairing.{Anything}
use Rattle.action_core.specs.Act.{State, Act, root_of, with_change}
use Rattle.action_core.specs.Behaving.{Running, Callee, Acting, node_path, writes}
use Rattle.answer_writing.specs.Giving.{removes}
use Rattle.action_core.specs.Keeping.{Keeping, Keeps, GivesFine}
use Rattle.action_core.specs.Running.{writes_to, pushes, removes_all, clears}
use Rattle.action_core.specs.Statements.{Naming, item_pushed, unsuited, given_at, named_written}
use Rattle.action_core.proofs.Steps.{anything, telling, looking, thens, writing, being_node}

-- a key of the wrong kind changes nothing
abbrev Never : Changed → Type 0
Never c = ⊥

unprovided : (b : Bool) (path : Path) → IfOk (provided {A = Changed} b path rule.Protected (refuse [] rule.Kind)) Never
unprovided true path = tt
unprovided false path = tt

unsuited-by : (running : List NodeNo) (path : Path) (root : Labelled) (way : Option (List Turn))
    → IfOk (or_refuse way [] rule.Dead >>= (λ to. provided {A = Changed} (may_write running to root) path rule.Protected (refuse [] rule.Kind))) Never
unsuited-by running path root None = tt
unsuited-by running path root (Some way) = unprovided (may_write running way root) path

never-changes : (o : Outcome Changed) (c : Changed) → IfOk o Never → o ≡ Ok c → ⊥
never-changes o c h e = subst (λ (outcome : Outcome Changed). IfOk outcome Never) e h

-- a write that a statement names
naming : (k : Keeping) (running : List NodeNo) (w : Naming) → GivesFine k.Fine w.giving → (s : State) → k.Fit s → (path : Path) (place : Option Place) (c : Changed)
    → given_at k.behaving.types running w path (tree_in s.tree) place ≡ Ok c → k.Fit (with_change c s) × k.Rel s (with_change c s)
naming k running w fine s fit path (Some at) c e = k.writing (record { running = running; place = at; named = Some path }) w.giving s c fit fine e
naming k running w fine s fit path None c e =
    absurd (never-changes (unsuited running w.node path s.tree.tree) c (unsuited-by running path s.tree.tree (way_to w.node.0 s.tree.tree)) e)

pub named : (k : Keeping) (frame : Path) (running : List NodeNo) (w : Naming) → GivesFine k.Fine w.giving
    → Keeps k Anything (writes frame (named_written k.behaving.types running w))
named k frame running w fine = writing k frame _ (λ s fit c e. naming k running w fine s fit _ w.place c e)

-- by what the statements of an action run that keep the relation
abbrev pub acting : Keeping → Running → (Callee → Act (Unit {0})) → Acting
acting k running call = record { behaving = k.behaving; running = running; call = call }

pub to_node : (k : Keeping) (running : Running) (call : Callee → Act (Unit {0})) (x : Answer) (naming_of : NodeNo → Naming)
    → ((n : NodeNo) → GivesFine k.Fine (naming_of n).giving) → Keeps k Anything (writes_to (acting k running call) x naming_of)
to_node k running call x naming_of fine = being_node k Anything running.frame x _ (λ n. named k running.frame running.nodes (naming_of n) (fine n))

-- the write at an array's end, in a state
abbrev end_of : State → NodeNo → Answer → Naming
end_of s n y = item_pushed n y (unwrap_or (size_at n.0 (root_of s)) 0)

pub pushing : (k : Keeping) (running : Running) (call : Callee → Act (Unit {0})) (x y : Answer) → k.Fine y
    → Keeps k Anything (pushes (acting k running call) x y)
pushing k running call x y fine =
    being_node k Anything running.frame x _ (λ n. writing k running.frame _
    (λ s fit c e. naming k running.nodes (end_of s n y) fine s fit (node_path n (root_of s) ++ (end_of s n y).tokens) (end_of s n y).place c e))

removing : (k : Keeping) (running : Running) (call : Callee → Act (Unit {0})) (places : List Place) → Keeps k Anything (removes_all (acting k running call) places)
removing k running call [] = telling k Anything (Ok tt) tt
removing k running call (at ∷ more) =
    thens k Anything Anything _ _ (writing k running.frame _ (λ s fit c e. k.writing (record { running = running.nodes; place = at; named = None }) removes s c fit tt e))
    (λ one any. removing k running call more)

pub clearing : (k : Keeping) (running : Running) (call : Callee → Act (Unit {0})) (x : Answer) → Keeps k Anything (clears (acting k running call) x)
clearing k running call x =
    being_node k Anything running.frame x _ (λ n. thens k Anything Anything _ _ (looking k Anything _ (λ s fit. anything _)) (λ places any. removing k running call places))

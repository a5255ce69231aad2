-- Settling a sound tree leads on.
use Rattle.std.proofs.Common.{ℕ, ◌+◌, List, [], ◌∷◌, ◌++◌, map, Bool, true, false, sym, subst, arith}
use Rattle.std.specs.Prelude.{if◌then◌else◌}
use Rattle.type_table.specs.Table.{Catalog}
use Rattle.type_core.specs.Sound.{IsSound}
use Rattle.edit_core.specs.declared.kind.Kind.{Kind}
use Rattle.edit_core.specs.declared.kind.Kind.TheVariants as kind
use Rattle.edit_core.specs.Edit.{Turn, to_item, to_entry}
use Rattle.edit_core.specs.Labelled.{Label, Labelled, Branches, Entries, leaf, many, keyed, no_branches, branch, no_entries, entry}
use Rattle.edit_core.specs.Logged.{LoggedEdit, behind}
use Rattle.edit_core.proofs.Ascending.{spelled}
use Rattle.edit_core.proofs.Leading.{FineIn, RunIn}
use Rattle.tree_core.specs.Changed.{Changed}
use Rattle.tree_core.specs.Recorded.{after_settling, tree_in}
use Rattle.tree_core.specs.Settling.{Settling, is_loose, item_type, item_removal, item_removals, cleared, behind_cleared, settling_edits, items_settling, entries_settling, settling_in, settled}
use Rattle.tree_core.specs.State.{State}
use Rattle.tree_core.specs.TypesTyping.{type_under}
use Rattle.tree_core.proofs.Moving.{Runs}
use Rattle.tree_reading.proofs.SettlingLaws.{after_settling as settling-after}
use Rattle.tree_reading.proofs.SettlingMoves.{moves, moves-run, logged-moves}
use Rattle.tree_laws.specs.Calls.{LeadsOn}
use Rattle.tree_laws.specs.Trees.{IsSoundTree}
use Rattle.tree_laws.proofs.Bounds.{fine-spelled}
use Rattle.tree_laws.proofs.Joining.{inside-joined}
use Rattle.tree_laws.proofs.Leading.{AllInside, leading, recorded-leads}
use Rattle.tree_laws.proofs.Writes.{fine-tree}

inside-behind : (turn : Turn) (es : List LoggedEdit) → AllInside (map (behind turn) es)
inside-behind turn [] = tt
inside-behind turn (e ∷ es) = (tt, inside-behind turn es)

inside-removal : (b : Bool) (i : ℕ) (x : Labelled) → AllInside (item_removal b i x)
inside-removal true i x = (tt, tt)
inside-removal false i x = tt

inside-removals : (s : Settling) (t i : ℕ) (bs : Branches Label) → AllInside (item_removals s t i bs)
inside-removals s t i no_branches = tt
inside-removals s t i (branch x bs) =
    inside-joined (item_removals s t (i + 1) bs) (item_removal (is_loose s t x) i x) (inside-removals s t (i + 1) bs) (inside-removal (is_loose s t x) i x)

inside-items : (s : Settling) (i : ℕ) (bs : Branches Label) → AllInside (items_settling s i bs)
inside-items s i no_branches = tt
inside-items s i (branch x bs) =
    inside-joined (map (behind (to_item i)) (settling_edits s x)) (items_settling s (i + 1) bs) (inside-behind (to_item i) (settling_edits s x)) (inside-items s (i + 1) bs)

inside-entry : (b : Bool) (kind : Kind) (i : ℕ) (k : List ℕ) (x : Labelled) (es loose tied : List LoggedEdit) → AllInside loose → AllInside tied
    → AllInside (if b then cleared kind i k x ∷ loose else map (behind (to_entry i k)) es ++ tied)
inside-entry true (kind.Map t) i k x es loose tied h g = (tt, h)
inside-entry true (kind.Model m) i k x es loose tied h g = (tt, h)
inside-entry true (kind.Array t) i k x es loose tied h g = (tt, h)
inside-entry false kind i k x es loose tied h g = inside-joined (map (behind (to_entry i k)) es) tied (inside-behind (to_entry i k) es) g

inside-entries : (s : Settling) (kind : Kind) (i : ℕ) (es : Entries Label) → AllInside (entries_settling s kind i es)
inside-entries s kind i no_entries = tt
inside-entries s kind i (entry k x es) =
    inside-entry (is_loose s (type_under s.table kind k) x) kind i k x (settling_edits s x) (entries_settling s kind (behind_cleared kind i) es) (entries_settling s kind (i + 1) es)
    (inside-entries s kind (behind_cleared kind i) es) (inside-entries s kind (i + 1) es)

settling-inside : (s : Settling) (x : Labelled) → AllInside (settling_edits s x)
settling-inside s (leaf v) = tt
settling-inside s (many l bs) = inside-joined (items_settling s 0 bs) (item_removals s (item_type l.kind) 0 bs) (inside-items s 0 bs) (inside-removals s (item_type l.kind) 0 bs)
settling-inside s (keyed l es) = inside-entries s l.kind 0 es

pub settling-leads : (types : Catalog) → IsSound types → (s : State) → IsSoundTree types s → LeadsOn s (after_settling types s)
settling-leads types sound s tree =
    let by : Settling = settling_in types s.tree in
    let c : Changed = settled types (tree_in s) in
    let To : Labelled → Type 0 = λ y. RunIn spelled s.tree (moves by s.tree) y in
    let fine : FineIn spelled s.tree = fine-spelled 1048576 (omega arith) s.tree (fine-tree types sound s s tree) in
    let runs : Runs spelled s.tree c = record { edits = moves by s.tree; logs = logged-moves by s.tree; run = subst To (sym (settling-after by s.tree)) (moves-run spelled by s.tree fine) } in
    recorded-leads s c.edits c.value c.next (leading s.tree c runs (settling-inside by s.tree))

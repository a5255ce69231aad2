-- What is shown of a node, and where it stands: only nodes are numbered.
use Rattle.std.proofs.Common.{◌≡◌, ℕ, suc, ◌+◌, ◌==◌, List, [], ◌∷◌, Bool, true, false, Option, Some, None, Result, Ok, Err, refl, sym, ◌∙◌, ap, subst, arith}
use Rattle.std.specs.Prelude.{map, slice_get, unwrap_or, if◌then◌else◌}
use Rattle.std.specs.Option.{option_map, option_and_then}
use Rattle.snap_core.specs.Value.{Value, null, text}
use Rattle.snap_core.specs.View.{view}
use Rattle.snap_core.specs.declared.snap.Snap
use Rattle.snap_core.specs.declared.number.NodeNo.{NodeNo}
use Rattle.snap_core.proofs.Views.{view-Text}
use Rattle.pointer_core.specs.Path.{Path, printed}
use Rattle.pointer_core.specs.declared.refusal.Rule.{Rule}
use Rattle.edit_core.specs.declared.kind.Kind.{Kind}
use Rattle.edit_core.specs.Labelled.{Label, Labelled, Branches, Entries, leaf, many, keyed, no_branches, branch, no_entries, entry, items_in, entries_in, bare}
use Rattle.edit_core.specs.Edit.{Turn, to_item, to_entry}
use Rattle.edit_core.specs.Typing.{label_of}
use Rattle.edit_core.specs.Plain.{token_of}
use Rattle.edit_core.specs.Ways.{part_at, part_at_turn, led_by, way_to, way_among_items, way_among_entries}
use Rattle.tree_core.specs.Reading.{node_of, path_to, kind_at}
use Rattle.tree_core.specs.Asking.{node_shown, node_path}
use Rattle.tree_core.specs.Outcome.{◌>>=◌, or_refuse}
use Rattle.eval_core.specs.declared.cell.Cell.{Cell}
use Rattle.eval_core.specs.Answer.{plain, node}
use Rattle.eval_core.specs.Sight.{Sight}
use Rattle.eval_core.specs.Run.{looks, andthen}
use Rattle.eval_core.specs.Scope.{Scope, gives}
use Rattle.eval_core.specs.Making.{snapshot_of}
use Rattle.eval_core.specs.Reading.{path_got}
use Rattle.answer_ops.specs.View.{answer_of}
use Rattle.answer_ops.specs.declared.value.Value as values
use Rattle.view_engine.specs.Did.{Read}
use Rattle.view_engine.specs.TreeSight.{Whole, sight_of}
use Rattle.view_engine.proofs.Doing.{read-look, read-looks, given-plain}
use Rattle.view_engine.proofs.Seeing.{seen-whole, seen-place, read-alive}

-- a part that carries a label
abbrev pub IsNode : Option Labelled → Type 0
IsNode None = ⊥
IsNode (Some (leaf v)) = ⊥
IsNode (Some (many l bs)) = Unit {0}
IsNode (Some (keyed l es)) = Unit {0}

-- a way that was found leads to a node
abbrev Leads : Labelled → Option (List Turn) → Type 0
Leads x None = Unit {0}
Leads x (Some way) = IsNode (part_at way x)

leads-itself : (b : Bool) (x : Labelled) (way : Option (List Turn)) → IsNode (Some x) → Leads x way → Leads x (if b then Some [] else way)
leads-itself true x way is leads = is
leads-itself false x way is leads = leads

leads-on : (holder x : Labelled) (turn : Turn) (way other : Option (List Turn)) → part_at_turn turn holder ≡ Some x → Leads x way → Leads holder other → Leads holder (led_by turn way other)
leads-on holder x turn None other here one more = more
leads-on holder x turn (Some way) other here one more = rw here one

mutual
  leads : (n : ℕ) (x : Labelled) → Leads x (way_to n x)
  leads n (leaf v) = tt
  leads n (many l bs) = leads-itself (l.number == n) (many l bs) (way_among_items n 0 bs) tt (leads_items n l bs 0 bs (λ k. ap (slice_get (items_in bs)) (omega arith)))
  leads n (keyed l es) = leads-itself (l.number == n) (keyed l es) (way_among_entries n 0 es) tt (leads_entries n l es 0 es (λ k. ap (slice_get (entries_in es)) (omega arith)))

  leads_items : (n : ℕ) (l : Label) (whole : Branches Label) (i : ℕ) (bs : Branches Label)
      → ((k : ℕ) → slice_get (items_in whole) (i + k) ≡ slice_get (items_in bs) k) → Leads (many l whole) (way_among_items n i bs)
  leads_items n l whole i no_branches same = tt
  leads_items n l whole i (branch x bs) same =
      let here : slice_get (items_in whole) i ≡ Some x = ap (slice_get (items_in whole)) (omega arith) ∙ same 0 in
      leads-on (many l whole) x (to_item i) (way_to n x) (way_among_items n (suc i) bs) here (leads n x)
      (leads_items n l whole (suc i) bs (λ k. ap (slice_get (items_in whole)) (omega arith) ∙ same (suc k)))

  leads_entries : (n : ℕ) (l : Label) (whole : Entries Label) (i : ℕ) (es : Entries Label)
      → ((k : ℕ) → slice_get (entries_in whole) (i + k) ≡ slice_get (entries_in es) k) → Leads (keyed l whole) (way_among_entries n i es)
  leads_entries n l whole i no_entries same = tt
  leads_entries n l whole i (entry key x es) same =
      let here : option_map (λ e. e.1) (slice_get (entries_in whole) i) ≡ Some x = ap (option_map (λ e. e.1)) (ap (slice_get (entries_in whole)) (omega arith) ∙ same 0) in
      leads-on (keyed l whole) x (to_entry i key) (way_to n x) (way_among_entries n (suc i) es) here (leads n x)
      (leads_entries n l whole (suc i) es (λ k. ap (slice_get (entries_in whole)) (omega arith) ∙ same (suc k)))

-- the kind of what was found
abbrev kind_in : Option Labelled → Option Kind
kind_in o = option_and_then (λ y. option_map (λ l. l.kind) (label_of y)) o

abbrev found_by : Labelled → Option (List Turn) → Option Labelled
found_by root way = option_and_then (λ w. part_at w root) way

kind-of-node : (o : Option Labelled) → IsNode o → (k : Kind) × (Some k ≡ kind_in o)
kind-of-node None is = absurd is
kind-of-node (Some (leaf v)) is = absurd is
kind-of-node (Some (many l bs)) is = (l.kind, refl)
kind-of-node (Some (keyed l es)) is = (l.kind, refl)

shown-kind : (root : Labelled) (way : Option (List Turn)) → Leads root way → (x : Labelled) → found_by root way ≡ Some x → (k : Kind) × (Some k ≡ kind_in (found_by root way))
shown-kind root None leads x is = cc
shown-kind root (Some way) leads x is = kind-of-node (part_at way root) leads

placed-kind : (root : Labelled) (way : Option (List Turn)) → Leads root way → (path : Path) → option_map (λ (w : List Turn). map token_of w) way ≡ Some path
    → (k : Kind) × (Some k ≡ kind_in (found_by root way))
placed-kind root None leads path is = cc
placed-kind root (Some way) leads path is = kind-of-node (part_at way root) leads

-- a value that was shown is a node's
was-shown : (o : Option Labelled) (v : Value) → (or_refuse o [] Rule.Dead >>= (λ x. Ok (bare x))) ≡ Ok v → (x : Labelled) × (o ≡ Some x) × (bare x ≡ v)
was-shown None v is = cc
was-shown (Some x) v is = let same : bare x ≡ v = cc in (x, refl, same)

was-placed : (o : Option Path) (path : Path) → or_refuse o [] Rule.Dead ≡ Ok path → o ≡ Some path
was-placed None path is = cc
was-placed (Some p) path is = let same : p ≡ path = cc in ap Some same

-- the snapshot of a node that was shown
pub snapshot-read : (s : Scope) (whole : Whole) (n : NodeNo) (value : Snap.Snap) → s.sight ≡ sight_of whole → node_shown n.0 whole.tree ≡ Ok (view value)
    → Read view (Ok value) (snapshot_of s (node n))
snapshot-read s whole n value same is =
    let there = was-shown (node_of n.0 whole.tree) (view value) is in
    let kind = shown-kind whole.tree (way_to n.0 whole.tree) (leads n.0 whole.tree) there.0 there.1 in
    let seen : s.sight.whole n ≡ view value =
    ap (λ (v : Sight). v.whole n) same ∙ seen-whole whole n ∙ ap (λ (o : Option Labelled). unwrap_or (option_map bare o) null) there.1 ∙ there.2 in
    read-alive view s whole n kind.0 (λ k. looks (Cell.Whole n) (s.sight.whole n)) (Ok value) same kind.1 (read-look view value (Cell.Whole n) (s.sight.whole n) seen)

-- the text of its path
pub path-read : (s : Scope) (whole : Whole) (n : NodeNo) (path : Path) (shown : List ℕ) → s.sight ≡ sight_of whole → node_path n.0 whole.tree ≡ Ok path → shown ≡ printed path
    → Read answer_of (Ok (values.Plain (Snap.Text shown))) (path_got s (node n))
path-read s whole n path shown same is text_is =
    let there : path_to n.0 whole.tree ≡ Some path = was-placed (path_to n.0 whole.tree) path is in
    let kind = placed-kind whole.tree (way_to n.0 whole.tree) (leads n.0 whole.tree) path there in
    let seen : s.sight.place n ≡ path = ap (λ (v : Sight). v.place n) same ∙ seen-place whole n ∙ ap (λ (o : Option Path). unwrap_or o []) there in
    read-alive answer_of s whole n kind.0 (λ k. andthen (looks (Cell.Place n) (s.sight.place n)) (λ p. gives (plain (text (printed p))))) (Ok (values.Plain (Snap.Text shown))) same kind.1
    (read-looks answer_of (Ok (values.Plain (Snap.Text shown))) (Cell.Place n) (s.sight.place n) (λ p. gives (plain (text (printed p))))
    (given-plain (Snap.Text shown) (text (printed (s.sight.place n))) (ap (λ p. text (printed p)) seen ∙ ap text (sym text_is) ∙ sym (view-Text shown))))

use Rattle.std.proofs.Common.{◌≡◌, ◌+◌, ℕ, List, [], ◌∷◌, map, drop, decimal, Result, Ok, Err, refl, ◌∙◌, ap, arith}
use Rattle.snap_core.specs.View.{view, items_view}
use Rattle.expr_form.specs.declared.fault.Trouble.{Trouble}
use Rattle.expr_form.specs.declared.fault.Trouble.TheVariants.{Memory, Wrong, Astray}
use Rattle.expr_form.specs.Names.{name_read}
use Rattle.expr_form.specs.Outcome.{Outcome, reads, at, Tells}
use Rattle.expr_form.proofs.Telling.{tells-lowered}
use Rattle.expr_form.proofs.Joining.{with_first}
use Rattle.expr_form.proofs.Walking.{items-step, items-end}
use Rattle.behaviour_form.specs.Middleware.{names_read}
use Rattle.behaviour_form.proofs.Listed.{reads-none, reads-more, reads-all}
use Rattle.behaviour_form.proofs.middleware.read_names.Goals as goal

-- a name is seen as itself
abbrev itself : List ℕ → List ℕ
itself name = name

map-itself : (names : List (List ℕ)) → map itself names ≡ names
map-itself [] = refl
map-itself (name ∷ names) = ap (λ ns. name ∷ ns) (map-itself names)

tells-names : (names : Result (List (List ℕ)) Trouble) (o : Outcome (List (List ℕ))) → Tells (map itself) names o → Tells (λ (ns : List (List ℕ)). ns) names o
tells-names (Ok names) o h = h ∙ ap reads (map-itself names)
tells-names (Err Memory) o h = tt
tells-names (Err (Wrong f)) o h = h
tells-names (Err (Astray p)) o h = h

pub loop-index-init : goal.loop-index-init
loop-index-init c = reads-none itself c.new.result (names_read 0 (items_view c.args.items.now)) c.new.ensures

pub loop-index-preserved : goal.loop-index-preserved
loop-index-preserved c =
    let items = c.args.items.now in
    let i = c.loop-index.index in
    let v = c.index-items-index.result in
    let one = at i (name_read (view v)) in
    reads-more itself c.loop-index.names c.pushed-longer.result c.at_index-name.result (names_read 0 (items_view items)) (names_read i (items_view (drop i items)))
    (names_read (i + 1) (items_view (drop (i + 1) items))) one c.loop-index.invariant
    (items-step names_read (λ i v rest. with_first (at i (name_read v)) rest) (λ i v ps. refl) items i v c.loop-index-test.true c.index-items-index.is)
    c.pushed-longer.ensures
    (tells-lowered itself (decimal i) c.read_name-name.result c.at_index-name.result (name_read (view v)) c.at_index-name.ensures c.read_name-name.ensures)

pub returns : goal.returns
returns c =
    let items = c.args.items.now in
    let i = c.loop-index.index in
    let whole = names_read 0 (items_view items) in
    tells-names c.loop-index.names whole (reads-all itself c.loop-index.names whole (names_read i (items_view (drop i items))) c.loop-index.invariant
    (items-end names_read (λ i v rest. with_first (at i (name_read v)) rest) (λ i v ps. refl) items i (omega arith)))

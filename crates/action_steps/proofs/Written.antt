-- Writes of a tree, as acts.
use Rattle.std.proofs.Common.{◌≡◌, List, ◌++◌, Some, None, Result, Ok, Err, refl, sym, ◌∙◌, ap, subst, arith}
use Rattle.pointer_core.specs.Path.{Path}
use Rattle.pointer_core.specs.declared.refusal.Refusal.{Refusal}
use Rattle.type_table.specs.Table.{Catalog}
use Rattle.type_core.specs.Making.{Refused, Outcome}
use Rattle.type_core.specs.Made.{refused_as}
use Rattle.snap_core.specs.declared.number.NodeNo.{NodeNo}
use Rattle.tree_core.specs.declared.place.Change.{Change}
use Rattle.tree_core.specs.declared.place.Place.{Place}
use Rattle.tree_core.specs.declared.error.TreeError.{TreeError}
use Rattle.tree_core.specs.declared.error.TreeError.TheVariants as errors
use Rattle.tree_core.specs.Answers.{Answers}
use Rattle.tree_core.specs.Changed.{Changed}
use Rattle.tree_core.specs.Outcome.{◌>>=◌}
use Rattle.tree_core.specs.Recorded as recorded
use Rattle.tree_core.specs.Recorded.{tree_in, after_write, Leaves}
use Rattle.tree_core.specs.State.{State as Tree}
use Rattle.tree_core.specs.Write.{Write, write_of}
use Rattle.tree_core.specs.Writing.{Target, written}
use Rattle.tree_core.specs.Writing as whole
use Rattle.live_tree.specs.Laws.{CanBeTakenBack}
use Rattle.live_tree.proofs.TakenBack.{kept-same}
use Rattle.answer_writing.specs.Giving.{Giving, given}
use Rattle.answer_writing.specs.Written.{ComesTo}
use Rattle.view_engine.specs.declared.halt.RunError.{RunError}
use Rattle.view_engine.specs.declared.halt.RunError.TheVariants as halts
use Rattle.action_core.specs.Act.{State, Ran, came, with_change}
use Rattle.action_core.specs.Behaving.{node_path, path_in_frame, in_frame, changed_to, writes}
use Rattle.action_core.specs.Statements as core
use Rattle.action_core.proofs.Composing.{writes-came}
use Rattle.action_steps.specs.Doing.{Point, point, state_at, spent, Stands, Came, IsRefusal}
use Rattle.action_steps.specs.Writes.{IsToldIn, RefusesIn, Writes}
use Rattle.action_steps.proofs.Doing.{stands-still, acts-memory}

-- Refusals, told in a frame.

pub refuses-told : {A : Type 0} (frame : Path) (r : Refusal) (e : RunError) (outcome : Outcome A) → IsRefusal e (path_in_frame frame r.rule r.path) r.rule
    → outcome ≡ Err (refused_as r) → RefusesIn frame e outcome
refuses-told frame r halts.Memory outcome told is = tt
refuses-told {A} frame r (halts.Refused q) outcome told is =
    let refused : Refusal → Outcome A = λ x. Err (refused_as x) in
    ap (in_frame frame) is ∙ ap refused (sym told)

memory-told : {A : Type 0} (frame : Path) (e : RunError) (outcome : Outcome A) → e ≡ halts.Memory → RefusesIn frame e outcome
memory-told frame e outcome is = subst (λ (x : RunError). RefusesIn frame x outcome) (sym is) tt

-- what giving is refused for before anything is written
pub change-refused : (writing : Write → Outcome Changed) (frame : Path) (error : TreeError) (e : RunError) (outcome : Outcome Changed) → IsToldIn frame error e
    → ComesTo writing (Err error) outcome → RefusesIn frame e outcome
change-refused writing frame (errors.Refused r) e outcome told comes = refuses-told frame r e outcome told comes
change-refused writing frame errors.Memory e outcome told comes = memory-told frame e outcome told

change_of : {A B : Type 0} (o : Outcome A) (f : A → B) (q : Refused) → (o >>= (λ x. Ok (f x))) ≡ Err q → o ≡ Err q
change_of (Ok x) f q is = cc
change_of (Err e) f q is = let same : e ≡ q = cc in ap Err same

-- what a write is refused for
pub write-refused : (types : Catalog) (target : Target) (w : Write) (s now : Tree) (frame : Path) (error : TreeError) (e : RunError) (outcome : Outcome Changed)
    → IsToldIn frame error e → outcome ≡ written types target w (tree_in s) → Leaves (Err error) (after_write types target w s) now → RefusesIn frame e outcome
write-refused types target w s now frame (errors.Refused r) e outcome told is leaves =
    refuses-told frame r e outcome told (is ∙ change_of (written types target w (tree_in s)) (λ c. recorded.with_change c s) (refused_as r) leaves)
write-refused types target w s now frame errors.Memory e outcome told is leaves = memory-told frame e outcome told

-- One write, as an act.

pub writes-refused : (frame : Path) (e : RunError) (outcome : Outcome Changed) (before after : Tree) → after ≡ before → RefusesIn frame e outcome → Writes (Err e) frame outcome before after
unfolding writes
writes-refused frame e outcome before after stays refuses = subst (λ (t : Tree). Writes (Err e) frame outcome before t) (sym stays) (by_error e refuses)
  where
    by_error : (x : RunError) → RefusesIn frame x outcome → Writes (Err x) frame outcome before before
    by_error halts.Memory h change counted steps is =
        acts-memory (λ x. x) halts.Memory (writes frame change) (point before counted steps) (point before counted steps) refl (kept-same before before refl) (omega arith)
    by_error (halts.Refused r) h change counted steps is =
        let p : Point = point before counted steps in
        record {
          came = λ tried met.
              let s : State = state_at p tried met in
              let e : writes frame change s ≡ came (Err (refused_as r)) s = ap (changed_to s) (ap (in_frame frame) is ∙ h) in
              subst (λ (ran : Ran (Unit {0})). Came {T = Unit {0}} (λ x. x) (Err (halts.Refused r)) ran (spent met) p p) (sym e) (refl, stands-still p tried met);
          back = kept-same before before refl;
          rises = omega arith;
        }

pub writes-done : (frame : Path) (outcome : Outcome Changed) (before after : Tree) (c : Changed) → outcome ≡ Ok c → after ≡ recorded.with_change c before → CanBeTakenBack before after
    → Writes (Ok tt) frame outcome before after
writes-done frame outcome before after c done leads back change counted steps is =
    let p : Point = point before counted steps in
    let q : Point = point after counted steps in
    record {
      came = λ tried met.
          let s : State = state_at p tried met in
          let stands : Stands p q (spent met) (with_change c s) = record { tree = sym leads; counted = refl; ticks = omega arith } in
          subst (λ (ran : Ran (Unit {0})). Came (λ x. x) (Ok tt) ran (spent met) p q) (sym (writes-came frame change s c (is ∙ done))) (refl, stands);
      back = back;
      rises = omega arith;
    }

-- what a write left
record Left (o : Outcome Changed) (s now : Tree) : Type 0 where
  change : Changed
  done : o ≡ Ok change
  leads : now ≡ recorded.with_change change s

left_of : (o : Outcome Changed) (s now : Tree) → (o >>= (λ c. Ok (recorded.with_change c s))) ≡ Ok now → Left o s now
left_of (Ok c) s now is = let same : recorded.with_change c s ≡ now = cc in record { change = c; done = refl; leads = sym same }
left_of (Err e) s now is = cc

pub write-done : (types : Catalog) (target : Target) (w : Write) (frame : Path) (outcome : Outcome Changed) (before after : Tree) (r : Unit {0})
    → outcome ≡ written types target w (tree_in before) → Leaves (Ok r) (after_write types target w before) after → CanBeTakenBack before after
    → Writes (Ok r) frame outcome before after
write-done types target w frame outcome before after r is leaves back =
    let left = left_of (written types target w (tree_in before)) before after leaves in
    writes-done frame outcome before after left.change (is ∙ left.done) left.leads back

-- the same write
pub writes-as : (r : Result (Unit {0}) RunError) (frame : Path) (o same : Outcome Changed) (before after : Tree) → o ≡ same → Writes r frame o before after → Writes r frame same before after
writes-as r frame o same before after is h = subst (λ (x : Outcome Changed). Writes r frame x before after) is h

-- An answer that is given to a place: by the types and the tree that the calls are given.

module _ (types by : Catalog) (target : Target) (giving : Giving) (s : Tree) (t : whole.Tree) (same : by ≡ types) (at : t ≡ tree_in s) where
  abbrev outcome : Outcome Changed
  outcome = given types target giving (tree_in s)

  comes_in : (r : Result Change TreeError) → ComesTo (λ w. written by target w t) r (given by target giving t) → ComesTo (λ w. written types target w (tree_in s)) r outcome
  comes_in r comes =
      subst (λ (u : whole.Tree). ComesTo (λ w. written types target w u) r (given types target giving u)) at
      (subst (λ (b : Catalog). ComesTo (λ w. written b target w t) r (given b target giving t)) same comes)

  leaves_in : (r : Result (Unit {0}) TreeError) (w : Write) (now : Tree) → Leaves r (after_write by target w s) now → Leaves r (after_write types target w s) now
  leaves_in r w now leaves = subst (λ (b : Catalog). Leaves r (after_write b target w s) now) same leaves

  -- it is refused before anything is written
  pub give-unmet : (frame : Path) (error : TreeError) (e : RunError) → IsToldIn frame error e → ComesTo (λ w. written by target w t) (Err error) (given by target giving t)
      → Writes (Err e) frame outcome s s
  give-unmet frame error e told comes =
      writes-refused frame e outcome s s refl (change-refused (λ w. written types target w (tree_in s)) frame error e outcome told (comes_in (Err error) comes))

  -- or as it is written
  pub give-refused : (frame : Path) (error : TreeError) (e : RunError) (change : Change) (now : Tree) → IsToldIn frame error e
      → ComesTo (λ w. written by target w t) (Ok change) (given by target giving t) → Leaves (Err error) (after_write by target (write_of change) s) now → now ≡ s
      → Writes (Err e) frame outcome s now
  give-refused frame error e change now told comes leaves stays =
      writes-refused frame e outcome s now stays
      (write-refused types target (write_of change) s now frame error e outcome told (comes_in (Ok change) comes) (leaves_in (Err error) (write_of change) now leaves))

  pub give-done : (frame : Path) (r : Unit {0}) (change : Change) (now : Tree) → ComesTo (λ w. written by target w t) (Ok change) (given by target giving t)
      → Leaves (Ok r) (after_write by target (write_of change) s) now → CanBeTakenBack s now → Writes (Ok r) frame outcome s now
  give-done frame r change now comes leaves back =
      write-done types target (write_of change) frame outcome s now r (comes_in (Ok change) comes) (leaves_in (Ok r) (write_of change) now leaves) back

-- A write that a statement names.

pub named-at : (types : Catalog) (running : List NodeNo) (w : core.Naming) (t : whole.Tree) (path : Path) (at : Place) → w.place ≡ Some at
    → path ≡ node_path w.node t.root ++ w.tokens
    → given types (record { running = running; place = at; named = Some path }) w.giving t ≡ core.named_written types running w t
named-at types running w t path at is same =
    ap (λ (p : Path). core.given_at types running w p t (Some at)) same ∙ ap (core.given_at types running w (node_path w.node t.root ++ w.tokens) t) (sym is)

pub named-unsuited : (types : Catalog) (running : List NodeNo) (w : core.Naming) (t : whole.Tree) (path : Path) → w.place ≡ None
    → path ≡ node_path w.node t.root ++ w.tokens
    → core.unsuited running w.node path t.root ≡ core.named_written types running w t
named-unsuited types running w t path is same =
    ap (λ (p : Path). core.given_at types running w p t None) same ∙ ap (core.given_at types running w (node_path w.node t.root ++ w.tokens) t) (sym is)

-- what a node isn't cleared for
pub removals-refused : (frame : Path) (error : TreeError) (e : RunError) (outcome : Outcome (List Place)) → IsToldIn frame error e
    → Answers {T = List Place} (λ x. x) (Err error) outcome → RefusesIn frame e outcome
removals-refused frame (errors.Refused r) e outcome told answers = refuses-told frame r e outcome told answers
removals-refused frame errors.Memory e outcome told answers = memory-told frame e outcome told

-- Each call has less room for views, or has counted more of its body, or is a later one of one expression. What is left
-- of a loop does the rest.
use Rattle.std.proofs.Common.{◌≡◌, ℕ, ◌+◌, ◌*◌, ◌≤◌, [], ◌∷◌, length, map, take, drop}
use Rattle.expr_syntax.specs.Shown.{shown, expressions, members}
use Rattle.expr_syntax.specs.Forms.{entry_shown}
use Rattle.answer_ops.specs.View.{answer_of}
use Rattle.eval_core.specs.Scope.{Scope}
use Rattle.eval_core.specs.Evaluating.{evaluated}
use Rattle.view_engine.specs.Made.{made_of}
use Rattle.view_engine.specs.Names.{names_of}
use Rattle.view_engine.specs.Walked.{items_of, gathered_of, walk_in}
use Rattle.view_engine.specs.Progress.{scope_of, whole_in}
use Rattle.view_engine.specs.Steps.{walk_of, tested, stepped}
use Rattle.view_engine.specs.declared.step.Step.TheVariants as step
use Rattle.view_engine.proofs.Loops.{measure, Leaves, point, walk_left}
use Rattle.view_engine.proofs.Lists.{list_left, make_left, exprs_from, entries_from}
use Rattle.view_engine.proofs.evaluating.+evaluate.Given as goal

abbrev pub decreases-evaluate : goal.decreases-evaluate
decreases-evaluate g l = measure l.scope.now.room l.counted.now 0

abbrev pub decreases-take : goal.decreases-take
decreases-take g l = measure l.scope.now.room l.counted.now 12

abbrev pub decreases-own : goal.decreases-own
decreases-own g l = l.scope.now.room * 2000100 + 8

abbrev pub decreases-get : goal.decreases-get
decreases-get g l = measure l.scope.now.room l.counted.now 8

abbrev pub decreases-one : goal.decreases-one
decreases-one g l = measure l.scope.now.room l.counted.now 8

abbrev pub decreases-two : goal.decreases-two
decreases-two g l = measure l.scope.now.room l.counted.now 8

abbrev pub decreases-walk : goal.decreases-walk
decreases-walk g l = measure l.scope.now.room l.counted.now 8

abbrev pub decreases-choose : goal.decreases-choose
decreases-choose g l = measure l.scope.now.room l.counted.now 8

abbrev pub decreases-bind : goal.decreases-bind
decreases-bind g l = measure l.scope.now.room l.counted.now 8

abbrev pub decreases-list : goal.decreases-list
decreases-list g l = measure l.scope.now.room l.counted.now 8

abbrev pub decreases-make : goal.decreases-make
decreases-make g l = measure l.scope.now.room l.counted.now 8

abbrev pub decreases-reach : goal.decreases-reach
decreases-reach g l = l.scope.now.room * 2000100 + 4

abbrev pub invariant-walk-loop-i : goal.invariant-walk-loop-i
invariant-walk-loop-i g l =
    let s : Scope = scope_of g.S.Bodies.says l.scope in
    record {
      left : Leaves
          (walk_left s (walk_of l.with.walk) (λ z. evaluated s (shown l.with.body.now) ((l.with.name.now, z) ∷ names_of l.names))
          (drop l.i (items_of (whole_in g.S.Bodies.says l.scope) l.items)) (gathered_of l.so_far))
          (tested s (stepped s (step.Walk l.with) (names_of l.names))) (point l.fn.counted l.fn.steps) (point l.counted l.steps);
      walk : walk_in l.so_far ≡ walk_of l.with.walk;
      rises : l.fn.counted ≤ l.counted;
      room : l.i-end ≡ length (items_of (whole_in g.S.Bodies.says l.scope) l.items);
    }

abbrev pub invariant-list-loop-e : goal.invariant-list-loop-e
invariant-list-loop-e g l =
    let s : Scope = scope_of g.S.Bodies.says l.scope in
    record {
      left : Leaves
          (list_left s (names_of l.names) (exprs_from l.e-index l.es) (map answer_of l.values))
          (list_left s (names_of l.names) (expressions (map shown l.es)) []) (point l.fn.counted l.fn.steps) (point l.counted l.steps);
      rises : l.fn.counted ≤ l.counted;
    }

abbrev pub invariant-make-loop-entry : goal.invariant-make-loop-entry
invariant-make-loop-entry g l =
    let s : Scope = scope_of g.S.Bodies.says l.scope in
    record {
      left : Leaves
          (make_left s (names_of l.names) (entries_from l.entry-index l.entries) (made_of (take l.entry-index l.entries) l.values))
          (make_left s (names_of l.names) (members (map entry_shown l.entries)) []) (point l.fn.counted l.fn.steps) (point l.counted l.steps);
      rises : l.fn.counted ≤ l.counted;
      count : length l.values ≡ l.entry-index;
    }

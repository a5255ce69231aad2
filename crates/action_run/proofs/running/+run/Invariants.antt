-- Each call has less room for actions, or more statements were counted, or it is a later one of one statement. What is
-- left of a loop does the rest.
use Rattle.std.proofs.Common.{◌≡◌, ◌≤◌, ◌∷◌, All, length, map, take, drop}
use Rattle.expr_syntax.specs.Shown.{shown}
use Rattle.expr_syntax.specs.ShownStatements.{statements, stmt_shown, block_shown}
use Rattle.expr_syntax.specs.Syntax as syntax
use Rattle.answer_ops.specs.View.{answer_of}
use Rattle.live_tree.specs.Contents.{state}
use Rattle.plain_answers.specs.EachExpression.{HoldsInBlock}
use Rattle.plain_answers.specs.Plainness.{IsPlainAnswer, IsPlainEnv, HasPlainConstants}
use Rattle.action_core.specs.Running.{ran, ran_block, over_each}
use Rattle.action_steps.specs.Doing.{point}
use Rattle.action_steps.specs.Acting.{acting_of, env_of}
use Rattle.action_run.proofs.Sequences.{Leaves, measure}
use Rattle.action_run.proofs.running.+run.Given as goal

abbrev pub decreases-attempt : goal.decreases-attempt
decreases-attempt g l = measure l.acting.now.room l.counted.now 18

abbrev pub decreases-call : goal.decreases-call
decreases-call g l = measure l.acting.now.room l.counted.now 15

abbrev pub decreases-call_on : goal.decreases-call_on
decreases-call_on g l = measure l.acting.now.room l.counted.now 18

abbrev pub decreases-choose : goal.decreases-choose
decreases-choose g l = measure l.acting.now.room l.counted.now 18

abbrev pub decreases-each : goal.decreases-each
decreases-each g l = measure l.acting.now.room l.counted.now 18

abbrev pub decreases-run_block : goal.decreases-run_block
decreases-run_block g l = measure l.acting.now.room l.counted.now 9

abbrev pub decreases-run_statement : goal.decreases-run_statement
decreases-run_statement g l = measure l.acting.now.room l.counted.now 20

abbrev pub decreases-run_statements : goal.decreases-run_statements
decreases-run_statements g l = measure l.acting.now.room l.counted.now 8

abbrev pub decreases-run_turn : goal.decreases-run_turn
decreases-run_turn g l = measure l.acting.now.room l.counted.now 16

abbrev pub decreases-surround : goal.decreases-surround
decreases-surround g l = measure l.within.now.room l.counted.now 10

abbrev pub invariant-each-loop-value : goal.invariant-each-loop-value
invariant-each-loop-value g l =
    record {
      left : Leaves (λ u. env_of l.fn.env)
          (over_each (λ y. ran_block (acting_of l.acting) (block_shown l.body) ((l.name, y) ∷ env_of l.fn.env)) (map answer_of (drop l.value-index l.value-items)))
          (ran (acting_of l.acting) (syntax.each (shown l.e) l.name (block_shown l.body)) (env_of l.fn.env))
          (point (state l.fn.tree) l.fn.counted l.fn.steps) (point (state l.tree) l.counted l.steps);
      plain : All IsPlainAnswer (map answer_of (drop l.value-index l.value-items));
      bound : IsPlainEnv (env_of l.env);
      env : l.env ≡ l.fn.env;
      rises : l.fn.counted ≤ l.counted;
    }

abbrev pub invariant-run_statements-loop-statement : goal.invariant-run_statements-loop-statement
invariant-run_statements-loop-statement g l =
    record {
      left : Leaves (λ u. u)
          (ran_block (acting_of l.acting) (statements (map stmt_shown (drop l.statement-index l.listed))) (env_of l.env))
          (ran_block (acting_of l.acting) (statements (map stmt_shown l.listed)) (env_of l.fn.env))
          (point (state l.fn.tree) l.fn.counted l.fn.steps) (point (state l.tree) l.counted l.steps);
      good : HoldsInBlock HasPlainConstants (statements (map stmt_shown (drop l.statement-index l.listed)));
      bound : IsPlainEnv (env_of l.env);
      kept : take (length l.fn.env.bindings) l.env.bindings ≡ l.fn.env.bindings;
      rises : l.fn.counted ≤ l.counted;
    }

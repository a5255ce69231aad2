-- Counting a statement.
use Rattle.std.proofs.Common.{◌≡◌, ℕ, suc, ◌+◌, ◌<◌, ◌≤◌, true, false, Ok, Err, refl, sym, ◌∙◌, subst, arith}
use Rattle.std.specs.Prelude.{nat_lt}
use Rattle.std.proofs.lemmas.Bool.{lt-ltb, le-ltb}
use Rattle.pointer_core.specs.Path.{Path}
use Rattle.pointer_core.specs.declared.refusal.Rule.TheVariants as rule
use Rattle.live_tree.proofs.TakenBack.{kept-same}
use Rattle.tree_core.specs.State.{State as Tree}
use Rattle.view_engine.specs.declared.halt.RunError.{RunError}
use Rattle.action_core.specs.Act.{Ran}
use Rattle.action_core.specs.Behaving.{counts, most_statements}
use Rattle.tree_core.specs.Outcome.{refuse}
use Rattle.action_core.proofs.Composing.{tells-came, counts-came, counts-refused}
use Rattle.action_steps.specs.Doing.{Point, point, state_at, spent, Came, Performs, IsRefusal}
use Rattle.action_steps.proofs.Doing.{acts-refuses}

below : (n : ℕ) → n < 100000 → nat_lt n most_statements ≡ true
below n h = lt-ltb n 100000 h

not_below : (n : ℕ) → 100000 ≤ n → nat_lt n most_statements ≡ false
not_below n h = le-ltb n 100000 h

pub counted-more : (frame : Path) (n steps : ℕ) (tree : Tree) → n < 100000
    → Performs (λ (u : Unit {0}). u) (Ok tt) (counts frame) (point tree n steps) (point tree (n + 1) steps)
counted-more frame n steps tree h = record {
  came = λ tried met.
      let a : Point = point tree n steps in
      subst (λ (ran : Ran (Unit {0})). Came (λ (u : Unit {0}). u) (Ok tt) ran (spent met) a (point tree (n + 1) steps))
      (sym (counts-came frame (state_at a tried met) (below n h)))
      (refl, record { tree = refl; counted = let e : suc n ≡ n + 1 = omega arith in e; ticks = omega arith });
  back = kept-same tree tree refl;
  rises = omega arith;
}

pub counted-most : (frame : Path) (e : RunError) (n steps : ℕ) (tree : Tree) → 100000 ≤ n → IsRefusal e frame rule.Budget
    → Performs {T = Unit {0}} (λ u. u) (Err e) (counts frame) (point tree n steps) (point tree n steps)
counted-most frame e n steps tree h refused = record {
  came = λ tried met.
      let a : Point = point tree n steps in
      subst (λ (ran : Ran (Unit {0})). Came {T = Unit {0}} (λ u. u) (Err e) ran (spent met) a a)
      (tells-came (refuse {A = Unit {0}} frame rule.Budget) (state_at a tried met) ∙ sym (counts-refused frame (state_at a tried met) (not_below n h)))
      ((acts-refuses {T = Unit {0}} {A = Unit {0}} (λ u. u) e frame rule.Budget a refused).came tried met);
  back = kept-same tree tree refl;
  rises = omega arith;
}

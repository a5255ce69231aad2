-- An action of a typed tree leaves a typed tree.
use Rattle.std.proofs.Common.{◌≡◌, ℕ, ◌≤◌, [], Ok, refl, ap, subst, arith}
use Rattle.std.specs.Prelude.{IfOk}
use Rattle.type_table.specs.Table.{Catalog}
use Rattle.type_core.specs.Making.{Outcome}
use Rattle.type_core.specs.Sound.{IsSound}
use Rattle.tree_core.specs.Changed.{Changed}
use Rattle.tree_core.specs.Outcome.{◌>>=◌}
use Rattle.tree_core.specs.Recorded.{tree_in, with_change}
use Rattle.tree_core.specs.State.{State as Tree}
use Rattle.tree_core.specs.Writing.{Target}
use Rattle.tree_core.proofs.Keeping.{Keeps, undone}
use Rattle.tree_core.proofs.PlaceKeeping.{written-keeps}
use Rattle.live_tree.proofs.TakenBack.{kept-recorded}
use Rattle.tree_laws.specs.Calls.{Writes}
use Rattle.tree_laws.specs.Trees.{IsTypedTree}
use Rattle.tree_laws.proofs.StayTyped.{writes-typed}
use Rattle.plain_answers.specs.Plainness.{IsPlainAnswer, ArePlainAnswers, HasPlainConstants}
use Rattle.action_core.specs.Act.{root_of, state_of}
use Rattle.action_core.specs.Behaving.{Behaving, Callee}
use Rattle.action_core.specs.Calling.{acted, most_actions}
use Rattle.answer_writing.specs.Giving.{Giving, given}
use Rattle.action_core.specs.Keeping.{Keeping, GivesFine}
use Rattle.action_core.proofs.Kept.{called_kept}
use Rattle.action_laws.specs.Laws.{IsPlainBehaving}
use Rattle.action_laws.proofs.Arguments.{bound-plain}
use Rattle.action_laws.proofs.Leading.{fine-given, evaluates, walks}
use Rattle.action_laws.proofs.Writes.{WritesValue, given-written}

-- where more numbers were given out
abbrev numbered_on : Tree → ℕ → Tree
numbered_on t next = record { tree = t.tree; next = next; calls = t.calls }

typed-later : (types : Catalog) (t : Tree) (next : ℕ) → t.next ≤ next → IsTypedTree types t → IsTypedTree types (numbered_on t next)
typed-later types t next later h =
    record {
      plain = h.plain;
      nodes = record {
        labelled = h.nodes.labelled;
        numbered = record { differ = h.nodes.numbered.differ; below = λ n above. h.nodes.numbered.below n (omega (arith, later, above)) };
      };
      logged = h.logged;
    }

-- a write
module _ (types : Catalog) (sound : IsSound types) (target : Target) (how : Giving) (t : Tree) (h : IsTypedTree types t) (fine : GivesFine IsPlainAnswer how)
    (c : Changed) (e : given types target how (tree_in t) ≡ Ok c) where
  value : WritesValue types target (tree_in t) c
  value = given-written types sound target how (tree_in t) h.plain fine c e

  writes : Writes types t (with_change c t)
  writes = record {
    target = target;
    write = value.write;
    plain = value.plain;
    done = ap (λ (o : Outcome Changed). o >>= (λ changed. Ok (with_change changed t))) value.done;
  }

  keeps : Keeps t.next t.tree c
  keeps =
      subst (λ (o : Outcome Changed). IfOk o (Keeps t.next t.tree)) value.done
      (written-keeps types sound target value.write (tree_in t) h.nodes.numbered h.plain value.plain)

  change-typed : IsTypedTree types (with_change c t)
  change-typed = writes-typed types sound t (with_change c t) h writes

  change-later : t.next ≤ (with_change c t).next
  change-later = (kept-recorded c.value c.edits c.next t (with_change c t) refl (undone t.next t.tree c keeps) keeps.later).later

-- All that an action does.

module _ (behaving : Behaving) (well : IsPlainBehaving behaving) where
  typing : Keeping
  typing = record {
    behaving = behaving;
    Rel = λ a b. a.tree.next ≤ b.tree.next;
    Fit = λ s. IsTypedTree behaving.types s.tree;
    Fine = IsPlainAnswer;
    Good = HasPlainConstants;
    actions = well.actions;
    stays = λ s. omega arith;
    goes_on = λ a b c first next. omega (arith, first, next);
    evaluates = λ s fit e good env fine before. evaluates behaving well s fit.plain e good env fine before;
    walks = λ s fit x fine before. walks behaving well s fit.plain x fine before;
    binds = λ s fit callee fine action. bound-plain behaving well.sound callee fine (root_of s) action;
    bound = λ s fit n. (tt, (tt, tt));
    meets = λ A run s fit. (fit, omega arith);
    counting = λ s fit e. (fit, omega arith);
    writing = λ target how s c fit fine e.
        (change-typed behaving.types well.sound target how s.tree fit fine c e, change-later behaving.types well.sound target how s.tree fit fine c e);
    backing = λ earlier now began fit later. (typed-later behaving.types earlier.tree now.tree.next later began, later);
  }

  pub action-typed : (callee : Callee) → ArePlainAnswers callee.given → (t : Tree) → IsTypedTree behaving.types t
      → IsTypedTree behaving.types (acted behaving callee (state_of t)).state.tree
  unfolding typing
  action-typed callee fine t typed =
      (called_kept typing most_actions (record { nodes = []; frame = [] }) callee (fine-given callee.given fine) (state_of t) typed).fit

-- An action of a sound tree leads on.
use Rattle.std.proofs.Common.{◌≡◌, ℕ, ◌≤◌, List, [], ◌∷◌, Ok, refl, sym, subst, ap, arith, append-nil}
use Rattle.std.specs.Prelude.{IfOk}
use Rattle.snap_core.specs.Value.{IsPlain}
use Rattle.type_table.specs.Table.{Catalog}
use Rattle.type_core.specs.Making.{Outcome}
use Rattle.type_core.specs.Sound.{IsSound}
use Rattle.expr_syntax.specs.Syntax.{Expression}
use Rattle.edit_core.specs.Labelled.{bare}
use Rattle.tree_core.specs.Changed.{Changed}
use Rattle.tree_core.specs.Outcome as outcome
use Rattle.tree_core.specs.Recorded as recording
use Rattle.tree_core.specs.Recorded.{IsTreeOf, tree_in, after_settling}
use Rattle.tree_core.specs.State.{State as Tree, patches_of}
use Rattle.tree_core.specs.Writing.{Target}
use Rattle.tree_core.proofs.Keeping.{Keeps as ChangeKeeps, undone}
use Rattle.tree_core.proofs.PlaceKeeping.{written-keeps}
use Rattle.live_tree.specs.Laws.{CanBeTakenBack}
use Rattle.live_tree.proofs.TakenBack.{kept-recorded, kept-together}
use Rattle.tree_laws.specs.Calls.{Writes, LeadsOn}
use Rattle.tree_laws.specs.Trees.{IsSoundTree}
use Rattle.tree_laws.proofs.Joining.{goes-on}
use Rattle.tree_laws.proofs.Loose.{settling-settles}
use Rattle.tree_laws.proofs.Settling.{settling-leads}
use Rattle.tree_laws.proofs.SettlingSound.{settling-keeps}
use Rattle.tree_laws.proofs.TreeRight.{writes-keep}
use Rattle.tree_laws.proofs.Writes.{writes-lead}
use Rattle.eval_core.specs.Answer.{Answer, AnswerList, no_answers, answer}
use Rattle.eval_core.specs.Asking.{most_views}
use Rattle.eval_core.specs.Evaluating.{evaluated}
use Rattle.eval_core.specs.Scope.{Env}
use Rattle.eval_core.specs.Walking.{Item, given, standing, walked, read_item}
use Rattle.eval_core.specs.declared.site.Site.{Site}
use Rattle.plain_answers.specs.Plainness.{IsPlainAnswer, ArePlainAnswers, IsPlainEnv, HasPlainConstants}
use Rattle.plain_answers.proofs.Giving as plain_giving
use Rattle.plain_answers.proofs.Giving.{Gives, going_on}
use Rattle.plain_answers.proofs.Readings.{IsPlainScope, held}
use Rattle.plain_answers.proofs.Walks.{ArePlainItems, walking}
use Rattle.plain_views.proofs.PlainTrees.{sight-plain, trees-plain}
use Rattle.action_core.specs.Act.{State, root_of}
use Rattle.action_core.specs.Behaving.{Behaving}
use Rattle.action_core.specs.Calling.{called}
use Rattle.answer_writing.specs.Giving.{Giving}
use Rattle.answer_writing.specs.Giving as giving
use Rattle.action_core.specs.Keeping.{Keeping, EachFine, AreFine, IsFineEnv, GivesFine, scope_of}
use Rattle.action_core.specs.Running.{all_read, items_read}
use Rattle.action_core.proofs.Kept.{called_kept}
use Rattle.action_laws.specs.Laws.{IsPlainBehaving, Leads, ActionsLead, ActionsAreDone}
use Rattle.action_laws.proofs.Arguments.{bound-plain}
use Rattle.action_laws.proofs.Writes.{WritesValue, given-written}

-- Evaluating over a plain tree.

pub env-plain : (env : Env) → IsFineEnv IsPlainAnswer env → IsPlainEnv env
env-plain [] h = tt
env-plain (b ∷ bs) h = (h.0, env-plain bs h.1)

pub fine-given : (xs : AnswerList) → ArePlainAnswers xs → AreFine IsPlainAnswer xs
fine-given no_answers h = tt
fine-given (answer x xs) h = (h.0, fine-given xs h.1)

module _ (behaving : Behaving) (well : IsPlainBehaving behaving) (s : State) (plain : IsPlain (bare (root_of s))) where
  pub evaluates : (e : Expression) → HasPlainConstants e → (env : Env) → IsFineEnv IsPlainAnswer env → Gives IsPlainAnswer (evaluated (scope_of behaving s) e env)
  evaluates e good env fine before =
      (trees-plain behaving.viewing (record { table = behaving.types.table; tree = root_of s }) well.views plain).expressions e env before good (env-plain env fine)

  scope-plain : IsPlainScope (scope_of behaving s)
  scope-plain = record {
    seen = sight-plain (record { table = behaving.types.table; tree = root_of s }) plain;
    asking = λ n v before. (trees-plain behaving.viewing (record { table = behaving.types.table; tree = root_of s }) well.views plain).views most_views [] n v before;
  }

  reading : (i : Item) → ArePlainItems (i ∷ []) → Gives IsPlainAnswer (read_item (scope_of behaving s) i)
  reading (given x) h = plain_giving.given IsPlainAnswer x h.0
  reading (standing n e) h = held (scope_of behaving s) (Site.Entry n e.token) e.held h.0

  all-read : (is : List Item) → ArePlainItems is → Gives (EachFine IsPlainAnswer) (all_read (scope_of behaving s) is)
  all-read [] h = plain_giving.given (EachFine IsPlainAnswer) [] tt
  all-read (i ∷ is) h =
      going_on IsPlainAnswer (EachFine IsPlainAnswer) _ _ (reading i (h.0, tt))
      (λ x fine. going_on (EachFine IsPlainAnswer) (EachFine IsPlainAnswer) _ _ (all-read is h.1) (λ xs rest. plain_giving.given (EachFine IsPlainAnswer) (x ∷ xs) (fine, rest)))

  pub walks : (x : Answer) → IsPlainAnswer x → Gives (EachFine IsPlainAnswer) (items_read (scope_of behaving s) x)
  walks x fine = going_on ArePlainItems (EachFine IsPlainAnswer) (walked (scope_of behaving s) x) _ (walking (scope_of behaving s) scope-plain x fine) all-read

-- Trees.

-- nothing was kept, whatever numbers were given out
abbrev numbered_on : Tree → ℕ → Tree
numbered_on t next = record { tree = t.tree; next = next; calls = t.calls }

still : (t : Tree) (next : ℕ) → LeadsOn t (numbered_on t next)
still t next = record { on = record { more = []; logged = sym (append-nil (patches_of t)); leads = refl }; back = refl }

module _ (types : Catalog) where
  sound-later : (t : Tree) (next : ℕ) → t.next ≤ next → IsSoundTree types t → IsSoundTree types (numbered_on t next)
  sound-later t next later h =
      record {
        typed = record {
          plain = h.typed.plain;
          nodes = record {
            labelled = h.typed.nodes.labelled;
            numbered = record { differ = h.typed.nodes.numbered.differ; below = λ n above. h.typed.nodes.numbered.below n (omega (arith, later, above)) };
          };
          logged = h.typed.logged;
        };
        value = h.value;
      }

-- a tree of which nothing was kept since can be taken back to it
still-back : (t : Tree) (next : ℕ) → t.next ≤ next → CanBeTakenBack t (numbered_on t next)
still-back t next later = record { calls = []; edited = tt; joined = refl; led = refl; later = later }

-- a write
module _ (types : Catalog) (sound : IsSound types) (target : Target) (how : Giving) (t : Tree) (h : IsSoundTree types t) (fine : GivesFine IsPlainAnswer how)
    (c : Changed) (e : giving.given types target how (tree_in t) ≡ Ok c) where
  value : WritesValue types target (tree_in t) c
  value = given-written types sound target how (tree_in t) h.typed.plain fine c e

  writes : Writes types t (recording.with_change c t)
  writes = record {
    target = target;
    write = value.write;
    plain = value.plain;
    done = ap (λ (o : Outcome Changed). outcome.◌>>=◌ o (λ changed. Ok (recording.with_change changed t))) value.done;
  }

  keeps : ChangeKeeps t.next t.tree c
  keeps =
      subst (λ (o : Outcome Changed). IfOk o (ChangeKeeps t.next t.tree)) value.done
      (written-keeps types sound target value.write (tree_in t) h.typed.nodes.numbered h.typed.plain value.plain)

  change-leads : Leads types t (recording.with_change c t)
  change-leads = record {
    on = writes-lead types sound t (recording.with_change c t) h writes;
    sound = writes-keep types sound t (recording.with_change c t) h writes;
    back = kept-recorded c.value c.edits c.next t (recording.with_change c t) refl (undone t.next t.tree c keeps) keeps.later;
  }

-- All that an action does.

module _ (behaving : Behaving) (well : IsPlainBehaving behaving) where
  abbrev IsFit : State → Type 0
  IsFit s = IsSoundTree behaving.types s.tree

  record Led (a b : Tree) : Type 0 where
    on : LeadsOn a b
    back : CanBeTakenBack a b

  same : (t : Tree) → Led t t
  same t = record { on = still t t.next; back = still-back t t.next (omega arith) }

  leading : Keeping
  leading = record {
    behaving = behaving;
    Rel = λ a b. Led a.tree b.tree;
    Fit = IsFit;
    Fine = IsPlainAnswer;
    Good = HasPlainConstants;
    actions = well.actions;
    stays = λ s. same s.tree;
    goes_on = λ a b c first next.
        record { on = goes-on a.tree b.tree c.tree first.on next.on; back = kept-together a.tree b.tree c.tree first.back next.back };
    evaluates = λ s fit e good env fine before. evaluates behaving well s fit.typed.plain e good env fine before;
    walks = λ s fit x fine before. walks behaving well s fit.typed.plain x fine before;
    binds = λ s fit callee fine action. bound-plain behaving well.sound callee fine (root_of s) action;
    bound = λ s fit n. (tt, (tt, tt));
    meets = λ A run s fit. (fit, same s.tree);
    counting = λ s fit e. (fit, same s.tree);
    writing = λ target how s c fit fine e.
        let led = change-leads behaving.types well.sound target how s.tree fit fine c e in (led.sound, record { on = led.on; back = led.back });
    backing = λ earlier now began fit led. (
      sound-later behaving.types earlier.tree now.tree.next led.back.later began,
      record { on = still earlier.tree now.tree.next; back = still-back earlier.tree now.tree.next led.back.later },
    );
  }

pub actions-lead : ActionsLead
unfolding leading
actions-lead behaving well room running callee fine s fit =
    let kept = called_kept (leading behaving well) room running callee (fine-given callee.given fine) s fit in
    record { on = kept.rel.on; back = kept.rel.back; sound = kept.fit }

pub actions-done : ActionsAreDone
actions-done behaving well room running callee fine s fit =
    let types = behaving.types in
    let after : Tree = (called behaving room running callee s).state.tree in
    let led = actions-lead behaving well room running callee fine s fit in
    record {
      leads = goes-on s.tree after (after_settling types after) led.on (settling-leads types well.sound after led.sound);
      sound = settling-keeps types well.sound after led.sound;
      settled = settling-settles types well.sound after;
    }

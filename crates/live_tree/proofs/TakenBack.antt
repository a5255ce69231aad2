-- What was done can be taken back.
use Rattle.std.proofs.Common.{◌≡◌, ℕ, ◌≤◌, List, [], ◌∷◌, ◌++◌, refl, sym, ap, subst, ◌∙◌, arith}
use Rattle.std.proofs.lemmas.List.{append_assoc}
use Rattle.edit_core.specs.Labelled.{Labelled}
use Rattle.edit_core.specs.Logged.{LoggedEdit, before_log}
use Rattle.tree_core.specs.State.{State, Calls, recorded, rolled_back, mark_of}
use Rattle.live_tree.specs.Laws.{AreEdited, before_calls, CanBeTakenBack, given_back}
use Rattle.node_core.specs.declared.labelled.Labelled.{Labelled as Tree}
use Rattle.node_core.specs.declared.edit.LoggedEdit.{LoggedEdit as CodeEdit}
use Rattle.node_core.specs.View.{labelled, edits_of}
use Rattle.live_tree.specs.declared.call.Call.{Call}
use Rattle.live_tree.specs.Contents.{state}
use Rattle.live_tree.specs.Inside.{contents}
use Rattle.live_tree.proofs.KeptCalls.{state_more}
use Rattle.live_tree.proofs.RollingBack.{many_back}

-- nothing was done
pub kept-same : (s t : State) → t ≡ s → CanBeTakenBack s t
kept-same s t same =
    record { calls = []; edited = tt; joined = ap (λ (u : State). u.calls) same; led = ap (λ (u : State). u.tree) same; later = omega (arith, ap (λ (u : State). u.next) same) }

-- a change was recorded
some-kept : (value : Labelled) (es : List LoggedEdit) (after : ℕ) (s : State) → before_log es value ≡ s.tree → s.next ≤ after
    → CanBeTakenBack s (recorded value es after s)
some-kept value [] after s undone later = kept-same s s refl
some-kept value (e ∷ es) after s undone later =
    record { calls = (e ∷ es) ∷ []; edited = ((λ h. cc), tt); joined = refl; led = undone; later = later }

pub kept-recorded : (value : Labelled) (es : List LoggedEdit) (after : ℕ) (s t : State) → t ≡ recorded value es after s → before_log es value ≡ s.tree → s.next ≤ after
    → CanBeTakenBack s t
kept-recorded value es after s t is undone later =
    let Kept : State → Type 0 = λ u. CanBeTakenBack s u in
    subst Kept (sym is) (some-kept value es after s undone later)

-- calls, and then others
edited-joined : (cs ds : Calls) → AreEdited cs → AreEdited ds → AreEdited (cs ++ ds)
edited-joined [] ds p q = q
edited-joined (c ∷ cs) ds p q = (p.0, edited-joined cs ds p.1 q)

before-joined : (cs ds : Calls) (x : Labelled) → before_calls (cs ++ ds) x ≡ before_calls ds (before_calls cs x)
before-joined [] ds x = refl
before-joined (c ∷ cs) ds x = before-joined cs ds (before_log c x)

pub kept-together : (first second third : State) → CanBeTakenBack first second → CanBeTakenBack second third → CanBeTakenBack first third
kept-together first second third a b =
    record {
      calls = b.calls ++ a.calls;
      edited = edited-joined b.calls a.calls b.edited a.edited;
      joined = b.joined ∙ ap (λ cs. b.calls ++ cs) a.joined ∙ sym (append_assoc b.calls a.calls first.calls);
      led = before-joined b.calls a.calls third.tree ∙ ap (before_calls a.calls) b.led ∙ a.led;
      later = omega (arith, a.later, b.later);
    }

-- rolling back to the mark of then
pub back-to : (before now : State) → CanBeTakenBack before now → rolled_back (mark_of before) now ≡ given_back before now
back-to before now kept =
    let At : Calls → State = λ cs. record { tree = now.tree; next = now.next; calls = cs } in
    ap (λ cs. rolled_back (mark_of before) (At cs)) kept.joined ∙ many_back before kept.calls now.tree now.next kept.edited kept.led

-- one call more, as the code leaves it
pub kept-more : (root : Tree) (next : ℕ) (calls : List Call) (value : Tree) (es : List CodeEdit) (after : ℕ) (root2 value2 : Tree) (cs : List Call) (s : State)
    → (es ≡ [] → ⊥) → root2 ≡ root → value2 ≡ value → cs ≡ calls ++ record { edits = es; before = root2 } ∷ [] → state (contents root next calls) ≡ s
    → before_log (edits_of es) (labelled value) ≡ s.tree → s.next ≤ after → CanBeTakenBack s (state (contents value2 after cs))
kept-more root next calls value es after root2 value2 cs s some same new e is undone later =
    let Of : Tree → List Call → State = λ v ds. state (contents v after ds) in
    let calls-are : cs ≡ calls ++ record { edits = es; before = root } ∷ [] = e ∙ ap (λ (r : Tree). calls ++ record { edits = es; before = r } ∷ []) same in
    let moved : Of value2 cs ≡ recorded (labelled value) (edits_of es) after s =
    ap (λ v. Of v cs) new ∙ ap (Of value) calls-are ∙ state_more root next calls value es after some ∙ ap (recorded (labelled value) (edits_of es) after) is in
    kept-recorded (labelled value) (edits_of es) after s (Of value2 cs) moved undone later

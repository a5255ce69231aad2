-- Calls are taken back one by one.
use Rattle.std.proofs.Common.{◌≡◌, ℕ, ◌<◌, ◌≤◌, List, [], ◌∷◌, ◌++◌, leb, refl, sym, ap, ◌∙◌, arith}
use Rattle.std.proofs.lemmas.Bool.{lt-leb, le-leb, cond-false, cond-true}
use Rattle.edit_core.specs.Labelled.{Labelled}
use Rattle.edit_core.specs.Logged.{LoggedEdit, before_log}
use Rattle.live_tree.specs.Laws.{before_calls, AreEdited}
use Rattle.tree_core.specs.State.{State, Calls, Past, count_of, mark_of, past_within, rolled_back, without_newest, recorded}

-- while there are more edits than at the mark, the newest call goes
further : (mark : ℕ) (x : Labelled) (next : ℕ) (calls : Calls)
    → mark < count_of calls
    → rolled_back mark (without_newest (record { tree = x; next = next; calls = calls })) ≡ rolled_back mark (record { tree = x; next = next; calls = calls })
further mark x next [] h = absurd (omega arith)
further mark x next (call ∷ calls) h =
    let past : Past → State = λ p. record { tree = p.tree; next = next; calls = p.calls } in
    ap past (sym (cond-false (leb (count_of (call ∷ calls)) mark) (record { tree = x; calls = call ∷ calls }) (past_within mark (before_log call x) calls) (lt-leb _ _ h)))

pub taken_back : (mark : ℕ) (s : State) → mark < mark_of s → rolled_back mark (without_newest s) ≡ rolled_back mark s
taken_back mark s h = further mark s.tree s.next s.calls h

-- then all stays
nothing : (mark : ℕ) (x : Labelled) (next : ℕ) (calls : Calls)
    → count_of calls ≤ mark
    → rolled_back mark (record { tree = x; next = next; calls = calls }) ≡ record { tree = x; next = next; calls = calls }
nothing mark x next [] h = refl
nothing mark x next (call ∷ calls) h =
    let past : Past → State = λ p. record { tree = p.tree; next = next; calls = p.calls } in
    ap past (cond-true (leb (count_of (call ∷ calls)) mark) (record { tree = x; calls = call ∷ calls }) (past_within mark (before_log call x) calls) (le-leb _ _ h))

pub at_mark : (mark : ℕ) (s : State) → mark_of s ≤ mark → rolled_back mark s ≡ s
at_mark mark s h = nothing mark s.tree s.next s.calls h

-- after a change, the mark before it leads back
pub led_back : (s : State) (value : Labelled) (es : List LoggedEdit) (after : ℕ) → before_log es value ≡ s.tree
    → rolled_back (mark_of s) (recorded value es after s) ≡ record { tree = s.tree; next = (recorded value es after s).next; calls = s.calls }
led_back s value [] after undone = at_mark (mark_of s) s (omega arith)
led_back s value (e ∷ es) after undone =
    let new : State = record { tree = value; next = after; calls = (e ∷ es) ∷ s.calls } in
    let old : State = record { tree = before_log (e ∷ es) value; next = after; calls = s.calls } in
    let more : mark_of s < mark_of new = omega arith in
    sym (taken_back (mark_of s) new more) ∙ at_mark (mark_of s) old (omega arith)
    ∙ ap (λ (x : Labelled). record { tree = x; next = after; calls = s.calls }) undone

-- more calls have no fewer edits
at-least : (calls rest : Calls) → count_of rest ≤ count_of (calls ++ rest)
at-least [] rest = omega arith
at-least (call ∷ calls) rest = omega (arith, at-least calls rest)

-- however many calls came after a mark, they are taken back
pub many_back : (s : State) (calls : Calls) (x : Labelled) (next : ℕ) → AreEdited calls → before_calls calls x ≡ s.tree
    → rolled_back (mark_of s) (record { tree = x; next = next; calls = calls ++ s.calls }) ≡ record { tree = s.tree; next = next; calls = s.calls }
many_back s [] x next edited led =
    at_mark (mark_of s) (record { tree = x; next = next; calls = s.calls }) (omega arith) ∙ ap (λ (y : Labelled). record { tree = y; next = next; calls = s.calls }) led
many_back s ([] ∷ calls) x next edited led = absurd (edited.0 refl)
many_back s ((e ∷ es) ∷ calls) x next edited led =
    sym (taken_back (mark_of s) (record { tree = x; next = next; calls = (e ∷ es) ∷ (calls ++ s.calls) }) (omega (arith, at-least calls s.calls)))
    ∙ many_back s calls (before_log (e ∷ es) x) next edited.1 led

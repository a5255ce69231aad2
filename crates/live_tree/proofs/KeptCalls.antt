-- One call more is kept.
use Rattle.std.proofs.Common.{◌≡◌, ℕ, ◌≤◌, List, [], ◌∷◌, ◌++◌, map, reverse, refl, sym, ap, subst, ◌∙◌, arith}
use Rattle.std.proofs.lemmas.List.{map-append, reverse-append}
use Rattle.patch_core.specs.declared.patch.Patch.{Patch}
use Rattle.edit_core.specs.Labelled as edits
use Rattle.edit_core.specs.Labelled.{bare}
use Rattle.edit_core.specs.Logged.{before_log, patch_of_logged}
use Rattle.node_core.specs.declared.labelled.Labelled.{Labelled}
use Rattle.node_core.specs.declared.edit.LoggedEdit.{LoggedEdit}
use Rattle.node_core.specs.View.{labelled, edits_of}
use Rattle.tree_core.specs.State.{State, Calls, patches_of, recorded}
use Rattle.live_tree.specs.declared.call.Call.{Call}
use Rattle.live_tree.specs.Contents.{state}
use Rattle.live_tree.specs.Inside.{IsWell, AreKept, IsKept, contents, edits_in}

-- numbers that are below one are below a later one
pub well-later : (next after : ℕ) (x : edits.Labelled) → next ≤ after → IsWell next x → IsWell after x
well-later next after x h (numbered, plain) =
    (record { differ = numbered.differ; below = λ n k. numbered.below n (omega (arith, h, k)) }, plain)

kept-later : (next after : ℕ) (x : edits.Labelled) (calls : List Call) → next ≤ after → AreKept next x calls → AreKept after x calls
kept-later next after x [] h kept = tt
kept-later next after x (call ∷ calls) h (before, well, rest) =
    (before, well-later next after (labelled call.before) h well, kept-later next after (labelled call.before) calls h rest)

-- the calls of a tree, with one more
calls-more : (calls : List Call) (call : Call) → reverse (map edits_of (edits_in (calls ++ call ∷ []))) ≡ edits_of call.edits ∷ reverse (map edits_of (edits_in calls))
calls-more calls call =
    ap (λ cs. reverse (map edits_of cs)) (map-append (λ (c : Call). c.edits) calls (call ∷ []))
    ∙ ap reverse (map-append edits_of (edits_in calls) (call.edits ∷ []))
    ∙ reverse-append (map edits_of (edits_in calls)) (edits_of call.edits ∷ [])

-- What is kept of a tree that a change is made of.
module _ (root : Labelled) (next : ℕ) (calls : List Call) (patches : List Patch) (kept : IsKept (contents root next calls) calls patches)
    (value : Labelled) (es : List LoggedEdit) (after : ℕ)
    (undone : before_log (edits_of es) (labelled value) ≡ labelled root) (well : IsWell after (labelled value)) (later : next ≤ after) where
  pub kept_more : IsKept (contents value after (calls ++ record { edits = es; before = root } ∷ [])) (calls ++ record { edits = es; before = root } ∷ [])
      (patches ++ map patch_of_logged (edits_of es))
  kept_more =
      let Kept : List Call → Type 0 = λ cs. AreKept after (labelled value) cs in
      let P : Calls → Type 0 = λ cs. patches ++ map patch_of_logged (edits_of es) ≡ patches_of (record { tree = labelled value; next = after; calls = cs }) in
      record {
        well = well;
        chained =
            subst Kept (sym (reverse-append calls (record { edits = es; before = root } ∷ [])))
            (sym undone, well-later next after (labelled root) later kept.well, kept-later next after (labelled root) (reverse calls) later kept.chained);
        logged =
            subst P (sym (calls-more calls (record { edits = es; before = root })))
            (ap (λ ps. ps ++ map patch_of_logged (edits_of es)) kept.logged
            ∙ sym (map-append patch_of_logged _ (edits_of es)));
      }

  -- likewise, of what the calls of the code left
  pub kept_by : (root2 value2 : Labelled) (cs : List Call) (ps : List Patch) → root2 ≡ root → value2 ≡ value → cs ≡ calls ++ record { edits = es; before = root2 } ∷ []
      → ps ≡ patches ++ map patch_of_logged (edits_of es) → IsKept (contents value2 after cs) cs ps
  kept_by root2 value2 cs ps same new e f =
      let P : List Call → Type 0 = λ cs. IsKept (contents value after cs) cs (patches ++ map patch_of_logged (edits_of es)) in
      let Q : List Patch → Type 0 = λ ps. IsKept (contents value after cs) cs ps in
      let R : Labelled → Type 0 = λ v. IsKept (contents v after cs) cs ps in
      subst R (sym new) (subst Q (sym f) (subst P (sym (e ∙ ap (λ (r : Labelled). calls ++ record { edits = es; before = r } ∷ []) same)) kept_more))

-- a change with edits is one call more, and one without leaves all as it is
recorded-some : (value : Labelled) (after : ℕ) (call : List LoggedEdit) (s : State) → (call ≡ [] → ⊥)
    → record { tree = labelled value; next = after; calls = edits_of call ∷ s.calls } ≡ recorded (labelled value) (edits_of call) after s
recorded-some value after [] s some = absurd (some refl)
recorded-some value after (e ∷ es) s some = refl

pub state_more : (root : Labelled) (next : ℕ) (calls : List Call) (value : Labelled) (es : List LoggedEdit) (after : ℕ) → (es ≡ [] → ⊥)
    → state (contents value after (calls ++ record { edits = es; before = root } ∷ [])) ≡ recorded (labelled value) (edits_of es) after (state (contents root next calls))
state_more root next calls value es after some =
    ap (λ cs. record { tree = labelled value; next = after; calls = cs }) (calls-more calls (record { edits = es; before = root }))
    ∙ recorded-some value after es (state (contents root next calls)) some

pub nothing_recorded : (value : Labelled) (es : List LoggedEdit) (after : ℕ) (s : State) → es ≡ [] → s ≡ recorded (labelled value) (edits_of es) after s
nothing_recorded value es after s none = sym (ap (λ fs. recorded (labelled value) (edits_of fs) after s) none)

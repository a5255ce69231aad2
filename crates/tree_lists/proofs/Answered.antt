-- What an answer is, where an outcome keeps what changes keep.
use Rattle.std.proofs.Common.{◌≡◌, ℕ, ◌≤◌, List, All, Result, Ok, Err, IfOk, sym, subst}
use Rattle.snap_core.specs.Value.{IsPlain}
use Rattle.patch_core.specs.declared.patch.Patch.{Patch}
use Rattle.patch_core.specs.Printing.{HasPlainValues}
use Rattle.type_table.specs.Table.{Catalog}
use Rattle.type_core.specs.Making.{Outcome}
use Rattle.edit_core.specs.Labelled.{Labelled, bare}
use Rattle.edit_core.specs.Logged.{before_log}
use Rattle.edit_core.specs.Numbers.{AreNumbered}
use Rattle.node_core.specs.View.{labelled, plain as plain_of, edits_of}
use Rattle.tree_core.specs.declared.error.TreeError.{TreeError}
use Rattle.tree_core.specs.declared.error.TreeError.TheVariants.{Memory, Refused}
use Rattle.tree_core.specs.declared.changed.Changed.{Changed}
use Rattle.tree_core.specs.Changed as specs
use Rattle.tree_core.specs.Answers.{Answers}
use Rattle.tree_core.specs.Written.{changed}
use Rattle.tree_core.specs.Writing.{Tree}
use Rattle.tree_core.proofs.Keeping as keeping
use Rattle.tree_core.proofs.Keeping.{Keeps}
use Rattle.tree_lists.specs.Restoring.{restored}
use Rattle.tree_lists.proofs.PutBack.{restored-keeps}

-- an answer keeps what the outcome keeps
keeps : (result : Result Changed TreeError) (outcome : Outcome specs.Changed) (P : specs.Changed → Type 0) → Answers changed result outcome → IfOk outcome P → IfOk result (λ c. P (changed c))
keeps (Ok c) outcome P h kept = let Q : Outcome specs.Changed → Type 0 = λ o. IfOk o P in subst Q h kept
keeps (Err (Refused r)) outcome P h kept = tt
keeps (Err Memory) outcome P h kept = tt

pub each : {A E : Type 0} → (result : Result A E) (P Q : A → Type 0) → ((x : A) → P x → Q x) → IfOk result P → IfOk result Q
each (Ok x) P Q f h = f x h
each (Err e) P Q f h = tt

module _ (next : ℕ) (root : Labelled) (numbered-root : AreNumbered next root) (result : Result Changed TreeError) (outcome : Outcome specs.Changed)
    (answers : Answers changed result outcome) (kept : IfOk outcome (Keeps next root)) where
  answered : IfOk result (λ c. Keeps next root (changed c))
  answered = keeps result outcome (Keeps next root) answers kept

  pub undone : IfOk result (λ c. before_log (edits_of c.edits) (labelled c.value) ≡ root)
  undone = each result (λ c. Keeps next root (changed c)) _ (λ c k. keeping.undone next root (changed c) k) answered

  pub numbered : IfOk result (λ c. AreNumbered c.next (labelled c.value))
  numbered = each result (λ c. Keeps next root (changed c)) _ (λ c k. keeping.numbered-again next root (changed c) numbered-root k) answered

  pub plain : IfOk result (λ c. IsPlain (plain_of c.value))
  plain = each result (λ c. Keeps next root (changed c)) _ (λ c k. k.plain) answered

  pub later : IfOk result (λ c. next ≤ c.next)
  later = each result (λ c. Keeps next root (changed c)) _ (λ c k. k.later) answered

-- likewise of patches that are put back
module _ {E : Type 0} (types : Catalog) (ps : List Patch) (t : Tree) (values : All HasPlainValues ps) (numbered-root : AreNumbered t.next t.root) (plain-root : IsPlain (bare t.root))
    (result : Result Changed E) (is : IfOk result (λ c. changed c ≡ restored types ps t)) where
  held : IfOk result (λ c. Keeps t.next t.root (changed c))
  held =
      let kept : Keeps t.next t.root (restored types ps t) = restored-keeps types ps t values numbered-root plain-root in
      each result (λ c. changed c ≡ restored types ps t) _ (λ c e. subst (Keeps t.next t.root) (sym e) kept) is

  pub restored-undone : IfOk result (λ c. before_log (edits_of c.edits) (labelled c.value) ≡ t.root)
  restored-undone = each result (λ c. Keeps t.next t.root (changed c)) _ (λ c k. keeping.undone t.next t.root (changed c) k) held

  pub restored-numbered : IfOk result (λ c. AreNumbered c.next (labelled c.value))
  restored-numbered = each result (λ c. Keeps t.next t.root (changed c)) _ (λ c k. keeping.numbered-again t.next t.root (changed c) numbered-root k) held

  pub restored-plain : IfOk result (λ c. IsPlain (plain_of c.value))
  restored-plain = each result (λ c. Keeps t.next t.root (changed c)) _ (λ c k. k.plain) held

  pub restored-later : IfOk result (λ c. t.next ≤ c.next)
  restored-later = each result (λ c. Keeps t.next t.root (changed c)) _ (λ c k. k.later) held

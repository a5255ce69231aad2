-- What a write leaves can be recorded.
use Rattle.std.proofs.Common.{◌≡◌, ℕ, ◌≤◌, Result, Ok, Err, IfOk, sym, ap, subst, ◌∙◌}
use Rattle.type_table.specs.Table.{Catalog}
use Rattle.type_core.specs.Sound.{IsSound}
use Rattle.type_core.specs.Making.{Outcome}
use Rattle.edit_core.specs.Labelled.{Labelled}
use Rattle.edit_core.specs.Logged.{before_log}
use Rattle.node_core.specs.View.{labelled, edits_of}
use Rattle.tree_core.specs.declared.error.TreeError.{TreeError}
use Rattle.tree_core.specs.declared.error.TreeError.TheVariants.{Memory, Refused}
use Rattle.tree_core.specs.declared.changed.Changed.{Changed}
use Rattle.tree_core.specs.Changed as specs
use Rattle.tree_core.specs.Answers.{Answers}
use Rattle.tree_core.specs.Written.{changed}
use Rattle.tree_core.specs.Write.{Write, WritesPlain}
use Rattle.tree_core.specs.Writing.{Target, written}
use Rattle.tree_core.specs.Outcome.{◌>>=◌}
use Rattle.tree_core.specs.State.{State}
use Rattle.tree_core.specs.Recorded.{tree_in, with_change, after_write, Leaves}
use Rattle.tree_core.proofs.Keeping as keeping
use Rattle.tree_core.proofs.Keeping.{Keeps}
use Rattle.tree_core.proofs.PlaceKeeping.{written-keeps}
use Rattle.live_tree.specs.Inside.{IsWell}

-- an answer keeps what the outcome keeps
keeps : (result : Result Changed TreeError) (outcome : Outcome specs.Changed) (P : specs.Changed → Type 0) → Answers changed result outcome → IfOk outcome P → IfOk result (λ c. P (changed c))
keeps (Ok c) outcome P h kept = let Q : Outcome specs.Changed → Type 0 = λ o. IfOk o P in subst Q h kept
keeps (Err (Refused r)) outcome P h kept = tt
keeps (Err Memory) outcome P h kept = tt

each : {A E : Type 0} → (result : Result A E) (P Q : A → Type 0) → ((x : A) → P x → Q x) → IfOk result P → IfOk result Q
each (Ok x) P Q f h = f x h
each (Err e) P Q f h = tt

module _ (types : Catalog) (sound : IsSound types) (target : Target) (write : Write) (root : Labelled) (next : ℕ) (well-root : IsWell next root) (plain : WritesPlain write)
    (result : Result Changed TreeError) (answers : Answers changed result (written types target write (record { root = root; next = next }))) where
  pub kept : IfOk result (λ c. Keeps next root (changed c))
  kept = keeps result (written types target write (record { root = root; next = next })) (Keeps next root) answers
      (written-keeps types sound target write (record { root = root; next = next }) well-root.0 well-root.1 plain)

  pub undone : IfOk result (λ c. before_log (edits_of c.edits) (labelled c.value) ≡ root)
  undone = each result (λ c. Keeps next root (changed c)) _ (λ c k. keeping.undone next root (changed c) k) kept

  pub well : IfOk result (λ c. IsWell c.next (labelled c.value))
  well = each result (λ c. Keeps next root (changed c)) _ (λ c k. (keeping.numbered-again next root (changed c) well-root.0 k, k.plain)) kept

  pub later : IfOk result (λ c. next ≤ c.next)
  later = each result (λ c. Keeps next root (changed c)) _ (λ c k. k.later) kept

-- a change by an outcome, recorded
pub leaves-Ok : (types : Catalog) (target : Target) (write : Write) (before after : State) (c : specs.Changed)
    → written types target write (tree_in before) ≡ Ok c → after ≡ with_change c before → after_write types target write before ≡ Ok after
leaves-Ok types target write before after c outcome recorded =
    let rest : specs.Changed → Outcome State = λ changed. Ok (with_change changed before) in
    ap (λ o. o >>= rest) outcome ∙ ap (λ s. Ok s) (sym recorded)

pub leaves-Err : (types : Catalog) (target : Target) (write : Write) (before : State) (e : TreeError)
    → Answers {T = Changed} changed (Err e) (written types target write (tree_in before)) → (after : State) → Leaves (Err e) (after_write types target write before) after
leaves-Err types target write before (Refused r) answers after =
    let rest : specs.Changed → Outcome State = λ changed. Ok (with_change changed before) in ap (λ o. o >>= rest) answers
leaves-Err types target write before Memory answers after = tt

-- From a run and its report to how the run ends, and what frames it.
use Rattle.std.proofs.Common.{◌≡◌, ℕ, ◌≤◌, ◌⊎◌, inl, inr, List, [], ◌∷◌, Option, Some, None, refl, sym, ◌∙◌, ap, subst, lit<, arith}
use Rattle.std.specs.Prelude.{Contains}
use Rattle.edge_core.specs.World.{WorldState, KeepsFiles, Gets}
use Rattle.top_call.specs.declared.exit.Exit.{Exit}
use Rattle.top_call.specs.declared.exit.Exit.TheVariants.{Done, Checked, Usage, Unread, Syntax, Refused, DoorFailed, Memory, Inside}
use Rattle.top_call.specs.Words.{Command}
use Rattle.top_call.specs.Exit.{exit_code, told_err, told_out}
use Rattle.top_call.specs.Report.{Ending, Tells, Reports}
use Rattle.top_call.specs.Run.{Run, Causes, LeavesDoor, AsksForSchema, AsksForNoOther, Ends}
use Rattle.top_call.specs.RunInside.{IsEarly}

-- each exit's code is a status
known : (exit : Exit) → Contains (0 ∷ 2 ∷ 3 ∷ 4 ∷ 6 ∷ 7 ∷ 9 ∷ 10 ∷ []) (exit_code exit)
known Done = (0, lit< tt, refl)
known Checked = (0, lit< tt, refl)
known Usage = (1, lit< tt, refl)
known Unread = (2, lit< tt, refl)
known Syntax = (3, lit< tt, refl)
known (Refused pointer rule) = (3, lit< tt, refl)
known DoorFailed = (4, lit< tt, refl)
known Memory = (5, lit< tt, refl)
known Inside = (6, lit< tt, refl)

-- a run that came to an exit while the world told this, and its report
pub reported : (r : Run) (status : ℕ) (said : Option Command) (exit : Exit) (mid : WorldState) → said ≡ r.command
    → AsksForSchema said exit r.world_before mid
    → Causes (record { command = said; world_before = r.world_before; world_after = mid; door_before = r.door_before; door_after = r.door_after }) exit
    → LeavesDoor (record { command = said; world_before = r.world_before; world_after = mid; door_before = r.door_before; door_after = r.door_after }) exit
    → KeepsFiles mid r.world_after → Reports (record { command = said; exit = exit; status = status }) mid r.world_after → Ends r status
reported r status said exit mid same asks causes door keeps reports =
    let run_of : Option Command → Run = λ (c : Option Command). record { command = c; world_before = r.world_before; world_after = mid; door_before = r.door_before; door_after = r.door_after } in
    record {
      exit = exit;
      told = mid;
      asks = subst (λ (c : Option Command). AsksForSchema c exit r.world_before mid) same asks;
      causes = subst (λ (c : Option Command). Causes (run_of c) exit) same causes;
      door = subst (λ (c : Option Command). LeavesDoor (run_of c) exit) same door;
      keeps = keeps;
      reports = subst (λ (c : Option Command). Reports (record { command = c; exit = exit; status = status }) mid r.world_after) same reports;
    }

-- what asking for the schema file leaves
frame : (c : Option Command) (exit : Exit) (old new : WorldState) → AsksForSchema c exit old new
    → (new.files ≡ old.files) × (new.out ≡ old.out) × (new.err ≡ old.err) × (old.fault_count ≤ new.fault_count)
frame None exit old new same =
    (ap (λ (w : WorldState). w.files) same, ap (λ (w : WorldState). w.out) same, ap (λ (w : WorldState). w.err) same, omega (arith, ap (λ (w : WorldState). w.fault_count) same))
frame (Some c) exit old new (inl asks) = (asks.files, asks.out, asks.err, asks.count)
frame (Some c) exit old new (inr early) = (
  ap (λ (w : WorldState). w.files) early.1,
  ap (λ (w : WorldState). w.out) early.1,
  ap (λ (w : WorldState). w.err) early.1,
  omega (arith, ap (λ (w : WorldState). w.fault_count) early.1),
)

no-other : (c : Option Command) (exit : Exit) (old new : WorldState) (asked : List (List ℕ)) → AsksForSchema c exit old new → asked ≡ new.asked
    → AsksForNoOther c old.asked asked
no-other None exit old new asked same e = e ∙ ap (λ (w : WorldState). w.asked) same
no-other (Some c) exit old new asked (inl asks) e = inr (e ∙ asks.asked)
no-other (Some c) exit old new asked (inr early) e = inl (e ∙ ap (λ (w : WorldState). w.asked) early.1)

-- an exit that is told by 2, 3 or 4 is early
early_code : (exit : Exit) → (exit_code exit ≡ 2) ⊎ ((exit_code exit ≡ 3) ⊎ (exit_code exit ≡ 4)) → IsEarly exit
early_code Done is = elim is [ inl two ↦ omega (arith, two) | inr more ↦ elim more [ inl three ↦ omega (arith, three) | inr four ↦ omega (arith, four) ] ]
early_code Inside is = elim is [ inl two ↦ omega (arith, two) | inr more ↦ elim more [ inl three ↦ omega (arith, three) | inr four ↦ omega (arith, four) ] ]
early_code DoorFailed is = elim is [ inl two ↦ omega (arith, two) | inr more ↦ elim more [ inl three ↦ omega (arith, three) | inr four ↦ omega (arith, four) ] ]
early_code Memory is = elim is [ inl two ↦ omega (arith, two) | inr more ↦ elim more [ inl three ↦ omega (arith, three) | inr four ↦ omega (arith, four) ] ]
early_code exit is = tt

pub early : (ending : Ending) (old new : WorldState) → Reports ending old new
    → (ending.status ≡ 2) ⊎ ((ending.status ≡ 3) ⊎ (ending.status ≡ 4)) → IsEarly ending.exit
early ending old new (inl tells) is =
    let P : ℕ → Type 0 = λ n. (n ≡ 2) ⊎ ((n ≡ 3) ⊎ (n ≡ 4)) in
    early_code ending.exit (subst P tells.answers is)
early ending old new (inr fails) is =
    absurd (elim is [ inl two ↦ omega (arith, two, fails.answers) | inr more ↦ elim more [ inl three ↦ omega (arith, three, fails.answers) | inr four ↦ omega (arith, four, fails.answers) ] ])

module _ (r : Run) (status : ℕ) (ends : Ends r status) where
  before : (ends.told.files ≡ r.world_before.files) × (ends.told.out ≡ r.world_before.out) × (ends.told.err ≡ r.world_before.err)
      × (r.world_before.fault_count ≤ ends.told.fault_count)
  before = frame r.command ends.exit r.world_before ends.told ends.asks

  pub ends-rises : r.world_before.fault_count ≤ ends.told.fault_count
  ends-rises = before.3

  pub ends-files : r.world_after.files ≡ r.world_before.files
  ends-files = ends.keeps.files ∙ before.0

  pub ends-count : r.world_before.fault_count ≤ r.world_after.fault_count
  ends-count = omega (arith, before.3, ends.keeps.count)

  pub ends-asked_files : AsksForNoOther r.command r.world_before.asked r.world_after.asked
  ends-asked_files = no-other r.command ends.exit r.world_before ends.told r.world_after.asked ends.asks ends.keeps.asked

  pub ends-statuses : Contains (0 ∷ 2 ∷ 3 ∷ 4 ∷ 6 ∷ 7 ∷ 9 ∷ 10 ∷ []) status
  ends-statuses = elim ends.reports [
    | inl tells ↦ subst (Contains (0 ∷ 2 ∷ 3 ∷ 4 ∷ 6 ∷ 7 ∷ 9 ∷ 10 ∷ [])) (sym tells.answers) (known ends.exit)
    | inr fails ↦ subst (Contains (0 ∷ 2 ∷ 3 ∷ 4 ∷ 6 ∷ 7 ∷ 9 ∷ 10 ∷ [])) (sym fails.answers) (7, lit< tt, refl)
  ]

  -- unless the status is 10, the exit is told
  pub ends-told : ¬ (status ≡ 10) → Tells (record { command = r.command; exit = ends.exit; status = status }) r.world_before r.world_after
  ends-told not = elim ends.reports [
    | inl tells ↦ record {
      answers = tells.answers;
      err = subst (λ o. Gets (told_err r.command ends.exit) o r.world_after.err) before.2 tells.err;
      out = subst (λ o. Gets (told_out ends.exit) o r.world_after.out) before.1 tells.out;
    }
    | inr fails ↦ absurd (not fails.answers)
  ]

  pub ends-code : (k : ℕ) → status ≡ k → ¬ (k ≡ 10) → exit_code ends.exit ≡ k
  ends-code k is not = sym (ends-told (λ ten. not (sym is ∙ ten))).answers ∙ is

-- What each status tells of a run, from how the run ends.
use Rattle.std.proofs.Common.{◌≡◌, ℕ, ◌⊎◌, inl, inr, List, [], codes, append-nil, IsTrue, true, false, Option, Some, None, refl, sym, ◌∙◌, ap, subst, arith}
use Rattle.std.specs.Prelude.{IsSomeAnd, IsSome}
use Rattle.edge_core.specs.World.{WorldState, WorldHasFailed, Gets}
use Rattle.edge_core.specs.Door.{DoorHasFailed}
use Rattle.http_front.specs.Request.{Request}
use Rattle.expr_core.specs.Schema.{Schema}
use Rattle.serve_core.specs.Laws.{FaultsAreCounted, InsideIsOfStreams, DoorIsLeft}
use Rattle.serve_core.specs.declared.plan.Plan.{Plan}
use Rattle.serve_core.specs.declared.plan.Plan.TheVariants.{Streams, Port}
use Rattle.serve_core.specs.declared.plan.ServeEnd.{ServeEnd}
use Rattle.serve_core.specs.declared.plan.ServeEnd.TheVariants as end
use Rattle.top_call.specs.Answering.{replies}
use Rattle.top_call.specs.declared.exit.Exit.{Exit}
use Rattle.top_call.specs.declared.exit.Exit.TheVariants.{Done, Checked, Usage, Unread, Syntax, Refused, DoorFailed, Memory, Inside}
use Rattle.top_call.specs.Words.{Command, check, run, serve}
use Rattle.top_call.specs.Exit.{exit_code, told_err}
use Rattle.top_call.specs.Report.{Tells}
use Rattle.top_call.specs.Run.{Run, Ends, Causes, IsRun, IsServing, ServesBy, IsCheck, serving_of, IsServed, EndsInside, FailedToAttach, IfSchemaFile, IsTooLong, IsSchemaFile, Refuses, NamesFile, NamesNoFile, SchemaIsGiven, RequestsAreGiven, AreReplied}
use Rattle.top_call.proofs.Rising.{risen-longer}
use Rattle.top_call.proofs.Ends.{ends-told, ends-code, ends-rises}
use Rattle.top_call.proofs.Attaching.{failed-to-attach}
use Rattle.top_call.proofs.Completes.{Laws, checks-all, completes}
use Rattle.top_call.proofs.Cutting.{ends-inside}
use Rattle.top_call.proofs.Deciding.{unfit-code, long-code, absent-code}

-- the laws of serving
pub record ServingLaws : Type 0 where
  pub fault : FaultsAreCounted replies
  pub inside : InsideIsOfStreams replies
  pub door : DoorIsLeft replies

-- a run whose world told something else after it
abbrev pub until : Run → WorldState → Run
until r told = record r { world_after = told }

served_after : (r : Run) (told : WorldState) (end : ServeEnd) → IsServed (until r told) end → IsServed r end
served_after r told end x = record { served = x.served; serves_by = x.serves_by; plain = x.plain; file = x.file; door = x.door }

no_some : (c : Option Command) → IsSome c → c ≡ None → ⊥
no_some None some none = (let e : false ≡ true = some in cc)
no_some (Some c) some none = cc

no_named : (c : Option Command) (P : Command → Type 0) → IsSomeAnd c P → c ≡ None → ⊥
no_named None P there none = there
no_named (Some c) P there none = cc

no_check : (c : Option Command) → IsCheck c → c ≡ None → ⊥
no_check None is none = is
no_check (Some c) is none = cc

-- other words have no other cause than that of 2
none_code : (r : Run) (exit : Exit) → Causes r exit → r.command ≡ None → exit_code exit ≡ 2
none_code r Usage cause none = refl
none_code r Unread cause none = absurd (no_some r.command cause.0 none)
none_code r Syntax cause none = absurd (no_named r.command _ cause none)
none_code r (Refused pointer rule) cause none = absurd (no_named r.command _ cause none)
none_code r Checked cause none = absurd (no_check r.command cause.0 none)
none_code r Done cause none = absurd (no_named r.command _ cause.serves_by none)
none_code r Inside cause none = absurd (no_named r.command _ cause.serves_by none)
none_code r DoorFailed cause none = absurd (no_named r.command _ cause.serves_by none)
none_code r Memory cause none = absurd (no_some r.command cause.0 none)

-- the cause of each code
usage_of : (r : Run) (exit : Exit) → Causes r exit → exit_code exit ≡ 2 → r.command ≡ None
usage_of r Usage cause code = cause
usage_of r exit cause code = absurd (omega (arith, code))

unread_of : (r : Run) (exit : Exit) → Causes r exit → exit_code exit ≡ 3 → WorldHasFailed r.world_before r.world_after ⊎ IfSchemaFile r IsTooLong
unread_of r Unread cause code = cause.1
unread_of r exit cause code = absurd (omega (arith, code))

refused_of : (r : Run) (told : WorldState) (exit : Exit) → Causes (until r told) exit → exit_code exit ≡ 4
    → Gets (told_err r.command exit) r.world_before.err r.world_after.err → Refuses r
refused_of r told Syntax cause code gets = inl (cause, gets)
refused_of r told (Refused pointer rule) cause code gets = inr (record { pointer = pointer; rule = rule; file = cause; told = gets })
refused_of r told exit cause code gets = absurd (omega (arith, code))

-- a check serves nothing, and only `run` serves the standard streams
not_both : (c : Option Command) (plan : Plan) → IsCheck c → ServesBy c plan → ⊥
not_both None plan one other = one
not_both (Some (check name)) plan one other = cc
not_both (Some (run name)) plan one other = one
not_both (Some (serve name port links)) plan one other = one

runs_streams : (c : Option Command) (plan : Plan) → ServesBy c plan → plan ≡ Streams → IsRun c
runs_streams None plan by is = absurd by
runs_streams (Some (check name)) plan by is = absurd (let e : None ≡ Some plan = by in cc)
runs_streams (Some (run name)) plan by is = tt
runs_streams (Some (serve name port links)) plan by is = absurd (let e : Some (Port port links) ≡ Some Streams = by ∙ ap Some is in cc)

checked_of : (r : Run) (exit : Exit) → Causes r exit → IsCheck r.command → exit_code exit ≡ 0 → exit ≡ Checked
checked_of r Checked cause is code = refl
checked_of r Done cause is code = absurd (not_both r.command cause.served.plan is cause.serves_by)
checked_of r exit cause is code = absurd (omega (arith, code))

done_of : (r : Run) (exit : Exit) → Causes r exit → IsServing r.command → exit_code exit ≡ 0 → exit ≡ Done
done_of r Done cause is code = refl
done_of r Checked cause is code = absurd (not_both r.command is.0 cause.0 is.1)
done_of r exit cause is code = absurd (omega (arith, code))

inside_of : (r : Run) (exit : Exit) → Causes r exit → exit_code exit ≡ 9 → IsServed r end.Inside
inside_of r Inside cause code = cause
inside_of r exit cause code = absurd (omega (arith, code))

failed_of : (r : Run) (exit : Exit) → Causes r exit → exit_code exit ≡ 6 → IsServed r end.Fault
failed_of r DoorFailed cause code = cause
failed_of r exit cause code = absurd (omega (arith, code))

memory_of : (r : Run) (exit : Exit) → Causes r exit → exit_code exit ≡ 7 → (r.door_after ≡ r.door_before) ⊎ IsServed r end.Memory
memory_of r Memory cause code = cause.1
memory_of r exit cause code = absurd (omega (arith, code))

-- a door that was served to an end that is no fault is attached
attached_served : (laws : ServingLaws) (r : Run) (outcome : ServeEnd) → IsServed r outcome → ¬ (outcome ≡ end.Fault) → IsTrue r.door_after.is_attached
attached_served laws r outcome x sound = elim (laws.door (serving_of r x.served) outcome x.door).attached [ inl fault ↦ absurd (sound fault) | inr is ↦ is ]

attached_of : (laws : ServingLaws) (r : Run) (exit : Exit) → Causes r exit → IsServing r.command → (exit_code exit ≡ 0) ⊎ (exit_code exit ≡ 9)
    → IsTrue r.door_after.is_attached
attached_of laws r Done cause is code = attached_served laws r end.Done cause (λ e. (let d : end.Done ≡ end.Fault = e in cc))
attached_of laws r Inside cause is code = attached_served laws r end.Inside cause (λ e. (let d : end.Inside ≡ end.Fault = e in cc))
attached_of laws r Checked cause is code = absurd (not_both r.command is.0 cause.0 is.1)
attached_of laws r exit cause is code = absurd (elim code [ inl zero ↦ omega (arith, zero) | inr nine ↦ omega (arith, nine) ])

-- a stream that got nothing
gets-nothing : (x y : Option (List ℕ)) → Gets [] x y → y ≡ x
gets-nothing None y gets = gets
gets-nothing (Some s) y gets = gets ∙ ap Some (append-nil s)

module _ (r : Run) (status : ℕ) (ends : Ends r status) where
  code : (k : ℕ) → status ≡ k → ¬ (k ≡ 10) → exit_code ends.exit ≡ k
  code k is not = ends-code r status ends k is not

  rises-later : WorldHasFailed r.world_before ends.told → WorldHasFailed r.world_before r.world_after
  rises-later failed =
      risen-longer r.world_before.fault_count r.world_before.fault_count ends.told.fault_count r.world_after.fault_count (omega arith) ends.keeps.count (ends-rises r status ends) failed

  rises-late : WorldHasFailed ends.told r.world_after → WorldHasFailed r.world_before r.world_after
  rises-late failed =
      risen-longer r.world_before.fault_count ends.told.fault_count r.world_after.fault_count r.world_after.fault_count (ends-rises r status ends) (omega arith) ends.keeps.count failed

  pub usage-law : status ≡ 2 → r.command ≡ None
  usage-law is = usage_of (until r ends.told) ends.exit ends.causes (code 2 is (λ x. omega (arith, x)))

  pub no_command-law : r.command ≡ None → (status ≡ 2) ⊎ (status ≡ 10)
  no_command-law none = elim ends.reports [
    | inl tells ↦ inl (tells.answers ∙ none_code (until r ends.told) ends.exit ends.causes none)
    | inr fails ↦ inr fails.answers
  ]

  pub unread-law : status ≡ 3 → WorldHasFailed r.world_before r.world_after ⊎ IfSchemaFile r IsTooLong
  unread-law is = elim (unread_of (until r ends.told) ends.exit ends.causes (code 3 is (λ x. omega (arith, x)))) [
    | inl failed ↦ inl (rises-later failed)
    | inr long ↦ inr long
  ]

  pub refused-law : status ≡ 4 → Refuses r
  refused-law is =
      refused_of r ends.told ends.exit ends.causes (code 4 is (λ x. omega (arith, x))) (ends-told r status ends (λ ten. omega (arith, is, ten))).err

  is_checked : IsCheck r.command → status ≡ 0 → ends.exit ≡ Checked
  is_checked is zero = checked_of (until r ends.told) ends.exit ends.causes is (code 0 zero (λ x. omega (arith, x)))

  pub checked-law : IsCheck r.command → status ≡ 0 → IfSchemaFile r IsSchemaFile
  checked-law is zero = (subst (Causes (until r ends.told)) (is_checked is zero) ends.causes).1

  pub ok-law : IsCheck r.command → status ≡ 0
      → (r.world_after.err ≡ r.world_before.err) × Gets (codes "ok\n") r.world_before.out r.world_after.out
  ok-law is zero =
      let told = subst (λ (exit : Exit). Tells (record { command = r.command; exit = exit; status = status }) r.world_before r.world_after) (is_checked is zero)
      (ends-told r status ends (λ ten. omega (arith, zero, ten))) in
      (gets-nothing r.world_before.err r.world_after.err (err_of r.command told.err), told.out)
    where
      err_of : (c : Option Command) → Gets (told_err c Checked) r.world_before.err r.world_after.err → Gets [] r.world_before.err r.world_after.err
      err_of c gets = gets

  is_done : IsServing r.command → status ≡ 0 → ends.exit ≡ Done
  is_done is zero = done_of (until r ends.told) ends.exit ends.causes is (code 0 zero (λ x. omega (arith, x)))

  pub done-law : IsServing r.command → status ≡ 0 → IsServed r end.Done
  done-law is zero = served_after r ends.told end.Done (subst (Causes (until r ends.told)) (is_done is zero) ends.causes)

  pub silent-law : IsServing r.command → status ≡ 0 → (r.world_after.err ≡ r.world_before.err) × (r.world_after.out ≡ r.world_before.out)
  silent-law is zero =
      let told = subst (λ (exit : Exit). Tells (record { command = r.command; exit = exit; status = status }) r.world_before r.world_after) (is_done is zero)
      (ends-told r status ends (λ ten. omega (arith, zero, ten))) in
      (gets-nothing r.world_before.err r.world_after.err told.err, gets-nothing r.world_before.out r.world_after.out told.out)

  pub inside-law : ServingLaws → status ≡ 9 → IsRun r.command × IsServed r end.Inside
  inside-law laws is =
      let served : IsServed r end.Inside =
      served_after r ends.told end.Inside (inside_of (until r ends.told) ends.exit ends.causes (code 9 is (λ x. omega (arith, x)))) in (
        runs_streams r.command served.served.plan served.serves_by (laws.inside (serving_of r served.served) end.Inside served.door refl),
        served,
      )

  pub cut_inside-law : ServingLaws → status ≡ 9 → EndsInside r
  cut_inside-law laws is =
      let served = (inside-law laws is).1 in
      ends-inside r served (laws.inside (serving_of r served.served) end.Inside served.door refl)

  pub attached-law : ServingLaws → IsServing r.command → (status ≡ 0) ⊎ (status ≡ 9) → IsTrue r.door_after.is_attached
  attached-law laws is either =
      attached_of laws (until r ends.told) ends.exit ends.causes is
      (elim either [ inl zero ↦ inl (code 0 zero (λ x. omega (arith, x))) | inr nine ↦ inr (code 9 nine (λ x. omega (arith, x))) ])

  pub door_failed-law : ServingLaws → status ≡ 6 → DoorHasFailed r.door_before r.door_after × IsServed r end.Fault
  door_failed-law laws is =
      let served : IsServed r end.Fault =
      served_after r ends.told end.Fault (failed_of (until r ends.told) ends.exit ends.causes (code 6 is (λ x. omega (arith, x)))) in
      (laws.fault (serving_of r served.served) end.Fault served.door refl, served)

  pub attach_failed-law : status ≡ 6 → ¬ (IsTrue r.door_after.is_attached) → FailedToAttach r
  attach_failed-law is loose =
      failed-to-attach r
      (served_after r ends.told end.Fault (failed_of (until r ends.told) ends.exit ends.causes (code 6 is (λ x. omega (arith, x))))) loose

  pub memory-law : status ≡ 7 → (r.door_after ≡ r.door_before) ⊎ IsServed r end.Memory
  memory-law is = elim (memory_of (until r ends.told) ends.exit ends.causes (code 7 is (λ x. omega (arith, x)))) [
    | inl same ↦ inl same
    | inr served ↦ inr (served_after r ends.told end.Memory served)
  ]

  pub unwritten-law : status ≡ 10 → WorldHasFailed r.world_before r.world_after
  unwritten-law is = elim ends.reports [
    | inl tells ↦ absurd (ten_code ends.exit (sym tells.answers ∙ is))
    | inr fails ↦ rises-late fails.failed
  ]
    where
      ten_code : (exit : Exit) → exit_code exit ≡ 10 → ⊥
      ten_code Done ten = omega (arith, ten)
      ten_code exit ten = omega (arith, ten)

  pub told-law : ¬ (status ≡ 10)
      → (exit : Exit) × Tells (record { command = r.command; exit = exit; status = status }) r.world_before r.world_after
  told-law not = (ends.exit, ends-told r status ends not)

  pub checks-law : Laws → SchemaIsGiven r → ¬ (WorldHasFailed r.world_before r.world_after) → (status ≡ 7) ⊎ (status ≡ 0)
  checks-law laws given world = elim ends.reports [
    | inl tells ↦
        subst (λ n. (n ≡ 7) ⊎ (n ≡ 0)) (sym tells.answers)
        (checks-all laws r ends.told ends.exit ends.causes given (λ failed. world (rises-later failed)))
    | inr fails ↦ absurd (world (rises-late fails.failed))
  ]

  pub complete-law : Laws → (schema : Schema) (requests : List (List Request)) (given : RequestsAreGiven r schema requests)
      → ¬ (WorldHasFailed r.world_before r.world_after) → ¬ (DoorHasFailed r.door_before r.door_after)
      → (status ≡ 7) ⊎ ((status ≡ 0) × AreReplied r schema requests given)
  complete-law laws schema requests given world door = elim ends.reports [
    | inl tells ↦
        subst (λ n. (n ≡ 7) ⊎ ((n ≡ 0) × AreReplied r schema requests given)) (sym tells.answers)
        (completes laws r ends.told ends.exit ends.causes schema requests given (λ failed. world (rises-later failed)) door)
    | inr fails ↦ absurd (world (rises-late fails.failed))
  ]

  pub unfit-law : (file : List ℕ) → NamesFile r file → ¬ (IsTooLong file) → ¬ (IsSchemaFile file)
      → ¬ (WorldHasFailed r.world_before r.world_after) → (status ≡ 7) ⊎ (status ≡ 4)
  unfit-law file names short unfit world = elim ends.reports [
    | inl tells ↦
        subst (λ n. (n ≡ 7) ⊎ (n ≡ 4)) (sym tells.answers)
        (unfit-code (until r ends.told) names.command names.named file names.given ends.exit ends.causes short unfit (λ failed. world (rises-later failed)))
    | inr fails ↦ absurd (world (rises-late fails.failed))
  ]

  pub too_long-law : (file : List ℕ) → NamesFile r file → IsTooLong file → ¬ (WorldHasFailed r.world_before r.world_after) → (status ≡ 7) ⊎ (status ≡ 3)
  too_long-law file names long world = elim ends.reports [
    | inl tells ↦
        subst (λ n. (n ≡ 7) ⊎ (n ≡ 3)) (sym tells.answers)
        (long-code (until r ends.told) names.command names.named file names.given ends.exit ends.causes long)
    | inr fails ↦ absurd (world (rises-late fails.failed))
  ]

  pub absent-law : NamesNoFile r → (status ≡ 7) ⊎ (((status ≡ 3) ⊎ (status ≡ 10)) × WorldHasFailed r.world_before r.world_after)
  absent-law names = elim ends.reports [
    | inl tells ↦
        elim (absent-code (until r ends.told) names.command names.named names.all_files names.told names.absent ends.exit ends.causes) [
          | inl memory ↦ inl (tells.answers ∙ memory)
          | inr unread ↦ inr (inl (tells.answers ∙ unread.0), rises-later unread.1)
        ]
    | inr fails ↦ inr (inr fails.answers, rises-late fails.failed)
  ]

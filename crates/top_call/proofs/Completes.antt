-- A check of a schema, and whole requests on links, come to what they ask for.
use Rattle.std.proofs.Common.{◌≡◌, ℕ, ◌<◌, ◌⊎◌, inl, inr, List, length, Option, Some, None, refl, sym, ◌∙◌, ap, subst, arith}
use Rattle.std.specs.Prelude.{IsSomeAnd}
use Rattle.http_front.specs.Request.{Request}
use Rattle.edge_core.specs.World.{WorldState, WorldHasFailed}
use Rattle.edge_core.specs.Door.{DoorHasFailed}
use Rattle.pointer_core.specs.declared.schema_rule.SchemaRule.{SchemaRule}
use Rattle.snap_json.specs.Loose.{loosely}
use Rattle.expr_core.specs.Schema.{Schema}
use Rattle.schema_read.specs.Schema.{IsSchema, Spells}
use Rattle.schema_read.specs.Laws.{SchemaHasNoFault, AreOne, FileIsOneSchema}
use Rattle.serve_core.specs.Laws.{DoorCompletes, AreAnswered, FaultsAreCounted}
use Rattle.serve_core.specs.Serving.{Serving, ServesDoor}
use Rattle.serve_core.specs.declared.plan.Plan.{Plan}
use Rattle.serve_core.specs.declared.plan.ServeEnd.{ServeEnd}
use Rattle.serve_core.specs.declared.plan.ServeEnd.TheVariants as end
use Rattle.top_call.specs.Answering.{State, start, replies}
use Rattle.top_call.specs.declared.exit.Exit.{Exit}
use Rattle.top_call.specs.declared.exit.Exit.TheVariants.{Done, Checked, Usage, Unread, Syntax, Refused, DoorFailed, Memory, Inside}
use Rattle.top_call.specs.Exit.{exit_code}
use Rattle.top_call.specs.Words.{Command, check, run, serve, name_in, plan_of}
use Rattle.top_call.specs.Run.{Run, Files, IfFile, IfSchemaFile, IsTooLong, IsFileOf, IsNoJson, IsFaulty, Causes, FileIsGiven, SchemaIsGiven, RequestsAreGiven, AreReplied, Served, serving_of, IsServed, ServesBy, IsCheck}
use Rattle.top_call.proofs.Alike.{AreAlike, starts_alike, replies_alike, answered_alike}

-- the laws of the crates below: whole requests are answered, faults are counted; a schema has no fault, and a file is one schema
pub record Laws : Type 0 where
  pub door_completes : DoorCompletes replies
  pub faults_are_counted : FaultsAreCounted replies
  pub schema_has_no_fault : SchemaHasNoFault
  pub file_is_one_schema : FileIsOneSchema

-- a fact of the file that is given
pub of_file : (files : Files) (name file : List ℕ) (P : List ℕ → Type 0) → FileIsGiven files name file → IfFile files name P → P file
of_file files name file P given fact =
    let told : IfFile (Some given.all_files) name P = subst (λ fs. IfFile fs name P) given.told fact in
    let found : IsSomeAnd (Some file) P = subst (λ o. IsSomeAnd o P) given.found told in
    found

-- a schema is JSON
some-reading : (file : List ℕ) (schema : Schema) → Spells file schema → loosely file ≡ None → ⊥
some-reading file schema x e = let none : IsSomeAnd None (λ v. IsSchema v schema) = subst (λ o. IsSomeAnd o (λ v. IsSchema v schema)) e x in none

module _ (files : Files) (name file : List ℕ) (given : FileIsGiven files name file) (schema : Schema) (is : IsFileOf schema file) where
  not-long : IfFile files name IsTooLong → ⊥
  not-long long = let too_long : 262144 < length file = of_file files name file IsTooLong given long in omega (arith, too_long, is.short)

  not-other : IfFile files name IsNoJson → ⊥
  not-other other = some-reading file schema is.spells (of_file files name file IsNoJson given other).unread

  not-faulty : (laws : Laws) (pointer : List ℕ) (rule : SchemaRule) → IfFile files name (IsFaulty pointer rule) → ⊥
  not-faulty laws pointer rule other =
      let faulty = of_file files name file (IsFaulty pointer rule) given other in
      laws.schema_has_no_fault file schema (record { path = faulty.path; rule = rule }) is.spells faulty.first

-- a fact of the file that a command names
pub of_named : (r : Run) (command : Command) (P : List ℕ → Type 0) → r.command ≡ Some command → IfSchemaFile r P
    → IfFile r.world_before.files (name_in command) P
of_named r command P named fact =
    let there : IsSomeAnd (Some command) (λ c. IfFile r.world_before.files (name_in c) P) =
    subst (λ (c : Option Command). IsSomeAnd c (λ c. IfFile r.world_before.files (name_in c) P)) named fact in
    there

-- the exits of a run by a schema file that is given, with no fault of the world's: none of them refuses the file
module _ (r : Run) (command : Command) (named : r.command ≡ Some command) (file : List ℕ) (given : FileIsGiven r.world_before.files (name_in command) file)
    (schema : Schema) (is : IsFileOf schema file) where
  taken : (P : List ℕ → Type 0) → IfSchemaFile r P → IfFile r.world_before.files (name_in command) P
  taken P fact = of_named r command P named fact

  never_none : r.command ≡ None → ⊥
  never_none none = (let e : Some command ≡ None = sym named ∙ none in cc)

  never_long : IfSchemaFile r IsTooLong → ⊥
  never_long long = not-long r.world_before.files (name_in command) file given schema is (taken IsTooLong long)

  never_other : IfSchemaFile r IsNoJson → ⊥
  never_other other = not-other r.world_before.files (name_in command) file given schema is (taken IsNoJson other)

  never_faulty : (laws : Laws) (pointer : List ℕ) (rule : SchemaRule) → IfSchemaFile r (IsFaulty pointer rule) → ⊥
  never_faulty laws pointer rule faulty = not-faulty r.world_before.files (name_in command) file given schema is laws pointer rule (taken (IsFaulty pointer rule) faulty)

-- a check serves nothing
serves_not : (name : List ℕ) (plan : Plan) → ServesBy (Some (check name)) plan → ⊥
serves_not name plan by = (let e : None ≡ Some plan = by in cc)

checks_not : (command : Command) (plan : Plan) → plan_of command ≡ Some plan → IsCheck (Some command) → ⊥
checks_not (check name) plan by is = serves_not name plan by
checks_not (run name) plan by is = is
checks_not (serve name port links) plan by is = is

check_completes : (laws : Laws) (r : Run) (exit : Exit) → Causes r exit → SchemaIsGiven r → ¬ (WorldHasFailed r.world_before r.world_after)
    → (exit_code exit ≡ 7) ⊎ (exit_code exit ≡ 0)
check_completes laws r Memory cause given world = inl refl
check_completes laws r Checked cause given world = inr refl
check_completes laws r Usage cause given world = absurd (never_none r (check given.name) given.named given.file given.given given.schema.0 given.schema.1 cause)
check_completes laws r Unread cause given world = elim cause.1 [
  | inl failed ↦ absurd (world failed)
  | inr long ↦ absurd (never_long r (check given.name) given.named given.file given.given given.schema.0 given.schema.1 long)
]
check_completes laws r Syntax cause given world = absurd (never_other r (check given.name) given.named given.file given.given given.schema.0 given.schema.1 cause)
check_completes laws r (Refused pointer rule) cause given world =
    absurd (never_faulty r (check given.name) given.named given.file given.given given.schema.0 given.schema.1 laws pointer rule cause)
check_completes laws r Done cause given world = absurd (serves_not given.name cause.served.plan (subst (λ c. ServesBy c cause.served.plan) given.named cause.serves_by))
check_completes laws r Inside cause given world = absurd (serves_not given.name cause.served.plan (subst (λ c. ServesBy c cause.served.plan) given.named cause.serves_by))
check_completes laws r DoorFailed cause given world = absurd (serves_not given.name cause.served.plan (subst (λ c. ServesBy c cause.served.plan) given.named cause.serves_by))

-- what was served is what is given, as far as it is shown
module _ (laws : Laws) (r : Run) (schema : Schema) (requests : List (List Request)) (given : RequestsAreGiven r schema requests) (outcome : ServeEnd) (x : IsServed r outcome) where
  same_plan : x.served.plan ≡ given.plan
  same_plan =
      let by : plan_of given.command ≡ Some x.served.plan = subst (λ (c : Option Command). ServesBy c x.served.plan) given.named x.serves_by in
      let e : Some x.served.plan ≡ Some given.plan = sym by ∙ given.serves_by in
      cc

  same_schema : AreOne x.served.schema schema
  same_schema =
      let ours : IsFileOf x.served.schema given.file =
      of_file r.world_before.files (name_in given.command) given.file (IsFileOf x.served.schema) given.given
      (of_named r given.command (IsFileOf x.served.schema) given.named x.file) in
      laws.file_is_one_schema given.file x.served.schema schema ours.spells given.is_schema.spells

  -- by the plan that is given, for a schema, to a last state
  abbrev served_as : Schema → State → Served
  served_as served last = record { plan = given.plan; schema = served; last = last }

  same_serving : serving_of r x.served ≡ serving_of r (served_as x.served.schema x.served.last)
  same_serving = ap (λ (plan : Plan). serving_of r (record x.served { plan = plan })) same_plan

  -- what answers for the schema that was served answers like what answers for the one that is given
  same_replies : AreAnswered replies (serving_of r (served_as x.served.schema x.served.last)) given.links requests → AreReplied r schema requests given
  same_replies answered =
      answered_alike replies AreAlike replies_alike (serving_of r (served_as x.served.schema x.served.last)) given.links requests (start schema)
      (starts_alike x.served.schema schema same_schema) answered

  pub served_completes : ¬ (DoorHasFailed r.door_before r.door_after) → (outcome ≡ end.Memory) ⊎ ((outcome ≡ end.Done) × AreReplied r schema requests given)
  served_completes door =
      elim (laws.door_completes (serving_of r (served_as x.served.schema x.served.last)) outcome given.links requests
      (subst (λ (serving : Serving State). ServesDoor replies serving outcome) same_serving x.door)
      (record { told = given.told; inputs = given.inputs }) door) [
        | inl memory ↦ inl memory
        | inr done ↦ inr (done.0, same_replies done.1)
      ]

-- the exits of a command that serves, by a schema file that is given, with no fault of the world's
serve_completes : (laws : Laws) (r : Run) (exit : Exit) → Causes r exit → (schema : Schema) (requests : List (List Request)) (given : RequestsAreGiven r schema requests)
    → ¬ (WorldHasFailed r.world_before r.world_after) → ¬ (DoorHasFailed r.door_before r.door_after)
    → (exit_code exit ≡ 7) ⊎ ((exit_code exit ≡ 0) × AreReplied r schema requests given)
serve_completes laws r Memory cause schema requests given world door = inl refl
serve_completes laws r Checked cause schema requests given world door =
    absurd (checks_not given.command given.plan given.serves_by (subst IsCheck given.named cause.0))
serve_completes laws r Usage cause schema requests given world door =
    absurd (never_none r given.command given.named given.file given.given schema given.is_schema cause)
serve_completes laws r Unread cause schema requests given world door = elim cause.1 [
  | inl failed ↦ absurd (world failed)
  | inr long ↦ absurd (never_long r given.command given.named given.file given.given schema given.is_schema long)
]
serve_completes laws r Syntax cause schema requests given world door =
    absurd (never_other r given.command given.named given.file given.given schema given.is_schema cause)
serve_completes laws r (Refused pointer rule) cause schema requests given world door =
    absurd (never_faulty r given.command given.named given.file given.given schema given.is_schema laws pointer rule cause)
serve_completes laws r Done cause schema requests given world door = elim (served_completes laws r schema requests given end.Done cause door) [
  | inl memory ↦ absurd (let e : end.Done ≡ end.Memory = memory in cc)
  | inr done ↦ inr (refl, done.1)
]
serve_completes laws r Inside cause schema requests given world door = elim (served_completes laws r schema requests given end.Inside cause door) [
  | inl memory ↦ absurd (let e : end.Inside ≡ end.Memory = memory in cc)
  | inr done ↦ absurd (let e : end.Inside ≡ end.Done = done.0 in cc)
]
serve_completes laws r DoorFailed cause schema requests given world door =
    absurd (door (laws.faults_are_counted (serving_of r cause.served) end.Fault cause.door refl))

-- the same of what a run was given, whatever the world told after it
given_schema : (r : Run) (told : WorldState) → SchemaIsGiven r → SchemaIsGiven (record r { world_after = told })
given_schema r told x = record { name = x.name; file = x.file; named = x.named; given = x.given; schema = x.schema }

given_requests : (r : Run) (told : WorldState) (schema : Schema) (requests : List (List Request)) → RequestsAreGiven r schema requests
    → RequestsAreGiven (record r { world_after = told }) schema requests
given_requests r told schema requests x = record {
  command = x.command;
  named = x.named;
  plan = x.plan;
  serves_by = x.serves_by;
  file = x.file;
  given = x.given;
  is_schema = x.is_schema;
  links = x.links;
  told = x.told;
  inputs = x.inputs;
}

pub checks-all : (laws : Laws) (r : Run) (told : WorldState) (exit : Exit) → Causes (record r { world_after = told }) exit → SchemaIsGiven r
    → ¬ (WorldHasFailed r.world_before told) → (exit_code exit ≡ 7) ⊎ (exit_code exit ≡ 0)
checks-all laws r told exit cause given world = check_completes laws (record r { world_after = told }) exit cause (given_schema r told given) world

pub completes : (laws : Laws) (r : Run) (told : WorldState) (exit : Exit) → Causes (record r { world_after = told }) exit
    → (schema : Schema) (requests : List (List Request)) (given : RequestsAreGiven r schema requests)
    → ¬ (WorldHasFailed r.world_before told) → ¬ (DoorHasFailed r.door_before r.door_after)
    → (exit_code exit ≡ 7) ⊎ ((exit_code exit ≡ 0) × AreReplied r schema requests given)
unfolding given_requests
completes laws r told exit cause schema requests given world door =
    serve_completes laws (record r { world_after = told }) exit cause schema requests (given_requests r told schema requests given) world door

-- Which codes a run comes to whose file is no schema, is too long, or isn't there.
use Rattle.std.proofs.Common.{◌≡◌, ℕ, ◌⊎◌, inl, inr, List, Some, None, refl, sym, ◌∙◌, subst, arith}
use Rattle.std.specs.Prelude.{IsSomeAnd}
use Rattle.edge_core.specs.World.{WorldHasFailed, file_of}
use Rattle.top_call.specs.declared.exit.Exit.{Exit}
use Rattle.top_call.specs.declared.exit.Exit.TheVariants.{Done, Checked, Usage, Unread, Syntax, Refused, DoorFailed, Memory, Inside}
use Rattle.top_call.specs.Exit.{exit_code}
use Rattle.top_call.specs.Words.{Command, name_in}
use Rattle.top_call.specs.Run.{Run, Files, IfFile, IfSchemaFile, IsTooLong, IsFileOf, IsSchemaFile, IsNoJson, IsFaulty, Causes, FileIsGiven}
use Rattle.top_call.proofs.Completes.{of_file, of_named}

-- where a command is named, the words are one
no-usage : (r : Run) (command : Command) → r.command ≡ Some command → r.command ≡ None → ⊥
no-usage r command named none = (let e : Some command ≡ None = sym named ∙ none in cc)

module _ (r : Run) (command : Command) (named : r.command ≡ Some command) (file : List ℕ) (given : FileIsGiven r.world_before.files (name_in command) file) where
  fact : (P : List ℕ → Type 0) → IfSchemaFile r P → P file
  fact P holds = of_file r.world_before.files (name_in command) file P given (of_named r command P named holds)

  pub unfit-code : (exit : Exit) → Causes r exit → ¬ (IsTooLong file) → ¬ (IsSchemaFile file) → ¬ (WorldHasFailed r.world_before r.world_after)
      → (exit_code exit ≡ 7) ⊎ (exit_code exit ≡ 4)
  unfit-code Memory cause short unfit world = inl refl
  unfit-code Syntax cause short unfit world = inr refl
  unfit-code (Refused pointer rule) cause short unfit world = inr refl
  unfit-code Usage cause short unfit world = absurd (no-usage r command named cause)
  unfit-code Unread cause short unfit world = elim cause.1 [ inl failed ↦ absurd (world failed) | inr long ↦ absurd (short (fact IsTooLong long)) ]
  unfit-code Checked cause short unfit world = absurd (unfit (fact IsSchemaFile cause.1))
  unfit-code Done cause short unfit world = absurd (unfit (cause.served.schema, fact (IsFileOf cause.served.schema) cause.file))
  unfit-code Inside cause short unfit world = absurd (unfit (cause.served.schema, fact (IsFileOf cause.served.schema) cause.file))
  unfit-code DoorFailed cause short unfit world = absurd (unfit (cause.served.schema, fact (IsFileOf cause.served.schema) cause.file))

  pub long-code : (exit : Exit) → Causes r exit → IsTooLong file → (exit_code exit ≡ 7) ⊎ (exit_code exit ≡ 3)
  long-code Memory cause long = inl refl
  long-code Unread cause long = inr refl
  long-code Usage cause long = absurd (no-usage r command named cause)
  long-code Syntax cause long = absurd (let is = (fact IsNoJson cause).short in omega (arith, long, is))
  long-code (Refused pointer rule) cause long = absurd (let is = (fact (IsFaulty pointer rule) cause).short in omega (arith, long, is))
  long-code Checked cause long = absurd (let is = (fact IsSchemaFile cause.1).1.short in omega (arith, long, is))
  long-code Done cause long = absurd (let is = (fact (IsFileOf cause.served.schema) cause.file).short in omega (arith, long, is))
  long-code Inside cause long = absurd (let is = (fact (IsFileOf cause.served.schema) cause.file).short in omega (arith, long, is))
  long-code DoorFailed cause long = absurd (let is = (fact (IsFileOf cause.served.schema) cause.file).short in omega (arith, long, is))

-- nothing holds of a file that isn't there
absent-file : (files : Files) (all_files : List (List ℕ × List ℕ)) (name : List ℕ) (P : List ℕ → Type 0) → files ≡ Some all_files → file_of all_files name ≡ None
    → IfFile files name P → ⊥
absent-file files all_files name P told absent fact =
    let among : IfFile (Some all_files) name P = subst (λ fs. IfFile fs name P) told fact in
    let none : IsSomeAnd None P = subst (λ o. IsSomeAnd o P) absent among in
    none

module _ (r : Run) (command : Command) (named : r.command ≡ Some command) (all_files : List (List ℕ × List ℕ)) (told : r.world_before.files ≡ Some all_files)
    (absent : file_of all_files (name_in command) ≡ None) where
  no-fact : (P : List ℕ → Type 0) → IfSchemaFile r P → ⊥
  no-fact P holds = absent-file r.world_before.files all_files (name_in command) P told absent (of_named r command P named holds)

  pub absent-code : (exit : Exit) → Causes r exit → (exit_code exit ≡ 7) ⊎ ((exit_code exit ≡ 3) × WorldHasFailed r.world_before r.world_after)
  absent-code Memory cause = inl refl
  absent-code Unread cause = elim cause.1 [ inl failed ↦ inr (refl, failed) | inr long ↦ absurd (no-fact IsTooLong long) ]
  absent-code Usage cause = absurd (no-usage r command named cause)
  absent-code Syntax cause = absurd (no-fact IsNoJson cause)
  absent-code (Refused pointer rule) cause = absurd (no-fact (IsFaulty pointer rule) cause)
  absent-code Checked cause = absurd (no-fact IsSchemaFile cause.1)
  absent-code Done cause = absurd (no-fact (IsFileOf cause.served.schema) cause.file)
  absent-code Inside cause = absurd (no-fact (IsFileOf cause.served.schema) cause.file)
  absent-code DoorFailed cause = absurd (no-fact (IsFileOf cause.served.schema) cause.file)

-- Files, standard output and standard error.
use Rattle.std.specs.Prelude.{ℕ, ◌≡◌, ◌≤◌, ◌++◌, ◌||◌, Bool, List, [], ◌∷◌, Option, Some, None, is_none, option_map, not, if◌then◌else◌}
use Rattle.std.specs.Str.{bytes_eq}
use Rattle.edge_core.specs.Faults.{PlannedFaults, HasRisen, is_next_failing, after_call}
use Rattle.edge_core.specs.Room.{has_place}

-- What a world tells. What its files hold and what was written to its streams may be told or not: `None` claims nothing. The
-- names of the files that were asked for, in order, and how many calls failed are told always.
pub record WorldState : Type 0 where
  pub files : Option (List (List ℕ × List ℕ))
  pub out : Option (List ℕ)
  pub err : Option (List ℕ)
  pub asked : List (List ℕ)
  pub fault_count : ℕ

-- some call of the world failed and was counted
abbrev pub WorldHasFailed : WorldState → WorldState → Type 0
WorldHasFailed old new = HasRisen old.fault_count new.fault_count

-- a file was asked for, and nothing else is other than it was but the count of faults, which never falls
pub record AsksFor (name : List ℕ) (old new : WorldState) : Type 0 where
  pub asked : new.asked ≡ old.asked ++ name ∷ []
  pub files : new.files ≡ old.files
  pub out : new.out ≡ old.out
  pub err : new.err ≡ old.err
  pub count : old.fault_count ≤ new.fault_count

-- the files, and which of them were asked for, are as they were, and the count of faults never falls
pub record KeepsFiles (old new : WorldState) : Type 0 where
  pub files : new.files ≡ old.files
  pub asked : new.asked ≡ old.asked
  pub count : old.fault_count ≤ new.fault_count

-- a stream got this piece behind what it had
abbrev pub Gets : List ℕ → Option (List ℕ) → Option (List ℕ) → Type 0
Gets piece old new = new ≡ option_map (λ bytes. bytes ++ piece) old

-- a stream got a beginning of this piece
pub record GetsPart (piece : List ℕ) (old new : Option (List ℕ)) : Type 0 where
  pub part : List ℕ
  pub rest : List ℕ
  pub whole : piece ≡ part ++ rest
  pub gets : Gets part old new

-- the contents of the first file of that name
abbrev pub file_of : List (List ℕ × List ℕ) → List ℕ → Option (List ℕ)
file_of [] name = None
file_of (file ∷ files) name = if bytes_eq file.0 name then Some file.1 else file_of files name

-- a world in memory; `space` is the room for all of output, and as much for all of the errors
pub record MemoryWorldState : Type 0 where
  pub files : List (List ℕ × List ℕ)
  pub out : List ℕ
  pub err : List ℕ
  pub asked : List (List ℕ)
  pub space : ℕ
  pub faults : PlannedFaults

-- what a world in memory tells: all that it holds
abbrev pub told_by : MemoryWorldState → WorldState
told_by world =
    record { files = Some world.files; out = Some world.out; err = Some world.err; asked = world.asked; fault_count = world.faults.count }

-- the next reading of a file fails: it is to fail, or there is no such file
abbrev pub read_fails : MemoryWorldState → List ℕ → Bool
read_fails world name = is_next_failing world.faults || is_none (file_of world.files name)

-- the next writing fails: it is to fail, or there is no room left behind these bytes
abbrev pub write_fails : MemoryWorldState → List ℕ → List ℕ → Bool
write_fails world bytes piece = is_next_failing world.faults || not (has_place bytes world.space piece)

-- the bytes with the piece behind them, unless writing it failed
abbrev pub with_piece : Bool → List ℕ → List ℕ → List ℕ
with_piece failed bytes piece = if failed then bytes else bytes ++ piece

abbrev pub after_read : MemoryWorldState → List ℕ → MemoryWorldState
after_read world name =
    record world { asked = world.asked ++ name ∷ []; faults = after_call world.faults (read_fails world name) }

abbrev pub after_out : MemoryWorldState → List ℕ → MemoryWorldState
after_out world piece =
    let failed = write_fails world world.out piece in
    record world { out = with_piece failed world.out piece; faults = after_call world.faults failed }

abbrev pub after_err : MemoryWorldState → List ℕ → MemoryWorldState
after_err world piece =
    let failed = write_fails world world.err piece in
    record world { err = with_piece failed world.err piece; faults = after_call world.faults failed }

-- what is known of a world of the system
pub record RealWorldState : Type 0 where
  pub asked : List (List ℕ)
  pub fault_count : ℕ

-- what a world of the system tells: not what its files hold, and not what was written
abbrev pub told_of_system : RealWorldState → WorldState
told_of_system world = record { files = None; out = None; err = None; asked = world.asked; fault_count = world.fault_count }

-- Links in memory, each with its room.
use Rattle.std.specs.Prelude.{ℕ, ◌≡◌, List, [], map}
use Rattle.edge_core.specs.Door.{Link, after_bytes, with_written}

-- a link in memory, and the room in bytes for all that is written to it
pub record BoundedLink : Type 0 where
  pub link : Link
  pub space : ℕ

-- nothing is written to the link yet, and it has that room
pub record IsFresh (space : ℕ) (bounded : BoundedLink) : Type 0 where
  pub unwritten : bounded.link.written ≡ []
  pub roomy : bounded.space ≡ space

abbrev pub after_reading : ℕ → BoundedLink → BoundedLink
after_reading n bounded = record bounded { link = after_bytes n bounded.link }

abbrev pub after_writing : List ℕ → BoundedLink → BoundedLink
after_writing piece bounded = record bounded { link = with_written piece bounded.link }

-- what each of the links brings
abbrev pub inputs_of : List BoundedLink → List (List ℕ)
inputs_of links = map (λ bounded. bounded.link.left) links

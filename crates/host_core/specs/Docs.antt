-- The documents of a host: their names, ascending, and what they show.
use Rattle.std.specs.Prelude.{ℕ, List, [], ◌∷◌, length, map, Bool, nat_le, Option, Some, None, if◌then◌else◌}
use Rattle.std.specs.Ordering.{nat_cmp, is_lt}
use Rattle.std.specs.Cmp.Lexicographic.{slice_cmp}
use Rattle.std.specs.Str.{bytes_eq}
use Rattle.snap_core.specs.Value.{Value, AreAscending}

-- a document's name, and its snapshot
pub record Doc : Type 0 where
  pub name : List ℕ
  pub snapshot : Value

abbrev pub Docs : Type 0
Docs = List Doc

-- the names of documents
abbrev pub names_of : Docs → List (List ℕ)
names_of docs = map (λ (d : Doc). d.name) docs

-- names ascend, so that each stands once
abbrev pub AreNamed : Docs → Type 0
AreNamed docs = AreAscending (names_of docs)

-- the snapshot of the document of a name, if there is one
abbrev pub find : List ℕ → Docs → Option Value
find name [] = None
find name (d ∷ docs) = if bytes_eq name d.name then Some d.snapshot else find name docs

-- with another snapshot in the document of a name
abbrev pub with_snapshot : List ℕ → Value → Docs → Docs
with_snapshot name v [] = []
with_snapshot name v (d ∷ docs) = if bytes_eq name d.name then record d { snapshot = v } ∷ docs else d ∷ with_snapshot name v docs

-- with one document more, before the first whose name comes after its own
abbrev pub with_doc : Doc → Docs → Docs
with_doc new [] = new ∷ []
with_doc new (d ∷ docs) = if is_lt (slice_cmp nat_cmp new.name d.name) then new ∷ d ∷ docs else d ∷ with_doc new docs

-- without the document of a name
abbrev pub without : List ℕ → Docs → Docs
without name [] = []
without name (d ∷ docs) = if bytes_eq name d.name then docs else d ∷ without name docs

-- no further document is taken where there are 32
abbrev pub are_full : Docs → Bool
are_full docs = nat_le 32 (length docs)

-- What came over the open link and what was written to it, from one moment to another.
use Rattle.std.specs.Prelude.{◌≡◌, ℕ, ◌<◌, List, [], ◌++◌, length, Bool, true, false, Option, Some}
use Rattle.edge_core.specs.Door.{Links, BothTold, Reads, Writes}

-- the links before and after, where they are told
pub record Told : Type 0 where
  pub before : Option Links
  pub after : Option Links

-- the open link brought these bytes, and took those
pub record Exchanges (came written : List ℕ) (old new : Links) : Type 0 where
  pub left : List ℕ
  pub earlier : List ℕ
  pub before : old.current ≡ Some (record { left = came ++ left; written = earlier })
  pub after : new ≡ record old { current = Some (record { left = left; written = earlier ++ written }) }

-- and brought all that it had
pub record ExchangesAll (came written : List ℕ) (old new : Links) : Type 0 where
  pub exchanges : Exchanges came written old new
  pub all : exchanges.left ≡ []

-- the open link took the beginning of these bytes, and not all of them
pub record TakesPart (bytes : List ℕ) (told : Told) : Type 0 where
  pub part : List ℕ
  pub rest : List ℕ
  pub whole : bytes ≡ part ++ rest
  pub lacks : 0 < length rest
  pub takes : BothTold (Writes part) told.before told.after

-- a read brought a piece behind the bytes that were held, which is empty only at the link's end
pub record BringsPiece (held more : List ℕ) (told : Told) : Type 0 where
  pub piece : List ℕ
  pub joined : more ≡ held ++ piece
  pub some : 0 < length piece
  pub reads : BothTold (Reads piece) told.before told.after

pub record BringsNothing (held more : List ℕ) (told : Told) : Type 0 where
  pub same : more ≡ held
  pub reads : BothTold (Reads []) told.before told.after

-- what a read says that it did
abbrev pub ReadsMore : Bool → List ℕ → List ℕ → Told → Type 0
ReadsMore true held more told = BringsPiece held more told
ReadsMore false held more told = BringsNothing held more told

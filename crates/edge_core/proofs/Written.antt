-- What was written to each of the links that ended, the open one, and those to come.
use Rattle.std.proofs.Common.{ℕ, ◌≡◌, ◌<◌, ◌≤◌, ◌+◌, List, [], ◌∷◌, ◌++◌, Some, None, option_map, option_to_list, map, slice_get, get_or, length, zero, suc, refl, ap, ◌∙◌, arith}
use Rattle.edge_core.specs.Door.{Link, all_written}
use Rattle.edge_core.specs.LinkInside.{BoundedLink, inputs_of}
use Rattle.edge_core.specs.DoorInside.{state_of}
use Rattle.edge_core.specs.declared.memory_door.MemoryDoor.TheInside.{Inside}

-- nothing is written to those to come
pub nothing_written : (coming : List BoundedLink) (at : ℕ) → at < length coming → slice_get {X = List ℕ} (map (λ (input : List ℕ). []) (inputs_of coming)) at ≡ Some []
nothing_written [] at within = absurd (omega arith)
nothing_written (bounded ∷ coming) zero within = refl
nothing_written (bounded ∷ coming) (suc at) within = nothing_written coming at (omega arith)

pub none_written : (coming : List BoundedLink) (at : ℕ) → length coming ≤ at → slice_get {X = List ℕ} (map (λ (input : List ℕ). []) (inputs_of coming)) at ≡ None
none_written [] at past = refl
none_written (bounded ∷ coming) zero past = absurd (omega arith)
none_written (bounded ∷ coming) (suc at) past = none_written coming at (omega arith)

-- what was written to links that ended, and then this
abbrev written_then : List BoundedLink → List Link → List (List ℕ) → List (List ℕ)
written_then shut current rest = map (λ (link : Link). link.written) (map (λ (b : BoundedLink). b.link) shut ++ current) ++ rest

ended : (shut : List BoundedLink) (current : List Link) (rest : List (List ℕ)) (at : ℕ) (d : BoundedLink) → at < length shut
    → slice_get (written_then shut current rest) at ≡ Some (get_or shut at d).link.written
ended [] current rest at d within = absurd (omega arith)
ended (first ∷ shut) current rest zero d within = refl
ended (first ∷ shut) current rest (suc at) d within = ended shut current rest at d (omega arith)

later : (shut : List BoundedLink) (current : List Link) (rest : List (List ℕ)) (at beyond : ℕ) → at ≡ length shut + beyond
    → slice_get (written_then shut current rest) at ≡ slice_get (written_then [] current rest) beyond
later [] current rest at beyond is = let same : at ≡ beyond = omega arith in ap (slice_get (written_then [] current rest)) same
later (first ∷ shut) current rest zero beyond is = absurd (omega arith)
later (first ∷ shut) current rest (suc at) beyond is = later shut current rest at beyond (omega arith)

module _ (door : Inside) where
  abbrev pub written : List (List ℕ)
  written = all_written (state_of door).links

  -- the links that ended come first
  pub written-ended : (at : ℕ) (d : BoundedLink) → at < length door.shut.items → slice_get written at ≡ Some (get_or door.shut.items at d).link.written
  written-ended at d within = ended door.shut.items _ _ at d within

  -- then the open one, if there is one
  pub written-open : (at : ℕ) (open_link : BoundedLink) → at ≡ length door.shut.items → door.current ≡ Some open_link → slice_get written at ≡ Some open_link.link.written
  written-open at open_link here is =
      later door.shut.items (option_to_list (option_map (λ (b : BoundedLink). b.link) door.current)) (map (λ (input : List ℕ). []) (inputs_of door.coming.items)) at 0 (omega arith) ∙ rw is refl

  -- and then those to come
  pub written-after_open : (at beyond : ℕ) (open_link : BoundedLink) → at ≡ length door.shut.items + suc beyond → door.current ≡ Some open_link
      → slice_get written at ≡ slice_get {X = List ℕ} (map (λ (input : List ℕ). []) (inputs_of door.coming.items)) beyond
  written-after_open at beyond open_link here is =
      later door.shut.items (option_to_list (option_map (λ (b : BoundedLink). b.link) door.current)) (map (λ (input : List ℕ). []) (inputs_of door.coming.items)) at (suc beyond) here ∙ rw is refl

  pub written-after_ended : (at beyond : ℕ) → at ≡ length door.shut.items + beyond → door.current ≡ None
      → slice_get written at ≡ slice_get {X = List ℕ} (map (λ (input : List ℕ). []) (inputs_of door.coming.items)) beyond
  written-after_ended at beyond here is =
      later door.shut.items (option_to_list (option_map (λ (b : BoundedLink). b.link) door.current)) (map (λ (input : List ℕ). []) (inputs_of door.coming.items)) at beyond here ∙ rw is refl

-- The exact steps of a world in memory are steps of a world.
use Rattle.std.proofs.Common.{ℕ, ◌≡◌, ◌≤◌, ◌⊎◌, inl, inr, List, ap}
use Rattle.std.specs.Prelude.{Result, IsErrOf}
use Rattle.edge_core.specs.declared.world.EdgeError.{EdgeError}
use Rattle.edge_core.specs.declared.world.EdgeError.TheVariants.{Memory}
use Rattle.edge_core.specs.World.{MemoryWorldState, AsksFor, told_by, after_read}

pub asks_after : (name : List ℕ) (old new : MemoryWorldState) (r : Result (List ℕ) EdgeError) → old.faults.count ≤ new.faults.count
    → (new ≡ after_read old name) ⊎ (IsErrOf r Memory × (new ≡ old))
    → AsksFor name (told_by old) (told_by new) ⊎ (IsErrOf r Memory × (told_by new ≡ told_by old))
asks_after name old new r count (inl after) =
    inl (record {
      asked = ap (λ (w : MemoryWorldState). w.asked) after;
      files = ap (λ (w : MemoryWorldState). (told_by w).files) after;
      out = ap (λ (w : MemoryWorldState). (told_by w).out) after;
      err = ap (λ (w : MemoryWorldState). (told_by w).err) after;
      count = count;
    })
asks_after name old new r count (inr same) = inr (same.0, ap told_by same.1)

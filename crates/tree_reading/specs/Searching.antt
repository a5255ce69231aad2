-- Looking for a node by its number, part by part in document order.
use Rattle.std.specs.Prelude.{ℕ, suc, ◌==◌, min, Option, Some, None, if◌then◌else◌}
use Rattle.std.specs.Option.{option_map}
use Rattle.edit_core.specs.Labelled.{Label, Labelled, Branches, Entries, leaf, many, keyed, no_branches, branch, no_entries, entry}

-- what was found, and otherwise what is found further on
abbrev pub found_or : {A : Type 0} → Option A → Option A → Option A
found_or (Some x) other = Some x
found_or None other = other

abbrev mutual
  -- the first node with a number
  pub node_in : ℕ → Labelled → Option Labelled
  node_in n (leaf v) = None
  node_in n (many l bs) = if l.number == n then Some (many l bs) else node_in_items n bs
  node_in n (keyed l es) = if l.number == n then Some (keyed l es) else node_in_entries n es

  pub node_in_items : ℕ → Branches Label → Option Labelled
  node_in_items n no_branches = None
  node_in_items n (branch x bs) = found_or (node_in n x) (node_in_items n bs)

  pub node_in_entries : ℕ → Entries Label → Option Labelled
  node_in_entries n no_entries = None
  node_in_entries n (entry k x es) = found_or (node_in n x) (node_in_entries n es)

-- one step further down, within a bound
abbrev pub lower : ℕ → Option ℕ → Option ℕ
lower most depth = option_map (λ d. min (suc d) most) depth

abbrev mutual
  -- how deep it stands, within a bound
  pub depth_in : ℕ → ℕ → Labelled → Option ℕ
  depth_in most n (leaf v) = None
  depth_in most n (many l bs) = if l.number == n then Some 0 else depth_in_items most n bs
  depth_in most n (keyed l es) = if l.number == n then Some 0 else depth_in_entries most n es

  pub depth_in_items : ℕ → ℕ → Branches Label → Option ℕ
  depth_in_items most n no_branches = None
  depth_in_items most n (branch x bs) = found_or (lower most (depth_in most n x)) (depth_in_items most n bs)

  pub depth_in_entries : ℕ → ℕ → Entries Label → Option ℕ
  depth_in_entries most n no_entries = None
  depth_in_entries most n (entry k x es) = found_or (lower most (depth_in most n x)) (depth_in_entries most n es)

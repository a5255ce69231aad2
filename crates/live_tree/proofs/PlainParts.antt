-- What is shown of a plain tree is plain.
use Rattle.std.proofs.Common.{◌≡◌, List, [], ◌∷◌, Option, Some, None, Result, Ok, Err, IfOk, refl, subst}
use Rattle.std.specs.Prelude.{ℕ, zero, suc, slice_get}
use Rattle.std.specs.Option.{option_map, option_and_then}
use Rattle.snap_core.specs.Value.{Value, IsPlain, ArePlain, ArePlainMembers}
use Rattle.snap_core.specs.View.{view}
use Rattle.snap_core.specs.declared.snap.Snap.{Snap}
use Rattle.pointer_core.specs.Path.{Path}
use Rattle.pointer_core.specs.declared.refusal.Rule.TheVariants as rule
use Rattle.type_core.specs.Making.{Outcome}
use Rattle.edit_core.specs.Labelled.{Label, Labelled, Branches, Entries, leaf, many, keyed, no_branches, branch, no_entries, entry, items_in, entries_in, bare, bare_items, bare_fields}
use Rattle.edit_core.specs.Edit.{Turn, to_item, to_entry}
use Rattle.edit_core.specs.Ways.{part_at, part_at_turn}
use Rattle.tree_core.specs.declared.error.TreeError.{TreeError}
use Rattle.tree_core.specs.Answers.{Answers}
use Rattle.tree_core.specs.Asking.{shown}
use Rattle.tree_core.specs.Reading.{way_along}
use Rattle.tree_core.specs.Outcome.{◌>>=◌, or_refuse}

item-inner : (i : ℕ) (bs : Branches Label) (p : Labelled) → slice_get (items_in bs) i ≡ Some p → ArePlain (bare_items bs) → IsPlain (bare p)
item-inner i no_branches p h plain = absurd (cc)
item-inner zero (branch x bs) p h plain = let same : x ≡ p = cc in let P : Labelled → Type 0 = λ y. IsPlain (bare y) in subst P same plain.0
item-inner (suc i) (branch x bs) p h plain = item-inner i bs p h plain.1

entry-inner : (i : ℕ) (es : Entries Label) (p : Labelled) → option_map (λ e. e.1) (slice_get (entries_in es) i) ≡ Some p → ArePlainMembers (bare_fields es) → IsPlain (bare p)
entry-inner i no_entries p h plain = absurd (cc)
entry-inner zero (entry k x es) p h plain = let same : x ≡ p = cc in let P : Labelled → Type 0 = λ y. IsPlain (bare y) in subst P same plain.0
entry-inner (suc i) (entry k x es) p h plain = entry-inner i es p h plain.2

turn-plain : (turn : Turn) (x p : Labelled) → part_at_turn turn x ≡ Some p → IsPlain (bare x) → IsPlain (bare p)
turn-plain (to_item i) (many l bs) p h plain = item-inner i bs p h plain
turn-plain (to_entry i key) (keyed l es) p h plain = entry-inner i es p h plain
turn-plain (to_item i) (leaf v) p h plain = absurd (cc)
turn-plain (to_item i) (keyed l es) p h plain = absurd (cc)
turn-plain (to_entry i key) (leaf v) p h plain = absurd (cc)
turn-plain (to_entry i key) (many l bs) p h plain = absurd (cc)

inner-plain : (way : List Turn) (o : Option Labelled) (part : Labelled) → ((p : Labelled) → part_at way p ≡ Some part → IsPlain (bare p) → IsPlain (bare part))
    → ((p : Labelled) → o ≡ Some p → IsPlain (bare p)) → option_and_then (part_at way) o ≡ Some part → IsPlain (bare part)
inner-plain way None part further plain h = absurd (cc)
inner-plain way (Some p) part further plain h = further p h (plain p refl)

part-plain : (way : List Turn) (x part : Labelled) → part_at way x ≡ Some part → IsPlain (bare x) → IsPlain (bare part)
part-plain [] x part h plain = let same : x ≡ part = cc in let P : Labelled → Type 0 = λ y. IsPlain (bare y) in subst P same plain
part-plain (turn ∷ way) x part h plain =
    inner-plain way (part_at_turn turn x) part (λ p. part-plain way p part) (λ p found. turn-plain turn x p found plain) h

abbrev shown-by : Path → Option (List Turn) → Labelled → Outcome Value
shown-by path o x = do
  way ← or_refuse o path rule.Path
  part ← or_refuse (part_at way x) path rule.Path
  Ok (bare part)

abbrev part-by : Path → Option Labelled → Outcome Value
part-by path o = do
  part ← or_refuse o path rule.Path
  Ok (bare part)

pub shown-plain : (path : Path) (x : Labelled) (v : Value) → shown path x ≡ Ok v → IsPlain (bare x) → IsPlain v
shown-plain path x v h plain = at-way (way_along path x) h where
  at-part : (o : Option Labelled) → ((p : Labelled) → o ≡ Some p → IsPlain (bare p)) → part-by path o ≡ Ok v → IsPlain v
  at-part None inner h = absurd (cc)
  at-part (Some p) inner h = let same : bare p ≡ v = cc in let P : Value → Type 0 = λ w. IsPlain w in subst P same (inner p refl)

  at-way : (o : Option (List Turn)) → shown-by path o x ≡ Ok v → IsPlain v
  at-way None h = absurd (cc)
  at-way (Some way) h = at-part (part_at way x) (λ p found. part-plain way x p found plain) h

-- likewise, of what a call answers
pub shown-plainly : (path : Path) (x : Labelled) (result : Result Snap TreeError) → Answers view result (shown path x) → IsPlain (bare x)
    → IfOk result (λ (v : Snap). IsPlain (view v))
shown-plainly path x (Ok v) answers plain = shown-plain path x (view v) answers plain
shown-plainly path x (Err e) answers plain = tt

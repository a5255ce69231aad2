-- The places of a node that is cleared, one by one.
use Rattle.std.proofs.Common.{◌≡◌, ℕ, zero, suc, ◌+◌, List, [], ◌∷◌, ◌++◌, length, drop, refl, sym, ◌∙◌, ap, append_assoc, zero-add, add-zero, suc-add, add-suc}
use Rattle.snap_core.specs.declared.number.NodeNo.{NodeNo}
use Rattle.edit_core.specs.Labelled.{Labelled, branches, entries}
use Rattle.node_core.specs.View.{fields}
use Rattle.node_core.specs.declared.labelled.LabelledField.{LabelledField}
use Rattle.tree_core.specs.declared.place.Place.{Place}
use Rattle.tree_core.specs.declared.place.Place.TheVariants as place
use Rattle.action_core.specs.Statements.{item_removals, entry_removals}

-- the items of so many from an index on, the last one first
abbrev pub items_down : NodeNo → ℕ → ℕ → List Place
items_down n i zero = []
items_down n i (suc k) = items_down n (suc i) k ++ place.Item n i ∷ []

pub items-down : (n : NodeNo) (i : ℕ) (xs : List Labelled) → item_removals n i (branches xs) ≡ items_down n i (length xs)
items-down n i [] = refl
items-down n i (x ∷ xs) = ap (λ (places : List Place). places ++ place.Item n i ∷ []) (items-down n (suc i) xs)

first-down : (n : NodeNo) (i k : ℕ) → items_down n i (suc k) ≡ place.Item n (i + k) ∷ items_down n i k
first-down n i zero = ap (λ j. place.Item n j ∷ []) (sym (add-zero i))
first-down n i (suc k) =
    ap (λ (places : List Place). places ++ place.Item n i ∷ []) (first-down n (suc i) k)
    ∙ ap (λ j. place.Item n j ∷ items_down n i (suc k)) (suc-add i k ∙ sym (add-suc i k))

-- one item more
pub item-pushed : (n : NodeNo) (k : ℕ) (places more whole : List Place) → more ≡ places ++ place.Item n k ∷ [] → places ++ items_down n 0 (suc k) ≡ whole → more ++ items_down n 0 k ≡ whole
item-pushed n k places more whole pushed is =
    ap (λ (xs : List Place). xs ++ items_down n 0 k) pushed ∙ append_assoc places (place.Item n k ∷ []) (items_down n 0 k)
    ∙ ap (λ j. places ++ place.Item n j ∷ items_down n 0 k) (sym (zero-add k)) ∙ ap (λ (xs : List Place). places ++ xs) (sym (first-down n 0 k)) ∙ is

pub items-begin : (n : NodeNo) (xs : List Labelled) (places : List Place) (i : ℕ) → places ≡ [] → i ≡ length xs → places ++ items_down n 0 i ≡ item_removals n 0 (branches xs)
items-begin n xs places i none is = ap (λ (ps : List Place). ps ++ items_down n 0 i) none ∙ ap (items_down n 0) is ∙ sym (items-down n 0 xs)

-- the entries from an index on
abbrev pub entries_left : NodeNo → List LabelledField → ℕ → List Place
entries_left n parts i = entry_removals n (entries (fields (drop i parts)))

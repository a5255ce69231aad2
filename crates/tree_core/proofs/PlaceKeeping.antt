-- What a write makes of a tree keeps what changes keep.
use Rattle.std.proofs.Common.{◌≡◌, ℕ, ◌+◌, suc, List, [], ◌∷◌, Bool, true, false, Option, Some, None, Ok, IfOk, option_and_then, refl, sym, ap, subst, ◌∙◌, arith, if◌then◌else◌}
use Rattle.std.specs.Prelude.{slice_get, ◌==◌}
use Rattle.std.specs.Option.{option_map}
use Rattle.snap_core.specs.Value.{IsPlain}
use Rattle.type_table.specs.Table.{Catalog}
use Rattle.type_core.specs.Making.{Outcome, is_within}
use Rattle.type_core.specs.Doubled.{identifiers_of, doubled_of}
use Rattle.type_core.specs.Sound.{IsSound}
use Rattle.pointer_core.specs.Path.{Path}
use Rattle.edit_core.specs.Labelled.{Label, Labelled, Branches, Entries, leaf, many, keyed, no_branches, branch, no_entries, entry, items_in, entries_in, bare}
use Rattle.edit_core.specs.Edit.{Turn, to_item, to_entry}
use Rattle.edit_core.specs.Numbers.{AreNumbered}
use Rattle.edit_core.specs.Ways.{way_to, way_among_items, way_among_entries, led_by, part_at}
use Rattle.tree_core.specs.Nodes.{may_write}
use Rattle.tree_core.specs.Outcome.{or_refuse}
use Rattle.tree_core.specs.Write.{Write, WritesPlain}
use Rattle.tree_core.specs.Changed.{Changed}
use Rattle.tree_core.specs.Writing.{Tree, Target, Writing, node_no, name_for, writing_at, node_written, place_written, limited_tree, unless_doubled, written}
use Rattle.tree_core.proofs.Moving.{Stands}
use Rattle.tree_core.proofs.Keeping.{Keeps, keeps-placed, part-numbered}
use Rattle.tree_core.proofs.PartFacts.{plain-part}
use Rattle.tree_core.proofs.WriteKeeping.{bound, if-provided, provided-Ok, there, node-write}

-- A way to a node leads to a part that stands there.

record ItemWay (n i : ℕ) (bs : Branches Label) (way : List Turn) : Type 0 where
  at : ℕ
  rest : List Turn
  part : Labelled
  is : way ≡ to_item (i + at) ∷ rest
  found : slice_get (items_in bs) at ≡ Some part
  stands : (end : Labelled) → part_at rest part ≡ Some end → Stands rest part end

record EntryWay (n i : ℕ) (es : Entries Label) (way : List Turn) : Type 0 where
  at : ℕ
  key : List ℕ
  rest : List Turn
  part : Labelled
  is : way ≡ to_entry (i + at) key ∷ rest
  found : slice_get (entries_in es) at ≡ Some (key, part)
  stands : (end : Labelled) → part_at rest part ≡ Some end → Stands rest part end

mutual
  pub way-stands : (n : ℕ) (x : Labelled) (way : List Turn) (end : Labelled) → way_to n x ≡ Some way → part_at way x ≡ Some end → Stands way x end
  way-stands n (leaf v) way end h g = absurd (cc)
  way-stands n (many l bs) way end h g = by (l.number == n) h (item-way n 0 bs way) where
    by : (b : Bool) → (if b then Some [] else way_among_items n 0 bs) ≡ Some way → (way_among_items n 0 bs ≡ Some way → ItemWay n 0 bs way) → Stands way (many l bs) end
    by true e inner = here way (cc) g where
      here : (way : List Turn) → [] ≡ way → part_at way (many l bs) ≡ Some end → Stands way (many l bs) end
      here [] same g = cc
      here (turn ∷ way) same g = absurd (cc)
    by false e inner =
        let found : ItemWay n 0 bs way = inner e in
        let at : way ≡ to_item found.at ∷ found.rest = found.is ∙ ap (λ j. to_item j ∷ found.rest) (zero-sum found.at) in
        let P : List Turn → Type 0 = λ w. Stands w (many l bs) end in
        let Q : List Turn → Type 0 = λ w. part_at w (many l bs) ≡ Some end in
        subst P (sym at) (found.part, found.found, found.stands end (ended found (subst Q at g))) where
          zero-sum : (j : ℕ) → 0 + j ≡ j
          zero-sum j = omega arith

          ended : (found : ItemWay n 0 bs way) → part_at (to_item found.at ∷ found.rest) (many l bs) ≡ Some end → part_at found.rest found.part ≡ Some end
          ended found q = sym (ap (λ o. option_and_then (part_at found.rest) o) found.found) ∙ q
  way-stands n (keyed l es) way end h g = by (l.number == n) h (entry-way n 0 es way) where
    by : (b : Bool) → (if b then Some [] else way_among_entries n 0 es) ≡ Some way → (way_among_entries n 0 es ≡ Some way → EntryWay n 0 es way) → Stands way (keyed l es) end
    by true e inner = here way (cc) g where
      here : (way : List Turn) → [] ≡ way → part_at way (keyed l es) ≡ Some end → Stands way (keyed l es) end
      here [] same g = cc
      here (turn ∷ way) same g = absurd (cc)
    by false e inner =
        let found : EntryWay n 0 es way = inner e in
        let at : way ≡ to_entry found.at found.key ∷ found.rest = found.is ∙ ap (λ j. to_entry j found.key ∷ found.rest) (zero-sum found.at) in
        let P : List Turn → Type 0 = λ w. Stands w (keyed l es) end in
        let Q : List Turn → Type 0 = λ w. part_at w (keyed l es) ≡ Some end in
        subst P (sym at) (found.part, found.found, found.stands end (ended found (subst Q at g))) where
          zero-sum : (j : ℕ) → 0 + j ≡ j
          zero-sum j = omega arith

          ended : (found : EntryWay n 0 es way) → part_at (to_entry found.at found.key ∷ found.rest) (keyed l es) ≡ Some end → part_at found.rest found.part ≡ Some end
          ended found q = sym (ap (λ o. option_and_then (part_at found.rest) (option_map (λ e. e.1) o)) found.found) ∙ q

  item-way : (n i : ℕ) (bs : Branches Label) (way : List Turn) → way_among_items n i bs ≡ Some way → ItemWay n i bs way
  item-way n i no_branches way h = absurd (cc)
  item-way n i (branch x bs) way h = by (way_to n x) refl h (λ w end e k. way-stands n x w end e k) (λ g. item-way n (suc i) bs way g) where
    by : (o : Option (List Turn)) → way_to n x ≡ o → led_by (to_item i) o (way_among_items n (suc i) bs) ≡ Some way
        → ((w : List Turn) (end : Labelled) → way_to n x ≡ Some w → part_at w x ≡ Some end → Stands w x end)
        → (way_among_items n (suc i) bs ≡ Some way → ItemWay n (suc i) bs way) → ItemWay n i (branch x bs) way
    by (Some w) e g inner later =
        record {
          at = 0;
          rest = w;
          part = x;
          is = same (cc) ∙ ap (λ j. to_item j ∷ w) (sum-zero i);
          found = refl;
          stands = λ end k. inner w end e k;
        } where
          same : Some (to_item i ∷ w) ≡ Some way → way ≡ to_item i ∷ w
          same e = cc

          sum-zero : (j : ℕ) → j ≡ j + 0
          sum-zero j = omega arith
    by None e g inner later =
        let found : ItemWay n (suc i) bs way = later g in
        record {
          at = suc found.at;
          rest = found.rest;
          part = found.part;
          is = found.is ∙ ap (λ j. to_item j ∷ found.rest) (omega arith);
          found = found.found;
          stands = found.stands;
        }

  entry-way : (n i : ℕ) (es : Entries Label) (way : List Turn) → way_among_entries n i es ≡ Some way → EntryWay n i es way
  entry-way n i no_entries way h = absurd (cc)
  entry-way n i (entry key x es) way h = by (way_to n x) refl h (λ w end e k. way-stands n x w end e k) (λ g. entry-way n (suc i) es way g) where
    by : (o : Option (List Turn)) → way_to n x ≡ o → led_by (to_entry i key) o (way_among_entries n (suc i) es) ≡ Some way
        → ((w : List Turn) (end : Labelled) → way_to n x ≡ Some w → part_at w x ≡ Some end → Stands w x end)
        → (way_among_entries n (suc i) es ≡ Some way → EntryWay n (suc i) es way) → EntryWay n i (entry key x es) way
    by (Some w) e g inner later =
        record {
          at = 0;
          key = key;
          rest = w;
          part = x;
          is = same (cc) ∙ ap (λ j. to_entry j key ∷ w) (sum-zero i);
          found = refl;
          stands = λ end k. inner w end e k;
        } where
          same : Some (to_entry i key ∷ w) ≡ Some way → way ≡ to_entry i key ∷ w
          same e = cc

          sum-zero : (j : ℕ) → j ≡ j + 0
          sum-zero j = omega arith
    by None e g inner later =
        let found : EntryWay n (suc i) es way = later g in
        record {
          at = suc found.at;
          key = found.key;
          rest = found.rest;
          part = found.part;
          is = found.is ∙ ap (λ j. to_entry j found.key ∷ found.rest) (omega arith);
          found = found.found;
          stands = found.stands;
        }

-- The write of a place.

from-Ok : {A : Type 0} → (o : Outcome A) (P : A → Type 0) (x : A) → IfOk o P → o ≡ Ok x → P x
from-Ok {A} o P x h e = let Q : Outcome A → Type 0 = λ o. IfOk o P in subst Q e h

ok-one : (x y : Changed) → ◌≡◌ {A = Outcome Changed} (Ok x) (Ok y) → x ≡ y
ok-one x y e = cc

unless-doubled : (o : Option Path) (c : Changed) (P : Changed → Type 0) → P c → IfOk (unless_doubled o c) P
unless-doubled (Some path) c P h = tt
unless-doubled None c P h = h

module _ (types : Catalog) (sound : IsSound types) (target : Target) (write : Write) (tree : Tree) where
  pub place-keeps : AreNumbered tree.next tree.root → IsPlain (bare tree.root) → WritesPlain write → IfOk (place_written types target write tree) (Keeps tree.next tree.root)
  place-keeps numbered plain p =
      bound (or_refuse (way_to (node_no target.place) tree.root) [] _) _ (Keeps tree.next tree.root)
      (λ way e. if-provided (may_write target.running way tree.root) (name_for way target) _ _ (Keeps tree.next tree.root)
      (λ _. bound (or_refuse (part_at way tree.root) [] _) _ (Keeps tree.next tree.root)
      (λ node g.
      let stands : Stands way tree.root node = way-stands (node_no target.place) tree.root way node (there _ [] _ way e) (there _ [] _ node g) in
      let w : Writing = writing_at types target way tree in
      let inner = node-write w sound target.place write node (part-numbered way tree.next tree.root node stands numbered) (plain-part way tree.root node stands plain) p in
      bound (node_written w target.place write node) _ (Keeps tree.next tree.root)
      (λ changed k. keeps-placed way tree.next tree.root node changed stands numbered plain (from-Ok (node_written w target.place write node) (Keeps tree.next node) changed inner k)))))

  pub written-keeps : AreNumbered tree.next tree.root → IsPlain (bare tree.root) → WritesPlain write → IfOk (written types target write tree) (Keeps tree.next tree.root)
  written-keeps numbered plain p =
      bound (place_written types target write tree) _ (Keeps tree.next tree.root)
      (λ changed k. bound (limited_tree changed) _ (Keeps tree.next tree.root)
      (λ within m.
      let same : ◌≡◌ {A = Outcome Changed} (Ok changed) (Ok within) = provided-Ok (is_within (bare changed.value)) [] _ (Ok changed) within m in
      let kept = from-Ok (place_written types target write tree) (Keeps tree.next tree.root) changed (place-keeps numbered plain p) k in
      unless-doubled (doubled_of (identifiers_of types (bare within.value))) within (Keeps tree.next tree.root) (subst (Keeps tree.next tree.root) (ok-one changed within same) kept)))

  pub place-plain : AreNumbered tree.next tree.root → IsPlain (bare tree.root) → WritesPlain write → (c : Changed) → place_written types target write tree ≡ Ok c → IsPlain (bare c.value)
  place-plain numbered plain p c h = (from-Ok (place_written types target write tree) (Keeps tree.next tree.root) c (place-keeps numbered plain p) h).plain

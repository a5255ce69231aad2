-- Settling leads to the value without its loose references.
use Rattle.std.proofs.Common.{◌≡◌, ℕ, ◌+◌, ◌≤◌, List, [], ◌∷◌, ◌++◌, map, Bool, true, false, if◌then◌else◌, refl, sym, ◌∙◌, ap, subst, arith}
use Rattle.patch_core.specs.declared.patch.Patch.{Patch}
use Rattle.patch_core.specs.Fits.{LeadsTo}
use Rattle.edit_core.specs.declared.kind.Kind.{Kind}
use Rattle.edit_core.specs.declared.kind.Kind.TheVariants as kind
use Rattle.edit_core.specs.Labelled.{Label, Labelled, Branches, Entries, Entry, leaf, many, keyed, no_branches, branch, no_entries, entry, branches, entries, entries_in, items_in, bare}
use Rattle.edit_core.specs.Edit.{Edit, whole, within, moved_to_item, moved_to_entry}
use Rattle.edit_core.specs.Logged.{logged, after_log, before_log, patch_of_logged}
use Rattle.edit_core.specs.Numbers.{times, times_in_items, times_in_entries}
use Rattle.edit_core.specs.Plain.{patch_of}
use Rattle.edit_core.proofs.Ascending.{spelled}
use Rattle.edit_core.proofs.Leading.{free, fine-free, run-in}
use Rattle.edit_core.proofs.Logged.{log-after, log-before, logged-patch}
use Rattle.edit_core.proofs.Patches.{IsWithin, AllWithin, patches-lead}
use Rattle.edit_core.proofs.Patching.{fine-paths}
use Rattle.tree_core.specs.TypesTyping.{type_under}
use Rattle.tree_core.specs.Settling.{Settling, is_loose, item_type, settling_edits}
use Rattle.tree_reading.specs.Settled.{left_of, settled_value, settled_items, settled_entries, SettlingLeads}
use Rattle.tree_reading.proofs.SettledPlain.{plain-settled}
use Rattle.tree_reading.proofs.SettlingMoves.{moves, item_moves, entry_moves, removals, removal, clearing, done_cleared, moves-run, logged-moves}

-- no edit is one of the whole

within-joined : (es fs : List Edit) → AllWithin es → AllWithin fs → AllWithin (es ++ fs)
within-joined [] fs h g = g
within-joined (e ∷ es) fs h g = (h.0, within-joined es fs h.1 g)

within-items : (before after : List Labelled) (es : List Edit) → AllWithin (map (moved_to_item before after) es)
within-items before after [] = tt
within-items before after (whole old new ∷ es) = (tt, within-items before after es)
within-items before after (within way change ∷ es) = (tt, within-items before after es)

within-entries : (before : List Entry) (key : List ℕ) (after : List Entry) (es : List Edit) → AllWithin (map (moved_to_entry before key after) es)
within-entries before key after [] = tt
within-entries before key after (whole old new ∷ es) = (tt, within-entries before key after es)
within-entries before key after (within way change ∷ es) = (tt, within-entries before key after es)

within-removal : (b : Bool) (before : List Labelled) (x : Labelled) (after : List Labelled) → AllWithin (removal b before x after)
within-removal true before x after = (tt, tt)
within-removal false before x after = tt

within-removals : (s : Settling) (t : ℕ) (before : List Labelled) (bs : Branches Label) → AllWithin (removals s t before bs)
within-removals s t before no_branches = tt
within-removals s t before (branch x bs) =
    within-joined (removals s t (before ++ settled_value s x ∷ []) bs) (removal (is_loose s t x) before x (settled_items s t bs))
    (within-removals s t (before ++ settled_value s x ∷ []) bs) (within-removal (is_loose s t x) before x (settled_items s t bs))

within-item_moves : (s : Settling) (done : List Labelled) (bs : Branches Label) → AllWithin (item_moves s done bs)
within-item_moves s done no_branches = tt
within-item_moves s done (branch x bs) =
    within-joined (map (moved_to_item done (items_in bs)) (moves s x)) (item_moves s (done ++ settled_value s x ∷ []) bs)
    (within-items done (items_in bs) (moves s x)) (within-item_moves s (done ++ settled_value s x ∷ []) bs)

within-clearing : (kind : Kind) (done : List Entry) (k : List ℕ) (x : Labelled) (after : List Entry) → IsWithin (clearing kind done k x after)
within-clearing (kind.Map t) done k x after = tt
within-clearing (kind.Model m) done k x after = tt
within-clearing (kind.Array t) done k x after = tt

within-entry : (s : Settling) (kind : Kind) (done : List Entry) (k : List ℕ) (x : Labelled) (es : Entries Label) (b : Bool)
    → AllWithin (entry_moves s kind (done_cleared kind done k) es) → AllWithin (entry_moves s kind (done ++ (k, settled_value s x) ∷ []) es)
    → AllWithin (if b then clearing kind done k x (entries_in es) ∷ entry_moves s kind (done_cleared kind done k) es
    else map (moved_to_entry done k (entries_in es)) (moves s x) ++ entry_moves s kind (done ++ (k, settled_value s x) ∷ []) es)
within-entry s kind done k x es true loose kept = (within-clearing kind done k x (entries_in es), loose)
within-entry s kind done k x es false loose kept =
    within-joined (map (moved_to_entry done k (entries_in es)) (moves s x)) (entry_moves s kind (done ++ (k, settled_value s x) ∷ []) es)
    (within-entries done k (entries_in es) (moves s x)) kept

within-entry_moves : (s : Settling) (kind : Kind) (done : List Entry) (es : Entries Label) → AllWithin (entry_moves s kind done es)
within-entry_moves s kind done no_entries = tt
within-entry_moves s kind done (entry k x es) =
    within-entry s kind done k x es (is_loose s (type_under s.table kind k) x)
    (within-entry_moves s kind (done_cleared kind done k) es) (within-entry_moves s kind (done ++ (k, settled_value s x) ∷ []) es)

within-moves : (s : Settling) (x : Labelled) → AllWithin (moves s x)
within-moves s (leaf v) = tt
within-moves s (many l bs) =
    within-joined (item_moves s [] bs) (removals s (item_type l.kind) [] bs) (within-item_moves s [] bs) (within-removals s (item_type l.kind) [] bs)
within-moves s (keyed l es) = within-entry_moves s l.kind [] es

-- no node is new

fewer-item : (n : ℕ) (b : Bool) (x y : Labelled) (kept : List Labelled) (bs : Branches Label) → times n y ≤ times n x
    → times_in_items n (branches kept) ≤ times_in_items n bs
    → times_in_items n (branches (if b then kept else y ∷ kept)) ≤ times n x + times_in_items n bs
fewer-item n true x y kept bs one more = omega arith
fewer-item n false x y kept bs one more = omega arith

left-none : (n : ℕ) (kind : Kind) (k : List ℕ) (kept : List Entry) → times_in_entries n (entries (left_of kind k ++ kept)) ≡ times_in_entries n (entries kept)
left-none n (kind.Map t) k kept = refl
left-none n (kind.Model m) k kept = omega arith
left-none n (kind.Array t) k kept = omega arith

fewer-entry : (n : ℕ) (b : Bool) (kind : Kind) (k : List ℕ) (x y : Labelled) (kept : List Entry) (es : Entries Label) → times n y ≤ times n x
    → times_in_entries n (entries kept) ≤ times_in_entries n es
    → times_in_entries n (entries (if b then left_of kind k ++ kept else (k, y) ∷ kept)) ≤ times n x + times_in_entries n es
fewer-entry n true kind k x y kept es one more = omega (arith, left-none n kind k kept)
fewer-entry n false kind k x y kept es one more = omega arith

mutual
  fewer : (s : Settling) (n : ℕ) (x : Labelled) → times n (settled_value s x) ≤ times n x
  fewer s n (leaf v) = omega arith
  fewer s n (many l bs) = omega (arith, fewer-items s n (item_type l.kind) bs)
  fewer s n (keyed l es) = omega (arith, fewer-entries s n l.kind es)

  fewer-items : (s : Settling) (n t : ℕ) (bs : Branches Label) → times_in_items n (branches (settled_items s t bs)) ≤ times_in_items n bs
  fewer-items s n t no_branches = omega arith
  fewer-items s n t (branch x bs) =
      fewer-item n (is_loose s t x) x (settled_value s x) (settled_items s t bs) bs (fewer s n x) (fewer-items s n t bs)

  fewer-entries : (s : Settling) (n : ℕ) (kind : Kind) (es : Entries Label) → times_in_entries n (entries (settled_entries s kind es)) ≤ times_in_entries n es
  fewer-entries s n kind no_entries = omega arith
  fewer-entries s n kind (entry k x es) =
      fewer-entry n (is_loose s (type_under s.table kind k) x) kind k x (settled_value s x) (settled_entries s kind es) es (fewer s n x) (fewer-entries s n kind es)

-- its patches

patches-logged : (es : List Edit) → map patch_of_logged (map logged es) ≡ map patch_of es
patches-logged [] = refl
patches-logged (e ∷ es) = let one : patch_of_logged (logged e) ≡ patch_of e = logged-patch e in let more : map patch_of_logged (map logged es) ≡ map patch_of es = patches-logged es in cc

pub after_settling : (s : Settling) (x : Labelled) → after_log (settling_edits s x) x ≡ settled_value s x
after_settling s x =
    ap (λ es. after_log es x) (sym (logged-moves s x))
    ∙ log-after x (settled_value s x) (moves s x) (run-in free x (settled_value s x) (moves s x) (moves-run free s x (fine-free x)))

pub settling-leads : (s : Settling) (x : Labelled) → SettlingLeads s x
settling-leads s x = record {
  after = after_settling s x;
  before =
      ap (λ es. before_log es (settled_value s x)) (sym (logged-moves s x))
      ∙ log-before x (settled_value s x) (moves s x) (run-in free x (settled_value s x) (moves s x) (moves-run free s x (fine-free x)));
  patches = λ paths.
      let P : List Patch → Type 0 = λ ps. LeadsTo ps (bare x) (bare (settled_value s x)) in
      let same : map patch_of (moves s x) ≡ map patch_of_logged (settling_edits s x) =
      sym (patches-logged (moves s x)) ∙ ap (map patch_of_logged) (logged-moves s x) in
      subst P same (patches-lead x (settled_value s x) (moves s x) (within-moves s x) (moves-run spelled s x (fine-paths x paths)));
  plain = plain-settled s x;
  numbered = λ next numbers. record {
    differ = λ n. omega (arith, fewer s n x, numbers.differ n);
    below = λ n high. omega (arith, fewer s n x, numbers.below n high);
  };
}

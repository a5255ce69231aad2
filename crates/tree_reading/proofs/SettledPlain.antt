-- What settling leaves of a plain value is plain.
use Rattle.std.proofs.Common.{◌≡◌, ℕ, List, [], ◌∷◌, ◌++◌, Bool, true, false, if◌then◌else◌}
use Rattle.std.specs.Ordering.{nat_cmp}
use Rattle.std.specs.Cmp.Lexicographic.{slice_cmp}
use Rattle.std.specs.declared.cmp.Ordering.TheVariants.{Less}
use Rattle.std.proofs.lemmas.Cmp.{nat_list_cmp_total}
use Rattle.snap_core.specs.Value.{IsPlain, ArePlain, ArePlainMembers, ComesBefore, keys_of}
use Rattle.edit_core.specs.declared.kind.Kind.{Kind}
use Rattle.edit_core.specs.declared.kind.Kind.TheVariants as kind
use Rattle.edit_core.specs.Labelled.{Label, Labelled, Branches, Entries, Entry, leaf, many, keyed, no_branches, branch, no_entries, entry, branches, entries, bare, bare_items, bare_fields}
use Rattle.tree_core.specs.TypesTyping.{type_under}
use Rattle.tree_core.specs.Settling.{Settling, is_loose, item_type}
use Rattle.tree_reading.specs.Settled.{left_of, settled_value, settled_items, settled_entries}

plain-item : (b : Bool) (y : Labelled) (kept : List Labelled) → IsPlain (bare y) → ArePlain (bare_items (branches kept))
    → ArePlain (bare_items (branches (if b then kept else y ∷ kept)))
plain-item true y kept one more = more
plain-item false y kept one more = (one, more)

-- a key comes before those that are left, where it comes before all
abbrev IsBefore : List ℕ → List Entry → Type 0
IsBefore k es = ComesBefore k (keys_of (bare_fields (entries es)))

before-further : (k j : List ℕ) (names : List (List ℕ)) → slice_cmp nat_cmp k j ≡ Less → ComesBefore j names → ComesBefore k names
before-further k j [] less more = tt
before-further k j (u ∷ us) less more = nat_list_cmp_total.trans k j u less more

before-entry : (b : Bool) (kind : Kind) (k j : List ℕ) (y : Labelled) (kept : List Entry) → slice_cmp nat_cmp k j ≡ Less → IsBefore k kept
    → IsBefore k (if b then left_of kind j ++ kept else (j, y) ∷ kept)
before-entry true (kind.Map t) k j y kept less more = more
before-entry true (kind.Model m) k j y kept less more = less
before-entry true (kind.Array t) k j y kept less more = less
before-entry false kind k j y kept less more = less

before-settled : (s : Settling) (kind : Kind) (k : List ℕ) (es : Entries Label) → ComesBefore k (keys_of (bare_fields es)) → ArePlainMembers (bare_fields es)
    → IsBefore k (settled_entries s kind es)
before-settled s kind k no_entries before plain = tt
before-settled s kind k (entry j x es) before plain =
    before-entry (is_loose s (type_under s.table kind j) x) kind k j (settled_value s x) (settled_entries s kind es) before
    (before-settled s kind k es (before-further k j (keys_of (bare_fields es)) before plain.1) plain.2)

plain-entry : (b : Bool) (kind : Kind) (k : List ℕ) (y : Labelled) (kept : List Entry) → IsPlain (bare y) → IsBefore k kept → ArePlainMembers (bare_fields (entries kept))
    → ArePlainMembers (bare_fields (entries (if b then left_of kind k ++ kept else (k, y) ∷ kept)))
plain-entry true (kind.Map t) k y kept one before more = more
plain-entry true (kind.Model m) k y kept one before more = (tt, before, more)
plain-entry true (kind.Array t) k y kept one before more = (tt, before, more)
plain-entry false kind k y kept one before more = (one, before, more)

mutual
  pub plain-settled : (s : Settling) (x : Labelled) → IsPlain (bare x) → IsPlain (bare (settled_value s x))
  plain-settled s (leaf v) plain = plain
  plain-settled s (many l bs) plain = plain-items s (item_type l.kind) bs plain
  plain-settled s (keyed l es) plain = plain-entries s l.kind es plain

  plain-items : (s : Settling) (t : ℕ) (bs : Branches Label) → ArePlain (bare_items bs) → ArePlain (bare_items (branches (settled_items s t bs)))
  plain-items s t no_branches plain = tt
  plain-items s t (branch x bs) plain =
      plain-item (is_loose s t x) (settled_value s x) (settled_items s t bs) (plain-settled s x plain.0) (plain-items s t bs plain.1)

  plain-entries : (s : Settling) (kind : Kind) (es : Entries Label) → ArePlainMembers (bare_fields es) → ArePlainMembers (bare_fields (entries (settled_entries s kind es)))
  plain-entries s kind no_entries plain = tt
  plain-entries s kind (entry k x es) plain =
      plain-entry (is_loose s (type_under s.table kind k) x) kind k (settled_value s x) (settled_entries s kind es) (plain-settled s x plain.0)
      (before-settled s kind k es plain.1 plain.2) (plain-entries s kind es plain.2)

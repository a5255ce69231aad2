-- Documents that show one snapshot differ in the numbers of their nodes alone.
use Rattle.std.proofs.Common.{◌≡◌, ℕ, List, Bool, true, false, Option, Some, None, refl, sym, ap, subst, ◌∙◌, if◌then◌else◌}
use Rattle.std.specs.Prelude.{IsSome}
use Rattle.snap_core.specs.Value.{Value, list, dict, part, member}
use Rattle.snap_core.specs.declared.ident.Ident.{Ident}
use Rattle.snap_core.specs.declared.number.ModelNo.{ModelNo}
use Rattle.type_table.specs.Table.{Catalog}
use Rattle.type_table.specs.Identifiers.{ident_of}
use Rattle.edit_core.specs.declared.kind.Kind.{Kind}
use Rattle.edit_core.specs.declared.kind.Kind.TheVariants.{Array, Map, Model}
use Rattle.edit_core.specs.Labelled.{Label, Labelled, Branches, Entries, leaf, many, keyed, no_branches, branch, no_entries, entry, bare, bare_items, bare_fields}
use Rattle.edit_core.specs.Labelling.{IsLabelledBy, AreLabelledBy, HoldLabelledBy, IfArray, IfRecord}
use Rattle.edit_core.specs.Typing.{Typing}
use Rattle.tree_core.specs.Reading.{Sought, is_sought, or_node, sought_in, sought_in_items, sought_in_entries}
use Rattle.tree_core.specs.Settling.{safe_target, item_type}
use Rattle.tree_core.specs.State.{State}
use Rattle.tree_core.specs.TypesTyping.{typing_of, root_type, type_under}
use Rattle.tree_laws.specs.Tied.{IsHad, IsTied, HasTied, ItemsTied, EntriesTied, IsSettled}
use Rattle.doc_core.specs.Documents.{IsCopy}

mutual
  -- the same but for the numbers of nodes
  data Alike : Labelled → Labelled → Type 0 where
    leaves : (v : Value) → Alike (leaf v) (leaf v)
    lists : (l m : Label) (bs cs : Branches Label) → l.kind ≡ m.kind → AreAlike bs cs → Alike (many l bs) (many m cs)
    records : (l m : Label) (es fs : Entries Label) → l.kind ≡ m.kind → HoldAlike es fs → Alike (keyed l es) (keyed m fs)

  data AreAlike : Branches Label → Branches Label → Type 0 where
    no_items : AreAlike no_branches no_branches
    one_item : (x y : Labelled) (bs cs : Branches Label) → Alike x y → AreAlike bs cs → AreAlike (branch x bs) (branch y cs)

  data HoldAlike : Entries Label → Entries Label → Type 0 where
    no_values : HoldAlike no_entries no_entries
    one_value : (key : List ℕ) (x y : Labelled) (es fs : Entries Label) → Alike x y → HoldAlike es fs → HoldAlike (entry key x es) (entry key y fs)

-- what holds of an array's items, by their type, and of a record's entries
both-arrays : (k : Kind) (P Q : ℕ → Type 0) → IfArray k P → IfArray k Q → (t : ℕ) × P t × Q t
both-arrays (Array t) P Q p q = (t.0, p, q)
both-arrays (Map t) P Q p q = absurd p
both-arrays (Model m) P Q p q = absurd p

if-record : (k : Kind) (P : Type 0) → IfRecord k P → P
if-record (Array t) P p = absurd p
if-record (Map t) P p = p
if-record (Model m) P p = p

-- trees that types label, and that have one value
module _ (typing : Typing) where
  mutual
    alike : (t : ℕ) (x y : Labelled) → IsLabelledBy typing t x → IsLabelledBy typing t y → bare x ≡ bare y → Alike x y
    alike t (leaf v) (leaf w) lx ly e = let P : Value → Type 0 = λ u. Alike (leaf v) (leaf u) in subst P e (leaves v)
    alike t (leaf v) (many m cs) lx ly e = absurd (cc)
    alike t (leaf v) (keyed m fs) lx ly e = absurd (cc)
    alike t (many l bs) (leaf w) lx ly e = absurd (cc)
    alike t (many l bs) (many m cs) lx ly e =
        let same : bare_items bs ≡ bare_items cs = cc in
        let kinds : l.kind ≡ m.kind = cc in
        let P : Kind → Type 0 = λ k. IfArray k (λ u. AreLabelledBy typing u cs) in
        let arrays = both-arrays l.kind (λ u. AreLabelledBy typing u bs) (λ u. AreLabelledBy typing u cs) lx.1 (subst P (sym kinds) ly.1) in
        lists l m bs cs kinds (items-alike arrays.0 bs cs arrays.1 arrays.2 same)
    alike t (many l bs) (keyed m fs) lx ly e = absurd (cc)
    alike t (keyed l es) (leaf w) lx ly e = absurd (cc)
    alike t (keyed l es) (many m cs) lx ly e = absurd (cc)
    alike t (keyed l es) (keyed m fs) lx ly e =
        let same : bare_fields es ≡ bare_fields fs = cc in
        let kinds : l.kind ≡ m.kind = cc in
        let P : Kind → Type 0 = λ k. IfRecord k (HoldLabelledBy typing k fs) in
        records l m es fs kinds
        (entries-alike l.kind es fs (if-record l.kind (HoldLabelledBy typing l.kind es) lx.1) (if-record l.kind (HoldLabelledBy typing l.kind fs) (subst P (sym kinds) ly.1)) same)

    items-alike : (t : ℕ) (bs cs : Branches Label) → AreLabelledBy typing t bs → AreLabelledBy typing t cs → bare_items bs ≡ bare_items cs → AreAlike bs cs
    items-alike t no_branches no_branches lx ly e = no_items
    items-alike t no_branches (branch y cs) lx ly e = absurd (cc)
    items-alike t (branch x bs) no_branches lx ly e = absurd (cc)
    items-alike t (branch x bs) (branch y cs) lx ly e =
        let here : bare x ≡ bare y = cc in
        let rest : bare_items bs ≡ bare_items cs = cc in
        one_item x y bs cs (alike t x y lx.0 ly.0 here) (items-alike t bs cs lx.1 ly.1 rest)

    entries-alike : (k : Kind) (es fs : Entries Label) → HoldLabelledBy typing k es → HoldLabelledBy typing k fs → bare_fields es ≡ bare_fields fs → HoldAlike es fs
    entries-alike k no_entries no_entries lx ly e = no_values
    entries-alike k no_entries (entry j y fs) lx ly e = absurd (cc)
    entries-alike k (entry i x es) no_entries lx ly e = absurd (cc)
    entries-alike k (entry i x es) (entry j y fs) lx ly e =
        let key : i ≡ j = cc in
        let here : bare x ≡ bare y = cc in
        let rest : bare_fields es ≡ bare_fields fs = cc in
        let L : List ℕ → Type 0 = λ n. IsLabelledBy typing (typing.type_under k n) y in
        let P : List ℕ → Type 0 = λ n. HoldAlike (entry i x es) (entry n y fs) in
        subst P key (one_value i x y es fs (alike (typing.type_under k i) x y lx.0 (subst L (sym key) ly.0) here) (entries-alike k es fs lx.1 ly.1 rest))

mutual
  same-value : (x y : Labelled) → Alike x y → bare x ≡ bare y
  same-value _ _ (leaves v) = refl
  same-value _ _ (lists l m bs cs kinds items) = ap (list tt) (same-items bs cs items)
  same-value _ _ (records l m es fs kinds values) = ap (dict tt) (same-fields es fs values)

  same-items : (bs cs : Branches Label) → AreAlike bs cs → bare_items bs ≡ bare_items cs
  same-items _ _ no_items = refl
  same-items _ _ (one_item x y bs cs here rest) = ap (λ v. part v (bare_items bs)) (same-value x y here) ∙ ap (part (bare y)) (same-items bs cs rest)

  same-fields : (es fs : Entries Label) → HoldAlike es fs → bare_fields es ≡ bare_fields fs
  same-fields _ _ no_values = refl
  same-fields _ _ (one_value key x y es fs here rest) =
      ap (λ v. member key v (bare_fields es)) (same-value x y here) ∙ ap (member key (bare y)) (same-fields es fs rest)

-- a node that is found in one is found in the other
either-found : (a b c d : Option ℕ) → (IsSome a → IsSome c) → (IsSome b → IsSome d) → IsSome (or_node a b) → IsSome (or_node c d)
either-found (Some n) b (Some k) d first second found = refl
either-found (Some n) b None d first second found = let none = first refl in absurd (cc)
either-found None b (Some k) d first second found = refl
either-found None b None d first second found = second found

module _ (s : Sought) where
  itself-found : (a b : Bool) (n m : ℕ) (c d : Option ℕ) → a ≡ b → (IsSome c → IsSome d) → IsSome (if a then Some n else c) → IsSome (if b then Some m else d)
  itself-found true true n m c d e inner found = refl
  itself-found true false n m c d e inner found = absurd (cc)
  itself-found false true n m c d e inner found = refl
  itself-found false false n m c d e inner found = inner found

  same-sought : (l m : Label) (v w : Value) → l.kind ≡ m.kind → v ≡ w → is_sought s l v ≡ is_sought s m w
  same-sought l m v w kinds same =
      let At : Kind → Label = λ k. record { number = 0; kind = k } in
      ap (λ u. is_sought s l u) same ∙ ap (λ k. is_sought s (At k) w) kinds

  mutual
    found : (x y : Labelled) → Alike x y → IsSome (sought_in s x) → IsSome (sought_in s y)
    found _ _ (leaves v) h = h
    found _ _ (lists l m bs cs kinds items) h = found-item bs cs items h
    found _ _ (records l m es fs kinds values) h =
        itself-found (is_sought s l (bare (keyed l es))) (is_sought s m (bare (keyed m fs))) l.number m.number (sought_in_entries s es) (sought_in_entries s fs)
        (same-sought l m (bare (keyed l es)) (bare (keyed m fs)) kinds (ap (dict tt) (same-fields es fs values))) (found-value es fs values) h

    found-item : (bs cs : Branches Label) → AreAlike bs cs → IsSome (sought_in_items s bs) → IsSome (sought_in_items s cs)
    found-item _ _ no_items h = h
    found-item _ _ (one_item x y bs cs here rest) h =
        either-found (sought_in s x) (sought_in_items s bs) (sought_in s y) (sought_in_items s cs) (found x y here) (found-item bs cs rest) h

    found-value : (es fs : Entries Label) → HoldAlike es fs → IsSome (sought_in_entries s es) → IsSome (sought_in_entries s fs)
    found-value _ _ no_values h = h
    found-value _ _ (one_value key x y es fs here rest) h =
        either-found (sought_in s x) (sought_in_entries s es) (sought_in s y) (sought_in_entries s fs) (found x y here) (found-value es fs rest) h

-- what is tied in one is tied in the other
module _ (types : Catalog) (root other : Labelled) (same : Alike root other) where
  had : (m : Option ModelNo) (i : Option Ident) → IsHad types root m i → IsHad types other m i
  had (Some m) (Some i) h = found (record { name = (typing_of types.table).identifier_of m; model = m; identifier = i }) root other same h
  had (Some m) None h = tt
  had None i h = tt

  tied-part : (t : ℕ) (x y : Labelled) → Alike x y → IsTied types root t x → IsTied types other t y
  tied-part t x y here h =
      let P : Value → Type 0 = λ v. IsHad types other (safe_target types.table t) (ident_of (Some v)) in
      subst P (same-value x y here) (had (safe_target types.table t) (ident_of (Some (bare x))) h)

  mutual
    tied : (x y : Labelled) → Alike x y → HasTied types root x → HasTied types other y
    tied _ _ (leaves v) h = tt
    tied _ _ (lists l m bs cs kinds items) h =
        let P : Kind → Type 0 = λ k. ItemsTied types other (item_type k) cs in subst P kinds (tied-items (item_type l.kind) bs cs items h)
    tied _ _ (records l m es fs kinds values) h =
        let P : Kind → Type 0 = λ k. EntriesTied types other k fs in subst P kinds (tied-entries l.kind es fs values h)

    tied-items : (t : ℕ) (bs cs : Branches Label) → AreAlike bs cs → ItemsTied types root t bs → ItemsTied types other t cs
    tied-items t _ _ no_items h = tt
    tied-items t _ _ (one_item x y bs cs here rest) h = (tied-part t x y here h.0, tied x y here h.1, tied-items t bs cs rest h.2)

    tied-entries : (k : Kind) (es fs : Entries Label) → HoldAlike es fs → EntriesTied types root k es → EntriesTied types other k fs
    tied-entries k _ _ no_values h = tt
    tied-entries k _ _ (one_value key x y es fs here rest) h =
        (tied-part (type_under types.table k key) x y here h.0, tied x y here h.1, tied-entries k es fs rest h.2)

-- where one document that shows a snapshot is settled, each is
pub settled-copies : (types : Catalog) (v : Value) (one : State) → IsCopy types v one → IsSettled types one.tree → (s : State) → IsCopy types v s → IsSettled types s.tree
settled-copies types v one shown settled s copy =
    let same : Alike one.tree s.tree =
    alike (typing_of types.table) (root_type types) one.tree s.tree shown.document.typed.labelled copy.document.typed.labelled (shown.shows ∙ sym copy.shows) in
    tied types one.tree s.tree same one.tree s.tree same settled

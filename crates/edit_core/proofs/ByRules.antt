-- Reconciling follows the rules: without labels, its edits are exactly the patches that the rules give.
use Rattle.std.proofs.Common.{◌≡◌, ℕ, ◌+◌, ◌<◌, ◌≤◌, List, [], ◌∷◌, map, true, false, Option, Some, None, refl, sym, ◌∙◌, ap, subst, arith}
use Rattle.std.specs.Prelude.{◌==◌, if◌then◌else◌}
use Rattle.std.proofs.lemmas.Bool.Decides.{Decides-eqb}
use Rattle.snap_core.specs.declared.number.TypeNo.{TypeNo}
use Rattle.snap_core.specs.Value.{Value, null, boolean, integer, text, list, dict, no_parts, part, no_members, member, Items, Fields, IsOrdered, AreOrdered, AreOrderedMembers}
use Rattle.patch_core.specs.declared.patch.Patch.{Patch}
use Rattle.edit_core.specs.declared.kind.Kind.{Kind}
use Rattle.edit_core.specs.declared.kind.Kind.TheVariants.{Model, Array, Map}
use Rattle.edit_core.specs.Labelled.{Label, Labelled, Entry, Branches, Entries, leaf, many, keyed, no_branches, branch, no_entries, entry, entries, items_in, entries_in, bare, bare_items, bare_fields}
use Rattle.edit_core.specs.Edit.{whole}
use Rattle.edit_core.specs.Plain.{patch_of}
use Rattle.edit_core.specs.Comparing.{is_equal, same_kind, same_label}
use Rattle.edit_core.specs.Between.{item_edits, entry_edits, edits_between, olds_in, old_entries_in}
use Rattle.edit_core.specs.Typing.{Typing, Rules, seen, is_kind, stays_as}
use Rattle.edit_core.specs.Matching.{by_first, matched, same_item}
use Rattle.edit_core.specs.Template.{Template, kept, standing, label_for, items_under, entries_under, values_in, unless_equal, array_template, record_template, item_templates, field_templates, numbered, numbered_items, numbered_entries}
use Rattle.edit_core.specs.Numbers.{times_in_items, times_in_entries, AreNumbered}
use Rattle.edit_core.specs.Labelling.{IsSuited, IfArray, IfRecord, IsLabelledBy, AreLabelledBy, HoldLabelledBy}
use Rattle.edit_core.specs.Reconciling.{Setting, reconciled}
use Rattle.edit_core.specs.Rules.{replaced, unless_same, items_of, fields_of, array_rule, record_rule, array_patches, record_patches, patches_by_rules, new_items, new_fields}
use Rattle.edit_core.proofs.Equal.{and-left, kind-is}
use Rattle.edit_core.proofs.Bare.{bare-numbered, bare-numbered_entries, bare-items, bare-fields}
use Rattle.edit_core.proofs.Unchanged.{both-true, between-itself, numbered-kept}
use Rattle.edit_core.proofs.Labelling.{AllLabelledBy, EachLabelledBy, items-labelled, entries-labelled, if-record}
use Rattle.edit_core.proofs.Keeping.{sum-items}
use Rattle.edit_core.proofs.Ascending.{Ascend}
use Rattle.edit_core.proofs.Patching.{ascend-plain}
use Rattle.edit_core.proofs.RuleLinks.{leaf-follows, whole-follows, number-itself, seen-typed, kind-label}
use Rattle.edit_core.proofs.OldItems.{AllNumbered, AllOrdered, all-numbered-more, olds-parts, values-bare, low-number}
use Rattle.edit_core.proofs.RuleItems.{Follows, FollowItems, items-follow}
use Rattle.edit_core.proofs.RuleFields.{EachNumbered, EachOrdered, numbered-each, old-pairs, FollowFields, fields-follow}

-- parts of what is numbered and ordered

all-numbered : (next : ℕ) (bs : Branches Label) → ((n : ℕ) → times_in_items n bs ≤ 1) → ((n : ℕ) → next ≤ n → times_in_items n bs ≡ 0) → AllNumbered next (items_in bs)
all-numbered next no_branches once below = tt
all-numbered next (branch x bs) once below = (
  record { differ = λ n. omega (arith, once n); below = λ n high. omega (arith, below n high) },
  all-numbered next bs (λ n. omega (arith, once n)) (λ n high. omega (arith, below n high)),
)

each-numbered : (next : ℕ) (es : Entries Label) → ((n : ℕ) → times_in_entries n es ≤ 1) → ((n : ℕ) → next ≤ n → times_in_entries n es ≡ 0) → EachNumbered next (entries_in es)
each-numbered next no_entries once below = tt
each-numbered next (entry k x es) once below = (
  record { differ = λ n. omega (arith, once n); below = λ n high. omega (arith, below n high) },
  each-numbered next es (λ n. omega (arith, once n)) (λ n high. omega (arith, below n high)),
)

all-ordered : (bs : Branches Label) → AreOrdered (bare_items bs) → AllOrdered (items_in bs)
all-ordered no_branches h = tt
all-ordered (branch x bs) h = (h.0, all-ordered bs h.1)

each-ordered : (es : Entries Label) → AreOrderedMembers (bare_fields es) → EachOrdered (entries_in es)
each-ordered no_entries h = tt
each-ordered (entry k x es) h = (h.0, each-ordered es h.2)

entries-back : (es : Entries Label) → entries (entries_in es) ≡ es
entries-back no_entries = refl
entries-back (entry k x es) = ap (entry k x) (entries-back es)

-- a new number is no old one

unlike : (a b : ℕ) → a < b → (a == b) ≡ false
unlike a b low = elim (a == b) as (λ t. (t ≡ true → a ≡ b) → t ≡ false) [ true ↦ λ h. absurd (let same : a ≡ b = h refl in omega arith) | false ↦ λ h. refl ] (Decides-eqb a b).0

pub new-array : (old : Labelled) (next : ℕ) (kind : Kind) (bs : Branches Label) → AreNumbered next old
    → edits_between old (many (record { number = next; kind = kind }) bs) ≡ whole old (many (record { number = next; kind = kind }) bs) ∷ []
new-array (leaf v) next kind bs numbers = refl
new-array (keyed l es) next kind bs numbers = refl
new-array (many l cs) next kind bs numbers = rw (unlike l.number next (low-number next (many l cs) l refl numbers))

pub new-record : (old : Labelled) (next : ℕ) (kind : Kind) (es : Entries Label) → AreNumbered next old
    → edits_between old (keyed (record { number = next; kind = kind }) es) ≡ whole old (keyed (record { number = next; kind = kind }) es) ∷ []
new-record (leaf v) next kind es numbers = refl
new-record (many l cs) next kind es numbers = refl
new-record (keyed l fs) next kind es numbers = rw (unlike l.number next (low-number next (keyed l fs) l refl numbers))

-- scalars

scalar-follows : (old : Labelled) (v : Value) → ((ps : Items) → is_equal (list tt ps) v ≡ false) → ((ms : Fields) → is_equal (dict tt ms) v ≡ false)
    → map patch_of (edits_between old (leaf v)) ≡ unless_same (bare old) v (replaced [] (bare old) v ∷ [])
scalar-follows (leaf w) v no_list no_record =
    elim (is_equal w v) as (λ b. map patch_of (if b then [] else whole (leaf w) (leaf v) ∷ []) ≡ (if b then [] else replaced [] w v ∷ [])) [ true ↦ refl | false ↦ refl ]
scalar-follows (many l bs) v no_list no_record = rw (no_list (bare_items bs))
scalar-follows (keyed l es) v no_list no_record = rw (no_record (bare_fields es))

module _ (typing : Typing) (suited : IsSuited typing) where
  abbrev rules : Rules
  rules = by_first typing

  -- where the value is another one, the template without that of an equal one, and the rule without that of equal values
  unless-follows : (next : ℕ) (old : Labelled) (v : Value) (other : Template) (patches : List Patch) → (is_equal (bare old) v ≡ false → map patch_of (edits_between old (numbered next other)) ≡ patches)
      → map patch_of (edits_between old (numbered next (unless_equal (Some old) v other))) ≡ unless_same (bare old) v patches
  unless-follows next old v other patches h =
      elim (is_equal (bare old) v) as (λ b. (b ≡ false → map patch_of (edits_between old (numbered next other)) ≡ patches)
      → map patch_of (edits_between old (numbered next (if b then kept old else other))) ≡ (if b then [] else patches)) [
        | true ↦ λ g. ap (map patch_of) (ap (edits_between old) (numbered-kept next old) ∙ between-itself old)
        | false ↦ λ g. g refl
      ] h

  array-stays : (u : TypeNo) (next : ℕ) (old : Labelled) (ps : Items) (t : ℕ) → IsLabelledBy typing t old → AreNumbered next old → IsOrdered (bare old) → AreOrdered ps → FollowItems typing suited ps
      → stays_as typing (Array u) (seen old) (list tt ps) ≡ true
      → map patch_of (edits_between old (numbered next (many (label_for (Array u) (Some old)) (item_templates rules ps u.0 (rules.matching u.0 (items_under (Some old)) (values_in ps))))))
      ≡ array_rule typing u.0 (items_of (bare old)) (new_items typing ps)
  array-stays u next (leaf w) ps t labelled numbers ordered new_ordered follow stays = absurd (cc stays)
  array-stays u next (keyed l es) ps t labelled numbers ordered new_ordered follow stays =
      let kind : l.kind ≡ Array u = kind-label typing (keyed l es) l (Array u) refl (and-left (is_kind (Some l.kind) (Array u)) _ stays) in
      let P : Kind → Type 0 = λ k. IfRecord k (HoldLabelledBy typing l.kind es) in
      absurd (subst P kind labelled.1)
  array-stays u next (many l bs) ps t labelled numbers ordered new_ordered follow stays =
      let same : same_kind l.kind (Array u) ≡ true = and-left (same_kind l.kind (Array u)) _ stays in
      let kind : l.kind ≡ Array u = kind-is l.kind (Array u) same in
      let P : Kind → Type 0 = λ k. IfArray k (λ w. AreLabelledBy typing w bs) in
      let items : AllLabelledBy typing u.0 (items_in bs) = items-labelled typing u.0 bs (subst P kind labelled.1) in
      let label : same_label l (record { number = l.number; kind = Array u }) ≡ true = both-true (l.number == l.number) (same_kind l.kind (Array u)) (number-itself l.number) same in
      let all : AllNumbered next (items_in bs) = all-numbered next bs (λ n. omega (arith, numbers.differ n)) (λ n high. omega (arith, numbers.below n high)) in
      let further : AllNumbered (next + 0) (items_in bs) = all-numbered-more next (next + 0) (items_in bs) (omega arith) all in
      let news : List Labelled = items_in (numbered_items (next + 0) (item_templates rules ps u.0 (matched (λ o n. same_item typing u.0 (seen o) n) (items_in bs) (values_in ps)))) in
      let edits : map patch_of (item_edits (olds_in bs) news) ≡ array_rule typing u.0 (values_in (bare_items bs)) (new_items typing ps) =
      ap (λ olds. map patch_of (item_edits olds news)) (olds-parts bs)
      ∙ items-follow typing suited u.0 (next + 0) (items_in bs) ps items further (all-ordered bs ordered) (λ n. omega (arith, sum-items n bs, numbers.differ n)) new_ordered follow
      ∙ ap (λ vs. array_rule typing u.0 vs (new_items typing ps)) (sym (values-bare bs)) in
      rw label edits

  array-follows : (t next : ℕ) (old : Labelled) (ps : Items) → IsLabelledBy typing t old → AreNumbered next old → IsOrdered (bare old) → AreOrdered ps → FollowItems typing suited ps
      → (k : Option Kind) → is_equal (bare old) (list tt ps) ≡ false
      → map patch_of (edits_between old (numbered next (array_template rules k (Some old) ps (item_templates rules ps)))) ≡ array_patches typing k (seen old) (list tt ps) (new_items typing ps)
  array-follows t next old ps labelled numbers ordered new_ordered follow None differ = leaf-follows old (list tt ps) differ
  array-follows t next old ps labelled numbers ordered new_ordered follow (Some (Map u)) differ = leaf-follows old (list tt ps) differ
  array-follows t next old ps labelled numbers ordered new_ordered follow (Some (Model m)) differ = leaf-follows old (list tt ps) differ
  array-follows t next old ps labelled numbers ordered new_ordered follow (Some (Array u)) differ =
      elim (stays_as typing (Array u) (seen old) (list tt ps)) as (λ b. (b ≡ true → stays_as typing (Array u) (seen old) (list tt ps) ≡ true)
      → map patch_of (edits_between old (numbered next (many (label_for (Array u) (if b then Some old else None)) (item_templates rules ps u.0 (rules.matching u.0 (items_under (if b then Some old else None)) (values_in ps))))))
      ≡ (if b then array_rule typing u.0 (items_of (bare old)) (new_items typing ps) else replaced [] (bare old) (list tt ps) ∷ [])) [
        | true ↦ λ h. array-stays u next old ps t labelled numbers ordered new_ordered follow (h refl)
        | false ↦ λ h.
            let new : Labelled = numbered next (many (label_for (Array u) None) (item_templates rules ps u.0 (rules.matching u.0 [] (values_in ps)))) in
            let given : bare new ≡ list tt ps = bare-numbered next (many (label_for (Array u) None) (item_templates rules ps u.0 (rules.matching u.0 [] (values_in ps)))) ∙ ap (list tt) (bare-items rules ps u.0 (rules.matching u.0 [] (values_in ps))) in
            ap (map patch_of) (new-array old next (Array u) (numbered_items (next + 1) (item_templates rules ps u.0 (rules.matching u.0 [] (values_in ps)))) numbers) ∙ whole-follows old new (list tt ps) given
      ] (λ h. h)

  bare-numbered_fields : (next : ℕ) (kind : Kind) (olds : List Entry) (ms : Fields) → bare_fields (numbered_entries next (field_templates rules ms kind olds)) ≡ ms
  bare-numbered_fields next kind olds ms = bare-numbered_entries next (field_templates rules ms kind olds) ∙ bare-fields rules ms kind olds

  record-stays : (kind : Kind) (next : ℕ) (old : Labelled) (ms : Fields) (t : ℕ) → ((P : ℕ → Type 0) → IfArray kind P → ⊥) → IsLabelledBy typing t old → AreNumbered next old → IsOrdered (bare old) → AreOrderedMembers ms → FollowFields typing suited ms
      → stays_as typing kind (seen old) (dict tt ms) ≡ true
      → map patch_of (edits_between old (numbered next (keyed (label_for kind (Some old)) (field_templates rules ms kind (entries_under (Some old))))))
      ≡ record_rule typing kind (fields_of (bare old)) (new_fields typing ms)
  record-stays kind next (leaf w) ms t no_array labelled numbers ordered new_ordered follow stays = absurd (cc stays)
  record-stays kind next (many l bs) ms t no_array labelled numbers ordered new_ordered follow stays =
      let is : l.kind ≡ kind = kind-label typing (many l bs) l kind refl (and-left (is_kind (Some l.kind) kind) _ stays) in
      let P : Kind → Type 0 = λ k. IfArray k (λ w. AreLabelledBy typing w bs) in
      absurd (no_array (λ w. AreLabelledBy typing w bs) (subst P is labelled.1))
  record-stays kind next (keyed l es) ms t no_array labelled numbers ordered new_ordered follow stays =
      let same : same_kind l.kind kind ≡ true = and-left (same_kind l.kind kind) _ stays in
      let P : Kind → Type 0 = λ k. HoldLabelledBy typing k es in
      let held : EachLabelledBy typing kind (entries_in es) = entries-labelled typing kind es (subst P (kind-is l.kind kind same) (if-record typing l.kind es labelled.1)) in
      let label : same_label l (record { number = l.number; kind = kind }) ≡ true = both-true (l.number == l.number) (same_kind l.kind kind) (number-itself l.number) same in
      let each : EachNumbered next (entries_in es) = each-numbered next es (λ n. omega (arith, numbers.differ n)) (λ n high. omega (arith, numbers.below n high)) in
      let further : EachNumbered (next + 0) (entries_in es) = numbered-each next (next + 0) (entries_in es) (omega arith) each in
      let made : Entries Label = numbered_entries (next + 0) (field_templates rules ms kind (entries_in es)) in
      let Q : Fields → Type 0 = λ ns. AreOrderedMembers ns in
      let given : bare_fields made ≡ ms = bare-numbered_fields (next + 0) kind (entries_in es) ms in
      let ascend : Ascend (entries_in made) = ascend-plain made (subst Q (sym given) new_ordered) in
      let edits : map patch_of (entry_edits (old_entries_in es) (entries_in made)) ≡ record_rule typing kind (bare_fields es) (new_fields typing ms) =
      ap (λ olds. map patch_of (entry_edits olds (entries_in made))) (old-pairs es)
      ∙ fields-follow typing suited kind (next + 0) (entries_in es) ms (ascend-plain es ordered) ascend held further (each-ordered es ordered) new_ordered follow
      ∙ ap (λ fs. record_rule typing kind (bare_fields fs) (new_fields typing ms)) (entries-back es) in
      rw label edits

  keyed-follows : (kind : Kind) (t next : ℕ) (old : Labelled) (ms : Fields) → ((P : ℕ → Type 0) → IfArray kind P → ⊥) → IsLabelledBy typing t old → AreNumbered next old → IsOrdered (bare old) → AreOrderedMembers ms → FollowFields typing suited ms
      → map patch_of (edits_between old (numbered next (keyed (label_for kind (standing typing kind (Some old) (dict tt ms))) (field_templates rules ms kind (entries_under (standing typing kind (Some old) (dict tt ms)))))))
      ≡ (if stays_as typing kind (seen old) (dict tt ms) then record_rule typing kind (fields_of (bare old)) (new_fields typing ms) else replaced [] (bare old) (dict tt ms) ∷ [])
  keyed-follows kind t next old ms no_array labelled numbers ordered new_ordered follow =
      elim (stays_as typing kind (seen old) (dict tt ms)) as (λ b. (b ≡ true → stays_as typing kind (seen old) (dict tt ms) ≡ true)
      → map patch_of (edits_between old (numbered next (keyed (label_for kind (if b then Some old else None)) (field_templates rules ms kind (entries_under (if b then Some old else None))))))
      ≡ (if b then record_rule typing kind (fields_of (bare old)) (new_fields typing ms) else replaced [] (bare old) (dict tt ms) ∷ [])) [
        | true ↦ λ h. record-stays kind next old ms t no_array labelled numbers ordered new_ordered follow (h refl)
        | false ↦ λ h.
            let new : Labelled = numbered next (keyed (label_for kind None) (field_templates rules ms kind [])) in
            let given : bare new ≡ dict tt ms = bare-numbered next (keyed (label_for kind None) (field_templates rules ms kind [])) ∙ ap (dict tt) (bare-fields rules ms kind []) in
            ap (map patch_of) (new-record old next kind (numbered_entries (next + 1) (field_templates rules ms kind [])) numbers) ∙ whole-follows old new (dict tt ms) given
      ] (λ h. h)

  record-follows : (t next : ℕ) (old : Labelled) (ms : Fields) → IsLabelledBy typing t old → AreNumbered next old → IsOrdered (bare old) → AreOrderedMembers ms → FollowFields typing suited ms
      → (k : Option Kind) → is_equal (bare old) (dict tt ms) ≡ false
      → map patch_of (edits_between old (numbered next (record_template rules k (Some old) ms (field_templates rules ms)))) ≡ record_patches typing k (seen old) (dict tt ms) (new_fields typing ms)
  record-follows t next old ms labelled numbers ordered new_ordered follow None differ = leaf-follows old (dict tt ms) differ
  record-follows t next old ms labelled numbers ordered new_ordered follow (Some (Array u)) differ = leaf-follows old (dict tt ms) differ
  record-follows t next old ms labelled numbers ordered new_ordered follow (Some (Map u)) differ = keyed-follows (Map u) t next old ms (λ P h. h) labelled numbers ordered new_ordered follow
  record-follows t next old ms labelled numbers ordered new_ordered follow (Some (Model m)) differ = keyed-follows (Model m) t next old ms (λ P h. h) labelled numbers ordered new_ordered follow

  mutual
    pub follows : (v : Value) → Follows typing suited v
    follows null t next old labelled numbers ordered new_ordered = scalar-follows old null (λ ps. refl) (λ ms. refl)
    follows (boolean b) t next old labelled numbers ordered new_ordered = scalar-follows old (boolean b) (λ ps. refl) (λ ms. refl)
    follows (integer z) t next old labelled numbers ordered new_ordered = scalar-follows old (integer z) (λ ps. refl) (λ ms. refl)
    follows (text s) t next old labelled numbers ordered new_ordered = scalar-follows old (text s) (λ ps. refl) (λ ms. refl)
    follows (list a ps) t next old labelled numbers ordered new_ordered =
        unless-follows next old (list a ps) (array_template rules (typing.kind_of t (list a ps)) (Some old) ps (item_templates rules ps)) _
        (λ differ. array-follows t next old ps labelled numbers ordered new_ordered (follow-items ps) (typing.kind_of t (list a ps)) differ
        ∙ ap (λ o. array_patches typing (typing.kind_of t (list a ps)) o (list a ps) (new_items typing ps)) (seen-typed typing t old labelled))
    follows (dict a ms) t next old labelled numbers ordered new_ordered =
        unless-follows next old (dict a ms) (record_template rules (typing.kind_of t (dict a ms)) (Some old) ms (field_templates rules ms)) _
        (λ differ. record-follows t next old ms labelled numbers ordered new_ordered (follow-fields ms) (typing.kind_of t (dict a ms)) differ
        ∙ ap (λ o. record_patches typing (typing.kind_of t (dict a ms)) o (dict a ms) (new_fields typing ms)) (seen-typed typing t old labelled))

    follow-items : (ps : Items) → FollowItems typing suited ps
    follow-items no_parts = tt
    follow-items (part v ps) = (follows v, follow-items ps)

    follow-fields : (ms : Fields) → FollowFields typing suited ms
    follow-fields no_members = tt
    follow-fields (member k v ms) = (follows v, follow-fields ms)

  pub by-rules : (s : Setting) → IsLabelledBy typing s.type s.old → AreNumbered s.next s.old → IsOrdered (bare s.old) → IsOrdered s.new
      → map patch_of (reconciled (by_first typing) s).edits ≡ patches_by_rules typing s.type (bare s.old) s.new
  by-rules s labelled numbers ordered new_ordered = follows s.new s.type s.next s.old labelled numbers ordered new_ordered

-- The templates of values that are set, and their numbering, step by step.
use Rattle.std.proofs.Common.{◌≡◌, ℕ, suc, ◌+◌, ◌<◌, List, [], ◌∷◌, ◌++◌, length, get_or, drop, drop-cons, add-one, true, Option, Some, None, map, refl, sym, ◌∙◌, ap, subst, append_assoc, append-nil, arith}
use Rattle.snap_core.specs.Value.{Value, list, dict}
use Rattle.snap_core.specs.View.{view, items_view, fields_view}
use Rattle.snap_core.specs.declared.snap.Snap.{Snap}
use Rattle.snap_core.specs.declared.snap.Snap
use Rattle.snap_core.specs.declared.snap.Field.{Field}
use Rattle.snap_core.specs.declared.number.TypeNo.{TypeNo}
use Rattle.snap_core.proofs.Views.{view-List, view-Dict, entry-fields}
use Rattle.type_table.specs.Table.{Table}
use Rattle.edit_core.specs.declared.kind.Kind.{Kind}
use Rattle.edit_core.specs.declared.kind.Kind.TheVariants.{Model, Array, Map}
use Rattle.edit_core.specs.Labelled as edits
use Rattle.edit_core.specs.Labelled.{Branches, Entries, Entry, leaf, many, keyed, branches, entries, items_in, entries_in, no_branches, branch, no_entries, entry}
use Rattle.edit_core.specs.Typing.{Rules}
use Rattle.std.proofs.lemmas.List.{map-append}
use Rattle.edit_core.specs.Comparing.{is_equal}
use Rattle.edit_core.specs.Matching.{first_matching}
use Rattle.edit_core.specs.Template.{NewLabel, Template, kept, standing, label_for, items_under, entries_under, entry_at, first_in, array_template, record_template, template, item_templates, field_templates, numbered, numbered_items, numbered_entries, new_count, new_count_items, new_count_entries, drawn, draws, values_in}
use Rattle.edit_core.proofs.Equal.{equal-is}
use Rattle.edit_core.proofs.Unchanged.{numbered-kept, count-kept, template-equal}
use Rattle.edit_core.proofs.Logged.{items-in, entries-in}
use Rattle.node_core.specs.declared.labelled.Label.{Label}
use Rattle.node_core.specs.declared.labelled.Labelled.{Labelled}
use Rattle.node_core.specs.declared.labelled.Labelled
use Rattle.node_core.specs.declared.labelled.LabelledField.{LabelledField}
use Rattle.node_core.specs.View.{label, labelled, plain, items, fields, field}
use Rattle.node_core.proofs.Views.{labelled-Array, labelled-Record, labelled-Leaf, field-is}
use Rattle.reconcile_core.specs.RealTypes.{typing_of}
use Rattle.reconcile_core.specs.Labelling.{rules_of, template_of, changed_template, array_of, record_of, array_type, record_kind}
use Rattle.reconcile_core.proofs.Matchings.{rest-drop}

-- an equal value

pub kept-as-it-is : (old kept_one : Labelled) (new : Snap) → kept_one ≡ old → is_equal (plain old) (view new) ≡ true → (table : Table) (t next : ℕ)
    → (labelled kept_one ≡ numbered next (template_of table t (Some (labelled old)) (view new))) × (new_count (template_of table t (Some (labelled old)) (view new)) ≡ 0)
kept-as-it-is old kept_one new same equal table t next =
    let P : Value → Type 0 = λ v. template_of table t (Some (labelled old)) v ≡ kept (labelled old) in
    let told : template_of table t (Some (labelled old)) (view new) ≡ kept (labelled old) = subst P (equal-is (plain old) (view new) equal) (template-equal (rules_of table) t (labelled old)) in
    (ap labelled same ∙ sym (ap (numbered next) told ∙ numbered-kept next (labelled old)), ap new_count told ∙ count-kept (labelled old))

-- what stays

pub array-stays : (l : Label) (xs : List Labelled) → items xs ≡ items_under (Some (labelled (Labelled.Array l xs)))
array-stays l xs = rw (labelled-Array l xs) (sym (items-in (items xs)))

pub record-stays : (l : Label) (fs : List LabelledField) → fields fs ≡ entries_under (Some (labelled (Labelled.Record l fs)))
record-stays l fs = rw (labelled-Record l fs) (sym (entries-in (fields fs)))

-- by the value and its kind

pub array-chosen : (table : Table) (t : ℕ) (old : Option edits.Labelled) (vs : List Snap) (u : TypeNo) → array_type ((typing_of table).kind_of t (view (Snap.List vs))) ≡ Some u
    → changed_template table t old (view (Snap.List vs)) ≡ array_of table u (standing (typing_of table) (Array u) old (view (Snap.List vs))) (items_view vs)
array-chosen table t old vs u is =
    let P : Value → Type 0 = λ v. array_type ((typing_of table).kind_of t v) ≡ Some u → changed_template table t old v ≡ array_of table u (standing (typing_of table) (Array u) old v) (items_view vs) in
    subst P (sym (view-List vs)) (go ((typing_of table).kind_of t (list tt (items_view vs)))) is where
      go : (k : Option Kind) → array_type k ≡ Some u
          → array_template (rules_of table) k old (items_view vs) (item_templates (rules_of table) (items_view vs)) ≡ array_of table u (standing (typing_of table) (Array u) old (list tt (items_view vs))) (items_view vs)
      go (Some (Array w)) h = let e : w ≡ u = cc in ap (λ x. array_of table x (standing (typing_of table) (Array x) old (list tt (items_view vs))) (items_view vs)) e
      go (Some (Model m)) h = cc
      go (Some (Map w)) h = cc
      go None h = cc

pub array-not-chosen : (table : Table) (t : ℕ) (old : Option edits.Labelled) (vs : List Snap) → array_type ((typing_of table).kind_of t (view (Snap.List vs))) ≡ None
    → changed_template table t old (view (Snap.List vs)) ≡ leaf (view (Snap.List vs))
array-not-chosen table t old vs is =
    let P : Value → Type 0 = λ v. array_type ((typing_of table).kind_of t v) ≡ None → changed_template table t old v ≡ leaf v in
    subst P (sym (view-List vs)) (go ((typing_of table).kind_of t (list tt (items_view vs)))) is where
      go : (k : Option Kind) → array_type k ≡ None → array_template (rules_of table) k old (items_view vs) (item_templates (rules_of table) (items_view vs)) ≡ leaf (list tt (items_view vs))
      go (Some (Array w)) h = cc
      go (Some (Model m)) h = refl
      go (Some (Map w)) h = refl
      go None h = refl

pub record-chosen : (table : Table) (t : ℕ) (old : Option edits.Labelled) (fs : List Field) (kind : Kind) → record_kind ((typing_of table).kind_of t (view (Snap.Dict fs))) ≡ Some kind
    → changed_template table t old (view (Snap.Dict fs)) ≡ record_of table kind (standing (typing_of table) kind old (view (Snap.Dict fs))) (fields_view fs)
record-chosen table t old fs kind is =
    let P : Value → Type 0 = λ v. record_kind ((typing_of table).kind_of t v) ≡ Some kind → changed_template table t old v ≡ record_of table kind (standing (typing_of table) kind old v) (fields_view fs) in
    subst P (sym (view-Dict fs)) (go ((typing_of table).kind_of t (dict tt (fields_view fs)))) is where
      go : (k : Option Kind) → record_kind k ≡ Some kind
          → record_template (rules_of table) k old (fields_view fs) (field_templates (rules_of table) (fields_view fs)) ≡ record_of table kind (standing (typing_of table) kind old (dict tt (fields_view fs))) (fields_view fs)
      go (Some (Array w)) h = cc
      go (Some (Model m)) h = let e : Model m ≡ kind = cc in ap (λ x. record_of table x (standing (typing_of table) x old (dict tt (fields_view fs))) (fields_view fs)) e
      go (Some (Map w)) h = let e : Map w ≡ kind = cc in ap (λ x. record_of table x (standing (typing_of table) x old (dict tt (fields_view fs))) (fields_view fs)) e
      go None h = cc

pub record-not-chosen : (table : Table) (t : ℕ) (old : Option edits.Labelled) (fs : List Field) → record_kind ((typing_of table).kind_of t (view (Snap.Dict fs))) ≡ None
    → changed_template table t old (view (Snap.Dict fs)) ≡ leaf (view (Snap.Dict fs))
record-not-chosen table t old fs is =
    let P : Value → Type 0 = λ v. record_kind ((typing_of table).kind_of t v) ≡ None → changed_template table t old v ≡ leaf v in
    subst P (sym (view-Dict fs)) (go ((typing_of table).kind_of t (dict tt (fields_view fs)))) is where
      go : (k : Option Kind) → record_kind k ≡ None → record_template (rules_of table) k old (fields_view fs) (field_templates (rules_of table) (fields_view fs)) ≡ leaf (dict tt (fields_view fs))
      go (Some (Array w)) h = refl
      go (Some (Model m)) h = cc
      go (Some (Map w)) h = cc
      go None h = refl

-- item by item, and field by field

pub items-from : (r : Rules) (vs : List Snap) (u : ℕ) (slots : List (Option edits.Labelled)) (i : ℕ) (v : Snap) → v ≡ get_or vs i v → i < length vs
    → item_templates r (items_view (drop i vs)) u (drop i slots) ≡ branch (template r u (first_in (drop i slots)) (view v)) (item_templates r (items_view (drop (i + 1) vs)) u (drop (i + 1) slots))
items-from r vs u slots i v is inside = rw (add-one, drop-cons vs i v, ← is) (ap (λ rest. branch (template r u (first_in (drop i slots)) (view v)) (item_templates r (items_view (drop (suc i) vs)) u rest)) (rest-drop slots i))

pub fields-from : (r : Rules) (fs : List Field) (kind : Kind) (olds : List Entry) (i : ℕ) (f : Field) → f ≡ get_or fs i f → i < length fs
    → field_templates r (fields_view (drop i fs)) kind olds ≡ entry f.key (template r (r.typing.type_under kind f.key) (entry_at f.key olds) (view f.value)) (field_templates r (fields_view (drop (i + 1) fs)) kind olds)
fields-from r fs kind olds i f is inside = rw (add-one, drop-cons fs i f, ← is, entry-fields f) refl

branches-items : (bs : Branches edits.Label) → branches (items_in bs) ≡ bs
branches-items no_branches = refl
branches-items (branch x bs) = ap (branch x) (branches-items bs)

entries-fields : (es : Entries edits.Label) → entries (entries_in es) ≡ es
entries-fields no_entries = refl
entries-fields (entry k x es) = ap (entry k x) (entries-fields es)

-- an item more, and a field more

-- what is labelled so far, and what is left, with the numbers that are left for it
pub record ItemsSoFar (made : List edits.Labelled) (next start : ℕ) (left all : Branches NewLabel) : Type 0 where
  pub told : made ++ items_in (numbered_items next left) ≡ items_in (numbered_items start all)
  pub count : next + new_count_items left ≡ start + new_count_items all

pub item-more : (made made2 : List edits.Labelled) (one : edits.Labelled) (next next2 start : ℕ) (this : Template) (left rest all : Branches NewLabel) → ItemsSoFar made next start left all → left ≡ branch this rest
    → one ≡ numbered next this → next2 ≡ next + new_count this → made2 ≡ made ++ one ∷ [] → ItemsSoFar made2 next2 start rest all
item-more made made2 one next next2 start this left rest all so is e1 e2 e3 =
    let told = so.told in let count = so.count in
    let told2 : made ++ items_in (numbered_items next (branch this rest)) ≡ items_in (numbered_items start all) = ap (λ bs. made ++ items_in (numbered_items next bs)) (sym is) ∙ told in
    let count2 : next + new_count_items (branch this rest) ≡ start + new_count_items all = ap (λ bs. next + new_count_items bs) (sym is) ∙ count in
    record {
      told = rw (e3, e1, e2) (append_assoc made (numbered next this ∷ []) (items_in (numbered_items (next + new_count this) rest)) ∙ told2);
      count = rw e2 (omega (arith, count2));
    }

pub items-done : (made : List edits.Labelled) (next start : ℕ) (left all : Branches NewLabel) → ItemsSoFar made next start left all → left ≡ no_branches → (branches made ≡ numbered_items start all) × (next ≡ start + new_count_items all)
items-done made next start left all so none =
    let told : made ++ [] ≡ items_in (numbered_items start all) = ap (λ bs. made ++ items_in (numbered_items next bs)) (sym none) ∙ so.told in
    let count : next + 0 ≡ start + new_count_items all = ap (λ bs. next + new_count_items bs) (sym none) ∙ so.count in
    (ap branches (sym (append-nil made) ∙ told) ∙ branches-items (numbered_items start all), omega (arith, count))

pub record FieldsSoFar (made : List Entry) (next start : ℕ) (left all : Entries NewLabel) : Type 0 where
  pub told : made ++ entries_in (numbered_entries next left) ≡ entries_in (numbered_entries start all)
  pub count : next + new_count_entries left ≡ start + new_count_entries all

pub field-more : (made made2 : List Entry) (key : List ℕ) (one : edits.Labelled) (next next2 start : ℕ) (this : Template) (left rest all : Entries NewLabel) → FieldsSoFar made next start left all → left ≡ entry key this rest
    → one ≡ numbered next this → next2 ≡ next + new_count this → made2 ≡ made ++ (key, one) ∷ [] → FieldsSoFar made2 next2 start rest all
field-more made made2 key one next next2 start this left rest all so is e1 e2 e3 =
    let told = so.told in let count = so.count in
    let told2 : made ++ entries_in (numbered_entries next (entry key this rest)) ≡ entries_in (numbered_entries start all) = ap (λ bs. made ++ entries_in (numbered_entries next bs)) (sym is) ∙ told in
    let count2 : next + new_count_entries (entry key this rest) ≡ start + new_count_entries all = ap (λ bs. next + new_count_entries bs) (sym is) ∙ count in
    record {
      told = rw (e3, e1, e2) (append_assoc made ((key, numbered next this) ∷ []) (entries_in (numbered_entries (next + new_count this) rest)) ∙ told2);
      count = rw e2 (omega (arith, count2));
    }

pub fields-done : (made : List Entry) (next start : ℕ) (left all : Entries NewLabel) → FieldsSoFar made next start left all → left ≡ no_entries → (entries made ≡ numbered_entries start all) × (next ≡ start + new_count_entries all)
fields-done made next start left all so none =
    let told : made ++ [] ≡ entries_in (numbered_entries start all) = ap (λ bs. made ++ entries_in (numbered_entries next bs)) (sym none) ∙ so.told in
    let count : next + 0 ≡ start + new_count_entries all = ap (λ bs. next + new_count_entries bs) (sym none) ∙ so.count in
    (ap entries (sym (append-nil made) ∙ told) ∙ entries-fields (numbered_entries start all), omega (arith, count))

-- the values of a list

values-are : (vs : List Snap) → values_in (items_view vs) ≡ map view vs
values-are [] = refl
values-are (v ∷ vs) = ap (λ ws. view v ∷ ws) (values-are vs)

pub items-push : (xs : List Labelled) (x : Labelled) → items (xs ++ x ∷ []) ≡ items xs ++ labelled x ∷ []
items-push xs x = map-append labelled xs (x ∷ [])

pub fields-push : (fs : List LabelledField) (f : LabelledField) → fields (fs ++ f ∷ []) ≡ fields fs ++ (f.key, labelled f.value) ∷ []
fields-push fs f = map-append field fs (f ∷ []) ∙ ap (λ e. fields fs ++ e ∷ []) (field-is f)

-- which template it is

pub array-told : (table : Table) (t : ℕ) (old stays : Option edits.Labelled) (new : Snap) (news slice : List Snap) (u : TypeNo) → new ≡ Snap.List news → array_type ((typing_of table).kind_of t (view new)) ≡ Some u
    → template_of table t old (view new) ≡ changed_template table t old (view new) → stays ≡ standing (typing_of table) (Array u) old (view new) → slice ≡ news
    → array_of table u stays (items_view slice) ≡ template_of table t old (view new)
array-told table t old stays new news slice u is kind changed stands same =
    let Q : Snap → Type 0 = λ s. array_type ((typing_of table).kind_of t (view s)) ≡ Some u → changed_template table t old (view s) ≡ array_of table u (standing (typing_of table) (Array u) old (view s)) (items_view news) in
    ap (λ x. array_of table u x (items_view slice)) stands ∙ ap (λ xs. array_of table u (standing (typing_of table) (Array u) old (view new)) (items_view xs)) same
    ∙ sym (subst Q (sym is) (array-chosen table t old news u) kind) ∙ sym changed

pub array-leaf : (table : Table) (t : ℕ) (old : Option edits.Labelled) (new : Snap) (news : List Snap) → new ≡ Snap.List news → array_type ((typing_of table).kind_of t (view new)) ≡ None
    → template_of table t old (view new) ≡ changed_template table t old (view new) → leaf (view new) ≡ template_of table t old (view new)
array-leaf table t old new news is kind changed =
    let Q : Snap → Type 0 = λ s. array_type ((typing_of table).kind_of t (view s)) ≡ None → changed_template table t old (view s) ≡ leaf (view s) in
    sym (subst Q (sym is) (array-not-chosen table t old news) kind) ∙ sym changed

pub record-told : (table : Table) (t : ℕ) (old stays : Option edits.Labelled) (new : Snap) (news slice : List Field) (kind : Kind) → new ≡ Snap.Dict news → record_kind ((typing_of table).kind_of t (view new)) ≡ Some kind
    → template_of table t old (view new) ≡ changed_template table t old (view new) → stays ≡ standing (typing_of table) kind old (view new) → slice ≡ news
    → record_of table kind stays (fields_view slice) ≡ template_of table t old (view new)
record-told table t old stays new news slice kind is told changed stands same =
    let Q : Snap → Type 0 = λ s. record_kind ((typing_of table).kind_of t (view s)) ≡ Some kind → changed_template table t old (view s) ≡ record_of table kind (standing (typing_of table) kind old (view s)) (fields_view news) in
    ap (λ x. record_of table kind x (fields_view slice)) stands ∙ ap (λ xs. record_of table kind (standing (typing_of table) kind old (view new)) (fields_view xs)) same
    ∙ sym (subst Q (sym is) (record-chosen table t old news kind) told) ∙ sym changed

pub record-leaf : (table : Table) (t : ℕ) (old : Option edits.Labelled) (new : Snap) (news : List Field) → new ≡ Snap.Dict news → record_kind ((typing_of table).kind_of t (view new)) ≡ None
    → template_of table t old (view new) ≡ changed_template table t old (view new) → leaf (view new) ≡ template_of table t old (view new)
record-leaf table t old new news is kind changed =
    let Q : Snap → Type 0 = λ s. record_kind ((typing_of table).kind_of t (view s)) ≡ None → changed_template table t old (view s) ≡ leaf (view s) in
    sym (subst Q (sym is) (record-not-chosen table t old news) kind) ∙ sym changed

pub leaf-value : (new copy : Snap) (next : ℕ) (this : Template) → copy ≡ new → leaf (view new) ≡ this → labelled (Labelled.Leaf copy) ≡ numbered next this
leaf-value new copy next this same told = ap (λ v. labelled (Labelled.Leaf v)) same ∙ labelled-Leaf new ∙ ap (numbered next) told

pub leaf-next : (new : Snap) (next : ℕ) (this : Template) → leaf (view new) ≡ this → next ≡ next + new_count this
leaf-next new next this told = let none : 0 ≡ new_count this = ap new_count told in omega arith

-- all items, and all fields

pub array-done : (table : Table) (u : TypeNo) (stays : Option edits.Labelled) (news : List Snap) (l : Label) (parts : List Labelled) (n0 start next : ℕ) (olds : List edits.Labelled) (slots : List (Option edits.Labelled)) (left : Branches NewLabel)
    → label l ≡ drawn n0 (label_for (Array u) stays) → start ≡ n0 + draws (label_for (Array u) stays) → olds ≡ items_under stays → slots ≡ first_matching (typing_of table) u.0 olds (map view news)
    → ItemsSoFar (items parts) next start left (item_templates (rules_of table) (items_view news) u.0 slots) → left ≡ no_branches
    → (labelled (Labelled.Array l parts) ≡ numbered n0 (array_of table u stays (items_view news))) × (next ≡ n0 + new_count (array_of table u stays (items_view news)))
array-done table u stays news l parts n0 start next olds slots left e1 e2 e3 e4 so none =
    let done = items-done (items parts) next start left (item_templates (rules_of table) (items_view news) u.0 slots) so none in
    let matched : slots ≡ first_matching (typing_of table) u.0 (items_under stays) (values_in (items_view news)) =
    e4 ∙ ap (λ xs. first_matching (typing_of table) u.0 xs (map view news)) e3 ∙ ap (first_matching (typing_of table) u.0 (items_under stays)) (sym (values-are news)) in
    let count : next ≡ start + new_count_items (item_templates (rules_of table) (items_view news) u.0 (first_matching (typing_of table) u.0 (items_under stays) (values_in (items_view news)))) =
    done.1 ∙ ap (λ ss. start + new_count_items (item_templates (rules_of table) (items_view news) u.0 ss)) matched in (
      labelled-Array l parts
          ∙ ap (λ k. many k (branches (items parts))) e1
          ∙ ap (many (drawn n0 (label_for (Array u) stays))) (done.0 ∙ ap (λ n. numbered_items n (item_templates (rules_of table) (items_view news) u.0 slots)) e2
          ∙ ap (λ ss. numbered_items (n0 + draws (label_for (Array u) stays)) (item_templates (rules_of table) (items_view news) u.0 ss)) matched),
      omega (arith, count, e2),
    )

pub record-done : (table : Table) (kind : Kind) (stays : Option edits.Labelled) (news : List Field) (l : Label) (parts : List LabelledField) (n0 start next : ℕ) (olds : List Entry) (left : Entries NewLabel)
    → label l ≡ drawn n0 (label_for kind stays) → start ≡ n0 + draws (label_for kind stays) → olds ≡ entries_under stays
    → FieldsSoFar (fields parts) next start left (field_templates (rules_of table) (fields_view news) kind olds) → left ≡ no_entries
    → (labelled (Labelled.Record l parts) ≡ numbered n0 (record_of table kind stays (fields_view news))) × (next ≡ n0 + new_count (record_of table kind stays (fields_view news)))
record-done table kind stays news l parts n0 start next olds left e1 e2 e3 so none =
    let done = fields-done (fields parts) next start left (field_templates (rules_of table) (fields_view news) kind olds) so none in
    let count : next ≡ start + new_count_entries (field_templates (rules_of table) (fields_view news) kind (entries_under stays)) =
    done.1 ∙ ap (λ xs. start + new_count_entries (field_templates (rules_of table) (fields_view news) kind xs)) e3 in (
      labelled-Record l parts
          ∙ ap (λ k. keyed k (entries (fields parts))) e1
          ∙ ap (keyed (drawn n0 (label_for kind stays))) (done.0 ∙ ap (λ n. numbered_entries n (field_templates (rules_of table) (fields_view news) kind olds)) e2
          ∙ ap (λ xs. numbered_entries (n0 + draws (label_for kind stays)) (field_templates (rules_of table) (fields_view news) kind xs)) e3),
      omega (arith, count, e2),
    )

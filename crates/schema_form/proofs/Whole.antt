-- What is laid for a type expression without faults names what is there.
use Rattle.std.proofs.Common.{◌≡◌, ◌≤◌, ℕ, ◌+◌, ◌<◌, List, [], ◌∷◌, ◌++◌, length, decimal, false, is_some, Option, Some, None, All, codes, option_map, if◌then◌else◌, refl, sym, ◌∙◌, ap, subst, arith, length-append}
use Rattle.std.proofs.lemmas.List.{append-nil}
use Rattle.std.proofs.lemmas.List.Elements.{All-nil, All-cons}
use Rattle.snap_core.specs.Value.{Value, null, boolean, integer, text, list, dict, no_parts, part, no_members, member, IsPlain, IsOrdered, AreOrdered, Items, Fields}
use Rattle.snap_core.specs.View.{view}
use Rattle.snap_core.specs.Unview.{snap_of}
use Rattle.snap_core.specs.declared.number.TypeNo.{TypeNo}
use Rattle.pointer_core.specs.declared.schema_rule.SchemaRule.TheVariants.{Shape, Name}
use Rattle.schema_form.specs.declared.form.SchemaForm.{SchemaForm}
use Rattle.schema_form.specs.declared.form.EntryNo.{EntryNo}
use Rattle.schema_form.specs.declared.form.Expression.{Expression}
use Rattle.schema_form.specs.declared.form.Plain.{Plain}
use Rattle.schema_form.specs.declared.form.Place.{Place}
use Rattle.schema_form.specs.declared.form.Place.TheVariants as place
use Rattle.schema_form.specs.declared.form.Step.TheVariants as step
use Rattle.schema_form.specs.declared.form.Kind.{Kind}
use Rattle.schema_form.specs.declared.form.Kind.TheVariants as kind
use Rattle.schema_form.specs.declared.form.Word.{Word}
use Rattle.schema_form.specs.declared.form.Word.TheVariants as word
use Rattle.schema_form.specs.declared.words.Form.{Form}
use Rattle.schema_form.specs.declared.words.Form.TheVariants as form
use Rattle.schema_form.specs.declared.words.Leaf.{Leaf}
use Rattle.schema_form.specs.declared.words.Leaf.TheVariants as leaf
use Rattle.schema_form.specs.Words.{plain_of, form_of}
use Rattle.schema_form.specs.Names.{has_key, entry_of, plain_or, word_of, word_in, base_of, refinable}
use Rattle.schema_form.specs.Faults.{here, unless, under, number_faults, word_faults, base_faults, base_in, conditions_faults, refinement_faults, literal_faults, name_faults, numbered, leaf_faults, form_faults, keyed_faults, type_faults, item_faults, parts_faults}
use Rattle.schema_form.specs.Layout.{Layout, type_no, said, word_kind, entry_named, leaf_kind, conditions_of, members_laid, member_numbers, form_laid, keyed_laid, type_laid, items_laid, parts_laid_of}
use Rattle.schema_form.specs.Pointers.{IsPlaceAmong}
use Rattle.schema_form.specs.Form.{IsKindIn}
use Rattle.schema_form.proofs.NoFaults.{append_none, under_none, here_some}
use Rattle.schema_form.proofs.PlainValues.{IsPlain-snap_of}
use Rattle.schema_form.proofs.Naming.{is_some-entry_from}

-- each expression meets P with its number, the first of which is given
abbrev pub AllFrom : (ℕ → Expression → Type 0) → ℕ → List Expression → Type 0
AllFrom P n [] = Unit {0}
AllFrom P n (x ∷ xs) = P n x × AllFrom P (n + 1) xs

pub AllFrom-append : (P : ℕ → Expression → Type 0) (n m : ℕ) (xs ys : List Expression) → m ≡ n + length xs → AllFrom P n xs → AllFrom P m ys → AllFrom P n (xs ++ ys)
AllFrom-append P n m [] ys e h k = let Q : ℕ → Type 0 = λ j. AllFrom P j ys in let same : m ≡ n = omega (arith, e) in subst Q same k
AllFrom-append P n m (x ∷ xs) ys e h k = (h.0, AllFrom-append P (n + 1) m xs ys (omega (arith, e)) h.1 k)

-- a known word stands for something
pub word-known : (types : Fields) (s : List ℕ) (plain : Option Plain) (entry : Option EntryNo) → plain_of s ≡ plain → entry_of types s ≡ entry → word_faults types s ≡ [] → (w : Word) × (plain_or plain entry ≡ Some w)
word-known types s (Some p) entry is at none = (word.Plain p, refl)
word-known types s None (Some e) is at none = (word.Named e, refl)
word-known types s None None is at none =
    let unknown : has_key s types ≡ false = sym (is_some-entry_from s 0 types) ∙ ap is_some at in
    let faults : word_faults types s ≡ here Name =
    ap (λ (o : Option Plain). if is_some o then [] else unless (has_key s types) Name) is ∙ ap (λ b. unless b Name) unknown in
    absurd (here_some Name (sym faults ∙ none))

-- the entry that a text without a fault names
pub entry-known : (types : Fields) (v : Value) → name_faults types v ≡ [] → (e : EntryNo) × (entry_named types v ≡ Some e)
entry-known types (text s) none = go (entry_of types s) refl where
  go : (entry : Option EntryNo) → entry_of types s ≡ entry → (e : EntryNo) × (entry_of types s ≡ Some e)
  go (Some e) at = (e, at)
  go None at =
      let unknown : has_key s types ≡ false = sym (is_some-entry_from s 0 types) ∙ ap is_some at in
      let faults : name_faults types (text s) ≡ here Name = ap (λ b. unless b Name) unknown in
      absurd (here_some Name (sym faults ∙ none))
entry-known types null none = absurd (here_some Shape none)
entry-known types (boolean b) none = absurd (here_some Shape none)
entry-known types (integer z) none = absurd (here_some Shape none)
entry-known types (list a ps) none = absurd (here_some Shape none)
entry-known types (dict a ms) none = absurd (here_some Shape none)

module _ (f : SchemaForm) (types : Fields) (known : (s : List ℕ) (e : EntryNo) → entry_of types s ≡ Some e → e.0 < length f.entries) where
  -- an expression of number n names what is there
  abbrev pub IsGood : ℕ → Expression → Type 0
  IsGood n e = IsKindIn f e.kind × IsPlaceAmong f.entries f.models n e.place

  -- a layout has something, and all that it has is good where it stands well and ends in time
  pub record IsFine (l : Layout) : Type 0 where
    pub some : (n : ℕ) (at : Place) → 0 < length (l n at)
    pub good : (n : ℕ) (at : Place) → IsPlaceAmong f.entries f.models n at → n + length (l n at) ≤ length f.expressions → AllFrom IsGood n (l n at)

  word-in : (s : List ℕ) (w : Word) → word_of types s ≡ Some w → IsKindIn f (kind.Word w)
  word-in s (word.Plain p) is = tt
  word-in s (word.Named e) is = known s e (named (plain_of s) (entry_of types s) is) where
    named : (plain : Option Plain) (entry : Option EntryNo) → plain_or plain entry ≡ Some (word.Named e) → entry ≡ Some e
    named (Some p) entry h = absurd cc
    named None (Some d) h = cc
    named None None h = absurd cc

  entry-in : (v : Value) (e : EntryNo) → entry_named types v ≡ Some e → e.0 < length f.entries
  entry-in (text s) e is = known s e is
  entry-in null e is = absurd cc
  entry-in (boolean b) e is = absurd cc
  entry-in (integer z) e is = absurd cc
  entry-in (list a ps) e is = absurd cc
  entry-in (dict a ms) e is = absurd cc

  -- one expression alone
  alone : (o : ℕ → Option Kind) → ((n : ℕ) → (k : Kind) × (o n ≡ Some k) × IsKindIn f k) → IsFine (λ n at. said at (o n))
  alone o h = record {
    some = λ n at. let P : Option Kind → Type 0 = λ x. 0 < length (said at x) in subst P (sym (h n).1) (omega arith);
    good = λ n at stands ends. let P : Option Kind → Type 0 = λ x. AllFrom IsGood n (said at x) in subst P (sym (h n).1) (((h n).2, stands), tt);
  }

  fine-word : (s : List ℕ) → word_faults types s ≡ [] → IsFine (type_laid types (text s))
  fine-word s none =
      let w = word-known types s (plain_of s) (entry_of types s) refl refl none in
      alone (λ n. word_kind types s) (λ n. (kind.Word w.0, ap (option_map kind.Word) w.1, word-in s w.0 w.1))

  -- what is laid with nothing behind it
  bare : (l : Layout) (o : ℕ → Option Kind) → ((n : ℕ) (at : Place) → l n at ≡ said at (o n)) → IsFine (λ n at. said at (o n)) → IsFine l
  bare l o same fine = record {
    some = λ n at. let P : List Expression → Type 0 = λ xs. 0 < length xs in subst P (sym (same n at)) (fine.some n at);
    good = λ n at stands ends.
        let P : List Expression → Type 0 = AllFrom IsGood n in
        subst P (sym (same n at)) (fine.good n at stands (omega (arith, ends, ap length (same n at))));
  }

  -- an expression, and then a part of it
  around : (o : ℕ → Kind) (inner : Layout) (at' : ℕ → Place) → IsFine inner
      → ((n : ℕ) → n + 1 < length f.expressions → IsKindIn f (o n)) → ((n : ℕ) → IsPlaceAmong f.entries f.models (n + 1) (at' n))
      → IsFine (λ n at. record { place = at; kind = o n } ∷ inner (n + 1) (at' n))
  around o inner at' fine is stands' = record {
    some = λ n at. omega arith;
    good = λ n at stands ends.
        let more : 0 < length (inner (n + 1) (at' n)) = fine.some (n + 1) (at' n) in
        ((is n (omega (arith, ends, more)), stands), fine.good (n + 1) (at' n) (stands' n) (omega (arith, ends)));
  }

  -- the base of a refinement
  base-known : (t : Value) → base_faults types t ≡ [] → (w : Word) × (word_in types t ≡ Some w) × IsKindIn f (kind.Word w)
  base-known (text s) none =
      let w = word-known types s (plain_of s) (entry_of types s) refl refl (append_none (word_faults types s) (unless (is_some (refinable (base_of types s))) Shape) none).0 in
      (w.0, w.1, word-in s w.0 w.1)
  base-known null none = absurd (here_some Shape none)
  base-known (boolean b) none = absurd (here_some Shape none)
  base-known (integer z) none = absurd (here_some Shape none)
  base-known (list a ps) none = absurd (here_some Shape none)
  base-known (dict a ms) none = absurd (here_some Shape none)

  IsPlain-literal : (v : Value) → IsOrdered v → literal_faults v ≡ [] → IsPlain (view (snap_of v))
  IsPlain-literal null ordered none = IsPlain-snap_of null ordered none
  IsPlain-literal (boolean b) ordered none = IsPlain-snap_of (boolean b) ordered none
  IsPlain-literal (integer z) ordered none = IsPlain-snap_of (integer z) ordered none
  IsPlain-literal (text s) ordered none = IsPlain-snap_of (text s) ordered none
  IsPlain-literal (list a ps) ordered none = absurd (here_some Shape none)
  IsPlain-literal (dict a ms) ordered none = absurd (here_some Shape none)

  fine-refined : (t cs : Value) → refinement_faults types (list tt (part t (part cs no_parts))) ≡ []
      → IsFine (λ n at. record { place = at; kind = kind.Refinement (type_no (n + 1)) (conditions_of (base_in types t) cs) } ∷ said (place.Part (type_no n) step.Refined) (option_map kind.Word (word_in types t)))
  fine-refined t cs none =
      let first : base_faults types t ≡ [] = under_none (codes "0") (base_faults types t)
      (append_none (under (codes "0") (base_faults types t)) (under (codes "1") (conditions_faults (base_in types t) cs)) none).0 in
      let w = base-known t first in
      around (λ n. kind.Refinement (type_no (n + 1)) (conditions_of (base_in types t) cs)) (λ n at. said at (option_map kind.Word (word_in types t)))
      (λ n. place.Part (type_no n) step.Refined)
      (alone (λ n. option_map kind.Word (word_in types t)) (λ n. (kind.Word w.0, ap (option_map kind.Word) w.1, w.2)))
      (λ n within. within) (λ n. omega arith)

  fine-leaf : (l : Leaf) (v : Value) (inner : Layout) (items : List Layout) → IsOrdered v → leaf_faults types l v ≡ [] → IsFine (form_laid types (form.Leaf l) v inner items)
  fine-leaf leaf.Literal v inner items ordered none =
      bare (form_laid types (form.Leaf leaf.Literal) v inner items) (λ n. Some (kind.Literal (snap_of v))) (λ n at. refl)
      (alone (λ n. Some (kind.Literal (snap_of v))) (λ n. (kind.Literal (snap_of v), refl, IsPlain-literal v ordered none)))
  fine-leaf leaf.Enumeration v inner items ordered none =
      bare (form_laid types (form.Leaf leaf.Enumeration) v inner items) (λ n. leaf_kind types leaf.Enumeration v (type_no (n + 1))) (λ n at. refl)
      (alone (λ n. leaf_kind types leaf.Enumeration v (type_no (n + 1))) (λ n. (_, refl, tt)))
  fine-leaf leaf.Reference v inner items ordered none =
      let e = entry-known types v none in
      bare (form_laid types (form.Leaf leaf.Reference) v inner items) (λ n. option_map kind.Reference (entry_named types v)) (λ n at. append-nil _)
      (alone (λ n. option_map kind.Reference (entry_named types v)) (λ n. (kind.Reference e.0, ap (option_map kind.Reference) e.1, entry-in v e.0 e.1)))
  fine-leaf leaf.SafeReference v inner items ordered none =
      let e = entry-known types v none in
      bare (form_laid types (form.Leaf leaf.SafeReference) v inner items) (λ n. option_map kind.SafeReference (entry_named types v)) (λ n at. append-nil _)
      (alone (λ n. option_map kind.SafeReference (entry_named types v)) (λ n. (kind.SafeReference e.0, ap (option_map kind.SafeReference) e.1, entry-in v e.0 e.1)))
  fine-leaf leaf.Refinement (list a (part t (part cs no_parts))) inner items ordered none = fine-refined t cs none
  fine-leaf leaf.Refinement (list a (part t (part cs (part x ps)))) inner items ordered none = absurd (here_some Shape none)
  fine-leaf leaf.Refinement (list a (part t no_parts)) inner items ordered none = absurd (here_some Shape none)
  fine-leaf leaf.Refinement (list a no_parts) inner items ordered none = absurd (here_some Shape none)
  fine-leaf leaf.Refinement null inner items ordered none = absurd (here_some Shape none)
  fine-leaf leaf.Refinement (boolean b) inner items ordered none = absurd (here_some Shape none)
  fine-leaf leaf.Refinement (integer z) inner items ordered none = absurd (here_some Shape none)
  fine-leaf leaf.Refinement (text s) inner items ordered none = absurd (here_some Shape none)
  fine-leaf leaf.Refinement (dict a ms) inner items ordered none = absurd (here_some Shape none)

  -- layouts that are all fine
  abbrev pub AreFine : List Layout → Type 0
  AreFine [] = Unit {0}
  AreFine (l ∷ ls) = IsFine l × AreFine ls

  fine-members : (u i : ℕ) (ls : List Layout) (n : ℕ) → AreFine ls → u < n → n + length (members_laid u i ls n) ≤ length f.expressions
      → AllFrom IsGood n (members_laid u i ls n) × All (λ (t : TypeNo). t.0 < length f.expressions) (member_numbers u i ls n)
  fine-members u i [] n fine within ends = (tt, All-nil (λ (t : TypeNo). t.0 < length f.expressions))
  fine-members u i (l ∷ ls) n fine within ends =
      let at : Place = place.Part (type_no u) (step.Member i) in
      let first : List Expression = l n at in
      let rest : List Expression = members_laid u (i + 1) ls (n + length first) in
      let long : length (first ++ rest) ≡ length first + length rest = length-append first rest in
      let more : 0 < length first = fine.0.some n at in
      let further = fine-members u (i + 1) ls (n + length first) fine.1 (omega (arith, within)) (omega (arith, ends, long)) in (
        AllFrom-append IsGood n (n + length first) first rest refl (fine.0.good n at within (omega (arith, ends, long))) further.0,
        All-cons (λ (t : TypeNo). t.0 < length f.expressions) (type_no n) (member_numbers u (i + 1) ls (n + length first)) (omega (arith, ends, long, more)) further.1,
      )

  fine-union : (v : Value) (inner : Layout) (ls : List Layout) → AreFine ls → 0 < length ls → IsFine (form_laid types form.Union v inner ls)
  fine-union v inner ls fine some = record {
    some = λ n at. omega arith;
    good = λ n at stands ends.
        let members = fine-members n 0 ls (n + 1) fine (omega arith) (omega (arith, ends)) in
        ((members.1, stands), members.0);
  }

  -- what is known of each item of a list
  abbrev Each : Items → Type 0
  Each no_parts = Unit {0}
  Each (part v ps) = (IsOrdered v → type_faults types v ≡ [] → IsFine (type_laid types v)) × Each ps

  abbrev EachIn : Value → Type 0
  EachIn (list a ps) = Each ps
  EachIn _ = Unit {0}

  each-fine : (i : ℕ) (ps : Items) → AreOrdered ps → numbered i (parts_faults types ps) ≡ [] → Each ps → AreFine (parts_laid_of types ps)
  each-fine i no_parts ordered none each = tt
  each-fine i (part v ps) ordered none each =
      let parts = append_none (under (decimal i) (type_faults types v)) (numbered (i + 1) (parts_faults types ps)) none in
      (each.0 ordered.0 (under_none (decimal i) (type_faults types v) parts.0), each-fine (i + 1) ps ordered.1 parts.1 each.1)

  fine-form : (o : Form) (v : Value) → IsOrdered v → form_faults types o v (type_faults types v) (item_faults types v) ≡ []
      → (type_faults types v ≡ [] → IsFine (type_laid types v)) → EachIn v → IsFine (form_laid types o v (type_laid types v) (items_laid types v))
  fine-form (form.Leaf l) v ordered none inner each = fine-leaf l v (type_laid types v) (items_laid types v) ordered none
  fine-form (form.Holder h) v ordered none inner each =
      around (λ n. kind.Holder h (type_no (n + 1))) (type_laid types v) (λ n. place.Part (type_no n) (step.Held h)) (inner none) (λ n within. within) (λ n. omega arith)
  fine-form form.Optional (list a (part t (part d no_parts))) ordered none inner each =
      let parts = append_none (under (codes "0") (type_faults types t)) (under (codes "1") (number_faults d)) none in
      around (λ n. kind.Optional (type_no (n + 1)) (snap_of d)) (type_laid types t) (λ n. place.Part (type_no n) step.Defaulted)
      (each.0 ordered.0 (under_none (codes "0") (type_faults types t) parts.0))
      (λ n within. (within, IsPlain-snap_of d ordered.1.0 (under_none (codes "1") (number_faults d) parts.1))) (λ n. omega arith)
  fine-form form.Union (list a (part t (part u ps))) ordered none inner each =
      fine-union (list a (part t (part u ps))) (type_laid types (list a (part t (part u ps)))) (parts_laid_of types (part t (part u ps)))
      (each-fine 0 (part t (part u ps)) ordered none each) (omega arith)
  fine-form form.Optional (list a (part t (part d (part x ps)))) ordered none inner each = absurd (here_some Shape none)
  fine-form form.Optional (list a (part t no_parts)) ordered none inner each = absurd (here_some Shape none)
  fine-form form.Optional (list a no_parts) ordered none inner each = absurd (here_some Shape none)
  fine-form form.Optional null ordered none inner each = absurd (here_some Shape none)
  fine-form form.Optional (boolean b) ordered none inner each = absurd (here_some Shape none)
  fine-form form.Optional (integer z) ordered none inner each = absurd (here_some Shape none)
  fine-form form.Optional (text s) ordered none inner each = absurd (here_some Shape none)
  fine-form form.Optional (dict a ms) ordered none inner each = absurd (here_some Shape none)
  fine-form form.Union (list a (part t no_parts)) ordered none inner each = absurd (here_some Shape none)
  fine-form form.Union (list a no_parts) ordered none inner each = absurd (here_some Shape none)
  fine-form form.Union null ordered none inner each = absurd (here_some Shape none)
  fine-form form.Union (boolean b) ordered none inner each = absurd (here_some Shape none)
  fine-form form.Union (integer z) ordered none inner each = absurd (here_some Shape none)
  fine-form form.Union (text s) ordered none inner each = absurd (here_some Shape none)
  fine-form form.Union (dict a ms) ordered none inner each = absurd (here_some Shape none)

  fine-keyed : (k : List ℕ) (o : Option Form) (v : Value) → IsOrdered v → keyed_faults types k o v (type_faults types v) (item_faults types v) ≡ []
      → (type_faults types v ≡ [] → IsFine (type_laid types v)) → EachIn v → IsFine (λ n at. keyed_laid types o v (type_laid types v) (items_laid types v) n at)
  fine-keyed k None v ordered none inner each = absurd (here_some Shape none)
  fine-keyed k (Some o) v ordered none inner each = fine-form o v ordered (under_none k (form_faults types o v (type_faults types v) (item_faults types v)) none) inner each

  mutual
    pub fine-type : (v : Value) → IsOrdered v → type_faults types v ≡ [] → IsFine (type_laid types v)
    fine-type (text s) ordered none = fine-word s none
    fine-type (dict a (member k v no_members)) ordered none = fine-keyed k (form_of k) v ordered.0 none (fine-type v ordered.0) (fine-items v)
    fine-type null ordered none = absurd (here_some Shape none)
    fine-type (boolean b) ordered none = absurd (here_some Shape none)
    fine-type (integer z) ordered none = absurd (here_some Shape none)
    fine-type (list a ps) ordered none = absurd (here_some Shape none)
    fine-type (dict a no_members) ordered none = absurd (here_some Shape none)
    fine-type (dict a (member k v (member l w ms))) ordered none = absurd (here_some Shape none)

    fine-items : (v : Value) → EachIn v
    fine-items (list a ps) = fine-parts ps
    fine-items null = tt
    fine-items (boolean b) = tt
    fine-items (integer z) = tt
    fine-items (text s) = tt
    fine-items (dict a ms) = tt

    fine-parts : (ps : Items) → Each ps
    fine-parts no_parts = tt
    fine-parts (part v ps) = (fine-type v, fine-parts ps)

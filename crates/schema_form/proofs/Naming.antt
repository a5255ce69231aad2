-- The entry that a name is found at, and whether there is one.
use Rattle.std.proofs.Common.{◌≡◌, ℕ, zero, suc, ◌+◌, ◌<◌, List, [], ◌∷◌, length, get_or, Bool, true, false, is_some, Option, Some, None, slice_get, if◌then◌else◌, refl, sym, ◌∙◌, ap, subst, arith}
use Rattle.std.specs.declared.cmp.Ordering.TheVariants.{Less}
use Rattle.std.specs.Str.{bytes_eq}
use Rattle.std.proofs.lemmas.Option.{slice_get-get_or}
use Rattle.std.proofs.lemmas.Slice.Eq.{bytes_eq-Decides}
use Rattle.snap_core.specs.Value.{Value, ComesBefore, AreKeyed, keys_of, no_members, member, value_at, Fields}
use Rattle.snap_core.specs.declared.snap.Field.{Field}
use Rattle.snap_core.specs.View.{view, fields_view}
use Rattle.snap_core.proofs.Views.{entry-fields}
use Rattle.snap_core.proofs.Finding.{key_cmp, below_all, bytes_eq-Less}
use Rattle.schema_form.specs.declared.form.EntryNo.{EntryNo}
use Rattle.pointer_core.specs.declared.schema_rule.SchemaRule.{SchemaRule}
use Rattle.pointer_core.specs.declared.schema_rule.SchemaRule.TheVariants.{Name}
use Rattle.schema_form.specs.declared.form.Plain.{Plain}
use Rattle.schema_form.specs.declared.form.Word.{Word}
use Rattle.schema_form.specs.Words.{plain_of}
use Rattle.schema_form.specs.Faults.{here, unless, word_faults}
use Rattle.schema_form.specs.Names.{has_key, entry_from, entry_of, plain_or, word_of}
use Rattle.schema_form.specs.Bases.{value_of}

same_bytes : (xs ys : List ℕ) → xs ≡ ys → bytes_eq xs ys ≡ true
same_bytes xs ys e = (bytes_eq-Decides xs ys).1 e

-- the field with the key is the first one
pub entry_from-at : (key : List ℕ) (n : ℕ) (fs : List Field) (at : ℕ) → AreKeyed (fields_view fs) → at < length fs
    → ((f : Field) → slice_get fs at ≡ Some f → f.key ≡ key) → entry_from n (fields_view fs) key ≡ Some (record { 0 = n + at })
entry_from-at key n [] at keyed within same = absurd (omega arith)
entry_from-at key n (f ∷ fs) zero keyed within same =
    let P : List ℕ × Value → Type 0 = λ e. bytes_eq key e.0 ≡ true in
    let number : ℕ → Option EntryNo = λ k. Some (record { 0 = k }) in
    let R : Bool → Type 0 = λ b. (if b then Some (record { 0 = n }) else entry_from (n + 1) (fields_view fs) key) ≡ Some (record { 0 = n + 0 }) in
    let last : n ≡ n + 0 = omega arith in
    subst R (sym (subst P (sym (entry-fields f)) (same_bytes key f.key (sym (same f refl))))) (ap number last)
entry_from-at key n (f ∷ fs) (suc at) keyed within same =
    let P : List ℕ × Value → Type 0 = λ e. bytes_eq key e.0 ≡ false in
    let Q : List ℕ × Value → Type 0 = λ e. ComesBefore e.0 (keys_of (fields_view fs)) in
    let found : (get_or fs at f).key ≡ key = same (get_or fs at f) (slice_get-get_or fs at f (omega arith)) in
    let here : key_cmp f.key (get_or fs at f).key ≡ Less = below_all f.key fs at f (subst Q (entry-fields f) keyed.0) keyed.1 (omega arith) in
    let less : key_cmp f.key key ≡ Less = ap (key_cmp f.key) (sym found) ∙ here in
    let number : ℕ → Option EntryNo = λ k. Some (record { 0 = k }) in
    let R : Bool → Type 0 = λ b. (if b then Some (record { 0 = n }) else entry_from (n + 1) (fields_view fs) key) ≡ Some (record { 0 = n + suc at }) in
    let next : n + 1 + at ≡ n + suc at = omega arith in
    subst R (sym (subst P (sym (entry-fields f)) (bytes_eq-Less key f.key less)))
    (entry_from-at key (n + 1) fs at keyed.1 (omega arith) same ∙ ap number next)

pub entry_of-at : (key : List ℕ) (fs : List Field) (at : ℕ) → AreKeyed (fields_view fs) → at < length fs
    → ((f : Field) → slice_get fs at ≡ Some f → f.key ≡ key) → entry_of (fields_view fs) key ≡ Some (record { 0 = at })
entry_of-at key fs at keyed within same =
    let number : ℕ → Option EntryNo = λ k. Some (record { 0 = k }) in
    let first : 0 + at ≡ at = omega arith in
    entry_from-at key 0 fs at keyed within same ∙ ap number first

-- there is an entry exactly if there is the key
pub is_some-entry_from : (key : List ℕ) (n : ℕ) (ms : Fields) → is_some (entry_from n ms key) ≡ has_key key ms
is_some-entry_from key n no_members = refl
is_some-entry_from key n (member k v ms) =
    elim (bytes_eq key k) as (λ b. is_some (if b then Some (record { 0 = n }) else entry_from (n + 1) ms key) ≡ is_some (if b then Some v else value_at key ms)) [
      | true ↦ refl
      | false ↦ is_some-entry_from key (n + 1) ms
    ]

none_of : {A : Type 0} → (o : Option A) → is_some o ≡ false → o ≡ None
none_of None h = refl
none_of (Some a) h = cc

pub entry_of-none : (key : List ℕ) (ms : Fields) → value_at key ms ≡ None → entry_of ms key ≡ None
entry_of-none key ms h = none_of (entry_of ms key) (is_some-entry_from key 0 ms ∙ ap is_some h)

pub value_at-none : (key : List ℕ) (ms : Fields) → entry_of ms key ≡ None → value_at key ms ≡ None
value_at-none key ms h = none_of (value_at key ms) (sym (is_some-entry_from key 0 ms) ∙ ap is_some h)

-- a name that is there is at no fault, and another one is
pub name-known : (types : Fields) (s : List ℕ) (e : EntryNo) (rule : SchemaRule) → Some e ≡ entry_of types s → unless (has_key s types) rule ≡ []
name-known types s e rule h = ap (λ b. unless b rule) (sym (is_some-entry_from s 0 types) ∙ ap is_some (sym h))

pub name-unknown : (types : Fields) (s : List ℕ) (rule : SchemaRule) → None ≡ entry_of types s → unless (has_key s types) rule ≡ here rule
name-unknown types s rule h = ap (λ b. unless b rule) (sym (is_some-entry_from s 0 types) ∙ ap is_some (sym h))

by_word : (types : Fields) (s : List ℕ) (plain : Option Plain) (entry : Option EntryNo) (w : Option Word) → plain_of s ≡ plain → entry_of types s ≡ entry → w ≡ plain_or plain entry
    → (if is_some plain then [] else unless (has_key s types) Name) ≡ (if is_some w then [] else here Name)
by_word types s (Some p) entry w is at h = ap (λ (o : Option Word). if is_some o then [] else here Name) (sym h)
by_word types s None (Some e) w is at h = name-known types s e Name (sym at) ∙ ap (λ (o : Option Word). if is_some o then [] else here Name) (sym h)
by_word types s None None w is at h = name-unknown types s Name (sym at) ∙ ap (λ (o : Option Word). if is_some o then [] else here Name) (sym h)

word_faults-is : (types : Fields) (s : List ℕ) (w : Option Word) → w ≡ word_of types s → word_faults types s ≡ (if is_some w then [] else here Name)
word_faults-is types s w h = by_word types s (plain_of s) (entry_of types s) w refl refl h

pub word-known : (types : Fields) (s : List ℕ) (w : Word) → Some w ≡ word_of types s → word_faults types s ≡ []
word-known types s w h = word_faults-is types s (Some w) h

pub word-unknown : (types : Fields) (s : List ℕ) → None ≡ word_of types s → word_faults types s ≡ here Name
word-unknown types s h = word_faults-is types s None h

-- the value under a name is that of its entry
pub record IsEntryAt (fs : List Field) (n : ℕ) (key : List ℕ) (e : EntryNo) : Type 0 where
  pub at : ℕ
  pub number : e.0 ≡ n + at
  pub within : at < length fs
  pub value : value_at key (fields_view fs) ≡ value_of fs at
  pub named : (d : Field) → (get_or fs at d).key ≡ key

pub entry_from-value : (key : List ℕ) (n : ℕ) (fs : List Field) (e : EntryNo) → entry_from n (fields_view fs) key ≡ Some e → IsEntryAt fs n key e
entry_from-value key n [] e h = absurd cc
entry_from-value key n (f ∷ fs) e h =
    let P : List ℕ × Value → Type 0 = λ x. (if bytes_eq key x.0 then Some (record { 0 = n }) else entry_from (n + 1) (fields_view fs) key) ≡ Some e in
    let Q : List ℕ × Value → Type 0 = λ x. (if bytes_eq key x.0 then Some x.1 else value_at key (fields_view fs)) ≡ value_of (f ∷ fs) 0 in
    let V : List ℕ × Value → Option Value = λ x. if bytes_eq key x.0 then Some x.1 else value_at key (fields_view fs) in
    elim (bytes_eq key f.key) as (λ b. bytes_eq key f.key ≡ b → (if b then Some (record { 0 = n }) else entry_from (n + 1) (fields_view fs) key) ≡ Some e → IsEntryAt (f ∷ fs) n key e) [
      | true ↦ λ test is. record {
        at = 0;
        number = let first : ℕ → Option EntryNo = λ k. Some (record { 0 = k }) in let same : n ≡ e.0 = cc is in omega (arith, same);
        within = omega arith;
        value = ap V (entry-fields f) ∙ ap (λ (b : Bool). if b then Some (view f.value) else value_at key (fields_view fs)) test;
        named = λ d. sym ((bytes_eq-Decides key f.key).0 test);
      }
      | false ↦ λ test is.
          let further = entry_from-value key (n + 1) fs e is in record {
            at = suc further.at;
            number = omega (arith, further.number);
            within = omega (arith, further.within);
            value = ap V (entry-fields f) ∙ ap (λ (b : Bool). if b then Some (view f.value) else value_at key (fields_view fs)) test ∙ further.value;
            named = further.named;
          }
    ] refl (subst P (entry-fields f) h)

-- Words, texts and conditions are spelled by what they are read from.
use Rattle.std.proofs.Common.{◌≡◌, ℕ, ◌+◌, ℤ, List, [], ◌∷◌, ◌++◌, true, false, is_some, Option, Some, None, codes, decimal, if◌then◌else◌, refl, sym, ◌∙◌, ap, subst}
use Rattle.std.specs.Str.{bytes_eq}
use Rattle.std.specs.Prelude.{not}
use Rattle.std.proofs.lemmas.Slice.Eq.{bytes_eq-Decides}
use Rattle.snap_core.specs.Value.{Value, null, boolean, integer, text, list, dict, no_parts, part, no_members, member, is_whole, Items, Fields}
use Rattle.pointer_core.specs.declared.schema_rule.SchemaRule.TheVariants.{Shape, Twice}
use Rattle.type_table.specs.declared.shape.Condition.{Condition}
use Rattle.type_table.specs.declared.shape.Condition.TheVariants.{Min, Max, MinLength, MaxLength, StartsWith}
use Rattle.schema_form.specs.declared.form.Holder.TheVariants as holder
use Rattle.schema_form.specs.declared.words.Leaf.TheVariants as leaf
use Rattle.schema_form.specs.declared.words.Form.{Form}
use Rattle.schema_form.specs.declared.words.Form.TheVariants as form
use Rattle.schema_form.specs.declared.bases.Base.{Base}
use Rattle.schema_form.specs.declared.bases.Base.TheVariants.{Texts, Integers, Barred}
use Rattle.schema_form.specs.Words.{form_of}
use Rattle.schema_form.specs.Faults.{unless, under, is_among, texts_faults, bound, condition_of, condition_faults, member_faults}
use Rattle.schema_form.specs.Layout.{texts_in, one_of, conditions_in}
use Rattle.schema_form.specs.Pointers.{holder_key}
use Rattle.schema_form.specs.Reading.{text_items, condition_key, condition_value, condition_fields}
use Rattle.schema_form.proofs.NoFaults.{append_none, under_none, here_some}

-- the key of a form
abbrev pub form_key : Form → List ℕ
form_key (form.Leaf leaf.Literal) = codes "literal"
form_key (form.Leaf leaf.Enumeration) = codes "enumeration"
form_key (form.Leaf leaf.Refinement) = codes "refinement"
form_key (form.Leaf leaf.Reference) = codes "reference"
form_key (form.Leaf leaf.SafeReference) = codes "safeReference"
form_key (form.Holder h) = holder_key h
form_key form.Optional = codes "optional"
form_key form.Union = codes "union"

abbrev HasKey : List ℕ → Option Form → Type 0
HasKey key (Some o) = key ≡ form_key o
HasKey key None = Unit {0}

either : (key word : List ℕ) (o : Form) (rest : Option Form) → word ≡ form_key o → HasKey key rest → HasKey key (if bytes_eq key word then Some o else rest)
either key word o rest is further = elim (bytes_eq key word) as (λ b. bytes_eq key word ≡ b → HasKey key (if b then Some o else rest)) [
  | true ↦ λ h. (bytes_eq-Decides key word).0 h ∙ is
  | false ↦ λ h. further
] refl

has-key : (key : List ℕ) → HasKey key (form_of key)
has-key key =
    either key (codes "literal") (form.Leaf leaf.Literal) _ refl (either key (codes "enumeration") (form.Leaf leaf.Enumeration) _ refl
    (either key (codes "optional") form.Optional _ refl (either key (codes "union") form.Union _ refl
    (either key (codes "refinement") (form.Leaf leaf.Refinement) _ refl (either key (codes "reference") (form.Leaf leaf.Reference) _ refl
    (either key (codes "safeReference") (form.Leaf leaf.SafeReference) _ refl (either key (codes "maybe") (form.Holder holder.Maybe) _ refl
    (either key (codes "maybeNull") (form.Holder holder.MaybeNull) _ refl (either key (codes "array") (form.Holder holder.Array) _ refl
    (either key (codes "map") (form.Holder holder.Map) None refl tt))))))))))

-- a key that stands for a form is its key
pub key-of : (key : List ℕ) (o : Form) → form_of key ≡ Some o → key ≡ form_key o
key-of key o is = let P : Option Form → Type 0 = HasKey key in subst P is (has-key key)

-- the texts of an enumeration are its items
pub text_items-in : (earlier : List (List ℕ)) (i : ℕ) (items : Items) → texts_faults earlier i items ≡ [] → text_items (texts_in items) ≡ items
text_items-in earlier i no_parts none = refl
text_items-in earlier i (part (text s) items) none =
    let rest = (append_none (under (decimal i) (unless (not (is_among earlier s)) Twice)) (texts_faults (s ∷ earlier) (i + 1) items) none).1 in
    ap (λ ps. part (text s) ps) (text_items-in (s ∷ earlier) (i + 1) items rest)
text_items-in earlier i (part null items) none = absurd cc
text_items-in earlier i (part (boolean b) items) none = absurd cc
text_items-in earlier i (part (integer z) items) none = absurd cc
text_items-in earlier i (part (list a ps) items) none = absurd cc
text_items-in earlier i (part (dict a ms) items) none = absurd cc

-- a condition has the key and the value that it is read from
abbrev IsSpelled : List ℕ → Value → Option Condition → Type 0
IsSpelled key v (Some c) = (condition_key c ≡ key) × (condition_value c ≡ v)
IsSpelled key v None = Unit {0}

by-bound : (key : List ℕ) (z : ℤ) (c : ℤ → Condition) → condition_key (c z) ≡ key → condition_value (c z) ≡ integer z → IsSpelled key (integer z) (bound c z)
by-bound key z c named valued = elim (is_whole z) as (λ b. IsSpelled key (integer z) (if b then Some (c z) else None)) [
  | true ↦ (named, valued)
  | false ↦ tt
]

by-key : (key word : List ℕ) (v : Value) (one rest : Option Condition) → (key ≡ word → IsSpelled key v one) → IsSpelled key v rest
    → IsSpelled key v (if bytes_eq key word then one else rest)
by-key key word v one rest first further = elim (bytes_eq key word) as (λ b. bytes_eq key word ≡ b → IsSpelled key v (if b then one else rest)) [
  | true ↦ λ h. first ((bytes_eq-Decides key word).0 h)
  | false ↦ λ h. further
] refl

spelled : (base : Option Base) (key : List ℕ) (v : Value) → IsSpelled key v (condition_of base key v)
spelled (Some Integers) key (integer z) =
    by-key key (codes "min") (integer z) (bound Min z) _ (λ e. by-bound key z Min (sym e) refl)
    (by-key key (codes "max") (integer z) (bound Max z) None (λ e. by-bound key z Max (sym e) refl) tt)
spelled (Some Texts) key (integer z) =
    by-key key (codes "minLength") (integer z) (bound MinLength z) _ (λ e. by-bound key z MinLength (sym e) refl)
    (by-key key (codes "maxLength") (integer z) (bound MaxLength z) None (λ e. by-bound key z MaxLength (sym e) refl) tt)
spelled (Some Texts) key (text s) = by-key key (codes "startsWith") (text s) (Some (StartsWith s)) None (λ e. (sym e, refl)) tt
spelled (Some Integers) key (text s) = tt
spelled (Some Integers) key null = tt
spelled (Some Integers) key (boolean b) = tt
spelled (Some Integers) key (list a ps) = tt
spelled (Some Integers) key (dict a ms) = tt
spelled (Some Texts) key null = tt
spelled (Some Texts) key (boolean b) = tt
spelled (Some Texts) key (list a ps) = tt
spelled (Some Texts) key (dict a ms) = tt
spelled (Some Barred) key v = tt
spelled None key v = tt

one-condition : (key : List ℕ) (v : Value) (fields : Fields) (conditions : List Condition) (o : Option Condition) → IsSpelled key v o → unless (is_some o) Shape ≡ []
    → condition_fields conditions ≡ fields → condition_fields (one_of o ++ conditions) ≡ member key v fields
one-condition key v fields conditions (Some c) is none rest =
    ap (λ k. member k (condition_value c) (condition_fields conditions)) is.0 ∙ ap (λ w. member key w (condition_fields conditions)) is.1 ∙ ap (λ ms. member key v ms) rest
one-condition key v fields conditions None is none rest = absurd (here_some Shape none)

-- the conditions of a refinement are its fields
pub condition_fields-in : (base : Option Base) (fields : Fields) → member_faults (condition_faults base) fields ≡ [] → condition_fields (conditions_in base fields) ≡ fields
condition_fields-in base no_members none = refl
condition_fields-in base (member key v fields) none =
    let parts = append_none (under key (condition_faults base key v)) (member_faults (condition_faults base) fields) none in
    one-condition key v fields (conditions_in base fields) (condition_of base key v) (spelled base key v) (under_none key (condition_faults base key v) parts.0)
    (condition_fields-in base fields parts.1)

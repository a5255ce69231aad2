-- What the members of a union take, one member after another.
use Rattle.std.proofs.Common.{◌≡◌, ℕ, ℤ, List, [], ◌∷◌, ◌++◌, map, Bool, true, false, ◌||◌, is_some, Option, Some, cond, refl, sym, ap, ◌∙◌}
use Rattle.std.specs.List.{list_any}
use Rattle.std.specs.Map.{update}
use Rattle.std.specs.BTreeMap as tree
use Rattle.std.specs.BTreeMap.{BTreeMap}
use Rattle.std.specs.Bool.{one_answer}
use Rattle.std.specs.Ordering.{int_eq, int_cmp, nat_cmp}
use Rattle.std.specs.Cmp.{int_eq_equiv}
use Rattle.std.specs.Cmp.Lexicographic.{slice_cmp}
use Rattle.std.specs.Str.{bytes_eq}
use Rattle.std.specs.Borrow.{Bor}
use Rattle.std.proofs.lemmas.Slice.Eq.{bytes_eq-Decides}
use Rattle.snap_core.specs.Value.{Value, null, boolean, integer, text, list, dict, Items, Fields}
use Rattle.type_table.specs.declared.scalar_set.ScalarSet.{ScalarSet}
use Rattle.type_table.specs.declared.taken.Taken.{Taken}
use Rattle.type_table.specs.ScalarSets.{has}
use Rattle.type_table.specs.Unions.{Scalars, texts, integers, booleans, these, is_same, is_among, do_meet}
use Rattle.type_table.specs.Taking.{is_taken, AreTaken}

or-swap : (a b c : Bool) → (a || (b || c)) ≡ (b || (a || c))
or-swap true true c = refl
or-swap true false c = refl
or-swap false b c = refl

or-false : (a : Bool) → (a || false) ≡ a
or-false true = refl
or-false false = refl

or-turned : (a b : Bool) → (a || b) ≡ (b || a)
or-turned true true = refl
or-turned true false = refl
or-turned false true = refl
or-turned false false = refl

or-grouped : (a b c : Bool) → ((a || b) || c) ≡ (a || (b || c))
or-grouped true b c = refl
or-grouped false b c = refl

bytes_eq-turned : (xs ys : List ℕ) → bytes_eq xs ys ≡ bytes_eq ys xs
bytes_eq-turned xs ys =
    let a = bytes_eq-Decides xs ys in
    let b = bytes_eq-Decides ys xs in
    one_answer {P = xs ≡ ys} (bytes_eq xs ys) (bytes_eq ys xs) a ((λ e. sym (b.0 e)), (λ e. b.1 (sym e)))

is_some-cond : {X : Type 0} (b : Bool) (x : X) (o : Option X) → is_some (cond b (Some x) o) ≡ (b || is_some o)
is_some-cond true x o = refl
is_some-cond false x o = refl

-- a set with one text more, and with one integer more
pub has-text_more : (old : ScalarSet) (m : BTreeMap (Bor (List ℕ)) (Unit {0})) (s : List ℕ)
    → ((cs : List ℕ) → tree.get_by (λ k. slice_cmp nat_cmp cs k.now) m ≡ update bytes_eq (λ ds. tree.get_by (λ k. slice_cmp nat_cmp ds k.now) old.texts) s (Some tt) cs)
    → (v : Value) → has (record old { texts = m }) v ≡ (is_same v (text s) || has old v)
has-text_more old m s h null = refl
has-text_more old m s h (boolean true) = refl
has-text_more old m s h (boolean false) = refl
has-text_more old m s h (integer z) = refl
has-text_more old m s h (text cs) =
    let was : Option (Unit {0}) = tree.get_by (λ k. slice_cmp nat_cmp cs k.now) old.texts in
    ap is_some (h cs) ∙ is_some-cond (bytes_eq s cs) tt was ∙ ap (λ b. b || is_some was) (bytes_eq-turned s cs)
has-text_more old m s h (list a ps) = refl
has-text_more old m s h (dict a ms) = refl

pub has-integer_more : (old : ScalarSet) (m : BTreeMap ℤ (Unit {0})) (z : ℤ)
    → ((q : ℤ) → tree.get int_cmp m q ≡ cond (int_eq z q) (Some tt) (tree.get int_cmp old.integers q))
    → (v : Value) → has (record old { integers = m }) v ≡ (is_same v (integer z) || has old v)
has-integer_more old m z h null = refl
has-integer_more old m z h (boolean true) = refl
has-integer_more old m z h (boolean false) = refl
has-integer_more old m z h (integer q) =
    let was : Option (Unit {0}) = tree.get int_cmp old.integers q in
    ap is_some (h q) ∙ is_some-cond (int_eq z q) tt was ∙ ap (λ b. b || is_some was) (int_eq_equiv.symm z q)
has-integer_more old m z h (text cs) = refl
has-integer_more old m z h (list a ps) = refl
has-integer_more old m z h (dict a ms) = refl

-- a set with null, with true, or with false
pub has-null_more : (old : ScalarSet) (v : Value) → has (record old { null = true }) v ≡ (is_same v null || has old v)
has-null_more old null = refl
has-null_more old (boolean true) = refl
has-null_more old (boolean false) = refl
has-null_more old (integer q) = refl
has-null_more old (text cs) = refl
has-null_more old (list a ps) = refl
has-null_more old (dict a ms) = refl

pub has-on_more : (old : ScalarSet) (v : Value) → has (record old { on = true }) v ≡ (is_same v (boolean true) || has old v)
has-on_more old null = refl
has-on_more old (boolean true) = refl
has-on_more old (boolean false) = refl
has-on_more old (integer q) = refl
has-on_more old (text cs) = refl
has-on_more old (list a ps) = refl
has-on_more old (dict a ms) = refl

pub has-off_more : (old : ScalarSet) (v : Value) → has (record old { off = true }) v ≡ (is_same v (boolean false) || has old v)
has-off_more old null = refl
has-off_more old (boolean true) = refl
has-off_more old (boolean false) = refl
has-off_more old (integer q) = refl
has-off_more old (text cs) = refl
has-off_more old (list a ps) = refl
has-off_more old (dict a ms) = refl

-- nothing equals a list, or a record, as a scalar
pub is_same-list : (v : Value) (ps : Items) → is_same v (list tt ps) ≡ false
is_same-list null ps = refl
is_same-list (boolean true) ps = refl
is_same-list (boolean false) ps = refl
is_same-list (integer z) ps = refl
is_same-list (text s) ps = refl
is_same-list (list a qs) ps = refl
is_same-list (dict a ms) ps = refl

pub is_same-dict : (v : Value) (ns : Fields) → is_same v (dict tt ns) ≡ false
is_same-dict null ns = refl
is_same-dict (boolean true) ns = refl
is_same-dict (boolean false) ns = refl
is_same-dict (integer z) ns = refl
is_same-dict (text s) ns = refl
is_same-dict (list a qs) ns = refl
is_same-dict (dict a ms) ns = refl

-- members that take all texts, all integers or all booleans
pub AreTaken-texts : (t : Taken) (ss : List Scalars) → AreTaken t ss → AreTaken (record t { all_texts = true; some_text = true }) (texts ∷ ss)
AreTaken-texts t ss h = record { each = each; text = refl; integer = h.integer; boolean = h.boolean }
  where
    each : (v : Value) → is_taken (record t { all_texts = true; some_text = true }) v ≡ list_any (λ s. is_among s v) (texts ∷ ss)
    each null = h.each null
    each (boolean b) = h.each (boolean b)
    each (integer z) = h.each (integer z)
    each (text s) = refl
    each (list a ps) = h.each (list a ps)
    each (dict a ms) = h.each (dict a ms)

pub AreTaken-integers : (t : Taken) (ss : List Scalars) → AreTaken t ss → AreTaken (record t { all_integers = true; some_integer = true }) (integers ∷ ss)
AreTaken-integers t ss h = record { each = each; text = h.text; integer = refl; boolean = h.boolean }
  where
    each : (v : Value) → is_taken (record t { all_integers = true; some_integer = true }) v ≡ list_any (λ s. is_among s v) (integers ∷ ss)
    each null = h.each null
    each (boolean b) = h.each (boolean b)
    each (integer z) = refl
    each (text s) = h.each (text s)
    each (list a ps) = h.each (list a ps)
    each (dict a ms) = h.each (dict a ms)

pub AreTaken-booleans : (t : Taken) (ss : List Scalars) → AreTaken t ss → AreTaken (record t { all_booleans = true; some_boolean = true }) (booleans ∷ ss)
AreTaken-booleans t ss h = record { each = each; text = h.text; integer = h.integer; boolean = refl }
  where
    each : (v : Value) → is_taken (record t { all_booleans = true; some_boolean = true }) v ≡ list_any (λ s. is_among s v) (booleans ∷ ss)
    each null = h.each null
    each (boolean b) = refl
    each (integer z) = h.each (integer z)
    each (text s) = h.each (text s)
    each (list a ps) = h.each (list a ps)
    each (dict a ms) = h.each (dict a ms)

-- what holds of the flags when a member takes these scalars
pub record IsMore (old new : Taken) (vs : List Value) : Type 0 where
  pub each : (v : Value) → has new.each v ≡ (list_any (is_same v) vs || has old.each v)
  pub all_texts : new.all_texts ≡ old.all_texts
  pub all_integers : new.all_integers ≡ old.all_integers
  pub all_booleans : new.all_booleans ≡ old.all_booleans
  pub text : new.some_text ≡ (list_any (is_among texts) vs || old.some_text)
  pub integer : new.some_integer ≡ (list_any (is_among integers) vs || old.some_integer)
  pub boolean : new.some_boolean ≡ (list_any (is_among booleans) vs || old.some_boolean)

-- a member that takes these
pub AreTaken-these : (old new : Taken) (vs : List Value) (ss : List Scalars) → IsMore old new vs → AreTaken old ss → AreTaken new (these vs ∷ ss)
AreTaken-these old new vs ss more h = record {
  each = each;
  text = more.text ∙ ap (λ b. list_any (is_among texts) vs || b) h.text;
  integer = more.integer ∙ ap (λ b. list_any (is_among integers) vs || b) h.integer;
  boolean = more.boolean ∙ ap (λ b. list_any (is_among booleans) vs || b) h.boolean;
}
  where
    by_kind : (v : Value) (a : Bool) → (a || has old.each v) ≡ list_any (λ s. is_among s v) ss
        → (a || has new.each v) ≡ (list_any (is_same v) vs || list_any (λ s. is_among s v) ss)
    by_kind v a e =
        ap (λ b. a || b) (more.each v) ∙ or-swap a (list_any (is_same v) vs) (has old.each v) ∙ ap (λ b. list_any (is_same v) vs || b) e

    each : (v : Value) → is_taken new v ≡ list_any (λ s. is_among s v) (these vs ∷ ss)
    each null = by_kind null false (h.each null)
    each (boolean b) = ap (λ a. a || has new.each (boolean b)) more.all_booleans ∙ by_kind (boolean b) old.all_booleans (h.each (boolean b))
    each (integer z) = ap (λ a. a || has new.each (integer z)) more.all_integers ∙ by_kind (integer z) old.all_integers (h.each (integer z))
    each (text s) = ap (λ a. a || has new.each (text s)) more.all_texts ∙ by_kind (text s) old.all_texts (h.each (text s))
    each (list a ps) = by_kind (list a ps) false (h.each (list a ps))
    each (dict a ms) = by_kind (dict a ms) false (h.each (dict a ms))

-- one scalar: text, integer, boolean or null
pub more-one : (v w : Value) (b : Bool) → (is_same v w || b) ≡ (list_any (is_same v) (w ∷ []) || b)
more-one v w b = sym (or-grouped (is_same v w) false b)

-- where something is in neither part it is nowhere
any-append : {X : Type 0} (p : X → Bool) (xs ys : List X) → list_any p (xs ++ ys) ≡ (list_any p xs || list_any p ys)
any-append p [] ys = refl
any-append p (x ∷ xs) ys = ap (λ b. p x || b) (any-append p xs ys) ∙ sym (or-grouped (p x) (list_any p xs) (list_any p ys))

-- one scalar after others, of one member
any-one_after : {X : Type 0} (p : X → Bool) (x : X) (xs : List X) (rest : Bool) → (list_any p (x ∷ []) || (list_any p xs || rest)) ≡ (list_any p (xs ++ x ∷ []) || rest)
any-one_after p x xs rest =
    or-swap (list_any p (x ∷ [])) (list_any p xs) rest ∙ sym (or-grouped (list_any p xs) (list_any p (x ∷ [])) rest) ∙ ap (λ b. b || rest) (sym (any-append p xs (x ∷ [])))

pub AreTaken-one_after : (t : Taken) (w : Value) (vs : List Value) (ss : List Scalars) → AreTaken t (these (w ∷ []) ∷ these vs ∷ ss) → AreTaken t (these (vs ++ w ∷ []) ∷ ss)
AreTaken-one_after t w vs ss h = record {
  each = λ v. h.each v ∙ any-one_after (is_same v) w vs (list_any (λ s. is_among s v) ss);
  text = h.text ∙ any-one_after (is_among texts) w vs (list_any (do_meet texts) ss);
  integer = h.integer ∙ any-one_after (is_among integers) w vs (list_any (do_meet integers) ss);
  boolean = h.boolean ∙ any-one_after (is_among booleans) w vs (list_any (do_meet booleans) ss);
}

-- a member that takes nothing
pub AreTaken-none : (t : Taken) (ss : List Scalars) → AreTaken t ss → AreTaken t (these [] ∷ ss)
AreTaken-none t ss h = record { each = h.each; text = h.text; integer = h.integer; boolean = h.boolean }

any-never : {X : Type 0} (xs : List X) → false ≡ list_any (λ (x : X). false) xs
any-never [] = refl
any-never (x ∷ xs) = any-never xs

any-either : {X : Type 0} (p q : X → Bool) (xs : List X) → (list_any p xs || list_any q xs) ≡ list_any (λ x. p x || q x) xs
any-either p q [] = refl
any-either p q (x ∷ xs) =
    or-grouped (p x) (list_any p xs) (q x || list_any q xs) ∙ ap (λ b. p x || b) (or-swap (list_any p xs) (q x) (list_any q xs))
    ∙ sym (or-grouped (p x) (q x) (list_any p xs || list_any q xs)) ∙ ap (λ b. (p x || q x) || b) (any-either p q xs)

-- whether one of these is taken
pub meets-these : (t : Taken) (ss : List Scalars) → AreTaken t ss → (vs : List Value) → list_any (is_taken t) vs ≡ list_any (do_meet (these vs)) ss
meets-these t ss h [] = any-never ss
meets-these t ss h (v ∷ vs) =
    ap (λ b. b || list_any (is_taken t) vs) (h.each v) ∙ ap (λ b. list_any (λ s. is_among s v) ss || b) (meets-these t ss h vs)
    ∙ any-either (λ s. is_among s v) (λ s. list_any (is_among s) vs) ss

pub meets-one : (t : Taken) (ss : List Scalars) → AreTaken t ss → (v : Value) → is_taken t v ≡ list_any (do_meet (these (v ∷ []))) ss
meets-one t ss h v = sym (or-false (is_taken t v)) ∙ meets-these t ss h (v ∷ [])

pub map-push : {X Y : Type 0} (f : X → Y) (xs : List X) (x : X) → map f (xs ++ x ∷ []) ≡ map f xs ++ f x ∷ []
map-push f [] x = refl
map-push f (y ∷ xs) x = ap (λ ys. f y ∷ ys) (map-push f xs x)

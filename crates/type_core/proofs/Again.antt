-- What is made is made again as it is, is plain, and is within the limits.
use Rattle.std.proofs.Common.{◌≡◌, ◌≢◌, ◌∙◌, zero, suc, cond, find, length, ℕ, List, [], ◌∷◌, Bool, true, false, IsTrue, Option, Some, None, Result, Ok, Err, IfSome, IfOk, IsErrAnd, MatchResult, if◌then◌else◌, refl, sym, ap, subst}
use Rattle.std.specs.declared.cmp.Ordering.TheVariants.{Less}
use Rattle.std.specs.Borrow.{Bor}
use Rattle.std.specs.Str.{bytes_eq}
use Rattle.std.proofs.lemmas.Cmp.{nat_list_cmp_total, tied_itself}
use Rattle.std.proofs.lemmas.Slice.Eq.{bytes_eq-Decides}
use Rattle.pointer_core.specs.declared.refusal.Rule.TheVariants.{Large}
use Rattle.snap_core.specs.declared.snap.Snap.{Snap}
use Rattle.snap_core.specs.declared.number.TypeNo.{TypeNo}
use Rattle.snap_core.specs.Value.{Value, null, boolean, integer, text, list, dict, no_parts, no_members, member, ComesBefore, keys_of, value_at, IsPlain, ArePlain, ArePlainMembers, Items, Fields}
use Rattle.snap_core.specs.View.{view}
use Rattle.type_core.specs.declared.making.MakeError.{MakeError}
use Rattle.type_core.specs.declared.making.MakeError.TheVariants.{Memory, Refused}
use Rattle.type_table.specs.declared.shape.Shape.{Shape}
use Rattle.type_table.specs.declared.shape.Shape.TheVariants.{Identifier, IdentifierNumber, Optional, Maybe, MaybeNull, Union, Array, Map, Model, Named}
use Rattle.snap_core.specs.declared.number.ModelNo.{ModelNo}
use Rattle.snap_core.specs.declared.ident.Ident.{Ident}
use Rattle.type_table.specs.declared.shape.Property.{Property}
use Rattle.type_table.specs.Table.{Table, Catalog, shape_at, properties_of, names_of, AreNamed}
use Rattle.type_table.specs.Identifiers.{is_identifier, identifies, identifier_of, ident_of, ident_under, ident_in, is_keyed, is_safe}
use Rattle.type_core.specs.Judging.{is_null, judged_step, judged_within, judged_by}
use Rattle.type_core.specs.Making.{Outcome, mistyped, scalar_made, list_made, dict_made, absent, maker_of, makers_of, fields_of, made_by, is_within, limited, making}
use Rattle.type_core.specs.Makes.{IsMaybe, maybe, maybe_null, Makes, string, whole, truth, nothing, literal, enumeration, identifier, identifier_number, reference, safe, safe_of_null, safe_absent, frozen, frozen_absent, optional, optional_absent, maybe_of_null, maybe_absent, maybe_other, union, refinement, array, array_absent, map, map_absent, model, name, MakesItems, no_items, one_item, MakesValues, no_values, one_value, MakesEach, no_more, one_more, MakesWithin}
use Rattle.type_core.specs.Made.{Answers, value_of}
use Rattle.type_core.specs.Sound.{IsSound}
use Rattle.type_core.proofs.Sound.{AreNamed-properties_of, IsShapeOf-at}
use Rattle.snap_core.proofs.Keys.{IsPlain-value_at}
use Rattle.snap_core.proofs.Finding.{key_cmp, bytes_eq-Equal, bytes_eq-Less}
use Rattle.type_core.proofs.Chains.{shape_for-at, judged_by-at}
use Rattle.type_core.proofs.Choosing.{IsLike, like-made, chosen-made, chosen-again}
use Rattle.type_core.proofs.Laws.{is_null-null, is_null-other, other-is_null, scalar_made-Ok, absent-at, made_by-sound, made_by-complete}

-- each value of a plain record is plain, if there is one
pub IfSome-value_at : (key : List ℕ) (ms : Fields) → ArePlainMembers ms → IfSome (value_at key ms) IsPlain
IfSome-value_at key ms plain = by_value (value_at key ms) refl
  where
    by_value : (x : Option Value) → value_at key ms ≡ x → IfSome x IsPlain
    by_value None e = tt
    by_value (Some v) e = IsPlain-value_at key ms v plain e

-- the keys of what a model makes are its properties' names
pub keys-made : (table : Table) (given : Fields) (ps : List Property) (made : Fields)
    → MakesEach table given ps made → keys_of made ≡ names_of ps
keys-made table _ _ _ (no_more given) = refl
keys-made table _ _ _ (one_more given p ps v made one rest) = ap (λ ks. p.name ∷ ks) (keys-made table given ps made rest)

-- the keys of what a map makes are those of the record
pub keys-values : (table : Table) (t : ℕ) (given made : Fields) → MakesValues table t given made → keys_of made ≡ keys_of given
keys-values table _ _ _ (no_values t) = refl
keys-values table _ _ _ (one_value t k v s given made one key rest) = ap (λ ks. k ∷ ks) (keys-values table t given made rest)

-- a default is plain
pub IsPlain-default : (types : Catalog) → IsSound types → (t : ℕ) (u : TypeNo) (d : Snap) → shape_at types.table t ≡ Some (Optional u d) → IsPlain (view d)
IsPlain-default types sound t u d e = (IsShapeOf-at types sound t (Optional u d) e).plain

-- a key that is made comes after a name before the properties'
pub key-after : (table : Table) (first : List ℕ) (given : Fields) (ps : List Property) (made : Fields)
    → MakesEach table given ps made → ComesBefore first (names_of ps) → AreNamed ps
    → (key : List ℕ) (w : Value) → value_at key made ≡ Some w → key_cmp first key ≡ Less
key-after table first _ _ _ (no_more given) before named = λ key w h. cc
key-after table first _ _ _ (one_more given p ps v made one rest) before named = λ key w h.
    by_test key w (key-after table p.name given ps made rest named.0 named.1 key w) (bytes_eq key p.name) refl h
  where
    by_test : (key : List ℕ) (w : Value) → (value_at key made ≡ Some w → key_cmp p.name key ≡ Less)
        → (b : Bool) → bytes_eq key p.name ≡ b → (if b then Some v else value_at key made) ≡ Some w → key_cmp first key ≡ Less
    by_test key w later true e h = let P : List ℕ → Type 0 = λ k. key_cmp first k ≡ Less in subst P (sym ((bytes_eq-Decides key p.name).0 e)) before
    by_test key w later false e h = nat_list_cmp_total.trans first p.name key before (later h)

-- what a maybe makes is made again: null, or what its type makes again
pub maybe-again : (table : Table) (t : ℕ) (shape : Shape) (u : TypeNo) (s : Value) → shape_at table t ≡ Some shape → IsMaybe shape u
    → Makes table u.0 (Some s) s → Makes table t (Some s) s
maybe-again table t shape u s e is again = by_test (is_null s) refl
  where
    by_test : (b : Bool) → is_null s ≡ b → Makes table t (Some s) s
    by_test true n = let P : Value → Type 0 = λ w. Makes table t (Some w) w in subst P (sym (is_null-null s n)) (maybe_of_null t shape u e is)
    by_test false n = maybe_other t shape u s s e is (other-is_null s n) again

-- a value and what is made of it have the same identifier
abbrev IsSoIdentified : Table → ℕ → Value → Value → Type 0
IsSoIdentified table t v s = (n : ℕ) → ident_in table (judged_within table v n t) v ≡ ident_in table (judged_within table s n t) s

-- so it is where it is after one step
led-ident : (table : Table) (t : ℕ) (v s : Value) (shape : Shape) → is_safe (Some shape) ≡ false → shape_at table t ≡ Some shape
    → ((n : ℕ) → ident_in table (judged_step table v (judged_within table v n) (Some shape)) v ≡ ident_in table (judged_step table s (judged_within table s n) (Some shape)) s)
    → IsSoIdentified table t v s
led-ident table t v s shape other e each zero = refl
led-ident table t v s shape other e each (suc n) =
    ap (λ (o : Option Shape). ident_in table (judged_step table v (judged_within table v n) o) v) (shape_for-at table v t shape other e)
    ∙ each n
    ∙ sym (ap (λ (o : Option Shape). ident_in table (judged_step table s (judged_within table s n) o) s) (shape_for-at table s t shape other e))

like-other : (v s : Value) → IsLike v s → is_null v ≡ false → is_null s ≡ false
like-other null s like h = cc
like-other (boolean b) s like h = ap is_null like
like-other (integer z) s like h = ap is_null like
like-other (text b) s like h = ap is_null like
like-other (list a ps) s like h = ap is_null like.1
like-other (dict a ms) s like h = ap is_null like.1

maybe-ident : (table : Table) (t : ℕ) (shape : Shape) (u : TypeNo) (v s : Value) → shape_at table t ≡ Some shape → IsMaybe shape u → v ≢ null → IsLike v s
    → IsSoIdentified table u.0 v s → IsSoIdentified table t v s
maybe-ident table t _ _ v s e (maybe u) ne like rest =
    led-ident table t v s (Maybe u) refl e (λ n. rw (is_null-other v ne, like-other v s like (is_null-other v ne)) (rest n))
maybe-ident table t _ _ v s e (maybe_null u) ne like rest =
    led-ident table t v s (MaybeNull u) refl e (λ n. rw (is_null-other v ne, like-other v s like (is_null-other v ne)) (rest n))

name-ident : (table : Table) (t : ℕ) (u : TypeNo) (x : Option Value) (s : Value) → shape_at table t ≡ Some (Named u)
    → IfSome x (λ v. IsSoIdentified table u.0 v s) → IfSome x (λ v. IsSoIdentified table t v s)
name-ident table t u None s e rest = tt
name-ident table t u (Some v) s e rest = led-ident table t v s (Named u) refl e rest

-- a property that is found behind another has a greater name
found-after : (first : List ℕ) (test : Property → Bool) (ps : List Property) (p : Property) → ComesBefore first (names_of ps) → AreNamed ps → find test ps ≡ Some p
    → key_cmp first p.name ≡ Less
found-after first test [] p before named h = cc
found-after first test (q ∷ ps) p before named h = by_test (test q) h (found-after q.name test ps p named.0 named.1)
  where
    by_test : (b : Bool) → cond b (Some q) (find test ps) ≡ Some p → (find test ps ≡ Some p → key_cmp q.name p.name ≡ Less) → key_cmp first p.name ≡ Less
    by_test true e later = let same : q ≡ p = cc in let P : Property → Type 0 = λ r. key_cmp first r.name ≡ Less in subst P same before
    by_test false e later = nat_list_cmp_total.trans first q.name p.name before (later e)

module _ (types : Catalog) (sound : IsSound types) where
  -- an identifier is made as it is, of a value alone
  identifier-judged : (v s : Value) (t : ℕ) (shape : Shape) → is_identifier (Some shape) ≡ true → judged_by types.table v t ≡ Some shape
      → maker_of types.table types.defaults v t ≡ Ok s → v ≡ s
  identifier-judged null s t shape is e h = (scalar_made-Ok types.table null s (Some shape) (sym (ap (scalar_made types.table null) e) ∙ h)).2
  identifier-judged (boolean b) s t shape is e h = (scalar_made-Ok types.table (boolean b) s (Some shape) (sym (ap (scalar_made types.table (boolean b)) e) ∙ h)).2
  identifier-judged (integer z) s t shape is e h = (scalar_made-Ok types.table (integer z) s (Some shape) (sym (ap (scalar_made types.table (integer z)) e) ∙ h)).2
  identifier-judged (text b) s t shape is e h = (scalar_made-Ok types.table (text b) s (Some shape) (sym (ap (scalar_made types.table (text b)) e) ∙ h)).2
  identifier-judged (list a ps) s t Identifier is e h = let no_list = sym (ap (list_made (list a ps) (makers_of types.table types.defaults ps)) e) ∙ h in cc
  identifier-judged (list a ps) s t IdentifierNumber is e h = let no_list = sym (ap (list_made (list a ps) (makers_of types.table types.defaults ps)) e) ∙ h in cc
  identifier-judged (list a ps) s t shape is e h = cc
  identifier-judged (dict a ms) s t Identifier is e h =
      let no_record = sym (ap (dict_made types.table (absent types.table types.defaults) (dict a ms) (fields_of types.table types.defaults ms)) e) ∙ h in cc
  identifier-judged (dict a ms) s t IdentifierNumber is e h =
      let no_record = sym (ap (dict_made types.table (absent types.table types.defaults) (dict a ms) (fields_of types.table types.defaults ms)) e) ∙ h in cc
  identifier-judged (dict a ms) s t shape is e h = cc

  identifier-absent : (t : ℕ) (shape : Shape) (s : Value) → is_identifier (Some shape) ≡ true → shape_at types.table t ≡ Some shape
      → ¬ (absent types.table types.defaults t ≡ Ok s)
  identifier-absent t Identifier s is e h =
      let none : absent types.table types.defaults t ≡ mistyped = absent-at types.table types.defaults sound.loopless t Identifier e refl in cc
  identifier-absent t IdentifierNumber s is e h =
      let none : absent types.table types.defaults t ≡ mistyped = absent-at types.table types.defaults sound.loopless t IdentifierNumber e refl in cc
  identifier-absent t shape s is e h = cc

  identifier-step : (v : Value) (t : ℕ) (shape : Shape) → is_identifier (Some shape) ≡ true → shape_at types.table t ≡ Some shape → judged_by types.table v t ≡ Some shape
  identifier-step v t Identifier is e = judged_by-at types.table sound.loopless v t Identifier e refl
  identifier-step v t IdentifierNumber is e = judged_by-at types.table sound.loopless v t IdentifierNumber e refl
  identifier-step v t shape is e = cc

  identifier-made : (t : ℕ) (x : Option Value) (s : Value) → is_identifier (shape_at types.table t) ≡ true → Makes types.table t x s → x ≡ Some s
  identifier-made t x s is made = by_shape (shape_at types.table t) refl is x (made_by-complete types.table types.defaults sound.loopless sound.all t x s made)
    where
      by_shape : (o : Option Shape) → shape_at types.table t ≡ o → is_identifier o ≡ true → (x : Option Value) → made_by types.table types.defaults t x ≡ Ok s → x ≡ Some s
      by_shape None e is x h = cc
      by_shape (Some shape) e is None h = absurd (identifier-absent t shape s is e h)
      by_shape (Some shape) e is (Some v) h = ap Some (identifier-judged v s t shape is (identifier-step v t shape is e) h)

  each-ident : (given : Fields) (ps : List Property) (made : Fields) → MakesEach types.table given ps made → AreNamed ps
      → (p : Property) → find (identifies types.table) ps ≡ Some p → ident_of (value_at p.name given) ≡ ident_of (value_at p.name made)
  each-ident _ _ _ (no_more given) named p h = cc
  each-ident _ _ _ (one_more given q ps v made one rest) named p h = by_test (identifies types.table q) refl h (each-ident given ps made rest named.1 p)
    where
      by_test : (b : Bool) → identifies types.table q ≡ b → cond b (Some q) (find (identifies types.table) ps) ≡ Some p
          → (find (identifies types.table) ps ≡ Some p → ident_of (value_at p.name given) ≡ ident_of (value_at p.name made))
          → ident_of (value_at p.name given) ≡ ident_of (value_at p.name (member q.name v made))
      by_test true is e later =
          let same : q ≡ p = cc in
          let P : Property → Type 0 = λ r. ident_of (value_at r.name given) ≡ ident_of (value_at r.name (member q.name v made)) in
          let own : bytes_eq q.name q.name ≡ true = bytes_eq-Equal q.name q.name (tied_itself nat_list_cmp_total q.name) in
          let here : value_at q.name (member q.name v made) ≡ Some v = rw own refl in
          subst P same (ap ident_of (identifier-made q.of.0 (value_at q.name given) v is one ∙ sym here))
      by_test false is e later =
          let other : bytes_eq p.name q.name ≡ false = bytes_eq-Less p.name q.name (found-after q.name (identifies types.table) ps p named.0 named.1 e) in
          later e ∙ ap ident_of (rw other refl)

  model-ident : (m : ModelNo) (given made : Fields) → MakesEach types.table given (properties_of types.table m.0) made
      → ident_in types.table (Some (Model m)) (dict tt given) ≡ ident_in types.table (Some (Model m)) (dict tt made)
  model-ident m given made each = by_property (identifier_of types.table m.0) refl
    where
      by_property : (o : Option Property) → identifier_of types.table m.0 ≡ o → ident_under o given ≡ ident_under o made
      by_property None e = refl
      by_property (Some p) e = each-ident given (properties_of types.table m.0) made each (AreNamed-properties_of types m.0 sound) p e

module _ (types : Catalog) (sound : IsSound types) where
  mutual
    -- what is made of a plain value, or of none, is plain
    pub Makes-plain : (t : ℕ) (x : Option Value) (s : Value) → Makes types.table t x s → IfSome x IsPlain → IsPlain s
    Makes-plain _ _ _ (string t s e) plain = tt
    Makes-plain _ _ _ (whole t z e) plain = plain
    Makes-plain _ _ _ (truth t b e) plain = tt
    Makes-plain _ _ _ (nothing t e) plain = tt
    Makes-plain _ _ _ (literal t l v e same) plain = plain
    Makes-plain _ _ _ (enumeration t ts s e has) plain = tt
    Makes-plain _ _ _ (identifier t s e) plain = tt
    Makes-plain _ _ _ (identifier_number t z e) plain = plain
    Makes-plain _ _ _ (reference t u v e key) plain = plain
    Makes-plain _ _ _ (safe t u v e key) plain = plain
    Makes-plain _ _ _ (safe_of_null t u e own) plain = tt
    Makes-plain _ _ _ (safe_absent t u e own) plain = tt
    Makes-plain _ _ _ (frozen t v e) plain = plain
    Makes-plain _ _ _ (frozen_absent t e) plain = tt
    Makes-plain _ _ _ (optional t u d v s e made) plain = Makes-plain u.0 (Some v) s made plain
    Makes-plain _ _ _ (optional_absent t u d s e made light) plain = Makes-plain u.0 (Some (view d)) s made (IsPlain-default types sound t u d e)
    Makes-plain _ _ _ (maybe_of_null t shape u e is) plain = tt
    Makes-plain _ _ _ (maybe_absent t shape u e is) plain = tt
    Makes-plain _ _ _ (maybe_other t shape u v s e is ne made) plain = Makes-plain u.0 (Some v) s made plain
    Makes-plain _ _ _ (union t ms m v s e c made) plain = Makes-plain m.0 (Some v) s made plain
    Makes-plain _ _ _ (refinement t u cs v e based admitted) plain = plain
    Makes-plain _ _ _ (array t u given made e each) plain = MakesItems-plain u.0 given made each plain
    Makes-plain _ _ _ (array_absent t u e) plain = tt
    Makes-plain _ _ _ (map t u given made e each) plain = MakesValues-plain u.0 given made each plain
    Makes-plain _ _ _ (map_absent t u e) plain = tt
    Makes-plain _ _ _ (model t m given made e each) plain =
        MakesEach-plain given (properties_of types.table m.0) made each (AreNamed-properties_of types m.0 sound) plain
    Makes-plain _ _ _ (name t u x s e made) plain = Makes-plain u.0 x s made plain

    pub MakesItems-plain : (t : ℕ) (given made : Items) → MakesItems types.table t given made → ArePlain given → ArePlain made
    MakesItems-plain _ _ _ (no_items t) plain = tt
    MakesItems-plain _ _ _ (one_item t v s given made one rest) plain = (Makes-plain t (Some v) s one plain.0, MakesItems-plain t given made rest plain.1)

    pub MakesValues-plain : (t : ℕ) (given made : Fields) → MakesValues types.table t given made → ArePlainMembers given → ArePlainMembers made
    MakesValues-plain _ _ _ (no_values t) plain = tt
    MakesValues-plain _ _ _ (one_value t k v s given made one key rest) plain = (
      Makes-plain t (Some v) s one plain.0,
      subst (ComesBefore k) (sym (keys-values types.table t given made rest)) plain.1,
      MakesValues-plain t given made rest plain.2,
    )

    pub MakesEach-plain : (given : Fields) (ps : List Property) (made : Fields)
        → MakesEach types.table given ps made → AreNamed ps → ArePlainMembers given → ArePlainMembers made
    MakesEach-plain _ _ _ (no_more given) named plain = tt
    MakesEach-plain _ _ _ (one_more given p ps v made one rest) named plain = (
      Makes-plain p.of.0 (value_at p.name given) v one (IfSome-value_at p.name given plain),
      subst (ComesBefore p.name) (sym (keys-made types.table given ps made rest)) named.0,
      MakesEach-plain given ps made rest named.1 plain,
    )

  mutual
    -- what is made has the same identifier
    pub ident-made : (t : ℕ) (x : Option Value) (s : Value) → Makes types.table t x s → IfSome x (λ v. IsSoIdentified types.table t v s)
    ident-made _ _ _ (string t s e) = λ n. refl
    ident-made _ _ _ (whole t z e) = λ n. refl
    ident-made _ _ _ (truth t b e) = λ n. refl
    ident-made _ _ _ (nothing t e) = λ n. refl
    ident-made _ _ _ (literal t l v e same) = λ n. refl
    ident-made _ _ _ (enumeration t ts s e has) = λ n. refl
    ident-made _ _ _ (identifier t s e) = λ n. refl
    ident-made _ _ _ (identifier_number t z e) = λ n. refl
    ident-made _ _ _ (reference t u v e key) = λ n. refl
    ident-made _ _ _ (safe t u v e key) = λ n. refl
    ident-made _ _ _ (safe_of_null t u e own) = λ n. refl
    ident-made _ _ _ (safe_absent t u e own) = tt
    ident-made _ _ _ (frozen t v e) = λ n. refl
    ident-made _ _ _ (frozen_absent t e) = tt
    ident-made _ _ _ (optional t u d v s e made) = led-ident types.table t v s (Optional u d) refl e (ident-made u.0 (Some v) s made)
    ident-made _ _ _ (optional_absent t u d s e made light) = tt
    ident-made _ _ _ (maybe_of_null t shape u e is) = λ n. refl
    ident-made _ _ _ (maybe_absent t shape u e is) = tt
    ident-made _ _ _ (maybe_other t shape u v s e is ne made) =
        maybe-ident types.table t shape u v s e is ne (like-made types.table u.0 (Some v) s made) (ident-made u.0 (Some v) s made)
    ident-made _ _ _ (union t ms m v s e c made) =
        led-ident types.table t v s (Union ms) refl e (λ n. rw (c, chosen-made types.table ms m v s c made) (ident-made m.0 (Some v) s made n))
    ident-made _ _ _ (refinement t u cs v e based admitted) = λ n. refl
    ident-made _ _ _ (array t u given made e each) = led-ident types.table t (list tt given) (list tt made) (Array u) refl e (λ n. refl)
    ident-made _ _ _ (array_absent t u e) = tt
    ident-made _ _ _ (map t u given made e each) = led-ident types.table t (dict tt given) (dict tt made) (Map u) refl e (λ n. refl)
    ident-made _ _ _ (map_absent t u e) = tt
    ident-made _ _ _ (model t m given made e each) =
        led-ident types.table t (dict tt given) (dict tt made) (Model m) refl e (λ n. model-ident types sound m given made each)
    ident-made _ _ _ (name t u x s e made) = name-ident types.table t u x s e (ident-made u.0 x s made)

  mutual
    -- what is made is made of itself
    pub Makes-again : (t : ℕ) (x : Option Value) (s : Value) → Makes types.table t x s → Makes types.table t (Some s) s
    Makes-again _ _ _ (string t s e) = string t s e
    Makes-again _ _ _ (whole t z e) = whole t z e
    Makes-again _ _ _ (truth t b e) = truth t b e
    Makes-again _ _ _ (nothing t e) = nothing t e
    Makes-again _ _ _ (literal t l v e same) = literal t l v e same
    Makes-again _ _ _ (enumeration t ts s e has) = enumeration t ts s e has
    Makes-again _ _ _ (identifier t s e) = identifier t s e
    Makes-again _ _ _ (identifier_number t z e) = identifier_number t z e
    Makes-again _ _ _ (reference t u v e key) = reference t u v e key
    Makes-again _ _ _ (safe t u v e key) = safe t u v e key
    Makes-again _ _ _ (safe_of_null t u e own) = safe_of_null t u e own
    Makes-again _ _ _ (safe_absent t u e own) = safe_of_null t u e own
    Makes-again _ _ _ (frozen t v e) = frozen t v e
    Makes-again _ _ _ (frozen_absent t e) = frozen t null e
    Makes-again _ _ _ (optional t u d v s e made) = optional t u d s s e (Makes-again u.0 (Some v) s made)
    Makes-again _ _ _ (optional_absent t u d s e made light) = optional t u d s s e (Makes-again u.0 (Some (view d)) s made)
    Makes-again _ _ _ (maybe_of_null t shape u e is) = maybe_of_null t shape u e is
    Makes-again _ _ _ (maybe_absent t shape u e is) = maybe_of_null t shape u e is
    Makes-again _ _ _ (maybe_other t shape u v s e is ne made) = maybe-again types.table t shape u s e is (Makes-again u.0 (Some v) s made)
    Makes-again _ _ _ (union t ms m v s e c made) = union t ms m s s e (chosen-again types.table ms m v s (λ k. AreNamed-properties_of types k sound) c made) (Makes-again m.0 (Some v) s made)
    Makes-again _ _ _ (refinement t u cs v e based admitted) = refinement t u cs v e based admitted
    Makes-again _ _ _ (array t u given made e each) = array t u made made e (MakesItems-again u.0 given made each)
    Makes-again _ _ _ (array_absent t u e) = array t u no_parts no_parts e (no_items u.0)
    Makes-again _ _ _ (map t u given made e each) = map t u made made e (MakesValues-again u.0 given made each)
    Makes-again _ _ _ (map_absent t u e) = map t u no_members no_members e (no_values u.0)
    Makes-again _ _ _ (model t m given made e each) =
        model t m made made e (MakesEach-again given (properties_of types.table m.0) made each (AreNamed-properties_of types m.0 sound) made (λ key v h. h))
    Makes-again _ _ _ (name t u x s e made) = name t u (Some s) s e (Makes-again u.0 x s made)

    pub MakesItems-again : (t : ℕ) (given made : Items) → MakesItems types.table t given made → MakesItems types.table t made made
    MakesItems-again _ _ _ (no_items t) = no_items t
    MakesItems-again _ _ _ (one_item t v s given made one rest) = one_item t s s made made (Makes-again t (Some v) s one) (MakesItems-again t given made rest)

    pub MakesValues-again : (t : ℕ) (given made : Fields) → MakesValues types.table t given made → MakesValues types.table t made made
    MakesValues-again _ _ _ (no_values t) = no_values t
    MakesValues-again _ _ _ (one_value t k v s given made one key rest) =
        let P : Option Ident → Type 0 = λ i. IsTrue (is_keyed k i) in
        let own = subst P (ident-made t (Some v) s one (length types.table.shapes)) key in
        one_value t k s s made made (Makes-again t (Some v) s one) own (MakesValues-again t given made rest)

    pub MakesEach-again : (given : Fields) (ps : List Property) (made : Fields)
        → MakesEach types.table given ps made → AreNamed ps → (all : Fields)
        → ((key : List ℕ) (v : Value) → value_at key made ≡ Some v → value_at key all ≡ Some v) → MakesEach types.table all ps made
    MakesEach-again _ _ _ (no_more given) named all among = no_more all
    MakesEach-again _ _ _ (one_more given p ps v made one rest) named all among =
        let same : bytes_eq p.name p.name ≡ true = bytes_eq-Equal p.name p.name (tied_itself nat_list_cmp_total p.name) in
        let here : value_at p.name (member p.name v made) ≡ Some v = rw same in
        let P : Option Value → Type 0 = λ x. Makes types.table p.of.0 x v in
        one_more all p ps v made (subst P (sym (among p.name v here)) (Makes-again p.of.0 (value_at p.name given) v one))
        (MakesEach-again given ps made rest named.1 all
        (λ key w h.
        let other : bytes_eq key p.name ≡ false = bytes_eq-Less key p.name (key-after types.table p.name given ps made rest named.0 named.1 key w h) in
        let there : value_at key (member p.name v made) ≡ Some w = rw other h in
        among key w there))

-- what is limited and made is within the limits
pub limited-Ok : (o : Outcome Value) (s : Value) → limited o ≡ Ok s → (o ≡ Ok s) × IsTrue (is_within s)
limited-Ok (Err e) s h = cc
limited-Ok (Ok v) s h = by_test (is_within v) refl
  where
    by_test : (b : Bool) → is_within v ≡ b → (◌≡◌ {A = Outcome Value} (Ok v) (Ok s)) × IsTrue (is_within s)
    by_test true e =
        let made : limited (Ok v) ≡ Ok v = rw e in
        let same : v ≡ s = cc in
        let P : Value → Type 0 = λ x. IsTrue (is_within x) in
        (ap Ok same, subst P same e)
    by_test false e =
        let refused : limited (Ok v) ≡ Err (record { path = []; rule = Large }) = rw e in
        cc

-- the table with its limits and making with them
module _ (types : Catalog) (sound : IsSound types) where
  pub making-sound : (t : ℕ) (x : Option Value) (s : Value) → making types t x ≡ Ok s → MakesWithin types.table t x s
  making-sound t x s h =
      let parts = limited-Ok (made_by types.table types.defaults t x) s h in (made_by-sound types.table types.defaults sound.defaults.made t x s parts.0, parts.1)

  pub making-complete : (t : ℕ) (x : Option Value) (s : Value) → MakesWithin types.table t x s → making types t x ≡ Ok s
  making-complete t x s h = rw (made_by-complete types.table types.defaults sound.loopless sound.all t x s h.0, h.1)

  pub making-plain : (t : ℕ) (x : Option Value) (s : Value) → making types t x ≡ Ok s → IfSome x IsPlain → IsPlain s
  making-plain t x s h plain = Makes-plain types sound t x s (making-sound t x s h).0 plain

  pub making-again : (t : ℕ) (x : Option Value) (s : Value) → making types t x ≡ Ok s → making types t (Some s) ≡ Ok s
  making-again t x s h =
      let parts = making-sound t x s h in
      making-complete t (Some s) s (Makes-again types sound t x s parts.0, parts.1)

-- what an answer says of the outcome, by the table
module _ (types : Catalog) (sound : IsSound types) (t : ℕ) (x : Option Value) where
  pub answer-table : (result : Result Snap MakeError) → Answers view result (making types t x) → IfOk result (λ s. MakesWithin types.table t x (view s))
  answer-table (Ok s) h = making-sound types sound t x (view s) h
  answer-table (Err e) h = tt

  pub answer-only : (result : Result Snap MakeError) → Answers view result (making types t x) → (s : Value) → MakesWithin types.table t x s
      → MatchResult result (λ made. view made ≡ s) (λ e. e ≡ Memory)
  answer-only (Ok made) h = λ s row. let e = making-complete types sound t x s row in cc
  answer-only (Err (Refused r)) h = λ s row. let e = making-complete types sound t x s row in cc
  answer-only (Err Memory) h = λ s row. refl

  pub answer-again : (result : Result Snap MakeError) → Answers view result (making types t x)
      → IfOk result (λ s. making types t (Some (view s)) ≡ Ok (view s))
  answer-again (Ok s) h = making-again types sound t x (view s) h
  answer-again (Err e) h = tt

  pub answer-plain : (result : Result Snap MakeError) → IfSome x IsPlain → Answers view result (making types t x) → IfOk result (λ s. IsPlain (view s))
  answer-plain (Ok s) plain h = making-plain types sound t x (view s) h plain
  answer-plain (Err e) plain h = tt

-- an error on the way is the answer
pub answer-handed_on : (types : Catalog) (t : ℕ) (x : Option Value) (e : MakeError) (result : Result Snap MakeError) → IsErrAnd result (λ r. r ≡ e)
    → Answers {T = Snap} view (Err e) (made_by types.table types.defaults t x) → Answers view result (making types t x)
answer-handed_on types t x e (Ok s) is h = absurd is
answer-handed_on types t x (Refused r) (Err f) is h =
    let P : MakeError → Type 0 = λ f. Answers {T = Snap} view (Err f) (making types t x) in subst P (sym is) (ap limited h)
answer-handed_on types t x Memory (Err f) is h =
    let P : MakeError → Type 0 = λ f. Answers {T = Snap} view (Err f) (making types t x) in subst P (sym is) tt

-- the value that is given is plain, if there is one
pub IfSome-value_of : (given : Option (Bor Snap)) → IfSome given (λ s. IsPlain (view s.now)) → IfSome (value_of given) IsPlain
IfSome-value_of None plain = tt
IfSome-value_of (Some s) plain = plain

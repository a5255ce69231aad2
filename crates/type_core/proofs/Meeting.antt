-- No scalar is taken by two members of a union that are told apart, so the one that takes it is chosen.
use Rattle.std.proofs.Common.{◌≡◌, ℕ, zero, suc, ◌<◌, List, [], ◌∷◌, map, Bool, true, false, ◌||◌, ◌&&◌, not, Contains, find, Some, slice_get, nat_le, length, refl, sym, ap, ◌∙◌, subst, arith}
use Rattle.std.proofs.Math.Bool.{or-true}
use Rattle.std.proofs.lemmas.Bool.{and_parts, or_parts}
use Rattle.std.proofs.lemmas.Bool.Decides.{Decides-int_eq}
use Rattle.std.proofs.lemmas.Option.{slice_get-map, slice_get-get_or}
use Rattle.std.proofs.lemmas.Slice.Eq.{bytes_eq-Decides}
use Rattle.std.specs.List.{list_any, list_all, filter}
use Rattle.std.specs.Option.{option_map}
use Rattle.snap_core.specs.Value.{Value, null, boolean, integer, text, list, dict}
use Rattle.snap_core.specs.declared.number.TypeNo.{TypeNo}
use Rattle.type_table.specs.Table.{Table, Catalog, shape_at}
use Rattle.type_core.specs.Sound.{IsSound}
use Rattle.type_table.specs.Names.{shape_by}
use Rattle.type_table.specs.Unions.{is_same, is_scalar, IsTaker, chosen, chosen_by, takes, scalars_of, is_among, do_meet, none_meet, is_member, is_array, is_map, models_of, is_alone, have_tag, are_apart, texts, integers, booleans, these, Scalars}
use Rattle.type_core.proofs.Telling.{takes-is_among}

-- the same scalar is one scalar
pub is_same-equal : (v w : Value) → is_same v w ≡ true → v ≡ w
is_same-equal null null h = refl
is_same-equal (boolean true) (boolean true) h = refl
is_same-equal (boolean false) (boolean false) h = refl
is_same-equal (integer y) (integer z) h = ap (λ n. integer n) ((Decides-int_eq y z).0 h)
is_same-equal (text s) (text u) h = ap (λ n. text n) ((bytes_eq-Decides s u).0 h)
is_same-equal _ _ h = cc

-- a scalar of a list that others take too
any-among : (other : Scalars) (v : Value) (vs : List Value) → is_among other v ≡ true → list_any (is_same v) vs ≡ true → list_any (is_among other) vs ≡ true
any-among other v [] takes h = cc
any-among other v (w ∷ ws) takes h = by_test (is_same v w) refl h (any-among other v ws takes)
  where
    by_test : (b : Bool) → is_same v w ≡ b → (b || list_any (is_same v) ws) ≡ true → (list_any (is_same v) ws ≡ true → list_any (is_among other) ws ≡ true)
        → (is_among other w || list_any (is_among other) ws) ≡ true
    by_test true e g rest = let P : Value → Type 0 = λ x. is_among other x ≡ true in rw (subst P (is_same-equal v w e) takes)
    by_test false e g rest = rw (rest g, or-true)

-- where the test of two finds none, no scalar is taken by both
pub do_meet-complete : (a b : Scalars) → do_meet a b ≡ false → (v : Value) → is_among a v ≡ true → ¬ (is_among b v ≡ true)
do_meet-complete (these vs) b none v h = λ k. let e = any-among b v vs k h in cc
do_meet-complete texts (these vs) none v h = λ k. let e = any-among texts v vs h k in cc
do_meet-complete integers (these vs) none v h = λ k. let e = any-among integers v vs h k in cc
do_meet-complete booleans (these vs) none v h = λ k. let e = any-among booleans v vs h k in cc
do_meet-complete texts texts none v h = cc
do_meet-complete integers integers none v h = cc
do_meet-complete booleans booleans none v h = cc
do_meet-complete texts integers none (text s) h = λ k. cc
do_meet-complete texts integers none _ h = cc
do_meet-complete texts booleans none (text s) h = λ k. cc
do_meet-complete texts booleans none _ h = cc
do_meet-complete integers texts none (integer z) h = λ k. cc
do_meet-complete integers texts none _ h = cc
do_meet-complete integers booleans none (integer z) h = λ k. cc
do_meet-complete integers booleans none _ h = cc
do_meet-complete booleans texts none (boolean b) h = λ k. cc
do_meet-complete booleans texts none _ h = cc
do_meet-complete booleans integers none (boolean b) h = λ k. cc
do_meet-complete booleans integers none _ h = cc

not-true : (x : Bool) → not x ≡ true → x ≡ false
not-true true h = cc
not-true false h = refl

-- the members are of a member's kind, and no two meet
members-apart : (table : Table) (ms : List TypeNo) → are_apart table ms ≡ true
    → (list_all (λ m. is_member (shape_by table m.0)) ms ≡ true) × (none_meet (map (λ m. scalars_of table (shape_by table m.0)) ms) ≡ true)
members-apart table ms h =
    let members = list_all (λ (m : TypeNo). is_member (shape_by table m.0)) ms in
    let apart = none_meet (map (λ (m : TypeNo). scalars_of table (shape_by table m.0)) ms) in
    let arrays = nat_le (length (filter (λ (m : TypeNo). is_array (shape_by table m.0)) ms)) 1 in
    let alone = is_alone (filter (λ (m : TypeNo). is_map (shape_by table m.0)) ms) (models_of table ms) in
    let tag = have_tag table (models_of table ms) in
    and_parts members apart (and_parts (members && apart) arrays (and_parts (members && apart && arrays) alone (and_parts (members && apart && arrays && alone) tag h).0).0).0

-- what a test finds nowhere, it finds at no place
none-there : {X : Type 0} (test : X → Bool) (xs : List X) (i : ℕ) (x : X) → list_any test xs ≡ false → slice_get xs i ≡ Some x → test x ≡ false
none-there test [] i x none here = cc
none-there test (y ∷ ys) zero x none here = let same : y ≡ x = cc here in sym (ap test same) ∙ (or_parts (test y) (list_any test ys) none).0
none-there test (y ∷ ys) (suc i) x none here = none-there test ys i x (or_parts (test y) (list_any test ys) none).1 here

-- what each item passes, the item at a place passes
all-there : {X : Type 0} (test : X → Bool) (xs : List X) (i : ℕ) (x : X) → list_all test xs ≡ true → slice_get xs i ≡ Some x → test x ≡ true
all-there test [] i x all here = cc
all-there test (y ∷ ys) zero x all here = let same : y ≡ x = cc here in sym (ap test same) ∙ (and_parts (test y) (list_all test ys) all).0
all-there test (y ∷ ys) (suc i) x all here = all-there test ys i x (and_parts (test y) (list_all test ys) all).1 here

taken-once : (ss : List Scalars) (i j : ℕ) (a b : Scalars) → none_meet ss ≡ true → i < j → slice_get ss i ≡ Some a → slice_get ss j ≡ Some b
    → (v : Value) → is_among a v ≡ true → ¬ (is_among b v ≡ true)
taken-once [] i j a b none below here there v h = cc
taken-once (s ∷ ss) i zero a b none below here there v h = absurd (omega arith)
taken-once (s ∷ ss) zero (suc j) a b none below here there v h =
    let apart = and_parts (not (list_any (do_meet s) ss)) (none_meet ss) none in
    let same : s ≡ a = cc here in
    let P : Scalars → Type 0 = λ x. do_meet x b ≡ false in
    do_meet-complete a b (subst P same (none-there (do_meet s) ss j b (not-true (list_any (do_meet s) ss) apart.0) there)) v h
taken-once (s ∷ ss) (suc i) (suc j) a b none below here there v h =
    taken-once ss i j a b (and_parts (not (list_any (do_meet s) ss)) (none_meet ss) none).1 (omega arith) here there v h

-- of two members that are told apart, the second takes no value that the first takes
pub taken-by-one : (table : Table) (ms : List TypeNo) (i j : ℕ) (t u : TypeNo) → are_apart table ms ≡ true → i < j → slice_get ms i ≡ Some t → slice_get ms j ≡ Some u
    → (v : Value) → takes table (shape_by table t.0) v ≡ true → ¬ (takes table (shape_by table u.0) v ≡ true)
taken-by-one table ms i j t u apart below here there v h =
    let a = scalars_of table (shape_by table t.0) in
    let b = scalars_of table (shape_by table u.0) in
    let parts = members-apart table ms apart in
    let first = takes-is_among table (shape_by table t.0) v (all-there (λ m. is_member (shape_by table m.0)) ms i t parts.0 here) in
    let second = takes-is_among table (shape_by table u.0) v (all-there (λ m. is_member (shape_by table m.0)) ms j u parts.0 there) in
    let scalars = λ (m : TypeNo). scalars_of table (shape_by table m.0) in
    let once = taken-once (map scalars ms) i j a b parts.1 below (slice_get-map scalars ms i ∙ ap (option_map scalars) here) (slice_get-map scalars ms j ∙ ap (option_map scalars) there) v
    (sym first ∙ h) in
    λ k. once (sym second ∙ k)

-- the first item that passes a test is found
find-first : {X : Type 0} (test : X → Bool) (xs : List X) (i : ℕ) (x : X) → slice_get xs i ≡ Some x → test x ≡ true
    → ((j : ℕ) (y : X) → j < i → slice_get xs j ≡ Some y → test y ≡ false) → find test xs ≡ Some x
find-first test [] i x here passes before = cc
find-first test (y ∷ ys) zero x here passes before =
    let same : y ≡ x = cc here in
    rw (ap test same ∙ passes) (ap Some same)
find-first test (y ∷ ys) (suc i) x here passes before =
    rw (before 0 y (omega arith) refl) (find-first test ys i x here passes (λ j z below there. before (suc j) z (omega arith) there))

-- the member that takes a scalar is found
taker-found : (table : Table) (ms : List TypeNo) (u : TypeNo) (v : Value) → are_apart table ms ≡ true → Contains ms u
    → takes table (shape_by table u.0) v ≡ true → find (λ t. takes table (shape_by table t.0) v) ms ≡ Some u
taker-found table ms u v apart among taken =
    let here : slice_get ms among.0 ≡ Some u = slice_get-get_or ms among.0 u among.1 ∙ ap Some among.2 in
    find-first (λ t. takes table (shape_by table t.0) v) ms among.0 u here taken (λ j w below there. by_test j w below there (takes table (shape_by table w.0) v) refl)
  where
    by_test : (j : ℕ) (w : TypeNo) → j < among.0 → slice_get ms j ≡ Some w → (b : Bool) → takes table (shape_by table w.0) v ≡ b
        → takes table (shape_by table w.0) v ≡ false
    by_test j w below there false e = e
    by_test j w below there true e =
        absurd (taken-by-one table ms j among.0 w u apart below there (slice_get-get_or ms among.0 u among.1 ∙ ap Some among.2) v e taken)

-- so the scalar chooses it
pub chosen-taker : (table : Table) (ms : List TypeNo) (u : TypeNo) (v : Value) → are_apart table ms ≡ true → Contains ms u → is_scalar v ≡ true
    → takes table (shape_by table u.0) v ≡ true → chosen table ms v ≡ Some u
chosen-taker table ms u (list a ps) apart among scalar taken = cc
chosen-taker table ms u (dict a given) apart among scalar taken = cc
chosen-taker table ms u null apart among scalar taken = taker-found table ms u null apart among taken
chosen-taker table ms u (boolean b) apart among scalar taken = taker-found table ms u (boolean b) apart among taken
chosen-taker table ms u (integer z) apart among scalar taken = taker-found table ms u (integer z) apart among taken
chosen-taker table ms u (text s) apart among scalar taken = taker-found table ms u (text s) apart among taken

-- the same of the union at a type of a schema
pub chosen_by-taker : (types : Catalog) → IsSound types → (t : ℕ) (u : TypeNo) (v : Value) → IsTaker types.table t u v
    → chosen_by types.table (shape_at types.table t) v ≡ Some u
chosen_by-taker types sound t u v taker =
    rw taker.union (chosen-taker types.table taker.members u v (sound.apart t taker.members taker.union) taker.among taker.scalar taker.takes)

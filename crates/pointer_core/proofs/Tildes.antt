-- Texts without a wrong `~`: what is printed is one, and what stands behind a character of one is one.
use Rattle.std.proofs.Common.{◌≡◌, ◌≢◌, ℕ, ◌+◌, ◌<◌, ◌⊎◌, inl, inr, List, [], ◌∷◌, ◌++◌, length, get_or, drop, Bool, true, false, cond, eqb, not, ◌&&◌, ◌||◌, IsTrue, Option, Some, None, refl, sym, ap, subst, ◌∙◌, arith, add-one, drop-cons, append_assoc}
use Rattle.std.proofs.lemmas.Bool.Decides.{nat_tests}
use Rattle.std.proofs.lemmas.Str.{char_from_byte, encode_ascii}
use Rattle.std.specs.Prelude.{codes}
use Rattle.std.specs.Option.{option_map}
use lib.Utf8.{encode}
use Rattle.pointer_core.specs.Path.{Path, printed, escaped, escaped_byte}
use Rattle.pointer_core.specs.Reading.{open_tilde}
use Rattle.pointer_core.specs.Spelling.{ends_escape, is_wrong, wrong_tilde_from, wrong_tilde, pointer_fault}
use Rattle.pointer_core.specs.declared.error.PointerError.{PointerError}
use Rattle.pointer_core.specs.declared.error.PointerError.TheVariants.{NoSlash, BadTilde}

-- no `~` of the text is wrong
abbrev pub Fine : List ℕ → Type 0
Fine [] = Unit {0}
Fine (b ∷ bs) = (is_wrong (b ∷ bs) ≡ false) × Fine bs

either : (test : Bool) (at : ℕ) (rest : Option ℕ) → cond test (Some at) rest ≡ None → (test ≡ false) × (rest ≡ None)
either true at rest e = absurd (cc)
either false at rest e = (refl, e)

pub fine_from_none : (at : ℕ) (text : List ℕ) → wrong_tilde_from at text ≡ None → Fine text
fine_from_none at [] e = tt
fine_from_none at (b ∷ bs) e =
    let parts = either (is_wrong (b ∷ bs)) at (wrong_tilde_from (at + 1) bs) e in
    (parts.0, fine_from_none (at + 1) bs parts.1)

pub none_from_fine : (at : ℕ) (text : List ℕ) → Fine text → wrong_tilde_from at text ≡ None
none_from_fine at [] fine = refl
none_from_fine at (b ∷ bs) fine = ap (λ test. cond test (Some at) (wrong_tilde_from (at + 1) bs)) fine.0 ∙ none_from_fine (at + 1) bs fine.1

not_mapped : (found : Option ℕ) → option_map BadTilde found ≡ None → found ≡ None
not_mapped None e = refl
not_mapped (Some at) e = absurd (cc)

pub fine_from_no_fault : (text : List ℕ) → pointer_fault (47 ∷ text) ≡ None → Fine text
fine_from_no_fault text e = (fine_from_none 0 (47 ∷ text) (not_mapped (wrong_tilde_from 0 (47 ∷ text)) e)).1

-- the search goes on behind a byte that isn't wrong, and ends at one that is
pub goes_on : (at : ℕ) (text : List ℕ) → at < length text → is_wrong (drop at text) ≡ false → wrong_tilde_from at (drop at text) ≡ wrong_tilde_from (at + 1) (drop (at + 1) text)
goes_on at text below fine =
    let parts : drop at text ≡ get_or text at 0 ∷ drop (at + 1) text = rw add-one (drop-cons text at 0 below) in
    let fine_there : is_wrong (get_or text at 0 ∷ drop (at + 1) text) ≡ false = subst (λ rest. is_wrong rest ≡ false) parts fine in
    ap (wrong_tilde_from at) parts ∙ ap (λ test. cond test (Some at) (wrong_tilde_from (at + 1) (drop (at + 1) text))) fine_there

pub ends_there : (at : ℕ) (text : List ℕ) → is_wrong text ≡ true → wrong_tilde_from at text ≡ Some at
ends_there at [] e = absurd (cc)
ends_there at (b ∷ bs) e = ap (λ test. cond test (Some at) (wrong_tilde_from (at + 1) bs)) e

-- behind a front
pub fine_behind : (front rest : List ℕ) → Fine (front ++ rest) → Fine rest
fine_behind [] rest fine = fine
fine_behind (b ∷ bs) rest fine = fine_behind bs rest fine.1

escape_ends : (text : List ℕ) → not (ends_escape text) ≡ false → (0 < length text) × ((get_or text 0 0 ≡ 48) ⊎ (get_or text 0 0 ≡ 49))
escape_ends [] e = absurd (cc)
escape_ends (b ∷ bs) e = (omega arith, grind (arith, nat_tests))

-- an open `~` is followed by one of two digits
pub digit_follows : (escape : Bool) (c : ℕ) (rest : List ℕ) → Fine (open_tilde escape ++ (encode c ++ rest)) → IsTrue escape → (c ≡ 48) ⊎ (c ≡ 49)
digit_follows false c rest fine is_open = absurd (let closed : false ≡ true = is_open in cc)
digit_follows true c rest fine is_open =
    let ends = escape_ends (encode c ++ rest) fine.0 in
    elim ends.1 as (λ _. (c ≡ 48) ⊎ (c ≡ 49)) [
      | inl e ↦ inl (char_from_byte (encode c ++ rest) rest c refl (omega arith) ends.0 ∙ e)
      | inr e ↦ inr (char_from_byte (encode c ++ rest) rest c refl (omega arith) ends.0 ∙ e)
    ]

opened : (test : Bool) (c : ℕ) (rest : List ℕ) → eqb c 126 ≡ test → Fine (encode c ++ rest) → Fine (open_tilde test ++ rest)
unfolding encode
opened false c rest e fine = fine_behind (encode c) rest fine
opened true c rest e fine =
    let is_tilde : c ≡ 126 = grind (arith, nat_tests) in
    subst Fine (ap (λ x. encode x ++ rest) is_tilde) fine

and_false : (test : Bool) → (test && false) ≡ false
and_false true = refl
and_false false = refl

and_true : (test : Bool) → (test && true) ≡ test
and_true true = refl
and_true false = refl

pub fine_next : (escape : Bool) (c : ℕ) (rest : List ℕ) → Fine (open_tilde escape ++ (encode c ++ rest)) → Fine (open_tilde (eqb c 126 && not escape) ++ rest)
fine_next true c rest fine = subst (λ test. Fine (open_tilde test ++ rest)) (sym (and_false (eqb c 126))) (fine_behind (encode c) rest fine.1)
fine_next false c rest fine = subst (λ test. Fine (open_tilde test ++ rest)) (sym (and_true (eqb c 126))) (opened (eqb c 126) c rest refl fine)

pub closed_at_end : (escape : Bool) → Fine (open_tilde escape ++ []) → escape ≡ false
closed_at_end false fine = refl
closed_at_end true fine = absurd (let e : true ≡ false = fine.0 in cc)

-- a character moves from what is left to what was read
pub moves : (old new front rest left whole : List ℕ) → new ≡ old ++ front → left ≡ front ++ rest → old ++ left ≡ whole → new ++ rest ≡ whole
moves old new front rest left whole read next held = rw (read, append_assoc, ← next) held

pub fine_moves : (escape after : Bool) (c : ℕ) (rest left : List ℕ) → after ≡ (eqb c 126 && not escape) → left ≡ encode c ++ rest → Fine (open_tilde escape ++ left) → Fine (open_tilde after ++ rest)
fine_moves escape after c rest left is next fine =
    subst (λ test. Fine (open_tilde test ++ rest)) (sym is) (fine_next escape c rest (subst (λ text. Fine (open_tilde escape ++ text)) next fine))

-- a text without a fault that doesn't begin with a `/` is empty
pub empty_without_slash : (text : List ℕ) → pointer_fault text ≡ None → ((rest : List ℕ) → text ≢ encode 47 ++ rest) → text ≡ []
unfolding encode
empty_without_slash [] e no_slash = refl
empty_without_slash (b ∷ bs) e no_slash =
    elim (eqb b 47) as (λ test. eqb b 47 ≡ test → cond test (option_map BadTilde (wrong_tilde (b ∷ bs))) (Some NoSlash) ≡ None → b ∷ bs ≡ []) [
      | true ↦ λ is found. absurd (let slash : b ≡ 47 = grind (arith, nat_tests) in no_slash bs (ap (λ x. x ∷ bs) slash))
      | false ↦ λ other found. absurd (cc)
    ] refl e

-- what is printed
byte_fine : (b : ℕ) (rest : List ℕ) → Fine rest → Fine (escaped_byte b ++ rest)
byte_fine b rest fine =
    elim (eqb b 126) as (λ test. eqb b 126 ≡ test → Fine (cond test (codes "~0") (cond (eqb b 47) (codes "~1") (b ∷ [])) ++ rest)) [
      | true ↦ λ _. (refl, (refl, fine))
      | false ↦ λ e. elim (eqb b 47) as (λ test. Fine (cond test (codes "~1") (b ∷ []) ++ rest)) [
        | true ↦ (refl, (refl, fine))
        | false ↦ (ap (λ test. test && not (ends_escape rest)) e, fine)
      ]
    ] refl

escaped_fine : (token rest : List ℕ) → Fine rest → Fine (escaped token ++ rest)
escaped_fine [] rest fine = fine
escaped_fine (b ∷ bs) rest fine = rw append_assoc (byte_fine b (escaped bs ++ rest) (escaped_fine bs rest fine))

pub printed_fine : (path : Path) → Fine (printed path)
printed_fine [] = tt
printed_fine (token ∷ tokens) = (refl, escaped_fine token (printed tokens) (printed_fine tokens))

pub no_fault_printed : (path : Path) → pointer_fault (printed path) ≡ None
no_fault_printed [] = refl
no_fault_printed (token ∷ tokens) = ap (option_map BadTilde) (none_from_fine 0 (printed (token ∷ tokens)) (printed_fine (token ∷ tokens)))

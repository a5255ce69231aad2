-- A body spells no more patches than it has bytes.
use Rattle.std.proofs.Common.{◌≡◌, ℕ, zero, suc, ◌+◌, ◌≤◌, List, [], ◌∷◌, length, map, Bool, true, false, Option, Some, None, Result, Ok, Err, refl, sym, ap, subst, ◌∙◌, arith, if◌then◌else◌}
use Rattle.std.specs.Prelude.{ℤ, option_map, option_and_then}
use Rattle.std.proofs.lemmas.List.{length-map}
use Rattle.std.specs.Option.{ok_or}
use Rattle.std.specs.Str.{is_utf8}
use Rattle.json.specs.Json as json
use Rattle.json.specs.Json.{Json, Parse, parse_map, after_end_array, items_step, items, value_with, value, if_last}
use Rattle.json.specs.Lex.{Lexeme, comma, colon, Class, quote, backslash, operator, space, other, class, Mode, between, in_word, in_string, in_escape, lex_byte, lex, Place, fresh, after_value, after_comma, after_key, begins_colon, may_begin, may_close, if_allowed, place_token, punctuate, tokens}
use Rattle.json.specs.Lex as lexeme
use Rattle.json.specs.Token.{Token}
use Rattle.json.specs.Token as token
use Rattle.serde_json.specs.Data as tree
use Rattle.serde_json.specs.Data.{Data}
use Rattle.serde_json.specs.Read.{of_json, of_items, of_members, number_of, read}
use Rattle.snap_core.specs.Value as plain
use Rattle.snap_core.specs.Value.{Value}
use Rattle.pointer_core.specs.Path.{Path}
use Rattle.patch_core.specs.Reading.{Spelling, both, spelling_of, spellings_of, spelling_for}
use Rattle.patch_core.specs.declared.patch.Patch.{Patch}
use Rattle.snap_json.specs.Reading.{value_of, items_of, members_of, whole_of, mapped, joined, under, found_in, found, syntax}
use Rattle.host_core.specs.Reading.{Lists, ListsIn, Spells, value_read}

-- no more lexemes than bytes
byte-short : (m : Mode) (c : Class) (x : ℕ) (xs : List ℕ) (k : Mode → List Lexeme) (n : ℕ) → ((next : Mode) → length (k next) ≤ n) → length (lex_byte m c x xs k) ≤ suc n
byte-short between quote x xs k n short = omega (arith, short in_string)
byte-short between backslash x xs k n short = omega (arith, short in_word)
byte-short between operator x xs k n short = omega (arith, short between)
byte-short between space x xs k n short = omega (arith, short between)
byte-short between other x xs k n short = omega (arith, short in_word)
byte-short in_word quote x xs k n short = omega (arith, short in_word)
byte-short in_word backslash x xs k n short = omega (arith, short in_word)
byte-short in_word operator x xs k n short = omega (arith, short between)
byte-short in_word space x xs k n short = omega (arith, short between)
byte-short in_word other x xs k n short = omega (arith, short in_word)
byte-short in_string quote x xs k n short = omega (arith, short between)
byte-short in_string backslash x xs k n short = omega (arith, short in_escape)
byte-short in_string operator x xs k n short = omega (arith, short in_string)
byte-short in_string space x xs k n short = omega (arith, short in_string)
byte-short in_string other x xs k n short = omega (arith, short in_string)
byte-short in_escape c x xs k n short = omega (arith, short in_string)

lex-short : (m : Mode) (xs : List ℕ) → length (lex m xs) ≤ length xs
unfolding lex
lex-short m [] = omega arith
lex-short m (x ∷ xs) = byte-short m (class x) x xs (λ next. lex next xs) (length xs) (λ next. lex-short next xs)

-- at most one token more than lexemes
allowed-short : (b : Bool) (t : Token) (k : Place → List Token) (next : Place) (n : ℕ) → length (k next) ≤ n → length (if_allowed b t k next) ≤ suc n
allowed-short true t k next n short = omega (arith, short)
allowed-short false t k next n short = omega arith

token-short : (p : Place) (t : Token) (b : Bool) (k : Place → List Token) (n : ℕ) → ((next : Place) → length (k next) ≤ n) → length (place_token p t b k) ≤ suc n
token-short p token.begin_object b k n short = allowed-short (may_begin p) token.begin_object k fresh n (short fresh)
token-short p token.end_object b k n short = allowed-short (may_close p) token.end_object k after_value n (short after_value)
token-short p token.begin_array b k n short = allowed-short (may_begin p) token.begin_array k fresh n (short fresh)
token-short p token.end_array b k n short = allowed-short (may_close p) token.end_array k after_value n (short after_value)
token-short p (token.key s) b k n short = omega arith
token-short p (token.string s) true k n short = allowed-short (may_begin p) (token.key s) k after_key n (short after_key)
token-short p (token.string s) false k n short = allowed-short (may_begin p) (token.string s) k after_value n (short after_value)
token-short p (token.number s) b k n short = allowed-short (may_begin p) (token.number s) k after_value n (short after_value)
token-short p (token.boolean c) b k n short = allowed-short (may_begin p) (token.boolean c) k after_value n (short after_value)
token-short p token.null b k n short = allowed-short (may_begin p) token.null k after_value n (short after_value)
token-short p token.bad b k n short = omega arith

punctuate-short : (p : Place) (ls : List Lexeme) → length (punctuate p ls) ≤ suc (length ls)
unfolding punctuate
punctuate-short fresh [] = omega arith
punctuate-short after_value [] = omega arith
punctuate-short after_comma [] = omega arith
punctuate-short after_key [] = omega arith
punctuate-short fresh (lexeme.token t ∷ ls) = token-short fresh t (begins_colon ls) (λ next. punctuate next ls) (suc (length ls)) (λ next. punctuate-short next ls)
punctuate-short after_value (lexeme.token t ∷ ls) = token-short after_value t (begins_colon ls) (λ next. punctuate next ls) (suc (length ls)) (λ next. punctuate-short next ls)
punctuate-short after_comma (lexeme.token t ∷ ls) = token-short after_comma t (begins_colon ls) (λ next. punctuate next ls) (suc (length ls)) (λ next. punctuate-short next ls)
punctuate-short after_key (lexeme.token t ∷ ls) = token-short after_key t (begins_colon ls) (λ next. punctuate next ls) (suc (length ls)) (λ next. punctuate-short next ls)
punctuate-short fresh (comma ∷ ls) = omega arith
punctuate-short after_value (comma ∷ ls) = omega (arith, punctuate-short after_comma ls)
punctuate-short after_comma (comma ∷ ls) = omega arith
punctuate-short after_key (comma ∷ ls) = omega arith
punctuate-short fresh (colon ∷ ls) = omega arith
punctuate-short after_value (colon ∷ ls) = omega arith
punctuate-short after_comma (colon ∷ ls) = omega arith
punctuate-short after_key (colon ∷ ls) = omega (arith, punctuate-short fresh ls)

tokens-short : (text : List ℕ) → length (tokens text) ≤ suc (length text)
tokens-short text = omega (arith, punctuate-short fresh (lex between text), lex-short between text)

-- what a reader gives
given : {A B : Type 0} (a c : A) (b d : B) → ◌≡◌ {A = Option (A × B)} (Some (a, b)) (Some (c, d)) → a ≡ c
given {A} {B} a c b d e = let pair : ◌≡◌ {A = A × B} (a, b) (c, d) = cc in ap (λ p. p.0) pair

-- an array has fewer items than there are tokens

abbrev count : json.Items → ℕ
count json.no_items = 0
count (json.item j js) = suc (count js)

abbrev IsCounted : Parse json.Items → ℕ → Type 0
IsCounted more n = (ts rest : List Token) (js : json.Items) → more ts ≡ Some (js, rest) → count js ≤ n

step-counted : (one : Parse Json) (more : Parse json.Items) (n : ℕ) → IsCounted more n → (ts rest : List Token) (js : json.Items) (end : Option (List Token))
    → items_step one more ts end ≡ Some (js, rest) → count js ≤ suc n
step-counted one more n counted ts rest js (Some r) e = let same : json.no_items ≡ js = given json.no_items js r rest e in omega (arith, ap count same)
step-counted one more n counted ts rest js None e = by (one ts) e where
  next : (j : Json) (o : Option (json.Items × List Token)) → ((ks : json.Items) (r : List Token) → o ≡ Some (ks, r) → count ks ≤ n)
      → parse_map (json.item j) o ≡ Some (js, rest) → count js ≤ suc n
  next j None few e = absurd (cc)
  next j (Some q) few e = let same : json.item j q.0 ≡ js = given (json.item j q.0) js q.1 rest e in omega (arith, ap count same, few q.0 q.1 refl)

  by : (o : Option (Json × List Token)) → option_and_then (λ p. parse_map (json.item p.0) (more p.1)) o ≡ Some (js, rest) → count js ≤ suc n
  by None e = absurd (cc)
  by (Some p) e = next p.0 (more p.1) (λ ks r h. counted p.1 r ks h) e

items-counted : (one : Parse Json) (n : ℕ) → IsCounted (items one n) n
unfolding items
items-counted one zero ts rest js e = absurd (cc)
items-counted one (suc n) ts rest js e = step-counted one (items one n) n (items-counted one n) ts rest js (after_end_array ts) e

with-counted : (a : Parse json.Items) (o : Parse json.Members) → ((ts rest : List Token) (js : json.Items) → a ts ≡ Some (js, rest) → count js ≤ length ts)
    → (ts rest : List Token) (js : json.Items) → value_with a o ts ≡ Some (json.array js, rest) → suc (count js) ≤ length ts
with-counted a o counted [] rest js e = absurd (cc)
with-counted a o counted (token.begin_object ∷ ts) rest js e = by (o ts) e where
  by : (q : Option (json.Members × List Token)) → parse_map json.object q ≡ Some (json.array js, rest) → suc (count js) ≤ suc (length ts)
  by None e = absurd (cc)
  by (Some q) e = let same : json.object q.0 ≡ json.array js = given (json.object q.0) (json.array js) q.1 rest e in absurd (cc)
with-counted a o counted (token.end_object ∷ ts) rest js e = absurd (cc)
with-counted a o counted (token.begin_array ∷ ts) rest js e = by (a ts) refl e where
  by : (q : Option (json.Items × List Token)) → a ts ≡ q → parse_map json.array q ≡ Some (json.array js, rest) → suc (count js) ≤ suc (length ts)
  by None is e = absurd (cc)
  by (Some q) is e = let array : json.array q.0 ≡ json.array js = given (json.array q.0) (json.array js) q.1 rest e in let same : q.0 ≡ js = cc in
      omega (arith, ap count same, counted ts q.1 q.0 is)
with-counted a o counted (token.end_array ∷ ts) rest js e = absurd (cc)
with-counted a o counted (token.key s ∷ ts) rest js e = absurd (cc)
with-counted a o counted (token.string s ∷ ts) rest js e = let same : json.string s ≡ json.array js = given (json.string s) (json.array js) ts rest e in absurd (cc)
with-counted a o counted (token.number s ∷ ts) rest js e = let same : json.number s ≡ json.array js = given (json.number s) (json.array js) ts rest e in absurd (cc)
with-counted a o counted (token.boolean b ∷ ts) rest js e = let same : json.boolean b ≡ json.array js = given (json.boolean b) (json.array js) ts rest e in absurd (cc)
with-counted a o counted (token.null ∷ ts) rest js e = let same : json.null ≡ json.array js = given (json.null) (json.array js) ts rest e in absurd (cc)
with-counted a o counted (token.bad ∷ ts) rest js e = absurd (cc)

array-counted : (depth : ℕ) (ts rest : List Token) (js : json.Items) → value depth ts ≡ Some (json.array js, rest) → suc (count js) ≤ length ts
unfolding value
array-counted zero ts rest js e = with-counted (λ ts. None) (λ ts. None) (λ ts rest js h. absurd (cc)) ts rest js e
array-counted (suc d) ts rest js e =
    with-counted (λ ts. items (value d) (length ts) ts) (λ ts. json.members (value d) (length ts) ts)
    (λ ts rest js h. items-counted (value d) (length ts) ts rest js h) ts rest js e

-- data, values and spellings of as many

abbrev data_count : tree.Items → ℕ
data_count tree.no_items = 0
data_count (tree.item d ds) = suc (data_count ds)

abbrev part_count : plain.Items → ℕ
part_count plain.no_parts = 0
part_count (plain.part v vs) = suc (part_count vs)

data-counted : (js : json.Items) (ds : tree.Items) → of_items js ≡ Some ds → data_count ds ≡ count js
data-counted json.no_items ds e = let same : tree.no_items ≡ ds = cc in sym (ap data_count same)
data-counted (json.item j js) ds e = by (of_json j) (of_items js) (λ es h. data-counted js es h) e where
  by : (o : Option Data) (p : Option tree.Items) → ((es : tree.Items) → p ≡ Some es → data_count es ≡ count js)
      → option_and_then (λ d. option_map (tree.item d) p) o ≡ Some ds → data_count ds ≡ suc (count js)
  by None p counted e = absurd (cc)
  by (Some d) None counted e = absurd (cc)
  by (Some d) (Some es) counted e = let same : tree.item d es ≡ ds = cc in sym (ap data_count same) ∙ ap suc (counted es refl)

parts-counted : (i : ℕ) (ds : tree.Items) (vs : plain.Items) → items_of i ds ≡ Ok vs → part_count vs ≡ data_count ds
parts-counted i tree.no_items vs e = let same : plain.no_parts ≡ vs = cc in sym (ap part_count same)
parts-counted i (tree.item d ds) vs e = by (under _ (value_of d)) (items_of (i + 1) ds) (λ ws h. parts-counted (i + 1) ds ws h) e where
  by : (o : Result Value Path) (p : Result plain.Items Path) → ((ws : plain.Items) → p ≡ Ok ws → part_count ws ≡ data_count ds)
      → joined plain.part o p ≡ Ok vs → part_count vs ≡ suc (data_count ds)
  by (Err path) p counted e = absurd (cc)
  by (Ok v) (Err path) counted e = absurd (cc)
  by (Ok v) (Ok ws) counted e = let same : plain.part v ws ≡ vs = cc in sym (ap part_count same) ∙ ap suc (counted ws refl)

spellings-counted : (vs : plain.Items) (xs : List Spelling) → spellings_of vs ≡ Some xs → length xs ≡ part_count vs
spellings-counted plain.no_parts xs e = let same : [] ≡ xs = cc in sym (ap length same)
spellings-counted (plain.part v vs) xs e = by (spelling_of v) (spellings_of vs) (λ ys h. spellings-counted vs ys h) e where
  by : (o : Option Spelling) (p : Option (List Spelling)) → ((ys : List Spelling) → p ≡ Some ys → length ys ≡ part_count vs)
      → both o p ≡ Some xs → length xs ≡ suc (part_count vs)
  by None p counted e = absurd (cc)
  by (Some x) None counted e = absurd (cc)
  by (Some x) (Some ys) counted e = let same : x ∷ ys ≡ xs = cc in sym (ap length same) ∙ ap suc (counted ys refl)

-- an array that a text is

of-array : (j : Json) (ds : tree.Items) → of_json j ≡ Some (tree.array ds) → (js : json.Items) × (j ≡ json.array js) × (of_items js ≡ Some ds)
of-array json.null ds e = absurd (cc)
of-array (json.boolean b) ds e = absurd (cc)
of-array (json.number s) ds e = by (number_of s) e where
  by : (o : Option tree.Num) → option_map tree.number o ≡ Some (tree.array ds) → (js : json.Items) × (json.number s ≡ json.array js) × (of_items js ≡ Some ds)
  by None e = absurd (cc)
  by (Some n) e = absurd (cc)
of-array (json.string s) ds e = absurd (cc)
of-array (json.array js) ds e = by (of_items js) refl e where
  by : (o : Option tree.Items) → of_items js ≡ o → option_map tree.array o ≡ Some (tree.array ds)
      → (ks : json.Items) × (json.array js ≡ json.array ks) × (of_items ks ≡ Some ds)
  by None is e = absurd (cc)
  by (Some es) is e = let same : es ≡ ds = cc in (js, refl, is ∙ ap Some same)
of-array (json.object ms) ds e = by (of_members ms tree.no_members) e where
  by : (o : Option tree.Members) → option_map tree.object o ≡ Some (tree.array ds) → (js : json.Items) × (json.object ms ≡ json.array js) × (of_items js ≡ Some ds)
  by None e = absurd (cc)
  by (Some ns) e = absurd (cc)

read-counted : (text : List ℕ) (ds : tree.Items) → read text ≡ Some (tree.array ds) → data_count ds ≤ length text
read-counted text ds e = by (value 127 (tokens text)) refl e where
  whole : (j : Json) (rest : List Token) → value 127 (tokens text) ≡ Some (j, rest) → option_and_then of_json (if_last j rest) ≡ Some (tree.array ds) → data_count ds ≤ length text
  whole j [] is e =
      let array = of-array j ds e in
      let At : Json → Type 0 = λ k. value 127 (tokens text) ≡ Some (k, []) in
      omega (arith, array-counted 127 (tokens text) [] array.0 (subst At array.1 is), tokens-short text, data-counted array.0 ds array.2)
  whole j (t ∷ ts) is e = absurd (cc)

  by : (o : Option (Json × List Token)) → value 127 (tokens text) ≡ o → option_and_then of_json (option_and_then (λ p. if_last p.0 p.1) o) ≡ Some (tree.array ds)
      → data_count ds ≤ length text
  by None is e = absurd (cc)
  by (Some p) is e = whole p.0 p.1 is e

of-list : (d : Data) (a : Unit {0}) (vs : plain.Items) → value_of d ≡ Ok (plain.list a vs) → (ds : tree.Items) × (d ≡ tree.array ds) × (items_of 0 ds ≡ Ok vs)
of-list tree.null a vs e = absurd (cc)
of-list (tree.boolean b) a vs e = absurd (cc)
of-list (tree.number n) a vs e = by (ok_or (whole_of n) []) e where
  by : (o : Result ℤ Path) → mapped plain.integer o ≡ Ok (plain.list a vs) → (ds : tree.Items) × (tree.number n ≡ tree.array ds) × (items_of 0 ds ≡ Ok vs)
  by (Ok z) e = absurd (cc)
  by (Err path) e = absurd (cc)
of-list (tree.string s) a vs e = absurd (cc)
of-list (tree.array ds) a vs e = by (items_of 0 ds) refl e where
  by : (o : Result plain.Items Path) → items_of 0 ds ≡ o → mapped (plain.list tt) o ≡ Ok (plain.list a vs)
      → (es : tree.Items) × (tree.array ds ≡ tree.array es) × (items_of 0 es ≡ Ok vs)
  by (Ok ws) is e = let same : ws ≡ vs = cc in (ds, refl, is ∙ ap Ok same)
  by (Err path) is e = absurd (cc)
of-list (tree.object ms) a vs e = by (members_of ms) e where
  by : (o : Result plain.Fields Path) → mapped (plain.dict tt) o ≡ Ok (plain.list a vs) → (ds : tree.Items) × (tree.object ms ≡ tree.array ds) × (items_of 0 ds ≡ Ok vs)
  by (Ok ns) e = absurd (cc)
  by (Err path) e = absurd (cc)

-- the patches that a body spells
pub few-patches : (body : List ℕ) (patches : List Patch) → Lists body (Ok patches) → length patches ≤ length body
few-patches body patches lists = by-utf8 (is_utf8 body) lists where
  spelled : (d : Data) (v : Value) → read body ≡ Some d → value_of d ≡ Ok v → Spells v (Ok patches) → length patches ≤ length body
  spelled d (plain.list a vs) is e reads =
      let array = of-list d a vs e in
      let At : Data → Type 0 = λ x. read body ≡ Some x in
      omega (
        arith,
        read-counted body array.0 (subst At array.1 is),
        parts-counted 0 array.0 vs array.2,
        spellings-counted vs (map spelling_for patches) reads.0,
        length-map patches spelling_for,
      )
  spelled d plain.null is e reads = absurd (cc (reads.0))
  spelled d (plain.boolean b) is e reads = absurd (cc (reads.0))
  spelled d (plain.integer z) is e reads = absurd (cc (reads.0))
  spelled d (plain.text t) is e reads = absurd (cc (reads.0))
  spelled d (plain.dict a ms) is e reads = absurd (cc (reads.0))

  by-value : (d : Data) → read body ≡ Some d → (r : Result Value Path) → value_of d ≡ r → ListsIn (value_read (found r)) (Ok patches) → length patches ≤ length body
  by-value d is (Ok v) e lists = spelled d v is e lists
  by-value d is (Err path) e lists = absurd (cc lists)

  by-data : (o : Option Data) → read body ≡ o → ListsIn (value_read (found_in o)) (Ok patches) → length patches ≤ length body
  by-data None is lists = absurd (cc lists)
  by-data (Some d) is lists = by-value d is (value_of d) refl lists

  by-utf8 : (b : Bool) → ListsIn (value_read (if b then found_in (read body) else syntax)) (Ok patches) → length patches ≤ length body
  by-utf8 true lists = by-data (read body) refl lists
  by-utf8 false lists = absurd (cc lists)

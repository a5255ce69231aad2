-- In what was read each object has its keys in strictly ascending order.
use Rattle.std.proofs.Common.{◌≡◌, ℕ, List, Option, Some, None, option_map, option_and_then, IfSome, Ordering, Less, Equal, Greater, nat_cmp, refl, ap, ◌∙◌, subst}
use Rattle.std.proofs.lemmas.Cmp.{nat_list_cmp_total}
use Rattle.std.specs.Cmp.Lexicographic.{slice_cmp}
use Rattle.std.specs.Ordering.{match_ordering, ordering_reverse}
use Rattle.std.specs.Prelude.{⊤}
use Rattle.json.specs.Json as text
use Rattle.json.specs.Lex.{tokens}
use Rattle.serde_json.specs.Data.{Data, null, boolean, number, string, array, object, Items, no_items, item, Members, no_members, member, put}
use Rattle.serde_json.specs.Read.{number_of, of_json, of_items, of_members, max_depth, read}

abbrev pub ComesFirst : List ℕ → List ℕ → Type 0
ComesFirst k l = slice_cmp nat_cmp k l ≡ Less

-- the key comes before each of these
abbrev pub AllAbove : List ℕ → Members → Type 0
AllAbove k no_members = ⊤
AllAbove k (member l d ms) = ComesFirst k l × AllAbove k ms

abbrev mutual
  pub IsOrdered : Data → Type 0
  IsOrdered null = ⊤
  IsOrdered (boolean b) = ⊤
  IsOrdered (number n) = ⊤
  IsOrdered (string s) = ⊤
  IsOrdered (array ds) = AreOrdered ds
  IsOrdered (object ms) = Ascends ms

  pub AreOrdered : Items → Type 0
  AreOrdered no_items = ⊤
  AreOrdered (item d ds) = IsOrdered d × AreOrdered ds

  pub Ascends : Members → Type 0
  Ascends no_members = ⊤
  Ascends (member k d ms) = IsOrdered d × AllAbove k ms × Ascends ms

-- ---- `put` keeps the order

pub AllAbove-lower : (k l : List ℕ) (ms : Members) → ComesFirst k l → AllAbove l ms → AllAbove k ms
AllAbove-lower k l no_members first above = tt
AllAbove-lower k l (member m d ms) first above = (nat_list_cmp_total.trans k l m first above.0, AllAbove-lower k l ms first above.1)

AllAbove-match_ordering : (o : Ordering) (k : List ℕ) (a b c : Members) → AllAbove k a → AllAbove k b → AllAbove k c → AllAbove k (match_ordering o a b c)
AllAbove-match_ordering Less k a b c p q r = p
AllAbove-match_ordering Equal k a b c p q r = q
AllAbove-match_ordering Greater k a b c p q r = r

AllAbove-put : (k l : List ℕ) (d : Data) (ms : Members) → ComesFirst k l → AllAbove k ms → AllAbove k (put l d ms)
AllAbove-put k l d no_members first above = (first, tt)
AllAbove-put k l d (member m e ms) first above =
    AllAbove-match_ordering (slice_cmp nat_cmp l m) k (member l d (member m e ms)) (member m d ms) (member m e (put l d ms)) (first, above) above (above.0, AllAbove-put k l d ms first above.1)

pub turned : (k l : List ℕ) → slice_cmp nat_cmp k l ≡ Greater → ComesFirst l k
turned k l is = nat_list_cmp_total.antisymm l k ∙ ap ordering_reverse is

Ascends-put_at : (o : Ordering) (k l : List ℕ) (d e : Data) (ms : Members) → slice_cmp nat_cmp k l ≡ o → IsOrdered d → Ascends (member l e ms) → Ascends (put k d ms)
    → Ascends (match_ordering o (member k d (member l e ms)) (member l d ms) (member l e (put k d ms)))
Ascends-put_at Less k l d e ms is part whole rest = (part, (is, AllAbove-lower k l ms is whole.1), whole)
Ascends-put_at Equal k l d e ms is part whole rest = (part, whole.1, whole.2)
Ascends-put_at Greater k l d e ms is part whole rest = (whole.0, AllAbove-put l k d ms (turned k l is) whole.1, rest)

Ascends-put : (k : List ℕ) (d : Data) (ms : Members) → IsOrdered d → Ascends ms → Ascends (put k d ms)
Ascends-put k d no_members part whole = (part, tt, tt)
Ascends-put k d (member l e ms) part whole = Ascends-put_at _ k l d e ms refl part whole (Ascends-put k d ms part whole.2)

-- ---- so what is read is in order

IfSome-map : {A B : Type 0} (P : A → Type 0) (Q : B → Type 0) (f : A → B) → ((a : A) → P a → Q (f a)) → (o : Option A) → IfSome o P → IfSome (option_map f o) Q
IfSome-map P Q f step None h = tt
IfSome-map P Q f step (Some a) h = step a h

IfSome-and_then : {A B : Type 0} (P : A → Type 0) (Q : B → Type 0) (f : A → Option B) → ((a : A) → P a → IfSome (f a) Q) → (o : Option A) → IfSome o P → IfSome (option_and_then f o) Q
IfSome-and_then P Q f step None h = tt
IfSome-and_then P Q f step (Some a) h = step a h

anything : {A : Type 0} (o : Option A) → IfSome o (λ _. ⊤)
anything None = tt
anything (Some a) = tt

mutual
  ordered-of_json : (j : text.Json) → IfSome (of_json j) IsOrdered
  ordered-of_json text.null = tt
  ordered-of_json (text.boolean b) = tt
  ordered-of_json (text.number s) = IfSome-map (λ _. ⊤) IsOrdered number (λ n h. tt) (number_of s) (anything _)
  ordered-of_json (text.string s) = tt
  ordered-of_json (text.array js) = IfSome-map AreOrdered IsOrdered array (λ ds h. h) _ (ordered-of_items js)
  ordered-of_json (text.object ms) = IfSome-map Ascends IsOrdered object (λ ds h. h) _ (ordered-of_members ms no_members tt)

  ordered-of_items : (js : text.Items) → IfSome (of_items js) AreOrdered
  ordered-of_items text.no_items = tt
  ordered-of_items (text.item j js) = IfSome-and_then IsOrdered AreOrdered _ (λ d h. IfSome-map AreOrdered AreOrdered (item d) (λ ds hs. (h, hs)) _ (ordered-of_items js)) _ (ordered-of_json j)

  ordered-of_members : (ms : text.Members) (found : Members) → Ascends found → IfSome (of_members ms found) Ascends
  ordered-of_members text.no_members found h = h
  ordered-of_members (text.member k j ms) found h = IfSome-and_then IsOrdered Ascends _ (λ d part. ordered-of_members ms (put k d found) (Ascends-put k d found part h)) _ (ordered-of_json j)

pub ordered-read : (bytes : List ℕ) (d : Data) → read bytes ≡ Some d → IsOrdered d
ordered-read bytes d is =
    let read_json : Option text.Json = option_and_then (λ p. text.if_last p.0 p.1) (text.value max_depth (tokens bytes)) in
    subst (λ o. IfSome o IsOrdered) is (IfSome-and_then (λ _. ⊤) IsOrdered of_json (λ j h. ordered-of_json j) read_json (anything read_json))

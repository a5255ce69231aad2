-- What a plain value prints as, and that it reads back.
use Rattle.std.proofs.Common.{◌≡◌, ℕ, ◌+◌, ◌≤◌, ℤ, pos, negsuc, List, [], ◌∷◌, map, false, Some, Ok, Greater, nat_cmp, decimal, refl, ap, ap₂, ◌∙◌, arith}
use Rattle.std.proofs.lemmas.Cmp.{nat_list_cmp_total}
use Rattle.std.specs.Cmp.Lexicographic.{slice_cmp}
use Rattle.std.specs.Ordering.{ordering_reverse}
use Rattle.std.specs.Prelude.{⊤}
use Rattle.serde_json.specs.Data as json
use Rattle.serde_json.specs.Data.{Data, Items, put, depth, items_depth, members_depth}
use Rattle.serde_json.specs.Find.{as_integer, of_integer, is_float}
use Rattle.serde_json.specs.View.{items_of as array_of}
use Rattle.serde_json.specs.Written.{has_float, items_have_float, members_have_float}
use Rattle.snap_core.specs.declared.snap.Snap.{Snap}
use Rattle.snap_core.specs.Value.{Value, null, boolean, integer, text, list, dict, no_parts, part, no_members, member, IsPlain, ArePlain, ArePlainMembers, depth_of, parts_depth, members_depth as record_depth, Items as PlainItems, Fields}
use Rattle.snap_core.specs.View.{view, items_view}
use Rattle.snap_json.specs.Printing.{data_of, items_data, members_data, built_of, items_built, members_built}
use Rattle.snap_json.specs.Reading.{under, mapped, joined, value_of, items_of, members_of}
use Rattle.snap_json.proofs.Ordered.{ComesFirst}

pub items_built-items_view : (xs : List Snap) → items_built (items_view xs) ≡ array_of (map (λ s. built_of (view s)) xs)
items_built-items_view [] = refl
items_built-items_view (x ∷ xs) = ap (json.item (built_of (view x))) (items_built-items_view xs)

-- ---- where keys ascend, what is built is the data itself

abbrev followed_by : json.Members → json.Members → json.Members
followed_by json.no_members more = more
followed_by (json.member k d ms) more = json.member k d (followed_by ms more)

followed_by-none : (ms : json.Members) → ms ≡ followed_by ms json.no_members
followed_by-none json.no_members = refl
followed_by-none (json.member k d ms) = ap (json.member k d) (followed_by-none ms)

followed_by-assoc : (a b c : json.Members) → followed_by (followed_by a b) c ≡ followed_by a (followed_by b c)
followed_by-assoc json.no_members b c = refl
followed_by-assoc (json.member k d a) b c = ap (json.member k d) (followed_by-assoc a b c)

-- each of these keys comes before k
abbrev AllBelow : json.Members → List ℕ → Type 0
AllBelow json.no_members k = ⊤
AllBelow (json.member l d ms) k = ComesFirst l k × AllBelow ms k

abbrev EndsBefore : json.Members → Fields → Type 0
EndsBefore done no_members = ⊤
EndsBefore done (member k v ms) = AllBelow done k

put-last : (k : List ℕ) (d : Data) (done : json.Members) → AllBelow done k → put k d done ≡ followed_by done (json.member k d json.no_members)
put-last k d json.no_members below = refl
put-last k d (json.member l e ms) below =
    let later : slice_cmp nat_cmp k l ≡ Greater = nat_list_cmp_total.antisymm k l ∙ ap ordering_reverse below.0 in
    rw later (ap (json.member l e) (put-last k d ms below.1))

AllBelow-last : (done : json.Members) (k m : List ℕ) (d : Data) → AllBelow done k → ComesFirst k m → AllBelow (followed_by done (json.member k d json.no_members)) m
AllBelow-last json.no_members k m d below first = (first, tt)
AllBelow-last (json.member l e ms) k m d below first = (nat_list_cmp_total.trans l k m below.0 first, AllBelow-last ms k m d below.1 first)

EndsBefore-last : (done : json.Members) (k : List ℕ) (d : Data) (ms : Fields) (v : Value) → AllBelow done k → ArePlainMembers (member k v ms) → EndsBefore (followed_by done (json.member k d json.no_members)) ms
EndsBefore-last done k d no_members v below plain = tt
EndsBefore-last done k d (member m w ms) v below plain = AllBelow-last done k m d below plain.1

mutual
  pub built_of-plain : (v : Value) → IsPlain v → built_of v ≡ data_of v
  built_of-plain null plain = refl
  built_of-plain (boolean b) plain = refl
  built_of-plain (integer z) plain = refl
  built_of-plain (text s) plain = refl
  built_of-plain (list a ps) plain = ap json.array (items_built-plain ps plain)
  built_of-plain (dict a ms) plain = ap json.object (members_built-plain ms plain json.no_members (nothing_before ms))

  items_built-plain : (ps : PlainItems) → ArePlain ps → items_built ps ≡ items_data ps
  items_built-plain no_parts plain = refl
  items_built-plain (part v ps) plain = ap₂ json.item (built_of-plain v plain.0) (items_built-plain ps plain.1)

  members_built-plain : (ms : Fields) → ArePlainMembers ms → (done : json.Members) → EndsBefore done ms → members_built ms done ≡ followed_by done (members_data ms)
  members_built-plain no_members plain done before = followed_by-none done
  members_built-plain (member k v ms) plain done before =
      ap (λ d. members_built ms (put k d done)) (built_of-plain v plain.0) ∙ ap (members_built ms) (put-last k (data_of v) done before)
      ∙ members_built-plain ms plain.2 (followed_by done (json.member k (data_of v) json.no_members)) (EndsBefore-last done k (data_of v) ms v before plain)
      ∙ followed_by-assoc done (json.member k (data_of v) json.no_members) (members_data ms)

  nothing_before : (ms : Fields) → EndsBefore json.no_members ms
  nothing_before no_members = tt
  nothing_before (member k v ms) = tt

-- ---- the data has no float, and is no deeper than the value

is_float-of_integer : (z : ℤ) → is_float (of_integer z) ≡ false
is_float-of_integer (pos n) = refl
is_float-of_integer (negsuc n) = refl

mutual
  pub has_float-data_of : (v : Value) → has_float (data_of v) ≡ false
  has_float-data_of null = refl
  has_float-data_of (boolean b) = refl
  has_float-data_of (integer z) = is_float-of_integer z
  has_float-data_of (text s) = refl
  has_float-data_of (list a ps) = items_have_float-items_data ps
  has_float-data_of (dict a ms) = members_have_float-members_data ms

  items_have_float-items_data : (ps : PlainItems) → items_have_float (items_data ps) ≡ false
  items_have_float-items_data no_parts = refl
  items_have_float-items_data (part v ps) = rw (has_float-data_of v) (items_have_float-items_data ps)

  members_have_float-members_data : (ms : Fields) → members_have_float (members_data ms) ≡ false
  members_have_float-members_data no_members = refl
  members_have_float-members_data (member k v ms) = rw (has_float-data_of v) (members_have_float-members_data ms)

mutual
  pub depth-data_of : (v : Value) → depth (data_of v) ≤ depth_of v
  depth-data_of null = omega arith
  depth-data_of (boolean b) = omega arith
  depth-data_of (integer z) = omega arith
  depth-data_of (text s) = omega arith
  depth-data_of (list a ps) = omega (arith, depth-items_data ps)
  depth-data_of (dict a ms) = omega (arith, depth-members_data ms)

  depth-items_data : (ps : PlainItems) → items_depth (items_data ps) ≤ parts_depth ps
  depth-items_data no_parts = omega arith
  depth-items_data (part v ps) = omega (arith, depth-data_of v, depth-items_data ps)

  depth-members_data : (ms : Fields) → members_depth (members_data ms) ≤ record_depth ms
  depth-members_data no_members = omega arith
  depth-members_data (member k v ms) = omega (arith, depth-data_of v, depth-members_data ms)

-- ---- and it is the value again

as_integer-of_integer : (z : ℤ) → as_integer (of_integer z) ≡ Some z
as_integer-of_integer (pos n) = refl
as_integer-of_integer (negsuc n) = refl

mutual
  pub value_of-data_of : (v : Value) → IsPlain v → value_of (data_of v) ≡ Ok v
  value_of-data_of null plain = refl
  value_of-data_of (boolean b) plain = refl
  value_of-data_of (integer z) plain = rw (as_integer-of_integer z, plain)
  value_of-data_of (text s) plain = refl
  value_of-data_of (list a ps) plain = ap (mapped (list a)) (items_of-items_data 0 ps plain)
  value_of-data_of (dict a ms) plain = ap (mapped (dict a)) (members_of-members_data ms plain)

  items_of-items_data : (i : ℕ) (ps : PlainItems) → ArePlain ps → items_of i (items_data ps) ≡ Ok ps
  items_of-items_data i no_parts plain = refl
  items_of-items_data i (part v ps) plain = ap₂ (λ r s. joined part (under (decimal i) r) s) (value_of-data_of v plain.0) (items_of-items_data (i + 1) ps plain.1)

  members_of-members_data : (ms : Fields) → ArePlainMembers ms → members_of (members_data ms) ≡ Ok ms
  members_of-members_data no_members plain = refl
  members_of-members_data (member k v ms) plain = ap₂ (λ r s. joined (member k) (under k r) s) (value_of-data_of v plain.0) (members_of-members_data ms plain.2)

-- The definitions, computed on examples and at their edges.
use Rattle.std.proofs.Common.{◌≡◌, List, [], ◌∷◌, Bool, true, false, Some, None, pos, negsuc, refl}
use Rattle.std.specs.Prelude.{codes, replicate}
use Rattle.snap_core.specs.Name.{is_name}
use Rattle.snap_core.specs.Value.{Value, null, integer, text, list, dict, no_parts, part, no_members, member, weight_of, depth_of, is_whole, value_at, Fields}

-- {"count":0,"focus":null,"team":[],"todos":[],"users":{}}
document : Value
document = dict tt (member (codes "count") (integer (pos 0)) (member (codes "focus") null (member (codes "team") (list tt no_parts) (member (codes "todos") (list tt no_parts) (member (codes "users") (dict tt no_members) no_members)))))

weight-document : weight_of document ≡ 30
unfolding document
weight-document = refl

depth-document : depth_of document ≡ 2
unfolding document
depth-document = refl

-- what is empty weighs 1 and is 1 deep, a list of it is 2 deep, and a text weighs its bytes besides
empty_list : Value
empty_list = list tt no_parts

empty_record : Value
empty_record = dict tt no_members

-- one character of two bytes
short_text : Value
short_text = text (195 ∷ 169 ∷ [])

weights-are : (weight_of empty_list ∷ weight_of empty_record ∷ weight_of short_text ∷ []) ≡ (1 ∷ 1 ∷ 3 ∷ [])
unfolding empty_list empty_record short_text
weights-are = refl

depths-are : (depth_of empty_list ∷ depth_of empty_record ∷ depth_of (list tt (part empty_list no_parts)) ∷ []) ≡ (1 ∷ 1 ∷ 2 ∷ [])
unfolding empty_list empty_record
depths-are = refl

-- the greatest and the least whole number, and those past them
whole : List Bool
whole = is_whole (pos 9007199254740991) ∷ is_whole (pos 9007199254740992) ∷ is_whole (negsuc 9007199254740990) ∷ is_whole (negsuc 9007199254740991) ∷ []

whole-are : whole ≡ true ∷ false ∷ true ∷ false ∷ []
unfolding whole
whole-are = refl

-- names: one letter, 64 bytes, and no more; no digit first, nothing else, not empty
names : List Bool
names = is_name (codes "a") ∷ is_name (codes "_9") ∷ is_name (replicate 64 97) ∷ is_name (replicate 65 97) ∷ is_name [] ∷ is_name (codes "9a") ∷ is_name (codes "a-b") ∷ is_name (195 ∷ 169 ∷ []) ∷ []

names-are : names ≡ true ∷ true ∷ true ∷ false ∷ false ∷ false ∷ false ∷ false ∷ []
unfolding names
names-are = refl

-- the first entry of a key counts, and a key that isn't there has none
entries : Fields
entries = member (codes "k") (integer (pos 1)) (member (codes "k") (integer (pos 2)) no_members)

found : value_at (codes "k") entries ≡ Some (integer (pos 1))
unfolding entries
found = refl

absent : value_at (codes "kk") entries ≡ None
unfolding entries
absent = refl

-- The models among a union's members, and the tag that tells them apart.
use Rattle.std.proofs.Common.{◌≡◌, ℕ, List, [], ◌∷◌, ◌++◌, map, length, get_or, ◌<◌, ◌≤◌, Bool, true, false, ◌||◌, ◌&&◌, not, Option, Some, None, is_some, if◌then◌else◌, refl, ap, append_assoc, arith}
use Rattle.std.specs.List.{list_any, find}
use Rattle.snap_core.specs.Value.{Value}
use Rattle.snap_core.specs.declared.number.TypeNo.{TypeNo}
use Rattle.snap_core.specs.declared.number.ModelNo.{ModelNo}
use Rattle.type_table.specs.Table.{Table, properties_of, names_of}
use Rattle.type_table.specs.Names.{shape_by}
use Rattle.type_table.specs.Unions.{model_of_shape, model_before, models_of, literal_at, is_literal, tagged, only_model, tells_apart, tag_of}

-- a test of what is made of each item
pub list_any-map : {X Y : Type 0} (test : Y → Bool) (f : X → Y) (xs : List X) → list_any test (map f xs) ≡ list_any (λ x. test (f x)) xs
list_any-map test f [] = refl
list_any-map test f (x ∷ xs) = ap (λ b. test (f x) || b) (list_any-map test f xs)

-- whether a member is a model with this literal under the tag
abbrev pub is_tagged : Table → List ℕ → Value → TypeNo → Bool
is_tagged table tag v t = is_some (tagged table (models_of table (t ∷ [])) tag v)

-- the first such model is this member, or among those after it
pub tagged-next : (table : Table) (t : TypeNo) (ts : List TypeNo) (tag : List ℕ) (v : Value) (b : Bool) → is_tagged table tag v t ≡ b
    → tagged table (models_of table (t ∷ ts)) tag v ≡ (if b then Some t else tagged table (models_of table ts) tag v)
tagged-next table t ts tag v b = by_model (model_of_shape (shape_by table t.0)) refl
  where
    by_test : (x : Bool) → is_some (if x then Some t else None) ≡ b
        → (if x then Some t else tagged table (models_of table ts) tag v) ≡ (if b then Some t else tagged table (models_of table ts) tag v)
    by_test true e = rw (← e)
    by_test false e = rw (← e)

    by_model : (found : Option ModelNo) → model_of_shape (shape_by table t.0) ≡ found → is_tagged table tag v t ≡ b
        → tagged table (models_of table (t ∷ ts)) tag v ≡ (if b then Some t else tagged table (models_of table ts) tag v)
    by_model None e = rw e (λ h. rw (← h))
    by_model (Some m) e = rw e (by_test (is_literal v (literal_at table tag m)))

-- the one model, where this one was found before the others
abbrev pub only_after : Option TypeNo → List (TypeNo × ModelNo) → Option TypeNo
only_after None models = only_model models
only_after (Some t) [] = Some t
only_after (Some t) (m ∷ ms) = None

pub only_after-found : (t : TypeNo) (model : Option ModelNo) (only : Option TypeNo) (models : List (TypeNo × ModelNo))
    → is_some model ≡ true → is_some only ≡ false → only_after only (model_before t model models) ≡ only_after (Some t) models
only_after-found t None only models is none = cc
only_after-found t (Some m) (Some u) models is none = cc
only_after-found t (Some m) None [] is none = refl
only_after-found t (Some m) None (n ∷ ns) is none = refl

pub only_after-second : (t : TypeNo) (model : Option ModelNo) (only : Option TypeNo) (models : List (TypeNo × ModelNo))
    → is_some model ≡ true → is_some only ≡ true → only_after only (model_before t model models) ≡ None
only_after-second t None only models is some = cc
only_after-second t (Some m) None models is some = cc
only_after-second t (Some m) (Some u) models is some = refl

pub only_after-passed : (t : TypeNo) (model : Option ModelNo) (only : Option TypeNo) (models : List (TypeNo × ModelNo))
    → is_some model ≡ false → only_after only (model_before t model models) ≡ only_after only models
only_after-passed t None only models is = refl
only_after-passed t (Some m) only models is = cc

pub only_after-end : (only : Option TypeNo) → only_after only [] ≡ only
only_after-end None = refl
only_after-end (Some t) = refl

-- one model before the others
module _ (table : Table) (name : List ℕ) (m : TypeNo × ModelNo) (rest : List (TypeNo × ModelNo)) where
  pub tells_apart-none : literal_at table name m.1 ≡ None → tells_apart table (m ∷ rest) name ≡ false
  tells_apart-none e = rw e

  pub tells_apart-some : (v : Value) (b : Bool) → literal_at table name m.1 ≡ Some v → list_any (λ n. is_literal v (literal_at table name n.1)) rest ≡ b
      → tells_apart table (m ∷ rest) name ≡ (not b && tells_apart table rest name)
  tells_apart-some v b e h = rw (e, list_any-map (is_literal v) (λ (n : TypeNo × ModelNo). literal_at table name n.1) rest, h)

-- the models found so far, and the next member's
pub model_before-found : (t : TypeNo) (model : Option ModelNo) (found rest : List (TypeNo × ModelNo))
    → (found ++ model_before t model []) ++ rest ≡ found ++ model_before t model rest
model_before-found t None found rest = append_assoc found [] rest
model_before-found t (Some m) found rest = append_assoc found ((t, m) ∷ []) rest

-- the tag of two or more models
pub tag_of-several : (table : Table) (models : List (TypeNo × ModelNo)) (d : TypeNo × ModelNo) → 2 ≤ length models
    → tag_of table models ≡ find (tells_apart table models) (names_of (properties_of table (get_or models 0 d).1.0))
tag_of-several table [] d several = absurd (omega arith)
tag_of-several table (m ∷ []) d several = absurd (omega arith)
tag_of-several table (m ∷ n ∷ ms) d several = refl

pub tag_of-few : (table : Table) (models : List (TypeNo × ModelNo)) → length models < 2 → tag_of table models ≡ None
tag_of-few table [] few = refl
tag_of-few table (m ∷ []) few = refl
tag_of-few table (m ∷ n ∷ ms) few = absurd (omega arith)

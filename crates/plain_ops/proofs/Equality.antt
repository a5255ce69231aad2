-- Equal values have equal views, and no others do.
use Rattle.std.proofs.Common.{◌≡◌, ◌↔◌, Bool, true, false, ◌&&◌, IsTrue, refl, sym, ◌∙◌, ap}
use Rattle.std.specs.Str.{bytes_eq}
use Rattle.std.proofs.lemmas.Bool.Decides.{Decides-int_eq}
use Rattle.std.proofs.lemmas.Slice.Eq.{bytes_eq-Decides}
use Rattle.snap_core.specs.Value.{Value, null, boolean, integer, text, list, dict, no_parts, part, no_members, member, Items, Fields}
use Rattle.snap_core.specs.declared.snap.Snap.{Snap}
use Rattle.snap_core.specs.View.{view}
use Rattle.snap_core.specs.Unview.{snap_of}
use Rattle.snap_core.proofs.Views.{snap_of-view}
use Rattle.edit_core.specs.Comparing.{is_equal, are_equal, have_equal}
use Rattle.edit_core.proofs.Equal.{equal-is}

both_true : (a b : Bool) → a ≡ true → b ≡ true → (a && b) ≡ true
both_true true b h k = k
both_true false b h k = cc

mutual
  equal-same : (v : Value) → is_equal v v ≡ true
  equal-same null = refl
  equal-same (boolean true) = refl
  equal-same (boolean false) = refl
  equal-same (integer z) = (Decides-int_eq z z).1 refl
  equal-same (text s) = (bytes_eq-Decides s s).1 refl
  equal-same (list a ps) = equal_items-same ps
  equal-same (dict a ms) = equal_fields-same ms

  equal_items-same : (ps : Items) → are_equal ps ps ≡ true
  equal_items-same no_parts = refl
  equal_items-same (part v ps) = both_true (is_equal v v) (are_equal ps ps) (equal-same v) (equal_items-same ps)

  equal_fields-same : (ms : Fields) → have_equal ms ms ≡ true
  equal_fields-same no_members = refl
  equal_fields-same (member k v ms) =
      both_true (bytes_eq k k && is_equal v v) (have_equal ms ms) (both_true (bytes_eq k k) (is_equal v v) ((bytes_eq-Decides k k).1 refl) (equal-same v))
      (equal_fields-same ms)

-- what a test that is exact answers
pub equal-views : (b : Bool) (s t : Snap) → IsTrue b ↔ (s ≡ t) → b ≡ is_equal (view s) (view t)
equal-views true s t h = sym (ap (λ (u : Snap). is_equal (view s) (view u)) (sym (h.0 refl)) ∙ equal-same (view s))
equal-views false s t h = by_test (is_equal (view s) (view t)) refl
  where
    by_test : (c : Bool) → is_equal (view s) (view t) ≡ c → false ≡ is_equal (view s) (view t)
    by_test false e = sym e
    by_test true e = let same : s ≡ t = sym (snap_of-view s) ∙ ap snap_of (equal-is (view s) (view t) e) ∙ snap_of-view t in let wrong : false ≡ true = h.1 same in cc

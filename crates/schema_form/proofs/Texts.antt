-- Steps along the texts of an enumeration.
use Rattle.std.proofs.Common.{◌≡◌, ℕ, ◌+◌, ◌<◌, List, ◌∷◌, ◌++◌, length, get_or, drop, Bool, true, false, ◌||◌, not, cond, decimal, refl, sym, ◌∙◌, ap, drop-cons, add-one, Bor}
use Rattle.std.specs.BTreeSet.{BTreeSet, contains, Updates}
use Rattle.std.specs.Cmp.Lexicographic.{slice_cmp}
use Rattle.std.specs.Ordering.{nat_cmp, is_eq, ordering_reverse}
use Rattle.std.specs.Str.{bytes_eq}
use Rattle.std.specs.declared.cmp.Ordering.{Ordering}
use Rattle.std.specs.declared.cmp.Ordering.TheVariants.{Less, Equal, Greater}
use Rattle.std.proofs.lemmas.Cmp.{nat_list_cmp_total}
use Rattle.std.proofs.lemmas.Map.Text.{is_eq-slice_cmp}
use Rattle.snap_core.specs.Value.{Value, null, boolean, integer, text, list, dict, part}
use Rattle.pointer_core.specs.declared.schema_rule.SchemaRule.TheVariants.{Shape, Twice}
use Rattle.snap_core.specs.declared.snap.Snap.{Snap}
use Rattle.snap_core.specs.View.{view, items_view}
use Rattle.schema_form.specs.Faults.{here, unless, under, is_among, texts_faults}
use Rattle.schema_form.specs.Layout.{texts_in}
use Rattle.schema_form.specs.Texts.{text_cmp, AreTexts}

is_eq-reverse : (o : Ordering) → is_eq (ordering_reverse o) ≡ is_eq o
is_eq-reverse Less = refl
is_eq-reverse Equal = refl
is_eq-reverse Greater = refl

pub bytes_eq-turned : (xs ys : List ℕ) → bytes_eq xs ys ≡ bytes_eq ys xs
bytes_eq-turned xs ys =
    sym (is_eq-slice_cmp xs ys) ∙ ap is_eq (nat_list_cmp_total.antisymm xs ys) ∙ is_eq-reverse (slice_cmp nat_cmp ys xs) ∙ is_eq-slice_cmp ys xs

cond-or : (b c : Bool) → cond b true c ≡ b || c
cond-or true c = refl
cond-or false c = refl

-- one more text
pub AreTexts-more : (seen more : BTreeSet (Bor (List ℕ))) (earlier : List (List ℕ)) (word : Bor (List ℕ))
    → AreTexts seen earlier → Updates text_cmp seen more word true → AreTexts more (word.now ∷ earlier)
AreTexts-more seen more earlier word are updates = λ w.
    updates.0 w ∙ ap (λ b. cond b true (contains text_cmp seen w)) (is_eq-slice_cmp word.now w.now ∙ bytes_eq-turned word.now w.now)
    ∙ ap (cond (bytes_eq w.now word.now) true) (are w) ∙ cond-or (bytes_eq w.now word.now) (is_among earlier w.now)

pub not-true : (b : Bool) → not b ≡ true → b ≡ false
not-true true e = cc
not-true false e = refl

module _ (earlier : List (List ℕ)) (vs : List Snap) (i : ℕ) (v : Snap) (within : i < length vs) (here' : v ≡ get_or vs i v) where
  left : drop i vs ≡ v ∷ drop (i + 1) vs
  left = rw (add-one, drop-cons vs i v, ← here')

  -- a text has the fault that it stands a second time, if it does
  pub texts-step : (word : List ℕ) → view v ≡ text word
      → texts_faults earlier i (items_view (drop i vs))
      ≡ under (decimal i) (unless (not (is_among earlier word)) Twice) ++ texts_faults (word ∷ earlier) (i + 1) (items_view (drop (i + 1) vs))
  texts-step word is =
      ap (λ ws. texts_faults earlier i (items_view ws)) left
      ∙ ap (λ w. texts_faults earlier i (part w (items_view (drop (i + 1) vs)))) is

  pub texts_in-step : (word : List ℕ) → view v ≡ text word → texts_in (items_view (drop i vs)) ≡ word ∷ texts_in (items_view (drop (i + 1) vs))
  texts_in-step word is = ap (λ ws. texts_in (items_view ws)) left ∙ ap (λ w. texts_in (part w (items_view (drop (i + 1) vs)))) is

  other : (w : Value) → ((s : List ℕ) → w ≡ text s → ⊥)
      → texts_faults earlier i (part w (items_view (drop (i + 1) vs))) ≡ under (decimal i) (here Shape) ++ texts_faults earlier (i + 1) (items_view (drop (i + 1) vs))
  other (text s) none = absurd (none s refl)
  other null none = refl
  other (boolean b) none = refl
  other (integer z) none = refl
  other (list a ps) none = refl
  other (dict a ms) none = refl

  -- what is no text is at fault
  pub texts-other : ((s : List ℕ) → view v ≡ text s → ⊥)
      → texts_faults earlier i (items_view (drop i vs)) ≡ under (decimal i) (here Shape) ++ texts_faults earlier (i + 1) (items_view (drop (i + 1) vs))
  texts-other none = ap (λ ws. texts_faults earlier i (items_view ws)) left ∙ other (view v) none

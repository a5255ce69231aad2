-- Texts that stood earlier in an enumeration, as a set of them.
use Rattle.std.specs.Prelude.{◌≡◌, ℕ, List}
use Rattle.std.specs.BTreeSet.{BTreeSet, contains}
use Rattle.std.specs.Cmp.Lexicographic.{slice_cmp}
use Rattle.std.specs.Ordering.{nat_cmp}
use Rattle.std.specs.declared.cmp.Ordering.{Ordering}
use Rattle.std.specs.Borrow.{Bor}
use Rattle.schema_form.specs.Faults.{is_among}

-- texts by their bytes
abbrev pub text_cmp : Bor (List ℕ) → Bor (List ℕ) → Ordering
text_cmp x y = slice_cmp nat_cmp x.now y.now

-- the set has these texts
abbrev pub AreTexts : BTreeSet (Bor (List ℕ)) → List (List ℕ) → Type 0
AreTexts seen earlier = (word : Bor (List ℕ)) → contains text_cmp seen word ≡ is_among earlier word.now

-- The property at the place of a model's identifier is that identifier.
use Rattle.std.proofs.Common.{◌≡◌, ℕ, ◌+◌, ◌<◌, ◌≤◌, List, [], ◌∷◌, length, find, cond, nat_lt, slice_get, get_or, Bool, true, false, Option, Some, None, inl, inr, refl, sym, ap, subst, ◌∙◌, arith}
use Rattle.std.specs.Prelude.{◌⊎◌}
use Rattle.std.specs.List.{position, position_or_len}
use Rattle.std.specs.Option.{option_map}
use Rattle.std.proofs.lemmas.Bool.{ltb-false, lt-ltb, le-ltb, cases_lt}
use Rattle.std.proofs.lemmas.List.{get_or_default}
use Rattle.std.proofs.lemmas.List.Sums.{position_or_len_is}
use Rattle.std.proofs.lemmas.List.Folds.{find_at}
use Rattle.std.proofs.lemmas.Option.{slice_get_past, slice_get-map}
use Rattle.type_table.specs.declared.shape.Property.{Property}
use Rattle.type_table.specs.declared.shape.ModelType.{ModelType}
use Rattle.type_table.specs.Table.{Table, properties_of}
use Rattle.type_table.specs.Identifiers.{identifies, identifier_of}
use Rattle.type_table.specs.IdentifierPlaces.{identifier_place, identifier_places, property_kept}

there-find : (table : Table) (properties : List Property) → property_kept properties (Some (identifier_place table properties)) ≡ find (identifies table) properties
there-find table properties = by_test (nat_lt (position_or_len (identifies table) properties) (length properties)) refl
  where
    by_test : (b : Bool) → nat_lt (position_or_len (identifies table) properties) (length properties) ≡ b
        → property_kept properties (Some (cond b (Some (position_or_len (identifies table) properties)) None)) ≡ find (identifies table) properties
    by_test true e = sym (find_at (identifies table) properties)
    by_test false e = sym (find_at (identifies table) properties ∙ slice_get_past properties (position_or_len (identifies table) properties) (ltb-false (position_or_len (identifies table) properties) (length properties) e))

pub identifier-kept : (table : Table) (m : ℕ) → property_kept (properties_of table m) (slice_get (identifier_places table) m) ≡ identifier_of table m
identifier-kept table m =
    ap (property_kept (properties_of table m)) (slice_get-map (λ (model : ModelType). identifier_place table model.properties) table.models m) ∙ by_model (slice_get table.models m) refl
  where
    by_model : (o : Option ModelType) → slice_get table.models m ≡ o
        → property_kept (properties_of table m) (option_map (λ (model : ModelType). identifier_place table model.properties) o) ≡ identifier_of table m
    by_model None e = rw e refl
    by_model (Some model) e = rw e (there-find table model.properties)

-- the first property that passes a test, with none before it
module _ (test : Property → Bool) (ps : List Property) where
  pub position-found : (place : ℕ) (here : Property) → place < length ps → here ≡ get_or ps place here → test here ≡ true
      → ((k : ℕ) (d : Property) → k < place → test (get_or ps k d) ≡ false) → Some place ≡ position test ps
  position-found place here within is passes before =
      let first : position_or_len test ps ≡ place = position_or_len_is test ps place here (omega arith) (λ k l. before k here l) (λ l. sym (ap test is) ∙ passes) in
      rw (first, lt-ltb place (length ps) within) refl

  pub position-further : (place : ℕ) (here : Property) → here ≡ get_or ps place here → place < length ps → test here ≡ false
      → ((k : ℕ) (d : Property) → k < place → test (get_or ps k d) ≡ false) → (k : ℕ) (d : Property) → k < place + 1 → test (get_or ps k d) ≡ false
  position-further place here is within fails before k d below = by_place (cases_lt k place)
    where
      by_place : (k < place) ⊎ (place ≤ k) → test (get_or ps k d) ≡ false
      by_place (inl earlier) = before k d earlier
      by_place (inr later) =
          let same : k ≡ place = omega arith in
          let P : ℕ → Type 0 = λ n. test (get_or ps n d) ≡ false in
          subst P (sym same) (ap test (get_or_default ps place d here within ∙ sym is) ∙ fails)

pub position-none : (test : Property → Bool) (ps : List Property) (place : ℕ) → length ps ≤ place → ((k : ℕ) (d : Property) → k < place → test (get_or ps k d) ≡ false)
    → None ≡ position test ps
position-none test [] place past before = refl
position-none test (p ∷ ps) place past before =
    let all : List Property = p ∷ ps in
    let first : position_or_len test all ≡ length all = position_or_len_is test all (length all) p (omega arith) (λ k l. before k p (omega arith)) (λ l. absurd (omega arith)) in
    rw (first, le-ltb (length all) (length all) (omega arith)) refl

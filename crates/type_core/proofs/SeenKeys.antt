-- A set of identifiers, as the definitions see it.
use Rattle.std.proofs.Common.{◌≡◌, List, [], ◌∷◌, ◌++◌, map, Bool, true, false, ◌&&◌, eqb, not, if◌then◌else◌, refl, sym, ap, ◌∙◌}
use Rattle.std.specs.List.{list_any}
use Rattle.type_core.specs.declared.seen.Key.{Key}
use Rattle.type_core.specs.Doubled.{same_key}
use Rattle.type_core.specs.declared.seen.Key.TheVariants as key
use Rattle.type_core.specs.contracts.seen.KeyPartialEq.TheImpl as row
use Rattle.type_core.specs.Seen.{key_view}

and-false : (b : Bool) → (b && false) ≡ false
and-false true = refl
and-false false = refl

-- keys are compared as identifiers of models are
pub same : (x y : Key) → (row.ghosts).eq x y ≡ same_key (key_view x) (key_view y)
same (key.Text m s) (key.Text n u) = refl
same (key.Text m s) (key.Number n z) = sym (and-false (eqb m n))
same (key.Number m y) (key.Text n u) = sym (and-false (eqb m n))
same (key.Number m y) (key.Number n z) = refl

module _ (eq : Key → Key → Bool) (same : (x y : Key) → eq x y ≡ same_key (key_view x) (key_view y)) where
  pub among-keys : (k : Key) (keys : List Key) → list_any (eq k) keys ≡ list_any (same_key (key_view k)) (map key_view keys)
  among-keys k [] = refl
  among-keys k (x ∷ keys) = rw (same k x, among-keys k keys) refl

  map-push : (keys : List Key) (k : Key) → map key_view (keys ++ k ∷ []) ≡ map key_view keys ++ key_view k ∷ []
  map-push [] k = refl
  map-push (x ∷ keys) k = ap (λ ks. key_view x ∷ ks) (map-push keys k)

  -- whether an identifier was among them, and those that are met then
  pub added-keys : (k : Key) (keys new : List Key) (fresh : Bool) → fresh ≡ not (list_any (eq k) keys)
      → new ≡ (if list_any (eq k) keys then keys else keys ++ k ∷ [])
      → (not fresh ≡ list_any (same_key (key_view k)) (map key_view keys))
      × (map key_view new ≡ (if not fresh then map key_view keys else map key_view keys ++ key_view k ∷ []))
  added-keys k keys new fresh is grown = by_test (list_any (eq k) keys) refl (rw is refl) is grown
    where
      by_test : (b : Bool) → list_any (eq k) keys ≡ b → fresh ≡ not b → fresh ≡ not (list_any (eq k) keys) → new ≡ (if list_any (eq k) keys then keys else keys ++ k ∷ [])
          → (not fresh ≡ list_any (same_key (key_view k)) (map key_view keys))
          × (map key_view new ≡ (if not fresh then map key_view keys else map key_view keys ++ key_view k ∷ []))
      by_test true e f is grown =
          let here : list_any (same_key (key_view k)) (map key_view keys) ≡ true = sym (among-keys k keys) ∙ e in
          rw (f, here) (refl, ap (map key_view) (grown ∙ ap (λ (b : Bool). if b then keys else keys ++ k ∷ []) e))
      by_test false e f is grown =
          let none : list_any (same_key (key_view k)) (map key_view keys) ≡ false = sym (among-keys k keys) ∙ e in
          rw (f, none) (refl, ap (map key_view) (grown ∙ ap (λ (b : Bool). if b then keys else keys ++ k ∷ []) e) ∙ map-push keys k)

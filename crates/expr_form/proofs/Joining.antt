-- Parts of a list that are read one after the other.
use Rattle.std.proofs.Common.{◌≡◌, List, [], ◌∷◌, ◌++◌, map, Result, Ok, Err, refl, sym, ◌∙◌, ap, append_assoc}
use Rattle.std.proofs.lemmas.List.{append-nil}
use Rattle.expr_form.specs.declared.fault.Trouble.{Trouble}
use Rattle.expr_form.specs.declared.fault.Trouble.TheVariants.{Memory, Wrong, Astray}
use Rattle.expr_form.specs.Results.{both_of, pushed_of, IsOrMemory, Makes}
use Rattle.expr_form.specs.Outcome.{Outcome, wrong, astray, reads, both, made, Tells}
use Rattle.expr_form.proofs.Telling.{tells-made, tells-both}

-- what is read first, and then the rest
abbrev pub joined : {X : Type 0} → Outcome (List X) → Outcome (List X) → Outcome (List X)
joined o rest = made (λ q. q.0 ++ q.1) (both o rest)

abbrev pub with_last : {X : Type 0} → Outcome (List X) → Outcome X → Outcome (List X)
with_last o x = made (λ q. q.0 ++ q.1 ∷ []) (both o x)

abbrev pub with_first : {X : Type 0} → Outcome X → Outcome (List X) → Outcome (List X)
with_first x rest = made (λ q. q.0 ∷ q.1) (both x rest)

pub joined-first : {X : Type 0} (o : Outcome (List X)) (x : Outcome X) (rest : Outcome (List X)) → joined o (with_first x rest) ≡ joined (with_last o x) rest
unfolding both made
joined-first (wrong f) x rest = refl
joined-first (astray p) (wrong f) rest = refl
joined-first (astray p) (astray q) (wrong f) = refl
joined-first (astray p) (astray q) (astray r) = refl
joined-first (astray p) (astray q) (reads c) = refl
joined-first (astray p) (reads b) (wrong f) = refl
joined-first (astray p) (reads b) (astray r) = refl
joined-first (astray p) (reads b) (reads c) = refl
joined-first (reads a) (wrong f) rest = refl
joined-first (reads a) (astray q) (wrong f) = refl
joined-first (reads a) (astray q) (astray r) = refl
joined-first (reads a) (astray q) (reads c) = refl
joined-first (reads a) (reads b) (wrong f) = refl
joined-first (reads a) (reads b) (astray r) = refl
joined-first (reads a) (reads b) (reads c) = ap reads (sym (append_assoc a (b ∷ []) c))

pub joined-none : {X : Type 0} (rest : Outcome (List X)) → joined (reads []) rest ≡ rest
unfolding both made
joined-none (wrong f) = refl
joined-none (astray p) = refl
joined-none (reads c) = refl

pub joined-end : {X : Type 0} (o : Outcome (List X)) → joined o (reads []) ≡ o
unfolding both made
joined-end (wrong f) = refl
joined-end (astray p) = refl
joined-end (reads a) = ap reads (append-nil a)

module _ {A B : Type 0} (seen : A → B) where
  map-last : (xs : List A) (x : A) → map seen (xs ++ x ∷ []) ≡ map seen xs ++ seen x ∷ []
  map-last [] x = refl
  map-last (y ∷ xs) x = ap (λ ys. seen y ∷ ys) (map-last xs x)

  pushed-makes : (r : Result (List A × A) Trouble) (result : Result (List A) Trouble) → IsOrMemory result (pushed_of r) → Makes (λ q l. map seen l ≡ map seen q.0 ++ seen q.1 ∷ []) r result
  pushed-makes r (Err Memory) is = tt
  pushed-makes (Ok p) (Ok l) is = let same : l ≡ p.0 ++ p.1 ∷ [] = cc in ap (map seen) same ∙ map-last p.0 p.1
  pushed-makes (Err t) (Ok l) is = absurd cc
  pushed-makes (Ok p) (Err (Wrong f)) is = absurd cc
  pushed-makes (Ok p) (Err (Astray q)) is = absurd cc
  pushed-makes (Err t) (Err (Wrong f)) is = cc
  pushed-makes (Err t) (Err (Astray q)) is = cc

  pub tells-pushed : (list : Result (List A) Trouble) (part : Result A Trouble) (result : Result (List A) Trouble) (o : Outcome (List B)) (x : Outcome B)
      → IsOrMemory result (pushed_of (both_of list part)) → Tells (map seen) list o → Tells seen part x → Tells (map seen) result (with_last o x)
  tells-pushed list part result o x is h k =
      let r : Result (List A × A) Trouble = both_of list part in
      let f : List B × B → List B = λ q. q.0 ++ q.1 ∷ [] in
      tells-made (λ (q : List A × A). (map seen q.0, seen q.1)) (map seen) f r result (both o x) (pushed-makes r result is)
      (tells-both (map seen) seen list part r o x refl h k)

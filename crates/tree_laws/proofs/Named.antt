-- A property that is found is the one of its name.
use Rattle.std.proofs.Common.{◌≡◌, ℕ, List, [], ◌∷◌, Bool, true, false, cond, find, Some, refl, ap, subst, ◌∙◌}
use Rattle.std.specs.declared.cmp.Ordering.TheVariants.{Less}
use Rattle.std.specs.Str.{bytes_eq}
use Rattle.std.proofs.lemmas.Cmp.{nat_list_cmp_total, tied_itself}
use Rattle.snap_core.specs.Value.{ComesBefore}
use Rattle.snap_core.proofs.Finding.{key_cmp, bytes_eq-Equal, bytes_eq-Less}
use Rattle.type_table.specs.declared.shape.Property.{Property}
use Rattle.type_table.specs.Table.{names_of, AreNamed}
use Rattle.type_table.specs.Unions.{property_at}

-- a text is itself
pub text-itself : (s : List ℕ) → bytes_eq s s ≡ true
text-itself s = bytes_eq-Equal s s (tied_itself nat_list_cmp_total s)

module _ (test : Property → Bool) where
  -- a property that is found behind another has a greater name
  found-after : (first : List ℕ) (ps : List Property) (p : Property) → ComesBefore first (names_of ps) → AreNamed ps → find test ps ≡ Some p → key_cmp first p.name ≡ Less
  found-after first [] p before named h = absurd (cc)
  found-after first (q ∷ ps) p before named h = by_test (test q) h (found-after q.name ps p named.0 named.1) where
    by_test : (b : Bool) → cond b (Some q) (find test ps) ≡ Some p → (find test ps ≡ Some p → key_cmp q.name p.name ≡ Less) → key_cmp first p.name ≡ Less
    by_test true e later = let same : q ≡ p = cc in let P : Property → Type 0 = λ r. key_cmp first r.name ≡ Less in subst P same before
    by_test false e later = nat_list_cmp_total.trans first q.name p.name before (later e)

  -- a property that is found is the one of its name, and passes the test
  pub record IsFound (ps : List Property) (p : Property) : Type 0 where
    pub named : property_at p.name ps ≡ Some p
    pub passes : test p ≡ true

  pub is-found : (ps : List Property) (p : Property) → AreNamed ps → find test ps ≡ Some p → IsFound ps p
  is-found [] p named h = absurd (cc)
  is-found (q ∷ ps) p named h = by_test (test q) refl h (λ e. is-found ps p named.1 e) where
    by_test : (b : Bool) → test q ≡ b → cond b (Some q) (find test ps) ≡ Some p → (find test ps ≡ Some p → IsFound ps p) → IsFound (q ∷ ps) p
    by_test true is e later =
        let same : q ≡ p = cc in
        let P : Property → Type 0 = λ r. IsFound (q ∷ ps) r in
        let own : bytes_eq q.name q.name ≡ true = text-itself q.name in
        subst P same (record { named = ap (λ b. cond b (Some q) (property_at q.name ps)) own; passes = is })
    by_test false is e later =
        let rest : IsFound ps p = later e in
        let other : bytes_eq p.name q.name ≡ false = bytes_eq-Less p.name q.name (found-after q.name ps p named.0 named.1 e) in
        record { named = ap (λ b. cond b (Some q) (property_at p.name ps)) other ∙ rest.named; passes = rest.passes }

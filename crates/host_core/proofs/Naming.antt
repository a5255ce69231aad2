-- Names ascend: with one document more, and with one fewer.
use Rattle.std.proofs.Common.{◌≡◌, ℕ, List, [], ◌∷◌, true, false, Some, None, if◌then◌else◌}
use Rattle.std.specs.declared.cmp.Ordering.TheVariants.{Less}
use Rattle.std.specs.Ordering.{nat_cmp, is_lt}
use Rattle.std.specs.Cmp.Lexicographic.{slice_cmp}
use Rattle.std.specs.Str.{bytes_eq}
use Rattle.std.proofs.lemmas.Cmp.{nat_list_cmp_total}
use Rattle.snap_core.specs.Value.{ComesBefore}
use Rattle.snap_core.proofs.Levels.{other_before, same_key, key_before}
use Rattle.host_core.specs.Docs.{Doc, Docs, AreNamed, find, names_of, with_doc, without}

before-with_doc : (name : List ℕ) (new : Doc) (docs : Docs) → slice_cmp nat_cmp name new.name ≡ Less → ComesBefore name (names_of docs)
    → ComesBefore name (names_of (with_doc new docs))
before-with_doc name new [] lower before = lower
before-with_doc name new (d ∷ docs) lower before = elim (is_lt (slice_cmp nat_cmp new.name d.name)) as
    (λ b. ComesBefore name (names_of (if b then new ∷ d ∷ docs else d ∷ with_doc new docs))) [
      | true ↦ lower
      | false ↦ before
    ]

pub named-with_doc : (new : Doc) (docs : Docs) → find new.name docs ≡ None → AreNamed docs → AreNamed (with_doc new docs)
named-with_doc new [] none named = (tt, tt)
named-with_doc new (d ∷ docs) none named = same_key new.name d.name
    (λ same e. let found : Some d.snapshot ≡ None = rw e at none in absurd (cc))
    (λ e. key_before new.name d.name
    (λ before lower. rw lower (before, named))
    (λ later. rw later (before-with_doc d.name new docs (other_before new.name d.name e later) named.0, named-with_doc new docs (rw e at none) named.1)))

pub before-first : (name : List ℕ) (d : Doc) (docs : Docs) → slice_cmp nat_cmp name d.name ≡ Less → ComesBefore d.name (names_of docs) → ComesBefore name (names_of docs)
before-first name d [] lower before = tt
before-first name d (e ∷ docs) lower before = nat_list_cmp_total.trans name d.name e.name lower before

before-without : (name gone : List ℕ) (docs : Docs) → AreNamed docs → ComesBefore name (names_of docs) → ComesBefore name (names_of (without gone docs))
before-without name gone [] named before = tt
before-without name gone (d ∷ docs) named before = elim (bytes_eq gone d.name) as
    (λ b. ComesBefore name (names_of (if b then docs else d ∷ without gone docs))) [
      | true ↦ before-first name d docs before named.0
      | false ↦ before
    ]

pub named-without : (gone : List ℕ) (docs : Docs) → AreNamed docs → AreNamed (without gone docs)
named-without gone [] named = tt
named-without gone (d ∷ docs) named = elim (bytes_eq gone d.name) as (λ b. AreNamed (if b then docs else d ∷ without gone docs)) [
  | true ↦ named.1
  | false ↦ (before-without d.name gone docs named.1 named.0, named-without gone docs named.1)
]

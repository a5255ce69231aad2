-- Keys that ascend, each before all that follow it.
use Rattle.std.proofs.Common.{◌≡◌, ℕ, ◌<◌, ◌^◌, List, [], ◌∷◌, ◌++◌, refl, ◌∙◌, ap, subst, arith}
use Rattle.std.specs.declared.cmp.Ordering.{Ordering}
use Rattle.std.specs.declared.cmp.Ordering.TheVariants.{Less, Equal, Greater}
use Rattle.std.specs.Ordering.{ordering_reverse}
use Rattle.std.proofs.lemmas.Cmp.{nat_list_cmp_total}
use Rattle.snap_core.proofs.Finding.{key_cmp}
use Rattle.edit_core.specs.Labelled.{Labelled, Entry}
use Rattle.edit_core.specs.Between.{OldPart, entries_of, Parting, parted_after, parted}
use Rattle.edit_core.proofs.Leading.{Conditions}
use Rattle.edit_core.proofs.EntryEdits.{keys-equal}

-- a key comes before each of these
abbrev pub AllAfter : List ℕ → List Entry → Type 0
AllAfter k [] = Unit {0}
AllAfter k (e ∷ es) = (key_cmp k e.0 ≡ Less) × AllAfter k es

abbrev pub Ascend : List Entry → Type 0
Ascend [] = Unit {0}
Ascend (e ∷ es) = AllAfter e.0 es × Ascend es

after-joined : (k : List ℕ) (xs ys : List Entry) → AllAfter k xs → AllAfter k ys → AllAfter k (xs ++ ys)
after-joined k [] ys h g = g
after-joined k (x ∷ xs) ys h g = (h.0, after-joined k xs ys h.1 g)

after-front : (k : List ℕ) (xs ys : List Entry) → AllAfter k (xs ++ ys) → AllAfter k xs
after-front k [] ys h = tt
after-front k (x ∷ xs) ys h = (h.0, after-front k xs ys h.1)

pub after-rest : (k : List ℕ) (xs ys : List Entry) → AllAfter k (xs ++ ys) → AllAfter k ys
after-rest k [] ys h = h
after-rest k (x ∷ xs) ys h = after-rest k xs ys h.1

pub after-further : (j k : List ℕ) (xs : List Entry) → key_cmp j k ≡ Less → AllAfter k xs → AllAfter j xs
after-further j k [] less h = tt
after-further j k (x ∷ xs) less h = (nat_list_cmp_total.trans j k x.0 less h.0, after-further j k xs less h.1)

ascend-rest : (xs ys : List Entry) → Ascend (xs ++ ys) → Ascend ys
ascend-rest [] ys h = h
ascend-rest (x ∷ xs) ys h = ascend-rest xs ys h.1

pub ascend-fewer : (xs ys zs : List Entry) → Ascend (xs ++ (ys ++ zs)) → Ascend (xs ++ zs)
ascend-fewer [] ys zs h = ascend-rest ys zs h
ascend-fewer (x ∷ xs) ys zs h =
    (after-joined x.0 xs zs (after-front x.0 xs (ys ++ zs) h.0) (after-rest x.0 ys zs (after-rest x.0 xs (ys ++ zs) h.0)), ascend-fewer xs ys zs h.1)

pub ascend-other : (xs zs : List Entry) (k : List ℕ) (x y : Labelled) → Ascend (xs ++ (k, x) ∷ zs) → Ascend (xs ++ (k, y) ∷ zs)
ascend-other [] zs k x y h = h
ascend-other (e ∷ xs) zs k x y h =
    (after-joined e.0 xs ((k, y) ∷ zs) (after-front e.0 xs ((k, x) ∷ zs) h.0) (after-rest e.0 xs ((k, x) ∷ zs) h.0), ascend-other xs zs k x y h.1)

-- those below a key and above it are among all
after-parts : (k key : List ℕ) (olds : List (List ℕ × OldPart)) → AllAfter k (entries_of olds) → AllAfter k (entries_of (parted key olds).below) × AllAfter k (entries_of (parted key olds).above)
after-parts k key [] h = (tt, tt)
after-parts k key (e ∷ es) h = go (key_cmp e.0 key) (after-parts k key es h.1) where
  go : (o : Ordering) → AllAfter k (entries_of (parted key es).below) × AllAfter k (entries_of (parted key es).above)
      → AllAfter k (entries_of (parted_after e es (parted key es) o).below) × AllAfter k (entries_of (parted_after e es (parted key es) o).above)
  go Less rest = ((h.0, rest.0), rest.1)
  go Equal rest = (tt, h.1)
  go Greater rest = (tt, h)

abbrev SetAmong : List Entry → Entry → Parting → List Entry → Type 0
SetAmong done n parts ns = Ascend ((done ++ entries_of parts.below) ++ n ∷ entries_of parts.above) × Ascend (((done ++ entries_of parts.below) ++ n ∷ []) ++ ns)

set-first : (n : Entry) (olds : List (List ℕ × OldPart)) (ns : List Entry) → Ascend (entries_of olds) → Ascend (n ∷ ns) → SetAmong [] n (parted n.0 olds) ns
set-first n [] ns h g = ((tt, tt), g)
set-first n (e ∷ es) ns h g = go (key_cmp e.0 n.0) refl (set-first n es ns h.1 g) where
  go : (o : Ordering) → key_cmp e.0 n.0 ≡ o → SetAmong [] n (parted n.0 es) ns → SetAmong [] n (parted_after e es (parted n.0 es) o) ns
  go Less less rest =
      let parts = after-parts e.0 n.0 es h.0 in
      let below : List Entry = entries_of (parted n.0 es).below in
      let above : List Entry = entries_of (parted n.0 es).above in (
        (after-joined e.0 below (n ∷ above) parts.0 (less, parts.1), rest.0),
        (after-joined e.0 (below ++ n ∷ []) ns (after-joined e.0 below (n ∷ []) parts.0 (less, tt)) (after-further e.0 n.0 ns less g.0), rest.1),
      )
  go Equal same rest = let P : List ℕ → Type 0 = λ k. AllAfter k (entries_of es) in ((subst P (keys-equal e.0 n.0 same) h.0, h.1), g)
  go Greater greater rest =
      let less : key_cmp n.0 e.0 ≡ Less = nat_list_cmp_total.antisymm n.0 e.0 ∙ ap ordering_reverse greater in
      (((less, after-further n.0 e.0 (entries_of es) less h.0), h), g)

pub ascend-set : (done : List Entry) (n : Entry) (olds : List (List ℕ × OldPart)) (ns : List Entry) → Ascend (done ++ entries_of olds) → Ascend (done ++ n ∷ ns) → SetAmong done n (parted n.0 olds) ns
ascend-set [] n olds ns h g = set-first n olds ns h g
ascend-set (d ∷ done) n olds ns h g =
    let rest = ascend-set done n olds ns h.1 g.1 in
    let below : List Entry = entries_of (parted n.0 olds).below in
    let above : List Entry = entries_of (parted n.0 olds).above in
    let parts = after-parts d.0 n.0 olds (after-rest d.0 done (entries_of olds) h.0) in
    let front : AllAfter d.0 (done ++ below) = after-joined d.0 done below (after-front d.0 done (entries_of olds) h.0) parts.0 in
    let new : AllAfter d.0 (n ∷ ns) = after-rest d.0 done (n ∷ ns) g.0 in (
      (after-joined d.0 (done ++ below) (n ∷ above) front (new.0, parts.1), rest.0),
      (after-joined d.0 ((done ++ below) ++ n ∷ []) ns (after-joined d.0 (done ++ below) (n ∷ []) front (new.0, tt)) new.1, rest.1),
    )

-- each array has fewer than 2 to the power of 32 items, and the keys of each record ascend
abbrev pub spelled : Conditions
spelled = record {
  index = λ n. n < 2 ^ 32;
  keys = Ascend;
  fewer = λ m n le h. omega arith;
  fewer_keys = ascend-fewer;
  other = ascend-other;
  set = ascend-set;
}

-- Where the document of a name stands, and what changes with it.
use Rattle.std.proofs.Common.{◌≡◌, ℕ, zero, suc, ◌+◌, ◌<◌, ◌≤◌, List, [], ◌∷◌, length, drop, get_or, set, Bool, true, false, Some, refl, sym, ap, subst, ◌∙◌, arith, if◌then◌else◌}
use Rattle.std.specs.Prelude.{remove, insert, is_some}
use Rattle.std.specs.Ordering.{nat_cmp, is_lt}
use Rattle.std.specs.Cmp.Lexicographic.{slice_cmp}
use Rattle.std.specs.Str.{bytes_eq}
use Rattle.std.proofs.lemmas.List.{at_drop_more}
use Rattle.snap_core.specs.Value.{Value}
use Rattle.host_core.specs.declared.held.Held.{Held}
use Rattle.host_core.specs.Docs.{Doc, Docs, find, names_of, with_doc, with_snapshot, without}
use Rattle.host_core.specs.Inside.{StandsAt, held_doc, held_docs, place_in, snapshot_of}

pub stands-within : (name : List ℕ) (at : ℕ) (docs : List Held) → StandsAt name at docs → at < length docs
stands-within name at [] stands = absurd stands
stands-within name zero (held ∷ docs) stands = omega arith
stands-within name (suc at) (held ∷ docs) stands = let within : at < length docs = stands-within name at docs stands.1 in omega arith

-- what is found is what the document there shows
pub stands-found : (name : List ℕ) (at : ℕ) (docs : List Held) (held : Held) → StandsAt name at docs → held ≡ get_or docs at held
    → find name (held_docs docs) ≡ Some (snapshot_of held.document)
stands-found name at [] held stands here = absurd stands
stands-found name zero (h ∷ docs) held stands here =
    ap (λ b. if b then Some (snapshot_of h.document) else find name (held_docs docs)) stands
    ∙ ap (λ (x : Held). Some (snapshot_of x.document)) (sym here)
stands-found name (suc at) (h ∷ docs) held stands here =
    ap (λ b. if b then Some (snapshot_of h.document) else find name (held_docs docs)) stands.0
    ∙ stands-found name at docs held stands.1 here

-- another document of the same name in its place
pub stands-set : (name : List ℕ) (at : ℕ) (docs : List Held) (held new : Held) → StandsAt name at docs → held ≡ get_or docs at held → new.name ≡ held.name
    → held_docs (set docs at new) ≡ with_snapshot name (snapshot_of new.document) (held_docs docs)
stands-set name at [] held new stands here same = absurd stands
stands-set name zero (h ∷ docs) held new stands here same =
    let doc : List ℕ → Doc = λ n. record { name = n; snapshot = snapshot_of new.document } in
    let v : Value = snapshot_of new.document in
    ap (λ n. doc n ∷ held_docs docs) (same ∙ ap (λ (x : Held). x.name) here)
    ∙ sym (ap (λ b. if b then doc h.name ∷ held_docs docs else held_doc h ∷ with_snapshot name v (held_docs docs)) stands)
stands-set name (suc at) (h ∷ docs) held new stands here same =
    let v : Value = snapshot_of new.document in
    let doc : Doc = record { name = h.name; snapshot = v } in
    ap (λ ds. held_doc h ∷ ds) (stands-set name at docs held new stands.1 here same)
    ∙ sym (ap (λ b. if b then doc ∷ held_docs docs else held_doc h ∷ with_snapshot name v (held_docs docs)) stands.0)

-- the documents without it
pub stands-removed : (name : List ℕ) (at : ℕ) (docs : List Held) → StandsAt name at docs → held_docs (remove docs at) ≡ without name (held_docs docs)
stands-removed name at [] stands = absurd stands
stands-removed name zero (h ∷ docs) stands = sym (ap (λ b. if b then held_docs docs else held_doc h ∷ without name (held_docs docs)) stands)
stands-removed name (suc at) (h ∷ docs) stands =
    ap (λ ds. held_doc h ∷ ds) (stands-removed name at docs stands.1)
    ∙ sym (ap (λ b. if b then held_docs docs else held_doc h ∷ without name (held_docs docs)) stands.0)

-- with one more where it goes
pub place-within : (name : List ℕ) (docs : List Held) → place_in name docs ≤ length docs
place-within name [] = omega arith
place-within name (h ∷ docs) = elim (is_lt (slice_cmp nat_cmp name h.name)) as (λ b. (if b then zero else suc (place_in name docs)) ≤ suc (length docs)) [
  | true ↦ omega arith
  | false ↦ let within : place_in name docs ≤ length docs = place-within name docs in omega arith
]

pub place-inserted : (name : List ℕ) (docs : List Held) (new : Held) → new.name ≡ name
    → held_docs (insert docs (place_in name docs) new) ≡ with_doc (held_doc new) (held_docs docs)
place-inserted name [] new same = refl
place-inserted name (h ∷ docs) new same =
    let By : Bool → ℕ → Type 0 = λ b at.
    held_docs (insert (h ∷ docs) at new) ≡ (if b then held_doc new ∷ held_doc h ∷ held_docs docs else held_doc h ∷ with_doc (held_doc new) (held_docs docs)) in
    let Named : List ℕ → Type 0 = λ n. By (is_lt (slice_cmp nat_cmp n h.name)) (place_in name (h ∷ docs)) in
    let Either : Bool → Type 0 = λ b. By b (if b then zero else suc (place_in name docs)) in
    let further : Either false = ap (λ ds. held_doc h ∷ ds) (place-inserted name docs new same) in
    subst Named (sym same) (elim (is_lt (slice_cmp nat_cmp name h.name)) as Either [ true ↦ refl | false ↦ further ])

-- going on behind a document
pub drop-here : (docs : List Held) (i : ℕ) (h : Held) → i < length docs → h ≡ get_or docs i h → drop i docs ≡ h ∷ drop (i + 1) docs
drop-here docs i h within here = at_drop_more (λ (ds : List Held). ds) docs i h within ∙ ap (λ (x : Held). x ∷ drop (i + 1) docs) (sym here)

pub stands-next : (name : List ℕ) (i : ℕ) (all before after : List Held) (h : Held) → before ≡ h ∷ after → bytes_eq name h.name ≡ false
    → ((j : ℕ) → StandsAt name j before → StandsAt name (i + j) all) → (j : ℕ) → StandsAt name j after → StandsAt name (i + 1 + j) all
stands-next name i all before after h is other so-far j stands =
    let P : ℕ → Type 0 = λ k. StandsAt name k all in
    let Q : List Held → Type 0 = λ ds. StandsAt name (suc j) ds in
    let further : i + suc j ≡ i + 1 + j = omega arith in
    subst P further (so-far (suc j) (subst Q (sym is) (other, stands)))

pub stands-here : (name : List ℕ) (i : ℕ) (all before after : List Held) (h : Held) → before ≡ h ∷ after → bytes_eq name h.name ≡ true
    → ((j : ℕ) → StandsAt name j before → StandsAt name (i + j) all) → StandsAt name i all
stands-here name i all before after h is same so-far =
    let P : ℕ → Type 0 = λ k. StandsAt name k all in
    let Q : List Held → Type 0 = λ ds. StandsAt name zero ds in
    let here : i + zero ≡ i = omega arith in
    subst P here (so-far zero (subst Q (sym is) same))

pub find-next : (name : List ℕ) (before after : List Held) (h : Held) → before ≡ h ∷ after → bytes_eq name h.name ≡ false
    → find name (held_docs before) ≡ find name (held_docs after)
find-next name before after h is other =
    ap (λ ds. find name (held_docs ds)) is ∙ ap (λ b. if b then Some (snapshot_of h.document) else find name (held_docs after)) other

pub place-next : (name : List ℕ) (i : ℕ) (all before after : List Held) (h : Held) → before ≡ h ∷ after → is_lt (slice_cmp nat_cmp name h.name) ≡ false
    → place_in name all ≡ i + place_in name before → place_in name all ≡ i + 1 + place_in name after
place-next name i all before after h is other so-far =
    let step : place_in name before ≡ suc (place_in name after) =
    ap (λ ds. place_in name ds) is ∙ ap (λ b. if b then zero else suc (place_in name after)) other in
    omega arith

pub place-here : (name : List ℕ) (i : ℕ) (all before after : List Held) (h : Held) → before ≡ h ∷ after → is_lt (slice_cmp nat_cmp name h.name) ≡ true
    → place_in name all ≡ i + place_in name before → i ≡ place_in name all
place-here name i all before after h is first so-far =
    let step : place_in name before ≡ zero = ap (λ ds. place_in name ds) is ∙ ap (λ b. if b then zero else suc (place_in name after)) first in
    omega arith

-- a document that shows what it showed
pub with_snapshot-same : (name : List ℕ) (v : Value) (docs : Docs) → find name docs ≡ Some v → with_snapshot name v docs ≡ docs
with_snapshot-same name v [] found = refl
with_snapshot-same name v (d ∷ docs) found = elim (bytes_eq name d.name) as
    (λ b. (if b then Some d.snapshot else find name docs) ≡ Some v → (if b then record { name = d.name; snapshot = v } ∷ docs else d ∷ with_snapshot name v docs) ≡ d ∷ docs) [
      | true ↦ λ e. let same : v ≡ d.snapshot = cc e in ap (λ (w : Value). record { name = d.name; snapshot = w } ∷ docs) same
      | false ↦ λ e. ap (λ ds. d ∷ ds) (with_snapshot-same name v docs e)
    ] found

-- names stay where a snapshot changes
pub names-with_snapshot : (name : List ℕ) (v : Value) (docs : Docs) → names_of (with_snapshot name v docs) ≡ names_of docs
names-with_snapshot name v [] = refl
names-with_snapshot name v (d ∷ docs) = elim (bytes_eq name d.name) as
    (λ b. names_of (if b then record { name = d.name; snapshot = v } ∷ docs else d ∷ with_snapshot name v docs) ≡ d.name ∷ names_of docs) [
      | true ↦ refl
      | false ↦ ap (λ ns. d.name ∷ ns) (names-with_snapshot name v docs)
    ]

-- what is found where a document of the name stands
pub stands-some : (name : List ℕ) (at : ℕ) (docs : List Held) → StandsAt name at docs → is_some (find name (held_docs docs)) ≡ true
stands-some name at [] stands = absurd stands
stands-some name zero (h ∷ docs) stands = ap (λ b. is_some (if b then Some (snapshot_of h.document) else find name (held_docs docs))) stands
stands-some name (suc at) (h ∷ docs) stands =
    ap (λ b. is_some (if b then Some (snapshot_of h.document) else find name (held_docs docs))) stands.0 ∙ stands-some name at docs stands.1

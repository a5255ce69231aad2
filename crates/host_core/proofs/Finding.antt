-- What is found of a name once documents change.
use Rattle.std.proofs.Common.{◌≡◌, ℕ, List, [], ◌∷◌, true, false, Some, None, refl, sym, ap, subst, ◌∙◌, if◌then◌else◌}
use Rattle.std.specs.Prelude.{◌≢◌}
use Rattle.std.specs.Ordering.{is_eq}
use Rattle.std.specs.Str.{bytes_eq}
use Rattle.std.proofs.lemmas.Map.Text.{is_eq-slice_cmp}
use Rattle.std.proofs.lemmas.Slice.Eq.{bytes_eq-Decides}
use Rattle.snap_core.specs.Value.{Value, ComesBefore}
use Rattle.snap_core.proofs.Levels.{same_key, key_before}
use Rattle.host_core.proofs.Naming.{before-first}
use Rattle.host_core.specs.Docs.{Doc, Docs, AreNamed, find, names_of, with_doc, with_snapshot, without}

bytes_eq-same : (name : List ℕ) → bytes_eq name name ≡ true
bytes_eq-same name = (bytes_eq-Decides name name).1 refl

-- of the name of the document that changes

pub find-with_snapshot : (name : List ℕ) (v w : Value) (docs : Docs) → find name docs ≡ Some w → find name (with_snapshot name v docs) ≡ Some v
find-with_snapshot name v w [] found = absurd (cc)
find-with_snapshot name v w (d ∷ docs) found = same_key name d.name
    (λ same e. rw (e, e) refl)
    (λ e. rw (e, e) (find-with_snapshot name v w docs (rw e at found)))

pub with_snapshot-same : (name : List ℕ) (v : Value) (docs : Docs) → find name docs ≡ Some v → with_snapshot name v docs ≡ docs
with_snapshot-same name v [] found = absurd (cc)
with_snapshot-same name v (d ∷ docs) found = same_key name d.name
    (λ same e. let shown : Some d.snapshot ≡ Some v = rw e at found in
    let equal : v ≡ d.snapshot = cc in rw e (ap (λ (w : Value). record d { snapshot = w } ∷ docs) equal))
    (λ e. rw e (ap (λ (ds : Docs). d ∷ ds) (with_snapshot-same name v docs (rw e at found))))

pub find-with_doc : (new : Doc) (docs : Docs) → find new.name docs ≡ None → find new.name (with_doc new docs) ≡ Some new.snapshot
find-with_doc new [] none = rw (bytes_eq-same new.name) refl
find-with_doc new (d ∷ docs) none = same_key new.name d.name
    (λ same e. let found : Some d.snapshot ≡ None = rw e at none in absurd (cc))
    (λ e. key_before new.name d.name
    (λ before lower. rw (lower, bytes_eq-same new.name) refl)
    (λ later. rw (later, e) (find-with_doc new docs (rw e at none))))

none-before : (name : List ℕ) (docs : Docs) → ComesBefore name (names_of docs) → AreNamed docs → find name docs ≡ None
none-before name [] before named = refl
none-before name (d ∷ docs) before named =
    let other : bytes_eq name d.name ≡ false = sym (is_eq-slice_cmp name d.name) ∙ ap is_eq before in
    rw other (none-before name docs (before-first name d docs before named.0) named.1)

pub find-without : (name : List ℕ) (docs : Docs) → AreNamed docs → find name (without name docs) ≡ None
find-without name [] named = refl
find-without name (d ∷ docs) named = same_key name d.name
    (λ same e. let P : List ℕ → Type 0 = λ n. ComesBefore n (names_of docs) in rw e (none-before name docs (subst P (sym same) named.0) named.1))
    (λ e. rw (e, e) (find-without name docs named.1))

-- of another name

pub find-with_snapshot-other : (name other : List ℕ) (v : Value) (docs : Docs) → name ≢ other → find other (with_snapshot name v docs) ≡ find other docs
find-with_snapshot-other name other v [] apart = refl
find-with_snapshot-other name other v (d ∷ docs) apart = same_key name d.name
    (λ same e. same_key other d.name
    (λ alike f. absurd (apart (same ∙ sym alike)))
    (λ f. rw (e, f) refl))
    (λ e. rw e (ap (λ o. if bytes_eq other d.name then Some d.snapshot else o) (find-with_snapshot-other name other v docs apart)))

pub find-with_doc-other : (new : Doc) (other : List ℕ) (docs : Docs) → new.name ≢ other → find other (with_doc new docs) ≡ find other docs
find-with_doc-other new other [] apart = same_key other new.name
    (λ same e. absurd (apart (sym same)))
    (λ e. rw e refl)
find-with_doc-other new other (d ∷ docs) apart = key_before new.name d.name
    (λ before lower. same_key other new.name
    (λ same e. absurd (apart (sym same)))
    (λ e. rw (lower, e) refl))
    (λ later. rw later (ap (λ o. if bytes_eq other d.name then Some d.snapshot else o) (find-with_doc-other new other docs apart)))

pub find-without-other : (name other : List ℕ) (docs : Docs) → name ≢ other → find other (without name docs) ≡ find other docs
find-without-other name other [] apart = refl
find-without-other name other (d ∷ docs) apart = same_key name d.name
    (λ same e. same_key other d.name
    (λ alike f. absurd (apart (same ∙ sym alike)))
    (λ f. rw (e, f) refl))
    (λ e. rw e (ap (λ o. if bytes_eq other d.name then Some d.snapshot else o) (find-without-other name other docs apart)))

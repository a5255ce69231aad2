-- Documents that are held, as they are told.
use Rattle.std.proofs.Common.{◌≡◌, ℕ, zero, suc, ◌≤◌, List, [], ◌∷◌, length, map, take, refl, sym, ap, ◌∙◌, arith}
use Rattle.snap_core.specs.Value.{Value}
use Rattle.snap_core.specs.Unview.{snap_of}
use Rattle.snap_core.proofs.Views.{view-snap_of}
use Rattle.host_core.specs.declared.held.Held.{Held}
use Rattle.host_core.specs.Docs.{Doc, names_of}
use Rattle.host_core.specs.Host.{Shown, doc_of}
use Rattle.host_core.specs.Inside.{held_doc, held_docs, shown_of, snapshot_of}

pub told : (docs : List Held) → map doc_of (map shown_of docs) ≡ held_docs docs
told [] = refl
told (held ∷ docs) =
    let doc : Value → Doc = λ v. record { name = held.name; snapshot = v } in
    ap (λ (v : Value). doc v ∷ map doc_of (map shown_of docs)) (view-snap_of (snapshot_of held.document)) ∙ ap (λ ds. held_doc held ∷ ds) (told docs)

abbrev shown_doc : Doc → Shown
shown_doc d = record { name = d.name; snapshot = snap_of d.snapshot }

shown-of-docs : (docs : List Held) → map shown_of docs ≡ map shown_doc (held_docs docs)
shown-of-docs [] = refl
shown-of-docs (held ∷ docs) = ap (λ ds. shown_of held ∷ ds) (shown-of-docs docs)

pub told-same : (docs others : List Held) → held_docs docs ≡ held_docs others → map shown_of docs ≡ map shown_of others
told-same docs others same = shown-of-docs docs ∙ ap (map shown_doc) same ∙ sym (shown-of-docs others)

-- the names of documents that are held
pub names-told : (n : ℕ) (docs : List Held) → length docs ≤ n → map (λ (held : Held). held.name) (take n docs) ≡ names_of (held_docs docs)
names-told zero [] within = refl
names-told zero (held ∷ docs) within = absurd (omega arith)
names-told (suc n) [] within = refl
names-told (suc n) (held ∷ docs) within = ap (λ ns. held.name ∷ ns) (names-told n docs (omega arith))

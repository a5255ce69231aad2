-- How many parts a list or a record has.
use Rattle.std.proofs.Common.{◌≡◌, ℕ, pos, List, [], ◌∷◌, length, Ok, refl, ap, ◌∙◌}
use Rattle.std.specs.Str.{chars}
use Rattle.std.specs.Prelude.{suc}
use Rattle.snap_core.specs.declared.snap.Field.{Field}
use Rattle.snap_core.specs.declared.snap.Snap.{Snap}
use Rattle.snap_core.specs.declared.snap.Snap
use Rattle.snap_core.specs.Value.{integer}
use Rattle.snap_core.specs.Level.{count_of}
use Rattle.snap_core.specs.View.{view, items_view, fields_view}
use Rattle.snap_core.proofs.InPlace
use Rattle.snap_core.proofs.Views
use Rattle.plain_ops.specs.Outcome.{Outcome}
use Rattle.plain_ops.specs.Applied.{field_count, size_of}

pub fields_counted : (fs : List Field) → field_count (fields_view fs) ≡ length fs
fields_counted [] = refl
fields_counted (f ∷ fs) = ap suc (fields_counted fs)

pub items_counted : (vs : List Snap) → count_of (items_view vs) ≡ length vs
items_counted vs = InPlace.count_of-items_view vs

-- the size of a list, of a record and of a text
pub size-list : (vs : List Snap) (s : Snap) → s ≡ Snap.List vs → size_of (view s) ≡ Ok (integer (pos (length vs)))
size-list vs s e =
    let f : ℕ → Outcome = λ n. Ok (integer (pos n)) in
    ap (λ (t : Snap). size_of (view t)) e ∙ ap size_of (Views.view-List vs) ∙ ap f (items_counted vs)

pub size-dict : (fs : List Field) (s : Snap) → s ≡ Snap.Dict fs → size_of (view s) ≡ Ok (integer (pos (length fs)))
size-dict fs s e =
    let f : ℕ → Outcome = λ n. Ok (integer (pos n)) in
    ap (λ (t : Snap). size_of (view t)) e ∙ ap size_of (Views.view-Dict fs) ∙ ap f (fields_counted fs)

pub size-text : (t : List ℕ) (s : Snap) → s ≡ Snap.Text t → size_of (view s) ≡ Ok (integer (pos (length (chars t))))
size-text t s e = ap (λ (u : Snap). size_of (view u)) e ∙ ap size_of (Views.view-Text t)

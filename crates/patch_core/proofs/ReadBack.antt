-- What is printed is read back, and nothing else is.
use Rattle.std.proofs.Common.{◌≡◌, List, [], ◌∷◌, map, Option, Some, None, refl, sym, ◌∙◌, ap}
use Rattle.std.specs.Prelude.{All}
use Rattle.std.specs.Option.{option_map}
use Rattle.std.proofs.lemmas.List.Elements.{All-head, All-tail, All-map, All-weaker}
use Rattle.snap_core.specs.View.{view, parts_of}
use Rattle.snap_core.specs.Unview.{snap_of}
use Rattle.snap_core.specs.declared.snap.Snap.{Snap}
use Rattle.snap_core.proofs.Views.{snap_of-view}
use Rattle.pointer_core.specs.Path.{Path}
use Rattle.pointer_core.proofs.Tokens.{same_path}
use Rattle.patch_core.specs.Fits.{HasValues, IsComplete}
use Rattle.patch_core.specs.Printing.{printed_patch}
use Rattle.patch_core.specs.Reading.{Spelling, spelling_of, spellings_of, spelling_for, without_old}
use Rattle.patch_core.specs.Laws.{PrintedReadsBack, ReadsOnce}
use Rattle.patch_core.specs.declared.patch.PatchOp.{PatchOp}
use Rattle.patch_core.specs.declared.patch.PatchOp.TheVariants.{Add, Replace, Remove}
use Rattle.patch_core.specs.declared.patch.Patch.{Patch}

abbrev made : PatchOp → Path → Option Snap → Option Snap → Patch
made op path value old = record { op = op; path = path; value = value; old = old }

-- one patch is read back
one_read : (op : PatchOp) (path : Path) (value old : Option Snap) → HasValues op value old → spelling_of (printed_patch (made op path value old)) ≡ Some (spelling_for (made op path value old))
one_read Add path (Some v) None has = refl
one_read Replace path (Some v) (Some o) has = refl
one_read Remove path None (Some o) has = refl
one_read op path value old has = absurd has

all_read : (ps : List Patch) → All IsComplete ps → spellings_of (parts_of (map printed_patch ps)) ≡ Some (map spelling_for (map without_old ps))
all_read [] complete = refl
all_read (p ∷ ps) complete =
    rw (one_read p.op p.path p.value p.old (All-head IsComplete p ps complete), all_read ps (All-tail IsComplete p ps complete)) refl

pub printed_reads_back : PrintedReadsBack
printed_reads_back ps complete =
    (all_read ps complete, All-map (λ p. p.old ≡ None) without_old ps (All-weaker IsComplete (λ (p : Patch). (without_old p).old ≡ None) (λ p has. refl) ps complete))

back_to : (a : Option Snap) → option_map snap_of (option_map view a) ≡ a
back_to None = refl
back_to (Some v) = ap Some (snap_of-view v)

-- a value is that of one Snap
same_value : (a b : Option Snap) → option_map view a ≡ option_map view b → a ≡ b
same_value a b same = sym (back_to a) ∙ ap (option_map snap_of) same ∙ back_to b

pub same_made : (op op' : PatchOp) (path path' : Path) (value value' old old' : Option Snap) → op ≡ op' → path ≡ path' → value ≡ value' → old ≡ old' → made op path value old ≡ made op' path' value' old'
same_made op op' path path' value value' old old' a b c d =
    ap (λ x. made x path value old) a ∙ ap (λ x. made op' x value old) b ∙ ap (λ x. made op' path' x old) c ∙ ap (made op' path' value') d

same_patch : (p q : Patch) → spelling_for p ≡ spelling_for q → p.old ≡ None → q.old ≡ None → p ≡ q
same_patch p q same none none' =
    same_made p.op q.op p.path q.path p.value q.value p.old q.old
    (ap (λ (s : Spelling). s.op) same)
    (same_path p.path q.path (ap (λ (s : Spelling). s.path) same))
    (same_value p.value q.value (ap (λ (s : Spelling). s.value) same))
    (none ∙ sym none')

same_patches : (ps qs : List Patch) → map spelling_for ps ≡ map spelling_for qs → All (λ p. p.old ≡ None) ps → All (λ p. p.old ≡ None) qs → ps ≡ qs
same_patches [] [] same none none' = refl
same_patches [] (q ∷ qs) same none none' = cc
same_patches (p ∷ ps) [] same none none' = cc
same_patches (p ∷ ps) (q ∷ qs) same none none' =
    let P : Patch → Type 0 = λ x. x.old ≡ None in
    let first : spelling_for p ≡ spelling_for q = cc in
    let later : map spelling_for ps ≡ map spelling_for qs = cc in
    let heads : p ≡ q = same_patch p q first (All-head P p ps none) (All-head P q qs none') in
    let tails : ps ≡ qs = same_patches ps qs later (All-tail P p ps none) (All-tail P q qs none') in
    cc

pub reads_once : ReadsOnce
reads_once v ps qs one other =
    let both_lists : Some (map spelling_for ps) ≡ Some (map spelling_for qs) = sym one.0 ∙ other.0 in
    let lists : map spelling_for ps ≡ map spelling_for qs = cc in
    same_patches ps qs lists one.1 other.1

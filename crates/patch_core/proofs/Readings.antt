-- What is read of a list, one item after another.
use Rattle.std.proofs.Common.{◌≡◌, ℕ, suc, ◌+◌, ◌<◌, List, [], ◌∷◌, ◌++◌, length, get_or, drop, map, Option, Some, None, Err, refl, sym, ◌∙◌, ap, subst, append_assoc, add-one, drop-cons, arith}
use Rattle.std.specs.Prelude.{Any, IsSome, IsSomeAnd, IsErrOf, MatchOption}
use Rattle.std.specs.Option.{option_map}
use Rattle.std.proofs.Math.Seq.{get_or-append_seam}
use Rattle.std.proofs.lemmas.List.{map-append, length-append}
use Rattle.snap_core.specs.Value.{Value, Items, part}
use Rattle.snap_core.specs.View.{view, items_view}
use Rattle.snap_core.specs.declared.snap.Snap.{Snap}
use Rattle.pointer_core.specs.Spelling.{pointer_fault}
use Rattle.pointer_core.specs.declared.error.PointerError.{PointerError}
use Rattle.pointer_core.specs.declared.error.PointerError.TheVariants as pointer
use Rattle.patch_core.specs.PathError.{path_error}
use Rattle.patch_core.specs.Reading.{Spelling, spelling_of, spellings_of, both, spelling_for, HasNoPointer, IsPathRefused, IsRefusedAs}
use Rattle.patch_core.specs.declared.error.PatchError.{PatchError}
use Rattle.patch_core.specs.declared.error.PatchError.TheVariants as error
use Rattle.patch_core.specs.declared.patch.Patch.{Patch}

-- why a path isn't read, as the reading of pointers tells it
pub path_refused : (X : Type 0) (text : List ℕ) (p : PointerError) → MatchOption (pointer_fault text) (p ≡ pointer.Memory) (λ fault. IsErrOf {T = X} (Err p) fault) → IsPathRefused text (path_error p)
path_refused X text pointer.Memory why = tt
path_refused X text pointer.NoSlash why = elim (pointer_fault text) as (λ o. MatchOption o (pointer.NoSlash ≡ pointer.Memory) (λ fault. IsErrOf {T = X} (Err pointer.NoSlash) fault) → IsSome o) [
  | None ↦ λ e. cc
  | Some fault ↦ λ e. refl
] why
path_refused X text (pointer.BadTilde at) why = elim (pointer_fault text) as (λ o. MatchOption o (pointer.BadTilde at ≡ pointer.Memory) (λ fault. IsErrOf {T = X} (Err (pointer.BadTilde at)) fault) → IsSome o) [
  | None ↦ λ e. cc
  | Some fault ↦ λ e. refl
] why

any_behind : (P : Spelling → Type 0) (front : List Spelling) (s : Spelling) (rest : List Spelling) → P s → Any P (front ++ s ∷ rest)
any_behind P front s rest bad = (length front, s, omega (arith, length-append front (s ∷ rest)), get_or-append_seam front s rest s, bad)

-- the item that isn't read makes the list one that isn't read, for the same reason
pub refused_here : (ps : List Patch) (v : Value) (rest : Items) (all : Option (List Spelling)) (e : PatchError)
    → option_map (λ later. map spelling_for ps ++ later) (both (spelling_of v) (spellings_of rest)) ≡ all → IsSome all
    → IsRefusedAs HasNoPointer (spelling_of v) e → IsRefusedAs (Any HasNoPointer) all e
refused_here ps v rest all error.Memory is some why = tt
refused_here ps v rest all error.Path is some why = absurd why
refused_here ps v rest all error.Index is some why = absurd why
refused_here ps v rest all error.Shape is some why =
    let here : option_map (λ later. map spelling_for ps ++ later) (both None (spellings_of rest)) ≡ all = rw why at is in
    sym here
refused_here ps v rest all error.Pointer is some why =
    elim (spelling_of v) as (λ o. option_map (λ later. map spelling_for ps ++ later) (both o (spellings_of rest)) ≡ all → IsSomeAnd o HasNoPointer → IsSomeAnd all (Any HasNoPointer)) [
      | None ↦ λ e bad. absurd bad
      | Some s ↦ λ e bad. elim (spellings_of rest) as (λ q. option_map (λ later. map spelling_for ps ++ later) (both (Some s) q) ≡ all → IsSomeAnd all (Any HasNoPointer)) [
        | None ↦ λ f. let P : Option (List Spelling) → Type 0 = IsSome in let none : IsSome {T = List Spelling} None = subst P (sym f) some in cc
        | Some later ↦ λ f. let P : Option (List Spelling) → Type 0 = λ o. IsSomeAnd o (Any HasNoPointer) in subst P f (any_behind HasNoPointer (map spelling_for ps) s later bad)
      ] e
    ] is why

-- one more patch is read
pub read_more : (ps : List Patch) (p : Patch) (v : Value) (rest : Items) → spelling_of v ≡ Some (spelling_for p)
    → option_map (λ later. map spelling_for (ps ++ p ∷ []) ++ later) (spellings_of rest) ≡ option_map (λ later. map spelling_for ps ++ later) (both (spelling_of v) (spellings_of rest))
read_more ps p v rest is = rw is (elim (spellings_of rest) as (λ q. option_map (λ later. map spelling_for (ps ++ p ∷ []) ++ later) q ≡ option_map (λ later. map spelling_for ps ++ later) (both (Some (spelling_for p)) q)) [
  | None ↦ refl
  | Some later ↦ ap Some (ap (λ front. front ++ later) (map-append spelling_for ps (p ∷ [])) ∙ append_assoc (map spelling_for ps) (spelling_for p ∷ []) later)
])

-- the items that are left begin with the one that is read next
pub left_part : (vs : List Snap) (i : ℕ) (v : Snap) → i < length vs → v ≡ get_or vs i v → items_view (drop i vs) ≡ part (view v) (items_view (drop (i + 1) vs))
left_part vs i v within is =
    ap items_view (drop-cons vs i v within) ∙ ap (λ (x : Snap). part (view x) (items_view (drop (suc i) vs))) (sym is) ∙ ap (λ k. part (view v) (items_view (drop k vs))) (sym (add-one i))

-- The bodies of replies are plain.
use Rattle.std.proofs.Common.{◌≡◌, ℕ, List, [], ◌∷◌, map, refl, sym, subst}
use Rattle.std.specs.Prelude.{All, codes}
use Rattle.std.proofs.lemmas.List.Elements.{All-nil, All-cons, All-head, All-tail}
use Rattle.snap_core.specs.Value.{Value, text, list, IsPlain, ArePlain, ArePlainMembers}
use Rattle.snap_core.specs.View.{parts_of, members_of}
use Rattle.pointer_core.specs.Path.{Path, printed}
use Rattle.pointer_core.specs.declared.refusal.Rule.{Rule}
use Rattle.pointer_core.specs.declared.refusal.Rule.TheVariants.{Thrown}
use Rattle.patch_core.specs.declared.patch.Patch.{Patch}
use Rattle.patch_core.specs.Inverse.{inverse_of}
use Rattle.patch_core.specs.Printing.{HasPlainValues}
use Rattle.patch_core.proofs.PrintedPlain.{all_plain}
use Rattle.host_replies.specs.Replies.{only, reason_of, change_body, refused_change_body}

texts_plain : (names : List (List ℕ)) → ArePlain (parts_of (map text names))
texts_plain [] = tt
texts_plain (name ∷ names) = (tt, texts_plain names)

-- the record of a list of names
pub names_plain : (key : List ℕ) (names : List (List ℕ)) (shown body : Value) → shown ≡ list tt (parts_of (map text names)) → body ≡ only key shown → IsPlain body
names_plain key names shown body is made =
    let P : Value → Type 0 = λ v. IsPlain v in
    let Q : Value → Type 0 = λ v. IsPlain (only key v) in
    subst P (sym made) (subst Q (sym is) (texts_plain names, tt, tt))

-- the inverse of a patch has its values
inverses_plain : (ps : List Patch) → All HasPlainValues ps → All HasPlainValues (map inverse_of ps)
inverses_plain [] plain = All-nil HasPlainValues
inverses_plain (p ∷ ps) plain =
    let here = All-head HasPlainValues p ps plain in
    All-cons HasPlainValues (inverse_of p) (map inverse_of ps) (here.1, here.0) (inverses_plain ps (All-tail HasPlainValues p ps plain))

-- the record of a change
pub change_plain : (ps : List Patch) (body : Value) → body ≡ change_body ps → All HasPlainValues ps → IsPlain body
change_plain ps body is plain =
    let P : Value → Type 0 = λ v. IsPlain v in
    subst P (sym is) (all_plain (map inverse_of ps) (inverses_plain ps plain), refl, (all_plain ps plain, tt, tt))

-- the entries of a refusal from its path on
refusal-plain : (path : Path) (rule : Rule) → ArePlainMembers (members_of ((codes "path", text (printed path)) ∷ reason_of rule))
refusal-plain path (Thrown reason) = (tt, refl, (tt, tt, tt))
refusal-plain path rule = (tt, tt, tt)

-- the record of a refused action that kept patches
pub refused_change_plain : (rule : Rule) (path : Path) (ps : List Patch) (body : Value) → body ≡ refused_change_body rule path ps → All HasPlainValues ps → IsPlain body
refused_change_plain rule path ps body is plain =
    let P : Value → Type 0 = λ v. IsPlain v in
    subst P (sym is) (tt, refl, (all_plain (map inverse_of ps) (inverses_plain ps plain), refl, (all_plain ps plain, refl, refusal-plain path rule)))

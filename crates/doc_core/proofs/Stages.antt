-- What is staged, step by step.
use Rattle.std.proofs.Common.{◌≡◌, List, [], Result, Ok, Err, IfOk, IfErr, OnOk, refl, sym, ap, subst, ◌∙◌, arith}
use Rattle.std.specs.Prelude.{All}
use Rattle.snap_core.specs.Value.{Value}
use Rattle.patch_core.specs.declared.patch.Patch.{Patch}
use Rattle.patch_core.specs.Printing.{HasPlainValues}
use Rattle.type_table.specs.Table.{Catalog}
use Rattle.type_core.specs.Making.{Outcome}
use Rattle.type_core.specs.Sound.{IsSound}
use Rattle.tree_core.specs.declared.error.TreeError.{TreeError}
use Rattle.tree_core.specs.declared.error.TreeError.TheVariants.{Memory, Refused}
use Rattle.tree_core.specs.Outcome.{◌>>=◌}
use Rattle.tree_core.specs.Recorded as recorded
use Rattle.tree_core.specs.Recorded.{IsTreeOf, after_list, after_settling, new_tree, state_of}
use Rattle.tree_core.specs.State.{State, committed, mark_of, count_of, Calls, patches_of}
use Rattle.live_tree.specs.Laws.{CanBeTakenBack, given_back}
use Rattle.live_tree.proofs.TakenBack.{kept-together}
use Rattle.doc_core.specs.declared.document.Staged.{Staged}
use Rattle.doc_core.specs.declared.error.DocError as doc
use Rattle.doc_core.specs.declared.error.DocError.TheVariants as error
use Rattle.doc_core.specs.Changing.{created, tried}
use Rattle.doc_core.specs.Documents.{IsDocument}
use Rattle.doc_core.specs.Errors.{tree_error}
use Rattle.doc_core.specs.Staging.{Stages, Leaves, Settles, IsAsBefore, IsStagedAfter}

abbrev pub settled : Catalog → State → Outcome State
settled types written = Ok (after_settling types written)

pub as-same : (before after : State) → after ≡ before → IsAsBefore before after
as-same before after same =
    record { tree = ap (λ (s : State). s.tree) same; calls = ap (λ (s : State). s.calls) same; later = omega (arith, ap (λ (s : State). s.next) same) }

pub as-given-back : (before now after : State) → CanBeTakenBack before now → after ≡ given_back before now → IsAsBefore before after
as-given-back before now after kept is =
    record { tree = ap (λ (s : State). s.tree) is; calls = ap (λ (s : State). s.calls) is; later = omega (arith, ap (λ (s : State). s.next) is, kept.later) }

-- nothing is staged: the mark is that of the last commit
pub mark-at_rest : (before : State) → before.calls ≡ [] → 0 ≡ mark_of before
mark-at_rest before rest = sym (ap (λ (cs : Calls). count_of cs) rest)

-- a list that is refused
pub list-refused : (types : Catalog) (o : Outcome State) (e : TreeError) (now : State) → recorded.Leaves (Err e) o now → Stages (Err (tree_error e)) (o >>= settled types) now
list-refused types o (Refused r) now refuses = ap (λ (x : Outcome State). x >>= settled types) refuses
list-refused types o Memory now refuses = tt

-- a root that isn't written
pub root-refused : (types : Catalog) (o : Outcome State) (e : doc.DocError) (now : State) → Leaves (Err e) o now → Stages (Err e) (o >>= settled types) now
root-refused types o (error.Refused r) now refuses = ap (λ (x : Outcome State). x >>= settled types) refuses
root-refused types o error.Memory now refuses = tt

-- what was written is settled
pub settled-stages : (types : Catalog) (o : Outcome State) (written now : State) (staged : Staged) → o ≡ Ok written → Settles types written now staged
    → Stages (Ok staged) (o >>= settled types) now
settled-stages types o written now staged is settles =
    (ap (λ (x : Outcome State). x >>= settled types) is ∙ ap (λ (s : State). Ok s) (sym settles.settled), settles.patches, settles.faultless)

pub settled-staged : (types : Catalog) (before written now : State) → CanBeTakenBack before written → CanBeTakenBack written now
    → now ≡ after_settling types written → IsTreeOf types (after_settling types written) → IsStagedAfter types before now
settled-staged types before written now first then is typed =
    let Typed : State → Type 0 = λ s. IsTreeOf types s in
    record { back = kept-together before written now first then; typed = subst Typed (sym is) typed }

pub settled-plain : (types : Catalog) (written now : State) (staged : Staged) → Settles types written now staged
    → All HasPlainValues (patches_of (after_settling types written)) → All HasPlainValues staged.patches
settled-plain types written now staged settles plain =
    let P : List Patch → Type 0 = λ ps. All HasPlainValues ps in
    subst P (sym (settles.patches ∙ ap patches_of settles.settled)) plain

-- likewise, of what settling answers
pub stages-by : (types : Catalog) (o : Outcome State) (written now : State) (result : Result Staged doc.DocError) → o ≡ Ok written
    → IfOk result (λ (staged : Staged). Settles types written now staged) → IfErr result (λ (e : doc.DocError). e ≡ error.Memory)
    → Stages result (o >>= settled types) now
stages-by types o written now (Ok staged) is settles memory = settled-stages types o written now staged is settles
stages-by types o written now (Err e) is settles memory =
    let P : doc.DocError → Type 0 = λ x. Stages (Err x) (o >>= settled types) now in subst P (sym memory) tt

pub staged-by : (types : Catalog) (before written now : State) (result : Result Staged doc.DocError) → CanBeTakenBack before written
    → IfOk result (λ (staged : Staged). Settles types written now staged) → OnOk result (CanBeTakenBack written now) → IsTreeOf types (after_settling types written)
    → OnOk result (IsStagedAfter types before now)
staged-by types before written now (Ok staged) first settles then typed = settled-staged types before written now first then settles.settled typed
staged-by types before written now (Err e) first settles then typed = tt

pub plain-by : (types : Catalog) (written now : State) (result : Result Staged doc.DocError) → IfOk result (λ (staged : Staged). Settles types written now staged)
    → All HasPlainValues (patches_of (after_settling types written)) → IfOk result (λ (staged : Staged). All HasPlainValues staged.patches)
plain-by types written now (Ok staged) settles plain = settled-plain types written now staged settles plain
plain-by types written now (Err e) settles plain = tt

-- a new document
pub created-by : (types : Catalog) (given made : Value) (fresh now kept : State) → tried types given ≡ Ok made → fresh ≡ state_of (new_tree types made)
    → now ≡ after_settling types fresh → kept ≡ committed now → created types given ≡ Ok kept
created-by types given made fresh now kept is new settles commits =
    let rest : Value → Outcome State = λ v. Ok (committed (after_settling types (state_of (new_tree types v)))) in
    let result : State → Outcome State = λ s. Ok s in
    ap (λ (o : Outcome Value). o >>= rest) is ∙ ap (λ s. result (committed (after_settling types s))) (sym new)
    ∙ ap (λ s. result (committed s)) (sym settles) ∙ ap result (sym commits)

pub document-by : (types : Catalog) (fresh now kept : State) → IsSound types → now ≡ after_settling types fresh → kept ≡ committed now → IsTreeOf types (after_settling types fresh)
    → IsDocument types kept
document-by types fresh now kept sound settles commits typed =
    let Typed : State → Type 0 = λ s. IsTreeOf types s in
    let P : State → Type 0 = λ s. IsDocument types s in
    let there : IsTreeOf types now = subst Typed (sym settles) typed in
    subst P (sym commits) (record { sound = sound; at_rest = refl; typed = record { labelled = there.labelled; numbered = there.numbered } })

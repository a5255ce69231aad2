-- What is staged, once it is kept or taken back.
use Rattle.std.specs.Prelude.{option_map}
use Rattle.std.proofs.Common.{◌≡◌, ℕ, List, Bool, Option, Result, Ok, Err, refl, sym, ap, subst, ◌∙◌, arith}
use Rattle.patch_core.specs.declared.patch.Patch.{Patch}
use Rattle.pointer_core.specs.declared.refusal.Refusal.{Refusal}
use Rattle.type_table.specs.Table.{Catalog}
use Rattle.type_core.specs.Making.{Outcome, Refused}
use Rattle.type_core.specs.Made.{refused_as}
use Rattle.type_core.specs.Sound.{IsSound}
use Rattle.edit_core.specs.Labelled.{Labelled, bare}
use Rattle.edit_core.specs.Labelling.{IsLabelledBy}
use Rattle.edit_core.specs.Numbers.{times}
use Rattle.tree_core.specs.Recorded.{IsTreeOf}
use Rattle.tree_core.specs.State.{State, committed, patches_of}
use Rattle.tree_core.specs.TypesTyping.{typing_of, root_type}
use Rattle.http_front.specs.Reply.{printed}
use Rattle.doc_core.specs.Acting.{Acted}
use Rattle.doc_core.specs.Documents.{IsDocument}
use Rattle.doc_core.specs.Staging.{IsAsBefore, Stages, StagesAct}
use Rattle.doc_core.specs.declared.document.Staged.{Staged}
use Rattle.doc_core.specs.declared.error.DocError.{DocError}
use Rattle.doc_core.specs.declared.error.DocError.TheVariants.{Memory, Refused as Turned}
use Rattle.host_core.specs.Answering.{act_done, acted_reply, change_done, refusal_reply}
use Rattle.host_core.specs.Keeping.{IsKept, unrefused}

-- a document as before is a document as before
pub before-document : (types : Catalog) (before after : State) → IsAsBefore before after → IsDocument types before → IsDocument types after
before-document types before after same document =
    let Typed : Labelled → Type 0 = λ x. IsLabelledBy (typing_of types.table) (root_type types) x in
    record {
      sound = document.sound;
      at_rest = same.calls ∙ document.at_rest;
      typed = record {
        labelled = subst Typed (sym same.tree) document.typed.labelled;
        numbered = record {
          differ = λ n. omega (arith, ap (times n) same.tree, document.typed.numbered.differ n);
          below = λ n h. ap (times n) same.tree ∙ document.typed.numbered.below n (omega (arith, same.later));
        };
      };
    }

pub committed-document : (types : Catalog) (now after : State) → IsSound types → after ≡ committed now → IsTreeOf types now → IsDocument types after
committed-document types now after sound is typed =
    let P : State → Type 0 = λ s. IsDocument types s in
    subst P (sym is) (record { sound = sound; at_rest = refl; typed = record { labelled = typed.labelled; numbered = typed.numbered } })

-- the reply to what is kept
pub kept-change : (close : Bool) (before now after : State) (outcome : Outcome Acted) (fault : Option Refused) (patches : List Patch) (bytes : List ℕ)
    → outcome ≡ Ok (record { after = now; fault = fault }) → patches ≡ patches_of now → bytes ≡ printed close (acted_reply fault patches) → after ≡ committed now
    → IsKept close (act_done before outcome) bytes (bare after.tree)
kept-change close before now after outcome fault patches bytes is told printed-is kept =
    let P : Outcome Acted → Type 0 = λ o. IsKept close (act_done before o) bytes (bare after.tree) in
    subst P (sym is) (record {
      bytes_are = printed-is ∙ ap (λ ps. printed close (acted_reply fault ps)) told;
      shows = ap (λ (s : State). bare s.tree) kept;
    })

-- the reply to a refusal, after which all is as before
pub kept-refusal : (close : Bool) (before after : State) (outcome : Outcome Acted) (refusal : Refusal) (bytes : List ℕ)
    → outcome ≡ Err (refused_as refusal) → bytes ≡ printed close (refusal_reply (refused_as refusal)) → after.tree ≡ before.tree
    → IsKept close (act_done before outcome) bytes (bare after.tree)
kept-refusal close before after outcome refusal bytes is printed-is same =
    let P : Outcome Acted → Type 0 = λ o. IsKept close (act_done before o) bytes (bare after.tree) in
    subst P (sym is) (record { bytes_are = printed-is; shows = ap bare same })

-- a change is staged as an action without a refusal is, and comes to the same
pub staged-change : (result : Result Staged DocError) (outcome : Outcome State) (now : State) → Stages result outcome now → StagesAct result (unrefused outcome) now
staged-change (Ok staged) outcome now stages =
    let Done : State → Option Refusal → Outcome Acted = λ s fault. Ok (record { after = s; fault = option_map refused_as fault }) in
    (ap unrefused stages.0 ∙ ap (Done now) (sym stages.2), stages.1)
staged-change (Err (Turned r)) outcome now stages = ap unrefused stages
staged-change (Err Memory) outcome now stages = tt

pub unrefused-done : (before : State) (outcome : Outcome State) → act_done before (unrefused outcome) ≡ change_done before outcome
unrefused-done before (Ok after) = refl
unrefused-done before (Err refusal) = refl

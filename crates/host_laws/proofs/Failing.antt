-- A failed atomic action leaves all documents as they were.
use Rattle.std.proofs.Common.{◌≡◌, ℕ, List, [], map, Some, Ok, Err, inr, refl, sym, ap, subst, ◌∙◌}
use Rattle.std.specs.Prelude.{IsErr}
use Rattle.snap_core.specs.declared.number.NodeNo.{NodeNo}
use Rattle.type_table.specs.Table.{Catalog}
use Rattle.type_core.specs.Making.{Outcome, Refused}
use Rattle.edit_core.specs.Logged.{patch_of_logged}
use Rattle.tree_core.specs.Outcome.{◌>>=◌}
use Rattle.tree_core.specs.Recorded.{after_settling}
use Rattle.tree_core.specs.State.{State, Calls as LoggedCalls, edits_of, patches_of}
use Rattle.live_tree.specs.Laws.{given_back}
use Rattle.action_core.specs.Act.{Ran, state_of}
use Rattle.action_core.specs.Behaving.{Behaving, Callee}
use Rattle.action_core.specs.Calling.{most_actions}
use Rattle.action_laws.specs.Schemas.{behaving_by}
use Rattle.action_laws.specs.Laws.{FailedAtomicsAreNothing}
use Rattle.doc_core.specs.Acting.{Acted, after_outcome, after_run, callee_given, run_of}
use Rattle.doc_core.specs.Documents.{IsCopy}
use Rattle.doc_core.proofs.Acts.{refused-alone}
use Rattle.snap_core.specs.Value.{Value}
use Rattle.snap_json.specs.Reading.{reading}
use Rattle.model_syntax.specs.Shown.{ShownBehaviour}
use Rattle.host_core.specs.Answering.{Done, act_done, acting, refusal_reply, stays}
use Rattle.host_core.specs.Asking.{Visit, Answer, Acts, AnswersAsked, On, after_done}
use Rattle.host_core.specs.Calling.{Call, Calls}
use Rattle.host_core.specs.Docs.{Docs, find, with_snapshot}
use Rattle.host_core.specs.Reading.{Read, value_in}
use Rattle.host_core.specs.Sound.{IsRefusalReply}
use Rattle.host_core.proofs.Finding.{with_snapshot-same}
use Rattle.host_core.proofs.Refusing.{call-refused, value-refused}
use Rattle.host_core.proofs.SoundChanges.{copy-sound}
use Rattle.host_laws.specs.Laws.{FailedAtomicsStay, FailsInAtomic, LeavesAll}
use Rattle.host_laws.specs.Sound.{IsSettledDocument, IsSettledSnapshot}

-- a run that is refused, and whose tree has no patch once it is settled
refused-run : (types : Catalog) (ran : Ran (Unit {0})) (refusal : Refused) → ran.outcome ≡ Err refusal → patches_of (after_settling types ran.state.tree) ≡ []
    → after_run types ran ≡ Err refusal
refused-run types ran refusal is none =
    let after : State = after_settling types ran.state.tree in
    ap (λ (o : Outcome (Unit {0})). after_outcome o after) is ∙ refused-alone refusal after (patches_of after) none

is-refused : (ran : Ran (Unit {0})) (refusal : Refused) → ran.outcome ≡ Err refusal → IsErr ran.outcome
is-refused ran refusal is = let P : Outcome (Unit {0}) → Type 0 = λ o. IsErr o in subst P (sym is) refl

-- what such a call does to a document
call-stays : FailedAtomicsAreNothing → (types : Catalog) (behaviours : List ShownBehaviour) (call : Call) (s : State) → IsSettledDocument types s
    → (fails : FailsInAtomic types behaviours call s) → acting types behaviours s (Ok call) ≡ stays s (refusal_reply fails.refusal)
call-stays failed-nothing types behaviours call s document fails =
    let behaving : Behaving = behaving_by types behaviours in
    let callee : Callee = callee_given fails.called call.name call.given in
    let run : NodeNo → Outcome Acted = λ m. after_run types (run_of types behaviours (callee_given m call.name call.given) s) in
    let ran : Ran (Unit {0}) = run_of types behaviours callee s in
    let back : after_settling types ran.state.tree ≡ given_back s ran.state.tree =
    failed-nothing behaving most_actions (record { nodes = []; frame = [] }) callee (state_of s) document.settled fails.atomic (is-refused ran fails.refusal fails.refused) in
    let none : patches_of (after_settling types ran.state.tree) ≡ [] =
    ap patches_of back ∙ ap (λ (cs : LoggedCalls). map patch_of_logged (edits_of cs)) document.document.document.at_rest in
    ap (λ (o : Outcome NodeNo). act_done s (o >>= run)) fails.there ∙ ap (act_done s) (refused-run types ran fails.refusal fails.refused none)

-- a document that stays, and a reply that is a refusal
pub record StaysRefused (snapshot : Value) (done : Done) : Type 0 where
  pub same : done.snapshot ≡ snapshot
  pub reply : IsRefusalReply done.reply

module _ (failed-nothing : FailedAtomicsAreNothing) (visit : Visit) (snapshot : Value) (settled : IsSettledSnapshot visit.types snapshot)
    (fails : (call : Call) (s : State) → Calls visit.request.body (Ok call) → IsCopy visit.types snapshot s → FailsInAtomic visit.types visit.behaviours call s) where
  act-stays : (done : Done) → Acts visit snapshot done → StaysRefused snapshot done
  act-stays done (s, copy, called, calls, is) = subst (StaysRefused snapshot) (sym is) (by called calls) where
    by : (called : Read Call) → Calls visit.request.body called → StaysRefused snapshot (acting visit.types visit.behaviours s called)
    by (Err reply) calls = record { same = copy.shows; reply = call-refused (value_in visit.request.body) (value-refused (reading visit.request.body)) reply calls }
    by (Ok call) calls =
        let failing : FailsInAtomic visit.types visit.behaviours call s = fails call s calls copy in
        let document : IsSettledDocument visit.types s = record { document = copy-sound visit.types snapshot s copy settled.sound; settled = settled.settled s copy } in
        subst (StaysRefused snapshot) (sym (call-stays failed-nothing visit.types visit.behaviours call s document failing))
        (record { same = copy.shows; reply = (failing.refusal.rule, inr (failing.refusal.path, refl)) })

  on-stays : (docs : Docs) (answer : Answer) (name : List ℕ) → find name docs ≡ Some snapshot → On name docs (Acts visit) answer → LeavesAll docs answer
  on-stays docs answer name found on = by (rw found at on) where
    by : (done : Done) × Acts visit snapshot done × (answer ≡ after_done name docs done) → LeavesAll docs answer
    by (done, acts, is) =
        let stayed : StaysRefused snapshot done = act-stays done acts in
        let kept : with_snapshot name done.snapshot docs ≡ docs = ap (λ (v : Value). with_snapshot name v docs) stayed.same ∙ with_snapshot-same name snapshot docs found in
        record {
          same = ap (λ (a : Answer). a.docs) is ∙ kept;
          reply = subst IsRefusalReply (sym (ap (λ (a : Answer). a.reply) is)) stayed.reply;
        }

pub failed-stay : FailedAtomicsAreNothing → FailedAtomicsStay
failed-stay failed-nothing visit docs answer name snapshot asked found settled fails steps =
    on-stays failed-nothing visit snapshot settled fails docs answer name found (subst (λ a. AnswersAsked visit a docs answer) asked steps)

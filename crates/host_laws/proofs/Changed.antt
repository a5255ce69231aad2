-- What requests on a document that is sound and settled make of it.
use Rattle.std.proofs.Common.{◌≡◌, List, Ok, Err, inl, inr, refl, sym, ap, subst, ◌∙◌, IfOk, arith}
use Rattle.std.specs.Prelude.{◌⊎◌}
use Rattle.snap_core.specs.Value.{Value, IsPlain}
use Rattle.patch_core.specs.Fits.{LeadsTo}
use Rattle.patch_core.specs.Inverse.{back}
use Rattle.patch_core.specs.declared.patch.Patch.{Patch}
use Rattle.type_table.specs.Table.{Catalog}
use Rattle.type_core.specs.Making.{Outcome}
use Rattle.type_core.specs.Sound.{IsSound}
use Rattle.edit_core.specs.Labelled.{bare}
use Rattle.tree_core.specs.State.{State, committed, patches_of}
use Rattle.doc_core.specs.Acting.{Acted, acted_on}
use Rattle.doc_core.specs.Changing.{patched, replaced}
use Rattle.doc_core.specs.Documents.{IsCopy}
use Rattle.doc_core.specs.Laws.{ChangesFully}
use Rattle.doc_core.proofs.Leading.{changes-lead}
use Rattle.http_front.specs.Reply.{Reply}
use Rattle.host_core.specs.Answering.{Done, act_done, acting, change_done, patching, replacing, stays}
use Rattle.host_core.specs.Asking.{Visit, Acts, Changes, Replaces}
use Rattle.host_core.specs.Calling.{Call, Calls}
use Rattle.host_core.specs.Keeping.{unrefused}
use Rattle.host_core.specs.Reading.{Read, Lists, value_in}
use Rattle.host_core.specs.Sound.{IsPlainSchema, TellsChange}
use Rattle.host_core.proofs.Kept.{unrefused-done}
use Rattle.host_core.proofs.SoundChanges.{copy-sound, unrefused-full}
use Rattle.host_core.proofs.Spelled.{calls-plain, patches-plain, spelled-plain}
use Rattle.host_laws.specs.Runs.{IsShort}
use Rattle.host_laws.specs.Sound.{IsSettledSnapshot}
use Rattle.host_laws.proofs.Counting.{few-patches}
use Rattle.host_laws.proofs.Created.{kept, shown}

-- the snapshot after it is sound and settled; it is the one before, or the reply tells how it changed
pub record StaysSettled (types : Catalog) (before : Value) (done : Done) : Type 0 where
  pub snapshot : IsSettledSnapshot types done.snapshot
  pub told : (done.snapshot ≡ before) ⊎ TellsChange before done

-- a reply that leaves a document as it is
pub same-settled : (types : Catalog) (v : Value) (s : State) (reply : Reply) (done : Done) → IsCopy types v s → IsSettledSnapshot types v → done ≡ stays s reply
    → StaysSettled types v done
same-settled types v s reply done copy settled is =
    let same : done.snapshot ≡ v = ap (λ (d : Done). d.snapshot) is ∙ copy.shows in
    record { snapshot = subst (IsSettledSnapshot types) (sym same) settled; told = inl same }

-- what an action comes to, and what a change does
act-settled : (types : Catalog) (v : Value) (s : State) (o : Outcome Acted) → IsSound types → IsCopy types v s → IsSettledSnapshot types v
    → ((acted : Acted) → o ≡ Ok acted → ChangesFully types s acted.after) → StaysSettled types v (act_done s o)
act-settled types v s (Err refusal) sound copy settled full = same-settled types v s _ (act_done s (Err refusal)) copy settled refl
act-settled types v s (Ok acted) sound copy settled full =
    let after : State = acted.after in
    let change : ChangesFully types s after = full acted refl in
    let There : Value → Type 0 = λ u. LeadsTo (patches_of after) u (bare after.tree) in
    let Back : Value → Type 0 = λ u. LeadsTo (back (patches_of after)) (bare after.tree) u in
    record {
      snapshot = shown types (committed after) (kept types after sound change.sound change.settled);
      told = inr (record {
        patches = patches_of after;
        fault = acted.fault;
        reply = refl;
        leads = subst There copy.shows change.leads;
        leads_back = subst Back copy.shows change.leads_back;
      });
    }

change-settled : (types : Catalog) (v : Value) (s : State) (o : Outcome State) → IsSound types → IsCopy types v s → IsSettledSnapshot types v
    → ((after : State) → o ≡ Ok after → ChangesFully types s after) → StaysSettled types v (change_done s o)
change-settled types v s o sound copy settled full =
    subst (StaysSettled types v) (unrefused-done s o) (act-settled types v s (unrefused o) sound copy settled (unrefused-full types s o full))

pub replaces-settled : (visit : Visit) → IsSound visit.types → (v : Value) (done : Done) → IsSettledSnapshot visit.types v → Replaces visit v done
    → StaysSettled visit.types v done
replaces-settled visit sound v done settled (s, copy, is) =
    subst (StaysSettled visit.types v) (sym is) (by (value_in visit.request.body) (spelled-plain visit.request.body)) where
      by : (given : Read Value) → IfOk given (λ (w : Value). IsPlain w) → StaysSettled visit.types v (replacing visit.types s given)
      by (Err reply) plain = same-settled visit.types v s reply (stays s reply) copy settled refl
      by (Ok w) plain =
          change-settled visit.types v s (replaced visit.types w s) sound copy settled
          (λ after e. changes-lead.by_snapshot visit.types w s after (copy-sound visit.types v s copy settled.sound) plain e)

pub changes-settled : (visit : Visit) → IsSound visit.types → IsShort visit.request.body → (v : Value) (done : Done) → IsSettledSnapshot visit.types v
    → Changes visit v done → StaysSettled visit.types v done
changes-settled visit sound short v done settled (s, copy, given, lists, is) = subst (StaysSettled visit.types v) (sym is) (by given lists) where
  by : (given : Read (List Patch)) → Lists visit.request.body given → StaysSettled visit.types v (patching visit.types s given)
  by (Err reply) lists = same-settled visit.types v s reply (stays s reply) copy settled refl
  by (Ok patches) lists =
      change-settled visit.types v s (patched visit.types patches s) sound copy settled
      (λ after e. changes-lead.by_patches visit.types patches s after (copy-sound visit.types v s copy settled.sound)
      (patches-plain visit.request.body patches lists) (omega (arith, short, few-patches visit.request.body patches lists)) e)

pub acts-settled : (visit : Visit) → IsPlainSchema visit.types visit.behaviours → (v : Value) (done : Done) → IsSettledSnapshot visit.types v
    → Acts visit v done → StaysSettled visit.types v done
acts-settled visit plainly v done settled (s, copy, called, calls, is) = subst (StaysSettled visit.types v) (sym is) (by called calls) where
  by : (called : Read Call) → Calls visit.request.body called → StaysSettled visit.types v (acting visit.types visit.behaviours s called)
  by (Err reply) calls = same-settled visit.types v s reply (stays s reply) copy settled refl
  by (Ok call) calls =
      act-settled visit.types v s (acted_on visit.types visit.behaviours call.path call.name call.given s) plainly.sound copy settled
      (λ acted e. changes-lead.by_action visit.types visit.behaviours call.path call.name call.given s acted plainly
      (copy-sound visit.types v s copy settled.sound) (calls-plain visit.request.body call calls) e)

-- Changes of sound documents, from the copy that a request works on to the snapshots that are told.
use Rattle.std.proofs.Common.{◌≡◌, ◌<◌, ◌^◌, List, length, None, Ok, Err, IfOk, inl, inr, refl, sym, ap, subst}
use Rattle.snap_core.specs.Value.{Value, IsPlain}
use Rattle.patch_core.specs.Fits.{LeadsTo}
use Rattle.patch_core.specs.Inverse.{back}
use Rattle.patch_core.specs.declared.patch.Patch.{Patch}
use Rattle.type_table.specs.Table.{Catalog}
use Rattle.type_core.specs.Making.{Outcome}
use Rattle.edit_core.specs.Labelled.{bare}
use Rattle.tree_core.specs.Recorded.{IsSoundValue}
use Rattle.tree_core.specs.State.{State, patches_of}
use Rattle.doc_core.specs.Acting.{Acted, acted_on}
use Rattle.doc_core.specs.Changing.{patched, replaced}
use Rattle.doc_core.specs.Documents.{IsCopy}
use Rattle.doc_core.specs.Laws.{IsSoundDocument, ChangesFully}
use Rattle.doc_core.proofs.Leading.{changes-lead}
use Rattle.doc_core.proofs.Typed.{nothing-logged}
use Rattle.host_core.specs.Answering.{Done, act_done, acting, change_done, patching, refusal_reply, replacing, stays}
use Rattle.host_core.specs.Asking.{Visit, Acts, Changes, Replaces}
use Rattle.host_core.specs.Calling.{Call, Calls}
use Rattle.host_core.specs.Keeping.{unrefused}
use Rattle.host_core.specs.Reading.{Read, Lists, value_in}
use Rattle.snap_json.specs.Reading.{reading}
use Rattle.http_front.specs.Reply.{Reply}
use Rattle.host_core.specs.Sound.{IsPlainSchema, IsRefusalReply, IsSoundSnapshot, StaysSound, ChangesTell}
use Rattle.host_core.proofs.Kept.{unrefused-done}
use Rattle.host_core.proofs.Refusing.{call-refused, list-refused, value-refused}
use Rattle.host_core.proofs.Spelled.{calls-plain, patches-plain, spelled-plain}

-- a copy of a sound snapshot is a sound document
pub copy-sound : (types : Catalog) (snapshot : Value) (s : State) → IsCopy types snapshot s → IsSoundSnapshot types snapshot → IsSoundDocument types s
copy-sound types snapshot s copy sound =
    record {
      document = copy.document;
      sound = record {
        typed = record {
          plain = subst IsPlain (sym copy.shows) sound.plain;
          nodes = copy.document.typed;
          logged = nothing-logged s copy.document.at_rest;
        };
        value = subst (IsSoundValue types) (sym copy.shows) sound.value;
      };
    }

-- a refusal leaves it as it is
left-as : (types : Catalog) (snapshot : Value) (s : State) (reply : Reply) → bare s.tree ≡ snapshot → IsSoundSnapshot types snapshot → IsRefusalReply reply
    → StaysSound types snapshot (stays s reply)
left-as types snapshot s reply shows sound refused = (subst (IsSoundSnapshot types) (sym shows) sound, inl (record { reply = refused; same = shows }))

-- what an action comes to, and what a change does
act-tells : (types : Catalog) (snapshot : Value) (s : State) (o : Outcome Acted) → bare s.tree ≡ snapshot → IsSoundSnapshot types snapshot
    → ((acted : Acted) → o ≡ Ok acted → ChangesFully types s acted.after) → StaysSound types snapshot (act_done s o)
act-tells types snapshot s (Err refusal) shows sound full = left-as types snapshot s (refusal_reply refusal) shows sound (refusal.rule, inr (refusal.path, refl))
act-tells types snapshot s (Ok acted) shows sound full =
    let after : State = acted.after in
    let change : ChangesFully types s after = full acted refl in
    let There : Value → Type 0 = λ v. LeadsTo (patches_of after) v (bare after.tree) in
    let Back : Value → Type 0 = λ v. LeadsTo (back (patches_of after)) (bare after.tree) v in (
      record { plain = change.sound.typed.plain; value = change.sound.value },
      inr (record {
        patches = patches_of after;
        fault = acted.fault;
        reply = refl;
        leads = subst There shows change.leads;
        leads_back = subst Back shows change.leads_back;
      }),
    )

left-of : (after : State) (acted : Acted) → unrefused (Ok after) ≡ Ok acted → after ≡ acted.after
left-of after acted e =
    let same : record { after = after; fault = None } ≡ acted = cc in ap (λ (a : Acted). a.after) same

pub unrefused-full : (types : Catalog) (s : State) (o : Outcome State) → ((after : State) → o ≡ Ok after → ChangesFully types s after)
    → (acted : Acted) → unrefused o ≡ Ok acted → ChangesFully types s acted.after
unrefused-full types s (Ok after) full acted e = full acted.after (ap (λ (t : State). Ok t) (left-of after acted e))
unrefused-full types s (Err refusal) full acted e = absurd (cc)

change-tells : (types : Catalog) (snapshot : Value) (s : State) (o : Outcome State) → bare s.tree ≡ snapshot → IsSoundSnapshot types snapshot
    → ((after : State) → o ≡ Ok after → ChangesFully types s after) → StaysSound types snapshot (change_done s o)
change-tells types snapshot s o shows sound full =
    subst (StaysSound types snapshot) (unrefused-done s o) (act-tells types snapshot s (unrefused o) shows sound (unrefused-full types s o full))

snapshot-tells : (visit : Visit) (snapshot : Value) (done : Done) → IsSoundSnapshot visit.types snapshot → Replaces visit snapshot done → StaysSound visit.types snapshot done
snapshot-tells visit snapshot done sound (s, copy, is) =
    subst (StaysSound visit.types snapshot) (sym is) (by (value_in visit.request.body) (spelled-plain visit.request.body) (value-refused (reading visit.request.body))) where
      by : (given : Read Value) → IfOk given (λ (v : Value). IsPlain v) → ((reply : Reply) → given ≡ Err reply → IsRefusalReply reply)
          → StaysSound visit.types snapshot (replacing visit.types s given)
      by (Err reply) plain refused = left-as visit.types snapshot s reply copy.shows sound (refused reply refl)
      by (Ok v) plain refused =
          change-tells visit.types snapshot s (replaced visit.types v s) copy.shows sound
          (λ after e. changes-lead.by_snapshot visit.types v s after (copy-sound visit.types snapshot s copy sound) plain e)

patches-tell : (visit : Visit) (snapshot : Value) (done : Done) → IsSoundSnapshot visit.types snapshot
    → ((patches : List Patch) → Lists visit.request.body (Ok patches) → length patches < 2 ^ 31) → Changes visit snapshot done → StaysSound visit.types snapshot done
patches-tell visit snapshot done sound few (s, copy, given, lists, is) =
    subst (StaysSound visit.types snapshot) (sym is) (by given lists) where
      by : (given : Read (List Patch)) → Lists visit.request.body given → StaysSound visit.types snapshot (patching visit.types s given)
      by (Err reply) lists =
          left-as visit.types snapshot s reply copy.shows sound
          (list-refused (value_in visit.request.body) (value-refused (reading visit.request.body)) reply lists)
      by (Ok patches) lists =
          change-tells visit.types snapshot s (patched visit.types patches s) copy.shows sound
          (λ after e. changes-lead.by_patches visit.types patches s after (copy-sound visit.types snapshot s copy sound)
          (patches-plain visit.request.body patches lists) (few patches lists) e)

acts-tell : (visit : Visit) (snapshot : Value) (done : Done) → IsPlainSchema visit.types visit.behaviours → IsSoundSnapshot visit.types snapshot
    → Acts visit snapshot done → StaysSound visit.types snapshot done
acts-tell visit snapshot done plainly sound (s, copy, called, calls, is) = subst (StaysSound visit.types snapshot) (sym is) (by called calls) where
  by : (called : Read Call) → Calls visit.request.body called → StaysSound visit.types snapshot (acting visit.types visit.behaviours s called)
  by (Err reply) calls =
      left-as visit.types snapshot s reply copy.shows sound
      (call-refused (value_in visit.request.body) (value-refused (reading visit.request.body)) reply calls)
  by (Ok call) calls =
      act-tells visit.types snapshot s (acted_on visit.types visit.behaviours call.path call.name call.given s) copy.shows sound
      (λ acted e. changes-lead.by_action visit.types visit.behaviours call.path call.name call.given s acted plainly
      (copy-sound visit.types snapshot s copy sound) (calls-plain visit.request.body call calls) e)

pub changes-tell : ChangesTell
changes-tell = record { by_snapshot = snapshot-tells; by_patches = patches-tell; by_action = acts-tell }

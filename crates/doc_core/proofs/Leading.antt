-- A change leads on, step by step: what is written, and then settling.
use Rattle.std.proofs.Common.{◌≡◌, ◌<◌, ◌^◌, ℕ, List, [], ◌++◌, length, map, Ok, Err, refl, sym, ap, subst, ◌∙◌}
use Rattle.std.specs.Prelude.{All}
use Rattle.snap_core.specs.Value.{Value, Items, IsPlain, ArePlain}
use Rattle.snap_core.specs.declared.number.NodeNo.{NodeNo}
use Rattle.pointer_core.specs.Path.{Path}
use Rattle.patch_core.specs.Fits.{LeadsTo}
use Rattle.patch_core.specs.Inverse.{back}
use Rattle.patch_core.specs.Printing.{HasPlainValues}
use Rattle.patch_core.specs.declared.patch.Patch.{Patch}
use Rattle.type_table.specs.Table.{Catalog}
use Rattle.type_core.specs.Making.{Outcome}
use Rattle.type_core.specs.Sound.{IsSound}
use Rattle.model_syntax.specs.Shown.{ShownBehaviour}
use Rattle.edit_core.specs.Labelled.{bare}
use Rattle.edit_core.specs.Logged.{patch_of_logged}
use Rattle.edit_core.specs.Typing.{label_of}
use Rattle.tree_core.specs.Outcome.{◌>>=◌}
use Rattle.tree_core.specs.Recorded.{after_list, after_settling}
use Rattle.tree_core.specs.State.{State, Calls, edits_of, patches_of}
use Rattle.tree_core.specs.Write.{set}
use Rattle.tree_laws.specs.Calls.{Writes, WritesList, LeadsOn}
use Rattle.tree_laws.specs.Trees.{IsSoundTree}
use Rattle.tree_laws.proofs.Joining.{goes-on}
use Rattle.tree_laws.proofs.Lists.{lists-lead}
use Rattle.tree_laws.proofs.Loose.{settling-settles}
use Rattle.tree_laws.proofs.PlainWrites.{values-written}
use Rattle.tree_laws.proofs.Settling.{settling-leads}
use Rattle.tree_laws.proofs.SettlingSound.{settling-keeps}
use Rattle.tree_laws.proofs.TreeRight.{lists-keep, writes-keep}
use Rattle.tree_laws.proofs.Writes.{writes-lead}
use Rattle.tree_laws.proofs.Writes as first
use Rattle.action_core.specs.Act.{Ran, state_of}
use Rattle.action_core.specs.Calling.{most_actions}
use Rattle.action_laws.specs.Laws.{IsPlainBehaving, Leads}
use Rattle.action_laws.specs.Schemas.{behaving_by}
use Rattle.action_laws.proofs.Leading.{actions-lead}
use Rattle.doc_core.specs.Acting.{Acted, acted_on, after_run, callee_given, node_pointed, run_of}
use Rattle.doc_core.specs.Changing.{patched, replaced, root_written, whole_root}
use Rattle.doc_core.specs.Laws.{IsSoundDocument, ChangesFully, ChangesLead}
use Rattle.doc_core.proofs.Stages.{settled}
use Rattle.doc_core.proofs.Acts.{plain-given, run-left}
use Rattle.doc_core.proofs.Typed.{root-by}

-- what was written, and what it is settled to
record Comes (types : Catalog) (o : Outcome State) (after : State) : Type 0 where
  written : State
  first : o ≡ Ok written
  settles : after ≡ after_settling types written

comes : (types : Catalog) (o : Outcome State) (after : State) → (o >>= settled types) ≡ Ok after → Comes types o after
comes types (Ok written) after h = record { written = written; first = refl; settles = cc }
comes types (Err refusal) after h = absurd (cc)

-- of a document with nothing staged, all patches are those of the change
none-before : (before : State) → before.calls ≡ [] → patches_of before ≡ []
none-before before rest = ap (λ (cs : Calls). map patch_of_logged (edits_of cs)) rest

fully : (types : Catalog) (before written after : State) → IsSound types → before.calls ≡ [] → LeadsOn before written → IsSoundTree types written
    → after ≡ after_settling types written → ChangesFully types before after
fully types before written after sound rest first right is =
    let last : State = after_settling types written in
    let leads : LeadsOn before last = goes-on before written last first (settling-leads types sound written right) in
    let logged : patches_of last ≡ leads.on.more = leads.on.logged ∙ ap (λ ps. ps ++ leads.on.more) (none-before before rest) in
    let There : List Patch → Type 0 = λ ps. LeadsTo ps (bare before.tree) (bare last.tree) in
    let Back : List Patch → Type 0 = λ ps. LeadsTo (back ps) (bare last.tree) (bare before.tree) in
    let P : State → Type 0 = λ s. ChangesFully types before s in
    subst P (sym is) (record {
      leads = subst There (sym logged) leads.on.leads;
      leads_back = subst Back (sym logged) leads.back;
      sound = settling-keeps types sound written right;
      settled = settling-settles types sound written;
    })

patches-lead : (types : Catalog) (patches : List Patch) (before after : State) → IsSoundDocument types before → All HasPlainValues patches
    → length patches < 2 ^ 31 → patched types patches before ≡ Ok after → ChangesFully types before after
patches-lead types patches before after document values few done =
    let c : Comes types (after_list types patches before) after = comes types (after_list types patches before) after done in
    let sound : IsSound types = document.document.sound in
    let writes : WritesList types before c.written = record { patches = patches; plain = values-written patches values; few = few; done = c.first } in
    fully types before c.written after sound document.document.at_rest (lists-lead types sound before c.written document.sound writes)
    (lists-keep types sound before c.written document.sound writes) c.settles

snapshot-leads : (types : Catalog) (given : Value) (before after : State) → IsSoundDocument types before → IsPlain given
    → replaced types given before ≡ Ok after → ChangesFully types before after
snapshot-leads types given before after document plain done =
    let c : Comes types (root_written types given before) after = comes types (root_written types given before) after done in
    let sound : IsSound types = document.document.sound in
    let by = root-by types given before c.written (label_of before.tree) c.first in
    let writes : Writes types before c.written = record { target = whole_root by.0; write = set given; plain = plain; done = by.1 } in
    fully types before c.written after sound document.document.at_rest (writes-lead types sound before c.written document.sound writes)
    (writes-keep types sound before c.written document.sound writes) c.settles

action-leads : (types : Catalog) (behaviours : List ShownBehaviour) (path : Path) (name : List ℕ) (args : Items) (before : State) (acted : Acted)
    → IsPlainBehaving (behaving_by types behaviours) → IsSoundDocument types before → ArePlain args → acted_on types behaviours path name args before ≡ Ok acted
    → ChangesFully types before acted.after
action-leads types behaviours path name args before acted well document plain done =
    let run : NodeNo → Ran (Unit {0}) = λ n. run_of types behaviours (callee_given n name args) before in
    let c = first.comes (node_pointed types path name before.tree) (λ n. after_run types (run n)) acted done in
    let led : Leads types before (run c.from).state.tree =
    actions-lead (behaving_by types behaviours) well most_actions (record { nodes = []; frame = [] }) (callee_given c.from name args) (plain-given args plain) (state_of before) document.sound in
    fully types before (run c.from).state.tree acted.after document.document.sound document.document.at_rest led.on led.sound (run-left types (run c.from) acted c.next)

pub changes-lead : ChangesLead
changes-lead = record { by_patches = patches-lead; by_snapshot = snapshot-leads; by_action = action-leads }

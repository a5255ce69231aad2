-- A write, or a list of one patch, that logged one patch is undone by its inverse: the place of the patch is in a node.
use Rattle.std.proofs.Common.{◌≡◌, ℕ, List, [], ◌∷◌, ◌++◌, length, map, drop, All, Some, Ok, append-nil, length-append, refl, sym, ap, subst, ◌∙◌, arith}
use Rattle.std.proofs.Math.Seq.{drop-append_seam}
use Rattle.std.specs.Prelude.{nat_le}
use Rattle.std.proofs.lemmas.List.{map-append, length-map}
use Rattle.std.proofs.lemmas.List.Elements.{All-head}
use Rattle.snap_core.specs.Value.{IsPlain, depth_of}
use Rattle.pointer_core.specs.Path.{Path}
use Rattle.pointer_core.specs.declared.refusal.Rule.TheVariants.{Large}
use Rattle.patch_core.specs.Application as patch
use Rattle.patch_core.specs.Inverse.{inverse_of, back}
use Rattle.patch_core.specs.declared.patch.Patch.{Patch}
use Rattle.type_table.specs.Table.{Catalog}
use Rattle.type_core.specs.Making.{Outcome, made_by}
use Rattle.type_core.specs.Sound.{IsSound}
use Rattle.type_core.proofs.Again.{limited-Ok}
use Rattle.edit_core.specs.Labelled.{Labelled, bare}
use Rattle.edit_core.specs.Edit.{Edit, Operation, add, remove, replace, whole, within}
use Rattle.edit_core.specs.Logged.{LoggedEdit, logged, patch_of_logged}
use Rattle.edit_core.specs.Plain.{path_to, operation_in, patch_at, patch_of}
use Rattle.edit_core.specs.Typing.{label_of}
use Rattle.edit_core.proofs.Ascending.{spelled}
use Rattle.edit_core.proofs.Leading.{RunIn, no_edits, one_edit}
use Rattle.edit_core.proofs.Logged.{logged-patch}
use Rattle.edit_core.proofs.Patches.{IsWithin, AllWithin}
use Rattle.tree_core.specs.Changed.{Changed}
use Rattle.tree_core.specs.Listing.{write_in, place_in, acting, patch_written, patches_written, list_written}
use Rattle.tree_core.specs.Recorded.{tree_in, with_change, after_list}
use Rattle.tree_core.specs.State.{State, recorded, edits_of, patches_of}
use Rattle.tree_core.specs.TypesTyping.{root_type}
use Rattle.tree_core.specs.Write.{Write, WritesPlain}
use Rattle.tree_core.specs.Writing.{Target, place_written, judged, written}
use Rattle.tree_core.proofs.WriteKeeping.{provided-Ok}
use Rattle.tree_lists.specs.Restoring.{after_restoring}
use Rattle.tree_laws.specs.Calls.{Writes, WritesList, LeadsOn}
use Rattle.tree_laws.specs.Trees.{IsTypedTree, IsSoundTree}
use Rattle.tree_laws.proofs.Inside.{Inside, place-inside}
use Rattle.tree_laws.proofs.Leading.{AllInside}
use Rattle.tree_laws.proofs.Lists.{by-plain}
use Rattle.tree_laws.proofs.NodeGoing.{Goes}
use Rattle.tree_laws.proofs.PlaceGoing.{place-goes, from-Ok}
use Rattle.tree_laws.proofs.StayTyped.{writes-typed, lists-typed}
use Rattle.tree_laws.proofs.Writes.{Comes, comes, judged-is, first-bound, fine-tree}
use Rattle.restoring_laws.specs.Laws.{ArePutBack}
use Rattle.restoring_laws.specs.Places.{holder_of, IsNode, AreInNodes}
use Rattle.restoring_laws.proofs.Holding.{HasNode, has-node}
use Rattle.restoring_laws.proofs.InTurn.{applies}
use Rattle.restoring_laws.proofs.Undone.{own-plain, plain-back}

-- what is behind a list's beginning
behind : (xs ys zs : List Patch) → xs ++ ys ≡ xs ++ zs → ys ≡ zs
behind xs ys zs h = sym (drop-append_seam xs ys) ∙ ap (drop (length xs)) h ∙ drop-append_seam xs zs

inverse-path : (path : Path) (op : Operation) → (inverse_of (patch_at path op)).path ≡ path
inverse-path path (add new) = refl
inverse-path path (remove old) = refl
inverse-path path (replace old new) = refl

edit-in-node : (e : Edit) (y : Labelled) → IsWithin e → HasNode e y → IsNode (holder_of (inverse_of (patch_of e)).path y)
edit-in-node (whole old new) y inner h = absurd inner
edit-in-node (within way change) y inner h =
    let At : Path → Type 0 = λ path. IsNode (holder_of path y) in subst At (sym (inverse-path (path_to way change) (operation_in change))) h

-- the one patch of a run is in a node of what the run led to
last-in-node : (x y : Labelled) (e : Edit) → RunIn spelled x (e ∷ []) y → IsPlain (bare y) → HasNode e y
last-in-node x y e (one_edit a b c f rest lead (no_edits w)) plain = has-node a b e lead plain

single-inside : (types : Catalog) (s : State) (value : Labelled) (next : ℕ) (edits : List Edit) → RunIn spelled s.tree edits value → AllWithin edits → IsPlain (bare value)
    → (more : List Patch) → patches_of (recorded value (map logged edits) next s) ≡ patches_of s ++ more → length more ≡ 1
    → AreInNodes types (back more) (tree_in (recorded value (map logged edits) next s))
single-inside types s value next [] run parts plain more log single =
    let count : length (patches_of s) ≡ length (patches_of s ++ more) = ap length log in
    absurd (omega (arith, count, single, length-append (patches_of s) more))
single-inside types s value next (e ∷ []) run parts plain more log single =
    let q : Patch = patch_of_logged (logged e) in
    let is : q ∷ [] ≡ more = behind (patches_of s) (q ∷ []) more (sym (map-append patch_of_logged (edits_of s.calls) (logged e ∷ [])) ∙ log) in
    let In : List Patch → Type 0 = λ ps. AreInNodes types (back ps) (record { root = value; next = next }) in
    let At : Patch → Type 0 = λ p. IsNode (holder_of (inverse_of p).path value) in
    subst In is (subst At (sym (logged-patch e)) (edit-in-node e value parts.0 (last-in-node s.tree value e run plain)), tt)
single-inside types s value next (e ∷ f ∷ es) run parts plain more log single =
    let all : List LoggedEdit = map logged (e ∷ f ∷ es) in
    let longer : length (patches_of s ++ map patch_of_logged all) ≡ length (patches_of s ++ more) =
    ap length (sym (map-append patch_of_logged (edits_of s.calls) all) ∙ log) in
    absurd (omega (arith, longer, single, length-append (patches_of s) more, length-append (patches_of s) (map patch_of_logged all), length-map all patch_of_logged, length-map (e ∷ f ∷ es) logged))

-- what a run led to is plain where what was recorded of it is
run-none : (x y : Labelled) → RunIn spelled x [] y → x ≡ y
run-none x y (no_edits w) = refl

plain-end : (s : State) (value : Labelled) (next : ℕ) (edits : List Edit) → RunIn spelled s.tree edits value
    → IsPlain (bare (recorded value (map logged edits) next s).tree) → IsPlain (bare value)
plain-end s value next [] run h = let P : Labelled → Type 0 = λ y. IsPlain (bare y) in subst P (run-none s.tree value run) h
plain-end s value next (e ∷ es) run h = h

-- what a call ran
pub record Ran (before after : State) : Type 0 where
  pub value : Labelled
  pub next : ℕ
  pub edits : List Edit
  pub run : RunIn spelled before.tree edits value
  pub inner : AllWithin edits
  pub is : recorded value (map logged edits) next before ≡ after

within-one : (e : Edit) (es : List Edit) → AllInside (map logged (e ∷ es)) → IsWithin e
within-one (whole old new) es h = absurd h.0
within-one (within way change) es h = tt

all-within : (es : List Edit) → AllInside (map logged es) → AllWithin es
all-within [] h = tt
all-within (e ∷ es) h = (within-one e es h, all-within es h.1)

-- a call that logged one patch is undone
single-undone : (types : Catalog) (before after : State) → IsTypedTree types after → Ran before after → (call : LeadsOn before after) → length call.on.more ≡ 1
    → ArePutBack (back call.on.more) (bare before.tree) after (after_restoring types (back call.on.more) after)
single-undone types before after typed r call single =
    let end : State = recorded r.value (map logged r.edits) r.next before in
    let Plain : State → Type 0 = λ s. IsPlain (bare s.tree) in
    let Logs : State → Type 0 = λ s. patches_of s ≡ patches_of before ++ call.on.more in
    let In : State → Type 0 = λ s. AreInNodes types (back call.on.more) (tree_in s) in
    let inside : AreInNodes types (back call.on.more) (tree_in end) =
    single-inside types before r.value r.next r.edits r.run r.inner (plain-end before r.value r.next r.edits r.run (subst Plain (sym r.is) typed.plain)) call.on.more (subst Logs (sym r.is) call.on.logged) single in
    applies types (back call.on.more) after (bare before.tree) typed.plain (plain-back call.on.more (own-plain types before after call typed)) (subst In r.is inside) call.back

module _ (types : Catalog) (sound : IsSound types) (before : State) (tree : IsSoundTree types before) where
  -- what a write of one place ran, before the tree is judged
  ran-place : (target : Target) (write : Write) → WritesPlain write → (c : Changed) → place_written types target write (tree_in before) ≡ Ok c
      → (after : State) → with_change c before ≡ after → Ran before after
  ran-place target write plain c h after last =
      let goes : Goes 1048576 before.tree c =
      from-Ok (place_written types target write (tree_in before)) (Goes 1048576 before.tree) c
      (place-goes 1048576 first-bound types sound target write (tree_in before) (fine-tree types sound before after tree) tree.typed.plain plain) h in
      let inside : Inside c =
      from-Ok (place_written types target write (tree_in before)) Inside c
      (place-inside types sound target write (tree_in before) tree.typed.nodes.labelled
      (limited-Ok (made_by types.table types.defaults (root_type types) (Some (bare before.tree))) (bare before.tree) tree.value.made).0) h in
      record {
        value = c.value;
        next = c.next;
        edits = goes.runs.edits;
        run = goes.runs.run;
        inner = all-within goes.runs.edits (subst AllInside (sym goes.runs.logs) inside);
        is = ap (λ es. recorded c.value es c.next before) goes.runs.logs ∙ last;
      }

  -- what is judged is recorded
  judged-last : (c d : Changed) (after : State) → judged types c ≡ Ok d → ◌≡◌ {A = Outcome State} (Ok (with_change d before)) (Ok after) → with_change c before ≡ after
  judged-last c d after h g = let same : c ≡ d = (judged-is types c d h).same in let last : with_change d before ≡ after = cc in ap (λ e. with_change e before) same ∙ last

  ran-write : (after : State) → Writes types before after → Ran before after
  ran-write after w =
      let c : Comes (written types w.target w.write (tree_in before)) (λ c. Ok (with_change c before)) after = comes _ _ after w.done in
      let p : Comes (place_written types w.target w.write (tree_in before)) (judged types) c.from = comes _ _ c.from c.first in
      ran-place w.target w.write w.plain p.from p.first after (judged-last p.from c.from after p.next c.next)

  -- a list of one patch is one write
  ran-list : (after : State) (p : Patch) → IsPlain (patch.written p) → after_list types (p ∷ []) before ≡ Ok after → Ran before after
  ran-list after p plain done =
      let c : Comes (list_written types (p ∷ []) (tree_in before)) (λ c. Ok (with_change c before)) after = comes _ _ after done in
      let all : Comes (patches_written types (p ∷ []) (tree_in before)) (judged types) c.from = comes _ _ c.from c.first in
      let first = comes (patch_written types p (tree_in before)) _ all.from all.first in
      let none : Outcome Changed = Ok (record { value = first.from.value; edits = first.from.edits ++ []; next = first.from.next }) in
      let rest : none ≡ Ok all.from = provided-Ok (nat_le (depth_of (bare first.from.value)) 64) [] Large none all.from first.next in
      let With : List LoggedEdit → Changed = λ es. record { value = first.from.value; edits = es; next = first.from.next } in
      let same : first.from ≡ all.from = ap With (sym (append-nil first.from.edits)) ∙ ok-change (With (first.from.edits ++ [])) all.from rest in
      let at = comes (place_in p before.tree) _ first.from first.first in
      ran-place (record { running = acting (label_of before.tree); place = at.from; named = Some p.path }) (write_in p) (by-plain p.op (patch.written p) plain) first.from at.next after
      (ap (λ d. with_change d before) same ∙ judged-last all.from c.from after all.next c.next)
    where
      ok-change : (d e : Changed) → ◌≡◌ {A = Outcome Changed} (Ok d) (Ok e) → d ≡ e
      ok-change d e h = cc

pub writes-undone : (types : Catalog) → IsSound types → (before after : State) → IsSoundTree types before → Writes types before after
    → (call : LeadsOn before after) → length call.on.more ≡ 1
    → ArePutBack (back call.on.more) (bare before.tree) after (after_restoring types (back call.on.more) after)
writes-undone types sound before after tree w call single =
    single-undone types before after (writes-typed types sound before after tree.typed w) (ran-write types sound before tree after w) call single

pub lists-undone : (types : Catalog) → IsSound types → (before after : State) → IsSoundTree types before → (w : WritesList types before after) → length w.patches ≡ 1
    → (call : LeadsOn before after) → length call.on.more ≡ 1
    → ArePutBack (back call.on.more) (bare before.tree) after (after_restoring types (back call.on.more) after)
lists-undone types sound before after tree w one call single =
    single-undone types before after (lists-typed types sound before after tree.typed w) (by w.patches w.plain w.done one) call single
  where
    by : (ps : List Patch) → All (λ p. IsPlain (patch.written p)) ps → after_list types ps before ≡ Ok after → length ps ≡ 1 → Ran before after
    by [] plain done n = absurd (omega (arith, n))
    by (p ∷ []) plain done n = ran-list types sound before tree after p (All-head (λ q. IsPlain (patch.written q)) p [] plain) done
    by (p ∷ q ∷ ps) plain done n = absurd (omega (arith, n))

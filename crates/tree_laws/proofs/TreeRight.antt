-- A sound tree stays sound after a write, and after a list of patches.
use Rattle.std.proofs.Common.{◌≡◌, List, [], ◌∷◌, ◌++◌, Some, Ok, IfOk, if◌then◌else◌, ap, subst, ◌∙◌}
use Rattle.std.specs.Prelude.{All, nat_le}
use Rattle.std.proofs.lemmas.List.Elements.{All-head, All-tail}
use Rattle.snap_core.specs.Value.{Value, IsPlain, depth_of}
use Rattle.patch_core.specs.Application as patch
use Rattle.patch_core.specs.declared.patch.Patch.{Patch}
use Rattle.pointer_core.specs.declared.refusal.Rule.TheVariants.{Large}
use Rattle.type_table.specs.Table.{Catalog}
use Rattle.type_core.specs.Making.{Outcome, made_by, limited, refused}
use Rattle.type_core.specs.Sound.{IsSound}
use Rattle.type_core.proofs.Again.{limited-Ok}
use Rattle.edit_core.specs.Labelled.{Labelled, bare}
use Rattle.edit_core.specs.Labelling.{IsLabelledBy}
use Rattle.edit_core.specs.Logged.{LoggedEdit}
use Rattle.edit_core.specs.Typing.{label_of}
use Rattle.edit_core.specs.Ways.{way_to, part_at}
use Rattle.tree_core.specs.declared.place.Place.{Place}
use Rattle.tree_core.specs.Changed.{Changed}
use Rattle.tree_core.specs.Listing.{write_in, acting, place_in, patch_written, patches_written, list_written}
use Rattle.tree_core.specs.Nodes.{may_write}
use Rattle.tree_core.specs.Outcome.{◌>>=◌, or_refuse}
use Rattle.tree_core.specs.Recorded.{IsSoundValue, tree_in, with_change}
use Rattle.tree_core.specs.State.{State, recorded}
use Rattle.tree_core.specs.TypesTyping.{typing_of, root_type}
use Rattle.tree_core.specs.Write.{Write, WritesPlain}
use Rattle.tree_core.specs.Writing.{Tree, Target, Writing, node_no, name_for, writing_at, node_written, place_written, judged, written}
use Rattle.tree_core.proofs.Moving.{Stands}
use Rattle.tree_core.proofs.PartFacts.{plain-part}
use Rattle.tree_core.proofs.PlaceKeeping.{way-stands}
use Rattle.tree_core.proofs.WriteKeeping.{bound, if-provided, there, provided-Ok}
use Rattle.tree_laws.specs.Calls.{Writes, WritesList}
use Rattle.tree_laws.specs.Trees.{IsSoundTree}
use Rattle.tree_laws.proofs.Lists.{by-plain}
use Rattle.tree_laws.proofs.PlaceGoing.{from-Ok}
use Rattle.tree_laws.proofs.Right.{IsRight, right-from, right-made}
use Rattle.tree_laws.proofs.RightParts.{Kept, right-part, right-with}
use Rattle.tree_laws.proofs.StayTyped.{writes-typed, lists-typed}
use Rattle.tree_laws.proofs.TreeTyped.{IsKept, place-kept}
use Rattle.tree_laws.proofs.Typed.{typed-part}
use Rattle.tree_laws.proofs.WholeRight.{node-right}
use Rattle.tree_laws.proofs.Writes.{comes, IsJudged, judged-is}

module _ (types : Catalog) (sound : IsSound types) where
  abbrev Right : Labelled → Type 0
  Right x = IsRight types (root_type types) x

  place-right : (target : Target) (write : Write) (tree : Tree) → IsLabelledBy (typing_of types.table) (root_type types) tree.root → Right tree.root → IsPlain (bare tree.root)
      → IfOk (place_written types target write tree) (λ c. Right c.value)
  place-right target write tree labelled right plain =
      bound (or_refuse (way_to (node_no target.place) tree.root) [] _) _ (λ c. Right c.value)
      (λ way e. if-provided (may_write target.running way tree.root) (name_for way target) _ _ (λ c. Right c.value)
      (λ _. bound (or_refuse (part_at way tree.root) [] _) _ (λ c. Right c.value)
      (λ node g.
      let stands : Stands way tree.root node = way-stands (node_no target.place) tree.root way node (there _ [] _ way e) (there _ [] _ node g) in
      let w : Writing = writing_at types target way tree in
      let inner = node-right w sound target.place write node (typed-part types sound (root_type types) way tree.root node stands labelled)
      (right-part types sound (root_type types) way tree.root node stands right) (plain-part way tree.root node stands plain) in
      bound (node_written w target.place write node) _ (λ c. Right c.value)
      (λ c k. (right-with types sound (root_type types) way tree.root node c.value stands right
      (from-Ok (node_written w target.place write node) (λ d. Kept types sound w.type node d.value) c inner k)).right))))

  -- what a change leaves
  record IsFit (c : Changed) : Type 0 where
    kept : IsKept types c
    right : Right c.value

  place-fit : (target : Target) (write : Write) (tree : Tree) → WritesPlain write → IsFit (record { value = tree.root; edits = []; next = tree.next }) → (c : Changed) → place_written types target write tree ≡ Ok c → IsFit c
  place-fit target write tree writes fit c h =
      record {
        kept = place-kept types sound target write tree fit.kept.labelled fit.kept.numbered fit.kept.plain writes c h;
        right = from-Ok (place_written types target write tree) (λ d. Right d.value) c (place-right target write tree fit.kept.labelled fit.right fit.kept.plain) h;
      }

  patches-fit : (ps : List Patch) (tree : Tree) → All (λ p. IsPlain (patch.written p)) ps → IsFit (record { value = tree.root; edits = []; next = tree.next })
      → (c : Changed) → patches_written types ps tree ≡ Ok c → IsFit c
  patches-fit [] tree writes fit c h = let same : record { value = tree.root; edits = []; next = tree.next } ≡ c = cc in subst IsFit same fit
  patches-fit (p ∷ ps) tree writes fit c h =
      let a = comes (patch_written types p tree) _ c h in
      let at = comes {A = Place} (place_in p tree.root) _ a.from a.first in
      let target : Target = record { running = acting (label_of tree.root); place = at.from; named = Some p.path } in
      let first : IsFit a.from = place-fit target (write_in p) tree (by-plain p.op (patch.written p) (All-head (λ q. IsPlain (patch.written q)) p ps writes)) fit a.from at.next in
      let rest = provided-Ok (nat_le (depth_of (bare a.from.value)) 64) [] Large (patches_written types ps (record { root = a.from.value; next = a.from.next })
      >>= (λ r. Ok (record { value = r.value; edits = a.from.edits ++ r.edits; next = r.next }))) c a.next in
      let b = comes (patches_written types ps (record { root = a.from.value; next = a.from.next })) _ c rest in
      let begin : IsFit (record { value = a.from.value; edits = []; next = a.from.next }) =
      record { kept = record { labelled = first.kept.labelled; numbered = first.kept.numbered; plain = first.kept.plain }; right = first.right } in
      let next : IsFit b.from = patches-fit ps (record { root = a.from.value; next = a.from.next }) (All-tail (λ q. IsPlain (patch.written q)) p ps writes) begin b.from b.first in
      let same : record { value = b.from.value; edits = a.from.edits ++ b.from.edits; next = b.from.next } ≡ c = (let e = b.next in cc) in
      subst IsFit same (record { kept = record { labelled = next.kept.labelled; numbered = next.kept.numbered; plain = next.kept.plain }; right = next.right })

  -- a value that is right, light enough, and has no identifier twice is sound
  sound-value : (c d : Changed) → Right c.value → IsJudged types c d → IsSoundValue types (bare c.value)
  sound-value c d right is = record {
    made = ap limited (right-made types sound (root_type types) c.value right) ∙ ap (λ b. if b then Ok (bare c.value) else refused_large) is.within;
    single = is.single;
  } where
    refused_large : Outcome Value
    refused_large = refused Large

  sound-recorded : (s : State) (c : Changed) → IsSoundValue types (bare s.tree) → IsSoundValue types (bare c.value) → IsSoundValue types (bare (with_change c s).tree)
  sound-recorded s c old new = by c.edits where
    by : (es : List LoggedEdit) → IsSoundValue types (bare (recorded c.value es c.next s).tree)
    by [] = old
    by (e ∷ es) = new

  module _ (before after : State) (tree : IsSoundTree types before) where
    first-fit : IsFit (record { value = before.tree; edits = []; next = before.next })
    first-fit = record {
      kept = record { labelled = tree.typed.nodes.labelled; numbered = tree.typed.nodes.numbered; plain = tree.typed.plain };
      right =
          right-from types sound (root_type types) before.tree tree.typed.nodes.labelled
          (limited-Ok (made_by types.table types.defaults (root_type types) (Some (bare before.tree))) (bare before.tree) tree.value.made).0;
    }

    left : (c d : Changed) → Right c.value → judged types c ≡ Ok d → ◌≡◌ {A = Outcome State} (Ok (with_change d before)) (Ok after) → IsSoundValue types (bare after.tree)
    left c d right h e =
        let is : IsJudged types c d = judged-is types c d h in
        let P : Changed → Type 0 = λ x. IsSoundValue types (bare (with_change x before).tree) in
        let Q : State → Type 0 = λ s. IsSoundValue types (bare s.tree) in
        let state : with_change d before ≡ after = cc in
        subst Q state (subst P is.same (sound-recorded before c tree.value (sound-value c d right is)))

    pub writes-keep : Writes types before after → IsSoundTree types after
    writes-keep w =
        let c = comes (written types w.target w.write (tree_in before)) _ after w.done in
        let p = comes (place_written types w.target w.write (tree_in before)) (judged types) c.from c.first in
        let fit : IsFit p.from = place-fit w.target w.write (tree_in before) w.plain first-fit p.from p.first in
        record { typed = writes-typed types sound before after tree.typed w; value = left p.from c.from fit.right p.next c.next }

    pub lists-keep : WritesList types before after → IsSoundTree types after
    lists-keep w =
        let c = comes (list_written types w.patches (tree_in before)) _ after w.done in
        let p = comes (patches_written types w.patches (tree_in before)) (judged types) c.from c.first in
        let fit : IsFit p.from = patches-fit w.patches (tree_in before) w.plain first-fit p.from p.first in
        record { typed = lists-typed types sound before after tree.typed w; value = left p.from c.from fit.right p.next c.next }

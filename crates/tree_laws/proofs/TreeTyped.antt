-- A tree is as types say after a write, and after a list of patches.
use Rattle.std.proofs.Common.{◌≡◌, ℕ, List, [], ◌∷◌, ◌++◌, Some, Ok, IfOk, subst}
use Rattle.std.specs.Prelude.{All, nat_le}
use Rattle.std.proofs.lemmas.List.Elements.{All-head, All-tail}
use Rattle.snap_core.specs.Value.{IsPlain, depth_of}
use Rattle.patch_core.specs.Application as patch
use Rattle.patch_core.specs.declared.patch.Patch.{Patch}
use Rattle.pointer_core.specs.declared.refusal.Rule.TheVariants.{Large}
use Rattle.type_table.specs.Table.{Table, Catalog}
use Rattle.type_core.specs.Making.{Outcome}
use Rattle.type_core.specs.Sound.{IsSound}
use Rattle.edit_core.specs.Labelled.{Labelled, leaf, many, keyed, bare}
use Rattle.edit_core.specs.Labelling.{IsLabelledBy}
use Rattle.edit_core.specs.Numbers.{AreNumbered}
use Rattle.edit_core.specs.Typing.{label_of}
use Rattle.edit_core.specs.Ways.{way_to, part_at}
use Rattle.tree_core.specs.declared.place.Place.{Place}
use Rattle.edit_core.specs.Logged.{LoggedEdit}
use Rattle.tree_core.specs.Changed.{Changed}
use Rattle.tree_core.specs.Listing.{write_in, acting, place_in, patch_written, patches_written, list_written}
use Rattle.tree_core.specs.Nodes.{may_write}
use Rattle.tree_core.specs.Outcome.{◌>>=◌, or_refuse}
use Rattle.tree_core.specs.Recorded.{IsTreeOf, after_write, after_list, tree_in, with_change}
use Rattle.tree_core.specs.State.{State, recorded}
use Rattle.tree_core.specs.TypesTyping.{typing_of, root_type}
use Rattle.tree_core.specs.Write.{Write, WritesPlain}
use Rattle.tree_core.specs.Writing.{Tree, Target, Writing, node_no, name_for, writing_at, node_written, place_written, judged, written}
use Rattle.tree_core.proofs.Keeping.{Keeps, numbered-again}
use Rattle.tree_core.proofs.Moving.{Stands}
use Rattle.tree_core.proofs.PartFacts.{plain-part}
use Rattle.tree_core.proofs.PlaceKeeping.{way-stands, place-keeps}
use Rattle.tree_core.proofs.WriteKeeping.{bound, if-provided, there, provided-Ok}
use Rattle.tree_laws.proofs.Lists.{by-plain}
use Rattle.tree_laws.proofs.PlaceGoing.{from-Ok}
use Rattle.tree_laws.proofs.Typed.{KeepsLetter, typed-part, typed-with}
use Rattle.tree_laws.proofs.WriteTyped.{node-typed}
use Rattle.tree_laws.proofs.Writes.{comes, judged-is}

-- a changed tree is as types say
pub record IsKept (types : Catalog) (c : Changed) : Type 0 where
  pub labelled : IsLabelledBy (typing_of types.table) (root_type types) c.value
  pub numbered : AreNumbered c.next c.value
  pub plain : IsPlain (bare c.value)

-- a node that is written is no literal
node-letter : (table : Table) (u : ℕ) (w : Writing) (at : Place) (write : Write) (node : Labelled) (c : Changed) → node_written w at write node ≡ Ok c
    → KeepsLetter table u (bare node) (bare c.value)
node-letter table u w at write (leaf v) c h = absurd (cc)
node-letter table u w at write (many l bs) c h = λ s letter same. absurd (cc)
node-letter table u w at write (keyed l es) c h = λ s letter same. absurd (cc)

module _ (types : Catalog) (sound : IsSound types) where
  abbrev Follows : Labelled → Type 0
  Follows x = IsLabelledBy (typing_of types.table) (root_type types) x

  pub place-typed : (target : Target) (write : Write) (tree : Tree) → Follows tree.root → IsPlain (bare tree.root)
      → IfOk (place_written types target write tree) (λ c. Follows c.value)
  place-typed target write tree labelled plain =
      bound (or_refuse (way_to (node_no target.place) tree.root) [] _) _ (λ c. Follows c.value)
      (λ way e. if-provided (may_write target.running way tree.root) (name_for way target) _ _ (λ c. Follows c.value)
      (λ _. bound (or_refuse (part_at way tree.root) [] _) _ (λ c. Follows c.value)
      (λ node g.
      let stands : Stands way tree.root node = way-stands (node_no target.place) tree.root way node (there _ [] _ way e) (there _ [] _ node g) in
      let w : Writing = writing_at types target way tree in
      let inner = node-typed w sound target.place write node (typed-part types sound (root_type types) way tree.root node stands labelled) (plain-part way tree.root node stands plain) in
      bound (node_written w target.place write node) _ (λ c. Follows c.value)
      (λ c k. typed-with types sound (root_type types) way tree.root node c.value stands labelled
      (from-Ok (node_written w target.place write node) (λ c. IsLabelledBy (typing_of types.table) w.type c.value) c inner k)
      (node-letter types.table w.type w target.place write node c k)))))

  pub place-kept : (target : Target) (write : Write) (tree : Tree) → Follows tree.root → AreNumbered tree.next tree.root → IsPlain (bare tree.root) → WritesPlain write
      → (c : Changed) → place_written types target write tree ≡ Ok c → IsKept types c
  place-kept target write tree labelled numbered plain writes c h =
      let keeps : Keeps tree.next tree.root c = from-Ok (place_written types target write tree) (Keeps tree.next tree.root) c (place-keeps types sound target write tree numbered plain writes) h in
      record {
        labelled = from-Ok (place_written types target write tree) (λ d. Follows d.value) c (place-typed target write tree labelled plain) h;
        numbered = numbered-again tree.next tree.root c numbered keeps;
        plain = keeps.plain;
      }

  patches-kept : (ps : List Patch) (tree : Tree) → Follows tree.root → AreNumbered tree.next tree.root → IsPlain (bare tree.root) → All (λ p. IsPlain (patch.written p)) ps
      → (c : Changed) → patches_written types ps tree ≡ Ok c → IsKept types c
  patches-kept [] tree labelled numbered plain writes c h =
      let same : record { value = tree.root; edits = []; next = tree.next } ≡ c = cc in
      subst (IsKept types) same (record { labelled = labelled; numbered = numbered; plain = plain })
  patches-kept (p ∷ ps) tree labelled numbered plain writes c h =
      let a = comes (patch_written types p tree) _ c h in
      let at = comes {A = Place} (place_in p tree.root) _ a.from a.first in
      let target : Target = record { running = acting (label_of tree.root); place = at.from; named = Some p.path } in
      let first : IsKept types a.from =
      place-kept target (write_in p) tree labelled numbered plain (by-plain p.op (patch.written p) (All-head (λ q. IsPlain (patch.written q)) p ps writes)) a.from at.next in
      let rest = provided-Ok (nat_le (depth_of (bare a.from.value)) 64) [] Large (patches_written types ps (record { root = a.from.value; next = a.from.next })
      >>= (λ r. Ok (record { value = r.value; edits = a.from.edits ++ r.edits; next = r.next }))) c a.next in
      let b = comes (patches_written types ps (record { root = a.from.value; next = a.from.next })) _ c rest in
      let next : IsKept types b.from =
      patches-kept ps (record { root = a.from.value; next = a.from.next }) first.labelled first.numbered first.plain (All-tail (λ q. IsPlain (patch.written q)) p ps writes) b.from b.first in
      let same : record { value = b.from.value; edits = a.from.edits ++ b.from.edits; next = b.from.next } ≡ c = (let e = b.next in cc) in
      subst (IsKept types) same (record { labelled = next.labelled; numbered = next.numbered; plain = next.plain })

  -- what is recorded of a change
  recorded-kept : (s : State) (c : Changed) → IsTreeOf types s → IsKept types c → IsTreeOf types (with_change c s)
  recorded-kept s c tree kept = by c.edits where
    by : (es : List LoggedEdit) → IsTreeOf types (recorded c.value es c.next s)
    by [] = tree
    by (e ∷ es) = record { labelled = kept.labelled; numbered = kept.numbered }

  recorded-plain : (s : State) (c : Changed) → IsPlain (bare s.tree) → IsKept types c → IsPlain (bare (with_change c s).tree)
  recorded-plain s c plain kept = by c.edits where
    by : (es : List LoggedEdit) → IsPlain (bare (recorded c.value es c.next s).tree)
    by [] = plain
    by (e ∷ es) = kept.plain

  -- what a write leaves of a tree
  pub record StaysTyped (after : State) : Type 0 where
    pub typed : IsTreeOf types after
    pub plain : IsPlain (bare after.tree)

  stays : (before after : State) (c : Changed) → IsTreeOf types before → IsPlain (bare before.tree) → IsKept types c → ◌≡◌ {A = Outcome State} (Ok (with_change c before)) (Ok after) → StaysTyped after
  stays before after c tree plain kept h =
      let is : with_change c before ≡ after = cc in
      subst StaysTyped is (record { typed = recorded-kept before c tree kept; plain = recorded-plain before c plain kept })

  pub write-typed : (target : Target) (write : Write) (before after : State) → IsTreeOf types before → IsPlain (bare before.tree) → WritesPlain write
      → after_write types target write before ≡ Ok after → StaysTyped after
  write-typed target write before after tree plain writes h =
      let c = comes (written types target write (tree_in before)) _ after h in
      let p = comes (place_written types target write (tree_in before)) (judged types) c.from c.first in
      let kept : IsKept types p.from = place-kept target write (tree_in before) tree.labelled tree.numbered plain writes p.from p.first in
      stays before after c.from tree plain (subst (IsKept types) (judged-is types p.from c.from p.next).same kept) c.next

  pub list-typed : (ps : List Patch) (before after : State) → IsTreeOf types before → IsPlain (bare before.tree) → All (λ p. IsPlain (patch.written p)) ps
      → after_list types ps before ≡ Ok after → StaysTyped after
  list-typed ps before after tree plain writes h =
      let c = comes (list_written types ps (tree_in before)) _ after h in
      let p = comes (patches_written types ps (tree_in before)) (judged types) c.from c.first in
      let kept : IsKept types p.from = patches-kept ps (tree_in before) tree.labelled tree.numbered plain writes p.from p.first in
      stays before after c.from tree plain (subst (IsKept types) (judged-is types p.from c.from p.next).same kept) c.next

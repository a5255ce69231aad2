-- A list of patches that a sound tree takes leads on.
use Rattle.std.proofs.Common.{◌≡◌, ℕ, ◌+◌, suc, ◌≤◌, ◌<◌, ◌^◌, List, [], ◌∷◌, ◌++◌, length, map, Option, Some, None, Ok, refl, ap, subst, ◌∙◌, arith}
use Rattle.std.specs.Prelude.{All, nat_le}
use Rattle.std.proofs.lemmas.List.{map-append}
use Rattle.std.proofs.lemmas.List.Elements.{All-head, All-tail}
use Rattle.snap_core.specs.Value.{Value, IsPlain, depth_of}
use Rattle.patch_core.specs.Application as patch
use Rattle.patch_core.specs.declared.patch.Patch.{Patch}
use Rattle.patch_core.specs.declared.patch.PatchOp.{PatchOp}
use Rattle.patch_core.specs.declared.patch.PatchOp.TheVariants.{Add, Replace, Remove}
use Rattle.pointer_core.specs.declared.refusal.Rule.TheVariants.{Large, Path}
use Rattle.type_table.specs.Table.{Catalog}
use Rattle.type_core.specs.Making.{Outcome}
use Rattle.type_core.specs.Sound.{IsSound}
use Rattle.edit_core.specs.declared.kind.Kind.{Kind}
use Rattle.edit_core.specs.declared.kind.Kind.TheVariants as kind
use Rattle.edit_core.specs.Edit.{Turn}
use Rattle.edit_core.specs.Labelled.{Label, Labelled, leaf, many, keyed, items_in, bare}
use Rattle.edit_core.specs.Logged.{logged}
use Rattle.edit_core.specs.Numbers.{AreNumbered}
use Rattle.edit_core.specs.Typing.{label_of}
use Rattle.edit_core.specs.Ways.{part_at}
use Rattle.edit_core.proofs.Ascending.{spelled}
use Rattle.edit_core.proofs.Leading.{FineIn, no_edits}
use Rattle.edit_core.proofs.Runs.{joined_in}
use Rattle.tree_core.specs.declared.place.Place.{Place}
use Rattle.tree_core.specs.declared.place.Place.TheVariants as place
use Rattle.tree_core.specs.Changed.{Changed}
use Rattle.tree_core.specs.Listing.{Named, named_by, write_in, write_by, entry_place, item_place, place_of, place_in, acting, patch_written, patches_written, list_written}
use Rattle.tree_core.specs.Outcome.{◌>>=◌, or_refuse}
use Rattle.tree_core.specs.Reading.{way_along}
use Rattle.tree_core.specs.Recorded.{tree_in, with_change}
use Rattle.tree_core.specs.State.{State}
use Rattle.tree_core.specs.Write.{WritesPlain}
use Rattle.tree_core.specs.Writing.{Tree, Target, place_written, judged}
use Rattle.tree_core.proofs.Keeping.{Keeps, numbered-again}
use Rattle.tree_core.proofs.Moving.{Runs}
use Rattle.tree_core.proofs.PlaceKeeping.{place-keeps}
use Rattle.tree_core.proofs.WriteKeeping.{provided-Ok}
use Rattle.tree_laws.specs.Calls.{WritesList, LeadsOn}
use Rattle.tree_laws.specs.Trees.{IsSoundTree}
use Rattle.tree_laws.proofs.Bounds.{bounded}
use Rattle.tree_laws.proofs.Inside.{Inside, IsPart, part-written-inside}
use Rattle.tree_laws.proofs.Joining.{inside-joined}
use Rattle.tree_laws.proofs.Leading.{leading, recorded-leads}
use Rattle.tree_laws.proofs.NodeGoing.{Goes, IsBound}
use Rattle.tree_laws.proofs.PlaceGoing.{place-goes, from-Ok}
use Rattle.tree_laws.proofs.Writes.{comes, judged-is, fine-tree}

-- a patch names a place of a part

entry-part : (l : Label) (k : Kind) (token : List ℕ) → IsPart (entry_place l k token)
entry-part l (kind.Map t) token = tt
entry-part l (kind.Model m) token = tt
entry-part l (kind.Array t) token = tt

item-part : (p : Patch) (l : Label) (o : Option ℕ) (at : Place) → item_place p l o ≡ Ok at → IsPart at
item-part p l (Some i) at h = let same : place.Item (record { 0 = l.number }) i ≡ at = cc in subst IsPart same tt
item-part p l None at h = absurd (cc)

place-part : (p : Patch) (token : List ℕ) (x : Labelled) (at : Place) → place_of p token x ≡ Ok at → IsPart at
place-part p token (leaf v) at h = absurd (cc)
place-part p token (many l bs) at h = item-part p l (patch.index_for p.op (length (items_in bs)) token) at h
place-part p token (keyed l es) at h = let same : entry_place l l.kind token ≡ at = cc in subst IsPart same (entry-part l l.kind token)

named-part : (p : Patch) (root : Labelled) (at : Place) → place_in p root ≡ Ok at → IsPart at
named-part p root at h =
    let a = comes {A = Named} (or_refuse (named_by p.path) p.path Path) _ at h in
    let b = comes {A = List Turn} (or_refuse (way_along a.from.holder root) p.path Path) _ at a.next in
    let c = comes {A = Labelled} (or_refuse (part_at b.from root) p.path Path) _ at b.next in
    place-part p a.from.token c.from at c.next

pub by-plain : (op : PatchOp) (v : Value) → IsPlain v → WritesPlain (write_by op v)
by-plain Add v h = h
by-plain Replace v h = h
by-plain Remove v h = tt

-- what holds of a tree between the patches
record IsBetween (n : ℕ) (tree : Tree) : Type 0 where
  numbered : AreNumbered tree.next tree.root
  plain : IsPlain (bare tree.root)
  fine : FineIn (bounded n) tree.root

-- what patches lead to
record Led (x : Labelled) (c : Changed) : Type 0 where
  runs : Runs spelled x c
  inside : Inside c

module _ (types : Catalog) (sound : IsSound types) where
  record One (n : ℕ) (tree : Tree) (c : Changed) : Type 0 where
    led : Led tree.root c
    between : IsBetween (suc n) (record { root = c.value; next = c.next })

  one-patch : (n : ℕ) → IsBound n → (p : Patch) (tree : Tree) → IsPlain (patch.written p) → IsBetween n tree → (c : Changed) → patch_written types p tree ≡ Ok c → One n tree c
  one-patch n bound p tree plain between c h =
      let a = comes (place_in p tree.root) _ c h in
      let target : Target = record { running = acting (label_of tree.root); place = a.from; named = Some p.path } in
      let part : IsPart a.from = named-part p tree.root a.from a.first in
      let writes : WritesPlain (write_in p) = by-plain p.op (patch.written p) plain in
      let goes : Goes n tree.root c =
      from-Ok (place_written types target (write_in p) tree) (Goes n tree.root) c (place-goes n bound types sound target (write_in p) tree between.fine between.plain writes) a.next in
      let keeps : Keeps tree.next tree.root c =
      from-Ok (place_written types target (write_in p) tree) (Keeps tree.next tree.root) c (place-keeps types sound target (write_in p) tree between.numbered between.plain writes) a.next in
      record {
        led = record { runs = goes.runs; inside = from-Ok (place_written types target (write_in p) tree) Inside c (part-written-inside types target (write_in p) tree part) a.next };
        between = record { numbered = numbered-again tree.next tree.root c between.numbered keeps; plain = keeps.plain; fine = goes.fine };
      }

  joined : (x : Labelled) (c d : Changed) → Led x c → Led c.value d → Led x (record { value = d.value; edits = c.edits ++ d.edits; next = d.next })
  joined x c d first next =
      record {
        runs = record {
          edits = first.runs.edits ++ next.runs.edits;
          logs = map-append logged first.runs.edits next.runs.edits ∙ ap (λ es. es ++ map logged next.runs.edits) first.runs.logs ∙ ap (λ es. c.edits ++ es) next.runs.logs;
          run = joined_in spelled x c.value d.value first.runs.edits next.runs.edits first.runs.run next.runs.run;
        };
        inside = inside-joined c.edits d.edits first.inside next.inside;
      }

  all-patches : (n : ℕ) (ps : List Patch) (tree : Tree) → 1048576 ≤ n → n + length ps < 2 ^ 32 → All (λ p. IsPlain (patch.written p)) ps → IsBetween n tree
      → (c : Changed) → patches_written types ps tree ≡ Ok c → Led tree.root c
  all-patches n [] tree least few plain between c h =
      let same : record { value = tree.root; edits = []; next = tree.next } ≡ c = cc in
      let P : Changed → Type 0 = λ d. Led tree.root d in
      subst P same (record { runs = record { edits = []; logs = refl; run = no_edits tree.root }; inside = tt })
  all-patches n (p ∷ ps) tree least few plain between c h =
      let a = comes (patch_written types p tree) _ c h in
      let first : One n tree a.from = one-patch n (record { least = least; most = omega (arith, few) }) p tree (All-head (λ q. IsPlain (patch.written q)) p ps plain) between a.from a.first in
      let rest = provided-Ok (nat_le (depth_of (bare a.from.value)) 64) [] Large (patches_written types ps (record { root = a.from.value; next = a.from.next })
      >>= (λ r. Ok (record { value = r.value; edits = a.from.edits ++ r.edits; next = r.next }))) c a.next in
      let b = comes (patches_written types ps (record { root = a.from.value; next = a.from.next })) _ c rest in
      let next : Led a.from.value b.from =
      all-patches (suc n) ps (record { root = a.from.value; next = a.from.next }) (omega (arith, least)) (omega (arith, few)) (All-tail (λ q. IsPlain (patch.written q)) p ps plain) first.between b.from b.first in
      let same : record { value = b.from.value; edits = a.from.edits ++ b.from.edits; next = b.from.next } ≡ c = (let e = b.next in cc) in
      let P : Changed → Type 0 = λ d. Led tree.root d in
      subst P same (joined tree.root a.from b.from first.led next)

  pub lists-lead : (before after : State) → IsSoundTree types before → WritesList types before after → LeadsOn before after
  lists-lead before after tree w =
      let c = comes (list_written types w.patches (tree_in before)) _ after w.done in
      let p = comes (patches_written types w.patches (tree_in before)) (judged types) c.from c.first in
      let led : Led before.tree p.from =
      all-patches 1048576 w.patches (tree_in before) (omega arith) (omega (arith, w.few)) w.plain
      (record { numbered = tree.typed.nodes.numbered; plain = tree.typed.plain; fine = fine-tree types sound before before tree }) p.from p.first in
      let same : p.from ≡ c.from = (judged-is types p.from c.from p.next).same in
      let P : Changed → Type 0 = λ d. LeadsOn before (with_change d before) in
      let Q : State → Type 0 = λ s. LeadsOn before s in
      let is : with_change c.from before ≡ after = (let e : ◌≡◌ {A = Outcome State} (Ok (with_change c.from before)) (Ok after) = c.next in cc) in
      subst Q is (subst P same (recorded-leads before p.from.edits p.from.value p.from.next (leading before.tree p.from led.runs led.inside)))

-- What a patch that is put back makes of a tree is what applying it makes, and it is logged as it is.
use Rattle.std.proofs.Common.{◌≡◌, ℕ, List, [], ◌∷◌, ◌++◌, length, map, Option, Some, None, Result, Ok, refl, sym, ap, subst, ◌∙◌}
use Rattle.std.specs.Prelude.{option_and_then}
use Rattle.std.specs.Option.{option_map}
use Rattle.std.proofs.lemmas.List.{map-append, length-map}
use Rattle.snap_core.specs.Value.{Value, IsPlain}
use Rattle.snap_core.specs.View.{view}
use Rattle.pointer_core.specs.Path.{Path}
use Rattle.patch_core.specs.Application.{applied, changed, written}
use Rattle.patch_core.specs.Fits.{FitsAt, Fits}
use Rattle.patch_core.specs.Printing.{HasPlainValues}
use Rattle.patch_core.specs.declared.error.PatchError.{PatchError}
use Rattle.patch_core.specs.declared.patch.Patch.{Patch}
use Rattle.patch_core.proofs.Ordered.{Holds}
use Rattle.patch_core.proofs.Plain.{changed_plain, written_plain}
use Rattle.edit_core.specs.Labelled.{Labelled, leaf, many, keyed, bare}
use Rattle.edit_core.specs.Edit.{Turn}
use Rattle.edit_core.specs.Logged.{LoggedEdit, patch_of_logged}
use Rattle.edit_core.specs.Plain.{token_of, patch_at}
use Rattle.edit_core.specs.Ways.{part_at}
use Rattle.tree_core.specs.Changed.{Changed, outward, placed}
use Rattle.tree_core.specs.Listing.{Named, named_below, named_by}
use Rattle.tree_core.specs.Reading.{way_along}
use Rattle.tree_core.proofs.Moving.{Stands}
use Rattle.tree_core.proofs.PartFacts.{plain-part}
use Rattle.tree_lists.specs.Restoring.{Restoring, putting_at, node_restored, restored_along, restored_by, one_restored}
use Rattle.tree_lists.proofs.Spots.{came, came-map, some-one, along-stands}
use Rattle.restoring_laws.specs.Places.{holder_of, IsNode}
use Rattle.restoring_laws.proofs.Along.{Along, along}
use Rattle.restoring_laws.proofs.Told.{told, told-complete, IsTold, Makes}
use Rattle.restoring_laws.proofs.ItemsMade.{array-made}
use Rattle.restoring_laws.proofs.EntriesMade.{record-made}
use Rattle.restoring_laws.proofs.Found.{There, node-changes}

-- the path of the holder and the last token are the path
unnamed : (path : Path) → named_by path ≡ None → [] ≡ path
unnamed [] h = refl
unnamed (first ∷ rest) h = by (named_by rest) h where
  by : (o : Option Named) → named_below first o ≡ None → [] ≡ first ∷ rest
  by (Some inner) g = absurd (cc)
  by None g = absurd (cc)

named-path : (path : Path) (named : Named) → named_by path ≡ Some named → named.holder ++ named.token ∷ [] ≡ path
named-path [] named h = absurd (cc)
named-path (token ∷ path) named h = by (named_by path) refl (λ n e. named-path path n e) h where
  by : (o : Option Named) → named_by path ≡ o → ((inner : Named) → named_by path ≡ Some inner → inner.holder ++ inner.token ∷ [] ≡ path)
      → named_below token o ≡ Some named → named.holder ++ named.token ∷ [] ≡ token ∷ path
  by (Some inner) e further g = let Is : Named → Type 0 = λ n. n.holder ++ n.token ∷ [] ≡ token ∷ path in subst Is (some-one _ named g) (ap (λ rest. token ∷ rest) (further inner e))
  by None e further g = let Is : Named → Type 0 = λ n. n.holder ++ n.token ∷ [] ≡ token ∷ path in subst Is (some-one _ named g) (ap (λ rest. token ∷ rest) (unnamed path e))

-- What a patch makes of a tree: its snapshot is as if it were applied, and where it fits, the log has it as it is.
pub record Puts (p : Patch) (root : Labelled) (c : Changed) : Type 0 where
  pub value : applied p (bare root) ≡ Ok (bare c.value)
  pub single : length c.edits ≡ 1
  pub logged : Fits p (bare root) → map patch_of_logged c.edits ≡ p ∷ []

module _ (r : Restoring) (values : HasPlainValues r.patch) (plain : IsPlain (bare r.tree.root)) where
  abbrev p : Patch
  p = r.patch

  node-makes : (node : Labelled) (token : List ℕ) → IsPlain (bare node) → (c : Changed) → node_restored (putting_at r node) token p ≡ Some c
      → Makes p.op token (written p) node c
  node-makes (leaf v) token plain-node c h = absurd (cc)
  node-makes (many l bs) token plain-node c h = array-made r.types r.tree.next (written p) (written_plain p values) l bs p.op token c h
  node-makes (keyed l es) token plain-node c h = record-made r.types r.tree.next (written p) (written_plain p values) l es plain-node token p.op c h

  placed-told : (way : List Turn) (path : Path) (token : List ℕ) (c : Changed) → map token_of way ≡ path → path ++ token ∷ [] ≡ p.path
      → IsTold p.op token (written p) (option_map view p.old) c → told p.op p.path (written p) (option_map view p.old) ≡ p
      → map patch_of_logged (map (outward way) c.edits) ≡ p ∷ []
  placed-told way path token c tokens whole is complete =
      let Logged : List LoggedEdit → List Patch = λ es. map patch_of_logged (map (outward way) es) in
      let One : Path → List Patch = λ ts. patch_at ts is.operation ∷ [] in
      ap Logged is.edits ∙ ap One (map-append token_of way (is.turn ∷ [])) ∙ ap (λ ts. One (ts ++ token_of is.turn ∷ [])) tokens
      ∙ ap (λ t. One (path ++ t ∷ [])) is.leads ∙ ap One whole ∙ ap (λ q. q ∷ []) (is.patch p.path ∙ complete)

  along-puts : (named : Named) → named.holder ++ named.token ∷ [] ≡ p.path → (way : List Turn) → way_along named.holder r.tree.root ≡ Some way
      → (c : Changed) → restored_along r named.token way ≡ Some c → Puts p r.tree.root c
  along-puts named whole way is c h =
      let node = came (part_at way r.tree.root) (λ node. option_map (placed way r.tree.root) (node_restored (putting_at r node) named.token p)) c h in
      let inner = came-map (node_restored (putting_at r node.of) named.token p) (placed way r.tree.root) c node.gives in
      let stands : Stands way r.tree.root node.of = along-stands named.holder r.tree.root way node.of plain is node.is in
      let makes : Makes p.op named.token (written p) node.of inner.of = node-makes node.of named.token (plain-part way r.tree.root node.of stands plain) inner.of inner.is in
      let leads : Along named.holder r.tree.root way node.of = along named.holder r.tree.root way node.of plain is node.is in
      let P : Changed → Type 0 = λ d. Puts p r.tree.root d in
      let At : Path → Type 0 = λ path. FitsAt p.op path (option_map view p.old) (bare r.tree.root) in
      subst P (some-one _ c inner.gives)
      (record {
        value = ap (λ path. changed p.op path (written p) (bare r.tree.root)) (sym whole) ∙ leads.changes p.op named.token (written p) inner.of.value makes.value;
        single = length-map inner.of.edits (outward way) ∙ makes.single;
        logged = λ fits.
            placed-told way named.holder named.token inner.of leads.tokens whole
            (makes.logged (option_map view p.old) (leads.fits p.op named.token (option_map view p.old) (subst At (sym whole) fits.1)))
            (told-complete p fits.0);
      })

  pub puts : (c : Changed) → one_restored r ≡ Some c → Puts p r.tree.root c
  puts c h =
      let named = came (named_by p.path) (restored_by r) c h in
      let way = came (way_along named.of.holder r.tree.root) (restored_along r named.of.token) c named.gives in
      along-puts named.of (named-path p.path named.of named.is) way.of way.is c way.gives

  -- where it fits and its place is in a node, it changes the tree
  pub changes : (o : Option Labelled) → holder_of p.path r.tree.root ≡ o → IsNode o → Fits p (bare r.tree.root) → There (one_restored r)
  changes None e node fits = absurd node
  changes (Some end) e node fits =
      let named = came (named_by p.path) (λ (n : Named). option_and_then (λ way. part_at way r.tree.root) (way_along n.holder r.tree.root)) end e in
      let way = came (way_along named.of.holder r.tree.root) (λ w. part_at w r.tree.root) end named.gives in
      let leads : Along named.of.holder r.tree.root way.of end = along named.of.holder r.tree.root way.of end plain way.is way.gives in
      let At : Path → Type 0 = λ path. FitsAt p.op path (option_map view p.old) (bare r.tree.root) in
      let whole : named.of.holder ++ named.of.token ∷ [] ≡ p.path = named-path p.path named.of named.is in
      let part = leads.fits p.op named.of.token (option_map view p.old) (subst At (sym whole) fits.1) in
      let found = node-changes (putting_at r end) (written p) named.of.token p.op end (option_map view p.old) node part in
      record {
        of = placed way.of r.tree.root found.of;
        is =
            ap (option_and_then (restored_by r)) named.is ∙ ap (option_and_then (restored_along r named.of.token)) way.is
            ∙ ap (option_and_then (λ n. option_map (placed way.of r.tree.root) (node_restored (putting_at r n) named.of.token p))) way.gives
            ∙ ap (option_map (placed way.of r.tree.root)) found.is;
      }

-- the value after a patch is plain
pub plain-after : (p : Patch) (s t : Value) → HasPlainValues p → IsPlain s → applied p s ≡ Ok t → IsPlain t
plain-after p s t values plain h =
    let P : Result Value PatchError → Type 0 = λ o. Holds (λ (u : Value). IsPlain u) o in
    subst P h (changed_plain p.op p.path (written p) s (written_plain p values) plain)

-- A write of a sound tree leads on.
use Rattle.std.proofs.Common.{◌≡◌, [], Bool, true, false, Option, Some, None, Ok, Err, refl, subst, arith}
use Rattle.snap_core.proofs.PlainLevels.{IsOrdered-of}
use Rattle.pointer_core.specs.Path.{Path}
use Rattle.pointer_core.specs.declared.refusal.Rule.TheVariants.{Large}
use Rattle.type_table.specs.Table.{Catalog}
use Rattle.type_core.specs.Doubled.{identifiers_of, doubled_of}
use Rattle.type_core.specs.Making.{Outcome, made_by, is_within}
use Rattle.type_core.specs.Sound.{IsSound}
use Rattle.type_core.proofs.Again.{limited-Ok}
use Rattle.edit_core.specs.Labelled.{bare}
use Rattle.edit_core.proofs.Leading.{FineIn}
use Rattle.tree_core.specs.Changed.{Changed}
use Rattle.tree_core.specs.Outcome.{◌>>=◌, provided}
use Rattle.tree_core.specs.Recorded.{tree_in, with_change}
use Rattle.tree_core.specs.State.{State}
use Rattle.tree_core.specs.TypesTyping.{root_type}
use Rattle.tree_core.specs.Writing.{place_written, undoubled, unless_doubled, judged, written}
use Rattle.tree_laws.specs.Calls.{Writes, LeadsOn}
use Rattle.tree_laws.specs.Trees.{IsSoundTree}
use Rattle.tree_laws.proofs.Bounds.{bounded, fine-within}
use Rattle.tree_laws.proofs.Inside.{Inside, place-inside}
use Rattle.tree_laws.proofs.Leading.{leading, recorded-leads}
use Rattle.tree_laws.proofs.NodeGoing.{Goes, IsBound}
use Rattle.tree_laws.proofs.PlaceGoing.{place-goes, from-Ok}

-- what an outcome comes from
pub record Comes {A B : Type 0} (o : Outcome A) (f : A → Outcome B) (y : B) : Type 0 where
  pub from : A
  pub first : o ≡ Ok from
  pub next : f from ≡ Ok y

pub comes : {A B : Type 0} → (o : Outcome A) (f : A → Outcome B) (y : B) → o >>= f ≡ Ok y → Comes o f y
comes (Ok x) f y h = record { from = x; first = refl; next = h }
comes (Err e) f y h = absurd (cc)

-- what a tree that is judged is
pub record IsJudged (types : Catalog) (c d : Changed) : Type 0 where
  pub same : c ≡ d
  pub within : is_within (bare c.value) ≡ true
  pub single : doubled_of (identifiers_of types (bare c.value)) ≡ None

pub judged-is : (types : Catalog) (c d : Changed) → judged types c ≡ Ok d → IsJudged types c d
judged-is types c d h = by (is_within (bare c.value)) refl h where
  single : (o : Option Path) → doubled_of (identifiers_of types (bare c.value)) ≡ o → is_within (bare c.value) ≡ true → unless_doubled o c ≡ Ok d → IsJudged types c d
  single (Some path) e light g = absurd (cc)
  single None e light g = record { same = cc; within = light; single = e }

  by : (b : Bool) → is_within (bare c.value) ≡ b → (provided b [] Large (Ok c) >>= (λ x. undoubled types x)) ≡ Ok d → IsJudged types c d
  by true e g = single (doubled_of (identifiers_of types (bare c.value))) refl e g
  by false e g = absurd (cc)

-- the bound of a tree within the limits
pub first-bound : IsBound 1048576
first-bound = record { least = omega arith; most = omega arith }

module _ (types : Catalog) (sound : IsSound types) (before after : State) (tree : IsSoundTree types before) where
  pub fine-tree : FineIn (bounded 1048576) before.tree
  fine-tree =
      fine-within before.tree (IsOrdered-of (bare before.tree) tree.typed.plain)
      (limited-Ok (made_by types.table types.defaults (root_type types) (Some (bare before.tree))) (bare before.tree) tree.value.made).1

  pub writes-lead : Writes types before after → LeadsOn before after
  writes-lead w =
      let c : Comes (written types w.target w.write (tree_in before)) (λ c. Ok (with_change c before)) after = comes _ _ after w.done in
      let p : Comes (place_written types w.target w.write (tree_in before)) (judged types) c.from = comes _ _ c.from c.first in
      let goes : Goes 1048576 before.tree p.from =
      from-Ok (place_written types w.target w.write (tree_in before)) (Goes 1048576 before.tree) p.from
      (place-goes 1048576 first-bound types sound w.target w.write (tree_in before) fine-tree tree.typed.plain w.plain) p.first in
      let inside : Inside p.from =
      from-Ok (place_written types w.target w.write (tree_in before)) Inside p.from
      (place-inside types sound w.target w.write (tree_in before) tree.typed.nodes.labelled
      (limited-Ok (made_by types.table types.defaults (root_type types) (Some (bare before.tree))) (bare before.tree) tree.value.made).0) p.first in
      let same : p.from ≡ c.from = (judged-is types p.from c.from p.next).same in
      let P : Changed → Type 0 = λ d. LeadsOn before (with_change d before) in
      let Q : State → Type 0 = λ s. LeadsOn before s in
      let is : with_change c.from before ≡ after = (let e : ◌≡◌ {A = Outcome State} (Ok (with_change c.from before)) (Ok after) = c.next in cc) in
      subst Q is (subst P same (recorded-leads before p.from.edits p.from.value p.from.next (leading before.tree p.from goes.runs inside)))

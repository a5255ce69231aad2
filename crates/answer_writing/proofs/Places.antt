-- Giving an answer goes over the value that is written for it, which is plain.
use Rattle.std.proofs.Common.{◌≡◌, List, [], Bool, true, false, Option, Some, None, Result, Ok, Err, IsErrAnd, refl, sym, ap, ◌∙◌, subst}
use Rattle.std.specs.Prelude.{IfOk, IfSome, if◌then◌else◌}
use Rattle.snap_core.specs.Value.{Value, null, IsPlain}
use Rattle.snap_core.specs.View.{view}
use Rattle.snap_core.specs.declared.snap.Snap.{Snap}
use Rattle.pointer_core.specs.Path.{Path}
use Rattle.pointer_core.specs.declared.refusal.Rule.{Rule}
use Rattle.pointer_core.specs.declared.refusal.Rule.TheVariants as rule
use Rattle.type_table.specs.Table.{Catalog}
use Rattle.type_core.specs.Making as making
use Rattle.type_core.specs.Making.{Outcome}
use Rattle.type_core.specs.Made.{refused_as}
use Rattle.type_core.specs.Sound.{IsSound}
use Rattle.edit_core.specs.Edit.{Turn}
use Rattle.edit_core.specs.Labelled.{Labelled, bare}
use Rattle.edit_core.specs.Ways.{way_to, part_at}
use Rattle.tree_core.specs.declared.error.TreeError.{TreeError}
use Rattle.tree_core.specs.declared.error.TreeError.TheVariants.{Memory, Refused}
use Rattle.tree_core.specs.declared.place.Change.{Change}
use Rattle.tree_core.specs.Answers.{Answers}
use Rattle.tree_core.specs.Changed.{Changed}
use Rattle.tree_core.specs.Outcome.{◌>>=◌, or_refuse, seen_from}
use Rattle.tree_core.specs.Write.{Write, WritesPlain}
use Rattle.tree_core.specs.Writing.{Tree, Target, node_no, place_written, judged, written}
use Rattle.eval_core.specs.Answer.{Answer}
use Rattle.plain_answers.specs.Plainness.{IsPlainAnswer}
use Rattle.answer_writing.specs.declared.manner.Manner.{Manner}
use Rattle.answer_writing.specs.declared.manner.Manner.TheVariants as manner
use Rattle.answer_writing.specs.Giving.{Giving, sets, inserts, with_value, Site, aim_at, place_path, is_of_value, after_place, unless_fault, value_taken, site_of, nodes_given, answer_given, given}
use Rattle.answer_writing.specs.Taking.{Taking, plain_in, fault_in, answer_made}
use Rattle.answer_writing.specs.View.{in_manner}
use Rattle.answer_writing.specs.Written.{unless_dead, place_met, value_given, ComesTo}
use Rattle.answer_writing.proofs.InTurn.{IsLate, after-late, judged-late}
use Rattle.answer_writing.proofs.PlainValues.{value-plain, made-plain}

-- The value that is written comes before what its write makes of the tree.

-- one after the other
then_then : {A B C : Type 0} (o : Outcome A) (f : A → Outcome B) (g : B → Outcome C) → (o >>= f >>= g) ≡ (o >>= (λ x. f x >>= g))
then_then (Ok x) f g = refl
then_then (Err e) f g = refl

then_same : {A B : Type 0} (o : Outcome A) (f g : A → Outcome B) → ((x : A) → f x ≡ g x) → (o >>= f) ≡ (o >>= g)
then_same (Ok x) f g h = h x
then_same (Err e) f g h = refl

-- the rules of a place, and what comes after them
met-first : (o : Outcome Changed) (next : Changed → Outcome Changed) (rest : Outcome Changed) → ((c : Changed) → IsLate (next c))
    → after_place (o >>= next) rest ≡ (after_place {A = Unit {0}} o (Ok tt) >>= (λ met. rest))
met-first (Ok c) next rest late = after-late (next c) rest (late c)
met-first (Err e) next rest late = by_rule (is_of_value e.rule)
  where
    by_rule : (b : Bool) → (if b then rest else Err e) ≡ (◌>>=◌ {A = Unit {0}} (if b then Ok tt else Err e) (λ met. rest))
    by_rule true = refl
    by_rule false = refl

-- what stands at the end of a way, as the site that it makes
pub site-then : (o : Option Labelled) (f : Labelled → Site) (next : Site → Outcome Value)
    → (or_refuse o [] rule.Dead >>= (λ node. Ok (f node)) >>= next) ≡ (or_refuse o [] rule.Dead >>= (λ node. next (f node)))
site-then None f next = refl
site-then (Some node) f next = refl

module _ (types : Catalog) (target : Target) (tree : Tree) where
  abbrev write : Giving → Value → Outcome Changed
  write giving v = written types target (with_value giving v) tree

  nodes-first : (giving : Giving) (x : Answer) → nodes_given types target giving x tree ≡ (value_given types target giving x tree None >>= write giving)
  nodes-first giving x =
      met-first (place_written types target (with_value giving null) tree) (λ c. judged types c) _ (λ c. judged-late types c)
      ∙ then_same (place_met types target giving tree) _ _ (λ met. sym (then_then (site_of target tree.root) (λ site. value_taken types site target.place giving x) (write giving)))
      ∙ sym (then_then (place_met types target giving tree) (λ met. site_of target tree.root >>= (λ site. value_taken types site target.place giving x)) (write giving))

  answer-first : (giving : Giving) (x : Answer) (o : Option Value) → answer_given types target giving x tree o ≡ (value_given types target giving x tree o >>= write giving)
  answer-first giving x (Some v) = refl
  answer-first giving x None = nodes-first giving x

  pub given-first : (m : Manner) (x : Answer)
      → given types target (in_manner m x) tree ≡ (value_given types target (in_manner m x) x tree (plain_in x) >>= write (in_manner m x))
  given-first manner.Set x = answer-first (sets x) x (plain_in x)
  given-first manner.Insert x = answer-first (inserts x) x (plain_in x)

  -- the write of the value for an answer is that of the answer
  pub value-written : (m : Manner) (x : Answer) (v : Value) (w : Write) → value_given types target (in_manner m x) x tree (plain_in x) ≡ Ok v → w ≡ with_value (in_manner m x) v
      → given types target (in_manner m x) tree ≡ written types target w tree
  value-written m x v w h e =
      given-first m x ∙ ap (λ (o : Outcome Value). o >>= write (in_manner m x)) h ∙ ap (λ (u : Write). written types target u tree) (sym e)

  pub value-refused : (m : Manner) (x : Answer) (r : making.Refused) → value_given types target (in_manner m x) x tree (plain_in x) ≡ Err r
      → given types target (in_manner m x) tree ≡ Err r
  value-refused m x r h = given-first m x ∙ ap (λ (o : Outcome Value). o >>= write (in_manner m x)) h

  refused-comes : (m : Manner) (x : Answer) (e : TreeError) → Answers {T = Snap} view (Err e) (value_given types target (in_manner m x) x tree (plain_in x))
      → ComesTo (λ w. written types target w tree) (Err e) (given types target (in_manner m x) tree)
  refused-comes m x Memory h = tt
  refused-comes m x (Refused r) h = value-refused m x (refused_as r) h

  -- what is refused as a value is refused as a change
  pub handed_on : (m : Manner) (x : Answer) (e : TreeError) (result : Result Change TreeError) → IsErrAnd result (λ r. r ≡ e)
      → Answers {T = Snap} view (Err e) (value_given types target (in_manner m x) x tree (plain_in x))
      → ComesTo (λ w. written types target w tree) result (given types target (in_manner m x) tree)
  handed_on m x e (Ok change) is h = absurd is
  handed_on m x e (Err r) is h =
      subst (λ (f : TreeError). ComesTo (λ w. written types target w tree) (Err f) (given types target (in_manner m x) tree)) (sym is) (refused-comes m x e h)

  -- the value for an answer that holds nodes, along the way to its place's node
  pub value-along : (giving : Giving) (x : Answer) (way : List Turn) → place_met types target giving tree ≡ Ok (tt {0}) → way_to (node_no target.place) tree.root ≡ Some way
      → value_given types target giving x tree None
      ≡ unless_dead (part_at way tree.root) (λ found. value_taken types (record { root = tree.root; way = way; node = found }) target.place giving x)
  value-along giving x way met e =
      ap (λ (o : Outcome (Unit {0})). o >>= (λ u. site_of target tree.root >>= (λ site. value_taken types site target.place giving x))) met
      ∙ ap (λ (o : Option (List Turn)). or_refuse o [] rule.Dead >>= (λ w. or_refuse (part_at w tree.root) [] rule.Dead >>= (λ node. Ok (record { root = tree.root; way = w; node = node })))
      >>= (λ site. value_taken types site target.place giving x)) e
      ∙ site-then (part_at way tree.root) (λ node. record { root = tree.root; way = way; node = node }) (λ site. value_taken types site target.place giving x)

-- The value that is written is plain.

no-fault : (path : Path) (o : Option Rule) (rest : Outcome Value) → IfOk rest IsPlain → IfOk (unless_fault path o rest) IsPlain
no-fault path None rest h = h
no-fault path (Some r) rest h = refused r
  where
    refused : (r : Rule) → IfOk (unless_fault path (Some r) rest) IsPlain
    refused rule.Dead = tt
    refused r = tt

from-plain : (path : Path) (o : Outcome Value) → IfOk o IsPlain → IfOk (seen_from path o) IsPlain
from-plain path (Ok v) h = h
from-plain path (Err e) h = tt

then_plain : {A : Type 0} (o : Outcome A) (next : A → Outcome Value) → ((x : A) → o ≡ Ok x → IfOk (next x) IsPlain) → IfOk (o >>= next) IsPlain
then_plain (Ok x) next h = h x refl
then_plain (Err e) next h = tt

module _ (types : Catalog) (sound : IsSound types) (target : Target) (giving : Giving) (tree : Tree) (whole : IsPlain (bare tree.root)) where
  pub taken-plain : (site : Site) → site.root ≡ tree.root → (x : Answer) → IsPlainAnswer x → IfOk (value_taken types site target.place giving x) IsPlain
  taken-plain site same x fine =
      let by : Taking = record { types = types; root = site.root } in
      no-fault (place_path site target.place) (fault_in by x (aim_at types site target.place giving)) _
      (from-plain (place_path site target.place) (answer_made by x (aim_at types site target.place giving))
      (made-plain by sound (subst (λ (root : Labelled). IsPlain (bare root)) (sym same) whole) x fine (aim_at types site target.place giving)))

  -- the site is one of the tree
  then_site : {A : Type 0} (o : Outcome A) (next : A → Outcome Site) → ((x : A) → IfOk (next x) (λ (site : Site). site.root ≡ tree.root))
      → IfOk (o >>= next) (λ (site : Site). site.root ≡ tree.root)
  then_site (Ok x) next h = h x
  then_site (Err e) next h = tt

  site-root : IfOk (site_of target tree.root) (λ (site : Site). site.root ≡ tree.root)
  site-root =
      then_site (or_refuse (way_to (node_no target.place) tree.root) [] rule.Dead)
      (λ way. or_refuse (part_at way tree.root) [] rule.Dead >>= (λ node. Ok (record { root = tree.root; way = way; node = node })))
      (λ way. then_site (or_refuse (part_at way tree.root) [] rule.Dead) (λ node. Ok (record { root = tree.root; way = way; node = node })) (λ node. refl))

  pub site-of : (site : Site) → site_of target tree.root ≡ Ok site → site.root ≡ tree.root
  site-of site e = subst (λ (o : Outcome Site). IfOk o (λ (found : Site). found.root ≡ tree.root)) e site-root

  nodes-plain : (x : Answer) → IsPlainAnswer x → IfOk (value_given types target giving x tree None) IsPlain
  nodes-plain x fine =
      then_plain (place_met types target giving tree) (λ met. site_of target tree.root >>= (λ site. value_taken types site target.place giving x))
      (λ met e. then_plain (site_of target tree.root) (λ site. value_taken types site target.place giving x) (λ site f. taken-plain site (site-of site f) x fine))

  given-plain : (x : Answer) → IsPlainAnswer x → IfOk (value_given types target giving x tree (plain_in x)) IsPlain
  given-plain x fine = by_plain (plain_in x) (value-plain x fine)
    where
      by_plain : (o : Option Value) → IfSome o IsPlain → IfOk (value_given types target giving x tree o) IsPlain
      by_plain (Some v) h = h
      by_plain None h = nodes-plain x fine

  pub value-given-plain : (x : Answer) (v : Value) → IsPlainAnswer x → value_given types target giving x tree (plain_in x) ≡ Ok v → IsPlain v
  value-given-plain x v fine h = subst (λ (o : Outcome Value). IfOk o IsPlain) h (given-plain x fine)

pub write-plain : (m : Manner) (x : Answer) (v : Value) (w : Write) → w ≡ with_value (in_manner m x) v → IsPlain v → WritesPlain w
write-plain manner.Set x v w e h = subst WritesPlain (sym e) h
write-plain manner.Insert x v w e h = subst WritesPlain (sym e) h

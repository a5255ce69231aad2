-- A write of a plain answer is a write of a plain value.
use Rattle.std.proofs.Common.{◌≡◌, Bool, true, false, Option, Some, None, Ok, Err, subst}
use Rattle.std.specs.Prelude.{IfOk, IfSome, if◌then◌else◌}
use Rattle.snap_core.specs.Value.{Value, null, IsPlain}
use Rattle.type_table.specs.Table.{Catalog}
use Rattle.type_core.specs.Making.{Outcome}
use Rattle.type_core.specs.Sound.{IsSound}
use Rattle.edit_core.specs.Labelled.{bare}
use Rattle.tree_core.specs.Changed.{Changed}
use Rattle.tree_core.specs.Outcome.{◌>>=◌}
use Rattle.tree_core.specs.Write.{Write, remove, WritesPlain}
use Rattle.tree_core.specs.Writing.{Tree, Target, written}
use Rattle.tree_laws.proofs.Writes.{comes}
use Rattle.eval_core.specs.Answer.{Answer}
use Rattle.plain_answers.specs.Plainness.{IsPlainAnswer}
use Rattle.answer_writing.specs.Giving.{Giving, given, sets, inserts, removes, with_value, Site, is_of_value, after_place, value_taken, site_of, nodes_given, answer_given}
use Rattle.action_core.specs.Keeping.{GivesFine}
use Rattle.answer_writing.specs.Taking.{plain_in}
use Rattle.answer_writing.proofs.PlainValues.{value-plain}
use Rattle.answer_writing.proofs.Places.{taken-plain, site-of}

-- a plain value is written, with what the write makes of the tree
pub record WritesValue (types : Catalog) (target : Target) (tree : Tree) (c : Changed) : Type 0 where
  pub write : Write
  pub plain : WritesPlain write
  pub done : written types target write tree ≡ Ok c

value-given : (giving : Giving) (v : Value) → IsPlain v → WritesPlain (with_value giving v)
value-given (sets x) v h = h
value-given (inserts x) v h = h
value-given removes v h = tt

-- what comes after the rules of the place
late : {A : Type 0} (b : Bool) (rest : Outcome A) (o : Outcome A) (x : A) → (r : Outcome A) → (if b then rest else r) ≡ Ok x → (r ≡ Ok x → ⊥) → rest ≡ Ok x
late true rest o x r e never = e
late false rest o x r e never = absurd (never e)

not-refused : {A : Type 0} (o : Outcome Changed) (rest : Outcome A) (x : A) → after_place o rest ≡ Ok x → rest ≡ Ok x
not-refused (Ok c) rest x e = e
not-refused {A} (Err r) rest x e = late (is_of_value r.rule) rest rest x (Err r) e (λ h. cc)

from-Ok : (o : Outcome Value) (v : Value) → IfOk o IsPlain → o ≡ Ok v → IsPlain v
from-Ok o v h e = subst (λ (p : Outcome Value). IfOk p IsPlain) e h

module _ (types : Catalog) (sound : IsSound types) (target : Target) (giving : Giving) (tree : Tree) (whole : IsPlain (bare tree.root)) where
  nodes-written : (x : Answer) → IsPlainAnswer x → (c : Changed) → nodes_given types target giving x tree ≡ Ok c → WritesValue types target tree c
  nodes-written x fine c e =
      let value : Site → Outcome Value = λ site. value_taken types site target.place giving x in
      let write : Value → Outcome Changed = λ v. written types target (with_value giving v) tree in
      let outer = comes (site_of target tree.root) (λ site. value site >>= write) c (not-refused (written types target (with_value giving null) tree) _ c e) in
      let inner = comes (value outer.from) write c outer.next in
      record {
        write = with_value giving inner.from;
        plain = value-given giving inner.from (from-Ok (value outer.from) inner.from (taken-plain types sound target giving tree whole outer.from (site-of types sound target giving tree whole outer.from outer.first) x fine) inner.first);
        done = inner.next;
      }

  answer-written : (x : Answer) → IsPlainAnswer x → (c : Changed) (v : Option Value) → IfSome v IsPlain → answer_given types target giving x tree v ≡ Ok c
      → WritesValue types target tree c
  answer-written x fine c (Some v) h e = record { write = with_value giving v; plain = value-given giving v h; done = e }
  answer-written x fine c None h e = nodes-written x fine c e

pub given-written : (types : Catalog) → IsSound types → (target : Target) (giving : Giving) (tree : Tree) → IsPlain (bare tree.root) → GivesFine IsPlainAnswer giving
    → (c : Changed) → given types target giving tree ≡ Ok c → WritesValue types target tree c
given-written types sound target (sets x) tree whole fine c e = answer-written types sound target (sets x) tree whole x fine c (plain_in x) (value-plain x fine) e
given-written types sound target (inserts x) tree whole fine c e = answer-written types sound target (inserts x) tree whole x fine c (plain_in x) (value-plain x fine) e
given-written types sound target removes tree whole fine c e = record { write = remove; plain = tt; done = e }

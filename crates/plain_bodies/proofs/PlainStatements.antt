-- The statements that are read of a value whose keys are in order have plain constants.
use Rattle.std.proofs.Common.{◌≡◌, ℕ, zero, suc, ◌+◌, List, Option, Some, None, subst}
use Rattle.snap_core.specs.Value.{Value, null, boolean, integer, text, list, dict, no_parts, part, no_members, member, Items, IsOrdered, AreOrdered}
use Rattle.expr_syntax.specs.Syntax.{Expression, Expressions, no_more, more, Statement, Statements, clear, throw}
use Rattle.expr_syntax.specs.Shown.{expressions}
use Rattle.expr_syntax.specs.ShownStatements.{statements}
use Rattle.plain_answers.specs.Plainness.{HasPlainConstants, HavePlainConstants}
use Rattle.plain_answers.specs.EachExpression.{HoldsInEach, HoldsInStatement, HoldsInBlock}
use Rattle.expr_form.specs.declared.stmt_keys.StmtKey.{StmtKey}
use Rattle.expr_form.specs.declared.stmt_keys.StmtKey.TheVariants as key
use Rattle.expr_form.specs.declared.stmt_keys.Single.{Single}
use Rattle.expr_form.specs.declared.stmt_keys.Single.TheVariants as single
use Rattle.expr_form.specs.declared.stmt_keys.Keyed.{Keyed}
use Rattle.expr_form.specs.declared.stmt_keys.Keyed.TheVariants as keyed
use Rattle.expr_form.specs.declared.stmt_keys.Given.{Given}
use Rattle.expr_form.specs.declared.stmt_keys.Given.TheVariants as given
use Rattle.expr_form.specs.Outcome.{Outcome, reads, at}
use Rattle.expr_form.specs.StmtKeys.{stmt_key_of}
use Rattle.expr_form.specs.Texts.{pair_in, triple_in, items_in}
use Rattle.expr_form.specs.Names.{name_read, binder_read, bound}
use Rattle.expr_form.specs.Models.{Lookup}
use Rattle.expr_form.specs.Expressions.{Names, Reader, expression_read, most_open}
use Rattle.expr_form.specs.Statements.{StmtReader, BlockReader, keyed_made, given_made, set_read, keyed_read, given_read, binding_read, arguments_read, call_read, single_read, branches_read, each_read, attempt_read, inside_read, bound_after, stmts_read, block_read, StmtFormed, stmt_known, own_stmt, stmt_read, most_statements, body_read}
use Rattle.plain_bodies.proofs.Outcomes.{IfReads, Anything, anyhow, made-fine, both-fine, under-fine, at-fine, of_parts-fine, then-fine}
use Rattle.plain_bodies.proofs.PlainReading.{ReadsFine, BothOrdered, AllOrdered, pair-ordered, triple-ordered, items-ordered, AllHave, items-fine, reader-fine}

-- what is read of a part in order, as a statement and as a block
abbrev IsFine : Statement → Type 0
IsFine st = HoldsInStatement HasPlainConstants st

abbrev AreFine : Statements → Type 0
AreFine sts = HoldsInBlock HasPlainConstants sts

abbrev ReadsStatements : StmtReader → Type 0
ReadsStatements read = (names : Names) (v : Value) → IsOrdered v → IfReads (read names v) IsFine

abbrev ReadsBlocks : BlockReader → Type 0
ReadsBlocks read = (names : Names) (v : Value) → IsOrdered v → IfReads (read names v) AreFine

-- what both readings of a list say
each-holds : (es : Expressions) → HavePlainConstants es → HoldsInEach HasPlainConstants es
each-holds no_more all = tt
each-holds (more e es) all = (all.0, each-holds es all.1)

-- statements without blocks
module _ (read : Reader) (h : ReadsFine read) where
  set-fine : ReadsStatements (set_read read)
  set-fine names v ordered =
      of_parts-fine AllOrdered IsFine (triple_in v) _ (triple-ordered v ordered) (λ p all.
      made-fine (λ q. HasPlainConstants q.0 × (Anything q.1.0 × HasPlainConstants q.1.1)) IsFine _ _ (λ q fine. (fine.0, fine.1.1))
      (both-fine HasPlainConstants (λ q. Anything q.0 × HasPlainConstants q.1) _ _ (at-fine HasPlainConstants 0 _ (h names p.0 all.0))
      (both-fine Anything HasPlainConstants _ _ (anyhow (at 1 (name_read p.1))) (at-fine HasPlainConstants 2 _ (h names p.2 all.2)))))

  keyed-holds : (form : Keyed) (e k v : Expression) → HasPlainConstants e → HasPlainConstants k → HasPlainConstants v → IsFine (keyed_made form e k v)
  keyed-holds keyed.Put e k v a b c = (a, b, c)
  keyed-holds keyed.Insert e k v a b c = (a, b, c)
  keyed-holds keyed.Replace e k v a b c = (a, b, c)

  keyed-fine : (form : Keyed) → ReadsStatements (keyed_read read form)
  keyed-fine form names v ordered =
      of_parts-fine AllOrdered IsFine (triple_in v) _ (triple-ordered v ordered) (λ p all.
      made-fine (λ q. HasPlainConstants q.0 × (HasPlainConstants q.1.0 × HasPlainConstants q.1.1)) IsFine _ _
      (λ q fine. keyed-holds form q.0 q.1.0 q.1.1 fine.0 fine.1.0 fine.1.1)
      (both-fine HasPlainConstants (λ q. HasPlainConstants q.0 × HasPlainConstants q.1) _ _ (at-fine HasPlainConstants 0 _ (h names p.0 all.0))
      (both-fine HasPlainConstants HasPlainConstants _ _ (at-fine HasPlainConstants 1 _ (h names p.1 all.1)) (at-fine HasPlainConstants 2 _ (h names p.2 all.2)))))

  given-holds : (form : Given) (e v : Expression) → HasPlainConstants e → HasPlainConstants v → IsFine (given_made form e v)
  given-holds given.Push e v a b = (a, b)
  given-holds given.Drop e v a b = (a, b)
  given-holds given.Apply e v a b = (a, b)

  given-fine : (form : Given) → ReadsStatements (given_read read form)
  given-fine form names v ordered =
      of_parts-fine BothOrdered IsFine (pair_in v) _ (pair-ordered v ordered) (λ p all.
      made-fine (λ q. HasPlainConstants q.0 × HasPlainConstants q.1) IsFine _ _ (λ q fine. given-holds form q.0 q.1 fine.0 fine.1)
      (both-fine HasPlainConstants HasPlainConstants _ _ (at-fine HasPlainConstants 0 _ (h names p.0 all.0)) (at-fine HasPlainConstants 1 _ (h names p.1 all.1))))

  binding-fine : ReadsStatements (binding_read read)
  binding-fine names v ordered =
      of_parts-fine BothOrdered IsFine (pair_in v) _ (pair-ordered v ordered) (λ p all.
      made-fine (λ q. Anything q.0 × HasPlainConstants q.1) IsFine _ _ (λ q fine. fine.1)
      (both-fine Anything HasPlainConstants _ _ (anyhow (at 0 (binder_read p.0))) (at-fine HasPlainConstants 1 _ (h names p.1 all.1))))

  arguments-fine : (names : Names) (v : Value) → IsOrdered v → IfReads (arguments_read read names v) (HoldsInEach HasPlainConstants)
  arguments-fine names v ordered =
      of_parts-fine AreOrdered (HoldsInEach HasPlainConstants) (items_in v) _ (items-ordered v ordered) (λ ps all.
      made-fine AllHave (HoldsInEach HasPlainConstants) expressions _ (λ es fine. each-holds (expressions es) fine) (items-fine read h names 0 ps all))

  call-fine : ReadsStatements (call_read read)
  call-fine names v ordered =
      of_parts-fine AllOrdered IsFine (triple_in v) _ (triple-ordered v ordered) (λ p all.
      made-fine (λ q. HasPlainConstants q.0 × (Anything q.1.0 × HoldsInEach HasPlainConstants q.1.1)) IsFine _ _ (λ q fine. (fine.0, fine.1.1))
      (both-fine HasPlainConstants (λ q. Anything q.0 × HoldsInEach HasPlainConstants q.1) _ _ (at-fine HasPlainConstants 0 _ (h names p.0 all.0))
      (both-fine Anything (HoldsInEach HasPlainConstants) _ _ (anyhow (at 1 (name_read p.1)))
      (at-fine (HoldsInEach HasPlainConstants) 2 _ (arguments-fine names p.2 all.2)))))

  single-fine : (form : Single) → ReadsStatements (single_read read form)
  single-fine single.Set names v ordered = set-fine names v ordered
  single-fine (single.Keyed form) names v ordered = keyed-fine form names v ordered
  single-fine (single.Given form) names v ordered = given-fine form names v ordered
  single-fine single.Clear names v ordered = made-fine HasPlainConstants IsFine clear _ (λ e fine. fine) (h names v ordered)
  single-fine single.Binding names v ordered = binding-fine names v ordered
  single-fine single.Call names v ordered = call-fine names v ordered
  single-fine single.Throw names v ordered = made-fine Anything IsFine throw (name_read v) (λ reason any. tt) (anyhow (name_read v))

-- statements with blocks
module _ (read : Reader) (h : ReadsFine read) (block : BlockReader) (b : ReadsBlocks block) where
  branches-fine : ReadsStatements (branches_read read block)
  branches-fine names v ordered =
      of_parts-fine AllOrdered IsFine (triple_in v) _ (triple-ordered v ordered) (λ p all.
      made-fine (λ q. HasPlainConstants q.0 × (AreFine q.1.0 × AreFine q.1.1)) IsFine _ _ (λ q fine. (fine.0, fine.1.0, fine.1.1))
      (both-fine HasPlainConstants (λ q. AreFine q.0 × AreFine q.1) _ _ (at-fine HasPlainConstants 0 _ (h names p.0 all.0))
      (both-fine AreFine AreFine _ _ (at-fine AreFine 1 _ (b names p.1 all.1)) (at-fine AreFine 2 _ (b names p.2 all.2)))))

  each-fine : ReadsStatements (each_read read block)
  each-fine names v ordered =
      of_parts-fine AllOrdered IsFine (triple_in v) _ (triple-ordered v ordered) (λ p all.
      made-fine (λ q. HasPlainConstants q.0 × (Anything q.1.0 × AreFine q.1.1)) IsFine _ _ (λ q fine. (fine.0, fine.1.1))
      (both-fine HasPlainConstants (λ q. Anything q.0 × AreFine q.1) _ _ (at-fine HasPlainConstants 0 _ (h names p.0 all.0))
      (both-fine Anything AreFine _ _ (anyhow (at 1 (binder_read p.1))) (at-fine AreFine 2 _ (b (bound names p.1) p.2 all.2)))))

  attempt-fine : ReadsStatements (attempt_read block)
  attempt-fine names v ordered =
      of_parts-fine BothOrdered IsFine (pair_in v) _ (pair-ordered v ordered) (λ p all.
      made-fine (λ q. AreFine q.0 × AreFine q.1) IsFine _ _ (λ q fine. fine)
      (both-fine AreFine AreFine _ _ (at-fine AreFine 0 _ (b names p.0 all.0)) (at-fine AreFine 1 _ (b names p.1 all.1))))

  inside-fine : (form : StmtKey) → ReadsStatements (inside_read read block form)
  inside-fine (key.Single form) names v ordered = single-fine read h form names v ordered
  inside-fine key.Branches names v ordered = branches-fine names v ordered
  inside-fine key.Each names v ordered = each-fine names v ordered
  inside-fine key.Attempt names v ordered = attempt-fine names v ordered

-- a block
abbrev AllFine : List Statement → Type 0
AllFine sts = AreFine (statements sts)

stmts-fine : (read : StmtReader) → ReadsStatements read → (names : Names) (i : ℕ) (ps : Items) → AreOrdered ps → IfReads (stmts_read read names i ps) AllFine
stmts-fine read h names i no_parts ordered = tt
stmts-fine read h names i (part v ps) ordered =
    made-fine (λ q. IsFine q.0 × AllFine q.1) AllFine _ _ (λ q fine. fine)
    (both-fine IsFine AllFine _ _ (at-fine IsFine i _ (h names v ordered.0)) (stmts-fine read h (bound_after names v) (i + 1) ps ordered.1))

block-fine : (read : StmtReader) → ReadsStatements read → ReadsBlocks (block_read read)
block-fine read h names v ordered =
    of_parts-fine AreOrdered AreFine (items_in v) _ (items-ordered v ordered)
    (λ ps all. made-fine AllFine AreFine statements _ (λ sts fine. fine) (stmts-fine read h names 0 ps all))

-- a statement's own form: its part is in order
abbrev FormedFine : StmtFormed → Type 0
FormedFine formed = IsOrdered formed.2

known-fine : (k : List ℕ) (v : Value) (o : Option StmtKey) → IsOrdered v → IfReads (stmt_known k v o) FormedFine
known-fine k v (Some form) ordered = ordered
known-fine k v None ordered = tt

form-fine : (v : Value) → IsOrdered v → IfReads (own_stmt v) FormedFine
form-fine (dict a (member k v no_members)) ordered = known-fine k v (stmt_key_of k) ordered.0
form-fine (dict a no_members) ordered = tt
form-fine (dict a (member k v (member l w ms))) ordered = tt
form-fine (list a ps) ordered = tt
form-fine (integer z) ordered = tt
form-fine null ordered = tt
form-fine (boolean b) ordered = tt
form-fine (text s) ordered = tt

-- with room for so many open statements
statement-fine : (lookup : Lookup) (room : ℕ) → ReadsStatements (stmt_read lookup room)
unfolding stmt_read
statement-fine lookup zero names v ordered = then-fine FormedFine IsFine (own_stmt v) _ (form-fine v ordered) (λ formed fine. tt)
statement-fine lookup (suc room) names v ordered =
    then-fine FormedFine IsFine (own_stmt v) _ (form-fine v ordered) (λ formed fine.
    under-fine IsFine formed.1 _
    (inside-fine (expression_read lookup) (reader-fine lookup most_open) (block_read (stmt_read lookup room)) (block-fine (stmt_read lookup room) (statement-fine lookup room))
    formed.0 names formed.2 fine))

pub bodies-plain : (lookup : Lookup) (names : Names) (v : Value) (body : Statements) → IsOrdered v → body_read lookup names v ≡ reads body → HoldsInBlock HasPlainConstants body
bodies-plain lookup names v body ordered h =
    let P : Outcome Statements → Type 0 = λ o. IfReads o AreFine in
    subst P h (block-fine (stmt_read lookup most_statements) (statement-fine lookup most_statements) names v ordered)

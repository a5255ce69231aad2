-- What is made of a value, step by step.
use Rattle.std.proofs.Common.{◌≡◌, ℕ, Some, Result, Ok, Err, ap, subst, ◌∙◌, sym}
use Rattle.snap_core.specs.Value.{Value}
use Rattle.snap_core.specs.View.{view}
use Rattle.snap_core.specs.declared.snap.Snap.{Snap}
use Rattle.type_table.specs.Table.{Catalog}
use Rattle.type_core.specs.Making.{Outcome, Refused, making}
use Rattle.type_core.specs.Doubled.{identifiers_of, doubled_of}
use Rattle.tree_core.specs.Outcome.{◌>>=◌}
use Rattle.tree_core.specs.TypesTyping.{root_type}
use Rattle.doc_core.specs.Answers.{Answers}
use Rattle.doc_core.specs.Changing.{tried, unless_twice}
use Rattle.doc_core.specs.declared.error.DocError.{DocError}

abbrev rest : Catalog → Value → Outcome Value
rest types made = unless_twice (doubled_of (identifiers_of types made)) made

tried-is : (types : Catalog) (given : Value) (t : ℕ) (outcome : Outcome Value) → t ≡ root_type types → making types t (Some given) ≡ outcome → tried types given ≡ (outcome >>= rest types)
tried-is types given t outcome root made =
    ap (λ (o : Outcome Value). o >>= rest types) (ap (λ u. making types u (Some given)) (sym root) ∙ made)

pub tried_made : (types : Catalog) (given made : Value) (t : ℕ) (result : Result Snap DocError) → t ≡ root_type types → making types t (Some given) ≡ Ok made
    → Answers view result (unless_twice (doubled_of (identifiers_of types made)) made) → Answers view result (tried types given)
tried_made types given made t result root is answers =
    let P : Outcome Value → Type 0 = λ o. Answers view result o in
    subst P (sym (tried-is types given t (Ok made) root is)) answers

pub tried_refused : (types : Catalog) (given : Value) (t : ℕ) (refusal : Refused) → t ≡ root_type types → making types t (Some given) ≡ Err refusal
    → tried types given ≡ Err refusal
tried_refused types given t refusal root is = tried-is types given t (Err refusal) root is

-- A part that comes in: without its labels it is the value that is put in. And the places where one can come in.
use Rattle.std.proofs.Common.{◌≡◌, ℕ, ◌+◌, ◌≤◌, List, Bool, true, false, Some, None, refl, ap, arith, if◌then◌else◌}
use Rattle.std.specs.Prelude.{codes}
use Rattle.std.specs.Str.{bytes_eq}
use Rattle.std.proofs.lemmas.Slice.Eq.{bytes_eq-Decides}
use Rattle.snap_core.specs.Value.{Value, IsPlain}
use Rattle.pointer_core.specs.Index.{index_of}
use Rattle.patch_core.specs.Place.{index_below, new_index}
use Rattle.edit_core.specs.Labelled.{bare}
use Rattle.edit_core.specs.Edit.{Turn}
use Rattle.edit_core.specs.Template.{numbered}
use Rattle.tree_core.specs.TypesTyping.{typing_of}
use Rattle.tree_core.proofs.Keeping.{fresh}
use Rattle.tree_lists.specs.Restoring.{Putting, new_at}
use Rattle.tree_lists.proofs.Spots.{some-one}
use Rattle.restoring_laws.proofs.Along.{is-index}

pub given : (by : Putting) (turn : Turn) (v : Value) → IsPlain v → bare (numbered by.next (new_at by turn v)) ≡ v
given by turn v plain = (fresh (typing_of by.types.table) by.next _ v plain).given

-- An index for a new item: at most the length, and the one that its token names, if it names one.
pub record IsNewIndex (length : ℕ) (token : List ℕ) (i : ℕ) : Type 0 where
  pub within : i ≤ length
  pub is : (j : ℕ) → index_of token ≡ Some j → index_of token ≡ Some i

pub new-index : (length : ℕ) (token : List ℕ) (i : ℕ) → new_index length token ≡ Some i → IsNewIndex length token i
new-index length token i h = by (bytes_eq token (codes "-")) refl h where
  by : (b : Bool) → bytes_eq token (codes "-") ≡ b → (if b then Some length else index_below (length + 1) token) ≡ Some i → IsNewIndex length token i
  by true e g =
      let same : length ≡ i = some-one length i g in
      let none : index_of token ≡ None = ap index_of ((bytes_eq-Decides token (codes "-")).0 e) in
      record { within = omega (arith, same); is = λ j named. absurd (cc) }
  by false e g =
      let index = is-index (length + 1) token i g in
      record { within = omega (arith, index.below); is = λ j named. index.is }

-- Reconciling as code gives it: a labelled value, the logged edits that lead to it, and the next number.
use Rattle.std.specs.Prelude.{ℕ, List, map}
use Rattle.edit_core.specs.Labelled.{Labelled}
use Rattle.edit_core.specs.Logged.{LoggedEdit, logged}
use Rattle.edit_core.specs.Reconciling as reconciling
use Rattle.node_core.specs.View.{labelled, edits_of}
use Rattle.reconcile_core.specs.declared.written.Written.{Written}

-- a written value whose edits are told as a log keeps them
pub record LoggedWriting : Type 0 where
  pub value : Labelled
  pub edits : List LoggedEdit
  pub next : ℕ

abbrev pub writing_of : reconciling.Written → LoggedWriting
writing_of w = record { value = w.value; edits = map logged w.edits; next = w.next }

abbrev pub written : Written → LoggedWriting
written w = record { value = labelled w.value; edits = edits_of w.edits; next = w.next }

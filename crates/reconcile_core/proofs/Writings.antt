-- What is written, as its definition says.
use Rattle.std.proofs.Common.{◌≡◌, ℕ, ◌+◌, ◌∙◌, map, None, true, false, refl, ap}
use Rattle.type_table.specs.Table.{Table}
use Rattle.edit_core.specs.Labelled as edits
use Rattle.edit_core.specs.Logged.{logged}
use Rattle.edit_core.specs.LoggedBetween.{logged_between}
use Rattle.edit_core.specs.Between.{edits_between}
use Rattle.edit_core.specs.Typing.{seen}
use Rattle.edit_core.specs.Matching.{same_item}
use Rattle.edit_core.specs.Template.{Template, template, numbered, new_count}
use Rattle.edit_core.specs.Reconciling.{Setting, written_as, reconciled, item_set}
use Rattle.edit_core.proofs.LoggedBetween.{between-logged}
use Rattle.node_core.specs.View.{labelled, edits_of}
use Rattle.reconcile_core.specs.declared.written.Written.{Written}
use Rattle.reconcile_core.specs.Setting.{written, writing_of}
use Rattle.reconcile_core.specs.Labelling.{rules_of}

pub written-so : (w : Written) (next : ℕ) (old : edits.Labelled) (this : Template) → labelled w.value ≡ numbered next this → edits_of w.edits ≡ logged_between old (labelled w.value) → w.next ≡ next + new_count this
    → written w ≡ writing_of (written_as next old this)
written-so w next old this e1 e2 e3 =
    let between : edits_of w.edits ≡ map logged (edits_between old (numbered next this)) = e2 ∙ ap (logged_between old) e1 ∙ between-logged old (numbered next this) in
    λ i. record { value = e1 i; edits = between i; next = e3 i }

pub set-apart : (table : Table) (s : Setting) (w : Written) → same_item (rules_of table).typing s.type (seen s.old) s.new ≡ false → written w ≡ writing_of (written_as s.next s.old (template (rules_of table) s.type None s.new))
    → written w ≡ writing_of (item_set (rules_of table) s)
set-apart table s w apart e = rw apart e

pub set-same : (table : Table) (s : Setting) → same_item (rules_of table).typing s.type (seen s.old) s.new ≡ true → writing_of (reconciled (rules_of table) s) ≡ writing_of (item_set (rules_of table) s)
set-same table s same = rw same refl

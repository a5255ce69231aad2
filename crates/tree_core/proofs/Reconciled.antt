-- What reconciling wrote is the change of the definition.
use Rattle.std.proofs.Common.{◌≡◌, ap, ◌∙◌}
use Rattle.edit_core.specs.Typing.{Typing}
use Rattle.edit_core.specs.Matching.{by_first}
use Rattle.edit_core.specs.Reconciling.{Setting, reconciled, item_set}
use Rattle.reconcile_core.specs.Setting.{LoggedWriting, writing_of}
use Rattle.tree_core.specs.Changed.{Changed, value_set, one_item_set}
use Rattle.tree_core.specs.Written.{changed_as}

pub value_set_by : (typing : Typing) (s : Setting) (w : LoggedWriting) (c : Changed) → c ≡ changed_as w → w ≡ writing_of (reconciled (by_first typing) s) → c ≡ value_set typing s
value_set_by typing s w c same set = same ∙ ap changed_as set

pub item_set_by : (typing : Typing) (s : Setting) (w : LoggedWriting) (c : Changed) → c ≡ changed_as w → w ≡ writing_of (item_set (by_first typing) s) → c ≡ one_item_set typing s
item_set_by typing s w c same set = same ∙ ap changed_as set

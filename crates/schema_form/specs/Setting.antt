-- What the parts of a model are read by.
use Rattle.std.specs.Prelude.{◌≡◌, ℕ, List, map}
use Rattle.snap_core.specs.Value.{AreKeyed, AreOrderedMembers, Fields}
use Rattle.snap_core.specs.View.{fields_view}
use Rattle.model_syntax.specs.declared.behaviour.Param.{Param}
use Rattle.schema_form.specs.declared.setting.Setting.{Setting}
use Rattle.schema_form.specs.Bases.{AreBases}
use Rattle.schema_form.specs.Targets.{targets_from}
use Rattle.schema_form.specs.Modelled.{Within, Action}

-- what is known of each type is right, and keys stand in order
pub record IsSetting (by : Setting) : Type 0 where
  pub keyed : AreKeyed (fields_view by.types.now)
  pub bases : AreBases by.types.now by.bases.now
  pub targets : by.targets.now ≡ targets_from 0 (fields_view by.types.now)
  pub parts : AreOrderedMembers (fields_view by.parts.now)

abbrev pub within : Setting → Within
within by = record { types = fields_view by.types.now; parts = fields_view by.parts.now; model = by.model }

-- the names of parameters
abbrev pub names_of : List Param → List (List ℕ)
names_of params = map (λ p. p.name) params

-- the action of an index, which has these parts
abbrev pub action_of : Setting → Fields → ℕ → Action
action_of by parts index = record { types = fields_view by.types.now; parts = parts; number = (by.model, index) }

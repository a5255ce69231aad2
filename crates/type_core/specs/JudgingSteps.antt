-- One step of judging, as the code takes it.
use Rattle.std.specs.Prelude.{ℕ, Option}
use Rattle.std.specs.Option.{option_copied}
use Rattle.type_table.specs.declared.shape.Shape.{Shape}
use Rattle.type_core.specs.declared.judging.Step.{Step}
use Rattle.type_core.specs.declared.judging.Step.TheVariants.{On, Ends}

-- where a step leads on, what judges there, and otherwise the shape
abbrev pub judged_after : (ℕ → Option Shape) → Step → Option Shape
judged_after further (On t) = further t.0
judged_after further (Ends shape) = option_copied shape

-- The layers so far, and those that are left, are the whole.
use Rattle.std.proofs.Common.{◌≡◌, ◌++◌, map, drop}
use Rattle.model_syntax.specs.Shown.{middleware_shown}
use Rattle.action_core.specs.Layers.{named_layers}
use Rattle.action_steps.specs.Acting.{layer_of}
use Rattle.action_steps.proofs.layers.with_named.Given as goal

abbrev pub invariant-loop-middleware : goal.invariant-loop-middleware
invariant-loop-middleware l =
    map layer_of l.layers ++ named_layers l.name l.node (map middleware_shown (drop l.middleware-index l.declared))
    ≡ map layer_of l.initial.layers ++ named_layers l.name l.node (map middleware_shown l.declared)

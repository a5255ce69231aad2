use Rattle.std.proofs.Common.{◌≡◌, map, take}
use Rattle.model_syntax.specs.Shown.{behaviour_shown}
use Rattle.expr_core.specs.Numbering.{numbering_of}
use Rattle.expr_core.proofs.schema.Schema.new.Given as goal

abbrev pub invariant-loop-behaviour : goal.invariant-loop-behaviour
invariant-loop-behaviour l = record {
  views : l.views ≡ numbering_of (map (λ b. (behaviour_shown b).views) (take l.behaviour-index l.fn.behaviours));
  actions : l.actions ≡ numbering_of (map (λ b. (behaviour_shown b).actions) (take l.behaviour-index l.fn.behaviours));
}

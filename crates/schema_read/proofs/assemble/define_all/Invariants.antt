-- What is left to define, before what the draft has past it.
use Rattle.std.proofs.Common.{◌≡◌, ◌++◌, length, map, take, drop, replicate, Some, None, All}
use Rattle.schema_read.specs.Types.{kind_shape}
use Rattle.schema_read.specs.Assembly.{IsKindOf}
use Rattle.schema_read.proofs.assemble.define_all.Given as goal

abbrev pub invariant-loop-kind : goal.invariant-loop-kind
invariant-loop-kind l =
    let first = l.initial in
    record {
      undefined : take (length l.kinds) l.draft.shapes ≡ replicate (length l.kinds) None;
      known : All (IsKindOf l.entries l.draft) l.kinds;
      shapes : map Some (map (kind_shape l.entries) l.kinds) ++ drop (length l.kinds) l.draft.shapes
          ≡ map Some (map (kind_shape l.entries) first.kinds) ++ drop (length first.kinds) first.draft.shapes;
      models : l.draft.models ≡ first.draft.models;
    }

abbrev pub decreases-loop-kind : goal.decreases-loop-kind
decreases-loop-kind l = length l.kinds

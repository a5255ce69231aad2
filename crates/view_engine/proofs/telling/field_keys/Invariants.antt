-- The keys so far, and those that are left, are the whole.
use Rattle.std.proofs.Common.{◌≡◌, ◌++◌, map, drop}
use Rattle.snap_core.specs.Value.{keys_of}
use Rattle.snap_core.specs.View.{fields_view}
use Rattle.answer_ops.specs.View.{answer_of}
use Rattle.view_engine.proofs.Loosely.{key_answer}
use Rattle.view_engine.proofs.telling.field_keys.Given as goal

abbrev pub invariant-loop-field : goal.invariant-loop-field
invariant-loop-field g l =
    map answer_of l.keys ++ map key_answer (keys_of (fields_view (drop l.field-index l.fields))) ≡ map key_answer (keys_of (fields_view l.fields))

use Rattle.std.proofs.Common.{◌+◌, drop, map, drop_of_length-le, arith}
use Rattle.snap_core.specs.Value.{keys_of}
use Rattle.snap_core.specs.View.{fields_view}
use Rattle.view_engine.proofs.Lists.{element}
use Rattle.view_engine.proofs.Loosely.{key_answer, keys-more, keys-end}
use Rattle.view_engine.proofs.telling.field_keys.Goals as goal

pub loop-field-preserved : goal.loop-field-preserved
loop-field-preserved g c =
    let fs = c.args.fields.now in
    let i = c.loop-field.field-index in
    keys-more (drop i fs) c.field-item.result (drop (i + 1) fs) c.loop-field.keys c.push.new.self c.in_ok-clone_in.field-0 (map key_answer (keys_of (fields_view fs))) (element fs i c.field-item.result c.loop-field-test.true c.field-item.is)
    c.in_ok-push.ensures.ok c.in_ok-clone_in.ensures c.loop-field.invariant

pub returns : goal.returns
returns g c =
    let fs = c.args.fields.now in
    let i = c.loop-field.field-index in
    keys-end (drop i fs) c.loop-field.keys (keys_of (fields_view fs)) (drop_of_length-le fs {i = i} (omega (arith, c.loop-field-test.false))) c.loop-field.invariant

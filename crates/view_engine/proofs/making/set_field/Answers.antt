use Rattle.std.proofs.Common.{sym, ◌∙◌, ap, subst}
use Rattle.snap_core.specs.Value.{AreKeyed}
use Rattle.snap_core.specs.View.{view, fields_view}
use Rattle.view_engine.proofs.Fields.{set-found, put-absent, keyed-with}
use Rattle.view_engine.proofs.making.set_field.Goals as goal

pub returns-in-Ok-clause-ok : goal.returns-in-Ok-clause-ok
returns-in-Ok-clause-ok c =
    set-found c.args.key c.text.result.now c.args.value c.args.fields.now c.as_slice.result.now _ c.in-Ok.at c.as_slice.ensures c.text.ensures c.requires c.in-Ok.ensures.within c.in-Ok.ensures.found c.in-Ok.ensures.key c.set.ensures

pub returns-in-Ok-clause-keyed : goal.returns-in-Ok-clause-keyed
returns-in-Ok-clause-keyed c =
    let e = set-found c.args.key c.text.result.now c.args.value c.args.fields.now c.as_slice.result.now _ c.in-Ok.at c.as_slice.ensures c.text.ensures c.requires c.in-Ok.ensures.within c.in-Ok.ensures.found c.in-Ok.ensures.key c.set.ensures in
    rw e (keyed-with c.args.key (view c.args.value) (fields_view c.args.fields.now) c.requires)

pub returns-in_ok-insert-in-Err-clause-ok : goal.returns-in_ok-insert-in-Err-clause-ok
returns-in_ok-insert-in-Err-clause-ok c =
    put-absent c.args.key c.text.result.now c.args.value c.args.fields.now c.as_slice.result.now _ c.in-Err.at c.as_slice.ensures c.text.ensures c.in-Err.ensures.found c.in-Err.ensures.place c.in_ok-insert-in-Err.ensures.ok

pub returns-in_ok-insert-in-Err-clause-keyed : goal.returns-in_ok-insert-in-Err-clause-keyed
returns-in_ok-insert-in-Err-clause-keyed c =
    let e = put-absent c.args.key c.text.result.now c.args.value c.args.fields.now c.as_slice.result.now _ c.in-Err.at c.as_slice.ensures c.text.ensures c.in-Err.ensures.found c.in-Err.ensures.place c.in_ok-insert-in-Err.ensures.ok in
    rw e (keyed-with c.args.key (view c.args.value) (fields_view c.args.fields.now) c.requires)

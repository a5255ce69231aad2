use Rattle.std.proofs.Common.{◌≡◌, length, slice_set, Some, ap, ◌∙◌, arith, length-set}
use Rattle.std.proofs.lemmas.List.Elements.{All-pop}
use Rattle.type_table.specs.Table.{Plan}
use Rattle.type_draft.proofs.Plans.{IsNoSmaller}
use Rattle.schema_read.specs.Types.{kind_shape}
use Rattle.schema_read.specs.Assembly.{IsKindOf}
use Rattle.schema_read.proofs.Filling.{define_step}
use Rattle.schema_read.proofs.Growing.{AreKindsOf-more}
use Rattle.schema_read.proofs.assemble.define_all.Goals as goal

pub loop-kind-preserved : goal.loop-kind-preserved
loop-kind-preserved c =
    let l = c.loop-kind in
    let left = c.pop.new.self in
    let kind = c.in-Some.kind in
    let entries = c.args.entries.now in
    let at = c.len.ensures in
    let new = c.define.new.self in
    let same = rw (at, c.kind_shape.ensures) at c.define.ensures in
    let step = define_step (kind_shape entries) l.kinds left kind l.draft.shapes c.in-Some.ensures.some l.invariant.undefined in
    let shapes_are : new.shapes ≡ slice_set l.draft.shapes (length left) (Some (kind_shape entries kind)) = ap (λ (p : Plan). p.shapes) same in
    let models_are : new.models ≡ l.draft.models = ap (λ (p : Plan). p.models) same in
    let grown : IsNoSmaller l.draft new = record {
      shapes = omega (arith, ap length shapes_are, length-set l.draft.shapes (length left) (Some (kind_shape entries kind)));
      models = omega (arith, ap length models_are);
    } in
    record {
      undefined = rw shapes_are step.0;
      known = AreKindsOf-more entries l.draft new grown left (All-pop (IsKindOf entries l.draft) l.kinds left (Some kind) c.in-Some.ensures.some l.invariant.known).0;
      shapes = rw shapes_are (step.1 ∙ l.invariant.shapes);
      models = models_are ∙ l.invariant.models;
    }

pub kind_shape-requires : goal.kind_shape-requires
kind_shape-requires c =
    let l = c.loop-kind in
    (All-pop (IsKindOf c.args.entries.now l.draft) l.kinds c.pop.new.self (Some c.in-Some.kind) c.in-Some.ensures.some l.invariant.known).1.entry

pub define-requires-clause-names : goal.define-requires-clause-names
define-requires-clause-names c =
    let l = c.loop-kind in
    rw c.kind_shape.ensures
    (All-pop (IsKindOf c.args.entries.now l.draft) l.kinds c.pop.new.self (Some c.in-Some.kind) c.in-Some.ensures.some l.invariant.known).1.shape

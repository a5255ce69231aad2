use Rattle.std.proofs.Common.{◌≡◌, ℕ, List, [], refl, subst}
use Rattle.std.proofs.lemmas.Result.{IfOk-at_ok}
use Rattle.snap_core.specs.View.{view, fields_view}
use Rattle.schema_form.specs.Faults.{under, member_faults, part_faults}
use Rattle.schema_form.specs.Outcome.{Tells}
use Rattle.schema_form.specs.Parts.{IsNext}
use Rattle.schema_form.proofs.Finding.{handed-on, fields-passed, fields-found}
use Rattle.schema_form.proofs.FileParts.{found-field, found-end}
use Rattle.schema_form.proofs.Orders.{keyed_by_order, ordered_value}
use Rattle.schema_form.proofs.file.read_parts.Goals as goal

pub read_part-read-requires-clause-ordered : goal.read_part-read-requires-clause-ordered
read_part-read-requires-clause-ordered c = ordered_value c.args.parts.now c.loop-part.part-index c.part-item.result c.requires.ordered c.loop-part-test.true c.part-item.is

pub returns-in_err-next-clause-finds : goal.returns-in_err-next-clause-finds
returns-in_err-next-clause-finds c =
    let e = c.in_err-next.field-0.0 in
    let types = fields_view c.args.types.now in
    let f = c.part-item.result in
    let whole = member_faults (part_faults types) (fields_view c.args.parts.now) in
    let P : List ℕ → Type 0 = λ k. Tells e (under k (part_faults types f.key (view f.value))) in
    let inner : P c.text.result.now = c.in_err-next.ensures.finds _ c.read_part-read.ensures.finds in
    handed-on e c.from_residual.result whole c.from_residual.ensures.1
    (fields-found (member_faults (part_faults types)) (λ k v. under k (part_faults types k v)) (λ k v ms. refl) e whole c.args.parts.now c.loop-part.part-index c.part-item.result
    c.loop-part-test.true c.part-item.is c.loop-part.invariant.faults (subst P c.text.ensures inner))

pub loop-part-preserved : goal.loop-part-preserved
loop-part-preserved c =
    let types = fields_view c.args.types.now in
    let f = c.part-item.result in
    let P : List ℕ → Type 0 = λ k. under k (part_faults types f.key (view f.value)) ≡ [] in
    let inner : P c.text.result.now = c.in_ok-next.ensures.finds _ c.read_part-read.ensures.finds in
    record {
      faults = fields-passed (member_faults (part_faults types)) (λ k v. under k (part_faults types k v)) (λ k v ms. refl) (member_faults (part_faults types) (fields_view c.args.parts.now)) c.args.parts.now c.loop-part.part-index f
          c.loop-part-test.true c.part-item.is c.loop-part.invariant.faults (subst P c.text.ensures inner);
      before = found-field types c.args.parts.now c.loop-part.part-index f c.loop-part.found c.in_ok-next.next (keyed_by_order (fields_view c.args.parts.now) c.requires.ordered) c.loop-part-test.true c.part-item.is
          (IfOk-at_ok (λ n. IsNext types c.loop-part.found n f.key (view f.value)) c.in_ok-next.ensures.ok c.read_part-read.ensures.next) c.loop-part.invariant.before;
    }

pub returns-clause-found : goal.returns-clause-found
returns-clause-found c = found-end (fields_view c.args.types.now) c.args.parts.now c.loop-part.part-index c.loop-part.found c.loop-part-test.false c.loop-part.invariant.before

use Rattle.std.proofs.Common.{◌≡◌, Ok, get_or, slice_get, sym, ◌∙◌, ap, subst}
use Rattle.snap_core.specs.View.{view}
use Rattle.eval_core.specs.Walking.{standing, read_item}
use Rattle.answer_ops.specs.View.{answer_of}
use Rattle.answer_ops.specs.declared.value.Value
use Rattle.view_engine.specs.Did.{Read}
use Rattle.view_engine.specs.Progress.{scope_of, whole_in}
use Rattle.view_engine.specs.TreeSight.{item_entry, key_entry}
use Rattle.view_engine.specs.Walked.{items_of, given_plain}
use Rattle.view_engine.proofs.Levels.{range-got, plain-at}
use Rattle.view_engine.proofs.Doing.{given-plain}
use Rattle.view_engine.proofs.items.Items.get.Goals as goal

pub returns-in_ok-clone_in-in-List : goal.returns-in_ok-clone_in-in-List
returns-in_ok-clone_in-in-List g c = λ item at.
    let v = c.index-as_slice-i-in-List.result in
    let is : v ≡ get_or c.in-List.values c.args.i v = c.index-as_slice-i-in-List.is ∙ ap (λ xs. get_or xs c.args.i v) c.as_slice-in-List.ensures in
    let given : item ≡ given_plain v = plain-at c.in-List.values c.args.i item v (ap (λ it. slice_get (items_of (whole_in g.S.Bodies.says c.args.scope.now) it) c.args.i) (sym c.in-List.is) ∙ at) is in
    subst (λ x. Read answer_of (Ok (Value.Plain c.in_ok-clone_in-in-List.field-0)) (read_item (scope_of g.S.Bodies.says c.args.scope.now) x)) (sym given)
    (given-plain c.in_ok-clone_in-in-List.field-0 (view v) (ap view (sym c.in_ok-clone_in-in-List.ensures)))

pub returns-in-Array : goal.returns-in-Array
returns-in-Array g c = λ item at.
    let whole = whole_in g.S.Bodies.says c.args.scope.now in
    subst (λ x. Read answer_of c.array_item.result (read_item (scope_of g.S.Bodies.says c.args.scope.now) x))
    (sym (range-got (λ i. standing c.in-Array.n (item_entry whole c.in-Array.n i)) c.args.i c.in-Array.field-1 item (ap (λ it. slice_get (items_of whole it) c.args.i) (sym c.in-Array.is) ∙ at)))
    c.array_item.ensures

pub returns-in-Map : goal.returns-in-Map
returns-in-Map g c = λ item at.
    let whole = whole_in g.S.Bodies.says c.args.scope.now in
    subst (λ x. Read answer_of c.map_value.result (read_item (scope_of g.S.Bodies.says c.args.scope.now) x))
    (sym (range-got (λ i. standing c.in-Map.n (key_entry whole c.in-Map.n i)) c.args.i c.in-Map.field-1 item (ap (λ it. slice_get (items_of whole it) c.args.i) (sym c.in-Map.is) ∙ at)))
    c.map_value.ensures

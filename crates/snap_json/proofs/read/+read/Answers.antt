use Rattle.std.proofs.Common.{◌≡◌, ◌+◌, [], ◌∷◌, drop, map, Ok, string_bytes, sym, ap, ◌∙◌, subst, arith, rules}
use Rattle.std.proofs.lemmas.List.{drop_more, drop_all}
use Rattle.serde_json.specs.View.{items_view, members_view}
use Rattle.serde_json.specs.View.{view as data_view}
use Rattle.snap_core.specs.Value.{part, member}
use Rattle.snap_core.specs.View.{view, entry}
use Rattle.snap_core.specs.declared.snap.Snap.{the_lemmas}
use Rattle.snap_json.specs.Fault.{IsFaultOf}
use Rattle.snap_json.specs.Reading.{items_of, members_of, value_of, mapped}
use Rattle.snap_json.proofs.Steps.{items_before, members_before, items_before-none, members_before-none, item_read, member_read, first_fault}
use Rattle.snap_json.proofs.read.+read.Goals as goal

pub list_of-loop-index-preserved : goal.list_of-loop-index-preserved
list_of-loop-index-preserved t c =
    let l = c.loop-index in
    let xs = c.args.items.now in
    let x = c.index-items-index.result in
    let here : drop l.index xs ≡ x ∷ drop (l.index + 1) xs = drop_more xs l.index x (omega arith) ∙ ap (λ y. y ∷ drop (l.index + 1) xs) (sym c.index-items-index.is) in
    l.invariant ∙ ap (λ ys. mapped (items_before (map view l.list)) (items_of l.index (items_view ys))) here
    ∙ item_read l.list c.push.new.self c.in-Ok.snap l.index (data_view x) (items_view (drop (l.index + 1) xs)) c.in_ok-push-in-Ok.ensures.ok c.in-Ok.ensures.ok

pub list_of-returns-in-Err-clause-err : goal.list_of-returns-in-Err-clause-err
list_of-returns-in-Err-clause-err t c =
    let l = c.loop-index in
    let xs = c.args.items.now in
    let x = c.index-items-index.result in
    let here : drop l.index xs ≡ x ∷ drop (l.index + 1) xs = drop_more xs l.index x (omega arith) ∙ ap (λ y. y ∷ drop (l.index + 1) xs) (sym c.index-items-index.is) in
    let whole = l.invariant ∙ ap (λ ys. mapped (items_before (map view l.list)) (items_of l.index (items_view ys))) here in
    subst (IsFaultOf c.under_index.result) (sym whole) (first_fault c.under_index.result _ part _ (items_of (l.index + 1) (items_view (drop (l.index + 1) xs))) (c.under_index.ensures (value_of (data_view x)) c.in-Err.ensures.err))

pub list_of-returns-clause-ok : goal.list_of-returns-clause-ok
list_of-returns-clause-ok t c =
    let l = c.loop-index in
    let xs = c.args.items.now in
    let none : drop l.index xs ≡ [] = drop_all l.index xs (omega arith) in
    l.invariant
    ∙ ap (λ ys. mapped (items_before (map view l.list)) (items_of l.index (items_view ys))) none ∙ ap Ok (items_before-none (map view l.list))

pub fields_of-loop-key-preserved : goal.fields_of-loop-key-preserved
fields_of-loop-key-preserved t c =
    let l = c.loop-key in
    let k = string_bytes c.in-Some.key.now in
    l.invariant ∙ ap (λ es. mapped (members_before (map entry l.fields)) (members_of (members_view es))) c.in-Some.ensures.steps
    ∙ member_read l.fields c.push.new.self _ k (view c.in-Ok.value) (data_view c.in-Some.member.now) (members_view c.next.new.self) c.in_ok-push-in-Ok.ensures.ok (search (rules, the_lemmas)) c.in-Ok.ensures.ok

pub fields_of-returns-in-Err-clause-err : goal.fields_of-returns-in-Err-clause-err
fields_of-returns-in-Err-clause-err t c =
    let l = c.loop-key in
    let k = string_bytes c.in-Some.key.now in
    let whole = l.invariant ∙ ap (λ es. mapped (members_before (map entry l.fields)) (members_of (members_view es))) c.in-Some.ensures.steps in
    let named : c.as_str-in-Err.result.now ≡ k = c.as_str-in-Err.ensures.value in
    subst (IsFaultOf c.under.result) (sym whole) (first_fault c.under.result _ (member k) _ (members_of (members_view c.next.new.self)) (rw (← named) (c.under.ensures (value_of (data_view c.in-Some.member.now)) c.in-Err.ensures.err)))

pub fields_of-returns-clause-ok : goal.fields_of-returns-clause-ok
fields_of-returns-clause-ok t c =
    let l = c.loop-key in
    l.invariant ∙ ap (λ es. mapped (members_before (map entry l.fields)) (members_of (members_view es))) c.in-None.ensures.steps.0 ∙ ap Ok (members_before-none (map entry l.fields))

use Rattle.std.proofs.Common.{◌≡◌, ◌+◌, [], ◌∷◌, drop, map, string_bytes, sym, ap, ◌∙◌, arith, rules}
use Rattle.std.proofs.lemmas.List.{drop_more, drop_all}
use Rattle.serde_json.specs.View.{items_view, members_view}
use Rattle.serde_json.specs.View.{view as data_view}
use Rattle.snap_core.specs.View.{view, entry}
use Rattle.snap_core.specs.declared.snap.Snap.{the_lemmas}
use Rattle.snap_json.specs.Loose.{loose_items, loose_members}
use Rattle.snap_json.proofs.Steps.{items_before, members_before, items_before-none, members_before-none}
use Rattle.snap_json.proofs.Loosenings.{loose_item, loose_member}
use Rattle.snap_json.proofs.loose.+loosen.Goals as goal

pub loosened_items-loop-item-preserved : goal.loosened_items-loop-item-preserved
loosened_items-loop-item-preserved t c =
    let l = c.loop-item in
    let xs = c.args.items.now in
    let x = c.item-item.result in
    let here : drop l.item-index xs ≡ x ∷ drop (l.item-index + 1) xs = drop_more xs l.item-index x (omega arith) ∙ ap (λ y. y ∷ drop (l.item-index + 1) xs) (sym c.item-item.is) in
    l.invariant ∙ ap (λ ys. items_before (map view l.list) (loose_items (items_view ys))) here
    ∙ loose_item l.list c.push.new.self c.in_ok-loosened.field-0 (data_view x) (items_view (drop (l.item-index + 1) xs)) c.in_ok-push.ensures.ok c.in_ok-loosened.ensures

pub loosened_items-returns : goal.loosened_items-returns
loosened_items-returns t c =
    let l = c.loop-item in
    let xs = c.args.items.now in
    let none : drop l.item-index xs ≡ [] = drop_all l.item-index xs (omega arith) in
    sym (l.invariant ∙ ap (λ ys. items_before (map view l.list) (loose_items (items_view ys))) none ∙ items_before-none (map view l.list))

pub loosened_fields-loop-key-preserved : goal.loosened_fields-loop-key-preserved
loosened_fields-loop-key-preserved t c =
    let l = c.loop-key in
    let k = string_bytes c.in-Some.key.now in
    l.invariant ∙ ap (λ es. members_before (map entry l.fields) (loose_members (members_view es))) c.in-Some.ensures.steps
    ∙ loose_member l.fields c.push.new.self _ k (view c.in_ok-loosened.field-0) (data_view c.in-Some.member.now) (members_view c.next.new.self) c.in_ok-push.ensures.ok (search (rules, the_lemmas)) c.in_ok-loosened.ensures

pub loosened_fields-returns : goal.loosened_fields-returns
loosened_fields-returns t c =
    let l = c.loop-key in
    sym (l.invariant ∙ ap (λ es. members_before (map entry l.fields) (loose_members (members_view es))) c.in-None.ensures.steps.0 ∙ members_before-none (map entry l.fields))

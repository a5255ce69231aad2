-- Each case by its rule; and what each step of a loop adds.
use Rattle.std.proofs.Common.{◌≡◌, ◌∙◌, ◌+◌, ◌≤◌, ◌<◌, List, [], ◌∷◌, ◌++◌, drop, length, IfOk, sym, ap, subst, append-nil, arith}
use Rattle.std.specs.Prelude.{is_some, true, false}
use Rattle.edit_core.specs.Edit.{to_entry, add}
use Rattle.edit_core.specs.Logged as logged
use Rattle.edit_core.specs.LoggedBetween.{all_behind, at_turn, held_first, logged_settings, of_whole, logged_items, logged_entries, logged_between, count_below}
use Rattle.node_core.specs.View.{labelled, items, fields, edits_of}
use Rattle.node_core.specs.Olds.{olds_of, old_fields_of}
use Rattle.node_core.proofs.BetweenSteps.{equal-leaves, other-leaves, same-arrays, same-records, moved-is, one_by_one-end, KeyAt, set-held, set-added, SoFar}
use Rattle.node_core.proofs.PlainValues.{told_equal}
use Rattle.node_core.proofs.+between.Goals.{entry_edits::settings-then-holds_at+in_ok-inner+in_ok-append_behind, entry_edits::settings-else-holds_at+in_ok-added+in_ok-push_at}
use Rattle.node_core.proofs.+between.Goals as goal

pub between::edits_between-returns-then-equal : goal.between::edits_between-returns-then-equal
between::edits_between-returns-then-equal t c =
    ap edits_of c.new.ensures
    ∙ rw (c.in-Leaf-Leaf.is-0, c.in-Leaf-Leaf.is-1) (equal-leaves c.in-Leaf-Leaf.value c.in-Leaf-Leaf.other c.equal.result (told_equal c.equal.result c.in-Leaf-Leaf.value c.in-Leaf-Leaf.other c.equal.ensures) c.if-equal.true)

pub between::edits_between-returns-else-equal : goal.between::edits_between-returns-else-equal
between::edits_between-returns-else-equal t c =
    let P : List logged.LoggedEdit → Type 0 = λ target. IfOk c.whole.result (λ es. edits_of es ≡ target) in
    let told : of_whole (labelled c.args.old.now) (labelled c.args.new.now) ∷ [] ≡ logged_between (labelled c.args.old.now) (labelled c.args.new.now) =
    rw (c.in-Leaf-Leaf.is-0, c.in-Leaf-Leaf.is-1) (other-leaves c.in-Leaf-Leaf.value c.in-Leaf-Leaf.other c.equal.result (told_equal c.equal.result c.in-Leaf-Leaf.value c.in-Leaf-Leaf.other c.equal.ensures) c.if-equal.false) in
    subst P told c.whole.ensures

pub between::edits_between-returns-then-same_label : goal.between::edits_between-returns-then-same_label
between::edits_between-returns-then-same_label t c =
    let P : List logged.LoggedEdit → Type 0 = λ target. IfOk c.edits_of_items.result (λ es. edits_of es ≡ target) in
    let told : logged_items (olds_of c.as_slice.result.now) (items c.as_slice-then-same_label.result.now) ≡ logged_between (labelled c.args.old.now) (labelled c.args.new.now) =
    rw (c.as_slice.ensures, c.as_slice-then-same_label.ensures, c.in-Array-Array.is-0, c.in-Array-Array.is-1)
    (same-arrays c.in-Array-Array.own c.in-Array-Array.other c.in-Array-Array.olds c.in-Array-Array.news (sym c.if-same_label.ensures)) in
    subst P told c.edits_of_items.ensures

pub between::edits_between-returns-then-same_label-2 : goal.between::edits_between-returns-then-same_label-2
between::edits_between-returns-then-same_label-2 t c =
    let P : List logged.LoggedEdit → Type 0 = λ target. IfOk c.edits_of_fields.result (λ es. edits_of es ≡ target) in
    let told : logged_entries (old_fields_of c.as_slice-then-same_label-2.result.now) (fields c.as_slice-then-same_label-2-2.result.now) ≡ logged_between (labelled c.args.old.now) (labelled c.args.new.now) =
    rw (c.as_slice-then-same_label-2.ensures, c.as_slice-then-same_label-2-2.ensures, c.in-Record-Record.is-0, c.in-Record-Record.is-1)
    (same-records c.in-Record-Record.own c.in-Record-Record.other c.in-Record-Record.olds c.in-Record-Record.news (sym c.if-same_label-2.ensures)) in
    subst P told c.edits_of_fields.ensures

pub between::edits_of_items-returns : goal.between::edits_of_items-returns
between::edits_of_items-returns t c =
    moved-is c.args.olds.now c.args.news.now (edits_of c.in_ok-edits.edits) _ _ (sym c.if-each_stays.ensures) c.in_ok-edits.ensures c.in_ok-removals.ensures c.in_ok-additions.ensures

pub item_edits::one_by_one-returns : goal.item_edits::one_by_one-returns
item_edits::one_by_one-returns t c =
    let none = one_by_one-end c.loop-i.i c.args.olds.now c.args.news.now (omega arith) in
    sym (append-nil _) ∙ (rw none at c.loop-i.invariant)

pub entry_edits::settings-loop-i-preserved : goal.entry_edits::settings-loop-i-preserved
entry_edits::settings-loop-i-preserved t c =
    let counted : c.first_not_below-place.result ≡ c.loop-i.from + count_below c.index-news-i.result.key (old_fields_of (drop c.loop-i.from c.args.olds.now)) =
    rw c.text.ensures at c.first_not_below-place.ensures.place in
    let k : KeyAt c.args.olds.now c.args.news.now c.loop-i.from c.loop-i.i =
    record { new = c.index-news-i.result; place = c.first_not_below-place.result; is = c.index-news-i.is; inside = c.loop-i-test.true; begins = omega arith; counted = counted } in
    let so : SoFar (edits_of c.loop-i.edits) (logged_settings c.loop-i.at (old_fields_of (drop c.loop-i.from c.args.olds.now)) (fields (drop c.loop-i.i c.args.news.now))) (logged_settings 0 (old_fields_of c.args.olds.now) (fields c.args.news.now)) =
    record { is = c.loop-i.invariant.1 } in
    elim c.if-holds_at.branch [
      | entry_edits::settings-then-holds_at+in_ok-inner+in_ok-append_behind w ↦
          let within : c.first_not_below-place.result < length c.args.olds.now = c.holds_at.ensures.within w.if-holds_at.true in
          let some : is_some (held_first c.index-news-i.result.key (old_fields_of (drop c.first_not_below-place.result c.args.olds.now))) ≡ true =
          (rw c.text-in-loop-i.ensures at (sym c.holds_at.ensures.held)) ∙ w.if-holds_at.true in
          let next : c.if-holds_at.from ≡ c.first_not_below-place.result + 1 = w.from-is in
          let told : edits_of c.if-holds_at.edits ≡ edits_of c.loop-i.edits ++ all_behind (to_entry c.in_ok-at.at c.in_ok-clone_in.field-0) (edits_of w.in_ok-inner.inner) =
          ap edits_of w.edits-is ∙ w.in_ok-append_behind.ensures in (
            omega arith,
            set-held c.args.olds.now c.args.news.now c.loop-i.from c.loop-i.i c.loop-i.at c.in_ok-at.at c.in_ok-at-2.at c.if-holds_at.from c.in_ok-clone_in.field-0 k w.index-olds-place.result
                (edits_of c.loop-i.edits) (edits_of c.if-holds_at.edits) (edits_of w.in_ok-inner.inner) _ w.index-olds-place.is within some c.in_ok-at.ensures c.in_ok-at-2.ensures next c.in_ok-clone_in.ensures (rw (← w.index-olds-place.is) at w.in_ok-inner.ensures) told so,
          )
      | entry_edits::settings-else-holds_at+in_ok-added+in_ok-push_at w ↦
          let none : is_some (held_first c.index-news-i.result.key (old_fields_of (drop c.first_not_below-place.result c.args.olds.now))) ≡ false =
          (rw c.text-in-loop-i.ensures at (sym c.holds_at.ensures.held)) ∙ w.if-holds_at.false in
          let told : edits_of c.if-holds_at.edits ≡ edits_of c.loop-i.edits ++ at_turn (to_entry c.in_ok-at.at c.in_ok-clone_in.field-0) (add (labelled w.in_ok-added.added)) ∷ [] =
          ap edits_of w.edits-is ∙ w.in_ok-push_at.ensures in
          let place : c.first_not_below-place.result ≤ length c.args.olds.now = c.first_not_below-place.ensures.within in (
            omega (arith, w.from-is),
            set-added c.args.olds.now c.args.news.now c.loop-i.from c.loop-i.i c.loop-i.at c.in_ok-at.at c.in_ok-at-2.at c.if-holds_at.from c.in_ok-clone_in.field-0 k (labelled w.in_ok-added.added)
                (edits_of c.loop-i.edits) (edits_of c.if-holds_at.edits) _ none c.in_ok-at.ensures c.in_ok-at-2.ensures w.from-is c.in_ok-clone_in.ensures (ap labelled w.in_ok-added.ensures) told so,
          )
    ]

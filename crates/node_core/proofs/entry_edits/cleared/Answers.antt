-- Each new key: the old entries before it are cut, and what is left behind it is still to be cleared.
use Rattle.std.proofs.Common.{◌≡◌, ◌∙◌, ◌+◌, ◌-◌, ◌<◌, ◌≤◌, ◌++◌, take, drop, length, sym, arith}
use Rattle.std.specs.Prelude.{is_some, true, false}
use Rattle.edit_core.specs.LoggedBetween.{count_below, held_first, logged_cuts, logged_cleared}
use Rattle.node_core.specs.View.{fields, edits_of}
use Rattle.node_core.specs.Olds.{old_fields_of}
use Rattle.node_core.proofs.BetweenSteps.{KeyAt, SoFar, clear-held, clear-added, EntryAt, entry-at}
use Rattle.node_core.proofs.entry_edits.cleared.Goals.{then-holds_at, else-holds_at}
use Rattle.node_core.proofs.entry_edits.cleared.Goals as goal

pub loop-i-preserved : goal.loop-i-preserved
loop-i-preserved c =
    let counted : c.first_not_below-place.result ≡ c.loop-i.from + count_below c.index-news-i.result.key (old_fields_of (drop c.loop-i.from c.args.olds.now)) =
    rw (c.text-key.ensures, ← c.index-news-i.is) at c.first_not_below-place.ensures.place in
    let k : KeyAt c.args.olds.now c.args.news.now c.loop-i.from c.loop-i.i =
    record { new = c.index-news-i.result; place = c.first_not_below-place.result; is = c.index-news-i.is; inside = c.loop-i-test.true; begins = omega arith; counted = counted } in
    let so : SoFar (edits_of c.loop-i.edits) (logged_cleared c.loop-i.i (old_fields_of (drop c.loop-i.from c.args.olds.now)) (fields (drop c.loop-i.i c.args.news.now)))
    (edits_of c.args.edits.now ++ logged_cleared 0 (old_fields_of c.args.olds.now) (fields c.args.news.now)) =
    record { is = c.loop-i.invariant.1 } in
    let told : edits_of c.cuts.new.edits ≡ edits_of c.loop-i.edits ++ logged_cuts c.loop-i.i (old_fields_of (take (c.first_not_below-place.result - c.loop-i.from) (drop c.loop-i.from c.args.olds.now))) = c.in_ok-cuts.ensures in
    elim c.if-holds_at.branch [
      | then-holds_at w ↦
          let within : c.first_not_below-place.result < length c.args.olds.now = c.holds_at.ensures.within w.if-holds_at.true in
          let some : is_some (held_first c.index-news-i.result.key (old_fields_of (drop c.first_not_below-place.result c.args.olds.now))) ≡ true =
          (rw (c.text-key.ensures, ← c.index-news-i.is) at (sym c.holds_at.ensures.held)) ∙ w.if-holds_at.true in
          let there : EntryAt c.args.olds.now c.first_not_below-place.result = entry-at c.args.olds.now c.first_not_below-place.result within in
          (omega (arith, w.from-is), clear-held c.args.olds.now c.args.news.now c.loop-i.from c.loop-i.i c.if-holds_at.from k there.entry (edits_of c.loop-i.edits) (edits_of c.cuts.new.edits) _ there.is within some w.from-is told so)
      | else-holds_at w ↦
          let none : is_some (held_first c.index-news-i.result.key (old_fields_of (drop c.first_not_below-place.result c.args.olds.now))) ≡ false =
          (rw (c.text-key.ensures, ← c.index-news-i.is) at (sym c.holds_at.ensures.held)) ∙ w.if-holds_at.false in
          let place : c.first_not_below-place.result ≤ length c.args.olds.now = c.first_not_below-place.ensures.within in
          (omega (arith, w.from-is), clear-added c.args.olds.now c.args.news.now c.loop-i.from c.loop-i.i c.if-holds_at.from k (edits_of c.loop-i.edits) (edits_of c.cuts.new.edits) _ none w.from-is told so)
    ]

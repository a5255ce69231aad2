-- What is passed isn't taken, and the first that may be taken is.
use Rattle.std.proofs.Common.{◌≡◌, ◌∙◌, ◌&&◌, true, false, Some, length, map, sym, ap, arith, add-one}
use Rattle.std.specs.Prelude.{slice_get}
use Rattle.std.specs.Option.{option_map, option_copied}
use Rattle.snap_core.specs.View.{view}
use Rattle.edit_core.specs.Matching.{is_open, taken}
use Rattle.node_core.specs.View.{labelled, items}
use Rattle.reconcile_core.specs.Slots.{same_in, slots_of, slot_values}
use Rattle.reconcile_core.proofs.Plainness.{plain-item}
use Rattle.reconcile_core.proofs.Matchings.{slot-passed, slot-taken, all-passed, one-stands}
use Rattle.reconcile_core.proofs.matching.take_first.Goals as goal

pub takes-requires : goal.takes-requires
takes-requires c = record { plain = plain-item c.args.news.now c.loop-k.k c.index-news-k.result c.requires.plain c.index-news-k.is (omega arith) }

pub returns-then-takes-clause-taken : goal.returns-then-takes-clause-taken
returns-then-takes-clause-taken c = λ old eo.
    let stands : slice_get (items c.args.olds.now) c.args.i ≡ Some (labelled c.index-olds-i.result) = one-stands c.args.olds.now c.args.i c.index-olds-i.result c.index-olds-i.is c.requires.within in
    let it : labelled c.index-olds-i.result ≡ old = cc in
    let holds : (is_open (option_map labelled (option_copied c.slot_at-slot.result)) && same_in c.args.types.now.table c.args.t old (view c.index-news-k.result)) ≡ true =
    ap (λ x. is_open (option_map labelled (option_copied c.slot_at-slot.result)) && same_in c.args.types.now.table c.args.t x (view c.index-news-k.result)) (sym it) ∙ sym c.takes.ensures ∙ c.if-takes.true in
    let lengths : length c.loop-k.slots ≡ length c.args.news.now = ap length c.loop-k.invariant.0 ∙ c.requires.count in
    rw c.set.ensures
    (slot-taken (same_in c.args.types.now.table c.args.t) (items c.args.olds.now) old c.args.i c.args.news.now c.loop-k.slots c.loop-k.k c.index-news-k.result _ eo c.index-news-k.is c.slot_at-slot.ensures (omega arith) (omega (arith, lengths)) holds
    ∙ sym (c.loop-k.invariant.1 old eo)
    ∙ ap (λ slots. taken (same_in c.args.types.now.table c.args.t) old (slots_of (map view c.args.news.now) (slot_values (items c.args.olds.now) slots))) c.loop-k.invariant.0)

pub loop-k-preserved : goal.loop-k-preserved
loop-k-preserved c = (
  c.loop-k.invariant.0,
  λ old eo.
      let stands : slice_get (items c.args.olds.now) c.args.i ≡ Some (labelled c.index-olds-i.result) = one-stands c.args.olds.now c.args.i c.index-olds-i.result c.index-olds-i.is c.requires.within in
      let it : labelled c.index-olds-i.result ≡ old = cc in
      let fails : (is_open (option_map labelled (option_copied c.slot_at-slot.result)) && same_in c.args.types.now.table c.args.t old (view c.index-news-k.result)) ≡ false =
      ap (λ x. is_open (option_map labelled (option_copied c.slot_at-slot.result)) && same_in c.args.types.now.table c.args.t x (view c.index-news-k.result)) (sym it) ∙ sym c.takes.ensures ∙ c.if-takes.false in
      let lengths : length c.loop-k.slots ≡ length c.args.news.now = ap length c.loop-k.invariant.0 ∙ c.requires.count in
      rw add-one (c.loop-k.invariant.1 old eo
      ∙ slot-passed (same_in c.args.types.now.table c.args.t) (items c.args.olds.now) old c.args.news.now c.loop-k.slots c.loop-k.k c.index-news-k.result _ c.index-news-k.is c.slot_at-slot.ensures (omega arith) (omega (arith, lengths)) fails),
)

pub returns-clause-taken : goal.returns-clause-taken
returns-clause-taken c = λ old eo.
    let lengths : length c.loop-k.slots ≡ length c.args.news.now = ap length c.loop-k.invariant.0 ∙ c.requires.count in
    sym (all-passed (same_in c.args.types.now.table c.args.t) (items c.args.olds.now) old c.args.news.now c.loop-k.slots c.loop-k.k c.loop-k-test.false lengths)
    ∙ sym (c.loop-k.invariant.1 old eo)
    ∙ ap (λ slots. taken (same_in c.args.types.now.table c.args.t) old (slots_of (map view c.args.news.now) (slot_values (items c.args.olds.now) slots))) c.loop-k.invariant.0

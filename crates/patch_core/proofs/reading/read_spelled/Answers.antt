-- The first item that isn't read decides; every other one is read behind those before it.
use Rattle.std.proofs.Common.{◌≡◌, ◌∙◌, ◌+◌, ◌++◌, List, drop, map, None, sym, subst}
use Rattle.std.specs.Prelude.{All}
use Rattle.std.specs.Option.{option_map}
use Rattle.std.proofs.lemmas.Result.{err_from_is_err_and}
use Rattle.std.proofs.lemmas.List.Elements.{All-push}
use Rattle.snap_core.specs.Value.{Items, AreOrdered}
use Rattle.snap_core.specs.View.{view, items_view}
use Rattle.patch_core.specs.Reading.{spellings_of, spelling_for}
use Rattle.patch_core.specs.declared.patch.Patch.{Patch}
use Rattle.patch_core.proofs.Readings.{left_part, refused_here, read_more}
use Rattle.patch_core.proofs.reading.read_spelled.Goals as goal

pub returns-in_err-read_patch-clause-err : goal.returns-in_err-read_patch-clause-err
returns-in_err-read_patch-clause-err c =
    let p = err_from_is_err_and c.from_residual.result c.from_residual.ensures.1 in
    let left = left_part c.args.items.now c.loop-item.item-index c.item-item.result c.loop-item-test.true c.item-item.is in
    let P : Items → Type 0 = λ ps. option_map (λ later. map spelling_for c.loop-item.patches ++ later) (spellings_of ps) ≡ spellings_of (items_view c.args.items.now) in
    rw (p.1, p.2) (refused_here c.loop-item.patches (view c.item-item.result) (items_view (drop (c.loop-item.item-index + 1) c.args.items.now)) (spellings_of (items_view c.args.items.now)) c.in_err-read_patch.field-0.0 (subst P left c.loop-item.invariant.spelled) c.requires.spelled c.in_err-read_patch.ensures.err)

pub loop-item-preserved : goal.loop-item-preserved
loop-item-preserved c =
    let left = left_part c.args.items.now c.loop-item.item-index c.item-item.result c.loop-item-test.true c.item-item.is in
    let P : Items → Type 0 = λ ps. option_map (λ later. map spelling_for c.loop-item.patches ++ later) (spellings_of ps) ≡ spellings_of (items_view c.args.items.now) in
    let Q : Items → Type 0 = λ ps. AreOrdered ps in
    let R : List Patch → Type 0 = λ ps. option_map (λ later. map spelling_for ps ++ later) (spellings_of (items_view (drop (c.loop-item.item-index + 1) c.args.items.now))) ≡ spellings_of (items_view c.args.items.now) in
    let S : List Patch → Type 0 = λ ps. All (λ p. p.old ≡ None) ps in
    let pushed = sym c.in_ok-push.ensures.ok in
    let rest = subst Q left c.loop-item.invariant.ordered in
    record {
      ordered = rest.1;
      spelled = subst R pushed (read_more c.loop-item.patches c.in_ok-read_patch.field-0 (view c.item-item.result) (items_view (drop (c.loop-item.item-index + 1) c.args.items.now)) c.in_ok-read_patch.ensures.ok ∙ subst P left c.loop-item.invariant.spelled);
      no_old = subst S pushed (All-push (λ p. p.old ≡ None) c.loop-item.patches c.in_ok-read_patch.field-0 c.loop-item.invariant.no_old c.in_ok-read_patch.ensures.old);
    }

use Rattle.std.proofs.Common.{◌≡◌, map, subst, List, sym, ◌∙◌}
use Rattle.std.proofs.lemmas.Iterator.Adapters.{YieldsList-from_vec}
use Rattle.std.proofs.lemmas.Iterator.Consumers.{YieldsList-end}
use Rattle.std.proofs.lemmas.List.{map-id}
use Rattle.snap_core.specs.View.{view}
use Rattle.answer_ops.specs.declared.value.Value.{Value}
use Rattle.live_tree.specs.Contents.{state}
use Rattle.schema_views.specs.Answering.{path_in}
use Rattle.schema_views.proofs.Listing.{told_by, all-told}
use Rattle.schema_views.proofs.answer.+show.Goals as goal

pub show_answers-returns : goal.show_answers-returns
show_answers-returns t c =
    let path = path_in (state c.args.tree.now).tree in
    let items = c.into_vec-answer-items.result in
    let gives = c.into_iter-answer-iterator.ensures.into_iter_gives in
    let yields = YieldsList-from_vec {s = c.into_iter-answer-iterator.result} items.items gives.0 (gives.1 ∙ items.ok.0) in
    let ended = YieldsList-end yields c.loop-answer.yielded c.loop-answer.answer-iterator c.loop-answer.yielded_by c.next.result c.next.new.self c.in-None.is c.next.ensures.steps in
    let whole : c.loop-answer.yielded ≡ c.args.answers = sym (map-id c.loop-answer.yielded) ∙ ended.0 ∙ c.into_vec-answer-items.ensures in
    let P : List Value → Type 0 = λ xs. map view c.loop-answer.shown ≡ map (told_by path) xs in
    all-told path c.args.answers c.loop-answer.shown (subst P whole c.loop-answer.invariant)

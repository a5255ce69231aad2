-- The answers so far are told.
use Rattle.std.proofs.Common.{◌≡◌, map}
use Rattle.snap_core.specs.View.{view}
use Rattle.live_tree.specs.Contents.{state}
use Rattle.schema_views.specs.Answering.{path_in}
use Rattle.schema_views.proofs.Listing.{told_by}
use Rattle.schema_views.proofs.answer.+show.Given as goal

abbrev pub invariant-show_answers-loop-answer : goal.invariant-show_answers-loop-answer
invariant-show_answers-loop-answer l = map view l.shown ≡ map (told_by (path_in (state l.tree).tree)) l.yielded

use Rattle.std.proofs.Common.{sym}
use Rattle.std.proofs.lemmas.List.FromFn.{length-map-range_with_len}
use Rattle.view_engine.proofs.items.Items.len.Goals as goal

pub returns-in-Array : goal.returns-in-Array
returns-in-Array c = λ whole. rw c.in-Array.is (sym (length-map-range_with_len _ 0 c.in-Array.len))

pub returns-in-Map : goal.returns-in-Map
returns-in-Map c = λ whole. rw c.in-Map.is (sym (length-map-range_with_len _ 0 c.in-Map.len))

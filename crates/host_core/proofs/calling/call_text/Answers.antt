use Rattle.std.proofs.Common.{subst}
use Rattle.snap_core.specs.Value.{Value, ArePlainMembers, IsPlain}
use Rattle.snap_core.specs.View.{fields_view}
use Rattle.snap_core.proofs.Views.{view-Dict}
use Rattle.host_core.proofs.Called.{plain_keyed, seen_plain}
use Rattle.host_core.proofs.calling.call_text.Goals as goal

pub call_among-requires : goal.call_among-requires
call_among-requires c =
    let P : Value → Type 0 = λ v. IsPlain v in
    let plain : ArePlainMembers (fields_view c.in-Dict.fields) = subst P (view-Dict c.in-Dict.fields) (rw c.in-Dict.is at c.requires) in
    rw c.as_slice.ensures (plain_keyed (fields_view c.in-Dict.fields) plain)

pub returns-in-Dict-clause-plain : goal.returns-in-Dict-clause-plain
returns-in-Dict-clause-plain c =
    let P : Value → Type 0 = λ v. IsPlain v in
    let plain : ArePlainMembers (fields_view c.in-Dict.fields) = subst P (view-Dict c.in-Dict.fields) (rw c.in-Dict.is at c.requires) in
    seen_plain (fields_view c.in-Dict.fields) c.call_among.result plain (rw c.as_slice.ensures at c.call_among.ensures)

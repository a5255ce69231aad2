use Rattle.std.proofs.Common.{sym}
use Rattle.std.proofs.lemmas.Option.{slice_get-get_or}
use Rattle.snap_core.proofs.lookup.find.Goals as goal

pub returns-in-Some : goal.returns-in-Some
returns-in-Some c =
    record { found = sym (c.in-Some.ensures.found _ (slice_get-get_or c.args.fields.now c.in-Some.at c.index-fields-at.result c.in-Some.ensures.within)) }

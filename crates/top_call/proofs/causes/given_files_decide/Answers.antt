-- Each law follows from how a run ends.
use Rattle.top_call.proofs.StatusLaws.{unfit-law, too_long-law, absent-law}
use Rattle.top_call.proofs.causes.given_files_decide.Goals as goal

pub returns : goal.returns
returns c = record { unfit = unfit-law; too_long = too_long-law; absent = absent-law }

use Rattle.std.proofs.Common.{◌∙◌, rules, tests}
use Rattle.std.proofs.lemmas.Iterator.{YieldsList-from_slice}
use Rattle.std.proofs.lemmas.Iterator.Search.{all_from_yields_List}
use Rattle.snap_core.specs.declared.snap.Field.{Field}
use Rattle.host_core.specs.Calling.{is_call_key}
use Rattle.host_core.proofs.Called.{keys_all}
use Rattle.host_core.proofs.calling.are_call_keys.Goals as goal

pub returns : goal.returns
returns c =
    all_from_yields_List (λ (f : Field). is_call_key f.key) _ _ _ c.all.ensures.ran (YieldsList-from_slice c.args.fields.now cc) (λ x b q k. search (rules, tests))
    ∙ keys_all is_call_key c.args.fields.now

use Rattle.std.proofs.Common.{Some}
use Rattle.std.proofs.lemmas.Map.Text.{btree_map_updates_str}
use Rattle.type_table.proofs.TakenLemmas.{has-text_more}
use Rattle.type_table.proofs.scalar_set.ScalarSet.insert_text.Goals as goal

pub returns : goal.returns
returns c =
    has-text_more c.args.self.now c.insert.new.self c.args.given.now
    (btree_map_updates_str c.args.given.now c.args.self.now.texts c.insert.new.self (Some tt) c.in_ok-insert.ensures.updates)

-- What the code's types stand for.
use Rattle.std.specs.Prelude.{Option}
use Rattle.std.specs.Borrow.{Bor}
use Rattle.std.specs.Option.{option_copied, option_map}
use Rattle.snap_core.specs.declared.number.TypeNo.{TypeNo}
use Rattle.node_core.specs.View.{labelled, way}
use Rattle.node_core.specs.declared.labelled.Labelled.{Labelled}
use Rattle.eval_core.specs.Answer.{Answer}
use Rattle.answer_ops.specs.View.{answer_of}
use Rattle.answer_writing.specs.declared.giving.Giving as coded
use Rattle.answer_writing.specs.declared.giving.Giving.TheVariants as gives
use Rattle.answer_writing.specs.declared.manner.Manner.{Manner}
use Rattle.answer_writing.specs.declared.manner.Manner.TheVariants as manner
use Rattle.answer_writing.specs.declared.taking.Taking as takes
use Rattle.answer_writing.specs.declared.placing.Site as sites
use Rattle.answer_writing.specs.Taking.{Taking, Aim}
use Rattle.answer_writing.specs.Giving.{Giving, sets, inserts, removes, Site}

abbrev pub giving_of : coded.Giving → Giving
giving_of (gives.Set x) = sets (answer_of x)
giving_of (gives.Insert x) = inserts (answer_of x)
giving_of gives.Remove = removes

-- an answer that is given in a manner
abbrev pub in_manner : Manner → Answer → Giving
in_manner manner.Set x = sets x
in_manner manner.Insert x = inserts x

abbrev pub taking : takes.Taking → Taking
taking t = record { types = t.types.now; root = labelled t.root.now }

-- where an answer goes, by the type there and what stands there
abbrev pub aim : TypeNo → Option (Bor Labelled) → Aim
aim t held = record { type = t.0; held = option_map labelled (option_copied held) }

abbrev pub site : sites.Site → Site
site s = record { root = labelled s.root.now; way = way s.way.now; node = labelled s.node.now }

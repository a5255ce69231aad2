use Rattle.std.proofs.Common.{◌≡◌, ◌≤◌, ap, ◌∙◌, arith}
use Rattle.serde_json.specs.Data.{depth}
use Rattle.serde_json.specs.View.{view as data_view}
use Rattle.serde_json.specs.Written.{has_float, compact_text}
use Rattle.snap_core.specs.View.{view}
use Rattle.snap_json.specs.Printing.{data_of}
use Rattle.snap_json.specs.Reading.{reading, value_of, found}
use Rattle.snap_json.proofs.Readings.{reading-utf8}
use Rattle.snap_json.proofs.Printings.{built_of-plain, has_float-data_of, depth-data_of, value_of-data_of}
use Rattle.snap_json.proofs.print.print_snap.Goals as goal

pub returns-clause-text : goal.returns-clause-text
returns-clause-text c =
    let v = view c.args.snap.now in
    let seen : data_view c.in_ok-value_of.field-0 ≡ data_of v = c.in_ok-value_of.ensures ∙ built_of-plain v c.requires in
    c.from_vec.ensures ∙ c.in_ok-text.ensures.text (ap has_float seen ∙ has_float-data_of v) ∙ ap compact_text seen

pub returns-clause-reads_back : goal.returns-clause-reads_back
returns-clause-reads_back c shallow =
    let v = view c.args.snap.now in
    let seen : data_view c.in_ok-value_of.field-0 ≡ data_of v = c.in_ok-value_of.ensures ∙ built_of-plain v c.requires in
    let bound : depth (data_view c.in_ok-value_of.field-0) ≤ 127 = omega (arith, ap depth seen, depth-data_of v) in
    ap reading c.from_vec.ensures ∙ reading-utf8 c.in_ok-text.text.items (data_view c.in_ok-value_of.field-0) c.in_ok-text.ensures.utf8 (c.in_ok-text.ensures.reads_back bound)
    ∙ ap found (ap value_of seen ∙ value_of-data_of v c.requires)

use Rattle.std.proofs.Common.{◌+◌, drop, get_or, true, false, sym, ap, ◌∙◌}
use Rattle.std.proofs.lemmas.List.{drop_more, drop_all}
use Rattle.snap_core.specs.View.{view}
use Rattle.type_table.specs.Unions as unions
use Rattle.type_table.proofs.Tagging.{tagged-next}
use Rattle.type_table.proofs.unions.model_tagged.Goals as goal

pub returns-then-is_tagged : goal.returns-then-is_tagged
returns-then-is_tagged c =
    let l = c.loop-t in
    let table = c.args.table.now in
    let ts = c.args.members.now in
    let tag = c.args.tag.now in
    let v = view c.args.value.now in
    sym (sym l.invariant ∙ ap (λ us. unions.tagged table (unions.models_of table us) tag v) (drop_more ts l.t-index (record { 0 = 0 }) c.loop-t-test.true)
    ∙ tagged-next table (get_or ts l.t-index (record { 0 = 0 })) (drop (l.t-index + 1) ts) tag v true (sym c.is_tagged.ensures ∙ c.if-is_tagged.true))

pub loop-t-preserved : goal.loop-t-preserved
loop-t-preserved c =
    let l = c.loop-t in
    let table = c.args.table.now in
    let ts = c.args.members.now in
    let tag = c.args.tag.now in
    let v = view c.args.value.now in
    sym (sym l.invariant ∙ ap (λ us. unions.tagged table (unions.models_of table us) tag v) (drop_more ts l.t-index (record { 0 = 0 }) c.loop-t-test.true)
    ∙ tagged-next table (get_or ts l.t-index (record { 0 = 0 })) (drop (l.t-index + 1) ts) tag v false (sym c.is_tagged.ensures ∙ c.if-is_tagged.false))

pub returns : goal.returns
returns c =
    let l = c.loop-t in
    let table = c.args.table.now in
    sym (ap (λ us. unions.tagged table (unions.models_of table us) c.args.tag.now (view c.args.value.now)) (drop_all l.t-index c.args.members.now c.loop-t-test.false)) ∙ l.invariant

use Rattle.std.proofs.Common.{◌≡◌, Some, sym, ap, ◌∙◌}
use Rattle.snap_core.specs.View.{view}
use Rattle.type_table.specs.Table.{Table}
use Rattle.type_table.specs.Unions.{chosen}
use Rattle.type_core.specs.Judging.{judged_by}
use Rattle.type_core.proofs.Following.{judged_by-union}
use Rattle.type_core.proofs.judging.judged_by_member.Goals as goal

pub returns : goal.returns
returns c =
    let v = view c.args.given.now in
    let ms = c.args.members.now in
    let choice : Some c.in_ok-member.member ≡ chosen c.args.types.now ms v = sym c.in_ok-member.was ∙ c.choose.ensures ∙ ap (λ (t : Table). chosen t ms v) c.tagged.ensures.types in
    let union = judged_by-union c.args.types.now c.tagged.ensures.loopless v c.args.t.0 ms (Some c.in_ok-member.member) c.requires.union choice in
    c.judged_in_steps.ensures ∙ ap (λ (t : Table). judged_by t v c.behind.result.0) c.tagged-2.ensures.types ∙ sym (union ∙ c.behind.ensures)

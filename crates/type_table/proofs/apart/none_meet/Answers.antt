use Rattle.std.proofs.Common.{◌≡◌, ◌∷◌, map, true, false, sym, ap, ◌∙◌, subst}
use Rattle.std.specs.List.{list_any}
use Rattle.snap_core.specs.declared.number.TypeNo.{TypeNo}
use Rattle.type_table.specs.Names.{shape_by}
use Rattle.type_table.specs.Unions as unions
use Rattle.type_table.specs.Taking.{AreTaken}
use Rattle.type_table.proofs.ApartLemmas.{ArePassed-none, ArePassed-more, meets-passed, ArePassed-all}
use Rattle.type_table.proofs.apart.none_meet.Goals as goal

pub returns-then-meets : goal.returns-then-meets
returns-then-meets c =
    let table = c.args.table.now in
    let scalars : TypeNo → unions.Scalars = λ t. unions.scalars_of table (shape_by table t.0) in
    let p = c.loop-t.invariant in
    let same = c.scalars_of-scalars.ensures ∙ ap (unions.scalars_of table) c.named_shape.ensures in
    let P : unions.Scalars → Type 0 = λ s. list_any (unions.do_meet s) (map scalars p.passed) ≡ true in
    meets-passed scalars c.args.members.now c.loop-t.rest.now c.in-Some.t.now c.in-Some.before.now c.in-Some.ensures.cases.0 c.loop-t.taken p
    (subst P same (sym (c.meets.ensures (map scalars p.passed) p.known) ∙ c.if-meets.true))

pub loop-t-preserved : goal.loop-t-preserved
loop-t-preserved c =
    let table = c.args.table.now in
    let scalars : TypeNo → unions.Scalars = λ t. unions.scalars_of table (shape_by table t.0) in
    let p = c.loop-t.invariant in
    let same = c.scalars_of-scalars.ensures ∙ ap (unions.scalars_of table) c.named_shape.ensures in
    let P : unions.Scalars → Type 0 = λ s. list_any (unions.do_meet s) (map scalars p.passed) ≡ false in
    let Q : unions.Scalars → Type 0 = λ s. AreTaken c.add.new.self (s ∷ map scalars p.passed) in
    ArePassed-more scalars c.args.members.now c.loop-t.rest.now c.in-Some.t.now c.in-Some.before.now c.in-Some.ensures.cases.0 c.loop-t.taken c.add.new.self p
    (subst P same (sym (c.meets.ensures (map scalars p.passed) p.known) ∙ c.if-meets.false))
    (subst Q same (c.in_ok-add.ensures (map scalars p.passed) p.known))

pub loop-t-init : goal.loop-t-init
loop-t-init c =
    let table = c.args.table.now in
    ArePassed-none (λ t. unions.scalars_of table (shape_by table t.0)) c.args.members.now c.new-taken.result c.new-taken.ensures

pub returns : goal.returns
returns c =
    let table = c.args.table.now in
    ArePassed-all (λ t. unions.scalars_of table (shape_by table t.0)) c.args.members.now c.loop-t.rest.now c.loop-t.taken c.loop-t.invariant c.in_default.ensures.cases

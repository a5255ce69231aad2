use Rattle.std.proofs.Common.{◌≡◌, map, Bool, true, false, Option, subst}
use Rattle.snap_core.specs.Value.{Value}
use Rattle.snap_core.specs.declared.number.TypeNo.{TypeNo}
use Rattle.snap_core.specs.declared.number.ModelNo.{ModelNo}
use Rattle.type_table.specs.Unions as unions
use Rattle.type_table.specs.Literals.{AddsLiteral}
use Rattle.type_table.proofs.ApartLemmas.{AreTold-none, AreTold-more, same-passed, AreTold-all}
use Rattle.type_table.proofs.tags.tells_apart.Goals as goal

pub returns-then-not-branch : goal.returns-then-not-branch
returns-then-not-branch c =
    let literal : TypeNo × ModelNo → Option Value = λ m. unions.literal_at c.args.table.now c.args.name.now m.1 in
    let p = c.loop-m.invariant in
    let off : c.in_ok-add_literal.field-0 ≡ false = c.if-not-branch.true in
    let P : Bool → Type 0 = λ b. AddsLiteral b c.add_literal.new.literals (literal c.in-Some.m.now) (map literal p.passed) in
    let Q : Option Value → Type 0 = λ o. AddsLiteral c.in_ok-add_literal.field-0 c.add_literal.new.literals o (map literal p.passed) in
    same-passed literal c.args.models.now c.loop-m.rest.now c.in-Some.m.now c.in-Some.before.now c.in-Some.ensures.cases.0 c.loop-m.literals c.add_literal.new.literals p
    (subst P off (subst Q c.literal_at.ensures (c.in_ok-add_literal.ensures (map literal p.passed) p.known)))

pub loop-m-preserved : goal.loop-m-preserved
loop-m-preserved c =
    let literal : TypeNo × ModelNo → Option Value = λ m. unions.literal_at c.args.table.now c.args.name.now m.1 in
    let p = c.loop-m.invariant in
    let on : c.in_ok-add_literal.field-0 ≡ true = c.if-not-branch.false in
    let P : Bool → Type 0 = λ b. AddsLiteral b c.add_literal.new.literals (literal c.in-Some.m.now) (map literal p.passed) in
    let Q : Option Value → Type 0 = λ o. AddsLiteral c.in_ok-add_literal.field-0 c.add_literal.new.literals o (map literal p.passed) in
    AreTold-more literal c.args.models.now c.loop-m.rest.now c.in-Some.m.now c.in-Some.before.now c.in-Some.ensures.cases.0 c.loop-m.literals c.add_literal.new.literals p
    (subst P on (subst Q c.literal_at.ensures (c.in_ok-add_literal.ensures (map literal p.passed) p.known)))

pub loop-m-init : goal.loop-m-init
loop-m-init c =
    AreTold-none (λ m. unions.literal_at c.args.table.now c.args.name.now m.1) c.args.models.now c.new-literals.result c.new-literals.ensures

pub returns : goal.returns
returns c =
    AreTold-all (λ m. unions.literal_at c.args.table.now c.args.name.now m.1) c.args.models.now c.loop-m.rest.now c.loop-m.literals c.loop-m.invariant c.in_default.ensures.cases

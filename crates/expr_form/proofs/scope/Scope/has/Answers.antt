-- Among the names that were looked at it isn't.
use Rattle.std.proofs.Common.{◌≡◌, ℕ, ◌+◌, ◌-◌, List, drop, length, true, false, refl, sym, ◌∙◌, ap, subst, arith}
use Rattle.std.proofs.lemmas.List.{drop_all}
use Rattle.std.proofs.lemmas.List.Folds.{list_any_at}
use Rattle.std.specs.Str.{bytes_eq}
use Rattle.expr_form.specs.Scope.{is_among}
use Rattle.expr_form.proofs.Among.{among-back}
use Rattle.expr_form.proofs.scope.Scope.has.Goals as goal

pub loop-left-init : goal.loop-left-init
loop-left-init c =
    let names = c.as_slice-names.result.now in
    (omega arith, ap (λ ns. is_among ns c.args.name.now) (drop_all (length names) names (omega arith)))

pub returns-then-eq : goal.returns-then-eq
returns-then-eq c =
    let names = c.as_slice-names.result.now in
    let name = c.args.name.now in
    let item = c.index-names-left.result in
    let same : bytes_eq name item ≡ true = ap (bytes_eq name) (sym c.text.ensures) ∙ sym c.eq.ensures ∙ c.if-eq.true in
    let held : is_among names name ≡ true =
    list_any_at (bytes_eq name) names (c.loop-left.left - 1) item (omega (arith, c.loop-left.invariant.0, c.loop-left-test.true)) (ap (bytes_eq name) (sym c.index-names-left.is) ∙ same) in
    sym (ap (λ ns. is_among ns name) (sym (c.as_slice-names.ensures ∙ c.self.view_is)) ∙ held)

pub loop-left-preserved : goal.loop-left-preserved
loop-left-preserved c =
    let names = c.as_slice-names.result.now in
    let name = c.args.name.now in
    let left = c.loop-left.left in
    let other : bytes_eq name c.index-names-left.result ≡ false = ap (bytes_eq name) (sym c.text.ensures) ∙ sym c.eq.ensures ∙ c.if-eq.false in
    let one_on : left ≡ (left - 1) + 1 = omega (arith, c.loop-left-test.true) in
    let P : ℕ → Type 0 = λ n. is_among (drop n names) name ≡ false in (
      omega (arith, c.loop-left.invariant.0),
      among-back name names (left - 1) c.index-names-left.result (omega (arith, c.loop-left.invariant.0, c.loop-left-test.true)) c.index-names-left.is other (subst P one_on c.loop-left.invariant.1),
    )

pub returns : goal.returns
returns c =
    let names = c.as_slice-names.result.now in
    let name = c.args.name.now in
    let none : c.loop-left.left ≡ 0 = omega (arith, c.loop-left-test.false) in
    let P : ℕ → Type 0 = λ n. is_among (drop n names) name ≡ false in
    sym (ap (λ ns. is_among ns name) (sym (c.as_slice-names.ensures ∙ c.self.view_is)) ∙ subst P none c.loop-left.invariant.1)

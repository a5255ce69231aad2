use Rattle.std.proofs.Common.{◌≡◌, codes, true, false, sym, ◌∙◌, ap}
use Rattle.std.specs.Str.{bytes_eq}
use Rattle.snap_core.specs.View.{view, fields_view}
use Rattle.expr_form.specs.Models.{target_of}
use Rattle.expr_form.specs.Outcome.{under, made}
use Rattle.expr_form.proofs.Telling.{tells-same, tells-made, tells-lowered}
use Rattle.model_syntax.specs.Shown.{middleware_shown, atomic}
use Rattle.model_syntax.specs.declared.behaviour.Surrounded.{Surrounded}
use Rattle.behaviour_form.specs.Middleware.{surrounded_read, protect_read, keyed_read}
use Rattle.behaviour_form.proofs.Keyed.{keyed-atomic, keyed-protect}
use Rattle.behaviour_form.proofs.middleware.read_keyed.Goals as goal

pub returns-then-eq-clause-reads : goal.returns-then-eq-clause-reads
returns-then-eq-clause-reads c =
    let look = target_of (fields_view c.args.types.now) c.args.targets.now in
    let names = c.args.scope.now in
    let k = c.args.field.now.key in
    let v = view c.args.field.now.value in
    let o = made atomic (surrounded_read v) in
    let is : bytes_eq k (codes "atomic") ≡ true = ap (λ t. bytes_eq t (codes "atomic")) (sym c.text-key.ensures) ∙ sym c.eq.ensures ∙ c.if-eq.true in
    tells-same middleware_shown c.under.result (under c.text-key.result.now o) (keyed_read look names k v)
    (keyed-atomic look names k v is ∙ ap (λ t. under t o) (sym c.text-key.ensures))
    (tells-lowered middleware_shown c.text-key.result.now c.atomic_from-atomic.result c.under.result o c.under.ensures
    (tells-made (λ (around : Surrounded). around) middleware_shown atomic c.read_surrounded-around.result c.atomic_from-atomic.result (surrounded_read v) c.atomic_from-atomic.ensures c.read_surrounded-around.ensures))

pub returns-then-eq-2-clause-reads : goal.returns-then-eq-2-clause-reads
returns-then-eq-2-clause-reads c =
    let look = target_of (fields_view c.args.types.now) c.args.targets.now in
    let names = c.args.scope.now in
    let k = c.args.field.now.key in
    let v = view c.args.field.now.value in
    let o = protect_read look names v in
    let other : bytes_eq k (codes "atomic") ≡ false = ap (λ t. bytes_eq t (codes "atomic")) (sym c.text-key.ensures) ∙ sym c.eq.ensures ∙ c.if-eq.false in
    let is : bytes_eq k (codes "protect") ≡ true = ap (λ t. bytes_eq t (codes "protect")) (sym c.text-key.ensures) ∙ sym c.eq-2.ensures ∙ c.if-eq-2.true in
    tells-same middleware_shown c.under-then-eq-2.result (under c.text-key.result.now o) (keyed_read look names k v)
    (keyed-protect look names k v other is ∙ ap (λ t. under t o) (sym c.text-key.ensures))
    (tells-lowered middleware_shown c.text-key.result.now c.read_protect-protect.result c.under-then-eq-2.result o c.under-then-eq-2.ensures c.read_protect-protect.ensures.reads)

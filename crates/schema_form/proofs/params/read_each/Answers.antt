use Rattle.std.proofs.Common.{◌≡◌, ◌+◌, ◌∷◌, ◌++◌, ℕ, [], List, decimal, drop, sym, ◌∙◌, ap, subst}
use Rattle.std.proofs.lemmas.Result.{IfOk-at_ok}
use Rattle.snap_core.specs.View.{view, items_view, fields_view}
use Rattle.snap_core.specs.declared.number.ModelNo.{ModelNo}
use Rattle.model_syntax.specs.declared.behaviour.Param.{Param}
use Rattle.schema_form.specs.Faults.{under, param_faults, params_from, with_name}
use Rattle.schema_form.specs.Entries.{param_in}
use Rattle.schema_form.specs.Modelled.{Params, with_param, with_params}
use Rattle.schema_form.specs.Setting.{names_of}
use Rattle.schema_form.proofs.Ahead.{items-ahead, items-end}
use Rattle.schema_form.proofs.Finding.{handed-on, Tells-more, rest_has_all}
use Rattle.expr_form.specs.declared.fault.Fault.{Fault}
use Rattle.std.specs.Prelude.{IfOk}
use Rattle.schema_form.specs.Outcome.{Tells, Finds}
use Rattle.schema_form.proofs.params.read_each.Goals as goal

pub returns-clause-finds : goal.returns-clause-finds
returns-clause-finds c =
    let l = c.loop-index in
    let types = fields_view c.args.by.now.types.now in
    l.invariant.faults ∙ ap (params_from types (names_of l.params) l.index) (items-end c.args.items.now l.index c.loop-index-test.false)

pub returns-clause-ok : goal.returns-clause-ok
returns-clause-ok c =
    let l = c.loop-index in
    let types = fields_view c.args.by.now.types.now in
    let action : ModelNo × ℕ = (c.args.by.now.model, c.args.action) in
    sym (l.invariant.said ∙ ap (with_params types action (record { expressions = l.expressions; params = l.params })) (items-end c.args.items.now l.index c.loop-index-test.false))

pub loop-index-preserved : goal.loop-index-preserved
loop-index-preserved c =
    let l = c.loop-index in
    let types = fields_view c.args.by.now.types.now in
    let items = c.args.items.now in
    let action : ModelNo × ℕ = (c.args.by.now.model, c.args.action) in
    let v = c.index-items-index.result in
    let names = names_of l.params in
    let rest = items_view (drop (l.index + 1) items) in
    let after = with_name names (param_in (view v)) in
    let ahead = items-ahead items l.index v c.loop-index-test.true c.index-items-index.is in
    let s : Params = record { expressions = l.expressions; params = l.params } in
    let p : Param = c.in_ok-at_index.field-0 in
    let pushed : c.push.new.self ≡ l.params ++ p ∷ [] = c.in_ok-push.ensures.ok in
    let read = c.read_param-param.result in
    let es = c.read_param-param.new.expressions in
    let N : List Param → Type 0 = λ xs. IfOk read (λ q. with_name (names_of xs) (param_in (view v)) ≡ names_of (xs ++ q ∷ [])) in
    let O : List Param → Type 0 = λ xs. IfOk read (λ q. record { expressions = es; params = xs ++ q ∷ [] } ≡ with_param types action (record { expressions = l.expressions; params = xs }) (view v)) in
    let F : List Param → Type 0 = λ xs. Finds read (param_faults types (names_of xs) (view v)) in
    let named : after ≡ names_of (l.params ++ p ∷ []) = IfOk-at_ok (λ q. after ≡ names_of (l.params ++ q ∷ [])) c.in_ok-at_index.ensures.ok (subst N c.as_slice.ensures c.read_param-param.ensures.named) in
    let next : record { expressions = es; params = l.params ++ p ∷ [] } ≡ with_param types action s (view v) =
    IfOk-at_ok (λ q. record { expressions = es; params = l.params ++ q ∷ [] } ≡ with_param types action s (view v)) c.in_ok-at_index.ensures.ok (subst O c.as_slice.ensures c.read_param-param.ensures.ok) in
    record {
      faults = rest_has_all (under (decimal l.index) (param_faults types names (view v))) (params_from types (names_of c.push.new.self) (l.index + 1) rest) (params_from types [] 0 (items_view items))
          (l.invariant.faults ∙ ap (params_from types names l.index) ahead
          ∙ ap (λ ns. under (decimal l.index) (param_faults types names (view v)) ++ params_from types ns (l.index + 1) rest) (named ∙ ap names_of (sym pushed)))
          (c.in_ok-at_index.ensures.finds _ (subst F c.as_slice.ensures c.read_param-param.ensures.finds));
      said = l.invariant.said ∙ ap (with_params types action s) ahead ∙ ap (λ t. with_params types action t rest) (sym next)
          ∙ ap (λ ps. with_params types action (record { expressions = c.read_param-param.new.expressions; params = ps }) rest) (sym pushed);
    }

pub returns-in_err-at_index-clause-finds : goal.returns-in_err-at_index-clause-finds
returns-in_err-at_index-clause-finds c =
    let l = c.loop-index in
    let e = c.in_err-at_index.field-0.0 in
    let types = fields_view c.args.by.now.types.now in
    let items = c.args.items.now in
    let v = c.index-items-index.result in
    let names = names_of l.params in
    let first = under (decimal l.index) (param_faults types names (view v)) in
    let rest = params_from types (with_name names (param_in (view v))) (l.index + 1) (items_view (drop (l.index + 1) items)) in
    let P : List Fault → Type 0 = Tells e in
    let F : List Param → Type 0 = λ xs. Finds c.read_param-param.result (param_faults types (names_of xs) (view v)) in
    handed-on e c.from_residual.result _ c.from_residual.ensures.1
    (subst P (sym (l.invariant.faults ∙ ap (params_from types names l.index) (items-ahead items l.index v c.loop-index-test.true c.index-items-index.is)))
    (Tells-more e first rest (c.in_err-at_index.ensures.finds _ (subst F c.as_slice.ensures c.read_param-param.ensures.finds))))

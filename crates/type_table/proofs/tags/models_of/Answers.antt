use Rattle.std.proofs.Common.{◌+◌, ◌++◌, drop, get_or, sym, ap, ◌∙◌, append-nil}
use Rattle.std.proofs.lemmas.List.{drop_more, drop_all}
use Rattle.type_table.specs.Unions as unions
use Rattle.type_table.proofs.Tagging.{model_before-found}
use Rattle.type_table.proofs.tags.models_of.Goals as goal

pub loop-t-preserved : goal.loop-t-preserved
loop-t-preserved c =
    let l = c.loop-t in
    let table = c.args.table.now in
    let ts = c.args.members.now in
    let t = get_or ts l.t-index (record { 0 = 0 }) in
    let rest = unions.models_of table (drop (l.t-index + 1) ts) in
    ap (λ ms. ms ++ rest) c.in_ok-push_model.ensures ∙ model_before-found t c.model_of.result l.models rest
    ∙ ap (λ x. l.models ++ unions.model_before t x rest) c.model_of.ensures
    ∙ ap (λ us. l.models ++ unions.models_of table us) (sym (drop_more ts l.t-index (record { 0 = 0 }) c.loop-t-test.true)) ∙ l.invariant

pub returns : goal.returns
returns c =
    let l = c.loop-t in
    let ts = c.args.members.now in
    sym (append-nil l.models) ∙ ap (λ us. l.models ++ unions.models_of c.args.table.now us) (sym (drop_all l.t-index ts c.loop-t-test.false)) ∙ l.invariant

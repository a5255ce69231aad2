use Rattle.std.proofs.Common.{◌≡◌, ◌+◌, drop, get_or, sym, ap, ◌∙◌}
use Rattle.std.proofs.lemmas.List.{drop_more, drop_all}
use Rattle.type_table.specs.Unions as unions
use Rattle.type_table.proofs.Tagging.{only_after, only_after-found, only_after-second, only_after-passed, only_after-end}
use Rattle.type_table.proofs.unions.only_model.Goals as goal
use Rattle.type_table.proofs.unions.only_model.Goals.{then-is_some+else-is_some-2, else-is_some}

pub returns-then-is_some-2 : goal.returns-then-is_some-2
returns-then-is_some-2 c =
    let l = c.loop-t in
    let table = c.args.table.now in
    let ts = c.args.members.now in
    let t = get_or ts l.t-index (record { 0 = 0 }) in
    let rest = unions.models_of table (drop (l.t-index + 1) ts) in
    sym (sym l.invariant ∙ ap (λ us. only_after l.only (unions.models_of table us)) (drop_more ts l.t-index (record { 0 = 0 }) c.loop-t-test.true)
    ∙ ap (λ x. only_after l.only (unions.model_before t x rest)) (sym c.model_of.ensures)
    ∙ only_after-second t c.model_of.result l.only rest (sym c.is_some.ensures ∙ c.if-is_some.true) (sym c.is_some-then-is_some.ensures ∙ c.if-is_some-2.true))

pub loop-t-preserved : goal.loop-t-preserved
loop-t-preserved c =
    let l = c.loop-t in
    let table = c.args.table.now in
    let ts = c.args.members.now in
    let t = get_or ts l.t-index (record { 0 = 0 }) in
    let rest = unions.models_of table (drop (l.t-index + 1) ts) in
    let before : only_after l.only (unions.model_before t c.model_of.result rest) ≡ unions.only_model (unions.models_of table ts) =
    ap (λ x. only_after l.only (unions.model_before t x rest)) c.model_of.ensures
    ∙ ap (λ us. only_after l.only (unions.models_of table us)) (sym (drop_more ts l.t-index (record { 0 = 0 }) c.loop-t-test.true)) ∙ l.invariant in
    elim c.if-is_some.branch [
      | then-is_some+else-is_some-2 w ↦
          ap (λ o. only_after o rest) w.only-is
          ∙ sym (only_after-found t c.model_of.result l.only rest (sym c.is_some.ensures ∙ w.if-is_some.true) (sym w.is_some-then-is_some.ensures ∙ w.if-is_some-2.false)) ∙ before
      | else-is_some w ↦ ap (λ o. only_after o rest) w.only-is ∙ sym (only_after-passed t c.model_of.result l.only rest (sym c.is_some.ensures ∙ w.if-is_some.false)) ∙ before
    ]

pub returns : goal.returns
returns c =
    let l = c.loop-t in
    let ts = c.args.members.now in
    sym (only_after-end l.only) ∙ ap (λ us. only_after l.only (unions.models_of c.args.table.now us)) (sym (drop_all l.t-index ts c.loop-t-test.false)) ∙ l.invariant

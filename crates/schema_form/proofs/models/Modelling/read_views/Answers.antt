use Rattle.std.proofs.Common.{◌≡◌, ℕ, ◌∷◌, length, map, codes, Some, sym, ◌∙◌, ap}
use Rattle.snap_core.specs.View.{view}
use Rattle.pointer_core.specs.Path.{Path}
use Rattle.model_syntax.specs.Shown.{view_shown}
use Rattle.schema_form.specs.declared.models.Modelling.{Modelling}
use Rattle.schema_form.specs.Layout.{type_no}
use Rattle.schema_form.specs.Modelled.{earlier}
use Rattle.schema_form.specs.SoFar.{so_far}
use Rattle.schema_form.specs.Told.{outcome_of}
use Rattle.schema_form.proofs.Saying.{length-targets, views-told, views-said, views-astray}
use Rattle.schema_form.proofs.models.Modelling.read_views.Goals as goal

pub read_views-requires-clause-each : goal.read_views-requires-clause-each
read_views-requires-clause-each c = length-targets c.args.by.now c.requires

pub returns-in-Ok-clause-ok : goal.returns-in-Ok-clause-ok
returns-in-Ok-clause-ok c =
    views-said c.args.by.now c.args.expressions.now c.args.self.now _ c.in-Ok.views
    (ap (outcome_of (map view_shown)) (sym c.in-Ok.is)
    ∙ views-told c.args.by.now c.requires (view c.args.value.now) c.read_views.result c.in_ok-views.field-0 c.read_views.ensures c.in_ok-views.ensures)

pub returns-in_ok-under-in-Err-clause-ok : goal.returns-in_ok-under-in-Err-clause-ok
returns-in_ok-under-in-Err-clause-ok c =
    let m = c.args.self.now in
    let es = c.args.expressions.now in
    let made : ℕ → Path → Modelling = λ n p. record {
      properties = m.properties;
      behaviour = m.behaviour;
      astray = earlier m.astray (Some (record { before = type_no n; model = c.args.by.now.model; path = p }));
    } in
    let is : c.stray.new.self ≡ made (length es) (codes "views" ∷ c.in-Err.path) =
    c.stray.ensures ∙ ap (λ (n : ℕ). made n c.in_ok-under-in-Err.field-0) (ap length c.as_slice.ensures) ∙ ap (made (length es)) c.in_ok-under-in-Err.ensures in
    ap (so_far es) is ∙ views-astray c.args.by.now es m _ c.in-Err.path
    (ap (outcome_of (map view_shown)) (sym c.in-Err.is)
    ∙ views-told c.args.by.now c.requires (view c.args.value.now) c.read_views.result c.in_ok-views.field-0 c.read_views.ensures c.in_ok-views.ensures)

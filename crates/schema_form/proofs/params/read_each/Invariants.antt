-- What is left has all the faults, and the parameters that are still to come.
use Rattle.std.proofs.Common.{◌≡◌, ℕ, [], drop}
use Rattle.snap_core.specs.View.{items_view, fields_view}
use Rattle.snap_core.specs.declared.number.ModelNo.{ModelNo}
use Rattle.schema_form.specs.Faults.{params_from}
use Rattle.schema_form.specs.Modelled.{with_params}
use Rattle.schema_form.specs.Setting.{names_of}
use Rattle.schema_form.proofs.params.read_each.Given as goal

abbrev pub invariant-loop-index : goal.invariant-loop-index
invariant-loop-index l =
    let types = fields_view l.by.types.now in
    let rest = items_view (drop l.index l.items) in
    let action : ModelNo × ℕ = (l.by.model, l.action) in
    let first = l.initial in record {
      faults : params_from types [] 0 (items_view l.items) ≡ params_from types (names_of l.params) l.index rest;
      said : with_params types action (record { expressions = first.expressions; params = [] }) (items_view l.items)
          ≡ with_params types action (record { expressions = l.expressions; params = l.params }) rest;
    }

use Rattle.std.proofs.Common.{◌≡◌, List, ℕ, [], ◌∷◌, ◌++◌, length, refl, sym, ◌∙◌, ap}
use Rattle.std.proofs.lemmas.Result.{IfOk-at_ok}
use Rattle.snap_core.specs.View.{view, fields_view}
use Rattle.schema_form.specs.declared.form.Expression.{Expression}
use Rattle.schema_form.specs.declared.form.Place.TheVariants as place
use Rattle.schema_form.specs.declared.form.Kind.TheVariants as kind
use Rattle.schema_form.specs.Entries.{entries}
use Rattle.schema_form.specs.Gathering.{gathered_shown, with_modelled}
use Rattle.schema_form.specs.Modelled.{Modelled, with_parts, unsaid}
use Rattle.schema_form.specs.SoFar.{so_far}
use Rattle.schema_form.proofs.entries.Gathered.read_model.Goals as goal

pub returns-clause-ok : goal.returns-clause-ok
returns-clause-ok c =
    let old = c.args.self.now in
    let g = gathered_shown old in
    let types = fields_view c.args.types.now in
    let parts = entries (view c.args.model.now) in
    let es = c.read_model-inner.new.expressions in
    let all : List Expression → ℕ → Modelled = λ xs m. with_parts (record { types = types; parts = parts; model = record { 0 = m } }) (unsaid xs) parts in
    let own : ℕ → ℕ → Expression = λ e m. record { place = place.Entry (record { 0 = e }); kind = kind.Model (record { 0 = m }) } in
    let said : so_far es c.in_ok-said.said ≡ all c.push.new.self c.len-2.result =
    IfOk-at_ok (λ s. so_far es s ≡ all c.push.new.self c.len-2.result) c.in_ok-said.ensures.ok c.read_model-inner.ensures.ok in
    let begun : c.push.new.self ≡ old.expressions ++ own (length old.entries) (length old.models) ∷ [] =
    c.in_ok-push.ensures.ok ∙ ap (λ e. old.expressions ++ own e c.len-2.result ∷ []) c.len-3.ensures ∙ ap (λ m. old.expressions ++ own (length old.entries) m ∷ []) c.len-2.ensures in
    let state : so_far es c.in_ok-said.said ≡ all (old.expressions ++ own (length old.entries) (length old.models) ∷ []) (length old.models) =
    said ∙ ap (λ xs. all xs c.len-2.result) begun ∙ ap (all (old.expressions ++ own (length old.entries) (length old.models) ∷ [])) c.len-2.ensures in
    c.in_ok-add_model.ensures g refl (sym c.len.ensures) ∙ ap (with_modelled g c.in_ok-name.name) state
    ∙ ap (λ k. with_modelled g k (all (old.expressions ++ own (length old.entries) (length old.models) ∷ []) (length old.models))) c.in_ok-name.ensures.ok

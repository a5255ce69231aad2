-- Where the keys of a file are in order, the constants in the views, actions and middleware of its models are plain.
use Rattle.std.proofs.Common.{◌≡◌, ℕ, List, [], length, map, codes, Option, Some, None, All, if◌then◌else◌, refl, subst}
use Rattle.std.specs.Str.{bytes_eq}
use Rattle.std.proofs.lemmas.List.Elements.{All-nil, All-push, All-map, All-weaker}
use Rattle.snap_core.specs.Value.{Value, value_at, no_members, member, IsOrdered, AreOrderedMembers, Fields}
use Rattle.expr_syntax.specs.Syntax.{done}
use Rattle.plain_answers.specs.Plainness.{HasPlainConstants}
use Rattle.plain_answers.specs.EachExpression.{HoldsInBlock}
use Rattle.model_syntax.specs.Shown.{ShownView, ShownBehaviour, behaviour_shown}
use Rattle.behaviour_form.specs.Named.{is_taken}
use Rattle.behaviour_form.specs.Actions.{action_body_read}
use Rattle.behaviour_form.specs.Middleware.{middleware_read}
use Rattle.behaviour_form.specs.Views.{views_read}
use Rattle.plain_bodies.proofs.Outcomes.{IfReads}
use Rattle.schema_form.specs.declared.form.SchemaForm.{SchemaForm}
use Rattle.schema_form.specs.Entries.{entries, items, model_in, types_of}
use Rattle.schema_form.specs.Targets.{lookup}
use Rattle.schema_form.specs.Modelled.{Within, Modelled, Action, Acting, with_body, with_list, with_action_part, with_action_parts, idle, with_action, with_actions, with_part, with_parts, unsaid}
use Rattle.schema_form.specs.Gathering.{Gathering, model_begun, with_formed, with_entry, with_entries, nothing}
use Rattle.schema_form.specs.Faults.{file_faults}
use Rattle.schema_form.specs.Form.{IsForm}
use Rattle.schema_form.proofs.Orders.{model-ordered}
use Rattle.schema_form.proofs.Growing.{by-part, by-if-one}
use Rattle.schema_form.proofs.ModelSound.{ordered-entries}
use Rattle.schema_form.proofs.Wholeness.{file-types}
use Rattle.expr_core.specs.Plain.{HavePlainConstants, HasPlainAction, HavePlainActions, HasPlainCondition, HavePlainConditions}
use Rattle.expr_core.proofs.Lists.{map-map}
use Rattle.schema_read.proofs.PlainParts.{HasPlainView, read_or-fine, views-fine, body-fine, middleware-fine}

-- the parts of an action, one after another
abbrev HasPlainBody : Acting → Type 0
HasPlainBody s = IfReads s.body (HoldsInBlock HasPlainConstants)

action-part : (a : Action) (s : Acting) (k : List ℕ) (v : Value) → IsOrdered v → HasPlainBody s → HasPlainBody (with_action_part a s k v)
action-part a s k v ordered before =
    let listed : Acting = with_list a.types a.number s (items v) in
    let last : Acting = if bytes_eq k (codes "params") then listed else s in
    by-if-one HasPlainBody (bytes_eq k (codes "body")) (with_body s (action_body_read (lookup a.types) (value_at (codes "params") a.parts) v)) last
    (λ e. body-fine (lookup a.types) (value_at (codes "params") a.parts) v ordered)
    (λ e. by-if-one HasPlainBody (bytes_eq k (codes "params")) listed s (λ d. before) (λ d. before))

action-parts : (a : Action) (s : Acting) (ms : Fields) → AreOrderedMembers ms → HasPlainBody s → HasPlainBody (with_action_parts a s ms)
action-parts a s no_members ordered before = before
action-parts a s (member k v ms) ordered before = action-parts a (with_action_part a s k v) ms ordered.2 (action-part a s k v ordered.0 before)

-- the parts of a model, one after another
record HasPlainParts (b : ShownBehaviour) : Type 0 where
  views : All HasPlainView b.views
  actions : All HasPlainAction b.actions
  middleware : All HasPlainCondition b.middleware

abbrev behaviour_in : Modelled → ShownBehaviour
behaviour_in s = record { views = s.views; actions = s.actions; middleware = s.middleware }

abbrev IsPlainSoFar : Modelled → Type 0
IsPlainSoFar s = HasPlainParts (behaviour_in s)

action-plain : (w : Within) (s : Modelled) (k : List ℕ) (v : Value) → IsOrdered v → IsPlainSoFar s → IsPlainSoFar (with_action w s k v)
action-plain w s k v ordered before =
    let a : Action = record { types = w.types; parts = entries v; number = (w.model, length s.actions) } in
    let read : Acting = with_action_parts a (idle s.expressions) (entries v) in
    let plain : HasPlainBody read = action-parts a (idle s.expressions) (entries v) (ordered-entries v ordered) tt in record {
      views = before.views;
      actions = All-push HasPlainAction s.actions _ before.actions (read_or-fine (HoldsInBlock HasPlainConstants) done read.body plain tt);
      middleware = before.middleware;
    }

actions-plain : (w : Within) (s : Modelled) (ms : Fields) → AreOrderedMembers ms → IsPlainSoFar s → IsPlainSoFar (with_actions w s ms)
actions-plain w s no_members ordered before = before
actions-plain w s (member k v ms) ordered before = actions-plain w (with_action w s k v) ms ordered.2 (action-plain w s k v ordered.0 before)

part-plain : (w : Within) (s : Modelled) (k : List ℕ) (v : Value) → IsOrdered v → IsPlainSoFar s → IsPlainSoFar (with_part w s k v)
part-plain w s k v ordered before =
    let views : All HasPlainView _ =
    read_or-fine (All HasPlainView) s.views (views_read (lookup w.types) (is_taken w.parts) v) (views-fine (lookup w.types) (is_taken w.parts) v ordered) before.views in
    let middleware : All HasPlainCondition _ =
    read_or-fine (All HasPlainCondition) s.middleware (middleware_read (lookup w.types) v) (middleware-fine (lookup w.types) v ordered) before.middleware in
    by-part IsPlainSoFar w s k v (λ e. actions-plain w s (entries v) (ordered-entries v ordered) before)
    (λ e. record { views = before.views; actions = before.actions; middleware = middleware })
    (λ e. record { views = before.views; actions = before.actions; middleware = before.middleware })
    (λ e. record { views = views; actions = before.actions; middleware = before.middleware })
    (λ e. before)

parts-plain : (w : Within) (s : Modelled) (ms : Fields) → AreOrderedMembers ms → IsPlainSoFar s → IsPlainSoFar (with_parts w s ms)
parts-plain w s no_members ordered before = before
parts-plain w s (member k v ms) ordered before = parts-plain w (with_part w s k v) ms ordered.2 (part-plain w s k v ordered.0 before)

-- all models so far
entry-plain : (types : Fields) (g : Gathering) (k : List ℕ) (v : Value) (o : Option Value) → model_in v ≡ o → IsOrdered v
    → All HasPlainParts g.behaviours → All HasPlainParts (with_formed types g (k, v) o).behaviours
entry-plain types g k v None is ordered before = before
entry-plain types g k v (Some model) is ordered before =
    let parts : Fields = entries model in
    let w : Within = record { types = types; parts = parts; model = record { 0 = length g.models } } in
    let begun : Modelled = unsaid (model_begun g) in
    let nothing_said : IsPlainSoFar begun = record { views = All-nil HasPlainView; actions = All-nil HasPlainAction; middleware = All-nil HasPlainCondition } in
    All-push HasPlainParts g.behaviours (behaviour_in (with_parts w begun parts)) before
    (parts-plain w begun parts (ordered-entries model (model-ordered v model is ordered)) nothing_said)

entries-plain : (types : Fields) (g : Gathering) (ms : Fields) → AreOrderedMembers ms → All HasPlainParts g.behaviours → All HasPlainParts (with_entries types g ms).behaviours
entries-plain types g no_members ordered before = before
entries-plain types g (member k v ms) ordered before =
    entries-plain types (with_entry types g k v) ms ordered.2 (entry-plain types g k v (model_in v) refl ordered.0 before)

-- what a file that has this form has
module _ (file : Value) (form : SchemaForm) (ordered : IsOrdered file) (none : file_faults file ≡ []) (is : IsForm file form) where
  all-plain : All HasPlainParts (map behaviour_shown form.behaviours)
  all-plain =
      let types : Fields = types_of file in
      let P : Gathering → Type 0 = λ g. All HasPlainParts g.behaviours in
      let gathered : P (with_entries types nothing types) = entries-plain types nothing types (file-types file ordered none).1 (All-nil HasPlainParts) in
      subst P is.types gathered

  pub form-views-plain : HavePlainConstants (map (λ b. (behaviour_shown b).views) form.behaviours)
  form-views-plain =
      let shown : List ShownBehaviour = map behaviour_shown form.behaviours in
      let P : List (List ShownView) → Type 0 = HavePlainConstants in
      subst P (map-map (λ (b : ShownBehaviour). b.views) behaviour_shown form.behaviours)
      (All-map (All HasPlainView) (λ (b : ShownBehaviour). b.views) shown
      (All-weaker HasPlainParts (λ (b : ShownBehaviour). All HasPlainView b.views) (λ b plain. plain.views) shown all-plain))

  pub form-actions-plain : HavePlainActions (map behaviour_shown form.behaviours)
  form-actions-plain =
      All-weaker HasPlainParts (λ (b : ShownBehaviour). All HasPlainAction b.actions) (λ b plain. plain.actions) (map behaviour_shown form.behaviours) all-plain

  pub form-conditions-plain : HavePlainConditions (map behaviour_shown form.behaviours)
  form-conditions-plain =
      All-weaker HasPlainParts (λ (b : ShownBehaviour). All HasPlainCondition b.middleware) (λ b plain. plain.middleware) (map behaviour_shown form.behaviours) all-plain

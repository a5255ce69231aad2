-- What the parts of a model say, as the walk tells it.
use Rattle.std.proofs.Common.{◌≡◌, ℕ, suc, ◌+◌, ◌<◌, List, [], ◌∷◌, ◌++◌, length, get_or, drop, map, Option, Some, None, Result, Ok, Err, codes, refl, sym, ◌∙◌, ap, subst}
use Rattle.std.specs.Prelude.{nat_le}
use Rattle.std.proofs.lemmas.List.{map-append}
use Rattle.std.proofs.lemmas.Option.{same_Some}
use Rattle.snap_core.specs.declared.number.TypeNo.{TypeNo}
use Rattle.snap_core.specs.declared.number.ModelNo.{ModelNo}
use Rattle.snap_core.specs.declared.snap.Field.{Field}
use Rattle.snap_core.specs.View.{view, items_view, fields_view}
use Rattle.pointer_core.specs.Path.{Path}
use Rattle.expr_syntax.specs.declared.stmt.Block.{Block}
use Rattle.expr_syntax.specs.ShownStatements.{block_shown}
use Rattle.expr_syntax.specs.Syntax.{Statements, done}
use Rattle.model_syntax.specs.declared.behaviour.View.{View}
use Rattle.model_syntax.specs.declared.behaviour.Action as syntax
use Rattle.model_syntax.specs.declared.behaviour.Middleware.{Middleware}
use Rattle.model_syntax.specs.Shown.{ShownView, ShownAction, ShownMiddleware, ShownBehaviour, view_shown, action_shown, middleware_shown, behaviour_shown}
use Rattle.expr_form.specs.Outcome.{Outcome, astray, reads, under}
use Rattle.schema_form.specs.declared.form.Astray.{Astray}
use Rattle.schema_form.specs.declared.form.Expression.{Expression}
use Rattle.schema_form.specs.declared.models.Modelling.{Modelling}
use Rattle.schema_form.specs.declared.setting.Setting.{Setting}
use Rattle.schema_form.specs.declared.actions.Acting as code
use Rattle.schema_form.specs.Entries.{model_in}
use Rattle.expr_form.specs.declared.fault.Trouble.{Trouble}
use Rattle.expr_form.specs.declared.models.Target.{Target}
use Rattle.expr_form.specs.Outcome.{Tells}
use Rattle.expr_form.specs.Models.{target_of}
use Rattle.expr_form.specs.Texts.{pair_in}
use Rattle.behaviour_form.specs.Named.{is_taken}
use Rattle.behaviour_form.specs.Middleware.{middleware_read}
use Rattle.behaviour_form.specs.Views.{views_read}
use Rattle.list_core.specs.declared.parts.Parts.{Parts}
use Rattle.pointer_core.specs.declared.schema_rule.SchemaRule.TheVariants.{Arguments}
use Rattle.snap_core.specs.Level.{count_of}
use Rattle.snap_core.specs.Value.{Value, null, boolean, integer, text, list, dict, no_parts, part, Fields}
use Rattle.snap_core.specs.declared.snap.Snap.{Snap}
use Rattle.schema_form.specs.Faults.{unless, param_name_faults, param_type_faults, param_faults, is_few}
use Rattle.schema_form.specs.Faults.{under as unders}
use Rattle.schema_form.proofs.Ahead.{fields-ahead}
use Rattle.schema_form.proofs.Laying.{pushed-step}
use Rattle.schema_form.proofs.Modelling.{told-outcome}
use Rattle.schema_form.specs.Targets.{lookup, targets_from, entry_target, next_model}
use Rattle.schema_form.specs.declared.entries.Gathered.{Gathered}
use Rattle.schema_form.specs.Gathering.{Gathering, gathered_shown, with_modelled}
use Rattle.schema_form.specs.Layout.{type_no}
use Rattle.schema_form.specs.Modelled.{Modelled, earlier, astray_at, with_views, with_middleware, with_acting}
use Rattle.schema_form.specs.Setting.{IsSetting, within}
use Rattle.schema_form.specs.SoFar.{so_far, acting}
use Rattle.schema_form.specs.Told.{IsTold, outcome_of}

earlier-none : (x : Option Astray) → earlier x None ≡ x
earlier-none None = refl
earlier-none (Some a) = refl

-- what is read goes nowhere astray, and what goes astray does so one step further down
astray-none : {A : Type 0} (m : ModelNo) (n : ℕ) (k : List ℕ) (x : A) → astray_at m n (under k (reads x)) ≡ None
unfolding under
astray-none m n k x = refl

astray-some : (A : Type 0) (m : ModelNo) (n : ℕ) (k : List ℕ) (path : Path) → astray_at {A = A} m n (under k (astray path)) ≡ Some (record { before = type_no n; model = m; path = k ∷ path })
unfolding under
astray-some A m n k path = refl

under-reads : {A : Type 0} (k : List ℕ) (x : A) → under k (reads x) ≡ reads x
unfolding under
under-reads k x = refl

under-astray : (k : List ℕ) (path : Path) → under {A = Statements} k (astray path) ≡ astray (k ∷ path)
unfolding under
under-astray k path = refl

nothing-astray : {A : Type 0} (s : Option Astray) (m : ModelNo) (n : ℕ) (k : List ℕ) (x : A) → s ≡ earlier s (astray_at m n (under k (reads x)))
nothing-astray s m n k x = sym (ap (earlier s) (astray-none m n k x) ∙ earlier-none s)

module _ (by : Setting) (es : List Expression) (m : Modelling) where
  abbrev with_astray : Modelled → Option Astray → Modelled
  with_astray s a = record s { astray = a }

  -- the views
  pub views-said : (o : Outcome (List ShownView)) (views : List View) → reads (map view_shown views) ≡ o
      → so_far es (record { properties = m.properties; behaviour = record { views = views; actions = m.behaviour.actions; middleware = m.behaviour.middleware }; astray = m.astray })
      ≡ with_views (within by) (so_far es m) o
  views-said o views is =
      let new : Modelling = record { properties = m.properties; behaviour = record { views = views; actions = m.behaviour.actions; middleware = m.behaviour.middleware }; astray = m.astray } in
      let P : Outcome (List ShownView) → Type 0 = λ x. so_far es new ≡ with_views (within by) (so_far es m) x in
      subst P is (ap (with_astray (so_far es new)) (nothing-astray m.astray by.model (length es) (codes "views") (map view_shown views)))

  pub views-astray : (o : Outcome (List ShownView)) (path : Path) → astray path ≡ o
      → so_far es (record { properties = m.properties; behaviour = m.behaviour; astray = earlier m.astray (Some (record { before = type_no (length es); model = by.model; path = codes "views" ∷ path })) })
      ≡ with_views (within by) (so_far es m) o
  views-astray o path is =
      let P : Outcome (List ShownView) → Type 0 = λ x.
      so_far es (record { properties = m.properties; behaviour = m.behaviour; astray = earlier m.astray (Some (record { before = type_no (length es); model = by.model; path = codes "views" ∷ path })) })
      ≡ with_views (within by) (so_far es m) x in
      subst P is (ap (λ a. with_astray (so_far es m) (earlier m.astray a)) (sym (astray-some (List ShownView) by.model (length es) (codes "views") path)))

  -- the middleware
  pub middleware-said : (o : Outcome (List ShownMiddleware)) (around : List Middleware) → reads (map middleware_shown around) ≡ o
      → so_far es (record { properties = m.properties; behaviour = record { views = m.behaviour.views; actions = m.behaviour.actions; middleware = around }; astray = m.astray })
      ≡ with_middleware (within by) (so_far es m) o
  middleware-said o around is =
      let new : Modelling = record { properties = m.properties; behaviour = record { views = m.behaviour.views; actions = m.behaviour.actions; middleware = around }; astray = m.astray } in
      let P : Outcome (List ShownMiddleware) → Type 0 = λ x. so_far es new ≡ with_middleware (within by) (so_far es m) x in
      subst P is (ap (with_astray (so_far es new)) (nothing-astray m.astray by.model (length es) (codes "middleware") (map middleware_shown around)))

  pub middleware-astray : (o : Outcome (List ShownMiddleware)) (path : Path) → astray path ≡ o
      → so_far es (record { properties = m.properties; behaviour = m.behaviour; astray = earlier m.astray (Some (record { before = type_no (length es); model = by.model; path = codes "middleware" ∷ path })) })
      ≡ with_middleware (within by) (so_far es m) o
  middleware-astray o path is =
      let P : Outcome (List ShownMiddleware) → Type 0 = λ x.
      so_far es (record { properties = m.properties; behaviour = m.behaviour; astray = earlier m.astray (Some (record { before = type_no (length es); model = by.model; path = codes "middleware" ∷ path })) })
      ≡ with_middleware (within by) (so_far es m) x in
      subst P is (ap (λ a. with_astray (so_far es m) (earlier m.astray a)) (sym (astray-some (List ShownMiddleware) by.model (length es) (codes "middleware") path)))

  -- an action, of which the parts are read
  action-shown : (a : syntax.Action) → map action_shown (m.behaviour.actions ++ a ∷ []) ≡ map action_shown m.behaviour.actions ++ action_shown a ∷ []
  action-shown a = map-append action_shown m.behaviour.actions (a ∷ [])

  abbrev with_actions_astray : List Expression → List ShownAction → Option Astray → Modelled
  with_actions_astray all actions a = record (so_far all m) { actions = actions; astray = a }

  pub action-said : (all : List Expression) (name : List ℕ) (read : code.Acting) (body : Block) → read.body ≡ Ok body
      → so_far all (record {
        properties = m.properties;
        behaviour = record { views = m.behaviour.views; actions = m.behaviour.actions ++ record { name = name; params = read.params; body = body } ∷ []; middleware = m.behaviour.middleware };
        astray = m.astray;
      }) ≡ with_acting (within by) (so_far es m) name (acting all read)
  action-said all name read body is =
      let a : syntax.Action = record { name = name; params = read.params; body = body } in
      let old : List ShownAction = map action_shown m.behaviour.actions in
      let P : Result Block Path → Type 0 = λ b. with_actions_astray all (map action_shown (m.behaviour.actions ++ a ∷ [])) m.astray
      ≡ with_acting (within by) (so_far es m) name (acting all (record { params = read.params; body = b })) in
      let none : m.astray ≡ earlier m.astray (astray_at by.model (length es) (under (codes "actions") (under name (under (codes "body") (reads (block_shown body)))))) =
      nothing-astray m.astray by.model (length es) (codes "actions") (block_shown body)
      ∙ ap (λ o. earlier m.astray (astray_at by.model (length es) (under (codes "actions") o))) (sym (ap (under name) (under-reads (codes "body") (block_shown body)) ∙ under-reads name (block_shown body))) in
      subst P (sym is) (ap (λ xs. with_actions_astray all xs m.astray) (action-shown a) ∙ ap (with_actions_astray all (old ++ action_shown a ∷ [])) none)

  pub action-astray : (all : List Expression) (name : List ℕ) (read : code.Acting) (body : Block) (path : Path) → read.body ≡ Err path → block_shown body ≡ done
      → so_far all (record {
        properties = m.properties;
        behaviour = record { views = m.behaviour.views; actions = m.behaviour.actions ++ record { name = name; params = read.params; body = body } ∷ []; middleware = m.behaviour.middleware };
        astray = earlier m.astray (Some (record { before = type_no (length es); model = by.model; path = codes "actions" ∷ name ∷ codes "body" ∷ path }));
      }) ≡ with_acting (within by) (so_far es m) name (acting all read)
  action-astray all name read body path is empty =
      let a : syntax.Action = record { name = name; params = read.params; body = body } in
      let old : List ShownAction = map action_shown m.behaviour.actions in
      let shown : List ShownAction = old ++ record { name = name; params = read.params; body = done } ∷ [] in
      let here : Option Astray = Some (record { before = type_no (length es); model = by.model; path = codes "actions" ∷ name ∷ codes "body" ∷ path }) in
      let P : Result Block Path → Type 0 = λ b. with_actions_astray all (map action_shown (m.behaviour.actions ++ a ∷ [])) (earlier m.astray here)
      ≡ with_acting (within by) (so_far es m) name (acting all (record { params = read.params; body = b })) in
      let lower : under (codes "actions") (under name (under (codes "body") (astray path))) ≡ astray (codes "actions" ∷ name ∷ codes "body" ∷ path) =
      ap (λ o. under (codes "actions") (under name o)) (under-astray (codes "body") path) ∙ ap (under (codes "actions")) (under-astray name (codes "body" ∷ path)) ∙ under-astray (codes "actions") (name ∷ codes "body" ∷ path) in
      subst P (sym is) (ap (λ xs. with_actions_astray all xs (earlier m.astray here)) (action-shown a ∙ ap (λ b. old ++ record { name = name; params = read.params; body = b } ∷ []) empty)
      ∙ ap (λ o. with_actions_astray all shown (earlier m.astray (astray_at by.model (length es) o))) (sym lower))

-- there is a target for each entry
length-from : (fs : List Field) (n : ℕ) → length (targets_from n (fields_view fs)) ≡ length fs
length-from [] n = refl
length-from (f ∷ fs) n = ap (λ k. suc k) (length-from fs _)

pub length-targets : (by : Setting) → IsSetting by → length by.targets.now ≡ length by.types.now
length-targets by is = ap length is.targets ∙ length-from by.types.now 0

-- one target more
pub targets-step : (fs : List Field) (i : ℕ) (f : Field) (n next : ℕ) (o : Option Value) (old new : List Target) (x : Target) → i < length fs → f ≡ get_or fs i f → model_in (view f.value) ≡ o
    → targets_from 0 (fields_view fs) ≡ old ++ targets_from n (fields_view (drop i fs)) → new ≡ old ++ x ∷ [] → x ≡ entry_target n o → next ≡ next_model n o
    → targets_from 0 (fields_view fs) ≡ new ++ targets_from next (fields_view (drop (i + 1) fs))
targets-step fs i f n next o old new x within here is so_far added target number =
    let rest : Fields = fields_view (drop (i + 1) fs) in
    pushed-step old new (targets_from 0 (fields_view fs)) x (targets_from next rest)
    (so_far ∙ ap (λ ms. old ++ targets_from n ms) (fields-ahead fs i f within here) ∙ ap (λ p. old ++ entry_target n p ∷ targets_from (next_model n p) rest) is
    ∙ ap (λ t. old ++ t ∷ targets_from (next_model n o) rest) (sym target) ∙ ap (λ m. old ++ x ∷ targets_from m rest) (sym number)) added

-- a pair of a name and a type
pub pair-is : (v : Value) (p : Value × Value) → pair_in v ≡ Some p → v ≡ list tt (part p.0 (part p.1 no_parts))
pair-is (list a (part v (part w no_parts))) p is = let same : (v, w) ≡ p = same_Some (v, w) p is in ap (λ (q : Value × Value). list tt (part q.0 (part q.1 no_parts))) same
pair-is (list a (part v (part w (part x ps)))) p is = absurd cc
pair-is (list a (part v no_parts)) p is = absurd cc
pair-is (list a no_parts) p is = absurd cc
pair-is null p is = absurd cc
pair-is (boolean b) p is = absurd cc
pair-is (integer z) p is = absurd cc
pair-is (text s) p is = absurd cc
pair-is (dict a ms) p is = absurd cc

pub param-pair : (types : Fields) (earlier : List (List ℕ)) (v : Value) (p : Value × Value) → pair_in v ≡ Some p
    → param_faults types earlier v ≡ unders (codes "0") (param_name_faults earlier p.0) ++ unders (codes "1") (param_type_faults types p.1)
param-pair types earlier v p is = ap (param_faults types earlier) (pair-is v p is)

-- so many items
count-items : (vs : List Snap) → count_of (items_view vs) ≡ length vs
count-items [] = refl
count-items (v ∷ vs) = ap (λ n. suc n) (count-items vs)

pub few-items : (vs : List Snap) → unless (is_few (items_view vs)) Arguments ≡ unless (nat_le (length vs) 8) Arguments
few-items vs = ap (λ n. unless (nat_le n 8) Arguments) (count-items vs)

-- what is told of the views and of the middleware
module _ (by : Setting) (is : IsSetting by) (v : Value) where
  abbrev types : Fields
  types = fields_view by.types.now

  pub views-told : (read : Result (Parts View) Trouble) (x : Result (Parts View) Path)
      → Tells (map view_shown) read (views_read (target_of types by.targets.now) (is_taken (fields_view by.parts.now)) v) → IsTold read (Ok x)
      → outcome_of (map view_shown) x ≡ views_read (lookup types) (is_taken (fields_view by.parts.now)) v
  views-told read x tells told =
      told-outcome (map view_shown) (views_read (target_of types by.targets.now) (is_taken (fields_view by.parts.now)) v) read (Ok x) tells told
      ∙ ap (λ ts. views_read (target_of types ts) (is_taken (fields_view by.parts.now)) v) is.targets

  pub middleware-told : (read : Result (Parts Middleware) Trouble) (x : Result (Parts Middleware) Path)
      → Tells (map middleware_shown) read (middleware_read (target_of types by.targets.now) v) → IsTold read (Ok x)
      → outcome_of (map middleware_shown) x ≡ middleware_read (lookup types) v
  middleware-told read x tells told =
      told-outcome (map middleware_shown) (middleware_read (target_of types by.targets.now) v) read (Ok x) tells told
      ∙ ap (λ ts. middleware_read (target_of types ts) v) is.targets

names-shown : (actions : List syntax.Action) → map (λ (a : ShownAction). a.name) (map action_shown actions) ≡ map (λ (a : syntax.Action). a.name) actions
names-shown [] = refl
names-shown (a ∷ actions) = ap (λ ns. a.name ∷ ns) (names-shown actions)

-- a model that is gathered
pub model-gathered : (g : Gathering) (old new : Gathered) (name : List ℕ) (of : TypeNo) (said : Modelling) (actions : List (List ℕ))
    → g ≡ record { entries = old.entries; expressions = g.expressions; models = old.models; behaviours = map behaviour_shown old.behaviours; astray = old.astray }
    → length g.expressions ≡ of.0 → actions ≡ map (λ (a : syntax.Action). a.name) said.behaviour.actions
    → new ≡ record {
      entries = old.entries ++ record { name = name; of = of } ∷ [];
      expressions = old.expressions;
      models = old.models ++ record { name = name; properties = said.properties; actions = actions } ∷ [];
      behaviours = old.behaviours ++ said.behaviour ∷ [];
      astray = earlier old.astray said.astray;
    } → gathered_shown new ≡ with_modelled g name (so_far old.expressions said)
model-gathered g old new name of said actions same number named is =
    let begun : List Expression → Gathering = λ xs. record { entries = old.entries; expressions = xs; models = old.models; behaviours = map behaviour_shown old.behaviours; astray = old.astray } in
    let made : TypeNo → List (List ℕ) → List ShownBehaviour → Gathering = λ t names bs. record {
      entries = old.entries ++ record { name = name; of = t } ∷ [];
      expressions = old.expressions;
      models = old.models ++ record { name = name; properties = said.properties; actions = names } ∷ [];
      behaviours = bs;
      astray = earlier old.astray said.astray;
    } in
    let shown : List ShownBehaviour = map behaviour_shown (old.behaviours ++ said.behaviour ∷ []) in
    let split : shown ≡ map behaviour_shown old.behaviours ++ behaviour_shown said.behaviour ∷ [] = map-append behaviour_shown old.behaviours (said.behaviour ∷ []) in
    let last : List ShownBehaviour = map behaviour_shown old.behaviours ++ behaviour_shown said.behaviour ∷ [] in
    let names : List (List ℕ) = map (λ (a : ShownAction). a.name) (map action_shown said.behaviour.actions) in
    let numbered : of ≡ type_no (length g.expressions) = ap type_no (sym number) in
    ap gathered_shown is ∙ ap (made of actions) split ∙ ap (λ ns. made of ns last) (named ∙ sym (names-shown said.behaviour.actions)) ∙ ap (λ t. made t names last) numbered
    ∙ ap (λ x. with_modelled x name (so_far old.expressions said)) (sym same)

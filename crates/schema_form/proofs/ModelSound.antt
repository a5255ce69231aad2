-- What a model without a fault says names what is there in the end.
use Rattle.std.proofs.Common.{◌≡◌, ◌≤◌, ℕ, suc, ◌+◌, ◌<◌, List, [], ◌∷◌, ◌++◌, length, map, true, Option, Some, None, inl, inr, codes, decimal, slice_get, if◌then◌else◌, refl, sym, ◌∙◌, ap, subst, arith, length-append}
use Rattle.std.specs.Prelude.{◌⊎◌, not}
use Rattle.std.specs.Str.{bytes_eq}
use Rattle.std.proofs.lemmas.List.{length-map}
use Rattle.std.proofs.lemmas.List.Elements.{All-nil, All-cons}
use Rattle.snap_core.specs.Name.{is_name}
use Rattle.snap_core.specs.Value.{Value, null, boolean, integer, text, list, dict, no_parts, part, no_members, member, value_at, IsOrdered, AreOrdered, AreOrderedMembers, AreAscending, keys_of, Items, Fields}
use Rattle.snap_core.specs.declared.number.ModelNo.{ModelNo}
use Rattle.snap_core.proofs.Keys.{AreKeyed-ordered}
use Rattle.pointer_core.specs.declared.schema_rule.SchemaRule.TheVariants.{Shape, Arguments, Twice}
use Rattle.type_table.specs.declared.shape.Property.{Property}
use Rattle.type_table.specs.Table.{names_of, AreTyped, AreNamed}
use Rattle.model_syntax.specs.Shown.{ShownView, ShownAction, ShownMiddleware}
use Rattle.expr_syntax.specs.Syntax.{Statements}
use Rattle.expr_form.specs.Outcome.{Outcome, wrong, astray, reads, under as lowered}
use Rattle.behaviour_form.specs.Named.{stands_in, is_taken}
use Rattle.behaviour_form.specs.Actions.{action_body_read}
use Rattle.behaviour_form.specs.Middleware.{middleware_read}
use Rattle.behaviour_form.specs.Views.{views_read}
use Rattle.expr_form.specs.declared.fault.Fault.{Fault}
use Rattle.schema_form.specs.declared.form.SchemaForm.{SchemaForm}
use Rattle.schema_form.specs.declared.form.EntryNo.{EntryNo}
use Rattle.schema_form.specs.declared.form.ModelForm.{ModelForm}
use Rattle.schema_form.specs.declared.form.Astray.{Astray}
use Rattle.schema_form.specs.declared.form.Expression.{Expression}
use Rattle.schema_form.specs.declared.form.Place.{Place}
use Rattle.schema_form.specs.declared.form.Place.TheVariants as place
use Rattle.schema_form.specs.Names.{has_key, entry_of, type_base, is_barred}
use Rattle.schema_form.specs.Entries.{entries, items, param_in}
use Rattle.schema_form.specs.Targets.{lookup}
use Rattle.schema_form.specs.Faults.{here, unless, under, told, member_faults, key_faults, is_expression, own_faults, property_faults, properties_faults, param_name_faults, param_type_faults, param_faults, with_name, params_from, params_faults, is_few, action_part_faults, action_inside, is_action, action_faults, actions_faults, model_part_faults, model_faults, type_faults}
use Rattle.schema_form.specs.Layout.{type_no, type_laid, properties_laid, properties_of}
use Rattle.schema_form.specs.Modelled.{Params, with_param, with_params, Within, Action, Acting, with_body, with_list, with_action_part, with_action_parts, idle, earlier, astray_at, Modelled, with_action, with_actions, with_middleware, with_properties, with_views, with_part, with_parts, unsaid}
use Rattle.schema_form.specs.Pointers.{HasProperty, HasAction, IsPlaceAmong}
use Rattle.schema_form.proofs.NoFaults.{append_none, under_none, here_some}
use Rattle.schema_form.proofs.Whole.{AllFrom, AllFrom-append, IsGood, fine-type}
use Rattle.schema_form.proofs.Growing.{Longer, longer-more, longer-length, by-if, longer-params, longer-action-parts, Grown, grown-actions, grown-parts, parts-properties}

get-there : {A : Type 0} (xs ys : List A) (x : A) → slice_get ((xs ++ x ∷ []) ++ ys) (length xs) ≡ Some x
get-there [] ys x = refl
get-there (w ∷ xs) ys x = get-there xs ys x

-- what stands at the end of a list stands there in a longer one
pub get-behind : {A : Type 0} (xs ys zs : List A) (x : A) → zs ≡ (xs ++ x ∷ []) ++ ys → slice_get zs (length xs) ≡ Some x
get-behind xs ys zs x h = ap (λ ws. slice_get ws (length xs)) h ∙ get-there xs ys x

-- the properties of a model
names-properties : (types : Fields) (m : ModelNo) (i : ℕ) (ms : Fields) (n : ℕ) → names_of (properties_of types m i ms n) ≡ keys_of ms
names-properties types m i no_members n = refl
names-properties types m i (member k v ms) n = ap (λ ns. k ∷ ns) (names-properties types m (i + 1) ms (n + length (type_laid types v n (place.Property m i))))

count-properties : (types : Fields) (m : ModelNo) (i : ℕ) (ms : Fields) (n : ℕ) → length (properties_of types m i ms n) ≡ length (keys_of ms)
count-properties types m i ms n = sym (length-map (properties_of types m i ms n) (λ p. p.name)) ∙ ap length (names-properties types m i ms n)

-- a parameter without a fault has a name and a type, and none in the type
pub record IsParam (types : Fields) (v : Value) : Type 0 where
  pub name : List ℕ
  pub of : Value
  pub is : v ≡ list tt (part (text name) (part of no_parts))
  pub none : type_faults types of ≡ []

type-none : (types : Fields) (v : Value) → param_type_faults types v ≡ [] → type_faults types v ≡ []
type-none types v none = (append_none (own_faults types v ++ unless (not (is_barred (type_base types v))) Arguments) (type_faults types v) none).1

no-name : (types : Fields) (earlier : List (List ℕ)) (name of : Value) → (param_name_faults earlier name ≡ [] → ⊥) → param_faults types earlier (list tt (part name (part of no_parts))) ≡ [] → ⊥
no-name types earlier name of not none =
    not (under_none (codes "0") (param_name_faults earlier name) (append_none (under (codes "0") (param_name_faults earlier name)) (under (codes "1") (param_type_faults types of)) none).0)

pub param-is : (types : Fields) (earlier : List (List ℕ)) (v : Value) → param_faults types earlier v ≡ [] → IsParam types v
param-is types earlier (list a (part (text name) (part of no_parts))) none =
    let parts = append_none (under (codes "0") (param_name_faults earlier (text name))) (under (codes "1") (param_type_faults types of)) none in
    record { name = name; of = of; is = refl; none = type-none types of (under_none (codes "1") (param_type_faults types of) parts.1) }
param-is types earlier (list a (part null (part of no_parts))) none = absurd (no-name types earlier null of (λ h. here_some Shape h) none)
param-is types earlier (list a (part (boolean b) (part of no_parts))) none = absurd (no-name types earlier (boolean b) of (λ h. here_some Shape h) none)
param-is types earlier (list a (part (integer z) (part of no_parts))) none = absurd (no-name types earlier (integer z) of (λ h. here_some Shape h) none)
param-is types earlier (list a (part (list b ps) (part of no_parts))) none = absurd (no-name types earlier (list b ps) of (λ h. here_some Shape h) none)
param-is types earlier (list a (part (dict b ms) (part of no_parts))) none = absurd (no-name types earlier (dict b ms) of (λ h. here_some Shape h) none)
param-is types earlier (list a (part name (part of (part x ps)))) none = absurd (here_some Shape none)
param-is types earlier (list a (part name no_parts)) none = absurd (here_some Shape none)
param-is types earlier (list a no_parts) none = absurd (here_some Shape none)
param-is types earlier null none = absurd (here_some Shape none)
param-is types earlier (boolean b) none = absurd (here_some Shape none)
param-is types earlier (integer z) none = absurd (here_some Shape none)
param-is types earlier (text s) none = absurd (here_some Shape none)
param-is types earlier (dict a ms) none = absurd (here_some Shape none)

-- a property without a fault has none in its type
pub property-none : (types parts : Fields) (k : List ℕ) (v : Value) → property_faults types parts k v ≡ [] → type_faults types v ≡ []
property-none types parts k v none =
    let taken : List Fault = unless (not (stands_in (codes "actions") parts k)) Twice in
    (append_none (key_faults (is_expression v) (is_name k) ++ own_faults types v ++ taken) (type_faults types v) none).1

-- the items of a list of parameters without a fault
pub params-none : (types : Fields) (v : Value) → params_faults types v ≡ [] → (params_from types [] 0 (items v) ≡ [])
params-none types (list a ps) none = (append_none (unless (is_few ps) Arguments) (params_from types [] 0 ps) none).1
params-none types null none = refl
params-none types (boolean b) none = refl
params-none types (integer z) none = refl
params-none types (text s) none = refl
params-none types (dict a ms) none = refl

-- the parts of an action without a fault
pub inside-none : (types : Fields) (v : Value) → action_inside types v ≡ [] → member_faults (action_part_faults types (entries v)) (entries v) ≡ []
inside-none types (dict a ms) none = (append_none (unless (has_key (codes "body") ms) Shape) (member_faults (action_part_faults types ms) ms) none).1
inside-none types null none = refl
inside-none types (boolean b) none = refl
inside-none types (integer z) none = refl
inside-none types (text s) none = refl
inside-none types (list a ps) none = refl

-- the actions, the properties and the parts of a model without a fault
pub actions-none : (types : Fields) (v : Value) → actions_faults types v ≡ [] → member_faults (action_faults types) (entries v) ≡ []
actions-none types (dict a ms) none = none
actions-none types null none = refl
actions-none types (boolean b) none = refl
actions-none types (integer z) none = refl
actions-none types (text s) none = refl
actions-none types (list a ps) none = refl

pub properties-none : (types parts : Fields) (v : Value) → properties_faults types parts v ≡ [] → member_faults (property_faults types parts) (entries v) ≡ []
properties-none types parts (dict a ms) none = none
properties-none types parts null none = refl
properties-none types parts (boolean b) none = refl
properties-none types parts (integer z) none = refl
properties-none types parts (text s) none = refl
properties-none types parts (list a ps) none = refl

pub model-none : (types : Fields) (v : Value) → model_faults types v ≡ [] → member_faults (model_part_faults types (entries v)) (entries v) ≡ []
model-none types (dict a ms) none = (append_none (unless (has_key (codes "properties") ms) Shape) (member_faults (model_part_faults types ms) ms) none).1
model-none types null none = refl
model-none types (boolean b) none = refl
model-none types (integer z) none = refl
model-none types (text s) none = refl
model-none types (list a ps) none = refl

-- what stands in an object or a list in order is in order
pub ordered-entries : (v : Value) → IsOrdered v → AreOrderedMembers (entries v)
ordered-entries (dict a ms) ordered = ordered
ordered-entries null ordered = tt
ordered-entries (boolean b) ordered = tt
ordered-entries (integer z) ordered = tt
ordered-entries (text s) ordered = tt
ordered-entries (list a ps) ordered = tt

ordered-items : (v : Value) → IsOrdered v → AreOrdered (items v)
ordered-items (list a ps) ordered = ordered
ordered-items null ordered = tt
ordered-items (boolean b) ordered = tt
ordered-items (integer z) ordered = tt
ordered-items (text s) ordered = tt
ordered-items (dict a ms) ordered = tt

-- an expression that goes astray in a part of a model goes astray in that model
astray-in : {A : Type 0} (m : ModelNo) (n : ℕ) (o : Outcome A) (a : Astray) → astray_at m n o ≡ Some a → a.model ≡ m
astray-in m n (astray path) a is = cc
astray-in m n (wrong f) a is = absurd cc
astray-in m n (reads x) a is = absurd cc

pub earlier-either : (x y : Option Astray) (a : Astray) → earlier x y ≡ Some a → (x ≡ Some a) ⊎ (y ≡ Some a)
earlier-either (Some b) y a is = inl is
earlier-either None y a is = inr is

then-in : {A : Type 0} (m : ModelNo) (n : ℕ) (o : Outcome A) (x : Option Astray) → ((a : Astray) → x ≡ Some a → a.model ≡ m) → (a : Astray) → earlier x (astray_at m n o) ≡ Some a → a.model ≡ m
then-in m n o x before a is = elim (earlier-either x (astray_at m n o) a is) [
  | inl first ↦ before a first
  | inr second ↦ astray-in m n o a second
]

-- the names of actions, with one more
abbrev pub action_names : List ShownAction → List (List ℕ)
action_names actions = map (λ (a : ShownAction). a.name) actions

names-longer : (xs ys : List ShownAction) → Longer xs ys → length (action_names xs) ≤ length (action_names ys)
names-longer xs ys longer =
    let e : length (action_names xs) ≡ length xs = length-map xs (λ (a : ShownAction). a.name) in
    let d : length (action_names ys) ≡ length ys = length-map ys (λ (a : ShownAction). a.name) in
    omega (arith, e, d, longer-length xs ys longer)

module _ (f : SchemaForm) (types : Fields) (known : (s : List ℕ) (e : EntryNo) → entry_of types s ≡ Some e → e.0 < length f.entries) where
  abbrev Good : List Expression → Type 0
  Good = AllFrom (IsGood f types known) 0

  -- a type expression more
  more-good : (xs : List Expression) (v : Value) (at : Place) → Good xs → IsOrdered v → type_faults types v ≡ [] → IsPlaceAmong f.entries f.models (length xs) at
      → Longer (xs ++ type_laid types v (length xs) at) f.expressions → Good (xs ++ type_laid types v (length xs) at)
  more-good xs v at good ordered none place long =
      let a : List Expression = type_laid types v (length xs) at in
      let within : length (xs ++ a) ≤ length f.expressions = longer-length (xs ++ a) f.expressions long in
      let added : length (xs ++ a) ≡ length xs + length a = length-append xs a in
      let fine = fine-type f types known v ordered none in
      AllFrom-append (IsGood f types known) 0 (length xs) xs a (omega arith) good (fine.good (length xs) at place (omega (arith, within, added)))

  -- the parameters of an action that is there
  module _ (action : ModelNo × ℕ) (has : HasAction (slice_get f.models action.0.0) action.1) where
    param-good : (s : Params) (v : Value) → IsOrdered v → IsParam types v → Longer (with_param types action s v).expressions f.expressions → Good s.expressions → Good (with_param types action s v).expressions
    param-good s v ordered p long good =
        let P : Value → Type 0 = λ x. IsOrdered x → Longer (with_param types action s x).expressions f.expressions → Good (with_param types action s x).expressions in
        subst P (sym p.is) (λ o l. more-good s.expressions p.of (place.Param action.0 action.1 (length s.params)) good o.1.0 p.none has l) ordered long

    params-good : (earlier : List (List ℕ)) (i : ℕ) (s : Params) (ps : Items) → AreOrdered ps → params_from types earlier i ps ≡ []
        → Longer (with_params types action s ps).expressions f.expressions → Good s.expressions → Good (with_params types action s ps).expressions
    params-good earlier i s no_parts ordered none long good = good
    params-good earlier i s (part v ps) ordered none long good =
        let next : Params = with_param types action s v in
        let after : List (List ℕ) = with_name earlier (param_in v) in
        let parts = append_none (under (decimal i) (param_faults types earlier v)) (params_from types after (i + 1) ps) none in
        let p = param-is types earlier v (under_none (decimal i) (param_faults types earlier v) parts.0) in
        let short = longer-more next.expressions (with_params types action next ps).expressions f.expressions (longer-params types action next ps) long in
        params-good after (i + 1) next ps ordered.1 parts.1 long (param-good s v ordered.0 p short good)

    abbrev the_action : Fields → Action
    the_action parts = record { types = types; parts = parts; number = action }

    acting-part : (parts : Fields) (s : Acting) (k : List ℕ) (v : Value) → IsOrdered v → Good s.expressions → action_part_faults types parts k v ≡ []
        → Longer (with_action_part (the_action parts) s k v).expressions f.expressions → Good (with_action_part (the_action parts) s k v).expressions
    acting-part parts s k v ordered good =
        let P : Acting → List Fault → Type 0 = λ t fs. fs ≡ [] → Longer t.expressions f.expressions → Good t.expressions in
        let o : Outcome Statements = action_body_read (lookup types) (value_at (codes "params") parts) v in
        by-if P (bytes_eq k (codes "body")) (with_body s o) (if bytes_eq k (codes "params") then with_list types action s (items v) else s)
        (told o) (if bytes_eq k (codes "params") then params_faults types v else here Shape)
        (λ e none long. good)
        (λ e. by-if P (bytes_eq k (codes "params")) (with_list types action s (items v)) s (params_faults types v) (here Shape)
        (λ d none long. params-good [] 0 (record { expressions = s.expressions; params = [] }) (items v) (ordered-items v ordered) (params-none types v none) long good)
        (λ d none long. good))

    acting-good : (parts : Fields) (s : Acting) (ms : Fields) → AreOrderedMembers ms → member_faults (action_part_faults types parts) ms ≡ []
        → Longer (with_action_parts (the_action parts) s ms).expressions f.expressions → Good s.expressions → Good (with_action_parts (the_action parts) s ms).expressions
    acting-good parts s no_members ordered none long good = good
    acting-good parts s (member k v ms) ordered none long good =
        let a : Action = the_action parts in
        let next : Acting = with_action_part a s k v in
        let two = append_none (under k (action_part_faults types parts k v)) (member_faults (action_part_faults types parts) ms) none in
        let short = longer-more next.expressions (with_action_parts a next ms).expressions f.expressions (longer-action-parts a next ms) long in
        acting-good parts next ms ordered.2 two.1 long
        (acting-part parts s k v ordered.0 good (under_none k (action_part_faults types parts k v) two.0) short)

  -- what a model says so far names what is there in the end
  pub record IsFit (m : ModelNo) (s : Modelled) : Type 0 where
    pub good : Good s.expressions
    pub named : AreNamed s.properties
    pub typed : AreTyped (length f.expressions) s.properties
    pub astray : (a : Astray) → s.astray ≡ Some a → a.model ≡ m

  module _ (m : ModelNo) (its : ModelForm) (there : slice_get f.models m.0 ≡ Some its) (parts : Fields) where
    abbrev w : Within
    w = record { types = types; parts = parts; model = m }

    -- what is said so far is a part of what is there in the end
    record Reaches (s : Modelled) : Type 0 where
      expressions : Longer s.expressions f.expressions
      actions : length (action_names s.actions) ≤ length its.actions

    reaches-back : (s t : Modelled) → Grown s t → Reaches t → Reaches s
    reaches-back s t grown reach =
        let fewer : length (action_names s.actions) ≤ length (action_names t.actions) = names-longer s.actions t.actions grown.actions in record {
          expressions = longer-more s.expressions t.expressions f.expressions grown.expressions reach.expressions;
          actions = omega (arith, fewer, reach.actions);
        }

    has-action : (s : Modelled) (k : List ℕ) (v : Value) → Reaches (with_action w s k v) → HasAction (slice_get f.models m.0) (length s.actions)
    has-action s k v reach =
        let new : List ShownAction = (with_action w s k v).actions in
        let e : length (action_names new) ≡ length new = length-map new (λ (a : ShownAction). a.name) in
        let d : length new ≡ length s.actions + 1 = length-append s.actions _ in
        let P : Option ModelForm → Type 0 = λ o. HasAction o (length s.actions) in
        let inside : length s.actions < length its.actions = omega (arith, e, d, reach.actions) in
        subst P (sym there) inside

    action-fit : (s : Modelled) (k : List ℕ) (v : Value) → IsOrdered v → action_faults types k v ≡ [] → Reaches (with_action w s k v) → IsFit m s → IsFit m (with_action w s k v)
    action-fit s k v ordered none reach fit =
        let number : ModelNo × ℕ = (m, length s.actions) in
        let inside = inside-none types v (append_none (key_faults (is_action v) (is_name k)) (action_inside types v) none).1 in
        let read : Acting = with_action_parts (record { types = types; parts = entries v; number = number }) (idle s.expressions) (entries v) in record {
          good = acting-good number (has-action s k v reach) (entries v) (idle s.expressions) (entries v) (ordered-entries v ordered) inside reach.expressions fit.good;
          named = fit.named;
          typed = fit.typed;
          astray = then-in m (length s.expressions) (lowered (codes "actions") (lowered k (lowered (codes "body") read.body))) s.astray fit.astray;
        }

    actions-fit : (s : Modelled) (ms : Fields) → AreOrderedMembers ms → member_faults (action_faults types) ms ≡ [] → Reaches (with_actions w s ms) → IsFit m s → IsFit m (with_actions w s ms)
    actions-fit s no_members ordered none reach fit = fit
    actions-fit s (member k v ms) ordered none reach fit =
        let next : Modelled = with_action w s k v in
        let two = append_none (under k (action_faults types k v)) (member_faults (action_faults types) ms) none in
        actions-fit next ms ordered.2 two.1 reach
        (action-fit s k v ordered.0 (under_none k (action_faults types k v) two.0) (reaches-back next (with_actions w next ms) (grown-actions w next ms) reach) fit)

    properties-good : (i : ℕ) (ms : Fields) (n : ℕ) → member_faults (property_faults types parts) ms ≡ [] → AreOrderedMembers ms
        → ((j : ℕ) → j < length (keys_of ms) → HasProperty (slice_get f.models m.0) (i + j)) → n + length (properties_laid types m i ms n) ≤ length f.expressions
        → AllFrom (IsGood f types known) n (properties_laid types m i ms n) × AreTyped (length f.expressions) (properties_of types m i ms n)
    properties-good i no_members n none ordered has ends = (tt, All-nil (λ (p : Property). p.of.0 < length f.expressions))
    properties-good i (member k v ms) n none ordered has ends =
        let at : Place = place.Property m i in
        let first : List Expression = type_laid types v n at in
        let rest : List Expression = properties_laid types m (i + 1) ms (n + length first) in
        let long : length (first ++ rest) ≡ length first + length rest = length-append first rest in
        let two = append_none (under k (property_faults types parts k v)) (member_faults (property_faults types parts) ms) none in
        let one : type_faults types v ≡ [] = property-none types parts k v (under_none k (property_faults types parts k v) two.0) in
        let fine = fine-type f types known v ordered.0 one in
        let more : 0 < length first = fine.some n at in
        let P : ℕ → Type 0 = HasProperty (slice_get f.models m.0) in
        let own : i + 0 ≡ i = omega arith in
        let further = properties-good (i + 1) ms (n + length first) two.1 ordered.2
        (λ j within. let next : i + suc j ≡ i + 1 + j = omega arith in subst P next (has (suc j) (omega (arith, within)))) (omega (arith, ends, long)) in (
          AllFrom-append (IsGood f types known) n (n + length first) first rest refl
              (fine.good n at (subst P own (has 0 (omega arith))) (omega (arith, ends, long))) further.0,
          All-cons (λ (p : Property). p.of.0 < length f.expressions) (record { name = k; of = type_no n }) (properties_of types m (i + 1) ms (n + length first))
              (omega (arith, ends, long, more)) further.1,
        )

    properties-fit : (s : Modelled) (ps : Fields) → AreOrderedMembers ps → member_faults (property_faults types parts) ps ≡ [] → its.properties ≡ properties_of types m 0 ps (length s.expressions)
        → Reaches (with_properties w s ps) → IsFit m s → IsFit m (with_properties w s ps)
    properties-fit s ps ordered none own reach fit =
        let n : ℕ = length s.expressions in
        let xs : List Expression = properties_laid types m 0 ps n in
        let long : length (s.expressions ++ xs) ≤ length f.expressions = longer-length (s.expressions ++ xs) f.expressions reach.expressions in
        let added : length (s.expressions ++ xs) ≡ n + length xs = length-append s.expressions xs in
        let count : length its.properties ≡ length (keys_of ps) = ap length own ∙ count-properties types m 0 ps n in
        let has : (j : ℕ) → j < length (keys_of ps) → HasProperty (slice_get f.models m.0) (0 + j) = λ j within.
        let P : Option ModelForm → Type 0 = λ o. HasProperty o (0 + j) in
        let inside : 0 + j < length its.properties = omega (arith, within, count) in
        subst P (sym there) inside in
        let good = properties-good 0 ps n none ordered has (omega (arith, long, added)) in
        let Q : List (List ℕ) → Type 0 = AreAscending in record {
          good = AllFrom-append (IsGood f types known) 0 n s.expressions xs (omega arith) fit.good good.0;
          named = subst Q (sym (names-properties types m 0 ps n)) (AreKeyed-ordered ps ordered);
          typed = good.1;
          astray = fit.astray;
        }

    part-fit : (s : Modelled) (k : List ℕ) (v : Value) → IsOrdered v → (bytes_eq k (codes "properties") ≡ true → its.properties ≡ properties_of types m 0 (entries v) (length s.expressions))
        → IsFit m s → model_part_faults types parts k v ≡ [] → Reaches (with_part w s k v) → IsFit m (with_part w s k v)
    part-fit s k v ordered own fit =
        let P : Modelled → List Fault → Type 0 = λ t fs. fs ≡ [] → Reaches t → IsFit m t in
        let around : Outcome (List ShownMiddleware) = middleware_read (lookup types) v in
        let views : Outcome (List ShownView) = views_read (lookup types) (is_taken parts) v in
        let last : Modelled = if bytes_eq k (codes "views") then with_views w s views else s in
        let lasts : List Fault = if bytes_eq k (codes "views") then told views else here Shape in
        let third : Modelled = if bytes_eq k (codes "properties") then with_properties w s (entries v) else last in
        let thirds : List Fault = if bytes_eq k (codes "properties") then properties_faults types parts v else lasts in
        by-if P (bytes_eq k (codes "actions")) (with_actions w s (entries v)) (if bytes_eq k (codes "middleware") then with_middleware w s around else third)
        (actions_faults types v) (if bytes_eq k (codes "middleware") then told around else thirds)
        (λ e none reach. actions-fit s (entries v) (ordered-entries v ordered) (actions-none types v none) reach fit)
        (λ e. by-if P (bytes_eq k (codes "middleware")) (with_middleware w s around) third (told around) thirds
        (λ d none reach. record { good = fit.good; named = fit.named; typed = fit.typed; astray = then-in m (length s.expressions) (lowered (codes "middleware") around) s.astray fit.astray })
        (λ d. by-if P (bytes_eq k (codes "properties")) (with_properties w s (entries v)) last (properties_faults types parts v) lasts
        (λ b none reach. properties-fit s (entries v) (ordered-entries v ordered) (properties-none types parts v none) (own b) reach fit)
        (λ b. by-if P (bytes_eq k (codes "views")) (with_views w s views) s (told views) (here Shape)
        (λ c none reach. record { good = fit.good; named = fit.named; typed = fit.typed; astray = then-in m (length s.expressions) (lowered (codes "views") views) s.astray fit.astray })
        (λ c none reach. fit))))

    parts-fit : (s : Modelled) (ms : Fields) → its.properties ≡ (with_parts w s ms).properties → AreOrderedMembers ms → member_faults (model_part_faults types parts) ms ≡ []
        → Reaches (with_parts w s ms) → IsFit m s → IsFit m (with_parts w s ms)
    parts-fit s no_members same ordered none reach fit = fit
    parts-fit s (member k v ms) same ordered none reach fit =
        let next : Modelled = with_part w s k v in
        let two = append_none (under k (model_part_faults types parts k v)) (member_faults (model_part_faults types parts) ms) none in
        parts-fit next ms same ordered.2 two.1 reach
        (part-fit s k v ordered.0 (λ is. same ∙ parts-properties w s k v ms (AreKeyed-ordered (member k v ms) ordered) is) fit
        (under_none k (model_part_faults types parts k v) two.0) (reaches-back next (with_parts w next ms) (grown-parts w next ms) reach))

  pub model-sound : (m : ModelNo) (its : ModelForm) → slice_get f.models m.0 ≡ Some its → (xs : List Expression) (model : Value) → Good xs → model_faults types model ≡ [] → IsOrdered model
      → its.properties ≡ (with_parts (record { types = types; parts = entries model; model = m }) (unsaid xs) (entries model)).properties
      → its.actions ≡ action_names (with_parts (record { types = types; parts = entries model; model = m }) (unsaid xs) (entries model)).actions
      → Longer (with_parts (record { types = types; parts = entries model; model = m }) (unsaid xs) (entries model)).expressions f.expressions
      → IsFit m (with_parts (record { types = types; parts = entries model; model = m }) (unsaid xs) (entries model))
  model-sound m its there xs model good none ordered properties actions long =
      let count : length its.actions ≡ length (action_names (with_parts (record { types = types; parts = entries model; model = m }) (unsaid xs) (entries model)).actions) = ap length actions in
      parts-fit m its there (entries model) (unsaid xs) (entries model) properties (ordered-entries model ordered) (model-none types model none)
      (record { expressions = long; actions = omega (arith, count) })
      (record { good = good; named = tt; typed = All-nil (λ (p : Property). p.of.0 < length f.expressions); astray = λ a no. absurd cc })

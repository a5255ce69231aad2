-- The parts of a model, one after another: what they add stands behind what was there.
use Rattle.std.proofs.Common.{◌≡◌, ◌≤◌, ℕ, ◌+◌, List, [], ◌++◌, length, Bool, true, false, Option, Some, None, codes, if◌then◌else◌, refl, sym, ◌∙◌, ap, subst, arith, length-append, append_assoc}
use Rattle.std.specs.Str.{bytes_eq}
use Rattle.std.proofs.lemmas.List.{append-nil}
use Rattle.std.proofs.lemmas.Slice.Eq.{bytes_eq-Decides}
use Rattle.snap_core.specs.Value.{Value, no_parts, part, no_members, member, value_at, AreKeyed, Items, Fields}
use Rattle.snap_core.specs.declared.number.ModelNo.{ModelNo}
use Rattle.behaviour_form.specs.Named.{is_taken}
use Rattle.behaviour_form.specs.Actions.{action_body_read}
use Rattle.behaviour_form.specs.Middleware.{middleware_read}
use Rattle.behaviour_form.specs.Views.{views_read}
use Rattle.schema_form.specs.Entries.{entries, items, param_in}
use Rattle.schema_form.specs.Targets.{lookup}
use Rattle.schema_form.specs.Layout.{properties_of}
use Rattle.schema_form.proofs.FileParts.{keyed-once}
use Rattle.schema_form.proofs.Texts.{bytes_eq-turned}
use Rattle.schema_form.specs.Modelled.{Params, with_typed, with_param, with_params, Within, Action, Acting, with_body, with_list, with_action_part, with_action_parts, idle, Modelled, with_action, with_actions, with_middleware, with_properties, with_views, with_part, with_parts}

-- more behind what was there
abbrev pub Longer : {A : Type 0} → List A → List A → Type 0
Longer {A} xs ys = (zs : List A) × (ys ≡ xs ++ zs)

pub longer-none : {A : Type 0} (xs : List A) → Longer xs xs
longer-none xs = ([], sym (append-nil xs))

pub longer-more : {A : Type 0} (xs ys zs : List A) → Longer xs ys → Longer ys zs → Longer xs zs
longer-more xs ys zs a b = (a.0 ++ b.0, b.1 ∙ ap (λ ws. ws ++ b.0) a.1 ∙ append_assoc xs a.0 b.0)

pub longer-length : {A : Type 0} (xs ys : List A) → Longer xs ys → length xs ≤ length ys
longer-length xs ys a = let e : length ys ≡ length xs + length a.0 = ap length a.1 ∙ length-append xs a.0 in omega (arith, e)

-- the same of what a choice between two comes to
pub by-if : {S F : Type 0} (P : S → F → Type 0) (b : Bool) (x y : S) (f g : F) → (b ≡ true → P x f) → (b ≡ false → P y g) → P (if b then x else y) (if b then f else g)
by-if P true x y f g one other = one refl
by-if P false x y f g one other = other refl

pub by-if-one : {S : Type 0} (P : S → Type 0) (b : Bool) (x y : S) → (b ≡ true → P x) → (b ≡ false → P y) → P (if b then x else y)
by-if-one P true x y one other = one refl
by-if-one P false x y one other = other refl

-- parameters
longer-typed : (types : Fields) (action : ModelNo × ℕ) (s : Params) (o : Option (List ℕ × Value)) → Longer s.expressions (with_typed types action s o).expressions
longer-typed types action s (Some p) = (_, refl)
longer-typed types action s None = longer-none s.expressions

pub longer-params : (types : Fields) (action : ModelNo × ℕ) (s : Params) (ps : Items) → Longer s.expressions (with_params types action s ps).expressions
longer-params types action s no_parts = longer-none s.expressions
longer-params types action s (part v ps) =
    let next : Params = with_param types action s v in
    longer-more s.expressions next.expressions (with_params types action next ps).expressions (longer-typed types action s (param_in v)) (longer-params types action next ps)

-- the parts of an action
pub longer-action-part : (a : Action) (s : Acting) (k : List ℕ) (v : Value) → Longer s.expressions (with_action_part a s k v).expressions
longer-action-part a s k v =
    let P : Acting → Type 0 = λ t. Longer s.expressions t.expressions in
    let last : Acting = if bytes_eq k (codes "params") then with_list a.types a.number s (items v) else s in
    by-if-one P (bytes_eq k (codes "body")) (with_body s (action_body_read (lookup a.types) (value_at (codes "params") a.parts) v)) last
    (λ e. longer-none s.expressions)
    (λ e. by-if-one P (bytes_eq k (codes "params")) (with_list a.types a.number s (items v)) s
    (λ e. longer-params a.types a.number (record { expressions = s.expressions; params = [] }) (items v))
    (λ e. longer-none s.expressions))

pub longer-action-parts : (a : Action) (s : Acting) (ms : Fields) → Longer s.expressions (with_action_parts a s ms).expressions
longer-action-parts a s no_members = longer-none s.expressions
longer-action-parts a s (member k v ms) =
    let next : Acting = with_action_part a s k v in
    longer-more s.expressions next.expressions (with_action_parts a next ms).expressions (longer-action-part a s k v) (longer-action-parts a next ms)

-- a model
pub record Grown (old new : Modelled) : Type 0 where
  pub expressions : Longer old.expressions new.expressions
  pub actions : Longer old.actions new.actions

pub grown-none : (s : Modelled) → Grown s s
grown-none s = record { expressions = longer-none s.expressions; actions = longer-none s.actions }

pub grown-more : (a b c : Modelled) → Grown a b → Grown b c → Grown a c
grown-more a b c f g = record {
  expressions = longer-more a.expressions b.expressions c.expressions f.expressions g.expressions;
  actions = longer-more a.actions b.actions c.actions f.actions g.actions;
}

pub grown-action : (w : Within) (s : Modelled) (k : List ℕ) (v : Value) → Grown s (with_action w s k v)
grown-action w s k v =
    let a : Action = record { types = w.types; parts = entries v; number = (w.model, length s.actions) } in
    record { expressions = longer-action-parts a (idle s.expressions) (entries v); actions = (_, refl) }

pub grown-actions : (w : Within) (s : Modelled) (ms : Fields) → Grown s (with_actions w s ms)
grown-actions w s no_members = grown-none s
grown-actions w s (member k v ms) =
    let next : Modelled = with_action w s k v in
    grown-more s next (with_actions w next ms) (grown-action w s k v) (grown-actions w next ms)

-- a part more, whichever it is: by cases
pub by-part : (P : Modelled → Type 0) (w : Within) (s : Modelled) (k : List ℕ) (v : Value) → (bytes_eq k (codes "actions") ≡ true → P (with_actions w s (entries v)))
    → (bytes_eq k (codes "middleware") ≡ true → P (with_middleware w s (middleware_read (lookup w.types) v)))
    → (bytes_eq k (codes "properties") ≡ true → P (with_properties w s (entries v)))
    → (bytes_eq k (codes "views") ≡ true → P (with_views w s (views_read (lookup w.types) (is_taken w.parts) v))) → (bytes_eq k (codes "properties") ≡ false → P s) → P (with_part w s k v)
by-part P w s k v actions middleware properties views other =
    let last : Modelled = if bytes_eq k (codes "views") then with_views w s (views_read (lookup w.types) (is_taken w.parts) v) else s in
    let third : Modelled = if bytes_eq k (codes "properties") then with_properties w s (entries v) else last in
    let second : Modelled = if bytes_eq k (codes "middleware") then with_middleware w s (middleware_read (lookup w.types) v) else third in
    by-if-one P (bytes_eq k (codes "actions")) (with_actions w s (entries v)) second actions
    (λ e. by-if-one P (bytes_eq k (codes "middleware")) (with_middleware w s (middleware_read (lookup w.types) v)) third middleware
    (λ e. by-if-one P (bytes_eq k (codes "properties")) (with_properties w s (entries v)) last properties
    (λ e. by-if-one P (bytes_eq k (codes "views")) (with_views w s (views_read (lookup w.types) (is_taken w.parts) v)) s views (λ d. other e))))

pub grown-part : (w : Within) (s : Modelled) (k : List ℕ) (v : Value) → Grown s (with_part w s k v)
grown-part w s k v =
    by-part (Grown s) w s k v (λ e. grown-actions w s (entries v))
    (λ e. record { expressions = longer-none s.expressions; actions = longer-none s.actions })
    (λ e. record { expressions = (_, refl); actions = longer-none s.actions })
    (λ e. record { expressions = longer-none s.expressions; actions = longer-none s.actions })
    (λ e. grown-none s)

pub grown-parts : (w : Within) (s : Modelled) (ms : Fields) → Grown s (with_parts w s ms)
grown-parts w s no_members = grown-none s
grown-parts w s (member k v ms) =
    let next : Modelled = with_part w s k v in
    grown-more s next (with_parts w next ms) (grown-part w s k v) (grown-parts w next ms)

-- only the properties change the properties
kept-actions : (w : Within) (s : Modelled) (ms : Fields) → (with_actions w s ms).properties ≡ s.properties
kept-actions w s no_members = refl
kept-actions w s (member k v ms) = kept-actions w (with_action w s k v) ms

kept-part : (w : Within) (s : Modelled) (k : List ℕ) (v : Value) → bytes_eq k (codes "properties") ≡ false → (with_part w s k v).properties ≡ s.properties
kept-part w s k v other =
    by-part (λ t. t.properties ≡ s.properties) w s k v (λ e. kept-actions w s (entries v)) (λ e. refl)
    (λ e. let no : true ≡ false = sym e ∙ other in absurd cc) (λ e. refl) (λ e. refl)

pub kept-parts : (w : Within) (s : Modelled) (ms : Fields) → value_at (codes "properties") ms ≡ None → (with_parts w s ms).properties ≡ s.properties
kept-parts w s no_members none = refl
kept-parts w s (member k v ms) none =
    elim (bytes_eq (codes "properties") k) as (λ b. bytes_eq (codes "properties") k ≡ b → (if b then Some v else value_at (codes "properties") ms) ≡ None
    → (with_parts w s (member k v ms)).properties ≡ s.properties) [
      | true ↦ λ e there. absurd cc
      | false ↦ λ e there. kept-parts w (with_part w s k v) ms there ∙ kept-part w s k v (bytes_eq-turned k (codes "properties") ∙ e)
    ] refl none

-- two keys that differ aren't both the same as a third
pub apart : (k a b : List ℕ) → bytes_eq a b ≡ false → bytes_eq k a ≡ true → bytes_eq k b ≡ true → ⊥
apart k a b differ is was =
    let P : List ℕ → Type 0 = λ x. bytes_eq x b ≡ true in
    let clash : true ≡ false = sym (subst P ((bytes_eq-Decides k a).0 is) was) ∙ differ in absurd cc

-- the part under this key has the properties
pub part-is : (w : Within) (s : Modelled) (k : List ℕ) (v : Value) → bytes_eq k (codes "properties") ≡ true → with_part w s k v ≡ with_properties w s (entries v)
part-is w s k v is =
    by-part (λ t. t ≡ with_properties w s (entries v)) w s k v
    (λ e. absurd (apart k (codes "actions") (codes "properties") refl e is)) (λ e. absurd (apart k (codes "middleware") (codes "properties") refl e is)) (λ e. refl)
    (λ e. absurd (apart k (codes "properties") (codes "views") refl is e)) (λ other. let no : true ≡ false = sym is ∙ other in absurd cc)

-- so they are behind all parts
pub parts-properties : (w : Within) (s : Modelled) (k : List ℕ) (v : Value) (ms : Fields) → AreKeyed (member k v ms) → bytes_eq k (codes "properties") ≡ true
    → (with_parts w s (member k v ms)).properties ≡ properties_of w.types w.model 0 (entries v) (length s.expressions)
parts-properties w s k v ms keyed is =
    kept-parts w (with_part w s k v) ms (keyed-once (codes "properties") k v ms (bytes_eq-turned (codes "properties") k ∙ is) keyed) ∙ ap (λ (t : Modelled). t.properties) (part-is w s k v is)

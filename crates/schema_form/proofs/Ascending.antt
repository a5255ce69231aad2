-- The names of a model's views ascend, and those of its actions.
use Rattle.std.proofs.Common.{◌≡◌, ℕ, List, [], ◌∷◌, ◌++◌, map, length, Bool, true, false, Option, Some, None, All, inl, inr, codes, if◌then◌else◌, refl, sym, ◌∙◌, ap, subst, append_assoc}
use Rattle.std.specs.Prelude.{◌⊎◌}
use Rattle.std.specs.Str.{bytes_eq}
use Rattle.std.proofs.lemmas.List.{append-nil, map-append}
use Rattle.std.proofs.lemmas.List.Elements.{All-nil, All-cons, All-head, All-tail}
use Rattle.snap_core.specs.Value.{Value, no_members, member, value_at, IsOrdered, AreOrderedMembers, AreAscending, keys_of, Fields}
use Rattle.snap_core.proofs.Keys.{AreKeyed-ordered}
use Rattle.model_syntax.specs.declared.behaviour.Behaviour.{Behaviour}
use Rattle.model_syntax.specs.Shown.{ShownView, ShownAction, ShownBehaviour, IsInOrder, behaviour_shown}
use Rattle.expr_form.specs.Outcome.{Outcome, wrong, astray, reads}
use Rattle.behaviour_form.specs.Named.{is_taken}
use Rattle.behaviour_form.specs.Views.{views_read}
use Rattle.behaviour_form.proofs.InOrder.{views-in_order}
use Rattle.schema_form.specs.declared.form.Expression.{Expression}
use Rattle.schema_form.specs.Entries.{entries}
use Rattle.schema_form.specs.Targets.{lookup}
use Rattle.schema_form.specs.Modelled.{Within, Modelled, read_or, with_action, with_actions, with_part, with_parts, unsaid}
use Rattle.schema_form.proofs.FileParts.{keyed-once}
use Rattle.schema_form.proofs.Texts.{bytes_eq-turned}
use Rattle.schema_form.proofs.Growing.{by-part, apart}
use Rattle.schema_form.proofs.ModelSound.{action_names, ordered-entries}

abbrev view_names : List ShownView → List (List ℕ)
view_names views = map (λ (v : ShownView). v.name) views

-- what is read in place of the views is in order too
read-ascends : (w : Within) (old : List ShownView) (v : Value) (o : Outcome (List ShownView)) → views_read (lookup w.types) (is_taken w.parts) v ≡ o → IsOrdered v
    → AreAscending (view_names old) → AreAscending (view_names (read_or old o))
read-ascends w old v (reads views) is ordered before = views-in_order (lookup w.types) (is_taken w.parts) v views is ordered
read-ascends w old v (wrong f) is ordered before = before
read-ascends w old v (astray path) is ordered before = before

kept-views : (w : Within) (s : Modelled) (ms : Fields) → (with_actions w s ms).views ≡ s.views
kept-views w s no_members = refl
kept-views w s (member k v ms) = kept-views w (with_action w s k v) ms

part-views : (w : Within) (s : Modelled) (k : List ℕ) (v : Value) → IsOrdered v → AreAscending (view_names s.views) → AreAscending (view_names (with_part w s k v).views)
part-views w s k v ordered before =
    let P : List ShownView → Type 0 = λ views. AreAscending (view_names views) in
    by-part (λ t. AreAscending (view_names t.views)) w s k v (λ e. subst P (sym (kept-views w s (entries v))) before) (λ e. before) (λ e. before)
    (λ e. read-ascends w s.views v (views_read (lookup w.types) (is_taken w.parts) v) refl ordered before) (λ e. before)

-- the actions have the keys for names
names-actions : (w : Within) (s : Modelled) (ms : Fields) → action_names (with_actions w s ms).actions ≡ action_names s.actions ++ keys_of ms
names-actions w s no_members = sym (append-nil (action_names s.actions))
names-actions w s (member k v ms) =
    let next : Modelled = with_action w s k v in
    names-actions w next ms ∙ ap (λ ns. ns ++ keys_of ms) (map-append (λ (a : ShownAction). a.name) s.actions _)
    ∙ append_assoc (action_names s.actions) (k ∷ []) (keys_of ms)

if-true : {S : Type 0} (b : Bool) (x y : S) → b ≡ true → (if b then x else y) ≡ x
if-true true x y e = refl
if-true false x y e = absurd cc

part-actions : (w : Within) (s : Modelled) (k : List ℕ) (v : Value) → bytes_eq k (codes "actions") ≡ true → with_part w s k v ≡ with_actions w s (entries v)
part-actions w s k v is = if-true (bytes_eq k (codes "actions")) (with_actions w s (entries v)) _ is

other-actions : (w : Within) (s : Modelled) (k : List ℕ) (v : Value) → bytes_eq k (codes "actions") ≡ false → (with_part w s k v).actions ≡ s.actions
other-actions w s k v other =
    by-part (λ t. t.actions ≡ s.actions) w s k v (λ e. let no : true ≡ false = sym e ∙ other in absurd cc) (λ e. refl) (λ e. refl) (λ e. refl) (λ e. refl)

-- what is said so far is in order
record IsSorted (s : Modelled) : Type 0 where
  views : AreAscending (view_names s.views)
  actions : AreAscending (action_names s.actions)

-- and either no actions are to come, or none were there
abbrev IsClear : Modelled → Fields → Type 0
IsClear s ms = (value_at (codes "actions") ms ≡ None) ⊎ (s.actions ≡ [])

record IsNext (s : Modelled) (ms : Fields) : Type 0 where
  actions : AreAscending (action_names s.actions)
  clear : IsClear s ms

one-more : (w : Within) (s : Modelled) (k : List ℕ) (v : Value) (ms : Fields) → AreOrderedMembers (member k v ms) → IsSorted s → IsClear s (member k v ms) → IsNext (with_part w s k v) ms
one-more w s k v ms ordered sorted clear =
    let next : Modelled = with_part w s k v in
    let P : List (List ℕ) → Type 0 = AreAscending in
    elim (bytes_eq (codes "actions") k) as (λ b. bytes_eq (codes "actions") k ≡ b
    → (((if b then Some v else value_at (codes "actions") ms) ≡ None) ⊎ (s.actions ≡ [])) → IsNext next ms) [
      | true ↦ λ e there. elim there [
        | inl none ↦ absurd cc
        | inr empty ↦
            let is : bytes_eq k (codes "actions") ≡ true = bytes_eq-turned k (codes "actions") ∙ e in
            let names : action_names next.actions ≡ keys_of (entries v) =
            ap (λ (t : Modelled). action_names t.actions) (part-actions w s k v is) ∙ names-actions w s (entries v) ∙ ap (λ actions. action_names actions ++ keys_of (entries v)) empty in record {
              actions = subst P (sym names) (AreKeyed-ordered (entries v) (ordered-entries v ordered.0));
              clear = inl (keyed-once (codes "actions") k v ms e (AreKeyed-ordered (member k v ms) ordered));
            }
      ]
      | false ↦ λ e there.
          let same : next.actions ≡ s.actions = other-actions w s k v (bytes_eq-turned k (codes "actions") ∙ e) in
          let Q : List ShownAction → Type 0 = λ actions. AreAscending (action_names actions) in record {
            actions = subst Q (sym same) sorted.actions;
            clear = elim there [
              | inl none ↦ inl none
              | inr empty ↦ inr (same ∙ empty)
            ];
          }
    ] refl clear

parts-sorted : (w : Within) (s : Modelled) (ms : Fields) → AreOrderedMembers ms → IsSorted s → IsClear s ms → IsSorted (with_parts w s ms)
parts-sorted w s no_members ordered sorted clear = sorted
parts-sorted w s (member k v ms) ordered sorted clear =
    let next : Modelled = with_part w s k v in
    let one = one-more w s k v ms ordered sorted clear in
    parts-sorted w next ms ordered.2 (record { views = part-views w s k v ordered.0 sorted.views; actions = one.actions }) one.clear

-- the names of what the parts of a model say ascend
pub model-in_order : (w : Within) (xs : List Expression) (ms : Fields) → AreOrderedMembers ms
    → IsInOrder (record { views = (with_parts w (unsaid xs) ms).views; actions = (with_parts w (unsaid xs) ms).actions; middleware = (with_parts w (unsaid xs) ms).middleware })
model-in_order w xs ms ordered =
    let all = parts-sorted w (unsaid xs) ms ordered (record { views = tt; actions = tt }) (inr refl) in record { views = all.views; actions = all.actions }

-- what holds of all that is shown holds of each that is
pub all-shown : (behaviours : List Behaviour) → All IsInOrder (map behaviour_shown behaviours) → All (λ b. IsInOrder (behaviour_shown b)) behaviours
all-shown [] all = All-nil (λ b. IsInOrder (behaviour_shown b))
all-shown (b ∷ bs) all =
    All-cons (λ x. IsInOrder (behaviour_shown x)) b bs (All-head IsInOrder (behaviour_shown b) (map behaviour_shown bs) all)
    (all-shown bs (All-tail IsInOrder (behaviour_shown b) (map behaviour_shown bs) all))

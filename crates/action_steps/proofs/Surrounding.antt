-- The middleware of a node, one by one.
use Rattle.std.proofs.Common.{◌≡◌, ℕ, ◌+◌, ◌<◌, List, [], ◌∷◌, ◌++◌, length, map, get_or, drop, true, false, Option, Some, sym, ◌∙◌, ap, append_assoc}
use Rattle.std.specs.Prelude.{if◌then◌else◌}
use Rattle.std.proofs.lemmas.List.{map-append, drop_more}
use Rattle.snap_core.specs.declared.number.NodeNo.{NodeNo}
use Rattle.model_syntax.specs.Shown.{ShownMiddleware, ShownBehaviour, behaviour_shown, middleware_shown}
use Rattle.snap_core.specs.declared.number.ModelNo.{ModelNo}
use Rattle.edit_core.specs.declared.kind.Kind.TheVariants.{Model}
use Rattle.edit_core.specs.Labelled.{Label}
use Rattle.node_core.specs.View.{label}
use Rattle.node_core.specs.declared.labelled.Label as declared
use Rattle.expr_core.specs.Numbers.{parts_of}
use Rattle.expr_core.specs.Schema.{Schema, middleware_of}
use Rattle.expr_core.proofs.Lists.{map-map}
use Rattle.model_syntax.specs.declared.behaviour.Middleware.{Middleware}
use Rattle.action_core.specs.Layers as specs
use Rattle.action_core.specs.Layers.{surrounds, named_layers, node_layers, own_layers}
use Rattle.action_steps.specs.Acting.{behaving_of, layer_of}
use Rattle.action_steps.specs.declared.layers.Layer.{Layer}

-- the layers of what is left, by the first of it
left-first : (name : List ℕ) (n : NodeNo) (ms : List Middleware) (i : ℕ) (m : Middleware) → i < length ms → m ≡ get_or ms i m
    → named_layers name n (map middleware_shown (drop i ms)) ≡ named_layers name n (middleware_shown m ∷ map middleware_shown (drop (i + 1) ms))
left-first name n ms i m below here =
    ap (λ ks. named_layers name n (map middleware_shown ks)) (drop_more ms i m below ∙ ap (λ k. k ∷ drop (i + 1) ms) (sym here))

-- one that surrounds the actions of the name
pub layer-next : (name : List ℕ) (n : NodeNo) (ms : List Middleware) (i : ℕ) (m : Middleware) → i < length ms → m ≡ get_or ms i m → (done : List Layer) (layer : Layer)
    → layer_of layer ≡ record { node = n; middleware = middleware_shown m } → surrounds name (middleware_shown m) ≡ true
    → map layer_of (done ++ layer ∷ []) ++ named_layers name n (map middleware_shown (drop (i + 1) ms)) ≡ map layer_of done ++ named_layers name n (map middleware_shown (drop i ms))
layer-next name n ms i m below here done layer is around =
    let left = named_layers name n (map middleware_shown (drop (i + 1) ms)) in
    let one : specs.Layer = record { node = n; middleware = middleware_shown m } in
    ap (λ ls. ls ++ left) (map-append layer_of done (layer ∷ [])) ∙ append_assoc (map layer_of done) (layer_of layer ∷ []) left
    ∙ ap (λ l. map layer_of done ++ l ∷ left) is
    ∙ ap (λ ls. map layer_of done ++ ls) (ap (λ b. if b then one ∷ left else left) (sym around) ∙ sym (left-first name n ms i m below here))

-- one that doesn't
pub layer-not : (name : List ℕ) (n : NodeNo) (ms : List Middleware) (i : ℕ) (m : Middleware) → i < length ms → m ≡ get_or ms i m → (done : List Layer)
    → surrounds name (middleware_shown m) ≡ false
    → map layer_of done ++ named_layers name n (map middleware_shown (drop (i + 1) ms)) ≡ map layer_of done ++ named_layers name n (map middleware_shown (drop i ms))
layer-not name n ms i m below here done apart =
    let left = named_layers name n (map middleware_shown (drop (i + 1) ms)) in
    let one : specs.Layer = record { node = n; middleware = middleware_shown m } in
    ap (λ ls. map layer_of done ++ ls) (ap (λ b. if b then one ∷ left else left) (sym apart) ∙ sym (left-first name n ms i m below here))

-- those of a model's node
pub own-model : (s : Schema) (name : List ℕ) (o : Option Label) (l : declared.Label) (m : ModelNo) (shown : List ShownMiddleware) → Some (label l) ≡ o → l.kind ≡ Model m
    → shown ≡ middleware_of s m → named_layers name l.number shown ≡ own_layers (behaving_of s) name o
own-model s name o l m shown is kind said =
    ap (named_layers name l.number) (said ∙ ap (λ ls. parts_of ls m.0) (sym (map-map (λ (b : ShownBehaviour). b.middleware) behaviour_shown s.behaviours)))
    ∙ ap (node_layers (behaving_of s) name (label l)) (sym kind) ∙ ap (own_layers (behaving_of s) name) is

-- Plans stay begun as they grow, and a table has one plan.
use Rattle.std.proofs.Common.{◌≡◌, ℕ, ◌<◌, ◌≤◌, List, [], ◌∷◌, ◌++◌, length, map, slice_get, slice_set, Option, Some, None, IfSome, inl, inr, refl, sym, ap, subst, zero, suc, arith, length-append, length-set}
use Rattle.std.specs.Prelude.{◌⊎◌, All}
use Rattle.std.proofs.Math.ListN.{get_or-map}
use Rattle.std.proofs.lemmas.List.{length-map}
use Rattle.std.proofs.lemmas.List.Elements.{All-push, All-set, All-weaker}
use Rattle.snap_core.specs.declared.number.TypeNo.{TypeNo}
use Rattle.type_table.specs.declared.shape.Shape.{Shape}
use Rattle.type_table.specs.declared.shape.Shape.TheVariants.{Model}
use Rattle.type_table.specs.declared.shape.Property.{Property}
use Rattle.type_table.specs.declared.shape.ModelType.{ModelType}
use Rattle.type_table.specs.Table.{Table, Plan, HoldsPlain, NamesModel, NamesTypes, AreNamed, AreTyped, IsModelOf, IsShapeOf, IsBegun, plan_of, leads_of, types_below}
use Rattle.type_core.proofs.Following.{slice_get-last}
use Rattle.type_draft.specs.Reaching.{AreKnown}

-- what stands in a list stands at the same place of a longer one
pub slice_get-more : {X : Type 0} (xs ys : List X) (i : ℕ) (x : X) → slice_get xs i ≡ Some x → slice_get (xs ++ ys) i ≡ Some x
slice_get-more [] ys i x h = cc
slice_get-more (y ∷ xs) ys zero x h = h
slice_get-more (y ∷ xs) ys (suc i) x h = slice_get-more xs ys i x h

-- the last element stands at the length of those before it
pub slice_get-end : {X : Type 0} (xs : List X) (y : X) → slice_get (xs ++ y ∷ []) (length xs) ≡ Some y
slice_get-end [] y = refl
slice_get-end (x ∷ xs) y = slice_get-end xs y

-- a write leaves what differs from the element that it replaces
pub slice_get-set : {X : Type 0} (xs : List X) (i j : ℕ) (x y z : X)
    → slice_get xs i ≡ Some x → slice_get xs j ≡ Some z → (x ≡ z → ⊥) → slice_get (slice_set xs j y) i ≡ Some x
slice_get-set [] i j x y z h k ne = h
slice_get-set (w ∷ xs) zero zero x y z h k ne = absurd (ne (cc))
slice_get-set (w ∷ xs) zero (suc j) x y z h k ne = h
slice_get-set (w ∷ xs) (suc i) zero x y z h k ne = h
slice_get-set (w ∷ xs) (suc i) (suc j) x y z h k ne = slice_get-set xs i j x y z h k ne

-- one plan has no fewer types and models than another
pub record IsNoSmaller (old new : Plan) : Type 0 where
  pub shapes : length old.shapes ≤ length new.shapes
  pub models : length old.models ≤ length new.models

-- a shape's model stays one of the models as these grow
pub NamesModel-more : (models more : List ModelType) (shape : Shape) → length models ≤ length more → NamesModel models shape → NamesModel more shape
NamesModel-more models more (Model m) long h = omega arith
NamesModel-more models more _ long h = tt

NamesTypes-more : (count more : ℕ) (shape : Shape) → count ≤ more → NamesTypes count shape → NamesTypes more shape
NamesTypes-more count more shape long h = record {
  leads = All-weaker (λ (t : TypeNo). t.0 < count) (λ (t : TypeNo). t.0 < more) (λ t q. omega arith) (leads_of shape) h.leads;
  parts = All-weaker (λ (t : TypeNo). t.0 < count) (λ (t : TypeNo). t.0 < more) (λ t q. omega arith) (types_below shape) h.parts;
}

-- a shape stays one of the plan as the plan grows
pub IsShapeOf-more : (old new : Plan) (shape : Shape) → IsNoSmaller old new → IsShapeOf old shape → IsShapeOf new shape
IsShapeOf-more old new shape grown h = record {
  model = NamesModel-more old.models new.models shape grown.models h.model;
  types = NamesTypes-more (length old.shapes) (length new.shapes) shape grown.shapes h.types;
  plain = h.plain;
}

pub IfSome-IsShapeOf-more : (old new : Plan) → IsNoSmaller old new → (shape : Option Shape)
    → IfSome shape (IsShapeOf old) → IfSome shape (IsShapeOf new)
IfSome-IsShapeOf-more old new grown None h = tt
IfSome-IsShapeOf-more old new grown (Some shape) h = IsShapeOf-more old new shape grown h

-- a model stays one where there are as many types and each shape stays
pub IsModelOf-more : (old new : Plan) (number : ℕ) (model : ModelType) → length old.shapes ≤ length new.shapes
    → ((i : ℕ) (s : Shape) → slice_get old.shapes i ≡ Some (Some s) → slice_get new.shapes i ≡ Some (Some s))
    → IsModelOf old number model → IsModelOf new number model
IsModelOf-more old new number model long stay h = record {
  named = h.named;
  typed = All-weaker (λ (p : Property). p.of.0 < length old.shapes) (λ (p : Property). p.of.0 < length new.shapes) (λ p q. omega arith) model.properties h.typed;
  own = stay model.own.0 (Model (record { 0 = number })) h.own;
}

pub IsBegun-fresh : (p : Plan) → IsBegun p → IsBegun (record { shapes = p.shapes ++ None ∷ []; models = p.models })
IsBegun-fresh p b =
    let new : Plan = record { shapes = p.shapes ++ None ∷ []; models = p.models } in
    let long : length p.shapes ≤ length (p.shapes ++ None ∷ []) = omega (arith, length-append p.shapes (None ∷ [])) in
    let grown : IsNoSmaller p new = record { shapes = long; models = omega arith } in
    record {
      shapes = All-push (λ shape. IfSome shape (IsShapeOf new)) p.shapes None
          (All-weaker (λ s. IfSome s (IsShapeOf p)) (λ s. IfSome s (IsShapeOf new)) (IfSome-IsShapeOf-more p new grown) p.shapes b.shapes) tt;
      models = λ number model h. IsModelOf-more p new number model long (λ i s e. slice_get-more p.shapes (None ∷ []) i (Some s) e) (b.models number model h);
    }

pub IsBegun-model : (p : Plan) (model : ModelType) → IsBegun p → AreNamed model.properties → AreTyped (length p.shapes) model.properties
    → model.own.0 ≡ length p.shapes
    → IsBegun (record { shapes = p.shapes ++ Some (Model (record { 0 = length p.models })) ∷ []; models = p.models ++ model ∷ [] })
IsBegun-model p model b named typed own =
    let shape : Option Shape = Some (Model (record { 0 = length p.models })) in
    let new : Plan = record { shapes = p.shapes ++ shape ∷ []; models = p.models ++ model ∷ [] } in
    let long : length p.shapes ≤ length (p.shapes ++ shape ∷ []) = omega (arith, length-append p.shapes (shape ∷ [])) in
    let room : length p.models < length (p.models ++ model ∷ []) = omega (arith, length-append p.models (model ∷ [])) in
    let grown : IsNoSmaller p new = record { shapes = long; models = omega arith } in
    let this : IsModelOf new (length p.models) model = record {
      named = named;
      typed = All-weaker (λ (q : Property). q.of.0 < length p.shapes) (λ (q : Property). q.of.0 < length (p.shapes ++ shape ∷ [])) (λ q h. omega arith) model.properties typed;
      own = let P : ℕ → Type 0 = λ n. slice_get (p.shapes ++ shape ∷ []) n ≡ Some shape in subst P (sym own) (slice_get-end p.shapes shape);
    } in
    let here : IsShapeOf new (Model (record { 0 = length p.models })) = record {
      model = room;
      types = record { leads = λ k d h. absurd (omega arith); parts = λ k d h. absurd (omega arith) };
      plain = tt;
    } in
    record {
      shapes = All-push (λ s. IfSome s (IsShapeOf new)) p.shapes shape
          (All-weaker (λ s. IfSome s (IsShapeOf p)) (λ s. IfSome s (IsShapeOf new)) (IfSome-IsShapeOf-more p new grown) p.shapes b.shapes)
          here;
      models = λ number other h. elim (slice_get-last p.models model number other h) [
        | inl e ↦ IsModelOf-more p new number other long (λ i s q. slice_get-more p.shapes (shape ∷ []) i (Some s) q) (b.models number other e)
        | inr e ↦ let P : ℕ → Type 0 = λ n. IsModelOf new n other in subst P (sym e.0)
            (let Q : ModelType → Type 0 = λ m. IsModelOf new (length p.models) m in subst Q (sym e.1) this)
      ];
    }

pub IsBegun-define : (p : Plan) (t : ℕ) (shape : Shape) → IsBegun p → slice_get p.shapes t ≡ Some None → IsShapeOf p shape
    → IsBegun (record { shapes = slice_set p.shapes t (Some shape); models = p.models })
IsBegun-define p t shape b undefined names =
    let new : Plan = record { shapes = slice_set p.shapes t (Some shape); models = p.models } in
    let grown : IsNoSmaller p new = record { shapes = omega (arith, length-set p.shapes t (Some shape)); models = omega arith } in
    record {
      shapes = All-set (λ s. IfSome s (IsShapeOf new)) p.shapes t (Some shape) (IsShapeOf-more p new shape grown names)
          (All-weaker (λ s. IfSome s (IsShapeOf p)) (λ s. IfSome s (IsShapeOf new)) (IfSome-IsShapeOf-more p new grown) p.shapes b.shapes);
      models = λ number model h. IsModelOf-more p new number model (omega (arith, length-set p.shapes t (Some shape)))
          (λ i s e. slice_get-set p.shapes i t (Some s) (Some shape) None e undefined (λ q. cc)) (b.models number model h);
    }

map_some-injective : {X : Type 0} (xs ys : List X) → map Some xs ≡ map Some ys → xs ≡ ys
map_some-injective [] [] h = refl
map_some-injective [] (y ∷ ys) h = cc
map_some-injective (x ∷ xs) [] h = cc
map_some-injective (x ∷ xs) (y ∷ ys) h =
    let rest : map Some xs ≡ map Some ys = cc in
    let first : Some x ≡ Some y = cc in
    let tails = map_some-injective xs ys rest in
    cc

-- two tables of one plan are the same
pub same_table : (a b : Table) → plan_of a ≡ plan_of b → a ≡ b
same_table a b h =
    let shapes : a.shapes ≡ b.shapes = map_some-injective a.shapes b.shapes (ap (λ (p : Plan). p.shapes) h) in
    let models : a.models ≡ b.models = ap (λ (p : Plan). p.models) h in
    λ i. record { shapes = shapes i; models = models i }

-- the shapes of a begun table are its own
pub IsShapeOf-begun : (table : Table) → IsBegun (plan_of table) → All (IsShapeOf (plan_of table)) table.shapes
IsShapeOf-begun table begun = λ k d within.
    let P : Option Shape → Type 0 = λ s. IfSome s (IsShapeOf (plan_of table)) in
    subst P (get_or-map Some table.shapes k d) (begun.shapes k (Some d) (omega (arith, length-map table.shapes Some)))

pub AreKnown-begun : (table : Table) → IsBegun (plan_of table) → AreKnown table
AreKnown-begun table begun = All-weaker (IsShapeOf (plan_of table)) (λ (shape : Shape). All (λ (u : TypeNo). u.0 < length table.shapes) (leads_of shape))
    (λ shape h. All-weaker (λ (u : TypeNo). u.0 < length (map Some table.shapes)) (λ (u : TypeNo). u.0 < length table.shapes)
    (λ u l. omega (arith, length-map table.shapes Some)) (leads_of shape) h.types.leads) table.shapes (IsShapeOf-begun table begun)

pub HoldsPlain-begun : (table : Table) → IsBegun (plan_of table) → All HoldsPlain table.shapes
HoldsPlain-begun table begun = All-weaker (IsShapeOf (plan_of table)) HoldsPlain (λ shape h. h.plain) table.shapes (IsShapeOf-begun table begun)

-- Runs that come to the same: the same outcome, as many expressions in the body, as many in all.
use Rattle.std.proofs.Common.{◌≡◌, ℕ, ◌+◌, List, [], ◌∷◌, ◌++◌, Result, Ok, Err, refl, sym, ◌∙◌, ap, subst, add_assoc, zero-add, add-zero, arith}
use Rattle.eval_core.specs.Run.{Eval, Run, Fault, Entered, lift, joined, ended, continued, andthen}
use Rattle.view_engine.specs.Did.{counted_within, cost_of}

pub within-append : (xs ys : List Entered) → counted_within (xs ++ ys) ≡ counted_within xs + counted_within ys
within-append [] ys = sym (zero-add (counted_within ys))
within-append (e ∷ es) ys = ap (λ n. e.own + n) (within-append es ys) ∙ sym (add_assoc e.own (counted_within es) (counted_within ys))

pub cost-joined : {A B : Type 0} (a : Run A) (b : Run B) → cost_of (joined a b) ≡ cost_of a + cost_of b
unfolding joined
cost-joined a b = let e = within-append a.entered b.entered in omega arith

pub record Alike {A : Type 0} (a b : Run A) : Type 0 where
  pub outcome : a.outcome ≡ b.outcome
  pub own : a.own ≡ b.own
  pub cost : cost_of a ≡ cost_of b

pub alike-same : {A : Type 0} (a : Run A) → Alike a a
alike-same a = record { outcome = refl; own = refl; cost = refl }

pub alike-sym : {A : Type 0} (a b : Run A) → Alike a b → Alike b a
alike-sym a b h = record { outcome = sym h.outcome; own = sym h.own; cost = sym h.cost }

pub alike-trans : {A : Type 0} (a b c : Run A) → Alike a b → Alike b c → Alike a c
alike-trans a b c h k = record { outcome = h.outcome ∙ k.outcome; own = h.own ∙ k.own; cost = h.cost ∙ k.cost }

joined-alike : {A B : Type 0} (a c : Run A) (b d : Run B) → a.own ≡ c.own → cost_of a ≡ cost_of c → Alike b d → Alike (joined a b) (joined c d)
unfolding joined
joined-alike a c b d own cost h = record {
  outcome = h.outcome;
  own = let k = h.own in cc;
  cost = cost-joined a b ∙ (let k = h.cost in let sums : cost_of a + cost_of b ≡ cost_of c + cost_of d = cc in sums ∙ sym (cost-joined c d));
}

ended-alike : {A B : Type 0} (a c : Run A) (fault : Fault) → a.own ≡ c.own → cost_of a ≡ cost_of c → Alike {A = B} (ended a fault) (ended c fault)
unfolding ended
ended-alike a c fault own cost = record { outcome = refl; own = own; cost = cost }

continued-alike : {A B : Type 0} (a c : Run A) (f g : A → Run B) (o : Result A Fault) → a.own ≡ c.own → cost_of a ≡ cost_of c
    → ((x : A) → Alike (f x) (g x)) → Alike (continued a f o) (continued c g o)
continued-alike a c f g (Ok x) own cost h = joined-alike a c (f x) (g x) own cost (h x)
continued-alike a c f g (Err fault) own cost h = ended-alike a c fault own cost

-- the first and what follows it may each be put in another's place
pub alike-then : {A B : Type 0} (e f : Eval A) (g h : A → Eval B) (n : ℕ) → Alike (e n) (f n) → ((x : A) (m : ℕ) → Alike (g x m) (h x m)) → Alike (andthen e g n) (andthen f h n)
unfolding andthen
alike-then e f g h n first next =
    let after : (x : _) → Alike (g x (n + (e n).own)) (h x (n + (f n).own)) =
    λ x. subst (λ m. Alike (g x (n + (e n).own)) (h x m)) (ap (λ m. n + m) first.own) (next x (n + (e n).own)) in
    subst (λ o. Alike (continued (e n) (λ x. g x (n + (e n).own)) (e n).outcome) (continued (f n) (λ x. h x (n + (f n).own)) o)) first.outcome
    (continued-alike (e n) (f n) (λ x. g x (n + (e n).own)) (λ x. h x (n + (f n).own)) (e n).outcome first.own first.cost after)

-- an outcome that counts nothing, before or after
pub alike-gives : {A B : Type 0} (x : A) (f : A → Eval B) (n : ℕ) → Alike (andthen (lift (Ok x)) f n) (f x n)
unfolding andthen lift joined
alike-gives x f n =
    subst (λ m. Alike (joined (lift (Ok x) n) (f x m)) (f x n)) (sym (add-zero n))
    (record { outcome = refl; own = zero-add (f x n).own; cost = ap (λ k. k + counted_within (f x n).entered) (zero-add (f x n).own) })

three : {A B C : Type 0} (a : Run A) (b : Run B) (c d : Run C) → Alike c d → Alike (joined (joined a b) c) (joined a (joined b d))
unfolding joined
three a b c d h = record {
  outcome = h.outcome;
  own = let k = h.own in omega arith;
  cost = let k = h.cost in let p = cost-joined (joined a b) c in let q = cost-joined a b in let r = cost-joined a (joined b d) in let s = cost-joined b d in omega arith;
}

two_ended : {A B C : Type 0} (a : Run A) (b : Run B) (fault : Fault) → Alike {A = C} (ended (joined a b) fault) (joined a (ended b fault))
unfolding joined ended
two_ended a b fault = record { outcome = refl; own = refl; cost = refl }

inner : {A B C : Type 0} (a : Run A) (b : Run B) (f g : B → Run C) (o : Result B Fault) → ((y : B) → Alike (f y) (g y))
    → Alike (continued (joined a b) f o) (joined a (continued b g o))
inner a b f g (Ok y) h = three a b (f y) (g y) (h y)
inner a b f g (Err fault) h = two_ended a b fault

ended_twice : {A C : Type 0} (B : Type 0) (a : Run A) (fault : Fault) → Alike {A = C} (ended (ended {B = B} a fault) fault) (ended a fault)
unfolding ended
ended_twice B a fault = record { outcome = refl; own = refl; cost = refl }

outer : {A B C : Type 0} (n : ℕ) (a : Run A) (f : A → Eval B) (g : B → Eval C) (o : Result A Fault)
    → Alike
    (continued (continued a (λ x. f x (n + a.own)) o) (λ y. g y (n + (continued a (λ x. f x (n + a.own)) o).own)) (continued a (λ x. f x (n + a.own)) o).outcome)
    (continued a (λ x. andthen (f x) g (n + a.own)) o)
unfolding andthen joined ended
outer {A} {B} {C} n a f g (Ok x) =
    let b : Run B = f x (n + a.own) in
    inner a b (λ y. g y (n + (a.own + b.own))) (λ y. g y (n + a.own + b.own)) b.outcome
    (λ y. subst (λ m. Alike (g y (n + (a.own + b.own))) (g y m)) (sym (add_assoc n a.own b.own)) (alike-same (g y (n + (a.own + b.own)))))
outer {A} {B} {C} n a f g (Err fault) = ended_twice B a fault

-- what follows may be put together first
pub alike-assoc : {A B C : Type 0} (e : Eval A) (f : A → Eval B) (g : B → Eval C) (n : ℕ) → Alike (andthen (andthen e f) g n) (andthen e (λ x. andthen (f x) g) n)
unfolding andthen
alike-assoc e f g n = outer n (e n) f g (e n).outcome

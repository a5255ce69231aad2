-- Relations of what is told, in a row.
use Rattle.std.specs.Prelude.{Option, Some, None}
use Rattle.edge_core.specs.Door.{BothTold}

pub both-map : {A : Type 0} (R S : A → A → Type 0) → ((a b : A) → R a b → S a b) → (x y : Option A) → BothTold R x y → BothTold S x y
both-map R S f None None r = tt
both-map R S f None (Some b) r = absurd r
both-map R S f (Some a) None r = absurd r
both-map R S f (Some a) (Some b) r = f a b r

pub both-then : {A : Type 0} (R S T : A → A → Type 0) → ((a b c : A) → R a b → S b c → T a c)
    → (x y z : Option A) → BothTold R x y → BothTold S y z → BothTold T x z
both-then R S T f None None None r s = tt
both-then R S T f None None (Some c) r s = absurd s
both-then R S T f None (Some b) z r s = absurd r
both-then R S T f (Some a) None z r s = absurd r
both-then R S T f (Some a) (Some b) None r s = absurd s
both-then R S T f (Some a) (Some b) (Some c) r s = f a b c r s

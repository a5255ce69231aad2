-- A fact of what is read, in each way of reading.
use Rattle.std.proofs.Common.{ℕ, List, Option, Some, None}
use Rattle.std.specs.Prelude.{IfSome, decimal}
use Rattle.expr_form.specs.Outcome.{Outcome, wrong, astray, reads, under, at, both, made, and_then, of_parts}
use Rattle.expr_form.specs.Numbers.{behind}

-- a fact of what is read, where something is
abbrev pub IfReads : {A : Type 0} → Outcome A → (A → Type 0) → Type 0
IfReads (wrong f) P = Unit {0}
IfReads (astray path) P = Unit {0}
IfReads (reads a) P = P a

abbrev pub Anything : {A : Type 0} → A → Type 0
Anything x = Unit {0}

pub anyhow : {A : Type 0} (o : Outcome A) → IfReads o Anything
anyhow (wrong f) = tt
anyhow (astray path) = tt
anyhow (reads a) = tt

pub made-fine : {A B : Type 0} (P : A → Type 0) (Q : B → Type 0) (f : A → B) (o : Outcome A) → ((a : A) → P a → Q (f a)) → IfReads o P → IfReads (made f o) Q
unfolding made
made-fine P Q f (wrong fault) h fine = tt
made-fine P Q f (astray path) h fine = tt
made-fine P Q f (reads a) h fine = h a fine

pub both-fine : {A B : Type 0} (P : A → Type 0) (Q : B → Type 0) (o : Outcome A) (u : Outcome B) → IfReads o P → IfReads u Q → IfReads (both o u) (λ q. P q.0 × Q q.1)
unfolding both
both-fine P Q (wrong f) u h k = tt
both-fine P Q (astray path) (wrong f) h k = tt
both-fine P Q (astray path) (astray other) h k = tt
both-fine P Q (astray path) (reads b) h k = tt
both-fine P Q (reads a) (wrong f) h k = tt
both-fine P Q (reads a) (astray path) h k = tt
both-fine P Q (reads a) (reads b) h k = (h, k)

pub under-fine : {A : Type 0} (P : A → Type 0) (token : List ℕ) (o : Outcome A) → IfReads o P → IfReads (under token o) P
unfolding under
under-fine P token (wrong f) h = tt
under-fine P token (astray path) h = tt
under-fine P token (reads a) h = h

pub at-fine : {A : Type 0} (P : A → Type 0) (i : ℕ) (o : Outcome A) → IfReads o P → IfReads (at i o) P
at-fine P i o h = under-fine P (decimal i) o h

pub of_parts-fine : {A B : Type 0} (P : A → Type 0) (Q : B → Type 0) (o : Option A) (read : A → Outcome B) → IfSome o P → ((a : A) → P a → IfReads (read a) Q) → IfReads (of_parts o read) Q
unfolding of_parts
of_parts-fine P Q (Some a) read fine h = h a fine
of_parts-fine P Q None read fine h = tt

pub then-fine : {A B : Type 0} (P : A → Type 0) (Q : B → Type 0) (o : Outcome A) (next : A → Outcome B) → IfReads o P → ((a : A) → P a → IfReads (next a) Q) → IfReads (and_then o next) Q
unfolding and_then
then-fine P Q (wrong f) next fine h = tt
then-fine P Q (astray path) next fine h = tt
then-fine P Q (reads a) next fine h = h a fine

pub behind-fine : {A : Type 0} (P : Type 0) (Q : A → Type 0) (o : Outcome (Unit {0})) (rest : Outcome A) → IfReads o (λ u. P) → (P → IfReads rest Q) → IfReads (behind o rest) Q
behind-fine P Q (wrong f) rest h k = tt
behind-fine P Q (astray path) rest h k = tt
behind-fine P Q (reads u) rest h k = k h

-- and of less
pub weaken : {A : Type 0} (P Q : A → Type 0) (o : Outcome A) → ((a : A) → P a → Q a) → IfReads o P → IfReads o Q
weaken P Q (wrong f) h fine = tt
weaken P Q (astray path) h fine = tt
weaken P Q (reads a) h fine = h a fine

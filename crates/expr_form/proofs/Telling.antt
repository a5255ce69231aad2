-- Results of parts tell what their definitions say of them.
use Rattle.std.proofs.Common.{◌≡◌, ℕ, List, [], ◌∷◌, Result, Ok, Err, Option, Some, None, sym, ◌∙◌, ap, subst}
use Rattle.snap_core.specs.declared.number.ModelNo.{ModelNo}
use Rattle.pointer_core.specs.declared.schema_rule.SchemaRule.{SchemaRule}
use Rattle.pointer_core.specs.declared.schema_rule.SchemaRule.TheVariants.{Shape}
use Rattle.expr_syntax.specs.Syntax.{Expression}
use Rattle.expr_form.specs.declared.fault.Fault.{Fault}
use Rattle.expr_form.specs.declared.fault.Trouble.{Trouble}
use Rattle.expr_form.specs.declared.fault.Trouble.TheVariants.{Memory, Wrong, Astray}
use Rattle.expr_form.specs.Results.{lowered, both_of, aimed_of, IsOrMemory, Makes}
use Rattle.expr_form.specs.Outcome.{Outcome, wrong, astray, reads, here, under, both, made, Tells, of_parts}
use Rattle.expr_form.specs.Expressions.{aimed}

module _ {A B : Type 0} (seen : A → B) where
  -- one step further down
  pub tells-lowered : (token : List ℕ) (inner result : Result A Trouble) (o : Outcome B) → IsOrMemory result (lowered token inner) → Tells seen inner o → Tells seen result (under token o)
  unfolding under
  tells-lowered token inner (Err Memory) o is h = tt
  tells-lowered token (Ok a) (Ok b) o is h = let same : b ≡ a = cc in ap (under token) h ∙ ap (λ x. reads (seen x)) (sym same)
  tells-lowered token (Err trouble) (Ok b) o is h = absurd cc
  tells-lowered token (Ok a) (Err (Wrong f)) o is h = absurd cc
  tells-lowered token (Ok a) (Err (Astray p)) o is h = absurd cc
  tells-lowered token (Err Memory) (Err (Wrong f)) o is h = absurd cc
  tells-lowered token (Err Memory) (Err (Astray p)) o is h = absurd cc
  tells-lowered token (Err (Wrong g)) (Err (Wrong f)) o is h =
      let low : Fault = record { path = token ∷ g.path; rule = g.rule } in
      let same : f ≡ low = cc in ap (under token) h ∙ ap wrong (sym same)
  tells-lowered token (Err (Wrong g)) (Err (Astray p)) o is h = absurd cc
  tells-lowered token (Err (Astray q)) (Err (Wrong f)) o is h = absurd cc
  tells-lowered token (Err (Astray q)) (Err (Astray p)) o is h = let same : p ≡ token ∷ q = cc in ap (under token) h ∙ ap astray (sym same)

  -- a rule that isn't met here
  pub tells-here : (t : Trouble) (rule : SchemaRule) (o : Outcome B) → t ≡ Wrong (record { path = []; rule = rule }) → o ≡ here rule → Tells seen (Err t) o
  tells-here t rule o is h = let P : Trouble → Type 0 = λ x. Tells seen (Err x) o in subst P (sym is) h

  -- the same outcome by another name
  pub tells-same : (result : Result A Trouble) (o p : Outcome B) → p ≡ o → Tells seen result o → Tells seen result p
  tells-same result o p same h = let P : Outcome B → Type 0 = Tells seen result in subst P (sym same) h

  -- what has the parts reads as they do; what hasn't is at fault
  pub tells-parts : {P : Type 0} (parts : Option P) (p : P) (read : P → Outcome B) (result : Result A Trouble) → parts ≡ Some p → Tells seen result (read p) → Tells seen result (of_parts parts read)
  unfolding of_parts
  tells-parts parts p read result is h = tells-same result (read p) (of_parts parts read) (ap (λ x. of_parts x read) is) h

  pub tells-no_parts : {P : Type 0} (parts : Option P) (read : P → Outcome B) (t : Trouble) → parts ≡ None → t ≡ Wrong (record { path = []; rule = Shape }) → Tells seen (Err t) (of_parts parts read)
  unfolding of_parts
  tells-no_parts parts read t is bad = tells-here t Shape (of_parts parts read) bad (ap (λ x. of_parts x read) is)

  -- what is made of a part
  pub tells-made : {C D : Type 0} (given : C → D) (f : B → D) (part : Result A Trouble) (result : Result C Trouble) (o : Outcome B)
      → Makes (λ a c. given c ≡ f (seen a)) part result → Tells seen part o → Tells given result (made f o)
  unfolding made
  tells-made given f part (Err Memory) o fits h = tt
  tells-made given f (Ok a) (Ok c) o fits h = ap (made f) h ∙ ap reads (sym fits)
  tells-made given f (Err t) (Ok c) o fits h = absurd fits
  tells-made given f (Ok a) (Err (Wrong x)) o fits h = absurd fits
  tells-made given f (Ok a) (Err (Astray p)) o fits h = absurd fits
  tells-made given f (Err Memory) (Err (Wrong x)) o fits h = absurd cc
  tells-made given f (Err Memory) (Err (Astray p)) o fits h = absurd cc
  tells-made given f (Err (Wrong y)) (Err (Wrong x)) o fits h = let same : y ≡ x = cc in ap (made f) h ∙ ap wrong same
  tells-made given f (Err (Wrong y)) (Err (Astray p)) o fits h = absurd cc
  tells-made given f (Err (Astray q)) (Err (Wrong x)) o fits h = absurd cc
  tells-made given f (Err (Astray q)) (Err (Astray p)) o fits h = let same : q ≡ p = cc in ap (made f) h ∙ ap astray same

-- two parts
module _ {A B C D : Type 0} (f : A → B) (g : C → D) where
  pair-told : (first : Result A Trouble) (second : Result C Trouble) (o : Outcome B) (p : Outcome D) → Tells f first o → Tells g second p → Tells (λ (q : A × C). (f q.0, g q.1)) (both_of first second) (both o p)
  unfolding both
  pair-told (Err Memory) second o p h k = tt
  pair-told (Err (Wrong x)) second o p h k = ap (λ z. both z p) h
  pair-told (Err (Astray q)) (Err Memory) o p h k = tt
  pair-told (Err (Astray q)) (Err (Wrong x)) o p h k = ap (λ z. both z p) h ∙ ap (both (astray q)) k
  pair-told (Err (Astray q)) (Err (Astray r)) o p h k = ap (λ z. both z p) h ∙ ap (both (astray q)) k
  pair-told (Err (Astray q)) (Ok c) o p h k = ap (λ z. both z p) h ∙ ap (both (astray q)) k
  pair-told (Ok a) (Err Memory) o p h k = tt
  pair-told (Ok a) (Err (Wrong x)) o p h k = ap (λ z. both z p) h ∙ ap (both (reads (f a))) k
  pair-told (Ok a) (Err (Astray r)) o p h k = ap (λ z. both z p) h ∙ ap (both (reads (f a))) k
  pair-told (Ok a) (Ok c) o p h k = ap (λ z. both z p) h ∙ ap (both (reads (f a))) k

  pub tells-both : (first : Result A Trouble) (second : Result C Trouble) (result : Result (A × C) Trouble) (o : Outcome B) (p : Outcome D)
      → result ≡ both_of first second → Tells f first o → Tells g second p → Tells (λ (q : A × C). (f q.0, g q.1)) result (both o p)
  tells-both first second result o p is h k =
      let P : Result (A × C) Trouble → Type 0 = λ r. Tells (λ (q : A × C). (f q.0, g q.1)) r (both o p) in
      subst P (sym is) (pair-told first second o p h k)

module _ {A B : Type 0} (seen : A → B) where
  -- what is given for a part that is told
  pub tells-given : {C : Type 0} (given : C → B) (part : Result A Trouble) (result : Result C Trouble) (o : Outcome B)
      → Makes (λ a c. given c ≡ seen a) part result → Tells seen part o → Tells given result o
  tells-given given part (Err Memory) o fits h = tt
  tells-given given (Ok a) (Ok c) o fits h = h ∙ ap reads (sym fits)
  tells-given given (Err t) (Ok c) o fits h = absurd fits
  tells-given given (Ok a) (Err (Wrong x)) o fits h = absurd fits
  tells-given given (Ok a) (Err (Astray p)) o fits h = absurd fits
  tells-given given (Err Memory) (Err (Wrong x)) o fits h = absurd cc
  tells-given given (Err Memory) (Err (Astray p)) o fits h = absurd cc
  tells-given given (Err (Wrong y)) (Err (Wrong x)) o fits h = let same : y ≡ x = cc in h ∙ ap wrong same
  tells-given given (Err (Wrong y)) (Err (Astray p)) o fits h = absurd cc
  tells-given given (Err (Astray q)) (Err (Wrong x)) o fits h = absurd cc
  tells-given given (Err (Astray q)) (Err (Astray p)) o fits h = let same : q ≡ p = cc in h ∙ ap astray same

  -- what is seen of what is told
  pub tells-mapped : {D : Type 0} (f : B → D) (part : Result A Trouble) (o : Outcome B) → Tells seen part o → Tells (λ a. f (seen a)) part (made f o)
  unfolding made
  tells-mapped f (Ok a) o h = ap (made f) h
  tells-mapped f (Err Memory) o h = tt
  tells-mapped f (Err (Wrong x)) o h = ap (made f) h
  tells-mapped f (Err (Astray p)) o h = ap (made f) h

-- a part where a model is wanted
module _ {A : Type 0} (seen : A → Expression) (form : ModelNo → Expression → Expression) where
  aimed-told : (target : Option ModelNo) (part : Result A Trouble) (o : Outcome Expression) → Tells seen part o
      → Tells (λ (p : ModelNo × A). form p.0 (seen p.1)) (aimed_of target part) (aimed form target o)
  unfolding aimed
  aimed-told None (Err Memory) o h = tt
  aimed-told (Some m) (Err Memory) o h = tt
  aimed-told None (Err (Wrong f)) o h = ap (aimed form None) h
  aimed-told (Some m) (Err (Wrong f)) o h = ap (aimed form (Some m)) h
  aimed-told None (Err (Astray p)) o h = ap (aimed form None) h
  aimed-told None (Ok a) o h = ap (aimed form None) h
  aimed-told (Some m) (Err (Astray p)) o h = ap (aimed form (Some m)) h
  aimed-told (Some m) (Ok a) o h = ap (aimed form (Some m)) h

  pub tells-aimed : {C : Type 0} (given : C → Expression) (target : Option ModelNo) (part : Result A Trouble) (result : Result C Trouble) (o : Outcome Expression)
      → Makes (λ p c. given c ≡ form p.0 (seen p.1)) (aimed_of target part) result → Tells seen part o → Tells given result (aimed form target o)
  tells-aimed given target part result o fits h =
      tells-given (λ (p : ModelNo × A). form p.0 (seen p.1)) given (aimed_of target part) result (aimed form target o) fits (aimed-told target part o h)

-- A key and its value tell what is read of them under a key that must be a name.
use Rattle.std.proofs.Common.{◌≡◌, true, false, if◌then◌else◌, Result, Ok, Err, refl, sym, ap, subst}
use Rattle.expr_form.specs.declared.fault.Fault.{Fault}
use Rattle.expr_form.specs.declared.fault.Trouble.{Trouble}
use Rattle.expr_form.specs.declared.fault.Trouble.TheVariants.{Memory, Wrong, Astray}
use Rattle.expr_form.specs.Results.{both_of}
use Rattle.expr_form.specs.Outcome.{Outcome, wrong, astray, reads, both, Tells}
use Rattle.expr_form.proofs.Telling.{tells-both, tells-same}
use Rattle.behaviour_form.specs.Named.{is_here, named, named_of}

module _ {A B C D : Type 0} (f : A → B) (g : C → D) where
  abbrev Pair : A × C → B × D
  Pair q = (f q.0, g q.1)

  -- a fault of the value: here it comes first, and inside the value behind the key
  named-fault : (key : Result A Trouble) (x : Fault) (o : Outcome B) → Tells f key o → Tells Pair (named_of key (Err (Wrong x))) (named o (wrong x))
  unfolding named
  named-fault key x o h =
      elim (is_here x.path) as (λ b. Tells Pair (if b then Err (Wrong x) else both_of key (Err (Wrong x))) (if b then wrong x else both o (wrong x))) [
        | true ↦ refl
        | false ↦ tells-both f g key (Err (Wrong x)) (both_of key (Err (Wrong x))) o (wrong x) refl h refl
      ]

  named-told : (key : Result A Trouble) (value : Result C Trouble) (o : Outcome B) (p : Outcome D) → Tells f key o → Tells g value p → Tells Pair (named_of key value) (named o p)
  unfolding named
  named-told key (Ok c) o p h k =
      tells-same Pair (both_of key (Ok c)) (both o (reads (g c))) (named o p) (ap (named o) k) (tells-both f g key (Ok c) (both_of key (Ok c)) o (reads (g c)) refl h refl)
  named-told key (Err Memory) o p h k = tt
  named-told key (Err (Wrong x)) o p h k = tells-same Pair (named_of key (Err (Wrong x))) (named o (wrong x)) (named o p) (ap (named o) k) (named-fault key x o h)
  named-told key (Err (Astray q)) o p h k =
      tells-same Pair (both_of key (Err (Astray q))) (both o (astray q)) (named o p) (ap (named o) k)
      (tells-both f g key (Err (Astray q)) (both_of key (Err (Astray q))) o (astray q) refl h refl)

  pub tells-named : (key : Result A Trouble) (value : Result C Trouble) (result : Result (A × C) Trouble) (o : Outcome B) (p : Outcome D)
      → result ≡ named_of key value → Tells f key o → Tells g value p → Tells (λ (q : A × C). (f q.0, g q.1)) result (named o p)
  tells-named key value result o p is h k =
      let P : Result (A × C) Trouble → Type 0 = λ r. Tells (λ (q : A × C). (f q.0, g q.1)) r (named o p) in
      subst P (sym is) (named-told key value o p h k)

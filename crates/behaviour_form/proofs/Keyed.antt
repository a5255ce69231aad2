-- The kinds of middleware, by the only key of an object.
use Rattle.std.proofs.Common.{◌≡◌, ℕ, List, [], ◌∷◌, codes, length, get_or, true, false, if◌then◌else◌, Bool, refl, ◌∙◌, ap, arith}
use Rattle.std.specs.Str.{bytes_eq}
use Rattle.snap_core.specs.Value.{Value, dict}
use Rattle.snap_core.specs.View.{view, fields_view}
use Rattle.snap_core.specs.declared.snap.Field.{Field}
use Rattle.snap_core.proofs.Views.{entry-fields}
use Rattle.pointer_core.specs.declared.schema_rule.SchemaRule.TheVariants.{Shape}
use Rattle.expr_form.specs.Outcome.{Outcome, here, under, made}
use Rattle.expr_form.specs.Models.{Lookup}
use Rattle.expr_form.specs.Expressions.{Names}
use Rattle.model_syntax.specs.Shown.{ShownMiddleware, atomic}
use Rattle.behaviour_form.specs.Middleware.{surrounded_read, protect_read, keyed_read, one_read}

module _ (lookup : Lookup) (names : Names) where
  kind_read : List ℕ → Value → Bool → Bool → Outcome ShownMiddleware
  kind_read k v first second = if first then under k (made atomic (surrounded_read v)) else if second then under k (protect_read lookup names v) else here Shape

  pub keyed-atomic : (k : List ℕ) (v : Value) → bytes_eq k (codes "atomic") ≡ true → keyed_read lookup names k v ≡ under k (made atomic (surrounded_read v))
  unfolding kind_read
  keyed-atomic k v is = ap (λ b. kind_read k v b (bytes_eq k (codes "protect"))) is

  pub keyed-protect : (k : List ℕ) (v : Value) → bytes_eq k (codes "atomic") ≡ false → bytes_eq k (codes "protect") ≡ true → keyed_read lookup names k v ≡ under k (protect_read lookup names v)
  unfolding kind_read
  keyed-protect k v other is = ap (λ b. kind_read k v b (bytes_eq k (codes "protect"))) other ∙ ap (kind_read k v false) is

  pub one-other : (fs : List Field) → (length fs ≡ 1 → ⊥) → one_read lookup names (dict tt (fields_view fs)) ≡ here Shape
  one-other [] other = refl
  one-other (f ∷ []) other = absurd (other refl)
  one-other (f ∷ g ∷ fs) other = refl

  pub one-keyed : (fs : List Field) (f : Field) → length fs ≡ 1 → f ≡ get_or fs 0 f → one_read lookup names (dict tt (fields_view fs)) ≡ keyed_read lookup names f.key (view f.value)
  one-keyed [] f one here = absurd (omega (arith, one))
  one-keyed (g ∷ []) f one here = rw (here) (rw (entry-fields g) refl)
  one-keyed (g ∷ h ∷ fs) f one here = absurd (omega (arith, one))

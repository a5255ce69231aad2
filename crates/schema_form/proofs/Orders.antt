-- What stands in a record whose keys are in order.
use Rattle.std.proofs.Common.{◌≡◌, ℕ, zero, suc, ◌<◌, List, [], ◌∷◌, length, get_or, true, false, Some, None, codes, if◌then◌else◌, sym, subst, arith}
use Rattle.std.specs.Str.{bytes_eq}
use Rattle.snap_core.specs.Value.{Value, null, boolean, integer, text, list, dict, no_members, member, IsOrdered, AreKeyed, AreOrderedMembers, Fields}
use Rattle.snap_core.specs.declared.snap.Field.{Field}
use Rattle.snap_core.specs.View.{view, fields_view}
use Rattle.snap_core.proofs.Keys.{AreKeyed-ordered}
use Rattle.snap_core.proofs.Views.{entry-fields}
use Rattle.schema_form.specs.Entries.{entries, model_in}

pub keyed_by_order : (ms : Fields) → AreOrderedMembers ms → AreKeyed ms
keyed_by_order = AreKeyed-ordered

pub AreKeyed-entries : (v : Value) → IsOrdered v → AreKeyed (entries v)
AreKeyed-entries (dict a ms) h = AreKeyed-ordered ms h
AreKeyed-entries null h = tt
AreKeyed-entries (boolean b) h = tt
AreKeyed-entries (integer z) h = tt
AreKeyed-entries (text s) h = tt
AreKeyed-entries (list a ps) h = tt

value_in : (gs : List Field) (i : ℕ) (d : Field) → AreOrderedMembers (fields_view gs) → i < length gs → IsOrdered (view (get_or gs i d).value)
value_in [] i d ordered within = absurd (omega arith)
value_in (g ∷ gs) zero d ordered within = let P : List ℕ × Value → Type 0 = λ e. IsOrdered e.1 in subst P (entry-fields g) ordered.0
value_in (g ∷ gs) (suc i) d ordered within = value_in gs i d ordered.2 (omega arith)

pub ordered_value : (fs : List Field) (at : ℕ) (f : Field) → AreOrderedMembers (fields_view fs) → at < length fs → f ≡ get_or fs at f → IsOrdered (view f.value)
ordered_value fs at f ordered within is =
    let P : Field → Type 0 = λ g. IsOrdered (view g.value) in
    subst P (sym is) (value_in fs at f ordered within)

-- a model stands in order where its entry does
pub model-ordered : (v model : Value) → model_in v ≡ Some model → IsOrdered v → IsOrdered model
model-ordered (dict a (member k w no_members)) model is ordered =
    elim (bytes_eq k (codes "model")) as (λ b. (if b then Some w else None) ≡ Some model → IsOrdered model) [
      | true ↦ λ h. let same : w ≡ model = cc h in let P : Value → Type 0 = IsOrdered in subst P same ordered.0
      | false ↦ λ h. cc
    ] is
model-ordered (dict a no_members) model is ordered = absurd cc
model-ordered (dict a (member k w (member l x ms))) model is ordered = absurd cc
model-ordered null model is ordered = absurd cc
model-ordered (boolean b) model is ordered = absurd cc
model-ordered (integer z) model is ordered = absurd cc
model-ordered (text s) model is ordered = absurd cc
model-ordered (list a ps) model is ordered = absurd cc

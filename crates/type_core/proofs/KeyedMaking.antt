-- What a map's type makes of a value under a key.
use Rattle.std.proofs.Common.{◌≡◌, ℕ, List, Bool, true, false, Option, Some, Result, Ok, Err, IfOk, if◌then◌else◌}
use Rattle.snap_core.specs.declared.snap.Snap.{Snap}
use Rattle.snap_core.specs.declared.ident.Ident.{Ident}
use Rattle.snap_core.specs.Value.{Value, IsPlain}
use Rattle.snap_core.specs.View.{view}
use Rattle.pointer_core.specs.declared.refusal.Rule.TheVariants.{Key}
use Rattle.type_core.specs.declared.making.MakeError.{MakeError}
use Rattle.type_table.specs.Table.{Catalog}
use Rattle.type_table.specs.Identifiers.{ident_in, is_keyed}
use Rattle.type_core.specs.Judging.{judged_by}
use Rattle.type_core.specs.Making.{Outcome, keyed, refused, limited, maker_of, entry_making}
use Rattle.type_core.specs.Made.{Answers}
use Rattle.type_core.specs.Sound.{IsSound}
use Rattle.type_core.proofs.Again.{making-plain}

-- it is what the type of the values makes
by_key : (stands : Bool) (v s : Value) → limited (if stands then Ok v else refused Key) ≡ Ok s → limited (Ok v) ≡ Ok s
by_key true v s h = h
by_key false v s h = absurd (cc)

unkeyed : (key : List ℕ) (identifier : Option Ident) (outcome : Outcome Value) (s : Value)
    → limited (keyed key identifier outcome) ≡ Ok s → limited outcome ≡ Ok s
unkeyed key identifier (Err e) s h = h
unkeyed key identifier (Ok v) s h = by_key (is_keyed key identifier) v s h

pub entry-plain : (types : Catalog) → IsSound types → (t : ℕ) (key : List ℕ) (v : Value) (result : Result Snap MakeError) → IsPlain v
    → Answers view result (entry_making types t key v) → IfOk result (λ s. IsPlain (view s))
entry-plain types sound t key v (Ok s) plain h =
    making-plain types sound t (Some v) (view s)
    (unkeyed key (ident_in types.table (judged_by types.table v t) v) (maker_of types.table types.defaults v t) (view s) h) plain
entry-plain types sound t key v (Err e) plain h = tt

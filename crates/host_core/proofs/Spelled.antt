-- What bodies spell is plain.
use Rattle.std.proofs.Common.{◌≡◌, ℕ, List, Bool, true, false, Option, Some, None, Result, Ok, Err, IfOk, refl, sym, subst, if◌then◌else◌}
use Rattle.std.specs.Prelude.{All, IfSome}
use Rattle.std.specs.Str.{is_utf8}
use Rattle.serde_json.specs.Data.{Data}
use Rattle.serde_json.specs.Read.{read}
use Rattle.snap_core.specs.Value.{Value, Items, list, IsPlain, ArePlain}
use Rattle.snap_core.specs.Value as value
use Rattle.patch_core.specs.Printing.{HasPlainValues}
use Rattle.patch_core.specs.declared.error.PatchError.{PatchError}
use Rattle.patch_core.specs.declared.patch.Patch.{Patch}
use Rattle.patch_core.proofs.ReadValues.{read_plain}
use Rattle.snap_json.specs.Reading.{value_of, found_in, found, syntax}
use Rattle.snap_json.proofs.Readings.{plain_read}
use Rattle.host_core.specs.Calling.{Call, CallText, Calls, CallsBy, CallsIn, call_text}
use Rattle.host_core.specs.Reading.{Read, Lists, ListsIn, Spells, value_in, value_read}
use Rattle.host_core.proofs.Called.{IsGivenPlain, text-plain}

-- what a body spells is plain
pub spelled-plain : (bytes : List ℕ) → IfOk (value_in bytes) (λ (v : Value). IsPlain v)
spelled-plain bytes = by-utf8 (is_utf8 bytes) where
  by-value : (d : Data) → read bytes ≡ Some d → (r : Result Value (List (List ℕ))) → value_of d ≡ r → IfOk (value_read (found r)) (λ (v : Value). IsPlain v)
  by-value d is (Ok v) e = plain_read bytes d v is e
  by-value d is (Err path) e = tt

  by-data : (o : Option Data) → read bytes ≡ o → IfOk (value_read (found_in o)) (λ (v : Value). IsPlain v)
  by-data None e = tt
  by-data (Some d) e = by-value d e (value_of d) refl

  by-utf8 : (b : Bool) → IfOk (value_read (if b then found_in (read bytes) else syntax)) (λ (v : Value). IsPlain v)
  by-utf8 true = by-data (read bytes) refl
  by-utf8 false = tt

-- patches that a plain value spells have plain values
pub values-plain : (v : Value) (patches : List Patch) → IsPlain v → Spells v (Ok patches) → All HasPlainValues patches
values-plain (list a vs) patches plain reads =
    let result : Result (List Patch) PatchError = Ok patches in read_plain result vs plain reads
values-plain value.null patches plain reads = absurd (cc (reads.0))
values-plain (value.boolean b) patches plain reads = absurd (cc (reads.0))
values-plain (value.integer z) patches plain reads = absurd (cc (reads.0))
values-plain (value.text t) patches plain reads = absurd (cc (reads.0))
values-plain (value.dict a ms) patches plain reads = absurd (cc (reads.0))

pub patches-plain : (body : List ℕ) (patches : List Patch) → Lists body (Ok patches) → All HasPlainValues patches
patches-plain body patches lists = by (value_in body) (spelled-plain body) lists where
  by : (read : Read Value) → IfOk read (λ (v : Value). IsPlain v) → ListsIn read (Ok patches) → All HasPlainValues patches
  by (Ok v) plain spells = values-plain v patches plain spells
  by (Err reply) plain spells = absurd (cc spells)

-- so is what an action is given
by-text : (o : Option CallText) (call : Call) → IfSome o IsGivenPlain → CallsBy o (Ok call) → ArePlain call.given
by-text None call plain calls = absurd (cc)
by-text (Some spelled) call plain calls = let P : Items → Type 0 = λ vs. ArePlain vs in subst P (sym calls.2) plain

pub calls-plain : (body : List ℕ) (call : Call) → Calls body (Ok call) → ArePlain call.given
calls-plain body call calls = by (value_in body) (spelled-plain body) calls where
  by : (read : Read Value) → IfOk read (λ (v : Value). IsPlain v) → CallsIn read (Ok call) → ArePlain call.given
  by (Ok v) plain found = by-text (call_text v) call (text-plain v plain) found
  by (Err reply) plain found = absurd (cc found)

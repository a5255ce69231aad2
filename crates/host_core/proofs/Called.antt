-- What bodies that call an action hold.
use Rattle.std.proofs.Common.{◌≡◌, ℕ, List, [], ◌∷◌, Bool, true, false, ◌&&◌, codes, Option, Some, None, refl, sym, ap, subst, ◌∙◌, if◌then◌else◌}
use Rattle.std.specs.Prelude.{IfSome, option_map}
use Rattle.std.specs.List.{list_all}
use Rattle.snap_core.specs.Value.{Value, Items, Fields, null, boolean, integer, text, list, dict, keys_of, value_at, IsPlain, ArePlain, ArePlainMembers, AreKeyed}
use Rattle.snap_core.specs.View.{entry, fields_view, items_view}
use Rattle.snap_core.specs.declared.snap.Field.{Field}
use Rattle.snap_core.proofs.Levels.{AreKeyed-of}
use Rattle.snap_core.proofs.PlainLevels.{AreOrderedMembers-of, IsPlain-value_at}
use Rattle.snap_core.proofs.Views.{entry-fields}
use Rattle.patch_core.specs.Reading.{text_in}
use Rattle.host_core.specs.declared.calling.CallText as declared
use Rattle.host_core.specs.Calling.{CallText, is_call_key, path_in, given_in, call_of, call_among, call_text, seen_text}

-- the keys of a record's fields
pub keys_all : (P : List ℕ → Bool) (fs : List Field) → list_all (λ (f : Field). P f.key) fs ≡ list_all P (keys_of (fields_view fs))
keys_all P [] = refl
keys_all P (f ∷ fs) =
    ap (λ (e : List ℕ × Value). P e.0 && list_all (λ (f : Field). P f.key) fs) (sym (entry-fields f)) ∙ ap (λ b. P (entry f).0 && b) (keys_all P fs)

pub plain_keyed : (ms : Fields) → ArePlainMembers ms → AreKeyed ms
plain_keyed ms plain = AreKeyed-of ms (AreOrderedMembers-of ms plain)

-- what an action is given is plain

given-plain : (ms : Fields) → ArePlainMembers ms → (o : Option Value) → value_at (codes "args") ms ≡ o → IfSome (given_in o) (λ vs. ArePlain vs)
given-plain ms plain None e = tt
given-plain ms plain (Some (list a vs)) e = IsPlain-value_at (codes "args") ms (list a vs) plain e
given-plain ms plain (Some null) e = tt
given-plain ms plain (Some (boolean b)) e = tt
given-plain ms plain (Some (integer z)) e = tt
given-plain ms plain (Some (text t)) e = tt
given-plain ms plain (Some (dict a fs)) e = tt

abbrev pub IsGivenPlain : CallText → Type 0
IsGivenPlain call = ArePlain call.given

call-plain : (path name : Option (List ℕ)) (given : Option Items) → IfSome given (λ vs. ArePlain vs) → IfSome (call_of path name given) IsGivenPlain
call-plain None name given plain = tt
call-plain (Some path) None given plain = tt
call-plain (Some path) (Some name) None plain = tt
call-plain (Some path) (Some name) (Some given) plain = plain

among-plain : (ms : Fields) → ArePlainMembers ms → IfSome (call_among ms) IsGivenPlain
among-plain ms plain = by (list_all is_call_key (keys_of ms)) where
  by : (b : Bool)
      → IfSome (if b then call_of (path_in (value_at (codes "path") ms)) (text_in (value_at (codes "name") ms)) (given_in (value_at (codes "args") ms)) else None) IsGivenPlain
  by true =
      call-plain (path_in (value_at (codes "path") ms)) (text_in (value_at (codes "name") ms)) (given_in (value_at (codes "args") ms))
      (given-plain ms plain (value_at (codes "args") ms) refl)
  by false = tt

pub text-plain : (v : Value) → IsPlain v → IfSome (call_text v) IsGivenPlain
text-plain (dict a ms) plain = among-plain ms plain
text-plain null plain = tt
text-plain (boolean b) plain = tt
text-plain (integer z) plain = tt
text-plain (text t) plain = tt
text-plain (list a vs) plain = tt

pub seen_plain : (ms : Fields) (call : Option declared.CallText) → ArePlainMembers ms → option_map seen_text call ≡ call_among ms
    → IfSome call (λ (c : declared.CallText). ArePlain (items_view c.given.now))
seen_plain ms None plain e = tt
seen_plain ms (Some c) plain e = let P : Option CallText → Type 0 = λ o. IfSome o IsGivenPlain in subst P (sym e) (among-plain ms plain)

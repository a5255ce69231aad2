-- What was read is plain, and no deeper than its text.
use Rattle.std.proofs.Common.{◌≡◌, ℕ, ◌+◌, ◌≤◌, ℤ, pos, List, [], Bool, true, false, cond, Some, None, Result, Ok, Err, IfOk, refl, ap, ◌∙◌, subst, arith}
use Rattle.std.specs.Prelude.{⊤}
use Rattle.std.specs.Option.{ok_or}
use Rattle.std.specs.Str.{IsUtf8, is_utf8}
use Rattle.std.proofs.lemmas.Str.{IsUtf8-from_is_utf8, is_utf8-from_IsUtf8}
use Rattle.serde_json.specs.Data as json
use Rattle.serde_json.specs.Data.{Num, Data, Items, depth, items_depth, members_depth}
use Rattle.serde_json.specs.Read.{read}
use Rattle.snap_core.specs.Value.{Value, integer, list, dict, part, member, IsPlain, ArePlain, ArePlainMembers, ComesBefore, keys_of, is_whole, depth_of, parts_depth, members_depth as record_depth, Items as PlainItems, Fields}
use Rattle.pointer_core.specs.Path.{Path}
use Rattle.snap_json.specs.declared.read.ReadError.{ReadError}
use Rattle.snap_json.specs.declared.read.ReadError.TheVariants.{Memory, Syntax, Whole}
use Rattle.snap_json.specs.Fault.{IfSyntax, IfWhole, IsFaultOf}
use Rattle.snap_json.specs.Reading.{unwhole, syntax, whole_of, under, mapped, joined, value_of, items_of, members_of, found, found_in, reading}
use Rattle.snap_json.proofs.Ordered.{AllAbove, IsOrdered, AreOrdered, Ascends, ordered-read}

IfOk-mapped : {A B : Type 0} (P : A → Type 0) (Q : B → Type 0) (f : A → B) → ((a : A) → P a → Q (f a)) → (r : Result A Path) → IfOk r P → IfOk (mapped f r) Q
IfOk-mapped P Q f step (Ok a) h = step a h
IfOk-mapped P Q f step (Err path) h = tt

anything : {A : Type 0} (r : Result A Path) → IfOk r (λ _. ⊤)
anything (Ok x) = tt
anything (Err path) = tt

IfOk-joined : {A B C : Type 0} (P : A → Type 0) (Q : B → Type 0) (R : C → Type 0) (f : A → B → C) → ((a : A) (b : B) → P a → Q b → R (f a b)) → (token : List ℕ) (r : Result A Path) (s : Result B Path) → IfOk r P → IfOk s Q → IfOk (joined f (under token r) s) R
IfOk-joined P Q R f step token (Ok a) s h hs = IfOk-mapped Q R (f a) (λ b. step a b h) s hs
IfOk-joined P Q R f step token (Err path) s h hs = tt

plain_number_at : (z : ℤ) (b : Bool) → is_whole z ≡ b → IfOk {T = Value} (mapped integer (ok_or (cond b (Some z) None) [])) IsPlain
plain_number_at z true is = is
plain_number_at z false is = tt

plain_number : (n : Num) → IfOk {T = Value} (mapped integer (ok_or (whole_of n) [])) IsPlain
plain_number (json.unsigned n) = plain_number_at (pos n) _ refl
plain_number (json.negative z) = plain_number_at z _ refl
plain_number (json.float x) = tt

-- ascending, and after each key that all the members come after
abbrev FollowsMembers : json.Members → Fields → Type 0
FollowsMembers ms found = ArePlainMembers found × ((k : List ℕ) → AllAbove k ms → ComesBefore k (keys_of found))

mutual
  plain-value_of : (d : Data) → IsOrdered d → IfOk (value_of d) IsPlain
  plain-value_of json.null h = tt
  plain-value_of (json.boolean b) h = tt
  plain-value_of (json.number n) h = plain_number n
  plain-value_of (json.string s) h = tt
  plain-value_of (json.array ds) h = IfOk-mapped ArePlain IsPlain (list (tt {0})) (λ ps p. p) _ (plain-items_of 0 ds h)
  plain-value_of (json.object ms) h = IfOk-mapped (FollowsMembers ms) IsPlain (dict (tt {0})) (λ ps p. p.0) _ (plain-members_of ms h)

  plain-items_of : (i : ℕ) (ds : Items) → AreOrdered ds → IfOk (items_of i ds) ArePlain
  plain-items_of i json.no_items h = tt
  plain-items_of i (json.item d ds) h = IfOk-joined IsPlain ArePlain ArePlain part (λ v ps p ps'. (p, ps')) _ _ _ (plain-value_of d h.0) (plain-items_of (i + 1) ds h.1)

  plain-members_of : (ms : json.Members) → Ascends ms → IfOk (members_of ms) (FollowsMembers ms)
  plain-members_of json.no_members h = (tt, λ k above. tt)
  plain-members_of (json.member k d ms) h =
      IfOk-joined IsPlain (FollowsMembers ms) (FollowsMembers (json.member k d ms)) (member k) (λ v found p ps. ((p, ps.1 k h.1, ps.0), λ l above. above.0)) _ _ _ (plain-value_of d h.0) (plain-members_of ms h.2)

abbrev IsWithin : ℕ → Value → Type 0
IsWithin n v = depth_of v ≤ n + 1

abbrev AreWithin : ℕ → PlainItems → Type 0
AreWithin n ps = parts_depth ps ≤ n + 1

abbrev RecordIsWithin : ℕ → Fields → Type 0
RecordIsWithin n ms = record_depth ms ≤ n + 1

mutual
  depth-value_of : (d : Data) → IfOk (value_of d) (IsWithin (depth d))
  depth-value_of json.null = omega arith
  depth-value_of (json.boolean b) = omega arith
  depth-value_of (json.number n) = IfOk-mapped (λ _. ⊤) (IsWithin 0) integer (λ z h. omega arith) (ok_or (whole_of n) []) (anything _)
  depth-value_of (json.string s) = omega arith
  depth-value_of (json.array ds) = IfOk-mapped (AreWithin (items_depth ds)) (IsWithin (depth (json.array ds))) (list (tt {0})) (λ ps p. omega (arith, p)) _ (depth-items_of 0 ds)
  depth-value_of (json.object ms) = IfOk-mapped (RecordIsWithin (members_depth ms)) (IsWithin (depth (json.object ms))) (dict (tt {0})) (λ ps p. omega (arith, p)) _ (depth-members_of ms)

  depth-items_of : (i : ℕ) (ds : Items) → IfOk (items_of i ds) (AreWithin (items_depth ds))
  depth-items_of i json.no_items = omega arith
  depth-items_of i (json.item d ds) =
      IfOk-joined (IsWithin (depth d)) (AreWithin (items_depth ds)) (AreWithin (items_depth (json.item d ds))) part (λ v ps p more. omega (arith, p, more)) _ _ _ (depth-value_of d) (depth-items_of (i + 1) ds)

  depth-members_of : (ms : json.Members) → IfOk (members_of ms) (RecordIsWithin (members_depth ms))
  depth-members_of json.no_members = omega arith
  depth-members_of (json.member k d ms) =
      IfOk-joined (IsWithin (depth d)) (RecordIsWithin (members_depth ms)) (RecordIsWithin (members_depth (json.member k d ms))) (member k) (λ v ps p more. omega (arith, p, more)) _ _ _ (depth-value_of d) (depth-members_of ms)

-- ---- the reading of bytes, from what was read

pub reading-utf8 : (bytes : List ℕ) (d : Data) → IsUtf8 bytes → read bytes ≡ Some d → reading bytes ≡ found (value_of d)
reading-utf8 bytes d utf8 is = rw (is_utf8-from_IsUtf8 bytes utf8, is) refl

reading_refused_at : (bytes : List ℕ) (b : Bool) → is_utf8 bytes ≡ b → (IsUtf8 bytes → read bytes ≡ None) → cond b (found_in (read bytes)) syntax ≡ syntax
reading_refused_at bytes true is none = ap found_in (none (IsUtf8-from_is_utf8 bytes is))
reading_refused_at bytes false is none = refl

pub reading-refused : (bytes : List ℕ) → (IsUtf8 bytes → read bytes ≡ None) → reading bytes ≡ syntax
reading-refused bytes none = reading_refused_at bytes _ refl none

pub plain_read : (bytes : List ℕ) (d : Data) (v : Value) → read bytes ≡ Some d → value_of d ≡ Ok v → IsPlain v
plain_read bytes d v is ok = subst (λ r. IfOk r IsPlain) ok (plain-value_of d (ordered-read bytes d is))

pub depth_read : (d : Data) (v : Value) → depth d ≤ 127 → value_of d ≡ Ok v → depth_of v ≤ 128
depth_read d v shallow ok = let h : depth_of v ≤ depth d + 1 = subst (λ r. IfOk r (IsWithin (depth d))) ok (depth-value_of d) in omega arith

pub whole_read : (e : ReadError) (bytes : List ℕ) (r : Result Value Path) → reading bytes ≡ found r → IsFaultOf e r → IfWhole e (λ path. reading bytes ≡ unwhole path)
whole_read Memory bytes r is fault = tt
whole_read Syntax bytes r is fault = tt
whole_read (Whole path) bytes r is fault = is ∙ ap found fault

pub syntax_read : (e : ReadError) (P Q : Type 0) → (P → Q) → IfSyntax e P → IfSyntax e Q
syntax_read Memory P Q step h = tt
syntax_read Syntax P Q step h = step h
syntax_read (Whole path) P Q step h = tt

-- The form of a file without a fault is whole.
use Rattle.std.proofs.Common.{◌≡◌, ℕ, zero, suc, ◌+◌, ◌<◌, List, [], ◌∷◌, length, map, true, false, Option, Some, None, All, codes, slice_get, option_map, if◌then◌else◌, refl, sym, ◌∙◌, ap, subst, arith}
use Rattle.std.specs.Prelude.{◌&&◌}
use Rattle.std.specs.Str.{bytes_eq}
use Rattle.std.proofs.lemmas.List.{length-map}
use Rattle.std.proofs.lemmas.List.Elements.{All-get_or}
use Rattle.std.proofs.lemmas.Option.{slice_get-map, slice_get_within, get_or_from_slice_get}
use Rattle.std.proofs.lemmas.Slice.Eq.{bytes_eq-Decides}
use Rattle.snap_core.specs.Value.{Value, null, boolean, integer, text, list, dict, no_members, member, value_at, IsOrdered, AreOrderedMembers, AreAscending, keys_of, Fields}
use Rattle.snap_core.proofs.Keys.{AreKeyed-ordered, IsOrdered-value_at}
use Rattle.pointer_core.specs.declared.schema_rule.SchemaRule.TheVariants.{Shape}
use Rattle.expr_form.specs.declared.fault.Fault.{Fault}
use Rattle.schema_form.specs.declared.form.SchemaForm.{SchemaForm}
use Rattle.schema_form.specs.declared.form.EntryNo.{EntryNo}
use Rattle.schema_form.specs.declared.form.Entry.{Entry}
use Rattle.schema_form.specs.declared.form.Expression.{Expression}
use Rattle.schema_form.specs.declared.form.Place.{Place}
use Rattle.model_syntax.specs.Shown.{behaviour_shown}
use Rattle.schema_form.specs.Names.{has_key, entry_of}
use Rattle.schema_form.specs.Faults.{unless, under, member_faults, entry_faults, types_faults, part_faults, file_faults}
use Rattle.schema_form.specs.Entries.{entries, entries_in, types_of}
use Rattle.schema_form.specs.Gathering.{Gathering, form_shown, nothing}
use Rattle.schema_form.specs.Pointers.{IsPlaceAmong}
use Rattle.schema_form.specs.Form.{root_in, IsForm, IsWhole, IsModelIn}
use Rattle.schema_form.proofs.NoFaults.{append_none, under_none, here_some}
use Rattle.schema_form.proofs.Whole.{AllFrom, IsGood}
use Rattle.schema_form.proofs.Ascending.{all-shown}
use Rattle.schema_form.proofs.Gathering.{entry-bound, names-gathered, IsSoFar, gathered-sound}

pub AllFrom-get : (P : ℕ → Expression → Type 0) (n k : ℕ) (xs : List Expression) (x : Expression) → AllFrom P n xs → slice_get xs k ≡ Some x → P (n + k) x
AllFrom-get P n k [] x all is = absurd cc
AllFrom-get P n zero (y ∷ xs) x all is =
    let same : y ≡ x = cc is in
    let Q : Expression → Type 0 = P (n + 0) in
    let R : ℕ → Type 0 = λ j. P j y in
    let first : n ≡ n + 0 = omega arith in
    subst Q same (subst R first all.0)
AllFrom-get P n (suc k) (y ∷ xs) x all is =
    let R : ℕ → Type 0 = λ j. P j x in
    let next : n + 1 + k ≡ n + suc k = omega arith in
    subst R next (AllFrom-get P (n + 1) k xs x all.1 is)

All-get : {A : Type 0} (P : A → Type 0) (xs : List A) (i : ℕ) (x : A) → All P xs → slice_get xs i ≡ Some x → P x
All-get P xs i x all is = subst P (get_or_from_slice_get xs i x x is) (All-get_or P xs i x (slice_get_within xs i x is) all)

-- the value under a key has no fault
member-none : (F : List ℕ → Value → List Fault) (key : List ℕ) (ms : Fields) (v : Value) → member_faults F ms ≡ [] → value_at key ms ≡ Some v → F key v ≡ []
member-none F key no_members v none is = absurd cc
member-none F key (member k w ms) v none is =
    let parts = append_none (under k (F k w)) (member_faults F ms) none in
    elim (bytes_eq key k) as (λ b. bytes_eq key k ≡ b → (if b then Some w else value_at key ms) ≡ Some v → F key v ≡ []) [
      | true ↦ λ e h.
          let same : w ≡ v = cc h in
          let named : k ≡ key = sym ((bytes_eq-Decides key k).0 e) in
          let P : Value → Type 0 = λ x. F key x ≡ [] in
          let Q : List ℕ → Type 0 = λ x. F x w ≡ [] in
          subst P same (subst Q named (under_none k (F k w) parts.0))
      | false ↦ λ e h. member-none F key ms v parts.1 h
    ] refl is

types-sound : (v : Value) → IsOrdered v → types_faults v ≡ [] → (member_faults (entry_faults (entries v)) (entries v) ≡ []) × AreOrderedMembers (entries v)
types-sound (dict a ms) ordered none = (none, ordered)
types-sound null ordered none = (refl, tt)
types-sound (boolean b) ordered none = (refl, tt)
types-sound (integer z) ordered none = (refl, tt)
types-sound (text s) ordered none = (refl, tt)
types-sound (list a ps) ordered none = (refl, tt)

by_types : (file : Value) (ms : Fields) (o : Option Value) → AreOrderedMembers ms → member_faults (part_faults (types_of file)) ms ≡ [] → value_at (codes "types") ms ≡ o
    → (member_faults (entry_faults (entries_in o)) (entries_in o) ≡ []) × AreOrderedMembers (entries_in o)
by_types file ms None ordered none is = (refl, tt)
by_types file ms (Some v) ordered none is =
    types-sound v (IsOrdered-value_at (codes "types") ms v ordered is) (member-none (part_faults (types_of file)) (codes "types") ms v none is)

-- the types of a file without a fault have none, and stand in order
pub file-types : (file : Value) → IsOrdered file → file_faults file ≡ [] → (member_faults (entry_faults (types_of file)) (types_of file) ≡ []) × AreOrderedMembers (types_of file)
file-types (dict a ms) ordered none =
    by_types (dict a ms) ms (value_at (codes "types") ms) ordered
    (append_none (unless (has_key (codes "host") ms && has_key (codes "root") ms && has_key (codes "types") ms) Shape) (member_faults (part_faults (types_of (dict a ms))) ms) none).1 refl
file-types null ordered none = absurd (here_some Shape none)
file-types (boolean b) ordered none = absurd (here_some Shape none)
file-types (integer z) ordered none = absurd (here_some Shape none)
file-types (text s) ordered none = absurd (here_some Shape none)
file-types (list a ps) ordered none = absurd (here_some Shape none)

root-known : (file : Value) (o : Option Value) (e : EntryNo) → root_in file o ≡ Some e → (s : List ℕ) × (entry_of (types_of file) s ≡ Some e)
root-known file (Some (text s)) e is = (s, is)
root-known file (Some null) e is = absurd cc
root-known file (Some (boolean b)) e is = absurd cc
root-known file (Some (integer z)) e is = absurd cc
root-known file (Some (list a ps)) e is = absurd cc
root-known file (Some (dict a ms)) e is = absurd cc
root-known file None e is = absurd cc

by_place : (f : SchemaForm) (n : ℕ) (at : Place) (o : Option Expression) → ((e : Expression) → slice_get f.expressions n ≡ Some e → IsPlaceAmong f.entries f.models n e.place)
    → option_map (λ e. e.place) o ≡ Some at → slice_get f.expressions n ≡ o → IsPlaceAmong f.entries f.models n at
by_place f n at None good h is = absurd cc
by_place f n at (Some e) good h is = let same : e.place ≡ at = cc h in let P : Place → Type 0 = IsPlaceAmong f.entries f.models n in subst P same (good e is)

abbrev entry_name : Entry → List ℕ
entry_name e = e.name

pub whole : (file : Value) (f : SchemaForm) → IsOrdered file → file_faults file ≡ [] → IsForm file f → IsWhole f
whole file f ordered none form =
    let types : Fields = types_of file in
    let final : Gathering = form_shown f in
    let names : map entry_name f.entries ≡ keys_of types = sym (ap (λ (g : Gathering). map entry_name g.entries) form.types) ∙ names-gathered types nothing types in
    let count : length f.entries ≡ length (keys_of types) = sym (length-map f.entries entry_name) ∙ ap length names in
    let known : (s : List ℕ) (e : EntryNo) → entry_of types s ≡ Some e → e.0 < length f.entries = λ s e is. omega (arith, entry-bound s 0 types e is, count) in
    let sound = file-types file ordered none in
    let gathered : IsSoFar f types known final = gathered-sound f types known form.types sound.1 sound.0 in
    let root = root-known file (value_at (codes "root") (entries file)) f.root form.root in
    let good : (n : ℕ) (e : Expression) → slice_get f.expressions n ≡ Some e → IsGood f types known n e =
    λ n e is. let P : ℕ → Type 0 = λ j. IsGood f types known j e in let same : 0 + n ≡ n = omega arith in subst P same (AllFrom-get (IsGood f types known) 0 n f.expressions e gathered.good is) in
    let P : List (List ℕ) → Type 0 = AreAscending in record {
      kinds = λ n e is. (good n e is).0;
      places = λ n at is. by_place f n at (slice_get f.expressions n) (λ e h. (good n e h).1) (sym (slice_get-map (λ e. e.place) f.expressions n) ∙ is) refl;
      models = λ n model is. All-get (IsModelIn f) f.models n model gathered.models is;
      typed = gathered.typed;
      named = subst P (sym names) (AreKeyed-ordered types sound.1);
      root = known root.0 f.root root.1;
      behaviours = sym (length-map f.behaviours behaviour_shown) ∙ gathered.paired;
      ordered = all-shown f.behaviours gathered.ordered;
      astray = gathered.astray;
    }

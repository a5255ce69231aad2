-- What is found of a file, part by part: its keys stand once each.
use Rattle.std.proofs.Common.{◌≡◌, ◌≤◌, ℕ, zero, suc, ◌+◌, ◌<◌, pos, List, [], ◌∷◌, ◌++◌, length, get_or, drop, Bool, true, false, is_some, Option, Some, None, Result, Ok, Err, codes, if◌then◌else◌, inl, inr, refl, sym, ◌∙◌, ap, subst, drop-cons, add-one}
use Rattle.std.specs.Prelude.{◌⊎◌, ◌&&◌, MatchBool, IfErr}
use Rattle.std.specs.declared.cmp.Ordering.TheVariants.{Less}
use Rattle.std.specs.Cmp.Lexicographic.{slice_cmp}
use Rattle.std.specs.Ordering.{nat_cmp, is_eq}
use Rattle.std.specs.Str.{bytes_eq}
use Rattle.std.proofs.lemmas.Cmp.{nat_list_cmp_total}
use Rattle.std.proofs.lemmas.List.{drop_all}
use Rattle.std.proofs.lemmas.Map.Text.{is_eq-slice_cmp}
use Rattle.std.proofs.lemmas.Slice.Eq.{bytes_eq-Decides}
use Rattle.snap_core.specs.Value.{Value, null, boolean, integer, text, list, dict, no_members, member, value_at, ComesBefore, AreKeyed, keys_of, Fields}
use Rattle.snap_core.specs.declared.snap.Snap.{Snap}
use Rattle.snap_core.specs.declared.snap.Snap
use Rattle.snap_core.specs.declared.snap.Field.{Field}
use Rattle.snap_core.specs.Unview.{snap_of, entries_of}
use Rattle.pointer_core.specs.declared.schema_rule.SchemaRule.TheVariants.{Shape}
use Rattle.snap_core.specs.View.{view, fields_view}
use Rattle.snap_core.proofs.Views.{entry-fields, snap_of-view}
use Rattle.schema_form.specs.declared.form.EntryNo.{EntryNo}
use Rattle.schema_form.specs.declared.fault.FormError.{FormError}
use Rattle.schema_form.specs.declared.form.SchemaForm.{SchemaForm}
use Rattle.schema_form.specs.declared.entries.Gathered.{Gathered}
use Rattle.schema_form.specs.declared.file.Found.{Found}
use Rattle.schema_form.specs.Names.{has_key}
use Rattle.schema_form.specs.Faults.{here, unless, member_faults, part_faults, file_faults}
use Rattle.schema_form.specs.Entries.{entries_in, types_of}
use Rattle.expr_form.specs.declared.fault.Fault.{Fault}
use Rattle.schema_form.specs.Outcome.{Finds}
use Rattle.schema_form.specs.Gathering.{gathered, gathered_shown}
use Rattle.schema_form.specs.Form.{history_in, root_in, IsForm}
use Rattle.schema_form.specs.Parts.{IsNamed, IsTyped, IsNext, IsFound, IsMadeOf}
use Rattle.schema_form.proofs.Texts.{bytes_eq-turned}

comes-through : (key k : List ℕ) (ks : List (List ℕ)) → slice_cmp nat_cmp key k ≡ Less → ComesBefore k ks → ComesBefore key ks
comes-through key k [] before after = tt
comes-through key k (j ∷ ks) before after = nat_list_cmp_total.trans key k j before after

-- a key that comes before all others isn't among them
absent-below : (key : List ℕ) (ms : Fields) → ComesBefore key (keys_of ms) → AreKeyed ms → value_at key ms ≡ None
absent-below key no_members before keyed = refl
absent-below key (member k v ms) before keyed =
    let other : bytes_eq key k ≡ false = sym (is_eq-slice_cmp key k) ∙ ap is_eq before in
    ap (λ (b : Bool). if b then Some v else value_at key ms) other ∙ absent-below key ms (comes-through key k (keys_of ms) before keyed.0) keyed.1

pub keyed-once : (key k : List ℕ) (v : Value) (ms : Fields) → bytes_eq key k ≡ true → AreKeyed (member k v ms) → value_at key ms ≡ None
keyed-once key k v ms same keyed =
    let one : k ≡ key = sym ((bytes_eq-Decides key k).0 same) in
    let P : List ℕ → Type 0 = λ j. ComesBefore j (keys_of ms) in
    absent-below key ms (subst P one keyed.0) keyed.1

keyed-drop : (i : ℕ) (fs : List Field) → AreKeyed (fields_view fs) → AreKeyed (fields_view (drop i fs))
keyed-drop zero fs keyed = keyed
keyed-drop (suc i) [] keyed = tt
keyed-drop (suc i) (f ∷ fs) keyed = keyed-drop i fs keyed.1

-- the part under a key is still to come, or it was met
abbrev pub Seen : List ℕ → Fields → Fields → Type 0 → Type 0 → Type 0
Seen key all rest Before After = ((value_at key rest ≡ value_at key all) × Before) ⊎ ((value_at key rest ≡ None) × After)

seen-step : (key k : List ℕ) (v : Value) (all rest : Fields) (B A B' A' : Type 0) → AreKeyed (member k v rest) → Seen key all (member k v rest) B A
    → (bytes_eq k key ≡ false → (B → B') × (A → A')) → (bytes_eq k key ≡ true → value_at key all ≡ Some v → A') → Seen key all rest B' A'
seen-step key k v all rest B A B' A' keyed seen passed met = by (bytes_eq k key) refl seen where
  here : (b : Bool) → bytes_eq k key ≡ b → value_at key (member k v rest) ≡ (if b then Some v else value_at key rest)
  here b e = ap (λ (c : Bool). if c then Some v else value_at key rest) (bytes_eq-turned key k ∙ e)

  by : (b : Bool) → bytes_eq k key ≡ b → Seen key all (member k v rest) B A → Seen key all rest B' A'
  by true e (inl s) = inr (keyed-once key k v rest (bytes_eq-turned key k ∙ e) keyed, met e (sym s.0 ∙ here true e))
  by true e (inr s) = let no : Some v ≡ None = sym (here true e) ∙ s.0 in absurd cc
  by false e (inl s) = inl (sym (here false e) ∙ s.0, (passed e).0 s.1)
  by false e (inr s) = inr (sym (here false e) ∙ s.0, (passed e).1 s.1)

-- what is found before the rest of the parts
pub record IsFoundBefore (types all rest : Fields) (found : Found) : Type 0 where
  pub history : Seen (codes "history") all rest (found.history ≡ 50) (history_in (value_at (codes "history") all) ≡ pos found.history)
  pub root : Seen (codes "root") all rest (Unit {0}) ((v : Value) → value_at (codes "root") all ≡ Some v → IsNamed types v found)
  pub typed : Seen (codes "types") all rest (Unit {0}) ((v : Value) → value_at (codes "types") all ≡ Some v → IsTyped v found)

pub found-start : (types all : Fields) (found : Found) → found.history ≡ 50 → IsFoundBefore types all all found
found-start types all found fifty = record { history = inl (refl, fifty); root = inl (refl, tt); typed = inl (refl, tt) }

at : (b c : Bool) (X Y : Type 0) → b ≡ c → MatchBool b X Y → MatchBool c X Y
at b c X Y e h = let P : Bool → Type 0 = λ d. MatchBool d X Y in subst P e h

same_value : (v w : Value) (o : Option Value) → o ≡ Some v → o ≡ Some w → v ≡ w
same_value v w o e f = let both : Some v ≡ Some w = sym e ∙ f in cc both

found-step : (types all rest : Fields) (k : List ℕ) (v : Value) (old new : Found) → AreKeyed (member k v rest) → IsNext types old new k v
    → IsFoundBefore types all (member k v rest) old → IsFoundBefore types all rest new
found-step types all rest k v old new keyed next found = record {
  history = seen-step (codes "history") k v all rest (old.history ≡ 50) (history_in (value_at (codes "history") all) ≡ pos old.history)
      (new.history ≡ 50) (history_in (value_at (codes "history") all) ≡ pos new.history) keyed found.history
      (λ e. let kept : new.history ≡ old.history = at (bytes_eq k (codes "history")) false (history_in (Some v) ≡ pos new.history) (new.history ≡ old.history) e next.history in
      ((λ h. kept ∙ h), (λ h. h ∙ ap pos (sym kept))))
      (λ e h. ap history_in h ∙ at (bytes_eq k (codes "history")) true (history_in (Some v) ≡ pos new.history) (new.history ≡ old.history) e next.history);
  root = seen-step (codes "root") k v all rest (Unit {0}) ((w : Value) → value_at (codes "root") all ≡ Some w → IsNamed types w old)
      (Unit {0}) ((w : Value) → value_at (codes "root") all ≡ Some w → IsNamed types w new) keyed found.root
      (λ e. let kept : new.root ≡ old.root = at (bytes_eq k (codes "root")) false (IsNamed types v new) (new.root ≡ old.root) e next.root in
      ((λ h. tt), (λ h w is. let named = h w is in (named.0, named.1, kept ∙ named.2))))
      (λ e h w is. let P : Value → Type 0 = λ x. IsNamed types x new in
      subst P (same_value v w (value_at (codes "root") all) h is) (at (bytes_eq k (codes "root")) true (IsNamed types v new) (new.root ≡ old.root) e next.root));
  typed = seen-step (codes "types") k v all rest (Unit {0}) ((w : Value) → value_at (codes "types") all ≡ Some w → IsTyped w old)
      (Unit {0}) ((w : Value) → value_at (codes "types") all ≡ Some w → IsTyped w new) keyed found.typed
      (λ e. let kept : new.types ≡ old.types = at (bytes_eq k (codes "types")) false (IsTyped v new) (new.types ≡ old.types) e next.typed in
      ((λ h. tt), (λ h w is. let typed = h w is in (typed.0, typed.1, kept ∙ typed.2))))
      (λ e h w is. let P : Value → Type 0 = λ x. IsTyped x new in
      subst P (same_value v w (value_at (codes "types") all) h is) (at (bytes_eq k (codes "types")) true (IsTyped v new) (new.types ≡ old.types) e next.typed));
}

-- one field more
pub found-field : (types : Fields) (fs : List Field) (i : ℕ) (f : Field) (old new : Found) → AreKeyed (fields_view fs) → i < length fs → f ≡ get_or fs i f
    → IsNext types old new f.key (view f.value) → IsFoundBefore types (fields_view fs) (fields_view (drop i fs)) old
    → IsFoundBefore types (fields_view fs) (fields_view (drop (i + 1) fs)) new
found-field types fs i f old new keyed within here next found =
    let left : drop i fs ≡ f ∷ drop (i + 1) fs = rw (add-one, drop-cons fs i f, ← here) in
    let rest : Fields = fields_view (drop (i + 1) fs) in
    let P : List Field → Type 0 = λ gs. AreKeyed (fields_view gs) in
    let Q : List Field → Type 0 = λ gs. IsFoundBefore types (fields_view fs) (fields_view gs) old in
    let R : List ℕ × Value → Type 0 = λ e. AreKeyed (member e.0 e.1 rest) in
    let S : List ℕ × Value → Type 0 = λ e. IsFoundBefore types (fields_view fs) (member e.0 e.1 rest) old in
    found-step types (fields_view fs) rest f.key (view f.value) old new (subst R (entry-fields f) (subst P left (keyed-drop i fs keyed))) next
    (subst S (entry-fields f) (subst Q left found))

found-all : (types all : Fields) (found : Found) → IsFoundBefore types all no_members found → IsFound types all found
found-all types all found before = record {
  history = history before.history;
  root = root before.root;
  typed = typed before.typed;
} where
  history : Seen (codes "history") all no_members (found.history ≡ 50) (history_in (value_at (codes "history") all) ≡ pos found.history) → history_in (value_at (codes "history") all) ≡ pos found.history
  history (inl s) = ap history_in (sym s.0) ∙ ap pos (sym s.1)
  history (inr s) = s.1

  root : Seen (codes "root") all no_members (Unit {0}) ((v : Value) → value_at (codes "root") all ≡ Some v → IsNamed types v found)
      → (v : Value) → value_at (codes "root") all ≡ Some v → IsNamed types v found
  root (inl s) v is = let no : None ≡ Some v = s.0 ∙ is in absurd cc
  root (inr s) v is = s.1 v is

  typed : Seen (codes "types") all no_members (Unit {0}) ((v : Value) → value_at (codes "types") all ≡ Some v → IsTyped v found)
      → (v : Value) → value_at (codes "types") all ≡ Some v → IsTyped v found
  typed (inl s) v is = let no : None ≡ Some v = s.0 ∙ is in absurd cc
  typed (inr s) v is = s.1 v is

pub found-end : (types : Fields) (fs : List Field) (i : ℕ) (found : Found) → length fs ≤ i → IsFoundBefore types (fields_view fs) (fields_view (drop i fs)) found
    → IsFound types (fields_view fs) found
found-end types fs i found past before =
    let P : List Field → Type 0 = λ gs. IsFoundBefore types (fields_view fs) (fields_view gs) found in
    found-all types (fields_view fs) found (subst P (drop_all i fs past) before)

pub some-of : {A : Type 0} (o : Option A) → is_some o ≡ true → (a : A) × (o ≡ Some a)
some-of (Some a) h = (a, refl)
some-of None h = absurd cc

and-both : (b c : Bool) → (b && c) ≡ true → (b ≡ true) × (c ≡ true)
and-both true c h = (refl, h)
and-both false c h = absurd cc

-- a file with all parts has a root and types
pub has-root : (ms : Fields) → (has_key (codes "host") ms && has_key (codes "root") ms && has_key (codes "types") ms) ≡ true → (v : Value) × (value_at (codes "root") ms ≡ Some v)
has-root ms h =
    let both = and-both (has_key (codes "host") ms && has_key (codes "root") ms) (has_key (codes "types") ms) h in
    some-of (value_at (codes "root") ms) (and-both (has_key (codes "host") ms) (has_key (codes "root") ms) both.0).1

pub has-types : (ms : Fields) → (has_key (codes "host") ms && has_key (codes "root") ms && has_key (codes "types") ms) ≡ true → (v : Value) × (value_at (codes "types") ms ≡ Some v)
has-types ms h =
    some-of (value_at (codes "types") ms) (and-both (has_key (codes "host") ms && has_key (codes "root") ms) (has_key (codes "types") ms) h).1

module _ (ms : Fields) (found : Found) (is : IsFound (types_of (dict tt ms)) ms found)
    (all : (has_key (codes "host") ms && has_key (codes "root") ms && has_key (codes "types") ms) ≡ true) where
  -- what is made of all parts is the form of the file
  pub made-form : (form : SchemaForm) → IsMadeOf found form → IsForm (dict tt ms) form
  made-form form made =
      let root = has-root ms all in
      let named = is.root root.0 root.1 in
      let types = has-types ms all in
      let typed = is.typed types.0 types.1 in
      let g : Gathered = record { entries = form.entries; expressions = form.expressions; models = form.models; behaviours = form.behaviours; astray = form.astray } in
      let same_types : Ok typed.0 ≡ Ok g = sym typed.2 ∙ made.types in
      let same_root : Ok form.root ≡ Ok named.0 = sym made.root ∙ named.2 in
      let g_is : typed.0 ≡ g = cc same_types in
      let root_is : named.0 ≡ form.root = cc same_root in
      let one : EntryNo → Option EntryNo = λ e. Some e in record {
        types = ap (λ o. gathered (entries_in o)) types.1 ∙ sym typed.1 ∙ ap gathered_shown g_is;
        root = ap (root_in (dict tt ms)) root.1 ∙ named.1 ∙ ap one root_is;
        history = is.history ∙ ap pos (sym made.history);
      }

  -- and no part is missing
  pub none-missing : (e : FormError) → (found.root ≡ Err e) ⊎ (found.types ≡ Err e) → ⊥
  none-missing e (inl h) =
      let root = has-root ms all in
      let named = is.root root.0 root.1 in
      let no : Ok named.0 ≡ Err e = sym named.2 ∙ h in cc
  none-missing e (inr h) =
      let types = has-types ms all in
      let typed = is.typed types.0 types.1 in
      let no : Ok typed.0 ≡ Err e = sym typed.2 ∙ h in cc

  -- what is made of all parts has found what the parts have
  pub made-finds : (r : Result SchemaForm FormError) (faults : List Fault) → faults ≡ [] → IfErr r (λ e. (found.root ≡ Err e) ⊎ (found.types ≡ Err e)) → Finds r faults
  made-finds (Ok form) faults none h = none
  made-finds (Err e) faults none h = absurd (none-missing e h)

-- the faults of a file with all parts are those of its parts
pub file_faults-parts : (ms types : Fields) → (has_key (codes "host") ms && has_key (codes "root") ms && has_key (codes "types") ms) ≡ true → types ≡ types_of (dict tt ms)
    → file_faults (dict tt ms) ≡ member_faults (part_faults types) ms
file_faults-parts ms types all same =
    ap (λ b. unless b Shape ++ member_faults (part_faults (types_of (dict tt ms))) ms) all ∙ ap (λ ts. member_faults (part_faults ts) ms) (sym same)

-- a file that is no object
by_value : (s : Snap) (v : Value) → view s ≡ v → ((fs : List Field) → s ≡ Snap.Dict fs → ⊥) → file_faults v ≡ here Shape
by_value s null is other = refl
by_value s (boolean b) is other = refl
by_value s (integer z) is other = refl
by_value s (text t) is other = refl
by_value s (list a ps) is other = refl
by_value s (dict a ms) is other = absurd (other (entries_of ms) (sym (snap_of-view s) ∙ ap snap_of is))

pub file_faults-other : (s : Snap) → ((fs : List Field) → s ≡ Snap.Dict fs → ⊥) → file_faults (view s) ≡ here Shape
file_faults-other s other = by_value s (view s) refl other

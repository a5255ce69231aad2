-- Where a key stands among ascending ones, or would go.
use Rattle.std.proofs.Common.{◌≡◌, ℕ, zero, suc, List, [], ◌∷◌, ◌++◌, length, Bool, true, false, Option, Some, None, refl, sym, ap, subst, ◌∙◌, if◌then◌else◌}
use Rattle.std.specs.Prelude.{slice_get}
use Rattle.std.specs.declared.cmp.Ordering.{Ordering}
use Rattle.std.specs.declared.cmp.Ordering.TheVariants.{Less, Equal, Greater}
use Rattle.std.specs.Ordering.{is_lt, ordering_reverse}
use Rattle.std.specs.Str.{bytes_eq}
use Rattle.std.proofs.lemmas.Cmp.{nat_list_cmp_total}
use Rattle.std.proofs.lemmas.Slice.Eq.{bytes_eq-Decides}
use Rattle.snap_core.specs.Value.{IsPlain, ArePlainMembers, ComesBefore, keys_of}
use Rattle.snap_core.proofs.Finding.{key_cmp, bytes_eq-Equal, bytes_eq-Less, bytes_eq-unequal}
use Rattle.edit_core.specs.Labelled.{Label, Labelled, Entry, Entries, no_entries, entry, entries, entries_in, bare, bare_fields}
use Rattle.edit_core.specs.Template.{entry_at}
use Rattle.tree_core.specs.Nodes.{place_in}
use Rattle.tree_core.proofs.Moving.{in-entries}

pub key_before : (i j k : List ℕ) → key_cmp i j ≡ Less → key_cmp j k ≡ Less → key_cmp i k ≡ Less
key_before i j k p q = nat_list_cmp_total.trans i j k p q

key_after : (key k : List ℕ) → key_cmp k key ≡ Greater → key_cmp key k ≡ Less
key_after key k h = nat_list_cmp_total.antisymm key k ∙ ap ordering_reverse h

-- where a new entry goes: the entries before and behind it
pub record Room (key : List ℕ) (es : Entries Label) : Type 0 where
  pub before : List Entry
  pub after : List Entry
  pub count : length before ≡ place_in key (entries_in es)
  pub all : entries (before ++ after) ≡ es
  pub plain : (new : Labelled) → IsPlain (bare new) → ArePlainMembers (bare_fields (entries (before ++ (key, new) ∷ after)))

comes-first : (k key : List ℕ) (before after : List Entry) (new : Labelled) → ComesBefore k (keys_of (bare_fields (entries (before ++ after)))) → key_cmp k key ≡ Less
    → ComesBefore k (keys_of (bare_fields (entries (before ++ (key, new) ∷ after))))
comes-first k key [] after new first less = less
comes-first k key (b ∷ before) after new first less = first

found-none : (b : Bool) (x : Labelled) (rest : Option Labelled) → b ≡ false → (if b then Some x else rest) ≡ None → rest ≡ None
found-none true x rest e h = absurd (cc)
found-none false x rest e h = h

pub room : (key : List ℕ) (es : Entries Label) → ArePlainMembers (bare_fields es) → entry_at key (entries_in es) ≡ None → Room key es
room key no_entries plain none =
    record { before = []; after = []; count = refl; all = refl; plain = λ new p. (p, tt, tt) }
room key (entry k x es) plain none = by (key_cmp k key) refl (λ n. room key es plain.2 n) where
  by : (o : Ordering) → key_cmp k key ≡ o → (entry_at key (entries_in es) ≡ None → Room key es) → Room key (entry k x es)
  by Less e further =
      let rest : Room key es = further (found-none (bytes_eq key k) x (entry_at key (entries_in es)) (bytes_eq-Less key k e) none) in
      let First : Entries Label → Type 0 = λ fs. ComesBefore k (keys_of (bare_fields fs)) in
      record {
        before = (k, x) ∷ rest.before;
        after = rest.after;
        count = ap suc rest.count ∙ sym (ap (λ o. if is_lt o then suc (place_in key (entries_in es)) else zero) e);
        all = ap (entry k x) rest.all;
        plain = λ new p. (plain.0, comes-first k key rest.before rest.after new (subst First (sym rest.all) plain.1) e, rest.plain new p);
      }
  by Equal e further =
      let same : bytes_eq key k ≡ true = bytes_eq-Equal key k e in
      let there : (if bytes_eq key k then Some x else entry_at key (entries_in es)) ≡ Some x = ap (λ b. if b then Some x else entry_at key (entries_in es)) same in
      absurd (cc)
  by Greater e further =
      let Plain : Entries Label → Type 0 = λ fs. ArePlainMembers (bare_fields (entry k x fs)) in
      record {
        before = [];
        after = (k, x) ∷ entries_in es;
        count = sym (ap (λ o. if is_lt o then suc (place_in key (entries_in es)) else zero) e);
        all = ap (entry k x) (in-entries es);
        plain = λ new p. (p, key_after key k e, subst Plain (sym (in-entries es)) plain);
      }

-- what comes before the first comes before all behind it
lower : (key k : List ℕ) (es : Entries Label) → key_cmp key k ≡ Less → ComesBefore k (keys_of (bare_fields es)) → ComesBefore key (keys_of (bare_fields es))
lower key k no_entries less first = tt
lower key k (entry j x es) less first = key_before key k j less first

-- a key below all others isn't held
not-below : (key : List ℕ) (es : Entries Label) → ComesBefore key (keys_of (bare_fields es)) → ArePlainMembers (bare_fields es) → entry_at key (entries_in es) ≡ None
not-below key no_entries first plain = refl
not-below key (entry k x es) first plain =
    let other : bytes_eq key k ≡ false = bytes_eq-unequal key k (λ e. differ e (nat_list_cmp_total.antisymm key k)) in
    ap (λ b. if b then Some x else entry_at key (entries_in es)) other ∙ not-below key es (lower key k es first plain.1) plain.2 where
      differ : key_cmp k key ≡ Equal → key_cmp key k ≡ ordering_reverse (key_cmp k key) → ⊥
      differ e back = let tied : key_cmp key k ≡ Equal = back ∙ ap ordering_reverse e in let less : key_cmp key k ≡ Less = first in absurd (cc)

-- what is held under a key stands where the key stands
pub held : (key : List ℕ) (es : Entries Label) (old : Labelled) → ArePlainMembers (bare_fields es) → entry_at key (entries_in es) ≡ Some old
    → slice_get (entries_in es) (place_in key (entries_in es)) ≡ Some (key, old)
held key no_entries old plain h = absurd (cc)
held key (entry k x es) old plain h = by (key_cmp k key) refl (λ g. held key es old plain.2 g) where
  found-later : (b : Bool) (rest : Option Labelled) → b ≡ false → (if b then Some x else rest) ≡ Some old → rest ≡ Some old
  found-later true rest e g = absurd (cc)
  found-later false rest e g = g

  found-here : (b : Bool) (rest : Option Labelled) → b ≡ true → (if b then Some x else rest) ≡ Some old → x ≡ old
  found-here true rest e g = cc
  found-here false rest e g = absurd (cc)

  differ : key_cmp k key ≡ Equal → key_cmp k key ≡ Greater → ⊥
  differ p q = absurd (cc)

  by : (o : Ordering) → key_cmp k key ≡ o → (entry_at key (entries_in es) ≡ Some old → slice_get (entries_in es) (place_in key (entries_in es)) ≡ Some (key, old))
      → slice_get ((k, x) ∷ entries_in es) (if is_lt (key_cmp k key) then suc (place_in key (entries_in es)) else zero) ≡ Some (key, old)
  by Less e further =
      ap (λ o. slice_get ((k, x) ∷ entries_in es) (if is_lt o then suc (place_in key (entries_in es)) else zero)) e
      ∙ further (found-later (bytes_eq key k) (entry_at key (entries_in es)) (bytes_eq-Less key k e) h)
  by Equal e further =
      let yes : bytes_eq key k ≡ true = bytes_eq-Equal key k e in
      let same_key : key ≡ k = (bytes_eq-Decides key k).0 yes in
      let same : x ≡ old = found-here (bytes_eq key k) (entry_at key (entries_in es)) yes h in
      ap (λ o. slice_get ((k, x) ∷ entries_in es) (if is_lt o then suc (place_in key (entries_in es)) else zero)) e
      ∙ ap (λ j. Some (j, x)) (sym same_key) ∙ ap (λ y. Some (key, y)) same
  by Greater e further =
      let no : bytes_eq key k ≡ false = bytes_eq-unequal key k (λ tied. differ tied e) in
      let gone : entry_at key (entries_in es) ≡ None = not-below key es (lower key k es (key_after key k e) plain.1) plain.2 in
      let there : entry_at key (entries_in es) ≡ Some old = found-later (bytes_eq key k) (entry_at key (entries_in es)) no h in
      absurd (cc)

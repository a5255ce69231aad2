-- Links are followed twice as far each time, until what still leads on leads in a circle.
use Rattle.std.proofs.Common.{◌≡◌, ℕ, zero, suc, ◌+◌, ◌*◌, ◌^◌, ◌<◌, List, length, map, get_or, Option, Some, None, slice_get, option_map, unwrap_or, All, refl, sym, ◌∙◌, ap, subst, arith, add-one}
use Rattle.std.proofs.Math.Nat.{pow-suc}
use Rattle.std.proofs.lemmas.List.{length-map}
use Rattle.std.proofs.lemmas.List.Elements.{All-from_get_or}
use Rattle.std.proofs.lemmas.Option.{slice_get-get_or, slice_get-map}
use Rattle.snap_core.specs.Value.{Value, null, boolean, integer, text, list, dict, value_at, Fields}
use Rattle.snap_core.specs.declared.snap.Field.{Field}
use Rattle.snap_core.specs.View.{view, fields_view}
use Rattle.schema_form.specs.declared.form.EntryNo.{EntryNo}
use Rattle.schema_form.specs.declared.form.Plain.{Plain}
use Rattle.schema_form.specs.declared.form.Word.{Word}
use Rattle.schema_form.specs.declared.form.Word.TheVariants as word
use Rattle.schema_form.specs.declared.bases.Base.{Base}
use Rattle.schema_form.specs.declared.bases.Base.TheVariants.{Texts, Integers, Barred}
use Rattle.schema_form.specs.declared.bases.Link.{Link}
use Rattle.schema_form.specs.declared.bases.Link.TheVariants.{Known, SameAs}
use Rattle.schema_form.specs.Words.{plain_of}
use Rattle.schema_form.specs.Names.{refinable, keyed_base, plain_or, entry_of, word_base, base_within, base_of, most_names, word_of}
use Rattle.schema_form.specs.Bases.{first_link, first_links, followed, doubled, LeadsIn, ended, value_of, link_base, IsLink, AreLinks, AreBases, each_known, word_link, known_base, option_join}
use Rattle.schema_form.proofs.Naming.{entry_from-value, value_at-none}

base_within-none : (ms : Fields) (n : ℕ) → base_within ms n None ≡ None
base_within-none ms zero = refl
base_within-none ms (suc n) = refl

base_within-text : (ms : Fields) (n : ℕ) (s : List ℕ) → base_within ms (n + 1) (Some (text s)) ≡ word_base (plain_of s) (base_within ms n (value_at s ms))
base_within-text ms n s = rw add-one refl

-- a value that is no text has the same base however far names are followed
module _ (fs : List Field) where
  IsLink-other : (v : Value) (base : Option Base) → ((n : ℕ) → base_within (fields_view fs) (suc n) (Some v) ≡ base) → IsLink fs 1 (Some v) (Known base)
  IsLink-other v base is = record { within = tt; same = λ n. rw add-one (is n) }

  IsLink-text : (s : List ℕ) (plain : Option Plain) (entry : Option EntryNo) → plain_of s ≡ plain → entry_of (fields_view fs) s ≡ entry
      → IsLink fs 1 (Some (text s)) (word_link (plain_or plain entry))
  IsLink-text s (Some p) entry is at = record { within = tt; same = λ n. base_within-text (fields_view fs) n s ∙ ap (λ o. word_base o (base_within (fields_view fs) n (value_at s (fields_view fs)))) is }
  IsLink-text s None None is at = record {
    within = tt;
    same = λ n. base_within-text (fields_view fs) n s ∙ ap (λ o. word_base o (base_within (fields_view fs) n (value_at s (fields_view fs)))) is
        ∙ ap (base_within (fields_view fs) n) (value_at-none s (fields_view fs) at) ∙ base_within-none (fields_view fs) n;
  }
  IsLink-text s None (Some e) is at =
      let found = entry_from-value s 0 fs e at in
      let number : found.at ≡ e.0 = omega (arith, found.number) in record {
        within = omega (arith, found.number, found.within);
        same = λ n. base_within-text (fields_view fs) n s ∙ ap (λ o. word_base o (base_within (fields_view fs) n (value_at s (fields_view fs)))) is
            ∙ ap (base_within (fields_view fs) n) (found.value ∙ ap (value_of fs) number);
      }

  IsLink-first : (v : Value) → IsLink fs 1 (Some v) (first_link (fields_view fs) v)
  IsLink-first (text s) = IsLink-text s (plain_of s) (entry_of (fields_view fs) s) refl refl
  IsLink-first null = IsLink-other null None (λ n. refl)
  IsLink-first (boolean b) = IsLink-other (boolean b) None (λ n. refl)
  IsLink-first (integer z) = IsLink-other (integer z) None (λ n. refl)
  IsLink-first (list a ps) = IsLink-other (list a ps) None (λ n. refl)
  IsLink-first (dict a ms) = IsLink-other (dict a ms) (keyed_base (dict a ms)) (λ n. refl)

  by_field : (i : ℕ) (o : Option Field) (link : Link) → option_map (λ f. first_link (fields_view fs) (view f.value)) o ≡ Some link → slice_get fs i ≡ o → IsLink fs 1 (value_of fs i) link
  by_field i None link h is = absurd cc
  by_field i (Some f) link h is =
      let same : first_link (fields_view fs) (view f.value) ≡ link = cc h in
      let P : Link → Type 0 = IsLink fs 1 (value_of fs i) in
      let Q : Option Value → Type 0 = λ o. IsLink fs 1 o (first_link (fields_view fs) (view f.value)) in
      subst P same (subst Q (sym (ap (option_map (λ f. view f.value)) is)) (IsLink-first (view f.value)))

  pub AreLinks-first : AreLinks fs 1 (first_links fs)
  AreLinks-first = record {
    each = length-map fs (λ f. first_link (fields_view fs) (view f.value));
    known = λ i link h. by_field i (slice_get fs i) link (sym (slice_get-map (λ f. first_link (fields_view fs) (view f.value)) fs i) ∙ h) refl;
  }

  module _ (links : List Link) (steps : ℕ) (are : AreLinks fs steps links) where
    further : (v : Option Value) (link : Link) → IsLink fs steps v link → IsLink fs (steps + steps) v (followed links link)
    further v (Known base) is = record {
      within = tt;
      same = λ n. let longer : n + (steps + steps) ≡ n + steps + steps = omega arith in ap (λ k. base_within (fields_view fs) k v) longer ∙ is.same (n + steps);
    }
    further v (SameAs i) is =
        let inside : i < length links = omega (arith, is.within, are.each) in
        let there : slice_get links i ≡ Some (get_or links i (SameAs i)) = slice_get-get_or links i (SameAs i) inside in
        let next : IsLink fs steps (value_of fs i) (get_or links i (SameAs i)) = are.known i (get_or links i (SameAs i)) there in
        let P : Option Link → Type 0 = λ o. IsLink fs (steps + steps) v (unwrap_or o (SameAs i)) in
        subst P (sym there) (record {
          within = next.within;
          same = λ n. let longer : n + (steps + steps) ≡ n + steps + steps = omega arith in
              ap (λ k. base_within (fields_view fs) k v) longer ∙ is.same (n + steps) ∙ next.same n;
        })

    by_link : (i : ℕ) (o : Option Link) (link : Link) → option_map (followed links) o ≡ Some link → slice_get links i ≡ o → IsLink fs (steps + steps) (value_of fs i) link
    by_link i None link h is = absurd cc
    by_link i (Some l) link h is =
        let same : followed links l ≡ link = cc h in
        let P : Link → Type 0 = IsLink fs (steps + steps) (value_of fs i) in
        subst P same (further (value_of fs i) l (are.known i l is))

    pub AreLinks-doubled : AreLinks fs (steps + steps) (doubled links)
    AreLinks-doubled = record {
      each = length-map links (followed links) ∙ are.each;
      known = λ i link h. by_link i (slice_get links i) link (sym (slice_get-map (followed links) links i) ∙ h) refl;
    }

  ended-base : (link : Link) → link_base fs 0 link ≡ ended link
  ended-base (Known base) = refl
  ended-base (SameAs i) = refl

  by_end : (links : List Link) (steps i : ℕ) (o : Option Link) (base : Option Base) → steps ≡ most_names → AreLinks fs steps links
      → option_map ended o ≡ Some base → slice_get links i ≡ o → base_within (fields_view fs) most_names (value_of fs i) ≡ base
  by_end links steps i None base far are h is = absurd cc
  by_end links steps i (Some l) base far are h is =
      let same : ended l ≡ base = cc h in
      let all : most_names ≡ 0 + steps = omega (arith, far) in
      ap (λ k. base_within (fields_view fs) k (value_of fs i)) all ∙ (are.known i l is).same 0 ∙ ended-base l ∙ same

  pub AreBases-ended : (links : List Link) (steps : ℕ) → steps ≡ most_names → AreLinks fs steps links → AreBases fs (map ended links)
  AreBases-ended links steps far are =
      each_known (length-map links ended ∙ are.each) (λ i base h. by_end links steps i (slice_get links i) base far are (sym (slice_get-map ended links i) ∙ h) refl)

most_names-is : 2 ^ 64 ≡ most_names
unfolding most_names
most_names-is = refl

pub all_rounds : (k : ℕ) → k ≡ 64 → 2 ^ k ≡ most_names
all_rounds k e = ap (λ j. 2 ^ j) e ∙ most_names-is

pub twice : (k : ℕ) → 2 ^ (k + 1) ≡ 2 ^ k + 2 ^ k
twice k = let next : 2 ^ (k + 1) ≡ 2 ^ k * 2 = rw add-one (pow-suc 2 k) in omega (arith, next)

all_in : (count : ℕ) (links : List Link) → ((i : ℕ) (link : Link) → slice_get links i ≡ Some link → LeadsIn count link) → All (LeadsIn count) links
all_in count links h = All-from_get_or (LeadsIn count) links (Known None) (λ i within. h i (get_or links i (Known None)) (slice_get-get_or links i (Known None) within))

pub AreLinks-lead : (fs : List Field) (steps : ℕ) (links : List Link) → AreLinks fs steps links → All (LeadsIn (length links)) links
AreLinks-lead fs steps links are =
    let P : ℕ → Type 0 = λ n. All (LeadsIn n) links in
    subst P (sym are.each) (all_in (length fs) links (λ i link is. (are.known i link is).within))

-- where the entries' bases are known, so is that of a word
length-bases : (fs : List Field) (bases : List (Option Base)) → AreBases fs bases → length bases ≡ length fs
length-bases fs bases (each_known each known) = each

base-known : (fs : List Field) (bases : List (Option Base)) → AreBases fs bases → (i : ℕ) (base : Option Base) → slice_get bases i ≡ Some base
    → base_within (fields_view fs) most_names (value_of fs i) ≡ base
base-known fs bases (each_known each known) = known

known : (fs : List Field) (bases : List (Option Base)) (s : List ℕ) (w : Word) (plain : Option Plain) (entry : Option EntryNo) → AreBases fs bases
    → plain_of s ≡ plain → entry_of (fields_view fs) s ≡ entry → plain_or plain entry ≡ Some w → known_base bases w ≡ word_base plain (base_within (fields_view fs) most_names (value_at s (fields_view fs)))
known fs bases s w (Some p) entry are is at h = let same : word.Plain p ≡ w = cc h in ap (known_base bases) (sym same)
known fs bases s w None None are is at h = absurd cc
known fs bases s w None (Some e) are is at h =
    let same : word.Named e ≡ w = cc h in
    let found = entry_from-value s 0 fs e at in
    let number : found.at ≡ e.0 = omega (arith, found.number) in
    let inside : e.0 < length bases = omega (arith, found.number, found.within, length-bases fs bases are) in
    let there : slice_get bases e.0 ≡ Some (get_or bases e.0 None) = slice_get-get_or bases e.0 None inside in
    ap (known_base bases) (sym same) ∙ ap (λ (o : Option (Option Base)). option_join o) there ∙ sym (base-known fs bases are e.0 (get_or bases e.0 None) there)
    ∙ ap (λ k. base_within (fields_view fs) most_names (value_of fs k)) (sym number) ∙ ap (base_within (fields_view fs) most_names) (sym found.value)

pub known_base-word : (fs : List Field) (bases : List (Option Base)) (s : List ℕ) (w : Word) → AreBases fs bases → word_of (fields_view fs) s ≡ Some w → known_base bases w ≡ base_of (fields_view fs) s
known_base-word fs bases s w are h = known fs bases s w (plain_of s) (entry_of (fields_view fs) s) are refl refl h

-- what is neither a plain type nor an entry has no base
unknown : (types : Fields) (s : List ℕ) (plain : Option Plain) (entry : Option EntryNo) → plain_of s ≡ plain → entry_of types s ≡ entry → None ≡ plain_or plain entry → base_of types s ≡ None
unknown types s (Some p) entry is at h = absurd cc
unknown types s None (Some e) is at h = absurd cc
unknown types s None None is at h =
    ap (λ o. word_base o (base_within types most_names (value_at s types))) is ∙ ap (base_within types most_names) (value_at-none s types at) ∙ base_within-none types most_names

pub base_of-unknown : (types : Fields) (s : List ℕ) → None ≡ word_of types s → base_of types s ≡ None
base_of-unknown types s h = unknown types s (plain_of s) (entry_of types s) refl refl h

-- a base that may be refined is the base
pub refinable-is : (o : Option Base) (b : Base) → refinable o ≡ Some b → o ≡ Some b
refinable-is (Some Texts) b is = is
refinable-is (Some Integers) b is = is
refinable-is (Some Barred) b is = absurd cc
refinable-is None b is = absurd cc

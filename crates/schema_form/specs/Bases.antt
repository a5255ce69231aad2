-- The bases of entries: each entry is linked to where its name leads, and the links are followed twice as far each time.
use Rattle.std.specs.Prelude.{◌≡◌, ℕ, ◌+◌, ◌<◌, List, length, map, slice_get, unwrap_or, Option, Some, None}
use Rattle.std.specs.Option.{option_map}
use Rattle.snap_core.specs.Value.{Value, text, Fields}
use Rattle.snap_core.specs.declared.snap.Field.{Field}
use Rattle.snap_core.specs.View.{view, fields_view}
use Rattle.schema_form.specs.declared.form.Word.{Word}
use Rattle.schema_form.specs.declared.form.Word.TheVariants as word
use Rattle.schema_form.specs.declared.bases.Base.{Base}
use Rattle.schema_form.specs.declared.bases.Link.{Link}
use Rattle.schema_form.specs.declared.bases.Link.TheVariants.{Known, SameAs}
use Rattle.schema_form.specs.Names.{plain_base, keyed_base, word_of, base_within, most_names}

-- the link of an entry: a name leads to the entry of that name
abbrev pub word_link : Option Word → Link
word_link (Some (word.Plain p)) = Known (plain_base p)
word_link (Some (word.Named e)) = SameAs e.0
word_link None = Known None

abbrev pub first_link : Fields → Value → Link
first_link types (text s) = word_link (word_of types s)
first_link types v = Known (keyed_base v)

abbrev pub first_links : List Field → List Link
first_links types = map (λ f. first_link (fields_view types) (view f.value)) types

-- where a link leads, followed once more
abbrev pub followed : List Link → Link → Link
followed links (Known base) = Known base
followed links (SameAs i) = unwrap_or (slice_get links i) (SameAs i)

abbrev pub doubled : List Link → List Link
doubled links = map (followed links) links

-- where a link leads is an entry
abbrev pub LeadsIn : ℕ → Link → Type 0
LeadsIn count (Known base) = Unit {0}
LeadsIn count (SameAs i) = i < count

-- what is known at the end: what still leads on leads in a circle
abbrev pub ended : Link → Option Base
ended (Known base) = base
ended (SameAs i) = None

-- the value of an entry by its number
abbrev pub value_of : List Field → ℕ → Option Value
value_of types i = option_map (λ f. view f.value) (slice_get types i)

-- the base that a link comes to, following at most so many names from where it leads
abbrev pub link_base : List Field → ℕ → Link → Option Base
link_base types n (Known base) = base
link_base types n (SameAs i) = base_within (fields_view types) n (value_of types i)

-- a link of a value stands for this many names
pub record IsLink (types : List Field) (steps : ℕ) (v : Option Value) (link : Link) : Type 0 where
  pub within : LeadsIn (length types) link
  pub same : (n : ℕ) → base_within (fields_view types) (n + steps) v ≡ link_base types n link

-- a link for each entry
pub record AreLinks (types : List Field) (steps : ℕ) (links : List Link) : Type 0 where
  pub each : length links ≡ length types
  pub known : (i : ℕ) (link : Link) → slice_get links i ≡ Some link → IsLink types steps (value_of types i) link

-- the base of each entry
pub data AreBases (types : List Field) (bases : List (Option Base)) : Type 0 where
  each_known : length bases ≡ length types
      → ((i : ℕ) (base : Option Base) → slice_get bases i ≡ Some base → base_within (fields_view types) most_names (value_of types i) ≡ base)
      → AreBases types bases

-- the base that a word is, where those of the entries are known
abbrev pub option_join : Option (Option Base) → Option Base
option_join (Some base) = base
option_join None = None

abbrev pub known_base : List (Option Base) → Word → Option Base
known_base bases (word.Plain p) = plain_base p
known_base bases (word.Named e) = option_join (slice_get bases e.0)

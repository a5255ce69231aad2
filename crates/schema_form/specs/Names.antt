-- What the names of a schema file lead to. `types` is the object under that key: the entries by their names.
use Rattle.std.specs.Prelude.{ℕ, zero, suc, ◌+◌, ◌^◌, List, codes, Bool, true, false, is_some, Option, Some, None, if◌then◌else◌}
use Rattle.std.specs.Option.{option_map}
use Rattle.std.specs.Str.{bytes_eq}
use Rattle.snap_core.specs.Value.{Value, text, dict, no_members, member, value_at, Fields}
use Rattle.schema_form.specs.declared.form.EntryNo.{EntryNo}
use Rattle.schema_form.specs.declared.form.Plain.{Plain}
use Rattle.schema_form.specs.declared.form.Plain.TheVariants as plain
use Rattle.schema_form.specs.declared.form.Word.{Word}
use Rattle.schema_form.specs.declared.form.Word.TheVariants as word
use Rattle.schema_form.specs.declared.bases.Base.{Base}
use Rattle.schema_form.specs.declared.bases.Base.TheVariants as base
use Rattle.schema_form.specs.Words.{plain_of}

-- whether an object has a key
abbrev pub has_key : List ℕ → Fields → Bool
has_key key ms = is_some (value_at key ms)

-- which entry has this name, the entries being counted from a number on
abbrev pub entry_from : ℕ → Fields → List ℕ → Option EntryNo
entry_from n no_members name = None
entry_from n (member k v ms) name = if bytes_eq name k then Some (record { 0 = n }) else entry_from (n + 1) ms name

abbrev pub entry_of : Fields → List ℕ → Option EntryNo
entry_of types name = entry_from 0 types name

-- what a text stands for: a plain type, or the entry of that name
abbrev pub plain_or : Option Plain → Option EntryNo → Option Word
plain_or (Some p) entry = Some (word.Plain p)
plain_or None entry = option_map word.Named entry

abbrev pub word_of : Fields → List ℕ → Option Word
word_of types s = plain_or (plain_of s) (entry_of types s)

-- what a value stands for that must be a text
abbrev pub word_in : Fields → Value → Option Word
word_in types (text s) = word_of types s
word_in types _ = None

-- the plain types that may be refined, and the one that no parameter may be of
abbrev pub plain_base : Plain → Option Base
plain_base plain.Text = Some base.Texts
plain_base plain.Integer = Some base.Integers
plain_base plain.Identifier = Some base.Barred
plain_base _ = None

-- the base of a value that is no text: no parameter may be a safe reference either
abbrev pub keyed_base : Value → Option Base
keyed_base (dict a (member k v no_members)) = if bytes_eq k (codes "safeReference") then Some base.Barred else None
keyed_base _ = None

-- the base of a word: that of the plain type that it stands for, or else what is found further on
abbrev pub word_base : Option Plain → Option Base → Option Base
word_base (Some p) further = plain_base p
word_base None further = further

-- the base that a value is, following at most so many names
abbrev pub base_within : Fields → ℕ → Option Value → Option Base
base_within types zero v = None
base_within types (suc most) (Some (text s)) = word_base (plain_of s) (base_within types most (value_at s types))
base_within types (suc most) (Some v) = keyed_base v
base_within types (suc most) None = None

-- more names than any file has
unfoldable pub most_names : ℕ
most_names = 2 ^ 64

-- the base that a text stands for, names followed; None for any other type, and where names lead in a circle
abbrev pub base_of : Fields → List ℕ → Option Base
base_of types s = word_base (plain_of s) (base_within types most_names (value_at s types))

-- the base of a type expression
abbrev pub type_base : Fields → Value → Option Base
type_base types (text s) = base_of types s
type_base types v = keyed_base v

-- the base of a type that may be refined
abbrev pub refinable : Option Base → Option Base
refinable (Some base.Texts) = Some base.Texts
refinable (Some base.Integers) = Some base.Integers
refinable _ = None

-- whether no parameter may be of it
abbrev pub is_barred : Option Base → Bool
is_barred (Some base.Barred) = true
is_barred _ = false

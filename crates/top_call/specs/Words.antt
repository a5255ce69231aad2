-- The command line.
use Rattle.std.specs.Prelude.{◌≡◌, ℕ, ◌&&◌, List, [], ◌∷◌, codes, nat_le, Option, Some, None, if◌then◌else◌}
use Rattle.std.specs.Str.{bytes_eq}
use Rattle.pointer_core.specs.Index.{index_of}
use Rattle.serve_core.specs.declared.plan.Plan.{Plan}
use Rattle.serve_core.specs.declared.plan.Plan.TheVariants.{Streams, Port}
use Rattle.top_call.specs.declared.words.Command as declared
use Rattle.top_call.specs.declared.words.Command.TheVariants as variants

-- what the program is asked to do, with the name of the schema file; to serve, also at which port, and how many links
pub data Command : Type 0 where
  check : List ℕ → Command
  run : List ℕ → Command
  serve : List ℕ → ℕ → ℕ → Command

-- the number from 1 to a largest one that a word spells: as an index, with no sign and no leading zero
abbrev pub in_range : ℕ → Option ℕ → Option ℕ
in_range most None = None
in_range most (Some n) = if nat_le 1 n && nat_le n most then Some n else None

abbrev pub number_in : ℕ → List ℕ → Option ℕ
number_in most word = in_range most (index_of word)

-- the words `serve SCHEMA --port N --links N`
pub record AreServeWords (words : List (List ℕ)) (name : List ℕ) (port links : ℕ) : Type 0 where
  pub port_word : List ℕ
  pub links_word : List ℕ
  pub are : words ≡ codes "serve" ∷ name ∷ codes "--port" ∷ port_word ∷ codes "--links" ∷ links_word ∷ []
  pub port_spelled : number_in 65535 port_word ≡ Some port
  pub links_spelled : number_in 1000000 links_word ≡ Some links

-- the words are those of a command
abbrev pub AreWordsOf : List (List ℕ) → Command → Type 0
AreWordsOf words (check name) = words ≡ codes "check" ∷ name ∷ []
AreWordsOf words (run name) = words ≡ codes "run" ∷ name ∷ []
AreWordsOf words (serve name port links) = AreServeWords words name port links

-- the command that some words are, if they are in the grammar
abbrev pub command_with : List ℕ → List ℕ → Option Command
command_with word name =
    if bytes_eq word (codes "check") then Some (check name)
    else if bytes_eq word (codes "run") then Some (run name)
    else None

abbrev pub serve_of : List ℕ → Option ℕ → Option ℕ → Option Command
serve_of name (Some port) (Some links) = Some (serve name port links)
serve_of name _ _ = None

-- the words of options, with their numbers
pub record Options : Type 0 where
  pub port_key : List ℕ
  pub port : List ℕ
  pub links_key : List ℕ
  pub links : List ℕ

abbrev pub serve_with : List ℕ → List ℕ → Options → Option Command
serve_with word name options =
    if bytes_eq word (codes "serve") && bytes_eq options.port_key (codes "--port") && bytes_eq options.links_key (codes "--links")
    then serve_of name (number_in 65535 options.port) (number_in 1000000 options.links)
    else None

abbrev pub command_of : List (List ℕ) → Option Command
command_of (word ∷ name ∷ []) = command_with word name
command_of (word ∷ name ∷ port_key ∷ port ∷ links_key ∷ links ∷ []) =
    serve_with word name (record { port_key = port_key; port = port; links_key = links_key; links = links })
command_of _ = None

-- the name of the schema file
abbrev pub name_in : Command → List ℕ
name_in (check name) = name
name_in (run name) = name
name_in (serve name port links) = name

-- what a command serves, if it does
abbrev pub plan_of : Command → Option Plan
plan_of (check name) = None
plan_of (run name) = Some Streams
plan_of (serve name port links) = Some (Port port links)

-- a command of the program as a command
abbrev pub seen : declared.Command → Command
seen (variants.Check name) = check name.now
seen (variants.Run name) = run name.now
seen (variants.Serve name port links) = serve name.now port links

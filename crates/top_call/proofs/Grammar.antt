-- The words of a command are those that are read as it.
use Rattle.std.proofs.Common.{◌≡◌, ℕ, List, [], ◌∷◌, codes, Bool, true, false, ◌&&◌, Option, Some, None, refl, ap, ◌∙◌, subst}
use Rattle.std.specs.Prelude.{◌↔◌, if◌then◌else◌}
use Rattle.std.specs.Str.{bytes_eq}
use Rattle.std.proofs.lemmas.Option.{same_Some}
use Rattle.std.proofs.lemmas.Slice.Eq.{bytes_eq-Decides}
use Rattle.top_call.specs.Words.{Command, check, run, serve, AreServeWords, AreWordsOf, Options, command_with, command_of, serve_of, serve_with, number_in}

-- a word and a name that are a command are its words
with-words : (word name : List ℕ) (c : Command) → command_with word name ≡ Some c → AreWordsOf (word ∷ name ∷ []) c
with-words word name c e = by_check (bytes_eq word (codes "check")) refl e
  where
    by_run : (b : Bool) → bytes_eq word (codes "run") ≡ b → (if b then Some (run name) else None) ≡ Some c → AreWordsOf (word ∷ name ∷ []) c
    by_run true is e =
        subst (AreWordsOf (word ∷ name ∷ [])) (same_Some (run name) c e) (ap (λ w. w ∷ name ∷ []) ((bytes_eq-Decides word (codes "run")).0 is))
    by_run false is e = cc

    by_check : (b : Bool) → bytes_eq word (codes "check") ≡ b
        → (if b then Some (check name) else (if bytes_eq word (codes "run") then Some (run name) else None)) ≡ Some c
        → AreWordsOf (word ∷ name ∷ []) c
    by_check true is e =
        subst (AreWordsOf (word ∷ name ∷ [])) (same_Some (check name) c e) (ap (λ w. w ∷ name ∷ []) ((bytes_eq-Decides word (codes "check")).0 is))
    by_check false is e = by_run (bytes_eq word (codes "run")) refl e

-- three tests that all hold
all-hold : (a b d : Bool) (o : Option Command) (c : Command) → (if a && b && d then o else None) ≡ Some c
    → (a ≡ true) × (b ≡ true) × (d ≡ true) × (o ≡ Some c)
all-hold true true true o c e = (refl, refl, refl, e)
all-hold true true false o c e = cc
all-hold true false d o c e = cc
all-hold false b d o c e = cc

-- numbers that both are there
both-there : (name : List ℕ) (p l : Option ℕ) (c : Command) → serve_of name p l ≡ Some c
    → (port : ℕ) × (links : ℕ) × (p ≡ Some port) × (l ≡ Some links) × (serve name port links ≡ c)
both-there name (Some port) (Some links) c e = (port, links, refl, refl, same_Some (serve name port links) c e)
both-there name (Some port) None c e = cc
both-there name None l c e = cc

serve-words : (word name : List ℕ) (o : Options) (c : Command) → serve_with word name o ≡ Some c
    → AreWordsOf (word ∷ name ∷ o.port_key ∷ o.port ∷ o.links_key ∷ o.links ∷ []) c
serve-words word name o c e =
    let holds = all-hold (bytes_eq word (codes "serve")) (bytes_eq o.port_key (codes "--port")) (bytes_eq o.links_key (codes "--links")) _ c e in
    let found = both-there name (number_in 65535 o.port) (number_in 1000000 o.links) c holds.3 in
    let first : word ≡ codes "serve" = (bytes_eq-Decides word (codes "serve")).0 holds.0 in
    let second : o.port_key ≡ codes "--port" = (bytes_eq-Decides o.port_key (codes "--port")).0 holds.1 in
    let third : o.links_key ≡ codes "--links" = (bytes_eq-Decides o.links_key (codes "--links")).0 holds.2 in
    let words : AreServeWords (word ∷ name ∷ o.port_key ∷ o.port ∷ o.links_key ∷ o.links ∷ []) name found.0 found.1 = record {
      port_word = o.port;
      links_word = o.links;
      are = ap (λ w. w ∷ name ∷ o.port_key ∷ o.port ∷ o.links_key ∷ o.links ∷ []) first
          ∙ ap (λ w. codes "serve" ∷ name ∷ w ∷ o.port ∷ o.links_key ∷ o.links ∷ []) second
          ∙ ap (λ w. codes "serve" ∷ name ∷ codes "--port" ∷ o.port ∷ w ∷ o.links ∷ []) third;
      port_spelled = found.2;
      links_spelled = found.3;
    } in
    subst (AreWordsOf (word ∷ name ∷ o.port_key ∷ o.port ∷ o.links_key ∷ o.links ∷ [])) found.4 words

command-words : (words : List (List ℕ)) (c : Command) → command_of words ≡ Some c → AreWordsOf words c
command-words [] c e = cc
command-words (word ∷ []) c e = cc
command-words (word ∷ name ∷ []) c e = with-words word name c e
command-words (word ∷ name ∷ port_key ∷ []) c e = cc
command-words (word ∷ name ∷ port_key ∷ port ∷ []) c e = cc
command-words (word ∷ name ∷ port_key ∷ port ∷ links_key ∷ []) c e = cc
command-words (word ∷ name ∷ port_key ∷ port ∷ links_key ∷ links ∷ []) c e =
    serve-words word name (record { port_key = port_key; port = port; links_key = links_key; links = links }) c e
command-words (word ∷ name ∷ port_key ∷ port ∷ links_key ∷ links ∷ other ∷ words) c e = cc

words-command : (words : List (List ℕ)) (c : Command) → AreWordsOf words c → command_of words ≡ Some c
words-command words (check name) are = ap command_of are
words-command words (run name) are = ap command_of are
words-command words (serve name port links) are =
    ap command_of are.are ∙ ap (λ (p : Option ℕ). serve_of name p (number_in 1000000 are.links_word)) are.port_spelled
    ∙ ap (λ (l : Option ℕ). serve_of name (Some port) l) are.links_spelled

pub grammar : (words : List (List ℕ)) (c : Command) → (command_of words ≡ Some c) ↔ AreWordsOf words c
grammar words c = (command-words words c, words-command words c)

-- Refusals as texts for people.
use Rattle.std.specs.Prelude.{ℕ, List, [], ◌∷◌, ◌++◌, codes}
use Rattle.pointer_core.specs.Path.{Path, printed}
use Rattle.pointer_core.specs.Rule.{rule_name}
use Rattle.pointer_core.specs.declared.refusal.Refusal.{Refusal}

-- a place, with words for the root, whose pointer is empty
abbrev pub place_text : Path → List ℕ
place_text [] = codes "the root"
place_text (token ∷ tokens) = printed (token ∷ tokens)

abbrev pub refusal_text : Refusal → List ℕ
refusal_text refusal = rule_name refusal.rule ++ (codes " at " ++ place_text refusal.path)

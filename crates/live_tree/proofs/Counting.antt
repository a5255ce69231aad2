-- How many edits and patches a log has.
use Rattle.std.proofs.Common.{◌≡◌, ◌+◌, [], ◌∷◌, length, refl, ap, ◌∙◌, length-append}
use Rattle.std.proofs.lemmas.List.{length-map}
use Rattle.edit_core.specs.Logged.{patch_of_logged}
use Rattle.tree_core.specs.State.{State, Calls, count_of, edits_of, patches_of, mark_of, log_of}

pub length_edits : (calls : Calls) → length (edits_of calls) ≡ count_of calls
length_edits [] = refl
length_edits (call ∷ calls) = length-append (edits_of calls) call ∙ ap (λ n. n + length call) (length_edits calls)

pub length_patches : (s : State) → length (patches_of s) ≡ mark_of s
length_patches s = length-map (log_of s) patch_of_logged ∙ length_edits s.calls

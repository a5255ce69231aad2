-- Pointers as texts, computed on examples.
use Rattle.std.proofs.Common.{◌≡◌, [], ◌∷◌, refl}
use Rattle.std.specs.Prelude.{codes}
use Rattle.pointer_core.specs.Path.{printed}

-- the root's pointer is empty
root : printed [] ≡ codes ""
root = refl

-- an escape in each of two tokens, and an empty token at the end
escapes : printed (codes "a/b" ∷ codes "m~n" ∷ codes "" ∷ []) ≡ codes "/a~1b/m~0n/"
escapes = refl

-- an escape that stands in a token is a token's text like any other
escaped-again : printed (codes "~1" ∷ []) ≡ codes "/~01"
escaped-again = refl

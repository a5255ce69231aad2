-- Turns of a link, one after another.
use Rattle.std.proofs.Common.{◌≡◌, ℕ, List, [], ◌∷◌, ◌++◌, append-nil, refl, ◌∙◌, ap, subst}
use Rattle.std.proofs.lemmas.Grind.{flat_map-append}
use Rattle.http_front.specs.Laws.{WholeStays}
use Rattle.link_core.specs.Link.{Replies, Stand, Turn, Takes, Turns, written_for, all_written}

-- one turn more
pub turns_push : {S : Type 0} (replies : Replies S) (before mid after : Stand S) (turns : List Turn) (turn : Turn)
    → Turns replies before turns mid → Takes replies mid turn after → Turns replies before (turns ++ turn ∷ []) after
turns_push replies before mid after [] turn done takes =
    (after, subst (λ (x : Stand _). Takes replies x turn after) done takes, refl)
turns_push replies before mid after (one ∷ turns) turn done takes =
    (done.0, done.1, turns_push replies done.0 mid after turns turn done.2 takes)

-- a stand with more bytes behind it
abbrev pub followed : {S : Type 0} → Stand S → List ℕ → Stand S
followed stand more = record stand { bytes = stand.bytes ++ more }

-- bytes that come later change no turn
pub turns_more : {S : Type 0} (replies : Replies S) → WholeStays → (before after : Stand S) (turns : List Turn) (more : List ℕ)
    → Turns replies before turns after → Turns replies (followed before more) turns (followed after more)
turns_more replies stays before after [] more done = ap (λ (x : Stand _). followed x more) done
turns_more replies stays before after (turn ∷ turns) more done = (
  followed done.0 more,
  record {
    arrives = stays before.bytes turn.request done.0.bytes more done.1.arrives;
    gets = done.1.gets;
    stays = done.1.stays;
  },
  turns_more replies stays done.0 after turns more done.2,
)

-- what is written for one turn more
pub written_push : (turns : List Turn) (turn : Turn) → all_written (turns ++ turn ∷ []) ≡ all_written turns ++ written_for turn
written_push turns turn =
    flat_map-append written_for turns (turn ∷ []) ∙ ap (λ (ws : List ℕ). all_written turns ++ ws) (append-nil (written_for turn))

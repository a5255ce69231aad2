use Rattle.answer_writing.proofs.InTurn as lemmas
use Rattle.answer_writing.proofs.laws.nodes_are_given_in_turn.Goals as goal

pub returns : goal.returns
returns c = lemmas.nodes-in-turn

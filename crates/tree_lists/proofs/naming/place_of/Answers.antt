use Rattle.std.proofs.Common.{subst}
use Rattle.type_core.specs.Making.{Outcome}
use Rattle.tree_core.specs.declared.place.Place.{Place}
use Rattle.tree_core.specs.Answers.{Answers}
use Rattle.tree_lists.proofs.Places.{place-item}
use Rattle.tree_lists.proofs.naming.place_of.Goals as goal

pub returns-in-Array : goal.returns-in-Array
returns-in-Array c =
    let Is : Outcome Place → Type 0 = λ o. Answers {T = Place} (λ place. place) c.item_place.result o in
    rw c.in-Array.is (subst Is (place-item c.args.patch.now c.args.token.now c.in-Array.own c.in-Array.items) (rw (c.len.ensures, c.text.ensures) at c.item_place.ensures))

use Rattle.std.proofs.Common.{◌∙◌, ap, Some}
use Rattle.tree_reading.proofs.NamedPlaces.{place-item, place-entry, no-place}
use Rattle.tree_reading.proofs.showing.place_under.Goals as goal

pub returns-in-Array : goal.returns-in-Array
returns-in-Array c = rw c.in-Array.is ((rw (c.len.ensures, c.text.ensures) at c.item_place.ensures) ∙ place-item c.args.token.now c.in-Array.own c.in-Array.items)

pub returns-in_ok-entry_place-in-Some : goal.returns-in_ok-entry_place-in-Some
returns-in_ok-entry_place-in-Some c =
    rw c.in-Record.is (ap Some c.in_ok-entry_place-in-Some.ensures ∙ place-entry c.args.token.now c.in-Record.own c.in-Record.fields _ (rw (c.as_slice.ensures, c.text-in-Record.ensures) at c.in-Some.ensures))

pub returns-in-None : goal.returns-in-None
returns-in-None c =
    rw c.in-Record.is (no-place c.args.token.now c.in-Record.own c.in-Record.fields (rw (c.as_slice.ensures, c.text-in-Record.ensures) at c.in-None.ensures))

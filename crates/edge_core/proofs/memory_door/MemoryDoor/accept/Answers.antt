use Rattle.std.proofs.Common.{◌≡◌, IfSome, arith, subst}
use Rattle.std.specs.List.{All}
use Rattle.std.proofs.lemmas.List.Elements.{All-head, All-tail}
use Rattle.edge_core.specs.LinkInside.{IsFresh}
use Rattle.edge_core.proofs.memory_door.MemoryDoor.accept.Goals as goal

pub invariant_of-self-in-Some : goal.invariant_of-self-in-Some
invariant_of-self-in-Some c =
    let was = c.self.invariant in
    let space = c.self.inside.space in
    let fresh = subst (All (IsFresh space)) c.in-Some.ensures.items was.fresh in
    let first = All-head (IsFresh space) _ _ fresh in
    record {
      takes = was.takes;
      fresh = All-tail (IsFresh space) _ _ fresh;
      roomy = λ link is. subst (λ current. IfSome current (λ bounded. bounded.space ≡ space)) is first.roomy;
      places = omega (arith, was.places, c.in-Some.ensures.len);
    }

-- The first parameter took the document's name.
use Rattle.std.proofs.Common.{◌≡◌, List, ℕ, ◌∷◌, sym, ap, ◌∙◌}
use Rattle.matchit.specs.Params.{walk}
use Rattle.route_core.specs.Path.{named_place}
use Rattle.route_core.proofs.Plain.{first_utf8}
use Rattle.route_core.proofs.routes.place_at.Goals as goal

pub returns-in-Some : goal.returns-in-Some
returns-in-Some c =
    let params = c.args.params.now in
    let steps = c.in-Some.ensures.steps in
    let split : walk params.pattern.now params.text.now params.path.now params.names.now 0 0 ≡ steps.0 ∷ c.next.new.self =
    sym c.iter.ensures.value ∙ steps.1 in
    let name : c.in-Some.name.now ≡ steps.0.1 =
    steps.3 (first_utf8 params.pattern.now params.text.now params.path.now params.names.now steps.0 c.next.new.self c.requires split) in
    rw (c.in-Document.is, split) (c.document_at.ensures ∙ ap (λ (n : List ℕ). named_place n c.in-Document.part) name)

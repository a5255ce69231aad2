-- The first parameter took the document's name, the second one the view's.
use Rattle.std.proofs.Common.{◌≡◌, List, ℕ, ◌∷◌, refl, sym, ap, ◌∙◌}
use Rattle.matchit.specs.Params.{walk}
use Rattle.route_core.proofs.Plain.{first_utf8, second_utf8}
use Rattle.route_core.proofs.routes.view_at.Goals as goal

pub returns-then-is_document_name : goal.returns-then-is_document_name
returns-then-is_document_name c =
    let params = c.args.params.now in
    let one = c.in_ok-name.ensures.steps in
    let two = c.in_ok-view.ensures.steps in
    let split : walk params.pattern.now params.text.now params.path.now params.names.now 0 0 ≡ one.0 ∷ two.0 ∷ c.next-2.new.self =
    sym c.iter-parts.ensures.value ∙ one.1 ∙ ap (λ rest. one.0 ∷ rest) two.1 in
    let name : c.in_ok-name.name.now ≡ one.0.1 =
    one.3 (first_utf8 params.pattern.now params.text.now params.path.now params.names.now one.0 _ c.requires split) in
    let view : c.in_ok-view.view.now ≡ two.0.1 =
    two.3 (second_utf8 params.pattern.now params.text.now params.path.now params.names.now one.0 two.0 _ c.requires split) in
    rw (split, ← name, ← view, sym c.is_document_name.ensures ∙ c.if-is_document_name.true) refl

pub returns-else-is_document_name : goal.returns-else-is_document_name
returns-else-is_document_name c =
    let params = c.args.params.now in
    let one = c.in_ok-name.ensures.steps in
    let two = c.in_ok-view.ensures.steps in
    let split : walk params.pattern.now params.text.now params.path.now params.names.now 0 0 ≡ one.0 ∷ two.0 ∷ c.next-2.new.self =
    sym c.iter-parts.ensures.value ∙ one.1 ∙ ap (λ rest. one.0 ∷ rest) two.1 in
    let name : c.in_ok-name.name.now ≡ one.0.1 =
    one.3 (first_utf8 params.pattern.now params.text.now params.path.now params.names.now one.0 _ c.requires split) in
    rw (split, ← name, sym c.is_document_name.ensures ∙ c.if-is_document_name.false) refl

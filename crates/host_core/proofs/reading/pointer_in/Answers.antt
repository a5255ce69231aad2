use Rattle.std.proofs.Common.{◌≡◌, ℕ, List, [], Option, refl, ap, ◌∙◌}
use Rattle.std.specs.Prelude.{unwrap_or}
use Rattle.pointer_core.specs.declared.refusal.Rule.TheVariants.{Pointer}
use Rattle.host_replies.specs.Replies.{rule_reply}
use Rattle.host_core.specs.Reading.{pointer_text}
use Rattle.host_core.proofs.Pointing.{no-pointer}
use Rattle.host_core.proofs.reading.pointer_in.Goals as goal

pub returns : goal.returns
returns c =
    let text : List ℕ = pointer_text c.args.visit.now.request.now.query.now in
    let named : c.text_of.result.now ≡ text = c.text_of.ensures ∙ ap (λ (o : Option (List ℕ)). unwrap_or o []) c.in_ok-found.ensures in (
      rule_reply Pointer,
      (no-pointer text c.text_of.result.now c.parse.result c.in-Err.error named c.in-Err.is c.in_ok-pointer_refusal-in-Err.ensures.cause c.parse.ensures.fault, refl),
      c.in_ok-pointer_refusal-in-Err.ensures.reply,
    )

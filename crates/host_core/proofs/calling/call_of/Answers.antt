use Rattle.std.proofs.Common.{ℕ, List, refl}
use Rattle.pointer_core.specs.declared.refusal.Rule.TheVariants.{Pointer}
use Rattle.host_replies.specs.Replies.{rule_reply}
use Rattle.host_core.proofs.Pointing.{no-pointer}
use Rattle.host_core.proofs.calling.call_of.Goals as goal

pub returns-in_ok-pointer_refusal-in-Err-clause-read : goal.returns-in_ok-pointer_refusal-in-Err-clause-read
returns-in_ok-pointer_refusal-in-Err-clause-read c =
    let text : List ℕ = c.args.spelled.now.path.now in (
      rule_reply Pointer,
      (no-pointer text text c.parse.result c.in-Err.error refl c.in-Err.is c.in_ok-pointer_refusal-in-Err.ensures.cause c.parse.ensures.fault, refl),
      c.in_ok-pointer_refusal-in-Err.ensures.reply,
    )

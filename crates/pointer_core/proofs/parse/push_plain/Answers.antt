-- The character joins the token, and so the text.
use Rattle.pointer_core.proofs.Plain.{plain_text}
use Rattle.pointer_core.proofs.parse.push_plain.Goals as goal

pub returns-clause-text : goal.returns-clause-text
returns-clause-text c =
    let reading = c.args.reading.now in
    plain_text c.push.result reading.before reading.token c.push.new.self reading.escape c.args.c c.push.ensures.ok c.requires.escape c.requires.no_tilde c.requires.no_slash

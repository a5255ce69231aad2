use Rattle.std.proofs.Common.{◌≡◌, length, rules, ◌∙◌}
use Rattle.std.specs.Str.{chars}
use Rattle.std.proofs.lemmas.Str.{chars_from_encodes}
use Rattle.type_core.proofs.Chars.{char_count-chars}
use Rattle.type_core.proofs.making.count_chars.Goals as goal

pub returns : goal.returns
returns c =
    let e : c.count.result ≡ length (chars c.args.text.now) = search (rules, chars_from_encodes) in
    e ∙ char_count-chars c.args.text.now c.utf8.text

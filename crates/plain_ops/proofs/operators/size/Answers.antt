use Rattle.std.proofs.Common.{rules, ◌≡◌, length}
use Rattle.std.specs.Str.{chars}
use Rattle.std.proofs.lemmas.Str.{chars_from_encodes}
use Rattle.plain_ops.proofs.Sizes.{size-list, size-dict, size-text}
use Rattle.plain_ops.proofs.operators.size.Goals as goal

pub returns-in-List : goal.returns-in-List
returns-in-List c = rw (size-list c.in-List.items c.args.a.now c.in-List.is, ← c.len.ensures) c.counted.ensures

pub returns-in-Dict : goal.returns-in-Dict
returns-in-Dict c = rw (size-dict c.in-Dict.fields c.args.a.now c.in-Dict.is, ← c.len-in-Dict.ensures) c.counted-in-Dict.ensures

pub returns-in-Text : goal.returns-in-Text
returns-in-Text c =
    let e : c.count.result ≡ length (chars c.in-Text.text) = search (rules, chars_from_encodes) in
    rw (size-text c.in-Text.text c.args.a.now c.in-Text.is, ← e) c.counted-in-Text.ensures

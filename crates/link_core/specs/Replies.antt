-- The replies that a link gives by itself.
use Rattle.std.specs.Prelude.{ℕ, List, ◌++◌, true, ◌==◌, None, if◌then◌else◌, codes}
use Rattle.http_front.specs.Reply.{Reply, printed}

-- the body that names a rule
abbrev pub rule_body : List ℕ → List ℕ
rule_body rule = codes "{\"error\":\"" ++ rule ++ codes "\"}"

-- the rule by which a head of that status is refused
abbrev pub head_rule : ℕ → List ℕ
head_rule status =
    if status == 413 then codes "body"
    else if status == 431 then codes "fields" else if status == 501 then codes "coding" else codes "head"

-- the reply to a head that is refused with that status
abbrev pub refusal : ℕ → Reply
refusal status = record { status = status; allow = None; body = rule_body (head_rule status) }

-- the fixed reply where memory runs out
abbrev pub memory_reply : List ℕ
memory_reply = printed true (record { status = 500; allow = None; body = rule_body (codes "memory") })

-- What answers the requests of a schema: here alone it is said which state it has, and what it replies.
use Rattle.std.specs.Prelude.{[]}
use Rattle.expr_core.specs.Schema.{Schema}
use Rattle.host_core.specs.Host as host
use Rattle.link_core.specs.Link.{Replies}

-- the state that goes from request to request, and the one before the first: a host that has no documents yet
abbrev pub State : Type 0
State = host.Hosted

abbrev pub start : Schema → State
start schema = record { schema = schema; shown = [] }

-- a request gets what the host's plain definition says
abbrev pub replies : Replies State
replies = host.Replies

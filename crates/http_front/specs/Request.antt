-- A request, and what its head says of it.
use Rattle.std.specs.Prelude.{ℕ, List, Bool, ◌||◌, ◌==◌, map, codes}
use Rattle.std.specs.List.{list_any}
use Rattle.std.specs.Str.{str_eq_ignore_ascii_case}
use Rattle.httparse.specs.Grammar.{RequestHead}
use Rattle.httparse.specs.Spans.{name_and_value}
use Rattle.form_urlencoded.specs.Form.{split_once}
use Rattle.http_front.specs.Head.{NamedValue, values_of}
use Rattle.http_front.specs.declared.request.Request as declared

-- a request: its method, the two parts of its target, its body, and whether the link closes after its reply
pub record Request : Type 0 where
  pub method : List ℕ
  pub path : List ℕ
  pub query : List ℕ
  pub body : List ℕ
  pub close : Bool

-- `?`, which stands between a path and a query
abbrev pub question_mark : ℕ
question_mark = 63

-- the bytes of a target before the first `?`, or all of them; those after it, or none
abbrev pub path_of : List ℕ → List ℕ
path_of target = (split_once question_mark target).0

abbrev pub query_of : List ℕ → List ℕ
query_of target = (split_once question_mark target).1

-- the value is `close`, whatever the case of its letters
abbrev pub is_close : List ℕ → Bool
is_close value = str_eq_ignore_ascii_case value (codes "close")

-- the link closes after the reply: at HTTP/1.0, and where the value of a field named Connection says so
abbrev pub closes : ℕ → List NamedValue → Bool
closes minor fields = minor == 0 || list_any is_close (values_of (codes "connection") fields)

-- the names and the values of a head's fields
abbrev pub fields_of : RequestHead → List NamedValue
fields_of head = map name_and_value head.fields

-- the request that a head and a body are
abbrev pub request_of : RequestHead → List ℕ → Request
request_of head body =
    record {
      method = head.method;
      path = path_of head.target;
      query = query_of head.target;
      body = body;
      close = closes head.minor (fields_of head);
    }

-- a request of the program as a request
abbrev pub seen : declared.Request → Request
seen r = record { method = r.method.now; path = r.path.now; query = r.query.now; body = r.body.now; close = r.close }

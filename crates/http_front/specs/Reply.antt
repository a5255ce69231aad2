-- The bytes of a reply (RFC 9112): a status line, field lines, an empty line and the body.
use Rattle.std.specs.Prelude.{ℕ, List, [], ◌++◌, length, Bool, Option, Some, None, if◌then◌else◌, codes, decimal, unwrap_or}
use Rattle.http.specs.StatusCode.{reason_phrase}
use Rattle.httparse.specs.Ascii.{crlf_bytes}

-- a reply in JSON: its status, the methods that are allowed where it names them, and its body
pub record Reply : Type 0 where
  pub status : ℕ
  pub allow : Option (List ℕ)
  pub body : List ℕ

-- a line that ends in CR LF
abbrev pub line : List ℕ → List ℕ
line text = text ++ crlf_bytes

-- the version, the code in decimal and its standard phrase
abbrev pub status_line : ℕ → List ℕ
status_line status =
    line (codes "HTTP/1.1 " ++ decimal status ++ codes " " ++ unwrap_or (reason_phrase status) [])

-- the methods that are allowed, where they are named
abbrev pub allow_line : Option (List ℕ) → List ℕ
allow_line None = []
allow_line (Some methods) = line (codes "Allow: " ++ methods)

-- what a reply says where the link is closed after it
abbrev pub connection_line : Bool → List ℕ
connection_line close = if close then line (codes "Connection: close") else []

-- the bytes of a reply, after which the link closes or doesn't
unfoldable pub printed : Bool → Reply → List ℕ
printed close reply =
    status_line reply.status
    ++ line (codes "Content-Type: application/json")
    ++ line (codes "Content-Length: " ++ decimal (length reply.body))
    ++ allow_line reply.allow
    ++ connection_line close
    ++ line []
    ++ reply.body

-- `format!` writes the pieces one after another, and the definition joins the same pieces in lines.
use Rattle.std.proofs.Common.{◌≡◌, ℕ, List, ◌++◌, codes, decimal, IfOk, subst, append_assoc}
use Rattle.std.specs.String.{string_bytes}
use Rattle.httparse.specs.Ascii.{crlf_bytes}
use Rattle.http_front.proofs.reply.first_lines.Goals as goal

regrouped : (version status blank phrase end kind name len : List ℕ)
    → version ++ (status ++ (blank ++ (phrase ++ ((end ++ (kind ++ end) ++ name) ++ (len ++ end)))))
    ≡ ((version ++ status ++ blank ++ phrase) ++ end) ++ (kind ++ end) ++ ((name ++ len) ++ end)
regrouped version status blank phrase end kind name len = simp append_assoc

pub returns : goal.returns
returns c =
    let Writes : List ℕ → Type 0 = λ t. IfOk c.format.result (λ s. string_bytes s ≡ t) in
    rw (← c.phrase_of-phrase.ensures) (subst Writes
    (regrouped (codes "HTTP/1.1 ") (decimal c.args.status) (codes " ") c.phrase_of-phrase.result.now crlf_bytes
    (codes "Content-Type: application/json") (codes "Content-Length: ") (decimal c.args.body_len))
    c.format.ensures.ok)

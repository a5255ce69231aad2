-- A character that isn't escaped joins the text that was read.
use Rattle.std.proofs.Common.{◌≡◌, ◌≢◌, ℕ, List, [], ◌∷◌, ◌++◌, Bool, false, Result, Ok, Err, OnOk, refl, sym, ap, ◌∙◌, append_assoc}
use Rattle.std.proofs.lemmas.Grind.{flat_map-append}
use Rattle.std.proofs.lemmas.List.{append-nil}
use lib.Utf8.{encode}
use Rattle.pointer_core.specs.Path.{Path, printed, escaped, escaped_byte}
use Rattle.pointer_core.specs.Reading.{open_tilde}
use Rattle.pointer_core.proofs.Escapes.{character_kept}

escaped_more : (token new : List ℕ) (c : ℕ) → new ≡ token ++ encode c → c ≢ 126 → c ≢ 47 → escaped new ≡ escaped token ++ encode c
escaped_more token new c is tilde slash =
    ap escaped is ∙ flat_map-append escaped_byte token (encode c) ∙ ap (λ bytes. escaped token ++ bytes) (character_kept c tilde slash)

joined : (before token new : List ℕ) (c : ℕ) → new ≡ token ++ encode c → before ++ ((47 ∷ new) ++ []) ≡ (before ++ ((47 ∷ token) ++ [])) ++ encode c
joined before token new c is =
    ap (λ bytes. before ++ (47 ∷ bytes)) (append-nil new ∙ is ∙ sym (ap (λ bytes. bytes ++ encode c) (append-nil token))) ∙ sym (rw append_assoc refl)

pub plain_text : {E : Type 0} (r : Result (Unit {0}) E) (before : Path) (token new : List ℕ) (escape : Bool) (c : ℕ) → OnOk r (new ≡ token ++ encode c) → escape ≡ false → c ≢ 126 → c ≢ 47
    → OnOk r (printed before ++ ((47 ∷ escaped new) ++ open_tilde escape) ≡ (printed before ++ ((47 ∷ escaped token) ++ open_tilde escape)) ++ encode c)
plain_text (Ok done) before token new escape c is closed tilde slash =
    rw closed (joined (printed before) (escaped token) (escaped new) c (escaped_more token new c is tilde slash))
plain_text (Err e) before token new escape c is closed tilde slash = tt

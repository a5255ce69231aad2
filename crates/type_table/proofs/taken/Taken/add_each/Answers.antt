use Rattle.std.proofs.Common.{◌≡◌, ℕ, List, [], ◌∷◌, ◌++◌, ◌+◌, map, take, get_or, subst, sym, ap, ◌∙◌}
use Rattle.std.proofs.lemmas.List.{take_more}
use Rattle.snap_core.specs.Value.{Value, text}
use Rattle.type_table.specs.Unions.{these}
use Rattle.type_table.specs.Taking.{AreTaken}
use Rattle.type_table.proofs.TakenLemmas.{AreTaken-one_after, AreTaken-none, map-push}
use Rattle.type_table.proofs.taken.Taken.add_each.Goals as goal

pub loop-one-init : goal.loop-one-init
loop-one-init c = λ taken h. AreTaken-none c.args.self.now taken h

pub loop-one-preserved : goal.loop-one-preserved
loop-one-preserved c = λ taken h.
    let l = c.loop-one in
    let ts = c.args.texts.now in
    let item : List ℕ = c.one-item.result in
    let here : List ℕ = get_or ts l.one-index item in
    let spell : List ℕ → Value = λ s. text s in
    let front : List Value = map spell (take l.one-index ts) in
    let more : map spell (take (l.one-index + 1) ts) ≡ front ++ spell here ∷ [] =
    ap (map spell) (take_more ts l.one-index item c.loop-one-test.true) ∙ map-push spell (take l.one-index ts) here in
    let P : List ℕ → Type 0 = λ s. AreTaken c.add_text.new.self (these (text s ∷ []) ∷ these front ∷ taken) in
    let Q : List Value → Type 0 = λ vs. AreTaken c.add_text.new.self (these vs ∷ taken) in
    subst Q (sym more) (AreTaken-one_after c.add_text.new.self (spell here) front taken
    (subst P (c.text.ensures ∙ c.one-item.is) (c.in_ok-add_text.ensures (these front ∷ taken) (l.invariant taken h))))

use Rattle.std.proofs.Common.{◌≡◌, ℕ, ◌+◌, ◌-◌, ◌≤◌, List, length, take, drop, sym, ap, ◌∙◌, arith, length-take}
use Rattle.std.proofs.lemmas.List.{drop-take, drop-drop}
use Rattle.link_core.specs.Room.{held_in}
use Rattle.link_core.proofs.room.Room.drop_front.Goals as goal

dropped : (bytes : List ℕ) (start end n : ℕ) → n ≤ length (held_in bytes start end) → held_in bytes (start + n) end ≡ drop n (held_in bytes start end)
dropped bytes start end n fits =
    let split : end - start ≡ n + (end - (start + n)) = omega (arith, length-take (end - start) (drop start bytes)) in
    ap (take (end - (start + n))) (sym (drop-drop n start bytes)) ∙ sym (drop-take n (end - (start + n)) (drop start bytes))
    ∙ ap (λ (m : ℕ). drop n (take m (drop start bytes))) (sym split)

pub returns : goal.returns
returns c =
    dropped c.self.inside.bytes.items c.self.inside.start c.self.inside.end c.args.n (omega (arith, c.requires, ap length c.self.view_is))
    ∙ ap (drop c.args.n) c.self.view_is

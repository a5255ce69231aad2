use Rattle.std.proofs.Common.{◌≡◌, true, ℕ, zero, suc, ◌+◌, ◌-◌, List, [], ◌++◌, length, take, drop, ap, ◌∙◌, subst, append-nil, arith, length-take, length-drop}
use Rattle.std.specs.Prelude.{nat_lt}
use Rattle.std.proofs.Math.Seq.{take-add}
use Rattle.std.proofs.lemmas.Bool.{lt-ltb}
use Rattle.std.proofs.lemmas.List.{nil_from_length, with_items_is}
use Rattle.std.specs.Vec.{with_items}
use Rattle.edge_core.specs.Door.{BothTold, Reads}
use Rattle.link_core.specs.Exchange.{Told, ReadsMore}
use Rattle.link_core.proofs.room.Room.read_more.Goals as goal

nat_lt-suc : (n : ℕ) → nat_lt 0 (suc n) ≡ true
nat_lt-suc n = lt-ltb 0 (suc n) (omega arith)

reads_more : (n : ℕ) (held more piece : List ℕ) (told : Told) → more ≡ held ++ piece → length piece ≡ n → BothTold (Reads piece) told.before told.after
    → ReadsMore (nat_lt 0 n) held more told
reads_more zero held more piece told joined len reads =
    let none : piece ≡ [] = nil_from_length piece len in
    record {
      same = joined ∙ ap (λ (p : List ℕ). held ++ p) none ∙ append-nil held;
      reads = subst (λ (p : List ℕ). BothTold (Reads p) told.before told.after) none reads;
    }
reads_more (suc n) held more piece told joined len reads =
    rw (nat_lt-suc n) (record { piece = piece; joined = joined; some = omega (arith, len); reads = reads })

-- the first bytes, and then a piece
joined : (f n : ℕ) (held room : List ℕ) → take f room ≡ held → take (f + n) room ≡ held ++ take n (drop f room)
joined f n held room kept = take-add f n room ∙ ap (λ (h : List ℕ). h ++ take n (drop f room)) kept

pub returns-clause-ok : goal.returns-clause-ok
returns-clause-ok g c =
    let f = c.self.inside.end - c.self.inside.start in
    let n = c.in_ok-n.n in
    let room = c.read_on.new.room in
    let items : (with_items c.self.inside.bytes room).items ≡ room = with_items_is c.self.inside.bytes room (omega arith) in
    let held : take f room ≡ c.args.self.now =
    c.in_ok-n.ensures.kept ∙ ap (λ (bytes : List ℕ). take f (drop c.self.inside.start bytes)) c.deref_mut.ensures.value ∙ c.self.view_is in
    let from_front : f + n - 0 ≡ f + n = omega arith in
    rw items (reads_more n c.args.self.now (take (f + n - 0) room) (take n (drop f room)) _
    (ap (λ (k : ℕ). take k room) from_front ∙ joined f n c.args.self.now room held)
    (omega (arith, length-take n (drop f room), length-drop f room, c.in_ok-n.ensures.in_room)) c.in_ok-n.ensures.reads)

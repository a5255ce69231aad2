-- What holds while a link is served, and how it leads to an end.
use Rattle.std.proofs.Common.{◌≡◌, ℕ, ◌+◌, ◌<◌, ◌⊎◌, inl, inr, Bool, true, false, ◌||◌, ◌==◌, List, [], ◌∷◌, ◌++◌, length, length-append, append-nil, Option, Some, None, refl, sym, ◌∙◌, ap, subst, arith}
use Rattle.std.proofs.lemmas.Bool.Decides.{nat_tests}
use Rattle.edge_core.specs.Door.{Links, DoorState, BothTold, Reads, Writes}
use Rattle.http_front.specs.Arrival.{Arrival, whole, partial, refused, Arrives}
use Rattle.http_front.specs.Laws.{WholeStays}
use Rattle.http_front.specs.Reply.{Reply, printed}
use Rattle.http_front.specs.Request.{Request}
use Rattle.link_core.specs.Exchange.{Told, Exchanges, ExchangesAll, TakesPart, BringsPiece, BringsNothing}
use Rattle.link_core.specs.Inside.{input_end, IsByReply, WritesLast, WritesReply, GivesReply, Refuses}
use Rattle.link_core.specs.Link.{Replies, Turn, Turns, all_written, asked, Due, Tail, OwesReply, OwesRefusal, OwesMemory, Owes, Ends, ExchangesTo, IsSilent, IsWhole, Course, IsServed, IfFault}
use Rattle.link_core.specs.Replies.{refusal, memory_reply}
use Rattle.link_core.specs.declared.end.LinkEnd.{LinkEnd}
use Rattle.link_core.specs.declared.end.LinkEnd.TheVariants.{End, Closed, Inside, Memory, Fault}
use Rattle.link_core.proofs.Exchanging.{exchanges-none, exchanges-read, exchanges-write, exchanges-end}
use Rattle.link_core.proofs.Turning.{turns_push, turns_more, written_push}
use Rattle.link_core.proofs.Writing.{IsOpen}

-- a last reply makes no fault
pub no_fault : (end : LinkEnd) → IsByReply end → (old new : DoorState) → IfFault end old new
no_fault End is old new = absurd is
no_fault Closed is old new = tt
no_fault Inside is old new = absurd is
no_fault Memory is old new = tt
no_fault Fault is old new = absurd is

-- a reply that doesn't end the link
on_reply : (bytes : List ℕ) (close : Bool) (told : Told) → WritesReply bytes close None told → (close ≡ false) × BothTold (Writes bytes) told.before told.after
on_reply bytes true told writes = absurd writes
on_reply bytes false told writes = (refl, writes)

neither : (a b : Bool) → a || b ≡ false → a ≡ false
neither true b e = cc
neither false b e = refl

nor_last : (a b : Bool) → a || b ≡ false → b ≡ false
nor_last true b e = cc
nor_last false b e = e

-- it isn't the last that a link takes
not_last : (count : ℕ) → count < 1000000 → (count + 1 == 1000000) ≡ false → count + 1 < 1000000
not_last count few other = grind (arith, nat_tests)

-- a request that doesn't close is asked as it came
same_request : (came : Request) (last : Bool) → came.close || last ≡ false → record came { close = came.close || last } ≡ came
same_request came last e = ap (λ (close : Bool). record came { close = close }) (e ∙ sym (neither came.close last e))

-- so many turns were written whole, these bytes are held, and the link goes on
pub record IsServing {S : Type 0} (replies : Replies S) (course : Course S) (held : List ℕ) (count : ℕ) : Type 0 where
  pub came : List ℕ
  pub turns : List Turn
  pub done : Turns replies (record { state = course.before; bytes = came }) turns (record { state = course.after; bytes = held })
  pub counted : length turns ≡ count
  pub links : BothTold (Exchanges came (all_written turns)) course.links.before course.links.after

-- a course that goes on: the state and the links are others
abbrev pub onward : {S : Type 0} → Course S → S → Option Links → Course S
onward course state links = record { before = course.before; after = state; links = record { before = course.links.before; after = links } }

-- nothing was read yet
pub serving_none : {S : Type 0} (replies : Replies S) (state : S) (links : Option Links) → IsOpen links
    → IsServing replies (record { before = state; after = state; links = record { before = links; after = links } }) [] 0
serving_none replies state links is_open = record { came = []; turns = []; done = refl; counted = refl; links = exchanges-none links is_open }

module _ {S : Type 0} (replies : Replies S) (course : Course S) (held : List ℕ) (count : ℕ) (x : IsServing replies course held count) where
  -- some bytes more came
  pub serving_read : WholeStays → (more : List ℕ) (after : Option Links) → BringsPiece held more (record { before = course.links.after; after = after })
      → IsServing replies (onward course course.after after) more count
  serving_read stays more after brings = record {
    came = x.came ++ brings.piece;
    turns = x.turns;
    done = subst
        (λ (bs : List ℕ). Turns replies (record { state = course.before; bytes = x.came ++ brings.piece }) x.turns (record { state = course.after; bytes = bs }))
        (sym brings.joined)
        (turns_more replies stays (record { state = course.before; bytes = x.came }) (record { state = course.after; bytes = held }) x.turns brings.piece
        x.done);
    counted = x.counted;
    links = exchanges-read x.came (all_written x.turns) brings.piece course.links.before course.links.after after x.links brings.reads;
  }

  -- one request more was answered, and its reply written
  pub serving_turn : (request : Request) (next : List ℕ) (reply : Reply) (state : S) (after : Option Links)
      → Arrives held (whole request next) → replies course.after request reply state → request.close ≡ false
      → BothTold (Writes (printed request.close reply)) course.links.after after → IsServing replies (onward course state after) next (count + 1)
  serving_turn request next reply state after arrives gets stays writes =
      let turn : Turn = record { request = request; reply = reply } in
      record {
        came = x.came;
        turns = x.turns ++ turn ∷ [];
        done = turns_push replies (record { state = course.before; bytes = x.came }) (record { state = course.after; bytes = held })
            (record { state = state; bytes = next }) x.turns turn x.done (record { arrives = arrives; gets = gets; stays = stays });
        counted = omega (arith, length-append x.turns (turn ∷ []), x.counted);
        links = subst (λ (ws : List ℕ). BothTold (Exchanges x.came ws) course.links.before after) (sym (written_push x.turns turn))
            (exchanges-write x.came (all_written x.turns) (printed request.close reply) course.links.before course.links.after after x.links writes);
      }

  module _ (few : count < 1000000) where
    -- the link ends here
    ends_here : (end : LinkEnd) (tail : Tail S) (after : Option Links)
        → Ends replies end (record { stand = record { state = course.after; bytes = held }; count = count }) tail
        → BothTold (ExchangesTo end x.came (all_written x.turns ++ tail.bytes)) course.links.before after
        → IsServed replies (onward course tail.state after) end
    ends_here end tail after ends links = record {
      came = x.came;
      turns = x.turns;
      between = record { state = course.after; bytes = held };
      tail = tail.bytes;
      done = x.done;
      few = omega (arith, few, x.counted);
      ends = subst (λ (n : ℕ). Ends replies end (record { stand = record { state = course.after; bytes = held }; count = n }) tail)
          (sym x.counted) ends;
      links = links;
    }

    -- nothing more was written
    silent : IsSilent (record { stand = record { state = course.after; bytes = held }; count = count }) (record { bytes = []; state = course.after })
    silent = record { none = refl; same = refl }

    nothing_written : BothTold (Exchanges x.came (all_written x.turns ++ [])) course.links.before course.links.after
    nothing_written = subst (λ (ws : List ℕ). BothTold (Exchanges x.came ws) course.links.before course.links.after) (sym (append-nil (all_written x.turns))) x.links

    -- a read failed
    pub read_failed : (after : Option Links) → after ≡ course.links.after → Arrives held partial → IsServed replies (onward course course.after after) Fault
    read_failed after same arrives =
        ends_here Fault (record { bytes = []; state = course.after }) after (inl (silent, arrives))
        (subst (λ (o : Option Links). BothTold (Exchanges x.came (all_written x.turns ++ [])) course.links.before o) (sym same) nothing_written)

    -- the input ended
    all_read : (after : Option Links) → BothTold (Reads []) course.links.after after
        → BothTold (ExchangesAll x.came (all_written x.turns ++ [])) course.links.before after
    all_read after reads = exchanges-end x.came (all_written x.turns) course.links.before course.links.after after x.links reads

    ended_at : (bytes : List ℕ) → held ≡ bytes → (after : Option Links) → Arrives held partial → BothTold (Reads []) course.links.after after
        → IsServed replies (onward course course.after after) (input_end bytes)
    ended_at [] is after arrives reads = ends_here End (record { bytes = []; state = course.after }) after (is, silent) (all_read after reads)
    ended_at (b ∷ bytes) is after arrives reads =
        ends_here Inside (record { bytes = []; state = course.after }) after (omega (arith, ap length is), arrives, silent) (all_read after reads)

    pub input_ended : (more : List ℕ) (after : Option Links) → Arrives held partial → BringsNothing held more (record { before = course.links.after; after = after })
        → IsServed replies (onward course course.after after) (input_end more)
    input_ended more after arrives brings = ended_at more (sym brings.same) after arrives brings.reads

    -- what was due was written in part
    cut : (due : Due S) (after : Option Links) → Owes replies (record { stand = record { state = course.after; bytes = held }; count = count }) due
        → TakesPart due.bytes (record { before = course.links.after; after = after }) → IsServed replies (onward course due.state after) Fault
    cut due after owes takes =
        ends_here Fault (record { bytes = takes.part; state = due.state }) after
        (inr (due, owes, record { unwritten = takes.rest; bytes = takes.whole; lacks = takes.lacks; state = refl }))
        (exchanges-write x.came (all_written x.turns) takes.part course.links.before course.links.after after x.links takes.takes)

    all_exchanged : (bytes : List ℕ) (after : Option Links) → BothTold (Writes bytes) course.links.after after
        → BothTold (Exchanges x.came (all_written x.turns ++ bytes)) course.links.before after
    all_exchanged bytes after writes =
        exchanges-write x.came (all_written x.turns) bytes course.links.before course.links.after after x.links writes

    whole_tail : (due : Due S) → IsWhole due (record { bytes = due.bytes; state = due.state })
    whole_tail due = record { bytes = refl; state = refl }

    -- a reply or a refusal was written that closes the link, or a part of it
    closed : (due : Due S) (after : Option Links) (end : LinkEnd)
        → OwesReply replies (record { stand = record { state = course.after; bytes = held }; count = count }) true due
        ⊎ OwesRefusal (record { stand = record { state = course.after; bytes = held }; count = count }) due
        → WritesLast due.bytes Closed end (record { before = course.links.after; after = after }) → IsServed replies (onward course due.state after) end
    closed due after end owes (inl writes) =
        subst (λ (e : LinkEnd). IsServed replies (onward course due.state after) e) (sym writes.0)
        (ends_here Closed (record { bytes = due.bytes; state = due.state }) after (due, owes, whole_tail due) (all_exchanged due.bytes after writes.1))
    closed due after end owes (inr writes) =
        subst (λ (e : LinkEnd). IsServed replies (onward course due.state after) e) (sym writes.0)
        (cut due after (elim owes [ inl reply ↦ inl (true, reply) | inr refusal ↦ inr (inl refusal) ]) writes.1)

    -- the fixed reply was written, or a part of it
    ran_out : (due : Due S) (after : Option Links) (end : LinkEnd)
        → OwesMemory (record { stand = record { state = course.after; bytes = held }; count = count }) due
        → WritesLast due.bytes Memory end (record { before = course.links.after; after = after }) → IsServed replies (onward course due.state after) end
    ran_out due after end owes (inl writes) =
        subst (λ (e : LinkEnd). IsServed replies (onward course due.state after) e) (sym writes.0)
        (ends_here Memory (record { bytes = due.bytes; state = due.state }) after (due, owes, whole_tail due) (all_exchanged due.bytes after writes.1))
    ran_out due after end owes (inr writes) =
        subst (λ (e : LinkEnd). IsServed replies (onward course due.state after) e) (sym writes.0) (cut due after (inr (inr owes)) writes.1)

    -- memory ran out for what the bytes begin with
    no_memory : (arrival : Arrival) → Arrives held arrival → ¬ (arrival ≡ partial) → (after : Option Links) (end : LinkEnd)
        → WritesLast memory_reply Memory end (record { before = course.links.after; after = after }) → IsServed replies (onward course course.after after) end
    no_memory arrival arrives answerable after end writes =
        ran_out (record { bytes = memory_reply; state = course.after }) after end
        (record { arrival = arrival; arrives = arrives; answerable = answerable; bytes = refl; same = refl }) writes

    -- a head was refused
    pub refused_head : (status : ℕ) → Arrives held (refused status) → (after : Option Links) (end : LinkEnd)
        → Refuses status end (record { before = course.links.after; after = after }) → IsServed replies (onward course course.after after) end
    refused_head status arrives after end (inl writes) =
        closed (record { bytes = printed true (refusal status); state = course.after }) after end
        (inr (record { status = status; arrives = arrives; bytes = refl; same = refl })) writes
    refused_head status arrives after end (inr writes) = no_memory (refused status) arrives (λ e. cc) after end writes

    module _ (came : Request) (next : List ℕ) (arrives : Arrives held (whole came next)) (state : S) (after : Option Links) where
      -- a reply was given that ends the link
      replied : (reply : Reply) → replies course.after (asked count came) reply state → (close : Bool) → (asked count came).close ≡ close
          → (end : LinkEnd) → WritesReply (printed close reply) close (Some end) (record { before = course.links.after; after = after })
          → IsServed replies (onward course state after) end
      replied reply gets true is end writes =
          closed (record { bytes = printed true reply; state = state }) after end
          (inl (record { came = came; rest = next; arrives = arrives; reply = reply; gets = gets; close = is; bytes = refl })) writes
      replied reply gets false is end writes =
          subst (λ (e : LinkEnd). IsServed replies (onward course state after) e) (sym writes.0)
          (cut (record { bytes = printed false reply; state = state }) after
          (inl (false, record { came = came; rest = next; arrives = arrives; reply = reply; gets = gets; close = is; bytes = refl })) writes.1)

      pub stops : (end : LinkEnd)
          → GivesReply replies (asked count came) (record {
            before = course.after;
            after = state;
            links = record { before = course.links.after; after = after };
          }) (Some end)
          → IsServed replies (onward course state after) end
      stops end (inl gets) = replied gets.reply gets.gets (asked count came).close refl end gets.writes
      stops end (inr lacks) =
          let same : lacks.end ≡ end = (let e : Some end ≡ Some lacks.end = lacks.told in cc) in
          subst (λ (e : LinkEnd). IsServed replies (onward course state after) e) same
          (subst (λ (s : S). IsServed replies (onward course s after) lacks.end) (sym lacks.same)
          (no_memory (whole came next) arrives (λ e. cc) after lacks.end lacks.writes))

      pub goes_on : GivesReply replies (asked count came) (record {
        before = course.after;
        after = state;
        links = record { before = course.links.after; after = after };
      }) None
          → IsServing replies (onward course state after) next (count + 1) × (count + 1 < 1000000)
      goes_on (inl gets) =
          let on : ((asked count came).close ≡ false) × BothTold (Writes (printed (asked count came).close gets.reply)) course.links.after after =
          on_reply (printed (asked count came).close gets.reply) (asked count came).close (record { before = course.links.after; after = after }) gets.writes in (
            serving_turn (asked count came) next gets.reply state after
                (subst (λ (r : Request). Arrives held (whole r next)) (sym (same_request came (count + 1 == 1000000) on.0)) arrives)
                gets.gets on.0 on.1,
            not_last count few (nor_last came.close (count + 1 == 1000000) on.0),
          )
      goes_on (inr lacks) = absurd (let e : None ≡ Some lacks.end = lacks.told in cc)

-- All that becomes of the state comes of the requests of a link.
use Rattle.std.proofs.Common.{◌≡◌, ℕ, ◌+◌, ◌⊎◌, inl, inr, Bool, true, false, ◌||◌, ◌==◌, List, [], ◌∷◌, ◌++◌, length, refl, sym, ap, subst}
use Rattle.http_front.specs.Arrival.{whole, Arrives}
use Rattle.http_front.specs.Request.{Request, fields_of}
use Rattle.http_front.proofs.FrontLemmas.{body-le}
use Rattle.link_core.specs.Laws.{IsAsked, BeginsWithRequests, HasShortBody, RequestsLead, LinkLeads}
use Rattle.link_core.specs.Link.{Replies, Stand, Turn, Turns, asked, Due, Point, OwesReply, Owes, Tail, Ends}
use Rattle.link_core.specs.declared.end.LinkEnd.{LinkEnd}
use Rattle.link_core.specs.declared.end.LinkEnd.TheVariants.{End, Closed, Inside, Memory, Fault}

or_either : (a b : Bool) → (a || b ≡ a) ⊎ (a || b ≡ true)
or_either true b = inl refl
or_either false true = inr refl
or_either false false = inl refl

-- a request is asked as it came, or closes the link
is_asked : (count : ℕ) (came : Request) → IsAsked came (asked count came)
is_asked count came = elim (or_either came.close (count + 1 == 1000000)) [
  | inl same ↦ inl (ap (λ (close : Bool). record came { close = close }) same)
  | inr closes ↦ inr (ap (λ (close : Bool). record came { close = close }) closes)
]

-- what arrives whole has a short body
short : (request : Request) (rest bytes : List ℕ) → Arrives bytes (whole request rest) → HasShortBody request
short request rest bytes arrives = body-le (fields_of arrives.head) (length request.body) arrives.sized

module _ {S : Type 0} (replies : Replies S) where
  -- some requests, and then others
  pub leads_then : (before between after : S) (first others : List Request) → RequestsLead replies before first between → RequestsLead replies between others after
      → RequestsLead replies before (first ++ others) after
  leads_then before between after [] others one other = subst (λ (state : S). RequestsLead replies state others after) one other
  leads_then before between after (request ∷ first) others one other =
      (one.0, one.1, one.2, leads_then one.0 between after first others one.3 other)

  -- requests that the bytes begin with lead from where a link stands to a state
  abbrev LeadsFrom : Stand S → S → Type 0
  LeadsFrom stand last =
      (requests : List Request) × BeginsWithRequests stand.bytes requests × RequestsLead replies stand.state requests last

  by_none : (stand : Stand S) (last : S) → last ≡ stand.state → LeadsFrom stand last
  by_none stand last same = ([], tt, same)

  by_turns : (before after : Stand S) (turns : List Turn) (last : S) → Turns replies before turns after → LeadsFrom after last → LeadsFrom before last
  by_turns before after [] last done leads = subst (λ (stand : Stand S). LeadsFrom stand last) done leads
  by_turns before after (turn ∷ turns) last done leads =
      let rest = by_turns done.0 after turns last done.2 leads in (
        turn.request ∷ rest.0,
        (turn.request, done.0.bytes, done.1.arrives, inl refl, rest.1),
        (done.0.state, short turn.request done.0.bytes before.bytes done.1.arrives, (turn.reply, done.1.gets), rest.2),
      )

  by_reply : (point : Point S) (closes : Bool) (due : Due S) → OwesReply replies point closes due → LeadsFrom point.stand due.state
  by_reply point closes due owes = (
    asked point.count owes.came ∷ [],
    (owes.came, owes.rest, owes.arrives, is_asked point.count owes.came, tt),
    (due.state, short owes.came owes.rest point.stand.bytes owes.arrives, (owes.reply, owes.gets), refl),
  )

  by_due : (point : Point S) (due : Due S) → Owes replies point due → LeadsFrom point.stand due.state
  by_due point due owes = elim owes [
    | inl reply ↦ by_reply point reply.0 due reply.1
    | inr other ↦ elim other [
      | inl refusal ↦ by_none point.stand due.state refusal.same
      | inr memory ↦ by_none point.stand due.state memory.same
    ]
  ]

  to_state : (stand : Stand S) (one other : S) → other ≡ one → LeadsFrom stand one → LeadsFrom stand other
  to_state stand one other same leads = subst (λ (last : S). LeadsFrom stand last) (sym same) leads

  by_end : (end : LinkEnd) (point : Point S) (tail : Tail S) → Ends replies end point tail → LeadsFrom point.stand tail.state
  by_end End point tail ends = by_none point.stand tail.state ends.1.same
  by_end Inside point tail ends = by_none point.stand tail.state ends.2.same
  by_end Closed point tail ends =
      to_state point.stand ends.0.state tail.state ends.2.state
      (by_due point ends.0 (elim ends.1 [ inl reply ↦ inl (true, reply) | inr refusal ↦ inr (inl refusal) ]))
  by_end Memory point tail ends =
      to_state point.stand ends.0.state tail.state ends.2.state (by_due point ends.0 (inr (inr ends.1)))
  by_end Fault point tail (inl silent) = by_none point.stand tail.state silent.0.same
  by_end Fault point tail (inr cut) = to_state point.stand cut.0.state tail.state cut.2.state (by_due point cut.0 cut.1)

  pub link_leads : LinkLeads replies
  link_leads course end served =
      by_turns (record { state = course.before; bytes = served.came }) served.between served.turns course.after served.done
      (by_end end (record { stand = served.between; count = length served.turns }) (record { bytes = served.tail; state = course.after }) served.ends)

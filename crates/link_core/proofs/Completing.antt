-- A link whose input is whole requests answers each of them.
use Rattle.std.proofs.Common.{◌≡◌, ℕ, ◌+◌, ◌<◌, ◌≤◌, ◌⊎◌, inl, inr, Bool, true, false, ◌||◌, ◌==◌, List, [], ◌∷◌, ◌++◌, length, length-append, append_assoc, append-nil, refl, sym, ◌∙◌, ap, subst, arith}
use Rattle.std.proofs.lemmas.Bool.{eqb-true}
use Rattle.std.proofs.lemmas.Bool.Decides.{nat_tests}
use Rattle.std.proofs.lemmas.List.{nil_from_length}
use Rattle.http_front.specs.Arrival.{whole, partial, refused, Arrives}
use Rattle.http_front.specs.Laws.{WholeIsOnly, WholeStays, FrontOfWhole, NothingIsPartial}
use Rattle.http_front.specs.Reply.{printed}
use Rattle.http_front.specs.Request.{Request}
use Rattle.link_core.specs.Laws.{AreRequests, OnlyLastCloses, ReadsAll, Answered, AnswersAll, EndsWell, LinkCompletes}
use Rattle.link_core.specs.Link.{Replies, Stand, Turn, Takes, Turns, all_written, asked, Point, Ends}
use Rattle.link_core.specs.declared.end.LinkEnd.{LinkEnd}
use Rattle.link_core.specs.declared.end.LinkEnd.TheVariants.{End, Closed, Inside, Memory, Fault}

-- the laws of the crate below
pub record Laws : Type 0 where
  pub whole_is_only : WholeIsOnly
  pub whole_stays : WholeStays
  pub front_of_whole : FrontOfWhole
  pub nothing_is_partial : NothingIsPartial

first_nil : (one other : List ℕ) → one ++ other ≡ [] → one ≡ []
first_nil one other e = nil_from_length one (omega (arith, simp length-append at (ap length e)))

module _ (laws : Laws) where
  never_empty : (request : Request) (rest : List ℕ) → Arrives [] (whole request rest) → ⊥
  never_empty request rest arrives = (let e : whole request rest ≡ partial = laws.nothing_is_partial (whole request rest) arrives in cc)

  -- the requests go on behind the one that the bytes begin with
  pub first_request : (bytes left next : List ℕ) (request : Request) (requests : List Request) → Arrives bytes (whole request next)
      → AreRequests (bytes ++ left) requests → (others : List Request) × (requests ≡ request ∷ others) × AreRequests (next ++ left) others
  first_request bytes left next request [] arrives are =
      absurd (never_empty request next (subst (λ (bs : List ℕ). Arrives bs (whole request next)) (first_nil bytes left are) arrives))
  first_request bytes left next request (first ∷ others) arrives are =
      let here : Arrives (bytes ++ left) (whole first are.1) =
      subst (λ (bs : List ℕ). Arrives bs (whole first are.1)) (sym are.2) (laws.whole_stays are.0 first [] are.1 are.3) in
      let same : whole first are.1 ≡ whole request (next ++ left) =
      laws.whole_is_only (bytes ++ left) request (next ++ left) (whole first are.1) (laws.whole_stays bytes request next left arrives) here in
      let behind : are.1 ≡ next ++ left = cc in
      (others, cc, subst (λ (bs : List ℕ). AreRequests bs others) behind are.4)

  -- no bytes are no request
  nothing_left : (requests : List Request) → AreRequests [] requests → requests ≡ []
  nothing_left [] are = refl
  nothing_left (request ∷ requests) are =
      absurd (never_empty request [] (subst (λ (bs : List ℕ). Arrives bs (whole request [])) (first_nil are.0 are.1 (sym are.2)) are.3))

  -- the beginning of the requests is partial, or begins with one
  never_refused : (bytes left : List ℕ) (status : ℕ) (requests : List Request) → Arrives bytes (refused status) → AreRequests (bytes ++ left) requests → ⊥
  never_refused bytes left status [] arrives are =
      let none : Arrives [] (refused status) = subst (λ (bs : List ℕ). Arrives bs (refused status)) (first_nil bytes left are) arrives in
      let e : refused status ≡ partial = laws.nothing_is_partial (refused status) none in
      cc
  never_refused bytes left status (request ∷ requests) arrives are =
      let here : Arrives (bytes ++ left) (whole request are.1) =
      subst (λ (bs : List ℕ). Arrives bs (whole request are.1)) (sym are.2) (laws.whole_stays are.0 request [] are.1 are.3) in
      elim (laws.front_of_whole bytes left request are.1 (refused status) here arrives) [
        | inl e ↦ cc
        | inr e ↦ (let same : refused status ≡ whole request e.0 = e.1 in cc)
      ]

  never_inside : (bytes : List ℕ) (requests : List Request) → 0 < length bytes → Arrives bytes partial → AreRequests bytes requests → ⊥
  never_inside bytes [] some arrives are = absurd (omega (arith, ap length are))
  never_inside bytes (request ∷ requests) some arrives are =
      let here : Arrives bytes (whole request are.1) =
      subst (λ (bs : List ℕ). Arrives bs (whole request are.1)) (sym are.2) (laws.whole_stays are.0 request [] are.1 are.3) in
      let e : partial ≡ whole request are.1 = laws.whole_is_only bytes request are.1 partial here arrives in
      cc

or_false : (a b : Bool) → b ≡ false → a || b ≡ a
or_false true b e = refl
or_false false b e = e

not_yet : (count : ℕ) → count + 1 < 1000000 → (count + 1 == 1000000) ≡ false
not_yet count few = grind (arith, nat_tests)

-- a request that isn't the last is asked as it came
asked_same : (count : ℕ) (request : Request) → count + 1 < 1000000 → asked count request ≡ request
asked_same count request few =
    ap (λ (close : Bool). record request { close = close }) (or_false request.close (count + 1 == 1000000) (not_yet count few))

others_close : (request : Request) (requests : List Request) → OnlyLastCloses (request ∷ requests) → OnlyLastCloses requests
others_close request [] only = tt
others_close request (other ∷ requests) only = only.1

or_true : (a b : Bool) → a || b ≡ true → a ≡ false → b ≡ true
or_true true b e f = cc
or_true false b e f = e

-- the last request closes, and no other
last_one : (count : ℕ) (request : Request) (requests : List Request) → OnlyLastCloses (request ∷ requests) → length (request ∷ requests) + count ≤ 1000000
    → (asked count request).close ≡ true → requests ≡ []
last_one count request [] only few closes = refl
last_one count request (other ∷ requests) only few closes =
    let last : count + 1 ≡ 1000000 = eqb-true (count + 1) 1000000 (or_true request.close (count + 1 == 1000000) closes only.0) in
    absurd (omega (arith, last, few))

module _ {S : Type 0} (replies : Replies S) (laws : Laws) (left : List ℕ) where
  -- what remains of the requests behind some turns
  abbrev Remains : Stand S → Stand S → ℕ × List Turn → List Request → Type 0
  Remains before between (count, turns) requests =
      (others : List Request) × AreRequests (between.bytes ++ left) others × OnlyLastCloses others
      × (length others + (count + length turns) ≤ 1000000)
      × ((tail : List ℕ) (last : S)
      → AnswersAll replies (record { state = between.state; count = count + length turns }) others (record { written = tail; state = last })
      → AnswersAll replies (record { state = before.state; count = count }) requests (record { written = all_written turns ++ tail; state = last }))

  remains_none : (before : Stand S) (count : ℕ) (requests : List Request) → AreRequests (before.bytes ++ left) requests → OnlyLastCloses requests
      → length requests + count ≤ 1000000 → Remains before before (count, []) requests
  remains_none before count requests are only few =
      let same : count + 0 ≡ count = omega arith in (
        requests,
        are,
        only,
        omega (arith, few),
        λ tail last answers.
            subst (λ (n : ℕ). AnswersAll replies (record { state = before.state; count = n }) requests (record { written = tail; state = last })) same answers,
      )

  remains_more : (before next between : Stand S) (turn : Turn) (turns : List Turn) (count : ℕ) (others : List Request)
      → Takes replies before turn next → count + 1 < 1000000 → Remains next between (count + 1, turns) others
      → Remains before between (count, turn ∷ turns) (turn.request ∷ others)
  remains_more before next between turn turns count others takes few rest =
      let same : asked count turn.request ≡ turn.request = asked_same count turn.request few in
      let counts : count + 1 + length turns ≡ count + length (turn ∷ turns) = omega arith in (
        rest.0,
        rest.1,
        rest.2,
        omega (arith, rest.3),
        λ tail last answers. (
          turn.reply,
          next.state,
          all_written turns ++ tail,
          subst (λ (r : Request). replies before.state r turn.reply next.state) (sym same) takes.gets,
          append_assoc (printed turn.request.close turn.reply) (all_written turns) tail
              ∙ ap (λ (r : Request). printed r.close turn.reply ++ (all_written turns ++ tail)) (sym same),
          rest.4 tail last (subst
              (λ (n : ℕ). AnswersAll replies (record { state = between.state; count = n }) rest.0 (record { written = tail; state = last }))
              (sym counts) answers),
        ),
      )

  remains : (before between : Stand S) (turns : List Turn) (count : ℕ) (requests : List Request) → Turns replies before turns between
      → AreRequests (before.bytes ++ left) requests → OnlyLastCloses requests → length requests + count ≤ 1000000 → count + length turns < 1000000
      → Remains before between (count, turns) requests
  remains before between [] count requests done are only few turned =
      subst (λ (b : Stand S). Remains before b (count, []) requests) (sym done) (remains_none before count requests are only few)
  remains before between (turn ∷ turns) count requests done are only few turned =
      let first = first_request laws before.bytes left done.0.bytes turn.request requests done.1.arrives are in
      let only_first : OnlyLastCloses (turn.request ∷ first.0) = subst OnlyLastCloses first.1 only in
      let fewer : length (turn.request ∷ first.0) + count ≤ 1000000 = subst (λ (rs : List Request). length rs + count ≤ 1000000) first.1 few in
      subst (λ (rs : List Request). Remains before between (count, turn ∷ turns) rs) (sym first.1)
      (remains_more before done.0 between turn turns count first.0 done.1 (omega (arith, turned))
      (remains done.0 between turns (count + 1) first.0 done.2 first.2 (others_close turn.request first.0 only_first) (omega (arith, fewer))
      (omega (arith, turned))))

  -- how the link ends behind the turns
  abbrev Finishes : LinkEnd → Point S → List Request → Answered S → Type 0
  Finishes end point requests answered =
      (end ≡ Memory) ⊎ (EndsWell end × AnswersAll replies (record { state = point.stand.state; count = point.count }) requests answered)

  finishes : (end : LinkEnd) (point : Point S) (requests : List Request) (tail : List ℕ) (last : S)
      → Ends replies end point (record { bytes = tail; state = last }) → AreRequests (point.stand.bytes ++ left) requests → OnlyLastCloses requests
      → length requests + point.count ≤ 1000000 → ReadsAll end left → ¬ (end ≡ Fault)
      → Finishes end point requests (record { written = tail; state = last })
  finishes Fault point requests tail last ends are only few all fault = absurd (fault refl)
  finishes Memory point requests tail last ends are only few all fault = inl refl
  finishes Inside point requests tail last ends are only few all fault =
      let here : AreRequests point.stand.bytes requests =
      subst (λ (bs : List ℕ). AreRequests bs requests) (ap (λ (l : List ℕ). point.stand.bytes ++ l) all ∙ append-nil point.stand.bytes) are in
      absurd (never_inside laws point.stand.bytes requests ends.0 ends.1 here)
  finishes End point requests tail last ends are only few all fault =
      let none : AreRequests [] requests =
      subst (λ (bs : List ℕ). AreRequests bs requests) (ap (λ (l : List ℕ). point.stand.bytes ++ l) all ∙ append-nil point.stand.bytes ∙ ends.0) are in
      let no_more : requests ≡ [] = nothing_left laws requests none in
      inr (
        inl refl,
        subst
            (λ (rs : List Request). AnswersAll replies (record { state = point.stand.state; count = point.count }) rs (record { written = tail; state = last }))
            (sym no_more) (ends.1.none, ends.1.same),
      )
  finishes Closed point requests tail last ends are only few all fault = elim ends.1 [
    | inl owes ↦
        let first = first_request laws point.stand.bytes left owes.rest owes.came requests owes.arrives are in
        let alone : first.0 ≡ [] =
        last_one point.count owes.came first.0 (subst OnlyLastCloses first.1 only)
        (subst (λ (rs : List Request). length rs + point.count ≤ 1000000) first.1 few) owes.close in
        let one : requests ≡ owes.came ∷ [] = first.1 ∙ ap (λ (rs : List Request). owes.came ∷ rs) alone in
        inr (
          inr refl,
          subst
              (λ (rs : List Request). AnswersAll replies (record { state = point.stand.state; count = point.count }) rs (record { written = tail; state = last }))
              (sym one) (
                owes.reply,
                ends.0.state,
                [],
                owes.gets,
                ends.2.bytes ∙ owes.bytes ∙ ap (λ (close : Bool). printed close owes.reply) (sym owes.close) ∙ sym (append-nil _),
                (refl, ends.2.state),
              ),
        )
    | inr owes ↦ absurd (never_refused laws point.stand.bytes left owes.status requests owes.arrives are)
  ]

pub link_completes : {S : Type 0} (replies : Replies S) → Laws → LinkCompletes replies
link_completes replies laws course end x left requests input all fault =
    let same : 0 + length x.turns ≡ length x.turns = omega arith in
    let rest = remains replies laws left (record { state = course.before; bytes = x.came }) x.between x.turns 0 requests x.done input.are_requests
    input.last_closes (omega (arith, input.few)) (omega (arith, x.few)) in
    let ends = subst
    (λ (n : ℕ). Ends replies end (record { stand = x.between; count = n }) (record { bytes = x.tail; state = course.after }))
    (sym same) x.ends in
    elim (finishes replies laws left end (record { stand = x.between; count = 0 + length x.turns }) rest.0 x.tail course.after ends rest.1 rest.2
    rest.3 all fault) [
      | inl memory ↦ inl memory
      | inr well ↦ inr (well.0, rest.4 x.tail course.after well.1)
    ]

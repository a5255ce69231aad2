-- The links of a door whose inputs are whole requests answer each of them.
use Rattle.std.proofs.Common.{◌≡◌, ℕ, ◌⊎◌, inl, inr, zero, suc, List, [], ◌∷◌, ◌++◌, map, take, drop, append_assoc, append-nil, Option, Some, None, refl, sym, ◌∙◌, ap, subst, arith}
use Rattle.edge_core.specs.Door.{Link, Links, DoorHasFailed, FindsNone}
use Rattle.http_front.specs.Request.{Request}
use Rattle.link_core.specs.Laws.{AnswersAll, EndsWell, LinkCompletes}
use Rattle.link_core.specs.Link.{Replies}
use Rattle.link_core.specs.declared.end.LinkEnd.{LinkEnd}
use Rattle.link_core.specs.declared.end.LinkEnd.TheVariants as link
use Rattle.serve_core.specs.Laws.{IsInput, AreInputs, AnswersLinks, DoorCompletes}
use Rattle.serve_core.specs.Serving.{Moment, Serving, TakesNext, FindsNoLink, NextLink, ServesLinks, stopped_by, most_links}
use Rattle.serve_core.specs.declared.plan.Plan.{Plan}
use Rattle.serve_core.specs.declared.plan.Plan.TheVariants.{Streams, Port}
use Rattle.serve_core.specs.declared.plan.ServeEnd.{ServeEnd}
use Rattle.serve_core.specs.declared.plan.ServeEnd.TheVariants.{Done, Memory, Fault}
use Rattle.serve_core.proofs.Causing.{risen-longer, failed_at, keeps_links}
use Rattle.serve_core.proofs.Taking.{told_pair, Took, took}

-- so many links were taken, and each got the replies to its requests
record Answered {S : Type 0} (replies : Replies S) (n : ℕ) (serving : Serving S) (links : Links) (requests : List (List Request)) : Type 0 where
  pub last : Links
  pub told : serving.after.door.links ≡ Some last
  pub served : List Link
  pub shut : last.shut ≡ links.shut ++ served
  pub coming : last.coming ≡ drop n links.coming
  pub answers :
      AnswersLinks replies serving.before.state requests
      (record { written = map (λ (link : Link). link.written) served; state = serving.after.state })

-- serving completes, or memory ran out
abbrev Completes : {S : Type 0} → Replies S → ℕ → Serving S → ServeEnd → Links → List (List Request) → Type 0
Completes replies n serving end links requests = (end ≡ Memory) ⊎ ((end ≡ Done) × Answered replies n serving links requests)

-- no inputs are no requests
no_inputs : (requests : List (List Request)) → AreInputs [] requests → requests ≡ []
no_inputs [] are = refl
no_inputs (r ∷ rs) are = absurd are

-- the first input has the first requests
first_inputs : (input : List ℕ) (inputs : List (List ℕ)) (requests : List (List Request)) → AreInputs (input ∷ inputs) requests
    → (first : List Request) × (others : List (List Request)) × (requests ≡ first ∷ others) × IsInput input first × AreInputs inputs others
first_inputs input inputs [] are = absurd are
first_inputs input inputs (r ∷ rs) are = (r, rs, refl, are.0, are.1)

-- a link that ended well didn't stop serving, and one that memory ended did
well_goes_on : (plan : Plan) (end : LinkEnd) → EndsWell end → stopped_by plan end ≡ None
well_goes_on Streams link.End well = refl
well_goes_on Streams link.Closed well = refl
well_goes_on (Port port links) link.End well = refl
well_goes_on (Port port links) link.Closed well = refl
well_goes_on plan link.Inside (inl e) = cc
well_goes_on plan link.Inside (inr e) = cc
well_goes_on plan link.Memory (inl e) = cc
well_goes_on plan link.Memory (inr e) = cc
well_goes_on plan link.Fault (inl e) = cc
well_goes_on plan link.Fault (inr e) = cc

memory_stops : (plan : Plan) (end : LinkEnd) → end ≡ link.Memory → stopped_by plan end ≡ Some Memory
memory_stops Streams end e = ap (λ (l : LinkEnd). stopped_by Streams l) e
memory_stops (Port port links) end e = ap (λ (l : LinkEnd). stopped_by (Port port links) l) e

module _ {S : Type 0} (replies : Replies S) (complete : LinkCompletes replies) where
  -- nothing more is taken, and there was nothing more
  nothing_more : (n : ℕ) (serving : Serving S) (links : Links) (requests : List (List Request)) → serving.after.state ≡ serving.before.state
      → serving.after.door.links ≡ Some links → links.coming ≡ drop n links.coming → requests ≡ [] → Answered replies n serving links requests
  nothing_more n serving links requests same told coming none = record {
    last = links;
    told = told;
    served = [];
    shut = sym (append-nil links.shut);
    coming = coming;
    answers = subst
        (λ (rs : List (List Request)). AnswersLinks replies serving.before.state rs (record { written = []; state = serving.after.state }))
        (sym none) (refl, same);
  }

  -- no link was left
  none_left : (n : ℕ) (serving : Serving S) (outcome : Option ServeEnd) (links : Links) (requests : List (List Request)) → FindsNoLink serving outcome
      → serving.before.door.links ≡ Some links → AreInputs (take (suc n) links.coming) requests → Answered replies (suc n) serving links requests
  none_left n serving outcome links requests none told are =
      let found = told_pair FindsNone serving.before.door.links serving.after.door.links links none.links told in
      let no_more : links.coming ≡ [] = found.2.no_more in
      nothing_more (suc n) serving links requests none.same (found.1 ∙ ap Some found.2.same)
      (no_more ∙ sym (ap (λ (is : List (List ℕ)). drop (suc n) is) no_more))
      (no_inputs requests (subst (λ (is : List (List ℕ)). AreInputs (take (suc n) is) requests) no_more are))

  -- a link was taken that is behind all but its own faults
  one_link : (n : ℕ) (serving : Serving S) (links : Links) (requests : List (List Request)) (outcome : Option ServeEnd) (x : TakesNext replies serving outcome)
      → (t : Took replies serving.before x.end serving.after links) → AreInputs (take (suc n) links.coming) requests
      → ¬ (DoorHasFailed serving.before.door serving.after.door)
      → (outcome ≡ Some Memory)
      ⊎ ((outcome ≡ None) × (first : List Request) × (others : List (List Request)) × (requests ≡ first ∷ others) × AreInputs (take n t.last.coming) others
      × AnswersAll replies (record { state = serving.before.state; count = 0 }) first (record { written = t.written; state = serving.after.state }))
  one_link n serving links requests outcome x t are unfailed =
      let first = first_inputs t.input (take n t.last.coming) requests
      (subst (λ (is : List (List ℕ)). AreInputs (take (suc n) is) requests) t.shut.next are) in
      elim (t.answers first.0 first.3 (λ is. unfailed (failed_at x.end serving.before.door serving.after.door is x.takes.failed))) [
        | inl memory ↦ inl (x.decides ∙ memory_stops serving.plan x.end memory)
        | inr well ↦ inr (x.decides ∙ well_goes_on serving.plan x.end well.0, first.0, first.1, first.2, first.4, well.1)
      ]

  -- one link and those behind it
  more_links : (n : ℕ) (serving : Serving S) (between : Moment S) (links : Links) (outcome : Option ServeEnd) (x : TakesNext replies (record serving { after = between }) outcome)
      → (t : Took replies serving.before x.end between links) → (first : List Request) (others : List (List Request))
      → AnswersAll replies (record { state = serving.before.state; count = 0 }) first (record { written = t.written; state = between.state })
      → Answered replies n (record serving { before = between }) t.last others → Answered replies (suc n) serving links (first ∷ others)
  more_links n serving between links outcome x t first others answers rest = record {
    last = rest.last;
    told = rest.told;
    served = t.shut.link ∷ rest.served;
    shut = rest.shut ∙ ap (λ (ss : List Link). ss ++ rest.served) t.shut.shut ∙ append_assoc links.shut (t.shut.link ∷ []) rest.served;
    coming = rest.coming ∙ sym (ap (λ (is : List (List ℕ)). drop (suc n) is) t.shut.next);
    answers = (
      t.written,
      between.state,
      map (λ (link : Link). link.written) rest.served,
      ap (λ (ws : List ℕ). ws ∷ map (λ (link : Link). link.written) rest.served) t.shut.wrote,
      answers,
      rest.answers,
    );
  }

  -- serving ends with the next link
  last_next : (n : ℕ) (serving : Serving S) (end : ServeEnd) (links : Links) (requests : List (List Request)) → NextLink replies serving (Some end)
      → serving.before.door.links ≡ Some links → AreInputs (take (suc n) links.coming) requests → ¬ (DoorHasFailed serving.before.door serving.after.door)
      → Completes replies (suc n) serving end links requests
  last_next n serving end links requests next told are unfailed = elim next.comes [
    | inl x ↦ elim (one_link n serving links requests (Some end) x
        (took replies complete serving.before x.end serving.after links told x.takes) are unfailed) [
          | inl memory ↦ inl (let e : Some end ≡ Some Memory = memory in cc)
          | inr on ↦ (let e : Some end ≡ None = on.0 in cc)
        ]
    | inr other ↦ elim other [
      | inl none ↦ inr ((let e : Some end ≡ Some Done = none.ends in cc), none_left n serving (Some end) links requests none told are)
      | inr fails ↦ absurd (unfailed fails.failed)
    ]
  ]

  -- and the links behind it, where it goes on
  completes_links : (n : ℕ) (serving : Serving S) (end : ServeEnd) (links : Links) (requests : List (List Request)) → ServesLinks replies n serving end
      → serving.before.door.links ≡ Some links → AreInputs (take n links.coming) requests → ¬ (DoorHasFailed serving.before.door serving.after.door)
      → Completes replies n serving end links requests
  completes_links zero serving end links requests serves told are unfailed =
      inr (
        serves.0,
        nothing_more 0 serving links requests (ap (λ (m : Moment S). m.state) serves.1) (ap (λ (m : Moment S). m.door.links) serves.1 ∙ told) refl
            (no_inputs requests are),
      )
  completes_links (suc n) serving end links requests (inl next) told are unfailed = last_next n serving end links requests next told are unfailed
  completes_links (suc n) serving end links requests (inr rest) told are unfailed =
      let between = rest.0 in
      let first = record serving { after = between } in
      let later = record serving { before = between } in
      let keeps = keeps_links replies n later end rest.2 in
      let sound : ¬ (DoorHasFailed serving.before.door between.door) =
      λ failed. unfailed (risen-longer serving.before.door.fault_count serving.before.door.fault_count between.door.fault_count
      serving.after.door.fault_count (omega arith) rest.1.keeps.count keeps.count failed) in
      let sound_later : ¬ (DoorHasFailed between.door serving.after.door) =
      λ failed. unfailed (risen-longer serving.before.door.fault_count between.door.fault_count serving.after.door.fault_count
      serving.after.door.fault_count rest.1.keeps.count keeps.count (omega arith) failed) in
      elim rest.1.comes [
        | inl x ↦
            let t = took replies complete serving.before x.end between links told x.takes in
            elim (one_link n first links requests None x t are sound) [
              | inl memory ↦ (let e : None ≡ Some Memory = memory in cc)
              | inr on ↦
                  elim (completes_links n later end t.last on.2 rest.2 t.told on.4 sound_later) [
                    | inl memory ↦ inl memory
                    | inr done ↦ inr (
                      done.0,
                      subst (λ (rs : List (List Request)). Answered replies (suc n) serving links rs) (sym on.3)
                          (more_links n serving between links None x t on.1 on.2 on.5 done.1),
                    )
                  ]
            ]
        | inr other ↦ elim other [
          | inl none ↦ (let e : None ≡ Some Done = none.ends in cc)
          | inr fails ↦ (let e : None ≡ Some Fault = fails.ends in cc)
        ]
      ]

  pub door_completes : DoorCompletes replies
  door_completes serving end links requests (inl fails) given unfailed = absurd (unfailed fails.failed)
  door_completes serving end links requests (inr serves) given unfailed =
      let begun = record serving { before = record serving.before { door = serves.attached } } in
      let keeps = keeps_links replies (most_links serving.plan) begun end serves.links in
      let sound : ¬ (DoorHasFailed serves.attached serving.after.door) =
      λ failed. unfailed (risen-longer serving.before.door.fault_count serves.attached.fault_count serving.after.door.fault_count
      serving.after.door.fault_count serves.asks.count keeps.count (omega arith) failed) in
      elim (completes_links (most_links serving.plan) begun end links requests serves.links (serves.asks.links ∙ given.told) given.inputs sound) [
        | inl memory ↦ inl memory
        | inr done ↦ inr (
          done.0,
          record {
            last = done.1.last;
            told = done.1.told;
            served = done.1.served;
            shut = done.1.shut;
            coming = done.1.coming;
            answers = done.1.answers;
          },
        )
      ]

-- Where serving ends inside a request, the link's input is requests and a beginning of one more.
use Rattle.std.proofs.Common.{◌≡◌, ℕ, inl, inr, zero, suc, List, ◌∷◌, ◌++◌, append-nil, Option, Some, None, sym, ◌∙◌, ap, subst}
use Rattle.std.specs.Prelude.{IfSome}
use Rattle.edge_core.specs.Door.{Links, BothTold, Accepts, left_of}
use Rattle.link_core.specs.Exchange.{ExchangesAll}
use Rattle.link_core.specs.declared.end.LinkEnd.{LinkEnd}
use Rattle.link_core.specs.declared.end.LinkEnd.TheVariants as link
use Rattle.serve_core.specs.Serving.{Serving, TakesLink, NextLink, ServesLinks, ServesAttached, ServesDoor, most_links, stopped_by}
use Rattle.serve_core.specs.declared.plan.Plan.{Plan}
use Rattle.serve_core.specs.declared.plan.Plan.TheVariants.{Streams, Port}
use Rattle.serve_core.specs.declared.plan.ServeEnd.TheVariants as end
use Rattle.top_call.specs.Answering.{State, replies}
use Rattle.top_call.specs.Run.{Run, serving_of, IsServed, IsNext, EndsInside}

-- serving ends inside a request only where its last link does
stopped-inside : (plan : Plan) (last : LinkEnd) → Some end.Inside ≡ stopped_by plan last → last ≡ link.Inside
stopped-inside Streams link.End e = cc
stopped-inside Streams link.Closed e = cc
stopped-inside Streams link.Inside e = cc
stopped-inside Streams link.Memory e = cc
stopped-inside Streams link.Fault e = cc
stopped-inside (Port port links) link.End e = cc
stopped-inside (Port port links) link.Closed e = cc
stopped-inside (Port port links) link.Inside e = cc
stopped-inside (Port port links) link.Memory e = cc
stopped-inside (Port port links) link.Fault e = cc

takes-inside : (serving : Serving State) → NextLink replies serving (Some end.Inside) → TakesLink replies serving.before link.Inside serving.after
takes-inside serving next = elim next.comes [
  | inl takes ↦ subst (λ (last : LinkEnd). TakesLink replies serving.before last serving.after) (stopped-inside serving.plan takes.end takes.decides) takes.takes
  | inr other ↦ elim other [
    | inl none ↦ absurd (let e : Some end.Inside ≡ Some end.Done = none.ends in cc)
    | inr fails ↦ absurd (let e : Some end.Inside ≡ Some end.Fault = fails.ends in cc)
  ]
]

only-link : (serving : Serving State) → ServesLinks replies (suc zero) serving end.Inside → TakesLink replies serving.before link.Inside serving.after
only-link serving (inl next) = takes-inside serving next
only-link serving (inr rest) = absurd (let e : end.Inside ≡ end.Done = rest.2.0 in cc)

-- a link that brought all that it had
all-told : (before opened after : Option Links) (came written : List ℕ) → BothTold Accepts before opened → BothTold (ExchangesAll came written) opened after
    → IfSome before (λ links. IsNext came links.coming)
all-told None opened after came written accepts exchanges = tt
all-told (Some old) None after came written accepts exchanges = absurd accepts
all-told (Some old) (Some new) None came written accepts exchanges = absurd exchanges
all-told (Some old) (Some new) (Some last) came written accepts exchanges =
    let input : accepts.input ≡ came ++ exchanges.exchanges.left = ap left_of (sym accepts.is_current ∙ exchanges.exchanges.before) in
    let whole : accepts.input ≡ came = input ∙ ap (λ (left : List ℕ). came ++ left) exchanges.all ∙ append-nil came in
    (new.coming, accepts.was_next ∙ ap (λ (bytes : List ℕ). bytes ∷ new.coming) whole)

module _ (r : Run) (served : IsServed r end.Inside) (streams : served.served.plan ≡ Streams) where
  cut-attached : ServesAttached replies (serving_of r served.served) end.Inside → EndsInside r
  cut-attached serves =
      let serving : Serving State = serving_of r served.served in
      let between : Serving State = record serving { before = record serving.before { door = serves.attached } } in
      let takes = only-link between (subst (λ (n : ℕ). ServesLinks replies n between end.Inside) (ap most_links streams) serves.links) in
      let one = takes.serves.served in
      record {
        served = served;
        came = one.came;
        turns = one.turns;
        between = one.between;
        answered = one.done;
        some = one.ends.0;
        begun = one.ends.1;
        all = subst (λ (links : Option Links). IfSome links (λ links. IsNext one.came links.coming)) serves.asks.links
            (all-told serves.attached.links takes.opened takes.serves.open_links one.came _ takes.accepts one.links);
      }

  pub ends-inside : EndsInside r
  ends-inside = by served.door where
    by : ServesDoor replies (serving_of r served.served) end.Inside → EndsInside r
    by (inl fails) = absurd (let e : end.Inside ≡ end.Fault = fails.ends in cc)
    by (inr serves) = cut-attached serves

-- A link that was taken, where links are told.
use Rattle.std.proofs.Common.{◌≡◌, ℕ, ◌⊎◌, List, [], ◌∷◌, ◌++◌, Option, Some, None, option_map, refl, sym, ◌∙◌, ap, subst}
use Rattle.std.specs.Option.{option_to_list}
use Rattle.edge_core.specs.Door.{Link, Links, BothTold, Accepts, after_shut}
use Rattle.http_front.specs.Request.{Request}
use Rattle.link_core.specs.Exchange.{Exchanges}
use Rattle.link_core.specs.Laws.{AreRequests, ReadsAll, AnswersAll, EndsWell, LinkCompletes}
use Rattle.link_core.specs.Link.{Replies, ExchangesTo, all_written}
use Rattle.link_core.specs.declared.end.LinkEnd.{LinkEnd}
use Rattle.link_core.specs.declared.end.LinkEnd.TheVariants.{End, Closed, Inside, Memory, Fault}
use Rattle.serve_core.specs.Laws.{IsInput}
use Rattle.serve_core.specs.Serving.{Moment, TakesLink}

-- what stands on the other side of a relation of two that are told
pub told_pair : {A : Type 0} (R : A → A → Type 0) (a b : Option A) (x : A) → BothTold R a b → a ≡ Some x → (y : A) × (b ≡ Some y) × R x y
told_pair R None b x r e = absurd (let d : None ≡ Some x = e in cc)
told_pair R (Some a) None x r e = absurd r
told_pair R (Some a) (Some b) x r e = (let same : a ≡ x = cc in (b, refl, subst (λ z. R z b) same r))

exchanged : (end : LinkEnd) (came written : List ℕ) (old new : Links) → ExchangesTo end came written old new
    → (x : Exchanges came written old new) × ReadsAll end x.left
exchanged End came written old new x = (x.exchanges, x.all)
exchanged Inside came written old new x = (x.exchanges, x.all)
exchanged Closed came written old new x = (x, tt)
exchanged Memory came written old new x = (x, tt)
exchanged Fault came written old new x = (x, tt)

-- the link as it was shut
pub record Shut (links last : Links) (input written : List ℕ) : Type 0 where
  pub next : links.coming ≡ input ∷ last.coming
  pub link : Link
  pub shut : last.shut ≡ links.shut ++ link ∷ []
  pub wrote : link.written ≡ written

shut_link : (links opened closed : Links) (came written : List ℕ) (accepts : Accepts links opened) (x : Exchanges came written opened closed)
    → Shut links (after_shut closed) accepts.input written × (came ++ x.left ≡ accepts.input)
shut_link links opened closed came written accepts x =
    let same : Some (record { left = accepts.input; written = [] }) ≡ Some (record { left = came ++ x.left; written = x.earlier }) =
    sym accepts.is_current ∙ x.before in
    let one : record { left = accepts.input; written = [] } ≡ record { left = came ++ x.left; written = x.earlier } = cc in
    let lefts : accepts.input ≡ came ++ x.left = ap (λ (l : Link). l.left) one in
    let none : [] ≡ x.earlier = ap (λ (l : Link). l.written) one in (
      record {
        next = accepts.was_next ∙ ap (λ (is : List (List ℕ)). accepts.input ∷ is) (sym (ap (λ (ls : Links). ls.coming) x.after));
        link = record { left = x.left; written = x.earlier ++ written };
        shut = ap (λ (ls : Links). ls.shut ++ option_to_list ls.current) x.after
            ∙ ap (λ (ss : List Link). ss ++ record { left = x.left; written = x.earlier ++ written } ∷ []) accepts.same_shut;
        wrote = ap (λ (ws : List ℕ). ws ++ written) (sym none);
      },
      sym lefts,
    )

-- what a link was taken for, where links are told
pub record Took {S : Type 0} (replies : Replies S) (before : Moment S) (end : LinkEnd) (after : Moment S) (links : Links) : Type 0 where
  pub last : Links
  pub told : after.door.links ≡ Some last
  pub input : List ℕ
  pub written : List ℕ
  pub shut : Shut links last input written
  pub answers :
      (requests : List Request) → IsInput input requests → ¬ (end ≡ Fault)
      → (end ≡ Memory)
      ⊎ (EndsWell end × AnswersAll replies (record { state = before.state; count = 0 }) requests (record { written = written; state = after.state }))

pub took : {S : Type 0} (replies : Replies S) → LinkCompletes replies → (before : Moment S) (end : LinkEnd) (after : Moment S) (links : Links)
    → before.door.links ≡ Some links → TakesLink replies before end after → Took replies before end after links
took replies complete before end after links told takes =
    let opens = told_pair Accepts before.door.links takes.opened links takes.accepts told in
    let served = takes.serves.served in
    let wrote = all_written served.turns ++ served.tail in
    let ends = told_pair (ExchangesTo end served.came wrote) takes.opened takes.serves.open_links opens.0 served.links opens.1 in
    let x = exchanged end served.came wrote opens.0 ends.0 ends.2 in
    let shuts = shut_link links opens.0 ends.0 served.came wrote opens.2 x.0 in
    record {
      last = after_shut ends.0;
      told = takes.serves.shut ∙ ap (λ (o : Option Links). option_map after_shut o) ends.1;
      input = opens.2.input;
      written = wrote;
      shut = shuts.0;
      answers = λ requests input fault.
          complete _ end served x.0.left requests
          (record {
            are_requests = subst (λ (bs : List ℕ). AreRequests bs requests) (sym shuts.1) input.are_requests;
            few = input.few;
            last_closes = input.last_closes;
          }) x.1 fault;
    }

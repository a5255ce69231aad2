-- All that becomes of the state comes of the requests of the links.
use Rattle.std.proofs.Common.{ℕ, inl, inr, zero, suc, List, [], ◌++◌, Option, ap}
use Rattle.http_front.specs.Request.{Request}
use Rattle.link_core.specs.Laws.{RequestsLead, LinkLeads}
use Rattle.link_core.specs.Link.{Replies}
use Rattle.link_core.proofs.Leading.{leads_then}
use Rattle.serve_core.specs.Laws.{DoorLeads}
use Rattle.serve_core.specs.Serving.{Moment, Serving, NextLink, ServesLinks, most_links}
use Rattle.serve_core.specs.declared.plan.ServeEnd.{ServeEnd}

module _ {S : Type 0} (replies : Replies S) (laws : LinkLeads replies) where
  -- some requests lead from one state to another
  abbrev IsLed : S → S → Type 0
  IsLed before after = (requests : List Request) × RequestsLead replies before requests after

  next_leads : (serving : Serving S) (outcome : Option ServeEnd) → NextLink replies serving outcome → IsLed serving.before.state serving.after.state
  next_leads serving outcome next = elim next.comes [
    | inl takes ↦
        let led = laws _ takes.end takes.takes.serves.served in
        (led.0, led.2)
    | inr other ↦ elim other [ inl none ↦ ([], none.same) | inr fails ↦ ([], fails.same) ]
  ]

  links_lead : (n : ℕ) (serving : Serving S) (end : ServeEnd) → ServesLinks replies n serving end → IsLed serving.before.state serving.after.state
  links_lead zero serving end serves = ([], ap (λ (moment : Moment S). moment.state) serves.1)
  links_lead (suc n) serving end (inl next) = next_leads serving _ next
  links_lead (suc n) serving end (inr rest) =
      let between = rest.0 in
      let first = next_leads (record serving { after = between }) _ rest.1 in
      let others = links_lead n (record serving { before = between }) end rest.2 in (
        first.0 ++ others.0,
        leads_then replies serving.before.state between.state serving.after.state first.0 others.0 first.1 others.1,
      )

  pub door_leads : DoorLeads replies
  door_leads serving end (inl fails) = ([], fails.same)
  door_leads serving end (inr serves) =
      links_lead (most_links serving.plan) (record serving { before = record serving.before { door = serves.attached } }) end serves.links

-- Why serving ends as it does, and how it leaves the door.
use Rattle.std.proofs.Common.{◌≡◌, ℕ, ◌≤◌, inl, inr, zero, suc, Some, IsTrue, refl, sym, ◌∙◌, ap, subst, arith}
use Rattle.std.proofs.lemmas.Bool.{cases_lt}
use Rattle.edge_core.specs.Door.{DoorState, DoorHasFailed, KeepsAttachment}
use Rattle.edge_core.specs.Faults.{HasRisen}
use Rattle.link_core.specs.Link.{Replies, IfFault}
use Rattle.link_core.specs.declared.end.LinkEnd.{LinkEnd}
use Rattle.link_core.specs.declared.end.LinkEnd.TheVariants as link
use Rattle.serve_core.specs.Laws.{LeavesDoor}
use Rattle.serve_core.specs.Serving.{Serving, NextLink, ServesLinks, ServesDoor, stopped_by, most_links}
use Rattle.serve_core.specs.declared.plan.Plan.{Plan}
use Rattle.serve_core.specs.declared.plan.Plan.TheVariants.{Streams, Port}
use Rattle.serve_core.specs.declared.plan.ServeEnd.{ServeEnd}
use Rattle.serve_core.specs.declared.plan.ServeEnd.TheVariants.{Done, Inside, Fault}

-- a count that rose has risen over a longer time
pub risen-longer : (a b c d : ℕ) → a ≤ b → b ≤ c → c ≤ d → HasRisen b c → HasRisen a d
risen-longer a b c d h m k (inl lt) = inl (omega arith)
risen-longer a b c d h m k (inr e) = elim (cases_lt a d) [ inl lt ↦ inl lt | inr ge ↦ inr (omega arith) ]

-- one end is another only where they are the same
fault_of : (plan : Plan) (end : LinkEnd) → Some Fault ≡ stopped_by plan end → end ≡ link.Fault
fault_of Streams link.End e = cc
fault_of Streams link.Closed e = cc
fault_of Streams link.Inside e = cc
fault_of Streams link.Memory e = cc
fault_of Streams link.Fault e = refl
fault_of (Port port links) link.End e = cc
fault_of (Port port links) link.Closed e = cc
fault_of (Port port links) link.Inside e = cc
fault_of (Port port links) link.Memory e = cc
fault_of (Port port links) link.Fault e = cc

inside_of : (plan : Plan) (end : LinkEnd) → Some Inside ≡ stopped_by plan end → plan ≡ Streams
inside_of Streams end e = refl
inside_of (Port port links) link.End e = cc
inside_of (Port port links) link.Closed e = cc
inside_of (Port port links) link.Inside e = cc
inside_of (Port port links) link.Memory e = cc
inside_of (Port port links) link.Fault e = cc

pub failed_at : (end : LinkEnd) (old new : DoorState) → end ≡ link.Fault → IfFault end old new → DoorHasFailed old new
failed_at end old new is failed = subst (λ (e : LinkEnd). IfFault e old new) is failed

pub keeps_then : (a b c : DoorState) → KeepsAttachment a b → KeepsAttachment b c → KeepsAttachment a c
keeps_then a b c x y = record {
  attached = y.attached ∙ x.attached;
  asked = y.asked ∙ x.asked;
  count = omega (arith, x.count, y.count);
}

keeps_same : (a b : DoorState) → b ≡ a → KeepsAttachment a b
keeps_same a b e = subst (λ (d : DoorState). KeepsAttachment a d) (sym e) (record { attached = refl; asked = refl; count = omega arith })

module _ {S : Type 0} (replies : Replies S) where
  pub keeps_links : (n : ℕ) (serving : Serving S) (end : ServeEnd) → ServesLinks replies n serving end → KeepsAttachment serving.before.door serving.after.door
  keeps_links zero serving end serves = keeps_same serving.before.door serving.after.door (ap (λ m. m.door) serves.1)
  keeps_links (suc n) serving end (inl next) = next.keeps
  keeps_links (suc n) serving end (inr rest) =
      keeps_then serving.before.door rest.0.door serving.after.door rest.1.keeps
      (keeps_links n (record serving { before = rest.0 }) end rest.2)

  fault_next : (serving : Serving S) → NextLink replies serving (Some Fault) → DoorHasFailed serving.before.door serving.after.door
  fault_next serving next = elim next.comes [
    | inl takes ↦ failed_at takes.end serving.before.door serving.after.door (fault_of serving.plan takes.end takes.decides) takes.takes.failed
    | inr other ↦ elim other [ inl none ↦ (let e : Some Fault ≡ Some Done = none.ends in cc) | inr fails ↦ fails.failed ]
  ]

  fault_links : (n : ℕ) (serving : Serving S) (end : ServeEnd) → ServesLinks replies n serving end → end ≡ Fault → DoorHasFailed serving.before.door serving.after.door
  fault_links zero serving end serves is = (let e : Done ≡ Fault = sym serves.0 ∙ is in cc)
  fault_links (suc n) serving end (inl next) is =
      fault_next serving (subst (λ (e : ServeEnd). NextLink replies serving (Some e)) is next)
  fault_links (suc n) serving end (inr rest) is =
      let later = keeps_links n (record serving { before = rest.0 }) end rest.2 in
      risen-longer serving.before.door.fault_count rest.0.door.fault_count serving.after.door.fault_count serving.after.door.fault_count
      rest.1.keeps.count later.count (omega arith) (fault_links n (record serving { before = rest.0 }) end rest.2 is)

  inside_next : (serving : Serving S) → NextLink replies serving (Some Inside) → serving.plan ≡ Streams
  inside_next serving next = elim next.comes [
    | inl takes ↦ inside_of serving.plan takes.end takes.decides
    | inr other ↦ elim other [
      | inl none ↦ (let e : Some Inside ≡ Some Done = none.ends in cc)
      | inr fails ↦ (let e : Some Inside ≡ Some Fault = fails.ends in cc)
    ]
  ]

  inside_links : (n : ℕ) (serving : Serving S) (end : ServeEnd) → ServesLinks replies n serving end → end ≡ Inside → serving.plan ≡ Streams
  inside_links zero serving end serves is = (let e : Done ≡ Inside = sym serves.0 ∙ is in cc)
  inside_links (suc n) serving end (inl next) is =
      inside_next serving (subst (λ (e : ServeEnd). NextLink replies serving (Some e)) is next)
  inside_links (suc n) serving end (inr rest) is = inside_links n (record serving { before = rest.0 }) end rest.2 is

  pub fault_cause : (serving : Serving S) (end : ServeEnd) → ServesDoor replies serving end → end ≡ Fault → DoorHasFailed serving.before.door serving.after.door
  fault_cause serving end (inl fails) is = fails.failed
  fault_cause serving end (inr serves) is =
      let begun = record serving { before = record serving.before { door = serves.attached } } in
      let later = keeps_links (most_links serving.plan) begun end serves.links in
      risen-longer serving.before.door.fault_count serves.attached.fault_count serving.after.door.fault_count serving.after.door.fault_count
      serves.asks.count later.count (omega arith) (fault_links (most_links serving.plan) begun end serves.links is)

  pub inside_cause : (serving : Serving S) (end : ServeEnd) → ServesDoor replies serving end → end ≡ Inside → serving.plan ≡ Streams
  inside_cause serving end (inl fails) is = (let e : Fault ≡ Inside = sym fails.ends ∙ is in cc)
  inside_cause serving end (inr serves) is =
      inside_links (most_links serving.plan) (record serving { before = record serving.before { door = serves.attached } }) end serves.links is

  pub door_left : (serving : Serving S) (end : ServeEnd) → ServesDoor replies serving end → LeavesDoor serving end
  door_left serving end (inl fails) = record { asked = fails.asks.asked; attached = inl fails.ends; count = fails.asks.count }
  door_left serving end (inr serves) =
      let keeps = keeps_links (most_links serving.plan) (record serving { before = record serving.before { door = serves.attached } }) end serves.links in
      record {
        asked = keeps.asked ∙ serves.asks.asked;
        attached = inr (subst IsTrue (sym keeps.attached) serves.is_attached);
        count = omega (arith, serves.asks.count, keeps.count);
      }

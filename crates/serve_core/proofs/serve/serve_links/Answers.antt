-- The next link ends serving, or leads to what is still to be taken.
use Rattle.std.proofs.Common.{◌≡◌, ℕ, ◌-◌, inl, inr, suc, Some, None, sym, subst, arith, rules}
use Rattle.link_core.specs.Link.{Replies}
use Rattle.serve_core.specs.Serving.{Moment, Serving, NextLink, ServesLinks}
use Rattle.serve_core.specs.declared.plan.ServeEnd.{ServeEnd}
use Rattle.serve_core.proofs.serve.serve_links.Goals as goal

ends_next : {S : Type 0} (replies : Replies S) (n m : ℕ) (serving : Serving S) (end : ServeEnd) → m ≡ suc n → NextLink replies serving (Some end)
    → ServesLinks replies m serving end
ends_next replies n m serving end e next = subst (λ (k : ℕ). ServesLinks replies k serving end) (sym e) (inl next)

goes_next : {S : Type 0} (replies : Replies S) (n m : ℕ) (serving : Serving S) (between : Moment S) (end : ServeEnd) → m ≡ suc n
    → NextLink replies (record serving { after = between }) None → ServesLinks replies n (record serving { before = between }) end
    → ServesLinks replies m serving end
goes_next replies n m serving between end e next rest =
    subst (λ (k : ℕ). ServesLinks replies k serving end) (sym e) (inr (between, next, rest))

pub returns-in-Some-clause-serves : goal.returns-in-Some-clause-serves
returns-in-Some-clause-serves g c =
    let state = g.D.Door.state in
    c.loop-left.invariant.goes_on _ c.in-Some.end
    (ends_next g.A.Handler.replies (c.loop-left.left - 1) c.loop-left.left _ c.in-Some.end (omega (arith, c.loop-left-test.true)) c.in-Some.ensures.next)

pub loop-left-preserved : goal.loop-left-preserved
loop-left-preserved g c = record {
  attached = search (rules, c.in_default.ensures.keeps.attached);
  none_open = c.in_default.ensures.none_open;
  goes_on = λ after end rest.
      c.loop-left.invariant.goes_on after end
      (goes_next g.A.Handler.replies (c.loop-left.left - 1) c.loop-left.left _ _ end (omega (arith, c.loop-left-test.true)) c.in_default.ensures.next rest);
}

use Rattle.std.proofs.Common.{◌^◌, ◌≡◌, ◌+◌, ℕ, List, All, length, sym, ◌∙◌, ap, subst, arith}
use Rattle.schema_form.specs.declared.bases.Link.{Link}
use Rattle.schema_form.specs.Bases.{AreLinks, LeadsIn, doubled}
use Rattle.schema_form.proofs.Linking.{AreLinks-first, AreLinks-doubled, AreLinks-lead, twice, all_rounds}
use Rattle.schema_form.proofs.bases.last_links.Goals as goal

pub loop-round-init : goal.loop-round-init
loop-round-init c = let P : List Link → Type 0 = AreLinks c.args.types.now 1 in subst P (sym c.in_ok-links.ensures) (AreLinks-first c.args.types.now)

pub doubled-requires : goal.doubled-requires
doubled-requires c =
    let P : List Link → Type 0 = λ ls. All (LeadsIn (length ls)) ls in
    subst P (sym c.deref.ensures.value) (AreLinks-lead c.args.types.now (2 ^ c.loop-round._round) c.loop-round.links.items c.loop-round.invariant)

pub loop-round-preserved : goal.loop-round-preserved
loop-round-preserved c =
    let k = c.loop-round._round in
    let links = c.loop-round.links.items in
    let further : c.in_ok-links-2.links.items ≡ doubled links = c.in_ok-links-2.ensures ∙ ap doubled c.deref.ensures.value in
    let P : List Link → Type 0 = AreLinks c.args.types.now (2 ^ (k + 1)) in
    let Q : ℕ → Type 0 = λ n. AreLinks c.args.types.now n (doubled links) in
    subst P (sym further) (subst Q (sym (twice k)) (AreLinks-doubled c.args.types.now links (2 ^ k) c.loop-round.invariant))

pub returns : goal.returns
returns c =
    let Q : ℕ → Type 0 = λ n. AreLinks c.args.types.now n c.loop-round.links.items in
    subst Q (all_rounds c.loop-round._round (omega (arith, c.loop-round-test.false, c.loop-round.auto._round-end))) c.loop-round.invariant

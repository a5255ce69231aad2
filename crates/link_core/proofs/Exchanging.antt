-- What came over a link and what was written to it, as reads and writes add to it.
use Rattle.std.proofs.Common.{◌≡◌, ℕ, List, [], ◌++◌, append_assoc, append-nil, Option, Some, None, refl, sym, ◌∙◌, ap, subst}
use Rattle.edge_core.specs.Door.{Link, Links, BothTold, Reads, Writes}
use Rattle.link_core.specs.Exchange.{Exchanges, ExchangesAll}
use Rattle.link_core.proofs.Told.{both-then}
use Rattle.link_core.proofs.Writing.{IsOpen, current_of, same_link}

pub exchanges-none : (a : Option Links) → IsOpen a → BothTold (Exchanges [] []) a a
exchanges-none None e = tt
exchanges-none (Some links) e =
    let open_link : (link : Link) × (links.current ≡ Some link) = current_of links e in
    record {
      left = open_link.0.left;
      earlier = open_link.0.written;
      before = open_link.1;
      after = ap (λ o. record links { current = o }) open_link.1
          ∙ ap (λ xs. record links { current = Some (record { left = open_link.0.left; written = xs }) }) (sym (append-nil open_link.0.written));
    }

-- the link then as it is left, and as the next call finds it
module _ (old mid : Links) (came written : List ℕ) (x : Exchanges came written old mid) (link : Link) (is : mid.current ≡ Some link) where
  stands : record { left = x.left; written = x.earlier ++ written } ≡ link
  stands = same_link old mid _ link x.after is

exchanges_read : (came written piece : List ℕ) (old mid new : Links) → Exchanges came written old mid → Reads piece mid new
    → (y : Exchanges (came ++ piece) written old new) × ((piece ≡ []) → y.left ≡ [])
exchanges_read came written piece old mid new x r =
    let same : record { left = x.left; written = x.earlier ++ written } ≡ record { left = piece ++ r.left; written = r.written } =
    stands old mid came written x _ r.before in
    let lefts : x.left ≡ piece ++ r.left = ap (λ (l : Link). l.left) same in
    let texts : x.earlier ++ written ≡ r.written = ap (λ (l : Link). l.written) same in (
      record {
        left = r.left;
        earlier = x.earlier;
        before = x.before ∙ ap (λ (xs : List ℕ). Some (record { left = came ++ xs; written = x.earlier })) lefts
            ∙ ap (λ (xs : List ℕ). Some (record { left = xs; written = x.earlier })) (sym (append_assoc came piece r.left));
        after = r.after ∙ ap (λ (links : Links). record links { current = Some (record { left = r.left; written = r.written }) }) x.after
            ∙ ap (λ (xs : List ℕ). record old { current = Some (record { left = r.left; written = xs }) }) (sym texts);
      },
      r.at_end,
    )

exchanges_write : (came written tail : List ℕ) (old mid new : Links) → Exchanges came written old mid → Writes tail mid new
    → Exchanges came (written ++ tail) old new
exchanges_write came written tail old mid new x w =
    let same : record { left = x.left; written = x.earlier ++ written } ≡ record { left = w.left; written = w.written } =
    stands old mid came written x _ w.before in
    let lefts : x.left ≡ w.left = ap (λ (l : Link). l.left) same in
    let texts : x.earlier ++ written ≡ w.written = ap (λ (l : Link). l.written) same in
    record {
      left = x.left;
      earlier = x.earlier;
      before = x.before;
      after = w.after ∙ ap (λ (links : Links). record links { current = Some (record { left = w.left; written = w.written ++ tail }) }) x.after
          ∙ ap (λ (xs : List ℕ). record old { current = Some (record { left = xs; written = w.written ++ tail }) }) (sym lefts)
          ∙ ap (λ (xs : List ℕ). record old { current = Some (record { left = x.left; written = xs ++ tail }) }) (sym texts)
          ∙ ap (λ (xs : List ℕ). record old { current = Some (record { left = x.left; written = xs }) }) (append_assoc x.earlier written tail);
    }

exchanges_end : (came written : List ℕ) (old mid new : Links) → Exchanges came written old mid → Reads [] mid new
    → ExchangesAll came (written ++ []) old new
exchanges_end came written old mid new x r =
    let y = exchanges_read came written [] old mid new x r in
    subst (λ (ws : List ℕ). ExchangesAll came ws old new) (sym (append-nil written))
    (subst (λ (cs : List ℕ). ExchangesAll cs written old new) (append-nil came) (record { exchanges = y.0; all = y.1 refl }))

pub exchanges-read : (came written piece : List ℕ) (a b c : Option Links) → BothTold (Exchanges came written) a b → BothTold (Reads piece) b c
    → BothTold (Exchanges (came ++ piece) written) a c
exchanges-read came written piece a b c =
    both-then (Exchanges came written) (Reads piece) (Exchanges (came ++ piece) written)
    (λ x y z p q. (exchanges_read came written piece x y z p q).0) a b c

pub exchanges-write : (came written tail : List ℕ) (a b c : Option Links) → BothTold (Exchanges came written) a b → BothTold (Writes tail) b c
    → BothTold (Exchanges came (written ++ tail)) a c
exchanges-write came written tail a b c =
    both-then (Exchanges came written) (Writes tail) (Exchanges came (written ++ tail)) (exchanges_write came written tail) a b c

pub exchanges-end : (came written : List ℕ) (a b c : Option Links) → BothTold (Exchanges came written) a b → BothTold (Reads []) b c
    → BothTold (ExchangesAll came (written ++ [])) a c
exchanges-end came written a b c =
    both-then (Exchanges came written) (Reads []) (ExchangesAll came (written ++ [])) (exchanges_end came written) a b c

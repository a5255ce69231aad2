-- Making the items of a list one after another: those made so far, in front of what the rest comes to.
use Rattle.std.proofs.Common.{◌≡◌, ℕ, List, [], ◌∷◌, ◌++◌, Option, Result, Ok, Err, IsErrAnd, decimal, sym, ◌∙◌, ap, subst, refl, ◌<◌, ◌≤◌, ◌+◌, length, get_or, drop, drop-cons, add-one}
use Rattle.std.proofs.lemmas.List.{drop_all}
use Rattle.snap_core.specs.Value.{Value, no_parts, Items}
use Rattle.snap_core.specs.declared.snap.Snap.{Snap}
use Rattle.snap_core.specs.View.{view, items_view}
use Rattle.type_core.specs.declared.making.MakeError.{MakeError}
use Rattle.type_core.specs.declared.making.MakeError.TheVariants.{Memory, Refused}
use Rattle.type_table.specs.Table.{Table}
use Rattle.type_core.specs.Made.{Answers, refused_as}
use Rattle.type_core.specs.Making as making
use Rattle.type_core.specs.Making.{Outcome, maker_of, makers_of, under, part_made, items_made}

-- the items in front of what follows
abbrev pub items_before : List Snap → Outcome Items → Outcome Items
items_before [] rest = rest
items_before (s ∷ ss) rest = part_made (Ok (view s)) (items_before ss rest)

pub items_before-push : (ss : List Snap) (s : Snap) (rest : Outcome Items) → items_before (ss ++ s ∷ []) rest ≡ items_before ss (part_made (Ok (view s)) rest)
items_before-push [] s rest = refl
items_before-push (r ∷ ss) s rest = ap (part_made (Ok (view r))) (items_before-push ss s rest)

pub items_before-refused : (ss : List Snap) (e : making.Refused) → items_before ss (Err e) ≡ Err e
items_before-refused [] e = refl
items_before-refused (s ∷ ss) e = ap (part_made (Ok (view s))) (items_before-refused ss e)

pub items_before-all : (ss : List Snap) → items_before ss (Ok no_parts) ≡ Ok (items_view ss)
items_before-all [] = refl
items_before-all (s ∷ ss) = ap (part_made (Ok (view s))) (items_before-all ss)

module _ (table : Table) (defaults : List (Option Snap)) (t : ℕ) (items : List Snap) (i : ℕ) (made : List Snap)
    (so_far : items_before made (items_made i t (makers_of table defaults (items_view (drop i items)))) ≡ items_made 0 t (makers_of table defaults (items_view items))) where
  -- after the last item they are all
  pub items-all : length items ≤ i → items_made 0 t (makers_of table defaults (items_view items)) ≡ Ok (items_view made)
  items-all past =
      let P : List Snap → Type 0 = λ ss. items_before made (items_made i t (makers_of table defaults (items_view ss))) ≡ items_made 0 t (makers_of table defaults (items_view items)) in
      sym (subst P (drop_all i items past) so_far) ∙ items_before-all made

  module _ (item : Snap) (within : i < length items) (here : item ≡ get_or items i item) where
    abbrev one : Outcome Value
    one = under (decimal i) (maker_of table defaults (view item) t)

    abbrev rest : Outcome Items
    rest = items_made (i + 1) t (makers_of table defaults (items_view (drop (i + 1) items)))

    abbrev whole : Outcome Items
    whole = items_made 0 t (makers_of table defaults (items_view items))

    -- the items that are left begin with this one
    left : drop i items ≡ item ∷ drop (i + 1) items
    left = rw (add-one, drop-cons items i item, ← here)

    next : items_before made (part_made one rest) ≡ whole
    next = let P : List Snap → Type 0 = λ ss. items_before made (items_made i t (makers_of table defaults (items_view ss))) ≡ whole in subst P left so_far

    -- a refused item refuses the whole
    item-refused : (e : MakeError) → Answers {T = Snap} view (Err e) one → Answers {T = List Snap} items_view (Err e) whole
    item-refused Memory h = tt
    item-refused (Refused r) h =
        let P : Outcome Value → Type 0 = λ o. items_before made (part_made o rest) ≡ whole in
        sym (subst P h next) ∙ items_before-refused made (refused_as r)

    -- so does one that `?` hands on
    pub item-handed_on : (e : MakeError) (result : Result (List Snap) MakeError) → IsErrAnd result (λ r. r ≡ e)
        → Answers {T = Snap} view (Err e) (under (decimal i) (maker_of table defaults (view item) t))
        → Answers {T = List Snap} items_view result (items_made 0 t (makers_of table defaults (items_view items)))
    item-handed_on e (Ok made) is h = absurd is
    item-handed_on e (Err r) is h =
        let P : MakeError → Type 0 = λ r. Answers {T = List Snap} items_view (Err r) whole in subst P (sym is) (item-refused e h)

    -- a made value is one more item
    pub item-more : (v : Snap) → Answers {T = Snap} view (Ok v) (under (decimal i) (maker_of table defaults (view item) t))
        → items_before (made ++ v ∷ []) (items_made (i + 1) t (makers_of table defaults (items_view (drop (i + 1) items)))) ≡ items_made 0 t (makers_of table defaults (items_view items))
    item-more v h =
        let P : Outcome Value → Type 0 = λ o. items_before made (part_made o rest) ≡ whole in
        items_before-push made v rest ∙ subst P h next

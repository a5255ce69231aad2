-- What a call did is undone by its inverses, and done again by its patches.
use Rattle.std.proofs.Common.{◌≡◌, List, [], ◌∷◌, ◌++◌, map, All, sym, subst}
use Rattle.std.proofs.lemmas.List.{reverse-append}
use Rattle.std.proofs.lemmas.List.Elements.{All-nil, All-cons, All-head, All-tail, All-append}
use Rattle.snap_core.specs.Value.{Value, IsPlain}
use Rattle.patch_core.specs.Fits.{LeadsTo}
use Rattle.patch_core.specs.Inverse.{inverse_of, back}
use Rattle.patch_core.specs.Printing.{HasPlainValues}
use Rattle.patch_core.specs.declared.patch.Patch.{Patch}
use Rattle.type_table.specs.Table.{Catalog}
use Rattle.edit_core.specs.Labelled.{bare}
use Rattle.tree_core.specs.State.{State, patches_of}
use Rattle.tree_lists.specs.Restoring.{after_restoring}
use Rattle.tree_laws.specs.Calls.{LeadsOn}
use Rattle.tree_laws.specs.Trees.{IsTypedTree}
use Rattle.restoring_laws.specs.Laws.{IsCounted, ArePutBack}
use Rattle.restoring_laws.proofs.InTurn.{counted-put}

plain-behind : (ps qs : List Patch) → All HasPlainValues (ps ++ qs) → All HasPlainValues qs
plain-behind [] qs h = h
plain-behind (p ∷ ps) qs h = plain-behind ps qs (All-tail HasPlainValues p (ps ++ qs) h)

pub plain-back : (ps : List Patch) → All HasPlainValues ps → All HasPlainValues (back ps)
plain-back [] h = All-nil HasPlainValues
plain-back (p ∷ ps) h =
    let own : HasPlainValues p = All-head HasPlainValues p ps h in
    let last : All HasPlainValues (inverse_of p ∷ []) = All-cons HasPlainValues (inverse_of p) [] (own.1, own.0) (All-nil HasPlainValues) in
    subst (All HasPlainValues) (sym (reverse-append (inverse_of p ∷ []) (map inverse_of ps)))
    (All-append HasPlainValues (back ps) (inverse_of p ∷ []) (plain-back ps (All-tail HasPlainValues p ps h)) last)

module _ (types : Catalog) (before after : State) (call : LeadsOn before after) (typed : IsTypedTree types after) where
  pub own-plain : All HasPlainValues call.on.more
  own-plain = plain-behind (patches_of before) call.on.more (subst (All HasPlainValues) call.on.logged typed.logged)

  pub undone : (s : State) → bare s.tree ≡ bare after.tree → IsCounted types (back call.on.more) s
      → ArePutBack (back call.on.more) (bare before.tree) s (after_restoring types (back call.on.more) s)
  undone s same count =
      let From : Value → Type 0 = λ v. LeadsTo (back call.on.more) v (bare before.tree) in
      counted-put types (back call.on.more) s (bare before.tree) (subst IsPlain (sym same) typed.plain) (plain-back call.on.more own-plain) count (subst From (sym same) call.back)

  pub redone : IsTypedTree types before → (s : State) → bare s.tree ≡ bare before.tree → IsCounted types call.on.more s
      → ArePutBack call.on.more (bare after.tree) s (after_restoring types call.on.more s)
  redone first s same count =
      let From : Value → Type 0 = λ v. LeadsTo call.on.more v (bare after.tree) in
      counted-put types call.on.more s (bare after.tree) (subst IsPlain (sym same) first.plain) own-plain count (subst From (sym same) call.on.leads)

pub calls-undone : (types : Catalog) (before after : State) (call : LeadsOn before after) → IsTypedTree types after
    → (s : State) → bare s.tree ≡ bare after.tree → IsCounted types (back call.on.more) s
    → ArePutBack (back call.on.more) (bare before.tree) s (after_restoring types (back call.on.more) s)
calls-undone types before after call typed s same count = undone types before after call typed s same count

pub calls-redone : (types : Catalog) (before after : State) (call : LeadsOn before after) → IsTypedTree types before → IsTypedTree types after
    → (s : State) → bare s.tree ≡ bare before.tree → IsCounted types call.on.more s
    → ArePutBack call.on.more (bare after.tree) s (after_restoring types call.on.more s)
calls-redone types before after call first typed s same count = redone types before after call typed first s same count

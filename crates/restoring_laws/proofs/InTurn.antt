-- What patches that are put back in turn make of a tree, where each of them changes it.
use Rattle.std.proofs.Common.{◌≡◌, ℕ, ◌+◌, ◌≤◌, suc, List, [], ◌∷◌, ◌++◌, length, map, All, Option, Some, None, Result, Ok, append-nil, length-append, refl, sym, ap, subst, ◌∙◌, arith}
use Rattle.std.specs.Prelude.{unwrap_or}
use Rattle.std.proofs.lemmas.List.{map-append}
use Rattle.std.proofs.lemmas.List.Elements.{All-head, All-tail}
use Rattle.snap_core.specs.Value.{Value, IsPlain}
use Rattle.patch_core.specs.Application.{applied}
use Rattle.patch_core.specs.Fits.{LeadsTo}
use Rattle.patch_core.specs.Printing.{HasPlainValues}
use Rattle.patch_core.specs.declared.error.PatchError.{PatchError}
use Rattle.patch_core.specs.declared.patch.Patch.{Patch}
use Rattle.type_table.specs.Table.{Catalog}
use Rattle.edit_core.specs.Labelled.{Labelled, bare}
use Rattle.edit_core.specs.Logged.{LoggedEdit, patch_of_logged}
use Rattle.tree_core.specs.Changed.{Changed}
use Rattle.tree_core.specs.Recorded.{tree_in}
use Rattle.tree_core.specs.State.{State, recorded, mark_of, edits_of, patches_of}
use Rattle.tree_core.specs.Writing.{Tree}
use Rattle.tree_lists.specs.Folding.{tree_after, and_then}
use Rattle.tree_lists.specs.Restoring.{Restoring, one_restored, unchanged, restored, after_restoring}
use Rattle.restoring_laws.specs.Places.{holder_of, AreInNodes}
use Rattle.restoring_laws.specs.Laws.{IsCounted, ApplyInTurn, ArePutBack}
use Rattle.restoring_laws.proofs.Found.{There}
use Rattle.restoring_laws.proofs.PutBack.{Puts, puts, changes, plain-after}

abbrev restoring : Catalog → Patch → Tree → Restoring
restoring types p tree = record { types = types; tree = tree; patch = p }

-- each patch changes the tree that those before it leave
abbrev Change : Catalog → List Patch → Tree → Type 0
Change types [] tree = Unit {0}
Change types (p ∷ ps) tree = (c : Changed) × (one_restored (restoring types p tree) ≡ Some c) × Change types ps (tree_after c)

ok-one : (a b : Value) → ◌≡◌ {A = Result Value PatchError} (Ok a) (Ok b) → a ≡ b
ok-one a b h = cc

-- What patches in turn make of a tree.
record PutAll (ps : List Patch) (v : Value) (c : Changed) : Type 0 where
  value : bare c.value ≡ v
  logged : map patch_of_logged c.edits ≡ ps

put-all : (types : Catalog) (ps : List Patch) (tree : Tree) (v : Value) → IsPlain (bare tree.root) → All HasPlainValues ps → Change types ps tree
    → LeadsTo ps (bare tree.root) v → PutAll ps v (restored types ps tree)
put-all types [] tree v plain values change leads = record { value = leads; logged = refl }
put-all types (p ∷ ps) tree v plain values (first, found, change) (next, fits, is, rest) =
    let own : HasPlainValues p = All-head HasPlainValues p ps values in
    let here : unwrap_or (one_restored (restoring types p tree)) (unchanged tree) ≡ first = ap (λ o. unwrap_or o (unchanged tree)) found in
    let one : Puts p tree.root first = puts (restoring types p tree) own plain first found in
    let From : Value → Type 0 = λ w. LeadsTo ps w v in
    let after : PutAll ps v (restored types ps (tree_after first)) =
    put-all types ps (tree_after first) v (plain-after p (bare tree.root) (bare first.value) own plain one.value) (All-tail HasPlainValues p ps values) change
    (subst From (ok-one next (bare first.value) (sym is ∙ one.value)) rest) in
    let Whole : Changed → Type 0 = λ c. PutAll (p ∷ ps) v (and_then c (restored types ps (tree_after c))) in
    subst Whole (sym here)
    (record {
      value = after.value;
      logged =
          map-append patch_of_logged first.edits (restored types ps (tree_after first)).edits
          ∙ ap (λ qs. qs ++ map patch_of_logged (restored types ps (tree_after first)).edits) (one.logged fits) ∙ ap (λ qs. p ∷ qs) after.logged;
    })

-- each is applied in its turn, whether it fits or not
apply-all : (types : Catalog) (ps : List Patch) (tree : Tree) → IsPlain (bare tree.root) → All HasPlainValues ps → Change types ps tree
    → ApplyInTurn ps (bare tree.root) (bare (restored types ps tree).value)
apply-all types [] tree plain values change = refl
apply-all types (p ∷ ps) tree plain values (first, found, change) =
    let own : HasPlainValues p = All-head HasPlainValues p ps values in
    let here : unwrap_or (one_restored (restoring types p tree)) (unchanged tree) ≡ first = ap (λ o. unwrap_or o (unchanged tree)) found in
    let one : Puts p tree.root first = puts (restoring types p tree) own plain first found in
    let Whole : Changed → Type 0 = λ c. ApplyInTurn (p ∷ ps) (bare tree.root) (bare (restored types ps (tree_after c)).value) in
    subst Whole (sym here) (
      bare first.value,
      one.value,
      apply-all types ps (tree_after first) (plain-after p (bare tree.root) (bare first.value) own plain one.value) (All-tail HasPlainValues p ps values) change,
    )

-- Patches that fit in turn, at places in nodes, each change the tree.
inside-change : (types : Catalog) (ps : List Patch) (tree : Tree) (v : Value) → IsPlain (bare tree.root) → All HasPlainValues ps → AreInNodes types ps tree
    → LeadsTo ps (bare tree.root) v → Change types ps tree
inside-change types [] tree v plain values inside leads = tt
inside-change types (p ∷ ps) tree v plain values inside (next, fits, is, rest) =
    let own : HasPlainValues p = All-head HasPlainValues p ps values in
    let found : There (one_restored (restoring types p tree)) = changes (restoring types p tree) own plain (holder_of p.path tree.root) refl inside.0 fits in
    let first : Changed = found.of in
    let here : unwrap_or (one_restored (restoring types p tree)) (unchanged tree) ≡ first = ap (λ o. unwrap_or o (unchanged tree)) found.is in
    let one : Puts p tree.root first = puts (restoring types p tree) own plain first found.is in
    let From : Value → Type 0 = λ w. LeadsTo ps w v in
    let Inside : Changed → Type 0 = λ c. AreInNodes types ps (tree_after c) in (
      first,
      found.is,
      inside-change types ps (tree_after first) v (plain-after p (bare tree.root) (bare first.value) own plain one.value) (All-tail HasPlainValues p ps values)
          (subst Inside here inside.1) (subst From (ok-one next (bare first.value) (sym is ∙ one.value)) rest),
    )

-- As many edits as patches: each patch changes the tree, since none makes more than one edit.

-- what a patch makes of a tree, or the tree as it is
record Step (p : Patch) (tree : Tree) (o : Option Changed) : Type 0 where
  plain : IsPlain (bare (unwrap_or o (unchanged tree)).value)
  most : length (unwrap_or o (unchanged tree)).edits ≤ 1

step : (types : Catalog) (p : Patch) (tree : Tree) → IsPlain (bare tree.root) → HasPlainValues p → (o : Option Changed)
    → one_restored (restoring types p tree) ≡ o → Step p tree o
step types p tree plain own None e = record { plain = plain; most = omega arith }
step types p tree plain own (Some c) e =
    let one : Puts p tree.root c = puts (restoring types p tree) own plain c e in
    record { plain = plain-after p (bare tree.root) (bare c.value) own plain one.value; most = omega (arith, one.single) }

at-most : (types : Catalog) (ps : List Patch) (tree : Tree) → IsPlain (bare tree.root) → All HasPlainValues ps → length (restored types ps tree).edits ≤ length ps
at-most types [] tree plain values = omega arith
at-most types (p ∷ ps) tree plain values =
    let one = step types p tree plain (All-head HasPlainValues p ps values) (one_restored (restoring types p tree)) refl in
    let first : Changed = unwrap_or (one_restored (restoring types p tree)) (unchanged tree) in
    omega (arith, one.most, length-append first.edits (restored types ps (tree_after first)).edits, at-most types ps (tree_after first) one.plain (All-tail HasPlainValues p ps values))

counted-change : (types : Catalog) (ps : List Patch) (tree : Tree) → IsPlain (bare tree.root) → All HasPlainValues ps
    → length (restored types ps tree).edits ≡ length ps → Change types ps tree
counted-change types [] tree plain values count = tt
counted-change types (p ∷ ps) tree plain values count =
    by (one_restored (restoring types p tree)) refl (counted-change types ps) count where
      own : HasPlainValues p
      own = All-head HasPlainValues p ps values

      behind : All HasPlainValues ps
      behind = All-tail HasPlainValues p ps values

      by : (o : Option Changed) → one_restored (restoring types p tree) ≡ o
          → ((next : Tree) → IsPlain (bare next.root) → All HasPlainValues ps → length (restored types ps next).edits ≡ length ps → Change types ps next)
          → length (and_then (unwrap_or o (unchanged tree)) (restored types ps (tree_after (unwrap_or o (unchanged tree))))).edits ≡ suc (length ps)
          → Change types (p ∷ ps) tree
      by None e further n = absurd (omega (arith, n, at-most types ps tree plain behind))
      by (Some c) e further n =
          let one : Puts p tree.root c = puts (restoring types p tree) own plain c e in
          let rest : length (restored types ps (tree_after c)).edits ≡ length ps =
          omega (arith, n, one.single, length-append c.edits (restored types ps (tree_after c)).edits) in
          (c, e, further (tree_after c) (plain-after p (bare tree.root) (bare c.value) own plain one.value) behind rest)

-- As changes of a state.

put-state : (ps : List Patch) (v : Value) (s : State) (value : Labelled) (edits : List LoggedEdit) (next : ℕ) → bare value ≡ v → map patch_of_logged edits ≡ ps
    → (edits ≡ [] → bare s.tree ≡ v) → ArePutBack ps v s (recorded value edits next s)
put-state ps v s value [] next is logged none =
    let To : List Patch → Type 0 = λ qs. patches_of s ≡ patches_of s ++ qs in
    record { value = none refl; logged = subst To logged (sym (append-nil (patches_of s))) }
put-state ps v s value (e ∷ es) next is logged none =
    record { value = is; logged = map-append patch_of_logged (edits_of s.calls) (e ∷ es) ∙ ap (λ qs. patches_of s ++ qs) logged }

-- no patches lead to the value itself
leads-none : (ps : List Patch) (s v : Value) → ps ≡ [] → LeadsTo ps s v → s ≡ v
leads-none [] s v h leads = leads
leads-none (p ∷ ps) s v h leads = absurd (cc)

changes-put : (types : Catalog) (ps : List Patch) (s : State) (v : Value) → IsPlain (bare s.tree) → All HasPlainValues ps → Change types ps (tree_in s)
    → LeadsTo ps (bare s.tree) v → ArePutBack ps v s (after_restoring types ps s)
changes-put types ps s v plain values change leads =
    let c : Changed = restored types ps (tree_in s) in
    let all : PutAll ps v c = put-all types ps (tree_in s) v plain values change leads in
    put-state ps v s c.value c.edits c.next all.value all.logged
    (λ none. leads-none ps (bare s.tree) v (sym all.logged ∙ ap (map patch_of_logged) none) leads)

pub applies : (types : Catalog) (ps : List Patch) (s : State) (v : Value) → IsPlain (bare s.tree) → All HasPlainValues ps → AreInNodes types ps (tree_in s)
    → LeadsTo ps (bare s.tree) v → ArePutBack ps v s (after_restoring types ps s)
applies types ps s v plain values inside leads =
    changes-put types ps s v plain values (inside-change types ps (tree_in s) v plain values inside leads) leads

-- the log grew by as many patches as there are edits
grown : (s : State) (value : Labelled) (edits : List LoggedEdit) (next n : ℕ) → mark_of (recorded value edits next s) ≡ mark_of s + n → length edits ≡ n
grown s value [] next n h = omega (arith, h)
grown s value (e ∷ es) next n h = omega (arith, h)

same-value : (ps : List Patch) (s : State) (value : Labelled) (edits : List LoggedEdit) (next : ℕ) → length edits ≡ length ps → ApplyInTurn ps (bare s.tree) (bare value)
    → ApplyInTurn ps (bare s.tree) (bare (recorded value edits next s).tree)
same-value [] s value [] next count all = refl
same-value (p ∷ ps) s value [] next count all = absurd (omega (arith, count))
same-value ps s value (e ∷ es) next count all = all

pub counted-applied : (types : Catalog) (ps : List Patch) (s : State) → IsPlain (bare s.tree) → All HasPlainValues ps
    → IsCounted types ps s → ApplyInTurn ps (bare s.tree) (bare (after_restoring types ps s).tree)
counted-applied types ps s plain values count =
    let c : Changed = restored types ps (tree_in s) in
    let n : length c.edits ≡ length ps = grown s c.value c.edits c.next (length ps) count in
    same-value ps s c.value c.edits c.next n (apply-all types ps (tree_in s) plain values (counted-change types ps (tree_in s) plain values n))

pub counted-put : (types : Catalog) (ps : List Patch) (s : State) (v : Value) → IsPlain (bare s.tree) → All HasPlainValues ps
    → IsCounted types ps s → LeadsTo ps (bare s.tree) v → ArePutBack ps v s (after_restoring types ps s)
counted-put types ps s v plain values count leads =
    let c : Changed = restored types ps (tree_in s) in
    let n : length c.edits ≡ length ps = grown s c.value c.edits c.next (length ps) count in
    changes-put types ps s v plain values (counted-change types ps (tree_in s) plain values n) leads

pub each : (r : Restoring) (c : Changed) → IsPlain (bare r.tree.root) → HasPlainValues r.patch → one_restored r ≡ Some c → applied r.patch (bare r.tree.root) ≡ Ok (bare c.value)
each r c plain values h = (puts r values plain c h).value

-- What lists of patches keep.
use Rattle.std.proofs.Common.{◌≡◌, ℕ, suc, ◌<◌, ◌≤◌, List, All, [], ◌∷◌, ◌++◌, map, Option, Some, None, Ok, Err, IfOk, refl, ap, subst, ◌∙◌, arith, ⊎_elim}
use Rattle.std.specs.Prelude.{nat_le, unwrap_or}
use Rattle.std.specs.Option.{option_map}
use Rattle.std.proofs.lemmas.Bool.{cases_lt}
use Rattle.std.proofs.lemmas.List.{map-append}
use Rattle.snap_core.specs.Value.{IsPlain, depth_of, null}
use Rattle.snap_core.specs.View.{view}
use Rattle.snap_core.specs.declared.snap.Snap.{Snap}
use Rattle.pointer_core.specs.Path.{Path}
use Rattle.pointer_core.specs.declared.refusal.Rule.TheVariants as rule
use Rattle.patch_core.specs.declared.patch.Patch.{Patch}
use Rattle.patch_core.specs.declared.patch.PatchOp.{PatchOp}
use Rattle.patch_core.specs.declared.patch.PatchOp.TheVariants.{Add, Replace, Remove}
use Rattle.patch_core.specs.Printing.{IsPlainMaybe, HasPlainValues}
use Rattle.patch_core.specs.Application.{written}
use Rattle.type_table.specs.Table.{Catalog}
use Rattle.type_core.specs.Making.{Outcome, is_within}
use Rattle.type_core.specs.Doubled.{identifiers_of, doubled_of}
use Rattle.type_core.specs.Sound.{IsSound}
use Rattle.edit_core.specs.Labelled.{Labelled, bare}
use Rattle.edit_core.specs.Edit.{Edit}
use Rattle.edit_core.specs.Numbers.{times, AreNumbered}
use Rattle.edit_core.specs.Typing.{label_of}
use Rattle.edit_core.specs.Logged.{logged, before_log}
use Rattle.edit_core.proofs.Leading.{Conditions, RunIn, no_edits, one_edit, free}
use Rattle.tree_core.specs.Outcome.{◌>>=◌, provided}
use Rattle.tree_core.specs.Changed.{Changed}
use Rattle.tree_core.specs.Write.{Write, WritesPlain}
use Rattle.tree_core.specs.Writing.{Tree, place_written, limited_tree, unless_doubled}
use Rattle.tree_core.specs.Listing.{write_by, write_in, place_in, acting, patch_written, patches_written, list_written}
use Rattle.tree_core.proofs.Moving.{Runs}
use Rattle.tree_core.proofs.Keeping.{Keeps, numbered-again, undone}
use Rattle.tree_core.proofs.WriteKeeping.{bound, if-provided, provided-Ok}
use Rattle.tree_core.proofs.PlaceKeeping.{place-keeps}
use Rattle.tree_lists.specs.Folding.{tree_after, and_then}

-- edits, and then others
runs-on : (C : Conditions) (x y z : Labelled) (es fs : List Edit) → RunIn C x es y → RunIn C y fs z → RunIn C x (es ++ fs) z
runs-on C x y z es fs (no_edits w) after = after
runs-on C x y z es fs (one_edit a b c e rest lead run) after = one_edit a b z e (rest ++ fs) lead (runs-on C b c z rest fs run after)

-- a change, and then another of what it left
pub keeps-joined : (next : ℕ) (x : Labelled) (first second : Changed) → Keeps next x first → Keeps first.next first.value second → Keeps next x (and_then first second)
keeps-joined next x first second a b =
    record {
      runs = record {
        edits = a.runs.edits ++ b.runs.edits;
        logs = map-append logged a.runs.edits b.runs.edits ∙ ap (λ es. es ++ map logged b.runs.edits) a.runs.logs ∙ ap (λ es. first.edits ++ es) b.runs.logs;
        run = runs-on free x first.value second.value a.runs.edits b.runs.edits a.runs.run b.runs.run;
      };
      later = omega (arith, a.later, b.later);
      kept = λ n h. omega (arith, a.kept n h, b.kept n (omega (arith, h, a.later)));
      drawn = λ n h. ⊎_elim (λ k. omega (arith, a.drawn n h, b.kept n k)) (λ k. b.drawn n k) (cases_lt n first.next);
      none = λ n h. b.none n h;
      plain = b.plain;
    }

-- nothing changes
pub keeps-none : (next : ℕ) (x : Labelled) → AreNumbered next x → IsPlain (bare x) → Keeps next x (record { value = x; edits = []; next = next })
keeps-none next x numbered plain =
    record {
      runs = record { edits = []; logs = refl; run = no_edits x };
      later = omega arith;
      kept = λ n h. omega arith;
      drawn = λ n h. numbered.differ n;
      none = λ n h. numbered.below n h;
      plain = plain;
    }

-- what patches write is plain
plain-maybe : (v : Option Snap) → IsPlainMaybe v → IsPlain (unwrap_or (option_map view v) null)
plain-maybe (Some v) plain = plain
plain-maybe None plain = tt

plain-by : (op : PatchOp) (v : Option Snap) → IsPlainMaybe v → WritesPlain (write_by op (unwrap_or (option_map view v) null))
plain-by Add v plain = plain-maybe v plain
plain-by Replace v plain = plain-maybe v plain
plain-by Remove v plain = tt

pub plain-write : (p : Patch) → HasPlainValues p → WritesPlain (write_in p)
plain-write p plain = plain-by p.op p.value plain.0

pub plain-written : (p : Patch) → HasPlainValues p → IsPlain (written p)
plain-written p plain = plain-maybe p.value plain.0

from-Ok : (o : Outcome Changed) (P : Changed → Type 0) (c : Changed) → IfOk o P → o ≡ Ok c → P c
from-Ok o P c h e = let Q : Outcome Changed → Type 0 = λ o. IfOk o P in subst Q e h

-- of each in a list, so of those behind the first
pub all-behind : (P : Patch → Type 0) (p : Patch) (ps : List Patch) → All P (p ∷ ps) → All P ps
all-behind P p ps all = λ k d h. all (suc k) d (omega (arith, h))

pub all-first : (P : Patch → Type 0) (p : Patch) (ps : List Patch) → All P (p ∷ ps) → P p
all-first P p ps all = all 0 p (omega arith)

module _ (types : Catalog) (sound : IsSound types) where
  -- one patch
  patch-keeps : (p : Patch) (tree : Tree) → AreNumbered tree.next tree.root → IsPlain (bare tree.root) → HasPlainValues p → IfOk (patch_written types p tree) (Keeps tree.next tree.root)
  patch-keeps p tree numbered plain values =
      bound (place_in p tree.root) _ (Keeps tree.next tree.root)
      (λ place e. place-keeps types sound (record { running = acting (label_of tree.root); place = place; named = Some p.path }) (write_in p) tree numbered plain (plain-write p values))

  -- a list of them
  pub patches-keep : (ps : List Patch) (tree : Tree) → AreNumbered tree.next tree.root → IsPlain (bare tree.root) → All HasPlainValues ps
      → IfOk (patches_written types ps tree) (Keeps tree.next tree.root)
  patches-keep [] tree numbered plain values = keeps-none tree.next tree.root numbered plain
  patches-keep (p ∷ ps) tree numbered plain values =
      bound (patch_written types p tree) _ (Keeps tree.next tree.root)
      (λ first e. let kept : Keeps tree.next tree.root first =
      from-Ok (patch_written types p tree) (Keeps tree.next tree.root) first (patch-keeps p tree numbered plain (all-first HasPlainValues p ps values)) e in
      if-provided (nat_le (depth_of (bare first.value)) 64) [] rule.Large _ (Keeps tree.next tree.root)
      (λ _. bound (patches_written types ps (tree_after first)) _ (Keeps tree.next tree.root)
      (λ rest g. keeps-joined tree.next tree.root first rest kept
      (from-Ok (patches_written types ps (tree_after first)) (Keeps first.next first.value) rest
      (patches-keep ps (tree_after first) (numbered-again tree.next tree.root first numbered kept) kept.plain (all-behind HasPlainValues p ps values)) g))))

  ok-one : (x y : Changed) → ◌≡◌ {A = Outcome Changed} (Ok x) (Ok y) → x ≡ y
  ok-one x y e = cc

  undoubled-keeps : (o : Option Path) (c : Changed) (P : Changed → Type 0) → P c → IfOk (unless_doubled o c) P
  undoubled-keeps (Some path) c P h = tt
  undoubled-keeps None c P h = h

  -- and the whole list, judged at its end
  pub list-keeps : (ps : List Patch) (tree : Tree) → AreNumbered tree.next tree.root → IsPlain (bare tree.root) → All HasPlainValues ps
      → IfOk (list_written types ps tree) (Keeps tree.next tree.root)
  list-keeps ps tree numbered plain values =
      bound (patches_written types ps tree) _ (Keeps tree.next tree.root)
      (λ changed k. bound (limited_tree changed) _ (Keeps tree.next tree.root)
      (λ within m.
      let same : ◌≡◌ {A = Outcome Changed} (Ok changed) (Ok within) = provided-Ok (is_within (bare changed.value)) [] _ (Ok changed) within m in
      let kept = from-Ok (patches_written types ps tree) (Keeps tree.next tree.root) changed (patches-keep ps tree numbered plain values) k in
      undoubled-keeps (doubled_of (identifiers_of types (bare within.value))) within (Keeps tree.next tree.root) (subst (Keeps tree.next tree.root) (ok-one changed within same) kept)))

  pub patches-plain : (ps : List Patch) (tree : Tree) → AreNumbered tree.next tree.root → IsPlain (bare tree.root) → All HasPlainValues ps
      → (c : Changed) → patches_written types ps tree ≡ Ok c → IsPlain (bare c.value)
  patches-plain ps tree numbered plain values c e =
      (from-Ok (patches_written types ps tree) (Keeps tree.next tree.root) c (patches-keep ps tree numbered plain values) e).plain

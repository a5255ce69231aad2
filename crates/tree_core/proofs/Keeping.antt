-- What a change keeps: it is a run of edits, no number comes twice, and the value stays plain.
use Rattle.std.proofs.Common.{◌≡◌, ℕ, ◌+◌, ◌<◌, ◌≤◌, List, Bool, true, false, Option, Some, None, refl, sym, ap, subst, ◌∙◌, arith, ⊎_elim, if◌then◌else◌}
use Rattle.std.proofs.lemmas.Bool.{cases_lt}
use Rattle.snap_core.specs.Value.{Value, null, boolean, integer, text, list, dict, IsPlain, Items, Fields}
use Rattle.snap_core.proofs.PlainLevels.{IsOrdered-of}
use Rattle.edit_core.specs.declared.kind.Kind.{Kind}
use Rattle.edit_core.specs.declared.kind.Kind.TheVariants as kind
use Rattle.edit_core.specs.Labelled.{Labelled, leaf, Branches, Entries, bare}
use Rattle.edit_core.specs.Edit.{Turn, LeadInTurn}
use Rattle.edit_core.specs.Typing.{Typing, Rules, seen}
use Rattle.edit_core.specs.Matching.{by_first, same_item}
use Rattle.edit_core.specs.Template.{Template, NewLabel, template, numbered, new_count, array_template, record_template, item_templates, field_templates}
use Rattle.edit_core.specs.Numbers.{times, AreNumbered, HasNumbers}
use Rattle.edit_core.specs.Reconciling.{Setting, Written, written_as, reconciled}
use Rattle.edit_core.specs.Between.{edits_between}
use Rattle.edit_core.specs.Logged.{before_log}
use Rattle.edit_core.proofs.Leading.{free, fine-free, run-in}
use Rattle.edit_core.proofs.Between.{between-runs_in}
use Rattle.edit_core.proofs.Numbering.{has-numbers, first-once}
use Rattle.edit_core.proofs.Reconciling.{reconciled-leads}
use Rattle.edit_core.proofs.Logged.{log-before}
use Rattle.tree_core.specs.Changed.{Changed, placed, as_changed, value_set, one_item_set}
use Rattle.tree_core.proofs.Moving.{Stands, Runs, runs-placed}
use Rattle.tree_core.proofs.PartFacts.{part-times, part-plain}

-- what holds of a change of a value, given the next number before it
pub record Keeps (next : ℕ) (x : Labelled) (c : Changed) : Type 0 where
  pub runs : Runs free x c
  pub later : next ≤ c.next
  pub kept : (n : ℕ) → n < next → times n c.value ≤ times n x
  pub drawn : (n : ℕ) → next ≤ n → times n c.value ≤ 1
  pub none : (n : ℕ) → c.next ≤ n → times n c.value ≡ 0
  pub plain : IsPlain (bare c.value)

-- taken back, it gives the very value
pub undone : (next : ℕ) (x : Labelled) (c : Changed) → Keeps next x c → before_log c.edits c.value ≡ x
undone next x c keeps =
    let run : LeadInTurn x keeps.runs.edits c.value = run-in free x c.value keeps.runs.edits keeps.runs.run in
    ap (λ es. before_log es c.value) (sym keeps.runs.logs) ∙ log-before x c.value keeps.runs.edits run

-- no number comes twice
pub numbered-again : (next : ℕ) (x : Labelled) (c : Changed) → AreNumbered next x → Keeps next x c → AreNumbered c.next c.value
numbered-again next x c numbered keeps =
    record {
      differ = λ n. ⊎_elim (λ h. omega (arith, keeps.kept n h, numbered.differ n)) (λ h. keeps.drawn n h) (cases_lt n next);
      below = λ n h. keeps.none n h;
    }

-- a changed part, seen as a change of the whole
part-at-most : (n : ℕ) (way : List Turn) (x part : Labelled) → Stands way x part → times n part ≤ times n x
part-at-most n way x part stands = omega (arith, part-times n way x part (leaf null) stands)

pub keeps-placed : (way : List Turn) (next : ℕ) (x part : Labelled) (c : Changed) → Stands way x part → AreNumbered next x → IsPlain (bare x)
    → Keeps next part c → Keeps next x (placed way x c)
keeps-placed way next x part c stands numbered plain keeps =
    record {
      runs = runs-placed free way x part c stands (fine-free x) keeps.runs;
      later = keeps.later;
      kept = λ n h. omega (arith, part-times n way x part c.value stands, keeps.kept n h);
      drawn = λ n h. omega (arith, part-times n way x part c.value stands, numbered.below n h, keeps.drawn n h);
      none = λ n h. omega (arith, part-times n way x part c.value stands, numbered.below n (omega (arith, keeps.later)), keeps.none n h);
      plain = part-plain way x part c.value stands plain keeps.plain;
    }

pub part-numbered : (way : List Turn) (next : ℕ) (x part : Labelled) → Stands way x part → AreNumbered next x → AreNumbered next part
part-numbered way next x part stands numbered =
    record {
      differ = λ n. omega (arith, part-at-most n way x part stands, numbered.differ n);
      below = λ n h. omega (arith, part-at-most n way x part stands, numbered.below n h);
    }

-- a new value, in the place of nothing or of null

array-anew : (rules : Rules) (k : Option Kind) (ps : Items) (making : ℕ → List (Option Labelled) → Branches NewLabel)
    → array_template rules k (Some (leaf null)) ps making ≡ array_template rules k None ps making
array-anew rules None ps making = refl
array-anew rules (Some (kind.Model m)) ps making = refl
array-anew rules (Some (kind.Array t)) ps making = refl
array-anew rules (Some (kind.Map t)) ps making = refl

record-anew : (rules : Rules) (k : Option Kind) (ms : Fields) (making : Kind → List (List ℕ × Labelled) → Entries NewLabel)
    → record_template rules k (Some (leaf null)) ms making ≡ record_template rules k None ms making
record-anew rules None ms making = refl
record-anew rules (Some (kind.Model m)) ms making = refl
record-anew rules (Some (kind.Array t)) ms making = refl
record-anew rules (Some (kind.Map t)) ms making = refl

pub anew : (rules : Rules) (t : ℕ) (v : Value) → template rules t (Some (leaf null)) v ≡ template rules t None v
anew rules t null = refl
anew rules t (boolean b) = refl
anew rules t (integer z) = refl
anew rules t (text s) = refl
anew rules t (list a ps) = array-anew rules (rules.typing.kind_of t (list a ps)) ps (item_templates rules ps)
anew rules t (dict a ms) = record-anew rules (rules.typing.kind_of t (dict a ms)) ms (field_templates rules ms)

-- a value that is written, as a change
keeps-written : (next : ℕ) (x y : Labelled) (new : Template) → numbered next new ≡ y → IsPlain (bare y)
    → ((n : ℕ) → n < next → times n y ≤ times n x) → ((n : ℕ) → next ≤ n → n < next + new_count new → times n y ≡ 1)
    → ((n : ℕ) → next + new_count new ≤ n → times n y ≡ 0) → Keeps next x (as_changed (written_as next x new))
keeps-written next x y new same plain kept drawn none =
    let value : Labelled = numbered next new in
    let Plain : Labelled → Type 0 = λ z. IsPlain (bare z) in
    record {
      runs = record { edits = edits_between x value; logs = refl; run = between-runs_in free x value (fine-free x) (fine-free value) };
      later = omega arith;
      kept = λ n h. omega (arith, ap (times n) same, kept n h);
      drawn = λ n h. ⊎_elim (λ k. omega (arith, ap (times n) same, drawn n h k)) (λ k. omega (arith, ap (times n) same, none n k)) (cases_lt n (next + new_count new));
      none = λ n h. ap (times n) same ∙ none n h;
      plain = subst Plain (sym same) plain;
    }

pub keeps-set : (typing : Typing) (s : Setting) → AreNumbered s.next s.old → IsPlain s.new → Keeps s.next s.old (value_set typing s)
keeps-set typing s numbered plain =
    let w : Written = reconciled (by_first typing) s in
    let has : HasNumbers s.next s.old w = has-numbers (by_first typing) s (first-once typing) (IsOrdered-of s.new plain) numbered in
    keeps-written s.next s.old w.value (template (by_first typing) s.type (Some s.old) s.new) refl
    (subst IsPlain (sym (reconciled-leads (by_first typing) s).given) plain) has.kept has.drawn has.none

-- a new value, its numbers drawn from the next one on
pub record IsFresh (next : ℕ) (new : Template) (v : Value) : Type 0 where
  pub kept : (n : ℕ) → n < next → times n (numbered next new) ≤ 0
  pub drawn : (n : ℕ) → next ≤ n → n < next + new_count new → times n (numbered next new) ≡ 1
  pub none : (n : ℕ) → next + new_count new ≤ n → times n (numbered next new) ≡ 0
  pub given : bare (numbered next new) ≡ v

none-there : (next : ℕ) → AreNumbered next (leaf null)
none-there next = record { differ = λ n. omega arith; below = λ n h. refl }

pub fresh : (typing : Typing) (next t : ℕ) (v : Value) → IsPlain v → IsFresh next (template (by_first typing) t None v) v
fresh typing next t v plain =
    let rules : Rules = by_first typing in
    let s : Setting = record { type = t; old = leaf null; new = v; next = next } in
    let has : HasNumbers next (leaf null) (reconciled rules s) = has-numbers rules s (first-once typing) (IsOrdered-of v plain) (none-there next) in
    let P : Template → Type 0 = λ new. IsFresh next new v in
    let Before : Template → Type 0 = λ new. P new in
    subst Before (anew rules t v) (record { kept = has.kept; drawn = has.drawn; none = has.none; given = (reconciled-leads rules s).given })

-- an item that is set alone
pub keeps-item_set : (typing : Typing) (s : Setting) → AreNumbered s.next s.old → IsPlain s.new → Keeps s.next s.old (one_item_set typing s)
keeps-item_set typing s count plain = by (same_item typing s.type (seen s.old) s.new) where
  new : Template
  new = template (by_first typing) s.type None s.new

  by : (b : Bool) → Keeps s.next s.old (as_changed (if b then reconciled (by_first typing) s else written_as s.next s.old new))
  by true = keeps-set typing s count plain
  by false =
      let f : IsFresh s.next new s.new = fresh typing s.next s.type s.new plain in
      keeps-written s.next s.old (numbered s.next new) new refl (subst IsPlain (sym f.given) plain)
      (λ n h. omega (arith, f.kept n h)) f.drawn f.none

-- An item that is set alone.
use Rattle.std.proofs.Common.{◌≡◌, ℕ, ◌+◌, [], ◌∷◌, map, Bool, true, false, ◌||◌, Option, Some, None, refl, ◌∙◌, ap, subst}
use Rattle.std.specs.Prelude.{if◌then◌else◌}
use Rattle.snap_core.specs.Value.{Value, null, boolean, integer, text, list, dict, Items, Fields}
use Rattle.edit_core.specs.declared.kind.Kind.{Kind}
use Rattle.edit_core.specs.declared.kind.Kind.TheVariants.{Model, Array, Map}
use Rattle.edit_core.specs.Labelled.{Labelled, bare}
use Rattle.edit_core.specs.Plain.{patch_of}
use Rattle.edit_core.specs.Comparing.{is_equal}
use Rattle.edit_core.specs.Between.{edits_between}
use Rattle.edit_core.specs.Typing.{Typing, Rules, seen}
use Rattle.edit_core.specs.Matching.{by_first, same_item, identified}
use Rattle.edit_core.specs.Template.{values_in, array_template, record_template, template, item_templates, field_templates, numbered, numbered_items, numbered_entries}
use Rattle.edit_core.specs.Numbers.{AreNumbered}
use Rattle.edit_core.specs.Rules.{replaced, patches_by_rules, item_patches}
use Rattle.edit_core.specs.Reconciling.{Setting, written_as, reconciled, item_set}
use Rattle.edit_core.specs.Laws.{LeadsToTheNew, CanBeSet, SetsOneItem}
use Rattle.edit_core.proofs.Between.{between-runs}
use Rattle.edit_core.proofs.Bare.{bare-template, bare-numbered}
use Rattle.edit_core.proofs.Reconciling.{reconciled-leads}
use Rattle.edit_core.proofs.RuleLinks.{leaf-follows, whole-follows, seen-typed}
use Rattle.edit_core.proofs.ByRules.{new-array, new-record, by-rules}

anew-leads : (r : Rules) (s : Setting) → LeadsToTheNew s (written_as s.next s.old (template r s.type None s.new))
anew-leads r s = record {
  leads = between-runs s.old (numbered s.next (template r s.type None s.new));
  given = bare-numbered s.next (template r s.type None s.new) ∙ bare-template r s.type None s.new;
}

item-leads : (r : Rules) (s : Setting) → LeadsToTheNew s (item_set r s)
item-leads r s =
    elim (same_item r.typing s.type (seen s.old) s.new) as (λ b. LeadsToTheNew s (if b then reconciled r s else written_as s.next s.old (template r s.type None s.new))) [
      | true ↦ reconciled-leads r s
      | false ↦ anew-leads r s
    ]

-- a value that is labelled anew replaces another one

array-anew : (r : Rules) (next : ℕ) (old : Labelled) (ps : Items) (kind : Option Kind) → AreNumbered next old → is_equal (bare old) (list tt ps) ≡ false
    → bare (numbered next (array_template r kind None ps (item_templates r ps))) ≡ list tt ps
    → map patch_of (edits_between old (numbered next (array_template r kind None ps (item_templates r ps)))) ≡ replaced [] (bare old) (list tt ps) ∷ []
array-anew r next old ps None numbers differ given = leaf-follows old (list tt ps) differ
array-anew r next old ps (Some (Map t)) numbers differ given = leaf-follows old (list tt ps) differ
array-anew r next old ps (Some (Model m)) numbers differ given = leaf-follows old (list tt ps) differ
array-anew r next old ps (Some (Array t)) numbers differ given =
    let new : Labelled = numbered next (array_template r (Some (Array t)) None ps (item_templates r ps)) in
    ap (map patch_of) (new-array old next (Array t) (numbered_items (next + 1) (item_templates r ps t.0 (r.matching t.0 [] (values_in ps)))) numbers) ∙ whole-follows old new (list tt ps) given

record-anew : (r : Rules) (next : ℕ) (old : Labelled) (ms : Fields) (kind : Option Kind) → AreNumbered next old → is_equal (bare old) (dict tt ms) ≡ false
    → bare (numbered next (record_template r kind None ms (field_templates r ms))) ≡ dict tt ms
    → map patch_of (edits_between old (numbered next (record_template r kind None ms (field_templates r ms)))) ≡ replaced [] (bare old) (dict tt ms) ∷ []
record-anew r next old ms None numbers differ given = leaf-follows old (dict tt ms) differ
record-anew r next old ms (Some (Array t)) numbers differ given = leaf-follows old (dict tt ms) differ
record-anew r next old ms (Some (Map t)) numbers differ given =
    let new : Labelled = numbered next (record_template r (Some (Map t)) None ms (field_templates r ms)) in
    ap (map patch_of) (new-record old next (Map t) (numbered_entries (next + 1) (field_templates r ms (Map t) [])) numbers) ∙ whole-follows old new (dict tt ms) given
record-anew r next old ms (Some (Model m)) numbers differ given =
    let new : Labelled = numbered next (record_template r (Some (Model m)) None ms (field_templates r ms)) in
    ap (map patch_of) (new-record old next (Model m) (numbered_entries (next + 1) (field_templates r ms (Model m) [])) numbers) ∙ whole-follows old new (dict tt ms) given

anew : (r : Rules) (t next : ℕ) (old : Labelled) (v : Value) → AreNumbered next old → is_equal (bare old) v ≡ false
    → map patch_of (edits_between old (numbered next (template r t None v))) ≡ replaced [] (bare old) v ∷ []
anew r t next old null numbers differ = leaf-follows old null differ
anew r t next old (boolean b) numbers differ = leaf-follows old (boolean b) differ
anew r t next old (integer z) numbers differ = leaf-follows old (integer z) differ
anew r t next old (text s) numbers differ = leaf-follows old (text s) differ
anew r t next old (list a ps) numbers differ =
    array-anew r next old ps (r.typing.kind_of t (list a ps)) numbers differ (bare-numbered next (template r t None (list a ps)) ∙ bare-template r t None (list a ps))
anew r t next old (dict a ms) numbers differ =
    record-anew r next old ms (r.typing.kind_of t (dict a ms)) numbers differ (bare-numbered next (template r t None (dict a ms)) ∙ bare-template r t None (dict a ms))

or-first : (a b : Bool) → (a || b) ≡ false → a ≡ false
or-first true b h = h
or-first false b h = refl

item-follows : (typing : Typing) (s : Setting) → CanBeSet typing s → map patch_of (item_set (by_first typing) s).edits ≡ item_patches typing s.type (bare s.old) s.new
item-follows typing s can =
    let P : Bool → Type 0 = λ b.
    map patch_of (item_set (by_first typing) s).edits ≡ (if b then patches_by_rules typing s.type (bare s.old) s.new else replaced [] (bare s.old) s.new ∷ []) in
    subst P (ap (λ o. same_item typing s.type o s.new) (seen-typed typing s.type s.old can.labelled)) (go (same_item typing s.type (seen s.old) s.new) refl) where
      go : (b : Bool) → same_item typing s.type (seen s.old) s.new ≡ b
          → map patch_of (item_set (by_first typing) s).edits
          ≡ (if same_item typing s.type (seen s.old) s.new then patches_by_rules typing s.type (bare s.old) s.new else replaced [] (bare s.old) s.new ∷ [])
      go true e = rw e (by-rules typing can.suited s can.labelled can.numbered can.ordered can.new_ordered)
      go false e =
          rw e (anew (by_first typing) s.type s.next s.old s.new can.numbered (or-first (is_equal (bare s.old) s.new) (identified typing (typing.kind_of s.type s.new) (seen s.old) s.new) e))

pub sets-one : (typing : Typing) (s : Setting) → SetsOneItem typing s
sets-one typing s = record { leads = item-leads (by_first typing) s; patches = item-follows typing s }

-- A new tree.
use Rattle.std.proofs.Common.{◌≡◌, ℕ, ◌+◌, List, [], Option, Some, None, refl, sym, ap, subst, ◌∙◌, ⊎_elim, zero-add, arith}
use Rattle.std.proofs.lemmas.Bool.{cases_lt}
use Rattle.snap_core.specs.Value.{Value, list, dict, IsPlain}
use Rattle.type_table.specs.declared.shape.Shape.{Shape}
use Rattle.type_table.specs.declared.shape.Shape.TheVariants as shape
use Rattle.type_table.specs.Table.{Table, Catalog}
use Rattle.type_core.specs.Judging.{judged_by}
use Rattle.patch_core.specs.declared.patch.Patch.{Patch}
use Rattle.edit_core.specs.declared.kind.Kind.{Kind}
use Rattle.edit_core.specs.declared.kind.Kind.TheVariants as kind
use Rattle.edit_core.specs.Labelled as edits
use Rattle.edit_core.specs.Labelled.{leaf, bare}
use Rattle.edit_core.specs.Labelling.{IsSuited, SuitsKind, IsLabelledBy}
use Rattle.edit_core.specs.Numbers.{times}
use Rattle.edit_core.specs.Template.{Template, template, numbered, new_count}
use Rattle.edit_core.specs.Matching.{by_first}
use Rattle.edit_core.proofs.Labelling.{labelled-anew}
use Rattle.node_core.specs.declared.labelled.Labelled.{Labelled}
use Rattle.node_core.specs.View.{labelled}
use Rattle.tree_core.specs.TypesTyping.{kind_by, typing_of, root_type}
use Rattle.tree_core.specs.State.{State}
use Rattle.tree_core.specs.Recorded.{state_of, new_tree, IsTreeOf}
use Rattle.tree_core.proofs.Keeping.{IsFresh, fresh}
use Rattle.live_tree.specs.declared.call.Call.{Call}
use Rattle.live_tree.specs.Contents.{state}
use Rattle.live_tree.specs.Inside.{IsWell, IsKept, contents}

one : (k l : Kind) → ◌≡◌ {A = Option Kind} (Some k) (Some l) → k ≡ l
one k l h = cc

-- kinds are those of what they are made of
suits : (s : Option Shape) (v : Value) (k : Kind) → kind_by s v ≡ Some k → SuitsKind v k
suits (Some (shape.Array u)) (list a ps) k h = let P : Kind → Type 0 = λ k. SuitsKind (list a ps) k in subst P (one (kind.Array u) k h) tt
suits (Some (shape.Map u)) (dict a ms) k h = let P : Kind → Type 0 = λ k. SuitsKind (dict a ms) k in subst P (one (kind.Map u) k h) tt
suits (Some (shape.Model m)) (dict a ms) k h = let P : Kind → Type 0 = λ k. SuitsKind (dict a ms) k in subst P (one (kind.Model m) k h) tt
suits s v k h = absurd (cc)

pub suited : (table : Table) → IsSuited (typing_of table)
suited table t v k h = suits (judged_by table v t) v k h

-- the labels of a new value
pub new-well : (next after : ℕ) (new : Template) (v : Value) (x : edits.Labelled) → IsFresh next new v → x ≡ numbered next new → after ≡ next + new_count new → IsPlain v → IsWell after x
new-well next after new v x f same sum plain = (
  record {
    differ = λ n. ⊎_elim (λ h. omega (arith, ap (times n) same, f.kept n h))
        (λ h. ⊎_elim (λ k. omega (arith, ap (times n) same, f.drawn n h k)) (λ k. omega (arith, ap (times n) same, f.none n k)) (cases_lt n (next + new_count new))) (cases_lt n next);
    below = λ n h. ap (times n) same ∙ f.none n (omega (arith, sum, h));
  },
  subst IsPlain (sym (ap bare same ∙ f.given)) plain,
)

-- What is made of a value for a new tree.
module _ (types : Catalog) (v : Value) (plain : IsPlain v) (root : Labelled) (next : ℕ)
    (value : labelled root ≡ numbered 0 (template (by_first (typing_of types.table)) (root_type types) None v))
    (after : next ≡ 0 + new_count (template (by_first (typing_of types.table)) (root_type types) None v)) where
  new_is_well : IsWell next (labelled root)
  new_is_well = new-well 0 next (template (by_first (typing_of types.table)) (root_type types) None v) v (labelled root) (fresh (typing_of types.table) 0 (root_type types) v plain) value after plain

  pub new_kept : IsKept (contents root next []) [] []
  new_kept = record { well = new_is_well; chained = tt; logged = refl }

  pub new_state : state (contents root next []) ≡ state_of (new_tree types v)
  new_state =
      let Of : edits.Labelled → ℕ → State = λ x n. record { tree = x; next = n; calls = [] } in
      ap (λ x. Of x next) value ∙ ap (Of (numbered 0 (template (by_first (typing_of types.table)) (root_type types) None v))) (after ∙ zero-add _)

  pub new_typed : IsTreeOf types (state (contents root next []))
  new_typed =
      let P : edits.Labelled → Type 0 = λ x. IsLabelledBy (typing_of types.table) (root_type types) x in
      record { labelled = subst P (sym value) (labelled-anew (typing_of types.table) (suited types.table) 0 (root_type types) v); numbered = new_is_well.0 }

  pub kept_by : (cs : List Call) (ps : List Patch) → cs ≡ [] → ps ≡ [] → IsKept (contents root next cs) cs ps
  kept_by cs ps e f =
      let P : List Call → Type 0 = λ cs. IsKept (contents root next cs) cs [] in
      let Q : List Patch → Type 0 = λ ps. IsKept (contents root next cs) cs ps in
      subst Q (sym f) (subst P (sym e) new_kept)

  pub typed_by : (cs : List Call) → cs ≡ [] → IsTreeOf types (state (contents root next cs))
  typed_by cs e = let P : List Call → Type 0 = λ cs. IsTreeOf types (state (contents root next cs)) in subst P (sym e) new_typed

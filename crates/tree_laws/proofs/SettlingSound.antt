-- A sound tree stays sound after settling.
use Rattle.std.proofs.Common.{Some, Ok, if◌then◌else◌, refl, sym, ap, subst, ◌∙◌}
use Rattle.snap_core.specs.Value.{Value}
use Rattle.pointer_core.specs.declared.refusal.Rule.TheVariants.{Large}
use Rattle.type_table.specs.Table.{Catalog}
use Rattle.type_core.specs.Making.{Outcome, made_by, limited, refused}
use Rattle.type_core.specs.Sound.{IsSound}
use Rattle.type_core.proofs.Again.{limited-Ok}
use Rattle.edit_core.specs.Labelled.{Labelled, bare}
use Rattle.tree_core.specs.Recorded.{IsSoundValue, after_settling}
use Rattle.tree_core.specs.Settling.{Settling, settling_in}
use Rattle.tree_core.specs.State.{State}
use Rattle.tree_core.specs.TypesTyping.{root_type}
use Rattle.tree_reading.specs.Settled.{settled_value}
use Rattle.tree_laws.specs.Trees.{IsSoundTree}
use Rattle.tree_laws.proofs.Loose.{settled-tree}
use Rattle.tree_laws.proofs.Right.{IsRight, right-from, right-made}
use Rattle.tree_laws.proofs.SettlingIdentifiers.{still-single}
use Rattle.tree_laws.proofs.SettlingLimits.{settled-within}
use Rattle.tree_laws.proofs.SettlingRight.{settled-right}
use Rattle.tree_laws.proofs.StayTyped.{settling-stays}

abbrev refused_large : Outcome Value
refused_large = refused Large

pub settling-keeps : (types : Catalog) → IsSound types → (s : State) → IsSoundTree types s → IsSoundTree types (after_settling types s)
settling-keeps types sound s tree =
    let by : Settling = settling_in types s.tree in
    let old = limited-Ok (made_by types.table types.defaults (root_type types) (Some (bare s.tree))) (bare s.tree) tree.value.made in
    let right : IsRight types (root_type types) s.tree = right-from types sound (root_type types) s.tree tree.typed.nodes.labelled old.0 in
    let new : Labelled = settled_value by s.tree in
    let P : Labelled → Type 0 = λ x. IsSoundValue types (bare x) in
    record {
      typed = settling-stays types sound s tree.typed;
      value =
          subst P (sym (settled-tree types s))
          (record {
            made =
                ap limited (right-made types sound (root_type types) new (settled-right types sound by refl (root_type types) s.tree right))
                ∙ ap (λ b. if b then Ok (bare new) else refused_large) (settled-within by s.tree old.1);
            single = still-single types sound by refl s.tree right tree.value.single;
          });
    }

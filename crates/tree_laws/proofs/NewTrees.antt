-- A new tree of a sound value is sound.
use Rattle.std.proofs.Common.{None, sym, subst, ⊎_elim, arith}
use Rattle.std.proofs.lemmas.Bool.{cases_lt}
use Rattle.std.proofs.lemmas.List.Elements.{All-nil}
use Rattle.snap_core.specs.Value.{Value, IsPlain}
use Rattle.patch_core.specs.Printing.{HasPlainValues}
use Rattle.type_table.specs.Table.{Catalog}
use Rattle.edit_core.specs.Matching.{by_first}
use Rattle.edit_core.specs.Template.{Template, template}
use Rattle.edit_core.proofs.Labelling.{labelled-anew}
use Rattle.tree_core.specs.Recorded.{IsSoundValue, state_of, new_tree}
use Rattle.tree_core.specs.TypesTyping.{typing_of, root_type}
use Rattle.tree_core.proofs.Keeping.{IsFresh, fresh}
use Rattle.tree_laws.specs.Trees.{IsSoundTree}
use Rattle.tree_laws.proofs.WriteTyped.{suited}

pub new-sound : (types : Catalog) (v : Value) → IsSoundValue types v → IsPlain v → IsSoundTree types (state_of (new_tree types v))
new-sound types v value plain =
    let new : Template = template (by_first (typing_of types.table)) (root_type types) None v in
    let f : IsFresh 0 new v = fresh (typing_of types.table) 0 (root_type types) v plain in
    record {
      typed = record {
        plain = subst IsPlain (sym f.given) plain;
        nodes = record {
          labelled = labelled-anew (typing_of types.table) (suited types.table) 0 (root_type types) v;
          numbered = record {
            differ = λ n. ⊎_elim (λ h. omega (arith, f.drawn n (omega arith) (omega (arith, h)))) (λ h. omega (arith, f.none n (omega (arith, h)))) (cases_lt n (new_tree types v).next);
            below = λ n h. f.none n (omega (arith, h));
          };
        };
        logged = All-nil HasPlainValues;
      };
      value = subst (IsSoundValue types) (sym f.given) value;
    }

use Rattle.std.proofs.Common.{◌∙◌}
use Rattle.reconcile_core.proofs.Plainness.{keyed-dict, equal-records}
use Rattle.reconcile_core.proofs.same.equal_fields.Goals as goal

pub find-requires : goal.find-requires
find-requires c = rw c.as_slice-in-Record-Dict.ensures (keyed-dict c.in-Record-Dict.news (rw c.in-Record-Dict.is-1 at c.requires.plain))

pub find-requires-in-Leaf-Dict-Dict : goal.find-requires-in-Leaf-Dict-Dict
find-requires-in-Leaf-Dict-Dict c = rw c.as_slice-in-Leaf-Dict-Dict-2.ensures (keyed-dict c.in-Leaf-Dict-Dict.news (rw c.in-Leaf-Dict-Dict.is-1 at c.requires.plain))

pub returns-in-Record-Dict : goal.returns-in-Record-Dict
returns-in-Record-Dict c =
    rw (c.in-Record-Dict.is-0, c.in-Record-Dict.is-1)
    (c.equal_parts.ensures ∙ equal-records _ c.in-Record-Dict.olds c.in-Record-Dict.news c.args.name.now _ _ (rw c.as_slice.ensures at c.entry_under.ensures) (rw c.as_slice-in-Record-Dict.ensures at c.find.ensures.found))

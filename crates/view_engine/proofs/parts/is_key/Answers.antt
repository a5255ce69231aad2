use Rattle.std.proofs.Common.{◌≡◌, ◌<◌, ◌≤◌, Some, Ok, Err, is_some, refl, rules, sym, ◌∙◌, ap, subst}
use Rattle.std.specs.Prelude.{unwrap_or}
use Rattle.pointer_core.specs.declared.refusal.Rule.{Rule}
use Rattle.answer_ops.specs.View.{answer_of}
use Rattle.answer_ops.specs.declared.value.Value.{Value}
use Rattle.view_engine.specs.Did.{Read}
use Rattle.view_engine.specs.Progress.{scope_of, whole_in}
use Rattle.snap_core.specs.Value.{boolean}
use Rattle.snap_core.specs.declared.snap.Snap
use Rattle.snap_core.proofs.Views.{view-Bool}
use Rattle.type_table.specs.Table.{Table, Catalog}
use Rattle.tree_core.specs.declared.place.Place.TheVariants.{Key}
use Rattle.tree_reading.specs.Held.{held_at}
use Rattle.eval_core.specs.Answer.{plain}
use Rattle.eval_core.specs.Reading.{entry_under}
use Rattle.eval_core.specs.Scope.{gives}
use Rattle.view_engine.specs.TreeSight.{level_of}
use Rattle.view_engine.proofs.Doing.{given-plain}
use Rattle.view_engine.proofs.Levels.{level-read, has-key}
use Rattle.view_engine.proofs.parts.is_key.Goals as goal

pub returns : goal.returns
returns g c = λ t some.
    let s = scope_of g.S.Bodies.says c.args.scope.now in
    let whole = whole_in g.S.Bodies.says c.args.scope.now in
    let n = c.args.n in
    let key = c.args.key.now in
    let there : c.is_some-there.result ≡ is_some c.held.result = search rules in
    let held : c.held.result ≡ held_at whole.table (Key n key) whole.tree =
    c.held.ensures ∙ ap (λ (u : Catalog). held_at u.table (Key n c.in_ok-clone_in.field-0) whole.tree) c.types.ensures ∙ ap (λ k. held_at whole.table (Key n k) whole.tree) c.in_ok-clone_in.ensures in
    let same : c.is_some-there.result ≡ is_some (entry_under key (level_of whole n)) = there ∙ ap is_some held ∙ has-key whole n key t some in
    level-read answer_of s whole n (level_of whole n) (λ es. gives (plain (boolean (is_some (entry_under key es))))) _ refl refl
    (given-plain (Snap.Bool c.is_some-there.result) (boolean (is_some (entry_under key (level_of whole n)))) (ap boolean (sym same) ∙ sym (view-Bool c.is_some-there.result)))

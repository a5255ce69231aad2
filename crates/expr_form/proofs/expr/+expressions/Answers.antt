-- Each form reads as its row says: its parts at their places, where the names are those that were bound before.
use Rattle.std.proofs.Common.{◌+◌, ◌-◌, ℕ, List, [], map, drop, Err, Some, decimal, refl, sym, ◌∙◌, ap, subst, arith}
use Rattle.snap_core.specs.Value.{Value}
use Rattle.snap_core.specs.View.{view, items_view, fields_view}
use Rattle.pointer_core.specs.declared.schema_rule.SchemaRule.TheVariants.{Shape}
use Rattle.expr_syntax.specs.Syntax.{Expression, choice, bind, make}
use Rattle.expr_syntax.specs.Syntax as syntax
use Rattle.expr_syntax.specs.Shown.{shown, expressions, members}
use Rattle.expr_syntax.specs.Forms.{entry_shown}
use Rattle.expr_syntax.specs.declared.expr.Expr.{Expr}
use Rattle.expr_form.specs.declared.keys.Key.{Key}
use Rattle.expr_form.specs.declared.keys.Aim.{Aim}
use Rattle.expr_form.specs.declared.keys.Aim.TheVariants as aim
use Rattle.expr_form.specs.declared.keys.Group.{Group}
use Rattle.expr_form.specs.declared.keys.Pair.{Pair}
use Rattle.expr_form.specs.declared.keys.Pair.TheVariants as pair
use Rattle.expr_form.specs.declared.keys.Triple.{Triple}
use Rattle.expr_form.specs.declared.keys.Triple.TheVariants as triple
use Rattle.expr_form.specs.Texts.{pair_in, triple_in, items_in, fields_in}
use Rattle.expr_form.specs.Names.{name_read, binder_read, bound}
use Rattle.expr_form.specs.Models.{target_of, entry_read}
use Rattle.expr_form.specs.Outcome.{Outcome, reads, here, under, at, both, made, Tells, of_parts}
use Rattle.expr_form.specs.Seen.{pair_shown, formed_seen}
use Rattle.expr_form.specs.Expressions.{Names, one_made, two_made, named_made, walk_kind, pair_parts, triple_parts, items_read, member_read, members_read, aim_made, aim_target, aim_read, group_read, keyed_read, formed_read, expr_read}
use Rattle.expr_form.proofs.Telling.{tells-lowered, tells-here, tells-same, tells-parts, tells-no_parts, tells-made, tells-mapped, tells-both, tells-aimed}
use Rattle.expr_form.proofs.Operands.{same-names, part-at}
use Rattle.expr_form.proofs.Joining.{joined, with_first, with_last, joined-first, joined-none, joined-end, tells-pushed}
use Rattle.expr_form.proofs.Walking.{items-step, items-end, fields-step, fields-end}
use Rattle.expr_form.proofs.Rooms.{read-stopped, read-closed, read-open, no_aim, one_aim}
use Rattle.expr_form.proofs.expr.+expressions.Goals as goal

-- an expression by its own form

pub read_expr-returns-in_err-formed-clause-reads : goal.read_expr-returns-in_err-formed-clause-reads
read_expr-returns-in_err-formed-clause-reads t c =
    read-stopped (target_of (fields_view c.args.types.now) c.args.targets.now) formed_seen c.args.room c.args.scope.now (view c.args.value.now)
    c.in_err-formed.field-0.0 c.from_residual.result c.from_residual.ensures.1 c.in_err-formed.ensures

pub read_expr-returns-then-room-eq0-clause-reads : goal.read_expr-returns-then-room-eq0-clause-reads
read_expr-returns-then-room-eq0-clause-reads t c =
    read-closed (target_of (fields_view c.args.types.now) c.args.targets.now) c.args.room c.args.scope.now (view c.args.value.now)
    (formed_seen c.in_ok-formed.formed) c.wrong.result c.if-room-eq0.true c.in_ok-formed.ensures c.wrong.ensures

pub read_expr-returns-in_ok-constant-in-None-clause-reads : goal.read_expr-returns-in_ok-constant-in-None-clause-reads
read_expr-returns-in_ok-constant-in-None-clause-reads t c =
    read-open (target_of (fields_view c.args.types.now) c.args.targets.now) c.args.room c.args.scope.now (view c.args.value.now) (formed_seen c.in_ok-formed.formed) (omega arith) c.in_ok-formed.ensures
    ∙ ap (λ f. formed_read (target_of (fields_view c.args.types.now) c.args.targets.now) (expr_read (target_of (fields_view c.args.types.now) c.args.targets.now) (c.args.room - 1)) c.args.scope.now (view c.args.value.now) (formed_seen f)) c.in-None.is
    ∙ ap reads (sym c.in_ok-constant-in-None.ensures)

pub read_expr-returns-in-Some-clause-reads : goal.read_expr-returns-in-Some-clause-reads
read_expr-returns-in-Some-clause-reads t c =
    let look = target_of (fields_view c.args.types.now) c.args.targets.now in
    let names = c.args.scope.now in
    let v = view c.args.value.now in
    let below = expr_read look (c.args.room - 1) in
    tells-same shown c.read_keyed.result (formed_read look below names v (formed_seen (Some c.in-Some.object))) (expr_read look c.args.room names v)
    (read-open look c.args.room names v (formed_seen c.in_ok-formed.formed) (omega arith) c.in_ok-formed.ensures
    ∙ ap (λ f. formed_read look below names v (formed_seen f)) c.in-Some.is)
    c.read_keyed.ensures.reads

-- forms by their groups

pub read_keyed-returns-in-Group-clause-reads : goal.read_keyed-returns-in-Group-clause-reads
read_keyed-returns-in-Group-clause-reads t c =
    let look = target_of (fields_view c.args.types.now) c.args.targets.now in
    let read = expr_read look c.args.room in
    let names = c.args.scope.now in
    let k = c.args.field.now.key in
    let v = view c.args.field.now.value in
    let P : Key → Type 0 = λ form. Tells shown c.under.result (keyed_read look read names (form, k, v)) in
    subst P (sym c.in-Group.is)
    (tells-lowered shown k c.read_group-inside.result c.under.result (group_read read c.in-Group.group names v) (rw c.text.ensures at c.under.ensures) c.read_group-inside.ensures.reads)

pub read_group-returns-in-One-clause-reads : goal.read_group-returns-in-One-clause-reads
read_group-returns-in-One-clause-reads t c =
    let look = target_of (fields_view c.args.types.now) c.args.targets.now in
    let read = expr_read look c.args.room in
    let names = c.args.scope.now in
    let v = view c.args.value.now in
    let P : Group → Type 0 = λ form. Tells shown c.one_from.result (group_read read form names v) in
    subst P (sym c.in-One.is)
    (tells-made shown shown (one_made c.in-One.form) c.read_expr.result c.one_from.result (read names v) c.one_from.ensures c.read_expr.ensures.reads)

-- two parts

pub read_pair-returns-in_default-clause-reads : goal.read_pair-returns-in_default-clause-reads
read_pair-returns-in_default-clause-reads t c =
    let look = target_of (fields_view c.args.types.now) c.args.targets.now in
    tells-no_parts shown (pair_in (view c.args.value.now)) (pair_parts (expr_read look c.args.room) c.args.form c.args.scope.now) c.wrong.result c.in_default.ensures c.wrong.ensures

pub read_pair-returns-in-Two-clause-reads : goal.read_pair-returns-in-Two-clause-reads
read_pair-returns-in-Two-clause-reads t c =
    let look = target_of (fields_view c.args.types.now) c.args.targets.now in
    let read = expr_read look c.args.room in
    let names = c.args.scope.now in
    let v = view c.args.value.now in
    let a = view c.in-Some.parts.0.now in
    let b = view c.in-Some.parts.1.now in
    let P : Pair → Type 0 = λ form. Tells shown c.two_from.result (of_parts (pair_in v) (pair_parts read form names)) in
    subst P (sym c.in-Two.is)
    (tells-parts shown (pair_in v) (a, b) (pair_parts read (pair.Two c.in-Two.form) names) c.two_from.result c.in-Some.ensures
    (tells-made pair_shown shown (λ q. two_made c.in-Two.form q.0 q.1) c.both-operands.result c.two_from.result (both (at 0 (read names a)) (at 1 (read names b))) c.two_from.ensures
    (tells-both shown shown c.at_index-operand.result c.at_index-right.result c.both-operands.result (at 0 (read names a)) (at 1 (read names b)) c.both-operands.ensures
    (part-at shown read 0 c.read_expr-operand.result c.at_index-operand.result names names a refl c.at_index-operand.ensures c.read_expr-operand.ensures.reads)
    (part-at shown read 1 c.read_expr-right.result c.at_index-right.result names c.read_expr-operand.new.scope b c.read_expr-operand.ensures.scope c.at_index-right.ensures c.read_expr-right.ensures.reads))))

pub read_pair-returns-in-Named-clause-reads : goal.read_pair-returns-in-Named-clause-reads
read_pair-returns-in-Named-clause-reads t c =
    let look = target_of (fields_view c.args.types.now) c.args.targets.now in
    let read = expr_read look c.args.room in
    let names = c.args.scope.now in
    let v = view c.args.value.now in
    let a = view c.in-Some.parts.0.now in
    let b = view c.in-Some.parts.1.now in
    let P : Pair → Type 0 = λ form. Tells shown c.named_from.result (of_parts (pair_in v) (pair_parts read form names)) in
    subst P (sym c.in-Named.is)
    (tells-parts shown (pair_in v) (a, b) (pair_parts read (pair.Named c.in-Named.form) names) c.named_from.result c.in-Some.ensures
    (tells-made (λ (q : Expr × List ℕ). (shown q.0, q.1)) shown (λ q. named_made c.in-Named.form q.0 q.1) c.both-named.result c.named_from.result (both (at 0 (read names a)) (at 1 (name_read b))) c.named_from.ensures
    (tells-both shown (λ (n : List ℕ). n) c.at_index-operand.result c.at_index-name.result c.both-named.result (at 0 (read names a)) (at 1 (name_read b)) c.both-named.ensures
    (part-at shown read 0 c.read_expr-operand.result c.at_index-operand.result names names a refl c.at_index-operand.ensures c.read_expr-operand.ensures.reads)
    (tells-lowered (λ (n : List ℕ). n) (decimal 1) c.read_name-name.result c.at_index-name.result (name_read b) c.at_index-name.ensures c.read_name-name.ensures))))

-- three parts

pub read_triple-returns-in_default-clause-reads : goal.read_triple-returns-in_default-clause-reads
read_triple-returns-in_default-clause-reads t c =
    let look = target_of (fields_view c.args.types.now) c.args.targets.now in
    tells-no_parts shown (triple_in (view c.args.value.now)) (triple_parts (expr_read look c.args.room) c.args.form c.args.scope.now) c.wrong.result c.in_default.ensures c.wrong.ensures

pub read_triple-returns-in-Walk-clause-reads : goal.read_triple-returns-in-Walk-clause-reads
read_triple-returns-in-Walk-clause-reads t c =
    let look = target_of (fields_view c.args.types.now) c.args.targets.now in
    let read = expr_read look c.args.room in
    let names = c.args.scope.now in
    let v = view c.args.value.now in
    let a = view c.in-Some.parts.0.now in
    let x = view c.in-Some.parts.1.now in
    let b = view c.in-Some.parts.2.now in
    let inside : Names → Value → Outcome Expression = λ ns w. read (bound ns x) w in
    let P : Triple → Type 0 = λ form. Tells shown c.walk_from.result (of_parts (triple_in v) (triple_parts read form names)) in
    subst P (sym c.in-Walk.is)
    (tells-parts shown (triple_in v) (a, x, b) (triple_parts read (triple.Walk c.in-Walk.form) names) c.walk_from.result c.in-Some.ensures
    (tells-made (λ (q : Expr × (List ℕ × Expr)). (shown q.0, (q.1.0, shown q.1.1))) shown (λ q. syntax.walk (walk_kind c.in-Walk.form) q.0 q.1.0 q.1.1) c.both-walk.result c.walk_from.result
    (both (at 0 (read names a)) (both (at 1 (binder_read x)) (at 2 (inside names b)))) c.walk_from.ensures
    (tells-both shown (λ (q : List ℕ × Expr). (q.0, shown q.1)) c.at_index-walked.result c.both-inner.result c.both-walk.result (at 0 (read names a)) (both (at 1 (binder_read x)) (at 2 (inside names b))) c.both-walk.ensures
    (part-at shown read 0 c.read_expr-walked.result c.at_index-walked.result names names a refl c.at_index-walked.ensures c.read_expr-walked.ensures.reads)
    (tells-both (λ (n : List ℕ). n) shown c.at_index-binder.result c.at_index-body.result c.both-inner.result (at 1 (binder_read x)) (at 2 (inside names b)) c.both-inner.ensures
    (tells-lowered (λ (n : List ℕ). n) (decimal 1) c.read_binder-binder.result c.at_index-binder.result (binder_read x) c.at_index-binder.ensures c.read_binder-binder.ensures)
    (part-at shown inside 2 c.read_bound-body.result c.at_index-body.result names c.read_expr-walked.new.scope b c.read_expr-walked.ensures.scope c.at_index-body.ensures c.read_bound-body.ensures.reads)))))

pub read_triple-returns-in-Choice-clause-reads : goal.read_triple-returns-in-Choice-clause-reads
read_triple-returns-in-Choice-clause-reads t c =
    let look = target_of (fields_view c.args.types.now) c.args.targets.now in
    let read = expr_read look c.args.room in
    let names = c.args.scope.now in
    let v = view c.args.value.now in
    let a = view c.in-Some.parts.0.now in
    let x = view c.in-Some.parts.1.now in
    let b = view c.in-Some.parts.2.now in
    let P : Triple → Type 0 = λ form. Tells shown c.choice_from.result (of_parts (triple_in v) (triple_parts read form names)) in
    subst P (sym c.in-Choice.is)
    (tells-parts shown (triple_in v) (a, x, b) (triple_parts read triple.Choice names) c.choice_from.result c.in-Some.ensures
    (tells-made (λ (q : Expr × (Expr × Expr)). (shown q.0, (shown q.1.0, shown q.1.1))) shown (λ q. choice q.0 q.1.0 q.1.1) c.both-choice.result c.choice_from.result
    (both (at 0 (read names a)) (both (at 1 (read names x)) (at 2 (read names b)))) c.choice_from.ensures
    (tells-both shown pair_shown c.at_index-condition.result c.both-branches.result c.both-choice.result (at 0 (read names a)) (both (at 1 (read names x)) (at 2 (read names b))) c.both-choice.ensures
    (part-at shown read 0 c.read_expr-condition.result c.at_index-condition.result names names a refl c.at_index-condition.ensures c.read_expr-condition.ensures.reads)
    (tells-both shown shown c.at_index-left.result c.at_index-right.result c.both-branches.result (at 1 (read names x)) (at 2 (read names b)) c.both-branches.ensures
    (part-at shown read 1 c.read_expr-left.result c.at_index-left.result names c.read_expr-condition.new.scope x c.read_expr-condition.ensures.scope c.at_index-left.ensures c.read_expr-left.ensures.reads)
    (part-at shown read 2 c.read_expr-right.result c.at_index-right.result names c.read_expr-left.new.scope b (c.read_expr-left.ensures.scope ∙ c.read_expr-condition.ensures.scope) c.at_index-right.ensures c.read_expr-right.ensures.reads)))))

pub read_triple-returns-in-Binding-clause-reads : goal.read_triple-returns-in-Binding-clause-reads
read_triple-returns-in-Binding-clause-reads t c =
    let look = target_of (fields_view c.args.types.now) c.args.targets.now in
    let read = expr_read look c.args.room in
    let names = c.args.scope.now in
    let v = view c.args.value.now in
    let x = view c.in-Some.parts.0.now in
    let a = view c.in-Some.parts.1.now in
    let b = view c.in-Some.parts.2.now in
    let inside : Names → Value → Outcome Expression = λ ns w. read (bound ns x) w in
    let P : Triple → Type 0 = λ form. Tells shown c.binding_from.result (of_parts (triple_in v) (triple_parts read form names)) in
    subst P (sym c.in-Binding.is)
    (tells-parts shown (triple_in v) (x, a, b) (triple_parts read triple.Binding names) c.binding_from.result c.in-Some.ensures
    (tells-made (λ (q : List ℕ × (Expr × Expr)). (q.0, (shown q.1.0, shown q.1.1))) shown (λ q. bind q.0 q.1.0 q.1.1) c.both-binding.result c.binding_from.result
    (both (at 0 (binder_read x)) (both (at 1 (read names a)) (at 2 (inside names b)))) c.binding_from.ensures
    (tells-both (λ (n : List ℕ). n) pair_shown c.at_index-name.result c.both-behind.result c.both-binding.result (at 0 (binder_read x)) (both (at 1 (read names a)) (at 2 (inside names b))) c.both-binding.ensures
    (tells-lowered (λ (n : List ℕ). n) (decimal 0) c.read_binder-name.result c.at_index-name.result (binder_read x) c.at_index-name.ensures c.read_binder-name.ensures)
    (tells-both shown shown c.at_index-given.result c.at_index-rest.result c.both-behind.result (at 1 (read names a)) (at 2 (inside names b)) c.both-behind.ensures
    (part-at shown read 1 c.read_expr-given.result c.at_index-given.result names names a refl c.at_index-given.ensures c.read_expr-given.ensures.reads)
    (part-at shown inside 2 c.read_bound-rest.result c.at_index-rest.result names c.read_expr-given.new.scope b c.read_expr-given.ensures.scope c.at_index-rest.ensures c.read_bound-rest.ensures.reads)))))

-- forms that speak of a model

pub read_aim-returns-in_default-clause-reads : goal.read_aim-returns-in_default-clause-reads
read_aim-returns-in_default-clause-reads t c =
    let look = target_of (fields_view c.args.types.now) c.args.targets.now in
    let read = expr_read look c.args.room in
    let k = c.args.field.now.key in
    let v = view c.args.field.now.value in
    tells-same shown c.under.result (under k (here Shape)) (aim_read look read c.args.form c.args.scope.now k v)
    (no_aim look read c.args.form c.args.scope.now k (pair_in v) c.in_default.ensures)
    (tells-lowered shown k (Err c.wrong.result) c.under.result (here Shape) (rw c.text-key.ensures at c.under.ensures) (tells-here shown c.wrong.result Shape (here Shape) c.wrong.ensures refl))

pub read_aim-returns-in-Find-clause-reads : goal.read_aim-returns-in-Find-clause-reads
read_aim-returns-in-Find-clause-reads t c =
    let look = target_of (fields_view c.args.types.now) c.args.targets.now in
    let read = expr_read look c.args.room in
    let names = c.args.scope.now in
    let k = c.args.field.now.key in
    let v = view c.args.field.now.value in
    let m = view c.in-Some.parts.0.now in
    let e = view c.in-Some.parts.1.now in
    let whole = both (at 0 (entry_read look m)) (at 1 (read names e)) in
    let P : Aim → Type 0 = λ form. Tells shown c.find_from.result (aim_read look read form names k v) in
    subst P (sym c.in-Find.is)
    (tells-same shown c.find_from.result _ (aim_read look read aim.Find names k v) (one_aim look read aim.Find names k (pair_in v) (m, e) c.in-Some.ensures)
    (tells-aimed (λ (q : Unit {0} × Expr). shown q.1) (aim_made aim.Find) shown (aim_target look aim.Find (m, e)) c.under-found.result c.find_from.result (under k (made (λ q. q.1) whole))
    (rw (← c.identified_named-identified.ensures) c.find_from.ensures)
    (tells-lowered (λ (q : Unit {0} × Expr). shown q.1) k c.both-found.result c.under-found.result (made (λ q. q.1) whole) (rw c.text-key.ensures at c.under-found.ensures)
    (tells-mapped (λ (q : Unit {0} × Expr). (tt, shown q.1)) (λ q. q.1) c.both-found.result whole
    (tells-both (λ (u : Unit {0}). tt) shown c.at_index-entry.result c.at_index-sought.result c.both-found.result (at 0 (entry_read look m)) (at 1 (read names e)) c.both-found.ensures
    (tells-lowered (λ (u : Unit {0}). tt) (decimal 0) c.read_entry-entry.result c.at_index-entry.result (entry_read look m) c.at_index-entry.ensures c.read_entry-entry.ensures)
    (part-at shown read 1 c.read_expr-sought.result c.at_index-sought.result names names e refl c.at_index-sought.ensures c.read_expr-sought.ensures.reads))))))

pub read_aim-returns-in-Is-clause-reads : goal.read_aim-returns-in-Is-clause-reads
read_aim-returns-in-Is-clause-reads t c =
    let look = target_of (fields_view c.args.types.now) c.args.targets.now in
    let read = expr_read look c.args.room in
    let names = c.args.scope.now in
    let k = c.args.field.now.key in
    let v = view c.args.field.now.value in
    let e = view c.in-Some.parts.0.now in
    let m = view c.in-Some.parts.1.now in
    let whole = both (at 0 (read names e)) (at 1 (entry_read look m)) in
    let P : Aim → Type 0 = λ form. Tells shown c.is_from.result (aim_read look read form names k v) in
    subst P (sym c.in-Is.is)
    (tells-same shown c.is_from.result _ (aim_read look read aim.Is names k v) (one_aim look read aim.Is names k (pair_in v) (e, m) c.in-Some.ensures)
    (tells-aimed (λ (q : Expr × Unit {0}). shown q.0) (aim_made aim.Is) shown (aim_target look aim.Is (e, m)) c.under-told.result c.is_from.result (under k (made (λ q. q.0) whole))
    (rw (← c.model_named-model.ensures) c.is_from.ensures)
    (tells-lowered (λ (q : Expr × Unit {0}). shown q.0) k c.both-told.result c.under-told.result (made (λ q. q.0) whole) (rw c.text-key.ensures at c.under-told.ensures)
    (tells-mapped (λ (q : Expr × Unit {0}). (shown q.0, tt)) (λ q. q.0) c.both-told.result whole
    (tells-both shown (λ (u : Unit {0}). tt) c.at_index-node.result c.at_index-name.result c.both-told.result (at 0 (read names e)) (at 1 (entry_read look m)) c.both-told.ensures
    (part-at shown read 0 c.read_expr-node.result c.at_index-node.result names names e refl c.at_index-node.ensures c.read_expr-node.ensures.reads)
    (tells-lowered (λ (u : Unit {0}). tt) (decimal 1) c.read_entry-name.result c.at_index-name.result (entry_read look m) c.at_index-name.ensures c.read_entry-name.ensures))))))

-- lists

pub read_list-returns-in_default-clause-reads : goal.read_list-returns-in_default-clause-reads
read_list-returns-in_default-clause-reads t c =
    let look = target_of (fields_view c.args.types.now) c.args.targets.now in
    tells-no_parts shown (items_in (view c.args.value.now)) (λ ps. made (λ es. syntax.list (expressions es)) (items_read (expr_read look c.args.room) c.args.scope.now 0 ps)) c.wrong.result c.in_default.ensures c.wrong.ensures

pub read_list-loop-index-init : goal.read_list-loop-index-init
read_list-loop-index-init t c = (reads [], ap (λ es. reads (map shown es)) (sym c.new.ensures), sym (joined-none _), refl)

pub read_list-loop-index-preserved : goal.read_list-loop-index-preserved
read_list-loop-index-preserved t c =
    let look = target_of (fields_view c.args.types.now) c.args.targets.now in
    let read = expr_read look c.args.room in
    let names = c.args.scope.now in
    let items = c.in-Some.items.now in
    let i = c.loop-index.index in
    let v = c.index-items-index.result in
    let so_far = c.loop-index.invariant in
    let one = at i (read names (view v)) in (
      with_last so_far.0 one,
      tells-pushed shown c.loop-index.list c.at_index-part.result c.pushed-longer.result so_far.0 one c.pushed-longer.ensures so_far.1
          (part-at shown read i c.read_expr-part.result c.at_index-part.result names c.loop-index.scope (view v) so_far.3 c.at_index-part.ensures c.read_expr-part.ensures.reads),
      so_far.2 ∙ ap (λ o. joined so_far.0 o) (items-step (items_read read names) (λ i v rest. with_first (at i (read names v)) rest) (λ i v ps. refl) items i v c.loop-index-test.true c.index-items-index.is)
          ∙ joined-first so_far.0 one (items_read read names (i + 1) (items_view (drop (i + 1) items))),
      c.read_expr-part.ensures.scope ∙ so_far.3,
    )

pub read_list-returns-clause-reads : goal.read_list-returns-clause-reads
read_list-returns-clause-reads t c =
    let look = target_of (fields_view c.args.types.now) c.args.targets.now in
    let read = expr_read look c.args.room in
    let names = c.args.scope.now in
    let items = c.in-Some.items.now in
    let i = c.loop-index.index in
    let so_far = c.loop-index.invariant in
    tells-parts shown (items_in (view c.args.value.now)) (items_view items) (λ ps. made (λ es. syntax.list (expressions es)) (items_read read names 0 ps)) c.list_from.result c.in-Some.ensures
    (tells-made (map shown) shown (λ es. syntax.list (expressions es)) c.loop-index.list c.list_from.result (items_read read names 0 (items_view items)) c.list_from.ensures
    (tells-same (map shown) c.loop-index.list so_far.0 (items_read read names 0 (items_view items))
    (so_far.2 ∙ ap (λ o. joined so_far.0 o) (items-end (items_read read names) (λ i v rest. with_first (at i (read names v)) rest) (λ i v ps. refl) items i (omega arith)) ∙ joined-end so_far.0)
    so_far.1))

-- records

pub read_make-returns-in_default-clause-reads : goal.read_make-returns-in_default-clause-reads
read_make-returns-in_default-clause-reads t c =
    let look = target_of (fields_view c.args.types.now) c.args.targets.now in
    tells-no_parts shown (fields_in (view c.args.value.now)) (λ ms. made (λ es. make (members es)) (members_read (expr_read look c.args.room) c.args.scope.now ms)) c.wrong.result c.in_default.ensures c.wrong.ensures

pub read_make-loop-field-init : goal.read_make-loop-field-init
read_make-loop-field-init t c = (reads [], ap (λ es. reads (map entry_shown es)) (sym c.new.ensures), sym (joined-none _), refl)

pub read_make-loop-field-preserved : goal.read_make-loop-field-preserved
read_make-loop-field-preserved t c =
    let look = target_of (fields_view c.args.types.now) c.args.targets.now in
    let read = expr_read look c.args.room in
    let names = c.args.scope.now in
    let fields = c.in-Some.fields.now in
    let i = c.loop-field.field-index in
    let f = c.field-item.result in
    let v = view f.value in
    let so_far = c.loop-field.invariant in
    let one = member_read read names f.key v in (
      with_last so_far.0 one,
      tells-pushed entry_shown c.loop-field.entries c.entry_from-entry.result c.pushed-longer.result so_far.0 one c.pushed-longer.ensures so_far.1
          (tells-made shown entry_shown (λ e. (f.key, e)) c.under-value.result c.entry_from-entry.result (under f.key (read names v)) (rw c.text-key.ensures at c.entry_from-entry.ensures)
          (tells-lowered shown f.key c.read_expr-value.result c.under-value.result (read names v) (rw c.text-key.ensures at c.under-value.ensures)
          (same-names shown read c.read_expr-value.result names c.loop-field.scope v so_far.3 c.read_expr-value.ensures.reads))),
      so_far.2 ∙ ap (λ o. joined so_far.0 o) (fields-step (members_read read names) (λ k v rest. with_first (member_read read names k v) rest) (λ k v ms. refl) fields i f c.loop-field-test.true c.field-item.is)
          ∙ joined-first so_far.0 one (members_read read names (fields_view (drop (i + 1) fields))),
      c.read_expr-value.ensures.scope ∙ so_far.3,
    )

pub read_make-returns-clause-reads : goal.read_make-returns-clause-reads
read_make-returns-clause-reads t c =
    let look = target_of (fields_view c.args.types.now) c.args.targets.now in
    let read = expr_read look c.args.room in
    let names = c.args.scope.now in
    let fields = c.in-Some.fields.now in
    let i = c.loop-field.field-index in
    let so_far = c.loop-field.invariant in
    tells-parts shown (fields_in (view c.args.value.now)) (fields_view fields) (λ ms. made (λ es. make (members es)) (members_read read names ms)) c.make_from.result c.in-Some.ensures
    (tells-made (map entry_shown) shown (λ es. make (members es)) c.loop-field.entries c.make_from.result (members_read read names (fields_view fields)) c.make_from.ensures
    (tells-same (map entry_shown) c.loop-field.entries so_far.0 (members_read read names (fields_view fields))
    (so_far.2 ∙ ap (λ o. joined so_far.0 o) (fields-end (members_read read names) (λ k v rest. with_first (member_read read names k v) rest) (λ k v ms. refl) fields i (omega arith)) ∙ joined-end so_far.0)
    so_far.1))

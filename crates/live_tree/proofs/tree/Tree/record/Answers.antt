use Rattle.std.proofs.Common.{◌≡◌, true, false, ◌∷◌, [], map, sym, ap, ◌∙◌, ◌++◌, arith}
use Rattle.tree_core.specs.State.{mark_of}
use Rattle.live_tree.specs.Contents.{state}
use Rattle.live_tree.proofs.RollingBack.{at_mark}
use Rattle.live_tree.proofs.TakenBack.{kept-more, back-to}
use Rattle.node_core.specs.View.{labelled, edits_of}
use Rattle.edit_core.specs.Logged.{patch_of_logged}
use Rattle.live_tree.proofs.KeptCalls.{kept_by}
use Rattle.live_tree.proofs.tree.Tree.record.Goals as goal

pub invariant_of-self-2 : goal.invariant_of-self-2
invariant_of-self-2 c =
    kept_by c.self.inside.root c.self.inside.next c.self.inside.calls.items c.self.inside.patches c.self.invariant
    c.args.change.value c.args.change.edits c.args.change.next
    (c.requires.undone ∙ sym (ap (λ v. labelled v.root) c.self.view_is)) c.requires.well (omega (arith, c.requires.later, ap (λ v. v.next) c.self.view_is))
    c.replace-before.result c.replace-before.new.dest c.append.new.self.items c.extend.new.self
    c.replace-before.ensures.value c.replace-before.ensures.after
    (ap (λ r. r.items) c.append.ensures ∙ ap (λ cs. cs ++ record { edits = c.args.change.edits; before = c.replace-before.result } ∷ []) c.in_ok-reserve.ensures.items)
    (c.in_ok-extend.ensures.ok ∙ ap (λ ps. c.self.inside.patches ++ ps) (c.in_ok-patches.ensures ∙ ap (λ es. map patch_of_logged (edits_of es)) c.as_slice.ensures))

pub returns-then-is_empty-clause-undone : goal.returns-then-is_empty-clause-undone
returns-then-is_empty-clause-undone c = at_mark (mark_of (state c.args.self.now)) (state c.args.self.now) (omega arith)

pub returns-clause-kept : goal.returns-clause-kept
returns-clause-kept c =
    kept-more c.self.inside.root c.self.inside.next c.self.inside.calls.items c.args.change.value c.args.change.edits c.args.change.next
    c.replace-before.result c.replace-before.new.dest c.append.new.self.items (state c.args.self.now)
    (λ h. let full : c.is_empty.result ≡ true = c.is_empty.ensures.1 h in let none : c.is_empty.result ≡ false = c.if-is_empty.false in cc)
    c.replace-before.ensures.value c.replace-before.ensures.after
    (ap (λ r. r.items) c.append.ensures ∙ ap (λ cs. cs ++ record { edits = c.args.change.edits; before = c.replace-before.result } ∷ []) c.in_ok-reserve.ensures.items)
    (ap state c.self.view_is) c.requires.undone c.requires.later

pub returns-clause-undone : goal.returns-clause-undone
returns-clause-undone c =
    back-to (state c.args.self.now) _
    (kept-more c.self.inside.root c.self.inside.next c.self.inside.calls.items c.args.change.value c.args.change.edits c.args.change.next
    c.replace-before.result c.replace-before.new.dest c.append.new.self.items (state c.args.self.now)
    (λ h. let full : c.is_empty.result ≡ true = c.is_empty.ensures.1 h in let none : c.is_empty.result ≡ false = c.if-is_empty.false in cc)
    c.replace-before.ensures.value c.replace-before.ensures.after
    (ap (λ r. r.items) c.append.ensures ∙ ap (λ cs. cs ++ record { edits = c.args.change.edits; before = c.replace-before.result } ∷ []) c.in_ok-reserve.ensures.items)
    (ap state c.self.view_is) c.requires.undone c.requires.later)

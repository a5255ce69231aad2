-- Each form gives a plain answer, in the order of the definition; and so do views that are asked.
use Rattle.std.proofs.Common.{ℕ, zero, suc, List, [], ◌∷◌, ◌++◌, Bool, true, false, Option, Some, None, if◌then◌else◌}
use Rattle.std.specs.Prelude.{IfSome, codes}
use Rattle.std.specs.Str.{bytes_eq}
use Rattle.snap_core.specs.Value.{null, boolean, IsPlain}
use Rattle.snap_core.specs.declared.number.NodeNo.{NodeNo}
use Rattle.pointer_core.specs.declared.refusal.Rule.{Rule}
use Rattle.expr_syntax.specs.declared.number.ViewNo.{ViewNo}
use Rattle.expr_syntax.specs.Syntax.{Expression, Expressions, Members, Telling, collect, keys, items, snapshot, path, constant, variable, own, get, ref, one_sided, two_sided, telling, walk, both, either, choice, bind, list, make, find, is, no_more, more, no_members, member}
use Rattle.eval_core.specs.declared.site.Site.{Site}
use Rattle.eval_core.specs.Answer.{Answer, plain, several, no_answers, answer}
use Rattle.eval_core.specs.Sight.{Sight, Being}
use Rattle.eval_core.specs.Run.{Eval, andthen}
use Rattle.eval_core.specs.Scope.{Scope, Viewing, Env, bound_in}
use Rattle.eval_core.specs.Reading.{keys_got, path_got}
use Rattle.eval_core.specs.Walking.{start}
use Rattle.eval_core.specs.Making.{record_made}
use Rattle.eval_core.specs.Evaluating.{counted, truth, truth_of, bound_answer, told, evaluated, all_evaluated, members_evaluated}
use Rattle.eval_core.specs.Asking.{Asked, Stack, in_progress, site_of, first_asked, unless_cycle, unless_dead, bound_at, asked, most_views, frame_scope}
use Rattle.plain_answers.specs.Plainness.{IsPlainAnswer, ArePlainAnswers, IsPlainEnv, IsPlainSight, HasPlainConstants, HavePlainConstants, MembersHavePlainConstants, HasPlainBodies}
use Rattle.plain_answers.specs.Laws.{GivePlainAnswers}
use Rattle.plain_answers.proofs.Giving.{Gives, given, refusing_at, judging, going_on, after, choosing, entering}
use Rattle.plain_answers.proofs.Untested.{IsUntested, plain-untested, before_test, counting}
use Rattle.plain_answers.proofs.Readings
use Rattle.plain_answers.proofs.Readings.{IsPlainScope, Plainly, Untestedly, plainly, none, getting, referring, owning, operating, finding, being_model}
use Rattle.plain_answers.proofs.Walks.{ArePlainItems, walking, walking_over, started}
use Rattle.plain_answers.proofs.Makings.{ArePlainMade, making, snapping}

-- what is plain is counted
counted_plain : (s : Scope) (e : Eval Answer) → Plainly e → Plainly (counted s e)
counted_plain s e h = counting s e (before_test e h)

-- an answer, and then a plain one
going_on_plain : (e : Eval Answer) (next : Answer → Eval Answer) → Plainly e → ((x : Answer) → IsPlainAnswer x → Plainly (next x)) → Plainly (andthen e next)
going_on_plain e next h k = going_on IsPlainAnswer IsPlainAnswer e next h k

true_of : (s : Scope) (e : Eval Answer) → Plainly (truth_of s e)
true_of s e = after IsPlainAnswer _ _ (λ x. after IsPlainAnswer _ _ (λ b. plainly (boolean b) tt))

-- one of two evaluations, by a truth
by_truth : (s : Scope) (x : Answer) (e f : Eval Answer) → Plainly e → Plainly f → Plainly (andthen (truth s x) (λ t. if t then e else f))
by_truth s x e f h k = after IsPlainAnswer _ _ (λ t. choosing IsPlainAnswer t e f h k)

bound-plain : (x : List ℕ) (env : Env) → IsPlainEnv env → IfSome (bound_in x env) IsPlainAnswer
bound-plain x [] fine = tt
bound-plain x (b ∷ bs) fine = by_test (bytes_eq x b.0) (bound-plain x bs fine.1)
  where
    by_test : (c : Bool) → IfSome (bound_in x bs) IsPlainAnswer → IfSome (if c then Some b.1 else bound_in x bs) IsPlainAnswer
    by_test true later = fine.0
    by_test false later = later

binding : (s : Scope) (o : Option Answer) → IfSome o IsPlainAnswer → Plainly (bound_answer s o)
binding s (Some x) fine = given IsPlainAnswer x fine
binding s None fine = none s Rule.Kind

telling_of : (s : Scope) → IsPlainScope s → (t : Telling) (x : Answer) → IsPlainAnswer x → Untestedly (told s t x)
telling_of s h keys x fine = before_test (keys_got s x) (Readings.keys s h x)
telling_of s h items x fine =
    going_on ArePlainItems IsUntested _ _ (walking s h x fine)
    (λ is in_them. walking_over s collect _ is (start collect) (λ y good. given IsPlainAnswer y good) in_them tt)
telling_of s h snapshot x fine = going_on IsPlain IsUntested _ _ (snapping s h x fine) (λ v good. given IsUntested (plain v) (plain-untested v good))
telling_of s h path x fine = before_test (path_got s x) (Readings.path s x)

mutual
  evaluating : (s : Scope) → IsPlainScope s → (e : Expression) → HasPlainConstants e → (env : Env) → IsPlainEnv env → Plainly (evaluated s e env)
  evaluating s h (constant v) c env fine = counted_plain s _ (plainly v c)
  evaluating s h (variable x) c env fine = counted_plain s _ (binding s (bound_in x env) (bound-plain x env fine))
  evaluating s h (own p) c env fine = counted_plain s _ (owning s h p (bound_in (codes "self") env) (bound-plain (codes "self") env fine))
  evaluating s h (get e p) c env fine = counted_plain s _ (going_on_plain _ _ (evaluating s h e c env fine) (λ x good. getting s h p x good))
  evaluating s h (ref e p) c env fine = counting s _ (going_on IsPlainAnswer IsUntested _ _ (evaluating s h e c env fine) (λ x good. referring s p x))
  evaluating s h (one_sided op e) c env fine =
      counting s _ (going_on IsPlainAnswer IsUntested _ _ (evaluating s h e c env fine) (λ x good. operating s h op x (plain null) good))
  evaluating s h (two_sided op a b) c env fine =
      counting s _ (going_on IsPlainAnswer IsUntested _ _ (evaluating s h a c.0 env fine) (λ x good.
      going_on IsPlainAnswer IsUntested _ _ (evaluating s h b c.1 env fine) (λ y also. operating s h op x y good)))
  evaluating s h (telling t e) c env fine =
      counting s _ (going_on IsPlainAnswer IsUntested _ _ (evaluating s h e c env fine) (λ x good. telling_of s h t x good))
  evaluating s h (walk w e x b) c env fine =
      counting s _ (going_on IsPlainAnswer IsUntested _ _ (evaluating s h e c.0 env fine) (λ y good.
      going_on ArePlainItems IsUntested _ _ (walking s h y good) (λ is in_them.
      walking_over s w _ is (start w) (λ z item. evaluating s h b c.1 ((x, z) ∷ env) (item, fine)) in_them (started w))))
  evaluating s h (both a b) c env fine =
      counted_plain s _ (going_on_plain _ _ (evaluating s h a c.0 env fine) (λ x good. by_truth s x _ _ (true_of s _) (plainly (boolean false) tt)))
  evaluating s h (either a b) c env fine =
      counted_plain s _ (going_on_plain _ _ (evaluating s h a c.0 env fine) (λ x good. by_truth s x _ _ (plainly (boolean true) tt) (true_of s _)))
  evaluating s h (choice t a b) c env fine =
      counted_plain s _ (going_on_plain _ _ (evaluating s h t c.0 env fine) (λ x good.
      by_truth s x _ _ (evaluating s h a c.1 env fine) (evaluating s h b c.2 env fine)))
  evaluating s h (bind x e b) c env fine =
      counted_plain s _ (going_on_plain _ _ (evaluating s h e c.0 env fine) (λ y good. evaluating s h b c.1 ((x, y) ∷ env) (good, fine)))
  evaluating s h (list es) c env fine =
      counted_plain s _ (going_on ArePlainAnswers IsPlainAnswer _ _ (evaluating_all s h es c env fine) (λ xs good. given IsPlainAnswer (several xs) good))
  evaluating s h (make ms) c env fine =
      counted_plain s _ (going_on ArePlainMade IsPlainAnswer _ _ (evaluating_members s h ms c env fine)
      (λ xs good. judging IsPlainAnswer s (record_made s.sight xs) (making s.sight h.seen xs good)))
  evaluating s h (find m e) c env fine = counted_plain s _ (going_on_plain _ _ (evaluating s h e c env fine) (λ x good. finding s m x))
  evaluating s h (is e m) c env fine = counted_plain s _ (going_on_plain _ _ (evaluating s h e c env fine) (λ x good. being_model s m x))

  evaluating_all : (s : Scope) → IsPlainScope s → (es : Expressions) → HavePlainConstants es → (env : Env) → IsPlainEnv env → Gives ArePlainAnswers (all_evaluated s es env)
  evaluating_all s h no_more c env fine = given ArePlainAnswers no_answers tt
  evaluating_all s h (more e es) c env fine =
      going_on IsPlainAnswer ArePlainAnswers _ _ (evaluating s h e c.0 env fine) (λ x good.
      going_on ArePlainAnswers ArePlainAnswers _ _ (evaluating_all s h es c.1 env fine) (λ xs also. given ArePlainAnswers (answer x xs) (good, also)))

  evaluating_members : (s : Scope) → IsPlainScope s → (ms : Members) → MembersHavePlainConstants ms → (env : Env) → IsPlainEnv env
      → Gives ArePlainMade (members_evaluated s ms env)
  evaluating_members s h no_members c env fine = given ArePlainMade [] tt
  evaluating_members s h (member k e ms) c env fine =
      going_on IsPlainAnswer ArePlainMade _ _ (evaluating s h e c.0 env fine) (λ x good.
      going_on ArePlainMade ArePlainMade _ _ (evaluating_members s h ms c.1 env fine) (λ xs also. given ArePlainMade ((k, x) ∷ xs) (good, also)))

-- a view that is asked
unless_plain : (q : Asked) (being : Option Being) (going : Bool) (e : Eval Answer) → Plainly e → Plainly (unless_dead being (unless_cycle q going e))
unless_plain q None going e h = refusing_at IsPlainAnswer Site.Frame Rule.Dead
unless_plain q (Some being) true e h = refusing_at IsPlainAnswer (site_of q) Rule.Cycle
unless_plain q (Some being) false e h = h

asked-plain : (viewing : Viewing) (sight : Sight) → HasPlainBodies viewing → IsPlainSight sight → (room : ℕ) (stack : Stack) (n : NodeNo) (v : ViewNo)
    → Plainly (asked viewing sight room stack n v)
asked-plain viewing sight bodies seen zero stack n v =
    let q : Asked = record { node = n; view = v } in
    unless_plain q (sight.being n) (in_progress q stack) _ (refusing_at IsPlainAnswer (site_of (first_asked stack q)) Rule.Deep)
asked-plain viewing sight bodies seen (suc room) stack n v =
    let q : Asked = record { node = n; view = v } in
    let s : Scope = record { viewing = viewing; sight = sight; ask = asked viewing sight room (stack ++ q ∷ []); here = site_of q } in
    unless_plain q (sight.being n) (in_progress q stack) _
    (entering IsPlainAnswer n v _
    (evaluating s (record { seen = seen; asking = asked-plain viewing sight bodies seen room (stack ++ q ∷ []) }) (viewing.body_of v) (bodies v) (bound_at sight n) (tt, (tt, tt))))

pub answers-plain : (viewing : Viewing) (sight : Sight) → HasPlainBodies viewing → IsPlainSight sight → GivePlainAnswers viewing sight
answers-plain viewing sight bodies seen = record {
  views = λ room stack n v before. asked-plain viewing sight bodies seen room stack n v before;
  expressions = λ e env before constants fine.
      evaluating (frame_scope viewing sight) (record { seen = seen; asking = asked-plain viewing sight bodies seen most_views [] }) e constants env fine before;
}

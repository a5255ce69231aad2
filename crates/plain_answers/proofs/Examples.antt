-- What is evaluated where a premise fails, and what the test of a result leaves out.
use Rattle.std.proofs.Common.{◌≡◌, [], ◌∷◌, Some, None, Result, Ok, Err, pos, refl}
use Rattle.std.specs.Prelude.{codes}
use Rattle.snap_core.specs.Value.{Value, null, integer, list, dict, IsPlain, no_parts, part, no_members, member}
use Rattle.snap_core.specs.declared.ident.Ident.{Ident}
use Rattle.pointer_core.specs.declared.refusal.Rule.{Rule}
use Rattle.edit_core.specs.declared.kind.Kind.TheVariants.{Model}
use Rattle.expr_syntax.specs.Syntax.{Expression, telling, snapshot, constant, variable, get}
use Rattle.expr_syntax.specs.Syntax as syntax
use Rattle.eval_core.specs.declared.site.Site.{Site}
use Rattle.eval_core.specs.Answer.{Answer, plain, node}
use Rattle.eval_core.specs.Sight.{Sight, holds}
use Rattle.eval_core.specs.Run.{Fault, lift, looks, counts, joined, ended, andthen}
use Rattle.eval_core.specs.Scope.{Viewing, property}
use Rattle.eval_core.specs.Evaluating.{evaluated}
use Rattle.eval_core.specs.Asking.{frame_scope}

-- one more than the greatest whole number, alone and in a list
abbrev wide : Value
wide = integer (pos 9007199254740992)

abbrev wide_list : Value
wide_list = list tt (part wide no_parts)

abbrev late_keys : Value
late_keys = dict tt (member (codes "b") null (member (codes "a") null no_members))

-- one node, whose identifier, properties and snapshot are as given, and which holds nothing else
abbrev viewing : Viewing
viewing = record { member_of = λ m p. Some property; body_of = λ v. constant null }

abbrev sight : Sight
sight = record {
  root = record { 0 = 0 };
  being = λ n. Some (record { kind = Model (record { 0 = 0 }); identifier = Some (Ident.Number (pos 9007199254740992)) });
  prop = λ n p. Some (holds wide_list);
  level = λ n. [];
  place = λ n. [];
  whole = λ n. late_keys;
  known = λ m i. None;
}

abbrev value : Expression → Result Answer Fault
value e = (evaluated (frame_scope viewing sight) e ((codes "n", node (record { 0 = 0 })) ∷ []) 0).outcome

abbrev the_node : Expression
the_node = variable (codes "n")

wide-not-plain : IsPlain wide_list → ⊥
wide-not-plain h = cc

late-not-plain : IsPlain late_keys → ⊥
late-not-plain h = cc

-- a wide integer is refused as a result, and not within one
constant-refused : value (constant wide) ≡ Err (record { rule = Rule.Range; site = Site.Frame })
unfolding lift looks counts joined ended andthen
constant-refused = refl

constant-taken : value (constant wide_list) ≡ Ok (plain wide_list)
unfolding lift looks counts joined ended andthen
constant-taken = refl

constant-late : value (constant late_keys) ≡ Ok (plain late_keys)
unfolding lift looks counts joined ended andthen
constant-late = refl

-- so it is with a property, a snapshot, and an identifier in a record that is made
property-taken : value (get the_node (codes "p")) ≡ Ok (plain wide_list)
unfolding lift looks counts joined ended andthen
property-taken = refl

snapshot-taken : value (telling snapshot the_node) ≡ Ok (plain late_keys)
unfolding lift looks counts joined ended andthen
snapshot-taken = refl

identifier-taken : value (syntax.Expression.make (syntax.Members.member (codes "a") the_node syntax.Members.no_members)) ≡ Ok (plain (dict tt (member (codes "a") wide no_members)))
unfolding lift looks counts joined ended andthen
identifier-taken = refl

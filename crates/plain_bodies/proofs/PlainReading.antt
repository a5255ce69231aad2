-- An expression that is read of a value whose keys are in order has plain constants.
use Rattle.std.proofs.Common.{◌≡◌, ℕ, zero, suc, ◌+◌, List, Bool, true, false, Option, Some, None, refl, subst}
use Rattle.std.specs.Prelude.{ℤ, IfSome, IsTrue, option_and_then}
use Rattle.snap_core.specs.Value.{Value, null, boolean, integer, text, list, dict, no_parts, part, no_members, member, is_whole, Items, Fields, IsPlain, ArePlain, ArePlainMembers, IsOrdered, AreOrdered, AreOrderedMembers}
use Rattle.snap_core.specs.declared.number.ModelNo.{ModelNo}
use Rattle.pointer_core.specs.declared.schema_rule.SchemaRule.TheVariants.{Shape}
use Rattle.expr_syntax.specs.Syntax.{Expression}
use Rattle.expr_syntax.specs.Shown.{expressions, members}
use Rattle.plain_answers.specs.Plainness.{HasPlainConstants, HavePlainConstants, MembersHavePlainConstants}
use Rattle.expr_form.specs.declared.keys.Key.{Key}
use Rattle.expr_form.specs.declared.keys.Key.TheVariants as key
use Rattle.expr_form.specs.declared.keys.Group.{Group}
use Rattle.expr_form.specs.declared.keys.Group.TheVariants as group
use Rattle.expr_form.specs.declared.keys.Aim.{Aim}
use Rattle.expr_form.specs.declared.keys.Aim.TheVariants as aim
use Rattle.expr_form.specs.declared.keys.Pair.{Pair}
use Rattle.expr_form.specs.declared.keys.Pair.TheVariants as pair
use Rattle.expr_form.specs.declared.keys.Triple.{Triple}
use Rattle.expr_form.specs.declared.keys.Triple.TheVariants as triple
use Rattle.expr_form.specs.declared.keys.Leaf.{Leaf}
use Rattle.expr_form.specs.declared.keys.Leaf.TheVariants as leaf
use Rattle.expr_form.specs.declared.keys.One.{One}
use Rattle.expr_form.specs.declared.keys.One.TheVariants as one
use Rattle.expr_form.specs.declared.keys.Two.{Two}
use Rattle.expr_form.specs.declared.keys.Two.TheVariants as two
use Rattle.expr_form.specs.declared.keys.Named.{Named}
use Rattle.expr_form.specs.declared.keys.Named.TheVariants as named
use Rattle.expr_form.specs.declared.keys.Walk.{Walk}
use Rattle.expr_form.specs.Outcome.{Outcome, wrong, astray, reads, if_so, at}
use Rattle.expr_form.specs.Keys.{key_of}
use Rattle.expr_form.specs.Texts.{pair_in, triple_in, items_in, fields_in}
use Rattle.expr_form.specs.Names.{name_read, variable_read, binder_read, bound}
use Rattle.expr_form.specs.Models.{Lookup, entry_read}
use Rattle.expr_form.specs.Numbers
use Rattle.expr_form.specs.Numbers.{numbers_read}
use Rattle.expr_form.specs.Expressions.{Names, Reader, one_made, two_made, named_made, leaf_read, two_parts, named_parts, pair_parts, walk_parts, choice_parts, binding_parts, triple_parts, items_read, members_read, aimed, aim_made, aim_target, aim_parts, aim_read, group_read, Formed, keyed_read, known, own_form, formed_read, expr_read, most_open, expression_read}
use Rattle.plain_bodies.proofs.Outcomes.{IfReads, Anything, anyhow, made-fine, both-fine, under-fine, at-fine, of_parts-fine, then-fine, behind-fine, weaken}

-- a value in order is plain where its numbers are read
whole-fine : {A : Type 0} (b : Bool) (a : A) → IfReads (if_so b Shape a) (λ u. IsTrue b)
whole-fine true a = refl
whole-fine false a = tt

mutual
  numbers-plain : (v : Value) → IsOrdered v → IfReads (numbers_read v) (λ u. IsPlain v)
  numbers-plain null ordered = tt
  numbers-plain (boolean b) ordered = tt
  numbers-plain (integer z) ordered = whole-fine (is_whole z) tt
  numbers-plain (text s) ordered = tt
  numbers-plain (list a ps) ordered = items-plain 0 ps ordered
  numbers-plain (dict a ms) ordered = fields-plain ms ordered

  items-plain : (i : ℕ) (ps : Items) → AreOrdered ps → IfReads (Numbers.items_read i ps) (λ u. ArePlain ps)
  items-plain i no_parts ordered = tt
  items-plain i (part v ps) ordered =
      behind-fine (IsPlain v) (λ u. IsPlain v × ArePlain ps) _ _ (at-fine (λ u. IsPlain v) i (numbers_read v) (numbers-plain v ordered.0))
      (λ one. weaken (λ u. ArePlain ps) (λ u. IsPlain v × ArePlain ps) _ (λ u all. (one, all)) (items-plain (i + 1) ps ordered.1))

  fields-plain : (ms : Fields) → AreOrderedMembers ms → IfReads (Numbers.members_read ms) (λ u. ArePlainMembers ms)
  fields-plain no_members ordered = tt
  fields-plain (member k v ms) ordered =
      behind-fine (IsPlain v) (λ u. ArePlainMembers (member k v ms)) _ _ (under-fine (λ u. IsPlain v) k (numbers_read v) (numbers-plain v ordered.0))
      (λ one. weaken (λ u. ArePlainMembers ms) (λ u. ArePlainMembers (member k v ms)) _ (λ u all. (one, ordered.1, all)) (fields-plain ms ordered.2))

-- what is read of a part in order has plain constants
abbrev Fine : Outcome Expression → Type 0
Fine o = IfReads o HasPlainConstants

abbrev pub ReadsFine : Reader → Type 0
ReadsFine read = (names : Names) (v : Value) → IsOrdered v → Fine (read names v)

-- leaves
leaf-fine : (names : Names) (form : Leaf) (v : Value) → IsOrdered v → Fine (leaf_read names form v)
leaf-fine names leaf.Const v ordered =
    made-fine (λ u. IsPlain v) HasPlainConstants (λ u. Expression.constant v) (numbers_read v) (λ u plain_v. plain_v) (numbers-plain v ordered)
leaf-fine names leaf.Var v ordered = made-fine Anything HasPlainConstants Expression.variable (variable_read names v) (λ x any. tt) (anyhow (variable_read names v))
leaf-fine names leaf.Own v ordered = made-fine Anything HasPlainConstants Expression.own (name_read v) (λ x any. tt) (anyhow (name_read v))

one-fine : (form : One) (e : Expression) → HasPlainConstants e → HasPlainConstants (one_made form e)
one-fine one.Size e h = h
one-fine one.Keys e h = h
one-fine one.Items e h = h
one-fine one.Text e h = h
one-fine one.Not e h = h
one-fine one.Snapshot e h = h
one-fine one.Path e h = h

two-fine : (form : Two) (a b : Expression) → HasPlainConstants a × HasPlainConstants b → HasPlainConstants (two_made form a b)
two-fine two.Item a b h = h
two-fine two.Has a b h = h
two-fine two.Add a b h = h
two-fine two.Sub a b h = h
two-fine two.Mul a b h = h
two-fine two.Div a b h = h
two-fine two.Mod a b h = h
two-fine two.Concat a b h = h
two-fine two.Eq a b h = h
two-fine two.Lt a b h = h
two-fine two.And a b h = h
two-fine two.Or a b h = h

named-fine : (form : Named) (e : Expression) (p : List ℕ) → HasPlainConstants e → HasPlainConstants (named_made form e p)
named-fine named.Get e p h = h
named-fine named.Ref e p h = h

-- the parts of a value in order
abbrev pub BothOrdered : Value × Value → Type 0
BothOrdered p = IsOrdered p.0 × IsOrdered p.1

abbrev pub AllOrdered : Value × Value × Value → Type 0
AllOrdered p = IsOrdered p.0 × IsOrdered p.1 × IsOrdered p.2

pub pair-ordered : (v : Value) → IsOrdered v → IfSome (pair_in v) BothOrdered
pair-ordered (list a (part v (part w no_parts))) ordered = (ordered.0, ordered.1.0)
pair-ordered _ ordered = tt

pub triple-ordered : (v : Value) → IsOrdered v → IfSome (triple_in v) AllOrdered
triple-ordered (list a (part u (part v (part w no_parts)))) ordered = (ordered.0, ordered.1.0, ordered.1.1.0)
triple-ordered _ ordered = tt

pub items-ordered : (v : Value) → IsOrdered v → IfSome (items_in v) AreOrdered
items-ordered (list a ps) ordered = ordered
items-ordered _ ordered = tt

pub fields-ordered : (v : Value) → IsOrdered v → IfSome (fields_in v) AreOrderedMembers
fields-ordered (dict a ms) ordered = ordered
fields-ordered _ ordered = tt

-- forms of two parts
two_parts-fine : (read : Reader) → ReadsFine read → (form : Two) (names : Names) (p : Value × Value) → BothOrdered p → Fine (two_parts read form names p)
two_parts-fine read h form names p ordered =
    made-fine (λ q. HasPlainConstants q.0 × HasPlainConstants q.1) HasPlainConstants _ _ (λ q fine. two-fine form q.0 q.1 fine)
    (both-fine HasPlainConstants HasPlainConstants _ _ (at-fine HasPlainConstants 0 _ (h names p.0 ordered.0)) (at-fine HasPlainConstants 1 _ (h names p.1 ordered.1)))

named_parts-fine : (read : Reader) → ReadsFine read → (form : Named) (names : Names) (p : Value × Value) → BothOrdered p → Fine (named_parts read form names p)
named_parts-fine read h form names p ordered =
    made-fine (λ q. HasPlainConstants q.0 × Anything q.1) HasPlainConstants _ _ (λ q fine. named-fine form q.0 q.1 fine.0)
    (both-fine HasPlainConstants Anything _ _ (at-fine HasPlainConstants 0 _ (h names p.0 ordered.0)) (anyhow (at 1 (name_read p.1))))

pair_parts-fine : (read : Reader) → ReadsFine read → (form : Pair) (names : Names) (p : Value × Value) → BothOrdered p → Fine (pair_parts read form names p)
pair_parts-fine read h (pair.Two form) names p ordered = two_parts-fine read h form names p ordered
pair_parts-fine read h (pair.Named form) names p ordered = named_parts-fine read h form names p ordered

-- forms of three parts
walk_parts-fine : (read : Reader) → ReadsFine read → (form : Walk) (names : Names) (p : Value × Value × Value) → AllOrdered p → Fine (walk_parts read form names p)
walk_parts-fine read h form names p ordered =
    made-fine (λ q. HasPlainConstants q.0 × (Anything q.1.0 × HasPlainConstants q.1.1)) HasPlainConstants _ _ (λ q fine. (fine.0, fine.1.1))
    (both-fine HasPlainConstants (λ q. Anything q.0 × HasPlainConstants q.1) _ _ (at-fine HasPlainConstants 0 _ (h names p.0 ordered.0))
    (both-fine Anything HasPlainConstants _ _ (anyhow (at 1 (binder_read p.1))) (at-fine HasPlainConstants 2 _ (h (bound names p.1) p.2 ordered.2))))

choice_parts-fine : (read : Reader) → ReadsFine read → (names : Names) (p : Value × Value × Value) → AllOrdered p → Fine (choice_parts read names p)
choice_parts-fine read h names p ordered =
    made-fine (λ q. HasPlainConstants q.0 × (HasPlainConstants q.1.0 × HasPlainConstants q.1.1)) HasPlainConstants _ _ (λ q fine. (fine.0, fine.1.0, fine.1.1))
    (both-fine HasPlainConstants (λ q. HasPlainConstants q.0 × HasPlainConstants q.1) _ _ (at-fine HasPlainConstants 0 _ (h names p.0 ordered.0))
    (both-fine HasPlainConstants HasPlainConstants _ _ (at-fine HasPlainConstants 1 _ (h names p.1 ordered.1)) (at-fine HasPlainConstants 2 _ (h names p.2 ordered.2))))

binding_parts-fine : (read : Reader) → ReadsFine read → (names : Names) (p : Value × Value × Value) → AllOrdered p → Fine (binding_parts read names p)
binding_parts-fine read h names p ordered =
    made-fine (λ q. Anything q.0 × (HasPlainConstants q.1.0 × HasPlainConstants q.1.1)) HasPlainConstants _ _ (λ q fine. fine.1)
    (both-fine Anything (λ q. HasPlainConstants q.0 × HasPlainConstants q.1) _ _ (anyhow (at 0 (binder_read p.0)))
    (both-fine HasPlainConstants HasPlainConstants _ _ (at-fine HasPlainConstants 1 _ (h names p.1 ordered.1)) (at-fine HasPlainConstants 2 _ (h (bound names p.0) p.2 ordered.2))))

triple_parts-fine : (read : Reader) → ReadsFine read → (form : Triple) (names : Names) (p : Value × Value × Value) → AllOrdered p → Fine (triple_parts read form names p)
triple_parts-fine read h (triple.Walk form) names p ordered = walk_parts-fine read h form names p ordered
triple_parts-fine read h triple.Choice names p ordered = choice_parts-fine read h names p ordered
triple_parts-fine read h triple.Binding names p ordered = binding_parts-fine read h names p ordered

-- lists, and records that are made
abbrev pub AllHave : List Expression → Type 0
AllHave es = HavePlainConstants (expressions es)

abbrev MembersHave : List (List ℕ × Expression) → Type 0
MembersHave es = MembersHavePlainConstants (members es)

pub items-fine : (read : Reader) → ReadsFine read → (names : Names) (i : ℕ) (ps : Items) → AreOrdered ps → IfReads (items_read read names i ps) AllHave
items-fine read h names i no_parts ordered = tt
items-fine read h names i (part v ps) ordered =
    made-fine (λ q. HasPlainConstants q.0 × AllHave q.1) AllHave _ _ (λ q fine. fine)
    (both-fine HasPlainConstants AllHave _ _ (at-fine HasPlainConstants i _ (h names v ordered.0)) (items-fine read h names (i + 1) ps ordered.1))

members-fine : (read : Reader) → ReadsFine read → (names : Names) (ms : Fields) → AreOrderedMembers ms → IfReads (members_read read names ms) MembersHave
members-fine read h names no_members ordered = tt
members-fine read h names (member k v ms) ordered =
    made-fine (λ q. HasPlainConstants q.0.1 × MembersHave q.1) MembersHave _ _ (λ q fine. fine)
    (both-fine (λ m. HasPlainConstants m.1) MembersHave _ _
    (made-fine HasPlainConstants (λ m. HasPlainConstants m.1) (λ e. (k, e)) _ (λ e fine. fine) (under-fine HasPlainConstants k _ (h names v ordered.0)))
    (members-fine read h names ms ordered.2))

group-fine : (read : Reader) → ReadsFine read → (form : Group) → ReadsFine (group_read read form)
group-fine read h (group.Leaf form) names v ordered = leaf-fine names form v ordered
group-fine read h (group.One form) names v ordered = made-fine HasPlainConstants HasPlainConstants (one_made form) _ (λ e fine. one-fine form e fine) (h names v ordered)
group-fine read h (group.Pair form) names v ordered =
    of_parts-fine BothOrdered HasPlainConstants (pair_in v) _ (pair-ordered v ordered) (λ p fine. pair_parts-fine read h form names p fine)
group-fine read h (group.Triple form) names v ordered =
    of_parts-fine AllOrdered HasPlainConstants (triple_in v) _ (triple-ordered v ordered) (λ p fine. triple_parts-fine read h form names p fine)
group-fine read h group.List names v ordered =
    of_parts-fine AreOrdered HasPlainConstants (items_in v) _ (items-ordered v ordered)
    (λ ps fine. made-fine AllHave HasPlainConstants _ _ (λ es all. all) (items-fine read h names 0 ps fine))
group-fine read h group.Make names v ordered =
    of_parts-fine AreOrderedMembers HasPlainConstants (fields_in v) _ (fields-ordered v ordered)
    (λ ms fine. made-fine MembersHave HasPlainConstants _ _ (λ es all. all) (members-fine read h names ms fine))

-- forms that speak of a model
aimed-fine : (form : Aim) (target : Option ModelNo) (o : Outcome Expression) → Fine o → Fine (aimed (aim_made form) target o)
unfolding aimed
aimed-fine form target (wrong f) h = tt
aimed-fine form None (astray place) h = tt
aimed-fine form None (reads e) h = tt
aimed-fine form (Some m) (astray place) h = tt
aimed-fine aim.Find (Some m) (reads e) h = h
aimed-fine aim.Is (Some m) (reads e) h = h

aim_parts-fine : (lookup : Lookup) (read : Reader) → ReadsFine read → (form : Aim) (names : Names) (p : Value × Value) → BothOrdered p
    → Fine (aim_parts lookup read form (names, p.0, p.1))
aim_parts-fine lookup read h aim.Find names p ordered =
    made-fine (λ q. Anything q.0 × HasPlainConstants q.1) HasPlainConstants _ _ (λ q fine. fine.1)
    (both-fine Anything HasPlainConstants _ _ (anyhow (at 0 (entry_read lookup p.0))) (at-fine HasPlainConstants 1 _ (h names p.1 ordered.1)))
aim_parts-fine lookup read h aim.Is names p ordered =
    made-fine (λ q. HasPlainConstants q.0 × Anything q.1) HasPlainConstants _ _ (λ q fine. fine.0)
    (both-fine HasPlainConstants Anything _ _ (at-fine HasPlainConstants 0 _ (h names p.0 ordered.0)) (anyhow (at 1 (entry_read lookup p.1))))

aim-fine : (lookup : Lookup) (read : Reader) → ReadsFine read → (form : Aim) (names : Names) (k : List ℕ) (v : Value) → IsOrdered v
    → Fine (aim_read lookup read form names k v)
aim-fine lookup read h form names k v ordered =
    aimed-fine form (option_and_then (aim_target lookup form) (pair_in v)) _
    (under-fine HasPlainConstants k _
    (of_parts-fine BothOrdered HasPlainConstants (pair_in v) _ (pair-ordered v ordered) (λ p fine. aim_parts-fine lookup read h form names p fine)))

-- a value's own form: its part is in order; a scalar that stands for itself is plain
abbrev FineForm : Value → Option Formed → Type 0
FineForm v None = IsPlain v
FineForm v (Some formed) = IsOrdered formed.2

known-fine : (w : Value) (k : List ℕ) (v : Value) (o : Option Key) → IsOrdered v → IfReads (known k v o) (FineForm w)
known-fine w k v (Some form) ordered = ordered
known-fine w k v None ordered = tt

integer-fine : (z : ℤ) → IfReads (own_form (integer z)) (FineForm (integer z))
integer-fine z = by_test (is_whole z) (λ h. h)
  where
    by_test : (b : Bool) → (IsTrue b → FineForm (integer z) None) → IfReads (if_so b Shape None) (FineForm (integer z))
    by_test true h = h refl
    by_test false h = tt

form-fine : (v : Value) → IsOrdered v → IfReads (own_form v) (FineForm v)
form-fine (dict a (member k v no_members)) ordered = known-fine (dict a (member k v no_members)) k v (key_of k) ordered.0
form-fine (dict a no_members) ordered = tt
form-fine (dict a (member k v (member l w ms))) ordered = tt
form-fine (list a ps) ordered = tt
form-fine (integer z) ordered = integer-fine z
form-fine null ordered = tt
form-fine (boolean b) ordered = tt
form-fine (text s) ordered = tt

keyed-fine : (lookup : Lookup) (read : Reader) → ReadsFine read → (names : Names) (formed : Formed) → IsOrdered formed.2 → Fine (keyed_read lookup read names formed)
keyed-fine lookup read h names (key.Aim form, k, v) ordered = aim-fine lookup read h form names k v ordered
keyed-fine lookup read h names (key.Group form, k, v) ordered = under-fine HasPlainConstants k _ (group-fine read h form names v ordered)

formed-fine : (lookup : Lookup) (read : Reader) → ReadsFine read → (names : Names) (v : Value) (o : Option Formed) → FineForm v o → Fine (formed_read lookup read names v o)
formed-fine lookup read h names v None fine = fine
formed-fine lookup read h names v (Some formed) fine = keyed-fine lookup read h names formed fine

-- with room for so many open expressions
pub reader-fine : (lookup : Lookup) (room : ℕ) → ReadsFine (expr_read lookup room)
unfolding expr_read
reader-fine lookup zero names v ordered = then-fine (FineForm v) HasPlainConstants (own_form v) _ (form-fine v ordered) (λ formed fine. tt)
reader-fine lookup (suc room) names v ordered =
    then-fine (FineForm v) HasPlainConstants (own_form v) _ (form-fine v ordered)
    (λ formed fine. formed-fine lookup (expr_read lookup room) (reader-fine lookup room) names v formed fine)

pub expressions-plain : (lookup : Lookup) (names : Names) (v : Value) (e : Expression) → IsOrdered v → expression_read lookup names v ≡ reads e → HasPlainConstants e
expressions-plain lookup names v e ordered h = subst Fine h (reader-fine lookup most_open names v ordered)

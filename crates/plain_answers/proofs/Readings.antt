-- What forms read of nodes is plain where what is seen is.
use Rattle.std.proofs.Common.{ℕ, zero, suc, List, [], ◌∷◌, length, Bool, true, false, Option, Some, None, if◌then◌else◌}
use Rattle.std.specs.Prelude.{IfSome, pos, is_some}
use Rattle.std.specs.Str.{bytes_eq}
use Rattle.snap_core.specs.Value.{Value, null, boolean, integer, text, dict, IsPlain, value_at, keys_of}
use Rattle.snap_core.specs.declared.number.ModelNo.{ModelNo}
use Rattle.snap_core.specs.declared.number.NodeNo.{NodeNo}
use Rattle.snap_core.specs.declared.ident.Ident.{Ident}
use Rattle.snap_core.proofs.PlainLevels.{IsPlain-value_at}
use Rattle.pointer_core.specs.declared.refusal.Rule.{Rule}
use Rattle.pointer_core.specs.Path.{printed}
use Rattle.edit_core.specs.declared.kind.Kind.{Kind}
use Rattle.edit_core.specs.declared.kind.Kind.TheVariants.{Model, Array, Map}
use Rattle.expr_syntax.specs.declared.number.ViewNo.{ViewNo}
use Rattle.expr_syntax.specs.declared.op.Op.{Op}
use Rattle.expr_syntax.specs.declared.op.Op.TheVariants.{Item, Has, Size}
use Rattle.plain_ops.specs.Applied.{index_in}
use Rattle.eval_core.specs.declared.cell.Cell.{Cell}
use Rattle.eval_core.specs.declared.site.Site.{Site}
use Rattle.eval_core.specs.Answer.{Answer, plain, node, several}
use Rattle.eval_core.specs.Sight.{Link, Held, holds, stands, refers, Entry}
use Rattle.eval_core.specs.Run.{Eval}
use Rattle.eval_core.specs.Scope.{Scope, Member, property, view, gives, refused}
use Rattle.eval_core.specs.Operating.{operated_on}
use Rattle.eval_core.specs.Reading.{ident_value, reached, referred, held_answer, prop_answer, prop_identifier, of_member, of_reference, got_of_kind, ref_of_kind, got, ref_got, own_got, entry_answer, entry_at, entry_index, entry_under, of_level, item_of_kind, has_of_kind, size_of_kind, operate, texts, tokens, keys_of_kind, keys_got, path_got, node_or_null, known_got, find_got, is_got}
use Rattle.plain_answers.specs.Plainness.{IsPlainAnswer, ArePlainAnswers, IsPlainHeld, IsPlainLevel, IsPlainSight}
use Rattle.plain_answers.proofs.Giving.{Gives, given, refusing_at, refusing, judging, looking, going_on, after, choosing, by_kind}
use Rattle.plain_answers.proofs.Untested.{IsUntested, before_test}
use Rattle.plain_answers.proofs.Operators.{value_or_null, operating_on}

-- what is seen is plain, and views that are asked answer plain values
pub record IsPlainScope (s : Scope) : Type 0 where
  pub seen : IsPlainSight s.sight
  pub asking : (n : NodeNo) (v : ViewNo) → Gives IsPlainAnswer (s.ask n v)

abbrev pub Plainly : Eval Answer → Type 0
Plainly e = Gives IsPlainAnswer e

abbrev pub Untestedly : Eval Answer → Type 0
Untestedly e = Gives IsUntested e

pub plainly : (v : Value) → IsPlain v → Plainly (gives (plain v))
plainly v h = given IsPlainAnswer (plain v) h

pub none : (s : Scope) (rule : Rule) → Plainly (refused s rule)
none s rule = refusing IsPlainAnswer s rule

no_test : (s : Scope) (rule : Rule) → Untestedly (refused s rule)
no_test s rule = refusing IsUntested s rule

-- what is held
reaching : (site : Site) (link : Link) (found : Option NodeNo) → Plainly (reached site link found)
reaching site link (Some n) = given IsPlainAnswer (node n) tt
reaching site link None = choosing IsPlainAnswer link.safe _ _ (plainly null tt) (refusing_at IsPlainAnswer site Rule.Reference)

refers_on : (s : Scope) (site : Site) (link : Link) (i : Option Ident) → Plainly (referred s site link i)
refers_on s site link None = plainly null tt
refers_on s site link (Some i) = after IsPlainAnswer _ _ (λ found. reaching site link found)

pub held : (s : Scope) (site : Site) (h : Held) → IsPlainHeld h → Plainly (held_answer s site h)
held s site (holds v) fine = plainly v fine
held s site (stands n) fine = given IsPlainAnswer (node n) tt
held s site (refers link) fine = refers_on s site link link.identifier

-- properties and views
prop_held : (s : Scope) (n : NodeNo) (p : List ℕ) (h : Option Held) → IfSome h IsPlainHeld → Plainly (prop_answer s n p h)
prop_held s n p (Some h) fine = held s (Site.Entry n p) h fine
prop_held s n p None fine = none s Rule.Kind

ident-untested : (i : Option Ident) → IsUntested (plain (ident_value i))
ident-untested None = tt
ident-untested (Some (Ident.Text t)) = tt
ident-untested (Some (Ident.Number z)) = tt

prop_ident : (s : Scope) (h : Option Held) → Untestedly (prop_identifier s h)
prop_ident s None = no_test s Rule.Kind
prop_ident s (Some (holds v)) = no_test s Rule.Kind
prop_ident s (Some (stands n)) = no_test s Rule.Kind
prop_ident s (Some (refers link)) = given IsUntested _ (ident-untested link.identifier)

member_got : (s : Scope) → IsPlainScope s → (n : NodeNo) (p : List ℕ) (m : Option Member) → Plainly (of_member s n p m)
member_got s h n p (Some property) =
    going_on (λ o. IfSome o IsPlainHeld) IsPlainAnswer _ _ (looking (λ o. IfSome o IsPlainHeld) (Cell.Prop n p) (s.sight.prop n p) (h.seen.props n p))
    (λ o fine. prop_held s n p o fine)
member_got s h n p (Some (view v)) = h.asking n v
member_got s h n p None = none s Rule.Kind

member_ref : (s : Scope) (n : NodeNo) (p : List ℕ) (m : Option Member) → Untestedly (of_reference s n p m)
member_ref s n p (Some property) = after IsUntested _ _ (λ o. prop_ident s o)
member_ref s n p (Some (view v)) = no_test s Rule.Kind
member_ref s n p None = no_test s Rule.Kind

kind_got : (s : Scope) → IsPlainScope s → (n : NodeNo) (p : List ℕ) (kind : Kind) → Plainly (got_of_kind s n p kind)
kind_got s h n p (Model m) = member_got s h n p (s.viewing.member_of m p)
kind_got s h n p (Array t) = none s Rule.Kind
kind_got s h n p (Map t) = none s Rule.Kind

kind_ref : (s : Scope) (n : NodeNo) (p : List ℕ) (kind : Kind) → Untestedly (ref_of_kind s n p kind)
kind_ref s n p (Model m) = member_ref s n p (s.viewing.member_of m p)
kind_ref s n p (Array t) = no_test s Rule.Kind
kind_ref s n p (Map t) = no_test s Rule.Kind

pub getting : (s : Scope) → IsPlainScope s → (p : List ℕ) (x : Answer) → IsPlainAnswer x → Plainly (got s p x)
getting s h p (node n) fine = by_kind IsPlainAnswer s (s.sight.being n) _ (λ kind. kind_got s h n p kind)
getting s h p (plain (dict a ms)) fine = plainly _ (value_or_null (value_at p ms) (λ v e. IsPlain-value_at p ms v fine e))
getting s h p _ fine = none s Rule.Kind

pub referring : (s : Scope) (p : List ℕ) (x : Answer) → Untestedly (ref_got s p x)
referring s p (node n) = by_kind IsUntested s (s.sight.being n) _ (λ kind. kind_ref s n p kind)
referring s p (plain v) = no_test s Rule.Kind
referring s p (several xs) = no_test s Rule.Kind

pub owning : (s : Scope) → IsPlainScope s → (p : List ℕ) (x : Option Answer) → IfSome x IsPlainAnswer → Plainly (own_got s p x)
owning s h p (Some x) fine = getting s h p x fine
owning s h p None fine = none s Rule.Kind

-- items and entries
abbrev IsPlainEntry : Entry → Type 0
IsPlainEntry e = IsPlainHeld e.held

at_index : (n : ℕ) (es : List Entry) → IsPlainLevel es → IfSome (entry_at n es) IsPlainEntry
at_index n [] fine = tt
at_index zero (e ∷ es) fine = fine.0
at_index (suc n) (e ∷ es) fine = at_index n es fine.1

under_index : (i : Option ℕ) (es : List Entry) → IsPlainLevel es → IfSome (entry_index i es) IsPlainEntry
under_index (Some n) es fine = at_index n es fine
under_index None es fine = tt

under_key : (key : List ℕ) (es : List Entry) → IsPlainLevel es → IfSome (entry_under key es) IsPlainEntry
under_key key [] fine = tt
under_key key (e ∷ es) fine = by_test (bytes_eq key e.token) (under_key key es fine.1)
  where
    by_test : (b : Bool) → IfSome (entry_under key es) IsPlainEntry → IfSome (if b then Some e else entry_under key es) IsPlainEntry
    by_test true later = fine.0
    by_test false later = later

entry_held : (s : Scope) (n : NodeNo) (otherwise : Eval Answer) (o : Option Entry) → Plainly otherwise → IfSome o IsPlainEntry → Plainly (entry_answer s n otherwise o)
entry_held s n otherwise (Some e) other fine = held s (Site.Entry n e.token) e.held fine
entry_held s n otherwise None other fine = other

pub level_held : {A : Type 0} (P : A → Type 0) (s : Scope) → IsPlainScope s → (n : NodeNo) (use_level : List Entry → Eval A)
    → ((es : List Entry) → IsPlainLevel es → Gives P (use_level es)) → Gives P (of_level s n use_level)
level_held P s h n use_level k = going_on IsPlainLevel P _ _ (looking IsPlainLevel (Cell.Shape n) (s.sight.level n) (h.seen.levels n)) k

item_kind : (s : Scope) → IsPlainScope s → (n : NodeNo) (k : Answer) (kind : Kind) → Plainly (item_of_kind s n k kind)
item_kind s h n (plain (integer z)) (Array t) =
    level_held IsPlainAnswer s h n _ (λ es fine. entry_held s n _ (entry_index (index_in z) es) (none s Rule.Index) (under_index (index_in z) es fine))
item_kind s h n (plain (text key)) (Map t) =
    level_held IsPlainAnswer s h n _ (λ es fine. entry_held s n _ (entry_under key es) (plainly null tt) (under_key key es fine))
item_kind s h n k kind = none s Rule.Kind

has_kind : (s : Scope) → IsPlainScope s → (n : NodeNo) (k : Answer) (kind : Kind) → Plainly (has_of_kind s n k kind)
has_kind s h n (plain (text key)) (Map t) = level_held IsPlainAnswer s h n _ (λ es fine. plainly (boolean (is_some (entry_under key es))) tt)
has_kind s h n k kind = none s Rule.Kind

size_kind : (s : Scope) → IsPlainScope s → (n : NodeNo) (kind : Kind) → Untestedly (size_of_kind s n kind)
size_kind s h n (Model m) = no_test s Rule.Kind
size_kind s h n (Array t) = level_held IsUntested s h n _ (λ es fine. given IsUntested (plain (integer (pos (length es)))) tt)
size_kind s h n (Map t) = level_held IsUntested s h n _ (λ es fine. given IsUntested (plain (integer (pos (length es)))) tt)

pub operating : (s : Scope) → IsPlainScope s → (op : Op) (x y : Answer) → IsPlainAnswer x → Untestedly (operate s op x y)
operating s h Item (node n) k fine = before_test (operate s Item (node n) k) (by_kind IsPlainAnswer s (s.sight.being n) _ (λ kind. item_kind s h n k kind))
operating s h Has (node n) k fine = before_test (operate s Has (node n) k) (by_kind IsPlainAnswer s (s.sight.being n) _ (λ kind. has_kind s h n k kind))
operating s h Size (node n) y fine = by_kind IsUntested s (s.sight.being n) _ (λ kind. size_kind s h n kind)
operating s h op x y fine = judging IsUntested s (operated_on op x y) (operating_on op x y fine)

-- keys, paths, identifiers and models
texts-plain : (ts : List (List ℕ)) → ArePlainAnswers (texts ts)
texts-plain [] = tt
texts-plain (t ∷ ts) = (tt, texts-plain ts)

texts_given : (ts : List (List ℕ)) → Plainly (gives (several (texts ts)))
texts_given ts = given IsPlainAnswer (several (texts ts)) (texts-plain ts)

keys_kind : (s : Scope) → IsPlainScope s → (n : NodeNo) (kind : Kind) → Plainly (keys_of_kind s n kind)
keys_kind s h n (Map t) = level_held IsPlainAnswer s h n _ (λ es fine. texts_given (tokens es))
keys_kind s h n (Model m) = none s Rule.Kind
keys_kind s h n (Array t) = none s Rule.Kind

pub keys : (s : Scope) → IsPlainScope s → (x : Answer) → Plainly (keys_got s x)
keys s h (node n) = by_kind IsPlainAnswer s (s.sight.being n) _ (λ kind. keys_kind s h n kind)
keys s h (plain (dict a ms)) = texts_given (keys_of ms)
keys s h _ = none s Rule.Kind

pub path : (s : Scope) (x : Answer) → Plainly (path_got s x)
path s (node n) =
    by_kind IsPlainAnswer s (s.sight.being n) _ (λ kind. after IsPlainAnswer _ _ (λ place. plainly (text (printed place)) tt))
path s (plain v) = none s Rule.Kind
path s (several xs) = none s Rule.Kind

found : (o : Option NodeNo) → IsPlainAnswer (node_or_null o)
found (Some n) = tt
found None = tt

knowing : (s : Scope) (m : ModelNo) (i : Ident) → Plainly (known_got s m i)
knowing s m i = after IsPlainAnswer _ _ (λ o. given IsPlainAnswer (node_or_null o) (found o))

pub finding : (s : Scope) (m : ModelNo) (x : Answer) → Plainly (find_got s m x)
finding s m (plain (text t)) = knowing s m (Ident.Text t)
finding s m (plain (integer z)) = knowing s m (Ident.Number z)
finding s m _ = none s Rule.Kind

pub being_model : (s : Scope) (m : ModelNo) (x : Answer) → Plainly (is_got s m x)
being_model s m (node n) = by_kind IsPlainAnswer s (s.sight.being n) _ (λ kind. plainly _ tt)
being_model s m (plain v) = plainly (boolean false) tt
being_model s m (several xs) = plainly (boolean false) tt

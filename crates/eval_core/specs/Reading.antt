-- What forms read of nodes.
use Rattle.std.specs.Prelude.{ℕ, zero, suc, pos, List, [], ◌∷◌, length, map, Bool, false, nat_eq, is_some, Option, Some, None, unwrap_or, if◌then◌else◌}
use Rattle.std.specs.Str.{bytes_eq}
use Rattle.snap_core.specs.Value.{Value, null, boolean, integer, text, dict, value_at, keys_of}
use Rattle.snap_core.specs.declared.number.ModelNo.{ModelNo}
use Rattle.snap_core.specs.declared.number.NodeNo.{NodeNo}
use Rattle.snap_core.specs.declared.ident.Ident.{Ident}
use Rattle.pointer_core.specs.declared.refusal.Rule.{Rule}
use Rattle.pointer_core.specs.Path.{printed}
use Rattle.edit_core.specs.declared.kind.Kind.{Kind}
use Rattle.edit_core.specs.declared.kind.Kind.TheVariants.{Model, Array, Map}
use Rattle.expr_syntax.specs.declared.op.Op.{Op}
use Rattle.expr_syntax.specs.declared.op.Op.TheVariants.{Item, Has, Size}
use Rattle.plain_ops.specs.Applied.{index_in}
use Rattle.eval_core.specs.declared.cell.Cell.{Cell}
use Rattle.eval_core.specs.declared.site.Site.{Site}
use Rattle.eval_core.specs.Answer.{Answer, AnswerList, plain, node, several, no_answers, answer}
use Rattle.eval_core.specs.Sight.{Being, Link, Held, holds, stands, refers, Entry}
use Rattle.eval_core.specs.Run.{Eval, looks, andthen}
use Rattle.eval_core.specs.Scope.{Member, property, view, Scope, gives, refused, refused_at, judged}
use Rattle.eval_core.specs.Operating.{operated_on}

abbrev pub ident_value : Option Ident → Value
ident_value None = null
ident_value (Some (Ident.Text t)) = text t
ident_value (Some (Ident.Number z)) = integer z

-- something of a live node, by its kind
abbrev pub of_kind : {A : Type 0} → Scope → Option Being → (Kind → Eval A) → Eval A
of_kind s None use_kind = refused s Rule.Dead
of_kind s (Some being) use_kind = use_kind being.kind

-- the target of a reference; null where a safe reference has none
abbrev pub reached : Site → Link → Option NodeNo → Eval Answer
reached site link (Some n) = gives (node n)
reached site link None = if link.safe then gives (plain null) else refused_at site Rule.Reference

abbrev pub referred : Scope → Site → Link → Option Ident → Eval Answer
referred s site link None = gives (plain null)
referred s site link (Some i) = andthen (looks (Cell.Known link.model i) (s.sight.known link.model i)) (reached site link)

-- what is held at a site: a value, a node, or a reference's target
abbrev pub held_answer : Scope → Site → Held → Eval Answer
held_answer s site (holds v) = gives (plain v)
held_answer s site (stands n) = gives (node n)
held_answer s site (refers link) = referred s site link link.identifier

-- a property of a model, and the identifier in a reference property
abbrev pub prop_answer : Scope → NodeNo → List ℕ → Option Held → Eval Answer
prop_answer s n p (Some held) = held_answer s (Site.Entry n p) held
prop_answer s n p None = refused s Rule.Kind

abbrev pub prop_identifier : Scope → Option Held → Eval Answer
prop_identifier s (Some (refers link)) = gives (plain (ident_value link.identifier))
prop_identifier s held = refused s Rule.Kind

abbrev pub of_prop : Scope → NodeNo → List ℕ → (Option Held → Eval Answer) → Eval Answer
of_prop s n p use_held = andthen (looks (Cell.Prop n p) (s.sight.prop n p)) use_held

-- a property, or the answer of a view
abbrev pub of_member : Scope → NodeNo → List ℕ → Option Member → Eval Answer
of_member s n p (Some property) = of_prop s n p (prop_answer s n p)
of_member s n p (Some (view v)) = s.ask n v
of_member s n p None = refused s Rule.Kind

abbrev pub of_reference : Scope → NodeNo → List ℕ → Option Member → Eval Answer
of_reference s n p (Some property) = of_prop s n p (prop_identifier s)
of_reference s n p member = refused s Rule.Kind

abbrev pub got_of_kind : Scope → NodeNo → List ℕ → Kind → Eval Answer
got_of_kind s n p (Model m) = of_member s n p (s.viewing.member_of m p)
got_of_kind s n p kind = refused s Rule.Kind

abbrev pub ref_of_kind : Scope → NodeNo → List ℕ → Kind → Eval Answer
ref_of_kind s n p (Model m) = of_reference s n p (s.viewing.member_of m p)
ref_of_kind s n p kind = refused s Rule.Kind

-- a property or a view of a model; a field of a plain record, null where there is none
abbrev pub got : Scope → List ℕ → Answer → Eval Answer
got s p (node n) = of_kind s (s.sight.being n) (got_of_kind s n p)
got s p (plain (dict a ms)) = gives (plain (unwrap_or (value_at p ms) null))
got s p x = refused s Rule.Kind

-- the identifier that a reference property holds, resolved or not
abbrev pub ref_got : Scope → List ℕ → Answer → Eval Answer
ref_got s p (node n) = of_kind s (s.sight.being n) (ref_of_kind s n p)
ref_got s p x = refused s Rule.Kind

-- `own`: a property or a view of `self`
abbrev pub own_got : Scope → List ℕ → Option Answer → Eval Answer
own_got s p (Some self) = got s p self
own_got s p None = refused s Rule.Kind

-- an item or an entry of a node, if it is there
abbrev pub entry_answer : Scope → NodeNo → Eval Answer → Option Entry → Eval Answer
entry_answer s n otherwise (Some e) = held_answer s (Site.Entry n e.token) e.held
entry_answer s n otherwise None = otherwise

abbrev pub entry_at : ℕ → List Entry → Option Entry
entry_at n [] = None
entry_at zero (e ∷ es) = Some e
entry_at (suc n) (e ∷ es) = entry_at n es

abbrev pub entry_index : Option ℕ → List Entry → Option Entry
entry_index (Some n) es = entry_at n es
entry_index None es = None

abbrev pub entry_under : List ℕ → List Entry → Option Entry
entry_under key [] = None
entry_under key (e ∷ es) = if bytes_eq key e.token then Some e else entry_under key es

-- what is made of the items of an array, or of the entries of a map
abbrev pub of_level : {A : Type 0} → Scope → NodeNo → (List Entry → Eval A) → Eval A
of_level s n use_level = andthen (looks (Cell.Shape n) (s.sight.level n)) use_level

abbrev pub item_of_kind : Scope → NodeNo → Answer → Kind → Eval Answer
item_of_kind s n (plain (integer z)) (Array t) = of_level s n (λ es. entry_answer s n (refused s Rule.Index) (entry_index (index_in z) es))
item_of_kind s n (plain (text key)) (Map t) = of_level s n (λ es. entry_answer s n (gives (plain null)) (entry_under key es))
item_of_kind s n k kind = refused s Rule.Kind

abbrev pub has_of_kind : Scope → NodeNo → Answer → Kind → Eval Answer
has_of_kind s n (plain (text key)) (Map t) = of_level s n (λ es. gives (plain (boolean (is_some (entry_under key es)))))
has_of_kind s n k kind = refused s Rule.Kind

abbrev pub size_of_kind : Scope → NodeNo → Kind → Eval Answer
size_of_kind s n (Model m) = refused s Rule.Kind
size_of_kind s n kind = of_level s n (λ es. gives (plain (integer (pos (length es)))))

-- an operator on answers
abbrev pub operate : Scope → Op → Answer → Answer → Eval Answer
operate s Item (node n) k = of_kind s (s.sight.being n) (item_of_kind s n k)
operate s Has (node n) k = of_kind s (s.sight.being n) (has_of_kind s n k)
operate s Size (node n) y = of_kind s (s.sight.being n) (size_of_kind s n)
operate s op x y = judged s (operated_on op x y)

abbrev pub texts : List (List ℕ) → AnswerList
texts [] = no_answers
texts (t ∷ ts) = answer (plain (text t)) (texts ts)

abbrev pub tokens : List Entry → List (List ℕ)
tokens es = map (λ e. e.token) es

abbrev pub keys_of_kind : Scope → NodeNo → Kind → Eval Answer
keys_of_kind s n (Map t) = of_level s n (λ es. gives (several (texts (tokens es))))
keys_of_kind s n kind = refused s Rule.Kind

-- the keys of a map or of a plain record, ascending
abbrev pub keys_got : Scope → Answer → Eval Answer
keys_got s (node n) = of_kind s (s.sight.being n) (keys_of_kind s n)
keys_got s (plain (dict a ms)) = gives (several (texts (keys_of ms)))
keys_got s x = refused s Rule.Kind

-- the pointer text of a node
abbrev pub path_got : Scope → Answer → Eval Answer
path_got s (node n) = of_kind s (s.sight.being n) (λ kind. andthen (looks (Cell.Place n) (s.sight.place n)) (λ path. gives (plain (text (printed path)))))
path_got s x = refused s Rule.Kind

-- a node of a model, by its identifier
abbrev pub node_or_null : Option NodeNo → Answer
node_or_null (Some n) = node n
node_or_null None = plain null

abbrev pub known_got : Scope → ModelNo → Ident → Eval Answer
known_got s m i = andthen (looks (Cell.Known m i) (s.sight.known m i)) (λ found. gives (node_or_null found))

abbrev pub find_got : Scope → ModelNo → Answer → Eval Answer
find_got s m (plain (text t)) = known_got s m (Ident.Text t)
find_got s m (plain (integer z)) = known_got s m (Ident.Number z)
find_got s m x = refused s Rule.Kind

abbrev pub is_model : ModelNo → Kind → Bool
is_model m (Model k) = nat_eq m.0 k.0
is_model m kind = false

-- whether it is a node of a model
abbrev pub is_got : Scope → ModelNo → Answer → Eval Answer
is_got s m (node n) = of_kind s (s.sight.being n) (λ kind. gives (plain (boolean (is_model m kind))))
is_got s m x = gives (plain (boolean false))

-- What forms read of nodes keeps the relation.
use Rattle.std.proofs.Common.{◌≡◌, ℕ, zero, suc, List, [], ◌∷◌, length, Bool, true, false, Option, Some, None, if◌then◌else◌, refl, subst}
use Rattle.std.specs.Prelude.{unwrap_or, pos, is_some}
use Rattle.std.specs.Str.{bytes_eq}
use Rattle.snap_core.specs.Value.{Value, null, boolean, integer, text, dict, value_at, keys_of}
use Rattle.snap_core.specs.declared.number.ModelNo.{ModelNo}
use Rattle.snap_core.specs.declared.number.NodeNo.{NodeNo}
use Rattle.snap_core.specs.declared.ident.Ident.{Ident}
use Rattle.pointer_core.specs.Path.{Path, printed}
use Rattle.pointer_core.specs.declared.refusal.Rule.{Rule}
use Rattle.edit_core.specs.declared.kind.Kind.{Kind}
use Rattle.edit_core.specs.declared.kind.Kind.TheVariants.{Model, Array, Map}
use Rattle.plain_ops.specs.Applied.{index_in}
use Rattle.eval_core.specs.declared.site.Site.{Site}
use Rattle.eval_core.specs.Answer.{Answer, plain, node, several}
use Rattle.eval_core.specs.Sight.{Link, Held, holds, stands, refers, Entry}
use Rattle.eval_core.specs.Run.{Eval}
use Rattle.eval_core.specs.Scope.{Member, property, view, gives, refused}
use Rattle.eval_core.specs.Reading
use Rattle.eval_core.specs.Reading.{reached, referred, held_answer, prop_answer, prop_identifier, of_prop, of_member, of_reference, got_of_kind, ref_of_kind, got, ref_got, own_got, entry_answer, entry_at, entry_index, entry_under, of_level, item_of_kind, has_of_kind, size_of_kind, texts, tokens, keys_of_kind, keys_got, path_got, node_or_null, known_got, find_got, is_got, ident_value}
use Rattle.eval_core.specs.Pairing.{Pairing, left_scope, right_scope, InAnswer, InAnswers, InHeld, InProp, InLevel, InFound, Anything}
use Rattle.eval_core.proofs.Steps
use Rattle.eval_core.proofs.Steps.{given, refusing, choosing, kinds}

-- a plain answer, and a refusal of the body itself
pub plainly : (p : Pairing) (v : Value) → Steps.ArePaired p (gives (plain v)) (gives (plain v))
plainly p v = given p Answer (InAnswer p.Good) (plain v) tt

pub none : (p : Pairing) (rule : Rule) → Steps.ArePaired p (refused (left_scope p) rule) (refused (right_scope p) rule)
none p rule = refusing p Answer (InAnswer p.Good) p.here rule

-- what is held
reaches : (p : Pairing) (site : Site) (link : Link) (found : Option NodeNo) → InFound p.Good found → Steps.ArePaired p (reached site link found) (reached site link found)
reaches p site link (Some n) good = given p Answer (InAnswer p.Good) (node n) good
reaches p site link None good = choosing p Answer (InAnswer p.Good) link.safe _ _ _ _ (plainly p null) (refusing p Answer (InAnswer p.Good) site Rule.Reference)

refers_on : (p : Pairing) (site : Site) (link : Link) (i : Option Ident) → Steps.ArePaired p (referred (left_scope p) site link i) (referred (right_scope p) site link i)
refers_on p site link None = plainly p null
refers_on p site link (Some i) =
    p.thens (Option NodeNo) Answer (InFound p.Good) (InAnswer p.Good) _ _ _ _ (p.knowns link.model i) (λ found good. reaches p site link found good)

pub held : (p : Pairing) (site : Site) (h : Held) → InHeld p.Good h → Steps.ArePaired p (held_answer (left_scope p) site h) (held_answer (right_scope p) site h)
held p site (holds v) good = plainly p v
held p site (stands n) good = given p Answer (InAnswer p.Good) (node n) good
held p site (refers link) good = refers_on p site link link.identifier

-- properties and views
prop_held : (p : Pairing) (n : NodeNo) (name : List ℕ) (h : Option Held) → InProp p.Good h
    → Steps.ArePaired p (prop_answer (left_scope p) n name h) (prop_answer (right_scope p) n name h)
prop_held p n name (Some h) good = held p (Site.Entry n name) h good
prop_held p n name None good = none p Rule.Kind

prop_ident : (p : Pairing) (h : Option Held) → Steps.ArePaired p (prop_identifier (left_scope p) h) (prop_identifier (right_scope p) h)
prop_ident p None = none p Rule.Kind
prop_ident p (Some (holds v)) = none p Rule.Kind
prop_ident p (Some (stands n)) = none p Rule.Kind
prop_ident p (Some (refers link)) = plainly p (ident_value link.identifier)

from_prop : (p : Pairing) (n : NodeNo) (name : List ℕ) (u v : Option Held → Eval Answer) → p.Good n
    → ((h : Option Held) → InProp p.Good h → Steps.ArePaired p (u h) (v h)) → Steps.ArePaired p (of_prop (left_scope p) n name u) (of_prop (right_scope p) n name v)
from_prop p n name u v good k = p.thens (Option Held) Answer (InProp p.Good) (InAnswer p.Good) _ _ u v (p.props n name good) k

member_got : (p : Pairing) (n : NodeNo) (name : List ℕ) (m : Option Member) → p.Good n → Steps.ArePaired p (of_member (left_scope p) n name m) (of_member (right_scope p) n name m)
member_got p n name (Some property) good = from_prop p n name _ _ good (λ h in_it. prop_held p n name h in_it)
member_got p n name (Some (view v)) good = p.asks n v good
member_got p n name None good = none p Rule.Kind

member_ref : (p : Pairing) (n : NodeNo) (name : List ℕ) (m : Option Member) → p.Good n
    → Steps.ArePaired p (of_reference (left_scope p) n name m) (of_reference (right_scope p) n name m)
member_ref p n name (Some property) good = from_prop p n name _ _ good (λ h in_it. prop_ident p h)
member_ref p n name (Some (view v)) good = none p Rule.Kind
member_ref p n name None good = none p Rule.Kind

kind_got : (p : Pairing) (n : NodeNo) (name : List ℕ) (kind : Kind) → p.Good n → Steps.ArePaired p (got_of_kind (left_scope p) n name kind) (got_of_kind (right_scope p) n name kind)
kind_got p n name (Model m) good = member_got p n name (p.viewing.member_of m name) good
kind_got p n name (Array t) good = none p Rule.Kind
kind_got p n name (Map t) good = none p Rule.Kind

kind_ref : (p : Pairing) (n : NodeNo) (name : List ℕ) (kind : Kind) → p.Good n → Steps.ArePaired p (ref_of_kind (left_scope p) n name kind) (ref_of_kind (right_scope p) n name kind)
kind_ref p n name (Model m) good = member_ref p n name (p.viewing.member_of m name) good
kind_ref p n name (Array t) good = none p Rule.Kind
kind_ref p n name (Map t) good = none p Rule.Kind

-- of a live node, by its kind
pub of_node : (p : Pairing) (n : NodeNo) (u v : Kind → Eval Answer) → p.Good n → ((kind : Kind) → Steps.ArePaired p (u kind) (v kind))
    → Steps.ArePaired p (Reading.of_kind (left_scope p) (p.left.being n) u) (Reading.of_kind (right_scope p) (p.right.being n) v)
of_node p n u v good h = kinds p Answer (InAnswer p.Good) n u v good h

pub getting : (p : Pairing) (name : List ℕ) (x : Answer) → InAnswer p.Good x → Steps.ArePaired p (got (left_scope p) name x) (got (right_scope p) name x)
getting p name (node n) good = of_node p n _ _ good (λ kind. kind_got p n name kind good)
getting p name (plain (dict a ms)) good = plainly p (unwrap_or (value_at name ms) null)
getting p name _ good = none p Rule.Kind

pub referring : (p : Pairing) (name : List ℕ) (x : Answer) → InAnswer p.Good x → Steps.ArePaired p (ref_got (left_scope p) name x) (ref_got (right_scope p) name x)
referring p name (node n) good = of_node p n _ _ good (λ kind. kind_ref p n name kind good)
referring p name (plain v) good = none p Rule.Kind
referring p name (several xs) good = none p Rule.Kind

pub owning : (p : Pairing) (name : List ℕ) (x : Option Answer) → ((y : Answer) → x ≡ Some y → InAnswer p.Good y)
    → Steps.ArePaired p (own_got (left_scope p) name x) (own_got (right_scope p) name x)
owning p name (Some x) good = getting p name x (good x refl)
owning p name None good = none p Rule.Kind

-- items and entries
at_good : (Good : NodeNo → Type 0) (n : ℕ) (es : List Entry) → InLevel Good es → (e : Entry) → entry_at n es ≡ Some e → InHeld Good e.held
at_good Good n [] good e h = cc
at_good Good zero (d ∷ es) good e h = let same : d ≡ e = cc in let Family : Entry → Type 0 = λ x. InHeld Good x.held in subst Family same good.0
at_good Good (suc n) (d ∷ es) good e h = at_good Good n es good.1 e h

index_good : (Good : NodeNo → Type 0) (i : Option ℕ) (es : List Entry) → InLevel Good es → (e : Entry) → entry_index i es ≡ Some e → InHeld Good e.held
index_good Good (Some n) es good e h = at_good Good n es good e h
index_good Good None es good e h = cc

under_good : (Good : NodeNo → Type 0) (key : List ℕ) (es : List Entry) → InLevel Good es → (e : Entry) → entry_under key es ≡ Some e → InHeld Good e.held
under_good Good key [] good e h = cc
under_good Good key (d ∷ es) good e h = by_test (bytes_eq key d.token) (λ g. under_good Good key es good.1 e g) h
  where
    by_test : (b : Bool) → (entry_under key es ≡ Some e → InHeld Good e.held) → (if b then Some d else entry_under key es) ≡ Some e → InHeld Good e.held
    by_test true further g = let same : d ≡ e = cc in let Family : Entry → Type 0 = λ x. InHeld Good x.held in subst Family same good.0
    by_test false further g = further g

entry_held : (p : Pairing) (n : NodeNo) (u v : Eval Answer) (o : Option Entry) → Steps.ArePaired p u v → ((e : Entry) → o ≡ Some e → InHeld p.Good e.held)
    → Steps.ArePaired p (entry_answer (left_scope p) n u o) (entry_answer (right_scope p) n v o)
entry_held p n u v (Some e) other good = held p (Site.Entry n e.token) e.held (good e refl)
entry_held p n u v None other good = other

pub level_held : (p : Pairing) (A : Type 0) (P : A → Type 0) (n : NodeNo) (u v : List Entry → Eval A) → p.Good n
    → ((es : List Entry) → InLevel p.Good es → p.Rel A P (u es) (v es)) → p.Rel A P (of_level (left_scope p) n u) (of_level (right_scope p) n v)
level_held p A P n u v good k = p.thens (List Entry) A (InLevel p.Good) P _ _ u v (p.levels n good) k

level_answer : (p : Pairing) (n : NodeNo) (u v : List Entry → Eval Answer) → p.Good n
    → ((es : List Entry) → InLevel p.Good es → Steps.ArePaired p (u es) (v es)) → Steps.ArePaired p (of_level (left_scope p) n u) (of_level (right_scope p) n v)
level_answer p n u v good k = level_held p Answer (InAnswer p.Good) n u v good k

pub item_kind : (p : Pairing) (n : NodeNo) (k : Answer) (kind : Kind) → p.Good n
    → Steps.ArePaired p (item_of_kind (left_scope p) n k kind) (item_of_kind (right_scope p) n k kind)
item_kind p n (plain (integer z)) (Array t) good =
    level_answer p n _ _ good
    (λ es in_them. entry_held p n _ _ (entry_index (index_in z) es) (none p Rule.Index) (λ e h. index_good p.Good (index_in z) es in_them e h))
item_kind p n (plain (text key)) (Map t) good =
    level_answer p n _ _ good (λ es in_them. entry_held p n _ _ (entry_under key es) (plainly p null) (λ e h. under_good p.Good key es in_them e h))
item_kind p n k kind good = none p Rule.Kind

pub has_kind : (p : Pairing) (n : NodeNo) (k : Answer) (kind : Kind) → p.Good n
    → Steps.ArePaired p (has_of_kind (left_scope p) n k kind) (has_of_kind (right_scope p) n k kind)
has_kind p n (plain (text key)) (Map t) good = level_answer p n _ _ good (λ es in_them. plainly p (boolean (is_some (entry_under key es))))
has_kind p n k kind good = none p Rule.Kind

pub size_kind : (p : Pairing) (n : NodeNo) (kind : Kind) → p.Good n → Steps.ArePaired p (size_of_kind (left_scope p) n kind) (size_of_kind (right_scope p) n kind)
size_kind p n (Model m) good = none p Rule.Kind
size_kind p n (Array t) good = level_answer p n _ _ good (λ es in_them. plainly p (integer (pos (length es))))
size_kind p n (Map t) good = level_answer p n _ _ good (λ es in_them. plainly p (integer (pos (length es))))

texts_good : (Good : NodeNo → Type 0) (ts : List (List ℕ)) → InAnswers Good (texts ts)
texts_good Good [] = tt
texts_good Good (t ∷ ts) = (tt, texts_good Good ts)

texts_given : (p : Pairing) (ts : List (List ℕ)) → Steps.ArePaired p (gives (several (texts ts))) (gives (several (texts ts)))
texts_given p ts = given p Answer (InAnswer p.Good) (several (texts ts)) (texts_good p.Good ts)

keys_kind : (p : Pairing) (n : NodeNo) (kind : Kind) → p.Good n → Steps.ArePaired p (keys_of_kind (left_scope p) n kind) (keys_of_kind (right_scope p) n kind)
keys_kind p n (Map t) good = level_answer p n _ _ good (λ es in_them. texts_given p (tokens es))
keys_kind p n (Model m) good = none p Rule.Kind
keys_kind p n (Array t) good = none p Rule.Kind

pub keys : (p : Pairing) (x : Answer) → InAnswer p.Good x → Steps.ArePaired p (keys_got (left_scope p) x) (keys_got (right_scope p) x)
keys p (node n) good = of_node p n _ _ good (λ kind. keys_kind p n kind good)
keys p (plain (dict a ms)) good = texts_given p (keys_of ms)
keys p _ good = none p Rule.Kind

-- paths, identifiers and models
pub path : (p : Pairing) (x : Answer) → InAnswer p.Good x → Steps.ArePaired p (path_got (left_scope p) x) (path_got (right_scope p) x)
path p (node n) good =
    of_node p n _ _ good (λ kind. p.thens Path Answer Anything (InAnswer p.Good) _ _ _ _ (p.places n good) (λ place any. plainly p (text (printed place))))
path p (plain v) good = none p Rule.Kind
path p (several xs) good = none p Rule.Kind

found_good : (Good : NodeNo → Type 0) (found : Option NodeNo) → InFound Good found → InAnswer Good (node_or_null found)
found_good Good (Some n) good = good
found_good Good None good = tt

knowing : (p : Pairing) (m : ModelNo) (i : Ident) → Steps.ArePaired p (known_got (left_scope p) m i) (known_got (right_scope p) m i)
knowing p m i =
    p.thens (Option NodeNo) Answer (InFound p.Good) (InAnswer p.Good) _ _ _ _ (p.knowns m i)
    (λ found good. given p Answer (InAnswer p.Good) (node_or_null found) (found_good p.Good found good))

pub finding : (p : Pairing) (m : ModelNo) (x : Answer) → Steps.ArePaired p (find_got (left_scope p) m x) (find_got (right_scope p) m x)
finding p m (plain (text t)) = knowing p m (Ident.Text t)
finding p m (plain (integer z)) = knowing p m (Ident.Number z)
finding p m _ = none p Rule.Kind

pub being_model : (p : Pairing) (m : ModelNo) (x : Answer) → InAnswer p.Good x → Steps.ArePaired p (is_got (left_scope p) m x) (is_got (right_scope p) m x)
being_model p m (node n) good = of_node p n _ _ good (λ kind. plainly p _)
being_model p m (plain v) good = plainly p (boolean false)
being_model p m (several xs) good = plainly p (boolean false)

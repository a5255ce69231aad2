-- What reading calls show of a tree is what is seen of it.
use Rattle.std.proofs.Common.{◌≡◌, ℕ, zero, suc, Bool, ◌<◌, ◌+◌, List, [], ◌∷◌, length, map, drop, get_or, true, false, Option, Some, None, Result, Ok, Err, IsSome, MatchResult, if◌then◌else◌, refl, sym, ◌∙◌, ap, subst}
use Rattle.std.specs.Prelude.{unwrap_or, decimal}
use Rattle.std.specs.Option.{option_map, option_and_then}
use Rattle.std.specs.List.{range_with_len}
use Rattle.std.specs.Str.{bytes_eq}
use Rattle.snap_core.specs.Value.{Value, null, value_at}
use Rattle.snap_core.specs.View.{view, fields_view, entry}
use Rattle.snap_core.proofs.Views.{entry-fields}
use Rattle.snap_core.specs.declared.snap.Field.{Field}
use Rattle.snap_core.specs.declared.ident.Ident.{Ident}
use Rattle.snap_core.specs.declared.number.ModelNo.{ModelNo}
use Rattle.snap_core.specs.declared.number.NodeNo.{NodeNo}
use Rattle.pointer_core.specs.declared.refusal.Rule.{Rule}
use Rattle.pointer_core.specs.declared.refusal.Rule.TheVariants as rules_of
use Rattle.pointer_core.specs.Path.{Path}
use Rattle.type_core.specs.Making.{Refused}
use Rattle.tree_core.specs.Outcome.{or_refuse}
use Rattle.tree_core.specs.Asking.{node_path}
use Rattle.type_table.specs.Table.{Table}
use Rattle.type_table.specs.Identifiers.{ident_of}
use Rattle.snap_core.specs.declared.snap.Snap
use Rattle.expr_syntax.specs.declared.number.ViewNo.{ViewNo}
use Rattle.eval_core.specs.Asking.{Stack, asked}
use Rattle.edit_core.specs.declared.kind.Kind.{Kind}
use Rattle.edit_core.specs.declared.kind.Kind.TheVariants as kind
use Rattle.edit_core.specs.Labelled.{Labelled}
use Rattle.tree_core.specs.declared.place.Place.{Place}
use Rattle.tree_core.specs.declared.place.Place.TheVariants.{Prop, Item, Key}
use Rattle.tree_core.specs.TypesTyping.{typing_of}
use Rattle.tree_core.specs.Listing.{node}
use Rattle.tree_core.specs.Reading.{kind_at, size_at, key_at, part_at_place, part_of, node_of, node_no, resolved, path_to}
use Rattle.tree_reading.specs.declared.held.Held.{Held}
use Rattle.tree_reading.specs.Held.{held_at, held_in}
use Rattle.eval_core.specs.declared.cell.Cell.{Cell}
use Rattle.eval_core.specs.declared.site.Site.{Site}
use Rattle.eval_core.specs.Answer.{Answer}
use Rattle.eval_core.specs.Answer as answers
use Rattle.eval_core.specs.Sight as sight
use Rattle.eval_core.specs.Sight.{Sight, Being, Entry, Link}
use Rattle.eval_core.specs.Run.{Eval, looks, andthen}
use Rattle.eval_core.specs.Scope.{Scope, Viewing, gives, refused}
use Rattle.eval_core.specs.Reading.{of_kind, of_level, of_prop, prop_answer, held_answer, referred, reached}
use Rattle.answer_ops.specs.View.{answer_of}
use Rattle.answer_ops.specs.declared.value.Value as values
use Rattle.view_engine.specs.declared.halt.Halt.{Halt}
use Rattle.view_engine.specs.declared.halt.Halt.TheVariants as halts
use Rattle.view_engine.specs.Did.{Read}
use Rattle.view_engine.specs.TreeSight.{Whole, sight_of, being_by, being_of, prop_of, level_of, level_by, place_of, value_of, known_by, held_as, held_there, value_at_place, item_entry, key_entry}
use Rattle.view_engine.specs.Walked.{place_site}
use Rattle.view_engine.proofs.Doing.{read-refused, read-refused_at, read-looks, given-null}

-- what the words of a sight are, by the tree
pub seen-being : (whole : Whole) (n : NodeNo) → (sight_of whole).being n ≡ being_of whole n
unfolding sight_of
seen-being whole n = refl

pub seen-prop : (whole : Whole) (n : NodeNo) (name : List ℕ) → (sight_of whole).prop n name ≡ prop_of whole n name
unfolding sight_of
seen-prop whole n name = refl

pub seen-level : (whole : Whole) (n : NodeNo) → (sight_of whole).level n ≡ level_of whole n
unfolding sight_of
seen-level whole n = refl

pub seen-place : (whole : Whole) (n : NodeNo) → (sight_of whole).place n ≡ place_of whole n
unfolding sight_of
seen-place whole n = refl

pub seen-whole : (whole : Whole) (n : NodeNo) → (sight_of whole).whole n ≡ value_of whole n
unfolding sight_of
seen-whole whole n = refl

pub seen-known : (whole : Whole) (m : ModelNo) (i : Ident) → (sight_of whole).known m i ≡ known_by whole m i
unfolding sight_of
seen-known whole m i = refl

-- a node is what its kind says
pub being-none : (whole : Whole) (n : NodeNo) → None ≡ kind_at n.0 whole.tree → (sight_of whole).being n ≡ None
being-none whole n none = seen-being whole n ∙ ap (option_map (being_by whole n)) (sym none)

pub being-some : (whole : Whole) (n : NodeNo) (k : Kind) → Some k ≡ kind_at n.0 whole.tree → (sight_of whole).being n ≡ Some (being_by whole n k)
being-some whole n k some = seen-being whole n ∙ ap (option_map (being_by whole n)) (sym some)

-- something of a node that is dead, and of one that lives
pub read-dead : {T A : Type 0} (seen : T → A) (s : Scope) (whole : Whole) (n : NodeNo) (use_kind : Kind → Eval A) (halt : Halt) → s.sight ≡ sight_of whole
    → None ≡ kind_at n.0 whole.tree → halt ≡ halts.Refused (record { rule = Rule.Dead; site = s.here }) → Read seen (Err halt) (of_kind s (s.sight.being n) use_kind)
read-dead seen s whole n use_kind halt same none is =
    let e : s.sight.being n ≡ None = ap (λ (v : Sight). v.being n) same ∙ being-none whole n none in
    subst (λ b. Read seen (Err halt) (of_kind s b use_kind)) (sym e) (read-refused seen s Rule.Dead halt is)

pub read-alive : {T A : Type 0} (seen : T → A) (s : Scope) (whole : Whole) (n : NodeNo) (k : Kind) (use_kind : Kind → Eval A) (r : Result T Halt) → s.sight ≡ sight_of whole
    → Some k ≡ kind_at n.0 whole.tree → Read seen r (use_kind k) → Read seen r (of_kind s (s.sight.being n) use_kind)
read-alive seen s whole n k use_kind r same some read =
    let e : s.sight.being n ≡ Some (being_by whole n k) = ap (λ (v : Sight). v.being n) same ∙ being-some whole n k some in
    subst (λ b. Read seen r (of_kind s b use_kind)) (sym e) read

-- what is held at a place stands there
held-in-part : (table : Table) (place : Place) (x : Labelled) (h : Held) → Some h ≡ held_in table place x → IsSome (part_of place x)
held-in-part table place x h some = elim (part_of place x) as (λ o. part_of place x ≡ o → IsSome o) [
  | Some part ↦ λ e. refl
  | None ↦ λ e. let gone : Some h ≡ None = some ∙ (rw e refl) in cc
] refl

pub held-part : (table : Table) (place : Place) (root : Labelled) (h : Held) → Some h ≡ held_at table place root → IsSome (part_at_place place root)
held-part table place root h some = elim (node_of (node_no place) root) as (λ o. Some h ≡ option_and_then (held_in table place) o → IsSome (option_and_then (part_of place) o)) [
  | Some x ↦ λ e. held-in-part table place x h e
  | None ↦ λ e. let gone : Some h ≡ None = e in cc
] some

pub held-there : (whole : Whole) (place : Place) (h : Held) → Some h ≡ held_at whole.table place whole.tree
    → held_there whole place ≡ Some (held_as (value_at_place whole place) h)
held-there whole place h some = ap (option_map (held_as (value_at_place whole place))) (sym some)

pub not-there : (whole : Whole) (place : Place) → None ≡ held_at whole.table place whole.tree → held_there whole place ≡ None
not-there whole place none = ap (option_map (held_as (value_at_place whole place))) (sym none)

-- what a property holds
pub prop-read : (s : Scope) (whole : Whole) (n : NodeNo) (name : List ℕ) (h : Held) (use_held : Option sight.Held → Eval Answer) (r : Result values.Value Halt) → s.sight ≡ sight_of whole
    → Some h ≡ held_at whole.table (Prop n name) whole.tree
    → Read answer_of r (use_held (Some (held_as (value_at_place whole (Prop n name)) h)))
    → Read answer_of r (of_prop s n name use_held)
prop-read s whole n name h use_held r same some read =
    let e : s.sight.prop n name ≡ Some (held_as (value_at_place whole (Prop n name)) h) = ap (λ (v : Sight). v.prop n name) same ∙ seen-prop whole n name ∙ held-there whole (Prop n name) h some in
    read-looks answer_of r (Cell.Prop n name) (s.sight.prop n name) use_held (subst (λ o. Read answer_of r (use_held o)) (sym e) read)

pub prop-unread : (s : Scope) (whole : Whole) (n : NodeNo) (name : List ℕ) (use_held : Option sight.Held → Eval Answer) (r : Result values.Value Halt) → s.sight ≡ sight_of whole
    → None ≡ held_at whole.table (Prop n name) whole.tree
    → Read answer_of r (use_held None)
    → Read answer_of r (of_prop s n name use_held)
prop-unread s whole n name use_held r same none read =
    let e : s.sight.prop n name ≡ None = ap (λ (v : Sight). v.prop n name) same ∙ seen-prop whole n name ∙ not-there whole (Prop n name) none in
    read-looks answer_of r (Cell.Prop n name) (s.sight.prop n name) use_held (subst (λ o. Read answer_of r (use_held o)) (sym e) read)

-- the same by a copy of the name, and by the types of a schema
pub prop-answered : (s : Scope) (whole : Whole) (n : NodeNo) (name copied : List ℕ) (table : Table) (h : Held) (r : Result values.Value Halt) → s.sight ≡ sight_of whole
    → copied ≡ name → table ≡ whole.table → Some h ≡ held_at table (Prop n copied) whole.tree
    → Read answer_of r (held_answer s (place_site (Prop n copied)) (held_as (value_at_place whole (Prop n copied)) h))
    → Read answer_of r (of_prop s n name (prop_answer s n name))
prop-answered s whole n name copied table h r same is tables some read =
    let Here : List ℕ → Type 0 = λ k. Some h ≡ held_at whole.table (Prop n k) whole.tree in
    let Reads : List ℕ → Type 0 = λ k. Read answer_of r (held_answer s (Site.Entry n k) (held_as (value_at_place whole (Prop n k)) h)) in
    prop-read s whole n name h (prop_answer s n name) r same (subst Here is (subst (λ t. Some h ≡ held_at t (Prop n copied) whole.tree) tables some)) (subst Reads is read)

pub prop-found : (s : Scope) (whole : Whole) (n : NodeNo) (name copied : List ℕ) (table : Table) (h : Held) (use_held : Option sight.Held → Eval Answer) (r : Result values.Value Halt) → s.sight ≡ sight_of whole
    → copied ≡ name → table ≡ whole.table → Some h ≡ held_at table (Prop n copied) whole.tree
    → Read answer_of r (use_held (Some (held_as (value_at_place whole (Prop n copied)) h)))
    → Read answer_of r (of_prop s n name use_held)
prop-found s whole n name copied table h use_held r same is tables some read =
    let Here : List ℕ → Type 0 = λ k. Some h ≡ held_at whole.table (Prop n k) whole.tree in
    let Reads : List ℕ → Type 0 = λ k. Read answer_of r (use_held (Some (held_as (value_at_place whole (Prop n k)) h))) in
    prop-read s whole n name h use_held r same (subst Here is (subst (λ t. Some h ≡ held_at t (Prop n copied) whole.tree) tables some)) (subst Reads is read)

pub prop-lost : (s : Scope) (whole : Whole) (n : NodeNo) (name copied : List ℕ) (table : Table) (use_held : Option sight.Held → Eval Answer) (r : Result values.Value Halt) → s.sight ≡ sight_of whole
    → copied ≡ name → table ≡ whole.table → None ≡ held_at table (Prop n copied) whole.tree
    → Read answer_of r (use_held None)
    → Read answer_of r (of_prop s n name use_held)
prop-lost s whole n name copied table use_held r same is tables none read =
    let Here : List ℕ → Type 0 = λ k. None ≡ held_at whole.table (Prop n k) whole.tree in
    prop-unread s whole n name use_held r same (subst Here is (subst (λ t. None ≡ held_at t (Prop n copied) whole.tree) tables none)) read

-- the node of an identifier
node-numbered : (o : Option NodeNo) → option_map node (option_map (λ (n : NodeNo). n.0) o) ≡ o
node-numbered (Some n) = refl
node-numbered None = refl

pub known-resolved : (s : Scope) (whole : Whole) (m : ModelNo) (i : Ident) (o : Option NodeNo) → s.sight ≡ sight_of whole
    → option_map (λ (n : NodeNo). n.0) o ≡ resolved (typing_of whole.table) m i whole.tree → s.sight.known m i ≡ o
known-resolved s whole m i o same is =
    ap (λ (v : Sight). v.known m i) same ∙ seen-known whole m i ∙ ap (option_map node) (sym is) ∙ node-numbered o

-- a reference's target
pub referred-read : (s : Scope) (whole : Whole) (site : Site) (link : Link) (i : Ident) (o : Option NodeNo) (r : Result values.Value Halt) → s.sight ≡ sight_of whole
    → option_map (λ (n : NodeNo). n.0) o ≡ resolved (typing_of whole.table) link.model i whole.tree → Read answer_of r (reached site link o)
    → Read answer_of r (referred s site link (Some i))
referred-read s whole site link i o r same is read =
    read-looks answer_of r (Cell.Known link.model i) (s.sight.known link.model i) (reached site link)
    (subst (λ p. Read answer_of r (reached site link p)) (sym (known-resolved s whole link.model i o same is)) read)

-- a reference, by whether it holds an identifier
pub target-null : (s : Scope) (site : Site) (safe : Bool) (m : ModelNo) (v : Value) → ident_of (Some v) ≡ None
    → Read answer_of (Ok (values.Plain Snap.Null)) (held_answer s site (sight.refers (record { safe = safe; model = m; identifier = ident_of (Some v) })))
target-null s site safe m v none =
    let link : Link = record { safe = safe; model = m; identifier = ident_of (Some v) } in
    subst (λ i. Read answer_of (Ok (values.Plain Snap.Null)) (referred s site link i)) (sym none) given-null

pub target-read : (s : Scope) (whole : Whole) (site : Site) (safe : Bool) (m : ModelNo) (v : Value) (i : Ident) (table : Table) (o : Option NodeNo) (r : Result values.Value Halt) → s.sight ≡ sight_of whole
    → ident_of (Some v) ≡ Some i → table ≡ whole.table
    → option_map (λ (n : NodeNo). n.0) o ≡ resolved (typing_of table) m i whole.tree
    → Read answer_of r (reached site (record { safe = safe; model = m; identifier = ident_of (Some v) }) o)
    → Read answer_of r (held_answer s site (sight.refers (record { safe = safe; model = m; identifier = ident_of (Some v) })))
target-read s whole site safe m v i table o r same some tables is read =
    let link : Link = record { safe = safe; model = m; identifier = ident_of (Some v) } in
    subst (λ k. Read answer_of r (referred s site link k)) (sym some)
    (referred-read s whole site link i o r same (subst (λ u. option_map (λ (n : NodeNo). n.0) o ≡ resolved (typing_of u) m i whole.tree) tables is) read)

-- a view of a node that is dead
pub asked-dead : (viewing : Viewing) (seen : Sight) (room : ℕ) (stack : Stack) (n : NodeNo) (v : ViewNo) (halt : Halt) → seen.being n ≡ None
    → halt ≡ halts.Refused (record { rule = Rule.Dead; site = Site.Frame }) → Read {T = values.Value} answer_of (Err halt) (asked viewing seen room stack n v)
asked-dead viewing seen zero stack n v halt dead is = rw dead (read-refused_at {T = values.Value} answer_of Site.Frame Site.Frame Rule.Dead halt is refl)
asked-dead viewing seen (suc room) stack n v halt dead is = rw dead (read-refused_at {T = values.Value} answer_of Site.Frame Site.Frame Rule.Dead halt is refl)

-- a field of a record
pub field-step : (name : List ℕ) (fs : List Field) (i : ℕ) (f : Field) → drop i fs ≡ f ∷ drop (i + 1) fs
    → value_at name (fields_view (drop i fs)) ≡ (if bytes_eq name f.key then Some (view f.value) else value_at name (fields_view (drop (i + 1) fs)))
field-step name fs i f at =
    ap (λ gs. value_at name (fields_view gs)) at
    ∙ ap (λ (e : List ℕ × Value). if bytes_eq name e.0 then Some e.1 else value_at name (fields_view (drop (i + 1) fs))) (entry-fields f)

-- the path of a node
told_by : (o : Option Path) (path : Path) → or_refuse o [] rules_of.Dead ≡ Ok path → path ≡ unwrap_or o []
told_by (Some p) path is = let same : p ≡ path = cc in sym same
told_by None path is = cc

untold_by : (o : Option Path) (f : Refused) → or_refuse o [] rules_of.Dead ≡ Err f → [] ≡ unwrap_or o []
untold_by (Some p) f is = cc
untold_by None f is = refl

pub place-untold : (whole : Whole) (n : NodeNo) (f : Refused) → node_path n.0 whole.tree ≡ Err f → [] ≡ (sight_of whole).place n
place-untold whole n f is = untold_by (path_to n.0 whole.tree) f is ∙ sym (seen-place whole n)

pub place-told : (whole : Whole) (n : NodeNo) (path : Path) → node_path n.0 whole.tree ≡ Ok path → path ≡ (sight_of whole).place n
place-told whole n path is = told_by (path_to n.0 whole.tree) path is ∙ sym (seen-place whole n)

pub ruleset fields_read = (entry-fields)

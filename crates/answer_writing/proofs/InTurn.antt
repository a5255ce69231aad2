-- The rules of a place are those that the write of null meets before its value is judged.
use Rattle.std.proofs.Common.{◌≡◌, ℕ, List, [], Bool, true, false, not, Option, Some, None, Ok, Err, refl, sym, ap, ◌∙◌, subst}
use Rattle.std.specs.Prelude.{nat_le, slice_get, length, if◌then◌else◌}
use Rattle.snap_core.specs.Value.{Value, null}
use Rattle.snap_core.specs.declared.ident.Ident.{Ident}
use Rattle.pointer_core.specs.Path.{Path}
use Rattle.pointer_core.specs.declared.refusal.Rule.TheVariants as rule
use Rattle.type_table.specs.declared.shape.Shape.{Shape}
use Rattle.type_table.specs.Table.{Table, Catalog}
use Rattle.type_core.specs.Making.{Outcome, refined, conditions_of, maker_of, is_within, keyed, limited, making, entry_making}
use Rattle.type_core.specs.Judging.{judged_by}
use Rattle.type_core.specs.Doubled.{identifiers_of, doubled_of}
use Rattle.type_table.specs.Identifiers.{is_keyed}
use Rattle.type_table.specs.Unions.{takes}
use Rattle.edit_core.specs.declared.kind.Kind.{Kind}
use Rattle.edit_core.specs.declared.kind.Kind.TheVariants as kind
use Rattle.edit_core.specs.Edit.{Turn}
use Rattle.edit_core.specs.Labelled.{Label, Labelled, bare}
use Rattle.edit_core.specs.Template.{entry_at}
use Rattle.edit_core.specs.Typing.{Typing, label_of}
use Rattle.edit_core.specs.Ways.{way_to, part_at}
use Rattle.tree_core.specs.declared.place.Place.{Place}
use Rattle.tree_core.specs.declared.place.Place.TheVariants as place
use Rattle.tree_core.specs.TypesTyping.{model_type}
use Rattle.tree_core.specs.Nodes.{may_write, entries_of, items_of}
use Rattle.tree_core.specs.Outcome.{◌>>=◌, provided, or_refuse, seen_from}
use Rattle.tree_core.specs.Changed.{Changed, placed}
use Rattle.tree_core.specs.Writing.{Tree, Target, Writing, Entry, Item, typing_in, others_held, other_identifier, other_under, unless_fixed, node_making, whole_made, whole_written, held_at, entry_path, entry_type, is_renaming, property_in, property_set, key_put, key_written, item_type, item_making, item_put, item_written, is_model, is_map, is_array, suited, kind_written, node_written, node_no, name_for, writing_at, written_at, limited_tree, unless_doubled, judged, written}
use Rattle.eval_core.specs.Answer.{Answer}
use Rattle.answer_writing.specs.Giving.{Giving, sets, inserts, removes, with_value, Site, is_of_value, after_place, value_taken}
use Rattle.answer_writing.specs.Placing.{whole_judged, item_judged, part_judged, node_judged, site_judged, IsGiven, NodesAreGivenInTurn}

-- each refusal is one of the value
abbrev pub IsLate : {A : Type 0} → Outcome A → Type 0
IsLate (Ok x) = Unit {0}
IsLate (Err e) = is_of_value e.rule ≡ true

-- what is refused as the place is, by a rule of it; otherwise each refusal is one of the value
abbrev Splits : Outcome Changed → Outcome (Unit {0}) → Type 0
Splits o (Ok u) = IsLate o
Splits o (Err e) = (o ≡ Err e) × (is_of_value e.rule ≡ false)

-- Making null.

refined-late : (b : Bool) → IsLate {A = Value} (if b then Ok null else Err (record { path = []; rule = rule.Refine }))
refined-late true = tt
refined-late false = refl

scalar-late : (table : Table) (o : Option Shape) (b : Bool) → IsLate {A = Value} (if b then refined (conditions_of o) null else Err (record { path = []; rule = rule.Mistyped }))
scalar-late table o true = refined-late _
scalar-late table o false = refl

limited-late : (o : Outcome Value) → IsLate o → IsLate (limited o)
limited-late (Err e) h = h
limited-late (Ok v) h = by_weight (is_within v)
  where
    by_weight : (b : Bool) → IsLate {A = Value} (if b then Ok v else Err (record { path = []; rule = rule.Large }))
    by_weight true = tt
    by_weight false = refl

null-late : (types : Catalog) (t : ℕ) → IsLate (making types t (Some null))
null-late types t =
    limited-late (maker_of types.table types.defaults null t)
    (scalar-late types.table (judged_by types.table null t) (takes types.table (judged_by types.table null t) null))

-- Putting together.

then_late : {A B : Type 0} (o : Outcome A) (next : A → Outcome B) → IsLate o → ((x : A) → IsLate (next x)) → IsLate (o >>= next)
then_late (Ok x) next h g = g x
then_late (Err e) next h g = h

from-late : {A : Type 0} (path : Path) (o : Outcome A) → IsLate o → IsLate (seen_from path o)
from-late path (Ok x) h = h
from-late path (Err e) h = h

keyed-late : (key : List ℕ) (identifier : Option Ident) (o : Outcome Value) → IsLate o → IsLate (keyed key identifier o)
keyed-late key identifier (Err e) h = h
keyed-late key identifier (Ok v) h = by_key (is_keyed key identifier)
  where
    by_key : (b : Bool) → IsLate {A = Value} (if b then Ok v else Err (record { path = []; rule = rule.Key }))
    by_key true = tt
    by_key false = refl

provided-late : {A : Type 0} (b : Bool) (path : Path) (rest : Outcome A) → IsLate rest → IsLate (provided b path rule.Mistyped rest)
provided-late true path rest h = h
provided-late false path rest h = refl

split_on : (o : Outcome Changed) (j : Outcome (Unit {0})) (next : Changed → Outcome Changed) → Splits o j → ((c : Changed) → IsLate (next c)) → Splits (o >>= next) j
split_on o (Ok u) next h g = then_late o next h g
split_on o (Err e) next h g = (ap (λ (p : Outcome Changed). p >>= next) h.0, h.1)

-- A node as a whole.

no-others : (o : Option Labelled) → others_held o None ≡ false
no-others (Some x) = refl
no-others None = refl

no-other : (name : Option (List ℕ)) (node : Labelled) → other_under name node null ≡ None
no-other None node = refl
no-other (Some name) node = ap (λ (b : Bool). if b then Some name else None) (no-others (entry_at name (entries_of node)))

never-fixed : (typing : Typing) (k : Kind) (node : Labelled) → other_identifier typing k node null ≡ None
never-fixed typing (kind.Model m) node = no-other (typing.identifier_of m) node
never-fixed typing (kind.Array t) node = refl
never-fixed typing (kind.Map t) node = refl

making-late : (types : Catalog) (k : Kind) (t : ℕ) → IsLate (node_making types k t null)
making-late types (kind.Model m) t = null-late types (model_type types m)
making-late types (kind.Array u) t = provided-late _ [] (making types t (Some null)) (null-late types t)
making-late types (kind.Map u) t = provided-late _ [] (making types t (Some null)) (null-late types t)

whole-late : (w : Writing) (k : Kind) (node : Labelled) → IsLate (whole_made w k null node)
whole-late w k node = then_late (seen_from w.node (node_making w.types k w.type null)) _ (from-late w.node _ (making-late w.types k w.type)) (λ made. tt)

whole-set : (w : Writing) (k : Kind) (node : Labelled) (o : Option (List ℕ)) → o ≡ None → IsLate (unless_fixed w.node o (whole_made w k null node))
whole-set w k node o e = subst (λ (p : Option (List ℕ)). IsLate (unless_fixed w.node p (whole_made w k null node))) (sym e) (whole-late w k node)

whole-splits : (w : Writing) (giving : Giving) → IsGiven giving → (k : Kind) (node : Labelled) → Splits (whole_written w k (with_value giving null) node) (whole_judged w.named giving)
whole-splits w (sets x) is k node = whole-set w k node _ (never-fixed (typing_in w) k node)
whole-splits w (inserts x) is k node = (refl, refl)
whole-splits w removes is k node = absurd is

-- A property.

fixed-splits : (w : Writing) (e : Entry) (rest : Outcome Changed) → IsLate rest → (b : Bool)
    → Splits (provided b (entry_path w e) rule.Fixed rest) (provided b (entry_path w e) rule.Fixed (Ok tt))
fixed-splits w e rest h true = h
fixed-splits w e rest h false = (refl, refl)

set-splits : (w : Writing) (e : Entry) (old : Labelled)
    → Splits (property_set w e old null) (provided (not (is_renaming w e (bare old) null)) (entry_path w e) rule.Fixed (Ok tt))
set-splits w e old =
    fixed-splits w e _ (then_late (seen_from (entry_path w e) (making w.types (entry_type w e) (Some null))) _ (from-late (entry_path w e) _ (null-late w.types (entry_type w e))) (λ made. tt))
    (not (is_renaming w e (bare old) null))

property-splits : (w : Writing) (e : Entry) (giving : Giving) → IsGiven giving → (o : Option Labelled)
    → Splits (or_refuse o w.named rule.Path >>= (λ old. property_in w.named (with_value giving null) >>= (λ v. property_set w e old v)))
    (or_refuse o w.named rule.Path >>= (λ old. provided (not (is_renaming w e (bare old) null)) (entry_path w e) rule.Fixed (Ok tt)))
property-splits w e giving is None = (refl, refl)
property-splits w e (sets x) is (Some old) = set-splits w e old
property-splits w e (inserts x) is (Some old) = set-splits w e old
property-splits w e removes is (Some old) = absurd is

-- An item.

item-late : (w : Writing) (a : Item) → IsLate (item_making w a null)
item-late w a = from-late _ _ (null-late w.types (item_type w a))

replaced-splits : (w : Writing) (a : Item) (o : Option Labelled)
    → Splits (or_refuse o w.named rule.Index >>= (λ old. item_put w a old null)) (or_refuse o w.named rule.Index >>= (λ old. Ok tt))
replaced-splits w a None = (refl, refl)
replaced-splits w a (Some old) = then_late (item_making w a null) _ (item-late w a) (λ made. tt)

inserted-splits : (w : Writing) (rest : Outcome Changed) → IsLate rest → (b : Bool) → Splits (provided b w.named rule.Index rest) (provided b w.named rule.Index (Ok tt))
inserted-splits w rest h true = h
inserted-splits w rest h false = (refl, refl)

item-splits : (w : Writing) (giving : Giving) → IsGiven giving → (a : Item) → Splits (item_written w a (with_value giving null)) (item_judged w giving a)
item-splits w (sets x) is a = replaced-splits w a (slice_get (items_of a.node) a.index)
item-splits w (inserts x) is a =
    inserted-splits w _ (then_late (item_making w a null) _ (item-late w a) (λ made. tt)) (nat_le a.index (length (items_of a.node)))
item-splits w removes is a = absurd is

-- A value of a map.

key-late : (w : Writing) (e : Entry) → IsLate (key_put w e null)
key-late w e =
    then_late (seen_from (entry_path w e) (entry_making w.types (entry_type w e) e.key null)) _
    (from-late (entry_path w e) _ (limited-late _ (keyed-late e.key _ _ (scalar-late w.types.table (judged_by w.types.table null (entry_type w e)) (takes w.types.table (judged_by w.types.table null (entry_type w e)) null)))))
    (λ made. tt)

key-splits : (w : Writing) (giving : Giving) → IsGiven giving → (e : Entry) → IsLate (key_written w e (with_value giving null))
key-splits w (sets x) is e = key-late w e
key-splits w (inserts x) is e = key-late w e
key-splits w removes is e = absurd is

-- A place.

suited-splits : (b : Bool) (o : Outcome Changed) (j : Outcome (Unit {0})) → Splits o j → Splits (suited b o) (provided b [] rule.Kind j)
suited-splits true o j h = h
suited-splits false o j h = (refl, refl)

part-splits : (w : Writing) (giving : Giving) → IsGiven giving → (node : Labelled) (k : Kind) (at : Place)
    → Splits (kind_written w at (with_value giving null) node k) (part_judged w giving node at)
part-splits w giving is node k (place.Whole n) = whole-splits w giving is k node
part-splits w giving is node k (place.Prop n name) =
    suited-splits (is_model node) _ _ (property-splits w (record { node = node; key = name }) giving is (held_at (record { node = node; key = name })))
part-splits w giving is node k (place.Item n i) = suited-splits (is_array node) _ _ (item-splits w giving is (record { node = node; index = i }))
part-splits w giving is node k (place.Key n key) = suited-splits (is_map node) _ (Ok tt) (key-splits w giving is (record { node = node; key = key }))

node-splits : (w : Writing) (giving : Giving) → IsGiven giving → (node : Labelled) (at : Place) (o : Option Label)
    → Splits (or_refuse o [] rule.Kind >>= (λ label. kind_written w at (with_value giving null) node label.kind)) (or_refuse o [] rule.Kind >>= (λ label. part_judged w giving node at))
node-splits w giving is node at None = (refl, refl)
node-splits w giving is node at (Some label) = part-splits w giving is node label.kind at

-- The tree that is written.

pub judged-late : (types : Catalog) (c : Changed) → IsLate (judged types c)
judged-late types c = then_late (limited_tree c) _ (by_weight (is_within (bare c.value))) (λ within. by_double within (doubled_of (identifiers_of types (bare within.value))))
  where
    by_weight : (b : Bool) → IsLate (provided {A = Changed} b [] rule.Large (Ok c))
    by_weight true = tt
    by_weight false = refl

    by_double : (within : Changed) (o : Option Path) → IsLate (unless_doubled o within)
    by_double within (Some path) = refl
    by_double within None = tt

pub after-late : (o : Outcome Changed) (rest : Outcome Changed) → IsLate o → after_place o rest ≡ rest
after-late (Ok c) rest h = refl
after-late (Err e) rest h = ap (λ (b : Bool). if b then rest else Err e) h

-- what comes after a place, by the place
after-split : (o : Outcome Changed) (j : Outcome (Unit {0})) (rest : Outcome Changed) → Splits o j → after_place o rest ≡ (j >>= (λ u. rest))
after-split o (Ok u) rest h = after-late o rest h
after-split o (Err e) rest h = ap (λ (p : Outcome Changed). after_place p rest) h.0 ∙ ap (λ (b : Bool). if b then rest else Err e) h.1

-- the site that a place is judged at, and what follows
abbrev following : Catalog → Target → Giving → Answer → Tree → Site → Outcome Changed
following types target giving x tree site = value_taken types site target.place giving x >>= (λ made. written types target (with_value giving made) tree)

-- a node that may be written
node-in-turn : (types : Catalog) (target : Target) (giving : Giving) → IsGiven giving → (x : Answer) (tree : Tree) (way : List Turn) (o : Option Labelled) (rest : Outcome Changed)
    → rest ≡ (or_refuse o [] rule.Dead >>= (λ node. following types target giving x tree (record { root = tree.root; way = way; node = node })))
    → after_place (or_refuse o [] rule.Dead
    >>= (λ node. node_written (writing_at types target way tree) target.place (with_value giving null) node >>= (λ changed. Ok (placed way tree.root changed)))
    >>= (λ changed. judged types changed)) rest
    ≡ (or_refuse o [] rule.Dead
    >>= (λ node. node_judged (writing_at types target way tree) giving node target.place >>= (λ one. Ok (record { root = tree.root; way = way; node = node })))
    >>= following types target giving x tree)
node-in-turn types target giving is x tree way None rest e = refl
node-in-turn types target giving is x tree way (Some node) rest e =
    after-split _ (node_judged (writing_at types target way tree) giving node target.place) rest
    (split_on _ (node_judged (writing_at types target way tree) giving node target.place) (λ changed. judged types changed)
    (split_on _ (node_judged (writing_at types target way tree) giving node target.place) (λ changed. Ok (placed way tree.root changed))
    (node-splits (writing_at types target way tree) giving is node target.place (label_of node)) (λ changed. tt))
    (λ changed. judged-late types changed))
    ∙ ap (λ (later : Outcome Changed). node_judged (writing_at types target way tree) giving node target.place >>= (λ one. later)) e
    ∙ goes (node_judged (writing_at types target way tree) giving node target.place)
  where
    goes : (j : Outcome (Unit {0})) → (j >>= (λ one. following types target giving x tree (record { root = tree.root; way = way; node = node })))
        ≡ (j >>= (λ one. Ok (record { root = tree.root; way = way; node = node })) >>= following types target giving x tree)
    goes (Ok u) = refl
    goes (Err r) = refl

-- the end of a way
way-in-turn : (types : Catalog) (target : Target) (giving : Giving) → IsGiven giving → (x : Answer) (tree : Tree) (way : List Turn) (rest : Outcome Changed) (b : Bool)
    → rest ≡ (or_refuse (part_at way tree.root) [] rule.Dead >>= (λ node. following types target giving x tree (record { root = tree.root; way = way; node = node })))
    → after_place (provided b (name_for way target) rule.Protected (or_refuse (part_at way tree.root) [] rule.Dead
    >>= (λ node. node_written (writing_at types target way tree) target.place (with_value giving null) node >>= (λ changed. Ok (placed way tree.root changed))))
    >>= (λ changed. judged types changed)) rest
    ≡ (provided b (name_for way target) rule.Protected (or_refuse (part_at way tree.root) [] rule.Dead
    >>= (λ node. node_judged (writing_at types target way tree) giving node target.place >>= (λ one. Ok (record { root = tree.root; way = way; node = node }))))
    >>= following types target giving x tree)
way-in-turn types target giving is x tree way rest true e = node-in-turn types target giving is x tree way (part_at way tree.root) rest e
way-in-turn types target giving is x tree way rest false e = refl

target-in-turn : (types : Catalog) (target : Target) (giving : Giving) → IsGiven giving → (x : Answer) (tree : Tree) (o : Option (List Turn)) (rest : Outcome Changed)
    → rest ≡ (or_refuse o [] rule.Dead
    >>= (λ way. or_refuse (part_at way tree.root) [] rule.Dead >>= (λ node. following types target giving x tree (record { root = tree.root; way = way; node = node }))))
    → after_place (or_refuse o [] rule.Dead >>= (λ way. written_at types target (with_value giving null) (record { tree = tree; way = way })) >>= (λ changed. judged types changed)) rest
    ≡ (or_refuse o [] rule.Dead >>= site_judged types target giving tree >>= following types target giving x tree)
target-in-turn types target giving is x tree None rest e = refl
target-in-turn types target giving is x tree (Some way) rest e = way-in-turn types target giving is x tree way rest (may_write target.running way tree.root) e

-- what follows the site of a target
following-site : (types : Catalog) (target : Target) (giving : Giving) (x : Answer) (tree : Tree) (o : Option (List Turn))
    → (or_refuse o [] rule.Dead >>= (λ way. or_refuse (part_at way tree.root) [] rule.Dead >>= (λ node. Ok (record { root = tree.root; way = way; node = node })))
    >>= following types target giving x tree)
    ≡ (or_refuse o [] rule.Dead
    >>= (λ way. or_refuse (part_at way tree.root) [] rule.Dead >>= (λ node. following types target giving x tree (record { root = tree.root; way = way; node = node }))))
following-site types target giving x tree None = refl
following-site types target giving x tree (Some way) = by_part (part_at way tree.root)
  where
    by_part : (o : Option Labelled) → (or_refuse o [] rule.Dead >>= (λ node. Ok (record { root = tree.root; way = way; node = node })) >>= following types target giving x tree)
        ≡ (or_refuse o [] rule.Dead >>= (λ node. following types target giving x tree (record { root = tree.root; way = way; node = node })))
    by_part None = refl
    by_part (Some node) = refl

pub nodes-in-turn : NodesAreGivenInTurn
nodes-in-turn types target giving is x tree =
    target-in-turn types target giving is x tree (way_to (node_no target.place) tree.root) _ (following-site types target giving x tree (way_to (node_no target.place) tree.root))

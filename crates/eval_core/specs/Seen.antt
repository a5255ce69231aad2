-- What is seen of a labelled snapshot.
use Rattle.std.specs.Prelude.{ℕ, suc, List, [], ◌∷◌, ◌++◌, Bool, false, ◌&&◌, nat_eq, Option, Some, None, decimal, if◌then◌else◌}
use Rattle.std.specs.Ordering.{int_eq}
use Rattle.std.specs.Str.{bytes_eq}
use Rattle.snap_core.specs.Value.{Value, null, text, integer}
use Rattle.snap_core.specs.declared.number.ModelNo.{ModelNo}
use Rattle.snap_core.specs.declared.number.NodeNo.{NodeNo}
use Rattle.snap_core.specs.declared.ident.Ident.{Ident}
use Rattle.pointer_core.specs.Path.{Path}
use Rattle.edit_core.specs.declared.kind.Kind.{Kind}
use Rattle.edit_core.specs.declared.kind.Kind.TheVariants.{Model, Array, Map}
use Rattle.edit_core.specs.Labelled.{Label, Labelled, Branches, Entries, leaf, many, keyed, no_branches, branch, no_entries, entry, bare}
use Rattle.edit_core.specs.Typing.{Typing, label_of}
use Rattle.eval_core.specs.Sight.{Sight, Being, Held, Entry, holds, stands, refers}
use Rattle.eval_core.specs.Reading.{is_model}

-- a type that is a reference's, names, optional, maybe and maybeNull seen through
pub record Target : Type 0 where
  pub safe : Bool
  pub model : ModelNo

-- what types say of a document that is seen
pub record Seeing : Type 0 where
  pub typing : Typing
  pub target_of : ℕ → Option Target

-- a node where it stands
pub record Spot : Type 0 where
  pub label : Label
  pub path : Path
  pub value : Labelled

-- the nodes in document order
abbrev mutual
  pub spots_in : Path → Labelled → List Spot
  spots_in path (leaf v) = []
  spots_in path (many l bs) = record { label = l; path = path; value = many l bs } ∷ item_spots path 0 bs
  spots_in path (keyed l es) = record { label = l; path = path; value = keyed l es } ∷ entry_spots path es

  pub item_spots : Path → ℕ → Branches Label → List Spot
  item_spots path i no_branches = []
  item_spots path i (branch x bs) = spots_in (path ++ decimal i ∷ []) x ++ item_spots path (suc i) bs

  pub entry_spots : Path → Entries Label → List Spot
  entry_spots path no_entries = []
  entry_spots path (entry k x es) = spots_in (path ++ k ∷ []) x ++ entry_spots path es

-- the node of a number
abbrev pub spot_of : NodeNo → List Spot → Option Spot
spot_of n [] = None
spot_of n (spot ∷ spots) = if nat_eq spot.label.number n.0 then Some spot else spot_of n spots

abbrev pub ident_in : Value → Option Ident
ident_in (text t) = Some (Ident.Text t)
ident_in (integer z) = Some (Ident.Number z)
ident_in v = None

-- what a part of a node holds, by its type
abbrev pub leaf_held : Option Target → Value → Held
leaf_held (Some t) v = refers (record { safe = t.safe; model = t.model; identifier = ident_in v })
leaf_held None v = holds v

abbrev pub held_in : Seeing → ℕ → Labelled → Held
held_in seeing t (leaf v) = leaf_held (seeing.target_of t) v
held_in seeing t (many l bs) = stands (record { 0 = l.number })
held_in seeing t (keyed l es) = stands (record { 0 = l.number })

abbrev pub items_held : Seeing → ℕ → ℕ → Branches Label → List Entry
items_held seeing t i no_branches = []
items_held seeing t i (branch x bs) = record { token = decimal i; held = held_in seeing t x } ∷ items_held seeing t (suc i) bs

abbrev pub entries_held : Seeing → Kind → Entries Label → List Entry
entries_held seeing kind no_entries = []
entries_held seeing kind (entry k x es) = record { token = k; held = held_in seeing (seeing.typing.type_under kind k) x } ∷ entries_held seeing kind es

-- the part of a model or of a map under a key
abbrev pub part_under : List ℕ → Entries Label → Option Labelled
part_under key no_entries = None
part_under key (entry k x es) = if bytes_eq key k then Some x else part_under key es

-- what is seen of one node
abbrev pub held_part : Seeing → ℕ → Option Labelled → Option Held
held_part seeing t (Some x) = Some (held_in seeing t x)
held_part seeing t None = None

abbrev pub prop_in : Seeing → List ℕ → Kind → Labelled → Option Held
prop_in seeing p (Model m) (keyed l es) = held_part seeing (seeing.typing.type_under (Model m) p) (part_under p es)
prop_in seeing p kind x = None

abbrev pub level_in : Seeing → Kind → Labelled → List Entry
level_in seeing (Array t) (many l bs) = items_held seeing (seeing.typing.type_under (Array t) []) 0 bs
level_in seeing (Map t) (keyed l es) = entries_held seeing (Map t) es
level_in seeing kind x = []

abbrev pub ident_part : Option Labelled → Option Ident
ident_part (Some x) = ident_in (bare x)
ident_part None = None

abbrev pub ident_under : Option (List ℕ) → Labelled → Option Ident
ident_under (Some name) (keyed l es) = ident_part (part_under name es)
ident_under name x = None

abbrev pub identifier_in : Typing → Kind → Labelled → Option Ident
identifier_in typing (Model m) x = ident_under (typing.identifier_of m) x
identifier_in typing kind x = None

abbrev pub being_in : Typing → Spot → Being
being_in typing spot = record { kind = spot.label.kind; identifier = identifier_in typing spot.label.kind spot.value }

abbrev pub same_ident : Ident → Option Ident → Bool
same_ident (Ident.Text t) (Some (Ident.Text u)) = bytes_eq t u
same_ident (Ident.Number y) (Some (Ident.Number z)) = int_eq y z
same_ident i j = false

-- a node is of a model and has an identifier
abbrev pub is_known : ModelNo → Ident → Being → Bool
is_known m i being = is_model m being.kind && same_ident i being.identifier

-- the first node of a model with an identifier
abbrev pub known_in : Typing → ModelNo → Ident → List Spot → Option NodeNo
known_in typing m i [] = None
known_in typing m i (spot ∷ spots) =
    if is_known m i (being_in typing spot) then Some (record { 0 = spot.label.number }) else known_in typing m i spots

-- something of the node of a number, or what is seen where there is none
abbrev pub of_spot : {A : Type 0} → A → (Spot → A) → Option Spot → A
of_spot otherwise seen (Some spot) = seen spot
of_spot otherwise seen None = otherwise

abbrev pub root_in : Option Label → NodeNo
root_in (Some l) = record { 0 = l.number }
root_in None = record { 0 = 0 }

-- what is seen of a labelled snapshot
abbrev pub sight_of : Seeing → Labelled → Sight
sight_of seeing x =
    let spots : List Spot = spots_in [] x in
    record {
      root = root_in (label_of x);
      being = λ n. of_spot None (λ spot. Some (being_in seeing.typing spot)) (spot_of n spots);
      prop = λ n p. of_spot None (λ spot. prop_in seeing p spot.label.kind spot.value) (spot_of n spots);
      level = λ n. of_spot [] (λ spot. level_in seeing spot.label.kind spot.value) (spot_of n spots);
      place = λ n. of_spot [] (λ spot. spot.path) (spot_of n spots);
      whole = λ n. of_spot null (λ spot. bare spot.value) (spot_of n spots);
      known = λ m i. known_in seeing.typing m i spots;
    }

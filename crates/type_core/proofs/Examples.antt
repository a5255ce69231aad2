-- Making and unions, computed on examples and at their edges.
use Rattle.std.proofs.Common.{◌≡◌, ℕ, List, [], ◌∷◌, Bool, true, false, Some, None, Ok, Err, map, pos, refl, rules}
use Rattle.std.specs.Prelude.{codes, decimal}
use Rattle.snap_core.specs.Value.{Value, null, integer, text, list, dict, no_parts, part, no_members, member}
use Rattle.snap_core.specs.Unview.{snap_of}
use Rattle.snap_core.specs.declared.number.TypeNo.{TypeNo}
use Rattle.snap_core.specs.declared.number.ModelNo.{ModelNo}
use Rattle.pointer_core.specs.Path.{Path}
use Rattle.pointer_core.specs.declared.refusal.Rule.{Rule}
use Rattle.pointer_core.specs.declared.refusal.Rule.TheVariants.{Mistyped, Refine}
use Rattle.type_table.specs.declared.shape.Shape.{Shape}
use Rattle.type_table.specs.declared.shape.Shape.TheVariants as shape
use Rattle.type_table.specs.declared.shape.Condition.TheVariants.{Min, Max, StartsWith}
use Rattle.snap_core.proofs.Views.{view-snap_of}
use Rattle.type_table.specs.Table.{Table, Catalog}
use Rattle.type_core.specs.Making.{Outcome, making}
use Rattle.type_table.specs.Unions.{are_apart, chosen, tag_of, models_of}

abbrev type : ℕ → TypeNo
type n = record { 0 = n }

abbrev model : ℕ → ModelNo
model n = record { 0 = n }

abbrev at : Path → Rule → Outcome Value
at path rule = Err (record { path = path; rule = rule })

-- not taken, at the place itself
abbrev no : Outcome Value
no = at [] Mistyped

-- types 0 to 3 are the scalars; 4 a literal "a", 5 an enumeration of "a" and "b", 6 frozen, 7 a string with the default "d",
-- 8 maybe an integer, 9 a union of string and integer, 10 an integer from 3 to 5, 11 an array and 12 a map of integers, 13 the name of 0
some : Catalog
some = record {
  table = record {
    shapes = shape.Str ∷ shape.Integer ∷ shape.Boolean ∷ shape.Null ∷ shape.Literal (snap_of (text (codes "a"))) ∷ shape.Enumeration (codes "a" ∷ codes "b" ∷ [])
        ∷ shape.Frozen ∷ shape.Optional (type 0) (snap_of (text (codes "d"))) ∷ shape.Maybe (type 1) ∷ shape.Union (type 0 ∷ type 1 ∷ [])
        ∷ shape.Refinement (type 1) (Min (pos 3) ∷ Max (pos 5) ∷ []) ∷ shape.Array (type 1) ∷ shape.Map (type 1) ∷ shape.Named (type 0) ∷ [];
    models = [];
  };
  root = model 0;
  defaults = None ∷ None ∷ None ∷ None ∷ None ∷ None ∷ None ∷ Some (snap_of (text (codes "d"))) ∷ [];
}

all : List ℕ
all = 0 ∷ 1 ∷ 2 ∷ 3 ∷ 4 ∷ 5 ∷ 6 ∷ 7 ∷ 8 ∷ 9 ∷ 10 ∷ 11 ∷ 12 ∷ 13 ∷ []

-- where no value is given
of-none : map (λ t. making some t None) all
    ≡ no ∷ no ∷ no ∷ no ∷ no ∷ no ∷ Ok null ∷ Ok (text (codes "d")) ∷ Ok null ∷ no ∷ no ∷ Ok (list tt no_parts) ∷ Ok (dict tt no_members) ∷ no ∷ []
unfolding some all
of-none = search (rules, view-snap_of)

-- of null
of-null : map (λ t. making some t (Some null)) all
    ≡ no ∷ no ∷ no ∷ Ok null ∷ no ∷ no ∷ Ok null ∷ no ∷ Ok null ∷ no ∷ no ∷ no ∷ no ∷ no ∷ []
unfolding some all
of-null = search (rules, view-snap_of)

-- of the text "a"
of-text : map (λ t. making some t (Some (text (codes "a")))) all
    ≡ (let a : Outcome Value = Ok (text (codes "a")) in a ∷ no ∷ no ∷ no ∷ a ∷ a ∷ a ∷ a ∷ no ∷ a ∷ no ∷ no ∷ no ∷ a ∷ [])
unfolding some all
of-text = search (rules, view-snap_of)

-- at the bounds of a refinement; what isn't of its base is refused for its type
bounds : map (λ v. making some 10 (Some v)) (integer (pos 2) ∷ integer (pos 3) ∷ integer (pos 5) ∷ integer (pos 6) ∷ text (codes "4") ∷ [])
    ≡ at [] Refine ∷ Ok (integer (pos 3)) ∷ Ok (integer (pos 5)) ∷ at [] Refine ∷ no ∷ []
unfolding some
bounds = refl

-- the first part that isn't taken, under its index and its key
list-at : making some 11 (Some (list tt (part (integer (pos 1)) (part null (part null no_parts))))) ≡ at (decimal 1 ∷ []) Mistyped
unfolding some
list-at = refl

record-at : making some 12 (Some (dict tt (member (codes "k") (integer (pos 1)) (member (codes "l") null no_members)))) ≡ at (codes "l" ∷ []) Mistyped
unfolding some
record-at = refl

-- Unions of two members, by their shapes: whether they are told apart.
abbrev two : Shape → Shape → Table
two a b = record { shapes = a ∷ b ∷ shape.Str ∷ shape.Integer ∷ []; models = [] }

abbrev apart : Shape → Shape → Bool
apart a b = are_apart (two a b) (type 0 ∷ type 1 ∷ [])

literal : List ℕ → Shape
literal t = shape.Literal (snap_of (text t))

apart-are :
    (apart shape.Str (literal (codes "a")) ∷ apart shape.Integer (literal (codes "a")) ∷ apart (literal (codes "a")) (literal (codes "a")) ∷ apart (literal (codes "a")) (literal (codes "b"))
    ∷ apart (shape.Enumeration (codes "a" ∷ [])) (literal (codes "a")) ∷ apart (shape.Refinement (type 2) (StartsWith (codes "x") ∷ [])) (literal (codes "a"))
    ∷ apart (shape.Refinement (type 3) []) shape.Str ∷ apart shape.Null shape.Boolean ∷ apart (shape.Array (type 2)) (shape.Array (type 3)) ∷ apart (shape.Array (type 2)) (shape.Map (type 3))
    ∷ apart (shape.Map (type 2)) (shape.Map (type 2)) ∷ apart shape.Frozen shape.Null ∷ apart (shape.Maybe (type 2)) shape.Integer ∷ [])
    ≡ false ∷ true ∷ false ∷ true ∷ false ∷ false ∷ true ∷ true ∷ false ∷ true ∷ false ∷ false ∷ false ∷ []
unfolding literal
apart-are = search (rules, view-snap_of)

-- Two models, with literals under two names; their types are 0 and 1.
models : List ℕ → List ℕ → List ℕ → List ℕ → Table
models a b c d = record {
  shapes = shape.Model (model 0) ∷ shape.Model (model 1) ∷ literal a ∷ literal b ∷ literal c ∷ literal d ∷ [];
  models = record { name = codes "A"; properties = record { name = codes "j"; of = type 2 } ∷ record { name = codes "k"; of = type 3 } ∷ []; own = type 0 }
      ∷ record { name = codes "B"; properties = record { name = codes "j"; of = type 4 } ∷ record { name = codes "k"; of = type 5 } ∷ []; own = type 1 } ∷ [];
}

abbrev both : List TypeNo
both = type 0 ∷ type 1 ∷ []

-- the tag is the first name by bytes under which the literals differ
tags : map (λ table. tag_of table (models_of table both))
    (models (codes "x") (codes "x") (codes "y") (codes "y") ∷ models (codes "x") (codes "x") (codes "x") (codes "y") ∷ models (codes "x") (codes "x") (codes "x") (codes "x") ∷ [])
    ≡ Some (codes "j") ∷ Some (codes "k") ∷ None ∷ []
unfolding models literal
tags = search (rules, view-snap_of)

-- a record chooses the model of its tag; without the tag's field, or with another value there, none
choices : map (λ given. chosen (models (codes "x") (codes "x") (codes "x") (codes "y")) both given)
    (dict tt (member (codes "k") (text (codes "y")) no_members) ∷ dict tt (member (codes "j") (text (codes "x")) no_members) ∷ dict tt (member (codes "k") null no_members) ∷ null ∷ [])
    ≡ Some (type 1) ∷ None ∷ None ∷ None ∷ []
unfolding models literal
choices = search (rules, view-snap_of)

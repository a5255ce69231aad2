-- What was read so far, before what is left.
use Rattle.std.proofs.Common.{◌≡◌, ℕ, ◌+◌, List, [], ◌∷◌, ◌++◌, Result, Ok, Err, map, decimal, refl, sym, ap, ◌∙◌}
use Rattle.snap_core.specs.Value.{Value, no_parts, part, no_members, member, Items as PlainItems, Fields}
use Rattle.std.proofs.lemmas.List.{map-append}
use Rattle.serde_json.specs.Data as json
use Rattle.serde_json.specs.Data.{Data, Items}
use Rattle.snap_core.specs.declared.snap.Snap.{Snap}
use Rattle.snap_core.specs.declared.snap.Field.{Field}
use Rattle.snap_core.specs.View.{parts_of, view, entry}
use Rattle.snap_core.specs.View.{members_of as record_of}
use Rattle.pointer_core.specs.Path.{Path}
use Rattle.snap_json.specs.declared.read.ReadError.{ReadError}
use Rattle.snap_json.specs.declared.read.ReadError.TheVariants.{Memory, Syntax, Whole}
use Rattle.snap_json.specs.Fault.{IsFaultOf}
use Rattle.snap_json.specs.Reading.{value_of, items_of, members_of, mapped, joined, under}

-- these values, and then the items
abbrev pub items_before : List Value → PlainItems → PlainItems
items_before [] ps = ps
items_before (v ∷ vs) ps = part v (items_before vs ps)

abbrev pub members_before : List (List ℕ × Value) → Fields → Fields
members_before [] ms = ms
members_before (e ∷ es) ms = member e.0 e.1 (members_before es ms)

pub items_before-none : (vs : List Value) → items_before vs no_parts ≡ parts_of vs
items_before-none [] = refl
items_before-none (v ∷ vs) = ap (part v) (items_before-none vs)

pub members_before-none : (es : List (List ℕ × Value)) → members_before es no_members ≡ record_of es
members_before-none [] = refl
members_before-none (e ∷ es) = ap (member e.0 e.1) (members_before-none es)

pub items_before-part : (vs : List Value) (v : Value) (ps : PlainItems) → items_before vs (part v ps) ≡ items_before (vs ++ v ∷ []) ps
items_before-part [] v ps = refl
items_before-part (w ∷ vs) v ps = ap (part w) (items_before-part vs v ps)

pub members_before-member : (es : List (List ℕ × Value)) (e : List ℕ × Value) (ms : Fields) → members_before es (member e.0 e.1 ms) ≡ members_before (es ++ e ∷ []) ms
members_before-member [] e ms = refl
members_before-member (d ∷ es) e ms = ap (member d.0 d.1) (members_before-member es e ms)

-- nothing was read so far
pub mapped-nothing : {A : Type 0} (r : Result A Path) → r ≡ mapped (λ x. x) r
mapped-nothing (Ok x) = refl
mapped-nothing (Err path) = refl

item_joins : (vs : List Value) (v : Value) (rest : Result PlainItems Path) → mapped (items_before vs) (joined part (Ok v) rest) ≡ mapped (items_before (vs ++ v ∷ [])) rest
item_joins vs v (Ok ps) = ap Ok (items_before-part vs v ps)
item_joins vs v (Err path) = refl

member_joins : (es : List (List ℕ × Value)) (e : List ℕ × Value) (rest : Result Fields Path) → mapped (members_before es) (joined (member e.0) (Ok e.1) rest) ≡ mapped (members_before (es ++ e ∷ [])) rest
member_joins es e (Ok ms) = ap Ok (members_before-member es e ms)
member_joins es e (Err path) = refl

-- one item more was read
pub item_read : (done new : List Snap) (x : Snap) (i : ℕ) (d : Data) (ds : Items) → new ≡ done ++ x ∷ [] → value_of d ≡ Ok (view x)
    → mapped (items_before (map view done)) (items_of i (json.item d ds)) ≡ mapped (items_before (map view new)) (items_of (i + 1) ds)
item_read done new x i d ds longer is =
    ap (λ r. mapped (items_before (map view done)) (joined part (under (decimal i) r) (items_of (i + 1) ds))) is
    ∙ item_joins (map view done) (view x) (items_of (i + 1) ds)
    ∙ ap (λ vs. mapped (items_before vs) (items_of (i + 1) ds)) (sym (ap (map view) longer ∙ map-append view done (x ∷ [])))

-- one member more was read
pub member_read : (done new : List Field) (f : Field) (k : List ℕ) (v : Value) (d : Data) (ms : json.Members) → new ≡ done ++ f ∷ [] → entry f ≡ (k, v) → value_of d ≡ Ok v
    → mapped (members_before (map entry done)) (members_of (json.member k d ms)) ≡ mapped (members_before (map entry new)) (members_of ms)
member_read done new f k v d ms longer seen is =
    ap (λ r. mapped (members_before (map entry done)) (joined (member k) (under k r) (members_of ms))) is
    ∙ member_joins (map entry done) (k, v) (members_of ms)
    ∙ ap (λ es. mapped (members_before es) (members_of ms)) (sym (ap (map entry) longer ∙ map-append entry done (f ∷ []) ∙ ap (λ e. map entry done ++ e ∷ []) seen))

-- the first fault is that of the whole
pub first_fault : {A B C D : Type 0} (e : ReadError) (f : C → D) (g : A → B → C) (r : Result A Path) (rest : Result B Path) → IsFaultOf e r → IsFaultOf e (mapped f (joined g r rest))
first_fault Memory f g r rest h = tt
first_fault Syntax f g r rest h = absurd h
first_fault (Whole path) f g r rest h = rw h refl

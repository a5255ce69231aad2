-- Making the entries of a record one after another: those made so far, in front of what the rest comes to.
use Rattle.std.proofs.Common.{◌≡◌, ℕ, List, [], ◌∷◌, ◌++◌, Option, Result, Ok, Err, IsErrAnd, sym, ◌∙◌, ap, subst, refl, ◌<◌, ◌≤◌, ◌+◌, length, get_or, drop, drop-cons, add-one}
use Rattle.std.proofs.lemmas.List.{drop_all}
use Rattle.snap_core.specs.Value.{Value, no_members, Fields}
use Rattle.snap_core.specs.declared.snap.Field.{Field}
use Rattle.snap_core.specs.declared.snap.Snap.{Snap}
use Rattle.snap_core.specs.View.{view, entry, fields_view}
use Rattle.type_table.specs.declared.shape.Property.{Property}
use Rattle.type_core.specs.declared.making.MakeError.{MakeError}
use Rattle.type_core.specs.declared.making.MakeError.TheVariants.{Memory, Refused}
use Rattle.type_table.specs.Table.{Table}
use Rattle.type_core.specs.Made.{Answers, refused_as}
use Rattle.type_table.specs.Identifiers.{ident_in}
use Rattle.type_core.specs.Judging.{judged_by}
use Rattle.type_core.specs.Making as making
use Rattle.type_core.specs.Making.{Outcome, Maker, FieldMakers, keyed, maker_of, fields_of, under, entry_made, entries_made, property_made, properties_made, field_at}
use Rattle.snap_core.proofs.Views.{entry-fields}

-- the entries in front of what follows
abbrev pub entries_before : List Field → Outcome Fields → Outcome Fields
entries_before [] rest = rest
entries_before (f ∷ fs) rest = entry_made (entry f).0 (Ok (entry f).1) (entries_before fs rest)

pub entries_before-push : (fs : List Field) (f : Field) (rest : Outcome Fields) → entries_before (fs ++ f ∷ []) rest ≡ entries_before fs (entry_made (entry f).0 (Ok (entry f).1) rest)
entries_before-push [] f rest = refl
entries_before-push (g ∷ fs) f rest = ap (entry_made (entry g).0 (Ok (entry g).1)) (entries_before-push fs f rest)

pub entries_before-refused : (fs : List Field) (e : making.Refused) → entries_before fs (Err e) ≡ Err e
entries_before-refused [] e = refl
entries_before-refused (f ∷ fs) e = ap (entry_made (entry f).0 (Ok (entry f).1)) (entries_before-refused fs e)

pub entries_before-all : (fs : List Field) → entries_before fs (Ok no_members) ≡ Ok (fields_view fs)
entries_before-all [] = refl
entries_before-all (f ∷ fs) = ap (entry_made (entry f).0 (Ok (entry f).1)) (entries_before-all fs)

-- one entry more, in front of the rest, where all of it comes to the whole
module _ (made : List Field) (name : List ℕ) (one : Outcome Value) (rest whole : Outcome Fields)
    (so_far : entries_before made (entry_made name one rest) ≡ whole) where
  -- a refused value refuses the whole
  pub entry-refused : (e : MakeError) → Answers {T = Snap} view (Err e) one → Answers {T = List Field} fields_view (Err e) whole
  entry-refused Memory h = tt
  entry-refused (Refused r) h =
      let P : Outcome Value → Type 0 = λ o. entries_before made (entry_made name o rest) ≡ whole in
      sym (subst P h so_far) ∙ entries_before-refused made (refused_as r)

  -- so does one that `?` hands on
  pub entry-handed_on : (e : MakeError) (result : Result (List Field) MakeError) → IsErrAnd result (λ r. r ≡ e)
      → Answers {T = Snap} view (Err e) one → Answers {T = List Field} fields_view result whole
  entry-handed_on e (Ok made) is h = absurd is
  entry-handed_on e (Err r) is h =
      let P : MakeError → Type 0 = λ r. Answers {T = List Field} fields_view (Err r) whole in subst P (sym is) (entry-refused e h)

  -- a made value is one more entry
  pub entry-more : (key : List ℕ) (v : Snap) → Answers {T = Snap} view (Ok v) one → key ≡ name
      → entries_before (made ++ record { key = key; value = v } ∷ []) rest ≡ whole
  entry-more key v h named =
      let P : Outcome Value → Type 0 = λ o. entries_before made (entry_made name o rest) ≡ whole in
      entries_before-push made _ _ ∙ rw (entry-fields (record { key = key; value = v }), named) (subst P h so_far)

module _ (absent : Maker) (ps : List Property) (fields : FieldMakers) (i : ℕ) (made : List Field)
    (so_far : entries_before made (properties_made absent (drop i ps) fields) ≡ properties_made absent ps fields) where
  -- after the last property the entries are all
  pub properties-all : length ps ≤ i → properties_made absent ps fields ≡ Ok (fields_view made)
  properties-all past =
      let P : List Property → Type 0 = λ qs. entries_before made (properties_made absent qs fields) ≡ properties_made absent ps fields in
      sym (subst P (drop_all i ps past) so_far) ∙ entries_before-all made

  module _ (p : Property) (within : i < length ps) (here : p ≡ get_or ps i p) where
    abbrev one : Outcome Value
    one = under p.name (property_made absent p (field_at p.name fields))

    abbrev rest : Outcome Fields
    rest = properties_made absent (drop (i + 1) ps) fields

    -- the properties that are left begin with this one
    left : drop i ps ≡ p ∷ drop (i + 1) ps
    left = rw (add-one, drop-cons ps i p, ← here)

    next : entries_before made (entry_made p.name one rest) ≡ properties_made absent ps fields
    next = let P : List Property → Type 0 = λ qs. entries_before made (properties_made absent qs fields) ≡ properties_made absent ps fields in subst P left so_far

    pub property-handed_on : (e : MakeError) (result : Result (List Field) MakeError) → IsErrAnd result (λ r. r ≡ e)
        → Answers {T = Snap} view (Err e) (under p.name (property_made absent p (field_at p.name fields)))
        → Answers {T = List Field} fields_view result (properties_made absent ps fields)
    property-handed_on = entry-handed_on made p.name one rest (properties_made absent ps fields) next

    pub property-more : (key : List ℕ) (v : Snap) → Answers {T = Snap} view (Ok v) (under p.name (property_made absent p (field_at p.name fields))) → key ≡ p.name
        → entries_before (made ++ record { key = key; value = v } ∷ []) (properties_made absent (drop (i + 1) ps) fields) ≡ properties_made absent ps fields
    property-more = entry-more made p.name one rest (properties_made absent ps fields) next

module _ (table : Table) (defaults : List (Option Snap)) (t : ℕ) (fs : List Field) (i : ℕ) (made : List Field)
    (so_far : entries_before made (entries_made t (fields_of table defaults (fields_view (drop i fs)))) ≡ entries_made t (fields_of table defaults (fields_view fs))) where
  -- after the last field the entries are all
  pub values-all : length fs ≤ i → entries_made t (fields_of table defaults (fields_view fs)) ≡ Ok (fields_view made)
  values-all past =
      let P : List Field → Type 0 = λ gs. entries_before made (entries_made t (fields_of table defaults (fields_view gs))) ≡ entries_made t (fields_of table defaults (fields_view fs)) in
      sym (subst P (drop_all i fs past) so_far) ∙ entries_before-all made

  module _ (f : Field) (within : i < length fs) (here : f ≡ get_or fs i f) where
    abbrev value : Outcome Value
    value = under f.key (keyed f.key (ident_in table (judged_by table (view f.value) t) (view f.value)) (maker_of table defaults (view f.value) t))

    abbrev others : Outcome Fields
    others = entries_made t (fields_of table defaults (fields_view (drop (i + 1) fs)))

    abbrev whole : Outcome Fields
    whole = entries_made t (fields_of table defaults (fields_view fs))

    -- the fields that are left begin with this one
    fields_left : drop i fs ≡ f ∷ drop (i + 1) fs
    fields_left = rw (add-one, drop-cons fs i f, ← here)

    value-next : entries_before made (entry_made f.key value others) ≡ whole
    value-next =
        let P : List Field → Type 0 = λ gs. entries_before made (entries_made t (fields_of table defaults (fields_view gs))) ≡ whole in
        let Q : List ℕ × Value → Type 0 = λ e.
        entries_before made (entry_made e.0 (under e.0 (keyed e.0 (ident_in table (judged_by table e.1 t) e.1) (maker_of table defaults e.1 t))) others) ≡ whole in
        subst Q (entry-fields f) (subst P fields_left so_far)

    pub value-handed_on : (e : MakeError) (result : Result (List Field) MakeError) → IsErrAnd result (λ r. r ≡ e)
        → Answers {T = Snap} view (Err e) value
        → Answers {T = List Field} fields_view result (entries_made t (fields_of table defaults (fields_view fs)))
    value-handed_on = entry-handed_on made f.key value others whole value-next

    pub value-more : (key : List ℕ) (v : Snap) → Answers {T = Snap} view (Ok v) value → key ≡ f.key
        → entries_before (made ++ record { key = key; value = v } ∷ []) (entries_made t (fields_of table defaults (fields_view (drop (i + 1) fs))))
        ≡ entries_made t (fields_of table defaults (fields_view fs))
    value-more = entry-more made f.key value others whole value-next

-- A write of a node leaves it right, with its identifier.
use Rattle.std.proofs.Common.{◌≡◌, ℕ, zero, suc, List, [], ◌∷◌, ◌++◌, length, take, drop, Bool, true, false, Option, Some, None, Ok, IfOk, not, option_map, refl, sym, ap, subst, ◌∙◌}
use Rattle.std.specs.Prelude.{nat_le, slice_get, ◌&&◌}
use Rattle.std.specs.Str.{bytes_eq}
use Rattle.snap_core.specs.Value.{Value, IsPlain, dict, no_members, member, value_at, Fields}
use Rattle.snap_core.specs.declared.number.ModelNo.{ModelNo}
use Rattle.snap_core.specs.declared.number.TypeNo.{TypeNo}
use Rattle.pointer_core.specs.declared.refusal.Rule.TheVariants.{Fixed}
use Rattle.type_table.specs.declared.shape.Property.{Property}
use Rattle.type_table.specs.Table.{Catalog, properties_of}
use Rattle.type_table.specs.Identifiers.{identifies, identifier_of, ident_of, ident_in, ident_under}
use Rattle.type_core.specs.Judging.{judged_by}
use Rattle.type_core.specs.Making.{making, made_by, maker_of, fields_of, keyed as under_key, entries_made, entry_making}
use Rattle.type_core.specs.Makes.{Makes, MakesValues, no_values, one_value}
use Rattle.type_core.specs.Sound.{IsSound}
use Rattle.type_core.proofs.Again.{limited-Ok, MakesValues-again}
use Rattle.type_core.proofs.Laws.{made_by-sound, values-complete}
use Rattle.type_core.proofs.Outcomes.{entry_made-Ok, keyed-Ok}
use Rattle.type_core.proofs.Sound.{AreNamed-properties_of}
use Rattle.edit_core.specs.declared.kind.Kind.{Kind}
use Rattle.edit_core.specs.declared.kind.Kind.TheVariants as kind
use Rattle.edit_core.specs.Comparing.{is_equal}
use Rattle.edit_core.specs.Application.{entry_changed}
use Rattle.edit_core.specs.Edit.{to_item}
use Rattle.edit_core.specs.Labelled.{Label, Labelled, Entry as Part, Branches, Entries, leaf, many, keyed, no_branches, branch, no_entries, entry, branches, entries, items_in, entries_in, bare, bare_items, bare_fields}
use Rattle.edit_core.specs.Labelling.{IfArray, IsLabelledBy}
use Rattle.edit_core.specs.Matching.{by_first}
use Rattle.edit_core.specs.Template.{template, numbered, entry_at}
use Rattle.edit_core.specs.Typing.{both_equal, identity_kept}
use Rattle.edit_core.specs.Ways.{with_part}
use Rattle.edit_core.proofs.Bare.{bare-numbered, bare-template}
use Rattle.edit_core.proofs.Equal.{equal-is}
use Rattle.edit_core.proofs.Labelling.{labelled-anew}
use Rattle.tree_core.specs.Changed.{Changed, placed, value_set, one_item_set}
use Rattle.tree_core.specs.Nodes.{place_in}
use Rattle.tree_core.specs.Outcome.{◌>>=◌, or_refuse, seen_from}
use Rattle.tree_core.specs.TypesTyping.{typing_of, type_under}
use Rattle.tree_core.specs.Write.{Write, set, insert, remove}
use Rattle.tree_core.specs.Writing.{Writing, typing_in, setting, is_name, is_identifier_of, entry_type, entry_path, item_type, item_making, entry_set, key_set, is_renaming, property_set, property_in, property_written, key_put, key_written, item_written, model_kind, map_kind}
use Rattle.tree_core.proofs.Keys.{held}
use Rattle.tree_core.proofs.WriteKeeping.{bound, if-provided, there}
use Rattle.tree_laws.proofs.Literals.{identifier-given}
use Rattle.tree_laws.proofs.Named.{IsFound, is-found, text-itself}
use Rattle.tree_laws.proofs.Right.{ByKind, IsKeyed, IsRight, ItemsRight, ValuesRight, FieldsRight, right-from, known-type}
use Rattle.tree_laws.proofs.RightParts.{KeepsIdentifier, Kept, field-kept, map-kept, values-changed, array-changed, list-same}
use Rattle.tree_laws.proofs.Typed.{list-kind, entry-part, of-record, array-part as typed-item}
use Rattle.tree_laws.proofs.WriteGoing.{seen-Ok, entry-making}
use Rattle.tree_laws.proofs.WriteTyped.{suited, set-typed, set-bare, item_set-typed, item_set-bare, made-again}

-- a value that is made under a key stands under its identifier

module _ (types : Catalog) (sound : IsSound types) where
  pub key-made : (u : ℕ) (key : List ℕ) (v made : Value) → entry_making types u key v ≡ Ok made → IsKeyed types u key made
  key-made u key v made h =
      let own = ident_in types.table (judged_by types.table v u) v in
      let one = keyed-Ok key own (maker_of types.table types.defaults v u) made (limited-Ok (under_key key own (maker_of types.table types.defaults v u)) made h).0 in
      let makes : Makes types.table u (Some v) made = made_by-sound types.table types.defaults sound.defaults.made u (Some v) made one.0 in
      let values : MakesValues types.table u (member key v no_members) (member key made no_members) = one_value u key v made no_members no_members makes one.1 (no_values u) in
      let again = values-complete types.table types.defaults sound.loopless sound.all u (member key made no_members) (member key made no_members) (MakesValues-again types sound u (member key v no_members) (member key made no_members) values) in
      let new = ident_in types.table (judged_by types.table made u) made in
      let parts = entry_made-Ok key (under_key key new (maker_of types.table types.defaults made u)) (entries_made u (fields_of types.table types.defaults no_members)) (member key made no_members) again in
      (keyed-Ok key new (maker_of types.table types.defaults made u) parts.0 parts.2).1

  -- parts of lists of parts
  abbrev AllRight : ℕ → List Labelled → Type 0
  AllRight u xs = ItemsRight types u (branches xs)

  abbrev EachRight : ℕ → List Part → Type 0
  EachRight u es = ValuesRight types u (entries es)

  all-in : (u : ℕ) (bs : Branches Label) → ItemsRight types u bs → AllRight u (items_in bs)
  all-in u no_branches h = tt
  all-in u (branch x bs) h = (h.0, all-in u bs h.1)

  all-take : (u n : ℕ) (xs : List Labelled) → AllRight u xs → AllRight u (take n xs)
  all-take u zero xs h = tt
  all-take u (suc n) [] h = tt
  all-take u (suc n) (x ∷ xs) h = (h.0, all-take u n xs h.1)

  all-drop : (u n : ℕ) (xs : List Labelled) → AllRight u xs → AllRight u (drop n xs)
  all-drop u zero xs h = h
  all-drop u (suc n) [] h = tt
  all-drop u (suc n) (x ∷ xs) h = all-drop u n xs h.1

  all-joined : (u : ℕ) (xs ys : List Labelled) → AllRight u xs → AllRight u ys → AllRight u (xs ++ ys)
  all-joined u [] ys h g = g
  all-joined u (x ∷ xs) ys h g = (h.0, all-joined u xs ys h.1 g)

  each-in : (u : ℕ) (es : Entries Label) → ValuesRight types u es → EachRight u (entries_in es)
  each-in u no_entries h = tt
  each-in u (entry k x es) h = (h.0, h.1, each-in u es h.2)

  each-take : (u n : ℕ) (es : List Part) → EachRight u es → EachRight u (take n es)
  each-take u zero es h = tt
  each-take u (suc n) [] h = tt
  each-take u (suc n) (e ∷ es) h = (h.0, h.1, each-take u n es h.2)

  each-drop : (u n : ℕ) (es : List Part) → EachRight u es → EachRight u (drop n es)
  each-drop u zero es h = h
  each-drop u (suc n) [] h = tt
  each-drop u (suc n) (e ∷ es) h = each-drop u n es h.2

  each-joined : (u : ℕ) (es fs : List Part) → EachRight u es → EachRight u fs → EachRight u (es ++ fs)
  each-joined u [] fs h g = g
  each-joined u (e ∷ es) fs h g = (h.0, h.1, each-joined u es fs h.2 g)

  array-joined : (k : Kind) (i j : ℕ) (bs : Branches Label) (ys : List Labelled) → IfArray k (λ u. ItemsRight types u bs) → AllRight (type_under types.table k []) ys
      → IfArray k (λ u. ItemsRight types u (branches (take i (items_in bs) ++ (ys ++ drop j (items_in bs)))))
  array-joined (kind.Array u) i j bs ys right new =
      let all = all-in u.0 bs right in
      all-joined u.0 (take i (items_in bs)) (ys ++ drop j (items_in bs)) (all-take u.0 i (items_in bs) all) (all-joined u.0 ys (drop j (items_in bs)) new (all-drop u.0 j (items_in bs) all))
  array-joined (kind.Model m) i j bs ys right new = right
  array-joined (kind.Map u) i j bs ys right new = right

  -- a node at its model's own type, right at another that makes the model of its value
  pub own-right : (own t : ℕ) (y : Labelled) (ns : Fields) (k : Kind) → bare y ≡ dict tt ns → (typing_of types.table).kind_of own (dict tt ns) ≡ Some k → (typing_of types.table).kind_of t (dict tt ns) ≡ Some k
      → IsRight types own y → IsRight types t y
  own-right own t (leaf v) ns k is e f right =
      let P : Value → Type 0 = λ u. (typing_of types.table).kind_of own u ≡ None in
      absurd (no (subst P is right.0) e) where
        no : (typing_of types.table).kind_of own (dict tt ns) ≡ None → (typing_of types.table).kind_of own (dict tt ns) ≡ Some k → ⊥
        no a b = cc
  own-right own t (many l bs) ns k is e f right = absurd (cc)
  own-right own t (keyed l fs) ns k is e f right =
      let P : Value → Type 0 = λ v. (typing_of types.table).kind_of own v ≡ Some k in
      let Q : Value → Type 0 = λ v. (typing_of types.table).kind_of t v ≡ Some k in
      (subst Q (sym is) f ∙ (sym (subst P (sym is) e) ∙ right.0), right.1)

both-idents : (a b : Option Value) → both_equal a b ≡ true → ident_of b ≡ ident_of a
both-idents (Some v) (Some w) h = ap (λ u. ident_of (Some u)) (sym (equal-is v w h))
both-idents None b h = absurd (cc)
both-idents (Some v) None h = absurd (cc)

pub kept-idents : (p : Option Property) (ms ns : Fields) → identity_kept (option_map (λ (q : Property). q.name) p) (dict tt ms) (dict tt ns) ≡ true → ident_under p ns ≡ ident_under p ms
kept-idents None ms ns h = refl
kept-idents (Some q) ms ns h = both-idents (value_at q.name ms) (value_at q.name ns) h

-- what isn't renamed is as it was
not-renamed : (a b : Bool) → not (a && not b) ≡ true → a ≡ true → b ≡ true
not-renamed true true h e = refl
not-renamed true false h e = absurd (cc)
not-renamed false b h e = absurd (cc)

-- Each write of a node.

module _ (w : Writing) (sound : IsSound w.types) where
  abbrev Lab : ℕ → Labelled → Type 0
  Lab t x = IsLabelledBy (typing_of w.types.table) t x

  abbrev Made : ℕ → Value → Type 0
  Made t v = maker_of w.types.table w.types.defaults v t ≡ Ok v

  abbrev pub Stays : ℕ → Labelled → Changed → Type 0
  Stays t x c = Kept w.types sound t x c.value

  pub set-right : (u : ℕ) (old : Labelled) (made : Value) → Lab u old → Made u made → IsRight w.types u (value_set (typing_in w) (setting u old made w.next)).value
  set-right u old made labelled m =
      right-from w.types sound u (value_set (typing_in w) (setting u old made w.next)).value (set-typed w sound u old made labelled) (subst (Made u) (sym (set-bare w sound u old made)) m)

  item_set-right : (u : ℕ) (old : Labelled) (made : Value) → Lab u old → Made u made → IsRight w.types u (one_item_set (typing_in w) (setting u old made w.next)).value
  item_set-right u old made labelled m =
      right-from w.types sound u (one_item_set (typing_in w) (setting u old made w.next)).value (item_set-typed w sound u old made labelled) (subst (Made u) (sym (item_set-bare w sound u old made)) m)

  new-right : (u : ℕ) (made : Value) → Made u made → IsRight w.types u (numbered w.next (template (by_first (typing_in w)) u None made))
  new-right u made m =
      right-from w.types sound u (numbered w.next (template (by_first (typing_in w)) u None made)) (labelled-anew (typing_in w) (suited w.types.table) w.next u made)
      (subst (Made u) (sym (bare-numbered w.next (template (by_first (typing_in w)) u None made) ∙ bare-template (by_first (typing_in w)) u None made)) m)

  new-bare : (u : ℕ) (made : Value) → bare (numbered w.next (template (by_first (typing_in w)) u None made)) ≡ made
  new-bare u made = bare-numbered w.next (template (by_first (typing_in w)) u None made) ∙ bare-template (by_first (typing_in w)) u None made

  -- a property of a model

  pub model-is : (k : Kind) → model_kind k ≡ true → (P : Kind → Type 0) → ((m : ModelNo) → k ≡ kind.Model m → P k) → P k
  model-is (kind.Model m) h P f = f m refl
  model-is (kind.Map u) h P f = absurd (cc)
  model-is (kind.Array u) h P f = absurd (cc)

  -- the identifier's property is given the value that it has
  keeps-identifier : (m : ModelNo) (key : List ℕ) (old y : Labelled) (v made : Value) → bare y ≡ made → making w.types (type_under w.types.table (kind.Model m) key) (Some v) ≡ Ok made
      → ((q : Property) → identifier_of w.types.table m.0 ≡ Some q → q.name ≡ key → is_equal (bare old) v ≡ true) → KeepsIdentifier w.types m key (bare old) (bare y)
  keeps-identifier m key old y v made is h same = λ q e n.
      let found : IsFound (identifies w.types.table) (properties_of w.types.table m.0) q = is-found (identifies w.types.table) (properties_of w.types.table m.0) q (AreNamed-properties_of w.types m.0 sound) e in
      let type : type_under w.types.table (kind.Model m) key ≡ q.of.0 = known-type w.types.table m q key (sym n) found.named in
      let P : ℕ → Type 0 = λ u. made_by w.types.table w.types.defaults u (Some v) ≡ Ok made in
      let by : made_by w.types.table w.types.defaults q.of.0 (Some v) ≡ Ok made =
      subst P type (limited-Ok (made_by w.types.table w.types.defaults (type_under w.types.table (kind.Model m) key) (Some v)) made h).0 in
      let given : ◌≡◌ {A = Option Value} (Some v) (Some made) = identifier-given w.types sound q.of.0 (Some v) made found.passes by in
      let equal : bare old ≡ v = equal-is (bare old) v (same q e n) in
      ap ident_of (ap Some is ∙ sym given ∙ ap Some (sym equal))

  named-identifier : (m : ModelNo) (key : List ℕ) (q : Property) → identifier_of w.types.table m.0 ≡ Some q → q.name ≡ key → is_name key ((typing_in w).identifier_of m) ≡ true
  named-identifier m key q e n = ap (λ o. is_name key (option_map (λ (p : Property). p.name) o)) e ∙ ap (bytes_eq key) n ∙ text-itself key

  pub property-right : (t : ℕ) (l : Label) (es : Entries Label) (key : List ℕ) (write : Write) (m : ModelNo) → l.kind ≡ kind.Model m → Lab t (keyed l es) → IsRight w.types t (keyed l es) → IsPlain (bare (keyed l es))
      → IfOk (property_written w (record { node = keyed l es; key = key }) write) (Stays t (keyed l es))
  property-right t l es key write m is labelled right plain =
      bound (or_refuse (entry_at key (entries_in es)) w.named _) _ (Stays t (keyed l es)) (λ old h. by write old (there _ w.named _ old h)) where
        kind_is : (typing_of w.types.table).kind_of t (dict tt (bare_fields es)) ≡ Some (kind.Model m)
        kind_is = right.0 ∙ ap Some is

        fields : FieldsRight w.types es (properties_of w.types.table m.0)
        fields = let P : Kind → Type 0 = λ k. ByKind k (λ n. FieldsRight w.types es (properties_of w.types.table n.0)) (λ u. ValuesRight w.types u es) in subst P is right.1

        set_made : (v : Value) (old : Labelled) (made : Value) → entry_at key (entries_in es) ≡ Some old → not (is_renaming w (record { node = keyed l es; key = key }) (bare old) v) ≡ true
            → making w.types (type_under w.types.table l.kind key) (Some v) ≡ Ok made → Stays t (keyed l es) (entry_set w (record { node = keyed l es; key = key }) old made)
        set_made v old made h kept g =
            let i : ℕ = place_in key (entries_in es) in
            let u : ℕ = type_under w.types.table l.kind key in
            let found = held key es old plain h in
            let part : Lab u old = entry-part w.types sound l.kind i key es old found (of-record w.types sound l.kind es labelled.1) in
            let y : Labelled = (value_set (typing_in w) (setting u old made w.next)).value in
            let U : Kind → Type 0 = λ k. IsRight w.types (type_under w.types.table k key) y in
            let G : Kind → Type 0 = λ k. making w.types (type_under w.types.table k key) (Some v) ≡ Ok made in
            let N : Kind → Type 0 = λ k. not (is_identifier_of (typing_in w) (Some k) key && not (is_equal (bare old) v)) ≡ true in
            field-kept w.types sound t m l i key es old (with_part [] y) is found kind_is fields (subst U is (set-right u old made part (made-again w sound u v made g)))
            (keeps-identifier m key old y v made (set-bare w sound u old made) (subst G is g)
            (λ q e n. not-renamed (is_name key ((typing_in w).identifier_of m)) (is_equal (bare old) v) (subst N is kept) (named-identifier m key q e n)))

        set_to : (v : Value) (old : Labelled) → entry_at key (entries_in es) ≡ Some old → IfOk (property_set w (record { node = keyed l es; key = key }) old v) (Stays t (keyed l es))
        set_to v old h =
            if-provided (not (is_renaming w (record { node = keyed l es; key = key }) (bare old) v)) (entry_path w (record { node = keyed l es; key = key })) Fixed _ (Stays t (keyed l es))
            (λ kept. bound (seen_from (entry_path w (record { node = keyed l es; key = key })) (making w.types (entry_type w (record { node = keyed l es; key = key })) (Some v))) _ (Stays t (keyed l es))
            (λ made g. set_made v old made h kept (seen-Ok _ _ made g)))

        by : (write : Write) (old : Labelled) → entry_at key (entries_in es) ≡ Some old
            → IfOk (property_in w.named write >>= (λ v. property_set w (record { node = keyed l es; key = key }) old v)) (Stays t (keyed l es))
        by (set v) old h = set_to v old h
        by (insert v) old h = set_to v old h
        by remove old h = tt

  -- a value of a map

  pub map-is : (k : Kind) → map_kind k ≡ true → (P : Kind → Type 0) → ((u : TypeNo) → k ≡ kind.Map u → P k) → P k
  map-is (kind.Map u) h P f = f u refl
  map-is (kind.Model m) h P f = absurd (cc)
  map-is (kind.Array u) h P f = absurd (cc)

  module _ (t : ℕ) (l : Label) (es : Entries Label) (key : List ℕ) (u : TypeNo) (is : l.kind ≡ kind.Map u) (labelled : Lab t (keyed l es)) (right : IsRight w.types t (keyed l es)) (plain : IsPlain (bare (keyed l es))) where
    map_kind_of : (typing_of w.types.table).kind_of t (dict tt (bare_fields es)) ≡ Some (kind.Map u)
    map_kind_of = right.0 ∙ ap Some is

    map_values : ValuesRight w.types u.0 es
    map_values = let P : Kind → Type 0 = λ k. ByKind k (λ n. FieldsRight w.types es (properties_of w.types.table n.0)) (λ v. ValuesRight w.types v es) in subst P is right.1

    put-right : (v made : Value) → entry_making w.types (type_under w.types.table l.kind key) key v ≡ Ok made → (o : Option Labelled) → entry_at key (entries_in es) ≡ o
        → Stays t (keyed l es) (key_set w (record { node = keyed l es; key = key }) made o)
    put-right v made g (Some old) h =
        let i : ℕ = place_in key (entries_in es) in
        let t2 : ℕ = type_under w.types.table l.kind key in
        let found = held key es old plain h in
        let part : Lab t2 old = entry-part w.types sound l.kind i key es old found (of-record w.types sound l.kind es labelled.1) in
        let y : Labelled = (value_set (typing_in w) (setting t2 old made w.next)).value in
        let U : Kind → Type 0 = λ k. IsRight w.types (type_under w.types.table k key) y in
        let K : Kind → Type 0 = λ k. IsKeyed w.types (type_under w.types.table k key) key (bare y) in
        let m : Made t2 made = made-again w sound t2 v made (entry-making w.types t2 key v made g) in
        map-kept w.types sound t u l es (entry_changed i (with_part [] y) es) is map_kind_of
        (values-changed w.types sound u.0 i key es old (with_part [] y) found map_values (subst U is (set-right t2 old made part m))
        (subst K is (subst (IsKeyed w.types t2 key) (sym (set-bare w sound t2 old made)) (key-made w.types sound t2 key v made g))))
    put-right v made g None h =
        let i : ℕ = place_in key (entries_in es) in
        let t2 : ℕ = type_under w.types.table l.kind key in
        let y : Labelled = numbered w.next (template (by_first (typing_in w)) t2 None made) in
        let U : Kind → Type 0 = λ k. IsRight w.types (type_under w.types.table k key) y in
        let K : Kind → Type 0 = λ k. IsKeyed w.types (type_under w.types.table k key) key (bare y) in
        let m : Made t2 made = made-again w sound t2 v made (entry-making w.types t2 key v made g) in
        let all = each-in w.types sound u.0 es map_values in
        map-kept w.types sound t u l es _ is map_kind_of
        (each-joined w.types sound u.0 (take i (entries_in es)) _ (each-take w.types sound u.0 i (entries_in es) all)
        (subst U is (new-right t2 made m), subst K is (subst (IsKeyed w.types t2 key) (sym (new-bare t2 made)) (key-made w.types sound t2 key v made g)), each-drop w.types sound u.0 _ (entries_in es) all))

    key-put : (v : Value) → IfOk (key_put w (record { node = keyed l es; key = key }) v) (Stays t (keyed l es))
    key-put v =
        bound (seen_from (entry_path w (record { node = keyed l es; key = key })) (entry_making w.types (entry_type w (record { node = keyed l es; key = key })) key v)) _ (Stays t (keyed l es))
        (λ made g. put-right v made (seen-Ok _ _ made g) (entry_at key (entries_in es)) refl)

    pub key-right : (write : Write) → IfOk (key_written w (record { node = keyed l es; key = key }) write) (Stays t (keyed l es))
    key-right (set v) = key-put v
    key-right (insert v) = key-put v
    key-right remove =
        bound (or_refuse (entry_at key (entries_in es)) w.named _) _ (Stays t (keyed l es))
        (λ old h.
        let i : ℕ = place_in key (entries_in es) in
        let all = each-in w.types sound u.0 es map_values in
        map-kept w.types sound t u l es _ is map_kind_of
        (each-joined w.types sound u.0 (take i (entries_in es)) _ (each-take w.types sound u.0 i (entries_in es) all) (each-drop w.types sound u.0 _ (entries_in es) all)))

  -- an item of an array
  pub item-right : (t : ℕ) (l : Label) (bs : Branches Label) (i : ℕ) (write : Write) → Lab t (many l bs) → IsRight w.types t (many l bs)
      → IfOk (item_written w (record { node = many l bs; index = i }) write) (Stays t (many l bs))
  item-right t l bs i (set v) labelled right =
      bound (or_refuse (slice_get (items_in bs) i) w.named _) _ (Stays t (many l bs))
      (λ old h. bound (item_making w (record { node = many l bs; index = i }) v) _ (Stays t (many l bs))
      (λ made g. by old made (there _ w.named _ old h) (made-again w sound (type_under w.types.table l.kind []) v made (seen-Ok _ _ made g)))) where
        by : (old : Labelled) (made : Value) → slice_get (items_in bs) i ≡ Some old → Made (type_under w.types.table l.kind []) made
            → Stays t (many l bs) (placed (to_item i ∷ []) (many l bs) (one_item_set (typing_in w) (setting (item_type w (record { node = many l bs; index = i })) old made w.next)))
        by old made found m =
            let u : ℕ = type_under w.types.table l.kind [] in
            let y : Labelled = (one_item_set (typing_in w) (setting u old made w.next)).value in
            record {
              right = (list-kind w.types sound t l.kind bs _ right.0, array-changed w.types sound l.kind i bs old (with_part [] y) found right.1 (item_set-right u old made (typed-item w.types sound l.kind i bs old found labelled.1) m));
              same = list-same w.types sound t (bare_items bs) _;
            }
  item-right t l bs i (insert v) labelled right =
      if-provided (nat_le i (length (items_in bs))) w.named _ _ (Stays t (many l bs))
      (λ short. bound (item_making w (record { node = many l bs; index = i }) v) _ (Stays t (many l bs))
      (λ made g. record {
        right = (
          list-kind w.types sound t l.kind bs _ right.0,
          array-joined w.types sound l.kind i _ bs (numbered w.next (template (by_first (typing_in w)) (type_under w.types.table l.kind []) None made) ∷ []) right.1
              (new-right (type_under w.types.table l.kind []) made (made-again w sound (type_under w.types.table l.kind []) v made (seen-Ok _ _ made g)), tt),
        );
        same = list-same w.types sound t (bare_items bs) _;
      }))
  item-right t l bs i remove labelled right =
      bound (or_refuse (slice_get (items_in bs) i) w.named _) _ (Stays t (many l bs))
      (λ old h. record { right = (list-kind w.types sound t l.kind bs _ right.0, array-joined w.types sound l.kind i _ bs [] right.1 tt); same = list-same w.types sound t (bare_items bs) _ })

-- A node that is written as a whole is right, with its identifier; so is any written node.
use Rattle.std.proofs.Common.{◌≡◌, ℕ, [], Bool, true, false, Option, Some, None, Ok, IfOk, refl, sym, ap, subst, ◌∙◌}
use Rattle.snap_core.specs.Value.{Value, IsPlain, list, dict, Items, Fields}
use Rattle.snap_core.specs.declared.number.ModelNo.{ModelNo}
use Rattle.snap_core.specs.declared.number.TypeNo.{TypeNo}
use Rattle.type_table.specs.declared.shape.Shape.TheVariants as shape
use Rattle.type_table.specs.Table.{shape_at, properties_of}
use Rattle.type_table.specs.Identifiers.{identifier_of}
use Rattle.type_core.specs.Judging.{judged_by}
use Rattle.type_core.specs.Making.{Outcome, making, made_by, maker_of}
use Rattle.type_core.specs.Sound.{IsSound}
use Rattle.type_core.proofs.Again.{limited-Ok}
use Rattle.type_core.proofs.Choosing.{like-made}
use Rattle.type_core.proofs.Laws.{made_by-sound}
use Rattle.edit_core.specs.declared.kind.Kind.{Kind}
use Rattle.edit_core.specs.declared.kind.Kind.TheVariants as kind
use Rattle.edit_core.specs.Labelled.{Label, Labelled, Branches, Entries, leaf, many, keyed, bare, bare_items, bare_fields}
use Rattle.edit_core.specs.Labelling.{IfArray, IsLabelledBy}
use Rattle.edit_core.specs.Typing.{is_kind}
use Rattle.edit_core.proofs.Equal.{kind-is}
use Rattle.reconcile_core.specs.RealTypes.{kind_by}
use Rattle.tree_core.specs.declared.place.Place.{Place}
use Rattle.tree_core.specs.declared.place.Place.TheVariants as place
use Rattle.tree_core.specs.Changed.{value_set}
use Rattle.pointer_core.specs.declared.refusal.Rule.TheVariants.{Mistyped}
use Rattle.tree_core.specs.Outcome.{provided, seen_from}
use Rattle.tree_core.specs.TypesTyping.{typing_of, model_type}
use Rattle.tree_core.specs.Write.{Write, set, insert, remove}
use Rattle.tree_core.specs.Writing.{Writing, typing_in, setting, other_identifier, node_making, whole_set, whole_written, property_written, key_written, node_written, model_kind, map_kind, array_kind}
use Rattle.tree_core.proofs.WriteKeeping.{bound, if-provided}
use Rattle.tree_laws.proofs.Inside.{if-unfixed}
use Rattle.tree_laws.proofs.Judged.{fits-keep}
use Rattle.tree_laws.proofs.Right.{ByKind, IsRight, ItemsRight, ValuesRight, FieldsRight, right-fits}
use Rattle.tree_laws.proofs.RightParts.{Same, list-same, map-same, model-same}
use Rattle.tree_laws.proofs.RootStays.{Of, model-of, model-fits, model-at, maker-again, identity, same-given}
use Rattle.tree_laws.proofs.Typed.{record-kind, model-shape, map-shape}
use Rattle.tree_laws.proofs.WriteGoing.{seen-Ok}
use Rattle.tree_laws.proofs.WriteRight.{Stays, set-right, own-right, kept-idents, property-right, key-right, item-right, model-is, map-is}
use Rattle.tree_laws.proofs.WriteTyped.{suited, own-shape, set-bare}

provided-both : (b : Bool) (o : Outcome Value) (made : Value) → provided b [] Mistyped o ≡ Ok made → (b ≡ true) × (o ≡ Ok made)
provided-both true o made h = (refl, h)
provided-both false o made h = absurd (cc)

kind-of : (o : Option Kind) (k : Kind) → is_kind o k ≡ true → o ≡ Some k
kind-of None k h = absurd (cc)
kind-of (Some j) k h = ap Some (kind-is j k h)

module _ (w : Writing) (sound : IsSound w.types) where
  abbrev Made : ℕ → Value → Type 0
  Made t v = maker_of w.types.table w.types.defaults v t ≡ Ok v

  -- a model, by its own type
  module _ (l : Label) (es : Entries Label) (m : ModelNo) (is : l.kind ≡ kind.Model m) (labelled : IsLabelledBy (typing_of w.types.table) w.type (keyed l es)) (right : IsRight w.types w.type (keyed l es)) where
    old_kind : (typing_of w.types.table).kind_of w.type (dict tt (bare_fields es)) ≡ Some (kind.Model m)
    old_kind = right.0 ∙ ap Some is

    old_fields : FieldsRight w.types es (properties_of w.types.table m.0)
    old_fields = let P : Kind → Type 0 = λ k. ByKind k (λ n. FieldsRight w.types es (properties_of w.types.table n.0)) (λ u. ValuesRight w.types u es) in subst P is right.1

    shape_own : shape_at w.types.table (model_type w.types m) ≡ Some (shape.Model m)
    shape_own = own-shape w.types sound m w.type (dict tt (bare_fields es)) (model-shape _ (bare_fields es) m old_kind)

    own_judged : (v : Value) → judged_by w.types.table v (model_type w.types m) ≡ Some (shape.Model m)
    own_judged v = model-at w.types sound m (model_type w.types m) shape_own v

    own_kind : (ms : Fields) → (typing_of w.types.table).kind_of (model_type w.types m) (dict tt ms) ≡ Some (kind.Model m)
    own_kind ms = ap (λ s. kind_by s (dict tt ms)) (own_judged (dict tt ms))

    model-made : (v made : Value) → maker_of w.types.table w.types.defaults v (model_type w.types m) ≡ Ok made → other_identifier (typing_in w) (kind.Model m) (keyed l es) v ≡ None
        → Stays w sound w.type (keyed l es) (value_set (typing_in w) (setting (model_type w.types m) (keyed l es) made w.next))
    model-made v made h fixed =
        let of : Of w.types sound m v made = model-of w.types sound m (model_type w.types m) v made (own_judged v) h in
        let P : Value → Type 0 = λ u. Made (model_type w.types m) u in
        let F : Value → Type 0 = λ u. other_identifier (typing_in w) (kind.Model m) (keyed l es) u ≡ None in
        let again : Made (model_type w.types m) made = maker-again w.types sound (model_type w.types m) v made h in
        let fits = model-fits w.types sound m (model_type w.types m) of.made (own_judged (dict tt of.made)) (subst P of.to again) in
        let old = right-fits w.types sound es (properties_of w.types.table m.0) old_fields in
        let y : Labelled = (value_set (typing_in w) (setting (model_type w.types m) (keyed l es) made w.next)).value in
        let at_own : IsLabelledBy (typing_of w.types.table) (model_type w.types m) (keyed l es) = (own_kind (bare_fields es) ∙ ap Some (sym is), labelled.1) in
        let bare_y : bare y ≡ dict tt of.made = set-bare w sound (model_type w.types m) (keyed l es) made ∙ of.to in
        let new_kind : (typing_of w.types.table).kind_of w.type (dict tt of.made) ≡ Some (kind.Model m) =
        record-kind w.types sound w.type (kind.Model m) (bare_fields es) of.made (fits-keep w.types sound m (bare_fields es) of.made fits) old_kind in
        let kept = identity w.types sound m l es of.given of.made old fits (identifier_of w.types.table m.0) refl (λ q e. same-given w.types sound m of.given of.made of.each q e) (subst F of.from fixed) in
        let S : Value → Type 0 = λ u. Same w.types w.type (dict tt (bare_fields es)) u in
        record {
          right = own-right w.types sound (model_type w.types m) w.type y of.made (kind.Model m) bare_y (own_kind of.made) new_kind (set-right w sound (model_type w.types m) (keyed l es) made at_own again);
          same = subst S (sym bare_y)
              (model-same w.types sound w.type m (bare_fields es) of.made (model-shape _ (bare_fields es) m old_kind) (model-shape _ of.made m new_kind) (kept-idents (identifier_of w.types.table m.0) (bare_fields es) of.made kept));
        }

    model-right : (v : Value) → IfOk (whole_set w (kind.Model m) v (keyed l es)) (Stays w sound w.type (keyed l es))
    model-right v =
        if-unfixed w.node (other_identifier (typing_in w) (kind.Model m) (keyed l es) v) _ (Stays w sound w.type (keyed l es))
        (λ fixed. bound (seen_from w.node (making w.types (model_type w.types m) (Some v))) _ (Stays w sound w.type (keyed l es))
        (λ made h. model-made v made (limited-Ok (made_by w.types.table w.types.defaults (model_type w.types m) (Some v)) made (seen-Ok w.node (making w.types (model_type w.types m) (Some v)) made h)).0 fixed))

  -- an array and a map, by the type of the place

  list-like : (t : ℕ) (v made : Value) (u : TypeNo) → (typing_of w.types.table).kind_of t v ≡ Some (kind.Array u) → maker_of w.types.table w.types.defaults v t ≡ Ok made → (qs : Items) × (made ≡ list tt qs)
  list-like t (list a ps) made u e h = like-made w.types.table t (Some (list a ps)) made (made_by-sound w.types.table w.types.defaults sound.defaults.made t (Some (list a ps)) made h)
  list-like t v made u e h = absurd (suited w.types.table t v (kind.Array u) e)

  dict-like : (t : ℕ) (v made : Value) (u : TypeNo) → (typing_of w.types.table).kind_of t v ≡ Some (kind.Map u) → maker_of w.types.table w.types.defaults v t ≡ Ok made → (ns : Fields) × (made ≡ dict tt ns)
  dict-like t (dict a ms) made u e h = like-made w.types.table t (Some (dict a ms)) made (made_by-sound w.types.table w.types.defaults sound.defaults.made t (Some (dict a ms)) made h)
  dict-like t v made u e h = absurd (suited w.types.table t v (kind.Map u) e)

  map-right : (l : Label) (es : Entries Label) (u : TypeNo) (v : Value) → l.kind ≡ kind.Map u → IsLabelledBy (typing_of w.types.table) w.type (keyed l es) → IsRight w.types w.type (keyed l es)
      → IfOk (whole_set w (kind.Map u) v (keyed l es)) (Stays w sound w.type (keyed l es))
  map-right l es u v is labelled right =
      bound (seen_from w.node (node_making w.types (kind.Map u) w.type v)) _ (Stays w sound w.type (keyed l es)) (λ made h. by made (provided-both _ (making w.types w.type (Some v)) made (seen-Ok w.node _ made h))) where
        by : (made : Value) → (is_kind ((typing_of w.types.table).kind_of w.type v) (kind.Map u) ≡ true) × (making w.types w.type (Some v) ≡ Ok made)
            → Stays w sound w.type (keyed l es) (value_set (typing_in w) (setting w.type (keyed l es) made w.next))
        by made (k, g) =
            let h = (limited-Ok (made_by w.types.table w.types.defaults w.type (Some v)) made g).0 in
            let like = dict-like w.type v made u (kind-of _ (kind.Map u) k) h in
            let y : Labelled = (value_set (typing_in w) (setting w.type (keyed l es) made w.next)).value in
            let old_kind : (typing_of w.types.table).kind_of w.type (dict tt (bare_fields es)) ≡ Some (kind.Map u) = right.0 ∙ ap Some is in
            let new_kind : (typing_of w.types.table).kind_of w.type (dict tt like.0) ≡ Some (kind.Map u) = record-kind w.types sound w.type (kind.Map u) (bare_fields es) like.0 tt old_kind in
            let S : Value → Type 0 = λ u. Same w.types w.type (dict tt (bare_fields es)) u in
            record {
              right = set-right w sound w.type (keyed l es) made labelled (maker-again w.types sound w.type v made h);
              same = subst S (sym (set-bare w sound w.type (keyed l es) made ∙ like.1)) (map-same w.types sound w.type u (bare_fields es) like.0 (map-shape _ (bare_fields es) u old_kind) (map-shape _ like.0 u new_kind));
            }

  array-right : (l : Label) (bs : Branches Label) (u : TypeNo) (v : Value) → IsLabelledBy (typing_of w.types.table) w.type (many l bs)
      → IfOk (whole_set w (kind.Array u) v (many l bs)) (Stays w sound w.type (many l bs))
  array-right l bs u v labelled =
      bound (seen_from w.node (node_making w.types (kind.Array u) w.type v)) _ (Stays w sound w.type (many l bs)) (λ made h. by made (provided-both _ (making w.types w.type (Some v)) made (seen-Ok w.node _ made h))) where
        by : (made : Value) → (is_kind ((typing_of w.types.table).kind_of w.type v) (kind.Array u) ≡ true) × (making w.types w.type (Some v) ≡ Ok made)
            → Stays w sound w.type (many l bs) (value_set (typing_in w) (setting w.type (many l bs) made w.next))
        by made (k, g) =
            let h = (limited-Ok (made_by w.types.table w.types.defaults w.type (Some v)) made g).0 in
            let like = list-like w.type v made u (kind-of _ (kind.Array u) k) h in
            let S : Value → Type 0 = λ u. Same w.types w.type (list tt (bare_items bs)) u in
            record {
              right = set-right w sound w.type (many l bs) made labelled (maker-again w.types sound w.type v made h);
              same = subst S (sym (set-bare w sound w.type (many l bs) made ∙ like.1)) (list-same w.types sound w.type (bare_items bs) like.0);
            }

  record-right : (k : Kind) (v : Value) (l : Label) (es : Entries Label) → l.kind ≡ k → IsLabelledBy (typing_of w.types.table) w.type (keyed l es) → IsRight w.types w.type (keyed l es)
      → IfOk (whole_set w k v (keyed l es)) (Stays w sound w.type (keyed l es))
  record-right (kind.Model m) v l es is labelled right = model-right l es m is labelled right v
  record-right (kind.Map u) v l es is labelled right = map-right l es u v is labelled right
  record-right (kind.Array u) v l es is labelled right =
      let P : Kind → Type 0 = λ k. ByKind k (λ n. FieldsRight w.types es (properties_of w.types.table n.0)) (λ u. ValuesRight w.types u es) in absurd (subst P is right.1)

  items-right : (k : Kind) (v : Value) (l : Label) (bs : Branches Label) → l.kind ≡ k → IsLabelledBy (typing_of w.types.table) w.type (many l bs) → IsRight w.types w.type (many l bs)
      → IfOk (whole_set w k v (many l bs)) (Stays w sound w.type (many l bs))
  items-right (kind.Array u) v l bs is labelled right = array-right l bs u v labelled
  items-right (kind.Model m) v l bs is labelled right = let P : Kind → Type 0 = λ k. IfArray k (λ u. ItemsRight w.types u bs) in absurd (subst P is right.1)
  items-right (kind.Map u) v l bs is labelled right = let P : Kind → Type 0 = λ k. IfArray k (λ u. ItemsRight w.types u bs) in absurd (subst P is right.1)

  whole-right : (write : Write) (node : Labelled) (k : Kind) → ((v : Value) → IfOk (whole_set w k v node) (Stays w sound w.type node)) → IfOk (whole_written w k write node) (Stays w sound w.type node)
  whole-right (set v) node k h = h v
  whole-right (insert v) node k h = tt
  whole-right remove node k h = tt

  -- any place of a node
  pub node-right : (at : Place) (write : Write) (node : Labelled) → IsLabelledBy (typing_of w.types.table) w.type node → IsRight w.types w.type node → IsPlain (bare node)
      → IfOk (node_written w at write node) (Stays w sound w.type node)
  node-right at write (leaf v) labelled right plain = tt
  node-right (place.Whole n) write (many l bs) labelled right plain = whole-right write (many l bs) l.kind (λ v. items-right l.kind v l bs refl labelled right)
  node-right (place.Whole n) write (keyed l es) labelled right plain = whole-right write (keyed l es) l.kind (λ v. record-right l.kind v l es refl labelled right)
  node-right (place.Prop n name) write (keyed l es) labelled right plain =
      if-provided (model_kind l.kind) [] _ _ (Stays w sound w.type (keyed l es))
      (λ is. model-is w sound l.kind is (λ k. IfOk (property_written w (record { node = keyed l es; key = name }) write) (Stays w sound w.type (keyed l es)))
      (λ m e. property-right w sound w.type l es name write m e labelled right plain))
  node-right (place.Prop n name) write (many l bs) labelled right plain = tt
  node-right (place.Item n i) write (many l bs) labelled right plain = if-provided (array_kind l.kind) [] _ _ (Stays w sound w.type (many l bs)) (λ _. item-right w sound w.type l bs i write labelled right)
  node-right (place.Item n i) write (keyed l es) labelled right plain = tt
  node-right (place.Key n key) write (keyed l es) labelled right plain =
      if-provided (map_kind l.kind) [] _ _ (Stays w sound w.type (keyed l es))
      (λ is. map-is w sound l.kind is (λ k. IfOk (key_written w (record { node = keyed l es; key = key }) write) (Stays w sound w.type (keyed l es)))
      (λ u e. key-right w sound w.type l es key u e labelled right plain write))
  node-right (place.Key n key) write (many l bs) labelled right plain = tt

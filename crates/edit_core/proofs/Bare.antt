-- Without its labels, a written value is the value that is given.
use Rattle.std.proofs.Common.{◌≡◌, ℕ, ◌+◌, List, Bool, true, false, Option, Some, None, if◌then◌else◌, refl, ◌∙◌, ap}
use Rattle.snap_core.specs.Value.{Value, null, boolean, integer, text, list, dict, no_parts, part, no_members, member, Items, Fields}
use Rattle.edit_core.specs.declared.kind.Kind.{Kind}
use Rattle.edit_core.specs.declared.kind.Kind.TheVariants.{Model, Array, Map}
use Rattle.edit_core.specs.Labelled.{Label, Branches, Entries, Labelled, Entry, leaf, many, keyed, no_branches, branch, no_entries, entry, bare, bare_items, bare_fields}
use Rattle.edit_core.specs.Comparing.{is_equal}
use Rattle.edit_core.specs.Typing.{Rules}
use Rattle.edit_core.specs.Template.{NewLabel, Template, kept, kept_branches, kept_entries, unless_equal, array_template, record_template, template, item_templates, field_templates, first_in, rest_of, entry_at, draws, new_count, numbered, numbered_items, numbered_entries}
use Rattle.edit_core.proofs.Equal.{equal-is}

mutual
  pub bare-kept : (x : Labelled) → bare (kept x) ≡ bare x
  bare-kept (leaf v) = refl
  bare-kept (many l bs) = ap (list tt) (bare-kept_branches bs)
  bare-kept (keyed l es) = ap (dict tt) (bare-kept_entries es)

  bare-kept_branches : (bs : Branches Label) → bare_items (kept_branches bs) ≡ bare_items bs
  bare-kept_branches no_branches = refl
  bare-kept_branches (branch x bs) = let e : bare (kept x) ≡ bare x = bare-kept x in let es : bare_items (kept_branches bs) ≡ bare_items bs = bare-kept_branches bs in cc

  bare-kept_entries : (es : Entries Label) → bare_fields (kept_entries es) ≡ bare_fields es
  bare-kept_entries no_entries = refl
  bare-kept_entries (entry k x es) = let e : bare (kept x) ≡ bare x = bare-kept x in let rest : bare_fields (kept_entries es) ≡ bare_fields es = bare-kept_entries es in cc

bare-unless_equal : (old : Option Labelled) (v : Value) (other : Template) → bare other ≡ v → bare (unless_equal old v other) ≡ v
bare-unless_equal None v other h = h
bare-unless_equal (Some old) v other h = go (is_equal (bare old) v) refl where
  go : (b : Bool) → is_equal (bare old) v ≡ b → bare (if b then kept old else other) ≡ v
  go true same = bare-kept old ∙ equal-is (bare old) v same
  go false different = h

bare-array : (r : Rules) (kind : Option Kind) (old : Option Labelled) (ps : Items) (making : ℕ → List (Option Labelled) → Branches NewLabel)
    → ((t : ℕ) (olds : List (Option Labelled)) → bare_items (making t olds) ≡ ps) → bare (array_template r kind old ps making) ≡ list tt ps
bare-array r (Some (Array t)) old ps making h = ap (list tt) (h t.0 _)
bare-array r (Some (Map t)) old ps making h = refl
bare-array r (Some (Model m)) old ps making h = refl
bare-array r None old ps making h = refl

bare-record : (r : Rules) (kind : Option Kind) (old : Option Labelled) (ms : Fields) (making : Kind → List Entry → Entries NewLabel)
    → ((k : Kind) (olds : List Entry) → bare_fields (making k olds) ≡ ms) → bare (record_template r kind old ms making) ≡ dict tt ms
bare-record r (Some (Array t)) old ms making h = refl
bare-record r (Some (Map t)) old ms making h = ap (dict tt) (h (Map t) _)
bare-record r (Some (Model m)) old ms making h = ap (dict tt) (h (Model m) _)
bare-record r None old ms making h = refl

mutual
  pub bare-template : (r : Rules) (t : ℕ) (old : Option Labelled) (v : Value) → bare (template r t old v) ≡ v
  bare-template r t old null = refl
  bare-template r t old (boolean b) = refl
  bare-template r t old (integer z) = refl
  bare-template r t old (text s) = refl
  bare-template r t old (list a ps) =
      bare-unless_equal old (list a ps) (array_template r (r.typing.kind_of t (list a ps)) old ps (item_templates r ps))
      (bare-array r (r.typing.kind_of t (list a ps)) old ps (item_templates r ps) (bare-items r ps))
  bare-template r t old (dict a ms) =
      bare-unless_equal old (dict a ms) (record_template r (r.typing.kind_of t (dict a ms)) old ms (field_templates r ms))
      (bare-record r (r.typing.kind_of t (dict a ms)) old ms (field_templates r ms) (bare-fields r ms))

  pub bare-items : (r : Rules) (ps : Items) (t : ℕ) (olds : List (Option Labelled)) → bare_items (item_templates r ps t olds) ≡ ps
  bare-items r no_parts t olds = refl
  bare-items r (part v ps) t olds =
      let e : bare (template r t (first_in olds) v) ≡ v = bare-template r t (first_in olds) v in
      let es : bare_items (item_templates r ps t (rest_of olds)) ≡ ps = bare-items r ps t (rest_of olds) in
      cc

  pub bare-fields : (r : Rules) (ms : Fields) (kind : Kind) (olds : List Entry) → bare_fields (field_templates r ms kind olds) ≡ ms
  bare-fields r no_members kind olds = refl
  bare-fields r (member k v ms) kind olds =
      let e : bare (template r (r.typing.type_under kind k) (entry_at k olds) v) ≡ v = bare-template r (r.typing.type_under kind k) (entry_at k olds) v in
      let es : bare_fields (field_templates r ms kind olds) ≡ ms = bare-fields r ms kind olds in
      cc

mutual
  pub bare-numbered : (next : ℕ) (t : Template) → bare (numbered next t) ≡ bare t
  bare-numbered next (leaf v) = refl
  bare-numbered next (many l bs) = ap (list tt) (bare-numbered_items (next + draws l) bs)
  bare-numbered next (keyed l es) = ap (dict tt) (bare-numbered_entries (next + draws l) es)

  pub bare-numbered_items : (next : ℕ) (bs : Branches NewLabel) → bare_items (numbered_items next bs) ≡ bare_items bs
  bare-numbered_items next no_branches = refl
  bare-numbered_items next (branch x bs) =
      let e : bare (numbered next x) ≡ bare x = bare-numbered next x in
      let es : bare_items (numbered_items (next + new_count x) bs) ≡ bare_items bs = bare-numbered_items (next + new_count x) bs in
      cc

  pub bare-numbered_entries : (next : ℕ) (es : Entries NewLabel) → bare_fields (numbered_entries next es) ≡ bare_fields es
  bare-numbered_entries next no_entries = refl
  bare-numbered_entries next (entry k x es) =
      let e : bare (numbered next x) ≡ bare x = bare-numbered next x in
      let rest : bare_fields (numbered_entries (next + new_count x) es) ≡ bare_fields es = bare-numbered_entries (next + new_count x) es in
      cc

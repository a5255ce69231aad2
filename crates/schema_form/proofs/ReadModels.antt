-- What a model says is read from the values of its parts: the types of its properties and of its actions' parameters.
use Rattle.std.proofs.Common.{◌≡◌, ℕ, suc, ◌+◌, List, [], ◌∷◌, ◌++◌, length, map, Bool, true, false, Some, All, codes, decimal, slice_get, if◌then◌else◌, refl, sym, ◌∙◌, ap, subst, arith, length-append, append_assoc}
use Rattle.std.specs.Str.{bytes_eq}
use Rattle.std.specs.declared.cmp.Ordering.TheVariants.{Less}
use Rattle.std.proofs.lemmas.Cmp.{nat_list_cmp_total}
use Rattle.std.proofs.lemmas.List.{length-map, map-append}
use Rattle.std.proofs.lemmas.List.Elements.{All-nil, All-cons}
use Rattle.std.proofs.lemmas.Option.{same_Some}
use Rattle.std.proofs.lemmas.Slice.Eq.{bytes_eq-Decides}
use Rattle.snap_core.specs.Name.{is_name}
use Rattle.snap_core.specs.Level.{item_at}
use Rattle.snap_core.specs.Value.{Value, null, boolean, integer, text, list, dict, no_parts, part, no_members, member, value_at, ComesBefore, AreKeyed, AreOrderedMembers, keys_of, Items, Fields}
use Rattle.snap_core.specs.declared.number.ModelNo.{ModelNo}
use Rattle.snap_core.proofs.Finding.{key_cmp, bytes_eq-Less}
use Rattle.snap_core.proofs.Keys.{IsOrdered-value_at}
use Rattle.pointer_core.specs.Path.{Path}
use Rattle.pointer_core.specs.declared.schema_rule.SchemaRule.TheVariants.{Shape}
use Rattle.type_table.specs.declared.shape.Property.{Property}
use Rattle.expr_syntax.specs.Syntax.{Statements}
use Rattle.model_syntax.specs.Shown.{ShownView, ShownAction, ShownMiddleware}
use Rattle.expr_form.specs.Outcome.{Outcome}
use Rattle.expr_form.specs.declared.fault.Fault.{Fault}
use Rattle.behaviour_form.specs.Named.{is_taken}
use Rattle.behaviour_form.specs.Actions.{action_body_read}
use Rattle.behaviour_form.specs.Middleware.{middleware_read}
use Rattle.behaviour_form.specs.Views.{views_read}
use Rattle.schema_form.specs.declared.form.SchemaForm.{SchemaForm}
use Rattle.schema_form.specs.declared.form.EntryNo.{EntryNo}
use Rattle.schema_form.specs.declared.form.ModelForm.{ModelForm}
use Rattle.schema_form.specs.declared.form.Expression.{Expression}
use Rattle.schema_form.specs.declared.form.Place.{Place}
use Rattle.schema_form.specs.declared.form.Place.TheVariants as place
use Rattle.schema_form.specs.Names.{entry_of}
use Rattle.schema_form.specs.Entries.{entries, items, param_in}
use Rattle.schema_form.specs.Targets.{lookup}
use Rattle.schema_form.specs.Faults.{here, under, told, member_faults, key_faults, property_faults, properties_faults, param_faults, with_name, params_from, params_faults, action_part_faults, action_inside, is_action, action_faults, actions_faults, model_part_faults, model_faults, type_faults}
use Rattle.schema_form.specs.Layout.{type_no, type_laid, properties_laid, properties_of}
use Rattle.schema_form.specs.Modelled.{Params, with_param, with_params, Within, Action, Acting, with_body, with_list, with_action_part, with_action_parts, idle, Modelled, with_action, with_actions, with_middleware, with_properties, with_views, with_part, with_parts}
use Rattle.schema_form.specs.Pointers.{entry, property, param, part, entry_path, property_path, param_path, places_of}
use Rattle.schema_form.specs.Reading.{name_at, AreReadUnder, no_property, one_property}
use Rattle.schema_form.specs.Laws.{PathLeads, inner_properties, IsInside, IsReadAt}
use Rattle.schema_form.proofs.Orders.{AreKeyed-entries}
use Rattle.schema_form.proofs.NoFaults.{append_none, under_none, here_some}
use Rattle.schema_form.proofs.Whole.{AllFrom, AllFrom-append}
use Rattle.schema_form.proofs.Leading.{PathLeads-append, PathLeads-field, PathLeads-item, PathLeads-second, AllFrom-split}
use Rattle.schema_form.proofs.ReadTypes.{IsPointerTo, Stand, AreReadAt, LeadsTo, read-type}
use Rattle.schema_form.proofs.Growing.{Longer, longer-more, by-if, longer-params, longer-action-parts, Grown, grown-actions, grown-parts, part-is, parts-properties}
use Rattle.schema_form.proofs.Texts.{bytes_eq-turned}
use Rattle.schema_form.proofs.ModelSound.{ordered-entries, get-behind, IsParam, param-is, property-none, params-none, inside-none, actions-none, action_names}

-- fields behind others have later keys, so the value under a key is theirs alone
later : (k key : List ℕ) (fields : Fields) (v : Value) → ComesBefore k (keys_of fields) → AreKeyed fields → value_at key fields ≡ Some v → key_cmp k key ≡ Less
later k key no_members v before keyed is = absurd cc
later k key (member l w fields) v before keyed is =
    elim (bytes_eq key l) as (λ b. bytes_eq key l ≡ b → (if b then Some w else value_at key fields) ≡ Some v → key_cmp k key ≡ Less) [
      | true ↦ λ h there. let P : List ℕ → Type 0 = λ x. key_cmp k x ≡ Less in subst P (sym ((bytes_eq-Decides key l).0 h)) before
      | false ↦ λ h there. nat_list_cmp_total.trans k l key before (later l key fields v keyed.0 keyed.1 there)
    ] refl is

-- each value of some fields is one of all fields, under its key
abbrev pub AreAmong : Fields → Fields → Type 0
AreAmong fields all = (key : List ℕ) (v : Value) → value_at key fields ≡ Some v → value_at key all ≡ Some v

pub first-among : (all : Fields) (key : List ℕ) (v : Value) (fields : Fields) → AreAmong (member key v fields) all → value_at key all ≡ Some v
first-among all key v fields among =
    among key v (ap (λ (b : Bool). if b then Some v else value_at key fields) ((bytes_eq-Decides key key).1 refl))

pub rest-among : (all : Fields) (key : List ℕ) (v : Value) (fields : Fields) → AreKeyed (member key v fields) → AreAmong (member key v fields) all → AreAmong fields all
rest-among all key v fields keyed among other w there =
    let apart : bytes_eq other key ≡ false = bytes_eq-Less other key (later key other fields w keyed.0 keyed.1 there) in
    among other w (ap (λ (b : Bool). if b then Some v else value_at other fields) apart ∙ there)

-- what stands in a list stands there under its numbers
get-middle : {A : Type 0} (xs ys : List A) (y : A) → slice_get (xs ++ y ∷ ys) (length xs) ≡ Some y
get-middle [] ys y = refl
get-middle (x ∷ xs) ys y = get-middle xs ys y

pub stands : (all xs ys zs : List Expression) → all ≡ xs ++ (ys ++ zs) → AllFrom (λ n e. slice_get all n ≡ Some e) (length xs) ys
stands all xs [] zs is = tt
stands all xs (y ∷ ys) zs is =
    let P : ℕ → Type 0 = λ j. AllFrom (λ n e. slice_get all n ≡ Some e) j ys in
    let next : length (xs ++ y ∷ []) ≡ length xs + 1 = length-append xs (y ∷ []) in (
      ap (λ es. slice_get es (length xs)) is ∙ get-middle xs (ys ++ zs) y,
      subst P next (stands all (xs ++ y ∷ []) ys zs (is ∙ sym (append_assoc xs (y ∷ []) (ys ++ zs)))),
    )

-- values without faults are objects or lists
pub object-is : (types : Fields) (v : Value) → model_faults types v ≡ [] → v ≡ dict tt (entries v)
object-is types (dict a ms) none = refl
object-is types null none = absurd (here_some Shape none)
object-is types (boolean b) none = absurd (here_some Shape none)
object-is types (integer z) none = absurd (here_some Shape none)
object-is types (text s) none = absurd (here_some Shape none)
object-is types (list a ps) none = absurd (here_some Shape none)

actions-are : (types : Fields) (v : Value) → actions_faults types v ≡ [] → v ≡ dict tt (entries v)
actions-are types (dict a ms) none = refl
actions-are types null none = absurd (here_some Shape none)
actions-are types (boolean b) none = absurd (here_some Shape none)
actions-are types (integer z) none = absurd (here_some Shape none)
actions-are types (text s) none = absurd (here_some Shape none)
actions-are types (list a ps) none = absurd (here_some Shape none)

action-is : (types : Fields) (v : Value) → action_inside types v ≡ [] → v ≡ dict tt (entries v)
action-is types (dict a ms) none = refl
action-is types null none = absurd (here_some Shape none)
action-is types (boolean b) none = absurd (here_some Shape none)
action-is types (integer z) none = absurd (here_some Shape none)
action-is types (text s) none = absurd (here_some Shape none)
action-is types (list a ps) none = absurd (here_some Shape none)

properties-are : (types parts : Fields) (v : Value) → properties_faults types parts v ≡ [] → (v ≡ dict tt (entries v)) × (member_faults (property_faults types parts) (entries v) ≡ [])
properties-are types parts (dict a ms) none = (refl, none)
properties-are types parts null none = absurd (here_some Shape none)
properties-are types parts (boolean b) none = absurd (here_some Shape none)
properties-are types parts (integer z) none = absurd (here_some Shape none)
properties-are types parts (text s) none = absurd (here_some Shape none)
properties-are types parts (list a ps) none = absurd (here_some Shape none)

params-are : (types : Fields) (v : Value) → params_faults types v ≡ [] → v ≡ list tt (items v)
params-are types (list a ps) none = refl
params-are types null none = absurd (here_some Shape none)
params-are types (boolean b) none = absurd (here_some Shape none)
params-are types (integer z) none = absurd (here_some Shape none)
params-are types (text s) none = absurd (here_some Shape none)
params-are types (dict a ms) none = absurd (here_some Shape none)

names-longer : (xs ys : List ShownAction) → Longer xs ys → Longer (action_names xs) (action_names ys)
names-longer xs ys longer = (action_names longer.0, ap action_names longer.1 ∙ map-append (λ (a : ShownAction). a.name) xs longer.0)

module _ (f : SchemaForm) (file : Value) (types : Fields) (known : (s : List ℕ) (e : EntryNo) → entry_of types s ≡ Some e → name_at f e ≡ Some s) where
  -- more expressions that are read from the file
  more-read : (xs ys : List Expression) → AreReadAt f file types known 0 xs → AreReadAt f file types known (length xs) ys → AreReadAt f file types known 0 (xs ++ ys)
  more-read xs ys read further = AllFrom-append (λ j e. IsReadAt file f j) 0 (length xs) xs ys (omega arith) read further

  -- what stands in the form behind some expressions
  behind : (xs ys : List Expression) → Longer (xs ++ ys) f.expressions → Stand f file types known (length xs) ys
  behind xs ys long = stands f.expressions xs ys long.0 (long.1 ∙ append_assoc xs ys long.0)

  -- a property leads to the value under its name in its model
  property-leads : (m : ModelNo) (i : ℕ) (its : ModelForm) (p : Property) (v : Value) → slice_get f.models m.0 ≡ Some its → slice_get its.properties i ≡ Some p
      → PathLeads file (entry_path its.name ++ property_path p.name) v → LeadsTo f file types known (place.Property m i) v
  property-leads m i its p v is lies on n at = record {
    pointer = entry_path its.name ++ property_path p.name;
    is = property n m i its p at is lies;
    only = λ path there. go n at path there;
    leads = on;
  } where
    go : (n : ℕ) → slice_get (places_of f.expressions) n ≡ Some (place.Property m i) → (path : Path) → IsPointerTo f file types known n path → path ≡ entry_path its.name ++ property_path p.name
    go _ at _ (entry t d other there was) = let same : place.Entry d ≡ place.Property m i = same_Some _ _ (sym there ∙ at) in cc
    go _ at _ (property t k j model q there was stand) =
        let same : place.Property k j ≡ place.Property m i = same_Some _ _ (sym there ∙ at) in
        let numbers : k ≡ m = cc in
        let indices : j ≡ i = cc in
        let models : model ≡ its = same_Some model its (sym was ∙ ap (λ (x : ModelNo). slice_get f.models x.0) numbers ∙ is) in
        let theirs : slice_get model.properties j ≡ Some p = ap (λ (x : ModelForm). slice_get x.properties j) models ∙ ap (λ x. slice_get its.properties x) indices ∙ lies in
        ap (λ (x : ModelForm). entry_path x.name ++ property_path q.name) models ∙ ap (λ (x : Property). entry_path its.name ++ property_path x.name) (same_Some q p (sym stand ∙ theirs))
    go _ at _ (param t k j d model action there was stand) = let same : place.Param k j d ≡ place.Property m i = same_Some _ _ (sym there ∙ at) in cc
    go _ at _ (part t u step path there up) = let same : place.Part u step ≡ place.Property m i = same_Some _ _ (sym there ∙ at) in cc

  -- the type of a parameter leads to the second item of the parameter
  param-leads : (m : ModelNo) (i j : ℕ) (its : ModelForm) (name : List ℕ) (v : Value) → slice_get f.models m.0 ≡ Some its → slice_get its.actions i ≡ Some name
      → PathLeads file (entry_path its.name ++ param_path name j) v → LeadsTo f file types known (place.Param m i j) v
  param-leads m i j its name v is lies on n at = record {
    pointer = entry_path its.name ++ param_path name j;
    is = param n m i j its name at is lies;
    only = λ path there. go n at path there;
    leads = on;
  } where
    go : (n : ℕ) → slice_get (places_of f.expressions) n ≡ Some (place.Param m i j) → (path : Path) → IsPointerTo f file types known n path → path ≡ entry_path its.name ++ param_path name j
    go _ at _ (entry t d other there was) = let same : place.Entry d ≡ place.Param m i j = same_Some _ _ (sym there ∙ at) in cc
    go _ at _ (property t k d model q there was stand) = let same : place.Property k d ≡ place.Param m i j = same_Some _ _ (sym there ∙ at) in cc
    go _ at _ (param t k c d model action there was stand) =
        let same : place.Param k c d ≡ place.Param m i j = same_Some _ _ (sym there ∙ at) in
        let numbers : k ≡ m = cc in
        let indices : c ≡ i = cc in
        let others : d ≡ j = cc in
        let models : model ≡ its = same_Some model its (sym was ∙ ap (λ (x : ModelNo). slice_get f.models x.0) numbers ∙ is) in
        let theirs : slice_get model.actions c ≡ Some name = ap (λ (x : ModelForm). slice_get x.actions c) models ∙ ap (λ x. slice_get its.actions x) indices ∙ lies in
        ap (λ (x : ModelForm). entry_path x.name ++ param_path action d) models ∙ ap (λ x. entry_path its.name ++ param_path x d) (same_Some action name (sym stand ∙ theirs))
        ∙ ap (λ x. entry_path its.name ++ param_path name x) others
    go _ at _ (part t u step path there up) = let same : place.Part u step ≡ place.Param m i j = same_Some _ _ (sym there ∙ at) in cc

  module _ (m : ModelNo) (its : ModelForm) (is : slice_get f.models m.0 ≡ Some its) (parts : Fields)
      (on : PathLeads file (entry_path its.name ++ codes "model" ∷ []) (dict tt parts)) where
    abbrev w : Within
    w = record { types = types; parts = parts; model = m }

    -- the properties are read from the values under their names, and their pointers go on from that of the model
    record AreProperties (i : ℕ) (ps : Fields) (n : ℕ) : Type 0 where
      read : AreReadUnder f (properties_of types m i ps n) ps
      each : AreReadAt f file types known n (properties_laid types m i ps n)
      inside : All (IsInside f (entry_path its.name)) (map (λ (p : Property). (property_path p.name, p.of)) (properties_of types m i ps n))

    property-path-leads : (all : Fields) (key : List ℕ) (v : Value) → value_at (codes "properties") parts ≡ Some (dict tt all) → value_at key all ≡ Some v
        → PathLeads file (entry_path its.name ++ property_path key) v
    property-path-leads all key v at there =
        PathLeads-append file (dict tt parts) v (entry_path its.name ++ codes "model" ∷ []) (codes "properties" ∷ key ∷ []) on
        (PathLeads-append (dict tt parts) (dict tt all) v (codes "properties" ∷ []) (key ∷ []) (PathLeads-field tt (codes "properties") parts (dict tt all) at) (PathLeads-field tt key all v there))

    read-properties : (all : Fields) → value_at (codes "properties") parts ≡ Some (dict tt all) → (i : ℕ) (ps : Fields) (n : ℕ) → AreKeyed ps → AreAmong ps all
        → ((j : ℕ) (p : Property) → slice_get (properties_of types m i ps n) j ≡ Some p → slice_get its.properties (i + j) ≡ Some p)
        → member_faults (property_faults types parts) ps ≡ [] → Stand f file types known n (properties_laid types m i ps n) → AreProperties i ps n
    read-properties all there i no_members n sorted among own none stand = record { read = no_property; each = tt; inside = All-nil (IsInside f (entry_path its.name)) }
    read-properties all there i (member k v ps) n sorted among own none stand =
        let at : Place = place.Property m i in
        let first : List Expression = type_laid types v n at in
        let next : ℕ = n + length first in
        let rest : List Expression = properties_laid types m (i + 1) ps next in
        let others : List Property = properties_of types m (i + 1) ps next in
        let p : Property = record { name = k; of = type_no n } in
        let two = append_none (under k (property_faults types parts k v)) (member_faults (property_faults types parts) ps) none in
        let faultless : type_faults types v ≡ [] = property-none types parts k v (under_none k (property_faults types parts k v) two.0) in
        let halves = AllFrom-split (λ j e. slice_get f.expressions j ≡ Some e) n first rest stand in
        let lies : slice_get its.properties i ≡ Some p = let P : ℕ → Type 0 = λ j. slice_get its.properties j ≡ Some p in let same : i + 0 ≡ i = omega arith in subst P same (own 0 p refl) in
        let path : PathLeads file (entry_path its.name ++ property_path k) v = property-path-leads all k v there (first-among all k v ps among) in
        let one = read-type f file types known v faultless n at halves.0 (property-leads m i its p v is lies path) in
        let further = read-properties all there (i + 1) ps next sorted.1 (rest-among all k v ps sorted among)
        (λ j q there. let P : ℕ → Type 0 = λ x. slice_get its.properties x ≡ Some q in let same : i + suc j ≡ i + 1 + j = omega arith in subst P same (own (suc j) q there))
        two.1 halves.1 in record {
          read = one_property p others v ps one.first further.read;
          each = AllFrom-append (λ j e. IsReadAt file f j) n next first rest refl one.each further.each;
          inside = All-cons (IsInside f (entry_path its.name)) (property_path k, type_no n) (map (λ (q : Property). (property_path q.name, q.of)) others)
              (property n m i its p one.place is lies) further.inside;
        }

    -- all of them, where they stand in the form
    all-properties : (all : Fields) (n : ℕ) → value_at (codes "properties") parts ≡ Some (dict tt all) → AreKeyed all → its.properties ≡ properties_of types m 0 all n
        → member_faults (property_faults types parts) all ≡ [] → Stand f file types known n (properties_laid types m 0 all n) → AreProperties 0 all n
    all-properties all n there sorted own none stand =
        read-properties all there 0 all n sorted (λ key v at. at)
        (λ j p at. let P : ℕ → Type 0 = λ x. slice_get its.properties x ≡ Some p in let same : j ≡ 0 + j = omega arith in
        subst P same (ap (λ ps. slice_get ps j) own ∙ at)) none stand

    -- the parameters of an action that is there, of which these are all
    module _ (i : ℕ) (name : List ℕ) (named : slice_get its.actions i ≡ Some name) where
      abbrev way : Path
      way = entry_path its.name ++ codes "model" ∷ codes "actions" ∷ name ∷ []

      record IsNext (s : Params) (v : Value) : Type 0 where
        read : AreReadAt f file types known 0 (with_param types (m, i) s v).expressions
        more : length (with_param types (m, i) s v).params ≡ length s.params + 1

      read-param : (s : Params) (v : Value) → IsParam types v → PathLeads file (way ++ codes "params" ∷ decimal (length s.params) ∷ []) v
          → Longer (with_param types (m, i) s v).expressions f.expressions → AreReadAt f file types known 0 s.expressions → IsNext s v
      read-param s v p leads long so_far =
          let P : Value → Type 0 = λ x. PathLeads file (way ++ codes "params" ∷ decimal (length s.params) ∷ []) x → Longer (with_param types (m, i) s x).expressions f.expressions → IsNext s x in
          let xs : List Expression = s.expressions in
          let at : Place = place.Param m i (length s.params) in
          let a : List Expression = type_laid types p.of (length xs) at in
          let shape : Value = list tt (part (text p.name) (part p.of no_parts)) in
          subst P (sym p.is) (λ there short.
          let path = PathLeads-append file shape p.of (way ++ codes "params" ∷ decimal (length s.params) ∷ []) (codes "1" ∷ []) there (PathLeads-second tt (text p.name) p.of no_parts) in
          let laid = read-type f file types known p.of p.none (length xs) at (behind xs a short) (param-leads m i (length s.params) its name p.of is named path) in
          record { read = more-read xs a so_far laid.each; more = length-append s.params _ }) leads long

      read-params : (all : Items) → PathLeads file (way ++ codes "params" ∷ []) (list tt all) → (earlier : List (List ℕ)) (n : ℕ) (s : Params) (ps : Items)
          → ((d : ℕ) (v : Value) → item_at d ps ≡ Some v → item_at (length s.params + d) all ≡ Some v) → params_from types earlier n ps ≡ []
          → Longer (with_params types (m, i) s ps).expressions f.expressions → AreReadAt f file types known 0 s.expressions → AreReadAt f file types known 0 (with_params types (m, i) s ps).expressions
      read-params all leads earlier n s no_parts within none long so_far = so_far
      read-params all leads earlier n s (part v ps) within none long so_far =
          let next : Params = with_param types (m, i) s v in
          let after : List (List ℕ) = with_name earlier (param_in v) in
          let two = append_none (under (decimal n) (param_faults types earlier v)) (params_from types after (n + 1) ps) none in
          let p = param-is types earlier v (under_none (decimal n) (param_faults types earlier v) two.0) in
          let short = longer-more next.expressions (with_params types (m, i) next ps).expressions f.expressions (longer-params types (m, i) next ps) long in
          let here : item_at (length s.params) all ≡ Some v = let P : ℕ → Type 0 = λ k. item_at k all ≡ Some v in let same : length s.params + 0 ≡ length s.params = omega arith in subst P same (within 0 v refl) in
          let path = PathLeads-append file (list tt all) v (way ++ codes "params" ∷ []) (decimal (length s.params) ∷ []) leads (PathLeads-item tt (length s.params) all v here) in
          let one : IsNext s v = read-param s v p path short so_far in
          read-params all leads after (n + 1) next ps
          (λ d x there. let P : ℕ → Type 0 = λ k. item_at k all ≡ Some x in let same : length s.params + suc d ≡ length next.params + d = omega (arith, one.more) in subst P same (within (suc d) x there))
          two.1 long one.read

      -- and its parts
      abbrev the_action : Fields → Action
      the_action all = record { types = types; parts = all; number = (m, i) }

      read-action-part : (all : Fields) → PathLeads file way (dict tt all) → (s : Acting) (k : List ℕ) (v : Value) → value_at k all ≡ Some v → AreReadAt f file types known 0 s.expressions
          → action_part_faults types all k v ≡ [] → Longer (with_action_part (the_action all) s k v).expressions f.expressions → AreReadAt f file types known 0 (with_action_part (the_action all) s k v).expressions
      read-action-part all leads s k v there so_far =
          let P : Acting → List Fault → Type 0 = λ t fs. fs ≡ [] → Longer t.expressions f.expressions → AreReadAt f file types known 0 t.expressions in
          let o : Outcome Statements = action_body_read (lookup types) (value_at (codes "params") all) v in
          by-if P (bytes_eq k (codes "body")) (with_body s o) (if bytes_eq k (codes "params") then with_list types (m, i) s (items v) else s)
          (told o) (if bytes_eq k (codes "params") then params_faults types v else here Shape)
          (λ e none long. so_far)
          (λ e. by-if P (bytes_eq k (codes "params")) (with_list types (m, i) s (items v)) s (params_faults types v) (here Shape)
          (λ d none long.
          let key : k ≡ codes "params" = (bytes_eq-Decides k (codes "params")).0 d in
          let Q : List ℕ → Type 0 = λ x. value_at x all ≡ Some v in
          let R : Value → Type 0 = λ x. PathLeads file (way ++ codes "params" ∷ []) x in
          let path = PathLeads-append file (dict tt all) v way (codes "params" ∷ []) leads (PathLeads-field tt (codes "params") all v (subst Q key there)) in
          read-params (items v) (subst R (params-are types v none) path) [] 0 (record { expressions = s.expressions; params = [] }) (items v)
          (λ c x at. let S : ℕ → Type 0 = λ j. item_at j (items v) ≡ Some x in let same : c ≡ 0 + c = omega arith in subst S same at) (params-none types v none) long so_far)
          (λ d none long. so_far))

      read-action-parts : (all : Fields) → PathLeads file way (dict tt all) → (s : Acting) (ms : Fields) → AreKeyed ms → AreAmong ms all → AreReadAt f file types known 0 s.expressions
          → member_faults (action_part_faults types all) ms ≡ [] → Longer (with_action_parts (the_action all) s ms).expressions f.expressions
          → AreReadAt f file types known 0 (with_action_parts (the_action all) s ms).expressions
      read-action-parts all leads s no_members keyed among so_far none long = so_far
      read-action-parts all leads s (member k v ms) keyed among so_far none long =
          let a : Action = the_action all in
          let next : Acting = with_action_part a s k v in
          let two = append_none (under k (action_part_faults types all k v)) (member_faults (action_part_faults types all) ms) none in
          let short = longer-more next.expressions (with_action_parts a next ms).expressions f.expressions (longer-action-parts a next ms) long in
          read-action-parts all leads next ms keyed.1 (rest-among all k v ms keyed among)
          (read-action-part all leads s k v (first-among all k v ms among) so_far (under_none k (action_part_faults types all k v) two.0) short) two.1 long

    -- what is said so far is a part of what is there in the end
    pub record Reaches (s : Modelled) : Type 0 where
      pub expressions : Longer s.expressions f.expressions
      pub actions : Longer (action_names s.actions) its.actions

    reaches-back : (s t : Modelled) → Grown s t → Reaches t → Reaches s
    reaches-back s t grown reach = record {
      expressions = longer-more s.expressions t.expressions f.expressions grown.expressions reach.expressions;
      actions = longer-more (action_names s.actions) (action_names t.actions) its.actions (names-longer s.actions t.actions grown.actions) reach.actions;
    }

    has-name : (s : Modelled) (k : List ℕ) (v : Value) → Reaches (with_action w s k v) → slice_get its.actions (length s.actions) ≡ Some k
    has-name s k v reach =
        let t : Modelled = with_action w s k v in
        let names : List (List ℕ) = action_names s.actions in
        let split : action_names t.actions ≡ names ++ k ∷ [] = map-append (λ (a : ShownAction). a.name) s.actions _ in
        let all : its.actions ≡ (names ++ k ∷ []) ++ reach.actions.0 = reach.actions.1 ∙ ap (λ xs. xs ++ reach.actions.0) split in
        let P : ℕ → Type 0 = λ n. slice_get its.actions n ≡ Some k in
        subst P (length-map s.actions (λ (a : ShownAction). a.name)) (get-behind names reach.actions.0 its.actions k all)

    read-actions : (all : Fields) → PathLeads file (entry_path its.name ++ codes "model" ∷ codes "actions" ∷ []) (dict tt all) → AreOrderedMembers all → (s : Modelled) (ms : Fields) → AreKeyed ms → AreAmong ms all
        → member_faults (action_faults types) ms ≡ [] → Reaches (with_actions w s ms) → AreReadAt f file types known 0 s.expressions → AreReadAt f file types known 0 (with_actions w s ms).expressions
    read-actions all leads sorted s no_members keyed among none reach so_far = so_far
    read-actions all leads sorted s (member k v ms) keyed among none reach so_far =
        let next : Modelled = with_action w s k v in
        let two = append_none (under k (action_faults types k v)) (member_faults (action_faults types) ms) none in
        let inside : action_inside types v ≡ [] = (append_none (key_faults (is_action v) (is_name k)) (action_inside types v) (under_none k (action_faults types k v) two.0)).1 in
        let back : Reaches next = reaches-back next (with_actions w next ms) (grown-actions w next ms) reach in
        let there : value_at k all ≡ Some v = first-among all k v ms among in
        let P : Value → Type 0 = λ x. PathLeads file (entry_path its.name ++ codes "model" ∷ codes "actions" ∷ k ∷ []) x in
        let path = PathLeads-append file (dict tt all) v (entry_path its.name ++ codes "model" ∷ codes "actions" ∷ []) (k ∷ []) leads (PathLeads-field tt k all v there) in
        read-actions all leads sorted next ms keyed.1 (rest-among all k v ms keyed among) two.1 reach
        (read-action-parts (length s.actions) k (has-name s k v back) (entries v) (subst P (action-is types v inside) path) (idle s.expressions) (entries v) (AreKeyed-entries v (IsOrdered-value_at k all v sorted there)) (λ key x at. at) so_far
        (inside-none types v inside) back.expressions)

    -- the properties, where they stand
    put-properties : (s : Modelled) (v : Value) → value_at (codes "properties") parts ≡ Some v → AreKeyed (entries v) → its.properties ≡ properties_of types m 0 (entries v) (length s.expressions)
        → properties_faults types parts v ≡ [] → Reaches (with_properties w s (entries v)) → AreProperties 0 (entries v) (length s.expressions)
    put-properties s v there keyed own none reach =
        let is = properties-are types parts v none in
        let n : ℕ = length s.expressions in
        all-properties (entries v) n (there ∙ ap Some is.0) keyed own is.1 (behind s.expressions (properties_laid types m 0 (entries v) n) reach.expressions)

    read-part : (s : Modelled) (k : List ℕ) (v : Value) → AreOrderedMembers parts → value_at k parts ≡ Some v
        → (bytes_eq k (codes "properties") ≡ true → its.properties ≡ properties_of types m 0 (entries v) (length s.expressions))
        → AreReadAt f file types known 0 s.expressions → model_part_faults types parts k v ≡ [] → Reaches (with_part w s k v) → AreReadAt f file types known 0 (with_part w s k v).expressions
    read-part s k v sorted there own so_far =
        let P : Modelled → List Fault → Type 0 = λ t fs. fs ≡ [] → Reaches t → AreReadAt f file types known 0 t.expressions in
        let ordered = IsOrdered-value_at k parts v sorted there in
        let around : Outcome (List ShownMiddleware) = middleware_read (lookup types) v in
        let views : Outcome (List ShownView) = views_read (lookup types) (is_taken parts) v in
        let last : Modelled = if bytes_eq k (codes "views") then with_views w s views else s in
        let lasts : List Fault = if bytes_eq k (codes "views") then told views else here Shape in
        let third : Modelled = if bytes_eq k (codes "properties") then with_properties w s (entries v) else last in
        let thirds : List Fault = if bytes_eq k (codes "properties") then properties_faults types parts v else lasts in
        by-if P (bytes_eq k (codes "actions")) (with_actions w s (entries v)) (if bytes_eq k (codes "middleware") then with_middleware w s around else third)
        (actions_faults types v) (if bytes_eq k (codes "middleware") then told around else thirds)
        (λ e none reach.
        let key : k ≡ codes "actions" = (bytes_eq-Decides k (codes "actions")).0 e in
        let Q : List ℕ → Type 0 = λ x. value_at x parts ≡ Some v in
        let R : Value → Type 0 = λ x. PathLeads file (entry_path its.name ++ codes "model" ∷ codes "actions" ∷ []) x in
        let path = PathLeads-append file (dict tt parts) v (entry_path its.name ++ codes "model" ∷ []) (codes "actions" ∷ []) on (PathLeads-field tt (codes "actions") parts v (subst Q key there)) in
        read-actions (entries v) (subst R (actions-are types v none) path) (ordered-entries v ordered) s (entries v) (AreKeyed-entries v ordered) (λ key x at. at) (actions-none types v none) reach so_far)
        (λ e. by-if P (bytes_eq k (codes "middleware")) (with_middleware w s around) third (told around) thirds
        (λ d none reach. so_far)
        (λ d. by-if P (bytes_eq k (codes "properties")) (with_properties w s (entries v)) last (properties_faults types parts v) lasts
        (λ b none reach.
        let key : k ≡ codes "properties" = (bytes_eq-Decides k (codes "properties")).0 b in
        let Q : List ℕ → Type 0 = λ x. value_at x parts ≡ Some v in
        more-read s.expressions (properties_laid types m 0 (entries v) (length s.expressions)) so_far
        (put-properties s v (subst Q key there) (AreKeyed-entries v ordered) (own b) none reach).each)
        (λ b. by-if P (bytes_eq k (codes "views")) (with_views w s views) s (told views) (here Shape) (λ c none reach. so_far) (λ c none reach. so_far))))

    pub read-parts : (s : Modelled) (ms : Fields) → AreOrderedMembers parts → its.properties ≡ (with_parts w s ms).properties → AreKeyed ms → AreAmong ms parts
        → member_faults (model_part_faults types parts) ms ≡ [] → Reaches (with_parts w s ms) → AreReadAt f file types known 0 s.expressions → AreReadAt f file types known 0 (with_parts w s ms).expressions
    read-parts s no_members sorted same keyed among none reach so_far = so_far
    read-parts s (member k v ms) sorted same keyed among none reach so_far =
        let next : Modelled = with_part w s k v in
        let two = append_none (under k (model_part_faults types parts k v)) (member_faults (model_part_faults types parts) ms) none in
        read-parts next ms sorted same keyed.1 (rest-among parts k v ms keyed among) two.1 reach
        (read-part s k v sorted (first-among parts k v ms among) (λ is. same ∙ parts-properties w s k v ms keyed is) so_far
        (under_none k (model_part_faults types parts k v) two.0) (reaches-back next (with_parts w next ms) (grown-parts w next ms) reach))

    -- the properties are read from the part that has them
    pub record IsFound : Type 0 where
      pub fields : Fields
      pub there : value_at (codes "properties") parts ≡ Some (dict tt fields)
      pub read : AreReadUnder f its.properties fields
      pub inside : All (IsInside f (entry_path its.name)) (inner_properties (Some its))

    found-at : (s : Modelled) (v : Value) → value_at (codes "properties") parts ≡ Some v → AreKeyed (entries v) → its.properties ≡ properties_of types m 0 (entries v) (length s.expressions)
        → properties_faults types parts v ≡ [] → Reaches (with_properties w s (entries v)) → IsFound
    found-at s v there keyed own none reach =
        let all = put-properties s v there keyed own none reach in
        let P : List Property → Type 0 = λ ps. AreReadUnder f ps (entries v) in
        let Q : List Property → Type 0 = λ ps. All (IsInside f (entry_path its.name)) (map (λ (p : Property). (property_path p.name, p.of)) ps) in record {
          fields = entries v;
          there = there ∙ ap Some (properties-are types parts v none).0;
          read = subst P (sym own) all.read;
          inside = subst Q (sym own) all.inside;
        }

    part-faults : (k : List ℕ) (v : Value) → bytes_eq k (codes "properties") ≡ true → model_part_faults types parts k v ≡ [] → properties_faults types parts v ≡ []
    part-faults k v is none =
        let P : Modelled → List Fault → Type 0 = λ t fs. fs ≡ [] → properties_faults types parts v ≡ [] in
        let key : k ≡ codes "properties" = (bytes_eq-Decides k (codes "properties")).0 is in
        let Q : List ℕ → Type 0 = λ x. model_part_faults types parts x v ≡ [] in subst Q key none

    pub find-properties : (s : Modelled) (ms : Fields) (v : Value) → AreOrderedMembers parts → value_at (codes "properties") ms ≡ Some v → its.properties ≡ (with_parts w s ms).properties → AreKeyed ms → AreAmong ms parts
        → member_faults (model_part_faults types parts) ms ≡ [] → Reaches (with_parts w s ms) → IsFound
    find-properties s no_members v sorted there same keyed among none reach = absurd cc
    find-properties s (member k x ms) v sorted there same keyed among none reach =
        let next : Modelled = with_part w s k x in
        let two = append_none (under k (model_part_faults types parts k x)) (member_faults (model_part_faults types parts) ms) none in
        elim (bytes_eq (codes "properties") k) as (λ b. bytes_eq (codes "properties") k ≡ b → (if b then Some x else value_at (codes "properties") ms) ≡ Some v → IsFound) [
          | true ↦ λ e at.
              let is : bytes_eq k (codes "properties") ≡ true = bytes_eq-turned k (codes "properties") ∙ e in
              let key : k ≡ codes "properties" = (bytes_eq-Decides k (codes "properties")).0 is in
              let Q : List ℕ → Type 0 = λ y. value_at y parts ≡ Some x in
              let here : value_at (codes "properties") parts ≡ Some x = subst Q key (first-among parts k x ms among) in
              let R : Modelled → Type 0 = Reaches in
              found-at s x here (AreKeyed-entries x (IsOrdered-value_at (codes "properties") parts x sorted here)) (same ∙ parts-properties w s k x ms keyed is)
              (part-faults k x is (under_none k (model_part_faults types parts k x) two.0)) (subst R (part-is w s k x is) (reaches-back next (with_parts w next ms) (grown-parts w next ms) reach))
          | false ↦ λ e at. find-properties next ms v sorted at same keyed.1 (rest-among parts k x ms keyed among) two.1 reach
        ] refl there

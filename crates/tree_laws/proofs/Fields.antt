-- A record that its model makes of itself: each property in turn, with a value that its type makes of itself.
use Rattle.std.proofs.Common.{◌≡◌, ℕ, List, [], ◌∷◌, Bool, true, false, cond, Option, Some, Ok, if◌then◌else◌, refl, sym, ap, subst, ◌∙◌}
use Rattle.std.specs.declared.cmp.Ordering.TheVariants.{Less}
use Rattle.std.specs.Str.{bytes_eq}
use Rattle.std.proofs.lemmas.Cmp.{nat_list_cmp_total}
use Rattle.std.proofs.lemmas.Slice.Eq.{bytes_eq-Decides}
use Rattle.snap_core.specs.declared.snap.Snap.{Snap}
use Rattle.snap_core.specs.Value.{Value, no_members, member, value_at, keys_of, ComesBefore, Fields}
use Rattle.snap_core.proofs.Finding.{key_cmp, bytes_eq-Less}
use Rattle.type_table.specs.declared.shape.Property.{Property}
use Rattle.type_table.specs.Table.{Table, names_of, AreNamed}
use Rattle.type_table.specs.Unions.{property_at}
use Rattle.type_core.specs.Making.{absent, field_at, property_made, properties_made, entry_made, under, maker_of, fields_of, made_by}
use Rattle.type_core.proofs.Outcomes.{entry_made-Ok, property_made-made_by}
use Rattle.tree_laws.proofs.Named.{text-itself}

-- the value under a key of a record's first entries is that of the record
abbrev pub AreAmong : Fields → Fields → Type 0
AreAmong ms all = (key : List ℕ) (v : Value) → value_at key ms ≡ Some v → value_at key all ≡ Some v

module _ (table : Table) (defaults : List (Option Snap)) where
  abbrev pub Fits : List Property → Fields → Type 0
  Fits [] no_members = Unit {0}
  Fits (p ∷ ps) (member k v ms) = (k ≡ p.name) × (maker_of table defaults v p.of.0 ≡ Ok v) × Fits ps ms
  Fits ps ms = ⊥

  -- keys that are found among later properties come later
  names-after : (first : List ℕ) (ps : List Property) (ms : Fields) → keys_of ms ≡ names_of ps → ComesBefore first (names_of ps) → AreNamed ps
      → (key : List ℕ) (v : Value) → value_at key ms ≡ Some v → key_cmp first key ≡ Less
  names-after first ps no_members same before named key v h = absurd (cc)
  names-after first [] (member k w ms) same before named key v h = absurd (cc)
  names-after first (p ∷ ps) (member k w ms) same before named key v h =
      by (bytes_eq key k) refl h (λ g. names-after p.name ps ms (cc) named.0 named.1 key v g) where
        key_same : k ≡ p.name
        key_same = cc

        by : (b : Bool) → bytes_eq key k ≡ b → (if b then Some w else value_at key ms) ≡ Some v → (value_at key ms ≡ Some v → key_cmp p.name key ≡ Less) → key_cmp first key ≡ Less
        by true e g later =
            let is : p.name ≡ key = sym key_same ∙ sym ((bytes_eq-Decides key k).0 e) in
            let P : List ℕ → Type 0 = λ j. key_cmp first j ≡ Less in subst P is before
        by false e g later = nat_list_cmp_total.trans first p.name key before (later g)

  fits-keys : (ps : List Property) (ms : Fields) → Fits ps ms → keys_of ms ≡ names_of ps
  fits-keys [] no_members h = refl
  fits-keys [] (member k v ms) h = absurd h
  fits-keys (p ∷ ps) no_members h = absurd h
  fits-keys (p ∷ ps) (member k v ms) h = ap (λ j. j ∷ keys_of ms) h.0 ∙ ap (λ js. p.name ∷ js) (fits-keys ps ms h.2)

  made-keys : (ps : List Property) (all ms : Fields) → properties_made (absent table defaults) ps (fields_of table defaults all) ≡ Ok ms → keys_of ms ≡ names_of ps
  made-keys [] all ms h = let e : no_members ≡ ms = cc in ap keys_of (sym e)
  made-keys (p ∷ ps) all ms h =
      let fields = fields_of table defaults all in
      let parts = entry_made-Ok p.name (property_made (absent table defaults) p (field_at p.name fields)) (properties_made (absent table defaults) ps fields) ms h in
      ap keys_of parts.4 ∙ ap (λ js. p.name ∷ js) (made-keys ps all parts.1 parts.3)

  later-among : (p : Property) (ps : List Property) (v : Value) (ms all : Fields) → keys_of ms ≡ names_of ps → AreNamed (p ∷ ps)
      → AreAmong (member p.name v ms) all → AreAmong ms all
  later-among p ps v ms all same named among key w h =
      let other : bytes_eq key p.name ≡ false = bytes_eq-Less key p.name (names-after p.name ps ms same named.0 named.1 key w h) in
      among key w (ap (λ b. if b then Some v else value_at key ms) other ∙ h)

  here-among : (p : Property) (v : Value) (ms all : Fields) → AreAmong (member p.name v ms) all → value_at p.name all ≡ Some v
  here-among p v ms all among = among p.name v (ap (λ b. if b then Some v else value_at p.name ms) (text-itself p.name))

  -- what a model makes of itself fits, and the other way round
  pub made-fits : (ps : List Property) (ms all : Fields) → AreNamed ps → AreAmong ms all
      → properties_made (absent table defaults) ps (fields_of table defaults all) ≡ Ok ms → Fits ps ms
  made-fits [] ms all named among h = let e : no_members ≡ ms = cc in subst (Fits []) e tt
  made-fits (p ∷ ps) ms all named among h =
      let fields = fields_of table defaults all in
      let parts = entry_made-Ok p.name (property_made (absent table defaults) p (field_at p.name fields)) (properties_made (absent table defaults) ps fields) ms h in
      let P : Fields → Type 0 = λ ns. AreAmong ns all in
      let front : AreAmong (member p.name parts.0 parts.1) all = subst P parts.4 among in
      let there : made_by table defaults p.of.0 (value_at p.name all) ≡ Ok parts.0 = sym (property_made-made_by table defaults p all) ∙ parts.2 in
      let one : maker_of table defaults parts.0 p.of.0 ≡ Ok parts.0 = ap (made_by table defaults p.of.0) (sym (here-among p parts.0 parts.1 all front)) ∙ there in
      subst (Fits (p ∷ ps)) (sym parts.4)
      (refl, one, made-fits ps parts.1 all named.1 (later-among p ps parts.0 parts.1 all (made-keys ps all parts.1 parts.3) named front) parts.3)

  pub fits-made : (ps : List Property) (ms all : Fields) → AreNamed ps → AreAmong ms all → Fits ps ms
      → properties_made (absent table defaults) ps (fields_of table defaults all) ≡ Ok ms
  fits-made [] no_members all named among h = refl
  fits-made [] (member k v ms) all named among h = absurd h
  fits-made (p ∷ ps) no_members all named among h = absurd h
  fits-made (p ∷ ps) (member k v ms) all named among h =
      let P : List ℕ → Type 0 = λ j. AreAmong (member j v ms) all in
      let front : AreAmong (member p.name v ms) all = subst P h.0 among in
      let one : property_made (absent table defaults) p (field_at p.name (fields_of table defaults all)) ≡ Ok v =
      property_made-made_by table defaults p all ∙ ap (made_by table defaults p.of.0) (here-among p v ms all front) ∙ h.1 in
      let rest = fits-made ps ms all named.1 (later-among p ps v ms all (fits-keys ps ms h.2) named front) h.2 in
      ap (λ o. entry_made p.name (under p.name o) (properties_made (absent table defaults) ps (fields_of table defaults all))) one
      ∙ ap (λ o. entry_made p.name (Ok v) o) rest ∙ ap (λ j. Ok (member j v ms)) (sym h.0)

  -- the value of the property of a name
  pub record Found (name : List ℕ) (p : Property) (ms : Fields) : Type 0 where
    pub value : Value
    pub there : value_at name ms ≡ Some value
    pub made : maker_of table defaults value p.of.0 ≡ Ok value

  pub fits-at : (name : List ℕ) (ps : List Property) (ms : Fields) (p : Property) → Fits ps ms → property_at name ps ≡ Some p → Found name p ms
  fits-at name [] ms p fits h = absurd (cc)
  fits-at name (q ∷ ps) no_members p fits h = absurd fits
  fits-at name (q ∷ ps) (member k v ms) p fits h = by (bytes_eq name q.name) refl h (λ g. fits-at name ps ms p fits.2 g) where
    by : (b : Bool) → bytes_eq name q.name ≡ b → cond b (Some q) (property_at name ps) ≡ Some p → (property_at name ps ≡ Some p → Found name p ms) → Found name p (member k v ms)
    by true e g later =
        let same : q ≡ p = cc in
        let P : Property → Type 0 = λ r. Found name r (member k v ms) in
        let here : bytes_eq name k ≡ true = ap (bytes_eq name) fits.0 ∙ e in
        subst P same (record { value = v; there = ap (λ b. if b then Some v else value_at name ms) here; made = fits.1 })
    by false e g later =
        let rest : Found name p ms = later g in
        let other : bytes_eq name k ≡ false = ap (bytes_eq name) fits.0 ∙ e in
        record { value = rest.value; there = ap (λ b. if b then Some v else value_at name ms) other ∙ rest.there; made = rest.made }

  -- what is made of the property of a name
  pub record Under (name : List ℕ) (p : Property) (all ms : Fields) : Type 0 where
    pub value : Value
    pub there : value_at name ms ≡ Some value
    pub made : made_by table defaults p.of.0 (value_at name all) ≡ Ok value

  pub made-under : (name : List ℕ) (ps : List Property) (all ms : Fields) (p : Property) → properties_made (absent table defaults) ps (fields_of table defaults all) ≡ Ok ms
      → property_at name ps ≡ Some p → Under name p all ms
  made-under name [] all ms p h found = absurd (cc)
  made-under name (q ∷ ps) all ms p h found =
      let fields = fields_of table defaults all in
      let parts = entry_made-Ok q.name (property_made (absent table defaults) q (field_at q.name fields)) (properties_made (absent table defaults) ps fields) ms h in
      subst (Under name p all) (sym parts.4)
      (by parts.0 parts.1 (sym (property_made-made_by table defaults q all) ∙ parts.2) (bytes_eq name q.name) refl found (λ g. made-under name ps all parts.1 p parts.3 g)) where
        by : (v : Value) (ns : Fields) → made_by table defaults q.of.0 (value_at q.name all) ≡ Ok v → (b : Bool) → bytes_eq name q.name ≡ b
            → cond b (Some q) (property_at name ps) ≡ Some p → (property_at name ps ≡ Some p → Under name p all ns) → Under name p all (member q.name v ns)
        by v ns one true e g later =
            let same : q ≡ p = cc in
            let P : Property → Type 0 = λ r. Under name r all (member q.name v ns) in
            let Q : List ℕ → Type 0 = λ j. made_by table defaults q.of.0 (value_at j all) ≡ Ok v in
            subst P same (record { value = v; there = ap (λ b. if b then Some v else value_at name ns) e; made = subst Q (sym ((bytes_eq-Decides name q.name).0 e)) one })
        by v ns one false e g later =
            let rest : Under name p all ns = later g in
            record { value = rest.value; there = ap (λ b. if b then Some v else value_at name ns) e ∙ rest.there; made = rest.made }

-- A type that is a literal makes the literal alone.
use Rattle.std.proofs.Common.{◌≡◌, ℕ, length, true, false, Option, Some, None, Ok, refl, sym, ap, ◌∙◌}
use Rattle.std.proofs.lemmas.Bool.Decides.{Decides-int_eq}
use Rattle.std.proofs.lemmas.Slice.Eq.{bytes_eq-Decides}
use Rattle.snap_core.specs.declared.snap.Snap.{Snap}
use Rattle.snap_core.specs.Value.{Value, null, boolean, integer, text, list, dict}
use Rattle.snap_core.specs.View.{view}
use Rattle.type_table.specs.declared.shape.Shape.{Shape}
use Rattle.type_table.specs.declared.shape.Shape.TheVariants.{Literal, Identifier, IdentifierNumber}
use Rattle.type_table.specs.Table.{Catalog, shape_at}
use Rattle.type_table.specs.Identifiers.{is_identifier, is_of_kind}
use Rattle.type_table.specs.Names.{named_by, shape_by}
use Rattle.type_table.specs.Unions.{is_same}
use Rattle.type_core.specs.Judging.{judged_by}
use Rattle.type_core.specs.Making.{mistyped, scalar_made, list_made, dict_made, absent, maker_of, makers_of, fields_of, made_by}
use Rattle.type_core.specs.Makes.{Makes}
use Rattle.type_core.specs.Sound.{IsSound}
use Rattle.type_core.proofs.Chains.{judged_by-at}
use Rattle.type_core.proofs.Choosing.{named_within-made}
use Rattle.type_core.proofs.Laws.{scalar_made-Ok, absent-at, made_by-sound, made_by-complete}

-- equal scalars are the same
pub same-is : (v w : Value) → is_same v w ≡ true → v ≡ w
same-is null null h = refl
same-is (boolean true) (boolean true) h = refl
same-is (boolean false) (boolean false) h = refl
same-is (integer y) (integer z) h = ap integer ((Decides-int_eq y z).0 h)
same-is (text s) (text u) h = ap text ((bytes_eq-Decides s u).0 h)
same-is _ _ h = absurd (cc)

module _ (types : Catalog) (sound : IsSound types) where
  -- where a literal judges a value that is made of itself
  judged-literal : (v : Value) (t : ℕ) (l : Snap) → judged_by types.table v t ≡ Some (Literal l) → maker_of types.table types.defaults v t ≡ Ok v → is_same (view l) v ≡ true
  judged-literal null t l e h = (scalar_made-Ok types.table null null (Some (Literal l)) (sym (ap (scalar_made types.table null) e) ∙ h)).0
  judged-literal (boolean b) t l e h = (scalar_made-Ok types.table (boolean b) (boolean b) (Some (Literal l)) (sym (ap (scalar_made types.table (boolean b)) e) ∙ h)).0
  judged-literal (integer z) t l e h = (scalar_made-Ok types.table (integer z) (integer z) (Some (Literal l)) (sym (ap (scalar_made types.table (integer z)) e) ∙ h)).0
  judged-literal (text s) t l e h = (scalar_made-Ok types.table (text s) (text s) (Some (Literal l)) (sym (ap (scalar_made types.table (text s)) e) ∙ h)).0
  judged-literal (list a ps) t l e h = let none = sym (ap (list_made (list a ps) (makers_of types.table types.defaults ps)) e) ∙ h in absurd (cc)
  judged-literal (dict a ms) t l e h = let none = sym (ap (dict_made types.table (absent types.table types.defaults) (dict a ms) (fields_of types.table types.defaults ms)) e) ∙ h in absurd (cc)

  -- a type that is one, names followed
  pub literal-made : (v : Value) (t : ℕ) (l : Snap) → shape_by types.table t ≡ Some (Literal l) → maker_of types.table types.defaults v t ≡ Ok v → is_same (view l) v ≡ true
  literal-made v t l e h =
      let made : Makes types.table t (Some v) v = made_by-sound types.table types.defaults sound.defaults.made t (Some v) v h in
      let there : Makes types.table (named_by types.table t) (Some v) v = named_within-made types.table (length types.table.shapes) t (Some v) v made in
      judged-literal v (named_by types.table t) l (judged_by-at types.table sound.loopless v (named_by types.table t) (Literal l) e refl)
      (made_by-complete types.table types.defaults sound.loopless sound.all (named_by types.table t) (Some v) v there)

  -- where an identifier's type judges it
  judged-identifier : (v : Value) (t : ℕ) (s : Shape) → is_identifier (Some s) ≡ true → judged_by types.table v t ≡ Some s → maker_of types.table types.defaults v t ≡ Ok v → is_of_kind (Some s) v ≡ true
  judged-identifier null t Identifier is e h = (scalar_made-Ok types.table null null (Some Identifier) (sym (ap (scalar_made types.table null) e) ∙ h)).0
  judged-identifier (boolean b) t Identifier is e h = (scalar_made-Ok types.table (boolean b) (boolean b) (Some Identifier) (sym (ap (scalar_made types.table (boolean b)) e) ∙ h)).0
  judged-identifier (integer z) t Identifier is e h = (scalar_made-Ok types.table (integer z) (integer z) (Some Identifier) (sym (ap (scalar_made types.table (integer z)) e) ∙ h)).0
  judged-identifier (text b) t Identifier is e h = refl
  judged-identifier null t IdentifierNumber is e h = (scalar_made-Ok types.table null null (Some IdentifierNumber) (sym (ap (scalar_made types.table null) e) ∙ h)).0
  judged-identifier (boolean b) t IdentifierNumber is e h = (scalar_made-Ok types.table (boolean b) (boolean b) (Some IdentifierNumber) (sym (ap (scalar_made types.table (boolean b)) e) ∙ h)).0
  judged-identifier (text b) t IdentifierNumber is e h = (scalar_made-Ok types.table (text b) (text b) (Some IdentifierNumber) (sym (ap (scalar_made types.table (text b)) e) ∙ h)).0
  judged-identifier (integer z) t IdentifierNumber is e h = refl
  judged-identifier (list a ps) t Identifier is e h = let none = sym (ap (list_made (list a ps) (makers_of types.table types.defaults ps)) e) ∙ h in absurd (cc)
  judged-identifier (list a ps) t IdentifierNumber is e h = let none = sym (ap (list_made (list a ps) (makers_of types.table types.defaults ps)) e) ∙ h in absurd (cc)
  judged-identifier (dict a ms) t Identifier is e h = let none = sym (ap (dict_made types.table (absent types.table types.defaults) (dict a ms) (fields_of types.table types.defaults ms)) e) ∙ h in absurd (cc)
  judged-identifier (dict a ms) t IdentifierNumber is e h = let none = sym (ap (dict_made types.table (absent types.table types.defaults) (dict a ms) (fields_of types.table types.defaults ms)) e) ∙ h in absurd (cc)
  judged-identifier v t s is e h = absurd (cc)

  identifier-judges : (v : Value) (t : ℕ) (s : Shape) → is_identifier (Some s) ≡ true → shape_at types.table t ≡ Some s → judged_by types.table v t ≡ Some s
  identifier-judges v t Identifier is e = judged_by-at types.table sound.loopless v t Identifier e refl
  identifier-judges v t IdentifierNumber is e = judged_by-at types.table sound.loopless v t IdentifierNumber e refl
  identifier-judges v t s is e = absurd (cc)

  -- what an identifier's type makes of itself is a text, or an integer
  pub identifier-made : (v : Value) (t : ℕ) → is_identifier (shape_at types.table t) ≡ true → maker_of types.table types.defaults v t ≡ Ok v → is_of_kind (shape_at types.table t) v ≡ true
  identifier-made v t is h = by (shape_at types.table t) refl is where
    by : (o : Option Shape) → shape_at types.table t ≡ o → is_identifier o ≡ true → is_of_kind o v ≡ true
    by None e i = absurd (cc)
    by (Some s) e i = judged-identifier v t s i (identifier-judges v t s i e) h

  -- an identifier is made as it is, of a value alone

  given-judged : (v w : Value) (t : ℕ) (s : Shape) → is_identifier (Some s) ≡ true → judged_by types.table v t ≡ Some s → maker_of types.table types.defaults v t ≡ Ok w → v ≡ w
  given-judged null w t s is e h = (scalar_made-Ok types.table null w (Some s) (sym (ap (scalar_made types.table null) e) ∙ h)).2
  given-judged (boolean b) w t s is e h = (scalar_made-Ok types.table (boolean b) w (Some s) (sym (ap (scalar_made types.table (boolean b)) e) ∙ h)).2
  given-judged (integer z) w t s is e h = (scalar_made-Ok types.table (integer z) w (Some s) (sym (ap (scalar_made types.table (integer z)) e) ∙ h)).2
  given-judged (text b) w t s is e h = (scalar_made-Ok types.table (text b) w (Some s) (sym (ap (scalar_made types.table (text b)) e) ∙ h)).2
  given-judged (list a ps) w t Identifier is e h = let none = sym (ap (list_made (list a ps) (makers_of types.table types.defaults ps)) e) ∙ h in absurd (cc)
  given-judged (list a ps) w t IdentifierNumber is e h = let none = sym (ap (list_made (list a ps) (makers_of types.table types.defaults ps)) e) ∙ h in absurd (cc)
  given-judged (dict a ms) w t Identifier is e h = let none = sym (ap (dict_made types.table (absent types.table types.defaults) (dict a ms) (fields_of types.table types.defaults ms)) e) ∙ h in absurd (cc)
  given-judged (dict a ms) w t IdentifierNumber is e h = let none = sym (ap (dict_made types.table (absent types.table types.defaults) (dict a ms) (fields_of types.table types.defaults ms)) e) ∙ h in absurd (cc)
  given-judged v w t s is e h = absurd (cc)

  identifier-absent : (t : ℕ) (s : Shape) (w : Value) → is_identifier (Some s) ≡ true → shape_at types.table t ≡ Some s → absent types.table types.defaults t ≡ Ok w → ⊥
  identifier-absent t Identifier w is e h =
      let none : absent types.table types.defaults t ≡ mistyped = absent-at types.table types.defaults sound.loopless t Identifier e refl in cc
  identifier-absent t IdentifierNumber w is e h =
      let none : absent types.table types.defaults t ≡ mistyped = absent-at types.table types.defaults sound.loopless t IdentifierNumber e refl in cc
  identifier-absent t s w is e h = cc

  pub identifier-given : (t : ℕ) (x : Option Value) (w : Value) → is_identifier (shape_at types.table t) ≡ true → made_by types.table types.defaults t x ≡ Ok w → x ≡ Some w
  identifier-given t x w is h = by (shape_at types.table t) refl is x h where
    by : (o : Option Shape) → shape_at types.table t ≡ o → is_identifier o ≡ true → (x : Option Value) → made_by types.table types.defaults t x ≡ Ok w → x ≡ Some w
    by None e i x h = absurd (cc)
    by (Some s) e i None h = absurd (identifier-absent t s w i e h)
    by (Some s) e i (Some v) h = ap Some (given-judged v w t s i (identifier-judges v t s i e) h)

-- The faults of a table, pass by pass, and a table without one.
use Rattle.std.proofs.Common.{◌≡◌, ℕ, ◌<◌, List, length, Bool, true, false, IsTrue, Option, Some, None, refl, sym, ap, ◌∙◌, subst, inl, inr, arith}
use Rattle.std.specs.Prelude.{MatchBool, IsSome, IfOk, Result, Ok, Err}
use Rattle.std.proofs.lemmas.Option.{slice_get_within}
use Rattle.snap_core.specs.Value.{Value}
use Rattle.snap_core.specs.declared.snap.Snap.{Snap}
use Rattle.snap_core.specs.declared.number.TypeNo.{TypeNo}
use Rattle.snap_core.specs.declared.number.ModelNo.{ModelNo}
use Rattle.type_table.specs.declared.shape.Shape.{Shape}
use Rattle.type_table.specs.declared.shape.Shape.TheVariants.{Optional, Union}
use Rattle.pointer_core.specs.declared.schema_rule.SchemaRule.{SchemaRule}
use Rattle.pointer_core.specs.declared.schema_rule.SchemaRule.TheVariants as rule
use Rattle.type_draft.specs.declared.rule.DraftError.{DraftError}
use Rattle.type_draft.specs.declared.rule.DraftError.TheVariants as fault
use Rattle.type_table.specs.Table.{Table, Catalog, IsBegun, plan_of, shape_at, default_at}
use Rattle.type_table.specs.Names.{LeadsTo, named_by}
use Rattle.type_table.specs.Identifiers.{is_misplaced, misleads}
use Rattle.type_table.specs.Unions.{are_apart}
use Rattle.type_core.specs.Making.{absent_made, default_made, absent}
use Rattle.type_core.specs.Makes.{Makes}
use Rattle.type_draft.specs.Faults.{HasFault, name, identifier, target, union, «default», pass_of, order_of, Precedes, IsFirstFault, IfWrong}
use Rattle.type_core.specs.Sound.{AreMade, AreAll, IsOptional, IsSound, HasDefault}
use Rattle.type_draft.specs.Passes.{IsFaultless, IsFirstOf, IsMissing}
use Rattle.type_core.proofs.Chains.{named_by-at}
use Rattle.type_core.proofs.Laws.{made_by-complete}

-- what each fault says
pub at_name : (table : Table) (t : ℕ) → HasFault table t rule.Name → LeadsTo table t t
at_name table _ (name t back) = back

pub at_identifier : (table : Table) (t : ℕ) → HasFault table t rule.Identifier → is_misplaced table t ≡ true
at_identifier table _ (identifier t misplaced) = misplaced

pub at_target : (table : Table) (t : ℕ) → HasFault table t rule.Target → misleads table t ≡ true
at_target table _ (target t led) = led

pub at_union : (table : Table) (t : ℕ) → HasFault table t rule.Union → (ms : List TypeNo) × (shape_at table t ≡ Some (Union ms)) × (are_apart table ms ≡ false)
at_union table _ (union t ms shape apart) = (ms, shape, apart)

pub at_default : (table : Table) (t : ℕ) → HasFault table t rule.Default
    → (u : TypeNo) × (d : Snap) × (shape_at table t ≡ Some (Optional u d)) × ((s : Value) → ¬ (Makes table t None s))
at_default table _ («default» t u d shape none) = (u, d, shape, none)

-- a type that leads on is one of the table's
LeadsTo-within : (table : Table) (t u : ℕ) → LeadsTo table t u → t < length table.shapes
LeadsTo-within table _ _ (LeadsTo.at_once t shape u is c) = slice_get_within table.shapes t shape is
LeadsTo-within table _ _ (LeadsTo.by_way t shape u w is c on) = slice_get_within table.shapes t shape is

-- a fault is at one of the table's types
HasFault-within : (table : Table) (t : ℕ) (rule : SchemaRule) → HasFault table t rule → t < length table.shapes
HasFault-within table _ _ (name t back) = LeadsTo-within table t t back
HasFault-within table _ _ (identifier t misplaced) = by_shape (shape_at table t) refl
  where
    by_shape : (o : Option Shape) → shape_at table t ≡ o → t < length table.shapes
    by_shape (Some shape) e = slice_get_within table.shapes t shape e
    by_shape None e = let none : is_misplaced table t ≡ false = rw e refl in cc
HasFault-within table _ _ (target t led) = by_shape (shape_at table t) refl
  where
    by_shape : (o : Option Shape) → shape_at table t ≡ o → t < length table.shapes
    by_shape (Some shape) e = slice_get_within table.shapes t shape e
    by_shape None e = let none : misleads table t ≡ false = rw e refl in cc
HasFault-within table _ _ (union t ms shape apart) = slice_get_within table.shapes t (Union ms) shape
HasFault-within table _ _ («default» t u d shape none) = slice_get_within table.shapes t (Optional u d) shape

-- a union is at fault where its members aren't told apart
pub union_fault : (table : Table) (t : ℕ) (ms : List TypeNo) → shape_at table t ≡ Some (Union ms) → (apart : Bool) → apart ≡ are_apart table ms
    → MatchBool apart (¬ (HasFault table t rule.Union)) (HasFault table t rule.Union)
union_fault table t ms shape true is = λ fault.
    let other = at_union table t fault in
    let both : Some (Union ms) ≡ Some (Union other.0) = sym shape ∙ other.1 in
    let same : ms ≡ other.0 = cc in
    let apart : are_apart table ms ≡ false = rw same other.2 in
    let no : true ≡ false = is ∙ apart in
    cc
union_fault table t ms shape false is = union t ms shape (sym is)

-- what holds of each rule that a type can be at fault by
each_rule : (table : Table) (t : ℕ) (r : SchemaRule) (P : SchemaRule → Type 0)
    → P rule.Name → P rule.Identifier → P rule.Target → P rule.Union → P rule.Default → HasFault table t r → P r
each_rule table _ _ P a b c d e (name t back) = a
each_rule table _ _ P a b c d e (identifier t misplaced) = b
each_rule table _ _ P a b c d e (target t led) = c
each_rule table _ _ P a b c d e (union t ms shape apart) = d
each_rule table _ _ P a b c d e («default» t u given shape none) = e

-- nothing is wrong with a type by a rule of the first pass that comes before another
abbrev IsFreeBefore : Table → ℕ → ℕ → SchemaRule → Type 0
IsFreeBefore table order t r = pass_of r ≡ 0 → order_of r < order → HasFault table t r → ⊥

-- the first pass at one type
module _ (table : Table) (t : ℕ) where
  pub first_name : LeadsTo table t t → IsFirstOf table 0 t rule.Name
  first_name back = record { fault = name t back; of_pass = refl; first = λ other pass lower. absurd (omega arith) }

  module _ (loopless : ¬ (LeadsTo table t t)) where
    pub first_identifier : is_misplaced table t ≡ true → IsFirstOf table 0 t rule.Identifier
    first_identifier misplaced = record {
      fault = identifier t misplaced;
      of_pass = refl;
      first = λ other pass lower h. each_rule table t other (IsFreeBefore table 1 t) (λ p q f. loopless (at_name table t f))
          (λ p q f. absurd (omega (arith, q))) (λ p q f. absurd (omega (arith, q))) (λ p q f. absurd (omega (arith, q))) (λ p q f. absurd (omega (arith, p))) h pass lower h;
    }

    module _ (placed : is_misplaced table t ≡ false) where
      not_misplaced : HasFault table t rule.Identifier → ⊥
      not_misplaced f = let is = at_identifier table t f in cc

      pub first_target : misleads table t ≡ true → IsFirstOf table 0 t rule.Target
      first_target leads = record {
        fault = target t leads;
        of_pass = refl;
        first = λ other pass lower h. each_rule table t other (IsFreeBefore table 2 t) (λ p q f. loopless (at_name table t f))
            (λ p q f. not_misplaced f) (λ p q f. absurd (omega (arith, q))) (λ p q f. absurd (omega (arith, q))) (λ p q f. absurd (omega (arith, p))) h pass lower h;
      }

      module _ (led : misleads table t ≡ false) where
        not_misled : HasFault table t rule.Target → ⊥
        not_misled f = let is = at_target table t f in cc

        pub first_union : HasFault table t rule.Union → IsFirstOf table 0 t rule.Union
        first_union fault = record {
          fault = fault;
          of_pass = refl;
          first = λ other pass lower h. each_rule table t other (IsFreeBefore table 3 t) (λ p q f. loopless (at_name table t f))
              (λ p q f. not_misplaced f) (λ p q f. not_misled f) (λ p q f. absurd (omega (arith, q))) (λ p q f. absurd (omega (arith, p))) h pass lower h;
        }

        pub IsFaultless-type : ¬ (HasFault table t rule.Union) → IsFaultless table 0 t
        IsFaultless-type apart r pass h =
            each_rule table t r (λ r. pass_of r ≡ 0 → HasFault table t r → ⊥) (λ p f. loopless (at_name table t f)) (λ p f. not_misplaced f) (λ p f. not_misled f)
            (λ p f. apart f) (λ p f. absurd (omega (arith, p))) h pass h

-- the first pass as a whole
pub first_of_pass : (table : Table) (t : ℕ) (rule : SchemaRule) → ((k : ℕ) → k < t → IsFaultless table 0 k) → IsFirstOf table 0 t rule → IsFirstFault table t rule
first_of_pass table t rule before h = record { fault = h.fault; first = first } where
  first : (u : ℕ) (other : SchemaRule) → Precedes (u, other) (t, rule) → ¬ (HasFault table u other)
  first u other (inl lower) = absurd (omega (arith, h.of_pass))
  first u other (inr (inl earlier)) = before u earlier.1 other (earlier.0 ∙ h.of_pass)
  first u other (inr (inr same)) =
      let P : ℕ → Type 0 = λ n. ¬ (HasFault table n other) in
      subst P (sym same.1) (h.first other (same.0 ∙ h.of_pass) same.2)

pub IsFaultless-all : (table : Table) → ((k : ℕ) → k < length table.shapes → IsFaultless table 0 k) → (t : ℕ) → IsFaultless table 0 t
IsFaultless-all table before t rule pass fault = before t (HasFault-within table t rule fault) rule pass fault

-- where a default is missing, no value is made of none
pub nothing_made : (table : Table) (defaults : List (Option Snap)) → ((t : ℕ) → ¬ (LeadsTo table t t)) → AreAll table defaults
    → (t : ℕ) → IsMissing table defaults t → (s : Value) → ¬ (Makes table t None s)
nothing_made table defaults loopless all t missing s makes =
    let made : absent table defaults t ≡ Ok s = made_by-complete table defaults loopless all t None s makes in
    let shape : shape_at table t ≡ Some (Optional missing.of missing.given) = missing.shape in
    let self : named_by table t ≡ t = named_by-at table loopless t (Optional missing.of missing.given) shape in
    let none : absent table defaults t ≡ default_made None =
    ap (λ (k : ℕ). absent_made table defaults k (shape_at table k)) self ∙ ap (absent_made table defaults t) shape ∙ ap default_made missing.unknown in
    cc

-- a default that is known is made
pub no_default_fault : (table : Table) (defaults : List (Option Snap)) → AreMade table defaults → (t : ℕ) → HasDefault table defaults t → ¬ (HasFault table t rule.Default)
no_default_fault table defaults made t known fault =
    let f = at_default table t fault in
    go (default_at defaults t) refl (known f.0 f.1 f.2) f.3
  where
    go : (o : Option Value) → default_at defaults t ≡ o → IsSome (default_at defaults t) → ((s : Value) → ¬ (Makes table t None s)) → ⊥
    go (Some s) e some none = none s (made t s e)
    go None e some none = let no = rw e at some in cc

-- the first missing default is the first fault
pub first_missing : (table : Table) (defaults : List (Option Snap)) → ((t : ℕ) → IsFaultless table 0 t) → AreMade table defaults → AreAll table defaults
    → (t : ℕ) → IsMissing table defaults t → ((u : ℕ) → u < t → HasDefault table defaults u) → IsFirstFault table t rule.Default
first_missing table defaults faultless made all t missing before = record { fault = here; first = first } where
  here : HasFault table t rule.Default
  here = «default» t missing.of missing.given missing.shape
      (nothing_made table defaults (λ k back. faultless k rule.Name refl (name k back)) all t missing)

  first : (u : ℕ) (other : SchemaRule) → Precedes (u, other) (t, rule.Default) → ¬ (HasFault table u other)
  first u other earlier h =
      each_rule table u other (λ r. Precedes (u, r) (t, rule.Default) → HasFault table u r → ⊥) (λ e f. faultless u rule.Name refl f)
      (λ e f. faultless u rule.Identifier refl f) (λ e f. faultless u rule.Target refl f) (λ e f. faultless u rule.Union refl f) later h earlier h
    where
      later : Precedes (u, rule.Default) (t, rule.Default) → HasFault table u rule.Default → ⊥
      later (inl lower) f = absurd (omega arith)
      later (inr (inl earlier)) f = no_default_fault table defaults made u (before u earlier.1) f
      later (inr (inr same)) f = absurd (omega (arith, same.2))

-- types that are sound have no fault
pub no_fault : (types : Catalog) → IsSound types → (t : ℕ) (rule : SchemaRule) → ¬ (HasFault types.table t rule)
no_fault types sound t r h =
    each_rule types.table t r (λ r. HasFault types.table t r → ⊥) (λ f. sound.loopless t (at_name types.table t f))
    (λ f. let is = at_identifier types.table t f in let no = sound.placed t in cc) (λ f. let is = at_target types.table t f in let no = sound.led t in cc) apart
    (no_default_fault types.table types.defaults sound.defaults.made t (sound.defaults.known t)) h h
  where
    apart : HasFault types.table t rule.Union → ⊥
    apart fault =
        let f = at_union types.table t fault in
        let apart : are_apart types.table f.0 ≡ true = sound.apart t f.0 f.1 in
        let no : true ≡ false = sym apart ∙ f.2 in
        cc

placed_of : (table : Table) (t : ℕ) → IsFaultless table 0 t → (b : Bool) → is_misplaced table t ≡ b → is_misplaced table t ≡ false
placed_of table t faultless true e = absurd (faultless rule.Identifier refl (identifier t e))
placed_of table t faultless false e = e

led_of : (table : Table) (t : ℕ) → IsFaultless table 0 t → (b : Bool) → misleads table t ≡ b → misleads table t ≡ false
led_of table t faultless true e = absurd (faultless rule.Target refl (target t e))
led_of table t faultless false e = e

told_apart : (table : Table) (t : ℕ) (ms : List TypeNo) → IsFaultless table 0 t → shape_at table t ≡ Some (Union ms)
    → (b : Bool) → are_apart table ms ≡ b → IsTrue (are_apart table ms)
told_apart table t ms faultless shape true e = e
told_apart table t ms faultless shape false e = absurd (faultless rule.Union refl (union t ms shape e))

pub IsSound-faultless : (table : Table) (root : ModelNo) (defaults : List (Option Snap)) → IsBegun (plan_of table) → root.0 < length table.models
    → ((t : ℕ) → IsFaultless table 0 t) → AreMade table defaults → AreAll table defaults
    → ((t : ℕ) (s : Value) → default_at defaults t ≡ Some s → IsOptional table t) → length defaults ≡ length table.shapes → ((t : ℕ) → HasDefault table defaults t)
    → IsSound (record { table = table; root = root; defaults = defaults })
IsSound-faultless table root defaults begun within faultless made all only count known = record {
  begun = begun;
  root = within;
  loopless = λ t back. faultless t rule.Name refl (name t back);
  placed = λ t. placed_of table t (faultless t) (is_misplaced table t) refl;
  led = λ t. led_of table t (faultless t) (misleads table t) refl;
  apart = λ t ms shape. told_apart table t ms (faultless t) shape (are_apart table ms) refl;
  defaults = record { known = known; made = made; only = only; count = count };
  all = all;
}

pub IfWrong-weaker : {T : Type 0} (r : Result T DraftError) (P Q : TypeNo → SchemaRule → Type 0) → ((t : TypeNo) (rule : SchemaRule) → P t rule → Q t rule)
    → IfWrong r P → IfWrong r Q
IfWrong-weaker (Ok x) P Q f h = tt
IfWrong-weaker (Err (fault.Wrong t rule)) P Q f h = f t rule h
IfWrong-weaker (Err fault.Memory) P Q f h = tt

pub no_fault_of : (r : Result Catalog DraftError) → IfOk r IsSound → IfOk r (λ types. (t : ℕ) (rule : SchemaRule) → ¬ (HasFault types.table t rule))
no_fault_of (Ok types) sound = no_fault types sound
no_fault_of (Err e) sound = tt

-- Types that are reached are those that a type leads to, and once nothing new is reached, all of them.
use Rattle.std.proofs.Common.{◌≡◌, ◌≢◌, ℕ, zero, suc, ◌+◌, ◌<◌, ◌≤◌, List, [], ◌∷◌, ◌++◌, length, take, get_or, slice_get, slice_set, Bool, true, false, not, cond, Option, Some, None, All, Contains, replicate, refl, sym, ap, ◌∙◌, subst, inl, inr, arith, length-append, length-set}
use Rattle.std.specs.Prelude.{◌⊎◌}
use Rattle.std.proofs.lemmas.List.{append-nil, append_assoc, length_push, length-replicate, get_or-replicate, take-append-le, take_all}
use Rattle.std.proofs.lemmas.List.Elements.{All-nil, All-cons, All-head, All-append, All-push, All-weaker, All-contains, All-contains_itself, All-more, All-get_or, Contains-append_left, Contains-append_right, Contains-push}
use Rattle.std.proofs.lemmas.List.Sums.{sum_by-set}
use Rattle.std.proofs.lemmas.Option.{slice_get_within, slice_get_read, get_or_from_slice_get}
use Rattle.snap_core.specs.declared.number.TypeNo.{TypeNo}
use Rattle.type_table.specs.declared.shape.Shape.{Shape}
use Rattle.type_table.specs.Table.{Table, shape_at, leads_of}
use Rattle.type_table.specs.Names.{LeadsTo, at_once, by_way}
use Rattle.type_table.proofs.Named.{slice_get-set_cases}
use Rattle.type_draft.specs.Reaching.{leads_at, AreKnown, AreReached, HasReached}

-- none of the types were to be reached
pub HasReached-none : (marks : List Bool) (reached : List TypeNo) → AreReached marks reached → HasReached [] marks reached marks reached
HasReached-none marks reached h = record {
  added = [];
  grown = sym (append-nil reached);
  among = λ k d l. absurd (omega arith);
  each = λ k d l. absurd (omega arith);
  marked = h;
  count = refl;
  work = refl;
}

-- a type that is marked was reached
pub HasReached-old : (marks : List Bool) (reached : List TypeNo) (t : TypeNo) → AreReached marks reached → slice_get marks t.0 ≡ Some true
    → HasReached (t ∷ []) marks reached marks reached
HasReached-old marks reached t h e = record {
  added = [];
  grown = sym (append-nil reached);
  among = λ k d l. absurd (omega arith);
  each = All-cons (Contains reached) t [] (h t.0 e) (All-nil (Contains reached));
  marked = h;
  count = refl;
  work = refl;
}

-- a type that isn't marked is reached, and marked
pub HasReached-new : (marks : List Bool) (reached : List TypeNo) (t : TypeNo) → AreReached marks reached → slice_get marks t.0 ≡ Some false
    → HasReached (t ∷ []) marks reached (slice_set marks t.0 true) (reached ++ t ∷ [])
HasReached-new marks reached t h e =
    let new : List TypeNo = reached ++ t ∷ [] in
    let within : t.0 < length marks = slice_get_within marks t.0 false e in
    let was : get_or marks t.0 false ≡ false = get_or_from_slice_get marks t.0 false false e in
    let count = rw was at (sum_by-set (λ (b : Bool). cond (not b) 1 0) marks t.0 true false within) in
    record {
      added = t ∷ [];
      grown = refl;
      among = All-cons (Contains (t ∷ [])) t [] (Contains-push [] t) (All-nil (Contains (t ∷ [])));
      each = All-cons (Contains new) t [] (Contains-push reached t) (All-nil (Contains new));
      marked = λ k q. elim (slice_get-set_cases marks t.0 true k true q) [
        | inl i ↦ let P : ℕ → Type 0 = λ n. Contains new (record { 0 = n }) in subst P (sym i) (Contains-push reached t)
        | inr o ↦ Contains-append_left reached (t ∷ []) (record { 0 = k }) (h k o)
      ];
      count = length-set marks t.0 true;
      work = omega (arith, count, length_push reached t);
    }

-- one type more was reached
pub HasReached-more : (ts : List TypeNo) (t : TypeNo) (old_marks : List Bool) (old : List TypeNo) (marks : List Bool) (reached : List TypeNo) (new_marks : List Bool) (new : List TypeNo)
    → HasReached ts old_marks old marks reached → HasReached (t ∷ []) marks reached new_marks new → HasReached (ts ++ t ∷ []) old_marks old new_marks new
HasReached-more ts t old_marks old marks reached new_marks new a b =
    let keeps : (u : TypeNo) → Contains reached u → Contains new u = λ u c. let P : List TypeNo → Type 0 = λ us. Contains us u in subst P (sym b.grown) (Contains-append_left reached b.added u c) in
    record {
      added = a.added ++ b.added;
      grown = b.grown ∙ ap (λ us. us ++ b.added) a.grown ∙ append_assoc old a.added b.added;
      among = All-append (Contains (ts ++ t ∷ [])) a.added b.added
          (All-weaker (Contains ts) (Contains (ts ++ t ∷ [])) (λ u c. Contains-append_left ts (t ∷ []) u c) a.added a.among)
          (All-weaker (Contains (t ∷ [])) (Contains (ts ++ t ∷ [])) (λ u c. Contains-append_right ts (t ∷ []) u c) b.added b.among);
      each = All-push (Contains new) ts t (All-weaker (Contains reached) (Contains new) keeps ts a.each) (All-head (Contains new) t [] b.each);
      marked = b.marked;
      count = b.count ∙ a.count;
      work = b.work ∙ a.work;
    }

-- one step further
pub LeadsTo-further : (table : Table) (t x : ℕ) (shape : Shape) (w : TypeNo) → LeadsTo table t x → shape_at table x ≡ Some shape → Contains (leads_of shape) w
    → LeadsTo table t w.0
LeadsTo-further table _ _ shape w (at_once t first u is c) e into = by_way t first u w.0 is c (at_once u.0 shape w e into)
LeadsTo-further table _ _ shape w (by_way t first u x is c on) e into = by_way t first u w.0 is c (LeadsTo-further table u.0 x shape w on e into)

-- a lead is one of the type's shape
abbrev pub IsLead : Table → ℕ → TypeNo → Type 0
IsLead table t w = (shape : Shape) × (shape_at table t ≡ Some shape) × Contains (leads_of shape) w

IsLead-from_leads : (table : Table) (t : ℕ) (w : TypeNo) → Contains (leads_at table t) w → IsLead table t w
IsLead-from_leads table t w c = go (shape_at table t) refl where
  go : (shape : Option Shape) → shape_at table t ≡ shape → IsLead table t w
  go (Some shape) e = (shape, e, rw e at c)
  go None e = let none = rw e at c in absurd (omega (arith, none.1))

pub leads_from_shape : (table : Table) (t : ℕ) (shape : Shape) → shape_at table t ≡ Some shape → leads_at table t ≡ leads_of shape
leads_from_shape table t shape e = rw e refl

-- what the types before `at` lead to is reached, and none of them leads back to t
pub record IsReach (table : Table) (t at : ℕ) (marks : List Bool) (reached : List TypeNo) : Type 0 where
  pub count : length marks ≡ length table.shapes
  pub within : All (λ (u : TypeNo). u.0 < length table.shapes) reached
  pub marked : AreReached marks reached
  pub first : Contains reached (record { 0 = t })
  pub led : All (λ (u : TypeNo). (u.0 ≡ t) ⊎ LeadsTo table t u.0) reached
  pub closed : All (λ (u : TypeNo). All (λ (w : TypeNo). Contains reached w × (w.0 ≢ t)) (leads_at table u.0)) (take at reached)
  pub reach : at ≤ length reached

-- a mark that was read
pub slice_get-mark : (marks : List Bool) (i : ℕ) (read b : Bool) → i < length marks → read ≡ get_or marks i read → read ≡ b → slice_get marks i ≡ Some b
slice_get-mark marks i read b within is e = slice_get_read marks (length marks) i read refl within is ∙ ap Some e

pub leads_within : (table : Table) (t : ℕ) → AreKnown table → All (λ (u : TypeNo). u.0 < length table.shapes) (leads_at table t)
leads_within table t known = go (shape_at table t) refl where
  go : (shape : Option Shape) → shape_at table t ≡ shape → All (λ (u : TypeNo). u.0 < length table.shapes) (leads_at table t)
  go None e = let none : leads_at table t ≡ [] = rw e refl in
      let P : List TypeNo → Type 0 = λ us. All (λ (u : TypeNo). u.0 < length table.shapes) us in
      subst P (sym none) (All-nil (λ (u : TypeNo). u.0 < length table.shapes))
  go (Some shape) e =
      let P : List TypeNo → Type 0 = λ us. All (λ (u : TypeNo). u.0 < length table.shapes) us in
      let Q : Shape → Type 0 = λ s. P (leads_of s) in
      let here : get_or table.shapes t shape ≡ shape = get_or_from_slice_get table.shapes t shape shape e in
      subst P (sym (leads_from_shape table t shape e)) (subst Q here (All-get_or Q table.shapes t shape (slice_get_within table.shapes t shape e) known))

-- where a type is t or t leads to it, t leads to its leads
LeadsTo-lead : (table : Table) (t : ℕ) (x w : TypeNo) → (x.0 ≡ t) ⊎ LeadsTo table t x.0 → Contains (leads_at table x.0) w → LeadsTo table t w.0
LeadsTo-lead table t x w led c =
    let lead = IsLead-from_leads table x.0 w c in
    elim led [
      | inl e ↦ let P : ℕ → Type 0 = λ n. LeadsTo table n w.0 in subst P e (at_once x.0 lead.0 w lead.1 lead.2)
      | inr on ↦ LeadsTo-further table t x.0 lead.0 w on lead.1 lead.2
    ]

pub IsReach-start : (table : Table) (t : TypeNo) → t.0 < length table.shapes → IsReach table t.0 0 (replicate (length table.shapes) false) (t ∷ [])
IsReach-start table t within =
    let n : ℕ = length table.shapes in
    record {
      count = length-replicate n false;
      within = All-cons (λ (u : TypeNo). u.0 < n) t [] within (All-nil (λ (u : TypeNo). u.0 < n));
      marked = λ k e.
          let short : k < length (replicate n false) = slice_get_within (replicate n false) k true e in
          let on : get_or (replicate n false) k false ≡ true = get_or_from_slice_get (replicate n false) k true false e in
          let off : get_or (replicate n false) k false ≡ false = get_or-replicate n k false false (omega (arith, length-replicate n false)) in
          cc;
      first = Contains-push [] t;
      led = let P : TypeNo → Type 0 = λ u. (u.0 ≡ t.0) ⊎ LeadsTo table t.0 u.0 in All-cons P t [] (inl refl) (All-nil P);
      closed = λ k d l. absurd (omega arith);
      reach = omega arith;
    }

pub IsReach-step : (table : Table) (t at : ℕ) (marks : List Bool) (reached : List TypeNo) (new_marks : List Bool) (new : List TypeNo) (x : TypeNo)
    → AreKnown table → IsReach table t at marks reached → at < length reached → x ≡ get_or reached at x → ¬ (Contains (leads_at table x.0) (record { 0 = t }))
    → HasReached (leads_at table x.0) marks reached new_marks new → IsReach table t (at + 1) new_marks new
IsReach-step table t at marks reached new_marks new x known r within read none h =
    let leads : List TypeNo = leads_at table x.0 in
    let IsWithin : TypeNo → Type 0 = λ u. u.0 < length table.shapes in
    let IsLed : TypeNo → Type 0 = λ u. (u.0 ≡ t) ⊎ LeadsTo table t u.0 in
    let IsOld : TypeNo → Type 0 = λ w. Contains reached w × (w.0 ≢ t) in
    let IsNew : TypeNo → Type 0 = λ w. Contains new w × (w.0 ≢ t) in
    let Reads : TypeNo → Type 0 = λ u. IsLed u in
    let led : IsLed x = subst IsLed (sym read) (All-get_or IsLed reached at x within r.led) in
    let keeps : (u : TypeNo) → Contains reached u → Contains new u =
    λ u c. let P : List TypeNo → Type 0 = λ us. Contains us u in subst P (sym h.grown) (Contains-append_left reached h.added u c) in
    let here : All IsNew leads =
    All-weaker (Contains leads) IsNew
    (λ w c. (All-contains (Contains new) leads w h.each c, λ e. let P : ℕ → Type 0 = λ n. Contains leads (record { 0 = n }) in none (subst P e c)))
    leads (All-contains_itself leads) in
    let long : length new ≡ length reached + length h.added = ap length h.grown ∙ length-append reached h.added in
    let front : take (at + 1) new ≡ take (at + 1) reached =
    ap (λ us. take (at + 1) us) h.grown ∙ take-append-le (at + 1) reached h.added (omega arith) in
    let IsClosed : TypeNo → Type 0 = λ u. All IsNew (leads_at table u.0) in
    record {
      count = h.count ∙ r.count;
      within = let P : List TypeNo → Type 0 = λ us. All IsWithin us in
          subst P (sym h.grown) (All-append IsWithin reached h.added r.within
          (All-weaker (Contains leads) IsWithin (λ u c. All-contains IsWithin leads u (leads_within table x.0 known) c) h.added h.among));
      marked = h.marked;
      first = keeps (record { 0 = t }) r.first;
      led = let P : List TypeNo → Type 0 = λ us. All IsLed us in
          subst P (sym h.grown) (All-append IsLed reached h.added r.led
          (All-weaker (Contains leads) IsLed (λ u c. inr (LeadsTo-lead table t x u led c)) h.added h.among));
      closed = let P : List TypeNo → Type 0 = λ us. All IsClosed us in
          subst P (sym front) (All-more IsClosed reached at x within
          (All-weaker (λ (u : TypeNo). All IsOld (leads_at table u.0)) IsClosed
          (λ u old. All-weaker IsOld IsNew (λ w o. (keeps w o.0, o.1)) (leads_at table u.0) old) (take at reached) r.closed)
          (subst IsClosed read here));
      reach = omega arith;
    }

pub IsReach-back : (table : Table) (t at : ℕ) (marks : List Bool) (reached : List TypeNo) (x : TypeNo)
    → IsReach table t at marks reached → at < length reached → x ≡ get_or reached at x → Contains (leads_at table x.0) (record { 0 = t }) → LeadsTo table t t
IsReach-back table t at marks reached x r within read back =
    let IsLed : TypeNo → Type 0 = λ u. (u.0 ≡ t) ⊎ LeadsTo table t u.0 in
    LeadsTo-lead table t x (record { 0 = t }) (subst IsLed (sym read) (All-get_or IsLed reached at x within r.led)) back

-- from what is closed nothing leads out of it
stays_within : (table : Table) (t : ℕ) (reached : List TypeNo)
    → All (λ (u : TypeNo). All (λ (w : TypeNo). Contains reached w × (w.0 ≢ t)) (leads_at table u.0)) reached
    → (x y : ℕ) → Contains reached (record { 0 = x }) → LeadsTo table x y → Contains reached (record { 0 = y }) × (y ≢ t)
stays_within table t reached closed _ _ c (at_once x shape u is lead) =
    let IsIn : TypeNo → Type 0 = λ w. Contains reached w × (w.0 ≢ t) in
    let leads : All IsIn (leads_at table x) = All-contains (λ (u : TypeNo). All IsIn (leads_at table u.0)) reached (record { 0 = x }) closed c in
    All-contains IsIn (leads_of shape) u (let P : List TypeNo → Type 0 = λ us. All IsIn us in subst P (leads_from_shape table x shape is) leads) lead
stays_within table t reached closed _ _ c (by_way x shape u w is lead on) =
    let IsIn : TypeNo → Type 0 = λ w. Contains reached w × (w.0 ≢ t) in
    let leads : All IsIn (leads_at table x) = All-contains (λ (u : TypeNo). All IsIn (leads_at table u.0)) reached (record { 0 = x }) closed c in
    let next : IsIn u = All-contains IsIn (leads_of shape) u (let P : List TypeNo → Type 0 = λ us. All IsIn us in subst P (leads_from_shape table x shape is) leads) lead in
    stays_within table t reached closed u.0 w next.0 on

pub IsReach-end : (table : Table) (t at : ℕ) (marks : List Bool) (reached : List TypeNo)
    → IsReach table t at marks reached → length reached ≤ at → ¬ (LeadsTo table t t)
IsReach-end table t at marks reached r long back =
    let IsClosed : TypeNo → Type 0 = λ u. All (λ (w : TypeNo). Contains reached w × (w.0 ≢ t)) (leads_at table u.0) in
    let P : List TypeNo → Type 0 = λ us. All IsClosed us in
    let closed : All IsClosed reached = subst P (take_all at reached long) r.closed in
    (stays_within table t reached closed t t r.first back).1 refl

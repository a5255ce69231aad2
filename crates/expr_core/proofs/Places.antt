-- What a numbering keeps is what the lists of parts have.
use Rattle.std.proofs.Common.{◌≡◌, ℕ, zero, suc, ◌+◌, ◌<◌, ◌≤◌, List, [], ◌∷◌, ◌++◌, length, get_or, map, take, Option, Some, None, slice_get, refl, sym, ◌∙◌, ap, subst, inl, inr, arith}
use Rattle.std.specs.List.{fold}
use Rattle.std.specs.Option.{option_map}
use Rattle.std.proofs.lemmas.Bool.{cases_lt}
use Rattle.std.proofs.lemmas.List.{append-nil, append_assoc, length-map, length_push, map-append, map_more, get_or_append_left, get_or_push, take-append-le, take_at, take_all}
use Rattle.std.proofs.lemmas.List.Concat.{flat_map-append}
use Rattle.std.proofs.lemmas.List.Sums.{fold_push}
use Rattle.std.proofs.lemmas.Option.{slice_get-map, slice_get_within}
use Rattle.expr_core.specs.declared.numbering.Place.{Place}
use Rattle.expr_core.specs.declared.numbering.Numbering.{Numbering}
use Rattle.expr_core.specs.Numbers.{joined, parts_of}
use Rattle.expr_core.specs.Numbering.{own_places, added, numbering_of}
use Rattle.expr_core.proofs.Lists.{slice_get-joined, parts_of-more, parts_of-last, model_of_part, map-Some-more, slice_get_some}

-- the part that stands at a place
abbrev part_at : {A : Type 0} → List (List A) → Place → Option A
part_at lists p = slice_get (parts_of lists p.model) p.at

-- each start is kept, and the place of each number leads to the part of that number
pub record IsNumbered {A : Type 0} (lists : List (List A)) (n : Numbering) : Type 0 where
  pub counted : length n.starts ≡ length lists
  pub starts : (m : ℕ) → m < length lists → get_or n.starts m 0 ≡ length (joined (take m lists))
  pub leads : map (part_at lists) n.places ≡ map Some (joined lists)

pub count_of : {A : Type 0} (lists : List (List A)) (n : Numbering) → IsNumbered lists n → length n.places ≡ length (joined lists)
count_of lists n h = sym (length-map n.places (part_at lists)) ∙ ap length h.leads ∙ length-map (joined lists) Some

joined-push : {A : Type 0} (lists : List (List A)) (l : List A) → joined (lists ++ l ∷ []) ≡ joined lists ++ l
joined-push lists l = flat_map-append (λ parts. parts) lists (l ∷ []) ∙ ap (λ ys. joined lists ++ ys) (append-nil l)

keeps : {A : Type 0} (lists more : List (List A)) (places : List Place) (xs : List A) → map (part_at lists) places ≡ map Some xs
    → map (part_at (lists ++ more)) places ≡ map Some xs
keeps lists more [] [] h = refl
keeps lists more [] (x ∷ xs) h = cc
keeps lists more (p ∷ places) [] h = cc
keeps lists more (p ∷ places) (x ∷ xs) h =
    let here : slice_get (parts_of lists p.model) p.at ≡ Some x = cc in
    let rest : map (part_at lists) places ≡ map Some xs = cc in
    let there : slice_get (parts_of (lists ++ more) p.model) p.at ≡ Some x = parts_of-more lists more p.model p.at x here in
    ap (λ o. o ∷ map (part_at (lists ++ more)) places) there ∙ ap (λ os. Some x ∷ os) (keeps lists more places xs rest)

own_leads : {A : Type 0} (lists : List (List A)) (l : List A) (k : ℕ) → k ≤ length l → map (part_at (lists ++ l ∷ [])) (own_places (length lists) k) ≡ map Some (take k l)
own_leads lists l zero within = refl
own_leads lists l (suc k) within =
    let f = part_at (lists ++ l ∷ []) in
    map-append f (own_places (length lists) k) (record { model = length lists; at = k } ∷ [])
    ∙ ap (λ os. os ++ f (record { model = length lists; at = k }) ∷ []) (own_leads lists l k (omega arith))
    ∙ ap (λ ps. map Some (take k l) ++ slice_get ps k ∷ []) (parts_of-last lists l)
    ∙ sym (map-Some-more l k (omega arith))

leads-added : {A : Type 0} (lists : List (List A)) (l : List A) (n : Numbering) → IsNumbered lists n
    → map (part_at (lists ++ l ∷ [])) (n.places ++ own_places (length n.starts) (length l)) ≡ map Some (joined (lists ++ l ∷ []))
leads-added lists l n h =
    let f = part_at (lists ++ l ∷ []) in
    ap (λ m. map f (n.places ++ own_places m (length l))) h.counted
    ∙ map-append f n.places (own_places (length lists) (length l))
    ∙ ap (λ os. os ++ map f (own_places (length lists) (length l))) (keeps lists (l ∷ []) n.places (joined lists) h.leads)
    ∙ ap (λ os. map Some (joined lists) ++ os) (own_leads lists l (length l) (omega arith) ∙ ap (map Some) (take_all (length l) l (omega arith)))
    ∙ sym (map-append Some (joined lists) l)
    ∙ ap (map Some) (sym (joined-push lists l))

starts-added : {A : Type 0} (lists : List (List A)) (l : List A) (n : Numbering) → IsNumbered lists n → (m : ℕ) → m < length (lists ++ l ∷ [])
    → get_or (n.starts ++ length n.places ∷ []) m 0 ≡ length (joined (take m (lists ++ l ∷ [])))
starts-added lists l n h m within =
    let counted = h.counted in
    let more : length (lists ++ l ∷ []) ≡ length lists + 1 = length_push lists l in
    elim (cases_lt m (length lists)) [
      | inl low ↦ get_or_append_left n.starts (length n.places ∷ []) 0 m (omega arith) ∙ h.starts m low
          ∙ ap (λ ls. length (joined ls)) (sym (take-append-le m lists (l ∷ []) (omega arith)))
      | inr high ↦ get_or_push n.starts (length n.places) 0 m (omega arith) ∙ count_of lists n h
          ∙ ap (λ ls. length (joined ls)) (sym (take_at lists (l ∷ []) m (omega arith)))
    ]

IsNumbered-added : {A : Type 0} (lists : List (List A)) (l : List A) (n : Numbering) → IsNumbered lists n → IsNumbered (lists ++ l ∷ []) (added n (length l))
IsNumbered-added lists l n h = record {
  counted = length_push n.starts (length n.places) ∙ ap (λ k. k + 1) h.counted ∙ sym (length_push lists l);
  starts = starts-added lists l n h;
  leads = leads-added lists l n h;
}

IsNumbered-fold : {A : Type 0} (done rest : List (List A)) (n : Numbering) → IsNumbered done n
    → IsNumbered (done ++ rest) (fold (λ (n : Numbering) (parts : List A). added n (length parts)) n rest)
IsNumbered-fold {A} done [] n h = let P : List (List A) → Type 0 = λ ls. IsNumbered ls n in subst P (sym (append-nil done)) h
IsNumbered-fold {A} done (l ∷ rest) n h =
    let P : List (List A) → Type 0 = λ ls. IsNumbered ls (fold (λ (n : Numbering) (parts : List A). added n (length parts)) n (l ∷ rest)) in
    subst P (append_assoc done (l ∷ []) rest) (IsNumbered-fold (done ++ l ∷ []) rest (added n (length l)) (IsNumbered-added done l n h))

pub IsNumbered-of : {A : Type 0} (lists : List (List A)) (n : Numbering) → n ≡ numbering_of lists → IsNumbered lists n
IsNumbered-of {A} lists n is =
    let P : Numbering → Type 0 = IsNumbered lists in
    subst P (sym is) (IsNumbered-fold [] lists (record { starts = []; places = [] }) (record { counted = refl; starts = λ m within. absurd (omega arith); leads = refl }))

-- one model more is numbered
pub numbering_of-more : {A B : Type 0} (parts : B → List A) (bs : List B) (i : ℕ) (d : B) (n : Numbering) (count : ℕ) → i < length bs → n ≡ numbering_of (map parts (take i bs))
    → count ≡ length (parts (get_or bs i d)) → added n count ≡ numbering_of (map parts (take (i + 1) bs))
numbering_of-more {A} parts bs i d n count within is counts =
    let empty : Numbering = record { starts = []; places = [] } in
    ap (λ m. added m count) is ∙ ap (added (numbering_of (map parts (take i bs)))) counts
    ∙ sym (fold_push (λ (m : Numbering) (ps : List A). added m (length ps)) empty (map parts (take i bs)) (parts (get_or bs i d)))
    ∙ ap numbering_of (sym (map_more parts bs i d within))

same_optional : {A : Type 0} (y o : Option A) → Some y ≡ option_map Some o → (x : A) → o ≡ Some x → y ≡ Some x
same_optional y None h x is = cc
same_optional y (Some z) h x is = cc

-- the place of a number leads to the part of that number
pub part_led : {A : Type 0} (lists : List (List A)) (n : Numbering) → IsNumbered lists n → (v : ℕ) (p : Place) (x : A) → slice_get n.places v ≡ Some p → slice_get (joined lists) v ≡ Some x
    → slice_get (parts_of lists p.model) p.at ≡ Some x
part_led lists n h v p x place part =
    let led : option_map (part_at lists) (slice_get n.places v) ≡ option_map Some (slice_get (joined lists) v) =
    sym (slice_get-map (part_at lists) n.places v) ∙ ap (λ os. slice_get os v) h.leads ∙ slice_get-map Some (joined lists) v in
    same_optional (part_at lists p) (slice_get (joined lists) v) (ap (option_map (part_at lists)) (sym place) ∙ led) x part

-- the number of a model's part is one of the numbers, and leads to that part
pub record IsPartNumber {A : Type 0} (lists : List (List A)) (n : Numbering) (m at : ℕ) : Type 0 where
  pub model : m < length n.starts
  pub is : get_or n.starts m 0 ≡ length (joined (take m lists))
  pub known : get_or n.starts m 0 + at < length n.places
  pub part : slice_get (joined lists) (get_or n.starts m 0 + at) ≡ slice_get (parts_of lists m) at

pub number_known : {A : Type 0} (lists : List (List A)) (n : Numbering) (m at : ℕ) → IsNumbered lists n → at < length (parts_of lists m) → IsPartNumber lists n m at
number_known lists n m at h within =
    let inside : m < length lists = model_of_part lists m at within in
    let start = h.starts m inside in
    let part = ap (λ k. slice_get (joined lists) (k + at)) start ∙ slice_get-joined lists m at within in
    let here = slice_get_some (parts_of lists m) at within in
    record {
      model = subst (λ k. m < k) (sym h.counted) inside;
      is = start;
      known = subst (λ k. get_or n.starts m 0 + at < k) (sym (count_of lists n h)) (slice_get_within (joined lists) (get_or n.starts m 0 + at) here.0 (part ∙ here.1));
      part = part;
    }

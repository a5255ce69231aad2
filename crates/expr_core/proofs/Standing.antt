-- Where the part of a number stands among what models have, and the number of a part.
use Rattle.std.proofs.Common.{◌≡◌, ℕ, ◌+◌, ◌<◌, List, length, get_or, map, take, Some, None, slice_get, refl, sym, ◌∙◌, ap, subst}
use Rattle.std.specs.List.{position}
use Rattle.std.specs.Option.{option_map}
use Rattle.std.specs.Str.{bytes_eq}
use Rattle.std.proofs.lemmas.List.{length-map}
use Rattle.std.proofs.lemmas.Option.{slice_get-map, slice_get_read, slice_get_within}
use Rattle.expr_core.specs.declared.numbering.Place.{Place}
use Rattle.expr_core.specs.declared.numbering.Numbering.{Numbering}
use Rattle.expr_core.specs.Numbers.{joined, parts_of, number_of}
use Rattle.expr_core.specs.Numbering.{numbering_of}
use Rattle.expr_core.proofs.Lists.{model_of_part, part_in, slice_get_some}
use Rattle.expr_core.proofs.Names.{found_name, position-map}
use Rattle.expr_core.proofs.Places.{IsNumbered, IsNumbered-of, IsPartNumber, count_of, number_known, part_led}

module _ {A B : Type 0} (parts : B → List A) (bs : List B) (n : Numbering) (is : n ≡ numbering_of (map parts bs)) where
  pub known : (v : ℕ) → v < length (joined (map parts bs)) → v < length n.places
  known v within = subst (λ k. v < k) (sym (count_of (map parts bs) n (IsNumbered-of (map parts bs) n is))) within

  pub counted : length n.places ≡ length (joined (map parts bs))
  counted = count_of (map parts bs) n (IsNumbered-of (map parts bs) n is)

  module _ (v : ℕ) (within : v < length (joined (map parts bs))) (p : Place) (place : slice_get n.places v ≡ Some p) where
    led : (x : A) → slice_get (joined (map parts bs)) v ≡ Some x → slice_get (parts_of (map parts bs) p.model) p.at ≡ Some x
    led x here = part_led (map parts bs) n (IsNumbered-of (map parts bs) n is) v p x place here

    pub model_within : p.model < length bs
    model_within =
        let some = slice_get_some (joined (map parts bs)) v within in
        let inside : p.model < length (map parts bs) = model_of_part (map parts bs) p.model p.at (slice_get_within _ p.at some.0 (led some.0 some.1)) in
        subst (λ k. p.model < k) (length-map bs parts) inside

    pub part_stands : (b : B) → b ≡ get_or bs p.model b → slice_get (parts b) p.at ≡ slice_get (joined (map parts bs)) v
    part_stands b here =
        let some = slice_get_some (joined (map parts bs)) v within in
        ap (λ c. slice_get (parts c) p.at) here ∙ (part_in parts bs p.model p.at some.0 b (led some.0 some.1)).1 ∙ sym some.1

    pub part_within : (b : B) → b ≡ get_or bs p.model b → p.at < length (parts b)
    part_within b here =
        let some = slice_get_some (joined (map parts bs)) v within in
        slice_get_within (parts b) p.at some.0 (part_stands b here ∙ some.1)

pub shown_at : {A B : Type 0} (show : A → B) (xs : List A) (at : ℕ) (x : A) → at < length xs → x ≡ get_or xs at x → slice_get (map show xs) at ≡ Some (show x)
shown_at show xs at x within here = slice_get-map show xs at ∙ ap (option_map show) (slice_get_read xs (length xs) at x refl within here)

-- what a search among a model's own parts answers: `show` is how contracts see a part
module _ {A C : Type 0} (name_of : A → List ℕ) (show : C → A) (lists : List (List A)) (xs : List C) (m : ℕ) (name : List ℕ) (own : map show xs ≡ parts_of lists m) where
  own_position : position (λ x. bytes_eq name (name_of (show x))) xs ≡ position (λ x. bytes_eq name (name_of x)) (parts_of lists m)
  own_position = sym (position-map (λ x. bytes_eq name (name_of x)) show xs) ∙ ap (position (λ x. bytes_eq name (name_of x))) own

  pub unfound : position (λ x. bytes_eq name (name_of (show x))) xs ≡ None → number_of name_of lists m name ≡ None
  unfound none = ap (option_map (λ at. length (joined (take m lists)) + at)) (sym own_position ∙ none)

  module _ (n : Numbering) (numbered : IsNumbered lists n) (at : ℕ) (here : position (λ x. bytes_eq name (name_of (show x))) xs ≡ Some at) where
    own_here : position (λ x. bytes_eq name (name_of x)) (parts_of lists m) ≡ Some at
    own_here = sym own_position ∙ here

    facts : IsPartNumber lists n m at
    facts = number_known lists n m at numbered (found_name name_of name (parts_of lists m) at own_here).0

    pub found_model : m < length n.starts
    found_model = facts.model

    pub found_within : get_or n.starts m 0 + at < length n.places
    found_within = facts.known

    pub found_below : get_or n.starts m 0 + at < length (joined lists)
    found_below = subst (λ k. get_or n.starts m 0 + at < k) (count_of lists n numbered) facts.known

    pub found_number : number_of name_of lists m name ≡ Some (get_or n.starts m 0 + at)
    found_number = ap (option_map (λ i. length (joined (take m lists)) + i)) own_here ∙ ap (λ k. Some (k + at)) (sym facts.is)

    pub found_named : option_map name_of (slice_get (joined lists) (get_or n.starts m 0 + at)) ≡ Some name
    found_named = ap (option_map name_of) facts.part ∙ (found_name name_of name (parts_of lists m) at own_here).1

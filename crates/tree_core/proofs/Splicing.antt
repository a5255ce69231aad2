-- Parts put in and taken out, in the code's lists and in those that contracts see.
use Rattle.std.proofs.Common.{◌≡◌, ℕ, ◌+◌, ◌≤◌, zero, suc, List, [], ◌∷◌, ◌++◌, length, map, take, drop, refl, sym, ap, ◌∙◌, ⊎_elim, min, arith, add-zero, add-one}
use Rattle.std.specs.List.{insert, remove}
use Rattle.std.specs.Prelude.{slice_get}
use Rattle.std.specs.Option.{option_map}
use Rattle.tree_core.specs.Nodes.{items_of, entries_of}
use Rattle.std.proofs.lemmas.List.{map-append, take-map, drop-map, take_all, append-nil, length-map}
use Rattle.std.proofs.Math.ListN.{drop_of_length-le}
use Rattle.edit_core.specs.Labelled as edits
use Rattle.edit_core.specs.Labelled.{Entry, many, keyed, items_in, entries_in, branches, entries}
use Rattle.edit_core.specs.Edit.{add, remove as remove_part, to_item, to_entry}
use Rattle.edit_core.specs.Logged.{spliced, after_at}
use Rattle.node_core.specs.declared.labelled.Labelled.{Labelled}
use Rattle.node_core.specs.declared.labelled.LabelledField.{LabelledField}
use Rattle.node_core.specs.View.{label, labelled, items, fields, field}
use Rattle.node_core.proofs.Views.{field-is, labelled-Array, labelled-Record}
use Rattle.node_core.specs.declared.labelled.Label.{Label}
use Rattle.node_core.specs.declared.labelled.Labelled
use Rattle.std.proofs.lemmas.Bool.{cases_lt}

pub items-branches : (xs : List edits.Labelled) → items_in (branches xs) ≡ xs
items-branches [] = refl
items-branches (x ∷ xs) = ap (λ ys. x ∷ ys) (items-branches xs)

pub entries-entries : (es : List Entry) → entries_in (entries es) ≡ es
entries-entries [] = refl
entries-entries (e ∷ es) = ap (λ fs. e ∷ fs) (entries-entries es)

module _ {A B : Type 0} (f : A → B) where
  pub map-insert : (xs : List A) (i : ℕ) (x : A) → map f (insert xs i x) ≡ spliced i 0 (f x ∷ []) (map f xs)
  map-insert xs i x =
      map-append f (take i xs) (x ∷ drop i xs)
      ∙ ap (λ a. a ++ (f x ∷ map f (drop i xs))) (sym (take-map f i xs))
      ∙ ap (λ b. take i (map f xs) ++ (f x ∷ b)) (sym (drop-map f i xs))
      ∙ ap (λ n. take i (map f xs) ++ (f x ∷ drop n (map f xs))) (sym (add-zero i))

  pub map-remove : (xs : List A) (i : ℕ) → map f (remove xs i) ≡ spliced i 1 [] (map f xs)
  map-remove xs i =
      map-append f (take i xs) (drop (suc i) xs)
      ∙ ap (λ a. a ++ map f (drop (suc i) xs)) (sym (take-map f i xs))
      ∙ ap (λ b. take i (map f xs) ++ b) (sym (drop-map f (suc i) xs))
      ∙ ap (λ n. take i (map f xs) ++ drop n (map f xs)) (sym (add-one i))

  pub map-whole : (xs : List A) (i : ℕ) → length xs ≤ i → map f xs ≡ spliced i 1 [] (map f xs)
  map-whole xs i h =
      let within : length (map f xs) ≤ i = omega (arith, length-map xs f) in
      let beyond : length (map f xs) ≤ i + 1 = omega (arith, within) in
      sym (append-nil (map f xs)) ∙ ap (λ a. a ++ []) (sym (take_all i (map f xs) within)) ∙ ap (λ b. take i (map f xs) ++ b) (sym (drop_of_length-le (map f xs) beyond))

-- past the end, a part goes to the end
at-end : {A : Type 0} → (xs : List A) (i n : ℕ) (x : A) → length xs ≤ i → length xs ≤ n → insert xs n x ≡ insert xs i x
at-end xs i n x h k =
    ap (λ a. a ++ (x ∷ drop n xs)) (take_all n xs k ∙ sym (take_all i xs h))
    ∙ ap (λ b. take i xs ++ (x ∷ b)) (drop_of_length-le xs k ∙ sym (drop_of_length-le xs h))

inserted : {A : Type 0} → (xs : List A) (i n : ℕ) (x : A) → n ≡ min i (length xs) → insert xs n x ≡ insert xs i x
inserted xs i n x e = ⊎_elim (λ h. at-end xs i n x (omega (arith, h)) (omega (arith, h, e))) (λ h. ap (λ m. insert xs m x) (omega (arith, h, e))) (cases_lt (length xs) i)

pub put_item : (xs : List Labelled) (i n : ℕ) (x : Labelled) → n ≡ min i (length xs) → items (insert xs n x) ≡ spliced i 0 (labelled x ∷ []) (items xs)
put_item xs i n x e = ap items (inserted xs i n x e) ∙ map-insert labelled xs i x

pub put_entry : (fs : List LabelledField) (i n : ℕ) (f : LabelledField) → n ≡ min i (length fs) → fields (insert fs n f) ≡ spliced i 0 (field f ∷ []) (fields fs)
put_entry fs i n f e = ap fields (inserted fs i n f e) ∙ map-insert field fs i f

pub entry_seen : (k : List ℕ) (x : Labelled) → field (record { key = k; value = x }) ≡ (k, labelled x)
entry_seen k x = field-is (record { key = k; value = x })

pub cut_item : (xs : List Labelled) (i : ℕ) → items (remove xs i) ≡ spliced i 1 [] (items xs)
cut_item xs i = map-remove labelled xs i

pub cut_entry : (fs : List LabelledField) (i : ℕ) → fields (remove fs i) ≡ spliced i 1 [] (fields fs)
cut_entry fs i = map-remove field fs i

pub no_item_cut : (xs : List Labelled) (i : ℕ) → length xs ≤ i → items xs ≡ spliced i 1 [] (items xs)
no_item_cut xs i h = map-whole labelled xs i h

pub no_entry_cut : (fs : List LabelledField) (i : ℕ) → length fs ≤ i → fields fs ≡ spliced i 1 [] (fields fs)
no_entry_cut fs i h = map-whole field fs i h

pub items_seen : (xs : List Labelled) → items_in (branches (items xs)) ≡ items xs
items_seen xs = items-branches (items xs)

pub entries_seen : (fs : List LabelledField) → entries_in (entries (fields fs)) ≡ fields fs
entries_seen fs = entries-entries (fields fs)

pub count_items : (xs : List Labelled) → length (items_in (branches (items xs))) ≡ length xs
count_items xs = ap length (items_seen xs) ∙ length-map xs labelled

pub count_entries : (fs : List LabelledField) → length (entries_in (entries (fields fs))) ≡ length fs
count_entries fs = ap length (entries_seen fs) ∙ length-map fs field

-- a node with other parts, as contracts see it
pub put_array : (l : Label) (xs ys : List Labelled) (i : ℕ) (new : Labelled) → items ys ≡ spliced i 0 (labelled new ∷ []) (items xs)
    → labelled (Labelled.Array l ys) ≡ after_at (to_item i) (add (labelled new)) (labelled (Labelled.Array l xs))
put_array l xs ys i new h =
    labelled-Array l ys ∙ ap (λ p. many (label l) (branches p)) h
    ∙ ap (λ p. many (label l) (branches (spliced i 0 (labelled new ∷ []) p))) (sym (items-branches (items xs)))
    ∙ ap (after_at (to_item i) (add (labelled new))) (sym (labelled-Array l xs))

pub put_record : (l : Label) (fs gs : List LabelledField) (i : ℕ) (key : List ℕ) (new : Labelled)
    → fields gs ≡ spliced i 0 (field (record { key = key; value = new }) ∷ []) (fields fs)
    → labelled (Labelled.Record l gs) ≡ after_at (to_entry i key) (add (labelled new)) (labelled (Labelled.Record l fs))
put_record l fs gs i key new h =
    labelled-Record l gs ∙ ap (λ p. keyed (label l) (entries p)) h
    ∙ ap (λ e. keyed (label l) (entries (spliced i 0 (e ∷ []) (fields fs)))) (entry_seen key new)
    ∙ ap (λ p. keyed (label l) (entries (spliced i 0 ((key, labelled new) ∷ []) p))) (sym (entries-entries (fields fs)))
    ∙ ap (after_at (to_entry i key) (add (labelled new))) (sym (labelled-Record l fs))

pub cut_array : (l : Label) (xs ys : List Labelled) (i : ℕ) (old : edits.Labelled) → items ys ≡ spliced i 1 [] (items xs)
    → labelled (Labelled.Array l ys) ≡ after_at (to_item i) (remove_part old) (labelled (Labelled.Array l xs))
cut_array l xs ys i old h =
    labelled-Array l ys ∙ ap (λ p. many (label l) (branches p)) h
    ∙ ap (λ p. many (label l) (branches (spliced i 1 [] p))) (sym (items-branches (items xs)))
    ∙ ap (after_at (to_item i) (remove_part old)) (sym (labelled-Array l xs))

pub cut_record : (l : Label) (fs gs : List LabelledField) (i : ℕ) (key : List ℕ) (old : edits.Labelled) → fields gs ≡ spliced i 1 [] (fields fs)
    → labelled (Labelled.Record l gs) ≡ after_at (to_entry i key) (remove_part old) (labelled (Labelled.Record l fs))
cut_record l fs gs i key old h =
    labelled-Record l gs ∙ ap (λ p. keyed (label l) (entries p)) h
    ∙ ap (λ p. keyed (label l) (entries (spliced i 1 [] p))) (sym (entries-entries (fields fs)))
    ∙ ap (after_at (to_entry i key) (remove_part old)) (sym (labelled-Record l fs))

-- the parts of a node, as contracts see them
pub array_items : (l : Label) (xs : List Labelled) → items xs ≡ items_of (labelled (Labelled.Array l xs))
array_items l xs = sym (items-branches (items xs)) ∙ ap items_of (sym (labelled-Array l xs))

pub record_entries : (l : Label) (fs : List LabelledField) → fields fs ≡ entries_of (labelled (Labelled.Record l fs))
record_entries l fs = sym (entries-entries (fields fs)) ∙ ap entries_of (sym (labelled-Record l fs))

-- an item by its index, as contracts see it
pub item_seen : (xs : List Labelled) (i : ℕ) → option_map labelled (slice_get xs i) ≡ slice_get (items xs) i
item_seen [] i = refl
item_seen (x ∷ xs) zero = refl
item_seen (x ∷ xs) (suc i) = item_seen xs i

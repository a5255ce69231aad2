-- A list that is written one by one is the list that is written.
use Rattle.std.proofs.Common.{◌≡◌, ℕ, ◌+◌, ◌-◌, ◌<◌, ◌≤◌, length, take, drop, drop-cons, get_or, add-one, subst, All, arith, List, [], ◌∷◌, ◌++◌, Bool, true, false, Ok, Err, append-nil, refl, sym, ap, ◌∙◌, if◌then◌else◌}
use Rattle.std.specs.Prelude.{nat_le}
use Rattle.std.proofs.lemmas.List.{append_assoc, take_rest}
use Rattle.snap_core.specs.Value.{depth_of}
use Rattle.pointer_core.specs.declared.refusal.Rule.TheVariants as rule
use Rattle.patch_core.specs.declared.patch.Patch.{Patch}
use Rattle.type_table.specs.Table.{Catalog}
use Rattle.type_core.specs.Making.{Outcome, Refused}
use Rattle.edit_core.specs.Labelled.{bare}
use Rattle.edit_core.specs.Logged.{LoggedEdit}
use Rattle.tree_core.specs.Outcome.{◌>>=◌, provided}
use Rattle.tree_core.specs.Changed.{Changed}
use Rattle.tree_core.specs.Writing.{Tree}
use Rattle.tree_core.specs.Listing.{patch_written, patches_written}
use Rattle.type_core.specs.Made.{refused_as}
use Rattle.tree_core.specs.declared.error.TreeError.{TreeError}
use Rattle.tree_core.specs.declared.error.TreeError.TheVariants as TreeError
use Rattle.tree_core.specs.declared.changed.Changed.{Changed as Code}
use Rattle.tree_core.specs.Answers.{Answers}
use Rattle.tree_core.specs.Written.{changed}
use Rattle.tree_lists.specs.Folding.{one_written, tree_after, and_then, rest_written}
use Rattle.tree_lists.proofs.Keeping.{all-behind}

-- an outcome that is judged, and then goes on

judged-Ok : (o : Outcome Changed) (fits : Changed → Bool) (rest : Changed → Outcome Changed) (c : Changed)
    → (o >>= (λ x. provided (fits x) [] rule.Large (Ok x))) ≡ Ok c → (o >>= (λ x. provided (fits x) [] rule.Large (rest x))) ≡ rest c
judged-Ok (Err e) fits rest c h = absurd (cc)
judged-Ok (Ok x) fits rest c h = by (fits x) h where
  by : (b : Bool) → provided b [] rule.Large (Ok x) ≡ Ok c → provided b [] rule.Large (rest x) ≡ rest c
  by true h = let same : x ≡ c = cc in ap rest same
  by false h = absurd (cc)

judged-Err : (o : Outcome Changed) (fits : Changed → Bool) (rest : Changed → Outcome Changed) (e : Refused)
    → (o >>= (λ x. provided (fits x) [] rule.Large (Ok x))) ≡ Err e → (o >>= (λ x. provided (fits x) [] rule.Large (rest x))) ≡ Err e
judged-Err (Err f) fits rest e h = h
judged-Err (Ok x) fits rest e h = by (fits x) h where
  by : (b : Bool) → provided b [] rule.Large (Ok x) ≡ Err e → provided b [] rule.Large (rest x) ≡ Err e
  by true h = absurd (cc)
  by false h = h

abbrev fits : Changed → Bool
fits c = nat_le (depth_of (bare c.value)) 64

abbrev going_on : Catalog → List Patch → Changed → Outcome Changed
going_on types ps made = patches_written types ps (tree_after made) >>= (λ rest. Ok (and_then made rest))

-- the first patch

pub first-written : (types : Catalog) (p : Patch) (ps : List Patch) (tree : Tree) (c : Changed) → one_written types p tree ≡ Ok c
    → rest_written types ps c ≡ patches_written types (p ∷ ps) tree
first-written types p ps tree c h = sym (judged-Ok (patch_written types p tree) fits (going_on types ps) c h)

pub first-refused : (types : Catalog) (p : Patch) (ps : List Patch) (tree : Tree) (e : Refused) → one_written types p tree ≡ Err e
    → patches_written types (p ∷ ps) tree ≡ Err e
first-refused types p ps tree e h = judged-Err (patch_written types p tree) fits (going_on types ps) e h

-- a further one

joined-on : (o : Outcome Changed) (made next : Changed)
    → ((o >>= (λ rest. Ok (and_then next rest))) >>= (λ rest. Ok (and_then made rest))) ≡ (o >>= (λ rest. Ok (and_then (and_then made next) rest)))
joined-on (Err e) made next = refl
joined-on (Ok rest) made next =
    let With : List LoggedEdit → Outcome Changed = λ es. Ok (record { value = rest.value; edits = es; next = rest.next }) in
    ap With (sym (append_assoc made.edits next.edits rest.edits))

pub next-written : (types : Catalog) (p : Patch) (ps : List Patch) (made next : Changed) → one_written types p (tree_after made) ≡ Ok next
    → rest_written types ps (and_then made next) ≡ rest_written types (p ∷ ps) made
next-written types p ps made next h =
    sym (joined-on (patches_written types ps (tree_after next)) made next)
    ∙ ap (λ o. o >>= (λ rest. Ok (and_then made rest))) (first-written types p ps (tree_after made) next h)

pub next-refused : (types : Catalog) (p : Patch) (ps : List Patch) (made : Changed) (e : Refused) → one_written types p (tree_after made) ≡ Err e
    → rest_written types (p ∷ ps) made ≡ Err e
next-refused types p ps made e h = ap (λ o. o >>= (λ rest. Ok (and_then made rest))) (first-refused types p ps (tree_after made) e h)

-- none is left
pub none-left : (types : Catalog) (made : Changed) → rest_written types [] made ≡ Ok made
none-left types made =
    let With : List LoggedEdit → Outcome Changed = λ es. Ok (record { value = made.value; edits = es; next = made.next }) in
    ap With (append-nil made.edits)

-- likewise, as answers

pub answers-first : (types : Catalog) (p : Patch) (ps : List Patch) (tree : Tree) (e : TreeError) → Answers {T = Code} changed (Err e) (one_written types p tree)
    → Answers {T = Code} changed (Err e) (patches_written types (p ∷ ps) tree)
answers-first types p ps tree (TreeError.Refused r) h = first-refused types p ps tree (refused_as r) h
answers-first types p ps tree TreeError.Memory h = tt

pub answers-next : (types : Catalog) (p : Patch) (ps : List Patch) (made : Changed) (e : TreeError) → Answers {T = Code} changed (Err e) (one_written types p (tree_after made))
    → Answers {T = Code} changed (Err e) (rest_written types (p ∷ ps) made)
answers-next types p ps made (TreeError.Refused r) h = next-refused types p ps made (refused_as r) h
answers-next types p ps made TreeError.Memory h = tt

-- the first of a list, and those behind it
pub first-of : {A : Type 0} → (xs : List A) (x : A) → 1 ≤ length xs → x ≡ get_or xs 0 x → x ∷ take (length xs - 1) (drop 1 xs) ≡ xs
first-of xs x h is = ap (λ ys. x ∷ ys) (take_rest xs 1) ∙ ap (λ z. z ∷ drop 1 xs) is ∙ sym (drop-cons xs 0 x (omega (arith, h)))

pub all-rest : (P : Patch → Type 0) (xs : List Patch) (x : Patch) → 1 ≤ length xs → x ≡ get_or xs 0 x → All P xs → All P (take (length xs - 1) (drop 1 xs))
all-rest P xs x h is all = let Each : List Patch → Type 0 = λ ys. All P ys in all-behind P x (take (length xs - 1) (drop 1 xs)) (subst Each (sym (first-of xs x h is)) all)

-- the next of a list, and those behind it
pub next-of : {A : Type 0} → (xs : List A) (i : ℕ) (x : A) → i < length xs → x ≡ get_or xs i x → x ∷ drop (i + 1) xs ≡ drop i xs
next-of xs i x h is = rw (add-one, drop-cons xs i x h, ← is) refl

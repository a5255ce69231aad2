-- The items of arrays and the entries of maps, as they are seen.
use Rattle.std.proofs.Common.{◌≡◌, ℕ, zero, suc, ◌+◌, ◌<◌, ◌≤◌, List, [], ◌∷◌, ◌++◌, length, map, Bool, true, false, Option, Some, None, Result, Ok, Err, slice_get, get_or, is_some, if◌then◌else◌, refl, sym, ◌∙◌, ap, subst, add-zero, suc-add, pos, arith}
use Rattle.std.specs.Prelude.{unwrap_or}
use Rattle.std.specs.Option.{option_map, option_and_then}
use Rattle.std.specs.List.{range_with_len}
use Rattle.std.specs.Str.{bytes_eq}
use Rattle.std.proofs.lemmas.Slice.Eq.{bytes_eq-Decides}
use Rattle.snap_core.specs.Value.{null, text, integer}
use Rattle.snap_core.specs.declared.number.NodeNo.{NodeNo}
use Rattle.snap_core.specs.declared.number.TypeNo.{TypeNo}
use Rattle.type_table.specs.Table.{Table}
use Rattle.edit_core.specs.declared.kind.Kind.{Kind}
use Rattle.edit_core.specs.declared.kind.Kind.TheVariants as kind
use Rattle.edit_core.specs.Labelled as edits
use Rattle.edit_core.specs.Labelled.{Labelled, leaf, many, keyed, entries_in}
use Rattle.edit_core.specs.Typing.{label_of}
use Rattle.edit_core.specs.Template.{entry_at}
use Rattle.tree_core.specs.declared.place.Place.{Place}
use Rattle.tree_core.specs.declared.place.Place.TheVariants.{Key}
use Rattle.tree_core.specs.Reading.{kind_at, size_at, key_at, part_at_place, part_of, node_of, node_no, key_of_map, key_in, value_in, size_of}
use Rattle.tree_core.specs.Nodes.{part_type}
use Rattle.tree_core.specs.TypesTyping.{typing_of}
use Rattle.tree_reading.specs.Held.{held_at, held_in, held_as, place_key}
use Rattle.eval_core.specs.declared.site.Site.{Site}
use Rattle.answer_ops.specs.View.{answer_of, answers_of, answers_from}
use Rattle.snap_core.specs.View.{view, items_view}
use Rattle.answer_ops.proofs.Views.{answer-Plain, answer-Several}
use Rattle.snap_core.specs.declared.snap.Snap
use Rattle.snap_core.proofs.Views.{view-Text, view-List}
use Rattle.std.proofs.lemmas.List.{map-append}
use Rattle.pointer_core.specs.declared.refusal.Rule.{Rule}
use Rattle.std.proofs.lemmas.List.FromFn.{length-map-range_with_len}
use Rattle.eval_core.specs.Operating.{in_bounds}
use Rattle.view_engine.specs.Steps.{tested}
use Rattle.answer_ops.specs.declared.value.Value
use Rattle.eval_core.specs.declared.cell.Cell.{Cell}
use Rattle.eval_core.specs.Sight as sight
use Rattle.eval_core.specs.Sight.{Sight, Entry}
use Rattle.eval_core.specs.Run.{Eval, looks}
use Rattle.eval_core.specs.Scope.{Scope, gives, judged, refused}
use Rattle.eval_core.specs.Reading as reading
use Rattle.eval_core.specs.Reading.{of_kind, of_level, entry_under, entry_answer, held_answer, size_of_kind, texts, tokens}
use Rattle.eval_core.specs.Answer.{Answer, answers_in, node, plain, several, answer}
use Rattle.eval_core.specs.Walking.{Item, given, plain_items, standing, walked, walked_kind, read_item}
use Rattle.view_engine.specs.declared.halt.Halt.{Halt}
use Rattle.view_engine.specs.declared.items.Items.TheVariants as items
use Rattle.view_engine.specs.declared.items.Items.{Items}
use Rattle.view_engine.specs.Did.{Read}
use Rattle.view_engine.specs.TreeSight.{Whole, sight_of, level_of, level_by, item_entry, key_entry, entry_of, map_size, held_there, being_by}
use Rattle.view_engine.specs.Walked.{items_of, given_value, given_plain}
use Rattle.view_engine.proofs.Doing.{read-look, read-looks, read-lift, tested-read-then, tested-gives}
use Rattle.view_engine.proofs.Seeing.{seen-level, being-some, read-alive}

-- what is made of a level
pub level-read : {T A : Type 0} (seen : T → A) (s : Scope) (whole : Whole) (n : NodeNo) (es : List Entry) (use_level : List Entry → Eval A) (r : Result T Halt) → s.sight ≡ sight_of whole
    → level_of whole n ≡ es → Read seen r (use_level es) → Read seen r (of_level s n use_level)
level-read seen s whole n es use_level r same is read =
    let e : s.sight.level n ≡ es = ap (λ (v : Sight). v.level n) same ∙ seen-level whole n ∙ is in
    read-looks seen r (Cell.Shape n) (s.sight.level n) use_level (subst (λ x. Read seen r (use_level x)) (sym e) read)

pub array-level : (whole : Whole) (n : NodeNo) (k : Kind) (t : TypeNo) → Some k ≡ kind_at n.0 whole.tree → k ≡ kind.Array t
    → level_of whole n ≡ map (item_entry whole n) (range_with_len 0 (unwrap_or (size_at n.0 whole.tree) 0))
array-level whole n k t some is = ap (level_by whole n) (sym some) ∙ ap (λ (j : Kind). level_by whole n (Some j)) is

pub map-level : (whole : Whole) (n : NodeNo) (k : Kind) (t : TypeNo) → Some k ≡ kind_at n.0 whole.tree → k ≡ kind.Map t
    → level_of whole n ≡ map (key_entry whole n) (range_with_len 0 (map_size whole n))
map-level whole n k t some is = ap (level_by whole n) (sym some) ∙ ap (λ (j : Kind). level_by whole n (Some j)) is

-- what is walked
map_twice : {X Y Z : Type 0} (f : X → Y) (g : Y → Z) (xs : List X) → map g (map f xs) ≡ map (λ x. g (f x)) xs
map_twice f g [] = refl
map_twice f g (x ∷ xs) = ap (λ zs. g (f x) ∷ zs) (map_twice f g xs)

pub walked-array : (s : Scope) (whole : Whole) (n : NodeNo) (k : Kind) (t : TypeNo) (len : ℕ) → s.sight ≡ sight_of whole → Some k ≡ kind_at n.0 whole.tree → k ≡ kind.Array t
    → len ≡ unwrap_or (size_at n.0 whole.tree) 0 → Read (items_of whole) (Ok (items.Array n len)) (walked s (node n))
walked-array s whole n k t len same some is count =
    read-alive (items_of whole) s whole n k (walked_kind s n) (Ok (items.Array n len)) same some
    (subst (λ j. Read (items_of whole) (Ok (items.Array n len)) (walked_kind s n j)) (sym is)
    (level-read (items_of whole) s whole n _ _ (Ok (items.Array n len)) same (array-level whole n k t some is)
    (read-lift (items_of whole) (Ok (items.Array n len)) _
    (ap Ok (map_twice (item_entry whole n) (standing n) _ ∙ ap (λ m. map (λ i. standing n (item_entry whole n i)) (range_with_len 0 m)) (sym count))))))

pub walked-map : (s : Scope) (whole : Whole) (n : NodeNo) (k : Kind) (t : TypeNo) (len : ℕ) → s.sight ≡ sight_of whole → Some k ≡ kind_at n.0 whole.tree → k ≡ kind.Map t
    → len ≡ map_size whole n → Read (items_of whole) (Ok (items.Map n len)) (walked s (node n))
walked-map s whole n k t len same some is count =
    read-alive (items_of whole) s whole n k (walked_kind s n) (Ok (items.Map n len)) same some
    (subst (λ j. Read (items_of whole) (Ok (items.Map n len)) (walked_kind s n j)) (sym is)
    (level-read (items_of whole) s whole n _ _ (Ok (items.Map n len)) same (map-level whole n k t some is)
    (read-lift (items_of whole) (Ok (items.Map n len)) _
    (ap Ok (map_twice (key_entry whole n) (standing n) _ ∙ ap (λ m. map (λ i. standing n (key_entry whole n i)) (range_with_len 0 m)) (sym count))))))

-- an item at an index
entry_from : (f : ℕ → Entry) (a i len : ℕ) → i < len → reading.entry_at i (map f (range_with_len a len)) ≡ Some (f (a + i))
entry_from f a i zero within = absurd (omega arith)
entry_from f a zero (suc len) within = ap (λ k. Some (f k)) (sym (add-zero a))
entry_from f a (suc i) (suc len) within =
    let next : (a + 1) + i ≡ a + suc i = omega arith in
    entry_from f (a + 1) i len (omega arith) ∙ ap (λ k. Some (f k)) next

pub item-at : (f : ℕ → Entry) (i len : ℕ) → i < len → reading.entry_at i (map f (range_with_len 0 len)) ≡ Some (f i)
item-at f i len within = let start : 0 + i ≡ i = omega arith in entry_from f 0 i len within ∙ ap (λ k. Some (f k)) start

pub no-item-at : (f : ℕ → Entry) (a i len : ℕ) → len ≤ i → reading.entry_at i (map f (range_with_len a len)) ≡ None
no-item-at f a i zero past = refl
no-item-at f a zero (suc len) past = absurd (omega arith)
no-item-at f a (suc i) (suc len) past = no-item-at f (a + 1) i len (omega arith)

-- an entry under a key
under_test : (b : Bool) (x y : Entry) (rest : Option Entry) (part : Labelled) (others : Option Labelled) → (b ≡ true → x ≡ y) → rest ≡ option_map (λ (p : Labelled). y) others
    → (if b then Some x else rest) ≡ option_map (λ (p : Labelled). y) (if b then Some part else others)
under_test true x y rest part others same left = ap Some (same refl)
under_test false x y rest part others same left = left

under_key : (g : List ℕ → Entry) (key : List ℕ) (es : List edits.Entry) → ((k : List ℕ) → (g k).token ≡ k)
    → entry_under key (map (λ (e : edits.Entry). g e.0) es) ≡ option_map (λ (x : Labelled). g key) (entry_at key es)
under_key g key [] tokens = refl
under_key g key (e ∷ es) tokens =
    ap (λ k. if bytes_eq key k then Some (g e.0) else entry_under key (map (λ (x : edits.Entry). g x.0) es)) (tokens e.0)
    ∙ under_test (bytes_eq key e.0) (g e.0) (g key) (entry_under key (map (λ (x : edits.Entry). g x.0) es)) e.1 (entry_at key es)
    (λ same. ap g (sym ((bytes_eq-Decides key e.0).0 same))) (under_key g key es tokens)

by_keys : (g : List ℕ → Entry) (ks : ℕ → List ℕ) (a : ℕ) (es : List edits.Entry) → ((i : ℕ) (e : edits.Entry) → slice_get es i ≡ Some e → ks (a + i) ≡ e.0)
    → map (λ i. g (ks i)) (range_with_len a (length es)) ≡ map (λ (e : edits.Entry). g e.0) es
by_keys g ks a [] keys = refl
by_keys g ks a (e ∷ es) keys =
    let here : ks a ≡ e.0 = ap ks (sym (add-zero a)) ∙ keys 0 e refl in
    let later : (i : ℕ) (x : edits.Entry) → slice_get es i ≡ Some x → ks ((a + 1) + i) ≡ x.0 =
    λ i x at. let next : (a + 1) + i ≡ a + suc i = omega arith in ap ks next ∙ keys (suc i) x at in
    ap (λ k. g k ∷ map (λ i. g (ks i)) (range_with_len (a + 1) (length es))) here ∙ ap (λ xs. g e.0 ∷ xs) (by_keys g ks (a + 1) es later)

-- An entry of a map is seen where a part stands under its key.

abbrev pub seen_entry : Whole → NodeNo → List ℕ → Entry
seen_entry whole n k = entry_of whole k (Key n k)

-- the level of a map whose node is known
abbrev entries_of_node : Whole → NodeNo → Labelled → List Entry
entries_of_node whole n x =
    map (λ i. seen_entry whole n (unwrap_or (key_of_map i x) [])) (range_with_len 0 (if is_some (key_of_map 0 x) then size_of x else 0))

level_of_node : (whole : Whole) (n : NodeNo) (x : Labelled) → node_of n.0 whole.tree ≡ Some x
    → map (key_entry whole n) (range_with_len 0 (map_size whole n)) ≡ entries_of_node whole n x
level_of_node whole n x is =
    ap (λ (o : Option Labelled). map (λ i. seen_entry whole n (unwrap_or (option_and_then (key_of_map i) o) [])) (range_with_len 0 (if is_some (option_and_then (key_of_map 0) o) then unwrap_or (option_map size_of o) 0 else 0))) is

keyed_size : (es : List edits.Entry) → (if is_some (option_map (λ (e : edits.Entry). e.0) (slice_get es 0)) then length es else 0) ≡ length es
keyed_size [] = refl
keyed_size (e ∷ es) = refl

-- one of a node that is a map by its kind
in_node : (whole : Whole) (n : NodeNo) (key : List ℕ) (x : Labelled) (t : TypeNo) → Some (kind.Map t) ≡ option_map (λ (l : edits.Label). l.kind) (label_of x)
    → entry_under key (entries_of_node whole n x) ≡ option_map (λ (p : Labelled). seen_entry whole n key) (part_of (Key n key) x)
in_node whole n key (leaf v) t some = cc
in_node whole n key (many l bs) t some = refl
in_node whole n key (keyed l es) t some =
    let is : l.kind ≡ kind.Map t = cc in
    let ents : List edits.Entry = entries_in es in
    let keys : ℕ → Kind → Option (List ℕ) = λ i k. key_in i k ents in
    let by_kind : Kind → Type 0 = λ k.
    entry_under key (map (λ i. seen_entry whole n (unwrap_or (keys i k) [])) (range_with_len 0 (if is_some (keys 0 k) then length ents else 0)))
    ≡ option_map (λ (p : Labelled). seen_entry whole n key) (value_in key k ents) in
    let ks : ℕ → List ℕ = λ i. unwrap_or (option_map (λ (e : edits.Entry). e.0) (slice_get ents i)) [] in
    let found : (i : ℕ) (e : edits.Entry) → slice_get ents i ≡ Some e → ks (0 + i) ≡ e.0 =
    λ i e at. let start : 0 + i ≡ i = omega arith in ap ks start ∙ ap (λ (o : Option edits.Entry). unwrap_or (option_map (λ (y : edits.Entry). y.0) o) []) at in
    subst by_kind (sym is)
    (ap (λ m. entry_under key (map (λ i. seen_entry whole n (ks i)) (range_with_len 0 m))) (keyed_size ents)
    ∙ ap (entry_under key) (by_keys (seen_entry whole n) ks 0 ents found)
    ∙ under_key (seen_entry whole n) key ents (λ k. refl))

by_node : (whole : Whole) (n : NodeNo) (key : List ℕ) (t : TypeNo) (o : Option Labelled) → node_of n.0 whole.tree ≡ o
    → Some (kind.Map t) ≡ option_and_then (λ (x : Labelled). option_map (λ (l : edits.Label). l.kind) (label_of x)) o
    → entry_under key (map (key_entry whole n) (range_with_len 0 (map_size whole n))) ≡ option_map (λ (p : Labelled). seen_entry whole n key) (option_and_then (part_of (Key n key)) o)
by_node whole n key t None is some = cc
by_node whole n key t (Some x) is some = ap (entry_under key) (level_of_node whole n x is) ∙ in_node whole n key x t some

pub map-entry : (whole : Whole) (n : NodeNo) (key : List ℕ) (t : TypeNo) → Some (kind.Map t) ≡ kind_at n.0 whole.tree
    → entry_under key (level_of whole n) ≡ option_map (λ (p : Labelled). seen_entry whole n key) (part_at_place (Key n key) whole.tree)
map-entry whole n key t some = ap (entry_under key) (map-level whole n (kind.Map t) t some refl) ∙ by_node whole n key t (node_of n.0 whole.tree) refl some

-- a part that isn't there isn't held
none_held : (table : Table) (place : Place) (o : Option Labelled) → option_and_then (part_of place) o ≡ None → option_and_then (held_in table place) o ≡ None
none_held table place None gone = refl
none_held table place (Some x) gone = rw gone refl

pub not-held : (whole : Whole) (place : Place) → part_at_place place whole.tree ≡ None → held_there whole place ≡ None
not-held whole place gone = ap (option_map _) (none_held whole.table place (node_of (node_no place) whole.tree) gone)

part_held : (table : Table) (place : Place) (o : Option Labelled) → is_some (option_and_then (held_in table place) o) ≡ is_some (option_and_then (part_of place) o)
part_held table place None = refl
part_held table place (Some x) = elim (part_of place x) as (λ p. is_some (option_map (held_as table (part_type (typing_of table) x (place_key place))) p) ≡ is_some p) [ None ↦ refl | Some y ↦ refl ]

some_seen : (e : Entry) (o : Option Labelled) → is_some (option_map (λ (p : Labelled). e) o) ≡ is_some o
some_seen e None = refl
some_seen e (Some x) = refl

-- whether a map has a key
pub has-key : (whole : Whole) (n : NodeNo) (key : List ℕ) (t : TypeNo) → Some (kind.Map t) ≡ kind_at n.0 whole.tree
    → is_some (held_at whole.table (Key n key) whole.tree) ≡ is_some (entry_under key (level_of whole n))
has-key whole n key t some =
    part_held whole.table (Key n key) (node_of n.0 whole.tree) ∙ sym (some_seen (seen_entry whole n key) (part_at_place (Key n key) whole.tree)) ∙ ap is_some (sym (map-entry whole n key t some))

-- the value of a map under a key
pub under-read : (s : Scope) (whole : Whole) (n : NodeNo) (key : List ℕ) (t : TypeNo) (r : Result Value.Value Halt) → s.sight ≡ sight_of whole → Some (kind.Map t) ≡ kind_at n.0 whole.tree
    → Read answer_of r (held_answer s (Site.Entry n key) (unwrap_or (held_there whole (Key n key)) (sight.holds null)))
    → Read answer_of r (of_level s n (λ es. entry_answer s n (gives (plain null)) (entry_under key es)))
under-read s whole n key t r same some read =
    level-read answer_of s whole n (level_of whole n) (λ es. entry_answer s n (gives (plain null)) (entry_under key es)) r same refl
    (subst (λ o. Read answer_of r (entry_answer s n (gives (plain null)) o)) (sym (map-entry whole n key t some)) (by_part (part_at_place (Key n key) whole.tree) refl))
  where
    by_part : (o : Option Labelled) → part_at_place (Key n key) whole.tree ≡ o
        → Read answer_of r (entry_answer s n (gives (plain null)) (option_map (λ (p : Labelled). seen_entry whole n key) o))
    by_part (Some x) is = read
    by_part None is = subst (λ h. Read answer_of r (held_answer s (Site.Entry n key) (unwrap_or h (sight.holds null)))) (not-held whole (Key n key) is) read

-- an item of an array, or an index past its items
pub item-read : (s : Scope) (whole : Whole) (n : NodeNo) (t : TypeNo) (i : ℕ) (r : Result Value.Value Halt) → s.sight ≡ sight_of whole → Some (kind.Array t) ≡ kind_at n.0 whole.tree
    → i < unwrap_or (size_at n.0 whole.tree) 0 → Read answer_of r (read_item s (standing n (item_entry whole n i)))
    → Read answer_of r (of_level s n (λ es. entry_answer s n (refused s Rule.Index) (reading.entry_at i es)))
item-read s whole n t i r same some within read =
    level-read answer_of s whole n _ (λ es. entry_answer s n (refused s Rule.Index) (reading.entry_at i es)) r same (array-level whole n (kind.Array t) t some refl)
    (subst (λ o. Read answer_of r (entry_answer s n (refused s Rule.Index) o)) (sym (item-at (item_entry whole n) i (unwrap_or (size_at n.0 whole.tree) 0) within)) read)

pub item-past : (s : Scope) (whole : Whole) (n : NodeNo) (t : TypeNo) (i : ℕ) (r : Result Value.Value Halt) → s.sight ≡ sight_of whole → Some (kind.Array t) ≡ kind_at n.0 whole.tree
    → unwrap_or (size_at n.0 whole.tree) 0 ≤ i → Read answer_of r (refused s Rule.Index)
    → Read answer_of r (of_level s n (λ es. entry_answer s n (refused s Rule.Index) (reading.entry_at i es)))
item-past s whole n t i r same some past read =
    level-read answer_of s whole n _ (λ es. entry_answer s n (refused s Rule.Index) (reading.entry_at i es)) r same (array-level whole n (kind.Array t) t some refl)
    (subst (λ o. Read answer_of r (entry_answer s n (refused s Rule.Index) o)) (sym (no-item-at (item_entry whole n) 0 i (unwrap_or (size_at n.0 whole.tree) 0) past)) read)

-- how many items or entries
tested_level : (s : Scope) (whole : Whole) (n : NodeNo) (m : ℕ) (r : Result Value.Value Halt) → s.sight ≡ sight_of whole → m ≡ length (level_of whole n)
    → Read answer_of r (judged s (in_bounds (plain (integer (pos m)))))
    → Read answer_of r (tested s (of_level s n (λ es. gives (plain (integer (pos (length es)))))))
tested_level s whole n m r same is read =
    let level : s.sight.level n ≡ level_of whole n = ap (λ (v : Sight). v.level n) same ∙ seen-level whole n in
    let count : m ≡ length (s.sight.level n) = is ∙ ap length (sym level) in
    tested-read-then (λ es. es) s (s.sight.level n) r (looks (Cell.Shape n) (s.sight.level n)) (λ es. gives (plain (integer (pos (length es)))))
    (read-look (λ es. es) (s.sight.level n) (Cell.Shape n) (s.sight.level n) refl)
    (tested-gives s (plain (integer (pos (length (s.sight.level n))))) r (subst (λ k. Read answer_of r (judged s (in_bounds (plain (integer (pos k)))))) count read))

pub sized-array : (s : Scope) (whole : Whole) (n : NodeNo) (k : Kind) (t : TypeNo) (m : ℕ) (r : Result Value.Value Halt) → s.sight ≡ sight_of whole → Some k ≡ kind_at n.0 whole.tree → k ≡ kind.Array t
    → m ≡ unwrap_or (size_at n.0 whole.tree) 0 → Read answer_of r (judged s (in_bounds (plain (integer (pos m)))))
    → Read answer_of r (tested s (of_kind s (s.sight.being n) (size_of_kind s n)))
sized-array s whole n k t m r same some is count read =
    let e : s.sight.being n ≡ Some (being_by whole n k) = ap (λ (v : Sight). v.being n) same ∙ being-some whole n k some in
    subst (λ b. Read answer_of r (tested s (of_kind s b (size_of_kind s n)))) (sym e)
    (subst (λ j. Read answer_of r (tested s (size_of_kind s n j))) (sym is)
    (tested_level s whole n m r same
    (count ∙ sym (length-map-range_with_len (item_entry whole n) 0 (unwrap_or (size_at n.0 whole.tree) 0)) ∙ ap length (sym (array-level whole n k t some is))) read))

pub sized-map : (s : Scope) (whole : Whole) (n : NodeNo) (k : Kind) (t : TypeNo) (m : ℕ) (r : Result Value.Value Halt) → s.sight ≡ sight_of whole → Some k ≡ kind_at n.0 whole.tree → k ≡ kind.Map t
    → m ≡ map_size whole n → Read answer_of r (judged s (in_bounds (plain (integer (pos m)))))
    → Read answer_of r (tested s (of_kind s (s.sight.being n) (size_of_kind s n)))
sized-map s whole n k t m r same some is count read =
    let e : s.sight.being n ≡ Some (being_by whole n k) = ap (λ (v : Sight). v.being n) same ∙ being-some whole n k some in
    subst (λ b. Read answer_of r (tested s (of_kind s b (size_of_kind s n)))) (sym e)
    (subst (λ j. Read answer_of r (tested s (size_of_kind s n j))) (sym is)
    (tested_level s whole n m r same
    (count ∙ sym (length-map-range_with_len (key_entry whole n) 0 (map_size whole n)) ∙ ap length (sym (map-level whole n k t some is))) read))

-- the keys of a map
abbrev pub key_text : Whole → NodeNo → ℕ → Answer
key_text whole n i = plain (text (unwrap_or (key_at n.0 i whole.tree) []))

texts_from : (whole : Whole) (n : NodeNo) (is : List ℕ) → answers_from (map (key_text whole n) is) ≡ texts (tokens (map (key_entry whole n) is))
texts_from whole n [] = refl
texts_from whole n (i ∷ is) = ap (answer (key_text whole n i)) (texts_from whole n is)

pub keys-read : (s : Scope) (whole : Whole) (n : NodeNo) (t : TypeNo) (values : List Value.Value) → s.sight ≡ sight_of whole → Some (kind.Map t) ≡ kind_at n.0 whole.tree
    → map answer_of values ≡ map (key_text whole n) (range_with_len 0 (map_size whole n))
    → Read answer_of (Ok (Value.Several values)) (of_level s n (λ es. gives (several (texts (tokens es)))))
keys-read s whole n t values same some is =
    level-read answer_of s whole n _ (λ es. gives (several (texts (tokens es)))) (Ok (Value.Several values)) same (map-level whole n (kind.Map t) t some refl)
    (read-lift answer_of (Ok (Value.Several values)) _
    (ap Ok (ap several (sym (texts_from whole n (range_with_len 0 (map_size whole n))) ∙ ap answers_from (sym is)) ∙ sym (answer-Several values))))

-- one number more
pub range-last : (a n : ℕ) → range_with_len a (n + 1) ≡ range_with_len a n ++ (a + n) ∷ []
range-last a zero = ap (λ k. k ∷ []) (sym (add-zero a))
range-last a (suc n) = let next : (a + 1) + n ≡ a + suc n = omega arith in rw suc-add (ap (λ ks. a ∷ ks) (range-last (a + 1) n ∙ ap (λ k. range_with_len (a + 1) n ++ k ∷ []) next))

pub keys-step : (whole : Whole) (n : NodeNo) (i : ℕ) (keys more : List Value.Value) (k : List ℕ) → map answer_of keys ≡ map (key_text whole n) (range_with_len 0 i)
    → more ≡ keys ++ Value.Plain (Snap.Text k) ∷ [] → k ≡ unwrap_or (key_at n.0 i whole.tree) []
    → map answer_of more ≡ map (key_text whole n) (range_with_len 0 (i + 1))
keys-step whole n i keys more k so_far pushed is =
    let start : 0 + i ≡ i = omega arith in
    let key : answer_of (Value.Plain (Snap.Text k)) ≡ key_text whole n (0 + i) =
    answer-Plain (Snap.Text k) ∙ ap plain (view-Text k ∙ ap text is) ∙ ap (key_text whole n) (sym start) in
    let left : map answer_of more ≡ map (key_text whole n) (range_with_len 0 i) ++ key_text whole n (0 + i) ∷ [] =
    ap (map answer_of) pushed ∙ map-append answer_of keys (Value.Plain (Snap.Text k) ∷ []) ∙ ap (λ xs. xs ++ answer_of (Value.Plain (Snap.Text k)) ∷ []) so_far
    ∙ ap (λ x. map (key_text whole n) (range_with_len 0 i) ++ x ∷ []) key in
    left ∙ sym (map-append (key_text whole n) (range_with_len 0 i) ((0 + i) ∷ [])) ∙ ap (map (key_text whole n)) (sym (range-last 0 i))

-- one of the numbers of a range
got_from : {X : Type 0} (f : ℕ → X) (a i len : ℕ) (x : X) → slice_get (map f (range_with_len a len)) i ≡ Some x → x ≡ f (a + i)
got_from f a i zero x at = cc
got_from {X} f a zero (suc len) x at = let same : f a ≡ x = cc in sym same ∙ ap f (sym (add-zero a))
got_from f a (suc i) (suc len) x at = let next : (a + 1) + i ≡ a + suc i = omega arith in got_from f (a + 1) i len x at ∙ ap f next

pub range-got : {X : Type 0} (f : ℕ → X) (i len : ℕ) (x : X) → slice_get (map f (range_with_len 0 len)) i ≡ Some x → x ≡ f i
range-got f i len x at = let start : 0 + i ≡ i = omega arith in got_from f 0 i len x at ∙ ap f start

pub given-all : (vs : List Value.Value) → map given (answers_in (answers_of vs)) ≡ map given_value vs
given-all [] = refl
given-all (v ∷ vs) = ap (λ is. given_value v ∷ is) (given-all vs)

pub plain-all : (vs : List Snap.Snap) → plain_items (items_view vs) ≡ map given_plain vs
plain-all [] = refl
plain-all (v ∷ vs) = ap (λ is. given_plain v ∷ is) (plain-all vs)

pub plain-at : (vs : List Snap.Snap) (i : ℕ) (item : Item) (v : Snap.Snap) → slice_get (map given_plain vs) i ≡ Some item → v ≡ get_or vs i v → item ≡ given_plain v
plain-at [] i item v at is = cc
plain-at (x ∷ xs) zero item v at is = let same_item : given_plain x ≡ item = cc in sym same_item ∙ ap given_plain (sym is)
plain-at (x ∷ xs) (suc i) item v at is = plain-at xs i item v at is

-- several answers, and a plain list, are walked
pub walked-several : (s : Scope) (whole : Whole) (from : Value.Value) (vs moved : List Value.Value) → from ≡ Value.Several vs → moved ≡ vs
    → Read (items_of whole) (Ok (items.Given moved)) (walked s (answer_of from))
walked-several s whole from vs moved is same =
    subst (λ x. Read (items_of whole) (Ok (items.Given moved)) (walked s x)) (sym (ap answer_of is ∙ answer-Several vs))
    (read-lift (items_of whole) (Ok (items.Given moved)) _ (ap Ok (given-all vs ∙ ap (map given_value) (sym same))))

pub walked-list : (s : Scope) (whole : Whole) (from : Snap.Snap) (vs moved : List Snap.Snap) → from ≡ Snap.List vs → moved ≡ vs
    → Read (items_of whole) (Ok (items.List moved)) (walked s (plain (view from)))
walked-list s whole from vs moved is same =
    subst (λ x. Read (items_of whole) (Ok (items.List moved)) (walked s (plain x))) (sym (ap view is ∙ view-List vs))
    (read-lift (items_of whole) (Ok (items.List moved)) _ (ap Ok (plain-all vs ∙ ap (map given_plain) (sym same))))

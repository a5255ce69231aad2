-- What is set, put together from what its steps answer.
use Rattle.std.proofs.Common.{◌≡◌, ℕ, [], ◌∷◌, Result, Ok, Err, IfOk, sym, ap, ◌∙◌}
use Rattle.snap_core.specs.Value.{Value}
use Rattle.type_core.specs.Making.{Outcome}
use Rattle.edit_core.specs.declared.kind.Kind.{Kind}
use Rattle.edit_core.specs.Labelled.{Labelled}
use Rattle.edit_core.specs.Edit.{Turn, to_item}
use Rattle.tree_core.specs.Outcome.{◌>>=◌, seen_from}
use Rattle.tree_core.specs.Changed.{Changed, placed, value_set, one_item_set}
use Rattle.tree_core.specs.Writing.{Writing, Entry, Item, typing_in, setting, own_type, node_making, whole_made, entry_type, turn_to, entry_set, item_type, item_making, item_put}

pub whole_made_by : (w : Writing) (k : Kind) (v : Value) (node : Labelled) (made : Value) (t : ℕ) (x : Changed)
    → seen_from w.node (node_making w.types k w.type v) ≡ Ok made → t ≡ own_type w.types k w.type
    → x ≡ value_set (typing_in w) (setting t node made w.next) → whole_made w k v node ≡ Ok x
whole_made_by w k v node made t x making type set =
    let rest : Value → Outcome Changed = λ m. Ok (value_set (typing_in w) (setting (own_type w.types k w.type) node m w.next)) in
    ap (λ o. o >>= rest) making ∙ ap (λ u. Ok (value_set (typing_in w) (setting u node made w.next))) (sym type) ∙ ap (λ c. Ok c) (sym set)

pub item_put_by : (w : Writing) (a : Item) (old : Labelled) (v made : Value) (t : ℕ) (part x : Changed)
    → item_making w a v ≡ Ok made → t ≡ item_type w a → part ≡ one_item_set (typing_in w) (setting t old made w.next)
    → x ≡ placed (to_item a.index ∷ []) a.node part → item_put w a old v ≡ Ok x
item_put_by w a old v made t part x making type set put =
    let rest : Value → Outcome Changed = λ m. Ok (placed (to_item a.index ∷ []) a.node (one_item_set (typing_in w) (setting (item_type w a) old m w.next))) in
    ap (λ o. o >>= rest) making
    ∙ ap (λ u. Ok (placed (to_item a.index ∷ []) a.node (one_item_set (typing_in w) (setting u old made w.next)))) (sym type)
    ∙ ap (λ c. Ok (placed (to_item a.index ∷ []) a.node c)) (sym set) ∙ ap (λ c. Ok c) (sym put)

each : {A E : Type 0} → (result : Result A E) (P Q : A → Type 0) → ((x : A) → P x → Q x) → IfOk result P → IfOk result Q
each (Ok x) P Q f h = f x h
each (Err e) P Q f h = tt

pub entry_set_by : {A E : Type 0} → (seen : A → Changed) (result : Result A E) (w : Writing) (e : Entry) (old : Labelled) (made : Value) (t : ℕ) (turn : Turn) (part : Changed)
    → t ≡ entry_type w e → turn ≡ turn_to e → part ≡ value_set (typing_in w) (setting t old made w.next)
    → IfOk result (λ c. seen c ≡ placed (turn ∷ []) e.node part) → IfOk result (λ c. seen c ≡ entry_set w e old made)
entry_set_by seen result w e old made t turn part type to set put =
    each result (λ c. seen c ≡ placed (turn ∷ []) e.node part) (λ c. seen c ≡ entry_set w e old made)
    (λ c h.
    h ∙ ap (λ u. placed (u ∷ []) e.node part) to
    ∙ ap (placed (turn_to e ∷ []) e.node) (set ∙ ap (λ u. value_set (typing_in w) (setting u old made w.next)) type)) put

-- What writes and settling keep of a document.
use Rattle.std.proofs.Common.{◌≡◌, List, [], map, Option, Some, None, Ok, sym, subst}
use Rattle.std.specs.Prelude.{All}
use Rattle.std.proofs.lemmas.List.Elements.{All-nil}
use Rattle.snap_core.specs.Value.{Value, IsPlain}
use Rattle.pointer_core.specs.declared.refusal.Rule.TheVariants as rule
use Rattle.patch_core.specs.declared.patch.Patch.{Patch}
use Rattle.patch_core.specs.Printing.{HasPlainValues}
use Rattle.type_table.specs.Table.{Catalog}
use Rattle.type_core.specs.Sound.{IsSound}
use Rattle.edit_core.specs.Labelled.{Label, bare}
use Rattle.edit_core.specs.Logged.{patch_of_logged}
use Rattle.edit_core.specs.Typing.{label_of}
use Rattle.tree_core.specs.Outcome.{◌>>=◌, or_refuse}
use Rattle.tree_core.specs.Recorded.{IsTreeOf, after_list, after_settling, after_write}
use Rattle.tree_core.specs.State.{State, Calls, edits_of, patches_of}
use Rattle.tree_core.specs.Write.{set}
use Rattle.tree_laws.proofs.TreeTyped.{write-typed, list-typed}
use Rattle.tree_laws.proofs.SettlingTyped.{settling-typed}
use Rattle.tree_laws.proofs.PlainWrites.{write-patches, list-patches, settling-patches, values-written}
use Rattle.doc_core.specs.Changing.{root_written, whole_root}

pub settling_typed : (types : Catalog) (s : State) → IsSound types → IsTreeOf types s → IsTreeOf types (after_settling types s)
settling_typed types s sound typed = settling-typed types sound s typed

pub list_typed : (types : Catalog) (patches : List Patch) (s t : State) → IsSound types → IsTreeOf types s → IsPlain (bare s.tree) → All HasPlainValues patches
    → after_list types patches s ≡ Ok t → IsTreeOf types t
list_typed types patches s t sound typed plain values done = (list-typed types sound patches s t typed plain (values-written patches values) done).typed

-- the write of the root
pub root-by : (types : Catalog) (v : Value) (s t : State) (o : Option Label)
    → (or_refuse o [] rule.Path >>= (λ root. after_write types (whole_root root) (set v) s)) ≡ Ok t → (root : Label) × (after_write types (whole_root root) (set v) s ≡ Ok t)
root-by types v s t None h = absurd (cc)
root-by types v s t (Some root) h = (root, h)

pub root_typed : (types : Catalog) (v : Value) (s t : State) → IsSound types → IsTreeOf types s → IsPlain (bare s.tree) → IsPlain v
    → root_written types v s ≡ Ok t → IsTreeOf types t
root_typed types v s t sound typed plain given done =
    let by = root-by types v s t (label_of s.tree) done in (write-typed types sound (whole_root by.0) (set v) s t typed plain given by.1).typed

-- nothing is logged between requests
pub nothing-logged : (s : State) → s.calls ≡ [] → All HasPlainValues (patches_of s)
nothing-logged s rest =
    let P : Calls → Type 0 = λ cs. All HasPlainValues (map patch_of_logged (edits_of cs)) in subst P (sym rest) (All-nil HasPlainValues)

pub list_plain : (types : Catalog) (patches : List Patch) (s t : State) → IsSound types → IsTreeOf types s → IsPlain (bare s.tree) → All HasPlainValues patches
    → s.calls ≡ [] → after_list types patches s ≡ Ok t → All HasPlainValues (patches_of (after_settling types t))
list_plain types patches s t sound typed plain values rest done =
    settling-patches types t (list-typed types sound patches s t typed plain (values-written patches values) done).plain
    (list-patches types sound patches s t typed plain (values-written patches values) (nothing-logged s rest) done)

pub root_plain : (types : Catalog) (v : Value) (s t : State) → IsSound types → IsTreeOf types s → IsPlain (bare s.tree) → IsPlain v
    → s.calls ≡ [] → root_written types v s ≡ Ok t → All HasPlainValues (patches_of (after_settling types t))
root_plain types v s t sound typed plain given rest done =
    let by = root-by types v s t (label_of s.tree) done in
    settling-patches types t (write-typed types sound (whole_root by.0) (set v) s t typed plain given by.1).plain
    (write-patches types sound (whole_root by.0) (set v) s t plain given (nothing-logged s rest) by.1)

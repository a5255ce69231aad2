-- The keys of statements: which form each stands for.
use Rattle.std.specs.Prelude.{ℕ, List, codes, Option, Some, None, if◌then◌else◌}
use Rattle.std.specs.Option.{option_map}
use Rattle.std.specs.Str.{bytes_eq}
use Rattle.expr_form.specs.declared.stmt_keys.StmtKey.{StmtKey}
use Rattle.expr_form.specs.declared.stmt_keys.StmtKey.TheVariants as key
use Rattle.expr_form.specs.declared.stmt_keys.Single.{Single}
use Rattle.expr_form.specs.declared.stmt_keys.Single.TheVariants as single
use Rattle.expr_form.specs.declared.stmt_keys.Keyed.TheVariants as keyed
use Rattle.expr_form.specs.declared.stmt_keys.Given.TheVariants as given

-- the forms that hold no block
abbrev pub single_of : List ℕ → Option Single
single_of text =
    if bytes_eq text (codes "set") then Some single.Set
    else if bytes_eq text (codes "put") then Some (single.Keyed keyed.Put)
    else if bytes_eq text (codes "insert") then Some (single.Keyed keyed.Insert)
    else if bytes_eq text (codes "replace") then Some (single.Keyed keyed.Replace)
    else if bytes_eq text (codes "push") then Some (single.Given given.Push)
    else if bytes_eq text (codes "drop") then Some (single.Given given.Drop)
    else if bytes_eq text (codes "apply") then Some (single.Given given.Apply)
    else if bytes_eq text (codes "clear") then Some single.Clear
    else if bytes_eq text (codes "let") then Some single.Binding
    else if bytes_eq text (codes "call") then Some single.Call
    else if bytes_eq text (codes "throw") then Some single.Throw
    else None

-- the form of a statement, which is an object with one key
abbrev pub stmt_key_of : List ℕ → Option StmtKey
stmt_key_of text =
    if bytes_eq text (codes "if") then Some key.Branches
    else if bytes_eq text (codes "each") then Some key.Each
    else if bytes_eq text (codes "try") then Some key.Attempt
    else option_map key.Single (single_of text)

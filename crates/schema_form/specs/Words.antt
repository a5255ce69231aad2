-- The words of schema files.
use Rattle.std.specs.Prelude.{ℕ, List, codes, Option, Some, None, if◌then◌else◌}
use Rattle.std.specs.Str.{bytes_eq}
use Rattle.schema_form.specs.declared.form.Plain.{Plain}
use Rattle.schema_form.specs.declared.form.Plain.TheVariants as plain
use Rattle.schema_form.specs.declared.form.Holder.TheVariants as holder
use Rattle.schema_form.specs.declared.words.Leaf.TheVariants as leaf
use Rattle.schema_form.specs.declared.words.Form.{Form}
use Rattle.schema_form.specs.declared.words.Form.TheVariants as form

-- the plain type that a word stands for
abbrev pub plain_of : List ℕ → Option Plain
plain_of word =
    if bytes_eq word (codes "string") then Some plain.Text
    else if bytes_eq word (codes "integer") then Some plain.Integer
    else if bytes_eq word (codes "boolean") then Some plain.Boolean
    else if bytes_eq word (codes "null") then Some plain.Null
    else if bytes_eq word (codes "frozen") then Some plain.Frozen
    else if bytes_eq word (codes "identifier") then Some plain.Identifier
    else if bytes_eq word (codes "identifierNumber") then Some plain.IdentifierNumber
    else None

-- the form of a type expression that is an object with one key
abbrev pub form_of : List ℕ → Option Form
form_of key =
    if bytes_eq key (codes "literal") then Some (form.Leaf leaf.Literal)
    else if bytes_eq key (codes "enumeration") then Some (form.Leaf leaf.Enumeration)
    else if bytes_eq key (codes "optional") then Some form.Optional
    else if bytes_eq key (codes "union") then Some form.Union
    else if bytes_eq key (codes "refinement") then Some (form.Leaf leaf.Refinement)
    else if bytes_eq key (codes "reference") then Some (form.Leaf leaf.Reference)
    else if bytes_eq key (codes "safeReference") then Some (form.Leaf leaf.SafeReference)
    else if bytes_eq key (codes "maybe") then Some (form.Holder holder.Maybe)
    else if bytes_eq key (codes "maybeNull") then Some (form.Holder holder.MaybeNull)
    else if bytes_eq key (codes "array") then Some (form.Holder holder.Array)
    else if bytes_eq key (codes "map") then Some (form.Holder holder.Map)
    else None

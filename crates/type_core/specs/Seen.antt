-- Identifiers that were met, as the definitions see them.
use Rattle.std.specs.String.{string_bytes}
use Rattle.snap_core.specs.declared.ident.Ident.TheVariants as ident
use Rattle.type_core.specs.declared.seen.Key.{Key}
use Rattle.type_core.specs.declared.seen.Key.TheVariants as key
use Rattle.type_core.specs.Doubled as specs

abbrev pub key_view : Key → specs.Key
key_view (key.Text m s) = (record { 0 = m }, ident.Text (string_bytes s))
key_view (key.Number m z) = (record { 0 = m }, ident.Number z)

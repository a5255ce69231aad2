use Rattle.std.proofs.Common.{◌≡◌, ℕ, List, Option, IfOk, Bor, sym, ap, ◌∙◌, subst}
use Rattle.std.specs.List.{find}
use Rattle.std.specs.Option.{option_map}
use Rattle.type_table.specs.declared.shape.Property.{Property}
use Rattle.type_table.specs.Table.{names_of}
use Rattle.type_table.specs.Unions as unions
use Rattle.type_table.proofs.Tagging.{tag_of-several}
use Rattle.type_table.proofs.tags.tag_among.Goals as goal

pub returns : goal.returns
returns c =
    let table = c.args.table.now in
    let models = c.args.models.now in
    let same = ap (λ (ps : List Property). find (unions.tells_apart table models) (names_of ps)) c.properties.ensures
    ∙ sym (tag_of-several table models (record { 0 = 0 }, record { 0 = 0 }) c.if-models-lt2.false) in
    let P : Option (List ℕ) → Type 0 = λ name. IfOk c.first_apart.result (λ (tag : Option (Bor (List ℕ))). option_map (λ (t : Bor (List ℕ)). t.now) tag ≡ name) in
    subst P same c.first_apart.ensures

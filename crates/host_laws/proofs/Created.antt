-- What is made of a plain value is sound and settled.
use Rattle.std.proofs.Common.{◌≡◌, Option, Some, None, Ok, Err, refl, subst}
use Rattle.std.proofs.lemmas.List.Elements.{All-nil}
use Rattle.snap_core.specs.Value.{Value, IsPlain}
use Rattle.pointer_core.specs.Path.{Path}
use Rattle.patch_core.specs.Printing.{HasPlainValues}
use Rattle.type_table.specs.Table.{Catalog}
use Rattle.type_core.specs.Making.{Outcome, making}
use Rattle.type_core.specs.Doubled.{identifiers_of, doubled_of}
use Rattle.type_core.specs.Sound.{IsSound}
use Rattle.type_core.proofs.Again.{making-again, making-plain}
use Rattle.edit_core.specs.Labelled.{bare}
use Rattle.tree_core.specs.Outcome.{◌>>=◌}
use Rattle.tree_core.specs.Recorded.{IsSoundValue, after_settling, new_tree, state_of}
use Rattle.tree_core.specs.State.{State, committed}
use Rattle.tree_core.specs.TypesTyping.{root_type}
use Rattle.tree_laws.specs.Tied.{IsSettled}
use Rattle.tree_laws.specs.Trees.{IsSoundTree}
use Rattle.tree_laws.proofs.Loose.{settling-settles}
use Rattle.tree_laws.proofs.NewTrees.{new-sound}
use Rattle.tree_laws.proofs.SettlingSound.{settling-keeps}
use Rattle.doc_core.specs.Changing.{created, tried, unless_twice}
use Rattle.host_laws.specs.Laws.{CreatedAreSound}
use Rattle.host_laws.specs.Sound.{IsSettledDocument, IsSettledSnapshot}
use Rattle.host_laws.proofs.Copies.{settled-copies}

-- what a sound document shows that is settled
pub shown : (types : Catalog) (s : State) → IsSettledDocument types s → IsSettledSnapshot types (bare s.tree)
shown types s document =
    record {
      sound = record { plain = document.document.sound.typed.plain; value = document.document.sound.value };
      settled = settled-copies types (bare s.tree) s (record { document = document.document.document; shows = refl }) document.settled;
    }

-- a sound and settled tree that is committed is such a document
pub kept : (types : Catalog) (s : State) → IsSound types → IsSoundTree types s → IsSettled types s.tree → IsSettledDocument types (committed s)
kept types s sound right settled =
    record {
      document = record {
        document = record { sound = sound; at_rest = refl; typed = record { labelled = right.typed.nodes.labelled; numbered = right.typed.nodes.numbered } };
        sound = record {
          typed = record {
            plain = right.typed.plain;
            nodes = record { labelled = right.typed.nodes.labelled; numbered = right.typed.nodes.numbered };
            logged = All-nil HasPlainValues;
          };
          value = right.value;
        };
      };
      settled = settled;
    }

-- what the root's model makes of a plain value
record IsRight (types : Catalog) (v : Value) : Type 0 where
  plain : IsPlain v
  value : IsSoundValue types v

abbrev once : Catalog → Value → Outcome Value
once types v = unless_twice (doubled_of (identifiers_of types v)) v

tried-right : (types : Catalog) (given v : Value) → IsSound types → IsPlain given → tried types given ≡ Ok v → IsRight types v
tried-right types given v sound plain h = by (making types (root_type types) (Some given)) refl h where
  single : (made : Value) (d : Option Path) → making types (root_type types) (Some given) ≡ Ok made → doubled_of (identifiers_of types made) ≡ d
      → unless_twice d made ≡ Ok v → IsRight types v
  single made (Some path) is e once = absurd (cc)
  single made None is e once =
      let same : made ≡ v = cc in
      subst (IsRight types) same (record {
        plain = making-plain types sound (root_type types) (Some given) made is plain;
        value = record { made = making-again types sound (root_type types) (Some given) made is; single = e };
      })

  by : (o : Outcome Value) → making types (root_type types) (Some given) ≡ o → (o >>= once types) ≡ Ok v → IsRight types v
  by (Ok made) is e = single made (doubled_of (identifiers_of types made)) is refl e
  by (Err refusal) is e = absurd (cc)

abbrev settled_new : Catalog → Value → State
settled_new types v = committed (after_settling types (state_of (new_tree types v)))

abbrev rest : Catalog → Value → Outcome State
rest types v = Ok (settled_new types v)

new-settled : (types : Catalog) (v : Value) → IsSound types → IsRight types v → IsSettledDocument types (settled_new types v)
new-settled types v sound right =
    let new : State = state_of (new_tree types v) in
    kept types (after_settling types new) sound (settling-keeps types sound new (new-sound types v right.value right.plain)) (settling-settles types sound new)

created-settled : (types : Catalog) (given : Value) (s : State) → IsSound types → IsPlain given → created types given ≡ Ok s → IsSettledDocument types s
created-settled types given s sound plain h = by (tried types given) refl h where
  by : (o : Outcome Value) → tried types given ≡ o → (o >>= rest types) ≡ Ok s → IsSettledDocument types s
  by (Ok v) is e =
      let same : settled_new types v ≡ s = cc in
      subst (IsSettledDocument types) same (new-settled types v sound (tried-right types given v sound plain is))
  by (Err refusal) is e = absurd (cc)

pub created-sound : CreatedAreSound
created-sound types given s sound plain h =
    let document : IsSettledDocument types s = created-settled types given s sound plain h in
    record { document = document; shows = shown types s document }

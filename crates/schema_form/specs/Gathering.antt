-- What the entries of the types say, one after another in document order.
use Rattle.std.specs.Prelude.{ℕ, List, [], ◌∷◌, ◌++◌, length, map, Option, Some, None}
use Rattle.snap_core.specs.Value.{Value, no_members, member, Fields}
use Rattle.model_syntax.specs.Shown.{ShownBehaviour, behaviour_shown}
use Rattle.schema_form.specs.declared.form.SchemaForm.{SchemaForm}
use Rattle.schema_form.specs.declared.form.Entry.{Entry}
use Rattle.schema_form.specs.declared.form.ModelForm.{ModelForm}
use Rattle.schema_form.specs.declared.form.Expression.{Expression}
use Rattle.schema_form.specs.declared.form.Astray.{Astray}
use Rattle.schema_form.specs.declared.form.Place.TheVariants as place
use Rattle.schema_form.specs.declared.form.Kind.TheVariants as kind
use Rattle.schema_form.specs.declared.entries.Gathered.{Gathered}
use Rattle.schema_form.specs.Entries.{entries, model_in}
use Rattle.schema_form.specs.Layout.{type_no, type_laid}
use Rattle.schema_form.specs.Modelled.{Within, Modelled, with_parts, unsaid, earlier}

-- what is gathered so far: the entries, all type expressions, the models and the behaviour of each, and the first expression that goes astray
pub record Gathering : Type 0 where
  pub entries : List Entry
  pub expressions : List Expression
  pub models : List ModelForm
  pub behaviours : List ShownBehaviour
  pub astray : Option Astray

-- what `Gathered` and a form show of it
abbrev pub gathered_shown : Gathered → Gathering
gathered_shown g = record { entries = g.entries; expressions = g.expressions; models = g.models; behaviours = map behaviour_shown g.behaviours; astray = g.astray }

abbrev pub form_shown : SchemaForm → Gathering
form_shown f = record { entries = f.entries; expressions = f.expressions; models = f.models; behaviours = map behaviour_shown f.behaviours; astray = f.astray }

-- an entry that is a model, by what its parts say
abbrev pub with_modelled : Gathering → List ℕ → Modelled → Gathering
with_modelled g k s = record {
  entries = g.entries ++ record { name = k; of = type_no (length g.expressions) } ∷ [];
  expressions = s.expressions;
  models = g.models ++ record { name = k; properties = s.properties; actions = map (λ a. a.name) s.actions } ∷ [];
  behaviours = g.behaviours ++ record { views = s.views; actions = s.actions; middleware = s.middleware } ∷ [];
  astray = earlier g.astray s.astray;
}

-- its own type expression stands before those of its parts
abbrev pub model_begun : Gathering → List Expression
model_begun g = g.expressions ++ record { place = place.Entry (record { 0 = length g.entries }); kind = kind.Model (record { 0 = length g.models }) } ∷ []

abbrev pub with_model : Fields → Gathering → List ℕ → Fields → Gathering
with_model types g k parts =
    let w : Within = record { types = types; parts = parts; model = record { 0 = length g.models } } in
    with_modelled g k (with_parts w (unsaid (model_begun g)) parts)

-- and one that isn't
abbrev pub with_type : Fields → Gathering → List ℕ → Value → Gathering
with_type types g k v =
    let n = length g.expressions in record g {
      entries = g.entries ++ record { name = k; of = type_no n } ∷ [];
      expressions = g.expressions ++ type_laid types v n (place.Entry (record { 0 = length g.entries }));
    }

abbrev pub with_formed : Fields → Gathering → List ℕ × Value → Option Value → Gathering
with_formed types g p (Some model) = with_model types g p.0 (entries model)
with_formed types g p None = with_type types g p.0 p.1

abbrev pub with_entry : Fields → Gathering → List ℕ → Value → Gathering
with_entry types g k v = with_formed types g (k, v) (model_in v)

abbrev pub with_entries : Fields → Gathering → Fields → Gathering
with_entries types g no_members = g
with_entries types g (member k v ms) = with_entries types (with_entry types g k v) ms

abbrev pub nothing : Gathering
nothing = record { entries = []; expressions = []; models = []; behaviours = []; astray = None }

abbrev pub gathered : Fields → Gathering
gathered types = with_entries types nothing types

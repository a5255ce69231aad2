-- The form of a file is read from the file: each type expression at its pointer, each entry under its name.
use Rattle.std.proofs.Common.{◌≡◌, ℕ, suc, ◌+◌, List, [], ◌∷◌, map, true, false, Option, Some, None, codes, slice_get, if◌then◌else◌, refl, sym, ◌∙◌, ap, subst, arith}
use Rattle.std.specs.Str.{bytes_eq}
use Rattle.std.proofs.lemmas.Slice.Eq.{bytes_eq-Decides}
use Rattle.snap_core.specs.Value.{Value, null, boolean, integer, text, list, dict, no_members, member, value_at, keys_of, Fields}
use Rattle.schema_form.specs.declared.form.SchemaForm.{SchemaForm}
use Rattle.schema_form.specs.declared.form.EntryNo.{EntryNo}
use Rattle.schema_form.specs.declared.form.Entry.{Entry}
use Rattle.schema_form.specs.declared.form.Expression.{Expression}
use Rattle.schema_form.specs.Names.{entry_from, entry_of}
use Rattle.schema_form.specs.Entries.{entries, entries_in, types_of}
use Rattle.schema_form.specs.Gathering.{Gathering, form_shown, nothing}
use Rattle.schema_form.specs.Form.{root_in}
use Rattle.schema_form.specs.Pointers.{entry_path}
use Rattle.schema_form.specs.Reading.{entry_names, name_at}
use Rattle.schema_form.specs.Laws.{PathLeads, HasForm, IsReadAt, PointersLead, EntriesAreTypes}
use Rattle.schema_form.proofs.Pointing.{some-at}
use Rattle.schema_form.proofs.Gathering.{names-gathered}
use Rattle.schema_form.proofs.Wholeness.{AllFrom-get, file-types}
use Rattle.schema_form.proofs.Leading.{PathLeads-append, PathLeads-field}
use Rattle.schema_form.proofs.ReadEntries.{IsReadSoFar, gathered-read}

-- the entry that a name is found at has this name
record IsNameAt (n : ℕ) (name : List ℕ) (fields : Fields) (e : EntryNo) : Type 0 where
  at : ℕ
  number : e.0 ≡ n + at
  is : slice_get (keys_of fields) at ≡ Some name

name-from : (name : List ℕ) (n : ℕ) (fields : Fields) (e : EntryNo) → entry_from n fields name ≡ Some e → IsNameAt n name fields e
name-from name n no_members e is = absurd cc
name-from name n (member k v fields) e is =
    elim (bytes_eq name k) as (λ b. bytes_eq name k ≡ b → (if b then Some (record { 0 = n }) else entry_from (n + 1) fields name) ≡ Some e → IsNameAt n name (member k v fields) e) [
      | true ↦ λ h there. record {
        at = 0;
        number = let same : n ≡ e.0 = cc there in omega (arith, same);
        is = ap Some (sym ((bytes_eq-Decides name k).0 h));
      }
      | false ↦ λ h there.
          let further = name-from name (n + 1) fields e there in record {
            at = suc further.at;
            number = omega (arith, further.number);
            is = further.is;
          }
    ] refl is

-- the entries have the names of the types, so a name leads to the entry of that name
names-are : (file : Value) (form : SchemaForm) → HasForm file form → entry_names form ≡ keys_of (types_of file)
names-are file form has = sym (ap (λ (g : Gathering). map (λ (e : Entry). e.name) g.entries) has.fits.types) ∙ names-gathered (types_of file) nothing (types_of file)

known : (file : Value) (form : SchemaForm) → HasForm file form → (s : List ℕ) (e : EntryNo) → entry_of (types_of file) s ≡ Some e → name_at form e ≡ Some s
known file form has s e is =
    let found = name-from s 0 (types_of file) e is in
    let number : e.0 ≡ found.at = omega (arith, found.number) in
    ap (λ i. slice_get (entry_names form) i) number ∙ ap (λ ks. slice_get ks found.at) (names-are file form has) ∙ found.is

-- the pointer of an entry leads to the value under its name
start : (file : Value) (key : List ℕ) (v : Value) → value_at key (types_of file) ≡ Some v → PathLeads file (entry_path key) v
start (dict a ms) key v is = go (value_at (codes "types") ms) refl is where
  go : (o : Option Value) → value_at (codes "types") ms ≡ o → value_at key (entries_in o) ≡ Some v → PathLeads (dict a ms) (entry_path key) v
  go (Some (dict b ts)) at there =
      PathLeads-append (dict a ms) (dict b ts) v (codes "types" ∷ []) (key ∷ []) (PathLeads-field a (codes "types") ms (dict b ts) at) (PathLeads-field b key ts v there)
  go (Some null) at there = absurd cc
  go (Some (boolean b)) at there = absurd cc
  go (Some (integer z)) at there = absurd cc
  go (Some (text s)) at there = absurd cc
  go (Some (list b ps)) at there = absurd cc
  go None at there = absurd cc
start null key v is = absurd cc
start (boolean b) key v is = absurd cc
start (integer z) key v is = absurd cc
start (text s) key v is = absurd cc
start (list a ps) key v is = absurd cc

all-read : (file : Value) (form : SchemaForm) (has : HasForm file form)
    → IsReadSoFar form file (types_of file) (known file form has) (start file) (form_shown form)
all-read file form has =
    let sound = file-types file has.ordered has.faultless in
    gathered-read form file (types_of file) (known file form has) (start file) has.fits.types sound.1 sound.0

pub pointers-lead : PointersLead
pointers-lead file form t has within =
    let one = some-at form.expressions t within in
    let P : ℕ → Expression → Type 0 = λ n e. IsReadAt file form n in
    let Q : ℕ → Type 0 = λ n. IsReadAt file form n in
    let same : 0 + t ≡ t = omega arith in
    subst Q same (AllFrom-get P 0 t form.expressions one.0 (all-read file form has).expressions one.1)

-- the root is a text that names its entry
root-named : (file : Value) (form : SchemaForm) → HasForm file form → (o : Option Value) → value_at (codes "root") (entries file) ≡ o → root_in file o ≡ Some form.root
    → (s : List ℕ) × (value_at (codes "root") (entries file) ≡ Some (text s)) × (name_at form form.root ≡ Some s)
root-named file form has (Some (text s)) there is = (s, there, known file form has s form.root is)
root-named file form has (Some null) there is = absurd cc
root-named file form has (Some (boolean b)) there is = absurd cc
root-named file form has (Some (integer z)) there is = absurd cc
root-named file form has (Some (list a ps)) there is = absurd cc
root-named file form has (Some (dict a ms)) there is = absurd cc
root-named file form has None there is = absurd cc

pub entries-are-types : EntriesAreTypes
entries-are-types file form has = record {
  names = names-are file form has;
  read = (all-read file form has).entries;
  root = root-named file form has (value_at (codes "root") (entries file)) refl has.fits.root;
}

-- What leads on, and on from there.
use Rattle.std.proofs.Common.{◌≡◌, List, [], ◌∷◌, ◌++◌, map, reverse, append_assoc, sym, ap, subst, ◌∙◌}
use Rattle.std.proofs.lemmas.List.{map-append, reverse-append}
use Rattle.snap_core.specs.Value.{Value}
use Rattle.patch_core.specs.declared.patch.Patch.{Patch}
use Rattle.patch_core.specs.Fits.{LeadsTo}
use Rattle.patch_core.specs.Inverse.{inverse_of, back}
use Rattle.edit_core.specs.Labelled.{bare}
use Rattle.edit_core.specs.Logged.{LoggedEdit}
use Rattle.tree_core.specs.State.{State, patches_of}
use Rattle.tree_laws.specs.Calls.{LeadsOn}
use Rattle.tree_laws.proofs.Leading.{AllInside}

leads-joined : (ps qs : List Patch) (s t u : Value) → LeadsTo ps s t → LeadsTo qs t u → LeadsTo (ps ++ qs) s u
leads-joined [] qs s t u first next = let P : Value → Type 0 = λ v. LeadsTo qs v u in subst P (sym first) next
leads-joined (p ∷ ps) qs s t u (v, fits, applied, rest) next = (v, fits, applied, leads-joined ps qs v t u rest next)

back-joined : (ps qs : List Patch) → back (ps ++ qs) ≡ back qs ++ back ps
back-joined ps qs = ap reverse (map-append inverse_of ps qs) ∙ reverse-append (map inverse_of ps) (map inverse_of qs)

pub inside-joined : (es fs : List LoggedEdit) → AllInside es → AllInside fs → AllInside (es ++ fs)
inside-joined [] fs h g = g
inside-joined (e ∷ es) fs h g = (h.0, inside-joined es fs h.1 g)

pub goes-on : (first next last : State) → LeadsOn first next → LeadsOn next last → LeadsOn first last
goes-on first next last a b =
    let Back : List Patch → Type 0 = λ ps. LeadsTo ps (bare last.tree) (bare first.tree) in
    record {
      on = record {
        more = a.on.more ++ b.on.more;
        logged = b.on.logged ∙ ap (λ ps. ps ++ b.on.more) a.on.logged ∙ append_assoc (patches_of first) a.on.more b.on.more;
        leads = leads-joined a.on.more b.on.more (bare first.tree) (bare next.tree) (bare last.tree) a.on.leads b.on.leads;
      };
      back =
          subst Back (sym (back-joined a.on.more b.on.more))
          (leads-joined (back b.on.more) (back a.on.more) (bare last.tree) (bare next.tree) (bare first.tree) b.back a.back);
    }

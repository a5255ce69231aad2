-- Where a patch fits, its inverse fits what it leads to, and leads back.
use Rattle.std.proofs.Common.{◌≡◌, ℕ, List, [], ◌∷◌, Option, Some, None, Ok, refl, ◌∙◌, ap}
use Rattle.std.specs.Prelude.{unwrap_or}
use Rattle.snap_core.specs.Value.{Tree, null, IsOrdered}
use Rattle.snap_core.specs.Level.{Step, child, set_child, insert_child, remove_child}
use Rattle.snap_core.proofs.Levels.{child-set_child, set_child-set_child, set_child-same, child-insert_child, remove_child-insert_child, CanInsert-remove_child, insert_child-remove_child, IsOrdered-child}
use Rattle.pointer_core.specs.Path.{Path}
use Rattle.patch_core.specs.Place.{step_of}
use Rattle.patch_core.specs.Application.{edited, changed}
use Rattle.patch_core.specs.Fits.{HasValues, FitsPart, FitsAt}
use Rattle.patch_core.specs.Inverse.{opposite}
use Rattle.patch_core.specs.declared.patch.PatchOp.{PatchOp}
use Rattle.patch_core.specs.declared.patch.PatchOp.TheVariants.{Add, Replace, Remove}
use Rattle.patch_core.proofs.Steps.{step_to, part_under-at, step_of-set_child, step_of-insert_child, step_of-remove_child, edited-add, edited-replace, edited-remove}

-- what an operation leads to at one level, and that its opposite leads back
record PartBack {A : Type 0} (op : PatchOp) (token : List ℕ) (value old : Option (Tree A)) (t : Tree A) : Type 0 where
  after : Tree A
  leads : edited op token (unwrap_or value null) t ≡ Ok after
  fits : FitsPart (opposite op) token value after
  leads_back : edited (opposite op) token (unwrap_or old null) after ≡ Ok t

part_back : {A : Type 0} (op : PatchOp) (token : List ℕ) (value old : Option (Tree A)) (t : Tree A) → IsOrdered t → HasValues op value old → FitsPart op token old t → PartBack op token value old t
part_back Add token (Some v) None t ordered has fits =
    let after = insert_child fits.0 v t in
    let is : step_of token after ≡ Some fits.0 = step_of-insert_child token fits.0 v t ∙ fits.1 in
    let held = child-insert_child fits.0 v t fits.2 in
    record {
      after = after;
      leads = edited-add token fits.0 v t fits.1 fits.2;
      fits = part_under-at token fits.0 after v is held;
      leads_back = edited-remove token fits.0 null after v is held ∙ ap Ok (remove_child-insert_child fits.0 v t fits.2);
    }
part_back Replace token (Some v) (Some old) t ordered has fits =
    let to = step_to token t old fits in
    let after = set_child to.step v t in
    let is : step_of token after ≡ Some to.step = step_of-set_child token to.step v t ∙ to.is in
    let held = child-set_child to.step v old t to.part in
    record {
      after = after;
      leads = edited-replace token to.step v t old to.is to.part;
      fits = part_under-at token to.step after v is held;
      leads_back = edited-replace token to.step old after v is held ∙ ap Ok (set_child-set_child to.step v old t ∙ set_child-same to.step old t to.part);
    }
part_back Remove token None (Some old) t ordered has fits =
    let to = step_to token t old fits in
    let after = remove_child to.step t in
    let is : step_of token after ≡ Some to.step = step_of-remove_child token to.step t ∙ to.is in
    let room = CanInsert-remove_child to.step old t ordered to.part in
    record {
      after = after;
      leads = edited-remove token to.step null t old to.is to.part;
      fits = (to.step, is, room);
      leads_back = edited-add token to.step old after is room ∙ ap Ok (insert_child-remove_child to.step old t ordered to.part);
    }
part_back op token value old t ordered has fits = absurd has

-- a change inside a part, where the part and what becomes of it are known
changed-inside : {A : Type 0} (op : PatchOp) (token next : List ℕ) (rest : Path) (v t c d : Tree A) (step : Step)
    → step_of token t ≡ Some step → child step t ≡ Some c → changed op (next ∷ rest) v c ≡ Ok d
    → changed op (token ∷ next ∷ rest) v t ≡ Ok (set_child step d t)
changed-inside op token next rest v t c d step is found leads = rw (is, found, leads) refl

-- what an operation leads to at a path, and that its opposite leads back
pub record PathBack {A : Type 0} (op : PatchOp) (path : Path) (value old : Option (Tree A)) (t : Tree A) : Type 0 where
  pub after : Tree A
  pub leads : changed op path (unwrap_or value null) t ≡ Ok after
  pub fits : FitsAt (opposite op) path value after
  pub leads_back : changed (opposite op) path (unwrap_or old null) after ≡ Ok t

pub path_back : {A : Type 0} (op : PatchOp) (path : Path) (value old : Option (Tree A)) (t : Tree A) → IsOrdered t → HasValues op value old → FitsAt op path old t → PathBack op path value old t
path_back op [] value old t ordered has fits = absurd fits
path_back op (token ∷ []) value old t ordered has fits =
    let b = part_back op token value old t ordered has fits in
    record { after = b.after; leads = b.leads; fits = b.fits; leads_back = b.leads_back }
path_back op (token ∷ next ∷ rest) value old t ordered has fits =
    let c = fits.0 in
    let to = step_to token t c fits.1 in
    let b = path_back op (next ∷ rest) value old c (IsOrdered-child to.step t c ordered to.part) has fits.2 in
    let after = set_child to.step b.after t in
    let is : step_of token after ≡ Some to.step = step_of-set_child token to.step b.after t ∙ to.is in
    let held = child-set_child to.step b.after c t to.part in
    record {
      after = after;
      leads = changed-inside op token next rest (unwrap_or value null) t c b.after to.step to.is to.part b.leads;
      fits = (b.after, part_under-at token to.step after b.after is held, b.fits);
      leads_back = changed-inside (opposite op) token next rest (unwrap_or old null) after b.after c to.step is held b.leads_back
          ∙ ap Ok (set_child-set_child to.step b.after c t ∙ set_child-same to.step c t to.part);
    }

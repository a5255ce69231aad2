-- Loops that read a list part by part: what was read and what is left are all.
use Rattle.std.proofs.Common.{◌≡◌, List, [], Result, Ok, map, sym, ◌∙◌, ap}
use Rattle.expr_form.specs.declared.fault.Trouble.{Trouble}
use Rattle.expr_form.specs.Results.{both_of, pushed_of, IsOrMemory}
use Rattle.expr_form.specs.Outcome.{Outcome, reads, Tells}
use Rattle.expr_form.proofs.Telling.{tells-same}
use Rattle.expr_form.proofs.Joining.{joined, with_first, with_last, joined-first, joined-none, joined-end, tells-pushed}

pub record Reads {A B : Type 0} (seen : A → B) (list : Result (List A) Trouble) (whole rest : Outcome (List B)) : Type 0 where
  pub so_far : Outcome (List B)
  pub told : Tells (map seen) list so_far
  pub all : whole ≡ joined so_far rest

module _ {A B : Type 0} (seen : A → B) where
  pub reads-none : (empty : List A) (whole : Outcome (List B)) → empty ≡ [] → Reads seen (Ok empty) whole whole
  reads-none empty whole none = record {
    so_far = reads [];
    told = ap (λ xs. reads (map seen xs)) (sym none);
    all = sym (joined-none whole);
  }

  pub reads-more : (list longer : Result (List A) Trouble) (part : Result A Trouble) (whole rest next : Outcome (List B)) (one : Outcome B)
      → Reads seen list whole rest → rest ≡ with_first one next → IsOrMemory longer (pushed_of (both_of list part)) → Tells seen part one → Reads seen longer whole next
  reads-more list longer part whole rest next one before step is told = record {
    so_far = with_last before.so_far one;
    told = tells-pushed seen list part longer before.so_far one is before.told told;
    all = before.all ∙ ap (joined before.so_far) step ∙ joined-first before.so_far one next;
  }

  pub reads-all : (list : Result (List A) Trouble) (whole rest : Outcome (List B)) → Reads seen list whole rest → rest ≡ reads [] → Tells (map seen) list whole
  reads-all list whole rest before done =
      tells-same (map seen) list before.so_far whole (before.all ∙ ap (joined before.so_far) done ∙ joined-end before.so_far) before.told

-- The exact steps of a door in memory are steps of a door.
use Rattle.std.proofs.Common.{ℕ, ◌≡◌, ◌<◌, ◌≤◌, ◌∙◌, Bool, true, false, List, [], ◌∷◌, ◌++◌, Option, Some, None, Result, Ok, Err, length, take, drop, min, is_some, is_err, IfOk, IsTrue, refl, sym, ap, arith, option_map, if◌then◌else◌}
use Rattle.std.specs.Bool.{MatchBool}
use Rattle.std.proofs.lemmas.List.{take-append-drop, length-take-le}
use Rattle.std.proofs.Math.Seq.{take-append_seam, drop-nil}
use Rattle.edge_core.specs.Faults.{is_next_failing}
use Rattle.edge_core.specs.Door.{Link, Links, MemoryDoorState, Accepts, FindsNone, Reads, has_next, with_next, after_accept, left_of, read_count, after_read, after_bytes}

next_link : (coming : List (List ℕ)) (links new : Links) (more : Bool) → links.coming ≡ coming → more ≡ has_next coming → new ≡ with_next coming links → MatchBool more (Accepts links new) (FindsNone links new)
next_link [] links new true at found after = absurd cc
next_link [] links new false at found after = record { no_more = at; same = after }
next_link (input ∷ coming) links new false at found after = absurd cc
next_link (input ∷ coming) links new true at found after =
    record {
      input = input;
      was_next = at ∙ sym (ap (λ (l : Links). input ∷ l.coming) after);
      is_current = ap (λ (l : Links). l.current) after;
      same_shut = ap (λ (l : Links). l.shut) after;
    }

pub accepts_next : {E : Type 0} (old new : MemoryDoorState) (r : Result Bool E) → is_err r ≡ is_next_failing old.faults → IfOk r (λ more. more ≡ has_next old.links.coming) → new ≡ after_accept old → IfOk r (λ more. MatchBool more (Accepts old.links new.links) (FindsNone old.links new.links))
accepts_next old new (Err e) failed found after = tt
accepts_next old new (Ok more) failed found after =
    let after_links : new.links ≡ (if is_next_failing old.faults then old.links else with_next old.links.coming old.links) = ap (λ (d : MemoryDoorState). d.links) after in
    next_link old.links.coming old.links new.links more refl found (rw (← failed) at after_links)

reads_piece : (link : Link) (old new : Links) (n : ℕ) (room : List ℕ) → old.current ≡ Some link → n ≤ length link.left → (n ≡ 0 → link.left ≡ []) → new ≡ record old { current = Some (after_bytes n link) } → Reads (take n (take n link.left ++ drop n room)) old new
reads_piece link old new n room at within at_end after =
    let len : length (take n link.left) ≡ n = length-take-le n link.left within in
    let piece : take n (take n link.left ++ drop n room) ≡ take n link.left =
    ap (λ k. take k (take n link.left ++ drop n room)) (sym len) ∙ take-append_seam (take n link.left) (drop n room) in
    rw piece (record {
      left = drop n link.left;
      written = link.written;
      before = at ∙ ap (λ (bytes : List ℕ). Some (record { left = bytes; written = link.written })) (sym (take-append-drop n link.left));
      after = after;
      at_end = λ empty. ap (λ bytes. drop n bytes) (at_end (sym len ∙ ap length empty)) ∙ drop-nil n;
    })

reads_current : (current : Option Link) (old new : Links) (cut n : ℕ) (room room' : List ℕ) → old.current ≡ current → IsTrue (is_some current) → n ≡ min cut (min (length room) (length (left_of current))) → (n ≡ 0 → left_of current ≡ []) → room' ≡ take n (left_of current) ++ drop n room → new ≡ record old { current = option_map (after_bytes n) current } → Reads (take n room') old new
reads_current None old new cut n room room' at is_open count at_end bytes after = absurd cc
reads_current (Some link) old new cut n room room' at is_open count at_end bytes after =
    rw bytes (reads_piece link old new n room at (omega arith) at_end after)

pub reads_some : {E : Type 0} (old new : MemoryDoorState) (r : Result ℕ E) (room room' : List ℕ) → IsTrue (is_some old.links.current) → 0 < length room → is_err r ≡ is_next_failing old.faults → IfOk r (λ n. n ≡ read_count old (length room)) → IfOk r (λ n. n ≡ 0 → 0 < length room → left_of old.links.current ≡ []) → IfOk r (λ n. room' ≡ take n (left_of old.links.current) ++ drop n room) → new ≡ after_read old (length room) → IfOk r (λ n. Reads (take n room') old.links new.links)
reads_some old new (Err e) room room' is_open has_room failed count at_end bytes after = tt
reads_some old new (Ok n) room room' is_open has_room failed count at_end bytes after =
    let current : Option Link = old.links.current in
    let moved : new.links ≡ record old.links { current = if is_next_failing old.faults then current else option_map (after_bytes (read_count old (length room))) current } =
    ap (λ (d : MemoryDoorState). d.links) after in
    reads_current old.links.current old.links new.links old.cut n room room' refl is_open count (λ none. at_end none has_room) bytes (rw (← failed, ← count) at moved)

-- The rule of maps and models leads from the old entries to the new ones.
use Rattle.std.proofs.Common.{◌≡◌, ℕ, List, [], ◌∷◌, ◌++◌, Option, Some, None, refl, sym, ◌∙◌, ap, subst, append_assoc, append-nil}
use Rattle.std.specs.declared.cmp.Ordering.{Ordering}
use Rattle.std.specs.declared.cmp.Ordering.TheVariants.{Less, Equal, Greater}
use Rattle.std.specs.Ordering.{nat_cmp, is_eq}
use Rattle.std.specs.Cmp.Lexicographic.{slice_cmp}
use Rattle.std.proofs.lemmas.Map.Text.{is_eq-slice_cmp}
use Rattle.std.proofs.lemmas.Slice.Eq.{bytes_eq-Decides}
use Rattle.edit_core.specs.Labelled.{Label, Labelled, Entry, keyed, entries}
use Rattle.edit_core.specs.Edit.{Edit, add, remove}
use Rattle.edit_core.specs.Between.{OldPart, entries_of, Parting, parted_after, parted, edits_at, settings, united, cuts, cleared, entry_edits}
use Rattle.edit_core.proofs.Leading.{Conditions, FineIn, EachFine, one_entry, RunIn, no_edits, one_edit}
use Rattle.edit_core.proofs.Runs.{joined_in, one, lifted_entry, shifted_entry}
use Rattle.edit_core.proofs.ItemEdits.{IsGood}

pub keys-equal : (k key : List ℕ) → slice_cmp nat_cmp k key ≡ Equal → k ≡ key
keys-equal k key h = (bytes_eq-Decides k key).0 (sym (is_eq-slice_cmp k key) ∙ ap is_eq h)

-- the entry that is held at a key, if any
abbrev pub held_entry : List ℕ → Option OldPart → List Entry
held_entry key (Some old) = (key, old.value) ∷ []
held_entry key None = []

module _ (C : Conditions) where
  abbrev pub AreGoodEntries : List (List ℕ × OldPart) → Type 0
  AreGoodEntries [] = Unit {0}
  AreGoodEntries (e ∷ es) = IsGood C e.1 × AreGoodEntries es

  abbrev IsGoodHeld : Option OldPart → Type 0
  IsGoodHeld (Some old) = IsGood C old
  IsGoodHeld None = Unit {0}

  -- What stands about a key makes up the entries.
  record IsParting (key : List ℕ) (olds : List (List ℕ × OldPart)) (p : Parting) : Type 0 where
    all : entries_of olds ≡ entries_of p.below ++ (held_entry key p.held ++ entries_of p.above)
    held : IsGoodHeld p.held
    above : AreGoodEntries p.above

  parted_after-is : (key : List ℕ) (e : List ℕ × OldPart) (es : List (List ℕ × OldPart)) (rest : Parting) (o : Ordering) → IsGood C e.1 → AreGoodEntries es
      → slice_cmp nat_cmp e.0 key ≡ o → IsParting key es rest → IsParting key (e ∷ es) (parted_after e es rest o)
  parted_after-is key e es rest Less good goods same is = record { all = ap (λ xs. (e.0, e.1.value) ∷ xs) is.all; held = is.held; above = is.above }
  parted_after-is key e es rest Equal good goods same is = record { all = ap (λ k. (k, e.1.value) ∷ entries_of es) (keys-equal e.0 key same); held = good; above = goods }
  parted_after-is key e es rest Greater good goods same is = record { all = refl; held = tt; above = (good, goods) }

  parted-is : (key : List ℕ) (olds : List (List ℕ × OldPart)) → AreGoodEntries olds → IsParting key olds (parted key olds)
  parted-is key [] good = record { all = refl; held = tt; above = tt }
  parted-is key (e ∷ es) good = parted_after-is key e es (parted key es) (slice_cmp nat_cmp e.0 key) good.0 good.1 refl (parted-is key es good.1)

  edits_at-run : (l : Label) (before after : List Entry) (key : List ℕ) (held : Option OldPart) (new : Labelled) → C.keys (before ++ (key, new) ∷ after) → IsGoodHeld held → FineIn C new
      → RunIn C (keyed l (entries (before ++ (held_entry key held ++ after)))) (edits_at before key held new after) (keyed l (entries (before ++ (key, new) ∷ after)))
  edits_at-run l before after key (Some old) new p good fine =
      lifted_entry C l before after key old.value new (old.edits new) (C.other before after key new old.value p) (good new fine)
  edits_at-run l before after key None new p good fine = one C _ _ _ (one_entry l before after key (add new) (C.fewer_keys before ((key, new) ∷ []) after p) p)

  -- a run that begins with entries that are told otherwise, and one that ends so
  starts : (l : Label) (xs ys : List Entry) (es : List Edit) (z : Labelled) → xs ≡ ys → RunIn C (keyed l (entries ys)) es z → RunIn C (keyed l (entries xs)) es z
  starts l xs ys es z same run = let P : List Entry → Type 0 = λ parts. RunIn C (keyed l (entries parts)) es z in subst P (sym same) run

  ends : (l : Label) (xs ys : List Entry) (es : List Edit) (z : Labelled) → xs ≡ ys → RunIn C z es (keyed l (entries xs)) → RunIn C z es (keyed l (entries ys))
  ends l xs ys es z same run = let P : List Entry → Type 0 = λ parts. RunIn C z es (keyed l (entries parts)) in subst P same run

  keys-told : (xs ys : List Entry) → xs ≡ ys → C.keys xs → C.keys ys
  keys-told xs ys same h = subst C.keys same h

  pub settings-run : (l : Label) (done : List Entry) (olds : List (List ℕ × OldPart)) (news : List Entry) → C.keys (done ++ entries_of olds) → C.keys (done ++ news) → AreGoodEntries olds → EachFine C news
      → RunIn C (keyed l (entries (done ++ entries_of olds))) (settings done olds news) (keyed l (entries (done ++ united olds news)))
  settings-run l done olds [] p q good fine = no_edits _
  settings-run l done olds (n ∷ ns) p q good fine =
      go (parted n.0 olds) (parted-is n.0 olds good) (C.set done n olds ns p q) (λ d o h k g. settings-run l d o ns h k g fine.1) where
        go : (parts : Parting) → IsParting n.0 olds parts
            → C.keys ((done ++ entries_of parts.below) ++ n ∷ entries_of parts.above) × C.keys (((done ++ entries_of parts.below) ++ n ∷ []) ++ ns)
            → ((done : List Entry) (olds : List (List ℕ × OldPart)) → C.keys (done ++ entries_of olds) → C.keys (done ++ ns) → AreGoodEntries olds
            → RunIn C (keyed l (entries (done ++ entries_of olds))) (settings done olds ns) (keyed l (entries (done ++ united olds ns))))
            → RunIn C (keyed l (entries (done ++ entries_of olds)))
            (edits_at (done ++ entries_of parts.below) n.0 parts.held n.1 (entries_of parts.above) ++ settings ((done ++ entries_of parts.below) ++ n ∷ []) parts.above ns)
            (keyed l (entries (done ++ (entries_of parts.below ++ n ∷ united parts.above ns))))
        go parts is kept further =
            let before : List Entry = done ++ entries_of parts.below in
            let rest : List Edit = settings (before ++ n ∷ []) parts.above ns in
            joined_in C _ _ _ (edits_at before n.0 parts.held n.1 (entries_of parts.above)) rest
            (starts l (done ++ entries_of olds) (before ++ (held_entry n.0 parts.held ++ entries_of parts.above)) _ _
            (ap (λ xs. done ++ xs) is.all ∙ sym (append_assoc done (entries_of parts.below) (held_entry n.0 parts.held ++ entries_of parts.above)))
            (edits_at-run l before (entries_of parts.above) n.0 parts.held n.1 kept.0 is.held fine.0))
            (ends l (before ++ n ∷ united parts.above ns) (done ++ (entries_of parts.below ++ n ∷ united parts.above ns)) rest _
            (append_assoc done (entries_of parts.below) (n ∷ united parts.above ns))
            (shifted_entry C l before n (entries_of parts.above) (united parts.above ns) rest
            (further (before ++ n ∷ []) parts.above
            (keys-told (before ++ n ∷ entries_of parts.above) ((before ++ n ∷ []) ++ entries_of parts.above) (sym (append_assoc before (n ∷ []) (entries_of parts.above))) kept.0)
            kept.1 is.above)))

  pub keys-united : (done : List Entry) (olds : List (List ℕ × OldPart)) (news : List Entry) → C.keys (done ++ entries_of olds) → C.keys (done ++ news) → C.keys (done ++ united olds news)
  keys-united done olds [] p q = p
  keys-united done olds (n ∷ ns) p q =
      let parts : Parting = parted n.0 olds in
      let before : List Entry = done ++ entries_of parts.below in
      let kept = C.set done n olds ns p q in
      let further : C.keys ((before ++ n ∷ []) ++ united parts.above ns) =
      keys-united (before ++ n ∷ []) parts.above ns
      (keys-told (before ++ n ∷ entries_of parts.above) ((before ++ n ∷ []) ++ entries_of parts.above) (sym (append_assoc before (n ∷ []) (entries_of parts.above))) kept.0)
      kept.1 in
      keys-told ((before ++ n ∷ []) ++ united parts.above ns) (done ++ (entries_of parts.below ++ n ∷ united parts.above ns))
      (append_assoc before (n ∷ []) (united parts.above ns) ∙ append_assoc done (entries_of parts.below) (n ∷ united parts.above ns)) further

  pub cuts-run : (l : Label) (before es after : List Entry) → C.keys (before ++ (es ++ after)) → RunIn C (keyed l (entries (before ++ (es ++ after)))) (cuts before es after) (keyed l (entries (before ++ after)))
  cuts-run l before [] after p = no_edits _
  cuts-run l before (e ∷ es) after p =
      let left : C.keys (before ++ (es ++ after)) = C.fewer_keys before (e ∷ []) (es ++ after) p in
      one_edit _ (keyed l (entries (before ++ (es ++ after)))) _ _ _ (one_entry l before (es ++ after) e.0 (remove e.1) p left) (cuts-run l before es after left)

  pub cleared-run : (l : Label) (done : List Entry) (olds : List (List ℕ × OldPart)) (news : List Entry) → C.keys (done ++ united olds news)
      → RunIn C (keyed l (entries (done ++ united olds news))) (cleared done olds news) (keyed l (entries (done ++ news)))
  cleared-run l done olds [] p =
      let same : done ++ entries_of olds ≡ done ++ (entries_of olds ++ []) = ap (λ xs. done ++ xs) (sym (append-nil (entries_of olds))) in
      starts l (done ++ entries_of olds) (done ++ (entries_of olds ++ [])) _ _ same (cuts-run l done (entries_of olds) [] (keys-told _ _ same p))
  cleared-run l done olds (n ∷ ns) p =
      let parts : Parting = parted n.0 olds in
      let rest : List Entry = united parts.above ns in
      joined_in C _ _ _ (cuts done (entries_of parts.below) (n ∷ rest)) (cleared (done ++ n ∷ []) parts.above ns)
      (cuts-run l done (entries_of parts.below) (n ∷ rest) p)
      (shifted_entry C l done n rest ns (cleared (done ++ n ∷ []) parts.above ns)
      (cleared-run l (done ++ n ∷ []) parts.above ns
      (keys-told (done ++ n ∷ rest) ((done ++ n ∷ []) ++ rest) (sym (append_assoc done (n ∷ []) rest)) (C.fewer_keys done (entries_of parts.below) (n ∷ rest) p))))

  pub entry_edits-run : (l : Label) (olds : List (List ℕ × OldPart)) (news : List Entry) → C.keys (entries_of olds) → C.keys news → AreGoodEntries olds → EachFine C news
      → RunIn C (keyed l (entries (entries_of olds))) (entry_edits olds news) (keyed l (entries news))
  entry_edits-run l olds news p q good fine =
      joined_in C _ _ _ (settings [] olds news) (cleared [] olds news)
      (settings-run l [] olds news p q good fine) (cleared-run l [] olds news (keys-united [] olds news p q))

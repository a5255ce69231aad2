-- Records and lists that are made of answers.
use Rattle.std.proofs.Common.{◌≡◌, ℕ, zero, suc, suc-add, arith, length, get_or, ◌+◌, ◌<◌, List, [], ◌∷◌, ◌++◌, map, drop, Result, Ok, Err, refl, sym, ◌∙◌, ap, subst}
use Rattle.std.specs.Prelude.{IsErrAnd}
use Rattle.snap_core.specs.Value as plains
use Rattle.snap_core.specs.Value.{Fields, Items, no_members, no_parts, part, list, dict}
use Rattle.snap_core.specs.View.{view, items_view, fields_view}
use Rattle.snap_core.specs.declared.snap.Snap
use Rattle.snap_core.specs.declared.snap.Field.{Field}
use Rattle.snap_core.proofs.Views.{view-Dict}
use Rattle.pointer_core.specs.declared.refusal.Rule.{Rule}
use Rattle.expr_syntax.specs.declared.expr.Entry.{Entry}
use Rattle.eval_core.specs.declared.site.Site.{Site}
use Rattle.eval_core.specs.Answer.{Answer, AnswerList, plain, answer, no_answers}
use Rattle.eval_core.specs.Sight.{Sight}
use Rattle.eval_core.specs.Run.{Fault}
use Rattle.eval_core.specs.Scope.{Scope, at_site, judged, gives}
use Rattle.eval_core.specs.Operating.{in_bounds}
use Rattle.eval_core.specs.Making.{Made, made_value, made_values, with_field, field_made, fields_made, as_record, record_made, part_made}
use Rattle.answer_ops.specs.View.{answer_of, answers_of}
use Rattle.answer_ops.specs.declared.value.Value
use Rattle.answer_ops.proofs.Views.{answer-Plain}
use Rattle.view_engine.specs.declared.halt.Halt.{Halt}
use Rattle.view_engine.specs.declared.halt.Halt.TheVariants as halts
use Rattle.view_engine.specs.Halts.{fault_of}
use Rattle.view_engine.specs.Halts as outcomes
use Rattle.view_engine.specs.Did.{Read}
use Rattle.view_engine.specs.Made.{made_of}
use Rattle.view_engine.specs.Steps.{tested}
use Rattle.view_engine.proofs.Doing.{read-lift, read-stop, read-handed, tested-gives}
use Rattle.view_engine.proofs.Lists.{element}

made_ok : {A : Type 0} (site : Site) (o : Result A Rule) (x : A) → at_site site o ≡ Ok x → o ≡ Ok x
made_ok {A} site (Ok y) x is = let same : y ≡ x = cc in ap Ok same
made_ok site (Err rule) x is = cc

-- the entries and values from an index on
made_step : (es : List Entry) (vs : List Value.Value) (m : Entry) (v : Value.Value) (more_es : List Entry) (more_vs : List Value.Value) → es ≡ m ∷ more_es → vs ≡ v ∷ more_vs
    → made_of es vs ≡ (m.key, answer_of v) ∷ made_of more_es more_vs
made_step es vs m v more_es more_vs is_es is_vs = ap (λ xs. made_of xs vs) is_es ∙ ap (made_of (m ∷ more_es)) is_vs

-- an entry was made, and is set
pub record-step : (site : Site) (seen : Sight) (es : List Entry) (vs : List Value.Value) (m : Entry) (v : Value.Value) (more_es : List Entry) (more_vs : List Value.Value) (value : Snap.Snap)
    (ms after : Fields)
    → es ≡ m ∷ more_es → vs ≡ v ∷ more_vs → at_site site (made_value seen (answer_of v)) ≡ Ok (view value) → after ≡ with_field m.key (view value) ms
    → fields_made seen (made_of es vs) ms ≡ fields_made seen (made_of more_es more_vs) after
record-step site seen es vs m v more_es more_vs value ms after is_es is_vs made set =
    ap (λ all. fields_made seen all ms) (made_step es vs m v more_es more_vs is_es is_vs)
    ∙ ap (λ o. field_made m.key o (λ w. fields_made seen (made_of more_es more_vs) w) ms) (made_ok site (made_value seen (answer_of v)) (view value) made)
    ∙ ap (fields_made seen (made_of more_es more_vs)) (sym set)

unmade : (site : Site) (halt : Halt) (o : Result plains.Value Rule) (key : List ℕ) (rest : Fields → Result Fields Rule) (ms : Fields)
    → outcomes.Answers view (Err halt) (at_site site o) → outcomes.Answers {T = Value.Value} answer_of (Err halt) (at_site site (as_record (field_made key o rest ms)))
unmade site halts.Memory o key rest ms h = tt
unmade site (halts.Refused fault) (Ok v) key rest ms h = cc
unmade site (halts.Refused fault) (Err rule) key rest ms h =
    let at : Fault = record { rule = rule; site = site } in
    let same : at ≡ fault_of fault = cc in
    ap Err same

-- an entry wasn't made
pub record-unmade : (s : Scope) (es : List Entry) (vs : List Value.Value) (m : Entry) (v : Value.Value) (more_es : List Entry) (more_vs : List Value.Value) (all : List Made) (halt : Halt) (ms : Fields)
    → es ≡ m ∷ more_es → vs ≡ v ∷ more_vs → fields_made s.sight (made_of es vs) ms ≡ fields_made s.sight all no_members
    → outcomes.Answers view (Err halt) (at_site s.here (made_value s.sight (answer_of v)))
    → Read {T = Value.Value} answer_of (Err halt) (tested s (judged s (record_made s.sight all)))
record-unmade s es vs m v more_es more_vs all halt ms is_es is_vs left h =
    let opened : fields_made s.sight all no_members ≡ field_made m.key (made_value s.sight (answer_of v)) (λ w. fields_made s.sight (made_of more_es more_vs) w) ms =
    sym left ∙ ap (λ xs. fields_made s.sight xs ms) (made_step es vs m v more_es more_vs is_es is_vs) in
    read-stop {T = Value.Value} {U = Value.Value} answer_of answer_of halt (judged s (record_made s.sight all)) (λ x. judged s (in_bounds x))
    (read-lift {T = Value.Value} answer_of (Err halt) (at_site s.here (record_made s.sight all))
    (subst (λ o. outcomes.Answers {T = Value.Value} answer_of (Err halt) (at_site s.here (as_record o))) (sym opened)
    (unmade s.here halt (made_value s.sight (answer_of v)) m.key (λ w. fields_made s.sight (made_of more_es more_vs) w) ms h)))

-- all entries were made
pub record-ends : (s : Scope) (es : List Entry) (vs : List Value.Value) (all : List Made) (fields : List Field) (r : Result Value.Value Halt)
    → es ≡ [] → fields_made s.sight (made_of es vs) (fields_view fields) ≡ fields_made s.sight all no_members
    → Read answer_of r (judged s (in_bounds (answer_of (Value.Plain (Snap.Dict fields)))))
    → Read answer_of r (tested s (judged s (record_made s.sight all)))
record-ends s es vs all fields r none left read =
    let whole : record_made s.sight all ≡ Ok (plain (dict tt (fields_view fields))) =
    ap as_record (sym left ∙ ap (λ xs. fields_made s.sight (made_of xs vs) (fields_view fields)) none) in
    let value : answer_of (Value.Plain (Snap.Dict fields)) ≡ plain (dict tt (fields_view fields)) = answer-Plain (Snap.Dict fields) ∙ ap plain (view-Dict fields) in
    subst (λ o. Read answer_of r (tested s (judged s o))) (sym whole)
    (tested-gives s (plain (dict tt (fields_view fields))) r (subst (λ x. Read answer_of r (judged s (in_bounds x))) value read))

-- Lists of plain values.

-- items behind others
abbrev pub glued : Items → Items → Items
glued no_parts qs = qs
glued (part v ps) qs = part v (glued ps qs)

abbrev pub with_parts : Items → Result Items Rule → Result Items Rule
with_parts ps (Ok qs) = Ok (glued ps qs)
with_parts ps (Err rule) = Err rule

pub glued-last : (xs : List Snap.Snap) (x : Snap.Snap) (qs : Items) → glued (items_view (xs ++ x ∷ [])) qs ≡ glued (items_view xs) (part (view x) qs)
glued-last [] x qs = refl
glued-last (y ∷ ys) x qs = ap (part (view y)) (glued-last ys x qs)

pub glued-none : (ps : Items) → glued ps no_parts ≡ ps
glued-none no_parts = refl
glued-none (part v ps) = ap (part v) (glued-none ps)

with_parts-last : (xs : List Snap.Snap) (x : Snap.Snap) (o : Result Items Rule) → with_parts (items_view (xs ++ x ∷ [])) o ≡ with_parts (items_view xs) (part_made (Ok (view x)) o)
with_parts-last xs x (Ok qs) = ap Ok (glued-last xs x qs)
with_parts-last xs x (Err rule) = refl

-- a value more was made
pub parts-step : (site : Site) (seen : Sight) (vs : List Value.Value) (v : Value.Value) (more : List Value.Value) (x : Snap.Snap) (xs after : List Snap.Snap) → vs ≡ v ∷ more
    → at_site site (made_value seen (answer_of v)) ≡ Ok (view x) → after ≡ xs ++ x ∷ []
    → with_parts (items_view xs) (made_values seen (answers_of vs)) ≡ with_parts (items_view after) (made_values seen (answers_of more))
parts-step site seen vs v more x xs after is made pushed =
    ap (λ ws. with_parts (items_view xs) (made_values seen (answers_of ws))) is
    ∙ ap (λ o. with_parts (items_view xs) (part_made o (made_values seen (answers_of more)))) (made_ok site (made_value seen (answer_of v)) (view x) made)
    ∙ sym (with_parts-last xs x (made_values seen (answers_of more)))
    ∙ ap (λ ys. with_parts (items_view ys) (made_values seen (answers_of more))) (sym pushed)

parts_unmade : (site : Site) (halt : Halt) (ps : Items) (o : Result plains.Value Rule) (rest : Result Items Rule)
    → outcomes.Answers view (Err halt) (at_site site o) → outcomes.Answers {T = List Snap.Snap} items_view (Err halt) (at_site site (with_parts ps (part_made o rest)))
parts_unmade site halts.Memory ps o rest h = tt
parts_unmade site (halts.Refused fault) ps (Ok v) rest h = cc
parts_unmade site (halts.Refused fault) ps (Err rule) rest h =
    let at : Fault = record { rule = rule; site = site } in
    let same : at ≡ fault_of fault = cc in
    ap Err same

-- a value wasn't made
pub parts-unmade : (site : Site) (seen : Sight) (vs : List Value.Value) (v : Value.Value) (more : List Value.Value) (xs : List Snap.Snap) (halt : Halt) (whole : Result Items Rule) → vs ≡ v ∷ more
    → with_parts (items_view xs) (made_values seen (answers_of vs)) ≡ whole
    → outcomes.Answers view (Err halt) (at_site site (made_value seen (answer_of v)))
    → outcomes.Answers {T = List Snap.Snap} items_view (Err halt) (at_site site whole)
parts-unmade site seen vs v more xs halt whole is left h =
    subst (λ o. outcomes.Answers {T = List Snap.Snap} items_view (Err halt) (at_site site o)) (sym (ap (λ ws. with_parts (items_view xs) (made_values seen (answers_of ws))) is) ∙ left)
    (parts_unmade site halt (items_view xs) (made_value seen (answer_of v)) (made_values seen (answers_of more)) h)

-- all values were made
pub parts-end : (site : Site) (seen : Sight) (vs : List Value.Value) (xs : List Snap.Snap) (whole : Result Items Rule) → vs ≡ []
    → with_parts (items_view xs) (made_values seen (answers_of vs)) ≡ whole → at_site site whole ≡ Ok (items_view xs)
parts-end site seen vs xs whole none left =
    ap (at_site site) (sym left ∙ ap (λ ws. with_parts (items_view xs) (made_values seen (answers_of ws))) none ∙ ap Ok (glued-none (items_view xs)))

-- By the elements of a loop.

some_at : {X : Type 0} (xs : List X) (i : ℕ) → i < length xs → (x : X) × (drop i xs ≡ x ∷ drop (i + 1) xs)
some_at [] i within = absurd (omega arith)
some_at (x ∷ xs) zero within = (x, refl)
some_at (x ∷ xs) (suc i) within = let later = some_at xs i (omega arith) in (later.0, rw suc-add later.1)

pub record-unmade-at : (s : Scope) (es : List Entry) (vs : List Value.Value) (i : ℕ) (v : Value.Value) (r : Result Value.Value Halt) (halt : Halt) (ms : Fields) → i < length es → length es ≡ length vs
    → v ≡ get_or vs i v → IsErrAnd r (λ h. h ≡ halt)
    → fields_made s.sight (made_of (drop i es) (drop i vs)) ms ≡ fields_made s.sight (made_of es vs) no_members
    → outcomes.Answers view (Err halt) (at_site s.here (made_value s.sight (answer_of v)))
    → Read answer_of r (tested s (judged s (record_made s.sight (made_of es vs))))
record-unmade-at s es vs i v r halt ms within same is handed left h =
    let m = some_at es i within in
    read-handed answer_of halt r (tested s (judged s (record_made s.sight (made_of es vs)))) handed
    (record-unmade s (drop i es) (drop i vs) m.0 v (drop (i + 1) es) (drop (i + 1) vs) (made_of es vs) halt ms m.1 (element vs i v (omega arith) is) left h)

pub record-step-at : (site : Site) (seen : Sight) (es : List Entry) (vs : List Value.Value) (i : ℕ) (m : Entry) (v : Value.Value) (value : Snap.Snap) (ms after : Fields) (whole : Result Fields Rule)
    → i < length es → length es ≡ length vs → m ≡ get_or es i m → v ≡ get_or vs i v
    → fields_made seen (made_of (drop i es) (drop i vs)) ms ≡ whole
    → at_site site (made_value seen (answer_of v)) ≡ Ok (view value) → after ≡ with_field m.key (view value) ms
    → fields_made seen (made_of (drop (i + 1) es) (drop (i + 1) vs)) after ≡ whole
record-step-at site seen es vs i m v value ms after whole within same is_m is_v left made set =
    sym (record-step site seen (drop i es) (drop i vs) m v (drop (i + 1) es) (drop (i + 1) vs) value ms after (element es i m within is_m) (element vs i v (omega arith) is_v) made set) ∙ left

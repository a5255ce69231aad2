-- What becomes of the results of parts.
use Rattle.std.specs.Prelude.{◌≡◌, ℕ, List, [], ◌∷◌, ◌++◌, Result, Ok, Err, Option, Some, None}
use Rattle.snap_core.specs.declared.number.ModelNo.{ModelNo}
use Rattle.expr_form.specs.declared.fault.Trouble.{Trouble}
use Rattle.expr_form.specs.declared.fault.Trouble.TheVariants.{Memory, Wrong, Astray}

-- a trouble one step further down
abbrev pub lower : List ℕ → Trouble → Trouble
lower token Memory = Memory
lower token (Wrong f) = Wrong (record { path = token ∷ f.path; rule = f.rule })
lower token (Astray path) = Astray (token ∷ path)

abbrev pub lowered : {A : Type 0} → List ℕ → Result A Trouble → Result A Trouble
lowered token (Ok a) = Ok a
lowered token (Err trouble) = Err (lower token trouble)

-- two parts, or the trouble of one: a fault of the second comes before a first one that goes astray
abbrev pub both_of : {A B : Type 0} → Result A Trouble → Result B Trouble → Result (A × B) Trouble
both_of (Err Memory) second = Err Memory
both_of (Err (Wrong f)) second = Err (Wrong f)
both_of (Err (Astray path)) (Err Memory) = Err Memory
both_of (Err (Astray path)) (Err (Wrong f)) = Err (Wrong f)
both_of (Err (Astray path)) second = Err (Astray path)
both_of (Ok a) (Err trouble) = Err trouble
both_of (Ok a) (Ok b) = Ok (a, b)

-- a list and one part more
abbrev pub pushed_of : {A : Type 0} → Result (List A × A) Trouble → Result (List A) Trouble
pushed_of (Ok p) = Ok (p.0 ++ p.1 ∷ [])
pushed_of (Err trouble) = Err trouble

-- the result is this one, unless memory ran out
abbrev pub IsOrMemory : {A : Type 0} → Result A Trouble → Result A Trouble → Type 0
IsOrMemory (Err Memory) wanted = Unit {0}
IsOrMemory result wanted = result ≡ wanted

-- the result is made of the parts, unless memory ran out
abbrev pub Makes : {A C : Type 0} → (A → C → Type 0) → Result A Trouble → Result C Trouble → Type 0
Makes fits parts (Err Memory) = Unit {0}
Makes fits (Ok a) (Ok c) = fits a c
Makes fits (Err trouble) (Err other) = trouble ≡ other
Makes fits parts result = ⊥

-- a part where a model is wanted: a fault of the part comes first, and without a model it goes astray at its own place
abbrev pub aimed_of : {A : Type 0} → Option ModelNo → Result A Trouble → Result (ModelNo × A) Trouble
aimed_of target (Err Memory) = Err Memory
aimed_of target (Err (Wrong f)) = Err (Wrong f)
aimed_of None part = Err (Astray [])
aimed_of (Some m) (Err trouble) = Err trouble
aimed_of (Some m) (Ok a) = Ok (m, a)

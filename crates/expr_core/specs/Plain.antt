-- Views, actions and middleware whose constants are plain.
use Rattle.std.specs.Prelude.{List, All}
use Rattle.model_syntax.specs.Shown.{ShownView, ShownAction, ShownMiddleware, atomic, protect, ShownBehaviour}
use Rattle.plain_answers.specs.Plainness.{HasPlainConstants}
use Rattle.plain_answers.specs.EachExpression.{HoldsInBlock}

-- each constant in each view of each model is plain
abbrev pub HavePlainConstants : List (List ShownView) → Type 0
HavePlainConstants lists = All (All (λ (view : ShownView). HasPlainConstants view.body)) lists

-- each constant in the body of an action is plain, and so in all actions of each model
abbrev pub HasPlainAction : ShownAction → Type 0
HasPlainAction a = HoldsInBlock HasPlainConstants a.body

abbrev pub HavePlainActions : List ShownBehaviour → Type 0
HavePlainActions behaviours = All (λ (b : ShownBehaviour). All HasPlainAction b.actions) behaviours

-- each constant in the condition of a middleware is plain, and so in all middleware of each model
abbrev pub HasPlainCondition : ShownMiddleware → Type 0
HasPlainCondition (atomic around) = Unit {0}
HasPlainCondition (protect around condition) = HasPlainConstants condition

abbrev pub HavePlainConditions : List ShownBehaviour → Type 0
HavePlainConditions behaviours = All (λ (b : ShownBehaviour). All HasPlainCondition b.middleware) behaviours

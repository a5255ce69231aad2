-- Expressions and statements, as every definition sees them.
use Rattle.std.specs.Prelude.{ℕ, List}
use Rattle.snap_core.specs.Value.{Value}
use Rattle.snap_core.specs.declared.number.ModelNo.{ModelNo}
use Rattle.expr_syntax.specs.declared.op.Op.{Op}

-- what a walk makes of what its body gives for each walked value
pub data Walk : Type 0 where
  filter collect all any sum : Walk

-- what a form tells of the one value that it is given
pub data Telling : Type 0 where
  keys items snapshot path : Telling

mutual
  pub data Expression : Type 0 where
    -- a value that stands for itself
    constant : Value → Expression
    variable : List ℕ → Expression
    -- a property or a view: of `self`, of a model; the identifier in a reference property
    own : List ℕ → Expression
    get : Expression → List ℕ → Expression
    ref : Expression → List ℕ → Expression
    -- an operator of one operand, and of two
    one_sided : Op → Expression → Expression
    two_sided : Op → Expression → Expression → Expression
    telling : Telling → Expression → Expression
    -- what is walked, the name of each walked value, and the body
    walk : Walk → Expression → List ℕ → Expression → Expression
    -- both truths, the second only where the first is true; either, the second only where the first is false
    both : Expression → Expression → Expression
    either : Expression → Expression → Expression
    choice : Expression → Expression → Expression → Expression
    -- the second with the first bound to a name
    bind : List ℕ → Expression → Expression → Expression
    list : Expressions → Expression
    make : Members → Expression
    -- the node of a model with an identifier, and whether a node is of a model
    find : ModelNo → Expression → Expression
    is : Expression → ModelNo → Expression

  -- expressions in order
  pub data Expressions : Type 0 where
    no_more : Expressions
    more : Expression → Expressions → Expressions

  -- the entries of a record that is made: keys and expressions
  pub data Members : Type 0 where
    no_members : Members
    member : List ℕ → Expression → Members → Members

mutual
  pub data Statement : Type 0 where
    set : Expression → List ℕ → Expression → Statement
    put : Expression → Expression → Expression → Statement
    push : Expression → Expression → Statement
    insert : Expression → Expression → Expression → Statement
    replace : Expression → Expression → Expression → Statement
    drop : Expression → Expression → Statement
    clear : Expression → Statement
    apply : Expression → Expression → Statement
    -- binds a name for the rest of the block
    bind : List ℕ → Expression → Statement
    -- runs one of two blocks
    choice : Expression → Statements → Statements → Statement
    -- runs a block for each walked value
    each : Expression → List ℕ → Statements → Statement
    call : Expression → List ℕ → Expressions → Statement
    -- runs the second block where the first is refused
    attempt : Statements → Statements → Statement
    throw : List ℕ → Statement

  -- a block: statements one after the other
  pub data Statements : Type 0 where
    done : Statements
    run : Statement → Statements → Statements

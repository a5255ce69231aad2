-- Views of an office, computed on examples.
use Rattle.std.proofs.Common.{◌≡◌, ℕ, List, [], ◌∷◌, Result, Ok, Err, true, false, pos, refl}
use Rattle.std.specs.Prelude.{codes}
use Rattle.snap_core.specs.Value.{Value, null, integer, text, no_members, member, Fields}
use Rattle.snap_core.specs.declared.ident.Ident.{Ident}
use Rattle.pointer_core.specs.declared.refusal.Rule.{Rule}
use Rattle.eval_core.specs.declared.cell.Cell.{Cell}
use Rattle.eval_core.specs.declared.site.Site.{Site}
use Rattle.eval_core.specs.Answer.{Answer, plain, node}
use Rattle.eval_core.specs.Run.{Run, Fault, lift, looks, counts, joined, ended, andthen, enters}
use Rattle.eval_core.specs.Asking.{Asked, asked, view_run}
use Rattle.eval_core.specs.Reads.{reads_of}
use Rattle.eval_core.proofs.Office.{model, number, view_no, viewing, sight, office, user, todo, height_body, pending_body, focused_body}

abbrev refused_as : Rule → Site → Result Answer Fault
refused_as rule site = Err (record { rule = rule; site = site })

-- an office with users alone, each with the boss that is named, none with the boss null; the nodes are 0 the office,
-- 1 the team, 2 the todos, 3 the users, and the users from 4 on
abbrev height : Fields → ℕ → Run Answer
height users n = view_run viewing (sight (office null [] users)) (number n) (view_no 0) 0

boss : List ℕ → Value
boss id = text id

-- u1 without a boss, and u2 whose boss is u1
two_users : Fields
two_users = member (codes "u1") (user (codes "u1") null) (member (codes "u2") (user (codes "u2") (boss (codes "u1"))) no_members)

-- The height of u2 is 1: 8 expressions of its own and 5 of u1, with two views in progress at once.
height-answer : (height two_users 5).outcome ≡ Ok (plain (integer (pos 1)))
unfolding two_users boss office user height_body lift looks counts joined ended andthen enters
height-answer = refl

height-entered : (height two_users 5).entered
    ≡ record { node = number 5; view = view_no 0; own = 8 } ∷ record { node = number 4; view = view_no 0; own = 5 } ∷ []
unfolding two_users boss office user height_body lift looks counts joined ended andthen enters
height-entered = refl

height-height : (height two_users 5).height ≡ 2
unfolding two_users boss office user height_body lift looks counts joined ended andthen enters
height-height = refl

-- It read the boss of u2, which user has that identifier, and the boss of u1.
height-reads : reads_of viewing (sight (office null [] two_users)) (number 5) (view_no 0)
    ≡ Cell.Prop (number 5) (codes "boss") ∷ Cell.Known (model 2) (Ident.Text (codes "u1")) ∷ Cell.Prop (number 4) (codes "boss") ∷ []
unfolding two_users boss office user height_body lift looks counts joined ended andthen enters
height-reads = refl

-- without u1 the reference has no target: it is refused where it stands
boss_gone : Fields
boss_gone = member (codes "u2") (user (codes "u2") (boss (codes "u1"))) no_members

boss_gone-answer : (height boss_gone 4).outcome ≡ refused_as Rule.Reference (Site.Entry (number 4) (codes "boss"))
unfolding boss_gone boss office user height_body lift looks counts joined ended andthen enters
boss_gone-answer = refl

-- Three users, of whom u1 and u2 are each other's boss, and u1 the boss of u3: a cycle is told of the view that is asked
-- again, wherever the asking began.
in_circles : Fields
in_circles = member (codes "u1") (user (codes "u1") (boss (codes "u2"))) (member (codes "u2") (user (codes "u2") (boss (codes "u1")))
    (member (codes "u3") (user (codes "u3") (boss (codes "u1"))) no_members))

circle-u1 : (height in_circles 4).outcome ≡ refused_as Rule.Cycle (Site.View (number 4) (view_no 0))
unfolding in_circles boss office user height_body lift looks counts joined ended andthen enters
circle-u1 = refl

circle-u2 : (height in_circles 5).outcome ≡ refused_as Rule.Cycle (Site.View (number 5) (view_no 0))
unfolding in_circles boss office user height_body lift looks counts joined ended andthen enters
circle-u2 = refl

circle-u3 : (height in_circles 6).outcome ≡ refused_as Rule.Cycle (Site.View (number 4) (view_no 0))
unfolding in_circles boss office user height_body lift looks counts joined ended andthen enters
circle-u3 = refl

-- A row of four users, each the boss of the next. With room for three views at once the height of the third is known,
-- and the fourth has too many in progress, which is told of the first one.
in_a_row : Fields
in_a_row = member (codes "c1") (user (codes "c1") null) (member (codes "c2") (user (codes "c2") (boss (codes "c1")))
    (member (codes "c3") (user (codes "c3") (boss (codes "c2"))) (member (codes "c4") (user (codes "c4") (boss (codes "c3"))) no_members)))

with_room : ℕ → ℕ → Result Answer Fault
with_room room n = (asked viewing (sight (office null [] in_a_row)) room [] (number n) (view_no 0) 0).outcome

row-c3 : with_room 3 6 ≡ Ok (plain (integer (pos 2)))
unfolding with_room in_a_row boss office user height_body lift looks counts joined ended andthen enters
row-c3 = refl

row-c4 : with_room 3 7 ≡ refused_as Rule.Deep (Site.View (number 7) (view_no 0))
unfolding with_room in_a_row boss office user height_body lift looks counts joined ended andthen enters
row-c4 = refl

-- a view that is in progress is a cycle, also where there is no room for one more
no_room : Result Answer Fault
no_room =
    let q : Asked = record { node = number 4; view = view_no 0 } in
    (asked viewing (sight (office null [] in_a_row)) 0 (q ∷ []) (number 4) (view_no 0) 0).outcome

no_room-cycle : no_room ≡ refused_as Rule.Cycle (Site.View (number 4) (view_no 0))
unfolding no_room in_a_row boss office user lift
no_room-cycle = refl

-- the todo that is in focus is a node, in one step; a focus whose todo is gone is null
focused : List ℕ → Run Answer
focused id = view_run viewing (sight (office (text id) (todo (codes "t1") false null ∷ todo (codes "t2") true null ∷ []) no_members)) (number 0) (view_no 2) 0

focused-todo : (focused (codes "t2")).outcome ≡ Ok (node (number 4))
unfolding focused office todo focused_body lift looks counts joined ended andthen enters
focused-todo = refl

focused-entered : (focused (codes "t2")).entered ≡ record { node = number 0; view = view_no 2; own = 1 } ∷ []
unfolding focused office todo focused_body lift looks counts joined ended andthen enters
focused-entered = refl

focused-gone : (focused (codes "t9")).outcome ≡ Ok (plain null)
unfolding focused office todo focused_body lift looks counts joined ended andthen enters
focused-gone = refl

-- how many todos aren't done, with what is read of each one just before the body is evaluated for it
pending : Run Answer
pending = view_run viewing (sight (office null (todo (codes "t1") false null ∷ todo (codes "t2") true null ∷ []) no_members)) (number 0) (view_no 1) 0

pending-answer : pending.outcome ≡ Ok (plain (integer (pos 1)))
unfolding pending office todo pending_body lift looks counts joined ended andthen enters
pending-answer = refl

pending-reads : pending.reads
    ≡ Cell.Prop (number 0) (codes "todos") ∷ Cell.Shape (number 2) ∷ Cell.Prop (number 3) (codes "done") ∷ Cell.Prop (number 4) (codes "done") ∷ []
unfolding pending office todo pending_body lift looks counts joined ended andthen enters
pending-reads = refl

-- The ticket in hand, from a call to its answer. Assumes nothing.
use Rattle.std.proofs.Common.{◌≡◌, ◌<◌, ◌≤◌, Some, None, Option, sym, refl, ap, ◌∙◌, subst, arith}
use Rattle.shifting.specs.Machine.{Ticket, Call, add, step, complete, withdraw, drop_rule, change_action, look_up, Answer}
use Rattle.board.specs.declared.ticket.Ticket.{Ticket as RealTicket}
use Rattle.board.specs.declared.calls.Call.{Call as RealCall}
use Rattle.board.specs.declared.calls.Call.TheVariants as calls
use Rattle.board.specs.declared.calls.Answer.{Answer as RealAnswer}
use Rattle.board.specs.declared.calls.Answer.TheVariants.{Opened, Stepped, Closed, Done, Found, Refused, HandedBack}
use Rattle.board.specs.Calls.{answer_of, returned, goes_back, on_refusal}
use Rattle.order_run.specs.Running.{ticket_after}
use Rattle.order_run.specs.Calling.{named, Good, Free, held_with, in_hand, kept, Room, count, start_of, IsWithdraw}
use Rattle.orders.specs.declared.order.Order.{Order}
use Rattle.orders.specs.declared.order.Order.TheVariants as orders
use Rattle.orders.specs.Orders.{letter_of}
use Rattle.shifting.proofs.Serving.{after_push}
use Rattle.order_run.proofs.Tickets.{Opens, opens, good_after, withdrawn}
use Rattle.board.specs.Serving.{Past, state_of, answer_to, one_more, Answers}

-- the answer to a call leaves room for the ticket that it brings, and what is then in hand is as the machine has it
abbrev pub Keeps : Call → RealAnswer → Option RealTicket → Type 0
Keeps call answer hand = Room answer hand × (named (kept answer hand) ≡ ticket_after (named hand) call (answer_of answer))

empty_hand : (hand : Option RealTicket) → hand ≡ None → named hand ≡ None
empty_hand hand e = ap named e

pub keeps : (call : Call) (answer : RealAnswer) (hand : Option RealTicket) → Free call hand → Opens call hand (answer_of answer) → returned answer ≡ goes_back call (answer_of answer) → Keeps call answer hand
keeps (add new) (Opened ticket) hand free opens back = (opens, refl)
keeps (add new) (Stepped left ticket) hand free opens back = cc
keeps (add new) (Closed count) hand free opens back = (tt, refl)
keeps (add new) Done hand free opens back = (tt, refl)
keeps (add new) (Found told) hand free opens back = (tt, refl)
keeps (add new) (Refused refusal) hand free opens back = (tt, refl)
keeps (add new) (HandedBack refusal ticket) hand free opens back = cc
keeps (step one) (Opened ticket) hand free opens back = absurd opens
keeps (step one) (Stepped left ticket) hand free opens back = (free, back)
keeps (step one) (Closed count) hand free opens back = cc
keeps (step one) Done hand free opens back = cc
keeps (step one) (Found told) hand free opens back = cc
keeps (step one) (Refused refusal) hand free opens back = cc
keeps (step one) (HandedBack refusal ticket) hand free opens back = (free, back)
keeps (complete one) (Opened ticket) hand free opens back = absurd opens
keeps (complete one) (Stepped left ticket) hand free opens back = cc
keeps (complete one) (Closed count) hand free opens back = (tt, empty_hand hand free)
keeps (complete one) Done hand free opens back = (tt, empty_hand hand free)
keeps (complete one) (Found told) hand free opens back = (tt, empty_hand hand free)
keeps (complete one) (Refused refusal) hand free opens back = cc
keeps (complete one) (HandedBack refusal ticket) hand free opens back = (free, back)
keeps (withdraw one) (Opened ticket) hand free opens back = absurd opens
keeps (withdraw one) (Stepped left ticket) hand free opens back = cc
keeps (withdraw one) (Closed count) hand free opens back = (tt, empty_hand hand free)
keeps (withdraw one) Done hand free opens back = (tt, empty_hand hand free)
keeps (withdraw one) (Found told) hand free opens back = (tt, empty_hand hand free)
keeps (withdraw one) (Refused refusal) hand free opens back = cc
keeps (withdraw one) (HandedBack refusal ticket) hand free opens back = (free, back)
keeps (drop_rule rule) (Opened ticket) hand free opens back = absurd opens
keeps (drop_rule rule) (Stepped left ticket) hand free opens back = cc
keeps (drop_rule rule) (Closed count) hand free opens back = (tt, refl)
keeps (drop_rule rule) Done hand free opens back = (tt, refl)
keeps (drop_rule rule) (Found told) hand free opens back = (tt, refl)
keeps (drop_rule rule) (Refused refusal) hand free opens back = (tt, refl)
keeps (drop_rule rule) (HandedBack refusal ticket) hand free opens back = cc
keeps (change_action rule action) (Opened ticket) hand free opens back = absurd opens
keeps (change_action rule action) (Stepped left ticket) hand free opens back = cc
keeps (change_action rule action) (Closed count) hand free opens back = (tt, refl)
keeps (change_action rule action) Done hand free opens back = (tt, refl)
keeps (change_action rule action) (Found told) hand free opens back = (tt, refl)
keeps (change_action rule action) (Refused refusal) hand free opens back = (tt, refl)
keeps (change_action rule action) (HandedBack refusal ticket) hand free opens back = cc
keeps (look_up subject) (Opened ticket) hand free opens back = absurd opens
keeps (look_up subject) (Stepped left ticket) hand free opens back = cc
keeps (look_up subject) (Closed count) hand free opens back = (tt, refl)
keeps (look_up subject) Done hand free opens back = (tt, refl)
keeps (look_up subject) (Found told) hand free opens back = (tt, refl)
keeps (look_up subject) (Refused refusal) hand free opens back = (tt, refl)
keeps (look_up subject) (HandedBack refusal ticket) hand free opens back = cc

-- A ticket in hand is at most one.

pub at_most_one : {T : Type 0} (hand : Option T) → count hand ≤ 1
at_most_one None = omega arith
at_most_one (Some ticket) = omega arith

pub fewer_in_hand : (call : Option RealCall) (hand : Option RealTicket) → count (in_hand call hand) ≤ count hand
fewer_in_hand None hand = omega arith
fewer_in_hand (Some (calls.Add new)) hand = omega arith
fewer_in_hand (Some (calls.Step ticket)) hand = omega arith
fewer_in_hand (Some (calls.Complete ticket)) hand = omega arith
fewer_in_hand (Some (calls.Withdraw ticket)) hand = omega arith
fewer_in_hand (Some (calls.DropRule rule)) hand = omega arith
fewer_in_hand (Some (calls.ChangeAction rule action)) hand = omega arith
fewer_in_hand (Some (calls.LookUp subject)) hand = omega arith

pub letter_small : (order : Order) → letter_of order < 128
letter_small (orders.Add order) = omega arith
letter_small (orders.Drop order) = omega arith
letter_small (orders.Change order) = omega arith
letter_small (orders.LookUp order) = omega arith
letter_small (orders.Step part) = omega arith
letter_small (orders.Complete part) = omega arith
letter_small (orders.Withdraw part) = omega arith

-- nothing in hand
pub named_none : (hand : Option RealTicket) → named hand ≡ None → hand ≡ None
named_none None e = refl
named_none (Some ticket) e = cc

-- An answer is heard.

pub heard_keeps : (before : Past) (call : Call) (answer : RealAnswer) (hand : Option RealTicket) → Free call hand → Good before.fixed (state_of before) (held_with call (named hand)) → Answers before call answer → Keeps call answer hand
heard_keeps before call answer hand free good answers =
    keeps call answer hand free (subst (Opens call hand) (sym answers.answered) (opens before.fixed (state_of before) call hand good)) answers.back

pub heard_good : (before : Past) (call : Call) (answer : RealAnswer) (hand hand' : Option RealTicket) → Good before.fixed (state_of before) (held_with call (named hand)) → Answers before call answer
    → named hand' ≡ ticket_after (named hand) call (answer_of answer) → Good before.fixed (state_of (one_more before call)) (named hand')
heard_good before call answer hand hand' good answers is =
    let fixed = before.fixed in
    subst (Good fixed (state_of (one_more before call))) (sym (is ∙ ap (ticket_after (named hand) call) answers.answered))
    (subst (λ state. Good fixed state (ticket_after (named hand) call (answer_to before call))) (sym (after_push fixed before.calls (start_of before) call))
    (good_after fixed (state_of before) call (named hand) good))

-- the withdraw at the end leaves nothing in hand
pub last_heard : (before : Past) (call : Call) (answer : Answer) (ticket : Option Ticket) → IsWithdraw call → Good before.fixed (state_of before) (held_with call ticket) → answer ≡ answer_to before call → ticket_after ticket call answer ≡ None
last_heard before (add new) answer ticket last good is = absurd last
last_heard before (step one) answer ticket last good is = absurd last
last_heard before (complete one) answer ticket last good is = absurd last
last_heard before (withdraw one) answer ticket last good is = ap (on_refusal one) is ∙ withdrawn before.fixed (state_of before) one good
last_heard before (drop_rule rule) answer ticket last good is = absurd last
last_heard before (change_action rule action) answer ticket last good is = absurd last
last_heard before (look_up subject) answer ticket last good is = absurd last

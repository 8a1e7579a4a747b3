-- Calls and answers with real tickets, as the machine has them: a ticket is what it names. Assumes nothing.
use Rattle.std.specs.Prelude.{ℕ, Some, None, Ok, Err, Option, Result}
use Rattle.shifting.specs.Machine.{Ticket, Call, Answer, add, step, complete, withdraw, drop_rule, change_action, look_up, opened, counted, done, found, refused}
use Rattle.board.specs.declared.calls.Call.{Call as RealCall}
use Rattle.board.specs.declared.calls.Call.TheVariants.{Add, Step, Complete, Withdraw, DropRule, ChangeAction, LookUp}
use Rattle.board.specs.declared.calls.Answer.{Answer as RealAnswer}
use Rattle.board.specs.declared.calls.Answer.TheVariants.{Opened, Stepped, Closed, Done, Found, Refused, HandedBack}
use Rattle.board.specs.declared.board.Returned.{Returned as RealReturned}
use Rattle.turns.specs.Shown.{ticket_of}

abbrev pub call_of : RealCall → Call
call_of (Add new) = add new
call_of (Step ticket) = step (ticket_of ticket.named)
call_of (Complete ticket) = complete (ticket_of ticket.named)
call_of (Withdraw ticket) = withdraw (ticket_of ticket.named)
call_of (DropRule rule) = drop_rule rule
call_of (ChangeAction rule action) = change_action rule action
call_of (LookUp subject) = look_up subject

abbrev pub answer_of : RealAnswer → Answer
answer_of (Opened ticket) = opened (ticket_of ticket.named)
answer_of (Stepped left ticket) = counted left
answer_of (Closed count) = counted count
answer_of Done = done
answer_of (Found told) = found told
answer_of (Refused refusal) = refused refusal
answer_of (HandedBack refusal ticket) = refused refusal

-- Tickets that go back to the caller.

-- the ticket inside an answer, unless an add has just opened it
abbrev pub returned : RealAnswer → Option Ticket
returned (Opened ticket) = None
returned (Stepped left ticket) = Some (ticket_of ticket.named)
returned (Closed count) = None
returned Done = None
returned (Found told) = None
returned (Refused refusal) = None
returned (HandedBack refusal ticket) = Some (ticket_of ticket.named)

-- the ticket that a complete or a withdraw refuses
abbrev pub refused_ticket : Result ℕ RealReturned → Option Ticket
refused_ticket (Ok count) = None
refused_ticket (Err back) = Some (ticket_of back.ticket.named)

abbrev pub on_refusal : Ticket → Answer → Option Ticket
on_refusal ticket (opened other) = None
on_refusal ticket (counted count) = None
on_refusal ticket done = None
on_refusal ticket (found told) = None
on_refusal ticket (refused refusal) = Some ticket

-- a step gives its ticket back; a complete and a withdraw do so only when they refuse it
abbrev pub goes_back : Call → Answer → Option Ticket
goes_back (add new) answer = None
goes_back (step ticket) answer = Some ticket
goes_back (complete ticket) answer = on_refusal ticket answer
goes_back (withdraw ticket) answer = on_refusal ticket answer
goes_back (drop_rule rule) answer = None
goes_back (change_action rule action) answer = None
goes_back (look_up subject) answer = None

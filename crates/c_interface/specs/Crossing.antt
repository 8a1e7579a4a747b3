-- Calls and answers as C has them: which call of the machine a call record names, how an answer record tells the machine's answer,
-- and what a call does to the records or words that C lends. Assumes nothing.
use Rattle.std.specs.Prelude.{◌≡◌, ◌≢◌, ℕ, cond, List, [], Some, None, Option, ◌==◌}
use Rattle.rules.specs.declared.rule.Rule.{Rule}
use Rattle.rules.specs.declared.event.Event.{Event}
use Rattle.rules.specs.declared.refusal.Refusal.TheVariants.{StrangeLetter}
use Rattle.rules.specs.declared.device.SlotDevice.{Ghosts}
use Rattle.rules.specs.Kinds.{KindMeaning}
use Rattle.rules.specs.Refusals.{number}
use Rattle.rules.specs.Slots.{untraced, all_after}
use Rattle.kinds.specs.DialRules.{dial_meaning}
use Rattle.kinds.specs.PacketRules.{packet_meaning}
use Rattle.record_bank.specs.Records.{bank_slots}
use Rattle.chip_image.specs.Chip.{chip_slots}
use Rattle.shifting.specs.Machine.{Ticket, Call, add, step, complete, withdraw, drop_rule, change_action, look_up}
use Rattle.shifting.specs.Machine.{Answer, opened, counted, done, found, refused, Fixed, State, turn}
use Rattle.shifting.specs.Slots.{Slot}
use Rattle.job.specs.declared.named.Named.{Named}
use Rattle.job.specs.declared.job.Job.{Job}
use Rattle.turns.specs.Shown.{Seen, seen, shown, Shows, Reached, fixed_by, ticket_of}
use Rattle.board.specs.Past.{past, answer_to}
use Rattle.board.specs.Led.{LedBy, Led, LedOn}
use Rattle.c_interface.specs.declared.forms.CallRecord.{CallRecord}
use Rattle.c_interface.specs.declared.forms.AnswerRecord.{AnswerRecord}

-- the call that a record names by its letter, one of A, S, E, W, D, C and L
abbrev pub call_of : CallRecord → Option Call
call_of call =
    cond (call.letter == 0x41) (Some (add call.rule))
    (cond (call.letter == 0x53) (Some (step (ticket_of call.ticket)))
    (cond (call.letter == 0x45) (Some (complete (ticket_of call.ticket)))
    (cond (call.letter == 0x57) (Some (withdraw (ticket_of call.ticket)))
    (cond (call.letter == 0x44) (Some (drop_rule call.rule.number))
    (cond (call.letter == 0x43) (Some (change_action call.rule.number call.rule.action))
    (cond (call.letter == 0x4C) (Some (look_up call.subject)) None))))))

-- what C is told of a ticket
abbrev pub named_by : Ticket → Named
named_by ticket = record { board = ticket.board; rule = ticket.rule; length = ticket.length }

abbrev pub no_ticket : Named
no_ticket = record { board = 0; rule = 0; length = 0 }

-- an answer without a ticket
abbrev pub telling : ℕ → ℕ → ℕ → AnswerRecord
telling refusal value number = record { refusal = refusal; value = value; number = number; ticket = no_ticket }

-- how a record tells the machine's answer
abbrev pub told_by : Answer → AnswerRecord
told_by (opened ticket) = record { refusal = 0; value = ticket.length; number = 0; ticket = named_by ticket }
told_by (counted count) = telling 0 count 0
told_by done = telling 0 0 0
told_by (found None) = telling 0 0 0
told_by (found (Some (rule, action))) = telling 0 action rule
told_by (refused refusal) = telling (number refusal) 0 0

-- What a call record does to a board. A letter that names no call is refused, and nothing changes.
abbrev pub Strange : {Memory : Type 0} → AnswerRecord → Seen Memory → Seen Memory → Type 0
Strange answer before behind = (answer ≡ told_by (refused StrangeLetter)) × (behind ≡ before)

-- Any other takes the machine's turn, whatever state the board shows before the call: the record tells the machine's answer, the board
-- shows the machine's next state, and the lent memory is what the machine's writes and erases make of it.
abbrev pub Tells : {Memory : Type 0} → Fixed → (Memory → Event → Memory) → Option Call → AnswerRecord → Seen Memory → Seen Memory → Type 0
Tells fixed stored None answer before behind = Strange answer before behind
Tells fixed stored (Some call) answer before behind =
    (state : State) → Reached fixed state → Shows before state
    → (answer ≡ told_by (turn fixed state call).answer) × Shows behind (turn fixed state call).next × (behind.memory ≡ all_after stored before.memory (turn fixed state call).events)

-- A refused call leaves the job as it was, also what means nothing while no add is open: it is the caller's memory.
abbrev pub RefusedKeeps : AnswerRecord → Job → Job → Type 0
RefusedKeeps answer before behind = answer.refusal ≢ 0 → behind ≡ before

-- And for every list of calls that led to the board since it was opened, whatever it was opened on: the record tells the machine's answer,
-- the longer list leads to the board that is left, with all its memory, and the law holds of that list.
abbrev pub Obeys : {Memory : Type 0} → Fixed → (Memory → Event → Memory) → Option Call → AnswerRecord → Seen Memory → Seen Memory → Type 0
Obeys fixed stored None answer before behind = Strange answer before behind
Obeys fixed stored (Some call) answer before behind =
    (slots : List Slot) (trace : ℕ) (calls : List Call) → LedBy (past fixed slots trace calls) before
    → (answer ≡ told_by (answer_to (past fixed slots trace calls) call)) × LedOn stored (past fixed slots trace calls) call (answer_to (past fixed slots trace calls) call) before behind

-- A board that has just been opened, under any number: each slot was erased once, and no call was made yet. It is not unfolded by itself,
-- so that a proof finds it again as it stands.
unfoldable pub Opens : {Memory : Type 0} → (ℕ → Fixed) → (Memory → Event → Memory) → Seen Memory → Seen Memory → Type 0
Opens fixed stored before behind = (board : ℕ) → Led stored before.memory (past (fixed board) before.slots before.trace []) behind

-- The same of any device.

abbrev pub TellsOf : {D K : Type 0} → KindMeaning → Ghosts D K → ℕ → CallRecord → AnswerRecord → D → Job → D → Job → Type 0
TellsOf kind g board call answer device job device' job' =
    Tells (fixed_by kind g.traced board) g.stored (call_of call) answer (shown g device job) (shown g device' job')

abbrev pub ObeysOf : {D K : Type 0} → KindMeaning → Ghosts D K → ℕ → CallRecord → AnswerRecord → D → Job → D → Job → Type 0
ObeysOf kind g board call answer device job device' job' =
    Obeys (fixed_by kind g.traced board) g.stored (call_of call) answer (shown g device job) (shown g device' job')

abbrev pub OpensOf : {D K : Type 0} → KindMeaning → Ghosts D K → D → Job → D → Job → Type 0
OpensOf kind g device job device' job' = Opens (fixed_by kind g.traced) g.stored (shown g device job) (shown g device' job')

-- The two boards that C can have: a dial board on records, and a packet board on chip words. Neither keeps a trace.

abbrev pub dial_fixed : ℕ → Fixed
dial_fixed board = fixed_by dial_meaning untraced board

abbrev pub packet_fixed : ℕ → Fixed
packet_fixed board = fixed_by packet_meaning untraced board

abbrev pub dial_board : List Rule → Job → Seen (List Rule)
dial_board records job = seen (bank_slots records) 0 records job

abbrev pub packet_board : List ℕ → Job → Seen (List ℕ)
packet_board words job = seen (chip_slots words) 0 words job

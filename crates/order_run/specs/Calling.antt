-- What the caller that walks an order file holds to, between calls, while it waits and at its end: no public contract cites it.
-- Assumes nothing.
use Rattle.std.specs.Prelude.{◌≡◌, ℕ, ◌+◌, ◌-◌, ◌*◌, ◌<◌, ◌≤◌, Bool, true, false, List, [], ◌∷◌, ◌++◌, length, Some, None, Ok, Err, string_bytes, Option, Result}
use Rattle.std.specs.declared.alloc.AllocError.{AllocError}
use Rattle.shifting.specs.Machine.{Ticket, Call, add, step, complete, withdraw, drop_rule, change_action, look_up, Job, State, Fixed, cleared, names}
use Rattle.board.specs.declared.ticket.Ticket.{Ticket as RealTicket}
use Rattle.board.specs.declared.calls.Call.{Call as RealCall}
use Rattle.board.specs.declared.calls.Call.TheVariants.{Add, Step, Complete, Withdraw, DropRule, ChangeAction, LookUp}
use Rattle.board.specs.declared.calls.Answer.{Answer as RealAnswer}
use Rattle.board.specs.declared.calls.Answer.TheVariants.{Opened, Stepped, Closed, Done, Found, Refused, HandedBack}
use Rattle.turns.specs.Shown.{ticket_of}
use Rattle.board.specs.Calls.{call_of}
use Rattle.board.specs.Serving.{Past, state_of, answer_to}
use Rattle.orders.specs.Orders.{Entry}
use Rattle.order_reader.proofs.Files.{Sofar}
use Rattle.order_run.specs.declared.caller.OrderCaller.{OrderCaller}
use Rattle.order_run.specs.declared.caller.Head.{Head}
use Rattle.order_run.specs.declared.caller.Stage.{Stage}
use Rattle.order_run.specs.declared.caller.Stage.TheVariants.{Reading, Ended, Failed}
use Rattle.order_run.specs.Lines.{answer_line}
use Rattle.order_run.specs.Running.{Run, begun, ticket_after, closing, all_orders, file_run}

-- Tickets.

-- what a ticket in hand names
abbrev pub named : Option RealTicket → Option Ticket
named None = None
named (Some ticket) = Some (ticket_of ticket.named)

-- a ticket in hand names the open add
abbrev pub Good : Fixed → State → Option Ticket → Type 0
Good fixed state None = Unit {0}
Good fixed state (Some ticket) = (job : Job) × (state.job ≡ Some job) × (names fixed state ticket job ≡ true)

-- a call takes its ticket along
abbrev pub Free : {T : Type 0} → Call → Option T → Type 0
Free (add new) hand = Unit {0}
Free (step ticket) hand = hand ≡ None
Free (complete ticket) hand = hand ≡ None
Free (withdraw ticket) hand = hand ≡ None
Free (drop_rule rule) hand = Unit {0}
Free (change_action rule action) hand = Unit {0}
Free (look_up subject) hand = Unit {0}

-- the ticket in hand, or the one that the call took along
abbrev pub held_with : Call → Option Ticket → Option Ticket
held_with (add new) hand = hand
held_with (step ticket) hand = Some ticket
held_with (complete ticket) hand = Some ticket
held_with (withdraw ticket) hand = Some ticket
held_with (drop_rule rule) hand = hand
held_with (change_action rule action) hand = hand
held_with (look_up subject) hand = hand

-- the call that an order makes, as the machine has it
abbrev pub asked : Option RealCall → Option Call
asked None = None
asked (Some call) = Some (call_of call)

-- what stays in hand when a call is made
abbrev pub in_hand : Option RealCall → Option RealTicket → Option RealTicket
in_hand None hand = hand
in_hand (Some (Add new)) hand = hand
in_hand (Some (Step ticket)) hand = None
in_hand (Some (Complete ticket)) hand = None
in_hand (Some (Withdraw ticket)) hand = None
in_hand (Some (DropRule rule)) hand = hand
in_hand (Some (ChangeAction rule action)) hand = hand
in_hand (Some (LookUp subject)) hand = hand

-- a ticket that an answer brings is kept
abbrev pub kept : RealAnswer → Option RealTicket → Option RealTicket
kept (Opened ticket) hand = Some ticket
kept (Stepped left ticket) hand = Some ticket
kept (Closed count) hand = hand
kept Done hand = hand
kept (Found told) hand = hand
kept (Refused refusal) hand = hand
kept (HandedBack refusal ticket) hand = Some ticket

-- and there is room for it: no other is in hand, which would fall
abbrev pub Room : RealAnswer → Option RealTicket → Type 0
Room (Opened ticket) hand = hand ≡ None
Room (Stepped left ticket) hand = hand ≡ None
Room (Closed count) hand = Unit {0}
Room Done hand = Unit {0}
Room (Found told) hand = Unit {0}
Room (Refused refusal) hand = Unit {0}
Room (HandedBack refusal ticket) hand = hand ≡ None

-- The run so far.

abbrev pub start_of : Past → State
start_of before = cleared before.fixed before.slots before.trace

abbrev pub so_far : Past → Option Ticket → List ℕ → Run
so_far before ticket text = record { calls = before.calls; ticket = ticket; text = text }

-- the run with the answer to the call that is waited for
abbrev pub run_heard : Past → Call → Head → Option Ticket → List ℕ → Run
run_heard before call head ticket text =
    record { calls = before.calls ++ call ∷ []; ticket = ticket_after ticket call (answer_to before call); text = text ++ answer_line head.letter head.place (answer_to before call) }

-- the run of the file's first orders, up to the reader's offset
pub record Reaches (before : Past) (input : List ℕ) (offset : ℕ) (run : Run) : Type 0 where
  pub orders : List Entry
  pub read : Sofar input orders offset
  pub is : run ≡ all_orders before.fixed (start_of before) begun orders

-- one order more is read
pub record Begins (before : Past) (input : List ℕ) (offset : ℕ) (hand : Option RealTicket) (text : List ℕ) (order : Entry) : Type 0 where
  pub orders : List Entry
  pub read : Sofar input (orders ++ order ∷ []) offset
  pub is : so_far before (named hand) text ≡ all_orders before.fixed (start_of before) begun orders

-- the calls and the lines of the whole file
pub record Finishes (before : Past) (input : List ℕ) (calls : List Call) (text : List ℕ) : Type 0 where
  pub calls_are : calls ≡ (file_run before.fixed (start_of before) input).calls
  pub text_is : text ≡ (file_run before.fixed (start_of before) input).text

-- Between calls.

abbrev pub HoldsIn : Stage → Past → (input : List ℕ) (offset : ℕ) → Option Ticket → (text : List ℕ) → Type 0
HoldsIn Reading before input offset ticket text = Reaches before input offset (so_far before ticket text)
HoldsIn Ended before input offset ticket text = Finishes before input (before.calls ++ closing ticket) text
HoldsIn Failed before input offset ticket text = Unit {0}

pub record Holds (caller : OrderCaller) (before : Past) : Type 0 where
  pub idle : caller.head ≡ None
  pub good : Good before.fixed (state_of before) (named caller.ticket)
  pub told : HoldsIn caller.stage before caller.reader.input.now caller.reader.offset (named caller.ticket) (string_bytes caller.text)

-- with an order that is read, and not yet run
pub record HoldsWith (caller : OrderCaller) (before : Past) (order : Entry) : Type 0 where
  pub idle : caller.head ≡ None
  pub good : Good before.fixed (state_of before) (named caller.ticket)
  pub reading : caller.stage ≡ Reading
  pub begins : Begins before caller.reader.input.now caller.reader.offset caller.ticket (string_bytes caller.text) order

-- While it waits.

abbrev pub IsWithdraw : Call → Type 0
IsWithdraw (add new) = ⊥
IsWithdraw (step ticket) = ⊥
IsWithdraw (complete ticket) = ⊥
IsWithdraw (withdraw ticket) = Unit {0}
IsWithdraw (drop_rule rule) = ⊥
IsWithdraw (change_action rule action) = ⊥
IsWithdraw (look_up subject) = ⊥

-- at the end, and where memory fails, only a withdraw is waited for, and it has no line
abbrev pub WaitsFor : Option Head → Stage → Past → Call → (input : List ℕ) (offset : ℕ) → Option Ticket → (text : List ℕ) → Type 0
WaitsFor None Reading before call input offset ticket text = ⊥
WaitsFor None Ended before call input offset ticket text = IsWithdraw call × Finishes before input (before.calls ++ call ∷ []) text
WaitsFor None Failed before call input offset ticket text = IsWithdraw call
WaitsFor (Some head) Reading before call input offset ticket text = (head.letter < 128) × Reaches before input offset (run_heard before call head ticket text)
WaitsFor (Some head) Ended before call input offset ticket text = ⊥
WaitsFor (Some head) Failed before call input offset ticket text = ⊥

pub record Waits (caller : OrderCaller) (before : Past) (call : Call) : Type 0 where
  pub free : Free call caller.ticket
  pub good : Good before.fixed (state_of before) (held_with call (named caller.ticket))
  pub told : WaitsFor caller.head caller.stage before call caller.reader.input.now caller.reader.offset (named caller.ticket) (string_bytes caller.text)

-- At the end.

abbrev pub EndsIn : Stage → Past → (input : List ℕ) (text : List ℕ) → Type 0
EndsIn Reading before input text = ⊥
EndsIn Ended before input text = Finishes before input before.calls text
EndsIn Failed before input text = Unit {0}

pub record Ends (caller : OrderCaller) (before : Past) : Type 0 where
  pub empty : caller.ticket ≡ None
  pub told : EndsIn caller.stage before caller.reader.input.now (string_bytes caller.text)

-- What memory that fails leaves open.
abbrev pub Unless : Stage → Type 0 → Type 0
Unless Reading fact = fact
Unless Ended fact = fact
Unless Failed fact = Unit {0}

-- A number that falls with each call: bytes are left, or a ticket is in hand, or an answer is awaited.

abbrev pub count : {T : Type 0} → Option T → ℕ
count None = 0
count (Some one) = 1

abbrev pub open_ends : OrderCaller → ℕ
open_ends caller = count caller.ticket + count caller.head

abbrev pub calls_left : OrderCaller → ℕ
calls_left caller = 2 * (length caller.reader.input.now - caller.reader.offset) + open_ends caller

-- and one that falls with each turn of reading
abbrev pub reading_left : Stage → ℕ
reading_left Reading = 1
reading_left Ended = 0
reading_left Failed = 0

abbrev pub turns_left : OrderCaller → ℕ
turns_left caller = length caller.reader.input.now - caller.reader.offset + reading_left caller.stage

-- no more calls are left, and fewer after a call
abbrev pub Falls : ℕ → ℕ → Option RealCall → Type 0
Falls old new None = new ≤ old
Falls old new (Some call) = new < old

abbrev pub is_reading : Stage → Bool
is_reading Reading = true
is_reading Ended = false
is_reading Failed = false

-- A caller at its start, and what it gives at its end.

pub record Fresh (input : List ℕ) (caller : OrderCaller) : Type 0 where
  pub bytes : caller.reader.input.now ≡ input
  pub offset : caller.reader.offset ≡ 0
  pub stage : caller.stage ≡ Reading
  pub ticket : caller.ticket ≡ None
  pub head : caller.head ≡ None
  pub text : string_bytes caller.text ≡ []

abbrev pub text_of : {Text : Type 0} → Stage → Text → Result Text AllocError
text_of Reading text = Err (record {})
text_of Ended text = Ok text
text_of Failed text = Err (record {})

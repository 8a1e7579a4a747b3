-- An order file run on the machine: the calls that its orders make, and the lines that tell the answers. Assumes nothing.
use Rattle.std.specs.Prelude.{◌≡◌, ℕ, cond, List, [], ◌∷◌, ◌++◌, IfOk, Some, None, Ok, Err, Option, Result, ◌==◌}
use Rattle.rules.specs.declared.rule.Rule.{Rule}
use Rattle.rules.specs.declared.event.Event.{Event}
use Rattle.rules.specs.declared.refusal.Refusal.TheVariants.{Foreign}
use Rattle.rules.specs.declared.device.SlotDevice.{Ghosts}
use Rattle.rules.specs.Kinds.{KindMeaning}
use Rattle.rules.specs.Slots.{all_after}
use Rattle.shifting.specs.Slots.{Slot}
use Rattle.shifting.specs.Machine.{Ticket, Call, add, step, complete, withdraw, drop_rule, change_action, look_up, Answer, opened, counted, done, found, refused, State, Fixed, cleared, turn, after, run_events}
use Rattle.shifting.specs.Law.{LawOfRun}
use Rattle.turns.specs.Shown.{fixed_by}
use Rattle.board.specs.Calls.{on_refusal}
use Rattle.orders.specs.Layout.{number_in, priority_in, new_action_in, other_action_in, word_a_in, word_b_in, subject_in}
use Rattle.orders.specs.Orders.{Entry}
use Rattle.order_reader.specs.File.{Ending, cut_file}
use Rattle.order_run.specs.Lines.{answer_line}

-- Orders as calls.

abbrev pub rule_in : List ℕ → Rule
rule_in bytes =
    record { number = number_in bytes; priority = priority_in bytes; action = new_action_in bytes; word_a = word_a_in bytes; word_b = word_b_in bytes }

-- without a ticket there is no call
abbrev pub with_ticket : (Ticket → Call) → Option Ticket → Option Call
with_ticket call None = None
with_ticket call (Some ticket) = Some (call ticket)

-- A, D, C and L bring what they need; S, E and, last, W take the ticket that is held
abbrev pub call_in : Entry → (held : Option Ticket) → Option Call
call_in order held =
    cond (order.letter == 0x41) (Some (add (rule_in order.bytes)))
    (cond (order.letter == 0x44) (Some (drop_rule (number_in order.bytes)))
    (cond (order.letter == 0x43) (Some (change_action (number_in order.bytes) (other_action_in order.bytes)))
    (cond (order.letter == 0x4C) (Some (look_up (subject_in order.bytes)))
    (cond (order.letter == 0x53) (with_ticket step held)
    (cond (order.letter == 0x45) (with_ticket complete held)
    (with_ticket withdraw held))))))

-- The ticket that is held after an answer.

abbrev pub opened_or : (held : Option Ticket) → Answer → Option Ticket
opened_or held (opened ticket) = Some ticket
opened_or held (counted count) = held
opened_or held done = held
opened_or held (found told) = held
opened_or held (refused refusal) = held

-- a complete or a withdraw that is refused leaves its ticket
abbrev pub ticket_after : (held : Option Ticket) → Call → Answer → Option Ticket
ticket_after held (add new) answer = opened_or held answer
ticket_after held (step ticket) answer = Some ticket
ticket_after held (complete ticket) answer = on_refusal ticket answer
ticket_after held (withdraw ticket) answer = on_refusal ticket answer
ticket_after held (drop_rule rule) answer = held
ticket_after held (change_action rule action) answer = held
ticket_after held (look_up subject) answer = held

-- a run so far: the calls made, the ticket that is held, and the lines
pub record Run : Type 0 where
  pub calls : List Call
  pub ticket : Option Ticket
  pub text : List ℕ

abbrev pub begun : Run
begun = record { calls = []; ticket = None; text = [] }

-- a damaged order has a line of its own, with a question mark for its letter
abbrev pub ending_line : (place : ℕ) → Ending → List ℕ
ending_line place (Ok tt) = []
ending_line place (Err refusal) = answer_line 0x3F place (refused refusal)

-- a ticket that is open at the end is withdrawn without a line
abbrev pub closing : Option Ticket → List Call
closing None = []
closing (Some ticket) = withdraw ticket ∷ []

-- on a board that was cleared
module _ (fixed : Fixed) (start : State) where
  abbrev pub answer_after : List Call → Call → Answer
  answer_after calls call = (turn fixed (after fixed start calls) call).answer

  -- an order without its ticket is refused as a foreign ticket is, and makes no call
  abbrev pub made_by : Run → Entry → Option Call → Run
  made_by run order None =
      record { calls = run.calls; ticket = run.ticket; text = run.text ++ answer_line order.letter order.place (refused Foreign) }
  made_by run order (Some call) =
      let answer = answer_after run.calls call in
      record { calls = run.calls ++ call ∷ []; ticket = ticket_after run.ticket call answer; text = run.text ++ answer_line order.letter order.place answer }

  abbrev pub one_order : Run → Entry → Run
  one_order run order = made_by run order (call_in order run.ticket)

  abbrev pub all_orders : Run → List Entry → Run
  all_orders run [] = run
  all_orders run (order ∷ orders) = all_orders (one_order run order) orders

  -- a whole file, to its end or to a damaged order
  abbrev pub file_run : List ℕ → Run
  file_run input =
      let cut = cut_file input in
      let run = all_orders begun cut.entries in
      record { calls = run.calls ++ closing run.ticket; ticket = None; text = run.text ++ ending_line cut.place cut.ending }

-- A whole run on a device: slots and trace are the machine's after the calls that were made, the memory lent to the device is what
-- the machine's writes and erases make of it, and the law holds of these calls. Where there was memory for the text, calls and text are those of the file.
pub record Ran {Text Error Memory : Type 0} (fixed : Fixed) (stored : Memory → Event → Memory) (slots : List Slot) (trace : ℕ) (memory : Memory) (input : List ℕ) (bytes : Text → List ℕ) (answer : Result Text Error) (slots' : List Slot) (trace' : ℕ) (memory' : Memory) : Type 0 where
  pub calls : List Call
  pub slots_are : slots' ≡ (after fixed (cleared fixed slots trace) calls).slots
  pub trace_is : trace' ≡ (after fixed (cleared fixed slots trace) calls).trace
  pub memory_is : memory' ≡ all_after stored memory (run_events fixed slots trace calls)
  pub law : LawOfRun fixed slots trace calls
  pub whole : IfOk answer (λ text. (calls ≡ (file_run fixed (cleared fixed slots trace) input).calls) × (bytes text ≡ (file_run fixed (cleared fixed slots trace) input).text))

-- the same of this device, under a board with this kind of rule and this number
abbrev pub RanOn : {Text Error D K : Type 0} → KindMeaning → Ghosts D K → (number : ℕ) → (input : List ℕ) (bytes : Text → List ℕ) (answer : Result Text Error) (before behind : D) → Type 0
RanOn kind g number input bytes answer before behind =
    Ran (fixed_by kind g.traced number) g.stored (g.slots before) (g.trace before) (g.memory before) input bytes answer (g.slots behind) (g.trace behind) (g.memory behind)

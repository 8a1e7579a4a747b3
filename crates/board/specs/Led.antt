-- The law on each call of a board. Assumes nothing.
use Rattle.std.specs.Prelude.{◌≡◌, ℕ, List, [], Ok, Err, Result}
use Rattle.std.specs.List.{AllByRecursion}
use Rattle.rules.specs.declared.event.Event.{Event}
use Rattle.rules.specs.declared.refusal.Refusal.{Refusal}
use Rattle.rules.specs.declared.device.SlotDevice.{Ghosts}
use Rattle.rules.specs.Kinds.{KindMeaning}
use Rattle.rules.specs.Slots.{all_after}
use Rattle.shifting.specs.Slots.{Slot}
use Rattle.shifting.specs.Machine.{Call, Answer, opened, counted, refused, Fixed}
use Rattle.shifting.specs.Law.{Sized, LawOfRun}
use Rattle.turns.specs.Shown.{Seen, Shows, shown, fixed_by, ticket_of}
use Rattle.board.specs.declared.ticket.Ticket.{Ticket}
use Rattle.board.specs.declared.board.Board.{Board}
use Rattle.board.specs.declared.board.Returned.{Returned}
use Rattle.board.specs.Past.{Past, past, past_of, one_more, state_of, answer_to, events_in}

abbrev pub LawOfPast : Past → Type 0
LawOfPast before = LawOfRun before.fixed before.slots before.trace before.calls

-- a board that this past led to
pub record LedBy {Memory : Type 0} (before : Past) (board : Seen Memory) : Type 0 where
  pub sized : AllByRecursion Sized before.calls
  pub shows : Shows board (state_of before)

-- the same over a device whose memory was this before it was cleared: all writes and erases since then are in it
pub record Led {Memory : Type 0} (stored : Memory → Event → Memory) (memory : Memory) (before : Past) (board : Seen Memory) : Type 0 where
  pub by : LedBy before board
  pub lent : board.memory ≡ all_after stored memory (events_in before)

-- one more call: its answer is the machine's, the longer past led to the board that it leaves, with all its memory, and the law holds of that past
pub record LedOn {Memory : Type 0} (stored : Memory → Event → Memory) (before : Past) (call : Call) (answer : Answer) (board behind : Seen Memory) : Type 0 where
  pub answered : answer ≡ answer_to before call
  pub led : LedBy (one_more before call) behind
  pub lent : (memory : Memory) → Led stored memory before board → Led stored memory (one_more before call) behind
  pub law : LawOfPast (one_more before call)

-- for every list of calls that led to the board, from whatever device was cleared
abbrev pub Lawfully : {Memory : Type 0} → Fixed → (Memory → Event → Memory) → Call → Answer → Seen Memory → Seen Memory → Type 0
Lawfully fixed stored call answer before behind =
    (slots : List Slot) (trace : ℕ) (calls : List Call) → LedBy (past fixed slots trace calls) before → LedOn stored (past fixed slots trace calls) call answer before behind

-- what can be seen of a board
abbrev pub face : {D K : Type 0} (g : Ghosts D K) → Board D → Seen g.Lent
face g board = shown g board.device.now board.job

-- a board over a device that has just been cleared
abbrev pub Opened : {D K : Type 0} → KindMeaning → Ghosts D K → (number : ℕ) → D → Board D → Type 0
Opened kind g number device board = Led g.stored (g.memory device) (past_of kind g number device []) (face g board)

-- a lawful call with this answer, from one board to the next
abbrev pub Obeys : {D K : Type 0} → KindMeaning → Ghosts D K → Call → Answer → Board D → Board D → Type 0
Obeys kind g call answer before behind = Lawfully (fixed_by kind g.traced before.number) g.stored call answer (face g before) (face g behind)

-- what no call changes: the number, whose device it is, and whose memory the device has
pub record Same {D K : Type 0} (g : Ghosts D K) (before behind : Board D) : Type 0 where
  pub number : behind.number ≡ before.number
  pub device : behind.device.ghost_name ≡ before.device.ghost_name
  pub lenders : g.lenders behind.device.now ≡ g.lenders before.device.now

-- Answers with real tickets.

abbrev pub ticketed : Result Ticket Refusal → Answer
ticketed (Ok ticket) = opened (ticket_of ticket.named)
ticketed (Err refusal) = refused refusal

abbrev pub spent : Result ℕ Returned → Answer
spent (Ok count) = counted count
spent (Err back) = refused back.refusal

-- a refused ticket is handed back
abbrev pub HandedBack : Ticket → Result ℕ Returned → Type 0
HandedBack ticket (Ok count) = Unit {0}
HandedBack ticket (Err back) = back.ticket ≡ ticket

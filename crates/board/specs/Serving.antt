-- Serving a caller: what it and the board know of the calls made so far. Assumes nothing.
use Rattle.std.specs.Prelude.{◌≡◌, ℕ, ◌<◌, List, Some, None, Option}
use Rattle.rules.specs.declared.device.SlotDevice.{Ghosts}
use Rattle.rules.specs.Kinds.{KindMeaning}
use Rattle.rules.specs.Slots.{all_after}
use Rattle.shifting.specs.Machine.{Call}
use Rattle.board.specs.declared.calls.Call.{Call as RealCall}
use Rattle.board.specs.declared.calls.Answer.{Answer as RealAnswer}
use Rattle.board.specs.Calls.{call_of, answer_of, returned, goes_back}
use Rattle.board.specs.Led.{LawOfPast}
pub use Rattle.board.specs.Past.{Past, past, past_of, one_more, state_of, answer_to, events_in}

abbrev pub MachineCall : Type 0
MachineCall = Call

-- an answer to that call: the machine's, and with the call's own ticket where one goes back
pub record Answers (before : Past) (call : Call) (answer : RealAnswer) : Type 0 where
  pub answered : answer_of answer ≡ answer_to before call
  pub back : returned answer ≡ goes_back call (answer_of answer)

-- what a caller holds to, between calls and at its end
abbrev pub Between : Type 0 → Type 1
Between C = C → Past → Type 0

-- and while it waits for the answer to a call
abbrev pub Waiting : Type 0 → Type 1
Waiting C = C → Past → Call → Type 0

-- a caller has issued a call and waits, or it has ended
abbrev pub Asks : {C : Type 0} → Waiting C → Between C → C → Past → Option RealCall → Type 0
Asks waits ended caller before None = ended caller before
Asks waits ended caller before (Some call) = waits caller before (call_of call)

-- each call leaves a caller with fewer
abbrev pub Fewer : ℕ → ℕ → Option RealCall → Type 0
Fewer old new None = Unit {0}
Fewer old new (Some call) = new < old

-- what a caller reads its calls off, and how it is found in the caller
pub record Reads (C : Type 0) : Type 1 where
  pub Script : Type 0
  pub of : C → Script

-- off this of the caller
abbrev pub reads_off : {C Script : Type 0} → (C → Script) → Reads C
reads_off {C} {Script} of = record { Script = Script; of = of }

-- off nothing
abbrev pub reads_nothing : {C : Type 0} → Reads C
reads_nothing = reads_off (λ caller. tt {0})

-- A whole run over a device: the calls that were made, of which the caller knows; the device's slots and trace are the machine's after them;
-- the memory lent to the device is what the machine's writes and erases made of it; and the law holds of them.
pub record Served {C D K : Type 0} (ended : Between C) (kind : KindMeaning) (g : Ghosts D K) (number : ℕ) (before behind : D) (caller : C) : Type 0 where
  pub calls : List Call
  pub ends : ended caller (past_of kind g number before calls)
  pub slots_are : g.slots behind ≡ (state_of (past_of kind g number before calls)).slots
  pub trace_is : g.trace behind ≡ (state_of (past_of kind g number before calls)).trace
  pub memory_is : g.memory behind ≡ all_after g.stored (g.memory before) (events_in (past_of kind g number before calls))
  pub law : LawOfPast (past_of kind g number before calls)

-- What has happened to a board since it was opened. Assumes nothing.
use Rattle.std.specs.Prelude.{ℕ, List, [], ◌∷◌, ◌++◌}
use Rattle.rules.specs.declared.event.Event.{Event}
use Rattle.rules.specs.declared.device.SlotDevice.{Ghosts}
use Rattle.rules.specs.Kinds.{KindMeaning}
use Rattle.shifting.specs.Slots.{Slot}
use Rattle.shifting.specs.Machine.{Call, Answer, State, Fixed, cleared, turn, after, run_events}
use Rattle.turns.specs.Shown.{fixed_by}

-- a device with these slots and this trace was cleared, and these calls were made since
pub record Past : Type 0 where
  pub fixed : Fixed
  pub slots : List Slot
  pub trace : ℕ
  pub calls : List Call

abbrev pub past : Fixed → List Slot → ℕ → List Call → Past
past fixed slots trace calls = record { fixed = fixed; slots = slots; trace = trace; calls = calls }

-- the same of this device, under a board with this kind of rule and this number
abbrev pub past_of : {D K : Type 0} → KindMeaning → Ghosts D K → (number : ℕ) → D → List Call → Past
past_of kind g number device calls = past (fixed_by kind g.traced number) (g.slots device) (g.trace device) calls

abbrev pub one_more : Past → Call → Past
one_more before call = past before.fixed before.slots before.trace (before.calls ++ call ∷ [])

abbrev pub state_of : Past → State
state_of before = after before.fixed (cleared before.fixed before.slots before.trace) before.calls

-- the machine's answer to one call more
abbrev pub answer_to : Past → Call → Answer
answer_to before call = (turn before.fixed (state_of before) call).answer

-- all single writes and erases since the opening, with its own
abbrev pub events_in : Past → List Event
events_in before = run_events before.fixed before.slots before.trace before.calls

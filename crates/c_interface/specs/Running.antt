-- Order files run from C: what is refused, what is answered, and what is left of the lent memory and of the buffer. Assumes nothing.
use Rattle.std.specs.Prelude.{◌≡◌, ℕ, ◌+◌, ◌-◌, ◌*◌, ◌/◌, ◌^◌, ◌<◌, ◌≤◌, min, cond, List, ◌++◌, length, drop, ℤ, pos, negsuc, Ok, Err, Result, nat_lt}
use Rattle.rules.specs.declared.rule.Rule.{Rule}
use Rattle.rules.specs.declared.event.Event.{Event}
use Rattle.rules.specs.declared.device.SlotDevice.{Ghosts}
use Rattle.rules.specs.Kinds.{KindMeaning}
use Rattle.record_bank.specs.Records.{bank_slots}
use Rattle.chip_image.specs.Chip.{chip_slots}
use Rattle.shifting.specs.Slots.{Slot}
use Rattle.shifting.specs.Machine.{Fixed}
use Rattle.turns.specs.Shown.{fixed_by}
use Rattle.order_run.specs.Running.{Ran}
use Rattle.c_interface.specs.declared.running.Failure.{Failure}
use Rattle.c_interface.specs.declared.running.Failure.TheVariants.{Long, Short, Memory}

-- the longest order file, in bytes
abbrev pub longest : ℕ
longest = 32768

-- bytes that hold all lines: 22 for each three bytes of orders and for a damaged end, as far as a size can tell
abbrev pub room : ℕ → ℕ
room orders = min (22 * (orders / 3 + 1)) (2 ^ 64 - 1)

-- the board's number in a run
abbrev pub run_board : ℕ
run_board = 1

abbrev pub long : ℤ
long = negsuc 0

abbrev pub short : ℤ
short = negsuc 1

abbrev pub no_memory : ℤ
no_memory = negsuc 2

-- a failure as C has it, and a run's answer
abbrev pub code : Failure → ℤ
code Long = long
code Short = short
code Memory = no_memory

abbrev pub answered : Result ℤ Failure → ℤ
answered (Ok length) = length
answered (Err failure) = code failure

-- the bytes of a run's lines, or that memory failed for them
abbrev pub Text : Type 0
Text = Result (List ℕ) (Unit {0})

-- lines that do not fit count as memory that failed
abbrev pub fitting : ℕ → List ℕ → Text
fitting space bytes = cond (nat_lt space (length bytes)) (Err tt) (Ok bytes)

abbrev pub fitted : {Lines Error : Type 0} → ℕ → (Lines → List ℕ) → Result Lines Error → Text
fitted space bytes (Ok lines) = fitting space (bytes lines)
fitted space bytes (Err error) = Err tt

-- how many bytes were written
abbrev pub told_length : Text → ℤ
told_length (Ok text) = pos (length text)
told_length (Err tt) = no_memory

-- a buffer begins with the text, and is behind it as it was
abbrev pub written_over : Text → List ℕ → List ℕ
written_over (Ok text) lines = text ++ drop (length text) lines
written_over (Err tt) lines = lines

-- All that is lent to a run: a device, by what can be seen of it, and the buffer for the lines.
pub record Loans (Memory : Type 0) : Type 0 where
  pub slots : List Slot
  pub trace : ℕ
  pub memory : Memory
  pub lines : List ℕ

abbrev pub loans : {Memory : Type 0} → List Slot → ℕ → Memory → List ℕ → Loans Memory
loans slots trace memory lines = record { slots = slots; trace = trace; memory = memory; lines = lines }

abbrev pub dial_loans : List Rule → (lines : List ℕ) → Loans (List Rule)
dial_loans records lines = loans (bank_slots records) 0 records lines

abbrev pub packet_loans : List ℕ → (lines : List ℕ) → Loans (List ℕ)
packet_loans words lines = loans (chip_slots words) 0 words lines

-- A file that was run: there is a text, or memory failed; the run is the machine's, under the law; the answer tells the text's length,
-- and the buffer begins with it.
pub record RanInto {Memory : Type 0} (fixed : Fixed) (stored : Memory → Event → Memory) (orders : List ℕ) (answer : ℤ) (before behind : Loans Memory) : Type 0 where
  pub text : Text
  pub ran : Ran fixed stored before.slots before.trace before.memory orders (λ (bytes : List ℕ). bytes) text behind.slots behind.trace behind.memory
  pub answered : answer ≡ told_length text
  pub lines_are : behind.lines ≡ written_over text before.lines

-- Too many orders and too short a buffer are refused before anything is touched; every other file is run.
pub record Runs {Memory : Type 0} (fixed : Fixed) (stored : Memory → Event → Memory) (orders : List ℕ) (answer : ℤ) (before behind : Loans Memory) : Type 0 where
  pub too_long : longest < length orders → (answer ≡ long) × (behind ≡ before)
  pub too_short : length orders ≤ longest → length before.lines < room (length orders) → (answer ≡ short) × (behind ≡ before)
  pub runs : length orders ≤ longest → room (length orders) ≤ length before.lines → RanInto fixed stored orders answer before behind

-- the same of any device
abbrev pub RunsOn : {D K : Type 0} → KindMeaning → Ghosts D K → (orders : List ℕ) → ℤ → D → (lines : List ℕ) → D → (lines' : List ℕ) → Type 0
RunsOn kind g orders answer device lines device' lines' =
    Runs (fixed_by kind g.traced run_board) g.stored orders answer (loans (g.slots device) (g.trace device) (g.memory device) lines) (loans (g.slots device') (g.trace device') (g.memory device') lines')

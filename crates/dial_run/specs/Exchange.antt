-- What the exchange's program prints for an order file. Assumes nothing.
use Rattle.std.specs.Prelude.{ℕ, cond, List, [], ◌∷◌, length, None, codes, nat_lt}
use Rattle.rules.specs.Slots.{untraced}
use Rattle.kinds.specs.DialRules.{dial_meaning}
use Rattle.shifting.specs.Slots.{Slot}
use Rattle.shifting.specs.Machine.{Fixed, cleared}
use Rattle.turns.specs.Shown.{fixed_by}
use Rattle.order_run.specs.Running.{file_run}

-- a dial board with number 1, over a device that keeps no trace
abbrev pub dial_board : Fixed
dial_board = fixed_by dial_meaning untraced 1

abbrev pub six_empty : List Slot
six_empty = None ∷ None ∷ None ∷ None ∷ None ∷ None ∷ []

-- the lines of a run on six slots
abbrev pub lines_on_six : List ℕ → List ℕ
lines_on_six input = (file_run dial_board (cleared dial_board six_empty 0) input).text

-- all that the program prints: a file of more than 32,768 bytes is not run
abbrev pub printed : List ℕ → List ℕ
printed input = cond (nat_lt 32768 (length input)) (codes "long\n") (lines_on_six input)

-- Which of two devices a slot of their pair is in. Assumes nothing.
use Rattle.std.specs.Prelude.{ℕ, ◌+◌, ◌-◌, cond, List, length, None, Err, Option, Result, nat_le, nat_lt}
use Rattle.std.specs.Option.{option_map}
use Rattle.rules.specs.declared.rule.Rule.{Rule}
use Rattle.rules.specs.declared.refusal.Refusal.{Refusal}
use Rattle.rules.specs.declared.refusal.Refusal.TheVariants.{OffTheTable}
use Rattle.rules.specs.declared.event.Event.{Event}
use Rattle.rules.specs.Slots.{Slot, writing}
use Rattle.pair.specs.declared.half.Half.{Half}
use Rattle.pair.specs.declared.half.Half.TheVariants.{First, Second}

-- by the counts of the two; a slot past the end of both is in the second, or in the first where that is alone
abbrev pub half_of : ℕ → ℕ → ℕ → Half
half_of first second slot = cond (nat_lt slot first) (First slot) (cond (nat_le (first + second) 65535) (Second (slot - first)) (First slot))

-- What a call comes to on each half, by what it comes to on a device with so many slots. The half that is not called stays as
-- it is, as by a refusal.

abbrev pub outcome_first : (ℕ → ℕ → Result Event Refusal) → ℕ → Half → Result Event Refusal
outcome_first outcome count (First slot) = outcome count slot
outcome_first outcome count (Second slot) = Err OffTheTable

abbrev pub outcome_second : (ℕ → ℕ → Result Event Refusal) → ℕ → Half → Result Event Refusal
outcome_second outcome count (First slot) = Err OffTheTable
outcome_second outcome count (Second slot) = outcome count slot

abbrev pub outcome_half : (ℕ → ℕ → Result Event Refusal) → ℕ → ℕ → Half → Result Event Refusal
outcome_half outcome first second (First slot) = outcome first slot
outcome_half outcome first second (Second slot) = outcome second slot

abbrev pub writing_of : Rule → ℕ → ℕ → Result Event Refusal
writing_of rule count slot = writing count slot rule

-- What a call to a slot of the pair comes to, by the slots of both devices: on the device that the slot is in, on the first
-- device, and on the second.

abbrev pub on_half : (ℕ → ℕ → Result Event Refusal) → List Slot → List Slot → ℕ → Result Event Refusal
on_half outcome first second slot = outcome_half outcome (length first) (length second) (half_of (length first) (length second) slot)

abbrev pub on_first : (ℕ → ℕ → Result Event Refusal) → List Slot → List Slot → ℕ → Result Event Refusal
on_first outcome first second slot = outcome_first outcome (length first) (half_of (length first) (length second) slot)

abbrev pub on_second : (ℕ → ℕ → Result Event Refusal) → List Slot → List Slot → ℕ → Result Event Refusal
on_second outcome first second slot = outcome_second outcome (length second) (half_of (length first) (length second) slot)

-- a first match of the second device, by its number in the pair; none where the slots of both do not fit
abbrev pub match_in_second : ℕ → ℕ → Option ℕ → Option ℕ
match_in_second count count-second found = cond (nat_le (count + count-second) 65535) (option_map (λ slot. count + slot) found) None

-- The record bank: slot i is the caller's record i. Assumes nothing.
use Rattle.std.specs.Prelude.{ℕ, List, map, take, slice_set}
use Rattle.rules.specs.declared.rule.Rule.{Rule}
use Rattle.rules.specs.declared.event.Event.{Event}
use Rattle.rules.specs.declared.event.Event.TheVariants.{Write, Erase}
use Rattle.rules.specs.Slots.{Slot, in_slot}

-- what the caller lends
abbrev pub LentRecords : Type 0
LentRecords = List Rule

abbrev pub most_slots : ℕ
most_slots = 480

-- every record is a slot, up to the first 480
abbrev pub bank_slots : List Rule → List Slot
bank_slots records = map in_slot (take most_slots records)

-- an erased record
abbrev pub zero_record : Rule
zero_record = record { number = 0; priority = 0; action = 0; word_a = 0; word_b = 0 }

-- the caller's records after an event: one changes, and no other
abbrev pub record_changed : List Rule → Event → List Rule
record_changed records (Write slot rule) = slice_set records slot rule
record_changed records (Erase slot) = slice_set records slot zero_record

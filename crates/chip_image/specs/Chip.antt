-- The chip image: slots by addresses. Assumes nothing.
use Rattle.std.specs.Prelude.{ℕ, List, map, length, slice_index, slice_set}
use Rattle.std.specs.List.{range_with_len}
use Rattle.rules.specs.declared.rule.Rule.{Rule}
use Rattle.rules.specs.declared.event.Event.{Event}
use Rattle.rules.specs.declared.event.Event.TheVariants.{Write, Erase}
use Rattle.rules.specs.Slots.{Slot, in_slot}
use Rattle.chip_image.specs.Layout.{address_count, address, header_place, word_a_place, word_b_place, header, unpacked}

-- what the caller lends
abbrev pub LentWords : Type 0
LentWords = List ℕ

abbrev pub record_at : List ℕ → ℕ → Rule
record_at words q = unpacked (slice_index words (header_place q)) (slice_index words (word_a_place q)) (slice_index words (word_b_place q))

abbrev pub chip_count : List ℕ → ℕ
chip_count words = address_count (length words)

-- what stands in a slot
abbrev pub chip_slot : List ℕ → ℕ → Slot
chip_slot words slot = in_slot (record_at words (address (chip_count words) slot))

abbrev pub chip_slots : List ℕ → List Slot
chip_slots words = map (chip_slot words) (range_with_len 0 (chip_count words))

-- the three words of an address change, and no other
abbrev pub row_changed : List ℕ → ℕ → ℕ → ℕ → ℕ → List ℕ
row_changed words q h a b = slice_set (slice_set (slice_set words (header_place q) h) (word_a_place q) a) (word_b_place q) b

-- the caller's words after an event
abbrev pub chip_changed : List ℕ → Event → List ℕ
chip_changed words (Write slot rule) = row_changed words (address (chip_count words) slot) (header rule) rule.word_a rule.word_b
chip_changed words (Erase slot) = row_changed words (address (chip_count words) slot) 0 0 0

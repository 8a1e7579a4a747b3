-- The slots of a chip image, by the words. Assumes nothing.
use Rattle.std.proofs.Common.{◌≡◌, ℕ, ◌<◌, ◌≢◌, List, length, get_or, set, None, ap, ◌∙◌, ⊎_elim, arith, length-set, get_or-set_other, get_or-set_same}
use Rattle.std.proofs.lemmas.List.FromFn.{length-map-range_with_len, get_or-map-range_with_len}
use Rattle.std.proofs.lemmas.List.{ext_get_or}
use Rattle.std.proofs.lemmas.Grind.{common_steps}
use Rattle.std.proofs.lemmas.Bool.{cases_eq}
use Rattle.rules.specs.Slots.{in_slot}
use Rattle.chip_image.specs.Layout.{address_count, address, word_b_place, unpacked}
use Rattle.chip_image.specs.Chip.{record_at, chip_count, chip_slot, chip_slots, row_changed}

pub length_chip : (words : List ℕ) → length (chip_slots words) ≡ chip_count words
length_chip words = length-map-range_with_len (chip_slot words) 0 (chip_count words)

pub chip_at : (words : List ℕ) (slot : ℕ) → slot < chip_count words → get_or (chip_slots words) slot None ≡ chip_slot words slot
chip_at words slot below = get_or-map-range_with_len (chip_slot words) 0 (chip_count words) slot slot None below (omega arith)

-- A row is changed: three words have new values, the words of every other address the old ones.
module _ (words : List ℕ) (q h a b : ℕ) where
  length_row : length (row_changed words q h a b) ≡ length words
  length_row = simp length-set

  row_same : word_b_place q < length words → record_at (row_changed words q h a b) q ≡ unpacked h a b
  row_same within = grind (arith, common_steps)

  row_other : (r : ℕ) → r ≢ q → record_at (row_changed words q h a b) r ≡ record_at words r
  row_other r apart = grind (arith, common_steps)

-- One row changes, and one slot with it.
module _ (words : List ℕ) (slot h a b : ℕ) (below : slot < chip_count words) where
  abbrev changed : List ℕ
  changed = row_changed words (address (chip_count words) slot) h a b

  same_count : chip_count changed ≡ chip_count words
  same_count = ap address_count (length_row words (address (chip_count words) slot) h a b)

  slot_same : chip_slot changed slot ≡ in_slot (unpacked h a b)
  slot_same =
      ap (λ n. in_slot (record_at changed (address n slot))) same_count ∙ ap in_slot (row_same words (address (chip_count words) slot) h a b (omega arith))

  slot_other : (k : ℕ) → k < chip_count words → k ≢ slot → chip_slot changed k ≡ chip_slot words k
  slot_other k inside apart =
      ap (λ n. in_slot (record_at changed (address n k))) same_count
      ∙ ap in_slot (row_other words (address (chip_count words) slot) h a b (address (chip_count words) k) (omega arith))

  pub row_carried : chip_slots changed ≡ set (chip_slots words) slot (in_slot (unpacked h a b))
  row_carried =
      let held = in_slot (unpacked h a b) in
      let whole = length_chip changed in
      let before = length_chip words in
      let count = same_count in
      let after = length-set (chip_slots words) slot held in
      ext_get_or None (chip_slots changed) (set (chip_slots words) slot held) (omega arith)
      (λ k inside.
      let here = chip_at changed k (omega arith) in
      ⊎_elim
      (λ is.
      let new = slot_same in
      let stands = get_or-set_same (chip_slots words) slot held None (omega arith) in
      cc)
      (λ apart.
      let old = slot_other k (omega arith) apart in
      let stands = get_or-set_other (chip_slots words) slot k held None apart in
      let there = chip_at words k (omega arith) in
      cc)
      (cases_eq k slot))

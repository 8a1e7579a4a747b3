-- The slots of a record bank, by the records. Assumes nothing.
use Rattle.std.proofs.Common.{◌≡◌, ℕ, ◌<◌, List, map, length, get_or, take, set, min, None, ap, ◌∙◌, arith, length-take}
use lib.ListN.{length-map}
use Rattle.std.proofs.Math.Nat.{min_comm}
use lib.Seq.{take-set-lt}
use Rattle.std.proofs.lemmas.List.{get_or-map, get_or-take, map-set}
use Rattle.rules.specs.declared.rule.Rule.{Rule}
use Rattle.rules.specs.Slots.{in_slot}
use Rattle.record_bank.specs.Records.{bank_slots, most_slots}

pub length_bank : (records : List Rule) → length (bank_slots records) ≡ min (length records) most_slots
length_bank records = length-map (take most_slots records) in_slot ∙ length-take most_slots records ∙ min_comm most_slots (length records)

pub bank_at : (records : List Rule) (slot : ℕ) (d : Rule) → slot < length (bank_slots records) → get_or (bank_slots records) slot None ≡ in_slot (get_or records slot d)
bank_at records slot d below =
    let whole = length_bank records in
    let inside : slot < length (take most_slots records) = omega (arith, length-map (take most_slots records) in_slot) in
    get_or-map in_slot (take most_slots records) slot d None inside ∙ ap in_slot (get_or-take most_slots records slot d (omega arith))

pub bank_set : (records : List Rule) (slot : ℕ) (rule : Rule) → slot < length (bank_slots records) → bank_slots (set records slot rule) ≡ set (bank_slots records) slot (in_slot rule)
bank_set records slot rule below =
    let whole = length_bank records in
    ap (map in_slot) (take-set-lt most_slots records slot rule (omega arith)) ∙ map-set in_slot (take most_slots records) slot rule

-- What stands in the slots of a device over records. Assumes nothing.
use Rattle.std.proofs.Common.{◌≡◌, ℕ, ◌+◌, ◌-◌, ◌<◌, ◌≤◌, min, cond, leb, List, ◌++◌, map, length, get_or, take, Some, None, sym, refl, ◌∙◌, ⊎_elim, arith, length-append, length-take}
use lib.ListN.{length-map}
use Rattle.std.proofs.lemmas.Bool.{cond-false, ne_eqb, cases_lt, cond_both, leb-true}
use Rattle.std.proofs.lemmas.List.FromFn.{length-map-range_with_len, get_or-map-range_with_len}
use Rattle.std.specs.List.{range_with_len}
use Rattle.std.proofs.lemmas.List.{get_or-map, get_or_past, get_or_append_left, get_or-append_right}
use Rattle.std.proofs.lemmas.Bool.Decides.{nat_tests}
use Rattle.rules.specs.declared.rule.Rule.{Rule}
use Rattle.rules.specs.Slots.{Slot, SlotLaws, in_slot}

abbrev nothing : Rule
nothing = record { number = 0; priority = 0; action = 0; word_a = 0; word_b = 0 }

pub in_slot_taken : (rule : Rule) → (rule.number ≡ 0 → ⊥) → in_slot rule ≡ Some rule
in_slot_taken rule numbered = cond-false _ _ _ (ne_eqb rule.number 0 numbered)

-- what stands for a rule has that rule's number, and it is not 0
in_slot_numbered : (held rule : Rule) → in_slot held ≡ Some rule → rule.number ≡ 0 → ⊥
in_slot_numbered held rule is none = grind (arith, nat_tests)

-- slots that stand for records are lawful, if they are not too many
records_lawful : (slots : List Slot) (held : ℕ → Rule) → length slots ≤ 65535 → ((slot : ℕ) → slot < length slots → get_or slots slot None ≡ in_slot (held slot)) → SlotLaws slots
records_lawful slots held few stands = record {
  few = few;
  numbered = λ slot rule taken none.
      ⊎_elim (λ below. in_slot_numbered (held slot) rule (sym (stands slot below) ∙ taken) none)
      (λ past. let empty = get_or_past slots slot None past in cc)
      (cases_lt slot (length slots));
}

pub first_records_lawful : (most : ℕ) (records : List Rule) → most ≤ 65535 → SlotLaws (map in_slot (take most records))
first_records_lawful most records few =
    let first = take most records in
    let whole : length (map in_slot first) ≡ min most (length records) = length-map first in_slot ∙ length-take most records in
    records_lawful (map in_slot first) (λ slot. get_or first slot nothing) (omega arith)
    (λ slot below. get_or-map in_slot first slot nothing None (omega (arith, length-map first in_slot)))

pub counted_records_lawful : (held : ℕ → Rule) (count : ℕ) → count ≤ 65535 → SlotLaws (map (λ slot. in_slot (held slot)) (range_with_len 0 count))
counted_records_lawful held count few =
    let stands = λ (slot : ℕ). in_slot (held slot) in
    let whole = length-map-range_with_len stands 0 count in
    records_lawful (map stands (range_with_len 0 count)) held (omega arith)
    (λ slot below. get_or-map-range_with_len stands 0 count slot slot None (omega arith) (omega arith))

append_lawful : (first second : List Slot) → SlotLaws first → SlotLaws second → length first + length second ≤ 65535 → SlotLaws (first ++ second)
append_lawful first second lawful lawful-second few = record {
  few = omega (arith, length-append first second);
  numbered = λ slot rule taken none.
      ⊎_elim (λ below. lawful.numbered slot rule (sym (get_or_append_left first second None slot below) ∙ taken) none)
      (λ past. lawful-second.numbered (slot - length first) rule (sym (get_or-append_right first second (length first) slot None refl past) ∙ taken) none)
      (cases_lt slot (length first));
}

-- two lists of slots, or the first alone where they are too many
pub joined_lawful : (first second : List Slot) → SlotLaws first → SlotLaws second → SlotLaws (cond (leb (length first + length second) 65535) (first ++ second) first)
joined_lawful first second lawful lawful-second =
    cond_both (leb (length first + length second) 65535) (first ++ second) first SlotLaws
    (λ fit. append_lawful first second lawful lawful-second (leb-true _ _ fit)) (λ over. lawful)

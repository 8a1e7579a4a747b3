-- Rules in slots: their order, the span of a new rule, the reach of a taken slot, downward chains, and the first match.
-- Slots are numbered from 0, and slot 0 wins. Assumes nothing.
--
-- An example with dial patterns and their priorities: slot 0 has 1X at 40, slot 1 has 2X at 30, slot 2 has 10 at 20, slot 3 is empty.
-- 1X meets 10, so the order is right as long as every copy of 1X stands before every copy of 10. The reaches of the taken slots are 2, 3 and 3.
-- A new ! at 50 meets all three with the higher priority: its span is slot 0 alone. Its downward chains are 0, 1, 3 and 0, 2, 3 and 0, 1, 2, 3,
-- and the jump rule gives 0, 1, 3: then 2X goes to slot 3, 1X to slot 1, and last of all ! to slot 0.
use Rattle.std.specs.Prelude.{◌≡◌, ℕ, zero, suc, ◌-◌, ◌<◌, ◌≤◌, min, Bool, true, false, not, ◌&&◌, ◌≢◌, List, [], ◌∷◌, length, Some, None, ◌==◌, nat_lt, slice_index_or}
use Rattle.rules.specs.declared.rule.Rule.{Rule}
use Rattle.rules.specs.declared.event.Event.{Event}
use Rattle.rules.specs.Kinds.{KindMeaning}
pub use Rattle.rules.specs.Slots.{Slot, carried_out}
use Rattle.shifting.specs.Chains.{scan, past, some_below, Chain, jump}

-- what stands in a slot; past the last slot nothing does
abbrev pub at : List Slot → ℕ → Slot
at slots i = slice_index_or slots i None

-- whether a slot is taken by a rule that passes a test
abbrev pub holds : (Rule → Bool) → Slot → Bool
holds passes None = false
holds passes (Some rule) = passes rule

abbrev pub empty : Slot → Bool
empty slot = not (holds (λ rule. true) slot)

abbrev pub is_empty : List Slot → ℕ → Bool
is_empty slots i = empty (at slots i)

-- how many slots are taken
abbrev pub taken : List Slot → ℕ
taken [] = zero
taken (None ∷ others) = taken others
taken (Some rule ∷ others) = suc (taken others)

-- only the first 480 slots of a device are used
abbrev pub usable : List Slot → ℕ
usable slots = min (length slots) 480

abbrev pub all_carried_out : List Slot → List Event → List Slot
all_carried_out slots [] = slots
all_carried_out slots (event ∷ events) = all_carried_out (carried_out slots event) events

module _ (kind : KindMeaning) where
  abbrev pub matches : Rule → ℕ → Bool
  matches rule subject = kind.matches rule.word_a rule.word_b subject

  abbrev pub slot_matches : ℕ → Slot → Bool
  slot_matches subject = holds (λ rule. matches rule subject)

  abbrev pub meets : Rule → Rule → Bool
  meets rule other = kind.meets rule.word_a rule.word_b other.word_a other.word_b

  -- two meeting rules with different numbers, the first with the higher priority
  pub record Over (rule other : Rule) : Type 0 where
    pub meet : meets rule other ≡ true
    pub higher : other.priority < rule.priority
    pub apart : rule.number ≢ other.number

  -- the order in the slots: every copy of a rule stands before every copy of a rule that it is over
  abbrev pub RightOrder : List Slot → Type 0
  RightOrder slots = (i j : ℕ) (rule other : Rule) → at slots i ≡ Some rule → at slots j ≡ Some other → Over rule other → i < j

  -- Tests of a new rule against a slot: is it taken by a meeting rule with higher, lower or equal priority?

  abbrev pub above : Rule → Slot → Bool
  above new = holds (λ rule. meets new rule && nat_lt new.priority rule.priority)

  abbrev pub below : Rule → Slot → Bool
  below new = holds (λ rule. meets new rule && nat_lt rule.priority new.priority)

  abbrev pub level : Rule → Slot → Bool
  level new = holds (λ rule. meets new rule && rule.priority == new.priority)

  -- a slot whose rule meets the rule in this one and has another number
  abbrev pub clashes : Slot → Slot → Bool
  clashes slot other = holds (λ rule. holds (λ later. meets rule later && not (rule.number == later.number)) other) slot

  module _ (slots : List Slot) where
    -- The span of a new rule: low is one past the last slot whose rule meets it with higher priority, or 0;
    -- high is the first slot whose rule meets it with lower priority, or the last slot.

    abbrev pub low : Rule → ℕ
    low new = past (λ i. above new (at slots i)) (usable slots)

    abbrev pub high : Rule → ℕ
    high new = min (usable slots - 1) (scan (λ i. below new (at slots i)) 0 (usable slots))

    -- with no slot at all there is no span
    pub record InSpan (new : Rule) (slot : ℕ) : Type 0 where
      pub from_low : low new ≤ slot
      pub to_high : slot ≤ high new
      pub within : slot < usable slots

    -- a meeting rule of higher priority stands in a later slot than one of lower priority
    abbrev pub crossed : Rule → Bool
    crossed new = some_below (λ j. above new (at slots j) && some_below (λ i. below new (at slots i)) j) (usable slots)

    abbrev pub tied : Rule → Bool
    tied new = some_below (λ i. level new (at slots i)) (usable slots)

    -- no empty slot from low to the last one
    abbrev pub no_slot : Rule → Bool
    no_slot new = not (nat_lt (scan (is_empty slots) (low new) (usable slots - low new)) (usable slots))

    -- the first later slot whose rule has another number and meets the rule in this slot, or the last slot
    abbrev pub reach : ℕ → ℕ
    reach i = min (usable slots - 1) (scan (λ j. clashes (at slots i) (at slots j)) (suc i) (usable slots - suc i))

    -- a downward chain of a new rule: a chain whose first slot lies in the span
    abbrev pub DownwardChain : Rule → List ℕ → Type 0
    DownwardChain new [] = ⊥
    DownwardChain new (slot ∷ others) = InSpan new slot × Chain (is_empty slots) reach slot others

    -- the chain that the jump rule gives
    abbrev pub jump_chain : Rule → List ℕ
    jump_chain new = jump (is_empty slots) reach (usable slots) (low new) (high new)

    -- what stands in the first slot whose rule matches, or nothing
    abbrev pub first_match : ℕ → Slot
    first_match subject = at slots (scan (λ i. slot_matches subject (at slots i)) 0 (length slots))

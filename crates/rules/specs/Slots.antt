-- The slots of a device, numbered from 0, and what each call does with them. Assumes nothing.
use Rattle.std.specs.Prelude.{◌≡◌, ℕ, zero, suc, ◌<◌, ◌≤◌, Bool, false, cond, List, [], ◌∷◌, length, Some, None, Ok, Err, Option, Result, ◌==◌, ◌≢◌, nat_lt, slice_index_or, slice_set}
use Rattle.rules.specs.declared.rule.Rule.{Rule}
use Rattle.rules.specs.declared.refusal.Refusal.{Refusal}
use Rattle.rules.specs.declared.refusal.Refusal.TheVariants.{Mangled, OffTheTable}
use Rattle.rules.specs.declared.event.Event.{Event}
use Rattle.rules.specs.declared.event.Event.TheVariants.{Write, Erase}
use Rattle.rules.specs.Kinds.{KindMeaning}

-- empty, or taken by a rule
abbrev pub Slot : Type 0
Slot = Option Rule

-- the slot that a record stands for: number 0 is an empty one, whatever else the record holds
abbrev pub in_slot : Rule → Slot
in_slot rule = cond (rule.number == 0) None (Some rule)

-- what holds of the slots of every device
pub record SlotLaws (slots : List Slot) : Type 0 where
  pub few : length slots ≤ 65535
  -- no rule in a slot has number 0
  pub numbered : (slot : ℕ) (rule : Rule) → slice_index_or slots slot None ≡ Some rule → rule.number ≢ 0

abbrev pub reading : List Slot → ℕ → Result Slot Refusal
reading slots slot = cond (nat_lt slot (length slots)) (Ok (slice_index_or slots slot None)) (Err OffTheTable)

-- What a write and what an erase come to on a device with so many slots: one event, or a refusal, and of two refusals the
-- one with the smaller number.

abbrev pub erasing : ℕ → ℕ → Result Event Refusal
erasing count slot = cond (nat_lt slot count) (Ok (Erase slot)) (Err OffTheTable)

abbrev pub writing : ℕ → ℕ → Rule → Result Event Refusal
writing count slot rule = cond (rule.number == 0) (Err Mangled) (cond (nat_lt slot count) (Ok (Write slot rule)) (Err OffTheTable))

-- an event that a device with so many slots can carry out
abbrev pub Possible : ℕ → Event → Type 0
Possible count (Write slot rule) = (slot < count) × (rule.number ≢ 0)
Possible count (Erase slot) = slot < count

abbrev pub answer : Result Event Refusal → Result (Unit {0}) Refusal
answer (Ok event) = Ok tt
answer (Err refusal) = Err refusal

-- the slots once an event is carried out
abbrev pub carried_out : List Slot → Event → List Slot
carried_out slots (Write slot rule) = slice_set slots slot (Some rule)
carried_out slots (Erase slot) = slice_set slots slot None

-- what a call leaves of slots, trace or memory, by what an event makes of them: a refusal changes nothing
abbrev pub after : {State : Type 0} → (State → Event → State) → State → Result Event Refusal → State
after step state (Ok event) = step state event
after step state (Err refusal) = state

-- the same by a whole list of events
abbrev pub all_after : {State : Type 0} → (State → Event → State) → State → List Event → State
all_after step state [] = state
all_after step state (event ∷ events) = all_after step (step state event) events

-- the rule of a trace that stays 0, whatever is carried out
abbrev pub untraced : ℕ → Event → ℕ
untraced trace event = 0

abbrev pub slot_matches : KindMeaning → ℕ → Slot → Bool
slot_matches kind subject None = false
slot_matches kind subject (Some rule) = kind.matches rule.word_a rule.word_b subject

-- the first place that passes a test, or the list's length
abbrev pub first_place : {X : Type 0} → (X → Bool) → List X → ℕ
first_place passes [] = zero
first_place passes (x ∷ xs) = cond (passes x) zero (suc (first_place passes xs))

-- a place of a list, unless it is past the end
abbrev pub place_within : ℕ → ℕ → Option ℕ
place_within count place = cond (nat_lt place count) (Some place) None

-- the lowest slot whose rule matches, or none
abbrev pub first_match : KindMeaning → List Slot → ℕ → Option ℕ
first_match kind slots subject = place_within (length slots) (first_place (slot_matches kind subject) slots)

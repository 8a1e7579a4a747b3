-- Two lists of slots as one. Assumes nothing.
use Rattle.std.specs.Prelude.{ℕ, ◌+◌, ◌-◌, cond, List, ◌++◌, length, nat_le, nat_lt}
use Rattle.rules.specs.declared.event.Event.{Event}
use Rattle.rules.specs.declared.event.Event.TheVariants.{Write, Erase}
use Rattle.rules.specs.Slots.{Slot}

-- the first's slots, then the second's; or the first's alone, if there are more than 65,535 together
abbrev pub joined : List Slot → List Slot → List Slot
joined first second = cond (nat_le (length first + length second) 65535) (first ++ second) first

-- the memory that is lent to both devices, and how many slots the first has
pub record BothLent (X Y : Type 0) : Type 0 where
  pub split : ℕ
  pub first : X
  pub second : Y

abbrev pub both_lent : {X Y : Type 0} → List Slot → X → Y → BothLent X Y
both_lent slots first second = record { split = length slots; first = first; second = second }

abbrev pub event_slot : Event → ℕ
event_slot (Write slot rule) = slot
event_slot (Erase slot) = slot

-- an event as the second device carries it out
abbrev pub lowered : ℕ → Event → Event
lowered split (Write slot rule) = Write (slot - split) rule
lowered split (Erase slot) = Erase (slot - split)

-- an event changes the memory of the one device that its slot is in
abbrev pub both_stored : {X Y : Type 0} → (X → Event → X) → (Y → Event → Y) → BothLent X Y → Event → BothLent X Y
both_stored stored stored-second both event =
    cond (nat_lt (event_slot event) both.split)
    (record { split = both.split; first = stored both.first event; second = both.second })
    (record { split = both.split; first = both.first; second = stored-second both.second (lowered both.split event) })

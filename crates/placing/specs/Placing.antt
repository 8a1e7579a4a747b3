-- What an add is told of its place. Assumes nothing.
use Rattle.std.specs.Prelude.{◌≡◌, ℕ, ◌-◌, Bool, cond, not, List, length, take, Ok, Err, Result, nat_lt}
use Rattle.rules.specs.declared.rule.Rule.{Rule}
use Rattle.rules.specs.declared.refusal.Refusal.{Refusal}
use Rattle.rules.specs.declared.refusal.Refusal.TheVariants.{Tied, Crossed, NoSlot}
use Rattle.rules.specs.Kinds.{KindMeaning}
use Rattle.shifting.specs.Chains.{scan}
use Rattle.shifting.specs.Slots.{Slot, is_empty, usable, tied, crossed, no_slot}
use Rattle.placing.specs.declared.chain.Chain.{Chain}

-- of several refusals the one with the smallest number is given
abbrev pub placing : KindMeaning → List Slot → Rule → Result (Unit {0}) Refusal
placing kind slots new =
    cond (tied kind slots new) (Err Tied)
    (cond (crossed kind slots new) (Err Crossed)
    (cond (no_slot kind slots new) (Err NoSlot)
    (Ok tt)))

-- the slots that a chain names, from its first
pub record Names (chain : Chain) (slots : List ℕ) : Type 0 where
  pub as_many : chain.length ≡ length slots
  pub are : take chain.length chain.places ≡ slots

-- no slot from this one on is empty
abbrev pub full_from : List Slot → ℕ → Bool
full_from slots from = not (nat_lt (scan (is_empty slots) from (usable slots - from)) (usable slots))

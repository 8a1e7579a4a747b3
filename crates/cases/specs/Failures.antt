-- Tables, chains and orders of writing that are wrong, each shown to break what it should break. Assumes nothing.
use Rattle.std.specs.Prelude.{◌≡◌, ℕ, zero, suc, ◌+◌, ◌*◌, ◌≤◌, cond, List, [], ◌∷◌, reverse, length, take, Some, None}
use Rattle.rules.specs.declared.rule.Rule.{Rule}
use Rattle.rules.specs.declared.event.Event.{Event}
use Rattle.rules.specs.declared.event.Event.TheVariants.{Write, Erase}
use Rattle.kinds.specs.DialRules.{dial_meaning}
use Rattle.shifting.specs.Slots.{Slot, is_empty, reach, high, usable, RightOrder, DownwardChain, jump_chain, first_match, all_carried_out}
use Rattle.shifting.specs.Machine.{writes, told, all_traced}
use Rattle.shifting.specs.Law.{Answers}
use Rattle.cases.specs.Cases.{dial_rule, nine, nine_zero, three_taken, everything}

-- 1 at priority 40, 2 at 30 and 2! at 20, in this order before an empty slot; new is 2! at 50

abbrev pub one_two_two : List Slot
one_two_two = Some (dial_rule 1 40 0 0x1FFF_FFFF_FFFF_FFFF) ∷ Some (dial_rule 2 30 0 0x2FFF_FFFF_FFFF_FFFF) ∷ Some (dial_rule 3 20 0 0x2EFF_FFFF_FFFF_FFFF) ∷ None ∷ []

abbrev pub twos : Rule
twos = dial_rule 4 50 0 0x2EFF_FFFF_FFFF_FFFF

-- the chain that takes the nearest meeting rule at each turn
abbrev pub nearest : List Slot → ℕ → ℕ → List ℕ
nearest slots zero slot = []
nearest slots (suc turns) slot = cond (is_empty slots slot) (slot ∷ []) (slot ∷ nearest slots turns (reach dial_meaning slots slot))

-- 9! stands in the first of two slots, and 90 is to come there

abbrev pub nine_and_room : List Slot
nine_and_room = Some nine ∷ None ∷ []

abbrev pub nine_zero_writes : List Event
nine_zero_writes = writes nine_and_room (nine_zero 20) (1 ∷ 0 ∷ [])

-- a trace in which each event leaves its slot as a binary digit
abbrev pub slots_traced : ℕ → Event → ℕ
slots_traced trace (Write slot rule) = 2 * trace + slot
slots_traced trace (Erase slot) = 2 * trace + slot

pub record Failures : Type 0 where
  -- the rule of higher priority stands after one that it meets
  pub wrong_order : RightOrder dial_meaning (Some nine ∷ Some (nine_zero 20) ∷ []) → ⊥
  -- 1X in slot 0 reaches slot 2, where it meets 10, and may not be moved to slot 3
  pub past_the_reach : DownwardChain dial_meaning three_taken everything (0 ∷ 3 ∷ []) → ⊥
  -- the nearest meeting rule at each turn gives a chain of three slots, the jump rule one of two
  pub nearest_chain : nearest one_two_two (usable one_two_two) (high dial_meaning one_two_two twos) ≡ 1 ∷ 2 ∷ 3 ∷ []
  pub nearest_downward : DownwardChain dial_meaning one_two_two twos (1 ∷ 2 ∷ 3 ∷ [])
  pub jump_takes_two : jump_chain dial_meaning one_two_two twos ≡ 0 ∷ 3 ∷ []
  pub nearest_not_shortest : ((other : List ℕ) → DownwardChain dial_meaning one_two_two twos other → 3 ≤ length other) → ⊥
  -- written first slot first, 9! is lost at the first write: the subject 91 finds nothing, where the rules answer 9!
  pub first_slot_first :
      Answers dial_meaning (nine ∷ []) 0x91FF_FFFF_FFFF_FFFF
      (told (first_match dial_meaning (all_carried_out nine_and_room (take 1 (reverse nine_zero_writes))) 0x91FF_FFFF_FFFF_FFFF)) → ⊥
  -- and a trace rule shows the other order
  pub order_in_trace : all_traced slots_traced 0 (reverse nine_zero_writes) ≡ all_traced slots_traced 0 nine_zero_writes → ⊥

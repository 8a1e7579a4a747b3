-- Why a new rule has no place, and the chain when it has one. Assumes nothing.
use Rattle.std.proofs.Common.{◌≡◌, ℕ, suc, ◌+◌, ◌-◌, min, Bool, true, false, not, ltb, List, [], ◌∷◌, ◌++◌, length, is_some, unwrap_or, Ok, Err, Option, ap, ◌∙◌, append_assoc, arith}
use Rattle.std.proofs.lemmas.List.{length_push}
use Rattle.rules.specs.declared.rule.Rule.{Rule}
use Rattle.rules.specs.declared.refusal.Refusal.TheVariants.{Crossed, NoSlot}
use Rattle.rules.specs.Kinds.{KindMeaning}
use Rattle.rules.specs.Slots.{place_within}
use Rattle.shifting.specs.Chains.{scan, past}
use Rattle.shifting.specs.Slots.{Slot, at, is_empty, usable, above, below, level, low, high, tied, crossed, no_slot}
use Rattle.placing.specs.Placing.{placing, full_from}
use Rattle.placing.proofs.Passings.{some_place, place_or}
use Rattle.placing.proofs.Steps.{crossed_span}

module _ (kind : KindMeaning) (slots : List Slot) (new : Rule) (from to : ℕ) (untied : tied kind slots new ≡ false) (from_is : from ≡ low kind slots new) (to_is : to ≡ high kind slots new) where
  is_crossed : ltb (suc to) from ≡ crossed kind slots new
  is_crossed = rw (from_is, to_is) (crossed_span kind slots new)

  is_full : full_from slots from ≡ no_slot kind slots new
  is_full = ap (full_from slots) from_is

  pub placed_crossed : ltb (suc to) from ≡ true → Err Crossed ≡ placing kind slots new
  placed_crossed test = grind (arith, is_crossed)

  pub placed_full : ltb (suc to) from ≡ false → full_from slots from ≡ true → Err NoSlot ≡ placing kind slots new
  placed_full straight full = grind (arith, is_crossed, is_full)

  pub placed_well : ltb (suc to) from ≡ false → full_from slots from ≡ false → Ok tt ≡ placing kind slots new
  placed_well straight free = grind (arith, is_crossed, is_full)

-- no slot from one on is found empty
pub full_is : (slots : List Slot) (from count end : ℕ) (found : Option ℕ) (full : Bool) → count ≡ usable slots → found ≡ place_within end (scan (is_empty slots) from (end - from)) → end ≡ count → is_some found ≡ not full
    → full ≡ full_from slots from
full_is slots from count end found full count-is found-is end-is none = grind (arith, some_place)

-- the span and a tie, each by a walk of its own

module _ (kind : KindMeaning) (slots : List Slot) (new : Rule) (count : ℕ) where
  pub low_is : (found : ℕ) → count ≡ usable slots → found ≡ past (λ i. above kind new (at slots i)) count → found ≡ low kind slots new
  low_is found count-is found-is = found-is ∙ ap (past (λ i. above kind new (at slots i))) count-is

  pub high_is : (found : Option ℕ) (first last answer : ℕ) → count ≡ usable slots → found ≡ place_within count (scan (λ i. below kind new (at slots i)) 0 (count - 0)) → first ≡ unwrap_or found count → last ≡ count - 1
      → answer ≡ min first last → answer ≡ high kind slots new
  high_is found first last answer count-is found-is first-is last-is answer-is = grind (arith, place_or)

  pub tied_is : (found : Option ℕ) (answer : Bool) → count ≡ usable slots → found ≡ place_within count (scan (λ i. level kind new (at slots i)) 0 (count - 0)) → answer ≡ is_some found → answer ≡ tied kind slots new
  tied_is found answer count-is found-is answer-is = grind (arith, some_place)

-- one more slot in a chain

pub longer : (places found : List ℕ) (count before slot : ℕ) → places ≡ found ++ slot ∷ [] → count ≡ before + 1 → before ≡ length found → count ≡ length places
longer places found count before slot are more size = grind (arith, length_push)

pub one_more : (found left : List ℕ) (slot : ℕ) (chain rest whole : List ℕ) → left ≡ slot ∷ rest → chain ≡ found ++ slot ∷ [] → found ++ left ≡ whole → chain ++ rest ≡ whole
one_more found left slot chain rest whole left_is chain-is all = grind (arith, append_assoc)

pub last_one : (found left : List ℕ) (slot : ℕ) (chain whole : List ℕ) → left ≡ slot ∷ [] → chain ≡ found ++ slot ∷ [] → found ++ left ≡ whole → chain ≡ whole
last_one found left slot chain whole left_is chain-is all = grind arith

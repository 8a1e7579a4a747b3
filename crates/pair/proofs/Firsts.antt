-- The first match of a pair, by the first matches of its halves. Assumes nothing.
use Rattle.std.proofs.Common.{◌≡◌, ℕ, ◌+◌, ◌<◌, ◌≤◌, Bool, List, [], ◌∷◌, ◌++◌, length, Option, arith, length-append}
use Rattle.std.proofs.lemmas.Bool.Decides.{nat_tests}
use Rattle.std.proofs.lemmas.Grind.{common_steps}
use Rattle.std.specs.Option.{option_or}
use Rattle.rules.specs.Slots.{Slot, first_place, place_within}
use Rattle.pair.specs.Halves.{match_in_second}
use Rattle.pair.specs.Joined.{joined}

module _ (passes : Slot → Bool) where
  place_left : (a b : List Slot) → first_place passes a < length a → first_place passes (a ++ b) ≡ first_place passes a
  place_left [] b found = absurd (omega arith)
  place_left (x ∷ a) b found = grind (arith, common_steps, nat_tests, place_left a b)

  place_right : (a b : List Slot) → length a ≤ first_place passes a → first_place passes (a ++ b) ≡ length a + first_place passes b
  place_right [] b none = omega arith
  place_right (x ∷ a) b none = grind (arith, common_steps, nat_tests, place_right a b)

  abbrev found : List Slot → Option ℕ
  found l = place_within (length l) (first_place passes l)

  pub match_halves : (a b : List Slot) → option_or (found a) (match_in_second (length a) (length b) (found b)) ≡ found (joined a b)
  match_halves a b = grind (arith, common_steps, nat_tests, place_left, place_right, length-append)

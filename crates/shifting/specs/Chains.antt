-- Chains of slots and the jump rule. No rule is looked at here: a slot is empty or not, and a taken slot has a reach.
-- Assumes nothing.
use Rattle.std.specs.Prelude.{◌≡◌, ℕ, zero, suc, ◌+◌, ◌-◌, ◌<◌, ◌≤◌, Bool, true, false, cond, List, [], ◌∷◌, nat_le, nat_lt}

-- the first of n places from i that passes, or i + n
abbrev pub scan : (ℕ → Bool) → ℕ → ℕ → ℕ
scan passes i zero = i
scan passes i (suc n) = cond (passes i) i (scan passes (suc i) n)

-- one past the last of the first n places that passes, or 0
abbrev pub past : (ℕ → Bool) → ℕ → ℕ
past passes zero = zero
past passes (suc n) = cond (passes n) (suc n) (past passes n)

-- whether one of the first n places passes
abbrev pub some_below : (ℕ → Bool) → ℕ → Bool
some_below passes n = nat_lt (scan passes 0 n) n

-- of the places low to low + n the one with the greatest reach, and the lowest of several
abbrev pub farthest : (ℕ → ℕ) → ℕ → ℕ → ℕ
farthest reach low zero = low
farthest reach low (suc n) =
    let so_far = farthest reach low n in
    cond (nat_lt (reach so_far) (reach (low + suc n))) (low + suc n) so_far

module _ (empty : ℕ → Bool) (reach : ℕ → ℕ) where
  -- A chain from a slot on, that slot and the others: rising, the last slot empty, the others taken, and each at most the reach of the one before.
  abbrev pub Chain : ℕ → List ℕ → Type 0
  Chain slot [] = empty slot ≡ true
  Chain slot (later ∷ others) = (empty slot ≡ false) × (slot < later) × (later ≤ reach slot) × Chain later others

  -- The jump rule looks at the slots from low to high. If one is empty, the first such ends the chain.
  -- Otherwise the chain takes the slot of greatest reach, and the rule looks at the slots after it up to that reach.
  -- At most as many turns are needed as there are slots.
  abbrev pub jump : (turns low high : ℕ) → List ℕ
  jump zero low high = []
  jump (suc turns) low high =
      let first_empty = scan empty low (suc high - low) in
      let taken = farthest reach low (high - low) in
      cond (nat_le first_empty high) (first_empty ∷ []) (taken ∷ jump turns (suc taken) (reach taken))

-- What one place of a pattern takes, and what two take in common. Assumes nothing.
use Rattle.std.specs.Prelude.{◌≡◌, ℕ, ◌<◌, ◌≤◌, true, cond}
use Rattle.std.proofs.Common.{arith}
use Rattle.std.proofs.lemmas.Bool.Decides.{nat_tests}
use Rattle.kinds.specs.DialRules.{takes, wildcard, places_meet, hash, rest, end}

-- a symbol that both places take, if there is one
abbrev pub shared_symbol : ℕ → ℕ → ℕ
shared_symbol code other = cond (wildcard code) (cond (wildcard other) 1 other) code

pub both_take : (code other symbol : ℕ) → takes code symbol ≡ true → takes other symbol ≡ true → places_meet code other ≡ true
both_take code other symbol first second = grind (arith, nat_tests)

pub shared_below : (code other : ℕ) → code < rest → places_meet code other ≡ true → shared_symbol code other ≤ hash
shared_below code other symbol meet = grind (arith, nat_tests)

pub shared_first : (code other : ℕ) → code < rest → places_meet code other ≡ true → takes code (shared_symbol code other) ≡ true
shared_first code other symbol meet = grind (arith, nat_tests)

pub shared_second : (code other : ℕ) → code < rest → places_meet code other ≡ true → takes other (shared_symbol code other) ≡ true
shared_second code other symbol meet = grind (arith, nat_tests)

pub meets_symbol : (code other : ℕ) → code < rest → places_meet code other ≡ true → other < rest
meets_symbol code other symbol meet = grind (arith, nat_tests)

pub meets_end : (code other : ℕ) → code ≡ end → places_meet code other ≡ true → other ≡ end
meets_end code other symbol meet = grind (arith, nat_tests)

pub meets_itself : (code : ℕ) → places_meet code code ≡ true
meets_itself code = grind (arith, nat_tests)

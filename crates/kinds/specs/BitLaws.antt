-- Laws of `bit_and` and `bit_or`, by their last digits. Assumes nothing.
use Rattle.std.specs.Prelude.{◌≡◌, ℕ, ◌/◌, bit_and, bit_or, refl}
use Rattle.std.proofs.Common.{arith}
use Rattle.std.proofs.Math.Arith.{bin_ind}
use Rattle.std.specs.Int.Bits.{and_step, or_step, and_self, or_add_and}
use Rattle.std.proofs.lemmas.Nat.{and_assoc, and_shr, or_shr}

pub or_and : (a b c : ℕ) → bit_and (bit_or a b) c ≡ bit_or (bit_and a c) (bit_and b c)
or_and =
    bin_ind (λ a. (b c : ℕ) → bit_and (bit_or a b) c ≡ bit_or (bit_and a c) (bit_and b c)) (λ b c. refl)
    (λ a ih b c.
    let halves : bit_and (bit_or a b / 2) (c / 2) ≡ bit_or (bit_and a c / 2) (bit_and b c / 2) = rw (or_shr a b 1, and_shr a c 1, and_shr b c 1) (ih (b / 2) (c / 2)) in
    omega (arith, and_step (bit_or a b) c, or_step (bit_and a c) (bit_and b c), or_step a b, and_step a c, and_step b c))

pub or_absorbs : (a b : ℕ) → bit_or a (bit_and a b) ≡ a
or_absorbs a b =
    let again : bit_and a (bit_and a b) ≡ bit_and a b = rw (← and_assoc b a a, and_self a) in
    omega (arith, or_add_and a (bit_and a b))

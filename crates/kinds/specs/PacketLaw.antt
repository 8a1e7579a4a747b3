-- The law of the packet kind. Assumes nothing.
use Rattle.std.specs.Prelude.{◌≡◌, ℕ, bit_and, bit_or, refl}
use Rattle.std.proofs.Common.{sym, ap, ◌∙◌}
use Rattle.std.proofs.lemmas.Nat.{and_assoc, and_comm, or_comm, or_lt}
use Rattle.std.specs.Int.Bits.{and_self}
use Rattle.std.proofs.lemmas.Bool.{and_parts, and_from, eqb-true, eq-eqb}
use Rattle.rules.specs.Kinds.{KindLaws}
use Rattle.kinds.specs.PacketRules.{covered, packet_meaning}
use Rattle.kinds.specs.BitLaws.{or_and, or_absorbs}

-- the values of two rules that meet, joined, are a subject of the first
joined : (a b c d : ℕ) → bit_and a b ≡ a → bit_and c d ≡ c → bit_and a (bit_and b d) ≡ bit_and c (bit_and b d) → bit_and (bit_or a c) b ≡ a
joined a b c d covers-a covers-c agree =
    let other : bit_and c b ≡ bit_and a (bit_and b d) =
    ap (λ x. bit_and x b) (sym covers-c) ∙ and_assoc b c d ∙ ap (bit_and c) (and_comm d b) ∙ sym agree in
    or_and a c b ∙ ap (bit_or (bit_and a b)) other ∙ ap (λ x. bit_or x (bit_and a (bit_and b d))) covers-a ∙ or_absorbs a (bit_and b d)

-- what a subject leaves under a mask agrees with it under a part of the mask
under : (s b d : ℕ) → bit_and (bit_and s b) (bit_and b d) ≡ bit_and s (bit_and b d)
under s b d = and_assoc (bit_and b d) s b ∙ ap (bit_and s) (sym (and_assoc d b b) ∙ ap (λ x. bit_and x d) (and_self b))

-- only a value that the mask covers is matched
covered_since : (s a b : ℕ) → bit_and s b ≡ a → bit_and a b ≡ a
covered_since s a b match = ap (λ x. bit_and x b) (sym match) ∙ and_assoc b s b ∙ ap (bit_and s) (and_self b) ∙ match

pub packet_laws : KindLaws packet_meaning
packet_laws = record {
  only_formed_match = λ a b s match. (eq-eqb _ _ (covered_since s a b (eqb-true _ _ match)), refl);
  only_formed_meet = λ a b c d all. let rest = and_parts _ _ all in (rest.0, (and_parts _ _ rest.1).0);
  meets_exactly = λ a b c d word_a word_b word_c word_d formed other-formed. (
    λ meet.
        let covers-a = eqb-true _ _ formed in
        let covers-c = eqb-true _ _ other-formed in
        let agree = eqb-true _ _ (and_parts (covered c d) _ (and_parts (covered a b) _ meet).1).1 in
        let turned : bit_and c (bit_and d b) ≡ bit_and a (bit_and d b) = rw (and_comm d b) (sym agree) in
        record {
          subject = bit_or a c;
          word = or_lt 64 a c word_a word_c;
          formed = refl;
          first = eq-eqb _ _ (joined a b c d covers-a covers-c agree);
          second = eq-eqb _ _ (ap (λ x. bit_and x d) (or_comm a c) ∙ joined c d a b covers-c covers-a turned);
        },
    λ shared.
        let first = eqb-true _ _ shared.first in
        let second = eqb-true _ _ shared.second in
        let s = shared.subject in
        let agree : bit_and a (bit_and b d) ≡ bit_and c (bit_and b d) =
        ap (λ x. bit_and x (bit_and b d)) (sym first) ∙ under s b d ∙ ap (bit_and s) (and_comm b d) ∙ sym (under s d b)
        ∙ ap (λ x. bit_and x (bit_and d b)) second ∙ ap (bit_and c) (and_comm d b) in
        and_from _ _ formed (and_from _ _ other-formed (eq-eqb _ _ agree)),
  );
}

-- The packet kind: a value under a mask. Word A is the value and word B the mask; any word is a subject. Assumes nothing.
use Rattle.std.specs.Prelude.{ℕ, Bool, true, ◌&&◌, ◌==◌, bit_and}
use Rattle.rules.specs.Kinds.{KindMeaning}

-- every 1 bit of the value is a 1 bit of the mask
abbrev pub covered : ℕ → ℕ → Bool
covered value mask = bit_and value mask == value

abbrev pub packet_meaning : KindMeaning
packet_meaning = record {
  well_formed = covered;
  well_formed_subject = λ subject. true;
  -- where the mask does not cover the value no subject passes this, so it needs no second test
  matches = λ value mask subject. (bit_and subject mask == value);
  -- the values agree on the bits that both masks have
  meets = λ value mask other-value other-mask.
      covered value mask && (covered other-value other-mask && bit_and value (bit_and mask other-mask) == bit_and other-value (bit_and mask other-mask));
}

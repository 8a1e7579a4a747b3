-- How rules lie in the caller's 64-bit words: in blocks of 144, each 48 headers, then 48 words A, then 48 words B.
-- Assumes nothing.
use Rattle.std.specs.Prelude.{ℕ, ◌+◌, ◌-◌, ◌*◌, ◌/◌, ◌%◌, ◌^◌, min}
use Rattle.rules.specs.declared.rule.Rule.{Rule}
use Rattle.chip_image.specs.declared.layout.Row.{Row}

-- every whole block counts, up to the first ten, and has 48 addresses
abbrev pub address_count : ℕ → ℕ
address_count words = 48 * min 10 (words / 144)

-- slot 0 has the last address
abbrev pub address : ℕ → ℕ → ℕ
address count slot = count - 1 - slot

-- an address is a row of a block
abbrev pub block_of : ℕ → ℕ
block_of address = address / 48

abbrev pub row_of : ℕ → ℕ
row_of address = address % 48

-- where the words of an address lie
abbrev pub header_place : ℕ → ℕ
header_place address = 144 * block_of address + row_of address

abbrev pub word_a_place : ℕ → ℕ
word_a_place address = header_place address + 48

abbrev pub word_b_place : ℕ → ℕ
word_b_place address = header_place address + 96

abbrev pub header : Rule → ℕ
header rule = rule.number * 2 ^ 48 + rule.priority * 2 ^ 32 + rule.action

-- the words that a rule is written as
abbrev pub packed : Rule → Row
packed rule = record { header = header rule; word_a = rule.word_a; word_b = rule.word_b }

-- the record that a header and its words A and B stand for
abbrev pub unpacked : ℕ → ℕ → ℕ → Rule
unpacked header a b = record {
  number = header / 2 ^ 48;
  priority = header / 2 ^ 32 % 2 ^ 16;
  action = header % 2 ^ 32;
  word_a = a;
  word_b = b;
}

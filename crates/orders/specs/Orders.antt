-- What an order that the reader hands out shows. Assumes nothing.
use Rattle.std.specs.Prelude.{ℕ, List}
use Rattle.orders.specs.declared.order.Order.{Order}
use Rattle.orders.specs.declared.order.Order.TheVariants.{Add, Drop, Change, LookUp, Step, Complete, Withdraw}

-- A, D, C, L, S, E and W
abbrev pub letter_of : Order → ℕ
letter_of (Add order) = 0x41
letter_of (Drop order) = 0x44
letter_of (Change order) = 0x43
letter_of (LookUp order) = 0x4C
letter_of (Step part) = 0x53
letter_of (Complete part) = 0x45
letter_of (Withdraw part) = 0x57

-- where its first byte stands in the input
abbrev pub place_of : Order → ℕ
place_of (Add order) = order.0.place
place_of (Drop order) = order.0.place
place_of (Change order) = order.0.place
place_of (LookUp order) = order.0.place
place_of (Step part) = part.place
place_of (Complete part) = part.place
place_of (Withdraw part) = part.place

-- its bytes, mark and letter included
abbrev pub bytes_of : Order → List ℕ
bytes_of (Add order) = order.0.bytes.now
bytes_of (Drop order) = order.0.bytes.now
bytes_of (Change order) = order.0.bytes.now
bytes_of (LookUp order) = order.0.bytes.now
bytes_of (Step part) = part.bytes.now
bytes_of (Complete part) = part.bytes.now
bytes_of (Withdraw part) = part.bytes.now

-- one order of a file: its letter, the place of its first byte, and its bytes
pub record Entry : Type 0 where
  pub letter : ℕ
  pub place : ℕ
  pub bytes : List ℕ

abbrev pub entry_of : Order → Entry
entry_of order = record { letter = letter_of order; place = place_of order; bytes = bytes_of order }

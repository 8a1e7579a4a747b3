-- How an order lies in its bytes: the mark, a letter, and a body whose length the letter gives. Assumes nothing.
use Rattle.std.specs.Prelude.{ℕ, ◌+◌, cond, ◌&&◌, List, [], ◌∷◌, length, take, drop, ◌==◌, nat_le}
use Rattle.std.specs.Int.Digits.{number_from_digits}
use Rattle.rules.specs.declared.refusal.Refusal.{Refusal}
use Rattle.rules.specs.declared.refusal.Refusal.TheVariants.{Unmarked, StrangeLetter, CutShort}

-- what stands at the front of the bytes that are left of a file
pub data Front : Type 0 where
  end : Front
  whole : (size : ℕ) → Front
  damaged : Refusal → Front

-- an order with so many bytes of body, if so many are left after its letter
abbrev pub with_body : (body left : ℕ) → Front
with_body body left = cond (nat_le body left) (whole (3 + body)) (damaged CutShort)

-- after the mark, by the letter: A, D, C, L, and S, E, W without a body
abbrev pub lettered : (letter left : ℕ) → Front
lettered letter left =
    cond (letter == 0x41) (with_body 24 left)
    (cond (letter == 0x44) (with_body 2 left)
    (cond (letter == 0x43) (with_body 6 left)
    (cond (letter == 0x4C) (with_body 8 left)
    (cond (letter == 0x53) (with_body 0 left)
    (cond (letter == 0x45) (with_body 0 left)
    (cond (letter == 0x57) (with_body 0 left) (damaged StrangeLetter)))))))

-- the mark is hex 4B 54; with one or two bytes left there is none to look for
abbrev pub front : List ℕ → Front
front [] = end
front (first ∷ []) = damaged CutShort
front (first ∷ second ∷ []) = damaged CutShort
front (first ∷ second ∷ letter ∷ body) =
    cond (first == 0x4B && second == 0x54) (lettered letter (length body)) (damaged Unmarked)

-- the number that bytes write, high byte first
abbrev pub big_endian : List ℕ → ℕ
big_endian bytes = number_from_digits 256 bytes

-- the number in so many bytes of an order, from one of its bytes on
abbrev pub field : (order : List ℕ) (from size : ℕ) → ℕ
field order from size = big_endian (take size (drop from order))

-- in an add, a drop and a change
abbrev pub number_in : List ℕ → ℕ
number_in order = field order 3 2

-- in an add
abbrev pub priority_in : List ℕ → ℕ
priority_in order = field order 5 2

abbrev pub new_action_in : List ℕ → ℕ
new_action_in order = field order 7 4

abbrev pub word_a_in : List ℕ → ℕ
word_a_in order = field order 11 8

abbrev pub word_b_in : List ℕ → ℕ
word_b_in order = field order 19 8

-- in a change
abbrev pub other_action_in : List ℕ → ℕ
other_action_in order = field order 5 4

-- in a look-up
abbrev pub subject_in : List ℕ → ℕ
subject_in order = field order 3 8

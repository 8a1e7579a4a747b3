-- The lines that people read. Assumes nothing.
use Rattle.std.specs.Prelude.{ℕ, cond, List, ◌++◌, Ok, Err, codes, decimal}
use Rattle.kinds.specs.DialRules.{places, dial_meaning}
use Rattle.rules.specs.Refusals.{number}
use Rattle.orders.specs.declared.order.Order.{Order}
use Rattle.orders.specs.declared.order.Order.TheVariants.{Add, Drop, Change, LookUp, Step, Complete, Withdraw}
use Rattle.orders.specs.Layout.{number_in, priority_in, new_action_in, other_action_in, word_a_in, word_b_in, subject_in}
use Rattle.order_reader.specs.File.{Ending}
use Rattle.order_text.specs.Signs.{signs_of, digits_of}

-- a dial pattern by its signs
abbrev pub as_pattern : List ℕ → List ℕ
as_pattern signs = codes "pattern \"" ++ (signs ++ codes "\" well formed")

-- words that are no dial pattern, by their hexadecimal digits
abbrev pub as_words : (a b : List ℕ) → List ℕ
as_words a b = codes "words " ++ (a ++ (codes " " ++ (b ++ codes " not well formed")))

abbrev pub words_text : (a b : ℕ) → List ℕ
words_text a b = cond (dial_meaning.well_formed a b) (as_pattern (signs_of (places 16 a))) (as_words (digits_of (places 16 a)) (digits_of (places 16 b)))

-- a dialled subject by its signs
abbrev pub as_subject : List ℕ → List ℕ
as_subject signs = codes "subject \"" ++ (signs ++ codes "\" well formed")

-- a word that nobody can dial, by its hexadecimal digits
abbrev pub as_word : List ℕ → List ℕ
as_word digits = codes "subject " ++ (digits ++ codes " not well formed")

abbrev pub subject_text : ℕ → List ℕ
subject_text subject = cond (dial_meaning.well_formed_subject subject) (as_subject (signs_of (places 16 subject))) (as_word (digits_of (places 16 subject)))

abbrev pub as_add : (place number priority action : ℕ) (words : List ℕ) → List ℕ
as_add place number priority action words =
    codes "A " ++ (decimal place ++ (codes " number " ++ (decimal number ++ (codes " priority " ++ (decimal priority ++ (codes " action " ++ (decimal action ++ (codes " " ++ words))))))))

abbrev pub add_line : (place : ℕ) (bytes : List ℕ) → List ℕ
add_line place bytes = as_add place (number_in bytes) (priority_in bytes) (new_action_in bytes) (words_text (word_a_in bytes) (word_b_in bytes))

-- an order's letter, its place and its fields
abbrev pub order_line : Order → List ℕ
order_line (Add order) = add_line order.0.place order.0.bytes.now
order_line (Drop order) = codes "D " ++ (decimal order.0.place ++ (codes " number " ++ decimal (number_in order.0.bytes.now)))
order_line (Change order) = codes "C " ++ (decimal order.0.place ++ (codes " number " ++ (decimal (number_in order.0.bytes.now) ++ (codes " action " ++ decimal (other_action_in order.0.bytes.now)))))
order_line (LookUp order) = codes "L " ++ (decimal order.0.place ++ (codes " " ++ subject_text (subject_in order.0.bytes.now)))
order_line (Step part) = codes "S " ++ decimal part.place
order_line (Complete part) = codes "E " ++ decimal part.place
order_line (Withdraw part) = codes "W " ++ decimal part.place

-- the last line of an order file: its end, or a damaged order with its place, its refusal and 0
abbrev pub ending_line : (place : ℕ) → Ending → List ℕ
ending_line place (Ok tt) = codes "end " ++ decimal place
ending_line place (Err refusal) = codes "? " ++ (decimal place ++ (codes " " ++ (decimal (number refusal) ++ codes " 0")))

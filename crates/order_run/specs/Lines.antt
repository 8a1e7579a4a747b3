-- The lines of a run: a letter, a place, the refusal number or 0, and a value, one space apart. Assumes nothing.
use Rattle.std.specs.Prelude.{◌≡◌, ℕ, List, ◌∷◌, ◌++◌, Some, None, Ok, Err, codes, decimal, Option, Result}
use Rattle.rules.specs.declared.refusal.Refusal.{Refusal}
use Rattle.rules.specs.Refusals.{number}
use Rattle.shifting.specs.Machine.{Answer, opened, counted, done, found, refused}

abbrev pub refusal_in : Answer → ℕ
refusal_in (opened ticket) = 0
refusal_in (counted count) = 0
refusal_in done = 0
refusal_in (found told) = 0
refusal_in (refused refusal) = number refusal

-- the action of the rule that was found
abbrev pub action_in : Option (ℕ × ℕ) → Option ℕ
action_in None = None
action_in (Some told) = Some told.1

-- the announced count of an add, the action that a look-up found, or the call's answer; 0 where nothing is answered or all is refused
abbrev pub value_in : Answer → Option ℕ
value_in (opened ticket) = Some ticket.length
value_in (counted count) = Some count
value_in done = Some 0
value_in (found told) = action_in told
value_in (refused refusal) = Some 0

abbrev pub shown : Option ℕ → List ℕ
shown None = codes "-"
shown (Some value) = decimal value

abbrev pub line : (letter place refusal : ℕ) (value : Option ℕ) → List ℕ
line letter place refusal value =
    letter ∷ (codes " " ++ (decimal place ++ (codes " " ++ (decimal refusal ++ (codes " " ++ (shown value ++ codes "\n"))))))

-- what an order's line tells of the answer to its call
abbrev pub answer_line : (letter place : ℕ) → Answer → List ℕ
answer_line letter place answer = line letter place (refusal_in answer) (value_in answer)

-- a value, or a refusal: its number is told in place of 0, and the value is then 0
abbrev pub number_told : Result (Option ℕ) Refusal → ℕ
number_told (Ok value) = 0
number_told (Err refusal) = number refusal

abbrev pub value_told : Result (Option ℕ) Refusal → Option ℕ
value_told (Ok value) = value
value_told (Err refusal) = Some 0

-- a refusal number and a value, as a line tells an answer
pub record Tells (answer : Answer) (refusal : ℕ) (value : Option ℕ) : Type 0 where
  pub refusal_is : refusal ≡ refusal_in answer
  pub value_is : value ≡ value_in answer

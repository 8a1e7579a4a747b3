-- The worked cases: one list of questions with their answers, and the statement that every one holds.
-- A dial pattern is given by its word, with 0 as the other word where nothing else is said. Assumes nothing.
use Rattle.std.specs.Prelude.{◌≡◌, ℕ, Bool, true, false, List, [], ◌∷◌, Some, None}
use Rattle.rules.specs.declared.rule.Rule.{Rule}
use Rattle.rules.specs.declared.refusal.Refusal.TheVariants.{Busy, Tied, Crossed, NoSlot, Foreign}
use Rattle.kinds.specs.DialRules.{dial_meaning}
use Rattle.kinds.specs.PacketRules.{packet_meaning}
use Rattle.shifting.specs.Slots.{Slot, reach, low, high, jump_chain}
use Rattle.shifting.specs.Machine.{Ticket, Call, add, step, complete, withdraw, drop_rule, Answer, counted, refused, State, Fixed, cleared, turn, after}

-- a dial rule by number, priority, action and pattern
abbrev pub dial_rule : ℕ → ℕ → ℕ → ℕ → Rule
dial_rule number priority action pattern = record { number = number; priority = priority; action = action; word_a = pattern; word_b = 0 }

-- a dial board with number 1, on a device that keeps its trace at 0
abbrev pub dial_board : Fixed
dial_board = record { kind = dial_meaning; traced = λ trace event. 0; board = 1 }

-- an idle dial board whose slots hold the rules in force
abbrev pub idle : List Slot → List Rule → State
idle slots rules = record { slots = slots; trace = 0; rules = rules; job = None }

-- the dial board, just opened, on a device of six slots
abbrev pub six_slots : State
six_slots = cleared dial_board (None ∷ None ∷ None ∷ None ∷ None ∷ None ∷ []) 0

pub data Case : Type 0 where
  dial_well_formed : (pattern b : ℕ) → Bool → Case
  dial_subject : (subject : ℕ) → Bool → Case
  dial_matches : (pattern subject : ℕ) → Bool → Case
  dial_meets : (pattern other : ℕ) → Bool → Case
  packet_well_formed : (value mask : ℕ) → Bool → Case
  packet_meets : (value mask other-value other-mask : ℕ) → Bool → Case
  dial_add : State → (new : Rule) → Answer → Case
  dial_reach : List Slot → (slot : ℕ) → ℕ → Case
  dial_span : List Slot → (new : Rule) → ℕ → ℕ → Case
  dial_chain : List Slot → (new : Rule) → List ℕ → Case
  dial_run : State → (before : List Call) → Call → Answer → List Slot → Case

abbrev pub Holds : Case → Type 0
Holds (dial_well_formed pattern b answer) = dial_meaning.well_formed pattern b ≡ answer
Holds (dial_subject subject answer) = dial_meaning.well_formed_subject subject ≡ answer
Holds (dial_matches pattern subject answer) = dial_meaning.matches pattern 0 subject ≡ answer
Holds (dial_meets pattern other answer) = dial_meaning.meets pattern 0 other 0 ≡ answer
Holds (packet_well_formed value mask answer) = packet_meaning.well_formed value mask ≡ answer
Holds (packet_meets value mask other-value other-mask answer) = packet_meaning.meets value mask other-value other-mask ≡ answer
Holds (dial_add state new answer) = (turn dial_board state (add new)).answer ≡ answer
Holds (dial_reach slots slot answer) = reach dial_meaning slots slot ≡ answer
Holds (dial_span slots new from to) = (low dial_meaning slots new ≡ from) × (high dial_meaning slots new ≡ to)
Holds (dial_chain slots new chain) = jump_chain dial_meaning slots new ≡ chain
Holds (dial_run start before call answer slots) =
    let made = turn dial_board (after dial_board start before) call in
    (made.answer ≡ answer) × (made.next.slots ≡ slots)

-- 9! with number 1, priority 10 and action 100; 90 with number 2 and action 200
abbrev pub nine : Rule
nine = dial_rule 1 10 100 0x9EFF_FFFF_FFFF_FFFF

abbrev pub nine_zero : ℕ → Rule
nine_zero priority = dial_rule 2 priority 200 0x90FF_FFFF_FFFF_FFFF

-- 1X at priority 40, 2X at 30 and 10 at 20, in this order before an empty slot

abbrev pub one_x : Rule
one_x = dial_rule 1 40 0 0x1CFF_FFFF_FFFF_FFFF

abbrev pub two_x : Rule
two_x = dial_rule 2 30 0 0x2CFF_FFFF_FFFF_FFFF

abbrev pub one_zero : Rule
one_zero = dial_rule 3 20 0 0x10FF_FFFF_FFFF_FFFF

abbrev pub three_taken : List Slot
three_taken = Some one_x ∷ Some two_x ∷ Some one_zero ∷ None ∷ []

-- ! at priority 50
abbrev pub everything : Rule
everything = dial_rule 4 50 0 0xEFFF_FFFF_FFFF_FFFF

abbrev pub one : Rule
one = dial_rule 1 1 0 0x1FFF_FFFF_FFFF_FFFF

abbrev pub two : Rule
two = dial_rule 2 9 0 0x2FFF_FFFF_FFFF_FFFF

-- the board with these three rules and an open add of !
abbrev pub opened_all : State
opened_all = after dial_board (idle three_taken (one_x ∷ two_x ∷ one_zero ∷ [])) (add everything ∷ [])

-- the ticket of a rule on the dial board
abbrev pub ticket : ℕ → ℕ → Ticket
ticket number count = record { board = 1; rule = number; length = count }

abbrev pub worked_cases : List Case
worked_cases =
    -- 9! meets 90; 9 does not
    dial_meets 0x9EFF_FFFF_FFFF_FFFF 0x90FF_FFFF_FFFF_FFFF true
    ∷ dial_meets 0x9FFF_FFFF_FFFF_FFFF 0x90FF_FFFF_FFFF_FFFF false
    -- X does not meet star; Z meets X, and does not meet 0
    ∷ dial_meets 0xCFFF_FFFF_FFFF_FFFF 0xAFFF_FFFF_FFFF_FFFF false
    ∷ dial_meets 0xDFFF_FFFF_FFFF_FFFF 0xCFFF_FFFF_FFFF_FFFF true
    ∷ dial_meets 0xDFFF_FFFF_FFFF_FFFF 0x0FFF_FFFF_FFFF_FFFF false
    -- ! meets the empty pattern; Z! does not
    ∷ dial_meets 0xEFFF_FFFF_FFFF_FFFF 0xFFFF_FFFF_FFFF_FFFF true
    ∷ dial_meets 0xDEFF_FFFF_FFFF_FFFF 0xFFFF_FFFF_FFFF_FFFF false
    -- ! matches the subject hash
    ∷ dial_matches 0xEFFF_FFFF_FFFF_FFFF 0xBFFF_FFFF_FFFF_FFFF true
    -- value and mask 10/F0 meets 01/0F, and not 20/30
    ∷ packet_meets 0x10 0xF0 0x01 0x0F true
    ∷ packet_meets 0x10 0xF0 0x20 0x30 false
    -- 11/10 is not well formed
    ∷ packet_well_formed 0x11 0x10 false
    -- the word 0 is sixteen zeros, which need no end, and not the empty pattern
    ∷ dial_well_formed 0 0 true
    ∷ dial_matches 0 0 true
    ∷ dial_matches 0 0xFFFF_FFFF_FFFF_FFFF false
    -- sixteen zeros do not meet fifteen
    ∷ dial_meets 0 0xF false
    -- ! in the last place takes one symbol or none
    ∷ dial_matches 0xE 0 true
    ∷ dial_matches 0xE 0xF true
    -- X and Z do not meet the end
    ∷ dial_meets 0xCFFF_FFFF_FFFF_FFFF 0xFFFF_FFFF_FFFF_FFFF false
    ∷ dial_meets 0xDFFF_FFFF_FFFF_FFFF 0xFFFF_FFFF_FFFF_FFFF false
    -- nothing but ends may follow ! or the end, and the other word is 0
    ∷ dial_well_formed 0xEEFF_FFFF_FFFF_FFFF 0 false
    ∷ dial_well_formed 0xF0FF_FFFF_FFFF_FFFF 0 false
    ∷ dial_well_formed 0xFEFF_FFFF_FFFF_FFFF 0 false
    ∷ dial_well_formed 0x9FFF_FFFF_FFFF_FFFF 1 false
    -- a subject has no X, no ! and no symbol after its end
    ∷ dial_subject 0xCFFF_FFFF_FFFF_FFFF false
    ∷ dial_subject 0xEFFF_FFFF_FFFF_FFFF false
    ∷ dial_subject 0xF0FF_FFFF_FFFF_FFFF false
    -- one slot holding 9! at priority 10: 90 at 20 gets no slot, 90 at 10 is tied
    ∷ dial_add (idle (Some nine ∷ []) (nine ∷ [])) (nine_zero 20) (refused NoSlot)
    ∷ dial_add (idle (Some nine ∷ []) (nine ∷ [])) (nine_zero 10) (refused Tied)
    -- a span that starts past the last slot is not crossed
    ∷ dial_add (idle (Some everything ∷ []) (everything ∷ [])) (nine_zero 5) (refused NoSlot)
    -- a free slot above the span is no slot for it
    ∷ dial_add (idle (None ∷ Some everything ∷ []) (everything ∷ [])) (nine_zero 5) (refused NoSlot)
    -- crossed by two rules that do not meet each other: 1 at priority 1 before 2 at 9, and a new X at 5
    ∷ dial_add (idle (Some one ∷ Some two ∷ None ∷ []) (one ∷ two ∷ [])) (dial_rule 3 5 0 0xCFFF_FFFF_FFFF_FFFF) (refused Crossed)
    -- reaches, and the span and chain of a new rule that meets all
    ∷ dial_reach three_taken 0 2
    ∷ dial_reach three_taken 1 3
    ∷ dial_reach three_taken 2 3
    ∷ dial_span three_taken everything 0 0
    ∷ dial_chain three_taken everything (0 ∷ 1 ∷ 3 ∷ [])
    -- 9! stands in the first of six slots, and 90 is withdrawn after one of its two writes: 9! stands where it stood
    ∷ dial_run six_slots (add nine ∷ complete (ticket 1 1) ∷ add (nine_zero 20) ∷ step (ticket 2 2) ∷ []) (withdraw (ticket 2 2)) (counted 0)
    (Some nine ∷ None ∷ None ∷ None ∷ None ∷ None ∷ [])
    -- ! has the chain 0, 1, 3: after two writes 1X stands twice; then a complete puts ! into slot 0, and a withdraw erases slot 1, the last one written
    ∷ dial_run opened_all (step (ticket 4 3) ∷ []) (step (ticket 4 3)) (counted 1) (Some one_x ∷ Some one_x ∷ Some one_zero ∷ Some two_x ∷ [])
    ∷ dial_run opened_all (step (ticket 4 3) ∷ step (ticket 4 3) ∷ []) (complete (ticket 4 3)) (counted 3) (Some everything ∷ Some one_x ∷ Some one_zero ∷ Some two_x ∷ [])
    ∷ dial_run opened_all (step (ticket 4 3) ∷ step (ticket 4 3) ∷ []) (withdraw (ticket 4 3)) (counted 0) (Some one_x ∷ None ∷ Some one_zero ∷ Some two_x ∷ [])
    -- a ticket of another length is foreign, and a drop of number 0 is busy while an add is open
    ∷ dial_run opened_all [] (step (ticket 4 2)) (refused Foreign) three_taken
    ∷ dial_run opened_all [] (drop_rule 0) (refused Busy) three_taken
    ∷ []

abbrev pub AllHold : List Case → Type 0
AllHold [] = Unit {0}
AllHold (first ∷ others) = Holds first × AllHold others

abbrev pub WorkedCases : Type 0
WorkedCases = AllHold worked_cases

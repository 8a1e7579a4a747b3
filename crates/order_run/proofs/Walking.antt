-- The walk along an order file, from order to order and from call to answer. Assumes nothing.
use Rattle.std.proofs.Common.{◌≡◌, ℕ, suc, ◌+◌, ◌-◌, ◌*◌, ◌<◌, ◌≤◌, eqb, List, [], ◌∷◌, ◌++◌, length, drop, Some, None, Option, sym, refl, ap, ◌∙◌, subst, arith}
use Rattle.std.proofs.lemmas.List.{append-nil, length-drop}
use Rattle.std.proofs.lemmas.Bool.{cond_both}
use Rattle.rules.specs.declared.refusal.Refusal.TheVariants.{Foreign}
use Rattle.shifting.specs.Machine.{Ticket, Call, add, step, complete, withdraw, drop_rule, change_action, look_up, Answer, refused, Fixed, State}
use Rattle.board.specs.declared.ticket.Ticket.{Ticket as RealTicket}
use Rattle.board.specs.declared.calls.Call.{Call as RealCall}
use Rattle.board.specs.declared.calls.Call.TheVariants.{Add, Step, Complete, Withdraw, DropRule, ChangeAction, LookUp}
use Rattle.board.specs.Calls.{call_of}
use Rattle.board.specs.Serving.{Past, state_of, answer_to, one_more}
use Rattle.orders.specs.Layout.{front, whole}
use Rattle.orders.specs.Orders.{Entry}
use Rattle.order_reader.specs.File.{Ending, Cut, cut_file, front_of}
use Rattle.order_reader.proofs.Files.{Sofar}
use Rattle.order_reader.proofs.Files.{done as read_whole}
use Rattle.order_reader.proofs.Files.{one_more as read_more}
use Rattle.order_reader.proofs.Fronts.{whole_fits}
use Rattle.order_reader.specs.Reading.{entry_at}
use Rattle.order_run.specs.declared.caller.Head.{Head}
use Rattle.order_run.specs.declared.caller.Stage.{Stage}
use Rattle.order_run.specs.declared.caller.Stage.TheVariants.{Reading, Ended, Failed}
use Rattle.order_run.specs.Lines.{line, answer_line, Tells}
use Rattle.order_run.specs.Running.{Run, begun, call_in, with_ticket, ticket_after, closing, made_by, one_order, all_orders, ending_line, file_run}
use Rattle.order_run.specs.Calling.{named, Good, Free, held_with, in_hand, start_of, so_far, run_heard, Reaches, Begins, Finishes, HoldsIn, WaitsFor, IsWithdraw, Unless, Falls, reading_left}

-- one order more
all_more : (fixed : Fixed) (start : State) (run : Run) (orders : List Entry) (order : Entry) → all_orders fixed start run (orders ++ order ∷ []) ≡ one_order fixed start (all_orders fixed start run orders) order
all_more fixed start run [] order = refl
all_more fixed start run (first ∷ orders) order = all_more fixed start (one_order fixed start run first) orders order

-- the ticket that a call takes along is the one that was held
abbrev Brings : Option Ticket → Option Call → Type 0
Brings held None = Unit {0}
Brings held (Some (add new)) = Unit {0}
Brings held (Some (step ticket)) = held ≡ Some ticket
Brings held (Some (complete ticket)) = held ≡ Some ticket
Brings held (Some (withdraw ticket)) = held ≡ Some ticket
Brings held (Some (drop_rule rule)) = Unit {0}
Brings held (Some (change_action rule action)) = Unit {0}
Brings held (Some (look_up subject)) = Unit {0}

step_brings : (held : Option Ticket) → Brings held (with_ticket step held)
step_brings None = tt
step_brings (Some ticket) = refl

complete_brings : (held : Option Ticket) → Brings held (with_ticket complete held)
complete_brings None = tt
complete_brings (Some ticket) = refl

withdraw_brings : (held : Option Ticket) → Brings held (with_ticket withdraw held)
withdraw_brings None = tt
withdraw_brings (Some ticket) = refl

brings : (order : Entry) (held : Option Ticket) → Brings held (call_in order held)
brings order held =
    let P = Brings held in
    cond_both (eqb order.letter 0x41) _ _ P (λ _. tt)
    (λ _. cond_both (eqb order.letter 0x44) _ _ P (λ _. tt)
    (λ _. cond_both (eqb order.letter 0x43) _ _ P (λ _. tt)
    (λ _. cond_both (eqb order.letter 0x4C) _ _ P (λ _. tt)
    (λ _. cond_both (eqb order.letter 0x53) _ _ P (λ _. step_brings held)
    (λ _. cond_both (eqb order.letter 0x45) _ _ P (λ _. complete_brings held) (λ _. withdraw_brings held))))))

-- what is left in hand
pub record Asked (before : Past) (hand hand' : Option RealTicket) (call : Call) : Type 0 where
  pub free : Free call hand'
  pub good : Good before.fixed (state_of before) (held_with call (named hand'))
  pub same : (answer : Answer) → ticket_after (named hand) call answer ≡ ticket_after (named hand') call answer

taken_along : (before : Past) (hand hand' : Option RealTicket) (call : RealCall) → Good before.fixed (state_of before) (named hand) → Brings (named hand) (Some (call_of call)) → hand' ≡ in_hand (Some call) hand → Asked before hand hand' (call_of call)
taken_along before hand hand' (Add new) good brought is = record { free = tt; good = subst (λ h. Good before.fixed (state_of before) (named h)) (sym is) good; same = λ answer. ap (λ h. ticket_after (named h) (add new) answer) (sym is) }
taken_along before hand hand' (Step ticket) good brought is = record { free = is; good = subst (Good before.fixed (state_of before)) brought good; same = λ answer. refl }
taken_along before hand hand' (Complete ticket) good brought is = record { free = is; good = subst (Good before.fixed (state_of before)) brought good; same = λ answer. refl }
taken_along before hand hand' (Withdraw ticket) good brought is = record { free = is; good = subst (Good before.fixed (state_of before)) brought good; same = λ answer. refl }
taken_along before hand hand' (DropRule rule) good brought is = record { free = tt; good = subst (λ h. Good before.fixed (state_of before) (named h)) (sym is) good; same = λ answer. ap named (sym is) }
taken_along before hand hand' (ChangeAction rule action) good brought is = record { free = tt; good = subst (λ h. Good before.fixed (state_of before) (named h)) (sym is) good; same = λ answer. ap named (sym is) }
taken_along before hand hand' (LookUp subject) good brought is = record { free = tt; good = subst (λ h. Good before.fixed (state_of before) (named h)) (sym is) good; same = λ answer. ap named (sym is) }

-- An order makes a call or none.

run_on : (before : Past) (input : List ℕ) (offset : ℕ) (hand : Option RealTicket) (text : List ℕ) (order : Entry) (call : Option Call)
    → (on : Begins before input offset hand text order) → call_in order (named hand) ≡ call
    → made_by before.fixed (start_of before) (so_far before (named hand) text) order call ≡ all_orders before.fixed (start_of before) begun (on.orders ++ order ∷ [])
run_on before input offset hand text order call on is =
    let fixed = before.fixed in
    let start = start_of before in
    ap (made_by fixed start (so_far before (named hand) text) order) (sym is) ∙ ap (λ run. one_order fixed start run order) on.is ∙ sym (all_more fixed start begun on.orders order)

pub run_asks : (before : Past) (input : List ℕ) (offset : ℕ) (hand hand' : Option RealTicket) (text : List ℕ) (order : Entry) (head : Head) (call : RealCall)
    → Begins before input offset hand text order → call_in order (named hand) ≡ Some (call_of call) → Asked before hand hand' (call_of call)
    → head.letter ≡ order.letter → head.place ≡ order.place
    → Reaches before input offset (run_heard before (call_of call) head (named hand') text)
run_asks before input offset hand hand' text order head call on is asked letter place =
    let answer = answer_to before (call_of call) in
    record {
      orders = on.orders ++ order ∷ [];
      read = on.read;
      is = (λ i. record { calls = before.calls ++ call_of call ∷ []; ticket = sym (asked.same answer) i; text = text ++ answer_line (letter i) (place i) answer }) ∙ run_on before input offset hand text order (Some (call_of call)) on is;
    }

pub order_asks : (before : Past) (input : List ℕ) (offset : ℕ) (hand hand' : Option RealTicket) (text : List ℕ) (order : Entry) (call : RealCall)
    → Begins before input offset hand text order → Good before.fixed (state_of before) (named hand) → call_in order (named hand) ≡ Some (call_of call) → hand' ≡ in_hand (Some call) hand → Asked before hand hand' (call_of call)
order_asks before input offset hand hand' text order call on good is left = taken_along before hand hand' call good (subst (Brings (named hand)) is (brings order (named hand))) left

pub run_refuses : (before : Past) (input : List ℕ) (offset : ℕ) (hand : Option RealTicket) (text text' : List ℕ) (order : Entry)
    → Begins before input offset hand text order → call_in order (named hand) ≡ None → text' ≡ text ++ answer_line order.letter order.place (refused Foreign)
    → Reaches before input offset (so_far before (named hand) text')
run_refuses before input offset hand text text' order on is told =
    record {
      orders = on.orders ++ order ∷ [];
      read = on.read;
      is = (λ i. record { calls = before.calls; ticket = named hand; text = told i }) ∙ run_on before input offset hand text order None on is;
    }

-- Nothing more is read.
pub finished : (before : Past) (input : List ℕ) (offset : ℕ) (ticket : Option Ticket) (text : List ℕ) (ending : Ending) → Reaches before input offset (so_far before ticket text) → front (drop offset input) ≡ front_of ending
    → Finishes before input (before.calls ++ closing ticket) (text ++ ending_line offset ending)
finished before input offset ticket text ending on found =
    let fixed = before.fixed in
    let start = start_of before in
    let cut : Cut = record { entries = on.orders; place = offset; ending = ending } in
    let whole : cut ≡ cut_file input = (read_whole input on.orders offset ending on.read found).orders in
    let run : Cut → Run = λ cut. all_orders fixed start begun cut.entries in
    record {
      calls_are = ap (λ (r : Run). r.calls ++ closing r.ticket) (on.is ∙ ap run whole);
      text_is = ap (λ (r : Run). r.text ++ ending_line offset ending) on.is ∙ ap (λ (c : Cut). (run c).text ++ ending_line c.place c.ending) whole;
    }

pub ended : (before : Past) (input input' : List ℕ) (offset offset' : ℕ) (ticket : Option Ticket) (text text' : List ℕ) (ending : Ending) → Reaches before input offset (so_far before ticket text) → front (drop offset input) ≡ front_of ending
    → input' ≡ input → text' ≡ text ++ ending_line offset ending → HoldsIn Ended before input' offset' ticket text'
ended before input input' offset offset' ticket text text' ending on found same told =
    let whole = finished before input offset ticket text ending on found in
    let fixed = before.fixed in
    let start = start_of before in
    record { calls_are = whole.calls_are ∙ ap (λ bytes. (file_run fixed start bytes).calls) (sym same); text_is = told ∙ whole.text_is ∙ ap (λ bytes. (file_run fixed start bytes).text) (sym same) }

-- One order is read.
pub reads_one : (before : Past) (input input' : List ℕ) (offset offset' size : ℕ) (hand : Option RealTicket) (text : List ℕ) (order : Entry) → Reaches before input offset (so_far before (named hand) text)
    → front (drop offset input) ≡ whole size → order ≡ entry_at offset (drop offset input) size → input' ≡ input → offset' ≡ offset + size → Begins before input' offset' hand text order
reads_one before input input' offset offset' size hand text order on found is same moved =
    record {
      orders = on.orders;
      read = subst (λ bytes. Sofar bytes (on.orders ++ order ∷ []) offset') (sym same) (subst (Sofar input (on.orders ++ order ∷ [])) (sym moved) (read_more input on.orders offset order size on.read found is));
      is = on.is;
    }

-- What falls.

pub passes : (input : List ℕ) (offset size : ℕ) → front (drop offset input) ≡ whole size → (3 ≤ size) × (offset + size ≤ length input)
passes input offset size found =
    let fits = whole_fits (drop offset input) size found in
    (fits.0, omega (arith, length-drop offset input, fits.0, fits.1))

pub calls_fall : (len len' offset offset' size ends ends' : ℕ) → len' ≡ len → offset' ≡ offset + size → 3 ≤ size → offset + size ≤ len → ends' ≤ suc ends → 2 * (len' - offset') + ends' < 2 * (len - offset) + ends
calls_fall len len' offset offset' size ends ends' same moved some within few = omega arith

pub falls_any : (old new : ℕ) (call : Option RealCall) → new < old → Falls old new call
falls_any old new None less = omega arith
falls_any old new (Some call) less = less

at_most_one : (stage : Stage) → reading_left stage ≤ 1
at_most_one Reading = omega arith
at_most_one Ended = omega arith
at_most_one Failed = omega arith

pub turns_fall : (stage stage' : Stage) (len len' offset offset' size : ℕ) → stage ≡ Reading → len' ≡ len → offset' ≡ offset + size → 3 ≤ size → offset + size ≤ len → len' - offset' + reading_left stage' < len - offset + reading_left stage
turns_fall stage stage' len len' offset offset' size reading same moved some within = omega (arith, at_most_one stage', ap reading_left reading)

pub told_ended : (stage : Stage) (fact : Type 0) → Unless stage ((stage ≡ Ended) × fact) → reading_left stage ≡ 0
told_ended Reading fact told = ap reading_left told.0
told_ended Ended fact told = refl
told_ended Failed fact told = refl

pub turns_end : (stage stage' : Stage) (len len' offset offset' : ℕ) → stage ≡ Reading → reading_left stage' ≡ 0 → len' ≡ len → offset' ≡ offset → len' - offset' + reading_left stage' < len - offset + reading_left stage
turns_end stage stage' len len' offset offset' reading ended same moved = omega (arith, ap reading_left reading)

-- An answer is heard.
pub run_hears : (before : Past) (input : List ℕ) (offset : ℕ) (call : Call) (head : Head) (answer : Answer) (ticket ticket' : Option Ticket) (text text' : List ℕ)
    → Reaches before input offset (run_heard before call head ticket text) → answer ≡ answer_to before call → ticket' ≡ ticket_after ticket call answer → text' ≡ text ++ answer_line head.letter head.place answer
    → Reaches (one_more before call) input offset (so_far (one_more before call) ticket' text')
run_hears before input offset call head answer ticket ticket' text text' on answered kept told =
    record {
      orders = on.orders;
      read = on.read;
      is = (λ i. record { calls = before.calls ++ call ∷ []; ticket = (kept ∙ ap (ticket_after ticket call) answered) i; text = (told ∙ ap (λ a. text ++ answer_line head.letter head.place a) answered) i }) ∙ on.is;
    }

-- A line is written, or memory fails.

pub line_told : (letter letter' place place' refusal : ℕ) (value : Option ℕ) (answer : Answer) → letter ≡ letter' → place ≡ place' → Tells answer refusal value → line letter place refusal value ≡ answer_line letter' place' answer
line_told letter letter' place place' refusal value answer l p tells = λ i. line (l i) (p i) (tells.refusal_is i) (tells.value_is i)

pub told_holds : (stage' stage : Stage) (fact : Type 0) (before : Past) (input : List ℕ) (offset : ℕ) (ticket : Option Ticket) (text : List ℕ)
    → Unless stage' ((stage' ≡ stage) × fact) → (fact → HoldsIn stage before input offset ticket text) → HoldsIn stage' before input offset ticket text
told_holds Reading stage fact before input offset ticket text told holds = subst (λ s. HoldsIn s before input offset ticket text) (sym told.0) (holds told.1)
told_holds Ended stage fact before input offset ticket text told holds = subst (λ s. HoldsIn s before input offset ticket text) (sym told.0) (holds told.1)
told_holds Failed stage fact before input offset ticket text told holds = tt

-- The answer is heard, and its line is written, or memory fails.

pub hears : (before : Past) (stage stage' : Stage) (input : List ℕ) (offset : ℕ) (call : Call) (head : Head) (answer : Answer) (ticket ticket' : Option Ticket) (text text' : List ℕ) (refusal : ℕ) (value : Option ℕ)
    → WaitsFor (Some head) stage before call input offset ticket text → answer ≡ answer_to before call → ticket' ≡ ticket_after ticket call answer → Tells answer refusal value
    → Unless stage' ((stage' ≡ stage) × (text' ≡ text ++ line head.letter head.place refusal value))
    → HoldsIn stage' (one_more before call) input offset ticket' text'
hears before Reading stage' input offset call head answer ticket ticket' text text' refusal value waits answered kept tells told =
    told_holds stage' Reading _ (one_more before call) input offset ticket' text' told
    (λ written. run_hears before input offset call head answer ticket ticket' text text' waits.1 answered kept (written ∙ ap (λ l. text ++ l) (line_told head.letter head.letter head.place head.place refusal value answer refl refl tells)))
hears before Ended stage' input offset call head answer ticket ticket' text text' refusal value waits answered kept tells told = absurd waits
hears before Failed stage' input offset call head answer ticket ticket' text text' refusal value waits answered kept tells told = absurd waits

-- The withdraw at the end.

pub is_last : (before : Past) (stage : Stage) (input : List ℕ) (offset : ℕ) (call : Call) (ticket : Option Ticket) (text : List ℕ) → WaitsFor None stage before call input offset ticket text → IsWithdraw call
is_last before Reading input offset call ticket text waits = absurd waits
is_last before Ended input offset call ticket text waits = waits.0
is_last before Failed input offset call ticket text waits = waits

pub hears_last : (before : Past) (stage : Stage) (input : List ℕ) (offset : ℕ) (call : Call) (ticket ticket' : Option Ticket) (text : List ℕ)
    → WaitsFor None stage before call input offset ticket text → ticket' ≡ None → HoldsIn stage (one_more before call) input offset ticket' text
hears_last before Reading input offset call ticket ticket' text waits none = absurd waits
hears_last before Ended input offset call ticket ticket' text waits none =
    record { calls_are = ap (λ t. (before.calls ++ call ∷ []) ++ closing t) none ∙ append-nil (before.calls ++ call ∷ []) ∙ waits.1.calls_are; text_is = waits.1.text_is }
hears_last before Failed input offset call ticket ticket' text waits none = tt

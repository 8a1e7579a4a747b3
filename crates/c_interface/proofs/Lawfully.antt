-- A call that takes the machine's turn keeps the law. Assumes nothing.
use Rattle.std.proofs.Common.{◌≡◌, ℕ, Bool, true, false, cond, eqb, length, Some, None, Option, refl}
use Rattle.rules.specs.declared.rule.Rule.{Rule}
use Rattle.rules.specs.declared.event.Event.{Event}
use Rattle.rules.specs.Kinds.{KindLaws}
use Rattle.rules.specs.Slots.{all_after}
use Rattle.shifting.specs.Machine.{Ticket, Call, add, step, complete, withdraw, drop_rule, change_action, look_up, Fixed, cleared, erases, after}
use Rattle.shifting.specs.Law.{Sized, Worded}
use Rattle.shifting.proofs.Serving.{sized_from}
use Rattle.turns.specs.Shown.{Seen, Shows, ticket_of}
use Rattle.board.proofs.Lawed.{led_start, led_on}
use Rattle.c_interface.specs.declared.forms.CallRecord.{CallRecord}
use Rattle.c_interface.specs.declared.forms.AnswerRecord.{AnswerRecord}
use Rattle.c_interface.specs.Crossing.{call_of, Tells, Obeys, Opens}

-- a rule that is added has words of 64 bits
abbrev pub SizedIn : Option Call → Type 0
SizedIn None = Unit {0}
SizedIn (Some call) = Sized call

-- whichever test picks the call
sized_among : (new : Rule) → Worded new → (ticket : Ticket) (number action subject : ℕ) (a s e w d c l : Bool)
    → SizedIn (cond a (Some (add new)) (cond s (Some (step ticket)) (cond e (Some (complete ticket)) (cond w (Some (withdraw ticket)) (cond d (Some (drop_rule number)) (cond c (Some (change_action number action)) (cond l (Some (look_up subject)) None)))))))
sized_among new words ticket number action subject true s e w d c l = sized_from (add new) words
sized_among new words ticket number action subject false true e w d c l = sized_from (step ticket) tt
sized_among new words ticket number action subject false false true w d c l = sized_from (complete ticket) tt
sized_among new words ticket number action subject false false false true d c l = sized_from (withdraw ticket) tt
sized_among new words ticket number action subject false false false false true c l = sized_from (drop_rule number) tt
sized_among new words ticket number action subject false false false false false true l = sized_from (change_action number action) tt
sized_among new words ticket number action subject false false false false false false true = sized_from (look_up subject) tt
sized_among new words ticket number action subject false false false false false false false = tt

pub sized_in : (call : CallRecord) → Worded call.rule → SizedIn (call_of call)
sized_in call words =
    sized_among call.rule words (ticket_of call.ticket) call.rule.number call.rule.action call.subject
    (eqb call.letter 0x41) (eqb call.letter 0x53) (eqb call.letter 0x45) (eqb call.letter 0x57) (eqb call.letter 0x44) (eqb call.letter 0x43) (eqb call.letter 0x4C)

pub opens : {Memory : Type 0} (fixed : ℕ → Fixed) (stored : Memory → Event → Memory) (before behind : Seen Memory) → ((board : ℕ) → Shows behind (cleared (fixed board) before.slots before.trace))
    → behind.memory ≡ all_after stored before.memory (erases 0 (length before.slots)) → Opens fixed stored before behind
unfolding Opens
opens fixed stored before behind shows is board = led_start (fixed board) stored before.slots before.trace before.memory behind (shows board) is

pub obeys : {Memory : Type 0} (fixed : Fixed) (stored : Memory → Event → Memory) → KindLaws fixed.kind → (call : Option Call) (answer : AnswerRecord) (before behind : Seen Memory) → SizedIn call
    → Tells fixed stored call answer before behind → Obeys fixed stored call answer before behind
obeys fixed stored laws None answer before behind one tells = tells
obeys fixed stored laws (Some call) answer before behind one tells = λ slots trace calls led.
    let taken = tells (after fixed (cleared fixed slots trace) calls) (record { slots = slots; trace = trace; calls = calls; sized = led.sized; is = refl }) led.shows in
    (taken.0, led_on fixed stored laws slots trace calls call before behind one led taken.1 taken.2)

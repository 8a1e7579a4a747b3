-- A caller that is served, from call to call. Assumes nothing.
use Rattle.std.proofs.Common.{◌≡◌, ℕ, List, [], ◌∷◌, ◌++◌}
use Rattle.rules.specs.declared.event.Event.{Event}
use Rattle.shifting.specs.Slots.{Slot}
use Rattle.shifting.specs.Machine.{Call, Fixed}
use Rattle.turns.specs.Shown.{Seen}
use Rattle.board.specs.declared.calls.Answer.{Answer as RealAnswer}
use Rattle.board.specs.Calls.{answer_of, returned, goes_back}
use Rattle.board.specs.Past.{Past, past, one_more}
use Rattle.board.specs.Led.{Led, Lawfully}
use Rattle.board.specs.Serving.{Between, Waiting, Answers}

-- the calls so far, of which the caller knows, and the board that they led to
pub record Serving {C Memory : Type 0} (holds : Between C) (fixed : Fixed) (stored : Memory → Event → Memory) (slots : List Slot) (trace : ℕ) (memory : Memory) (caller : C) (board : Seen Memory) : Type 0 where
  pub calls : List Call
  pub led : Led stored memory (past fixed slots trace calls) board
  pub held : holds caller (past fixed slots trace calls)

module _ {C Memory : Type 0} (holds : Between C) (fixed : Fixed) (stored : Memory → Event → Memory) where
  pub serves_more : (waits : Waiting C) (slots : List Slot) (trace : ℕ) (memory : Memory) (caller asking heard : C) (board behind : Seen Memory) (call : Call) (answer : RealAnswer)
      → Serving holds fixed stored slots trace memory caller board → Lawfully fixed stored call (answer_of answer) board behind → returned answer ≡ goes_back call (answer_of answer)
      → ((before : Past) → holds caller before → waits asking before call)
      → ((before : Past) (one : Call) → waits asking before one → Answers before one answer → holds heard (one_more before one))
      → Serving holds fixed stored slots trace memory heard behind
  serves_more waits slots trace memory caller asking heard board behind call answer on lawful back asks hears =
      let calls = on.calls in
      let more = lawful slots trace calls on.led.by in
      record {
        calls = calls ++ call ∷ [];
        led = more.lent memory on.led;
        held = hears (past fixed slots trace calls) call (asks (past fixed slots trace calls) on.held) (record { answered = more.answered; back = back });
      }

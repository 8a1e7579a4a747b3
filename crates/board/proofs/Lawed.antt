-- A call that takes the machine's turn keeps the law. Assumes nothing.
use Rattle.std.proofs.Common.{◌≡◌, ℕ, List, [], ◌∷◌, ◌++◌, length, sym, refl, ap, ◌∙◌, subst}
use Rattle.rules.specs.declared.event.Event.{Event}
use Rattle.rules.specs.Kinds.{KindLaws}
use Rattle.rules.specs.Slots.{all_after}
use Rattle.shifting.specs.Slots.{Slot}
use Rattle.shifting.specs.Machine.{Call, Answer, Fixed, cleared, erases, turn, after}
use Rattle.shifting.specs.Law.{Sized}
use Rattle.shifting.proofs.Serving.{Brings, sized_from, after_push, sized_push}
use Rattle.shifting.proofs.Events.{run_started, run_push}
use Rattle.shifting.proofs.Lawful.{law_of_runs}
use Rattle.turns.specs.Shown.{Seen, Shows, Takes}
use Rattle.board.specs.Past.{past, one_more, state_of, answer_to}
use Rattle.board.specs.Led.{LedBy, Led, LedOn, Lawfully}

module _ {Memory : Type 0} (fixed : Fixed) (stored : Memory → Event → Memory) where
  pub led_start : (slots : List Slot) (trace : ℕ) (memory : Memory) (board : Seen Memory) → Shows board (cleared fixed slots trace) → board.memory ≡ all_after stored memory (erases 0 (length slots))
      → Led stored memory (past fixed slots trace []) board
  led_start slots trace memory board shows is = record { by = record { sized = tt; shows = shows }; lent = is ∙ sym (run_started stored fixed slots trace memory) }

  -- one call more
  pub led_on : KindLaws fixed.kind → (slots : List Slot) (trace : ℕ) (calls : List Call) (call : Call) (before behind : Seen Memory) → Sized call → LedBy (past fixed slots trace calls) before
      → Shows behind (turn fixed (state_of (past fixed slots trace calls)) call).next → behind.memory ≡ all_after stored before.memory (turn fixed (state_of (past fixed slots trace calls)) call).events
      → LedOn stored (past fixed slots trace calls) call (answer_to (past fixed slots trace calls) call) before behind
  led_on laws slots trace calls call before behind one led shows is =
      let start = cleared fixed slots trace in
      let by : LedBy (one_more (past fixed slots trace calls) call) behind = record { sized = sized_push calls call led.sized one; shows = subst (Shows behind) (sym (after_push fixed calls start call)) shows } in
      record {
        answered = refl;
        led = by;
        lent = λ memory was. record { by = by; lent = is ∙ ap (λ (m : Memory). all_after stored m (turn fixed (after fixed start calls) call).events) was.lent ∙ sym (run_push stored fixed slots trace calls call memory) };
        law = law_of_runs fixed laws slots trace (calls ++ call ∷ []) by.sized;
      }

  pub lawfully : KindLaws fixed.kind → (call : Call) (answer : Answer) (before behind : Seen Memory) → Brings call → Takes fixed stored call answer before behind → Lawfully fixed stored call answer before behind
  lawfully laws call answer before behind one takes slots trace calls led =
      let taken = takes (after fixed (cleared fixed slots trace) calls) (record { slots = slots; trace = trace; calls = calls; sized = led.sized; is = refl }) led.shows in
      let on = led_on laws slots trace calls call before behind (sized_from call one) led taken.1 taken.2 in
      record { answered = taken.0; led = on.led; lent = on.lent; law = on.law }

-- The events of a run, one call on. Assumes nothing.
use Rattle.std.proofs.Common.{◌≡◌, ℕ, List, [], ◌∷◌, ◌++◌, length, sym, refl, ap, ◌∙◌}
use Rattle.rules.specs.declared.event.Event.{Event}
use Rattle.rules.specs.Slots.{all_after}
use Rattle.shifting.specs.Slots.{Slot}
use Rattle.shifting.specs.Machine.{Call, State, Fixed, cleared, erases, turn, after, events_of, run_events}

module _ {X : Type 0} (made : X → Event → X) where
  all_after_both : (x : X) (first then : List Event) → all_after made x (first ++ then) ≡ all_after made (all_after made x first) then
  all_after_both x [] then = refl
  all_after_both x (event ∷ first) then = all_after_both (made x event) first then

  events_push : (fixed : Fixed) (calls : List Call) (state : State) (call : Call) (x : X)
      → all_after made x (events_of fixed state (calls ++ call ∷ [])) ≡ all_after made (all_after made x (events_of fixed state calls)) (turn fixed (after fixed state calls) call).events
  events_push fixed [] state call x = all_after_both x (turn fixed state call).events []
  events_push fixed (first ∷ calls) state call x =
      let events = (turn fixed state first).events in
      let next = (turn fixed state first).next in
      all_after_both x events (events_of fixed next (calls ++ call ∷ []))
      ∙ events_push fixed calls next call (all_after made x events)
      ∙ sym (ap (λ (y : X). all_after made y (turn fixed (after fixed next calls) call).events) (all_after_both x events (events_of fixed next calls)))

  pub run_started : (fixed : Fixed) (slots : List Slot) (trace : ℕ) (x : X) → all_after made x (run_events fixed slots trace []) ≡ all_after made x (erases 0 (length slots))
  run_started fixed slots trace x = all_after_both x (erases 0 (length slots)) []

  pub run_push : (fixed : Fixed) (slots : List Slot) (trace : ℕ) (calls : List Call) (call : Call) (x : X)
      → all_after made x (run_events fixed slots trace (calls ++ call ∷ []))
      ≡ all_after made (all_after made x (run_events fixed slots trace calls)) (turn fixed (after fixed (cleared fixed slots trace) calls) call).events
  run_push fixed slots trace calls call x =
      let opening = erases 0 (length slots) in
      let start = cleared fixed slots trace in
      all_after_both x opening (events_of fixed start (calls ++ call ∷ []))
      ∙ events_push fixed calls start call (all_after made x opening)
      ∙ sym (ap (λ (y : X). all_after made y (turn fixed (after fixed start calls) call).events) (all_after_both x opening (events_of fixed start calls)))

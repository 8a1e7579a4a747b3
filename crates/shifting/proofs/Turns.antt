-- What holds of every turn of the machine: a call is one of a few turns, which its tests choose. Assumes nothing.
use Rattle.std.proofs.Common.{◌≡◌, ℕ, false, cond, not, ◌||◌, eqb, ltb, List, length, Some, None, Option, refl}
use Rattle.std.proofs.lemmas.Bool.{cond_both}
use Rattle.rules.specs.declared.rule.Rule.{Rule}
use Rattle.rules.specs.declared.event.Event.{Event}
use Rattle.rules.specs.declared.refusal.Refusal.{Refusal}
use Rattle.rules.specs.declared.refusal.Refusal.TheVariants.{Busy, Mangled, Known, Tied, Crossed, NoSlot, Unknown, Foreign, RunOut}
use Rattle.shifting.specs.Slots.{tied, crossed, no_slot, all_carried_out}
use Rattle.shifting.specs.Machine.{Ticket, Call, add, step, complete, withdraw, drop_rule, change_action, look_up, Answer, Job, State, Fixed, Turn, number_in, written, all_traced}
use Rattle.shifting.specs.Machine.{does, refuse, when_idle, names, when_named, when_standing, place, open_add, try_add, make_one, make_all, take_back, erase_rule, rewrite_rule, turn}

module _ (fixed : Fixed) (state : State) (P : Turn → Type 0) where
  pub by_idle : (made : Turn) → P (refuse fixed state Busy) → P made → (job : Option Job) → P (when_idle fixed state job made)
  by_idle made busy idle None = idle
  by_idle made busy idle (Some job) = busy

  pub by_named : (ticket : Ticket) (made : Job → Turn) → P (refuse fixed state Foreign) → (open_add : Option Job) → ((job : Job) → open_add ≡ Some job → P (made job))
      → P (when_named fixed state ticket open_add made)
  by_named ticket made foreign None named = foreign
  by_named ticket made foreign (Some job) named = cond_both (names fixed state ticket job) (made job) (refuse fixed state Foreign) P (λ _. named job refl) (λ _. foreign)

  pub by_standing : (number : ℕ) (made : Turn) → P (refuse fixed state Unknown) → P made → P (when_standing fixed state number made)
  by_standing number made unknown standing =
      cond_both (eqb number 0 || not (ltb (place fixed state number) (length state.slots))) (refuse fixed state Unknown) made P (λ _. unknown) (λ _. standing)

  pub by_step : (job : Job) → P (refuse fixed state RunOut) → (written job ≡ false → P (make_one fixed state job))
      → P (cond (written job) (refuse fixed state RunOut) (make_one fixed state job))
  by_step job run_out one = cond_both (written job) (refuse fixed state RunOut) (make_one fixed state job) P (λ _. run_out) one

  -- what a rule has passed when its add is opened
  pub record Passed (new : Rule) : Type 0 where
    pub fine : (eqb new.number 0 || not (fixed.kind.well_formed new.word_a new.word_b)) ≡ false
    pub unused : number_in new.number state.rules ≡ false
    pub untied : tied fixed.kind state.slots new ≡ false
    pub straight : crossed fixed.kind state.slots new ≡ false
    pub has_slot : no_slot fixed.kind state.slots new ≡ false

  pub by_add : (new : Rule) → ((why : Refusal) → P (refuse fixed state why)) → (Passed new → P (open_add fixed state new)) → P (try_add fixed state new)
  by_add new refusal opening =
      cond_both (eqb new.number 0 || not (fixed.kind.well_formed new.word_a new.word_b)) _ _ P (λ _. refusal Mangled)
      (λ fine. cond_both (number_in new.number state.rules) _ _ P (λ _. refusal Known)
      (λ unused. cond_both (tied fixed.kind state.slots new) _ _ P (λ _. refusal Tied)
      (λ untied. cond_both (crossed fixed.kind state.slots new) _ _ P (λ _. refusal Crossed)
      (λ straight. cond_both (no_slot fixed.kind state.slots new) _ _ P (λ _. refusal NoSlot)
      (λ has_slot. opening (record { fine = fine; unused = unused; untied = untied; straight = straight; has_slot = has_slot }))))))

  every_turn : ((answer : Answer) (events : List Event) (rules : List Rule) (job : Option Job) → P (does fixed state answer events rules job)) → (call : Call) → P (turn fixed state call)
  every_turn each (add new) = by_idle (try_add fixed state new) (each _ _ _ _) (by_add new (λ why. each _ _ _ _) (λ _. each _ _ _ _)) state.job
  every_turn each (step ticket) =
      by_named ticket (λ job. cond (written job) (refuse fixed state RunOut) (make_one fixed state job)) (each _ _ _ _) state.job
      (λ job _. by_step job (each _ _ _ _) (λ _. each _ _ _ _))
  every_turn each (complete ticket) = by_named ticket (make_all fixed state) (each _ _ _ _) state.job (λ job _. each _ _ _ _)
  every_turn each (withdraw ticket) = by_named ticket (take_back fixed state) (each _ _ _ _) state.job (λ job _. each _ _ _ _)
  every_turn each (drop_rule number) =
      by_idle (when_standing fixed state number (erase_rule fixed state number)) (each _ _ _ _) (by_standing number (erase_rule fixed state number) (each _ _ _ _) (each _ _ _ _)) state.job
  every_turn each (change_action number action) =
      by_idle (when_standing fixed state number (rewrite_rule fixed state number action)) (each _ _ _ _)
      (by_standing number (rewrite_rule fixed state number action) (each _ _ _ _) (each _ _ _ _)) state.job
  every_turn each (look_up subject) = cond_both (fixed.kind.well_formed_subject subject) _ _ P (λ _. each _ _ _ _) (λ _. each _ _ _ _)

-- slots and trace are what the events make of those before
pub slots_by_events : (fixed : Fixed) (state : State) (call : Call) → (turn fixed state call).next.slots ≡ all_carried_out state.slots (turn fixed state call).events
slots_by_events fixed state =
    every_turn fixed state (λ made. made.next.slots ≡ all_carried_out state.slots made.events) (λ answer events rules job. refl)

pub trace_by_events : (fixed : Fixed) (state : State) (call : Call) → (turn fixed state call).next.trace ≡ all_traced fixed.traced state.trace (turn fixed state call).events
trace_by_events fixed state =
    every_turn fixed state (λ made. made.next.trace ≡ all_traced fixed.traced state.trace made.events) (λ answer events rules job. refl)

-- A ticket that names the open add goes on to name it until it is given back. Assumes nothing.
use Rattle.std.proofs.Common.{◌≡◌, suc, true, cond, not, ◌||◌, eqb, ltb, length, Some, None, Option, sym, refl, subst}
use Rattle.std.proofs.lemmas.Bool.{cond-true, cond_both, eq-eqb, and_from}
use Rattle.rules.specs.declared.rule.Rule.{Rule}
use Rattle.rules.specs.declared.refusal.Refusal.TheVariants.{Busy, RunOut, Foreign, Unknown}
use Rattle.shifting.specs.Slots.{tied, crossed, no_slot, jump_chain}
use Rattle.shifting.specs.Machine.{Ticket, Call, add, step, complete, withdraw, drop_rule, change_action, look_up, Answer, opened, counted, done, found, refused, Job, State, Fixed, Turn, turn, refuse, when_idle, when_named, names, number_in, open_add, try_add, make_one, make_all, take_back, when_standing, erase_rule, rewrite_rule, written, place}
use Rattle.order_run.specs.Running.{ticket_after, opened_or}
use Rattle.board.specs.Calls.{on_refusal}
use Rattle.order_run.specs.Calling.{Good, held_with, named}
use Rattle.board.specs.declared.ticket.Ticket.{Ticket as RealTicket}

-- only an add opens a ticket, and only where none is in hand
abbrev pub Opens : {T : Type 0} → Call → Option T → Answer → Type 0
Opens (add new) hand (opened ticket) = hand ≡ None
Opens (step one) hand (opened ticket) = ⊥
Opens (complete one) hand (opened ticket) = ⊥
Opens (withdraw one) hand (opened ticket) = ⊥
Opens (drop_rule rule) hand (opened ticket) = ⊥
Opens (change_action rule action) hand (opened ticket) = ⊥
Opens (look_up subject) hand (opened ticket) = ⊥
Opens call hand (counted count) = Unit {0}
Opens call hand done = Unit {0}
Opens call hand (found told) = Unit {0}
Opens call hand (refused refusal) = Unit {0}

none_yet : (new : Rule) (answer : Answer) → Opens {T = RealTicket} (add new) None answer
none_yet new (opened ticket) = refl
none_yet new (counted count) = tt
none_yet new done = tt
none_yet new (found told) = tt
none_yet new (refused refusal) = tt

module _ (fixed : Fixed) (state : State) where
  busy : (P : Turn → Type 0) (job : Job) (made : Turn) → state.job ≡ Some job → P (refuse fixed state Busy) → P (when_idle fixed state state.job made)
  busy P job made under p = subst (λ o. P (when_idle fixed state o made)) (sym under) p

  idle_or_not : (P : Turn → Type 0) (o : Option Job) (made : Turn) → P made → P (refuse fixed state Busy) → P (when_idle fixed state o made)
  idle_or_not P None made p q = p
  idle_or_not P (Some job) made p q = q

  named_one : (P : Turn → Type 0) (ticket : Ticket) (job : Job) (made : Job → Turn) → state.job ≡ Some job → names fixed state ticket job ≡ true → P (made job) → P (when_named fixed state ticket state.job made)
  named_one P ticket job made under good p =
      subst (λ o. P (when_named fixed state ticket o made)) (sym under) (subst P (sym (cond-true (names fixed state ticket job) (made job) (refuse fixed state Foreign) good)) p)

  named_or_not : (P : Turn → Type 0) (ticket : Ticket) (o : Option Job) (made : Job → Turn) → ((job : Job) → P (made job)) → P (refuse fixed state Foreign) → P (when_named fixed state ticket o made)
  named_or_not P ticket None made p q = q
  named_or_not P ticket (Some job) made p q = cond_both (names fixed state ticket job) (made job) (refuse fixed state Foreign) P (λ _. p job) (λ _. q)

  -- a turn that leaves the ticket good
  abbrev Leaves : Ticket → Turn → Type 0
  Leaves ticket made = Good fixed made.next (Some ticket)

  opened_good : (new : Rule) → Good fixed (open_add fixed state new).next (opened_or None (open_add fixed state new).answer)
  opened_good new =
      let job : Job = record { rule = new; chain = jump_chain fixed.kind state.slots new; made = 0 } in
      (job, refl, and_from _ _ (eq-eqb fixed.board fixed.board refl) (and_from _ _ (eq-eqb new.number new.number refl) (eq-eqb (length job.chain) (length job.chain) refl)))

  pub good_after : (call : Call) (hand : Option Ticket) → Good fixed state (held_with call hand) → Good fixed (turn fixed state call).next (ticket_after hand call (turn fixed state call).answer)
  good_after (add new) None good =
      let P : Turn → Type 0 = λ made. Good fixed made.next (opened_or None made.answer) in
      idle_or_not P state.job (try_add fixed state new)
      (cond_both (eqb new.number 0 || not (fixed.kind.well_formed new.word_a new.word_b)) _ _ P (λ _. tt)
      (λ _. cond_both (number_in new.number state.rules) _ _ P (λ _. tt)
      (λ _. cond_both (tied fixed.kind state.slots new) _ _ P (λ _. tt)
      (λ _. cond_both (crossed fixed.kind state.slots new) _ _ P (λ _. tt)
      (λ _. cond_both (no_slot fixed.kind state.slots new) _ _ P (λ _. tt) (λ _. opened_good new))))))
      tt
  good_after (add new) (Some ticket) (job, under, good) =
      busy (λ made. Good fixed made.next (opened_or (Some ticket) made.answer)) job (try_add fixed state new) under (job, under, good)
  good_after (step ticket) hand (job, under, good) =
      named_one (Leaves ticket) ticket job (λ one. cond (written one) (refuse fixed state RunOut) (make_one fixed state one)) under good
      (cond_both (written job) _ _ (Leaves ticket) (λ _. (job, under, good)) (λ _. (record { rule = job.rule; chain = job.chain; made = suc job.made }, refl, good)))
  good_after (complete ticket) hand (job, under, good) =
      named_one (λ made. Good fixed made.next (on_refusal ticket made.answer)) ticket job (make_all fixed state) under good tt
  good_after (withdraw ticket) hand (job, under, good) =
      named_one (λ made. Good fixed made.next (on_refusal ticket made.answer)) ticket job (take_back fixed state) under good tt
  good_after (drop_rule rule) None good = tt
  good_after (drop_rule rule) (Some ticket) (job, under, good) =
      busy (Leaves ticket) job (when_standing fixed state rule (erase_rule fixed state rule)) under (job, under, good)
  good_after (change_action rule action) None good = tt
  good_after (change_action rule action) (Some ticket) (job, under, good) =
      busy (Leaves ticket) job (when_standing fixed state rule (rewrite_rule fixed state rule action)) under (job, under, good)
  good_after (look_up subject) None good = tt
  good_after (look_up subject) (Some ticket) (job, under, good) =
      cond_both (fixed.kind.well_formed_subject subject) _ _ (Leaves ticket) (λ _. (job, under, good)) (λ _. (job, under, good))

  -- a withdraw of a good ticket is not refused
  pub withdrawn : (ticket : Ticket) → Good fixed state (Some ticket) → on_refusal ticket (turn fixed state (withdraw ticket)).answer ≡ None
  withdrawn ticket (job, under, good) = named_one (λ made. on_refusal ticket made.answer ≡ None) ticket job (take_back fixed state) under good refl

  pub opens : (call : Call) (hand : Option RealTicket) → Good fixed state (held_with call (named hand)) → Opens call hand (turn fixed state call).answer
  opens (add new) None good = none_yet new (turn fixed state (add new)).answer
  opens (add new) (Some ticket) (job, under, good) =
      busy (λ made. Opens (add new) (Some ticket) made.answer) job (try_add fixed state new) under tt
  opens (step ticket) hand good =
      let P : Turn → Type 0 = λ made. Opens (step ticket) hand made.answer in
      named_or_not P ticket state.job (λ one. cond (written one) (refuse fixed state RunOut) (make_one fixed state one))
      (λ job. cond_both (written job) (refuse fixed state RunOut) (make_one fixed state job) P (λ _. tt) (λ _. tt)) tt
  opens (complete ticket) hand good = named_or_not (λ made. Opens (complete ticket) hand made.answer) ticket state.job (make_all fixed state) (λ _. tt) tt
  opens (withdraw ticket) hand good = named_or_not (λ made. Opens (withdraw ticket) hand made.answer) ticket state.job (take_back fixed state) (λ _. tt) tt
  opens (drop_rule rule) hand good =
      let P : Turn → Type 0 = λ made. Opens (drop_rule rule) hand made.answer in
      idle_or_not P state.job (when_standing fixed state rule (erase_rule fixed state rule))
      (cond_both (eqb rule 0 || not (ltb (place fixed state rule) (length state.slots))) (refuse fixed state Unknown) (erase_rule fixed state rule) P (λ _. tt) (λ _. tt)) tt
  opens (change_action rule action) hand good =
      let P : Turn → Type 0 = λ made. Opens (change_action rule action) hand made.answer in
      idle_or_not P state.job (when_standing fixed state rule (rewrite_rule fixed state rule action))
      (cond_both (eqb rule 0 || not (ltb (place fixed state rule) (length state.slots))) (refuse fixed state Unknown) (rewrite_rule fixed state rule action) P (λ _. tt) (λ _. tt)) tt
  opens (look_up subject) hand good =
      cond_both (fixed.kind.well_formed_subject subject) _ _ (λ (made : Turn). Opens (look_up subject) hand made.answer) (λ _. tt) (λ _. tt)

-- When an add is refused, and when it opens a ticket. Assumes nothing.
use Rattle.std.proofs.Common.{◌≡◌, ℕ, true, false, cond, eqb, List, [], ◌∷◌, length, Some, None, sym, refl, ap, ◌∙◌, subst, inl, inr}
use Rattle.std.proofs.lemmas.Bool.{cond_both, cond-false, both_ways, ne_eqb, eqb-true, and_parts, or_from, not_from_true}
use Rattle.rules.specs.declared.rule.Rule.{Rule}
use Rattle.rules.specs.declared.refusal.Refusal.{Refusal}
use Rattle.rules.specs.declared.refusal.Refusal.TheVariants.{Crossed, NoSlot}
use Rattle.rules.specs.Kinds.{KindLaws}
use Rattle.shifting.specs.Slots.{Slot, at, usable, meets, level, tied, crossed, no_slot, jump_chain}
use Rattle.shifting.specs.Machine.{Ticket, add, opened, refused, State, Fixed, Turn, number_in, refuse, when_idle, open_add, try_add, turn}
use Rattle.shifting.specs.Law.{In, NewUntied, Refuses, NoChain}
use Rattle.shifting.proofs.Scans.{some_below_hit}
use Rattle.shifting.proofs.Settled.{Settled}
use Rattle.shifting.proofs.Turns.{by_idle, by_add}
use Rattle.shifting.proofs.Spans.{false_from, jump_shortest_chain, crossed_none, no_slot_none}

absent_number : (number : ℕ) (rules : List Rule) → ((rule : Rule) → In rule rules → rule.number ≡ number → ⊥) → number_in number rules ≡ false
absent_number number [] other = refl
absent_number number (rule ∷ rules) other =
    or_from _ _ (ne_eqb rule.number number (other rule (inl refl))) (absent_number number rules (λ one is. other one (inr is)))

module _ (fixed : Fixed) (laws : KindLaws fixed.kind) (state : State) (new : Rule) where
  level_rule : (slot : Slot) → level fixed.kind new slot ≡ true → (rule : Rule) × (slot ≡ Some rule) × (meets fixed.kind new rule ≡ true) × (rule.priority ≡ new.priority)
  level_rule None test = absurd (both_ways false refl test)
  level_rule (Some rule) test =
      let parts = and_parts (meets fixed.kind new rule) (eqb rule.priority new.priority) test in
      (rule, refl, parts.0, eqb-true rule.priority new.priority parts.1)

  untied_slots : Settled fixed.kind state.slots state.rules → NewUntied fixed state new → tied fixed.kind state.slots new ≡ false
  untied_slots settled fresh =
      false_from (tied fixed.kind state.slots new)
      (λ tie.
      let place = some_below_hit (λ i. level fixed.kind new (at state.slots i)) (usable state.slots) tie in
      let found = level_rule (at state.slots place.0) place.2 in
      fresh.untied found.0 (settled.stocked.only place.0 found.0 found.1) found.2 found.3)

  -- what an idle board does with a new, untied rule
  new_untied_turn : state.job ≡ None → Settled fixed.kind state.slots state.rules → NewUntied fixed state new
      → turn fixed state (add new)
      ≡ cond (crossed fixed.kind state.slots new) (refuse fixed state Crossed) (cond (no_slot fixed.kind state.slots new) (refuse fixed state NoSlot) (open_add fixed state new))
  new_untied_turn idle settled fresh =
      ap (λ job. when_idle fixed state job (try_add fixed state new)) idle
      ∙ (cond-false _ _ _ (or_from _ _ (ne_eqb new.number 0 fresh.numbered) (not_from_true _ fresh.well_formed))
      ∙ (cond-false _ _ _ (absent_number new.number state.rules fresh.unused) ∙ cond-false _ _ _ (untied_slots settled fresh)))

  pub refuses_exactly : state.job ≡ None → Settled fixed.kind state.slots state.rules → NewUntied fixed state new
      → (Refuses fixed state new → NoChain fixed state new) × (NoChain fixed state new → Refuses fixed state new)
  refuses_exactly idle settled fresh =
      subst (λ (done : Turn). (((why : Refusal) × (done.answer ≡ refused why)) → NoChain fixed state new) × (NoChain fixed state new → (why : Refusal) × (done.answer ≡ refused why)))
      (sym (new_untied_turn idle settled fresh))
      (cond_both _ _ _ Exactly
      (λ cross. (λ _. crossed_none fixed.kind state.slots new cross, λ _. (Crossed, refl)))
      (λ straight. cond_both _ _ _ Exactly
      (λ none. (λ _. no_slot_none fixed.kind state.slots new none, λ _. (NoSlot, refl)))
      (λ has_slot. (
        λ refusal. cc refusal.1,
        λ none. absurd (none (jump_chain fixed.kind state.slots new) (jump_shortest_chain fixed.kind state.slots new straight has_slot).0),
      ))))
    where
      Exactly : Turn → Type 0
      Exactly done = (((why : Refusal) × (done.answer ≡ refused why)) → NoChain fixed state new) × (NoChain fixed state new → (why : Refusal) × (done.answer ≡ refused why))

  -- an add that answers with a ticket
  pub record Opens (ticket : Ticket) : Type 0 where
    pub straight : crossed fixed.kind state.slots new ≡ false
    pub has_slot : no_slot fixed.kind state.slots new ≡ false
    pub announced : ticket.length ≡ length (jump_chain fixed.kind state.slots new)
    pub next_job : (turn fixed state (add new)).next.job ≡ Some (record { rule = new; chain = jump_chain fixed.kind state.slots new; made = 0 })

  same_ticket : {one two : Ticket} → opened one ≡ opened two → one ≡ two
  same_ticket same = cc

  pub opens : (ticket : Ticket) → (turn fixed state (add new)).answer ≡ opened ticket → Opens ticket
  opens ticket answer =
      let one = by_idle fixed state Result (try_add fixed state new) (λ same. cc)
      (by_add fixed state Result new (λ why same. cc) (λ passed same. (passed.straight, passed.has_slot, ap (λ t. t.length) (sym (same_ticket same)), refl)))
      state.job answer in
      record { straight = one.0; has_slot = one.1; announced = one.2; next_job = one.3 }
    where
      Result : Turn → Type 0
      Result done = done.answer ≡ opened ticket → (crossed fixed.kind state.slots new ≡ false) × (no_slot fixed.kind state.slots new ≡ false)
          × (ticket.length ≡ length (jump_chain fixed.kind state.slots new))
          × (done.next.job ≡ Some (record { rule = new; chain = jump_chain fixed.kind state.slots new; made = 0 }))

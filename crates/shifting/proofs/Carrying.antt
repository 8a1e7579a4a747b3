-- An open add is carried through by as many writes as its chain has slots, whatever other calls come between. Assumes nothing.
use Rattle.std.proofs.Common.{◌≡◌, ℕ, suc, ◌+◌, ◌-◌, ◌<◌, ◌≤◌, false, cond, List, [], ◌∷◌, ◌++◌, reverse, length, take, Some, Option, sym, refl, ap, ◌∙◌, subst, inl, inr, ⊎_elim, arith}
use Rattle.std.proofs.lemmas.Bool.{cond_both, eqb-false}
use Rattle.std.proofs.lemmas.List.{length-drop, length-reverse}
use Rattle.rules.specs.declared.refusal.Refusal.TheVariants.{RunOut}
use Rattle.shifting.specs.Machine.{Call, add, step, complete, withdraw, drop_rule, change_action, look_up, Ticket, counted, Job, State, Fixed, Turn}
use Rattle.shifting.specs.Machine.{refuse, when_idle, make_one, make_all, take_back, written, writes, unwritten, turn, after}
use Rattle.shifting.specs.Law.{TakesTicket, StaysOpen, CarriesThrough, writes_of, writes_made}
use Rattle.shifting.proofs.Turns.{by_named, by_step}
use Rattle.shifting.proofs.Sound.{length_writes}

module _ (fixed : Fixed) where
  -- the writes left are those of the chain's slots that are not written
  length_left : (state : State) (job : Job) → length (writes state.slots job.rule (unwritten job)) ≡ length job.chain - job.made
  length_left state job =
      length_writes job.rule (unwritten job) state.slots ∙ (length-drop job.made (reverse job.chain) ∙ ap (λ n. n - job.made) (length-reverse job.chain))

  length_one : {X : Type 0} (l : List X) → 0 < length l → length (take 1 l) ≡ 1
  length_one [] some = absurd (omega arith)
  length_one (x ∷ l) some = refl

  -- a step that makes a write makes one
  pub one_write : (state : State) (job : Job) → job.made ≤ length job.chain → written job ≡ false → length (make_one fixed state job).events ≡ 1
  one_write state job short more =
      let other = eqb-false job.made (length job.chain) more in
      length_one (writes state.slots job.rule (unwritten job)) (omega (arith, length_left state job))

  -- what a call leaves of an open add whose ticket it does not take
  record Kept (job : Job) (count : ℕ) (after : Option Job) : Type 0 where
    made : ℕ
    is : after ≡ Some (record { rule = job.rule; chain = job.chain; made = made })
    counts : job.made + count ≡ made
    short : made ≤ length job.chain

  module _ (state : State) (job : Job) (is_open : state.job ≡ Some job) (short : job.made ≤ length job.chain) where
    same_job : Kept job 0 state.job
    same_job = record { made = job.made; is = is_open; counts = omega arith; short = short }

    busy_kept : (done : Turn) → Kept job 0 (when_idle fixed state state.job done).next.job
    busy_kept done = subst (λ open_add. Kept job 0 (when_idle fixed state open_add done).next.job) (sym is_open) same_job

    same_open : (one : Job) → state.job ≡ Some one → one ≡ job
    same_open one is = let both : ◌≡◌ {A = Option Job} (Some one) (Some job) = sym is ∙ is_open in cc

    abbrev KeptBy : Turn → Type 0
    KeptBy made = Kept job (length made.events) made.next.job

    -- a call that does not answer with a count
    abbrev Uncounted : Turn → Type 0
    Uncounted made = ((n : ℕ) × (made.answer ≡ counted n)) → ⊥

    kept : (call : Call) → (TakesTicket fixed state call → ⊥) → Kept job (writes_of fixed state call) (turn fixed state call).next.job
    kept (add new) stays = busy_kept _
    kept (step ticket) stays =
        by_named fixed state KeptBy ticket (λ one. cond (written one) (refuse fixed state RunOut) (make_one fixed state one)) same_job state.job
        (λ one is.
        rw (same_open one is)
        (by_step fixed state KeptBy job same_job
        (λ more.
        let other = eqb-false job.made (length job.chain) more in
        record { made = suc job.made; is = refl; counts = omega (arith, one_write state job short more); short = omega arith })))
    kept (complete ticket) stays =
        by_named fixed state (λ made. Uncounted made → KeptBy made) ticket (make_all fixed state) (λ _. same_job) state.job
        (λ one is uncounted. absurd (uncounted (length one.chain, refl))) (λ took. stays (ticket, took.0, inl refl, took.1))
    kept (withdraw ticket) stays =
        by_named fixed state (λ made. Uncounted made → Kept job 0 made.next.job) ticket (take_back fixed state) (λ _. same_job) state.job
        (λ one is uncounted. absurd (uncounted (cond (written one) 1 0, refl))) (λ took. stays (ticket, took.0, inr refl, took.1))
    kept (drop_rule number) stays = busy_kept _
    kept (change_action number action) stays = busy_kept _
    kept (look_up subject) stays = cond_both _ _ _ (λ (made : Turn). Kept job 0 made.next.job) (λ _. same_job) (λ _. same_job)

    last_step : (ticket : Ticket) → (turn fixed state (step ticket)).answer ≡ counted 0 → job.made + length (turn fixed state (step ticket)).events ≡ length job.chain
    last_step ticket =
        by_named fixed state Ends ticket (λ one. cond (written one) (refuse fixed state RunOut) (make_one fixed state one)) (λ none. cc) state.job
        (λ one is.
        rw (same_open one is)
        (by_step fixed state Ends job (λ none. cc)
        (λ more none.
        let other = eqb-false job.made (length job.chain) more in
        let left : length job.chain - suc job.made ≡ 0 = cc in
        omega (arith, one_write state job short more))))
      where
        Ends : Turn → Type 0
        Ends made = made.answer ≡ counted 0 → job.made + length made.events ≡ length job.chain

    last_complete : (ticket : Ticket) (n : ℕ) → (turn fixed state (complete ticket)).answer ≡ counted n → job.made + length (turn fixed state (complete ticket)).events ≡ length job.chain
    last_complete ticket n =
        by_named fixed state Ends ticket (make_all fixed state) (λ same. cc) state.job
        (λ one is. rw (same_open one is) (λ _. omega (arith, length_left state job)))
      where
        Ends : Turn → Type 0
        Ends made = made.answer ≡ counted n → job.made + length made.events ≡ length job.chain

    closing : (call : Call) → CarriesThrough fixed state call → job.made + writes_of fixed state call ≡ length job.chain
    closing call carries =
        ⊎_elim
        (λ by-a-step.
        subst (λ one. (turn fixed state one).answer ≡ counted 0 → job.made + writes_of fixed state one ≡ length job.chain) (sym by-a-step.1) (last_step by-a-step.0) by-a-step.2)
        (λ by-complete.
        subst (λ one. (turn fixed state one).answer ≡ counted by-complete.1 → job.made + writes_of fixed state one ≡ length job.chain) (sym by-complete.2)
        (last_complete by-complete.0 by-complete.1) by-complete.3)
        carries

  pub carried_through : (between : List Call) (state : State) (job : Job) → state.job ≡ Some job → job.made ≤ length job.chain → (last : Call) → StaysOpen fixed state between
      → CarriesThrough fixed (after fixed state between) last → job.made + writes_made fixed state (between ++ last ∷ []) ≡ length job.chain
  carried_through [] state job is_open short last stays carries = omega (arith, closing state job is_open short last carries)
  carried_through (call ∷ between) state job is_open short last stays carries =
      let step_kept = kept state job is_open short call stays.0 in
      let rest = carried_through between (turn fixed state call).next (record { rule = job.rule; chain = job.chain; made = step_kept.made }) step_kept.is step_kept.short last stays.1 carries in
      omega (arith, step_kept.counts)

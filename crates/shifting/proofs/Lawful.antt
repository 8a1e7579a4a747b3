-- The six parts of the law, of every call of every run. Assumes nothing.
use Rattle.std.proofs.Common.{◌≡◌, ℕ, Bool, true, false, cond, ltb, List, [], ◌∷◌, ◌++◌, length, Some, None, sym, refl, subst, arith}
use Rattle.std.specs.List.{AllByRecursion}
use Rattle.std.proofs.lemmas.Bool.{cond_both, ltb-true, ltb-false}
use Rattle.std.proofs.lemmas.List.{take_all}
use Rattle.rules.specs.declared.rule.Rule.{Rule}
use Rattle.rules.specs.declared.event.Event.{Event}
use Rattle.rules.specs.declared.refusal.Refusal.{Refusal}
use Rattle.rules.specs.declared.refusal.Refusal.TheVariants.{RunOut}
use Rattle.rules.specs.Kinds.{KindLaws}
use Rattle.shifting.specs.Slots.{Slot, all_carried_out, jump_chain}
use Rattle.shifting.specs.Machine.{Ticket, Call, add, step, complete, withdraw, drop_rule, change_action, look_up, opened, counted, refused, Job, State, Fixed, Turn}
use Rattle.shifting.specs.Machine.{refuse, when_idle, when_standing, erase_rule, rewrite_rule, try_add, make_one, make_all, take_back, written, turn, after, cleared}
use Rattle.shifting.specs.Law.{Sized, LawOfRuns, Lawful, Announced, slots_at, rules_at, copies_at, copies}
use Rattle.shifting.proofs.Settled.{Settled}
use Rattle.shifting.proofs.Progress.{Good}
use Rattle.shifting.proofs.Answering.{first_match_answers, only_answer}
use Rattle.shifting.proofs.Spans.{jump_shortest_chain}
use Rattle.shifting.proofs.Sound.{Opened, Phase, Sound, phase_good, call_step, sound_after, cleared_sound}
use Rattle.shifting.proofs.Carrying.{one_write, carried_through}
use Rattle.shifting.proofs.Refusing.{refuses_exactly, opens}
use Rattle.shifting.proofs.Turns.{by_idle, by_named, by_standing, by_step, by_add, slots_by_events, trace_by_events}

module _ (fixed : Fixed) (laws : KindLaws fixed.kind) (state : State) (sound : Sound fixed laws state) where
  -- inside a call and at its end
  call_good : (call : Call) → Sized call → (some : ℕ) → Good fixed.kind (slots_at fixed state call some) (rules_at fixed state call some) (copies_at fixed state call some)
  call_good call sized some =
      let made = call_step fixed laws state call sized sound in
      let events = (turn fixed state call).events in
      by_test (ltb some (length events))
      (λ inside. made.inside some (ltb-true some (length events) inside))
      (λ end.
      subst (λ (all : List Event). Good fixed.kind (all_carried_out state.slots all) (turn fixed state call).next.rules (copies (turn fixed state call).next.job 0))
      (sym (take_all some events (ltb-false some (length events) end)))
      (phase_good fixed laws (all_carried_out state.slots events) (turn fixed state call).next.rules (turn fixed state call).next.job made.leaves))
    where
      by_test : (test : Bool) {slots : List Slot} {rules more : List Rule} {copies less : ℕ} → (test ≡ true → Good fixed.kind slots rules copies) → (test ≡ false → Good fixed.kind slots more less)
          → Good fixed.kind slots (cond test rules more) (cond test copies less)
      by_test true before end = before refl
      by_test false before end = end refl

  announces : (call : Call) (new : Rule) (ticket : Ticket) → call ≡ add new → (turn fixed state call).answer ≡ opened ticket → Announced fixed state call new ticket
  announces call new ticket is-add =
      subst (λ one. (turn fixed state one).answer ≡ opened ticket → Announced fixed state one new ticket) (sym is-add)
      (λ answer.
      let how = opens fixed laws state new ticket answer in
      let chain = jump_chain fixed.kind state.slots new in
      let shortest = jump_shortest_chain fixed.kind state.slots new how.straight how.has_slot in
      let job : Job = record { rule = new; chain = chain; made = 0 } in
      record {
        chain = chain;
        downward = shortest.0;
        announced = how.announced;
        shortest = λ other downward. let least = shortest.1 other downward in omega (arith, how.announced);
        carried_through = λ between last stays carries.
            omega (arith, how.announced, carried_through fixed between (turn fixed state (add new)).next job how.next_job (omega arith) last stays carries);
      })

  idle_settled : state.job ≡ None → Settled fixed.kind state.slots state.rules
  idle_settled idle = subst (Phase fixed laws state.slots state.rules) idle sound

  opened_job : (job : Job) → state.job ≡ Some job → Opened fixed laws state.slots state.rules job
  opened_job job is = subst (Phase fixed laws state.slots state.rules) is sound

  abbrev NoEvent : Turn → Type 0
  NoEvent made = made.events ≡ []

  add_quiet : (new : Rule) → (turn fixed state (add new)).events ≡ []
  add_quiet new =
      by_idle fixed state NoEvent (try_add fixed state new) refl (by_add fixed state NoEvent new (λ why. refl) (λ passed. refl)) state.job

  look_up_quiet : (subject : ℕ) → (turn fixed state (look_up subject)).events ≡ []
  look_up_quiet subject = cond_both _ _ _ (λ (made : Turn). made.events ≡ []) (λ _. refl) (λ _. refl)

  -- a refusal has no event
  abbrev Quiet : Turn → Type 0
  Quiet made = (why : Refusal) → made.answer ≡ refused why → made.events ≡ []

  standing_quiet : (number : ℕ) (made : Turn) → Quiet made → Quiet (when_idle fixed state state.job (when_standing fixed state number made))
  standing_quiet number made silent =
      by_idle fixed state Quiet (when_standing fixed state number made) (λ _ _. refl) (by_standing fixed state Quiet number made (λ _ _. refl) silent) state.job

  quiet : (call : Call) → Quiet (turn fixed state call)
  quiet (add new) why is = add_quiet new
  quiet (step ticket) why is =
      by_named fixed state Quiet ticket (λ job. cond (written job) (refuse fixed state RunOut) (make_one fixed state job)) (λ _ _. refl) state.job
      (λ job _. by_step fixed state Quiet job (λ _ _. refl) (λ _ _ same. cc)) why is
  quiet (complete ticket) why is =
      by_named fixed state Quiet ticket (make_all fixed state) (λ _ _. refl) state.job (λ job _ _ same. cc) why is
  quiet (withdraw ticket) why is =
      by_named fixed state Quiet ticket (take_back fixed state) (λ _ _. refl) state.job (λ job _ _ same. cc) why is
  quiet (drop_rule number) why is = standing_quiet number (erase_rule fixed state number) (λ _ same. cc) why is
  quiet (change_action number action) why is = standing_quiet number (rewrite_rule fixed state number action) (λ _ same. cc) why is
  quiet (look_up subject) why is = look_up_quiet subject

  -- a step that is not refused has one event
  abbrev Single : Turn → Type 0
  Single made = (n : ℕ) → made.answer ≡ counted n → length made.events ≡ 1

  step_single : (ticket : Ticket) → Single (turn fixed state (step ticket))
  step_single ticket =
      by_named fixed state Single ticket (λ job. cond (written job) (refuse fixed state RunOut) (make_one fixed state job)) (λ _ same. cc) state.job
      (λ job is. by_step fixed state Single job (λ _ same. cc) (λ more _ _. one_write fixed state job (opened_job job is).short more))

  pub lawful : (call : Call) → Sized call → Lawful fixed state call
  lawful call sized =
      record {
        right_order = λ some. (call_good call sized some).stocked.right;
        answered = λ some subject word.
            let good = call_good call sized some in
            let rules = rules_at fixed state call some in
            let answers = first_match_answers fixed.kind laws rules good.ruled subject word (slots_at fixed state call some) good.stocked in
            record { answers = answers; only = λ other is. only_answer fixed.kind laws rules good.ruled subject word _ other answers is };
        announces = announces call;
        refuses_exactly = λ new idle fresh. refuses_exactly fixed laws state new idle (idle_settled idle) fresh;
        counts = λ some. (call_good call sized some).count;
        by_events = record {
          slots = slots_by_events fixed state call;
          trace = trace_by_events fixed state call;
          refusal_none = quiet call;
          add_none = λ new is-add. subst (λ one. (turn fixed state one).events ≡ []) (sym is-add) (add_quiet new);
          look_up_none = λ subject is-look-up. subst (λ one. (turn fixed state one).events ≡ []) (sym is-look-up) (look_up_quiet subject);
          step_one = λ ticket n is-step. subst (λ one. (turn fixed state one).answer ≡ counted n → length (turn fixed state one).events ≡ 1) (sym is-step) (step_single ticket n);
        };
      }

sized_parts : (before : List Call) (call : Call) (rest : List Call) → AllByRecursion Sized (before ++ call ∷ rest) → AllByRecursion Sized before × Sized call
sized_parts [] call rest sized = (tt, sized.0)
sized_parts (first ∷ before) call rest sized =
    let parts = sized_parts before call rest sized.1 in
    ((sized.0, parts.0), parts.1)

pub law_of_runs : LawOfRuns
law_of_runs fixed laws slots trace calls sized before call rest are =
    let start = cleared fixed slots trace in
    let parts = sized_parts before call rest (subst (AllByRecursion Sized) are sized) in
    lawful fixed laws (after fixed start before) (sound_after fixed laws before start parts.0 (cleared_sound fixed laws slots trace)) call parts.1

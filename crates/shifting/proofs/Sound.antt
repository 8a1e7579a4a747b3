-- What holds between the calls of a run, and inside each call. Assumes nothing.
use Rattle.std.proofs.Common.{◌≡◌, ℕ, zero, suc, ◌+◌, ◌-◌, ◌<◌, ◌≤◌, Bool, true, false, cond, not, ◌&&◌, ◌||◌, eqb, ltb, ◌⊎◌, List, [], ◌∷◌, reverse, length, get_or, take, drop, set, Some, None, Option, sym, refl, ap, ◌∙◌, subst, inl, inr, ⊎_elim, arith}
use Rattle.std.specs.List.{AllByRecursion}
use Rattle.std.proofs.lemmas.Bool.{cases_eq, cases_lt, cond_both, cond-true, cond-false, both_ways, eq-eqb, ne_eqb, eqb-true, eqb-false, lt-ltb, le-ltb, ltb-true, ltb-false, and_from, and_right, and_parts, and_cases, or_parts, not-false}
use Rattle.std.proofs.lemmas.List.{length-set, length-drop, length-reverse, get_or_past}
use Rattle.rules.specs.declared.rule.Rule.{Rule}
use Rattle.rules.specs.declared.event.Event.{Event}
use Rattle.rules.specs.declared.event.Event.TheVariants.{Write, Erase}
use Rattle.rules.specs.declared.refusal.Refusal.TheVariants.{Foreign, RunOut}
use Rattle.rules.specs.Kinds.{KindLaws}
use Rattle.shifting.specs.Slots.{Slot, at, taken, usable, meets, level, tied, crossed, no_slot, jump_chain, carried_out, all_carried_out}
use Rattle.shifting.specs.Machine.{Ticket, Call, add, step, complete, withdraw, drop_rule, change_action, look_up, Job, State, Fixed, Turn, has_number, held, received, writes, unwritten, written, half_way, last_written}
use Rattle.shifting.specs.Machine.{with_action, changed, refuse, when_idle, names, when_named, open_add, try_add, make_one, make_all, take_back, place, turn, after, erases, cleared}
use Rattle.shifting.specs.Law.{In, Worded, Sized, copies}
use Rattle.shifting.proofs.Reading.{none_some, set_here, set_there}
use Rattle.shifting.proofs.Scans.{scan_hit, some_below_none}
use Rattle.shifting.proofs.Settled.{Settled, Fresh}
use Rattle.shifting.proofs.Directions.{down}
use Rattle.shifting.proofs.Spans.{chain_reversed, jump_shortest_chain}
use Rattle.shifting.proofs.Progress.{Good, settled_good, with_new, with_all, Mid, Going, mid_erased, advance, going_good, going_written, writes_good, writes_settled}
use Rattle.shifting.proofs.Turns.{by_add, slots_by_events}
use Rattle.shifting.proofs.Renewing.{dropped, renewed_settled}

-- Lists.

drop_more : {X : Type 0} (k : ℕ) (l : List X) (first none : X) (others : List X) → drop k l ≡ first ∷ others → (get_or l k none ≡ first) × (drop (suc k) l ≡ others)
drop_more zero [] first none others are = cc
drop_more (suc k) [] first none others are = cc
drop_more zero (x ∷ l) first none others are = (cc, cc)
drop_more (suc k) (x ∷ l) first none others are = drop_more k l first none others are

pub length_writes : (new : Rule) (left : List ℕ) (slots : List Slot) → length (writes slots new left) ≡ length left
length_writes new [] slots = refl
length_writes new (slot ∷ earlier) slots = ap suc (length_writes new earlier (set slots slot (Some (received slots new earlier))))

-- Copies.

and_true : (x y : Bool) → y ≡ true → (x && y) ≡ x
and_true true y is = is
and_true false y is = refl

pub copies_some : (job : Job) (some : ℕ) → job.made + some < length job.chain → copies (Some job) some ≡ cond (ltb 0 (job.made + some)) 1 0
copies_some job some fewer = ap (λ b. cond b 1 0) (and_true (ltb 0 (job.made + some)) _ (lt-ltb (job.made + some) (length job.chain) fewer))

copies_all : (job : Job) (some : ℕ) → length job.chain ≤ job.made + some → copies (Some job) some ≡ 0
copies_all job some all = ap (λ b. cond b 1 0) (and_right (ltb 0 (job.made + some)) _ (le-ltb (job.made + some) (length job.chain) all))

pub found_number : (slot : Slot) (number : ℕ) → has_number number slot ≡ true → (rule : Rule) × (slot ≡ Some rule) × (rule.number ≡ number)
found_number None number hit = absurd (both_ways false refl hit)
found_number (Some rule) number hit = (rule, refl, eqb-true rule.number number hit)

module _ (fixed : Fixed) (laws : KindLaws fixed.kind) where
  -- an open add
  pub record Opened (slots : List Slot) (rules : List Rule) (job : Job) : Type 0 where
    pub short : job.made ≤ length job.chain
    pub going : Going fixed.kind laws (down fixed.kind) job.rule slots rules job.made (last_written job) (unwritten job)

  abbrev pub Phase : List Slot → List Rule → Option Job → Type 0
  Phase slots rules None = Settled fixed.kind slots rules
  Phase slots rules (Some job) = Opened slots rules job

  -- what holds of every state of a run
  abbrev pub Sound : State → Type 0
  Sound state = Phase state.slots state.rules state.job

  length_unwritten : (slots : List Slot) (rules : List Rule) (job : Job) → Opened slots rules job → length (unwritten job) ≡ length job.chain - job.made
  length_unwritten slots rules job opened = length-drop job.made (reverse job.chain) ∙ ap (λ n. n - job.made) (length-reverse job.chain)

  open_good : (slots : List Slot) (rules : List Rule) (job : Job) → Opened slots rules job → Good fixed.kind slots rules (copies (Some job) 0)
  open_good slots rules job opened = by_left (unwritten job) (length_unwritten slots rules job opened) opened.going
    where
      by_left : (left : List ℕ) → length left ≡ length job.chain - job.made
          → Going fixed.kind laws (down fixed.kind) job.rule slots rules job.made (last_written job) left → Good fixed.kind slots rules (copies (Some job) 0)
      by_left [] size going =
          let short = opened.short in
          rw (copies_all job 0 (omega arith)) (settled_good fixed.kind slots rules (going_written fixed.kind laws (down fixed.kind) job.rule slots rules job.made (last_written job) going))
      by_left (slot ∷ earlier) size going =
          let none : job.made + 0 ≡ job.made = omega arith in
          rw (copies_some job 0 (omega arith), none) (going_good fixed.kind laws (down fixed.kind) job.rule slots rules job.made (last_written job) slot earlier going)

  pub phase_good : (slots : List Slot) (rules : List Rule) (job : Option Job) → Phase slots rules job → Good fixed.kind slots rules (copies job 0)
  phase_good slots rules None settled = settled_good fixed.kind slots rules settled
  phase_good slots rules (Some job) opened = open_good slots rules job opened

  -- What is wanted of a call, by its events and what they leave.
  pub record Step (slots : List Slot) (rules : List Rule) (job : Option Job) (events : List Event) (rules-after : List Rule) (job-after : Option Job) : Type 0 where
    pub inside : (some : ℕ) → some < length events → Good fixed.kind (all_carried_out slots (take some events)) rules (copies job some)
    pub leaves : Phase (all_carried_out slots events) rules-after job-after

  abbrev StepBy : State → Option Job → Turn → Type 0
  StepBy state job done = Step state.slots state.rules job done.events done.next.rules done.next.job

  no_event : (slots : List Slot) (rules : List Rule) (job : Option Job) (rules-after : List Rule) (job-after : Option Job) → Phase slots rules-after job-after
      → Step slots rules job [] rules-after job-after
  no_event slots rules job rules-after job-after leaves = record { inside = λ some fewer. absurd (omega arith); leaves = leaves }

  one_event : (slots : List Slot) (rules : List Rule) (job : Option Job) (event : Event) (rules-after : List Rule) (job-after : Option Job)
      → Good fixed.kind slots rules (copies job 0) → Phase (carried_out slots event) rules-after job-after → Step slots rules job (event ∷ []) rules-after job-after
  one_event slots rules job event rules-after job-after good leaves = record { inside = before; leaves = leaves }
    where
      before : (some : ℕ) → some < 1 → Good fixed.kind (all_carried_out slots (take some (event ∷ []))) rules (copies job some)
      before zero fewer = good
      before (suc some) fewer = absurd (omega arith)

  -- Step, complete and withdraw.

  new_in_force : (job : Job) (earlier : List ℕ) (rules : List Rule) → suc (job.made + length earlier) ≡ length job.chain
      → with_new earlier job.rule rules ≡ cond (eqb (suc job.made) (length job.chain)) (job.rule ∷ rules) rules
  new_in_force job [] rules size = sym (cond-true _ (job.rule ∷ rules) rules (eq-eqb (suc job.made) (length job.chain) (omega arith)))
  new_in_force job (slot ∷ earlier) rules size = sym (cond-false _ (job.rule ∷ rules) rules (ne_eqb (suc job.made) (length job.chain) (λ same. omega arith)))

  all_in_force : (job : Job) (left : List ℕ) (rules : List Rule) → job.made + length left ≡ length job.chain
      → with_all left job.rule rules ≡ cond (written job) rules (job.rule ∷ rules)
  all_in_force job [] rules size = sym (cond-true _ rules (job.rule ∷ rules) (eq-eqb job.made (length job.chain) (omega arith)))
  all_in_force job (slot ∷ earlier) rules size = sym (cond-false _ rules (job.rule ∷ rules) (ne_eqb job.made (length job.chain) (λ same. omega arith)))

  mid_as : {new : Rule} {slots : List Slot} {rules rules' : List Rule} {gap gap' : ℕ} {left left' : List ℕ} → rules ≡ rules' → gap ≡ gap' → left ≡ left'
      → Mid fixed.kind laws (down fixed.kind) new slots rules gap left → Mid fixed.kind laws (down fixed.kind) new slots rules' gap' left'
  mid_as rules-same Gap-same left-same mid = rw (← rules-same, ← Gap-same, ← left-same) mid

  make_one_step : (state : State) (job : Job) → Opened state.slots state.rules job → job.made < length job.chain → StepBy state (Some job) (make_one fixed state job)
  make_one_step state job opened fewer = by_left (unwritten job) refl
    where
      slots : List Slot
      slots = state.slots

      further : Job
      further = record { rule = job.rule; chain = job.chain; made = suc job.made }

      by_left : (left : List ℕ) → unwritten job ≡ left
          → Step slots state.rules (Some job) (take 1 (writes slots job.rule left)) (cond (written further) (job.rule ∷ state.rules) state.rules) (Some further)
      by_left [] are = absurd (omega (arith, ap length are, length_unwritten slots state.rules job opened))
      by_left (slot ∷ earlier) are =
          let size = ap length are in
          let same_place : job.made ≡ suc job.made - 1 = omega arith in
          let next = drop_more job.made (reverse job.chain) slot 0 earlier are in
          let going : Going fixed.kind laws (down fixed.kind) job.rule slots state.rules job.made (last_written job) (slot ∷ earlier) =
          rw are at opened.going in
          one_event slots state.rules (Some job) (Write slot (received slots job.rule earlier)) _ (Some further) (open_good slots state.rules job opened)
          (record {
            short = fewer;
            going = inr (
              omega arith,
              mid_as (new_in_force job earlier state.rules (omega (arith, length_unwritten slots state.rules job opened))) (sym next.0 ∙ ap (λ k. get_or (reverse job.chain) k 0) same_place) (sym next.1)
                  (advance fixed.kind laws (down fixed.kind) job.rule slots state.rules job.made (last_written job) slot earlier going),
            );
          })

  make_all_step : (state : State) (job : Job) → Opened state.slots state.rules job → StepBy state (Some job) (make_all fixed state job)
  make_all_step state job opened =
      let left = unwritten job in
      let size = length_unwritten state.slots state.rules job opened in
      let short = opened.short in
      record {
        inside = λ some fewer.
            let still : some < length left = omega (arith, length_writes job.rule left state.slots) in
            rw (copies_some job some (omega arith))
            (writes_good fixed.kind laws (down fixed.kind) job.rule left state.slots state.rules job.made (last_written job) some opened.going still);
        leaves =
            subst (λ rules. Settled fixed.kind (all_carried_out state.slots (writes state.slots job.rule left)) rules)
            (all_in_force job left state.rules (omega arith))
            (writes_settled fixed.kind laws (down fixed.kind) job.rule left state.slots state.rules job.made (last_written job) opened.going);
      }

  take_back_step : (state : State) (job : Job) → Opened state.slots state.rules job → StepBy state (Some job) (take_back fixed state job)
  take_back_step state job opened =
      cond_both (half_way job) (Erase (last_written job) ∷ []) [] (λ events. Step state.slots state.rules (Some job) events state.rules None)
      (λ half.
      let parts = and_parts (ltb 0 job.made) (ltb job.made (length job.chain)) half in
      let fewer = ltb-true job.made (length job.chain) parts.1 in
      one_event state.slots state.rules (Some job) (Erase (last_written job)) state.rules None (open_good state.slots state.rules job opened)
      (erased (unwritten job) opened.going (ltb-true 0 job.made parts.0) (omega (arith, length_unwritten state.slots state.rules job opened))))
      (λ whole.
      no_event state.slots state.rules (Some job) state.rules None
      (⊎_elim
      (λ none. idle (unwritten job) opened.going (inl (ltb-false 0 job.made none)))
      (λ all. idle (unwritten job) opened.going
      (inr (omega (arith, length_unwritten state.slots state.rules job opened, ltb-false job.made (length job.chain) all))))
      (and_cases (ltb 0 job.made) (ltb job.made (length job.chain)) whole)))
    where
      erased : (left : List ℕ) → Going fixed.kind laws (down fixed.kind) job.rule state.slots state.rules job.made (last_written job) left → 0 < job.made → 0 < length left
          → Settled fixed.kind (set state.slots (last_written job) None) state.rules
      erased [] going some more = absurd (omega arith)
      erased (slot ∷ earlier) going some more =
          ⊎_elim (λ begun. absurd (let none = begun.0 in omega arith))
          (λ mid. mid_erased fixed.kind laws (down fixed.kind) job.rule state.slots state.rules (last_written job) slot earlier mid.1) going

      idle : (left : List ℕ) → Going fixed.kind laws (down fixed.kind) job.rule state.slots state.rules job.made (last_written job) left → (job.made ≤ 0) ⊎ (length left ≤ 0)
          → Settled fixed.kind state.slots state.rules
      idle [] going which = going_written fixed.kind laws (down fixed.kind) job.rule state.slots state.rules job.made (last_written job) going
      idle (slot ∷ earlier) going which =
          ⊎_elim (λ begun. begun.4.settled) (λ mid. absurd (let some = mid.0 in ⊎_elim (λ none. omega arith) (λ none. omega arith) which)) going

  -- Add.

  inside_worded : (slots : List Slot) (rules : List Rule) → Settled fixed.kind slots rules → (i : ℕ) (rule : Rule) → at slots i ≡ Some rule → (i < usable slots) × Worded rule
  inside_worded slots rules settled i rule at_i =
      (settled.stocked.inside i rule at_i, (settled.ruled.fine rule (settled.stocked.only i rule at_i)).words)

  open_add_step : (state : State) (new : Rule) → Settled fixed.kind state.slots state.rules → Fresh fixed.kind state.rules new
      → crossed fixed.kind state.slots new ≡ false → no_slot fixed.kind state.slots new ≡ false → StepBy state None (open_add fixed state new)
  open_add_step state new settled fresh straight has_slot =
      let chain = jump_chain fixed.kind state.slots new in
      let back = chain_reversed fixed.kind laws state.slots new chain fresh.fine.words (inside_worded state.slots state.rules settled)
      (jump_shortest_chain fixed.kind state.slots new straight has_slot).0 in
      no_event state.slots state.rules None state.rules _
      (record {
        short = omega arith;
        going = inl (refl, back.gap, back.earlier, back.are, record { settled = settled; fresh = fresh; free = back.free; within = back.within; back = back.back });
      })

  -- a rule that no slot ties with ties with no rule in force
  not_tied : (slots : List Slot) (rules : List Rule) (new : Rule) → Settled fixed.kind slots rules → tied fixed.kind slots new ≡ false
      → (rule : Rule) → In rule rules → meets fixed.kind new rule ≡ true → rule.priority ≡ new.priority → ⊥
  not_tied slots rules new settled none rule is meet same =
      let stand = settled.stocked.stands rule is in
      let within = settled.stocked.inside stand.0 rule stand.1 in
      both_ways (level fixed.kind new (at slots stand.0))
      (some_below_none (λ i. level fixed.kind new (at slots i)) (usable slots) stand.0 none within)
      (ap (level fixed.kind new) stand.1 ∙ and_from _ _ meet (eq-eqb rule.priority new.priority same))

  try_add_step : (state : State) (new : Rule) → Worded new → Sound state → Settled fixed.kind state.slots state.rules → StepBy state None (try_add fixed state new)
  try_add_step state new words sound settled =
      by_add fixed state (StepBy state None) new (λ why. no_event state.slots state.rules None state.rules state.job sound)
      (λ passed.
      let parts = or_parts (eqb new.number 0) (not (fixed.kind.well_formed new.word_a new.word_b)) passed.fine in
      open_add_step state new settled
      (record {
        fine = record { words = words; well_formed = not-false _ parts.1; numbered = eqb-false new.number 0 parts.0 };
        unused = passed.unused;
        untied = not_tied state.slots state.rules new settled passed.untied;
      })
      passed.straight passed.has_slot)

  -- Drop and change.

  standing : (state : State) (number : ℕ) → (eqb number 0 || not (ltb (place fixed state number) (length state.slots))) ≡ false
      → (rule : Rule) × (at state.slots (place fixed state number) ≡ Some rule) × (rule.number ≡ number)
  standing state number known =
      let parts = or_parts (eqb number 0) _ known in
      let within = ltb-true (place fixed state number) (length state.slots) (not-false _ parts.1) in
      let test = λ (i : ℕ). has_number number (at state.slots i) in
      found_number (at state.slots (place fixed state number)) number (scan_hit test 0 (length state.slots) (omega arith))

  -- Every call.

  when_idle_step : (state : State) (done : Turn) → Sound state → (job : Option Job) → Phase state.slots state.rules job
      → (Settled fixed.kind state.slots state.rules → StepBy state None done) → StepBy state job (when_idle fixed state job done)
  when_idle_step state done sound None settled idle = idle settled
  when_idle_step state done sound (Some job) opened idle = no_event state.slots state.rules (Some job) state.rules state.job sound

  when_named_step : (state : State) (ticket : Ticket) (done : Job → Turn) → Sound state → (job : Option Job) → Phase state.slots state.rules job
      → ((one : Job) → Opened state.slots state.rules one → StepBy state (Some one) (done one)) → StepBy state job (when_named fixed state ticket job done)
  when_named_step state ticket done sound None settled named = no_event state.slots state.rules None state.rules state.job sound
  when_named_step state ticket done sound (Some job) opened named =
      cond_both (names fixed state ticket job) (done job) (refuse fixed state Foreign) (StepBy state (Some job))
      (λ _. named job opened)
      (λ _. no_event state.slots state.rules (Some job) state.rules state.job sound)

  pub call_step : (state : State) (call : Call) → Sized call → Sound state → StepBy state state.job (turn fixed state call)
  call_step state (add new) sized sound = when_idle_step state (try_add fixed state new) sound state.job sound (try_add_step state new (sized new refl) sound)
  call_step state (step ticket) sized sound =
      when_named_step state ticket (λ job. cond (written job) (refuse fixed state RunOut) (make_one fixed state job)) sound state.job sound
      (λ job opened.
      cond_both (written job) (refuse fixed state RunOut) (make_one fixed state job) (StepBy state (Some job))
      (λ _. no_event state.slots state.rules (Some job) state.rules state.job sound)
      (λ more. make_one_step state job opened
      (let short = opened.short in let other = eqb-false job.made (length job.chain) more in omega arith)))
  call_step state (complete ticket) sized sound = when_named_step state ticket (make_all fixed state) sound state.job sound (make_all_step state)
  call_step state (withdraw ticket) sized sound = when_named_step state ticket (take_back fixed state) sound state.job sound (take_back_step state)
  call_step state (drop_rule number) sized sound =
      when_idle_step state _ sound state.job sound
      (λ settled.
      cond_both _ _ _ (StepBy state None) (λ _. no_event state.slots state.rules None state.rules state.job sound)
      (λ known.
      let stand = standing state number known in
      one_event state.slots state.rules None _ _ None (settled_good fixed.kind state.slots state.rules settled)
      (dropped number fixed.kind state.slots state.rules settled (place fixed state number) stand.0 stand.1 stand.2)))
  call_step state (change_action number action) sized sound =
      when_idle_step state _ sound state.job sound
      (λ settled.
      cond_both _ _ _ (StepBy state None) (λ _. no_event state.slots state.rules None state.rules state.job sound)
      (λ known.
      let stand = standing state number known in
      one_event state.slots state.rules None _ _ None (settled_good fixed.kind state.slots state.rules settled)
      (subst (λ s. Settled fixed.kind (set state.slots (place fixed state number) (Some (with_action action (held s)))) (changed number action state.rules)) (sym stand.1)
      (renewed_settled number fixed.kind state.slots state.rules settled (place fixed state number) stand.0 stand.1 stand.2 action))))
  call_step state (look_up subject) sized sound =
      cond_both _ _ _ (StepBy state state.job)
      (λ _. no_event state.slots state.rules state.job state.rules state.job sound)
      (λ _. no_event state.slots state.rules state.job state.rules state.job sound)

  -- Runs.

  pub sound_next : (state : State) (call : Call) → Sized call → Sound state → Sound (turn fixed state call).next
  sound_next state call sized sound =
      subst (λ (slots : List Slot). Phase slots (turn fixed state call).next.rules (turn fixed state call).next.job) (sym (slots_by_events fixed state call))
      (call_step state call sized sound).leaves

  pub sound_after : (calls : List Call) (state : State) → AllByRecursion Sized calls → Sound state → Sound (after fixed state calls)
  sound_after [] state sized sound = sound
  sound_after (call ∷ calls) state sized sound = sound_after calls (turn fixed state call).next sized.1 (sound_next state call sized.0 sound)

  erased_none : (slots : List Slot) (c : ℕ) → at (set slots c None) c ≡ None
  erased_none slots c =
      ⊎_elim (λ within. set_here slots c None within)
      (λ beyond. get_or_past (set slots c None) c None (omega (arith, length-set slots c None)))
      (cases_lt c (length slots))

  erases_none : (count from : ℕ) (slots : List Slot) → ((i : ℕ) → i < from → at slots i ≡ None) → length slots ≤ from + count → (i : ℕ) → at (all_carried_out slots (erases from count)) i ≡ None
  erases_none zero from slots before all i =
      ⊎_elim (λ early. before i early) (λ late. get_or_past slots i None (omega arith)) (cases_lt i from)
  erases_none (suc count) from slots before all i =
      erases_none count (suc from) (set slots from None)
      (λ i early.
      ⊎_elim (λ same. ap (at (set slots from None)) same ∙ erased_none slots from)
      (λ other. set_there slots from i None other ∙ before i (omega arith))
      (cases_eq i from))
      (omega (arith, length-set slots from None)) i

  taken_none : (slots : List Slot) → ((i : ℕ) → at slots i ≡ None) → taken slots ≡ 0
  taken_none [] none = refl
  taken_none (None ∷ others) none = taken_none others (λ i. none (suc i))
  taken_none (Some rule ∷ others) none = none_some (sym (none 0))

  nowhere : {X : Type 0} (slots : List Slot) → ((i : ℕ) → at slots i ≡ None) → (i : ℕ) (rule : Rule) → at slots i ≡ Some rule → X
  nowhere slots none i rule at_i = none_some (sym (none i) ∙ at_i)

  pub cleared_sound : (slots : List Slot) (trace : ℕ) → Sound (cleared fixed slots trace)
  cleared_sound slots trace =
      let clear = (cleared fixed slots trace).slots in
      let none = erases_none (length slots) 0 slots (λ i early. absurd (omega arith)) (omega arith) in
      record {
        ruled = record { fine = λ rule is. absurd is; untied = λ rule other is. absurd is; distinct = tt };
        stocked = record {
          right = λ i j rule other at_i. nowhere clear none i rule at_i;
          inside = λ i rule at_i. nowhere clear none i rule at_i;
          stands = λ rule is. absurd is;
          only = λ i rule at_i. nowhere clear none i rule at_i;
        };
        once = λ i j rule other at_i. nowhere clear none i rule at_i;
        count = taken_none clear none;
      }

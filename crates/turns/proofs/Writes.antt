-- The writes of an open add on a board are those of the machine. Assumes nothing.
use Rattle.std.proofs.Common.{◌≡◌, ℕ, suc, ◌+◌, ◌-◌, ◌<◌, ◌≤◌, Bool, true, cond, ltb, ◌≢◌, List, [], ◌∷◌, reverse, length, get_or, take, drop, set, IsErrAnd, Some, None, Ok, Err, Option, Result, sym, refl, ap, ◌∙◌, subst, ⊎_elim, add-one, arith}
use Rattle.std.proofs.lemmas.List.{get_or-take, get_or-reverse, drop_more, drop_all, length-reverse, length-set}
use Rattle.std.proofs.lemmas.Bool.{cases_Bool, cond-true, cond-false, ltb-true, ltb-false, eq-eqb, ne_eqb, and_parts}
use Rattle.rules.specs.declared.rule.Rule.{Rule}
use Rattle.rules.specs.declared.event.Event.{Event}
use Rattle.rules.specs.declared.event.Event.TheVariants.{Write, Erase}
use Rattle.rules.specs.declared.refusal.Refusal.{Refusal}
use Rattle.rules.specs.declared.refusal.Refusal.TheVariants.{RunOut}
use Rattle.rules.specs.Kinds.{KindLaws}
use Rattle.rules.specs.Slots.{writing, erasing, all_after}
use Rattle.shifting.specs.Slots.{Slot, at, all_carried_out}
use Rattle.shifting.specs.Machine.{Call, step, complete, withdraw, counted, State, Fixed, Turn, held, received, writes, unwritten, written, half_way, last_written, all_traced, names, when_named, refuse, make_one, make_all, take_back, turn}
use Rattle.shifting.specs.Machine.{Job as OpenAdd}
use Rattle.shifting.proofs.Directions.{down}
use Rattle.shifting.proofs.Reading.{set_here, some_same}
use Rattle.shifting.proofs.Progress.{Start, Mid, Going, advance}
use Rattle.shifting.proofs.Sound.{Phase as Holding, Opened}
use Rattle.job.specs.declared.named.Named.{Named}
use Rattle.job.specs.declared.job.Job.{Job}
use Rattle.job.specs.declared.job.JobEvent.TheVariants.{Wrote, Closed}
use Rattle.job.specs.declared.job.Request.TheVariants.{Step, Close}
use Rattle.job.specs.Jobs.{phase_of, allowed, moved, further, closed, next_slot, slot_before, slot_last, half_done, in_force}
use Rattle.turns.specs.Shown.{seen, Seen, Shows, ShowsJob, ShowsOpen, Reached, Takes, counting, ticket_of, next_rule, next_event, as_events, erased_back}
use Rattle.turns.proofs.Turned.{refused_exit, reached_sound, reached_next, named_turn, step_by, close_by, TakenBy, refused_by, shown_by}
use Rattle.turns.proofs.Drops.{writing_ok, erasing_ok}

-- The next write.

pub record Next (slots : List Slot) (job : Job) (add : OpenAdd) : Type 0 where
  pub slot : ℕ
  pub earlier : List ℕ
  pub left : unwritten add ≡ slot ∷ earlier
  pub rest : drop (suc add.made) (reverse add.chain) ≡ earlier
  pub slot_is : next_slot job ≡ slot
  pub rule_is : next_rule slots job ≡ received slots add.rule earlier

-- a slot of the chain by its place from the end
from_end : (job : Job) (add : OpenAdd) (k i : ℕ) → ShowsOpen job add → k < length add.chain → i ≡ length add.chain - 1 - k → get_or (reverse add.chain) k 0 ≡ get_or job.chain.places i 0
from_end job add k i shown within is =
    let many = shown.chain.as_many in
    get_or-reverse add.chain k 0 within
    ∙ ap (λ (l : List ℕ). get_or l (length add.chain - 1 - k) 0) (sym shown.chain.are)
    ∙ get_or-take job.chain.length job.chain.places (length add.chain - 1 - k) 0 (omega arith)
    ∙ ap (λ (n : ℕ). get_or job.chain.places n 0) (sym is)

pub next_write : (slots : List Slot) (job : Job) (add : OpenAdd) → ShowsOpen job add → add.made < length add.chain → Next slots job add
next_write slots job add shown fewer =
    let back = reverse add.chain in
    let size = length-reverse add.chain in
    let many = shown.chain.as_many in
    let done = shown.made in
    let made = add.made in
    let first = drop_more back made 0 (omega arith) in
    record {
      slot = get_or back made 0;
      earlier = drop (made + 1) back;
      left = first;
      rest = ap (λ (n : ℕ). drop n back) (sym (add-one made));
      slot_is = sym (from_end job add made (job.chain.length - job.made - 1) shown fewer (omega arith));
      rule_is =
          ⊎_elim
          (λ more.
          let two = ltb-true 1 (job.chain.length - job.made) more in
          let second = drop_more back (made + 1) 0 (omega arith) in
          let before = from_end job add (made + 1) (job.chain.length - job.made - 2) shown (omega arith) (omega arith) in
          cond-true _ (held (at slots (slot_before job))) job.rule more
          ∙ ap (λ (n : ℕ). held (at slots n)) (sym before)
          ∙ sym (ap (received slots add.rule) second))
          (λ last.
          let one = ltb-false 1 (job.chain.length - job.made) last in
          let none = drop_all (made + 1) back (omega arith) in
          cond-false _ (held (at slots (slot_before job))) job.rule last
          ∙ shown.rule
          ∙ sym (ap (received slots add.rule) none))
          (cases_Bool (ltb 1 (job.chain.length - job.made)));
    }

-- On the way of a complete: what is still to do leads to what the machine does at once.
pub record Onward {Memory : Type 0} (fixed : Fixed) (stored : Memory → Event → Memory) (named : Named) (goal : State) (goal-memory : Memory) (announced : ℕ) (board : Seen Memory) : Type 0 where
  pub state : State
  pub reached : Reached fixed state
  pub shows : Shows board state
  pub add : OpenAdd
  pub is : state.job ≡ Some add
  pub good : names fixed state (ticket_of named) add ≡ true
  pub goal_is : (make_all fixed state add).next ≡ goal
  pub memory_is : all_after stored board.memory (make_all fixed state add).events ≡ goal-memory
  pub announced_is : length add.chain ≡ announced

abbrev pub OnWay : {Memory : Type 0} → Fixed → (Memory → Event → Memory) → Named → Seen Memory → Seen Memory → Type 0
OnWay fixed stored named start board =
    (state : State) → Reached fixed state → Shows start state → (add : OpenAdd) → state.job ≡ Some add → names fixed state (ticket_of named) add ≡ true
    → Onward fixed stored named (make_all fixed state add).next (all_after stored start.memory (make_all fixed state add).events) (length add.chain) board

pub on_start : {Memory : Type 0} (fixed : Fixed) (stored : Memory → Event → Memory) (named : Named) (start : Seen Memory) → OnWay fixed stored named start start
on_start fixed stored named start state reached shows add is good =
    record { state = state; reached = reached; shows = shows; add = add; is = is; good = good; goal_is = refl; memory_is = refl; announced_is = refl }

-- one write more
pub wrote_further : (job job' : Job) → job.busy ≡ true → job.made < job.chain.length → job' ≡ moved (phase_of job) Wrote job → job' ≡ further job
wrote_further job job' busy more is = grind arith

closed_back : (job job' : Job) → job.busy ≡ true → job' ≡ moved (phase_of job) Closed job → job' ≡ closed job
closed_back job job' busy is = grind arith

-- a ticket that may be taken back belongs to an open add
pub close_busy : (board : ℕ) (job : Job) (named : Named) → Ok tt ≡ allowed board (phase_of job) (Close named) job → job.busy ≡ true
close_busy board job named ok = grind arith

abbrev pub more_made : OpenAdd → OpenAdd
more_made add = record { rule = add.rule; chain = add.chain; made = suc add.made }

-- what a withdraw erases, by the machine
erased_back_is : (slots : List Slot) (job : Job) (slot : ℕ) (half : Bool) → half_done job ≡ half → (half ≡ true → erasing (length slots) (slot_last job) ≡ Ok (Erase slot)) → erased_back slots job ≡ cond half (Erase slot ∷ []) []
erased_back_is slots job slot half half_is erase = grind arith

module _ (fixed : Fixed) (laws : KindLaws fixed.kind) where
  -- a rule that a slot receives has a number
  received_numbered : (new : Rule) (base : List Slot) (rules : List Rule) (gap : ℕ) (earlier : List ℕ) → Start fixed.kind laws (down fixed.kind) new base rules gap earlier → (received base new earlier).number ≢ 0
  received_numbered new base rules gap [] start = start.fresh.fine.numbered
  received_numbered new base rules gap (before ∷ earlier) start =
      let link = start.back.0 in
      let fine = start.settled.ruled.fine link.rule (start.settled.stocked.only before link.rule link.stands) in
      λ zero_is. fine.numbered (sym (ap (λ (s : Slot). (held s).number) link.stands) ∙ zero_is)

  -- what was written could be written
  mid_possible : (new rule : Rule) (slots : List Slot) (rules : List Rule) (slot : ℕ) (earlier : List ℕ) → Mid fixed.kind laws (down fixed.kind) new (set slots slot (Some rule)) rules slot earlier
      → (slot < length slots) × (rule.number ≢ 0)
  mid_possible new rule slots rules slot earlier mid =
      let base = mid.base in
      let start = mid.start in
      let size = ap length mid.slots_are in
      let within-base = start.within in
      let inside : slot < length slots = omega (arith, length-set slots slot (Some rule), length-set base slot (Some (received base new earlier))) in
      let inside-base : slot < length base = omega arith in
      let same = some_same (sym (set_here slots slot (Some rule) inside) ∙ ap (λ (s : List Slot). at s slot) mid.slots_are ∙ set_here base slot (Some (received base new earlier)) inside-base) in
      (inside, λ zero_is. received_numbered new base mid.old slot earlier start (sym (ap (λ (r : Rule). r.number) same) ∙ zero_is))

  pub opened_add : (state : State) (add : OpenAdd) → Reached fixed state → state.job ≡ Some add → Opened fixed laws state.slots state.rules add
  opened_add state add reached is = subst (λ (o : Option OpenAdd). Holding fixed laws state.slots state.rules o) is (reached_sound fixed laws state reached)

  next_possible : (state : State) (job : Job) (add : OpenAdd) → Opened fixed laws state.slots state.rules add → (next : Next state.slots job add)
      → (next.slot < length state.slots) × ((received state.slots add.rule next.earlier).number ≢ 0)
  next_possible state job add opened next =
      let going = subst (λ (left : List ℕ). Going fixed.kind laws (down fixed.kind) add.rule state.slots state.rules add.made (last_written add) left) next.left opened.going in
      mid_possible add.rule (received state.slots add.rule next.earlier) state.slots _ next.slot next.earlier
      (advance fixed.kind laws (down fixed.kind) add.rule state.slots state.rules add.made (last_written add) next.slot next.earlier going)

  -- the one event of the next write
  next_made : (state : State) (job : Job) (add : OpenAdd) → Reached fixed state → ShowsOpen job add → state.job ≡ Some add → add.made < length add.chain
      → (event : Event) × (next_event state.slots job ≡ Ok event) × ((make_one fixed state add).events ≡ event ∷ [])
  next_made state job add reached shown is fewer =
      let next = next_write state.slots job add shown fewer in
      let possible = next_possible state job add (opened_add state add reached is) next in
      let slot = next.slot in
      let rule = received state.slots add.rule next.earlier in (
        Write slot rule,
        ap (λ (n : ℕ). writing (length state.slots) n (next_rule state.slots job)) next.slot_is
            ∙ ap (writing (length state.slots) slot) next.rule_is
            ∙ writing_ok (length state.slots) slot rule possible.0 possible.1,
        ap (λ (left : List ℕ). take 1 (writes state.slots add.rule left)) next.left,
      )

  -- a step with a ticket that names the open add, while writes are left
  pub step_turn : (state : State) (add : OpenAdd) (named : Named) → state.job ≡ Some add → names fixed state (ticket_of named) add ≡ true → add.made < length add.chain
      → turn fixed state (step (ticket_of named)) ≡ make_one fixed state add
  step_turn state add named is good fewer =
      grind (arith, named_turn)

  -- one write more does not change what all the writes make
  all_after_one : (state : State) (job : Job) (add : OpenAdd) → Next state.slots job add → add.made < length add.chain
      → (make_all fixed (make_one fixed state add).next (more_made add)).next ≡ (make_all fixed state add).next
  all_after_one state job add next fewer =
      let one = λ (left : List ℕ). take 1 (writes state.slots add.rule left) in
      let rules-one = cond (written (more_made add)) (add.rule ∷ state.rules) state.rules in
      let ended = λ (first left : List ℕ) (rules : List Rule).
      let slots = all_carried_out state.slots (one first) in
      let trace = all_traced fixed.traced state.trace (one first) in
      let all : State = record { slots = all_carried_out slots (writes slots add.rule left); trace = all_traced fixed.traced trace (writes slots add.rule left); rules = rules; job = None } in
      all in
      let whole = λ (left : List ℕ) (rules : List Rule).
      let all : State = record { slots = all_carried_out state.slots (writes state.slots add.rule left); trace = all_traced fixed.traced state.trace (writes state.slots add.rule left); rules = rules; job = None } in
      all in
      let not_yet = cond-false (written add) state.rules (add.rule ∷ state.rules) (ne_eqb add.made (length add.chain) (λ same. absurd (omega arith))) in
      let rules-same : cond (written (more_made add)) rules-one (add.rule ∷ rules-one) ≡ add.rule ∷ state.rules =
      grind arith in
      ap (λ (rules : List Rule). ended (unwritten add) (unwritten (more_made add)) rules) (rules-same ∙ sym not_yet)
      ∙ ap (λ (first : List ℕ). ended first (unwritten (more_made add)) (cond (written add) state.rules (add.rule ∷ state.rules))) next.left
      ∙ ap (λ (left : List ℕ). ended (next.slot ∷ next.earlier) left (cond (written add) state.rules (add.rule ∷ state.rules))) next.rest
      ∙ sym (ap (λ (left : List ℕ). whole left (cond (written add) state.rules (add.rule ∷ state.rules))) next.left)

  -- neither does it change what they make of the memory
  memory_after_one : {Memory : Type 0} (stored : Memory → Event → Memory) (state : State) (job : Job) (add : OpenAdd) (memory memory' : Memory) → Next state.slots job add
      → memory' ≡ all_after stored memory (make_one fixed state add).events
      → all_after stored memory' (make_all fixed (make_one fixed state add).next (more_made add)).events ≡ all_after stored memory (make_all fixed state add).events
  memory_after_one {Memory} stored state job add memory memory' next is =
      let one = λ (left : List ℕ). take 1 (writes state.slots add.rule left) in
      let rest = λ (first left : List ℕ). writes (all_carried_out state.slots (one first)) add.rule left in
      ap (λ (m : Memory). all_after stored m (rest (unwritten add) (unwritten (more_made add)))) is
      ∙ ap (λ (first : List ℕ). all_after stored (all_after stored memory (one first)) (rest first (unwritten (more_made add)))) next.left
      ∙ ap (λ (left : List ℕ). all_after stored (all_after stored memory (one (next.slot ∷ next.earlier))) (rest (next.slot ∷ next.earlier) left)) next.rest
      ∙ sym (ap (λ (left : List ℕ). all_after stored memory (writes state.slots add.rule left)) next.left)

  last_within : (state : State) (add : OpenAdd) → Opened fixed laws state.slots state.rules add → 0 < add.made → last_written add < length state.slots
  last_within state add opened some =
      ⊎_elim
      (λ begun. absurd (let none = begun.0 in omega arith))
      (λ mid.
      let written-mid = mid.1 in
      let within = written-mid.start.within in
      let size = ap length written-mid.slots_are in
      omega (arith, length-set written-mid.base (last_written add) (Some (received written-mid.base add.rule (unwritten add)))))
      opened.going

module _ {Memory : Type 0} (fixed : Fixed) (stored : Memory → Event → Memory) (laws : KindLaws fixed.kind) where
  -- what the code does for one write
  pub record WroteOne (before behind : Seen Memory) : Type 0 where
    pub slots : behind.slots ≡ all_carried_out before.slots (as_events (next_event before.slots before.job))
    pub trace : behind.trace ≡ all_traced fixed.traced before.trace (as_events (next_event before.slots before.job))
    pub memory : behind.memory ≡ all_after stored before.memory (as_events (next_event before.slots before.job))
    pub job : behind.job ≡ moved (phase_of before.job) Wrote before.job

  one_taken : (state : State) (add : OpenAdd) (before behind : Seen Memory) → Reached fixed state → Shows before state → state.job ≡ Some add → add.made < length add.chain → WroteOne before behind
      → Shows behind (make_one fixed state add).next × (behind.memory ≡ all_after stored before.memory (make_one fixed state add).events)
  one_taken state add before behind reached shows is fewer wrote =
      let shown : ShowsOpen before.job add = subst (ShowsJob before.job) is shows.job in
      let next = next_made fixed laws state before.job add reached shown is fewer in
      let event : next_event before.slots before.job ≡ Ok next.0 = ap (λ (s : List Slot). next_event s before.job) shows.slots ∙ next.1 in
      let many = shown.chain.as_many in
      let done = shown.made in
      let further-is : behind.job ≡ further before.job =
      wrote_further before.job behind.job shown.busy (omega arith) wrote.job in
      let events = ap as_events event ∙ sym next.2 in (
        record {
          slots = wrote.slots ∙ ap (all_carried_out before.slots) events ∙ ap (λ (s : List Slot). all_carried_out s (make_one fixed state add).events) shows.slots;
          trace = wrote.trace ∙ ap (all_traced fixed.traced before.trace) events
              ∙ ap (λ (t : ℕ). all_traced fixed.traced t (make_one fixed state add).events) shows.trace;
          job = record {
            busy = ap (λ (j : Job). j.busy) further-is ∙ shown.busy;
            rule = ap (λ (j : Job). j.rule) further-is ∙ shown.rule;
            chain = record {
              as_many = ap (λ (j : Job). j.chain.length) further-is ∙ shown.chain.as_many;
              are = ap (λ (j : Job). take j.chain.length j.chain.places) further-is ∙ shown.chain.are;
            };
            made = ap (λ (j : Job). j.made) further-is ∙ add-one before.job.made ∙ ap suc shown.made;
          };
        },
        wrote.memory ∙ ap (all_after stored before.memory) events,
      )

  pub step_done : (before behind : Seen Memory) (named : Named) (left : ℕ) → Ok tt ≡ allowed fixed.board (phase_of before.job) (Step named) before.job → WroteOne before behind
      → left ≡ behind.job.chain.length - behind.job.made → Takes fixed stored (step (ticket_of named)) (counting (Ok left)) before behind
  step_done before behind named left ok wrote left_is state reached shows =
      let found = (step_by fixed state before.job state.job named (λ (one : OpenAdd). cond (written one) (refuse fixed state RunOut) (make_one fixed state one)) shows.job).0 ok in
      let add = found.0 in
      let is = found.1 in
      let shown : ShowsOpen before.job add = subst (ShowsJob before.job) is shows.job in
      let many = shown.chain.as_many in
      let done = shown.made in
      let fewer : add.made < length add.chain = omega (arith, found.3) in
      let taken = one_taken state add before behind reached shows is fewer wrote in
      let behind-open = taken.0.job in
      let behind-many = behind-open.chain.as_many in
      let behind-made = behind-open.made in
      let left-same : left ≡ length add.chain - suc add.made = omega arith in
      subst (λ (t : Turn). TakenBy fixed stored state t (counted left) before behind) (sym (step_turn fixed laws state add named is found.2 fewer)) (ap counted left-same, taken.0, taken.1)

  pub step_refused : (before : Seen Memory) (named : Named) (r : Result ℕ Refusal) (refusal : Refusal) → IsErrAnd r (λ e. e ≡ refusal) → Err refusal ≡ allowed fixed.board (phase_of before.job) (Step named) before.job
      → Takes fixed stored (step (ticket_of named)) (counting r) before before
  step_refused before named r refusal exit not_so =
      refused_exit fixed stored (step (ticket_of named)) counting before before r refusal exit
      (λ state reached shows.
      refused_by fixed stored state (step (ticket_of named)) before before refusal shows
      ((step_by fixed state before.job state.job named (λ (one : OpenAdd). cond (written one) (refuse fixed state RunOut) (make_one fixed state one)) shows.job).1 refusal not_so
      (λ add is none.
      let shown : ShowsOpen before.job add = subst (ShowsJob before.job) is shows.job in
      let short = (opened_add fixed laws state add reached is).short in
      let many = shown.chain.as_many in
      let done = shown.made in
      cond-true (written add) (refuse fixed state RunOut) (make_one fixed state add) (eq-eqb add.made (length add.chain) (omega arith))))
      refl refl refl shows.job)

  -- Complete.

  pub on_more : (named : Named) (start before behind : Seen Memory) → before.job.made < before.job.chain.length → WroteOne before behind → OnWay fixed stored named start before → OnWay fixed stored named start behind
  on_more named start before behind more wrote way state reached shows add is good =
      let on = way state reached shows add is good in
      let shown : ShowsOpen before.job on.add = subst (ShowsJob before.job) on.is on.shows.job in
      let many = shown.chain.as_many in
      let done = shown.made in
      let fewer : on.add.made < length on.add.chain = omega arith in
      let turned = step_turn fixed laws on.state on.add named on.is on.good fewer in
      let next = next_write on.state.slots before.job on.add shown fewer in
      let taken = one_taken on.state on.add before behind on.reached on.shows on.is fewer wrote in
      record {
        state = (make_one fixed on.state on.add).next;
        reached = subst (λ (t : Turn). Reached fixed t.next) turned (reached_next fixed on.state (step (ticket_of named)) tt on.reached);
        shows = taken.0;
        add = more_made on.add;
        is = refl;
        good = on.good;
        goal_is = all_after_one fixed laws on.state before.job on.add next fewer ∙ on.goal_is;
        memory_is = memory_after_one fixed laws stored on.state before.job on.add before.memory behind.memory next taken.1 ∙ on.memory_is;
        announced_is = on.announced_is;
      }

  pub complete_done : (start before : Seen Memory) (job : Job) (named : Named) (told : ℕ) → Ok tt ≡ allowed fixed.board (phase_of start.job) (Close named) start.job → OnWay fixed stored named start before
      → before.job.chain.length ≤ before.job.made → job ≡ moved (phase_of before.job) Closed before.job → told ≡ job.chain.length
      → Takes fixed stored (complete (ticket_of named)) (counting (Ok told)) start (seen before.slots before.trace before.memory job)
  complete_done start before job named told ok way none closed_is told_is state reached shows =
      let found = (close_by fixed state start.job state.job named (make_all fixed state) shows.job).0 ok in
      let on = way state reached shows found.0 found.1 found.2 in
      let shown : ShowsOpen before.job on.add = subst (ShowsJob before.job) on.is on.shows.job in
      let many = shown.chain.as_many in
      let done = shown.made in
      let size = length-reverse on.add.chain in
      let empty = drop_all on.add.made (reverse on.add.chain) (omega arith) in
      let is-closed : job ≡ closed before.job =
      closed_back before.job job shown.busy closed_is in
      let told_same : told ≡ length found.0.chain = told_is ∙ ap (λ (j : Job). j.chain.length) is-closed ∙ many ∙ on.announced_is in
      let ended : Shows (seen before.slots before.trace before.memory job) (make_all fixed on.state on.add).next =
      record {
        slots = on.shows.slots ∙ sym (ap (λ (left : List ℕ). all_carried_out on.state.slots (writes on.state.slots on.add.rule left)) empty);
        trace = on.shows.trace ∙ sym (ap (λ (left : List ℕ). all_traced fixed.traced on.state.trace (writes on.state.slots on.add.rule left)) empty);
        job = ap (λ (j : Job). j.busy) is-closed;
      } in
      subst (λ (t : Turn). TakenBy fixed stored state t (counted told) start (seen before.slots before.trace before.memory job)) (sym (named_turn fixed state state.job found.0 named (make_all fixed state) found.1 found.2)) (
        ap counted told_same,
        subst (Shows (seen before.slots before.trace before.memory job)) on.goal_is ended,
        sym (ap (λ (left : List ℕ). all_after stored before.memory (writes on.state.slots on.add.rule left)) empty) ∙ on.memory_is,
      )

  -- a complete or a withdraw that leaves by a `?`
  pub close_refused : (call : Call) (made : Fixed → State → OpenAdd → Turn) (before : Seen Memory) (named : Named) (r : Result ℕ Refusal) (refusal : Refusal) → ((state : State) → turn fixed state call ≡ when_named fixed state (ticket_of named) state.job (made fixed state))
      → IsErrAnd r (λ e. e ≡ refusal) → Err refusal ≡ allowed fixed.board (phase_of before.job) (Close named) before.job → Takes fixed stored call (counting r) before before
  close_refused call made before named r refusal turned exit not_so =
      refused_exit fixed stored call counting before before r refusal exit
      (λ state reached shows.
      refused_by fixed stored state call before before refusal shows (turned state ∙ (close_by fixed state before.job state.job named (made fixed state) shows.job).1 refusal not_so) refl refl refl shows.job)

  -- Withdraw.

  pub withdraw_done : (before : Seen Memory) (slots : List Slot) (trace : ℕ) (memory : Memory) (job : Job) (named : Named) (told : ℕ) → Ok tt ≡ allowed fixed.board (phase_of before.job) (Close named) before.job
      → told ≡ in_force before.job → slots ≡ all_carried_out before.slots (erased_back before.slots before.job) → trace ≡ all_traced fixed.traced before.trace (erased_back before.slots before.job)
      → memory ≡ all_after stored before.memory (erased_back before.slots before.job)
      → job ≡ moved (phase_of before.job) Closed before.job
      → Takes fixed stored (withdraw (ticket_of named)) (counting (Ok told)) before (seen slots trace memory job)
  withdraw_done before slots trace memory job named told ok told_is slots_are trace_is memory_is closed_is state reached shows =
      let found = (close_by fixed state before.job state.job named (take_back fixed state) shows.job).0 ok in
      let add = found.0 in
      let shown : ShowsOpen before.job add = subst (ShowsJob before.job) found.1 shows.job in
      let opened = opened_add fixed laws state add reached found.1 in
      let short = opened.short in
      let many = shown.chain.as_many in
      let done = shown.made in
      let is-closed : job ≡ closed before.job =
      closed_back before.job job shown.busy closed_is in
      let half-same : half_done before.job ≡ half_way add =
      grind arith in
      let told_same : told ≡ cond (written add) 1 0 =
      grind arith in
      let events = cond (half_way add) (Erase (last_written add) ∷ []) [] in
      let erase : half_way add ≡ true → erasing (length before.slots) (slot_last before.job) ≡ Ok (Erase (last_written add)) =
      λ half.
      let some = ltb-true 0 add.made (and_parts (ltb 0 add.made) (ltb add.made (length add.chain)) half).0 in
      let last = from_end before.job add (add.made - 1) (before.job.chain.length - before.job.made) shown (omega arith) (omega arith) in
      let within : last_written add < length before.slots = omega (arith, last_within fixed laws state add opened some, ap length shows.slots) in
      ap (erasing (length before.slots)) (sym last) ∙ erasing_ok (length before.slots) (last_written add) within in
      let erased = erased_back_is before.slots before.job (last_written add) (half_way add) half-same erase in
      shown_by fixed stored state (withdraw (ticket_of named)) before (seen slots trace memory job) (counted told) (counted (cond (written add) 1 0)) events state.rules None shows
      (named_turn fixed state state.job add named (take_back fixed state) found.1 found.2)
      (ap counted told_same)
      (slots_are ∙ ap (all_carried_out before.slots) erased)
      (trace_is ∙ ap (all_traced fixed.traced before.trace) erased)
      (memory_is ∙ ap (all_after stored before.memory) erased)
      (ap (λ (j : Job). j.busy) is-closed)

-- How a call on a board is a turn of the machine. Assumes nothing.
use Rattle.std.proofs.Common.{◌≡◌, ℕ, ◌<◌, ◌≤◌, true, ◌&&◌, eqb, List, [], ◌∷◌, ◌++◌, IsErrAnd, Some, None, Ok, Err, Option, Result, sym, refl, ap, ◌∙◌, subst, arith}
use Rattle.std.proofs.lemmas.Bool.{cond-true}
use Rattle.std.proofs.lemmas.Result.{err_from_is_err_and}
use Rattle.rules.specs.declared.rule.Rule.{Rule}
use Rattle.rules.specs.declared.event.Event.{Event}
use Rattle.rules.specs.declared.refusal.Refusal.{Refusal}
use Rattle.rules.specs.declared.refusal.Refusal.TheVariants.{Foreign, RunOut}
use Rattle.rules.specs.declared.device.SlotDevice.{Ghosts}
use Rattle.rules.specs.Kinds.{KindLaws}
use Rattle.rules.specs.Slots.{carried_out, all_after}
use Rattle.rules.specs.Slots.{after as left_after}
use Rattle.shifting.specs.Slots.{Slot, all_carried_out}
use Rattle.shifting.specs.Machine.{Call, Answer, refused, State, Fixed, Turn, all_traced, does, refuse, when_idle, names, when_named, turn, cleared}
use Rattle.shifting.specs.Machine.{Job as OpenAdd}
use Rattle.shifting.proofs.Serving.{Brings, sized_from, after_push, sized_push}
use Rattle.shifting.proofs.Sound.{Sound, sound_after, cleared_sound}
use Rattle.job.specs.declared.named.Named.{Named}
use Rattle.job.specs.declared.job.Job.{Job}
use Rattle.job.specs.declared.job.Request.TheVariants.{Alter, Step, Close}
use Rattle.job.specs.Jobs.{phase_of, naming, allowed}
use Rattle.turns.specs.Shown.{Seen, Shows, ShowsOpen, ShowsJob, Reached, Takes, ticket_of, CarriesOutAll, as_events}

abbrev Allowed : Type 0
Allowed = Result (Unit {0}) Refusal

-- a call that leaves by a `?` answers the refusal that it got
pub refused_exit : {Memory X : Type 0} (fixed : Fixed) (stored : Memory → Event → Memory) (call : Call) (answering : Result X Refusal → Answer) (before behind : Seen Memory) (r : Result X Refusal) (refusal : Refusal) → IsErrAnd r (λ e. e ≡ refusal)
    → Takes fixed stored call (answering (Err refusal)) before behind → Takes fixed stored call (answering r) before behind
refused_exit {Memory} {X} fixed stored call answering before behind r refusal exit =
    let parts = err_from_is_err_and r exit in
    subst (λ (r : Result X Refusal). Takes fixed stored call (answering r) before behind) (sym (parts.1 ∙ ap Err parts.2))

-- a device that makes one event, or none, carries it out
pub carries_out : {D K : Type 0} (g : Ghosts D K) (device device' : D) (event : Result Event Refusal) → g.slots device' ≡ left_after carried_out (g.slots device) event → g.trace device' ≡ left_after g.traced (g.trace device) event
    → g.memory device' ≡ left_after g.stored (g.memory device) event → g.lenders device' ≡ g.lenders device → CarriesOutAll g device (as_events event) device'
carries_out g device device' (Ok event) slots trace memory same = record { slots = slots; trace = trace; memory = memory; same = same }
carries_out g device device' (Err refusal) slots trace memory same = record { slots = slots; trace = trace; memory = memory; same = same }

-- what the machine does where a test refuses, and where it does not
abbrev pub by : Fixed → State → Allowed → Turn → Turn
by fixed state (Ok nothing) made = made
by fixed state (Err refusal) made = refuse fixed state refusal

pub reached_next : (fixed : Fixed) (state : State) (call : Call) → Brings call → Reached fixed state → Reached fixed (turn fixed state call).next
reached_next fixed state call one reached =
    record {
      slots = reached.slots;
      trace = reached.trace;
      calls = reached.calls ++ call ∷ [];
      sized = sized_push reached.calls call reached.sized (sized_from call one);
      is = ap (λ (s : State). (turn fixed s call).next) reached.is ∙ sym (after_push fixed reached.calls (cleared fixed reached.slots reached.trace) call);
    }

module _ (fixed : Fixed) (laws : KindLaws fixed.kind) where
  pub reached_sound : (state : State) → Reached fixed state → Sound fixed laws state
  reached_sound state reached =
      subst (Sound fixed laws) (sym reached.is)
      (sound_after fixed laws reached.calls (cleared fixed reached.slots reached.trace) reached.sized (cleared_sound fixed laws reached.slots reached.trace))

module _ {Memory : Type 0} (fixed : Fixed) (stored : Memory → Event → Memory) (state : State) where
  -- what a call is to be, by the machine's turn
  abbrev pub TakenBy : Turn → Answer → Seen Memory → Seen Memory → Type 0
  TakenBy turned answer before behind = (answer ≡ turned.answer) × Shows behind turned.next × (behind.memory ≡ all_after stored before.memory turned.events)

  pub shown_by : (call : Call) (before behind : Seen Memory) (answer given : Answer) (events : List Event) (rules : List Rule) (job : Option OpenAdd)
      → Shows before state → turn fixed state call ≡ does fixed state given events rules job → answer ≡ given
      → behind.slots ≡ all_carried_out before.slots events → behind.trace ≡ all_traced fixed.traced before.trace events
      → behind.memory ≡ all_after stored before.memory events → ShowsJob behind.job job
      → TakenBy (turn fixed state call) answer before behind
  shown_by call before behind answer given events rules job shows turned same slots trace memory shown =
      subst (λ (t : Turn). TakenBy t answer before behind) (sym turned) (
        same,
        record {
          slots = slots ∙ ap (λ (s : List Slot). all_carried_out s events) shows.slots;
          trace = trace ∙ ap (λ (t : ℕ). all_traced fixed.traced t events) shows.trace;
          job = shown;
        },
        memory,
      )

  pub refused_by : (call : Call) (before behind : Seen Memory) (refusal : Refusal) → Shows before state → turn fixed state call ≡ refuse fixed state refusal
      → behind.slots ≡ before.slots → behind.trace ≡ before.trace → behind.memory ≡ before.memory → ShowsJob behind.job state.job
      → TakenBy (turn fixed state call) (refused refusal) before behind
  refused_by call before behind refusal shows turned slots trace memory shown =
      shown_by call before behind (refused refusal) (refused refusal) [] state.rules state.job shows turned refl slots trace memory shown

module _ (fixed : Fixed) (state : State) where
  pub named_turn : (open_add : Option OpenAdd) (add : OpenAdd) (named : Named) (made : OpenAdd → Turn) → open_add ≡ Some add → names fixed state (ticket_of named) add ≡ true
      → when_named fixed state (ticket_of named) open_add made ≡ made add
  named_turn open_add add named made is good =
      ap (λ (o : Option OpenAdd). when_named fixed state (ticket_of named) o made) is ∙ cond-true (names fixed state (ticket_of named) add) (made add) (refuse fixed state Foreign) good

  -- add, drop and change
  pub alter_by : (job : Job) (open_add : Option OpenAdd) (made : Turn) → ShowsJob job open_add
      → when_idle fixed state open_add made ≡ by fixed state (allowed fixed.board (phase_of job) Alter job) made
  alter_by job None made shown = grind arith
  alter_by job (Some add) made shown = grind arith

  pub alter_idle : (job : Job) (open_add : Option OpenAdd) → ShowsJob job open_add → Ok tt ≡ allowed fixed.board (phase_of job) Alter job → open_add ≡ None
  alter_idle job open_add shown is = grind arith

  -- step, complete and withdraw

  same_names : (job : Job) (add : OpenAdd) (named : Named) → ShowsOpen job add → naming fixed.board named job ≡ names fixed state (ticket_of named) add
  same_names job add named shown =
      ap (λ (rule : Rule). eqb named.board fixed.board && (eqb named.rule rule.number && eqb named.length job.chain.length)) shown.rule
      ∙ ap (λ (n : ℕ). eqb named.board fixed.board && (eqb named.rule add.rule.number && eqb named.length n)) shown.chain.as_many

  pub close_by : (job : Job) (open_add : Option OpenAdd) (named : Named) (made : OpenAdd → Turn) → ShowsJob job open_add
      → (Ok tt ≡ allowed fixed.board (phase_of job) (Close named) job → (add : OpenAdd) × (open_add ≡ Some add) × (names fixed state (ticket_of named) add ≡ true))
      × ((refusal : Refusal) → Err refusal ≡ allowed fixed.board (phase_of job) (Close named) job → when_named fixed state (ticket_of named) open_add made ≡ refuse fixed state refusal)
  close_by job None named made shown = (λ is. grind arith, λ refusal is. grind arith)
  close_by job (Some add) named made shown =
      let same = same_names job add named shown in
      (λ is. (add, refl, grind arith), λ refusal is. grind arith)

  pub step_by : (job : Job) (open_add : Option OpenAdd) (named : Named) (made : OpenAdd → Turn) → ShowsJob job open_add
      → (Ok tt ≡ allowed fixed.board (phase_of job) (Step named) job → (add : OpenAdd) × (open_add ≡ Some add) × (names fixed state (ticket_of named) add ≡ true) × (job.made < job.chain.length))
      × ((refusal : Refusal) → Err refusal ≡ allowed fixed.board (phase_of job) (Step named) job
      → ((add : OpenAdd) → open_add ≡ Some add → job.chain.length ≤ job.made → made add ≡ refuse fixed state RunOut)
      → when_named fixed state (ticket_of named) open_add made ≡ refuse fixed state refusal)
  step_by job None named made shown = (λ is. grind arith, λ refusal is out. grind arith)
  step_by job (Some add) named made shown =
      let same = same_names job add named shown in (
        λ is. (add, refl, grind arith, grind arith),
        λ refusal is out. let over = out add refl in grind arith,
      )

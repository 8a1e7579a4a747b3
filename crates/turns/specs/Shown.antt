-- What a board shows of the machine, and what it is for a call to do what the machine does. Assumes nothing.
use Rattle.std.specs.Prelude.{◌≡◌, ℕ, ◌-◌, true, false, cond, not, ◌||◌, List, [], ◌∷◌, length, Some, None, Ok, Err, Option, Result, ◌==◌, nat_lt}
use Rattle.rules.specs.declared.rule.Rule.{Rule}
use Rattle.rules.specs.declared.event.Event.{Event}
use Rattle.rules.specs.declared.refusal.Refusal.{Refusal}
use Rattle.rules.specs.declared.refusal.Refusal.TheVariants.{Mangled, Known, Unknown}
use Rattle.rules.specs.declared.device.SlotDevice.{Ghosts}
use Rattle.rules.specs.Kinds.{KindMeaning}
use Rattle.rules.specs.Slots.{writing, erasing, all_after, place_within}
use Rattle.shifting.specs.Chains.{scan}
use Rattle.shifting.specs.Slots.{Slot, at, all_carried_out}
use Rattle.shifting.specs.Machine.{Ticket, Call, Answer, opened, counted, done, found, refused, State, Fixed, cleared, all_traced, held, has_number, turn, after}
use Rattle.shifting.specs.Machine.{Job as OpenAdd}
use Rattle.std.specs.List.{AllByRecursion}
use Rattle.shifting.specs.Law.{Sized}
use Rattle.placing.specs.Placing.{Names}
use Rattle.job.specs.declared.named.Named.{Named}
use Rattle.job.specs.declared.job.Job.{Job}
use Rattle.job.specs.Jobs.{next_slot, slot_before, slot_last, half_done}

-- what can be seen of a board: its device's slots and trace, the memory lent to the device, and its own record of the open add
pub record Seen (Memory : Type 0) : Type 0 where
  pub slots : List Slot
  pub trace : ℕ
  pub memory : Memory
  pub job : Job

abbrev pub seen : {Memory : Type 0} → List Slot → ℕ → Memory → Job → Seen Memory
seen slots trace memory job = record { slots = slots; trace = trace; memory = memory; job = job }

-- what can be seen with this device
abbrev pub shown : {D K : Type 0} (g : Ghosts D K) → D → Job → Seen g.Lent
shown g device job = seen (g.slots device) (g.trace device) (g.memory device) job

pub record ShowsOpen (job : Job) (add : OpenAdd) : Type 0 where
  pub busy : job.busy ≡ true
  pub rule : job.rule ≡ add.rule
  pub chain : Names job.chain add.chain
  pub made : job.made ≡ add.made

abbrev pub ShowsJob : Job → Option OpenAdd → Type 0
ShowsJob job None = job.busy ≡ false
ShowsJob job (Some add) = ShowsOpen job add

-- a board and a state of the machine agree on all but the rules in force, which a board does not store
pub record Shows {Memory : Type 0} (board : Seen Memory) (state : State) : Type 0 where
  pub slots : board.slots ≡ state.slots
  pub trace : board.trace ≡ state.trace
  pub job : ShowsJob board.job state.job

-- a state that some calls lead to from a cleared board
pub record Reached (fixed : Fixed) (state : State) : Type 0 where
  pub slots : List Slot
  pub trace : ℕ
  pub calls : List Call
  pub sized : AllByRecursion Sized calls
  pub is : state ≡ after fixed (cleared fixed slots trace) calls

abbrev pub fixed_by : KindMeaning → (ℕ → Event → ℕ) → ℕ → Fixed
fixed_by kind traced board = record { kind = kind; traced = traced; board = board }

-- whatever machine state the board shows before the call: the answer is the machine's, the board shows the machine's next state,
-- and the lent memory is what the machine's writes and erases make of it
abbrev pub Takes : {Memory : Type 0} → Fixed → (Memory → Event → Memory) → Call → Answer → Seen Memory → Seen Memory → Type 0
Takes fixed stored call answer before behind =
    (state : State) → Reached fixed state → Shows before state
    → (answer ≡ (turn fixed state call).answer) × Shows behind (turn fixed state call).next × (behind.memory ≡ all_after stored before.memory (turn fixed state call).events)

-- the same of a board with this kind of rule, this device and this number
abbrev pub Acts : {D K : Type 0} → KindMeaning → Ghosts D K → ℕ → Call → Answer → D → Job → D → Job → Type 0
Acts kind g number call answer device job device' job' =
    Takes (fixed_by kind g.traced number) g.stored call answer (shown g device job) (shown g device' job')

-- Answers, as the machine gives them. A ticket is what it names.

abbrev pub ticket_of : Named → Ticket
ticket_of named = record { board = named.board; rule = named.rule; length = named.length }

abbrev pub opening : Result Named Refusal → Answer
opening (Ok named) = opened (ticket_of named)
opening (Err refusal) = refused refusal

abbrev pub counting : Result ℕ Refusal → Answer
counting (Ok count) = counted count
counting (Err refusal) = refused refusal

abbrev pub doing : Result (Unit {0}) Refusal → Answer
doing (Ok tt) = done
doing (Err refusal) = refused refusal

abbrev pub finding : Result (Option (ℕ × ℕ)) Refusal → Answer
finding (Ok told) = found told
finding (Err refusal) = refused refusal

-- the first slot whose rule has this number
abbrev pub numbered : List Slot → ℕ → Option ℕ
numbered slots number = place_within (length slots) (scan (λ i. has_number number (at slots i)) 0 (length slots))

-- What is refused of a new rule before its place is looked for.
abbrev pub fitting : KindMeaning → List Slot → Rule → Result (Unit {0}) Refusal
fitting kind slots new =
    cond (new.number == 0 || not (kind.well_formed new.word_a new.word_b)) (Err Mangled)
    (cond (nat_lt (scan (λ i. has_number new.number (at slots i)) 0 (length slots)) (length slots)) (Err Known)
    (Ok tt))

-- the slot of the rule with this number
abbrev pub standing : List Slot → ℕ → Result ℕ Refusal
standing slots number =
    cond (number == 0 || not (nat_lt (scan (λ i. has_number number (at slots i)) 0 (length slots)) (length slots))) (Err Unknown)
    (Ok (scan (λ i. has_number number (at slots i)) 0 (length slots)))

-- the rule that the next write of the open add brings
abbrev pub next_rule : List Slot → Job → Rule
next_rule slots job = cond (nat_lt 1 (job.chain.length - job.made)) (held (at slots (slot_before job))) job.rule

-- what that write comes to
abbrev pub next_event : List Slot → Job → Result Event Refusal
next_event slots job = writing (length slots) (next_slot job) (next_rule slots job)

-- the events that a write or an erase comes to: one, or none where it is refused
abbrev pub as_events : Result Event Refusal → List Event
as_events (Ok event) = event ∷ []
as_events (Err refusal) = []

-- taking an add back: half way the slot last written is erased
abbrev pub erased_back : List Slot → Job → List Event
erased_back slots job = cond (half_done job) (as_events (erasing (length slots) (slot_last job))) []

-- what carrying out these events leaves of a device: slots, trace and memory as they make them, and the same loans
module _ {D K : Type 0} (g : Ghosts D K) where
  pub record CarriesOutAll (device : D) (events : List Event) (device' : D) : Type 0 where
    pub slots : g.slots device' ≡ all_carried_out (g.slots device) events
    pub trace : g.trace device' ≡ all_traced g.traced (g.trace device) events
    pub memory : g.memory device' ≡ all_after g.stored (g.memory device) events
    pub same : g.lenders device' ≡ g.lenders device

-- The machine: what each call on a board answers, the single writes and erases that it makes, and the state that it leaves.
-- Assumes nothing.
use Rattle.std.specs.Prelude.{ℕ, zero, suc, ◌-◌, Bool, false, cond, not, ◌&&◌, ◌||◌, List, [], ◌∷◌, ◌++◌, reverse, length, take, drop, Some, None, Option, ◌==◌, nat_eq, nat_lt, slice_index}
use Rattle.rules.specs.declared.rule.Rule.{Rule}
use Rattle.rules.specs.declared.event.Event.{Event}
use Rattle.rules.specs.declared.event.Event.TheVariants.{Write, Erase}
use Rattle.rules.specs.declared.refusal.Refusal.{Refusal}
use Rattle.rules.specs.declared.refusal.Refusal.TheVariants.{Busy, Mangled, Known, Tied, Crossed, NoSlot, Unknown, Misdialled, Foreign, RunOut}
use Rattle.rules.specs.Kinds.{KindMeaning}
use Rattle.shifting.specs.Chains.{scan}
use Rattle.shifting.specs.Slots.{Slot, at, holds, carried_out, all_carried_out, tied, crossed, no_slot, jump_chain, first_match}

-- what a ticket names: the board, the number of the rule, and the length of its chain
pub record Ticket : Type 0 where
  pub board : ℕ
  pub rule : ℕ
  pub length : ℕ

pub data Call : Type 0 where
  add : Rule → Call
  step complete withdraw : Ticket → Call
  drop_rule : (number : ℕ) → Call
  change_action : (number action : ℕ) → Call
  look_up : (subject : ℕ) → Call

pub data Answer : Type 0 where
  -- an add
  opened : Ticket → Answer
  -- a step: the writes left; a complete: the announced count; a withdraw: 1 if the new rule is in force, otherwise 0
  counted : ℕ → Answer
  -- a drop or a change
  done : Answer
  -- a look-up: number and action, or none
  found : Option (ℕ × ℕ) → Answer
  refused : Refusal → Answer

-- an open add
pub record Job : Type 0 where
  pub rule : Rule
  pub chain : List ℕ
  -- how many of its writes are made
  pub made : ℕ

pub record State : Type 0 where
  pub slots : List Slot
  pub trace : ℕ
  -- the rules in force: each from its add's last write until it is dropped, with the action last given to it
  pub rules : List Rule
  pub job : Option Job

-- what does not change: the kind of rule, the device's rule for its next trace, and the board's number
pub record Fixed : Type 0 where
  pub kind : KindMeaning
  pub traced : ℕ → Event → ℕ
  pub board : ℕ

abbrev pub all_traced : (ℕ → Event → ℕ) → ℕ → List Event → ℕ
all_traced traced trace [] = trace
all_traced traced trace (event ∷ events) = all_traced traced (traced trace event) events

-- Opening erases every slot of the device once, from slot 0 up.

abbrev pub erases : ℕ → ℕ → List Event
erases slot zero = []
erases slot (suc count) = Erase slot ∷ erases (suc slot) count

abbrev pub cleared : Fixed → List Slot → ℕ → State
cleared fixed slots trace =
    let events = erases 0 (length slots) in
    record { slots = all_carried_out slots events; trace = all_traced fixed.traced trace events; rules = []; job = None }

-- The writes of an add go from the chain's end.

-- the rule in a taken slot
abbrev pub held : Slot → Rule
held None = record { number = 0; priority = 0; action = 0; word_a = 0; word_b = 0 }
held (Some rule) = rule

-- what a slot of the chain receives: the rule in the chain's slot before it, and in its first slot the new rule
abbrev pub received : List Slot → Rule → List ℕ → Rule
received slots new [] = new
received slots new (before ∷ earlier) = held (at slots before)

-- the writes to these slots of a chain, which are named from its end
abbrev pub writes : List Slot → Rule → List ℕ → List Event
writes slots new [] = []
writes slots new (slot ∷ earlier) =
    let event = Write slot (received slots new earlier) in
    event ∷ writes (carried_out slots event) new earlier

-- the slots of the chain that are not yet written, from its end
abbrev pub unwritten : Job → List ℕ
unwritten job = drop job.made (reverse job.chain)

-- phase written: the ticket is open and no write is left
abbrev pub written : Job → Bool
written job = job.made == length job.chain

-- some writes are made, but not all
abbrev pub half_way : Job → Bool
half_way job = nat_lt 0 job.made && nat_lt job.made (length job.chain)

abbrev pub last_written : Job → ℕ
last_written job = slice_index (reverse job.chain) (job.made - 1)

-- Rules in force.

abbrev pub number_in : ℕ → List Rule → Bool
number_in number [] = false
number_in number (rule ∷ rules) = rule.number == number || number_in number rules

abbrev pub without : ℕ → List Rule → List Rule
without number [] = []
without number (rule ∷ rules) = cond (rule.number == number) (without number rules) (rule ∷ without number rules)

abbrev pub with_action : ℕ → Rule → Rule
with_action action rule =
    record { number = rule.number; priority = rule.priority; action = action; word_a = rule.word_a; word_b = rule.word_b }

abbrev pub changed : ℕ → ℕ → List Rule → List Rule
changed number action [] = []
changed number action (rule ∷ rules) = cond (rule.number == number) (with_action action rule) rule ∷ changed number action rules

-- the number and action that a look-up tells of a slot
abbrev pub told : Slot → Option (ℕ × ℕ)
told None = None
told (Some rule) = Some (rule.number, rule.action)

abbrev pub has_number : ℕ → Slot → Bool
has_number number = holds (λ rule. nat_eq rule.number number)

-- What a call answers, its single writes and erases, and the state that it leaves.
pub record Turn : Type 0 where
  pub answer : Answer
  pub events : List Event
  pub next : State

-- Of several refusals the one with the smallest number is given, so they are tried in that order.
module _ (fixed : Fixed) (state : State) where
  -- a call with this answer, these events, which are carried out in order, and these rules and this open add after it
  abbrev pub does : Answer → List Event → List Rule → Option Job → Turn
  does answer events rules job =
      let slots = all_carried_out state.slots events in
      let trace = all_traced fixed.traced state.trace events in
      record { answer = answer; events = events; next = record { slots = slots; trace = trace; rules = rules; job = job } }

  abbrev pub refuse : Refusal → Turn
  refuse refusal = does (refused refusal) [] state.rules state.job

  abbrev pub when_idle : Option Job → Turn → Turn
  when_idle None made = made
  when_idle (Some job) made = refuse Busy

  -- any ticket that names the open add is good
  abbrev pub names : Ticket → Job → Bool
  names ticket job =
      (ticket.board == fixed.board) && (ticket.rule == job.rule.number && ticket.length == length job.chain)

  abbrev pub when_named : Ticket → Option Job → (Job → Turn) → Turn
  when_named ticket None made = refuse Foreign
  when_named ticket (Some job) made = cond (names ticket job) (made job) (refuse Foreign)

  abbrev pub open_add : Rule → Turn
  open_add new =
      let chain = jump_chain fixed.kind state.slots new in
      let ticket : Ticket = record { board = fixed.board; rule = new.number; length = length chain } in
      does (opened ticket) [] state.rules (Some (record { rule = new; chain = chain; made = 0 }))

  abbrev pub try_add : Rule → Turn
  try_add new =
      cond (new.number == 0 || not (fixed.kind.well_formed new.word_a new.word_b)) (refuse Mangled)
      (cond (number_in new.number state.rules) (refuse Known)
      (cond (tied fixed.kind state.slots new) (refuse Tied)
      (cond (crossed fixed.kind state.slots new) (refuse Crossed)
      (cond (no_slot fixed.kind state.slots new) (refuse NoSlot)
      (open_add new)))))

  abbrev pub make_one : Job → Turn
  make_one job =
      let further : Job = record { rule = job.rule; chain = job.chain; made = suc job.made } in
      does (counted (length job.chain - suc job.made)) (take 1 (writes state.slots job.rule (unwritten job)))
      (cond (written further) (job.rule ∷ state.rules) state.rules) (Some further)

  abbrev pub make_all : Job → Turn
  make_all job =
      does (counted (length job.chain)) (writes state.slots job.rule (unwritten job))
      (cond (written job) state.rules (job.rule ∷ state.rules)) None

  abbrev pub take_back : Job → Turn
  take_back job =
      does (counted (cond (written job) 1 0)) (cond (half_way job) (Erase (last_written job) ∷ []) []) state.rules None

  -- the slot of the rule with this number, or the count of slots
  abbrev pub place : ℕ → ℕ
  place number = scan (λ i. has_number number (at state.slots i)) 0 (length state.slots)

  abbrev pub when_standing : ℕ → Turn → Turn
  when_standing number made = cond (number == 0 || not (nat_lt (place number) (length state.slots))) (refuse Unknown) made

  abbrev pub erase_rule : ℕ → Turn
  erase_rule number = does done (Erase (place number) ∷ []) (without number state.rules) None

  abbrev pub rewrite_rule : ℕ → ℕ → Turn
  rewrite_rule number action =
      let rule = held (at state.slots (place number)) in
      does done (Write (place number) (with_action action rule) ∷ []) (changed number action state.rules) None

  abbrev pub turn : Call → Turn
  turn (add new) = when_idle state.job (try_add new)
  turn (step ticket) = when_named ticket state.job (λ job. cond (written job) (refuse RunOut) (make_one job))
  turn (complete ticket) = when_named ticket state.job make_all
  turn (withdraw ticket) = when_named ticket state.job take_back
  turn (drop_rule number) = when_idle state.job (when_standing number (erase_rule number))
  turn (change_action number action) = when_idle state.job (when_standing number (rewrite_rule number action))
  turn (look_up subject) =
      cond (fixed.kind.well_formed_subject subject)
      (does (found (told (first_match fixed.kind state.slots subject))) [] state.rules state.job)
      (refuse Misdialled)

-- the state after a list of calls
abbrev pub after : Fixed → State → List Call → State
after fixed state [] = state
after fixed state (call ∷ calls) = after fixed (turn fixed state call).next calls

-- the single writes and erases of a list of calls
abbrev pub events_of : Fixed → State → List Call → List Event
events_of fixed state [] = []
events_of fixed state (call ∷ calls) = (turn fixed state call).events ++ events_of fixed (turn fixed state call).next calls

-- and of a whole run, from its opening on
abbrev pub run_events : Fixed → List Slot → ℕ → List Call → List Event
run_events fixed slots trace calls = erases 0 (length slots) ++ events_of fixed (cleared fixed slots trace) calls

-- What code that serves a board cites: the machine's events one by one, its chain by places, its tests by slots, and runs with one call more.
-- Assumes nothing.
use Rattle.std.proofs.Common.{◌≡◌, ℕ, zero, suc, ◌+◌, ◌-◌, ◌<◌, ◌≤◌, true, eqb, ltb, List, [], ◌∷◌, ◌++◌, reverse, length, get_or, take, drop, set, Some, sym, refl, ap, ◌∙◌, inl, inr, ⊎_elim, arith}
use Rattle.std.specs.List.{AllByRecursion}
use Rattle.std.proofs.lemmas.Bool.{ltb-true, lt-ltb, eqb-true, eq-eqb, or_cases}
use Rattle.std.proofs.lemmas.List.{get_or-reverse, length-reverse, drop_all, drop_more}
use Rattle.std.proofs.lemmas.Bool.Decides.{same_from_decides}
use Rattle.rules.specs.declared.rule.Rule.{Rule}
use Rattle.rules.specs.declared.event.Event.{Event}
use Rattle.rules.specs.Kinds.{KindLaws}
use Rattle.shifting.specs.Slots.{Slot, at, carried_out, all_carried_out}
use Rattle.shifting.specs.Machine.{Call, add, step, complete, withdraw, drop_rule, change_action, look_up, Job, State, Fixed, all_traced, received, writes, unwritten, last_written, number_in, has_number, place, cleared, turn, after}
use Rattle.shifting.specs.Law.{In, Worded, Sized, LawOfRun}
use Rattle.shifting.proofs.Reading.{at_within}
use Rattle.shifting.proofs.Scans.{scan_first, scan_hit}
use Rattle.shifting.proofs.Settled.{Settled, in_number}
use Rattle.shifting.proofs.Sound.{Sound, found_number, sound_after, cleared_sound}
use Rattle.shifting.proofs.Lawful.{law_of_runs}

-- Events one by one.

pub carried_push : (events : List Event) (slots : List Slot) (event : Event) → all_carried_out slots (events ++ event ∷ []) ≡ carried_out (all_carried_out slots events) event
carried_push [] slots event = refl
carried_push (first ∷ events) slots event = carried_push events (carried_out slots first) event

pub traced_push : (traced : ℕ → Event → ℕ) (events : List Event) (trace : ℕ) (event : Event) → all_traced traced trace (events ++ event ∷ []) ≡ traced (all_traced traced trace events) event
traced_push traced [] trace event = refl
traced_push traced (first ∷ events) trace event = traced_push traced events (traced trace first) event

-- after some writes of a chain the others are the writes of what is left, from the slots as they then are
pub writes_rest : (new : Rule) (some : ℕ) (left : List ℕ) (slots : List Slot)
    → drop some (writes slots new left) ≡ writes (all_carried_out slots (take some (writes slots new left))) new (drop some left)
writes_rest new zero left slots = refl
writes_rest new (suc some) [] slots = refl
writes_rest new (suc some) (slot ∷ earlier) slots = writes_rest new some earlier (set slots slot (Some (received slots new earlier)))

-- The chain by places.

pub unwritten_none : (job : Job) → length job.chain ≤ job.made → unwritten job ≡ []
unwritten_none job all = drop_all job.made (reverse job.chain) (omega (arith, length-reverse job.chain))

pub unwritten_more : (job : Job) → job.made < length job.chain
    → unwritten job ≡ get_or job.chain (length job.chain - 1 - job.made) 0 ∷ unwritten (record { rule = job.rule; chain = job.chain; made = job.made + 1 })
unwritten_more job fewer =
    drop_more (reverse job.chain) job.made 0 (omega (arith, length-reverse job.chain))
    ∙ ap (λ slot. slot ∷ drop (job.made + 1) (reverse job.chain)) (get_or-reverse job.chain job.made 0 fewer)

pub last_written_is : (job : Job) → 0 < job.made → job.made ≤ length job.chain → last_written job ≡ get_or job.chain (length job.chain - job.made) 0
last_written_is job some short =
    let same : length job.chain - 1 - (job.made - 1) ≡ length job.chain - job.made = omega arith in
    get_or-reverse job.chain (job.made - 1) 0 (omega arith) ∙ ap (λ k. get_or job.chain k 0) same

-- The tests of the machine by slots.

pub number_rule : (number : ℕ) (rules : List Rule) → number_in number rules ≡ true → (rule : Rule) × In rule rules × (rule.number ≡ number)
number_rule number [] is = cc
number_rule number (first ∷ rules) is =
    ⊎_elim (λ here. (first, inl refl, eqb-true first.number number here))
    (λ later. let one = number_rule number rules later in (one.0, inr one.1, one.2))
    (or_cases (eqb first.number number) (number_in number rules) is)

-- on an idle board a number is in force exactly when it stands in a slot
pub in_force_standing : (fixed : Fixed) (state : State) (number : ℕ) → Settled fixed.kind state.slots state.rules
    → number_in number state.rules ≡ ltb (place fixed state number) (length state.slots)
in_force_standing fixed state number settled =
    let test = λ (i : ℕ). has_number number (at state.slots i) in
    let count = length state.slots in
    same_from_decides {P = number_in number state.rules ≡ true} (number_in number state.rules) (ltb (place fixed state number) count) (λ is. is, λ is. is) (
      λ within.
          let hit = found_number (at state.slots (place fixed state number)) number (scan_hit test 0 count (omega (arith, ltb-true (place fixed state number) count within))) in
          ap (λ n. number_in n state.rules) (sym hit.2) ∙ in_number hit.0 state.rules (settled.stocked.only (place fixed state number) hit.0 hit.1),
      λ is.
          let rule = number_rule number state.rules is in
          let stand = settled.stocked.stands rule.0 rule.1 in
          let within = at_within state.slots stand.0 rule.0 stand.1 in
          let first = scan_first test 0 count stand.0 (omega arith) (ap (has_number number) stand.1 ∙ eq-eqb rule.0.number number rule.2) in
          lt-ltb (place fixed state number) count (omega arith),
    )

-- Runs with one call more.

pub after_push : (fixed : Fixed) (calls : List Call) (state : State) (call : Call) → after fixed state (calls ++ call ∷ []) ≡ (turn fixed (after fixed state calls) call).next
after_push fixed [] state call = refl
after_push fixed (first ∷ calls) state call = after_push fixed calls (turn fixed state first).next call

pub sized_push : (calls : List Call) (call : Call) → AllByRecursion Sized calls → Sized call → AllByRecursion Sized (calls ++ call ∷ [])
sized_push [] call sized one = (one, tt)
sized_push (first ∷ calls) call sized one = (sized.0, sized_push calls call sized.1 one)

-- every state that a list of calls leads to is sound
pub led_sound : (fixed : Fixed) (laws : KindLaws fixed.kind) (slots : List Slot) (trace : ℕ) (calls : List Call) → AllByRecursion Sized calls
    → Sound fixed laws (after fixed (cleared fixed slots trace) calls)
led_sound fixed laws slots trace calls sized = sound_after fixed laws calls (cleared fixed slots trace) sized (cleared_sound fixed laws slots trace)

pub law_push : (fixed : Fixed) → KindLaws fixed.kind → (slots : List Slot) (trace : ℕ) (calls : List Call) (call : Call) → AllByRecursion Sized calls → Sized call
    → LawOfRun fixed slots trace (calls ++ call ∷ [])
law_push fixed laws slots trace calls call sized one = law_of_runs fixed laws slots trace (calls ++ call ∷ []) (sized_push calls call sized one)

-- what is to be shown of a call that it is sized
abbrev pub Brings : Call → Type 0
Brings (add new) = Worded new
Brings (step ticket) = Unit {0}
Brings (complete ticket) = Unit {0}
Brings (withdraw ticket) = Unit {0}
Brings (drop_rule number) = Unit {0}
Brings (change_action number action) = Unit {0}
Brings (look_up subject) = Unit {0}

pub sized_from : (call : Call) → Brings call → Sized call
sized_from (add rule) words new same = let is : rule ≡ new = cc in rw (← is) words
sized_from (step ticket) words new same = cc
sized_from (complete ticket) words new same = cc
sized_from (withdraw ticket) words new same = cc
sized_from (drop_rule number) words new same = cc
sized_from (change_action number action) words new same = cc
sized_from (look_up subject) words new same = cc

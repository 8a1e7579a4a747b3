-- The law of runs: what holds of every call in every list of calls from a cleared board. Assumes nothing.
use Rattle.std.specs.Prelude.{◌≡◌, ℕ, ◌+◌, ◌≤◌, true, false, cond, ◌≢◌, ◌⊎◌, List, [], ◌∷◌, ◌++◌, length, take, Some, None, Option, nat_lt}
use Rattle.std.specs.List.{AllByRecursion}
use Rattle.rules.specs.declared.rule.Rule.{Rule}
use Rattle.rules.specs.declared.refusal.Refusal.{Refusal}
use Rattle.rules.specs.Kinds.{KindMeaning, KindLaws, Word}
use Rattle.shifting.specs.Slots.{Slot, taken, all_carried_out, matches, meets, RightOrder, DownwardChain, jump_chain, first_match}
use Rattle.shifting.specs.Machine.{Ticket, Call, add, step, complete, withdraw, drop_rule, change_action, look_up}
use Rattle.shifting.specs.Machine.{opened, counted, refused, Job, State, Fixed, cleared, half_way, told, all_traced, turn, after}

-- one of a list of rules
abbrev pub In : Rule → List Rule → Type 0
In rule [] = ⊥
In rule (other ∷ others) = (rule ≡ other) ⊎ In rule others

-- a matching rule with this number and action, of which no other matching rule has a higher priority
pub record Best (kind : KindMeaning) (rules : List Rule) (subject number action : ℕ) : Type 0 where
  pub rule : Rule
  pub in_force : In rule rules
  pub matching : matches kind rule subject ≡ true
  pub number_is : rule.number ≡ number
  pub action_is : rule.action ≡ action
  pub highest : (other : Rule) → In other rules → matches kind other subject ≡ true → other.priority ≤ rule.priority

-- the answer of rules to a subject: number and action of the matching one with highest priority, or none
abbrev pub Answers : KindMeaning → List Rule → ℕ → Option (ℕ × ℕ) → Type 0
Answers kind rules subject None = (rule : Rule) → In rule rules → matches kind rule subject ≡ false
Answers kind rules subject (Some (number, action)) = Best kind rules subject number action

-- the words of a rule have 64 bits
abbrev pub Worded : Rule → Type 0
Worded rule = Word rule.word_a × Word rule.word_b

-- a rule that is added has words of 64 bits; nothing else that a call hands in is held to a size
abbrev pub Sized : Call → Type 0
Sized call = (new : Rule) → call ≡ add new → Worded new

-- 1 while an open add, with so many more writes made, has made some of its writes but not all
abbrev pub copies : Option Job → ℕ → ℕ
copies None more = 0
copies (Some job) more = cond (half_way (record { rule = job.rule; chain = job.chain; made = job.made + more })) 1 0

module _ (fixed : Fixed) where
  -- a complete or a withdraw that takes its ticket
  abbrev pub TakesTicket : State → Call → Type 0
  TakesTicket state call = (ticket : Ticket) × (n : ℕ) × ((call ≡ complete ticket) ⊎ (call ≡ withdraw ticket)) × ((turn fixed state call).answer ≡ counted n)

  -- the open add stays open, whatever calls these are
  abbrev pub StaysOpen : State → List Call → Type 0
  StaysOpen state [] = Unit {0}
  StaysOpen state (call ∷ calls) = (TakesTicket state call → ⊥) × StaysOpen (turn fixed state call).next calls

  -- an add is carried through by a step that answers 0, or by a complete that takes its ticket
  abbrev pub CarriesThrough : State → Call → Type 0
  CarriesThrough state call =
      ((ticket : Ticket) × (call ≡ step ticket) × ((turn fixed state call).answer ≡ counted 0))
      ⊎ ((ticket : Ticket) × (n : ℕ) × (call ≡ complete ticket) × ((turn fixed state call).answer ≡ counted n))

  -- the writes of a step or a complete
  abbrev pub writes_of : State → Call → ℕ
  writes_of state (add new) = 0
  writes_of state (step ticket) = length (turn fixed state (step ticket)).events
  writes_of state (complete ticket) = length (turn fixed state (complete ticket)).events
  writes_of state (withdraw ticket) = 0
  writes_of state (drop_rule number) = 0
  writes_of state (change_action number action) = 0
  writes_of state (look_up subject) = 0

  abbrev pub writes_made : State → List Call → ℕ
  writes_made state [] = 0
  writes_made state (call ∷ calls) = writes_of state call + writes_made (turn fixed state call).next calls

  -- a rule that is well formed, not number 0, and to which no rule in force has the same number, or meets it with equal priority
  pub record NewUntied (state : State) (new : Rule) : Type 0 where
    pub words : Worded new
    pub well_formed : fixed.kind.well_formed new.word_a new.word_b ≡ true
    pub numbered : new.number ≢ 0
    pub unused : (rule : Rule) → In rule state.rules → rule.number ≢ new.number
    pub untied : (rule : Rule) → In rule state.rules → meets fixed.kind new rule ≡ true → rule.priority ≢ new.priority

  abbrev pub Refuses : State → Rule → Type 0
  Refuses state new = (refusal : Refusal) × ((turn fixed state (add new)).answer ≡ refused refusal)

  abbrev pub NoChain : State → Rule → Type 0
  NoChain state new = (chain : List ℕ) → DownwardChain fixed.kind state.slots new chain → ⊥

  module _ (state : State) (call : Call) where
    -- Inside a call, after some of its writes and erases. The last of them is the effective one, if one is:
    -- an add's last write, a drop's erase, a change's write.

    abbrev pub slots_at : ℕ → List Slot
    slots_at some = all_carried_out state.slots (take some (turn fixed state call).events)

    abbrev pub rules_at : ℕ → List Rule
    rules_at some = cond (nat_lt some (length (turn fixed state call).events)) state.rules (turn fixed state call).next.rules

    abbrev pub copies_at : ℕ → ℕ
    copies_at some = cond (nat_lt some (length (turn fixed state call).events)) (copies state.job some) (copies (turn fixed state call).next.job 0)

    -- what an add announces
    pub record Announced (new : Rule) (ticket : Ticket) : Type 0 where
      pub chain : List ℕ
      pub downward : DownwardChain fixed.kind state.slots new chain
      pub announced : ticket.length ≡ length chain
      pub shortest : (other : List ℕ) → DownwardChain fixed.kind state.slots new other → ticket.length ≤ length other
      pub carried_through : (between : List Call) (last : Call) → StaysOpen (turn fixed state call).next between
          → CarriesThrough (after fixed (turn fixed state call).next between) last
          → writes_made (turn fixed state call).next (between ++ last ∷ []) ≡ ticket.length

    -- the first match after some events is the answer of the rules that are then in force, and they have no other
    pub record Answered (some subject : ℕ) : Type 0 where
      pub answers : Answers fixed.kind (rules_at some) subject (told (first_match fixed.kind (slots_at some) subject))
      pub only : (other : Option (ℕ × ℕ)) → Answers fixed.kind (rules_at some) subject other → other ≡ told (first_match fixed.kind (slots_at some) subject)

    -- what a call's events make, and how many it has
    pub record ByEvents : Type 0 where
      pub slots : (turn fixed state call).next.slots ≡ all_carried_out state.slots (turn fixed state call).events
      pub trace : (turn fixed state call).next.trace ≡ all_traced fixed.traced state.trace (turn fixed state call).events
      pub refusal_none : (refusal : Refusal) → (turn fixed state call).answer ≡ refused refusal → (turn fixed state call).events ≡ []
      pub add_none : (new : Rule) → call ≡ add new → (turn fixed state call).events ≡ []
      pub look_up_none : (subject : ℕ) → call ≡ look_up subject → (turn fixed state call).events ≡ []
      pub step_one : (ticket : Ticket) (n : ℕ) → call ≡ step ticket → (turn fixed state call).answer ≡ counted n → length (turn fixed state call).events ≡ 1

    -- The six parts of the law, of one call in a run.
    pub record Lawful : Type 0 where
      -- the order in the slots is right before and after every single write and erase
      pub right_order : (some : ℕ) → RightOrder fixed.kind (slots_at some)
      -- each subject's first match is the answer of the rules before the call until the effective write, and from it on of the rules after it
      pub answered : (some subject : ℕ) → Word subject → Answered some subject
      -- an add's ticket announces the length of a shortest downward chain, and as many writes are made when it is carried through
      pub announces : (new : Rule) (ticket : Ticket) → call ≡ add new → (turn fixed state call).answer ≡ opened ticket → Announced new ticket
      -- an idle board refuses a new, untied rule exactly when it has no downward chain
      pub refuses_exactly : (new : Rule) → state.job ≡ None → NewUntied state new → (Refuses state new → NoChain state new) × (NoChain state new → Refuses state new)
      -- the taken slots are as many as the rules in force, and one more while an open add is half way
      pub counts : (some : ℕ) → taken (slots_at some) ≡ length (rules_at some) + copies_at some
      -- slots and trace are what the events make of those before, by the device's rule and in order
      pub by_events : ByEvents

-- The law of a run from a cleared board: of every call in the list, after the calls before it.
abbrev pub LawOfRun : Fixed → List Slot → ℕ → List Call → Type 0
LawOfRun fixed slots trace calls =
    (before : List Call) (call : Call) (rest : List Call) → calls ≡ before ++ call ∷ rest → Lawful fixed (after fixed (cleared fixed slots trace) before) call

-- For every kind that keeps its law, every trace rule and board number, every device and every list of calls, refused or not.
abbrev pub LawOfRuns : Type 0
LawOfRuns =
    (fixed : Fixed) → KindLaws fixed.kind → (slots : List Slot) (trace : ℕ) (calls : List Call) → AllByRecursion Sized calls → LawOfRun fixed slots trace calls

-- If a rule has a downward chain at all, the jump rule gives one, and none is shorter: in every table, also one out of order.
abbrev pub JumpRule : Type 0
JumpRule =
    (kind : KindMeaning) (slots : List Slot) (new : Rule) (other : List ℕ) → DownwardChain kind slots new other
    → DownwardChain kind slots new (jump_chain kind slots new) × (length (jump_chain kind slots new) ≤ length other)

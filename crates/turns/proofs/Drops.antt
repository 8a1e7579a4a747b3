-- A drop, a change and a look-up on a board are those of the machine. Assumes nothing.
use Rattle.std.proofs.Common.{◌≡◌, ℕ, zero, suc, ◌-◌, ◌<◌, Bool, true, false, cond, not, ◌||◌, eqb, ltb, List, [], ◌∷◌, length, set, Some, None, Ok, Err, Option, Result, MatchOption, sym, refl, ap, ◌∙◌, subst, arith}
use Rattle.std.proofs.lemmas.List.{get_or_past}
use Rattle.std.proofs.lemmas.Bool.{cond-true, cond-false}
use Rattle.rules.specs.declared.rule.Rule.{Rule}
use Rattle.rules.specs.declared.event.Event.{Event}
use Rattle.rules.specs.declared.event.Event.TheVariants.{Write, Erase}
use Rattle.rules.specs.declared.refusal.Refusal.{Refusal}
use Rattle.rules.specs.declared.refusal.Refusal.TheVariants.{Unknown}
use Rattle.rules.specs.Kinds.{KindMeaning}
use Rattle.rules.specs.Slots.{writing, erasing, answer, carried_out, first_place, place_within}
use Rattle.rules.specs.Slots.{after as left_after, first_match as device-match}
use Rattle.shifting.specs.Chains.{scan}
use Rattle.shifting.specs.Slots.{Slot, at, first_match, slot_matches}
use Rattle.shifting.specs.Machine.{Call, drop_rule, change_action, look_up, done, found, told, State, Fixed, Turn, turn, held, has_number, with_action, refuse, place, when_idle, when_standing, erase_rule, rewrite_rule}
use Rattle.shifting.proofs.Scans.{scan_hit}
use Rattle.job.specs.declared.job.Job.{Job}
use Rattle.job.specs.declared.job.Request.TheVariants.{Alter}
use Rattle.job.specs.Jobs.{phase_of, allowed}
use Rattle.turns.specs.Shown.{seen, Shows, ShowsJob, Takes, doing, finding, numbered, standing}
use Rattle.turns.proofs.Turned.{by, shown_by, refused_by, alter_by, alter_idle}

abbrev stands_at : List Slot → ℕ → ℕ
stands_at slots number = scan (λ i. has_number number (at slots i)) 0 (length slots)

abbrev absent : List Slot → ℕ → Bool
absent slots number = eqb number 0 || not (ltb (stands_at slots number) (length slots))

-- the slot of a number, found by looking at so many slots
pub numbered_is : (slots : List Slot) (number count : ℕ) (slot : Option ℕ) → count ≡ length slots → slot ≡ place_within count (scan (λ i. has_number number (at slots i)) 0 (count - 0)) → slot ≡ numbered slots number
numbered_is slots number count slot count-is is = grind arith

-- where a number stands
pub record Stands (slots : List Slot) (number slot : ℕ) : Type 0 where
  pub here : absent slots number ≡ false
  pub slot_is : slot ≡ stands_at slots number
  pub within : slot < length slots
  pub some_number : number ≡ 0 → ⊥

found_standing : (slots : List Slot) (number slot : ℕ) → Ok slot ≡ standing slots number → Stands slots number slot
found_standing slots number slot is = grind arith

unknown_absent : (slots : List Slot) (number : ℕ) (refusal : Refusal) → Err refusal ≡ standing slots number → (absent slots number ≡ true) × (refusal ≡ Unknown)
unknown_absent slots number refusal is = grind arith

pub erasing_ok : (count slot : ℕ) → slot < count → erasing count slot ≡ Ok (Erase slot)
erasing_ok count slot within = grind arith

pub writing_ok : (count slot : ℕ) (rule : Rule) → slot < count → (rule.number ≡ 0 → ⊥) → writing count slot rule ≡ Ok (Write slot rule)
writing_ok count slot rule within some_number = grind arith

held_number : (slot : Slot) (number : ℕ) → has_number number slot ≡ true → (held slot).number ≡ number
held_number None number is = grind arith
held_number (Some rule) number is = grind arith

module _ {Memory : Type 0} (fixed : Fixed) (stored : Memory → Event → Memory) (slots : List Slot) (trace : ℕ) (memory : Memory) (job : Job) (idle : Ok tt ≡ allowed fixed.board (phase_of job) Alter job) where
  altered : (state : State) (made : Turn) (number : ℕ) → Shows (seen slots trace memory job) state
      → when_idle fixed state state.job (when_standing fixed state number made) ≡ cond (absent slots number) (refuse fixed state Unknown) made
  altered state made number shows =
      alter_by fixed state job state.job (when_standing fixed state number made) shows.job
      ∙ ap (λ (r : Result (Unit {0}) Refusal). by fixed state r (when_standing fixed state number made)) (sym idle)
      ∙ ap (λ (s : List Slot). cond (absent s number) (refuse fixed state Unknown) made) (sym shows.slots)

  none_open : (state : State) → Shows (seen slots trace memory job) state → ShowsJob job None
  none_open state shows = subst (ShowsJob job) (alter_idle fixed state job state.job shows.job idle) shows.job

  -- a drop or a change of a number that stands nowhere
  pub unknown_refused : (call : Call) (made : Fixed → State → Turn) (number : ℕ) (refusal : Refusal) → ((state : State) → turn fixed state call ≡ when_idle fixed state state.job (when_standing fixed state number (made fixed state)))
      → Err refusal ≡ standing slots number → Takes fixed stored call (doing (Err refusal)) (seen slots trace memory job) (seen slots trace memory job)
  unknown_refused call made number refusal turned gone state reached shows =
      let unknown = unknown_absent slots number refusal gone in
      refused_by fixed stored state call (seen slots trace memory job) (seen slots trace memory job) refusal shows
      (turned state ∙ altered state (made fixed state) number shows ∙ cond-true (absent slots number) (refuse fixed state Unknown) (made fixed state) unknown.0 ∙ ap (refuse fixed state) (sym unknown.1))
      refl refl refl shows.job

  module _ (number slot : ℕ) (r : Result (Unit {0}) Refusal) (slots' : List Slot) (trace' : ℕ) (memory' : Memory) (standing-is : Ok slot ≡ standing slots number) where
    pub drop_done : r ≡ answer (erasing (length slots) slot) → slots' ≡ left_after carried_out slots (erasing (length slots) slot) → trace' ≡ left_after fixed.traced trace (erasing (length slots) slot)
        → memory' ≡ left_after stored memory (erasing (length slots) slot)
        → Takes fixed stored (drop_rule number) (doing r) (seen slots trace memory job) (seen slots' trace' memory' job)
    drop_done r-is slots_are trace_is memory_is state reached shows =
        let stands = found_standing slots number slot standing-is in
        let ok = erasing_ok (length slots) slot stands.within in
        let same : slot ≡ place fixed state number = stands.slot_is ∙ ap (λ (s : List Slot). stands_at s number) shows.slots in
        shown_by fixed stored state (drop_rule number) (seen slots trace memory job) (seen slots' trace' memory' job) (doing r) done (Erase (place fixed state number) ∷ []) _ None shows
        (altered state (erase_rule fixed state number) number shows
        ∙ cond-false (absent slots number) (refuse fixed state Unknown) (erase_rule fixed state number) stands.here)
        (ap doing (r-is ∙ ap answer ok))
        (slots_are ∙ ap (left_after carried_out slots) ok ∙ ap (λ (n : ℕ). set slots n None) same)
        (trace_is ∙ ap (left_after fixed.traced trace) ok ∙ ap (λ (n : ℕ). fixed.traced trace (Erase n)) same)
        (memory_is ∙ ap (left_after stored memory) ok ∙ ap (λ (n : ℕ). stored memory (Erase n)) same)
        (none_open state shows)

    pub change_done : (action : ℕ) → r ≡ answer (writing (length slots) slot (with_action action (held (at slots slot))))
        → slots' ≡ left_after carried_out slots (writing (length slots) slot (with_action action (held (at slots slot)))) → trace' ≡ left_after fixed.traced trace (writing (length slots) slot (with_action action (held (at slots slot))))
        → memory' ≡ left_after stored memory (writing (length slots) slot (with_action action (held (at slots slot))))
        → Takes fixed stored (change_action number action) (doing r) (seen slots trace memory job) (seen slots' trace' memory' job)
    change_done action r-is slots_are trace_is memory_is state reached shows =
        let stands = found_standing slots number slot standing-is in
        let place_is = stands.slot_is in
        let inside = stands.within in
        let holds = λ (i : ℕ). has_number number (at slots i) in
        let number_is : (held (at slots slot)).number ≡ number = held_number (at slots slot) number (ap holds place_is ∙ scan_hit holds 0 (length slots) (omega arith)) in
        let ok = writing_ok (length slots) slot (with_action action (held (at slots slot))) stands.within (λ zero_is. stands.some_number (sym number_is ∙ zero_is)) in
        let same : slot ≡ place fixed state number = stands.slot_is ∙ ap (λ (s : List Slot). stands_at s number) shows.slots in
        let event = λ (s : List Slot) (n : ℕ). Write n (with_action action (held (at s n))) in
        let event-is : event slots slot ≡ event state.slots (place fixed state number) = ap (event slots) same ∙ ap (λ (s : List Slot). event s (place fixed state number)) shows.slots in
        shown_by fixed stored state (change_action number action) (seen slots trace memory job) (seen slots' trace' memory' job) (doing r) done (event state.slots (place fixed state number) ∷ []) _ None shows
        (altered state (rewrite_rule fixed state number action) number shows
        ∙ cond-false (absent slots number) (refuse fixed state Unknown) (rewrite_rule fixed state number action) stands.here)
        (ap doing (r-is ∙ ap answer ok))
        (slots_are ∙ ap (left_after carried_out slots) ok ∙ ap (carried_out slots) event-is)
        (trace_is ∙ ap (left_after fixed.traced trace) ok ∙ ap (fixed.traced trace) event-is)
        (memory_is ∙ ap (left_after stored memory) ok ∙ ap (stored memory) event-is)
        (none_open state shows)

-- The first match, by the device's word.

scan_later : (passes : ℕ → Bool) (i n : ℕ) → suc (scan (λ k. passes (suc k)) i n) ≡ scan passes (suc i) n
scan_later passes i zero = refl
scan_later passes i (suc n) = grind (arith, scan_later passes (suc i) n)

module _ (kind : KindMeaning) (subject : ℕ) where
  abbrev matching : List Slot → ℕ → Bool
  matching slots i = slot_matches kind subject (at slots i)

  places_same : (slots : List Slot) → first_place (slot_matches kind subject) slots ≡ scan (matching slots) 0 (length slots)
  places_same [] = refl
  places_same (None ∷ slots) = ap suc (places_same slots) ∙ scan_later (matching (None ∷ slots)) 0 (length slots)
  places_same (Some rule ∷ slots) =
      ap (cond (kind.matches rule.word_a rule.word_b subject) 0) (ap suc (places_same slots) ∙ scan_later (matching (Some rule ∷ slots)) 0 (length slots))

  match_some : (slots : List Slot) (slot : ℕ) → Some slot ≡ device-match kind slots subject → at slots slot ≡ first_match kind slots subject
  match_some slots slot is = grind (arith, places_same)

  match_none : (slots : List Slot) → None ≡ device-match kind slots subject → None ≡ first_match kind slots subject
  match_none slots is = grind (arith, places_same, get_or_past)

  -- what stands in the slot that matches first, if one does
  pub matched : (slots : List Slot) (slot : Option ℕ) (held : Slot) → slot ≡ device-match kind slots subject → MatchOption slot (held ≡ None) (λ slot. held ≡ at slots slot) → held ≡ first_match kind slots subject
  matched slots None held is none = none ∙ match_none slots is
  matched slots (Some slot) held is some = some ∙ match_some slots slot is

module _ {Memory : Type 0} (fixed : Fixed) (stored : Memory → Event → Memory) (slots : List Slot) (trace : ℕ) (memory : Memory) (job : Job) (subject : ℕ) where
  pub look_up_found : (answer : Option (ℕ × ℕ)) → fixed.kind.well_formed_subject subject ≡ true → answer ≡ told (first_match fixed.kind slots subject)
      → Takes fixed stored (look_up subject) (finding (Ok answer)) (seen slots trace memory job) (seen slots trace memory job)
  look_up_found answer good is state reached shows =
      shown_by fixed stored state (look_up subject) (seen slots trace memory job) (seen slots trace memory job) (found answer) _ [] state.rules state.job shows (cond-true _ _ _ good)
      (ap found (is ∙ ap (λ (s : List Slot). told (first_match fixed.kind s subject)) shows.slots)) refl refl refl shows.job

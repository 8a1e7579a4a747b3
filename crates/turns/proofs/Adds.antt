-- An add on a board is an add of the machine. Assumes nothing.
use Rattle.std.proofs.Common.{◌≡◌, ℕ, Bool, true, false, cond, not, ◌||◌, eqb, List, [], length, take, None, Ok, Err, Option, Result, sym, refl, ap, ◌∙◌, subst, arith}
use Rattle.std.proofs.lemmas.Bool.{eq-eqb}
use Rattle.std.specs.Cmp.{both_ways}
use Rattle.rules.specs.declared.rule.Rule.{Rule}
use Rattle.rules.specs.declared.event.Event.{Event}
use Rattle.rules.specs.declared.refusal.Refusal.{Refusal}
use Rattle.rules.specs.declared.refusal.Refusal.TheVariants.{Mangled, Known, Tied, Crossed, NoSlot}
use Rattle.rules.specs.Kinds.{KindMeaning, KindLaws}
use Rattle.shifting.specs.Chains.{some_below}
use Rattle.shifting.specs.Slots.{Slot, at, tied, crossed, no_slot, jump_chain}
use Rattle.shifting.specs.Machine.{add, opened, State, Fixed, Turn, has_number, number_in, refuse, try_add, open_add, turn}
use Rattle.shifting.specs.Machine.{Job as OpenAdd}
use Rattle.shifting.proofs.Reading.{at_within}
use Rattle.shifting.proofs.Scans.{some_below_from, some_below_hit}
use Rattle.shifting.proofs.Settled.{Settled, in_number}
use Rattle.shifting.proofs.Serving.{number_rule}
use Rattle.shifting.proofs.Sound.{Phase as Holding, Sound, found_number}
use Rattle.placing.specs.Placing.{placing, Names}
use Rattle.job.specs.declared.job.Job.{Job}
use Rattle.job.specs.declared.job.JobEvent.TheVariants.{Opened}
use Rattle.job.specs.declared.job.Request.TheVariants.{Alter}
use Rattle.job.specs.Jobs.{phase_of, allowed, moved}
use Rattle.job.specs.Jobs.{opened as job-opened}
use Rattle.turns.specs.Shown.{seen, Shows, ShowsJob, Reached, Takes, opening, fitting}
use Rattle.turns.proofs.Turned.{by, reached_sound, shown_by, refused_by, alter_by, alter_idle}

-- while no add is open, the numbers in the slots are those of the rules in force

numbers_same : (kind : KindMeaning) (slots : List Slot) (rules : List Rule) (number : ℕ) → Settled kind slots rules
    → number_in number rules ≡ some_below (λ i. has_number number (at slots i)) (length slots)
numbers_same kind slots rules number settled =
    let holds = λ (i : ℕ). has_number number (at slots i) in
    both_ways (number_in number rules) (some_below holds (length slots))
    (λ is.
    let found = number_rule number rules is in
    let stand = settled.stocked.stands found.0 found.1 in
    some_below_from holds (length slots) stand.0 (at_within slots stand.0 found.0 stand.1) (ap (has_number number) stand.1 ∙ eq-eqb found.0.number number found.2))
    (λ is.
    let place = some_below_hit holds (length slots) is in
    let rule = found_number (at slots place.0) number place.2 in
    ap (λ (n : ℕ). number_in n rules) (sym rule.2) ∙ in_number rule.0 rules (settled.stocked.only place.0 rule.0 rule.1))

module _ (fixed : Fixed) (state : State) where
  in_order : (m k t c n : Bool) (made : Turn)
      → cond m (refuse fixed state Mangled) (cond k (refuse fixed state Known) (cond t (refuse fixed state Tied) (cond c (refuse fixed state Crossed) (cond n (refuse fixed state NoSlot) made))))
      ≡ by fixed state (cond m (Err Mangled) (cond k (Err Known) (Ok tt))) (by fixed state (cond t (Err Tied) (cond c (Err Crossed) (cond n (Err NoSlot) (Ok tt)))) made)
  in_order true k t c n made = refl
  in_order false true t c n made = refl
  in_order false false true c n made = refl
  in_order false false false true n made = refl
  in_order false false false false true made = refl
  in_order false false false false false made = refl

  tried : (new : Rule) → Settled fixed.kind state.slots state.rules
      → try_add fixed state new ≡ by fixed state (fitting fixed.kind state.slots new) (by fixed state (placing fixed.kind state.slots new) (open_add fixed state new))
  tried new settled =
      let mangled = eqb new.number 0 || not (fixed.kind.well_formed new.word_a new.word_b) in
      let slots = state.slots in
      let kind = fixed.kind in
      ap (λ (k : Bool). cond mangled (refuse fixed state Mangled) (cond k (refuse fixed state Known) (cond (tied kind slots new) (refuse fixed state Tied) (cond (crossed kind slots new) (refuse fixed state Crossed) (cond (no_slot kind slots new) (refuse fixed state NoSlot) (open_add fixed state new))))))
      (numbers_same kind slots state.rules new.number settled)
      ∙ in_order mangled (some_below (λ i. has_number new.number (at slots i)) (length slots)) (tied kind slots new) (crossed kind slots new) (no_slot kind slots new) (open_add fixed state new)

settled_when : (fixed : Fixed) (laws : KindLaws fixed.kind) (state : State) → Sound fixed laws state → state.job ≡ None → Settled fixed.kind state.slots state.rules
settled_when fixed laws state sound idle = subst (λ (o : Option OpenAdd). Holding fixed laws state.slots state.rules o) idle sound

module _ {Memory : Type 0} (fixed : Fixed) (stored : Memory → Event → Memory) (laws : KindLaws fixed.kind) (slots : List Slot) (trace : ℕ) (memory : Memory) (job : Job) (new : Rule) (idle : Ok tt ≡ allowed fixed.board (phase_of job) Alter job) where
  turned : (state : State) → Reached fixed state → Shows (seen slots trace memory job) state
      → turn fixed state (add new) ≡ by fixed state (fitting fixed.kind slots new) (by fixed state (placing fixed.kind slots new) (open_add fixed state new))
  turned state reached shows =
      let none = alter_idle fixed state job state.job shows.job idle in
      alter_by fixed state job state.job (try_add fixed state new) shows.job
      ∙ ap (λ (r : Result (Unit {0}) Refusal). by fixed state r (try_add fixed state new)) (sym idle)
      ∙ tried fixed state new (settled_when fixed laws state (reached_sound fixed laws state reached) none)
      ∙ ap (λ (s : List Slot). by fixed state (fitting fixed.kind s new) (by fixed state (placing fixed.kind s new) (open_add fixed state new))) (sym shows.slots)

  -- as long as no add is open, only that counts
  still_idle : (job' : Job) (state : State) → job'.busy ≡ job.busy → Shows (seen slots trace memory job) state → ShowsJob job' state.job
  still_idle job' state same shows =
      let none = alter_idle fixed state job state.job shows.job idle in
      let free : ShowsJob job None = subst (ShowsJob job) none shows.job in
      subst (ShowsJob job') (sym none) (same ∙ free)

  pub add_unfit : (refusal : Refusal) (job' : Job) → job'.busy ≡ job.busy → Err refusal ≡ fitting fixed.kind slots new → Takes fixed stored (add new) (opening (Err refusal)) (seen slots trace memory job) (seen slots trace memory job')
  add_unfit refusal job' same unfit state reached shows =
      refused_by fixed stored state (add new) (seen slots trace memory job) (seen slots trace memory job') refusal shows
      (turned state reached shows ∙ ap (λ (r : Result (Unit {0}) Refusal). by fixed state r (by fixed state (placing fixed.kind slots new) (open_add fixed state new))) (sym unfit))
      refl refl refl (still_idle job' state same shows)

  module _ (fit : Ok tt ≡ fitting fixed.kind slots new) where
    placed : (state : State) → Reached fixed state → Shows (seen slots trace memory job) state → turn fixed state (add new) ≡ by fixed state (placing fixed.kind slots new) (open_add fixed state new)
    placed state reached shows =
        turned state reached shows ∙ ap (λ (r : Result (Unit {0}) Refusal). by fixed state r (by fixed state (placing fixed.kind slots new) (open_add fixed state new))) (sym fit)

    pub add_unplaced : (refusal : Refusal) (job' : Job) → job'.busy ≡ job.busy → Err refusal ≡ placing fixed.kind slots new → Takes fixed stored (add new) (opening (Err refusal)) (seen slots trace memory job) (seen slots trace memory job')
    add_unplaced refusal job' same nowhere state reached shows =
        refused_by fixed stored state (add new) (seen slots trace memory job) (seen slots trace memory job') refusal shows
        (placed state reached shows ∙ ap (λ (r : Result (Unit {0}) Refusal). by fixed state r (open_add fixed state new)) (sym nowhere))
        refl refl refl (still_idle job' state same shows)

    pub add_opened : (job₁ job' : Job) (length-told : ℕ) → job₁.busy ≡ job.busy → job' ≡ moved (phase_of job₁) (Opened new) job₁ → Names job₁.chain (jump_chain fixed.kind slots new) → length-told ≡ job₁.chain.length
        → Ok tt ≡ placing fixed.kind slots new
        → Takes fixed stored (add new) (opening (Ok (record { board = fixed.board; rule = new.number; length = length-told }))) (seen slots trace memory job) (seen slots trace memory job')
    add_opened job₁ job' length-told same moved-is names-chain told well state reached shows =
        let none = alter_idle fixed state job state.job shows.job idle in
        let free : job.busy ≡ false = subst (ShowsJob job) none shows.job in
        let Chain-same = ap (λ (s : List Slot). jump_chain fixed.kind s new) shows.slots in
        let is-opened : job' ≡ job-opened new job₁ = grind arith in
        let as_many : length-told ≡ length (jump_chain fixed.kind state.slots new) = told ∙ names-chain.as_many ∙ ap length Chain-same in
        shown_by fixed stored state (add new) (seen slots trace memory job) (seen slots trace memory job') _ _ [] state.rules _ shows
        (placed state reached shows ∙ ap (λ (r : Result (Unit {0}) Refusal). by fixed state r (open_add fixed state new)) (sym well))
        (ap (λ (n : ℕ). opened (record { board = fixed.board; rule = new.number; length = n })) as_many)
        refl refl refl
        (record {
          busy = ap (λ (j : Job). j.busy) is-opened;
          rule = ap (λ (j : Job). j.rule) is-opened;
          chain = record { as_many = ap (λ (j : Job). j.chain.length) is-opened ∙ names-chain.as_many ∙ ap length Chain-same; are = ap (λ (j : Job). take j.chain.length j.chain.places) is-opened ∙ names-chain.are ∙ Chain-same };
          made = ap (λ (j : Job). j.made) is-opened;
        })

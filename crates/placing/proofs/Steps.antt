-- One step of each loop over slots. Assumes nothing.
use Rattle.std.proofs.Common.{◌≡◌, ℕ, suc, ◌+◌, ◌-◌, ◌<◌, ◌≤◌, Bool, true, false, ◌&&◌, ltb, List, [], ◌∷◌, sym, ◌∙◌, ⊎_elim, add-one, arith}
use Rattle.std.proofs.lemmas.Bool.{cases_lt, cases_Bool, lt-ltb, le-ltb, and_parts, and_from}
use Rattle.rules.specs.declared.rule.Rule.{Rule}
use Rattle.rules.specs.Kinds.{KindMeaning}
use Rattle.shifting.specs.Chains.{scan, past, some_below, farthest, jump}
use Rattle.shifting.specs.Slots.{Slot, at, usable, above, below, low, high, crossed, clashes, reach}
use Rattle.shifting.proofs.Scans.{scan_first, scan_hit, past_last, past_hit, past_high, some_below_from, some_below_hit}

module _ (passes : ℕ → Bool) where
  pub scan_here : (i end : ℕ) → i < end → passes i ≡ true → scan passes i (end - i) ≡ i
  scan_here i end before passed =
      let more : end - i ≡ suc (end - suc i) = omega arith in
      grind arith

  pub scan_on : (i end : ℕ) → i < end → passes i ≡ false → scan passes i (end - i) ≡ scan passes (i + 1) (end - (i + 1))
  scan_on i end before failed =
      let more : end - i ≡ suc (end - suc i) = omega arith in
      grind (arith, add-one)

  pub past_here : (n m : ℕ) → n ≡ suc m → passes m ≡ true → past passes n ≡ n
  past_here n m is passed = grind arith

  pub past_on : (n m : ℕ) → n ≡ suc m → passes m ≡ false → past passes n ≡ past passes m
  past_on n m is failed = grind arith

-- The reach of a slot, as far as it is known.

module _ (kind : KindMeaning) (slots : List Slot) (slot : ℕ) where
  abbrev clash : ℕ → Bool
  clash j = clashes kind (at slots slot) (at slots j)

  -- no slot up to this one clashes
  abbrev pub Clear : ℕ → Type 0
  Clear later = scan clash (later + 1) (usable slots - (later + 1)) ≡ scan clash (slot + 1) (usable slots - (slot + 1))

  pub clear_more : (later : ℕ) → later + 1 < usable slots → clash (later + 1) ≡ false → Clear later → Clear (later + 1)
  clear_more later before none clear = grind (arith, scan_on)

  pub reach_blocked : (later : ℕ) → slot < later → clash later ≡ true → reach kind slots slot ≤ later
  reach_blocked later after found =
      let first = scan_first clash (suc slot) (usable slots - suc slot) later (omega arith) found in
      grind arith

-- The span.

-- a span is crossed when it begins past the slot after its last
pub crossed_span : (kind : KindMeaning) (slots : List Slot) (new : Rule) → ltb (suc (high kind slots new)) (low kind slots new) ≡ crossed kind slots new
crossed_span kind slots new =
    ⊎_elim
    (λ gap.
    let first_below : ℕ = scan over 0 n in
    let bound = past_high under n in
    let some-low : low kind slots new ≡ suc (low kind slots new - 1) = omega arith in
    let last-above = past_hit under n (low kind slots new - 1) some-low in
    let is-high : high kind slots new ≡ first_below = omega arith in
    let found = scan_hit over 0 n (omega arith) in
    lt-ltb _ _ gap
    ∙ sym (some_below_from both n (low kind slots new - 1) (omega arith)
    (and_from _ _ last-above (some_below_from over (low kind slots new - 1) first_below (omega arith) found))))
    (λ close.
    le-ltb _ _ close
    ∙ sym (⊎_elim
    (λ is_crossed.
    let later = some_below_hit both n is_crossed in
    let parts = and_parts (under later.0) (some_below over later.0) later.2 in
    let earlier = some_below_hit over later.0 parts.1 in
    let from = scan_first over 0 n earlier.0 (omega arith) earlier.2 in
    let to = past_last under n later.0 later.1 parts.0 in
    let inside = earlier.1 in
    let within = later.1 in
    absurd (omega arith))
    (λ straight. straight)
    (cases_Bool (crossed kind slots new))))
    (cases_lt (suc (high kind slots new)) (low kind slots new))
  where
    n : ℕ
    n = usable slots

    over : ℕ → Bool
    over i = below kind new (at slots i)

    under : ℕ → Bool
    under i = above kind new (at slots i)

    both : ℕ → Bool
    both j = under j && some_below over j

-- The jump rule, one turn.

module _ (empty : ℕ → Bool) (reach : ℕ → ℕ) (turns left low high first : ℕ) (turn : turns ≡ suc left) (first-is : first ≡ scan empty low (high + 1 - low)) where
  pub jump_ends : first ≤ high → jump empty reach turns low high ≡ first ∷ []
  jump_ends found = grind (arith, add-one)

  pub jump_goes : (taken : ℕ) → high < first → taken ≡ farthest reach low (high - low) → jump empty reach turns low high ≡ taken ∷ jump empty reach left (taken + 1) (reach taken)
  jump_goes taken none is = grind (arith, add-one)

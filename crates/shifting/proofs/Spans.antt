-- Span, reach and chain of the rules in slots: the order of the slots gives the links of a chain, and the jump rule a shortest one. Assumes nothing.
use Rattle.std.proofs.Common.{◌≡◌, ℕ, suc, ◌-◌, ◌<◌, ◌≤◌, Bool, true, false, not, ◌&&◌, List, [], ◌∷◌, reverse, length, Some, None, sym, refl, ap, ◌∙◌, ⊎_elim, arith}
use mathlib.Core.List.{reverse_aux}
use Rattle.std.proofs.lemmas.Bool.{cases_lt, cases_Bool, both_ways, and_from, and_parts, lt-ltb, ltb-true, ltb-false, ne_eqb, not_from_false, not-true, not-false}
use Rattle.rules.specs.declared.rule.Rule.{Rule}
use Rattle.rules.specs.Kinds.{KindMeaning, KindLaws}
use Rattle.rules.proofs.Meeting.{meets_symmetric}
use Rattle.shifting.specs.Chains.{scan, some_below, Chain}
use Rattle.shifting.specs.Slots.{Slot, at, holds, usable, meets, above, below, clashes, is_empty, low, high, InSpan, crossed, no_slot, reach, DownwardChain, jump_chain}
use Rattle.shifting.specs.Law.{Worded, JumpRule}
use Rattle.shifting.proofs.Scans.{scan_low, scan_before, scan_hit, scan_first, past_high, past_last, past_hit, some_below_from, some_below_hit}
use Rattle.shifting.proofs.Jumps.{Shortest, jump_shortest}
use Rattle.shifting.proofs.Settled.{FitsIn}
use Rattle.shifting.proofs.Directions.{LinkDown, BackChain}

pub filled_rule : (slot : Slot) → not (holds (λ rule. true) slot) ≡ false → (rule : Rule) × (slot ≡ Some rule)
filled_rule None filled = absurd (both_ways true filled refl)
filled_rule (Some rule) filled = (rule, refl)

pub empty_none : (slot : Slot) → not (holds (λ rule. true) slot) ≡ true → slot ≡ None
empty_none None free = refl
empty_none (Some rule) free = absurd (both_ways false refl free)

-- a test that is not true is false
pub false_from : (test : Bool) → (test ≡ true → ⊥) → test ≡ false
false_from test never = ⊎_elim (λ is. absurd (never is)) (λ is. is) (cases_Bool test)

module _ (kind : KindMeaning) (slots : List Slot) where
  -- the rule in a taken slot may go down as far as its reach
  pub reach_link : (c d : ℕ) → is_empty slots c ≡ false → c < d → d ≤ reach kind slots c → LinkDown kind slots c d
  reach_link c d filled less reached =
      let held = filled_rule (at slots c) filled in
      let test = λ (j : ℕ). clashes kind (at slots c) (at slots j) in
      record {
        rule = held.0;
        stands = held.1;
        before = less;
        free = λ j other at_j over from to.
            let clash : clashes kind (Some held.0) (Some other) ≡ true =
            and_from _ _ over.meet (not_from_false _ (ne_eqb held.0.number other.number over.apart)) in
            let tested : test j ≡ true = ap (λ s. clashes kind s (at slots j)) held.1 ∙ (ap (clashes kind (Some held.0)) at_j ∙ clash) in
            both_ways (test j) (scan_before test (suc c) (usable slots - suc c) j from (omega arith)) tested;
      }

  -- a chain, named from its end: its last slot is empty
  pub record Reversed (new : Rule) (named : List ℕ) : Type 0 where
    pub gap : ℕ
    pub earlier : List ℕ
    pub are : named ≡ gap ∷ earlier
    pub free : at slots gap ≡ None
    pub within : gap < usable slots
    pub back : BackChain kind slots new gap earlier

  reversed : (new : Rule) (c : ℕ) (later earlier : List ℕ) → c < usable slots → BackChain kind slots new c earlier → Chain (is_empty slots) (reach kind slots) c later
      → Reversed new (reverse_aux later (c ∷ earlier))
  reversed new c [] earlier within back chain =
      record { gap = c; earlier = earlier; are = refl; free = empty_none (at slots c) chain; within = within; back = back }
  reversed new c (d ∷ later) earlier within back chain =
      reversed new d later (c ∷ earlier) (omega arith) (reach_link c d chain.0 chain.1 chain.2, back) chain.3

  -- The jump rule.

  above_not_below : (new : Rule) (slot : Slot) → above kind new slot ≡ true → below kind new slot ≡ true → ⊥
  above_not_below new None up down = both_ways false refl up
  above_not_below new (Some rule) up down =
      omega (arith, ltb-true new.priority rule.priority (and_parts _ _ up).1, ltb-true rule.priority new.priority (and_parts _ _ down).1)

  -- a span that is not crossed is not turned round, if a slot is left from low on
  low_high : (new : Rule) → crossed kind slots new ≡ false → low kind slots new < usable slots → low kind slots new ≤ high kind slots new
  low_high new straight room =
      let count = usable slots in
      let is-above = λ (i : ℕ). above kind new (at slots i) in
      let is_below = λ (i : ℕ). below kind new (at slots i) in
      let first = scan is_below 0 count in
      ⊎_elim
      (λ turned.
      let k = low kind slots new - 1 in
      let lower : is_below first ≡ true = scan_hit is_below 0 count (omega arith) in
      let upper : is-above k ≡ true = past_hit is-above count k (omega arith) in
      let earlier : first < k =
      ⊎_elim (λ less. less)
      (λ more.
      let same : first ≡ k = omega arith in
      absurd (above_not_below new (at slots k) upper (ap is_below (sym same) ∙ lower)))
      (cases_lt first k) in
      let test = λ (j : ℕ). is-above j && some_below is_below j in
      absurd
      (both_ways (some_below test count) straight
      (some_below_from test count k (omega arith) (and_from _ _ upper (some_below_from is_below k first earlier lower)))))
      (λ fine. omega arith)
      (cases_lt first (low kind slots new))

  -- a new rule whose span is not crossed and that has an empty slot from low on has a shortest chain
  pub jump_shortest_chain : (new : Rule) → crossed kind slots new ≡ false → no_slot kind slots new ≡ false
      → DownwardChain kind slots new (jump_chain kind slots new)
      × ((other : List ℕ) → DownwardChain kind slots new other → length (jump_chain kind slots new) ≤ length other)
  jump_shortest_chain new straight has_slot =
      let count = usable slots in
      let start = low kind slots new in
      let free = scan (is_empty slots) start (count - start) in
      let up_to_lem = past_high (λ i. above kind new (at slots i)) count in
      let found : free < count = ltb-true free count (not-false _ has_slot) in
      let from = scan_low (is_empty slots) start (count - start) in
      let is_free : is_empty slots free ≡ true = scan_hit (is_empty slots) start (count - start) (omega arith) in
      let span = low_high new straight (omega arith) in
      let reached : (i : ℕ) → suc i ≤ scan (λ j. clashes kind (at slots i) (at slots j)) (suc i) (count - suc i) =
      λ i. scan_low (λ j. clashes kind (at slots i) (at slots j)) (suc i) (count - suc i) in
      let shortest : Shortest (is_empty slots) (reach kind slots) start start (high kind slots new) (jump_chain kind slots new) =
      jump_shortest (is_empty slots) (reach kind slots) (count - 1) (λ i. omega arith) (λ i in-range. omega (arith, reached i)) (λ i in-range. omega (arith, reached i))
      count start start (high kind slots new) free (omega arith) span (omega arith) from (omega arith) is_free (omega arith) (λ i one two. absurd (omega arith)) in
      (rw shortest.are (record { from_low = shortest.from_low; to_high = shortest.to_high; within = omega (arith, shortest.to_high) }, shortest.chain), least shortest)
    where
      least : {start : ℕ} → Shortest (is_empty slots) (reach kind slots) (low kind slots new) start (high kind slots new) (jump_chain kind slots new)
          → (other : List ℕ) → DownwardChain kind slots new other → length (jump_chain kind slots new) ≤ length other
      least shortest [] chain = absurd chain
      least shortest (c ∷ later) chain = shortest.least c later chain.0.from_low chain.0.to_high chain.1

  pub crossed_none : (new : Rule) → crossed kind slots new ≡ true → (chain : List ℕ) → DownwardChain kind slots new chain → ⊥
  crossed_none new cross [] chain = chain
  crossed_none new cross (c ∷ later) chain =
      let is-above = λ (i : ℕ). above kind new (at slots i) in
      let is_below = λ (i : ℕ). below kind new (at slots i) in
      let upper = some_below_hit (λ j. is-above j && some_below is_below j) (usable slots) cross in
      let parts = and_parts (is-above upper.0) (some_below is_below upper.0) upper.2 in
      let lower = some_below_hit is_below upper.0 parts.1 in
      omega (arith, past_last is-above (usable slots) upper.0 upper.1 parts.0, scan_first is_below 0 (usable slots) lower.0 (omega arith) lower.2, chain.0.from_low, chain.0.to_high)

  chain_end : (c : ℕ) (later : List ℕ) → c < usable slots → Chain (is_empty slots) (reach kind slots) c later
      → (x : ℕ) × (c ≤ x) × (x < usable slots) × (is_empty slots x ≡ true)
  chain_end c [] within chain = (c, omega arith, within, chain)
  chain_end c (d ∷ later) within chain =
      let end = chain_end d later (omega arith) chain.3 in
      (end.0, omega arith, end.2, end.3)

  pub no_slot_none : (new : Rule) → no_slot kind slots new ≡ true → (chain : List ℕ) → DownwardChain kind slots new chain → ⊥
  no_slot_none new none [] chain = chain
  no_slot_none new none (c ∷ later) chain =
      let end = chain_end c later chain.0.within chain.1 in
      let start = low kind slots new in
      let first = scan_first (is_empty slots) start (usable slots - start) end.0 (omega (arith, chain.0.from_low)) end.3 in
      omega (arith, ltb-false (scan (is_empty slots) start (usable slots - start)) (usable slots) (not-true _ none))

-- A kind that keeps its law.
module _ (kind : KindMeaning) (laws : KindLaws kind) (slots : List Slot) where
  -- the first slot of the span, and every other, fits the new rule
  pub span_fits : (new : Rule) → Worded new → ((i : ℕ) (rule : Rule) → at slots i ≡ Some rule → (i < usable slots) × Worded rule)
      → (c : ℕ) → InSpan kind slots new c → FitsIn kind slots new c
  span_fits new words inside c span j other at_j =
      let others = inside j other at_j in
      let is-above = λ (i : ℕ). above kind new (at slots i) in
      let is_below = λ (i : ℕ). below kind new (at slots i) in (
        λ over.
            let meet : meets kind new other ≡ true =
            meets_symmetric kind laws new.word_a new.word_b other.word_a other.word_b words.0 words.1 others.1.0 others.1.1 ∙ over.meet in
            let test : is-above j ≡ true = ap (above kind new) at_j ∙ and_from _ _ meet (lt-ltb new.priority other.priority over.higher) in
            omega (arith, past_last is-above (usable slots) j others.0 test, span.from_low),
        λ over early.
            let test : is_below j ≡ true = ap (below kind new) at_j ∙ and_from _ _ over.meet (lt-ltb other.priority new.priority over.higher) in
            both_ways (is_below j) (scan_before is_below 0 (usable slots) j (omega arith) (omega (arith, span.to_high))) test,
      )

  pub chain_reversed : (new : Rule) (chain : List ℕ) → Worded new → ((i : ℕ) (rule : Rule) → at slots i ≡ Some rule → (i < usable slots) × Worded rule)
      → DownwardChain kind slots new chain → Reversed kind slots new (reverse chain)
  chain_reversed new [] words inside chain = absurd chain
  chain_reversed new (c ∷ later) words inside chain =
      reversed kind slots new c later [] chain.0.within (span_fits new words inside c chain.0) chain.1

-- if a rule has a downward chain at all, the jump rule gives one, and no longer
pub jump_rule : JumpRule
jump_rule kind slots new other downward =
    let straight = false_from (crossed kind slots new) (λ cross. crossed_none kind slots new cross other downward) in
    let has_slot = false_from (no_slot kind slots new) (λ none. no_slot_none kind slots new none other downward) in
    let shortest = jump_shortest_chain kind slots new straight has_slot in
    (shortest.0, shortest.1 other downward)

-- The jump rule gives a chain when there is one, and no chain is shorter. It sees which slots are empty, and a reach, with
-- three laws: a reach is no later than the last slot, no earlier than its own, and later than that before the last slot.
-- Assumes nothing.
use Rattle.std.proofs.Common.{◌≡◌, ℕ, zero, suc, ◌+◌, ◌-◌, ◌<◌, ◌≤◌, Bool, true, false, leb, List, [], ◌∷◌, length, refl, ⊎_elim, arith}
use Rattle.std.proofs.lemmas.Bool.{cond_both, cases_lt, both_ways, leb-true, leb-false}
use Rattle.shifting.specs.Chains.{scan, farthest, Chain, jump}
use Rattle.shifting.proofs.Scans.{scan_low, scan_before, scan_hit, farthest_low, farthest_high, farthest_reach}

module _ (empty : ℕ → Bool) (reach : ℕ → ℕ) where
  -- a chain that starts between low and high, and no longer than any chain that starts between base and high
  pub record Shortest (base low high : ℕ) (slots : List ℕ) : Type 0 where
    pub first : ℕ
    pub others : List ℕ
    pub are : slots ≡ first ∷ others
    pub from_low : low ≤ first
    pub to_high : first ≤ high
    pub chain : Chain empty reach first others
    pub least : (slot : ℕ) (later : List ℕ) → base ≤ slot → slot ≤ high → Chain empty reach slot later → length slots ≤ suc (length later)

  -- a chain that starts at a taken slot goes on, no further than the farthest reach
  longer : (slot bound count : ℕ) (later : List ℕ) → empty slot ≡ false → reach slot ≤ bound → Chain empty reach slot later
      → ((next : ℕ) (others : List ℕ) → slot ≤ next → next ≤ bound → Chain empty reach next others → count ≤ suc (length others))
      → suc count ≤ suc (length later)
  longer slot bound count [] filled within chain least = absurd (both_ways (empty slot) filled chain)
  longer slot bound count (next ∷ others) filled within chain least =
      let fewer = least next others (omega arith) (omega arith) chain.3 in
      omega arith

  joined : {slot base : ℕ} {slots : List ℕ} → empty slot ≡ false → Shortest base (suc slot) (reach slot) slots → Chain empty reach slot slots
  joined filled rest = rw rest.are (filled, rest.from_low, rest.to_high, rest.chain)

  module _ (last : ℕ) (inside : (i : ℕ) → reach i ≤ last) (self : (i : ℕ) → i ≤ last → i ≤ reach i) (later : (i : ℕ) → i < last → i < reach i) where
    -- slots from base to low were looked at before: they are taken, and reach no further than high
    pub jump_shortest : (turns base low high free : ℕ) → base ≤ low → low ≤ high → high ≤ last → low ≤ free → free ≤ last → empty free ≡ true → suc last ≤ turns + low
        → ((i : ℕ) → base ≤ i → i < low → (empty i ≡ false) × (reach i ≤ high))
        → Shortest base low high (jump empty reach turns low high)
    jump_shortest zero base low high free under span ends after reached is_free enough looked = absurd (omega arith)
    jump_shortest (suc turns) base low high free under span ends after reached is_free enough looked =
        let count = suc high - low in
        let first_empty = scan empty low count in
        let best = farthest reach low (high - low) in
        let best-from = farthest_low reach low (high - low) in
        let best-to : best ≤ high = omega (arith, farthest_high reach low (high - low)) in
        cond_both (leb first_empty high) (first_empty ∷ []) (best ∷ jump empty reach turns (suc best) (reach best)) (Shortest base low high)
        (λ test.
        let found = leb-true first_empty high test in
        record {
          first = first_empty;
          others = [];
          are = refl;
          from_low = scan_low empty low count;
          to_high = found;
          chain = scan_hit empty low count (omega arith);
          least = λ slot others from to chain. omega arith;
        })
        (λ test.
        let none = leb-false first_empty high test in
        let filled : (i : ℕ) → low ≤ i → i ≤ high → empty i ≡ false = λ i from to. scan_before empty low count i from (omega arith) in
        let beyond : high < free =
        ⊎_elim (λ over. over) (λ inside-span. absurd (both_ways (empty free) (filled free after inside-span) is_free)) (cases_lt high free) in
        let covered : (i : ℕ) → base ≤ i → i ≤ high → (empty i ≡ false) × (reach i ≤ reach best) =
        λ i from to.
        ⊎_elim
        (λ before. ((looked i from before).0, omega (arith, (looked i from before).1, self high ends, farthest_reach reach low (high - low) high span (omega arith))))
        (λ here. (filled i here to, farthest_reach reach low (high - low) i here (omega arith)))
        (cases_lt i low) in
        let rest = jump_shortest turns base (suc best) (reach best) free (omega arith) (later best (omega arith)) (inside best) (omega arith) reached is_free (omega arith)
        (λ i from to. covered i from (omega arith)) in
        record {
          first = best;
          others = jump empty reach turns (suc best) (reach best);
          are = refl;
          from_low = best-from;
          to_high = best-to;
          chain = joined (filled best best-from best-to) rest;
          least = λ slot others from to chain.
              longer slot (reach best) (length (jump empty reach turns (suc best) (reach best))) others (covered slot from to).0 (covered slot from to).1 chain
              (λ next more above within following. rest.least next more (omega arith) within following);
        })

-- What the first place that passes, and the last one, say of the places around them. Assumes nothing.
use Rattle.std.proofs.Common.{◌≡◌, ℕ, zero, suc, ◌+◌, ◌<◌, ◌≤◌, Bool, true, false, ltb, sym, ap, ◌∙◌, ⊎_elim, arith}
use Rattle.std.proofs.lemmas.Bool.{cond_both, cases_eq, cases_lt, cases_Bool, both_ways, ltb-true, ltb-false, lt-ltb}
use Rattle.shifting.specs.Chains.{scan, past, some_below, farthest}

module _ (passes : ℕ → Bool) where
  pub scan_low : (i n : ℕ) → i ≤ scan passes i n
  scan_low i zero = omega arith
  scan_low i (suc n) =
      cond_both (passes i) i (scan passes (suc i) n) (λ x. i ≤ x) (λ _. omega arith) (λ _. omega (arith, scan_low (suc i) n))

  pub scan_high : (i n : ℕ) → scan passes i n ≤ i + n
  scan_high i zero = omega arith
  scan_high i (suc n) =
      cond_both (passes i) i (scan passes (suc i) n) (λ x. x ≤ i + suc n) (λ _. omega arith) (λ _. omega (arith, scan_high (suc i) n))

  pub scan_before : (i n j : ℕ) → i ≤ j → j < scan passes i n → passes j ≡ false
  scan_before i zero j from = λ before. absurd (omega arith)
  scan_before i (suc n) j from =
      cond_both (passes i) i (scan passes (suc i) n) (λ x. j < x → passes j ≡ false)
      (λ _ before. absurd (omega arith))
      (λ fails before. ⊎_elim (λ same. ap passes same ∙ fails) (λ other. scan_before (suc i) n j (omega arith) before) (cases_eq j i))

  pub scan_hit : (i n : ℕ) → scan passes i n < i + n → passes (scan passes i n) ≡ true
  scan_hit i zero = λ within. absurd (omega arith)
  scan_hit i (suc n) =
      cond_both (passes i) i (scan passes (suc i) n) (λ x. x < i + suc n → passes x ≡ true)
      (λ passed _. passed)
      (λ _ within. scan_hit (suc i) n (omega arith))

  pub scan_first : (i n j : ℕ) → i ≤ j → passes j ≡ true → scan passes i n ≤ j
  scan_first i n j from passed =
      ⊎_elim (λ before. absurd (both_ways (passes j) (scan_before i n j from before) passed)) (λ after. after) (cases_lt j (scan passes i n))

  pub past_high : (n : ℕ) → past passes n ≤ n
  past_high zero = omega arith
  past_high (suc n) =
      cond_both (passes n) (suc n) (past passes n) (λ x. x ≤ suc n) (λ _. omega arith) (λ _. omega (arith, past_high n))

  pub past_last : (n j : ℕ) → j < n → passes j ≡ true → j < past passes n
  past_last zero j within passed = absurd (omega arith)
  past_last (suc n) j within passed =
      cond_both (passes n) (suc n) (past passes n) (λ x. j < x)
      (λ _. within)
      (λ fails. past_last n j
      (⊎_elim (λ same. absurd (both_ways (passes n) fails (ap passes (sym same) ∙ passed))) (λ other. omega arith) (cases_eq j n))
      passed)

  pub past_hit : (n k : ℕ) → past passes n ≡ suc k → passes k ≡ true
  past_hit zero k = λ is. absurd (omega arith)
  past_hit (suc n) k =
      cond_both (passes n) (suc n) (past passes n) (λ x. x ≡ suc k → passes k ≡ true)
      (λ passed is. let same : k ≡ n = omega arith in ap passes same ∙ passed)
      (λ _ is. past_hit n k is)

  pub some_below_from : (n k : ℕ) → k < n → passes k ≡ true → some_below passes n ≡ true
  some_below_from n k within passed =
      let first = scan_first 0 n k (omega arith) passed in
      lt-ltb (scan passes 0 n) n (omega arith)

  pub some_below_none : (n k : ℕ) → some_below passes n ≡ false → k < n → passes k ≡ false
  some_below_none n k none within =
      ⊎_elim (λ passed. absurd (both_ways (some_below passes n) none (some_below_from n k within passed))) (λ fails. fails) (cases_Bool (passes k))

  pub some_below_hit : (n : ℕ) → some_below passes n ≡ true → (k : ℕ) × (k < n) × (passes k ≡ true)
  some_below_hit n found =
      let within = ltb-true (scan passes 0 n) n found in
      (scan passes 0 n, within, scan_hit 0 n (omega arith))

module _ (reach : ℕ → ℕ) where
  pub farthest_low : (low n : ℕ) → low ≤ farthest reach low n
  farthest_low low zero = omega arith
  farthest_low low (suc n) =
      let so_far = farthest_low low n in
      cond_both _ (low + suc n) (farthest reach low n) (λ x. low ≤ x) (λ _. omega arith) (λ _. so_far)

  pub farthest_high : (low n : ℕ) → farthest reach low n ≤ low + n
  farthest_high low zero = omega arith
  farthest_high low (suc n) =
      let so_far = farthest_high low n in
      cond_both _ (low + suc n) (farthest reach low n) (λ x. x ≤ low + suc n) (λ _. omega arith) (λ _. omega arith)

  pub farthest_reach : (low n j : ℕ) → low ≤ j → j ≤ low + n → reach j ≤ reach (farthest reach low n)
  farthest_reach low zero j from to =
      let same : j ≡ low = omega arith in
      let equal = ap reach same in
      omega arith
  farthest_reach low (suc n) j from to =
      let best = farthest reach low n in
      let next = low + suc n in
      ⊎_elim
      (λ same.
      let equal = ap reach same in
      cond_both (ltb (reach best) (reach next)) next best (λ x. reach j ≤ reach x) (λ _. omega arith) (λ e. omega (arith, ltb-false (reach best) (reach next) e)))
      (λ other.
      let so_far = farthest_reach low n j from (omega arith) in
      cond_both (ltb (reach best) (reach next)) next best (λ x. reach j ≤ reach x) (λ e. omega (arith, ltb-true (reach best) (reach next) e)) (λ _. so_far))
      (cases_eq j next)

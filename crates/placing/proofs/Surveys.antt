-- A survey of the slots, one slot on. Assumes nothing.
use Rattle.std.proofs.Common.{◌≡◌, ℕ, suc, ◌+◌, ◌-◌, ◌≤◌, min, max, Bool, true, false, cond, ltb, List, Option, sym, refl, ap, ◌∙◌, add-one, arith}
use Rattle.std.specs.declared.cmp.Ordering.{Ordering}
use Rattle.rules.specs.declared.rule.Rule.{Rule}
use Rattle.rules.specs.Kinds.{KindMeaning}
use Rattle.shifting.specs.Chains.{scan, past}
use Rattle.shifting.specs.Slots.{Slot, at, usable, low, high, tied, above, below, level}
use Rattle.shifting.proofs.Scans.{past_high}
use Rattle.placing.specs.Standings.{is_above, is_below, is_level}
use Rattle.placing.proofs.Steps.{scan_here, scan_on, past_here, past_on}

module _ (passes : ℕ → Bool) (count old slot : ℕ) (is : old ≡ suc slot) (within : old ≤ count) where
  scan_next : passes slot ≡ false → scan passes slot (count - slot) ≡ scan passes old (count - old)
  scan_next failed = scan_on passes slot count (omega arith) failed ∙ ap (λ (n : ℕ). scan passes n (count - n)) (add-one slot ∙ sym is)

  -- the last slot that passes is the first that is met on the way down
  last_more : (test : Bool) (found found' : ℕ) → test ≡ passes slot → found' ≡ cond test (max found (slot + 1)) found → max found (past passes old) ≡ past passes count → max found' (past passes slot) ≡ past passes count
  last_more test found found' tested next before = grind (arith, past_high, past_here, past_on)

  -- the first slot that passes is the last
  first_more : (test : Bool) (last found found' : ℕ) → test ≡ passes slot → found' ≡ cond test slot found → last ≡ count - 1 → found ≡ min last (scan passes old (count - old)) → found' ≡ min last (scan passes slot (count - slot))
  first_more test last found found' tested next last_is before = grind (arith, scan_here, scan_next)

  some_more : (test found found' : Bool) → test ≡ passes slot → found' ≡ cond test true found → found ≡ ltb (scan passes old (count - old)) count → found' ≡ ltb (scan passes slot (count - slot)) count
  some_more test found found' tested next before = grind (arith, scan_here, scan_next)

module _ (kind : KindMeaning) (slots : List Slot) (new : Rule) where
  -- what is found of the slots from one on, and of those before it not yet
  pub record Surveyed (count slot from to : ℕ) (level_found : Bool) : Type 0 where
    pub from_is : max from (past (λ i. above kind new (at slots i)) slot) ≡ past (λ i. above kind new (at slots i)) count
    pub to_is : to ≡ min (count - 1) (scan (λ i. below kind new (at slots i)) slot (count - slot))
    pub tied_is : level_found ≡ ltb (scan (λ i. level kind new (at slots i)) slot (count - slot)) count

  -- one slot more, by what is found of the rule in it
  pub surveyed_more : (count old slot from to from' to' : ℕ) (found found' : Bool) (held : Slot) (told standing : Option Ordering) → old ≡ suc slot → old ≤ count → held ≡ at slots slot → told ≡ standing
      → is_above told ≡ above kind new held → is_below told ≡ below kind new held → is_level told ≡ level kind new held
      → from' ≡ cond (is_above standing) (max from (slot + 1)) from → to' ≡ cond (is_below standing) slot to → found' ≡ cond (is_level standing) true found
      → Surveyed count old from to found → Surveyed count slot from' to' found'
  surveyed_more count old slot from to from' to' found found' held told standing is within held_is told_is above-is below-is level-is from_next to_next found_next so_far =
      record {
        from_is = last_more (λ i. above kind new (at slots i)) count old slot is within (is_above standing) from from' (sym (ap is_above told_is) ∙ above-is ∙ ap (above kind new) held_is) from_next so_far.from_is;
        to_is = first_more (λ i. below kind new (at slots i)) count old slot is within (is_below standing) (count - 1) to to' (sym (ap is_below told_is) ∙ below-is ∙ ap (below kind new) held_is) to_next refl so_far.to_is;
        tied_is = some_more (λ i. level kind new (at slots i)) count old slot is within (is_level standing) found found' (sym (ap is_level told_is) ∙ level-is ∙ ap (level kind new) held_is) found_next so_far.tied_is;
      }

  pub record Whole (from to : ℕ) (level_found : Bool) : Type 0 where
    pub low_is : from ≡ low kind slots new
    pub high_is : to ≡ high kind slots new
    pub tied_is : level_found ≡ tied kind slots new

  -- with no slot left the survey is whole
  pub surveyed_whole : (count slot from to : ℕ) (found : Bool) → count ≡ usable slots → slot ≡ 0 → Surveyed count slot from to found → Whole from to found
  surveyed_whole count slot from to found count-is none so_far =
      let all : count - slot ≡ usable slots = omega arith in
      let nothing = ap (past (λ i. above kind new (at slots i))) none in
      let whole : from ≡ past (λ i. above kind new (at slots i)) count = omega (arith, so_far.from_is) in
      record {
        low_is = whole ∙ ap (past (λ i. above kind new (at slots i))) count-is;
        high_is = so_far.to_is ∙ ap (λ (n : ℕ). min (count - 1) (scan (λ i. below kind new (at slots i)) n (count - slot))) none ∙ ap (λ (n : ℕ). min (count - 1) (scan (λ i. below kind new (at slots i)) 0 n)) all ∙ ap (λ (n : ℕ). min (n - 1) (scan (λ i. below kind new (at slots i)) 0 (usable slots))) count-is;
        tied_is = so_far.tied_is ∙ ap (λ (n : ℕ). ltb (scan (λ i. level kind new (at slots i)) n (count - slot)) count) none ∙ ap (λ (n : ℕ). ltb (scan (λ i. level kind new (at slots i)) 0 n) count) all ∙ ap (ltb _) count-is;
      }

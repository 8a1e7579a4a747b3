use Rattle.std.proofs.Common.{true, [], ◌∷◌, refl, inl, arith}
use Rattle.std.proofs.lemmas.Bool.{both_ways}
use Rattle.kinds.specs.DialRules.{places}
use Rattle.cases.specs.Cases.{nine, nine_zero}
use Rattle.cases.proofs.failures_stand.Goals as goal

pub returns : goal.returns
unfolding places
returns c =
    record {
      wrong_order = λ right. let before = right 1 0 (nine_zero 20) nine refl refl (record { meet = refl; higher = omega arith; apart = λ same. omega arith }) in omega arith;
      past_the_reach = λ chain. let far = chain.1.2 in omega arith;
      nearest_chain = refl;
      nearest_downward = (record { from_low = omega arith; to_high = omega arith; within = omega arith }, (refl, omega arith, omega arith, (refl, omega arith, omega arith, refl)));
      jump_takes_two = refl;
      nearest_not_shortest = λ least.
          let more = least (0 ∷ 3 ∷ []) (record { from_low = omega arith; to_high = omega arith; within = omega arith }, (refl, omega arith, omega arith, refl)) in
          omega arith;
      first_slot_first = λ none. both_ways true (none nine (inl refl)) refl;
      order_in_trace = λ same. omega arith;
    }

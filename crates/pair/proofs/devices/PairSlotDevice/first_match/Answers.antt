use Rattle.std.proofs.Common.{◌≡◌, ℕ, length, Some, None, Option, ap, ◌∙◌, rules}
use Rattle.std.specs.Option.{option_or, MatchOption}
use Rattle.rules.specs.Slots.{slot_matches, first_match}
use Rattle.pair.specs.Halves.{match_in_second}
use Rattle.pair.proofs.Firsts.{match_halves}
use Rattle.pair.proofs.devices.PairSlotDevice.first_match.Goals as goal

-- what `or_else` answers, if the call gives this
or_called : (first second result : Option ℕ) (Called : Type 0) → (Called → result ≡ second) → MatchOption first Called (λ x. result ≡ Some x) → result ≡ option_or first second
or_called (Some x) second result Called gives case = case
or_called None second result Called gives case = gives case

pub returns : goal.returns
returns g c =
    let a = g.D.SlotDevice.slots c.args.self.now.first in
    let b = g.E.SlotDevice.slots c.args.self.now.second in
    let second = match_in_second (length a) (length b) (first_match g.D.Kind.Kind.meaning b c.args.subject) in
    let first : c.first_match-first.result ≡ first_match g.D.Kind.Kind.meaning a c.args.subject = search rules in
    record {
      answer =
          or_called _ second _ _ (λ called. search rules) c.or_else.ensures ∙ ap (λ first. option_or first second) first
          ∙ match_halves (slot_matches g.D.Kind.Kind.meaning c.args.subject) a b;
    }

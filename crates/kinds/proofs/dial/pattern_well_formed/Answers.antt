use Rattle.std.proofs.Common.{rules, tests, refl, sym, ◌∙◌, eqb}
use Rattle.std.proofs.lemmas.Iterator.Consumers.{YieldsList-from_first}
use Rattle.std.proofs.lemmas.Iterator.Search.{all_from_yields_List}
use Rattle.kinds.specs.DialRules.{end}
use Rattle.kinds.proofs.Walks.{plain_pattern, ended_pattern}
use Rattle.kinds.proofs.dial.pattern_well_formed.Goals as goal

pub returns-then-all : goal.returns-then-all
returns-then-all c = c.if-all.true ∙ sym (plain_pattern (λ x b q k. search (rules, tests)) _ _ _ c.all.ensures.ran c.if-all.true)

pub returns-else-all : goal.returns-else-all
returns-else-all c =
    all_from_yields_List (λ code. eqb code end) _ _ _ c.all-else-all.ensures.ran (YieldsList-from_first (λ code. code) (λ codes. codes) _ refl) (λ x b q k. search (rules, tests))
    ∙ sym (ended_pattern (λ x b q k. search (rules, tests)) _ _ _ c.all.ensures.ran c.if-all.false)

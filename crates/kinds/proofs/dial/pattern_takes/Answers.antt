use Rattle.std.proofs.Common.{rules, tests, sym, ap, ◌∙◌}
use Rattle.std.proofs.lemmas.Iterator.{YieldsList-from_zip}
use Rattle.std.proofs.lemmas.Iterator.Consumers.{YieldsList-at, YieldsList-from_first}
use Rattle.std.proofs.lemmas.Iterator.Search.{find_from_yields_List}
use Rattle.kinds.specs.DialRules.{places}
use Rattle.kinds.specs.Places.{length_places}
use Rattle.kinds.proofs.Walks.{stops, at_rest, told_rest, takes_to_rest}
use Rattle.kinds.proofs.dial.pattern_takes.Goals as goal

pub returns : goal.returns
returns c =
    let found = find_from_yields_List stops _ _ c.find.result c.find.ensures.ran
    (YieldsList-from_zip
    (YieldsList-at c.zip.ensures.first (YieldsList-from_first (λ code. code) (λ codes. codes) _ c.of.ensures))
    (YieldsList-at c.zip.ensures.second (YieldsList-from_first (λ code. code) (λ codes. codes) _ c.of-2.ensures)))
    (λ x b q k. search (rules, tests)) in
    told_rest c.find.result c.is_none_or.result (search (rules, tests))
    ∙ ap at_rest found
    ∙ takes_to_rest (places 16 c.args.pattern) (places 16 c.args.subject) (length_places 16 c.args.pattern ∙ sym (length_places 16 c.args.subject))

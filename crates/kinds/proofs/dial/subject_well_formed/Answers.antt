use Rattle.std.proofs.Common.{rules, tests, refl, sym, ap, ◌∙◌, eqb}
use Rattle.std.proofs.lemmas.Bool.{ne_eqb}
use Rattle.std.proofs.lemmas.Iterator.Consumers.{YieldsList-from_first}
use Rattle.std.proofs.lemmas.Iterator.Search.{all_from_yields_List}
use Rattle.kinds.specs.DialRules.{subject_well_formed, end}
use Rattle.kinds.proofs.Walks.{plain_subject, ended_subject, strange_subject}
use Rattle.kinds.proofs.dial.subject_well_formed.Goals as goal

pub returns-then-first-eq-END : goal.returns-then-first-eq-END
returns-then-first-eq-END c =
    all_from_yields_List (λ code. eqb code end) _ _ _ c.all.ensures.ran (YieldsList-from_first (λ code. code) (λ codes. codes) _ refl) (λ x b q k. search (rules, tests))
    ∙ sym (ended_subject (λ x b q k. search (rules, tests)) _ _ _ c.find.ensures.ran c.in-Some.first c.in-Some.is c.if-first-eq-END.true)
    ∙ ap subject_well_formed c.of-symbols.ensures

pub returns-else-first-eq-END : goal.returns-else-first-eq-END
returns-else-first-eq-END c =
    ne_eqb c.in-Some.first end c.if-first-eq-END.false
    ∙ sym (strange_subject (λ x b q k. search (rules, tests)) _ _ _ c.find.ensures.ran c.in-Some.first c.in-Some.is c.if-first-eq-END.false)
    ∙ ap subject_well_formed c.of-symbols.ensures

pub returns-in-None : goal.returns-in-None
returns-in-None c = plain_subject (λ x b q k. search (rules, tests)) _ _ _ c.find.ensures.ran c.in-None.is ∙ ap subject_well_formed c.of-symbols.ensures

use Rattle.std.proofs.Common.{◌≡◌, string_bytes, ◌∙◌}
use Rattle.std.proofs.lemmas.Result.{IfOk-weaker}
use Rattle.order_text.specs.Lines.{as_add, words_text}
use Rattle.order_text.proofs.lines.add_line.Goals as goal

pub returns : goal.returns
returns c =
    let words = c.in_ok-words.ensures ∙ (λ i. words_text (c.word_a.ensures i) (c.word_b.ensures i)) in
    IfOk-weaker c.format.result (λ text. string_bytes text ≡ as_add c.args.place c.number-number.result c.priority-priority.result c.action-action.result (string_bytes c.in_ok-words.words)) _
    (λ text h. h ∙ (λ i. as_add c.args.place (c.number-number.ensures i) (c.priority-priority.ensures i) (c.action-action.ensures i) (words i)))
    c.format.ensures.ok

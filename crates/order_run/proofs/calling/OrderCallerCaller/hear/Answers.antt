use Rattle.std.proofs.Common.{◌≡◌, Some, None, string_bytes, sym, refl, ap, ◌∙◌, subst, arith}
use Rattle.shifting.specs.Machine.{Call}
use Rattle.board.specs.Calls.{answer_of}
use Rattle.board.specs.Serving.{Past, Answers}
use Rattle.order_run.specs.Calling.{named, count, Waits, WaitsFor}
use Rattle.order_run.specs.Lines.{number_told, value_told}
use Rattle.order_run.proofs.Hands.{at_most_one, named_none, heard_keeps, heard_good, last_heard}
use Rattle.order_run.proofs.Walking.{hears, is_last, hears_last}
use Rattle.order_run.proofs.calling.OrderCallerCaller.hear.Goals as goal

pub returns-in-Some : goal.returns-in-Some
returns-in-Some c =
    let self = c.args.self.now in
    let answer = c.args.answer in
    let hand = self.ticket in
    let hand' = c.keep.new.hand in
    let head = c.in-Some.head in
    let text = string_bytes self.text in
    let input = self.reader.input.now in
    let offset = self.reader.offset in
    let awaited : self.head ≡ Some head = sym c.take.ensures.value ∙ c.in-Some.is in
    record {
      holds = λ before call waits answers.
          let kept = ap named c.keep.ensures ∙ (heard_keeps before call answer hand waits.free waits.good answers).1 in
          record {
            idle = c.take.ensures.after;
            good = heard_good before call answer hand hand' waits.good answers kept;
            told = hears before self.stage c.told-self.result input offset call head (answer_of answer) (named hand) (named hand') text (string_bytes c.told-self.new.text) (number_told c.reply_to-reply.result) (value_told c.reply_to-reply.result)
                (subst (λ h. WaitsFor h self.stage before call input offset (named hand) text) awaited waits.told) answers.answered kept c.reply_to-reply.ensures c.told-self.ensures;
          };
      fewer = omega (arith, at_most_one hand', ap count awaited, ap count c.take.ensures.after);
      same = refl;
    }

pub returns-in_default : goal.returns-in_default
returns-in_default c =
    let self = c.args.self.now in
    let answer = c.args.answer in
    let hand = self.ticket in
    let hand' = c.keep.new.hand in
    let text = string_bytes self.text in
    let input = self.reader.input.now in
    let offset = self.reader.offset in
    let awaited : self.head ≡ None = sym c.take.ensures.value ∙ c.in_default.is in
    let waited : (before : Past) (call : Call) → WaitsFor self.head self.stage before call input offset (named hand) text → WaitsFor None self.stage before call input offset (named hand) text =
    λ before call. subst (λ h. WaitsFor h self.stage before call input offset (named hand) text) awaited in
    let emptied : (before : Past) (call : Call) → Waits self before call → Answers before call answer → named hand' ≡ None =
    λ before call waits answers.
    ap named c.keep.ensures ∙ (heard_keeps before call answer hand waits.free waits.good answers).1
    ∙ last_heard before call (answer_of answer) (named hand) (is_last before self.stage input offset call (named hand) text (waited before call waits.told)) waits.good answers.answered in
    let given = c.requires in
    record {
      holds = λ before call waits answers.
          let kept = ap named c.keep.ensures ∙ (heard_keeps before call answer hand waits.free waits.good answers).1 in
          record {
            idle = c.take.ensures.after;
            good = heard_good before call answer hand hand' waits.good answers kept;
            told = hears_last before self.stage input offset call (named hand) (named hand') text (waited before call waits.told) (emptied before call waits answers);
          };
      fewer = omega (arith, ap count (named_none hand' (emptied given.0 given.1 given.2 given.3)), ap count c.take.ensures.after);
      same = refl;
    }

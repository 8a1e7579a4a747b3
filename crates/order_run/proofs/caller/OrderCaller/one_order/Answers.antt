use Rattle.std.proofs.Common.{◌≡◌, ◌<◌, ◌++◌, Some, string_bytes, sym, refl, ap, ◌∙◌, subst, arith}
use Rattle.board.specs.Calls.{call_of}
use Rattle.orders.specs.Orders.{entry_of}
use Rattle.order_run.specs.Calling.{named, asked, in_hand, WaitsFor, HoldsIn, Good, count}
use Rattle.order_run.specs.Lines.{line, answer_line}
use Rattle.rules.specs.Refusals.{number}
use Rattle.rules.specs.declared.refusal.Refusal.TheVariants.{Foreign}
use Rattle.shifting.specs.Machine.{refused}
use Rattle.board.specs.Serving.{state_of}
use Rattle.order_run.proofs.Hands.{fewer_in_hand, letter_small}
use Rattle.order_run.proofs.Walking.{order_asks, run_asks, run_refuses, line_told, told_holds}
use Rattle.order_run.proofs.caller.OrderCaller.one_order.Goals as goal

pub returns-in-Some : goal.returns-in-Some
returns-in-Some c =
    let self = c.args.self.now in
    let order = entry_of c.args.order.now in
    let hand = self.ticket in
    let hand' = c.call_for.new.hand in
    let text = string_bytes self.text in
    let input = self.reader.input.now in
    let offset = self.reader.offset in
    let call = c.in-Some.call in
    let head = c.of-head.result in
    record {
      asks = λ before on.
          let is = c.call_for.ensures.call ∙ ap asked c.in-Some.is in
          let left = c.call_for.ensures.hand ∙ ap (λ r. in_hand r hand) c.in-Some.is in
          let took = order_asks before input offset hand hand' text order call on.begins on.good is left in
          record {
            free = took.free;
            good = took.good;
            told = subst (λ stage. WaitsFor (Some head) stage before (call_of call) input offset (named hand') text) (sym on.reading)
                (subst (λ letter. letter < 128) (sym c.of-head.ensures.letter) (letter_small c.args.order.now), run_asks before input offset hand hand' text order head call on.begins is took c.of-head.ensures.letter c.of-head.ensures.place);
          };
      reader = refl;
      ends = let few = fewer_in_hand (Some call) hand in omega (arith, ap count c.in-Some.ensures.hand);
    }

pub returns-in-None : goal.returns-in-None
returns-in-None c =
    let self = c.args.self.now in
    let order = entry_of c.args.order.now in
    let hand = self.ticket in
    let text = string_bytes self.text in
    let text' = string_bytes c.told-self.new.text in
    let input = self.reader.input.now in
    let offset = self.reader.offset in
    let head = c.of-head.result in
    let same : c.call_for.new.hand ≡ hand = c.in-None.ensures.hand in
    let written : line head.letter head.place (number Foreign) (Some 0) ≡ answer_line order.letter order.place (refused Foreign) =
    line_told head.letter order.letter head.place order.place (number Foreign) (Some 0) (refused Foreign) c.of-head.ensures.letter c.of-head.ensures.place (record { refusal_is = refl; value_is = refl }) in
    record {
      asks = λ before on.
          record {
            idle = on.idle;
            good = subst (λ h. Good before.fixed (state_of before) (named h)) (sym same) on.good;
            told = subst (λ h. HoldsIn c.told-self.result before input offset (named h) text') (sym same)
                (told_holds c.told-self.result self.stage _ before input offset (named hand) text' c.told-self.ensures
                (λ told. subst (λ stage. HoldsIn stage before input offset (named hand) text') (sym on.reading) (run_refuses before input offset hand text text' order on.begins c.in-None.ensures.call (told ∙ ap (λ l. text ++ l) written))));
          };
      reader = refl;
      ends = omega (arith, ap count same);
    }

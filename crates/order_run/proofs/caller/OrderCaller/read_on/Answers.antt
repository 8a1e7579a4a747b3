use Rattle.std.proofs.Common.{◌≡◌, ◌+◌, ◌++◌, length, drop, Ok, Err, Some, string_bytes, sym, refl, ap, ◌∙◌, subst, arith}
use Rattle.std.proofs.lemmas.List.{append-nil}
use Rattle.rules.specs.Refusals.{number}
use Rattle.shifting.specs.Machine.{refused}
use Rattle.orders.specs.Layout.{front}
use Rattle.orders.specs.Orders.{bytes_of, entry_of}
use Rattle.order_reader.specs.Reading.{Gives, offset_after}
use Rattle.order_run.specs.declared.caller.Stage.TheVariants.{Ended}
use Rattle.order_run.specs.Calling.{named, HoldsIn, open_ends}
use Rattle.order_run.proofs.Walking.{ended, reads_one, passes, calls_fall, falls_any, turns_fall, told_ended, turns_end, line_told, told_holds}
use Rattle.order_run.proofs.caller.OrderCaller.read_on.Goals as goal

pub returns-in-Some-Ok : goal.returns-in-Some-Ok
returns-in-Some-Ok c =
    let self = c.args.self.now in
    let input = self.reader.input.now in
    let offset = self.reader.offset in
    let left = drop offset input in
    let reader = c.next_order.new.self in
    let order = c.in-Some-Ok.order in
    let size = length (bytes_of order) in
    let given = subst (λ outcome. Gives (front left) offset left (Some outcome)) c.in-Some-Ok.field-0-is c.in-Some-Ok.ensures.answer in
    let moved : reader.offset ≡ offset + size = c.in-Some-Ok.ensures.offset ∙ ap (λ outcome. offset_after offset (Some outcome)) c.in-Some-Ok.field-0-is in
    let same : reader.input.now ≡ input = ap (λ reference. reference.now) c.next_order.ensures.input in
    let fits = passes input offset size given.0 in
    let behind = c.one_order.new.self in
    let same' : behind.reader.input.now ≡ input = ap (λ reader. reader.input.now) c.one_order.ensures.reader ∙ same in
    let moved' : behind.reader.offset ≡ offset + size = ap (λ reader. reader.offset) c.one_order.ensures.reader ∙ moved in
    record {
      asks = λ before reading on.
          c.one_order.ensures.asks before
          (record {
            idle = on.idle;
            good = on.good;
            reading = reading;
            begins = reads_one before input reader.input.now offset reader.offset size self.ticket (string_bytes self.text) (entry_of order)
                (subst (λ stage. HoldsIn stage before input offset (named self.ticket) (string_bytes self.text)) reading on.told) given.0 given.1 same moved;
          });
      script = same';
      fewer = falls_any _ _ c.one_order.result (calls_fall (length input) (length behind.reader.input.now) offset behind.reader.offset size (open_ends self) (open_ends behind) (ap length same') moved' fits.0 fits.1 c.one_order.ensures.ends);
      turns = λ reading. turns_fall self.stage behind.stage (length input) (length behind.reader.input.now) offset behind.reader.offset size reading (ap length same') moved' fits.0 fits.1;
    }

pub returns-in-Some-Err : goal.returns-in-Some-Err
returns-in-Some-Err c =
    let self = c.args.self.now in
    let input = self.reader.input.now in
    let offset = self.reader.offset in
    let left = drop offset input in
    let reader = c.next_order.new.self in
    let refusal = c.in-Some-Err.refusal in
    let text = string_bytes self.text in
    let text' = string_bytes c.told-self.new.text in
    let given = subst (λ outcome. Gives (front left) offset left (Some outcome)) c.in-Some-Err.field-0-is c.in-Some-Err.ensures.answer in
    let stays : reader.offset ≡ offset = c.in-Some-Err.ensures.offset ∙ ap (λ outcome. offset_after offset (Some outcome)) c.in-Some-Err.field-0-is in
    let same : reader.input.now ≡ input = ap (λ reference. reference.now) c.next_order.ensures.input in
    record {
      asks = λ before reading on.
          record {
            idle = on.idle;
            good = on.good;
            told = told_holds c.told-self.result Ended _ before reader.input.now reader.offset (named self.ticket) text' c.told-self.ensures
                (λ told. ended before input reader.input.now offset reader.offset (named self.ticket) text text' (Err refusal)
                (subst (λ stage. HoldsIn stage before input offset (named self.ticket) text) reading on.told) given same
                (told ∙ ap (λ l. text ++ l) (line_told c.damaged-head.result.letter 0x3F c.damaged-head.result.place offset (number refusal) (Some 0) (refused refusal) c.damaged-head.ensures.letter (c.damaged-head.ensures.place ∙ c.offset.ensures ∙ stays) (record { refusal_is = refl; value_is = refl }))));
          };
      script = same;
      fewer = omega (arith, ap length same, stays);
      turns = λ reading. turns_end self.stage c.told-self.result (length input) (length reader.input.now) offset reader.offset reading (told_ended c.told-self.result _ c.told-self.ensures) (ap length same) stays;
    }

pub returns-in-None : goal.returns-in-None
returns-in-None c =
    let self = c.args.self.now in
    let input = self.reader.input.now in
    let offset = self.reader.offset in
    let reader = c.next_order.new.self in
    let text = string_bytes self.text in
    let same : reader.input.now ≡ input = ap (λ reference. reference.now) c.next_order.ensures.input in
    let stays : reader.offset ≡ offset = c.in-None.ensures.offset in
    record {
      asks = λ before reading on.
          record {
            idle = on.idle;
            good = on.good;
            told = ended before input reader.input.now offset reader.offset (named self.ticket) text text (Ok tt)
                (subst (λ stage. HoldsIn stage before input offset (named self.ticket) text) reading on.told) c.in-None.ensures.answer same (sym (append-nil text));
          };
      script = same;
      fewer = omega (arith, ap length same, stays);
      turns = λ reading. turns_end self.stage Ended (length input) (length reader.input.now) offset reader.offset reading refl (ap length same) stays;
    }

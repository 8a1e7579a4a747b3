use Rattle.std.proofs.Common.{◌≡◌, sym, ◌∙◌, subst, rules}
use Rattle.shifting.proofs.Lawful.{law_of_runs}
use Rattle.turns.specs.Shown.{fixed_by}
use Rattle.board.specs.Calls.{call_of}
use Rattle.board.specs.Serving.{past_of, Served}
use Rattle.board.proofs.Serves.{serves_more}
use Rattle.board.proofs.serving.serve.Goals as goal

pub next-requires : goal.next-requires
next-requires g c =
    let on = c.loop-call.invariant.serving in
    (past_of g.D.Kind.Kind.meaning g.D.SlotDevice c.args.number c.args.device.now on.calls, on.held)

pub hear-requires : goal.hear-requires
hear-requires g c =
    let on = c.loop-call.invariant.serving in
    let before = past_of g.D.Kind.Kind.meaning g.D.SlotDevice c.args.number c.args.device.now on.calls in
    let number : c.loop-call.board.number ≡ c.args.number = c.loop-call.invariant.same.number ∙ c.open-board.ensures.number in
    let more = (rw number at c.take_call.ensures.law) _ _ on.calls on.led.by in
    (before, call_of c.in-Some.call, c.in-Some.ensures.asks before on.held, record { answered = more.answered; back = c.take_call.ensures.back })

pub loop-call-preserved : goal.loop-call-preserved
loop-call-preserved g c =
    let was = c.loop-call.invariant in
    let now = c.take_call.ensures.same in
    let fixed = fixed_by g.D.Kind.Kind.meaning g.D.SlotDevice.traced c.args.number in
    let number : c.loop-call.board.number ≡ c.args.number = was.same.number ∙ c.open-board.ensures.number in
    record {
      same = record { number = now.number ∙ was.same.number; device = now.device ∙ was.same.device; lenders = now.lenders ∙ was.same.lenders };
      script = c.hear.ensures.same ∙ c.next.ensures.same ∙ was.script;
      serving = serves_more g.C.Caller.holds fixed g.D.SlotDevice.stored g.C.Caller.waits _ _ _ c.loop-call.caller c.next.new.self c.hear.new.self _ _ (call_of c.in-Some.call) c.take_call.result
          was.serving (rw number at c.take_call.ensures.law) c.take_call.ensures.back c.in-Some.ensures.asks c.hear.ensures.holds;
    }

pub returns-clause-served : goal.returns-clause-served
returns-clause-served g c =
    let on = c.loop-call.invariant.serving in
    let device = sym (c.loop-call.invariant.same.device ∙ c.open-board.ensures.device) in
    subst (λ behind. Served g.C.Caller.ended g.D.Kind.Kind.meaning g.D.SlotDevice c.args.number c.args.device.now behind c.next.new.self) {x = c.loop-call.board.device.now} (search (rules, device))
    (record {
      calls = on.calls;
      ends = c.in_default.ensures.asks (past_of g.D.Kind.Kind.meaning g.D.SlotDevice c.args.number c.args.device.now on.calls) on.held;
      slots_are = on.led.by.shows.slots;
      trace_is = on.led.by.shows.trace;
      memory_is = on.led.lent;
      law = law_of_runs (fixed_by g.D.Kind.Kind.meaning g.D.SlotDevice.traced c.args.number) g.met.D.Kind.Kind.lawful (g.D.SlotDevice.slots c.args.device.now) (g.D.SlotDevice.trace c.args.device.now) on.calls on.led.by.sized;
    })

pub returns-clause-same : goal.returns-clause-same
returns-clause-same g c =
    let device = sym (c.loop-call.invariant.same.device ∙ c.open-board.ensures.device) in
    subst (λ behind. g.D.SlotDevice.lenders behind ≡ g.D.SlotDevice.lenders c.args.device.now) {x = c.loop-call.board.device.now} (search (rules, device)) (c.loop-call.invariant.same.lenders ∙ c.open-board.ensures.lenders)

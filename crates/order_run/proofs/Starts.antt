-- A caller at its start holds to a run of which nothing is made yet. Assumes nothing.
use Rattle.std.proofs.Common.{◌≡◌, ℕ, List, [], None, string_bytes, Option, sym, subst}
use Rattle.shifting.specs.Slots.{Slot}
use Rattle.shifting.specs.Machine.{Fixed}
use Rattle.board.specs.declared.ticket.Ticket.{Ticket as RealTicket}
use Rattle.board.specs.Serving.{Past, past, state_of}
use Rattle.order_reader.proofs.Files.{Sofar, begins}
use Rattle.order_run.specs.declared.caller.OrderCaller.{OrderCaller}
use Rattle.order_run.specs.Calling.{named, Good, so_far, Reaches, HoldsIn, Holds, Fresh}

module _ (fixed : Fixed) (slots : List Slot) (trace : ℕ) where
  abbrev nothing_yet : Past
  nothing_yet = past fixed slots trace []

  reaches_none : (input bytes : List ℕ) (offset : ℕ) (hand : Option RealTicket) (text : List ℕ) → bytes ≡ input → offset ≡ 0 → hand ≡ None → text ≡ [] → Reaches nothing_yet bytes offset (so_far nothing_yet (named hand) text)
  reaches_none input bytes offset hand text same zero none blank =
      record {
        orders = [];
        read = subst (Sofar bytes []) (sym zero) (begins bytes);
        is = λ i. record { calls = []; ticket = named (none i); text = blank i };
      }

  pub starts : (input : List ℕ) (caller : OrderCaller) → Fresh input caller → Holds caller nothing_yet
  starts input caller fresh =
      record {
        idle = fresh.head;
        good = subst (λ hand. Good fixed (state_of nothing_yet) (named hand)) (sym fresh.ticket) tt;
        told = subst (λ stage. HoldsIn stage nothing_yet caller.reader.input.now caller.reader.offset (named caller.ticket) (string_bytes caller.text)) (sym fresh.stage)
            (reaches_none input caller.reader.input.now caller.reader.offset caller.ticket (string_bytes caller.text) fresh.bytes fresh.offset fresh.ticket fresh.text);
      }

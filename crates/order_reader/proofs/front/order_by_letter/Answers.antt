-- The longest order is left to be shown by hand.
use Rattle.std.proofs.Common.{◌≡◌, ◌-◌, length, take, sym, ap, ◌∙◌, arith}
use Rattle.std.proofs.lemmas.List.{length-take-le}
use Rattle.orders.specs.Layout.{whole, lettered}
use Rattle.order_reader.proofs.Fronts.{whole_body}
use Rattle.order_reader.proofs.front.order_by_letter.Goals as goal

pub returns-in_ok-cut-in-65 : goal.returns-in_ok-cut-in-65
returns-in_ok-cut-in-65 c =
    let cut = c.in_ok-cut-in-65.ensures in
    let size : length c.in_ok-cut-in-65.field-0.bytes.now ≡ 27 = ap length cut.2 ∙ length-take-le 27 c.args.left.now cut.0 in (
      ap (λ letter. lettered letter (length c.args.left.now - 3)) c.in-65.is ∙ whole_body 24 (length c.args.left.now - 3) (omega (arith, cut.0)) ∙ ap whole (sym size),
      λ i. record { letter = (sym c.in-65.is ∙ c.requires.1) i; place = cut.1 i; bytes = (cut.2 ∙ ap (λ n. take n c.args.left.now) (sym size)) i },
    )

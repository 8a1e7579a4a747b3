use Rattle.std.proofs.Common.{◌≡◌, ◌++◌, string_bytes}
use Rattle.kinds.specs.DialRules.{places}
use Rattle.kinds.specs.Places.{Codes}
use Rattle.order_text.specs.Signs.{signs_of}
use Rattle.order_text.proofs.signs.dial_signs.Given as goal

abbrev pub invariant-loop-code : goal.invariant-loop-code
invariant-loop-code l = record { codes : Codes l.code-iterator; text : string_bytes l.text ++ signs_of l.code-iterator ≡ signs_of (places 16 l.word) }

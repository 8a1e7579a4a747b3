use Rattle.std.proofs.Common.{◌≡◌, ◌++◌, string_bytes}
use Rattle.kinds.specs.DialRules.{places}
use Rattle.kinds.specs.Places.{Codes}
use Rattle.order_text.specs.Signs.{digits_of}
use Rattle.order_text.proofs.signs.hexadecimal.Given as goal

abbrev pub invariant-loop-code : goal.invariant-loop-code
invariant-loop-code l = record { codes : Codes l.code-iterator; text : string_bytes l.text ++ digits_of l.code-iterator ≡ digits_of (places 16 l.word) }

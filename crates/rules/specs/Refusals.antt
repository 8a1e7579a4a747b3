-- The number and the word of each refusal. Assumes nothing.
use Rattle.std.specs.Prelude.{ℕ, List, codes}
use Rattle.rules.specs.declared.refusal.Refusal.{Refusal}
use Rattle.rules.specs.declared.refusal.Refusal.TheVariants.{Busy, Mangled, Known, Tied, Crossed, NoSlot, Unknown, Misdialled, Foreign, RunOut, OffTheTable, Unmarked, StrangeLetter, CutShort}

abbrev pub number : Refusal → ℕ
number Busy = 1
number Mangled = 2
number Known = 3
number Tied = 4
number Crossed = 5
number NoSlot = 6
number Unknown = 7
number Misdialled = 8
number Foreign = 9
number RunOut = 10
number OffTheTable = 11
number Unmarked = 12
number StrangeLetter = 13
number CutShort = 14

-- the bytes of the word that a supporter reads
abbrev pub word : Refusal → List ℕ
word Busy = codes "busy"
word Mangled = codes "mangled"
word Known = codes "known"
word Tied = codes "tied"
word Crossed = codes "crossed"
word NoSlot = codes "no slot"
word Unknown = codes "unknown"
word Misdialled = codes "misdialled"
word Foreign = codes "foreign"
word RunOut = codes "run out"
word OffTheTable = codes "off the table"
word Unmarked = codes "unmarked"
word StrangeLetter = codes "strange letter"
word CutShort = codes "cut short"

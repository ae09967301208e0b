-- What a fault is called. Assumes nothing.
use Rattle.std.specs.Prelude.{ℕ, List, codes}
use Rattle.daytext.specs.declared.fault.LineFault.{LineFault}
use Rattle.daytext.specs.declared.fault.LineFault.TheVariants.{UnknownWord, MissingNumber, NotANumber, TooLarge, TooMuch}

abbrev pub message_of : LineFault → List ℕ
message_of UnknownWord = codes "unknown word"
message_of MissingNumber = codes "missing number"
message_of NotANumber = codes "not a number"
message_of TooLarge = codes "number too large"
message_of TooMuch = codes "too much on the line"

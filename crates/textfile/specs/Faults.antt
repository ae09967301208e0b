-- What a fault prints. Assumes nothing.
use Rattle.std.specs.Prelude.{ℕ, List, ◌++◌, codes, decimal}
use Rattle.dayfile.specs.Codes.{read_fault_shown}
use Rattle.daytext.specs.Messages.{message_of}
use Rattle.textfile.specs.declared.fault.FileFault.{FileFault}
use Rattle.textfile.specs.declared.fault.FileFault.TheVariants.{Unreadable, Memory as NoFileMemory}
use Rattle.textfile.specs.declared.fault.TextFault.{TextFault}
use Rattle.textfile.specs.declared.fault.TextFault.TheVariants.{Line, Memory as NoTextMemory}

abbrev pub text_fault_shown : TextFault → List ℕ
text_fault_shown (Line number fault) = codes "line " ++ (decimal number ++ (codes ": " ++ message_of fault))
text_fault_shown NoTextMemory = codes "out of memory"

abbrev pub file_fault_shown : FileFault → List ℕ
file_fault_shown (Unreadable offset fault) = codes "byte " ++ (decimal offset ++ (codes ": " ++ read_fault_shown fault))
file_fault_shown NoFileMemory = codes "out of memory"

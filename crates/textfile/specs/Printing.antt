-- What printing a day file answers. Assumes nothing.
use Rattle.std.specs.Prelude.{◌≡◌, ℕ, List, ◌++◌, length, Ok, Err, vec_items, Result, Vec}
use Rattle.std.specs.declared.alloc.Global.{Global}
use Rattle.dayfile.specs.declared.record.Record.{Record}
use Rattle.dayfile.specs.Reading.{next_of}
use Rattle.textfile.specs.declared.fault.FileFault.{FileFault}
use Rattle.textfile.specs.declared.fault.FileFault.TheVariants.{Unreadable, Memory}
use Rattle.textfile.specs.Texts.{file_of, text_of}

-- the file is the bytes of some records, and the text their lines; or after the bytes of some records, as many as the
-- offset says, come bytes that begin with no record. Where memory is short nothing is said
abbrev pub Prints : List ℕ → Result (Vec ℕ Global) FileFault → Type 0
Prints file (Ok text) = (rs : List Record) × (file ≡ file_of rs) × (vec_items text ≡ text_of rs)
Prints file (Err (Unreadable offset fault)) =
    (rs : List Record) × (rest : List ℕ) × (file ≡ file_of rs ++ rest) × (offset ≡ length (file_of rs)) × (next_of rest ≡ Err fault)
Prints file (Err Memory) = Unit {0}

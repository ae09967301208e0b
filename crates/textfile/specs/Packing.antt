-- What packing a text answers. Assumes nothing.
use Rattle.std.specs.Prelude.{◌≡◌, ℕ, List, Ok, Err, vec_items, Result, Vec}
use Rattle.std.specs.declared.alloc.Global.{Global}
use Rattle.textfile.specs.declared.fault.TextFault.{TextFault}
use Rattle.textfile.specs.declared.fault.TextFault.TheVariants.{Line, Memory}
use Rattle.textfile.specs.Texts.{packed_of}

-- the file of the text, or its first line that has no meaning; where memory is short nothing is said
abbrev pub Packs : List ℕ → Result (Vec ℕ Global) TextFault → Type 0
Packs text (Ok file) = packed_of text ≡ Ok (vec_items file)
Packs text (Err (Line number fault)) = packed_of text ≡ Err (number, fault)
Packs text (Err Memory) = Unit {0}

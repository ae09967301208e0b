-- What the check and the reader answer. Assumes nothing.
use Rattle.std.specs.Prelude.{ℕ, cond, List, length, Ok, Err, Result, ◌==◌, nat_lt}
use Rattle.dayfile.specs.declared.record.Record.{Record}
use Rattle.dayfile.specs.declared.record.ReadFault.{ReadFault}
use Rattle.dayfile.specs.declared.record.ReadFault.TheVariants.{UnknownKind, CutShort}
use Rattle.dayfile.specs.Layout.{kind_of, size_of, record_of, rest_of}

-- bs itself where a whole record of a known kind stands at its front. An unknown kind is refused before its
-- length is looked at. Where there is no byte at all there is no kind to refuse: that is a record cut short.
abbrev pub checked : List ℕ → Result (List ℕ) ReadFault
checked bs =
    cond (length bs == 0) (Err CutShort)
    (cond (size_of (kind_of bs) == 0) (Err UnknownKind)
    (cond (nat_lt (length bs) (size_of (kind_of bs))) (Err CutShort) (Ok bs)))

-- the record and the bytes after it, of bytes that were checked
abbrev pub read_of : Result (List ℕ) ReadFault → Result (Record × List ℕ) ReadFault
read_of (Ok bs) = Ok (record_of bs, rest_of bs)
read_of (Err f) = Err f

abbrev pub next_of : List ℕ → Result (Record × List ℕ) ReadFault
next_of bs = read_of (checked bs)

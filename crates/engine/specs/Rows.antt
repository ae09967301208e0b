-- What a call answers and leaves, where it may be refused.
use Rattle.std.specs.Prelude.{Some, None, Ok, Err, Option, Result}
use Rattle.rules.specs.declared.refusal.Refusal.{Refusal}

abbrev pub unless_refused : {X : Type 0} → Option Refusal → X → X → Result (Unit {0}) Refusal × X
unless_refused (Some r) before after = (Err r, before)
unless_refused None before after = (Ok tt, after)

abbrev pub ok_unless : {X : Type 0} → Option Refusal → X → Result X Refusal
ok_unless (Some r) x = Err r
ok_unless None x = Ok x

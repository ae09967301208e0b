-- What comes back to C.
use Rattle.std.specs.Prelude.{◌≡◌, ℕ, cond, List, ◌++◌, length, drop, Some, None, Option, ◌==◌, nat_le}
use Rattle.lines.specs.declared.line.TextLine.TheVariants.{Stop as StopLine}
use Rattle.lines.specs.Text.{bytes_of}
use Rattle.listing.specs.declared.export.LineReport.{LineReport}
use Rattle.listing.specs.declared.export.ListingReport.{ListingReport}
use Rattle.listing.specs.declared.stop.Stop.{Stop}
use Rattle.listing.specs.Listings.{Done}
use Rattle.listing.specs.Stops.{code_of, inner_in, position_in}
use Rattle.std.specs.Option.{unwrap_or}

-- the numbers of a listing's length and stop
abbrev pub report_of : ℕ → Option Stop → ListingReport
report_of n None = record { length = n; refusal = 0; offset = 0; inner = 0; position = 0 }
report_of n (Some stop) = record {
  length = n;
  refusal = code_of stop.fault;
  offset = stop.offset;
  inner = unwrap_or (inner_in stop.fault) 0;
  position = unwrap_or (position_in stop.fault) 0;
}

-- the numbers are those of the listing, and its text stands at the front of the list, which is as it was past it
pub record Reported (d : Done) (before after : List ℕ) (r : ListingReport) : Type 0 where
  pub numbers : r ≡ report_of (length d.text) d.stop
  pub text : after ≡ d.text ++ drop (length d.text) before

-- the STOP line of these numbers
abbrev pub stop_text : ℕ → ℕ → ℕ → List ℕ
stop_text refusal offset inner = bytes_of (StopLine refusal offset (cond (refusal == 35) (Some inner) None))

-- the line stands at the front of the list where it fits, and otherwise the list is as it was
pub record Written (line before after : List ℕ) (r : LineReport) : Type 0 where
  pub numbers : r ≡ cond (nat_le (length line) (length before)) (record { length = length line; refusal = 0 }) (record { length = 0; refusal = 34 })
  pub text : after ≡ cond (nat_le (length line) (length before)) (line ++ drop (length line) before) before

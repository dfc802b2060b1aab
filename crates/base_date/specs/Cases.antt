-- Small cases, computed.
use Rattle.std.specs.Prelude.{◌≡◌, pos, negsuc, Ok, Err, Some, None, codes}
use Rattle.base_date.specs.declared.DateFault.TheVariants.{DateRange}
use Rattle.base_date.specs.declared.moved.IntervalUnit.TheVariants.{Day, Month, Year}
use Rattle.base_date.specs.Date.{date_of}
use Rattle.base_date.specs.Move.{moved}

-- 1900 is no leap year, 2000 is one, and there is no year 0
abbrev pub LeapDays : Type 0
LeapDays = (date_of (codes "1900-02-29") ≡ None) × (date_of (codes "2000-02-29") ≡ Some 20000229)
    × (date_of (codes "0000-12-31") ≡ None)

-- a day that the month lacks is the month's last
abbrev pub MonthEnds : Type 0
MonthEnds = (moved 19960131 (pos 1) Month ≡ Ok 19960229)
    × (moved 19960229 (negsuc 0) Year ≡ Ok 19950228)

-- 90 days before 1 December 1998
abbrev pub NinetyDays : Type 0
NinetyDays = moved 19981201 (negsuc 89) Day ≡ Ok 19980902

-- no day follows the last one, and none comes before the first
abbrev pub TheEnds : Type 0
TheEnds = (moved 99991231 (pos 1) Day ≡ Err DateRange)
    × (moved 10101 (negsuc 0) Day ≡ Err DateRange) × (moved 99991201 (pos 1) Month ≡ Err DateRange)

use Rattle.std.proofs.Common.{◌≡◌, ◌<◌, ◌^◌, take, true}
use Rattle.std.specs.List.{list_all}
use Rattle.std.specs.Char.{is_ascii_digit}
use Rattle.base_date.specs.Date.{spelled_number}
use Rattle.sql_binder_steps.proofs.chain.interval_count.Given as goal

abbrev pub invariant-loop-digit : goal.invariant-loop-digit
invariant-loop-digit l = (list_all is_ascii_digit (take l.digit-index l.text) ≡ true)
    × (l.number ≡ spelled_number (take l.digit-index l.text)) × (l.number < 10 ^ l.digit-index)

-- What stands inside, where a level was opened.
use Rattle.std.proofs.Common.{◌≡◌, ℕ, zero, suc, ◌-◌, ◌<◌, ap, arith}
use Rattle.sql_parser_steps.specs.Readings.{unary_at, part_at, query_at, inner_unary, inner_part, inner_query}

pub unary_inner : (room : ℕ) → 0 < room → inner_unary 1023 room ≡ unary_at 1023 (room - 1)
unary_inner zero h = absurd (let no : ⊥ = omega (arith, h) in no)
unary_inner (suc room) h = let e : room ≡ suc room - 1 = omega arith in ap (unary_at 1023) e

pub part_inner : (room : ℕ) → 0 < room → inner_part 1023 room ≡ part_at 1023 (room - 1)
part_inner zero h = absurd (let no : ⊥ = omega (arith, h) in no)
part_inner (suc room) h = let e : room ≡ suc room - 1 = omega arith in ap (part_at 1023) e

pub query_inner : (room : ℕ) → 0 < room → inner_query 1023 room ≡ query_at 1023 (room - 1)
query_inner zero h = absurd (let no : ⊥ = omega (arith, h) in no)
query_inner (suc room) h = let e : room ≡ suc room - 1 = omega arith in ap (query_at 1023) e

pub ruleset rules_inner = (unary_inner, part_inner, query_inner)

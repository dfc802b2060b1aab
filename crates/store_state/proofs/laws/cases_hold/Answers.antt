use Rattle.std.proofs.Common.{refl}
use Rattle.store_state.proofs.laws.cases_hold.Goals as goal

pub returns-clause-refreshes : goal.returns-clause-refreshes
returns-clause-refreshes c = record {
  inserted = refl;
  deleted = refl;
  nothing = refl;
  exists = refl;
  order_twice = refl;
  exists_first = refl;
  stray = refl;
  stray_of_the_state = refl;
  line_exists = refl;
  line_twice = refl;
  line_exists_first = refl;
  orders_first = refl;
  earlier_line_first = refl;
  unknown = refl;
  key_twice = refl;
  unknown_first = refl;
  malformed = refl;
}

pub returns-clause-versions : goal.returns-clause-versions
returns-clause-versions c = record {
  none = refl;
  one = refl;
  refused = refl;
  two = refl;
  past = refl;
  base = refl;
  first = refl;
  second = refl;
}

use Rattle.std.proofs.Common.{[], codes, refl}
use Rattle.std.specs.Fmt.{digits}
use Rattle.app_sessions.proofs.laws.worked_sessions.Goals as goal

pub returns : goal.returns
unfolding digits
returns c = record {
  refreshed = λ tables. refl;
  not_clean = λ tables. refl;
  runs_refused = λ tables. refl;
  no_view = λ tables. refl;
  table_there = λ tables query. refl;
  explained = (codes "[1] refresh\n", codes "[2] refresh\n[3] refresh\n", refl, (codes "[2] refresh\n", codes "[3] refresh\n", refl, (codes "[3] refresh\n", [], refl, refl, refl), refl), refl);
  all_taken = refl;
  explained_runs = (codes "[1] refused 30 NoSuchQuery\n", codes "[2] refused 31 WrongCount\n[3] refused 32 WrongKind 1\n", refl, (codes "[2] refused 31 WrongCount\n", codes "[3] refused 32 WrongKind 1\n", refl, (codes "[3] refused 32 WrongKind 1\n", [], refl, refl, refl), refl), refl);
  none_taken = refl;
}

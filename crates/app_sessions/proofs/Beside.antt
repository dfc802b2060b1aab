-- A version that a statement names, beside the one over which it began.
use Rattle.std.proofs.Common.{◌≡◌, ◌∙◌, ℕ, ◌+◌, ◌<◌, ◌≤◌, Bool, true, false, ap, arith, nat_lt, refl}
use Rattle.std.specs.Prelude.{None, Option, Some, nat_le, if◌then◌else◌}
use Rattle.std.proofs.lemmas.Bool.Decides.{nat_tests}
use Rattle.app_result_text.specs.declared.version.VersionRefusal.{VersionRefusal}
use Rattle.app_result_text.specs.declared.version.VersionRefusal.TheVariants.{Gone, Unknown}
use Rattle.app_sessions.specs.Laws.{VersionsAsked}
use Rattle.app_sessions.specs.Versions.{refused_beside}

-- by the two tests
by_tests : (begun named : ℕ) (above below : Bool) → nat_lt begun named ≡ above → nat_le (named + 64) begun ≡ below
    → refused_beside begun named ≡ (if above then Some (Unknown named) else if below then Some (Gone named) else None)
by_tests begun named above below is was =
    ap (λ (b : Bool). if b then Some (Unknown named) else if nat_le (named + 64) begun then Some (Gone named) else None) is
    ∙ ap (λ (b : Bool). if above then Some (Unknown named) else if b then Some (Gone named) else None) was

-- it is not there yet
pub unknown_beside : (begun named : ℕ) → begun < named → refused_beside begun named ≡ Some (Unknown named)
unknown_beside begun named up =
    let above : nat_lt begun named ≡ true = grind (arith, nat_tests) in
    by_tests begun named true (nat_le (named + 64) begun) above refl

-- it lies 64 or more versions before
pub gone_beside : (begun named : ℕ) → named + 64 ≤ begun → refused_beside begun named ≡ Some (Gone named)
gone_beside begun named down =
    let above : nat_lt begun named ≡ false = grind (arith, nat_tests) in
    let below : nat_le (named + 64) begun ≡ true = grind (arith, nat_tests) in
    by_tests begun named false true above below

-- it can be asked
pub asked_beside : (begun named : ℕ) → named ≤ begun → begun < named + 64 → refused_beside begun named ≡ None
asked_beside begun named least most =
    let above : nat_lt begun named ≡ false = grind (arith, nat_tests) in
    let below : nat_le (named + 64) begun ≡ false = grind (arith, nat_tests) in
    by_tests begun named false false above below

none_back : (begun named : ℕ) (above below : Bool) → nat_lt begun named ≡ above → nat_le (named + 64) begun ≡ below
    → refused_beside begun named ≡ None → (named ≤ begun) × (begun < named + 64)
none_back begun named true below is was none = absurd (let some = by_tests begun named true below is was in cc)
none_back begun named false true is was none = absurd (let some = by_tests begun named false true is was in cc)
none_back begun named false false is was none = (grind (arith, nat_tests), grind (arith, nat_tests))

unknown_back : (begun named : ℕ) (above below : Bool) → nat_lt begun named ≡ above → nat_le (named + 64) begun ≡ below
    → refused_beside begun named ≡ Some (Unknown named) → begun < named
unknown_back begun named true below is was some = grind (arith, nat_tests)
unknown_back begun named false true is was some = absurd (let other = by_tests begun named false true is was in cc)
unknown_back begun named false false is was some = absurd (let none = by_tests begun named false false is was in cc)

gone_back : (begun named : ℕ) (above below : Bool) → nat_lt begun named ≡ above → nat_le (named + 64) begun ≡ below
    → refused_beside begun named ≡ Some (Gone named) → named + 64 ≤ begun
gone_back begun named true below is was some = absurd (let other = by_tests begun named true below is was in cc)
gone_back begun named false true is was some = grind (arith, nat_tests)
gone_back begun named false false is was some = absurd (let none = by_tests begun named false false is was in cc)

pub versions_asked : VersionsAsked
versions_asked = record {
  asked = λ begun named. (
    none_back begun named (nat_lt begun named) (nat_le (named + 64) begun) refl refl,
    λ both. asked_beside begun named both.0 both.1,
  );
  unknown = λ begun named. (
    unknown_back begun named (nat_lt begun named) (nat_le (named + 64) begun) refl refl,
    unknown_beside begun named,
  );
  gone = λ begun named. (
    gone_back begun named (nat_lt begun named) (nat_le (named + 64) begun) refl refl,
    gone_beside begun named,
  );
}

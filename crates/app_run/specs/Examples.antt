-- Some values of the definitions, worked out by hand.
use Rattle.std.specs.Prelude.{◌≡◌, ℕ, ℤ, pos, List, [], ◌∷◌, ◌++◌, Result, Err, Ok, codes, map, None, Some}
use Rattle.base_refusals.specs.declared.line.LineFault.TheVariants.{DuplicateKey}
use Rattle.base_value.specs.declared.value.Value.{Value}
use Rattle.base_value.specs.declared.value.Value.TheVariants as value
use Rattle.base_io.specs.Outside.{Folder}
use Rattle.base_schema.specs.State.{State}
use Rattle.app_sessions.specs.Counts.{counts_text}
use Rattle.store_gateway.specs.declared.message.SenderId.{SenderId}
use Rattle.store_gateway.specs.declared.message.SenderId.TheVariants.{First, Second}
use Rattle.store_state.specs.Refresh.{Change}
use Rattle.app_jobs.specs.Works.{JobWork}
use Rattle.app_jobs.specs.JobOrders.{IsJobOrder}
use Rattle.app_run.specs.SessionInputs.{AreInputs}
use Rattle.app_inputs.specs.Inputs.{BadInput, refusal_line, state_in}
use Rattle.app_inputs.specs.declared.input_error.InputFault.{InputFault}
use Rattle.app_inputs.specs.declared.input_error.InputFault.TheVariants as fault

-- a row of region
abbrev pub region_row : ℤ → List ℕ → List ℕ → List Value
region_row key name comment = value.Number 0 key ∷ value.Text name ∷ value.Text comment ∷ []

-- three rows, whose names stand in descending order
abbrev pub three_regions : List (List Value)
three_regions =
    region_row (pos 2) (codes "ASIA") [] ∷ region_row (pos 1) (codes "AMERICA") (codes "b")
    ∷ region_row (pos 0) (codes "AFRICA") (codes "a") ∷ []

-- a state of these regions and nothing else
abbrev pub regions_only : State
regions_only =
    record {
      region = three_regions;
      nation = [];
      part = [];
      supplier = [];
      partsupp = [];
      customer = [];
      orders = [];
      lineitem = [];
    }

-- a file of region without rows
abbrev pub no_region : List ℕ × List ℕ
no_region = (codes "d/region.tbl", [])

-- a file of nation whose second line has the key of its first
abbrev pub bad_nation : List ℕ × List ℕ
bad_nation = (codes "d/nation.tbl", codes "1|A|0|x|\n01|B|0|y|\n")

-- a table's file without rows
abbrev pub empty_table : List ℕ → List ℕ × List ℕ
empty_table name = (codes "d/" ++ name ++ codes ".tbl", [])

-- a file of region with the three regions above
abbrev pub good_region : List ℕ × List ℕ
good_region = (codes "d/region.tbl", codes "2|ASIA||\n1|AMERICA|b|\n0|AFRICA|a|\n")

-- eight files, of which only that of region has rows
abbrev pub good_folder : Folder
good_folder = good_region ∷ map empty_table (codes "nation" ∷ codes "part" ∷ codes "supplier"
    ∷ codes "partsupp" ∷ codes "customer" ∷ codes "orders" ∷ codes "lineitem" ∷ [])

-- the input of that name is refused
abbrev pub refused : {A : Type 0} → List ℕ → InputFault → Result A BadInput
refused name why = Err (record { name = name; fault = why })

-- the refusal of that file
abbrev pub bad_nation_line : BadInput
bad_nation_line =
    record {
      name = codes "d/nation.tbl";
      fault = fault.Line (record { line = 2; fault = DuplicateKey });
    }

-- a job of two refreshes beside its sessions, which these send
abbrev pub sent_both : SenderId → SenderId → Change → Change → JobWork
sent_both sender other one two = record {
  keeps = [];
  scripts = [];
  base = regions_only;
  list = one ∷ two ∷ [];
  before = 0;
  senders = sender ∷ other ∷ [];
  journal = None;
  kept = [];
}

-- what the definitions say of these
pub record Examples : Type 0 where
  -- the first refused input counts: the script comes before the tables, region before nation
  pub script_first : AreInputs (codes "d") (codes "s") [] (refused (codes "s") fault.Absent)
  pub region_first : state_in (codes "d") (bad_nation ∷ [])
      ≡ refused (codes "d/region.tbl") fault.Absent
  pub line_refused : state_in (codes "d") (bad_nation ∷ no_region ∷ [])
      ≡ refused (codes "d/nation.tbl") (fault.Line (record { line = 2; fault = DuplicateKey }))
  -- good inputs are accepted, with the rows of their files
  pub accepted : state_in (codes "d") good_folder ≡ Ok regions_only
  pub one_missing : state_in (codes "d") (good_region ∷ [])
      ≡ refused (codes "d/nation.tbl") fault.Absent
  -- and a refused one is printed with its name, and a bad line with its place
  pub absent_line : refusal_line (record { name = codes "d/region.tbl"; fault = fault.Absent })
      ≡ codes "input refused d/region.tbl absent\n"
  pub bad_line : refusal_line bad_nation_line
      ≡ codes "input refused d/nation.tbl line 2 7 DuplicateKey\n"
  -- each table's rows are counted, in the schema's order
  pub counted : counts_text regions_only
      ≡ codes "region rows 3\nnation rows 0\npart rows 0\nsupplier rows 0\npartsupp rows 0\ncustomer rows 0\norders rows 0\nlineitem rows 0\n"
  -- of two senders either one's refresh may come first
  pub first_comes : (one two : Change)
      → IsJobOrder (sent_both First Second one two) ((Some 1, one) ∷ (Some 2, two) ∷ [])
  pub second_comes : (one two : Change)
      → IsJobOrder (sent_both First Second one two) ((Some 2, two) ∷ (Some 1, one) ∷ [])
  -- of one sender each comes in its turn
  pub in_turn : (one two : Change)
      → IsJobOrder (sent_both First First one two) ((Some 1, two) ∷ (Some 1, one) ∷ []) → two ≡ one

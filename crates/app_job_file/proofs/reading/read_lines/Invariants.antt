use Rattle.std.proofs.Common.{◌≡◌, ◌+◌, ◌≤◌, length}
use Rattle.store_file_reader.specs.File.{cut_lines}
use Rattle.app_job_file.specs.Files.{IsWithin, no_parts, parts_of, with_lines}
use Rattle.app_job_file.proofs.reading.read_lines.Given as goal

abbrev pub invariant-reading : goal.invariant-reading
invariant-reading l =
    record {
      made : with_lines l.number (parts_of l.job) (cut_lines l.rest) ≡ with_lines 1 no_parts (cut_lines l.bytes);
      few : l.number + length l.rest ≤ length l.bytes + 1;
      within : IsWithin l.job;
    }

abbrev pub decreases-reading : goal.decreases-reading
decreases-reading l = length l.rest

-- A job's file, line by line.
use Rattle.std.proofs.Common.{◌≡◌, ◌∙◌, ℕ, ◌+◌, ◌<◌, ◌≤◌, List, [], ◌∷◌, ◌++◌, length, take, drop, sym, ap, subst, arith, Some, None}
use Rattle.std.specs.Prelude.{◌==◌, Ok, Err, Result}
use Rattle.std.specs.List.{position}
use Rattle.std.proofs.Math.Seq.{take-length}
use Rattle.std.proofs.lemmas.List.{drop_all}
use Rattle.store_file_reader.specs.File.{cut_lines}
use Rattle.store_file_reader.specs.Line.{line_text}
use Rattle.store_file_reader.proofs.LineCuts.{cut_lines-ended, cut_lines-rest, parts, unended_none}
use Rattle.app_job_file.specs.Files.{JobParts, after_line, refused_line, with_lines, with_text}
use Rattle.app_job_file.specs.declared.refusal.JobRefusal.{JobRefusal}
use Rattle.app_job_file.specs.declared.refusal.RefusedLine.{RefusedLine}

-- a text that has an LF begins with the line up to it
pub cut_first : (text : List ℕ) (end : ℕ) → position (λ byte. byte == 10) text ≡ Some end
    → cut_lines text ≡ take (end + 1) text ∷ cut_lines (drop (end + 1) text)
cut_first text end found =
    let p = parts text end found in
    ap cut_lines p.whole ∙ cut_lines-ended p.front (drop (end + 1) text) p.unended
    ∙ ap (λ l. l ∷ cut_lines (drop (end + 1) text)) (sym p.line)

-- a text without one is a line
pub cut_whole : (text : List ℕ) → 0 < length text → position (λ byte. byte == 10) text ≡ None
    → cut_lines text ≡ take (length text) text ∷ cut_lines (drop (length text) text)
cut_whole [] some none = absurd (omega arith)
cut_whole (b ∷ rest) some none =
    let text : List ℕ = b ∷ rest in
    cut_lines-rest b rest (unended_none text none)
    ∙ ap (λ l. l ∷ []) (sym (take-length text))
    ∙ ap (λ more. take (length text) text ∷ cut_lines more) (sym (drop_all (length text) text (let e : length text ≤ length text = omega arith in e)))

-- a line was read, and lines are left
pub read_on : (number : ℕ) (old new : JobParts) (text line rest : List ℕ) (whole : Result JobParts RefusedLine)
    → cut_lines text ≡ line ∷ cut_lines rest → with_text old number (line_text line) ≡ Ok new
    → with_lines number old (cut_lines text) ≡ whole → with_lines (number + 1) new (cut_lines rest) ≡ whole
read_on number old new text line rest whole cut made same =
    sym (ap (λ r. after_line number r (λ p. with_lines (number + 1) p (cut_lines rest))) made)
    ∙ sym (ap (with_lines number old) cut) ∙ same

-- a line was refused
pub read_refused : (number : ℕ) (old : JobParts) (text line rest : List ℕ) (whole : Result JobParts RefusedLine) (refused : RefusedLine)
    → cut_lines text ≡ line ∷ cut_lines rest → with_text old number (line_text line) ≡ Err refused.refusal → refused.line ≡ number
    → with_lines number old (cut_lines text) ≡ whole → whole ≡ Err refused
read_refused number old text line rest whole refused cut made at same =
    sym same ∙ ap (with_lines number old) cut
    ∙ ap (λ r. after_line number r (λ p. with_lines (number + 1) p (cut_lines rest))) made
    ∙ ap (λ n. Err (refused_line refused.refusal n)) (sym at)

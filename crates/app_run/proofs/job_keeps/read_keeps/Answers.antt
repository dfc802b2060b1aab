use Rattle.std.proofs.Common.{rules, ◌≡◌, ◌∙◌, ◌≤◌, arith, le_trans, length, map, slice_index_or, sym}
use Rattle.std.proofs.lemmas.List.{length-map}
use Rattle.std.proofs.lemmas.Result.{err_from_is_err_and}
use Rattle.app_job_file.specs.Files.{keep_parts}
use Rattle.app_jobs.specs.declared.sources.JobKeeps.{JobKeeps}
use Rattle.app_run.proofs.KeepScripts.{counted_on, keeps_more, keeps_read, keeps_refused}
use Rattle.app_run.proofs.job_keeps.read_keeps.Goals as goal

pub read_keep-requires-clause-same : goal.read_keep-requires-clause-same
read_keep-requires-clause-same g c = c.reading.invariant.count ∙ sym c.reading.invariant.plans

pub returns-in_err-read_keep-clause-input : goal.returns-in_err-read_keep-clause-input
returns-in_err-read_keep-clause-input g c =
    let keeps = c.args.keeps.now in
    let i = c.reading.keep-index in
    let same : slice_index_or keeps i c.keep-item.result ≡ c.keep-item.result = search rules in
    let p = err_from_is_err_and c.from_residual.result c.from_residual.ensures.1 in
    rw (p.1, p.2) (keeps_refused (λ (all : JobKeeps). all.views) (g.F.Files.held c.args.files.now) (g.F.Files.held c.reading.files) c.args.job.now keeps i c.keep-item.result c.reading.all.views c.reading.all.views _
    c.reading.invariant.held c.reading-test.true same c.reading.invariant.read c.in_err-read_keep.ensures.input)

pub reading-preserved : goal.reading-preserved
reading-preserved g c =
    let keeps = c.args.keeps.now in
    let i = c.reading.keep-index in
    let inv = c.reading.invariant in
    let before = c.reading.all.views in
    let after = c.read_keep.new.all.views in
    let e = c.in_ok-read_keep.ensures in
    let adds = e.input in
    let same : slice_index_or keeps i c.keep-item.result ≡ c.keep-item.result = search rules in
    let plans = e.plans in
    let had = inv.plans in
    record {
      read = keeps_more (g.F.Files.held c.args.files.now) (g.F.Files.held c.reading.files) c.args.job.now keeps i c.keep-item.result before after inv.held c.reading-test.true same inv.read adds;
      count = counted_on before after adds.0 i adds.1 inv.count;
      plans = omega (arith, plans, had);
      held = c.read_keep.ensures.files.held ∙ inv.held;
      faults = le_trans inv.faults c.read_keep.ensures.files.faults;
      misses = le_trans inv.misses c.read_keep.ensures.files.misses;
    }

pub returns-clause-input : goal.returns-clause-input
returns-clause-input g c =
    let keeps = c.args.keeps.now in
    let past : length (map keep_parts keeps) ≤ c.reading.keep-index = let l = length-map keeps keep_parts in let t = c.reading-test.false in omega (arith, l, t) in
    keeps_read (g.F.Files.held c.args.files.now) c.args.job.now (map keep_parts keeps) c.reading.keep-index c.reading.all.views past c.reading.invariant.read

-- How a job ends without a text.
use Rattle.store_snapshots.specs.declared.feed.FeedError.{FeedError}
use Rattle.store_snapshots.specs.declared.feed.FeedError.TheVariants as feed
use Rattle.app_sessions.specs.declared.job_error.JobError.{JobError}
use Rattle.app_sessions.specs.declared.job_error.JobError.TheVariants.{Failed, OutOfMemory}

-- a feed's error as the job's
abbrev pub error_by : FeedError → JobError
error_by feed.Failed = Failed
error_by feed.OutOfMemory = OutOfMemory

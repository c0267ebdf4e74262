-- Inner: what the two lent areas hold once means are written to them: one double for each instant, its frequency.
use Rattle.std.specs.Prelude.{ℕ, ◌≡◌, length, set}
use Rattle.checks.specs.declared.lent_areas.LentAreas.{LentAreas}
use Rattle.checks.specs.declared.recording.Recording.{Recording}
use Rattle.checks.specs.Areas.{SameAreas, Written}
use Rattle.samples.specs.Means.{Sample, recording, means}
use Rattle.samples.specs.Sums.{instants_of_means, frequencies_of_means}

-- a mean put at one place of both
pub record MeanPut (place : ℕ) (mean : Sample) (old new : LentAreas 1) : Type 0 where
  pub instants : new.instants.now ≡ set old.instants.now place mean.instant
  pub numbers : new.numbers.now ≡ set old.numbers.now place mean.frequency
  pub same : SameAreas 1 old new

-- the means of a recording at the fronts of both, and so many
pub record MeansWritten (r : Recording) (count : ℕ) (old new : LentAreas 1) : Type 0 where
  pub many : count ≡ length (means (recording r.instants.now r.frequencies.now))
  pub areas : Written 1 (instants_of_means r.instants.now r.frequencies.now) (frequencies_of_means r.instants.now r.frequencies.now) old new

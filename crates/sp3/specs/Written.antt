-- Inner: what the two lent areas hold once records are put in them: three doubles for each instant, its position.
use Rattle.std.specs.Prelude.{ℕ, ◌≡◌, ◌*◌, List}
use Rattle.checks.specs.Limits.{axes}
use Rattle.checks.specs.declared.lent_areas.LentAreas.{LentAreas}
use Rattle.checks.specs.Areas.{SameAreas}
use Rattle.sp3.specs.Records.{Kept, instants_of, positions_of}
use Rattle.sp3.specs.Walks.{put_at}

-- some records put behind so many in both
pub record RecordsPut (place : ℕ) (records : List Kept) (old new : LentAreas axes) : Type 0 where
  pub instants : new.instants.now ≡ put_at place (instants_of records) old.instants.now
  pub numbers : new.numbers.now ≡ put_at (axes * place) (positions_of records) old.numbers.now
  pub same : SameAreas axes old new

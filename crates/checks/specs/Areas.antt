-- Inner: two lent areas: the room in them, and what they hold once values are written to them. They stay the same areas, which their ghost names say.
use Rattle.std.specs.Prelude.{ℕ, ◌≡◌, ◌*◌, ◌≤◌, List, ℤ, Float, length}
use Rattle.common.specs.Outcome.{written}
use Rattle.checks.specs.declared.lent_areas.LentAreas.{LentAreas}

-- room for so many instants, each with its doubles
pub record Room (width count : ℕ) (areas : LentAreas width) : Type 0 where
  pub instants : count ≤ length areas.instants.now
  pub numbers : width * count ≤ length areas.numbers.now

-- the same two areas
pub record SameAreas (width : ℕ) (old new : LentAreas width) : Type 0 where
  pub instants : new.instants.ghost_name ≡ old.instants.ghost_name
  pub numbers : new.numbers.ghost_name ≡ old.numbers.ghost_name

-- some instants and their doubles at the fronts of both, the rest of each as it was
pub record Written (width : ℕ) (ts : List ℤ) (ns : List Float) (old new : LentAreas width) : Type 0 where
  pub instants : new.instants.now ≡ written ts old.instants.now
  pub numbers : new.numbers.now ≡ written ns old.numbers.now
  pub same : SameAreas width old new

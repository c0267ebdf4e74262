-- The refusals by their numbers, and an entry's result as the papers have it.
use Rattle.std.specs.Prelude.{ℕ, Result, Ok, Err}
use Rattle.common.specs.declared.refusal.Refusal.{Refusal}
use Rattle.common.specs.declared.refusal.Refusal.TheVariants.{Coordinates, Samples, Areas, Instants, Order, Places, Frequencies, Singular}
use Rattle.common.specs.declared.refusal.Refusal.TheVariants.{NoFall, NoShift, Undescribed, TimeSystem, Records, Entries, NotFinite, Tolerance}
use Rattle.common.specs.Outcome.{Outcome, refused, answered}

-- the papers' number of each
abbrev pub number_of : Refusal → ℕ
number_of Coordinates = 1
number_of Samples = 2
number_of Areas = 3
number_of Instants = 4
number_of Order = 5
number_of Places = 6
number_of Frequencies = 7
number_of Singular = 8
number_of NoFall = 9
number_of NoShift = 10
number_of Undescribed = 11
number_of TimeSystem = 12
number_of Records = 13
number_of Entries = 14
number_of NotFinite = 15
number_of Tolerance = 16

-- the number of a result's refusal, 0 where there is an answer
abbrev pub refusal_of : {A : Type 0} → Result A Refusal → ℕ
refusal_of (Ok a) = 0
refusal_of (Err r) = number_of r

-- the paper's number or value of a result: its answer by f, as a unit's number
abbrev pub told : {A B : Type 0} → (A → B) → Result A Refusal → Outcome B
told f (Ok a) = answered (f a)
told f (Err r) = refused (number_of r)

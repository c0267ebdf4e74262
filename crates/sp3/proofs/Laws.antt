-- The laws of the reader. The records that are kept are exactly the positions of the satellite's P lines that are not three zeros, in the file's
-- order, whatever the epochs; each has the instant of the last epoch line before it; an answer is given only under UTC or GPS and where nothing is
-- faulty; a refusal leaves both areas; each coordinate is +0 or the double nearest its decimal. Assumes nothing.
use mathlib.Core.Path.{◌≡◌, refl, sym, ap, ◌∙◌}
use mathlib.Core.Bool.{Bool, true, false, cond, not, ◌&&◌, ◌||◌, true≢false, or-true}
use mathlib.Core.Logic.{◌⊎◌, inl, inr}
use mathlib.Core.List.{List, [], ◌∷◌, ◌++◌, map, map-append, append_assoc}
use Prim.Native.Nat.{ℕ, suc, ◌-◌, ◌<◌}
use native.Mathlib.Omega.{arith}
use lib.Dec.{eqb, ltb}
use lib.IntN.{ℤ, pos}
use lib.ListN.{length, get_or, drop, length-map}
use lib.Ieee.{Float}
use borrow.Author.Tests.{eqb-true, not-false}
use Rattle.common.specs.Outcome.{area}
use Rattle.common.specs.Text.{text}
use Rattle.units.specs.declared.LeapSeconds.{LeapSeconds}
use Rattle.units.specs.declared.Position.{Position}
use Rattle.checks.specs.Checks.{any}
use Rattle.checks.specs.Entries.{first_failing}
use Rattle.decimal.specs.declared.reading.Number.{Number}
use Rattle.std.proofs.Common.{Option, None, Some, Result, Ok, Err}
use Rattle.calendar.specs.declared.gregorian.Calendar.{Calendar}
use Rattle.calendar.specs.declared.instants.InstantError.{InstantError}
use Rattle.units.specs.declared.Nanoseconds.{Nanoseconds}
use Rattle.calendar.specs.Gregorian.{real}
use Rattle.calendar.specs.Instants.{instant_of}
use Rattle.sp3.specs.declared.line.Line.{Line}
use Rattle.sp3.specs.declared.line.Line.TheVariants.{Epoch, Located, Absent, Wrong, PassedOver}
use Rattle.sp3.specs.declared.header.TimeSystem.{TimeSystem}
use Rattle.sp3.specs.declared.header.TimeSystem.TheVariants.{Less, Other, Missing}
use Rattle.sp3.specs.Lines.{lines, begins}
use Rattle.sp3.specs.Header.{beginnings, header_lines, headed, system_line, system_first, system_last, no_leaps, system_of}
use Rattle.sp3.specs.Columns.{year_in, month_in, day_in, hour_in, minute_in, second_in, x_in, y_in, z_in, numbered, coordinate_end, absent, metres_of, position_by, position_in, calendar_of, epoch_at, epoch_without_instant, epoch_under, epoch_in, line_of}
use Rattle.sp3.specs.Records.{Kept, body, is_wrong, is_epoch, untimed, faulty, instant_after, kept_of, kept, instants_of, positions_of}
use Rattle.sp3.specs.Entries.{said, is_missing, is_other, undescribed, unfit, sp3_refusal, sp3_instants, sp3_positions, records_of}
use Rattle.sp3.specs.Rules.{positions_by, positions_in, satellite_positions, last_instant, records_after, Valued}
use Rattle.sp3.proofs.Said.{by_tests}
use Rattle.sp3.proofs.Values.{coordinate_small, metres_zero, metres_other, metres_nearest}

-- ---- which are kept, and in which order

-- the position of a record
abbrev position : Kept → Position
position k = k.position

of_fields : (f g h : Option Number) (t : ℤ) → map position (kept_of (position_by f g h) t) ≡ positions_by f g h
of_fields None g h t = refl
of_fields (Some nx) None h t = refl
of_fields (Some nx) (Some ny) None t = refl
of_fields (Some nx) (Some ny) (Some nz) t = go (absent nx ny nz)
  where
    p : Position
    p = record { x = metres_of nx; y = metres_of ny; z = metres_of nz }

    go : (b : Bool) → map position (kept_of (cond b Absent (Located p)) t) ≡ cond b [] (p ∷ [])
    go true = refl
    go false = refl

-- an epoch line has none
abbrev NoRecord : ℤ → Line → Type 0
NoRecord t l = kept_of l t ≡ []

of_instant : (i : Result Nanoseconds InstantError) (t : ℤ) → NoRecord t (epoch_at i)
of_instant (Ok u) t = refl
of_instant (Err e) t = refl

of_real : (c : Calendar) (t : ℤ) → NoRecord t (epoch_without_instant c)
of_real c t = go (real c)
  where
    go : (b : Bool) → NoRecord t (cond b (Epoch (record { 0 = pos 0 })) Wrong)
    go true = refl
    go false = refl

of_calendar : (sys : TimeSystem) (c : Calendar) (t : ℤ) → NoRecord t (epoch_under sys c)
of_calendar (Less leaps) c t = of_instant (instant_of c leaps.0) t
of_calendar Other c t = of_real c t
of_calendar Missing c t = of_real c t

of_number : (f : Option Number) (g : Number → Line) (t : ℤ) → ((n : Number) → NoRecord t (g n)) → NoRecord t (numbered f g)
of_number (Some n) g t h = h n
of_number None g t h = refl

of_epoch : (sys : TimeSystem) (l : List ℕ) (t : ℤ) → NoRecord t (epoch_in sys l)
unfolding epoch_in
of_epoch sys l t =
    of_number (year_in l) _ t (λ a. of_number (month_in l) _ t (λ b. of_number (day_in l) _ t (λ c. of_number (hour_in l) _ t (λ d. of_number (minute_in l) _ t (λ e. of_number (second_in l) _ t (λ f.
    of_calendar sys (calendar_of a b c d e f) t))))))

of_line : (sys : TimeSystem) (sat l : List ℕ) (t : ℤ) → map position (kept_of (line_of sys sat l) t) ≡ positions_in sat l
unfolding line_of begins position_in
of_line sys sat [] t = refl
of_line sys sat (b ∷ l) t = go (eqb b 42) (eqb b 80) (begins sat l) refl refl
  where
    go : (u v w : Bool) → eqb b 42 ≡ u → eqb b 80 ≡ v
        → map position (kept_of (cond (u && true) (epoch_in sys (b ∷ l)) (cond (v && w) (position_in (b ∷ l)) PassedOver)) t) ≡ cond (v && w) (positions_by (x_in (b ∷ l)) (y_in (b ∷ l)) (z_in (b ∷ l))) []
    go true true w e f = absurd (let p = eqb-true b 42 e in let q = eqb-true b 80 f in omega arith)
    go true false w e f = ap (map position) (of_epoch sys (b ∷ l) t)
    go false true true e f = of_fields (x_in (b ∷ l)) (y_in (b ∷ l)) (z_in (b ∷ l)) t
    go false true false e f = refl
    go false false w e f = refl

kept-positions : (sys : TimeSystem) (sat : List ℕ) (ls : List (List ℕ)) (t : ℤ) → map position (kept t (map (line_of sys sat) ls)) ≡ satellite_positions sat ls
unfolding kept satellite_positions
kept-positions sys sat [] t = refl
kept-positions sys sat (l ∷ ls) t =
    let k = line_of sys sat l in
    map-append position (kept_of k t) (kept (instant_after k t) (map (line_of sys sat) ls))
    ∙ ap (λ (P : List Position). P ++ map position (kept (instant_after k t) (map (line_of sys sat) ls))) (of_line sys sat l t)
    ∙ ap (λ (P : List Position). positions_in sat l ++ P) (kept-positions sys sat ls (instant_after k t))

-- of a file: the lines behind the header, up to EOF
pub file-positions : (bs sat : List ℕ) (leaps : LeapSeconds) → map position (records_of bs sat leaps) ≡ satellite_positions sat (body (drop header_lines (lines bs)))
file-positions bs sat leaps = kept-positions (system_of leaps (lines bs)) sat (body (drop header_lines (lines bs))) (pos 0)

pub file-count : (bs sat : List ℕ) (leaps : LeapSeconds) → length (records_of bs sat leaps) ≡ length (satellite_positions sat (body (drop header_lines (lines bs))))
file-count bs sat leaps = sym (length-map (records_of bs sat leaps) position) ∙ ap length (file-positions bs sat leaps)

-- ---- at which instant: that of the last epoch line before it

kept_append : (A B : List Line) (t : ℤ) → kept t (A ++ B) ≡ kept t A ++ kept (last_instant t A) B
unfolding kept last_instant
kept_append [] B t = refl
kept_append (l ∷ A) B t = ap (λ (K : List Kept). kept_of l t ++ K) (kept_append A B (instant_after l t)) ∙ sym (append_assoc (kept_of l t) (kept (instant_after l t) A) (kept (last_instant (instant_after l t) A) B))

last_more : (A : List Line) (l : Line) (t : ℤ) → last_instant t (A ++ (l ∷ [])) ≡ instant_after l (last_instant t A)
unfolding last_instant
last_more [] l t = refl
last_more (k ∷ A) l t = last_more A l (instant_after k t)

kept-after : (A B : List Line) → kept (last_instant (pos 0) A) B ≡ records_after A B
unfolding kept records_after
kept-after A [] = refl
kept-after A (l ∷ B) = ap (λ (K : List Kept). kept_of l (last_instant (pos 0) A) ++ K) (ap (λ (t : ℤ). kept t B) (sym (last_more A l (pos 0))) ∙ kept-after (A ++ (l ∷ [])) B)

-- of a file
pub file-instants : (bs sat : List ℕ) (leaps : LeapSeconds) → records_of bs sat leaps ≡ records_after [] (said (system_of leaps (lines bs)) sat (lines bs))
unfolding last_instant
file-instants bs sat leaps = kept-after [] (said (system_of leaps (lines bs)) sat (lines bs))

pub kept_here : (A B : List Line) (p : Position) (t : ℤ) → kept t (A ++ Located p ∷ B) ≡ kept t A ++ record { instant = last_instant t A; position = p } ∷ kept (last_instant t A) B
unfolding kept
kept_here A B p t = kept_append A (Located p ∷ B) t

pub last_epoch : (A B : List Line) (t u : ℤ) → any is_epoch B ≡ false → last_instant t (A ++ Epoch (record { 0 = u }) ∷ B) ≡ u
unfolding last_instant
last_epoch [] B t u h = none B u h
  where
    none : (B : List Line) (u : ℤ) → any is_epoch B ≡ false → last_instant u B ≡ u
    none [] u h = refl
    none (Epoch v ∷ B) u h = absurd (true≢false h)
    none (Located p ∷ B) u h = none B u h
    none (Absent ∷ B) u h = none B u h
    none (Wrong ∷ B) u h = none B u h
    none (PassedOver ∷ B) u h = none B u h
last_epoch (l ∷ A) B t u h = last_epoch A B (instant_after l t) u h

-- where nothing is faulty, the instant that is begun with is never that of a record
start_unseen : (S : List Line) (t u : ℤ) → faulty S ≡ false → kept t S ≡ kept u S
unfolding untimed kept
start_unseen [] t u h = refl
start_unseen (Epoch v ∷ S) t u h = refl
start_unseen (Located p ∷ S) t u h = absurd (true≢false (sym (or-true (any is_wrong S)) ∙ h))
start_unseen (Absent ∷ S) t u h = absurd (true≢false (sym (or-true (any is_wrong S)) ∙ h))
start_unseen (Wrong ∷ S) t u h = absurd (true≢false h)
start_unseen (PassedOver ∷ S) t u h = start_unseen S t u h

-- ---- an answer is given only under UTC or GPS, and where nothing is faulty; so 0 is then the instant of no record

none_of : (a b c : Bool) → a || b || c ≡ false → (a ≡ false) × (b ≡ false) × (c ≡ false)
none_of false false false h = (refl, refl, refl)
none_of true b c h = absurd (true≢false h)
none_of false true c h = absurd (true≢false h)
none_of false false true h = absurd (true≢false h)

none_fails : (a b c : Bool) → ◌≡◌ {A = ℕ} (cond a 11 (cond b 12 (cond c 13 0))) 0 → (a ≡ false) × (b ≡ false)
none_fails false false c h = (refl, refl)
none_fails true b c h = absurd (omega arith)
none_fails false true c h = absurd (omega arith)

module _ (bs sat : List ℕ) (leaps : LeapSeconds) (is : List ℤ) (ps : List Float) (h : sp3_refusal bs sat leaps is ps ≡ 0) where
  passed : (undescribed (system_of leaps (lines bs)) sat (lines bs) ≡ false) × (is_other (system_of leaps (lines bs)) ≡ false)
  unfolding first_failing
  passed = none_fails (undescribed (system_of leaps (lines bs)) sat (lines bs)) (is_other (system_of leaps (lines bs))) (unfit (length (records_of bs sat leaps)) is ps) h

  pub answered_faultless : (headed beginnings (lines bs) ≡ true) × (is_missing (system_of leaps (lines bs)) ≡ false) × (faulty (said (system_of leaps (lines bs)) sat (lines bs)) ≡ false)
  answered_faultless =
      let w = headed beginnings (lines bs) in
      let p = none_of (not w) (is_missing (system_of leaps (lines bs))) (faulty (said (system_of leaps (lines bs)) sat (lines bs))) passed.0 in
      (not-false w p.0, p.1, p.2)

  -- line 13's columns 10 to 12, and beyond
  abbrev named : List ℕ
  named = drop (system_first - 1) (get_or (lines bs) (system_line - 1) [])

  pub answered_system : ((begins (text "UTC") named ≡ true) × (system_of leaps (lines bs) ≡ Less no_leaps)) ⊎ ((begins (text "GPS") named ≡ true) × (system_of leaps (lines bs) ≡ Less leaps))
  answered_system = by (ltb (length l) system_last) (begins (text "UTC") named) (begins (text "GPS") named) refl refl (by_tests leaps l _ _ _ refl refl refl)
    where
      l : List ℕ
      l = get_or (lines bs) (system_line - 1) []

      by : (t u v : Bool) → begins (text "UTC") named ≡ u → begins (text "GPS") named ≡ v → system_of leaps (lines bs) ≡ cond t Missing (cond u (Less no_leaps) (cond v (Less leaps) Other))
          → ((begins (text "UTC") named ≡ true) × (system_of leaps (lines bs) ≡ Less no_leaps)) ⊎ ((begins (text "GPS") named ≡ true) × (system_of leaps (lines bs) ≡ Less leaps))
      by true u v e f g = absurd (true≢false (sym (ap is_missing g) ∙ answered_faultless.1))
      by false true v e f g = inl (e, g)
      by false false true e f g = inr (f, g)
      by false false false e f g = absurd (true≢false (sym (ap is_other g) ∙ passed.1))

  pub answered-instants : (t u : ℤ) → kept t (said (system_of leaps (lines bs)) sat (lines bs)) ≡ kept u (said (system_of leaps (lines bs)) sat (lines bs))
  answered-instants t u = start_unseen (said (system_of leaps (lines bs)) sat (lines bs)) t u answered_faultless.2

-- ---- a refusal writes nothing

pub refused-instants : (bs sat : List ℕ) (leaps : LeapSeconds) (is : List ℤ) (ps : List Float) (n : ℕ) → sp3_refusal bs sat leaps is ps ≡ suc n → sp3_instants bs sat leaps is ps ≡ is
refused-instants bs sat leaps is ps n e = ap (λ (m : ℕ). area m (instants_of (records_of bs sat leaps)) is) e

pub refused-positions : (bs sat : List ℕ) (leaps : LeapSeconds) (is : List ℤ) (ps : List Float) (n : ℕ) → sp3_refusal bs sat leaps is ps ≡ suc n → sp3_positions bs sat leaps is ps ≡ ps
refused-positions bs sat leaps is ps n e = ap (λ (m : ℕ). area m (positions_of (records_of bs sat leaps)) ps) e

-- ---- the values

valued : (n : Number) → n.digits < coordinate_end → Valued n
valued n h = record { small = h; zero = metres_zero n; rounded = metres_other n; nearest = metres_nearest n h }

pub x_value : (l : List ℕ) (n : Number) → x_in l ≡ Some n → Valued n
x_value l n e = valued n (coordinate_small 5 12 18 l n (omega arith) (omega arith) refl e)

pub y_value : (l : List ℕ) (n : Number) → y_in l ≡ Some n → Valued n
y_value l n e = valued n (coordinate_small 19 26 32 l n (omega arith) (omega arith) refl e)

pub z_value : (l : List ℕ) (n : Number) → z_in l ≡ Some n → Valued n
z_value l n e = valued n (coordinate_small 33 40 46 l n (omega arith) (omega arith) refl e)

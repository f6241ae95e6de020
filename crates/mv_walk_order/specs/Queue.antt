-- The pictures of one output layer set that wait, where a sequence has begun (C.5.2.4).
use Rattle.std.specs.Prelude.{◌≡◌, ◌<◌, ℕ, Bool, false, List, [], ◌∷◌, ◌++◌, length, map, Option, Some, None}
use Rattle.std.specs.Coded.{Coded, coded_option}
use Rattle.mv_history.specs.Order.{sorted}
use Rattle.mv_dpb.specs.declared.shown.Shown.{Shown}
use Rattle.mv_dpb.specs.declared.waits.Waits.{Waits}
use Rattle.mv_dpb.specs.Stored.{Stored}
use Rattle.mv_dpb.specs.Waits.{comes_first}
use Rattle.mv_dpb.specs.Waiting.{WaitingValue, may_leave, waiting_code}

abbrev pub queue_code : {P : Type 0} → Coded P → Coded (Option (WaitingValue P))
queue_code code = coded_option (waiting_code code)

-- a sequence has begun, and there is room for a picture more
abbrev pub HasRoom : {P : Type 0} → Option (WaitingValue P) → Type 0
HasRoom None = ⊥
HasRoom (Some w) = length w.pictures < w.room

-- a picture leaves
abbrev pub leaves : {P : Type 0} → Option (WaitingValue P) → Bool
leaves None = false
leaves (Some w) = may_leave w

-- the pictures that wait
abbrev pub pictures_in : {P : Type 0} → Option (WaitingValue P) → List (Stored Waits P)
pictures_in None = []
pictures_in (Some w) = w.pictures

-- ---- What was given and what waits

-- a picture of a sequence that is put out, with the number of its access unit
pub record Queued (P : Type 0) : Type 0 where
  pub shown : Shown
  pub au : ℕ
  pub picture : P

-- output order in a sequence (C.5.2.4)
abbrev pub is_first : {P : Type 0} → Queued P → Queued P → Bool
is_first a b = comes_first (record { shown = a.shown; au = a.au; begun = false }) (record { shown = b.shown; au = b.au; begun = false })

-- a picture that waits
abbrev pub queued_of : {P : Type 0} → Stored Waits P → Queued P
queued_of s = record { shown = s.told.shown; au = s.told.au; picture = s.picture }

-- of the pictures of a sequence that came, the latest first, these were given: with those that wait behind them they are all in
-- output order
abbrev pub IsInOrder : {P : Type 0} → Option (WaitingValue P) → List (Queued P) → List (Queued P) → Type 0
IsInOrder q gone came = gone ++ map queued_of (pictures_in q) ≡ sorted is_first came

-- a picture that is given is the next one
abbrev pub GivesNext : {P : Type 0} → Option (Shown × P) → Option (WaitingValue P) → List (Queued P) → List (Queued P) → Type 0
GivesNext None q gone came = IsInOrder q gone came
GivesNext (Some next) q gone came = (au : ℕ) × IsInOrder q (gone ++ record { shown = next.0; au = au; picture = next.1 } ∷ []) came

-- Judges: what is said against the units of a stream, each by the units before it, and against its end. Which
-- rules a judge tries, and whether it asks for an output layer set, is its own: nothing here knows a rule.
use Rattle.std.specs.Prelude.{ℕ, List, [], ◌∷◌, ◌++◌, length, Option, None}
use Rattle.std.specs.Option.{option_map, option_or}
use Rattle.mv_units.specs.Units.{NalUnit}
use Rattle.mv_judging.specs.declared.stop.Objection.{Objection}
use Rattle.mv_judging.specs.declared.stop.Stop.{Stop}

-- a judge is asked of a unit once it was taken whole and breaks no rule by which bytes are refused in the form in
-- which the stream comes
pub record Judge : Type 0 where
  -- what is said against a unit behind others, if something is
  pub late : List NalUnit → NalUnit → Option Objection
  -- what is said against the end of the input behind all units
  pub ending : List NalUnit → Option Objection

-- a stop at a unit that stands behind n others
abbrev pub stop_at : ℕ → ℕ → Objection → Stop
stop_at n place why = record { unit = n; byte = place; why = why }

-- the stop at the first of some units, which stand behind the units `before`, that a judge objects to
unfoldable pub judged_behind : Judge → List NalUnit → List NalUnit → Option Stop
judged_behind j before [] = None
judged_behind j before (u ∷ us) =
    option_or (option_map (stop_at (length before) u.place) (j.late before u)) (judged_behind j (before ++ u ∷ []) us)

-- the verdict of a judge on units: none where it accepts each of them
abbrev pub judged : Judge → List NalUnit → Option Stop
judged j us = judged_behind j [] us

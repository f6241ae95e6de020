-- Events: what becomes of a byte string that carries units, and what the bytes of it that were taken so far show
-- of that. An event is a stop, or none where the string is accepted.
use Rattle.std.specs.Prelude.{◌≡◌, ℕ, Bool, true, false, nat_lt, if◌then◌else◌, List, ◌++◌, length, take, Option, None, Some, ⊤}
use Rattle.std.specs.Option.{option_map, option_or}
use Rattle.mv_rules.specs.declared.refusal.Refusal.{Refusal}
use Rattle.mv_units.specs.Shown.{IsOneOf}
use Rattle.mv_judging.specs.declared.stop.Objection.{Objection}
use Rattle.mv_judging.specs.declared.stop.Stop.{Stop}
use Rattle.mv_judging.specs.Format.{Format}
use Rattle.mv_judging.specs.Judge.{Judge, judged, stop_at}

-- a refusal as a stop
abbrev pub refused_at : Refusal → Stop
refused_at r = record { unit = r.unit; byte = r.byte; why = Objection.Breaks r.rule }

-- an objection is by a rule
abbrev pub IsByRule : Objection → Type 0
IsByRule (Objection.Breaks rule) = ⊤
IsByRule (Objection.NoSuchSet asked count) = ⊥

-- what is said against the end of a byte string, behind its units and bytes
abbrev pub end_stop : Format → Judge → List ℕ → Option Stop
end_stop f j s = option_map (stop_at (length (f.whole true s)) (length s)) (j.ending (f.whole true s))

-- what the bytes taken show, where the end was read or not; where the form refuses them at a unit, that refusal,
-- or the objection to a unit before it; where it doesn't, the objection to the first unit taken whole that the
-- judge objects to, and where the end was read and there is none, that to the end; by law this is, where the end
-- wasn't read, what every byte string that begins with these bytes is stopped for
abbrev pub seen : Format → Judge → Bool → List ℕ → Option Stop
seen f j ended s = elim (f.shown ended s) [
  | Some r ↦ option_or (judged j (take r.unit (f.whole ended s))) (Some (refused_at r))
  | None ↦ option_or (judged j (f.whole ended s)) (if ended then end_stop f j s else None)
]

-- the event of a byte string
abbrev pub event : Format → Judge → List ℕ → Option Stop
event f j s = seen f j true s

-- bytes show an event where every byte string that begins with them has it, and nothing where they show none
abbrev pub ShowsBy : Format → Judge → List ℕ → Option Stop → Type 0
ShowsBy f j t e = (s : List ℕ) → event f j (t ++ s) ≡ e

abbrev pub ShowNothing : Format → Judge → List ℕ → Type 0
ShowNothing f j t = (e : Option Stop) → ¬ ShowsBy f j t e

-- a judge that never objects by a rule by which the form refuses bytes before their end is known: what is shown by
-- such a rule can't be what the end of the bytes gives
pub record IsLate (f : Format) (j : Judge) : Type 0 where
  pub late : (before : _) (u : _) (rule : _) → j.late before u ≡ Some (Objection.Breaks rule) → ¬ IsOneOf f.own rule
  pub ending : (us : _) (rule : _) → j.ending us ≡ Some (Objection.Breaks rule) → ¬ IsOneOf f.own rule

-- what the bytes that a source holds decide, where at most `limit` of them are taken
pub data Due : Type 0 where
  Accepts : Due
  Stops : Stop → Due
  Exceeds : Due

abbrev pub due_by : Option Stop → Due
due_by e = elim e [ None ↦ Accepts | Some stop ↦ Stops stop ]

-- the stop that the first `limit` of them show; where they show none, that there are more of them, and else
-- their event
abbrev pub due : Format → Judge → ℕ → List ℕ → Due
due f j limit held = elim (seen f j false (take limit held)) [
  | Some stop ↦ Stops stop
  | None ↦ if nat_lt limit (length held) then Exceeds else due_by (event f j held)
]

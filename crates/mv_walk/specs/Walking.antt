-- What a walker's calls answer (this project's profile).
use Rattle.std.specs.Prelude.{ℕ, ◌≡◌, true, false, List, [], ◌∷◌, ◌++◌, length, Some, None, Result, Ok, Err, ⊤}
use Rattle.mv_rules.specs.declared.rule.Rule.{Rule}
use Rattle.mv_rules.specs.declared.refusal.Refusal.{Refusal}
use Rattle.mv_judging.specs.declared.stop.Objection.{Objection}
use Rattle.mv_pictures.specs.Extract as extracts
use Rattle.mv_pictures.specs.History.{history_of}
use Rattle.mv_pictures.specs.Verdict.{no_picture}
use Rattle.mv_walk.specs.declared.ending.WalkError.{WalkError}
use Rattle.mv_walk.specs.declared.ending.WalkError.TheVariants.{Refused, NoSuchSet, View, Memory}
use Rattle.mv_walk.specs.declared.step.Step.{Step}
use Rattle.mv_walk.specs.declared.step.Totals.{Totals}
use Rattle.mv_walk_laws.specs.Streams.{objected}
use Rattle.mv_walk.specs.Told.{step_of}

-- the refusal of the unit with this number, which stands at this byte
abbrev pub refusal_at : ℕ → ℕ → Rule → Refusal
refusal_at unit byte rule = record { unit = unit; byte = byte; rule = rule }

-- each answer to a unit behind others, by what `stands` says of the walker behind it: it is accepted and told; or it is objected to, by
-- its least rule or for a set that is lacking; a fault of the viewer and want of memory say nothing of it
abbrev pub Walks : ℕ → List (List ℕ) → ℕ → List ℕ → (List (List ℕ) → Type 0) → Result Step WalkError → Type 0
Walks o us byte u stands (Ok step) = (objected o us u ≡ None) × stands (us ++ u ∷ []) × (step ≡ step_of o us u)
Walks o us byte u stands (Err (Refused refusal)) = (rule : Rule) × (objected o us u ≡ Some (Objection.Breaks rule)) × (refusal ≡ refusal_at (length us) byte rule)
Walks o us byte u stands (Err (NoSuchSet asked count)) = objected o us u ≡ Some (Objection.NoSuchSet asked count)
Walks o us byte u stands (Err View) = ⊤
Walks o us byte u stands (Err Memory) = ⊤

-- the totals of a stream
abbrev pub totals_of : List (List ℕ) → ℕ → Totals
totals_of us o =
    let t : extracts.Totals = extracts.totals us o in
    record { units = t.units; kept = t.kept; pictures = t.pictures; sequences = t.sequences; layers = t.layers; sets = t.sets }

-- each answer to the end behind units
abbrev pub Closes : ℕ → List (List ℕ) → ℕ → Result Totals WalkError → Type 0
Closes o us byte (Ok totals) = (no_picture (history_of us) ≡ false) × (totals ≡ totals_of us o)
Closes o us byte (Err (Refused refusal)) = (no_picture (history_of us) ≡ true) × (refusal ≡ refusal_at (length us) byte Rule.NoPicture)
Closes o us byte (Err (NoSuchSet asked count)) = ⊥
Closes o us byte (Err View) = ⊤
Closes o us byte (Err Memory) = ⊤

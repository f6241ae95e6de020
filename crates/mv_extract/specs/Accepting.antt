-- What a walker that rebuilds no pictures and shows none makes of one unit more, and of the end (this project's profile).
use Rattle.std.specs.Prelude.{ℕ, Bool, true, false, List, [], ◌∷◌, ◌++◌, ◌≡◌, Result, Ok, Err, None, Some}
use Rattle.mv_rules.specs.declared.rule.Rule.{Rule}
use Rattle.mv_judging.specs.declared.stop.Objection.{Objection}
use Rattle.mv_engine.specs.declared.error.Ending.{Ending}
use Rattle.mv_engine.specs.declared.error.Ending.TheVariants.{Objects, Fault}
use Rattle.mv_pictures.specs.History.{history_of}
use Rattle.mv_pictures.specs.Items.{stays}
use Rattle.mv_pictures.specs.Verdict.{no_picture}
use Rattle.mv_commuting.specs.OneMore.{fact_behind}
use Rattle.mv_walk.specs.declared.ending.WalkError.{WalkError}
use Rattle.mv_walk.specs.declared.ending.WalkError.TheVariants.{Refused, NoSuchSet, View, Memory}
use Rattle.mv_walk.specs.declared.step.Totals.{Totals}
use Rattle.mv_walk.specs.Walking.{totals_of}
use Rattle.mv_walk_laws.specs.Streams.{objected}
use Rattle.mv_extract.specs.declared.error.WorkFault.{WorkFault}
use Rattle.mv_extract.specs.declared.error.WorkFault.TheVariants.{Memory as Wants}

-- what the error of a walker is to a run: an objection, which the run itself places, or want of memory; nothing is shown, and
-- so nothing fails to be
abbrev pub ending_of : WalkError → Ending WorkFault
ending_of (Refused refusal) = Objects (Objection.Breaks refusal.rule)
ending_of (NoSuchSet asked count) = Objects (Objection.NoSuchSet asked count)
ending_of View = Fault Wants
ending_of Memory = Fault Wants

-- each answer to a unit behind others: it is accepted, and it is kept or not; or it is objected to; or memory was wanting
abbrev pub Accepts : ℕ → List (List ℕ) → List ℕ → (List (List ℕ) → Type 0) → Result Bool (Ending WorkFault) → Type 0
Accepts o us u stands (Ok kept) = (objected o us u ≡ None) × stands (us ++ u ∷ []) × (kept ≡ stays o (fact_behind us u).placed.item)
Accepts o us u stands (Err (Objects why)) = objected o us u ≡ Some why
Accepts o us u stands (Err (Fault fault)) = fault ≡ Wants

-- each answer to the end behind units
abbrev pub Ends : ℕ → List (List ℕ) → Result Totals (Ending WorkFault) → Type 0
Ends o us (Ok totals) = (no_picture (history_of us) ≡ false) × (totals ≡ totals_of us o)
Ends o us (Err (Objects why)) = (no_picture (history_of us) ≡ true) × (why ≡ Objection.Breaks Rule.NoPicture)
Ends o us (Err (Fault fault)) = fault ≡ Wants

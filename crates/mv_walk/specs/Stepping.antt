-- What is answered of a unit and of the end of a stream before units are counted (this project's profile).
use Rattle.std.specs.Prelude.{ℕ, ◌≡◌, ⊤, true, false, List, [], ◌∷◌, ◌++◌, length, Some, None, Result, Ok, Err}
use Rattle.std.specs.List.{filter}
use Rattle.mv_judging.specs.declared.stop.Objection.{Objection}
use Rattle.mv_rules.specs.declared.rule.Rule.{Rule}
use Rattle.mv_pictures.specs.Decoding.{decode}
use Rattle.mv_pictures.specs.Extract.{last_vps}
use Rattle.mv_pictures.specs.History.{history_of}
use Rattle.mv_pictures.specs.Judged.{begins}
use Rattle.mv_pictures.specs.Layers.{layers_at, sets_at}
use Rattle.mv_pictures.specs.Verdict.{no_picture}
use Rattle.mv_walk_laws.specs.Streams.{objected}
use Rattle.mv_walk.specs.Courses.{Stood}
use Rattle.mv_walk.specs.Told.{step_of}
use Rattle.mv_walk.specs.declared.course.Course.{Course}
use Rattle.mv_walk.specs.declared.ending.Stop.{Stop}
use Rattle.mv_walk.specs.declared.step.Step.{Step}
use Rattle.mv_walk.specs.declared.step.Totals.{Totals}

-- it is accepted and told, and what is kept stands for it too; or it is objected to, by its least rule or for a set that is lacking;
-- a fault of the viewer and want of memory say nothing of it
abbrev pub Steps : {R W P : Type 0} → ℕ → List (List ℕ) → List ℕ → Course R W P → Result Step Stop → Type 0
Steps o us u new (Ok step) = (objected o us u ≡ None) × Stood new (us ++ u ∷ []) × (step ≡ step_of o us u)
Steps o us u new (Err (Stop.Breaks rule)) = objected o us u ≡ Some (Objection.Breaks rule)
Steps o us u new (Err (Stop.Lacks asked count)) = objected o us u ≡ Some (Objection.NoSuchSet asked count)
Steps o us u new (Err Stop.View) = ⊤
Steps o us u new (Err Stop.Memory) = ⊤

-- the totals of a stream of which so many units were counted, and so many kept ones
abbrev pub counted_totals : List (List ℕ) → ℕ → ℕ → Totals
counted_totals us units kept = record {
  units = units;
  kept = kept;
  pictures = length (decode us);
  sequences = length (filter begins (history_of us));
  layers = length (layers_at (last_vps us));
  sets = length (sets_at (last_vps us));
}

-- a base picture was decoded, and the totals are told; or none was
abbrev pub Ends : List (List ℕ) → ℕ → ℕ → Result Totals Stop → Type 0
Ends us units kept (Ok totals) = (no_picture (history_of us) ≡ false) × (totals ≡ counted_totals us units kept)
Ends us units kept (Err (Stop.Breaks rule)) = (no_picture (history_of us) ≡ true) × (rule ≡ Rule.NoPicture)
Ends us units kept (Err (Stop.Lacks asked count)) = ⊥
Ends us units kept (Err Stop.View) = ⊤
Ends us units kept (Err Stop.Memory) = ⊤

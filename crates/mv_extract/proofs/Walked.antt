-- What a walker's answers are to a run.
use Rattle.std.proofs.Common.{◌≡◌, ℕ, List, Some, Ok, Err, refl, ap, sym, ◌∙◌, arith}
use Rattle.mv_io.specs.Faults.{Rose}
use Rattle.mv_rules.specs.declared.refusal.Refusal.{Refusal}
use Rattle.mv_judging.specs.declared.stop.Objection.{Objection}
use Rattle.mv_pictures.specs.Items.{stays}
use Rattle.mv_commuting.specs.OneMore.{fact_behind}
use Rattle.mv_walk.specs.Told.{step_of}
use Rattle.mv_walk.specs.Walking.{Closes, Walks}
use Rattle.mv_walk.specs.declared.ending.WalkError.{WalkError}
use Rattle.mv_walk.specs.declared.ending.WalkError.TheVariants.{Refused, NoSuchSet, View, Memory}
use Rattle.mv_walk.specs.declared.step.Step.{Step}
use Rattle.mv_extract.specs.Accepting.{Accepts, Ends, ending_of}

-- no count of faults rose that is always 0
pub never-rose : Rose 0 0 → ⊥
never-rose h = omega (arith, h)

kept_told : (o : ℕ) (us : List (List ℕ)) (u : List ℕ) → (step_of o us u).kept ≡ stays o (fact_behind us u).placed.item
unfolding step_of
kept_told o us u = refl

pub walked : (o : ℕ) (us : List (List ℕ)) (byte : ℕ) (u : List ℕ) (stands : List (List ℕ) → Type 0) (step : Step) → Walks o us byte u stands (Ok step) → Accepts o us u stands (Ok step.kept)
walked o us byte u stands step walks = (walks.0, walks.1, ap (λ (s : Step). s.kept) walks.2 ∙ kept_told o us u)

pub stopped : (o : ℕ) (us : List (List ℕ)) (byte : ℕ) (u : List ℕ) (stands : List (List ℕ) → Type 0) (error : WalkError) → Walks o us byte u stands (Err error) → Accepts o us u stands (Err (ending_of error))
stopped o us byte u stands (Refused refusal) walks =
    let same : refusal.rule ≡ walks.0 = ap (λ (r : Refusal). r.rule) walks.2 in
    walks.1 ∙ ap (λ r. Some (Objection.Breaks r)) (sym same)
stopped o us byte u stands (NoSuchSet asked count) walks = walks
stopped o us byte u stands View walks = refl
stopped o us byte u stands Memory walks = refl

pub ended : (o : ℕ) (us : List (List ℕ)) (byte : ℕ) (error : WalkError) → Closes o us byte (Err error) → Ends o us (Err (ending_of error))
ended o us byte (Refused refusal) closes = (closes.0, ap (λ (r : Refusal). Objection.Breaks r.rule) closes.1)
ended o us byte (NoSuchSet asked count) closes = absurd closes
ended o us byte View closes = refl
ended o us byte Memory closes = refl

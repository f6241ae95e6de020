-- When a walker may be asked.
use Rattle.std.proofs.Common.{◌≡◌, ℕ, List, [], ◌∷◌, ◌++◌, Option, None, Some, sym, ◌∙◌}
use Rattle.std.specs.Prelude.{Ok}
use Rattle.mv_walk.specs.Standing.{MayGo, Stands}
use Rattle.mv_walk.specs.Walking.{Walks}
use Rattle.mv_walk.specs.declared.ending.WalkError.{WalkError}
use Rattle.mv_walk.specs.declared.step.Step.{Step}
use Rattle.mv_walk.specs.declared.walker.Walker.{Walker}

-- it stands for units
pub stands-go : {R W P : Type 0} (w : Walker R W P) (us : List (List ℕ)) → Stands w us → MayGo w
stands-go w us s = λ on. record { units = us; behind = s.behind }

-- behind an accepted unit
pub walked-goes : {R W P : Type 0} (w : Walker R W P) (o : ℕ) (us : List (List ℕ)) (byte : ℕ) (u : List ℕ) (step : Step) → Walks o us byte u (Stands w) (Ok step) → MayGo w
walked-goes w o us byte u step h = stands-go w (us ++ u ∷ []) h.1

-- it failed: it answers the same error again
pub failed-goes : {R W P : Type 0} (w : Walker R W P) (error : WalkError) → w.failed ≡ Some error → MayGo w
failed-goes w error is = λ on. absurd (let e : Path (Option WalkError) (Some error) None = sym is ∙ on in cc)

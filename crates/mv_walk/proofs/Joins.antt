-- What is answered where a unit that is no slice segment doesn't join its access unit.
use Rattle.std.proofs.Common.{◌≡◌, ℕ, true, false, cond, List, reverse, None, Some, ap, sym}
use Rattle.std.specs.Prelude.{Result, Err}
use Rattle.mv_rules.specs.declared.rule.Rule.{Rule}
use Rattle.mv_units.specs.declared.head.UnitHead.{UnitHead}
use Rattle.mv_pictures.specs.Items.{is_known, is_picture, is_slice, items}
use Rattle.mv_au.specs.Tracker as tracker
use Rattle.mv_au.specs.Tracker.{IsTold}
use Rattle.mv_au.specs.declared.access_units.AuStep.{AuStep}
use Rattle.mv_walk_laws.specs.Streams.{item_behind}
use Rattle.mv_walk_laws.proofs.Steps.{answer-other}
use Rattle.mv_walk.specs.Decoders.{BreaksNothing}
use Rattle.mv_walk.specs.Taking.{Joins, Takes, step_behind}
use Rattle.mv_walk.specs.declared.course.Course.{Course}
use Rattle.mv_walk.specs.declared.ending.Stop.{Stop}
use Rattle.mv_walk.proofs.Joining.{no-refusal, told-no_slice}

-- the tracker refuses none
pub refused-never : (us : List (List ℕ)) (u : List ℕ) (h : UnitHead) (rule : Rule) → IsTold (item_behind us u) h None → Path (Result AuStep Rule) (Err rule) (tracker.answer (items (reverse us)) (item_behind us u)) → ⊥
refused-never us u h rule is answered =
    no-refusal (tracker.answer (items (reverse us)) (item_behind us u)) rule (step_behind us u) (sym answered) (answer-other us u (told-no_slice (item_behind us u) h is))

-- a fault of the viewer and want of memory say nothing
pub joins-err : {R W P : Type 0} (T : Type 0) (us : List (List ℕ)) (u : List ℕ) (old new : Course R W P) (stop : Stop) → BreaksNothing {T = T} (Err stop) → Joins us u old new (Err stop)
joins-err T us u old new (Stop.Breaks rule) h = absurd h
joins-err T us u old new (Stop.Lacks asked count) h = absurd h
joins-err T us u old new Stop.View h = tt
joins-err T us u old new Stop.Memory h = tt

pub takes-err : {R W P : Type 0} (o : ℕ) (us : List (List ℕ)) (u : List ℕ) (old mid new : Course R W P) (stop : Stop) → Joins us u old mid (Err stop) → Takes o us u new (Err stop)
takes-err o us u old mid new (Stop.Breaks rule) h = absurd h
takes-err o us u old mid new (Stop.Lacks asked count) h = absurd h
takes-err o us u old mid new Stop.View h = tt
takes-err o us u old mid new Stop.Memory h = tt

pub takes-memory : {R W P : Type 0} (o : ℕ) (us : List (List ℕ)) (u : List ℕ) (new : Course R W P) (stop : Stop) → stop ≡ Stop.Memory → Takes o us u new (Err stop)
takes-memory o us u new (Stop.Breaks rule) h = absurd (cc)
takes-memory o us u new (Stop.Lacks asked count) h = absurd (cc)
takes-memory o us u new Stop.View h = tt
takes-memory o us u new Stop.Memory h = tt

-- as the tracker is told of a unit
pub told-as : (us : List (List ℕ)) (u : List ℕ) (h : UnitHead) (known : is_known (item_behind us u) ≡ true) → (item_behind us u).head ≡ h → is_slice (item_behind us u) ≡ false → IsTold (item_behind us u) h None
told-as us u h known head none = record {
  known = known;
  head_is = sym head;
  first_is = sym (ap (λ b. cond b (Some (is_picture (item_behind us u))) None) none);
}

-- Pictures go on to leave in time with a slice segment more.
use Rattle.std.proofs.Common.{◌≡◌, ℕ, Bool, true, false, List, [], ◌∷◌, Option, Some, ap, ◌∙◌}
use Rattle.std.specs.List.{find}
use Rattle.std.specs.Option.{IfSome}
use Rattle.mv_dpb.specs.declared.shown.Shown.{Shown}
use Rattle.mv_dpb.specs.Waiting.{WaitingValue}
use Rattle.mv_pictures.specs.Facts.{Fact}
use Rattle.mv_pictures.specs.History.{judged}
use Rattle.mv_pictures.specs.Judged.{Judged, au, is_picture, layer}
use Rattle.mv_pictures.specs.Look.{look}
use Rattle.mv_pictures.specs.Output.{is_output, reorder}
use Rattle.mv_pictures.specs.Starts.{is_sequence_start}
use Rattle.mv_rebuild.specs.Parts.{Part}
use Rattle.mv_walk_laws.proofs.Behind.{plain-begins, plain-decoded}
use Rattle.mv_walk_order.specs.Queue.{pictures_in}
use Rattle.mv_walk_values.specs.InTime.{ShowsInTime}
use Rattle.mv_walk_values.specs.Orderly.{IsOrderly}
use Rattle.mv_walk_values.specs.Showing.{ShowsValues, in_order}
use Rattle.mv_walk_values.specs.Timely.{IsTimely}
use Rattle.mv_walk_values.proofs.Begun.{first_none}
use Rattle.mv_walk_values.proofs.Continued.{later_none, undecoded_calm}
use Rattle.mv_walk_values.proofs.FirstFacts.{begins_by}
use Rattle.mv_walk_values.proofs.InTime.{in_time_begun, in_time_kept, order_made, order_other}
use Rattle.mv_walk_values.proofs.Standing.{no_output}

-- a first segment that starts no sequence
pub first_in_time : {P : Type 0} (rebuild : List (Part P) → P) (o : ℕ) (past : List Judged) (p : Fact) (made : Bool) (whole unit : ℕ) (q : Option (WaitingValue P)) (shown : List (Shown × P)) → IsOrderly (judged past p ∷ past) → is_picture p ≡ true →
    is_sequence_start (look past p) p ≡ false → made ≡ is_output o (judged past p) → ShowsInTime rebuild o past false whole unit q shown → ShowsInTime rebuild o (judged past p ∷ past) made whole unit q shown
first_in_time rebuild o past p made whole unit q shown orderly new calm is in_time =
    in_time_kept rebuild o (judged past p) past false made whole unit q shown (ap (in_order o (judged past p ∷ past)) is ∙ order_made o (judged past p) past) (first_none o past p orderly new) (begins_by past p new ∙ calm) in_time

-- one of a picture that isn't decoded
pub skipped_in_time : {P : Type 0} (rebuild : List (Part P) → P) (o : ℕ) (past : List Judged) (p : Fact) (whole unit : ℕ) (q : Option (WaitingValue P)) (shown : List (Shown × P)) → IsOrderly (judged past p ∷ past) → is_picture p ≡ true →
    (judged past p).decoded ≡ false → ShowsInTime rebuild o past false whole unit q shown → ShowsInTime rebuild o (judged past p ∷ past) false whole unit q shown
skipped_in_time rebuild o past p whole unit q shown orderly new skipped in_time =
    in_time_kept rebuild o (judged past p) past false false whole unit q shown (order_other o (judged past p) past false (no_output o (judged past p) skipped)) (first_none o past p orderly new) (undecoded_calm past p skipped) in_time

-- one that starts a sequence, where none waits
pub start_in_time : {P : Type 0} (rebuild : List (Part P) → P) (o : ℕ) (past : List Judged) (p : Fact) (made : Bool) (whole unit : ℕ) (q new : Option (WaitingValue P)) (shown : List (Shown × P)) → IsOrderly (judged past p ∷ past) → IsTimely past →
    is_picture p ≡ true → is_sequence_start (look past p) p ≡ true → made ≡ is_output o (judged past p) → pictures_in q ≡ [] → pictures_in new ≡ [] → IfSome new (λ w. w.reorder ≡ reorder o (judged past p)) →
    ShowsValues rebuild o past false q shown → ShowsInTime rebuild o (judged past p ∷ past) made whole unit new shown
start_in_time rebuild o past p made whole unit q next shown orderly timely new start is none fresh number shows =
    in_time_begun rebuild o (judged past p) past false made whole unit q next shown timely (ap (in_order o (judged past p ∷ past)) is ∙ order_made o (judged past p) past) (first_none o past p orderly new) (begins_by past p new ∙ start)
    none fresh number shows

-- a later segment
pub later_in_time : {P : Type 0} (rebuild : List (Part P) → P) (o : ℕ) (past : List Judged) (p : Fact) (first : Judged) (made : Bool) (whole unit : ℕ) (q : Option (WaitingValue P)) (shown : List (Shown × P)) → IsOrderly (judged past p ∷ past) →
    is_picture p ≡ false → find (λ (d : Judged). is_picture d.fact) past ≡ Some first → layer p ≡ layer first.fact → au p ≡ au first.fact → made ≡ is_output o first →
    ShowsInTime rebuild o past made whole unit q shown → ShowsInTime rebuild o (judged past p ∷ past) made whole unit q shown
later_in_time rebuild o past p first made whole unit q shown orderly later latest same here is in_time =
    in_time_kept rebuild o (judged past p) past made made whole unit q shown (order_other o (judged past p) past made (no_output o (judged past p) (plain-decoded past p later))) (later_none o past p first made orderly latest same here is)
    (plain-begins past p later) in_time

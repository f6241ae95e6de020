-- What else holds of the pictures of a history, while no unit breaks a rule (C.5.2, F.8.3.1). Histories have the latest first.
use Rattle.std.specs.Prelude.{◌≡◌, ℕ, ◌<◌, true, false, All, List, length}
use Rattle.mv_history.specs.History.{Throughout}
use Rattle.mv_pictures.specs.History.{judged}
use Rattle.mv_pictures.specs.Judged.{Judged, au}
use Rattle.mv_pictures.specs.Layers.{sets_at}
use Rattle.mv_pictures.specs.Output.{count_of, is_late}

-- each unit is judged by those before it; the decoded pictures of an access unit have one count; and no picture is late for a set
-- of its sequence
pub record IsTimely (past : List Judged) : Type 0 where
  pub judgements : Throughout (λ before (d : Judged). d ≡ judged before d.fact) past
  pub one_count : Throughout (λ before (d : Judged). d.decoded ≡ true → All (λ (e : Judged). e.decoded ≡ true → au e.fact ≡ au d.fact → count_of e ≡ count_of d) before) past
  pub never_late : Throughout (λ before (d : Judged). (o : ℕ) → o < length (sets_at d.seq_vps) → is_late o before d ≡ false) past

-- What the pictures of a history are, while no unit breaks a rule (7.4.2.4.4, F.7.4.2.4.4). Histories have the latest first.
use Rattle.std.specs.Prelude.{◌≡◌, ◌<◌, ◌≤◌, true, All, List}
use Rattle.mv_history.specs.History.{Throughout}
use Rattle.mv_pictures.specs.Judged.{Judged, au, begins, is_picture, is_slice}
use Rattle.mv_commuting.specs.Kept.{IsEarlierPicture}

-- access units never fall, and those of the pictures of a layer rise; what is decoded is a picture; and before a base picture that
-- starts a sequence its access unit has no slice segment
pub record IsOrderly (past : List Judged) : Type 0 where
  pub numbers : Throughout (λ before (d : Judged). All (λ (e : Judged). au e.fact ≤ au d.fact) before) past
  pub rises : Throughout (λ before (d : Judged). is_picture d.fact ≡ true → All (IsEarlierPicture d) before) past
  pub pictures : All (λ (d : Judged). d.decoded ≡ true → is_picture d.fact ≡ true) past
  pub based : Throughout (λ before (d : Judged). begins d ≡ true → All (λ (e : Judged). is_slice e.fact ≡ true → au e.fact < au d.fact) before) past

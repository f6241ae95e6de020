-- How the pictures of the latest sequence leave, access unit by access unit (C.5.2.2, C.5.2.4). Histories have the latest first.
use Rattle.std.specs.Prelude.{◌≡◌, ℕ, ◌<◌, ◌≤◌, Bool, not, ◌&&◌, List, [], All, drop, length, map, take, Option, nat_eq, nat_lt, option_map}
use Rattle.std.specs.List.{filter, find, list_any}
use Rattle.std.specs.Option.{IfSome}
use Rattle.mv_syntax.specs.Words.{◌otherwise◌}
use Rattle.mv_dpb.specs.declared.shown.Shown.{Shown}
use Rattle.mv_dpb.specs.Waiting.{WaitingValue}
use Rattle.mv_pictures.specs.Judged.{Judged, au, begins, in_au}
use Rattle.mv_pictures.specs.Output.{distinct, outputs, reorder}
use Rattle.mv_rebuild.specs.Parts.{Part}
use Rattle.mv_walk_order.specs.Queue.{pictures_in}
use Rattle.mv_walk_values.specs.Showing.{ShowsValues, in_order, latest_sequence}

-- the reorder number of set o in the latest sequence, by the base picture that starts it
abbrev pub latest_reorder : ℕ → List Judged → ℕ
latest_reorder o past = option_map (reorder o) (find begins past) otherwise 0

-- the layers that set o puts out in the latest sequence
abbrev pub latest_outputs : ℕ → List Judged → List ℕ
latest_outputs o past = option_map (λ (r : Judged). outputs r.seq_vps o) (find begins past) otherwise []

-- how many access units pictures are of
abbrev pub units : List Judged → ℕ
units ds = length (distinct (map (λ (d : Judged). au d.fact) ds))

-- pictures of access units before one
abbrev pub before_unit : ℕ → List Judged → List Judged
before_unit unit ds = filter (λ (d : Judged). nat_lt (au d.fact) unit) ds

-- pictures of a sequence
abbrev pub of_sequence : ℕ → List Judged → List Judged
of_sequence number ds = filter (λ (d : Judged). nat_eq d.sequence number) ds

-- one of some pictures is of a picture's access unit
abbrev pub shares : List Judged → Judged → Bool
shares ds d = list_any (in_au (au d.fact)) ds

-- of those that wait the pictures of access units before one of which none was shown
abbrev pub whole_before : ℕ → List Judged → List Judged → List Judged
whole_before unit shown waiting = filter (λ (d : Judged). nat_lt (au d.fact) unit && not (shares shown d)) waiting

-- of the latest sequence, pictures of access units before one were shown; an access unit that waits has begun to leave where one of
-- its pictures was shown; and once one was shown, as many other access units before that one wait as may
pub record IsBumped {P : Type 0} (latest number unit : ℕ) (gone waiting : List Judged) (q : Option (WaitingValue P)) : Type 0 where
  pub earlier : All (λ (d : Judged). au d.fact < unit) (of_sequence latest gone)
  pub begun_are : map (λ s. s.told.begun) (pictures_in q) ≡ map (shares (of_sequence latest gone)) waiting
  pub enough : All (λ (d : Judged). number ≤ units (whole_before unit (of_sequence latest gone) waiting)) (of_sequence latest gone)
  pub reorder_is : IfSome q (λ w. w.reorder ≡ number)

-- what was shown and what waits are values in output order, where access units leave once more wait than may: of the latest
-- sequence none from `unit` on was shown, and of those before `whole` no more wait than may
pub record ShowsInTime {P : Type 0} (rebuild : List (Part P) → P) (o : ℕ) (past : List Judged) (made : Bool) (whole unit : ℕ) (q : Option (WaitingValue P)) (shown : List (Shown × P)) : Type 0 where
  pub shows : ShowsValues rebuild o past made q shown
  pub bumped : IsBumped (latest_sequence past) (latest_reorder o past) unit (take shows.left (in_order o past made)) (drop shows.left (in_order o past made)) q
  pub few : units (before_unit whole (drop shows.left (in_order o past made))) ≤ latest_reorder o past

-- What was shown and what waits are the values of the output pictures, in output order (C.5.2). Histories have the latest first.
use Rattle.std.specs.Prelude.{◌≡◌, ℕ, ◌-◌, Bool, List, All, drop, length, map, take, Option, if◌then◌else◌}
use Rattle.std.specs.List.{filter}
use Rattle.mv_history.specs.Order.{sorted}
use Rattle.mv_dpb.specs.declared.shown.Shown.{Shown}
use Rattle.mv_dpb.specs.Waiting.{WaitingValue}
use Rattle.mv_pictures.specs.Decoding.{decoded_of}
use Rattle.mv_pictures.specs.Judged.{Judged, au, begins}
use Rattle.mv_pictures.specs.Output.{is_before, is_output}
use Rattle.mv_rebuild.specs.Parts.{Part}
use Rattle.mv_rebuild.specs.Value.{shown_of, showings}
use Rattle.mv_walk_order.specs.Queue.{Queued, pictures_in, queued_of}
use Rattle.mv_walk_values.specs.Values.{value_of}

-- the output pictures of set o, the latest first, but the one in the making, if it is one: it is the latest
abbrev pub whole_outputs : ℕ → List Judged → Bool → List Judged
whole_outputs o past made = if made then drop 1 (filter (is_output o) past) else filter (is_output o) past

-- the same in output order
abbrev pub in_order : ℕ → List Judged → Bool → List Judged
in_order o past made = sorted is_before (whole_outputs o past made)

-- a picture as it waits
abbrev pub queued : {P : Type 0} → (List (Part P) → P) → List Judged → Judged → Queued P
queued rebuild past d = record { shown = shown_of (decoded_of past d); au = au d.fact; picture = value_of rebuild past d }

-- the number of the latest sequence
abbrev pub latest_sequence : List Judged → ℕ
latest_sequence past = length (filter begins past) - 1

-- of these, in output order, the first were shown, and all others wait, which are of the latest sequence
pub record ShowsValues {P : Type 0} (rebuild : List (Part P) → P) (o : ℕ) (past : List Judged) (made : Bool) (q : Option (WaitingValue P)) (shown : List (Shown × P)) : Type 0 where
  pub left : ℕ
  pub shown_are : shown ≡ showings rebuild (map (decoded_of past) (take left (in_order o past made)))
  pub waiting_are : map queued_of (pictures_in q) ≡ map (queued rebuild past) (drop left (in_order o past made))
  pub of_latest : All (λ (d : Judged). d.sequence ≡ latest_sequence past) (drop left (in_order o past made))

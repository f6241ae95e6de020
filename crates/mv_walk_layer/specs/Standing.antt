-- What a layer's pictures, as they are kept, stand for (8.3.1, 8.3.2). Histories have the latest first.
use Rattle.std.specs.Prelude.{◌≡◌, ◌<◌, ◌≤◌, ℕ, ℤ, true, false, ◌||◌, List, [], ◌∷◌, ◌++◌, All, length, Option, None, Some, is_some, option_and_then, option_map, Result, Ok, Err, if◌then◌else◌}
use Rattle.std.specs.List.{find}
use Rattle.mv_syntax.specs.Words.{◌otherwise◌}
use Rattle.mv_common.specs.declared.format.Format.{Format}
use Rattle.mv_rules.specs.declared.rule.Rule.{Rule}
use Rattle.mv_history.specs.History.{Throughout}
use Rattle.mv_dpb.specs.declared.held.Held.{Held as InBuffer}
use Rattle.mv_pictures.specs.Facts.{Fact}
use Rattle.mv_pictures.specs.Judged.{Judged, au, layer}
use Rattle.mv_pictures.specs.Look.{Look, in_sequence, look}
use Rattle.mv_pictures.specs.Counts.{anchor, base_count, count, may_anchor}
use Rattle.mv_pictures.specs.Held.{Held}
use Rattle.mv_pictures.specs.References.{payload_of}
use Rattle.mv_pictures.specs.PictureRules.{is_in_range, poc_mismatch, poc_range}
use Rattle.mv_commuting.specs.HeldOneMore.{held_of}
use Rattle.mv_rps.specs.declared.counts.PocAsk.{PocAsk}
use Rattle.mv_rps.specs.Standing.{asked_of, told}
use Rattle.mv_walk_layer.specs.LayerValue.{LayerValue, LatestValue, told_held}

-- ---- What is asked of a picture for its count

-- a count within 32 bits
abbrev pub within : Option ℤ → Option ℤ
within c = option_and_then (λ n. if is_in_range n then Some n else None) c

-- what is asked of a picture, with the count of its access unit's base picture where it is within 32 bits
abbrev pub asked_within : Look → Fact → PocAsk
asked_within l p =
    let a : PocAsk = asked_of l p in
    record { layer = a.layer; kind = a.kind; tid = a.tid; start = a.start; lsb = a.lsb; max_lsb = a.max_lsb; base = within (base_count l p) }

-- the count of a decoded picture, or the rule on counts that it breaks first
abbrev pub counted_or : Option Rule → Option ℤ → Result ℤ Rule
counted_or (Some rule) c = Err rule
counted_or None (Some c) = Ok c
counted_or None None = Err Rule.PocRange

abbrev pub broken : Look → Fact → Option Rule
broken l p = if poc_range l p then Some Rule.PocRange else if poc_mismatch l p then Some Rule.PocMismatch else None

abbrev pub answer : Look → Fact → Result ℤ Rule
answer l p = counted_or (broken l p) (count l p)

-- ---- The latest decoded picture

-- what is told of a picture: its access unit, the payload of its sequence parameter set, and its format
pub record Told : Type 0 where
  pub au : ℕ
  pub payload : List ℕ
  pub format : Option Format

abbrev pub told_of_kept : LatestValue → Told
told_of_kept l = record { au = l.au; payload = l.payload; format = Some l.format }

abbrev pub told_of_fact : Fact → Told
told_of_fact p = record { au = au p; payload = payload_of p.sets.sps; format = p.sets.format }

abbrev pub told_of : Judged → Told
told_of d = told_of_fact d.fact

-- the latest decoded picture of layer n in the sequence
abbrev pub latest_decoded : List Judged → ℕ → Option Judged
latest_decoded past n = find (λ (d : Judged). d.decoded) (in_sequence past n)

-- ---- What is held

-- what holds of what is held of a layer behind units that break no rule: each has a count within 32 bits, access units fall from
-- the latest on, and there are at most 16
pub record IsSound (held : List Held) : Type 0 where
  pub counted : All (λ (h : Held). (option_map is_in_range h.it.count otherwise false) ≡ true) held
  pub falls : Throughout (λ past (h : Held). All (λ (g : Held). au g.it.fact < au h.it.fact) past) held
  pub few : length held ≤ 16

-- the picture in the making, by its count and its access unit: it is held, and not yet in the buffer
abbrev pub in_making : Option (ℤ × ℕ) → List InBuffer
in_making None = []
in_making (Some (count, au)) = record { count = count; au = au; long = false } ∷ []

-- what is kept stands for layer n behind a history, with the picture that is in the making: the count of the anchor; the pictures
-- held, in decoding order; the latest decoded picture in the sequence
pub record Stands {P : Type 0} (l : LayerValue P) (past : List Judged) (n : ℕ) (making : Option (ℤ × ℕ)) : Type 0 where
  pub counts : (p : Fact) → layer p ≡ n → anchor (look past p) ≡ l.counts
  pub held : told (held_of past n) ≡ told_held l ++ in_making making
  pub latest : option_map told_of (latest_decoded past n) ≡ option_map told_of_kept l.latest
  pub sound : IsSound (held_of past n)

-- ---- What a step asks of the history

-- a unit is no anchor where it isn't decoded (8.3.1)
abbrev pub IsDecodedAnchor : Judged → Type 0
IsDecodedAnchor d = is_some d.count ≡ true → (d.start || may_anchor d.fact) ≡ true → d.decoded ≡ true

-- access units don't fall up to a unit
pub record IsInOrder (past : List Judged) (p : Fact) : Type 0 where
  pub rises : Throughout (λ before (d : Judged). All (λ (e : Judged). au e.fact ≤ au d.fact) before) past
  pub behind : All (λ (e : Judged). au e.fact ≤ au p) past

-- What the examples look at.
use Rattle.std.specs.Prelude.{ℕ, ℤ, List, [], ◌∷◌, map, reverse, Option, Some, if◌then◌else◌}
use Rattle.std.specs.List.{filter}
use Rattle.mv_units.specs.Framing.{frame}
use Rattle.mv_rules.specs.declared.rule.Rule.{Rule}
use Rattle.mv_judging.specs.declared.stop.Objection.{Objection}
use Rattle.mv_judging.specs.declared.stop.Stop.{Stop}
use Rattle.mv_pictures.specs.Terms.{Tag, Term, References, Segment, picture, none, refers}
use Rattle.mv_pictures.specs.Judged.{Judged, is_picture}
use Rattle.mv_pictures.specs.History.{history_of}
use Rattle.mv_pictures.specs.Decoding.{Decoded, decode, out}
use Rattle.mv_pictures.specs.Verdict.{event}

-- of a decoded picture the numbers of its sequence and its access unit, its layer, its view and its count
abbrev pub Shown : Type 0
Shown = ℕ × ℕ × ℕ × ℕ × ℤ

abbrev pub shown : Decoded → Shown
shown d = (d.sequence, d.au, d.layer, d.view, d.count)

abbrev pub decoded : List (List ℕ) → List Shown
decoded us = map shown (decode us)

abbrev pub put_out : List (List ℕ) → ℕ → List Shown
put_out us o = map shown (out us o)

-- of a decoded picture its references: the part, the layer and the count of each
abbrev pub in_parts : References → List (Tag × ℕ × ℤ)
in_parts none = []
in_parts (refers tag (picture start references segments) rest) = (tag, start.layer, start.count) ∷ in_parts rest

abbrev pub references_of : Term → List (Tag × ℕ × ℤ)
references_of (picture start references segments) = in_parts references

abbrev pub references : List (List ℕ) → List (List (Tag × ℕ × ℤ))
references us = map (λ (d : Decoded). references_of d.term) (decode us)

-- list 0, and list 1, of each of its segments
abbrev pub segments_of : Term → List Segment
segments_of (picture start references segments) = segments

abbrev pub lists0 : List (List ℕ) → List (List (List ℕ))
lists0 us = map (λ (d : Decoded). map (λ (s : Segment). s.lists.list0) (segments_of d.term)) (decode us)

abbrev pub lists1 : List (List ℕ) → List (List (List ℕ))
lists1 us = map (λ (d : Decoded). map (λ (s : Segment). s.lists.list1) (segments_of d.term)) (decode us)

-- the payload of its picture parameter set
abbrev pub pps_of : Term → List ℕ
pps_of (picture start references segments) = start.pps

abbrev pub pps_used : List (List ℕ) → List (List ℕ)
pps_used us = map (λ (d : Decoded). pps_of d.term) (decode us)

-- a start of its layer, a decoded picture that is none, and a skipped picture
pub data State : Type 0 where
  start : State
  decoded_picture : State
  skipped : State

abbrev pub state : Judged → State
state d = if d.start then start else (if d.decoded then decoded_picture else skipped)

-- of each picture its state and its count
abbrev pub states : List (List ℕ) → List (State × Option ℤ)
states us = reverse (map (λ (d : Judged). (state d, d.count)) (filter (λ (d : Judged). is_picture d.fact) (history_of us)))

-- what becomes of the byte stream of these units, where output layer set o is asked for
abbrev pub verdict : List (List ℕ) → ℕ → Option Stop
verdict us o = event o (frame us)

-- a stop by a rule at a unit, whose place is given; and one because the set that is asked for is lacking there
abbrev pub stopped : ℕ → ℕ → Rule → Option Stop
stopped unit byte rule = Some (record { unit = unit; byte = byte; why = Objection.Breaks rule })

abbrev pub no_set : ℕ → ℕ → ℕ → ℕ → Option Stop
no_set unit byte asked count = Some (record { unit = unit; byte = byte; why = Objection.NoSuchSet asked count })

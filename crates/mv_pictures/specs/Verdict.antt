-- The verdict on a stream: its units are judged by the rules of pictures, and by whether each video parameter set has the
-- output layer set that is asked for (this project's profile).
use Rattle.std.specs.Prelude.{ℕ, Bool, true, not, ◌&&◌, List, [], ◌∷◌, ◌++◌, map, length, Option, Some, None, is_none, option_map, nat_lt, if◌then◌else◌}
use Rattle.std.specs.List.{list_any}
use Rattle.std.specs.Option.{option_or}
use Rattle.mv_rules.specs.declared.rule.Rule.{Rule}
use Rattle.mv_units.specs.Units.{NalUnit}
use Rattle.mv_judging.specs.declared.stop.Objection.{Objection}
use Rattle.mv_judging.specs.declared.stop.Stop.{Stop}
use Rattle.mv_judging.specs.Event as streams
use Rattle.mv_judging.specs.Format.{byte_stream}
use Rattle.mv_judging.specs.Judge.{Judge}
use Rattle.mv_pictures.specs.Layers.{sets_at}
use Rattle.mv_pictures.specs.Items.{Item}
use Rattle.mv_pictures.specs.Judged.{Judged, of_layer}
use Rattle.mv_pictures.specs.History.{history_of}
use Rattle.mv_pictures.specs.UnitRules.{is_new_vps}
use Rattle.mv_pictures.specs.Rules.{least_rule}

-- a video parameter set, the first or a changed one, hasn't output layer set o: how many it has
abbrev pub lacks : ℕ → Item → Bool
lacks o i = is_new_vps i && not (nat_lt o (length (sets_at i.at)))

unfoldable pub lacking : ℕ → Item → Option Objection
lacking o i = if lacks o i then Some (Objection.NoSuchSet o (length (sets_at i.at))) else None

-- what is said against the latest unit of a history
unfoldable pub objection : ℕ → List Judged → Option Objection
objection o [] = None
objection o (d ∷ past) = option_or (option_map Objection.Breaks (least_rule past d)) (lacking o d.fact.placed.item)

-- NoPicture: no base picture was decoded
unfoldable pub no_picture : List Judged → Bool
no_picture all = not (list_any (λ (d : Judged). of_layer 0 d && d.decoded) all)

abbrev pub bytes_of : List NalUnit → List (List ℕ)
bytes_of us = map (λ (u : NalUnit). u.bytes) us

-- the judge of pictures, where output layer set o is asked for
unfoldable pub pictures : ℕ → Judge
pictures o = record {
  late = λ past u. objection o (history_of (bytes_of (past ++ u ∷ [])));
  ending = λ us. if no_picture (history_of (bytes_of us)) then Some (Objection.Breaks Rule.NoPicture) else None;
}

-- the event of a byte string
unfoldable pub event : ℕ → List ℕ → Option Stop
event o s = streams.event byte_stream (pictures o) s

-- ---- Units that are accepted, whatever set is asked for

-- each unit breaks no rule
unfoldable pub breaks_none : List Judged → Bool
breaks_none [] = true
breaks_none (d ∷ past) = is_none (least_rule past d) && breaks_none past

unfoldable pub is_accepted : List (List ℕ) → Bool
is_accepted us = breaks_none (history_of us) && not (no_picture (history_of us))

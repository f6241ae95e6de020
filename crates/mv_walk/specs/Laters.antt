-- A segment that isn't the first one of its picture (7.4.7.1, 8.3.4, F.8.3.4). Histories have the latest first.
use Rattle.std.specs.Prelude.{◌≤◌, ◌≡◌, ⊤, List, ◌∷◌, Option, Some, None, Result, Ok, Err}
use Rattle.std.specs.Option.{IfSome}
use Rattle.mv_units.specs.declared.head.UnitHead.{UnitHead}
use Rattle.mv_slice.specs.declared.slice.SliceHead.{SliceHead}
use Rattle.mv_vps.specs.Vps.{WholeVps}
use Rattle.mv_pictures.specs.AccessUnits.{Placed}
use Rattle.mv_pictures.specs.Counts.{count}
use Rattle.mv_pictures.specs.Facts.{fact}
use Rattle.mv_pictures.specs.History.{judged}
use Rattle.mv_pictures.specs.Judged.{Judged}
use Rattle.mv_tried.specs.Finer.{facts_in}
use Rattle.mv_reflists.specs.Sizes.{total}
use Rattle.mv_walk_segment.specs.Open as open_picture
use Rattle.mv_walk_segment.specs.Open.{HasNext, later_rule}
use Rattle.mv_walk_segment.specs.OpenValue.{OpenValue}
use Rattle.mv_walk_segment.specs.Serving.{IsServing}
use Rattle.mv_walk_segment.specs.Taken.{AreShort}
use Rattle.mv_walk_sets.specs.InForce.{VpsInForceValue}
use Rattle.mv_walk.specs.declared.decoder.Decoder.{Decoder}
use Rattle.mv_walk.specs.declared.ending.Stop.{Stop}
use Rattle.mv_walk.specs.Decoders.{DecoderStands}

-- the next unit can be a later segment of the open picture, with this header
abbrev pub CanAdd : WholeVps → Option OpenValue → UnitHead → SliceHead → Type 0
CanAdd vps None head header = ⊥
CanAdd vps (Some it) head header = HasNext vps it head header × IsServing vps it.head it.served × IfSome it.decoded (λ decoded. (total decoded.sizes ≤ 255) × AreShort decoded.lists)

-- it is, in a history
abbrev pub IsNextOf : WholeVps → Option OpenValue → UnitHead → SliceHead → List Judged → Placed → Type 0
IsNextOf vps None head header past q = ⊥
IsNextOf vps (Some it) head header past q = open_picture.IsNext vps it head header past q

-- it is accepted, or breaks a rule
abbrev pub TakesLater : {R W P : Type 0} → VpsInForceValue → List Judged → Placed → Decoder R W P → Result ⊤ Stop → Type 0
TakesLater vps past q new (Ok done) =
    (later_rule past (fact (facts_in past) q) ≡ None) × DecoderStands new (Some vps) (judged past (fact (facts_in past) q) ∷ past) q.au
TakesLater vps past q new (Err (Stop.Breaks rule)) = later_rule past (fact (facts_in past) q) ≡ Some rule
TakesLater vps past q new (Err (Stop.Lacks asked count)) = ⊥
TakesLater vps past q new (Err Stop.View) = ⊥
TakesLater vps past q new (Err Stop.Memory) = ⊤

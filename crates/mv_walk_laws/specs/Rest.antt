-- What is tried on slice segments behind the rules on their bytes, their sets and their access units (8.1.3, 8.3, C.5.2, F.8.3; the
-- rules are this project's profile). Histories have the latest first.
use Rattle.std.specs.Prelude.{List, [], ◌∷◌, ◌++◌, Option, if◌then◌else◌}
use Rattle.std.specs.Option.{option_or}
use Rattle.mv_rules.specs.declared.rule.Rule.{Rule}
use Rattle.mv_pictures.specs.Facts.{Fact}
use Rattle.mv_pictures.specs.History.{judged}
use Rattle.mv_pictures.specs.Judged.{Judged}
use Rattle.mv_pictures.specs.Look.{look}
use Rattle.mv_pictures.specs.PictureRules.{no_irap}
use Rattle.mv_pictures.specs.Rules.{case, output_cases}
use Rattle.mv_pictures.specs.Starts.{is_decoded}
use Rattle.mv_tried.specs.Decoded.{decoded_cases}
use Rattle.mv_tried.specs.Finer.{agreement_cases, facts_in, placed_in}
use Rattle.mv_tried.specs.Tried.{first_of, list_cases, mid_cases}

-- the first rule that the first segment of a picture breaks then: one of a picture that isn't decoded breaks only NoIrap or VpsMidCvs
abbrev pub picture_rule : List Judged → Fact → Option Rule
picture_rule past p =
    first_of (
    (if is_decoded (look past p) p then decoded_cases (look past p) p ++ output_cases past (judged past p) else case Rule.NoIrap (no_irap (look past p) p) ∷ [])
    ++ mid_cases (placed_in past) (look past p) p)

-- and a later one, by what it shares with the first one of its picture and by its lists
abbrev pub later_rule : List Judged → Fact → Option Rule
later_rule past p = option_or (first_of (agreement_cases (facts_in past) p)) (first_of (list_cases (look past p) p))

-- The cases that are tried on slice segments, by their parts.
use Rattle.std.specs.Prelude.{List, [], ◌∷◌, ◌++◌, map}
use Rattle.mv_rules.specs.declared.rule.Rule.{Rule}
use Rattle.mv_pictures.specs.AccessUnits.{Placed, layer_order, no_base, orphan_slice, tid_differs}
use Rattle.mv_pictures.specs.Facts.{Fact}
use Rattle.mv_pictures.specs.Judged.{Judged}
use Rattle.mv_pictures.specs.Rules.{Case, case}
use Rattle.mv_pictures.specs.SliceRules.{address_order, slice_differs}
use Rattle.mv_tried.specs.Tried.{first_cases, known_cases, later_cases, segment_cases}

-- the facts, and the units with their access units, of a history
abbrev pub facts_in : List Judged → List Fact
facts_in past = map (λ (e : Judged). e.fact) past

abbrev pub placed_in : List Judged → List Placed
placed_in past = map (λ (f : Fact). f.placed) (facts_in past)

-- on the first segment of a picture, before those of pictures
abbrev pub before_pictures : List Judged → Fact → List Case
before_pictures past p = (known_cases p.placed.item ++ segment_cases p) ++ first_cases (placed_in past) p

-- on a later one, before those of lists
abbrev pub before_lists : List Judged → Fact → List Case
before_lists past p = (known_cases p.placed.item ++ segment_cases p) ++ later_cases (facts_in past) p

-- ---- By what programs try together

-- on access units, tried on each unit
unfoldable pub access_unit_cases : List Placed → Placed → List Case
access_unit_cases earlier q =
    case Rule.NoBase (no_base earlier q)
    ∷ case Rule.LayerOrder (layer_order earlier q)
    ∷ case Rule.OrphanSlice (orphan_slice earlier q)
    ∷ case Rule.TidDiffers (tid_differs earlier q)
    ∷ []

-- on what later segments share with the first one of their picture
unfoldable pub agreement_cases : List Fact → Fact → List Case
agreement_cases past p = case Rule.SliceDiffers (slice_differs past p) ∷ case Rule.AddressOrder (address_order past p) ∷ []

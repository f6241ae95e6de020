-- What is said against the next unit, step by step as its rules are tried.
use Rattle.std.proofs.Common.{◌≡◌, ℕ, true, false, List, ◌++◌, Option, None, Some, ap, ◌∙◌}
use Rattle.std.specs.Option.{option_or}
use Rattle.std.proofs.lemmas.Bool.{and_parts}
use Rattle.mv_rules.specs.declared.rule.Rule.{Rule}
use Rattle.mv_judging.specs.declared.stop.Objection.{Objection}
use Rattle.mv_pictures.specs.History.{history_of}
use Rattle.mv_pictures.specs.Items.{Item, is_first_segment, is_known, is_picture, is_slice, is_vps}
use Rattle.mv_pictures.specs.Kinds.{is_pps_kind, is_slice_kind, is_sps_kind}
use Rattle.mv_pictures.specs.Rules.{item_cases, set_cases}
use Rattle.mv_pictures.specs.Verdict.{lacking}
use Rattle.mv_commuting.specs.OneMore.{fact_behind}
use Rattle.mv_tried.specs.Segments.{segment_rule}
use Rattle.mv_tried.specs.Tried.{first_of}
use Rattle.mv_tried.proofs.Roles.{picture_no_video, sequence_no_video, slice_no_video}
use Rattle.mv_au.specs.Tracker.{broken}
use Rattle.mv_walk_laws.specs.Rest.{later_rule, picture_rule}
use Rattle.mv_walk_laws.specs.Streams.{broken_behind, item_behind, objected, placed_behind, placed_units}
use Rattle.mv_walk_laws.proofs.ByKind.{first-breaks, lacks-none, later-breaks, passed-breaks, picture_set-breaks, sequence-breaks, stray-breaks, video-breaks}
use Rattle.mv_walk_laws.proofs.Sound.{broken-objected, unbroken-objected}

-- what is no video parameter set is refused by its least rule, or not at all
pub other-accepted : (o : ℕ) (us : List (List ℕ)) (u : List ℕ) → is_vps (item_behind us u) ≡ false → broken_behind us u ≡ None → objected o us u ≡ None
other-accepted o us u plain none = unbroken-objected o us u none ∙ lacks-none o (item_behind us u) plain

-- ---- Three answers in turn behind one that is None

abbrev in_turn : Option Rule → Option Rule → Option Rule → Option Rule → Option Rule
in_turn a b c d = option_or (option_or (option_or a b) c) d

turn-one : (a b c d : Option Rule) (r : Rule) → a ≡ None → b ≡ Some r → in_turn a b c d ≡ Some r
turn-one a b c d r ha hb = ap (λ x. in_turn x b c d) ha ∙ ap (λ x. in_turn None x c d) hb

turn-two : (a b c d : Option Rule) (r : Rule) → a ≡ None → b ≡ None → c ≡ Some r → in_turn a b c d ≡ Some r
turn-two a b c d r ha hb hc = ap (λ x. in_turn x b c d) ha ∙ ap (λ x. in_turn None x c d) hb ∙ ap (λ x. in_turn None None x d) hc

turn-three : (a b c d : Option Rule) → a ≡ None → b ≡ None → c ≡ None → in_turn a b c d ≡ d
turn-three a b c d ha hb hc = ap (λ x. in_turn x b c d) ha ∙ ap (λ x. in_turn None x c d) hb ∙ ap (λ x. in_turn None None x d) hc

-- ---- Slice segments

slice-plain : (i : Item) → is_slice i ≡ true → is_vps i ≡ false
slice-plain i slice = slice_no_video i (and_parts (is_known i) (is_slice_kind i.head.kind) slice).1

picture-slice : (i : Item) → is_picture i ≡ true → is_slice i ≡ true
picture-slice i picture = (and_parts (is_slice i) (is_first_segment i.opening) picture).0

pub first-segment : (o : ℕ) (us : List (List ℕ)) (u : List ℕ) (r : Rule) → is_picture (item_behind us u) ≡ true → first_of (item_cases (item_behind us u)) ≡ None →
    segment_rule (fact_behind us u) ≡ Some r → objected o us u ≡ Some (Objection.Breaks r)
first-segment o us u r picture item segment =
    broken-objected o us u r (first-breaks us u picture ∙ turn-one (first_of (item_cases (item_behind us u))) (segment_rule (fact_behind us u)) (broken (placed_units us) (placed_behind us u)) (picture_rule (history_of us) (fact_behind us u)) r item segment)

pub first-unit : (o : ℕ) (us : List (List ℕ)) (u : List ℕ) (r : Rule) → is_picture (item_behind us u) ≡ true → first_of (item_cases (item_behind us u)) ≡ None →
    segment_rule (fact_behind us u) ≡ None → broken (placed_units us) (placed_behind us u) ≡ Some r → objected o us u ≡ Some (Objection.Breaks r)
first-unit o us u r picture item segment unit =
    broken-objected o us u r (first-breaks us u picture ∙ turn-two (first_of (item_cases (item_behind us u))) (segment_rule (fact_behind us u)) (broken (placed_units us) (placed_behind us u)) (picture_rule (history_of us) (fact_behind us u)) r item segment unit)

pub first-rest : (us : List (List ℕ)) (u : List ℕ) → is_picture (item_behind us u) ≡ true → first_of (item_cases (item_behind us u)) ≡ None →
    segment_rule (fact_behind us u) ≡ None → broken (placed_units us) (placed_behind us u) ≡ None → broken_behind us u ≡ picture_rule (history_of us) (fact_behind us u)
first-rest us u picture item segment unit =
    first-breaks us u picture ∙ turn-three (first_of (item_cases (item_behind us u))) (segment_rule (fact_behind us u)) (broken (placed_units us) (placed_behind us u)) (picture_rule (history_of us) (fact_behind us u)) item segment unit

pub first-picture : (o : ℕ) (us : List (List ℕ)) (u : List ℕ) (r : Rule) → is_picture (item_behind us u) ≡ true → first_of (item_cases (item_behind us u)) ≡ None →
    segment_rule (fact_behind us u) ≡ None → broken (placed_units us) (placed_behind us u) ≡ None → picture_rule (history_of us) (fact_behind us u) ≡ Some r →
    objected o us u ≡ Some (Objection.Breaks r)
first-picture o us u r picture item segment unit rest = broken-objected o us u r (first-rest us u picture item segment unit ∙ rest)

pub first-accepted : (o : ℕ) (us : List (List ℕ)) (u : List ℕ) → is_picture (item_behind us u) ≡ true → first_of (item_cases (item_behind us u)) ≡ None →
    segment_rule (fact_behind us u) ≡ None → broken (placed_units us) (placed_behind us u) ≡ None → picture_rule (history_of us) (fact_behind us u) ≡ None → objected o us u ≡ None
first-accepted o us u picture item segment unit rest =
    other-accepted o us u (slice-plain (item_behind us u) (picture-slice (item_behind us u) picture)) (first-rest us u picture item segment unit ∙ rest)

pub later-segment : (o : ℕ) (us : List (List ℕ)) (u : List ℕ) (r : Rule) → is_slice (item_behind us u) ≡ true → is_picture (item_behind us u) ≡ false →
    first_of (item_cases (item_behind us u)) ≡ None → segment_rule (fact_behind us u) ≡ Some r → objected o us u ≡ Some (Objection.Breaks r)
later-segment o us u r slice none item segment =
    broken-objected o us u r (later-breaks us u slice none ∙ turn-one (first_of (item_cases (item_behind us u))) (segment_rule (fact_behind us u)) (broken (placed_units us) (placed_behind us u)) (later_rule (history_of us) (fact_behind us u)) r item segment)

pub later-unit : (o : ℕ) (us : List (List ℕ)) (u : List ℕ) (r : Rule) → is_slice (item_behind us u) ≡ true → is_picture (item_behind us u) ≡ false →
    first_of (item_cases (item_behind us u)) ≡ None → segment_rule (fact_behind us u) ≡ None → broken (placed_units us) (placed_behind us u) ≡ Some r → objected o us u ≡ Some (Objection.Breaks r)
later-unit o us u r slice none item segment unit =
    broken-objected o us u r (later-breaks us u slice none ∙ turn-two (first_of (item_cases (item_behind us u))) (segment_rule (fact_behind us u)) (broken (placed_units us) (placed_behind us u)) (later_rule (history_of us) (fact_behind us u)) r item segment unit)

pub later-rest : (us : List (List ℕ)) (u : List ℕ) → is_slice (item_behind us u) ≡ true → is_picture (item_behind us u) ≡ false → first_of (item_cases (item_behind us u)) ≡ None →
    segment_rule (fact_behind us u) ≡ None → broken (placed_units us) (placed_behind us u) ≡ None → broken_behind us u ≡ later_rule (history_of us) (fact_behind us u)
later-rest us u slice none item segment unit =
    later-breaks us u slice none ∙ turn-three (first_of (item_cases (item_behind us u))) (segment_rule (fact_behind us u)) (broken (placed_units us) (placed_behind us u)) (later_rule (history_of us) (fact_behind us u)) item segment unit

pub later-picture : (o : ℕ) (us : List (List ℕ)) (u : List ℕ) (r : Rule) → is_slice (item_behind us u) ≡ true → is_picture (item_behind us u) ≡ false →
    first_of (item_cases (item_behind us u)) ≡ None → segment_rule (fact_behind us u) ≡ None → broken (placed_units us) (placed_behind us u) ≡ None →
    later_rule (history_of us) (fact_behind us u) ≡ Some r → objected o us u ≡ Some (Objection.Breaks r)
later-picture o us u r slice none item segment unit rest = broken-objected o us u r (later-rest us u slice none item segment unit ∙ rest)

pub later-accepted : (o : ℕ) (us : List (List ℕ)) (u : List ℕ) → is_slice (item_behind us u) ≡ true → is_picture (item_behind us u) ≡ false →
    first_of (item_cases (item_behind us u)) ≡ None → segment_rule (fact_behind us u) ≡ None → broken (placed_units us) (placed_behind us u) ≡ None →
    later_rule (history_of us) (fact_behind us u) ≡ None → objected o us u ≡ None
later-accepted o us u slice none item segment unit rest = other-accepted o us u (slice-plain (item_behind us u) slice) (later-rest us u slice none item segment unit ∙ rest)

-- ---- Parameter sets

pub sequence-refused : (o : ℕ) (us : List (List ℕ)) (u : List ℕ) (r : Rule) → is_sps_kind (item_behind us u).head.kind ≡ true →
    first_of (item_cases (item_behind us u) ++ set_cases (fact_behind us u)) ≡ Some r → objected o us u ≡ Some (Objection.Breaks r)
sequence-refused o us u r is rule = broken-objected o us u r (sequence-breaks us u is ∙ rule)

pub sequence-accepted : (o : ℕ) (us : List (List ℕ)) (u : List ℕ) → is_sps_kind (item_behind us u).head.kind ≡ true →
    first_of (item_cases (item_behind us u) ++ set_cases (fact_behind us u)) ≡ None → objected o us u ≡ None
sequence-accepted o us u is rule = other-accepted o us u (sequence_no_video (item_behind us u) is) (sequence-breaks us u is ∙ rule)

pub picture_set-refused : (o : ℕ) (us : List (List ℕ)) (u : List ℕ) (r : Rule) → is_pps_kind (item_behind us u).head.kind ≡ true →
    first_of (item_cases (item_behind us u)) ≡ None → first_of (set_cases (fact_behind us u)) ≡ Some r → objected o us u ≡ Some (Objection.Breaks r)
picture_set-refused o us u r is item rule =
    broken-objected o us u r (picture_set-breaks us u is ∙ ap (λ x. option_or x (first_of (set_cases (fact_behind us u)))) item ∙ rule)

pub picture_set-accepted : (o : ℕ) (us : List (List ℕ)) (u : List ℕ) → is_pps_kind (item_behind us u).head.kind ≡ true →
    first_of (item_cases (item_behind us u)) ≡ None → first_of (set_cases (fact_behind us u)) ≡ None → objected o us u ≡ None
picture_set-accepted o us u is item rule =
    other-accepted o us u (picture_no_video (item_behind us u) is) (picture_set-breaks us u is ∙ ap (λ x. option_or x (first_of (set_cases (fact_behind us u)))) item ∙ rule)

pub video-refused : (o : ℕ) (us : List (List ℕ)) (u : List ℕ) (r : Rule) → is_vps (item_behind us u) ≡ true → first_of (item_cases (item_behind us u)) ≡ Some r →
    objected o us u ≡ Some (Objection.Breaks r)
video-refused o us u r is rule = broken-objected o us u r (video-breaks us u is ∙ rule)

pub video-lacking : (o : ℕ) (us : List (List ℕ)) (u : List ℕ) → is_vps (item_behind us u) ≡ true → first_of (item_cases (item_behind us u)) ≡ None →
    objected o us u ≡ lacking o (item_behind us u)
video-lacking o us u is rule = unbroken-objected o us u (video-breaks us u is ∙ rule)

-- ---- Units that are read no further than their head

pub stray-accepted : (o : ℕ) (us : List (List ℕ)) (u : List ℕ) → is_vps (item_behind us u) ≡ false → is_known (item_behind us u) ≡ false →
    first_of (item_cases (item_behind us u)) ≡ None → objected o us u ≡ None
stray-accepted o us u plain unknown rule = other-accepted o us u plain (stray-breaks us u plain unknown ∙ rule)

pub passed-accepted : (o : ℕ) (us : List (List ℕ)) (u : List ℕ) → is_vps (item_behind us u) ≡ false → is_slice_kind (item_behind us u).head.kind ≡ false →
    is_sps_kind (item_behind us u).head.kind ≡ false → is_pps_kind (item_behind us u).head.kind ≡ false → first_of (item_cases (item_behind us u)) ≡ None → objected o us u ≡ None
passed-accepted o us u plain no_slice no_sps no_pps rule = other-accepted o us u plain (passed-breaks us u plain no_slice no_sps no_pps ∙ rule)

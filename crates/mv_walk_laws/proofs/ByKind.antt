-- The least rule that the next unit breaks, by what it is.
use Rattle.std.proofs.Common.{◌≡◌, ℕ, Bool, true, false, cond, ◌&&◌, List, [], ◌∷◌, ◌++◌, map, Option, None, Some, refl, ap, sym, ◌∙◌, if◌then◌else◌}
use Rattle.std.specs.Prelude.{is_none, length, nat_lt, not, ◌||◌, option_map}
use Rattle.std.specs.List.{find}
use Rattle.std.specs.Option.{option_or}
use Rattle.std.proofs.lemmas.Bool.{and_parts}
use Rattle.mv_syntax.specs.Words.{◌otherwise◌}
use Rattle.mv_rules.specs.declared.rule.Rule.{Rule}
use Rattle.mv_units.specs.Rules.{bad_head}
use Rattle.mv_judging.specs.declared.stop.Objection.{Objection}
use Rattle.mv_pictures.specs.AccessUnits.{Placed, placed}
use Rattle.mv_pictures.specs.Facts.{Fact, fact}
use Rattle.mv_pictures.specs.History.{facts_of, history_of, judged, judgement}
use Rattle.mv_pictures.specs.Items.{Item, is_first_segment, is_known, is_picture, is_slice, is_vps, item, same_vps, turns}
use Rattle.mv_pictures.specs.Judged.{Judged}
use Rattle.mv_pictures.specs.Kinds.{is_pps_kind, is_slice_kind, is_sps_kind}
use Rattle.mv_pictures.specs.Layers.{sets_at}
use Rattle.mv_pictures.specs.Look.{Look, asked, look}
use Rattle.mv_pictures.specs.PictureRules.{no_irap}
use Rattle.mv_pictures.specs.Rules.{Case, case, cases, item_cases, least_rule, output_cases, picture_cases, set_cases, slice_cases}
use Rattle.mv_pictures.specs.Starts.{is_decoded}
use Rattle.mv_pictures.specs.UnitRules.{is_new_vps, no_vps, set_fails, set_is_cut, vps_rules, vps_tid}
use Rattle.mv_pictures.specs.Verdict.{lacking}
use Rattle.mv_commuting.specs.OneMore.{fact_behind}
use Rattle.mv_tried.specs.Decoded.{decoded_cases}
use Rattle.mv_tried.specs.Finer.{access_unit_cases, agreement_cases, before_lists, before_pictures, facts_in, placed_in}
use Rattle.mv_tried.specs.Segments.{segment_rule}
use Rattle.mv_tried.specs.Tried.{first_cases, first_of, known_cases, later, later_cases, list_cases, mid_cases, picture_set_cases, segment_cases, sequence_set_cases, tried_as}
use Rattle.mv_tried.proofs.Cases.{first_append, first_four, first_joined, joined, joined_are, joined_two, never, off}
use Rattle.mv_tried.proofs.Finer.{first-decoded, first-skipped}
use Rattle.mv_tried.proofs.Heads.{units-first, units-later}
use Rattle.mv_tried.proofs.Pictures.{mid-other, not_decoded, outputs-other, pictures-other}
use Rattle.mv_tried.proofs.Roles.{picture_no_sequence, picture_no_video, sequence_no_picture, sequence_no_video, slice_no_video}
use Rattle.mv_tried.proofs.Segments.{segment-rule}
use Rattle.mv_tried.proofs.Units.{IsOfUnit, items-known, items-stray, items-video, later-rule, of_unit, passed-rule, picture-rule, sequence-rule, sets-picture, sets-sequence, slices-other, stray-rule, video-rule}
use Rattle.mv_au.specs.Tracker.{broken, cases as tracker_cases}
use Rattle.mv_walk_laws.specs.Rest.{later_rule, picture_rule}
use Rattle.mv_walk_laws.specs.Streams.{broken_behind, item_behind, placed_behind, placed_units}
use Rattle.mv_walk_laws.proofs.OneMore.{placed-told}

-- ---- Units that are no slice segments

-- what is no video parameter set lacks no output layer set
pub lacks-none : (o : ℕ) (i : Item) → is_vps i ≡ false → lacking o i ≡ None
unfolding lacking turns
lacks-none o i plain = go (is_vps i) plain
  where
    go : (v : Bool) → v ≡ false →
        cond (((v && is_none i.before) || (v && (option_map (λ old. option_map (λ new. not (same_vps old new)) i.at otherwise false) i.before otherwise false))) && not (nat_lt o (length (sets_at i.at)))) (Some (Objection.NoSuchSet o (length (sets_at i.at)))) None ≡ None
    go true wrong = absurd (let e : true ≡ false = wrong in cc)
    go false same = refl

-- a stray, a unit that is read no further than its head, and a video parameter set break rules on the unit alone
pub stray-breaks : (us : List (List ℕ)) (u : List ℕ) → is_vps (item_behind us u) ≡ false → is_known (item_behind us u) ≡ false → broken_behind us u ≡ first_of (item_cases (item_behind us u))
unfolding fact placed
stray-breaks us u plain unknown =
    stray-rule (history_of us) (fact_behind us u) (of_unit (facts_of us) (placed_behind us u)) plain unknown
    ∙ sym (items-stray (item_behind us u) plain unknown)

pub passed-breaks : (us : List (List ℕ)) (u : List ℕ) → is_vps (item_behind us u) ≡ false → is_slice_kind (item_behind us u).head.kind ≡ false →
    is_sps_kind (item_behind us u).head.kind ≡ false → is_pps_kind (item_behind us u).head.kind ≡ false → broken_behind us u ≡ first_of (item_cases (item_behind us u))
unfolding fact placed
passed-breaks us u plain no_slice no_sps no_pps =
    passed-rule (history_of us) (fact_behind us u) (of_unit (facts_of us) (placed_behind us u)) plain no_slice no_sps no_pps
    ∙ sym (items-known (item_behind us u) plain)

pub video-breaks : (us : List (List ℕ)) (u : List ℕ) → is_vps (item_behind us u) ≡ true → broken_behind us u ≡ first_of (item_cases (item_behind us u))
unfolding fact placed
video-breaks us u is =
    video-rule (history_of us) (fact_behind us u) (of_unit (facts_of us) (placed_behind us u)) is
    ∙ sym (items-video (item_behind us u) is)

-- a sequence and a picture parameter set break those on what it carries too
or_are : (a b a' b' : Option Rule) → a ≡ a' → b ≡ b' → option_or a b ≡ option_or a' b'
or_are a b a' b' ha hb = ap (λ x. option_or x b) ha ∙ ap (λ x. option_or a' x) hb

sequence-told : (past : List Judged) (p : Fact) → IsOfUnit p → is_sps_kind p.placed.item.head.kind ≡ true → least_rule past (judged past p) ≡ first_of (item_cases p.placed.item ++ set_cases p)
sequence-told past p h is =
    let i : Item = p.placed.item in
    sequence-rule past p h is
    ∙ first_append (known_cases i) (sequence_set_cases p)
    ∙ or_are (first_of (known_cases i)) (first_of (sequence_set_cases p)) (first_of (item_cases i)) (first_of (set_cases p))
    (sym (items-known i (sequence_no_video i is)))
    (sym (sets-sequence p h (never (is_known i) (is_pps_kind i.head.kind) (sequence_no_picture i is))))
    ∙ sym (first_append (item_cases i) (set_cases p))

pub sequence-breaks : (us : List (List ℕ)) (u : List ℕ) → is_sps_kind (item_behind us u).head.kind ≡ true → broken_behind us u ≡ first_of (item_cases (item_behind us u) ++ set_cases (fact_behind us u))
unfolding fact placed
sequence-breaks us u is = sequence-told (history_of us) (fact_behind us u) (of_unit (facts_of us) (placed_behind us u)) is

picture_set-told : (past : List Judged) (p : Fact) → IsOfUnit p → is_pps_kind p.placed.item.head.kind ≡ true →
    least_rule past (judged past p) ≡ option_or (first_of (item_cases p.placed.item)) (first_of (set_cases p))
picture_set-told past p h is =
    let i : Item = p.placed.item in
    picture-rule past p h is
    ∙ first_append (known_cases i) (picture_set_cases p)
    ∙ or_are (first_of (known_cases i)) (first_of (picture_set_cases p)) (first_of (item_cases i)) (first_of (set_cases p))
    (sym (items-known i (picture_no_video i is)))
    (sym (sets-picture p h (never (is_known i) (is_sps_kind i.head.kind) (picture_no_sequence i is))))

pub picture_set-breaks : (us : List (List ℕ)) (u : List ℕ) → is_pps_kind (item_behind us u).head.kind ≡ true →
    broken_behind us u ≡ option_or (first_of (item_cases (item_behind us u))) (first_of (set_cases (fact_behind us u)))
unfolding fact placed
picture_set-breaks us u is = picture_set-told (history_of us) (fact_behind us u) (of_unit (facts_of us) (placed_behind us u)) is

-- ---- Slice segments

or_three : (a s u a' s' u' : Option Rule) → a ≡ a' → s ≡ s' → u ≡ u' → option_or (option_or a s) u ≡ option_or (option_or a' s') u'
or_three a s u a' s' u' ha hs hu =
    ap (λ x. option_or (option_or x s) u) ha
    ∙ ap (λ x. option_or (option_or a' x) u) hs
    ∙ ap (λ x. option_or (option_or a' s') x) hu

its : (before : List Fact) (q : Placed) → (fact before q).placed ≡ q
unfolding fact
its before q = refl

pub broken-is : (earlier : List Placed) (q : Placed) → first_of (access_unit_cases earlier q) ≡ broken earlier q
unfolding first_of access_unit_cases broken tracker_cases
broken-is earlier q = refl

-- by the rules on a unit alone, on its sets and its header, and on its access unit
abbrev before_all : List Fact → Placed → List Placed → Option Rule
before_all before q earlier = option_or (option_or (first_of (item_cases q.item)) (segment_rule (fact before q))) (broken earlier q)

head-same : (before : List Fact) (q : Placed) → is_slice q.item ≡ true → first_of (known_cases (fact before q).placed.item) ≡ first_of (item_cases q.item)
head-same before q slice =
    ap (λ (r : Placed). first_of (known_cases r.item)) (its before q)
    ∙ sym (items-known q.item (slice_no_video q.item (and_parts (is_known q.item) (is_slice_kind q.item.head.kind) slice).1))

first-before : (past : List Judged) (before : List Fact) (q : Placed) (earlier : List Placed) → placed_in past ≡ earlier → is_picture q.item ≡ true →
    first_of (before_pictures past (fact before q)) ≡ before_all before q earlier
first-before past before q earlier told picture =
    first_append (known_cases p.placed.item ++ segment_cases p) (first_cases (placed_in past) p)
    ∙ ap (λ x. option_or x (first_of (first_cases (placed_in past) p))) (first_append (known_cases p.placed.item) (segment_cases p))
    ∙ or_three (first_of (known_cases p.placed.item)) (first_of (segment_cases p)) (first_of (first_cases (placed_in past) p)) (first_of (item_cases q.item)) (segment_rule p) (broken earlier q)
    (head-same before q slice)
    (segment-rule before q slice)
    (units-first (placed_in past) p (ap (λ (r : Placed). is_picture r.item) (its before q) ∙ picture)
    ∙ ap (λ r. first_of (access_unit_cases (placed_in past) r)) (its before q)
    ∙ ap (λ ps. first_of (access_unit_cases ps q)) told
    ∙ broken-is earlier q)
  where
    p : Fact
    p = fact before q

    slice : is_slice q.item ≡ true
    slice = (and_parts (is_slice q.item) (is_first_segment q.item.opening) picture).0

regroup_first : (b d o m : Option Rule) → option_or (option_or (option_or b d) o) m ≡ option_or b (option_or (option_or d o) m)
regroup_first None d o m = refl
regroup_first (Some r) d o m = refl

regroup_skipped : (b d m : Option Rule) → option_or (option_or b d) m ≡ option_or b (option_or d m)
regroup_skipped None d m = refl
regroup_skipped (Some r) d m = refl

first-told : (past : List Judged) (before : List Fact) (q : Placed) (earlier : List Placed) → placed_in past ≡ earlier → is_picture q.item ≡ true →
    least_rule past (judged past (fact before q)) ≡ option_or (before_all before q earlier) (picture_rule past (fact before q))
first-told past before q earlier told picture = go (is_decoded (look past p) p) refl
  where
    p : Fact
    p = fact before q

    l : Look
    l = look past p

    outputs : List Case
    outputs = output_cases past (judged past p)

    mid : List Case
    mid = mid_cases (placed_in past) l p

    left : List Case
    left = case Rule.NoIrap (no_irap l p) ∷ []

    its_picture : is_picture p.placed.item ≡ true
    its_picture = ap (λ (r : Placed). is_picture r.item) (its before q) ∙ picture

    go : (b : Bool) → is_decoded l p ≡ b →
        least_rule past (judged past p) ≡ option_or (before_all before q earlier) (first_of ((if b then decoded_cases l p ++ outputs else left) ++ mid))
    go true here =
        first-decoded past before q its_picture here
        ∙ first_four (before_pictures past p) (decoded_cases l p) outputs mid
        ∙ ap (λ x. option_or (option_or (option_or x (first_of (decoded_cases l p))) (first_of outputs)) (first_of mid)) (first-before past before q earlier told picture)
        ∙ regroup_first (before_all before q earlier) (first_of (decoded_cases l p)) (first_of outputs) (first_of mid)
        ∙ ap (λ x. option_or (before_all before q earlier) x)
        (ap (λ x. option_or x (first_of mid)) (sym (first_append (decoded_cases l p) outputs)) ∙ sym (first_append (decoded_cases l p ++ outputs) mid))
    go false here =
        first-skipped past before q its_picture here
        ∙ first_append (before_pictures past p ++ left) mid
        ∙ ap (λ x. option_or x (first_of mid)) (first_append (before_pictures past p) left)
        ∙ ap (λ x. option_or (option_or x (first_of left)) (first_of mid)) (first-before past before q earlier told picture)
        ∙ regroup_skipped (before_all before q earlier) (first_of left) (first_of mid)
        ∙ ap (λ x. option_or (before_all before q earlier) x) (sym (first_append left mid))

-- the first segment of a picture
pub first-breaks : (us : List (List ℕ)) (u : List ℕ) → is_picture (item_behind us u) ≡ true →
    broken_behind us u
    ≡ option_or (option_or (option_or (first_of (item_cases (item_behind us u))) (segment_rule (fact_behind us u))) (broken (placed_units us) (placed_behind us u)))
    (picture_rule (history_of us) (fact_behind us u))
unfolding placed
first-breaks us u picture = first-told (history_of us) (facts_of us) (placed_behind us u) (placed_units us) (placed-told us) picture

-- ---- Later segments

asked_is : (past : List Judged) (p : Fact) → is_slice p.placed.item ≡ true → asked past p ≡ past
unfolding asked
asked_is past p h = ap (λ b. cond b past []) h

later-seen : (past : List Judged) (p : Fact) → is_slice p.placed.item ≡ true → first_of (tried_as later past (judged past p)) ≡ first_of (before_lists past p ++ list_cases (look past p) p)
unfolding tried_as judged judgement
later-seen past p h = ap (λ ds. first_of (before_lists past p ++ list_cases (look ds p) p)) (asked_is past p h)

regroup_later : (k s u g x : Option Rule) → option_or (option_or (option_or k s) (option_or u g)) x ≡ option_or (option_or (option_or k s) u) (option_or g x)
regroup_later None None None g x = refl
regroup_later None None (Some r) g x = refl
regroup_later None (Some r) u g x = refl
regroup_later (Some r) s u g x = refl

later-told : (past : List Judged) (before : List Fact) (q : Placed) (earlier : List Placed) → placed_in past ≡ earlier → is_slice q.item ≡ true → is_picture q.item ≡ false →
    least_rule past (judged past (fact before q)) ≡ option_or (before_all before q earlier) (later_rule past (fact before q))
later-told past before q earlier told slice none =
    later-rule past p (of_unit before q) its_slice its_none
    ∙ later-seen past p its_slice
    ∙ first_four (known_cases p.placed.item) (segment_cases p) (later_cases (facts_in past) p) (list_cases (look past p) p)
    ∙ ap (λ x. option_or (option_or (option_or (first_of (known_cases p.placed.item)) (first_of (segment_cases p))) x) (first_of (list_cases (look past p) p))) (units-later (facts_in past) p its_none)
    ∙ regroup_later (first_of (known_cases p.placed.item)) (first_of (segment_cases p)) (first_of (access_unit_cases (placed_in past) p.placed)) (first_of (agreement_cases (facts_in past) p)) (first_of (list_cases (look past p) p))
    ∙ ap (λ x. option_or x (later_rule past p))
    (or_three (first_of (known_cases p.placed.item)) (first_of (segment_cases p)) (first_of (access_unit_cases (placed_in past) p.placed)) (first_of (item_cases q.item)) (segment_rule p) (broken earlier q)
    (head-same before q slice)
    (segment-rule before q slice)
    (ap (λ r. first_of (access_unit_cases (placed_in past) r)) (its before q)
    ∙ ap (λ ps. first_of (access_unit_cases ps q)) told
    ∙ broken-is earlier q))
  where
    p : Fact
    p = fact before q

    its_slice : is_slice p.placed.item ≡ true
    its_slice = ap (λ (r : Placed). is_slice r.item) (its before q) ∙ slice

    its_none : is_picture p.placed.item ≡ false
    its_none = ap (λ (r : Placed). is_picture r.item) (its before q) ∙ none

pub later-breaks : (us : List (List ℕ)) (u : List ℕ) → is_slice (item_behind us u) ≡ true → is_picture (item_behind us u) ≡ false →
    broken_behind us u
    ≡ option_or (option_or (option_or (first_of (item_cases (item_behind us u))) (segment_rule (fact_behind us u))) (broken (placed_units us) (placed_behind us u)))
    (later_rule (history_of us) (fact_behind us u))
unfolding placed
later-breaks us u slice none = later-told (history_of us) (facts_of us) (placed_behind us u) (placed_units us) (placed-told us) slice none

-- ---- The rules on a unit alone come first

least-first : (past : List Judged) (d : Judged) → least_rule past d ≡ first_of (cases past d)
unfolding least_rule first_of
least-first past d = refl

-- the rules on a unit alone, on its set, on a segment by its sets, its header and its access unit, on pictures, on output and on a
-- changed video parameter set, in turn
pub whole-rule : (past : List Judged) (d : Judged) →
    least_rule past d
    ≡ joined (first_of (item_cases d.fact.placed.item)) (first_of (set_cases d.fact)) (first_of (slice_cases (facts_in past) d.fact))
    (first_of (picture_cases (look (asked past d.fact) d.fact) d.fact)) (first_of (output_cases past d)) (first_of (mid_cases (placed_in past) (look (asked past d.fact) d.fact) d.fact))
unfolding cases mid_cases
whole-rule past d =
    least-first past d
    ∙ first_joined (item_cases d.fact.placed.item) (set_cases d.fact) (slice_cases (facts_in past) d.fact) (picture_cases (look (asked past d.fact) d.fact) d.fact) (output_cases past d)
    (mid_cases (placed_in past) (look (asked past d.fact) d.fact) d.fact)

item-first : (past : List Judged) (d : Judged) (r : Rule) → first_of (item_cases d.fact.placed.item) ≡ Some r → least_rule past d ≡ Some r
item-first past d r h =
    whole-rule past d
    ∙ ap (λ x. joined x (first_of (set_cases d.fact)) (first_of (slice_cases (facts_in past) d.fact)) (first_of (picture_cases (look (asked past d.fact) d.fact) d.fact))
    (first_of (output_cases past d)) (first_of (mid_cases (placed_in past) (look (asked past d.fact) d.fact) d.fact))) h

-- of what is no slice segment only the first two
pub other-rule : (past : List Judged) (p : Fact) → is_slice p.placed.item ≡ false → least_rule past (judged past p) ≡ option_or (first_of (item_cases p.placed.item)) (first_of (set_cases p))
unfolding judged judgement
other-rule past p h =
    whole-rule past (judged past p)
    ∙ joined_are (first_of (item_cases p.placed.item)) (first_of (set_cases p)) (first_of (slice_cases (facts_in past) p)) (first_of (picture_cases (look (asked past p) p) p))
    (first_of (output_cases past (judged past p))) (first_of (mid_cases (placed_in past) (look (asked past p) p) p))
    (first_of (item_cases p.placed.item)) (first_of (set_cases p)) None None None None
    refl refl
    (slices-other (facts_in past) p h none)
    (pictures-other past p h none)
    (outputs-other past (judged past p) (not_decoded (look (asked past p) p) p none))
    (mid-other (placed_in past) (look (asked past p) p) p none)
    ∙ joined_two (first_of (item_cases p.placed.item)) (first_of (set_cases p))
  where
    none : is_picture p.placed.item ≡ false
    none = off (is_slice p.placed.item) (is_first_segment p.placed.item.opening) h

pub item-breaks : (us : List (List ℕ)) (u : List ℕ) (r : Rule) → first_of (item_cases (item_behind us u)) ≡ Some r → broken_behind us u ≡ Some r
unfolding judged judgement fact placed
item-breaks us u r h = item-first (history_of us) (judged (history_of us) (fact_behind us u)) r h

head-first : (i : Item) → bad_head i.bytes ≡ true → first_of (item_cases i) ≡ Some Rule.Head
unfolding item_cases first_of
head-first i bad = ap (λ b. option_map (λ (c : Case). c.rule) (cond b (Some (case Rule.Head (bad_head i.bytes))) (find (λ (c : Case). c.holds) rest))) bad
  where
    rest : List Case
    rest =
        case Rule.VpsSyntax (is_new_vps i && set_fails i.at)
        ∷ map (λ r. case r (is_new_vps i && set_is_cut r i.at)) vps_rules
        ++ case Rule.VpsTid (vps_tid i)
        ∷ case Rule.NoVps (no_vps i)
        ∷ []

pub head-breaks : (us : List (List ℕ)) (u : List ℕ) → bad_head u ≡ true → broken_behind us u ≡ Some Rule.Head
unfolding item
head-breaks us u bad = item-breaks us u Rule.Head (head-first (item_behind us u) bad)

-- The cases that aren't tried on a unit don't hold of it.
use Rattle.std.proofs.Common.{◌≡◌, ℕ, Bool, true, false, cond, not, ◌&&◌, ◌||◌, List, [], ◌∷◌, ◌++◌, length, Option, None, Some, refl, ap, sym, ◌∙◌, map}
use Rattle.std.specs.Prelude.{is_none, is_some, nat_eq, nat_le, nat_lt, option_map, option_and_then}
use Rattle.std.specs.Option.{option_or}
use Rattle.std.proofs.lemmas.Bool.{and_parts, eqb-true}
use Rattle.std.specs.List.{find, list_any}
use Rattle.mv_syntax.specs.Words.{◌otherwise◌}
use Rattle.mv_rules.specs.declared.rule.Rule.{Rule}
use Rattle.mv_units.specs.Rules.{bad_head}
use Rattle.mv_units.specs.Escapes.{payload}
use Rattle.mv_sps.specs.Sps.{SpsValue}
use Rattle.mv_pps.specs.Pps.{PpsValue}
use Rattle.mv_pictures.specs.AccessUnits.{Placed, first_slice_of, is_own_picture, layer_order, no_base, orphan_slice, pictures_of, slices_of, tid, tid_differs}
use Rattle.mv_pictures.specs.AccessUnits as units
use Rattle.mv_pictures.specs.Carried.{Carried, carried_pps, carried_sps}
use Rattle.mv_pictures.specs.Facts.{Fact, fact, max_sub_layers, own_picture, pps_of_unit, sps_of_unit}
use Rattle.mv_pictures.specs.History.{judged, judgement}
use Rattle.mv_pictures.specs.Items.{Item, is_first_segment, is_known, is_vps, turns}
use Rattle.mv_pictures.specs.Items as items
use Rattle.mv_pictures.specs.Judged.{Judged, is_picture, is_slice}
use Rattle.mv_pictures.specs.Kinds.{is_pps_kind, is_slice_kind, is_sps_kind, is_vps_kind}
use Rattle.mv_pictures.specs.Layers.{InForce, knows, whole}
use Rattle.mv_pictures.specs.Look.{Look, asked, look}
use Rattle.mv_pictures.specs.Rules.{Case, case, cases, item_cases, least_rule, output_cases, picture_cases, set_cases, slice_cases}
use Rattle.mv_pictures.specs.SliceRules.{address_order, agrees, cross_layer_bla, is_bad_address, missing_pps, missing_sps, slice_differs, slice_syntax}
use Rattle.mv_pictures.specs.UnitRules.{fails, is_cut, is_new_vps, names_other_vps, needs_vps, no_vps, pps_rules, set_fails, set_is_cut, sps_rules, sps_tid, vps_rules, vps_tid}
use Rattle.mv_tried.specs.Tried.{Role, first, first_cases, first_of, head_cases, known_cases, later, later_cases, list_cases, mid_cases, passed, picture_set, picture_set_cases, role_of, segment_cases, sequence_set, sequence_set_cases, stray, tried, tried_as, video_set, video_set_cases}
use Rattle.mv_tried.proofs.Cases.{first_append, first_four, first_joined, joined, joined_are, joined_two, never, off, or_none}
use Rattle.mv_tried.proofs.Pictures.{mid-other, not_decoded, outputs-other, pictures-later, pictures-other}
use Rattle.mv_tried.proofs.Roles.{first-is, later-is, passed-is, picture_no_sequence, picture_no_slice, picture_no_video, picture_set-is, sequence_no_picture, sequence_no_slice, sequence_no_video, sequence_set-is, slice_no_picture, slice_no_sequence, slice_no_video, stray-is, video_no_picture, video_no_sequence, video_no_slice, video_set-is}

-- ---- By the unit alone

-- what the cases are of a new video parameter set or not, of one that has TemporalId above 0, and of a unit that needs one
item_list : Bool → Bool → Bool → Item → List Case
item_list new above needs i =
    (case Rule.Head (bad_head i.bytes)
    ∷ case Rule.VpsSyntax (new && set_fails i.at)
    ∷ map (λ r. case r (new && set_is_cut r i.at)) vps_rules)
    ++ (case Rule.VpsTid above ∷ case Rule.NoVps needs ∷ [])

item_cases-are : (i : Item) → item_cases i ≡ item_list (is_new_vps i) (vps_tid i) (no_vps i) i
unfolding item_cases item_list
item_cases-are i = refl

no_new_vps : (i : Item) → is_vps i ≡ false → is_new_vps i ≡ false
unfolding turns
no_new_vps i h =
    ap (λ b. (b && is_none i.before) || turns i) h
    ∙ off (is_vps i) (option_map (λ old. option_map (λ new. not (items.same_vps old new)) i.at otherwise false) i.before otherwise false) h

no_vps_tid : (i : Item) → is_vps i ≡ false → vps_tid i ≡ false
unfolding vps_tid
no_vps_tid i h = off (is_vps i) (nat_lt 0 i.head.tid) h

pub items-known : (i : Item) → is_vps i ≡ false → first_of (item_cases i) ≡ first_of (known_cases i)
items-known i h =
    ap first_of (item_cases-are i)
    ∙ ap (λ b. first_of (item_list b (vps_tid i) (no_vps i) i)) (no_new_vps i h)
    ∙ ap (λ b. first_of (item_list false b (no_vps i) i)) (no_vps_tid i h)
    ∙ left
  where
    left : first_of (item_list false false (no_vps i) i) ≡ first_of (known_cases i)
    left = unfold item_list first_of known_cases in refl

-- a stray has a video parameter set in force
stray_in_force : (at : InForce) (layer : ℕ) → knows at layer ≡ false → is_none at ≡ false
unfolding knows
stray_in_force None layer h = h
stray_in_force (Some c) layer h = refl

stray_needs_none : (i : Item) → is_known i ≡ false → no_vps i ≡ false
unfolding no_vps
stray_needs_none i h =
    ap (λ b. (is_none i.at && needs_vps i) || (b && is_sps_kind i.head.kind && (option_map (names_other_vps (payload i.bytes)) (whole i.at) otherwise false))) h
    ∙ ap (λ b. (b && needs_vps i) || false) (stray_in_force i.at i.head.layer h)

pub items-stray : (i : Item) → is_vps i ≡ false → is_known i ≡ false → first_of (item_cases i) ≡ first_of (head_cases i)
unfolding known_cases
items-stray i h k = items-known i h ∙ ap (λ b. first_of (known_list b)) (stray_needs_none i k) ∙ left
  where
    known_list : Bool → List Case
    known_list needs = case Rule.Head (bad_head i.bytes) ∷ case Rule.NoVps needs ∷ []

    left : first_of (known_list false) ≡ first_of (head_cases i)
    left = unfold first_of head_cases in refl

video_needs_none : (i : Item) → is_vps i ≡ true → no_vps i ≡ false
unfolding no_vps
video_needs_none i h =
    ap (λ b. (is_none i.at && (b || is_pps_kind i.head.kind || is_slice_kind i.head.kind || nat_lt 0 i.head.layer)) || (is_known i && b && named)) (video_no_sequence i h)
    ∙ ap (λ b. (is_none i.at && (false || b || is_slice_kind i.head.kind || nat_lt 0 i.head.layer)) || (is_known i && false && named)) (video_no_picture i h)
    ∙ ap (λ b. (is_none i.at && (false || false || b || nat_lt 0 i.head.layer)) || (is_known i && false && named)) (video_no_slice i h)
    ∙ ap (λ b. (is_none i.at && (false || false || false || nat_lt 0 b)) || (is_known i && false && named)) (eqb-true i.head.layer 0 (and_parts (is_vps_kind i.head.kind) (nat_eq i.head.layer 0) h).1)
    ∙ go (is_none i.at) (is_known i) named
  where
    named : Bool
    named = option_map (names_other_vps (payload i.bytes)) (whole i.at) otherwise false

    go : (a b c : Bool) → ((a && (false || false || false || nat_lt 0 0)) || (b && false && c)) ≡ false
    go true true c = refl
    go true false c = refl
    go false true c = refl
    go false false c = refl

pub items-video : (i : Item) → is_vps i ≡ true → first_of (item_cases i) ≡ first_of (video_set_cases i)
items-video i h =
    ap first_of (item_cases-are i)
    ∙ ap (λ b. first_of (item_list (is_new_vps i) (vps_tid i) b i)) (video_needs_none i h)
    ∙ left
  where
    left : first_of (item_list (is_new_vps i) (vps_tid i) false i) ≡ first_of (video_set_cases i)
    left = unfold item_list first_of video_set_cases in refl

-- ---- By its parameter set

set_list : Option (Carried SpsValue) → Bool → Option (Carried PpsValue) → List Case
set_list sps above pps =
    case Rule.SpsSyntax (set_fails sps)
    ∷ map (λ r. case r (set_is_cut r sps)) sps_rules
    ++ case Rule.SpsTid above
    ∷ case Rule.SpsLimit (set_is_cut Rule.SpsLimit sps)
    ∷ case Rule.PpsSyntax (set_fails pps)
    ∷ map (λ r. case r (set_is_cut r pps)) pps_rules

set_cases-are : (p : Fact) → set_cases p ≡ set_list p.sps_unit (sps_tid p.placed.item) p.pps_unit
unfolding set_cases set_list
set_cases-are p = refl

-- what a fact is by its unit
pub record IsOfUnit (p : Fact) : Type 0 where
  pub sps : p.sps_unit ≡ sps_of_unit p.placed.item
  pub pps : p.pps_unit ≡ pps_of_unit p.placed.item

sps_none : (i : Item) → (is_known i && is_sps_kind i.head.kind) ≡ false → sps_of_unit i ≡ None
unfolding sps_of_unit
sps_none i h = ap (λ b. cond b (Some (carried_sps (max_sub_layers i.at) i.head i.bytes)) None) h

pps_none : (i : Item) → (is_known i && is_pps_kind i.head.kind) ≡ false → pps_of_unit i ≡ None
unfolding pps_of_unit
pps_none i h = ap (λ b. cond b (Some (carried_pps i.head i.bytes)) None) h

sps_tid_none : (i : Item) → (is_known i && is_sps_kind i.head.kind) ≡ false → sps_tid i ≡ false
unfolding sps_tid
sps_tid_none i h = go (is_known i) (is_sps_kind i.head.kind) (nat_lt 0 i.head.tid) h
  where
    go : (a b c : Bool) → (a && b) ≡ false → (a && b && c) ≡ false
    go true true c h = absurd (let wrong : true ≡ false = h in cc)
    go true false c h = refl
    go false b c h = refl

pub sets-none : (p : Fact) → IsOfUnit p → (is_known p.placed.item && is_sps_kind p.placed.item.head.kind) ≡ false → (is_known p.placed.item && is_pps_kind p.placed.item.head.kind) ≡ false → first_of (set_cases p) ≡ None
sets-none p h no_sps no_pps =
    ap first_of (set_cases-are p)
    ∙ ap (λ s. first_of (set_list s (sps_tid p.placed.item) p.pps_unit)) (h.sps ∙ sps_none p.placed.item no_sps)
    ∙ ap (λ b. first_of (set_list None b p.pps_unit)) (sps_tid_none p.placed.item no_sps)
    ∙ ap (λ s. first_of (set_list None false s)) (h.pps ∙ pps_none p.placed.item no_pps)
    ∙ left
  where
    left : first_of (set_list None false None) ≡ None
    left = unfold set_list first_of in refl

pub sets-sequence : (p : Fact) → IsOfUnit p → (is_known p.placed.item && is_pps_kind p.placed.item.head.kind) ≡ false → first_of (set_cases p) ≡ first_of (sequence_set_cases p)
sets-sequence p h no_pps =
    ap first_of (set_cases-are p)
    ∙ ap (λ s. first_of (set_list p.sps_unit (sps_tid p.placed.item) s)) (h.pps ∙ pps_none p.placed.item no_pps)
    ∙ left
  where
    left : first_of (set_list p.sps_unit (sps_tid p.placed.item) None) ≡ first_of (sequence_set_cases p)
    left = unfold set_list first_of sequence_set_cases in refl

pub sets-picture : (p : Fact) → IsOfUnit p → (is_known p.placed.item && is_sps_kind p.placed.item.head.kind) ≡ false → first_of (set_cases p) ≡ first_of (picture_set_cases p)
sets-picture p h no_sps =
    ap first_of (set_cases-are p)
    ∙ ap (λ s. first_of (set_list s (sps_tid p.placed.item) p.pps_unit)) (h.sps ∙ sps_none p.placed.item no_sps)
    ∙ ap (λ b. first_of (set_list None b p.pps_unit)) (sps_tid_none p.placed.item no_sps)
    ∙ left
  where
    left : first_of (set_list None false p.pps_unit) ≡ first_of (picture_set_cases p)
    left = unfold set_list first_of picture_set_cases in refl

-- ---- By its access unit, its sets and its header

own_none : (past : List Fact) (q : Placed) → items.is_picture q.item ≡ true → own_picture past q ≡ None
unfolding own_picture
own_none past q h =
    ap (λ b. option_and_then (λ (f : Fact). cond (not b && is_own_picture q f.placed) (Some f) None) (find (λ (f : Fact). items.is_picture f.placed.item) past)) h
    ∙ go (find (λ (f : Fact). items.is_picture f.placed.item) past)
  where
    go : (latest : Option Fact) → option_and_then (λ (f : Fact). cond (not true && is_own_picture q f.placed) (Some f) None) latest ≡ None
    go None = refl
    go (Some f) = refl

segment_list : Bool → Fact → List Case
segment_list slice p =
    case Rule.MissingPps (slice && is_some p.placed.item.opening && is_none p.sets.pps)
    ∷ case Rule.MissingSps (slice && is_some p.sets.pps && (is_none p.sets.sps || is_none p.sets.format))
    ∷ case Rule.SliceSyntax (slice && (is_none p.placed.item.opening || (option_map (λ r. fails r || is_cut Rule.SliceSyntax r) p.header otherwise false)))
    ∷ case Rule.CrossLayerBla (slice && (option_map (is_cut Rule.CrossLayerBla) p.header otherwise false))
    ∷ []

base_case : Bool → List Placed → Fact → Case
base_case slice earlier p = case Rule.NoBase (slice && not (nat_eq (units.layer p.placed) 0) && nat_eq (length (slices_of p.placed.au earlier)) 0)

order_case : Bool → List Placed → Fact → Case
order_case begins earlier p = case Rule.LayerOrder (begins && list_any (λ q. nat_le (units.layer p.placed) (units.layer q)) (pictures_of p.placed.au earlier))

tid_case : Bool → List Placed → Fact → Case
tid_case begins earlier p =
    case Rule.TidDiffers (begins && (option_map (λ q. not (nat_eq (tid p.placed) (tid q))) (first_slice_of p.placed.au earlier) otherwise false))

orphan_case : Bool → Bool → List Placed → Fact → Case
orphan_case slice begins earlier p =
    case Rule.OrphanSlice (slice && not begins && not (option_map (is_own_picture p.placed) (find (λ (q : Placed). items.is_picture q.item) earlier) otherwise false))

differs_case : Bool → Option Fact → Fact → Case
differs_case slice own p = case Rule.SliceDiffers (slice && (option_map (λ one. not (agrees p one)) own otherwise false))

address_case : Bool → Option Fact → List Fact → Fact → Case
address_case slice own past p = case Rule.AddressOrder (slice && is_some own && (option_map (is_bad_address past p) p.context otherwise false))

placed_of : List Fact → List Placed
placed_of past = map (λ (f : Fact). f.placed) past

slice_list : Bool → Bool → Option Fact → List Fact → Fact → List Case
slice_list slice begins own past p =
    segment_list slice p
    ++ (base_case slice (placed_of past) p
    ∷ order_case begins (placed_of past) p
    ∷ orphan_case slice begins (placed_of past) p
    ∷ differs_case slice own p
    ∷ address_case slice own past p
    ∷ tid_case begins (placed_of past) p
    ∷ [])

first_list : Bool → Bool → List Fact → Fact → List Case
first_list slice begins past p =
    segment_list slice p ++ (base_case slice (placed_of past) p ∷ order_case begins (placed_of past) p ∷ tid_case begins (placed_of past) p ∷ [])

later_list : Bool → Bool → Option Fact → List Fact → Fact → List Case
later_list slice begins own past p =
    segment_list slice p
    ++ (base_case slice (placed_of past) p ∷ orphan_case slice begins (placed_of past) p ∷ differs_case slice own p ∷ address_case slice own past p ∷ [])

slice_cases-are : (past : List Fact) (p : Fact) → slice_cases past p ≡ slice_list (is_slice p) (is_picture p) (own_picture past p.placed) past p
unfolding slice_cases slice_list segment_list base_case order_case tid_case orphan_case differs_case address_case placed_of missing_pps missing_sps slice_syntax cross_layer_bla no_base layer_order orphan_slice slice_differs address_order tid_differs
slice_cases-are past p = refl

first_list-is : (past : List Fact) (p : Fact) → first_list (is_slice p) (is_picture p) past p ≡ segment_cases p ++ first_cases (map (λ (f : Fact). f.placed) past) p
unfolding first_list segment_cases first_cases segment_list base_case order_case tid_case placed_of missing_pps missing_sps slice_syntax cross_layer_bla no_base layer_order tid_differs
first_list-is past p = refl

later_list-is : (past : List Fact) (p : Fact) → later_list (is_slice p) (is_picture p) (own_picture past p.placed) past p ≡ segment_cases p ++ later_cases past p
unfolding later_list segment_cases later_cases segment_list base_case orphan_case differs_case address_case placed_of missing_pps missing_sps slice_syntax cross_layer_bla no_base orphan_slice slice_differs address_order
later_list-is past p = refl

pub slices-other : (past : List Fact) (p : Fact) → is_slice p ≡ false → is_picture p ≡ false → first_of (slice_cases past p) ≡ None
slices-other past p h none =
    ap first_of (slice_cases-are past p)
    ∙ ap (λ b. first_of (slice_list b (is_picture p) (own_picture past p.placed) past p)) h
    ∙ ap (λ b. first_of (slice_list false b (own_picture past p.placed) past p)) none
    ∙ left (own_picture past p.placed)
  where
    left : (own : Option Fact) → first_of (slice_list false false own past p) ≡ None
    left own = unfold slice_list segment_list base_case order_case tid_case orphan_case differs_case address_case first_of in refl

pub slices-first : (past : List Fact) (p : Fact) → is_slice p ≡ true → is_picture p ≡ true → first_of (slice_cases past p) ≡ first_of (segment_cases p ++ first_cases (map (λ (f : Fact). f.placed) past) p)
slices-first past p slice picture =
    ap first_of (slice_cases-are past p)
    ∙ ap (λ b. first_of (slice_list b (is_picture p) (own_picture past p.placed) past p)) slice
    ∙ ap (λ b. first_of (slice_list true b (own_picture past p.placed) past p)) picture
    ∙ ap (λ own. first_of (slice_list true true own past p)) (own_none past p.placed picture)
    ∙ left
    ∙ ap (λ b. first_of (first_list true b past p)) (sym picture)
    ∙ ap (λ b. first_of (first_list b (is_picture p) past p)) (sym slice)
    ∙ ap first_of (first_list-is past p)
  where
    left : first_of (slice_list true true None past p) ≡ first_of (first_list true true past p)
    left = unfold slice_list first_list segment_list base_case order_case tid_case orphan_case differs_case address_case first_of in refl

pub slices-later : (past : List Fact) (p : Fact) → is_picture p ≡ false → first_of (slice_cases past p) ≡ first_of (segment_cases p ++ later_cases past p)
slices-later past p none =
    ap first_of (slice_cases-are past p)
    ∙ ap (λ b. first_of (slice_list (is_slice p) b (own_picture past p.placed) past p)) none
    ∙ left (own_picture past p.placed)
    ∙ ap (λ b. first_of (later_list (is_slice p) b (own_picture past p.placed) past p)) (sym none)
    ∙ ap first_of (later_list-is past p)
  where
    left : (own : Option Fact) → first_of (slice_list (is_slice p) false own past p) ≡ first_of (later_list (is_slice p) false own past p)
    left own = unfold slice_list later_list segment_list base_case order_case tid_case orphan_case differs_case address_case first_of in refl

-- ---- All of them

facts_in : List Judged → List Fact
facts_in past = map (λ (e : Judged). e.fact) past

seen : List Judged → Fact → Look
seen past p = look (asked past p) p

whole_rule : (past : List Judged) (p : Fact) →
    least_rule past (judged past p)
    ≡ joined (first_of (item_cases p.placed.item)) (first_of (set_cases p)) (first_of (slice_cases (facts_in past) p)) (first_of (picture_cases (seen past p) p))
    (first_of (output_cases past (judged past p))) (first_of (mid_cases (map (λ (f : Fact). f.placed) (facts_in past)) (seen past p) p))
unfolding least_rule cases judged judgement first_of mid_cases facts_in seen
whole_rule past p =
    first_joined (item_cases p.placed.item) (set_cases p) (slice_cases (facts_in past) p) (picture_cases (seen past p) p)
    (output_cases past (judged past p)) (mid_cases (map (λ (f : Fact). f.placed) (facts_in past)) (seen past p) p)

decoded_is : (past : List Judged) (p : Fact) → is_picture p ≡ false → (judged past p).decoded ≡ false
unfolding judged judgement
decoded_is past p h = not_decoded (look (asked past p) p) p h

-- of a unit that is no slice segment
other_rule : (past : List Judged) (p : Fact) → is_slice p ≡ false → least_rule past (judged past p) ≡ option_or (first_of (item_cases p.placed.item)) (first_of (set_cases p))
unfolding seen
other_rule past p h =
    whole_rule past p
    ∙ joined_are (first_of (item_cases p.placed.item)) (first_of (set_cases p)) (first_of (slice_cases (facts_in past) p)) (first_of (picture_cases (seen past p) p))
    (first_of (output_cases past (judged past p))) (first_of (mid_cases (map (λ (f : Fact). f.placed) (facts_in past)) (seen past p) p))
    (first_of (item_cases p.placed.item)) (first_of (set_cases p)) None None None None
    refl refl
    (slices-other (facts_in past) p h none)
    (pictures-other past p h none)
    (outputs-other past (judged past p) (decoded_is past p none))
    (mid-other (map (λ (f : Fact). f.placed) (facts_in past)) (seen past p) p none)
    ∙ joined_two (first_of (item_cases p.placed.item)) (first_of (set_cases p))
  where
    none : is_picture p ≡ false
    none = off (is_slice p) (is_first_segment p.placed.item.opening) h

or_are : (a b a' b' : Option Rule) → a ≡ a' → b ≡ b' → option_or a b ≡ option_or a' b'
or_are a b a' b' ha hb = ap (λ x. option_or x b) ha ∙ ap (λ x. option_or a' x) hb

no_slice : (p : Fact) → is_slice_kind p.placed.item.head.kind ≡ false → is_slice p ≡ false
no_slice p h = never (is_known p.placed.item) (is_slice_kind p.placed.item.head.kind) h

pub video-rule : (past : List Judged) (p : Fact) → IsOfUnit p → is_vps p.placed.item ≡ true → least_rule past (judged past p) ≡ first_of (video_set_cases p.placed.item)
video-rule past p h is =
    let i : Item = p.placed.item in
    other_rule past p (no_slice p (video_no_slice i is))
    ∙ or_are (first_of (item_cases i)) (first_of (set_cases p)) (first_of (video_set_cases i)) None (items-video i is)
    (sets-none p h (never (is_known i) (is_sps_kind i.head.kind) (video_no_sequence i is)) (never (is_known i) (is_pps_kind i.head.kind) (video_no_picture i is)))
    ∙ or_none (first_of (video_set_cases i))

pub stray-rule : (past : List Judged) (p : Fact) → IsOfUnit p → is_vps p.placed.item ≡ false → is_known p.placed.item ≡ false → least_rule past (judged past p) ≡ first_of (head_cases p.placed.item)
stray-rule past p h plain unknown =
    let i : Item = p.placed.item in
    other_rule past p (off (is_known i) (is_slice_kind i.head.kind) unknown)
    ∙ or_are (first_of (item_cases i)) (first_of (set_cases p)) (first_of (head_cases i)) None (items-stray i plain unknown)
    (sets-none p h (off (is_known i) (is_sps_kind i.head.kind) unknown) (off (is_known i) (is_pps_kind i.head.kind) unknown))
    ∙ or_none (first_of (head_cases i))

pub passed-rule : (past : List Judged) (p : Fact) → IsOfUnit p → is_vps p.placed.item ≡ false → is_slice_kind p.placed.item.head.kind ≡ false →
    is_sps_kind p.placed.item.head.kind ≡ false → is_pps_kind p.placed.item.head.kind ≡ false → least_rule past (judged past p) ≡ first_of (known_cases p.placed.item)
passed-rule past p h plain none no_sps no_pps =
    let i : Item = p.placed.item in
    other_rule past p (no_slice p none)
    ∙ or_are (first_of (item_cases i)) (first_of (set_cases p)) (first_of (known_cases i)) None (items-known i plain)
    (sets-none p h (never (is_known i) (is_sps_kind i.head.kind) no_sps) (never (is_known i) (is_pps_kind i.head.kind) no_pps))
    ∙ or_none (first_of (known_cases i))

pub sequence-rule : (past : List Judged) (p : Fact) → IsOfUnit p → is_sps_kind p.placed.item.head.kind ≡ true →
    least_rule past (judged past p) ≡ first_of (known_cases p.placed.item ++ sequence_set_cases p)
sequence-rule past p h is =
    let i : Item = p.placed.item in
    other_rule past p (no_slice p (sequence_no_slice i is))
    ∙ or_are (first_of (item_cases i)) (first_of (set_cases p)) (first_of (known_cases i)) (first_of (sequence_set_cases p)) (items-known i (sequence_no_video i is))
    (sets-sequence p h (never (is_known i) (is_pps_kind i.head.kind) (sequence_no_picture i is)))
    ∙ sym (first_append (known_cases i) (sequence_set_cases p))

pub picture-rule : (past : List Judged) (p : Fact) → IsOfUnit p → is_pps_kind p.placed.item.head.kind ≡ true →
    least_rule past (judged past p) ≡ first_of (known_cases p.placed.item ++ picture_set_cases p)
picture-rule past p h is =
    let i : Item = p.placed.item in
    other_rule past p (no_slice p (picture_no_slice i is))
    ∙ or_are (first_of (item_cases i)) (first_of (set_cases p)) (first_of (known_cases i)) (first_of (picture_set_cases p)) (items-known i (picture_no_video i is))
    (sets-picture p h (never (is_known i) (is_sps_kind i.head.kind) (picture_no_sequence i is)))
    ∙ sym (first_append (known_cases i) (picture_set_cases p))

-- of a slice segment
slice_parts : (p : Fact) → is_slice p ≡ true → (is_known p.placed.item ≡ true) × (is_slice_kind p.placed.item.head.kind ≡ true)
slice_parts p h = and_parts (is_known p.placed.item) (is_slice_kind p.placed.item.head.kind) h

slice_sets : (p : Fact) → IsOfUnit p → is_slice p ≡ true → first_of (set_cases p) ≡ None
slice_sets p h slice =
    let i : Item = p.placed.item in
    let kind : is_slice_kind i.head.kind ≡ true = (slice_parts p slice).1 in
    sets-none p h (never (is_known i) (is_sps_kind i.head.kind) (slice_no_sequence i kind)) (never (is_known i) (is_pps_kind i.head.kind) (slice_no_picture i kind))

slice_items : (p : Fact) → is_slice p ≡ true → first_of (item_cases p.placed.item) ≡ first_of (known_cases p.placed.item)
slice_items p slice = items-known p.placed.item (slice_no_video p.placed.item (slice_parts p slice).1)

joined_first : (a s c d e f : Option Rule) → joined a None (option_or s c) d e f ≡ joined a s c d e f
joined_first None s c d e f = refl
joined_first (Some r) s c d e f = refl

joined_later : (a s c l : Option Rule) → joined a None (option_or s c) l None None ≡ option_or (option_or (option_or a s) c) l
joined_later a s c l =
    joined_first a s c l None None
    ∙ or_none (option_or (option_or (option_or (option_or a s) c) l) None)
    ∙ or_none (option_or (option_or (option_or a s) c) l)

pub first-rule : (past : List Judged) (p : Fact) → IsOfUnit p → is_picture p ≡ true → least_rule past (judged past p) ≡ first_of (tried_as first past (judged past p))
unfolding tried_as judged judgement seen facts_in
first-rule past p h picture =
    whole_rule past p
    ∙ joined_are (first_of (item_cases i)) (first_of (set_cases p)) (first_of (slice_cases (facts_in past) p)) pictures outputs mid
    (first_of (known_cases i)) None (option_or (first_of (segment_cases p)) (first_of (first_cases earlier p))) pictures outputs mid
    (slice_items p slice) (slice_sets p h slice)
    (slices-first (facts_in past) p slice picture ∙ first_append (segment_cases p) (first_cases earlier p))
    refl refl refl
    ∙ joined_first (first_of (known_cases i)) (first_of (segment_cases p)) (first_of (first_cases earlier p)) pictures outputs mid
    ∙ sym (first_joined (known_cases i) (segment_cases p) (first_cases earlier p) (picture_cases (seen past p) p) (output_cases past (judged past p)) (mid_cases earlier (seen past p) p))
  where
    i : Item
    i = p.placed.item

    earlier : List Placed
    earlier = map (λ (f : Fact). f.placed) (facts_in past)

    slice : is_slice p ≡ true
    slice = (and_parts (is_slice p) (is_first_segment p.placed.item.opening) picture).0

    pictures : Option Rule
    pictures = first_of (picture_cases (seen past p) p)

    outputs : Option Rule
    outputs = first_of (output_cases past (judged past p))

    mid : Option Rule
    mid = first_of (mid_cases earlier (seen past p) p)

pub later-rule : (past : List Judged) (p : Fact) → IsOfUnit p → is_slice p ≡ true → is_picture p ≡ false → least_rule past (judged past p) ≡ first_of (tried_as later past (judged past p))
unfolding tried_as judged judgement seen facts_in
later-rule past p h slice none =
    whole_rule past p
    ∙ joined_are (first_of (item_cases i)) (first_of (set_cases p)) (first_of (slice_cases (facts_in past) p)) (first_of (picture_cases (seen past p) p))
    (first_of (output_cases past (judged past p))) (first_of (mid_cases (map (λ (f : Fact). f.placed) (facts_in past)) (seen past p) p))
    (first_of (known_cases i)) None (option_or (first_of (segment_cases p)) (first_of (later_cases (facts_in past) p))) (first_of (list_cases (seen past p) p)) None None
    (slice_items p slice) (slice_sets p h slice)
    (slices-later (facts_in past) p none ∙ first_append (segment_cases p) (later_cases (facts_in past) p))
    (pictures-later (seen past p) p none)
    (outputs-other past (judged past p) (decoded_is past p none))
    (mid-other (map (λ (f : Fact). f.placed) (facts_in past)) (seen past p) p none)
    ∙ joined_later (first_of (known_cases i)) (first_of (segment_cases p)) (first_of (later_cases (facts_in past) p)) (first_of (list_cases (seen past p) p))
    ∙ sym (first_four (known_cases i) (segment_cases p) (later_cases (facts_in past) p) (list_cases (seen past p) p))
  where
    i : Item
    i = p.placed.item

-- ---- What is tried is what holds first

by_role : (past : List Judged) (p : Fact) (r : Role) → role_of p.placed.item ≡ r → first_of (tried_as r past (judged past p)) ≡ first_of (tried past (judged past p))
unfolding tried judged judgement
by_role past p r h = ap (λ r. first_of (tried_as r past (judged past p))) (sym h)

pub of_unit : (past : List Fact) (q : Placed) → IsOfUnit (fact past q)
unfolding fact
of_unit past q = record { sps = refl; pps = refl }

tried-rule : (past : List Judged) (p : Fact) → IsOfUnit p → least_rule past (judged past p) ≡ first_of (tried past (judged past p))
tried-rule past p h = go (is_vps i) refl (is_known i) refl (is_slice_kind i.head.kind) refl (is_first_segment i.opening) refl (is_sps_kind i.head.kind) refl (is_pps_kind i.head.kind) refl
  where
    i : Item
    i = p.placed.item

    as_ : (r : Role) → role_of i ≡ r → least_rule past (judged past p) ≡ first_of (tried_as r past (judged past p)) → least_rule past (judged past p) ≡ first_of (tried past (judged past p))
    as_ r is e = e ∙ by_role past p r is

    both : (a b : Bool) → a ≡ true → b ≡ true → (a && b) ≡ true
    both a b ha hb = ap (λ a. a && b) ha ∙ hb

    go : (v : Bool) → is_vps i ≡ v → (k : Bool) → is_known i ≡ k → (s : Bool) → is_slice_kind i.head.kind ≡ s → (f : Bool) → is_first_segment i.opening ≡ f →
        (a : Bool) → is_sps_kind i.head.kind ≡ a → (b : Bool) → is_pps_kind i.head.kind ≡ b → least_rule past (judged past p) ≡ first_of (tried past (judged past p))
    go true ev k ek s es f ef a ea b eb = as_ video_set (video_set-is i ev) (unfold tried_as judged judgement in video-rule past p h ev)
    go false ev false ek s es f ef a ea b eb = as_ stray (stray-is i ev ek) (unfold tried_as judged judgement in stray-rule past p h ev ek)
    go false ev true ek true es true ef a ea b eb =
        let picture : is_picture p ≡ true = both (is_slice p) (is_first_segment i.opening) (both (is_known i) (is_slice_kind i.head.kind) ek es) ef in
        as_ first (first-is i picture) (first-rule past p h picture)
    go false ev true ek true es false ef a ea b eb =
        let slice : is_slice p ≡ true = both (is_known i) (is_slice_kind i.head.kind) ek es in
        let none : is_picture p ≡ false = never (is_slice p) (is_first_segment i.opening) ef in
        as_ later (later-is i slice none) (later-rule past p h slice none)
    go false ev true ek false es f ef true ea b eb = as_ sequence_set (sequence_set-is i ek ea) (unfold tried_as judged judgement in sequence-rule past p h ea)
    go false ev true ek false es f ef false ea true eb = as_ picture_set (picture_set-is i ek eb) (unfold tried_as judged judgement in picture-rule past p h eb)
    go false ev true ek false es f ef false ea false eb = as_ passed (passed-is i ev ek es ea eb) (unfold tried_as judged judgement in passed-rule past p h ev es ea eb)

pub only-tried : (past : List Judged) (before : List Fact) (q : Placed) → least_rule past (judged past (fact before q)) ≡ first_of (tried past (judged past (fact before q)))
only-tried past before q = tried-rule past (fact before q) (of_unit before q)

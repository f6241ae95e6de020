-- What is left of the rules on heads, by what a unit is; and the rules on access units, which are tried together.
use Rattle.std.proofs.Common.{◌≡◌, Bool, true, false, cond, not, ◌&&◌, ◌||◌, List, [], ◌∷◌, length, None, Some, refl, ap, sym, ◌∙◌, map}
use Rattle.std.specs.Prelude.{is_none, nat_eq, nat_le, nat_lt, option_map}
use Rattle.std.specs.List.{find, list_any}
use Rattle.std.specs.Option.{option_or}
use Rattle.std.proofs.lemmas.Bool.{and_parts}
use Rattle.mv_syntax.specs.Words.{◌otherwise◌}
use Rattle.mv_rules.specs.declared.rule.Rule.{Rule}
use Rattle.mv_units.specs.Escapes.{payload}
use Rattle.mv_pictures.specs.AccessUnits.{Placed, first_slice_of, is_own_picture, layer, layer_order, no_base, orphan_slice, pictures_of, slices_of, tid, tid_differs}
use Rattle.mv_pictures.specs.Facts.{Fact}
use Rattle.mv_pictures.specs.Items.{Item, is_first_segment, is_known, is_picture, is_slice, is_vps}
use Rattle.mv_pictures.specs.Kinds.{is_pps_kind, is_slice_kind, is_sps_kind}
use Rattle.mv_pictures.specs.Layers.{whole}
use Rattle.mv_pictures.specs.Rules.{Case, case}
use Rattle.mv_pictures.specs.UnitRules.{names_other_vps, no_vps, sps_tid, vps_tid}
use Rattle.mv_tried.specs.Finer.{access_unit_cases, agreement_cases}
use Rattle.mv_tried.specs.Tried.{first_cases, first_of, later_cases}
use Rattle.mv_tried.proofs.Cases.{first_append, first_next, first_nothing, off, skip}
use Rattle.mv_tried.proofs.Roles.{picture_no_sequence, slice_no_picture, slice_no_sequence}

-- ---- A video parameter set in force

-- by whether none is in force, whether the unit is known, a sequence and a picture parameter set and a slice segment, whether
-- its layer is above 0, and whether it names another one
lacks_vps : Bool → Bool → Bool → Bool → Bool → Bool → Bool → Bool
lacks_vps none known sequence picture slice above named = (none && (sequence || picture || slice || above)) || (known && sequence && named)

names_other : Item → Bool
names_other i = option_map (names_other_vps (payload i.bytes)) (whole i.at) otherwise false

no_vps-is : (i : Item) (k a b s : Bool) → is_known i ≡ k → is_sps_kind i.head.kind ≡ a → is_pps_kind i.head.kind ≡ b → is_slice_kind i.head.kind ≡ s →
    no_vps i ≡ lacks_vps (is_none i.at) k a b s (nat_lt 0 i.head.layer) (names_other i)
unfolding no_vps lacks_vps names_other
no_vps-is i k a b s hk ha hb hs =
    ap (λ k. lacks_vps (is_none i.at) k (is_sps_kind i.head.kind) (is_pps_kind i.head.kind) (is_slice_kind i.head.kind) (nat_lt 0 i.head.layer) (names_other i)) hk
    ∙ ap (λ a. lacks_vps (is_none i.at) k a (is_pps_kind i.head.kind) (is_slice_kind i.head.kind) (nat_lt 0 i.head.layer) (names_other i)) ha
    ∙ ap (λ b. lacks_vps (is_none i.at) k a b (is_slice_kind i.head.kind) (nat_lt 0 i.head.layer) (names_other i)) hb
    ∙ ap (λ s. lacks_vps (is_none i.at) k a b s (nat_lt 0 i.head.layer) (names_other i)) hs

pub segment-needs : (i : Item) → is_slice i ≡ true → no_vps i ≡ is_none i.at
segment-needs i h =
    let parts : (is_known i ≡ true) × (is_slice_kind i.head.kind ≡ true) = and_parts (is_known i) (is_slice_kind i.head.kind) h in
    no_vps-is i true false false true parts.0 (slice_no_sequence i parts.1) (slice_no_picture i parts.1) parts.1
    ∙ go (is_none i.at) (nat_lt 0 i.head.layer) (names_other i)
  where
    go : (none above named : Bool) → lacks_vps none true false false true above named ≡ none
    go true above named = unfold lacks_vps in refl
    go false above named = unfold lacks_vps in refl

pub picture_set-needs : (i : Item) → is_known i ≡ true → is_pps_kind i.head.kind ≡ true → no_vps i ≡ is_none i.at
picture_set-needs i known h =
    no_vps-is i true false true (is_slice_kind i.head.kind) known (picture_no_sequence i h) h refl
    ∙ go (is_none i.at) (is_slice_kind i.head.kind) (nat_lt 0 i.head.layer) (names_other i)
  where
    go : (none slice above named : Bool) → lacks_vps none true false true slice above named ≡ none
    go true slice above named = unfold lacks_vps in refl
    go false slice above named = unfold lacks_vps in refl

pub sequence_set-needs : (i : Item) → is_known i ≡ true → is_sps_kind i.head.kind ≡ true →
    no_vps i ≡ (is_none i.at || (option_map (names_other_vps (payload i.bytes)) (whole i.at) otherwise false))
unfolding names_other
sequence_set-needs i known h =
    no_vps-is i true true (is_pps_kind i.head.kind) (is_slice_kind i.head.kind) known h refl refl
    ∙ go (is_none i.at) (is_pps_kind i.head.kind) (is_slice_kind i.head.kind) (nat_lt 0 i.head.layer) (names_other i)
  where
    go : (none picture slice above named : Bool) → lacks_vps none true true picture slice above named ≡ (none || named)
    go true picture slice above named = unfold lacks_vps in refl
    go false picture slice above named = unfold lacks_vps in refl

pub other-needs : (i : Item) → is_slice_kind i.head.kind ≡ false → is_sps_kind i.head.kind ≡ false → is_pps_kind i.head.kind ≡ false →
    no_vps i ≡ (is_none i.at && nat_lt 0 i.head.layer)
other-needs i s a b =
    no_vps-is i (is_known i) false false false refl a b s
    ∙ go (is_none i.at) (is_known i) (nat_lt 0 i.head.layer) (names_other i)
  where
    go : (none known above named : Bool) → lacks_vps none known false false false above named ≡ (none && above)
    go true true true named = unfold lacks_vps in refl
    go true true false named = unfold lacks_vps in refl
    go true false true named = unfold lacks_vps in refl
    go true false false named = unfold lacks_vps in refl
    go false true above named = unfold lacks_vps in refl
    go false false above named = unfold lacks_vps in refl

pub video_set-tid : (i : Item) → is_vps i ≡ true → vps_tid i ≡ nat_lt 0 i.head.tid
unfolding vps_tid
video_set-tid i h = ap (λ b. b && nat_lt 0 i.head.tid) h

pub sequence_set-tid : (i : Item) → is_known i ≡ true → is_sps_kind i.head.kind ≡ true → sps_tid i ≡ nat_lt 0 i.head.tid
unfolding sps_tid
sequence_set-tid i known h = ap (λ b. b && is_sps_kind i.head.kind && nat_lt 0 i.head.tid) known ∙ ap (λ b. true && b && nat_lt 0 i.head.tid) h

-- ---- Access units

-- a case before two lists
more : (c : Case) (xs ys : List Case) → first_of xs ≡ first_of ys → first_of (c ∷ xs) ≡ first_of (c ∷ ys)
more c xs ys h = first_next c xs ∙ ap (λ r. cond c.holds (Some c.rule) r) h ∙ sym (first_next c ys)

three : (a b c : Bool) → a ≡ false → (a && b && c) ≡ false
three a b c h = ap (λ a. a && b && c) h

no_orphan : (earlier : List Placed) (q : Placed) → is_picture q.item ≡ true → orphan_slice earlier q ≡ false
unfolding orphan_slice
no_orphan earlier q h =
    ap (λ b. is_slice q.item && not b && not (option_map (is_own_picture q) (find (λ (q : Placed). is_picture q.item) earlier) otherwise false)) h
    ∙ go (is_slice q.item) (not (option_map (is_own_picture q) (find (λ (q : Placed). is_picture q.item) earlier) otherwise false))
  where
    go : (a c : Bool) → (a && false && c) ≡ false
    go true c = refl
    go false c = refl

no_order : (earlier : List Placed) (q : Placed) → is_picture q.item ≡ false → layer_order earlier q ≡ false
unfolding layer_order
no_order earlier q h = off (is_picture q.item) (list_any (λ r. nat_le (layer q) (layer r)) (pictures_of q.au earlier)) h

no_tid : (earlier : List Placed) (q : Placed) → is_picture q.item ≡ false → tid_differs earlier q ≡ false
unfolding tid_differs
no_tid earlier q h = off (is_picture q.item) (option_map (λ r. not (nat_eq (tid q) (tid r))) (first_slice_of q.au earlier) otherwise false) h

base_case : List Placed → Placed → Case
base_case earlier q = case Rule.NoBase (no_base earlier q)

order_case : List Placed → Placed → Case
order_case earlier q = case Rule.LayerOrder (layer_order earlier q)

orphan_case : List Placed → Placed → Case
orphan_case earlier q = case Rule.OrphanSlice (orphan_slice earlier q)

tid_case : List Placed → Placed → Case
tid_case earlier q = case Rule.TidDiffers (tid_differs earlier q)

pub units-first : (earlier : List Placed) (p : Fact) → is_picture p.placed.item ≡ true → first_of (first_cases earlier p) ≡ first_of (access_unit_cases earlier p.placed)
unfolding first_cases access_unit_cases base_case order_case orphan_case tid_case
units-first earlier p h =
    let q : Placed = p.placed in
    more (base_case earlier q) (order_case earlier q ∷ tid_case earlier q ∷ []) (order_case earlier q ∷ orphan_case earlier q ∷ tid_case earlier q ∷ [])
    (more (order_case earlier q) (tid_case earlier q ∷ []) (orphan_case earlier q ∷ tid_case earlier q ∷ [])
    (sym (skip (orphan_case earlier q) (tid_case earlier q ∷ []) (no_orphan earlier q h))))

pub units-later : (past : List Fact) (p : Fact) → is_picture p.placed.item ≡ false →
    first_of (later_cases past p) ≡ option_or (first_of (access_unit_cases (map (λ (f : Fact). f.placed) past) p.placed)) (first_of (agreement_cases past p))
unfolding later_cases agreement_cases access_unit_cases base_case order_case orphan_case tid_case
units-later past p h =
    let q : Placed = p.placed in
    let earlier : List Placed = map (λ (f : Fact). f.placed) past in
    first_append (base_case earlier q ∷ orphan_case earlier q ∷ []) (agreement_cases past p)
    ∙ ap (λ r. option_or r (first_of (agreement_cases past p)))
    (more (base_case earlier q) (orphan_case earlier q ∷ []) (order_case earlier q ∷ orphan_case earlier q ∷ tid_case earlier q ∷ [])
    (sym (skip (order_case earlier q) (orphan_case earlier q ∷ tid_case earlier q ∷ []) (no_order earlier q h)
    ∙ more (orphan_case earlier q) (tid_case earlier q ∷ []) [] (skip (tid_case earlier q) [] (no_tid earlier q h)))))

pub units-other : (earlier : List Placed) (q : Placed) → is_slice q.item ≡ false → first_of (access_unit_cases earlier q) ≡ None
unfolding access_unit_cases no_base orphan_slice
units-other earlier q h =
    let none : is_picture q.item ≡ false = off (is_slice q.item) (is_first_segment q.item.opening) h in
    skip (case Rule.NoBase (no_base earlier q)) (case Rule.LayerOrder (layer_order earlier q) ∷ case Rule.OrphanSlice (orphan_slice earlier q) ∷ case Rule.TidDiffers (tid_differs earlier q) ∷ [])
    (three (is_slice q.item) (not (nat_eq (layer q) 0)) (nat_eq (length (slices_of q.au earlier)) 0) h)
    ∙ skip (case Rule.LayerOrder (layer_order earlier q)) (case Rule.OrphanSlice (orphan_slice earlier q) ∷ case Rule.TidDiffers (tid_differs earlier q) ∷ []) (no_order earlier q none)
    ∙ skip (case Rule.OrphanSlice (orphan_slice earlier q)) (case Rule.TidDiffers (tid_differs earlier q) ∷ [])
    (three (is_slice q.item) (not (is_picture q.item)) (not (option_map (is_own_picture q) (find (λ (q : Placed). is_picture q.item) earlier) otherwise false)) h)
    ∙ skip (case Rule.TidDiffers (tid_differs earlier q)) [] (no_tid earlier q none)
    ∙ first_nothing

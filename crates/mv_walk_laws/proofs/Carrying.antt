-- What the next unit carries, by what it is.
use Rattle.std.proofs.Common.{◌≡◌, ℕ, true, false, cond, ◌&&◌, List, None, Some, refl, ap, ◌∙◌}
use Rattle.mv_pictures.specs.AccessUnits.{placed}
use Rattle.mv_pictures.specs.Carried.{carried_pps, carried_sps}
use Rattle.mv_pictures.specs.Facts.{fact, max_sub_layers, pps_of_unit, sps_of_unit, turned}
use Rattle.mv_pictures.specs.Items.{Item, is_known, is_slice, is_vps, turns}
use Rattle.mv_pictures.specs.Kinds.{is_pps_kind, is_slice_kind, is_sps_kind}
use Rattle.mv_commuting.specs.OneMore.{fact_behind}
use Rattle.mv_tried.proofs.Cases.{never, off}
use Rattle.mv_tried.proofs.Roles.{picture_no_sequence, sequence_no_picture, slice_no_picture, slice_no_sequence, slice_no_video, video_no_picture, video_no_sequence}
use Rattle.std.proofs.lemmas.Bool.{and_parts}
use Rattle.mv_walk_laws.specs.Parts.{CarriesNothing}
use Rattle.mv_walk_laws.specs.Streams.{item_behind}
use Rattle.mv_walk_laws.proofs.Changes.{other-turns}

pub turned-is : (us : List (List ℕ)) (u : List ℕ) → turned (fact_behind us u) ≡ turns (item_behind us u)
unfolding fact placed
turned-is us u = refl

pub sps-is : (us : List (List ℕ)) (u : List ℕ) → (fact_behind us u).sps_unit ≡ sps_of_unit (item_behind us u)
unfolding fact placed
sps-is us u = refl

pub pps-is : (us : List (List ℕ)) (u : List ℕ) → (fact_behind us u).pps_unit ≡ pps_of_unit (item_behind us u)
unfolding fact placed
pps-is us u = refl

sps_none : (i : Item) → (is_known i && is_sps_kind i.head.kind) ≡ false → sps_of_unit i ≡ None
unfolding sps_of_unit
sps_none i h = ap (λ b. cond b (Some (carried_sps (max_sub_layers i.at) i.head i.bytes)) None) h

pps_none : (i : Item) → (is_known i && is_pps_kind i.head.kind) ≡ false → pps_of_unit i ≡ None
unfolding pps_of_unit
pps_none i h = ap (λ b. cond b (Some (carried_pps i.head i.bytes)) None) h

pub stray-carries : (us : List (List ℕ)) (u : List ℕ) → is_vps (item_behind us u) ≡ false → is_known (item_behind us u) ≡ false → CarriesNothing (fact_behind us u)
stray-carries us u plain unknown = record {
  stays = turned-is us u ∙ other-turns (item_behind us u) plain;
  no_sps = sps-is us u ∙ sps_none (item_behind us u) (off (is_known (item_behind us u)) (is_sps_kind (item_behind us u).head.kind) unknown);
  no_pps = pps-is us u ∙ pps_none (item_behind us u) (off (is_known (item_behind us u)) (is_pps_kind (item_behind us u).head.kind) unknown);
}

pub other-carries : (us : List (List ℕ)) (u : List ℕ) → is_vps (item_behind us u) ≡ false → is_sps_kind (item_behind us u).head.kind ≡ false →
    is_pps_kind (item_behind us u).head.kind ≡ false → CarriesNothing (fact_behind us u)
other-carries us u plain no_sps no_pps = record {
  stays = turned-is us u ∙ other-turns (item_behind us u) plain;
  no_sps = sps-is us u ∙ sps_none (item_behind us u) (never (is_known (item_behind us u)) (is_sps_kind (item_behind us u).head.kind) no_sps);
  no_pps = pps-is us u ∙ pps_none (item_behind us u) (never (is_known (item_behind us u)) (is_pps_kind (item_behind us u).head.kind) no_pps);
}

-- a video parameter set that isn't changed
pub video-carries : (us : List (List ℕ)) (u : List ℕ) → is_vps (item_behind us u) ≡ true → turns (item_behind us u) ≡ false → CarriesNothing (fact_behind us u)
video-carries us u is same = record {
  stays = turned-is us u ∙ same;
  no_sps = sps-is us u ∙ sps_none (item_behind us u) (never (is_known (item_behind us u)) (is_sps_kind (item_behind us u).head.kind) (video_no_sequence (item_behind us u) is));
  no_pps = pps-is us u ∙ pps_none (item_behind us u) (never (is_known (item_behind us u)) (is_pps_kind (item_behind us u).head.kind) (video_no_picture (item_behind us u) is));
}

-- a sequence parameter set carries no picture parameter set, nor the other way round
pub sequence-carries : (us : List (List ℕ)) (u : List ℕ) → is_sps_kind (item_behind us u).head.kind ≡ true → (fact_behind us u).pps_unit ≡ None
sequence-carries us u is = pps-is us u ∙ pps_none (item_behind us u) (never (is_known (item_behind us u)) (is_pps_kind (item_behind us u).head.kind) (sequence_no_picture (item_behind us u) is))

pub picture-carries : (us : List (List ℕ)) (u : List ℕ) → is_pps_kind (item_behind us u).head.kind ≡ true → (fact_behind us u).sps_unit ≡ None
picture-carries us u is = sps-is us u ∙ sps_none (item_behind us u) (never (is_known (item_behind us u)) (is_sps_kind (item_behind us u).head.kind) (picture_no_sequence (item_behind us u) is))

-- a slice segment carries neither
pub slice-carries : (us : List (List ℕ)) (u : List ℕ) → is_slice (item_behind us u) ≡ true → CarriesNothing (fact_behind us u)
slice-carries us u slice =
    let kind : is_slice_kind (item_behind us u).head.kind ≡ true = (and_parts (is_known (item_behind us u)) (is_slice_kind (item_behind us u).head.kind) slice).1 in
    other-carries us u (slice_no_video (item_behind us u) kind) (slice_no_sequence (item_behind us u) kind) (slice_no_picture (item_behind us u) kind)

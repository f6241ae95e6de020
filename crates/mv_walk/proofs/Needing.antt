-- A slice segment and a sequence parameter set come where a video parameter set is in force.
use Rattle.std.proofs.Common.{◌≡◌, ℕ, Bool, true, false, ◌&&◌, List, None, Some, refl, ap, ◌∙◌}
use Rattle.std.specs.Prelude.{◌||◌, Ok, is_none, nat_lt}
use Rattle.mv_units.specs.declared.head.UnitHead.{UnitHead}
use Rattle.mv_pictures.specs.Items.{Item, is_known, is_vps}
use Rattle.mv_pictures.specs.Kinds.{is_pps_kind, is_slice_kind, is_sps_kind}
use Rattle.mv_pictures.specs.Layers.{InForce}
use Rattle.mv_pictures.specs.UnitRules.{needs_vps}
use Rattle.mv_walk_sets.specs.InForce.{in_force}
use Rattle.mv_walk_sets.specs.Roles.{role}
use Rattle.mv_walk_sets.specs.declared.roles.Role.{Role}
use Rattle.mv_walk_laws.specs.Streams.{item_behind}
use Rattle.mv_walk_laws.proofs.OneMore.{vps-other}
use Rattle.mv_walk.specs.Taking.{MayTake}
use Rattle.mv_walk.specs.declared.course.Course.{Course}
use Rattle.mv_walk.proofs.RoleParts.{role_by, slice_is, sps_is}

set-parts : (v n k s p l : Bool) → role_by v n k s p l ≡ Ok Role.Sps → n ≡ false
set-parts true n k s p l h = absurd (cc)
set-parts false true k s p l h = absurd (cc)
set-parts false false k s p l h = refl

segment-parts : (v n k s p l : Bool) → role_by v n k s p l ≡ Ok Role.Slice → n ≡ false
segment-parts true n k s p l h = absurd (cc)
segment-parts false true k s p l h = absurd (cc)
segment-parts false false k s p l h = refl

first-or : (a b c d : Bool) → a ≡ true → (a || b || c || d) ≡ true
first-or true b c d h = refl
first-or false b c d wrong = absurd (cc)

third-or : (a b c d : Bool) → c ≡ true → (a || b || c || d) ≡ true
third-or true b c d h = refl
third-or false true c d h = refl
third-or false false true d h = refl
third-or false false false d wrong = absurd (cc)

there : (at : InForce) (needs : Bool) → (is_none at && needs) ≡ false → needs ≡ true → at ≡ None → ⊥
there None true wrong is none = absurd (cc)
there None false h wrong none = absurd (cc)
there (Some v) needs h is none = absurd (cc)

segment-at : (i : Item) → role i ≡ Ok Role.Slice → i.at ≡ None → ⊥
unfolding role
segment-at i h =
    there i.at (needs_vps i) (segment-parts (is_vps i) (is_none i.at && needs_vps i) (is_known i) (is_sps_kind i.head.kind) (is_pps_kind i.head.kind) (is_slice_kind i.head.kind) h)
    (third-or (is_sps_kind i.head.kind) (is_pps_kind i.head.kind) (is_slice_kind i.head.kind) (nat_lt 0 i.head.layer) (slice_is i h).kind)

set-at : (i : Item) → role i ≡ Ok Role.Sps → i.at ≡ None → ⊥
unfolding role
set-at i h =
    there i.at (needs_vps i) (set-parts (is_vps i) (is_none i.at && needs_vps i) (is_known i) (is_sps_kind i.head.kind) (is_pps_kind i.head.kind) (is_slice_kind i.head.kind) h)
    (first-or (is_sps_kind i.head.kind) (is_pps_kind i.head.kind) (is_slice_kind i.head.kind) (nat_lt 0 i.head.layer) (sps_is i h).kind)

pub segment-needs : {R W P : Type 0} (c : Course R W P) (u : List ℕ) (h : UnitHead) → MayTake c u h Role.Slice → c.vps ≡ None → ⊥
unfolding in_force
segment-needs c u h may none =
    let i : Item = item_behind may.units u in
    segment-at i may.its_role.role_is (vps-other may.units u (slice_is i may.its_role.role_is).no_video ∙ may.stood.vps_is ∙ ap in_force none)

pub set-needs : {R W P : Type 0} (c : Course R W P) (u : List ℕ) (h : UnitHead) → MayTake c u h Role.Sps → c.vps ≡ None → ⊥
unfolding in_force
set-needs c u h may none =
    let i : Item = item_behind may.units u in
    set-at i may.its_role.role_is (vps-other may.units u (sps_is i may.its_role.role_is).no_video ∙ may.stood.vps_is ∙ ap in_force none)

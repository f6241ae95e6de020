-- What a unit's role says of the unit.
use Rattle.std.proofs.Common.{◌≡◌, Bool, true, false, cond, not, ◌&&◌, refl}
use Rattle.std.specs.Prelude.{Result, Ok, Err, is_none}
use Rattle.mv_rules.specs.declared.rule.Rule.{Rule}
use Rattle.mv_pictures.specs.Items.{Item, is_known, is_vps}
use Rattle.mv_pictures.specs.Kinds.{is_pps_kind, is_slice_kind, is_sps_kind}
use Rattle.mv_pictures.specs.UnitRules.{needs_vps}
use Rattle.mv_walk_sets.specs.Roles.{role}
use Rattle.mv_walk_sets.specs.declared.roles.Role.{Role}

-- by whether it is a video parameter set, none is in force and it needs one, it is known, and by its type
abbrev pub role_by : Bool → Bool → Bool → Bool → Bool → Bool → Result Role Rule
role_by v n k s p l =
    cond v (Ok Role.Vps) (cond n (Err Rule.NoVps) (cond (not k) (Ok Role.Stray) (Ok (cond s Role.Sps (cond p Role.Pps (cond l Role.Slice Role.Passed))))))

pub record IsStray (v k : Bool) : Type 0 where
  pub no_video : v ≡ false
  pub unknown : k ≡ false

pub stray_parts : (v n k s p l : Bool) → role_by v n k s p l ≡ Ok Role.Stray → IsStray v k
stray_parts true n k s p l h = absurd (let e : Path (Result Role Rule) (Ok Role.Vps) (Ok Role.Stray) = h in cc)
stray_parts false true k s p l h = absurd (let e : Path (Result Role Rule) (Err Rule.NoVps) (Ok Role.Stray) = h in cc)
stray_parts false false false s p l h = record { no_video = refl; unknown = refl }
stray_parts false false true true p l h = absurd (let e : Path (Result Role Rule) (Ok Role.Sps) (Ok Role.Stray) = h in cc)
stray_parts false false true false true l h = absurd (let e : Path (Result Role Rule) (Ok Role.Pps) (Ok Role.Stray) = h in cc)
stray_parts false false true false false true h = absurd (let e : Path (Result Role Rule) (Ok Role.Slice) (Ok Role.Stray) = h in cc)
stray_parts false false true false false false h = absurd (let e : Path (Result Role Rule) (Ok Role.Passed) (Ok Role.Stray) = h in cc)

pub record IsKind (v k s p l : Bool) (is_sps is_pps is_slice : Bool) : Type 0 where
  pub no_video : v ≡ false
  pub known : k ≡ true
  pub sequence : s ≡ is_sps
  pub picture : p ≡ is_pps
  pub slice : l ≡ is_slice

pub passed_parts : (v n k s p l : Bool) → role_by v n k s p l ≡ Ok Role.Passed → IsKind v k s p l false false false
passed_parts true n k s p l h = absurd (let e : Path (Result Role Rule) (Ok Role.Vps) (Ok Role.Passed) = h in cc)
passed_parts false true k s p l h = absurd (let e : Path (Result Role Rule) (Err Rule.NoVps) (Ok Role.Passed) = h in cc)
passed_parts false false false s p l h = absurd (let e : Path (Result Role Rule) (Ok Role.Stray) (Ok Role.Passed) = h in cc)
passed_parts false false true true p l h = absurd (let e : Path (Result Role Rule) (Ok Role.Sps) (Ok Role.Passed) = h in cc)
passed_parts false false true false true l h = absurd (let e : Path (Result Role Rule) (Ok Role.Pps) (Ok Role.Passed) = h in cc)
passed_parts false false true false false true h = absurd (let e : Path (Result Role Rule) (Ok Role.Slice) (Ok Role.Passed) = h in cc)
passed_parts false false true false false false h = record { no_video = refl; known = refl; sequence = refl; picture = refl; slice = refl }

pub record IsSet (v k s : Bool) : Type 0 where
  pub no_video : v ≡ false
  pub known : k ≡ true
  pub kind : s ≡ true

pub sps_parts : (v n k s p l : Bool) → role_by v n k s p l ≡ Ok Role.Sps → IsSet v k s
sps_parts true n k s p l h = absurd (let e : Path (Result Role Rule) (Ok Role.Vps) (Ok Role.Sps) = h in cc)
sps_parts false true k s p l h = absurd (let e : Path (Result Role Rule) (Err Rule.NoVps) (Ok Role.Sps) = h in cc)
sps_parts false false false s p l h = absurd (let e : Path (Result Role Rule) (Ok Role.Stray) (Ok Role.Sps) = h in cc)
sps_parts false false true true p l h = record { no_video = refl; known = refl; kind = refl }
sps_parts false false true false true l h = absurd (let e : Path (Result Role Rule) (Ok Role.Pps) (Ok Role.Sps) = h in cc)
sps_parts false false true false false true h = absurd (let e : Path (Result Role Rule) (Ok Role.Slice) (Ok Role.Sps) = h in cc)
sps_parts false false true false false false h = absurd (let e : Path (Result Role Rule) (Ok Role.Passed) (Ok Role.Sps) = h in cc)

pub pps_parts : (v n k s p l : Bool) → role_by v n k s p l ≡ Ok Role.Pps → IsSet v k p
pps_parts true n k s p l h = absurd (let e : Path (Result Role Rule) (Ok Role.Vps) (Ok Role.Pps) = h in cc)
pps_parts false true k s p l h = absurd (let e : Path (Result Role Rule) (Err Rule.NoVps) (Ok Role.Pps) = h in cc)
pps_parts false false false s p l h = absurd (let e : Path (Result Role Rule) (Ok Role.Stray) (Ok Role.Pps) = h in cc)
pps_parts false false true true p l h = absurd (let e : Path (Result Role Rule) (Ok Role.Sps) (Ok Role.Pps) = h in cc)
pps_parts false false true false true l h = record { no_video = refl; known = refl; kind = refl }
pps_parts false false true false false true h = absurd (let e : Path (Result Role Rule) (Ok Role.Slice) (Ok Role.Pps) = h in cc)
pps_parts false false true false false false h = absurd (let e : Path (Result Role Rule) (Ok Role.Passed) (Ok Role.Pps) = h in cc)

pub slice_parts : (v n k s p l : Bool) → role_by v n k s p l ≡ Ok Role.Slice → IsSet v k l
slice_parts true n k s p l h = absurd (let e : Path (Result Role Rule) (Ok Role.Vps) (Ok Role.Slice) = h in cc)
slice_parts false true k s p l h = absurd (let e : Path (Result Role Rule) (Err Rule.NoVps) (Ok Role.Slice) = h in cc)
slice_parts false false false s p l h = absurd (let e : Path (Result Role Rule) (Ok Role.Stray) (Ok Role.Slice) = h in cc)
slice_parts false false true true p l h = absurd (let e : Path (Result Role Rule) (Ok Role.Sps) (Ok Role.Slice) = h in cc)
slice_parts false false true false true l h = absurd (let e : Path (Result Role Rule) (Ok Role.Pps) (Ok Role.Slice) = h in cc)
slice_parts false false true false false true h = record { no_video = refl; known = refl; kind = refl }
slice_parts false false true false false false h = absurd (let e : Path (Result Role Rule) (Ok Role.Passed) (Ok Role.Slice) = h in cc)

pub vps_parts : (v n k s p l : Bool) → role_by v n k s p l ≡ Ok Role.Vps → v ≡ true
vps_parts true n k s p l h = refl
vps_parts false true k s p l h = absurd (let e : Path (Result Role Rule) (Err Rule.NoVps) (Ok Role.Vps) = h in cc)
vps_parts false false false s p l h = absurd (let e : Path (Result Role Rule) (Ok Role.Stray) (Ok Role.Vps) = h in cc)
vps_parts false false true true p l h = absurd (let e : Path (Result Role Rule) (Ok Role.Sps) (Ok Role.Vps) = h in cc)
vps_parts false false true false true l h = absurd (let e : Path (Result Role Rule) (Ok Role.Pps) (Ok Role.Vps) = h in cc)
vps_parts false false true false false true h = absurd (let e : Path (Result Role Rule) (Ok Role.Slice) (Ok Role.Vps) = h in cc)
vps_parts false false true false false false h = absurd (let e : Path (Result Role Rule) (Ok Role.Passed) (Ok Role.Vps) = h in cc)

-- ---- The same of an item

abbrev pub IsOfKind : Item → Bool → Bool → Bool → Type 0
IsOfKind i = IsKind (is_vps i) (is_known i) (is_sps_kind i.head.kind) (is_pps_kind i.head.kind) (is_slice_kind i.head.kind)

pub stray_is : (i : Item) → role i ≡ Ok Role.Stray → IsStray (is_vps i) (is_known i)
unfolding role
stray_is i h = stray_parts (is_vps i) (is_none i.at && needs_vps i) (is_known i) (is_sps_kind i.head.kind) (is_pps_kind i.head.kind) (is_slice_kind i.head.kind) h

pub passed_is : (i : Item) → role i ≡ Ok Role.Passed → IsOfKind i false false false
unfolding role
passed_is i h = passed_parts (is_vps i) (is_none i.at && needs_vps i) (is_known i) (is_sps_kind i.head.kind) (is_pps_kind i.head.kind) (is_slice_kind i.head.kind) h

pub sps_is : (i : Item) → role i ≡ Ok Role.Sps → IsSet (is_vps i) (is_known i) (is_sps_kind i.head.kind)
unfolding role
sps_is i h = sps_parts (is_vps i) (is_none i.at && needs_vps i) (is_known i) (is_sps_kind i.head.kind) (is_pps_kind i.head.kind) (is_slice_kind i.head.kind) h

pub pps_is : (i : Item) → role i ≡ Ok Role.Pps → IsSet (is_vps i) (is_known i) (is_pps_kind i.head.kind)
unfolding role
pps_is i h = pps_parts (is_vps i) (is_none i.at && needs_vps i) (is_known i) (is_sps_kind i.head.kind) (is_pps_kind i.head.kind) (is_slice_kind i.head.kind) h

pub slice_is : (i : Item) → role i ≡ Ok Role.Slice → IsSet (is_vps i) (is_known i) (is_slice_kind i.head.kind)
unfolding role
slice_is i h = slice_parts (is_vps i) (is_none i.at && needs_vps i) (is_known i) (is_sps_kind i.head.kind) (is_pps_kind i.head.kind) (is_slice_kind i.head.kind) h

pub video_is : (i : Item) → role i ≡ Ok Role.Vps → is_vps i ≡ true
unfolding role
video_is i h = vps_parts (is_vps i) (is_none i.at && needs_vps i) (is_known i) (is_sps_kind i.head.kind) (is_pps_kind i.head.kind) (is_slice_kind i.head.kind) h

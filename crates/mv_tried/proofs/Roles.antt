-- What a unit is to the rules, by its kind; no unit is of two kinds.
use Rattle.std.proofs.Common.{◌≡◌, ℕ, Bool, true, false, ◌&&◌, refl, ap, sym, ◌∙◌}
use Rattle.std.specs.Prelude.{nat_eq}
use Rattle.std.proofs.lemmas.Bool.{and_parts, eqb-true}
use Rattle.mv_pictures.specs.Kinds.{is_pps_kind, is_slice_kind, is_sps_kind, is_vps_kind}
use Rattle.mv_pictures.specs.Items.{Item, is_first_segment, is_known, is_picture, is_slice, is_vps}
use Rattle.mv_tried.specs.Tried.{first, later, passed, picture_set, role, role_of, sequence_set, stray, video_set}

-- a type is no other one
apart : (kind n : ℕ) (test : ℕ → Bool) → nat_eq kind n ≡ true → test n ≡ false → test kind ≡ false
apart kind n test h other = ap test (eqb-true kind n h) ∙ other

pub video_no_slice : (i : Item) → is_vps i ≡ true → is_slice_kind i.head.kind ≡ false
video_no_slice i h = apart i.head.kind 32 is_slice_kind (and_parts (is_vps_kind i.head.kind) (nat_eq i.head.layer 0) h).0 refl

pub video_no_sequence : (i : Item) → is_vps i ≡ true → is_sps_kind i.head.kind ≡ false
video_no_sequence i h = apart i.head.kind 32 is_sps_kind (and_parts (is_vps_kind i.head.kind) (nat_eq i.head.layer 0) h).0 refl

pub video_no_picture : (i : Item) → is_vps i ≡ true → is_pps_kind i.head.kind ≡ false
video_no_picture i h = apart i.head.kind 32 is_pps_kind (and_parts (is_vps_kind i.head.kind) (nat_eq i.head.layer 0) h).0 refl

pub sequence_no_slice : (i : Item) → is_sps_kind i.head.kind ≡ true → is_slice_kind i.head.kind ≡ false
sequence_no_slice i h = apart i.head.kind 33 is_slice_kind h refl

pub sequence_no_picture : (i : Item) → is_sps_kind i.head.kind ≡ true → is_pps_kind i.head.kind ≡ false
sequence_no_picture i h = apart i.head.kind 33 is_pps_kind h refl

pub picture_no_slice : (i : Item) → is_pps_kind i.head.kind ≡ true → is_slice_kind i.head.kind ≡ false
picture_no_slice i h = apart i.head.kind 34 is_slice_kind h refl

-- what is true of a kind excludes the others
excludes : (a b : Bool) → (b ≡ true → a ≡ false) → a ≡ true → b ≡ false
excludes a true h k = sym k ∙ h refl
excludes a false h k = refl

pub slice_no_video : (i : Item) → is_slice_kind i.head.kind ≡ true → is_vps i ≡ false
slice_no_video i h = excludes (is_slice_kind i.head.kind) (is_vps i) (video_no_slice i) h

pub slice_no_sequence : (i : Item) → is_slice_kind i.head.kind ≡ true → is_sps_kind i.head.kind ≡ false
slice_no_sequence i h = excludes (is_slice_kind i.head.kind) (is_sps_kind i.head.kind) (sequence_no_slice i) h

pub slice_no_picture : (i : Item) → is_slice_kind i.head.kind ≡ true → is_pps_kind i.head.kind ≡ false
slice_no_picture i h = excludes (is_slice_kind i.head.kind) (is_pps_kind i.head.kind) (picture_no_slice i) h

pub sequence_no_video : (i : Item) → is_sps_kind i.head.kind ≡ true → is_vps i ≡ false
sequence_no_video i h = excludes (is_sps_kind i.head.kind) (is_vps i) (video_no_sequence i) h

pub picture_no_video : (i : Item) → is_pps_kind i.head.kind ≡ true → is_vps i ≡ false
picture_no_video i h = excludes (is_pps_kind i.head.kind) (is_vps i) (video_no_picture i) h

pub picture_no_sequence : (i : Item) → is_pps_kind i.head.kind ≡ true → is_sps_kind i.head.kind ≡ false
picture_no_sequence i h = excludes (is_pps_kind i.head.kind) (is_sps_kind i.head.kind) (sequence_no_picture i) h

-- ---- Roles

pub role_is : (i : Item) (v k s f a b : Bool) → is_vps i ≡ v → is_known i ≡ k → is_slice_kind i.head.kind ≡ s → is_first_segment i.opening ≡ f → is_sps_kind i.head.kind ≡ a → is_pps_kind i.head.kind ≡ b →
    role_of i ≡ role v k s f a b
unfolding role_of
role_is i v k s f a b hv hk hs hf ha hb =
    ap (λ v. role v (is_known i) (is_slice_kind i.head.kind) (is_first_segment i.opening) (is_sps_kind i.head.kind) (is_pps_kind i.head.kind)) hv
    ∙ ap (λ k. role v k (is_slice_kind i.head.kind) (is_first_segment i.opening) (is_sps_kind i.head.kind) (is_pps_kind i.head.kind)) hk
    ∙ ap (λ s. role v k s (is_first_segment i.opening) (is_sps_kind i.head.kind) (is_pps_kind i.head.kind)) hs
    ∙ ap (λ f. role v k s f (is_sps_kind i.head.kind) (is_pps_kind i.head.kind)) hf
    ∙ ap (λ a. role v k s f a (is_pps_kind i.head.kind)) ha
    ∙ ap (λ b. role v k s f a b) hb

pub video_set-is : (i : Item) → is_vps i ≡ true → role_of i ≡ video_set
video_set-is i h = role_is i true (is_known i) (is_slice_kind i.head.kind) (is_first_segment i.opening) (is_sps_kind i.head.kind) (is_pps_kind i.head.kind) h refl refl refl refl refl

pub stray-is : (i : Item) → is_vps i ≡ false → is_known i ≡ false → role_of i ≡ stray
stray-is i h k = role_is i false false (is_slice_kind i.head.kind) (is_first_segment i.opening) (is_sps_kind i.head.kind) (is_pps_kind i.head.kind) h k refl refl refl refl

pub first-is : (i : Item) → is_picture i ≡ true → role_of i ≡ first
first-is i h =
    let parts : (is_slice i ≡ true) × (is_first_segment i.opening ≡ true) = and_parts (is_slice i) (is_first_segment i.opening) h in
    let known : (is_known i ≡ true) × (is_slice_kind i.head.kind ≡ true) = and_parts (is_known i) (is_slice_kind i.head.kind) parts.0 in
    role_is i false true true true (is_sps_kind i.head.kind) (is_pps_kind i.head.kind) (slice_no_video i known.1) known.0 known.1 parts.1 refl refl

pub later-is : (i : Item) → is_slice i ≡ true → is_picture i ≡ false → role_of i ≡ later
later-is i h none =
    let known : (is_known i ≡ true) × (is_slice_kind i.head.kind ≡ true) = and_parts (is_known i) (is_slice_kind i.head.kind) h in
    role_is i false true true false (is_sps_kind i.head.kind) (is_pps_kind i.head.kind) (slice_no_video i known.1) known.0 known.1
    (sym (ap (λ b. b && is_first_segment i.opening) h) ∙ none) refl refl

pub sequence_set-is : (i : Item) → is_known i ≡ true → is_sps_kind i.head.kind ≡ true → role_of i ≡ sequence_set
sequence_set-is i known h =
    role_is i false true false (is_first_segment i.opening) true (is_pps_kind i.head.kind) (sequence_no_video i h) known (sequence_no_slice i h) refl h refl

pub picture_set-is : (i : Item) → is_known i ≡ true → is_pps_kind i.head.kind ≡ true → role_of i ≡ picture_set
picture_set-is i known h =
    role_is i false true false (is_first_segment i.opening) false true (picture_no_video i h) known (picture_no_slice i h) refl (picture_no_sequence i h) h

pub passed-is : (i : Item) → is_vps i ≡ false → is_known i ≡ true → is_slice_kind i.head.kind ≡ false → is_sps_kind i.head.kind ≡ false → is_pps_kind i.head.kind ≡ false → role_of i ≡ passed
passed-is i v k s a b = role_is i false true false (is_first_segment i.opening) false false v k s refl a b

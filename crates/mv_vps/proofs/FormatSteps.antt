-- The chroma format and bit depths of formats: those that were coded last.
use Rattle.std.proofs.Common.{◌≡◌, ℕ, zero, suc, ◌+◌, ◌<◌, ◌≤◌, Bool, false, List, [], ◌∷◌, ◌++◌, length, get_or, take, map, Option, Some, None, refl, ap, ◌∙◌, arith, nat_lt}
use Rattle.std.proofs.lemmas.List.{take_more}
use Rattle.mv_syntax.specs.Table.{EachValid, Valid, when}
use Rattle.mv_syntax.specs.Loops.{items}
use Rattle.mv_syntax.specs.Words.{◌otherwise◌, last_coded, is_set}
use Rattle.mv_vpsext.specs.declared.rep_format.ChromaAndDepth.{ChromaAndDepth}
use Rattle.mv_vpsext.specs.declared.rep_format.RepFormat.{RepFormat}
use Rattle.mv_vpsext.specs.Formats.{chroma_and_depth, rep_format, rep_formats, formats}
use Rattle.mv_vpsext.specs.Args.{VpsArgsValue}
use Rattle.mv_vpsext.specs.VpsExt.{VpsExtValue, vps_extension}
use Rattle.mv_vps.specs.Formats.{no_chroma, chroma_behind}

-- what was coded last, with one more
pub last-push : {A : Type 0} (os : List (Option A)) (o : Option A) (stated : A) → last_coded (os ++ o ∷ []) stated ≡ o otherwise (last_coded os stated)
last-push [] o stated = refl
last-push (p ∷ os) o stated = last-push os o (p otherwise stated)

pub map-push : {A B : Type 0} (f : A → B) (xs : List A) (x : A) → map f (xs ++ x ∷ []) ≡ map f xs ++ f x ∷ []
map-push f [] x = refl
map-push f (y ∷ xs) x = ap (λ l. f y ∷ l) (map-push f xs x)

pub chroma_more : (all : List RepFormat) (i : ℕ) (d : RepFormat) → i < length all
    → chroma_behind (take (i + 1) all) ≡ (get_or all i d).chroma_and_depth otherwise (chroma_behind (take i all))
chroma_more all i d h =
    ap chroma_behind (take_more all i d h)
    ∙ ap (λ os. last_coded os no_chroma) (map-push (λ (f : RepFormat). f.chroma_and_depth) (take i all) (get_or all i d))
    ∙ last-push (map (λ (f : RepFormat). f.chroma_and_depth) (take i all)) (get_or all i d).chroma_and_depth no_chroma

pub ruleset chroma_steps = (chroma_more)

-- the bit depths of valid formats are at most 16
abbrev pub Small : ChromaAndDepth → Type 0
Small c = (c.bit_depth_vps_luma_minus8 ≤ 8) × (c.bit_depth_vps_chroma_minus8 ≤ 8)

within : (n : ℕ) → nat_lt 8 n ≡ false → n ≤ 8
within n e = grind arith

pub chroma_small : (c : ChromaAndDepth) → Valid chroma_and_depth c → Small c
unfolding chroma_and_depth
chroma_small c h = (within c.bit_depth_vps_luma_minus8 h.0.1.1.0.1, within c.bit_depth_vps_chroma_minus8 h.0.1.1.1.1)

small_if : (present : Bool) (o : Option ChromaAndDepth) (stated : ChromaAndDepth) → Small stated → Valid (when present chroma_and_depth) o → Small (o otherwise stated)
small_if present None stated small h = small
small_if present (Some c) stated small h = chroma_small c h.1

pub format_small : (i : ℕ) (f : RepFormat) (stated : ChromaAndDepth) → Small stated → Valid (rep_format i) f → Small (f.chroma_and_depth otherwise stated)
unfolding rep_format
format_small i f stated small h = small_if (is_set f.chroma_and_bit_depth_vps_present_flag) f.chroma_and_depth stated small h.0.1.1.1.0

pub all_small : (before all : List RepFormat) (m : ℕ) (stated : ChromaAndDepth) → Small stated → EachValid (λ earlier f. Valid (rep_format (0 + length earlier)) f) before all
    → Small (last_coded (map (λ (f : RepFormat). f.chroma_and_depth) (take m all)) stated)
all_small before all zero stated small h = small
all_small before [] (suc m) stated small h = small
all_small before (f ∷ all) (suc m) stated small h =
    all_small (before ++ f ∷ []) all m (f.chroma_and_depth otherwise stated) (format_small (0 + length before) f stated small h.0) h.1

-- the formats of a valid extension are small
pub formats_small : (n : ℕ) (all : List RepFormat) (m : ℕ) → Valid (rep_formats n) all → Small (chroma_behind (take m all))
unfolding rep_formats items
formats_small n all m h = all_small [] all m no_chroma (omega arith, omega arith) h.1

pub ext_small : (args : VpsArgsValue) (ext : VpsExtValue) (m : ℕ) → Valid (vps_extension args) ext → Small (chroma_behind (take m ext.formats.rep_formats))
unfolding vps_extension formats
ext_small args ext m h = formats_small ext.formats.vps_num_rep_formats_minus1 ext.formats.rep_formats m h.0.1.1.1.1.0.0.1.0

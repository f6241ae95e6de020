-- What a valid set is known by, and the sets before it.
use Rattle.std.proofs.Common.{◌≡◌, ℕ, zero, suc, ◌+◌, ◌-◌, ◌*◌, ◌^◌, ◌<◌, ◌≤◌, Bool, true, false, ◌&&◌, not, List, [], ◌∷◌, ◌++◌, length, get_or, take, refl, sym, ap, subst, ◌∙◌, append_assoc, append-nil, arith, Option, Some, None}
use Rattle.std.specs.Prelude.{if◌then◌else◌, nat_lt, nat_eq}
use Rattle.std.specs.List.{All}
use Rattle.std.proofs.lemmas.List.Elements.{All-weaker, All-from_get_or}
use Rattle.std.proofs.lemmas.List.{get_or-take, length-take-le}
use Rattle.std.proofs.lemmas.Bool.{ltb-true, ltb-false}
use Rattle.mv_syntax.specs.Table.{Valid, EachValid, when, u, ue}
use Rattle.mv_syntax.specs.Printed.{Output, printed}
use Rattle.mv_syntax.specs.Words.{◌unless◌, over, or_zero, coded_set}
use Rattle.mv_syntax.specs.Loops.{each, columns}
use Rattle.mv_syntax.proofs.LoopLaws.{each-valid, columns-lengths, columns-valid}
use Rattle.mv_short_sets.specs.ShortSetValue.{ShortSetValue}
use Rattle.mv_short_sets.specs.declared.delta.Delta.{Delta}
use Rattle.mv_short_sets.specs.declared.delta.Side.{Side}
use Rattle.mv_short_sets.specs.declared.delta.Side.TheVariants.{Before, After}
use Rattle.mv_short_sets.specs.Deltas.{IsSided, IsNear, predicted, direct, reference, deltas, deltas_of_each}
use Rattle.mv_short_sets.specs.ShortSet.{candidate_flags, picture, num_candidates, set_fields, st_ref_pic_set, ValidSets, AreShortArgs}
use Rattle.mv_short_sets.proofs.DeltaLaws.{each-take, deltas-at, deltas_of_each-take, deltas-sided, near_more, direct-near, predicted-near}

-- ---- fields
coded_flag : (c : Bool) (n : ℕ) (flag : Option ℕ) → Valid (when c (u n)) flag → coded_set flag ≡ true → c ≡ true
coded_flag c n None h k = absurd (cc)
coded_flag c n (Some flag) h k = h.0

pub within : (c : Bool) (most : ℕ) (field : Option ℕ) → Valid (when c (ue unless over most)) field → or_zero field ≤ most
within c most None h = omega arith
within c most (Some field) h = ltb-false most field h.1.1

pub sum_within : (c : Bool) (first most : ℕ) (field : Option ℕ) → Valid (when c (ue unless (λ n. over most (first + n)))) field → or_zero field ≤ most
sum_within c first most None h = omega arith
sum_within c first most (Some field) h = omega (arith, ltb-false most (first + field) h.1.1)

pictures-low : (side : Side) (n : ℕ) (minus1 flags : List ℕ) → Valid (columns 0 n (each (picture side))) (minus1, flags) → All (λ m. m ≤ 32767) minus1
unfolding picture each
pictures-low side n minus1 flags h =
    All-from_get_or (λ m. m ≤ 32767) minus1 0 (λ i lt. ltb-false 32767 (get_or minus1 i 0) ((columns-valid (each (picture side)) 0 n minus1 flags i i 0 0 h lt (omega arith)).0.1))

-- ---- a valid set
pub record SetFacts (idx : ℕ) (earlier : List (List Delta)) (s : ShortSetValue) : Type 0 where
  pub back : coded_set s.inter_ref_pic_set_prediction_flag ≡ true → or_zero s.delta_idx_minus1 < idx
  pub abs : or_zero s.abs_delta_rps_minus1 ≤ 32767
  pub used : coded_set s.inter_ref_pic_set_prediction_flag ≡ true → length s.used_by_curr_pic_flag ≡ length (reference idx earlier s.delta_idx_minus1) + 1
  pub use_delta : coded_set s.inter_ref_pic_set_prediction_flag ≡ true → length s.use_delta_flag ≡ length (reference idx earlier s.delta_idx_minus1) + 1
  pub flags0 : length s.used_by_curr_pic_s0_flag ≡ length s.delta_poc_s0_minus1
  pub few0 : length s.delta_poc_s0_minus1 ≤ 16
  pub low0 : All (λ m. m ≤ 32767) s.delta_poc_s0_minus1
  pub flags1 : length s.used_by_curr_pic_s1_flag ≡ length s.delta_poc_s1_minus1
  pub few1 : length s.delta_poc_s1_minus1 ≤ 16
  pub low1 : All (λ m. m ≤ 32767) s.delta_poc_s1_minus1

candidates-are : (c : Bool) (ref : List Delta) (n : ℕ) → n ≡ num_candidates c ref → c ≡ true → n ≡ length ref + 1
candidates-are true ref n e h = e
candidates-are false ref n e h = absurd (cc)

pub set_facts : (idx num : ℕ) (earlier : List (List Delta)) (s : ShortSetValue) → Valid (set_fields idx num earlier) s → SetFacts idx earlier s
unfolding set_fields
set_facts idx num earlier s h =
    let c = coded_set s.inter_ref_pic_set_prediction_flag in
    let ref = reference idx earlier s.delta_idx_minus1 in
    let i = h.0 in
    let j = i.1.1.1.1 in
    let index : or_zero s.delta_idx_minus1 ≤ idx - 1 = within (c && nat_eq idx num) (idx - 1) s.delta_idx_minus1 i.1.0 in
    let later : c ≡ true → 0 < idx = λ e. ltb-true 0 idx (coded_flag (nat_lt 0 idx) 1 s.inter_ref_pic_set_prediction_flag i.0 e) in
    let flags : (length s.used_by_curr_pic_flag ≡ num_candidates c ref) × (length s.use_delta_flag ≡ num_candidates c ref) =
    columns-lengths (each candidate_flags) 0 (num_candidates c ref) s.used_by_curr_pic_flag s.use_delta_flag j.0 in
    let lengths0 : (length s.delta_poc_s0_minus1 ≡ or_zero s.num_negative_pics) × (length s.used_by_curr_pic_s0_flag ≡ or_zero s.num_negative_pics) =
    columns-lengths (each (picture Before)) 0 (or_zero s.num_negative_pics) s.delta_poc_s0_minus1 s.used_by_curr_pic_s0_flag j.1.1.1.0 in
    let lengths1 : (length s.delta_poc_s1_minus1 ≡ or_zero s.num_positive_pics) × (length s.used_by_curr_pic_s1_flag ≡ or_zero s.num_positive_pics) =
    columns-lengths (each (picture After)) 0 (or_zero s.num_positive_pics) s.delta_poc_s1_minus1 s.used_by_curr_pic_s1_flag j.1.1.1.1 in
    let most0 : or_zero s.num_negative_pics ≤ 16 = within (not c) 16 s.num_negative_pics j.1.0 in
    let most1 : or_zero s.num_positive_pics ≤ 16 = sum_within (not c) (or_zero s.num_negative_pics) 16 s.num_positive_pics j.1.1.0 in
    record {
      back = λ e. omega (arith, later e);
      abs = within c 32767 s.abs_delta_rps_minus1 i.1.1.1.0;
      used = λ e. candidates-are c ref (length s.used_by_curr_pic_flag) flags.0 e;
      use_delta = λ e. candidates-are c ref (length s.use_delta_flag) flags.1 e;
      flags0 = lengths0.1 ∙ sym lengths0.0;
      few0 = omega (arith, lengths0.0);
      low0 = pictures-low Before (or_zero s.num_negative_pics) s.delta_poc_s0_minus1 s.used_by_curr_pic_s0_flag j.1.1.1.0;
      flags1 = lengths1.1 ∙ sym lengths1.0;
      few1 = omega (arith, lengths1.0);
      low1 = pictures-low After (or_zero s.num_positive_pics) s.delta_poc_s1_minus1 s.used_by_curr_pic_s1_flag j.1.1.1.1;
    }

-- what holds of its fields, and that its deltas are at most 16
pub fields_valid : (idx num : ℕ) (earlier : List (List Delta)) (s : ShortSetValue) → Valid (st_ref_pic_set idx num earlier) s → Valid (set_fields idx num earlier) s
unfolding st_ref_pic_set
fields_valid idx num earlier s h = h.0

pub deltas-few : (idx num : ℕ) (earlier : List (List Delta)) (s : ShortSetValue) → Valid (st_ref_pic_set idx num earlier) s → length (deltas idx earlier s) ≤ 16
unfolding st_ref_pic_set
deltas-few idx num earlier s h = ltb-false 16 (length (deltas idx earlier s)) h.1

-- its deltas stand near, where those of the sets before it do
pub deltas-near : (idx : ℕ) (earlier : List (List Delta)) (s : ShortSetValue) → SetFacts idx earlier s
    → ((r : ℕ) → r < idx → All (IsNear (32768 * (r + 16))) (get_or earlier r []))
    → All (IsNear (32768 * (idx + 16))) (deltas idx earlier s)
unfolding deltas
deltas-near idx earlier s facts before = go (coded_set s.inter_ref_pic_set_prediction_flag) refl
  where
    r : ℕ
    r = idx - or_zero s.delta_idx_minus1 - 1

    go : (c : Bool) → coded_set s.inter_ref_pic_set_prediction_flag ≡ c
        → All (IsNear (32768 * (idx + 16))) (if c then predicted (reference idx earlier s.delta_idx_minus1) s else direct s)
    go true e =
        let lower : or_zero s.delta_idx_minus1 < idx = facts.back e in
        let less : idx - or_zero s.delta_idx_minus1 - 1 < idx = omega arith in
        All-weaker (IsNear (32768 * (idx - or_zero s.delta_idx_minus1 - 1 + 16) + 32768)) (IsNear (32768 * (idx + 16)))
        (λ one near. near_more (32768 * (idx - or_zero s.delta_idx_minus1 - 1 + 16) + 32768) (32768 * (idx + 16)) one (omega arith) near)
        (predicted (reference idx earlier s.delta_idx_minus1) s)
        (predicted-near (32768 * (idx - or_zero s.delta_idx_minus1 - 1 + 16)) (reference idx earlier s.delta_idx_minus1) s facts.abs (before (idx - or_zero s.delta_idx_minus1 - 1) less))
    go false e = direct-near (32768 * (idx + 16)) s facts.low0 facts.low1 facts.few0 facts.few1 (omega arith)

-- ---- the sets before it
valid-at : (num : ℕ) (sets : List ShortSetValue) (k : ℕ) (x : ShortSetValue) → ValidSets num sets → k < length sets
    → Valid (st_ref_pic_set k num (deltas_of_each (take k sets))) (get_or sets k x)
valid-at num sets k x h lt =
    let here : Valid (st_ref_pic_set (length (take k sets)) num (deltas_of_each (take k sets))) (get_or sets k x) =
    each-valid (λ before s. Valid (st_ref_pic_set (length before) num (deltas_of_each before)) s) [] sets k x h lt in
    subst (λ i. Valid (st_ref_pic_set i num (deltas_of_each (take k sets))) (get_or sets k x)) (length-take-le k sets (omega arith)) here

no_set : ShortSetValue
no_set = record {
  inter_ref_pic_set_prediction_flag = None;
  delta_idx_minus1 = None;
  delta_rps_sign = None;
  abs_delta_rps_minus1 = None;
  used_by_curr_pic_flag = [];
  use_delta_flag = [];
  num_negative_pics = None;
  num_positive_pics = None;
  delta_poc_s0_minus1 = [];
  used_by_curr_pic_s0_flag = [];
  delta_poc_s1_minus1 = [];
  used_by_curr_pic_s1_flag = [];
}

near-below : (num : ℕ) (sets : List ShortSetValue) → ValidSets num sets → (n : ℕ) → n ≤ length sets → (k : ℕ) → k < n
    → All (IsNear (32768 * (k + 16))) (get_or (deltas_of_each sets) k [])
near-below num sets h zero within k lt = absurd (omega arith)
near-below num sets h (suc n) within k lt = go (nat_lt k n) refl (near-below num sets h n (omega arith))
  where
    go : (b : Bool) → nat_lt k n ≡ b → ((j : ℕ) → j < n → All (IsNear (32768 * (j + 16))) (get_or (deltas_of_each sets) j []))
        → All (IsNear (32768 * (k + 16))) (get_or (deltas_of_each sets) k [])
    go true e below = below k (ltb-true k n e)
    go false e below =
        let last : n ≤ k = ltb-false k n e in
        let in_sets : k < length sets = omega arith in
        rw (deltas-at sets k no_set in_sets)
        (deltas-near k (deltas_of_each (take k sets)) (get_or sets k no_set)
        (set_facts k num (deltas_of_each (take k sets)) (get_or sets k no_set)
        (fields_valid k num (deltas_of_each (take k sets)) (get_or sets k no_set) (valid-at num sets k no_set h in_sets)))
        (λ r less. subst (λ l. All (IsNear (32768 * (r + 16))) l)
        (sym (get_or-take k (deltas_of_each sets) r [] less) ∙ ap (λ l. get_or l r []) (deltas_of_each-take k sets))
        (below r (omega arith))))

-- what is known of the reference set's deltas
pub record ReferenceFacts (some : List Delta) : Type 0 where
  pub few : length some ≤ 16
  pub near : All (IsNear (2 ^ 22)) some
  pub sides : IsSided some

pub reference_facts : (idx num : ℕ) (sets : List ShortSetValue) (r : ℕ) → AreShortArgs idx num sets → r < idx → ReferenceFacts (get_or (deltas_of_each sets) r [])
reference_facts idx num sets r args less =
    let in_sets : r < length sets = omega (arith, args.all_earlier) in
    let few : length (deltas r (deltas_of_each (take r sets)) (get_or sets r no_set)) ≤ 16 =
    deltas-few r num (deltas_of_each (take r sets)) (get_or sets r no_set) (valid-at num sets r no_set args.valid in_sets) in
    let is : deltas r (deltas_of_each (take r sets)) (get_or sets r no_set) ≡ get_or (deltas_of_each sets) r [] = sym (deltas-at sets r no_set in_sets) in
    record {
      few = subst (λ l. length l ≤ 16) is few;
      near = All-weaker (IsNear (32768 * (r + 16))) (IsNear (2 ^ 22))
          (λ one near. near_more (32768 * (r + 16)) (2 ^ 22) one (omega (arith, args.few, args.within)) near)
          (get_or (deltas_of_each sets) r []) (near-below num sets args.valid (length sets) (omega arith) r in_sets);
      sides = subst IsSided is (deltas-sided r (deltas_of_each (take r sets)) (get_or sets r no_set));
    }

-- a set before it is valid among the sets before that
pub record EarlierFacts (r num : ℕ) (sets : List ShortSetValue) (x : ShortSetValue) : Type 0 where
  pub args : AreShortArgs r num (take r sets)
  pub valid : Valid (set_fields r num (deltas_of_each (take r sets))) (get_or sets r x)
  pub is : get_or (deltas_of_each sets) r [] ≡ deltas r (deltas_of_each (take r sets)) (get_or sets r x)

pub earlier_facts : (idx num : ℕ) (sets : List ShortSetValue) (r : ℕ) (x : ShortSetValue) → AreShortArgs idx num sets → r < idx → EarlierFacts r num sets x
earlier_facts idx num sets r x args less =
    let in_sets : r < length sets = omega (arith, args.all_earlier) in
    record {
      args = record {
        within = omega (arith, args.within);
        few = args.few;
        all_earlier = length-take-le r sets (omega arith);
        valid = each-take (λ before s. Valid (st_ref_pic_set (length before) num (deltas_of_each before)) s) [] sets r args.valid;
      };
      valid = fields_valid r num (deltas_of_each (take r sets)) (get_or sets r x) (valid-at num sets r x args.valid in_sets);
      is = deltas-at sets r x in_sets;
    }

-- the candidates' flags are as many as are counted
pub candidates_counted : (idx num : ℕ) (earlier : List (List Delta)) (s : ShortSetValue) → Valid (set_fields idx num earlier) s
    → length s.used_by_curr_pic_flag ≡ num_candidates (coded_set s.inter_ref_pic_set_prediction_flag) (reference idx earlier s.delta_idx_minus1)
unfolding set_fields
candidates_counted idx num earlier s h =
    (columns-lengths (each candidate_flags) 0 (num_candidates (coded_set s.inter_ref_pic_set_prediction_flag) (reference idx earlier s.delta_idx_minus1))
    s.used_by_curr_pic_flag s.use_delta_flag h.0.1.1.1.1.0).0

-- the deltas of a valid set among others stand near
pub set_near : (idx num : ℕ) (sets : List ShortSetValue) (s : ShortSetValue) → AreShortArgs idx num sets → Valid (st_ref_pic_set idx num (deltas_of_each sets)) s
    → All (IsNear (32768 * (idx + 16))) (deltas idx (deltas_of_each sets) s)
set_near idx num sets s args valid =
    deltas-near idx (deltas_of_each sets) s (set_facts idx num (deltas_of_each sets) s (fields_valid idx num (deltas_of_each sets) s valid))
    (λ r less. near-below num sets args.valid (length sets) (omega arith) r (omega (arith, args.all_earlier)))

-- the candidates' flags are valid as a loop over as many as there are, and are printed alike by whichever count
pub flags_valid : (idx num : ℕ) (earlier : List (List Delta)) (s : ShortSetValue) → Valid (set_fields idx num earlier) s
    → Valid (columns 0 (length s.used_by_curr_pic_flag) (each candidate_flags)) (s.used_by_curr_pic_flag, s.use_delta_flag)
unfolding set_fields
flags_valid idx num earlier s h =
    let here : Valid (columns 0 (num_candidates (coded_set s.inter_ref_pic_set_prediction_flag) (reference idx earlier s.delta_idx_minus1)) (each candidate_flags)) (s.used_by_curr_pic_flag, s.use_delta_flag)
    = h.0.1.1.1.1.0 in
    subst (λ n. Valid (columns 0 n (each candidate_flags)) (s.used_by_curr_pic_flag, s.use_delta_flag)) (sym (candidates_counted idx num earlier s h)) here

pub flags_printed : (m n : ℕ) (v : List ℕ × List (Option ℕ)) (out : Output) → printed (columns 0 m (each candidate_flags)) v out ≡ printed (columns 0 n (each candidate_flags)) v out
unfolding columns
flags_printed m n v out = refl

-- a set more among others
pub each-push : {A : Type 0} (P : List A → A → Type 0) (before vs : List A) (v : A) → EachValid P before vs → P (before ++ vs) v → EachValid P before (vs ++ v ∷ [])
each-push P before [] v h here = (rw (← append-nil before) here, tt)
each-push P before (w ∷ vs) v h here = (h.0, each-push P (before ++ w ∷ []) vs v h.1 (rw (append_assoc before (w ∷ []) vs) here))

pub sets_push : (num idx : ℕ) (sets more : List ShortSetValue) (s : ShortSetValue) → ValidSets num sets → length sets ≡ idx → more ≡ sets ++ s ∷ []
    → Valid (st_ref_pic_set idx num (deltas_of_each sets)) s → ValidSets num more
sets_push num idx sets more s h count is valid =
    rw is (each-push (λ before one. Valid (st_ref_pic_set (length before) num (deltas_of_each before)) one) [] sets s h
    (subst (λ i. Valid (st_ref_pic_set i num (deltas_of_each sets)) s) (sym count) valid))

-- What was shown and what waits, as units and pictures come and pictures are given.
use Rattle.std.proofs.Common.{◌≡◌, ℕ, zero, suc, ◌<◌, Bool, true, false, cond, ◌&&◌, ◌||◌, All, List, [], ◌∷◌, ◌++◌, drop, filter, length, map, take, Option, Some, refl, sym, ap, ap₂, ◌∙◌, subst, arith}
use Rattle.std.specs.Prelude.{int_lt, nat_eq, nat_lt}
use Rattle.std.specs.List.{list_any}
use Rattle.std.specs.Ordering.{int_eq}
use Rattle.std.proofs.lemmas.Bool.{eq-eqb, ltb-true}
use Rattle.std.proofs.lemmas.List.{map-append}
use Rattle.std.proofs.lemmas.List.Elements.{All-cons, All-head, All-nil, All-tail, All-weaker}
use Rattle.mv_history.specs.Order.{Agree, put, sorted}
use Rattle.mv_history.proofs.Instances.{All-put, map-put}
use Rattle.mv_history.proofs.Kept.{map_agree_at}
use Rattle.mv_history.proofs.Sorts.{put-append}
use Rattle.mv_dpb.specs.declared.shown.Shown.{Shown}
use Rattle.mv_dpb.specs.declared.waits.Waits.{Waits}
use Rattle.mv_dpb.specs.Stored.{Stored}
use Rattle.mv_dpb.specs.Waits.{begun_with, comes_first, is_begun_of}
use Rattle.mv_dpb.specs.Waiting.{WaitingValue, behind_first, given, told, with_picture, without_first}
use Rattle.mv_pictures.specs.Decoding.{Decoded, decoded_of, out_history}
use Rattle.mv_pictures.specs.Judged.{Judged, au, layer}
use Rattle.mv_pictures.specs.Output.{count_of, is_before, is_output}
use Rattle.mv_rebuild.specs.Parts.{Part}
use Rattle.mv_rebuild.specs.Value.{shown_of, showings, value}
use Rattle.mv_walk_order.specs.Queue.{Queued, is_first, pictures_in, queued_of}
use Rattle.mv_walk_values.specs.Showing.{ShowsValues, in_order, latest_sequence, queued, whole_outputs}
use Rattle.mv_walk_values.specs.Values.{is_segment_of, value_of}
use Rattle.mv_walk_values.proofs.Terms.{decoded_kept, value_kept}

-- ---- Lists

pub take_drop : {A : Type 0} (n : ℕ) (xs : List A) → take n xs ++ drop n xs ≡ xs
take_drop zero xs = refl
take_drop (suc n) [] = refl
take_drop (suc n) (x ∷ xs) = ap (λ l. x ∷ l) (take_drop n xs)

pub take_next : {A : Type 0} (n : ℕ) (xs rest : List A) (x : A) → drop n xs ≡ x ∷ rest → take (suc n) xs ≡ take n xs ++ x ∷ []
take_next zero [] rest x h = absurd cc
take_next zero (y ∷ ys) rest x h = ap (λ z. z ∷ []) (let same : y ≡ x = cc in same)
take_next (suc n) [] rest x h = absurd cc
take_next (suc n) (y ∷ ys) rest x h = ap (λ l. y ∷ l) (take_next n ys rest x h)

pub drop_next : {A : Type 0} (n : ℕ) (xs rest : List A) (x : A) → drop n xs ≡ x ∷ rest → drop (suc n) xs ≡ rest
drop_next zero [] rest x h = absurd cc
drop_next zero (y ∷ ys) rest x h = let same : ys ≡ rest = cc in same
drop_next (suc n) [] rest x h = absurd cc
drop_next (suc n) (y ∷ ys) rest x h = drop_next n ys rest x h

All_take : {A : Type 0} (Q : A → Type 0) (n : ℕ) (xs : List A) → All Q xs → All Q (take n xs)
All_take Q zero xs h = All-nil Q
All_take Q (suc n) [] h = All-nil Q
All_take Q (suc n) (x ∷ xs) h = All-cons Q x (take n xs) (All-head Q x xs h) (All_take Q n xs (All-tail Q x xs h))

All_drop : {A : Type 0} (Q : A → Type 0) (n : ℕ) (xs : List A) → All Q xs → All Q (drop n xs)
All_drop Q zero xs h = h
All_drop Q (suc n) [] h = All-nil Q
All_drop Q (suc n) (x ∷ xs) h = All_drop Q n xs (All-tail Q x xs h)

-- ---- A unit that changes nothing of the pictures that are whole

showings_kept : {P : Type 0} (rebuild : List (Part P) → P) (e : Judged) (past ds : List Judged) → All (λ d. is_segment_of d e ≡ false) ds →
    showings rebuild (map (decoded_of (e ∷ past)) ds) ≡ showings rebuild (map (decoded_of past) ds)
showings_kept rebuild e past ds none =
    ap (showings rebuild) (map_agree_at (decoded_of (e ∷ past)) (decoded_of past) ds (All-weaker (λ d. is_segment_of d e ≡ false) (λ d. decoded_of (e ∷ past) d ≡ decoded_of past d) (λ d. decoded_kept e d past) ds none))

queued_kept : {P : Type 0} (rebuild : List (Part P) → P) (e : Judged) (past ds : List Judged) → All (λ d. is_segment_of d e ≡ false) ds → map (queued rebuild (e ∷ past)) ds ≡ map (queued rebuild past) ds
queued_kept {P} rebuild e past ds none =
    map_agree_at (queued rebuild (e ∷ past)) (queued rebuild past) ds
    (All-weaker (λ d. is_segment_of d e ≡ false) (λ d. queued rebuild (e ∷ past) d ≡ queued rebuild past d) (λ d h. ap₂ (λ (t : Decoded) (p : P). record { shown = shown_of t; au = au d.fact; picture = p }) (decoded_kept e d past h) (value_kept rebuild e d past h)) ds none)

pub shows_kept : {P : Type 0} (rebuild : List (Part P) → P) (o : ℕ) (e : Judged) (past : List Judged) (made making : Bool) (q : Option (WaitingValue P)) (shown : List (Shown × P)) →
    in_order o (e ∷ past) making ≡ in_order o past made → All (λ d. is_segment_of d e ≡ false) (in_order o past made) → latest_sequence (e ∷ past) ≡ latest_sequence past →
    ShowsValues rebuild o past made q shown → ShowsValues rebuild o (e ∷ past) making q shown
shows_kept rebuild o e past made making q shown same none number shows =
    record {
      left = shows.left;
      shown_are =
          shows.shown_are
          ∙ sym (showings_kept rebuild e past (take shows.left (in_order o past made)) (All_take (λ d. is_segment_of d e ≡ false) shows.left (in_order o past made) none))
          ∙ ap (λ ds. showings rebuild (map (decoded_of (e ∷ past)) (take shows.left ds))) (sym same);
      waiting_are =
          shows.waiting_are
          ∙ sym (queued_kept rebuild e past (drop shows.left (in_order o past made)) (All_drop (λ d. is_segment_of d e ≡ false) shows.left (in_order o past made) none))
          ∙ ap (λ ds. map (queued rebuild (e ∷ past)) (drop shows.left ds)) (sym same);
      of_latest =
          subst (λ ds. All (λ (d : Judged). d.sequence ≡ latest_sequence (e ∷ past)) (drop shows.left ds)) (sym same)
          (subst (λ n. All (λ (d : Judged). d.sequence ≡ n) (drop shows.left (in_order o past made))) (sym number) shows.of_latest);
    }

-- a unit puts its picture into the making, or is none: the pictures that are whole are those before
pub same_whole : (o : ℕ) (e : Judged) (past : List Judged) → whole_outputs o (e ∷ past) (is_output o e) ≡ whole_outputs o past false
same_whole o e past = go (is_output o e)
  where
    go : (b : Bool) → cond b (drop 1 (cond b (e ∷ filter (is_output o) past) (filter (is_output o) past))) (cond b (e ∷ filter (is_output o) past) (filter (is_output o) past)) ≡ filter (is_output o) past
    go true = refl
    go false = refl

pub same_whole_later : (o : ℕ) (e : Judged) (past : List Judged) (made : Bool) → is_output o e ≡ false → whole_outputs o (e ∷ past) made ≡ whole_outputs o past made
same_whole_later o e past made h = ap (λ b. cond made (drop 1 (cond b (e ∷ filter (is_output o) past) (filter (is_output o) past))) (cond b (e ∷ filter (is_output o) past) (filter (is_output o) past))) h

-- ---- A picture is given

pub none_waits : {P : Type 0} (rebuild : List (Part P) → P) (past ds : List Judged) → [] ≡ map (queued rebuild past) ds → ds ≡ []
none_waits rebuild past [] h = refl
none_waits rebuild past (d ∷ ds) h = absurd cc

pub record First {P : Type 0} (rebuild : List (Part P) → P) (past ds : List Judged) (s : Stored Waits P) (rest : List (Stored Waits P)) : Type 0 where
  pub one : Judged
  pub others : List Judged
  pub are : ds ≡ one ∷ others
  pub it : queued_of s ≡ queued rebuild past one
  pub behind : map queued_of rest ≡ map (queued rebuild past) others

pub first_waits : {P : Type 0} (rebuild : List (Part P) → P) (past ds : List Judged) (s : Stored Waits P) (rest : List (Stored Waits P)) → map queued_of (s ∷ rest) ≡ map (queued rebuild past) ds → First rebuild past ds s rest
first_waits rebuild past [] s rest h = absurd cc
first_waits {P} rebuild past (d ∷ ds) s rest h =
    record {
      one = d;
      others = ds;
      are = refl;
      it = (let same : queued_of s ≡ queued rebuild past d = cc in same);
      behind = (let same : map queued_of rest ≡ map (queued rebuild past) ds = cc in same);
    }

-- that an access unit has begun to leave changes no picture
same_begun : {P : Type 0} (n : ℕ) (pictures : List (Stored Waits P)) → map queued_of (map (λ t. record { told = begun_with n t.told; picture = t.picture }) pictures) ≡ map queued_of pictures
same_begun n [] = refl
same_begun n (s ∷ pictures) = ap (λ xs. queued_of s ∷ xs) (same_begun n pictures)

pub shows_given : {P : Type 0} (rebuild : List (Part P) → P) (o : ℕ) (past : List Judged) (made : Bool) (w : WaitingValue P) (shown : List (Shown × P)) (s : Stored Waits P) (rest : List (Stored Waits P)) → w.pictures ≡ s ∷ rest →
    ShowsValues rebuild o past made (Some w) shown → ShowsValues rebuild o past made (Some (without_first w)) (shown ++ given s ∷ [])
unfolding decoded_of
shows_given {P} rebuild o past made w shown s rest waits shows =
    record {
      left = suc shows.left;
      shown_are =
          ap₂ (λ (before : List (Shown × P)) (q : Queued P). before ++ (q.shown, q.picture) ∷ []) shows.shown_are first.it
          ∙ sym (map-append of_decoded (map (decoded_of past) (take shows.left all)) (decoded_of past first.one ∷ []))
          ∙ ap (map of_decoded) (sym (map-append (decoded_of past) (take shows.left all) (first.one ∷ [])))
          ∙ ap (λ ds. map of_decoded (map (decoded_of past) ds)) (sym (take_next shows.left all first.others first.one first.are));
      waiting_are = ap (λ ps. map queued_of (behind_first ps)) waits ∙ same_begun s.told.au rest ∙ first.behind ∙ ap (map (queued rebuild past)) (sym (drop_next shows.left all first.others first.one first.are));
      of_latest =
          subst (All of_it) (sym (drop_next shows.left all first.others first.one first.are))
          (All-tail of_it first.one first.others (subst (All of_it) first.are shows.of_latest));
    }
  where
    all : List Judged
    all = in_order o past made

    of_it : Judged → Type 0
    of_it d = d.sequence ≡ latest_sequence past

    of_decoded : Decoded → Shown × P
    of_decoded t = (shown_of t, value rebuild t.term)

    first : First rebuild past (drop shows.left all) s rest
    first = first_waits rebuild past (drop shows.left all) s rest (ap (map queued_of) (sym waits) ∙ shows.waiting_are)

-- ---- A picture comes

lt_itself : (n : ℕ) → nat_lt n n ≡ false
lt_itself n = go (nat_lt n n) refl
  where
    go : (b : Bool) → nat_lt n n ≡ b → b ≡ false
    go false is = refl
    go true is = absurd (let less : n < n = ltb-true n n is in omega (arith, less))

-- by count, then by access unit, then by layer
abbrev within : Judged → Judged → Bool
within a b = int_lt (count_of a) (count_of b) || (int_eq (count_of a) (count_of b) && (nat_lt (au a.fact) (au b.fact) || (nat_eq (au a.fact) (au b.fact) && nat_lt (layer a.fact) (layer b.fact))))

-- output order of two pictures of one sequence is that of the pictures that wait (C.5.2.4)
pub same_order : {P : Type 0} (rebuild : List (Part P) → P) (past : List Judged) (a b : Judged) → a.sequence ≡ b.sequence → is_before a b ≡ is_first (queued rebuild past a) (queued rebuild past b)
unfolding is_before decoded_of
same_order rebuild past a b same =
    ap (λ n. nat_lt a.sequence n || (nat_eq a.sequence n && within a b)) (sym same)
    ∙ ap₂ (λ s t. s || (t && within a b)) (lt_itself a.sequence) (eq-eqb a.sequence a.sequence refl)

pub put_agrees : {A : Type 0} (lt other : A → A → Bool) (a : A) (xs : List A) → Agree lt other xs a → put lt a xs ≡ put other a xs
unfolding put
put_agrees lt other a [] h = refl
put_agrees lt other a (x ∷ xs) h =
    ap (λ b. cond b (a ∷ x ∷ xs) (x ∷ put lt a xs)) (All-head (λ x. lt a x ≡ other a x) x xs h)
    ∙ ap (λ l. cond (other a x) (a ∷ x ∷ xs) (x ∷ l)) (put_agrees lt other a xs (All-tail (λ x. lt a x ≡ other a x) x xs h))

pub take_all : {A : Type 0} (xs ys : List A) → take (length xs) (xs ++ ys) ≡ xs
take_all [] ys = refl
take_all (x ∷ xs) ys = ap (λ l. x ∷ l) (take_all xs ys)

pub drop_all : {A : Type 0} (xs ys : List A) → drop (length xs) (xs ++ ys) ≡ ys
drop_all [] ys = refl
drop_all (x ∷ xs) ys = drop_all xs ys

-- the picture in the making is whole and waits, where it stands before none that was shown
pub shows_pushed : {P : Type 0} (rebuild : List (Part P) → P) (o : ℕ) (past : List Judged) (w : WaitingValue P) (shown : List (Shown × P)) (x : Judged) (rest : List Judged) (told_x : Shown) (unit : ℕ) (pic : P) →
    filter (is_output o) past ≡ x ∷ rest → x.sequence ≡ latest_sequence past → told_x ≡ shown_of (decoded_of past x) → unit ≡ au x.fact → pic ≡ value_of rebuild past x →
    (shows : ShowsValues rebuild o past true (Some w) shown) → list_any (is_before x) (take shows.left (in_order o past true)) ≡ false → ShowsValues rebuild o past false (Some (with_picture told_x unit pic w)) shown
unfolding sorted
shows_pushed {P} rebuild o past w shown x rest told_x unit pic outputs latest told_is unit_is pic_is shows behind =
    record {
      left = length gone;
      shown_are = shows.shown_are ∙ ap (λ ds. showings rebuild (map (decoded_of past) ds)) (sym (ap (take (length gone)) all ∙ take_all gone (put is_before x waiting)));
      waiting_are =
          map-put queued_of (λ a b. comes_first a.told b.told) is_first (λ a b. refl) (record { told = record { shown = told_x; au = unit; begun = list_any (is_begun_of unit) (told w) }; picture = pic }) w.pictures
          ∙ ap₂ (put is_first) it shows.waiting_are
          ∙ sym (map-put (queued rebuild past) (λ a b. is_first (queued rebuild past a) (queued rebuild past b)) is_first (λ a b. refl) x waiting)
          ∙ ap (map (queued rebuild past)) (sym (put_agrees is_before (λ a b. is_first (queued rebuild past a) (queued rebuild past b)) x waiting agree))
          ∙ ap (map (queued rebuild past)) (sym (ap (drop (length gone)) all ∙ drop_all gone (put is_before x waiting)));
      of_latest = subst (All of_it) (sym (ap (drop (length gone)) all ∙ drop_all gone (put is_before x waiting))) (All-put of_it is_before x waiting latest shows.of_latest);
    }
  where
    gone : List Judged
    gone = take shows.left (in_order o past true)

    waiting : List Judged
    waiting = drop shows.left (in_order o past true)

    of_it : Judged → Type 0
    of_it d = d.sequence ≡ latest_sequence past

    it : record { shown = told_x; au = unit; picture = pic } ≡ queued rebuild past x
    it = ap₂ (λ (s : Shown) (r : ℕ × P). record { shown = s; au = r.0; picture = r.1 }) told_is (ap₂ (λ (n : ℕ) (p : P). (n, p)) unit_is pic_is)

    whole : in_order o past false ≡ put is_before x (in_order o past true)
    whole = ap (sorted is_before) outputs ∙ ap (λ ds. put is_before x (sorted is_before (drop 1 ds))) (sym outputs)

    all : in_order o past false ≡ gone ++ put is_before x waiting
    all = whole ∙ ap (put is_before x) (sym (take_drop shows.left (in_order o past true))) ∙ put-append is_before x gone waiting behind

    agree : Agree is_before (λ a b. is_first (queued rebuild past a) (queued rebuild past b)) waiting x
    agree = All-weaker of_it (λ d. is_before x d ≡ is_first (queued rebuild past x) (queued rebuild past d)) (λ d same. same_order rebuild past x d (latest ∙ sym same)) waiting shows.of_latest

-- ---- A sequence starts, and the stream ends

take_short : {A : Type 0} (n : ℕ) (xs : List A) → drop n xs ≡ [] → take n xs ≡ xs
take_short zero xs h = sym h
take_short (suc n) [] h = refl
take_short (suc n) (x ∷ xs) h = ap (λ l. x ∷ l) (take_short n xs h)

-- where none waits all were shown
pub shows_all : {P : Type 0} (rebuild : List (Part P) → P) (o : ℕ) (past : List Judged) (q : Option (WaitingValue P)) (shown : List (Shown × P)) → pictures_in q ≡ [] → ShowsValues rebuild o past false q shown →
    shown ≡ showings rebuild (out_history past o)
unfolding out_history
shows_all rebuild o past q shown none shows =
    let nothing : drop shows.left (in_order o past false) ≡ [] = none_waits rebuild past (drop shows.left (in_order o past false)) (ap (map queued_of) (sym none) ∙ shows.waiting_are) in
    shows.shown_are ∙ ap (λ ds. showings rebuild (map (decoded_of past) ds)) (take_short shows.left (in_order o past false) nothing)

-- a sequence starts with a unit where none waits, and none waits then
pub shows_begun : {P : Type 0} (rebuild : List (Part P) → P) (o : ℕ) (e : Judged) (past : List Judged) (made making : Bool) (q new : Option (WaitingValue P)) (shown : List (Shown × P)) →
    in_order o (e ∷ past) making ≡ in_order o past made → All (λ d. is_segment_of d e ≡ false) (in_order o past made) → pictures_in q ≡ [] → pictures_in new ≡ [] →
    ShowsValues rebuild o past made q shown → ShowsValues rebuild o (e ∷ past) making new shown
shows_begun rebuild o e past made making q new shown same none empty fresh shows =
    let nothing : drop shows.left (in_order o past made) ≡ [] = none_waits rebuild past (drop shows.left (in_order o past made)) (ap (map queued_of) (sym empty) ∙ shows.waiting_are) in
    let still : drop shows.left (in_order o (e ∷ past) making) ≡ [] = ap (drop shows.left) same ∙ nothing in
    record {
      left = shows.left;
      shown_are =
          shows.shown_are
          ∙ sym (showings_kept rebuild e past (take shows.left (in_order o past made)) (All_take (λ d. is_segment_of d e ≡ false) shows.left (in_order o past made) none))
          ∙ ap (λ ds. showings rebuild (map (decoded_of (e ∷ past)) (take shows.left ds))) (sym same);
      waiting_are = ap (map queued_of) fresh ∙ ap (map (queued rebuild (e ∷ past))) (sym still);
      of_latest = subst (All (λ (d : Judged). d.sequence ≡ latest_sequence (e ∷ past))) (sym still) (All-nil (λ (d : Judged). d.sequence ≡ latest_sequence (e ∷ past)));
    }

-- what was shown is the first part of the output pictures that are whole
pub shows_first : {P : Type 0} (rebuild : List (Part P) → P) (o : ℕ) (past : List Judged) (q : Option (WaitingValue P)) (shown : List (Shown × P)) → ShowsValues rebuild o past false q shown →
    (rest : List (Shown × P)) × (showings rebuild (out_history past o) ≡ shown ++ rest)
unfolding out_history
shows_first {P} rebuild o past q shown shows = (
  showings rebuild (map (decoded_of past) (drop shows.left (in_order o past false))),
  ap (λ ds. showings rebuild (map (decoded_of past) ds)) (sym (take_drop shows.left (in_order o past false)))
      ∙ ap (showings rebuild) (map-append (decoded_of past) (take shows.left (in_order o past false)) (drop shows.left (in_order o past false)))
      ∙ map-append (λ (t : Decoded). (shown_of t, value rebuild t.term)) (map (decoded_of past) (take shows.left (in_order o past false))) (map (decoded_of past) (drop shows.left (in_order o past false)))
      ∙ ap (λ before. before ++ showings rebuild (map (decoded_of past) (drop shows.left (in_order o past false)))) (sym shows.shown_are),
)

-- ---- How many were shown of all

pub given_left : {P : Type 0} (rebuild : List (Part P) → P) (o : ℕ) (past : List Judged) (made : Bool) (w : WaitingValue P) (shown : List (Shown × P)) (s : Stored Waits P) (rest : List (Stored Waits P)) → (waits : w.pictures ≡ s ∷ rest) →
    (shows : ShowsValues rebuild o past made (Some w) shown) → (shows_given rebuild o past made w shown s rest waits shows).left ≡ suc shows.left
unfolding shows_given
given_left rebuild o past made w shown s rest waits shows = refl

pub pushed_left : {P : Type 0} (rebuild : List (Part P) → P) (o : ℕ) (past : List Judged) (w : WaitingValue P) (shown : List (Shown × P)) (x : Judged) (rest : List Judged) (told_x : Shown) (unit_x : ℕ) (pic : P) →
    (outputs : filter (is_output o) past ≡ x ∷ rest) → (latest : x.sequence ≡ latest_sequence past) → (told_is : told_x ≡ shown_of (decoded_of past x)) → (unit_is : unit_x ≡ au x.fact) → (pic_is : pic ≡ value_of rebuild past x) →
    (shows : ShowsValues rebuild o past true (Some w) shown) → (behind : list_any (is_before x) (take shows.left (in_order o past true)) ≡ false) →
    (shows_pushed rebuild o past w shown x rest told_x unit_x pic outputs latest told_is unit_is pic_is shows behind).left ≡ length (take shows.left (in_order o past true))
unfolding shows_pushed
pushed_left rebuild o past w shown x rest told_x unit_x pic outputs latest told_is unit_is pic_is shows behind = refl

pub kept_left : {P : Type 0} (rebuild : List (Part P) → P) (o : ℕ) (e : Judged) (past : List Judged) (made making : Bool) (q : Option (WaitingValue P)) (shown : List (Shown × P)) →
    (same : in_order o (e ∷ past) making ≡ in_order o past made) → (none : All (λ d. is_segment_of d e ≡ false) (in_order o past made)) → (number : latest_sequence (e ∷ past) ≡ latest_sequence past) →
    (shows : ShowsValues rebuild o past made q shown) → (shows_kept rebuild o e past made making q shown same none number shows).left ≡ shows.left
unfolding shows_kept
kept_left rebuild o e past made making q shown same none number shows = refl

pub begun_left : {P : Type 0} (rebuild : List (Part P) → P) (o : ℕ) (e : Judged) (past : List Judged) (made making : Bool) (q new : Option (WaitingValue P)) (shown : List (Shown × P)) →
    (same : in_order o (e ∷ past) making ≡ in_order o past made) → (none : All (λ d. is_segment_of d e ≡ false) (in_order o past made)) → (empty : pictures_in q ≡ []) → (fresh : pictures_in new ≡ []) →
    (shows : ShowsValues rebuild o past made q shown) → (shows_begun rebuild o e past made making q new shown same none empty fresh shows).left ≡ shows.left
unfolding shows_begun
begun_left rebuild o e past made making q new shown same none empty fresh shows = refl

-- What is shown and what waits in output order, as pictures come and leave, access units are whole and sequences start.
use Rattle.std.proofs.Common.{◌≡◌, ℕ, suc, ◌-◌, ◌<◌, ◌≤◌, Bool, true, false, cond, All, List, [], ◌∷◌, ◌++◌, drop, filter, get_or, length, map, take, Option, Some, None, refl, sym, ap, ap₂, ◌∙◌, subst, arith}
use Rattle.std.specs.Prelude.{nat_eq, nat_lt, option_map}
use Rattle.std.specs.Option.{IfSome}
use Rattle.std.specs.List.{find, list_any}
use Rattle.std.proofs.lemmas.Bool.{eq-eqb, eqb-true, le-ltb, ltb-false, ne_eqb, or_left, or_parts, or_right}
use Rattle.std.proofs.lemmas.List.{map-append}
use Rattle.std.proofs.lemmas.List.Elements.{All-cons, All-drop, All-filter, All-head, All-nil, All-tail, All-take, All-weaker, filter_passes}
use Rattle.mv_syntax.specs.Words.{◌otherwise◌}
use Rattle.mv_history.specs.History.{Throughout}
use Rattle.mv_history.specs.Order.{put, sorted}
use Rattle.mv_history.proofs.Instances.{All-put, All-sorted}
use Rattle.mv_history.proofs.Sorts.{IsRising, put-append, sorted-rising}
use Rattle.mv_dpb.specs.declared.shown.Shown.{Shown}
use Rattle.mv_dpb.specs.declared.waits.Waits.{Waits}
use Rattle.mv_dpb.specs.Stored.{Stored}
use Rattle.mv_dpb.specs.Waits.{access_units, is_begun}
use Rattle.mv_dpb.specs.Waiting.{WaitingValue, given, may_leave, told, with_picture, without_first}
use Rattle.mv_layers.specs.OutputLayers.{is_among}
use Rattle.mv_pictures.specs.Decoding.{Decoded, decoded_of, out_history}
use Rattle.mv_pictures.specs.Facts.{Fact}
use Rattle.mv_pictures.specs.History.{judged}
use Rattle.mv_pictures.specs.Judged.{Judged, au, begins, is_picture, is_slice}
use Rattle.mv_pictures.specs.Output.{count_of, distinct, is_before, is_output, reorder}
use Rattle.mv_commuting.proofs.Fewer.{fewer_distinct}
use Rattle.mv_rebuild.specs.Parts.{Part}
use Rattle.mv_rebuild.specs.Value.{shown_of, showings, value}
use Rattle.mv_walk_laws.proofs.Behind.{plain-begins, plain-decoded}
use Rattle.mv_walk_order.specs.Queue.{Queued, leaves, pictures_in, queued_of}
use Rattle.mv_walk_values.specs.InTime.{IsBumped, ShowsInTime, before_unit, latest_reorder, of_sequence, shares, units, whole_before}
use Rattle.mv_walk_values.specs.Showing.{ShowsValues, in_order, latest_sequence, queued, whole_outputs}
use Rattle.mv_walk_values.specs.Timely.{IsTimely}
use Rattle.mv_walk_values.specs.Values.{is_segment_of, value_of}
use Rattle.mv_walk_values.proofs.Ahead.{before_none, before_order}
use Rattle.mv_walk_values.proofs.Bumped.{au_told, bumped_comes, bumped_given, bumped_whole, first_shared, stands_between, units_told}
use Rattle.mv_walk_values.proofs.Counting.{aus, aus_among, distinct_more, filter_all, filter_none, filter_put, none_pass, own_among, parts_in_order, rest_rises}
use Rattle.mv_walk_values.proofs.Holding.{map_twice}
use Rattle.mv_walk_values.proofs.Numbers.{below_started, output_decoded, started}
use Rattle.mv_walk_values.proofs.Showing.{First, begun_left, drop_all, drop_next, first_waits, given_left, kept_left, none_waits, pushed_left, same_whole, same_whole_later, shows_begun, shows_given, shows_kept, shows_pushed, take_all, take_drop, take_next}
use Rattle.mv_walk_values.proofs.Standing.{every, fact_is, no_output}
use Rattle.mv_walk_values.proofs.Terms.{no_slice}

-- ---- Output pictures in order

-- what holds of all units holds of them
pub All_in_order : (Q : Judged → Type 0) (o : ℕ) (past : List Judged) (made : Bool) → All Q past → All Q (in_order o past made)
All_in_order Q o past made h = All-sorted Q is_before (whole_outputs o past made) (go made (All-filter (is_output o) Q past h))
  where
    go : (b : Bool) → All Q (filter (is_output o) past) → All Q (cond b (drop 1 (filter (is_output o) past)) (filter (is_output o) past))
    go true h = All-drop Q 1 (filter (is_output o) past) h
    go false h = h

-- they are output pictures
pub outputs_in_order : (o : ℕ) (past : List Judged) (made : Bool) → All (λ (d : Judged). is_output o d ≡ true) (in_order o past made)
outputs_in_order o past made = All-sorted (λ (d : Judged). is_output o d ≡ true) is_before (whole_outputs o past made) (go made (filter_passes (is_output o) past))
  where
    go : (b : Bool) → All (λ (d : Judged). is_output o d ≡ true) (filter (is_output o) past) → All (λ (d : Judged). is_output o d ≡ true) (cond b (drop 1 (filter (is_output o) past)) (filter (is_output o) past))
    go true h = All-drop (λ (d : Judged). is_output o d ≡ true) 1 (filter (is_output o) past) h
    go false h = h

in_order_rises : (o : ℕ) (past : List Judged) (made : Bool) (left : ℕ) → IsRising is_before (take left (in_order o past made) ++ drop left (in_order o past made))
in_order_rises o past made left = subst (IsRising is_before) (sym (take_drop left (in_order o past made))) (sorted-rising is_before before_order (whole_outputs o past made))

-- the decoded pictures of an access unit have one count
abbrev HasCountOf : Judged → Judged → Type 0
HasCountOf a b = a.decoded ≡ true → b.decoded ≡ true → au a.fact ≡ au b.fact → count_of a ≡ count_of b

one_counts : (past : List Judged) → Throughout (λ before (d : Judged). d.decoded ≡ true → All (λ (e : Judged). e.decoded ≡ true → au e.fact ≡ au d.fact → count_of e ≡ count_of d) before) past →
    All (λ (a : Judged). All (HasCountOf a) past) past
one_counts [] h = All-nil (λ (a : Judged). All (HasCountOf a) [])
one_counts (e ∷ past) h =
    All-cons (λ (a : Judged). All (HasCountOf a) (e ∷ past)) e past
    (All-cons (HasCountOf e) e past (λ _ _ _. refl) (λ k d low decoded other same. sym (h.0 decoded k d low other (sym same))))
    (λ k d low. All-cons (HasCountOf (get_or past k d)) e past (λ decoded other same. h.0 other k d low decoded same) (one_counts past h.1 k d low))

counts_in_order : (o : ℕ) (past : List Judged) (made : Bool) → IsTimely past → All (λ (a : Judged). All (HasCountOf a) (in_order o past made)) (in_order o past made)
counts_in_order o past made timely =
    All_in_order (λ (a : Judged). All (HasCountOf a) (in_order o past made)) o past made
    (All-weaker (λ (a : Judged). All (HasCountOf a) past) (λ (a : Judged). All (HasCountOf a) (in_order o past made)) (λ a h. All_in_order (HasCountOf a) o past made h) past (one_counts past timely.one_count))

-- fewer of them are of no more access units
fewer_behind : (test : Judged → Bool) (d : Judged) (ds : List Judged) → units (filter test ds) ≤ units (filter test (d ∷ ds))
fewer_behind test d ds =
    fewer_distinct (aus (filter test ds)) (aus (filter test (d ∷ ds)))
    (aus_among test (aus (filter test (d ∷ ds))) ds (All-tail (λ (e : Judged). test e ≡ true → is_among (aus (filter test (d ∷ ds))) (au e.fact) ≡ true) d ds (own_among test (d ∷ ds))))

fewer_all : (test : Judged → Bool) (ds : List Judged) → units (filter test ds) ≤ units ds
fewer_all test ds =
    fewer_distinct (aus (filter test ds)) (aus ds)
    (aus_among test (aus ds) ds
    (subst (λ es. All (λ (e : Judged). test e ≡ true → is_among (aus es) (au e.fact) ≡ true) ds) (filter_all (λ _. true) ds (every (λ (e : Judged). true ≡ true) (λ e. refl) ds))
    (All-weaker (λ (e : Judged). true ≡ true → is_among (aus (filter (λ _. true) ds)) (au e.fact) ≡ true) (λ (e : Judged). test e ≡ true → is_among (aus (filter (λ _. true) ds)) (au e.fact) ≡ true) (λ e own _. own refl) ds (own_among (λ _. true) ds))))

-- ---- A picture comes

pushed_order : (o : ℕ) (past : List Judged) (x : Judged) (rest : List Judged) (left : ℕ) → filter (is_output o) past ≡ x ∷ rest → list_any (is_before x) (take left (in_order o past true)) ≡ false →
    in_order o past false ≡ take left (in_order o past true) ++ put is_before x (drop left (in_order o past true))
unfolding sorted
pushed_order o past x rest left outputs behind =
    ap (sorted is_before) outputs
    ∙ ap (λ ds. put is_before x (sorted is_before (drop 1 ds))) (sym outputs)
    ∙ ap (put is_before x) (sym (take_drop left (in_order o past true)))
    ∙ put-append is_before x (take left (in_order o past true)) (drop left (in_order o past true)) behind

pub in_time_comes : {P : Type 0} (rebuild : List (Part P) → P) (o : ℕ) (past : List Judged) (whole unit : ℕ) (w : WaitingValue P) (shown : List (Shown × P)) (x : Judged) (rest : List Judged) (told_x : Shown) (unit_x : ℕ) (pic : P) → IsTimely past →
    filter (is_output o) past ≡ x ∷ rest → x.sequence ≡ latest_sequence past → told_x ≡ shown_of (decoded_of past x) → unit_x ≡ au x.fact → pic ≡ value_of rebuild past x → whole ≤ au x.fact → unit ≤ au x.fact →
    ShowsInTime rebuild o past true whole unit (Some w) shown → ShowsInTime rebuild o past false whole unit (Some (with_picture told_x unit_x pic w)) shown
in_time_comes {P} rebuild o past whole unit w shown x rest told_x unit_x pic timely outputs latest told_is unit_is pic_is whole_in unit_in in_time =
    record {
      shows = new;
      bumped =
          subst (λ ds. IsBumped (latest_sequence past) (latest_reorder o past) unit ds (drop new.left (in_order o past false)) (Some (with_picture told_x unit_x pic w))) (sym taken)
          (subst (λ ds. IsBumped (latest_sequence past) (latest_reorder o past) unit gone ds (Some (with_picture told_x unit_x pic w))) (sym dropped)
          (subst (λ n. IsBumped (latest_sequence past) (latest_reorder o past) unit gone (put is_before x waiting) (Some (with_picture told_x n pic w))) (sym unit_is)
          (bumped_comes rebuild past (latest_sequence past) (latest_reorder o past) unit gone waiting x told_x pic w latest in_time.shows.of_latest unit_in it in_time.shows.waiting_are in_time.bumped)));
      few =
          subst (λ ds. units (before_unit whole ds) ≤ latest_reorder o past) (sym dropped)
          (subst (λ ds. units ds ≤ latest_reorder o past) (sym (filter_put is_before (λ (d : Judged). nat_lt (au d.fact) whole) x waiting (le-ltb (au x.fact) whole whole_in))) in_time.few);
    }
  where
    gone : List Judged
    gone = take in_time.shows.left (in_order o past true)

    waiting : List Judged
    waiting = drop in_time.shows.left (in_order o past true)

    behind : list_any (is_before x) gone ≡ false
    behind = before_none o past x rest unit in_time.shows.left timely outputs latest unit_in in_time.shows.of_latest in_time.bumped.earlier in_time.bumped.enough

    new : ShowsValues rebuild o past false (Some (with_picture told_x unit_x pic w)) shown
    new = shows_pushed rebuild o past w shown x rest told_x unit_x pic outputs latest told_is unit_is pic_is in_time.shows behind

    left_is : new.left ≡ length gone
    left_is = pushed_left rebuild o past w shown x rest told_x unit_x pic outputs latest told_is unit_is pic_is in_time.shows behind

    all : in_order o past false ≡ gone ++ put is_before x waiting
    all = pushed_order o past x rest in_time.shows.left outputs behind

    taken : take new.left (in_order o past false) ≡ gone
    taken = ap₂ (λ (n : ℕ) (ds : List Judged). take n ds) left_is all ∙ take_all gone (put is_before x waiting)

    dropped : drop new.left (in_order o past false) ≡ put is_before x waiting
    dropped = ap₂ (λ (n : ℕ) (ds : List Judged). drop n ds) left_is all ∙ drop_all gone (put is_before x waiting)

    it : record { shown = told_x; au = au x.fact; picture = pic } ≡ queued rebuild past x
    it = ap₂ (λ (s : Shown) (p : P). record { shown = s; au = au x.fact; picture = p }) told_is pic_is

-- ---- A picture leaves

pub in_time_given : {P : Type 0} (rebuild : List (Part P) → P) (o : ℕ) (past : List Judged) (made : Bool) (whole unit : ℕ) (w : WaitingValue P) (shown : List (Shown × P)) (s : Stored Waits P) (rest : List (Stored Waits P)) → IsTimely past →
    All (λ (d : Judged). au d.fact < unit) past → w.pictures ≡ s ∷ rest → may_leave w ≡ true → ShowsInTime rebuild o past made whole unit (Some w) shown →
    ShowsInTime rebuild o past made whole unit (Some (without_first w)) (shown ++ given s ∷ [])
in_time_given {P} rebuild o past made whole unit w shown s rest timely complete waits leaving in_time =
    record {
      shows = new;
      bumped =
          subst (λ ds. IsBumped latest (latest_reorder o past) unit ds (drop new.left all) (Some (without_first w))) (sym taken)
          (subst (λ ds. IsBumped latest (latest_reorder o past) unit (gone ++ d ∷ []) ds (Some (without_first w))) (sym dropped)
          (bumped_given latest (latest_reorder o past) unit gone others d w s rest waits leaving aus_are (All-head (λ (e : Judged). e.sequence ≡ latest) d others of_it) early
          (first_shared (of_sequence latest gone) others d close) (subst (λ ds. IsBumped latest (latest_reorder o past) unit gone ds (Some w)) first.are in_time.bumped)));
      few =
          let before : units (before_unit whole (d ∷ others)) ≤ latest_reorder o past = subst (λ ds. units (before_unit whole ds) ≤ latest_reorder o past) first.are in_time.few in
          let fewer : units (before_unit whole others) ≤ units (before_unit whole (d ∷ others)) = fewer_behind (λ (e : Judged). nat_lt (au e.fact) whole) d others in
          subst (λ ds. units (before_unit whole ds) ≤ latest_reorder o past) (sym dropped) (omega (arith, before, fewer));
    }
  where
    all : List Judged
    all = in_order o past made

    latest : ℕ
    latest = latest_sequence past

    gone : List Judged
    gone = take in_time.shows.left all

    waiting : List Judged
    waiting = drop in_time.shows.left all

    first : First rebuild past waiting s rest
    first = first_waits rebuild past waiting s rest (ap (map queued_of) (sym waits) ∙ in_time.shows.waiting_are)

    d : Judged
    d = first.one

    others : List Judged
    others = first.others

    new : ShowsValues rebuild o past made (Some (without_first w)) (shown ++ given s ∷ [])
    new = shows_given rebuild o past made w shown s rest waits in_time.shows

    left_is : new.left ≡ suc in_time.shows.left
    left_is = given_left rebuild o past made w shown s rest waits in_time.shows

    taken : take new.left all ≡ gone ++ d ∷ []
    taken = ap (λ n. take n all) left_is ∙ take_next in_time.shows.left all others d first.are

    dropped : drop new.left all ≡ others
    dropped = ap (λ n. drop n all) left_is ∙ drop_next in_time.shows.left all others d first.are

    aus_are : au_told w.pictures ≡ aus (d ∷ others)
    aus_are =
        sym (map_twice (λ (q : Queued P). q.au) queued_of w.pictures)
        ∙ ap (map (λ (q : Queued P). q.au)) in_time.shows.waiting_are
        ∙ map_twice (λ (q : Queued P). q.au) (queued rebuild past) waiting
        ∙ ap aus first.are

    of_it : All (λ (e : Judged). e.sequence ≡ latest) (d ∷ others)
    of_it = subst (All (λ (e : Judged). e.sequence ≡ latest)) first.are in_time.shows.of_latest

    early : All (λ (e : Judged). au e.fact < unit) (d ∷ others)
    early = subst (All (λ (e : Judged). au e.fact < unit)) first.are (All-drop (λ (e : Judged). au e.fact < unit) in_time.shows.left all (All_in_order (λ (e : Judged). au e.fact < unit) o past made complete))

    IsDecoded : Judged → Type 0
    IsDecoded e = e.decoded ≡ true

    decoded : All IsDecoded all
    decoded = All-weaker (λ (e : Judged). is_output o e ≡ true) IsDecoded (λ e out. output_decoded o e out) all (outputs_in_order o past made)

    counts : All (λ (g : Judged). All (HasCountOf g) others) gone
    counts =
        All-take (λ (g : Judged). All (HasCountOf g) others) in_time.shows.left all
        (All-weaker (λ (g : Judged). All (HasCountOf g) all) (λ (g : Judged). All (HasCountOf g) others)
        (λ g h. All-tail (HasCountOf g) d others (subst (All (HasCountOf g)) first.are (All-drop (HasCountOf g) in_time.shows.left all h))) all (counts_in_order o past made timely))

    before : All (λ (g : Judged). is_before d g ≡ false) gone
    before =
        All-weaker (λ (g : Judged). All (λ (e : Judged). is_before e g ≡ false) waiting) (λ (g : Judged). is_before d g ≡ false)
        (λ g h. All-head (λ (e : Judged). is_before e g ≡ false) d others (subst (All (λ (e : Judged). is_before e g ≡ false)) first.are h)) gone
        (parts_in_order is_before gone waiting (in_order_rises o past made in_time.shows.left))

    behind : All (λ (e : Judged). is_before e d ≡ false) others
    behind = none_pass (λ (e : Judged). is_before e d) others (subst (IsRising is_before) first.are (rest_rises is_before gone waiting (in_order_rises o past made in_time.shows.left))).0

    others_decoded : All IsDecoded others
    others_decoded = All-tail IsDecoded d others (subst (All IsDecoded) first.are (All-drop IsDecoded in_time.shows.left all decoded))

    Close : Judged → Type 0
    Close g = All (λ (e : Judged). au g.fact ≡ au e.fact → au d.fact ≡ au g.fact) others

    close_one : (g : Judged) → g.sequence ≡ latest → g.decoded ≡ true → All (HasCountOf g) others → is_before d g ≡ false → Close g
    close_one g here own counts before = λ k f low same.
        stands_between g d (get_or others k f) (here ∙ sym (All-head (λ (e : Judged). e.sequence ≡ latest) d others of_it))
        (All-tail (λ (e : Judged). e.sequence ≡ latest) d others of_it k f low ∙ sym (All-head (λ (e : Judged). e.sequence ≡ latest) d others of_it))
        (counts k f low own (others_decoded k f low) same) same before (behind k f low)

    close : All Close (of_sequence latest gone)
    close = λ k f low.
        All-filter (λ (g : Judged). nat_eq g.sequence latest) (λ (g : Judged). nat_eq g.sequence latest ≡ true → Close g) gone
        (λ k f low passes. close_one (get_or gone k f) (eqb-true (get_or gone k f).sequence latest passes) (All-take IsDecoded in_time.shows.left all decoded k f low) (counts k f low) (before k f low)) k f low
        (filter_passes (λ (g : Judged). nat_eq g.sequence latest) gone k f low)

-- ---- An access unit is whole

pub in_time_whole : {P : Type 0} (rebuild : List (Part P) → P) (o : ℕ) (past : List Judged) (made : Bool) (whole unit next : ℕ) (q : Option (WaitingValue P)) (shown : List (Shown × P)) → unit ≤ next →
    ShowsInTime rebuild o past made whole unit q shown → ShowsInTime rebuild o past made whole next q shown
in_time_whole rebuild o past made whole unit next q shown more in_time =
    record {
      shows = in_time.shows;
      bumped = bumped_whole (latest_sequence past) (latest_reorder o past) unit next (take in_time.shows.left (in_order o past made)) (drop in_time.shows.left (in_order o past made)) q more in_time.bumped;
      few = in_time.few;
    }

-- once none leaves no more access units wait than may
waiting_few : {P : Type 0} (rebuild : List (Part P) → P) (past : List Judged) (latest number unit : ℕ) (gone waiting : List Judged) (q : Option (WaitingValue P)) → map queued_of (pictures_in q) ≡ map (queued rebuild past) waiting → leaves q ≡ false →
    IsBumped latest number unit gone waiting q → units waiting ≤ number
waiting_few rebuild past latest number unit gone waiting None are stays bumped =
    subst (λ ds. units ds ≤ number) (sym (none_waits rebuild past waiting are)) (unfold distinct in (let none : 0 ≤ number = omega arith in none))
waiting_few {P} rebuild past latest number unit gone waiting (Some w) are stays bumped =
    subst (λ n. units waiting ≤ n) bumped.reorder_is (subst (λ n. n ≤ w.reorder) count (ltb-false w.reorder (access_units (told w)) (or_parts (nat_lt w.reorder (access_units (told w))) (list_any is_begun (told w)) stays).0))
  where
    count : access_units (told w) ≡ units waiting
    count =
        units_told w.pictures
        ∙ ap (λ ns. length (distinct ns))
        (sym (map_twice (λ (q : Queued P). q.au) queued_of w.pictures) ∙ ap (map (λ (q : Queued P). q.au)) are ∙ map_twice (λ (q : Queued P). q.au) (queued rebuild past) waiting)

pub in_time_complete : {P : Type 0} (rebuild : List (Part P) → P) (o : ℕ) (past : List Judged) (made : Bool) (whole unit next : ℕ) (q : Option (WaitingValue P)) (shown : List (Shown × P)) → leaves q ≡ false →
    ShowsInTime rebuild o past made whole unit q shown → ShowsInTime rebuild o past made next unit q shown
in_time_complete rebuild o past made whole unit next q shown stays in_time =
    record {
      shows = in_time.shows;
      bumped = in_time.bumped;
      few =
          let few : units waiting ≤ latest_reorder o past = waiting_few rebuild past (latest_sequence past) (latest_reorder o past) unit (take in_time.shows.left (in_order o past made)) waiting q in_time.shows.waiting_are stays in_time.bumped in
          let fewer : units (before_unit next waiting) ≤ units waiting = fewer_all (λ (d : Judged). nat_lt (au d.fact) next) waiting in
          omega (arith, few, fewer);
    }
  where
    waiting : List Judged
    waiting = drop in_time.shows.left (in_order o past made)

-- ---- A unit that starts no sequence

pub in_time_kept : {P : Type 0} (rebuild : List (Part P) → P) (o : ℕ) (e : Judged) (past : List Judged) (made making : Bool) (whole unit : ℕ) (q : Option (WaitingValue P)) (shown : List (Shown × P)) →
    in_order o (e ∷ past) making ≡ in_order o past made → All (λ d. is_segment_of d e ≡ false) (in_order o past made) → begins e ≡ false → ShowsInTime rebuild o past made whole unit q shown → ShowsInTime rebuild o (e ∷ past) making whole unit q shown
in_time_kept {P} rebuild o e past made making whole unit q shown same none plain in_time =
    record {
      shows = new;
      bumped =
          subst (λ n. IsBumped n (latest_reorder o (e ∷ past)) unit (take new.left (in_order o (e ∷ past) making)) (drop new.left (in_order o (e ∷ past) making)) q) (sym number)
          (subst (λ n. IsBumped (latest_sequence past) n unit (take new.left (in_order o (e ∷ past) making)) (drop new.left (in_order o (e ∷ past) making)) q) (sym reorder_same)
          (subst (λ ds. IsBumped (latest_sequence past) (latest_reorder o past) unit ds (drop new.left (in_order o (e ∷ past) making)) q) (sym (ap₂ (λ (n : ℕ) (ds : List Judged). take n ds) left_is same))
          (subst (λ ds. IsBumped (latest_sequence past) (latest_reorder o past) unit (take in_time.shows.left (in_order o past made)) ds q) (sym dropped) in_time.bumped)));
      few = subst (λ ds. units (before_unit whole ds) ≤ latest_reorder o (e ∷ past)) (sym dropped) (subst (λ n. units (before_unit whole (drop in_time.shows.left (in_order o past made))) ≤ n) (sym reorder_same) in_time.few);
    }
  where
    number : latest_sequence (e ∷ past) ≡ latest_sequence past
    number = ap (λ b. length (cond b (e ∷ filter begins past) (filter begins past)) - 1) plain

    reorder_same : latest_reorder o (e ∷ past) ≡ latest_reorder o past
    reorder_same = ap (λ b. option_map (reorder o) (cond b (Some e) (find begins past)) otherwise 0) plain

    new : ShowsValues rebuild o (e ∷ past) making q shown
    new = shows_kept rebuild o e past made making q shown same none number in_time.shows

    left_is : new.left ≡ in_time.shows.left
    left_is = kept_left rebuild o e past made making q shown same none number in_time.shows

    dropped : drop new.left (in_order o (e ∷ past) making) ≡ drop in_time.shows.left (in_order o past made)
    dropped = ap₂ (λ (n : ℕ) (ds : List Judged). drop n ds) left_is same

-- a unit puts its picture into the making, or isn't put out
pub order_made : (o : ℕ) (e : Judged) (past : List Judged) → in_order o (e ∷ past) (is_output o e) ≡ in_order o past false
order_made o e past = ap (sorted is_before) (same_whole o e past)

pub order_other : (o : ℕ) (e : Judged) (past : List Judged) (made : Bool) → is_output o e ≡ false → in_order o (e ∷ past) made ≡ in_order o past made
order_other o e past made h = ap (sorted is_before) (same_whole_later o e past made h)

pub in_time_no_segment : {P : Type 0} (rebuild : List (Part P) → P) (o : ℕ) (past : List Judged) (p : Fact) (made : Bool) (whole unit : ℕ) (q : Option (WaitingValue P)) (shown : List (Shown × P)) → is_picture p ≡ false → is_slice p ≡ false →
    ShowsInTime rebuild o past made whole unit q shown → ShowsInTime rebuild o (judged past p ∷ past) made whole unit q shown
in_time_no_segment rebuild o past p made whole unit q shown none slice in_time =
    in_time_kept rebuild o (judged past p) past made made whole unit q shown (order_other o (judged past p) past made (no_output o (judged past p) (plain-decoded past p none)))
    (every (λ d. is_segment_of d (judged past p) ≡ false) (λ d. no_slice (judged past p) d (ap is_slice (fact_is past p) ∙ slice)) (in_order o past made)) (plain-begins past p none) in_time

-- ---- A sequence starts

pub in_time_begun : {P : Type 0} (rebuild : List (Part P) → P) (o : ℕ) (e : Judged) (past : List Judged) (made making : Bool) (whole unit : ℕ) (q new : Option (WaitingValue P)) (shown : List (Shown × P)) → IsTimely past →
    in_order o (e ∷ past) making ≡ in_order o past made → All (λ d. is_segment_of d e ≡ false) (in_order o past made) → begins e ≡ true → pictures_in q ≡ [] → pictures_in new ≡ [] → IfSome new (λ w. w.reorder ≡ reorder o e) →
    ShowsValues rebuild o past made q shown → ShowsInTime rebuild o (e ∷ past) making whole unit new shown
in_time_begun {P} rebuild o e past made making whole unit q new shown timely same none starts empty fresh reorder_is shows =
    record {
      shows = begun;
      bumped =
          record {
            earlier = subst (All (λ (d : Judged). au d.fact < unit)) (sym nothing_shown) (All-nil (λ (d : Judged). au d.fact < unit));
            begun_are = ap (map (λ s. s.told.begun)) fresh ∙ ap (map (shares (of_sequence (latest_sequence (e ∷ past)) gone))) (sym nothing_waits);
            enough = subst (All Enough) (sym nothing_shown) (All-nil Enough);
            reorder_is = subst (λ n. IfSome new (λ w. w.reorder ≡ n)) (sym number) reorder_is;
          };
      few = subst (λ ds. units (before_unit whole ds) ≤ latest_reorder o (e ∷ past)) (sym nothing_waits) (unfold distinct in (let low : 0 ≤ latest_reorder o (e ∷ past) = omega arith in low));
    }
  where
    begun : ShowsValues rebuild o (e ∷ past) making new shown
    begun = shows_begun rebuild o e past made making q new shown same none empty fresh shows

    left_is : begun.left ≡ shows.left
    left_is = begun_left rebuild o e past made making q new shown same none empty fresh shows

    gone : List Judged
    gone = take begun.left (in_order o (e ∷ past) making)

    waiting : List Judged
    waiting = drop begun.left (in_order o (e ∷ past) making)

    Enough : Judged → Type 0
    Enough d = latest_reorder o (e ∷ past) ≤ units (whole_before unit (of_sequence (latest_sequence (e ∷ past)) gone) waiting)

    nothing_waits : waiting ≡ []
    nothing_waits =
        ap₂ (λ (n : ℕ) (ds : List Judged). drop n ds) left_is same
        ∙ none_waits rebuild past (drop shows.left (in_order o past made)) (ap (map queued_of) (sym empty) ∙ shows.waiting_are)

    number : latest_reorder o (e ∷ past) ≡ reorder o e
    number = ap (λ b. option_map (reorder o) (cond b (Some e) (find begins past)) otherwise 0) starts

    latest : latest_sequence (e ∷ past) ≡ started past
    latest = ap (λ b. length (cond b (e ∷ filter begins past) (filter begins past)) - 1) starts ∙ (let one : suc (started past) - 1 ≡ started past = omega arith in one)

    older : All (λ (d : Judged). nat_eq d.sequence (latest_sequence (e ∷ past)) ≡ false) (in_order o past made)
    older = λ k f low.
        let less : (get_or (in_order o past made) k f).sequence < started past = All_in_order (λ (d : Judged). is_output o d ≡ true → d.sequence < started past) o past made (below_started o past timely.judgements) k f low (outputs_in_order o past made k f low) in
        ne_eqb (get_or (in_order o past made) k f).sequence (latest_sequence (e ∷ past)) (λ here. omega (arith, less, here, latest))

    nothing_shown : of_sequence (latest_sequence (e ∷ past)) gone ≡ []
    nothing_shown =
        filter_none (λ (d : Judged). nat_eq d.sequence (latest_sequence (e ∷ past))) gone
        (All-take (λ (d : Judged). nat_eq d.sequence (latest_sequence (e ∷ past)) ≡ false) begun.left (in_order o (e ∷ past) making)
        (subst (All (λ (d : Judged). nat_eq d.sequence (latest_sequence (e ∷ past)) ≡ false)) (sym same) older))

-- ---- What isn't shown yet

-- all in order: what was shown, and the rest
shown_and_rest : {P : Type 0} (rebuild : List (Part P) → P) (o : ℕ) (past gone rest : List Judged) (shown : List (Shown × P)) → in_order o past false ≡ gone ++ rest → shown ≡ showings rebuild (map (decoded_of past) gone) →
    showings rebuild (out_history past o) ≡ shown ++ showings rebuild (map (decoded_of past) rest)
unfolding out_history
shown_and_rest {P} rebuild o past gone rest shown all are =
    ap (λ ds. showings rebuild (map (decoded_of past) ds)) all
    ∙ ap (showings rebuild) (map-append (decoded_of past) gone rest)
    ∙ map-append (λ (t : Decoded). (shown_of t, value rebuild t.term)) (map (decoded_of past) gone) (map (decoded_of past) rest)
    ∙ ap (λ before. before ++ showings rebuild (map (decoded_of past) rest)) (sym are)

-- pictures of access units up to one: those before it, and that one
pub up_to_one : (whole number : ℕ) (ds : List Judged) → All (λ (d : Judged). au d.fact ≤ whole) ds → units (before_unit whole ds) ≤ number → units ds ≤ suc number
up_to_one whole number ds upto few =
    let fewer : length (distinct (aus ds)) ≤ length (distinct (whole ∷ aus (before_unit whole ds))) = fewer_distinct (aus ds) (whole ∷ aus (before_unit whole ds)) there in
    let more : length (distinct (whole ∷ aus (before_unit whole ds))) ≤ suc (units (before_unit whole ds)) = distinct_more whole (aus (before_unit whole ds)) in
    omega (arith, fewer, more, few)
  where
    one : (d : Judged) → au d.fact ≤ whole → (nat_lt (au d.fact) whole ≡ true → is_among (aus (before_unit whole ds)) (au d.fact) ≡ true) → (b : Bool) → nat_lt (au d.fact) whole ≡ b → is_among (whole ∷ aus (before_unit whole ds)) (au d.fact) ≡ true
    one d upto own true is = or_right (nat_eq whole (au d.fact)) (is_among (aus (before_unit whole ds)) (au d.fact)) (own is)
    one d upto own false is =
        let low : whole ≤ au d.fact = ltb-false (au d.fact) whole is in
        or_left (nat_eq whole (au d.fact)) (is_among (aus (before_unit whole ds)) (au d.fact)) (eq-eqb whole (au d.fact) (let same : whole ≡ au d.fact = omega (arith, low, upto) in same))

    there : (n : ℕ) → is_among (aus ds) n ≡ true → is_among (whole ∷ aus (before_unit whole ds)) n ≡ true
    there n h =
        aus_among (λ _. true) (whole ∷ aus (before_unit whole ds)) ds
        (λ k f low _. one (get_or ds k f) (upto k f low) (own_among (λ (d : Judged). nat_lt (au d.fact) whole) ds k f low) (nat_lt (au (get_or ds k f).fact) whole) refl) n
        (ap (λ es. is_among (aus es) n) (filter_all (λ _. true) ds (every (λ (d : Judged). true ≡ true) (λ d. refl) ds)) ∙ h)

pub few_rest : {P : Type 0} (rebuild : List (Part P) → P) (o : ℕ) (past : List Judged) (whole unit : ℕ) (q : Option (WaitingValue P)) (shown : List (Shown × P)) → All (λ (d : Judged). au d.fact ≤ whole) past →
    ShowsInTime rebuild o past false whole unit q shown → (rest : List Judged) × (showings rebuild (out_history past o) ≡ shown ++ showings rebuild (map (decoded_of past) rest)) × (units rest ≤ suc (latest_reorder o past))
few_rest rebuild o past whole unit q shown upto in_time = (
  drop in_time.shows.left (in_order o past false),
  shown_and_rest rebuild o past (take in_time.shows.left (in_order o past false)) (drop in_time.shows.left (in_order o past false)) shown (sym (take_drop in_time.shows.left (in_order o past false))) in_time.shows.shown_are,
  up_to_one whole (latest_reorder o past) (drop in_time.shows.left (in_order o past false))
      (All-drop (λ (d : Judged). au d.fact ≤ whole) in_time.shows.left (in_order o past false) (All_in_order (λ (d : Judged). au d.fact ≤ whole) o past false upto)) in_time.few,
)

pub few_rest_made : {P : Type 0} (rebuild : List (Part P) → P) (o : ℕ) (past : List Judged) (whole unit : ℕ) (q : Option (WaitingValue P)) (shown : List (Shown × P)) (x : Judged) (others : List Judged) → IsTimely past → filter (is_output o) past ≡ x ∷ others →
    x.sequence ≡ latest_sequence past → whole ≤ au x.fact → unit ≤ au x.fact → All (λ (d : Judged). au d.fact ≤ whole) past → ShowsInTime rebuild o past true whole unit q shown →
    (rest : List Judged) × (showings rebuild (out_history past o) ≡ shown ++ showings rebuild (map (decoded_of past) rest)) × (units rest ≤ suc (latest_reorder o past))
few_rest_made rebuild o past whole unit q shown x others timely outputs latest whole_in unit_in upto in_time = (
  rest,
  shown_and_rest rebuild o past (take in_time.shows.left (in_order o past true)) rest shown (pushed_order o past x others in_time.shows.left outputs behind) in_time.shows.shown_are,
  up_to_one whole (latest_reorder o past) rest
      (All-put UpTo is_before x (drop in_time.shows.left (in_order o past true)) own (All-drop UpTo in_time.shows.left (in_order o past true) (All_in_order UpTo o past true upto)))
      (subst (λ ds. units ds ≤ latest_reorder o past) (sym (filter_put is_before (λ (d : Judged). nat_lt (au d.fact) whole) x (drop in_time.shows.left (in_order o past true)) (le-ltb (au x.fact) whole whole_in))) in_time.few),
)
  where
    rest : List Judged
    rest = put is_before x (drop in_time.shows.left (in_order o past true))

    UpTo : Judged → Type 0
    UpTo d = au d.fact ≤ whole

    own : UpTo x
    own = All-head UpTo x others (subst (All UpTo) outputs (All-filter (is_output o) UpTo past upto))

    behind : list_any (is_before x) (take in_time.shows.left (in_order o past true)) ≡ false
    behind = before_none o past x others unit in_time.shows.left timely outputs latest unit_in in_time.shows.of_latest in_time.bumped.earlier in_time.bumped.enough

-- ---- Before the first unit

pub in_time_none : {P : Type 0} (rebuild : List (Part P) → P) (o whole unit : ℕ) → ShowsInTime rebuild o [] false whole unit None []
unfolding sorted distinct
in_time_none {P} rebuild o whole unit =
    record {
      shows = record { left = 0; shown_are = refl; waiting_are = refl; of_latest = All-nil (λ (d : Judged). d.sequence ≡ latest_sequence []) };
      bumped =
          record {
            earlier = All-nil (λ (d : Judged). au d.fact < unit);
            begun_are = refl;
            enough = All-nil (λ (d : Judged). latest_reorder o [] ≤ units (whole_before unit [] []));
            reorder_is = tt;
          };
      few = (let none : 0 ≤ 0 = omega arith in none);
    }

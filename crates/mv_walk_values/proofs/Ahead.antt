-- A picture that isn't late stands before none that was shown (C.5.2.2, C.5.2.4).
use Rattle.std.proofs.Common.{◌≡◌, ◌⊎◌, inl, inr, ℕ, suc, ◌-◌, ◌<◌, ◌≤◌, ℤ, Bool, true, false, cond, not, ◌&&◌, ◌||◌, All, List, [], ◌∷◌, drop, filter, get_or, length, take, refl, sym, ap, ◌∙◌, subst, arith}
use Rattle.std.specs.Prelude.{int_lt, nat_eq, nat_lt}
use Rattle.std.specs.Ordering.{int_eq}
use Rattle.std.specs.List.{list_any}
use Rattle.std.proofs.lemmas.Bool.{and_from, and_parts, eq-eqb, eqb-true, lt-ltb, ltb-false, ltb-true, or_cases}
use Rattle.std.proofs.lemmas.Int.{ints}
use Rattle.std.proofs.lemmas.List.Elements.{All-drop, All-filter, All-head, All-take, All-weaker, filter_passes}
use Rattle.std.proofs.lemmas.List.Folds.{list_any_none}
use Rattle.mv_history.specs.History.{Throughout, from}
use Rattle.mv_history.specs.Order.{IsOrder, sorted}
use Rattle.mv_history.proofs.Instances.{All-sorted}
use Rattle.mv_history.proofs.Sorts.{IsRising, sorted-rising}
use Rattle.mv_dpb.specs.declared.waits.Waits.{Waits}
use Rattle.mv_dpb.specs.Waits.{comes_first}
use Rattle.mv_dpb.proofs.WaitsLaws.{output_order}
use Rattle.mv_layers.specs.OutputLayers.{is_among}
use Rattle.mv_pictures.specs.Judged.{Judged, au, begins, layer}
use Rattle.mv_pictures.specs.Layers.{sets_at}
use Rattle.mv_pictures.specs.Look.{sequence}
use Rattle.mv_pictures.specs.Output.{count_of, distinct, is_ahead, is_before, is_late, is_output, reorder, sequence_before, units_ahead}
use Rattle.mv_commuting.proofs.Fewer.{fewer_distinct}
use Rattle.mv_walk_values.specs.InTime.{latest_reorder, of_sequence, shares, units, whole_before}
use Rattle.mv_walk_values.specs.Showing.{in_order, latest_sequence, whole_outputs}
use Rattle.mv_walk_values.specs.Timely.{IsTimely}
use Rattle.mv_walk_values.proofs.Counting.{All_unfilter, aus, aus_among, distinct_new, own_among, own_shared, parts_in_order, shared_apart}
use Rattle.mv_walk_values.proofs.Numbers.{IsHistory, begins_seq, below_started, latest_reorders, latest_started, of_latest, output_within, started, started_more}
use Rattle.mv_walk_values.proofs.Showing.{take_drop}

-- ---- Output order

abbrev order : ℕ → ℤ → ℕ → ℕ → ℕ → ℤ → ℕ → ℕ → Bool
order s x m i t y n j = nat_lt s t || (nat_eq s t && (int_lt x y || (int_eq x y && (nat_lt m n || (nat_eq m n && nat_lt i j)))))

-- by a number, and then by another order
one_way : (s t : ℕ) (p q : Bool) → (p ≡ true → q ≡ false) → (nat_lt s t || (nat_eq s t && p)) ≡ true → (nat_lt t s || (nat_eq t s && q)) ≡ false
one_way s t true true apart h = absurd (let wrong : true ≡ false = apart refl in cc)
one_way s t true false apart h = grind arith
one_way s t false q apart h = grind arith

carries : (s t u : ℕ) (p q r : Bool) → (p ≡ true → q ≡ false → r ≡ true) → (nat_lt s t || (nat_eq s t && p)) ≡ true → (nat_lt u t || (nat_eq u t && q)) ≡ false → (nat_lt s u || (nat_eq s u && r)) ≡ true
carries s t u true false false to h k = absurd (let wrong : false ≡ true = to refl refl in cc)
carries s t u true false true to h k = grind arith
carries s t u true true r to h k = grind arith
carries s t u false q r to h k = grind arith

-- what is told of a picture that waits
as_waits : Judged → Waits
as_waits d = record { shown = record { sequence = 0; count = count_of d; layer = layer d.fact; view = 0 }; au = au d.fact; begun = false }

pub before_order : IsOrder is_before
unfolding is_before as_waits
before_order =
    record {
      one_way = λ a b. one_way a.sequence b.sequence (comes_first (as_waits a) (as_waits b)) (comes_first (as_waits b) (as_waits a)) (output_order.one_way (as_waits a) (as_waits b));
      carries = λ a b c. carries a.sequence b.sequence c.sequence (comes_first (as_waits a) (as_waits b)) (comes_first (as_waits c) (as_waits b)) (comes_first (as_waits a) (as_waits c))
          (output_order.carries (as_waits a) (as_waits b) (as_waits c));
    }

-- a picture that stands before one of no later sequence is of its sequence
same_number : (s t : ℕ) (x y : ℤ) (m n i j : ℕ) → order s x m i t y n j ≡ true → t ≤ s → t ≡ s
same_number s t x y m n i j h low = grind (arith, ints)

-- before one of an earlier access unit of its sequence it has the lower count
lower_count : (s t : ℕ) (x y : ℤ) (m n i j : ℕ) → order s x m i t y n j ≡ true → t ≡ s → n < m → int_lt x y ≡ true
lower_count s t x y m n i j h same low = grind (arith, ints)

-- and before all that don't stand before that one
lower_still : (s t u : ℕ) (x y z : ℤ) (m n o i j k : ℕ) → int_lt x y ≡ true → t ≡ u → order u z o k t y n j ≡ false → int_lt x z ≡ true
lower_still s t u x y z m n o i j k h same l = grind (arith, ints)

-- ---- What was shown

-- what is known of a picture that came before x: it is put out, of no later sequence than the latest one, and where it is of that
-- and ahead of x, its access unit is among some
pub record Came (o : ℕ) (x : Judged) (latest : ℕ) (ns : List ℕ) (d : Judged) : Type 0 where
  pub output : is_output o d ≡ true
  pub low : d.sequence ≤ latest
  pub ahead : d.sequence ≡ latest → is_ahead o x d ≡ true → is_among ns (au d.fact) ≡ true

ahead_from : (o : ℕ) (x d : Judged) → is_output o d ≡ true → au d.fact < au x.fact → int_lt (count_of x) (count_of d) ≡ true → is_ahead o x d ≡ true
ahead_from o x d output early lower =
    and_from (is_output o d && nat_lt (au d.fact) (au x.fact)) (int_lt (count_of x) (count_of d)) (and_from (is_output o d) (nat_lt (au d.fact) (au x.fact)) output (lt-ltb (au d.fact) (au x.fact) early)) lower

-- where x would stand before one that was shown, that one and all others that may be counted are ahead of it: more than may be
pub stands_behind : (o : ℕ) (x : Judged) (latest number unit : ℕ) (ns : List ℕ) (gone waiting : List Judged) → x.sequence ≡ latest → unit ≤ au x.fact → length (distinct ns) ≤ number →
    All (Came o x latest ns) gone → All (λ (w : Judged). Came o x latest ns w × (w.sequence ≡ latest)) waiting → All (λ g. All (λ w. is_before w g ≡ false) waiting) gone →
    All (λ (d : Judged). au d.fact < unit) (of_sequence latest gone) → All (λ (d : Judged). number ≤ units (whole_before unit (of_sequence latest gone) waiting)) (of_sequence latest gone) →
    list_any (is_before x) gone ≡ false
unfolding is_before
stands_behind o x latest number unit ns gone waiting is within few came waits sorted earlier enough =
    list_any_none (is_before x) gone
    (λ k d low. behind (get_or gone k d) (came k d low) (sorted k d low)
    (All_unfilter (λ (d : Judged). nat_eq d.sequence latest) (λ (d : Judged). au d.fact < unit) gone earlier k d low)
    (All_unfilter (λ (d : Judged). nat_eq d.sequence latest) (λ (d : Judged). number ≤ units (whole_before unit (of_sequence latest gone) waiting)) gone enough k d low)
    (All_unfilter (λ (d : Judged). nat_eq d.sequence latest) (λ (d : Judged). shares (of_sequence latest gone) d ≡ true) gone (own_shared (of_sequence latest gone)) k d low))
  where
    is_whole : Judged → Bool
    is_whole d = nat_lt (au d.fact) unit && not (shares (of_sequence latest gone) d)

    behind : (g : Judged) → Came o x latest ns g → All (λ w. is_before w g ≡ false) waiting → (nat_eq g.sequence latest ≡ true → au g.fact < unit) →
        (nat_eq g.sequence latest ≡ true → number ≤ units (whole_before unit (of_sequence latest gone) waiting)) → (nat_eq g.sequence latest ≡ true → shares (of_sequence latest gone) g ≡ true) → is_before x g ≡ false
    behind g came sorted early full own = go (is_before x g) refl
      where
        go : (b : Bool) → is_before x g ≡ b → b ≡ false
        go false before = refl
        go true before =
            let low : g.sequence ≤ latest = came.low in
            let same : g.sequence ≡ x.sequence = same_number x.sequence g.sequence (count_of x) (count_of g) (au x.fact) (au g.fact) (layer x.fact) (layer g.fact) before (omega (arith, low, is)) in
            let here : g.sequence ≡ latest = same ∙ is in
            let passes : nat_eq g.sequence latest ≡ true = eq-eqb g.sequence latest here in
            let old : au g.fact < unit = early passes in
            let lower : int_lt (count_of x) (count_of g) ≡ true = lower_count x.sequence g.sequence (count_of x) (count_of g) (au x.fact) (au g.fact) (layer x.fact) (layer g.fact) before same (omega (arith, old, within)) in
            let here_is : is_among ns (au g.fact) ≡ true = came.ahead here (ahead_from o x g came.output (omega (arith, old, within)) lower) in
            let others : All (λ (w : Judged). is_whole w ≡ true → is_among ns (au w.fact) ≡ true) waiting = λ k d low. other g lower here (get_or waiting k d) (waits k d low).0 (waits k d low).1 (sorted k d low) in
            let none : is_among (aus (filter is_whole waiting)) (au g.fact) ≡ false = shared_apart (λ (d : Judged). nat_lt (au d.fact) unit) (of_sequence latest gone) waiting (au g.fact) (own passes) in
            let more : length (distinct (au g.fact ∷ aus (filter is_whole waiting))) ≡ suc (length (distinct (aus (filter is_whole waiting)))) = distinct_new (au g.fact) (aus (filter is_whole waiting)) none in
            let fewer : length (distinct (au g.fact ∷ aus (filter is_whole waiting))) ≤ length (distinct ns) = fewer_distinct (au g.fact ∷ aus (filter is_whole waiting)) ns (one_or_other g here_is others) in
            let many : number ≤ length (distinct (aus (filter is_whole waiting))) = full passes in
            absurd (omega (arith, more, fewer, many, few))
          where
            other : (g : Judged) → int_lt (count_of x) (count_of g) ≡ true → g.sequence ≡ latest → (w : Judged) → Came o x latest ns w → w.sequence ≡ latest → is_before w g ≡ false → is_whole w ≡ true → is_among ns (au w.fact) ≡ true
            other g lower here w came there behind passes =
                let parts : (nat_lt (au w.fact) unit ≡ true) × (not (shares (of_sequence latest gone) w) ≡ true) = and_parts (nat_lt (au w.fact) unit) (not (shares (of_sequence latest gone) w)) passes in
                let old : au w.fact < unit = ltb-true (au w.fact) unit parts.0 in
                came.ahead there
                (ahead_from o x w came.output (omega (arith, old, within))
                (lower_still x.sequence g.sequence w.sequence (count_of x) (count_of g) (count_of w) (au x.fact) (au g.fact) (au w.fact) (layer x.fact) (layer g.fact) (layer w.fact) lower (here ∙ sym there) behind))

            one_or_other : (g : Judged) → is_among ns (au g.fact) ≡ true → All (λ (w : Judged). is_whole w ≡ true → is_among ns (au w.fact) ≡ true) waiting →
                (n : ℕ) → is_among (au g.fact ∷ aus (filter is_whole waiting)) n ≡ true → is_among ns n ≡ true
            one_or_other g here others n h = pick (or_cases (nat_eq (au g.fact) n) (is_among (aus (filter is_whole waiting)) n) h)
              where
                pick : (nat_eq (au g.fact) n ≡ true) ⊎ (is_among (aus (filter is_whole waiting)) n ≡ true) → is_among ns n ≡ true
                pick (inl e) = ap (is_among ns) (sym (eqb-true (au g.fact) n e)) ∙ here
                pick (inr e) = aus_among is_whole ns waiting others n e

-- ---- What came before a picture

-- the picture that came last of the output pictures of a history, and what was before it
pub record IsLast (o : ℕ) (past : List Judged) (x : Judged) (rest : List Judged) : Type 0 where
  pub before : List Judged
  pub output : is_output o x ≡ true
  pub others : filter (is_output o) before ≡ rest
  pub judgements : IsHistory (x ∷ before)
  pub late : is_late o before x ≡ false

pub last_is : (o : ℕ) (past : List Judged) (x : Judged) (rest : List Judged) → IsHistory past → Throughout (λ before (d : Judged). (n : ℕ) → n < length (sets_at d.seq_vps) → is_late n before d ≡ false) past →
    filter (is_output o) past ≡ x ∷ rest → IsLast o past x rest
last_is o [] x rest history late h = absurd cc
last_is o (e ∷ past) x rest history late h = go (is_output o e) refl h (last_is o past x rest history.1 late.1)
  where
    go : (b : Bool) → is_output o e ≡ b → cond b (e ∷ filter (is_output o) past) (filter (is_output o) past) ≡ x ∷ rest → (filter (is_output o) past ≡ x ∷ rest → IsLast o past x rest) → IsLast o (e ∷ past) x rest
    go true is h more =
        let same : e ≡ x = cc in
        let others : filter (is_output o) past ≡ rest = cc in
        record {
          before = past;
          output = ap (is_output o) (sym same) ∙ is;
          others = others;
          judgements = subst (λ (d : Judged). IsHistory (d ∷ past)) same history;
          late = subst (λ (d : Judged). is_late o past d ≡ false) same (late.0 o (output_within o e is));
        }
    go false is h more =
        let last : IsLast o past x rest = more h in
        record { before = last.before; output = last.output; others = last.others; judgements = last.judgements; late = last.late }

-- the access units of those ahead of it
abbrev ahead_of : ℕ → List Judged → Judged → List ℕ
ahead_of o before x = aus (filter (is_ahead o x) (sequence_before before x))

few_ahead : (o : ℕ) (before : List Judged) (x : Judged) → is_output o x ≡ true → is_late o before x ≡ false → length (distinct (ahead_of o before x)) ≤ reorder o x
unfolding is_late units_ahead
few_ahead o before x output late =
    ltb-false (reorder o x) (length (distinct (ahead_of o before x))) (sym (ap (λ b. b && nat_lt (reorder o x) (length (distinct (ahead_of o before x)))) output) ∙ late)

-- those of its sequence that came before it are among them, where they are ahead
came_before : (o : ℕ) (x : Judged) (before : List Judged) → IsHistory (x ∷ before) → is_output o x ≡ true → All (λ (d : Judged). is_output o d ≡ true → Came o x x.sequence (ahead_of o before x) d) before
came_before o x before history output = λ k d low. one (get_or before k d) (below_started o before history.1 k d low) (among k d low)
  where
    started_is : (x.sequence ≡ started (x ∷ before) - 1) × (0 < started (x ∷ before))
    started_is = latest_started o x before history.0 output

    among : All (λ (d : Judged). is_output o d ≡ true → d.sequence ≡ x.sequence → is_ahead o x d ≡ true → is_among (ahead_of o before x) (au d.fact) ≡ true) before
    among = go x.seq refl
      where
        Among : List Judged → Judged → Type 0
        Among ds d = is_ahead o x d ≡ true → is_among (aus (filter (is_ahead o x) ds)) (au d.fact) ≡ true

        begun : begins x ≡ x.seq
        begun = begins_seq before x history.0

        go : (b : Bool) → x.seq ≡ b → All (λ (d : Judged). is_output o d ≡ true → d.sequence ≡ x.sequence → is_ahead o x d ≡ true → is_among (ahead_of o before x) (au d.fact) ≡ true) before
        go true seq =
            All-weaker (λ (d : Judged). is_output o d ≡ true → d.sequence < started before) (λ (d : Judged). is_output o d ≡ true → d.sequence ≡ x.sequence → Among (sequence_before before x) d)
            (λ d low out same ahead.
            let less : d.sequence < started before = low out in
            let number : x.sequence ≡ started (x ∷ before) - 1 = started_is.0 in
            let more : started (x ∷ before) ≡ suc (started before) = ap (λ b. length (cond b (x ∷ filter begins before) (filter begins before))) (begun ∙ seq) in
            absurd (omega (arith, less, same, number, more)))
            before (below_started o before history.1)
        go false seq =
            subst (λ ds. All (λ (d : Judged). is_output o d ≡ true → d.sequence ≡ x.sequence → Among ds d) before) (sym (since_start seq))
            (subst (λ n. All (λ (d : Judged). is_output o d ≡ true → d.sequence ≡ n → Among (from begins before) d) before) (sym number)
            (of_latest (Among (from begins before)) o before history.1 (own_among (is_ahead o x) (from begins before))))
          where
            since_start : x.seq ≡ false → sequence_before before x ≡ from begins before
            since_start = unfold sequence_before sequence in λ seq. ap (λ b. cond b [] (from begins before)) seq

            number : x.sequence ≡ started before - 1
            number = started_is.0 ∙ ap (λ b. length (cond b (x ∷ filter begins before) (filter begins before)) - 1) (begun ∙ seq)

    one : (d : Judged) → (is_output o d ≡ true → d.sequence < started before) → (is_output o d ≡ true → d.sequence ≡ x.sequence → is_ahead o x d ≡ true → is_among (ahead_of o before x) (au d.fact) ≡ true) →
        is_output o d ≡ true → Came o x x.sequence (ahead_of o before x) d
    one d below among out =
        let less : d.sequence < started before = below out in
        let number : x.sequence ≡ started (x ∷ before) - 1 = started_is.0 in
        let more : started before ≤ started (x ∷ before) = started_more x before in
        record { output = out; low = omega (arith, less, number, more); ahead = among out }

-- ---- A picture that isn't late

-- what came before it, in output order
came_in_order : (o : ℕ) (x : Judged) (past rest : List Judged) (last : IsLast o past x rest) → All (Came o x x.sequence (ahead_of o last.before x)) (sorted is_before rest)
came_in_order o x past rest last =
    All-sorted Own is_before rest
    (subst (All Own) last.others
    (λ k d low. All-filter (is_output o) (λ (d : Judged). is_output o d ≡ true → Own d) last.before (came_before o x last.before last.judgements last.output) k d low (filter_passes (is_output o) last.before k d low)))
  where
    Own : Judged → Type 0
    Own = Came o x x.sequence (ahead_of o last.before x)

-- the latest output picture stands before none that was shown
pub before_none : (o : ℕ) (past : List Judged) (x : Judged) (rest : List Judged) (unit left : ℕ) → IsTimely past → filter (is_output o) past ≡ x ∷ rest → x.sequence ≡ latest_sequence past → unit ≤ au x.fact →
    All (λ (d : Judged). d.sequence ≡ latest_sequence past) (drop left (in_order o past true)) →
    All (λ (d : Judged). au d.fact < unit) (of_sequence (latest_sequence past) (take left (in_order o past true))) →
    All (λ (d : Judged). latest_reorder o past ≤ units (whole_before unit (of_sequence (latest_sequence past) (take left (in_order o past true))) (drop left (in_order o past true)))) (of_sequence (latest_sequence past) (take left (in_order o past true))) →
    list_any (is_before x) (take left (in_order o past true)) ≡ false
before_none o past x rest unit left timely outputs latest within of_it earlier enough =
    stands_behind o x (latest_sequence past) (latest_reorder o past) unit (ahead_of o last.before x) gone waiting latest within few
    (All-take Own left (in_order o past true) came)
    (λ k d low. (All-drop Own left (in_order o past true) came k d low, of_it k d low))
    (parts_in_order is_before gone waiting (subst (IsRising is_before) (sym (take_drop left (in_order o past true))) (sorted-rising is_before before_order (whole_outputs o past true))))
    earlier enough
  where
    gone : List Judged
    gone = take left (in_order o past true)

    waiting : List Judged
    waiting = drop left (in_order o past true)

    last : IsLast o past x rest
    last = last_is o past x rest timely.judgements timely.never_late outputs

    Own : Judged → Type 0
    Own = Came o x (latest_sequence past) (ahead_of o last.before x)

    came : All Own (in_order o past true)
    came =
        subst (λ ds. All Own (sorted is_before (drop 1 ds))) (sym outputs)
        (subst (λ n. All (Came o x n (ahead_of o last.before x)) (sorted is_before rest)) latest (came_in_order o x past rest last))

    number : reorder o x ≡ latest_reorder o past
    number =
        All-head (λ (d : Judged). is_output o d ≡ true → d.sequence ≡ latest_sequence past → reorder o d ≡ latest_reorder o past) x rest
        (subst (All (λ (d : Judged). is_output o d ≡ true → d.sequence ≡ latest_sequence past → reorder o d ≡ latest_reorder o past)) outputs
        (All-filter (is_output o) (λ (d : Judged). is_output o d ≡ true → d.sequence ≡ latest_sequence past → reorder o d ≡ latest_reorder o past) past (latest_reorders o past timely.judgements)))
        last.output latest

    few : length (distinct (ahead_of o last.before x)) ≤ latest_reorder o past
    few = subst (λ n. length (distinct (ahead_of o last.before x)) ≤ n) number (few_ahead o last.before x last.output last.late)

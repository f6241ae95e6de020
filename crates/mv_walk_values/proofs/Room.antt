-- There is room for each output picture that comes: access units that wait have one picture of each output layer at most.
use Rattle.std.proofs.Common.{◌≡◌, ℕ, zero, suc, ◌+◌, ◌*◌, ◌<◌, ◌≤◌, Bool, true, false, cond, not, ◌&&◌, ◌||◌, All, List, [], ◌∷◌, ◌++◌, drop, filter, get_or, length, map, take, Some, refl, sym, ap, ap₂, ◌∙◌, subst, arith}
use Rattle.std.specs.Prelude.{nat_eq}
use Rattle.std.proofs.Math.Nat.{mul-le-mul_right}
use Rattle.std.proofs.lemmas.Bool.{and_parts, eq-eqb, eqb-true, le-ltb, ne_eqb, or_left}
use Rattle.std.proofs.lemmas.List.{length-append, length-map}
use Rattle.std.proofs.lemmas.List.Elements.{All-cons, All-drop, All-filter, All-head, All-tail, All-weaker, filter-append, filter_passes}
use Rattle.std.proofs.lemmas.List.Filters.{length-filter_both}
use Rattle.mv_history.specs.History.{Throughout}
use Rattle.mv_history.proofs.Kept.{filter-filter, filter_agree_at, filter_swap}
use Rattle.mv_history.proofs.Sorts.{count-sorted}
use Rattle.mv_dpb.specs.declared.shown.Shown.{Shown}
use Rattle.mv_dpb.specs.Waiting.{WaitingValue}
use Rattle.mv_layers.specs.OutputLayers.{is_among}
use Rattle.mv_pictures.specs.Judged.{Judged, au, in_au, is_picture, layer}
use Rattle.mv_pictures.specs.Output.{distinct, is_before, is_output, outputs}
use Rattle.mv_commuting.specs.Kept.{IsEarlierPicture}
use Rattle.mv_commuting.proofs.Fewer.{fewer_distinct}
use Rattle.mv_rebuild.specs.Parts.{Part}
use Rattle.mv_walk_order.specs.Queue.{queued_of}
use Rattle.mv_walk_values.specs.InTime.{ShowsInTime, before_unit, latest_outputs, latest_reorder, units}
use Rattle.mv_walk_values.specs.Orderly.{IsOrderly}
use Rattle.mv_walk_values.specs.Showing.{in_order, latest_sequence, queued, whole_outputs}
use Rattle.mv_walk_values.specs.Timely.{IsTimely}
use Rattle.mv_walk_values.proofs.Counting.{aus, aus_among, distinct_new, filter_all, own_among}
use Rattle.mv_walk_values.proofs.InTime.{All_in_order, outputs_in_order, up_to_one}
use Rattle.mv_walk_values.proofs.Numbers.{latest_layers, output_decoded, output_layer}
use Rattle.mv_walk_values.proofs.Showing.{take_drop}
use Rattle.mv_walk_values.proofs.Standing.{every}

-- ---- How many pictures there are, by their access units

few_filtered : {A : Type 0} (test : A → Bool) (xs : List A) → length (filter test xs) ≤ length xs
few_filtered test [] = omega arith
few_filtered {A} test (x ∷ xs) = go (test x) (few_filtered test xs)
  where
    go : (b : Bool) → length (filter test xs) ≤ length xs → length (cond b (x ∷ filter test xs) (filter test xs)) ≤ suc (length xs)
    go true h = omega arith
    go false h = omega arith

few_distinct : (ns : List ℕ) → length (distinct ns) ≤ length ns
unfolding distinct
few_distinct [] = omega arith
few_distinct (n ∷ ns) = go (is_among ns n) (few_distinct ns)
  where
    go : (b : Bool) → length (distinct ns) ≤ length ns → length (cond b (distinct ns) (n ∷ distinct ns)) ≤ suc (length ns)
    go true h = omega arith
    go false h = omega arith

-- those of other access units are of one access unit less
other_units : (n : ℕ) (ds : List Judged) → is_among (aus ds) n ≡ true → suc (units (filter (λ (d : Judged). not (in_au n d)) ds)) ≤ units ds
other_units n ds some =
    let new : length (distinct (n ∷ aus others)) ≡ suc (length (distinct (aus others))) = distinct_new n (aus others) none in
    let fewer : length (distinct (n ∷ aus others)) ≤ length (distinct (aus ds)) = fewer_distinct (n ∷ aus others) (aus ds) (λ m h. there m (nat_eq n m) refl h) in
    omega (arith, new, fewer)
  where
    is_other : Judged → Bool
    is_other d = not (in_au n d)

    others : List Judged
    others = filter is_other ds

    apart : (b : Bool) → not b ≡ true → b ≡ false
    apart true h = sym h
    apart false h = refl

    none : is_among (aus others) n ≡ false
    none = go others (filter_passes is_other ds)
      where
        go : (es : List Judged) → All (λ (e : Judged). is_other e ≡ true) es → is_among (aus es) n ≡ false
        go [] h = refl
        go (e ∷ es) h = ap₂ (λ a b. a || b) (apart (in_au n e) (All-head (λ (e : Judged). is_other e ≡ true) e es h)) (go es (All-tail (λ (e : Judged). is_other e ≡ true) e es h))

    own : All (λ (e : Judged). is_among (aus ds) (au e.fact) ≡ true) ds
    own =
        subst (λ es. All (λ (e : Judged). is_among (aus es) (au e.fact) ≡ true) ds) (filter_all (λ _. true) ds (every (λ (e : Judged). true ≡ true) (λ e. refl) ds))
        (λ k f low. own_among (λ _. true) ds k f low refl)

    there : (m : ℕ) (b : Bool) → nat_eq n m ≡ b → (b || is_among (aus others) m) ≡ true → is_among (aus ds) m ≡ true
    there m true is h = ap (is_among (aus ds)) (sym (eqb-true n m is)) ∙ some
    there m false is h = aus_among is_other (aus ds) ds (λ k f low _. own k f low) m h

-- so many of each access unit, and so many access units
pub by_units : (k size : ℕ) (ds : List Judged) → length ds ≤ size → ((n : ℕ) → length (filter (in_au n) ds) ≤ k) → length ds ≤ units ds * k
by_units k zero [] within few = omega arith
by_units k zero (d ∷ ds) within few = absurd (omega (arith, within))
by_units k (suc size) [] within few = omega arith
by_units k (suc size) (d ∷ ds) within few =
    let both : length (filter here (d ∷ ds)) + length others ≡ length (d ∷ ds) = length-filter_both here (λ (e : Judged). not (here e)) (λ e. refl) (d ∷ ds) in
    let some : 0 < length (filter here (d ∷ ds)) = first in
    let own : length (filter here (d ∷ ds)) ≤ k = few (au d.fact) in
    let rest : length others ≤ units others * k = by_units k size others (omega (arith, both, some, within)) (λ n. let one : length (filter (in_au n) others) ≤ k = fewer n in one) in
    let more : suc (units others) * k ≤ units (d ∷ ds) * k = mul-le-mul_right k (other_units (au d.fact) (d ∷ ds) (or_left (nat_eq (au d.fact) (au d.fact)) (is_among (aus ds) (au d.fact)) (eq-eqb (au d.fact) (au d.fact) refl))) in
    let product : suc (units others) * k ≡ units others * k + k = mul_suc (units others) k in
    omega (arith, both, own, rest, more, product)
  where
    here : Judged → Bool
    here = in_au (au d.fact)

    others : List Judged
    others = filter (λ (e : Judged). not (here e)) (d ∷ ds)

    first : 0 < length (filter here (d ∷ ds))
    first =
        let is : length (filter here (d ∷ ds)) ≡ suc (length (filter here ds)) = ap (λ b. length (cond b (d ∷ filter here ds) (filter here ds))) (eq-eqb (au d.fact) (au d.fact) refl) in
        omega (arith, is)

    fewer : (n : ℕ) → length (filter (in_au n) others) ≤ k
    fewer n =
        let swapped : length (filter (in_au n) others) ≡ length (filter (λ (e : Judged). not (here e)) (filter (in_au n) (d ∷ ds))) = ap length (filter_swap (in_au n) (λ (e : Judged). not (here e)) (d ∷ ds)) in
        let less : length (filter (λ (e : Judged). not (here e)) (filter (in_au n) (d ∷ ds))) ≤ length (filter (in_au n) (d ∷ ds)) = few_filtered (λ (e : Judged). not (here e)) (filter (in_au n) (d ∷ ds)) in
        let low : length (filter (in_au n) (d ∷ ds)) ≤ k = few n in
        omega (arith, swapped, less, low)

    mul_suc : (a b : ℕ) → suc a * b ≡ a * b + b
    mul_suc a b = grind arith

-- ---- Of each access unit one picture of each output layer

module _ (o latest n : ℕ) where
  -- an output picture of the latest sequence, of access unit n
  is_here : Judged → Bool
  is_here d = is_output o d && (nat_eq d.sequence latest && in_au n d)

  here_parts : (d : Judged) → is_here d ≡ true → (is_output o d ≡ true) × (d.sequence ≡ latest) × (au d.fact ≡ n)
  unfolding is_here
  here_parts d h =
      let parts : (is_output o d ≡ true) × ((nat_eq d.sequence latest && in_au n d) ≡ true) = and_parts (is_output o d) (nat_eq d.sequence latest && in_au n d) h in
      let both : (nat_eq d.sequence latest ≡ true) × (in_au n d ≡ true) = and_parts (nat_eq d.sequence latest) (in_au n d) parts.1 in
      (parts.0, eqb-true d.sequence latest both.0, eqb-true (au d.fact) n both.1)

  layers_of : List Judged → List ℕ
  layers_of ds = map (λ (d : Judged). layer d.fact) ds

  -- their layers differ
  layers_differ : (past : List Judged) → Throughout (λ before (d : Judged). is_picture d.fact ≡ true → All (IsEarlierPicture d) before) past → All (λ (d : Judged). d.decoded ≡ true → is_picture d.fact ≡ true) past →
      length (distinct (layers_of (filter is_here past))) ≡ length (filter is_here past)
  unfolding distinct layers_of
  layers_differ [] rises pictures = refl
  layers_differ (e ∷ past) rises pictures = go (is_here e) refl (layers_differ past rises.1 (All-tail (λ (d : Judged). d.decoded ≡ true → is_picture d.fact ≡ true) e past pictures))
    where
      none : is_here e ≡ true → is_among (layers_of (filter is_here past)) (layer e.fact) ≡ false
      none is = other (filter is_here past) (λ k f low. one (get_or (filter is_here past) k f) (filter_passes is_here past k f low)
          (All-filter is_here (IsEarlierPicture e) past (rises.0 (All-head (λ (d : Judged). d.decoded ≡ true → is_picture d.fact ≡ true) e past pictures (output_decoded o e (here_parts e is).0))) k f low)
          (All-filter is_here (λ (d : Judged). d.decoded ≡ true → is_picture d.fact ≡ true) past (All-tail (λ (d : Judged). d.decoded ≡ true → is_picture d.fact ≡ true) e past pictures) k f low))
        where
          one : (d : Judged) → is_here d ≡ true → IsEarlierPicture e d → (d.decoded ≡ true → is_picture d.fact ≡ true) → nat_eq (layer d.fact) (layer e.fact) ≡ false
          one d here earlier picture =
              ne_eqb (layer d.fact) (layer e.fact)
              (λ same.
              let less : au d.fact < au e.fact = earlier (picture (output_decoded o d (here_parts d here).0)) same in
              let this : au d.fact ≡ n = (here_parts d here).2 in
              let that : au e.fact ≡ n = (here_parts e is).2 in
              omega (arith, less, this, that))

          other : (ds : List Judged) → All (λ (d : Judged). nat_eq (layer d.fact) (layer e.fact) ≡ false) ds → is_among (layers_of ds) (layer e.fact) ≡ false
          other [] h = refl
          other (d ∷ ds) h = ap₂ (λ a b. a || b) (All-head (λ (d : Judged). nat_eq (layer d.fact) (layer e.fact) ≡ false) d ds h) (other ds (All-tail (λ (d : Judged). nat_eq (layer d.fact) (layer e.fact) ≡ false) d ds h))

      go : (b : Bool) → is_here e ≡ b → length (distinct (layers_of (filter is_here past))) ≡ length (filter is_here past) →
          length (distinct (layers_of (cond b (e ∷ filter is_here past) (filter is_here past)))) ≡ length (cond b (e ∷ filter is_here past) (filter is_here past))
      go true is rest = distinct_new (layer e.fact) (layers_of (filter is_here past)) (none is) ∙ ap suc rest
      go false is rest = rest

  -- and are among those of the sequence
  few_here : (past : List Judged) → IsOrderly past → IsTimely past → latest ≡ latest_sequence past → length (filter is_here past) ≤ length (latest_outputs o past)
  unfolding layers_of
  few_here past orderly timely latest_is =
      let differ : length (distinct (layers_of (filter is_here past))) ≡ length (filter is_here past) = layers_differ past orderly.rises orderly.pictures in
      let fewer : length (distinct (layers_of (filter is_here past))) ≤ length (distinct (latest_outputs o past)) = fewer_distinct (layers_of (filter is_here past)) (latest_outputs o past) (among (filter is_here past) each) in
      let few : length (distinct (latest_outputs o past)) ≤ length (latest_outputs o past) = few_distinct (latest_outputs o past) in
      omega (arith, differ, fewer, few)
    where
      one : (d : Judged) → is_here d ≡ true → (is_output o d ≡ true → d.sequence ≡ latest_sequence past → outputs d.seq_vps o ≡ latest_outputs o past) → is_among (latest_outputs o past) (layer d.fact) ≡ true
      one d here same =
          let parts : (is_output o d ≡ true) × (d.sequence ≡ latest) × (au d.fact ≡ n) = here_parts d here in
          ap (λ ns. is_among ns (layer d.fact)) (sym (same parts.0 (parts.1 ∙ latest_is))) ∙ output_layer o d parts.0

      each : All (λ (d : Judged). is_among (latest_outputs o past) (layer d.fact) ≡ true) (filter is_here past)
      each = λ k f low.
          one (get_or (filter is_here past) k f) (filter_passes is_here past k f low)
          (All-filter is_here (λ (d : Judged). is_output o d ≡ true → d.sequence ≡ latest_sequence past → outputs d.seq_vps o ≡ latest_outputs o past) past (latest_layers o past timely.judgements) k f low)

      among : (ds : List Judged) → All (λ (d : Judged). is_among (latest_outputs o past) (layer d.fact) ≡ true) ds → (m : ℕ) → is_among (layers_of ds) m ≡ true → is_among (latest_outputs o past) m ≡ true
      among [] h m is = absurd (let wrong : false ≡ true = is in cc)
      among (d ∷ ds) h m is = pick (nat_eq (layer d.fact) m) refl is (among ds (All-tail (λ (d : Judged). is_among (latest_outputs o past) (layer d.fact) ≡ true) d ds h) m)
        where
          pick : (b : Bool) → nat_eq (layer d.fact) m ≡ b → (b || is_among (layers_of ds) m) ≡ true → (is_among (layers_of ds) m ≡ true → is_among (latest_outputs o past) m ≡ true) → is_among (latest_outputs o past) m ≡ true
          pick true e is rest = ap (is_among (latest_outputs o past)) (sym (eqb-true (layer d.fact) m e)) ∙ All-head (λ (d : Judged). is_among (latest_outputs o past) (layer d.fact) ≡ true) d ds h
          pick false e is rest = rest is

  -- of pictures of the latest sequence that are put out: those of access unit n
  here_are : (ds : List Judged) → All (λ (d : Judged). (is_output o d ≡ true) × (d.sequence ≡ latest)) ds → filter (in_au n) ds ≡ filter is_here ds
  unfolding is_here
  here_are ds h =
      filter_agree_at (in_au n) is_here ds
      (All-weaker (λ (d : Judged). (is_output o d ≡ true) × (d.sequence ≡ latest)) (λ (d : Judged). in_au n d ≡ is_here d)
      (λ d both. sym (ap₂ (λ a b. a && (b && in_au n d)) both.0 (eq-eqb d.sequence latest both.1))) ds h)

  -- some pictures and all those in order
  few_behind : (gone waiting : List Judged) → length (filter is_here waiting) ≤ length (filter is_here (gone ++ waiting))
  few_behind gone waiting =
      let all : length (filter is_here (gone ++ waiting)) ≡ length (filter is_here gone) + length (filter is_here waiting) = ap length (filter-append is_here gone waiting) ∙ length-append (filter is_here gone) (filter is_here waiting) in
      omega (arith, all)

  pub few_waiting : (past : List Judged) (x : Judged) (rest : List Judged) (left : ℕ) → IsOrderly past → IsTimely past → filter (is_output o) past ≡ x ∷ rest → latest ≡ latest_sequence past →
      All (λ (d : Judged). (is_output o d ≡ true) × (d.sequence ≡ latest)) (x ∷ drop left (in_order o past true)) → length (filter (in_au n) (x ∷ drop left (in_order o past true))) ≤ length (latest_outputs o past)
  unfolding is_here
  few_waiting past x rest left orderly timely outputs latest_is all =
      let here : length (filter (in_au n) (x ∷ waiting)) ≡ length (filter is_here (x ∷ waiting)) = ap length (here_are (x ∷ waiting) all) in
      let fewer : length (filter is_here (x ∷ waiting)) ≤ length (filter is_here (x ∷ rest)) = with_first (is_here x) in
      let whole : length (filter is_here (x ∷ rest)) ≡ length (filter is_here past) = ap (λ ds. length (filter is_here ds)) (sym outputs) ∙ ap length (filter-filter is_here (is_output o) past (every (λ (d : Judged). is_here d ≡ true → is_output o d ≡ true) (λ d is. (here_parts d is).0) past)) in
      let few : length (filter is_here past) ≤ length (latest_outputs o past) = few_here past orderly timely latest_is in
      omega (arith, here, fewer, whole, few)
    where
      waiting : List Judged
      waiting = drop left (in_order o past true)

      counted : length (filter is_here waiting) ≤ length (filter is_here rest)
      counted =
          let part : length (filter is_here waiting) ≤ length (filter is_here (take left (in_order o past true) ++ waiting)) = few_behind (take left (in_order o past true)) waiting in
          let same : length (filter is_here (take left (in_order o past true) ++ waiting)) ≡ length (filter is_here rest) =
          ap (λ ds. length (filter is_here ds)) (take_drop left (in_order o past true)) ∙ count-sorted is_before is_here (whole_outputs o past true) ∙ ap (λ ds. length (filter is_here (drop 1 ds))) outputs in
          omega (arith, part, same)

      with_first : (b : Bool) → length (cond b (x ∷ filter is_here waiting) (filter is_here waiting)) ≤ length (cond b (x ∷ filter is_here rest) (filter is_here rest))
      with_first true = omega (arith, counted)
      with_first false = counted

-- ---- There is room

pub has_room : {P : Type 0} (rebuild : List (Part P) → P) (o : ℕ) (past : List Judged) (whole unit : ℕ) (w : WaitingValue P) (shown : List (Shown × P)) (x : Judged) (rest : List Judged) → IsOrderly past → IsTimely past →
    filter (is_output o) past ≡ x ∷ rest → x.sequence ≡ latest_sequence past → whole ≤ au x.fact → All (λ (d : Judged). au d.fact ≤ whole) past → ShowsInTime rebuild o past true whole unit (Some w) shown →
    w.room ≡ (latest_reorder o past + 1) * length (latest_outputs o past) → length w.pictures < w.room
has_room {P} rebuild o past whole unit w shown x rest orderly timely outputs latest whole_in upto in_time room =
    let count : length w.pictures ≡ length waiting = sym (length-map w.pictures queued_of) ∙ ap length in_time.shows.waiting_are ∙ length-map waiting (queued rebuild past) in
    let product : length (x ∷ waiting) ≤ units (x ∷ waiting) * length (latest_outputs o past) = by_units (length (latest_outputs o past)) (length (x ∷ waiting)) (x ∷ waiting) (let same : length (x ∷ waiting) ≤ length (x ∷ waiting) = omega arith in same) (λ n. few_waiting o (latest_sequence past) n past x rest in_time.shows.left orderly timely outputs refl each) in
    let few : units (x ∷ waiting) ≤ suc (latest_reorder o past) = up_to_one whole (latest_reorder o past) (x ∷ waiting) all_upto before in
    let most : units (x ∷ waiting) * length (latest_outputs o past) ≤ (latest_reorder o past + 1) * length (latest_outputs o past) = mul-le-mul_right (length (latest_outputs o past)) (let one : units (x ∷ waiting) ≤ latest_reorder o past + 1 = omega (arith, few) in one) in
    omega (arith, count, product, most, room)
  where
    waiting : List Judged
    waiting = drop in_time.shows.left (in_order o past true)

    UpTo : Judged → Type 0
    UpTo d = au d.fact ≤ whole

    own : UpTo x
    own = All-head UpTo x rest (subst (All UpTo) outputs (All-filter (is_output o) UpTo past upto))

    all_upto : All UpTo (x ∷ waiting)
    all_upto = All-cons UpTo x waiting own (All-drop UpTo in_time.shows.left (in_order o past true) (All_in_order UpTo o past true upto))

    before : units (before_unit whole (x ∷ waiting)) ≤ latest_reorder o past
    before = subst (λ b. units (cond b (x ∷ before_unit whole waiting) (before_unit whole waiting)) ≤ latest_reorder o past) (sym (le-ltb (au x.fact) whole whole_in)) in_time.few

    Out : Judged → Type 0
    Out d = (is_output o d ≡ true) × (d.sequence ≡ latest_sequence past)

    each : All Out (x ∷ waiting)
    each =
        All-cons Out x waiting (All-head (λ (d : Judged). is_output o d ≡ true) x rest (subst (All (λ (d : Judged). is_output o d ≡ true)) outputs (filter_passes (is_output o) past)), latest)
        (λ k f low. (All-drop (λ (d : Judged). is_output o d ≡ true) in_time.shows.left (in_order o past true) (outputs_in_order o past true) k f low, in_time.shows.of_latest k f low))

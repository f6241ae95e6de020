-- Of the latest sequence: what leaves as a picture leaves, comes or an access unit is whole (C.5.2.2, C.5.2.4).
use Rattle.std.proofs.Common.{◌≡◌, ℕ, suc, ◌<◌, ◌≤◌, ℤ, Bool, true, false, cond, not, ◌&&◌, ◌||◌, All, List, [], ◌∷◌, ◌++◌, filter, get_or, length, map, Option, Some, refl, sym, ap, ap₂, ◌∙◌, subst, arith}
use Rattle.std.specs.Prelude.{int_lt, nat_eq, nat_lt}
use Rattle.std.specs.Ordering.{int_eq}
use Rattle.std.specs.List.{list_any}
use Rattle.std.proofs.lemmas.Bool.{and_from, and_parts, and_right, eq-eqb, eqb-true, le-ltb, lt-ltb, ltb-true, ne_eqb, or_from, or_left, or_right}
use Rattle.std.proofs.lemmas.Int.{ints}
use Rattle.std.proofs.lemmas.List.Elements.{All-cons, All-head, All-push, All-tail, All-weaker, filter-append, filter_agree}
use Rattle.std.proofs.lemmas.List.Folds.{list_any-append, list_any_none}
use Rattle.mv_history.specs.Order.{Agree, put}
use Rattle.mv_history.proofs.Instances.{map-put}
use Rattle.mv_dpb.specs.declared.shown.Shown.{Shown}
use Rattle.mv_dpb.specs.declared.waits.Waits.{Waits}
use Rattle.mv_dpb.specs.Stored.{Stored}
use Rattle.mv_dpb.specs.Waits.{access_units, begun_with, comes_first, is_begun, is_begun_of, is_of}
use Rattle.mv_dpb.specs.Waiting.{WaitingValue, behind_first, may_leave, told, with_picture, without_first}
use Rattle.mv_dpb.proofs.WaitsLaws.{same}
use Rattle.mv_layers.specs.OutputLayers.{is_among}
use Rattle.mv_pictures.specs.Judged.{Judged, au, in_au, layer}
use Rattle.mv_pictures.specs.Output.{count_of, distinct, is_before}
use Rattle.mv_commuting.proofs.Fewer.{fewer_distinct}
use Rattle.mv_rebuild.specs.Parts.{Part}
use Rattle.mv_walk_order.specs.Queue.{Queued, is_first, queued_of}
use Rattle.mv_walk_values.specs.InTime.{IsBumped, of_sequence, shares, units, whole_before}
use Rattle.mv_walk_values.specs.Showing.{queued}
use Rattle.mv_walk_values.proofs.Counting.{aus, aus_among, distinct_more, fewer_units, filter_all, filter_put, none_pass, one_passes, own_among, own_shared}
use Rattle.mv_walk_values.proofs.Holding.{map_twice}
use Rattle.mv_walk_values.proofs.Showing.{put_agrees, same_order}

-- ---- The pictures that wait, by what is told of them

any_map : {A B : Type 0} (f : A → B) (test : B → Bool) (xs : List A) → list_any test (map f xs) ≡ list_any (λ x. test (f x)) xs
any_map f test [] = refl
any_map f test (x ∷ xs) = ap (λ b. test (f x) || b) (any_map f test xs)

map_pairs : {A B C D : Type 0} (f : A → C) (g : B → C) (h : A → D) (i : B → D) (xs : List A) (ys : List B) → map f xs ≡ map g ys → map h xs ≡ map i ys → map {B = C × D} (λ x. (f x, h x)) xs ≡ map {B = C × D} (λ y. (g y, i y)) ys
map_pairs f g h i [] [] first second = refl
map_pairs f g h i [] (y ∷ ys) first second = absurd cc
map_pairs f g h i (x ∷ xs) [] first second = absurd cc
map_pairs {A} {B} {C} {D} f g h i (x ∷ xs) (y ∷ ys) first second =
    let one : f x ≡ g y = cc in
    let other : h x ≡ i y = cc in
    let ones : map f xs ≡ map g ys = cc in
    let others : map h xs ≡ map i ys = cc in
    ap₂ (λ (p : C × D) (ps : List (C × D)). p ∷ ps) (ap₂ (λ (c : C) (d : D). (c, d)) one other) (map_pairs f g h i xs ys ones others)

-- none of what was shown is of an access unit from `unit` on
pub none_shared : (unit n : ℕ) (shown : List Judged) → All (λ (d : Judged). au d.fact < unit) shown → unit ≤ n → list_any (in_au n) shown ≡ false
none_shared unit n shown earlier within =
    list_any_none (in_au n) shown
    (All-weaker (λ (d : Judged). au d.fact < unit) (λ (d : Judged). in_au n d ≡ false) (λ d low. ne_eqb (au d.fact) n (λ same. omega (arith, low, within, same))) shown earlier)

module _ {P : Type 0} where
  abbrev pub au_told : List (Stored Waits P) → List ℕ
  au_told ps = map (λ s. s.told.au) ps

  abbrev pub begun_told : List (Stored Waits P) → List Bool
  begun_told ps = map (λ s. s.told.begun) ps

  -- how many access units they are of
  pub units_told : (ps : List (Stored Waits P)) → access_units (map (λ s. s.told) ps) ≡ length (distinct (au_told ps))
  unfolding distinct
  units_told [] = refl
  units_told (s ∷ ps) =
      ap (λ b. cond b (access_units (map (λ s. s.told) ps)) (suc (access_units (map (λ s. s.told) ps)))) (any_map (λ s. s.told) (is_of s.told.au) ps ∙ sym (any_map (λ s. s.told.au) (λ n. nat_eq n s.told.au) ps))
      ∙ ap (λ n. cond (is_among (au_told ps) s.told.au) n (suc n)) (units_told ps)
      ∙ go (is_among (au_told ps) s.told.au)
    where
      go : (b : Bool) → cond b (length (distinct (au_told ps))) (suc (length (distinct (au_told ps)))) ≡ length (cond b (distinct (au_told ps)) (s.told.au ∷ distinct (au_told ps)))
      go true = refl
      go false = refl

  -- one has begun to leave
  begun_any : (ps : List (Stored Waits P)) (test : Judged → Bool) (ds : List Judged) → begun_told ps ≡ map test ds → list_any is_begun (map (λ s. s.told) ps) ≡ list_any test ds
  begun_any ps test ds are =
      any_map (λ s. s.told) is_begun ps
      ∙ sym (any_map (λ s. s.told.begun) (λ b. b) ps)
      ∙ ap (list_any (λ b. b)) are
      ∙ any_map test (λ b. b) ds

  -- those behind a picture that leaves have begun to leave where they are of its access unit
  flags_behind : (ps : List (Stored Waits P)) (ds shown : List Judged) (d : Judged) (n : ℕ) → n ≡ au d.fact → au_told ps ≡ aus ds → begun_told ps ≡ map (shares shown) ds →
      begun_told (map (λ t. record { told = begun_with n t.told; picture = t.picture }) ps) ≡ map (shares (shown ++ d ∷ [])) ds
  flags_behind [] [] shown d n is aus_are begun_are = refl
  flags_behind [] (e ∷ ds) shown d n is aus_are begun_are = absurd cc
  flags_behind (s ∷ ps) [] shown d n is aus_are begun_are = absurd cc
  flags_behind (s ∷ ps) (e ∷ ds) shown d n is aus_are begun_are =
      let here : s.told.au ≡ au e.fact = cc in
      let flag : s.told.begun ≡ shares shown e = cc in
      let rest_are : au_told ps ≡ aus ds = cc in
      let rest_begun : begun_told ps ≡ map (shares shown) ds = cc in
      ap₂ (λ b bs. b ∷ bs) (first here flag) (flags_behind ps ds shown d n is rest_are rest_begun)
    where
      swap : (a b : Bool) → (a || b) ≡ (b || (a || false))
      swap true true = refl
      swap true false = refl
      swap false true = refl
      swap false false = refl

      first : s.told.au ≡ au e.fact → s.told.begun ≡ shares shown e → (nat_eq s.told.au n || s.told.begun) ≡ shares (shown ++ d ∷ []) e
      first here flag =
          ap₂ (λ (m : ℕ) (b : Bool). nat_eq m n || b) here flag
          ∙ ap (λ m. nat_eq (au e.fact) m || shares shown e) is
          ∙ ap (λ b. b || shares shown e) (same (au e.fact) (au d.fact))
          ∙ swap (nat_eq (au d.fact) (au e.fact)) (shares shown e)
          ∙ sym (list_any-append (in_au (au e.fact)) shown (d ∷ []))

-- ---- The pictures of an access unit stand together

-- what stands between two pictures of one access unit, which have one count, is of that access unit
between : (x y : ℤ) (m n i j l : ℕ) → (int_lt y x || (int_eq y x && (nat_lt n m || (nat_eq n m && nat_lt j i)))) ≡ false → (int_lt x y || (int_eq x y && (nat_lt m n || (nat_eq m n && nat_lt l j)))) ≡ false → n ≡ m
between x y m n i j l h k = grind (arith, ints)

same_sequence : (s t : ℕ) (p : Bool) → s ≡ t → (nat_lt s t || (nat_eq s t && p)) ≡ false → p ≡ false
same_sequence s t false e h = refl
same_sequence s t true e h = absurd (let wrong : (nat_lt s t || (nat_eq s t && true)) ≡ true = or_right (nat_lt s t) (nat_eq s t && true) (and_from (nat_eq s t) true (eq-eqb s t e) refl) in let other : true ≡ false = sym wrong ∙ h in cc)

pub stands_between : (g d e : Judged) → g.sequence ≡ d.sequence → e.sequence ≡ d.sequence → count_of g ≡ count_of e → au g.fact ≡ au e.fact → is_before d g ≡ false → is_before e d ≡ false → au d.fact ≡ au g.fact
unfolding is_before
stands_between g d e first last counts here behind before =
    between (count_of g) (count_of d) (au g.fact) (au d.fact) (layer g.fact) (layer d.fact) (layer e.fact)
    (same_sequence d.sequence g.sequence _ (sym first) behind)
    (ap₂ (λ (c : ℤ) (n : ℕ). int_lt c (count_of d) || (int_eq c (count_of d) && (nat_lt n (au d.fact) || (nat_eq n (au d.fact) && nat_lt (layer e.fact) (layer d.fact))))) counts here
    ∙ same_sequence e.sequence d.sequence _ last before)

-- so the first that waits has begun to leave where one that waits has
pub first_shared : (shown rest : List Judged) (d : Judged) → All (λ (g : Judged). All (λ (e : Judged). au g.fact ≡ au e.fact → au d.fact ≡ au g.fact) rest) shown → list_any (shares shown) rest ≡ true → shares shown d ≡ true
first_shared shown rest d close some =
    let one = one_passes (shares shown) (λ (e : Judged). All (λ (g : Judged). au g.fact ≡ au e.fact → au d.fact ≡ au g.fact) shown) rest (λ k f low j c less. close j c less k f low) some in
    let e : Judged = one.0 in
    let other = one_passes (in_au (au e.fact)) (λ (g : Judged). (au g.fact ≡ au e.fact → au d.fact ≡ au g.fact) × (shares shown g ≡ true)) shown (λ j c less. (one.2 j c less, own_shared shown j c less)) one.1 in
    let g : Judged = other.0 in
    let there : au g.fact ≡ au e.fact = eqb-true (au g.fact) (au e.fact) other.1 in
    ap (λ n. list_any (in_au n) shown) (other.2.0 there) ∙ other.2.1

-- ---- A picture leaves

-- whether a picture is of an access unit of which none was shown, with one more that was
shares_more : (shown : List Judged) (d e : Judged) → shares (shown ++ d ∷ []) e ≡ (shares shown e || (nat_eq (au d.fact) (au e.fact) || false))
shares_more shown d e = list_any-append (in_au (au e.fact)) shown (d ∷ [])

-- of an access unit that has begun to leave: no other one begins
still_enough : (unit number : ℕ) (shown rest : List Judged) (d : Judged) → shares shown d ≡ true → All (λ (g : Judged). number ≤ units (whole_before unit shown (d ∷ rest))) shown → number ≤ units (whole_before unit (shown ++ d ∷ []) rest)
still_enough unit number shown rest d shared enough =
    subst (λ ds. number ≤ units ds) (first ∙ sym (filter_agree (λ (e : Judged). nat_lt (au e.fact) unit && not (shares (shown ++ d ∷ []) e)) (λ (e : Judged). nat_lt (au e.fact) unit && not (shares shown e)) alike rest))
    (one_passes (in_au (au d.fact)) (λ (g : Judged). number ≤ units (whole_before unit shown (d ∷ rest))) shown enough shared).2
  where
    first : whole_before unit shown (d ∷ rest) ≡ whole_before unit shown rest
    first =
        ap (λ b. cond (nat_lt (au d.fact) unit && not b) (d ∷ whole_before unit shown rest) (whole_before unit shown rest)) shared
        ∙ ap (λ b. cond b (d ∷ whole_before unit shown rest) (whole_before unit shown rest)) (and_right (nat_lt (au d.fact) unit) false refl)

    same_one : (e : Judged) (b : Bool) → nat_eq (au d.fact) (au e.fact) ≡ b → (shares shown e || (b || false)) ≡ shares shown e
    same_one e true is = or_right (shares shown e) true refl ∙ sym (ap (λ n. list_any (in_au n) shown) (sym (eqb-true (au d.fact) (au e.fact) is)) ∙ shared)
    same_one e false is = plain (shares shown e)
      where
        plain : (b : Bool) → (b || false) ≡ b
        plain true = refl
        plain false = refl

    alike : (e : Judged) → (nat_lt (au e.fact) unit && not (shares (shown ++ d ∷ []) e)) ≡ (nat_lt (au e.fact) unit && not (shares shown e))
    alike e = ap (λ b. nat_lt (au e.fact) unit && not b) (shares_more shown d e ∙ same_one e (nat_eq (au d.fact) (au e.fact)) refl)

-- of the first of too many access units: one less is left
enough_left : (unit number : ℕ) (shown rest : List Judged) (d : Judged) → All (λ (e : Judged). au e.fact < unit) rest → All (λ (e : Judged). shares shown e ≡ false) rest → number < units (d ∷ rest) → number ≤ units (whole_before unit (shown ++ d ∷ []) rest)
enough_left unit number shown rest d early apart many =
    let fewer : length (distinct (aus (d ∷ rest))) ≤ length (distinct (au d.fact ∷ aus left)) = fewer_distinct (aus (d ∷ rest)) (au d.fact ∷ aus left) there in
    let more : length (distinct (au d.fact ∷ aus left)) ≤ suc (length (distinct (aus left))) = distinct_more (au d.fact) (aus left) in
    omega (arith, fewer, more, many)
  where
    is_whole : Judged → Bool
    is_whole e = nat_lt (au e.fact) unit && not (shares (shown ++ d ∷ []) e)

    left : List Judged
    left = filter is_whole rest

    one : (e : Judged) → au e.fact < unit → shares shown e ≡ false → (is_whole e ≡ true → is_among (aus left) (au e.fact) ≡ true) → (b : Bool) → nat_eq (au d.fact) (au e.fact) ≡ b → (b || is_among (aus left) (au e.fact)) ≡ true
    one e low none own true is = refl
    one e low none own false is =
        own
        (and_from (nat_lt (au e.fact) unit) (not (shares (shown ++ d ∷ []) e)) (lt-ltb (au e.fact) unit low)
        (ap not (shares_more shown d e ∙ ap₂ (λ b c. b || (c || false)) none is)))

    each : All (λ (e : Judged). is_among (au d.fact ∷ aus left) (au e.fact) ≡ true) (d ∷ rest)
    each =
        All-cons (λ (e : Judged). is_among (au d.fact ∷ aus left) (au e.fact) ≡ true) d rest
        (or_left (nat_eq (au d.fact) (au d.fact)) (is_among (aus left) (au d.fact)) (eq-eqb (au d.fact) (au d.fact) refl))
        (λ k f low. one (get_or rest k f) (early k f low) (apart k f low) (own_among is_whole rest k f low) (nat_eq (au d.fact) (au (get_or rest k f).fact)) refl)

    there : (n : ℕ) → is_among (aus (d ∷ rest)) n ≡ true → is_among (au d.fact ∷ aus left) n ≡ true
    there n h =
        aus_among (λ _. true) (au d.fact ∷ aus left) (d ∷ rest)
        (All-weaker (λ (e : Judged). is_among (au d.fact ∷ aus left) (au e.fact) ≡ true) (λ (e : Judged). true ≡ true → is_among (au d.fact ∷ aus left) (au e.fact) ≡ true) (λ e is _. is) (d ∷ rest) each) n
        (ap (λ ds. is_among (aus ds) n) (filter_all (λ _. true) (d ∷ rest) (λ k f low. refl)) ∙ h)

module _ {P : Type 0} where
  -- the first that waits leaves
  pub bumped_given : (latest number unit : ℕ) (gone rest : List Judged) (d : Judged) (w : WaitingValue P) (s : Stored Waits P) (pictures : List (Stored Waits P)) → w.pictures ≡ s ∷ pictures → may_leave w ≡ true →
      au_told w.pictures ≡ aus (d ∷ rest) → d.sequence ≡ latest → All (λ (e : Judged). au e.fact < unit) (d ∷ rest) → (list_any (shares (of_sequence latest gone)) rest ≡ true → shares (of_sequence latest gone) d ≡ true) →
      IsBumped latest number unit gone (d ∷ rest) (Some w) → IsBumped latest number unit (gone ++ d ∷ []) rest (Some (without_first w))
  bumped_given latest number unit gone rest d w s pictures are leaves aus_are here early together bumped =
      record {
        earlier = subst (All (λ (e : Judged). au e.fact < unit)) (sym more) (All-push (λ (e : Judged). au e.fact < unit) shown d bumped.earlier (All-head (λ (e : Judged). au e.fact < unit) d rest early));
        begun_are = flags;
        enough = subst (λ ds. All (λ (e : Judged). number ≤ units (whole_before unit ds rest)) ds) (sym more) (λ k f low. left (list_any (shares shown) (d ∷ rest)) refl);
        reorder_is = bumped.reorder_is;
      }
    where
      shown : List Judged
      shown = of_sequence latest gone

      more : of_sequence latest (gone ++ d ∷ []) ≡ shown ++ d ∷ []
      more = filter-append (λ (e : Judged). nat_eq e.sequence latest) gone (d ∷ []) ∙ ap (λ b. shown ++ cond b (d ∷ []) []) (eq-eqb d.sequence latest here)

      told_aus : au_told (s ∷ pictures) ≡ aus (d ∷ rest)
      told_aus = ap au_told (sym are) ∙ aus_are

      told_begun : begun_told (s ∷ pictures) ≡ map (shares shown) (d ∷ rest)
      told_begun = ap begun_told (sym are) ∙ bumped.begun_are

      flags : begun_told (without_first w).pictures ≡ map (shares (of_sequence latest (gone ++ d ∷ []))) rest
      flags =
          let first : s.told.au ≡ au d.fact = cc in
          let others : au_told pictures ≡ aus rest = cc in
          let begun : begun_told pictures ≡ map (shares shown) rest = cc in
          ap (λ ps. begun_told (behind_first ps)) are
          ∙ flags_behind pictures rest shown d s.told.au first others begun
          ∙ ap (λ ds. map (shares ds) rest) (sym more)

      left : (b : Bool) → list_any (shares shown) (d ∷ rest) ≡ b → number ≤ units (whole_before unit (shown ++ d ∷ []) rest)
      left true some = still_enough unit number shown rest d (begun (shares shown d) refl) bumped.enough
        where
          begun : (b : Bool) → shares shown d ≡ b → shares shown d ≡ true
          begun true is = is
          begun false is = together (ap (λ b. b || list_any (shares shown) rest) (sym is) ∙ some)
      left false none =
          enough_left unit number shown rest d (All-tail (λ (e : Judged). au e.fact < unit) d rest early) (All-tail (λ (e : Judged). shares shown e ≡ false) d rest (none_pass (shares shown) (d ∷ rest) none))
          (subst (λ n. n < units (d ∷ rest)) bumped.reorder_is (subst (λ n. w.reorder < n) count (ltb-true w.reorder (access_units (told w)) many)))
        where
          none_begun : list_any is_begun (told w) ≡ false
          none_begun = begun_any w.pictures (shares shown) (d ∷ rest) bumped.begun_are ∙ none

          many : nat_lt w.reorder (access_units (told w)) ≡ true
          many = plain (nat_lt w.reorder (access_units (told w))) (ap (λ b. nat_lt w.reorder (access_units (told w)) || b) (sym none_begun) ∙ leaves)
            where
              plain : (b : Bool) → (b || false) ≡ true → b ≡ true
              plain true h = refl
              plain false h = h

          count : access_units (told w) ≡ units (d ∷ rest)
          count = units_told w.pictures ∙ ap (λ ns. length (distinct ns)) aus_are

  -- ---- An access unit is whole

  pub bumped_whole : (latest number unit next : ℕ) (gone waiting : List Judged) (q : Option (WaitingValue P)) → unit ≤ next → IsBumped latest number unit gone waiting q → IsBumped latest number next gone waiting q
  bumped_whole latest number unit next gone waiting q more bumped =
      record {
        earlier = All-weaker (λ (d : Judged). au d.fact < unit) (λ (d : Judged). au d.fact < next) (λ d low. omega (arith, low, more)) shown bumped.earlier;
        begun_are = bumped.begun_are;
        enough = All-weaker (λ (d : Judged). number ≤ units (whole_before unit shown waiting)) (λ (d : Judged). number ≤ units (whole_before next shown waiting)) (λ d many. omega (arith, many, fewer)) shown bumped.enough;
        reorder_is = bumped.reorder_is;
      }
    where
      shown : List Judged
      shown = of_sequence latest gone

      fewer : units (whole_before unit shown waiting) ≤ units (whole_before next shown waiting)
      fewer =
          fewer_units (λ (e : Judged). nat_lt (au e.fact) unit && not (shares shown e)) (λ (e : Judged). nat_lt (au e.fact) next && not (shares shown e)) waiting
          (λ e is.
          let parts : (nat_lt (au e.fact) unit ≡ true) × (not (shares shown e) ≡ true) = and_parts (nat_lt (au e.fact) unit) (not (shares shown e)) is in
          let low : au e.fact < unit = ltb-true (au e.fact) unit parts.0 in
          and_from (nat_lt (au e.fact) next) (not (shares shown e)) (lt-ltb (au e.fact) next (omega (arith, low, more))) parts.1)

  -- ---- A picture comes

  -- no picture of an access unit that none shares has begun to leave
  none_begun : (ps : List (Stored Waits P)) (ds shown : List Judged) (n : ℕ) → list_any (in_au n) shown ≡ false → au_told ps ≡ aus ds → begun_told ps ≡ map (shares shown) ds → list_any (is_begun_of n) (map (λ s. s.told) ps) ≡ false
  none_begun [] ds shown n none aus_are begun_are = refl
  none_begun (s ∷ ps) [] shown n none aus_are begun_are = absurd cc
  none_begun (s ∷ ps) (e ∷ ds) shown n none aus_are begun_are =
      let here : s.told.au ≡ au e.fact = cc in
      let flag : s.told.begun ≡ shares shown e = cc in
      let rest_are : au_told ps ≡ aus ds = cc in
      let rest_begun : begun_told ps ≡ map (shares shown) ds = cc in
      or_from (is_begun_of n s.told) (list_any (is_begun_of n) (map (λ s. s.told) ps)) (first here flag (nat_eq s.told.au n) refl) (none_begun ps ds shown n none rest_are rest_begun)
    where
      first : s.told.au ≡ au e.fact → s.told.begun ≡ shares shown e → (b : Bool) → nat_eq s.told.au n ≡ b → (b && s.told.begun) ≡ false
      first here flag false is = refl
      first here flag true is = flag ∙ ap (λ m. list_any (in_au m) shown) (sym here ∙ eqb-true s.told.au n is) ∙ none

  -- a picture of the access unit that goes on comes to those that wait
  pub bumped_comes : (rebuild : List (Part P) → P) (past : List Judged) (latest number unit : ℕ) (gone waiting : List Judged) (x : Judged) (told_x : Shown) (pic : P) (w : WaitingValue P) → x.sequence ≡ latest →
      All (λ (d : Judged). d.sequence ≡ latest) waiting → unit ≤ au x.fact → record { shown = told_x; au = au x.fact; picture = pic } ≡ queued rebuild past x → map queued_of w.pictures ≡ map (queued rebuild past) waiting →
      IsBumped latest number unit gone waiting (Some w) → IsBumped latest number unit gone (put is_before x waiting) (Some (with_picture told_x (au x.fact) pic w))
  bumped_comes rebuild past latest number unit gone waiting x told_x pic w here of_it within it waits bumped =
      record {
        earlier = bumped.earlier;
        begun_are = flags;
        enough = subst (λ ds. All (λ (d : Judged). number ≤ units ds) shown) (sym (filter_put is_before (λ (d : Judged). nat_lt (au d.fact) unit && not (shares shown d)) x waiting (ap (λ b. b && not (shares shown x)) (le-ltb (au x.fact) unit within)))) bumped.enough;
        reorder_is = bumped.reorder_is;
      }
    where
      shown : List Judged
      shown = of_sequence latest gone

      alone : shares shown x ≡ false
      alone = none_shared unit (au x.fact) shown bumped.earlier within

      aus_are : au_told w.pictures ≡ aus waiting
      aus_are =
          sym (map_twice (λ (q : Queued P). q.au) queued_of w.pictures)
          ∙ ap (map (λ (q : Queued P). q.au)) waits
          ∙ map_twice (λ (q : Queued P). q.au) (queued rebuild past) waiting

      stored : Stored Waits P
      stored = record { told = record { shown = told_x; au = au x.fact; begun = list_any (is_begun_of (au x.fact)) (told w) }; picture = pic }

      of_stored : Stored Waits P → Queued P × Bool
      of_stored s = (queued_of s, s.told.begun)

      of_judged : Judged → Queued P × Bool
      of_judged d = (queued rebuild past d, shares shown d)

      by_first : Queued P × Bool → Queued P × Bool → Bool
      by_first a b = is_first a.0 b.0

      same_picture : of_stored stored ≡ of_judged x
      same_picture = ap₂ (λ (q : Queued P) (b : Bool). (q, b)) it (none_begun w.pictures waiting shown (au x.fact) alone aus_are bumped.begun_are ∙ sym alone)

      agree : Agree is_before (λ a b. is_first (queued rebuild past a) (queued rebuild past b)) waiting x
      agree = All-weaker (λ (d : Judged). d.sequence ≡ latest) (λ d. is_before x d ≡ is_first (queued rebuild past x) (queued rebuild past d)) (λ d same. same_order rebuild past x d (here ∙ sym same)) waiting of_it

      flags : begun_told (put (λ a b. comes_first a.told b.told) stored w.pictures) ≡ map (shares shown) (put is_before x waiting)
      flags =
          sym (map_twice (λ (p : Queued P × Bool). p.1) of_stored (put (λ a b. comes_first a.told b.told) stored w.pictures))
          ∙ ap (map (λ (p : Queued P × Bool). p.1))
          (map-put of_stored (λ a b. comes_first a.told b.told) by_first (λ a b. refl) stored w.pictures
          ∙ ap₂ (put by_first) same_picture (map_pairs queued_of (queued rebuild past) (λ s. s.told.begun) (shares shown) w.pictures waiting waits bumped.begun_are)
          ∙ sym (map-put of_judged (λ a b. is_first (queued rebuild past a) (queued rebuild past b)) by_first (λ a b. refl) x waiting)
          ∙ ap (map of_judged) (sym (put_agrees is_before (λ a b. is_first (queued rebuild past a) (queued rebuild past b)) x waiting agree)))
          ∙ map_twice (λ (p : Queued P × Bool). p.1) of_judged (put is_before x waiting)

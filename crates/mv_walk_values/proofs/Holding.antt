-- The pictures in a layer's buffer stay the values of those that are held.
use Rattle.std.proofs.Common.{◌≡◌, ℕ, zero, suc, ◌+◌, ◌<◌, ℤ, Bool, true, false, cond, ◌||◌, All, List, [], ◌∷◌, ◌++◌, filter, length, get_or, map, reverse, Option, Some, None, refl, sym, ap, ◌∙◌, subst, arith}
use Rattle.std.specs.Prelude.{drop, option_and_then, option_map, slice_get}
use Rattle.std.specs.List.{cons_option, enumerate_from, filter_map}
use Rattle.std.proofs.lemmas.List.{append-nil, map-append, reverse-append}
use Rattle.std.proofs.lemmas.List.FromFn.{get_or-enumerate_from, length-enumerate_from}
use Rattle.std.proofs.lemmas.Option.{slice_get-get_or}
use Rattle.mv_layers.specs.OutputLayers.{is_among}
use Rattle.mv_dpb.specs.declared.held.Held.{Held as InBuffer}
use Rattle.mv_dpb.specs.declared.held.Keep.{Keep}
use Rattle.mv_dpb.specs.Stored.{Stored}
use Rattle.mv_dpb.specs.Buffer.{kept, marked}
use Rattle.mv_pictures.specs.Held.{Held}
use Rattle.mv_pictures.specs.Judged.{Judged, au}
use Rattle.mv_commuting.specs.HeldOneMore.{held_of, marked_by, names_held, unmarked}
use Rattle.mv_rebuild.specs.Parts.{Part}
use Rattle.mv_rps.specs.Standing.{kept_by_name, told, told_of}
use Rattle.mv_rps.proofs.FoundLaws.{enumerate_map, enumerate_seconds, filter_map_agree}
use Rattle.mv_rps.proofs.ResolveLaws.{filter_map_map}
use Rattle.mv_walk_layer.specs.LayerValue.{LatestValue, LayerValue, no_pictures, with_decoded, with_picture}
use Rattle.mv_walk_values.specs.Holding.{HoldsValues, whole_held}
use Rattle.mv_walk_values.specs.Values.{is_segment_of, value_of}
use Rattle.mv_walk_values.proofs.Terms.{values_kept}

-- ---- A unit that changes nothing of what is held

pub holds_kept : {P : Type 0} (rebuild : List (Part P) → P) (l : LayerValue P) (e : Judged) (past : List Judged) (n : ℕ) (making : Option (ℤ × ℕ)) → held_of (e ∷ past) n ≡ held_of past n →
    All (λ (h : Held). is_segment_of h.it e ≡ false) (reverse (whole_held past n making)) → HoldsValues rebuild l past n making → HoldsValues rebuild l (e ∷ past) n making
holds_kept {P} rebuild l e past n making same none holds =
    holds
    ∙ sym (values_kept rebuild e (λ (h : Held). h.it) past (reverse (whole_held past n making)) none)
    ∙ ap (λ hs. map (λ (h : Held). value_of rebuild (e ∷ past) h.it) (reverse hs)) (whole making)
  where
    whole : (m : Option (ℤ × ℕ)) → whole_held past n m ≡ whole_held (e ∷ past) n m
    whole None = sym same
    whole (Some m) = ap (drop 1) (sym same)

-- nothing is held, and nothing is kept
pub holds_none : {P : Type 0} (rebuild : List (Part P) → P) (past : List Judged) (n : ℕ) → held_of past n ≡ [] → HoldsValues {P = P} rebuild no_pictures past n None
holds_none rebuild past n none = sym (ap (λ hs. map (λ (h : Held). value_of rebuild past h.it) (reverse hs)) none)

-- ---- A start

pub holds_start : {P : Type 0} (rebuild : List (Part P) → P) (l : LayerValue P) (keep : List Keep) (latest : LatestValue) (e : Judged) (past : List Judged) (n : ℕ) (m : ℤ × ℕ) → held_of (e ∷ past) n ≡ unmarked e ∷ [] →
    HoldsValues rebuild (with_decoded true keep latest l) (e ∷ past) n (Some m)
holds_start rebuild l keep latest e past n m held = sym (ap (λ hs. map (λ (h : Held). value_of rebuild (e ∷ past) h.it) (reverse (drop 1 hs))) held)

-- ---- Another decoded picture

pictures_kept : {P : Type 0} (keep : List Keep) (buffer : List (Stored InBuffer P)) → map (λ s. s.picture) (kept keep buffer) ≡ filter_map (λ (k : Keep). slice_get (map (λ s. s.picture) buffer) k.place) keep
pictures_kept [] buffer = refl
pictures_kept {P} (k ∷ keep) buffer =
    go (slice_get buffer k.place) (pictures_kept keep buffer)
    ∙ ap (λ o. cons_option o (filter_map (λ (k : Keep). slice_get (map (λ s. s.picture) buffer) k.place) keep)) (sym (got buffer k.place))
  where
    got : (xs : List (Stored InBuffer P)) (i : ℕ) → slice_get (map (λ s. s.picture) xs) i ≡ option_map (λ s. s.picture) (slice_get xs i)
    got [] i = refl
    got (x ∷ xs) zero = refl
    got (x ∷ xs) (suc i) = got xs i

    go : (o : Option (Stored InBuffer P)) → map (λ s. s.picture) (kept keep buffer) ≡ filter_map (λ (k : Keep). slice_get (map (λ s. s.picture) buffer) k.place) keep →
        map (λ s. s.picture) (cons_option (option_map (λ s. record { told = marked k.long s.told; picture = s.picture }) o) (kept keep buffer))
        ≡ cons_option (option_map (λ s. s.picture) o) (filter_map (λ (k : Keep). slice_get (map (λ s. s.picture) buffer) k.place) keep)
    go None rest = rest
    go (Some s) rest = ap (λ l. s.picture ∷ l) rest

filter_map_twice : {A B C : Type 0} (g : B → Option C) (f : A → Option B) (xs : List A) → filter_map g (filter_map f xs) ≡ filter_map (λ x. option_and_then g (f x)) xs
filter_map_twice g f [] = refl
filter_map_twice {A} {B} {C} g f (x ∷ xs) = go (f x) (filter_map_twice g f xs)
  where
    go : (o : Option B) → filter_map g (filter_map f xs) ≡ filter_map (λ x. option_and_then g (f x)) xs →
        filter_map g (cons_option o (filter_map f xs)) ≡ cons_option (option_and_then g o) (filter_map (λ x. option_and_then g (f x)) xs)
    go None rest = rest
    go (Some y) rest = ap (cons_option (g y)) rest

-- those that pass a test, each as it is told
chosen : {A B : Type 0} (test : A → Bool) (f : A → B) → A → Option B
chosen test f x = cond (test x) (Some (f x)) None

chosen_are : {A B : Type 0} (test : A → Bool) (f : A → B) (xs : List A) → filter_map (chosen test f) xs ≡ map f (filter test xs)
unfolding chosen
chosen_are test f [] = refl
chosen_are {A} {B} test f (x ∷ xs) = go (test x) (chosen_are test f xs)
  where
    go : (b : Bool) → filter_map (chosen test f) xs ≡ map f (filter test xs) → cons_option (cond b (Some (f x)) None) (filter_map (chosen test f) xs) ≡ map f (cond b (x ∷ filter test xs) (filter test xs))
    go true rest = ap (λ l. f x ∷ l) rest
    go false rest = rest

-- the values of the pictures that are named, in their order
named_values : {P : Type 0} (names longs : List ℕ) (val : Held → P) (xs : List Held) →
    filter_map (λ (k : Keep). slice_get (map val xs) k.place) (filter_map (kept_by_name names longs) (enumerate_from 0 (map told_of xs))) ≡ map val (filter (λ (h : Held). is_among names (au h.it.fact)) xs)
unfolding chosen
named_values {P} names longs val xs =
    filter_map_twice at (kept_by_name names longs) (enumerate_from 0 (map told_of xs))
    ∙ ap (filter_map (λ x. option_and_then at (kept_by_name names longs x))) (enumerate_map told_of 0 xs)
    ∙ filter_map_map (λ x. option_and_then at (kept_by_name names longs x)) (λ (x : ℕ × Held). (x.0, told_of x.1)) (enumerate_from 0 xs)
    ∙ filter_map_agree (λ (x : ℕ × Held). option_and_then at (kept_by_name names longs (x.0, told_of x.1))) (λ (x : ℕ × Held). chosen is_named val x.1) (enumerate_from 0 xs) each_one
    ∙ sym (filter_map_map (chosen is_named val) (λ (x : ℕ × Held). x.1) (enumerate_from 0 xs))
    ∙ ap (filter_map (chosen is_named val)) (enumerate_seconds 0 xs)
    ∙ chosen_are is_named val xs
  where
    at : Keep → Option P
    at k = slice_get (map val xs) k.place

    is_named : Held → Bool
    is_named h = is_among names (au h.it.fact)

    got : (hs : List Held) (i : ℕ) → slice_get (map val hs) i ≡ option_map val (slice_get hs i)
    got [] i = refl
    got (h ∷ hs) zero = refl
    got (h ∷ hs) (suc i) = got hs i

    one : (i : ℕ) (h : Held) → slice_get xs i ≡ Some h → option_and_then at (kept_by_name names longs (i, told_of h)) ≡ chosen is_named val h
    one i h is = go (is_among names (au h.it.fact))
      where
        go : (b : Bool) → option_and_then at (cond b (Some (record { place = i; long = h.long || is_among longs (au h.it.fact) })) None) ≡ cond b (Some (val h)) None
        go true = got xs i ∙ ap (option_map val) is
        go false = refl

    each_one : All (λ (x : ℕ × Held). option_and_then at (kept_by_name names longs (x.0, told_of x.1)) ≡ chosen is_named val x.1) (enumerate_from 0 xs)
    each_one = λ k d less.
        let k_in : k < length xs = omega (arith, less, length-enumerate_from 0 xs) in
        subst (λ (x : ℕ × Held). option_and_then at (kept_by_name names longs (x.0, told_of x.1)) ≡ chosen is_named val x.1) (sym (get_or-enumerate_from 0 xs k d k_in))
        (one (0 + k) (get_or xs k d.1) (ap (slice_get xs) (let same : 0 + k ≡ k = omega arith in same) ∙ slice_get-get_or xs k d.1 k_in))

-- of lists the other way round
reverse_filter : {A : Type 0} (test : A → Bool) (xs : List A) → reverse (filter test xs) ≡ filter test (reverse xs)
reverse_filter test [] = refl
reverse_filter {A} test (x ∷ xs) =
    go (test x) (reverse_filter test xs)
    ∙ sym (ap (filter test) (reverse-append (x ∷ []) xs) ∙ split (reverse xs))
  where
    split : (ys : List A) → filter test (ys ++ x ∷ []) ≡ filter test ys ++ cond (test x) (x ∷ []) []
    split [] = refl
    split (y ∷ ys) = more (test y) (split ys)
      where
        more : (b : Bool) → filter test (ys ++ x ∷ []) ≡ filter test ys ++ cond (test x) (x ∷ []) [] → cond b (y ∷ filter test (ys ++ x ∷ [])) (filter test (ys ++ x ∷ [])) ≡ cond b (y ∷ filter test ys) (filter test ys) ++ cond (test x) (x ∷ []) []
        more true rest = ap (λ l. y ∷ l) rest
        more false rest = rest

    go : (b : Bool) → reverse (filter test xs) ≡ filter test (reverse xs) → reverse (cond b (x ∷ filter test xs) (filter test xs)) ≡ filter test (reverse xs) ++ cond b (x ∷ []) []
    go true rest = reverse-append (x ∷ []) (filter test xs) ∙ ap (λ l. l ++ x ∷ []) rest
    go false rest = rest ∙ sym (append-nil (filter test (reverse xs)))

reverse_map : {A B : Type 0} (f : A → B) (xs : List A) → reverse (map f xs) ≡ map f (reverse xs)
reverse_map f [] = refl
reverse_map f (x ∷ xs) =
    reverse-append (f x ∷ []) (map f xs) ∙ ap (λ l. l ++ f x ∷ []) (reverse_map f xs)
    ∙ sym (ap (map f) (reverse-append (x ∷ []) xs) ∙ map-append f (reverse xs) (x ∷ []))

pub map_twice : {A B C : Type 0} (g : B → C) (f : A → B) (xs : List A) → map g (map f xs) ≡ map (λ x. g (f x)) xs
map_twice g f [] = refl
map_twice g f (x ∷ xs) = ap (λ l. g (f x) ∷ l) (map_twice g f xs)

-- those stay that it names, as they were; it is in the making
pub holds_decoded : {P : Type 0} (rebuild : List (Part P) → P) (l : LayerValue P) (keep : List Keep) (latest : LatestValue) (e : Judged) (past : List Judged) (n : ℕ) (m : ℤ × ℕ) →
    held_of (e ∷ past) n ≡ unmarked e ∷ map (marked_by e) (filter (names_held e) (held_of past n)) → keep ≡ filter_map (kept_by_name e.names e.longs) (enumerate_from 0 (told (held_of past n))) →
    All (λ (h : Held). is_segment_of h.it e ≡ false) (reverse (held_of past n)) → HoldsValues rebuild l past n None →
    HoldsValues rebuild (with_decoded false keep latest l) (e ∷ past) n (Some m)
holds_decoded {P} rebuild l keep latest e past n m held keeps none holds =
    pictures_kept keep l.buffer
    ∙ ap (λ ps. filter_map (λ (k : Keep). slice_get ps k.place) keep) (holds ∙ sym (values_kept rebuild e (λ (h : Held). h.it) past (reverse (held_of past n)) none))
    ∙ ap (filter_map (λ (k : Keep). slice_get (map val (reverse (held_of past n))) k.place)) keeps
    ∙ named_values e.names e.longs val (reverse (held_of past n))
    ∙ ap (map val) (sym (reverse_filter (names_held e) (held_of past n)))
    ∙ sym (map_twice val (marked_by e) (reverse (filter (names_held e) (held_of past n))))
    ∙ ap (map val) (sym (reverse_map (marked_by e) (filter (names_held e) (held_of past n))))
    ∙ sym (ap (λ hs. map val (reverse (drop 1 hs))) held)
  where
    val : Held → P
    val h = value_of rebuild (e ∷ past) h.it

-- ---- The picture in the making is whole

pub holds_whole : {P : Type 0} (rebuild : List (Part P) → P) (l : LayerValue P) (past : List Judged) (n : ℕ) (m : ℤ × ℕ) (count : ℤ) (unit : ℕ) (pic : P) (it : Held) (rest : List Held) → held_of past n ≡ it ∷ rest → pic ≡ value_of rebuild past it.it →
    HoldsValues rebuild l past n (Some m) → HoldsValues rebuild (with_picture count unit pic l) past n None
holds_whole {P} rebuild l past n m count unit pic it rest held is holds =
    map-append (λ s. s.picture) l.buffer _
    ∙ ap (λ ps. ps ++ pic ∷ []) (holds ∙ ap (λ hs. map val (reverse (drop 1 hs))) held)
    ∙ ap (λ p. map val (reverse rest) ++ p ∷ []) is
    ∙ sym (map-append val (reverse rest) (it ∷ []))
    ∙ ap (map val) (sym (reverse-append (it ∷ []) rest))
    ∙ ap (λ hs. map val (reverse hs)) (sym held)
  where
    val : Held → P
    val h = value_of rebuild past h.it

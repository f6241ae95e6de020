-- What is held behind a decoded picture is what its entries keep of the buffer, and itself.
use Rattle.std.proofs.Common.{◌≡◌, ℕ, zero, suc, ◌+◌, ◌-◌, ◌<◌, ◌≤◌, ◌⊎◌, inl, inr, ℤ, Bool, true, false, cond, ◌||◌, List, [], ◌∷◌, ◌++◌, filter, length, get_or, map, reverse, Option, Some, None, refl, sym, ap, ◌∙◌, subst, arith}
use Rattle.std.specs.Prelude.{is_some, option_and_then, option_map, slice_get, if◌then◌else◌}
use Rattle.std.specs.List.{All, cons_option, enumerate_from, filter_map}
use Rattle.std.proofs.lemmas.Bool.{cases_lt}
use Rattle.std.proofs.lemmas.List.{append-nil, get_or_append_left, get_or-append_right, length-append, map-append, reverse-append}
use Rattle.std.proofs.lemmas.List.Elements.{All-cons, All-head, All-nil, All-tail, All-weaker, filter_map-append}
use Rattle.std.proofs.lemmas.List.FromFn.{get_or-enumerate_from, length-enumerate_from}
use Rattle.std.proofs.lemmas.Option.{slice_get-get_or}
use Rattle.mv_syntax.specs.Words.{◌otherwise◌}
use Rattle.mv_history.specs.History.{Throughout}
use Rattle.mv_layers.specs.OutputLayers.{is_among}
use Rattle.mv_dpb.specs.declared.held.Held.{Held as InBuffer}
use Rattle.mv_dpb.specs.declared.held.Keep.{Keep}
use Rattle.mv_dpb.specs.Stored.{Stored}
use Rattle.mv_dpb.specs.Buffer.{kept, marked}
use Rattle.mv_pictures.specs.Held.{Held}
use Rattle.mv_pictures.specs.Judged.{Judged, au}
use Rattle.mv_pictures.specs.PictureRules.{is_in_range}
use Rattle.mv_commuting.specs.HeldOneMore.{marked_by, names_held, unmarked}
use Rattle.mv_rps.specs.Standing.{AreApart, AreCounted, kept_by_name, told, told_of}
use Rattle.mv_rps.proofs.FoundLaws.{All_reverse, enumerate_seconds, filter_map_agree}
use Rattle.mv_rps.proofs.ResolveLaws.{filter_map_map}
use Rattle.mv_walk_layer.specs.Standing.{IsSound}

-- ---- What is told of pictures that are kept

-- the picture at the place that is named, with the mark that it is given
at_place : List InBuffer → Keep → Option InBuffer
at_place all k = option_map (marked k.long) (slice_get all k.place)

told_kept : {P : Type 0} → (keep : List Keep) (buffer : List (Stored InBuffer P)) → map (λ s. s.told) (kept keep buffer) ≡ filter_map (at_place (map (λ s. s.told) buffer)) keep
unfolding at_place
told_kept [] buffer = refl
told_kept {P} (k ∷ keep) buffer =
    go (slice_get buffer k.place) (told_kept keep buffer)
    ∙ ap (λ o. cons_option (option_map (marked k.long) o) (filter_map (at_place (map (λ s. s.told) buffer)) keep)) (sym (got buffer k.place))
  where
    got : (xs : List (Stored InBuffer P)) (i : ℕ) → slice_get (map (λ s. s.told) xs) i ≡ option_map (λ s. s.told) (slice_get xs i)
    got [] i = refl
    got (x ∷ xs) zero = refl
    got (x ∷ xs) (suc i) = got xs i

    go : (o : Option (Stored InBuffer P)) → map (λ s. s.told) (kept keep buffer) ≡ filter_map (at_place (map (λ s. s.told) buffer)) keep →
        map (λ s. s.told) (cons_option (option_map (λ s. record { told = marked k.long s.told; picture = s.picture }) o) (kept keep buffer))
        ≡ cons_option (option_map (marked k.long) (option_map (λ s. s.told) o)) (filter_map (at_place (map (λ s. s.told) buffer)) keep)
    go None rest = rest
    go (Some s) rest = ap (λ l. marked k.long s.told ∷ l) rest

filter_map_twice : {A B C : Type 0} (g : B → Option C) (f : A → Option B) (xs : List A) → filter_map g (filter_map f xs) ≡ filter_map (λ x. option_and_then g (f x)) xs
filter_map_twice g f [] = refl
filter_map_twice g f (x ∷ xs) = go (f x) (filter_map_twice g f xs)
  where
    go : (o : Option _) → filter_map g (filter_map f xs) ≡ filter_map (λ x. option_and_then g (f x)) xs →
        filter_map g (cons_option o (filter_map f xs)) ≡ cons_option (option_and_then g o) (filter_map (λ x. option_and_then g (f x)) xs)
    go None rest = rest
    go (Some y) rest = ap (cons_option (g y)) rest

-- one that is named, with its mark
named : List ℕ → List ℕ → InBuffer → Option InBuffer
named names longs t = if is_among names t.au then Some (marked (t.long || is_among longs t.au) t) else None

kept_named : (names longs : List ℕ) (all : List InBuffer) → filter_map (at_place all) (filter_map (kept_by_name names longs) (enumerate_from 0 all)) ≡ filter_map (named names longs) all
unfolding at_place named
kept_named names longs all =
    filter_map_twice (at_place all) (kept_by_name names longs) (enumerate_from 0 all)
    ∙ filter_map_agree (λ x. option_and_then (at_place all) (kept_by_name names longs x)) (λ (x : ℕ × InBuffer). named names longs x.1) (enumerate_from 0 all) each_one
    ∙ sym (filter_map_map (named names longs) (λ (x : ℕ × InBuffer). x.1) (enumerate_from 0 all))
    ∙ ap (filter_map (named names longs)) (enumerate_seconds 0 all)
  where
    one : (x : ℕ × InBuffer) → slice_get all x.0 ≡ Some x.1 → option_and_then (at_place all) (kept_by_name names longs x) ≡ named names longs x.1
    one x is = go (is_among names x.1.au)
      where
        go : (b : Bool) → option_and_then (at_place all) (cond b (Some (record { place = x.0; long = x.1.long || is_among longs x.1.au })) None)
            ≡ cond b (Some (marked (x.1.long || is_among longs x.1.au) x.1)) None
        go true = ap (option_map (marked (x.1.long || is_among longs x.1.au))) is
        go false = refl

    each_one : All (λ x. option_and_then (at_place all) (kept_by_name names longs x) ≡ named names longs x.1) (enumerate_from 0 all)
    each_one = λ k d less.
        let k_in : k < length all = omega (arith, less, length-enumerate_from 0 all) in
        subst (λ x. option_and_then (at_place all) (kept_by_name names longs x) ≡ named names longs x.1) (sym (get_or-enumerate_from 0 all k d k_in))
        (one (0 + k, get_or all k d.1) (ap (slice_get all) (let same : 0 + k ≡ k = omega arith in same) ∙ slice_get-get_or all k d.1 k_in))

-- ---- What is told of pictures that a picture names

told_cons : (h : Held) (hs : List Held) → told (h ∷ hs) ≡ told hs ++ told_of h ∷ []
told_cons h hs = ap (map told_of) (reverse-append (h ∷ []) hs) ∙ map-append told_of (reverse hs) (h ∷ [])

told_named : (d : Judged) (hs : List Held) → told (map (marked_by d) (filter (names_held d) hs)) ≡ filter_map (named d.names d.longs) (told hs)
unfolding named
told_named d [] = refl
told_named d (h ∷ hs) =
    go (names_held d h) (told_named d hs)
    ∙ sym (ap (filter_map (named d.names d.longs)) (told_cons h hs) ∙ filter_map-append (named d.names d.longs) (told hs) (told_of h ∷ []))
  where
    go : (b : Bool) → told (map (marked_by d) (filter (names_held d) hs)) ≡ filter_map (named d.names d.longs) (told hs) →
        told (map (marked_by d) (cond b (h ∷ filter (names_held d) hs) (filter (names_held d) hs)))
        ≡ filter_map (named d.names d.longs) (told hs) ++ cons_option (cond b (Some (marked (h.long || is_among d.longs (au h.it.fact)) (told_of h))) None) []
    go true rest = told_cons (marked_by d h) (map (marked_by d) (filter (names_held d) hs)) ∙ ap (λ l. l ++ told_of (marked_by d h) ∷ []) rest
    go false rest = rest ∙ sym (append-nil (filter_map (named d.names d.longs) (told hs)))

-- what is held behind a decoded picture that is no start
pub told-decoded : {P : Type 0} (d : Judged) (hs : List Held) (keep : List Keep) (buffer : List (Stored InBuffer P)) → told hs ≡ map (λ s. s.told) buffer →
    keep ≡ filter_map (kept_by_name d.names d.longs) (enumerate_from 0 (told hs)) →
    told (unmarked d ∷ map (marked_by d) (filter (names_held d) hs)) ≡ map (λ s. s.told) (kept keep buffer) ++ told_of (unmarked d) ∷ []
told-decoded d hs keep buffer same is =
    told_cons (unmarked d) (map (marked_by d) (filter (names_held d) hs))
    ∙ ap (λ l. l ++ told_of (unmarked d) ∷ [])
    (told_named d hs
    ∙ sym (told_kept keep buffer ∙ ap (λ all. filter_map (at_place all) keep) (sym same) ∙ ap (filter_map (at_place (told hs))) is ∙ kept_named d.names d.longs (told hs)))

-- ---- Pictures that are held are counted and apart

pub counted-held : (hs : List Held) → IsSound hs → AreCounted hs
counted-held hs sound = All-weaker (λ (h : Held). (option_map is_in_range h.it.count otherwise false) ≡ true) (λ (h : Held). is_some h.it.count ≡ true) (λ h. there h.it.count) hs sound.counted
  where
    there : (c : Option ℤ) → (option_map is_in_range c otherwise false) ≡ true → is_some c ≡ true
    there None h = h
    there (Some n) h = refl

-- access units of a list rise up to a number
apart_more : (xs : List InBuffer) (x : InBuffer) → AreApart xs → All (λ (y : InBuffer). y.au < x.au) xs → AreApart (xs ++ x ∷ [])
apart_more xs x apart below i j d i_in j_in same = go (cases_lt i (length xs)) (cases_lt j (length xs))
  where
    in_all : length (xs ++ x ∷ []) ≡ length xs + 1
    in_all = length-append xs (x ∷ [])

    left : (k : ℕ) → k < length xs → get_or (xs ++ x ∷ []) k d ≡ get_or xs k d
    left k low = get_or_append_left xs (x ∷ []) d k low

    right : (k : ℕ) → length xs ≤ k → k < length (xs ++ x ∷ []) → (get_or (xs ++ x ∷ []) k d).au ≡ x.au
    right k high k_in =
        ap (λ (y : InBuffer). y.au)
        (get_or-append_right xs (x ∷ []) (length xs) k d refl high
        ∙ ap (λ n. get_or (x ∷ []) n d) (let none : k - length xs ≡ 0 = omega (arith, high, k_in, in_all) in none))

    go : (i < length xs) ⊎ (length xs ≤ i) → (j < length xs) ⊎ (length xs ≤ j) → i ≡ j
    go (inl i_low) (inl j_low) = apart i j d i_low j_low (sym (ap (λ (y : InBuffer). y.au) (left i i_low)) ∙ same ∙ ap (λ (y : InBuffer). y.au) (left j j_low))
    go (inl i_low) (inr j_high) =
        let less : (get_or xs i d).au < x.au = below i d i_low in
        let is : (get_or xs i d).au ≡ x.au = sym (ap (λ (y : InBuffer). y.au) (left i i_low)) ∙ same ∙ right j j_high j_in in
        absurd (omega (arith, less, is))
    go (inr i_high) (inl j_low) =
        let less : (get_or xs j d).au < x.au = below j d j_low in
        let is : (get_or xs j d).au ≡ x.au = sym (ap (λ (y : InBuffer). y.au) (left j j_low)) ∙ sym same ∙ right i i_high i_in in
        absurd (omega (arith, less, is))
    go (inr i_high) (inr j_high) = omega (arith, i_high, j_high, i_in, j_in, in_all)

abbrev Falls : List Held → Type 0
Falls hs = Throughout (λ past (h : Held). All (λ (g : Held). au g.it.fact < au h.it.fact) past) hs

All_map : {A B : Type 0} (P : B → Type 0) (f : A → B) (xs : List A) → All (λ x. P (f x)) xs → All P (map f xs)
All_map P f [] h = All-nil P
All_map P f (x ∷ xs) h = All-cons P (f x) (map f xs) (All-head (λ x. P (f x)) x xs h) (All_map P f xs (All-tail (λ x. P (f x)) x xs h))

pub apart-held : (hs : List Held) → Falls hs → AreApart (told hs)
apart-held [] falls = λ i j d i_in j_in same. absurd (omega (arith, i_in))
apart-held (h ∷ hs) falls =
    subst AreApart (sym (told_cons h hs))
    (apart_more (told hs) (told_of h) (apart-held hs falls.1)
    (All_map (λ (y : InBuffer). y.au < au h.it.fact) told_of (reverse hs) (All_reverse (λ (g : Held). au g.it.fact < au h.it.fact) hs falls.0)))

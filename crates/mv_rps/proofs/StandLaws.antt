-- What a set resolves to among the pictures that are held is what the definitions of pictures say of them.
use Rattle.std.proofs.Common.{◌≡◌, ◌<◌, ◌+◌, ℕ, zero, suc, ℤ, pos, nat_eq, Bool, true, false, cond, not, ◌&&◌, ◌||◌, List, [], ◌∷◌, length, get_or, map, reverse, Option, Some, None, refl, sym, ap, ap₂, ◌∙◌, subst, arith}
use Rattle.std.specs.Prelude.{is_none, is_some, option_and_then, option_map, slice_get, int_lt, if◌then◌else◌}
use Rattle.std.specs.List.{All, cons_option, enumerate_from, filter, filter_map, find, list_any}
use Rattle.std.proofs.lemmas.Bool.{eqb-true, eq-eqb, ne_eqb, or_left, or_right}
use Rattle.std.proofs.lemmas.List.{get_or-map, length-map, reverse-reverse}
use Rattle.std.proofs.lemmas.List.Elements.{All-filter, All-head, All-tail}
use Rattle.std.proofs.lemmas.Simd.{map-map}
use Rattle.std.proofs.lemmas.List.FromFn.{get_or-enumerate_from, length-enumerate_from}
use Rattle.std.proofs.lemmas.Option.{slice_get-get_or, slice_get-map}
use Rattle.mv_syntax.specs.Words.{◌otherwise◌}
use Rattle.mv_history.proofs.Kept.{All-unmap, filter_agree_at, find_agree, find-map}
use Rattle.mv_layers.specs.OutputLayers.{is_among}
use Rattle.mv_layers.proofs.MarkLaws.{any_agree}
use Rattle.mv_dpb.specs.declared.held.Held.{Held as InBuffer}
use Rattle.mv_dpb.specs.declared.held.Keep.{Keep}
use Rattle.mv_pictures.specs.Facts.{Fact}
use Rattle.mv_pictures.specs.SliceFields.{Aim, Entry, at_cycle, at_delta, at_lsb, entries, max_lsb}
use Rattle.mv_pictures.specs.Terms.{Tag, after, before, long, same_tag}
use Rattle.mv_pictures.specs.References.{is_used, tag_of}
use Rattle.mv_pictures.specs.Judged.{au}
use Rattle.mv_pictures.specs.Look.{Look}
use Rattle.mv_pictures.specs.Starts.{is_decoded}
use Rattle.mv_pictures.specs.Held.{Held, current, fits_long, fits_short, held, long_match, long_names, longs, match_of, names}
use Rattle.mv_pictures.specs.Held.{fits as pictures_fits}
use Rattle.mv_pictures.specs.PictureRules.{missing_ref}
use Rattle.mv_rps.specs.Resolving.{fits, fits_as_long, index_of, is_after, is_before, is_long, is_missing, kept_at, kept_of, latest, long_place, long_places, match_place, match_places, part}
use Rattle.mv_rps.proofs.FoundLaws.{all_found, All_reverse, and_both, enumerate_map, enumerate_seconds, filter_map_agree, filter_map_behind, found, none_either, reverse_map}
use Rattle.mv_rps.proofs.KeptLaws.{stands}
use Rattle.mv_rps.proofs.ResolveLaws.{filter_map_map}
use Rattle.mv_rps.specs.Standing.{AreApart, AreCounted, au_kept, kept_by_name, set_for, told, told_of}

-- ---- Held pictures with their places, the last decoded first

abbrev placed : List Held → List (ℕ × Held)
placed hs = enumerate_from 0 (reverse hs)

abbrev tell : ℕ × Held → ℕ × InBuffer
tell x = (x.0, told_of x.1)

abbrev au_of : ℕ × Held → ℕ
au_of x = au x.1.it.fact

abbrev Agree : ℕ × Held → ℕ × Held → Type 0
Agree y x = nat_eq y.0 x.0 ≡ nat_eq (au_of y) (au_of x)

told_placed : (hs : List Held) → enumerate_from 0 (told hs) ≡ map tell (placed hs)
told_placed hs = enumerate_map told_of 0 (reverse hs)

told_latest : (hs : List Held) → latest (told hs) ≡ map tell (reverse (placed hs))
told_latest hs = ap reverse (told_placed hs) ∙ reverse_map tell (placed hs)

seconds : (hs : List Held) → map (λ (x : ℕ × Held). x.1) (reverse (placed hs)) ≡ hs
seconds hs = sym (reverse_map (λ (x : ℕ × Held). x.1) (placed hs)) ∙ ap reverse (enumerate_seconds 0 (reverse hs)) ∙ reverse-reverse hs

there : (o : Option ℤ) → is_some o ≡ true → Some (o otherwise pos 0) ≡ o
there None h = absurd (let wrong : false ≡ true = h in cc)
there (Some c) h = refl

counted : (hs : List Held) → AreCounted hs → All (λ (x : ℕ × Held). Some (told_of x.1).count ≡ x.1.it.count) (reverse (placed hs))
counted hs h =
    let each : All (λ (x : ℕ × Held). is_some x.1.it.count ≡ true) (reverse (placed hs)) =
    All-unmap (λ (h : Held). is_some h.it.count ≡ true) (λ (x : ℕ × Held). x.1) (reverse (placed hs)) (subst (All (λ (h : Held). is_some h.it.count ≡ true)) (sym (seconds hs)) h) in
    λ k d less. there _ (each k d less)

-- places are the same just where access units are
same_at : (hs : List Held) → AreApart (told hs) → (k j : ℕ) (d e : Held) → k < length (reverse hs) → j < length (reverse hs)
    → nat_eq (0 + k) (0 + j) ≡ nat_eq (au (get_or (reverse hs) k d).it.fact) (au (get_or (reverse hs) j e).it.fact)
same_at hs h k j d e k_in j_in = go (nat_eq (0 + k) (0 + j)) refl
  where
    none : InBuffer
    none = record { count = pos 0; au = 0; long = false }

    ak : (get_or (told hs) k none).au ≡ au (get_or (reverse hs) k d).it.fact
    ak = ap (λ (b : InBuffer). b.au) (get_or-map told_of (reverse hs) k d none k_in)

    aj : (get_or (told hs) j none).au ≡ au (get_or (reverse hs) j e).it.fact
    aj = ap (λ (b : InBuffer). b.au) (get_or-map told_of (reverse hs) j e none j_in)

    go : (b : Bool) → nat_eq (0 + k) (0 + j) ≡ b → b ≡ nat_eq (au (get_or (reverse hs) k d).it.fact) (au (get_or (reverse hs) j e).it.fact)
    go true is =
        let same : k ≡ j = (let at : 0 + k ≡ 0 + j = eqb-true (0 + k) (0 + j) is in omega (arith, at)) in
        sym (eq-eqb _ _ (sym ak ∙ ap (λ i. (get_or (told hs) i none).au) same ∙ aj))
    go false is =
        sym (ne_eqb _ _ (λ one.
        let same : k ≡ j = h k j none (omega (arith, k_in, length-map (reverse hs) told_of)) (omega (arith, j_in, length-map (reverse hs) told_of)) (ak ∙ one ∙ sym aj) in
        let wrong : true ≡ false = sym (eq-eqb (0 + k) (0 + j) (omega (arith, same))) ∙ is in cc))

apart : (hs : List Held) → AreApart (told hs) → All (λ y. All (Agree y) (placed hs)) (placed hs)
apart hs h = λ k d less. λ j e low.
    let zs : List Held = reverse hs in
    let k_in : k < length zs = omega (arith, less, length-enumerate_from 0 zs) in
    let j_in : j < length zs = omega (arith, low, length-enumerate_from 0 zs) in
    subst (λ y. Agree y (get_or (placed hs) j e)) (sym (get_or-enumerate_from 0 zs k d k_in))
    (subst (Agree (0 + k, get_or zs k d.1)) (sym (get_or-enumerate_from 0 zs j e j_in)) (same_at hs h k j d.1 e.1 k_in j_in))

-- ---- Matches

-- matches are told by their places just as by their access units
agree_among : (ys : List (ℕ × Held)) (x : ℕ × Held) → All (λ y. Agree y x) ys → is_among (map (λ (y : ℕ × Held). y.0) ys) x.0 ≡ is_among (map au_of ys) (au_of x)
agree_among [] x h = refl
agree_among (y ∷ ys) x h = ap₂ (λ a b. a || b) (All-head (λ y. Agree y x) y ys h) (agree_among ys x (All-tail (λ y. Agree y x) y ys h))

agree_found : (test : Entry → ℕ × Held → Bool) (es : List Entry) (xs : List (ℕ × Held)) (all : List (ℕ × Held)) → All (λ y. All (Agree y) xs) all
    → All (λ x. is_among (map (λ (y : ℕ × Held). y.0) (filter_map (λ e. find (test e) all) es)) x.0 ≡ is_among (map au_of (filter_map (λ e. find (test e) all) es)) (au_of x)) xs
agree_found test es xs all h = λ k d less.
    agree_among (filter_map (λ e. find (test e) all) es) (get_or xs k d)
    (λ i f low. all_found (λ y. All (Agree y) xs) test all es h i f low k d less)

-- what is found among those that are told is found among those that are held
found_told : (test : ℕ × InBuffer → Bool) (held_test : ℕ × Held → Bool) (hs : List Held) → All (λ x. test (tell x) ≡ held_test x) (reverse (placed hs))
    → option_map (λ (q : ℕ × InBuffer). q.0) (find test (latest (told hs))) ≡ option_map (λ (x : ℕ × Held). x.0) (find held_test (reverse (placed hs)))
found_told test held_test hs h =
    ap (λ l. option_map (λ (q : ℕ × InBuffer). q.0) (find test l)) (told_latest hs)
    ∙ ap (option_map (λ (q : ℕ × InBuffer). q.0)) (find-map tell test (reverse (placed hs)))
    ∙ either (find (λ x. test (tell x)) (reverse (placed hs)))
    ∙ ap (option_map (λ (x : ℕ × Held). x.0)) (find_agree (λ x. test (tell x)) held_test (reverse (placed hs)) h)
  where
    either : (o : Option (ℕ × Held)) → option_map (λ (q : ℕ × InBuffer). q.0) (option_map tell o) ≡ option_map (λ (x : ℕ × Held). x.0) o
    either None = refl
    either (Some x) = refl

found_held : (test : Held → Bool) (hs : List Held) → find test hs ≡ option_map (λ (x : ℕ × Held). x.1) (find (λ (x : ℕ × Held). test x.1) (reverse (placed hs)))
found_held test hs = ap (find test) (sym (seconds hs)) ∙ find-map (λ (x : ℕ × Held). x.1) test (reverse (placed hs))

-- a long-term entry fits a held picture
long_test : Look → Fact → Entry → ℕ × Held → Bool
long_test l p e x = fits_long (max_lsb p) (current l p) e.aim x.1.it.count

longs_told : (l : Look) (p : Fact) → AreCounted (held l p)
    → long_places (set_for l p) (told (held l p)) ≡ map (λ (x : ℕ × Held). x.0) (filter_map (λ e. find (long_test l p e) (reverse (placed (held l p)))) (entries p))
unfolding long_places long_test
longs_told l p h =
    filter_map_agree (long_place (set_for l p) (told (held l p))) (λ e. option_map (λ (x : ℕ × Held). x.0) (find (long_test l p e) (reverse (placed (held l p))))) (entries p)
    (λ k d less. found_told (λ (q : ℕ × InBuffer). fits_as_long (set_for l p) (get_or (entries p) k d) q.1) (long_test l p (get_or (entries p) k d)) (held l p)
    (λ i f low. ap (fits_long (max_lsb p) (current l p) (get_or (entries p) k d).aim) (counted (held l p) h i f low)))
    ∙ filter_map_behind (λ (x : ℕ × Held). x.0) (λ e. find (long_test l p e) (reverse (placed (held l p)))) (entries p)

longs_named : (l : Look) (p : Fact) → long_names l p ≡ map au_of (filter_map (λ e. find (long_test l p e) (reverse (placed (held l p)))) (entries p))
unfolding long_names long_match long_test
longs_named l p =
    ap (map (λ (h : Held). au h.it.fact))
    (filter_map_agree (long_match l p) (λ e. option_map (λ (x : ℕ × Held). x.1) (find (long_test l p e) (reverse (placed (held l p))))) (entries p)
    (λ k d less. found_held (λ (h : Held). fits_long (max_lsb p) (current l p) (get_or (entries p) k d).aim h.it.count) (held l p))
    ∙ filter_map_behind (λ (x : ℕ × Held). x.1) (λ e. find (long_test l p e) (reverse (placed (held l p)))) (entries p))
    ∙ map-map (λ (h : Held). au h.it.fact) (λ (x : ℕ × Held). x.1) (filter_map (λ e. find (long_test l p e) (reverse (placed (held l p)))) (entries p))

-- pictures are marked for good by their places just as by their access units
longs_agree : (l : Look) (p : Fact) (xs : List (ℕ × Held)) → AreCounted (held l p) → All (λ y. All (Agree y) xs) (reverse (placed (held l p)))
    → All (λ x. is_among (long_places (set_for l p) (told (held l p))) x.0 ≡ is_among (long_names l p) (au_of x)) xs
longs_agree l p xs h same = λ k d less.
    ap (λ ys. is_among ys (get_or xs k d).0) (longs_told l p h)
    ∙ agree_found (long_test l p) (entries p) xs (reverse (placed (held l p))) same k d less
    ∙ sym (ap (λ ys. is_among ys (au_of (get_or xs k d))) (longs_named l p))

all_apart : (hs : List Held) → AreApart (told hs) → All (λ y. All (Agree y) (placed hs)) (reverse (placed hs))
all_apart hs h = All_reverse (λ y. All (Agree y) (placed hs)) (placed hs) (apart hs h)

all_apart_latest : (hs : List Held) → AreApart (told hs) → All (λ y. All (Agree y) (reverse (placed hs))) (reverse (placed hs))
all_apart_latest hs h = λ k d less. All_reverse (Agree (get_or (reverse (placed hs)) k d)) (placed hs) (all_apart hs h k d less)

match_told : (l : Look) (p : Fact) (e : Entry) → AreCounted (held l p) → AreApart (told (held l p))
    → match_place (set_for l p) (told (held l p)) e ≡ option_map (λ (x : ℕ × Held). x.0) (find (λ (x : ℕ × Held). pictures_fits l p e x.1) (reverse (placed (held l p))))
unfolding match_place pictures_fits
match_told l p e h same =
    found_told (fits (set_for l p) (long_places (set_for l p) (told (held l p))) e) (λ (x : ℕ × Held). pictures_fits l p e x.1) (held l p)
    (λ k d less. at (get_or (reverse (placed (held l p))) k d) (counted (held l p) h k d less) (longs_agree l p (reverse (placed (held l p))) h (all_apart_latest (held l p) same) k d less))
  where
    at : (x : ℕ × Held) → Some (told_of x.1).count ≡ x.1.it.count → is_among (long_places (set_for l p) (told (held l p))) x.0 ≡ is_among (long_names l p) (au_of x)
        → fits (set_for l p) (long_places (set_for l p) (told (held l p))) e (tell x) ≡ pictures_fits l p e x.1
    at x is marked =
        ap₂ (λ o b. fits_long (max_lsb p) (current l p) e.aim o || (fits_short (current l p) e.aim o && (not x.1.long && not b))) is marked
        ∙ ap (λ b. fits_long (max_lsb p) (current l p) e.aim x.1.it.count || b)
        (and_both (fits_short (current l p) e.aim x.1.it.count) (not x.1.long) (not (is_among (long_names l p) (au_of x))))

match_held : (l : Look) (p : Fact) (e : Entry) → match_of l p e ≡ option_map (λ (x : ℕ × Held). x.1) (find (λ (x : ℕ × Held). pictures_fits l p e x.1) (reverse (placed (held l p))))
unfolding match_of
match_held l p e = found_held (pictures_fits l p e) (held l p)

-- an entry has no match there just where it has none here
pub missing_told : (l : Look) (p : Fact) → AreCounted (held l p) → AreApart (told (held l p))
    → is_missing (set_for l p) (told (held l p)) ≡ list_any (λ (e : Entry). e.used && is_none (match_of l p e)) (entries p)
unfolding is_missing
missing_told l p h same =
    any_agree (λ (e : Entry). e.used && is_none (match_place (set_for l p) (told (held l p)) e)) (λ (e : Entry). e.used && is_none (match_of l p e))
    (λ e. ap (λ b. e.used && b)
    (ap is_none (match_told l p e h same)
    ∙ none_either (λ (x : ℕ × Held). x.0) (λ (x : ℕ × Held). x.1) (find (λ (x : ℕ × Held). pictures_fits l p e x.1) (reverse (placed (held l p))))
    ∙ sym (ap is_none (match_held l p e)))) (entries p)

pub missing_where : (l : Look) (p : Fact) → is_decoded l p ≡ true → list_any (λ (e : Entry). e.used && is_none (match_of l p e)) (entries p) ≡ missing_ref l p
unfolding missing_ref
missing_where l p h = sym (ap (λ b. b && list_any (λ (e : Entry). e.used && is_none (match_of l p e)) (entries p)) h)

-- ---- What is kept

matched_told : (l : Look) (p : Fact) → AreCounted (held l p) → AreApart (told (held l p))
    → match_places (set_for l p) (told (held l p)) ≡ map (λ (x : ℕ × Held). x.0) (filter_map (λ e. find (λ (x : ℕ × Held). pictures_fits l p e x.1) (reverse (placed (held l p)))) (entries p))
unfolding match_places
matched_told l p h same =
    filter_map_agree (match_place (set_for l p) (told (held l p))) (λ e. option_map (λ (x : ℕ × Held). x.0) (find (λ (x : ℕ × Held). pictures_fits l p e x.1) (reverse (placed (held l p))))) (entries p)
    (λ k d less. match_told l p (get_or (entries p) k d) h same)
    ∙ filter_map_behind (λ (x : ℕ × Held). x.0) (λ e. find (λ (x : ℕ × Held). pictures_fits l p e x.1) (reverse (placed (held l p)))) (entries p)

matched_named : (l : Look) (p : Fact) → is_decoded l p ≡ true
    → names l p ≡ map au_of (filter_map (λ e. find (λ (x : ℕ × Held). pictures_fits l p e x.1) (reverse (placed (held l p)))) (entries p))
unfolding names
matched_named l p decoded =
    ap (λ b. cond b (map (λ (h : Held). au h.it.fact) (filter_map (match_of l p) (entries p))) []) decoded
    ∙ ap (map (λ (h : Held). au h.it.fact))
    (filter_map_agree (match_of l p) (λ e. option_map (λ (x : ℕ × Held). x.1) (find (λ (x : ℕ × Held). pictures_fits l p e x.1) (reverse (placed (held l p))))) (entries p)
    (λ k d less. match_held l p (get_or (entries p) k d))
    ∙ filter_map_behind (λ (x : ℕ × Held). x.1) (λ e. find (λ (x : ℕ × Held). pictures_fits l p e x.1) (reverse (placed (held l p)))) (entries p))
    ∙ map-map (λ (h : Held). au h.it.fact) (λ (x : ℕ × Held). x.1) (filter_map (λ e. find (λ (x : ℕ × Held). pictures_fits l p e x.1) (reverse (placed (held l p)))) (entries p))

names_agree : (l : Look) (p : Fact) (xs : List (ℕ × Held)) → is_decoded l p ≡ true → AreCounted (held l p) → AreApart (told (held l p)) → All (λ y. All (Agree y) xs) (reverse (placed (held l p)))
    → All (λ x. is_among (match_places (set_for l p) (told (held l p))) x.0 ≡ is_among (names l p) (au_of x)) xs
names_agree l p xs decoded h same each = λ k d less.
    ap (λ ys. is_among ys (get_or xs k d).0) (matched_told l p h same)
    ∙ agree_found (λ e x. pictures_fits l p e x.1) (entries p) xs (reverse (placed (held l p))) each k d less
    ∙ sym (ap (λ ys. is_among ys (au_of (get_or xs k d))) (matched_named l p decoded))

longs_where : (l : Look) (p : Fact) → is_decoded l p ≡ true → long_names l p ≡ longs l p
unfolding longs
longs_where l p decoded = sym (ap (λ b. cond b (long_names l p) []) decoded)

-- just the pictures are kept that are named
pub kept_told : (l : Look) (p : Fact) → is_decoded l p ≡ true → AreCounted (held l p) → AreApart (told (held l p))
    → kept_of (set_for l p) (told (held l p)) ≡ filter_map (kept_by_name (names l p) (longs l p)) (enumerate_from 0 (told (held l p)))
unfolding kept_of
kept_told l p decoded h same =
    ap (filter_map (kept_at (match_places (set_for l p) (told (held l p))) (long_places (set_for l p) (told (held l p))))) (told_placed (held l p))
    ∙ filter_map_map (kept_at (match_places (set_for l p) (told (held l p))) (long_places (set_for l p) (told (held l p)))) tell (placed (held l p))
    ∙ filter_map_agree (λ x. kept_at (match_places (set_for l p) (told (held l p))) (long_places (set_for l p) (told (held l p))) (tell x)) (λ x. kept_by_name (names l p) (longs l p) (tell x)) (placed (held l p))
    (λ k d less.
    let x : ℕ × Held = get_or (placed (held l p)) k d in
    ap₂ (λ a b. if a then Some (record { place = x.0; long = x.1.long || b }) else None)
    (names_agree l p (placed (held l p)) decoded h same (all_apart (held l p) same) k d less)
    (longs_agree l p (placed (held l p)) h (all_apart (held l p) same) k d less ∙ ap (λ ns. is_among ns (au_of x)) (longs_where l p decoded)))
    ∙ sym (filter_map_map (kept_by_name (names l p) (longs l p)) tell (placed (held l p)))
    ∙ sym (ap (filter_map (kept_by_name (names l p) (longs l p))) (told_placed (held l p)))

-- ---- Parts

is_member : (f : Entry → Option ℕ) (es : List Entry) (k : ℕ) (d : Entry) (place : ℕ) → k < length es → f (get_or es k d) ≡ Some place → is_among (filter_map f es) place ≡ true
is_member f [] k d place less is = absurd (omega (arith, less))
is_member f (e ∷ es) zero d place less is =
    subst (λ o. is_among (cons_option o (filter_map f es)) place ≡ true) (sym is) (or_left (nat_eq place place) (is_among (filter_map f es) place) (eq-eqb place place refl))
is_member f (e ∷ es) (suc k) d place less is = go (f e) (is_member f es k d place (omega (arith, less)) is)
  where
    go : (o : Option ℕ) → is_among (filter_map f es) place ≡ true → is_among (cons_option o (filter_map f es)) place ≡ true
    go None h = h
    go (Some y) h = or_right (nat_eq y place) (is_among (filter_map f es) place) h

-- the picture at a place
record StandsAt (hs : List Held) (x : ℕ × Held) : Type 0 where
  it : option_map (λ (b : InBuffer). b.au) (slice_get (told hs) x.0) ≡ Some (au_of x)
  within : x.0 < 0 + length (told hs)

told_at : (hs : List Held) → All (StandsAt hs) (placed hs)
told_at hs = λ k d less.
    let zs : List Held = reverse hs in
    let k_in : k < length zs = omega (arith, less, length-enumerate_from 0 zs) in
    let same : 0 + k ≡ k = omega arith in
    subst (StandsAt hs) (sym (get_or-enumerate_from 0 zs k d k_in)) (record {
      it =
          ap (λ i. option_map (λ (b : InBuffer). b.au) (slice_get (told hs) i)) same
          ∙ ap (option_map (λ (b : InBuffer). b.au)) (slice_get-map told_of zs k ∙ ap (option_map told_of) (slice_get-get_or zs k d.1 k_in));
      within = omega (arith, k_in, length-map zs told_of);
    })

au_at : (held : List InBuffer) (o : Option Keep) (place : ℕ) → option_map (λ (k : Keep). k.place) o ≡ Some place
    → option_and_then (λ (k : Keep). option_map (λ (h : InBuffer). h.au) (slice_get held k.place)) o ≡ option_map (λ (h : InBuffer). h.au) (slice_get held place)
au_at held None place is = absurd (let wrong : None ≡ Some place = is in cc)
au_at held (Some k) place is = let same : k.place ≡ place = (let both : Some k.place ≡ Some place = is in cc) in ap (λ p. option_map (λ (h : InBuffer). h.au) (slice_get held p)) same

-- the match of an entry, by its index among those that are kept
index_told : (l : Look) (p : Fact) → AreCounted (held l p) → AreApart (told (held l p))
    → All (λ e. option_map (λ place. au_kept (told (held l p)) (kept_of (set_for l p) (told (held l p))) (index_of (kept_of (set_for l p) (told (held l p))) place)) (match_place (set_for l p) (told (held l p)) e)
    ≡ option_map (λ (h : Held). Some (au h.it.fact)) (match_of l p e)) (entries p)
unfolding kept_of match_places
index_told l p h same = λ k d less.
    ap (option_map (λ place. au_kept (told (held l p)) (kept_of (set_for l p) (told (held l p))) (index_of (kept_of (set_for l p) (told (held l p))) place))) (match_told l p (get_or (entries p) k d) h same)
    ∙ go k d less (find (λ (x : ℕ × Held). pictures_fits l p (get_or (entries p) k d) x.1) (reverse (placed (held l p)))) refl
    ∙ sym (ap (option_map (λ (h : Held). Some (au h.it.fact))) (match_held l p (get_or (entries p) k d)))
  where
    go : (k : ℕ) (d : Entry) → k < length (entries p) → (o : Option (ℕ × Held)) → find (λ (x : ℕ × Held). pictures_fits l p (get_or (entries p) k d) x.1) (reverse (placed (held l p))) ≡ o
        → option_map (λ place. au_kept (told (held l p)) (kept_of (set_for l p) (told (held l p))) (index_of (kept_of (set_for l p) (told (held l p))) place)) (option_map (λ (x : ℕ × Held). x.0) o)
        ≡ option_map (λ (h : Held). Some (au h.it.fact)) (option_map (λ (x : ℕ × Held). x.1) o)
    go k d less None is = refl
    go k d less (Some x) is =
        let at : StandsAt (held l p) x = found (StandsAt (held l p)) (λ (x : ℕ × Held). pictures_fits l p (get_or (entries p) k d) x.1) (reverse (placed (held l p))) x (All_reverse (StandsAt (held l p)) (placed (held l p)) (told_at (held l p))) is in
        let member : is_among (match_places (set_for l p) (told (held l p))) x.0 ≡ true =
        is_member (match_place (set_for l p) (told (held l p))) (entries p) k d x.0 less (match_told l p (get_or (entries p) k d) h same ∙ ap (option_map (λ (x : ℕ × Held). x.0)) is) in
        ap (λ o. Some o)
        (au_at (told (held l p)) (slice_get (kept_of (set_for l p) (told (held l p))) (index_of (kept_of (set_for l p) (told (held l p))) x.0)) x.0
        (stands (match_places (set_for l p) (told (held l p))) (long_places (set_for l p) (told (held l p))) 0 (told (held l p)) x.0 (omega arith) at.within member)
        ∙ at.it)

-- the indexes of a part are those of the pictures that its entries match
pub part_told : (in_part : Aim → Bool) (l : Look) (p : Fact) → AreCounted (held l p) → AreApart (told (held l p))
    → map (au_kept (told (held l p)) (kept_of (set_for l p) (told (held l p)))) (part in_part (set_for l p) (told (held l p)))
    ≡ map (λ (h : Held). Some (au h.it.fact)) (filter_map (match_of l p) (filter (λ (e : Entry). e.used && in_part e.aim) (entries p)))
unfolding part
part_told in_part l p h same =
    let index : ℕ → ℕ = index_of (kept_of (set_for l p) (told (held l p))) in
    let access_unit : ℕ → Option ℕ = au_kept (told (held l p)) (kept_of (set_for l p) (told (held l p))) in
    let used : List Entry = filter (λ (e : Entry). e.used && in_part e.aim) (entries p) in
    map-map access_unit index (filter_map (match_place (set_for l p) (told (held l p))) used)
    ∙ sym (filter_map_behind (λ place. access_unit (index place)) (match_place (set_for l p) (told (held l p))) used)
    ∙ filter_map_agree (λ e. option_map (λ place. access_unit (index place)) (match_place (set_for l p) (told (held l p)) e)) (λ e. option_map (λ (h : Held). Some (au h.it.fact)) (match_of l p e)) used
    (All-filter (λ (e : Entry). e.used && in_part e.aim) (λ e. option_map (λ place. access_unit (index place)) (match_place (set_for l p) (told (held l p)) e) ≡ option_map (λ (h : Held). Some (au h.it.fact)) (match_of l p e)) (entries p) (index_told l p h same))
    ∙ filter_map_behind (λ (h : Held). Some (au h.it.fact)) (match_of l p) used

-- the parts are told apart as by tags
tag_before : (aim : Aim) → is_before aim ≡ same_tag before (tag_of aim)
unfolding tag_of
tag_before (at_delta delta) = go (int_lt delta (pos 0))
  where
    go : (b : Bool) → b ≡ same_tag before (cond b before after)
    go true = refl
    go false = refl
tag_before (at_lsb bits) = refl
tag_before (at_cycle bits cycle) = refl

tag_after : (aim : Aim) → is_after aim ≡ same_tag after (tag_of aim)
unfolding tag_of
tag_after (at_delta delta) = go (int_lt delta (pos 0))
  where
    go : (b : Bool) → not b ≡ same_tag after (cond b before after)
    go true = refl
    go false = refl
tag_after (at_lsb bits) = refl
tag_after (at_cycle bits cycle) = refl

tag_long : (aim : Aim) → is_long aim ≡ same_tag long (tag_of aim)
unfolding tag_of
tag_long (at_delta delta) = go (int_lt delta (pos 0))
  where
    go : (b : Bool) → false ≡ same_tag long (cond b before after)
    go true = refl
    go false = refl
tag_long (at_lsb bits) = refl
tag_long (at_cycle bits cycle) = refl

part_tagged : (tag : Tag) (in_part : Aim → Bool) → ((aim : Aim) → in_part aim ≡ same_tag tag (tag_of aim)) → (l : Look) (p : Fact) → AreCounted (held l p) → AreApart (told (held l p))
    → map (au_kept (told (held l p)) (kept_of (set_for l p) (told (held l p)))) (part in_part (set_for l p) (told (held l p)))
    ≡ map (λ (h : Held). Some (au h.it.fact)) (filter_map (match_of l p) (filter (is_used tag) (entries p)))
part_tagged tag in_part tagged l p h same =
    part_told in_part l p h same
    ∙ ap (λ es. map (λ (h : Held). Some (au h.it.fact)) (filter_map (match_of l p) es))
    (filter_agree_at (λ (e : Entry). e.used && in_part e.aim) (is_used tag) (entries p) (λ k d less. ap (λ b. (get_or (entries p) k d).used && b) (tagged (get_or (entries p) k d).aim)))

pub part_before : (l : Look) (p : Fact) → AreCounted (held l p) → AreApart (told (held l p))
    → map (au_kept (told (held l p)) (kept_of (set_for l p) (told (held l p)))) (part is_before (set_for l p) (told (held l p)))
    ≡ map (λ (h : Held). Some (au h.it.fact)) (filter_map (match_of l p) (filter (is_used before) (entries p)))
part_before = part_tagged before is_before tag_before

pub part_after : (l : Look) (p : Fact) → AreCounted (held l p) → AreApart (told (held l p))
    → map (au_kept (told (held l p)) (kept_of (set_for l p) (told (held l p)))) (part is_after (set_for l p) (told (held l p)))
    ≡ map (λ (h : Held). Some (au h.it.fact)) (filter_map (match_of l p) (filter (is_used after) (entries p)))
part_after = part_tagged after is_after tag_after

pub part_long : (l : Look) (p : Fact) → AreCounted (held l p) → AreApart (told (held l p))
    → map (au_kept (told (held l p)) (kept_of (set_for l p) (told (held l p)))) (part is_long (set_for l p) (told (held l p)))
    ≡ map (λ (h : Held). Some (au h.it.fact)) (filter_map (match_of l p) (filter (is_used long) (entries p)))
part_long = part_tagged long is_long tag_long

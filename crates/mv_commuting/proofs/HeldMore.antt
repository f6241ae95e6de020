-- What is held with one unit more.
use Rattle.std.proofs.Common.{◌≡◌, ℕ, Bool, true, false, cond, not, ◌&&◌, ◌||◌, List, [], ◌∷◌, ◌++◌, map, Option, None, refl, ap, sym, ◌∙◌, filter, if◌then◌else◌}
use Rattle.std.specs.Prelude.{nat_eq}
use Rattle.std.specs.List.{cons_option, filter_map, find, list_all, list_any}
use Rattle.std.proofs.Math.Bool.{or-false}
use Rattle.std.proofs.lemmas.Bool.{and_parts}
use Rattle.std.proofs.lemmas.List.Folds.{list_all-append, list_any-append}
use Rattle.mv_layers.specs.OutputLayers.{is_among}
use Rattle.mv_history.proofs.Kept.{filter_agree_at}
use Rattle.mv_pictures.specs.Facts.{Fact}
use Rattle.mv_pictures.specs.SliceFields.{Entry, entries, max_lsb}
use Rattle.mv_pictures.specs.Held.{Held, current, fits, fits_long, held, held_behind, long_match, long_names, longs, marks, match_of, names, spares}
use Rattle.mv_pictures.specs.History.{judged, judgement}
use Rattle.mv_pictures.specs.Judged.{Judged, au, begins, is_picture, layer, of_layer}
use Rattle.mv_pictures.specs.Look.{Look, asked, in_sequence, look}
use Rattle.mv_pictures.specs.Starts.{is_decoded, is_sequence_start, is_start, starts_layer}
use Rattle.mv_commuting.specs.HeldOneMore.{held_of, marked_by, names_held, unmarked}
use Rattle.mv_commuting.proofs.Alive.{held_none, start_clears, start_decoded}
use Rattle.mv_commuting.proofs.Items.{each}
use Rattle.mv_commuting.proofs.More.{in_sequence-more}

-- ---- What names nothing

pub start-finds : (l : Look) (p : Fact) → is_start l p ≡ true → held l p ≡ []
unfolding held
start-finds l p h = ap (λ b. cond b [] (held_behind [] l.own)) h

none_found : {X Y : Type 0} (f : X → Option Y) → ((x : X) → f x ≡ None) → (xs : List X) → filter_map f xs ≡ []
none_found f none [] = refl
none_found f none (x ∷ xs) = ap (λ o. cons_option o (filter_map f xs)) (none x) ∙ none_found f none xs

either : {X : Type 0} {xs : List X} (b : Bool) → cond b xs xs ≡ xs
either true = refl
either false = refl

pub start-names : (l : Look) (p : Fact) → is_start l p ≡ true → names l p ≡ []
unfolding names match_of
start-names l p h =
    ap (λ (found : List Held). cond (is_decoded l p) (map (λ (h : Held). au h.it.fact) found) [])
    (none_found (λ e. find (fits l p e) (held l p)) (λ e. ap (find (fits l p e)) (start-finds l p h)) (entries p))
    ∙ either (is_decoded l p)

pub start-marks : (l : Look) (p : Fact) → is_start l p ≡ true → longs l p ≡ []
unfolding longs long_names long_match
start-marks l p h =
    ap (λ (found : List Held). cond (is_decoded l p) (map (λ (h : Held). au h.it.fact) found) [])
    (none_found (λ (e : Entry). find (λ (h : Held). fits_long (max_lsb p) (current l p) e.aim h.it.count) (held l p))
    (λ (e : Entry). ap (find (λ (h : Held). fits_long (max_lsb p) (current l p) e.aim h.it.count)) (start-finds l p h)) (entries p))
    ∙ either (is_decoded l p)

pub other-names : (l : Look) (p : Fact) → is_decoded l p ≡ false → names l p ≡ []
unfolding names
other-names l p h = ap (λ b. cond b (map (λ (h : Held). au h.it.fact) (filter_map (match_of l p) (entries p))) []) h

pub other-marks : (l : Look) (p : Fact) → is_decoded l p ≡ false → longs l p ≡ []
unfolding longs
other-marks l p h = ap (λ b. cond b (long_names l p) []) h

unmarking : (past : List Judged) (p : Fact) → (judged past p).decoded ≡ false → (judged past p).longs ≡ []
unfolding judged judgement
unmarking past p h = other-marks (look (asked past p) p) p h

-- ---- What is held with one unit more

the_held : Judged → Bool → Held
the_held d long = record { it = d; long = long }

-- those that it leaves held, with its marks
onward : (d : Judged) (behind own : List Judged) → held_behind (behind ++ d ∷ []) own ≡ map (marked_by d) (filter (λ (h : Held). spares h.it d) (held_behind behind own))
unfolding held_behind
onward d behind [] = refl
onward d behind (x ∷ xs) =
    ap (λ b. cond (x.decoded && b) (record { it = x; long = list_any (marks x) (behind ++ d ∷ []) } ∷ rest) rest) (list_all-append (spares x) behind (d ∷ []))
    ∙ ap (λ m. cond (x.decoded && (list_all (spares x) behind && (spares x d && true))) (record { it = x; long = m } ∷ rest) rest)
    (list_any-append (marks x) behind (d ∷ []) ∙ ap (λ m. list_any (marks x) behind || m) (or-false (marks x d)))
    ∙ ap (λ hs. cond (x.decoded && (list_all (spares x) behind && (spares x d && true))) (record { it = x; long = list_any (marks x) behind || marks x d } ∷ hs) hs)
    (onward d (x ∷ behind) xs)
    ∙ go x.decoded (list_all (spares x) behind) (spares x d) refl
  where
    rest : List Held
    rest = held_behind (x ∷ (behind ++ d ∷ [])) xs

    left : List Held
    left = held_behind (x ∷ behind) xs

    this : Held
    this = record { it = x; long = list_any (marks x) behind }

    spared : Held → Bool
    spared h = spares h.it d

    go : (a b c : Bool) → spares x d ≡ c →
        cond (a && (b && (c && true))) (record { it = x; long = list_any (marks x) behind || marks x d } ∷ map (marked_by d) (filter spared left)) (map (marked_by d) (filter spared left))
        ≡ map (marked_by d) (filter spared (cond (a && b) (this ∷ left) left))
    go true true true e = sym (ap (λ b. map (marked_by d) (cond b (this ∷ filter spared left) (filter spared left))) e)
    go true true false e = sym (ap (λ b. map (marked_by d) (cond b (this ∷ filter spared left) (filter spared left))) e)
    go true false c e = refl
    go false b c e = refl

itself : (d : Judged) (own : List Judged) → d.decoded ≡ true → held_behind [] (d ∷ own) ≡ unmarked d ∷ held_behind (d ∷ []) own
unfolding held_behind
itself d own h = ap (λ b. cond (b && true) (unmarked d ∷ held_behind (d ∷ []) own) (held_behind (d ∷ []) own)) h

pub start-held : (d : Judged) (own : List Judged) → d.decoded ≡ true → d.start ≡ true → held_behind [] (d ∷ own) ≡ unmarked d ∷ []
start-held d own decoded start =
    itself d own decoded
    ∙ ap (λ hs. unmarked d ∷ hs) (held_none (d ∷ []) own (start_clears d decoded start))

pub decoded-held : (d : Judged) (own : List Judged) → d.decoded ≡ true → d.start ≡ false → held_behind [] (d ∷ own) ≡ unmarked d ∷ map (marked_by d) (filter (names_held d) (held_behind [] own))
decoded-held d own decoded start =
    itself d own decoded
    ∙ ap (λ hs. unmarked d ∷ hs)
    (onward d [] own
    ∙ ap (map (marked_by d)) (filter_agree_at (λ (h : Held). spares h.it d) (names_held d) (held_behind [] own) (each (λ (h : Held). spares h.it d ≡ names_held d h) one (held_behind [] own))))
  where
    one : (h : Held) → spares h.it d ≡ names_held d h
    one h = ap (λ b. not b || (not d.start && names_held d h)) decoded ∙ ap (λ b. not b && names_held d h) start

all_same : {A : Type 0} (test : A → Bool) (f : A → A) → ((x : A) → test x ≡ true) → ((x : A) → f x ≡ x) → (xs : List A) → map f (filter test xs) ≡ xs
all_same test f passes same [] = refl
all_same test f passes same (x ∷ xs) =
    ap (λ b. map f (cond b (x ∷ filter test xs) (filter test xs))) (passes x)
    ∙ ap (λ y. y ∷ map f (filter test xs)) (same x)
    ∙ ap (λ ys. x ∷ ys) (all_same test f passes same xs)

-- what isn't decoded and marks nothing changes nothing
undecoded : (d : Judged) (own : List Judged) → d.decoded ≡ false → d.longs ≡ [] → held_behind [] (d ∷ own) ≡ held_behind [] own
unfolding held_behind the_held
undecoded d own decoded longs =
    ap (λ b. cond (b && true) (unmarked d ∷ held_behind (d ∷ []) own) (held_behind (d ∷ []) own)) decoded
    ∙ onward d [] own
    ∙ all_same (λ (h : Held). spares h.it d) (marked_by d) spared same (held_behind [] own)
  where
    spared : (h : Held) → spares h.it d ≡ true
    spared h = ap (λ b. not b || (not d.start && is_among d.names (au h.it.fact))) decoded

    same : (h : Held) → marked_by d h ≡ h
    same h =
        ap (λ (ns : List ℕ). the_held h.it (h.long || is_among ns (au h.it.fact))) longs
        ∙ ap (the_held h.it) (or-false h.long)

pub other-held : (past own : List Judged) (p : Fact) → (judged past p).decoded ≡ false → held_behind [] (judged past p ∷ own) ≡ held_behind [] own
other-held past own p h = undecoded (judged past p) own h (unmarking past p h)

-- ---- By layers

-- a base picture that starts a sequence is a start of its layer, and a start is decoded
pub begins_starts : (past : List Judged) (p : Fact) → begins (judged past p) ≡ true → (judged past p).start ≡ true
unfolding judged judgement is_start
begins_starts past p h =
    let parts = and_parts (nat_eq (layer p) 0) (is_sequence_start (look (asked past p) p) p) h in
    ap (λ b. cond b (is_sequence_start (look (asked past p) p) p) (is_picture p && starts_layer (look (asked past p) p) p)) parts.0 ∙ parts.1

pub starts_decode : (past : List Judged) (p : Fact) → (judged past p).start ≡ true → (judged past p).decoded ≡ true
unfolding judged judgement
starts_decode past p h = start_decoded (look (asked past p) p) p h

pub layer-held : (past : List Judged) (p : Fact) (n : ℕ) → of_layer n (judged past p) ≡ true →
    held_of (judged past p ∷ past) n
    ≡ (if (judged past p).decoded
    then unmarked (judged past p) ∷ (if (judged past p).start then [] else map (marked_by (judged past p)) (filter (names_held (judged past p)) (held_of past n)))
    else held_of past n)
layer-held past p n is =
    ap (held_behind [])
    (in_sequence-more (judged past p) past n
    ∙ ap (λ o. cond o (judged past p ∷ cond (begins (judged past p)) [] (in_sequence past n)) (cond (begins (judged past p)) [] (in_sequence past n))) is)
    ∙ go (judged past p).decoded (judged past p).start (begins (judged past p)) refl refl refl
  where
    go : (dec s b : Bool) → (judged past p).decoded ≡ dec → (judged past p).start ≡ s → begins (judged past p) ≡ b →
        held_behind [] (judged past p ∷ cond b [] (in_sequence past n))
        ≡ cond dec (unmarked (judged past p) ∷ cond s [] (map (marked_by (judged past p)) (filter (names_held (judged past p)) (held_of past n)))) (held_of past n)
    go true true b dec s bs = start-held (judged past p) (cond b [] (in_sequence past n)) dec s
    go true false false dec s bs = decoded-held (judged past p) (in_sequence past n) dec s
    go true false true dec s bs = absurd (let wrong : true ≡ false = sym (begins_starts past p bs) ∙ s in cc)
    go false s false dec ss bs = other-held past (in_sequence past n) p dec
    go false s true dec ss bs = absurd (let wrong : true ≡ false = sym (starts_decode past p (begins_starts past p bs)) ∙ dec in cc)

pub layers-held : (past : List Judged) (p : Fact) (n : ℕ) → of_layer n (judged past p) ≡ false → held_of (judged past p ∷ past) n ≡ (if begins (judged past p) then [] else held_of past n)
unfolding held_behind
layers-held past p n is =
    ap (held_behind [])
    (in_sequence-more (judged past p) past n
    ∙ ap (λ o. cond o (judged past p ∷ cond (begins (judged past p)) [] (in_sequence past n)) (cond (begins (judged past p)) [] (in_sequence past n))) is)
    ∙ go (begins (judged past p))
  where
    go : (b : Bool) → held_behind [] (cond b [] (in_sequence past n)) ≡ cond b [] (held_of past n)
    go true = refl
    go false = refl

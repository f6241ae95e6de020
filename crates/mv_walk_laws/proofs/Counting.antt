-- How many units are kept, how many pictures are decoded, and how many sequences there are, with one unit more.
use Rattle.std.proofs.Common.{◌≡◌, ℕ, ◌+◌, Bool, true, false, cond, List, [], ◌∷◌, ◌++◌, length, reverse, map, refl, ap, sym, ◌∙◌, filter, arith, if◌then◌else◌}
use Rattle.std.specs.Prelude.{nat_eq}
use Rattle.std.proofs.lemmas.List.{length-map, length-reverse}
use Rattle.mv_units.specs.Head.{head}
use Rattle.mv_pictures.specs.Decoding.{decode, decode_history, decoded_of}
use Rattle.mv_pictures.specs.Extract.{extract, last_vps, totals}
use Rattle.mv_pictures.specs.History.{history_of, judged}
use Rattle.mv_pictures.specs.Items.{Item, item, items, stays}
use Rattle.mv_pictures.specs.Judged.{Judged, begins}
use Rattle.mv_pictures.specs.Layers.{keeps}
use Rattle.mv_pictures.specs.Verdict.{breaks_none, no_picture}
use Rattle.mv_commuting.specs.OneMore.{fact_behind}
use Rattle.mv_commuting.proofs.More.{history-more}
use Rattle.mv_walk_laws.specs.Streams.{item_behind}
use Rattle.mv_walk_laws.proofs.NoneDecoded.{no_picture-counted}
use Rattle.mv_walk_laws.proofs.OneMore.{items-more, vps-more}

count-more : {A : Type 0} (test : A → Bool) (x : A) (xs : List A) → length (filter test (x ∷ xs)) ≡ length (filter test xs) + (if test x then 1 else 0)
count-more test x xs = go (test x)
  where
    go : (b : Bool) → length (cond b (x ∷ filter test xs) (filter test xs)) ≡ length (filter test xs) + (if b then 1 else 0)
    go true = omega arith
    go false = omega arith

-- ---- Units that are kept

pub kept-counted : (us : List (List ℕ)) (o : ℕ) → length (extract us o) ≡ length (filter (stays o) (items (reverse us)))
unfolding extract
kept-counted us o = length-reverse (map (λ (i : Item). i.bytes) (filter (stays o) (items (reverse us)))) ∙ length-map (filter (stays o) (items (reverse us))) (λ (i : Item). i.bytes)

pub kept-more : (us : List (List ℕ)) (u : List ℕ) (o : ℕ) →
    length (filter (stays o) (items (reverse (us ++ u ∷ [])))) ≡ length (filter (stays o) (items (reverse us))) + (if stays o (item_behind us u) then 1 else 0)
kept-more us u o = ap (λ is. length (filter (stays o) is)) (items-more us u) ∙ count-more (stays o) (item_behind us u) (items (reverse us))

pub extract-more : (us : List (List ℕ)) (u : List ℕ) (o : ℕ) → length (extract (us ++ u ∷ []) o) ≡ length (extract us o) + (if stays o (item_behind us u) then 1 else 0)
extract-more us u o = kept-counted (us ++ u ∷ []) o ∙ kept-more us u o ∙ ap (λ n. n + (if stays o (item_behind us u) then 1 else 0)) (sym (kept-counted us o))

-- whether the next unit is, by the video parameter set in force behind it
pub kept-by : (us : List (List ℕ)) (u : List ℕ) (o : ℕ) → stays o (item_behind us u) ≡ keeps o (last_vps (us ++ u ∷ [])) (head u).layer
kept-by us u o = its ∙ ap (λ at. keeps o at (head u).layer) (sym (vps-more us u))
  where
    its : stays o (item_behind us u) ≡ keeps o (item_behind us u).at (head u).layer
    its = unfold stays item in refl

-- ---- Pictures and sequences

pub decoded-counted : (us : List (List ℕ)) → length (decode us) ≡ length (filter (λ (d : Judged). d.decoded) (history_of us))
unfolding decode decode_history
decoded-counted us =
    length-reverse (map (decoded_of (history_of us)) (filter (λ (d : Judged). d.decoded) (history_of us)))
    ∙ length-map (filter (λ (d : Judged). d.decoded) (history_of us)) (decoded_of (history_of us))

pub decoded-more : (us : List (List ℕ)) (u : List ℕ) →
    length (decode (us ++ u ∷ [])) ≡ length (decode us) + (if (judged (history_of us) (fact_behind us u)).decoded then 1 else 0)
decoded-more us u =
    decoded-counted (us ++ u ∷ [])
    ∙ ap (λ ds. length (filter (λ (d : Judged). d.decoded) ds)) (history-more us u)
    ∙ count-more (λ (d : Judged). d.decoded) (judged (history_of us) (fact_behind us u)) (history_of us)
    ∙ ap (λ n. n + (if (judged (history_of us) (fact_behind us u)).decoded then 1 else 0)) (sym (decoded-counted us))

pub sequences-more : (us : List (List ℕ)) (u : List ℕ) →
    length (filter begins (history_of (us ++ u ∷ []))) ≡ length (filter begins (history_of us)) + (if begins (judged (history_of us) (fact_behind us u)) then 1 else 0)
sequences-more us u =
    ap (λ ds. length (filter begins ds)) (history-more us u) ∙ count-more begins (judged (history_of us) (fact_behind us u)) (history_of us)

-- no base picture was decoded exactly where none was
pub no_picture-decoded : (us : List (List ℕ)) → breaks_none (history_of us) ≡ true → no_picture (history_of us) ≡ nat_eq (length (decode us)) 0
no_picture-decoded us h = no_picture-counted us h ∙ ap (λ n. nat_eq n 0) (sym (decoded-counted us))

-- ---- Totals

pub units-total : (us : List (List ℕ)) (o : ℕ) → (totals us o).units ≡ length us
unfolding totals
units-total us o = refl

pub kept-total : (us : List (List ℕ)) (o : ℕ) → (totals us o).kept ≡ length (filter (stays o) (items (reverse us)))
unfolding totals
kept-total us o = kept-counted us o

-- Of an orderly history: which units are segments of which pictures, and the units of a picture in its sequence.
use Rattle.std.proofs.Common.{◌≡◌, ℕ, ◌<◌, ◌≤◌, Bool, true, false, cond, ◌&&◌, All, List, [], ◌∷◌, filter, map, reverse, refl, sym, ap, ◌∙◌, arith}
use Rattle.std.proofs.lemmas.Bool.{and_parts, eqb-true}
use Rattle.std.proofs.lemmas.List.Elements.{All-cons, All-head, All-nil, All-tail, All-weaker}
use Rattle.mv_history.specs.History.{Throughout, from}
use Rattle.mv_pictures.specs.Judged.{Judged, au, begins, in_au, is_picture, is_slice, layer, of_layer}
use Rattle.mv_pictures.specs.Look.{in_sequence, sequence}
use Rattle.mv_pictures.specs.References.{segment, segments_in, start_of, term_in}
use Rattle.mv_pictures.specs.Terms.{picture}
use Rattle.mv_commuting.specs.Kept.{IsEarlierPicture}
use Rattle.mv_walk_values.specs.Orderly.{IsOrderly}
use Rattle.mv_walk_values.specs.Values.{is_segment_of, term_of}

-- a picture of a later access unit of the layer, or of another layer, is no segment of a picture
pub earlier_none : (e d : Judged) → IsEarlierPicture e d → is_picture d.fact ≡ true → is_segment_of d e ≡ false
earlier_none e d earlier is_one = go (is_segment_of d e) refl
  where
    go : (b : Bool) → is_segment_of d e ≡ b → b ≡ false
    go false is = refl
    go true is =
        let parts : (is_slice e.fact ≡ true) × ((of_layer (layer d.fact) e && in_au (au d.fact) e) ≡ true) = and_parts (is_slice e.fact) (of_layer (layer d.fact) e && in_au (au d.fact) e) is in
        let both : (of_layer (layer d.fact) e ≡ true) × (in_au (au d.fact) e ≡ true) = and_parts (of_layer (layer d.fact) e) (in_au (au d.fact) e) parts.1 in
        let less : au d.fact < au e.fact = earlier is_one (sym (eqb-true (layer e.fact) (layer d.fact) both.0)) in
        let same : au e.fact ≡ au d.fact = eqb-true (au e.fact) (au d.fact) both.1 in
        absurd (omega (arith, less, same))

-- so none of the decoded pictures before a new picture has it as a segment
pub new_none : (e : Judged) (past : List Judged) → IsOrderly (e ∷ past) → is_picture e.fact ≡ true → All (λ (d : Judged). d.decoded ≡ true → is_segment_of d e ≡ false) past
new_none e past orderly is_one =
    each past (orderly.rises.0 is_one) (All-tail (λ (d : Judged). d.decoded ≡ true → is_picture d.fact ≡ true) e past orderly.pictures)
  where
    each : (ds : List Judged) → All (IsEarlierPicture e) ds → All (λ (d : Judged). d.decoded ≡ true → is_picture d.fact ≡ true) ds → All (λ (d : Judged). d.decoded ≡ true → is_segment_of d e ≡ false) ds
    each [] h g = All-nil (λ (d : Judged). d.decoded ≡ true → is_segment_of d e ≡ false)
    each (d ∷ ds) h g =
        All-cons (λ (d : Judged). d.decoded ≡ true → is_segment_of d e ≡ false) d ds
        (λ decoded. earlier_none e d (All-head (IsEarlierPicture e) d ds h) (All-head (λ (d : Judged). d.decoded ≡ true → is_picture d.fact ≡ true) d ds g decoded))
        (each ds (All-tail (IsEarlierPicture e) d ds h) (All-tail (λ (d : Judged). d.decoded ≡ true → is_picture d.fact ≡ true) d ds g))

-- ---- The sequence has all segments of its pictures

chosen : Judged → Judged → Bool
chosen d x = is_slice x.fact && in_au (au d.fact) x

none_chosen : (d : Judged) (n : ℕ) (ds : List Judged) → All (λ (e : Judged). is_slice e.fact ≡ true → au e.fact < au d.fact) ds → filter (chosen d) (filter (of_layer n) ds) ≡ []
unfolding chosen
none_chosen d n [] h = refl
none_chosen d n (e ∷ ds) h = go (none_chosen d n ds (All-tail (λ (e : Judged). is_slice e.fact ≡ true → au e.fact < au d.fact) e ds h)) (of_layer n e)
  where
    out : (b : Bool) → chosen d e ≡ b → b ≡ false
    out false is = refl
    out true is =
        let parts : (is_slice e.fact ≡ true) × (in_au (au d.fact) e ≡ true) = and_parts (is_slice e.fact) (in_au (au d.fact) e) is in
        let less : au e.fact < au d.fact = All-head (λ (e : Judged). is_slice e.fact ≡ true → au e.fact < au d.fact) e ds h parts.0 in
        let same : au e.fact ≡ au d.fact = eqb-true (au e.fact) (au d.fact) parts.1 in
        absurd (omega (arith, less, same))

    go : filter (chosen d) (filter (of_layer n) ds) ≡ [] → (b : Bool) → filter (chosen d) (cond b (e ∷ filter (of_layer n) ds) (filter (of_layer n) ds)) ≡ []
    go rest false = rest
    go rest true = ap (λ b. cond b (e ∷ filter (chosen d) (filter (of_layer n) ds)) (filter (chosen d) (filter (of_layer n) ds))) (out (chosen d e) refl) ∙ rest

-- of a history up to a unit: the segments of a picture in the sequence are all of its layer
same_chosen : (past : List Judged) (d : Judged) (n : ℕ) → Throughout (λ before (r : Judged). begins r ≡ true → All (λ (e : Judged). is_slice e.fact ≡ true → au e.fact < au r.fact) before) past →
    All (λ (r : Judged). begins r ≡ true → au r.fact ≤ au d.fact) (from begins past) → filter (chosen d) (filter (of_layer n) (from begins past)) ≡ filter (chosen d) (filter (of_layer n) past)
unfolding from
same_chosen [] d n based near = refl
same_chosen (e ∷ past) d n based near = go (λ more. same_chosen past d n based.1 more) (begins e) refl near
  where
    own : List Judged → List Judged
    own ds = filter (chosen d) (filter (of_layer n) ds)

    lower : au e.fact ≤ au d.fact → All (λ (x : Judged). is_slice x.fact ≡ true → au x.fact < au e.fact) past → All (λ (x : Judged). is_slice x.fact ≡ true → au x.fact < au d.fact) past
    lower low h = All-weaker (λ (x : Judged). is_slice x.fact ≡ true → au x.fact < au e.fact) (λ (x : Judged). is_slice x.fact ≡ true → au x.fact < au d.fact) (λ x less slice. let below : au x.fact < au e.fact = less slice in omega (arith, below, low)) past h

    behind : (ds es : List Judged) → own ds ≡ own es → own (e ∷ ds) ≡ own (e ∷ es)
    behind ds es h = same (of_layer n e)
      where
        same : (b : Bool) → filter (chosen d) (cond b (e ∷ filter (of_layer n) ds) (filter (of_layer n) ds)) ≡ filter (chosen d) (cond b (e ∷ filter (of_layer n) es) (filter (of_layer n) es))
        same false = h
        same true = ap (λ xs. cond (chosen d e) (e ∷ xs) xs) h

    go : (All (λ (r : Judged). begins r ≡ true → au r.fact ≤ au d.fact) (from begins past) → own (from begins past) ≡ own past) → (b : Bool) → begins e ≡ b →
        All (λ (r : Judged). begins r ≡ true → au r.fact ≤ au d.fact) (cond b (e ∷ []) (e ∷ from begins past)) → own (cond b (e ∷ []) (e ∷ from begins past)) ≡ own (e ∷ past)
    go more true is near =
        behind [] past (sym (none_chosen d n past (lower (All-head (λ (r : Judged). begins r ≡ true → au r.fact ≤ au d.fact) e [] near is) (based.0 is))))
    go more false is near = behind (from begins past) past (more (All-tail (λ (r : Judged). begins r ≡ true → au r.fact ≤ au d.fact) e (from begins past) near))

-- so its term in the sequence, by which references go, is its term
pub term_in_sequence : (past : List Judged) (d : Judged) → IsOrderly past → All (λ (r : Judged). begins r ≡ true → au r.fact ≤ au d.fact) (sequence past) → term_in (in_sequence past (layer d.fact)) d ≡ term_of past d
unfolding term_in segments_in sequence chosen
term_in_sequence past d orderly near = ap (λ es. picture (start_of d) d.references (reverse (map segment es))) (same_chosen past d (layer d.fact) orderly.based near)

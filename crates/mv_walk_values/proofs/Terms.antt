-- A unit that is no segment of a picture changes nothing of its term.
use Rattle.std.proofs.Common.{◌≡◌, Bool, true, false, cond, ◌&&◌, All, List, [], ◌∷◌, ◌++◌, filter, map, reverse, refl, sym, ap, ap₂, ◌∙◌}
use Rattle.std.proofs.lemmas.Bool.{eq-eqb}
use Rattle.std.proofs.lemmas.List.{append-nil, append_assoc, map-append, reverse-append}
use Rattle.std.proofs.lemmas.List.Elements.{All-head, All-tail, All-weaker}
use Rattle.mv_history.proofs.Kept.{map_agree_at}
use Rattle.mv_pictures.specs.Decoding.{decoded_of}
use Rattle.mv_pictures.specs.Judged.{Judged, au, in_au, is_slice, layer, of_layer, vps_at}
use Rattle.mv_pictures.specs.Layers.{view}
use Rattle.mv_pictures.specs.Output.{count_of}
use Rattle.mv_pictures.specs.References.{segment, segments_in, start_of, term_in}
use Rattle.mv_pictures.specs.SliceFields.{is_put_out}
use Rattle.mv_pictures.specs.Terms.{Tag, Term, picture, references_of}
use Rattle.mv_rebuild.specs.Parts.{Part, begins, has}
use Rattle.mv_rebuild.specs.Value.{reference_of, shown_of, value, values}
use Rattle.mv_walk_values.specs.Values.{is_segment_of, parts_of, term_of, value_of}

-- the segments of a picture, with one unit more
segments_kept : (e d : Judged) (past : List Judged) → is_segment_of d e ≡ false →
    segments_in (filter (of_layer (layer d.fact)) (e ∷ past)) d ≡ segments_in (filter (of_layer (layer d.fact)) past) d
unfolding segments_in
segments_kept e d past h = ap (λ es. reverse (map segment es)) (go (of_layer (layer d.fact) e) refl)
  where
    chosen : Judged → Bool
    chosen x = is_slice x.fact && in_au (au d.fact) x

    own : List Judged
    own = filter (of_layer (layer d.fact)) past

    left_out : (s l a : Bool) → (s && (l && a)) ≡ false → l ≡ true → (s && a) ≡ false
    left_out false l a h is = refl
    left_out true false a h is = cc
    left_out true true a h is = h

    go : (l : Bool) → of_layer (layer d.fact) e ≡ l → filter chosen (cond l (e ∷ own) own) ≡ filter chosen own
    go false is = refl
    go true is =
        ap (λ b. cond b (e ∷ filter chosen own) (filter chosen own))
        (left_out (is_slice e.fact) (of_layer (layer d.fact) e) (in_au (au d.fact) e) h is)

pub term_kept : (e d : Judged) (past : List Judged) → is_segment_of d e ≡ false → term_of (e ∷ past) d ≡ term_of past d
unfolding term_in
term_kept e d past h = ap (picture (start_of d) d.references) (segments_kept e d past h)

pub value_kept : {P : Type 0} (rebuild : List (Part P) → P) (e d : Judged) (past : List Judged) → is_segment_of d e ≡ false → value_of rebuild (e ∷ past) d ≡ value_of rebuild past d
value_kept rebuild e d past h = ap (value rebuild) (term_kept e d past h)

pub values_kept : {P A : Type 0} (rebuild : List (Part P) → P) (e : Judged) (it : A → Judged) (past : List Judged) (xs : List A) → All (λ x. is_segment_of (it x) e ≡ false) xs →
    map (λ x. value_of rebuild (e ∷ past) (it x)) xs ≡ map (λ x. value_of rebuild past (it x)) xs
values_kept rebuild e it past xs h =
    map_agree_at (λ x. value_of rebuild (e ∷ past) (it x)) (λ x. value_of rebuild past (it x)) xs
    (All-weaker (λ x. is_segment_of (it x) e ≡ false) (λ x. value_of rebuild (e ∷ past) (it x) ≡ value_of rebuild past (it x)) (λ x. value_kept rebuild e (it x) past) xs h)

-- what is told of a decoded picture
pub decoded_kept : (e d : Judged) (past : List Judged) → is_segment_of d e ≡ false → decoded_of (e ∷ past) d ≡ decoded_of past d
unfolding decoded_of
decoded_kept e d past h =
    ap (λ (t : Term). record { sequence = d.sequence; au = au d.fact; layer = layer d.fact; view = view (vps_at d.fact) (layer d.fact); output = is_put_out d.fact; count = count_of d; term = t })
    (term_kept e d past h)

-- what is shown of it depends on no other unit
pub shown_same : (all other : List Judged) (d : Judged) → shown_of (decoded_of all d) ≡ shown_of (decoded_of other d)
unfolding decoded_of
shown_same all other d = refl

pub decoded_term : (all : List Judged) (d : Judged) → (decoded_of all d).term ≡ term_of all d
unfolding decoded_of
decoded_term all d = refl

-- a unit that is no slice segment is none of any picture
pub no_slice : (e d : Judged) → is_slice e.fact ≡ false → is_segment_of d e ≡ false
no_slice e d h = ap (λ b. b && (of_layer (layer d.fact) e && in_au (au d.fact) e)) h

-- ---- The picture itself

snoc : {A B : Type 0} (f : A → B) (x : A) (xs : List A) → reverse (map f (x ∷ xs)) ≡ reverse (map f xs) ++ f x ∷ []
snoc f x xs = reverse-append (f x ∷ []) (map f xs)

-- a slice segment adds itself to its picture
segments_more : (e d : Judged) (past : List Judged) → is_segment_of d e ≡ true →
    segments_in (filter (of_layer (layer d.fact)) (e ∷ past)) d ≡ segments_in (filter (of_layer (layer d.fact)) past) d ++ segment e ∷ []
unfolding segments_in
segments_more e d past h =
    ap (λ b. reverse (map segment (filter chosen (cond b (e ∷ own) own)))) (parts.1)
    ∙ ap (λ b. reverse (map segment (cond b (e ∷ filter chosen own) (filter chosen own)))) (parts.0)
    ∙ snoc segment e (filter chosen own)
  where
    chosen : Judged → Bool
    chosen x = is_slice x.fact && in_au (au d.fact) x

    own : List Judged
    own = filter (of_layer (layer d.fact)) past

    both : (s l a : Bool) → (s && (l && a)) ≡ true → ((s && a) ≡ true) × (l ≡ true)
    both true true true h = (refl, refl)
    both true true false h = absurd (let wrong : false ≡ true = h in cc)
    both true false a h = absurd (let wrong : false ≡ true = h in cc)
    both false l a h = absurd (let wrong : false ≡ true = h in cc)

    parts : (chosen e ≡ true) × (of_layer (layer d.fact) e ≡ true)
    parts = both (is_slice e.fact) (of_layer (layer d.fact) e) (in_au (au d.fact) e) h

-- so its parts are those so far, and the segment
pub parts_more : {P : Type 0} (rebuild : List (Part P) → P) (e d : Judged) (past : List Judged) → is_segment_of d e ≡ true →
    parts_of rebuild (term_of (e ∷ past) d) ≡ parts_of rebuild (term_of past d) ++ has (segment e) ∷ []
unfolding term_in
parts_more rebuild e d past h =
    ap (λ ss. begins (start_of d) ∷ (values rebuild d.references ++ map has ss)) (segments_more e d past h)
    ∙ ap (λ ps. begins (start_of d) ∷ (values rebuild d.references ++ ps)) (map-append has (segments_in (filter (of_layer (layer d.fact)) past) d) (segment e ∷ []))
    ∙ ap (λ ps. begins (start_of d) ∷ ps) (sym (append_assoc (values rebuild d.references) (map has (segments_in (filter (of_layer (layer d.fact)) past) d)) (has (segment e) ∷ [])))

pub parts_kept : {P : Type 0} (rebuild : List (Part P) → P) (e d : Judged) (past : List Judged) → is_segment_of d e ≡ false →
    parts_of rebuild (term_of (e ∷ past) d) ≡ parts_of rebuild (term_of past d)
parts_kept rebuild e d past h = ap (parts_of rebuild) (term_kept e d past h)

-- the value of a term is the picture of its parts
pub value_of_parts : {P : Type 0} (rebuild : List (Part P) → P) (all : List Judged) (d : Judged) → value_of rebuild all d ≡ rebuild (parts_of rebuild (term_of all d))
unfolding value term_in
value_of_parts rebuild all d = refl

-- ---- The first segment of a picture

no_segments : (e : Judged) (past : List Judged) → All (λ x. is_segment_of e x ≡ false) past → segments_in (filter (of_layer (layer e.fact)) past) e ≡ []
unfolding segments_in
no_segments e [] h = refl
no_segments e (x ∷ past) h = segments_kept x e past (All-head (λ x. is_segment_of e x ≡ false) x past h) ∙ no_segments e past (All-tail (λ x. is_segment_of e x ≡ false) x past h)

references_are : {P : Type 0} (rebuild : List (Part P) → P) (refs : List (Tag × Term)) → values rebuild (references_of refs) ≡ map (reference_of rebuild) refs
unfolding value references_of
references_are rebuild [] = refl
references_are rebuild ((tag, term) ∷ rest) = ap (λ parts. Part.refers tag (value rebuild term) ∷ parts) (references_are rebuild rest)

-- its parts are its start, its references and this segment
pub first_parts : {P : Type 0} (rebuild : List (Part P) → P) (e : Judged) (past : List Judged) (refs : List (Tag × Term)) → is_slice e.fact ≡ true → All (λ x. is_segment_of e x ≡ false) past → e.references ≡ references_of refs →
    parts_of rebuild (term_of (e ∷ past) e) ≡ begins (start_of e) ∷ (map (reference_of rebuild) refs ++ has (segment e) ∷ [])
unfolding term_in
first_parts rebuild e past refs slice none are =
    parts_more rebuild e e past itself
    ∙ ap (λ ss. begins (start_of e) ∷ ((values rebuild e.references ++ map has ss) ++ has (segment e) ∷ [])) (no_segments e past none)
    ∙ ap (λ rs. begins (start_of e) ∷ (rs ++ has (segment e) ∷ [])) (append-nil (values rebuild e.references) ∙ ap (values rebuild) are ∙ references_are rebuild refs)
  where
    itself : is_segment_of e e ≡ true
    itself = ap (λ b. b && (of_layer (layer e.fact) e && in_au (au e.fact) e)) slice ∙ ap₂ (λ a b. a && b) (eq-eqb (layer e.fact) (layer e.fact) refl) (eq-eqb (au e.fact) (au e.fact) refl)

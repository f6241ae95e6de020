-- The latest unit of a layer in the sequence that passes a test, with one unit more.
use Rattle.std.proofs.Common.{◌≡◌, ℕ, Bool, true, false, cond, ◌&&◌, ◌||◌, List, [], ◌∷◌, Option, None, Some, refl, ap, ◌∙◌, if◌then◌else◌}
use Rattle.std.specs.Prelude.{is_some, option_and_then, option_map}
use Rattle.std.specs.List.{find}
use Rattle.mv_slice.specs.Numbers.{is_irap}
use Rattle.mv_syntax.specs.Words.{◌otherwise◌}
use Rattle.mv_pictures.specs.Counts.{anchor, may_anchor}
use Rattle.mv_pictures.specs.Facts.{Fact}
use Rattle.mv_pictures.specs.Judged.{Judged, begins, is_end, is_picture, kind, layer, of_layer}
use Rattle.mv_pictures.specs.Look.{in_sequence, look}
use Rattle.mv_pictures.specs.PictureRules.{decoded_before}
use Rattle.mv_pictures.specs.Starts.{follows_start, is_anew}
use Rattle.mv_commuting.proofs.More.{in_sequence-more}

pub latest-more : (test : Judged → Bool) (d : Judged) (past : List Judged) (n : ℕ) →
    find test (in_sequence (d ∷ past) n) ≡ (if of_layer n d && test d then Some d else (if begins d then None else find test (in_sequence past n)))
latest-more test d past n = ap (find test) (in_sequence-more d past n) ∙ go (of_layer n d) (begins d) (in_sequence past n)
  where
    go : (o b : Bool) (own : List Judged) → find test (cond o (d ∷ cond b [] own) (cond b [] own)) ≡ cond (o && test d) (Some d) (cond b None (find test own))
    go true true own = refl
    go true false own = refl
    go false true own = refl
    go false false own = refl

-- an answer about the one that is found
asked_of : {X : Type 0} (f : Option Judged → X) (a b : Bool) (d : Judged) (rest : Option Judged) → f (cond a (Some d) (cond b None rest)) ≡ cond a (f (Some d)) (cond b (f None) (f rest))
asked_of f true b d rest = refl
asked_of f false true d rest = refl
asked_of f false false d rest = refl

pub anchor-more : (d : Judged) (past : List Judged) (p : Fact) →
    anchor (look (d ∷ past) p) ≡ (if of_layer (layer p) d && (is_some d.count && (d.start || may_anchor d.fact)) then d.count else (if begins d then None else anchor (look past p)))
unfolding anchor look
anchor-more d past p =
    ap (option_and_then (λ (d : Judged). d.count)) (latest-more (λ (d : Judged). is_some d.count && (d.start || may_anchor d.fact)) d past (layer p))
    ∙ asked_of (option_and_then (λ (d : Judged). d.count)) (of_layer (layer p) d && (is_some d.count && (d.start || may_anchor d.fact))) (begins d) d
    (find (λ (d : Judged). is_some d.count && (d.start || may_anchor d.fact)) (in_sequence past (layer p)))

pub led-more : (d : Judged) (past : List Judged) (p : Fact) →
    follows_start (look (d ∷ past) p)
    ≡ (if of_layer (layer p) d && (is_picture d.fact && (is_irap (kind d.fact) || d.start)) then d.start else (if begins d then false else follows_start (look past p)))
unfolding follows_start look
led-more d past p =
    ap (λ found. option_map (λ (d : Judged). d.start) found otherwise false) (latest-more (λ (d : Judged). is_picture d.fact && (is_irap (kind d.fact) || d.start)) d past (layer p))
    ∙ asked_of (λ found. option_map (λ (d : Judged). d.start) found otherwise false) (of_layer (layer p) d && (is_picture d.fact && (is_irap (kind d.fact) || d.start))) (begins d) d
    (find (λ (d : Judged). is_picture d.fact && (is_irap (kind d.fact) || d.start)) (in_sequence past (layer p)))

pub decoded-more : (d : Judged) (past : List Judged) (p : Fact) →
    decoded_before (look (d ∷ past) p) ≡ (if of_layer (layer p) d && d.decoded then Some d else (if begins d then None else decoded_before (look past p)))
unfolding decoded_before look
decoded-more d past p = latest-more (λ (d : Judged). d.decoded) d past (layer p)

pub anew-more : (d : Judged) (past : List Judged) (p : Fact) →
    is_anew (look (d ∷ past) p) ≡ (if of_layer 0 d && (is_picture d.fact || is_end d.fact) then is_end d.fact else is_anew (look past p))
unfolding is_anew look
anew-more d past p = go (of_layer 0 d && (is_picture d.fact || is_end d.fact)) (find (λ d. of_layer 0 d && (is_picture d.fact || is_end d.fact)) past)
  where
    go : (b : Bool) (rest : Option Judged) →
        (option_map (λ (d : Judged). is_end d.fact) (cond b (Some d) rest) otherwise true) ≡ cond b (is_end d.fact) (option_map (λ (d : Judged). is_end d.fact) rest otherwise true)
    go true rest = refl
    go false rest = refl

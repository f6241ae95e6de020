-- Draws, one more at a time, and behind others.
use Rattle.std.proofs.Common.{◌≡◌, ℕ, ◌+◌, ◌/◌, ◌%◌, List, [], ◌∷◌, ◌++◌, map, sym, ap, ◌∙◌, append_assoc, add-one, arith}
use Rattle.std.specs.List.{range_with_len}
use Rattle.std.proofs.lemmas.List.FromFn.{map-range_with_len_more}
use Rattle.mv_units.specs.declared.head.UnitHead.{UnitHead}
use Rattle.mv_gen.specs.Draws.{next, behind, byte_of, draw, drawn}
use Rattle.mv_units.specs.Escapes.{escape}
use Rattle.mv_gen.specs.Headers.{head_of, header_of}
use Rattle.mv_gen.specs.Segments.{segment_from}
use Rattle.mv_gen.specs.Units.{data_of}

-- the state behind one draw more
pub behind_more : (state n : ℕ) → behind state (n + 1) ≡ next (behind state n)
behind_more state n = ap (behind state) (add-one n)

-- one byte more
pub drawn_more : (state n byte : ℕ) (before bytes after : List ℕ) →
    bytes ≡ before ++ map (λ i. byte_of (draw state i)) (range_with_len 0 n) →
    after ≡ bytes ++ byte ∷ [] →
    byte ≡ byte_of (draw state n) →
    after ≡ before ++ map (λ i. byte_of (draw state i)) (range_with_len 0 (n + 1))
drawn_more state n byte before bytes after so_far one it =
    one ∙ ap (λ (b : List ℕ). b ++ byte ∷ []) so_far
    ∙ ap (λ (v : ℕ). (before ++ map (λ i. byte_of (draw state i)) (range_with_len 0 n)) ++ v ∷ []) it
    ∙ append_assoc before (map (λ i. byte_of (draw state i)) (range_with_len 0 n)) (byte_of (draw state n) ∷ [])
    ∙ ap (λ (b : List ℕ). before ++ b) (sym (map-range_with_len_more (λ i. byte_of (draw state i)) 0 n n (omega arith)))

-- a unit of a head, a header, drawn bytes and the last byte
pub segment_is : (state place first count : ℕ) (head : UnitHead) (none header drawn_bytes whole lent unit : List ℕ) →
    first ≡ next state →
    count ≡ 1 + drawn first % 64 →
    none ≡ [] →
    header ≡ none ++ header_of (place % 2) (place / 2 % 8) →
    drawn_bytes ≡ header ++ map (λ i. byte_of (draw first i)) (range_with_len 0 count) →
    whole ≡ drawn_bytes ++ 128 ∷ [] →
    lent ≡ whole →
    head ≡ head_of (place % 2) (place / 2 % 8) →
    unit ≡ escape head lent →
    unit ≡ segment_from state place
unfolding segment_from data_of
segment_is state place first count head none header drawn_bytes whole lent unit first_is count_is none_is header_is drawn_is whole_is lent_is head_is unit_is =
    let own : List ℕ = header_of (place % 2) (place / 2 % 8) in
    unit_is
    ∙ ap (λ (h : UnitHead). escape h lent) head_is
    ∙ ap (escape (head_of (place % 2) (place / 2 % 8)))
    (lent_is ∙ whole_is
    ∙ ap (λ (b : List ℕ). b ++ 128 ∷ [])
    (drawn_is
    ∙ ap (λ (b : List ℕ). b ++ map (λ i. byte_of (draw first i)) (range_with_len 0 count))
    (header_is ∙ ap (λ (b : List ℕ). b ++ own) none_is))
    ∙ append_assoc own (map (λ i. byte_of (draw first i)) (range_with_len 0 count)) (128 ∷ [])
    ∙ ap (λ (n : ℕ). own ++ (map (λ i. byte_of (draw first i)) (range_with_len 0 n) ++ 128 ∷ [])) count_is
    ∙ ap (λ (s : ℕ). own ++ (map (λ i. byte_of (draw s i)) (range_with_len 0 (1 + drawn s % 64)) ++ 128 ∷ [])) first_is)

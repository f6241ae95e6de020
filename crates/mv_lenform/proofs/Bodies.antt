-- What stands at the front behind a length that is whole, with some first bytes of a piece.
use Rattle.std.proofs.Common.{◌≡◌, ℕ, ◌+◌, ◌<◌, ◌≤◌, ◌^◌, cond, if◌then◌else◌, List, [], ◌++◌, length, take, drop, Option, None, Some, ap, sym, ◌∙◌, arith, length-append, append_assoc}
use Rattle.std.specs.Int.{from_be_bytes, w32}
use Rattle.std.specs.List.{list_all}
use Rattle.std.proofs.lemmas.Bool.{le-ltb, lt-ltb}
use Rattle.std.proofs.lemmas.List.{length-take, length-take-le, take_all}
use Rattle.std.proofs.Math.ListN.{drop_of_length-le}
use Rattle.std.proofs.Math.Seq.{take-append_seam, drop-append_seam}
use Rattle.mv_rules.specs.declared.rule.Rule.{Rule}
use Rattle.mv_prefixed.specs.Reading.{Front, Open, Broken, Whole, front, length_front, body_front, unit_front, length_rule, bytes_rule, spelled, is_byte}

front-held : (h v : List ℕ) (w : ℕ) → length h ≡ 4 → spelled h ≡ w → length_rule w ≡ None → front (h ++ v) ≡ body_front w v
front-held h v w four is none =
    let first : take 4 (h ++ v) ≡ h = ap (λ n. take n (h ++ v)) (sym four) ∙ take-append_seam h v in
    let rest : drop 4 (h ++ v) ≡ v = ap (λ n. drop n (h ++ v)) (sym four) ∙ drop-append_seam h v in
    let same : spelled (h ++ v) ≡ w = ap (λ s. if list_all is_byte s then from_be_bytes w32 s else 2 ^ 32) (first ∙ sym (take_all 4 h (omega (arith, four)))) ∙ is in
    ap (λ c. cond c Open (length_front (spelled (h ++ v)) (drop 4 (h ++ v)))) (le-ltb (length (h ++ v)) 4 (omega (arith, four, length-append h v)))
    ∙ ap (λ n. length_front n (drop 4 (h ++ v))) same
    ∙ ap (length_front w) rest
    ∙ ap (λ o. elim o as (λ _. Front) [ Some rule ↦ Broken rule | None ↦ body_front w v ]) none

body-all : (v : List ℕ) (w : ℕ) (o : Option Rule) → length v ≡ w → bytes_rule v ≡ o → body_front w v ≡ elim o as (λ _. Front) [ Some rule ↦ Broken rule | None ↦ Whole v [] ]
body-all v w o len is =
    ap (λ c. cond c Open (unit_front (take w v) (drop w v))) (le-ltb (length v) w (omega (arith, len)))
    ∙ ap (λ u. unit_front u (drop w v)) (take_all w v (omega (arith, len)))
    ∙ ap (unit_front v) (drop_of_length-le v (omega (arith, len)))
    ∙ ap (λ o. elim o as (λ _. Front) [ Some rule ↦ Broken rule | None ↦ Whole v [] ]) is

pub unit-open : (h u b : List ℕ) (w k : ℕ) → length h ≡ 4 → spelled h ≡ w → length_rule w ≡ None → length u + k < w → front ((h ++ u) ++ take k b) ≡ Open
unit-open h u b w k four is none less =
    ap front (append_assoc h u (take k b))
    ∙ front-held h (u ++ take k b) w four is none
    ∙ ap (λ c. cond c Open (unit_front (take w (u ++ take k b)) (drop w (u ++ take k b))))
    (lt-ltb (length (u ++ take k b)) w (omega (arith, length-append u (take k b), length-take k b, less)))

unit-all : (h u b : List ℕ) (w n : ℕ) (o : Option Rule) → length h ≡ 4 → spelled h ≡ w → length_rule w ≡ None → length u + n ≡ w → n ≤ length b → bytes_rule (u ++ take n b) ≡ o →
    front ((h ++ u) ++ take n b) ≡ elim o as (λ _. Front) [ Some rule ↦ Broken rule | None ↦ Whole (u ++ take n b) [] ]
unit-all h u b w n o four is none full fits tests =
    ap front (append_assoc h u (take n b))
    ∙ front-held h (u ++ take n b) w four is none
    ∙ body-all (u ++ take n b) w o (omega (arith, full, length-append u (take n b), length-take-le n b fits)) tests

pub unit-broken : (h u b : List ℕ) (w n : ℕ) (rule : Rule) → length h ≡ 4 → spelled h ≡ w → length_rule w ≡ None → length u + n ≡ w → n ≤ length b → bytes_rule (u ++ take n b) ≡ Some rule →
    front ((h ++ u) ++ take n b) ≡ Broken rule
unit-broken h u b w n rule four is none full fits tests = unit-all h u b w n (Some rule) four is none full fits tests

pub unit-whole : (h u b : List ℕ) (w n : ℕ) → length h ≡ 4 → spelled h ≡ w → length_rule w ≡ None → length u + n ≡ w → n ≤ length b → bytes_rule (u ++ take n b) ≡ None →
    front ((h ++ u) ++ take n b) ≡ Whole (u ++ take n b) []
unit-whole h u b w n four is none full fits tests = unit-all h u b w n None four is none full fits tests

-- a length that breaks a rule
pub length-broken : (h : List ℕ) (rule : Rule) → length h ≡ 4 → length_rule (spelled h) ≡ Some rule → front h ≡ Broken rule
length-broken h rule four is =
    ap (λ c. cond c Open (length_front (spelled h) (drop 4 h))) (le-ltb (length h) 4 (omega (arith, four)))
    ∙ ap (λ o. elim o as (λ _. Front) [ Some rule ↦ Broken rule | None ↦ body_front (spelled h) (drop 4 h) ]) is

-- Emulation prevention by runs: what a search for two zero bytes, or for 00 00 03, says of the bytes before it.
use Rattle.std.proofs.Common.{◌≡◌, ℕ, zero, suc, ◌+◌, ◌-◌, ◌<◌, ◌≤◌, true, false, ◌==◌, ◌&&◌, nat_le, List, [], ◌∷◌, ◌++◌, length, take, drop, get_or, if◌then◌else◌, refl, ap, sym, ◌∙◌, subst, arith, slice_range, append_assoc, append-nil}
use Rattle.std.proofs.lemmas.Bool.{and_parts, eqb-true, le-leb, lt-leb}
use Rattle.std.proofs.lemmas.Bool.Decides.{nat_tests}
use Rattle.std.proofs.lemmas.List.{length-drop, drop-drop, take_rest}
use Rattle.memchr.specs.Find.{OccursAt, Nowhere}
use Rattle.mv_units.specs.Escapes.{both_zero, unescaped, payload, escaped}
use Rattle.mv_units.proofs.Escaped.{choice, and-false, both_zero-second, unescaped-drops, unescaped-keeps, escaped-puts, escaped-keeps, escaped-stops}

-- two zero bytes, and a 03 behind them
abbrev pub zeros : List ℕ
zeros = 0 ∷ 0 ∷ []

abbrev pub prevented : List ℕ
prevented = 0 ∷ 0 ∷ 3 ∷ []

-- a byte above zero
pub some-nonzero : (n : ℕ) → 0 < n → (n == 0) ≡ false
some-nonzero n some = grind (arith, nat_tests)

-- what occurs behind the first byte
later : (a : ℕ) (s needle : List ℕ) (k : ℕ) → OccursAt s needle k → OccursAt (a ∷ s) needle (suc k)
later a s needle k h = record {
  fits = let fits : k + length needle ≤ length s = h.fits in omega arith;
  reads = λ j low. ap (λ n. get_or (a ∷ s) n 0) (shifted j) ∙ h.reads j low;
}
  where
    shifted : (j : ℕ) → suc k + j ≡ suc (k + j)
    shifted j = omega arith

earlier : (a : ℕ) (s needle : List ℕ) (k : ℕ) → OccursAt (a ∷ s) needle (suc k) → OccursAt s needle k
earlier a s needle k h = record {
  fits = let fits : suc k + length needle ≤ suc (length s) = h.fits in omega arith;
  reads = λ j low. ap (λ n. get_or (a ∷ s) n 0) (shifted j) ∙ h.reads j low;
}
  where
    shifted : (j : ℕ) → suc (k + j) ≡ suc k + j
    shifted j = omega arith

later-nowhere : (a : ℕ) (s needle : List ℕ) (n : ℕ) → Nowhere (OccursAt (a ∷ s) needle) 0 (suc n) → Nowhere (OccursAt s needle) 0 n
later-nowhere a s needle n never k low below h = never (suc k) (omega arith) (omega arith) (later a s needle k h)

-- two zero bytes that stand at the front
zeros-here : (a b : ℕ) (s : List ℕ) → both_zero a b ≡ true → OccursAt (a ∷ b ∷ s) zeros 0
zeros-here a b s is =
    let two = and_parts (a == 0) (b == 0) is in
    record { fits = omega arith; reads = λ j low. reads j low (eqb-true a 0 two.0) (eqb-true b 0 two.1) }
  where
    reads : (j : ℕ) → j < 2 → a ≡ 0 → b ≡ 0 → get_or (a ∷ b ∷ s) (0 + j) 0 ≡ get_or zeros j 0
    reads zero low x y = x
    reads (suc zero) low x y = y
    reads (suc (suc j)) low x y = absurd (omega arith)

prevented-here : (a b c : ℕ) (s : List ℕ) → (both_zero a b && (c == 3)) ≡ true → OccursAt (a ∷ b ∷ c ∷ s) prevented 0
prevented-here a b c s is =
    let all = and_parts (both_zero a b) (c == 3) is in
    let two = and_parts (a == 0) (b == 0) all.0 in
    record { fits = omega arith; reads = λ j low. reads j low (eqb-true a 0 two.0) (eqb-true b 0 two.1) (eqb-true c 3 all.1) }
  where
    reads : (j : ℕ) → j < 3 → a ≡ 0 → b ≡ 0 → c ≡ 3 → get_or (a ∷ b ∷ c ∷ s) (0 + j) 0 ≡ get_or prevented j 0
    reads zero low x y z = x
    reads (suc zero) low x y z = y
    reads (suc (suc zero)) low x y z = z
    reads (suc (suc (suc j))) low x y z = absurd (omega arith)

-- where they don't stand at the front
no-zeros : (a b : ℕ) (s : List ℕ) → (OccursAt (a ∷ b ∷ s) zeros 0 → ⊥) → both_zero a b ≡ false
no-zeros a b s never = choice (both_zero a b) (both_zero a b ≡ false) (λ is. absurd (never (zeros-here a b s is))) (λ isnt. isnt)

no-prevented : (a b c : ℕ) (s : List ℕ) → (OccursAt (a ∷ b ∷ c ∷ s) prevented 0 → ⊥) → (both_zero a b && (c == 3)) ≡ false
no-prevented a b c s never =
    choice (both_zero a b && (c == 3)) ((both_zero a b && (c == 3)) ≡ false) (λ is. absurd (never (prevented-here a b c s is))) (λ isnt. isnt)

-- the payload up to the first 03 that is taken out
pub payload-run : (w : List ℕ) (k : ℕ) → Nowhere (OccursAt w prevented) 0 k → OccursAt w prevented k → payload w ≡ take k (drop 2 w) ++ payload (drop (suc k) w)
unfolding payload
payload-run [] k never h = absurd (let fits : k + 3 ≤ 0 = h.fits in omega arith)
payload-run (a ∷ []) k never h = absurd (let fits : k + 3 ≤ 1 = h.fits in omega arith)
payload-run (a ∷ b ∷ []) k never h = absurd (let fits : k + 3 ≤ 2 = h.fits in omega arith)
payload-run (a ∷ b ∷ c ∷ s) zero never h =
    let one : a ≡ 0 = h.reads 0 (omega arith) in
    let two : b ≡ 0 = h.reads 1 (omega arith) in
    let three : c ≡ 3 = h.reads 2 (omega arith) in
    ap (λ n. unescaped a b (n ∷ s)) three
    ∙ unescaped-drops a b s (ap (λ n. both_zero n b) one ∙ ap (λ n. both_zero 0 n) two)
    ∙ ap (λ n. unescaped b n s) (sym three)
payload-run (a ∷ b ∷ c ∷ s) (suc k) never h =
    unescaped-keeps a b c s (no-prevented a b c s (λ here. never 0 (omega arith) (omega arith) here))
    ∙ ap (λ r. c ∷ r) (payload-run (b ∷ c ∷ s) k (later-nowhere a (b ∷ c ∷ s) prevented k never) (earlier a (b ∷ c ∷ s) prevented k h))

-- and where there is none
pub payload-whole : (w : List ℕ) → ((k : ℕ) → OccursAt w prevented k → ⊥) → payload w ≡ drop 2 w
unfolding payload unescaped
payload-whole [] never = refl
payload-whole (a ∷ []) never = refl
payload-whole (a ∷ b ∷ []) never = refl
payload-whole (a ∷ b ∷ c ∷ s) never =
    unescaped-keeps a b c s (no-prevented a b c s (never 0))
    ∙ ap (λ r. c ∷ r) (payload-whole (b ∷ c ∷ s) (λ k h. never (suc k) (later a (b ∷ c ∷ s) prevented k h)))

-- what stands before the rest of a payload matters by whether it is two zeros
escaped-same : (a x b : ℕ) (s : List ℕ) → both_zero a b ≡ both_zero x b → escaped a b s ≡ escaped x b s
unfolding escaped
escaped-same a x b [] same = ap (λ t. if t then 3 ∷ [] else []) same
escaped-same a x b (c ∷ s) same = ap (λ t. if t && nat_le c 3 then 3 ∷ c ∷ escaped 3 c s else c ∷ escaped b c s) same

-- behind a byte other than zero
pub escaped-fresh : (a b : ℕ) (s : List ℕ) → (b == 0) ≡ false → escaped a b s ≡ escaped 3 3 s
unfolding escaped
escaped-fresh a b [] isnt = escaped-stops a b (both_zero-second a b isnt)
escaped-fresh a b (c ∷ s) isnt =
    escaped-keeps a b c s (and-false (both_zero a b) (nat_le c 3) (both_zero-second a b isnt))
    ∙ ap (λ r. c ∷ r) (escaped-same b 3 c s (ap (λ t. t && (c == 0)) isnt))

-- the payload up to the first two zeros
escaped-run-behind : (a b : ℕ) (s : List ℕ) (k : ℕ) → Nowhere (OccursAt (a ∷ b ∷ s) zeros) 0 k → OccursAt (a ∷ b ∷ s) zeros k → escaped a b s ≡ take k s ++ escaped 0 0 (drop k s)
escaped-run-behind a b s zero never h =
    let one : a ≡ 0 = h.reads 0 (omega arith) in
    let two : b ≡ 0 = h.reads 1 (omega arith) in
    ap (λ n. escaped n b s) one ∙ ap (λ n. escaped 0 n s) two
escaped-run-behind a b [] (suc k) never h = absurd (let fits : suc k + 2 ≤ 2 = h.fits in omega arith)
escaped-run-behind a b (c ∷ s) (suc k) never h =
    escaped-keeps a b c s (and-false (both_zero a b) (nat_le c 3) (no-zeros a b (c ∷ s) (λ here. never 0 (omega arith) (omega arith) here)))
    ∙ ap (λ r. c ∷ r) (escaped-run-behind b c s k (later-nowhere a (b ∷ c ∷ s) zeros k never) (earlier a (b ∷ c ∷ s) zeros k h))

pub escaped-run : (s : List ℕ) (k : ℕ) → Nowhere (OccursAt s zeros) 0 k → OccursAt s zeros k → escaped 3 3 s ≡ take (suc (suc k)) s ++ escaped 0 0 (drop (suc (suc k)) s)
unfolding escaped
escaped-run [] k never h = absurd (let fits : k + 2 ≤ 0 = h.fits in omega arith)
escaped-run (a ∷ []) k never h = absurd (let fits : k + 2 ≤ 1 = h.fits in omega arith)
escaped-run (a ∷ b ∷ s) k never h = ap (λ r. a ∷ b ∷ r) (escaped-run-behind a b s k never h)

-- and where there are none
escaped-whole-behind : (a b : ℕ) (s : List ℕ) → ((k : ℕ) → OccursAt (a ∷ b ∷ s) zeros k → ⊥) → escaped a b s ≡ s
escaped-whole-behind a b [] never = escaped-stops a b (no-zeros a b [] (never 0))
escaped-whole-behind a b (c ∷ s) never =
    escaped-keeps a b c s (and-false (both_zero a b) (nat_le c 3) (no-zeros a b (c ∷ s) (never 0)))
    ∙ ap (λ r. c ∷ r) (escaped-whole-behind b c s (λ k h. never (suc k) (later a (b ∷ c ∷ s) zeros k h)))

pub escaped-whole : (s : List ℕ) → ((k : ℕ) → OccursAt s zeros k → ⊥) → escaped 3 3 s ≡ s
unfolding escaped
escaped-whole [] never = refl
escaped-whole (a ∷ []) never = refl
escaped-whole (a ∷ b ∷ s) never = ap (λ r. a ∷ b ∷ r) (escaped-whole-behind a b s never)

-- behind two zeros: no 03 before a byte above 03
pub prevents-none : (s : List ℕ) → 1 ≤ length s → 3 < get_or s 0 0 → escaped 0 0 s ≡ escaped 3 3 s
unfolding escaped
prevents-none [] some high = absurd (omega arith)
prevents-none (c ∷ s) some high =
    escaped-keeps 0 0 c s (lt-leb c 3 high) ∙ ap (λ r. c ∷ r) (escaped-same 0 3 c s (both_zero-second 0 c (some-nonzero c (omega arith))))

-- and one before a byte up to 03, and at the end
pub prevents-end : (s : List ℕ) → length s < 1 → escaped 0 0 s ≡ 3 ∷ escaped 3 3 s
unfolding escaped
prevents-end [] none = refl
prevents-end (c ∷ s) none = absurd (omega arith)

pub prevents-low : (s : List ℕ) → 1 ≤ length s → get_or s 0 0 ≤ 3 → escaped 0 0 s ≡ 3 ∷ escaped 3 3 s
unfolding escaped
prevents-low [] some low = absurd (omega arith)
prevents-low (c ∷ s) some low = escaped-puts 0 0 c s (le-leb c 3 low)

pub three-put : (old new rest : List ℕ) → new ≡ old ++ 3 ∷ [] → escaped 0 0 rest ≡ 3 ∷ escaped 3 3 rest → new ++ escaped 3 3 rest ≡ old ++ escaped 0 0 rest
three-put old new rest is wants = ap (λ s. s ++ escaped 3 3 rest) is ∙ append_assoc old (3 ∷ []) (escaped 3 3 rest) ∙ ap (λ s. old ++ s) (sym wants)

-- a search from a place on, in a whole unit
pub next-prevented : (u : List ℕ) (from k : ℕ) → 2 ≤ from → from < length u →
    Nowhere (OccursAt (take (length u - (from - 2)) (drop (from - 2) u)) prevented) 0 k → OccursAt (take (length u - (from - 2)) (drop (from - 2) u)) prevented k →
    payload (drop (from - 2) u) ≡ slice_range u from (from + k) ++ payload (drop (from + k - 1) u)
next-prevented u from k two low never h =
    let w : List ℕ = drop (from - 2) u in
    let rest = take_rest u (from - 2) in
    let behind : from - 2 + 2 ≡ from = omega arith in
    let far : from - 2 + suc k ≡ from + k - 1 = omega arith in
    let count : from + k - from ≡ k = omega arith in
    payload-run w k (subst (λ hay. Nowhere (OccursAt hay prevented) 0 k) rest never) (subst (λ hay. OccursAt hay prevented k) rest h)
    ∙ ap (λ s. take k s ++ payload (drop (suc k) w)) (drop-drop 2 (from - 2) u ∙ ap (λ n. drop n u) behind)
    ∙ ap (λ s. take k (drop from u) ++ payload s) (drop-drop (suc k) (from - 2) u ∙ ap (λ n. drop n u) far)
    ∙ ap (λ n. take n (drop from u) ++ payload (drop (from + k - 1) u)) (sym count)

-- a unit with a head alone, or less, has no payload
pub payload-none : (w : List ℕ) → length w ≤ 2 → payload w ≡ []
unfolding payload unescaped
payload-none [] short = refl
payload-none (a ∷ []) short = refl
payload-none (a ∷ b ∷ []) short = refl
payload-none (a ∷ b ∷ c ∷ s) short = absurd (omega arith)

-- a needle that occurs nowhere
absent : (hay needle : List ℕ) → Nowhere (OccursAt hay needle) 0 (length hay + 1) → (k : ℕ) → OccursAt hay needle k → ⊥
absent hay needle never k h = let fits : k + length needle ≤ length hay = h.fits in never k (omega arith) (omega arith) h

pub none-prevented : (u : List ℕ) (from : ℕ) → 2 ≤ from → from < length u →
    Nowhere (OccursAt (take (length u - (from - 2)) (drop (from - 2) u)) prevented) 0 (length (take (length u - (from - 2)) (drop (from - 2) u)) + 1) →
    payload (drop (from - 2) u) ≡ slice_range u from (length u) ++ payload (drop (length u - 1) u)
none-prevented u from two low never =
    let rest = take_rest u (from - 2) in
    let behind : from - 2 + 2 ≡ from = omega arith in
    let short : length (drop (length u - 1) u) ≤ 2 = omega (arith, length-drop (length u - 1) u) in
    payload-whole (drop (from - 2) u) (absent (drop (from - 2) u) prevented (subst (λ hay. Nowhere (OccursAt hay prevented) 0 (length hay + 1)) rest never))
    ∙ drop-drop 2 (from - 2) u
    ∙ ap (λ n. drop n u) behind
    ∙ sym (take_rest u from)
    ∙ sym (append-nil (slice_range u from (length u)))
    ∙ ap (λ s. slice_range u from (length u) ++ s) (sym (payload-none (drop (length u - 1) u) short))

-- and in a whole payload
pub next-zeros : (p : List ℕ) (from k : ℕ) → Nowhere (OccursAt (take (length p - from) (drop from p)) zeros) 0 k → OccursAt (take (length p - from) (drop from p)) zeros k →
    escaped 3 3 (drop from p) ≡ slice_range p from (from + k + 2) ++ escaped 0 0 (drop (from + k + 2) p)
next-zeros p from k never h =
    let rest = take_rest p from in
    let far : from + suc (suc k) ≡ from + k + 2 = omega arith in
    let count : from + k + 2 - from ≡ suc (suc k) = omega arith in
    escaped-run (drop from p) k (subst (λ hay. Nowhere (OccursAt hay zeros) 0 k) rest never) (subst (λ hay. OccursAt hay zeros k) rest h)
    ∙ ap (λ s. take (suc (suc k)) (drop from p) ++ escaped 0 0 s) (drop-drop (suc (suc k)) from p ∙ ap (λ n. drop n p) far)
    ∙ ap (λ n. take n (drop from p) ++ escaped 0 0 (drop (from + k + 2) p)) (sym count)

pub none-zeros : (p : List ℕ) (from : ℕ) → Nowhere (OccursAt (take (length p - from) (drop from p)) zeros) 0 (length (take (length p - from) (drop from p)) + 1) →
    escaped 3 3 (drop from p) ≡ drop from p
none-zeros p from never =
    escaped-whole (drop from p) (absent (drop from p) zeros (subst (λ hay. Nowhere (OccursAt hay zeros) 0 (length hay + 1)) (take_rest p from) never))

-- a run more
pub run-added : (all done next run rest more : List ℕ) → done ++ rest ≡ all → next ≡ done ++ run → rest ≡ run ++ more → next ++ more ≡ all
run-added all done next run rest more whole is split =
    ap (λ s. s ++ more) is ∙ append_assoc done run more ∙ ap (λ s. done ++ s) (sym split) ∙ whole

-- the last run
pub run-last : (all done next p : List ℕ) (from : ℕ) → done ++ escaped 3 3 (drop from p) ≡ all → escaped 3 3 (drop from p) ≡ drop from p → next ≡ done ++ take (length p - from) (drop from p) → next ≡ all
run-last all done next p from whole same is = is ∙ ap (λ s. done ++ s) (take_rest p from ∙ sym same) ∙ whole

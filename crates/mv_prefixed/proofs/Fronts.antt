-- What stands at the front of a string, with more bytes behind it, and what a plain unit at the front says of the string.
use Rattle.std.proofs.Common.{◌≡◌, ◌≢◌, ℕ, ◌-◌, ◌<◌, ◌≤◌, ◌^◌, ◌/◌, ◌%◌, ◌&&◌, Bool, true, false, cond, ◌==◌, nat_lt, if◌then◌else◌, List, [], ◌∷◌, ◌++◌, length, take, drop, slice_index, get_or, Option, None, Some, refl, ap, sym, ◌∙◌, subst, arith, length-append}
use Rattle.std.specs.Int.{to_be_bytes, from_be_bytes, w32}
use Rattle.std.specs.List.{list_all}
use Rattle.std.proofs.lemmas.Bool.{ltb-true, ltb-false, le-ltb, lt-ltb, eqb-true}
use Rattle.std.proofs.lemmas.List.{get_or_past, length-take-le, take-append-drop, take-append-le, drop-append-le}
use Rattle.std.proofs.lemmas.List.Folds.{list_all_at}
use Rattle.std.proofs.lemmas.Nat.{be_bytes_4, from_be_bytes-to_be_bytes_4}
use Rattle.std.proofs.Math.Seq.{take-append_seam, drop-append_seam}
use Rattle.mv_rules.specs.declared.rule.Rule.{Rule}
use Rattle.mv_units.specs.Rules.{has_emulation, longest_unit}
use Rattle.mv_units.specs.Units.{has_code}
use Rattle.mv_prefixed.specs.LenForm.{IsPlain}
use Rattle.mv_prefixed.specs.Reading.{Front, Open, Broken, Whole, front, length_front, body_front, unit_front, length_rule, bytes_rule, spelled, is_byte, ends_in_zero}

-- the front with more bytes behind it
abbrev pub more : List ℕ → Front → Front
more t Open = Open
more t (Broken rule) = Broken rule
more t (Whole u rest) = Whole u (rest ++ t)

unit_front-more : (u rest t : List ℕ) → unit_front u (rest ++ t) ≡ more t (unit_front u rest)
unit_front-more u rest t = go (bytes_rule u)
  where
    go : (o : Option Rule) → elim o as (λ _. Front) [ Some rule ↦ Broken rule | None ↦ Whole u (rest ++ t) ] ≡ more t (elim o as (λ _. Front) [ Some rule ↦ Broken rule | None ↦ Whole u rest ])
    go None = refl
    go (Some rule) = refl

body_front-more : (n : ℕ) (s t : List ℕ) → body_front n s ≢ Open → body_front n (s ++ t) ≡ more t (body_front n s)
body_front-more n s t closed = go (nat_lt (length s) n) refl
  where
    go : (b : Bool) → nat_lt (length s) n ≡ b → body_front n (s ++ t) ≡ more t (body_front n s)
    go true is = absurd (closed (ap (λ c. cond c Open (unit_front (take n s) (drop n s))) is))
    go false is =
        let enough : n ≤ length s = ltb-false (length s) n is in
        let longer : nat_lt (length (s ++ t)) n ≡ false = le-ltb (length (s ++ t)) n (omega (arith, length-append s t)) in
        ap (λ c. cond c Open (unit_front (take n (s ++ t)) (drop n (s ++ t)))) longer
        ∙ ap (λ u. unit_front u (drop n (s ++ t))) (take-append-le n s t enough)
        ∙ ap (λ r. unit_front (take n s) r) (drop-append-le n s t enough)
        ∙ unit_front-more (take n s) (drop n s) t
        ∙ ap (λ c. more t (cond c Open (unit_front (take n s) (drop n s)))) (sym is)

length_front-more : (n : ℕ) (s t : List ℕ) → length_front n s ≢ Open → length_front n (s ++ t) ≡ more t (length_front n s)
length_front-more n s t closed = go (length_rule n) refl
  where
    chosen : List ℕ → Option Rule → Front
    chosen s o = elim o as (λ _. Front) [ Some rule ↦ Broken rule | None ↦ body_front n s ]

    go : (o : Option Rule) → length_rule n ≡ o → length_front n (s ++ t) ≡ more t (length_front n s)
    go (Some rule) is =
        ap (λ o. elim o as (λ _. Front) [ Some rule ↦ Broken rule | None ↦ body_front n (s ++ t) ]) is
        ∙ ap (λ o. more t (elim o as (λ _. Front) [ Some rule ↦ Broken rule | None ↦ body_front n s ])) (sym is)
    go None is =
        let at : length_front n s ≡ body_front n s = ap (λ o. elim o as (λ _. Front) [ Some rule ↦ Broken rule | None ↦ body_front n s ]) is in
        ap (λ o. elim o as (λ _. Front) [ Some rule ↦ Broken rule | None ↦ body_front n (s ++ t) ]) is
        ∙ body_front-more n s t (λ none. closed (at ∙ none))
        ∙ ap (more t) (sym at)

pub spelled-more : (s t : List ℕ) → 4 ≤ length s → spelled (s ++ t) ≡ spelled s
spelled-more s t enough =
    ap (λ v. if list_all is_byte v then from_be_bytes w32 v else 2 ^ 32) (take-append-le 4 s t enough)

pub front-more : (s t : List ℕ) → front s ≢ Open → front (s ++ t) ≡ more t (front s)
front-more s t closed = go (nat_lt (length s) 4) refl
  where
    go : (b : Bool) → nat_lt (length s) 4 ≡ b → front (s ++ t) ≡ more t (front s)
    go true is = absurd (closed (ap (λ c. cond c Open (length_front (spelled s) (drop 4 s))) is))
    go false is =
        let enough : 4 ≤ length s = ltb-false (length s) 4 is in
        let longer : nat_lt (length (s ++ t)) 4 ≡ false = le-ltb (length (s ++ t)) 4 (omega (arith, length-append s t)) in
        let at : front s ≡ length_front (spelled s) (drop 4 s) = ap (λ c. cond c Open (length_front (spelled s) (drop 4 s))) is in
        ap (λ c. cond c Open (length_front (spelled (s ++ t)) (drop 4 (s ++ t)))) longer
        ∙ ap (λ n. length_front n (drop 4 (s ++ t))) (spelled-more s t enough)
        ∙ ap (length_front (spelled s)) (drop-append-le 4 s t enough)
        ∙ length_front-more (spelled s) (drop 4 s) t (λ none. closed (at ∙ none))
        ∙ ap (more t) (sym at)

-- a plain unit at the front, and the string
pub record Fronted (s u rest : List ℕ) : Type 0 where
  pub parts : s ≡ to_be_bytes w32 (length u) ++ (u ++ rest)
  pub plain : IsPlain u

-- what the tests of a unit's bytes say
bytes-plain : (u : List ℕ) → bytes_rule u ≡ None → (has_emulation u ≡ false) × (has_code u ≡ false) × (slice_index u (length u - 1) ≢ 0)
bytes-plain u none = go (has_emulation u) (has_code u) (ends_in_zero u) refl refl refl
  where
    go : (a b c : Bool) → has_emulation u ≡ a → has_code u ≡ b → ends_in_zero u ≡ c → (has_emulation u ≡ false) × (has_code u ≡ false) × (slice_index u (length u - 1) ≢ 0)
    go true b c isa isb isc = absurd (let h : Some Rule.Emulation ≡ None = ap (λ t. cond t (Some Rule.Emulation) (cond (has_code u) (Some Rule.InnerCode) (cond (ends_in_zero u) (Some Rule.LastZero) None))) (sym isa) ∙ none in cc)
    go false true c isa isb isc = absurd (let h : Some Rule.InnerCode ≡ None =
        ap (λ t. cond t (Some Rule.InnerCode) (cond (ends_in_zero u) (Some Rule.LastZero) None)) (sym isb)
        ∙ ap (λ t. cond t (Some Rule.Emulation) (cond (has_code u) (Some Rule.InnerCode) (cond (ends_in_zero u) (Some Rule.LastZero) None))) (sym isa) ∙ none in cc)
    go false false true isa isb isc = absurd (let h : Some Rule.LastZero ≡ None =
        ap (λ t. cond t (Some Rule.LastZero) None) (sym isc)
        ∙ ap (λ t. cond t (Some Rule.InnerCode) (cond (ends_in_zero u) (Some Rule.LastZero) None)) (sym isb)
        ∙ ap (λ t. cond t (Some Rule.Emulation) (cond (has_code u) (Some Rule.InnerCode) (cond (ends_in_zero u) (Some Rule.LastZero) None))) (sym isa) ∙ none in cc)
    go false false false isa isb isc = (isa, isb, λ zero. let h : true ≡ false = ap (λ n. n == 0) (sym zero) ∙ isc in cc)

pub plain-bytes : (u : List ℕ) → IsPlain u → bytes_rule u ≡ None
plain-bytes u plain =
    ap (λ t. cond t (Some Rule.Emulation) (cond (has_code u) (Some Rule.InnerCode) (cond (ends_in_zero u) (Some Rule.LastZero) None))) plain.quiet
    ∙ ap (λ t. cond t (Some Rule.InnerCode) (cond (ends_in_zero u) (Some Rule.LastZero) None)) plain.clean
    ∙ ap (λ t. cond t (Some Rule.LastZero) None) (go (ends_in_zero u) refl)
  where
    go : (t : Bool) → ends_in_zero u ≡ t → ends_in_zero u ≡ false
    go true is = absurd (plain.ends (eqb-true _ 0 is))
    go false is = is

-- what the tests of a length say
pub length-plain : (n : ℕ) → length_rule n ≡ None → (2 ≤ n) × (n ≤ longest_unit)
length-plain n none = go (nat_lt n 2) (nat_lt longest_unit n) refl refl
  where
    go : (a b : Bool) → nat_lt n 2 ≡ a → nat_lt longest_unit n ≡ b → (2 ≤ n) × (n ≤ longest_unit)
    go true b isa isb = absurd (let h : Some Rule.Short ≡ None = ap (λ t. cond t (Some Rule.Short) (cond (nat_lt longest_unit n) (Some Rule.Long) None)) (sym isa) ∙ none in cc)
    go false true isa isb = absurd (let h : Some Rule.Long ≡ None =
        ap (λ t. cond t (Some Rule.Long) None) (sym isb) ∙ ap (λ t. cond t (Some Rule.Short) (cond (nat_lt longest_unit n) (Some Rule.Long) None)) (sym isa) ∙ none in cc)
    go false false isa isb = (ltb-false n 2 isa, ltb-false longest_unit n isb)

pub plain-length : (n : ℕ) → 2 ≤ n → n ≤ longest_unit → length_rule n ≡ None
plain-length n low high =
    ap (λ t. cond t (Some Rule.Short) (cond (nat_lt longest_unit n) (Some Rule.Long) None)) (le-ltb n 2 low)
    ∙ ap (λ t. cond t (Some Rule.Long) None) (le-ltb longest_unit n high)

-- each of some bytes is below 256
each-byte : (s : List ℕ) → list_all is_byte s ≡ true → (i : ℕ) → get_or s i 0 < 256
each-byte s all i = go (nat_lt i (length s)) refl (is_byte (get_or s i 0)) refl
  where
    go : (a : Bool) → nat_lt i (length s) ≡ a → (b : Bool) → is_byte (get_or s i 0) ≡ b → get_or s i 0 < 256
    go a isa true isb = ltb-true _ 256 isb
    go true isa false isb = absurd (let h : false ≡ true = sym (list_all_at is_byte s i 0 (ltb-true i _ isa) isb) ∙ all in cc)
    go false isa false isb = let none = get_or_past s i 0 (ltb-false i (length s) isa) in omega (arith, none)

-- the bytes that spell a length of a plain unit
spelled-bytes : (s : List ℕ) (n : ℕ) → 4 ≤ length s → spelled s ≡ n → n ≤ longest_unit → to_be_bytes w32 n ≡ take 4 s
spelled-bytes s n enough is most = go (list_all is_byte (take 4 s)) refl
  where
    go : (b : Bool) → list_all is_byte (take 4 s) ≡ b → to_be_bytes w32 n ≡ take 4 s
    go true all = be_bytes_4 (take 4 s) n (length-take-le 4 s enough) (each-byte (take 4 s) all)
        (sym is ∙ ap (λ b. if b then from_be_bytes w32 (take 4 s) else 2 ^ 32) all)
    go false some = absurd (let big : n ≡ 2 ^ 32 = sym is ∙ ap (λ b. if b then from_be_bytes w32 (take 4 s) else 2 ^ 32) some in omega (arith, big))

unit_front-whole : (v w u rest : List ℕ) → unit_front v w ≡ Whole u rest → (v ≡ u) × (w ≡ rest) × (bytes_rule v ≡ None)
unit_front-whole v w u rest is = go (bytes_rule v) refl
  where
    go : (o : Option Rule) → bytes_rule v ≡ o → (v ≡ u) × (w ≡ rest) × (bytes_rule v ≡ None)
    go (Some rule) at = absurd (let h : Broken rule ≡ Whole u rest = ap (λ o. elim o as (λ _. Front) [ Some rule ↦ Broken rule | None ↦ Whole v w ]) (sym at) ∙ is in cc)
    go None at =
        let h : Whole v w ≡ Whole u rest = ap (λ o. elim o as (λ _. Front) [ Some rule ↦ Broken rule | None ↦ Whole v w ]) (sym at) ∙ is in
        (cc, cc, at)

pub front-whole : (s u rest : List ℕ) → front s ≡ Whole u rest → Fronted s u rest
front-whole s u rest is = go (nat_lt (length s) 4) refl (length_rule (spelled s)) refl (nat_lt (length (drop 4 s)) (spelled s)) refl
  where
    n : ℕ
    n = spelled s

    go : (a : Bool) → nat_lt (length s) 4 ≡ a → (o : Option Rule) → length_rule (spelled s) ≡ o → (b : Bool) → nat_lt (length (drop 4 s)) (spelled s) ≡ b → Fronted s u rest
    go true isa o iso b isb = absurd (let h : Open ≡ Whole u rest = ap (λ c. cond c Open (length_front (spelled s) (drop 4 s))) (sym isa) ∙ is in cc)
    go false isa (Some rule) iso b isb = absurd (let h : Broken rule ≡ Whole u rest =
        ap (λ o. elim o as (λ _. Front) [ Some rule ↦ Broken rule | None ↦ body_front (spelled s) (drop 4 s) ]) (sym iso)
        ∙ ap (λ c. cond c Open (length_front (spelled s) (drop 4 s))) (sym isa) ∙ is in cc)
    go false isa None iso true isb = absurd (let h : Open ≡ Whole u rest =
        ap (λ c. cond c Open (unit_front (take (spelled s) (drop 4 s)) (drop (spelled s) (drop 4 s)))) (sym isb)
        ∙ ap (λ o. elim o as (λ _. Front) [ Some rule ↦ Broken rule | None ↦ body_front (spelled s) (drop 4 s) ]) (sym iso)
        ∙ ap (λ c. cond c Open (length_front (spelled s) (drop 4 s))) (sym isa) ∙ is in cc)
    go false isa None iso false isb =
        let found = unit_front-whole (take (spelled s) (drop 4 s)) (drop (spelled s) (drop 4 s)) u rest
        (ap (λ c. cond c Open (unit_front (take (spelled s) (drop 4 s)) (drop (spelled s) (drop 4 s)))) (sym isb)
        ∙ ap (λ o. elim o as (λ _. Front) [ Some rule ↦ Broken rule | None ↦ body_front (spelled s) (drop 4 s) ]) (sym iso)
        ∙ ap (λ c. cond c Open (length_front (spelled s) (drop 4 s))) (sym isa) ∙ is) in
        let bounds = length-plain (spelled s) iso in
        let enough : 4 ≤ length s = ltb-false (length s) 4 isa in
        let len : length u ≡ spelled s = ap (λ v. length v) (sym found.0) ∙ length-take-le (spelled s) (drop 4 s) (ltb-false _ (spelled s) isb) in
        let tests = bytes-plain u (subst (λ v. bytes_rule v ≡ None) found.0 found.2) in
        let number : to_be_bytes w32 (length u) ≡ take 4 s = spelled-bytes s (length u) enough (sym len) (omega (arith, len, bounds.1)) in
        record {
          parts = sym (take-append-drop 4 s)
              ∙ ap (λ v. v ++ drop 4 s) (sym number)
              ∙ ap (λ v. to_be_bytes w32 (length u) ++ v) (sym (take-append-drop (spelled s) (drop 4 s)) ∙ ap (λ v. v ++ drop (spelled s) (drop 4 s)) found.0 ∙ ap (λ v. u ++ v) found.1);
          plain = record {
            head = omega (arith, len, bounds.0);
            most = omega (arith, len, bounds.1);
            quiet = tests.0;
            clean = tests.1;
            ends = tests.2;
          };
        }

-- and the other way round
byte-below : (n : ℕ) → is_byte (n % 256) ≡ true
byte-below n = lt-ltb (n % 256) 256 (omega arith)

length-bytes : (n : ℕ) → list_all is_byte (to_be_bytes w32 n) ≡ true
length-bytes n = four _ _ _ _ (byte-below (n / 16777216)) (byte-below (n / 65536)) (byte-below (n / 256)) (byte-below n)
  where
    four : (a b c d : ℕ) → is_byte a ≡ true → is_byte b ≡ true → is_byte c ≡ true → is_byte d ≡ true → list_all is_byte (a ∷ b ∷ c ∷ d ∷ []) ≡ true
    four a b c d isa isb isc isd = ap (λ t. t && list_all is_byte (b ∷ c ∷ d ∷ [])) isa ∙ ap (λ t. t && list_all is_byte (c ∷ d ∷ [])) isb ∙ ap (λ t. t && list_all is_byte (d ∷ [])) isc ∙ ap (λ t. t && true) isd

pub front-plain : (u rest : List ℕ) → IsPlain u → front (to_be_bytes w32 (length u) ++ (u ++ rest)) ≡ Whole u rest
front-plain u rest plain =
    let n : ℕ = length u in
    let number : (if list_all is_byte (to_be_bytes w32 n) then from_be_bytes w32 (to_be_bytes w32 n) else 2 ^ 32) ≡ n =
    ap (λ b. if b then from_be_bytes w32 (to_be_bytes w32 n) else 2 ^ 32) (length-bytes n)
    ∙ from_be_bytes-to_be_bytes_4 n (let most = plain.most in omega (arith, most)) in
    let long : nat_lt (length (to_be_bytes w32 n ++ (u ++ rest))) 4 ≡ false = le-ltb _ 4 (omega arith) in
    let enough : nat_lt (length (u ++ rest)) n ≡ false = le-ltb (length (u ++ rest)) n (omega (arith, length-append u rest)) in
    ap (λ c. cond c Open (length_front (spelled (to_be_bytes w32 n ++ (u ++ rest))) (u ++ rest))) long
    ∙ ap (λ m. length_front m (u ++ rest)) number
    ∙ ap (λ o. elim o as (λ _. Front) [ Some rule ↦ Broken rule | None ↦ body_front n (u ++ rest) ]) (plain-length n plain.head plain.most)
    ∙ ap (λ c. cond c Open (unit_front (take n (u ++ rest)) (drop n (u ++ rest)))) enough
    ∙ ap (λ v. unit_front v (drop n (u ++ rest))) (take-append_seam u rest)
    ∙ ap (λ v. unit_front u v) (drop-append_seam u rest)
    ∙ ap (λ o. elim o as (λ _. Front) [ Some rule ↦ Broken rule | None ↦ Whole u rest ]) (plain-bytes u plain)

-- a string with fewer than four bytes, or no more than them
pub front-short : (s : List ℕ) → length s < 4 → front s ≡ Open
front-short s few = ap (λ c. cond c Open (length_front (spelled s) (drop 4 s))) (lt-ltb (length s) 4 few)

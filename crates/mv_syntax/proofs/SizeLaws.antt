-- How many bits a table prints at most for a valid value.
use Rattle.std.proofs.Common.{◌≡◌, ℕ, suc, ◌+◌, ◌-◌, ◌*◌, ◌%◌, ◌^◌, ◌<◌, ◌≤◌, Bool, true, false, List, [], ◌∷◌, ◌++◌, length, replicate, Option, Some, None, ap, arith, length-append}
use Rattle.std.proofs.lemmas.List.{length-replicate}
use Prim.Native.String.{String}
use Rattle.mv_syntax.specs.Bits.{u_bits, ue_zeros, ue_bits, se_code, se_bits, trailing_bits, align_bits}
use Rattle.mv_syntax.specs.Table.{Table, u, ue, se, named, refused, ◌>>=◌, when, repeat, by_rule, shaped, Valid, EachValid, in_turn, bits_of}
use Rattle.mv_syntax.specs.Words.{whole_bytes}
use Rattle.mv_syntax.specs.Loops.{items, items_after, columns, each}
use Rattle.mv_syntax.proofs.BitLaws.{length-u_bits, ue_zeros-range}

pub record AtMost {A : Type 0} (t : Table A) (n : ℕ) : Type 0 where
  pub bits : (v : A) → Valid t v → length (bits_of t v) ≤ n

pub most_more : {A : Type 0} (t : Table A) (m n : ℕ) → m ≤ n → AtMost t m → AtMost t n
most_more t m n le h = record { bits = λ v k. let here = h.bits v k in omega arith }

pub most_u : (n : ℕ) → AtMost (u n) n
most_u n = record { bits = λ v h. omega (arith, length-u_bits n v) }

ue_length : (v : ℕ) → v < 2 ^ 32 - 1 → length (ue_bits v) ≤ 63
unfolding ue_bits
ue_length v h =
    let few : ue_zeros v ≤ 31 = (ue_zeros-range v h).2 in
    omega (
      arith,
      few,
      length-append (replicate (ue_zeros v) false) (true ∷ u_bits (ue_zeros v) (v + 1 - 2 ^ ue_zeros v)),
      length-replicate (ue_zeros v) false,
      length-u_bits (ue_zeros v) (v + 1 - 2 ^ ue_zeros v),
    )

pub most_ue : AtMost ue 63
most_ue = record { bits = ue_length }

pub most_se : AtMost se 63
unfolding se_bits
most_se = record { bits = λ v h. ue_length (se_code v) h }

pub most_named : {A : Type 0} (name : String) (t : Table A) (n : ℕ) → AtMost t n → AtMost (named name t) n
most_named name t n h = record { bits = h.bits }

pub most_refused : {A : Type 0} (r : ℕ) (bad : A → Bool) (t : Table A) (n : ℕ) → AtMost t n → AtMost (refused r bad t) n
most_refused r bad t n h = record { bits = λ v k. h.bits v k.0 }

pub most_by_rule : {A : Type 0} (r : ℕ) (t : Table A) (n : ℕ) → AtMost t n → AtMost (by_rule r t) n
most_by_rule r t n h = record { bits = h.bits }

pub most_then : {A B : Type 0} (t : Table A) (f : A → Table B) (m n : ℕ) → AtMost t m → ((v : A) → Valid t v → AtMost (f v) n) → AtMost (t >>= f) (m + n)
most_then t f m n h k =
    record {
      bits = λ v valid.
          let first = h.bits v.0 valid.0 in
          let second = (k v.0 valid.0).bits v.1 valid.1 in
          omega (arith, length-append (bits_of t v.0) (bits_of (f v.0) v.1));
    }

when_bits : {A : Type 0} (c : Bool) (t : Table A) (n : ℕ) → AtMost t n → (o : Option A) → Valid (when c t) o → length (bits_of (when c t) o) ≤ n
when_bits c t n h (Some v) valid = h.bits v valid.1
when_bits c t n h None valid = omega arith

pub most_when : {A : Type 0} (c : Bool) (t : Table A) (n : ℕ) → AtMost t n → AtMost (when c t) n
most_when c t n h = record { bits = when_bits c t n h }

pub most_shaped : {A B : Type 0} (to : A → B) (from : B → A) (same : (x : A) → from (to x) ≡ x) (t : Table A) (n : ℕ) → AtMost t n → AtMost (shaped to from same t) n
most_shaped to from same t n h = record { bits = λ v valid. h.bits (from v) valid.0 }

turns_bits : {A : Type 0} (t : List A → Table A) (m : ℕ) → ((before : List A) → AtMost (t before) m) → (before vs : List A)
    → EachValid (λ so_far v. Valid (t so_far) v) before vs → length (in_turn (λ so_far v. bits_of (t so_far) v) before vs) ≤ length vs * m
turns_bits t m h before [] valid = omega arith
turns_bits t m h before (v ∷ vs) valid =
    let first = (h before).bits v valid.0 in
    let rest = turns_bits t m h (before ++ v ∷ []) vs valid.1 in
    let more : suc (length vs) * m ≡ length vs * m + m = one_more (length vs) m in
    omega (arith, length-append (bits_of (t before) v) (in_turn (λ so_far w. bits_of (t so_far) w) (before ++ v ∷ []) vs))
  where
    one_more : (k n : ℕ) → suc k * n ≡ k * n + n
    one_more k n = omega arith

pub most_repeat : {A : Type 0} (index : ℕ → ℕ) (n : ℕ) (t : List A → Table A) (m most : ℕ) → ((before : List A) → AtMost (t before) m) → n * m ≤ most → AtMost (repeat index n t) most
most_repeat index n t m most h le =
    record { bits = λ vs valid. let all = turns_bits t m h [] vs valid.1 in let count : length vs * m ≡ n * m = ap (λ k. k * m) valid.0 in omega arith }

pub most_items : {A : Type 0} (first n : ℕ) (t : ℕ → Table A) (m most : ℕ) → ((i : ℕ) → AtMost (t i) m) → n * m ≤ most → AtMost (items first n t) most
unfolding items
most_items first n t m most h le = most_repeat (λ turn. first + turn) n (λ before. t (first + length before)) m most (λ before. h (first + length before)) le

pub most_items_after : {A : Type 0} (first n : ℕ) (t : ℕ → List A → Table A) (m most : ℕ) → ((i : ℕ) (before : List A) → AtMost (t i before) m) → n * m ≤ most
    → AtMost (items_after first n t) most
unfolding items_after
most_items_after first n t m most h le =
    most_repeat (λ turn. first + turn) n (λ before. t (first + length before) before) m most (λ before. h (first + length before) before) le

pub most_columns : {A B : Type 0} (first n : ℕ) (t : ℕ → Table (A × B)) (m most : ℕ) → ((i : ℕ) → AtMost (t i) m) → n * m ≤ most → AtMost (columns first n t) most
unfolding columns
most_columns first n t m most h le =
    most_shaped _ _ _ (repeat (λ turn. first + turn) n (λ before. t (first + length before))) most
    (most_repeat (λ turn. first + turn) n (λ before. t (first + length before)) m most (λ before. h (first + length before)) le)

-- the same field in each turn
pub most_each : {A : Type 0} (t : Table A) (n : ℕ) → AtMost t n → (i : ℕ) → AtMost (each t i) n
unfolding each
most_each t n h i = h

closing_bits : (place : ℕ) → length (trailing_bits place) ≤ 8
unfolding trailing_bits align_bits
closing_bits place = omega (arith, length-replicate ((8 - (place + 1) % 8) % 8) false)

pub most_whole : {A : Type 0} (t : Table A) (n : ℕ) → AtMost t n → AtMost (whole_bytes t) (n + 8)
most_whole t n h =
    record {
      bits = λ v valid.
          let own = h.bits v valid in
          let end = closing_bits (length (bits_of t v)) in
          omega (arith, length-append (bits_of t v) (trailing_bits (length (bits_of t v))));
    }

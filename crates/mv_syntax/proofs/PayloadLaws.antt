-- The laws of whole payloads: the reader answers a value exactly where it reads, and a rule exactly where it cuts.
use Rattle.std.proofs.Common.{◌≡◌, ℕ, zero, suc, ◌+◌, ◌-◌, ◌≤◌, ◌<◌, Bool, true, false, List, [], ◌∷◌, ◌++◌, length, replicate, Option, Some, None, is_some, Result, Ok, Err, ◌⊎◌, if◌then◌else◌, nat_lt, refl, sym, ap, ◌∙◌, subst, inl, inr, append_assoc, ◌≢◌, arith, length-append}
use Rattle.mv_rules.specs.Rule.{rule_number}
use Rattle.mv_syntax.specs.Bits.{Fault, short, breaks, align_bits, trailing_bits, has_one, to_byte_end, more_data, take_bits, u_bits}
use Rattle.mv_syntax.specs.Bits as bits
use Rattle.mv_syntax.specs.Table.{Table, Valid, bits_of, Cut}
use Rattle.mv_syntax.specs.inner.Writer.{put}
use Rattle.mv_syntax.specs.inner.Reader.{read}
use Rattle.mv_syntax.specs.Ending.{tail_bits, end_bits}
use Rattle.mv_syntax.specs.inner.Ending.{before_last_one, take_tail, same_bits, read_end}
use Rattle.mv_syntax.specs.Payload.{size_limit, Payload, payload_bits, ReadsPayload, CutPayload, PayloadExactlyOne, PayloadRoundTrips}
use Rattle.mv_syntax.specs.inner.PayloadReader.{read_payload}
use Rattle.mv_syntax.proofs.TableLaws.{behind-count, ok_value, bind-ok, bind-err, read-ok, reads-read, read-cut, cut-read, put-nil, ok_err, err_fault, breaks-same, short-breaks, Answered, one_of_three}

-- ---- the last set bit
pub zeros-no_one : (n : ℕ) → has_one (replicate n false) ≡ false
unfolding has_one
zeros-no_one zero = refl
zeros-no_one (suc n) = zeros-no_one n

pub one-has_one : (tail zeros : List Bool) → has_one (tail ++ true ∷ zeros) ≡ true
unfolding has_one
one-has_one [] zeros = refl
one-has_one (true ∷ tail) zeros = refl
one-has_one (false ∷ tail) zeros = one-has_one tail zeros

-- the bits before trailing bits are found
pub before_last_one-there : (tail : List Bool) (place : ℕ) → before_last_one (tail ++ trailing_bits place) ≡ Ok tail
unfolding before_last_one trailing_bits align_bits
before_last_one-there [] place = rw (zeros-no_one (to_byte_end (place + 1))) refl
before_last_one-there (x ∷ tail) place =
    rw (one-has_one tail (replicate (to_byte_end (place + 1)) false), before_last_one-there tail place) refl

pub before_last_one-failed : (b : List Bool) (fault : Fault) → before_last_one b ≡ Err fault → fault ≡ short
unfolding before_last_one
before_last_one-failed [] fault e = cc
before_last_one-failed (x ∷ b) fault e = go (has_one b) x (before_last_one b) e (before_last_one-failed b fault)
  where
    go :
        (some y : Bool) (tail : Result (List Bool) Fault)
        → Path (Result (List Bool) Fault) (if some then bits.◌>>=◌ tail (λ l. Ok (x ∷ l)) else (if y then Ok [] else Err short)) (Err fault)
        → (tail ≡ Err fault → fault ≡ short) → fault ≡ short
    go true y (Ok l) h later = cc
    go true y (Err other) h later = later h
    go false true tail h later = cc
    go false false tail h later = cc

pub same_bits-same : (b : List Bool) → same_bits b b ≡ true
same_bits-same [] = refl
same_bits-same (true ∷ b) = same_bits-same b
same_bits-same (false ∷ b) = same_bits-same b

pub same_bits-are : (b c : List Bool) → same_bits b c ≡ true → b ≡ c
same_bits-are [] [] e = refl
same_bits-are [] (y ∷ c) e = cc
same_bits-are (x ∷ b) [] e = cc
same_bits-are (true ∷ b) (true ∷ c) e = ap (λ l. true ∷ l) (same_bits-are b c e)
same_bits-are (true ∷ b) (false ∷ c) e = cc
same_bits-are (false ∷ b) (true ∷ c) e = cc
same_bits-are (false ∷ b) (false ∷ c) e = ap (λ l. false ∷ l) (same_bits-are b c e)

-- ---- the end of a payload
pub take_tail-there : (tail : Option (List Bool)) (place : ℕ) → take_tail (is_some tail) (tail_bits tail ++ trailing_bits place) ≡ Ok tail
unfolding take_tail
take_tail-there None place = refl
take_tail-there (Some tail) place = rw (before_last_one-there tail place) refl

pub take_tail-where : (c : Bool) (b : List Bool) (tail : Option (List Bool)) → take_tail c b ≡ Ok tail → is_some tail ≡ c
unfolding take_tail
take_tail-where false b tail e = ap is_some (sym (ok_value None tail e))
take_tail-where true b tail e =
    let (l, there, same) = bind-ok (before_last_one b) (λ l. Ok (Some l)) tail e in ap is_some (sym (ok_value (Some l) tail same))

pub take_tail-failed : (c : Bool) (b : List Bool) (fault : Fault) → take_tail c b ≡ Err fault → fault ≡ short
unfolding take_tail
take_tail-failed false b fault e = cc
take_tail-failed true b fault e = go (bind-err (before_last_one b) (λ l. Ok (Some l)) fault e)
  where
    go : (before_last_one b ≡ Err fault) ⊎ ((l : List Bool) × (before_last_one b ≡ Ok l) × (Path (Result (Option (List Bool)) Fault) (Ok (Some l)) (Err fault))) → fault ≡ short
    go (inl h) = before_last_one-failed b fault h
    go (inr (l, there, never)) = cc

-- a tail and its trailing bits are read, and what is read stood there
pub read_end-there : (place : ℕ) (tail : Option (List Bool)) → read_end (is_some tail) place (tail_bits tail ++ trailing_bits (place + length (tail_bits tail))) ≡ Ok tail
unfolding read_end
read_end-there place tail =
    let whole : List Bool = tail_bits tail ++ trailing_bits (place + length (tail_bits tail)) in
    rw (take_tail-there tail (place + length (tail_bits tail)), same_bits-same whole) refl

-- a test that passed
pub tested : {A : Type 0} (c : Bool) (x y : A) → Path (Result A Fault) (if c then Ok x else Err short) (Ok y) → (c ≡ true) × (x ≡ y)
tested true x y e = (refl, ok_value x y e)
tested false x y e = cc

pub untested : {A : Type 0} (c : Bool) (x : A) (fault : Fault) → Path (Result A Fault) (if c then Ok x else Err short) (Err fault) → fault ≡ short
untested true x fault e = cc
untested false x fault e = cc

-- what is read stood there
pub read_end-stood : (c : Bool) (place : ℕ) (b : List Bool) (tail : Option (List Bool)) → read_end c place b ≡ Ok tail → (is_some tail ≡ c) × (b ≡ end_bits place tail)
unfolding read_end
read_end-stood c place b tail e =
    let (found, there, same) = bind-ok (take_tail c b) (λ o. if same_bits b (end_bits place o) then Ok o else Err short) tail e in
    let (equal, is) = tested (same_bits b (end_bits place found)) found tail same in
    let P : Option (List Bool) → Type 0 = λ o. (is_some o ≡ c) × (b ≡ end_bits place o) in
    subst P is (take_tail-where c b found there, same_bits-are b (end_bits place found) equal)

pub read_end-failed : (c : Bool) (place : ℕ) (b : List Bool) (fault : Fault) → read_end c place b ≡ Err fault → fault ≡ short
unfolding read_end
read_end-failed c place b fault e = go (bind-err (take_tail c b) (λ o. if same_bits b (end_bits place o) then Ok o else Err short) fault e)
  where
    go :
        (take_tail c b ≡ Err fault) ⊎ ((o : Option (List Bool)) × (take_tail c b ≡ Ok o) × (Path (Result (Option (List Bool)) Fault) (if same_bits b (end_bits place o) then Ok o else Err short) (Err fault)))
        → fault ≡ short
    go (inl h) = take_tail-failed c b fault h
    go (inr (o, there, h)) = untested (same_bits b (end_bits place o)) o fault h

-- ---- whole payloads
pub lt-is : (m n : ℕ) → m < n → nat_lt m n ≡ true
lt-is m n h = grind arith

pub le-is : (m n : ℕ) → n ≤ m → nat_lt m n ≡ false
le-is m n h = grind arith

pub is-lt : (m n : ℕ) → nat_lt m n ≡ true → m < n
is-lt m n h = grind arith

pub is-le : (m n : ℕ) → nat_lt m n ≡ false → n ≤ m
is-le m n h = grind arith

pub read_payload-reads : {A : Type 0} (p : Payload A) (b : List Bool) (v : A × Option (List Bool)) → ReadsPayload p b v → read_payload p b ≡ Ok v
unfolding read_payload
read_payload-reads p b v h =
    let own : List Bool = bits_of p.fields v.0 in
    let last : List Bool = end_bits (length own) v.1 in
    let there : b ≡ own ++ last = h.bits in
    let size : nat_lt size_limit (length b) ≡ false = le-is size_limit (length b) (subst (λ c. length c ≤ size_limit) (sym h.bits) h.valid.size) in
    let read_fields : read p.fields b ≡ Ok (v.0, last) = ap (read p.fields) there ∙ read-ok p.fields v.0 last h.valid.fields in
    let count : length b - length last ≡ length own = ap (λ c. length c - length last) there ∙ behind-count own last in
    rw (size, read_fields, count, ← h.valid.tail, read_end-there (length own) v.1) refl

pub reads-read_payload : {A : Type 0} (p : Payload A) (b : List Bool) (v : A × Option (List Bool)) → read_payload p b ≡ Ok v → ReadsPayload p b v
unfolding read_payload
reads-read_payload {A} p b v e = go (nat_lt size_limit (length b)) refl e
  where
    go : (c : Bool) → nat_lt size_limit (length b) ≡ c
        → Path (Result (A × Option (List Bool)) Fault) (if c then Err (breaks (rule_number p.size_rule)) else bits.◌>>=◌ (read p.fields b) (λ x. bits.◌>>=◌ (read_end (p.has_tail x.0) (length b - length x.1) x.1) (λ tail. Ok (x.0, tail)))) (Ok v)
        → ReadsPayload p b v
    go true size h = cc
    go false size h =
        let (x, first, second) = bind-ok (read p.fields b) (λ x. bits.◌>>=◌ (read_end (p.has_tail x.0) (length b - length x.1) x.1) (λ tail. Ok (x.0, tail))) v h in
        let (tail, there, last) = bind-ok (read_end (p.has_tail x.0) (length b - length x.1) x.1) (λ o. Ok (x.0, o)) v second in
        let fields : Valid p.fields x.0 × (b ≡ bits_of p.fields x.0 ++ x.1) = reads-read p.fields b x.0 x.1 first in
        let own : List Bool = bits_of p.fields x.0 in
        let count : length b - length x.1 ≡ length own = ap (λ c. length c - length x.1) fields.1 ∙ behind-count own x.1 in
        let stood : (is_some tail ≡ p.has_tail x.0) × (x.1 ≡ end_bits (length own) tail) =
        read_end-stood (p.has_tail x.0) (length own) x.1 tail (sym (ap (λ n. read_end (p.has_tail x.0) n x.1) count) ∙ there) in
        let printed : b ≡ payload_bits p (x.0, tail) = fields.1 ∙ ap (λ c. own ++ c) stood.1 in
        let P : A × Option (List Bool) → Type 0 = ReadsPayload p b in
        subst P (ok_value (x.0, tail) v last)
        (record {
          valid = record { fields = fields.0; tail = stood.0; size = subst (λ c. length c ≤ size_limit) printed (is-le size_limit (length b) size) };
          bits = printed;
        })

pub read_payload-cut : {A : Type 0} (p : Payload A) (b : List Bool) (r : ℕ) → CutPayload p b r → read_payload p b ≡ Err (breaks r)
unfolding read_payload
read_payload-cut p b r (inl (size, same)) = rw (lt-is size_limit (length b) size, same) refl
read_payload-cut p b r (inr (size, h)) = rw (le-is size_limit (length b) size, read-cut p.fields b r h) refl

pub cut-read_payload : {A : Type 0} (p : Payload A) (b : List Bool) (r : ℕ) → read_payload p b ≡ Err (breaks r) → CutPayload p b r
unfolding read_payload
cut-read_payload {A} p b r e = go (nat_lt size_limit (length b)) refl e
  where
    after : (x : A × List Bool) → Path (Result (A × Option (List Bool)) Fault) (bits.◌>>=◌ (read_end (p.has_tail x.0) (length b - length x.1) x.1) (λ tail. Ok (x.0, tail))) (Err (breaks r)) → ⊥
    after x h = elim (bind-err (read_end (p.has_tail x.0) (length b - length x.1) x.1) (λ o. Ok (x.0, o)) (breaks r) h) as (λ _. ⊥) [
      | inl failed ↦ short-breaks r (read_end-failed (p.has_tail x.0) (length b - length x.1) x.1 (breaks r) failed)
      | inr found ↦ ok_err (x.0, found.0) (breaks r) found.2
    ]

    fields : (read p.fields b ≡ Err (breaks r)) ⊎ ((x : A × List Bool) × (read p.fields b ≡ Ok x) × (Path (Result (A × Option (List Bool)) Fault) (bits.◌>>=◌ (read_end (p.has_tail x.0) (length b - length x.1) x.1) (λ tail. Ok (x.0, tail))) (Err (breaks r))))
        → Cut p.fields b r
    fields (inl h) = cut-read p.fields b r h
    fields (inr (x, first, h)) = absurd (after x h)

    go : (c : Bool) → nat_lt size_limit (length b) ≡ c
        → Path (Result (A × Option (List Bool)) Fault) (if c then Err (breaks (rule_number p.size_rule)) else bits.◌>>=◌ (read p.fields b) (λ x. bits.◌>>=◌ (read_end (p.has_tail x.0) (length b - length x.1) x.1) (λ tail. Ok (x.0, tail)))) (Err (breaks r))
        → CutPayload p b r
    go true size h = inl (is-lt size_limit (length b) size, sym (breaks-same (rule_number p.size_rule) r (err_fault (breaks (rule_number p.size_rule)) (breaks r) h)))
    go false size h =
        inr (
          is-le size_limit (length b) size,
          fields (bind-err (read p.fields b) (λ x. bits.◌>>=◌ (read_end (p.has_tail x.0) (length b - length x.1) x.1) (λ tail. Ok (x.0, tail))) (breaks r) h),
        )

pub payload_answered : {A : Type 0} (p : Payload A) (b : List Bool) → Answered (read_payload p b) (ReadsPayload p b) (CutPayload p b)
payload_answered p b = record {
  value = λ v h. read_payload-reads p b v h;
  is_value = λ v e. reads-read_payload p b v e;
  rule = λ r h. read_payload-cut p b r h;
  is_rule = λ r e. cut-read_payload p b r e;
}

pub payload_exactly_one : {A : Type 0} (p : Payload A) (b : List Bool) → PayloadExactlyOne p b
payload_exactly_one p b = one_of_three (read_payload p b) (ReadsPayload p b) (CutPayload p b) (payload_answered p b)

pub payload_round_trips : {A : Type 0} (p : Payload A) → PayloadRoundTrips p
payload_round_trips p = record {
  written_reads = λ v h. record { valid = h; bits = refl };
  reads_alone = λ v w h k. (payload_exactly_one p (payload_bits p v)).one_value w v k (record { valid = h; bits = refl });
  not_cut = λ v r h cut. (payload_exactly_one p (payload_bits p v)).not_both v r (record { valid = h; bits = refl }) cut;
  read_writes = λ b v h. (h.valid, h.bits);
}

-- ---- the end of a payload, by what stands there
pub end_there : (c : Bool) (place : ℕ) (b : List Bool) (tail : Option (List Bool)) → is_some tail ≡ c → b ≡ end_bits place tail → read_end c place b ≡ Ok tail
end_there c place b tail some e = rw (← some, e) (read_end-there place tail)

pub end_missing : (c : Bool) (place : ℕ) (b : List Bool) → ((tail : Option (List Bool)) → is_some tail ≡ c → b ≢ end_bits place tail) → read_end c place b ≡ Err short
end_missing c place b none = go (read_end c place b) refl
  where
    go : (r : Result (Option (List Bool)) Fault) → read_end c place b ≡ r → r ≡ Err short
    go (Ok tail) e = let stood = read_end-stood c place b tail e in absurd (none tail stood.0 stood.1)
    go (Err fault) e = ap (λ f. Err f) (read_end-failed c place b fault e)

-- the tail's bits behind those written, and the trailing bits behind them
pub end-written : (out : List Bool) (tail : Option (List Bool)) → (out ++ tail_bits tail) ++ trailing_bits (length (out ++ tail_bits tail)) ≡ out ++ end_bits (length out) tail
end-written out tail =
    let bits : List Bool = tail_bits tail in
    append_assoc out bits (trailing_bits (length (out ++ bits))) ∙ ap (λ n. out ++ (bits ++ trailing_bits n)) (length-append out bits)

-- ---- how far a reading moves
-- what is left behind a value is not longer
pub rest_shorter : {A : Type 0} (t : Table A) (b : List Bool) (v : A) (rest : List Bool) → read t b ≡ Ok (v, rest) → length rest ≤ length b
rest_shorter t b v rest e =
    let bits : b ≡ bits_of t v ++ rest = (reads-read t b v rest e).1 in
    subst (λ c. length rest ≤ length c) (sym bits) (rw (length-append (bits_of t v) rest) (omega arith))

-- ---- a payload in the order in which a call reads and writes it
pub payload_over : {A : Type 0} (p : Payload A) (b : List Bool) → size_limit < length b → read_payload p b ≡ Err (breaks (rule_number p.size_rule))
unfolding read_payload
payload_over p b h = rw (lt-is size_limit (length b) h) refl

pub payload_fault : {A : Type 0} (p : Payload A) (b : List Bool) (fault : Fault) → length b ≤ size_limit → read p.fields b ≡ Err fault → read_payload p b ≡ Err fault
unfolding read_payload
payload_fault p b fault h e = rw (le-is size_limit (length b) h, e) refl

pub payload_end : {A : Type 0} (p : Payload A) (b : List Bool) (v : A) (rest : List Bool) (tail : Option (List Bool))
    → length b ≤ size_limit → read p.fields b ≡ Ok (v, rest) → read_end (p.has_tail v) (length b - length rest) rest ≡ Ok tail → read_payload p b ≡ Ok (v, tail)
unfolding read_payload
payload_end p b v rest tail h e end = rw (le-is size_limit (length b) h, e, end) refl

pub payload_end_fault : {A : Type 0} (p : Payload A) (b : List Bool) (v : A) (rest : List Bool) (fault : Fault)
    → length b ≤ size_limit → read p.fields b ≡ Ok (v, rest) → read_end (p.has_tail v) (length b - length rest) rest ≡ Err fault → read_payload p b ≡ Err fault
unfolding read_payload
payload_end_fault p b v rest fault h e end = rw (le-is size_limit (length b) h, e, end) refl

-- the fields are put, and the end of the payload stands behind them
pub payload_put : {A : Type 0} (p : Payload A) (v : A × Option (List Bool)) → payload_bits p v ≡ put p.fields v.0 [] ++ end_bits (length (put p.fields v.0 [])) v.1
payload_put p v = rw (put-nil p.fields v.0) refl

-- the lemmas for a call that reads a whole payload
pub ruleset payload_steps = (payload_over, payload_fault, payload_end, payload_end_fault)

-- Headers read from the first bytes of a unit, and from its whole.
use Rattle.std.proofs.Common.{◌≡◌, ℕ, zero, suc, ◌+◌, ◌/◌, ◌%◌, nat_eq, Bool, true, false, ◌==◌, ◌&&◌, List, [], ◌∷◌, ◌++◌, take, if◌then◌else◌, None, Result, Ok, Err, refl, sym, ap, ◌∙◌, subst, inl, inr, append_assoc, length, length-append, arith}
use Rattle.std.proofs.lemmas.Bool.{true≢false}
use Rattle.mv_rules.specs.Rule.{rule_number}
use Rattle.mv_rules.specs.declared.rule.Rule.{Rule}
use Rattle.mv_rules.specs.declared.refusal.ReadFault.{ReadFault}
use Rattle.mv_rules.specs.declared.refusal.ReadFault.TheVariants.{Refused, Memory as out_of_memory}
use Rattle.mv_syntax.specs.Bits.{Fault, breaks, byte_bits, short, trailing_bits, u_bits}
use Rattle.mv_syntax.specs.Table.{Cut, Reads, Table, bits_of}
use Rattle.mv_syntax.specs.Laws.{ReadsAt}
use Rattle.mv_syntax.specs.inner.Reader.{read}
use Rattle.mv_syntax.proofs.BitLaws.{length-trailing_bits}
use Rattle.mv_syntax.proofs.TableLaws.{cut-more, neither-short, read-cut, read-reads, reads-more, table_answered}
use Rattle.mv_units.specs.declared.head.UnitHead.{UnitHead}
use Rattle.mv_units.specs.Escapes.{both_zero, payload, unescaped}
use Rattle.mv_slice.specs.Context.{SliceContextValue}
use Rattle.mv_slice.specs.Header.{BeginsWith, ReadsStart}
use Rattle.mv_slice.specs.Slice.{slice_fields, slice_header}
use Rattle.mv_slice.specs.declared.header.SliceRead.{SliceRead}
use Rattle.mv_slice.specs.declared.slice.SliceHead.{SliceHead}
use Rattle.mv_contexts.specs.Units.{header_in, IsWhy}
use Rattle.mv_contexts.proofs.HeaderRules.{header-only, is_slice_number}
use Rattle.mv_contexts.proofs.RuleNumbers.{Which, which}

-- ---- the payload of the first bytes of a unit begins that of the unit
unescaped-begins : (a b n : ℕ) (s : List ℕ) → (more : List ℕ) × (unescaped a b s ≡ unescaped a b (take n s) ++ more)
unfolding unescaped
unescaped-begins a b zero s = (unescaped a b s, refl)
unescaped-begins a b (suc n) [] = ([], refl)
unescaped-begins a b (suc n) (c ∷ s) = go (both_zero a b && (c == 3)) (unescaped-begins b c n s)
  where
    go : (t : Bool) → (more : List ℕ) × (unescaped b c s ≡ unescaped b c (take n s) ++ more)
        → (more : List ℕ) × ((if t then unescaped b c s else c ∷ unescaped b c s) ≡ (if t then unescaped b c (take n s) else c ∷ unescaped b c (take n s)) ++ more)
    go true h = h
    go false h = (h.0, ap (λ l. c ∷ l) h.1)

payload-begins : (n : ℕ) (u : List ℕ) → (more : List ℕ) × (payload u ≡ payload (take n u) ++ more)
unfolding payload
payload-begins zero u = (payload u, refl)
payload-begins (suc n) [] = ([], refl)
payload-begins (suc zero) (a ∷ s) = (payload (a ∷ s), refl)
payload-begins (suc (suc n)) (a ∷ []) = ([], refl)
payload-begins (suc (suc n)) (a ∷ b ∷ s) = unescaped-begins a b n s

byte_bits-append : (xs ys : List ℕ) → byte_bits (xs ++ ys) ≡ byte_bits xs ++ byte_bits ys
unfolding byte_bits
byte_bits-append [] ys = refl
byte_bits-append (x ∷ xs) ys = ap (λ l. u_bits 8 x ++ l) (byte_bits-append xs ys) ∙ sym (append_assoc (u_bits 8 x) (byte_bits xs) (byte_bits ys))

bits-begin : (n : ℕ) (u : List ℕ) → (more : List Bool) × (byte_bits (payload u) ≡ byte_bits (payload (take n u)) ++ more)
bits-begin n u =
    let m = payload-begins n u in
    (byte_bits m.0, ap byte_bits m.1 ∙ byte_bits-append (payload (take n u)) m.0)

-- so what reads there, or is cut, is so in the whole
pub reads-there : {A : Type 0} (t : Table A) (n : ℕ) (u : List ℕ) (v : A) (rest : List Bool) → Reads t (byte_bits (payload (take n u))) v rest
    → (more : List Bool) × Reads t (byte_bits (payload u)) v more
reads-there t n u v rest h =
    let m = bits-begin n u in
    (rest ++ m.0, subst (λ b. Reads t b v (rest ++ m.0)) (sym m.1) (reads-more t (byte_bits (payload (take n u))) v rest m.0 h))

cut-there : {A : Type 0} (t : Table A) (n : ℕ) (u : List ℕ) (r : ℕ) → Cut t (byte_bits (payload (take n u))) r → Cut t (byte_bits (payload u)) r
cut-there t n u r h =
    let m = bits-begin n u in
    subst (λ b. Cut t b r) (sym m.1) (cut-more t (byte_bits (payload (take n u))) r m.0 h)

-- ---- the header of a unit
header-of-read : (ctx : SliceContextValue) (h : UnitHead) (u : List ℕ) (v : SliceHead) (rest : List Bool) → Reads (slice_header ctx h.kind) (byte_bits (payload u)) v rest → header_in ctx h u ≡ Ok v
header-of-read ctx h u v rest there =
    ap (λ (r : Result (SliceHead × List Bool) Fault). elim r [ Ok x ↦ Ok x.0 | Err fault ↦ Err fault ]) (read-reads (slice_header ctx h.kind) (byte_bits (payload u)) v rest there)

header-of-fault : (ctx : SliceContextValue) (h : UnitHead) (u : List ℕ) (fault : Fault) → read (slice_header ctx h.kind) (byte_bits (payload u)) ≡ Err fault → header_in ctx h u ≡ Err fault
header-of-fault ctx h u fault e = ap (λ (r : Result (SliceHead × List Bool) Fault). elim r [ Ok x ↦ Ok x.0 | Err other ↦ Err other ]) e

pub header-there : (ctx : SliceContextValue) (h : UnitHead) (n : ℕ) (u : List ℕ) (s : SliceRead) → BeginsWith (slice_header ctx h.kind) (byte_bits (payload (take n u))) s → header_in ctx h u ≡ Ok s.head
header-there ctx h n u s there =
    let whole = reads-there (slice_header ctx h.kind) n u s.head there.0 there.1 in
    header-of-read ctx h u s.head whole.0 whole.1

pub header-here : (ctx : SliceContextValue) (h : UnitHead) (u : List ℕ) (s : SliceRead) → BeginsWith (slice_header ctx h.kind) (byte_bits (payload u)) s → header_in ctx h u ≡ Ok s.head
header-here ctx h u s there = header-of-read ctx h u s.head there.0 there.1

-- ---- why none is told
-- a header that reads has a whole number of bytes
bytes-of : (ctx : SliceContextValue) (kind : ℕ) (b : List Bool) (v : SliceHead) (rest : List Bool) → Reads (slice_header ctx kind) b v rest → (s : SliceRead) × BeginsWith (slice_header ctx kind) b s
unfolding slice_header
bytes-of ctx kind b v rest there =
    let own : List Bool = bits_of (slice_fields ctx kind) v in
    let close : (length own + length (trailing_bits (length own))) % 8 ≡ 0 = length-trailing_bits (length own) in
    let header : length (own ++ trailing_bits (length own)) ≡ length own + length (trailing_bits (length own)) = length-append own (trailing_bits (length own)) in
    let all : length b ≡ length (own ++ trailing_bits (length own)) + length rest = ap length there.bits ∙ length-append (own ++ trailing_bits (length own)) rest in
    let bytes : ℕ = (length own + length (trailing_bits (length own))) / 8 in
    (record { head = v; bytes = bytes }, (rest, there, omega (arith, close, header, all)))

short-there : (ctx : SliceContextValue) (kind : ℕ) (b : List Bool) → ¬ ((s : SliceRead) × BeginsWith (slice_header ctx kind) b s) → ¬ ((r : ℕ) × Cut (slice_header ctx kind) b r)
    → read (slice_header ctx kind) b ≡ Err short
short-there ctx kind b none uncut =
    neither-short (read (slice_header ctx kind) b) (ReadsAt (slice_header ctx kind) b) (Cut (slice_header ctx kind) b) (table_answered (slice_header ctx kind) b)
    (λ there. none (bytes-of ctx kind b there.0.0 there.0.1 there.1)) uncut

-- with the rule that cuts it
cut-why : (there : Result SliceHead Fault) (rule : Rule) → is_slice_number (rule_number rule) ≡ true → there ≡ Err (breaks (rule_number rule)) → IsWhy there (Refused rule)
cut-why there rule slice e = subst (λ r. IsWhy r (Refused rule)) (sym e) (go (which rule))
  where
    go : Which rule → IsWhy (Err (breaks (rule_number rule))) (Refused rule)
    go (inl is) = inl (is, ap (λ r. nat_eq (rule_number r) 52) is)
    go (inr (inl is)) = inr (is, ap (λ r. nat_eq (rule_number r) 53) is)
    go (inr (inr isnt)) = absurd (true≢false (sym slice ∙ isnt))

why-cut : (ctx : SliceContextValue) (h : UnitHead) (u : List ℕ) (rule : Rule) → Cut (slice_header ctx h.kind) (byte_bits (payload u)) (rule_number rule) → IsWhy (header_in ctx h u) (Refused rule)
why-cut ctx h u rule cut =
    cut-why (header_in ctx h u) rule (header-only ctx h.kind (byte_bits (payload u)) (rule_number rule) cut)
    (header-of-fault ctx h u (breaks (rule_number rule)) (read-cut (slice_header ctx h.kind) (byte_bits (payload u)) (rule_number rule) cut))

why-short : (ctx : SliceContextValue) (h : UnitHead) (u : List ℕ)
    → ¬ ((s : SliceRead) × BeginsWith (slice_header ctx h.kind) (byte_bits (payload u)) s) × ¬ ((r : ℕ) × Cut (slice_header ctx h.kind) (byte_bits (payload u)) r)
    → IsWhy (header_in ctx h u) (Refused Rule.SliceSyntax)
why-short ctx h u neither =
    let e = header-of-fault ctx h u short (short-there ctx h.kind (byte_bits (payload u)) neither.0 neither.1) in
    subst (λ r. IsWhy r (Refused Rule.SliceSyntax)) (sym e) (inl (refl, refl))

-- ---- what is answered from the first bytes, and from all
pub why-there : (ctx : SliceContextValue) (h : UnitHead) (n : ℕ) (u : List ℕ) (fault : ReadFault) → ReadsStart (slice_header ctx h.kind) (byte_bits (payload (take n u))) (Err fault)
    → IsWhy (header_in ctx h u) fault
why-there ctx h n u (Refused rule) cut = why-cut ctx h u rule (cut-there (slice_header ctx h.kind) n u (rule_number rule) cut)
why-there ctx h n u out_of_memory free = tt

pub why-here : (ctx : SliceContextValue) (h : UnitHead) (u : List ℕ) (fault : ReadFault) → ReadsStart (slice_header ctx h.kind) (byte_bits (payload u)) (Err fault)
    → IsWhy (header_in ctx h u) fault
why-here ctx h u (Refused rule) cut = why-cut ctx h u rule cut
why-here ctx h u out_of_memory free = tt

pub why-none : (ctx : SliceContextValue) (h : UnitHead) (u : List ℕ) → ReadsStart (slice_header ctx h.kind) (byte_bits (payload u)) (Ok None) → IsWhy (header_in ctx h u) (Refused Rule.SliceSyntax)
why-none ctx h u neither = why-short ctx h u neither

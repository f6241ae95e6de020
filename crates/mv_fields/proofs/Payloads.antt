-- Whole payloads, from their bytes: the fields, and then the end.
use Rattle.std.proofs.Common.{◌≡◌, ℕ, ◌-◌, ◌*◌, ◌≤◌, ◌<◌, Bool, List, [], ◌++◌, length, Option, Some, None, Result, Ok, Err, refl, inl, inr, sym, ap, ◌∙◌, arith}
use Rattle.mv_syntax.specs.Bits.{Fault, short, breaks, byte_bits, trailing_bits}
use Rattle.mv_syntax.specs.Cursor.{Cursor, place}
use Rattle.mv_syntax.specs.Table.{Table, Reads, Cut}
use Rattle.mv_syntax.specs.inner.Writer.{put}
use Rattle.mv_syntax.specs.inner.Reader.{read}
use Rattle.mv_syntax.specs.Payload.{size_limit, Payload, ReadsPayload, CutPayload, payload_bits, payload_lines}
use Rattle.mv_syntax.specs.inner.PayloadReader.{read_payload}
use Rattle.mv_syntax.specs.inner.Ending.{read_end}
use Rattle.mv_syntax.specs.Lines.{text_of}
use Rattle.mv_syntax.specs.Printed.{Output, bits, lines, printed}
use Rattle.mv_syntax.specs.PrintedPayload.{printed_end}
use Rattle.mv_syntax.specs.inner.Filling.{FailsAs}
use Rattle.mv_syntax.proofs.BitLaws.{length-byte_bits}
use Rattle.mv_syntax.proofs.TableLaws.{Answered, short-neither}
use Rattle.mv_syntax.proofs.PayloadLaws.{payload_answered, payload_over, payload_fault, payload_end, payload_end_fault}
use Rattle.mv_syntax.proofs.PrintedLaws.{bits-same, printed-bits, printed_payload-bits, printed_payload-text}
use Rattle.mv_rules.specs.Rule.{rule_number}
use Rattle.mv_rules.specs.declared.rule.Rule.{Rule}
use Rattle.mv_fields.specs.declared.fault.Fault.{Fault as PartFault}
use Rattle.mv_fields.specs.declared.fault.Fault.TheVariants.{NoBits, Breaks, Memory}
use Rattle.mv_fields.specs.Faults.{means, refusal}
use Rattle.mv_fields.specs.Reading.{ReadsWhole}
use Rattle.mv_fields.specs.Output.{IsBits, IsText, text_in}

-- as many bits as its bytes have
pub in_bits : (payload : List ℕ) → length payload ≤ 65536 → length (byte_bits payload) ≤ size_limit
in_bits payload h = rw (length-byte_bits payload) (omega arith)

pub too_long : {A : Type 0} (p : Payload A) (payload : List ℕ) → 65536 < length payload → read_payload p (byte_bits payload) ≡ Err (breaks (rule_number p.size_rule))
too_long p payload h = payload_over p (byte_bits payload) (rw (length-byte_bits payload) (omega arith))

pub fields_fault : {A : Type 0} (p : Payload A) (payload : List ℕ) (start : Cursor) (fault : Option Fault) → length payload ≤ 65536
    → start.left ≡ byte_bits payload → FailsAs fault (read p.fields start.left) → FailsAs fault (read_payload p (byte_bits payload))
fields_fault p payload start None size all h = tt
fields_fault p payload start (Some fault) size all h =
    payload_fault p (byte_bits payload) fault (in_bits payload size) (ap (read p.fields) (sym all) ∙ h)

-- the reader behind the fields stands as far as bits were taken
pub place_behind : (payload : List ℕ) (start behind : Cursor) → start.total ≡ 8 * length payload → behind.total ≡ start.total
    → place behind ≡ length (byte_bits payload) - length behind.left
place_behind payload start behind whole same =
    ap (λ n. n - length behind.left) (same ∙ whole ∙ sym (length-byte_bits payload))

pub ends : {A : Type 0} (p : Payload A) (payload : List ℕ) (start behind : Cursor) (v : A) (tail : Option (List Bool)) (c : Bool) → c ≡ p.has_tail v → length payload ≤ 65536
    → start.total ≡ 8 * length payload → start.left ≡ byte_bits payload → read p.fields start.left ≡ Ok (v, behind.left) → behind.total ≡ start.total
    → read_end c (place behind) behind.left ≡ Ok tail → read_payload p (byte_bits payload) ≡ Ok (v, tail)
ends p payload start behind v tail c tailed size whole all e same end =
    payload_end p (byte_bits payload) v behind.left tail (in_bits payload size) (ap (read p.fields) (sym all) ∙ e)
    (sym (ap (λ n. read_end (p.has_tail v) n behind.left) (place_behind payload start behind whole same)) ∙ sym (ap (λ d. read_end d (place behind) behind.left) tailed) ∙ end)

pub ends_fault : {A : Type 0} (p : Payload A) (payload : List ℕ) (start behind : Cursor) (v : A) (fault : Option Fault) (c : Bool) → c ≡ p.has_tail v → length payload ≤ 65536
    → start.total ≡ 8 * length payload → start.left ≡ byte_bits payload → read p.fields start.left ≡ Ok (v, behind.left) → behind.total ≡ start.total
    → FailsAs fault (read_end c (place behind) behind.left) → FailsAs fault (read_payload p (byte_bits payload))
ends_fault p payload start behind v None c tailed size whole all e same end = tt
ends_fault p payload start behind v (Some fault) c tailed size whole all e same end =
    payload_end_fault p (byte_bits payload) v behind.left fault (in_bits payload size) (ap (read p.fields) (sym all) ∙ e)
    (sym (ap (λ n. read_end (p.has_tail v) n behind.left) (place_behind payload start behind whole same)) ∙ sym (ap (λ d. read_end d (place behind) behind.left) tailed) ∙ end)

-- ---- a fault is the refusal of a whole header
pub whole_refused : {X : Type 0} (answer : Result X Fault) (reads : X → Type 0) (cut : ℕ → Type 0) → Answered answer reads cut
    → (syntax : Rule) (fault : PartFault Rule) → FailsAs (means fault) answer → ReadsWhole reads cut syntax (Err (refusal syntax fault))
whole_refused answer reads cut h syntax NoBits e = inr (refl, short-neither answer reads cut h e)
whole_refused answer reads cut h syntax (Breaks rule) e = inl (h.is_rule (rule_number rule) e)
whole_refused answer reads cut h syntax Memory e = tt

pub payload_refused : {A : Type 0} (p : Payload A) (b : List Bool) (syntax : Rule) (fault : PartFault Rule) → FailsAs (means fault) (read_payload p b)
    → ReadsWhole (ReadsPayload p b) (CutPayload p b) syntax (Err (refusal syntax fault))
payload_refused p b syntax fault e = whole_refused (read_payload p b) (ReadsPayload p b) (CutPayload p b) (payload_answered p b) syntax fault e

-- ---- what is printed
-- bits that were printed from none on are those of the payload
pub written : {A : Type 0} (p : Payload A) (v : A × Option (List Bool)) (bytes : List Bool) (tail : Option (List Bool)) (start front whole : Output)
    → start ≡ bits [] → front ≡ printed p.fields v.0 start → tail ≡ v.1 → whole ≡ printed_end tail front → bits bytes ≡ whole → bytes ≡ payload_bits p v
written p v bytes tail start front whole none fields same end all =
    bits-same bytes (payload_bits p v) (all ∙ end ∙ rw (same, fields, none) (printed_payload-bits p v))

-- and they are bits
pub written_bits : {A : Type 0} (p : Payload A) (v : A × Option (List Bool)) (tail : Option (List Bool)) (start front whole : Output) → start ≡ bits [] → front ≡ printed p.fields v.0 start
    → tail ≡ v.1 → whole ≡ printed_end tail front → IsBits whole
written_bits p v tail start front whole none fields same end = rw (end, fields, none, printed-bits p.fields [] v.0 []) tt

-- lines that were printed behind a text are those of the payload
pub shown : {A : Type 0} (p : Payload A) (v : A × Option (List Bool)) (tail : Option (List Bool)) (start front whole : Output) → IsText start
    → front ≡ printed p.fields v.0 start → tail ≡ v.1 → whole ≡ printed_end tail front → whole ≡ lines (text_in start ++ text_of (payload_lines p v)) []
shown p v tail (bits b) front whole h fields same end = absurd h
shown p v tail (lines text around) front whole h fields same end =
    end ∙ rw (same, fields, h) (printed_payload-text p v text)

-- The units of an accepted byte stream are plain, so what is packed is unpacked again; and what is framed of plain
-- units is accepted.
use Rattle.std.proofs.Common.{◌≡◌, ℕ, ◌+◌, true, List, [], ◌∷◌, ◌++◌, length, None, All, refl, ap, sym, ◌∙◌, subst, append-nil, arith}
use Rattle.std.proofs.lemmas.List.{take_all}
use Rattle.std.proofs.lemmas.List.Elements.{All-nil, All-head, All-tail, All-cons}
use Rattle.mv_units.specs.Framing.{frame}
use Rattle.mv_units.specs.Rules.{has_emulation, longest_unit, unit_rule}
use Rattle.mv_units.specs.Shown.{refusal_shown}
use Rattle.mv_units.specs.Units.{NalUnit, units}
use Rattle.mv_units.proofs.Clean.{IsClean, each-bytes, ends-nonzero, lawful, shown-nothing, units-clean}
use Rattle.mv_units.proofs.Framed.{bytes_of, leading-frame}
use Rattle.mv_units.proofs.Refusals.{shown-clean}
use Rattle.mv_prefixed.specs.LenForm.{IsPlain, lenform}
use Rattle.mv_prefixed.specs.Reading.{Reading, len_refusal, len_units, placed_at, read}
use Rattle.mv_prefixed.proofs.Forms.{plain-clean, quiet-done, shown-done}
use Rattle.mv_prefixed.proofs.ReadLaws.{decomposed, read-form}
use Rattle.mv_prefixed.proofs.Spelling.{units-back}

plain : (u : NalUnit) → unit_rule u.bytes ≡ None → IsClean u → IsPlain u.bytes
plain u rules clean =
    let is = lawful u.bytes rules in
    record {
      head = is.head;
      most = is.most;
      quiet = ap has_emulation (sym (take_all longest_unit u.bytes is.most)) ∙ is.quiet;
      clean = clean.0;
      ends = ends-nonzero u.bytes (let head = is.head in omega arith) clean.1;
    }

pub accepted-plain : (s : List ℕ) → refusal_shown true s ≡ None → All IsPlain (bytes_of (units s))
accepted-plain s quiet = each-bytes IsPlain (units s) plain (shown-clean true s quiet) (units-clean s)

-- the bytes of units with their places
pub placed-bytes : (at : ℕ) (us : List (List ℕ)) → bytes_of (placed_at at us) ≡ us
unfolding placed_at
placed-bytes at [] = refl
placed-bytes at (u ∷ us) = ap (λ rest. u ∷ rest) (placed-bytes (at + 4 + length u) us)

-- a string is accepted exactly where it is the form of plain units
pub form-accepted : (us : List (List ℕ)) → All IsPlain us → len_refusal true (lenform us) ≡ None
form-accepted us all = shown-done true (lenform us) (ap (λ (r : Reading). r.rest) (read-form us all))

pub accepted-form : (s : List ℕ) → len_refusal true s ≡ None → s ≡ lenform (bytes_of (len_units s))
accepted-form s quiet =
    (decomposed s).parts ∙ ap (λ rest. lenform (read s).units ++ rest) (quiet-done s quiet) ∙ append-nil (lenform (read s).units)
    ∙ ap lenform (sym (placed-bytes 0 (read s).units))

pub form-units : (us : List (List ℕ)) → All IsPlain us → bytes_of (len_units (lenform us)) ≡ us
form-units us all = placed-bytes 0 (read (lenform us)).units ∙ ap (λ (r : Reading). r.units) (read-form us all)

pub read-plain : (s : List ℕ) → All IsPlain (bytes_of (len_units s))
read-plain s = subst (All IsPlain) (sym (placed-bytes 0 (read s).units)) (decomposed s).plain

-- units whose bytes are plain break no rule on their own bytes
all-lawful : (vs : List NalUnit) → All IsPlain (bytes_of vs) → All (λ (u : NalUnit). unit_rule u.bytes ≡ None) vs
all-lawful [] all = All-nil (λ (u : NalUnit). unit_rule u.bytes ≡ None)
all-lawful (v ∷ vs) all =
    All-cons (λ (u : NalUnit). unit_rule u.bytes ≡ None) v vs (plain-clean v.bytes (All-head IsPlain v.bytes (bytes_of vs) all)) (all-lawful vs (All-tail IsPlain v.bytes (bytes_of vs) all))

pub framed-accepted : (us : List (List ℕ)) → All IsPlain us → refusal_shown true (frame us) ≡ None
framed-accepted us all =
    shown-nothing (frame us) (leading-frame us) (all-lawful (units (frame us)) (subst (All IsPlain) (sym (units-back us all)) all))

-- What one unit more changes in what is carried, and that nobody objects.
use Rattle.std.proofs.Common.{◌≡◌, ℕ, List, [], ◌∷◌, ◌++◌, length, map, true, Some, Err, refl, ap, sym, subst, ◌∙◌, append_assoc, append-nil}
use Rattle.std.specs.Int.{to_be_bytes, w32}
use Rattle.std.proofs.lemmas.List.{map-append}
use Rattle.mv_units.specs.Units.{NalUnit}
use Rattle.mv_units.proofs.Framed.{frame-append}
use Rattle.mv_io.specs.Call.{Input, Output}
use Rattle.mv_judging.specs.declared.stop.Stop.{Stop}
use Rattle.mv_judging.specs.Event.{IsByRule, seen}
use Rattle.mv_judging.specs.Format.{Format, IsFormat}
use Rattle.mv_judging.proofs.Seen.{seen-why}
use Rattle.mv_prefixed.specs.LenForm.{lenform}
use Rattle.mv_extract.specs.declared.error.ExtractError.TheVariants.{NoSuchSet}
use Rattle.mv_extract.specs.Answers.{Answers}
use Rattle.mv_extract.proofs.Ended.{IsSound}
use Rattle.mv_extract.proofs.Settled.{decided-why}
use Rattle.mv_lenform.specs.declared.carrier.Target.{Target}
use Rattle.mv_lenform.specs.declared.carrier.Target.TheVariants.{Prefixed, Framed}
use Rattle.mv_lenform.specs.Carrying.{carrying, nobody, text, text_of}

-- one unit more
lenform-append : (us vs : List (List ℕ)) → lenform (us ++ vs) ≡ lenform us ++ lenform vs
unfolding lenform
lenform-append [] vs = refl
lenform-append (u ∷ us) vs =
    ap (λ rest. to_be_bytes w32 (length u) ++ (u ++ rest)) (lenform-append us vs)
    ∙ ap (λ rest. to_be_bytes w32 (length u) ++ rest) (sym (append_assoc u (lenform us) (lenform vs)))
    ∙ sym (append_assoc (to_be_bytes w32 (length u)) (u ++ lenform us) (lenform vs))

pub lenform-one : (u : List ℕ) → lenform (u ∷ []) ≡ to_be_bytes w32 (length u) ++ u
unfolding lenform
lenform-one u = ap (λ s. to_be_bytes w32 (length u) ++ s) (append-nil u)

text_of-append : (to : Target) (us vs : List (List ℕ)) → text_of to (us ++ vs) ≡ text_of to us ++ text_of to vs
text_of-append Prefixed us vs = lenform-append us vs
text_of-append Framed us vs = frame-append us vs

pub text-push : (to : Target) (us : List NalUnit) (u : NalUnit) → text to (us ++ u ∷ []) ≡ text to us ++ text_of to (u.bytes ∷ [])
text-push to us u = ap (text_of to) (map-append (λ (u : NalUnit). u.bytes) us (u ∷ [])) ∙ text_of-append to (map (λ (u : NalUnit). u.bytes) us) (u.bytes ∷ [])

-- a judge that objects to nothing
pub nobody-sound : (f : Format) → IsFormat f → IsSound f nobody
nobody-sound f is = record {
  format = is;
  late = record { late = λ before u rule e. absurd (cc); ending = λ us rule e. absurd (cc) };
}

-- and so it never lacks a set
by_rule : (f : Format) (s : List ℕ) (stop : Stop) → seen f nobody true s ≡ Some stop → IsByRule stop.why
by_rule f s stop = seen-why f nobody IsByRule (λ rule. tt) (λ before u why e. absurd (cc)) (λ us why e. absurd (cc)) true s stop

pub lacks-none : {T : Type 0} (f : Format) (to : Target) (total : List NalUnit → T) (limit : ℕ) (input : Input) (output : Output) (asked count : ℕ) → Answers f (carrying to) total limit input output (Err (NoSuchSet asked count)) → ⊥
lacks-none f to total limit input output asked count run = subst IsByRule run.1 (decided-why f nobody IsByRule (by_rule f) run.2.taken run.2.ended run.0 run.2.decided)

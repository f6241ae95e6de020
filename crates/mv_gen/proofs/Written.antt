-- What a sink gained of the units of a stream that were given so far.
use Rattle.std.proofs.Common.{◌≡◌, ℕ, ◌≤◌, List, [], ◌∷◌, ◌++◌, Bool, true, false, length, take, Ok, Err, refl, sym, ap, subst, ◌∙◌, arith, append_assoc, append-nil}
use Rattle.std.proofs.Math.Seq.{take-length}
use Rattle.std.proofs.lemmas.List.{take-append-le}
use Rattle.mv_io.specs.Call.{output_of}
use Rattle.mv_io.specs.Faults.{Rose}
use Rattle.mv_io.specs.Sink.{SinkState, Appends, AppendsPrefix}
use Rattle.mv_io.proofs.Appends.{Appends-nothing, Appends-then, AppendsPrefix-first, AppendsPrefix-then}
use Rattle.mv_units.specs.Framing.{frame}
use Rattle.mv_units.proofs.Framed.{frame-append}
use Rattle.mv_gen.specs.declared.generating.GenerateError.{GenerateError}
use Rattle.mv_gen.specs.declared.generating.GenerateError.TheVariants.{Write, Memory}
use Rattle.mv_gen.specs.Writing.{FailedNext, MemoryEnds, WriteFails, Writes, WritesNext}

-- of the units us those that are left weren't written yet, and the others were
pub record Written (us left : List (List ℕ)) (first now : SinkState) : Type 0 where
  pub given : List (List ℕ)
  pub parts : us ≡ given ++ left
  pub appends : Appends first.taken now.taken (frame given)
  pub never_falls : first.faults ≤ now.faults

pub none_written : (us : List (List ℕ)) (sink : SinkState) → Written us us sink sink
unfolding frame
none_written us sink = record { given = []; parts = refl; appends = Appends-nothing sink.taken; never_falls = omega arith }

pub one_more : (us left left_behind : List (List ℕ)) (first old new : SinkState) (more : Bool) → Written us left first old → WritesNext left left_behind (output_of old new) (Ok more) →
    more ≡ true → old.faults ≤ new.faults → Written us left_behind first new
one_more us left left_behind first old new false so_far none was count = absurd (cc)
one_more us left left_behind first old new true so_far wrote was count = record {
  given = so_far.given ++ wrote.unit ∷ [];
  parts = so_far.parts ∙ ap (λ (l : List (List ℕ)). so_far.given ++ l) wrote.next ∙ sym (append_assoc so_far.given (wrote.unit ∷ []) left_behind);
  appends =
      subst (Appends first.taken new.taken) (sym (frame-append so_far.given (wrote.unit ∷ [])))
      (Appends-then first.taken old.taken new.taken (frame so_far.given) (frame (wrote.unit ∷ [])) so_far.appends wrote.writes);
  never_falls = let falls = so_far.never_falls in omega arith;
}

pub all_written : (us left : List (List ℕ)) (first now : SinkState) → Written us left first now → left ≡ [] → Appends first.taken now.taken (frame us)
all_written us left first now so_far none =
    let all : us ≡ so_far.given = so_far.parts ∙ ap (λ (l : List (List ℕ)). so_far.given ++ l) none ∙ append-nil so_far.given in
    subst (λ (l : List (List ℕ)). Appends first.taken now.taken (frame l)) (sym all) so_far.appends

write_failed : (us left left_behind : List (List ℕ)) (first old new : SinkState) → Written us left first old → FailedNext left left_behind (output_of old new) →
    WriteFails us (output_of first new)
write_failed us left left_behind first old new so_far fails =
    let rest : frame left ≡ frame (fails.unit ∷ []) ++ frame left_behind = ap frame fails.next ∙ frame-append (fails.unit ∷ []) left_behind in
    let whole : frame us ≡ frame so_far.given ++ frame left = ap frame so_far.parts ∙ frame-append so_far.given left in
    let part : AppendsPrefix old.taken new.taken (frame left) =
    subst (AppendsPrefix old.taken new.taken) (sym rest) (AppendsPrefix-first old.taken new.taken (frame (fails.unit ∷ [])) (frame left_behind) fails.writes) in
    record {
      rose = earlier first.faults old.faults new.faults so_far.never_falls fails.rose;
      writes = subst (AppendsPrefix first.taken new.taken) (sym whole) (AppendsPrefix-then first.taken old.taken new.taken (frame so_far.given) (frame left) so_far.appends part);
    }
  where
    earlier : (a b c : ℕ) → a ≤ b → Rose b c → Rose a c
    earlier a b c h rose = omega (arith, rose)

memory_ended : (us left : List (List ℕ)) (first now : SinkState) → Written us left first now → MemoryEnds us (output_of first now)
memory_ended us left first now so_far = record {
  units = so_far.given;
  begin =
      ap (take (length so_far.given)) so_far.parts
      ∙ take-append-le (length so_far.given) so_far.given left (omega arith) ∙ take-length so_far.given;
  writes = so_far.appends;
}

pub not_all_written : (us left left_behind : List (List ℕ)) (first old new : SinkState) (error : GenerateError) → Written us left first old →
    WritesNext left left_behind (output_of old new) (Err error) → Writes us (output_of first new) (Err error)
not_all_written us left left_behind first old new Write so_far fails = write_failed us left left_behind first old new so_far fails
not_all_written us left left_behind first old new Memory so_far unused =
    memory_ended us left first new (subst (Written us left first) (sym unused) so_far)

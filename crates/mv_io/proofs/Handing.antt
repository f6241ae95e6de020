-- What a buffered sink hands on, and what it tells of that.
use Rattle.std.proofs.Common.{ℕ, ◌≡◌, ◌+◌, Option, None, Some, List, [], ◌++◌, take, drop, length, Result, Ok, Err, IfOk, OnErr, refl, ap, sym, subst, ◌∙◌, arith, append_assoc, append-nil}
use Rattle.std.proofs.lemmas.List.{take-append-drop, drop-drop}
use Rattle.std.proofs.Math.ListN.{drop_of_length-le}
use Rattle.std.proofs.Math.Seq.{take-add, take-length, take-append-add, drop-append-add}
use Rattle.std.specs.Option.{option_map}
use Rattle.mv_io.specs.declared.sink.SinkFailed.{SinkFailed}
use Rattle.mv_io.specs.Sink.{SinkState, Appends, WriteAppends}
use Rattle.mv_io.specs.Buffered.{HandsOn, buffered_state}
use Rattle.mv_io.proofs.Appends.{Appends-nothing, Appends-then}

-- nothing was handed on
pub HandsOn-nothing : (state : SinkState) (waiting : List ℕ) → HandsOn state state waiting waiting
HandsOn-nothing state waiting = record { count = 0; taken = Appends-nothing state.taken; others_wait = refl }

-- all was handed on
pub HandsOn-all : (old new : SinkState) (bytes waiting : List ℕ) → Appends old.taken new.taken bytes → waiting ≡ [] → HandsOn old new bytes waiting
HandsOn-all old new bytes waiting all none = record {
  count = length bytes;
  taken = subst (Appends old.taken new.taken) (sym (take-length bytes)) all;
  others_wait = none ∙ sym (drop_of_length-le bytes (omega arith));
}

-- the first of those that waited went on too
pub HandsOn-more : (old mid new : SinkState) (bytes waiting later : List ℕ) (n : ℕ) → HandsOn old mid bytes waiting → Appends mid.taken new.taken (take n waiting) → later ≡ drop n waiting → HandsOn old new bytes later
HandsOn-more old mid new bytes waiting later n first next rest = record {
  count = first.count + n;
  taken = rw (take-add first.count n bytes) (Appends-then old.taken mid.taken new.taken _ _ first.taken (subst (λ s. Appends mid.taken new.taken (take n s)) first.others_wait next));
  others_wait = rest ∙ ap (drop n) first.others_wait ∙ drop-drop n first.count bytes;
}

-- a sink below that failed took nothing more
pub HandsOn-failed : (old mid new : SinkState) (bytes waiting : List ℕ) → HandsOn old mid bytes waiting → new.taken ≡ mid.taken → HandsOn old new bytes waiting
HandsOn-failed old mid new bytes waiting first same = record {
  count = first.count;
  taken = subst (λ t. Appends old.taken t (take first.count bytes)) (sym same) first.taken;
  others_wait = first.others_wait;
}

-- all that waited was handed on, and then some of the bytes behind
pub HandsOn-then : (old mid new : SinkState) (waited none bytes waiting : List ℕ) → HandsOn old mid waited none → none ≡ [] → HandsOn mid new bytes waiting → HandsOn old new (waited ++ bytes) waiting
HandsOn-then old mid new waited none bytes waiting first drained next =
    let empty : drop first.count waited ≡ [] = sym first.others_wait ∙ drained in
    let whole : take first.count waited ≡ waited = sym (append-nil (take first.count waited)) ∙ ap (λ s. take first.count waited ++ s) (sym empty) ∙ take-append-drop first.count waited in
    record {
      count = length waited + next.count;
      taken = rw (take-append-add waited bytes next.count) (Appends-then old.taken mid.taken new.taken _ _ (subst (Appends old.taken mid.taken) whole first.taken) next.taken);
      others_wait = next.others_wait ∙ sym (drop-append-add waited bytes next.count);
    }

-- the bytes told are those that were told and those that were handed in
tells-added : (old new : Option (List ℕ)) (waited waiting added : List ℕ) (n : ℕ) → Appends old new (take n (waited ++ added)) → waiting ≡ drop n (waited ++ added) →
    Appends (option_map (λ had. had ++ waited) old) (option_map (λ had. had ++ waiting) new) added
tells-added None new waited waiting added n first rest = ap (option_map (λ had. had ++ waiting)) first
tells-added (Some had) new waited waiting added n first rest =
    ap (option_map (λ h. h ++ waiting)) first
    ∙ ap Some (append_assoc had (take n (waited ++ added)) waiting
    ∙ ap (λ s. had ++ (take n (waited ++ added) ++ s)) rest
    ∙ ap (λ s. had ++ s) (take-append-drop n (waited ++ added))
    ∙ sym (append_assoc had waited added))

tells-same : (old new : Option (List ℕ)) (waited waiting : List ℕ) (n : ℕ) → Appends old new (take n waited) → waiting ≡ drop n waited →
    option_map (λ had. had ++ waiting) new ≡ option_map (λ had. had ++ waited) old
tells-same None new waited waiting n first rest = ap (option_map (λ had. had ++ waiting)) first
tells-same (Some had) new waited waiting n first rest =
    ap (option_map (λ h. h ++ waiting)) first
    ∙ ap Some (append_assoc had (take n waited) waiting
    ∙ ap (λ s. had ++ (take n waited ++ s)) rest
    ∙ ap (λ s. had ++ s) (take-append-drop n waited))

pub buffered-appends : (r : Result ℕ SinkFailed) (old new : SinkState) (waited waiting piece : List ℕ) → IfOk r (λ n. HandsOn old new (waited ++ take n piece) waiting) → OnErr r (HandsOn old new waited waiting) →
    WriteAppends (buffered_state old waited).taken (buffered_state new waiting).taken r piece
buffered-appends (Ok n) old new waited waiting piece hands_on failed = record {
  appends = tells-added old.taken new.taken waited waiting (take n piece) hands_on.count hands_on.taken hands_on.others_wait;
  fails = tt;
}
buffered-appends (Err e) old new waited waiting piece hands_on failed = record {
  appends = tt;
  fails = tells-same old.taken new.taken waited waiting failed.count failed.taken failed.others_wait;
}

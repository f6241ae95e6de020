-- What a call took from a source, read by read.
use Rattle.std.proofs.Common.{ℕ, Bool, false, List, [], ◌++◌, Option, None, Some, refl, sym, ap, ◌∙◌, subst, append_assoc, append-nil}
use Rattle.mv_io.specs.Source.{Told, SourceState, Takes, AtEnd, SameEnd}
use Rattle.mv_io.specs.Call.{input_of, Took}

-- nothing was taken
pub Took-nothing : (old : SourceState) → Took (input_of old old) [] false
Took-nothing old = record { takes = same old.told; at_end = λ h. absurd (cc); goes_on = λ h. stays old.told }
  where
    same : (told : Option Told) → Takes told told []
    same None = tt
    same (Some was) = refl

    stays : (told : Option Told) → SameEnd told told
    stays None = tt
    stays (Some was) = refl

-- the bytes of two calls in a row
Takes-then : (old mid new : Option Told) (xs ys : List ℕ) → Takes old mid xs → Takes mid new ys → Takes old new (xs ++ ys)
Takes-then None mid new xs ys first next = tt
Takes-then (Some was) None new xs ys first next = absurd first
Takes-then (Some was) (Some has) None xs ys first next = absurd next
Takes-then (Some was) (Some has) (Some is) xs ys first next =
    first ∙ ap (λ rest. xs ++ rest) next ∙ sym (append_assoc xs ys is.left)

AtEnd-then : (old mid new : Option Told) (xs : List ℕ) → Takes old mid xs → AtEnd mid new → AtEnd old new
AtEnd-then None mid new xs first next = tt
AtEnd-then (Some was) None new xs first next = absurd first
AtEnd-then (Some was) (Some has) None xs first next = absurd next
AtEnd-then (Some was) (Some has) (Some is) xs first next = next

SameEnd-then : (old mid new : Option Told) → SameEnd old mid → SameEnd mid new → SameEnd old new
SameEnd-then None mid new first next = tt
SameEnd-then (Some was) None new first next = absurd first
SameEnd-then (Some was) (Some has) None first next = absurd next
SameEnd-then (Some was) (Some has) (Some is) first next = next ∙ first

pub Took-then : {old mid new : SourceState} {xs ys : List ℕ} {ended : Bool} → Took (input_of old mid) xs false → Took (input_of mid new) ys ended → Took (input_of old new) (xs ++ ys) ended
Took-then {old} {mid} {new} {xs = xs} {ys = ys} first next = record {
  takes = Takes-then old.told mid.told new.told xs ys first.takes next.takes;
  at_end = λ h. AtEnd-then old.told mid.told new.told xs first.takes (next.at_end h);
  goes_on = λ h. SameEnd-then old.told mid.told new.told (first.goes_on refl) (next.goes_on h);
}

-- the end behind what was taken
pub Took-end : {old mid new : SourceState} {xs : List ℕ} {ended : Bool} → Took (input_of old mid) xs false → Took (input_of mid new) [] ended → Took (input_of old new) xs ended
Took-end {old} {new = new} {xs = xs} {ended = ended} first next =
    subst (λ (s : List ℕ). Took (input_of old new) s ended) (append-nil xs) (Took-then first next)

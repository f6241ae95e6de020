-- What was given of a queue and what waits, as pictures come and are given.
use Rattle.std.proofs.Common.{◌≡◌, ◌∙◌, ℕ, Bool, true, false, cond, List, [], ◌∷◌, ◌++◌, map, Option, Some, None, refl, ap, sym, subst}
use Rattle.std.specs.Prelude.{option_map, slice_get}
use Rattle.std.specs.List.{list_any}
use Rattle.std.proofs.lemmas.List.{append_assoc}
use Rattle.mv_history.specs.Order.{put, sorted}
use Rattle.mv_history.proofs.Instances.{map-put}
use Rattle.mv_history.proofs.Sorts.{put-append}
use Rattle.mv_dpb.specs.declared.shown.Shown.{Shown}
use Rattle.mv_dpb.specs.declared.waits.Waits.{Waits}
use Rattle.mv_dpb.specs.Stored.{Stored}
use Rattle.mv_dpb.specs.Waits.{begun_with, comes_first, is_begun_of}
use Rattle.mv_dpb.specs.Waiting.{WaitingValue, given, told, with_picture, without_first}
use Rattle.mv_walk_order.specs.Queue.{GivesNext, HasRoom, IsInOrder, Queued, is_first, pictures_in, queued_of}

-- ---- A picture comes

came : {P : Type 0} (shown : Shown) (au : ℕ) (picture : P) (w : WaitingValue P) (gone all : List (Queued P)) →
    IsInOrder (Some w) gone all → list_any (is_first (record { shown = shown; au = au; picture = picture })) gone ≡ false →
    IsInOrder (Some (with_picture shown au picture w)) gone (record { shown = shown; au = au; picture = picture } ∷ all)
unfolding sorted
came {P} shown au picture w gone all h behind =
    let one : Queued P = record { shown = shown; au = au; picture = picture } in
    let new : Stored Waits P = record { told = record { shown = shown; au = au; begun = list_any (is_begun_of au) (told w) }; picture = picture } in
    ap (λ xs. gone ++ xs) (map-put queued_of (λ a b. comes_first a.told b.told) is_first (λ a b. refl) new w.pictures)
    ∙ sym (put-append is_first one gone (map queued_of w.pictures) behind)
    ∙ ap (put is_first one) h

pub pushed : {P : Type 0} (shown : Shown) (au : ℕ) (picture : P) (q new : Option (WaitingValue P)) → HasRoom q → new ≡ option_map (with_picture shown au picture) q →
    (gone all : List (Queued P)) → IsInOrder q gone all → list_any (is_first (record { shown = shown; au = au; picture = picture })) gone ≡ false →
    IsInOrder new gone (record { shown = shown; au = au; picture = picture } ∷ all)
pushed shown au picture None new room added gone all h behind = absurd room
pushed shown au picture (Some w) new room added gone all h behind = rw added (came shown au picture w gone all h behind)

-- ---- A picture is given

-- that an access unit has begun to leave changes no picture
same_begun : {P : Type 0} (au : ℕ) (pictures : List (Stored Waits P)) →
    map queued_of (map (λ t. record { told = begun_with au t.told; picture = t.picture }) pictures) ≡ map queued_of pictures
same_begun au [] = refl
same_begun au (s ∷ pictures) = ap (λ xs. queued_of s ∷ xs) (same_begun au pictures)

first_given : {P : Type 0} (w : WaitingValue P) (pictures : List (Stored Waits P)) → w.pictures ≡ pictures → (gone all : List (Queued P)) → IsInOrder (Some w) gone all →
    GivesNext (option_map given (slice_get w.pictures 0)) (Some (without_first w)) gone all
first_given w [] e gone all h = rw e (subst (λ xs. gone ++ map queued_of xs ≡ sorted is_first all) e h)
first_given w (s ∷ pictures) e gone all h = rw e (
  s.told.au,
  ap (λ xs. (gone ++ queued_of s ∷ []) ++ xs) (same_begun s.told.au pictures)
      ∙ append_assoc gone (queued_of s ∷ []) (map queued_of pictures)
      ∙ subst (λ xs. gone ++ map queued_of xs ≡ sorted is_first all) e h,
)

next_given : {P : Type 0} (q : Option (WaitingValue P)) (gone all : List (Queued P)) → IsInOrder q gone all →
    GivesNext (option_map given (slice_get (pictures_in q) 0)) (option_map without_first q) gone all
next_given None gone all h = h
next_given (Some w) gone all h = first_given w w.pictures refl gone all h

pub flushed : {P : Type 0} (q new : Option (WaitingValue P)) (next : Option (Shown × P)) → next ≡ option_map given (slice_get (pictures_in q) 0) → new ≡ option_map without_first q →
    (gone all : List (Queued P)) → IsInOrder q gone all → GivesNext next new gone all
flushed q new next e rest gone all h = rw (e, rest) (next_given q gone all h)

pub bumped : {P : Type 0} (b : Bool) (q new : Option (WaitingValue P)) (next : Option (Shown × P)) → next ≡ cond b (option_map given (slice_get (pictures_in q) 0)) None → new ≡ cond b (option_map without_first q) q →
    (gone all : List (Queued P)) → IsInOrder q gone all → GivesNext next new gone all
bumped true q new next e rest gone all h = rw (e, rest) (next_given q gone all h)
bumped false q new next e rest gone all h = rw (e, rest) h

-- ---- A sequence begins

pub none_came : {P : Type 0} (w : WaitingValue P) → w.pictures ≡ [] → IsInOrder (Some w) [] []
unfolding sorted
none_came w none = ap (map queued_of) none

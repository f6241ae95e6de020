-- The bytes of a piece, up to one that ends a unit or shows a refusal.
use Rattle.std.proofs.Common.{◌≡◌, ◌⊎◌, inl, inr, ℕ, suc, ◌+◌, ◌-◌, ◌<◌, ◌≤◌, false, List, [], ◌∷◌, ◌++◌, length, take, drop, get_or, Option, None, Some, refl, ap, sym, ◌∙◌, subst, arith, append_assoc}
use Rattle.std.specs.Option.{option_to_list}
use Rattle.std.proofs.Math.Seq.{take-add, take-length, take-suc}
use Rattle.std.proofs.lemmas.List.{length-take, length-drop, take-append-drop, take_rest, take-take}
use Rattle.mv_rules.specs.declared.refusal.Refusal.{Refusal}
use Rattle.mv_units.specs.Units.{NalUnit}
use Rattle.mv_units.specs.Shown.{StartsWith, refusal_shown, whole_units}
use Rattle.mv_units.proofs.Shows.{shown-stays, whole-stays}
use Rattle.mv_bytestream.specs.Scan.{StandsFor, TakesToUnit, ShowsAt}
use Rattle.mv_bytestream.specs.Stages.{IsRunning, Takes, scan_of, waiting_at, has_ended, refusal_at, unit_held}
use Rattle.mv_bytestream.specs.declared.machine.Machine.{Machine}
use Rattle.mv_bytestream.specs.declared.machine.Stage.{Stage}
use Rattle.mv_bytestream.specs.declared.machine.Stage.TheVariants.{Leading, Making, Found, Given, Last, Ended, Refused}
use Rattle.mv_units.proofs.Numbers.{byte-number}
use Rattle.mv_bytestream.proofs.Runs.{none_left}

-- where nothing waits and the input goes on
running-waits : (stage : Stage) (u : NalUnit) → IsRunning stage → waiting_at stage u ≡ None
running-waits Leading u is = refl
running-waits Making u is = refl
running-waits Found u is = absurd is
running-waits Given u is = absurd is
running-waits Last u is = absurd is
running-waits Ended u is = absurd is
running-waits (Refused r) u is = absurd is

running-goes_on : (stage : Stage) → IsRunning stage → has_ended stage ≡ false
running-goes_on Leading is = refl
running-goes_on Making is = refl
running-goes_on Found is = absurd is
running-goes_on Given is = absurd is
running-goes_on Last is = absurd is
running-goes_on Ended is = absurd is
running-goes_on (Refused r) is = absurd is

-- what a running machine stands for shows nothing, and its units were all handed out
pub quiet-so_far : (m : Machine) (s : List ℕ) → IsRunning m.stage → StandsFor (scan_of m) s → refusal_shown false s ≡ None
quiet-so_far m s is h = subst (λ e. refusal_shown e s ≡ None) (running-goes_on m.stage is) h.accepted

units-so_far : (m : Machine) (s : List ℕ) → IsRunning m.stage → StandsFor (scan_of m) s → m.given ≡ length (whole_units false s)
units-so_far m s is h =
    let off = running-goes_on m.stage is in
    none_left m.given (whole_units false s)
    (subst (λ e. m.given ≤ length (whole_units e s)) off h.given)
    (subst (λ e. drop m.given (whole_units e s) ≡ []) off (h.waiting ∙ ap option_to_list (running-waits m.stage (unit_held m) is)))

-- lists of equal length, one of which begins with the other
starts-equal : (xs ys : List NalUnit) → StartsWith ys xs → length ys ≡ length xs → ys ≡ xs
starts-equal xs ys h same = sym (take-length ys) ∙ ap (λ n. take n ys) same ∙ h

starts-length : (xs ys : List NalUnit) → StartsWith ys xs → length xs ≤ length ys
starts-length xs ys h = let same : length (take (length xs) ys) ≡ length xs = ap length h in omega (arith, length-take (length xs) ys)

-- the first bytes of a piece
pub take-split : (k n : ℕ) (piece : List ℕ) → k ≤ n → take n piece ≡ take k piece ++ drop k (take n piece)
take-split k n piece low = sym (take-append-drop k (take n piece)) ∙ ap (λ x. x ++ drop k (take n piece)) (take-take k n piece low)

-- no unit was ended before
pub whole-before : (s piece : List ℕ) (n k : ℕ) → k ≤ n → length (whole_units false (s ++ take n piece)) ≡ length (whole_units false s) → whole_units false (s ++ take k piece) ≡ whole_units false s
whole-before s piece n k low same =
    let more : (s ++ take k piece) ++ drop k (take n piece) ≡ s ++ take n piece = append_assoc s (take k piece) (drop k (take n piece)) ∙ ap (λ x. s ++ x) (sym (take-split k n piece low)) in
    let first = whole-stays s (take k piece) in
    let then = whole-stays (s ++ take k piece) (drop k (take n piece)) in
    let up : length (whole_units false s) ≤ length (whole_units false (s ++ take k piece)) = starts-length _ _ first in
    let down : length (whole_units false (s ++ take k piece)) ≤ length (whole_units false (s ++ take n piece)) =
    subst (λ x. length (whole_units false (s ++ take k piece)) ≤ length (whole_units false x)) more (starts-length _ _ then) in
    starts-equal (whole_units false s) (whole_units false (s ++ take k piece)) first (omega arith)

-- no refusal was shown before
pub quiet-before : (s piece : List ℕ) (n k : ℕ) → k ≤ n → refusal_shown false (s ++ take n piece) ≡ None → refusal_shown false (s ++ take k piece) ≡ None
quiet-before s piece n k low none = go (refusal_shown false (s ++ take k piece)) refl
  where
    more : (s ++ take k piece) ++ drop k (take n piece) ≡ s ++ take n piece
    more = append_assoc s (take k piece) (drop k (take n piece)) ∙ ap (λ x. s ++ x) (sym (take-split k n piece low))

    go : (o : Option Refusal) → refusal_shown false (s ++ take k piece) ≡ o → o ≡ None
    go None is = refl
    go (Some r) is =
        let still : refusal_shown false (s ++ take n piece) ≡ Some r = ap (refusal_shown false) (sym more) ∙ shown-stays (s ++ take k piece) (drop k (take n piece)) r is in
        absurd (let no : None ≡ Some r = sym none ∙ still in cc)

-- a machine that stood for s stands for it with the first n bytes of the piece
abbrev pub Stands : Machine → Machine → List ℕ → ℕ → Type 0
Stands old new piece n = (s : List ℕ) → StandsFor (scan_of old) s → StandsFor (scan_of new) (s ++ take n piece)

take-none : (piece : List ℕ) → take 0 piece ≡ []
take-none [] = refl
take-none (b ∷ piece) = refl

pub stands-none : (m : Machine) (piece : List ℕ) → Stands m m piece 0
stands-none m piece s h = subst (StandsFor (scan_of m)) (sym (ap (λ x. s ++ x) (take-none piece) ∙ nothing s)) h
  where
    nothing : (s : List ℕ) → s ++ [] ≡ s
    nothing [] = refl
    nothing (a ∷ s) = ap (λ r. a ∷ r) (nothing s)

pub stands-run : (old mid new : Machine) (piece : List ℕ) (n k : ℕ) → Stands old mid piece n → Takes mid new (take k (take (length piece - n) (drop n piece))) None → Stands old new piece (n + k)
stands-run old mid new piece n k h more s is =
    subst (StandsFor (scan_of new))
    (append_assoc s (take n piece) (take k (take (length piece - n) (drop n piece)))
    ∙ ap (λ x. s ++ (take n piece ++ take k x)) (take_rest piece n)
    ∙ ap (λ x. s ++ x) (sym (take-add n k piece)))
    (more (s ++ take n piece) (h s is))

one-byte : (s piece : List ℕ) (n : ℕ) → n < length piece → (s ++ take n piece) ++ get_or piece n 0 ∷ [] ≡ s ++ take (n + 1) piece
one-byte s piece n low =
    append_assoc s (take n piece) (get_or piece n 0 ∷ [])
    ∙ ap (λ x. s ++ x) (sym (take-suc piece n 0 low))
    ∙ (let same : suc n ≡ n + 1 = omega arith in ap (λ m. s ++ take m piece) same)

pub stands-byte : (old mid new : Machine) (piece : List ℕ) (n : ℕ) → n < length piece → Stands old mid piece n → Takes mid new (get_or piece n 0 ∷ []) None → Stands old new piece (n + 1)
stands-byte old mid new piece n low h more s is = subst (StandsFor (scan_of new)) (one-byte s piece n low) (more (s ++ take n piece) (h s is))

-- at a byte that shows a refusal
pub shows-at : (old mid new : Machine) (piece : List ℕ) (n : ℕ) (r : Refusal) → n < length piece → IsRunning old.stage → IsRunning mid.stage → mid.given ≡ old.given → Stands old mid piece n → Takes mid new (get_or piece n 0 ∷ []) (Some r) →
    (s : List ℕ) → StandsFor (scan_of old) s → (n : ℕ) × ShowsAt s piece r n
shows-at old mid new piece n r low first run given h more s is =
    let quiet = quiet-so_far mid (s ++ take n piece) run (h s is) in
    let shown = more (s ++ take n piece) (h s is) in (
      n + 1,
      record {
        some = omega arith;
        within = omega arith;
        shown = ap (refusal_shown false) (sym (one-byte s piece n low)) ∙ shown;
        before = λ k below. quiet-before s piece n k (omega arith) quiet;
        unit = byte-number (s ++ take n piece) (get_or piece n 0) r quiet shown ∙ sym (units-so_far mid (s ++ take n piece) run (h s is)) ∙ given ∙ units-so_far old s first is;
      },
    )

-- where a unit was ended, and where none was
pub takes-all : (old new : Machine) (piece : List ℕ) (n : ℕ) → n ≤ length piece → length piece ≤ n → IsRunning old.stage → IsRunning new.stage → new.given ≡ old.given → Stands old new piece n →
    (s : List ℕ) → StandsFor (scan_of old) s → TakesToUnit s piece n
takes-all old new piece n low high run still given h s is =
    let first = units-so_far old s run is in
    let then = units-so_far new (s ++ take n piece) still (h s is) in
    record {
      within = low;
      before = λ k below. whole-before s piece n k (omega arith) (sym then ∙ given ∙ first);
      all = λ below. absurd (omega arith);
    }

pub takes-unit : (old mid new : Machine) (piece : List ℕ) (n : ℕ) → n < length piece → IsRunning old.stage → IsRunning mid.stage → new.stage ≡ Found → mid.given ≡ old.given → new.given ≡ mid.given → Stands old mid piece n → Stands old new piece (n + 1) →
    (s : List ℕ) → StandsFor (scan_of old) s → TakesToUnit s piece (n + 1)
takes-unit old mid new piece n low run still found given same before h s is =
    let first = units-so_far old s run is in
    let then = units-so_far mid (s ++ take n piece) still (before s is) in
    record {
      within = omega arith;
      before = λ k below. whole-before s piece n k (omega arith) (sym then ∙ given ∙ first);
      all = λ below. one-more (whole_units false (s ++ take (n + 1) piece)) (unit_held new) (ended (h s is)) ∙ ap (λ n. n + 1) (same ∙ given ∙ first);
    }
  where
    ended : StandsFor (scan_of new) (s ++ take (n + 1) piece) → drop new.given (whole_units false (s ++ take (n + 1) piece)) ≡ unit_held new ∷ []
    ended stands =
        subst (λ e. drop new.given (whole_units e (s ++ take (n + 1) piece)) ≡ unit_held new ∷ []) (ap has_ended found)
        (stands.waiting ∙ ap (λ st. option_to_list (waiting_at st (unit_held new))) found)

    one-more : (us : List NalUnit) (u : NalUnit) → drop new.given us ≡ u ∷ [] → length us ≡ new.given + 1
    one-more us u e = let long : length (drop new.given us) ≡ 1 = ap length e in omega (arith, length-drop new.given us)

-- a running machine wasn't refused
pub running-unrefused : (stage : Stage) → IsRunning stage → refusal_at stage ≡ None
running-unrefused Leading is = refl
running-unrefused Making is = refl
running-unrefused Found is = absurd is
running-unrefused Given is = absurd is
running-unrefused Last is = absurd is
running-unrefused Ended is = absurd is
running-unrefused (Refused r) is = absurd is

pub goes_on-still : (stage : Stage) → IsRunning stage ⊎ (stage ≡ Found) → has_ended stage ≡ false
goes_on-still stage (inl run) = running-goes_on stage run
goes_on-still stage (inr is) = ap has_ended is

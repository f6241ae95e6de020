-- What is seen of a byte string stays seen however it goes on; and what bytes that show nothing may become.
use Rattle.std.proofs.Common.{◌≡◌, ◌≢◌, ℕ, ◌+◌, ◌-◌, ◌<◌, ◌≤◌, Bool, true, false, nat_lt, List, [], ◌∷◌, ◌++◌, length, take, Option, None, Some, refl, ap, sym, ◌∙◌, subst, arith, append_assoc, append-nil, length-append, if◌then◌else◌}
use Rattle.std.specs.Option.{option_map, option_or}
use Rattle.std.proofs.lemmas.Bool.{le-ltb, lt-ltb}
use Rattle.std.proofs.lemmas.List.{take-take, take_all, take_at}
use Rattle.std.proofs.Math.Seq.{take-append-add}
use Rattle.mv_rules.specs.declared.refusal.Refusal.{Refusal}
use Rattle.mv_rules.specs.declared.rule.Rule.{Rule}
use Rattle.mv_units.specs.Shown.{IsOneOf, StartsWith}
use Rattle.mv_units.specs.Units.{NalUnit}
use Rattle.mv_units.proofs.Starts.{starts-take}
use Rattle.mv_judging.specs.declared.stop.Objection.{Objection}
use Rattle.mv_judging.specs.declared.stop.Stop.{Stop}
use Rattle.mv_judging.specs.Event.{seen, event, end_stop, refused_at, ShowsBy, IsLate, Due, Stops, Exceeds, due, due_by}
use Rattle.mv_judging.specs.Format.{Format, IsFormat, Goes}
use Rattle.mv_judging.specs.Judge.{Judge, judged, stop_at}
use Rattle.mv_judging.proofs.Judged.{or_none, judged-starts, judged-said, Said}

-- by what the form shows
abbrev seen_with : Format → Judge → Bool → List ℕ → Option Refusal → Option Stop
seen_with f j ended s o = elim o [
  | Some r ↦ option_or (judged j (take r.unit (f.whole ended s))) (Some (refused_at r))
  | None ↦ option_or (judged j (f.whole ended s)) (if ended then end_stop f j s else None)
]

pub seen-refused : (f : Format) (j : Judge) (ended : Bool) (s : List ℕ) (r : Refusal) → f.shown ended s ≡ Some r → seen f j ended s ≡ option_or (judged j (take r.unit (f.whole ended s))) (Some (refused_at r))
seen-refused f j ended s r is = ap (seen_with f j ended s) is

pub seen-quiet : (f : Format) (j : Judge) (ended : Bool) (s : List ℕ) → f.shown ended s ≡ None → seen f j ended s ≡ option_or (judged j (f.whole ended s)) (if ended then end_stop f j s else None)
seen-quiet f j ended s is = ap (seen_with f j ended s) is

-- the first stop where the units before it are accepted, and none where nothing is shown and all are
pub seen-first : (f : Format) (j : Judge) (ended : Bool) (s : List ℕ) (r : Refusal) → f.shown ended s ≡ Some r → judged j (take r.unit (f.whole ended s)) ≡ None → seen f j ended s ≡ Some (refused_at r)
seen-first f j ended s r is none = seen-refused f j ended s r is ∙ ap (λ v. option_or v (Some (refused_at r))) none

pub seen-judged : (f : Format) (j : Judge) (ended : Bool) (s : List ℕ) (e : Stop) → f.shown ended s ≡ None → judged j (f.whole ended s) ≡ Some e → seen f j ended s ≡ Some e
seen-judged f j ended s e is said = seen-quiet f j ended s is ∙ ap (λ v. option_or v (if ended then end_stop f j s else None)) said

pub seen-nothing : (f : Format) (j : Judge) (s : List ℕ) → f.shown false s ≡ None → judged j (f.whole false s) ≡ None → seen f j false s ≡ None
seen-nothing f j s is none = seen-quiet f j false s is ∙ ap (λ v. option_or v None) none

pub seen-ended : (f : Format) (j : Judge) (s : List ℕ) → f.shown true s ≡ None → judged j (f.whole true s) ≡ None → event f j s ≡ end_stop f j s
seen-ended f j s is none = seen-quiet f j true s is ∙ ap (λ v. option_or v (end_stop f j s)) none

-- what is seen before the end is known is seen wherever the units and the refusals stay
starts-more : (xs ys : List NalUnit) (n : ℕ) → StartsWith xs ys → length ys ≤ n → StartsWith (take n xs) ys
starts-more xs ys n h low = take-take (length ys) n xs low ∙ h

pub record Stays (f : Format) (t : List ℕ) (ended : Bool) (s : List ℕ) : Type 0 where
  pub refusal : (r : Refusal) → f.shown false t ≡ Some r → f.shown ended s ≡ Some r
  pub units : StartsWith (f.whole ended s) (f.whole false t)
  pub later : (r : Refusal) → f.shown false t ≡ None → f.shown ended s ≡ Some r → length (f.whole false t) ≤ r.unit

pub seen-on : (f : Format) (j : Judge) (t : List ℕ) (ended : Bool) (s : List ℕ) (e : Stop) → IsFormat f → Stays f t ended s → seen f j false t ≡ Some e → seen f j ended s ≡ Some e
seen-on f j t ended s e is on h = go (f.shown false t) refl
  where
    judged_first : judged j (f.whole false t) ≡ Some e → f.shown false t ≡ None → (o : Option Refusal) → f.shown ended s ≡ o → seen f j ended s ≡ Some e
    judged_first said quiet None now = seen-judged f j ended s e now (judged-starts j (f.whole ended s) (f.whole false t) e on.units said)
    judged_first said quiet (Some r) now =
        seen-refused f j ended s r now
        ∙ ap (λ v. option_or v (Some (refused_at r)))
        (judged-starts j (take r.unit (f.whole ended s)) (f.whole false t) e (starts-more (f.whole ended s) (f.whole false t) r.unit on.units (on.later r quiet now)) said)

    go : (o : Option Refusal) → f.shown false t ≡ o → seen f j ended s ≡ Some e
    go None quiet =
        judged_first (sym (or_none (judged j (f.whole false t))) ∙ sym (seen-quiet f j false t quiet) ∙ h) quiet (f.shown ended s) refl
    go (Some r) shows =
        seen-refused f j ended s r (on.refusal r shows)
        ∙ ap (λ ws. option_or (judged j ws) (Some (refused_at r))) (starts-take (f.whole ended s) (f.whole false t) r.unit on.units (is.within false t r shows))
        ∙ sym (seen-refused f j false t r shows) ∙ h

pub seen-stays : (f : Format) (j : Judge) (t s : List ℕ) (e : Stop) → IsFormat f → seen f j false t ≡ Some e → seen f j false (t ++ s) ≡ Some e
seen-stays f j t s e is h = seen-on f j t false (t ++ s) e is (record { refusal = is.stays t s; units = is.whole t s; later = is.later t s }) h

pub seen-ends : (f : Format) (j : Judge) (t : List ℕ) (e : Stop) → IsFormat f → seen f j false t ≡ Some e → event f j t ≡ Some e
seen-ends f j t e is h = seen-on f j t true t e is (record { refusal = is.ends t; units = is.all t; later = is.last t }) h

-- so it is the event of each byte string that begins so
pub shows-seen : (f : Format) (j : Judge) (t : List ℕ) (e : Stop) → IsFormat f → seen f j false t ≡ Some e → ShowsBy f j t (Some e)
shows-seen f j t e is h s = seen-ends f j (t ++ s) e is (seen-stays f j t s e is h)

-- where nothing is seen, nothing is refused, and no unit is objected to
pub record Calm (f : Format) (j : Judge) (t : List ℕ) : Type 0 where
  pub quiet : f.shown false t ≡ None
  pub accepted : judged j (f.whole false t) ≡ None

some_none : (v : Option Stop) (e : Stop) → option_or v (Some e) ≡ None → ⊥
some_none None e h = cc
some_none (Some x) e h = cc

pub calm : (f : Format) (j : Judge) (t : List ℕ) → seen f j false t ≡ None → Calm f j t
calm f j t h = go (f.shown false t) refl
  where
    go : (o : Option Refusal) → f.shown false t ≡ o → Calm f j t
    go None is = record { quiet = is; accepted = sym (or_none (judged j (f.whole false t))) ∙ sym (seen-quiet f j false t is) ∙ h }
    go (Some r) is = absurd (some_none (judged j (take r.unit (f.whole false t))) (refused_at r) (sym (seen-refused f j false t r is) ∙ h))

-- an event is of the form's rules at the end, or what the judge said
said_own : (f : Format) (j : Judge) (e : Stop) (rule : Rule) → IsLate f j → e.why ≡ Objection.Breaks rule → IsOneOf f.own rule → Said j e → ⊥
said_own f j e rule late why own said = late.late said.before said.unit rule (said.said ∙ ap Some why) own

end_own : (f : Format) (j : Judge) (t : List ℕ) (e : Stop) (rule : Rule) → IsLate f j → e.why ≡ Objection.Breaks rule → IsOneOf f.own rule → end_stop f j t ≡ Some e → ⊥
end_own f j t e rule late why own h = go (j.ending (f.whole true t)) refl h
  where
    go : (o : Option Objection) → j.ending (f.whole true t) ≡ o → option_map (stop_at (length (f.whole true t)) (length t)) o ≡ Some e → ⊥
    go None is eq = cc
    go (Some w) is eq =
        let same : stop_at (length (f.whole true t)) (length t) w ≡ e = cc in
        late.ending (f.whole true t) rule (is ∙ ap (λ (e : Stop). Some e.why) same ∙ ap Some why) own

event_own : (f : Format) (j : Judge) (t : List ℕ) (e : Stop) (rule : Rule) → IsFormat f → IsLate f j → f.shown false t ≡ None → e.why ≡ Objection.Breaks rule → IsOneOf f.own rule → event f j t ≡ Some e → ⊥
event_own f j t e rule is late quiet why own h = go (f.shown true t) refl
  where
    refused : (r : Refusal) → f.shown true t ≡ Some r → (v : Option Stop) → judged j (take r.unit (f.whole true t)) ≡ v → option_or v (Some (refused_at r)) ≡ Some e → ⊥
    refused r shows None none eq =
        let same : refused_at r ≡ e = cc in
        let rules : Objection.Breaks r.rule ≡ Objection.Breaks rule = ap (λ (e : Stop). e.why) same ∙ why in
        let equal : r.rule ≡ rule = cc in
        is.end t r quiet shows (subst (IsOneOf f.own) (sym equal) own)
    refused r shows (Some x) said eq =
        let same : x ≡ e = cc in
        said_own f j e rule late why own (judged-said j (take r.unit (f.whole true t)) e (said ∙ ap Some same))

    accepted : (v : Option Stop) → judged j (f.whole true t) ≡ v → option_or v (end_stop f j t) ≡ Some e → ⊥
    accepted None none eq = end_own f j t e rule late why own eq
    accepted (Some x) said eq =
        let same : x ≡ e = cc in
        said_own f j e rule late why own (judged-said j (f.whole true t) e (said ∙ ap Some same))

    go : (o : Option Refusal) → f.shown true t ≡ o → ⊥
    go None none = accepted (judged j (f.whole true t)) refl (sym (seen-quiet f j true t none) ∙ h)
    go (Some r) shows = refused r shows (judged j (take r.unit (f.whole true t))) refl (sym (seen-refused f j true t r shows) ∙ h)

-- bytes that show nothing: with more behind them they have another event than where they end
pub event-goes : (f : Format) (j : Judge) (t : List ℕ) → IsFormat f → seen f j false t ≡ None → (goes : Goes f t) → event f j (t ++ goes.more) ≡ Some (refused_at goes.refusal)
event-goes f j t is h goes =
    let none = calm f j t h in
    let before : take goes.refusal.unit (f.whole false (t ++ goes.more)) ≡ f.whole false t = ap (λ n. take n (f.whole false (t ++ goes.more))) goes.unit ∙ is.whole t goes.more in
    seen-ends f j (t ++ goes.more) (refused_at goes.refusal) is
    (seen-first f j false (t ++ goes.more) goes.refusal goes.shown (ap (judged j) before ∙ none.accepted))

pub two-events : (f : Format) (j : Judge) (t : List ℕ) → IsFormat f → IsLate f j → seen f j false t ≡ None → (goes : Goes f t) → event f j t ≢ event f j (t ++ goes.more)
two-events f j t is late h goes e =
    event_own f j t (refused_at goes.refusal) goes.refusal.rule is late (calm f j t h).quiet refl goes.own (e ∙ event-goes f j t is h goes)

pub shows-nothing : (f : Format) (j : Judge) (t : List ℕ) (e : Option Stop) → IsFormat f → IsLate f j → seen f j false t ≡ None → ¬ ShowsBy f j t e
shows-nothing f j t e is late h shows =
    let goes = is.goes t (calm f j t h).quiet in
    two-events f j t is late h goes (ap (event f j) (sym (append-nil t)) ∙ shows [] ∙ sym (shows goes.more))

pub shows-only : (f : Format) (j : Judge) (t : List ℕ) (e : Stop) → IsFormat f → IsLate f j → ShowsBy f j t (Some e) → seen f j false t ≡ Some e
shows-only f j t e is late h = go (seen f j false t) refl
  where
    go : (o : Option Stop) → seen f j false t ≡ o → o ≡ Some e
    go None none = absurd (shows-nothing f j t (Some e) is late none h)
    go (Some x) shows =
        sym (sym (h []) ∙ shows-seen f j t x is shows [])

-- what the bytes that a source holds decide
abbrev due_with : Option Stop → Bool → Option Stop → Due
due_with first over e = elim first [ Some stop ↦ Stops stop | None ↦ if over then Exceeds else due_by e ]

due-is : (f : Format) (j : Judge) (limit : ℕ) (held : List ℕ) (first : Option Stop) (over : Bool) (e : Option Stop) → seen f j false (take limit held) ≡ first → nat_lt limit (length held) ≡ over → event f j held ≡ e → due f j limit held ≡ due_with first over e
due-is f j limit held first over e a b c =
    ap (λ x. due_with x (nat_lt limit (length held)) (event f j held)) a ∙ ap (λ x. due_with first x (event f j held)) b ∙ ap (due_with first over) c

pub due-whole : (f : Format) (j : Judge) (limit : ℕ) (held : List ℕ) (e : Option Stop) → IsFormat f → length held ≤ limit → event f j held ≡ e → due f j limit held ≡ due_by e
due-whole f j limit held e is within h = go (seen f j false held) refl
  where
    first : seen f j false (take limit held) ≡ seen f j false held
    first = ap (seen f j false) (take_all limit held within)

    fits : nat_lt limit (length held) ≡ false
    fits = le-ltb limit (length held) within

    go : (o : Option Stop) → seen f j false held ≡ o → due f j limit held ≡ due_by e
    go None quiet = due-is f j limit held None false e (first ∙ quiet) fits h
    go (Some x) shows = due-is f j limit held (Some x) false e (first ∙ shows) fits h ∙ ap due_by (sym (seen-ends f j held x is shows) ∙ h)

pub due-shown : (f : Format) (j : Judge) (limit : ℕ) (taken left : List ℕ) (e : Stop) → IsFormat f → length taken ≤ limit → seen f j false taken ≡ Some e → due f j limit (taken ++ left) ≡ Stops e
due-shown f j limit taken left e is within shows =
    let n = limit - length taken in
    let parts : length taken + n ≡ limit = omega arith in
    let first : take limit (taken ++ left) ≡ taken ++ take n left = ap (λ k. take k (taken ++ left)) (sym parts) ∙ take-append-add taken left n in
    due-is f j limit (taken ++ left) (Some e) _ _ (ap (seen f j false) first ∙ seen-stays f j taken (take n left) e is shows) refl refl

pub due-over : (f : Format) (j : Judge) (limit : ℕ) (taken left : List ℕ) (extra : ℕ) → length taken ≡ limit → seen f j false taken ≡ None → due f j limit ((taken ++ extra ∷ []) ++ left) ≡ Exceeds
due-over f j limit taken left extra full quiet =
    let held = (taken ++ extra ∷ []) ++ left in
    let parts : held ≡ taken ++ extra ∷ left = append_assoc taken (extra ∷ []) left in
    let first : take limit held ≡ taken = ap (take limit) parts ∙ take_at taken (extra ∷ left) limit full in
    let over : limit < length held = omega (arith, ap length parts, length-append taken (extra ∷ left)) in
    due-is f j limit held None true (event f j held) (ap (seen f j false) first ∙ quiet) (lt-ltb limit (length held) over) refl

-- what is so of rules and of all that a judge says is so of what is seen
pub seen-why : (f : Format) (j : Judge) (P : Objection → Type 0) → ((rule : Rule) → P (Objection.Breaks rule)) → ((before : List NalUnit) (u : NalUnit) (why : Objection) → j.late before u ≡ Some why → P why) →
    ((us : List NalUnit) (why : Objection) → j.ending us ≡ Some why → P why) → (ended : Bool) (s : List ℕ) (e : Stop) → seen f j ended s ≡ Some e → P e.why
seen-why f j P rules late ending ended s e h = go (f.shown ended s) refl
  where
    by_judge : (us : List NalUnit) → judged j us ≡ Some e → P e.why
    by_judge us said = let said = judged-said j us e said in late said.before said.unit e.why said.said

    by_end : (ended : Bool) → (if ended then end_stop f j s else None) ≡ Some e → P e.why
    by_end false eq = absurd (cc)
    by_end true eq = at (j.ending (f.whole true s)) refl eq
      where
        at : (o : Option Objection) → j.ending (f.whole true s) ≡ o → option_map (stop_at (length (f.whole true s)) (length s)) o ≡ Some e → P e.why
        at None is eq = absurd (cc)
        at (Some w) is eq =
            let same : stop_at (length (f.whole true s)) (length s) w ≡ e = cc in
            ending (f.whole true s) e.why (is ∙ ap (λ (e : Stop). Some e.why) same)

    refused : (r : Refusal) (v : Option Stop) → judged j (take r.unit (f.whole ended s)) ≡ v → option_or v (Some (refused_at r)) ≡ Some e → P e.why
    refused r None is eq = let same : refused_at r ≡ e = cc in subst (λ (e : Stop). P e.why) same (rules r.rule)
    refused r (Some x) is eq = by_judge (take r.unit (f.whole ended s)) (is ∙ eq)

    accepted : (v : Option Stop) → judged j (f.whole ended s) ≡ v → option_or v (if ended then end_stop f j s else None) ≡ Some e → P e.why
    accepted None is eq = by_end ended eq
    accepted (Some x) is eq = by_judge (f.whole ended s) (is ∙ eq)

    go : (o : Option Refusal) → f.shown ended s ≡ o → P e.why
    go None is = accepted (judged j (f.whole ended s)) refl (sym (seen-quiet f j ended s is) ∙ h)
    go (Some r) is = refused r (judged j (take r.unit (f.whole ended s))) refl (sym (seen-refused f j ended s r is) ∙ h)

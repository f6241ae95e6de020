-- Extracts as byte strings: units that are accepted, framed and split again.
use Rattle.std.proofs.Common.{◌≡◌, ℕ, Bool, true, false, cond, not, List, [], ◌∷◌, ◌++◌, length, take, reverse, Option, None, Some, refl, ap, sym, subst, ◌∙◌, filter, map}
use Rattle.std.specs.Prelude.{All, option_map, is_none}
use Rattle.std.specs.Option.{option_or}
use Rattle.std.proofs.lemmas.Bool.{and_from, and_parts}
use Rattle.std.proofs.lemmas.List.{map-append, reverse-append, reverse-reverse}
use Rattle.std.proofs.lemmas.List.Elements.{All-append, All-cons, All-filter, All-head, All-map, All-nil, All-tail}
use Rattle.mv_rules.specs.declared.rule.Rule.{Rule}
use Rattle.mv_units.specs.Framing.{IsFramable, frame}
use Rattle.mv_units.specs.Shown.{refusal_shown}
use Rattle.mv_units.specs.Units.{NalUnit, units}
use Rattle.mv_units.specs.Rules.{unit_rule}
use Rattle.mv_units.proofs.Clean.{accepted-framable, shown-nothing}
use Rattle.mv_units.proofs.Framed.{leading-frame, units-frame}
use Rattle.mv_units.proofs.Refusals.{shown-clean}
use Rattle.mv_rules.specs.declared.refusal.Refusal.{Refusal}
use Rattle.mv_judging.specs.Event.{end_stop, refused_at}
use Rattle.mv_judging.specs.Format.{byte_stream}
use Rattle.mv_judging.specs.declared.stop.Objection.{Objection}
use Rattle.mv_judging.specs.declared.stop.Stop.{Stop}
use Rattle.mv_judging.specs.Judge.{judged as judged_by, stop_at}
use Rattle.mv_judging.proofs.Judged.{judged-nothing, judged-push}
use Rattle.mv_history.specs.History.{run}
use Rattle.mv_pictures.specs.AccessUnits.{all_placed}
use Rattle.mv_pictures.specs.Items.{Item, items, stays}
use Rattle.mv_pictures.specs.Extract.{extract}
use Rattle.mv_history.proofs.Kept.{All-unmap}
use Rattle.mv_pictures.specs.Facts.{facts}
use Rattle.mv_pictures.specs.Judged.{Judged}
use Rattle.mv_pictures.specs.History.{history, history_of}
use Rattle.mv_pictures.specs.Rules.{least_rule}
use Rattle.mv_pictures.specs.Verdict.{breaks_none, bytes_of, event, is_accepted, lacking, no_picture, objection, pictures}
use Rattle.mv_commuting.proofs.Extracts.{extract-of, hist-of, history-extract}
use Rattle.mv_commuting.specs.Kept.{is_kept}
use Rattle.mv_commuting.proofs.Accepted.{extract-accepted}
use Rattle.mv_commuting.proofs.Histories.{kept_units}
use Rattle.mv_commuting.proofs.Items.{items-bytes}
use Rattle.mv_commuting.proofs.Steady.{hist, this_judged}

map-reverse : {A B : Type 0} (f : A → B) (xs : List A) → map f (reverse xs) ≡ reverse (map f xs)
map-reverse f [] = refl
map-reverse f (x ∷ xs) =
    ap (map f) (reverse-append (x ∷ []) xs)
    ∙ map-append f (reverse xs) (x ∷ [])
    ∙ ap (λ ys. ys ++ f x ∷ []) (map-reverse f xs)
    ∙ sym (reverse-append (f x ∷ []) (map f xs))

-- the history of units, given the latest first
abbrev of_units : List NalUnit → List Judged
of_units xs = hist (map (λ (u : NalUnit). u.bytes) xs)

of_units-is : (xs : List NalUnit) → history_of (bytes_of (reverse xs)) ≡ of_units xs
of_units-is xs = hist-of (bytes_of (reverse xs)) ∙ ap (λ us. hist (reverse us)) (map-reverse (λ (u : NalUnit). u.bytes) xs) ∙ ap hist (reverse-reverse (map (λ (u : NalUnit). u.bytes) xs))

reverse-more : (u : NalUnit) (xs : List NalUnit) → reverse (u ∷ xs) ≡ reverse xs ++ u ∷ []
reverse-more u xs = reverse-append (u ∷ []) xs

late-is : (n : ℕ) (u : NalUnit) (xs : List NalUnit) → (pictures n).late (reverse xs) u ≡ objection n (of_units (u ∷ xs))
unfolding pictures
late-is n u xs = ap (λ us. objection n (history_of (bytes_of us))) (sym (reverse-more u xs)) ∙ ap (objection n) (of_units-is (u ∷ xs))

judged-is : (n : ℕ) (u : NalUnit) (xs : List NalUnit) → judged_by (pictures n) (reverse (u ∷ xs)) ≡ option_or (judged_by (pictures n) (reverse xs)) (option_map (stop_at (length (reverse xs)) u.place) (objection n (of_units (u ∷ xs))))
judged-is n u xs =
    ap (judged_by (pictures n)) (reverse-more u xs)
    ∙ judged-push (pictures n) (reverse xs) u
    ∙ ap (λ why. option_or (judged_by (pictures n) (reverse xs)) (option_map (stop_at (length (reverse xs)) u.place) why)) (late-is n u xs)

none_or : {A : Type 0} (x y : Option A) → option_or x y ≡ None → (x ≡ None) × (y ≡ None)
none_or None y h = (refl, h)
none_or (Some a) y h = absurd (cc)

none_map : {A B : Type 0} (f : A → B) (x : Option A) → option_map f x ≡ None → x ≡ None
none_map f None h = refl
none_map f (Some a) h = absurd (cc)

-- each video parameter set has output layer set n
abbrev pub HasSet : ℕ → List Judged → Type 0
HasSet n = All (λ (d : Judged). lacking n d.fact.placed.item ≡ None)

said : (n : ℕ) (d : Judged) (past : List Judged) → objection n (d ∷ past) ≡ None → (is_none (least_rule past d) ≡ true) × (lacking n d.fact.placed.item ≡ None)
unfolding objection
said n d past h =
    let parts = none_or (option_map Objection.Breaks (least_rule past d)) (lacking n d.fact.placed.item) h in
    (ap is_none (none_map Objection.Breaks (least_rule past d) parts.0), parts.1)

unsaid : (n : ℕ) (d : Judged) (past : List Judged) → is_none (least_rule past d) ≡ true → lacking n d.fact.placed.item ≡ None → objection n (d ∷ past) ≡ None
unfolding objection
unsaid n d past h lacks = go (least_rule past d) h
  where
    go : (r : Option Rule) → is_none r ≡ true → option_or (option_map Objection.Breaks r) (lacking n d.fact.placed.item) ≡ None
    go None h = lacks
    go (Some r) h = absurd (let wrong : true ≡ false = sym h in cc)

accepts : (n : ℕ) (xs : List NalUnit) → judged_by (pictures n) (reverse xs) ≡ None → (breaks_none (of_units xs) ≡ true) × HasSet n (of_units xs)
unfolding items run all_placed facts history breaks_none
accepts n [] h = (refl, All-nil (λ (d : Judged). lacking n d.fact.placed.item ≡ None))
accepts n (u ∷ xs) h = go (none_or (judged_by (pictures n) (reverse xs)) (option_map (stop_at (length (reverse xs)) u.place) (objection n (of_units (u ∷ xs)))) (sym (judged-is n u xs) ∙ h)) (accepts n xs)
  where
    us : List (List ℕ)
    us = map (λ (u : NalUnit). u.bytes) xs

    go : (judged_by (pictures n) (reverse xs) ≡ None) × (option_map (stop_at (length (reverse xs)) u.place) (objection n (of_units (u ∷ xs))) ≡ None) →
        (judged_by (pictures n) (reverse xs) ≡ None → (breaks_none (of_units xs) ≡ true) × HasSet n (of_units xs)) →
        (breaks_none (of_units (u ∷ xs)) ≡ true) × HasSet n (of_units (u ∷ xs))
    go parts rest =
        let now : (is_none (least_rule (of_units xs) (this_judged (map (λ (u : NalUnit). u.bytes) xs) u.bytes)) ≡ true) × (lacking n (this_judged (map (λ (u : NalUnit). u.bytes) xs) u.bytes).fact.placed.item ≡ None) =
        said n (this_judged (map (λ (u : NalUnit). u.bytes) xs) u.bytes) (of_units xs) (none_map (stop_at (length (reverse xs)) u.place) (objection n (of_units (u ∷ xs))) parts.1) in
        let before : (breaks_none (of_units xs) ≡ true) × HasSet n (of_units xs) = rest parts.0 in (
          and_from (is_none (least_rule (of_units xs) (this_judged (map (λ (u : NalUnit). u.bytes) xs) u.bytes))) (breaks_none (of_units xs)) now.0 before.0,
          All-cons (λ (d : Judged). lacking n d.fact.placed.item ≡ None) (this_judged (map (λ (u : NalUnit). u.bytes) xs) u.bytes) (of_units xs) now.1 before.1,
        )

is-accepted : (n : ℕ) (xs : List NalUnit) → breaks_none (of_units xs) ≡ true → HasSet n (of_units xs) → judged_by (pictures n) (reverse xs) ≡ None
unfolding items run all_placed facts history breaks_none
is-accepted n [] h has = judged-nothing (pictures n)
is-accepted n (u ∷ xs) h has =
    let parts : (is_none (least_rule (of_units xs) (this_judged (map (λ (u : NalUnit). u.bytes) xs) u.bytes)) ≡ true) × (breaks_none (of_units xs) ≡ true) =
    and_parts (is_none (least_rule (of_units xs) (this_judged (map (λ (u : NalUnit). u.bytes) xs) u.bytes))) (breaks_none (of_units xs)) h in
    judged-is n u xs
    ∙ ap (λ x. option_or x (option_map (stop_at (length (reverse xs)) u.place) (objection n (of_units (u ∷ xs)))))
    (is-accepted n xs parts.1 (All-tail (λ (d : Judged). lacking n d.fact.placed.item ≡ None) (this_judged (map (λ (u : NalUnit). u.bytes) xs) u.bytes) (of_units xs) has))
    ∙ ap (option_map (stop_at (length (reverse xs)) u.place))
    (unsaid n (this_judged (map (λ (u : NalUnit). u.bytes) xs) u.bytes) (of_units xs) parts.0
    (All-head (λ (d : Judged). lacking n d.fact.placed.item ≡ None) (this_judged (map (λ (u : NalUnit). u.bytes) xs) u.bytes) (of_units xs) has))

-- ---- Byte strings

ending-is : (n : ℕ) (us : List NalUnit) → (pictures n).ending us ≡ None → no_picture (history_of (bytes_of us)) ≡ false
unfolding pictures
ending-is n us h = go (no_picture (history_of (bytes_of us))) h
  where
    go : (b : Bool) → cond b (Some (Objection.Breaks Rule.NoPicture)) None ≡ None → b ≡ false
    go true h = absurd (cc)
    go false h = refl

ending-none : (n : ℕ) (us : List NalUnit) → no_picture (history_of (bytes_of us)) ≡ false → (pictures n).ending us ≡ None
unfolding pictures
ending-none n us h = ap (λ b. cond b (Some (Objection.Breaks Rule.NoPicture)) None) h

-- a byte string that is accepted: no rule on a unit's own bytes, nothing said of a unit, and nothing of the end
record IsQuiet (n : ℕ) (s : List ℕ) : Type 0 where
  pub shown : refusal_shown true s ≡ None
  pub said : judged_by (pictures n) (units s) ≡ None
  pub ending : (pictures n).ending (units s) ≡ None

abbrev shows : ℕ → List ℕ → Option Refusal → Option Stop
shows n s r = elim r [
  | Some r ↦ option_or (judged_by (pictures n) (take r.unit (units s))) (Some (refused_at r))
  | None ↦ option_or (judged_by (pictures n) (units s)) (end_stop byte_stream (pictures n) s)
]

quiet : (n : ℕ) (s : List ℕ) → event n s ≡ None → IsQuiet n s
unfolding event
quiet n s h = go (refusal_shown true s) refl h
  where
    go : (r : Option Refusal) → refusal_shown true s ≡ r →
        shows n s r ≡ None → IsQuiet n s
    go (Some r) is h = absurd (let last : Some (refused_at r) ≡ None = (none_or (judged_by (pictures n) (take r.unit (units s))) (Some (refused_at r)) h).1 in cc)
    go None is h =
        let parts = none_or (judged_by (pictures n) (units s)) (end_stop byte_stream (pictures n) s) h in
        record { shown = is; said = parts.0; ending = none_map (stop_at (length (units s)) (length s)) ((pictures n).ending (units s)) parts.1 }

unquiet : (n : ℕ) (s : List ℕ) → IsQuiet n s → event n s ≡ None
unfolding event
unquiet n s h =
    ap (shows n s) h.shown
    ∙ ap (λ x. option_or x (end_stop byte_stream (pictures n) s)) h.said
    ∙ ap (option_map (stop_at (length (units s)) (length s))) h.ending

units-latest : (us : List NalUnit) → history_of (bytes_of us) ≡ of_units (reverse us)
units-latest us = ap (λ us. history_of (bytes_of us)) (sym (reverse-reverse us)) ∙ of_units-is (reverse us)

-- accepted bytes are accepted units, and each video parameter set has the set that is asked for
quiet-accepted : (n : ℕ) (s : List ℕ) → IsQuiet n s → is_accepted (bytes_of (units s)) ≡ true
unfolding is_accepted
quiet-accepted n s h =
    and_from (breaks_none (history_of (bytes_of (units s)))) (not (no_picture (history_of (bytes_of (units s)))))
    (ap breaks_none (units-latest (units s)) ∙ (accepts n (reverse (units s)) (ap (judged_by (pictures n)) (reverse-reverse (units s)) ∙ h.said)).0)
    (ap not (ending-is n (units s) h.ending))

quiet-has : (n : ℕ) (s : List ℕ) → IsQuiet n s → HasSet n (history_of (bytes_of (units s)))
quiet-has n s h =
    subst (HasSet n) (sym (units-latest (units s))) (accepts n (reverse (units s)) (ap (judged_by (pictures n)) (reverse-reverse (units s)) ∙ h.said)).1

All-reverse : {A : Type 0} (P : A → Type 0) (xs : List A) → All P xs → All P (reverse xs)
All-reverse P [] h = h
All-reverse P (x ∷ xs) h =
    subst (All P) (sym (reverse-append (x ∷ []) xs)) (All-append P (reverse xs) (x ∷ []) (All-reverse P xs (All-tail P x xs h)) (All-cons P x [] (All-head P x xs h) (All-nil P)))

-- what holds of the bytes of each unit holds of the kept ones
extract-all : (P : List ℕ → Type 0) (us : List (List ℕ)) (o : ℕ) → All P us → All P (extract us o)
extract-all P us o h =
    subst (All P) (sym (extract-of us o))
    (All-reverse P (kept_units o (reverse us))
    (All-map P (λ (i : Item). i.bytes) (filter (stays o) (items (reverse us)))
    (All-filter (stays o) (λ (i : Item). P i.bytes) (items (reverse us))
    (All-unmap P (λ (i : Item). i.bytes) (items (reverse us)) (subst (All P) (sym (items-bytes (reverse us))) (All-reverse P us h))))))

framable : (n : ℕ) (s : List ℕ) (o : ℕ) → IsQuiet n s → All IsFramable (extract (bytes_of (units s)) o)
framable n s o h = extract-all IsFramable (bytes_of (units s)) o (accepted-framable s h.shown)

pub units-extract : (n : ℕ) (s : List ℕ) (o : ℕ) → event n s ≡ None → bytes_of (units (frame (extract (bytes_of (units s)) o))) ≡ extract (bytes_of (units s)) o
units-extract n s o h = units-frame (extract (bytes_of (units s)) o) (framable n s o (quiet n s h))

pub event-extract : (n : ℕ) (s : List ℕ) (o : ℕ) → event n s ≡ None → event n (frame (extract (bytes_of (units s)) o)) ≡ None
event-extract n s o h = unquiet n (frame (extract (bytes_of (units s)) o)) (record { shown = shown; said = said_none; ending = ends })
  where
    x : List (List ℕ)
    x = extract (bytes_of (units s)) o

    same : bytes_of (units (frame (extract (bytes_of (units s)) o))) ≡ extract (bytes_of (units s)) o
    same = units-extract n s o h

    accepted : is_accepted (bytes_of (units s)) ≡ true
    accepted = quiet-accepted n s (quiet n s h)

    shown : refusal_shown true (frame (extract (bytes_of (units s)) o)) ≡ None
    shown = shown-nothing (frame (extract (bytes_of (units s)) o)) (leading-frame (extract (bytes_of (units s)) o))
        (All-unmap (λ bytes. unit_rule bytes ≡ None) (λ (u : NalUnit). u.bytes) (units (frame (extract (bytes_of (units s)) o)))
        (subst (All (λ bytes. unit_rule bytes ≡ None)) (sym same)
        (extract-all (λ bytes. unit_rule bytes ≡ None) (bytes_of (units s)) o
        (All-map (λ bytes. unit_rule bytes ≡ None) (λ (u : NalUnit). u.bytes) (units s) (shown-clean true s (quiet n s h).shown)))))

    parts : (breaks_none (history_of (extract (bytes_of (units s)) o)) ≡ true) × (not (no_picture (history_of (extract (bytes_of (units s)) o))) ≡ true)
    parts = unfold is_accepted in and_parts (breaks_none (history_of (extract (bytes_of (units s)) o))) (not (no_picture (history_of (extract (bytes_of (units s)) o)))) (extract-accepted (bytes_of (units s)) o accepted)

    there : of_units (reverse (units (frame (extract (bytes_of (units s)) o)))) ≡ history_of (extract (bytes_of (units s)) o)
    there = sym (units-latest (units (frame (extract (bytes_of (units s)) o)))) ∙ ap history_of same

    has : HasSet n (history_of (extract (bytes_of (units s)) o))
    has = subst (HasSet n) (sym (history-extract (bytes_of (units s)) o accepted))
        (All-filter (is_kept o) (λ (d : Judged). lacking n d.fact.placed.item ≡ None) (history_of (bytes_of (units s))) (quiet-has n s (quiet n s h)))

    said_none : judged_by (pictures n) (units (frame (extract (bytes_of (units s)) o))) ≡ None
    said_none = ap (judged_by (pictures n)) (sym (reverse-reverse (units (frame (extract (bytes_of (units s)) o)))))
        ∙ is-accepted n (reverse (units (frame (extract (bytes_of (units s)) o)))) (ap breaks_none there ∙ parts.0) (subst (HasSet n) (sym there) has)

    ends : (pictures n).ending (units (frame (extract (bytes_of (units s)) o))) ≡ None
    ends = ending-none n (units (frame (extract (bytes_of (units s)) o))) (ap (λ us. no_picture (history_of us)) same ∙ not_true (no_picture (history_of (extract (bytes_of (units s)) o))) parts.1)
      where
        not_true : (b : Bool) → not b ≡ true → b ≡ false
        not_true true h = absurd (let wrong : false ≡ true = h in cc)
        not_true false h = refl

pub event-accepted : (n : ℕ) (s : List ℕ) → event n s ≡ None → is_accepted (bytes_of (units s)) ≡ true
event-accepted n s h = quiet-accepted n s (quiet n s h)

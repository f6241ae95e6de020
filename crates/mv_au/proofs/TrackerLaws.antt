-- What each rule on access units asks is told by the head of the access unit's latest picture.
use Rattle.std.proofs.Common.{◌≡◌, ℕ, ◌+◌, ◌<◌, ◌≤◌, Bool, true, false, cond, not, ◌&&◌, ◌||◌, List, [], ◌∷◌, filter, length, Option, Some, None, refl, ap, sym, ◌∙◌, subst, if◌then◌else◌, arith}
use Rattle.std.specs.Prelude.{nat_eq, nat_le, All, option_map, is_some, is_none, Result, Ok, Err}
use Rattle.std.specs.List.{find, last_or, list_any}
use Rattle.std.proofs.lemmas.Bool.{and_left, and_parts, and_right, cond-false, cond-true, eq-eqb, eqb-true, leb-false, lt-leb, ne_eqb, not-false}
use Rattle.std.proofs.lemmas.List.Elements.{All-nil, All-cons, All-head, All-tail, All-weaker}
use Rattle.mv_syntax.specs.Words.{◌otherwise◌}
use Rattle.mv_history.specs.History.{Throughout, run}
use Rattle.mv_rules.specs.declared.rule.Rule.{Rule}
use Rattle.mv_units.specs.declared.head.UnitHead.{UnitHead}
use Rattle.mv_pictures.specs.Kinds.{is_opening_kind, is_slice_kind}
use Rattle.mv_pictures.specs.Items.{Item, is_known, is_slice, is_picture, is_first_segment}
use Rattle.mv_pictures.specs.AccessUnits.{Placed, all_placed, begins, first_slice_of, has_slices, in_au, is_own_picture, is_trigger, layer, layer_order, no_base, number, orphan_slice, pictures_of, placed, slices_of, tid, tid_differs}
use Rattle.mv_pictures.specs.Rules.{Case, case}
use Rattle.mv_au.specs.declared.access_units.AuStep.{AuStep}
use Rattle.mv_au.specs.TrackerValue.{TrackerValue}
use Rattle.mv_au.specs.Tracker.{IsTold, Stands, answer, broken, cases, latest_au, latest_base, latest_picture}
use Rattle.mv_au.specs.Tracking.{begins_by, joined, open_at, opens}

-- ---- One unit more of an access unit

slices-out : (n : ℕ) (p : Placed) (past : List Placed) → is_slice p.item ≡ false → slices_of n (p ∷ past) ≡ slices_of n past
unfolding slices_of
slices-out n p past e = cond-false (is_slice p.item && in_au n p) (p ∷ slices_of n past) (slices_of n past) (and_left (is_slice p.item) (in_au n p) e)

both : (a b : Bool) → a ≡ true → b ≡ true → (a && b) ≡ true
both true true e f = refl
both true false e f = f
both false b e f = e

slices-in : (n : ℕ) (p : Placed) (past : List Placed) → is_slice p.item ≡ true → p.au ≡ n → slices_of n (p ∷ past) ≡ p ∷ slices_of n past
unfolding slices_of
slices-in n p past e here = cond-true (is_slice p.item && in_au n p) (p ∷ slices_of n past) (slices_of n past) (both (is_slice p.item) (in_au n p) e (eq-eqb p.au n here))

pictures-out : (n : ℕ) (p : Placed) (past : List Placed) → is_picture p.item ≡ false → pictures_of n (p ∷ past) ≡ pictures_of n past
unfolding pictures_of
pictures-out n p past e = cond-false (is_picture p.item && in_au n p) (p ∷ pictures_of n past) (pictures_of n past) (and_left (is_picture p.item) (in_au n p) e)

pictures-in : (n : ℕ) (p : Placed) (past : List Placed) → is_picture p.item ≡ true → p.au ≡ n → pictures_of n (p ∷ past) ≡ p ∷ pictures_of n past
unfolding pictures_of
pictures-in n p past e here = cond-true (is_picture p.item && in_au n p) (p ∷ pictures_of n past) (pictures_of n past) (both (is_picture p.item) (in_au n p) e (eq-eqb p.au n here))

pub latest-out : (n : ℕ) (p : Placed) (past : List Placed) → is_picture p.item ≡ false → latest_picture n (p ∷ past) ≡ latest_picture n past
unfolding latest_picture
latest-out n p past e = cond-false (is_picture p.item && in_au n p) (Some p) (latest_picture n past) (and_left (is_picture p.item) (in_au n p) e)

pub latest-in : (n : ℕ) (p : Placed) (past : List Placed) → is_picture p.item ≡ true → p.au ≡ n → latest_picture n (p ∷ past) ≡ Some p
unfolding latest_picture
latest-in n p past e here = cond-true (is_picture p.item && in_au n p) (Some p) (latest_picture n past) (both (is_picture p.item) (in_au n p) e (eq-eqb p.au n here))

-- ---- What is asked of access unit n

abbrev told : (Placed → Bool) → Option Placed → Bool
told test o = option_map test o otherwise false

abbrev within : ℕ → ℕ → Placed → Bool
within n l q = nat_eq (layer q) l && in_au n q

abbrev last : List Placed → Option Placed
last past = find (λ (q : Placed). is_picture q.item) past

pub record At (n : ℕ) (past : List Placed) : Type 0 where
  pub empty : nat_eq (length (slices_of n past)) 0 ≡ is_none (latest_picture n past)
  pub tid_is : option_map tid (first_slice_of n past) ≡ option_map tid (latest_picture n past)
  pub layers : (l : ℕ) → list_any (λ (q : Placed). nat_le l (layer q)) (pictures_of n past) ≡ told (λ q. nat_le l (layer q)) (latest_picture n past)
  pub latest : (l : ℕ) → told (within n l) (last past) ≡ told (λ q. nat_eq (layer q) l) (latest_picture n past)
  pub based : is_none (latest_picture n past) ≡ false → option_map (in_au n) (latest_base past) ≡ Some true

abbrev UpTo : ℕ → Placed → Type 0
UpTo n q = q.au ≤ n

module _ (n m : ℕ) (lt : n < m) where
  out : (q : Placed) → UpTo n q → in_au m q ≡ false
  out q le = ne_eqb q.au m (λ e. omega (arith, lt, le, e))

  none_filtered : (test : Placed → Bool) (past : List Placed) → All (UpTo n) past → filter (λ (q : Placed). test q && in_au m q) past ≡ []
  none_filtered test [] h = refl
  none_filtered test (q ∷ past) h =
      cond-false (test q && in_au m q) (q ∷ filter (λ (q : Placed). test q && in_au m q) past) (filter (λ (q : Placed). test q && in_au m q) past)
      (and_right (test q) (in_au m q) (out q (All-head (UpTo n) q past h)))
      ∙ none_filtered test past (All-tail (UpTo n) q past h)

  none_found : (test : Placed → Bool) (past : List Placed) → All (UpTo n) past → find (λ (q : Placed). test q && in_au m q) past ≡ None
  none_found test [] h = refl
  none_found test (q ∷ past) h =
      cond-false (test q && in_au m q) (Some q) (find (λ (q : Placed). test q && in_au m q) past) (and_right (test q) (in_au m q) (out q (All-head (UpTo n) q past h)))
      ∙ none_found test past (All-tail (UpTo n) q past h)

  none_last : (l : ℕ) (past : List Placed) → All (UpTo n) past → told (within m l) (last past) ≡ false
  none_last l [] h = refl
  none_last l (q ∷ past) h = go (is_picture q.item) (none_last l past (All-tail (UpTo n) q past h))
    where
      go : (b : Bool) → told (within m l) (last past) ≡ false → told (within m l) (cond b (Some q) (last past)) ≡ false
      go true rest = and_right (nat_eq (layer q) l) (in_au m q) (out q (All-head (UpTo n) q past h))
      go false rest = rest

  pub none_latest : (past : List Placed) → All (UpTo n) past → latest_picture m past ≡ None
  unfolding latest_picture
  none_latest past h = none_found (λ (q : Placed). is_picture q.item) past h

  pub At-empty : (past : List Placed) → All (UpTo n) past → At m past
  unfolding slices_of first_slice_of pictures_of
  At-empty past h =
      let e : slices_of m past ≡ [] = none_filtered (λ (q : Placed). is_slice q.item) past h in
      let f : latest_picture m past ≡ None = none_latest past h in
      record {
        empty = ap (λ xs. nat_eq (length xs) 0) e ∙ sym (ap is_none f);
        tid_is = ap (λ xs. option_map tid (last_or None xs)) e ∙ sym (ap (option_map tid) f);
        layers = λ l. ap (list_any (λ (q : Placed). nat_le l (layer q))) (none_filtered (λ (q : Placed). is_picture q.item) past h) ∙ sym (ap (told (λ q. nat_le l (layer q))) f);
        latest = λ l. none_last l past h ∙ sym (ap (told (λ q. nat_eq (layer q) l)) f);
        based = λ some. absurd (let wrong : true ≡ false = sym (ap is_none f) ∙ some in cc);
      }

-- ---- None of the rules is broken

rule_in : (a b c d : Bool) → Option Rule
rule_in a b c d = option_map (λ (c : Case). c.rule) (find (λ (c : Case). c.holds) (case Rule.NoBase a ∷ case Rule.LayerOrder b ∷ case Rule.OrphanSlice c ∷ case Rule.TidDiffers d ∷ []))

record Fine (past : List Placed) (p : Placed) : Type 0 where
  base : no_base past p ≡ false
  order : layer_order past p ≡ false
  whole : orphan_slice past p ≡ false
  same : tid_differs past p ≡ false

fine : (past : List Placed) (p : Placed) → broken past p ≡ None → Fine past p
unfolding broken cases rule_in
fine past p h =
    let parts = go (no_base past p) (layer_order past p) (orphan_slice past p) (tid_differs past p) h in
    record { base = parts.0; order = parts.1.0; whole = parts.1.1.0; same = parts.1.1.1 }
  where
    go : (a b c d : Bool) → rule_in a b c d ≡ None → (a ≡ false) × ((b ≡ false) × ((c ≡ false) × (d ≡ false)))
    go false false false false h = (refl, (refl, (refl, refl)))
    go false false false true h = absurd (let wrong : Some Rule.TidDiffers ≡ None = h in cc)
    go false false true d h = absurd (let wrong : Some Rule.OrphanSlice ≡ None = h in cc)
    go false true c d h = absurd (let wrong : Some Rule.LayerOrder ≡ None = h in cc)
    go true b c d h = absurd (let wrong : Some Rule.NoBase ≡ None = h in cc)

-- a picture is a slice segment
picture_slice : (i : Item) → is_picture i ≡ true → is_slice i ≡ true
picture_slice i h = (and_parts (is_slice i) (is_first_segment i.opening) h).0

no_picture : (i : Item) → is_slice i ≡ false → is_picture i ≡ false
no_picture i h = and_left (is_slice i) (is_first_segment i.opening) h

some_more : (p : Placed) (xs : List Placed) → nat_eq (length (p ∷ xs)) 0 ≡ false
some_more p xs = ne_eqb (length (p ∷ xs)) 0 (λ e. omega (arith, e))

last_more : (p : Placed) (xs : List Placed) → nat_eq (length xs) 0 ≡ false → last_or None (p ∷ xs) ≡ last_or None xs
last_more p [] h = absurd (let wrong : true ≡ false = h in cc)
last_more p (x ∷ xs) h = refl

tid_from : (t : ℕ) (a : Placed) (xs : List Placed) → told (λ q. not (nat_eq t (tid q))) (last_or (Some a) xs) ≡ false → option_map tid (last_or (Some a) xs) ≡ Some t
tid_from t a [] h = ap Some (sym (eqb-true t (tid a) (not-false (nat_eq t (tid a)) h)))
tid_from t a (x ∷ xs) h = tid_from t x xs h

tid_more : (p : Placed) (xs : List Placed) → told (λ q. not (nat_eq (tid p) (tid q))) (last_or None xs) ≡ false → option_map tid (last_or None (p ∷ xs)) ≡ Some (tid p)
tid_more p [] h = refl
tid_more p (x ∷ xs) h = tid_from (tid p) x xs h

told_some : (test : Placed → Bool) (o : Option Placed) → told test o ≡ true → is_none o ≡ false
told_some test None h = sym h
told_some test (Some q) h = refl

and_true : (b : Bool) → (b && true) ≡ b
and_true true = refl
and_true false = refl

or_false : (b : Bool) → (b || false) ≡ b
or_false true = refl
or_false false = refl

-- layers that rise are told by the last of them
above : (p : Placed) (o : Option Placed) → told (λ q. nat_le (layer p) (layer q)) o ≡ false → (l : ℕ) → (nat_le l (layer p) || told (λ q. nat_le l (layer q)) o) ≡ nat_le l (layer p)
above p None h l = or_false (nat_le l (layer p))
above p (Some q) h l = go (nat_le l (layer p)) refl
  where
    go : (b : Bool) → nat_le l (layer p) ≡ b → (b || nat_le l (layer q)) ≡ b
    go true e = refl
    go false e =
        let higher : layer p < l = leb-false l (layer p) e in
        let lower : layer q < layer p = leb-false (layer p) (layer q) h in
        lt-leb l (layer q) (omega (arith, higher, lower))

module _ (n : ℕ) (past : List Placed) (p : Placed) (here : p.au ≡ n) (at : At n past) where
  base-out : is_picture p.item ≡ false → latest_base (p ∷ past) ≡ latest_base past
  unfolding latest_base
  base-out f = cond-false (nat_eq (layer p) 0 && is_picture p.item) (Some p) (latest_base past) (and_right (nat_eq (layer p) 0) (is_picture p.item) f)

  -- behind a picture the latest picture of layer 0 is one of its access unit
  pub has_base : is_picture p.item ≡ true → nat_eq (layer p) 0 ≡ false → no_base past p ≡ false → option_map (in_au n) (latest_base past) ≡ Some true
  unfolding no_base
  has_base f e none =
      at.based
      (sym at.empty
      ∙ ap (λ a. nat_eq (length (slices_of a past)) 0) (sym here)
      ∙ sym (ap (λ b. b && not (nat_eq (layer p) 0) && nat_eq (length (slices_of p.au past)) 0) (picture_slice p.item f) ∙ ap (λ b. not b && nat_eq (length (slices_of p.au past)) 0) e)
      ∙ none)

  base-picture : is_picture p.item ≡ true → no_base past p ≡ false → option_map (in_au n) (latest_base (p ∷ past)) ≡ Some true
  unfolding latest_base
  base-picture f none = go (nat_eq (layer p) 0) refl
    where
      go : (b : Bool) → nat_eq (layer p) 0 ≡ b → option_map (in_au n) (cond (nat_eq (layer p) 0 && is_picture p.item) (Some p) (latest_base past)) ≡ Some true
      go true e = ap (option_map (in_au n)) (cond-true (nat_eq (layer p) 0 && is_picture p.item) (Some p) (latest_base past) (both (nat_eq (layer p) 0) (is_picture p.item) e f)) ∙ ap Some (eq-eqb p.au n here)
      go false e = ap (option_map (in_au n)) (cond-false (nat_eq (layer p) 0 && is_picture p.item) (Some p) (latest_base past) (and_left (nat_eq (layer p) 0) (is_picture p.item) e)) ∙ has_base f e none

  At-other : is_slice p.item ≡ false → At n (p ∷ past)
  unfolding first_slice_of
  At-other e =
      let f : is_picture p.item ≡ false = no_picture p.item e in
      let slices : slices_of n (p ∷ past) ≡ slices_of n past = slices-out n p past e in
      let latest : latest_picture n (p ∷ past) ≡ latest_picture n past = latest-out n p past f in
      record {
        empty = ap (λ xs. nat_eq (length xs) 0) slices ∙ at.empty ∙ sym (ap is_none latest);
        tid_is = ap (λ xs. option_map tid (last_or None xs)) slices ∙ at.tid_is ∙ sym (ap (option_map tid) latest);
        layers = λ l. ap (list_any (λ (q : Placed). nat_le l (layer q))) (pictures-out n p past f) ∙ at.layers l ∙ sym (ap (told (λ q. nat_le l (layer q))) latest);
        latest = λ l. ap (told (within n l)) (cond-false (is_picture p.item) (Some p) (last past) f) ∙ at.latest l ∙ sym (ap (told (λ q. nat_eq (layer q) l)) latest);
        based = λ some. ap (option_map (in_au n)) (base-out f) ∙ at.based (sym (ap is_none latest) ∙ some);
      }

  -- a segment that isn't a first one has its picture before it
  pub has_picture : is_slice p.item ≡ true → is_picture p.item ≡ false → orphan_slice past p ≡ false → is_none (latest_picture n past) ≡ false
  unfolding orphan_slice is_own_picture
  has_picture e f h =
      let own : not (told (within p.au (layer p)) (last past)) ≡ false =
      sym (ap (λ b. b && not (is_picture p.item) && not (told (within p.au (layer p)) (last past))) e ∙ ap (λ b. not b && not (told (within p.au (layer p)) (last past))) f) ∙ h in
      told_some (λ q. nat_eq (layer q) (layer p)) (latest_picture n past)
      (sym (at.latest (layer p)) ∙ ap (λ a. told (within a (layer p)) (last past)) (sym here) ∙ not-false (told (within p.au (layer p)) (last past)) own)

  At-segment : is_slice p.item ≡ true → is_picture p.item ≡ false → orphan_slice past p ≡ false → At n (p ∷ past)
  unfolding first_slice_of
  At-segment e f h =
      let slices : slices_of n (p ∷ past) ≡ p ∷ slices_of n past = slices-in n p past e here in
      let latest : latest_picture n (p ∷ past) ≡ latest_picture n past = latest-out n p past f in
      let there : is_none (latest_picture n past) ≡ false = has_picture e f h in
      record {
        empty = ap (λ xs. nat_eq (length xs) 0) slices ∙ some_more p (slices_of n past) ∙ sym there ∙ sym (ap is_none latest);
        tid_is = ap (λ xs. option_map tid (last_or None xs)) slices ∙ ap (option_map tid) (last_more p (slices_of n past) (at.empty ∙ there)) ∙ at.tid_is ∙ sym (ap (option_map tid) latest);
        layers = λ l. ap (list_any (λ (q : Placed). nat_le l (layer q))) (pictures-out n p past f) ∙ at.layers l ∙ sym (ap (told (λ q. nat_le l (layer q))) latest);
        latest = λ l. ap (told (within n l)) (cond-false (is_picture p.item) (Some p) (last past) f) ∙ at.latest l ∙ sym (ap (told (λ q. nat_eq (layer q) l)) latest);
        based = λ some. ap (option_map (in_au n)) (base-out f) ∙ at.based (sym (ap is_none latest) ∙ some);
      }

  At-picture : is_picture p.item ≡ true → no_base past p ≡ false → layer_order past p ≡ false → tid_differs past p ≡ false → At n (p ∷ past)
  unfolding first_slice_of layer_order tid_differs
  At-picture f none order same =
      let slices : slices_of n (p ∷ past) ≡ p ∷ slices_of n past = slices-in n p past (picture_slice p.item f) here in
      let latest : latest_picture n (p ∷ past) ≡ Some p = latest-in n p past f here in
      let alike : told (λ q. not (nat_eq (tid p) (tid q))) (last_or None (slices_of n past)) ≡ false =
      ap (λ a. told (λ q. not (nat_eq (tid p) (tid q))) (last_or None (slices_of a past))) (sym here) ∙ sym (ap (λ b. b && told (λ q. not (nat_eq (tid p) (tid q))) (last_or None (slices_of p.au past))) f) ∙ same in
      let lower : list_any (λ (q : Placed). nat_le (layer p) (layer q)) (pictures_of n past) ≡ false =
      ap (λ a. list_any (λ (q : Placed). nat_le (layer p) (layer q)) (pictures_of a past)) (sym here) ∙ sym (ap (λ b. b && list_any (λ (q : Placed). nat_le (layer p) (layer q)) (pictures_of p.au past)) f) ∙ order in
      record {
        empty = ap (λ xs. nat_eq (length xs) 0) slices ∙ some_more p (slices_of n past) ∙ sym (ap is_none latest);
        tid_is = ap (λ xs. option_map tid (last_or None xs)) slices ∙ tid_more p (slices_of n past) alike ∙ sym (ap (option_map tid) latest);
        layers = λ l.
            ap (list_any (λ (q : Placed). nat_le l (layer q))) (pictures-in n p past f here)
            ∙ ap (λ b. nat_le l (layer p) || b) (at.layers l)
            ∙ above p (latest_picture n past) (sym (at.layers (layer p)) ∙ lower) l
            ∙ sym (ap (told (λ q. nat_le l (layer q))) latest);
        latest = λ l.
            ap (told (within n l)) (cond-true (is_picture p.item) (Some p) (last past) f)
            ∙ ap (λ b. nat_eq (layer p) l && b) (eq-eqb p.au n here)
            ∙ and_true (nat_eq (layer p) l)
            ∙ sym (ap (told (λ q. nat_eq (layer q) l)) latest);
        based = λ some. base-picture f none;
      }

  pub At-more : broken past p ≡ None → At n (p ∷ past)
  At-more h = go (is_slice p.item) (is_picture p.item) refl refl
    where
      all : Fine past p
      all = fine past p h

      go : (s f : Bool) → is_slice p.item ≡ s → is_picture p.item ≡ f → At n (p ∷ past)
      go s true e f = At-picture f all.base all.order all.same
      go true false e f = At-segment e f all.whole
      go false false e f = At-other e

-- ---- What is kept of an accepted history

pub record Framed (past : List Placed) : Type 0 where
  pub below : All (UpTo (latest_au past)) past
  pub at : At (latest_au past) past
  pub slices : has_slices past ≡ is_some (latest_picture (latest_au past) past)

module _ (past : List Placed) (i : Item) (framed : Framed past) where
  abbrev this : Placed
  this = placed past i

  pub latest_au-more : latest_au (this ∷ past) ≡ this.au
  unfolding latest_au placed number
  latest_au-more = go (begins past i)
    where
      go : (b : Bool) → length (cond b (this ∷ filter (λ (q : Placed). q.begins) past) (filter (λ (q : Placed). q.begins) past)) ≡ length (filter (λ (q : Placed). q.begins) past) + (if b then 1 else 0)
      go true = omega arith
      go false = omega arith

  number-at : (b : Bool) → begins past i ≡ b → this.au ≡ latest_au past + (if b then 1 else 0)
  unfolding latest_au placed number
  number-at b e = ap (λ b. length (filter (λ (q : Placed). q.begins) past) + (if b then 1 else 0)) e

  pub At-here : At this.au past
  At-here = go (begins past i) refl
    where
      go : (b : Bool) → begins past i ≡ b → At this.au past
      go true e = let n : this.au ≡ latest_au past + 1 = number-at true e in At-empty (latest_au past) this.au (omega (arith, n)) past framed.below
      go false e = let n : this.au ≡ latest_au past + 0 = number-at false e in let m : latest_au past ≡ this.au = omega (arith, n) in subst (λ n. At n past) m framed.at

  pub latest-here : latest_picture this.au past ≡ (if begins past i then None else latest_picture (latest_au past) past)
  latest-here = go (begins past i) refl
    where
      go : (b : Bool) → begins past i ≡ b → latest_picture this.au past ≡ cond b None (latest_picture (latest_au past) past)
      go true e = let n : this.au ≡ latest_au past + 1 = number-at true e in none_latest (latest_au past) this.au (omega (arith, n)) past framed.below
      go false e = let n : this.au ≡ latest_au past + 0 = number-at false e in let m : this.au ≡ latest_au past = omega (arith, n) in ap (λ n. latest_picture n past) m

  below-more : All (UpTo (latest_au (this ∷ past))) (this ∷ past)
  below-more =
      let n : latest_au (this ∷ past) ≡ this.au = latest_au-more in
      All-cons (UpTo (latest_au (this ∷ past))) this past (omega (arith, n))
      (All-weaker (UpTo (latest_au past)) (UpTo (latest_au (this ∷ past))) (λ q le. let m : latest_au past ≤ this.au = higher (begins past i) refl in omega (arith, n, m, le)) past framed.below)
    where
      higher : (b : Bool) → begins past i ≡ b → latest_au past ≤ this.au
      higher true e = let n : this.au ≡ latest_au past + 1 = number-at true e in omega (arith, n)
      higher false e = let n : this.au ≡ latest_au past + 0 = number-at false e in omega (arith, n)

  slices-picture : is_picture i ≡ true → has_slices (this ∷ past) ≡ is_some (latest_picture this.au (this ∷ past))
  unfolding has_slices placed
  slices-picture f =
      let s : is_slice i ≡ true = picture_slice i f in
      ap (λ b. option_map (λ (q : Placed). is_slice q.item) (cond (b || is_trigger i) (Some this) (find (λ (q : Placed). is_slice q.item || is_trigger q.item) past)) otherwise false) s
      ∙ s ∙ sym (ap is_some (latest-in this.au this past f refl))

  some_none : (o : Option Placed) → is_none o ≡ false → is_some o ≡ true
  some_none None h = sym h
  some_none (Some q) h = refl

  slices-segment : is_slice i ≡ true → is_picture i ≡ false → orphan_slice past this ≡ false → has_slices (this ∷ past) ≡ is_some (latest_picture this.au (this ∷ past))
  unfolding has_slices placed
  slices-segment s f h =
      ap (λ b. option_map (λ (q : Placed). is_slice q.item) (cond (b || is_trigger i) (Some this) (find (λ (q : Placed). is_slice q.item || is_trigger q.item) past)) otherwise false) s
      ∙ s ∙ sym (ap is_some (latest-out this.au this past f) ∙ some_none (latest_picture this.au past) (has_picture this.au past this refl At-here s f h))

  slices-other : is_slice i ≡ false → has_slices (this ∷ past) ≡ is_some (latest_picture this.au (this ∷ past))
  unfolding has_slices placed begins
  slices-other s =
      ap (λ b. option_map (λ (q : Placed). is_slice q.item) (cond (b || is_trigger i) (Some this) (find (λ (q : Placed). is_slice q.item || is_trigger q.item) past)) otherwise false) s
      ∙ go (is_trigger i) (has_slices past) refl framed.slices
      ∙ sym (ap is_some (latest-out this.au this past (no_picture i s) ∙ latest-here))
    where
      rest : Option Placed
      rest = latest_picture (latest_au past) past

      before : Option Placed
      before = find (λ (q : Placed). is_slice q.item || is_trigger q.item) past

      go : (t h : Bool) → told (λ q. is_slice q.item) before ≡ h → h ≡ is_some rest → told (λ q. is_slice q.item) (cond t (Some this) before) ≡ is_some (cond (t && h) None rest)
      go true true b e = s
      go true false b e = s ∙ e
      go false h b e = b ∙ e

  pub Framed-more : broken past this ≡ None → Framed (this ∷ past)
  Framed-more h = record {
    below = below-more;
    at = subst (λ n. At n (this ∷ past)) (sym latest_au-more) (At-more this.au past this refl At-here h);
    slices = go (is_slice i) (is_picture i) refl refl ∙ ap (λ n. is_some (latest_picture n (this ∷ past))) (sym latest_au-more);
  }
    where
      all : Fine past this
      all = fine past this h

      go : (s f : Bool) → is_slice i ≡ s → is_picture i ≡ f → has_slices (this ∷ past) ≡ is_some (latest_picture this.au (this ∷ past))
      go s true e f = slices-picture f
      go true false e f = slices-segment e f all.whole
      go false false e f = slices-other e

At-none : At 0 []
unfolding slices_of first_slice_of pictures_of latest_picture
At-none = record { empty = refl; tid_is = refl; layers = λ l. refl; latest = λ l. refl; based = λ h. absurd (let wrong : true ≡ false = h in cc) }

pub Framed-all : (us : List Item) → Throughout (λ past p. broken past p ≡ None) (all_placed us) → Framed (all_placed us)
unfolding all_placed run has_slices latest_au latest_picture
Framed-all [] h = record { below = All-nil (UpTo 0); at = At-none; slices = sym (ap is_some none) }
  where
    none : latest_picture 0 [] ≡ None
    none = refl
Framed-all (i ∷ us) h = Framed-more (all_placed us) i (Framed-all us h.1) h.0

-- ---- The rules, by the head of the latest picture

abbrev told_by : (UnitHead → Bool) → Option UnitHead → Bool
told_by test o = option_map test o otherwise false

abbrev head_of : Option Placed → Option UnitHead
head_of o = option_map (λ (q : Placed). q.item.head) o

by_head : (test : UnitHead → Bool) (o : Option Placed) → told (λ q. test q.item.head) o ≡ told_by test (head_of o)
by_head test None = refl
by_head test (Some q) = refl

none_head : (o : Option Placed) → is_none o ≡ is_none (head_of o)
none_head None = refl
none_head (Some q) = refl

some_head : (o : Option Placed) → is_some o ≡ is_some (head_of o)
some_head None = refl
some_head (Some q) = refl

-- what is told of TemporalId alone
by_tid : (test : ℕ → Bool) (o : Option Placed) → told (λ q. test (tid q)) o ≡ (option_map test (option_map tid o) otherwise false)
by_tid test None = refl
by_tid test (Some q) = refl

-- the rules by whether it is a slice segment and a picture, its head, and that of the latest picture
rule_by : (s f : Bool) → UnitHead → Option UnitHead → Option Rule
rule_by s f head o =
    rule_in (s && not (nat_eq head.layer 0) && is_none o) (f && told_by (λ h. nat_le head.layer h.layer) o)
    (s && not f && not (told_by (λ h. nat_eq h.layer head.layer) o)) (f && told_by (λ h. not (nat_eq head.tid h.tid)) o)

broken-is : (past : List Placed) (p : Placed) → At p.au past → broken past p ≡ rule_by (is_slice p.item) (is_picture p.item) p.item.head (head_of (latest_picture p.au past))
unfolding broken cases no_base layer_order orphan_slice tid_differs is_own_picture first_slice_of rule_by rule_in
broken-is past p at =
    let o : Option Placed = latest_picture p.au past in
    let s : Bool = is_slice p.item in
    let f : Bool = is_picture p.item in
    let one : no_base past p ≡ (s && not (nat_eq (layer p) 0) && is_none (head_of o)) = ap (λ b. s && not (nat_eq (layer p) 0) && b) (at.empty ∙ none_head o) in
    let two : layer_order past p ≡ (f && told_by (λ h. nat_le (layer p) h.layer) (head_of o)) = ap (λ b. f && b) (at.layers (layer p) ∙ by_head (λ h. nat_le (layer p) h.layer) o) in
    let three : orphan_slice past p ≡ (s && not f && not (told_by (λ h. nat_eq h.layer (layer p)) (head_of o))) =
    ap (λ b. s && not f && not b) (at.latest (layer p) ∙ by_head (λ h. nat_eq h.layer (layer p)) o) in
    let four : tid_differs past p ≡ (f && told_by (λ h. not (nat_eq (tid p) h.tid)) (head_of o)) =
    ap (λ b. f && b)
    (by_tid (λ t. not (nat_eq (tid p) t)) (first_slice_of p.au past) ∙ ap (λ t. option_map (λ t. not (nat_eq (tid p) t)) t otherwise false) at.tid_is
    ∙ sym (by_tid (λ t. not (nat_eq (tid p) t)) o) ∙ by_head (λ h. not (nat_eq (tid p) h.tid)) o) in
    ap (λ b. rule_in b (layer_order past p) (orphan_slice past p) (tid_differs past p)) one
    ∙ ap (λ b. rule_in (s && not (nat_eq (layer p) 0) && is_none (head_of o)) b (orphan_slice past p) (tid_differs past p)) two
    ∙ ap (λ b. rule_in (s && not (nat_eq (layer p) 0) && is_none (head_of o)) (f && told_by (λ h. nat_le (layer p) h.layer) (head_of o)) b (tid_differs past p)) three
    ∙ ap (λ b. rule_in (s && not (nat_eq (layer p) 0) && is_none (head_of o)) (f && told_by (λ h. nat_le (layer p) h.layer) (head_of o)) (s && not f && not (told_by (λ h. nat_eq h.layer (layer p)) (head_of o))) b) four

-- what is joined, by that rule
abbrev told_first : Bool → Bool → Option Bool
told_first s f = if s then Some f else None

kept_picture : (s f : Bool) → UnitHead → Option UnitHead → Option UnitHead
kept_picture s f head o = if f then Some head else o

abbrev found : Option Rule → Option UnitHead → Result (Option UnitHead) Rule
found o kept = elim o [ Some r ↦ Err r | None ↦ Ok kept ]

joined-is : (s f : Bool) (head : UnitHead) (o : Option UnitHead) → (f ≡ true → s ≡ true) → joined o head (told_first s f) ≡ found (rule_by s f head o) (kept_picture s f head o)
unfolding rule_by rule_in kept_picture
joined-is false true head o h = absurd (let wrong : false ≡ true = h refl in cc)
joined-is false false head o h = refl
joined-is true true head None h = go (nat_eq head.layer 0)
  where
    go : (b : Bool) →
        cond b (Ok (Some head)) (Err Rule.NoBase) ≡ found (rule_in (not b && true) false (false && not false) false) (Some head)
    go true = refl
    go false = refl
joined-is true true head (Some latest) h = go (nat_eq head.layer 0) (nat_le head.layer latest.layer) (nat_eq head.tid latest.tid) (not (nat_eq latest.layer head.layer))
  where
    go : (a b c d : Bool) →
        cond b (Err Rule.LayerOrder) (cond c (Ok (Some head)) (Err Rule.TidDiffers)) ≡ found (rule_in (not a && false) b (false && d) (not c)) (Some head)
    go true true c d = refl
    go false true c d = refl
    go true false true d = refl
    go false false true d = refl
    go true false false d = refl
    go false false false d = refl
joined-is true false head None h = go (nat_eq head.layer 0)
  where
    go : (b : Bool) →
        cond b (Err Rule.OrphanSlice) (Err Rule.NoBase) ≡ found (rule_in (not b && true) false true false) None
    go true = refl
    go false = refl
joined-is true false head (Some latest) h = go (nat_eq head.layer 0) (nat_eq latest.layer head.layer)
  where
    go : (a b : Bool) → cond b (Ok (Some latest)) (Err Rule.OrphanSlice) ≡ found (rule_in (not a && false) false (not b) false) (Some latest)
    go true true = refl
    go true false = refl
    go false true = refl
    go false false = refl

-- ---- The tracker

abbrev pub au_by : TrackerValue → Bool → ℕ
au_by t b = t.au + (if b then 1 else 0)

-- what is answered where the latest picture is joined
abbrev pub answered : ℕ → Bool → Result (Option UnitHead) Rule → Result AuStep Rule
answered au b r = elim r [ Ok picture ↦ Ok (record { au = au; begins = b }) | Err rule ↦ Err rule ]

first_otherwise : (s f : Bool) → (f ≡ true → s ≡ true) → (told_first s f otherwise false) ≡ f
first_otherwise true f h = refl
first_otherwise false true h = absurd (let wrong : false ≡ true = h refl in cc)
first_otherwise false false h = refl

module _ (t : TrackerValue) (us : List Item) (i : Item) (head : UnitHead) (first : Option Bool) (stands : Stands t us) (seen : IsTold i head first) where
  abbrev past : List Placed
  past = all_placed us

  abbrev p : Placed
  p = placed past i

  abbrev b : Bool
  b = begins_by t.picture head first

  framed : Framed past
  framed = Framed-all us stands.kept

  picture-is : t.picture ≡ head_of (latest_picture (latest_au past) past)
  picture-is = stands.picture ∙ ap (λ n. head_of (latest_picture n past)) stands.number

  opens-is : opens head first ≡ is_trigger i
  opens-is =
      ap (λ h. opens h first) seen.head_is
      ∙ ap (λ f. nat_eq i.head.layer 0 && (is_opening_kind i.head.kind || (f otherwise false))) seen.first_is
      ∙ ap (λ f. nat_eq i.head.layer 0 && (is_opening_kind i.head.kind || f)) (first_otherwise (is_slice i) (is_picture i) (picture_slice i))
      ∙ sym (ap (λ k. k && nat_eq i.head.layer 0 && (is_opening_kind i.head.kind || is_picture i)) seen.known)

  begins-is : b ≡ begins past i
  unfolding begins
  begins-is =
      ap (λ o. o && is_some t.picture) opens-is
      ∙ ap (λ h. is_trigger i && h) (ap is_some picture-is ∙ sym (some_head (latest_picture (latest_au past) past)) ∙ sym framed.slices)

  au-is : au_by t b ≡ p.au
  au-is = ap (λ n. n + (if b then 1 else 0)) stands.number ∙ ap (λ c. latest_au past + (if c then 1 else 0)) begins-is ∙ sym (number-at past i framed (begins past i) refl)

  open-is : open_at b t.picture ≡ head_of (latest_picture p.au past)
  open-is =
      ap (open_at b) picture-is ∙ ap (λ c. open_at c (head_of (latest_picture (latest_au past) past))) begins-is ∙ go (begins past i) (latest_picture (latest_au past) past)
      ∙ sym (ap head_of (latest-here past i framed))
    where
      go : (c : Bool) (o : Option Placed) → open_at c (head_of o) ≡ head_of (if c then None else o)
      go true o = refl
      go false o = refl

  joined-by : joined (open_at b t.picture) head first ≡ found (broken past p) (kept_picture (is_slice i) (is_picture i) i.head (head_of (latest_picture p.au past)))
  unfolding placed
  joined-by =
      let o : Option UnitHead = head_of (latest_picture p.au past) in
      ap (λ x. joined x head first) open-is
      ∙ ap (λ h. joined o h first) seen.head_is
      ∙ ap (λ f. joined o i.head f) seen.first_is
      ∙ joined-is (is_slice i) (is_picture i) i.head o (picture_slice i)
      ∙ sym (ap (λ r. found r (kept_picture (is_slice i) (is_picture i) i.head o)) (broken-is past p (At-here past i framed)))

  begins-placed : b ≡ p.begins
  unfolding placed
  begins-placed = begins-is

  pub answer-is : answered (au_by t b) b (joined (open_at b t.picture) head first) ≡ answer us i
  unfolding answer
  answer-is =
      ap (λ n. answered n b (joined (open_at b t.picture) head first)) au-is
      ∙ ap (λ c. answered p.au c (joined (open_at b t.picture) head first)) begins-placed
      ∙ ap (answered p.au p.begins) joined-by
      ∙ go (broken past p)
    where
      kept : Option UnitHead
      kept = kept_picture (is_slice i) (is_picture i) i.head (head_of (latest_picture p.au past))

      go : (o : Option Rule) → answered p.au p.begins (found o kept) ≡ elim o [ Some r ↦ Err r | None ↦ Ok (record { au = p.au; begins = p.begins }) ]
      go None = refl
      go (Some r) = refl

  -- where it is joined no rule is broken, and the latest picture is the next one
  parts-of : (o : Option Rule) (kept picture : Option UnitHead) → found o kept ≡ Ok picture → (o ≡ None) × (picture ≡ kept)
  parts-of None kept picture h = (refl, let same : ◌≡◌ {A = Result (Option UnitHead) Rule} (Ok kept) (Ok picture) = h in cc)
  parts-of (Some r) kept picture h = absurd (let wrong : ◌≡◌ {A = Result (Option UnitHead) Rule} (Err r) (Ok picture) = h in cc)

  next-is : head_of (latest_picture p.au (p ∷ past)) ≡ kept_picture (is_slice i) (is_picture i) i.head (head_of (latest_picture p.au past))
  unfolding placed kept_picture
  next-is = go (is_picture i) refl
    where
      go : (f : Bool) → is_picture i ≡ f → head_of (latest_picture p.au (p ∷ past)) ≡ cond f (Some i.head) (head_of (latest_picture p.au past))
      go true e = ap head_of (latest-in p.au p past e refl)
      go false e = ap head_of (latest-out p.au p past e)

  pub stands-more : (picture : Option UnitHead) → joined (open_at b t.picture) head first ≡ Ok picture → Stands (record { au = au_by t b; picture = picture }) (i ∷ us)
  unfolding all_placed run
  stands-more picture h =
      let kept : Option UnitHead = kept_picture (is_slice i) (is_picture i) i.head (head_of (latest_picture p.au past)) in
      let parts : (broken past p ≡ None) × (picture ≡ kept) = parts-of (broken past p) kept picture (sym joined-by ∙ h) in
      record {
        kept = (parts.0, stands.kept);
        number = au-is ∙ sym (latest_au-more past i framed);
        picture = parts.1 ∙ sym next-is ∙ ap (λ n. head_of (latest_picture n (p ∷ past))) (sym au-is);
      }

-- the number of the latest access unit is at most that of the units
pub few : (us : List Item) → latest_au (all_placed us) ≤ length us
unfolding all_placed run latest_au placed
few [] = omega arith
few (i ∷ us) = go (begins (run placed us) i) (few us)
  where
    go : (b : Bool) → length (filter (λ (q : Placed). q.begins) (run placed us)) ≤ length us → length (cond b (placed (run placed us) i ∷ filter (λ (q : Placed). q.begins) (run placed us)) (filter (λ (q : Placed). q.begins) (run placed us))) ≤ length (i ∷ us)
    go true h = omega (arith, h)
    go false h = omega (arith, h)

-- ---- Strays

module _ (past : List Placed) (i : Item) (out : is_known i ≡ false) where
  abbrev stray : Placed
  stray = placed past i

  no_slice : is_slice i ≡ false
  no_slice = and_left (is_known i) (is_slice_kind i.head.kind) out

  no_begin : begins past i ≡ false
  unfolding begins
  no_begin = and_left (is_trigger i) (has_slices past) (and_left (is_known i && nat_eq i.head.layer 0) (is_opening_kind i.head.kind || is_picture i) (and_left (is_known i) (nat_eq i.head.layer 0) out))

  stray-latest : latest_au (stray ∷ past) ≡ latest_au past
  unfolding latest_au placed
  stray-latest = ap length (cond-false (begins past i) (stray ∷ filter (λ (q : Placed). q.begins) past) (filter (λ (q : Placed). q.begins) past) no_begin)

  stray-broken : broken past stray ≡ None
  unfolding rule_in broken cases is_own_picture no_base layer_order orphan_slice tid_differs placed
  stray-broken =
      let f : is_picture i ≡ false = no_picture i no_slice in
      ap (λ b. rule_in b (layer_order past stray) (orphan_slice past stray) (tid_differs past stray)) (and_left (is_slice i && not (nat_eq i.head.layer 0)) (nat_eq (length (slices_of stray.au past)) 0) (and_left (is_slice i) (not (nat_eq i.head.layer 0)) no_slice))
      ∙ ap (λ b. rule_in false b (orphan_slice past stray) (tid_differs past stray)) (and_left (is_picture i) (list_any (λ q. nat_le (layer stray) (layer q)) (pictures_of stray.au past)) f)
      ∙ ap (λ b. rule_in false false b (tid_differs past stray)) (and_left (is_slice i && not (is_picture i)) (not (told (is_own_picture stray) (last past))) (and_left (is_slice i) (not (is_picture i)) no_slice))
      ∙ ap (λ b. rule_in false false false b) (and_left (is_picture i) (told (λ q. not (nat_eq (tid stray) (tid q))) (first_slice_of stray.au past)) f)

-- a stray changes nothing
pub stands-over : (t : TrackerValue) (us : List Item) (i : Item) → Stands t us → is_known i ≡ false → Stands t (i ∷ us)
unfolding all_placed run placed
stands-over t us i h e = record {
  kept = (stray-broken (all_placed us) i e, h.kept);
  number = h.number ∙ sym (stray-latest (all_placed us) i e);
  picture = h.picture ∙ ap head_of (sym (latest-out t.au (placed (all_placed us) i) (all_placed us) (no_picture i (no_slice (all_placed us) i e))));
}

-- ---- Base pictures

pub based-at : (us : List Item) (i : Item) → Throughout (λ past p. broken past p ≡ None) (all_placed (i ∷ us)) → is_picture i ≡ true → nat_eq i.head.layer 0 ≡ false →
    option_map (in_au (number (all_placed us) i)) (latest_base (all_placed us)) ≡ Some true
unfolding all_placed run placed
based-at us i h f e =
    has_base (number (all_placed us) i) (all_placed us) (placed (all_placed us) i) refl (At-here (all_placed us) i (Framed-all us h.1)) f e (fine (all_placed us) (placed (all_placed us) i) h.0).base

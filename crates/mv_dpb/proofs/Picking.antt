-- Items that are swapped to the front one by one are those that are named.
use Rattle.std.proofs.Common.{◌≡◌, ℕ, zero, suc, ◌+◌, ◌<◌, ◌≤◌, List, [], ◌∷◌, ◌++◌, length, take, drop, get_or, set, refl, ap, sym, ◌∙◌, arith}
use Rattle.std.specs.Prelude.{All, AllPairs, slice_get, swap}
use Rattle.std.proofs.lemmas.List.{append_assoc, take_all, take_more, drop_more, take-set-le, get_or_at, get_or_default, length-take-le, set_at}
use Rattle.std.proofs.lemmas.List.Elements.{All-get_or, All-head, All-tail, filter_map-append}
use Rattle.std.proofs.lemmas.List.Edits.{swapped_from_swap, length-swap}
use Rattle.mv_dpb.specs.declared.held.Held.{Held}
use Rattle.mv_dpb.specs.declared.held.Keep.{Keep}
use Rattle.mv_dpb.specs.Buffer.{marked, marks, picked}
use Rattle.mv_dpb.proofs.StoredLaws.{slice_get-get_or, slice_get-within}

-- the first places have the items that are named first, and those that are named later are where they were
pub record Picking {A : Type 0} (old items : List A) (keep : List Keep) (i : ℕ) : Type 0 where
  pub count : length items ≡ length old
  pub front : take i items ≡ picked (take i keep) old
  pub later : (j : ℕ) (d : Keep) (e : A) → i ≤ j → j < length keep → get_or items (get_or keep j d).place e ≡ get_or old (get_or keep j d).place e

-- places that rise leave room for those before them
pub places_rise : (keep : List Keep) → AllPairs (λ k l. k.place < l.place) keep → (j : ℕ) (d : Keep) → j < length keep → j ≤ (get_or keep j d).place
places_rise keep rising zero d h = omega arith
places_rise keep rising (suc j) d h = omega (arith, places_rise keep rising j d (omega arith), rising j (suc j) d (omega arith) h)

picked-more : {A : Type 0} (keep : List Keep) (old : List A) (i : ℕ) (d : Keep) (e : A) → i < length keep → (get_or keep i d).place < length old →
    picked (take (i + 1) keep) old ≡ picked (take i keep) old ++ get_or old (get_or keep i d).place e ∷ []
picked-more keep old i d e h within =
    ap (λ ks. picked ks old) (take_more keep i d h)
    ∙ filter_map-append (λ k. slice_get old k.place) (take i keep) (get_or keep i d ∷ [])
    ∙ ap (λ xs. picked (take i keep) old ++ xs) (rw (slice_get-get_or old (get_or keep i d).place e within) refl)

take-swap : {A : Type 0} (xs : List A) (i j : ℕ) → i ≤ j → take i (swap xs i j) ≡ take i xs
take-swap [] i j h = refl
take-swap (x ∷ xs) i j h = take-set-le i _ j _ h ∙ take-set-le i (x ∷ xs) i _ (omega arith)

pub picking-start : {A : Type 0} (old : List A) (keep : List Keep) → Picking old old keep 0
picking-start old keep = record { count = refl; front = refl; later = λ j d e h k. refl }

pub picking-step : {A : Type 0} (old items : List A) (keep : List Keep) (i : ℕ) (d : Keep) → i < length keep →
    AllPairs (λ k l. k.place < l.place) keep → All (λ k. k.place < length old) keep → Picking old items keep i →
    Picking old (swap items i (get_or keep i d).place) keep (i + 1)
picking-step {A} old items keep i d h rising within s =
    let place : ℕ = (get_or keep i d).place in
    let below : place < length old = All-get_or (λ k. k.place < length old) keep i d h within in
    let e : A = (slice_get-within old place below).0 in
    let after : i ≤ place = places_rise keep rising i d h in
    let count : length items ≡ length old = s.count in
    let is = swapped_from_swap items (swap items i place) i place e (omega arith) (omega arith) refl in
    record {
      count = length-swap items i place ∙ count;
      front =
          take_more (swap items i place) i e (omega (arith, length-swap items i place))
          ∙ ap (λ xs. xs ++ get_or (swap items i place) i e ∷ []) (take-swap items i place after ∙ s.front)
          ∙ ap (λ x. picked (take i keep) old ++ x ∷ []) (is.0 ∙ s.later i d e (omega arith) h)
          ∙ sym (picked-more keep old i d e h below);
      later = λ j f g lower upper.
          let more : place < (get_or keep j d).place = rising i j d (omega arith) upper in
          let same : get_or keep j f ≡ get_or keep j d = get_or_default keep j f d upper in
          let moved : get_or (swap items i place) (get_or keep j d).place g ≡ get_or items (get_or keep j d).place g =
          (swapped_from_swap items (swap items i place) i place g (omega arith) (omega arith) refl).2 (get_or keep j d).place (λ m. omega arith) (λ m. omega arith) in
          ap (λ k. get_or (swap items i place) k.place g) same ∙ moved ∙ s.later j d g (omega arith) upper ∙ sym (ap (λ k. get_or old k.place g) same);
    }

-- all that were named were swapped to the front
pub picking-end : {A : Type 0} (old items : List A) (keep : List Keep) → Picking old items keep (length keep) → take (length keep) items ≡ picked keep old
picking-end old items keep s = s.front ∙ ap (λ ks. picked ks old) (take_all (length keep) keep (omega arith))

pub length-picked : {A : Type 0} (keep : List Keep) (items : List A) → All (λ k. k.place < length items) keep → length (picked keep items) ≡ length keep
length-picked [] items within = refl
length-picked (k ∷ keep) items within =
    let h = slice_get-within items k.place (All-head (λ k. k.place < length items) k keep within) in
    rw h.1 (ap suc (length-picked keep items (All-tail (λ k. k.place < length items) k keep within)))

-- as many fit as there are
pub named_few : {A : Type 0} (keep : List Keep) (items : List A) → AllPairs (λ k l. k.place < l.place) keep → All (λ k. k.place < length items) keep → length keep ≤ length items
named_few [] items rising within = omega arith
named_few (k ∷ keep) items rising within =
    omega (arith, places_rise (k ∷ keep) rising (length keep) k (omega arith), within (length keep) k (omega arith))

marks-more : (keep : List Keep) (held : List Held) (i : ℕ) (k : Keep) (h : Held) → i < length keep → i < length held →
    marks (take (i + 1) keep) (take (i + 1) held) ≡ marks (take i keep) (take i held) ++ marked (get_or keep i k).long (get_or held i h) ∷ []
marks-more keep held i k h lk lh = rw (take_more keep i k lk, take_more held i h lh) (push (take i keep) (take i held) (get_or keep i k) (get_or held i h) (omega (arith, length-take-le i keep, length-take-le i held)))
  where
    push : (keep : List Keep) (held : List Held) (k : Keep) (h : Held) → length keep ≡ length held → marks (keep ++ k ∷ []) (held ++ h ∷ []) ≡ marks keep held ++ marked k.long h ∷ []
    push [] [] k h e = refl
    push [] (g ∷ held) k h e = absurd (omega arith)
    push (l ∷ keep) [] k h e = absurd (omega arith)
    push (l ∷ keep) (g ∷ held) k h e = ap (λ xs. marked l.long g ∷ xs) (push keep held k h (omega arith))

pub length-marks : (keep : List Keep) (held : List Held) → length keep ≡ length held → length (marks keep held) ≡ length held
length-marks [] [] e = refl
length-marks [] (h ∷ held) e = absurd (omega arith)
length-marks (k ∷ keep) [] e = refl
length-marks (k ∷ keep) (h ∷ held) e = ap suc (length-marks keep held (omega arith))

-- the first pictures have their marks, and the others what they had
pub marking-step : (keep : List Keep) (old held : List Held) (i : ℕ) (k : Keep) (h : Held) → i < length keep → length old ≡ length keep →
    held ≡ marks (take i keep) (take i old) ++ drop i old →
    set held i (marked (get_or keep i k).long (get_or held i h)) ≡ marks (take (i + 1) keep) (take (i + 1) old) ++ drop (i + 1) old
marking-step keep old held i k h lk same s =
    let lt : length (take i keep) ≡ i = length-take-le i keep (omega arith) in
    let lo : length (take i old) ≡ i = length-take-le i old (omega arith) in
    let lm : length (marks (take i keep) (take i old)) ≡ i = length-marks (take i keep) (take i old) (lt ∙ sym lo) ∙ lo in
    let split : held ≡ marks (take i keep) (take i old) ++ get_or old i h ∷ drop (i + 1) old = s ∙ ap (λ xs. marks (take i keep) (take i old) ++ xs) (drop_more old i h (omega arith)) in
    let here : get_or held i h ≡ get_or old i h = ap (λ xs. get_or xs i h) split ∙ get_or_at (marks (take i keep) (take i old)) (get_or old i h) (drop (i + 1) old) h i lm in
    ap (λ x. set held i (marked (get_or keep i k).long x)) here
    ∙ ap (λ xs. set xs i (marked (get_or keep i k).long (get_or old i h))) split
    ∙ set_at (marks (take i keep) (take i old)) (get_or old i h) (drop (i + 1) old) (marked (get_or keep i k).long (get_or old i h)) i lm
    ∙ sym (append_assoc (marks (take i keep) (take i old)) (marked (get_or keep i k).long (get_or old i h) ∷ []) (drop (i + 1) old))
    ∙ ap (λ xs. xs ++ drop (i + 1) old) (sym (marks-more keep old i k h lk (omega arith)))

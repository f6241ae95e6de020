-- Access units of an extract: where each access unit begins with a slice segment of layer 0, they are numbered alike.
use Rattle.std.proofs.Common.{◌≡◌, ℕ, ◌+◌, ◌<◌, ◌≤◌, Bool, true, false, cond, not, ◌&&◌, ◌||◌, List, [], ◌∷◌, filter, length, Some, refl, ap, sym, ◌∙◌, if◌then◌else◌, arith}
use Rattle.std.specs.Prelude.{nat_eq, All, option_map}
use Rattle.std.specs.List.{find}
use Rattle.std.proofs.lemmas.Bool.{and_parts, ne_eqb}
use Rattle.std.proofs.lemmas.List.Elements.{All-nil, All-cons, All-head, All-tail, All-weaker}
use Rattle.mv_syntax.specs.Words.{◌otherwise◌}
use Rattle.mv_history.specs.History.{IsAlone, Tells, Throughout, run}
use Rattle.mv_history.proofs.Kept.{fails, filter-filter}
use Rattle.mv_history.proofs.Runs.{run-filter}
use Rattle.mv_pictures.specs.Kinds.{is_opening_kind}
use Rattle.mv_pictures.specs.Items.{Item, is_known, is_slice, is_picture}
use Rattle.mv_pictures.specs.AccessUnits.{Placed, all_placed, begins, has_slices, in_au, is_trigger, no_base, number, placed, slices_of}

-- layer 0 is kept
abbrev pub KeepsBase : (Item → Bool) → Type 0
KeepsBase kept = (i : Item) → nat_eq i.head.layer 0 ≡ true → kept i ≡ true

-- the first slice segment of each access unit is of layer 0
abbrev pub HasBases : List Item → Type 0
HasBases = Throughout (λ past i. no_base (all_placed past) (placed (all_placed past) i) ≡ false)

middle : (a b : Bool) → (a && false && b) ≡ false
middle true b = refl
middle false b = refl

trigger_base : (i : Item) → is_trigger i ≡ true → nat_eq i.head.layer 0 ≡ true
trigger_base i h = go (is_known i) (nat_eq i.head.layer 0) (is_opening_kind i.head.kind || is_picture i) h
  where
    go : (a b c : Bool) → (a && b && c) ≡ true → b ≡ true
    go true true c h = refl
    go true false c h = h
    go false true c h = refl
    go false false c h = h

no_trigger : (i : Item) → nat_eq i.head.layer 0 ≡ false → is_trigger i ≡ false
no_trigger i h = ap (λ b. is_known i && b && (is_opening_kind i.head.kind || is_picture i)) h ∙ middle (is_known i) (is_opening_kind i.head.kind || is_picture i)

-- how many units begin an access unit behind another
abbrev pub begun : List Placed → ℕ
begun ps = length (filter (λ (q : Placed). q.begins) ps)

pub begun-step : (p : Placed) (ps : List Placed) → begun (p ∷ ps) ≡ begun ps + (if p.begins then 1 else 0)
begun-step p ps = go p.begins
  where
    go : (b : Bool) → length (cond b (p ∷ filter (λ (q : Placed). q.begins) ps) (filter (λ (q : Placed). q.begins) ps)) ≡ begun ps + (if b then 1 else 0)
    go true = omega arith
    go false = omega arith

pub has_slices-step : (p : Placed) (ps : List Placed) → has_slices (p ∷ ps) ≡ cond (is_slice p.item || is_trigger p.item) (is_slice p.item) (has_slices ps)
unfolding has_slices
has_slices-step p ps = go (is_slice p.item || is_trigger p.item)
  where
    go : (b : Bool) → option_map (λ (q : Placed). is_slice q.item) (cond b (Some p) (find (λ (q : Placed). is_slice q.item || is_trigger q.item) ps)) otherwise false ≡ cond b (is_slice p.item) (option_map (λ (q : Placed). is_slice q.item) (find (λ (q : Placed). is_slice q.item || is_trigger q.item) ps) otherwise false)
    go true = refl
    go false = refl

-- the numbers of access units are no greater than how many began
pub numbers_within : (past : List Item) → All (λ (q : Placed). q.au ≤ begun (run placed past)) (run placed past)
unfolding run placed number
numbers_within [] = All-nil (λ (q : Placed). q.au ≤ 0)
numbers_within (i ∷ past) =
    let more : begun (placed (run placed past) i ∷ run placed past) ≡ begun (run placed past) + (if begins (run placed past) i then 1 else 0) = begun-step (placed (run placed past) i) (run placed past) in
    All-cons (λ (q : Placed). q.au ≤ begun (placed (run placed past) i ∷ run placed past)) (placed (run placed past) i) (run placed past)
    (omega (arith, more))
    (All-weaker (λ (q : Placed). q.au ≤ begun (run placed past)) (λ (q : Placed). q.au ≤ begun (placed (run placed past) i ∷ run placed past))
    (λ q le. omega (arith, more, le)) (run placed past) (numbers_within past))

none_beyond : (n : ℕ) (ps : List Placed) → All (λ (q : Placed). q.au < n) ps → slices_of n ps ≡ []
unfolding slices_of
none_beyond n [] h = refl
none_beyond n (p ∷ ps) h =
    let below : p.au < n = All-head (λ (q : Placed). q.au < n) p ps h in
    ap (λ b. cond (is_slice p.item && b) (p ∷ slices_of n ps) (slices_of n ps)) (ne_eqb p.au n (λ e. omega arith))
    ∙ go (is_slice p.item)
    ∙ none_beyond n ps (All-tail (λ (q : Placed). q.au < n) p ps h)
  where
    go : (b : Bool) → cond (b && false) (p ∷ slices_of n ps) (slices_of n ps) ≡ slices_of n ps
    go true = refl
    go false = refl

-- while no slice segment stands behind the latest trigger, the access unit has none
pub none_yet : (past : List Item) → has_slices (run placed past) ≡ false → slices_of (begun (run placed past)) (run placed past) ≡ []
unfolding run placed begins slices_of
none_yet [] h = refl
none_yet (i ∷ past) h =
    go (is_slice i) refl (is_trigger i) refl (has_slices (run placed past)) refl (sym (has_slices-step (placed (run placed past) i) (run placed past)) ∙ h) (none_yet past)
  where
    more : begun (placed (run placed past) i ∷ run placed past) ≡ begun (run placed past) + (if is_trigger i && has_slices (run placed past) then 1 else 0)
    more = begun-step (placed (run placed past) i) (run placed past)

    go : (s : Bool) → is_slice i ≡ s → (t : Bool) → is_trigger i ≡ t → (b : Bool) → has_slices (run placed past) ≡ b → cond (s || t) s b ≡ false →
        (has_slices (run placed past) ≡ false → slices_of (begun (run placed past)) (run placed past) ≡ []) →
        cond (s && in_au (begun (placed (run placed past) i ∷ run placed past)) (placed (run placed past) i)) (placed (run placed past) i ∷ slices_of (begun (placed (run placed past) i ∷ run placed past)) (run placed past)) (slices_of (begun (placed (run placed past) i ∷ run placed past)) (run placed past)) ≡ []
    go true is t ts b has left rest = absurd (cc)
    go false is true ts true has left rest =
        let one : begun (placed (run placed past) i ∷ run placed past) ≡ begun (run placed past) + 1 = more ∙ ap (λ c. begun (run placed past) + (if c && has_slices (run placed past) then 1 else 0)) ts ∙ ap (λ c. begun (run placed past) + (if c then 1 else 0)) has in
        none_beyond (begun (placed (run placed past) i ∷ run placed past)) (run placed past)
        (All-weaker (λ (q : Placed). q.au ≤ begun (run placed past)) (λ (q : Placed). q.au < begun (placed (run placed past) i ∷ run placed past)) (λ q le. omega (arith, one, le)) (run placed past) (numbers_within past))
    go false is true ts false has left rest =
        let none : begun (placed (run placed past) i ∷ run placed past) ≡ begun (run placed past) + 0 = more ∙ ap (λ c. begun (run placed past) + (if c && has_slices (run placed past) then 1 else 0)) ts ∙ ap (λ c. begun (run placed past) + (if c then 1 else 0)) has in
        ap (λ n. slices_of n (run placed past)) (let same : begun (placed (run placed past) i ∷ run placed past) ≡ begun (run placed past) = omega (arith, none) in same) ∙ rest has
    go false is false ts b has left rest =
        let none : begun (placed (run placed past) i ∷ run placed past) ≡ begun (run placed past) + 0 = more ∙ ap (λ c. begun (run placed past) + (if c && has_slices (run placed past) then 1 else 0)) ts in
        ap (λ n. slices_of n (run placed past)) (let same : begun (placed (run placed past) i ∷ run placed past) ≡ begun (run placed past) = omega (arith, none) in same) ∙ rest (has ∙ left)

-- what is kept of placed units, by a test of items
abbrev pub of_item : (Item → Bool) → Placed → Bool
of_item kept p = kept p.item

-- slice segments stand behind the latest trigger of what is kept as of the whole
pub has_slices-kept : (kept : Item → Bool) → KeepsBase kept → (past : List Item) → HasBases past →
    has_slices (filter (of_item kept) (run placed past)) ≡ has_slices (run placed past)
unfolding run placed begins number all_placed no_base
has_slices-kept kept base [] bases = refl
has_slices-kept kept base (i ∷ past) bases = go (kept i) refl (has_slices-kept kept base past bases.1) (none_yet past) bases.0
  where
    -- a slice segment of a layer above 0 has others before it
    behind : (s l : Bool) → is_slice i ≡ s → nat_eq i.head.layer 0 ≡ false → is_trigger i ≡ false →
        (has_slices (run placed past) ≡ false → slices_of (begun (run placed past)) (run placed past) ≡ []) →
        (s && not (nat_eq i.head.layer 0) && nat_eq (length (slices_of (number (run placed past) i) (run placed past))) 0) ≡ false →
        (b : Bool) → has_slices (run placed past) ≡ b → b ≡ cond (s || false) s b
    behind false l is above ts rest bases b has = refl
    behind true l is above ts rest bases true has = refl
    behind true l is above ts rest bases false has =
        let same : number (run placed past) i ≡ begun (run placed past) + 0 = ap (λ c. begun (run placed past) + (if c && has_slices (run placed past) then 1 else 0)) ts in
        let none : slices_of (number (run placed past) i) (run placed past) ≡ [] = ap (λ n. slices_of n (run placed past)) (let exact : number (run placed past) i ≡ begun (run placed past) = omega (arith, same) in exact) ∙ rest has in
        let broken : (true && not (nat_eq i.head.layer 0) && nat_eq (length (slices_of (number (run placed past) i) (run placed past))) 0) ≡ true =
        ap (λ c. true && not c && nat_eq (length (slices_of (number (run placed past) i) (run placed past))) 0) above
        ∙ ap (λ (qs : List Placed). nat_eq (length qs) 0) none in
        absurd (let wrong : true ≡ false = sym broken ∙ bases in cc)

    go : (b : Bool) → kept i ≡ b → has_slices (filter (of_item kept) (run placed past)) ≡ has_slices (run placed past) →
        (has_slices (run placed past) ≡ false → slices_of (begun (run placed past)) (run placed past) ≡ []) →
        no_base (all_placed past) (placed (all_placed past) i) ≡ false →
        has_slices (cond b (placed (run placed past) i ∷ filter (of_item kept) (run placed past)) (filter (of_item kept) (run placed past))) ≡ has_slices (placed (run placed past) i ∷ run placed past)
    go true e same rest bases =
        has_slices-step (placed (run placed past) i) (filter (of_item kept) (run placed past))
        ∙ ap (cond (is_slice i || is_trigger i) (is_slice i)) same
        ∙ sym (has_slices-step (placed (run placed past) i) (run placed past))
    go false e same rest bases =
        let above : nat_eq i.head.layer 0 ≡ false = fails (nat_eq i.head.layer 0) (kept i) (base i) e in
        same
        ∙ behind (is_slice i) true refl above (no_trigger i above) rest bases (has_slices (run placed past)) refl
        ∙ ap (λ t. cond (is_slice i || t) (is_slice i) (has_slices (run placed past))) (sym (no_trigger i above))
        ∙ sym (has_slices-step (placed (run placed past) i) (run placed past))

-- each unit that begins an access unit is of layer 0
begins_base : (past : List Item) → All (λ (q : Placed). q.begins ≡ true → nat_eq q.item.head.layer 0 ≡ true) (run placed past)
unfolding run placed begins
begins_base [] = All-nil (λ (q : Placed). q.begins ≡ true → nat_eq q.item.head.layer 0 ≡ true)
begins_base (i ∷ past) =
    All-cons (λ (q : Placed). q.begins ≡ true → nat_eq q.item.head.layer 0 ≡ true) (placed (run placed past) i) (run placed past)
    (λ h. trigger_base i (and_parts (is_trigger i) (has_slices (run placed past)) h).0)
    (begins_base past)

begun-kept : (kept : Item → Bool) → KeepsBase kept → (past : List Item) → begun (filter (of_item kept) (run placed past)) ≡ begun (run placed past)
begun-kept kept base past =
    ap length
    (filter-filter (λ (q : Placed). q.begins) (of_item kept) (run placed past)
    (All-weaker (λ (q : Placed). q.begins ≡ true → nat_eq q.item.head.layer 0 ≡ true) (λ (q : Placed). q.begins ≡ true → of_item kept q ≡ true) (λ q h starts. base q.item (h starts)) (run placed past) (begins_base past)))

placed_of : Bool → ℕ → Item → Placed
placed_of has n i = record { item = i; begins = is_trigger i && has; au = n + (if is_trigger i && has then 1 else 0) }

placed-by : (ps : List Placed) (i : Item) → placed ps i ≡ placed_of (has_slices ps) (begun ps) i
unfolding placed begins number placed_of
placed-by ps i = refl

placed_alone : (kept : Item → Bool) → KeepsBase kept → (past : List Item) (i : Item) → HasBases past → IsAlone placed (of_item kept) past i
placed_alone kept base past i bases stays =
    placed-by (filter (of_item kept) (run placed past)) i
    ∙ ap (λ has. placed_of has (begun (filter (of_item kept) (run placed past))) i) (has_slices-kept kept base past bases)
    ∙ ap (λ n. placed_of (has_slices (run placed past)) n i) (begun-kept kept base past)
    ∙ sym (placed-by (run placed past) i)

alone_throughout : (kept : Item → Bool) → KeepsBase kept → (us : List Item) → HasBases us → Throughout (IsAlone placed (of_item kept)) us
alone_throughout kept base [] bases = tt
alone_throughout kept base (i ∷ past) bases = (placed_alone kept base past i bases.1, alone_throughout kept base past bases.1)

placed_tells : Tells placed (λ (p : Placed). p.item)
unfolding placed
placed_tells past i = refl

-- the access units of what is kept are those of the whole
pub placed-keep : (kept : Item → Bool) → KeepsBase kept → (us : List Item) → HasBases us → all_placed (filter kept us) ≡ filter (of_item kept) (all_placed us)
unfolding all_placed
placed-keep kept base us bases = run-filter placed (λ (p : Placed). p.item) kept placed_tells us (alone_throughout kept base us bases)

-- ---- One unit more

pub number-more : (past : List Item) (i j : Item) →
    number (all_placed (i ∷ past)) j ≡ number (all_placed past) i + (if begins (all_placed (i ∷ past)) j then 1 else 0)
unfolding all_placed run placed number
number-more past i j =
    ap (λ n. n + (if begins (placed (run placed past) i ∷ run placed past) j then 1 else 0)) (begun-step (placed (run placed past) i) (run placed past))

pub number-first : (i : Item) → number [] i ≡ 0
unfolding number begins has_slices
number-first i = go (is_trigger i)
  where
    go : (b : Bool) → 0 + (if b && false then 1 else 0) ≡ 0
    go true = refl
    go false = refl

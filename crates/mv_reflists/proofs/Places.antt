-- The places of the references with a tag are those of its part.
use Rattle.std.proofs.Common.{◌≡◌, ℕ, suc, zero, ◌+◌, ◌-◌, ◌<◌, ◌≤◌, Bool, true, false, cond, List, [], ◌∷◌, ◌++◌, length, map, get_or, refl, sym, ap, ap₂, ◌∙◌, arith, length-append, drop, drop-cons, add-one}
use Rattle.std.specs.Prelude.{replicate}
use Rattle.std.specs.List.{filter, enumerate_from, range_with_len}
use Rattle.std.proofs.lemmas.List.{append-nil, get_or_append_left, get_or-append_right}
use Rattle.std.proofs.lemmas.List.FromFn.{length-range_with_len, get_or-range_with_len}
use Rattle.mv_pictures.specs.Terms.{Tag, same_tag, before, after, long, inter_zero, inter_one}
use Rattle.mv_pictures.specs.Lists.{places}
use Rattle.mv_reflists.specs.declared.sizes.Sizes.{Sizes}
use Rattle.mv_reflists.specs.declared.parts.Part.{Part}
use Rattle.mv_reflists.specs.Sizes.{tags}
use Rattle.mv_reflists.specs.inner.Parts.{places_in, places_of}

-- the places of the references with a tag, counted from n on
abbrev places_from : ℕ → Tag → List Tag → List ℕ
places_from n tag all = map (λ (r : ℕ × Tag). r.0) (filter (λ (r : ℕ × Tag). same_tag tag r.1) (enumerate_from n all))

places_from-append : (n m : ℕ) (tag : Tag) (xs ys : List Tag) → n + length xs ≡ m → places_from n tag (xs ++ ys) ≡ places_from n tag xs ++ places_from m tag ys
places_from-append n m tag [] ys e = ap (λ k. places_from k tag ys) (omega arith)
places_from-append n m tag (x ∷ xs) ys e = go (same_tag tag x) (places_from-append (n + 1) m tag xs ys (omega arith))
  where
    rest : List (ℕ × Tag)
    rest = filter (λ (r : ℕ × Tag). same_tag tag r.1) (enumerate_from (n + 1) (xs ++ ys))

    own : List (ℕ × Tag)
    own = filter (λ (r : ℕ × Tag). same_tag tag r.1) (enumerate_from (n + 1) xs)

    go : (b : Bool) → map (λ (r : ℕ × Tag). r.0) rest ≡ map (λ (r : ℕ × Tag). r.0) own ++ places_from m tag ys
        → map (λ (r : ℕ × Tag). r.0) (cond b ((n, x) ∷ rest) rest) ≡ map (λ (r : ℕ × Tag). r.0) (cond b ((n, x) ∷ own) own) ++ places_from m tag ys
    go true h = ap (λ l. n ∷ l) h
    go false h = h

-- those of a part with the tag, and of one with another
same_part : (n k : ℕ) (tag x : Tag) → same_tag tag x ≡ true → places_from n tag (replicate k x) ≡ range_with_len n k
same_part n zero tag x e = refl
same_part n (suc k) tag x e = go (same_tag tag x) e (same_part (n + 1) k tag x e)
  where
    rest : List (ℕ × Tag)
    rest = filter (λ (r : ℕ × Tag). same_tag tag r.1) (enumerate_from (n + 1) (replicate k x))

    go : (b : Bool) → b ≡ true → map (λ (r : ℕ × Tag). r.0) rest ≡ range_with_len (n + 1) k
        → map (λ (r : ℕ × Tag). r.0) (cond b ((n, x) ∷ rest) rest) ≡ n ∷ range_with_len (n + 1) k
    go true e h = ap (λ l. n ∷ l) h
    go false e h = absurd (cc)

other_part : (n k : ℕ) (tag x : Tag) → same_tag tag x ≡ false → places_from n tag (replicate k x) ≡ []
other_part n zero tag x e = refl
other_part n (suc k) tag x e = go (same_tag tag x) e (other_part (n + 1) k tag x e)
  where
    rest : List (ℕ × Tag)
    rest = filter (λ (r : ℕ × Tag). same_tag tag r.1) (enumerate_from (n + 1) (replicate k x))

    go : (b : Bool) → b ≡ false → map (λ (r : ℕ × Tag). r.0) rest ≡ [] → map (λ (r : ℕ × Tag). r.0) (cond b ((n, x) ∷ rest) rest) ≡ []
    go true e h = absurd (cc)
    go false e h = h

length-replicate : {A : Type 0} (k : ℕ) (x : A) → length (replicate k x) ≡ k
length-replicate zero x = refl
length-replicate (suc k) x = ap suc (length-replicate k x)

-- those of all parts
by_parts : (tag : Tag) (s : Sizes) → places (tags s) tag
    ≡ places_from 0 tag (replicate s.before before)
    ++ places_from s.before tag (replicate s.after after)
    ++ places_from (s.before + s.after) tag (replicate s.long long)
    ++ places_from (s.before + s.after + s.long) tag (replicate s.zero inter_zero)
    ++ places_from (s.before + s.after + s.long + s.zero) tag (replicate s.one inter_one)
unfolding places tags
by_parts tag s =
    let b : List Tag = replicate s.before before in
    let a : List Tag = replicate s.after after in
    let l : List Tag = replicate s.long long in
    let z : List Tag = replicate s.zero inter_zero in
    let o : List Tag = replicate s.one inter_one in
    let nb = length-replicate s.before before in
    let na = length-replicate s.after after in
    let nl = length-replicate s.long long in
    let nz = length-replicate s.zero inter_zero in
    places_from-append 0 (s.before + s.after + s.long + s.zero) tag (b ++ a ++ l ++ z) o (omega (arith, nb, na, nl, nz, length-append (b ++ a ++ l) z, length-append (b ++ a) l, length-append b a))
    ∙ ap (λ k. k ++ places_from (s.before + s.after + s.long + s.zero) tag o)
    (places_from-append 0 (s.before + s.after + s.long) tag (b ++ a ++ l) z (omega (arith, nb, na, nl, length-append (b ++ a) l, length-append b a))
    ∙ ap (λ k. k ++ places_from (s.before + s.after + s.long) tag z)
    (places_from-append 0 (s.before + s.after) tag (b ++ a) l (omega (arith, nb, na, length-append b a))
    ∙ ap (λ k. k ++ places_from (s.before + s.after) tag l) (places_from-append 0 s.before tag b a (omega (arith, nb)))))

-- the part of each tag
with_parts : (tag : Tag) (s : Sizes) (x0 x1 x2 x3 x4 : List ℕ)
    → places_from 0 tag (replicate s.before before) ≡ x0
    → places_from s.before tag (replicate s.after after) ≡ x1
    → places_from (s.before + s.after) tag (replicate s.long long) ≡ x2
    → places_from (s.before + s.after + s.long) tag (replicate s.zero inter_zero) ≡ x3
    → places_from (s.before + s.after + s.long + s.zero) tag (replicate s.one inter_one) ≡ x4
    → places (tags s) tag ≡ x0 ++ x1 ++ x2 ++ x3 ++ x4
with_parts tag s x0 x1 x2 x3 x4 e0 e1 e2 e3 e4 = by_parts tag s ∙ ap₂ (λ a b. a ++ b) (ap₂ (λ a b. a ++ b) (ap₂ (λ a b. a ++ b) (ap₂ (λ a b. a ++ b) e0 e1) e2) e3) e4

pub before_places : (s : Sizes) → range_with_len 0 s.before ≡ places (tags s) before
before_places s =
    sym
    (with_parts before s (range_with_len 0 s.before) [] [] [] []
    (same_part 0 s.before before before refl)
    (other_part s.before s.after before after refl)
    (other_part (s.before + s.after) s.long before long refl)
    (other_part (s.before + s.after + s.long) s.zero before inter_zero refl)
    (other_part (s.before + s.after + s.long + s.zero) s.one before inter_one refl)
    ∙ simp append-nil refl)

pub after_places : (s : Sizes) → range_with_len s.before s.after ≡ places (tags s) after
after_places s =
    sym
    (with_parts after s [] (range_with_len s.before s.after) [] [] []
    (other_part 0 s.before after before refl)
    (same_part s.before s.after after after refl)
    (other_part (s.before + s.after) s.long after long refl)
    (other_part (s.before + s.after + s.long) s.zero after inter_zero refl)
    (other_part (s.before + s.after + s.long + s.zero) s.one after inter_one refl)
    ∙ simp append-nil refl)

pub long_places : (s : Sizes) → range_with_len (s.before + s.after) s.long ≡ places (tags s) long
long_places s =
    sym
    (with_parts long s [] [] (range_with_len (s.before + s.after) s.long) [] []
    (other_part 0 s.before long before refl)
    (other_part s.before s.after long after refl)
    (same_part (s.before + s.after) s.long long long refl)
    (other_part (s.before + s.after + s.long) s.zero long inter_zero refl)
    (other_part (s.before + s.after + s.long + s.zero) s.one long inter_one refl)
    ∙ simp append-nil refl)

pub zero_places : (s : Sizes) → range_with_len (s.before + s.after + s.long) s.zero ≡ places (tags s) inter_zero
zero_places s =
    sym
    (with_parts inter_zero s [] [] [] (range_with_len (s.before + s.after + s.long) s.zero) []
    (other_part 0 s.before inter_zero before refl)
    (other_part s.before s.after inter_zero after refl)
    (other_part (s.before + s.after) s.long inter_zero long refl)
    (same_part (s.before + s.after + s.long) s.zero inter_zero inter_zero refl)
    (other_part (s.before + s.after + s.long + s.zero) s.one inter_zero inter_one refl)
    ∙ simp append-nil refl)

pub one_places : (s : Sizes) → range_with_len (s.before + s.after + s.long + s.zero) s.one ≡ places (tags s) inter_one
one_places s =
    sym
    (with_parts inter_one s [] [] [] [] (range_with_len (s.before + s.after + s.long + s.zero) s.one)
    (other_part 0 s.before inter_one before refl)
    (other_part s.before s.after inter_one after refl)
    (other_part (s.before + s.after) s.long inter_one long refl)
    (other_part (s.before + s.after + s.long) s.zero inter_one inter_zero refl)
    (same_part (s.before + s.after + s.long + s.zero) s.one inter_one inter_one refl))

-- how many places five parts have
pub five_counted : (a b c d e : Part) → length (places_of (a ∷ b ∷ c ∷ d ∷ e ∷ [])) ≡ a.count + b.count + c.count + d.count + e.count
five_counted a b c d e =
    let one : (p : Part) (l : List ℕ) → length (places_in p ++ l) ≡ p.count + length l = λ p l. length-append (places_in p) l ∙ ap (λ k. k + length l) (length-range_with_len p.first p.count) in
    omega (arith, one a (places_of (b ∷ c ∷ d ∷ e ∷ [])), one b (places_of (c ∷ d ∷ e ∷ [])), one c (places_of (d ∷ e ∷ [])), one d (places_of (e ∷ [])), one e [])

-- what stands at a place within the first part, and past it
pub place_within : (part : Part) (order : List Part) (left : ℕ) → left < part.count → get_or (places_of (part ∷ order)) left 0 ≡ part.first + left
place_within part order left h =
    get_or_append_left (places_in part) (places_of order) 0 left (omega (arith, length-range_with_len part.first part.count)) ∙ get_or-range_with_len part.first part.count left 0 h

pub place_past : (part : Part) (order : List Part) (left : ℕ) → part.count ≤ left → get_or (places_of (part ∷ order)) left 0 ≡ get_or (places_of order) (left - part.count) 0
place_past part order left h = get_or-append_right (places_in part) (places_of order) part.count left 0 (length-range_with_len part.first part.count) h

-- the same of the parts from an index on
pub found_at : (order : List Part) (k left : ℕ) (part : Part) → k < length order → part ≡ get_or order k part → left < part.count
    → get_or (places_of (drop k order)) left 0 ≡ part.first + left
found_at order k left part less is within =
    ap (λ parts. get_or (places_of parts) left 0) (drop-cons order k part less ∙ ap (λ p. p ∷ drop (suc k) order) (sym is)) ∙ place_within part (drop (suc k) order) left within

pub found_behind : (order : List Part) (k left : ℕ) (part : Part) → k < length order → part ≡ get_or order k part → part.count ≤ left
    → get_or (places_of (drop k order)) left 0 ≡ get_or (places_of (drop (k + 1) order)) (left - part.count) 0
found_behind order k left part less is past =
    ap (λ parts. get_or (places_of parts) left 0) (drop-cons order k part less ∙ ap (λ p. p ∷ drop (suc k) order) (sym is))
    ∙ place_past part (drop (suc k) order) left past
    ∙ ap (λ n. get_or (places_of (drop n order)) (left - part.count) 0) (sym (add-one k))

-- What a longer string keeps: units that a start code closed, and a leading byte that was refused.
use Rattle.std.proofs.Common.{◌≡◌, ℕ, ◌+◌, Bool, true, false, cond, ◌==◌, not, ◌&&◌, List, [], ◌∷◌, ◌++◌, length, drop, Option, None, Some, refl, ap, sym, ◌∙◌, subst}
use Rattle.std.specs.List.{position_from}
use Rattle.mv_units.specs.Units.{is_code, is_zero, lead, pieces, front_of, front, leading, trimmed, NalUnit, placed, units}
use Rattle.mv_units.proofs.Pieces.{AreClean, closed_of, open_of, closed-open, pieces_split, pieces-append, pieces-byte, pieces-at}

-- how far pieces reach, each with the code behind it
abbrev pub span : List (List ℕ) → ℕ → ℕ
span [] at = at
span (p ∷ ps) at = span ps (at + length p + 3)

pub placed-append : (at : ℕ) (ps qs : List (List ℕ)) → placed at (ps ++ qs) ≡ placed at ps ++ placed (span ps at) qs
unfolding placed
placed-append at [] qs = refl
placed-append at (p ∷ ps) qs = ap (λ rest. record { place = at; bytes = trimmed p } ∷ rest) (placed-append (at + length p + 3) ps qs)

-- two lists that are equal have equal last elements, and before them equal lists
snoc : (xs ys : List NalUnit) (x y : NalUnit) → xs ++ x ∷ [] ≡ ys ++ y ∷ [] → (xs ≡ ys) × (x ≡ y)
snoc [] [] x y e = (refl, cc)
snoc [] (b ∷ []) x y e = absurd (cc)
snoc [] (b ∷ c ∷ ys) x y e = absurd (cc)
snoc (a ∷ []) [] x y e = absurd (cc)
snoc (a ∷ c ∷ xs) [] x y e = absurd (cc)
snoc (a ∷ xs) (b ∷ ys) x y e =
    let rest : xs ++ x ∷ [] ≡ ys ++ y ∷ [] = cc in
    let first : a ≡ b = cc in
    let is = snoc xs ys x y rest in
    let same : xs ≡ ys = is.0 in
    (cc, is.1)

-- units behind `done`, the first of which stands at a place
abbrev pub GoesOn : List NalUnit → ℕ → List NalUnit → Type 0
GoesOn done at us = (next : NalUnit) × (more : List NalUnit) × (us ≡ done ++ next ∷ more) × (next.place ≡ at)

-- pieces stand, with the open one, as the units but the last and the last
stands : (done : List NalUnit) (last : NalUnit) (cs : List (List ℕ)) (p : List ℕ) →
    drop 1 (placed 0 (cs ++ p ∷ [])) ≡ done ++ last ∷ [] → (qs : List (List ℕ)) → AreClean qs → GoesOn done last.place (drop 1 (placed 0 (cs ++ qs)))
unfolding placed
stands [] last [] p e qs clean = absurd (cc)
stands (u ∷ us) last [] p e qs clean = absurd (cc)
stands done last (c ∷ cs) p e [] clean = absurd clean
stands done last (c ∷ cs) p e (q ∷ qs) clean =
    let at : ℕ = 0 + length c + 3 in
    let is = snoc (placed at cs) done _ last (sym (placed-append at cs (p ∷ [])) ∙ e) in
    let next : NalUnit = record { place = span cs at; bytes = trimmed q } in (
      next,
      placed (span cs at + length q + 3) qs,
      placed-append at cs (q ∷ qs) ∙ ap (λ us. us ++ next ∷ placed (span cs at + length q + 3) qs) is.0,
      ap (λ (u : NalUnit). u.place) is.1,
    )

-- the units that a start code closed stay units however the string goes on, and the last stays at its place
pub units-stay : (s t : List ℕ) (done : List NalUnit) (last : NalUnit) → units s ≡ done ++ last ∷ [] → GoesOn done last.place (units (s ++ t))
units-stay s t done last e =
    let ps : List (List ℕ) = pieces s in
    let split = pieces_split s in
    let are : units s ≡ drop 1 (placed 0 (closed_of ps ++ open_of ps ∷ [])) = ap (λ qs. drop 1 (placed 0 qs)) (sym (closed-open ps split.0)) in
    let longer : units (s ++ t) ≡ drop 1 (placed 0 (closed_of ps ++ pieces (open_of ps ++ t))) = ap (λ qs. drop 1 (placed 0 qs)) (pieces-append s t) in
    subst (GoesOn done last.place) (sym longer) (stands done last (closed_of ps) (open_of ps) (sym are ∙ e) (pieces (open_of ps ++ t)) (pieces_split (open_of ps ++ t)).0)

-- the place of the first byte other than zero before the first code, counted from i
abbrev leading_from : ℕ → List ℕ → Option ℕ
leading_from i s = position_from (λ b. not (is_zero b)) i (front s)

front-lead : (a : ℕ) (ps : List (List ℕ)) → AreClean ps → front_of (lead a ps) ≡ a ∷ front_of ps
front-lead a [] h = absurd h
front-lead a (p ∷ ps) h = refl

-- a byte that begins no code
front-byte : (a b c : ℕ) (s : List ℕ) → is_code a b c ≡ false → front (a ∷ b ∷ c ∷ s) ≡ a ∷ front (b ∷ c ∷ s)
front-byte a b c s isnt = ap front_of (pieces-byte a b c s isnt) ∙ front-lead a (pieces (b ∷ c ∷ s)) (pieces_split (b ∷ c ∷ s)).0

pub isnt_code : (a b c : ℕ) → is_zero a ≡ false → is_code a b c ≡ false
isnt_code a b c h = ap (λ t. t && (b == 0) && (c == 1)) h

-- a first byte other than zero is a leading one
leading-first : (i a : ℕ) (s : List ℕ) → is_zero a ≡ false → leading_from i (a ∷ s) ≡ Some i
unfolding pieces
leading-first i a [] h = ap (λ t. cond (not t) (Some i) None) h
leading-first i a (b ∷ []) h = ap (λ t. cond (not t) (Some i) (position_from (λ x. not (is_zero x)) (i + 1) (b ∷ []))) h
leading-first i a (b ∷ c ∷ s) h =
    ap (position_from (λ x. not (is_zero x)) i) (front-byte a b c s (isnt_code a b c h))
    ∙ ap (λ t. cond (not t) (Some i) (leading_from (i + 1) (b ∷ c ∷ s))) h

-- a byte of the first piece, behind which the search goes on
leading-byte : (i a b c : ℕ) (s : List ℕ) → is_code a b c ≡ false → leading_from i (a ∷ b ∷ c ∷ s) ≡ cond (not (is_zero a)) (Some i) (leading_from (i + 1) (b ∷ c ∷ s))
leading-byte i a b c s isnt = ap (position_from (λ x. not (is_zero x)) i) (front-byte a b c s isnt)

goes_on : (z : Bool) (i n : ℕ) (x y : Option ℕ) → ((m : ℕ) → x ≡ Some m → y ≡ Some m) → cond z (Some i) x ≡ Some n → cond z (Some i) y ≡ Some n
goes_on true i n x y f h = h
goes_on false i n x y f h = f n h

-- a last byte that is leading stays so
last-stays : (b : ℕ) (t : List ℕ) (i n : ℕ) → leading_from i (b ∷ []) ≡ Some n → leading_from i (b ∷ t) ≡ Some n
unfolding pieces
last-stays b t i n = go (is_zero b) refl
  where
    go : (z : Bool) → is_zero b ≡ z → leading_from i (b ∷ []) ≡ Some n → leading_from i (b ∷ t) ≡ Some n
    go true is h = absurd (let none : cond (not true) (Some i) None ≡ Some n = ap (λ z. cond (not z) (Some i) None) (sym is) ∙ h in cc)
    go false is h = leading-first i b t is ∙ sym (leading-first i b [] is) ∙ h

pub isnt_second : (a b c : ℕ) → is_zero b ≡ false → is_code a b c ≡ false
isnt_second a b c h = go (a == 0)
  where
    go : (x : Bool) → (x && is_zero b && (c == 1)) ≡ false
    go true = ap (λ t. t && (c == 1)) h
    go false = refl

-- two zero bytes hold no leading byte
nothing : (a b i : ℕ) → is_zero a ≡ true → is_zero b ≡ true → leading_from i (a ∷ b ∷ []) ≡ None
unfolding pieces
nothing a b i was is =
    ap (λ z. cond (not z) (Some i) (cond (not (is_zero b)) (Some (i + 1)) None)) was
    ∙ ap (λ z. cond (not z) (Some (i + 1)) None) is

-- a second byte that isn't zero is in no code with one more
two-stay : (a b : ℕ) (t : List ℕ) (i n : ℕ) → leading_from i (a ∷ b ∷ []) ≡ Some n → leading_from i (a ∷ b ∷ t) ≡ Some n
unfolding pieces
two-stay a b [] i n h = h
two-stay a b (c ∷ t) i n h = go (is_zero a) (is_zero b) refl refl
  where
    go : (x y : Bool) → is_zero a ≡ x → is_zero b ≡ y → leading_from i (a ∷ b ∷ c ∷ t) ≡ Some n
    go false y was is = leading-first i a (b ∷ c ∷ t) was ∙ sym (leading-first i a (b ∷ []) was) ∙ h
    go true true was is = absurd (let none : None ≡ Some n = sym (nothing a b i was is) ∙ h in cc)
    go true false was is =
        leading-byte i a b c t (isnt_second a b c is)
        ∙ goes_on (not (is_zero a)) i n (leading_from (i + 1) (b ∷ [])) (leading_from (i + 1) (b ∷ c ∷ t)) (λ m e. last-stays b (c ∷ t) (i + 1) m e) h

-- a byte that is leading stays so in a longer string
stays : (s t : List ℕ) (i n : ℕ) → leading_from i s ≡ Some n → leading_from i (s ++ t) ≡ Some n
unfolding pieces
stays [] t i n h = absurd (cc)
stays (a ∷ []) t i n h = last-stays a t i n h
stays (a ∷ b ∷ []) t i n h = two-stay a b t i n h
stays (a ∷ b ∷ c ∷ s) t i n h = go (is_code a b c) refl (λ m. stays (b ∷ c ∷ s) t (i + 1) m)
  where
    go : (z : Bool) → is_code a b c ≡ z → ((m : ℕ) → leading_from (i + 1) (b ∷ c ∷ s) ≡ Some m → leading_from (i + 1) (b ∷ c ∷ (s ++ t)) ≡ Some m) → leading_from i (a ∷ b ∷ c ∷ (s ++ t)) ≡ Some n
    go true is later =
        let none : leading_from i (a ∷ b ∷ c ∷ s) ≡ None = ap (λ ps. position_from (λ x. not (is_zero x)) i (front_of ps)) (pieces-at a b c s is) in absurd (cc)
    go false isnt later =
        leading-byte i a b c (s ++ t) isnt
        ∙ goes_on (not (is_zero a)) i n (leading_from (i + 1) (b ∷ c ∷ s)) (leading_from (i + 1) (b ∷ c ∷ (s ++ t))) later (sym (leading-byte i a b c s isnt) ∙ h)

pub leading-stays : (s t : List ℕ) (n : ℕ) → leading s ≡ Some n → leading (s ++ t) ≡ Some n
leading-stays s t n h = stays s t 0 n h

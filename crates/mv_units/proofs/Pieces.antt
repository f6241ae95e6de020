-- The pieces of a string: they are its one split at start code prefixes, and what a longer string keeps of them.
use Rattle.std.proofs.Common.{◌≡◌, ℕ, ◌<◌, Bool, true, false, ◌==◌, ◌&&◌, List, [], ◌∷◌, ◌++◌, length, refl, ap, sym, ◌∙◌, subst, append_assoc, arith}
use Rattle.std.proofs.lemmas.Bool.{or_parts, or_from, and_parts, eqb-true}
use Rattle.std.specs.List.{All}
use Rattle.std.proofs.lemmas.List.Elements.{All-head, All-tail, All-cons, All-nil}
use Rattle.mv_units.specs.Units.{IsSplit, start_code, is_code, has_code, lead, pieces, joined}

-- a code ends in 01
pub is_code-zero : (a b : ℕ) → is_code a b 0 ≡ false
is_code-zero a b = go ((a == 0) && (b == 0))
  where
    go : (t : Bool) → (t && (0 == 1)) ≡ false
    go true = refl
    go false = refl

-- one byte of a piece
pub pieces-byte : (a b c : ℕ) (s : List ℕ) → is_code a b c ≡ false → pieces (a ∷ b ∷ c ∷ s) ≡ lead a (pieces (b ∷ c ∷ s))
unfolding pieces
pieces-byte a b c s h = rw (h, pieces) refl

-- a code at the front
pub pieces-at : (a b c : ℕ) (s : List ℕ) → is_code a b c ≡ true → pieces (a ∷ b ∷ c ∷ s) ≡ [] ∷ pieces s
unfolding pieces
pieces-at a b c s h = rw (h, pieces) refl

-- a piece that is closed by a code
pub pieces-code : (p s : List ℕ) → has_code p ≡ false → pieces (p ++ (start_code ++ s)) ≡ p ∷ pieces s
unfolding has_code pieces
pieces-code [] s h = refl
pieces-code (a ∷ []) s h = pieces-byte a 0 0 (1 ∷ s) (is_code-zero a 0)
pieces-code (a ∷ b ∷ []) s h = pieces-byte a b 0 (0 ∷ 1 ∷ s) (is_code-zero a b) ∙ ap (lead a) (pieces-code (b ∷ []) s refl)
pieces-code (a ∷ b ∷ c ∷ p) s h =
    let parts = or_parts (is_code a b c) (has_code (b ∷ c ∷ p)) h in
    pieces-byte a b c (p ++ (start_code ++ s)) parts.0 ∙ ap (lead a) (pieces-code (b ∷ c ∷ p) s parts.1)

-- a string without a code is one piece
pub pieces-clean : (p : List ℕ) → has_code p ≡ false → pieces p ≡ p ∷ []
unfolding has_code pieces
pieces-clean [] h = refl
pieces-clean (a ∷ []) h = refl
pieces-clean (a ∷ b ∷ []) h = refl
pieces-clean (a ∷ b ∷ c ∷ p) h =
    let parts = or_parts (is_code a b c) (has_code (b ∷ c ∷ p)) h in
    pieces-byte a b c p parts.0 ∙ ap (lead a) (pieces-clean (b ∷ c ∷ p) parts.1)

-- no piece holds a code, and there is a piece
abbrev pub AreClean : List (List ℕ) → Type 0
AreClean [] = ⊥
AreClean (p ∷ []) = has_code p ≡ false
AreClean (p ∷ q ∷ ps) = (has_code p ≡ false) × AreClean (q ∷ ps)

-- a split of a string is its pieces
pub pieces-joined : (ps : List (List ℕ)) → AreClean ps → pieces (joined ps) ≡ ps
unfolding joined
pieces-joined [] h = absurd h
pieces-joined (p ∷ []) h = pieces-clean p h
pieces-joined (p ∷ q ∷ ps) h = pieces-code p (joined (q ∷ ps)) h.0 ∙ ap (λ rest. p ∷ rest) (pieces-joined (q ∷ ps) h.1)

-- the bytes of a code
code-bytes : (a b c : ℕ) → is_code a b c ≡ true → (a ≡ 0) × (b ≡ 0) × (c ≡ 1)
code-bytes a b c h =
    let all = and_parts ((a == 0) && (b == 0)) (c == 1) h in
    let two = and_parts (a == 0) (b == 0) all.0 in
    (eqb-true a 0 two.0, eqb-true b 0 two.1, eqb-true c 1 all.1)

same_code : (a b c : ℕ) (s : List ℕ) (x y : ℕ) (rest : List ℕ) → is_code a b c ≡ false → x ∷ y ∷ rest ≡ b ∷ c ∷ s → is_code a x y ≡ false
same_code a b c s x y rest isnt e =
    let first : x ≡ b = cc in
    let second : y ≡ c = cc in
    rw (first, second) isnt

-- one byte more at the front of a piece that begins the string b, c, ..
lead-clean : (a b c : ℕ) (s : List ℕ) (ps : List (List ℕ)) → is_code a b c ≡ false → AreClean ps → joined ps ≡ b ∷ c ∷ s → AreClean (lead a ps)
unfolding joined has_code
lead-clean a b c s [] isnt h e = absurd h
lead-clean a b c s ([] ∷ []) isnt h e = refl
lead-clean a b c s ((x ∷ []) ∷ []) isnt h e = refl
lead-clean a b c s ((x ∷ y ∷ p) ∷ []) isnt h e = or_from _ _ (same_code a b c s x y p isnt e) h
lead-clean a b c s ([] ∷ q ∷ ps) isnt h e = (refl, h.1)
lead-clean a b c s ((x ∷ []) ∷ q ∷ ps) isnt h e = (refl, h.1)
lead-clean a b c s ((x ∷ y ∷ p) ∷ q ∷ ps) isnt h e = (or_from _ _ (same_code a b c s x y _ isnt e) h.0, h.1)

lead-joined : (a : ℕ) (ps : List (List ℕ)) → AreClean ps → joined (lead a ps) ≡ a ∷ joined ps
unfolding joined
lead-joined a [] h = absurd h
lead-joined a (p ∷ []) h = refl
lead-joined a (p ∷ q ∷ ps) h = refl

-- clean strings that joined by codes give s
abbrev pub SplitsInto : List ℕ → List (List ℕ) → Type 0
SplitsInto s ps = AreClean ps × (joined ps ≡ s)

code-split : (a b c : ℕ) (s : List ℕ) (ps : List (List ℕ)) → is_code a b c ≡ true → SplitsInto s ps → SplitsInto (a ∷ b ∷ c ∷ s) ([] ∷ ps)
unfolding joined has_code
code-split a b c s [] is h = absurd h.0
code-split a b c s (p ∷ ps) is h =
    let bytes = code-bytes a b c is in
    ((refl, h.0), rw (bytes.0, bytes.1, bytes.2) (ap (λ rest. start_code ++ rest) h.1))

-- each string has a split
has_split : (s : List ℕ) → (ps : List (List ℕ)) × SplitsInto s ps
unfolding joined has_code
has_split [] = ([] ∷ [], (refl, refl))
has_split (a ∷ []) = ((a ∷ []) ∷ [], (refl, refl))
has_split (a ∷ b ∷ []) = ((a ∷ b ∷ []) ∷ [], (refl, refl))
has_split (a ∷ b ∷ c ∷ s) = go (is_code a b c) refl (has_split s) (has_split (b ∷ c ∷ s))
  where
    go : (t : Bool) → is_code a b c ≡ t → (ps : List (List ℕ)) × SplitsInto s ps → (ps : List (List ℕ)) × SplitsInto (b ∷ c ∷ s) ps → (ps : List (List ℕ)) × SplitsInto (a ∷ b ∷ c ∷ s) ps
    go true is (ps, h) more = ([] ∷ ps, code-split a b c s ps is h)
    go false isnt less (ps, h) = (lead a ps, (lead-clean a b c s ps isnt h.0 h.1, lead-joined a ps h.0 ∙ ap (λ rest. a ∷ rest) h.1))

-- the pieces are a split, and the only one
pub pieces_split : (s : List ℕ) → SplitsInto s (pieces s)
pieces_split s = go (has_split s)
  where
    go : (ps : List (List ℕ)) × SplitsInto s ps → SplitsInto s (pieces s)
    go (ps, h) = let is : pieces s ≡ ps = ap pieces (sym h.1) ∙ pieces-joined ps h.0 in subst (SplitsInto s) (sym is) h

pub pieces_only : (s : List ℕ) (ps : List (List ℕ)) → SplitsInto s ps → pieces s ≡ ps
pieces_only s ps h = ap pieces (sym h.1) ∙ pieces-joined ps h.0

-- all pieces but the last, each of which a code closed, and the last, which stands open at the end
abbrev pub closed_of : List (List ℕ) → List (List ℕ)
closed_of [] = []
closed_of (p ∷ []) = []
closed_of (p ∷ q ∷ ps) = p ∷ closed_of (q ∷ ps)

abbrev pub open_of : List (List ℕ) → List ℕ
open_of [] = []
open_of (p ∷ []) = p
open_of (p ∷ q ∷ ps) = open_of (q ∷ ps)

pub closed-open : (ps : List (List ℕ)) → AreClean ps → closed_of ps ++ open_of ps ∷ [] ≡ ps
closed-open [] h = absurd h
closed-open (p ∷ []) h = refl
closed-open (p ∷ q ∷ ps) h = ap (λ rest. p ∷ rest) (closed-open (q ∷ ps) h.1)

-- the pieces of a longer string: those that were closed stay, and the open one goes on
more : (ps : List (List ℕ)) (t : List ℕ) → AreClean ps → pieces (joined ps ++ t) ≡ closed_of ps ++ pieces (open_of ps ++ t)
unfolding joined
more [] t h = absurd h
more (p ∷ []) t h = refl
more (p ∷ q ∷ ps) t h =
    ap pieces (append_assoc p (start_code ++ joined (q ∷ ps)) t)
    ∙ pieces-code p (joined (q ∷ ps) ++ t) h.0
    ∙ ap (λ rest. p ∷ rest) (more (q ∷ ps) t h.1)

pub pieces-append : (s t : List ℕ) → pieces (s ++ t) ≡ closed_of (pieces s) ++ pieces (open_of (pieces s) ++ t)
pieces-append s t = let is = pieces_split s in ap (λ r. pieces (r ++ t)) (sym is.1) ∙ more (pieces s) t is.0

-- no code stands within a piece
abbrev IsClean : List ℕ → Type 0
IsClean p = has_code p ≡ false

-- the same said of each piece
clean-all : (ps : List (List ℕ)) → 0 < length ps → All (λ p. has_code p ≡ false) ps → AreClean ps
clean-all [] some all = absurd (omega arith)
clean-all (p ∷ []) some all = All-head IsClean p [] all
clean-all (p ∷ q ∷ ps) some all =
    let rest : 0 < length (q ∷ ps) = omega arith in
    (All-head IsClean p (q ∷ ps) all, clean-all (q ∷ ps) rest (All-tail IsClean p (q ∷ ps) all))

all-clean : (ps : List (List ℕ)) → AreClean ps → All (λ p. has_code p ≡ false) ps
all-clean [] h = absurd h
all-clean (p ∷ []) h = All-cons IsClean p [] h (All-nil IsClean)
all-clean (p ∷ q ∷ ps) h = All-cons IsClean p (q ∷ ps) h.0 (all-clean (q ∷ ps) h.1)

some-clean : (ps : List (List ℕ)) → AreClean ps → 0 < length ps
some-clean [] h = absurd h
some-clean (p ∷ ps) h = omega arith

pub pieces-IsSplit : (s : List ℕ) → IsSplit s (pieces s)
pieces-IsSplit s =
    let is = pieces_split s in
    record { some = some-clean (pieces s) is.0; clean = all-clean (pieces s) is.0; joins = is.1 }

pub pieces-unique : (s : List ℕ) (ps : List (List ℕ)) → IsSplit s ps → ps ≡ pieces s
pieces-unique s ps h = sym (pieces_only s ps (clean-all ps h.some h.clean, h.joins))

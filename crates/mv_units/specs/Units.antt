-- The units of a byte string (Annex B): what stands behind each start code prefix, and where.
use Rattle.std.specs.Prelude.{◌≡◌, ℕ, ◌+◌, ◌<◌, Bool, true, false, cond, ◌==◌, ◌&&◌, ◌||◌, not, List, [], ◌∷◌, ◌++◌, length, drop, Option}
use Rattle.std.specs.List.{All, list_all, position_from}

-- the start code prefix, 00 00 01 (Annex B, start_code_prefix_one_3bytes)
abbrev pub start_code : List ℕ
start_code = 0 ∷ 0 ∷ 1 ∷ []

-- whether three bytes are a start code prefix
abbrev pub is_code : ℕ → ℕ → ℕ → Bool
is_code a b c = (a == 0) && (b == 0) && (c == 1)

-- whether a start code prefix stands somewhere in the string
unfoldable pub has_code : List ℕ → Bool
has_code (a ∷ b ∷ c ∷ s) = is_code a b c || has_code (b ∷ c ∷ s)
has_code s = false

-- the pieces with one byte more at the front of the first
abbrev pub lead : ℕ → List (List ℕ) → List (List ℕ)
lead a [] = []
lead a (p ∷ ps) = (a ∷ p) ∷ ps

-- the pieces of a string (Annex B): what stands before its first start code prefix, and what stands
-- behind each one up to the next or the end; there is one piece more than there are prefixes
unfoldable pub pieces : List ℕ → List (List ℕ)
pieces (a ∷ b ∷ c ∷ s) = elim (is_code a b c) [ true ↦ [] ∷ pieces s | false ↦ lead a (pieces (b ∷ c ∷ s)) ]
pieces s = s ∷ []

-- pieces joined by start code prefixes
unfoldable pub joined : List (List ℕ) → List ℕ
joined [] = []
joined (p ∷ []) = p
joined (p ∷ q ∷ ps) = p ++ (start_code ++ joined (q ∷ ps))

-- ps is a split of s at start code prefixes: one piece or more, no prefix within a piece, and joined by
-- prefixes they give s; by law this holds of the pieces of s, and of no other list
pub record IsSplit (s : List ℕ) (ps : List (List ℕ)) : Type 0 where
  pub some : 0 < length ps
  pub clean : All (λ p. has_code p ≡ false) ps
  pub joins : joined ps ≡ s

-- whether a byte is zero, and whether all bytes of a string are
abbrev pub is_zero : ℕ → Bool
is_zero b = b == 0

abbrev pub all_zero : List ℕ → Bool
all_zero s = list_all is_zero s

-- a string less all zero bytes at its end (Annex B, trailing_zero_8bits and the zero_byte of the
-- start code that follows)
unfoldable pub trimmed : List ℕ → List ℕ
trimmed [] = []
trimmed (b ∷ s) = cond (all_zero (b ∷ s)) [] (b ∷ trimmed s)

-- a NAL unit of a byte stream: the offset in the stream of the first byte after its start code
-- prefix, and its bytes (Annex B; the place is this project's profile)
pub record NalUnit : Type 0 where
  pub place : ℕ
  pub bytes : List ℕ

-- pieces as units, where the first of them stands at the given offset, and each further one behind
-- the three bytes of a start code prefix
unfoldable pub placed : ℕ → List (List ℕ) → List NalUnit
placed at [] = []
placed at (p ∷ ps) = record { place = at; bytes = trimmed p } ∷ placed (at + length p + 3) ps

-- the units of a string that stands at the given offset of the stream: its pieces but the first
abbrev pub units_at : ℕ → List ℕ → List NalUnit
units_at at s = drop 1 (placed at (pieces s))

-- the units of a byte string, numbered from 0 by their order (Annex B)
abbrev pub units : List ℕ → List NalUnit
units s = units_at 0 s

-- what stands before the first start code prefix: the first piece
abbrev pub front_of : List (List ℕ) → List ℕ
front_of [] = []
front_of (p ∷ ps) = p

abbrev pub front : List ℕ → List ℕ
front s = front_of (pieces s)

-- the offset of the first byte that may not stand where it does: a byte other than zero before the
-- first start code prefix, where only leading_zero_8bits and a zero_byte may stand (Annex B)
abbrev pub leading : List ℕ → Option ℕ
leading s = position_from (λ b. not (is_zero b)) 0 (front s)

-- Output order (C.5.2, the "bumping" process): pictures wait until more than a number of them wait, and the first
-- in output order then leaves. Histories have the latest picture first; what waits and what left stand in output
-- order. `lt a b` says that a stands before b in output order.
use Rattle.std.specs.Prelude.{◌≡◌, ℕ, suc, Bool, true, false, nat_lt, List, [], ◌∷◌, ◌++◌, length, map, filter, All, ℤ, int_lt, ◌&&◌, ◌||◌, if◌then◌else◌}
use Rattle.std.specs.Ordering.{int_eq}
use Rattle.mv_history.specs.History.{Throughout}

-- an element put into a list in output order, behind those that it doesn't stand before
unfoldable pub put : {A : Type 0} → (A → A → Bool) → A → List A → List A
put lt a [] = a ∷ []
put lt a (x ∷ xs) = if lt a x then a ∷ x ∷ xs else x ∷ put lt a xs

-- the elements of a history in output order
unfoldable pub sorted : {A : Type 0} → (A → A → Bool) → List A → List A
sorted lt [] = []
sorted lt (a ∷ past) = put lt a (sorted lt past)

-- of a list, the first elements, which leave so that at most `reorder` stay, and those that stay
unfoldable pub leaving : {A : Type 0} → ℕ → List A → List A
leaving reorder [] = []
leaving reorder (x ∷ xs) = if nat_lt reorder (length (x ∷ xs)) then x ∷ leaving reorder xs else []

unfoldable pub staying : {A : Type 0} → ℕ → List A → List A
staying reorder [] = []
staying reorder (x ∷ xs) = if nat_lt reorder (length (x ∷ xs)) then staying reorder xs else x ∷ xs

-- what waits behind a history, in output order
unfoldable pub waits : {A : Type 0} → ℕ → (A → A → Bool) → List A → List A
waits reorder lt [] = []
waits reorder lt (a ∷ past) = staying reorder (put lt a (waits reorder lt past))

-- what has left, in the order in which it left
unfoldable pub gone : {A : Type 0} → ℕ → (A → A → Bool) → List A → List A
gone reorder lt [] = []
gone reorder lt (a ∷ past) = gone reorder lt past ++ leaving reorder (put lt a (waits reorder lt past))

-- more than `reorder` elements of a history stand behind an element in output order
abbrev pub is_above : {A : Type 0} → ℕ → (A → A → Bool) → List A → A → Bool
is_above reorder lt past a = nat_lt reorder (length (filter (lt a) past))

-- the greatest `reorder + 1` numbers of a history, rising
abbrev pub tops : {A : Type 0} → (A → ℤ) → ℕ → List A → List ℤ
tops count reorder past = waits (suc reorder) int_lt (map count past)

-- elements by a number that each has: of two with the same number neither stands before the other
abbrev pub by : {A : Type 0} → (A → ℤ) → A → A → Bool
by count a b = int_lt (count a) (count b)

-- what is asked of an order: no two elements stand before one another, and what stands before an element stands
-- before each that doesn't stand before that element
pub record IsOrder {A : Type 0} (lt : A → A → Bool) : Type 0 where
  pub one_way : (a b : A) → lt a b ≡ true → lt b a ≡ false
  pub carries : (a b c : A) → lt a b ≡ true → lt c b ≡ false → lt a c ≡ true

-- elements by a number that each has, and those with the same number by a second one
abbrev pub by_both : {A : Type 0} → (A → ℤ) → (A → ℕ) → A → A → Bool
by_both count place a b = by count a b || (int_eq (count a) (count b) && nat_lt (place a) (place b))

-- no element of a history came when more than `reorder` that stand behind it were there
abbrev pub IsNeverAbove : {A : Type 0} → ℕ → (A → A → Bool) → List A → Type 0
IsNeverAbove reorder lt past = Throughout (λ past a. is_above reorder lt past a ≡ false) past

-- two orders agree at an element and each of some
abbrev pub Agree : {A : Type 0} → (A → A → Bool) → (A → A → Bool) → List A → A → Type 0
Agree lt other xs a = All (λ x. lt a x ≡ other a x) xs

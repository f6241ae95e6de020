-- Histories: lists that have the latest first. What was said of each element is said by what was said of those
-- before it, which stand behind it in the list.
use Rattle.std.specs.Prelude.{◌≡◌, Bool, true, List, [], ◌∷◌, filter, All, if◌then◌else◌, ⊤}

-- each element judged by the judgements of those before it
unfoldable pub run : {A B : Type 0} → (List B → A → B) → List A → List B
run judge [] = []
run judge (a ∷ past) = judge (run judge past) a ∷ run judge past

-- what came after the latest element that passes a test; all where none does
unfoldable pub since : {A : Type 0} → (A → Bool) → List A → List A
since test [] = []
since test (a ∷ past) = if test a then [] else a ∷ since test past

-- the latest element that passes a test, and what came after it; all where none does
unfoldable pub from : {A : Type 0} → (A → Bool) → List A → List A
from test [] = []
from test (a ∷ past) = if test a then a ∷ [] else a ∷ from test past

-- a statement of each element and of those before it
abbrev pub Throughout : {A : Type 0} → (List A → A → Type 0) → List A → Type 0
Throughout P [] = ⊤
Throughout P (a ∷ past) = P past a × Throughout P past

-- each element that passes a test is kept
abbrev pub Keeps : {A : Type 0} → (A → Bool) → (A → Bool) → List A → Type 0
Keeps test kept xs = All (λ x. test x ≡ true → kept x ≡ true) xs

-- what was judged tells what it was said of
abbrev pub Tells : {A B : Type 0} → (List B → A → B) → (B → A) → Type 0
Tells {A} {B} judge source = (past : List B) (a : A) → source (judge past a) ≡ a

-- what is judged of a kept element doesn't depend on those that aren't kept
abbrev pub IsAlone : {A B : Type 0} → (List B → A → B) → (B → Bool) → List A → A → Type 0
IsAlone judge kept past a =
    kept (judge (run judge past) a) ≡ true → judge (filter kept (run judge past)) a ≡ judge (run judge past) a

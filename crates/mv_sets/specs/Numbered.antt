-- Sets of one kind as they are kept: of each layer and id the one that was received last, with the number of its reception.
use Rattle.std.specs.Prelude.{ℕ, List, Option, refl}
use Rattle.std.specs.Coded.{Coded, code_by, coded×, coded_list, coded_option, coded_ℕ}

-- a set, and its number among those that were received, from 1 on
pub record Numbered (A : Type 0) : Type 0 where
  pub number : ℕ
  pub set : A

-- it is coded as the pair of its parts
abbrev pub numbered_code : {A : Type 0} → Coded A → Coded (Numbered A)
numbered_code {A} set = code_by (ℕ × A) (coded× coded_ℕ set) (λ n. (n.number, n.set)) (λ p. record { number = p.0; set = p.1 }) (λ _. refl)

-- how many ids a layer has, the entries of all layers, of each layer by its ids, and how many sets were received
pub record TableValue (A : Type 0) : Type 0 where
  pub ids : ℕ
  pub entries : List (Option (Numbered A))
  pub count : ℕ

-- it is coded as the tuple of its parts
abbrev pub table_code : {A : Type 0} → Coded A → Coded (TableValue A)
table_code {A} set =
    code_by (ℕ × (List (Option (Numbered A)) × ℕ)) (coded× coded_ℕ (coded× (coded_list (coded_option (numbered_code set))) coded_ℕ)) (λ t. (t.ids, (t.entries, t.count)))
    (λ p. record { ids = p.0; entries = p.1.0; count = p.1.1 }) (λ _. refl)

-- The references of a picture are the values of the pictures that it refers to: those of its layer by their places in the buffer,
-- and those of other layers as the latest in theirs (8.3.2, F.8.1.6).
use Rattle.std.proofs.Common.{◌≡◌, ℕ, zero, suc, ◌+◌, ◌-◌, ◌<◌, ℤ, Bool, true, false, cond, not, ◌&&◌, ◌||◌, All, List, [], ◌∷◌, ◌++◌, length, get_or, map, reverse, Option, Some, None, refl, sym, ap, ap₂, ◌∙◌, subst, arith}
use Rattle.std.specs.Prelude.{option_and_then, option_map, slice_get}
use Rattle.std.specs.List.{cons_option, filter_map, find, list_all, list_any}
use Rattle.std.proofs.lemmas.List.{length-append, map-append, reverse-append, reverse-reverse}
use Rattle.std.proofs.lemmas.List.Elements.{All-head, All-tail}
use Rattle.std.proofs.lemmas.Option.{slice_get-get_or}
use Rattle.mv_layers.specs.OutputLayers.{is_among}
use Rattle.mv_dpb.specs.declared.held.Held.{Held as InBuffer}
use Rattle.mv_dpb.specs.declared.held.Keep.{Keep}
use Rattle.mv_dpb.specs.Stored.{Stored}
use Rattle.mv_pictures.specs.Facts.{Fact}
use Rattle.mv_pictures.specs.Held.{Held, held, held_behind, fits, marks, match_of, spares}
use Rattle.mv_pictures.specs.Judged.{Judged, au}
use Rattle.mv_pictures.specs.Look.{Look, in_sequence}
use Rattle.mv_pictures.specs.SliceFields.{Entry}
use Rattle.mv_pictures.specs.Terms.{Tag}
use Rattle.mv_rebuild.specs.Parts.{Part}
use Rattle.mv_rps.specs.Standing.{AreApart, au_kept, told, told_of}
use Rattle.mv_rps.proofs.FoundLaws.{All_reverse, all_found}
use Rattle.mv_walk_layer.specs.LayerValue.{LayerValue, last_picture, picture_at, referred}

-- ---- By place

got_map : {A B : Type 0} (f : A → B) (xs : List A) (i : ℕ) → slice_get (map f xs) i ≡ option_map f (slice_get xs i)
got_map f [] i = refl
got_map f (x ∷ xs) zero = refl
got_map f (x ∷ xs) (suc i) = got_map f xs i

got_lt : {A : Type 0} (xs : List A) (i : ℕ) (x : A) → slice_get xs i ≡ Some x → i < length xs
got_lt [] i x h = absurd (let wrong : None ≡ Some x = h in cc)
got_lt (y ∷ ys) zero x h = omega arith
got_lt (y ∷ ys) (suc i) x h = let less : i < length ys = got_lt ys i x h in omega (arith, less)

got_or : {A : Type 0} (xs : List A) (i : ℕ) (x d : A) → slice_get xs i ≡ Some x → get_or xs i d ≡ x
got_or xs i x d h =
    let same : Some (get_or xs i d) ≡ Some x = sym (slice_get-get_or xs i d (got_lt xs i x h)) ∙ h in
    cc

-- a picture is among some
abbrev pub IsIn : List Held → Held → Type 0
IsIn ys h = (i : ℕ) × (slice_get ys i ≡ Some h)

all_in : (hs : List Held) → All (IsIn (reverse hs)) hs
all_in hs = subst (All (IsIn (reverse hs))) (reverse-reverse hs) (All_reverse (IsIn (reverse hs)) (reverse hs) (λ k d less. (k, slice_get-get_or (reverse hs) k d less)))

pub matches_in : (l : Look) (p : Fact) (es : List Entry) → All (IsIn (reverse (held l p))) (filter_map (match_of l p) es)
unfolding match_of
matches_in l p es = all_found (IsIn (reverse (held l p))) (fits l p) (held l p) es (all_in (held l p))

module _ {P : Type 0} (l : LayerValue P) (hs : List Held) (val : Held → P) (same : map (λ s. s.told) l.buffer ≡ told hs) (holds : map (λ s. s.picture) l.buffer ≡ map val (reverse hs)) (apart : AreApart (told hs)) where
  -- the picture of the buffer at the place of a picture that is held
  at-place : (place : ℕ) (t : InBuffer) (h : Held) → slice_get (told hs) place ≡ Some t → t.au ≡ au h.it.fact → IsIn (reverse hs) h → option_map (λ (q : ℤ × P). q.1) (picture_at place l) ≡ Some (val h)
  at-place place t h there unit (j, is) =
      pictured (slice_get l.buffer place)
      ∙ sym (got_map (λ s. s.picture) l.buffer place)
      ∙ ap (λ ps. slice_get ps place) holds
      ∙ got_map val (reverse hs) place
      ∙ ap (option_map val) (ap (slice_get (reverse hs)) places ∙ is)
    where
      pictured : (o : Option (Stored InBuffer P)) → option_map (λ (q : ℤ × P). q.1) (option_map (λ (s : Stored InBuffer P). (s.told.count, s.picture)) o) ≡ option_map (λ (s : Stored InBuffer P). s.picture) o
      pictured None = refl
      pictured (Some s) = refl

      it : slice_get (told hs) j ≡ Some (told_of h)
      it = got_map told_of (reverse hs) j ∙ ap (option_map told_of) is

      places : place ≡ j
      places =
          apart place j t (got_lt (told hs) place t there) (got_lt (told hs) j (told_of h) it)
          (ap (λ (x : InBuffer). x.au) (got_or (told hs) place t t there) ∙ unit ∙ ap (λ (x : InBuffer). x.au) (sym (got_or (told hs) j (told_of h) t it)))

  one-referred : (keep : List Keep) (i : ℕ) (h : Held) → au_kept (told hs) keep i ≡ Some (au h.it.fact) → IsIn (reverse hs) h → option_map (λ (q : ℤ × P). q.1) (referred keep i l) ≡ Some (val h)
  one-referred keep i h is within = kept (slice_get keep i) is
    where
      kept : (o : Option Keep) → option_and_then (λ (k : Keep). option_map (λ (t : InBuffer). t.au) (slice_get (told hs) k.place)) o ≡ Some (au h.it.fact) →
          option_map (λ (q : ℤ × P). q.1) (option_and_then (λ (k : Keep). picture_at k.place l) o) ≡ Some (val h)
      kept None wrong = absurd (let no : None ≡ Some (au h.it.fact) = wrong in cc)
      kept (Some k) found = there (slice_get (told hs) k.place) refl found
        where
          there : (o : Option InBuffer) → slice_get (told hs) k.place ≡ o → option_map (λ (t : InBuffer). t.au) o ≡ Some (au h.it.fact) → option_map (λ (q : ℤ × P). q.1) (picture_at k.place l) ≡ Some (val h)
          there None e wrong = absurd (let no : None ≡ Some (au h.it.fact) = wrong in cc)
          there (Some t) e unit = at-place k.place t h e (let is : Some t.au ≡ Some (au h.it.fact) = unit in cc) within

  -- the references of a part, as the walker adds them
  pub part-referred : (tag : Tag) (keep : List Keep) (indexes : List ℕ) (ms : List Held) → map (au_kept (told hs) keep) indexes ≡ map (λ (h : Held). Some (au h.it.fact)) ms → All (IsIn (reverse hs)) ms →
      filter_map (λ i. option_map (λ (q : ℤ × P). Part.refers tag q.1) (referred keep i l)) indexes ≡ map (λ (h : Held). Part.refers tag (val h)) ms
  part-referred tag keep [] [] h within = refl
  part-referred tag keep [] (m ∷ ms) h within = absurd cc
  part-referred tag keep (i ∷ is) [] h within = absurd cc
  part-referred tag keep (i ∷ is) (m ∷ ms) h within =
      let first : au_kept (told hs) keep i ≡ Some (au m.it.fact) = cc in
      let others : map (au_kept (told hs) keep) is ≡ map (λ (h : Held). Some (au h.it.fact)) ms = cc in
      add (referred keep i l) (one-referred keep i m first (All-head (IsIn (reverse hs)) m ms within))
      ∙ ap (λ ps. Part.refers tag (val m) ∷ ps) (part-referred tag keep is ms others (All-tail (IsIn (reverse hs)) m ms within))
    where
      rest : List (Part P)
      rest = filter_map (λ i. option_map (λ (q : ℤ × P). Part.refers tag q.1) (referred keep i l)) is

      add : (o : Option (ℤ × P)) → option_map (λ (q : ℤ × P). q.1) o ≡ Some (val m) → cons_option (option_map (λ (q : ℤ × P). Part.refers tag q.1) o) rest ≡ Part.refers tag (val m) ∷ rest
      add None wrong = absurd (let no : None ≡ Some (val m) = wrong in cc)
      add (Some q) is = ap (λ pic. Part.refers tag pic ∷ rest) (let same : q.1 ≡ val m = (let both : Some q.1 ≡ Some (val m) = is in cc) in same)

-- ---- The latest picture of a layer

-- it is held, and the latest of those that are
pub record LatestHeld (behind own : List Judged) (d : Judged) : Type 0 where
  pub long : Bool
  pub rest : List Held
  pub held_is : held_behind behind own ≡ record { it = d; long = long } ∷ rest

undecoded : Judged → Bool
undecoded e = not e.decoded

spared : (x : Judged) (behind : List Judged) → list_all undecoded behind ≡ true → list_all (spares x) behind ≡ true
unfolding undecoded
spared x [] h = refl
spared x (e ∷ behind) h = go (spared x behind) e.decoded h
  where
    go : (list_all undecoded behind ≡ true → list_all (spares x) behind ≡ true) → (b : Bool) → (not b && list_all undecoded behind) ≡ true → ((not b || (not e.start && is_among e.names (au x.fact))) && list_all (spares x) behind) ≡ true
    go more false rest = more rest
    go more true wrong = absurd (let no : false ≡ true = wrong in cc)

latest_behind : (behind own : List Judged) (d : Judged) → list_all undecoded behind ≡ true → find (λ (d : Judged). d.decoded) own ≡ Some d → LatestHeld behind own d
unfolding held_behind undecoded
latest_behind behind [] d none is = absurd (let wrong : None ≡ Some d = is in cc)
latest_behind behind (x ∷ own) d none is = go (latest_behind (x ∷ behind) own d) x.decoded refl is
  where
    go : (list_all undecoded (x ∷ behind) ≡ true → find (λ (d : Judged). d.decoded) own ≡ Some d → LatestHeld (x ∷ behind) own d) → (b : Bool) → x.decoded ≡ b → cond b (Some x) (find (λ (d : Judged). d.decoded) own) ≡ Some d → LatestHeld behind (x ∷ own) d
    go further true decoded found = record {
      long = list_any (marks x) behind;
      rest = held_behind (x ∷ behind) own;
      held_is =
          ap₂ (λ a b. cond (a && b) (record { it = x; long = list_any (marks x) behind } ∷ held_behind (x ∷ behind) own) (held_behind (x ∷ behind) own)) decoded (spared x behind none)
          ∙ ap (λ y. record { it = y; long = list_any (marks x) behind } ∷ held_behind (x ∷ behind) own) (let same : x ≡ d = (let both : Some x ≡ Some d = found in cc) in same);
    }
    go further false decoded found =
        let more : LatestHeld (x ∷ behind) own d = further (ap (λ b. not b && list_all undecoded behind) decoded ∙ none) found in
        record {
          long = more.long;
          rest = more.rest;
          held_is = ap (λ a. cond (a && list_all (spares x) behind) (record { it = x; long = list_any (marks x) behind } ∷ held_behind (x ∷ behind) own) (held_behind (x ∷ behind) own)) decoded ∙ more.held_is;
        }

pub latest_held : (past : List Judged) (n : ℕ) (d : Judged) → find (λ (d : Judged). d.decoded) (in_sequence past n) ≡ Some d → LatestHeld [] (in_sequence past n) d
latest_held past n d is = latest_behind [] (in_sequence past n) d refl is

-- so it stands last in the buffer
got_last : {A : Type 0} (xs : List A) (x : A) → slice_get (xs ++ x ∷ []) (length xs) ≡ Some x
got_last [] x = refl
got_last (y ∷ ys) x = got_last ys x

last_got : {A : Type 0} (zs xs : List A) (x : A) → zs ≡ xs ++ x ∷ [] → slice_get zs (length zs - 1) ≡ Some x
last_got zs xs x is =
    let size : length zs ≡ length xs + 1 = ap length is ∙ length-append xs (x ∷ []) in
    ap (slice_get zs) (let last : length zs - 1 ≡ length xs = omega (arith, size) in last) ∙ ap (λ ys. slice_get ys (length xs)) is ∙ got_last xs x

pub last_value : {P : Type 0} (l : LayerValue P) (val : Held → P) (h : Held) (rest : List Held) → map (λ s. s.picture) l.buffer ≡ map val (reverse (h ∷ rest)) → option_map (λ (q : ℤ × P). q.1) (last_picture l) ≡ Some (val h)
last_value {P} l val h rest holds =
    pictured (slice_get l.buffer (length l.buffer - 1))
    ∙ sym (got_map (λ s. s.picture) l.buffer (length l.buffer - 1))
    ∙ ap (λ n. slice_get (map (λ s. s.picture) l.buffer) (n - 1)) (sym (as_many l.buffer))
    ∙ last_got (map (λ s. s.picture) l.buffer) (map val (reverse rest)) (val h) (holds ∙ ap (map val) (reverse-append (h ∷ []) rest) ∙ map-append val (reverse rest) (h ∷ []))
  where
    as_many : (ss : List (Stored InBuffer P)) → length (map (λ s. s.picture) ss) ≡ length ss
    as_many [] = refl
    as_many (s ∷ ss) = ap suc (as_many ss)

    pictured : (o : Option (Stored InBuffer P)) → option_map (λ (q : ℤ × P). q.1) (option_map (λ (s : Stored InBuffer P). (s.told.count, s.picture)) o) ≡ option_map (λ (s : Stored InBuffer P). s.picture) o
    pictured None = refl
    pictured (Some s) = refl

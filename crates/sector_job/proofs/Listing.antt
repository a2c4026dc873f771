-- The candidates are listed seed by seed, and at each seed field by field.
use Rattle.std.proofs.Common.{◌≡◌, ℕ, suc, ◌+◌, ◌-◌, ◌*◌, ◌<◌, ◌≤◌, List, [], ◌∷◌, ◌++◌, map, length, get_or, take, drop, append-nil, refl, sym, ◌∙◌, ap, subst, arith}
use Rattle.std.specs.List.{AllZip, flat_map}
use Rattle.std.proofs.lemmas.List.{take_more, take_all, map-append, length-append, get_or_default}
use Rattle.std.proofs.lemmas.List.Concat.{flat_map-append}
use Rattle.std.proofs.lemmas.List.FromFn.{map-range_with_len_more, length-map-range_with_len}
use Rattle.std.proofs.lemmas.Slice.Zip.{all_zipped_more, AllZip-long}
use Rattle.sparse_rows.specs.Rows.{IntegralSum}
use Rattle.family.specs.FamilyData.{FamilyData}
use Rattle.family.specs.declared.parts.StrippedField.{StrippedField}
use Rattle.relation_pick.proofs.Pieces.{front, front_more as front_step}
use Rattle.sector_job.specs.Candidates.{Integral, Label, labels_at, labels, field_numbered, IsCandidate, AreCandidates}

-- a list that is made element by element
pub map_more : {X Y : Type 0} (f : X → Y) (xs : List X) (i : ℕ) (x : X) (y : Y) (items new : List Y) → i < length xs → x ≡ get_or xs i x → y ≡ f x
    → new ≡ items ++ y ∷ [] → items ≡ map f (take i xs) → new ≡ map f (take (i + 1) xs)
map_more f xs i x y items new within is e pushed h =
    pushed ∙ ap (λ (z : _). items ++ z ∷ []) (e ∙ ap f is) ∙ ap (λ (zs : List _). zs ++ f (get_or xs i x) ∷ []) h ∙ sym (map-append f (take i xs) (get_or xs i x ∷ []))
    ∙ ap (map f) (sym (take_more xs i x within))

pub map_whole : {X Y : Type 0} (f : X → Y) (xs : List X) (i : ℕ) (items : List Y) → length xs ≤ i → items ≡ map f (take i xs) → items ≡ map f xs
map_whole f xs i items long h = h ∙ ap (map f) (take_all i xs long)

-- a list that is made of a piece for each element
pub flat_map_one_more : {X Y : Type 0} (f : X → List Y) (xs : List X) (i : ℕ) (x : X) → i < length xs → x ≡ get_or xs i x
    → flat_map f (take (i + 1) xs) ≡ flat_map f (take i xs) ++ f x
flat_map_one_more f xs i x within is =
    ap (flat_map f) (take_more xs i x within) ∙ flat_map-append f (take i xs) (get_or xs i x ∷ []) ∙ ap (λ (ys : List _). flat_map f (take i xs) ++ ys) (append-nil (f (get_or xs i x)))
    ∙ ap (λ (z : _). flat_map f (take i xs) ++ f z) (sym is)

pub flat_map_whole : {X Y : Type 0} (f : X → List Y) (xs : List X) (i : ℕ) → length xs ≤ i → flat_map f (take i xs) ≡ flat_map f xs
flat_map_whole f xs i long = ap (flat_map f) (take_all i xs long)

pub zip_append : {X Y : Type 0} (R : X → Y → Type 0) (xs more : List X) (ys rest : List Y) → AllZip R xs ys → AllZip R more rest → AllZip R (xs ++ more) (ys ++ rest)
zip_append R [] more [] rest h k = k
zip_append R [] more (y ∷ ys) rest h k = absurd h
zip_append R (x ∷ xs) more [] rest h k = absurd h
zip_append R (x ∷ xs) more (y ∷ ys) rest h k = (h.0, zip_append R xs more ys rest h.1 k)

module _ (family : FamilyData) (fields : List StrippedField) where
  abbrev Goes : Label → IntegralSum → Type 0
  Goes label row = IsCandidate family label.seed (field_numbered fields label.field) row

  -- the candidates at a seed of the fields before a place
  abbrev pub Front : Integral → ℕ → List IntegralSum → Type 0
  Front seed i rows = AllZip Goes (labels_at i seed) rows

  pub front_none : (seed : Integral) → Front seed 0 []
  front_none seed = tt

  pub front_more : (seed : Integral) (i : ℕ) (field : StrippedField) (row : IntegralSum) (rows new : List IntegralSum) → i < length fields → field ≡ get_or fields i field
      → IsCandidate family seed field row → new ≡ rows ++ row ∷ [] → Front seed i rows → Front seed (i + 1) new
  front_more seed i field row rows new within is candidate pushed h =
      let name : ℕ → Label = λ number. record { seed = seed; field = number } in
      let same : get_or fields i field ≡ field_numbered fields (1 + i) =
      get_or_default fields i field (record { c = []; b = [] }) within ∙ ap (λ k. get_or fields k (record { c = []; b = [] })) (let e : i ≡ 1 + i - 1 = omega arith in e)
      in
      let here : Goes (name (1 + i)) row = subst (λ (f : StrippedField). IsCandidate family seed f row) (is ∙ same) candidate in
      subst (λ (all : List IntegralSum). AllZip Goes (labels_at (i + 1) seed) all) (sym pushed)
      (subst (λ (names : List Label). AllZip Goes names (rows ++ row ∷ [])) (sym (map-range_with_len_more name 1 i (1 + i) refl))
      (all_zipped_more Goes (labels_at i seed) rows (name (1 + i)) row h here))

  -- the candidates at the seeds before a place
  abbrev pub Lists : List Integral → ℕ → List IntegralSum → Type 0
  Lists seeds i rows = AllZip Goes (labels (length fields) (take i seeds)) rows

  pub lists_more : (seeds : List Integral) (i : ℕ) (seed : Integral) (rows more new : List IntegralSum) → i < length seeds → seed ≡ get_or seeds i seed
      → Front seed (length fields) more → new ≡ rows ++ more → Lists seeds i rows → Lists seeds (i + 1) new
  lists_more seeds i seed rows more new within is at pushed h =
      subst (λ (all : List IntegralSum). AllZip Goes (labels (length fields) (take (i + 1) seeds)) all) (sym pushed)
      (subst (λ (names : List Label). AllZip Goes names (rows ++ more)) (sym (flat_map_one_more (labels_at (length fields)) seeds i seed within is))
      (zip_append Goes (labels (length fields) (take i seeds)) (labels_at (length fields) seed) rows more h at))

  pub lists_whole : (seeds : List Integral) (i : ℕ) (rows : List IntegralSum) → length seeds ≤ i → Lists seeds i rows → AreCandidates family fields seeds rows
  lists_whole seeds i rows long h = subst (λ (names : List Label). AllZip Goes names rows) (flat_map_whole (labels_at (length fields)) seeds i long) h

  count_labels : (count : ℕ) (seeds : List Integral) → length (labels count seeds) ≡ count * length seeds
  count_labels count [] = omega arith
  count_labels count (seed ∷ seeds) =
      omega (
        arith,
        length-append (labels_at count seed) (labels count seeds),
        length-map-range_with_len (λ number. let name : Label = record { seed = seed; field = number } in name) 1 count,
        count_labels count seeds,
        mul_suc count (length seeds),
      )
    where
      mul_suc : (a b : ℕ) → a * suc b ≡ a + a * b
      mul_suc a b = grind arith

  -- as many as there are fields and seeds
  pub count_rows : (seeds : List Integral) (rows : List IntegralSum) → AreCandidates family fields seeds rows → length rows ≡ length fields * length seeds
  count_rows seeds rows h = AllZip-long Goes (labels (length fields) seeds) rows h ∙ count_labels (length fields) seeds

  -- the candidates at some seeds, and then those at more
  pieces_more : (seeds more : List Integral) (rows others : List IntegralSum) → AreCandidates family fields seeds rows → AreCandidates family fields more others → AreCandidates family fields (seeds ++ more) (rows ++ others)
  pieces_more seeds more rows others h k =
      subst (λ (names : List Label). AllZip Goes names (rows ++ others)) (sym (flat_map-append (labels_at (length fields)) seeds more))
      (zip_append Goes (labels (length fields) seeds) (labels (length fields) more) rows others h k)

  -- the candidates at the seeds of the pieces before number n, and then those at piece n
  pub joins : (seeds piece : List Integral) (size n m : ℕ) (rows others new : List IntegralSum) → m ≡ n + 1 → piece ≡ take size (drop (n * size) seeds) → new ≡ rows ++ others
      → AreCandidates family fields (front seeds size n) rows → AreCandidates family fields piece others → AreCandidates family fields (front seeds size m) new
  joins seeds piece size n m rows others new next is joined before here =
      let both = pieces_more (front seeds size n) piece rows others before here in
      let whole : front seeds size m ≡ front seeds size n ++ piece = ap (front seeds size) next ∙ front_step seeds size n ∙ ap (λ (ss : List Integral). front seeds size n ++ ss) (sym is) in
      subst (λ (ss : List Integral). AreCandidates family fields ss new) (sym whole)
      (subst (λ (all : List IntegralSum). AreCandidates family fields (front seeds size n ++ piece) all) (sym joined) both)

-- Sums of lists of exponents are commutative and associative, and go with `get_or` and `map`.
use Rattle.std.proofs.Common.{◌≡◌, ℕ, zero, suc, ◌+◌, ◌<◌, ◌≤◌, List, [], ◌∷◌, map, length, get_or, take, sym, refl, ap, ◌∙◌, arith}
use Rattle.ibp_algebra.specs.Exponents.{padded_sum, add_exponents, first_exponents}

module _ {X : Type 0} (plus : X → X → X) where
  pub padded_sum-nil : (xs : List X) → padded_sum plus xs [] ≡ xs
  padded_sum-nil [] = refl
  padded_sum-nil (x ∷ xs) = refl

  pub padded_sum_comm : ((x y : X) → plus x y ≡ plus y x) → (xs ys : List X) → padded_sum plus xs ys ≡ padded_sum plus ys xs
  padded_sum_comm comm [] ys = sym (padded_sum-nil ys)
  padded_sum_comm comm (x ∷ xs) [] = refl
  padded_sum_comm comm (x ∷ xs) (y ∷ ys) = λ i. comm x y i ∷ padded_sum_comm comm xs ys i

  pub padded_sum_assoc : ((x y z : X) → plus (plus x y) z ≡ plus x (plus y z)) → (xs ys zs : List X)
      → padded_sum plus (padded_sum plus xs ys) zs ≡ padded_sum plus xs (padded_sum plus ys zs)
  padded_sum_assoc assoc [] ys zs = refl
  padded_sum_assoc assoc (x ∷ xs) [] zs = refl
  padded_sum_assoc assoc (x ∷ xs) (y ∷ ys) [] = refl
  padded_sum_assoc assoc (x ∷ xs) (y ∷ ys) (z ∷ zs) = λ i. assoc x y z i ∷ padded_sum_assoc assoc xs ys zs i

  pub get_or-padded_sum : (none : X) → ((x : X) → plus none x ≡ x) → ((x : X) → plus x none ≡ x) → (xs ys : List X) (i : ℕ)
      → get_or (padded_sum plus xs ys) i none ≡ plus (get_or xs i none) (get_or ys i none)
  get_or-padded_sum none left right [] ys i = sym (left (get_or ys i none))
  get_or-padded_sum none left right (x ∷ xs) [] i = sym (right (get_or (x ∷ xs) i none))
  get_or-padded_sum none left right (x ∷ xs) (y ∷ ys) zero = refl
  get_or-padded_sum none left right (x ∷ xs) (y ∷ ys) (suc i) = get_or-padded_sum none left right xs ys i

  pub length-padded_sum : (n : ℕ) (xs ys : List X) → length xs ≡ n → length ys ≡ n → length (padded_sum plus xs ys) ≡ n
  length-padded_sum n [] ys p q = q
  length-padded_sum n (x ∷ xs) [] p q = p
  length-padded_sum zero (x ∷ xs) (y ∷ ys) p q = absurd (omega arith)
  length-padded_sum (suc n) (x ∷ xs) (y ∷ ys) p q = omega (arith, length-padded_sum n xs ys (omega arith) (omega arith))

pub map-padded_sum : {X Y : Type 0} (plus : X → X → X) (add : Y → Y → Y) (f : X → Y) → ((x y : X) → f (plus x y) ≡ add (f x) (f y))
    → (xs ys : List X) → map f (padded_sum plus xs ys) ≡ padded_sum add (map f xs) (map f ys)
map-padded_sum plus add f keeps [] ys = refl
map-padded_sum plus add f keeps (x ∷ xs) [] = refl
map-padded_sum plus add f keeps (x ∷ xs) (y ∷ ys) = λ i. keeps x y i ∷ map-padded_sum plus add f keeps xs ys i

pub length-padded_sum_short : {X : Type 0} (plus : X → X → X) (n : ℕ) (xs ys : List X) → length xs ≡ n → length ys ≤ n → length (padded_sum plus xs ys) ≡ n
length-padded_sum_short plus n [] [] p q = p
length-padded_sum_short plus n [] (y ∷ ys) p q = absurd (omega arith)
length-padded_sum_short plus n (x ∷ xs) [] p q = p
length-padded_sum_short plus zero (x ∷ xs) (y ∷ ys) p q = absurd (omega arith)
length-padded_sum_short plus (suc n) (x ∷ xs) (y ∷ ys) p q = omega (arith, length-padded_sum_short plus n xs ys (omega arith) (omega arith))

-- ---- the first n exponents

pub length-first_exponents : (n : ℕ) (m : List ℕ) → length (first_exponents n m) ≡ n
length-first_exponents zero m = refl
length-first_exponents (suc n) [] = ap suc (length-first_exponents n [])
length-first_exponents (suc n) (x ∷ m) = ap suc (length-first_exponents n m)

pub get_or-first_exponents : (n i : ℕ) (m : List ℕ) → i < n → get_or (first_exponents n m) i 0 ≡ get_or m i 0
get_or-first_exponents zero i m h = absurd (omega arith)
get_or-first_exponents (suc n) zero [] h = refl
get_or-first_exponents (suc n) (suc i) [] h = get_or-first_exponents n i [] (omega arith)
get_or-first_exponents (suc n) zero (x ∷ m) h = refl
get_or-first_exponents (suc n) (suc i) (x ∷ m) h = get_or-first_exponents n i m (omega arith)

pub first_exponents-add_exponents : (n : ℕ) (a b : List ℕ) → first_exponents n (add_exponents a b) ≡ add_exponents (first_exponents n a) (first_exponents n b)
first_exponents-add_exponents zero a b = refl
first_exponents-add_exponents (suc n) [] [] = ap (λ m. 0 ∷ m) (first_exponents-add_exponents n [] [])
first_exponents-add_exponents (suc n) [] (y ∷ b) = let same : y ≡ 0 + y = omega arith in λ i. same i ∷ first_exponents-add_exponents n [] b i
first_exponents-add_exponents (suc n) (x ∷ a) [] =
    let same : x ≡ x + 0 = omega arith in
    let rest : first_exponents n a ≡ add_exponents (first_exponents n a) (first_exponents n []) =
    ap (first_exponents n) (sym (padded_sum-nil ◌+◌ a)) ∙ first_exponents-add_exponents n a []
    in
    λ i. same i ∷ rest i
first_exponents-add_exponents (suc n) (x ∷ a) (y ∷ b) = λ i. (x + y) ∷ first_exponents-add_exponents n a b i

pub first_exponents-take : (n : ℕ) (m : List ℕ) → n ≤ length m → first_exponents n m ≡ take n m
first_exponents-take zero m h = refl
first_exponents-take (suc n) [] h = absurd (omega arith)
first_exponents-take (suc n) (x ∷ m) h = ap (λ l. x ∷ l) (first_exponents-take n m (omega arith))

-- No text has a line end inside a line.
use Rattle.std.proofs.Common.{◌≡◌, ℕ, suc, ◌+◌, ◌<◌, ◌≤◌, ◌^◌, ℤ, List, [], ◌∷◌, ◌++◌, length, sum, Bool, true, false, cond, refl, ap, ap₂, ◌∙◌, subst, arith}
use Rattle.std.specs.Prelude.{codes, decimal, ◌==◌, ◌&&◌, not, pos, negsuc, nat_eq, neg_ℤ, ◌≤ℤ◌}
use Rattle.std.specs.Char.{is_ascii_digit}
use Rattle.std.specs.Fmt.{signed_decimal}
use Rattle.std.specs.List.{list_all, flat_map, AllByRecursion}
use Rattle.std.proofs.lemmas.Bool.{eqb-true}
use Rattle.std.proofs.lemmas.Fmt.{digits_decimal}
use Rattle.std.proofs.lemmas.Int.{ints}
use Rattle.std.proofs.lemmas.List.Folds.{list_all-append}
use Rattle.ibp_algebra.proofs.SumOfExponents.{sum-cons}
use Rattle.mono_order.specs.declared.limits.TheConstants.{RUN_DEGREE}
use Rattle.family.specs.Name.{is_name_byte}
use Rattle.line_reader.specs.Lines.{is_inside, lines, onto_first}
use Rattle.line_reader.proofs.Digits.{own, first_passes, second_passes}
use Rattle.system_text.specs.Texts.{joined, sum_text, power_text, powers_text}

abbrev pub Inside : List ℕ → Type 0
Inside bytes = list_all is_inside bytes ≡ true

pub inside_append : (xs ys : List ℕ) → Inside xs → Inside ys → Inside (xs ++ ys)
inside_append xs ys p q = list_all-append is_inside xs ys ∙ ap₂ (λ (a b : Bool). a && b) p q

weaken : (test other : ℕ → Bool) → ((b : ℕ) → test b ≡ true → other b ≡ true) → (bytes : List ℕ) → list_all test bytes ≡ true → list_all other bytes ≡ true
weaken test other each [] e = refl
weaken test other each (b ∷ bytes) e =
    ap₂ (λ (x y : Bool). x && y) (each b (first_passes (test b) (list_all test bytes) e)) (weaken test other each bytes (second_passes (test b) (list_all test bytes) e))

-- a byte that passes a test which the line end fails
not_end : (test : ℕ → Bool) → test 10 ≡ false → (b : ℕ) → test b ≡ true → is_inside b ≡ true
not_end test fails b passes = by (b == 10) refl
  where
    by : (is : Bool) → nat_eq b 10 ≡ is → not is ≡ true
    by true is = let wrong : test 10 ≡ true = subst (λ k. test k ≡ true) (eqb-true b 10 is) passes in absurd (cc)
    by false is = refl

pub inside_decimal : (k : ℕ) → k < 2 ^ 64 → Inside (decimal k)
inside_decimal k small = weaken is_ascii_digit is_inside (not_end is_ascii_digit refl) (decimal k) (digits_decimal own k small)

pub inside_name : (name : List ℕ) → list_all is_name_byte name ≡ true → Inside name
inside_name name is = weaken is_name_byte is_inside (not_end is_name_byte refl) name is

pub inside_signed : (z : ℤ) → neg_ℤ (pos (2 ^ 16)) ≤ℤ z → z ≤ℤ pos (2 ^ 16) → Inside (signed_decimal z)
inside_signed (pos k) low high = inside_decimal k (omega (arith, ints))
inside_signed (negsuc k) low high = inside_append (45 ∷ []) (decimal (suc k)) refl (inside_decimal (suc k) (omega (arith, ints)))

pub inside_each : {A : Type 0} (text : A → List ℕ) (P : A → Type 0) → ((a : A) → P a → Inside (text a)) → (xs : List A) → AllByRecursion P xs → Inside (flat_map text xs)
inside_each text P each [] are = refl
inside_each text P each (x ∷ xs) are = inside_append (text x) (flat_map text xs) (each x are.0) (inside_each text P each xs are.1)

pub inside_joined : {A : Type 0} (text : A → List ℕ) (separator : List ℕ) (P : A → Type 0) → ((a : A) → P a → Inside (text a)) → Inside separator
    → (xs : List A) → AllByRecursion P xs → Inside (joined text separator xs)
inside_joined text separator P each parted [] are = refl
inside_joined text separator P each parted (x ∷ xs) are =
    inside_append (text x) (flat_map (λ y. separator ++ text y) xs) (each x are.0)
    (inside_each (λ y. separator ++ text y) P (λ a is. inside_append separator (text a) parted (each a is)) xs are.1)

pub inside_sum : {A : Type 0} (text : A → List ℕ) (separator : List ℕ) (P : A → Type 0) → ((a : A) → P a → Inside (text a)) → Inside separator
    → (xs : List A) → AllByRecursion P xs → Inside (sum_text text separator xs)
inside_sum text separator P each parted [] are = refl
inside_sum text separator P each parted (x ∷ xs) are = inside_joined text separator P each parted (x ∷ xs) are

inside_power : (i e : ℕ) → i < 2 ^ 64 → e < 2 ^ 64 → Inside (power_text i e)
inside_power i e small fits = by (e == 0) (e == 1)
  where
    variable : Inside (codes "*z" ++ decimal i)
    variable = inside_append (codes "*z") (decimal i) refl (inside_decimal i small)

    by : (none one : Bool) → Inside (cond none [] (cond one (codes "*z" ++ decimal i) (codes "*z" ++ decimal i ++ codes "^" ++ decimal e)))
    by true one = refl
    by false true = variable
    by false false = inside_append ((codes "*z" ++ decimal i) ++ codes "^") (decimal e) (inside_append (codes "*z" ++ decimal i) (codes "^") variable refl) (inside_decimal e fits)

pub inside_powers : (i : ℕ) (es : List ℕ) → i + length es < 2 ^ 64 → sum es ≤ RUN_DEGREE → Inside (powers_text i es)
inside_powers i [] small within = refl
inside_powers i (e ∷ es) small within =
    let parts : sum (e ∷ es) ≡ e + sum es = sum-cons e es in
    inside_append (power_text i e) (powers_text (suc i) es) (inside_power i e (omega (arith, small)) (omega (arith, parts, within)))
    (inside_powers (suc i) es (omega (arith, small)) (omega (arith, parts, within)))

-- the first line, where no line end is inside
pub first_lines : (front rest : List ℕ) → Inside front → lines ((front ++ 10 ∷ []) ++ rest) ≡ (front ++ 10 ∷ []) ∷ lines rest
unfolding lines
first_lines [] rest inside = refl
first_lines (b ∷ front) rest inside = by (b == 10) (first_passes (not (b == 10)) (list_all is_inside front) inside) (first_lines front rest (second_passes (not (b == 10)) (list_all is_inside front) inside))
  where
    by : (is : Bool) → not is ≡ true → lines ((front ++ 10 ∷ []) ++ rest) ≡ (front ++ 10 ∷ []) ∷ lines rest
        → cond is ((b ∷ []) ∷ lines ((front ++ 10 ∷ []) ++ rest)) (onto_first b (lines ((front ++ 10 ∷ []) ++ rest))) ≡ (b ∷ (front ++ 10 ∷ [])) ∷ lines rest
    by true e others = absurd (cc)
    by false e others = ap (onto_first b) others

-- No index that is positive at the seed rises in the identity of a field that meets the first condition,
-- and no other index becomes positive.
use Rattle.std.proofs.Common.{◌≡◌, ◌≢◌, ℕ, zero, suc, ◌+◌, ◌*◌, ◌%◌, ◌<◌, ◌≤◌, ◌⊎◌, ⊎_elim, inl, inr, List, [], ◌∷◌, map, length, get_or, add-zero, subst, sym, ap, ◌∙◌, refl, arith}
use Rattle.std.specs.Prelude.{ℤ, pos, negsuc, ◌+ℤ◌, ◌-ℤ◌, ◌<ℤ◌, ◌≤ℤ◌, neg_ℤ}
use Rattle.std.proofs.lemmas.Int.{ints}
use Rattle.std.proofs.lemmas.Bool.{cases_lt, cases_eq}
use Rattle.ibp_field.specs.Arithmetic.{int_mod}
use Rattle.ibp_algebra.specs.FormalSum.{AllKeys}
use Rattle.ibp_algebra.proofs.Terms.{CountingKeys, CountingKeys-append}
use Rattle.ibp_algebra.specs.Exponents.{first_exponents}
use Rattle.ibp_algebra.specs.Polynomial.{Polynomial}
use Rattle.ibp_algebra.proofs.ExponentLaws.{get_or-padded_sum, get_or-first_exponents}
use Rattle.ibp_algebra.specs.Laurent.{add_powers, power_at, laurent}
use Rattle.ibp_algebra.specs.Identity.{negated, DoesNotRise}
use Rattle.ibp_relation.specs.Shifts.{plus_unit, field_shifts, factor_shifts, field_shifts_from, shifts}

none_left : (x : ℤ) → pos 0 +ℤ x ≡ x
none_left x = omega (arith, ints)

none_right : (x : ℤ) → x +ℤ pos 0 ≡ x
none_right x = omega (arith, ints)

pub power_of_sum : (a b : List ℤ) (j : ℕ) → power_at (add_powers a b) j ≡ power_at a j +ℤ power_at b j
power_of_sum a b j = get_or-padded_sum ◌+ℤ◌ (pos 0) none_left none_right a b j

pub power_of_negated : (a : List ℤ) (j : ℕ) → power_at (negated a) j ≡ neg_ℤ (power_at a j)
power_of_negated [] j = refl
power_of_negated (x ∷ a) zero = refl
power_of_negated (x ∷ a) (suc j) = power_of_negated a j

pub power_of_exponents : (m : List ℕ) (j : ℕ) → power_at (map pos m) j ≡ pos (get_or m j 0)
power_of_exponents [] j = refl
power_of_exponents (x ∷ m) zero = refl
power_of_exponents (x ∷ m) (suc j) = power_of_exponents m j

pub own_unit : (i : ℕ) → power_at (plus_unit i) i ≡ pos 1
own_unit zero = refl
own_unit (suc i) = own_unit i

pub other_unit : (i j : ℕ) → i ≢ j → power_at (plus_unit i) j ≡ pos 0
other_unit zero zero h = absurd (h refl)
other_unit zero (suc j) h = refl
other_unit (suc i) zero h = refl
other_unit (suc i) (suc j) h = other_unit i j (λ e. h (ap suc e))

pub shifted : (α : List ℤ) (m : List ℕ) (j : ℕ) → power_at (add_powers α (negated (map pos m))) j ≡ power_at α j -ℤ pos (get_or m j 0)
shifted α m j =
    power_of_sum α (negated (map pos m)) j ∙ ap (λ x. power_at α j +ℤ x) (power_of_negated (map pos m) j ∙ ap neg_ℤ (power_of_exponents m j))
    ∙ omega (arith, ints)

raised : (α : List ℤ) (m : List ℕ) (i j : ℕ)
    → power_at (add_powers (add_powers α (negated (map pos m))) (plus_unit i)) j ≡ (power_at α j -ℤ pos (get_or m j 0)) +ℤ power_at (plus_unit i) j
raised α m i j = power_of_sum (add_powers α (negated (map pos m))) (plus_unit i) j ∙ ap (λ x. x +ℤ power_at (plus_unit i) j) (shifted α m j)

zero_or_negative : (x : ℤ) → x ≤ℤ pos 0 → (x ≡ pos 0) ⊎ (x <ℤ pos 0)
zero_or_negative (pos zero) h = inl refl
zero_or_negative (pos (suc n)) h = absurd (omega (arith, ints))
zero_or_negative (negsuc n) h = inr (omega (arith, ints))

factor_does_not_rise : (α : List ℤ) (m : List ℕ) → DoesNotRise α (add_powers α (negated (map pos m)))
factor_does_not_rise α m =
    record {
      positive = λ j h. rw (shifted α m j) (omega (arith, ints));
      others = λ j h. rw (shifted α m j) (omega (arith, ints));
    }

-- an index that is positive at the seed: where z_i divides a_i, the one that is raised is lowered too
field_positive : (α : List ℤ) (m : List ℕ) (i j : ℕ) → (pos 0 <ℤ power_at α i → 0 < get_or m i 0) → pos 0 <ℤ power_at α j
    → ((power_at α j -ℤ pos (get_or m j 0)) +ℤ power_at (plus_unit i) j) ≤ℤ power_at α j
field_positive α m i j divisible h =
    ⊎_elim
    (λ (e : i ≡ j).
    let at : power_at (plus_unit i) j ≡ pos 1 = ap (power_at (plus_unit i)) (sym e) ∙ own_unit i in
    let is_positive : 0 < get_or m j 0 = subst (λ k. pos 0 <ℤ power_at α k → 0 < get_or m k 0) e divisible h in
    rw at (omega (arith, ints)))
    (λ (apart : i ≢ j). rw (other_unit i j apart) (omega (arith, ints)))
    (cases_eq i j)

-- an index that is not: at most zero, since the raised one has the factor m_i - α_i
field_other : (α : List ℤ) (m : List ℕ) (c i j : ℕ) → (int_mod (pos (get_or m i 0) -ℤ power_at α i) * c) % 2147483647 ≢ 0 → power_at α j ≤ℤ pos 0
    → ((power_at α j -ℤ pos (get_or m j 0)) +ℤ power_at (plus_unit i) j) ≤ℤ pos 0
field_other α m c i j not_zero h =
    ⊎_elim
    (λ (e : i ≡ j).
    let at : power_at (plus_unit i) j ≡ pos 1 = ap (power_at (plus_unit i)) (sym e) ∙ own_unit i in
    let factor : (int_mod (pos (get_or m j 0) -ℤ power_at α j) * c) % 2147483647 ≢ 0 =
    subst (λ k. (int_mod (pos (get_or m k 0) -ℤ power_at α k) * c) % 2147483647 ≢ 0) e not_zero
    in
    ⊎_elim
    (λ (some : 0 < get_or m j 0). rw at (omega (arith, ints)))
    (λ (none : get_or m j 0 ≤ 0).
    ⊎_elim
    (λ (zero_power : power_at α j ≡ pos 0).
    let no_exponent : get_or m j 0 ≡ 0 = omega arith in
    absurd (factor (rw (zero_power, no_exponent) (omega arith))))
    (λ (negative : power_at α j <ℤ pos 0). rw at (omega (arith, ints)))
    (zero_or_negative (power_at α j) h))
    (cases_lt 0 (get_or m j 0)))
    (λ (apart : i ≢ j). rw (other_unit i j apart) (omega (arith, ints)))
    (cases_eq i j)

taken : (n i : ℕ) (m : List ℕ) → i < n → get_or (first_exponents n m) i 0 ≡ get_or m i 0
taken n i m h = get_or-first_exponents n i m h

field_does_not_rise : (α : List ℤ) (m : List ℕ) (c i : ℕ) → (pos 0 <ℤ power_at α i → 0 < get_or m i 0)
    → (int_mod (power_at (map pos m) i -ℤ power_at α i) * c) % 2147483647 ≢ 0
    → DoesNotRise α (add_powers (add_powers α (negated (map pos m))) (plus_unit i))
field_does_not_rise α m c i divisible not_zero =
    let factor : (int_mod (pos (get_or m i 0) -ℤ power_at α i) * c) % 2147483647 ≢ 0 =
    subst (λ x. (int_mod (x -ℤ power_at α i) * c) % 2147483647 ≢ 0) (power_of_exponents m i) not_zero
    in
    record {
      positive = λ j h. rw (raised α m i j) (field_positive α m i j divisible h);
      others = λ j h. rw (raised α m i j) (field_other α m c i j factor h);
    }

-- z_i divides each term of a, where i is in the sector of the seed
abbrev pub EachTermDivided : ℕ → List ℤ → Polynomial → Type 0
EachTermDivided i α a = AllKeys (λ m. pos 0 <ℤ power_at α i → 0 < get_or m i 0) a

field_terms : (n i : ℕ) (α : List ℤ) (a : Polynomial) → i < n → EachTermDivided i α a → CountingKeys (DoesNotRise α) (field_shifts i α (laurent n a))
field_terms n i α [] below h = tt
field_terms n i α (t ∷ a) below h =
    (field_does_not_rise α (first_exponents n t.0) t.1 i (λ p. rw (taken n i t.0 below) (h.0 p)), field_terms n i α a below h.1)

factor_terms : (n γ : ℕ) (α : List ℤ) (b : Polynomial) → CountingKeys (DoesNotRise α) (factor_shifts γ α (laurent n b))
factor_terms n γ α [] = tt
factor_terms n γ α (t ∷ b) = (λ not_zero. factor_does_not_rise α (first_exponents n t.0), factor_terms n γ α b)

fields_terms : (n i : ℕ) (α : List ℤ) (a : List Polynomial) → i + length a ≤ n
    → ((j : ℕ) → j < length a → EachTermDivided (i + j) α (get_or a j []))
    → CountingKeys (DoesNotRise α) (field_shifts_from i α (map (laurent n) a))
fields_terms n i α [] fits h = tt
fields_terms n i α (a ∷ others) fits h =
    CountingKeys-append (DoesNotRise α) (field_shifts i α (laurent n a)) (field_shifts_from (suc i) α (map (laurent n) others))
    (field_terms n i α a (omega arith) (subst (λ k. EachTermDivided k α a) (add-zero i) (h 0 (omega arith))))
    (fields_terms n (suc i) α others (omega arith) (λ j below. subst (λ k. EachTermDivided k α (get_or others j [])) (omega arith) (h (suc j) (omega arith))))

-- the shifts that count do not rise
pub shifts_do_not_rise : (n γ : ℕ) (a : List Polynomial) (b : Polynomial) (α : List ℤ) → length a ≤ n
    → ((j : ℕ) → j < length a → EachTermDivided j α (get_or a j [])) → CountingKeys (DoesNotRise α) (shifts n γ a b α)
shifts_do_not_rise n γ a b α fits h =
    CountingKeys-append (DoesNotRise α) (field_shifts_from 0 α (map (laurent n) a)) (factor_shifts γ α (laurent n b))
    (fields_terms n 0 α a (omega arith) (λ j below. subst (λ k. EachTermDivided k α (get_or a j [])) (omega arith) (h j below)))
    (factor_terms n γ α b)

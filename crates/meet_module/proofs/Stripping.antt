-- Terms with and without the variables of a sector, and the value of a vector of such terms: with its variables, by the
-- factors of sector 0, it is what it is without them by the factors of the sector.
--     unstripped_term sector t     the term t times z_i, where i is its component and in the sector
use Rattle.std.proofs.Common.{◌≡◌, ℕ, zero, suc, ◌+◌, ◌-◌, ◌*◌, ◌<◌, ◌≤◌, ◌^◌, Bool, true, false, if◌then◌else◌, ◌==◌, length, get_or, set, replicate, List, [], ◌∷◌, ◌++◌, ◌⊎◌, ⊎_elim, sym, refl, ap, subst, ◌∙◌, arith}
use Rattle.std.proofs.lemmas.Bool.{cases_lt}
use Rattle.std.proofs.lemmas.Bool.Decides.{Decides-eqb}
use Rattle.std.proofs.lemmas.List.{length-set}
use Rattle.std.proofs.lemmas.Nat.Bits.{bit_at-zero, bit_at_above}
use Rattle.ibp_algebra.specs.FormalSum.{weighted_sum, AllKeys, map_keys, scale, times_term}
use Rattle.ibp_algebra.specs.Exponents.{add_exponents, same_exponents}
use Rattle.ibp_algebra.specs.ExponentOrder.{exponents_decide}
use Rattle.ibp_algebra.specs.Field.{unit_exponents, variable, sector_factor}
use Rattle.ibp_algebra.specs.Polynomial.{Polynomial, SamePolynomial, multiply, derivative}
use Rattle.ibp_algebra.proofs.ExponentLaws.{length-padded_sum, padded_sum_comm, padded_sum_assoc}
use Rattle.ibp_algebra.proofs.Weights.{weighted_sum-append, weighted_sum-ext, weighted_sum-times_term, weighted_sum-map_keys}
use Rattle.ibp_algebra.proofs.SumLaws.{SameCoefficients-from_sums}
use Rattle.ibp_algebra.proofs.Combinations.{AllKeys-weaker}
use Rattle.mono_order.specs.declared.limits.TheConstants.{VARIABLES}
use Rattle.mono_order.specs.Term.{Term}
use Rattle.mono_order.proofs.Terms.{add_exponents-one, length-ones}
use Rattle.module_vec.specs.ModuleVector.{ModuleVector}
use Rattle.module_vec.proofs.Multiples.{AllKeys-map_keys}
use Rattle.family.specs.Conditions.{in_sector}
use Rattle.sector_module.specs.Factors.{sector_factors, factors_from}
use Rattle.sector_module.proofs.Syzygies.{factor_at, value_at, IsInRange}
use Rattle.sector_module.proofs.Fields.{value_weight, weighted_sum-value_at}
use Rattle.sector_module.proofs.FactorLaws.{variable_key}
use Rattle.sector_module.proofs.Generating.{factor_at_place, factor_last}
use Rattle.sector_module.proofs.Parts.{keyed_ext}
use Rattle.meet_module.specs.Divided.{IsDividedTerm}
use Rattle.meet_module.specs.MeetRuns.{stripped_term, stripped}

abbrev pub variable_exponents : ℕ → List ℕ
variable_exponents i = set (replicate VARIABLES 0) i 1

abbrev pub unstripped_exponents : Bool → ℕ → List ℕ → List ℕ
unstripped_exponents b i m = if b then add_exponents (variable_exponents i) m else m

abbrev pub unstripped_term : ℕ → Term → Term
unstripped_term sector t = (t.0, unstripped_exponents (in_sector sector (t.0 - 1)) (t.0 - 1) t.1)

-- ---- the members of a sector

pub no_member : (i : ℕ) → in_sector 0 i ≡ false
no_member i = ap (λ k. k == 1) (bit_at-zero i)

pub member_below : (n sector i : ℕ) → sector < 2 ^ n → in_sector sector i ≡ true → i < n
member_below n sector i small inside =
    ⊎_elim (λ (below : i < n). below)
    (λ (above : n ≤ i).
    let none : in_sector sector i ≡ false = ap (λ k. k == 1) (bit_at_above sector n i small above) in
    absurd (let clash : true ≡ false = sym inside ∙ none in let no : ⊥ = cc in no))
    (cases_lt i n)

-- ---- exponents

pub length-variable : (i : ℕ) → length (variable_exponents i) ≡ VARIABLES
length-variable i = length-set (replicate VARIABLES 0) i 1 ∙ length-ones VARIABLES

one_more : (n i : ℕ) (m : List ℕ) → i < n → length m ≡ n → get_or (add_exponents (set (replicate n 0) i 1) m) i 0 ≡ suc (get_or m i 0)
one_more zero i m below e = absurd (omega arith)
one_more (suc n) i [] below e = absurd (omega arith)
one_more (suc n) zero (x ∷ m) below e = omega arith
one_more (suc n) (suc i) (x ∷ m) below e = one_more n i m (omega arith) (omega arith)

taken_off : (n i : ℕ) (m : List ℕ) → i < n → length m ≡ n
    → set (add_exponents (set (replicate n 0) i 1) m) i (get_or (add_exponents (set (replicate n 0) i 1) m) i 0 - 1) ≡ m
taken_off zero i m below e = absurd (omega arith)
taken_off (suc n) i [] below e = absurd (omega arith)
taken_off (suc n) zero (x ∷ m) below e = let first : 1 + x - 1 ≡ x = omega arith in λ i. first i ∷ add_exponents-one n m (omega arith) i
taken_off (suc n) (suc j) (x ∷ m) below e = let first : 0 + x ≡ x = omega arith in λ i. first i ∷ taken_off n j m (omega arith) (omega arith) i

pub put_back : (n i : ℕ) (m : List ℕ) → i < n → length m ≡ n → 0 < get_or m i 0 → add_exponents (set (replicate n 0) i 1) (set m i (get_or m i 0 - 1)) ≡ m
put_back zero i m below e some = absurd (omega arith)
put_back (suc n) i [] below e some = absurd (omega arith)
put_back (suc n) zero (x ∷ m) below e some = let first : 1 + (x - 1) ≡ x = omega (arith, some) in λ i. first i ∷ add_exponents-one n m (omega arith) i
put_back (suc n) (suc j) (x ∷ m) below e some = let first : 0 + x ≡ x = omega arith in λ i. first i ∷ put_back n j m (omega arith) (omega arith) some i

-- ---- terms

module _ (n sector : ℕ) (few : n ≤ VARIABLES) (small : sector < 2 ^ n) where
  place_below : (t : Term) → in_sector sector (t.0 - 1) ≡ true → t.0 - 1 < VARIABLES
  place_below t inside = omega (arith, member_below n sector (t.0 - 1) small inside, few)

  divided_if : (b : Bool) (t : Term) → in_sector sector (t.0 - 1) ≡ b → IsInRange VARIABLES (suc n) t → IsDividedTerm n sector (t.0, unstripped_exponents b (t.0 - 1) t.1)
  divided_if true t e r =
      record {
        positive = r.positive;
        within = r.within;
        exponents = length-padded_sum ◌+◌ VARIABLES (variable_exponents (t.0 - 1)) t.1 (length-variable (t.0 - 1)) r.exponents;
        divided = λ _. omega (arith, one_more VARIABLES (t.0 - 1) t.1 (place_below t e) r.exponents);
      }
  divided_if false t e r =
      record { positive = r.positive; within = r.within; exponents = r.exponents; divided = λ inside. absurd (let clash : true ≡ false = sym inside ∙ e in let no : ⊥ = cc in no) }

  -- with its variable a term is divided
  pub divided_unstripped : (t : Term) → IsInRange VARIABLES (suc n) t → IsDividedTerm n sector (unstripped_term sector t)
  divided_unstripped t r = divided_if (in_sector sector (t.0 - 1)) t refl r

  stripped_if : (b : Bool) (t : Term) → in_sector sector (t.0 - 1) ≡ b → IsInRange VARIABLES (suc n) t
      → (let u = unstripped_exponents b (t.0 - 1) t.1 in (if b then set u (t.0 - 1) (get_or u (t.0 - 1) 0 - 1) else u) ≡ t.1)
  stripped_if true t e r = taken_off VARIABLES (t.0 - 1) t.1 (place_below t e) r.exponents
  stripped_if false t e r = refl

  pub stripped_unstripped : (t : Term) → IsInRange VARIABLES (suc n) t → stripped_term sector (unstripped_term sector t) ≡ t
  stripped_unstripped t r = let e = stripped_if (in_sector sector (t.0 - 1)) t refl r in λ i. (t.0, e i)

  unstripped_if : (b : Bool) (t : Term) → in_sector sector (t.0 - 1) ≡ b → IsDividedTerm n sector t
      → unstripped_exponents b (t.0 - 1) (if b then set t.1 (t.0 - 1) (get_or t.1 (t.0 - 1) 0 - 1) else t.1) ≡ t.1
  unstripped_if true t e d = put_back VARIABLES (t.0 - 1) t.1 (place_below t e) d.exponents (d.divided e)
  unstripped_if false t e d = refl

  pub unstripped_stripped : (t : Term) → IsDividedTerm n sector t → unstripped_term sector (stripped_term sector t) ≡ t
  unstripped_stripped t d = let e = unstripped_if (in_sector sector (t.0 - 1)) t refl d in λ i. (t.0, e i)

  range_if : (b : Bool) (t : Term) → IsDividedTerm n sector t → IsInRange VARIABLES (suc n) (t.0, if b then set t.1 (t.0 - 1) (get_or t.1 (t.0 - 1) 0 - 1) else t.1)
  range_if true t d = record { positive = d.positive; within = d.within; exponents = length-set t.1 (t.0 - 1) (get_or t.1 (t.0 - 1) 0 - 1) ∙ d.exponents }
  range_if false t d = record { positive = d.positive; within = d.within; exponents = d.exponents }

  pub range_stripped : (t : Term) → IsDividedTerm n sector t → IsInRange VARIABLES (suc n) (stripped_term sector t)
  range_stripped t d = range_if (in_sector sector (t.0 - 1)) t d

  -- ---- vectors

  pub unstripped_vector : (v : ModuleVector) → AllKeys (IsDividedTerm n sector) v → map_keys (unstripped_term sector) (stripped sector v) ≡ v
  unstripped_vector [] h = refl
  unstripped_vector (t ∷ v) h = let e = unstripped_stripped t.0 h.0 in λ i. (e i, t.1) ∷ unstripped_vector v h.1 i

  pub stripped_vector : (v : ModuleVector) → AllKeys (IsInRange VARIABLES (suc n)) v → stripped sector (map_keys (unstripped_term sector) v) ≡ v
  stripped_vector [] h = refl
  stripped_vector (t ∷ v) h = let e = stripped_unstripped t.0 h.0 in λ i. (e i, t.1) ∷ stripped_vector v h.1 i

  pub divided_vector : (v : ModuleVector) → AllKeys (IsInRange VARIABLES (suc n)) v → AllKeys (IsDividedTerm n sector) (map_keys (unstripped_term sector) v)
  divided_vector v h = AllKeys-map_keys (IsInRange VARIABLES (suc n)) (IsDividedTerm n sector) (unstripped_term sector) divided_unstripped v h

  pub stripped_in_range : (v : ModuleVector) → AllKeys (IsDividedTerm n sector) v → AllKeys (IsInRange VARIABLES (suc n)) (stripped sector v)
  stripped_in_range v h = AllKeys-map_keys (IsDividedTerm n sector) (IsInRange VARIABLES (suc n)) (stripped_term sector) range_stripped v h

  pub divided_in_range : (v : ModuleVector) → AllKeys (IsDividedTerm n sector) v → AllKeys (IsInRange VARIABLES (suc n)) v
  divided_in_range v h =
      AllKeys-weaker (IsDividedTerm n sector) (IsInRange VARIABLES (suc n)) (λ t d. record { positive = d.positive; within = d.within; exponents = d.exponents }) v h

  -- ---- values

  module _ (p : Polynomial) where
    other_factor : (i : ℕ) → sector_factor p (in_sector 0) i ≡ derivative i p
    other_factor i = ap (λ (b : Bool). if b then multiply (variable i) (derivative i p) else derivative i p) (no_member i)

    product_weight : (w : List ℕ → ℕ) (i : ℕ) (m : List ℕ) (f : Polynomial)
        → weighted_sum (λ k. w (add_exponents m k)) (multiply (variable i) f) ≡ weighted_sum (λ k. w (add_exponents m (add_exponents (unit_exponents i) k))) f
    product_weight w i m f =
        omega (
          arith,
          weighted_sum-append (λ k. w (add_exponents m k)) (times_term add_exponents (unit_exponents i, 1) f) [],
          weighted_sum-times_term add_exponents (λ k. w (add_exponents m k)) (unit_exponents i, 1) f,
        )

    moved : (i : ℕ) (m k : List ℕ) → i < VARIABLES → length m ≡ VARIABLES
        → add_exponents (add_exponents (variable_exponents i) m) k ≡ add_exponents m (add_exponents (unit_exponents i) k)
    moved i m k below long =
        ap (λ (e : List ℕ). add_exponents e k) (variable_key VARIABLES i m long below ∙ padded_sum_comm ◌+◌ (λ x y. omega arith) (unit_exponents i) m)
        ∙ padded_sum_assoc ◌+◌ (λ x y z. omega arith) m (unit_exponents i) k

    weight_if : (b : Bool) (w : List ℕ → ℕ) (i : ℕ) (m : List ℕ) → i < VARIABLES → length m ≡ VARIABLES
        → weighted_sum (λ k. w (add_exponents (unstripped_exponents b i m) k)) (derivative i p)
        ≡ weighted_sum (λ k. w (add_exponents m k)) (if b then multiply (variable i) (derivative i p) else derivative i p)
    weight_if true w i m below long = weighted_sum-ext _ _ (λ k. ap w (moved i m k below long)) (derivative i p) ∙ sym (product_weight w i m (derivative i p))
    weight_if false w i m below long = refl

    same_weight : (w : List ℕ → ℕ) (t : Term) → IsInRange VARIABLES (suc n) t
        → value_weight (sector_factors p n 0) w (unstripped_term sector t) ≡ value_weight (sector_factors p n sector) w t
    unfolding value_weight
    same_weight w t r =
        let i = t.0 - 1 in
        ⊎_elim
        (λ (below : i < n).
        let tangent : factor_at (sector_factors p n 0) t.0 ≡ derivative i p =
        factor_at_place p (in_sector 0) 0 n i below ∙ ap (sector_factor p (in_sector 0)) (let e : 0 + i ≡ i = omega arith in e) ∙ other_factor i
        in
        let own : factor_at (sector_factors p n sector) t.0 ≡ sector_factor p (in_sector sector) i =
        factor_at_place p (in_sector sector) 0 n i below ∙ ap (sector_factor p (in_sector sector)) (let e : 0 + i ≡ i = omega arith in e)
        in
        ap (weighted_sum (λ k. w (add_exponents (unstripped_term sector t).1 k))) tangent
        ∙ weight_if (in_sector sector i) w i t.1 (omega (arith, below, few)) r.exponents
        ∙ ap (weighted_sum (λ k. w (add_exponents t.1 k))) (sym own))
        (λ (above : n ≤ i).
        let last : i ≡ n = omega (arith, above, r.positive, r.within) in
        let outside : in_sector sector i ≡ false = ap (λ k. k == 1) (bit_at_above sector n i small above) in
        let same : (unstripped_term sector t).1 ≡ t.1 = ap (λ (b : Bool). unstripped_exponents b i t.1) outside in
        let tangent : factor_at (sector_factors p n 0) t.0 ≡ scale 2147483646 p = ap (λ k. get_or (sector_factors p n 0) k []) last ∙ factor_last p (in_sector 0) 0 n in
        let own : factor_at (sector_factors p n sector) t.0 ≡ scale 2147483646 p = ap (λ k. get_or (sector_factors p n sector) k []) last ∙ factor_last p (in_sector sector) 0 n in
        λ j. weighted_sum (λ k. w (add_exponents (same j) k)) ((tangent ∙ sym own) j))
        (cases_lt i n)

    -- The value of a vector with the variables of the sector is that of the vector without them.
    pub same_value : (v : ModuleVector) → AllKeys (IsInRange VARIABLES (suc n)) v
        → SamePolynomial (value_at (sector_factors p n 0) (map_keys (unstripped_term sector) v)) (value_at (sector_factors p n sector) v)
    same_value v h =
        SameCoefficients-from_sums same_exponents exponents_decide _ _ (λ w.
        weighted_sum-value_at (sector_factors p n 0) w (map_keys (unstripped_term sector) v)
        ∙ weighted_sum-map_keys (unstripped_term sector) (value_weight (sector_factors p n 0) w) v
        ∙ keyed_ext (IsInRange VARIABLES (suc n)) _ _ (λ t r. same_weight w t r) v h
        ∙ sym (weighted_sum-value_at (sector_factors p n sector) w v))

-- The members without a raised component of the module that the meet's run begins with are the syzygies of the factors of
-- sector 0 that the variables of the sector divide.
--     split low divided     the sum of a low vector, its raised copy and another raised vector
use Rattle.std.proofs.Common.{◌≡◌, ◌≢◌, ℕ, zero, suc, ◌+◌, ◌-◌, ◌*◌, ◌%◌, ◌<◌, ◌≤◌, ◌^◌, Bool, true, false, if◌then◌else◌, ◌==◌, ◌↔◌, length, get_or, set, replicate, List, [], ◌∷◌, ◌++◌, ◌⊎◌, inl, inr, ⊎_elim, map, sym, refl, ap, subst, ◌∙◌, append-nil, arith}
use Rattle.std.specs.List.{AllByRecursion, Contains}
use Rattle.std.proofs.lemmas.Bool.{cases_lt, lt-leb, le-leb}
use Rattle.std.proofs.lemmas.List.{get_or-set_same}
use Rattle.std.proofs.lemmas.List.Elements.{Contains-get_or, Contains-append_left, Contains-append_right, Contains-append_cases}
use Rattle.std.proofs.lemmas.Nat.Bits.{bit_at_above}
use Rattle.ibp_base.proofs.Members.{from_map, in_map, by_recursion_each}
use Rattle.ibp_algebra.specs.FormalSum.{weighted_sum, AllKeys, scale, map_keys}
use Rattle.ibp_algebra.specs.Exponents.{add_exponents}
use Rattle.ibp_algebra.specs.Polynomial.{Polynomial}
use Rattle.ibp_algebra.proofs.ExponentLaws.{length-padded_sum, padded_sum_comm}
use Rattle.ibp_algebra.proofs.Weights.{weighted_sum-append, weighted_sum-scale, weighted_sum-ext, weighted_sum-zero, weighted_sum-map_keys, weighted_sum-SameCoefficients, SameCoefficients-from_weights}
use Rattle.ibp_algebra.proofs.SumLaws.{SameCoefficients-refl, SameCoefficients-sym, SameCoefficients-trans, SameCoefficients-append, SameCoefficients-scale, SameCoefficients-map_keys, SameCoefficients-from_sums, SameCoefficients-from_eq}
use Rattle.ibp_algebra.proofs.ZeroDivisors.{AllKeys-append, AllKeys-scale}
use Rattle.ibp_algebra.proofs.Combinations.{AllKeys-weaker}
use Rattle.mono_order.specs.declared.limits.TheConstants.{VARIABLES, FIRST_HIGH}
use Rattle.mono_order.specs.Term.{Term, same_term, multiply_term, IsTerm}
use Rattle.mono_order.specs.TermOrder.{block_high}
use Rattle.mono_order.proofs.Terms.{terms_decide, add_exponents-one, length-ones}
use Rattle.module_vec.specs.ModuleVector.{ModuleVector, SameVector, multiply_vector, IsMember, IsSubmodule}
use Rattle.module_vec.proofs.Multiples.{AllKeys-map_keys, SameVector-multiply}
use Rattle.module_vec.proofs.Submodules.{IsMember-same, IsMember-zero, IsMember-append, IsMember-scale, IsMember-multiply, IsMember-generator, IsMember-least}
use Rattle.module_basis.specs.GroebnerBasis.{IsLowMember}
use Rattle.family.specs.Shapes.{HasVariables}
use Rattle.family.specs.Conditions.{in_sector}
use Rattle.sector_module.specs.Factors.{sector_factors, unit_vector}
use Rattle.sector_module.proofs.Syzygies.{IsInRange, IsSyzygy}
use Rattle.sector_module.proofs.Parts.{keyed_ext}
use Rattle.sector_module.proofs.SectorBasis.{IsSubmodule-IsSyzygy}
use Rattle.sector_module.proofs.SectorRun.{polynomials, few_factors}
use Rattle.meet_module.specs.Divided.{IsDividedTerm}
use Rattle.meet_module.specs.MeetRuns.{raised_term, doubled, divisor_exponents, divisor, divisors_from, stripped_term}
use Rattle.meet_module.proofs.Stripping.{variable_exponents, length-variable, member_below, put_back, divided_in_range, range_stripped}
use Rattle.meet_module.proofs.DividedSyzygies.{IsDividedSyzygy, divided_times}

abbrev pub raised : ModuleVector → ModuleVector
raised v = map_keys raised_term v

abbrev pub split : ModuleVector → ModuleVector → ModuleVector
split low divided = doubled low ++ raised divided

split_sum : (w : Term → ℕ) (low divided : ModuleVector)
    → weighted_sum w (split low divided) ≡ weighted_sum w low + weighted_sum (λ t. w (raised_term t)) low + weighted_sum (λ t. w (raised_term t)) divided
split_sum w low divided =
    omega (
      arith,
      weighted_sum-append w (doubled low) (raised divided),
      weighted_sum-append w low (raised low),
      weighted_sum-map_keys raised_term w low,
      weighted_sum-map_keys raised_term w divided,
    )

doubled_sum : (w : Term → ℕ) (v : ModuleVector) → weighted_sum w (doubled v) ≡ weighted_sum w v + weighted_sum (λ t. w (raised_term t)) v
doubled_sum w v = omega (arith, weighted_sum-append w v (raised v), weighted_sum-map_keys raised_term w v)

pub SameVector-doubled : (v w : ModuleVector) → SameVector v w → SameVector (doubled v) (doubled w)
SameVector-doubled v w same =
    SameCoefficients-append same_term terms_decide same (SameCoefficients-map_keys same_term terms_decide same_term terms_decide raised_term {f = v} {g = w} same)

-- ---- weights of the raised terms, and of the others

raised_weight : (Term → ℕ) → Term → ℕ
raised_weight w t = if block_high t.0 then w (t.0 - FIRST_HIGH, t.1) else 0

low_weight : (Term → ℕ) → Term → ℕ
low_weight w t = if block_high t.0 then 0 else w t

is_raised : (c : ℕ) → block_high (FIRST_HIGH + c) ≡ true
is_raised c = le-leb FIRST_HIGH (FIRST_HIGH + c) (omega arith)

raised_raised : (w : Term → ℕ) (t : Term) → raised_weight w (raised_term t) ≡ w t
unfolding raised_weight
raised_raised w t =
    let number : FIRST_HIGH + t.0 - FIRST_HIGH ≡ t.0 = omega arith in
    ap (λ (b : Bool). if b then w (FIRST_HIGH + t.0 - FIRST_HIGH, t.1) else 0) (is_raised t.0) ∙ ap (λ k. w (k, t.1)) number

low_raised : (w : Term → ℕ) (t : Term) → low_weight w (raised_term t) ≡ 0
unfolding low_weight
low_raised w t = ap (λ (b : Bool). if b then 0 else w (raised_term t)) (is_raised t.0)

raised_low : (w : Term → ℕ) (t : Term) → block_high t.0 ≡ false → raised_weight w t ≡ 0
unfolding raised_weight
raised_low w t low = ap (λ (b : Bool). if b then w (t.0 - FIRST_HIGH, t.1) else 0) low

low_low : (w : Term → ℕ) (t : Term) → block_high t.0 ≡ false → low_weight w t ≡ w t
unfolding low_weight
low_low w t low = ap (λ (b : Bool). if b then 0 else w t) low

abbrev IsLowTerm : Term → Type 0
IsLowTerm t = block_high t.0 ≡ false

no_raised : (w : Term → ℕ) (v : ModuleVector) → AllKeys IsLowTerm v → weighted_sum (raised_weight w) v ≡ 0
no_raised w v h = keyed_ext IsLowTerm (raised_weight w) (λ t. 0) (λ t low. raised_low w t low) v h ∙ weighted_sum-zero v

all_low : (w : Term → ℕ) (v : ModuleVector) → AllKeys IsLowTerm v → weighted_sum (low_weight w) v ≡ weighted_sum w v
all_low w v h = keyed_ext IsLowTerm (low_weight w) w (λ t low. low_low w t low) v h

split_raised : (w : Term → ℕ) (low divided : ModuleVector) → AllKeys IsLowTerm low → weighted_sum (raised_weight w) (split low divided) ≡ weighted_sum w low + weighted_sum w divided
split_raised w low divided h =
    omega (
      arith,
      split_sum (raised_weight w) low divided,
      no_raised w low h,
      weighted_sum-ext (λ t. raised_weight w (raised_term t)) w (raised_raised w) low,
      weighted_sum-ext (λ t. raised_weight w (raised_term t)) w (raised_raised w) divided,
    )

split_low : (w : Term → ℕ) (low divided : ModuleVector) → AllKeys IsLowTerm low → weighted_sum (low_weight w) (split low divided) ≡ weighted_sum w low
split_low w low divided h =
    omega (
      arith,
      split_sum (low_weight w) low divided,
      all_low w low h,
      weighted_sum-ext (λ t. low_weight w (raised_term t)) (λ t. 0) (low_raised w) low,
      weighted_sum-ext (λ t. low_weight w (raised_term t)) (λ t. 0) (low_raised w) divided,
      weighted_sum-zero {K = Term} low,
      weighted_sum-zero {K = Term} divided,
    )

-- where a sum of this form is low, the low vector is minus the other one, and the whole sum
pub split_cancels : (v low divided terms : ModuleVector) → AllKeys IsLowTerm low → AllKeys IsLowTerm terms → SameVector v terms → SameVector v (split low divided)
    → SameVector low (scale 2147483646 divided)
split_cancels v low divided terms h k is_low same =
    SameCoefficients-from_weights same_term terms_decide _ _ (λ w.
    let one = (weighted_sum-SameCoefficients same_term terms_decide (raised_weight w) v terms is_low).same_residue in
    let other = (weighted_sum-SameCoefficients same_term terms_decide (raised_weight w) v (split low divided) same).same_residue in
    record { same_residue = omega (arith, one, other, no_raised w terms k, split_raised w low divided h, weighted_sum-scale w 2147483646 divided) })

pub split_is_low : (v low divided terms : ModuleVector) → AllKeys IsLowTerm low → AllKeys IsLowTerm terms → SameVector v terms → SameVector v (split low divided) → SameVector v low
split_is_low v low divided terms h k is_low same =
    SameCoefficients-trans is_low
    (SameCoefficients-from_weights same_term terms_decide _ _ (λ w.
    let one = (weighted_sum-SameCoefficients same_term terms_decide (low_weight w) v terms is_low).same_residue in
    let other = (weighted_sum-SameCoefficients same_term terms_decide (low_weight w) v (split low divided) same).same_residue in
    record { same_residue = omega (arith, one, other, all_low w terms k, split_low w low divided h) }))

-- where a low vector beside its raised copy is zero, the vector is
pub doubled_is_zero : (v : ModuleVector) → AllKeys IsLowTerm v → SameVector [] (doubled v) → SameVector [] v
doubled_is_zero v h same =
    SameCoefficients-from_weights same_term terms_decide _ _ (λ w.
    let whole = (weighted_sum-SameCoefficients same_term terms_decide (low_weight w) [] (doubled v) same).same_residue in
    record {
      same_residue = omega (
        arith,
        whole,
        doubled_sum (low_weight w) v,
        all_low w v h,
        weighted_sum-ext (λ t. low_weight w (raised_term t)) (λ t. 0) (low_raised w) v,
        weighted_sum-zero {K = Term} v,
      );
    })

-- ---- the divisors

pub length-divisors : (sector i n : ℕ) → length (divisors_from sector i n) ≡ n + 1
length-divisors sector i zero = refl
length-divisors sector i (suc n) = omega (arith, length-divisors sector (suc i) n)

pub divisor_at : (sector i n j : ℕ) → j < n → get_or (divisors_from sector i n) j [] ≡ divisor sector (i + j)
divisor_at sector i zero j below = absurd (omega arith)
divisor_at sector i (suc n) zero below = ap (divisor sector) (let e : i ≡ i + 0 = omega arith in e)
divisor_at sector i (suc n) (suc j) below = divisor_at sector (suc i) n j (omega arith) ∙ ap (divisor sector) (let e : suc i + j ≡ i + suc j = omega arith in e)

pub divisor_last : (sector i n : ℕ) → get_or (divisors_from sector i n) n [] ≡ unit_vector VARIABLES (FIRST_HIGH + suc (i + n))
divisor_last sector i zero = ap (λ k. unit_vector VARIABLES (FIRST_HIGH + suc k)) (let e : i ≡ i + 0 = omega arith in e)
divisor_last sector i (suc n) = divisor_last sector (suc i) n ∙ ap (λ k. unit_vector VARIABLES (FIRST_HIGH + suc k)) (let e : suc i + n ≡ i + suc n = omega arith in e)

module _ (p : Polynomial) (n sector : ℕ) (few : n ≤ VARIABLES) (shape : AllKeys (HasVariables n) p) (small : sector < 2 ^ n) where
  outside_exponents : (i : ℕ) → n ≤ i → divisor_exponents sector i ≡ replicate VARIABLES 0
  outside_exponents i above =
      ap (λ (b : Bool). if b then variable_exponents i else replicate VARIABLES 0) (let e : in_sector sector i ≡ false = ap (λ k. k == 1) (bit_at_above sector n i small above) in e)

  pub low_of_range : (v : ModuleVector) → AllKeys (IsInRange VARIABLES (suc n)) v → AllKeys IsLowTerm v
  low_of_range v h = AllKeys-weaker (IsInRange VARIABLES (suc n)) IsLowTerm (λ t r. lt-leb FIRST_HIGH t.0 (omega (arith, r.within, few))) v h

  -- each raised unit vector, times the variable where the sector has it, is among the divisors
  divisor_contained : (i : ℕ) → i ≤ n → Contains (divisors_from sector 0 n) (divisor sector i)
  divisor_contained i le =
      ⊎_elim
      (λ (below : i < n).
      subst (Contains (divisors_from sector 0 n)) (divisor_at sector 0 n i below ∙ ap (divisor sector) (let e : 0 + i ≡ i = omega arith in e))
      (Contains-get_or (divisors_from sector 0 n) i [] (omega (arith, below, length-divisors sector 0 n))))
      (λ (above : n ≤ i).
      let last : n ≡ i = omega (arith, above, le) in
      let is : unit_vector VARIABLES (FIRST_HIGH + suc (0 + n)) ≡ divisor sector i =
      λ k. ((FIRST_HIGH + suc ((let e : 0 + n ≡ i = omega (arith, last) in e) k), (sym (outside_exponents i above)) k), 1) ∷ []
      in
      subst (Contains (divisors_from sector 0 n)) (divisor_last sector 0 n ∙ is)
      (Contains-get_or (divisors_from sector 0 n) n [] (omega (arith, length-divisors sector 0 n))))
      (cases_lt i n)

  length-divisor_if : (b : Bool) (i : ℕ) → length (if b then variable_exponents i else replicate VARIABLES 0) ≡ VARIABLES
  length-divisor_if true i = length-variable i
  length-divisor_if false i = length-ones VARIABLES

  divided_if : (b : Bool) (i : ℕ) → in_sector sector i ≡ b → in_sector sector i ≡ true → 0 < get_or (if b then variable_exponents i else replicate VARIABLES 0) i 0
  divided_if true i e inside =
      let below : i < VARIABLES = omega (arith, member_below n sector i small inside, few) in
      omega (arith, get_or-set_same {A = ℕ} (replicate VARIABLES 0) i 1 0 (omega (arith, below, length-ones VARIABLES)))
  divided_if false i e inside = absurd (let clash : true ≡ false = sym inside ∙ e in let no : ⊥ = cc in no)

  divisor_divided : (i : ℕ) → i ≤ n → IsDividedTerm n sector (suc i, divisor_exponents sector i)
  divisor_divided i le =
      let place : suc i - 1 ≡ i = omega arith in
      record {
        positive = omega arith;
        within = omega (arith, le);
        exponents = length-divisor_if (in_sector sector i) i;
        divided = λ inside.
            subst (λ k. 0 < get_or (divisor_exponents sector i) k 0) (sym place) (divided_if (in_sector sector i) i refl (ap (in_sector sector) (sym place) ∙ inside));
      }

  -- ---- sums of this form

  record IsSplit (v : ModuleVector) : Type 0 where
    low : ModuleVector
    range : AllKeys (IsInRange VARIABLES (suc n)) low
    syzygy : IsSyzygy VARIABLES (sector_factors p n 0) low
    divided : ModuleVector
    keys : AllKeys (IsDividedTerm n sector) divided
    same : SameVector v (split low divided)

  Syzygies : IsSubmodule VARIABLES (IsSyzygy VARIABLES (sector_factors p n 0))
  Syzygies = IsSubmodule-IsSyzygy VARIABLES (sector_factors p n 0) (polynomials p n 0 few shape) (few_factors p n 0 few shape)

  IsSubmodule-IsSplit : IsSubmodule VARIABLES IsSplit
  IsSubmodule-IsSplit =
      record {
        same = λ v w s h.
            record { low = h.low; range = h.range; syzygy = h.syzygy; divided = h.divided; keys = h.keys; same = SameCoefficients-trans (SameCoefficients-sym s) h.same };
        zero = record { low = []; range = tt; syzygy = Syzygies.zero; divided = []; keys = tt; same = SameCoefficients-refl same_term [] };
        sum = λ v w h k.
            record {
              low = h.low ++ k.low;
              range = AllKeys-append (IsInRange VARIABLES (suc n)) h.low k.low h.range k.range;
              syzygy = Syzygies.sum h.low k.low h.syzygy k.syzygy;
              divided = h.divided ++ k.divided;
              keys = AllKeys-append (IsDividedTerm n sector) h.divided k.divided h.keys k.keys;
              same = SameCoefficients-trans (SameCoefficients-append same_term terms_decide h.same k.same)
                  (SameCoefficients-from_sums same_term terms_decide _ _ (λ x.
                  let y = λ (t : Term). x (raised_term t) in
                  omega (
                    arith,
                    weighted_sum-append x (split h.low h.divided) (split k.low k.divided),
                    split_sum x h.low h.divided,
                    split_sum x k.low k.divided,
                    split_sum x (h.low ++ k.low) (h.divided ++ k.divided),
                    weighted_sum-append x h.low k.low,
                    weighted_sum-append y h.low k.low,
                    weighted_sum-append y h.divided k.divided,
                  )));
            };
        scaled = λ c v h.
            record {
              low = scale c h.low;
              range = AllKeys-scale (IsInRange VARIABLES (suc n)) c h.low h.range;
              syzygy = Syzygies.scaled c h.low h.syzygy;
              divided = scale c h.divided;
              keys = AllKeys-scale (IsDividedTerm n sector) c h.divided h.keys;
              same = SameCoefficients-trans (SameCoefficients-scale same_term terms_decide c h.same)
                  (SameCoefficients-from_sums same_term terms_decide _ _ (λ x.
                  let y = λ (t : Term). x (raised_term t) in
                  weighted_sum-scale x c (split h.low h.divided) ∙ ap (λ k. c * k) (split_sum x h.low h.divided)
                  ∙ omega (
                    arith,
                    split_sum x (scale c h.low) (scale c h.divided),
                    weighted_sum-scale x c h.low,
                    weighted_sum-scale y c h.low,
                    weighted_sum-scale y c h.divided,
                  )));
            };
        multiplied = λ m v long h.
            record {
              low = multiply_vector m h.low;
              range = AllKeys-map_keys (IsInRange VARIABLES (suc n)) (IsInRange VARIABLES (suc n)) (multiply_term m)
                  (λ t r. record { positive = r.positive; within = r.within; exponents = length-padded_sum ◌+◌ VARIABLES m t.1 long r.exponents }) h.low h.range;
              syzygy = Syzygies.multiplied m h.low long h.syzygy;
              divided = multiply_vector m h.divided;
              keys = AllKeys-map_keys (IsDividedTerm n sector) (IsDividedTerm n sector) (multiply_term m) (divided_times p n sector few shape small m long) h.divided h.keys;
              same = SameCoefficients-trans (SameVector-multiply m h.same)
                  (SameCoefficients-from_sums same_term terms_decide _ _ (λ x.
                  let z = λ (t : Term). x (multiply_term m t) in
                  omega (
                    arith,
                    weighted_sum-map_keys (multiply_term m) x (split h.low h.divided),
                    split_sum z h.low h.divided,
                    split_sum x (multiply_vector m h.low) (multiply_vector m h.divided),
                    weighted_sum-map_keys (multiply_term m) x h.low,
                    weighted_sum-map_keys (multiply_term m) (λ t. x (raised_term t)) h.low,
                    weighted_sum-map_keys (multiply_term m) (λ t. x (raised_term t)) h.divided,
                  )));
            };
      }

  divisor_splits : (i : ℕ) → i ≤ n → IsSplit (divisor sector i)
  divisor_splits i le =
      record {
        low = [];
        range = tt;
        syzygy = Syzygies.zero;
        divided = ((suc i, divisor_exponents sector i), 1) ∷ [];
        keys = (divisor_divided i le, tt);
        same = SameCoefficients-refl same_term (divisor sector i);
      }

  divisors_split : (i k : ℕ) → i + k ≡ n → AllByRecursion IsSplit (divisors_from sector i k)
  divisors_split i zero e =
      let last : n ≤ i = omega (arith, e) in
      let is : divisor sector i ≡ unit_vector VARIABLES (FIRST_HIGH + suc i) = λ k. ((FIRST_HIGH + suc i, outside_exponents i last k), 1) ∷ [] in
      (subst IsSplit is (divisor_splits i (omega (arith, e))), tt)
  divisors_split i (suc k) e = (divisor_splits i (omega (arith, e)), divisors_split (suc i) k (omega (arith, e)))

  module _ (gs : List ModuleVector) (ranged : (g : ModuleVector) → Contains gs g → AllKeys (IsInRange VARIABLES (suc n)) g)
      (syzygies : (g : ModuleVector) → Contains gs g → IsSyzygy VARIABLES (sector_factors p n 0) g)
      (generates : (v : ModuleVector) → IsSyzygy VARIABLES (sector_factors p n 0) v → IsMember VARIABLES gs v) where
    abbrev pub raw : List ModuleVector
    raw = map doubled gs ++ divisors_from sector 0 n

    each_splits : (v : ModuleVector) → Contains raw v → IsSplit v
    each_splits v c =
        ⊎_elim
        (λ (in_first : Contains (map doubled gs) v).
        let image = from_map doubled gs v in_first in
        let g = image.0 in
        record {
          low = g;
          range = ranged g image.1.0;
          syzygy = syzygies g image.1.0;
          divided = [];
          keys = tt;
          same = SameCoefficients-from_eq (sym image.1.1 ∙ sym (append-nil (doubled g)));
        })
        (λ (in_second : Contains (divisors_from sector 0 n) v). by_recursion_each IsSplit (divisors_from sector 0 n) v (divisors_split 0 n (omega arith)) in_second)
        (Contains-append_cases (map doubled gs) (divisors_from sector 0 n) v c)

    -- the terms of such a sum are terms
    terms_of_split : (low divided : ModuleVector) → AllKeys (IsInRange VARIABLES (suc n)) low → AllKeys (IsDividedTerm n sector) divided → AllKeys (IsTerm VARIABLES) (split low divided)
    terms_of_split low divided h k =
        let range = divided_in_range n sector few small divided k in
        let own : (t : Term) → IsInRange VARIABLES (suc n) t → IsTerm VARIABLES t = λ t r. record { component = omega (arith, r.within, few); exponents = r.exponents } in
        let above : (t : Term) → IsInRange VARIABLES (suc n) t → IsTerm VARIABLES (raised_term t) = λ t r. record { component = omega (arith, r.within, few); exponents = r.exponents } in
        AllKeys-append (IsTerm VARIABLES) (doubled low) (raised divided)
        (AllKeys-append (IsTerm VARIABLES) low (raised low) (AllKeys-weaker (IsInRange VARIABLES (suc n)) (IsTerm VARIABLES) own low h)
        (AllKeys-map_keys (IsInRange VARIABLES (suc n)) (IsTerm VARIABLES) raised_term above low h))
        (AllKeys-map_keys (IsInRange VARIABLES (suc n)) (IsTerm VARIABLES) raised_term above divided range)

    doubled_terms : (g : ModuleVector) → AllKeys (IsInRange VARIABLES (suc n)) g → AllKeys (IsTerm VARIABLES) (doubled g)
    doubled_terms g h = subst (AllKeys (IsTerm VARIABLES)) (append-nil (doubled g)) (terms_of_split g [] h tt)

    divisor_terms : (i : ℕ) → i ≤ n → AllKeys (IsTerm VARIABLES) (divisor sector i)
    divisor_terms i le = terms_of_split [] (((suc i, divisor_exponents sector i), 1) ∷ []) tt (divisor_divided i le, tt)

    divisors_terms : (i k : ℕ) → i + k ≡ n → AllByRecursion (AllKeys (IsTerm VARIABLES)) (divisors_from sector i k)
    divisors_terms i zero e = ((record { component = omega (arith, e, few); exponents = length-ones VARIABLES }, tt), tt)
    divisors_terms i (suc k) e = (divisor_terms i (omega (arith, e)), divisors_terms (suc i) k (omega (arith, e)))

    pub raw_valid : (v : ModuleVector) → Contains raw v → AllKeys (IsTerm VARIABLES) v
    raw_valid v c =
        ⊎_elim
        (λ (in_first : Contains (map doubled gs) v).
        let image = from_map doubled gs v in_first in
        subst (AllKeys (IsTerm VARIABLES)) image.1.1 (doubled_terms image.0 (ranged image.0 image.1.0)))
        (λ (in_second : Contains (divisors_from sector 0 n) v). by_recursion_each (AllKeys (IsTerm VARIABLES)) (divisors_from sector 0 n) v (divisors_terms 0 n (omega arith)) in_second)
        (Contains-append_cases (map doubled gs) (divisors_from sector 0 n) v c)

    -- A low member is one of the syzygies that the variables divide.
    pub divided_from_member : (v : ModuleVector) → IsLowMember block_high (IsMember VARIABLES raw) v → IsDividedSyzygy p n sector v
    divided_from_member v h =
        let s = IsMember-least VARIABLES raw IsSplit IsSubmodule-IsSplit each_splits v h.0 in
        let low = low_of_range s.low s.range in
        let minus = split_cancels v s.low s.divided h.1.low_terms low h.1.low h.1.same s.same in
        let is = split_is_low v s.low s.divided h.1.low_terms low h.1.low h.1.same s.same in
        record {
          terms = scale 2147483646 s.divided;
          divided = AllKeys-scale (IsDividedTerm n sector) 2147483646 s.divided s.keys;
          same = SameCoefficients-trans is minus;
          syzygy = Syzygies.same s.low (scale 2147483646 s.divided) minus s.syzygy;
        }

    -- ---- the converse

    DoubledMember : ModuleVector → Type 0
    DoubledMember v = IsMember VARIABLES raw (doubled v)

    IsSubmodule-DoubledMember : IsSubmodule VARIABLES DoubledMember
    unfolding DoubledMember
    IsSubmodule-DoubledMember =
        record {
          same = λ v w s h. IsMember-same VARIABLES raw (doubled v) (doubled w) (SameVector-doubled v w s) h;
          zero = IsMember-zero VARIABLES raw;
          sum = λ v w h k.
              IsMember-same VARIABLES raw (doubled v ++ doubled w) (doubled (v ++ w))
              (SameCoefficients-from_sums same_term terms_decide _ _ (λ x.
              let y = λ (t : Term). x (raised_term t) in
              omega (
                arith,
                weighted_sum-append x (doubled v) (doubled w),
                doubled_sum x v,
                doubled_sum x w,
                doubled_sum x (v ++ w),
                weighted_sum-append x v w,
                weighted_sum-append y v w,
              )))
              (IsMember-append VARIABLES raw (doubled v) (doubled w) h k);
          scaled = λ c v h.
              IsMember-same VARIABLES raw (scale c (doubled v)) (doubled (scale c v))
              (SameCoefficients-from_sums same_term terms_decide _ _ (λ x.
              let y = λ (t : Term). x (raised_term t) in
              weighted_sum-scale x c (doubled v) ∙ ap (λ k. c * k) (doubled_sum x v)
              ∙ omega (arith, doubled_sum x (scale c v), weighted_sum-scale x c v, weighted_sum-scale y c v)))
              (IsMember-scale VARIABLES raw c (doubled v) h);
          multiplied = λ m v long h.
              IsMember-same VARIABLES raw (multiply_vector m (doubled v)) (doubled (multiply_vector m v))
              (SameCoefficients-from_sums same_term terms_decide _ _ (λ x.
              omega (
                arith,
                weighted_sum-map_keys (multiply_term m) x (doubled v),
                doubled_sum (λ t. x (multiply_term m t)) v,
                doubled_sum x (multiply_vector m v),
                weighted_sum-map_keys (multiply_term m) x v,
                weighted_sum-map_keys (multiply_term m) (λ t. x (raised_term t)) v,
              )))
              (IsMember-multiply VARIABLES raw m (doubled v) long h);
        }

    doubled_member : (v : ModuleVector) → IsMember VARIABLES gs v → IsMember VARIABLES raw (doubled v)
    unfolding DoubledMember
    doubled_member v h =
        IsMember-least VARIABLES gs DoubledMember IsSubmodule-DoubledMember (λ g c.
        IsMember-generator VARIABLES raw (doubled g) (Contains-append_left (map doubled gs) (divisors_from sector 0 n) (doubled g) (in_map doubled gs g c)) (doubled_terms g (ranged g c))) v h

    exponents_if : (b : Bool) (t : Term) → in_sector sector (t.0 - 1) ≡ b → IsDividedTerm n sector t
        → add_exponents (if b then set t.1 (t.0 - 1) (get_or t.1 (t.0 - 1) 0 - 1) else t.1) (if b then variable_exponents (t.0 - 1) else replicate VARIABLES 0) ≡ t.1
    exponents_if true t e d =
        let i = t.0 - 1 in
        padded_sum_comm ◌+◌ (λ x y. omega arith) (set t.1 i (get_or t.1 i 0 - 1)) (variable_exponents i)
        ∙ put_back VARIABLES i t.1 (omega (arith, member_below n sector i small e, few)) d.exponents (d.divided e)
    exponents_if false t e d = padded_sum_comm ◌+◌ (λ x y. omega arith) t.1 (replicate VARIABLES 0) ∙ add_exponents-one VARIABLES t.1 d.exponents

    -- a raised vector that the variables divide is a member
    raised_member : (v : ModuleVector) → AllKeys (IsDividedTerm n sector) v → IsMember VARIABLES raw (raised v)
    raised_member [] h = IsMember-zero VARIABLES raw
    raised_member (t ∷ v) h =
        let i = t.0.0 - 1 in
        let le : i ≤ n = omega (arith, h.0.positive, h.0.within) in
        let m = (stripped_term sector t.0).1 in
        let long : length m ≡ VARIABLES = (range_stripped n sector few small t.0 h.0).exponents in
        let contained = Contains-append_right (map doubled gs) (divisors_from sector 0 n) (divisor sector i) (divisor_contained i le) in
        let generator = IsMember-generator VARIABLES raw (divisor sector i) contained (divisor_terms i le) in
        let first = IsMember-scale VARIABLES raw t.1 _ (IsMember-multiply VARIABLES raw m (divisor sector i) long generator) in
        let number : suc i ≡ t.0.0 = omega (arith, h.0.positive) in
        let exponents = exponents_if (in_sector sector i) t.0 refl h.0 in
        let count : t.1 * 1 ≡ t.1 = omega arith in
        let is : scale t.1 (multiply_vector m (divisor sector i)) ++ raised v ≡ raised (t ∷ v) = λ k. ((FIRST_HIGH + number k, exponents k), count k) ∷ raised v in
        IsMember-same VARIABLES raw _ (raised (t ∷ v)) (SameCoefficients-from_eq is) (IsMember-append VARIABLES raw _ (raised v) first (raised_member v h.1))

    pub member_from_divided : (v : ModuleVector) → IsDividedSyzygy p n sector v → IsLowMember block_high (IsMember VARIABLES raw) v
    member_from_divided v h =
        let e = h.terms in
        let range = divided_in_range n sector few small e h.divided in
        let both = IsMember-append VARIABLES raw (doubled e) (scale 2147483646 (raised e)) (doubled_member e (generates e h.syzygy))
        (IsMember-scale VARIABLES raw 2147483646 (raised e) (raised_member e h.divided))
        in
        let is : SameVector (doubled e ++ scale 2147483646 (raised e)) e =
        SameCoefficients-from_weights same_term terms_decide _ _ (λ x.
        record {
          same_residue = omega (
            arith,
            weighted_sum-append x (doubled e) (scale 2147483646 (raised e)),
            doubled_sum x e,
            weighted_sum-scale x 2147483646 (raised e),
            weighted_sum-map_keys raised_term x e,
          );
        })
        in (
          IsMember-same VARIABLES raw _ v (SameCoefficients-trans is (SameCoefficients-sym h.same)) both,
          record { low_terms = e; low = low_of_range e range; same = h.same },
        )

    pub meet_members : (v : ModuleVector) → IsLowMember block_high (IsMember VARIABLES raw) v ↔ IsDividedSyzygy p n sector v
    meet_members v = (divided_from_member v, member_from_divided v)

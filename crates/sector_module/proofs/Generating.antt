-- The vectors that the run of a sector begins with, as the code makes them.
use Rattle.std.proofs.Common.{◌≡◌, ◌≢◌, ℕ, zero, suc, ◌+◌, ◌*◌, ◌%◌, ◌<◌, ◌≤◌, Bool, if◌then◌else◌, List, [], ◌∷◌, ◌++◌, length, get_or, take, sum, replicate, sym, refl, ap, subst, ◌∙◌, arith}
use Rattle.std.proofs.lemmas.List.{take_more, take_all, get_or-map, length-map}
use Rattle.ibp_algebra.specs.FormalSum.{weighted_sum, AllKeys, IsCanonical, scale, normal_form}
use Rattle.ibp_algebra.specs.Exponents.{same_exponents, deg_rev_lex}
use Rattle.ibp_algebra.specs.ExponentOrder.{exponents_decide}
use Rattle.ibp_algebra.specs.Polynomial.{Polynomial, SamePolynomial}
use Rattle.ibp_algebra.proofs.NormalForm.{IsCanonical-normal_form}
use Rattle.ibp_algebra.proofs.SumLaws.{SameCoefficients-refl, SameCoefficients-trans, SameCoefficients-append, SameCoefficients-map_keys, SameCoefficients-from_eq}
use Rattle.ibp_algebra.proofs.Weights.{weighted_sum-append, weighted_sum-SameCoefficients}
use Rattle.ibp_algebra.proofs.ZeroDivisors.{AllKeys-append, AllKeys-scale}
use Rattle.mono_order.specs.Term.{same_term}
use Rattle.mono_order.specs.TermOrder.{zero_dominates}
use Rattle.mono_order.specs.BlockOrders.{zero_dominates_laws}
use Rattle.ibp_algebra.proofs.ReverseLex.{sum-ones}
use Rattle.mono_order.proofs.Terms.{terms_decide}
use Rattle.module_vec.specs.ModuleVector.{ModuleVector, SameVector}
use Rattle.module_vec.proofs.Multiples.{AllKeys-map_keys}
use Rattle.module_vec.proofs.NormalForms.{is_normal_form, SameVector-normal}
use Rattle.family.specs.Conditions.{in_sector}
use Rattle.ibp_algebra.specs.Field.{sector_factor}
use Rattle.sector_module.specs.Factors.{factors_from, sector_factors, at_component, unit_vector, factor_generator, factor_generators, sector_generators}
use Rattle.ibp_algebra.proofs.Degrees.{AllKeys-same}
use Rattle.mono_order.specs.declared.limits.TheConstants.{VARIABLES}
use Rattle.sector_module.proofs.Fields.{length-factors}
use Rattle.sector_module.proofs.OneBasis.{at_weight, other_weight, same_number}

-- ---- one vector

-- the terms that the loop has made, and the last one
pub generator_terms : (i k : ℕ) (f items : Polynomial) (made terms : ModuleVector) (m : List ℕ) (one : ℕ) → length items ≤ k → items ≡ f → m ≡ replicate VARIABLES 0 → one ≡ 1
    → terms ≡ made ++ ((i, m), one) ∷ [] → made ≡ at_component 0 (take k items) → terms ≡ factor_generator VARIABLES i f
generator_terms i k f items made terms m one whole same at_m at_one pushed e =
    pushed ∙ (λ j. (e ∙ ap (at_component 0) (take_all k items whole ∙ same)) j ++ ((i, at_m j), at_one j) ∷ [])

pub generator_within : (limit i : ℕ) (f : Polynomial) → AllKeys (λ m. sum m ≤ limit) f → AllKeys (λ t. sum t.1 ≤ limit) (factor_generator VARIABLES i f)
generator_within limit i f h =
    AllKeys-append (λ t. sum t.1 ≤ limit) (at_component 0 f) (unit_vector VARIABLES i) (AllKeys-map_keys (λ m. sum m ≤ limit) (λ t. sum t.1 ≤ limit) (λ m. (0, m)) (λ m le. le) f h)
    (omega (arith, sum-ones VARIABLES), tt)

-- no vector of this form is zero
pub generator_some : (i : ℕ) (f : Polynomial) → 0 < i → normal_form zero_dominates (factor_generator VARIABLES i f) ≢ []
generator_some i f positive e =
    let w = at_weight i (λ (m : List ℕ). 1) in
    let same : SameVector [] (factor_generator VARIABLES i f) = SameVector-normal (zero_dominates_laws VARIABLES) [] (factor_generator VARIABLES i f) (sym e) in
    let sums = (weighted_sum-SameCoefficients same_term terms_decide w [] (factor_generator VARIABLES i f) same).same_residue in
    let none = other_weight i 0 (λ zero. omega (arith, zero, positive)) (λ (m : List ℕ). 1) f in
    let one : weighted_sum w (unit_vector VARIABLES i) ≡ 1 = ap (λ (b : Bool). 1 * (if b then 1 else 0) + 0) (same_number i) in
    let whole = weighted_sum-append w (at_component 0 f) (unit_vector VARIABLES i) in
    let at : weighted_sum w (factor_generator VARIABLES i f) ≡ 1 = omega (arith, whole, none, one) in
    let clash : 0 % 2147483647 ≡ 1 % 2147483647 = sums ∙ ap (λ k. k % 2147483647) at in
    absurd (let no : ⊥ = cc in no)

pub made_normal : (i : ℕ) (v terms : ModuleVector) (f : Polynomial) → IsCanonical zero_dominates v → SameVector v terms → terms ≡ factor_generator VARIABLES i f
    → v ≡ normal_form zero_dominates (factor_generator VARIABLES i f)
made_normal i v terms f canonical same is =
    is_normal_form (zero_dominates_laws VARIABLES) v (factor_generator VARIABLES i f) canonical (SameCoefficients-trans same (SameCoefficients-from_eq is))

-- the vector depends on the coefficients of the factor alone
normal_same : (i : ℕ) (f g : Polynomial) → SamePolynomial f g → normal_form zero_dominates (factor_generator VARIABLES i f) ≡ normal_form zero_dominates (factor_generator VARIABLES i g)
normal_same i f g same =
    let laws = zero_dominates_laws VARIABLES in
    is_normal_form laws (normal_form zero_dominates (factor_generator VARIABLES i f)) (factor_generator VARIABLES i g) (IsCanonical-normal_form zero_dominates laws.total laws.unique (factor_generator VARIABLES i f))
    (SameCoefficients-trans (SameVector-normal laws (normal_form zero_dominates (factor_generator VARIABLES i f)) (factor_generator VARIABLES i f) refl)
    (SameCoefficients-append same_term terms_decide
    (SameCoefficients-map_keys same_exponents exponents_decide same_term terms_decide (λ m. (0, m)) {f = f} {g = g} same) (SameCoefficients-refl same_term (unit_vector VARIABLES i))))

-- ---- the list

pub factor_at_place : (p : Polynomial) (inside : ℕ → Bool) (i n j : ℕ) → j < n → get_or (factors_from p inside i n) j [] ≡ sector_factor p inside (i + j)
factor_at_place p inside i zero j below = absurd (omega arith)
factor_at_place p inside i (suc n) zero below = ap (sector_factor p inside) (omega arith)
factor_at_place p inside i (suc n) (suc j) below =
    factor_at_place p inside (suc i) n j (omega arith) ∙ ap (sector_factor p inside) (omega arith)

pub factor_last : (p : Polynomial) (inside : ℕ → Bool) (i n : ℕ) → get_or (factors_from p inside i n) n [] ≡ scale 2147483646 p
factor_last p inside i zero = refl
factor_last p inside i (suc n) = factor_last p inside (suc i) n

length-generators : (i : ℕ) (fs : List Polynomial) → length (factor_generators VARIABLES i fs) ≡ length fs
length-generators i [] = refl
length-generators i (f ∷ fs) = omega (arith, length-generators (suc i) fs)

generator_at : (i : ℕ) (fs : List Polynomial) (j : ℕ) → j < length fs → get_or (factor_generators VARIABLES i fs) j [] ≡ factor_generator VARIABLES (i + j) (get_or fs j [])
generator_at i [] j below = absurd (omega arith)
generator_at i (f ∷ fs) zero below = ap (λ k. factor_generator VARIABLES k f) (omega arith)
generator_at i (f ∷ fs) (suc j) below = generator_at (suc i) fs j (omega arith) ∙ ap (λ k. factor_generator VARIABLES k (get_or fs j [])) (omega arith)

pub length-sector_generators : (p : Polynomial) (n sector : ℕ) → length (sector_generators p n sector) ≡ n + 1
length-sector_generators p n sector =
    omega (
      arith,
      length-map (factor_generators VARIABLES 1 (sector_factors p n sector)) (normal_form zero_dominates),
      length-generators 1 (sector_factors p n sector),
      length-factors p (in_sector sector) 0 n,
    )

sector_generator_at : (p : Polynomial) (n sector j : ℕ) → j < n + 1
    → get_or (sector_generators p n sector) j [] ≡ normal_form zero_dominates (factor_generator VARIABLES (1 + j) (get_or (sector_factors p n sector) j []))
sector_generator_at p n sector j below =
    let fs = sector_factors p n sector in
    let within : j < length fs = omega (arith, below, length-factors p (in_sector sector) 0 n) in
    get_or-map (normal_form zero_dominates) (factor_generators VARIABLES 1 fs) j [] [] (omega (arith, within, length-generators 1 fs))
    ∙ ap (normal_form zero_dominates) (generator_at 1 fs j within)

generators_step : (p : Polynomial) (n sector place : ℕ) (items new : List ModuleVector) (v : ModuleVector) → place < n + 1 → v ≡ get_or (sector_generators p n sector) place []
    → new ≡ items ++ v ∷ [] → items ≡ take place (sector_generators p n sector) → new ≡ take (place + 1) (sector_generators p n sector)
generators_step p n sector place items new v below is pushed e =
    let gs = sector_generators p n sector in
    pushed ∙ (λ j. e j ++ is j ∷ []) ∙ sym (take_more gs place [] (omega (arith, below, length-sector_generators p n sector)))

pub generators_more : (p : Polynomial) (n sector place number lower : ℕ) (items new : List ModuleVector) (v : ModuleVector) (f : Polynomial) → place < n → number ≡ 1 + place → lower ≡ place
    → SamePolynomial f (sector_factor p (in_sector sector) lower) → v ≡ normal_form zero_dominates (factor_generator VARIABLES number f)
    → new ≡ items ++ v ∷ [] → items ≡ take place (sector_generators p n sector) → new ≡ take (place + 1) (sector_generators p n sector)
generators_more p n sector place number lower items new v f below numbered here same made pushed e =
    let own : SamePolynomial f (get_or (sector_factors p n sector) place []) =
    SameCoefficients-trans (subst (λ k. SamePolynomial f (sector_factor p (in_sector sector) k)) here same)
    (SameCoefficients-from_eq (sym (factor_at_place p (in_sector sector) 0 n place below ∙ ap (sector_factor p (in_sector sector)) (omega arith))))
    in
    generators_step p n sector place items new v (omega arith)
    (made ∙ ap (λ k. normal_form zero_dominates (factor_generator VARIABLES k f)) numbered ∙ normal_same (1 + place) f (get_or (sector_factors p n sector) place []) own
    ∙ sym (sector_generator_at p n sector place (omega arith))) pushed e

pub generators_last : (p : Polynomial) (n sector number factor : ℕ) (items new : List ModuleVector) (v : ModuleVector) (f : Polynomial) → number ≡ 1 + n → factor ≡ 2147483646
    → SamePolynomial f (scale factor p) → v ≡ normal_form zero_dominates (factor_generator VARIABLES number f) → new ≡ items ++ v ∷ []
    → items ≡ take n (sector_generators p n sector) → new ≡ sector_generators p n sector
generators_last p n sector number factor items new v f numbered minus same made pushed e =
    let gs = sector_generators p n sector in
    let own : SamePolynomial f (get_or (sector_factors p n sector) n []) =
    SameCoefficients-trans (subst (λ k. SamePolynomial f (scale k p)) minus same) (SameCoefficients-from_eq (sym (factor_last p (in_sector sector) 0 n)))
    in
    generators_step p n sector n items new v (omega arith)
    (made ∙ ap (λ k. normal_form zero_dominates (factor_generator VARIABLES k f)) numbered ∙ normal_same (1 + n) f (get_or (sector_factors p n sector) n []) own
    ∙ sym (sector_generator_at p n sector n (omega arith))) pushed e
    ∙ take_all (n + 1) gs (omega (arith, length-sector_generators p n sector))

pub scale_degrees : (degree factor : ℕ) (f p : Polynomial) → IsCanonical deg_rev_lex f → SamePolynomial f (scale factor p) → AllKeys (λ m. sum m ≤ degree) p
    → AllKeys (λ m. sum m ≤ degree) f
scale_degrees degree factor f p canonical same h = AllKeys-same (λ m. sum m ≤ degree) f (scale factor p) canonical same (AllKeys-scale (λ m. sum m ≤ degree) factor p h)

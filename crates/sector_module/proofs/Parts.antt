-- The parts of a vector: the terms with one power product in the variables from place n on, without it. A part of
-- a syzygy of polynomials in the variables before place n is a syzygy, in these variables.
--     part n b v          the terms of v whose exponents from place n on are those of b, without these exponents
--     IsInFirst ..        an exponent for each variable, and none from place n on
--     Among v t           t is the term of an entry of v
use Rattle.std.proofs.Common.{◌≡◌, ◌≢◌, ℕ, zero, suc, ◌+◌, ◌*◌, ◌<◌, ◌-◌, Bool, true, false, if◌then◌else◌, length, get_or, List, [], ◌∷◌, ◌⊎◌, inl, inr, ⊎_elim, sym, refl, ap, subst, ◌∙◌, arith}
use Rattle.std.specs.List.{AllByRecursion}
use Rattle.std.specs.declared.cmp.Ordering.{Ordering}
use Rattle.std.specs.declared.cmp.Ordering.TheVariants.{Greater}
use Rattle.ibp_field.proofs.Congruence.{IsCongruent-trans, IsCongruent-from_eq}
use Rattle.ibp_algebra.specs.FormalSum.{weighted_sum, AllKeys, AllBelow, IsCanonical}
use Rattle.ibp_algebra.specs.Exponents.{add_exponents, same_exponents}
use Rattle.ibp_algebra.specs.ExponentOrder.{exponents_decide}
use Rattle.ibp_algebra.specs.Polynomial.{Polynomial, SamePolynomial}
use Rattle.ibp_algebra.proofs.Weights.{weighted_sum-zero, weighted_sum-SameCoefficients, SameCoefficients-from_weights}
use Rattle.mono_order.specs.Term.{Term, same_term, multiply_term}
use Rattle.mono_order.specs.TermOrder.{IsTermOrder}
use Rattle.mono_order.proofs.Terms.{terms_decide}
use Rattle.module_vec.specs.ModuleVector.{ModuleVector, SameVector, lead}
use Rattle.sector_module.proofs.Syzygies.{factor_at, value_at}
use Rattle.sector_module.proofs.Fields.{value_weight, weighted_sum-value_at}
use Rattle.sector_module.proofs.Splitting.{low_part, high_part, NoneFrom, both_parts, length-low, length-high, high-add, low-add}

pub record IsInFirst (variables n : ℕ) (m : List ℕ) : Type 0 where
  pub exponents : length m ≡ variables
  pub none : NoneFrom n m

abbrev pub has_high : ℕ → List ℕ → Term → Bool
has_high n b t = same_exponents (high_part n t.1) b

abbrev pub low_term : ℕ → Term → Term
low_term n t = (t.0, low_part n t.1)

abbrev pub part : ℕ → List ℕ → ModuleVector → ModuleVector
part n b [] = []
part n b (t ∷ v) = if has_high n b t.0 then ((low_term n t.0, t.1) ∷ part n b v) else part n b v

abbrev pub Among : ModuleVector → Term → Type 0
Among [] t = ⊥
Among (term ∷ v) t = (term.0 ≡ t) ⊎ Among v t

pub AllKeys-from_among : (P : Term → Type 0) (v : ModuleVector) → ((t : Term) → Among v t → P t) → AllKeys P v
AllKeys-from_among P [] h = tt
AllKeys-from_among P (term ∷ v) h = (h term.0 (inl refl), AllKeys-from_among P v (λ t among. h t (inr among)))

pub AllKeys-among : (P : Term → Type 0) (v : ModuleVector) → AllKeys P v → (t : Term) → Among v t → P t
AllKeys-among P [] h t among = absurd among
AllKeys-among P (term ∷ v) h t among =
    ⊎_elim (λ (is : term.0 ≡ t). subst P is h.0) (λ (rest : Among v t). AllKeys-among P v h.1 t rest) among

-- ---- sums over a part

abbrev part_weight : ℕ → List ℕ → (Term → ℕ) → Term → ℕ
part_weight n b w t = if has_high n b t then w (low_term n t) else 0

part_sum_if : (w : Term → ℕ) (c : Bool) (t : Term) (k : ℕ) (rest : ModuleVector) (sum_rest : ℕ) → weighted_sum w rest ≡ sum_rest
    → weighted_sum w (if c then ((t, k) ∷ rest) else rest) ≡ k * (if c then w t else 0) + sum_rest
part_sum_if w true t k rest sum_rest e = omega (arith, e)
part_sum_if w false t k rest sum_rest e = omega (arith, e)

weighted_sum-part : (n : ℕ) (b : List ℕ) (w : Term → ℕ) (v : ModuleVector) → weighted_sum w (part n b v) ≡ weighted_sum (part_weight n b w) v
weighted_sum-part n b w [] = refl
weighted_sum-part n b w (t ∷ v) =
    part_sum_if w (has_high n b t.0) (low_term n t.0) t.1 (part n b v) (weighted_sum (part_weight n b w) v) (weighted_sum-part n b w v)

pub SameVector-part : (n : ℕ) (b : List ℕ) (v w : ModuleVector) → SameVector v w → SameVector (part n b v) (part n b w)
SameVector-part n b v w same =
    SameCoefficients-from_weights same_term terms_decide _ _ (λ x.
    IsCongruent-trans (IsCongruent-from_eq (weighted_sum-part n b x v))
    (IsCongruent-trans (weighted_sum-SameCoefficients same_term terms_decide (part_weight n b x) v w same) (IsCongruent-from_eq (sym (weighted_sum-part n b x w)))))

-- ---- its terms

keys_if : (P : Term → Type 0) (c : Bool) (t : Term) (k : ℕ) (rest : ModuleVector) → (c ≡ true → P t) → AllKeys P rest → AllKeys P (if c then ((t, k) ∷ rest) else rest)
keys_if P true t k rest here h = (here refl, h)
keys_if P false t k rest here h = h

pub AllKeys-part : (n : ℕ) (b : List ℕ) (P Q : Term → Type 0) → ((t : Term) → P t → has_high n b t ≡ true → Q (low_term n t)) → (v : ModuleVector) → AllKeys P v → AllKeys Q (part n b v)
AllKeys-part n b P Q move [] h = tt
AllKeys-part n b P Q move (t ∷ v) h = keys_if Q (has_high n b t.0) (low_term n t.0) t.1 (part n b v) (λ e. move t.0 h.0 e) (AllKeys-part n b P Q move v h.1)

-- the first term of a part is that of an entry, and there is one where an entry has these exponents
pub record HasLead (n : ℕ) (b : List ℕ) (v w : ModuleVector) : Type 0 where
  pub term : Term
  pub among : Among v term
  pub high : has_high n b term ≡ true
  pub some : w ≢ []
  pub leads : lead w ≡ low_term n term

lead_if : (n : ℕ) (b : List ℕ) (c : Bool) (term : Term × ℕ) (v rest : ModuleVector) → has_high n b term.0 ≡ c → (c ≡ false → HasLead n b v rest)
    → HasLead n b (term ∷ v) (if c then ((low_term n term.0, term.1) ∷ rest) else rest)
lead_if n b true term v rest e later = record { term = term.0; among = inl refl; high = e; some = λ none. cc; leads = refl }
lead_if n b false term v rest e later = let h = later refl in record { term = h.term; among = inr h.among; high = h.high; some = h.some; leads = h.leads }

pub part-lead : (n : ℕ) (b : List ℕ) (v : ModuleVector) (t : Term) → Among v t → has_high n b t ≡ true → HasLead n b v (part n b v)
part-lead n b [] t among high = absurd among
part-lead n b (term ∷ v) t among high =
    lead_if n b (has_high n b term.0) term v (part n b v) refl (λ fails.
    ⊎_elim (λ (is : term.0 ≡ t). absurd (let clash : true ≡ false = sym high ∙ sym (ap (has_high n b) is) ∙ fails in let no : ⊥ = cc in no))
    (λ (rest : Among v t). part-lead n b v t rest high) among)

module _ {variables : ℕ} {order : Term → Term → Ordering} {high : ℕ → Bool} {height : Term → ℕ} {bound : ℕ}
    (laws : IsTermOrder variables order high height bound) where
  -- terms with one power product beyond compare as they do without it
  low_order : (n : ℕ) (b : List ℕ) (s t : Term) → length s.1 ≡ variables → length t.1 ≡ variables → high_part n s.1 ≡ b → high_part n t.1 ≡ b
      → order (low_term n s) (low_term n t) ≡ order s t
  low_order n b s t p q h k =
      let long : length b ≡ variables = ap length (sym h) ∙ length-high n s.1 ∙ p in
      let first : multiply_term b (low_term n s) ≡ s = λ i. (s.0, (ap (λ (e : List ℕ). add_exponents e (low_part n s.1)) (sym h) ∙ both_parts n s.1) i) in
      let second : multiply_term b (low_term n t) ≡ t = λ i. (t.0, (ap (λ (e : List ℕ). add_exponents e (low_part n t.1)) (sym k) ∙ both_parts n t.1) i) in
      sym (laws.kept b (low_term n s) (low_term n t) long (length-low n s.1 ∙ p) (length-low n t.1 ∙ q)) ∙ (λ i. order (first i) (second i))

  below_part : (n : ℕ) (b : List ℕ) (s : Term) → length s.1 ≡ variables → high_part n s.1 ≡ b → (v : ModuleVector) → AllKeys (λ t. length t.1 ≡ variables) v
      → AllBelow order s v → AllBelow order (low_term n s) (part n b v)
  below_part n b s p h [] long below = tt
  below_part n b s p h (t ∷ v) long below =
      keys_if (λ k. order (low_term n s) k ≡ Greater) (has_high n b t.0) (low_term n t.0) t.1 (part n b v)
      (λ e. low_order n b s t.0 p long.0 h ((exponents_decide (high_part n t.0.1) b).0 e) ∙ below.0) (below_part n b s p h v long.1 below.1)

  canonical_if : (c : Bool) (t : Term) (k : ℕ) (rest : ModuleVector) → 0 < k → k < 2147483647 → (c ≡ true → AllBelow order t rest) → IsCanonical order rest
      → IsCanonical order (if c then ((t, k) ∷ rest) else rest)
  canonical_if true t k rest some small below h = (some, small, below refl, h)
  canonical_if false t k rest some small below h = h

  pub IsCanonical-part : (n : ℕ) (b : List ℕ) (v : ModuleVector) → AllKeys (λ t. length t.1 ≡ variables) v → IsCanonical order v → IsCanonical order (part n b v)
  IsCanonical-part n b [] long h = tt
  IsCanonical-part n b (t ∷ v) long h =
      canonical_if (has_high n b t.0) (low_term n t.0) t.1 (part n b v) h.0 h.1
      (λ e. below_part n b t.0 long.0 ((exponents_decide (high_part n t.0.1) b).0 e) v long.1 h.2) (IsCanonical-part n b v long.1 h.3)

-- ---- its value

pub keyed_ext : {K : Type 0} (P : K → Type 0) (v w : K → ℕ) → ((k : K) → P k → v k ≡ w k) → (f : List (K × ℕ)) → AllKeys P f → weighted_sum v f ≡ weighted_sum w f
keyed_ext P v w same [] h = refl
keyed_ext P v w same (t ∷ f) h = omega (arith, ap (λ n. t.1 * n) (same t.0 h.0), keyed_ext P v w same f h.1)

if_sum : {K : Type 0} (c : Bool) (w : K → ℕ) (f : List (K × ℕ)) → weighted_sum (λ k. if c then w k else 0) f ≡ (if c then weighted_sum w f else 0)
if_sum true w f = refl
if_sum false w f = weighted_sum-zero f

pub factor_in : (P : List ℕ → Type 0) (fs : List Polynomial) → AllByRecursion (AllKeys P) fs → (i : ℕ) → AllKeys P (factor_at fs i)
factor_in P fs h i = at fs h (i - 1)
  where
    at : (fs : List Polynomial) → AllByRecursion (AllKeys P) fs → (j : ℕ) → AllKeys P (get_or fs j [])
    at [] h j = tt
    at (f ∷ fs) h zero = h.0
    at (f ∷ fs) h (suc j) = at fs h.1 j

module _ (variables n : ℕ) (fs : List Polynomial) (factors : AllByRecursion (AllKeys (IsInFirst variables n)) fs) (b : List ℕ) where
  first_weight : (List ℕ → ℕ) → List ℕ → ℕ
  first_weight w m = if same_exponents (high_part n m) b then w (low_part n m) else 0

  product_weight : (w : List ℕ → ℕ) (m k : List ℕ) → length m ≡ variables → IsInFirst variables n k
      → first_weight w (add_exponents m k) ≡ (if same_exponents (high_part n m) b then w (add_exponents (low_part n m) k) else 0)
  unfolding first_weight
  product_weight w m k long first =
      let lengths : length m ≡ length k = long ∙ sym first.exponents in
      λ i. if same_exponents (high-add n m k lengths first.none i) b then w (low-add n m k lengths first.none i) else 0

  term_value : (w : List ℕ → ℕ) (t : Term) → length t.1 ≡ variables → value_weight fs (first_weight w) t ≡ part_weight n b (value_weight fs w) t
  unfolding value_weight
  term_value w t long =
      keyed_ext (IsInFirst variables n) _ _ (λ k first. product_weight w t.1 k long first) (factor_at fs t.0) (factor_in (IsInFirst variables n) fs factors t.0)
      ∙ if_sum (same_exponents (high_part n t.1) b) (λ k. w (add_exponents (low_part n t.1) k)) (factor_at fs t.0)

  pub value_of_part : (v : ModuleVector) → AllKeys (λ t. length t.1 ≡ variables) v → SamePolynomial (value_at fs v) [] → SamePolynomial (value_at fs (part n b v)) []
  value_of_part v long h =
      SameCoefficients-from_weights same_exponents exponents_decide _ [] (λ w.
      IsCongruent-trans
      (IsCongruent-from_eq
      (weighted_sum-value_at fs w (part n b v) ∙ weighted_sum-part n b (value_weight fs w) v
      ∙ keyed_ext (λ t. length t.1 ≡ variables) _ _ (λ t p. sym (term_value w t p)) v long
      ∙ sym (weighted_sum-value_at fs (first_weight w) v)))
      (weighted_sum-SameCoefficients same_exponents exponents_decide (first_weight w) (value_at fs v) [] h))

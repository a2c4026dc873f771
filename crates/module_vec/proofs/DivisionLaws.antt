-- Division by a list of monic vectors ends, in one way. What it takes off is a sum of multiples of the list
-- whose leads are not above the terms of the vector, and no lead of the list divides a term of the remainder.
use Rattle.std.proofs.Common.{◌≡◌, ◌≢◌, ℕ, zero, suc, ◌+◌, ◌*◌, ◌<◌, ◌≤◌, Bool, true, false, ◌||◌, if◌then◌else◌, Option, Some, None, sum, length, get_or, List, [], ◌∷◌, ◌++◌, sym, refl, ap, subst, ◌∙◌, arith}
use Rattle.std.specs.Prelude.{nat_lt}
use Rattle.std.specs.List.{Contains}
use Rattle.std.proofs.lemmas.Bool.{ltb-true}
use Rattle.std.specs.declared.cmp.Ordering.{Ordering}
use Rattle.std.specs.declared.cmp.Ordering.TheVariants.{Less, Equal, Greater}
use Rattle.std.specs.Cmp.{IsTotalOrder}
use Rattle.std.specs.FinMap.{IsAntisymmetric}
use Rattle.ibp_base.proofs.Tests.{some_is_not_none}
use Rattle.ibp_field.specs.Arithmetic.{IsCongruent, neg_mod}
use Rattle.ibp_algebra.specs.FormalSum.{weighted_sum, coefficient, AllKeys, AllBelow, IsCanonical, scale}
use Rattle.ibp_algebra.specs.Combination.{combination}
use Rattle.ibp_field.proofs.Congruence.{IsCongruent-refl, IsCongruent-mul}
use Rattle.ibp_field.proofs.Inverse.{neg_mod-add}
use Rattle.ibp_algebra.proofs.Weights.{unit_weight, weighted_sum-append, weighted_sum-scale, weighted_sum-SameCoefficients, SameCoefficients-from_weights}
use Rattle.ibp_algebra.proofs.SumLaws.{SameCoefficients-refl}
use Rattle.ibp_algebra.proofs.Canonical.{order_refl, Greater-reverse, Greater-trans}
use Rattle.ibp_algebra.proofs.NormalForm.{IsCanonical-normal_form, AllKeys-normal_form, weighted_sum-normal_form}
use Rattle.ibp_algebra.proofs.ZeroDivisors.{AllKeys-append, AllKeys-scale}
use Rattle.ibp_algebra.proofs.Terms.{AllKeys-canonical}
use Rattle.ibp_algebra.proofs.Combinations.{AllKeys-weaker, AllKeys-both}
use Rattle.ibp_algebra.proofs.StandardRepresentations.{not_less-Greater}
use Rattle.mono_order.specs.Term.{Term, same_term, quotient_exponents, divides, IsTerm}
use Rattle.mono_order.specs.TermOrder.{IsTermOrder}
use Rattle.mono_order.proofs.Terms.{terms_decide, divides-quotient, length-quotient}
use Rattle.mono_order.proofs.TermInduction.{term_induction}
use Rattle.module_vec.specs.ModuleVector.{ModuleVector, multiply_vector, lead, IsMonicVector, multiple_value, multiple_lead, IsMultipleOf}
use Rattle.module_vec.specs.Division.{Division, Remainder, OverDegree, ReducesTo, first_divisor, is_over_degree, subtract_multiple, multiple_with_lead, in_front, division_step, divide, DividesTo}
use Rattle.module_vec.proofs.Multiples.{IsMonicVector-multiply, IsTerm-lead, lead-multiply, coefficient_at_lead, coefficient_above_lead}

-- ---- a division ends in one way

in_front-more : (term : Term × ℕ) (x y : Option Division) (d : Division) → ((e : Division) → x ≡ Some e → y ≡ Some e) → in_front term x ≡ Some d → in_front term y ≡ Some d
in_front-more term None y d more e = absurd (some_is_not_none d e)
in_front-more term (Some x) y d more e = ap (in_front term) (more x refl) ∙ e

step-more : (order : Term → Term → Ordering) (limit : ℕ) (f g : ModuleVector → Option Division) → ((v : ModuleVector) (d : Division) → f v ≡ Some d → g v ≡ Some d)
    → (divisor : Option ModuleVector) (term : Term × ℕ) (rest : ModuleVector) (d : Division)
    → division_step order limit f divisor term rest ≡ Some d → division_step order limit g divisor term rest ≡ Some d
step-more order limit f g more None term rest d e = in_front-more term (f rest) (g rest) d (more rest) e
step-more order limit f g more (Some h) term rest d e =
    elim (is_over_degree limit (multiple_value (multiple_with_lead term.0 h))) as (λ b.
    (if b then Some OverDegree else f (subtract_multiple order (term ∷ rest) term.1 (multiple_with_lead term.0 h).0 h)) ≡ Some d
    → (if b then Some OverDegree else g (subtract_multiple order (term ∷ rest) term.1 (multiple_with_lead term.0 h).0 h)) ≡ Some d) [
      | true ↦ λ k. k
      | false ↦ λ k. more _ d k
    ] e

-- more steps give the same
pub divide-more : (order : Term → Term → Ordering) (limit : ℕ) (list : List ModuleVector) (n m : ℕ) → n ≤ m → (v : ModuleVector) (d : Division)
    → divide order limit list n v ≡ Some d → divide order limit list m v ≡ Some d
divide-more order limit list zero m le v d e = absurd (some_is_not_none d e)
divide-more order limit list (suc n) zero le v d e = absurd (omega arith)
divide-more order limit list (suc n) (suc m) le [] d e = e
divide-more order limit list (suc n) (suc m) le (term ∷ rest) d e =
    step-more order limit (divide order limit list n) (divide order limit list m) (λ v c. divide-more order limit list n m (omega arith) v c)
    (first_divisor list term.0) term rest d e

pub DividesTo-unique : (order : Term → Term → Ordering) (limit : ℕ) (list : List ModuleVector) (v : ModuleVector) (c d : Division)
    → DividesTo order limit list v c → DividesTo order limit list v d → c ≡ d
DividesTo-unique order limit list v c d h k =
    let first = divide-more order limit list h.steps (h.steps + k.steps) (omega arith) v c h.ends in
    let second = divide-more order limit list k.steps (h.steps + k.steps) (omega arith) v d k.ends in
    cc

-- ---- the first divisor

pub first_divisor-some : (list : List ModuleVector) (t : Term) (g : ModuleVector) → first_divisor list t ≡ Some g → Contains list g × (divides (lead g) t ≡ true)
first_divisor-some [] t g e = absurd (some_is_not_none g e)
first_divisor-some (h ∷ list) t g e =
    elim (divides (lead h) t) as (λ b. divides (lead h) t ≡ b → (if b then Some h else first_divisor list t) ≡ Some g → Contains (h ∷ list) g × (divides (lead g) t ≡ true)) [
      | true ↦ λ k s. let is : h ≡ g = cc in ((0, omega arith, is), ap (λ x. divides (lead x) t) (sym is) ∙ k)
      | false ↦ λ k s.
          let found = first_divisor-some list t g s in
          ((suc found.0.0, omega (arith, found.0.1), found.0.2), found.1)
    ] refl e

divides_none : (b : Bool) (h : ModuleVector) (later : Option ModuleVector) → (if b then Some h else later) ≡ None → (b ≡ false) × (later ≡ None)
divides_none true h later e = absurd (some_is_not_none h (sym e))
divides_none false h later e = (refl, e)

pub first_divisor-none : (list : List ModuleVector) (t : Term) → first_divisor list t ≡ None → (g : ModuleVector) → Contains list g → divides (lead g) t ≡ false
first_divisor-none [] t e g h = absurd (omega (arith, h.1))
first_divisor-none (h ∷ list) t e g at =
    let parts = divides_none (divides (lead h) t) h (first_divisor list t) e in
    elim at.0 as (λ k. k < length (h ∷ list) → get_or (h ∷ list) k g ≡ g → divides (lead g) t ≡ false) [
      | zero ↦ λ p q. ap (λ x. divides (lead x) t) (sym q) ∙ parts.0
      | suc k ↦ λ p q. first_divisor-none list t parts.1 g (k, omega arith, q)
    ] at.1 at.2

-- ---- one subtraction

-- what the subtraction leaves, and the multiple that it takes off
pub weighted_sum-subtract : (order : Term → Term → Ordering) (total : IsTotalOrder order) (unique : IsAntisymmetric order) (v : ModuleVector) (c : ℕ) (m : List ℕ) (g : ModuleVector)
    → c < 2147483647 → (w : Term → ℕ) → IsCongruent (weighted_sum w v) (weighted_sum w (subtract_multiple order v c m g) + c * weighted_sum w (multiply_vector m g))
weighted_sum-subtract order total unique v c m g below w =
    let multiple = multiply_vector m g in
    let left = (weighted_sum-normal_form order total unique w (v ++ scale (neg_mod c) multiple)).same_residue in
    let none : IsCongruent ((neg_mod c + c) * weighted_sum w multiple) (0 * weighted_sum w multiple) = IsCongruent-mul (neg_mod-add c below) (IsCongruent-refl (weighted_sum w multiple)) in
    let zero = none.same_residue in
    record { same_residue = omega (arith, left, zero, weighted_sum-append w v (scale (neg_mod c) multiple), weighted_sum-scale w (neg_mod c) multiple) }

not_greater : (r : Ordering) → (r ≡ Less → ⊥) → (r ≡ Equal → ⊥) → r ≡ Greater
not_greater Less p q = absurd (p refl)
not_greater Equal p q = absurd (q refl)
not_greater Greater p q = refl

module _ {variables : ℕ} {order : Term → Term → Ordering} {high : ℕ → Bool} {height : Term → ℕ} {bound : ℕ}
    (laws : IsTermOrder variables order high height bound) where
  -- where the multiple has the lead of v, that lead is gone
  subtracted_coefficient : (t : Term × ℕ) (rest : ModuleVector) (m : List ℕ) (g : ModuleVector) → IsCanonical order (t ∷ rest) → IsMonicVector order variables (multiply_vector m g)
      → lead (multiply_vector m g) ≡ t.0 → (k : Term) → order t.0 k ≢ Greater → coefficient same_term (subtract_multiple order (t ∷ rest) t.1 m g) k ≡ 0
  subtracted_coefficient t rest m g canonical monic at k not_below =
      let whole = weighted_sum-subtract order laws.total laws.unique (t ∷ rest) t.1 m g canonical.1 (unit_weight same_term k) in
      elim (order t.0 k) as (λ r. order t.0 k ≡ r → coefficient same_term (subtract_multiple order (t ∷ rest) t.1 m g) k ≡ 0) [
        | Less ↦ λ e.
            let above = Greater-reverse order laws.total t.0 k e in
            let first : coefficient same_term (t ∷ rest) k ≡ 0 = coefficient_above_lead laws (t ∷ rest) canonical k above in
            let second : IsCongruent (weighted_sum (unit_weight same_term k) (multiply_vector m g)) 0 =
            record { same_residue = coefficient_above_lead laws (multiply_vector m g) monic.canonical k (ap (order k) at ∙ above) }
            in
            let product = (IsCongruent-mul (IsCongruent-refl t.1) second).same_residue in
            let sums = whole.same_residue in
            omega (arith, first, product, sums)
        | Equal ↦ λ e.
            let is : t.0 ≡ k = laws.unique t.0 k e in
            let first : coefficient same_term (t ∷ rest) k ≡ t.1 = subst (λ x. coefficient same_term (t ∷ rest) x ≡ t.1) is (coefficient_at_lead laws (t ∷ rest) canonical) in
            let second : IsCongruent (weighted_sum (unit_weight same_term k) (multiply_vector m g)) 1 =
            record { same_residue = subst (λ x. coefficient same_term (multiply_vector m g) x ≡ 1) (at ∙ is) (coefficient_at_lead laws (multiply_vector m g) monic.canonical ∙ monic.monic) }
            in
            let product = (IsCongruent-mul (IsCongruent-refl t.1) second).same_residue in
            let sums = whole.same_residue in
            omega (arith, first, product, sums)
        | Greater ↦ λ e. absurd (not_below e)
      ] refl

  pub IsCanonical-subtract : (v : ModuleVector) (c : ℕ) (m : List ℕ) (g : ModuleVector) → IsCanonical order (subtract_multiple order v c m g)
  IsCanonical-subtract v c m g = IsCanonical-normal_form order laws.total laws.unique (v ++ scale (neg_mod c) (multiply_vector m g))

  pub AllBelow-subtract : (t : Term × ℕ) (rest : ModuleVector) (m : List ℕ) (g : ModuleVector) → IsCanonical order (t ∷ rest) → IsMonicVector order variables (multiply_vector m g)
      → lead (multiply_vector m g) ≡ t.0 → AllBelow order t.0 (subtract_multiple order (t ∷ rest) t.1 m g)
  AllBelow-subtract t rest m g canonical monic at =
      AllKeys-canonical same_term terms_decide order laws.total (λ k. order t.0 k ≡ Greater) (subtract_multiple order (t ∷ rest) t.1 m g)
      (IsCanonical-subtract (t ∷ rest) t.1 m g)
      (λ k not_zero.
      not_greater (order t.0 k)
      (λ e. not_zero (subtracted_coefficient t rest m g canonical monic at k (λ f. let clash : Less ≡ Greater = sym e ∙ f in cc)))
      (λ e. not_zero (subtracted_coefficient t rest m g canonical monic at k (λ f. let clash : Equal ≡ Greater = sym e ∙ f in cc))))

  pub AllKeys-subtract : (P : Term → Type 0) (v : ModuleVector) (c : ℕ) (m : List ℕ) (g : ModuleVector) → AllKeys P v → AllKeys P (multiply_vector m g)
      → AllKeys P (subtract_multiple order v c m g)
  AllKeys-subtract P v c m g h k =
      AllKeys-normal_form order laws.total laws.unique P (v ++ scale (neg_mod c) (multiply_vector m g))
      (AllKeys-append P v (scale (neg_mod c) (multiply_vector m g)) h (AllKeys-scale P (neg_mod c) (multiply_vector m g) k))

  -- ---- the whole division

  module _ (list : List ModuleVector) (monic : (g : ModuleVector) → Contains list g → IsMonicVector order variables g) where
    -- what the first divisor of a term gives
    record Fits (t : Term) (g : ModuleVector) : Type 0 where
      multiple : IsMultipleOf variables list (multiple_with_lead t g)
      lead_is : multiple_lead (multiple_with_lead t g) ≡ t
      value_monic : IsMonicVector order variables (multiple_value (multiple_with_lead t g))
      value_lead : lead (multiple_value (multiple_with_lead t g)) ≡ t

    fits : (t : Term) → IsTerm variables t → (g : ModuleVector) → first_divisor list t ≡ Some g → Fits t g
    fits t valid g e =
        let found = first_divisor-some list t g e in
        let is_monic = monic g found.0 in
        let lead_valid = IsTerm-lead laws g is_monic.monic is_monic.terms in
        let long = length-quotient variables (lead g).1 t.1 lead_valid.exponents valid.exponents in
        let at = divides-quotient variables (lead g) t lead_valid.exponents valid.exponents found.1 in
        record {
          multiple = record { exponents = long; generator = found.0 };
          lead_is = at;
          value_monic = IsMonicVector-multiply laws (quotient_exponents t.1 (lead g).1) g long is_monic;
          value_lead = lead-multiply laws (quotient_exponents t.1 (lead g).1) g is_monic.monic ∙ at;
        }

    -- the first term of a monic vector is of the kind P, and so are the lesser ones
    pub AllKeys-from_lead : (P : Term → Type 0) → ((t u : Term) → P t → order t u ≡ Greater → P u) → (v : ModuleVector) → IsCanonical order v → P (lead v) → AllKeys P v
    AllKeys-from_lead P closed [] c p = tt
    AllKeys-from_lead P closed (t ∷ v) c p = (p, AllKeys-weaker _ P (λ u above. closed t.0 u p above) v c.2)

    reduces_end : (P : Term → Type 0) → ReducesTo order variables list P [] []
    reduces_end P = record { canonical = tt; terms = tt; kind = tt; reduced = tt; summands = []; multiples = tt; leads = tt; sum = SameCoefficients-refl same_term [] }

    -- the lead moves to the remainder
    reduces_moved : (P : Term → Type 0) (t : Term × ℕ) (v r : ModuleVector) → IsCanonical order (t ∷ v) → IsTerm variables t.0 → P t.0 → first_divisor list t.0 ≡ None
        → ReducesTo order variables list (λ u. P u × (order t.0 u ≡ Greater)) v r → ReducesTo order variables list P (t ∷ v) (t ∷ r)
    reduces_moved P t v r c valid p none h =
        record {
          canonical = (c.0, c.1, AllKeys-weaker _ _ (λ u k. k.1) r h.kind, h.canonical);
          terms = (valid, h.terms);
          kind = (p, AllKeys-weaker _ _ (λ u k. k.0) r h.kind);
          reduced = (none, h.reduced);
          summands = h.summands;
          multiples = h.multiples;
          leads = AllKeys-weaker _ _ (λ u k. k.0) h.summands h.leads;
          sum = record { same_at = λ k. let e = h.sum.same_at k in omega arith };
        }

    -- a multiple is taken off
    reduces_subtracted : (P : Term → Type 0) (t : Term × ℕ) (v r : ModuleVector) (g : ModuleVector) → t.1 < 2147483647 → P t.0 → Fits t.0 g
        → ReducesTo order variables list P (subtract_multiple order (t ∷ v) t.1 (multiple_with_lead t.0 g).0 g) r → ReducesTo order variables list P (t ∷ v) r
    reduces_subtracted P t v r g below p f h =
        record {
          canonical = h.canonical;
          terms = h.terms;
          kind = h.kind;
          reduced = h.reduced;
          summands = (multiple_with_lead t.0 g, t.1) ∷ h.summands;
          multiples = (f.multiple, h.multiples);
          leads = (subst P (sym f.lead_is) p, h.leads);
          sum = SameCoefficients-from_weights same_term terms_decide _ _ (λ w.
              let multiple = multiple_with_lead t.0 g in
              let first = (weighted_sum-subtract order laws.total laws.unique (t ∷ v) t.1 multiple.0 g below w).same_residue in
              let second = (weighted_sum-SameCoefficients same_term terms_decide w _ _ h.sum).same_residue in
              record {
                same_residue = omega (
                  arith,
                  first,
                  second,
                  weighted_sum-append w r (combination multiple_value h.summands),
                  weighted_sum-append w r (combination multiple_value ((multiple, t.1) ∷ h.summands)),
                  weighted_sum-append w (scale t.1 (multiple_value multiple)) (combination multiple_value h.summands),
                  weighted_sum-scale w t.1 (multiple_value multiple),
                );
              });
        }

    in_front_remainder : (t : Term × ℕ) (x : Option Division) (r : ModuleVector) → in_front t x ≡ Some (Remainder r) → (s : ModuleVector) × (x ≡ Some (Remainder s)) × (t ∷ s ≡ r)
    in_front_remainder t None r e = absurd (some_is_not_none (Remainder r) e)
    in_front_remainder t (Some OverDegree) r e = cc
    in_front_remainder t (Some (Remainder s)) r e = (s, refl, cc)

    not_over : (b : Bool) (x : Option Division) (r : ModuleVector) → (if b then Some OverDegree else x) ≡ Some (Remainder r) → x ≡ Some (Remainder r)
    not_over true x r e = cc
    not_over false x r e = e

    -- A division whose steps give a remainder reduces to it.
    pub divide_reduces : (limit n : ℕ) (P : Term → Type 0) → ((t u : Term) → P t → order t u ≡ Greater → P u) → (v r : ModuleVector)
        → IsCanonical order v → AllKeys (IsTerm variables) v → AllKeys P v → divide order limit list n v ≡ Some (Remainder r) → ReducesTo order variables list P v r
    divide_reduces limit zero P closed v r c valid p e = absurd (some_is_not_none (Remainder r) e)
    divide_reduces limit (suc n) P closed [] r c valid p e = let is : [] ≡ r = cc in subst (ReducesTo order variables list P []) is (reduces_end P)
    divide_reduces limit (suc n) P closed (t ∷ v) r c valid p e =
        elim (first_divisor list t.0) as (λ x. first_divisor list t.0 ≡ x → division_step order limit (divide order limit list n) x t v ≡ Some (Remainder r) → ReducesTo order variables list P (t ∷ v) r) [
          | None ↦ λ none k.
              let part = in_front_remainder t (divide order limit list n v) r k in
              let rest =
              divide_reduces limit n (λ u. P u × (order t.0 u ≡ Greater))
              (λ a b h above. (closed a b h.0 above, Greater-trans order laws.total t.0 a b h.1 above))
              v part.0 c.3 valid.1 (AllKeys-both P (λ u. order t.0 u ≡ Greater) v p.1 c.2) part.1
              in
              subst (ReducesTo order variables list P (t ∷ v)) part.2 (reduces_moved P t v part.0 c valid.0 p.0 none rest)
          | Some g ↦ λ found k.
              let f = fits t.0 valid.0 g found in
              let m = (multiple_with_lead t.0 g).0 in
              let multiple_kind = AllKeys-from_lead P closed (multiple_value (multiple_with_lead t.0 g)) f.value_monic.canonical (subst P (sym f.value_lead) p.0) in
              reduces_subtracted P t v r g c.1 p.0 f
              (divide_reduces limit n P closed (subtract_multiple order (t ∷ v) t.1 m g) r (IsCanonical-subtract (t ∷ v) t.1 m g)
              (AllKeys-subtract (IsTerm variables) (t ∷ v) t.1 m g valid f.value_monic.terms) (AllKeys-subtract P (t ∷ v) t.1 m g p multiple_kind)
              (not_over _ _ r k))
        ] refl e

    -- ---- a division ends

    Ends : ℕ → ModuleVector → Type 0
    Ends limit v = (n : ℕ) × (d : Division) × (divide order limit list n v ≡ Some d)

    EndsUpTo : ℕ → Term → Type 0
    EndsUpTo limit top = (v : ModuleVector) → IsCanonical order v → AllKeys (IsTerm variables) v → AllKeys (λ u. order top u ≢ Less) v → Ends limit v

    -- where the terms are below the top, the lead is a lesser top
    ends_lesser : (limit : ℕ) (top : Term) → ((u : Term) → IsTerm variables u → order top u ≡ Greater → EndsUpTo limit u)
        → (v : ModuleVector) → IsCanonical order v → AllKeys (IsTerm variables) v → AllKeys (λ u. order top u ≡ Greater) v → Ends limit v
    unfolding Ends EndsUpTo
    ends_lesser limit top lesser [] c valid below = (1, Remainder [], refl)
    ends_lesser limit top lesser (t ∷ v) c valid below =
        lesser t.0 valid.0 below.0 (t ∷ v) c valid (
          (λ e. let equal = order_refl order laws.total t.0 in let clash : Less ≡ Equal = sym e ∙ equal in cc),
          AllKeys-weaker _ _ (λ u above e. let clash : Less ≡ Greater = sym e ∙ above in cc) v c.2,
        )

    ends_moved : (limit : ℕ) (t : Term × ℕ) (v : ModuleVector) → first_divisor list t.0 ≡ None → Ends limit v → Ends limit (t ∷ v)
    unfolding Ends
    ends_moved limit t v none h =
        elim h.1 as (λ d. divide order limit list h.0 v ≡ Some d → (n : ℕ) × (d : Division) × (divide order limit list n (t ∷ v) ≡ Some d)) [
          | Remainder r ↦ λ e. (suc h.0, Remainder (t ∷ r), rw (none, e))
          | OverDegree ↦ λ e. (suc h.0, OverDegree, rw (none, e))
        ] h.2

    ends_step : (limit : ℕ) (t : Term) → IsTerm variables t → ((u : Term) → IsTerm variables u → order t u ≡ Greater → EndsUpTo limit u) → EndsUpTo limit t
    unfolding Ends EndsUpTo
    ends_step limit top valid_top lesser [] c valid upto = (1, Remainder [], refl)
    ends_step limit top valid_top lesser (t ∷ v) c valid upto =
        let below = λ (w : ModuleVector) (h : AllBelow order t.0 w). AllKeys-weaker _ (λ u. order top u ≡ Greater) (λ u above. not_less-Greater order laws.total laws.unique top t.0 u upto.0 above) w h in
        elim (first_divisor list t.0) as (λ x. first_divisor list t.0 ≡ x → Ends limit (t ∷ v)) [
          | None ↦ λ none. ends_moved limit t v none (ends_lesser limit top lesser v c.3 valid.1 (below v c.2))
          | Some g ↦ λ found.
              let f = fits t.0 valid.0 g found in
              let m = (multiple_with_lead t.0 g).0 in
              elim (is_over_degree limit (multiply_vector m g)) as (λ b. is_over_degree limit (multiply_vector m g) ≡ b → Ends limit (t ∷ v)) [
                | true ↦ λ over. (1, OverDegree, rw (found, over))
                | false ↦ λ within.
                    let rest =
                    ends_lesser limit top lesser (subtract_multiple order (t ∷ v) t.1 m g) (IsCanonical-subtract (t ∷ v) t.1 m g)
                    (AllKeys-subtract (IsTerm variables) (t ∷ v) t.1 m g valid f.value_monic.terms) (below _ (AllBelow-subtract t v m g c f.value_monic f.value_lead))
                    in
                    (suc rest.0, rest.1, rw (found, within) rest.2)
              ] refl
        ] refl

    -- Division ends.
    pub divide_ends : (limit : ℕ) (v : ModuleVector) → IsCanonical order v → AllKeys (IsTerm variables) v → (d : Division) × DividesTo order limit list v d
    unfolding Ends EndsUpTo
    divide_ends limit [] c valid = (Remainder [], record { steps = 1; ends = refl })
    divide_ends limit (t ∷ v) c valid =
        let h =
        term_induction laws (EndsUpTo limit) (ends_step limit) t.0 valid.0 (t ∷ v) c valid (
          (λ e. let equal = order_refl order laws.total t.0 in let clash : Less ≡ Equal = sym e ∙ equal in cc),
          AllKeys-weaker _ _ (λ u above e. let clash : Less ≡ Greater = sym e ∙ above in cc) v c.2,
        )
        in
        (h.1, record { steps = h.0; ends = h.2 })

    -- ---- degrees

    within_degree : (limit : ℕ) (v : ModuleVector) → AllKeys (λ t. sum t.1 ≤ limit) v → is_over_degree limit v ≡ false
    within_degree limit [] h = refl
    within_degree limit (t ∷ v) h =
        elim (nat_lt limit (sum t.0.1)) as (λ b. nat_lt limit (sum t.0.1) ≡ b → (b || is_over_degree limit v) ≡ false) [
          | true ↦ λ e. absurd (omega (arith, ltb-true limit (sum t.0.1) e, h.0))
          | false ↦ λ e. within_degree limit v h.1
        ] refl

    in_front_over : (t : Term × ℕ) (x : Option Division) → in_front t x ≡ Some OverDegree → x ≡ Some OverDegree
    in_front_over t None e = cc
    in_front_over t (Some OverDegree) e = e
    in_front_over t (Some (Remainder s)) e = cc

    -- A division stays within the limit where all lesser terms of those of the vector do, as for low terms.
    pub divide_within : (limit n : ℕ) (P : Term → Type 0) → ((t u : Term) → P t → order t u ≡ Greater → P u) → ((t : Term) → P t → sum t.1 ≤ limit)
        → (v : ModuleVector) → IsCanonical order v → AllKeys (IsTerm variables) v → AllKeys P v → divide order limit list n v ≢ Some OverDegree
    divide_within limit zero P closed bounded v c valid p e = absurd (some_is_not_none OverDegree e)
    divide_within limit (suc n) P closed bounded [] c valid p e = cc
    divide_within limit (suc n) P closed bounded (t ∷ v) c valid p e =
        elim (first_divisor list t.0) as (λ x. first_divisor list t.0 ≡ x → division_step order limit (divide order limit list n) x t v ≡ Some OverDegree → ⊥) [
          | None ↦ λ none k. divide_within limit n P closed bounded v c.3 valid.1 p.1 (in_front_over t (divide order limit list n v) k)
          | Some g ↦ λ found k.
              let f = fits t.0 valid.0 g found in
              let m = (multiple_with_lead t.0 g).0 in
              let multiple_kind = AllKeys-from_lead P closed (multiply_vector m g) f.value_monic.canonical (subst P (sym f.value_lead) p.0) in
              let within = within_degree limit (multiply_vector m g) (AllKeys-weaker P (λ u. sum u.1 ≤ limit) bounded (multiply_vector m g) multiple_kind) in
              divide_within limit n P closed bounded (subtract_multiple order (t ∷ v) t.1 m g) (IsCanonical-subtract (t ∷ v) t.1 m g)
              (AllKeys-subtract (IsTerm variables) (t ∷ v) t.1 m g valid f.value_monic.terms) (AllKeys-subtract P (t ∷ v) t.1 m g p multiple_kind)
              (rw within at k)
        ] refl e

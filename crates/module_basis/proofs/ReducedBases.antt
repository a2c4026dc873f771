-- From a Groebner basis to the reduced one: the vectors with low leads are a basis of the low members, vectors
-- may be dropped or changed while the leads still divide all leads, and a minimal basis with reduced tails is
-- reduced. At most one list is a reduced basis.
use Rattle.std.proofs.Common.{◌≡◌, ◌≢◌, ℕ, ◌<◌, ◌≤◌, Bool, true, false, if◌then◌else◌, inl, inr, sum, length, get_or, List, [], ◌∷◌, ◌++◌, sym, refl, ap, subst, ◌∙◌, arith}
use Rattle.std.specs.List.{All, AllZip, Contains}
use Rattle.std.specs.declared.cmp.Ordering.{Ordering}
use Rattle.std.specs.declared.cmp.Ordering.TheVariants.{Greater}
use Rattle.std.proofs.lemmas.List.{get_or_default}
use Rattle.std.proofs.lemmas.List.Elements.{All-contains, All-weaker, All-contains_itself, All-from_get_or, Contains-get_or, AllZip-get_or, length_all_zip}
use Rattle.ibp_base.proofs.Members.{in_cases, in_tail}
use Rattle.ibp_algebra.specs.FormalSum.{AllKeys, IsCanonical, scale}
use Rattle.ibp_algebra.specs.Combination.{combination}
use Rattle.ibp_algebra.proofs.Weights.{weighted_sum-append, weighted_sum-scale, weighted_sum-SameCoefficients, SameCoefficients-from_weights}
use Rattle.ibp_algebra.proofs.SumLaws.{SameCoefficients-refl, SameCoefficients-sym, SameCoefficients-trans, SameCoefficients-append, SameCoefficients-scale}
use Rattle.ibp_algebra.proofs.Canonical.{Greater-trans}
use Rattle.ibp_algebra.proofs.ZeroDivisors.{AllKeys-append, AllKeys-scale}
use Rattle.ibp_algebra.proofs.Combinations.{AllKeys-weaker}
use Rattle.mono_order.specs.Term.{Term, same_term, multiply_term, divides, IsTerm}
use Rattle.mono_order.specs.TermOrder.{IsTermOrder}
use Rattle.mono_order.proofs.Terms.{terms_decide, divides-trans, divides-refl, divides-component}
use Rattle.mono_order.proofs.TermInduction.{low_below, low_degree_below}
use Rattle.module_vec.specs.ModuleVector.{ModuleVector, multiply_vector, lead, multiple_value, IsMonicVector, IsSubmodule, IsLow, HasDivisor}
use Rattle.module_vec.specs.Division.{Remainder, OverDegree, DividesTo}
use Rattle.module_vec.proofs.Multiples.{AllKeys-coefficient, AllKeys-map_keys, SameVector-multiply, coefficient_at_lead, lead_coefficient-not_zero}
use Rattle.module_vec.proofs.DivisionLaws.{first_divisor-none, divide_reduces, divide_ends, divide_within}
use Rattle.module_vec.proofs.Members.{Member-combination}
use Rattle.module_basis.specs.GroebnerBasis.{IsGroebnerBasis, IsReducedBasis, IsLowMember, low_elements, IsMinimal, IsTailReduced, AscendsByLead}

-- ---- low members

IsLow-append : (high : ℕ → Bool) (v w : ModuleVector) → IsLow high v → IsLow high w → IsLow high (v ++ w)
IsLow-append high v w h k =
    record {
      low_terms = h.low_terms ++ k.low_terms;
      low = AllKeys-append (λ (t : Term). high t.0 ≡ false) h.low_terms k.low_terms h.low k.low;
      same = SameCoefficients-append same_term terms_decide h.same k.same;
    }

-- The low members of a submodule are a submodule.
pub IsSubmodule-IsLowMember : (variables : ℕ) (high : ℕ → Bool) (Member : ModuleVector → Type 0) → IsSubmodule variables Member → IsSubmodule variables (IsLowMember high Member)
IsSubmodule-IsLowMember variables high Member submodule =
    record {
      same = λ v w s h. (submodule.same v w s h.0, record { low_terms = h.1.low_terms; low = h.1.low; same = SameCoefficients-trans (SameCoefficients-sym s) h.1.same });
      zero = (submodule.zero, record { low_terms = []; low = tt; same = SameCoefficients-refl same_term [] });
      sum = λ v w h k. (submodule.sum v w h.0 k.0, IsLow-append high v w h.1 k.1);
      scaled = λ c v h. (
        submodule.scaled c v h.0,
        record { low_terms = scale c h.1.low_terms; low = AllKeys-scale (λ (t : Term). high t.0 ≡ false) c h.1.low_terms h.1.low; same = SameCoefficients-scale same_term terms_decide c h.1.same },
      );
      multiplied = λ m v p h. (
        submodule.multiplied m v p h.0,
        record {
          low_terms = multiply_vector m h.1.low_terms;
          low = AllKeys-map_keys (λ (t : Term). high t.0 ≡ false) (λ (t : Term). high t.0 ≡ false) (multiply_term m) (λ t low. low) h.1.low_terms h.1.low;
          same = SameVector-multiply m h.1.same;
        },
      );
    }

low_if_first : (b : Bool) (x : ModuleVector) (others : List ModuleVector) → b ≡ false → Contains (if b then others else (x ∷ others)) x
low_if_first true x others e = cc
low_if_first false x others e = (0, omega arith, refl)

low_if_later : (b : Bool) (x : ModuleVector) (others : List ModuleVector) (g : ModuleVector) → Contains others g → Contains (if b then others else (x ∷ others)) g
low_if_later true x others g h = h
low_if_later false x others g h = in_tail x others g h

pub Contains-low : (high : ℕ → Bool) (list : List ModuleVector) (g : ModuleVector) → Contains list g → high (lead g).0 ≡ false → Contains (low_elements high list) g
Contains-low high [] g h low = absurd (omega (arith, h.1))
Contains-low high (x ∷ list) g h low =
    elim (in_cases x list g h) as (λ c. Contains (low_elements high (x ∷ list)) g) [
      | inl is ↦ subst (λ (y : ModuleVector). Contains (low_elements high (x ∷ list)) y) is
          (low_if_first (high (lead x).0) x (low_elements high list) (ap (λ (y : ModuleVector). high (lead y).0) is ∙ low))
      | inr later ↦ low_if_later (high (lead x).0) x (low_elements high list) g (Contains-low high list g later low)
    ]

from_low_if : (b : Bool) (high : ℕ → Bool) (x : ModuleVector) (list others : List ModuleVector) (g : ModuleVector) → high (lead x).0 ≡ b
    → (Contains others g → Contains list g × (high (lead g).0 ≡ false)) → Contains (if b then others else (x ∷ others)) g → Contains (x ∷ list) g × (high (lead g).0 ≡ false)
from_low_if true high x list others g e later h = let k = later h in (in_tail x list g k.0, k.1)
from_low_if false high x list others g e later h =
    elim (in_cases x others g h) as (λ c. Contains (x ∷ list) g × (high (lead g).0 ≡ false)) [
      | inl is ↦ ((0, omega arith, is), ap (λ (y : ModuleVector). high (lead y).0) (sym is) ∙ e)
      | inr k ↦ let l = later k in (in_tail x list g l.0, l.1)
    ]

pub from_low_elements : (high : ℕ → Bool) (list : List ModuleVector) (g : ModuleVector) → Contains (low_elements high list) g → Contains list g × (high (lead g).0 ≡ false)
from_low_elements high [] g h = absurd (omega (arith, h.1))
from_low_elements high (x ∷ list) g h = from_low_if (high (lead x).0) high x list (low_elements high list) g refl (from_low_elements high list g) h

module _ {variables : ℕ} {order : Term → Term → Ordering} {high : ℕ → Bool} {height : Term → ℕ} {bound : ℕ}
    (laws : IsTermOrder variables order high height bound) where
  -- a canonical vector with a low lead is low
  pub low_from_lead : (v : ModuleVector) → IsCanonical order v → high (lead v).0 ≡ false → AllKeys (λ t. high t.0 ≡ false) v
  low_from_lead [] c low = tt
  low_from_lead (t ∷ v) c low = (low, AllKeys-weaker _ _ (λ u above. low_below laws t.0 u low above) v c.2)

  -- the lead of a low vector that is not zero is low
  lead_is_low : (v : ModuleVector) → IsCanonical order v → v ≢ [] → IsLow high v → high (lead v).0 ≡ false
  lead_is_low v c not_zero h =
      AllKeys-coefficient (λ t. high t.0 ≡ false) h.low_terms h.low (lead v)
      (λ zero. lead_coefficient-not_zero order v c not_zero (sym (coefficient_at_lead laws v c) ∙ h.same.same_at (lead v) ∙ zero))

  -- Elimination: the vectors of a basis that have low leads are a basis of the low members.
  pub elimination : (Member : ModuleVector → Type 0) (list : List ModuleVector) → All (IsMonicVector order variables) list
      → IsGroebnerBasis order Member list → IsGroebnerBasis order (IsLowMember high Member) (low_elements high list)
  elimination Member list monic basis =
      record {
        members = All-weaker (Contains (low_elements high list)) (IsLowMember high Member)
            (λ g c.
            let from = from_low_elements high list g c in
            let is_monic = All-contains (IsMonicVector order variables) list g monic from.0 in
            (All-contains Member list g basis.members from.0, record { low_terms = g; low = low_from_lead g is_monic.canonical from.1; same = SameCoefficients-refl same_term g }))
            (low_elements high list) (All-contains_itself (low_elements high list));
        divisible = λ v c not_zero h.
            let found = basis.divisible v c not_zero h.0 in
            let low = lead_is_low v c not_zero h.1 in
            (found.0, Contains-low high list found.0 found.1 (ap high (divides-component (lead found.0) (lead v) found.2) ∙ low), found.2);
      }

  -- ---- dropping and changing

  -- A list of members is a basis where its leads divide all leads of a basis.
  pub IsGroebnerBasis-leads : (Member : ModuleVector → Type 0) (list more : List ModuleVector) → IsGroebnerBasis order Member list → All Member more
      → ((g : ModuleVector) → Contains list g → HasDivisor more (lead g)) → IsGroebnerBasis order Member more
  IsGroebnerBasis-leads Member list more basis members through =
      record {
        members = members;
        divisible = λ v c not_zero h.
            let found = basis.divisible v c not_zero h in
            let other = through found.0 found.1 in
            (other.0, other.1, divides-trans (lead other.0) (lead found.0) (lead v) other.2 found.2);
      }

  -- ---- reduced tails

  reduced_lead : (list : List ModuleVector) (g r : ModuleVector) → IsTailReduced order variables list g r → lead r ≡ lead g
  reduced_lead list [] r h = absurd h
  reduced_lead list (t ∷ tail) [] h = absurd h
  reduced_lead list (t ∷ tail) (u ∷ rest) h = ap (λ (x : Term × ℕ). x.0) (sym h.0)

  pub reduced_monic : (list : List ModuleVector) (g r : ModuleVector) → IsMonicVector order variables g → IsTailReduced order variables list g r → IsMonicVector order variables r
  reduced_monic list [] r m h = absurd h
  reduced_monic list (t ∷ tail) [] m h = absurd h
  reduced_monic list (t ∷ tail) (u ∷ rest) m h =
      subst (λ (x : Term × ℕ). IsMonicVector order variables (x ∷ rest)) h.0
      (record { canonical = (m.canonical.0, m.canonical.1, h.1.kind, h.1.canonical); terms = (m.terms.0, h.1.terms); monic = m.monic })

  reduced_member : (Member : ModuleVector → Type 0) → IsSubmodule variables Member → (list : List ModuleVector) → ((g : ModuleVector) → Contains list g → Member g)
      → (g r : ModuleVector) → Member g → IsTailReduced order variables list g r → Member r
  reduced_member Member submodule list holds [] r m h = absurd h
  reduced_member Member submodule list holds (t ∷ tail) [] m h = absurd h
  reduced_member Member submodule list holds (t ∷ tail) (u ∷ rest) m h =
      subst (λ (x : Term × ℕ). Member (x ∷ rest)) h.0
      (submodule.same ((t ∷ tail) ++ scale 2147483646 (combination multiple_value h.1.summands)) (t ∷ rest)
      (SameCoefficients-from_weights same_term terms_decide _ _ (λ w.
      let taken = combination multiple_value h.1.summands in
      let whole = (weighted_sum-SameCoefficients same_term terms_decide w _ _ h.1.sum).same_residue in
      record { same_residue = omega (arith, whole, weighted_sum-append w rest taken, weighted_sum-append w (t ∷ tail) (scale 2147483646 taken), weighted_sum-scale w 2147483646 taken) }))
      (submodule.sum (t ∷ tail) _ m
      (submodule.scaled 2147483646 (combination multiple_value h.1.summands) (Member-combination variables Member submodule order list _ tail rest holds h.1))))

  -- the terms of a reduced vector are not divisible by other leads than its own
  reduced_terms : (list : List ModuleVector) (g r : ModuleVector) → IsTailReduced order variables list g r → (h : ModuleVector) → Contains list h → divides (lead h) (lead g) ≡ false
      → AllKeys (λ t. divides (lead h) t ≡ false) r
  reduced_terms list [] r k h c apart = absurd k
  reduced_terms list (t ∷ tail) [] k h c apart = absurd k
  reduced_terms list (t ∷ tail) (u ∷ rest) k h c apart =
      (ap (λ (x : Term × ℕ). divides (lead h) x.0) (sym k.0) ∙ apart, AllKeys-weaker _ _ (λ v none. first_divisor-none list v none h c) rest k.1.reduced)

  -- A minimal basis that ascends, with reduced tails, is the reduced basis.
  pub reduced_from_minimal : (Member : ModuleVector → Type 0) → IsSubmodule variables Member → (list more : List ModuleVector) → All (IsMonicVector order variables) list
      → IsGroebnerBasis order Member list → AscendsByLead order list → IsMinimal list → AllZip (IsTailReduced order variables list) list more → IsReducedBasis order variables Member more
  reduced_from_minimal Member submodule list more monic basis ascends minimal reduced =
      let long : length list ≡ length more = length_all_zip (IsTailReduced order variables list) list more reduced in
      let each = λ (i : ℕ) (below : i < length more). AllZip-get_or (IsTailReduced order variables list) list more i [] [] reduced (omega (arith, long, below)) in
      let in_list = λ (i : ℕ) (below : i < length more). Contains-get_or list i [] (omega (arith, long, below)) in
      let lead_is = λ (i : ℕ) (below : i < length more). reduced_lead list (get_or list i []) (get_or more i []) (each i below) in
      let members : All Member more =
      All-from_get_or Member more [] (λ i below.
      reduced_member Member submodule list (λ g c. All-contains Member list g basis.members c) (get_or list i []) (get_or more i [])
      (All-contains Member list (get_or list i []) basis.members (in_list i below)) (each i below))
      in
      record {
        ascends = λ i below j less. rw (lead_is i below, lead_is j (omega (arith, below, less))) (ascends i (omega (arith, long, below)) j less);
        monic = All-from_get_or (IsMonicVector order variables) more [] (λ i below.
            reduced_monic list (get_or list i []) (get_or more i []) (All-contains (IsMonicVector order variables) list (get_or list i []) monic (in_list i below)) (each i below));
        basis = IsGroebnerBasis-leads Member list more basis members (λ g c.
            let place : c.0 < length more = omega (arith, long, c.1) in
            let is : get_or list c.0 [] ≡ g = get_or_default list c.0 [] g c.1 ∙ c.2 in (
              get_or more c.0 [],
              Contains-get_or more c.0 [] place,
              ap (λ t. divides t (lead g)) (lead_is c.0 place ∙ ap lead is) ∙ divides-refl (lead g),
            ));
        reduced = λ i j first second apart.
            rw (lead_is i first)
            (reduced_terms list (get_or list j []) (get_or more j []) (each j second) (get_or list i []) (in_list i first)
            (minimal i j (omega (arith, long, first)) (omega (arith, long, second)) apart));
      }

  -- the division of a tail reduces it
  pub IsTailReduced-divided : (list : List ModuleVector) → All (IsMonicVector order variables) list → (limit : ℕ) (t : Term × ℕ) (tail r : ModuleVector)
      → IsCanonical order (t ∷ tail) → AllKeys (IsTerm variables) (t ∷ tail) → DividesTo order limit list tail (Remainder r) → IsTailReduced order variables list (t ∷ tail) (t ∷ r)
  IsTailReduced-divided list monic limit t tail r c valid d = (
    refl,
    divide_reduces laws list (λ g h. All-contains (IsMonicVector order variables) list g monic h) limit d.steps (λ u. order t.0 u ≡ Greater)
        (λ a b above more. Greater-trans order laws.total t.0 a b above more) tail r c.3 valid.1 c.2 d.ends,
  )

  -- Among low terms of bounded degree a division never meets the limit.
  pub low_division : (list : List ModuleVector) → All (IsMonicVector order variables) list → (limit : ℕ) (v : ModuleVector) → IsCanonical order v → AllKeys (IsTerm variables) v
      → AllKeys (λ t. (high t.0 ≡ false) × (sum t.1 ≤ limit)) v → (r : ModuleVector) × DividesTo order limit list v (Remainder r)
  low_division list monic limit v c valid low =
      let monic_in = λ (g : ModuleVector) (h : Contains list g). All-contains (IsMonicVector order variables) list g monic h in
      let ends = divide_ends laws list monic_in limit v c valid in
      elim ends.0 as (λ d. DividesTo order limit list v d → (r : ModuleVector) × DividesTo order limit list v (Remainder r)) [
        | Remainder r ↦ λ d. (r, d)
        | OverDegree ↦ λ d.
            absurd (divide_within laws list monic_in limit d.steps (λ t. (high t.0 ≡ false) × (sum t.1 ≤ limit)) (λ t u h above. low_degree_below laws limit t u h above)
            (λ t h. h.1) v c valid low d.ends)
      ] ends.1

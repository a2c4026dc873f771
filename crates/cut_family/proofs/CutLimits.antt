-- A cut family keeps the limits of families.
use Rattle.std.proofs.Common.{◌≡◌, ◌≢◌, ℕ, ◌+◌, ◌-◌, ◌^◌, ◌<◌, ◌≤◌, List, [], length, sum, filter, refl, sym, ◌∙◌, subst, arith}
use Rattle.std.specs.Prelude.{ℤ, count_ones, Option, None}
use Rattle.std.proofs.lemmas.List.{length-map}
use Rattle.ibp_base.proofs.Members.{All-each}
use Rattle.ibp_algebra.specs.FormalSum.{map_keys, strike}
use Rattle.ibp_algebra.specs.Laurent.{same_powers}
use Rattle.ibp_algebra.specs.Polynomial.{Polynomial}
use Rattle.ibp_algebra.proofs.Striking.{AllKeys-strike}
use Rattle.mono_order.specs.declared.limits.TheConstants.{VARIABLES}
use Rattle.sparse_poly.specs.declared.limits.TheConstants.{DEGREE_LIMIT, TERM_LIMIT}
use Rattle.sector_lattice.specs.Subsectors.{is_subsector}
use Rattle.sector_lattice.specs.declared.sector.Sector.{Sector}
use Rattle.family.specs.declared.parts.Bounds.{Bounds}
use Rattle.family.specs.declared.parts.Budget.{Budget}
use Rattle.family.specs.declared.parts.Probe.{Probe}
use Rattle.family.specs.declared.parts.SectorCaps.{SectorCaps}
use Rattle.family.specs.Caps.{have_one_sector}
use Rattle.family.specs.Limits.{CapsWithin, FamilyLimits}
use Rattle.family.specs.Shapes.{HasVariables, IsPolynomial, ArePowers}
use Rattle.family_file.proofs.Filling.{padded_sum}
use Rattle.family_file.proofs.PolynomialLimits.{IsRead, Small, normal_form_length, read_normal}
use Rattle.cut_family.specs.Places.{outside, without_cut}
use Rattle.cut_family.specs.Cutting.{cut_caps, cut_exponents, cut_polynomial, cut_sectors, cut_targets, is_on_cut, meets_cut}
use Rattle.cut_family.proofs.PlaceLaws.{outside_sum}
use Rattle.cut_family.proofs.Limits.{keys_moved, strike_length, filter_length, by_recursion, each_moved, distinct_moved, cut_variables, cut_powers, without_below}
use Rattle.cut_family.proofs.Distinct.{powers_apart, caps_apart}

small_moved : (cut : ℕ) (m : List ℕ) → sum m ≤ DEGREE_LIMIT → Small (cut_exponents cut m)
small_moved cut m h = omega (arith, padded_sum (VARIABLES - length (outside cut m)) (outside cut m), outside_sum cut m, h)

read_cut : (n cut : ℕ) (p : Polynomial) → cut < 2 ^ n → IsPolynomial n DEGREE_LIMIT p → length p ≤ TERM_LIMIT → IsRead (n - count_ones cut) (cut_polynomial cut p)
read_cut n cut p small h few =
    let kept = strike (meets_cut cut) p in
    read_normal (n - count_ones cut) (map_keys (cut_exponents cut) kept)
    (keys_moved (HasVariables n) (HasVariables (n - count_ones cut)) (cut_exponents cut) (cut_variables n cut small) kept (AllKeys-strike (HasVariables n) (meets_cut cut) p h.variables))
    (keys_moved (λ m. sum m ≤ DEGREE_LIMIT) Small (cut_exponents cut) (small_moved cut) kept (AllKeys-strike (λ m. sum m ≤ DEGREE_LIMIT) (meets_cut cut) p h.degree_within))
    (omega (arith, normal_form_length (map_keys (cut_exponents cut) kept), length-map {B = List ℕ × ℕ} kept (λ term. (cut_exponents cut term.0, term.1)), strike_length (meets_cut cut) p, few))

pub cut_limits : (n cut : ℕ) (p : Polynomial) (targets : List (List ℤ)) (zero : List Sector) (bounds : Bounds) (caps : List SectorCaps) (symmetries : List (List ℕ)) (budget : Budget) (probe : Option Probe)
    → FamilyLimits n p targets zero bounds caps symmetries budget probe → cut < 2 ^ n → count_ones cut < n → cut_polynomial cut p ≢ []
    → FamilyLimits (n - count_ones cut) (cut_polynomial cut p) (cut_targets cut targets) (cut_sectors n cut zero) bounds (cut_caps n cut caps) [] budget None
cut_limits n cut p targets zero bounds caps symmetries budget probe h small some left =
    let read = read_cut n cut p small h.polynomial h.few_terms in
    let whole : count_ones cut + (n - count_ones cut) ≡ n = omega (arith, some) in
    let on = λ (t : List ℤ). is_on_cut cut t in
    let sector_in = λ (s : Sector). is_subsector cut s.0 in
    let entry_in = λ (c : SectorCaps). is_subsector cut c.sector.0 in
    let move_sector : Sector → Sector = λ s. record { 0 = without_cut n cut s.0 } in
    let move_entry : SectorCaps → SectorCaps = λ c. record { sector = record { 0 = without_cut n cut c.sector.0 }; dots = c.dots; rank = c.rank } in
    record {
      some_variables = omega (arith, some);
      few_variables = omega (arith, h.few_variables);
      polynomial = read.polynomial;
      few_terms = read.few;
      not_zero = left;
      few_targets = omega (arith, length-map (filter on targets) (outside cut), filter_length on targets, h.few_targets);
      target_powers = All-each (ArePowers (n - count_ones cut)) (cut_targets cut targets) (each_moved (ArePowers n) (ArePowers (n - count_ones cut)) on (outside cut) (cut_powers n cut small) targets (by_recursion (ArePowers n) targets h.target_powers));
      distinct = distinct_moved (ArePowers n) same_powers same_powers on (outside cut) (powers_apart n cut) targets (by_recursion (ArePowers n) targets h.target_powers) h.distinct;
      few_zero = omega (arith, length-map (filter sector_in zero) move_sector, filter_length sector_in zero, h.few_zero);
      zero_below = All-each (λ (s : Sector). s.0 < 2 ^ (n - count_ones cut)) (cut_sectors n cut zero)
          (each_moved (λ (s : Sector). s.0 < 2 ^ n) (λ (s : Sector). s.0 < 2 ^ (n - count_ones cut)) sector_in move_sector (λ s below. without_below n cut (n - count_ones cut) s.0 whole small) zero (by_recursion (λ (s : Sector). s.0 < 2 ^ n) zero h.zero_below));
      bounds_within = h.bounds_within;
      few_caps = omega (arith, length-map (filter entry_in caps) move_entry, filter_length entry_in caps, h.few_caps);
      caps_within = All-each (CapsWithin (n - count_ones cut)) (cut_caps n cut caps)
          (each_moved (CapsWithin n) (CapsWithin (n - count_ones cut)) entry_in move_entry
          (λ c within. record { below = without_below n cut (n - count_ones cut) c.sector.0 whole small; dots = within.dots; rank = within.rank }) caps (by_recursion (CapsWithin n) caps h.caps_within));
      distinct_caps = distinct_moved (CapsWithin n) have_one_sector have_one_sector entry_in move_entry (caps_apart n cut) caps (by_recursion (CapsWithin n) caps h.caps_within) h.distinct_caps;
      few_symmetries = omega arith;
      permutations = λ k d below. absurd (omega (arith, below));
      closed = refl;
      budget_within = h.budget_within;
      probe_fits = λ probe none. absurd (cc);
    }

-- the same for values that are equal to these
pub made_limits : (n cut m : ℕ) (p q : Polynomial) (targets ts : List (List ℤ)) (zero zs : List Sector) (bounds : Bounds) (caps cs : List SectorCaps) (symmetries gs : List (List ℕ)) (budget : Budget) (probe : Option Probe)
    → FamilyLimits n p targets zero bounds caps symmetries budget probe → cut < 2 ^ n → count_ones cut < n → q ≢ []
    → m ≡ n - count_ones cut → q ≡ cut_polynomial cut p → ts ≡ cut_targets cut targets → zs ≡ cut_sectors n cut zero → cs ≡ cut_caps n cut caps → gs ≡ []
    → FamilyLimits m q ts zs bounds cs gs budget None
made_limits n cut m p q targets ts zero zs bounds caps cs symmetries gs budget probe h small some left em eq et ez ec none =
    subst (λ m. FamilyLimits m q ts zs bounds cs gs budget None) (sym em)
    (subst (λ gs. FamilyLimits (n - count_ones cut) q ts zs bounds cs gs budget None) (sym none)
    (subst (λ ts. FamilyLimits (n - count_ones cut) q ts zs bounds cs [] budget None) (sym et)
    (subst (λ zs. FamilyLimits (n - count_ones cut) q (cut_targets cut targets) zs bounds cs [] budget None) (sym ez)
    (subst (λ cs. FamilyLimits (n - count_ones cut) q (cut_targets cut targets) (cut_sectors n cut zero) bounds cs [] budget None) (sym ec)
    (subst (λ q. FamilyLimits (n - count_ones cut) q (cut_targets cut targets) (cut_sectors n cut zero) bounds (cut_caps n cut caps) [] budget None) (sym eq)
    (cut_limits n cut p targets zero bounds caps symmetries budget probe h small some (λ zero_polynomial. left (eq ∙ zero_polynomial))))))))

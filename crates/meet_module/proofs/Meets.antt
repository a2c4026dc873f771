-- From the reduced basis of the tangent module to the reduced basis of the fields that meet the two conditions for a sector,
-- and from that to the reduced basis of the sector's module.
use Rattle.std.proofs.Common.{◌≡◌, ◌≢◌, ℕ, zero, suc, ◌+◌, ◌*◌, ◌<◌, ◌≤◌, ◌^◌, ◌%◌, Bool, true, false, if◌then◌else◌, ◌↔◌, ◌⊎◌, inl, inr, ⊎_elim, length, List, [], ◌∷◌, ◌++◌, map, sym, refl, ap, subst, ◌∙◌, arith, length-append}
use Rattle.std.specs.List.{All, AllByRecursion, Contains}
use Rattle.std.specs.Ordering.{bool_cmp, ordering_then}
use Rattle.std.proofs.lemmas.List.{length-map}
use Rattle.std.proofs.lemmas.List.Elements.{All-contains, All-weaker, All-contains_itself, Contains-append_cases}
use Rattle.ibp_base.proofs.Members.{from_map, by_recursion_each}
use Rattle.ibp_algebra.specs.FormalSum.{coefficient, AllKeys, map_keys, normal_form}
use Rattle.ibp_algebra.specs.Polynomial.{Polynomial}
use Rattle.ibp_algebra.proofs.Combinations.{AllKeys-weaker}
use Rattle.ibp_algebra.proofs.SumLaws.{SameCoefficients-refl, SameCoefficients-trans, SameCoefficients-from_eq, SameCoefficients-map_keys, SameCoefficients-sym}
use Rattle.mono_order.specs.declared.limits.TheConstants.{VARIABLES}
use Rattle.mono_order.specs.Term.{Term, same_term, IsTerm}
use Rattle.mono_order.specs.TermOrder.{over_position, high_block, nothing_high, block_high}
use Rattle.mono_order.specs.BlockOrders.{over_position_laws, high_block_laws}
use Rattle.mono_order.proofs.Terms.{terms_decide}
use Rattle.module_vec.specs.ModuleVector.{ModuleVector, SameVector, lead, IsMonicVector, IsMember}
use Rattle.module_vec.proofs.Multiples.{coefficient_at_lead}
use Rattle.module_vec.proofs.NormalForms.{SameVector-normal}
use Rattle.module_basis.specs.GroebnerBasis.{IsGroebnerBasis, IsReducedBasis, IsReducedLowBasis, IsLowMember}
use Rattle.module_basis.proofs.OrderChange.{IsReducedBasis-members, IsReducedBasis-order}
use Rattle.family.specs.declared.parts.StrippedField.{StrippedField}
use Rattle.family.specs.Shapes.{HasVariables}
use Rattle.sector_module.specs.Factors.{sector_factors}
use Rattle.sector_module.specs.SectorBasis.{field_vector, IsSectorBasis}
use Rattle.sector_module.proofs.Syzygies.{IsInRange, IsSyzygy}
use Rattle.sector_module.proofs.NormalModule.{normal_module}
use Rattle.sector_module.proofs.SectorBasis.{IsSubmodule-IsSyzygy}
use Rattle.sector_module.proofs.SectorReduced.{in_range, long_factors, syzygy_reduced}
use Rattle.sector_module.proofs.SectorRun.{polynomials, few_factors}
use Rattle.meet_module.specs.Divided.{IsDividedTerm}
use Rattle.meet_module.specs.MeetRuns.{doubled, divisor, divisors_from, meet_vectors, meet_generators, stripped, stripped_generators}
use Rattle.meet_module.proofs.Stripping.{unstripped_term, unstripped_vector, divided_in_range}
use Rattle.meet_module.proofs.DividedSyzygies.{IsDividedSyzygy, IsSubmodule-IsDividedSyzygy, divided_canonical}
use Rattle.meet_module.proofs.Generated.{generated}
use Rattle.meet_module.proofs.Meeting.{doubled_is_zero, length-divisors, low_of_range, raw_valid, meet_members}
use Rattle.meet_module.proofs.StrippedModule.{stripped_valid, stripped_members}

-- a monic vector is not zero
pub monic_some : (v : ModuleVector) → IsMonicVector over_position VARIABLES v → SameVector [] v → ⊥
monic_some v monic same =
    let zero = same.same_at (lead v) in
    let one = coefficient_at_lead (over_position_laws VARIABLES) v monic.canonical in
    absurd (omega (arith, zero, one, monic.monic))

-- no single term is zero
unit_some : (t : Term) → SameVector [] ((t, 1) ∷ []) → ⊥
unit_some t same =
    let zero = same.same_at t in
    let one : coefficient same_term ((t, 1) ∷ []) t ≡ 1 = ap (λ (b : Bool). (1 * (if b then 1 else 0) + 0) % 2147483647) ((terms_decide t t).1 refl) in
    absurd (omega (arith, zero, one))

range_terms : (n : ℕ) → n ≤ VARIABLES → (v : ModuleVector) → AllKeys (IsInRange VARIABLES (suc n)) v → AllKeys (IsTerm VARIABLES) v
range_terms n few v h = AllKeys-weaker (IsInRange VARIABLES (suc n)) (IsTerm VARIABLES) (λ t r. record { component = omega (arith, r.within, few); exponents = r.exponents }) v h

module _ (p : Polynomial) (n sector : ℕ) (few : n ≤ VARIABLES) (shape : AllKeys (HasVariables n) p) (small : sector < 2 ^ n) where
  -- ---- the meet

  module _ (tangent : List StrippedField) (basis : IsSectorBasis p n 0 tangent) where
    gs : List ModuleVector
    gs = map field_vector tangent

    tangent_reduced : IsReducedBasis over_position VARIABLES (IsSyzygy VARIABLES (sector_factors p n 0)) gs
    unfolding gs
    tangent_reduced = syzygy_reduced p n 0 few shape (map field_vector tangent) basis.reduced

    tangent_syzygies : (g : ModuleVector) → Contains gs g → IsSyzygy VARIABLES (sector_factors p n 0) g
    tangent_syzygies g c = All-contains (IsSyzygy VARIABLES (sector_factors p n 0)) gs g tangent_reduced.basis.members c

    tangent_monic : (g : ModuleVector) → Contains gs g → IsMonicVector over_position VARIABLES g
    tangent_monic g c = All-contains (IsMonicVector over_position VARIABLES) gs g tangent_reduced.monic c

    tangent_ranged : (g : ModuleVector) → Contains gs g → AllKeys (IsInRange VARIABLES (suc n)) g
    tangent_ranged g c = in_range p n 0 few shape g (tangent_monic g c).canonical (tangent_syzygies g c)

    tangent_generates : (v : ModuleVector) → IsSyzygy VARIABLES (sector_factors p n 0) v → IsMember VARIABLES gs v
    tangent_generates v s =
        let range = subst (λ k. AllKeys (IsInRange VARIABLES k) s.terms) (long_factors p n 0 few shape) s.in_range in
        generated (IsSyzygy VARIABLES (sector_factors p n 0)) (IsSubmodule-IsSyzygy VARIABLES (sector_factors p n 0) (polynomials p n 0 few shape) (few_factors p n 0 few shape))
        gs tangent_reduced.monic tangent_reduced.basis v s.terms s.same (range_terms n few s.terms range) s

    vectors_valid : (v : ModuleVector) → Contains (meet_vectors n sector tangent) v → AllKeys (IsTerm VARIABLES) v
    unfolding gs
    vectors_valid v c = raw_valid p n sector few shape small gs tangent_ranged tangent_syzygies tangent_generates v c

    -- The low members of the meet's module are the divided syzygies.
    pub meet_low_members : (v : ModuleVector) → IsLowMember block_high (IsMember VARIABLES (meet_generators n sector tangent)) v ↔ IsDividedSyzygy p n sector v
    unfolding gs
    meet_low_members v =
        let same = normal_module (high_block_laws VARIABLES) (meet_vectors n sector tangent) vectors_valid v in
        let members = meet_members p n sector few shape small gs tangent_ranged tangent_syzygies tangent_generates v in
        (λ h. members.0 (same.0 h.0, h.1), λ d. let h = members.1 d in (same.1 h.0, h.1))

    pub meet_reduced : (elements list : List ModuleVector) → IsGroebnerBasis high_block (IsMember VARIABLES (meet_generators n sector tangent)) elements
        → IsReducedLowBasis high_block VARIABLES block_high elements list → IsReducedBasis over_position VARIABLES (IsDividedSyzygy p n sector) list
    meet_reduced elements list groebner reduced =
        let Low = IsLowMember block_high (IsMember VARIABLES (meet_generators n sector tangent)) in
        IsReducedBasis-members over_position VARIABLES Low (IsDividedSyzygy p n sector) meet_low_members list
        (IsReducedBasis-order block_high high_block over_position (high_block_laws VARIABLES).total (over_position_laws VARIABLES).total
        (λ s t a b. λ i. ordering_then (bool_cmp (a i) (b i)) (over_position s t)) VARIABLES Low (λ v m. m.1) list (reduced (meet_generators n sector tangent) groebner))

    -- no generator is zero
    divisors_some : (i k : ℕ) → AllByRecursion (λ v. SameVector [] v → ⊥) (divisors_from sector i k)
    divisors_some i zero = (λ same. unit_some _ same, tt)
    divisors_some i (suc k) = (λ same. unit_some _ same, divisors_some (suc i) k)

    vectors_some : (v : ModuleVector) → Contains (meet_vectors n sector tangent) v → SameVector [] v → ⊥
    unfolding gs
    vectors_some v c same =
        ⊎_elim
        (λ (in_first : Contains (map doubled gs) v).
        let image = from_map doubled gs v in_first in
        let g = image.0 in
        monic_some g (tangent_monic g image.1.0)
        (doubled_is_zero g (low_of_range p n sector few shape small g (tangent_ranged g image.1.0)) (SameCoefficients-trans same (SameCoefficients-from_eq (sym image.1.1)))))
        (λ (in_second : Contains (divisors_from sector 0 n) v). by_recursion_each (λ v. SameVector [] v → ⊥) (divisors_from sector 0 n) v (divisors_some 0 n) in_second same)
        (Contains-append_cases (map doubled gs) (divisors_from sector 0 n) v c)

    pub generators_some : All (λ g. g ≢ []) (meet_generators n sector tangent)
    generators_some =
        All-weaker (Contains (meet_generators n sector tangent)) (λ g. g ≢ [])
        (λ g c none.
        let image = from_map (normal_form high_block) (meet_vectors n sector tangent) g c in
        vectors_some image.0 image.1.0 (SameVector-normal (high_block_laws VARIABLES) [] image.0 (sym (image.1.1 ∙ none))))
        (meet_generators n sector tangent) (All-contains_itself (meet_generators n sector tangent))

  pub length-meet_generators : (tangent : List StrippedField) → length (meet_generators n sector tangent) ≡ length tangent + n + 1
  length-meet_generators tangent =
      omega (
        arith,
        length-map (meet_vectors n sector tangent) (normal_form high_block),
        length-append (map doubled (map field_vector tangent)) (divisors_from sector 0 n),
        length-map (map field_vector tangent) doubled,
        length-map tangent field_vector,
        length-divisors sector 0 n,
      )

  -- ---- the stripped fields

  module _ (list : List ModuleVector) (h : IsReducedBasis over_position VARIABLES (IsDividedSyzygy p n sector) list) where
    list_monic : (g : ModuleVector) → Contains list g → IsMonicVector over_position VARIABLES g
    list_monic g c = All-contains (IsMonicVector over_position VARIABLES) list g h.monic c

    list_divided : (g : ModuleVector) → Contains list g → IsDividedSyzygy p n sector g
    list_divided g c = All-contains (IsDividedSyzygy p n sector) list g h.basis.members c

    list_terms : (g : ModuleVector) → Contains list g → AllKeys (IsDividedTerm n sector) g
    list_terms g c = divided_canonical p n sector few shape small g (list_monic g c).canonical (list_divided g c)

    pub divided_list : All (AllKeys (IsDividedTerm n sector)) list
    divided_list = All-weaker (Contains list) (AllKeys (IsDividedTerm n sector)) list_terms list (All-contains_itself list)

    list_syzygies : (g : ModuleVector) → Contains list g → IsSyzygy VARIABLES (sector_factors p n 0) g
    list_syzygies g c =
        let d = list_divided g c in
        (IsSubmodule-IsSyzygy VARIABLES (sector_factors p n 0) (polynomials p n 0 few shape) (few_factors p n 0 few shape)).same d.terms g (SameCoefficients-sym d.same) d.syzygy

    list_generates : (v : ModuleVector) → IsDividedSyzygy p n sector v → IsMember VARIABLES list v
    list_generates v d =
        generated (IsDividedSyzygy p n sector) (IsSubmodule-IsDividedSyzygy p n sector few shape small) list h.monic h.basis v d.terms d.same
        (range_terms n few d.terms (divided_in_range n sector few small d.terms d.divided)) d

    -- The stripped vectors generate the syzygies of the sector.
    pub stripped_generate : (v : ModuleVector) → IsMember VARIABLES (stripped_generators sector list) v ↔ IsSyzygy VARIABLES (sector_factors p n sector) v
    stripped_generate v =
        let same = normal_module (over_position_laws VARIABLES) (map (stripped sector) list) (stripped_valid p n sector few shape small list list_terms list_syzygies list_generates) v in
        let members = stripped_members p n sector few shape small list list_terms list_syzygies list_generates v in
        (λ m. members.0 (same.0 m), λ s. same.1 (members.1 s))

    everything_low : (v : ModuleVector) → AllKeys (λ t. nothing_high t.0 ≡ false) v
    everything_low [] = tt
    everything_low (t ∷ v) = (refl, everything_low v)

    pub stripped_reduced : (elements reduced : List ModuleVector) → IsGroebnerBasis over_position (IsMember VARIABLES (stripped_generators sector list)) elements
        → IsReducedLowBasis over_position VARIABLES nothing_high elements reduced → IsReducedBasis over_position VARIABLES (IsSyzygy VARIABLES (sector_factors p n sector)) reduced
    stripped_reduced elements reduced groebner low =
        let Low = IsLowMember nothing_high (IsMember VARIABLES (stripped_generators sector list)) in
        IsReducedBasis-members over_position VARIABLES Low (IsSyzygy VARIABLES (sector_factors p n sector))
        (λ v. (
          λ m. (stripped_generate v).0 m.0,
          λ s. ((stripped_generate v).1 s, record { low_terms = v; low = everything_low v; same = SameCoefficients-refl same_term v }),
        ))
        reduced (low (stripped_generators sector list) groebner)

    stripped_not_zero : (g : ModuleVector) → Contains list g → SameVector [] (stripped sector g) → ⊥
    stripped_not_zero g c same =
        let terms = list_terms g c in
        let moved : SameVector [] (map_keys (unstripped_term sector) (stripped sector g)) =
        SameCoefficients-map_keys same_term terms_decide same_term terms_decide (unstripped_term sector) {f = []} {g = stripped sector g} same
        in
        monic_some g (list_monic g c) (SameCoefficients-trans moved (SameCoefficients-from_eq (unstripped_vector n sector few small g terms)))

    pub stripped_some : All (λ g. g ≢ []) (stripped_generators sector list)
    stripped_some =
        All-weaker (Contains (stripped_generators sector list)) (λ g. g ≢ [])
        (λ g c none.
        let image = from_map (normal_form over_position) (map (stripped sector) list) g c in
        let before = from_map (stripped sector) list image.0 image.1.0 in
        stripped_not_zero before.0 before.1.0
        (SameCoefficients-trans (SameVector-normal (over_position_laws VARIABLES) [] image.0 (sym (image.1.1 ∙ none))) (SameCoefficients-from_eq (sym before.1.1))))
        (stripped_generators sector list) (All-contains_itself (stripped_generators sector list))

  pub length-stripped_generators : (list : List ModuleVector) → length (stripped_generators sector list) ≡ length list
  length-stripped_generators list = omega (arith, length-map (map (stripped sector) list) (normal_form over_position), length-map list (stripped sector))

  -- ---- as the code has them

  pub meet_list_reduced : (tangent : List StrippedField) → IsSectorBasis p n 0 tangent → (gens elements list : List ModuleVector) → gens ≡ meet_generators n sector tangent
      → IsGroebnerBasis high_block (IsMember VARIABLES gens) elements → IsReducedLowBasis high_block VARIABLES block_high elements list → IsReducedBasis over_position VARIABLES (IsDividedSyzygy p n sector) list
  meet_list_reduced tangent basis gens elements list is groebner reduced =
      meet_reduced tangent basis elements list (subst (λ (g : List ModuleVector). IsGroebnerBasis high_block (IsMember VARIABLES g) elements) is groebner) reduced

  pub stripped_list_reduced : (list : List ModuleVector) → IsReducedBasis over_position VARIABLES (IsDividedSyzygy p n sector) list → (gens elements reduced : List ModuleVector) → gens ≡ stripped_generators sector list
      → IsGroebnerBasis over_position (IsMember VARIABLES gens) elements → IsReducedLowBasis over_position VARIABLES nothing_high elements reduced
      → IsReducedBasis over_position VARIABLES (IsSyzygy VARIABLES (sector_factors p n sector)) reduced
  stripped_list_reduced list h gens elements reduced is groebner low =
      stripped_reduced list h elements reduced (subst (λ (g : List ModuleVector). IsGroebnerBasis over_position (IsMember VARIABLES g) elements) is groebner) low

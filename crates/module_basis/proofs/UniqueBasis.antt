-- At most one list is the reduced basis of a submodule.
use Rattle.std.proofs.Common.{◌≡◌, ◌≢◌, ℕ, zero, suc, ◌+◌, ◌*◌, ◌%◌, ◌<◌, Bool, true, false, ◌==◌, ◌⊎◌, inl, inr, length, get_or, List, [], ◌∷◌, ◌++◌, sym, refl, ap, subst, ◌∙◌, arith}
use Rattle.std.specs.Prelude.{nat_eq}
use Rattle.std.specs.List.{Contains}
use Rattle.std.specs.declared.cmp.Ordering.{Ordering}
use Rattle.std.specs.declared.cmp.Ordering.TheVariants.{Less, Equal, Greater}
use Rattle.std.proofs.lemmas.Bool.Decides.{Decides-eqb, not_from_Decides}
use Rattle.std.proofs.lemmas.List.{get_or_default}
use Rattle.std.proofs.lemmas.List.Elements.{All-contains}
use Rattle.ibp_algebra.specs.FormalSum.{weighted_sum, coefficient, AllKeys, IsCanonical, scale, normal_form}
use Rattle.ibp_algebra.proofs.Weights.{unit_weight, weighted_sum-append, weighted_sum-scale}
use Rattle.ibp_algebra.proofs.SumLaws.{SameCoefficients-sym}
use Rattle.ibp_algebra.proofs.Canonical.{Less-reverse, Greater-reverse, same_canonical}
use Rattle.ibp_algebra.proofs.NormalForm.{IsCanonical-normal_form, SameCoefficients-normal_form}
use Rattle.mono_order.specs.Term.{Term, same_term, divides, IsTerm}
use Rattle.mono_order.specs.TermOrder.{IsTermOrder}
use Rattle.mono_order.proofs.Terms.{terms_decide, divides-trans, divides-antisymmetric, divides-order}
use Rattle.module_vec.specs.ModuleVector.{ModuleVector, lead, lead_coefficient, IsMonicVector, IsSubmodule, HasDivisor}
use Rattle.module_vec.proofs.Multiples.{AllKeys-coefficient, IsTerm-lead, coefficient_at_lead, coefficient_above_lead}
use Rattle.module_basis.specs.GroebnerBasis.{IsReducedBasis, AscendsByLead}

module _ {variables : ℕ} {order : Term → Term → Ordering} {high : ℕ → Bool} {height : Term → ℕ} {bound : ℕ}
    (laws : IsTermOrder variables order high height bound) where
  -- ---- lists that ascend and have the same elements

  less_greater : (s t : Term) → order s t ≡ Less → order t s ≡ Less → ⊥
  less_greater s t h k = let l = Greater-reverse order laws.total s t h in let clash : Less ≡ Greater = sym k ∙ l in cc

  not_less_itself : (s : Term) → order s s ≡ Less → ⊥
  not_less_itself s h = less_greater s s h h

  ascends_tail : (x : ModuleVector) (xs : List ModuleVector) → AscendsByLead order (x ∷ xs) → AscendsByLead order xs
  ascends_tail x xs h i below j less = h (suc i) (omega arith) (suc j) (omega arith)

  first_below : (x : ModuleVector) (xs : List ModuleVector) → AscendsByLead order (x ∷ xs) → (g : ModuleVector) (k : ℕ) → k < length xs → get_or xs k g ≡ g → order (lead x) (lead g) ≡ Less
  first_below x xs h g k below is =
      let at : get_or xs k [] ≡ g = get_or_default xs k [] g below ∙ is in
      ap (λ (y : ModuleVector). order (lead x) (lead y)) (sym at) ∙ h (suc k) (omega arith) 0 (omega arith)

  contains_split : (x : ModuleVector) (xs : List ModuleVector) → AscendsByLead order (x ∷ xs) → (g : ModuleVector) → Contains (x ∷ xs) g
      → (x ≡ g) ⊎ (Contains xs g × (order (lead x) (lead g) ≡ Less))
  contains_split x xs h g c =
      elim c.0 as (λ k. k < length (x ∷ xs) → get_or (x ∷ xs) k g ≡ g → (x ≡ g) ⊎ (Contains xs g × (order (lead x) (lead g) ≡ Less))) [
        | zero ↦ λ below is. inl is
        | suc k ↦ λ below is. let within : k < length xs = omega arith in inr ((k, within, is), first_below x xs h g k within is)
      ] c.1 c.2

  first_contained : (x : ModuleVector) (xs : List ModuleVector) → Contains (x ∷ xs) x
  first_contained x xs = (0, omega arith, refl)

  later_contained : (x : ModuleVector) (xs : List ModuleVector) (g : ModuleVector) → Contains xs g → Contains (x ∷ xs) g
  later_contained x xs g h = (suc h.0, omega (arith, h.1), h.2)

  -- the first elements are equal
  same_first : (x y : ModuleVector) (xs ys : List ModuleVector) → AscendsByLead order (x ∷ xs) → AscendsByLead order (y ∷ ys) → Contains (y ∷ ys) x → Contains (x ∷ xs) y → x ≡ y
  same_first x y xs ys p q h k =
      elim (contains_split y ys q x h) as (λ c. x ≡ y) [
        | inl is ↦ sym is
        | inr below ↦
            elim (contains_split x xs p y k) as (λ c. x ≡ y) [
              | inl is ↦ is
              | inr above ↦ absurd (less_greater (lead y) (lead x) below.1 above.1)
            ]
      ]

  -- an element of the rest of one list is in the rest of the other
  in_rest : (x : ModuleVector) (xs ys : List ModuleVector) → AscendsByLead order (x ∷ xs) → AscendsByLead order (x ∷ ys) → ((g : ModuleVector) → Contains (x ∷ xs) g → Contains (x ∷ ys) g)
      → (g : ModuleVector) → Contains xs g → Contains ys g
  in_rest x xs ys p q within g h =
      elim (contains_split x ys q g (within g (later_contained x xs g h))) as (λ c. Contains ys g) [
        | inl is ↦ absurd (not_less_itself (lead g) (ap (λ (y : ModuleVector). order (lead y) (lead g)) (sym is) ∙ first_below x xs p g h.0 h.1 h.2))
        | inr c ↦ c.0
      ]

  same_lists : (xs ys : List ModuleVector) → AscendsByLead order xs → AscendsByLead order ys → ((g : ModuleVector) → Contains xs g → Contains ys g)
      → ((g : ModuleVector) → Contains ys g → Contains xs g) → xs ≡ ys
  same_lists [] [] p q h k = refl
  same_lists [] (y ∷ ys) p q h k = absurd (let c = k y (first_contained y ys) in omega (arith, c.1))
  same_lists (x ∷ xs) [] p q h k = absurd (let c = h x (first_contained x xs) in omega (arith, c.1))
  same_lists (x ∷ xs) (y ∷ ys) p q h k =
      let is : x ≡ y = same_first x y xs ys p q (h x (first_contained x xs)) (k y (first_contained y ys)) in
      let q' : AscendsByLead order (x ∷ ys) = subst (λ (z : ModuleVector). AscendsByLead order (z ∷ ys)) (sym is) q in
      let h' : (g : ModuleVector) → Contains (x ∷ xs) g → Contains (x ∷ ys) g = subst (λ (z : ModuleVector). (g : ModuleVector) → Contains (x ∷ xs) g → Contains (z ∷ ys) g) (sym is) h in
      let k' : (g : ModuleVector) → Contains (x ∷ ys) g → Contains (x ∷ xs) g = subst (λ (z : ModuleVector). (g : ModuleVector) → Contains (z ∷ ys) g → Contains (x ∷ xs) g) (sym is) k in
      let rest =
      same_lists xs ys (ascends_tail x xs p) (ascends_tail x ys q') (λ g c. in_rest x xs ys p q' h' g c) (λ g c. in_rest x ys xs q' p k' g c)
      in
      λ i. is i ∷ rest i

  -- ---- vectors of reduced bases

  module _ (Member : ModuleVector → Type 0) (submodule : IsSubmodule variables Member) where
    monic_at : (list : List ModuleVector) → IsReducedBasis order variables Member list → (g : ModuleVector) → Contains list g → IsMonicVector order variables g
    monic_at list basis g c = All-contains (IsMonicVector order variables) list g basis.monic c

    place_is : (list : List ModuleVector) (g : ModuleVector) (c : Contains list g) → get_or list c.0 [] ≡ g
    place_is list g c = get_or_default list c.0 [] g c.1 ∙ c.2

    -- no lesser term of an element is divisible by a lead
    no_lower : (list : List ModuleVector) → IsReducedBasis order variables Member list → (g : ModuleVector) → Contains list g → (t : Term) → coefficient same_term g t ≢ 0
        → order (lead g) t ≡ Greater → IsTerm variables t → HasDivisor list t → ⊥
    no_lower list basis g c t present below valid divisor =
        let a = divisor.0 in
        elim (nat_eq divisor.1.0 c.0) as (λ b. nat_eq divisor.1.0 c.0 ≡ b → ⊥) [
          | true ↦ λ e.
              let same_place : divisor.1.0 ≡ c.0 = (Decides-eqb divisor.1.0 c.0).0 e in
              let same : a ≡ g = sym (place_is list a divisor.1) ∙ ap (λ k. get_or list k []) same_place ∙ place_is list g c in
              let is_monic = monic_at list basis g c in
              let lead_valid = IsTerm-lead laws g is_monic.monic is_monic.terms in
              divides-order laws (lead g) t lead_valid.exponents valid.exponents (ap (λ (x : ModuleVector). divides (lead x) t) (sym same) ∙ divisor.2)
              (Less-reverse order laws.total (lead g) t below)
          | false ↦ λ e.
              let apart : divisor.1.0 ≢ c.0 = not_from_Decides _ (Decides-eqb divisor.1.0 c.0) e in
              let none = basis.reduced divisor.1.0 c.0 divisor.1.1 c.1 apart in
              let none_here : AllKeys (λ u. divides (lead a) u ≡ false) g = rw (place_is list a divisor.1, place_is list g c) at none in
              let not = AllKeys-coefficient (λ u. divides (lead a) u ≡ false) g none_here t present in
              let clash : true ≡ false = sym divisor.2 ∙ not in
              cc
        ] refl

    -- the difference of two elements with one lead
    IsDifference : ModuleVector → ModuleVector → ModuleVector → Type 0
    IsDifference g h d =
        (k : Term) → coefficient same_term d k ≡ (weighted_sum (unit_weight same_term k) g + 2147483646 * weighted_sum (unit_weight same_term k) h) % 2147483647

    difference_lead : (g h : ModuleVector) → IsMonicVector order variables g → IsMonicVector order variables h → lead g ≡ lead h → (t : Term)
        → (weighted_sum (unit_weight same_term t) g + 2147483646 * weighted_sum (unit_weight same_term t) h) % 2147483647 ≢ 0 → order (lead g) t ≡ Greater
    difference_lead g h first second same t present =
        elim (order (lead g) t) as (λ r. order (lead g) t ≡ r → order (lead g) t ≡ Greater) [
          | Less ↦ λ e.
              let above = Greater-reverse order laws.total (lead g) t e in
              let a = coefficient_above_lead laws g first.canonical t above in
              let b = coefficient_above_lead laws h second.canonical t (ap (order t) (sym same) ∙ above) in
              absurd (present (omega (arith, a, b)))
          | Equal ↦ λ e.
              let is : lead g ≡ t = laws.unique (lead g) t e in
              let a : coefficient same_term g t ≡ 1 = ap (coefficient same_term g) (sym is) ∙ coefficient_at_lead laws g first.canonical ∙ first.monic in
              let b : coefficient same_term h t ≡ 1 = ap (coefficient same_term h) (sym is ∙ same) ∙ coefficient_at_lead laws h second.canonical ∙ second.monic in
              absurd (present (omega (arith, a, b)))
          | Greater ↦ λ e. e
        ] refl

    from_difference : (first_list second_list : List ModuleVector) → IsReducedBasis order variables Member first_list → IsReducedBasis order variables Member second_list
        → (g h : ModuleVector) → Contains first_list g → Contains second_list h → lead g ≡ lead h → (d : ModuleVector) → IsCanonical order d → Member d → IsDifference g h d → g ≡ h
    unfolding IsDifference
    from_difference first_list second_list first second g h in_first in_second same [] c member is =
        same_canonical order laws.total same_term terms_decide laws.unique g h (monic_at first_list first g in_first).canonical (monic_at second_list second h in_second).canonical
        (record { same_at = λ k. omega (arith, is k) })
    from_difference first_list second_list first second g h in_first in_second same (t ∷ d) c member is =
        let g_monic = monic_at first_list first g in_first in
        let h_monic = monic_at second_list second h in_second in
        let present : coefficient same_term (t ∷ d) t.0 ≢ 0 = λ zero. omega (arith, zero, coefficient_at_lead laws (t ∷ d) c, c.0) in
        let below = difference_lead g h g_monic h_monic same t.0 (λ zero. present (is t.0 ∙ zero)) in
        let not_zero : t ∷ d ≢ [] = λ e. cc in
        absurd
        (elim (coefficient same_term g t.0 == 0) as (λ b. (coefficient same_term g t.0 == 0) ≡ b → ⊥) [
          | true ↦ λ e.
              let zero : coefficient same_term g t.0 ≡ 0 = (Decides-eqb (coefficient same_term g t.0) 0).0 e in
              let there : coefficient same_term h t.0 ≢ 0 = λ none. present (omega (arith, is t.0, zero, none)) in
              no_lower second_list second h in_second t.0 there (ap (λ s. order s t.0) (sym same) ∙ below)
              (AllKeys-coefficient (IsTerm variables) h h_monic.terms t.0 there) (second.basis.divisible (t ∷ d) c not_zero member)
          | false ↦ λ e.
              let there : coefficient same_term g t.0 ≢ 0 = not_from_Decides _ (Decides-eqb (coefficient same_term g t.0) 0) e in
              no_lower first_list first g in_first t.0 there below
              (AllKeys-coefficient (IsTerm variables) g g_monic.terms t.0 there) (first.basis.divisible (t ∷ d) c not_zero member)
        ] refl)

    same_element : (first_list second_list : List ModuleVector) → IsReducedBasis order variables Member first_list → IsReducedBasis order variables Member second_list
        → (g h : ModuleVector) → Contains first_list g → Contains second_list h → lead g ≡ lead h → g ≡ h
    unfolding IsDifference
    same_element first_list second_list first second g h in_first in_second same =
        let sum = g ++ scale 2147483646 h in
        let is_same = SameCoefficients-normal_form order laws.total laws.unique same_term terms_decide sum in
        from_difference first_list second_list first second g h in_first in_second same (normal_form order sum) (IsCanonical-normal_form order laws.total laws.unique sum)
        (submodule.same sum (normal_form order sum) (SameCoefficients-sym is_same)
        (submodule.sum g _ (All-contains Member first_list g first.basis.members in_first)
        (submodule.scaled 2147483646 h (All-contains Member second_list h second.basis.members in_second))))
        (λ k. is_same.same_at k ∙ ap (λ n. n % 2147483647) (weighted_sum-append (unit_weight same_term k) g (scale 2147483646 h) ∙ ap (λ n. weighted_sum (unit_weight same_term k) g + n) (weighted_sum-scale (unit_weight same_term k) 2147483646 h)))

    -- two leads of one list, where the first divides the second, are one
    same_divisor : (list : List ModuleVector) → IsReducedBasis order variables Member list → (a g : ModuleVector) → Contains list a → Contains list g → divides (lead a) (lead g) ≡ true → a ≡ g
    same_divisor list basis a g in_a in_g d =
        elim (nat_eq in_a.0 in_g.0) as (λ b. nat_eq in_a.0 in_g.0 ≡ b → a ≡ g) [
          | true ↦ λ e. let same_place : in_a.0 ≡ in_g.0 = (Decides-eqb in_a.0 in_g.0).0 e in sym (place_is list a in_a) ∙ ap (λ k. get_or list k []) same_place ∙ place_is list g in_g
          | false ↦ λ e.
              let apart : in_a.0 ≢ in_g.0 = not_from_Decides _ (Decides-eqb in_a.0 in_g.0) e in
              let none = basis.reduced in_a.0 in_g.0 in_a.1 in_g.1 apart in
              let none_here : AllKeys (λ u. divides (lead a) u ≡ false) g = rw (place_is list a in_a, place_is list g in_g) at none in
              let is_monic = monic_at list basis g in_g in
              let present : coefficient same_term g (lead g) ≢ 0 = λ zero. omega (arith, zero, coefficient_at_lead laws g is_monic.canonical, is_monic.monic) in
              let not = AllKeys-coefficient (λ u. divides (lead a) u ≡ false) g none_here (lead g) present in
              let clash : true ≡ false = sym d ∙ not in
              cc
        ] refl

    divides_from : (a b g : ModuleVector) → a ≡ g → divides (lead a) (lead b) ≡ true → divides (lead g) (lead b) ≡ true
    divides_from a b g e d = ap (λ (x : ModuleVector). divides (lead x) (lead b)) (sym e) ∙ d

    not_empty : (g : ModuleVector) → lead_coefficient g ≡ 1 → g ≢ []
    not_empty [] e z = absurd (omega arith)
    not_empty (t ∷ g) e z = cc

    -- each element of the one is in the other
    contained : (first_list second_list : List ModuleVector) → IsReducedBasis order variables Member first_list → IsReducedBasis order variables Member second_list
        → (g : ModuleVector) → Contains first_list g → Contains second_list g
    contained first_list second_list first second g in_first =
        let g_monic = monic_at first_list first g in_first in
        let b = second.basis.divisible g g_monic.canonical (not_empty g g_monic.monic) (All-contains Member first_list g first.basis.members in_first) in
        let b_monic = monic_at second_list second b.0 b.1 in
        let a = first.basis.divisible b.0 b_monic.canonical (not_empty b.0 b_monic.monic) (All-contains Member second_list b.0 second.basis.members b.1) in
        let a_is : a.0 ≡ g = same_divisor first_list first a.0 g a.1 in_first (divides-trans (lead a.0) (lead b.0) (lead g) a.2 b.2) in
        let g_lead = IsTerm-lead laws g g_monic.monic g_monic.terms in
        let b_lead = IsTerm-lead laws b.0 b_monic.monic b_monic.terms in
        let leads : lead g ≡ lead b.0 =
        divides-antisymmetric variables (lead g) (lead b.0) g_lead.exponents b_lead.exponents (divides_from a.0 b.0 g a_is a.2) b.2
        in
        subst (λ (x : ModuleVector). Contains second_list x) (sym (same_element first_list second_list first second g b.0 in_first b.1 leads)) b.1

    -- At most one list is the reduced basis.
    pub reduced_basis_unique : (first_list second_list : List ModuleVector) → IsReducedBasis order variables Member first_list → IsReducedBasis order variables Member second_list → first_list ≡ second_list
    reduced_basis_unique first_list second_list first second =
        same_lists first_list second_list first.ascends second.ascends (contained first_list second_list first second) (contained second_list first_list second first)

-- A reduced basis of low vectors depends on the order of low terms alone, and on the set of members alone.
use Rattle.std.proofs.Common.{◌≡◌, ◌≢◌, ℕ, ◌<◌, Bool, false, ◌↔◌, length, get_or, List, [], ◌∷◌, sym, refl, ◌∙◌, arith}
use Rattle.std.specs.List.{Contains}
use Rattle.std.specs.Cmp.{IsTotalOrder}
use Rattle.std.specs.declared.cmp.Ordering.{Ordering}
use Rattle.std.proofs.lemmas.List.Elements.{All-contains, All-weaker, All-contains_itself, Contains-get_or}
use Rattle.ibp_algebra.specs.FormalSum.{AllKeys, AllBelow, IsCanonical}
use Rattle.ibp_algebra.proofs.Terms.{AllKeys-canonical}
use Rattle.mono_order.specs.Term.{Term, same_term}
use Rattle.mono_order.proofs.Terms.{terms_decide}
use Rattle.module_vec.specs.ModuleVector.{ModuleVector, lead, lead_coefficient, IsMonicVector, IsLow}
use Rattle.module_vec.proofs.Multiples.{AllKeys-coefficient}
use Rattle.module_basis.specs.GroebnerBasis.{IsReducedBasis}

-- sets with the same members have the same reduced basis
pub IsReducedBasis-members : (order : Term → Term → Ordering) (variables : ℕ) (Member Other : ModuleVector → Type 0) → ((v : ModuleVector) → Member v ↔ Other v) → (list : List ModuleVector)
    → IsReducedBasis order variables Member list → IsReducedBasis order variables Other list
IsReducedBasis-members order variables Member Other same list h =
    record {
      ascends = h.ascends;
      monic = h.monic;
      basis = record {
        members = All-weaker Member Other (λ v m. (same v).0 m) list h.basis.members;
        divisible = λ v c not_zero m. h.basis.divisible v c not_zero ((same v).1 m);
      };
      reduced = h.reduced;
    }

module _ (high : ℕ → Bool) (order other : Term → Term → Ordering) (total : IsTotalOrder other) (first_total : IsTotalOrder order)
    (agree : (s t : Term) → high s.0 ≡ false → high t.0 ≡ false → order s t ≡ other s t) where
  below_change : (t : Term) (v : ModuleVector) → high t.0 ≡ false → AllKeys (λ u. high u.0 ≡ false) v → AllBelow order t v → AllBelow other t v
  below_change t [] low h k = tt
  below_change t (u ∷ v) low h k = (sym (agree t u.0 low h.0) ∙ k.0, below_change t v low h.1 k.1)

  canonical_change : (v : ModuleVector) → AllKeys (λ u. high u.0 ≡ false) v → IsCanonical order v → IsCanonical other v
  canonical_change [] h c = tt
  canonical_change (t ∷ v) h c = (c.0, c.1, below_change t.0 v h.0 h.1 c.2, canonical_change v h.1 c.3)

  -- the terms of a canonical low vector are low
  low_terms : (v : ModuleVector) → IsCanonical order v → IsLow high v → AllKeys (λ u. high u.0 ≡ false) v
  low_terms v c h =
      AllKeys-canonical same_term terms_decide order first_total (λ u. high u.0 ≡ false) v c
      (λ t not_zero. AllKeys-coefficient (λ u. high u.0 ≡ false) h.low_terms h.low t (λ none. not_zero (h.same.same_at t ∙ none)))

lead_low : (high : ℕ → Bool) (v : ModuleVector) → v ≢ [] → AllKeys (λ u. high u.0 ≡ false) v → high (lead v).0 ≡ false
lead_low high [] not_zero h = absurd (not_zero refl)
lead_low high (t ∷ v) not_zero h = h.0

not_empty : (v : ModuleVector) → lead_coefficient v ≡ 1 → v ≢ []
not_empty [] e z = absurd (omega arith)
not_empty (t ∷ v) e z = cc

-- Orders that agree on low terms have the same reduced basis of a set of low vectors.
pub IsReducedBasis-order : (high : ℕ → Bool) (order other : Term → Term → Ordering) → IsTotalOrder order → IsTotalOrder other
    → ((s t : Term) → high s.0 ≡ false → high t.0 ≡ false → order s t ≡ other s t) → (variables : ℕ) (Member : ModuleVector → Type 0) → ((v : ModuleVector) → Member v → IsLow high v)
    → (list : List ModuleVector) → IsReducedBasis order variables Member list → IsReducedBasis other variables Member list
IsReducedBasis-order high order other first second agree variables Member are_low list h =
    let low_at = λ (g : ModuleVector) (c : Contains list g).
    low_terms high order other second first agree g (All-contains (IsMonicVector order variables) list g h.monic c).canonical (are_low g (All-contains Member list g h.basis.members c))
    in
    let lead_at = λ (i : ℕ) (below : i < length list).
    let c = Contains-get_or list i [] below in
    lead_low high (get_or list i []) (not_empty (get_or list i []) (All-contains (IsMonicVector order variables) list (get_or list i []) h.monic c).monic) (low_at (get_or list i []) c)
    in
    record {
      ascends = λ i below j less.
          sym (agree (lead (get_or list j [])) (lead (get_or list i [])) (lead_at j (omega (arith, below, less))) (lead_at i below)) ∙ h.ascends i below j less;
      monic = All-weaker (Contains list) (IsMonicVector other variables)
          (λ g c.
          let m = All-contains (IsMonicVector order variables) list g h.monic c in
          record { canonical = canonical_change high order other second first agree g (low_at g c) m.canonical; terms = m.terms; monic = m.monic })
          list (All-contains_itself list);
      basis = record {
        members = h.basis.members;
        divisible = λ v c not_zero m.
            let back = λ (s t : Term) (a : high s.0 ≡ false) (b : high t.0 ≡ false). sym (agree s t a b) in
            let terms = low_terms high other order first second back v c (are_low v m) in
            h.basis.divisible v (canonical_change high other order first second back v terms c) not_zero m;
      };
      reduced = h.reduced;
    }

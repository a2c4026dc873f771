-- A canonical sum from which the term at one place was eliminated keeps the terms before that place, and
-- the others are below it.
use Rattle.std.proofs.Common.{◌≡◌, ℕ, zero, suc, ◌*◌, ◌<◌, Bool, false, if◌then◌else◌, [], ◌∷◌, length, get_or, take, drop, sym, refl, ap, subst, ◌∙◌, arith}
use Rattle.std.specs.Ordering.{eq_by_cmp, is_eq}
use Rattle.std.specs.declared.cmp.Ordering.{Ordering}
use Rattle.std.specs.declared.cmp.Ordering.TheVariants.{Less, Equal, Greater}
use Rattle.std.specs.Cmp.{IsTotalOrder}
use Rattle.std.specs.FinMap.{IsAntisymmetric}
use Rattle.ibp_algebra.specs.FormalSum.{FormalSum, AllBelow, IsCanonical}
use Rattle.ibp_algebra.proofs.Canonical.{AllBelow-trans, Greater-reverse, Greater-trans}
use Rattle.ibp_algebra.specs.Spans.{coefficient_by, IsLead}
use Rattle.ibp_algebra.proofs.Leads.{IsLead-canonical}
use Rattle.ibp_algebra.proofs.Lookups.{AllKeys-place, coefficient-at_place}

module _ {K : Type 0} (order : K → K → Ordering) (total : IsTotalOrder order) (unique : IsAntisymmetric order) where
  abbrev same : K → K → Bool
  same = eq_by_cmp order

  -- a canonical sum with no coefficient from a key on is below it
  pub AllBelow-from_zero : (key : K) (g : FormalSum K) → IsCanonical order g → ((k : K) → order k key ≡ Greater → coefficient_by order g k ≡ 0)
      → coefficient_by order g key ≡ 0 → AllBelow order key g
  AllBelow-from_zero key [] h above here = tt
  AllBelow-from_zero key (u ∷ g) h above here =
      let lead = IsLead-canonical order total unique u g h in
      elim (order key u.0) as (λ r. order key u.0 ≡ r → AllBelow order key (u ∷ g)) [
        | Less ↦ λ e. absurd (lead.occurs (above u.0 (Greater-reverse order total key u.0 e)))
        | Equal ↦ λ e. absurd (lead.occurs (ap (coefficient_by order (u ∷ g)) (sym (unique key u.0 e)) ∙ here))
        | Greater ↦ λ e. (e, AllBelow-trans order total key u.0 g e h.2)
      ] refl

  not_same : (a b : K) → order a b ≡ Greater → (value : ℕ) → value * (if same a b then 1 else 0) ≡ 0
  not_same a b e value = let other : same a b ≡ false = ap is_eq e in rw other (omega arith)

  -- the sums behind one and the same first term
  tails_agree : (t u : K × ℕ) (f g : FormalSum K) (k : K) → t ≡ u → coefficient_by order (u ∷ g) k ≡ coefficient_by order (t ∷ f) k → coefficient_by order g k ≡ coefficient_by order f k
  tails_agree t u f g k is e = omega (arith, e, ap (λ (v : K × ℕ). v.1 * (if same v.0 k then 1 else 0)) is)

  same_value : (t u : K × ℕ) (f g : FormalSum K) → IsCanonical order (t ∷ f) → IsCanonical order (u ∷ g) → t.0 ≡ u.0
      → coefficient_by order (u ∷ g) t.0 ≡ coefficient_by order (t ∷ f) t.0 → t.1 ≡ u.1
  same_value t u f g p q one e =
      sym (coefficient-at_place order total unique (t ∷ f) 0 t p (omega arith)) ∙ sym e
      ∙ ap (coefficient_by order (u ∷ g)) one ∙ coefficient-at_place order total unique (u ∷ g) 0 u q (omega arith)

  pub prefix_kept : (key : K) (f g : FormalSum K) (at : ℕ) (d : K × ℕ) → IsCanonical order f → IsCanonical order g → at < length f → (get_or f at d).0 ≡ key
      → ((k : K) → order k key ≡ Greater → coefficient_by order g k ≡ coefficient_by order f k) → coefficient_by order g key ≡ 0
      → (take at g ≡ take at f) × AllBelow order key (drop at g)
  prefix_kept key [] g at d p q within is agree here = absurd (omega arith)
  prefix_kept key (t ∷ f) g zero d p q within is agree here =
      let lead = subst (IsLead order (t ∷ f)) is (IsLead-canonical order total unique t f p) in
      (refl, AllBelow-from_zero key g q (λ k above. agree k above ∙ lead.highest k above) here)
  prefix_kept key (t ∷ f) [] (suc at) d p q within is agree here =
      let above : order t.0 key ≡ Greater = subst (λ k. order t.0 k ≡ Greater) is (AllKeys-place (λ k. order t.0 k ≡ Greater) f at d p.2 (omega arith)) in
      absurd ((IsLead-canonical order total unique t f p).occurs (sym (agree t.0 above)))
  prefix_kept key (t ∷ f) (u ∷ g) (suc at) d p q within is agree here =
      let above : order t.0 key ≡ Greater = subst (λ k. order t.0 k ≡ Greater) is (AllKeys-place (λ k. order t.0 k ≡ Greater) f at d p.2 (omega arith)) in
      let first = IsLead-canonical order total unique t f p in
      let second = IsLead-canonical order total unique u g q in
      elim (order t.0 u.0) as (λ r. order t.0 u.0 ≡ r → (take (suc at) (u ∷ g) ≡ take (suc at) (t ∷ f)) × AllBelow order key (drop (suc at) (u ∷ g))) [
        | Less ↦ λ e.
            let higher = Greater-reverse order total t.0 u.0 e in
            absurd (second.occurs (agree u.0 (Greater-trans order total u.0 t.0 key higher above) ∙ first.highest u.0 higher))
        | Equal ↦ λ e.
            let one : t.0 ≡ u.0 = unique t.0 u.0 e in
            let value : t.1 ≡ u.1 = same_value t u f g p q one (agree t.0 above) in
            let whole : t ≡ u = λ i. (one i, value i) in
            let lower : order u.0 key ≡ Greater = subst (λ k. order k key ≡ Greater) one above in
            let rest =
            prefix_kept key f g at d p.3 q.3 (omega arith) is (λ k higher. tails_agree t u f g k whole (agree k higher))
            (omega (arith, here, not_same u.0 key lower u.1))
            in
            ((λ i. sym whole i ∷ rest.0 i), rest.1)
        | Greater ↦ λ e. absurd (first.occurs (sym (agree t.0 above) ∙ second.highest t.0 e))
      ] refl

-- The remainder of a vector by a list of monic vectors is the textbook's.
use Rattle.std.proofs.Common.{◌≡◌, ◌≢◌, ℕ, Bool, true, false, List, [], ◌∷◌, sym, subst, ◌∙◌, arith}
use Rattle.std.specs.List.{Contains}
use Rattle.std.specs.declared.cmp.Ordering.{Ordering}
use Rattle.std.specs.declared.cmp.Ordering.TheVariants.{Less, Equal, Greater}
use Rattle.ibp_algebra.specs.FormalSum.{AllKeys, IsCanonical, scale}
use Rattle.ibp_algebra.specs.Combination.{combination}
use Rattle.ibp_algebra.proofs.Canonical.{order_refl}
use Rattle.ibp_algebra.proofs.Combinations.{AllKeys-weaker, AllKeys-both}
use Rattle.ibp_algebra.proofs.StandardRepresentations.{not_less-Greater}
use Rattle.ibp_algebra.proofs.Weights.{weighted_sum-append, weighted_sum-scale, weighted_sum-SameCoefficients, SameCoefficients-from_weights}
use Rattle.mono_order.specs.Term.{Term, same_term}
use Rattle.mono_order.specs.TermOrder.{IsTermOrder}
use Rattle.mono_order.proofs.Terms.{terms_decide}
use Rattle.module_vec.specs.ModuleVector.{ModuleVector, lead, multiple_value, multiple_lead, IsMultipleOf, IsVector, IsMonicVector}
use Rattle.module_vec.specs.Division.{Remainder, DividesTo, IsRemainder}
use Rattle.module_vec.proofs.Multiples.{IsMonicVector-multiply, lead-multiply}
use Rattle.module_vec.proofs.DivisionLaws.{first_divisor-none, AllKeys-from_lead, divide_reduces}

module _ {variables : ℕ} {order : Term → Term → Ordering} {high : ℕ → Bool} {height : Term → ℕ} {bound : ℕ}
    (laws : IsTermOrder variables order high height bound) where
  greater_not_less : (t u : Term) → order t u ≡ Greater → order t u ≢ Less
  greater_not_less t u above below = let clash : Greater ≡ Less = sym above ∙ below in cc

  -- the terms that are not above a term
  NotAbove : Term → Term → Type 0
  NotAbove top t = order top t ≢ Less

  lower : (top t u : Term) → NotAbove top t → order t u ≡ Greater → NotAbove top u
  unfolding NotAbove
  lower top t u not_above below = greater_not_less top u (not_less-Greater order laws.total laws.unique top t u not_above below)

  own_terms : (v : ModuleVector) → IsCanonical order v → AllKeys (NotAbove (lead v)) v
  unfolding NotAbove
  own_terms [] c = tt
  own_terms (t ∷ v) c = (
    (λ below. let equal = order_refl order laws.total t.0 in let clash : Less ≡ Equal = sym below ∙ equal in cc),
    AllKeys-weaker _ _ (λ u above. greater_not_less t.0 u above) v c.2,
  )

  pub IsRemainder-from_division : (list : List ModuleVector) → ((g : ModuleVector) → Contains list g → IsMonicVector order variables g) → (v r : ModuleVector) (limit : ℕ)
      → IsVector order variables v → DividesTo order limit list v (Remainder r) → IsRemainder order variables list v r
  unfolding NotAbove
  IsRemainder-from_division list monic v r limit vector h =
      let top = lead v in
      let reduces = divide_reduces laws list monic limit h.steps (NotAbove top) (lower top) v r vector.canonical vector.terms (own_terms v vector.canonical) h.ends in
      let taken = combination multiple_value reduces.summands in
      record {
        vector = record { canonical = reduces.canonical; terms = reduces.terms };
        undivided = AllKeys-weaker _ _ (λ t none d. let clash : true ≡ false = sym d.2 ∙ first_divisor-none list t none d.0 d.1 in cc) r reduces.reduced;
        summands = reduces.summands;
        multiples = reduces.multiples;
        not_above = AllKeys-weaker _ _ (λ k m.
            let generator = monic k.1 m.0.generator in
            let value = IsMonicVector-multiply laws k.0 k.1 m.0.exponents generator in
            AllKeys-from_lead laws list monic (NotAbove top) (lower top) (multiple_value k) value.canonical (subst (NotAbove top) (sym (lead-multiply laws k.0 k.1 generator.monic)) m.1))
            reduces.summands (AllKeys-both (IsMultipleOf variables list) (λ k. NotAbove top (multiple_lead k)) reduces.summands reduces.multiples reduces.leads);
        difference = SameCoefficients-from_weights same_term terms_decide _ _ (λ w.
            let whole = (weighted_sum-SameCoefficients same_term terms_decide w _ _ reduces.sum).same_residue in
            record { same_residue = omega (arith, whole, weighted_sum-append w r taken, weighted_sum-append w v (scale 2147483646 r), weighted_sum-scale w 2147483646 r) });
      }

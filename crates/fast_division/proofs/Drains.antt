-- The division that takes the lead off what is left: the settled terms are above all that is left, and how the rest
-- divides tells how the whole divides.
use Rattle.std.proofs.Common.{◌≡◌, ℕ, ◌+◌, ◌*◌, ◌%◌, ◌<◌, ◌≤◌, Bool, true, false, ◌||◌, Some, None, sum, length, drop, List, [], ◌∷◌, ◌++◌, sym, refl, ap, subst, ◌∙◌, arith}
use Rattle.std.specs.Prelude.{nat_lt, Result, Ok, Err, IfOk, OnOk}
use Rattle.std.specs.declared.cmp.Ordering.{Ordering}
use Rattle.std.proofs.lemmas.Bool.{le-ltb}
use Rattle.std.proofs.lemmas.List.{append-nil}
use Rattle.ibp_field.specs.Arithmetic.{IsCongruent, neg_mod}
use Rattle.ibp_field.proofs.Congruence.{IsCongruent-refl, IsCongruent-mul}
use Rattle.ibp_field.proofs.Inverse.{neg_mod-add}
use Rattle.ibp_algebra.specs.FormalSum.{weighted_sum, AllKeys, AllBelow, scale}
use Rattle.ibp_algebra.proofs.Weights.{weighted_sum-append, SameCoefficients-from_weights}
use Rattle.ibp_algebra.proofs.Canonical.{AllBelow-trans}
use Rattle.ibp_algebra.proofs.Combinations.{AllKeys-weaker, AllKeys-both}
use Rattle.ibp_algebra.proofs.ZeroDivisors.{AllKeys-append}
use Rattle.sparse_terms.proofs.Merging.{AllAbove, IsCanonical-append}
use Rattle.mono_order.specs.declared.limits.TheConstants.{VARIABLES, MONO_DEGREE, RUN_DEGREE}
use Rattle.mono_order.specs.Term.{Term, same_term, quotient_exponents, multiply_term, divides, IsTerm}
use Rattle.mono_order.specs.TermOrder.{IsTermOrder}
use Rattle.mono_order.proofs.Terms.{terms_decide, divides-quotient, length-quotient}
use Rattle.module_vec.specs.ModuleVector.{ModuleVector, multiply_vector, lead, IsMonic, IsVector, multiple_value}
use Rattle.module_vec.specs.Division.{Division, Remainder, OverDegree, DividesTo, first_divisor, is_over_degree, subtract_multiple, multiple_with_lead}
use Rattle.module_vec.proofs.Multiples.{IsMonicVector-multiply, IsTerm-lead, lead-multiply}
use Rattle.module_vec.proofs.Degrees.{AllKeys-within}
use Rattle.module_vec.proofs.DivisionLaws.{DividesTo-unique, AllBelow-subtract, AllKeys-subtract}
use Rattle.module_vec.proofs.DivisionSteps.{prefixed, prefixed-more, DividesTo-zero, DividesTo-moved, DividesTo-over, DividesTo-subtracted}
use Rattle.module_vec.proofs.Measure.{lead_measure, lead_measure-falls}
use Rattle.fast_division.specs.PartialSums.{IsBounded}
use Rattle.fast_division.proofs.Totals.{normal_same}

-- a division with a remainder is not over-degree
pub not_over : {E : Type 0} (order : Term → Term → Ordering) (list : List ModuleVector) (v w : ModuleVector) (answer : Result ModuleVector E) → w ≡ v
    → IfOk answer (λ r. DividesTo order RUN_DEGREE list w (Remainder r)) → OnOk answer (¬ DividesTo order RUN_DEGREE list v OverDegree)
not_over order list v w (Ok r) is h = λ over.
    let clash = DividesTo-unique order RUN_DEGREE list v (Remainder r) OverDegree (subst (λ (u : ModuleVector). DividesTo order RUN_DEGREE list u (Remainder r)) is h) over in cc
not_over order list v w (Err e) is h = tt

-- ---- the multiple without its lead

record Tail (order : Term → Term → Ordering) (m : List ℕ) (t : Term × ℕ) (rest d : ModuleVector) : Type 0 where
  difference : subtract_multiple order rest t.1 m (drop 1 d) ≡ subtract_multiple order (t ∷ rest) t.1 m d
  over : is_over_degree RUN_DEGREE (multiply_vector m (drop 1 d)) ≡ is_over_degree RUN_DEGREE (multiply_vector m d)

module _ {high : ℕ → Bool} {height : Term → ℕ} {bound : ℕ} (order : Term → Term → Ordering) (laws : IsTermOrder VARIABLES order high height bound) where
  tail : (m : List ℕ) (t : Term × ℕ) (rest d : ModuleVector) → IsMonic d → multiply_term m (lead d) ≡ t.0 → t.1 < 2147483647 → sum t.0.1 ≤ RUN_DEGREE → Tail order m t rest d
  tail m t rest [] monic at below small = absurd (omega (arith, monic))
  tail m t rest (u ∷ g) monic at below small =
      record {
        difference = normal_same order laws (rest ++ scale (neg_mod t.1) (multiply_vector m g)) ((t ∷ rest) ++ scale (neg_mod t.1) (multiply_vector m (u ∷ g)))
            (SameCoefficients-from_weights same_term terms_decide _ _ (λ w. record { same_residue = weights w }));
        over = ap (λ b. b || is_over_degree RUN_DEGREE (multiply_vector m g)) (sym (ap (λ (k : Term). nat_lt RUN_DEGREE (sum k.1)) at ∙ le-ltb RUN_DEGREE (sum t.0.1) small));
      }
    where
      weights : (w : Term → ℕ) → weighted_sum w (rest ++ scale (neg_mod t.1) (multiply_vector m g)) % 2147483647
          ≡ weighted_sum w ((t ∷ rest) ++ scale (neg_mod t.1) (multiply_vector m (u ∷ g))) % 2147483647
      weights w =
          let none : IsCongruent ((neg_mod t.1 + t.1) * w t.0) (0 * w t.0) = IsCongruent-mul (neg_mod-add t.1 below) (IsCongruent-refl (w t.0)) in
          let one : neg_mod t.1 * u.1 * w (multiply_term m u.0) ≡ neg_mod t.1 * w t.0 =
          ap (λ n. neg_mod t.1 * n * w (multiply_term m u.0)) monic ∙ ap (λ (k : Term). neg_mod t.1 * 1 * w k) at ∙ omega arith
          in
          omega (
            arith,
            none.same_residue,
            one,
            weighted_sum-append w rest (scale (neg_mod t.1) (multiply_vector m g)),
            weighted_sum-append w (t ∷ rest) (scale (neg_mod t.1) (multiply_vector m (u ∷ g))),
          )

  pub tail_difference : (m : List ℕ) (t : Term × ℕ) (rest d : ModuleVector) → IsMonic d → multiply_term m (lead d) ≡ t.0 → t.1 < 2147483647 → sum t.0.1 ≤ RUN_DEGREE
      → subtract_multiple order rest t.1 m (drop 1 d) ≡ subtract_multiple order (t ∷ rest) t.1 m d
  tail_difference m t rest d monic at below small = (tail m t rest d monic at below small).difference

  pub tail_over : (m : List ℕ) (t : Term × ℕ) (d : ModuleVector) → IsMonic d → multiply_term m (lead d) ≡ t.0 → t.1 < 2147483647 → sum t.0.1 ≤ RUN_DEGREE
      → is_over_degree RUN_DEGREE (multiply_vector m (drop 1 d)) ≡ is_over_degree RUN_DEGREE (multiply_vector m d)
  tail_over m t d monic at below small = (tail m t [] d monic at below small).over

  pub tail_vector : (d : ModuleVector) → IsVector order VARIABLES d → IsVector order VARIABLES (drop 1 d)
  tail_vector [] h = h
  tail_vector (u ∷ g) h = record { canonical = h.canonical.3; terms = h.terms.1 }

  pub product_of : (t : Term) (d : ModuleVector) (m : List ℕ) → length t.1 ≡ VARIABLES → IsMonic d → IsVector order VARIABLES d → divides (lead d) t ≡ true → m ≡ quotient_exponents t.1 (lead d).1
      → multiply_term m (lead d) ≡ t
  product_of t d m long monic vector h is =
      ap (λ (k : List ℕ). multiply_term k (lead d)) is ∙ divides-quotient VARIABLES (lead d) t (IsTerm-lead laws d monic vector.terms).exponents long h

  -- ---- the loop

  Bounded : Term → Type 0
  Bounded u = IsTerm VARIABLES u × (sum u.1 ≤ MONO_DEGREE)

  pub record Draining (list : List ModuleVector) (v settled rest : ModuleVector) : Type 0 where
    pub settled_bounded : IsBounded order settled
    pub above : AllAbove order settled rest
    pub steps : (d : Division) → DividesTo order RUN_DEGREE list rest d → DividesTo order RUN_DEGREE list v (prefixed settled d)

  pub Draining-start : (list : List ModuleVector) (v settled : ModuleVector) → settled ≡ [] → Draining list v settled v
  Draining-start list v settled is =
      subst (λ (s : ModuleVector). Draining list v s v) (sym is)
      (record {
        settled_bounded = record { vector = record { canonical = tt; terms = tt }; within = tt };
        above = tt;
        steps = λ d h. subst (DividesTo order RUN_DEGREE list v) (unprefixed d) h;
      })
    where
      unprefixed : (d : Division) → d ≡ prefixed [] d
      unprefixed (Remainder r) = refl
      unprefixed OverDegree = refl

  bounded_all : (v : ModuleVector) → IsBounded order v → AllKeys Bounded v
  unfolding Bounded
  bounded_all v h =
      AllKeys-both (IsTerm VARIABLES) (λ t. sum t.1 ≤ MONO_DEGREE) v h.vector.terms
      (AllKeys-weaker (λ t. sum t.1 ≤ RUN_DEGREE) (λ t. sum t.1 ≤ MONO_DEGREE) (λ t k. omega (arith, k)) v h.within)

  pub Draining-moved : (list : List ModuleVector) (v settled rest new before : ModuleVector) (t : Term × ℕ) → before ≡ t ∷ rest → IsBounded order before → new ≡ settled ++ t ∷ [] → first_divisor list t.0 ≡ None
      → Draining list v settled before → Draining list v new rest
  Draining-moved list v settled rest new before t split whole is none given =
      let b = subst (IsBounded order) split whole in
      let h = subst (Draining list v settled) split given in
      subst (λ (s : ModuleVector). Draining list v s rest) (sym is)
      (record {
        settled_bounded = record {
          vector = record {
            canonical = IsCanonical-append order settled (t ∷ []) h.settled_bounded.vector.canonical (b.vector.canonical.0, b.vector.canonical.1, tt, tt)
                (AllKeys-weaker (λ k. AllBelow order k (t ∷ rest)) (λ k. AllBelow order k (t ∷ [])) (λ k below. (below.0, tt)) settled h.above);
            terms = AllKeys-append (IsTerm VARIABLES) settled (t ∷ []) h.settled_bounded.vector.terms (b.vector.terms.0, tt);
          };
          within = AllKeys-append (λ k. sum k.1 ≤ RUN_DEGREE) settled (t ∷ []) h.settled_bounded.within (b.within.0, tt);
        };
        above = AllKeys-append (λ k. AllBelow order k rest) settled (t ∷ [])
            (AllKeys-weaker (λ k. AllBelow order k (t ∷ rest)) (λ k. AllBelow order k rest) (λ k below. below.1) settled h.above) (b.vector.canonical.2, tt);
        steps = λ d k.
            subst (DividesTo order RUN_DEGREE list v) (prefixed-more settled t d)
            (h.steps (prefixed (t ∷ []) d) (DividesTo-moved order RUN_DEGREE list t rest none d k));
      })

  pub moved_falls : (rest before : ModuleVector) (t : Term × ℕ) → before ≡ t ∷ rest → IsBounded order before → lead_measure high height bound rest < lead_measure high height bound before
  unfolding Bounded
  moved_falls rest before t split whole =
      let b = subst (IsBounded order) split whole in
      subst (λ (w : ModuleVector). lead_measure high height bound rest < lead_measure high height bound w) (sym split)
      (lead_measure-falls laws t rest rest b.vector.terms.0 (bounded_all (t ∷ rest) b).1 b.vector.canonical.2)

  -- what is known where a multiple of g is taken off
  pub record Cancels (before rest new g : ModuleVector) (t : Term × ℕ) : Type 0 where
    pub split : before ≡ t ∷ rest
    pub whole : IsBounded order before
    pub monic : IsMonic g
    pub vector : IsVector order VARIABLES g
    pub divides : divides (lead g) t.0 ≡ true
    pub difference : new ≡ subtract_multiple order (t ∷ rest) t.1 (multiple_with_lead t.0 g).0 g
    pub small : is_over_degree RUN_DEGREE (multiple_value (multiple_with_lead t.0 g)) ≡ false

  record Falls (rest new : ModuleVector) (t : Term × ℕ) : Type 0 where
    valid : IsTerm VARIABLES t.0
    below : AllBelow order t.0 new
    bounded : AllKeys Bounded new

  falls : (before rest new g : ModuleVector) (t : Term × ℕ) → Cancels before rest new g t → Falls rest new t
  unfolding Bounded
  falls before rest new g t c =
      let b = subst (IsBounded order) c.split c.whole in
      let valid = b.vector.terms.0 in
      let m = quotient_exponents t.0.1 (lead g).1 in
      let lead_valid = IsTerm-lead laws g c.monic c.vector.terms in
      let long = length-quotient VARIABLES (lead g).1 t.0.1 lead_valid.exponents valid.exponents in
      let monic = IsMonicVector-multiply laws m g long (record { canonical = c.vector.canonical; terms = c.vector.terms; monic = c.monic }) in
      let at = lead-multiply laws m g c.monic ∙ divides-quotient VARIABLES (lead g) t.0 lead_valid.exponents valid.exponents c.divides in
      let multiple : IsBounded order (multiply_vector m g) =
      record { vector = record { canonical = monic.canonical; terms = monic.terms }; within = AllKeys-within RUN_DEGREE (multiply_vector m g) c.small }
      in
      record {
        valid = valid;
        below = subst (AllBelow order t.0) (sym c.difference) (AllBelow-subtract laws t rest m g b.vector.canonical monic at);
        bounded = subst (AllKeys Bounded) (sym c.difference)
            (AllKeys-subtract laws Bounded (t ∷ rest) t.1 m g (bounded_all (t ∷ rest) b) (bounded_all (multiply_vector m g) multiple));
      }

  pub cancelled_falls : (before rest new g : ModuleVector) (t : Term × ℕ) → Cancels before rest new g t → lead_measure high height bound new < lead_measure high height bound before
  unfolding Bounded
  cancelled_falls before rest new g t c =
      let f = falls before rest new g t c in
      subst (λ (w : ModuleVector). lead_measure high height bound new < lead_measure high height bound w) (sym c.split) (lead_measure-falls laws t rest new f.valid f.bounded f.below)

  pub Draining-cancelled : (list : List ModuleVector) (v settled before rest new g : ModuleVector) (t : Term × ℕ) → Cancels before rest new g t → first_divisor list t.0 ≡ Some g
      → Draining list v settled before → Draining list v settled new
  Draining-cancelled list v settled before rest new g t c found given =
      let h = subst (Draining list v settled) c.split given in
      let f = falls before rest new g t c in
      record {
        settled_bounded = h.settled_bounded;
        above = AllKeys-weaker (λ k. AllBelow order k (t ∷ rest)) (λ k. AllBelow order k new) (λ k below. AllBelow-trans order laws.total k t.0 new below.0 f.below) settled h.above;
        steps = λ d k.
            h.steps d
            (DividesTo-subtracted order RUN_DEGREE list t rest g found c.small d (subst (λ (w : ModuleVector). DividesTo order RUN_DEGREE list w d) c.difference k));
      }

  pub Draining-over : (list : List ModuleVector) (v settled before rest g : ModuleVector) (t : Term × ℕ) → before ≡ t ∷ rest → first_divisor list t.0 ≡ Some g
      → is_over_degree RUN_DEGREE (multiple_value (multiple_with_lead t.0 g)) ≡ true → Draining list v settled before → DividesTo order RUN_DEGREE list v OverDegree
  Draining-over list v settled before rest g t split found over given =
      let h = subst (Draining list v settled) split given in
      h.steps OverDegree (DividesTo-over order RUN_DEGREE list t rest g found over)

  pub Draining-end : (list : List ModuleVector) (v settled before r : ModuleVector) → before ≡ [] → r ≡ settled → Draining list v settled before → DividesTo order RUN_DEGREE list v (Remainder r)
  Draining-end list v settled before r none is given =
      let h = subst (Draining list v settled) none given in
      subst (DividesTo order RUN_DEGREE list v) (ap Remainder (append-nil settled ∙ sym is)) (h.steps (Remainder []) (DividesTo-zero order RUN_DEGREE list))

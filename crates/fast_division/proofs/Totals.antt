-- The sum of partial sums, where one of them changes.
use Rattle.std.proofs.Common.{◌≡◌, ◌≢◌, ℕ, zero, suc, ◌+◌, ◌%◌, ◌<◌, ◌≤◌, Bool, false, replicate, sum, length, get_or, set, List, [], ◌∷◌, ◌++◌, Result, Ok, Err, OnErr, sym, refl, ap, subst, ◌∙◌, arith}
use Rattle.std.specs.declared.cmp.Ordering.{Ordering}
use Rattle.std.proofs.lemmas.List.{get_or-set_other, get_or_default, length-set}
use Rattle.std.specs.List.{swap}
use Rattle.ibp_field.specs.Arithmetic.{IsCongruent}
use Rattle.ibp_algebra.specs.FormalSum.{weighted_sum, AllKeys, scale, normal_form}
use Rattle.ibp_algebra.proofs.Weights.{weighted_sum-append, weighted_sum-scale, weighted_sum-SameCoefficients, SameCoefficients-from_weights}
use Rattle.ibp_algebra.proofs.SumLaws.{SameCoefficients-trans}
use Rattle.ibp_algebra.proofs.NormalForm.{weighted_sum-normal_form, IsCanonical-normal_form, SameCoefficients-normal_form}
use Rattle.ibp_algebra.proofs.ZeroDivisors.{AllKeys-append}
use Rattle.mono_order.specs.declared.limits.TheConstants.{VARIABLES, RUN_DEGREE}
use Rattle.mono_order.specs.Term.{Term, same_term, IsTerm}
use Rattle.mono_order.specs.TermOrder.{IsTermOrder}
use Rattle.mono_order.proofs.Terms.{terms_decide}
use Rattle.module_vec.specs.ModuleVector.{ModuleVector, SameVector, IsVector, multiply_vector}
use Rattle.module_vec.specs.Division.{is_over_degree}
use Rattle.module_vec.proofs.Degrees.{AllKeys-within, within-AllKeys}
use Rattle.module_vec.proofs.Multiples.{IsCanonical-multiply, AllKeys-multiply}
use Rattle.module_vec.proofs.NormalForms.{is_normal_form, IsVector-normal, AllKeys-normal, AllKeys-sum}
use Rattle.module_vec.proofs.Submodules.{multiply_vector-one}
use Rattle.fast_division.specs.PartialSums.{total, IsBounded, AllBounded, IsPartition}

pub weighted_sum-set : (w : Term → ℕ) (levels : List ModuleVector) (i : ℕ) (v : ModuleVector) → i < length levels
    → weighted_sum w (total (set levels i v)) + weighted_sum w (get_or levels i []) ≡ weighted_sum w (total levels) + weighted_sum w v
weighted_sum-set w [] i v within = absurd (omega arith)
weighted_sum-set w (x ∷ levels) zero v within = omega (arith, weighted_sum-append w v (total levels), weighted_sum-append w x (total levels))
weighted_sum-set w (x ∷ levels) (suc i) v within =
    omega (arith, weighted_sum-set w levels i v (omega arith), weighted_sum-append w x (total (set levels i v)), weighted_sum-append w x (total levels))

pub AllBounded-set : (order : Term → Term → Ordering) (levels : List ModuleVector) (i : ℕ) (v : ModuleVector) → AllBounded order levels → IsBounded order v → AllBounded order (set levels i v)
AllBounded-set order [] i v h b = tt
AllBounded-set order (x ∷ levels) zero v h b = (b, h.1)
AllBounded-set order (x ∷ levels) (suc i) v h b = (h.0, AllBounded-set order levels i v h.1 b)

pub IsPartition-set : (order : Term → Term → Ordering) (levels : List ModuleVector) (i : ℕ) (v : ModuleVector) → IsPartition order levels → IsBounded order v → IsPartition order (set levels i v)
IsPartition-set order levels i v h b = record { long = length-set levels i v ∙ h.long; bounded = AllBounded-set order levels i v h.bounded b }

pub IsBounded-at : (order : Term → Term → Ordering) (levels : List ModuleVector) (i : ℕ) (d : ModuleVector) → AllBounded order levels → i < length levels → IsBounded order (get_or levels i d)
IsBounded-at order [] i d h within = absurd (omega arith)
IsBounded-at order (x ∷ levels) zero d h within = h.0
IsBounded-at order (x ∷ levels) (suc i) d h within = IsBounded-at order levels i d h.1 (omega arith)

pub AllKeys-of_append : (P : Term → Type 0) (f g : ModuleVector) → AllKeys P (f ++ g) → AllKeys P f × AllKeys P g
AllKeys-of_append P [] g h = (tt, h)
AllKeys-of_append P (t ∷ f) g h = let rest = AllKeys-of_append P f g h.1 in ((h.0, rest.0), rest.1)

pub AllKeys-total : (order : Term → Term → Ordering) (P : Term → Type 0) → ((v : ModuleVector) → IsBounded order v → AllKeys P v) → (levels : List ModuleVector) → AllBounded order levels → AllKeys P (total levels)
AllKeys-total order P each [] h = tt
AllKeys-total order P each (v ∷ levels) h = AllKeys-append P v (total levels) (each v h.0) (AllKeys-total order P each levels h.1)

pub IsBounded-zero : (order : Term → Term → Ordering) → IsBounded order []
IsBounded-zero order = record { vector = record { canonical = tt; terms = tt }; within = tt }

-- two partial sums are exchanged
swap_is : (levels : List ModuleVector) (i j : ℕ) → i < length levels → j < length levels → swap levels i j ≡ set (set levels i (get_or levels j [])) j (get_or levels i [])
swap_is [] i j p q = absurd (omega arith)
swap_is (x ∷ levels) i j p q =
    λ k. set (set (x ∷ levels) i (get_or_default (x ∷ levels) j x [] q k)) j (get_or_default (x ∷ levels) i x [] p k)

pub IsPartition-swap : (order : Term → Term → Ordering) (levels new : List ModuleVector) (i j : ℕ) → i < length levels → j < length levels → new ≡ swap levels i j → IsPartition order levels → IsPartition order new
IsPartition-swap order levels new i j p q is h =
    subst (IsPartition order) (sym (is ∙ swap_is levels i j p q))
    (IsPartition-set order (set levels i (get_or levels j [])) j (get_or levels i [])
    (IsPartition-set order levels i (get_or levels j []) h (IsBounded-at order levels j [] h.bounded q)) (IsBounded-at order levels i [] h.bounded p))

pub swapped_total : (levels new : List ModuleVector) (i j : ℕ) → i < length levels → j < length levels → i ≢ j → new ≡ swap levels i j → SameVector (total new) (total levels)
swapped_total levels new i j p q apart is =
    SameCoefficients-from_weights same_term terms_decide (total new) (total levels) (λ w.
    let other : get_or (set levels i (get_or levels j [])) j [] ≡ get_or levels j [] = get_or-set_other levels i j (get_or levels j []) [] (λ e. apart (sym e)) in
    record {
      same_residue = ap (λ n. n % 2147483647) (omega (
        arith,
        weighted_sum-set w levels i (get_or levels j []) p,
        weighted_sum-set w (set levels i (get_or levels j [])) j (get_or levels i []) (omega (arith, q, length-set levels i (get_or levels j []))),
        ap (weighted_sum w) other,
        ap (λ (l : List ModuleVector). weighted_sum w (total l)) (is ∙ swap_is levels i j p q),
      ));
    })

total-zeros : (n : ℕ) → total (replicate n []) ≡ []
total-zeros zero = refl
total-zeros (suc n) = total-zeros n

AllBounded-zeros : (order : Term → Term → Ordering) (n : ℕ) → AllBounded order (replicate n [])
AllBounded-zeros order zero = tt
AllBounded-zeros order (suc n) = (IsBounded-zero order, AllBounded-zeros order n)

module _ {high : ℕ → Bool} {height : Term → ℕ} {bound : ℕ} (order : Term → Term → Ordering) (laws : IsTermOrder VARIABLES order high height bound) where
  pub weight_of_normal : (w : Term → ℕ) (v f : ModuleVector) → v ≡ normal_form order f → IsCongruent (weighted_sum w v) (weighted_sum w f)
  weight_of_normal w v f is = subst (λ (u : ModuleVector). IsCongruent (weighted_sum w u) (weighted_sum w f)) (sym is) (weighted_sum-normal_form order laws.total laws.unique w f)

  -- equal sums have one normal form
  pub normal_same : (f g : ModuleVector) → SameVector f g → normal_form order f ≡ normal_form order g
  normal_same f g same =
      is_normal_form laws (normal_form order f) g (IsCanonical-normal_form order laws.total laws.unique f)
      (SameCoefficients-trans (SameCoefficients-normal_form order laws.total laws.unique same_term terms_decide f) same)

  pub IsBounded-multiple : (m : List ℕ) (g : ModuleVector) → length m ≡ VARIABLES → IsVector order VARIABLES g → is_over_degree RUN_DEGREE (multiply_vector m g) ≡ false → IsBounded order (multiply_vector m g)
  IsBounded-multiple m g long h within =
      record {
        vector = record { canonical = IsCanonical-multiply laws m g long h.terms h.canonical; terms = AllKeys-multiply laws m g long h.terms };
        within = AllKeys-within RUN_DEGREE (multiply_vector m g) within;
      }

  pub IsBounded-sum : (v f new : ModuleVector) (c : ℕ) → IsBounded order v → IsBounded order f → new ≡ normal_form order (v ++ scale c f) → IsBounded order new
  IsBounded-sum v f new c h k is =
      record {
        vector = IsVector-normal laws new (v ++ scale c f) is (AllKeys-sum laws (IsTerm VARIABLES) v f c h.vector.terms k.vector.terms);
        within = AllKeys-normal laws (λ t. sum t.1 ≤ RUN_DEGREE) new (v ++ scale c f) is (AllKeys-sum laws (λ t. sum t.1 ≤ RUN_DEGREE) v f c h.within k.within);
      }

  pub one_bounded : (v : ModuleVector) (m : List ℕ) → m ≡ replicate VARIABLES 0 → IsVector order VARIABLES v → AllKeys (λ t. sum t.1 ≤ RUN_DEGREE) v → is_over_degree RUN_DEGREE (multiply_vector m v) ≡ false
  one_bounded v m is h small =
      ap (λ k. is_over_degree RUN_DEGREE (multiply_vector k v)) is ∙ ap (is_over_degree RUN_DEGREE) (multiply_vector-one VARIABLES v h.terms) ∙ within-AllKeys RUN_DEGREE v small

  -- the multiple by one is within the limit
  pub one_within : (v : ModuleVector) (m : List ℕ) → m ≡ replicate VARIABLES 0 → IsBounded order v → is_over_degree RUN_DEGREE (multiply_vector m v) ≡ false
  one_within v m is h = one_bounded v m is h.vector h.within

  -- what two partial sums give together
  pub merged_bounded : (a b new : ModuleVector) (m : List ℕ) (c : ℕ) → m ≡ replicate VARIABLES 0 → IsBounded order a → IsBounded order b → new ≡ normal_form order (a ++ scale c (multiply_vector m b)) → IsBounded order new
  merged_bounded a b new m c is h k new_is =
      IsBounded-sum a (multiply_vector m b) new c h
      (subst (λ (u : ModuleVector). IsBounded order u) (sym (ap (λ l. multiply_vector l b) is ∙ multiply_vector-one VARIABLES b k.vector.terms)) k) new_is

  -- one partial sum has a sum added
  pub added_total : (levels : List ModuleVector) (i : ℕ) (old new f : ModuleVector) → i < length levels → old ≡ get_or levels i [] → new ≡ normal_form order (old ++ f)
      → SameVector (total (set levels i new)) (total levels ++ f)
  added_total levels i old new f within old_is is =
      SameCoefficients-from_weights same_term terms_decide (total (set levels i new)) (total levels ++ f) (λ w.
      let n = weight_of_normal w new (old ++ f) is in
      record {
        same_residue = omega (
          arith,
          n.same_residue,
          weighted_sum-set w levels i new within,
          ap (weighted_sum w) old_is,
          weighted_sum-append w old f,
          weighted_sum-append w (total levels) f,
        );
      })

  -- one partial sum is added to the next one
  pub moved_total : (levels : List ModuleVector) (i : ℕ) (a b new : ModuleVector) → i + 1 < length levels → a ≡ get_or levels (i + 1) [] → b ≡ get_or levels i []
      → AllKeys (IsTerm VARIABLES) b → new ≡ normal_form order (a ++ scale 1 (multiply_vector (replicate VARIABLES 0) b))
      → SameVector (total (set (set levels (i + 1) new) i [])) (total levels)
  moved_total levels i a b new within a_is b_is terms is =
      SameCoefficients-from_weights same_term terms_decide (total (set (set levels (i + 1) new) i [])) (total levels) (λ w.
      let moved = scale 1 (multiply_vector (replicate VARIABLES 0) b) in
      let n = weight_of_normal w new (a ++ moved) is in
      let long : length (set levels (i + 1) new) ≡ length levels = length-set levels (i + 1) new in
      let ne : i ≢ i + 1 = λ e. absurd (omega (arith, e)) in
      let other : get_or (set levels (i + 1) new) i [] ≡ b = get_or-set_other levels (i + 1) i new [] ne ∙ sym b_is in
      record {
        same_residue = omega (
          arith,
          n.same_residue,
          weighted_sum-set w levels (i + 1) new within,
          weighted_sum-set w (set levels (i + 1) new) i [] (omega (arith, within, long)),
          ap (weighted_sum w) other,
          ap (weighted_sum w) a_is,
          weighted_sum-append w a moved,
          weighted_sum-scale w 1 (multiply_vector (replicate VARIABLES 0) b),
          ap (weighted_sum w) (multiply_vector-one VARIABLES b terms),
        );
      })

  -- a vector added to zero
  pub added_to_zero : (before after v : ModuleVector) → IsVector order VARIABLES v → normal_form order before ≡ []
      → SameVector after (before ++ scale 1 (multiply_vector (replicate VARIABLES 0) v)) → normal_form order after ≡ v
  added_to_zero before after v h zero_is same =
      sym (is_normal_form laws v after h.canonical
      (SameCoefficients-from_weights same_term terms_decide v after (λ w.
      let n = weight_of_normal w [] before (sym zero_is) in
      let s = weighted_sum-SameCoefficients same_term terms_decide w after (before ++ scale 1 (multiply_vector (replicate VARIABLES 0) v)) same in
      record {
        same_residue = omega (
          arith,
          n.same_residue,
          s.same_residue,
          weighted_sum-append w before (scale 1 (multiply_vector (replicate VARIABLES 0) v)),
          weighted_sum-scale w 1 (multiply_vector (replicate VARIABLES 0) v),
          ap (weighted_sum w) (multiply_vector-one VARIABLES v h.terms),
        );
      })))

  -- a multiple taken off
  pub subtracted : (before after old f : ModuleVector) → normal_form order before ≡ old → SameVector after (before ++ f) → normal_form order after ≡ normal_form order (old ++ f)
  subtracted before after old f is same =
      normal_same after (old ++ f)
      (SameCoefficients-from_weights same_term terms_decide after (old ++ f) (λ w.
      let n = weight_of_normal w old before (sym is) in
      let s = weighted_sum-SameCoefficients same_term terms_decide w after (before ++ f) same in
      record {
        same_residue = omega (arith, n.same_residue, s.same_residue, weighted_sum-append w before f, weighted_sum-append w old f);
      }))

  -- the value of partial sums is a vector
  pub IsBounded-value : (levels : List ModuleVector) (v : ModuleVector) → IsPartition order levels → normal_form order (total levels) ≡ v → IsBounded order v
  IsBounded-value levels v h is =
      record {
        vector = IsVector-normal laws v (total levels) (sym is) (AllKeys-total order (IsTerm VARIABLES) (λ u b. b.vector.terms) levels h.bounded);
        within = AllKeys-normal laws (λ t. sum t.1 ≤ RUN_DEGREE) v (total levels) (sym is) (AllKeys-total order (λ t. sum t.1 ≤ RUN_DEGREE) (λ u b. b.within) levels h.bounded);
      }

pub on_err_from : {T E P : Type 0} (r : Result T E) → P → OnErr r P
on_err_from (Ok v) p = tt
on_err_from (Err e) p = p

-- The merge of two canonical sums: what is done is canonical, above all that is left, and together with
-- what is left it is the whole.
use Rattle.std.proofs.Common.{◌≡◌, ℕ, ◌+◌, ◌*◌, ◌%◌, ◌<◌, Bool, [], ◌∷◌, ◌++◌, drop, length, get_or, add-one, sym, ap, subst, ◌∙◌, arith}
use Rattle.std.proofs.Math.Seq.{drop-cons}
use Rattle.std.specs.Ordering.{eq_by_cmp}
use Rattle.std.specs.declared.cmp.Ordering.{Ordering}
use Rattle.std.specs.declared.cmp.Ordering.TheVariants.{Less, Equal, Greater}
use Rattle.std.specs.Cmp.{IsTotalOrder}
use Rattle.std.specs.FinMap.{IsAntisymmetric}
use Rattle.std.specs.Bool.{Decides}
use Rattle.ibp_field.specs.Arithmetic.{IsCongruent}
use Rattle.ibp_algebra.specs.FormalSum.{FormalSum, SameCoefficients, weighted_sum, AllKeys, AllBelow, IsCanonical, scale, with_term}
use Rattle.ibp_field.proofs.Congruence.{IsCongruent-refl, IsCongruent-mul, IsCongruent-from_eq}
use Rattle.ibp_algebra.proofs.Weights.{weighted_sum-append, weighted_sum-scale, SameCoefficients-from_weights}
use Rattle.ibp_algebra.proofs.ZeroDivisors.{AllKeys-append}
use Rattle.ibp_algebra.proofs.Canonical.{AllBelow-trans, Greater-reverse}
use Rattle.ibp_algebra.proofs.NormalForm.{weighted_sum-with_term, AllKeys-with_term, IsCanonical-with_term}
use Rattle.ibp_algebra.proofs.SumLaws.{SameCoefficients-trans}
use Rattle.ibp_algebra.proofs.Combinations.{AllKeys-weaker}
use Rattle.ibp_algebra.proofs.Members.{order_decides}

-- each key of the one is above each key of the other
abbrev pub AllAbove : {K : Type 0} → (K → K → Ordering) → FormalSum K → FormalSum K → Type 0
AllAbove order f g = AllKeys (λ k. AllBelow order k g) f

pub IsCanonical-append : {K : Type 0} (order : K → K → Ordering) (f g : FormalSum K) → IsCanonical order f → IsCanonical order g → AllAbove order f g → IsCanonical order (f ++ g)
IsCanonical-append order [] g h k above = k
IsCanonical-append order (t ∷ f) g h k above =
    (h.0, h.1, AllKeys-append (λ x. order t.0 x ≡ Greater) f g h.2 above.0, IsCanonical-append order f g h.3 k above.1)

pub record Merging {K : Type 0} (order : K → K → Ordering) (factor : ℕ) (whole done left right : FormalSum K) : Type 0 where
  pub canonical : IsCanonical order done
  pub left_canonical : IsCanonical order left
  pub right_canonical : IsCanonical order right
  pub above_left : AllAbove order done left
  pub above_right : AllAbove order done right
  pub sum : SameCoefficients (eq_by_cmp order) (done ++ (left ++ scale factor right)) whole

module _ {K : Type 0} (order : K → K → Ordering) (total : IsTotalOrder order) (unique : IsAntisymmetric order) where
  abbrev same : K → K → Bool
  same = eq_by_cmp order

  decides : (a b : K) → Decides (same a b) (a ≡ b)
  decides = order_decides order total unique

  -- a term moves to what is done
  move_term : (factor : ℕ) (whole done left right : FormalSum K) (t : K × ℕ) (rest rest' : FormalSum K) → Merging order factor whole done left right
      → IsCanonical order rest → IsCanonical order rest' → AllBelow order t.0 rest → AllBelow order t.0 rest'
      → AllKeys (λ k. order k t.0 ≡ Greater) done
      → ((w : K → ℕ) → IsCongruent (weighted_sum w left + factor * weighted_sum w right) (t.1 * w t.0 + (weighted_sum w rest + factor * weighted_sum w rest')))
      → Merging order factor whole (done ++ with_term t []) rest rest'
  move_term factor whole done left right t rest rest' h p q below below' over sums =
      let term_below = λ (k : K). λ (above : order k t.0 ≡ Greater). AllKeys-with_term (λ x. order k x ≡ Greater) t [] above tt in
      record {
        canonical = IsCanonical-append order done (with_term t []) h.canonical (IsCanonical-with_term order t [] tt tt)
            (AllKeys-weaker (λ k. order k t.0 ≡ Greater) (λ k. AllBelow order k (with_term t [])) term_below done over);
        left_canonical = p;
        right_canonical = q;
        above_left = AllKeys-append (λ k. AllBelow order k rest) done (with_term t [])
            (AllKeys-weaker (λ k. order k t.0 ≡ Greater) (λ k. AllBelow order k rest) (λ k above. AllBelow-trans order total k t.0 rest above below) done over)
            (AllKeys-with_term (λ k. AllBelow order k rest) t [] below tt);
        above_right = AllKeys-append (λ k. AllBelow order k rest') done (with_term t [])
            (AllKeys-weaker (λ k. order k t.0 ≡ Greater) (λ k. AllBelow order k rest') (λ k above. AllBelow-trans order total k t.0 rest' above below') done over)
            (AllKeys-with_term (λ k. AllBelow order k rest') t [] below' tt);
        sum = SameCoefficients-trans
            (SameCoefficients-from_weights same decides _ (done ++ (left ++ scale factor right)) (λ w.
            let term = weighted_sum-with_term w t [] in
            let step = sums w in
            record {
              same_residue = omega (
                arith,
                term.same_residue,
                step.same_residue,
                weighted_sum-append w (done ++ with_term t []) (rest ++ scale factor rest'),
                weighted_sum-append w done (with_term t []),
                weighted_sum-append w rest (scale factor rest'),
                weighted_sum-scale w factor rest',
                weighted_sum-append w done (left ++ scale factor right),
                weighted_sum-append w left (scale factor right),
                weighted_sum-scale w factor right,
              );
            }))
            h.sum;
      }

  first_above : (done : FormalSum K) (t : K × ℕ) (f : FormalSum K) → AllAbove order done (t ∷ f) → AllKeys (λ k. order k t.0 ≡ Greater) done
  first_above done t f h = AllKeys-weaker (λ k. AllBelow order k (t ∷ f)) (λ k. order k t.0 ≡ Greater) (λ k below. below.0) done h

  -- the first term on the left, where it is above what is left on the right
  take_left : (factor : ℕ) (whole done : FormalSum K) (t : K × ℕ) (left right : FormalSum K) → AllBelow order t.0 right
      → Merging order factor whole done (t ∷ left) right → Merging order factor whole (done ++ with_term t []) left right
  take_left factor whole done t left right below h =
      move_term factor whole done (t ∷ left) right t left right h h.left_canonical.3 h.right_canonical h.left_canonical.2 below
      (first_above done t left h.above_left) (λ w. IsCongruent-from_eq (omega arith))

  -- the multiple of the first one on the right, where it is above what is left on the left
  take_right : (factor value : ℕ) (whole done : FormalSum K) (t : K × ℕ) (left right : FormalSum K) → IsCongruent value (factor * t.1) → AllBelow order t.0 left
      → Merging order factor whole done left (t ∷ right) → Merging order factor whole (done ++ with_term (t.0, value) []) left right
  take_right factor value whole done t left right multiple below h =
      move_term factor whole done left (t ∷ right) (t.0, value) left right h h.left_canonical h.right_canonical.3 below h.right_canonical.2
      (first_above done t right h.above_right)
      (λ w.
      let term : IsCongruent (value * w t.0) (factor * t.1 * w t.0) = IsCongruent-mul multiple (IsCongruent-refl (w t.0)) in
      record { same_residue = omega (arith, term.same_residue) })

  -- both, where they have the same key
  take_both : (factor value : ℕ) (whole done : FormalSum K) (t u : K × ℕ) (left right : FormalSum K) → IsCongruent value (t.1 + factor * u.1) → t.0 ≡ u.0
      → Merging order factor whole done (t ∷ left) (u ∷ right) → Merging order factor whole (done ++ with_term (t.0, value) []) left right
  take_both factor value whole done t u left right sum key h =
      let below : AllBelow order t.0 right = subst (λ k. AllBelow order k right) (sym key) h.right_canonical.2 in
      move_term factor whole done (t ∷ left) (u ∷ right) (t.0, value) left right h h.left_canonical.3 h.right_canonical.3 h.left_canonical.2 below
      (first_above done t left h.above_left)
      (λ w.
      let term : IsCongruent (value * w t.0) ((t.1 + factor * u.1) * w t.0) = IsCongruent-mul sum (IsCongruent-refl (w t.0)) in
      record { same_residue = omega (arith, term.same_residue, ap (λ k. factor * u.1 * w k) key) })

  -- ---- the same, by places in the two lists

  drop_at : (f : FormalSum K) (i : ℕ) (t : K × ℕ) → i < length f → t ≡ get_or f i t → drop i f ≡ t ∷ drop (i + 1) f
  drop_at f i t within is = drop-cons f i t within ∙ (λ n. sym is n ∷ drop (sym (add-one i) n) f)

  pub left_at : (factor : ℕ) (whole done items f g : FormalSum K) (i j : ℕ) (t u : K × ℕ) → i < length f → t ≡ get_or f i t → j < length g → u ≡ get_or g j u
      → order t.0 u.0 ≡ Greater → items ≡ done ++ with_term t [] → Merging order factor whole done (drop i f) (drop j g)
      → Merging order factor whole items (drop (i + 1) f) (drop j g)
  left_at factor whole done items f g i j t u within t_is within' u_is above is h =
      let first = drop_at f i t within t_is in
      let second = drop_at g j u within' u_is in
      let canonical : IsCanonical order (u ∷ drop (j + 1) g) = subst (IsCanonical order) second h.right_canonical in
      let below : AllBelow order t.0 (drop j g) =
      subst (AllBelow order t.0) (sym second) (above, AllBelow-trans order total t.0 u.0 (drop (j + 1) g) above canonical.2)
      in
      subst (λ d. Merging order factor whole d (drop (i + 1) f) (drop j g)) (sym is)
      (take_left factor whole done t (drop (i + 1) f) (drop j g) below (subst (λ l. Merging order factor whole done l (drop j g)) first h))

  pub right_at : (factor value : ℕ) (whole done items f g : FormalSum K) (i j : ℕ) (t u : K × ℕ) → i < length f → t ≡ get_or f i t → j < length g → u ≡ get_or g j u
      → order t.0 u.0 ≡ Less → value ≡ (factor * u.1) % 2147483647 → items ≡ done ++ with_term (u.0, value) [] → Merging order factor whole done (drop i f) (drop j g)
      → Merging order factor whole items (drop i f) (drop (j + 1) g)
  right_at factor value whole done items f g i j t u within t_is within' u_is under value_is is h =
      let first = drop_at f i t within t_is in
      let second = drop_at g j u within' u_is in
      let above = Greater-reverse order total t.0 u.0 under in
      let canonical : IsCanonical order (t ∷ drop (i + 1) f) = subst (IsCanonical order) first h.left_canonical in
      let below : AllBelow order u.0 (drop i f) =
      subst (AllBelow order u.0) (sym first) (above, AllBelow-trans order total u.0 t.0 (drop (i + 1) f) above canonical.2)
      in
      subst (λ d. Merging order factor whole d (drop i f) (drop (j + 1) g)) (sym is)
      (take_right factor value whole done u (drop i f) (drop (j + 1) g) (record { same_residue = omega (arith, value_is) }) below
      (subst (λ r. Merging order factor whole done (drop i f) r) second h))

  pub both_at : (factor value product : ℕ) (whole done items f g : FormalSum K) (i j : ℕ) (t u : K × ℕ) → i < length f → t ≡ get_or f i t → j < length g → u ≡ get_or g j u
      → order t.0 u.0 ≡ Equal → product ≡ (factor * u.1) % 2147483647 → value ≡ (t.1 + product) % 2147483647 → items ≡ done ++ with_term (t.0, value) []
      → Merging order factor whole done (drop i f) (drop j g) → Merging order factor whole items (drop (i + 1) f) (drop (j + 1) g)
  both_at factor value product whole done items f g i j t u within t_is within' u_is tie product_is value_is is h =
      let first = drop_at f i t within t_is in
      let second = drop_at g j u within' u_is in
      subst (λ d. Merging order factor whole d (drop (i + 1) f) (drop (j + 1) g)) (sym is)
      (take_both factor value whole done t u (drop (i + 1) f) (drop (j + 1) g) (record { same_residue = omega (arith, value_is, product_is) }) (unique t.0 u.0 tie)
      (subst (λ l. Merging order factor whole done l (u ∷ drop (j + 1) g)) first (subst (λ r. Merging order factor whole done (drop i f) r) second h)))

  -- the right list is done
  pub left_alone : (factor : ℕ) (whole done items f right : FormalSum K) (i : ℕ) (t : K × ℕ) → i < length f → t ≡ get_or f i t → right ≡ []
      → items ≡ done ++ with_term t [] → Merging order factor whole done (drop i f) right → Merging order factor whole items (drop (i + 1) f) right
  left_alone factor whole done items f right i t within t_is none is h =
      subst (λ d. Merging order factor whole d (drop (i + 1) f) right) (sym is)
      (take_left factor whole done t (drop (i + 1) f) right (subst (AllBelow order t.0) (sym none) tt)
      (subst (λ l. Merging order factor whole done l right) (drop_at f i t within t_is) h))

  -- the left list is done
  pub right_alone : (factor value : ℕ) (whole done items left g : FormalSum K) (j : ℕ) (u : K × ℕ) → j < length g → u ≡ get_or g j u → left ≡ []
      → value ≡ (factor * u.1) % 2147483647 → items ≡ done ++ with_term (u.0, value) [] → Merging order factor whole done left (drop j g) → Merging order factor whole items left (drop (j + 1) g)
  right_alone factor value whole done items left g j u within u_is none value_is is h =
      subst (λ d. Merging order factor whole d left (drop (j + 1) g)) (sym is)
      (take_right factor value whole done u left (drop (j + 1) g) (record { same_residue = omega (arith, value_is) }) (subst (AllBelow order u.0) (sym none) tt)
      (subst (λ r. Merging order factor whole done left r) (drop_at g j u within u_is) h))

  -- nothing is left
  pub Merging-end : (factor : ℕ) (whole done left right : FormalSum K) → left ≡ [] → right ≡ [] → Merging order factor whole done left right
      → SameCoefficients (eq_by_cmp order) done whole
  Merging-end factor whole done left right p q h =
      SameCoefficients-trans
      (SameCoefficients-from_weights same decides done (done ++ (left ++ scale factor right)) (λ w.
      record {
        same_residue = omega (
          arith,
          weighted_sum-append w done (left ++ scale factor right),
          weighted_sum-append w left (scale factor right),
          weighted_sum-scale w factor right,
          ap (weighted_sum w) p,
          ap (λ f. factor * weighted_sum w f) q,
        );
      }))
      h.sum

-- One more reduction of a list of targets.
use Rattle.std.proofs.Common.{◌≡◌, ℕ, ℤ, zero, suc, ◌+◌, ◌<◌, List, [], ◌∷◌, ◌++◌, length, get_or, take, sym, ◌∙◌, ap, add-one, arith}
use Rattle.std.proofs.lemmas.List.{map_more}
use Rattle.ibp_algebra.specs.FormalSum.{FormalSum, map_keys}
use Rattle.sparse_rows.specs.Rows.{IntegralSum}
use Rattle.system_text.specs.declared.value.Reduction.{Reduction}
use Rattle.target_rows.specs.Reductions.{number_of, reductions_of}

abbrev pub reduction : List ℕ → List ℤ → IntegralSum → FormalSum ℕ → Reduction
reduction written target form w = record { target = target; reduced = form; weights = map_keys (number_of written) w }

-- one more weight with its number
pub numbered_more : (written : List ℕ) (weights : FormalSum ℕ) (i : ℕ) (weight : ℕ × ℕ) (number : ℕ) (before : FormalSum ℕ) → i < length weights → weight ≡ get_or weights i weight
    → number ≡ number_of written weight.0 → before ≡ map_keys (number_of written) (take i weights) → before ++ (number, weight.1) ∷ [] ≡ map_keys (number_of written) (take (i + 1) weights)
numbered_more written weights i weight number before inside is counted so_far =
    let next : map_keys (number_of written) (take (i + 1) weights) ≡ map_keys (number_of written) (take i weights) ++ (number_of written (get_or weights i weight).0, (get_or weights i weight).1) ∷ [] =
    map_more {Y = ℕ × ℕ} _ weights i weight inside
    in
    let named : number ≡ number_of written (get_or weights i weight).0 = counted ∙ ap (λ (w : ℕ × ℕ). number_of written w.0) is in
    let pair : ◌≡◌ {A = ℕ × ℕ} (number, weight.1) (number_of written (get_or weights i weight).0, (get_or weights i weight).1) = λ k. (named k, (is k).1) in
    ap (λ xs. xs ++ (number, weight.1) ∷ []) so_far ∙ ap (λ (w : ℕ × ℕ). map_keys (number_of written) (take i weights) ++ w ∷ []) pair ∙ sym next

module _ (written : List ℕ) (target : List ℤ) (form : IntegralSum) (w : FormalSum ℕ) where
  one_more : (ts : List (List ℤ)) (fs : List IntegralSum) (ws : List (FormalSum ℕ)) (i : ℕ) → i < length ts → i < length fs → i < length ws
      → target ≡ get_or ts i target → form ≡ get_or fs i form → w ≡ get_or ws i w
      → reductions_of written (take (suc i) ts) fs ws ≡ reductions_of written (take i ts) fs ws ++ reduction written target form w ∷ []
  one_more [] fs ws i a b c t f g = absurd (omega arith)
  one_more (t₀ ∷ ts) [] ws i a b c t f g = absurd (omega arith)
  one_more (t₀ ∷ ts) (f₀ ∷ fs) [] i a b c t f g = absurd (omega arith)
  one_more (t₀ ∷ ts) (f₀ ∷ fs) (w₀ ∷ ws) zero a b c t f g = λ k. record { target = sym t k; reduced = sym f k; weights = map_keys (number_of written) (sym g k) } ∷ []
  one_more (t₀ ∷ ts) (f₀ ∷ fs) (w₀ ∷ ws) (suc i) a b c t f g = ap (λ rest. reduction written t₀ f₀ w₀ ∷ rest) (one_more ts fs ws i (omega arith) (omega arith) (omega arith) t f g)

  pub reductions_more : (ts : List (List ℤ)) (fs : List IntegralSum) (ws : List (FormalSum ℕ)) (i : ℕ) → i < length ts → length fs ≡ length ts → length ws ≡ length ts
      → target ≡ get_or ts i target → form ≡ get_or fs i form → w ≡ get_or ws i w
      → reductions_of written (take (i + 1) ts) fs ws ≡ reductions_of written (take i ts) fs ws ++ reduction written target form w ∷ []
  reductions_more ts fs ws i inside forms weights t f g = rw add-one (one_more ts fs ws i inside (omega arith) (omega arith) t f g)

  pub reductions_next : (ts : List (List ℤ)) (fs : List IntegralSum) (ws : List (FormalSum ℕ)) (i : ℕ) (copy : IntegralSum) (numbers : FormalSum ℕ) (before : List Reduction) → i < length ts → length fs ≡ length ts → length ws ≡ length ts
      → target ≡ get_or ts i target → form ≡ get_or fs i form → w ≡ get_or ws i w → copy ≡ form → numbers ≡ map_keys (number_of written) w → before ≡ reductions_of written (take i ts) fs ws
      → before ++ record { target = target; reduced = copy; weights = numbers } ∷ [] ≡ reductions_of written (take (i + 1) ts) fs ws
  reductions_next ts fs ws i copy numbers before inside forms weights t f g copied numbered so_far =
      let next = reductions_more ts fs ws i inside forms weights t f g in
      let one : ◌≡◌ {A = Reduction} (record { target = target; reduced = copy; weights = numbers }) (reduction written target form w) = λ k. record { target = target; reduced = copied k; weights = numbered k } in
      ap (λ xs. xs ++ record { target = target; reduced = copy; weights = numbers } ∷ []) so_far ∙ ap (λ r. reductions_of written (take i ts) fs ws ++ r ∷ []) one ∙ sym next

-- The laws of formal sums: sums, multiples and products keep `SameCoefficients`, and products over a
-- commutative monoid of keys are commutative, associative and distributive.
use Rattle.std.proofs.Common.{◌≡◌, ℕ, ◌+◌, ◌*◌, ◌%◌, if◌then◌else◌, Bool, [], ◌∷◌, ◌++◌, sym, refl, ap, ◌∙◌, arith}
use Rattle.std.specs.Bool.{Decides}
use Rattle.std.proofs.lemmas.Nat.{mul-mod_second}
use Rattle.ibp_field.specs.Arithmetic.{add_mod, mul_mod, IsCongruent}
use Rattle.ibp_algebra.specs.FormalSum.{FormalSum, weighted_sum, coefficient, SameCoefficients, scale, map_keys, product}
use Rattle.ibp_field.proofs.Congruence.{IsCongruent-refl, IsCongruent-sym, IsCongruent-trans, IsCongruent-mul, IsCongruent-add, IsCongruent-from_eq}
use Rattle.ibp_algebra.proofs.Weights.{unit_weight, weighted_sum-append, weighted_sum-scale, weighted_sum-ext, weighted_sum-weights, weighted_sum-product, weighted_sum-swap, weighted_sum-map_keys, weighted_sum-SameCoefficients, SameCoefficients-from_weights}

pub SameCoefficients-refl : {K : Type 0} (same : K → K → Bool) (f : FormalSum K) → SameCoefficients same f f
SameCoefficients-refl same f = record { same_at = λ key. refl }

pub SameCoefficients-from_eq : {K : Type 0} {same : K → K → Bool} {f g : FormalSum K} → f ≡ g → SameCoefficients same f g
SameCoefficients-from_eq {K} {same} e = record { same_at = λ key. ap (λ h. coefficient same h key) e }

pub SameCoefficients-sym : {K : Type 0} {same : K → K → Bool} {f g : FormalSum K} → SameCoefficients same f g → SameCoefficients same g f
SameCoefficients-sym h = record { same_at = λ key. sym (h.same_at key) }

pub SameCoefficients-trans : {K : Type 0} {same : K → K → Bool} {f g h : FormalSum K}
    → SameCoefficients same f g → SameCoefficients same g h → SameCoefficients same f h
SameCoefficients-trans p q = record { same_at = λ key. p.same_at key ∙ q.same_at key }

module _ {K : Type 0} (same : K → K → Bool) (decides : (a b : K) → Decides (same a b) (a ≡ b)) where
  -- where all weighted sums are equal as whole numbers
  pub SameCoefficients-from_sums : (f g : FormalSum K) → ((w : K → ℕ) → weighted_sum w f ≡ weighted_sum w g) → SameCoefficients same f g
  SameCoefficients-from_sums f g h = SameCoefficients-from_weights same decides f g (λ w. IsCongruent-from_eq (h w))

  pub SameCoefficients-append : {f g h k : FormalSum K} → SameCoefficients same f g → SameCoefficients same h k → SameCoefficients same (f ++ h) (g ++ k)
  SameCoefficients-append {f} {g} {h} {k} p q =
      SameCoefficients-from_weights same decides _ _ (λ w.
      rw (weighted_sum-append w f h, weighted_sum-append w g k)
      (IsCongruent-add (weighted_sum-SameCoefficients same decides w f g p) (weighted_sum-SameCoefficients same decides w h k q)))

  pub SameCoefficients-scale : {f g : FormalSum K} (c : ℕ) → SameCoefficients same f g → SameCoefficients same (scale c f) (scale c g)
  SameCoefficients-scale {f} {g} c p =
      SameCoefficients-from_weights same decides _ _ (λ w.
      rw (weighted_sum-scale w c f, weighted_sum-scale w c g)
      (IsCongruent-mul (IsCongruent-refl c) (weighted_sum-SameCoefficients same decides w f g p)))

  pub append_comm : (f g : FormalSum K) → SameCoefficients same (f ++ g) (g ++ f)
  append_comm f g = SameCoefficients-from_sums _ _ (λ w. omega (arith, weighted_sum-append w f g, weighted_sum-append w g f))

  -- a product depends on the coefficients of its factors alone
  pub SameCoefficients-product : (times : K → K → K) {f g h k : FormalSum K}
      → SameCoefficients same f g → SameCoefficients same h k → SameCoefficients same (product times f h) (product times g k)
  SameCoefficients-product times {f} {g} {h} {k} p q =
      SameCoefficients-from_weights same decides _ _ (λ w.
      rw (weighted_sum-product times w f h, weighted_sum-product times w g k)
      (IsCongruent-trans (weighted_sum-SameCoefficients same decides _ f g p)
      (weighted_sum-weights _ _ (λ a. weighted_sum-SameCoefficients same decides (λ b. w (times a b)) h k q) g)))

  pub product_comm : (times : K → K → K) → ((a b : K) → times a b ≡ times b a)
      → (f g : FormalSum K) → SameCoefficients same (product times f g) (product times g f)
  product_comm times comm f g =
      SameCoefficients-from_sums _ _ (λ w.
      weighted_sum-product times w f g ∙ weighted_sum-swap (λ a b. w (times a b)) f g
      ∙ weighted_sum-ext _ _ (λ b. weighted_sum-ext _ _ (λ a. ap w (comm a b)) f) g ∙ sym (weighted_sum-product times w g f))

  pub product_assoc : (times : K → K → K) → ((a b c : K) → times (times a b) c ≡ times a (times b c))
      → (f g h : FormalSum K) → SameCoefficients same (product times (product times f g) h) (product times f (product times g h))
  product_assoc times assoc f g h =
      SameCoefficients-from_sums _ _ (λ w.
      weighted_sum-product times w (product times f g) h ∙ weighted_sum-product times _ f g
      ∙ weighted_sum-ext _ _ (λ a. weighted_sum-ext _ _ (λ b. weighted_sum-ext _ _ (λ c. ap w (assoc a b c)) h) g ∙ sym (weighted_sum-product times (λ x. w (times a x)) g h)) f
      ∙ sym (weighted_sum-product times w f (product times g h)))

  pub product-append_left : (times : K → K → K) (f g h : FormalSum K)
      → SameCoefficients same (product times (f ++ g) h) (product times f h ++ product times g h)
  product-append_left times f g h =
      SameCoefficients-from_sums _ _ (λ w.
      weighted_sum-product times w (f ++ g) h ∙ weighted_sum-append _ f g
      ∙ omega (arith, weighted_sum-product times w f h, weighted_sum-product times w g h, weighted_sum-append w (product times f h) (product times g h)))

  pub product-scale_left : (times : K → K → K) (c : ℕ) (f g : FormalSum K)
      → SameCoefficients same (product times (scale c f) g) (scale c (product times f g))
  product-scale_left times c f g =
      SameCoefficients-from_sums _ _ (λ w.
      weighted_sum-product times w (scale c f) g ∙ weighted_sum-scale _ c f
      ∙ sym (weighted_sum-scale w c (product times f g) ∙ ap (λ n. c * n) (weighted_sum-product times w f g)))

-- keys may be replaced in equal sums
pub SameCoefficients-map_keys : {K L : Type 0} (same : K → K → Bool) (decides : (a b : K) → Decides (same a b) (a ≡ b))
    (other : L → L → Bool) (other_decides : (a b : L) → Decides (other a b) (a ≡ b)) (move : K → L) {f g : FormalSum K}
    → SameCoefficients same f g → SameCoefficients other (map_keys move f) (map_keys move g)
SameCoefficients-map_keys same decides other other_decides move {f} {g} p =
    SameCoefficients-from_weights other other_decides _ _ (λ w.
    rw (weighted_sum-map_keys move w f, weighted_sum-map_keys move w g)
    (weighted_sum-SameCoefficients same decides (λ k. w (move k)) f g p))

-- a map of keys that keeps products of keys keeps products
pub product-map_keys : {K L : Type 0} (other : L → L → Bool) (other_decides : (a b : L) → Decides (other a b) (a ≡ b))
    (times : K → K → K) (after : L → L → L) (move : K → L) → ((a b : K) → move (times a b) ≡ after (move a) (move b))
    → (f g : FormalSum K) → SameCoefficients other (map_keys move (product times f g)) (product after (map_keys move f) (map_keys move g))
product-map_keys other other_decides times after move keeps f g =
    SameCoefficients-from_sums other other_decides _ _ (λ w.
    weighted_sum-map_keys move w (product times f g) ∙ weighted_sum-product times _ f g
    ∙ weighted_sum-ext _ _ (λ a. weighted_sum-ext _ _ (λ b. ap w (keeps a b)) g ∙ sym (weighted_sum-map_keys move (λ l. w (after (move a) l)) g)) f
    ∙ sym (weighted_sum-map_keys move (λ l. weighted_sum (λ b. w (after l b)) (map_keys move g)) f)
    ∙ sym (weighted_sum-product after w (map_keys move f) (map_keys move g)))

-- ---- one more term at the end

module _ {K : Type 0} (same : K → K → Bool) (decides : (a b : K) → Decides (same a b) (a ≡ b)) where
  -- whose coefficients are congruent
  pub SameCoefficients-push : {f g : FormalSum K} (k : K) (c d : ℕ) → SameCoefficients same f g → IsCongruent c d
      → SameCoefficients same (f ++ (k, c) ∷ []) (g ++ (k, d) ∷ [])
  SameCoefficients-push k c d h e =
      SameCoefficients-append same decides h
      (SameCoefficients-from_weights same decides ((k, c) ∷ []) ((k, d) ∷ []) (λ w. IsCongruent-add (IsCongruent-mul e (IsCongruent-refl (w k))) (IsCongruent-refl 0)))

  -- or whose coefficient is zero
  pub SameCoefficients-push_zero : {f g : FormalSum K} (k : K) (d : ℕ) → SameCoefficients same f g → IsCongruent d 0
      → SameCoefficients same f (g ++ (k, d) ∷ [])
  SameCoefficients-push_zero {f} {g} k d h e =
      SameCoefficients-trans h
      (SameCoefficients-from_weights same decides g (g ++ (k, d) ∷ []) (λ w.
      rw (weighted_sum-append w g ((k, d) ∷ []))
      (IsCongruent-trans (IsCongruent-from_eq {a = weighted_sum w g} {b = weighted_sum w g + (0 * w k + 0)} (omega arith))
      (IsCongruent-add (IsCongruent-refl (weighted_sum w g)) (IsCongruent-add (IsCongruent-mul (IsCongruent-sym e) (IsCongruent-refl (w k))) (IsCongruent-refl 0))))))

-- whichever test decides whether keys are equal
pub SameCoefficients-retest : {K : Type 0} (same other : K → K → Bool) → ((a b : K) → Decides (same a b) (a ≡ b)) → ((a b : K) → Decides (other a b) (a ≡ b))
    → {f g : FormalSum K} → SameCoefficients same f g → SameCoefficients other f g
SameCoefficients-retest same other decides other_decides {f} {g} h =
    SameCoefficients-from_weights other other_decides f g (λ w. weighted_sum-SameCoefficients same decides w f g h)

-- ---- what the operations give, coefficient by coefficient

pub coefficient-append : {K : Type 0} (same : K → K → Bool) (f g : FormalSum K) (key : K)
    → coefficient same (f ++ g) key ≡ add_mod (coefficient same f key) (coefficient same g key)
coefficient-append same f g key = omega (arith, weighted_sum-append (unit_weight same key) f g)

pub coefficient-scale : {K : Type 0} (same : K → K → Bool) (c : ℕ) (f : FormalSum K) (key : K)
    → coefficient same (scale c f) key ≡ mul_mod c (coefficient same f key)
coefficient-scale same c f key =
    ap (λ n. n % 2147483647) (weighted_sum-scale (unit_weight same key) c f) ∙ sym (mul-mod_second c (weighted_sum (unit_weight same key) f) 2147483647)

-- The definition is the textbook's, which no proof needs. The convolution: the sum of a's coefficient times b's over the keys a and b whose product is the key
pub coefficient-product : {K : Type 0} (same : K → K → Bool) (times : K → K → K) (f g : FormalSum K) (key : K)
    → coefficient same (product times f g) key ≡ weighted_sum (λ a. weighted_sum (λ b. if same (times a b) key then 1 else 0) g) f % 2147483647
coefficient-product same times f g key = ap (λ n. n % 2147483647) (weighted_sum-product times (unit_weight same key) f g)

-- A vector in two parts, its high terms and its low ones: each part of a multiple goes to its own part of a sum.
use Rattle.std.proofs.Common.{◌≡◌, ◌≢◌, ℕ, ◌*◌, ◌≤◌, Bool, true, false, sum, length, drop, replicate, get_or, zero, suc, ◌<◌, List, [], ◌∷◌, ◌++◌, sym, refl, ap, subst, ◌∙◌, arith}
use Rattle.std.specs.declared.cmp.Ordering.{Ordering}
use Rattle.std.specs.declared.cmp.Ordering.TheVariants.{Less, Greater}
use Rattle.std.proofs.lemmas.List.{append-nil}
use Rattle.ibp_algebra.specs.FormalSum.{AllKeys, AllBelow, IsCanonical, scale, normal_form}
use Rattle.ibp_algebra.proofs.Weights.{weighted_sum-append, SameCoefficients-from_weights}
use Rattle.ibp_algebra.proofs.Canonical.{Less-reverse}
use Rattle.ibp_algebra.proofs.Combinations.{AllKeys-weaker}
use Rattle.ibp_algebra.proofs.SumLaws.{SameCoefficients-refl}
use Rattle.ibp_algebra.proofs.ZeroDivisors.{AllKeys-append}
use Rattle.sparse_terms.proofs.Merging.{AllAbove, IsCanonical-append}
use Rattle.mono_order.specs.declared.limits.TheConstants.{VARIABLES, RUN_DEGREE}
use Rattle.mono_order.specs.Term.{Term, same_term, multiply_term, IsTerm}
use Rattle.mono_order.specs.TermOrder.{IsTermOrder}
use Rattle.mono_order.proofs.Terms.{terms_decide}
use Rattle.module_vec.specs.ModuleVector.{ModuleVector, IsVector, multiply_vector}
use Rattle.module_vec.specs.Division.{is_over_degree}
use Rattle.module_vec.proofs.Degrees.{AllKeys-within, within-AllKeys}
use Rattle.module_vec.proofs.Multiples.{AllKeys-map_keys}
use Rattle.module_vec.proofs.NormalForms.{is_normal_form, AllKeys-of_sum}
use Rattle.fast_division.specs.Dividends.{IsSplit}
use Rattle.fast_division.specs.PartialSums.{IsBounded}
use Rattle.fast_division.proofs.Totals.{AllKeys-of_append, IsBounded-zero, IsBounded-sum, IsBounded-multiple, normal_same, weight_of_normal, added_to_zero}

IsCanonical-of_append : (order : Term → Term → Ordering) (f g : ModuleVector) → IsCanonical order (f ++ g) → IsCanonical order f × IsCanonical order g
IsCanonical-of_append order [] g h = (tt, h)
IsCanonical-of_append order (t ∷ f) g h =
    let rest = IsCanonical-of_append order f g h.3 in
    ((h.0, h.1, (AllKeys-of_append (λ k. order t.0 k ≡ Greater) f g h.2).0, rest.0), rest.1)

-- both parts of a vector that is cut in two
pub IsVector-parts : (order : Term → Term → Ordering) (v h l : ModuleVector) → v ≡ h ++ l → IsVector order VARIABLES v → IsVector order VARIABLES h × IsVector order VARIABLES l
IsVector-parts order v h l whole k =
    let canonical = IsCanonical-of_append order h l (subst (IsCanonical order) whole k.canonical) in
    let terms = AllKeys-of_append (IsTerm VARIABLES) h l (subst (AllKeys (IsTerm VARIABLES)) whole k.terms) in
    (record { canonical = canonical.0; terms = terms.0 }, record { canonical = canonical.1; terms = terms.1 })

multiply-append : (m : List ℕ) (f g : ModuleVector) → multiply_vector m (f ++ g) ≡ multiply_vector m f ++ multiply_vector m g
multiply-append m [] g = refl
multiply-append m (t ∷ f) g = λ i. (multiply_term m t.0, t.1) ∷ multiply-append m f g i

scale-append : (c : ℕ) (f g : ModuleVector) → scale c (f ++ g) ≡ scale c f ++ scale c g
scale-append c [] g = refl
scale-append c (t ∷ f) g = λ i. (t.0, c * t.1) ∷ scale-append c f g i

-- a multiple is the sum of the multiples of both parts
multiple-parts : (c : ℕ) (m : List ℕ) (v h l : ModuleVector) → v ≡ h ++ l → scale c (multiply_vector m v) ≡ scale c (multiply_vector m h) ++ scale c (multiply_vector m l)
multiple-parts c m v h l whole =
    ap (λ (u : ModuleVector). scale c (multiply_vector m u)) whole ∙ ap (scale c) (multiply-append m h l) ∙ scale-append c (multiply_vector m h) (multiply_vector m l)

pub within-parts : (m : List ℕ) (v h l : ModuleVector) → v ≡ h ++ l → is_over_degree RUN_DEGREE (multiply_vector m v) ≡ false
    → (is_over_degree RUN_DEGREE (multiply_vector m h) ≡ false) × (is_over_degree RUN_DEGREE (multiply_vector m l) ≡ false)
within-parts m v h l whole k =
    let parts = AllKeys-of_append (λ t. sum t.1 ≤ RUN_DEGREE) (multiply_vector m h) (multiply_vector m l)
    (subst (AllKeys (λ t. sum t.1 ≤ RUN_DEGREE)) (ap (multiply_vector m) whole ∙ multiply-append m h l) (AllKeys-within RUN_DEGREE (multiply_vector m v) k))
    in
    (within-AllKeys RUN_DEGREE (multiply_vector m h) parts.0, within-AllKeys RUN_DEGREE (multiply_vector m l) parts.1)

-- a multiple has the components of the vector
kind-multiple : (high : ℕ → Bool) (kind : Bool) (m : List ℕ) (v : ModuleVector) → AllKeys (λ t. high t.0 ≡ kind) v → AllKeys (λ t. high t.0 ≡ kind) (multiply_vector m v)
kind-multiple high kind m v h = AllKeys-map_keys (λ t. high t.0 ≡ kind) (λ t. high t.0 ≡ kind) (multiply_term m) (λ t k. k) v h

-- a dense sum has no rest
IsSplit-whole : (order : Term → Term → Ordering) (high : ℕ → Bool) (a b r : ModuleVector) → IsSplit order high a b r true → (a ++ b) ++ r ≡ a ++ b
IsSplit-whole order high a b r h = ap (λ (u : ModuleVector). (a ++ b) ++ u) (h.dense refl) ∙ append-nil (a ++ b)

pub IsSplit-zero : (order : Term → Term → Ordering) (high : ℕ → Bool) (a b r : ModuleVector) → a ≡ [] → b ≡ [] → r ≡ [] → IsSplit order high a b r true
IsSplit-zero order high a b r p q s =
    record {
      above_bounded = subst (IsBounded order) (sym p) (IsBounded-zero order);
      below_bounded = subst (IsBounded order) (sym q) (IsBounded-zero order);
      above_high = subst (AllKeys (λ t. high t.0 ≡ true)) (sym p) tt;
      below_low = subst (AllKeys (λ t. high t.0 ≡ false)) (sym q) tt;
      dense = λ e. s;
      by_size = λ e. ap (λ (u : ModuleVector). u ++ b) p ∙ q;
    }

module _ {high : ℕ → Bool} {height : Term → ℕ} {bound : ℕ} (order : Term → Term → Ordering) (laws : IsTermOrder VARIABLES order high height bound) where
  above_below : (a b : ModuleVector) → AllKeys (λ t. high t.0 ≡ true) a → AllKeys (λ t. high t.0 ≡ false) b → AllAbove order a b
  above_below a b highs lows =
      AllKeys-weaker (λ s. high s.0 ≡ true) (λ s. AllBelow order s b) (λ s h. AllKeys-weaker (λ t. high t.0 ≡ false) (λ t. order s t ≡ Greater) (λ t l. laws.high_above s t h l) b lows) a highs

  -- high terms in front of low ones are a vector
  pub joined_bounded : (a b : ModuleVector) → IsBounded order a → IsBounded order b → AllKeys (λ t. high t.0 ≡ true) a → AllKeys (λ t. high t.0 ≡ false) b → IsBounded order (a ++ b)
  joined_bounded a b h k highs lows =
      record {
        vector = record {
          canonical = IsCanonical-append order a b h.vector.canonical k.vector.canonical (above_below a b highs lows);
          terms = AllKeys-append (IsTerm VARIABLES) a b h.vector.terms k.vector.terms;
        };
        within = AllKeys-append (λ t. sum t.1 ≤ RUN_DEGREE) a b h.within k.within;
      }

  -- a part of a sum with a multiple added is as it was, and has the kind of both
  pub part_added : (kind : Bool) (a h new : ModuleVector) (m : List ℕ) (c : ℕ) → length m ≡ VARIABLES → IsVector order VARIABLES h → is_over_degree RUN_DEGREE (multiply_vector m h) ≡ false
      → AllKeys (λ t. high t.0 ≡ kind) h → IsBounded order a → AllKeys (λ t. high t.0 ≡ kind) a → new ≡ normal_form order (a ++ scale c (multiply_vector m h))
      → IsBounded order new × AllKeys (λ t. high t.0 ≡ kind) new
  part_added kind a h new m c long vector within h_kind bounded a_kind is = (
    IsBounded-sum order laws a (multiply_vector m h) new c bounded (IsBounded-multiple order laws m h long vector within) is,
    AllKeys-of_sum laws (λ t. high t.0 ≡ kind) a (multiply_vector m h) new c is a_kind (kind-multiple high kind m h h_kind),
  )

  -- what is added to each part is added to the whole
  pub added_to_parts : (a b r v h l new_a new_b old : ModuleVector) (m : List ℕ) (c : ℕ) → v ≡ h ++ l → IsSplit order high a b r true → IsSplit order high new_a new_b r true → (a ++ b) ++ r ≡ old
      → new_a ≡ normal_form order (a ++ scale c (multiply_vector m h)) → new_b ≡ normal_form order (b ++ scale c (multiply_vector m l))
      → (new_a ++ new_b) ++ r ≡ normal_form order (old ++ scale c (multiply_vector m v))
  added_to_parts a b r v h l new_a new_b old m c whole before after old_is is_a is_b =
      let f = scale c (multiply_vector m h) in
      let g = scale c (multiply_vector m l) in
      IsSplit-whole order high new_a new_b r after
      ∙ is_normal_form laws (new_a ++ new_b) ((a ++ b) ++ (f ++ g)) (joined_bounded new_a new_b after.above_bounded after.below_bounded after.above_high after.below_low).vector.canonical
      (SameCoefficients-from_weights same_term terms_decide (new_a ++ new_b) ((a ++ b) ++ (f ++ g)) (λ w.
      let n = weight_of_normal order laws w new_a (a ++ f) is_a in
      let k = weight_of_normal order laws w new_b (b ++ g) is_b in
      record {
        same_residue = omega (
          arith,
          n.same_residue,
          k.same_residue,
          weighted_sum-append w new_a new_b,
          weighted_sum-append w (a ++ b) (f ++ g),
          weighted_sum-append w a b,
          weighted_sum-append w f g,
          weighted_sum-append w a f,
          weighted_sum-append w b g,
        );
      }))
      ∙ (λ i. normal_form order ((sym (IsSplit-whole order high a b r before) ∙ old_is) i ++ sym (multiple-parts c m v h l whole) i))

  -- the same where the second part goes to the whole
  pub added_later : (a b r v h l new_a old : ModuleVector) (m : List ℕ) (c : ℕ) → v ≡ h ++ l → IsSplit order high a b r true → (a ++ b) ++ r ≡ old
      → new_a ≡ normal_form order (a ++ scale c (multiply_vector m h))
      → normal_form order ((new_a ++ b) ++ scale c (multiply_vector m l)) ≡ normal_form order (old ++ scale c (multiply_vector m v))
  added_later a b r v h l new_a old m c whole before old_is is =
      let f = scale c (multiply_vector m h) in
      let g = scale c (multiply_vector m l) in
      normal_same order laws ((new_a ++ b) ++ g) ((a ++ b) ++ (f ++ g))
      (SameCoefficients-from_weights same_term terms_decide ((new_a ++ b) ++ g) ((a ++ b) ++ (f ++ g)) (λ w.
      let n = weight_of_normal order laws w new_a (a ++ f) is in
      record {
        same_residue = omega (
          arith,
          n.same_residue,
          weighted_sum-append w (new_a ++ b) g,
          weighted_sum-append w new_a b,
          weighted_sum-append w (a ++ b) (f ++ g),
          weighted_sum-append w a b,
          weighted_sum-append w f g,
          weighted_sum-append w a f,
        );
      }))
      ∙ (λ i. normal_form order ((sym (IsSplit-whole order high a b r before) ∙ old_is) i ++ sym (multiple-parts c m v h l whole) i))

  low_behind : (t : Term × ℕ) (v : ModuleVector) → IsCanonical order (t ∷ v) → high t.0.0 ≡ false → AllKeys (λ u. high u.0 ≡ false) (t ∷ v)
  low_behind t v h low = (low, AllKeys-weaker (λ u. order t.0 u ≡ Greater) (λ u. high u.0 ≡ false) (λ u above. not_high u (high u.0) refl above) v h.2)
    where
      not_high : (u : Term) (kind : Bool) → high u.0 ≡ kind → order t.0 u ≡ Greater → high u.0 ≡ false
      not_high u false is above = is
      not_high u true is above =
          let clash : Greater ≡ Less = sym (laws.high_above u t.0 is low) ∙ Less-reverse order laws.total t.0 u above in absurd (cc)

  -- the terms from a low one on are low
  pub low_from : (v : ModuleVector) (k : ℕ) (t : Term × ℕ) → IsCanonical order v → k < length v → t ≡ get_or v k t → high t.0.0 ≡ false → AllKeys (λ u. high u.0 ≡ false) (drop k v)
  low_from [] k t h within at low = absurd (omega (arith, within))
  low_from (u ∷ v) zero t h within at low = low_behind u v h (ap (λ (k : Term × ℕ). high k.0.0) (sym at) ∙ low)
  low_from (u ∷ v) (suc k) t h within at low = low_from v k t h.3 (omega arith) at low

  -- what is in parts is a vector
  pub IsSplit-bounded : (a b r : ModuleVector) (is_dense : Bool) → IsSplit order high a b r is_dense → a ++ b ≢ [] → IsBounded order ((a ++ b) ++ r)
  IsSplit-bounded a b r true h some =
      subst (IsBounded order) (sym (IsSplit-whole order high a b r h)) (joined_bounded a b h.above_bounded h.below_bounded h.above_high h.below_low)
  IsSplit-bounded a b r false h some = absurd (some (h.by_size refl))

  -- a vector added to zero
  pub one_added : (zero_is v w : ModuleVector) (m : List ℕ) (c : ℕ) → m ≡ replicate VARIABLES 0 → c ≡ 1 → zero_is ≡ [] → v ≡ w → IsBounded order w → normal_form order (zero_is ++ scale c (multiply_vector m v)) ≡ w
  one_added zero_is v w m c m_is c_is none v_is h =
      (λ i. normal_form order (none i ++ scale (c_is i) (multiply_vector (m_is i) (v_is i))))
      ∙ added_to_zero order laws [] (scale 1 (multiply_vector (replicate VARIABLES 0) w)) w h.vector refl (SameCoefficients-refl same_term (scale 1 (multiply_vector (replicate VARIABLES 0) w)))

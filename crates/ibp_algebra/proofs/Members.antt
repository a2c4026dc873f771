-- Members of spans: sums, multiples and rows are members, and a span of members adds nothing.
use Rattle.std.proofs.Common.{◌≡◌, ◌≢◌, ℕ, Bool, [], ◌∷◌, ◌++◌, sym, ap, ◌∙◌}
use Rattle.std.specs.Ordering.{eq_by_cmp}
use Rattle.std.specs.declared.cmp.Ordering.{Ordering}
use Rattle.std.specs.Cmp.{IsTotalOrder, Equal-is}
use Rattle.std.specs.FinMap.{IsAntisymmetric}
use Rattle.std.specs.Bool.{Decides}
use Rattle.ibp_algebra.specs.FormalSum.{FormalSum, AllKeys, scale}
use Rattle.ibp_algebra.proofs.Canonical.{order_refl}
use Rattle.ibp_algebra.proofs.Terms.{CountingKeys, coefficient-CountingKeys}
use Rattle.ibp_algebra.proofs.ZeroDivisors.{AllKeys-append, AllKeys-scale}
use Rattle.ibp_algebra.proofs.SumLaws.{SameCoefficients-refl, SameCoefficients-sym, SameCoefficients-trans, SameCoefficients-append, SameCoefficients-scale}
use Rattle.ibp_algebra.specs.Combination.{combination}
use Rattle.ibp_algebra.specs.Spans.{SameSum, InSpan, coefficient_by}
use Rattle.ibp_algebra.proofs.CombinationLaws.{combination-append, combination-scale, combination-one}
use Rattle.ibp_algebra.proofs.Combinations.{AllKeys-weaker}

-- neither is higher exactly where the keys are equal
pub order_decides : {K : Type 0} (order : K → K → Ordering) → IsTotalOrder order → IsAntisymmetric order → (a b : K) → Decides (eq_by_cmp order a b) (a ≡ b)
order_decides order total unique a b =
    (λ e. unique a b ((Equal-is (order a b)).0 e), λ e. (Equal-is (order a b)).1 (ap (order a) (sym e) ∙ order_refl order total a))

module _ {K : Type 0} (order : K → K → Ordering) (total : IsTotalOrder order) (unique : IsAntisymmetric order) where
  abbrev same : K → K → Bool
  same = eq_by_cmp order

  decides : (a b : K) → Decides (same a b) (a ≡ b)
  decides = order_decides order total unique

  module _ {I : Type 0} (row : I → FormalSum K) (Among : I → Type 0) where
    pub InSpan-zero : InSpan order row Among []
    InSpan-zero = record { weights = []; among = tt; equal = SameCoefficients-refl same [] }

    pub InSpan-row : (i : I) → Among i → InSpan order row Among (row i)
    InSpan-row i h = record { weights = (i, 1) ∷ []; among = (h, tt); equal = combination-one same decides row i }

    pub InSpan-same : {f g : FormalSum K} → SameSum order f g → InSpan order row Among f → InSpan order row Among g
    InSpan-same e h = record { weights = h.weights; among = h.among; equal = SameCoefficients-trans (SameCoefficients-sym e) h.equal }

    pub InSpan-append : {f g : FormalSum K} → InSpan order row Among f → InSpan order row Among g → InSpan order row Among (f ++ g)
    InSpan-append h k = record {
      weights = h.weights ++ k.weights;
      among = AllKeys-append Among h.weights k.weights h.among k.among;
      equal = SameCoefficients-trans (SameCoefficients-append same decides h.equal k.equal) (SameCoefficients-sym (combination-append same decides row h.weights k.weights));
    }

    pub InSpan-scale : {f : FormalSum K} (a : ℕ) → InSpan order row Among f → InSpan order row Among (scale a f)
    InSpan-scale a h = record {
      weights = scale a h.weights;
      among = AllKeys-scale Among a h.weights h.among;
      equal = SameCoefficients-trans (SameCoefficients-scale same decides a h.equal) (SameCoefficients-sym (combination-scale same decides row a h.weights));
    }

  -- a combination of members is a member
  pub InSpan-combination : {I J : Type 0} (row : I → FormalSum K) (Among : I → Type 0) (inner : J → FormalSum K) (Within : J → Type 0)
      → ((j : J) → Within j → InSpan order row Among (inner j)) → (c : FormalSum J) → AllKeys Within c → InSpan order row Among (combination inner c)
  InSpan-combination row Among inner Within member [] p = InSpan-zero row Among
  InSpan-combination row Among inner Within member (t ∷ c) p =
      InSpan-append row Among (InSpan-scale row Among t.1 (member t.0 p.0)) (InSpan-combination row Among inner Within member c p.1)

  pub InSpan-trans : {I J : Type 0} (row : I → FormalSum K) (Among : I → Type 0) (inner : J → FormalSum K) (Within : J → Type 0)
      → ((j : J) → Within j → InSpan order row Among (inner j)) → {f : FormalSum K} → InSpan order inner Within f → InSpan order row Among f
  InSpan-trans row Among inner Within member h =
      InSpan-same row Among (SameCoefficients-sym h.equal) (InSpan-combination row Among inner Within member h.weights h.among)

  -- more names give a larger span
  pub InSpan-along : {I : Type 0} (row : I → FormalSum K) (P Q : I → Type 0) → ((i : I) → P i → Q i) → {f : FormalSum K}
      → InSpan order row P f → InSpan order row Q f
  InSpan-along row P Q h s = record { weights = s.weights; among = AllKeys-weaker P Q h s.weights s.among; equal = s.equal }

-- a set of formal sums that is closed under sums and multiples
pub record IsSubspace {K : Type 0} (order : K → K → Ordering) (V : FormalSum K → Type 0) : Type 0 where
  pub none : V []
  pub append : (f g : FormalSum K) → V f → V g → V (f ++ g)
  pub multiple : (a : ℕ) (f : FormalSum K) → V f → V (scale a f)
  pub alike : (f g : FormalSum K) → SameSum order f g → V f → V g

pub InSpan-IsSubspace : {I K : Type 0} (order : K → K → Ordering) → IsTotalOrder order → IsAntisymmetric order → (row : I → FormalSum K) (Among : I → Type 0)
    → IsSubspace order (InSpan order row Among)
InSpan-IsSubspace order total unique row Among = record {
  none = InSpan-zero order total unique row Among;
  append = λ f g h k. InSpan-append order total unique row Among h k;
  multiple = λ a f h. InSpan-scale order total unique row Among a h;
  alike = λ f g e h. InSpan-same order total unique row Among e h;
}

pub combination_in : {I K : Type 0} (order : K → K → Ordering) (V : FormalSum K → Type 0) → IsSubspace order V → (row : I → FormalSum K) (P : I → Type 0)
    → ((i : I) → P i → V (row i)) → (c : FormalSum I) → AllKeys P c → V (combination row c)
combination_in order V space row P member [] p = space.none
combination_in order V space row P member (t ∷ c) p =
    space.append (scale t.1 (row t.0)) (combination row c) (space.multiple t.1 (row t.0) (member t.0 p.0)) (combination_in order V space row P member c p.1)

all_counting : {K : Type 0} (P : K → Type 0) (f : FormalSum K) → AllKeys P f → CountingKeys P f
all_counting P [] h = tt
all_counting P (t ∷ f) h = (λ _. h.0, all_counting P f h.1)

-- a key with a coefficient that is not zero has what all keys have
pub AllKeys-counting : {K : Type 0} (order : K → K → Ordering) → IsTotalOrder order → IsAntisymmetric order → (P : K → Type 0) (f : FormalSum K) → AllKeys P f
    → (key : K) → coefficient_by order f key ≢ 0 → P key
AllKeys-counting order total unique P f h key counts = coefficient-CountingKeys (eq_by_cmp order) (order_decides order total unique) P f (all_counting P f h) key counts

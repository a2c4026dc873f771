-- What `append_term` leaves, by the last term of the list.
use Rattle.std.proofs.Common.{◌≡◌, ℕ, ◌+◌, ◌-◌, ◌%◌, Bool, true, false, Option, Some, None, length, take, [], ◌++◌, sym, ap, subst, ◌∙◌}
use Rattle.std.specs.Bool.{Decides}
use Rattle.std.specs.List.{slice_get}
use Rattle.ibp_algebra.specs.FormalSum.{FormalSum, with_term}
use Rattle.sparse_terms.proofs.Joining.{join_last, join_last-same, join_last-other, join_last-none}

module _ {K : Type 0} (same : K → K → Bool) (decides : (a b : K) → Decides (same a b) (a ≡ b)) where
  pub joined_same : (f rest items : FormalSum K) (last : Option (K × ℕ)) (u : K × ℕ) (k : K) (c sum n : ℕ)
      → items ≡ f → last ≡ slice_get items (length items - 1) → Some u ≡ last → same u.0 k ≡ true
      → n ≡ length f → rest ≡ take (n - 1) f → sum ≡ (u.1 + c) % 2147483647
      → rest ++ with_term (k, sum) [] ≡ join_last same f (k, c)
  joined_same f rest items last u k c sum n is at some tied long front value =
      let found : slice_get f (length f - 1) ≡ Some u = subst (λ (g : FormalSum K). slice_get g (length g - 1) ≡ Some u) is (sym at ∙ sym some) in
      let key : u.0 ≡ k = (decides u.0 k).0 tied in
      let whole : rest ≡ take (length f - 1) f = front ∙ ap (λ l. take (l - 1) f) long in
      (λ i. whole i ++ with_term (sym key i, value i) []) ∙ sym (join_last-same same f u k c found tied)

  pub joined_other : (f items : FormalSum K) (last : Option (K × ℕ)) (u : K × ℕ) (k : K) (c : ℕ)
      → items ≡ f → last ≡ slice_get items (length items - 1) → Some u ≡ last → same u.0 k ≡ false
      → f ++ with_term (k, c) [] ≡ join_last same f (k, c)
  joined_other f items last u k c is at some other =
      let found : slice_get f (length f - 1) ≡ Some u = subst (λ (g : FormalSum K). slice_get g (length g - 1) ≡ Some u) is (sym at ∙ sym some) in
      sym (join_last-other same f u (k, c) found other)

  pub joined_none : (f items : FormalSum K) (last : Option (K × ℕ)) (k : K) (c : ℕ)
      → items ≡ f → last ≡ slice_get items (length items - 1) → None ≡ last → f ++ with_term (k, c) [] ≡ join_last same f (k, c)
  joined_none f items last k c is at none =
      let found : slice_get f (length f - 1) ≡ None = subst (λ (g : FormalSum K). slice_get g (length g - 1) ≡ None) is (sym at ∙ sym none) in
      sym (join_last-none same f (k, c) found)

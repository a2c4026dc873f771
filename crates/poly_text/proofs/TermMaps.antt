-- A canonical sum as the entries of a map, the greatest key first: what a look-up finds, a term that is added,
-- and the number of terms.
use Rattle.std.proofs.Common.{◌≡◌, ℕ, ◌+◌, ◌%◌, ◌<◌, ◌≤◌, Bool, true, false, None, [], ◌∷◌, length, refl, sym, ap, subst, ◌∙◌, zero-add, add_comm, arith}
use Rattle.std.specs.Prelude.{◌==◌, if◌then◌else◌}
use Rattle.std.specs.declared.cmp.Ordering.{Ordering}
use Rattle.std.specs.declared.cmp.Ordering.TheVariants.{Less, Equal, Greater}
use Rattle.std.specs.Ordering.{eq_by_cmp, is_eq, ordering_reverse}
use Rattle.std.specs.Option.{unwrap_or}
use Rattle.std.specs.Cmp.{IsTotalOrder}
use Rattle.std.specs.FinMap.{IsAntisymmetric}
use Rattle.std.specs.Map.{lookup, remove_entry}
use Rattle.std.specs.BTreeMap.{insert_entry}
use Rattle.std.proofs.lemmas.Bool.Decides.{Decides-eqb}
use Rattle.ibp_algebra.specs.FormalSum.{FormalSum, weighted_sum, AllBelow, IsCanonical, with_term, insert_term}
use Rattle.ibp_algebra.specs.Spans.{coefficient_by}
use Rattle.ibp_algebra.proofs.Weights.{unit_weight}
use Rattle.ibp_algebra.proofs.Members.{order_decides}
use Rattle.ibp_algebra.proofs.Canonical.{Less-reverse, Greater-reverse, AllBelow-trans, coefficient-above}
use Rattle.poly_text.specs.Sum.{terms_of}

with_term-zero : {K : Type 0} (k : K) (c : ℕ) (f : FormalSum K) → c % 2147483647 ≡ 0 → with_term (k, c) f ≡ f
with_term-zero k c f h = rw h refl

with_term-if : {K : Type 0} (k : K) (c d : ℕ) (f : FormalSum K) (b : Bool) → (d == 0) ≡ b → ¬ (d ≡ 0) → (if b then f else ((k, d) ∷ f)) ≡ (k, d) ∷ f
with_term-if k c d f true e other = absurd (other ((Decides-eqb d 0).0 e))
with_term-if k c d f false e other = refl

with_term-other : {K : Type 0} (k : K) (c d : ℕ) (f : FormalSum K) → d ≡ c % 2147483647 → ¬ (d ≡ 0) → with_term (k, c) f ≡ (k, d) ∷ f
with_term-other k c d f is other = rw (← is) (with_term-if k c d f (d == 0) refl other)

at_zero : (c : ℕ) → (0 + c) % 2147483647 ≡ c % 2147483647
at_zero c = ap (λ n. n % 2147483647) (zero-add c)

turned : (a b : ℕ) → (a + b) % 2147483647 ≡ (b + a) % 2147483647
turned a b = ap (λ n. n % 2147483647) (add_comm a b)

length_if : {K : Type 0} (t : K × ℕ) (f : FormalSum K) (b : Bool) → length (if b then f else (t ∷ f)) ≡ length f + (if b then 0 else 1)
length_if t f true = omega arith
length_if t f false = omega arith

length-with_term : {K : Type 0} (k : K) (c : ℕ) (f : FormalSum K) → length (with_term (k, c) f) ≡ length f + terms_of (c % 2147483647)
length-with_term k c f = length_if (k, c % 2147483647) f (c % 2147483647 == 0)

one_if : (b : Bool) → (if b then 0 else 1) ≤ 1
one_if true = omega arith
one_if false = omega arith

one_of_some : (c : ℕ) (b : Bool) → (c == 0) ≡ b → 0 < c → ◌≡◌ {A = ℕ} (if b then 0 else 1) 1
one_of_some c true e h = absurd (omega (arith, (Decides-eqb c 0).0 e))
one_of_some c false e h = refl

terms_of-some : (c : ℕ) → 0 < c → terms_of c ≡ 1
terms_of-some c h = one_of_some c (c == 0) refl h

module _ {K : Type 0} (order : K → K → Ordering) (total : IsTotalOrder order) where
  -- the order of the keys, the greatest first, and the test for a key that a look-up makes
  abbrev pub descending : K → K → Ordering
  descending k l = order l k

  abbrev pub is_key : K → K → Bool
  is_key k l = is_eq (order l k)

  lookup-below : (k : K) (f : FormalSum K) → AllBelow order k f → lookup (is_key k) f ≡ None
  lookup-below k [] h = refl
  lookup-below k (t ∷ f) h = rw (Less-reverse order total k t.0 h.0) (lookup-below k f h.1)

  remove_entry-below : (k : K) (f : FormalSum K) → AllBelow order k f → remove_entry (is_key k) f ≡ f
  remove_entry-below k [] h = refl
  remove_entry-below k (t ∷ f) h = rw (Less-reverse order total k t.0 h.0) (ap (λ (g : FormalSum K). t ∷ g) (remove_entry-below k f h.1))

  -- the coefficient of a key, with c more
  abbrev pub raised : FormalSum K → K → ℕ → ℕ
  raised f k c = (unwrap_or (lookup (is_key k) f) 0 + c) % 2147483647

  removed_at : (t : K × ℕ) (f : FormalSum K) (k : K) (c : ℕ) (r : Ordering) → order t.0 k ≡ r → AllBelow order t.0 f → raised (t ∷ f) k c ≡ 0
      → (raised f k c ≡ 0 → remove_entry (is_key k) f ≡ insert_term order (k, c) f) → remove_entry (is_key k) (t ∷ f) ≡ insert_term order (k, c) (t ∷ f)
  removed_at t f k c Less is below none rest =
      let before : order k t.0 ≡ Greater = Greater-reverse order total t.0 k is in
      let others : AllBelow order k f = AllBelow-trans order total k t.0 f before below in
      let zero : c % 2147483647 ≡ 0 = sym (at_zero c) ∙ rw (is, lookup-below k f others) at none in
      rw (is, before, remove_entry-below k f others) (sym (with_term-zero k c (t ∷ f) zero))
  removed_at t f k c Equal is below none rest =
      let same : order k t.0 ≡ Equal = total.antisymm k t.0 ∙ ap ordering_reverse is in
      let zero : (c + t.1) % 2147483647 ≡ 0 = turned c t.1 ∙ rw is at none in
      rw (is, same) (sym (with_term-zero t.0 (c + t.1) f zero))
  removed_at t f k c Greater is below none rest =
      rw (is, Less-reverse order total t.0 k is) (ap (λ (g : FormalSum K). t ∷ g) (rest (rw is at none)))

  pub removed : (f : FormalSum K) (k : K) (c : ℕ) → IsCanonical order f → raised f k c ≡ 0 → remove_entry (is_key k) f ≡ insert_term order (k, c) f
  removed [] k c h none = sym (with_term-zero k c [] (sym (at_zero c) ∙ none))
  removed (t ∷ f) k c h none = removed_at t f k c (order t.0 k) refl h.2 none (λ e. removed f k c h.3 e)

  inserted_at : (t : K × ℕ) (f : FormalSum K) (k : K) (c d : ℕ) (r : Ordering) → order t.0 k ≡ r → AllBelow order t.0 f → d ≡ raised (t ∷ f) k c → ¬ (d ≡ 0)
      → (d ≡ raised f k c → insert_entry descending f k d ≡ insert_term order (k, c) f) → insert_entry descending (t ∷ f) k d ≡ insert_term order (k, c) (t ∷ f)
  inserted_at t f k c d Less is below sum some rest =
      let before : order k t.0 ≡ Greater = Greater-reverse order total t.0 k is in
      let value : d ≡ c % 2147483647 = rw (is, lookup-below k f (AllBelow-trans order total k t.0 f before below)) at sum ∙ at_zero c in
      rw (is, before) (sym (with_term-other k c d (t ∷ f) value some))
  inserted_at t f k c d Equal is below sum some rest =
      let same : order k t.0 ≡ Equal = total.antisymm k t.0 ∙ ap ordering_reverse is in
      let value : d ≡ (c + t.1) % 2147483647 = rw is at sum ∙ sym (turned c t.1) in
      rw (is, same) (sym (with_term-other t.0 (c + t.1) d f value some))
  inserted_at t f k c d Greater is below sum some rest =
      rw (is, Less-reverse order total t.0 k is) (ap (λ (g : FormalSum K). t ∷ g) (rest (rw is at sum)))

  pub inserted : (f : FormalSum K) (k : K) (c d : ℕ) → IsCanonical order f → d ≡ raised f k c → ¬ (d ≡ 0) → insert_entry descending f k d ≡ insert_term order (k, c) f
  inserted [] k c d h sum some = sym (with_term-other k c d [] (sum ∙ at_zero c) some)
  inserted (t ∷ f) k c d h sum some = inserted_at t f k c d (order t.0 k) refl h.2 sum some (λ e. inserted f k c d h.3 e some)

  -- the coefficient that a look-up finds
  abbrev pub found_at : FormalSum K → K → ℕ
  found_at f k = unwrap_or (lookup (is_key k) f) 0

  length_at : (t : K × ℕ) (f : FormalSum K) (k : K) (c : ℕ) (r : Ordering) → order t.0 k ≡ r → IsCanonical order (t ∷ f)
      → length (insert_term order (k, c) f) + terms_of (found_at f k) ≡ length f + terms_of (raised f k c)
      → length (insert_term order (k, c) (t ∷ f)) + terms_of (found_at (t ∷ f) k) ≡ length (t ∷ f) + terms_of (raised (t ∷ f) k c)
  length_at t f k c Less is h rest =
      let before : order k t.0 ≡ Greater = Greater-reverse order total t.0 k is in
      rw (is, before, lookup-below k f (AllBelow-trans order total k t.0 f before h.2)) (omega (arith, length-with_term k c (t ∷ f), ap terms_of (at_zero c)))
  length_at t f k c Equal is h rest =
      let same : order k t.0 ≡ Equal = total.antisymm k t.0 ∙ ap ordering_reverse is in
      rw (is, same) (omega (arith, length-with_term t.0 (c + t.1) f, ap terms_of (turned c t.1), terms_of-some t.1 h.0))
  length_at t f k c Greater is h rest = rw (is, Less-reverse order total t.0 k is) (omega (arith, rest))

  -- the number of terms after one more term
  pub length-insert_term : (f : FormalSum K) (k : K) (c : ℕ) → IsCanonical order f
      → length (insert_term order (k, c) f) + terms_of (found_at f k) ≡ length f + terms_of (raised f k c)
  length-insert_term [] k c h = omega (arith, length-with_term k c [], ap terms_of (at_zero c))
  length-insert_term (t ∷ f) k c h = length_at t f k c (order t.0 k) refl h (length-insert_term f k c h.3)

  pub terms_of-found_at : (f : FormalSum K) (k : K) → terms_of (found_at f k) ≤ length f
  terms_of-found_at [] k = omega arith
  terms_of-found_at (t ∷ f) k = omega (arith, one_if (found_at (t ∷ f) k == 0))

  module _ (unique : IsAntisymmetric order) where
    coefficient_in : (t : K × ℕ) (f : FormalSum K) (k : K) (r : Ordering) → order t.0 k ≡ r → IsCanonical order (t ∷ f)
        → found_at f k ≡ coefficient_by order f k → found_at (t ∷ f) k ≡ coefficient_by order (t ∷ f) k
    coefficient_in t f k Less is h rest =
        let before : order k t.0 ≡ Greater = Greater-reverse order total t.0 k is in
        let others : AllBelow order k f = AllBelow-trans order total k t.0 f before h.2 in
        let none : weighted_sum (unit_weight (eq_by_cmp order) k) f ≡ 0 = coefficient-above order total (eq_by_cmp order) (order_decides order total unique) k f others in
        rw (is, lookup-below k f others) (omega (arith, none))
    coefficient_in t f k Equal is h rest =
        let below : AllBelow order k f = subst (λ l. AllBelow order l f) (unique t.0 k is) h.2 in
        let none : weighted_sum (unit_weight (eq_by_cmp order) k) f ≡ 0 = coefficient-above order total (eq_by_cmp order) (order_decides order total unique) k f below in
        rw is (omega (arith, none, h.1))
    coefficient_in t f k Greater is h rest = rw is (omega (arith, rest))

    pub found_at-coefficient : (f : FormalSum K) (k : K) → IsCanonical order f → found_at f k ≡ coefficient_by order f k
    found_at-coefficient [] k h = refl
    found_at-coefficient (t ∷ f) k h = coefficient_in t f k (order t.0 k) refl h (found_at-coefficient f k h.3)

-- Texts that stand in front of bytes, of which the bytes tell where they end.
use Rattle.std.proofs.Common.{◌≡◌, ◌≢◌, ℕ, suc, ◌^◌, ◌<◌, List, [], ◌∷◌, ◌++◌, refl, sym, ap, ap₂, ◌∙◌, append_assoc, arith}
use Rattle.std.specs.Prelude.{codes, decimal, pos, negsuc, neg_ℤ, ◌≤ℤ◌}
use Rattle.std.specs.Fmt.{signed_decimal}
use Rattle.std.specs.List.{AllByRecursion}
use Rattle.std.proofs.lemmas.Fmt.{digits_value-decimal}
use Rattle.std.proofs.lemmas.Int.{ints}
use Rattle.std.proofs.lemmas.List.{append_cancel_left}
use Rattle.sector_lattice.specs.declared.integral.TheConstants.{POWER}
use Rattle.line_reader.specs.Entries.{more, separated}
use Rattle.line_reader.specs.Fronts.{EndsNumber, whole_value}
use Rattle.line_reader.proofs.Digits.{own, digits_front}
use Rattle.line_reader.proofs.Separated.{ends_more}
use Rattle.system_text.specs.Integrals.{IsPower}
use Rattle.system_text.proofs.Cuts.{number_first}

-- equal bytes begin with texts of the same value
abbrev pub IsFront : {A : Type 0} → (A → List ℕ) → (List ℕ → Type 0) → (A → Type 0) → Type 0
IsFront {A} text Ends IsValue = (a b : A) (r s : List ℕ) → IsValue a → IsValue b → Ends r → Ends s → text a ++ r ≡ text b ++ s → (a ≡ b) × (r ≡ s)

abbrev pub IsNarrow : ℕ → Type 0
IsNarrow k = k < 2 ^ 32

same_decimal : (a b : ℕ) → IsNarrow a → IsNarrow b → decimal a ≡ decimal b → a ≡ b
same_decimal a b small small_b e =
    sym (digits_value-decimal own a (omega arith)) ∙ ap whole_value e ∙ digits_value-decimal own b (omega arith)

pub number_front : IsFront decimal EndsNumber IsNarrow
number_front a b r s small small_b ends ends_b e =
    let first = digits_front a r (decimal a ++ r) small ends refl in
    let second = digits_front b s (decimal a ++ r) small_b ends_b e in
    (same_decimal a b small small_b (sym first.0 ∙ second.0), sym first.1 ∙ second.1)

-- a word behind two numbers
pub number_word : (word : List ℕ) (a b : ℕ) (r s : List ℕ) → ((t : List ℕ) → EndsNumber (word ++ t)) → IsNarrow a → IsNarrow b
    → decimal a ++ (word ++ r) ≡ decimal b ++ (word ++ s) → (a ≡ b) × (r ≡ s)
number_word word a b r s ends small small_b e =
    let both = number_front a b (word ++ r) (word ++ s) small small_b (ends r) (ends s) e in
    (both.0, append_cancel_left word r s both.1)

narrow_power : (k : ℕ) → pos k ≤ℤ POWER → IsNarrow k
narrow_power k h = omega (arith, ints)

narrow_negative : (k : ℕ) → neg_ℤ POWER ≤ℤ negsuc k → IsNarrow (suc k)
narrow_negative k h = omega (arith, ints)

pub power_front : (n : ℕ) → IsFront signed_decimal EndsNumber (IsPower n)
power_front n (pos a) (pos b) r s is is_b ends ends_b e =
    let same = number_front a b r s (narrow_power a is.high) (narrow_power b is_b.high) ends ends_b e in
    (ap pos same.0, same.1)
power_front n (pos a) (negsuc b) r s is is_b ends ends_b e =
    let small = narrow_power a is.high in
    absurd (number_first a 45 r (decimal (suc b) ++ s) (omega arith) refl e)
power_front n (negsuc a) (pos b) r s is is_b ends ends_b e =
    let small = narrow_power b is_b.high in
    absurd (number_first b 45 s (decimal (suc a) ++ r) (omega arith) refl (sym e))
power_front n (negsuc a) (negsuc b) r s is is_b ends ends_b e =
    let same = number_front (suc a) (suc b) r s (narrow_negative a is.low) (narrow_negative b is_b.low) ends ends_b (append_cancel_left (codes "-") _ _ e) in
    let one : a ≡ b = omega (arith, same.0) in
    (ap negsuc one, same.1)

-- a list of entries ends in front of these bytes
pub record EndsList (separator : List ℕ) (Ends : List ℕ → Type 0) (rest : List ℕ) : Type 0 where
  pub entry : Ends rest
  pub no_more : (r : List ℕ) → rest ≢ separator ++ r

module _ {A : Type 0} (text : A → List ℕ) (separator : List ℕ) (Ends : List ℕ → Type 0) (IsValue : A → Type 0)
    (front : IsFront text Ends IsValue) (behind : (r : List ℕ) → Ends (separator ++ r)) where
  one_more : (x : A) (xs : List A) (r : List ℕ) → more text separator (x ∷ xs) ++ r ≡ separator ++ (text x ++ (more text separator xs ++ r))
  one_more x xs r = append_assoc (separator ++ text x) (more text separator xs) r ∙ append_assoc separator (text x) (more text separator xs ++ r)

  pub more_front : (xs ys : List A) (r s : List ℕ) → AllByRecursion IsValue xs → AllByRecursion IsValue ys → EndsList separator Ends r → EndsList separator Ends s
      → more text separator xs ++ r ≡ more text separator ys ++ s → (xs ≡ ys) × (r ≡ s)
  more_front [] [] r s are are_b ends ends_b e = (refl, e)
  more_front [] (y ∷ ys) r s are are_b ends ends_b e = absurd (ends.no_more (text y ++ (more text separator ys ++ s)) (e ∙ one_more y ys s))
  more_front (x ∷ xs) [] r s are are_b ends ends_b e = absurd (ends_b.no_more (text x ++ (more text separator xs ++ r)) (sym e ∙ one_more x xs r))
  more_front (x ∷ xs) (y ∷ ys) r s are are_b ends ends_b e =
      let inside = append_cancel_left separator (text x ++ (more text separator xs ++ r)) (text y ++ (more text separator ys ++ s)) (sym (one_more x xs r) ∙ e ∙ one_more y ys s) in
      let first = front x y (more text separator xs ++ r) (more text separator ys ++ s) are.0 are_b.0
      (ends_more text separator Ends xs r ends.entry behind) (ends_more text separator Ends ys s ends_b.entry behind) inside in
      let others = more_front xs ys r s are.1 are_b.1 ends ends_b first.1 in
      (ap₂ (λ (a : A) (b : List A). a ∷ b) first.0 others.0, others.1)

  pub entries_front : (x y : A) (xs ys : List A) (r s : List ℕ) → AllByRecursion IsValue (x ∷ xs) → AllByRecursion IsValue (y ∷ ys) → EndsList separator Ends r → EndsList separator Ends s
      → separated text separator x xs ++ r ≡ separated text separator y ys ++ s → (◌≡◌ {A = List A} (x ∷ xs) (y ∷ ys)) × (r ≡ s)
  entries_front x y xs ys r s are are_b ends ends_b e =
      let first = front x y (more text separator xs ++ r) (more text separator ys ++ s) are.0 are_b.0
      (ends_more text separator Ends xs r ends.entry behind) (ends_more text separator Ends ys s ends_b.entry behind)
      (sym (append_assoc (text x) (more text separator xs) r) ∙ e ∙ append_assoc (text y) (more text separator ys) s) in
      let others = more_front xs ys r s are.1 are_b.1 ends ends_b first.1 in
      (ap₂ (λ (a : A) (b : List A). a ∷ b) first.0 others.0, others.1)

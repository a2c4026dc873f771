-- Lists joined one after the other: what they contain, their order and their length.
use Rattle.std.proofs.Common.{◌≡◌, ◌⊎◌, ℕ, zero, suc, ◌+◌, ◌<◌, List, ◌++◌, length, refl, ◌∙◌, ap, subst, inl, inr, arith, length-append}
use Rattle.std.specs.Prelude.{Contains}
use Rattle.std.specs.declared.cmp.Ordering.{Ordering}
use Rattle.std.specs.declared.cmp.Ordering.TheVariants.{Less}
use Rattle.std.specs.List.Sorted.{IsStrictlySortedBy}
use Rattle.std.proofs.lemmas.List.Elements.{Contains-append_left, Contains-append_right, Contains-append_cases}
use Rattle.ibp_base.proofs.Members.{in_none}
use Rattle.ibp_base.proofs.Ascending.{sorted_none, sorted_append}
use Rattle.sector_lattice.specs.Layers.{joined}
use Rattle.sector_lattice.proofs.Counting.{sum_below}

pub from_joined : {X : Type 0} (f : ℕ → List X) (n : ℕ) (x : X) → Contains (joined f n) x → (i : ℕ) × ((i < n) × Contains (f i) x)
unfolding joined
from_joined f zero x h = absurd (in_none x h)
from_joined {X} f (suc n) x h =
    elim (Contains-append_cases (joined f n) (f n) x h) [
      | inl front ↦ (let found : (i : ℕ) × ((i < n) × Contains (f i) x) = from_joined f n x front in (found.0, (omega (arith, found.1.0), found.1.1)))
      | inr back ↦ (n, (omega arith, back))
    ]

pub in_joined : {X : Type 0} (f : ℕ → List X) (n i : ℕ) (x : X) → i < n → Contains (f i) x → Contains (joined f n) x
unfolding joined
in_joined f zero i x below h = absurd (omega arith)
in_joined {X} f (suc n) i x below h =
    elim (last_or_less i n below) [
      | inl less ↦ Contains-append_left (joined f n) (f n) x (in_joined f n i x less h)
      | inr last ↦ Contains-append_right (joined f n) (f n) x (let P : ℕ → Type 0 = λ j. Contains (f j) x in subst P last h)
    ]
  where
    last_or_less : (i n : ℕ) → i < suc n → (i < n) ⊎ (i ≡ n)
    last_or_less i n h = grind arith

pub joined_sorted : {X : Type 0} (cmp : X → X → Ordering) (f : ℕ → List X) (n : ℕ) → ((i : ℕ) → i < n → IsStrictlySortedBy cmp (f i)) → ((i j : ℕ) (x y : X) → i < j → j < n → Contains (f i) x → Contains (f j) y → cmp x y ≡ Less) → IsStrictlySortedBy cmp (joined f n)
unfolding joined
joined_sorted cmp f zero each across = sorted_none cmp
joined_sorted {X} cmp f (suc n) each across =
    sorted_append cmp (joined f n) (f n)
    (joined_sorted cmp f n (λ i below. each i (omega arith)) (λ i j x y less below. across i j x y less (omega arith)))
    (each n (omega arith))
    (λ x y inside here. let found : (i : ℕ) × ((i < n) × Contains (f i) x) = from_joined f n x inside in across found.0 n x y found.1.0 (omega arith) found.1.1 here)

pub joined_more : {X : Type 0} (f : ℕ → List X) (n : ℕ) → joined f (n + 1) ≡ joined f n ++ f n
unfolding joined
joined_more f n = ap (λ m. joined f m) (let e : n + 1 ≡ suc n = omega arith in e)

pub length-joined : {X : Type 0} (f : ℕ → List X) (n : ℕ) → length (joined f n) ≡ sum_below (λ i. length (f i)) n
unfolding joined sum_below
length-joined f zero = refl
length-joined f (suc n) = length-append (joined f n) (f n) ∙ ap (λ m. m + length (f n)) (length-joined f n)

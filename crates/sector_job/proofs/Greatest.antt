-- The greatest value at the integrals of a list, one more integral at a time.
use Rattle.std.proofs.Common.{◌≡◌, ℕ, ◌+◌, ◌<◌, ◌≤◌, List, [], ◌∷◌, ◌++◌, length, get_or, take, refl, sym, ◌∙◌, ap, arith}
use Rattle.std.specs.Prelude.{max}
use Rattle.std.proofs.lemmas.List.{take_more, take_all}
use Rattle.sector_job.specs.Candidates.{Integral, greatest}

module _ (f : Integral → ℕ) where
  greatest_end : (xs : List Integral) (x : Integral) → greatest f (xs ++ x ∷ []) ≡ max (f x) (greatest f xs)
  greatest_end [] x = refl
  greatest_end (y ∷ xs) x = let e = greatest_end xs x in omega (arith, e)

  pub greatest_more : (xs : List Integral) (i : ℕ) (x : Integral) (most new : ℕ) → i < length xs → x ≡ get_or xs i x → new ≡ max (f x) most
      → most ≡ greatest f (take i xs) → new ≡ greatest f (take (i + 1) xs)
  greatest_more xs i x most new within is e h =
      e ∙ ap (max (f x)) h ∙ sym (greatest_end (take i xs) x) ∙ ap (λ y. greatest f (take i xs ++ y ∷ [])) is ∙ ap (greatest f) (sym (take_more xs i x within))

  pub greatest_whole : (xs : List Integral) (i most : ℕ) → length xs ≤ i → most ≡ greatest f (take i xs) → most ≡ greatest f xs
  greatest_whole xs i most long h = h ∙ ap (greatest f) (take_all i xs long)
